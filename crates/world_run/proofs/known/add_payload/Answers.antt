use Rattle.std.proofs.Common.{rules, ◌∙◌, sym, ap, map, ◌++◌, ◌∷◌, [], true, false, List, ℕ}
use Rattle.std.specs.Prelude.{◌==◌}
use Rattle.std.proofs.lemmas.List.{map_push, length-map}
use Rattle.fault_script.specs.Seen.{request_of}
use Rattle.world_run.specs.Plain.{after_request}
use Rattle.world_run.proofs.Payloads.{payloads_more}
use Rattle.world_run.proofs.known.add_payload.Goals as goal
use Rattle.world_run.proofs.known.add_payload.Goals.{else-eq-2-via-then-eq-2+else-height-len, else-eq-2-via-else-eq-2}

pub returns-in_ok-push-in-Append : goal.returns-in_ok-push-in-Append
returns-in_ok-push-in-Append c = λ known tied.
    ap (map (λ payload. payload.now)) c.in_ok-push-in-Append.ensures.items
    ∙ map_push (λ payload. payload.now) c.args.payloads.now.items _
    ∙ ap (λ (p : List ℕ). map (λ payload. payload.now) c.args.payloads.now.items ++ p ∷ []) c.bytes-then-height-len.ensures
    ∙ payloads_more known c.in-Append.client.bytes c.in-Append.own.bytes c.args.label.now c.in-Append.payload.bytes c.in-Append.height _ tied true true (search rules)
    (λ is. ap (λ n. c.in-Append.height == n) (length-map c.args.payloads.now.items (λ payload. payload.now)) ∙ search rules)
    ∙ sym (ap (λ act. (after_request known (request_of act)).ledgers c.args.label.now) c.in-Append.is)

pub returns-else-eq-2 : goal.returns-else-eq-2
returns-else-eq-2 c = λ known tied. elim c.else-eq-2.branch [
  | else-eq-2-via-then-eq-2+else-height-len w ↦
      payloads_more known c.in-Append.client.bytes c.in-Append.own.bytes c.args.label.now c.in-Append.payload.bytes c.in-Append.height _ tied true false (search rules)
      (λ is. ap (λ n. c.in-Append.height == n) (length-map c.args.payloads.now.items (λ payload. payload.now)) ∙ search rules)
      ∙ sym (ap (λ act. (after_request known (request_of act)).ledgers c.args.label.now) c.in-Append.is)
  | else-eq-2-via-else-eq-2 w ↦
      payloads_more known c.in-Append.client.bytes c.in-Append.own.bytes c.args.label.now c.in-Append.payload.bytes c.in-Append.height _ tied false false (search rules) (λ never. absurd (search rules))
      ∙ sym (ap (λ act. (after_request known (request_of act)).ledgers c.args.label.now) c.in-Append.is)
]
