use Rattle.std.proofs.Common.{◌++◌, ◌∷◌, [], map, sym, ap, ◌∙◌}
use Rattle.std.proofs.lemmas.List.{map_push}
use Rattle.chain_block.specs.Bytes.{genesis_bytes}
use Rattle.fault_script.specs.Seen.{request_of}
use Rattle.script_world.specs.Nonce.{nonce}
use Rattle.world_run.specs.SetUp.{first_entry_of_request}
use Rattle.world_run.proofs.set_up.push_entry_of_act.Goals as goal

pub returns-in_ok-push : goal.returns-in_ok-push
returns-in_ok-push c =
    let before = map (λ text. text.bytes) c.args.texts.now.items in
    ap (map (λ text. text.bytes)) c.in_ok-push.ensures.items
    ∙ map_push (λ text. text.bytes) c.args.texts.now.items c.in_ok-write.field-0
    ∙ ap (λ text. before ++ text ∷ [])
    (c.in_ok-write.ensures.bytes
    ∙ ap (λ n. genesis_bytes n c.in_ok-of.field-0.bytes) c.nonce.ensures
    ∙ ap (genesis_bytes (nonce c.args.draw)) (c.in_ok-of.ensures.copied ∙ c.bytes.ensures))
    ∙ ap (λ act. before ++ first_entry_of_request c.args.draw (request_of act)) (sym c.in-New.is)
