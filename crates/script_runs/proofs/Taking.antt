-- Clients that accept what is good by the views that they know.
use Rattle.std.proofs.Common.{◌≡◌, ℕ, List, true, None, Result, Ok, refl, sym, ap, subst, ◌∙◌}
use Rattle.std.specs.Result.{result_err}
use Rattle.chain_block.specs.declared.entry.Entry.{Entry}
use Rattle.chain_block.specs.Entry.{handle_of, height_of}
use Rattle.statement.specs.declared.member.Member.{Member}
use Rattle.statement.specs.Statement.{view_of}
use Rattle.port.specs.Cause.{Cause, Conflict, NoMemory}
use Rattle.port.specs.Reply.{LatestReply}
use Rattle.port.specs.Service.{Refused, Replied, ServiceAnswer, Stood}
use Rattle.view_ledger.specs.Views.{ViewChain}
use Rattle.view_ledger.specs.Receipts.{Accepts}
use Rattle.verifier.specs.declared.reply_fault.ReplyFault.{ReplyFault}
use Rattle.verifier.specs.Outcomes.{append_outcome, at_outcome, is_known, latest_outcome}
use Rattle.client_pass.specs.Act.{Act, Append, Latest, At, Look}
use Rattle.reply_taking.specs.Learning.{NotedAfterViews}
use Rattle.reply_lines.specs.Causes.{payload_of}
use Rattle.reply_lines.specs.Lines.{conflict_line, ok_line}
use Rattle.answer_lines.specs.Taken.{IsQuiet, Printed, Sides, Took, TookAt, TookLatest, TookOwn, latest_line, taken_line}
use Rattle.script_operations.specs.Task.{Height, Newest, Own, Task}
use Rattle.script_operations.specs.Giving.{TookFor}
use Rattle.script_runs.specs.Accepted.{AcceptedAt, AcceptedFor, AcceptedLatest, AcceptedOwn, IsAccepted, JudgedLatest}
use Rattle.script_runs.proofs.Standing.{AtGood, LatestGood, OwnGood}

module _ {S L C : Type 0} (checks : Accepts) (configs : List (List Member)) (sides : Sides S L C) (has : sides.from.chain.configs ≡ configs) where
  -- a check by views that the client knew
  took : {O : Type 0} (label view : List ℕ) (outcome : List (List Member) → O) (act_by : O → Act) (line_by : O → List ℕ) (line : List ℕ) (told : O) → is_known configs view ≡ true → outcome configs ≡ told
      → Took sides view outcome act_by line_by line → IsAccepted sides label (act_by told) (line_by told) line
  took {O} label view outcome act_by line_by line told known is did =
      let quiet = did.known (subst (λ (c : List (List Member)). is_known c view ≡ true) (sym has) known) in
      let views : sides.to.chain.configs ≡ configs = ap (λ (c : ViewChain). c.configs) quiet.1 ∙ has in
      let same : outcome sides.to.chain.configs ≡ told = ap outcome views ∙ is in
      record {
        quiet = quiet;
        noted = subst (λ (o : O). NotedAfterViews sides.from sides.to (act_by o)) same did.noted;
        printed = did.printed ∙ ap line_by same;
      }

  pub took_own : (label : List ℕ) (entry : Entry) (answer : ServiceAnswer) (line : List ℕ) → OwnGood checks configs entry answer → TookOwn checks sides label entry answer line → AcceptedOwn sides label entry answer line
  took_own label entry (Stood standing) line good (draw, drawn, own) =
      (draw, drawn, took label (view_of standing.receipt.statement) (λ c. append_outcome checks c entry standing) (Append draw standing) (taken_line (ok_line label (height_of entry) (payload_of entry))) line None good.0 good.1 own)
  took_own label entry (Refused (Conflict standing)) line good own =
      took label (view_of standing.receipt.statement) (λ c. at_outcome checks c (handle_of entry) (height_of entry) standing) (Look (handle_of entry) (height_of entry) standing)
      (taken_line (conflict_line label (height_of entry) (payload_of standing.row.entry))) line None good.0 good.1 own
  took_own label entry answer line good own = own

  pub took_at : (label handle : List ℕ) (height : ℕ) (answer : ServiceAnswer) (line : List ℕ) → AtGood checks configs handle height answer → TookAt checks sides label handle height answer line
      → AcceptedAt sides label handle height answer line
  took_at label handle height (Stood standing) line good own =
      took label (view_of standing.receipt.statement) (λ c. at_outcome checks c handle height standing) (At handle height standing) (taken_line (ok_line label height (payload_of standing.row.entry))) line None good.0 good.1 own
  took_at label handle height answer line good own = own

  pub took_latest : (label handle nonce : List ℕ) (answer : ServiceAnswer) (line : List ℕ) → LatestGood checks configs handle nonce answer → TookLatest checks sides label handle nonce answer line
      → AcceptedLatest sides label handle nonce answer line
  took_latest label handle nonce (Replied reply) line (known, (count, is)) (draw, drawn, own) =
      (draw, drawn, took label (view_of reply.receipt.statement) (λ c. latest_outcome checks c handle nonce reply) (λ (told : Result ℕ ReplyFault). Latest draw handle reply (result_err told)) (latest_line label reply.row) line (Ok count) known is own)
  took_latest label handle nonce answer line good own = own

  -- a reply that may be any, of a view that the client knew
  pub took_judged : (label handle nonce : List ℕ) (reply : LatestReply) (line : List ℕ) → is_known configs (view_of reply.receipt.statement) ≡ true → TookLatest checks sides label handle nonce (Replied reply) line
      → JudgedLatest sides label checks configs handle nonce reply line
  took_judged label handle nonce reply line known (draw, drawn, own) = (
    draw,
    drawn,
    took label (view_of reply.receipt.statement) (λ c. latest_outcome checks c handle nonce reply) (λ (told : Result ℕ ReplyFault). Latest draw handle reply (result_err told)) (latest_line label reply.row) line
        (latest_outcome checks configs handle nonce reply) known refl own,
  )

-- where all was accepted nothing was asked on the way
module _ {S L C : Type 0} (sides : Sides S L C) (label : List ℕ) where
  printed_quiet : (cause : Cause) (line : List ℕ) → Printed sides label cause line → IsQuiet sides
  printed_quiet NoMemory line printed = absurd printed
  printed_quiet cause line printed = printed.0

  pub own_quiet : (entry : Entry) (answer : ServiceAnswer) (line : List ℕ) → AcceptedOwn sides label entry answer line → IsQuiet sides
  own_quiet entry (Stood standing) line (draw, drawn, is) = is.quiet
  own_quiet entry (Refused (Conflict standing)) line is = is.quiet
  own_quiet entry (Refused cause) line is = printed_quiet cause line is
  own_quiet entry answer line is = absurd is

  pub at_quiet : (handle : List ℕ) (height : ℕ) (answer : ServiceAnswer) (line : List ℕ) → AcceptedAt sides label handle height answer line → IsQuiet sides
  at_quiet handle height (Stood standing) line is = is.quiet
  at_quiet handle height (Refused cause) line is = printed_quiet cause line is
  at_quiet handle height answer line is = absurd is

  pub latest_quiet : (handle nonce : List ℕ) (answer : ServiceAnswer) (line : List ℕ) → AcceptedLatest sides label handle nonce answer line → IsQuiet sides
  latest_quiet handle nonce (Replied reply) line (draw, drawn, is) = is.quiet
  latest_quiet handle nonce (Refused cause) line is = printed_quiet cause line is
  latest_quiet handle nonce answer line is = absurd is

  pub for_quiet : (task : Task) (answer : ServiceAnswer) (line : List ℕ) → AcceptedFor sides label task answer line → IsQuiet sides
  for_quiet (Own client draw entry) answer line is = own_quiet entry answer line is
  for_quiet (Newest client draw handle nonce) answer line is = latest_quiet handle nonce answer line is
  for_quiet (Height client handle height) answer line is = at_quiet handle height answer line is

-- an answer that is good for a task
abbrev pub GoodFor : Accepts → List (List Member) → Task → ServiceAnswer → Type 0
GoodFor checks configs (Own client draw entry) answer = OwnGood checks configs entry answer
GoodFor checks configs (Newest client draw handle nonce) answer = LatestGood checks configs handle nonce answer
GoodFor checks configs (Height client handle height) answer = AtGood checks configs handle height answer

pub took_for : {S L C : Type 0} (checks : Accepts) (configs : List (List Member)) (task : Task) (label : List ℕ) (answer : ServiceAnswer) (line : List ℕ) (sides : Sides S L C) → sides.from.chain.configs ≡ configs
    → GoodFor checks configs task answer → TookFor checks task label answer line sides → AcceptedFor sides label task answer line
took_for checks configs (Own client draw entry) label answer line sides has good own = took_own checks configs sides has label entry answer line good own
took_for checks configs (Newest client draw handle nonce) label answer line sides has good own = took_latest checks configs sides has label handle nonce answer line good own
took_for checks configs (Height client handle height) label answer line sides has good own = took_at checks configs sides has label handle height answer line good own
