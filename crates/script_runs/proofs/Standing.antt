-- What an operation says of its answer, as a client reads it that has the operation's views.
use Rattle.std.proofs.Common.{◌≡◌, ◌⊎◌, inl, inr, ℕ, suc, ◌+◌, ◌-◌, ◌≤◌, List, [], ◌∷◌, length, map, take, true, Bool, if◌then◌else◌, Option, Some, None, Result, Ok, Err, refl, sym, ap, subst, ◌∙◌, arith}
use Rattle.std.specs.Prelude.{◌↔◌, is_some}
use Rattle.std.specs.Str.{bytes_eq}
use Rattle.std.proofs.Math.Seq.{take-length}
use Rattle.std.proofs.lemmas.Slice.Eq.{bytes_eq-Decides}
use Rattle.chain_block.specs.declared.entry.Entry.{Entry}
use Rattle.chain_block.specs.declared.entry.Entry.TheVariants.{Genesis, Later}
use Rattle.chain_block.specs.Entry.{bare, handle_of, height_of}
use Rattle.statement.specs.declared.member.Member.{Member}
use Rattle.statement.specs.declared.statement.Statement.{Statement}
use Rattle.statement.specs.declared.statement.Statement.TheVariants.{Held, Latest, Final}
use Rattle.statement.specs.Config.{IsQuorum}
use Rattle.statement.specs.Mark.{id_of}
use Rattle.statement.specs.Receipt.{Receipt}
use Rattle.statement.specs.Statement.{view_of}
use Rattle.port.specs.Cause.{Cause, Conflict}
use Rattle.port.specs.GoodRow.{IsRowAt as IsGoodRowAt}
use Rattle.port.specs.Reply.{LatestReply, Standing}
use Rattle.port.specs.Row.{Content}
use Rattle.port.specs.Service.{Refused, Replied, ServiceAnswer, Stood}
use Rattle.port.specs.Trace.{Event}
use Rattle.view_ledger.specs.Views.{ViewChain, newest_below, newest_config, newest_tail, number_of, tail_at}
use Rattle.view_ledger.specs.Receipts.{Accepts, IsAccepted}
use Rattle.op_parts.specs.declared.attachment.Head.{Head}
use Rattle.op_parts.specs.Attachment.{IsHeld}
use Rattle.op_entry.specs.Ask.{AppendEntry, Ask, NewLedger, ReadAt, ledger_of, place_of}
use Rattle.op_entry.specs.Says.{HasOtherEntry, HasOwnEntry, IsStanding, Says}
use Rattle.op_latest.specs.declared.latest_head.LatestHead.{LatestHead}
use Rattle.op_latest.specs.LatestAsked.{Asking, LatestAsk, asking_of}
use Rattle.op_latest.specs.LatestJudged.{IsHead}
use Rattle.op_latest.specs.LatestSays.{IsNewest as IsNewestGiven, LatestSays}
use Rattle.verifier.specs.Outcomes.{append_outcome, at_outcome, is_known, latest_outcome}
use Rattle.verifier.specs.Yes.{IsAcceptedInSome, IsLatest, IsNewest, IsRowAt, Stands}
use Rattle.coordinator.specs.Calls.{IsUnbegun, OfReply, OfStanding}

-- what the outcomes of checks mean
pub record Means : Type 0 where
  pub append : (accepts : Accepts) (configs : List (List Member)) (entry : Entry) (reply : Standing) → (append_outcome accepts configs entry reply ≡ None)
      ↔ (Stands accepts configs (handle_of entry) (height_of entry) reply × (bare entry ≡ reply.row.entry))
  pub at : (accepts : Accepts) (configs : List (List Member)) (handle : List ℕ) (height : ℕ) (reply : Standing) → (at_outcome accepts configs handle height reply ≡ None) ↔ Stands accepts configs handle height reply
  pub latest : (accepts : Accepts) (configs : List (List Member)) (handle nonce : List ℕ) (count : ℕ) (reply : LatestReply)
      → (latest_outcome accepts configs handle nonce reply ≡ Ok count) ↔ IsLatest accepts configs handle nonce count reply

held_is : (head : Head) (statement : Statement) → IsHeld head statement → statement ≡ Held (view_of statement) head.handle head.tail head.count
held_is head (Held view handle tail count) is =
    ap (λ (h : List ℕ). Held view h tail count) is.0 ∙ ap (λ (t : List ℕ). Held view head.handle t count) is.1 ∙ ap (λ (n : ℕ). Held view head.handle head.tail n) is.2
held_is head (Latest view handle tail count nonce) is = absurd is
held_is head (Final view next map) is = absurd is

row_at : (handle : List ℕ) (height : ℕ) (row : Content) → IsGoodRowAt handle height row → IsRowAt handle height row
row_at handle height row at = record { entry_handle = at.of_ledger; entry_height = at.of_height; height_is = at.block_height; digest = sym at.of_entry }

stands : (accepts : Accepts) (ask : Ask) (configs : List (List Member)) (past : List Event) (standing : Standing) → IsStanding accepts ask configs past standing
    → Stands accepts configs (ledger_of ask) (place_of ask) standing
stands accepts ask configs past standing is =
    record {
      view = view_of standing.receipt.statement;
      tail = is.tail;
      says = held_is (record { handle = ledger_of ask; tail = is.tail; count = place_of ask + 1 + length standing.chain }) standing.receipt.statement is.accepted.0;
      accepted = is.accepted.1;
      row = row_at (ledger_of ask) (place_of ask) standing.row is.at;
      leads = (is.at.block_height, refl, is.links);
    }

-- no members are a quorum of none
no_quorum : (ids : List ℕ) → IsQuorum [] ids → ⊥
no_quorum [] is = absurd (omega (arith, is.enough))
no_quorum (id ∷ ids) is = absurd (cc (is.members_alone 0 0 (omega arith)))

some_views : (configs : List (List Member)) (ids : List ℕ) → IsQuorum (newest_config configs) ids → 1 ≤ length configs
some_views [] ids is = absurd (no_quorum ids is)
some_views (config ∷ configs) ids is = omega arith

-- the newest view is found by its tail
newest_at : (configs : List (List Member)) (n : ℕ) → n + 1 ≡ length configs → tail_at configs n ≡ newest_tail configs
newest_at configs n is = ap newest_tail (ap (λ (m : ℕ). take m configs) is ∙ take-length configs)

newest_number : (configs : List (List Member)) (n : ℕ) → n + 1 ≡ length configs → number_of configs (newest_tail configs) ≡ Some n
unfolding newest_below
newest_number configs n is =
    let same : bytes_eq (tail_at configs n) (newest_tail configs) ≡ true = (bytes_eq-Decides (tail_at configs n) (newest_tail configs)).1 (newest_at configs n is) in
    let all : length configs ≡ suc n = omega (arith, is) in
    ap (λ (m : ℕ). newest_below configs (newest_tail configs) m) all
    ∙ ap (λ (b : Bool). if b then Some n else newest_below configs (newest_tail configs) n) same

-- it is known
pub newest_known : (configs : List (List Member)) (n : ℕ) → n + 1 ≡ length configs → is_known configs (newest_tail configs) ≡ true
newest_known configs n is = ap (λ (number : Option ℕ). is_some number) (newest_number configs n is)

newest_accepts : (accepts : Accepts) (configs : List (List Member)) (receipt : Receipt) → 1 ≤ length configs
    → IsAccepted accepts (newest_config configs) (newest_tail configs) receipt → IsAcceptedInSome accepts configs receipt
newest_accepts accepts configs receipt some accepted =
    let at : length configs - 1 + 1 ≡ length configs = omega (arith, some) in (
      length configs - 1,
      (
        ap (λ (v : List ℕ). number_of configs v) accepted.own_view ∙ newest_number configs (length configs - 1) at,
        subst (λ (v : List ℕ). IsAccepted accepts (newest_config configs) v receipt) (sym (newest_at configs (length configs - 1) at)) accepted,
      ),
    )

newest_row : (ask : Asking) (past : List Event) (head : LatestHead) (row : Option Content) → IsHead head.tail head.count → IsNewestGiven ask past head row → IsNewest ask.claim.handle head.tail head.count row
newest_row ask past head None is none = (none, is none)
newest_row ask past head (Some row) is given =
    let of = given.4 in (of.height, of.below, row_at ask.claim.handle of.height row of.good.at, (of.good.at.block_height, refl, of.agrees))

latest_stands : (accepts : Accepts) (ask : LatestAsk) (chain : ViewChain) (events : List Event) (reply : LatestReply) → LatestSays accepts ask chain events (Ok reply)
    → (count : ℕ) × IsLatest accepts chain.configs ask.handle ask.nonce count reply
latest_stands accepts ask chain events reply says =
    let head = says.0 in
    let receipted = says.1 in (
      head.count,
      record {
        view = newest_tail chain.configs;
        tail = head.tail;
        says = receipted.states;
        accepted = newest_accepts accepts chain.configs reply.receipt (some_views chain.configs (map id_of reply.receipt.marks) receipted.accepted.enough) receipted.accepted;
        newest = newest_row (asking_of ask chain) events head reply.row receipted.head_is says.3;
      },
    )

known_to : (accepts : Accepts) (configs : List (List Member)) (receipt : Receipt) → IsAcceptedInSome accepts configs receipt → is_known configs (view_of receipt.statement) ≡ true
known_to accepts configs receipt is = ap (λ (n : Option ℕ). is_some n) is.1.0

-- A reply to an append of the entry, or what stands in its place, is accepted under these views, and is of one of them.
abbrev pub OwnGood : Accepts → List (List Member) → Entry → ServiceAnswer → Type 0
OwnGood checks configs entry (Stood standing) = (is_known configs (view_of standing.receipt.statement) ≡ true) × (append_outcome checks configs entry standing ≡ None)
OwnGood checks configs entry (Refused (Conflict standing)) =
    (is_known configs (view_of standing.receipt.statement) ≡ true) × (at_outcome checks configs (handle_of entry) (height_of entry) standing ≡ None)
OwnGood checks configs entry answer = Unit {0}

-- the same of a read at a height
abbrev pub AtGood : Accepts → List (List Member) → List ℕ → ℕ → ServiceAnswer → Type 0
AtGood checks configs handle height (Stood standing) = (is_known configs (view_of standing.receipt.statement) ≡ true) × (at_outcome checks configs handle height standing ≡ None)
AtGood checks configs handle height answer = Unit {0}

-- and of a read of the newest row
abbrev pub LatestGood : Accepts → List (List Member) → List ℕ → List ℕ → ServiceAnswer → Type 0
LatestGood checks configs handle nonce (Replied reply) =
    (is_known configs (view_of reply.receipt.statement) ≡ true) × ((count : ℕ) × (latest_outcome checks configs handle nonce reply ≡ Ok count))
LatestGood checks configs handle nonce answer = Unit {0}

-- an operation says so of an answer, or wanted memory before its first call
abbrev pub SaysSo : Accepts → Ask → ViewChain → ViewChain → List Event → Result Standing Cause → Type 0
SaysSo accepts ask from chain events answer = IsUnbegun events answer ⊎ Says accepts ask from chain events answer

-- the entry is that of the ask, with no room behind its payload
abbrev pub AsksFor : Ask → Entry → Type 0
AsksFor (NewLedger own) entry = bare entry ≡ own
AsksFor (AppendEntry own) entry = bare entry ≡ own
AsksFor (ReadAt handle height) entry = ⊥

module _ (means : Means) (accepts : Accepts) (from chain : ViewChain) (events : List Event) where
  stood : (ask : Ask) (standing : Standing) → SaysSo accepts ask from chain events (Ok standing) → IsStanding accepts ask chain.configs events standing × HasOwnEntry ask standing.row
  stood ask standing (inl never) = absurd never
  stood ask standing (inr says) = says

  stood_instead : (ask : Ask) (standing : Standing) → SaysSo accepts ask from chain events (Err (Conflict standing)) → IsStanding accepts ask chain.configs events standing × HasOtherEntry ask standing.row
  stood_instead ask standing (inl never) = absurd never
  stood_instead ask standing (inr says) = says

  with_room : (standing : Standing) (entry : Entry) → Stands accepts chain.configs (handle_of (bare entry)) (height_of (bare entry)) standing → Stands accepts chain.configs (handle_of entry) (height_of entry) standing
  with_room standing (Genesis nonce payload) is = is
  with_room standing (Later handle height nonce payload) is = is

  for_entry : (standing : Standing) (own entry : Entry) → bare entry ≡ own → Stands accepts chain.configs (handle_of own) (height_of own) standing → Stands accepts chain.configs (handle_of entry) (height_of entry) standing
  for_entry standing own entry is at = with_room standing entry (subst (λ (e : Entry). Stands accepts chain.configs (handle_of e) (height_of e) standing) (sym is) at)

  at_entry : (ask : Ask) (standing : Standing) (entry : Entry) → AsksFor ask entry → Stands accepts chain.configs (ledger_of ask) (place_of ask) standing
      → Stands accepts chain.configs (handle_of entry) (height_of entry) standing
  at_entry (NewLedger own) standing entry is at = for_entry standing own entry is at
  at_entry (AppendEntry own) standing entry is at = for_entry standing own entry is at
  at_entry (ReadAt handle height) standing entry is at = absurd is

  has_entry : (ask : Ask) (standing : Standing) (entry : Entry) → AsksFor ask entry → HasOwnEntry ask standing.row → bare entry ≡ standing.row.entry
  has_entry (NewLedger own) standing entry is has = is ∙ sym has
  has_entry (AppendEntry own) standing entry is has = is ∙ sym has
  has_entry (ReadAt handle height) standing entry is has = absurd is

  pub own_good : (ask : Ask) (entry : Entry) (answer : ServiceAnswer) → AsksFor ask entry → OfStanding (SaysSo accepts ask from chain events) answer → OwnGood accepts chain.configs entry answer
  own_good ask entry (Stood standing) is says =
      let s = stood ask standing says in
      let at = at_entry ask standing entry is (stands accepts ask chain.configs events standing s.0) in
      (known_to accepts chain.configs standing.receipt at.accepted, (means.append accepts chain.configs entry standing).1 (at, has_entry ask standing entry is s.1))
  own_good ask entry (Refused (Conflict standing)) is says =
      let s = stood_instead ask standing says in
      let at = at_entry ask standing entry is (stands accepts ask chain.configs events standing s.0) in
      (known_to accepts chain.configs standing.receipt at.accepted, (means.at accepts chain.configs (handle_of entry) (height_of entry) standing).1 at)
  own_good ask entry answer is says = tt

  pub at_good : (handle : List ℕ) (height : ℕ) (answer : ServiceAnswer) → OfStanding (SaysSo accepts (ReadAt handle height) from chain events) answer → AtGood accepts chain.configs handle height answer
  at_good handle height (Stood standing) says =
      let s = stood (ReadAt handle height) standing says in
      let at = stands accepts (ReadAt handle height) chain.configs events standing s.0 in
      (known_to accepts chain.configs standing.receipt at.accepted, (means.at accepts chain.configs handle height standing).1 at)
  at_good handle height answer says = tt

  pub latest_good : (ask : LatestAsk) (answer : ServiceAnswer) → OfReply (LatestSays accepts ask chain events) answer → LatestGood accepts chain.configs ask.handle ask.nonce answer
  latest_good ask (Replied reply) says =
      let s = latest_stands accepts ask chain events reply says in
      (known_to accepts chain.configs reply.receipt s.1.accepted, (s.0, (means.latest accepts chain.configs ask.handle ask.nonce s.0 reply).1 s.1))
  latest_good ask answer says = tt
