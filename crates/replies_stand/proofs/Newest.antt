-- What a coordinator says of a newest entry, as a client reads it.
use Rattle.std.proofs.Common.{◌≡◌, ℕ, suc, ◌+◌, ◌-◌, ◌≤◌, List, [], ◌∷◌, length, map, take, true, Bool, if◌then◌else◌, Option, Some, None, Ok, refl, sym, ap, subst, ◌∙◌, arith}
use Rattle.std.specs.Str.{bytes_eq}
use Rattle.std.proofs.Math.Seq.{take-length}
use Rattle.std.proofs.lemmas.Slice.Eq.{bytes_eq-Decides}
use Rattle.statement.specs.declared.member.Member.{Member}
use Rattle.statement.specs.Config.{IsQuorum}
use Rattle.statement.specs.Mark.{id_of}
use Rattle.statement.specs.Receipt.{Receipt}
use Rattle.port.specs.Reply.{LatestReply}
use Rattle.port.specs.Row.{Content}
use Rattle.port.specs.Trace.{Event}
use Rattle.view_ledger.specs.Views.{ViewChain, newest_tail, newest_config, newest_below, number_of, tail_at}
use Rattle.view_ledger.specs.Receipts.{Accepts, IsAccepted, IsAcceptedIn}
use Rattle.op_latest.specs.declared.latest_head.LatestHead.{LatestHead}
use Rattle.op_latest.specs.LatestAsked.{LatestAsk, Asking, asking_of}
use Rattle.op_latest.specs.LatestJudged.{IsHead}
use Rattle.op_latest.specs.LatestSays.{IsNewest as IsNewestGiven}
use Rattle.verifier.specs.Yes.{IsNewest, IsLatest}
use Rattle.coordinator.specs.Latest.{LatestServed}
use Rattle.replies_stand.proofs.Standings.{row_at}

-- no members are a quorum of none
no_quorum : (ids : List ℕ) → IsQuorum [] ids → ⊥
no_quorum [] is = absurd (omega (arith, is.enough))
no_quorum (id ∷ ids) is = absurd (cc (is.members_alone 0 0 (omega arith)))

some_views : (configs : List (List Member)) (ids : List ℕ) → IsQuorum (newest_config configs) ids → 1 ≤ length configs
some_views [] ids is = absurd (no_quorum ids is)
some_views (config ∷ configs) ids is = omega arith

-- the newest view is found by its tail
newest_at : (configs : List (List Member)) (n : ℕ) → n + 1 ≡ length configs → tail_at configs n ≡ newest_tail configs
newest_at configs n is = ap newest_tail (ap (λ (m : ℕ). take m configs) is ∙ take-length configs)

newest_number : (configs : List (List Member)) (n : ℕ) → n + 1 ≡ length configs → number_of configs (newest_tail configs) ≡ Some n
unfolding newest_below
newest_number configs n is =
    let same : bytes_eq (tail_at configs n) (newest_tail configs) ≡ true = (bytes_eq-Decides (tail_at configs n) (newest_tail configs)).1 (newest_at configs n is) in
    let all : length configs ≡ suc n = omega (arith, is) in
    ap (λ (m : ℕ). newest_below configs (newest_tail configs) m) all
    ∙ ap (λ (b : Bool). if b then Some n else newest_below configs (newest_tail configs) n) same

newest_accepts : (accepts : Accepts) (configs : List (List Member)) (receipt : Receipt) → 1 ≤ length configs
    → IsAccepted accepts (newest_config configs) (newest_tail configs) receipt → (number : ℕ) × IsAcceptedIn accepts configs number receipt
newest_accepts accepts configs receipt some accepted =
    let at : length configs - 1 + 1 ≡ length configs = omega (arith, some) in (
      length configs - 1,
      (
        ap (λ (v : List ℕ). number_of configs v) accepted.own_view ∙ newest_number configs (length configs - 1) at,
        subst (λ (v : List ℕ). IsAccepted accepts (newest_config configs) v receipt) (sym (newest_at configs (length configs - 1) at)) accepted,
      ),
    )

newest_row : (ask : Asking) (past : List Event) (head : LatestHead) (row : Option Content) → IsHead head.tail head.count → IsNewestGiven ask past head row → IsNewest ask.claim.handle head.tail head.count row
newest_row ask past head None is none = (none, is none)
newest_row ask past head (Some row) is given =
    let of = given.4 in (of.height, of.below, row_at ask.claim.handle of.height row of.good.at, (of.good.at.block_height, refl, of.agrees))

pub replied : (accepts : Accepts) (ask : LatestAsk) (from chain : ViewChain) (events : List Event) (reply : LatestReply) → LatestServed accepts ask from chain events (Ok reply)
    → (count : ℕ) × IsLatest accepts chain.configs ask.handle ask.nonce count reply
replied accepts ask from chain events reply served =
    let head = served.says.0 in
    let receipted = served.says.1 in (
      head.count,
      record {
        view = newest_tail chain.configs;
        tail = head.tail;
        says = receipted.states;
        accepted = newest_accepts accepts chain.configs reply.receipt (some_views chain.configs (map id_of reply.receipt.marks) receipted.accepted.enough) receipted.accepted;
        newest = newest_row (asking_of ask chain) events head reply.row receipted.head_is served.says.3;
      },
    )
