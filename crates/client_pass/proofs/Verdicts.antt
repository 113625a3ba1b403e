-- What the verifier's answers say of lines.
use Rattle.std.proofs.Common.{◌≡◌, ℕ, List, get_or, Option, Some, None, IfNone, IsOk, Result, Ok, Err, refl, sym, ap, subst, ◌∙◌}
use Rattle.std.specs.Result.{result_err}
use Rattle.std.proofs.lemmas.Option.{get_or_from_slice_get}
use Rattle.chain_block.specs.declared.entry.Entry.{Entry}
use Rattle.chain_block.specs.declared.entry.Entry.TheVariants.{Genesis, Later}
use Rattle.chain_block.specs.Entry.{bare}
use Rattle.statement.specs.declared.member.Member.{Member}
use Rattle.port.specs.Reply.{Standing}
use Rattle.port.specs.View.{ViewRow}
use Rattle.view_ledger.specs.declared.view_fault.ViewFault.{ViewFault}
use Rattle.view_ledger.specs.Views.{ViewChain}
use Rattle.view_ledger.specs.Receipts.{Accepts}
use Rattle.view_ledger.specs.Extension.{extended, extend_fault, extend_outcome}
use Rattle.verifier.specs.declared.reply_fault.ReplyFault.{ReplyFault}
use Rattle.verifier.specs.Outcomes.{append_outcome}
use Rattle.std.specs.Option.{option_map_or}
use Rattle.client_pass.specs.Act.{Draw, Line, line}
use Rattle.client_pass.specs.ClientList.{IsForEntry}

by_fault : (fault : Option ViewFault) (chain new : ViewChain) → ◌≡◌ {A = Result ViewChain ViewFault} (option_map_or (λ (f : ViewFault). Err f) fault (Ok chain)) (Ok new) → new ≡ chain
by_fault None chain new e = cc
by_fault (Some fault) chain new e = absurd cc

-- a chain that took a view is the one with that view more
pub took : (accepts : Accepts) (chain new : ViewChain) (next : ViewRow) → extend_outcome accepts chain next ≡ Ok new → new ≡ extended chain next.config
unfolding extend_outcome
took accepts chain new next e = by_fault (extend_fault accepts chain next) (extended chain next.config) new e

-- room behind a payload makes no difference to a check
pub outcome_bare : (accepts : Accepts) (configs : List (List Member)) (own : Entry) (reply : Standing) → append_outcome accepts configs (bare own) reply ≡ append_outcome accepts configs own reply
unfolding append_outcome
outcome_bare accepts configs (Genesis nonce payload) reply = refl
outcome_bare accepts configs (Later handle height nonce payload) reply = refl

-- what a draw is for, read off its line
pub read_entry : (lines : List Line) (draw : ℕ) (got : Line) (nonce : List ℕ) (own entry : Entry) → got ≡ get_or lines draw got → got.act ≡ Draw nonce (Some own) → IsForEntry lines draw entry → entry ≡ own
read_entry lines draw got nonce own entry at act (stamp, nonce', e) =
    let same : got ≡ line stamp (Draw nonce' (Some entry)) = at ∙ get_or_from_slice_get lines draw (line stamp (Draw nonce' (Some entry))) got e in
    let acts : got.act ≡ Draw nonce' (Some entry) = ap (λ (l : Line). l.act) same in
    cc

own_by : (r : Result (Unit {0}) ReplyFault) (P : Type 0) → (IsOk r → P) → IfNone (result_err r) P
own_by (Ok value) P says = says refl
own_by (Err fault) P says = tt

-- where there is no fault, what a yes says
pub own_entry : (r : Result (Unit {0}) ReplyFault) (fault : Option ReplyFault) (P : Type 0) → fault ≡ result_err r → (IsOk r → P) → IfNone fault P
own_entry r fault P e says = subst (λ (o : Option ReplyFault). IfNone o P) (sym e) (own_by r P says)
