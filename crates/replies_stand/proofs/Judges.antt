-- What clients with the same views, fewer and more make of a reply.
use Rattle.std.proofs.Common.{◌≡◌, ℕ, ◌+◌, List, length, true, false, Option, Some, None, Result, Ok, Err, inl, inr, refl, sym, ap, subst, ◌∙◌}
use Rattle.std.specs.Prelude.{◌↔◌, is_some, IsOk}
use Rattle.std.specs.Result.{result_err}
use Rattle.std.proofs.lemmas.Bool.{cases_Bool}
use Rattle.chain_block.specs.declared.entry.Entry.{Entry}
use Rattle.chain_block.specs.Entry.{handle_of, height_of}
use Rattle.statement.specs.declared.member.Member.{Member}
use Rattle.statement.specs.declared.statement.Statement.{Statement}
use Rattle.statement.specs.declared.statement.Statement.TheVariants.{Held, Latest}
use Rattle.statement.specs.Statement.{view_of}
use Rattle.statement.specs.Receipt.{Receipt}
use Rattle.port.specs.Reply.{Standing, LatestReply}
use Rattle.view_ledger.specs.Receipts.{Accepts}
use Rattle.verifier.specs.declared.reply_fault.ReplyFault.{ReplyFault}
use Rattle.verifier.specs.declared.reply_fault.ReplyFault.TheVariants.{UnknownView}
use Rattle.verifier.specs.Fronts.{AreFirstOf, HaveOwnTails}
use Rattle.verifier.specs.Outcomes.{is_known, append_outcome, at_outcome, latest_outcome}
use Rattle.verifier.specs.Yes.{IsAcceptedInSome, Stands, IsLatest}
use Rattle.replies_stand.specs.Judging.{unknown_view}
use Rattle.replies_stand.proofs.Standings.{StandsFor}

-- what the outcomes mean
pub record Means : Type 0 where
  pub append : (accepts : Accepts) (configs : List (List Member)) (entry : Entry) (reply : Standing) → (append_outcome accepts configs entry reply ≡ None) ↔ StandsFor accepts configs entry reply
  pub at : (accepts : Accepts) (configs : List (List Member)) (handle : List ℕ) (height : ℕ) (reply : Standing) → (at_outcome accepts configs handle height reply ≡ None) ↔ Stands accepts configs handle height reply
  pub latest : (accepts : Accepts) (configs : List (List Member)) (handle nonce : List ℕ) (count : ℕ) (reply : LatestReply)
      → (latest_outcome accepts configs handle nonce reply ≡ Ok count) ↔ IsLatest accepts configs handle nonce count reply

-- the view of the receipt is known under the front of a chain
abbrev pub Knows : List (List Member) → List (List Member) → Receipt → Type 0
Knows front configs receipt = AreFirstOf front configs × HaveOwnTails configs × (is_known front (view_of receipt.statement) ≡ true)

-- how clients with fewer views judge
pub record Fronts : Type 0 where
  pub append : (accepts : Accepts) (front configs : List (List Member)) (entry : Entry) (reply : Standing) → AreFirstOf front configs → HaveOwnTails configs
      → is_known front (view_of reply.receipt.statement) ≡ true → append_outcome accepts front entry reply ≡ append_outcome accepts configs entry reply
  pub at : (accepts : Accepts) (front configs : List (List Member)) (handle : List ℕ) (height : ℕ) (reply : Standing) → AreFirstOf front configs → HaveOwnTails configs
      → is_known front (view_of reply.receipt.statement) ≡ true → at_outcome accepts front handle height reply ≡ at_outcome accepts configs handle height reply
  pub latest : (accepts : Accepts) (front configs : List (List Member)) (handle nonce : List ℕ) (reply : LatestReply) → AreFirstOf front configs → HaveOwnTails configs
      → is_known front (view_of reply.receipt.statement) ≡ true → latest_outcome accepts front handle nonce reply ≡ latest_outcome accepts configs handle nonce reply
  pub append_unknown : (accepts : Accepts) (front : List (List Member)) (entry : Entry) (reply : Standing) (view handle tail : List ℕ) (count : ℕ)
      → reply.receipt.statement ≡ Held view handle tail count → is_known front view ≡ false → append_outcome accepts front entry reply ≡ Some UnknownView
  pub at_unknown : (accepts : Accepts) (front : List (List Member)) (asked : List ℕ) (height : ℕ) (reply : Standing) (view handle tail : List ℕ) (count : ℕ)
      → reply.receipt.statement ≡ Held view handle tail count → is_known front view ≡ false → at_outcome accepts front asked height reply ≡ Some UnknownView
  pub latest_unknown : (accepts : Accepts) (front : List (List Member)) (asked asked_nonce : List ℕ) (reply : LatestReply) (view handle tail nonce : List ℕ) (count : ℕ)
      → reply.receipt.statement ≡ Latest view handle tail count nonce → is_known front view ≡ false → latest_outcome accepts front asked asked_nonce reply ≡ Err UnknownView

pub ok_of : (outcome : Result ℕ ReplyFault) (count : ℕ) → outcome ≡ Ok count → IsOk outcome
ok_of outcome count is = subst (λ (o : Result ℕ ReplyFault). IsOk o) (sym is) refl

known_to : (accepts : Accepts) (configs : List (List Member)) (receipt : Receipt) → IsAcceptedInSome accepts configs receipt → is_known configs (view_of receipt.statement) ≡ true
known_to accepts configs receipt is = ap (λ (n : Option ℕ). is_some n) is.1.0

by_view : (front : List (List Member)) (receipt : Receipt) (outcome : Option ReplyFault) → (is_known front (view_of receipt.statement) ≡ true → outcome ≡ None)
    → (is_known front (view_of receipt.statement) ≡ false → outcome ≡ Some UnknownView) → outcome ≡ unknown_view front receipt
by_view front receipt outcome known strange =
    elim (cases_Bool (is_known front (view_of receipt.statement))) [
      | inl is ↦ rw is (known is)
      | inr is ↦ rw is (strange is)
    ]

module _ (means : Means) (fronts : Fronts) (accepts : Accepts) (configs front : List (List Member)) (first : AreFirstOf front configs) (own : HaveOwnTails configs) where
  strange_view : (statement : Statement) (view : List ℕ) → view_of statement ≡ view → is_known front (view_of statement) ≡ false → is_known front view ≡ false
  strange_view statement view is strange = subst (λ (v : List ℕ). is_known front v ≡ false) is strange

  pub append_behind : (entry : Entry) (reply : Standing) → StandsFor accepts configs entry reply → append_outcome accepts front entry reply ≡ unknown_view front reply.receipt
  append_behind entry reply is =
      let s = is.0 in
      by_view front reply.receipt (append_outcome accepts front entry reply)
      (λ known. fronts.append accepts front configs entry reply first own known ∙ (means.append accepts configs entry reply).1 is)
      (λ strange. fronts.append_unknown accepts front entry reply s.view (handle_of entry) s.tail (height_of entry + 1 + length reply.chain) s.says (strange_view reply.receipt.statement s.view (ap view_of s.says) strange))

  pub at_behind : (handle : List ℕ) (height : ℕ) (reply : Standing) → Stands accepts configs handle height reply → at_outcome accepts front handle height reply ≡ unknown_view front reply.receipt
  at_behind handle height reply s =
      by_view front reply.receipt (at_outcome accepts front handle height reply)
      (λ known. fronts.at accepts front configs handle height reply first own known ∙ (means.at accepts configs handle height reply).1 s)
      (λ strange. fronts.at_unknown accepts front handle height reply s.view handle s.tail (height + 1 + length reply.chain) s.says (strange_view reply.receipt.statement s.view (ap view_of s.says) strange))

  pub latest_behind : (handle nonce : List ℕ) (count : ℕ) (reply : LatestReply) → IsLatest accepts configs handle nonce count reply
      → result_err (latest_outcome accepts front handle nonce reply) ≡ unknown_view front reply.receipt
  latest_behind handle nonce count reply s =
      by_view front reply.receipt (result_err (latest_outcome accepts front handle nonce reply))
      (λ known. ap (λ (r : Result ℕ ReplyFault). result_err r) (fronts.latest accepts front configs handle nonce reply first own known ∙ (means.latest accepts configs handle nonce count reply).1 s))
      (λ strange. ap (λ (r : Result ℕ ReplyFault). result_err r) (fronts.latest_unknown accepts front handle nonce reply s.view handle s.tail nonce count s.says (strange_view reply.receipt.statement s.view (ap view_of s.says) strange)))

-- where the reply is accepted under the front
module _ (means : Means) (fronts : Fronts) (accepts : Accepts) (front configs : List (List Member)) (first : AreFirstOf front configs) (own : HaveOwnTails configs) where
  pub append_ahead : (entry : Entry) (reply : Standing) → StandsFor accepts front entry reply → append_outcome accepts configs entry reply ≡ None
  append_ahead entry reply is = sym (fronts.append accepts front configs entry reply first own (known_to accepts front reply.receipt is.0.accepted)) ∙ (means.append accepts front entry reply).1 is

  pub at_ahead : (handle : List ℕ) (height : ℕ) (reply : Standing) → Stands accepts front handle height reply → at_outcome accepts configs handle height reply ≡ None
  at_ahead handle height reply s = sym (fronts.at accepts front configs handle height reply first own (known_to accepts front reply.receipt s.accepted)) ∙ (means.at accepts front handle height reply).1 s

  pub latest_ahead : (handle nonce : List ℕ) (count : ℕ) (reply : LatestReply) → IsLatest accepts front handle nonce count reply → IsOk (latest_outcome accepts configs handle nonce reply)
  latest_ahead handle nonce count reply s =
      ok_of (latest_outcome accepts configs handle nonce reply) count
      (sym (fronts.latest accepts front configs handle nonce reply first own (known_to accepts front reply.receipt s.accepted)) ∙ (means.latest accepts front handle nonce count reply).1 s)
