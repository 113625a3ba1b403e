-- What an active member answers to an append of the next row, and to a read of the newest.
use Rattle.std.proofs.Common.{◌≡◌, ℕ, ◌+◌, true, List, refl, subst, ap, ◌∙◌, arith}
use Rattle.chain_block.specs.declared.meta_block.MetaBlock.{MetaBlock}
use Rattle.tail_map.specs.declared.tail_row.TailRow.{TailRow}
use Rattle.tail_map.specs.TailMap.{get, set}
use Rattle.statement.specs.declared.member.Member.{Member}
use Rattle.statement.specs.declared.statement.Statement.{Statement}
use Rattle.statement.specs.declared.view_block.ViewBlock.{ViewBlock}
use Rattle.statement.specs.Statement.{statement_bytes}
use Rattle.port.specs.Answer.{Full, Signed, Refused}
use Rattle.port.specs.Call.{Call, Latest}
use Rattle.port.specs.Heard.{Heard, Answered}
use Rattle.port.specs.Link.{Bank}
use Rattle.port.specs.Table.{View, State, Active, Cell, cell}
use Rattle.catch_up.specs.OwnCalls.{append_of}
use Rattle.calm.specs.Members.{Signs, WentOn}
use Rattle.calm.specs.Answering.{DidSign, held_with, read_of}
use Rattle.calm.specs.Appending.{IsNext, HasRoom, IsFull, row_of}
use Rattle.calm.proofs.TableRows.{signs_next, refuses_next}
use Rattle.calm.proofs.OneAnswer.{Asked, Went, went, goes_on, BySigning, by_signing, Unsigned, unsigned}

module _ (signs : Signs) (bank after : Bank) (view : ViewBlock) (config : List Member) (rows : List TailRow) (left : ℕ) (member : Member) where
  -- what it holds of its view
  abbrev own : List ℕ → View
  own first = record { block = view; config = config; first = first; map = rows }

  abbrev Gone : Call → Heard → Type 0
  Gone call heard = Went signs bank view config rows (left + 1) member call heard after

  -- the table's cell for it
  cell_of : (call : Call) (heard : Heard) (z : Cell) (w : Gone call heard) → cell w.able.told.me (Active (own w.able.first)) call ≡ z → cell w.able.told.me w.able.told.state call ≡ z
  cell_of call heard z w is = ap (λ (s : State). cell w.able.told.me s call) w.able.active ∙ is

  -- it signed the statement that the table asks for
  did_sign : (call : Call) (heard : Heard) (statement : Statement) (state : List ℕ → State) (w : Gone call heard)
      → BySigning signs w.able.told call w.answer w.new w.goes statement state (λ sig. Signed statement sig) → DidSign signs member statement heard
  did_sign call heard statement state w by = record {
    sig = by.sig;
    answered = w.heard_is ∙ ap Answered by.answer_is;
    signed = subst (λ (m : Member). signs m.key (statement_bytes statement) by.sig ≡ true) w.able.me by.signed;
  }

  module _ (handle : List ℕ) (block : MetaBlock) (heard : Heard) (was : Asked signs bank view config rows (left + 1) member (append_of handle block) heard after) (next : IsNext rows handle block) where
    gone : Gone (append_of handle block) heard
    gone = went signs bank after view config rows left member (append_of handle block) heard was

    abbrev then : List ℕ → State
    then sig = Active (record { block = view; config = config; first = gone.able.first; map = set rows (row_of handle block) })

    signs_it : HasRoom rows handle
        → BySigning signs gone.able.told (append_of handle block) gone.answer gone.new gone.goes (held_with view handle block) then (λ sig. Signed (held_with view handle block) sig)
    signs_it room =
        by_signing signs gone.able.told (append_of handle block) gone.answer gone.new gone.goes (held_with view handle block) then (λ sig. Signed (held_with view handle block) sig)
        (cell_of (append_of handle block) heard _ gone (signs_next gone.able.told.me (own gone.able.first) handle block next room))
        (let some = gone.able.signatures in omega (arith, some))

    pub append_signs : HasRoom rows handle → DidSign signs member (held_with view handle block) heard
    append_signs room = did_sign (append_of handle block) heard (held_with view handle block) then gone (signs_it room)

    pub append_holds : HasRoom rows handle → WentOn bank view config (set rows (row_of handle block)) left member after
    append_holds room =
        let by = signs_it room in
        let some = gone.able.signatures in
        let less = by.left in
        goes_on signs bank after view config rows left member (append_of handle block) heard (set rows (row_of handle block)) gone.able.first gone by.state_is (omega (arith, some, less))

    refuses_it : IsFull rows handle → Unsigned signs gone.able.told (append_of handle block) gone.answer gone.new gone.goes (Active (own gone.able.first)) (Refused Full)
    refuses_it full =
        unsigned signs gone.able.told (append_of handle block) gone.answer gone.new gone.goes (Active (own gone.able.first)) (Refused Full)
        (cell_of (append_of handle block) heard _ gone (refuses_next gone.able.told.me (own gone.able.first) handle block next full))

    pub append_refused : IsFull rows handle → heard ≡ Answered (Refused Full)
    append_refused full = gone.heard_is ∙ ap Answered (refuses_it full).answer_is

    pub append_full : IsFull rows handle → WentOn bank view config rows left member after
    append_full full =
        let by = refuses_it full in
        let some = gone.able.signatures in
        let less = by.left in
        goes_on signs bank after view config rows left member (append_of handle block) heard rows gone.able.first gone by.state_is (omega (arith, some, less))

  module _ (handle nonce : List ℕ) (heard : Heard) (was : Asked signs bank view config rows (left + 1) member (Latest handle nonce) heard after) where
    read : Gone (Latest handle nonce) heard
    read = went signs bank after view config rows left member (Latest handle nonce) heard was

    signs_read : BySigning signs read.able.told (Latest handle nonce) read.answer read.new read.goes (read_of view handle nonce (get rows handle)) (λ sig. Active (own read.able.first)) (λ sig. Signed (read_of view handle nonce (get rows handle)) sig)
    signs_read =
        by_signing signs read.able.told (Latest handle nonce) read.answer read.new read.goes (read_of view handle nonce (get rows handle)) (λ sig. Active (own read.able.first)) (λ sig. Signed (read_of view handle nonce (get rows handle)) sig)
        (cell_of (Latest handle nonce) heard _ read refl)
        (let some = read.able.signatures in omega (arith, some))

    pub latest_signs : DidSign signs member (read_of view handle nonce (get rows handle)) heard
    latest_signs = did_sign (Latest handle nonce) heard (read_of view handle nonce (get rows handle)) (λ sig. Active (own read.able.first)) read signs_read

    pub latest_same : WentOn bank view config rows left member after
    latest_same =
        let some = read.able.signatures in
        let less = signs_read.left in
        goes_on signs bank after view config rows left member (Latest handle nonce) heard rows read.able.first read signs_read.state_is (omega (arith, some, less))
