-- What a step of the walk makes of a settling.
use Rattle.std.proofs.Common.{◌≡◌, inl, inr, ℕ, ◌+◌, ◌≤◌, List, [], ◌∷◌, ◌++◌, length, Option, Some, None, refl, sym, ◌∙◌, subst, ap, arith}
use Rattle.std.specs.Prelude.{IsSome, Result, Ok, Err}
use Rattle.std.proofs.lemmas.List.{append-nil}
use Rattle.chain_block.specs.declared.meta_block.MetaBlock.{MetaBlock}
use Rattle.nim_base.specs.declared.no_memory.NoMemory.{NoMemory}
use Rattle.statement.specs.Receipt.{Receipt, receipt_bytes}
use Rattle.port.specs.declared.store_answers.Got.{Got}
use Rattle.port.specs.declared.store_answers.Got.TheVariants as gots
use Rattle.port.specs.Cause.{MemberCause, Cause, cause_of}
use Rattle.port.specs.GoodRow.{IsGoodRow}
use Rattle.port.specs.Row.{Content}
use Rattle.port.specs.Stored.{Stored}
use Rattle.port.specs.Store.{Get, WasGot}
use Rattle.port.specs.Trace.{Event, AtStore, Had}
use Rattle.view_ledger.specs.Receipts.{Accepts}
use Rattle.view_ledger.specs.Views.{newest_tail}
use Rattle.op_parts.specs.declared.attachment.Head.{Head}
use Rattle.op_parts.specs.declared.walk.WalkProgress.{WalkProgress}
use Rattle.op_parts.specs.declared.walk.WalkProgress.TheVariants as walks
use Rattle.op_parts.specs.Attachment.{IsAttached, IsReceiptFor}
use Rattle.op_parts.specs.RoundRefusal.{first_given, above}
use Rattle.op_parts.specs.RoundSound.{Sound as SoundRound}
use Rattle.op_parts.specs.RoundState.{State as Round}
use Rattle.op_parts.specs.Walk.{Walk, Place, IsNextRow, Says as WalkSays, block_tail, head_of}
use Rattle.op_parts.specs.WalkSound.{Walked}
use Rattle.settle.specs.declared.progress.SettleProgress.{SettleProgress}
use Rattle.settle.specs.declared.progress.SettleProgress.TheVariants.{More, Stands, Refused}
use Rattle.settle.specs.Settling.{Settling, members_of, asking as asking_of, start, top_block}
use Rattle.settle.specs.State.{Stage, AtRound, AtWalk, AtEnd}
use Rattle.settle.specs.Sound.{HasFailed, HasWalked, HasLooked, HasReachedTop, IsAsking, HasEnded, IsAt, got_at}
use Rattle.settle.specs.Says.{IsRowGiven, IsReceiptGiven, IsSettled, IsRefused, cause_at}
use Rattle.settle.specs.Turn.{StandsBy, TakesTop, TakesWalk}
use Rattle.settle.proofs.Lists.{older, all_and, last_pushed, last_at, some_last, links_push, longer}
use Rattle.settle.proofs.LowerLaws.{Laws}
use Rattle.settle.proofs.Tops.{IsTop, walked_top, no_blocks, given_row, has_walked_rows}
use Rattle.settle.proofs.Unsettled.{unsettled}
use Rattle.settle.proofs.Asking.{Led, led_by, says_lack}

-- the bytes of a receipt that is attached
attached_bytes : (accepts : Accepts) (settling : Settling) (head : Head) (attached : Option (List ℕ)) (receipt : Receipt)
    → IsAttached accepts settling.configs head attached receipt → (attached ≡ Some (receipt_bytes receipt)) × IsReceiptFor accepts settling.configs head receipt
attached_bytes accepts settling head None receipt is = absurd is
attached_bytes accepts settling head (Some bytes) receipt is = (ap (λ (b : List ℕ). Some b) is.0.1, is.1)

module _ (laws : Laws) (accepts : Accepts) (settling : Settling) (views : 1 ≤ length settling.configs) where
  module _ (causes : List (ℕ × MemberCause)) (from : Place) (past : List Event) (so_far : HasWalked accepts settling causes from past) (got : Got) where
    abbrev event : Event
    event = got_at settling from.height got

    abbrev whole : List Event
    whole = event ∷ past

    looked : HasLooked accepts settling causes from got whole
    looked = (past, refl, so_far)

    ended : HasEnded accepts settling whole
    ended = inr (inl (causes, from, got, looked))

    from_top : IsTop settling from
    from_top = walked_top laws accepts settling causes from past so_far

    -- the walk goes on
    goes : (to : Place) → WalkSays accepts settling.configs settling.handle from got to (Ok walks.More) → HasWalked accepts settling causes to whole
    goes to says = record {
      walk = event ∷ so_far.walk;
      first = so_far.first;
      split = ap (λ (p : List Event). event ∷ p) so_far.split;
      failed = so_far.failed;
      further = so_far.further;
      walked = (from, so_far.walked, refl, says);
    }

    -- the row above has a receipt
    settled : (receipt : Receipt) (stored : Stored) (row : Content) → got ≡ gots.Some stored → IsNextRow settling.handle from stored row
        → IsAttached accepts settling.configs (head_of settling.handle from row.metablock) stored.attached receipt
        → IsSettled accepts settling whole (from.blocks ++ row.metablock ∷ []) receipt
    settled receipt stored row gave next attached =
        let block : MetaBlock = row.metablock in
        let had : Had whole (got_at settling from.height (gots.Some stored)) = inl (ap (λ (g : Got). got_at settling from.height g) gave) in
        let is = attached_bytes accepts settling (head_of settling.handle from block) stored.attached receipt attached in
        let at : block.height ≡ from.height = next.good.at.block_height in
        let count : from.height + 1 ≡ settling.block.height + 1 + length (from.blocks ++ block ∷ []) =
        omega (arith, from_top.height, longer from.blocks block) in
        record {
          tail = block_tail block;
          links = links_push from.blocks block (block_tail settling.block) from.tail (settling.block.height + 1) from_top.links next.links (at ∙ from_top.height);
          rows = all_and (IsRowGiven settling whole) from.blocks block (has_walked_rows laws accepts settling whole causes from past (older event past) so_far)
              (given_row laws accepts settling whole from stored row had next.good);
          accepted = subst (λ (n : ℕ). IsReceiptFor accepts settling.configs (record { handle = settling.handle; tail = block_tail block; count = n }) receipt) count is.1;
          shown = inl (subst (λ (b : MetaBlock). IsReceiptGiven settling whole b receipt) (sym (last_pushed settling.block from.blocks block)) (
            stored,
            row,
            subst (λ (h : ℕ). Had whole (got_at settling h (gots.Some stored))) (sym at) had,
            subst (λ (h : ℕ). IsGoodRow settling.handle h stored.body row) (sym at) next.good,
            refl,
            is.0,
          ));
          last = inr (causes, from, stored, (past, ap (λ (g : Got). got_at settling from.height g ∷ past) gave, so_far));
        }

    by_receipt : (receipt : Receipt) (to : Place) → WalkSays accepts settling.configs settling.handle from got to (Ok (walks.Stands receipt))
        → (stage : Stage) (answer : Result SettleProgress NoMemory) → StandsBy to.blocks receipt stage answer → Led accepts settling whole stage answer
    by_receipt receipt to (stored, row, gave, next, attached, goes_to) stage answer (chain, at, says, is) =
        led_by accepts settling whole AtEnd stage (Ok (Stands chain receipt)) answer at says (
          ended,
          subst (λ (l : List MetaBlock). IsSettled accepts settling whole l receipt) (sym (is ∙ ap (λ (p : Place). p.blocks) goes_to))
              (settled receipt stored row gave next attached),
        )

    module _ (gave : got ≡ gots.None) where
      none_now : event ≡ got_at settling from.height gots.None
      none_now = ap (λ (g : Got). got_at settling from.height g) gave

      at_top : (place : Place) → place ≡ from → HasLooked accepts settling causes place gots.None whole
      at_top place is = subst (λ (p : Place). HasLooked accepts settling causes p gots.None whole) (sym is)
          (past, ap (λ (e : Event). e ∷ past) none_now, so_far)

      walked_nothing : (events : List Event) (place : Place) → Walked accepts settling.configs settling.handle (start settling) events place → place.blocks ≡ [] → events ≡ []
      walked_nothing [] place walked none = refl
      walked_nothing (AtStore (Get key) (WasGot g) ∷ rest) place (before, walked, at, (stored, row, given, next, bare, to)) none =
          let more : length (before.blocks ++ row.metablock ∷ []) ≡ length before.blocks + 1 = longer before.blocks row.metablock in
          let blocks : place.blocks ≡ before.blocks ++ row.metablock ∷ [] = ap (λ (p : Place). p.blocks) to in
          let zero_of : length (before.blocks ++ row.metablock ∷ []) ≡ 0 = ap (λ (l : List MetaBlock). length l) (sym blocks ∙ none) in
          absurd (omega (arith, more, zero_of))
      walked_nothing (first ∷ rest) place walked none = absurd walked

      -- no row stands above the one that is settled
      refusing : from.blocks ≡ [] → (cause : Cause) → cause ≡ cause_at settling.configs from.height causes → IsRefused accepts settling whole cause
      refusing none cause is =
          let begins : from ≡ start settling = no_blocks settling from from_top none in
          let nothing : so_far.walk ≡ [] = walked_nothing so_far.walk from so_far.walked none in
          let first : past ≡ so_far.first = so_far.split ∙ ap (λ (w : List Event). w ++ so_far.first) nothing in
          let failed : HasFailed accepts settling (top_block settling from) causes so_far.first =
          subst (λ (p : Place). HasFailed accepts settling (top_block settling p) causes so_far.first) (sym begins) so_far.failed in
          let further : IsSome (first_given (above from.height) causes) = subst (λ (p : Place). IsSome (first_given (above p.height) causes)) (sym begins) so_far.further in
          let last : whole ≡ got_at settling from.height gots.None ∷ (so_far.first ++ []) =
          ap (λ (e : Event). e ∷ past) none_now ∙ ap (λ (p : List Event). got_at settling from.height gots.None ∷ p) (first ∙ sym (append-nil so_far.first)) in
          inr (inr (unsettled laws accepts settling views from causes whole so_far.first [] failed (inl (begins, refl)) (inr (last, begins, further))
          (λ e had. inr (subst (λ (p : List Event). Had p e) (sym first) had)) (λ _. inl none_now) cause is))

      by_top : (to : Place) → to ≡ from → (handle : List ℕ) → handle ≡ settling.handle → (stage : Stage) (answer : Result SettleProgress NoMemory)
          → TakesTop settling.configs handle to causes stage answer → Led accepts settling whole stage answer
      by_top to is handle same stage answer (inl refused) =
          led_by accepts settling whole AtEnd stage (Ok (Refused refused.1.0)) answer refused.1.1.0 refused.1.1.1 (
            ended,
            refusing (ap (λ (p : Place). p.blocks) (sym is) ∙ refused.0) (cause_of refused.1.0) (refused.1.2 ∙ ap (λ (p : Place). cause_at settling.configs p.height causes) is),
          )
      by_top to is handle same stage answer (inr begins) =
          let block : MetaBlock = begins.0 in
          let round : Round = begins.1 in
          let at : top_block settling to ≡ block = last_at settling.block to.blocks block begins.2 in
          let reached : HasReachedTop accepts settling to whole = record { some = some_last to.blocks block begins.2; causes = causes; looked = at_top to is } in
          let asking : IsAsking accepts settling round to whole = record {
            calls = [];
            before = whole;
            split = refl;
            sound = subst (λ (b : MetaBlock). SoundRound accepts (asking_of settling b) round []) (sym at)
                (subst (λ (h : List ℕ). SoundRound accepts (record { handle = h; block = block; view = newest_tail settling.configs; members = members_of settling }) round []) same
                (begins.3.sound accepts (newest_tail settling.configs) (members_of settling)));
            began = inr reached;
          } in
          led_by accepts settling whole (AtRound round to) stage (Ok More) answer begins.4.0 begins.4.1 (asking, tt)

    -- a step of a walk
    pub by_walk : (after : Walk) → after.handle ≡ settling.handle → (handle : List ℕ) → handle ≡ settling.handle → (progress : Result WalkProgress NoMemory)
        → WalkSays accepts settling.configs settling.handle from got after.place progress → (stage : Stage) (answer : Result SettleProgress NoMemory)
        → TakesWalk settling.configs handle after causes progress stage answer → Led accepts settling whole stage answer
    by_walk after kept handle same (Ok walks.More) says stage answer takes =
        led_by accepts settling whole (AtWalk after causes) stage (Ok More) answer takes.0 takes.1 ((kept, goes after.place says), tt)
    by_walk after kept handle same (Ok (walks.Stands receipt)) says stage answer takes = by_receipt receipt after.place says stage answer takes
    by_walk after kept handle same (Ok walks.Top) says stage answer takes = by_top says.0 after.place says.1 handle same stage answer takes
    by_walk after kept handle same (Ok (walks.Refused refusal)) says stage answer takes =
        led_by accepts settling whole AtEnd stage (Ok (Refused refusal)) answer takes.0 takes.1 (ended, inr (inl (causes, from, got, so_far, refl, says.0)))
    by_walk after kept handle same (Err wanted) says stage answer takes =
        (subst (λ (s : Stage). IsAt accepts settling whole s) (sym takes.0) ended, says_lack accepts settling whole answer takes.1 tt)
