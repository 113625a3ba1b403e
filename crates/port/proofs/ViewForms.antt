-- Views have bytes of their own, and show one fault at most.
use Rattle.std.proofs.Common.{◌≡◌, ℕ, List, [], ◌∷◌, ◌++◌, length, refl, sym, ap, subst, ◌∙◌, arith}
use Rattle.std.specs.Int.{w64, to_be_bytes}
use Rattle.std.proofs.lemmas.List.{append-nil, length-append}
use Rattle.nim_base.specs.declared.form_fault.FormFault.{FormFault}
use Rattle.statement.specs.declared.member.Member.{Member}
use Rattle.statement.specs.declared.view_block.ViewBlock.{ViewBlock}
use Rattle.statement.specs.Config.{IsConfig}
use Rattle.statement.specs.ConfigForm.{config_bytes, ConfigShows}
use Rattle.statement.specs.ViewBlock.{IsViewBlock, view_block_bytes}
use Rattle.port.specs.Field.{FieldBegins}
use Rattle.port.specs.ViewForm.{IsView, view_bytes, fault_in_view, ConfigShowsInView, ViewShows}
use Rattle.port.proofs.Forms.{Any, Ended, IsForm, said, held, behind, kinded, field, own_bytes}

abbrev pub OwnViewBlocks : Type 0
OwnViewBlocks = (a b : ViewBlock) → IsViewBlock a → IsViewBlock b → view_block_bytes a ≡ view_block_bytes b → a ≡ b

abbrev pub OwnConfigs : Type 0
OwnConfigs = (a b : List Member) → IsConfig a → IsConfig b → config_bytes a ≡ config_bytes b → a ≡ b

abbrev pub OneFault : Type 0
OneFault = (bytes : List ℕ) (a b : FormFault) → ConfigShows bytes a → ConfigShows bytes b → a ≡ b

abbrev pub NoFault : Type 0
NoFault = (members : List Member) (fault : FormFault) → IsConfig members → ¬ ConfigShows (config_bytes members) fault

block_size : (block : ViewBlock) → IsViewBlock block → length (view_block_bytes block) ≡ 73
block_size block ok = omega (arith, length-append ((0x11 ∷ block.prev) ++ block.config) (to_be_bytes w64 block.number), length-append (0x11 ∷ block.prev) block.config, ok.prev, ok.config)

abbrev view_of : ViewBlock → List Member → ViewBlock × List Member
view_of block members = (block, members)

same_view : (a b : ViewBlock × List Member) → a.0 ≡ b.0 → a.1 ≡ b.1 → a ≡ b
same_view a b e m = ap (λ block. view_of block a.1) e ∙ ap (λ members. view_of b.0 members) m

module _ (blocks : OwnViewBlocks) (configs : OwnConfigs) (one_fault : OneFault) (no_fault : NoFault) where
  all_of : (a : List Member) (r text : List ℕ) → r ≡ [] → text ≡ config_bytes a ++ r → text ≡ config_bytes a
  all_of a r text end at = at ∙ ap (λ bs. config_bytes a ++ bs) end ∙ append-nil (config_bytes a)

  config_form : (text : List ℕ) → IsForm Ended IsConfig config_bytes ConfigShowsInView text
  config_form text = record {
    apart = λ a b r s good_a good_b ends_a ends_b at_a at_b. (configs a b good_a good_b (sym (all_of a r text ends_a at_a) ∙ all_of b s text ends_b at_b), ends_a ∙ sym ends_b);
    clear = λ a r f good ends at shown. let (cause, there, is) = shown in no_fault a cause good (subst (λ (bs : List ℕ). ConfigShows bs cause) (all_of a r text ends at) there);
    one = λ f g shown_f shown_g.
        let (cause, there, is) = shown_f in
        let (cause', there', is') = shown_g in
        is ∙ ap fault_in_view (one_fault text cause cause' there there') ∙ sym is';
  }

  pub view_form : (text : List ℕ) → IsForm Ended IsView view_bytes ViewShows text
  view_form text =
      kinded Ended 0x51 (omega arith) IsView (λ view. view_block_bytes view.0 ++ config_bytes view.1) _ text
      (λ fields. said Ended (λ view. IsViewBlock view.0 × IsConfig view.1) IsView _ _ fields (λ view good. (good.block, good.config))
      (behind Ended IsViewBlock view_block_bytes (FieldBegins IsViewBlock view_block_bytes 73) (λ view. IsConfig view.1) (λ view. config_bytes view.1) (λ _. ConfigShowsInView) (λ (view : ViewBlock × List Member). view.0) fields
      (said Any _ IsViewBlock view_block_bytes (FieldBegins IsViewBlock view_block_bytes 73) fields (λ block good. (block_size block good, good)) (field IsViewBlock view_block_bytes blocks 73 fields))
      (λ block rest good at. held Ended IsConfig config_bytes ConfigShowsInView rest (λ view. (view.0 ≡ block) × IsConfig view.1) (λ view. view.1)
      (λ view holds. holds.1) (λ a b holds_a holds_b same. same_view a b (holds_a.0 ∙ sym holds_b.0) same)
      (config_form rest))))

  pub own_view : (a b : ViewBlock × List Member) → IsView a → IsView b → view_bytes a ≡ view_bytes b → a ≡ b
  own_view = own_bytes IsView view_bytes ViewShows view_form
