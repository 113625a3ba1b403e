-- One endorser more that may have signed.
use Rattle.std.proofs.Common.{◌≡◌, ℕ, ◌+◌, ◌<◌, List, [], ◌∷◌, ◌++◌, length, take, get_or, Option, Some, None, refl, sym, ap, ◌∙◌}
use Rattle.std.specs.Prelude.{option_to_list}
use Rattle.std.specs.List.{cons_option, filter_map}
use Rattle.std.proofs.lemmas.List.{take_more}
use Rattle.std.proofs.lemmas.List.Elements.{filter_map-append}
use Rattle.endorser_cell.specs.Cells.{cell_of}
use Rattle.endorser_cell.specs.EndorserCell.{EndorserCell}
use Rattle.script_world.specs.Signed.{Signed, all_signed, signed_in_cell}

alone : (found : Option Signed) → cons_option found [] ≡ option_to_list found
alone None = refl
alone (Some signed) = refl

pub all_more : {S C : Type 0} (handle nonce : List ℕ) (cells : List (EndorserCell S C)) (ids : List ℕ) (i : ℕ) (before later : List Signed) (signed : Option Signed)
    → i < length ids → before ≡ all_signed handle nonce cells (take i ids) → signed ≡ signed_in_cell handle nonce (get_or ids i 0) (cell_of cells (get_or ids i 0))
    → later ≡ before ++ option_to_list signed
    → later ≡ all_signed handle nonce cells (take (i + 1) ids)
all_more handle nonce cells ids i before later signed within was is pushed =
    let f : ℕ → Option Signed = λ id. signed_in_cell handle nonce id (cell_of cells id) in
    pushed
    ∙ ap (λ (all : List Signed). all ++ option_to_list signed) was
    ∙ ap (λ (more : List Signed). all_signed handle nonce cells (take i ids) ++ more) (ap (λ (found : Option Signed). option_to_list found) is ∙ sym (alone (f (get_or ids i 0))))
    ∙ sym (filter_map-append f (take i ids) (get_or ids i 0 ∷ []))
    ∙ ap (filter_map f) (sym (take_more ids i 0 within))
