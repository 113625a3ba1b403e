use Rattle.std.proofs.Common.{refl, sym, ◌==◌}
use Rattle.std.specs.Prelude.{bytes_eq}
use Rattle.std.specs.Cmp.{both_tied, unsigned_tied, unsigned_ties}
use Rattle.std.specs.Cmp.Lexicographic.{slice_cmp}
use Rattle.std.specs.Ordering.{nat_cmp}
use Rattle.std.proofs.lemmas.Map.Text.{is_eq-slice_cmp}
use Rattle.port.specs.declared.key.Key.TheVariants.{Row, View, Finals}
use Rattle.blob_store.proofs.rows.keys_tie.Goals as goal

pub returns : goal.returns
returns c (Row h k) (Row i m) = sym (both_tied (bytes_eq h i) (k == m) (slice_cmp nat_cmp h i) (nat_cmp k m) (sym (is_eq-slice_cmp h i)) (unsigned_ties k m))
returns c (View n) (View m) = unsigned_tied n m
returns c (Finals n) (Finals m) = unsigned_tied n m
returns c (Row h k) (View m) = refl
returns c (Row h k) (Finals m) = refl
returns c (View n) (Row i m) = refl
returns c (View n) (Finals m) = refl
returns c (Finals n) (Row i m) = refl
returns c (Finals n) (View m) = refl
