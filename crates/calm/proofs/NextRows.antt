-- The row of the next entry of a ledger.
use Rattle.std.proofs.Common.{◌≡◌, replicate, ℕ, ◌<◌, List, [], ◌∷◌, ◌++◌, length, map, reverse, refl, subst, ap, ◌∙◌, arith}
use Rattle.std.specs.Prelude.{◌^◌}
use Rattle.std.proofs.lemmas.List.{map-append, length-map}
use Rattle.sha2.proofs.Facts256.{length-sha256}
use Rattle.chain_block.specs.declared.entry.Entry.{Entry}
use Rattle.chain_block.specs.declared.entry.Entry.TheVariants.{Genesis, Later}
use Rattle.chain_block.specs.Entry.{entry_digest, handle_of, height_of}
use Rattle.chain_block.specs.Tail.{tail_after, tail_of_newest_first, tail_of_list, tail_of_list-none, tail_of_list-push}
use Rattle.tail_map.specs.declared.tail_row.TailRow.{TailRow}
use Rattle.tail_map.specs.TailMap.{IsRow}
use Rattle.port.specs.RowForm.{IsStored, row_bytes}
use Rattle.port.specs.GoodRow.{IsGoodRow}
use Rattle.calm.specs.Ledgers.{Ledgers, tail_of, row_above, HasLedgers, IsNextEntry}
use Rattle.calm.specs.Appending.{row_of, IsNext}

pub tail_push : (below : List Entry) (entry : Entry) → tail_of (below ++ entry ∷ []) ≡ tail_after (tail_of below) (entry_digest entry) (length below)
tail_push below entry =
    ap tail_of_list (map-append entry_digest below (entry ∷ []))
    ∙ tail_of_list-push (map entry_digest below) (entry_digest entry)
    ∙ ap (tail_after (tail_of_list (map entry_digest below)) (entry_digest entry)) (length-map below entry_digest)

pub no_tail : tail_of [] ≡ replicate 32 0
no_tail = tail_of_list-none

newest_length : (digests : List (List ℕ)) → length (tail_of_newest_first digests) ≡ 32
newest_length [] = refl
newest_length (digest ∷ older) = length-sha256 _

pub tail_length : (entries : List Entry) → length (tail_of entries) ≡ 32
unfolding tail_of_list
tail_length entries = newest_length (reverse (map entry_digest entries))

pub digest_length : (entry : Entry) → length (entry_digest entry) ≡ 32
digest_length entry = length-sha256 _

-- a stored entry is below the highest height, its handle is a digest, and at height 0 it is its own
pub is_low : (entry : Entry) → IsStored entry → height_of entry < 2 ^ 32
is_low (Genesis nonce payload) stored = omega arith
is_low (Later handle height nonce payload) stored = let most = stored.0.0.1 in omega (arith, most)

pub handle_length : (entry : Entry) → IsStored entry → length (handle_of entry) ≡ 32
handle_length (Genesis nonce payload) stored = length-sha256 _
handle_length (Later handle height nonce payload) stored = stored.0.1

pub own_handle : (entry : Entry) → IsStored entry → height_of entry ≡ 0 → entry_digest entry ≡ handle_of entry
own_handle (Genesis nonce payload) stored zero_height = refl
own_handle (Later handle height nonce payload) stored zero_height = let least = stored.0.0.0 in absurd (omega (arith, least, zero_height))

module _ (ledgers : Ledgers) (handle : List ℕ) (entry : Entry) (next : IsNextEntry ledgers handle entry) where
  pub below_limit : length (ledgers handle) < 2 ^ 32
  below_limit = let low = is_low entry next.stored in let at = next.of_height in omega (arith, low, at)

  pub good_row : IsGoodRow handle (length (ledgers handle)) (row_bytes (row_above (ledgers handle) entry)) (row_above (ledgers handle) entry)
  good_row = record {
    whole = record {
      entry = next.stored;
      metablock = (tail_length (ledgers handle), digest_length entry, (let low = below_limit in omega (arith, low)));
    };
    written = refl;
    at = record { of_ledger = next.of_ledger; of_height = next.of_height; of_entry = refl; block_height = refl };
  }

  pub is_next : (rows : List TailRow) → HasLedgers rows ledgers → IsNext rows handle (row_above (ledgers handle) entry).metablock
  is_next rows has = record {
    held = has.each handle;
    first = λ zero_height. own_handle entry next.stored (next.of_height ∙ zero_height) ∙ next.of_ledger;
    low = below_limit;
  }

  pub row_is : IsRow (row_of handle (row_above (ledgers handle) entry).metablock)
  row_is = record {
    handle = subst (λ (h : List ℕ). length h ≡ 32) next.of_ledger (handle_length entry next.stored);
    tail = length-sha256 _;
    count = (omega arith, (let low = below_limit in omega (arith, low)));
  }
