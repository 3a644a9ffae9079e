-- The map from bytes to numbers keeps step with the list of constants.
use Rattle.std.proofs.Common.{◌≡◌, ℕ, ◌-◌, ◌^◌, ◌<◌, List, [], ◌∷◌, ◌++◌, length, Bool, true, false, Option, Some, None, refl, sym, ap, subst, arith, ◌∙◌, Ordering}
use Rattle.std.specs.BTreeMap.{BTreeMap, get_by, Updates}
use Rattle.std.specs.Map.{KeepsOthers}
use Rattle.std.specs.Ordering.{is_eq, nat_cmp}
use Rattle.std.specs.Cmp.{eq_by_cmp_equiv}
use Rattle.std.specs.Cmp.Lexicographic.{slice_cmp, nat_list_cmp_total, nat_list_eq_equiv}
use Rattle.std.specs.Global.{Vec}
use Rattle.std.specs.Str.{bytes_eq}
use Rattle.std.proofs.lemmas.List.{length_push}
use Rattle.std.proofs.lemmas.Map.Text.{is_eq-slice_cmp}
use Rattle.std.proofs.lemmas.Slice.Eq.{bytes_eq-Decides}
use Rattle.clif_tables.specs.Constants.{IsIndexed, number_of}
use Rattle.clif_tables.proofs.Positions.{new_found, past_other}

abbrev pub by_bytes : Vec ℕ → Vec ℕ → Ordering
by_bytes x y = slice_cmp nat_cmp x.items y.items

abbrev found_in : BTreeMap (Vec ℕ) ℕ → List ℕ → Option ℕ
found_in numbers bytes = get_by (λ key. slice_cmp nat_cmp bytes key.items) numbers

-- bytes that aren't those of one key aren't those of an equal one
apart : (one other key : List ℕ) → bytes_eq one other ≡ false → is_eq (slice_cmp nat_cmp one key) ≡ true → is_eq (slice_cmp nat_cmp other key) ≡ false
apart one other key differ same =
    is_eq-slice_cmp other key ∙ nat_list_eq_equiv.symm other key ∙ sym (nat_list_eq_equiv.congr one key other (sym (is_eq-slice_cmp one key) ∙ same)) ∙ differ

-- other bytes are found as before
elsewhere : (key : Vec ℕ) (number : ℕ) (old new : BTreeMap (Vec ℕ) ℕ) → Updates by_bytes old new key (Some number)
    → (bytes : List ℕ) → bytes_eq key.items bytes ≡ false → found_in new bytes ≡ found_in old bytes
unfolding KeepsOthers
elsewhere key number old new updates bytes differ =
    updates.3 (λ k. is_eq (slice_cmp nat_cmp bytes k.items)) (λ x y. (eq_by_cmp_equiv nat_list_cmp_total).congr bytes x.items y.items) (λ k. apart key.items bytes k.items differ)

-- one constant more
pub one_more : (constants : List (List ℕ)) (old new : BTreeMap (Vec ℕ) ℕ) (key : Vec ℕ) (number : ℕ) → IsIndexed constants old
    → length constants < 2 ^ 32 - 1 → number ≡ length constants → found_in old key.items ≡ None → Updates by_bytes old new key (Some number)
    → IsIndexed (constants ++ key.items ∷ []) new
one_more constants old new key number indexed room last missing updates = record {
  fits = let count = length_push constants key.items in omega (arith, room, count);
  found = λ bytes. found_by bytes (bytes_eq key.items bytes) refl;
}
  where
    found_by : (bytes : List ℕ) (same : Bool) → bytes_eq key.items bytes ≡ same → found_in new bytes ≡ number_of (constants ++ key.items ∷ []) bytes
    found_by bytes true same =
        let equal : key.items ≡ bytes = (bytes_eq-Decides key.items bytes).0 same in
        subst (λ bs. found_in new bs ≡ number_of (constants ++ key.items ∷ []) bs) equal
        (updates.1 ∙ ap Some last ∙ sym (new_found (bytes_eq key.items) constants key.items (sym (indexed.found key.items) ∙ missing) (nat_list_eq_equiv.refl key.items)))
    found_by bytes false differ =
        elsewhere key number old new updates bytes differ ∙ indexed.found bytes
        ∙ sym (past_other (bytes_eq bytes) constants key.items (nat_list_eq_equiv.symm bytes key.items ∙ differ))
