-- A stack map that an instruction is given leaves those of the others.
use Rattle.std.proofs.Common.{◌≡◌, ◌≢◌, ◌≤◌, ◌<◌, ◌∙◌, ℕ, List, [], ◌∷◌, Bool, false, true, Some, cond, refl, ap, sym, arith}
use Rattle.std.specs.Prelude.{Option, unwrap_or}
use Rattle.std.specs.declared.cmp.Ordering.{Ordering}
use Rattle.std.specs.declared.cmp.Ordering.TheVariants.{Less, Equal, Greater}
use Rattle.std.specs.Ordering.{nat_cmp, is_eq, match_ordering}
use Rattle.std.specs.BTreeMap.{insert_entry, is_at}
use Rattle.std.specs.FinMap.{nat_cmp-IsAntisymmetric}
use Rattle.std.specs.Map.{lookup}
use Rattle.std.proofs.lemmas.Map.Entries.{lookup_tail}
use Rattle.clif_types.specs.declared.stackmap.UserStackMapEntry.{UserStackMapEntry}
use Rattle.clif_tables.specs.Lists.{TableLists, stack_map_at, with_stack_map}

equal-is : (o : Ordering) → is_eq o ≡ true → o ≡ Equal
equal-is Less is = cc
equal-is Equal is = refl
equal-is Greater is = cc

not_equal : (b : Bool) → (b ≡ true → ⊥) → b ≡ false
not_equal true none = absurd (none refl)
not_equal false none = refl

module _ {A : Type 0} (number other : ℕ) (list : A) (apart : other ≢ number) where
  misses : (n : ℕ) → n ≡ number → is_at (nat_cmp other) n ≡ false
  misses n same = not_equal _ (λ is. apart (nat_cmp-IsAntisymmetric other n (equal-is _ is) ∙ same))

  abbrev found : List (ℕ × A) → Option A
  found lists = lookup (is_at (nat_cmp other)) lists

  stays : (lists : List (ℕ × A)) → found (insert_entry nat_cmp lists number list) ≡ found lists
  stays [] = lookup_tail (is_at (nat_cmp other)) (number, list) [] (misses number refl)
  stays (e ∷ es) = at (nat_cmp number e.0) refl (stays es)
    where
      at : (o : Ordering) → nat_cmp number e.0 ≡ o → found (insert_entry nat_cmp es number list) ≡ found es
          → found (match_ordering o ((number, list) ∷ e ∷ es) ((e.0, list) ∷ es) (e ∷ insert_entry nat_cmp es number list)) ≡ found (e ∷ es)
      at Less is rest = lookup_tail (is_at (nat_cmp other)) (number, list) (e ∷ es) (misses number refl)
      at Equal is rest =
          let same : e.0 ≡ number = sym (nat_cmp-IsAntisymmetric number e.0 is) in
          lookup_tail (is_at (nat_cmp other)) (e.0, list) es (misses e.0 same) ∙ sym (lookup_tail (is_at (nat_cmp other)) e es (misses e.0 same))
      at Greater is rest = λ i. cond (is_at (nat_cmp other) e.0) (Some e.1) (rest i)

pub maps-with_stack_map : (t : TableLists) (inst count : ℕ) (map : List UserStackMapEntry) → inst < count
    → ((i : ℕ) → count ≤ i → stack_map_at t i ≡ []) → (i : ℕ) → count ≤ i → stack_map_at (with_stack_map t inst map) i ≡ []
maps-with_stack_map t inst count map inside known i past =
    let apart : i ≢ inst = λ same. absurd (omega (arith, inside, past, same)) in
    ap (λ found. unwrap_or found []) (stays inst i map apart t.stack_maps) ∙ known i past
