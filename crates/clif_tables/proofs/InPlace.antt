-- A value that is written in place, in a list of entries whose numbers rise.
use Rattle.std.proofs.Common.{◌≡◌, ℕ, List, [], ◌∷◌, ◌++◌, Option, Some, None, Ordering, Less, Equal, Greater, refl, sym, ap, ◌∙◌}
use Rattle.std.specs.Prelude.{cond, unwrap_or}
use Rattle.std.specs.BTreeMap.{insert_entry, is_at}
use Rattle.std.specs.Cmp.{nat_cmp_total}
use Rattle.std.specs.List.Sorted.{IsStrictlySortedBy}
use Rattle.std.specs.Map.{keys_of, lookup, set_value}
use Rattle.std.specs.Ordering.{nat_cmp, match_ordering, is_eq}
use Rattle.std.proofs.lemmas.Map.{lookup-none}
use Rattle.std.proofs.lemmas.Map.Entries.{none_below_head}
use Rattle.std.proofs.lemmas.Map.Keys.{sorted_tail}
use Rattle.std.proofs.lemmas.Map.Steps.{set_value_same}
use Rattle.clif_tables.specs.Sparse.{with_one_more}

not_found : {A X : Type 0} {old : A} → None ≡ Some old → X
not_found {A} {X} {old} same = let no_way : ⊥ = cc in absurd no_way

-- writing in place is as inserting, where there is an entry of the number
as_inserted : {A : Type 0} (number : ℕ) (entries : List (ℕ × A)) (old new : A) → IsStrictlySortedBy nat_cmp (keys_of entries)
    → lookup (is_at (nat_cmp number)) entries ≡ Some old → set_value (is_at (nat_cmp number)) entries new ≡ insert_entry nat_cmp entries number new
as_inserted number [] old new sorted found = not_found found
as_inserted {A} number (e ∷ es) old new sorted found =
    by (nat_cmp number e.0) refl found (as_inserted number es old new (sorted_tail nat_cmp e.0 (keys_of es) sorted))
  where
    by : (order : Ordering) → nat_cmp number e.0 ≡ order → cond (is_eq order) (Some e.1) (lookup (is_at (nat_cmp number)) es) ≡ Some old
        → (lookup (is_at (nat_cmp number)) es ≡ Some old → set_value (is_at (nat_cmp number)) es new ≡ insert_entry nat_cmp es number new)
        → cond (is_eq order) ((e.0, new) ∷ es) (e ∷ set_value (is_at (nat_cmp number)) es new)
        ≡ match_ordering order ((number, new) ∷ e ∷ es) ((e.0, new) ∷ es) (e ∷ insert_entry nat_cmp es number new)
    by Less below same rest = not_found (sym (lookup-none (is_at (nat_cmp number)) es (none_below_head nat_cmp_total number e es sorted below).1) ∙ same)
    by Equal here same rest = refl
    by Greater above same rest = ap (λ xs. e ∷ xs) (rest same)

-- nothing new, written in place
pub unchanged : {A : Type 0} (number : ℕ) (lists : List (ℕ × List A)) (old after : List A) → lookup (is_at (nat_cmp number)) lists ≡ Some old
    → after ≡ old → set_value (is_at (nat_cmp number)) lists after ≡ lists
unchanged {A} number lists old after found same =
    ap (λ (list : List A). set_value (is_at (nat_cmp number)) lists list) same ∙ set_value_same (is_at (nat_cmp number)) lists old found

-- one item more, written in place
pub pushed : {A : Type 0} (number : ℕ) (lists : List (ℕ × List A)) (old after : List A) (item : A) → IsStrictlySortedBy nat_cmp (keys_of lists)
    → lookup (is_at (nat_cmp number)) lists ≡ Some old → after ≡ old ++ item ∷ []
    → set_value (is_at (nat_cmp number)) lists after ≡ with_one_more lists number item
pushed {A} number lists old after item sorted found more =
    ap (λ (list : List A). set_value (is_at (nat_cmp number)) lists list) more
    ∙ as_inserted number lists old (old ++ item ∷ []) sorted found
    ∙ ap (λ (held : Option (List A)). insert_entry nat_cmp lists number (unwrap_or held [] ++ item ∷ [])) (sym found)
