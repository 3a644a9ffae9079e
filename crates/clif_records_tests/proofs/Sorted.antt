-- A list of entries in the order of their keys, as a map.
use Rattle.std.proofs.Common.{◌≡◌, ℕ, ◌+◌, List, [], ◌∷◌, cond, Option, Some, None, length, refl, arith, ap, sym, ◌∙◌}
use Rattle.std.specs.Prelude.{is_some}
use Rattle.std.specs.Ordering.{eq_by_cmp, is_eq}
use Rattle.std.specs.declared.cmp.Ordering.TheVariants.{Less}
use Rattle.std.specs.Cmp.{eq_by_cmp_equiv}
use Rattle.std.specs.FinMap as map
use Rattle.std.specs.FinMap.{get-insert, get-from_entries, len-empty, len-insert, same_map}
use Rattle.std.specs.List.{AllByRecursion}
use Rattle.std.specs.List.Sorted.{IsStrictlySortedBy}
use Rattle.std.specs.Map.{keys_of, lookup}
use Rattle.std.proofs.lemmas.Map.Keys.{sorted_head, sorted_tail}
use Rattle.clif_records.specs.Tables.{variable_then_block}
use Rattle.clif_records.specs.declared.tables.Recorded.{Recorded}
use Rattle.clif_records.proofs.RecordMaps.{in_order, same_place}

-- what is found at a key
abbrev pub found : ℕ × ℕ → List ((ℕ × ℕ) × Recorded) → Option Recorded
found q es = lookup (λ k. is_eq (variable_then_block q k)) es

-- the map finds what the list does
pub got : (q : ℕ × ℕ) (es : List ((ℕ × ℕ) × Recorded)) → map.get (map.from_entries {R = variable_then_block} es) q ≡ found q es
got q es = get-from_entries in_order es q ∙ by es
  where
    by : (es : List ((ℕ × ℕ) × Recorded)) → map.find variable_then_block q es ≡ found q es
    by [] = refl
    by (e ∷ es) = ap (cond (eq_by_cmp variable_then_block q e.0) (Some e.1)) (by es)

-- an entry is put where it is found in the list then, and nothing else is found otherwise
pub put : (old new : List ((ℕ × ℕ) × Recorded)) (k : ℕ × ℕ) (r : Recorded)
    → ((q : ℕ × ℕ) → found q new ≡ cond (is_eq (variable_then_block k q)) (Some r) (found q old))
    → map.from_entries {R = variable_then_block} new ≡ map.insert (map.from_entries old) k r
put old new k r updates = same_map in_order same_place _ _ (λ q.
    got q new ∙ updates q ∙ ap (cond (is_eq (variable_then_block k q)) (Some r)) (sym (got q old))
    ∙ ap (λ t. cond t (Some r) (map.get (map.from_entries {R = variable_then_block} old) q)) ((eq_by_cmp_equiv in_order).symm k q)
    ∙ sym (get-insert in_order (map.from_entries old) k r q))

-- nothing is found before the first entry
none_before : (k : ℕ × ℕ) (es : List ((ℕ × ℕ) × Recorded)) → AllByRecursion (λ y. variable_then_block k y ≡ Less) (keys_of es)
    → map.find variable_then_block k es ≡ None
none_before k [] below = refl
none_before k (e ∷ es) below =
    ap (λ o. cond (is_eq o) (Some e.1) (map.find variable_then_block k es)) below.0 ∙ none_before k es below.1

-- the map has as many entries as the list
pub counted : (es : List ((ℕ × ℕ) × Recorded)) → IsStrictlySortedBy variable_then_block (keys_of es)
    → map.len (map.from_entries {R = variable_then_block} es) ≡ length es
counted [] sorted = len-empty variable_then_block Recorded
counted (e ∷ es) sorted =
    let one_more : length es + 1 ≡ length (e ∷ es) = omega arith in
    len-insert in_order (map.from_entries es) e.0 e.1
    ∙ ap (λ o. cond (is_some o) (map.len (map.from_entries {R = variable_then_block} es)) (map.len (map.from_entries {R = variable_then_block} es) + 1))
    (get-from_entries in_order es e.0 ∙ none_before e.0 es (sorted_head variable_then_block e.0 (keys_of es) sorted))
    ∙ ap (λ n. n + 1) (counted es (sorted_tail variable_then_block e.0 (keys_of es) sorted)) ∙ one_more
