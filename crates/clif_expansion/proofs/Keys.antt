-- The edge of a key leads where the finite map has the key.
use Rattle.std.proofs.Common.{◌≡◌, ◌==◌, ℕ, suc, Bool, true, false, List, [], ◌∷◌, ◌++◌, map, refl, Some}
use Rattle.std.specs.Prelude.{if◌then◌else◌, slice_get}
use Rattle.clif_meaning.specs.Instruction.{Edge}
use Rattle.clif_meaning.specs.Name.{Name}
use Rattle.clif_meaning.specs.Switch.{edge_of_key, switch_target}
use Rattle.clif_expansion.specs.Switching.{KeysFindTheirBlocks}

pub keys_find_their_blocks : KeysFindTheirBlocks
keys_find_their_blocks [] otherwise edge_to key = refl
keys_find_their_blocks (entry ∷ entries) otherwise edge_to key = by (entry.0 == key) (keys_find_their_blocks entries otherwise edge_to key)
  where
    edges : List (ℕ × Name) → List (Edge Name Name)
    edges list = map (λ entry. edge_to entry.1) list ++ edge_to otherwise ∷ []

    by : (c : Bool) → slice_get (edges entries) (edge_of_key (map (λ entry. entry.0) entries) key) ≡ Some (edge_to (switch_target entries otherwise key))
        → slice_get (edge_to entry.1 ∷ edges entries) (if c then 0 else suc (edge_of_key (map (λ entry. entry.0) entries) key))
        ≡ Some (edge_to (if c then entry.1 else switch_target entries otherwise key))
    by true rest = refl
    by false rest = rest
