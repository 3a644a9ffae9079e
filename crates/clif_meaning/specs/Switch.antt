-- What a switch means: a finite map from numbers to blocks, and a default. From the documentation of Cranelift's
-- `Switch`.
use Rattle.std.specs.Prelude.{ℕ, suc, ◌==◌, if◌then◌else◌, List, [], ◌∷◌}

-- the block of the key, which is the value's bits as an unsigned number. No key has two entries: setting one twice is
-- refused.
abbrev pub switch_target : {Block : Type 0} → List (ℕ × Block) → Block → ℕ → Block
switch_target [] otherwise key = otherwise
switch_target (entry ∷ entries) otherwise key = if entry.0 == key then entry.1 else switch_target entries otherwise key

-- The edge of a key, where edges lead to the blocks of these keys, in order, and then to the default.
abbrev pub edge_of_key : List ℕ → ℕ → ℕ
edge_of_key [] key = 0
edge_of_key (other ∷ keys) key = if other == key then 0 else suc (edge_of_key keys key)
