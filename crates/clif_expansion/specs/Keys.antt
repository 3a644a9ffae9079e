-- The keys of a switch: which of them follow one another, and why a switch is refused. After the documentation of Cranelift's
-- `Switch`; what runs of keys are made into is own.
use Rattle.std.specs.Prelude.{ℕ, zero, suc, ◌^◌, ◌&&◌, ◌||◌, not, nat_lt, if◌then◌else◌, Bool, false, List, [], ◌∷◌, Option, Some, None}
use Rattle.std.specs.List.{list_any}
use Rattle.clif_types.specs.declared.types.«Type».{«Type»}
use Rattle.clif_types.specs.Types.{greatest_of}

abbrev pub is_key : List ℕ → ℕ → Bool
is_key keys key = list_any (λ other. nat_lt key (suc other) && nat_lt other (suc key)) keys

-- the key follows right behind another one
abbrev pub follows : List ℕ → ℕ → Bool
follows keys zero = false
follows keys (suc key) = is_key keys key

-- how many jump tables a switch of these keys makes: one for each range of consecutive keys that has more than one
abbrev pub table_count : List ℕ → List ℕ → ℕ
table_count keys [] = 0
table_count keys (key ∷ rest) = if not (follows keys key) && is_key keys (suc key) then suc (table_count keys rest) else table_count keys rest

-- REFUSALS ----------------------------------------------------------------------------------------------------------------

-- why a switch is refused: a key has two blocks, a key is no unsigned number of the value's type, or as many keys follow one another
-- as no jump table has entries
pub data SwitchRefusal : Type 0 where
  SetTwice : SwitchRefusal
  TooGreat : SwitchRefusal
  TooLong : SwitchRefusal

abbrev pub has_key_twice : List ℕ → Bool
has_key_twice [] = false
has_key_twice (key ∷ keys) = is_key keys key || has_key_twice keys

-- how many keys follow one another, from this one on: no more than there are keys, as the last argument tells
abbrev pub run_from : List ℕ → ℕ → (all : List ℕ) → ℕ
run_from keys key [] = 0
run_from keys key (other ∷ all) = if is_key keys key then suc (run_from keys (suc key) all) else 0

-- the first of these that there is
abbrev pub keys_refusal : «Type» → List ℕ → Option SwitchRefusal
keys_refusal ty keys =
    if has_key_twice keys then Some SetTwice
    else (if list_any (nat_lt (greatest_of ty false)) keys then Some TooGreat
    else (if list_any (λ key. not (nat_lt (run_from keys key keys) (2 ^ 32))) keys then Some TooLong else None))
