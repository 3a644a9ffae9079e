-- The constants of zeros: pooling one keeps all that there are, and it is found again.
use Rattle.std.proofs.Common.{◌≡◌, ℕ, zero, suc, ◌+◌, ◌<◌, List, [], ◌∷◌, ◌++◌, length, get_or, Bool, true, false, refl, sym, ◌∙◌, ap, subst, arith}
use Rattle.std.specs.Prelude.{All, Option, Some, None, cond, not, is_some, unwrap_or, slice_get, replicate, nat_eq, if◌then◌else◌}
use Rattle.std.specs.Cmp.Lexicographic.{pointwise, nat_list_eq_equiv}
use Rattle.std.specs.List.{AllByRecursion, position, position_or_len}
use Rattle.std.proofs.lemmas.Grind.{common_steps}
use Rattle.std.proofs.lemmas.List.{append-nil, append_assoc}
use Rattle.std.proofs.lemmas.List.Quantifiers.{position-Some}
use Rattle.std.proofs.lemmas.Option.{slice_get-get_or, slice_get_within}
use Rattle.std.proofs.lemmas.Slice.Eq.{bytes_eq-Decides}
use Rattle.clif_types.specs.declared.types.«Type».{«Type»}
use Rattle.clif_instructions.specs.Instruction.{AConstant}
use Rattle.clif_tables.specs.Constants.{constant_of, number_of, with_constant}
use Rattle.clif_tables.specs.Lists.{TableLists}
use Rattle.clif_ir.specs.Body.{Body}
use Rattle.clif_ir.specs.Consistent.{EntryExists}
use Rattle.clif_ssa.specs.Constructs.{AreZeros, PoolsZeros}
use Rattle.clif_ssa.specs.Zeros.{HasZeros, IsZeroConstant, with_pooled, with_zeros, zero_size, zeros_number}
use Rattle.clif_ssa.proofs.Bodies.{Firm}

-- a constant keeps its number
abbrev pub KeepsConstants : Body → Body → Type 0
KeepsConstants f g = (constant : ℕ) (bytes : List ℕ) → slice_get f.tables.constants constant ≡ Some bytes → slice_get g.tables.constants constant ≡ Some bytes

get_front : {X : Type 0} (xs ys : List X) (k : ℕ) (x : X) → slice_get xs k ≡ Some x → slice_get (xs ++ ys) k ≡ Some x
get_front [] ys k x is = cc
get_front (y ∷ xs) ys zero x is = is
get_front (y ∷ xs) ys (suc k) x is = get_front xs ys k x is

get_behind : {X : Type 0} (xs : List X) (x : X) → slice_get (xs ++ x ∷ []) (length xs) ≡ Some x
get_behind [] x = refl
get_behind (y ∷ xs) x = get_behind xs x

-- ONE CONSTANT ----------------------------------------------------------------------------------------------------

-- bytes are found where they are
found_at : (constants : List (List ℕ)) (bytes : List ℕ) (k : ℕ) → number_of constants bytes ≡ Some k → slice_get constants k ≡ Some bytes
found_at constants bytes k is =
    let found = position-Some (pointwise nat_eq bytes) constants k [] is in
    slice_get-get_or constants k [] found.0 ∙ ap Some (sym ((bytes_eq-Decides bytes (get_or constants k [])).0 found.1))

-- a place is no further than the end
within : {X : Type 0} (test : X → Bool) (xs : List X) → position_or_len test xs < length xs + 1
within test [] = omega arith
within test (x ∷ xs) = by (test x) (within test xs)
  where
    by : (passes : Bool) → position_or_len test xs < length xs + 1 → cond (not passes) (1 + position_or_len test xs) 0 < length (x ∷ xs) + 1
    by true rest = omega arith
    by false rest = omega (arith, rest)

-- behind others, bytes are found at the end
new_found : {X : Type 0} (test : X → Bool) (xs : List X) (y : X) → position test xs ≡ None → test y ≡ true → position test (xs ++ y ∷ []) ≡ Some (length xs)
new_found test xs y missing passes = grind (arith, common_steps, missing, passes, within test xs)

pub found_behind : (constants : List (List ℕ)) (bytes : List ℕ) → number_of constants bytes ≡ None → number_of (constants ++ bytes ∷ []) bytes ≡ Some (length constants)
found_behind constants bytes missing = new_found (pointwise nat_eq bytes) constants bytes missing (nat_list_eq_equiv.refl bytes)

-- The constants with these bytes among them: they keep what they have, and the bytes have the number that they get.
pub record IsPooled (constants pooled : List (List ℕ)) (bytes : List ℕ) : Type 0 where
  pub more : List (List ℕ)
  pub behind : pooled ≡ constants ++ more
  pub added : AllByRecursion (λ new. new ≡ bytes) more
  pub found : slice_get pooled (constant_of constants bytes) ≡ Some bytes
  pub again : constant_of pooled bytes ≡ constant_of constants bytes

pub is_pooled : (constants : List (List ℕ)) (bytes : List ℕ) → IsPooled constants (with_constant constants bytes) bytes
is_pooled constants bytes = by (number_of constants bytes) refl
  where
    by : (o : Option ℕ) → number_of constants bytes ≡ o → IsPooled constants (with_constant constants bytes) bytes
    by (Some k) is =
        let same : with_constant constants bytes ≡ constants = ap (λ (n : Option ℕ). if is_some n then constants else constants ++ bytes ∷ []) is in
        let number : constant_of constants bytes ≡ k = ap (λ (n : Option ℕ). unwrap_or n (length constants)) is in
        subst (λ (pooled : List (List ℕ)). IsPooled constants pooled bytes) (sym same)
        (record {
          more = [];
          behind = sym (append-nil constants);
          added = tt;
          found = ap (slice_get constants) number ∙ found_at constants bytes k is;
          again = refl;
        })
    by None is =
        let pooled : List (List ℕ) = constants ++ bytes ∷ [] in
        let same : with_constant constants bytes ≡ pooled = ap (λ (n : Option ℕ). if is_some n then constants else pooled) is in
        let number : constant_of constants bytes ≡ length constants = ap (λ (n : Option ℕ). unwrap_or n (length constants)) is in
        subst (λ (all : List (List ℕ)). IsPooled constants all bytes) (sym same)
        (record {
          more = bytes ∷ [];
          behind = refl;
          added = (refl, tt);
          found = ap (slice_get pooled) number ∙ get_behind constants bytes;
          again = ap (λ (n : Option ℕ). unwrap_or n (length pooled)) (found_behind constants bytes is) ∙ sym number;
        })

-- TABLES ----------------------------------------------------------------------------------------------------------

zeros_are : (n : ℕ) → AreZeros (replicate n 0)
zeros_are zero = tt
zeros_are (suc n) = (refl, zeros_are n)

pub pools_none : (t : TableLists) → PoolsZeros t t
pools_none t = record { same = refl; more = []; behind = sym (append-nil t.constants); zeros = tt }

pub all_append : {X : Type 0} (P : X → Type 0) (xs ys : List X) → AllByRecursion P xs → AllByRecursion P ys → AllByRecursion P (xs ++ ys)
all_append P [] ys first second = second
all_append P (x ∷ xs) ys first second = (first.0, all_append P xs ys first.1 second)

pub pools_then : (t u v : TableLists) → PoolsZeros t u → PoolsZeros u v → PoolsZeros t v
pools_then t u v first second = record {
  same = second.same ∙ ap (λ (w : TableLists). record w { constants = v.constants }) first.same;
  more = first.more ++ second.more;
  behind = second.behind ∙ ap (λ (xs : List (List ℕ)). xs ++ second.more) first.behind ∙ append_assoc t.constants first.more second.more;
  zeros = all_append AreZeros first.more second.more first.zeros second.zeros;
}

pub zeros_pooled : (t : TableLists) (size : Option ℕ) → PoolsZeros t (with_zeros t size)
zeros_pooled t None = pools_none t
zeros_pooled t (Some size) =
    let bytes : List ℕ = replicate size 0 in
    let pooled : IsPooled t.constants (with_constant t.constants bytes) bytes = is_pooled t.constants bytes in
    record { same = refl; more = pooled.more; behind = pooled.behind; zeros = each pooled.more pooled.added }
  where
    each : (more : List (List ℕ)) → AllByRecursion (λ new. new ≡ replicate size 0) more → AllByRecursion AreZeros more
    each [] all = tt
    each (new ∷ more) all = (subst AreZeros (sym all.0) (zeros_are size), each more all.1)

pub pools_keep : (f g : Body) → PoolsZeros f.tables g.tables → KeepsConstants f g
pools_keep f g pools constant bytes is =
    ap (λ (constants : List (List ℕ)). slice_get constants constant) pools.behind ∙ get_front f.tables.constants pools.more constant bytes is

-- A FUNCTION WITH THE CONSTANT OF A ZERO --------------------------------------------------------------------------

pub pooled_keeps : (f : Body) (ty : «Type») → KeepsConstants f (with_pooled f ty)
pooled_keeps f ty = pools_keep f (with_pooled f ty) (zeros_pooled f.tables (zero_size ty))

pub pooled_firm : (f : Body) (ty : «Type») → Firm f → Firm (with_pooled f ty)
pooled_firm f ty firm = record { leads = firm.leads; ends = firm.ends; homes_exist = firm.homes_exist; stands = firm.stands; params_exist = firm.params_exist }

-- zero bytes are where they are found
has_zeros : (f : Body) (size : Option ℕ) → HasZeros (record f { tables = with_zeros f.tables size }) (zeros_number (with_zeros f.tables size).constants size) size
has_zeros f None = tt
has_zeros f (Some size) =
    let bytes : List ℕ = replicate size 0 in
    let pooled : IsPooled f.tables.constants (with_constant f.tables.constants bytes) bytes = is_pooled f.tables.constants bytes in
    ap (slice_get (with_constant f.tables.constants bytes)) pooled.again ∙ pooled.found

pub pooled_has : (f : Body) (ty : «Type») → HasZeros (with_pooled f ty) (zeros_number (with_pooled f ty).tables.constants (zero_size ty)) (zero_size ty)
pooled_has f ty = has_zeros f (zero_size ty)

number_again : (t : TableLists) (size : Option ℕ) → zeros_number (with_zeros t size).constants size ≡ zeros_number t.constants size
number_again t None = refl
number_again t (Some size) = (is_pooled t.constants (replicate size 0)).again

-- the number that the constant got is that of the zero's constant
pub pooled_constant : (f g : Body) (ty : «Type») (constant : ℕ) → g ≡ with_pooled f ty → constant ≡ zeros_number f.tables.constants (zero_size ty) → IsZeroConstant g ty constant
pooled_constant f g ty constant made number =
    let now : constant ≡ zeros_number (with_pooled f ty).tables.constants (zero_size ty) = number ∙ sym (number_again f.tables (zero_size ty)) in
    subst (λ (h : Body). IsZeroConstant h ty constant) (sym made)
    (now, subst (λ (c : ℕ). HasZeros (with_pooled f ty) c (zero_size ty)) (sym now) (pooled_has f ty))

-- zero bytes stay where they are
pub zeros_stay : (f g : Body) (constant : ℕ) (size : Option ℕ) → KeepsConstants f g → HasZeros f constant size → HasZeros g constant size
zeros_stay f g constant None keeps has = tt
zeros_stay f g constant (Some size) keeps has = keeps constant (replicate size 0) has

-- a constant that has bytes exists
pub zeros_exist : (f : Body) (constant size : ℕ) → HasZeros f constant (Some size) → All (EntryExists f.tables) (AConstant constant ∷ [])
zeros_exist f constant size has zero d inside = slice_get_within f.tables.constants constant (replicate size 0) has
zeros_exist f constant size has (suc k) d inside = absurd (omega (arith, inside))
