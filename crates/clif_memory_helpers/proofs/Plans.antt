-- What plans say of accesses and of conditions.
use Rattle.std.proofs.Common.{◌≡◌, ◌<◌, ◌≤◌, ◌/◌, ◌^◌, ◌==◌, ℕ, zero, suc, true, false, Bool, refl, sym, subst, arith}
use Rattle.std.proofs.lemmas.Grind.{common_steps}
use Rattle.std.specs.Prelude.{if◌then◌else◌, nat_le, IsTrue, pos}
use Rattle.std.specs.declared.cmp.Ordering.TheVariants.{Equal as SameBytes}
use Rattle.clif_types.specs.Types.{is_int}
use Rattle.clif_types.specs.declared.condcodes.IntCC.{IntCC}
use Rattle.clif_types.specs.declared.types.«Type».{«Type»}
use Rattle.clif_access_plans.specs.Plans.{IsAccess, PlansAreExact, compare_plan, move_plan, type_of_bytes}
use Rattle.clif_access_plans.specs.declared.comparing.ComparePlan.TheVariants as compare
use Rattle.clif_access_plans.specs.declared.moving.Accesses.{Accesses}
use Rattle.clif_access_plans.specs.declared.moving.MovePlan.TheVariants as move
use Rattle.clif_byte_laws.specs.Comparing.{sign_condition}
use Rattle.clif_meaning.specs.ByteOperation.{access_size, is_by_accesses, is_by_loads, order_meets}
use Rattle.clif_memory_helpers.specs.Steps.{ArePlanned}

-- an access is of an integer type
integer : (bytes exponent : ℕ) → bytes ≡ 2 ^ exponent → exponent ≤ 3 → IsTrue (is_int (type_of_bytes bytes))
integer bytes zero is few = subst (λ (b : ℕ). IsTrue (is_int (type_of_bytes b))) (sym is) refl
integer bytes (suc zero) is few = subst (λ (b : ℕ). IsTrue (is_int (type_of_bytes b))) (sym is) refl
integer bytes (suc (suc zero)) is few = subst (λ (b : ℕ). IsTrue (is_int (type_of_bytes b))) (sym is) refl
integer bytes (suc (suc (suc zero))) is few = subst (λ (b : ℕ). IsTrue (is_int (type_of_bytes b))) (sym is) refl
integer bytes (suc (suc (suc (suc exponent)))) is few = absurd (omega (arith, few))

-- what a plan's accesses are
pub accesses_are : (size : ℕ) (accesses : Accesses) → move_plan size ≡ move.Inline accesses
    → (0 < size) × (is_by_accesses size ≡ true) × (accesses.ty ≡ type_of_bytes (access_size size)) × (accesses.bytes ≡ access_size size) × (accesses.count ≡ size / access_size size)
accesses_are size accesses is = by (size == 0) (is_by_accesses size) refl refl is
  where
    by : (none few : Bool) → (size == 0) ≡ none → is_by_accesses size ≡ few
        → (if none then move.Nothing else (if few then move.Inline (record { ty = type_of_bytes (access_size size); bytes = access_size size; count = size / access_size size }) else move.LibraryCall)) ≡ move.Inline accesses
        → (0 < size) × (is_by_accesses size ≡ true) × (accesses.ty ≡ type_of_bytes (access_size size)) × (accesses.bytes ≡ access_size size) × (accesses.count ≡ size / access_size size)
    by true few none_is few_is made = cc
    by false false none_is few_is made = cc
    by false true none_is few_is made =
        let some : 0 < size = grind (arith, common_steps, none_is) in
        (some, few_is, cc, cc, cc)

pub planned : PlansAreExact → (size : ℕ) (accesses : Accesses) → size < 2 ^ 64 → move_plan size ≡ move.Inline accesses → ArePlanned accesses
planned exact size accesses fits is =
    let are = accesses_are size accesses is in
    let made = exact.accesses size are.0 fits in
    let few : size / access_size size ≤ 4 = few_are (size / access_size size) are.1 in
    record {
      access = subst (λ (t : «Type»). IsAccess t accesses.bytes) (sym are.2) (subst (IsAccess (type_of_bytes (access_size size))) (sym are.3) made.is_access);
      integer = subst (λ (t : «Type»). IsTrue (is_int t)) (sym are.2) (integer (access_size size) made.is_access.exponent made.is_access.is_power made.is_access.few);
      few = (let many = are.4 in omega (arith, few, many));
    }
  where
    few_are : (n : ℕ) → nat_le n 4 ≡ true → n ≤ 4
    few_are n is = grind (arith, common_steps, is)

-- what a plan compares with zero
pub condition_is : (condition : IntCC) (size : ℕ) (compared : IntCC) → compare_plan condition size ≡ compare.LibraryCall compared → compared ≡ sign_condition condition
condition_is condition size compared is = by (size == 0) (is_by_loads condition size) is
  where
    by : (none loads : Bool)
        → (if none then compare.Constant (if order_meets condition SameBytes then pos 1 else pos 0) else (if loads then compare.Inline (type_of_bytes size) else compare.LibraryCall (sign_condition condition))) ≡ compare.LibraryCall compared
        → compared ≡ sign_condition condition
    by true loads made = cc
    by false true made = cc
    by false false made = cc
