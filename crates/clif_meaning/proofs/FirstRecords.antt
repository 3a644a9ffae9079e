-- What the builder of the row `first` knows is well placed.
use Rattle.std.proofs.Common.{ℕ, zero, suc, [], ◌∷◌, refl, sym, arith, ◌⊎◌, inr, subst}
use Rattle.std.specs.Prelude.{Contains}
use Rattle.clif_meaning.specs.WellPlaced.{function_code, IsGivenAlong, IsGivenBefore, IsGivenBeforeEnd, RecordsWellPlaced}
use Rattle.clif_meaning.specs.Examples.{first_function, first_records}
use Rattle.clif_meaning.proofs.FirstRow.{one_of, first_of_one, function_straight}
use Rattle.clif_meaning.proofs.StraightLine

at_end : (block value : ℕ) → Contains (first_records.recorded block) value → IsGivenBeforeEnd (function_code first_function) (first_function.resolved value) block
at_end (suc block) value recorded p path here last walk = absurd (StraightLine.nothing_contained value recorded)
at_end zero value recorded p path here last walk =
    subst (λ (v : ℕ). IsGivenAlong (function_code first_function) (first_function.resolved v) (p ∷ path)) (one_of 2 value recorded)
    (inr (inr (StraightLine.given_along (function_code first_function) function_straight path p 2 2 walk (omega (arith, last))
    (subst (λ (b : ℕ). Contains ((function_code first_function).gives (record { block = b; index = 2 })) 2) (sym here) (first_of_one 2 2 refl)))))

at_use : (b i value : ℕ) → Contains (first_records.answered (record { block = b; index = i })) value
    → IsGivenBefore (function_code first_function) (first_function.resolved value) (record { block = b; index = i })
at_use (suc b) i value answered path walk = absurd (StraightLine.nothing_contained value answered)
at_use zero zero value answered path walk = absurd (StraightLine.nothing_contained value answered)
at_use zero (suc zero) value answered path walk =
    subst (λ (v : ℕ). Contains [] (first_function.resolved v) ⊎ IsGivenAlong (function_code first_function) (first_function.resolved v) path) (one_of 0 value answered)
    (inr (StraightLine.given_along (function_code first_function) function_straight path (record { block = 0; index = 1 }) 0 3 walk (omega arith) (first_of_one 3 3 refl)))
at_use zero (suc (suc zero)) value answered path walk = absurd (StraightLine.nothing_contained value answered)
at_use zero (suc (suc (suc zero))) value answered path walk =
    subst (λ (v : ℕ). Contains [] (first_function.resolved v) ⊎ IsGivenAlong (function_code first_function) (first_function.resolved v) path) (one_of 2 value answered)
    (inr (StraightLine.given_along (function_code first_function) function_straight path (record { block = 0; index = 3 }) 2 2 walk (omega arith) (first_of_one 2 2 refl)))
at_use zero (suc (suc (suc (suc i)))) value answered path walk = absurd (StraightLine.nothing_contained value answered)

pub first_records_placed : RecordsWellPlaced first_function first_records
first_records_placed = record { at_end = at_end; at_use = λ p value answered. at_use p.block p.index value answered }
