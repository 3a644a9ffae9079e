-- Words behind flags, and the offset that ends a line.
use Rattle.std.proofs.Common.{◌≡◌, ℕ, ℤ, List, ◌++◌, ap, sym, subst, ◌∙◌, inl, inr, arith}
use Rattle.std.specs.Prelude.{FitsSigned}
use Rattle.std.specs.Int.{w32}
use Rattle.std.proofs.lemmas.List.{append_assoc}
use Rattle.std.proofs.Math.Facts.{sfits_to_z, Fits-of_lt}
use Rattle.clif_arguments.specs.Arguments.{IsLastOffset}

-- flags, operands and an offset, one behind the other
pub three_taken : (f v o old one two new : List (List ℕ)) → old ≡ f ++ one → one ≡ v ++ two → two ≡ o ++ new → old ≡ (f ++ (v ++ o)) ++ new
three_taken f v o old one two new flags operands offset =
    flags ∙ (ap (λ rest. f ++ rest) (operands ∙ (ap (λ rest. v ++ rest) offset ∙ sym (append_assoc v o new))) ∙ sym (append_assoc f (v ++ o) new))

pub offset_fits : (words : List (List ℕ)) (offset : ℤ) → IsLastOffset words offset → FitsSigned w32 offset
offset_fits words offset (inl none) = subst (FitsSigned w32) (sym none.1) (sfits_to_z {w = w32} {n = 0} (Fits-of_lt {w = w32} {n = 0} (omega arith)))
offset_fits words offset (inr one) = one.2.fits
