use Rattle.std.proofs.Common.{rules, ◌≡◌, ◌*◌, ◌∙◌, ap, sym, arith, subst, ℕ, ℤ, w64, to_z, of_z}
use Rattle.std.proofs.lemmas.Int.{to_z-of_z}
use Rattle.clif_types.specs.Types.{bits_of}
use Rattle.clif_instructions.specs.Immediates.{signed_at}
use Rattle.clif_access_plans.specs.Constants.{RepeatsByte}
use Rattle.clif_access_plans.proofs.Repeated.{everywhere, repeated}
use Rattle.clif_access_plans.proofs.moving.repeated_byte.Goals as goal

pub returns : goal.returns
returns c =
    let cast : to_z w64 (of_z w64 c.cast_signed.result) ≡ c.cast_signed.result = to_z-of_z w64 c.cast_signed.result (search rules) in
    let back : to_z w64 (of_z w64 c.signed_at.result) ≡ c.signed_at.result = to_z-of_z w64 c.signed_at.result (search rules) in
    let byte : c.cast_signed.result ≡ to_z w64 (everywhere c.args.byte) = c.cast_signed.ensures ∙ ap (λ (n : ℕ). to_z w64 (n * 0x0101_0101_0101_0101)) c.from-everywhere.ensures in
    let is : c.signed_at.result ≡ signed_at (bits_of c.args.accesses.ty) (to_z w64 (everywhere c.args.byte)) =
    c.signed_at.ensures ∙ ap (signed_at (bits_of c.args.accesses.ty)) (cast ∙ byte) in
    subst (λ (z : ℤ). RepeatsByte c.args.accesses.ty c.args.byte z) (sym back)
    (repeated c.args.accesses.ty c.args.accesses.bytes c.args.byte c.signed_at.result c.requires (omega (arith, c.ranges.byte)) is)
