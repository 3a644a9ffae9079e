use Rattle.std.proofs.Common.{refl}
use Rattle.std.proofs.Math.Nat.{mod-lt, mod-eq_of_lt}
use Rattle.std.proofs.lemmas.Nat.{pow_pos}
use Rattle.clif_types.specs.Types.{bits_of}
use Rattle.clif_outcome_laws.proofs.Widths
use Rattle.clif_outcome_laws.proofs.conversions_keep_numbers.Goals as goal

pub returns : goal.returns
returns c = record {
  sextend = λ from to types x is_kind is.
      (_, refl, mod-lt _ (pow_pos (bits_of to)), Widths.extended (bits_of from) (bits_of to) x (Widths.has_bits from is_kind.0) is_kind.1 is);
  uextend = λ from to types x is_kind is. (_, refl, mod-lt _ (pow_pos (bits_of to)), mod-eq_of_lt (Widths.narrow from to x is_kind.1 is));
  ireduce = λ from to types x is_kind is. (_, refl, mod-lt _ (pow_pos (bits_of to)), refl);
  bits_mean = Widths.bits_mean;
}
