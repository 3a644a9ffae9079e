use Rattle.std.proofs.Common.{refl}
use lib.Count.{count_trailing_zeros}
use Rattle.clif_expansion.proofs.examples.byte_emission_examples.Goals as goal

pub returns : goal.returns
unfolding count_trailing_zeros
returns c = record {
  fits = refl;
  too_many = refl;
  none = refl;
  greatest = refl;
  one_small = refl;
  both_large = refl;
  fill_aligned = refl;
  fill_too_aligned = refl;
  no_byte = refl;
  unsigned = refl;
  signed = refl;
  compare_none = refl;
  call = refl;
  wide = refl;
}
