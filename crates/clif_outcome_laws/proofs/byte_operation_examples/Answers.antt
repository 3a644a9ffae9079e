use Rattle.std.proofs.Common.{refl}
use lib.Count.{count_trailing_zeros}
use Rattle.clif_outcome_laws.proofs.byte_operation_examples.Goals as goal

pub returns : goal.returns
unfolding count_trailing_zeros
returns c = record {
  outcomes = λ world. record {
    copy = refl;
    fill = refl;
    less = refl;
    not_greater = refl;
    not_equal = refl;
    unequal = refl;
    less_or_equal = refl;
    not_greater_or_equal = refl;
    outside = refl;
    one_operand = refl;
    moved = refl;
    overlaps = refl;
    numbered = refl;
  };
  claims = λ world. record {
    copy = refl;
    by_call = refl;
    nothing_given = refl;
    number_given = refl;
    bit_given = refl;
  };
  sizes = record {
    of_six = refl;
    of_twelve = refl;
    of_sixteen = refl;
    greatest = refl;
    twelve = refl;
    sixteen = refl;
    five = refl;
    forty = refl;
    greatest_by_call = refl;
    sixteen_loaded = refl;
    three_called = refl;
    one_ordered = refl;
    two_called = refl;
  };
}
