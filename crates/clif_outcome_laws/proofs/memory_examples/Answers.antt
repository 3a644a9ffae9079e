use Rattle.std.proofs.Common.{refl, arith}
use Rattle.clif_outcome_laws.proofs.MemoryRows
use Rattle.clif_outcome_laws.proofs.memory_examples.Goals as goal

pub returns : goal.returns
returns c = record {
  loads = λ world. record {
    little_endian = refl;
    not_big_endian = MemoryRows.not_greater 4660 13330 _ _ refl (omega arith);
    one_byte = refl;
    negative_offset = refl;
    offset_wraps = refl;
    wide_traps = refl;
    bytes_wrap = refl;
    negative_wraps = refl;
    second_traps = refl;
    first_traps = refl;
    other_reason = λ h. cc;
    trusted_stuck = refl;
    trusted_loads = refl;
    odd_stuck = refl;
    even_loads = refl;
    even_traps = refl;
    odd_with_offset = refl;
    even_with_offset = refl;
    odd_accessible = refl;
  };
  stores = λ world memory. record {
    stores = refl;
    low_byte = refl;
    high_byte = refl;
    other_bytes = MemoryRows.other_bytes memory;
    loads_again = refl;
    not_loaded = MemoryRows.not_greater 4660 13330 _ _ refl (omega arith);
    traps = refl;
    trusted_stuck = refl;
    odd_stuck = refl;
  };
  slots = λ world memory. record {
    address = refl;
    offset_counts = refl;
    wraps = refl;
    low_bits = refl;
    not_other = MemoryRows.not_greater 100 104 _ _ refl (omega arith);
    loads = refl;
    loads_before = refl;
    load_traps = refl;
    stores = refl;
    store_traps = refl;
  };
  traps = λ world memory. record {
    trap = refl;
    not_other = λ h. cc;
    zero_traps = refl;
    zero_passes = refl;
    other_traps = refl;
    other_passes = refl;
    zero_not_passed = λ h. cc;
    other_not_passed = λ h. cc;
  };
}
