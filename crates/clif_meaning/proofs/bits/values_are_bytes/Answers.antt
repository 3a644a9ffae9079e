use Rattle.clif_meaning.proofs.BitLists
use Rattle.clif_meaning.proofs.bits.values_are_bytes.Goals as goal

pub returns : goal.returns
returns c = record {
  spelled = BitLists.value_spelled;
  listed = BitLists.value_listed;
  as_many = BitLists.value_as_many;
  are_bytes = BitLists.are_bytes;
  in_range = BitLists.value_in_range;
}
