use Rattle.clif_meaning.proofs.BitLists
use Rattle.clif_meaning.proofs.bits.bits_are_lists.Goals as goal

pub returns : goal.returns
returns c = record {
  spelled = BitLists.spelled;
  listed = BitLists.listed;
  as_many = BitLists.as_many;
  in_range = BitLists.in_range;
  zero_has_none = BitLists.zero_has_none;
}
