use Rattle.std.proofs.Common.{refl}
use Rattle.clif_meaning.proofs.examples.change_examples.Goals as goal

pub returns : goal.returns
returns c = record {
  both_accepted = refl;
  one_accepted = refl;
  both_lead = refl;
  one_leads = refl;
  none_leads = refl;
  both = λ world. refl;
  one = λ world. refl;
  function = λ world. refl;
  entry_accepted = refl;
  entry_led = refl;
  none_leads_there = refl;
  changed_arm = λ world. refl;
  other_arm = λ world. refl;
  function_changed = λ world. refl;
  function_other = λ world. refl;
  same_items = refl;
  same_leads = refl;
  sealed = refl;
  not_named = refl;
  no_instruction = refl;
}
