use Rattle.std.proofs.Common.{◌≡◌, take}
use Rattle.std.specs.Prelude.{false}
use Rattle.clif_replay.specs.Cases.{are_twice, cases_at}
use Rattle.clif_replay.proofs.make_switch.switch_of.Given as goal

abbrev pub invariant-loop-entry : goal.invariant-loop-entry
invariant-loop-entry g l = record {
  cases : l.switch ≡ cases_at l.answers (take l.entry-index l.entries);
  once : are_twice (take l.entry-index l.entries) ≡ false;
}
