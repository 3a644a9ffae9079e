use Rattle.std.proofs.Common.{◌≡◌, take}
use Rattle.std.specs.Prelude.{true}
use Rattle.std.specs.List.{list_all}
use Rattle.clif_resolution.specs.Answers.{block_of}
use Rattle.clif_resolution.specs.Conditions.{is_target}
use Rattle.clif_replay.proofs.make_switch.may_target_all.Given as goal

abbrev pub invariant-loop-entry : goal.invariant-loop-entry
invariant-loop-entry g l = list_all (λ entry. is_target l.builder (block_of l.answers entry.block)) (take l.entry-index l.entries) ≡ true
