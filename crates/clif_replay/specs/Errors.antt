-- How the refusal of a call, or of `finalize`, is told as that of a script. Source: own.
use Rattle.std.specs.Prelude.{ℕ, List, ◌++◌, codes}
use Rattle.std.specs.Fmt.{decimal}
use Rattle.clif_builder.specs.declared.error.FinalizeError.{FinalizeError}
use Rattle.clif_builder.specs.declared.error.FinalizeError.TheVariants as ending
use Rattle.clif_resolution.specs.declared.answers.CallError.{CallError}
use Rattle.clif_resolution.specs.declared.answers.CallError.TheVariants as call
use Rattle.clif_replay.specs.declared.script.ReplayError.{ReplayError}
use Rattle.clif_replay.specs.declared.script.ReplayError.TheVariants as replay

abbrev pub replay_memory : ReplayError
replay_memory = replay.Memory

-- the same refusal, where the call at this place answered it
abbrev pub replay_error_at : CallError → ℕ → ReplayError
replay_error_at (call.Misuse why) place = replay.Misuse place
replay_error_at (call.Refused why) place = replay.Refused place
replay_error_at call.Memory place = replay.Memory
replay_error_at call.Full place = replay.Full

-- what `finalize` refuses after so many calls
abbrev pub end_error_at : FinalizeError → ℕ → ReplayError
end_error_at ending.Memory place = replay.Memory
end_error_at ending.Full place = replay.Full
end_error_at _ place = replay.Refused place

-- what a refusal prints
abbrev pub replay_error_text : ReplayError → List ℕ
replay_error_text (replay.Misuse place) = codes "misuse at call " ++ decimal place
replay_error_text (replay.Refused place) = codes "refused at call " ++ decimal place
replay_error_text replay.Memory = codes "no memory"
replay_error_text replay.Full = codes "table full"
