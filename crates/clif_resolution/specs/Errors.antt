-- How the refusal of a builder is told as that of a call. Source: own.
use Rattle.clif_types.specs.declared.error.BuildError.{BuildError}
use Rattle.clif_types.specs.declared.error.BuildError.TheVariants as build
use Rattle.clif_resolution.specs.declared.answers.CallError.{CallError}
use Rattle.clif_resolution.specs.declared.answers.CallError.TheVariants as call
use Rattle.clif_resolution.specs.declared.condition.Condition.TheVariants as condition

-- memory was refused
abbrev pub call_memory : CallError
call_memory = call.Memory

-- the same refusal, where a builder answered it
abbrev pub call_error_of : BuildError → CallError
call_error_of build.Memory = call.Memory
call_error_of build.Full = call.Full
call_error_of build.Failed = call.Refused condition.Failed
