-- Lists of a script's calls, emissions among them, that differ only in when blocks are sealed: without the calls that seal they are
-- the same list, in which each answer is named by its call's place. That sealing is no part of what calls mean is from the
-- documentation of Cranelift's `FunctionBuilder`; the definition is own.
use Rattle.std.specs.Prelude.{◌≡◌, not, List, [], map, filter}
use Rattle.clif_meaning.specs.Name.{Name}
use Rattle.clif_meaning.specs.Request.{Build, Request}
use Rattle.clif_expansion.specs.ScriptCall.{Ask, Emit, ScriptCall}
use Rattle.clif_renaming.specs.Renaming.{renamed_instruction}
use Rattle.clif_renaming.specs.Sealing.{is_sealing, name_left, renamed_request}

-- What a call counts as where only places and sealing matter: what it asks, or for an emission that the instruction is built.
abbrev pub counted_as : ScriptCall → Request
counted_as (Ask request) = request
counted_as (Emit imports instruction) = Build [] instruction

-- the calls that don't seal: emissions are among them
abbrev pub calls_left : List ScriptCall → List ScriptCall
calls_left calls = filter (λ call. not (is_sealing (counted_as call))) calls

-- a call with its names renamed; what it imports has no names
abbrev pub renamed_call : (Name → Name) → ScriptCall → ScriptCall
renamed_call rename (Ask request) = Ask (renamed_request rename request)
renamed_call rename (Emit imports instruction) = Emit imports (renamed_instruction rename instruction)

-- the calls without those that seal
abbrev pub unsealed_calls : List ScriptCall → List ScriptCall
unsealed_calls calls = map (renamed_call (name_left (map counted_as calls))) (calls_left calls)

abbrev pub CallsDifferInSealing : List ScriptCall → List ScriptCall → Type 0
CallsDifferInSealing calls others = unsealed_calls calls ≡ unsealed_calls others
