-- The wrong rows of the worked examples that emit.
use Rattle.std.proofs.Common.{◌≡◌, ℕ, List, ◌∷◌, ap, arith}
use Rattle.std.specs.Prelude.{slice_get, Option, Some}
use Rattle.clif_meaning.specs.ByteOperation.{Copy}
use Rattle.clif_meaning.specs.Instruction.{Bytes, Operation, Switch}
use Rattle.clif_expansion.specs.ScriptCall.{Emit, ScriptCall}
use Rattle.clif_replay.specs.Requests.{calls_of}
use Rattle.clif_premise_examples.specs.Scripts.{branches_calls}
use Rattle.clif_renaming.specs.CallsSealing.{CallsDifferInSealing}
use Rattle.clif_sealing_laws.specs.Examples.{branches_early, copying_first, copying_last, of_addresses, target}

-- the size of a copy, or the first key of a switch
abbrev number_in : Operation → ℕ
number_in (Bytes (Copy copy)) = copy.size
number_in (Switch (key ∷ keys)) = key
number_in _ = 0

abbrev emitted_number : Option ScriptCall → ℕ
emitted_number (Some (Emit imports instruction)) = number_in instruction.operation
emitted_number _ = 0

pub other_size : CallsDifferInSealing (calls_of target of_addresses copying_first) (calls_of target of_addresses (copying_last 8)) → ⊥
other_size same =
    let sizes : 12 ≡ 8 = ap (λ (calls : List ScriptCall). emitted_number (slice_get calls 4)) same in
    absurd (omega (arith, sizes))

pub other_key : CallsDifferInSealing branches_calls (branches_early 2) → ⊥
other_key same =
    let keys : 1 ≡ 2 = ap (λ (calls : List ScriptCall). emitted_number (slice_get calls 15)) same in
    absurd (omega (arith, keys))
