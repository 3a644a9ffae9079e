-- What reading a call takes of its line. Source: own; docs/SCRIPTS.md describes the format.
use Rattle.std.specs.Prelude.{◌∷◌, ℕ, List}
use Rattle.clif_calls.specs.declared.call.Call.{Call}
use Rattle.clif_calls.specs.declared.straight.StraightInstruction.{StraightInstruction}
use Rattle.clif_arguments.specs.declared.args.Args.{Args}
use Rattle.clif_arguments.specs.Taking.{TakesWords, names_in}
use Rattle.clif_text.specs.Grammar.{IsCall, IsStraight}

-- the words that were taken, behind the name of an instruction that ends no block, stand for it
abbrev pub ReadsStraight : (old new : Args) → List ℕ → StraightInstruction → Type 0
ReadsStraight old new head = TakesWords old new (λ words instruction. IsStraight (names_in old) (head ∷ words) instruction)

-- the words that were taken, behind the call's name, stand for the call
abbrev pub ReadsCall : (old new : Args) → List ℕ → Call → Type 0
ReadsCall old new head = TakesWords old new (λ words call. IsCall (names_in old) (head ∷ words) call)
