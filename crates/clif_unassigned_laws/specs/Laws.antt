-- The laws of unassigned variables, as the contracts of this crate's functions state them. That such
-- a use reads zero is what Cranelift's construction of SSA form does; the laws are own.
use Rattle.std.specs.Prelude.{◌≡◌, ℕ, suc, ◌∷◌, Some, slice_get}
use Rattle.clif_types.specs.Signature.{SignatureShape}
use Rattle.clif_types.specs.Target.{pointer_type_of}
use Rattle.clif_types.specs.declared.target.PointerWidth.{PointerWidth}
use Rattle.clif_meaning.specs.Event.{Event}
use Rattle.clif_meaning.specs.FunctionView.{FunctionView}
use Rattle.clif_meaning.specs.Headline.{IsWorldOf, MeansTheSame, function_behaviour, script_run}
use Rattle.clif_meaning.specs.Machine.{Ending, IsEnd, NotYet, Returned, Stuck, Trapped, state_after}
use Rattle.clif_meaning.specs.Name.{Name}
use Rattle.clif_meaning.specs.Premises.{Premises}
use Rattle.clif_meaning.specs.Program.{program_of}
use Rattle.clif_meaning.specs.Request.{Script}
use Rattle.clif_meaning.specs.SameMeaning.{Behaviour}
use Rattle.clif_meaning.specs.ScriptMachine.{ScriptRun, script_machine}
use Rattle.clif_meaning.specs.World.{World}
use Rattle.clif_unassigned_laws.specs.Unassigned.{HoldsUnassigned, IsUnassigned, PassesName, ReturnsName, ScriptMachine, UsesUnassigned, held_after}

-- A variable holds zero until it is assigned, and a use of it before that reads zero.
pub record ReadsZero (machine : ScriptMachine) : Type 0 where
  pub held : (n variable : ℕ) → IsUnassigned machine n variable
      → (state_after machine n).variables variable ≡ 0
  pub read : (n variable : ℕ) (name : Name) → UsesUnassigned machine n variable name
      → held_after machine (suc n) name ≡ 0

pub record UnassignedReadsZero : Type 0 where
  -- of every program, in every world
  pub reads_zero : (run : ScriptRun) → ReadsZero (script_machine run)
  -- In a run of a script's program the name holds zero until a use gives it anew. A collector may
  -- move it: that of each world leaves zero.
  pub stays_zero : (script : Script) (run : ScriptRun) → run.program ≡ program_of script
      → (n variable : ℕ) (name : Name) → HoldsUnassigned (script_machine run) n variable name
      → held_after (script_machine run) n name ≡ 0

-- the run returned, and the result with this index is zero
abbrev pub HasReturnedZero : (index : ℕ) → Ending → Type 0
HasReturnedZero index (Returned results memory) = slice_get results index ≡ Some 0
HasReturnedZero index NotYet = ⊥
HasReturnedZero index (Trapped reason memory) = ⊥
HasReturnedZero index Stuck = ⊥

-- the run returns at some moment, with zero as this result, and ends in no other way
pub record ReturnsZero (run : Behaviour) (index : ℕ) : Type 0 where
  pub returns : (n : ℕ) × HasReturnedZero index (run n).ending
  pub no_other_end : (n : ℕ) → IsEnd (run n).ending → HasReturnedZero index (run n).ending

-- The script's machine makes an outside call in the step behind the first n, with zero as this argument,
-- and at some moment the run shows that call behind the same earlier ones.
pub record PassesZero (machine : ScriptMachine) (run : Behaviour) (n index : ℕ) : Type 0 where
  pub event : Event
  pub called : (state_after machine (suc n)).events ≡ event ∷ (state_after machine n).events
  pub zero : slice_get event.arguments index ≡ Some 0
  pub moment : ℕ
  pub shown : (run moment).events ≡ (state_after machine (suc n)).events

-- What the script's run returns or passes of such a use the function returns or passes as zero.
pub record ShowsZero (machine : ScriptMachine) (run : Behaviour) : Type 0 where
  pub returned : (n index variable : ℕ) (name : Name) → HoldsUnassigned machine n variable name
      → ReturnsName machine n index name → ReturnsZero run index
  pub passed : (n index variable : ℕ) (name : Name) → HoldsUnassigned machine n variable name
      → PassesName machine n index name → PassesZero machine run n index

-- A function that means what its script means shows zero, in each world under the premises.
abbrev pub ShownAsZero : Type 0
ShownAsZero =
    (script : Script) (signature : SignatureShape) (width : PointerWidth) (function : FunctionView)
    → MeansTheSame script signature width function
    → (world : World) → IsWorldOf signature function width world
    → Premises script signature (pointer_type_of width) (script_run script function world)
    → ShowsZero (script_machine (script_run script function world))
    (function_behaviour script function world)
