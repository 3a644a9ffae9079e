-- The premises of the theorem on whole scripts: what is asked of a script and of a world. Own; they say what a front
-- end has to keep for its variables to mean what it wants.
use Rattle.std.specs.Prelude.{◌≡◌, ℕ, false, Bool, List, [], ◌∷◌, map, Option, Some, None, IsTrue, ◌≢◌}
use Rattle.std.specs.List.{AllByRecursion}
use Rattle.clif_types.specs.declared.types.«Type».{«Type»}
use Rattle.clif_types.specs.Signature.{SignatureShape}
use Rattle.clif_meaning.specs.Memory.{Range, lies_in}
use Rattle.clif_meaning.specs.Instruction.{Edge}
use Rattle.clif_tables.specs.Callees.{types_of}
use Rattle.clif_meaning.specs.Machine.{Control, At, HasReturned, HasTrapped, IsStuck, state_after}
use Rattle.clif_meaning.specs.Name.{Name}
use Rattle.clif_meaning.specs.Request.{Script}
use Rattle.clif_meaning.specs.Ledger.{Ledger, ledger_after, is_filled, type_of, or_invalid, variable_type, is_marked}
use Rattle.clif_meaning.specs.Program.{Program, Item, Instruct, Use, Assign, program_of}
use Rattle.clif_meaning.specs.Tracked.{is_tracked}
use Rattle.clif_meaning.specs.ScriptMachine.{ScriptRun, ScriptState, script_machine}
use Rattle.clif_meaning.specs.WellPlaced.{program_code, IsWellPlaced}
use Rattle.clif_meaning.specs.Typing.{call_shape, EachEdgeMatches, IsWellTyped}
use Rattle.clif_meaning.specs.Library.{library_parameters, library_returns}
use Rattle.clif_meaning.specs.Access.{Holds, touched_ranges, claims_of, LibraryCall, library_call}

-- it holds of each item of each block
abbrev pub EachItem : (Item → Type 0) → Program → Type 0
EachItem P program = (block : Name) → AllByRecursion P (program.items block)

-- The target of an edge is filled, and isn't the entry.
pub record IsGoodTarget (ledger : Ledger) (program : Program) (edge : Edge Name Name) : Type 0 where
  pub filled : IsTrue (is_filled ledger edge.target)
  pub no_entry : program.entry ≢ Some edge.target

abbrev pub HasGoodTargets : Ledger → Program → Item → Type 0
HasGoodTargets ledger program (Instruct place instruction results) = AllByRecursion (IsGoodTarget ledger program) instruction.edges
HasGoodTargets ledger program (Use variable name) = Unit {0}
HasGoodTargets ledger program (Assign variable name) = Unit {0}

-- the types of the caller's parameters of a block
abbrev pub parameter_types : Ledger → Program → Name → List «Type»
parameter_types ledger program block = map (λ name. or_invalid (type_of ledger name)) (program.parameters block)

-- An instruction is well typed; what is assigned has the variable's type.
abbrev pub IsItemWellTyped : Ledger → Program → List «Type» → Item → Type 0
IsItemWellTyped ledger program returns (Instruct place instruction results) =
    IsWellTyped (λ name. or_invalid (type_of ledger name)) (parameter_types ledger program) returns instruction
IsItemWellTyped ledger program returns (Use variable name) = Unit {0}
IsItemWellTyped ledger program returns (Assign variable name) = type_of ledger name ≡ variable_type ledger variable

-- the entry's parameters have these types
abbrev pub EntryTakes : Ledger → Program → List «Type» → Option Name → Type 0
EntryTakes ledger program types None = Unit {0}
EntryTakes ledger program types (Some entry) = parameter_types ledger program entry ≡ types

pub record WellTyped (ledger : Ledger) (program : Program) (signature : SignatureShape) : Type 0 where
  pub items : EachItem (IsItemWellTyped ledger program (types_of signature.returns)) program
  pub entry : EntryTakes ledger program (types_of signature.params) program.entry

-- No tracked name is assigned to an unmarked variable or answered by a use of one.
abbrev pub KeepsTrackedApart : Ledger → (Name → Bool) → Item → Type 0
KeepsTrackedApart ledger tracked (Instruct place instruction results) = Unit {0}
KeepsTrackedApart ledger tracked (Use variable name) = IsTrue (tracked name) → IsTrue (is_marked ledger variable)
KeepsTrackedApart ledger tracked (Assign variable name) = IsTrue (tracked name) → IsTrue (is_marked ledger variable)

-- no byte of the range lies in a spill slot
abbrev pub SparesRange : (ℕ → Bool) → Range → Type 0
SparesRange hidden range = (address : ℕ) → IsTrue (lies_in range address) → hidden address ≡ false

-- what is asked of the item that a state of the script machine stands before
abbrev pub OfNextItem : (Item → Type 0) → Control Item → Type 0
OfNextItem P (At []) = Unit {0}
OfNextItem P (At (item ∷ rest)) = P item
OfNextItem P (HasReturned results) = Unit {0}
OfNextItem P (HasTrapped reason) = Unit {0}
OfNextItem P IsStuck = Unit {0}

-- the item's accesses spare spill slots, in this state
abbrev pub SparesSpillSlots : ScriptRun → ScriptState → Item → Type 0
SparesSpillSlots run state (Instruct place instruction results) =
    AllByRecursion (SparesRange run.hidden) (touched_ranges run.world instruction.operation instruction.controlling (map run.name_type instruction.operands) (map state.names instruction.operands))
SparesSpillSlots run state (Use variable name) = Unit {0}
SparesSpillSlots run state (Assign variable name) = Unit {0}

-- what the item claims is true, in this state
abbrev pub ClaimsAreTrue : ScriptRun → ScriptState → Item → Type 0
ClaimsAreTrue run state (Instruct place instruction results) =
    AllByRecursion (Holds run.world) (claims_of run.world instruction.operation instruction.controlling (map run.name_type instruction.operands) (map state.names instruction.operands))
ClaimsAreTrue run state (Use variable name) = Unit {0}
ClaimsAreTrue run state (Assign variable name) = Unit {0}

-- it holds of each item that a run of the script comes to, in the state then
abbrev pub InEachStep : (ScriptState → Item → Type 0) → ScriptRun → Type 0
InEachStep P run = (n : ℕ) → OfNextItem (P (state_after (script_machine run) n)) (state_after (script_machine run) n).control

-- a call of a function of the C library has that function's signature, with pointers of this type
pub record HasLibrarySignature (pointer : «Type») (call : LibraryCall) : Type 0 where
  pub parameters : types_of call.signature.params ≡ library_parameters pointer call.callee
  pub returns : types_of call.signature.returns ≡ library_returns pointer call.callee

abbrev pub IfLibraryCall : «Type» → Option LibraryCall → Type 0
IfLibraryCall pointer None = Unit {0}
IfLibraryCall pointer (Some call) = HasLibrarySignature pointer call

abbrev pub CallsLibraryAsNamed : «Type» → Item → Type 0
CallsLibraryAsNamed pointer (Instruct place instruction results) = IfLibraryCall pointer (library_call instruction.operation)
CallsLibraryAsNamed pointer (Use variable name) = Unit {0}
CallsLibraryAsNamed pointer (Assign variable name) = Unit {0}

-- The premises on a script, made for a function of this signature with pointers of this type, and on the run of it.
pub record Premises (script : Script) (signature : SignatureShape) (pointer : «Type») (run : ScriptRun) : Type 0 where
  -- every target of a branch is filled, and isn't the entry
  pub targets_filled : EachItem (HasGoodTargets (ledger_after script) (program_of script)) (program_of script)
  -- operands, arguments of edges, assigned and returned values are well typed, and the entry's parameters are the
  -- signature's
  pub well_typed : WellTyped (ledger_after script) (program_of script) signature
  -- a value that is named is given before that place on every path from the entry
  pub given_before : IsWellPlaced (program_code (program_of script))
  -- no tracked name is assigned to an unmarked variable or answered by a use of one
  pub tracked_apart : EachItem (KeepsTrackedApart (ledger_after script) (is_tracked script)) (program_of script)
  -- no access of the script's run touches a spill slot
  pub spares_spill_slots : InEachStep (SparesSpillSlots run) run
  -- what the script claims of accessible ranges, alignments and overlap is true in its run
  pub claims_true : InEachStep (ClaimsAreTrue run) run
  -- a callee with the name of a library function has that function's signature
  pub libc_as_named : EachItem (CallsLibraryAsNamed pointer) (program_of script)

-- The premises under which a finished function is well placed: those of the script alone that speak of branches, types
-- and names.
pub record PlacementPremises (script : Script) (signature : SignatureShape) : Type 0 where
  pub targets_filled : EachItem (HasGoodTargets (ledger_after script) (program_of script)) (program_of script)
  pub well_typed : WellTyped (ledger_after script) (program_of script) signature
  pub given_before : IsWellPlaced (program_code (program_of script))

-- The premise under which a finished function's edges match: the arguments that the caller gives an edge and the
-- caller's parameters of its target agree.
abbrev pub ItemEdgesMatch : Ledger → Program → Item → Type 0
ItemEdgesMatch ledger program (Instruct place instruction results) =
    EachEdgeMatches (λ name. or_invalid (type_of ledger name)) (parameter_types ledger program) (call_shape instruction.operation) instruction.edges
ItemEdgesMatch ledger program (Use variable name) = Unit {0}
ItemEdgesMatch ledger program (Assign variable name) = Unit {0}

abbrev pub CallersEdgesMatch : Script → Type 0
CallersEdgesMatch script = EachItem (ItemEdgesMatch (ledger_after script) (program_of script)) (program_of script)
