-- All that a function holds which carries a list of calls, where the entry is free.
use Rattle.std.proofs.Common.{true, ◌≡◌, ◌≢◌, ℕ, List, [], ◌∷◌, ◌++◌, map, refl, sym, ◌∙◌, ap, Some}
use Rattle.std.specs.Prelude.{Contains, slice_get}
use Rattle.std.specs.List.{AllByRecursion}
use Rattle.clif_ir.specs.Body.{Body, block_at}
use Rattle.clif_ir.specs.Consistent.{IsConsistent}
use Rattle.clif_instructions.specs.declared.block_call.BlockArg.{BlockArg}
use Rattle.clif_instructions.specs.declared.block_call.BlockArg.TheVariants.{Value}
use Rattle.clif_paths.specs.Blocks.{Blocks}
use Rattle.clif_paths.specs.BlockLaws.{BlocksSound}
use Rattle.clif_records.specs.declared.tables.Pending.{Pending}
use Rattle.clif_records.specs.Tables.{No, Sealed, Yes, is_yes, pending_of}
use Rattle.clif_ssa.specs.Own.{Own}
use Rattle.clif_ssa.specs.Ssa.{SsaState, sealed_of, predecessors_of}
use Rattle.clif_ssa.specs.Sound.{Describes, CountsArguments, EntryIsFree, args_of, edges_at, edge_target}
use Rattle.clif_ssa.specs.Structured.{HasParameters, Structured, VariableTypes, waiting_of}
use Rattle.clif_meaning.specs.Name.{Name}
use Rattle.clif_meaning.specs.Request.{AnsweredCall, script_of}
use Rattle.clif_meaning.specs.Ledger.{ledger_after, or_invalid, variable_type}
use Rattle.clif_meaning.specs.Instruction.{Edge}
use Rattle.clif_meaning.specs.Premises.{EachItem, HasGoodTargets, IsGoodTarget}
use Rattle.clif_meaning.specs.Program.{Item, Instruct, Use, Assign}
use Rattle.clif_simulation.specs.Tables.{program_so_far, IsProgramOf}
use Rattle.clif_simulation.specs.Tracks.{TracksOnPaths}
use Rattle.clif_simulation.specs.Carries.{AreDeclared, AreTypes, Carries, EdgesEnd, HasEntry, HasItems, Holds, LeadsOwn, NamesEarlier, OwnExist, OwnInserted, OwnNamed, OwnParameters, SoundOnPaths, SparesBlock, SparesEntry, ValuesGiven, ValuesTyped}
use Rattle.clif_simulation.proofs.FreeEntry.{free_spared}

-- each edge of a branch that leads to a block passes what the caller passed, and then more
abbrev pub PassesOwnFirst : Own → Body → SsaState → Type 0
PassesOwnFirst own f s =
    (target inst k : ℕ) → Contains (predecessors_of s target) inst → edge_target f inst k ≡ Some target
    → (more : List BlockArg) × (args_of (slice_get (edges_at f inst) k) ≡ own.passed inst k ++ more)

-- a block's parameters are the caller's, and then others
abbrev pub HasOwnFirst : Own → Body → Type 0
HasOwnFirst own f = (block : ℕ) → (others : List ℕ) × ((block_at f block).params ≡ own.params block ++ others)

-- All in one record.
pub record Whole (calls : List AnsweredCall) (f : Body) (s : SsaState) : Type 0 where
  pub tables : Blocks
  pub own : Own
  pub program : IsProgramOf calls tables
  pub items : HasItems calls f own
  pub earlier : (name : Name) → AllByRecursion (NamesEarlier calls) ((program_so_far calls).items name)
  pub edges_end : (name : Name) → EdgesEnd ((program_so_far calls).items name)
  pub own_exist : OwnExist f own.insts
  pub own_named : OwnNamed calls own.insts
  pub own_inserted : OwnInserted f own.insts
  pub declared : AreDeclared f s own.insts
  pub leads_own : LeadsOwn calls own s
  pub passes_first : PassesOwnFirst own f s
  pub parameters_first : HasOwnFirst own f
  pub parameters : OwnParameters calls own
  pub values_given : ValuesGiven calls tables
  pub values_typed : ValuesTyped calls f
  pub entry : HasEntry calls f
  pub describes : Describes own f s [] tables
  pub sound : BlocksSound tables
  pub counts : CountsArguments own f s tables
  pub tracked : TracksOnPaths calls s tables
  pub structured : (types : VariableTypes) → AreTypes calls types → Structured types own f s []

-- types that the calls declare
abbrev pub declared_types : List AnsweredCall → VariableTypes
declared_types calls x = or_invalid (variable_type (ledger_after (script_of calls)) x)

pub are_declared : (calls : List AnsweredCall) → AreTypes calls (declared_types calls)
are_declared calls x ty is = ap or_invalid is

-- Lists that are empty, and parameters that wait -----------------------------------------------------------------------------

pub none_complete : (xs : List ℕ) → (xs ≢ [] → ⊥) → xs ≡ []
none_complete [] some = refl
none_complete (x ∷ xs) some = absurd (some (λ none. cc))

-- in a sealed block nothing waits
pub sealed_none : (entry : Sealed) → is_yes entry ≡ true → pending_of entry ≡ []
sealed_none (No waiting) is = cc
sealed_none Yes is = refl

-- the parameters that wait in a block, where none is being completed
pub waiting_pending : (f : Body) (entry : Sealed) (b : ℕ) → waiting_of f entry [] b ≡ pending_of entry
waiting_pending f (No pending) b = refl
waiting_pending f Yes b = refl

-- The whole record --------------------------------------------------------------------------------------------------------------

pub passes_first : (own : Own) (f : Body) (s : SsaState) (types : VariableTypes) → Structured types own f s [] → PassesOwnFirst own f s
passes_first own f s types structured target inst k leads to =
    let edge = (structured.parameters target).edges inst k leads to in
    (map Value edge.values, edge.in_order)

pub parameters_first : (own : Own) (f : Body) (s : SsaState) (types : VariableTypes) → Structured types own f s [] → HasOwnFirst own f
parameters_first own f s types structured block =
    let has : HasParameters own f s [] block = structured.parameters block in
    (has.complete ++ map (λ (p : Pending). p.param) (waiting_of f (sealed_of s block) [] block), has.in_order)

pub whole : (calls : List AnsweredCall) (f : Body) (s : SsaState) → IsConsistent f → Carries calls f s → EntryIsFree f s → Whole calls f s
whole calls f s consistent carries free =
    let paths : SoundOnPaths calls carries.own f s = carries.on_paths free in
    let holds : Holds calls carries.own f s = carries.holds in
    let structured : Structured (declared_types calls) carries.own f s [] = holds.structured (declared_types calls) (are_declared calls) in
    record {
      tables = paths.tables;
      own = carries.own;
      program = paths.program;
      items = holds.items;
      earlier = holds.earlier;
      edges_end = holds.edges_end;
      own_exist = holds.own_exist;
      own_named = holds.own_named;
      own_inserted = holds.own_inserted;
      declared = holds.declared;
      leads_own = holds.leads_own;
      passes_first = passes_first carries.own f s (declared_types calls) structured;
      parameters_first = parameters_first carries.own f s (declared_types calls) structured;
      parameters = holds.parameters;
      values_given = paths.values_given;
      values_typed = holds.values_typed;
      entry = holds.entry;
      describes = paths.describes;
      sound = paths.sound;
      counts = paths.counts;
      tracked = paths.tracked;
      structured = holds.structured;
    }

-- what the caller made is what it was
pub whole_own : (calls : List AnsweredCall) (f : Body) (s : SsaState) (consistent : IsConsistent f) (carries : Carries calls f s) (free : EntryIsFree f s)
    → (whole calls f s consistent carries free).own ≡ carries.own
unfolding whole
whole_own calls f s consistent carries free = refl

-- Where no target of a branch is the entry, none names the entry -------------------------------------------------------------------

module _ (calls : List AnsweredCall) (entry : Name) (is_entry : (program_so_far calls).entry ≡ Some entry) where
  edges_spare : (edges : List (Edge Name Name)) → AllByRecursion (IsGoodTarget (ledger_after (script_of calls)) (program_so_far calls)) edges
      → AllByRecursion (λ (edge : Edge Name Name). edge.target ≢ entry) edges
  edges_spare [] good = tt
  edges_spare (edge ∷ edges) good = (λ same. good.0.no_entry (is_entry ∙ ap (λ (n : Name). Some n) (sym same)), edges_spare edges good.1)

  items_spare : (items : List Item) → AllByRecursion (HasGoodTargets (ledger_after (script_of calls)) (program_so_far calls)) items → AllByRecursion (SparesBlock entry) items
  items_spare [] good = tt
  items_spare (Instruct place instruction results ∷ items) good = (edges_spare instruction.edges good.0, items_spare items good.1)
  items_spare (Use variable name ∷ items) good = (tt, items_spare items good.1)
  items_spare (Assign variable name ∷ items) good = (tt, items_spare items good.1)

spared : (calls : List AnsweredCall) → EachItem (HasGoodTargets (ledger_after (script_of calls)) (program_so_far calls)) (program_so_far calls) → SparesEntry calls
spared calls good entry is block = items_spare calls entry is ((program_so_far calls).items block) (good block)

-- so the entry is free then
pub freed : (calls : List AnsweredCall) (f : Body) (s : SsaState) → Carries calls f s
    → EachItem (HasGoodTargets (ledger_after (script_of calls)) (program_so_far calls)) (program_so_far calls) → EntryIsFree f s
freed calls f s carries good = free_spared calls carries.own f s carries.holds (spared calls good)
