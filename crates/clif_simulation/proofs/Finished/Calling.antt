-- An outside call of a finished function: what is marked, what is tracked and what the collector moves agree, so both sides still do.
use Rattle.std.proofs.Common.{◌≡◌, ◌⊎◌, inl, inr, ℕ, Bool, List, [], sym, ◌∙◌, subst}
use Rattle.clif_types.specs.Signature.{SignatureShape}
use Rattle.clif_types.specs.declared.stackmap.UserStackMapEntry.{UserStackMapEntry}
use Rattle.clif_types.specs.declared.types.«Type».{«Type»}
use Rattle.clif_ir.specs.Body.{Body}
use Rattle.clif_ir.specs.Consistent.{IsConsistent}
use Rattle.clif_paths.specs.Places.{Follows, Path}
use Rattle.clif_paths.specs.Denotation.{Instance, denotes, instances, name, variable}
use Rattle.clif_paths.specs.State.{Function, Program}
use Rattle.clif_ssa.specs.Ssa.{SsaState}
use Rattle.clif_meaning.specs.Bits.{Bits}
use Rattle.clif_meaning.specs.Event.{CallShape, Callee, Event}
use Rattle.clif_meaning.specs.FunctionMachine as machine
use Rattle.clif_meaning.specs.FunctionMachine.{FunctionRun, FunctionState}
use Rattle.clif_meaning.specs.Ledger.{ledger_after}
use Rattle.clif_meaning.specs.Premises.{WellTyped}
use Rattle.clif_meaning.specs.Request.{AnsweredCall, script_of}
use Rattle.clif_meaning.specs.ScriptMachine as script
use Rattle.clif_meaning.specs.ScriptMachine.{ScriptRun, ScriptState}
use Rattle.clif_meaning.specs.View.{view_of}
use Rattle.clif_meaning.specs.WellPlaced.{program_code, IsWellPlaced}
use Rattle.clif_meaning.specs.World.{World}
use Rattle.clif_simulation.specs.Laws.{IsFinished}
use Rattle.clif_simulation.specs.Marked.{collected_run, marked_script_run}
use Rattle.clif_simulation.specs.Tables.{code, program_so_far}
use Rattle.clif_simulation.proofs.Finished.Agreement.{Agrees, ZerosAreZero}
use Rattle.clif_simulation.proofs.Finished.Edges
use Rattle.clif_simulation.proofs.Finished.Sources
use Rattle.clif_simulation.proofs.Finished.Sources.{ComesOf, HaveSources, Moving, marks_alike}
use Rattle.clif_simulation.proofs.Finished.Straight.{arms}
use Rattle.clif_simulation.proofs.Labelling.Labels.{IsNothing, Labels, no_labels}
use Rattle.clif_simulation.proofs.Labelling.Outside
use Rattle.clif_simulation.proofs.Labelling.Outside.{moved_if}
use Rattle.clif_simulation.proofs.Whole.{Whole}

module _ (calls : List AnsweredCall) (f : Body) (s : SsaState) (consistent : IsConsistent f) (carries : Whole calls f s) (finished : IsFinished calls f s)
    (world : World) (signature : SignatureShape) (placed : IsWellPlaced (program_code (program_so_far calls)))
    (typed : WellTyped (ledger_after (script_of calls)) (program_so_far calls) signature) (moving : Moving calls carries.own f s)
  where
    abbrev left_run : ScriptRun
    left_run = marked_script_run calls f world moving.marked moving.tracked moving.hidden

    abbrev right_run : FunctionRun
    right_run = collected_run calls f world moving.collector moving.hidden

    abbrev program : Program
    program = Edges.program calls f s consistent carries finished placed

    abbrev function : Function
    function = Edges.function calls f s consistent carries finished placed

    abbrev live : ℕ → Type 0
    live = Edges.live calls f s consistent carries finished placed

    -- both agree about what moves and what doesn't
    abbrev labels : Labels program function
    labels = no_labels program function

    module _ (p : ScriptState) (q : FunctionState) (same_memory : p.memory ≡ q.memory) (same_events : p.events ≡ q.events)
        (entries : List UserStackMapEntry) (no_map : entries ≡ []) (callee : Callee) (call : CallShape) (arguments : List Bits)
        (path : Path) (follows : Follows (arms carries.tables) path)
        (agrees : Agrees live program function labels path p.variables p.names q.values)
        (zeros : ZerosAreZero program function path p.variables p.names q.values)
      where
        abbrev p' : ScriptState
        p' = script.call_outside left_run p callee call arguments

        abbrev q' : FunctionState
        q' = machine.call_outside right_run q entries callee call arguments

        pub events_are : p'.events ≡ q'.events
        events_are = Outside.events_are left_run f moving.collector p q same_memory same_events entries no_map callee call arguments

        pub memory_is : p'.memory ≡ q'.memory
        memory_is = Outside.memory_is left_run f moving.collector p q same_memory same_events entries no_map callee call arguments

        sources : Sources.HaveSources calls f s consistent carries finished placed signature typed moving path
        sources = Sources.have_sources calls f s consistent carries finished placed signature typed moving path follows

        abbrev value_types : ℕ → «Type»
        value_types w = (view_of f).value_type w

        abbrev moves : ℕ → Bool
        moves w = Outside.collects f moving.collector w

        value_is : (w : ℕ) → q'.values w ≡ moved_if (moves w) (world.moved q'.events call (value_types w) (q.values w)) (q.values w)
        value_is w = Outside.value_is left_run f moving.collector p q same_memory same_events entries no_map callee call arguments w

        -- What denotes the same as a value moves as it does, if its bits come from anywhere.
        module _ (w : ℕ) (is_live : live w) (mark : Bool) (ty : «Type») (i : Instance) (same : i ≡ denotes program function path w) (bits : Bits)
            (comes : ComesOf calls moving.tracked mark ty i) (agreed : bits ≡ q.values w) (none : IsNothing i → bits ≡ 0)
          where
            value_comes : ComesOf calls moving.tracked (moves w) (value_types w) i
            value_comes =
                subst (ComesOf calls moving.tracked (moves w) (value_types w)) (sym same)
                (Sources.value_comes calls f s consistent carries finished placed signature typed moving path follows w (sym (carries.describes.resolves w) ∙ is_live))

            moves_as : moved_if mark (world.moved p'.events call ty bits) bits ≡ q'.values w
            moves_as =
                Outside.moved_alike left_run f moving.collector p q same_memory same_events entries no_map callee call arguments
                mark (moves w) ty (value_types w) bits (q.values w) agreed
                (by (marks_alike calls moving.tracked mark (moves w) ty (value_types w) i comes value_comes))
                ∙ sym (value_is w)
              where
                by : IsNothing i ⊎ ((mark ≡ moves w) × (ty ≡ value_types w)) → (bits ≡ 0) ⊎ ((mark ≡ moves w) × (ty ≡ value_types w))
                by (inl nothing) = inl (none nothing)
                by (inr alike) = inr alike

        pub agrees_behind : Agrees live program function labels path p'.variables p'.names q'.values
        agrees_behind = record {
          of_variable = λ x w is_live fit same.
              moves_as w is_live (moving.marked x) (left_run.variable_type x) (instances program path (variable x)) same (p.variables x)
              (sources.variables x) (agrees.of_variable x w is_live fit same) (zeros.held.of_variable x);
          of_name = λ n w is_live fit same.
              moves_as w is_live (moving.tracked n) (left_run.name_type n) (instances program path (name (code n))) same (p.names n)
              (sources.names n) (agrees.of_name n w is_live fit same) (zeros.held.of_name n);
        }

        zero_moved : (events : List Event) (mark : Bool) (ty : «Type») (bits : Bits) → bits ≡ 0 → moved_if mark (world.moved events call ty bits) bits ≡ 0
        zero_moved events mark ty bits is =
            Outside.zero_moved left_run f moving.collector p q same_memory same_events entries no_map callee call arguments events mark ty bits is

        pub zeros_behind : ZerosAreZero program function path p'.variables p'.names q'.values
        zeros_behind = record {
          held = record {
            of_variable = λ x is. zero_moved p'.events (moving.marked x) (left_run.variable_type x) (p.variables x) (zeros.held.of_variable x is);
            of_name = λ n is. zero_moved p'.events (moving.tracked n) (left_run.name_type n) (p.names n) (zeros.held.of_name n is);
          };
          of_value = λ w blank. value_is w ∙ zero_moved q'.events (moves w) (value_types w) (q.values w) (zeros.of_value w blank);
        }
