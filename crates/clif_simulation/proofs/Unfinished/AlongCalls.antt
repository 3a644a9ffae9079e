-- What an outside call has to keep where no branch was made: bits that stand for those of names and values, and agree on a path, move
-- to ones that do, too. They do where both runs move what has a label.
use Rattle.std.proofs.Common.{◌≡◌, ◌⊎◌, inl, inr, ℕ, Bool, List, [], refl, sym, ◌∙◌, ap}
use Rattle.clif_ir.specs.Body.{Body}
use Rattle.clif_ir.specs.Consistent.{IsConsistent}
use Rattle.clif_paths.specs.Places.{Follows, Path}
use Rattle.clif_paths.specs.State.{Function, Program}
use Rattle.clif_ssa.specs.Ssa.{SsaState}
use Rattle.clif_meaning.specs.Bits.{Bits}
use Rattle.clif_meaning.specs.Event.{CallShape, Callee}
use Rattle.clif_meaning.specs.Name.{Name}
use Rattle.clif_meaning.specs.Premises.{EachItem}
use Rattle.clif_meaning.specs.Request.{AnsweredCall}
use Rattle.clif_meaning.specs.World.{World}
use Rattle.clif_meaning.specs.ScriptMachine as script
use Rattle.clif_meaning.specs.ScriptMachine.{ScriptRun, ScriptState}
use Rattle.clif_meaning.specs.FunctionMachine as machine
use Rattle.clif_meaning.specs.FunctionMachine.{Collector, FunctionRun, FunctionState}
use Rattle.clif_simulation.specs.Carries.{CallsNothing}
use Rattle.clif_simulation.specs.Reading.{MovesAlike, function_run_so_far, script_run_so_far}
use Rattle.clif_simulation.specs.Tables.{program_so_far}
use Rattle.clif_simulation.proofs.Finished.Agreement.{Agrees, NothingIsZero, any_value}
use Rattle.clif_simulation.proofs.Labelling.Labelled
use Rattle.clif_simulation.proofs.Labelling.Labelled.{MovesBy, MovesLabelled, ends_labels, ends_moves, labelled}
use Rattle.clif_simulation.proofs.Labelling.Labels.{Labels}
use Rattle.clif_simulation.proofs.Labelling.Moved
use Rattle.clif_simulation.proofs.Labelling.Outside.{moved_if}
use Rattle.clif_simulation.proofs.Unfinished.ComingCode.{nothing_comes}
use Rattle.clif_simulation.proofs.Unfinished.Ended.{with_ends_only}
use Rattle.clif_simulation.proofs.Unfinished.OpenFlow
use Rattle.clif_simulation.proofs.Whole.{Whole}

module _ (calls : List AnsweredCall) (f : Body) (ssa : SsaState) (consistent : IsConsistent f) (carries : Whole calls f ssa)
    (world : World) (tracked : Name → Bool) (collector : Collector)
  where
    abbrev left_run : ScriptRun
    left_run = script_run_so_far calls f world tracked

    abbrev right_run : FunctionRun
    right_run = function_run_so_far calls f world collector

    abbrev program : Program
    program = Labelled.program calls f ssa consistent carries

    abbrev function : Function
    function = Labelled.function calls f ssa consistent carries

    -- the values that are no aliases
    abbrev ends_only : Function
    ends_only = with_ends_only function

    module _ (labels : Labels program function) where
      abbrev of_ends : Labels program ends_only
      of_ends = ends_labels calls f ssa consistent carries labels

      -- bits behind a call that agree, and stand for those of the states, where the ones before it did
      pub record Behind (path : Path) (p : ScriptState) (q : FunctionState) (callee : Callee) (call : CallShape) (arguments : List Bits)
          (names : Name → Bits) (values : ℕ → Bits) : Type 0 where
        pub new_names : Name → Bits
        pub new_values : ℕ → Bits
        pub agrees : Agrees any_value program ends_only of_ends path (script.call_outside left_run p callee call arguments).variables new_names new_values
        pub held : NothingIsZero program path (script.call_outside left_run p callee call arguments).variables new_names
        pub names_are : (x : Name) → names x ≡ p.names x → new_names x ≡ (script.call_outside left_run p callee call arguments).names x
        pub values_are : (w : ℕ) → values w ≡ q.values w → new_values w ≡ (machine.call_outside right_run q [] callee call arguments).values w

      abbrev pub KeepAlong : Type 0
      KeepAlong =
          (path : Path) → Follows (OpenFlow.edges nothing_comes calls f ssa consistent carries) path
          → (p : ScriptState) (q : FunctionState) → p.memory ≡ q.memory → p.events ≡ q.events
          → (callee : Callee) (call : CallShape) (arguments : List Bits) (names : Name → Bits) (values : ℕ → Bits)
          → Agrees any_value program ends_only of_ends path p.variables names values → NothingIsZero program path p.variables names
          → Behind path p q callee call arguments names values

      labelled_along : MovesLabelled calls f tracked collector program ends_only of_ends → KeepAlong
      labelled_along moving path follows p q same_memory same_events callee call arguments names values agrees held = record {
        new_names = Moved.name_behind calls f world tracked collector p q same_memory same_events [] refl callee call arguments program ends_only of_ends moving names;
        new_values = Moved.value_behind calls f world tracked collector p q same_memory same_events [] refl callee call arguments program ends_only of_ends moving values;
        agrees = Moved.agrees_behind calls f world tracked collector p q same_memory same_events [] refl callee call arguments program ends_only of_ends moving
            any_value path names values agrees held
            (Moved.name_behind calls f world tracked collector p q same_memory same_events [] refl callee call arguments program ends_only of_ends moving names)
            (Moved.value_behind calls f world tracked collector p q same_memory same_events [] refl callee call arguments program ends_only of_ends moving values)
            (λ x. refl) (λ w. refl);
        held = Moved.nothing_behind calls f world tracked collector p q same_memory same_events [] refl callee call arguments program ends_only of_ends moving
            any_value path names values agrees held
            (Moved.name_behind calls f world tracked collector p q same_memory same_events [] refl callee call arguments program ends_only of_ends moving names) (λ x. refl);
        names_are = λ x same.
            ap (λ (bits : ℕ). moved_if (of_ends.of_name x) (world.moved (script.call_outside left_run p callee call arguments).events call (left_run.name_type x) bits) bits) same
            ∙ sym (Moved.name_is calls f world tracked collector p q same_memory same_events [] refl callee call arguments program ends_only of_ends moving x);
        values_are = λ w same.
            ap (λ (bits : ℕ).
            moved_if (of_ends.of_value w) (world.moved (machine.call_outside right_run q [] callee call arguments).events call (right_run.function.value_type w) bits) bits) same
            ∙ sym (Moved.value_is calls f world tracked collector p q same_memory same_events [] refl callee call arguments program ends_only of_ends moving w);
      }

    -- what has a label, and that calls keep agreement, or nothing is called
    abbrev pub MovesHere : Type 0
    MovesHere = (labels : Labels program function) × (EachItem CallsNothing (program_so_far calls) ⊎ KeepAlong labels)

    pub moves_here : MovesAlike calls tracked collector → MovesHere
    moves_here moves =
        let moving = labelled calls f ssa consistent carries tracked collector moves in
        (moving.0, by moving.0 (ends_moves calls f ssa consistent carries moving.0 tracked collector moving.1))
      where
        by : (labels : Labels program function) → MovesBy calls f tracked collector program ends_only (of_ends labels)
            → EachItem CallsNothing (program_so_far calls) ⊎ KeepAlong labels
        by labels (inl none) = inl none
        by labels (inr moving) = inr (labelled_along labels moving)
