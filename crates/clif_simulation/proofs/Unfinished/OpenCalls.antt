-- What an outside call of an unfinished function has to keep: where both runs agree on a path, they agree behind the call. They do
-- where both move what has a label.
use Rattle.std.proofs.Common.{◌≡◌, ◌⊎◌, inl, inr, ℕ, Bool, List, [], Option, Some, None, refl, sym, ◌∙◌}
use Rattle.clif_types.specs.declared.stackmap.UserStackMapEntry.{UserStackMapEntry}
use Rattle.clif_ir.specs.Body.{Body}
use Rattle.clif_ir.specs.Consistent.{IsConsistent}
use Rattle.clif_paths.specs.Places.{Follows, Path}
use Rattle.clif_paths.specs.State.{Function, Program}
use Rattle.clif_ssa.specs.Ssa.{SsaState}
use Rattle.clif_meaning.specs.Bits.{Bits}
use Rattle.clif_meaning.specs.Event.{CallShape, Callee, Event}
use Rattle.clif_meaning.specs.Name.{Name}
use Rattle.clif_meaning.specs.Premises.{EachItem}
use Rattle.clif_meaning.specs.Request.{AnsweredCall}
use Rattle.clif_meaning.specs.World.{World}
use Rattle.clif_meaning.specs.ScriptMachine as script
use Rattle.clif_meaning.specs.ScriptMachine.{ScriptState}
use Rattle.clif_meaning.specs.FunctionMachine as machine
use Rattle.clif_meaning.specs.FunctionMachine.{Collector, FunctionState}
use Rattle.clif_simulation.specs.Carries.{CallsNothing}
use Rattle.clif_simulation.specs.Coming.{AreBranches, Arrival, Arrivals, Coming, function_moved, script_moved}
use Rattle.clif_simulation.specs.Reading.{function_run_so_far, script_run_so_far}
use Rattle.clif_simulation.specs.Tables.{program_so_far}
use Rattle.clif_simulation.proofs.Finished.Agreement.{Agrees, ZerosAreZero}
use Rattle.clif_simulation.proofs.Labelling.Labelled.{MovesBy, MovesLabelled}
use Rattle.clif_simulation.proofs.Labelling.Labels.{Labels}
use Rattle.clif_simulation.proofs.Labelling.Moved
use Rattle.clif_simulation.proofs.Unfinished.OpenEdges
use Rattle.clif_simulation.proofs.Unfinished.OpenFlow
use Rattle.clif_simulation.proofs.Whole.{Whole}

module _ (coming : Coming) (calls : List AnsweredCall) (f : Body) (ssa : SsaState) (consistent : IsConsistent f) (carries : Whole calls f ssa)
    (world : World) (tracked : Name → Bool) (collector : Collector)
    (labels : Labels (OpenEdges.program calls f ssa consistent carries) (OpenEdges.function calls f ssa consistent carries))
  where
    abbrev program : Program
    program = OpenEdges.program calls f ssa consistent carries

    abbrev function : Function
    function = OpenEdges.function calls f ssa consistent carries

    abbrev live : ℕ → Type 0
    live = OpenEdges.live calls f ssa consistent carries

    -- both states agree on the path
    pub record AgreeOn (path : Path) (p : ScriptState) (q : FunctionState) : Type 0 where
      pub agrees : Agrees live program function labels path p.variables p.names q.values
      pub zeros : ZerosAreZero program function path p.variables p.names q.values

    -- behind each outside call of both, states still agree that agreed on a path along the edges
    abbrev pub KeepAgreement : Type 0
    KeepAgreement =
        (path : Path) → Follows (OpenFlow.edges coming calls f ssa consistent carries) path
        → (p : ScriptState) (q : FunctionState) → p.memory ≡ q.memory → p.events ≡ q.events
        → (entries : List UserStackMapEntry) → entries ≡ [] → (callee : Callee) (call : CallShape) (arguments : List Bits)
        → AgreeOn path p q
        → AgreeOn path (script.call_outside (script_run_so_far calls f world tracked) p callee call arguments)
        (machine.call_outside (function_run_so_far calls f world collector) q entries callee call arguments)

    -- or nothing is called
    abbrev pub CallsKeep : Type 0
    CallsKeep = EachItem CallsNothing (program_so_far calls) ⊎ KeepAgreement

    -- nor do edges that may come change that, where what an outside call moves has moved
    abbrev pub KeepMoved : Type 0
    KeepMoved =
        (path : Path) → Follows (OpenFlow.edges coming calls f ssa consistent carries) path
        → (events : List Event) (call : CallShape) (p : ScriptState) (q : FunctionState) → AgreeOn path p q
        → AgreeOn path (script_moved (script_run_so_far calls f world tracked) events (Some call) p)
        (function_moved (function_run_so_far calls f world collector) events (Some call) q)

    -- or branches make them
    abbrev pub ArrivalsKeep : Arrivals → Type 0
    ArrivalsKeep arrivals = AreBranches arrivals ⊎ KeepMoved

    pub arrival_keeps : (arrivals : Arrivals) → ArrivalsKeep arrivals → (entries : ℕ) (arrival : Arrival) → arrivals entries ≡ Some arrival
        → (path : Path) → Follows (OpenFlow.edges coming calls f ssa consistent carries) path → (p : ScriptState) (q : FunctionState) → AgreeOn path p q
        → AgreeOn path (script_moved (script_run_so_far calls f world tracked) arrival.events arrival.call p)
        (function_moved (function_run_so_far calls f world collector) arrival.events arrival.call q)
    arrival_keeps arrivals keeps entries arrival is path follows p q agree = by arrival.call refl keeps
      where
        by : (o : Option CallShape) → arrival.call ≡ o → ArrivalsKeep arrivals
            → AgreeOn path (script_moved (script_run_so_far calls f world tracked) arrival.events o p)
            (function_moved (function_run_so_far calls f world collector) arrival.events o q)
        by None none keep = agree
        by (Some call) some (inl branches) = absurd (none_some call (sym (branches entries arrival is) ∙ some))
          where
            none_some : (x : CallShape) → None ≡ Some x → ⊥
            none_some x e = cc
        by (Some call) some (inr keep) = keep path follows arrival.events call p q agree

    labelled_keep : MovesLabelled calls f tracked collector program function labels → KeepAgreement
    labelled_keep moving path follows p q same_memory same_events entries no_map callee call arguments agree =
        let name_is = Moved.name_is calls f world tracked collector p q same_memory same_events entries no_map callee call arguments program function labels moving in
        let value_is = Moved.value_is calls f world tracked collector p q same_memory same_events entries no_map callee call arguments program function labels moving in
        record {
          agrees = Moved.agrees_behind calls f world tracked collector p q same_memory same_events entries no_map callee call arguments program function labels moving
              live path p.names q.values agree.agrees agree.zeros.held (script.call_outside (script_run_so_far calls f world tracked) p callee call arguments).names
              (machine.call_outside (function_run_so_far calls f world collector) q entries callee call arguments).values name_is value_is;
          zeros = record {
            held = Moved.nothing_behind calls f world tracked collector p q same_memory same_events entries no_map callee call arguments program function labels moving
                live path p.names q.values agree.agrees agree.zeros.held
                (script.call_outside (script_run_so_far calls f world tracked) p callee call arguments).names name_is;
            of_value = λ w blank.
                value_is w
                ∙ Moved.zero_value calls f world tracked collector p q same_memory same_events entries no_map callee call arguments program function labels moving q.values w
                (agree.zeros.of_value w blank);
          };
        }

    pub calls_keep : MovesBy calls f tracked collector program function labels → CallsKeep
    calls_keep (inl none) = inl none
    calls_keep (inr moving) = inr (labelled_keep moving)
