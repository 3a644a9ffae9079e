-- An outside call of an unfinished function under marks: what moves on both sides agrees, so both runs still do, with any branches, and
-- where none was made.
use Rattle.std.proofs.Common.{◌≡◌, inl, ℕ, Bool, true, false, List, [], ◌∷◌, Some, refl, sym, ◌∙◌, ap, subst}
use Rattle.std.proofs.lemmas.Bool.{eqb-true}
use Rattle.std.specs.Prelude.{◌==◌}
use Rattle.clif_types.specs.declared.types.«Type».{«Type»}
use Rattle.clif_types.specs.Signature.{SignatureShape}
use Rattle.clif_ir.specs.Body.{Body, resolved}
use Rattle.clif_ir.specs.Consistent.{IsConsistent}
use Rattle.clif_paths.specs.Places.{Follows, Path}
use Rattle.clif_paths.specs.Denotation.{denotes, defined}
use Rattle.clif_paths.specs.State.{Definition, Function, Kind, Program}
use Rattle.clif_paths.proofs.Executing.{denotes-here, denotes-past}
use Rattle.clif_paths.proofs.PathLemmas.{dec_place}
use Rattle.clif_ssa.specs.Ssa.{SsaState}
use Rattle.clif_meaning.specs.Bits.{Bits}
use Rattle.clif_meaning.specs.Event.{CallShape, Event}
use Rattle.clif_meaning.specs.FunctionMachine as machine
use Rattle.clif_meaning.specs.FunctionMachine.{Collector, ByMaps, OverSet, FunctionRun, FunctionState}
use Rattle.clif_meaning.specs.Ledger.{ledger_after}
use Rattle.clif_meaning.specs.Name.{Name}
use Rattle.clif_meaning.specs.Request.{AnsweredCall, script_of}
use Rattle.clif_meaning.specs.ScriptMachine as script
use Rattle.clif_meaning.specs.ScriptMachine.{ScriptRun, ScriptState}
use Rattle.clif_meaning.specs.View.{view_of}
use Rattle.clif_meaning.specs.WellPlaced.{IsWellPlaced}
use Rattle.clif_meaning.specs.World.{World}
use Rattle.clif_simulation.specs.Coming.{Coming, code_coming, function_moved, script_moved}
use Rattle.clif_simulation.specs.Reading.{WellTypedSoFar, function_run_so_far, script_run_so_far}
use Rattle.clif_simulation.specs.Tables.{program_so_far}
use Rattle.clif_simulation.proofs.Finished.Agreement.{any_value}
use Rattle.clif_simulation.proofs.Finished.Entry.{resolved_twice}
use Rattle.clif_simulation.proofs.Labelling.Labels.{IsNothing, Labels, no_labels}
use Rattle.clif_simulation.proofs.Labelling.Outside
use Rattle.clif_simulation.proofs.Labelling.Outside.{collects, moved_if}
use Rattle.clif_simulation.proofs.Unfinished.AlongCalls.{KeepAlong}
use Rattle.clif_simulation.proofs.Unfinished.ComingCode.{nothing_comes}
use Rattle.clif_simulation.proofs.Unfinished.Ended.{alias_nowhere, denotes-end, with_ends_only}
use Rattle.clif_simulation.proofs.Unfinished.OpenCalls.{AgreeOn, KeepAgreement, KeepMoved}
use Rattle.clif_simulation.proofs.Unfinished.OpenEdges
use Rattle.clif_simulation.proofs.Unfinished.OpenFlow
use Rattle.clif_simulation.proofs.Whole.{Whole}
use Rattle.clif_standing_laws.specs.Marked.{MovesAsMarked}
use Rattle.clif_standing_laws.proofs.Marked.MovedAlike
use Rattle.clif_standing_laws.proofs.Marked.OpenSources
use Rattle.clif_standing_laws.proofs.Marked.OpenSources.{ComesOf}

module _ (coming : Coming) (calls : List AnsweredCall) (f : Body) (s : SsaState) (consistent : IsConsistent f) (carries : Whole calls f s)
    (placed : IsWellPlaced (code_coming coming calls)) (signature : SignatureShape) (growing : Name → Bool)
    (typed : WellTypedSoFar growing (ledger_after (script_of calls)) (program_so_far calls) signature) (world : World)
    (tracked : Name → Bool) (collector : Collector) (moving : MovesAsMarked calls carries.own f s tracked collector)
  where
    abbrev left_run : ScriptRun
    left_run = script_run_so_far calls f world tracked

    abbrev right_run : FunctionRun
    right_run = function_run_so_far calls f world collector

    abbrev program : Program
    program = OpenEdges.program calls f s consistent carries

    abbrev function : Function
    function = OpenEdges.function calls f s consistent carries

    abbrev live : ℕ → Type 0
    live = OpenEdges.live calls f s consistent carries

    -- both agree about what moves and what doesn't
    abbrev labels : Labels program function
    labels = no_labels program function

    abbrev moves : ℕ → Bool
    moves w = collects f collector w

    abbrev value_types : ℕ → «Type»
    value_types w = (view_of f).value_type w

    -- what the collector moves of values, behind these events
    abbrev values_moved : List Event → CallShape → (ℕ → Bits) → ℕ → Bits
    values_moved = MovedAlike.values_moved coming calls f s consistent carries placed signature growing typed world tracked collector moving

    collected_values : (events : List Event) (call : CallShape) (values : ℕ → Bits) (other : Collector) (w : ℕ)
        → machine.values_after right_run (world.moved events call) other values w
        ≡ moved_if (collects f other w) (world.moved events call (value_types w) (values w)) (values w)
    collected_values events call values ByMaps w = refl
    collected_values events call values (OverSet members) w = refl

    -- With any branches -------------------------------------------------------------------------------------------------------

    module _ (path : Path) (follows : Follows (OpenFlow.edges coming calls f s consistent carries) path) (events : List Event) (call : CallShape)
        (p : ScriptState) (q : FunctionState) (agree : AgreeOn coming calls f s consistent carries world tracked collector labels path p q)
      where
        live_comes : (w : ℕ) → live w → ComesOf calls tracked (moves w) (value_types w) (denotes program function path w)
        live_comes w is_live =
            OpenSources.value_comes coming calls f s consistent carries placed signature growing typed tracked collector moving path follows w
            (sym (carries.describes.resolves w) ∙ is_live)

        -- states with the bits that have moved
        agree_moved : (p' : ScriptState) (q' : FunctionState)
            → p'.variables ≡ (script_moved left_run events (Some call) p).variables → p'.names ≡ (script_moved left_run events (Some call) p).names
            → ((w : ℕ) → q'.values w ≡ values_moved events call q.values w) → AgreeOn coming calls f s consistent carries world tracked collector labels path p' q'
        agree_moved p' q' variables_are names_are values_are = record {
          agrees = MovedAlike.agrees_moved coming calls f s consistent carries placed signature growing typed world tracked collector moving events call path follows
              p.variables p.names agree.zeros.held live function labels q.values agree.agrees live_comes p'.variables p'.names q'.values
              (λ x. ap (λ (of : ℕ → Bits). of x) variables_are) (λ n. ap (λ (of : Name → Bits). of n) names_are) values_are;
          zeros = record {
            held = MovedAlike.held_moved coming calls f s consistent carries placed signature growing typed world tracked collector moving events call path follows
                p.variables p.names agree.zeros.held p'.variables p'.names
                (λ x. ap (λ (of : ℕ → Bits). of x) variables_are) (λ n. ap (λ (of : Name → Bits). of n) names_are);
            of_value = λ w blank.
                values_are w
                ∙ MovedAlike.zero_moved coming calls f s consistent carries placed signature growing typed world tracked collector moving events call
                (moves w) (value_types w) (q.values w) (agree.zeros.of_value w blank);
          };
        }

    -- behind an outside call
    pub keep : KeepAgreement coming calls f s consistent carries world tracked collector labels
    keep path follows p q same_memory same_events entries no_map callee call arguments agree =
        agree_moved path follows (script.call_outside left_run p callee call arguments).events call p q agree
        (script.call_outside left_run p callee call arguments) (machine.call_outside right_run q entries callee call arguments) refl refl
        (λ w.
        Outside.value_is left_run f collector p q same_memory same_events entries no_map callee call arguments w
        ∙ ap (λ (events : List Event). values_moved events call q.values w)
        (sym (Outside.events_are left_run f collector p q same_memory same_events entries no_map callee call arguments)))

    -- and where what an outside call moves has moved
    pub keep_moved : KeepMoved coming calls f s consistent carries world tracked collector labels
    keep_moved path follows events call p q agree =
        agree_moved path follows events call p q agree (script_moved left_run events (Some call) p) (function_moved right_run events (Some call) q) refl refl
        (collected_values events call q.values collector)

-- Where no branch was made --------------------------------------------------------------------------------------------------

module _ (calls : List AnsweredCall) (f : Body) (s : SsaState) (consistent : IsConsistent f) (carries : Whole calls f s)
    (placed : IsWellPlaced (code_coming nothing_comes calls)) (signature : SignatureShape) (growing : Name → Bool)
    (typed : WellTypedSoFar growing (ledger_after (script_of calls)) (program_so_far calls) signature) (world : World)
    (tracked : Name → Bool) (collector : Collector) (moving : MovesAsMarked calls carries.own f s tracked collector)
  where
    abbrev left : ScriptRun
    left = script_run_so_far calls f world tracked

    abbrev right : FunctionRun
    right = function_run_so_far calls f world collector

    abbrev of_program : Program
    of_program = OpenEdges.program calls f s consistent carries

    abbrev of_function : Function
    of_function = OpenEdges.function calls f s consistent carries

    -- the values that are no aliases
    abbrev ends_only : Function
    ends_only = with_ends_only of_function

    abbrev plain : Labels of_program of_function
    plain = no_labels of_program of_function

    abbrev collected : ℕ → Bool
    collected w = collects f collector w

    abbrev types : ℕ → «Type»
    types w = (view_of f).value_type w

    ends : (u : ℕ) → of_function.resolve (of_function.resolve u) ≡ of_function.resolve u
    ends u =
        carries.describes.resolves (of_function.resolve u) ∙ ap (resolved f) (carries.describes.resolves u)
        ∙ resolved_twice f u consistent ∙ sym (carries.describes.resolves u)

    -- what is defined nowhere denotes nothing
    unborn_nothing : (path : Path) (w : ℕ) → (ends_only.definition w).kind ≡ Kind.unborn → IsNothing (denotes of_program ends_only path w)
    unfolding denotes
    unborn_nothing [] w none = tt
    unborn_nothing (arm ∷ path) w none = by (dec_place (ends_only.definition w).home arm.target) (unborn_nothing path w none)
      where
        by : Dec ((ends_only.definition w).home ≡ arm.target) → IsNothing (denotes of_program ends_only path w) → IsNothing (denotes of_program ends_only (arm ∷ path) w)
        by (yes at) before =
            subst IsNothing (sym (denotes-here of_program ends_only arm path w at))
            (subst (λ (kind : Kind). IsNothing (defined of_program ends_only arm path (λ u. denotes of_program ends_only path u) w kind)) (sym none) tt)
        by (no other) before = subst IsNothing (sym (denotes-past of_program ends_only arm path w other)) before

    value_comes : (path : Path) → Follows (OpenFlow.edges nothing_comes calls f s consistent carries) path → (w : ℕ)
        → ComesOf calls tracked (collected w) (types w) (denotes of_program ends_only path w)
    value_comes path follows w = by (of_function.resolve w == w) refl
      where
        by : (t : Bool) → (of_function.resolve w == w) ≡ t → ComesOf calls tracked (collected w) (types w) (denotes of_program ends_only path w)
        by true is =
            let itself : of_function.resolve w ≡ w = eqb-true (of_function.resolve w) w is in
            subst (ComesOf calls tracked (collected w) (types w)) (sym (denotes-end of_function of_program ends path w itself))
            (OpenSources.value_comes nothing_comes calls f s consistent carries placed signature growing typed tracked collector moving path follows w
            (sym (carries.describes.resolves w) ∙ itself))
        by false is = inl (unborn_nothing path w (ap (λ (d : Definition). d.kind) (alias_nowhere of_function w is)))

    pub keep_along : KeepAlong calls f s consistent carries world tracked collector plain
    keep_along path follows p q same_memory same_events callee call arguments names values agrees held =
        let events = (script.call_outside left p callee call arguments).events in
        let other = (machine.call_outside right q [] callee call arguments).events in
        let names_moved = MovedAlike.names_moved nothing_comes calls f s consistent carries placed signature growing typed world tracked collector moving events call names in
        let moved = λ (behind : List Event).
        MovedAlike.values_moved nothing_comes calls f s consistent carries placed signature growing typed world tracked collector moving behind call in
        record {
          new_names = names_moved;
          new_values = moved events values;
          agrees = MovedAlike.agrees_moved nothing_comes calls f s consistent carries placed signature growing typed world tracked collector moving events call path follows
              p.variables names held any_value ends_only _ values agrees (λ w any. value_comes path follows w)
              (script.call_outside left p callee call arguments).variables names_moved (moved events values) (λ x. refl) (λ n. refl) (λ w. refl);
          held = MovedAlike.held_moved nothing_comes calls f s consistent carries placed signature growing typed world tracked collector moving events call path follows
              p.variables names held (script.call_outside left p callee call arguments).variables names_moved (λ x. refl) (λ n. refl);
          names_are = λ x same.
              ap (λ (bits : Bits). moved_if (tracked x) (world.moved events call (left.name_type x) bits) bits) same;
          values_are = λ w same.
              ap (λ (bits : Bits). moved_if (collected w) (world.moved events call (types w) bits) bits) same
              ∙ ap (λ (behind : List Event). moved behind q.values w)
              (Outside.events_are left f collector p q same_memory same_events [] refl callee call arguments)
              ∙ sym (Outside.value_is left f collector p q same_memory same_events [] refl callee call arguments w);
        }
