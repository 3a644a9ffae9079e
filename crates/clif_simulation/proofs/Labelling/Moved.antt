-- An outside call of an unfinished function: what has a label moves, a name and its value alike. So both still agree.
use Rattle.std.proofs.Common.{◌≡◌, ◌⊎◌, inl, inr, ℕ, List, [], refl, sym, ◌∙◌, ap, subst}
use Rattle.std.specs.Prelude.{Bool, true, false, if◌then◌else◌}
use Rattle.clif_types.specs.declared.stackmap.UserStackMapEntry.{UserStackMapEntry}
use Rattle.clif_ir.specs.Body.{Body}
use Rattle.clif_paths.specs.Places.{Path}
use Rattle.clif_paths.specs.State.{Function, Program}
use Rattle.clif_paths.specs.Denotation.{denotes, instances, given, name}
use Rattle.clif_meaning.specs.Bits.{Bits}
use Rattle.clif_meaning.specs.Event.{CallShape, Callee}
use Rattle.clif_meaning.specs.Name.{Name}
use Rattle.clif_meaning.specs.Request.{AnsweredCall}
use Rattle.clif_meaning.specs.World.{World}
use Rattle.clif_meaning.specs.ScriptMachine as script
use Rattle.clif_meaning.specs.ScriptMachine.{ScriptRun, ScriptState}
use Rattle.clif_meaning.specs.FunctionMachine as machine
use Rattle.clif_meaning.specs.FunctionMachine.{Collector, ByMaps, OverSet, FunctionRun, FunctionState}
use Rattle.clif_simulation.specs.Reading.{script_run_so_far, function_run_so_far, NoneMarked}
use Rattle.clif_simulation.specs.Tables.{code}
use Rattle.clif_simulation.proofs.Finished.Agreement.{Agrees, NothingIsZero}
use Rattle.clif_simulation.proofs.Labelling.Labelled.{MovesLabelled}
use Rattle.clif_simulation.proofs.Labelling.Labels.{IsBornLabelled, IsNothing, Labels, born_has, labelled_same}
use Rattle.clif_simulation.proofs.Labelling.Outside
use Rattle.clif_simulation.proofs.Labelling.Outside.{moved_if}

module _ (calls : List AnsweredCall) (f : Body) (world : World) (tracked : Name → Bool) (collector : Collector)
    (p : ScriptState) (q : FunctionState) (same_memory : p.memory ≡ q.memory) (same_events : p.events ≡ q.events)
    (entries : List UserStackMapEntry) (no_map : entries ≡ []) (callee : Callee) (call : CallShape) (arguments : List Bits)
  where
    abbrev left_run : ScriptRun
    left_run = script_run_so_far calls f world tracked

    abbrev right_run : FunctionRun
    right_run = function_run_so_far calls f world collector

    abbrev p' : ScriptState
    p' = script.call_outside left_run p callee call arguments

    abbrev q' : FunctionState
    q' = machine.call_outside right_run q entries callee call arguments

    variable_stays : NoneMarked calls → (x : ℕ) → p'.variables x ≡ p.variables x
    variable_stays unmarked x =
        ap (λ (t : Bool). if t then world.moved p'.events call (left_run.variable_type x) (p.variables x) else p.variables x) (unmarked x)

    -- What moves ----------------------------------------------------------------------------------------------------------

    module _ (program : Program) (function : Function) (labels : Labels program function) (moves : MovesLabelled calls f tracked collector program function labels) where
      -- the bits of a name and of a value behind the call
      abbrev pub name_behind : (Name → Bits) → Name → Bits
      name_behind names n = moved_if (labels.of_name n) (world.moved p'.events call (left_run.name_type n) (names n)) (names n)

      abbrev pub value_behind : (ℕ → Bits) → ℕ → Bits
      value_behind values w = moved_if (labels.of_value w) (world.moved q'.events call (right_run.function.value_type w) (values w)) (values w)

      pub name_is : (n : Name) → p'.names n ≡ name_behind p.names n
      name_is n = ap (λ (t : Bool). moved_if t (world.moved p'.events call (left_run.name_type n) (p.names n)) (p.names n)) (moves.of_name n)

      pub value_is : (w : ℕ) → q'.values w ≡ value_behind q.values w
      value_is w =
          Outside.value_is left_run f collector p q same_memory same_events entries no_map callee call arguments w
          ∙ ap (λ (t : Bool). moved_if t (world.moved q'.events call (right_run.function.value_type w) (q.values w)) (q.values w)) (moves.of_value w)

      zero_name : (names : Name → Bits) (n : Name) → names n ≡ 0 → name_behind names n ≡ 0
      zero_name names n is =
          Outside.zero_moved left_run f collector p q same_memory same_events entries no_map callee call arguments p'.events (labels.of_name n) (left_run.name_type n) (names n) is

      pub zero_value : (values : ℕ → Bits) (w : ℕ) → values w ≡ 0 → value_behind values w ≡ 0
      zero_value values w is =
          Outside.zero_moved left_run f collector p q same_memory same_events entries no_map callee call arguments q'.events (labels.of_value w) (right_run.function.value_type w) (values w) is

      -- Where both agreed about these bits of names and values, which may stand for those of the states, they agree about those behind.
      module _ (live : ℕ → Type 0) (path : Path) (names : Name → ℕ) (values : ℕ → ℕ) (agrees : Agrees live program function labels path p.variables names values)
          (held : NothingIsZero program path p.variables names)
        where
          -- a name and a value that are both labelled
          both_move : (n : Name) (w : ℕ) → live w → labels.of_name n ≡ true → labels.of_value w ≡ true → instances program path (name (code n)) ≡ denotes program function path w
              → name_behind names n ≡ value_behind values w
          both_move n w is_live one other same = by (born_has program function labels w b path)
            where
              b : IsBornLabelled labels.of_name program function w
              b = labels.are_born w other

              bits : names n ≡ values w
              bits = agrees.of_name n w is_live (one ∙ sym other) same

              alike : (names n ≡ 0) ⊎ ((labels.of_name n ≡ labels.of_value w) × (left_run.name_type n ≡ right_run.function.value_type w)) → name_behind names n ≡ value_behind values w
              alike same_move =
                  Outside.moved_alike left_run f collector p q same_memory same_events entries no_map callee call arguments
                  (labels.of_name n) (labels.of_value w) (left_run.name_type n) (right_run.function.value_type w) (names n) (values w) bits same_move

              by : IsNothing (denotes program function path w) ⊎ ((q : Path) × (denotes program function path w ≡ given (code b.source) q)) → name_behind names n ≡ value_behind values w
              by (inl nothing) = alike (inl (held.of_name n (subst IsNothing (sym same) nothing)))
              by (inr has) =
                  alike (inr (
                    one ∙ sym other,
                    ap left_run.name_type (labelled_same program function labels path n b.source has.0 b.labelled (same ∙ has.1)) ∙ moves.types w b,
                  ))

          -- and ones that are not
          both_stay : (n : Name) (w : ℕ) → labels.of_name n ≡ false → labels.of_value w ≡ false → names n ≡ values w → name_behind names n ≡ value_behind values w
          both_stay n w one other bits =
              ap (λ (t : Bool). moved_if t (world.moved p'.events call (left_run.name_type n) (names n)) (names n)) one
              ∙ bits
              ∙ sym (ap (λ (t : Bool). moved_if t (world.moved q'.events call (right_run.function.value_type w) (values w)) (values w)) other)

          names_alike : (n : Name) (w : ℕ) → live w → labels.of_name n ≡ labels.of_value w → instances program path (name (code n)) ≡ denotes program function path w
              → name_behind names n ≡ value_behind values w
          names_alike n w is_live fit same = by (labels.of_value w) refl
            where
              by : (t : Bool) → labels.of_value w ≡ t → name_behind names n ≡ value_behind values w
              by true is = both_move n w is_live (fit ∙ is) is same
              by false is = both_stay n w (fit ∙ is) is (agrees.of_name n w is_live fit same)

          pub agrees_behind : (names' : Name → ℕ) (values' : ℕ → ℕ) → ((n : Name) → names' n ≡ name_behind names n) → ((w : ℕ) → values' w ≡ value_behind values w)
              → Agrees live program function labels path p'.variables names' values'
          agrees_behind names' values' names_are values_are = record {
            of_variable = λ x w is_live fit same.
                variable_stays moves.unmarked x ∙ agrees.of_variable x w is_live fit same
                ∙ sym (values_are w ∙ ap (λ (t : Bool). moved_if t (world.moved q'.events call (right_run.function.value_type w) (values w)) (values w)) fit);
            of_name = λ n w is_live fit same. names_are n ∙ names_alike n w is_live fit same ∙ sym (values_are w);
          }

          pub nothing_behind : (names' : Name → ℕ) → ((n : Name) → names' n ≡ name_behind names n) → NothingIsZero program path p'.variables names'
          nothing_behind names' names_are = record {
            of_variable = λ x is. variable_stays moves.unmarked x ∙ held.of_variable x is;
            of_name = λ n is. names_are n ∙ zero_name names n (held.of_name n is);
          }
