-- Where what moves on both sides agrees with marks, what agreed on a path of an unfinished function before an outside call agrees
-- behind it: of all its values, or of those that are no aliases.
use Rattle.std.proofs.Common.{◌≡◌, ◌⊎◌, inl, inr, ℕ, Bool, true, false, List, sym, ◌∙◌, ap, ap₂, subst}
use Rattle.clif_types.specs.declared.types.«Type».{«Type»}
use Rattle.clif_types.specs.Signature.{SignatureShape}
use Rattle.clif_ir.specs.Body.{Body}
use Rattle.clif_ir.specs.Consistent.{IsConsistent}
use Rattle.clif_paths.specs.Places.{Follows, Path}
use Rattle.clif_paths.specs.Denotation.{Instance, denotes, instances, name, variable}
use Rattle.clif_paths.specs.State.{Function, Program}
use Rattle.clif_ssa.specs.Ssa.{SsaState}
use Rattle.clif_meaning.specs.Bits.{Bits}
use Rattle.clif_meaning.specs.Event.{CallShape, Event}
use Rattle.clif_meaning.specs.FunctionMachine.{Collector}
use Rattle.clif_meaning.specs.Ledger.{is_marked, ledger_after}
use Rattle.clif_meaning.specs.Name.{Name}
use Rattle.clif_meaning.specs.Request.{AnsweredCall, script_of}
use Rattle.clif_meaning.specs.ScriptMachine.{ScriptRun}
use Rattle.clif_meaning.specs.View.{view_of}
use Rattle.clif_meaning.specs.WellPlaced.{IsWellPlaced}
use Rattle.clif_meaning.specs.World.{World}
use Rattle.clif_simulation.specs.Coming.{Coming, code_coming}
use Rattle.clif_simulation.specs.Reading.{WellTypedSoFar, script_run_so_far}
use Rattle.clif_simulation.specs.Tables.{code, program_so_far}
use Rattle.clif_simulation.proofs.Finished.Agreement.{Agrees, NothingIsZero}
use Rattle.clif_simulation.proofs.Labelling.Labels.{IsNothing, Labels}
use Rattle.clif_simulation.proofs.Labelling.Outside.{collects, moved_if}
use Rattle.clif_simulation.proofs.Unfinished.OpenEdges
use Rattle.clif_simulation.proofs.Unfinished.OpenFlow
use Rattle.clif_simulation.proofs.Whole.{Whole}
use Rattle.clif_standing_laws.specs.Marked.{MovesAsMarked}
use Rattle.clif_standing_laws.proofs.Marked.OpenSources
use Rattle.clif_standing_laws.proofs.Marked.OpenSources.{ComesOf, marks_alike}

module _ (coming : Coming) (calls : List AnsweredCall) (f : Body) (s : SsaState) (consistent : IsConsistent f) (carries : Whole calls f s)
    (placed : IsWellPlaced (code_coming coming calls)) (signature : SignatureShape) (growing : Name → Bool)
    (typed : WellTypedSoFar growing (ledger_after (script_of calls)) (program_so_far calls) signature) (world : World)
    (tracked : Name → Bool) (collector : Collector) (moving : MovesAsMarked calls carries.own f s tracked collector)
  where
    abbrev left_run : ScriptRun
    left_run = script_run_so_far calls f world tracked

    abbrev program : Program
    program = OpenEdges.program calls f s consistent carries

    abbrev marked : ℕ → Bool
    marked = is_marked (ledger_after (script_of calls))

    abbrev moves : ℕ → Bool
    moves w = collects f collector w

    abbrev value_types : ℕ → «Type»
    value_types w = (view_of f).value_type w

    -- What both hold as the collector moves it, behind these events and a call of this shape.
    module _ (events : List Event) (call : CallShape) where
      abbrev moved : Bool → «Type» → Bits → Bits
      moved mark ty bits = moved_if mark (world.moved events call ty bits) bits

      abbrev pub variables_moved : (ℕ → Bits) → ℕ → Bits
      variables_moved variables x = moved (marked x) (left_run.variable_type x) (variables x)

      abbrev pub names_moved : (Name → Bits) → Name → Bits
      names_moved names n = moved (tracked n) (left_run.name_type n) (names n)

      abbrev pub values_moved : (ℕ → Bits) → ℕ → Bits
      values_moved values w = moved (moves w) (value_types w) (values w)

      pub zero_moved : (mark : Bool) (ty : «Type») (bits : Bits) → bits ≡ 0 → moved mark ty bits ≡ 0
      zero_moved true ty bits is = ap (world.moved events call ty) is ∙ world.moved_zero events call ty
      zero_moved false ty bits is = is

      alike : (one other : Bool) (ty uy : «Type») (a b : Bits) → a ≡ b → (a ≡ 0) ⊎ ((one ≡ other) × (ty ≡ uy)) → moved one ty a ≡ moved other uy b
      alike one other ty uy a b bits (inl none) = zero_moved one ty a none ∙ sym (zero_moved other uy b (sym bits ∙ none))
      alike one other ty uy a b bits (inr same) =
          ap (moved one ty) bits ∙ ap₂ (λ (mark : Bool) (t : «Type»). moved mark t b) same.0 same.1

      module _ (path : Path) (follows : Follows (OpenFlow.edges coming calls f s consistent carries) path)
          (variables : ℕ → Bits) (names : Name → Bits) (held : NothingIsZero program path variables names)
        where
          sources : OpenSources.HaveSources coming calls f s consistent carries placed signature growing typed tracked collector moving path
          sources = OpenSources.have_sources coming calls f s consistent carries placed signature growing typed tracked collector moving path follows

          -- Where such values come from anywhere, what denotes the same as one of them moves as it does.
          module _ (live : ℕ → Type 0) (function : Function) (labels : Labels program function) (values : ℕ → Bits)
              (agrees : Agrees live program function labels path variables names values)
              (comes_from : (w : ℕ) → live w → ComesOf calls tracked (moves w) (value_types w) (denotes program function path w))
            where
              moves_as : (w : ℕ) → live w → (mark : Bool) (ty : «Type») (i : Instance) → i ≡ denotes program function path w → (bits : Bits)
                  → ComesOf calls tracked mark ty i → bits ≡ values w → (IsNothing i → bits ≡ 0) → moved mark ty bits ≡ values_moved values w
              moves_as w is_live mark ty i same bits comes agreed none =
                  alike mark (moves w) ty (value_types w) bits (values w) agreed
                  (by (marks_alike calls tracked mark (moves w) ty (value_types w) i comes
                  (subst (ComesOf calls tracked (moves w) (value_types w)) (sym same) (comes_from w is_live))))
                where
                  by : IsNothing i ⊎ ((mark ≡ moves w) × (ty ≡ value_types w)) → (bits ≡ 0) ⊎ ((mark ≡ moves w) × (ty ≡ value_types w))
                  by (inl nothing) = inl (none nothing)
                  by (inr same_move) = inr same_move

              -- what has these bits
              pub agrees_moved : (variables' : ℕ → Bits) (names' : Name → Bits) (values' : ℕ → Bits)
                  → ((x : ℕ) → variables' x ≡ variables_moved variables x) → ((n : Name) → names' n ≡ names_moved names n)
                  → ((w : ℕ) → values' w ≡ values_moved values w) → Agrees live program function labels path variables' names' values'
              agrees_moved variables' names' values' variables_are names_are values_are = record {
                of_variable = λ x w is_live fit same.
                    variables_are x
                    ∙ moves_as w is_live (marked x) (left_run.variable_type x) (instances program path (variable x)) same (variables x)
                    (sources.variables x) (agrees.of_variable x w is_live fit same) (held.of_variable x)
                    ∙ sym (values_are w);
                of_name = λ n w is_live fit same.
                    names_are n
                    ∙ moves_as w is_live (tracked n) (left_run.name_type n) (instances program path (name (code n))) same (names n)
                    (sources.names n) (agrees.of_name n w is_live fit same) (held.of_name n)
                    ∙ sym (values_are w);
              }

          pub held_moved : (variables' : ℕ → Bits) (names' : Name → Bits) → ((x : ℕ) → variables' x ≡ variables_moved variables x)
              → ((n : Name) → names' n ≡ names_moved names n) → NothingIsZero program path variables' names'
          held_moved variables' names' variables_are names_are = record {
            of_variable = λ x is. variables_are x ∙ zero_moved (marked x) (left_run.variable_type x) (variables x) (held.of_variable x is);
            of_name = λ n is. names_are n ∙ zero_moved (tracked n) (left_run.name_type n) (names n) (held.of_name n is);
          }
