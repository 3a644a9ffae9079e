-- Stack maps are asked for: the ledger agrees, and the builder stands for the list with the call.
use Rattle.std.proofs.Common.{◌≡◌, ℕ, zero, suc, ◌<◌, ◌==◌, Bool, List, [], ◌∷◌, ◌++◌, length, refl, sym, ◌∙◌, ap, subst, inl, inr, arith}
use Rattle.std.specs.Prelude.{◌||◌, Option, Result, Ok, Err, OnOk, slice_get}
use Rattle.std.proofs.lemmas.Bool.{cases_eq, eq-eqb, ne_eqb}
use Rattle.std.proofs.lemmas.Option.{slice_get_within}
use Rattle.clif_types.specs.declared.error.BuildError.{BuildError}
use Rattle.clif_types.specs.declared.error.BuildError.TheVariants.{Failed}
use Rattle.clif_types.specs.Signature.{SignatureShape}
use Rattle.clif_ir.specs.Body.{Body}
use Rattle.clif_types.specs.EntitySet.{has}
use Rattle.clif_types.proofs.Marks.{has-with_member}
use Rattle.clif_records.specs.Tracking.{Tracked, marked_of, with_mark, with_recorded}
use Rattle.clif_ssa.proofs.Structuring.{same_structured}
use Rattle.clif_meaning.specs.Ledger.{Ledger, VariableState, is_marked, ledger_with, marked, marked_at, with_need}
use Rattle.clif_meaning.specs.Name.{Name}
use Rattle.clif_meaning.specs.Request.{AnsweredCall, NeedStackMap, OfValue, OfVariable, StackMapNeed, script_of}
use Rattle.clif_meaning.specs.Tracked.{TracksNothing}
use Rattle.clif_simulation.specs.Tables.{number_or_none}
use Rattle.clif_simulation.specs.Tracks.{TracksNeed}
use Rattle.clif_simulation.proofs.Calls.{carries_needing}
use Rattle.clif_simulation.proofs.Redirections.Predecessors.{leads_on}
use Rattle.clif_builder.specs.declared.builder.FunctionBuilder.{FunctionBuilder}
use Rattle.clif_builder.specs.Calls.{IsTold, answered}
use Rattle.clif_builder.specs.Context.{ContextState}
use Rattle.clif_builder.specs.Ledger.{AgreesWithLedger, LedgerAgrees, NamesValue, TracksAgree, VariablesAgree, ledger_of}
use Rattle.clif_builder.specs.Marks.{IsUnused, VariableFits}
use Rattle.clif_builder.specs.StandsFor.{StandsFor, StandsIn}
use Rattle.clif_builder.specs.Tracking.{with_tracking}
use Rattle.clif_builder.proofs.Calls.{told}
use Rattle.clif_builder.proofs.Exactly.{exactly_needing}
use Rattle.clif_builder.proofs.Growing.{on_ok_step}
use Rattle.clif_builder.proofs.Counted.{leaves_records}
use Rattle.clif_builder.proofs.LedgerBlocks.{agrees-kept}
use Rattle.clif_builder.proofs.LedgerKept.{answers-none, concluded, ledger-more}
use Rattle.clif_builder.proofs.LedgerVariables.{variable-count}
use Rattle.clif_builder.proofs.Touching.{agree_marked, agree_same}
use Rattle.clif_builder.proofs.Standing.{unchanged_alone}

agree_needed : (need : StackMapNeed) (states : List VariableState) (c : ContextState) → VariablesAgree states c → VariablesAgree (with_need need states) c
agree_needed (OfVariable variable) states c agree = agree_marked states c variable agree
agree_needed (OfValue value) states c agree = agree

-- a list that ends with such a call asks for stack maps
asks_last : {X : Type 0} (calls : List AnsweredCall) (need : StackMapNeed) → TracksNothing (script_of (calls ++ answered (NeedStackMap need) [] ∷ [])) → X
asks_last [] need asks = absurd asks.0
asks_last (call ∷ calls) need asks = asks_last calls need asks.1

-- the variables that are marked behind the call are those that the ledger has as marked then
abbrev pub NeedMarks : StackMapNeed → Ledger → Tracked → Type 0
NeedMarks need ledger tracked = (x : ℕ) → is_marked (ledger_with ledger (NeedStackMap need)) x ≡ has (marked_of tracked) x

module _ (calls : List AnsweredCall) (f : Body) (c : ContextState) (p : Option ℕ) (need : StackMapNeed) (tracked : Tracked) where
  abbrev call : AnsweredCall
  call = answered (NeedStackMap need) []

  abbrev d : ContextState
  d = with_tracking c tracked

  need_tracks : NeedMarks need (ledger_of calls) tracked → TracksNeed calls c.ssa d.ssa need → TracksAgree calls f.values c
      → TracksAgree (calls ++ call ∷ []) f.values d
  need_tracks marks tracks agrees = record {
    marks = λ x. ap (λ (ledger : Ledger). is_marked ledger x) (ledger-more calls call) ∙ marks x;
    exactly = exactly_needing calls call f.values c.ssa agrees.exactly d.ssa need refl tracks (λ x b. refl);
    untracked = λ asks. asks_last calls need asks;
  }

  pub need_agrees : NeedMarks need (ledger_of calls) tracked → TracksNeed calls c.ssa d.ssa need → LedgerAgrees calls (ledger_of calls) f c p
      → LedgerAgrees (calls ++ call ∷ []) (ledger_of (calls ++ call ∷ [])) f d p
  need_agrees marks tracks agrees =
      let new : Ledger = ledger_with (ledger_of calls) (NeedStackMap need) in
      concluded calls call f d p
      (agrees-kept calls call (ledger_of calls) new f c d p p [] agrees refl refl refl refl agrees.current (agree_same _ c d (refl, refl) (agree_needed need (ledger_of calls).variables c agrees.variables))
      (λ b. refl) (λ b. refl) (λ b. refl) (need_tracks marks tracks agrees.tracks) (leaves_records c d refl (λ x b. refl) (λ b. refl))
      (λ types are. same_structured types agrees.own f c.ssa d.ssa [] (λ x b. refl) (λ b. refl) (λ b. refl) (agrees.structured types are))
      (answers-none new f (length calls)))

  pub need_stands : (declared : SignatureShape) → TracksNeed calls c.ssa d.ssa need → StandsIn declared calls f c p → LedgerAgrees (calls ++ call ∷ []) (ledger_of (calls ++ call ∷ [])) f d p
      → StandsIn declared (calls ++ call ∷ []) f d p
  need_stands declared tracks stands ledger = record {
    signature = stands.signature;
    ledger = ledger;
    carries = carries_needing calls f c.ssa stands.carries d.ssa need (λ x b. refl) (λ b. refl) (λ b. refl) tracks;
    leads_built = leads_on calls call tt stands.leads_built;
    begun = stands.begun;
    callers_alone = λ b. unchanged_alone declared calls f c p stands call d tt tt (λ e. refl) b;
  }

-- THE BUILDER -----------------------------------------------------------------------------------------------------------

-- a builder that failed tells nothing
pub never_told : {R : Type 0} (old : FunctionBuilder R) (names : List AnsweredCall → Type 0) (call : AnsweredCall) → IsTold {A = Unit {0}} old old (Err Failed) names (λ _. call)
never_told old names _ = record { ledger = λ calls agrees named. tt; stands = λ signature calls standing named. tt }

pub needing : {R : Type 0} (old new : FunctionBuilder R) (answer : Result (Unit {0}) BuildError) (need : StackMapNeed) (tracked : Tracked) (names : List AnsweredCall → Type 0)
    → ((calls : List AnsweredCall) → AgreesWithLedger calls old → NeedMarks need (ledger_of calls) tracked)
    → ((calls : List AnsweredCall) → names calls → TracksNeed calls old.ctx.now.parts.ssa (with_tracking old.ctx.now.parts tracked).ssa need)
    → new.func.now ≡ old.func.now → new.position ≡ old.position → OnOk answer (new.ctx.now.parts ≡ with_tracking old.ctx.now.parts tracked)
    → IsTold old new answer names (λ _. answered (NeedStackMap need) [])
needing old new answer need tracked names marks tracks function position context =
    told old new answer names (answered (NeedStackMap need) [])
    (λ calls agrees named. on_ok_step answer _ _ (λ is. agree calls agrees (tracks calls named) is) context)
    (λ signature calls standing named ledger. on_ok_both answer (λ is now. stand signature calls standing (tracks calls named) is now) context ledger)
  where
    -- the parts of the builder behind the call
    moved : (P : Body → ContextState → Option ℕ → Type 0) → new.ctx.now.parts ≡ with_tracking old.ctx.now.parts tracked → P old.func.now (with_tracking old.ctx.now.parts tracked) old.position
        → P new.func.now new.ctx.now.parts new.position
    moved P is holds =
        subst (λ (f : Body). P f new.ctx.now.parts new.position) (sym function)
        (subst (λ (c : ContextState). P old.func.now c new.position) (sym is) (subst (P old.func.now (with_tracking old.ctx.now.parts tracked)) (sym position) holds))

    back : (P : Body → ContextState → Option ℕ → Type 0) → new.ctx.now.parts ≡ with_tracking old.ctx.now.parts tracked → P new.func.now new.ctx.now.parts new.position
        → P old.func.now (with_tracking old.ctx.now.parts tracked) old.position
    back P is holds =
        subst (λ (f : Body). P f (with_tracking old.ctx.now.parts tracked) old.position) function
        (subst (λ (c : ContextState). P new.func.now c old.position) is (subst (P new.func.now new.ctx.now.parts) position holds))

    agree : (calls : List AnsweredCall) → AgreesWithLedger calls old → TracksNeed calls old.ctx.now.parts.ssa (with_tracking old.ctx.now.parts tracked).ssa need → new.ctx.now.parts ≡ with_tracking old.ctx.now.parts tracked
        → AgreesWithLedger (calls ++ answered (NeedStackMap need) [] ∷ []) new
    agree calls agrees needs is =
        moved (λ f c p. LedgerAgrees (calls ++ answered (NeedStackMap need) [] ∷ []) (ledger_of (calls ++ answered (NeedStackMap need) [] ∷ [])) f c p) is
        (need_agrees calls old.func.now old.ctx.now.parts old.position need tracked (marks calls agrees) needs agrees)

    stand : (signature : SignatureShape) (calls : List AnsweredCall) → StandsFor signature calls old → TracksNeed calls old.ctx.now.parts.ssa (with_tracking old.ctx.now.parts tracked).ssa need → new.ctx.now.parts ≡ with_tracking old.ctx.now.parts tracked
        → AgreesWithLedger (calls ++ answered (NeedStackMap need) [] ∷ []) new → StandsFor signature (calls ++ answered (NeedStackMap need) [] ∷ []) new
    stand signature calls standing needs is now =
        moved (λ f c p. StandsIn signature (calls ++ answered (NeedStackMap need) [] ∷ []) f c p) is
        (need_stands calls old.func.now old.ctx.now.parts old.position need tracked signature needs standing
        (back (λ f c p. LedgerAgrees (calls ++ answered (NeedStackMap need) [] ∷ []) (ledger_of (calls ++ answered (NeedStackMap need) [] ∷ [])) f c p) is now))

    on_ok_both : {P Q R : Type 0} (answer : Result (Unit {0}) BuildError) → (P → Q → R) → OnOk answer P → OnOk answer Q → OnOk answer R
    on_ok_both (Ok u) both p q = both p q
    on_ok_both (Err e) both p q = tt

-- THE MARKS -------------------------------------------------------------------------------------------------------------

-- a variable that is there is marked, and no other
marked_here : (states : List VariableState) (variable x : ℕ) → variable < length states → marked (slice_get (marked_at variable states) x) ≡ ((variable == x) || marked (slice_get states x))
marked_here [] variable x inside = absurd (omega (arith, inside))
marked_here (state ∷ states) zero zero inside = refl
marked_here (state ∷ states) zero (suc x) inside = ap (λ (t : Bool). t || marked (slice_get states x)) (sym (ne_eqb 0 (suc x) (λ same. omega (arith, same))))
marked_here (state ∷ states) (suc variable) zero inside = ap (λ (t : Bool). t || state.is_marked) (sym (ne_eqb (suc variable) 0 (λ same. omega (arith, same))))
marked_here (state ∷ states) (suc variable) (suc x) inside =
    marked_here states variable x (omega (arith, inside)) ∙ ap (λ (t : Bool). t || marked (slice_get states x)) (sym (next_equal variable x))
  where
    next_equal : (a b : ℕ) → (suc a == suc b) ≡ (a == b)
    next_equal a b =
        elim (cases_eq a b) [
          | inl same ↦ eq-eqb (suc a) (suc b) (ap suc same) ∙ sym (eq-eqb a b same)
          | inr differ ↦ ne_eqb (suc a) (suc b) (λ same. differ (omega (arith, same))) ∙ sym (ne_eqb a b differ)
        ]

pub variable_marks : {R : Type 0} (old : FunctionBuilder R) (variable : ℕ) → VariableFits old.ctx.now.parts variable → (calls : List AnsweredCall) → AgreesWithLedger calls old
    → NeedMarks (OfVariable variable) (ledger_of calls) (with_mark old.ctx.now.parts.ssa.tracking variable)
variable_marks old variable fits calls agrees x =
    let below : variable < length old.ctx.now.parts.variables = slice_get_within old.ctx.now.parts.variables variable fits.ty fits.declared in
    let count : length (ledger_of calls).variables ≡ length old.ctx.now.parts.variables = variable-count calls (ledger_of calls) old.func.now old.ctx.now.parts old.position agrees in
    marked_here (ledger_of calls).variables variable x (omega (arith, below, count))
    ∙ ap (λ (t : Bool). (variable == x) || t) (agrees.tracks.marks x)
    ∙ sym (has-with_member (marked_of old.ctx.now.parts.ssa.tracking) variable x)

-- a variable that is on record nowhere is marked
pub variable_needed : {R : Type 0} (old : FunctionBuilder R) (variable : ℕ) → IsUnused old.ctx.now.parts variable → (calls : List AnsweredCall)
    → TracksNeed calls old.ctx.now.parts.ssa (with_tracking old.ctx.now.parts (with_mark old.ctx.now.parts.ssa.tracking variable)).ssa (OfVariable variable)
variable_needed old variable unused calls = (unused, refl)

-- the value that answers the name is recorded
pub value_needed : {R : Type 0} (old : FunctionBuilder R) (name : Name) (value : ℕ) (calls : List AnsweredCall) → NamesValue calls name value
    → TracksNeed calls old.ctx.now.parts.ssa (with_tracking old.ctx.now.parts (with_recorded old.ctx.now.parts.ssa.tracking value)).ssa (OfValue name)
value_needed old name value calls names = (names.is_value, ap (with_recorded old.ctx.now.parts.ssa.tracking) (sym (ap number_or_none names.number)))

pub value_marks : {R : Type 0} (old : FunctionBuilder R) (name : Name) (value : ℕ) (calls : List AnsweredCall) → AgreesWithLedger calls old
    → NeedMarks (OfValue name) (ledger_of calls) (with_recorded old.ctx.now.parts.ssa.tracking value)
value_marks old name value calls agrees x = agrees.tracks.marks x
