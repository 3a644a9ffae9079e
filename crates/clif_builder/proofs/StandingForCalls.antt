-- A builder that stands for the calls of a script stands for one call more, once its plain calls were made.
use Rattle.std.proofs.Common.{ℕ, List, [], ◌∷◌, ◌++◌, length, ap, subst, sym, ◌∙◌}
use Rattle.std.specs.Prelude.{IsTrue, fold}
use Rattle.std.proofs.lemmas.List.{map-append}
use Rattle.clif_types.specs.declared.target.PointerWidth.{PointerWidth}
use Rattle.clif_types.specs.Signature.{SignatureShape}
use Rattle.clif_ir.specs.Body.{Body}
use Rattle.clif_meaning.specs.Headline.{MeansTheSame, pointer_bits}
use Rattle.clif_meaning.specs.Ledger.{Ledger, empty_ledger, ledger_after}
use Rattle.clif_meaning.specs.Name.{answer_of}
use Rattle.clif_meaning.specs.Premises.{CallersEdgesMatch}
use Rattle.clif_meaning.specs.Request.{AnsweredCall, Request, Script, script_of}
use Rattle.clif_meaning.specs.Typing.{EdgesMatch}
use Rattle.clif_meaning.specs.View.{view_of}
use Rattle.clif_expansion.specs.CallsVerdict.{AreCallsAllowed}
use Rattle.clif_expansion.specs.JoinedCalls.{AreJoinedCalls, Asking, Starting}
use Rattle.clif_expansion.specs.Joining.{IsJoined, IsReadRequest, answers_at, reading_after}
use Rattle.clif_expansion.specs.PerformedCalls.{ArePerformed}
use Rattle.clif_expansion.specs.Reading.{IsReadAs, NotMade, Reading}
use Rattle.clif_expansion.specs.ScriptCall.{Ask, ScriptCall, call_allowed, ledger_of, ledger_with_call}
use Rattle.clif_expansion.proofs.JoinedCalls.{asked_placed, joined_calls}
use Rattle.clif_expansion.proofs.Joins.{KeepsReading, keeps, read_there}
use Rattle.clif_expansion.proofs.calls.Headline.{calls_mean, keep_premises}
use Rattle.clif_expansion.proofs.calls.Verdicts.{verdicts_are_read}
use Rattle.clif_builder.specs.declared.builder.FunctionBuilder.{FunctionBuilder}
use Rattle.clif_builder.specs.Calls.{answered}
use Rattle.clif_builder.specs.CallsLaw.{BuildersStandForCalls}
use Rattle.clif_builder.specs.StandsFor.{StandsFor}
use Rattle.clif_builder.specs.Ending.{AsFound}
use Rattle.clif_builder.specs.StandsForCalls.{FinishesCalls, NamesAnswers, StandsForCalls, StandsOnFor}
use Rattle.clif_simulation.proofs.LedgerValues.{as_many}
use Rattle.clif_builder.proofs.Lasting.{block-stays, value-stays}
use Rattle.clif_builder.proofs.ReadByNumber.{read_by_number}

-- calls that were allowed, and one more
pub allowed_more : (ledger : Ledger) (calls : List ScriptCall) (call : ScriptCall) → AreCallsAllowed ledger calls
    → IsTrue (call_allowed (fold ledger_with_call ledger calls) call) → AreCallsAllowed ledger (calls ++ call ∷ [])
allowed_more ledger [] call are may = (may, tt)
allowed_more ledger (first ∷ calls) call are may = (are.0, allowed_more (ledger_with_call ledger first) calls call are.1 may)

-- plain calls that are joined to a script's calls, whose emissions they perform
abbrev pub PlainCalls : PointerWidth → Reading → Script → List ScriptCall → Type 0
PlainCalls width reading plain calls =
    (joined : AreJoinedCalls reading plain calls) × ArePerformed (pointer_bits width) reading plain calls joined

module _ {R : Type 0} {width : PointerWidth} {declared : SignatureShape} {calls : List ScriptCall} {old : FunctionBuilder R} (before : StandsForCalls width declared calls old) where
  abbrev pub plain_ledger : Ledger
  plain_ledger = ledger_after (script_of before.made)

  pub ledgers_joined : IsJoined before.reading plain_ledger (ledger_of calls)
  ledgers_joined = joined_calls before.reading (script_of before.made) calls before.joined

  -- one call more of the script, for which these calls were made
  abbrev pub goes_on : (call : ScriptCall) (added : List AnsweredCall) (later : Reading) (new : FunctionBuilder R) → KeepsReading before.reading later
      → IsTrue (call_allowed (ledger_of calls) call) → PlainCalls width later (script_of before.made ++ script_of added) (calls ++ call ∷ [])
      → StandsFor declared (before.made ++ added) new → StandsOnFor before (calls ++ call ∷ []) new
  goes_on call added later new kept may plain stands = (
    record {
      made = before.made ++ added;
      stands = stands;
      reading = later;
      joined = all.0;
      performed = all.1;
      allowed = allowed_more empty_ledger calls call before.allowed may;
    },
    record {
      values_stay = λ name value leads. record {
        plain = leads.plain;
        read = kept leads.plain name leads.read;
        named = value-stays read_by_number before.made added old new before.stands stands leads.plain value leads.named;
      };
      blocks_stay = λ name block leads. record {
        plain = leads.plain;
        read = kept leads.plain name leads.read;
        named = block-stays read_by_number before.made added old new before.stands stands leads.plain block leads.named;
      };
    },
  )
    where
      all : PlainCalls width later (script_of (before.made ++ added)) (calls ++ call ∷ [])
      all = subst (λ (script : Script). PlainCalls width later script (calls ++ call ∷ [])) (sym (map-append (λ (a : AnsweredCall). a.request) before.made added)) plain

  pub asked_on : (asked request : Request) (numbers : List ℕ) (new : FunctionBuilder R) → IsReadRequest before.reading asked request → IsTrue (call_allowed (ledger_of calls) (Ask request))
      → StandsFor declared (before.made ++ answered asked numbers ∷ []) new → (on : StandsOnFor before (calls ++ Ask request ∷ []) new) × NamesAnswers before on.0
  asked_on asked request numbers new read may stands = (
    goes_on (Ask request) (answered asked numbers ∷ []) later new (keeps before.reading plain_ledger (ledger_of calls) ledgers_joined) may (
      Asking before.reading (script_of before.made) calls asked request before.joined read
          (asked_placed before.reading plain_ledger (ledger_of calls) ledgers_joined request may),
      before.performed,
    )
        stands,
    record {
      values = λ index value named. record { plain = answer_of (length before.made) index; read = here index; named = named };
      blocks = λ index block named. record { plain = answer_of (length before.made) index; read = here index; named = named };
    },
  )
    where
      later : Reading
      later = reading_after before.reading plain_ledger (ledger_of calls)

      here : (index : ℕ) → IsReadAs later (answer_of (length before.made) index) (answer_of (length (ledger_of calls).answers) index)
      here index =
          ap (λ (place : ℕ). later (answer_of place index)) (sym (as_many before.made))
          ∙ read_there before.reading (length plain_ledger.answers) index (answers_at (length (ledger_of calls).answers))

pub builders_stand : {R : Type 0} → BuildersStandForCalls R
builders_stand = record {
  begins = λ width declared b stands. record { made = []; stands = stands; reading = λ x. NotMade; joined = Starting; performed = tt; allowed = tt };
  allowed = λ width declared calls b so_far asked request read.
      verdicts_are_read.allowed so_far.reading (ledger_after (script_of so_far.made)) (ledger_of calls) asked request (ledgers_joined so_far) read;
  asks = λ width declared calls old new before asked request numbers read may stands. asked_on before asked request numbers new read may stands;
}

-- FINISHED ----------------------------------------------------------------------------------------------------------------

-- what the finished function has of plain calls it has of the script's
pub finishes : {R : Type 0} (width : PointerWidth) (declared : SignatureShape) (calls : List ScriptCall) (b : FunctionBuilder R) (so_far : StandsForCalls width declared calls b) (g : Body)
    → MeansTheSame (script_of so_far.made) declared width (view_of g) → (CallersEdgesMatch (script_of so_far.made) → EdgesMatch (view_of g)) → AsFound declared width so_far.made b
    → FinishesCalls calls declared width b.func.now g
finishes width declared calls b so_far g means matches found = record {
  same_meaning = calls_mean so_far.reading (script_of so_far.made) calls so_far.joined declared width (view_of g) so_far.performed so_far.allowed means;
  edges_match = λ typed. matches (keep_premises.edges_match so_far.reading (script_of so_far.made) calls so_far.joined typed);
  well_placed = λ premises.
      found.well_placed (keep_premises.placement (pointer_bits width) so_far.reading (script_of so_far.made) calls so_far.joined so_far.performed declared premises);
}
