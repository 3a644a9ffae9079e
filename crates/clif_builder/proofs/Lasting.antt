-- What names lead to goes on being what they lead to as calls follow.
use Rattle.std.proofs.Common.{◌≡◌, ℕ, List, [], ◌∷◌, ◌++◌, refl, ap, ◌∙◌}
use Rattle.std.specs.Prelude.{fold, slice_get, Option, Some, None, option_and_then, is_some, true}
use Rattle.std.proofs.lemmas.List.{map-append, map_push}
use Rattle.std.proofs.lemmas.List.Sums.{fold-append}
use Rattle.clif_types.specs.Signature.{SignatureShape}
use Rattle.clif_instructions.specs.declared.block_call.BlockArg.{BlockArg}
use Rattle.clif_instructions.specs.declared.block_call.BlockArg.TheVariants as arg
use Rattle.clif_instructions.specs.declared.block_call.BlockCall.{BlockCall}
use Rattle.clif_meaning.specs.Instruction.{Argument, CallPayload, CallResult, Edge, Known}
use Rattle.clif_meaning.specs.Name.{Name}
use Rattle.clif_meaning.specs.Request.{AnsweredCall, Script, number_of, script_of}
use Rattle.clif_meaning.specs.Ledger.{ABlock, Answered, Ledger, answer_at, answers_to, empty_ledger, has_value, ledger_with, value_answer_type}
use Rattle.clif_builder.specs.declared.builder.FunctionBuilder.{FunctionBuilder}
use Rattle.clif_builder.specs.Ledger.{NamesArgument, NamesArguments, NamesBlock, NamesEdge, NamesEdges, NamesValue, block_name, ledger_of}
use Rattle.clif_builder.specs.LedgerLaws.{LedgerIsReadByNumber}
use Rattle.clif_builder.specs.StandsFor.{StandsFor}
use Rattle.clif_builder.proofs.LedgerLists.{and-then-some, get-front}

-- the ledger with one more call
pub ledger-more : (calls : List AnsweredCall) (call : AnsweredCall) → ledger_of (calls ++ call ∷ []) ≡ ledger_with (ledger_of calls) call.request
ledger-more calls call =
    ap (fold ledger_with empty_ledger) (map_push (λ (c : AnsweredCall). c.request) calls call)
    ∙ fold-append ledger_with empty_ledger (script_of calls) (call.request ∷ [])

-- and with several
pub ledger-behind : (calls added : List AnsweredCall) → ledger_of (calls ++ added) ≡ fold ledger_with (ledger_of calls) (script_of added)
ledger-behind calls added =
    ap (fold ledger_with empty_ledger) (map-append (λ (c : AnsweredCall). c.request) calls added)
    ∙ fold-append ledger_with empty_ledger (script_of calls) (script_of added)

answers-before : (ledger : Ledger) (script : Script) (k : ℕ) (given : List Answered) → slice_get ledger.answers k ≡ Some given → slice_get (fold ledger_with ledger script).answers k ≡ Some given
answers-before ledger [] k given at = at
answers-before ledger (request ∷ script) k given at =
    answers-before (ledger_with ledger request) script k given (get-front ledger.answers (answers_to ledger request ∷ []) k given at)

-- what was answered stays
pub answers-stay : (calls added : List AnsweredCall) (k : ℕ) (given : List Answered) → slice_get (ledger_of calls).answers k ≡ Some given → slice_get (ledger_of (calls ++ added)).answers k ≡ Some given
answers-stay calls added k given at =
    ap (λ (ledger : Ledger). slice_get ledger.answers k) (ledger-behind calls added) ∙ answers-before (ledger_of calls) (script_of added) k given at

-- NAMES -------------------------------------------------------------------------------------------------------------------

module _ {R : Type 0} (reads : LedgerIsReadByNumber) {declared : SignatureShape} (calls added : List AnsweredCall) (old new : FunctionBuilder R)
    (stands : StandsFor declared calls old) (after : StandsFor declared (calls ++ added) new) where
  pub answer-stays : (name : Name) (a : Answered) → answer_at (ledger_of calls) name ≡ Some a → answer_at (ledger_of (calls ++ added)) name ≡ Some a
  answer-stays name a there =
      let given = and-then-some (λ (answers : List Answered). slice_get answers name.index) (slice_get (ledger_of calls).answers name.place) a there in
      ap (option_and_then (λ (answers : List Answered). slice_get answers name.index)) (answers-stay calls added name.place given.0 given.1) ∙ given.2

  pub number-stays : (name : Name) (number : ℕ) → number_of calls name ≡ Some number → number_of (calls ++ added) name ≡ Some number
  number-stays name number there =
      let at = and-then-some (λ (one : AnsweredCall). slice_get one.numbers name.index) (slice_get calls name.place) number there in
      ap (option_and_then (λ (one : AnsweredCall). slice_get one.numbers name.index)) (get-front calls added name.place at.0 at.1) ∙ at.2

  pub block-stays : (name : Name) (block : ℕ) → NamesBlock calls name block → NamesBlock (calls ++ added) name block
  block-stays name block names =
      let read = reads calls old.func.now old.ctx.now.parts old.position stands.ledger in
      let answered = answer-stays name ABlock (stands.ledger.block_answers block name (read.named name block names)) in
      let number = number-stays name block names.number in
      let given = and-then-some (λ (answers : List Answered). slice_get answers name.index) (slice_get (ledger_of (calls ++ added)).answers name.place) ABlock answered in
      let at = and-then-some (λ (one : AnsweredCall). slice_get one.numbers name.index) (slice_get (calls ++ added) name.place) block number in
      let named : block_name (ledger_of (calls ++ added)) block ≡ Some name =
      (after.ledger.answers name.place at.0 given.0 at.1 given.1).each name.index ABlock block given.2 at.2 in
      record { number = number; is_block = ap is_some ((reads (calls ++ added) new.func.now new.ctx.now.parts new.position after.ledger).state block name named).found }

  pub value-stays : (name : Name) (value : ℕ) → NamesValue calls name value → NamesValue (calls ++ added) name value
  value-stays name value names = record { number = number-stays name value names.number; is_value = by (answer_at (ledger_of calls) name) refl names.is_value }
    where
      by : (o : Option Answered) → answer_at (ledger_of calls) name ≡ o → is_some (value_answer_type o) ≡ true → has_value (ledger_of (calls ++ added)) name ≡ true
      by None there is = let no_way : ⊥ = cc in absurd no_way
      by (Some a) there is = ap (λ (o : Option Answered). is_some (value_answer_type o)) (answer-stays name a there) ∙ is

  argument-stays : (argument : Argument Name) (made : BlockArg) → NamesArgument calls argument made → NamesArgument (calls ++ added) argument made
  argument-stays (Known name) (arg.Value value) names = value-stays name value names
  argument-stays (Known name) (arg.TryCallRet place) names = names
  argument-stays (Known name) (arg.TryCallExn place) names = names
  argument-stays (CallResult index) (arg.Value value) names = names
  argument-stays (CallResult index) (arg.TryCallRet place) names = names
  argument-stays (CallResult index) (arg.TryCallExn place) names = names
  argument-stays (CallPayload index) (arg.Value value) names = names
  argument-stays (CallPayload index) (arg.TryCallRet place) names = names
  argument-stays (CallPayload index) (arg.TryCallExn place) names = names

  pub arguments-stay : (arguments : List (Argument Name)) (made : List BlockArg) → NamesArguments calls arguments made → NamesArguments (calls ++ added) arguments made
  arguments-stay [] [] names = tt
  arguments-stay [] (a ∷ made) names = names
  arguments-stay (argument ∷ arguments) [] names = names
  arguments-stay (argument ∷ arguments) (a ∷ made) names = (argument-stays argument a names.0, arguments-stay arguments made names.1)

  pub edge-stays : (edge : Edge Name Name) (made : BlockCall) → NamesEdge calls edge made → NamesEdge (calls ++ added) edge made
  edge-stays edge made names = record { target = block-stays edge.target made.block names.target; arguments = arguments-stay edge.arguments made.args names.arguments }

  pub edges-stay : (edges : List (Edge Name Name)) (made : List BlockCall) → NamesEdges calls edges made → NamesEdges (calls ++ added) edges made
  edges-stay [] [] names = tt
  edges-stay [] (other ∷ made) names = names
  edges-stay (edge ∷ edges) [] names = names
  edges-stay (edge ∷ edges) (other ∷ made) names = (edge-stays edge other names.0, edges-stay edges made names.1)
