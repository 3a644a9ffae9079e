-- A note was made: the builder stands for the calls before it, and so for those with it.
use Rattle.std.proofs.Common.{◌≡◌, ℕ, List, [], ◌∷◌, refl, ap}
use Rattle.std.specs.Prelude.{◌&&◌, Bool, None, Some, true, false}
use Rattle.clif_types.specs.Signature.{SignatureShape}
use Rattle.clif_meaning.specs.Name as meaning
use Rattle.clif_meaning.specs.Acceptance.{allows}
use Rattle.clif_meaning.specs.Request.{AnsweredCall, Annotate}
use Rattle.clif_builder.specs.declared.builder.FunctionBuilder.{FunctionBuilder}
use Rattle.clif_builder.specs.Ledger.{ledger_of}
use Rattle.clif_builder.specs.LedgerLaws.{NotesAddNothing}
use Rattle.clif_builder.specs.StandsFor.{StandsFor}
use Rattle.clif_calls.specs.declared.call.Name.{Name}
use Rattle.clif_resolution.specs.declared.answers.Answer.{Answer}
use Rattle.clif_resolution.specs.declared.answers.Answer.TheVariants as answer
use Rattle.clif_replay.specs.Ready.{IsReady, IsReadyAfter, KeepsTables}
use Rattle.clif_resolution.specs.Answers.{value_of}
use Rattle.clif_replay.specs.Requests.{Naming}
use Rattle.clif_replay.proofs.ReadyLaws.{ready-more, value-found, value-missing}

-- the note answers nothing
pub note-ready : {R : Type 0} → NotesAddNothing → {naming : Naming} {declared : SignatureShape} (calls : List AnsweredCall) (old new : FunctionBuilder R) (answers : List Answer) (inside : Bool) (values : List meaning.Name)
    → IsReady naming declared calls old answers → StandsFor declared calls new → KeepsTables old new
    → IsReadyAfter naming declared calls (Annotate inside values) new answers answer.Nothing
note-ready law {declared} calls old new answers inside values ready stands tables =
    ([], ready-more calls _ old new answers answer.Nothing ready tt tables (law.stands declared calls new.func.now new.ctx.now.parts new.position inside values stands) (refl, refl))

-- its value is one in the ledger where its name leads to one here
pub note-none : {R : Type 0} {naming : Naming} {declared : SignatureShape} (calls : List AnsweredCall) (b : FunctionBuilder R) (answers : List Answer) → IsReady naming declared calls b answers
    → (name : Name) → value_of b.func.now answers name ≡ None → allows (ledger_of calls) (Annotate false (naming name ∷ [])) ≡ false
note-none calls b answers ready name missing = ap (λ (there : Bool). there && true) (value-missing calls b answers ready name missing)

pub note-some : {R : Type 0} {naming : Naming} {declared : SignatureShape} (calls : List AnsweredCall) (b : FunctionBuilder R) (answers : List Answer) → IsReady naming declared calls b answers
    → (name : Name) (value : ℕ) → value_of b.func.now answers name ≡ Some value → allows (ledger_of calls) (Annotate false (naming name ∷ [])) ≡ true
note-some calls b answers ready name value found =
    ap (λ (there : Bool). there && true) (value-found calls b answers ready name value found).is_value
