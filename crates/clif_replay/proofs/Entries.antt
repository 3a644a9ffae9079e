-- What the ledger says of an entry that a call makes, the builder says too.
use Rattle.std.proofs.Common.{◌≡◌, ℕ, List, [], ◌∷◌, ap, refl, sym, ◌∙◌}
use Rattle.std.specs.Prelude.{Result, Ok, Err}
use Rattle.clif_types.specs.declared.error.BuildError.{BuildError}
use Rattle.clif_calls.specs.declared.entry.EntryCall.{EntryCall}
use Rattle.clif_calls.specs.declared.entry.EntryCall.TheVariants as called
use Rattle.clif_resolution.specs.Entries.{Numbers}
use Rattle.clif_resolution.specs.declared.answers.Entry.{Entry}
use Rattle.clif_replay.specs.Entries.{count_with, entry_as, entry_in, entry_made}
use Rattle.clif_types.specs.Signature.{SignatureShape}
use Rattle.clif_tables.specs.Entries.{TableEntry, AStackSlot, ADynamicStackSlot, AGlobalValue, ASignature, AFunction, count_for}
use Rattle.clif_tables.specs.Lists.{TableLists}
use Rattle.clif_meaning.specs.Acceptance.{allows, can_make}
use Rattle.clif_meaning.specs.Ledger.{AnEntry, answers_to}
use Rattle.clif_meaning.specs.Request.{AnsweredCall, MakeEntry}
use Rattle.clif_builder.specs.declared.builder.FunctionBuilder.{FunctionBuilder}
use Rattle.clif_builder.specs.Ledger.{ledger_of, tables_of_calls}
use Rattle.clif_resolution.specs.declared.answers.Answer.{Answer}
use Rattle.clif_resolution.specs.declared.answers.Answer.TheVariants as answer
use Rattle.clif_replay.specs.Ready.{AnswerIs, IsReady}
use Rattle.clif_replay.specs.Requests.{Naming}

-- neither constants nor jump tables are asked for
can-make-aside : (tables : TableLists) (entry : TableEntry) → can_make (tables_of_calls tables) entry ≡ can_make tables entry
can-make-aside tables (AStackSlot slot) = refl
can-make-aside tables (ADynamicStackSlot slot) = refl
can-make-aside tables (AGlobalValue value) = refl
can-make-aside tables (ASignature signature) = refl
can-make-aside tables (AFunction function) = refl

count-aside : (tables : TableLists) (entry : TableEntry) → count_for (tables_of_calls tables) entry ≡ count_for tables entry
count-aside tables (AStackSlot slot) = refl
count-aside tables (ADynamicStackSlot slot) = refl
count-aside tables (AGlobalValue value) = refl
count-aside tables (ASignature signature) = refl
count-aside tables (AFunction function) = refl

-- an entry may be made in the ledger where it may be made here
pub entry-same : {R : Type 0} {naming : Naming} {declared : SignatureShape} (calls : List AnsweredCall) (b : FunctionBuilder R) (answers : List Answer) → IsReady naming declared calls b answers
    → (entry : TableEntry) → allows (ledger_of calls) (MakeEntry entry) ≡ can_make b.func.now.tables entry
entry-same calls b answers ready entry = ap (λ (tables : TableLists). can_make tables entry) ready.stands.ledger.tables ∙ can-make-aside b.func.now.tables entry

-- and is answered by its number
pub entry-answered : {R : Type 0} {naming : Naming} {declared : SignatureShape} (calls : List AnsweredCall) (b : FunctionBuilder R) (answers : List Answer) → IsReady naming declared calls b answers
    → (made : TableEntry) (number : ℕ) → number ≡ count_for b.func.now.tables made
    → AnswerIs (answer.Entry (entry_as (AnEntry made number))) (answers_to (ledger_of calls) (MakeEntry made)) (number ∷ [])
entry-answered calls b answers ready made number is = (
  AnEntry made number,
  number,
  ap (λ (n : ℕ). AnEntry made n ∷ []) (ap (λ (tables : TableLists). count_for tables made) ready.stands.ledger.tables ∙ count-aside b.func.now.tables made ∙ sym is),
  refl,
  refl,
  refl,
)

-- an entry of a kind, whatever is told of it, has the same table
pub same-table : (tables : TableLists) (numbers : Numbers) (call : EntryCall) → count_for tables (entry_in numbers call) ≡ count_with tables call
same-table tables numbers (called.CreateSizedStackSlot size align_shift) = refl
same-table tables numbers (called.CreateDynamicStackSlot slot) = refl
same-table tables numbers (called.CreateGlobalValue value) = refl
same-table tables numbers (called.ImportSignature signature) = refl
same-table tables numbers (called.ImportFunction function) = refl

-- what was made, where the result is a number
pub made-entry : (made : TableEntry) (told : Result ℕ BuildError) (entry : Entry) → ◌≡◌ {A = Result Entry BuildError} (Ok entry) (entry_made made told)
    → (number : ℕ) × (told ≡ Ok number) × (entry ≡ entry_as (AnEntry made number))
made-entry made (Ok number) entry is = (number, refl, cc)
made-entry made (Err error) entry is = let no_way : ⊥ = cc in absurd no_way

pub failed-entry : (made : TableEntry) (told : Result ℕ BuildError) (error : BuildError) → ◌≡◌ {A = Result Entry BuildError} (Err error) (entry_made made told) → told ≡ Err error
failed-entry made (Ok number) error is = let no_way : ⊥ = cc in absurd no_way
failed-entry made (Err other) error is = cc
