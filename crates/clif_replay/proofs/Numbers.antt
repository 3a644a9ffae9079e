-- The numbers of entries: the ledger and the builder tell the same of a name.
use Rattle.std.proofs.Common.{◌≡◌, ℕ, zero, suc, List, [], ◌∷◌, length, refl, ap, sym, ◌∙◌, subst}
use Rattle.std.specs.Prelude.{◌&&◌, Bool, IfOk, map, slice_get, option_and_then, unwrap_or, Option, Some, None, Result}
use Rattle.clif_types.specs.declared.types.«Type».{«Type»}
use Rattle.clif_types.specs.Signature.{SignatureShape}
use Rattle.clif_tables.specs.Lists.{TableLists}
use Rattle.clif_ir.specs.Body.{Body}
use Rattle.clif_meaning.specs.Acceptance.{allows, blames_variable}
use Rattle.clif_meaning.specs.Ledger.{ABlock, AVariable, AValue, AnEdge, Answered, Ledger}
use Rattle.clif_meaning.specs.Request.{AnsweredCall, Request}
use Rattle.clif_builder.specs.declared.builder.FunctionBuilder.{FunctionBuilder}
use Rattle.clif_builder.specs.Ledger.{NamesEdges, NamesExceptions, ledger_of}
use Rattle.clif_calls.specs.declared.call.Name.{Name}
use Rattle.clif_resolution.specs.declared.answers.Answer.{Answer}
use Rattle.clif_resolution.specs.declared.answers.Answer.TheVariants as answer
use Rattle.clif_resolution.specs.declared.answers.CallError.{CallError}
use Rattle.clif_resolution.specs.declared.answers.Entry.TheVariants as entry
use Rattle.clif_resolution.specs.Entries.{ExceptionTables, Functions, JumpTables, NamedTable, Numbers, Signatures, StackSlots, count_in, entry_in, entry_of, number_in, numbers_at}
use Rattle.clif_replay.specs.Entries.{count_of, entry_as, entry_named, numbers_in}
use Rattle.clif_replay.specs.Makes.{Makes}
use Rattle.clif_replay.specs.Ready.{AnswerIs, IsJudged, IsReady, IsReadyAfter}
use Rattle.clif_replay.specs.Requests.{Naming}
use Rattle.clif_replay.proofs.Lasting.{as-many}
use Rattle.clif_replay.proofs.ReadyLaws
use Rattle.clif_replay.proofs.ReadyLaws.{answer-past, past}

-- what is no entry of a table has no number
unnamed : (table : NamedTable) → number_in table entry.Unnamed ≡ None
unnamed StackSlots = refl
unnamed Signatures = refl
unnamed Functions = refl
unnamed JumpTables = refl
unnamed ExceptionTables = refl

-- the number that an answer of the ledger is
abbrev number_told : NamedTable → List Answered → ℕ → Option ℕ
number_told table given index = option_and_then (λ (answered : Answered). number_in table (entry_as answered)) (slice_get given index)

one-unnamed : (table : NamedTable) (one : Answered) (index : ℕ) → entry_as one ≡ entry.Unnamed → number_told table (one ∷ []) index ≡ None
one-unnamed table one zero none = ap (number_in table) none ∙ unnamed table
one-unnamed table one (suc index) none = refl

values-unnamed : (table : NamedTable) (types : List «Type») (index : ℕ) → number_told table (map AValue types) index ≡ None
values-unnamed table [] index = refl
values-unnamed table (ty ∷ types) zero = unnamed table
values-unnamed table (ty ∷ types) (suc index) = values-unnamed table types index

-- is that of the builder's answer
told-number : (table : NamedTable) (a : Answer) (given : List Answered) (numbers : List ℕ) (index : ℕ) → AnswerIs a given numbers → number_told table given index ≡ entry_in table index (Some a)
told-number table answer.Nothing given numbers index is = ap (λ (xs : List Answered). number_told table xs index) is.0
told-number table (answer.Block block) given numbers index is =
    ap (λ (xs : List Answered). number_told table xs index) is.0 ∙ one-unnamed table ABlock index refl
told-number table (answer.Variable variable) given numbers index is =
    ap (λ (xs : List Answered). number_told table xs index) is.0 ∙ one-unnamed table (AVariable variable) index refl
told-number table (answer.Values first count) given numbers index is =
    ap (λ (xs : List Answered). number_told table xs index) is.1 ∙ values-unnamed table is.0 index
told-number table (answer.Inst inst) given numbers zero is = ap (λ (xs : List Answered). number_told table xs 0) is.2 ∙ unnamed table
told-number table (answer.Inst inst) given numbers (suc index) is =
    ap (λ (xs : List Answered). number_told table xs (suc index)) is.2 ∙ values-unnamed table is.0 index
told-number table (answer.Edge edge) given numbers index is =
    ap (λ (xs : List Answered). number_told table xs index) is.1 ∙ one-unnamed table (AnEdge is.0) index refl
told-number table (answer.Entry made) given numbers zero is =
    ap (λ (xs : List Answered). number_told table xs 0) is.2 ∙ ap (number_in table) (sym is.4)
told-number table (answer.Entry made) given numbers (suc index) is =
    ap (λ (xs : List Answered). number_told table xs (suc index)) is.2 ∙ sym (past index (number_in table made) None)

module _ {R : Type 0} {naming : Naming} {declared : SignatureShape} (calls : List AnsweredCall) (b : FunctionBuilder R) (answers : List Answer) (ready : IsReady naming declared calls b answers) where
  -- a name leads to the same entry
  entry-same : (table : NamedTable) (name : Name) → entry_named table (ledger_of calls) (naming name) ≡ entry_of table answers name
  entry-same table name = by (slice_get answers name.place) refl
    where
      by : (o : Option Answer) → slice_get answers name.place ≡ o → entry_named table (ledger_of calls) (naming name) ≡ entry_in table name.answer (slice_get answers name.place)
      by None at =
          ap (option_and_then (λ (answered : Answered). number_in table (entry_as answered))) (answer-past calls b answers ready name at)
          ∙ sym (ap (entry_in table name.answer) at)
      by (Some a) at =
          let e = ReadyLaws.entry calls b answers ready name.place a at in
          ap (option_and_then (λ (answered : Answered). number_in table (entry_as answered))) (e.told name refl)
          ∙ told-number table a e.given e.numbers name.answer e.is
          ∙ sym (ap (entry_in table name.answer) at)

  -- a table has as many entries
  count-same : (table : NamedTable) → count_of table (ledger_of calls) ≡ count_in table b.func.now.tables
  count-same StackSlots = ap (λ (tables : TableLists). length tables.stack_slots) ready.stands.ledger.tables
  count-same Signatures = ap (λ (tables : TableLists). length tables.signatures) ready.stands.ledger.tables
  count-same Functions = ap (λ (tables : TableLists). length tables.functions) ready.stands.ledger.tables
  count-same JumpTables = as-many (NamesEdges calls) (ledger_of calls).jump_tables b.func.now.tables.jump_tables ready.tables
  count-same ExceptionTables = as-many (NamesExceptions calls) (ledger_of calls).exception_tables b.func.now.tables.exception_tables ready.exceptions

  -- names stand for the same numbers
  pub numbers-same : numbers_in naming (ledger_of calls) ≡ numbers_at b.func.now answers
  numbers-same i table name = unwrap_or (entry-same table name i) (count-same table i)

-- A call was made that asked for this with the builder's numbers, or wasn't: it asked for it with the ledger's.
pub numbered : {R : Type 0} (asks : Numbers → Naming → SignatureShape → Ledger → Request) {tried : Bool} {Meets : Type 0} {types : List «Type»} (old new : FunctionBuilder R) (answers : List Answer) (result : Result Answer CallError)
    → Makes (λ naming declared ledger. asks (numbers_at old.func.now answers) naming declared ledger) tried Meets types old new answers result
    → Makes (λ naming declared ledger. asks (numbers_in naming ledger) naming declared ledger) tried Meets types old new answers result
numbered asks {tried} old new answers result made = record {
  loans = made.loans;
  name = made.name;
  ready = λ naming declared calls ready.
      subst (λ (numbers : Numbers). IfOk result (IsReadyAfter naming declared calls (asks numbers naming declared (ledger_of calls)) new answers))
      (sym (numbers-same calls old answers ready)) (made.ready naming declared calls ready);
  judged = λ naming declared calls ready.
      subst (λ (numbers : Numbers). IsJudged (allows (ledger_of calls) (asks numbers naming declared (ledger_of calls)))
      (tried && blames_variable (ledger_of calls) (asks numbers naming declared (ledger_of calls))) result)
      (sym (numbers-same calls old answers ready)) (made.judged naming declared calls ready);
  sound = made.sound;
  refused = made.refused;
  full = made.full;
  variables = made.variables;
}

-- a name that leads to an entry stands for its number
pub number-found : (f : Body) (answers : List Answer) (table : NamedTable) (name : Name) (number : ℕ) → entry_of table answers name ≡ Some number → numbers_at f answers table name ≡ number
number-found f answers table name number found = ap (λ (o : Option ℕ). unwrap_or o (count_in table f.tables)) found

-- and one that leads to none for the next one, at which no table holds anything
pub number-missing : (f : Body) (answers : List Answer) (table : NamedTable) (name : Name) → entry_of table answers name ≡ None → numbers_at f answers table name ≡ count_in table f.tables
number-missing f answers table name missing = ap (λ (o : Option ℕ). unwrap_or o (count_in table f.tables)) missing
