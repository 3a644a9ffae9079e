-- What names lead to goes on being what they lead to as calls follow; and what calls do to edges and jump tables.
use Rattle.std.proofs.Common.{◌≡◌, ℕ, zero, suc, List, [], ◌∷◌, ◌++◌, length, refl, sym, ◌∙◌, ap, subst}
use Rattle.std.specs.Prelude.{map, slice_get, slice_set, Option, Some, None, option_and_then}
use Rattle.clif_types.specs.declared.types.«Type».{«Type»}
use Rattle.clif_types.specs.Signature.{SignatureShape}
use Rattle.clif_instructions.specs.declared.block_call.BlockArg.TheVariants as arg
use Rattle.clif_instructions.specs.declared.block_call.BlockCall.{BlockCall}
use Rattle.clif_instructions.specs.ExceptionTables.{ExceptionShape, contexts_of}
use Rattle.clif_tables.specs.Lists.{unserved}
use Rattle.clif_meaning.specs.Instruction.{Edge, Known}
use Rattle.clif_meaning.specs.Name.{Name}
use Rattle.clif_meaning.specs.Request.{AnsweredCall, Build, GivenEntry, ServedBy, TriedBy, Imported, MakeEdge, MakeJumpTable, MakeExceptionTable, Request}
use Rattle.clif_meaning.specs.Program.{result_types}
use Rattle.clif_meaning.specs.Ledger.{Answered, AnEdge, AnInstruction, AValue, ExceptionTable, Ledger, answers_to, ledger_with, with_served, with_tried}
use Rattle.clif_meaning.proofs.Answering.{AnswersEffect, AnswersNothing, AnswersValues, AnswersEntity, AnswersEdge, AnswersInstruction, IsEntity, answers_effect}
use Rattle.clif_meaning.proofs.LedgerParts.{TablesEffect, TablesStay, EntryMade, JumpTableMade, ExceptionTableMade, TablesServe, tables_effect}
use Rattle.clif_builder.specs.declared.builder.FunctionBuilder.{FunctionBuilder}
use Rattle.clif_builder.specs.Ledger.{NamesEdges, NamesExceptions}
use Rattle.clif_builder.specs.LedgerLaws.{LedgerIsReadByNumber}
use Rattle.clif_builder.specs.StandsFor.{StandsFor}
use Rattle.clif_builder.proofs.Lasting.{arguments-stay, edges-stay}
use Rattle.clif_replay.specs.Ready.{TableAgrees, TablesAgree}

-- THE LEDGER'S TABLES ---------------------------------------------------------------------------------------------------

-- no jump table and no exception table is among the entries that an instruction is given
abbrev pub GivesNoTable : List GivenEntry → Type 0
GivesNoTable [] = Unit {0}
GivesNoTable (ServedBy table ∷ entries) = ⊥
GivesNoTable (TriedBy table ∷ entries) = ⊥
GivesNoTable (Imported entry ∷ entries) = GivesNoTable entries

served-none : (tables : List (Option (List (Edge Name Name)))) (entries : List GivenEntry) → GivesNoTable entries → with_served tables entries ≡ tables
served-none tables [] gives = refl
served-none tables (ServedBy table ∷ entries) gives = absurd gives
served-none tables (TriedBy table ∷ entries) gives = absurd gives
served-none tables (Imported entry ∷ entries) gives = served-none tables entries gives

tried-none : (tables : List (Option ExceptionTable)) (entries : List GivenEntry) → GivesNoTable entries → with_tried tables entries ≡ tables
tried-none tables [] gives = refl
tried-none tables (ServedBy table ∷ entries) gives = absurd gives
tried-none tables (TriedBy table ∷ entries) gives = absurd gives
tried-none tables (Imported entry ∷ entries) gives = tried-none tables entries gives

-- the request makes no edge and no table of edges, and lets none serve
abbrev pub LeavesTables : Request → Type 0
LeavesTables (MakeEdge edge) = ⊥
LeavesTables (MakeJumpTable default entries) = ⊥
LeavesTables (MakeExceptionTable signature normal items) = ⊥
LeavesTables (Build entries instruction) = GivesNoTable entries
LeavesTables _ = Unit {0}

pub tables-kept : (ledger : Ledger) (request : Request) → LeavesTables request → (ledger_with ledger request).jump_tables ≡ ledger.jump_tables
tables-kept ledger request leaves = by (tables_effect request)
  where
    tables-of : {other : Request} → request ≡ other → (ledger_with ledger request).jump_tables ≡ (ledger_with ledger other).jump_tables
    tables-of is = ap (λ (r : Request). (ledger_with ledger r).jump_tables) is

    by : TablesEffect request → (ledger_with ledger request).jump_tables ≡ ledger.jump_tables
    by (TablesStay none same) = (same ledger).jump_tables
    by (EntryMade entry is) = tables-of is
    by (JumpTableMade default entries is) = absurd (subst LeavesTables is leaves)
    by (ExceptionTableMade signature normal items is) = absurd (subst LeavesTables is leaves)
    by (TablesServe entries instruction is) = tables-of is ∙ served-none ledger.jump_tables entries (subst LeavesTables is leaves)

pub exceptions-kept : (ledger : Ledger) (request : Request) → LeavesTables request → (ledger_with ledger request).exception_tables ≡ ledger.exception_tables
exceptions-kept ledger request leaves = by (tables_effect request)
  where
    tables-of : {other : Request} → request ≡ other → (ledger_with ledger request).exception_tables ≡ (ledger_with ledger other).exception_tables
    tables-of is = ap (λ (r : Request). (ledger_with ledger r).exception_tables) is

    by : TablesEffect request → (ledger_with ledger request).exception_tables ≡ ledger.exception_tables
    by (TablesStay none same) = (same ledger).exception_tables
    by (EntryMade entry is) = tables-of is
    by (JumpTableMade default entries is) = absurd (subst LeavesTables is leaves)
    by (ExceptionTableMade signature normal items is) = absurd (subst LeavesTables is leaves)
    by (TablesServe entries instruction is) = tables-of is ∙ tried-none ledger.exception_tables entries (subst LeavesTables is leaves)

values-no-edge : (types : List «Type») (edge : Edge Name Name) → map AValue types ≡ AnEdge edge ∷ [] → ⊥
values-no-edge [] edge is = cc
values-no-edge (ty ∷ types) edge is = cc

entity-no-edge : (answer : Answered) (edge : Edge Name Name) → IsEntity answer → answer ∷ [] ≡ AnEdge edge ∷ [] → ⊥
entity-no-edge answer edge entity is = subst IsEntity (first answer (AnEdge edge) is) entity
  where
    first : (one other : Answered) → one ∷ [] ≡ other ∷ [] → one ≡ other
    first one other same = cc

instruction-no-edge : (types : List «Type») (edge : Edge Name Name) → AnInstruction ∷ map AValue types ≡ AnEdge edge ∷ [] → ⊥
instruction-no-edge types edge is = cc

-- such a call answers no edge
pub no-edge : (ledger : Ledger) (request : Request) → LeavesTables request → (edge : Edge Name Name) → answers_to ledger request ≡ AnEdge edge ∷ [] → ⊥
no-edge ledger request leaves edge is = by (answers_effect request)
  where
    of-answers : (answers : List Answered) → answers_to ledger request ≡ answers → answers ≡ AnEdge edge ∷ []
    of-answers answers same = sym same ∙ is

    by : AnswersEffect request → ⊥
    by (AnswersNothing same) = values-no-edge [] edge (of-answers _ (same ledger))
    by (AnswersValues types same) = values-no-edge (types ledger) edge (of-answers _ (same ledger))
    by (AnswersEntity answer entity same) = entity-no-edge (answer ledger) edge (entity ledger) (of-answers _ (same ledger))
    by (AnswersEdge other same) = subst LeavesTables same leaves
    by (AnswersInstruction entries instruction same) =
        instruction-no-edge (result_types instruction.operation instruction.controlling) edge (of-answers _ (ap (answers_to ledger) same))

-- what tables hold goes on agreeing, where it does so in each
agree-on : {A B : Type 0} (Agree More : A → B → Type 0) → ((held : A) (made : B) → Agree held made → More held made)
    → (tables : List (Option A)) (made : List (Option B)) → TablesAgree Agree tables made → TablesAgree More tables made
agree-on {A} {B} Agree More stays [] [] agrees = tt
agree-on {A} {B} Agree More stays [] (other ∷ made) agrees = agrees
agree-on {A} {B} Agree More stays (table ∷ tables) [] agrees = agrees
agree-on {A} {B} Agree More stays (table ∷ tables) (other ∷ made) agrees = (by table other agrees.0, agree-on Agree More stays tables made agrees.1)
  where
    by : (one : Option A) (another : Option B) → TableAgrees Agree one another → TableAgrees More one another
    by None None is = tt
    by None (Some b) is = is
    by (Some a) None is = is
    by (Some a) (Some b) is = stays a b is

-- TABLES AS CALLS FOLLOW ------------------------------------------------------------------------------------------------

module _ {R : Type 0} (reads : LedgerIsReadByNumber) {declared : SignatureShape} (calls added : List AnsweredCall) (old new : FunctionBuilder R)
    (stands : StandsFor declared calls old) (after : StandsFor declared (calls ++ added) new) where
  pub tables-stay : (tables : List (Option (List (Edge Name Name)))) (made : List (Option (List BlockCall))) → TablesAgree (NamesEdges calls) tables made
      → TablesAgree (NamesEdges (calls ++ added)) tables made
  tables-stay tables made agrees = agree-on (NamesEdges calls) (NamesEdges (calls ++ added)) (edges-stay reads calls added old new stands after) tables made agrees

  pub exception-stays : (held : ExceptionTable) (made : ExceptionShape) → NamesExceptions calls held made → NamesExceptions (calls ++ added) held made
  exception-stays held made names = record {
    signature = names.signature;
    items = names.items;
    edges = edges-stay reads calls added old new stands after held.edges made.edges names.edges;
    contexts = arguments-stay reads calls added old new stands after (map Known held.contexts) (map arg.Value (contexts_of made)) names.contexts;
  }

  pub exceptions-stay : (tables : List (Option ExceptionTable)) (made : List (Option ExceptionShape)) → TablesAgree (NamesExceptions calls) tables made
      → TablesAgree (NamesExceptions (calls ++ added)) tables made
  exceptions-stay tables made agrees = agree-on (NamesExceptions calls) (NamesExceptions (calls ++ added)) exception-stays tables made agrees

-- THE TABLES OF BOTH ------------------------------------------------------------------------------------------------------

module _ {A B : Type 0} (Agree : A → B → Type 0) where
  pub as-many : (tables : List (Option A)) (made : List (Option B)) → TablesAgree Agree tables made → length tables ≡ length made
  as-many [] [] agrees = refl
  as-many [] (other ∷ made) agrees = absurd agrees
  as-many (table ∷ tables) [] agrees = absurd agrees
  as-many (table ∷ tables) (other ∷ made) agrees = ap suc (as-many tables made agrees.1)

  -- one more
  pub one-table-more : (tables : List (Option A)) (made : List (Option B)) (held : A) (other : B) → TablesAgree Agree tables made → Agree held other
      → TablesAgree Agree (tables ++ Some held ∷ []) (made ++ Some other ∷ [])
  one-table-more [] [] held other agrees names = (names, tt)
  one-table-more [] (another ∷ made) held other agrees names = absurd agrees
  one-table-more (table ∷ tables) [] held other agrees names = absurd agrees
  one-table-more (table ∷ tables) (another ∷ made) held other agrees names = (agrees.0, one-table-more tables made held other agrees.1 names)

  -- one serves an instruction
  pub table-serves : (tables : List (Option A)) (made : List (Option B)) (table : ℕ) → TablesAgree Agree tables made
      → TablesAgree Agree (slice_set tables table None) (slice_set made table None)
  table-serves [] [] table agrees = tt
  table-serves [] (other ∷ made) table agrees = absurd agrees
  table-serves (t ∷ tables) [] table agrees = absurd agrees
  table-serves (t ∷ tables) (other ∷ made) zero agrees = (tt, agrees.1)
  table-serves (t ∷ tables) (other ∷ made) (suc table) agrees = (agrees.0, table-serves tables made table agrees.1)

  -- the tables with one number agree
  pub table-at : (tables : List (Option A)) (made : List (Option B)) (table : ℕ) → TablesAgree Agree tables made
      → TableAgrees Agree (option_and_then (λ held. held) (slice_get tables table)) (unserved (slice_get made table))
  table-at [] [] table agrees = tt
  table-at [] (other ∷ made) table agrees = absurd agrees
  table-at (t ∷ tables) [] table agrees = absurd agrees
  table-at (t ∷ tables) (other ∷ made) zero agrees = agrees.0
  table-at (t ∷ tables) (other ∷ made) (suc table) agrees = table-at tables made table agrees.1

  -- what a table holds that serves nothing so far, and that there is none
  pub held-there : (o : Option A) (made : B) → TableAgrees Agree o (Some made) → (held : A) × (o ≡ Some held) × Agree held made
  held-there None made agrees = absurd agrees
  held-there (Some held) made agrees = (held, refl, agrees)

  pub held-missing : (o : Option A) → TableAgrees Agree o None → o ≡ None
  held-missing None agrees = refl
  held-missing (Some held) agrees = absurd agrees
