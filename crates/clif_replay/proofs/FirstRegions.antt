-- No call of a script adds an alias region, so a function has none when `finalize` begins, and none when values were spilled.
use Rattle.std.proofs.Common.{◌≡◌, ◌++◌, List, [], ◌∷◌, Bool, true, false, refl, sym, ◌∙◌, ap}
use Rattle.std.specs.Prelude.{ℕ, Option, None, Some, fold, if◌then◌else◌}
use Rattle.clif_types.specs.AliasRegions.{AliasRegionTable}
use Rattle.clif_types.specs.Signature.{SignatureShape}
use Rattle.clif_types.specs.declared.types.«Type».{«Type»}
use Rattle.clif_tables.specs.Entries.{TableEntry, with_entry}
use Rattle.clif_tables.specs.Entries.{ADynamicStackSlot, AFunction, AGlobalValue, ASignature, AStackSlot}
use Rattle.clif_tables.specs.Lists.{TableLists, no_entries}
use Rattle.clif_ir.specs.Body.{Body}
use Rattle.clif_meaning.specs.Instruction.{Edge, Operation}
use Rattle.clif_meaning.specs.Ledger.{Ledger, empty_ledger, is_inserted, is_terminator, ledger_with, next_answer, with_begun, with_begun_at, with_filled_at, with_layout, with_predecessor, with_terminator}
use Rattle.clif_meaning.specs.Name.{Name}
use Rattle.clif_meaning.specs.Request.{AnsweredCall, Request, Script, script_of}
use Rattle.clif_meaning.proofs.LedgerParts.{TablesEffect, TablesStay, EntryMade, JumpTableMade, ExceptionTableMade, TablesServe, tables_effect}
use Rattle.clif_builder.specs.Context.{ContextState}
use Rattle.clif_builder.specs.Ending.{BecomesSpilled}
use Rattle.clif_builder.specs.StandsFor.{StandsIn}

-- the regions of a ledger's tables
abbrev regions_in : Ledger → AliasRegionTable
regions_in ledger = ledger.tables.alias_regions

in_layout : (ledger : Ledger) (block : Name) → regions_in (with_layout ledger block) ≡ regions_in ledger
in_layout ledger block = by (is_inserted ledger block)
  where
    by : (test : Bool) → regions_in (if test then ledger else record ledger { layout = ledger.layout ++ block ∷ [] }) ≡ regions_in ledger
    by true = refl
    by false = refl

in_begun : (ledger : Ledger) → regions_in (with_begun ledger) ≡ regions_in ledger
in_begun ledger = by ledger.current
  where
    by : (current : Option Name) → regions_in (with_begun_at ledger current) ≡ regions_in ledger
    by None = refl
    by (Some block) = in_layout ledger block

in_terminated : (ledger : Ledger) (operation : Operation) → regions_in (with_terminator ledger operation) ≡ regions_in ledger
in_terminated ledger operation = by (is_terminator operation) ledger.current
  where
    by : (ends : Bool) (current : Option Name) → regions_in (if ends then with_filled_at ledger current else ledger) ≡ regions_in ledger
    by true None = refl
    by true (Some block) = refl
    by false current = refl

in_led : (branch : Name) (edges : List (Edge Name Name)) (ledger : Ledger) → regions_in (fold (with_predecessor branch) ledger edges) ≡ regions_in ledger
in_led branch [] ledger = refl
in_led branch (edge ∷ edges) ledger = in_led branch edges (with_predecessor branch ledger edge)

in_entry : (tables : TableLists) (entry : TableEntry) → (with_entry tables entry).alias_regions ≡ tables.alias_regions
in_entry tables (AStackSlot slot) = refl
in_entry tables (ADynamicStackSlot slot) = refl
in_entry tables (AGlobalValue value) = refl
in_entry tables (ASignature signature) = refl
in_entry tables (AFunction function) = refl

after_request : (ledger : Ledger) (one : Request) → regions_in (ledger_with ledger one) ≡ regions_in ledger
after_request ledger one = by (tables_effect one)
  where
    regions_of : {other : Request} → one ≡ other → regions_in (ledger_with ledger one) ≡ regions_in (ledger_with ledger other)
    regions_of is = ap (λ (r : Request). regions_in (ledger_with ledger r)) is

    by : TablesEffect one → regions_in (ledger_with ledger one) ≡ regions_in ledger
    by (TablesStay none same) = ap (λ (tables : TableLists). tables.alias_regions) (same ledger).tables
    by (EntryMade entry is) = regions_of is ∙ in_entry ledger.tables entry
    by (JumpTableMade default entries is) = regions_of is
    by (ExceptionTableMade signature normal items is) = regions_of is
    by (TablesServe entries instruction is) =
        regions_of is ∙ in_led (next_answer ledger) instruction.edges (with_terminator (with_begun ledger) instruction.operation)
        ∙ in_terminated (with_begun ledger) instruction.operation ∙ in_begun ledger

after_script : (script : Script) (ledger : Ledger) → regions_in (fold ledger_with ledger script) ≡ regions_in ledger
after_script [] ledger = refl
after_script (one ∷ script) ledger = after_script script (ledger_with ledger one) ∙ after_request ledger one

-- a function of which a builder stands for calls has none
pub none_built : (declared : SignatureShape) (calls : List AnsweredCall) (f : Body) (c : ContextState) (position : Option ℕ) → StandsIn declared calls f c position
    → f.tables.alias_regions ≡ no_entries.alias_regions
none_built declared calls f c position stands =
    sym (ap (λ (tables : TableLists). tables.alias_regions) stands.ledger.tables) ∙ after_script (script_of calls) empty_ledger

-- spilling adds none
pub none_spilled : (f g : Body) (recorded : List ℕ) (pointer : «Type») → BecomesSpilled f recorded pointer g → g.tables.alias_regions ≡ f.tables.alias_regions
none_spilled f g [] pointer same = ap (λ (h : Body). h.tables.alias_regions) same
none_spilled f g (value ∷ recorded) pointer spilled = ap (λ (tables : TableLists). tables.alias_regions) spilled.0.tables
