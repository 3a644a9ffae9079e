-- Tables change that the calls of a list don't make: the agreement with the ledger is kept, and the builder
-- stands for the same calls.
use Rattle.std.proofs.Common.{◌≡◌, ◌≢◌, ◌<◌, ◌≤◌, ◌++◌, ◌∷◌, [], ℕ, List, length, refl, sym, ◌∙◌, ap, subst, arith, false, inl, inr}
use Rattle.std.proofs.lemmas.Grind.{common_steps}
use Rattle.std.specs.Prelude.{Option, Some, true, is_err, slice_get, Result, Ok, Err, IfOk, OnOk, OnErr}
use Rattle.clif_types.specs.declared.error.BuildError.{BuildError}
use Rattle.clif_types.specs.declared.error.BuildError.TheVariants.{Failed, Full, Memory}
use Rattle.clif_types.specs.Signature.{SignatureShape}
use Rattle.clif_instructions.specs.declared.block_call.BlockCall.{BlockCall}
use Rattle.clif_instructions.specs.declared.block_call.BlockArg.{BlockArg}
use Rattle.clif_instructions.specs.ExceptionTables.{ExceptionShape}
use Rattle.clif_inst_builder.specs.Served.{TableKind, exception_tables}
use Rattle.clif_tables.specs.Constants.{constant_of}
use Rattle.clif_tables.specs.declared.labels.ValueLabelStart.{ValueLabelStart}
use Rattle.clif_tables.specs.Lists.{TableLists, unserved, with_constant, with_exception_table_served, with_jump_table, with_label, with_labels_collected, with_table_served}
use Rattle.clif_tables.specs.Makes.{MakesEntry, Pools}
use Rattle.clif_ir.specs.Body.{Body}
use Rattle.clif_ir.specs.Changes.{with_tables}
use Rattle.clif_ir.specs.Consistent.{EntryExists, IsConsistent, ValueExists}
use Rattle.clif_meaning.specs.Request.{AnsweredCall}
use Rattle.clif_meaning.specs.Ledger.{Ledger}
use Rattle.clif_ssa.specs.Ssa.{SsaState, record_of}
use Rattle.clif_ssa.specs.Structure.{Remembers}
use Rattle.clif_ssa.proofs.Pooled.{KeepsConstants, is_pooled}
use Rattle.clif_simulation.proofs.Further.{carries_pooled}
use Rattle.clif_simulation.proofs.Growing.{KeepsEntries, entries_pooled}
use Rattle.clif_ir.proofs.KeepsTables.{entry_stays}
use Rattle.clif_builder.specs.declared.builder.FunctionBuilder.{FunctionBuilder}
use Rattle.clif_builder.specs.declared.context.BlockStatus.TheVariants.{Filled}
use Rattle.clif_builder.specs.Builder.{CanLeadIn, HasCurrent, SameLoans}
use Rattle.clif_builder.specs.Context.{ContextState, status_of}
use Rattle.clif_builder.specs.Entries.{CanBeNamed, Creates, MakesEdge, MayServeFor, PoolsConstant, SetsTables, Takes, table_held}
use Rattle.clif_builder.specs.Growth.{EntriesStay, Grows, GrowsBesideTables, TypesStay}
use Rattle.clif_builder.specs.Ledger.{LedgerAgrees, ledger_of, tables_of_calls}
use Rattle.clif_builder.specs.StandsFor.{StandsIn}
use Rattle.clif_builder.proofs.Calls as calls
use Rattle.clif_builder.proofs.Calls.{refused, same_looks}
use Rattle.clif_builder.proofs.Entries.{tabled}
use Rattle.clif_builder.proofs.Framed.{filled-same}
use Rattle.clif_builder.proofs.LedgerLists.{get-front, get-last}

-- Each constant keeps its number, each entry that an instruction names stays, there are as many stack slots, and the tables of calls
-- stay.
pub record AreAside (f : Body) (lists : TableLists) : Type 0 where
  pub of_calls : tables_of_calls lists ≡ tables_of_calls f.tables
  pub constants : KeepsConstants f (with_tables f lists)
  pub entries : KeepsEntries f.tables lists
  pub stay : EntriesStay f.tables lists
  pub slots : length lists.stack_slots ≡ length f.tables.stack_slots

module _ (f : Body) (lists : TableLists) (constants : KeepsConstants f (with_tables f lists)) (entries : KeepsEntries f.tables lists)
    (of_calls : tables_of_calls lists ≡ tables_of_calls f.tables) where
  pub agrees_aside : (calls : List AnsweredCall) (ledger : Ledger) (c : ContextState) (p : Option ℕ) → LedgerAgrees calls ledger f c p
      → LedgerAgrees calls ledger (with_tables f lists) c p
  agrees_aside calls ledger c p agrees =
      subst (λ (tables : TableLists). LedgerAgrees calls (record ledger { tables = tables }) (with_tables f lists) c p)
      (of_calls ∙ sym agrees.tables)
      (tabled calls ledger f c p lists constants agrees)

  pub stands_aside : (declared : SignatureShape) (calls : List AnsweredCall) (c : ContextState) (p : Option ℕ) → IsConsistent f
      → StandsIn declared calls f c p → StandsIn declared calls (with_tables f lists) c p
  stands_aside declared calls c p consistent stands = record {
    signature = stands.signature;
    ledger = agrees_aside calls (ledger_of calls) c p stands.ledger;
    carries = carries_pooled calls f c.ssa lists consistent entries stands.carries;
    leads_built = stands.leads_built;
    begun = stands.begun;
    callers_alone = λ d. elim (stands.callers_alone d) [
      | inl alone ↦ inl alone
      | inr old ↦ inr (record { inserted = old.inserted; begun = old.begun })
    ];
  }

-- WHICH TABLES ------------------------------------------------------------------------------------------------------------

pub pooled_aside : (f : Body) (bytes : List ℕ) → AreAside f (with_constant f.tables bytes)
pooled_aside f bytes =
    let lists : TableLists = with_constant f.tables bytes in
    let pooled = is_pooled f.tables.constants bytes in
    let more : length f.tables.constants ≤ length lists.constants = grind (arith, common_steps, pooled.behind) in
    let keeps : KeepsConstants f (with_tables f lists) = λ constant found here.
    ap (λ (constants : List (List ℕ)). slice_get constants constant) pooled.behind ∙ get-front f.tables.constants pooled.more constant found here in
    record {
      of_calls = refl;
      constants = keeps;
      entries = entries_pooled f.tables lists keeps refl refl refl;
      stay = entry_stays f.tables lists (omega arith) more (omega arith) (omega arith);
      slots = refl;
    }

-- the tables whose entries instructions name stay
beside_entries : (f : Body) (lists : TableLists) → tables_of_calls lists ≡ tables_of_calls f.tables
    → lists.stack_slots ≡ f.tables.stack_slots → lists.constants ≡ f.tables.constants → lists.signatures ≡ f.tables.signatures → lists.functions ≡ f.tables.functions → lists.stack_maps ≡ f.tables.stack_maps
    → AreAside f lists
beside_entries f lists of_calls slots constants signatures functions maps =
    let keeps : KeepsConstants f (with_tables f lists) = λ constant found here. ap (λ (pool : List (List ℕ)). slice_get pool constant) constants ∙ here in
    let slot_count : length lists.stack_slots ≡ length f.tables.stack_slots = ap length slots in
    let pool_count : length lists.constants ≡ length f.tables.constants = ap length constants in
    let signature_count : length lists.signatures ≡ length f.tables.signatures = ap length signatures in
    let function_count : length lists.functions ≡ length f.tables.functions = ap length functions in
    record {
      of_calls = of_calls;
      constants = keeps;
      entries = entries_pooled f.tables lists keeps signatures functions maps;
      stay = entry_stays f.tables lists (omega (arith, slot_count)) (omega (arith, pool_count)) (omega (arith, signature_count)) (omega (arith, function_count));
      slots = slot_count;
    }

pub created_aside : (f : Body) (edges : List BlockCall) → AreAside f (with_jump_table f.tables edges)
created_aside f edges = beside_entries f (with_jump_table f.tables edges) refl refl refl refl refl refl

pub served_aside : (f : Body) (table : ℕ) → AreAside f (with_table_served f.tables table)
served_aside f table = beside_entries f (with_table_served f.tables table) refl refl refl refl refl refl

pub exception_created_aside : (f : Body) (held : ExceptionShape) → AreAside f (exception_tables.with_table f.tables held)
exception_created_aside f held = beside_entries f (exception_tables.with_table f.tables held) refl refl refl refl refl refl

pub exception_served_aside : (f : Body) (table : ℕ) → AreAside f (with_exception_table_served f.tables table)
exception_served_aside f table = beside_entries f (with_exception_table_served f.tables table) refl refl refl refl refl refl

pub labelled_aside : (f : Body) (value : ℕ) (start : ValueLabelStart) → AreAside f (with_label f.tables value start)
labelled_aside f value start = beside_entries f (with_label f.tables value start) refl refl refl refl refl refl

pub collected_aside : (f : Body) → AreAside f (with_labels_collected f.tables)
collected_aside f = beside_entries f (with_labels_collected f.tables) refl refl refl refl refl refl

pub same_aside : (f : Body) → AreAside f f.tables
same_aside f = beside_entries f f.tables refl refl refl refl refl refl

-- THE BUILDER -----------------------------------------------------------------------------------------------------------

module _ (lists : TableLists) (f g : Body) where
  -- what holds of the function as it is now
  pub on_ok : {X : Type 0} (P : Body → Type 0) (r : Result X BuildError) → OnOk r (g ≡ with_tables f lists) → P (with_tables f lists) → OnOk r (P g)
  on_ok P (Err e) is holds = tt
  on_ok P (Ok n) is holds = subst P (sym is) holds

pub current_aside : {A : Type 0} {R : Type 0} (lists : TableLists) (old new : FunctionBuilder R) (r : Result A BuildError) → new.position ≡ old.position → new.ctx.now.parts ≡ old.ctx.now.parts
    → OnOk r (new.func.now ≡ with_tables old.func.now lists) → HasCurrent old → OnOk r (HasCurrent new)
current_aside lists old new (Err e) position context is current = tt
current_aside lists old new (Ok n) position context is current = (
  current.0,
  position ∙ current.1,
  subst (λ (f : Body). current.0 < length f.blocks) (sym is) current.2,
  subst (λ (c : ContextState). status_of c current.0 ≢ Filled) (sym context) current.3,
)

-- a call on a builder that hasn't failed
pub set_tables : {A : Type 0} {R : Type 0} (lists : TableLists) (old new : FunctionBuilder R) (answer : Result A BuildError) → AreAside old.func.now lists → old.failed ≡ false → SameLoans old new
    → new.position ≡ old.position → new.srcloc ≡ old.srcloc → new.ctx.now.parts ≡ old.ctx.now.parts → new.failed ≡ is_err answer → IsConsistent old.func.now → answer ≢ Err Failed
    → OnOk answer (new.func.now ≡ with_tables old.func.now lists) → OnErr answer (new.func.now ≡ old.func.now) → SetsTables lists old new answer
set_tables {A} lists old new answer aside fine loans position srcloc context fails consistent never_failed ok err =
    let f : Body = old.func.now in
    let g : Body = new.func.now in
    let ssa : new.ctx.now.parts.ssa ≡ old.ctx.now.parts.ssa = ap (λ (c : ContextState). c.ssa) context in
    let parts : (P : Body → ContextState → Option ℕ → Type 0) → P (with_tables f lists) old.ctx.now.parts old.position → P (with_tables f lists) new.ctx.now.parts new.position =
    λ P holds. subst (λ (r : Option ℕ). P (with_tables f lists) new.ctx.now.parts r) (sym position) (subst (λ (e : ContextState). P (with_tables f lists) e old.position) (sym context) holds) in
    record {
      call = calls.made old new answer loans position srcloc fine never_failed fails (same_looks old.ctx.now.parts.ssa new.ctx.now.parts.ssa ssa)
          (on_ok lists f g (TypesStay f) answer ok (λ v inside. refl)) (filled-same answer old.ctx.now.parts new.ctx.now.parts (ap (λ (c : ContextState). c.status) context));
      function = ok;
      kept = err;
      context = context;
      ledger = λ cs agrees.
          on_ok lists f g (λ h. LedgerAgrees cs (ledger_of cs) h new.ctx.now.parts new.position) answer ok
          (parts (λ h e r. LedgerAgrees cs (ledger_of cs) h e r)
          (agrees_aside f lists aside.constants aside.entries aside.of_calls cs (ledger_of cs) old.ctx.now.parts old.position agrees));
      stands = λ signature cs stands.
          on_ok lists f g (λ h. StandsIn signature cs h new.ctx.now.parts new.position) answer ok
          (parts (λ h e r. StandsIn signature cs h e r)
          (stands_aside f lists aside.constants aside.entries aside.of_calls signature cs old.ctx.now.parts old.position consistent stands));
      grows = on_ok lists f g (GrowsBesideTables f) answer ok (omega arith, omega arith, omega arith, refl, refl, omega (arith, aside.slots), aside.stay);
      remembers = λ x b.
          on_ok lists f g (λ h. Remembers x b f old.ctx.now.parts.ssa h new.ctx.now.parts.ssa) answer ok
          (record { recorded = λ v here. ap (λ (u : SsaState). record_of u x b) ssa ∙ here; alike = λ u v alike. alike });
      current = current_aside lists old new answer position context ok;
    }

-- a call on one that has
pub set_refused : {A : Type 0} {R : Type 0} (lists : TableLists) (old : FunctionBuilder R) → old.failed ≡ true → SetsTables {A = A} lists old old (Err Failed)
set_refused {A} lists old failed = record {
  call = refused old failed;
  function = tt;
  kept = refl;
  context = refl;
  ledger = λ calls agrees. tt;
  stands = λ signature calls stands. tt;
  grows = tt;
  remembers = λ x b. tt;
  current = λ current. tt;
}

-- CONSTANTS -------------------------------------------------------------------------------------------------------------

module _ (bytes : List ℕ) (f g : Body) where
  found_pooled : (r : Result ℕ BuildError) → OnOk r (g ≡ with_tables f (with_constant f.tables bytes)) → IfOk r (λ number. number ≡ constant_of f.tables.constants bytes)
      → IfOk r (λ number. slice_get g.tables.constants number ≡ Some bytes)
  found_pooled (Err e) is number = tt
  found_pooled (Ok n) is number =
      let h : Body = with_tables f (with_constant f.tables bytes) in
      ap (λ (h : Body). slice_get h.tables.constants n) is ∙ ap (slice_get h.tables.constants) number ∙ (is_pooled f.tables.constants bytes).found

pub constant_pooled : {R : Type 0} (bytes : List ℕ) (old new : FunctionBuilder R) (answer : Result ℕ BuildError) → old.failed ≡ false → SameLoans old new → new.position ≡ old.position → new.srcloc ≡ old.srcloc
    → new.ctx.now.parts ≡ old.ctx.now.parts → new.failed ≡ is_err answer → IsConsistent old.func.now
    → Pools bytes old.func.now.tables.constants old.func.now new.func.now (with_tables old.func.now (with_constant old.func.now.tables bytes)) answer → PoolsConstant old new bytes answer
constant_pooled bytes old new answer fine loans position srcloc context fails consistent pools =
    let f : Body = old.func.now in
    record {
      sets = set_tables (with_constant f.tables bytes) old new answer (pooled_aside f bytes) fine loans position srcloc context fails consistent pools.never_failed pools.ok pools.err;
      grows = on_ok (with_constant f.tables bytes) f new.func.now (Grows f) answer pools.ok (omega arith, omega arith, omega arith, refl, refl, omega arith, refl, (pooled_aside f bytes).stay, refl);
      number = pools.number;
      found = found_pooled bytes f new.func.now answer pools.ok pools.number;
      full = (λ is. let new = pools.full.0 is in (fine, new.0, new.1), λ all. pools.full.1 (all.1, all.2));
    }

pub constant_refused : {R : Type 0} (bytes : List ℕ) (old : FunctionBuilder R) → old.failed ≡ true → PoolsConstant old old bytes (Err Failed)
constant_refused bytes old failed = record {
  sets = set_refused (with_constant old.func.now.tables bytes) old failed;
  grows = tt;
  number = tt;
  found = tt;
  full = (λ is. let no_way : ⊥ = cc in absurd no_way, λ all. let no_way : ⊥ = cc in absurd no_way);
}

-- TABLES THAT SERVE ONE INSTRUCTION, AND EDGES -----------------------------------------------------------------------------

module _ {T : Type 0} (kind : TableKind T) where
  -- a table is put at the end of those of its kind
  pub table_created : {R : Type 0} (held : T) (old new : FunctionBuilder R) (answer : Result ℕ BuildError)
      → AreAside old.func.now (kind.with_table old.func.now.tables held) → kind.tables (kind.with_table old.func.now.tables held) ≡ kind.tables old.func.now.tables ++ Some held ∷ []
      → old.failed ≡ false → SameLoans old new → new.position ≡ old.position → new.srcloc ≡ old.srcloc
      → new.ctx.now.parts ≡ old.ctx.now.parts → new.failed ≡ is_err answer → IsConsistent old.func.now
      → MakesEntry (λ number. number) (length (kind.tables old.func.now.tables)) old.func.now new.func.now (with_tables old.func.now (kind.with_table old.func.now.tables held)) answer
      → Creates kind held old new answer
  table_created held old new answer aside last fine loans position srcloc context fails consistent makes =
      record {
        sets = set_tables (kind.with_table old.func.now.tables held) old new answer aside fine loans position srcloc context fails consistent makes.never_failed makes.ok makes.err;
        number = makes.number;
        serves = created answer makes.ok makes.number;
        full = (λ is. (fine, makes.full.0 is), λ both. makes.full.1 both.1);
      }
    where
      created : (r : Result ℕ BuildError) → OnOk r (new.func.now ≡ with_tables old.func.now (kind.with_table old.func.now.tables held))
          → IfOk r (λ number. number ≡ length (kind.tables old.func.now.tables)) → IfOk r (λ number. table_held kind new number ≡ Some held)
      created (Ok n) is number =
          ap (λ (h : Body). unserved (slice_get (kind.tables h.tables) n)) is
          ∙ ap (λ (entries : List (Option T)). unserved (slice_get entries n)) last
          ∙ ap (λ (k : ℕ). unserved (slice_get (kind.tables old.func.now.tables ++ Some held ∷ []) k)) number
          ∙ ap unserved (get-last (kind.tables old.func.now.tables) (Some held))
      created (Err e) is number = tt

  pub table_refused : {R : Type 0} (held : T) (old : FunctionBuilder R) → old.failed ≡ true → Creates kind held old old (Err Failed)
  table_refused held old failed = record {
    sets = set_refused (kind.with_table old.func.now.tables held) old failed;
    number = tt;
    serves = tt;
    full = (λ is. let no_way : ⊥ = cc in absurd no_way, λ both. let no_way : ⊥ = cc in absurd no_way);
  }

  -- what an instruction may name of the parts of a builder
  abbrev pub NamedIn : Body → ContextState → T → Type 0
  NamedIn f c held = kind.CanBeNamed (CanLeadIn f c) (ValueExists f) (EntryExists f.tables) held

  -- what a table that may serve holds is taken
  named_taken : {R : Type 0} (table : ℕ) (held : T) (old new : FunctionBuilder R) → new.ctx.now.parts ≡ old.ctx.now.parts → table_held kind old table ≡ Some held
      → (NamedIn old.func.now old.ctx.now.parts held → NamedIn (with_tables old.func.now (kind.with_served old.func.now.tables table)) old.ctx.now.parts held)
      → new.func.now ≡ with_tables old.func.now (kind.with_served old.func.now.tables table) → MayServeFor kind old table → CanBeNamed kind new held
  named_taken table held old new context found stay made (other, is, named) =
      let same : other ≡ held = cc in
      subst (λ (c : ContextState). NamedIn new.func.now c held) (sym context)
      (subst (λ (f : Body). NamedIn f old.ctx.now.parts held) (sym made) (stay (subst (NamedIn old.func.now old.ctx.now.parts) same named)))

  pub table_taken : {R : Type 0} (table : ℕ) (held : T) (old new : FunctionBuilder R) → AreAside old.func.now (kind.with_served old.func.now.tables table)
      → (NamedIn old.func.now old.ctx.now.parts held → NamedIn (with_tables old.func.now (kind.with_served old.func.now.tables table)) old.ctx.now.parts held)
      → old.failed ≡ false → SameLoans old new → new.position ≡ old.position → new.srcloc ≡ old.srcloc
      → new.ctx.now.parts ≡ old.ctx.now.parts → new.failed ≡ false → IsConsistent old.func.now → table_held kind old table ≡ Some held
      → new.func.now ≡ with_tables old.func.now (kind.with_served old.func.now.tables table) → Takes kind old new table (Ok held)
  table_taken table held old new aside stay fine loans position srcloc context fails consistent found made =
      record {
        sets = set_tables (kind.with_served old.func.now.tables table) old new (Ok held) aside fine loans position srcloc context fails consistent (calls.by_success held) made tt;
        held = found;
        can_be_named = named_taken table held old new context found stay made;
        only_failed = tt;
      }

  pub take_refused : {R : Type 0} (table : ℕ) (old : FunctionBuilder R) → old.failed ≡ true → Takes kind old old table (Err Failed)
  take_refused table old failed =
      record { sets = set_refused (kind.with_served old.func.now.tables table) old failed; held = tt; can_be_named = λ serves. tt; only_failed = refl }

-- what holds, whatever is answered
pub on_any : {X P : Type 0} (r : Result X BuildError) → P → OnOk r P
on_any (Ok x) here = here
on_any (Err e) here = tt

pub err_any : {X P : Type 0} (r : Result X BuildError) → P → OnErr r P
err_any (Ok x) here = tt
err_any (Err e) here = here

-- a call whose only error is `Memory` answers no full table
pub not_full : {A : Type 0} (r : Result A BuildError) → OnErr r (r ≡ Err Memory) → r ≢ Err Full
not_full (Ok x) only is = let no_way : ⊥ = cc in absurd no_way
not_full (Err e) only is = let no_way : ⊥ = cc in absurd no_way

pub edge_made : {R : Type 0} (block : ℕ) (args : List BlockArg) (old new : FunctionBuilder R) (answer : Result BlockCall BuildError) → old.failed ≡ false → SameLoans old new → new.position ≡ old.position → new.srcloc ≡ old.srcloc
    → new.ctx.now.parts ≡ old.ctx.now.parts → new.failed ≡ is_err answer → IsConsistent old.func.now → new.func.now ≡ old.func.now → OnErr answer (answer ≡ Err Memory)
    → IfOk answer (λ edge. (edge.block ≡ block) × (edge.args ≡ args)) → MakesEdge block args old new answer
edge_made block args old new answer fine loans position srcloc context fails consistent same only_memory edge = record {
  sets = set_tables old.func.now.tables old new answer (same_aside old.func.now) fine loans position srcloc context fails consistent (calls.by_memory answer only_memory) (on_any answer same) (err_any answer same);
  grows = on_any answer (subst (Grows old.func.now) (sym same) (omega arith, omega arith, omega arith, refl, refl, omega arith, refl, λ entry here. here, refl));
  edge = parts answer edge;
  never_full = not_full answer only_memory;
}
  where
    parts : (r : Result BlockCall BuildError) → IfOk r (λ edge. (edge.block ≡ block) × (edge.args ≡ args)) → IfOk r (λ edge. edge ≡ record { block = block; args = args })
    parts (Ok e) is = subst (λ (b : ℕ). e ≡ record { block = b; args = args }) is.0 (subst (λ (as_are : List BlockArg). e ≡ record { block = e.block; args = as_are }) is.1 refl)
    parts (Err e) is = tt

pub edge_refused : {R : Type 0} (block : ℕ) (args : List BlockArg) (old : FunctionBuilder R) → old.failed ≡ true → MakesEdge block args old old (Err Failed)
edge_refused block args old failed =
    record { sets = set_refused old.func.now.tables old failed; grows = tt; edge = tt; never_full = λ is. let no_way : ⊥ = cc in absurd no_way }
