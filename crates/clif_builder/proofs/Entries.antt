-- An entry is put into a table of the function: the agreement with the ledger is kept, and the builder stands for the calls.
use Rattle.std.proofs.Common.{◌≡◌, ◌≢◌, ◌<◌, ℕ, List, [], ◌∷◌, ◌++◌, length, refl, sym, ◌∙◌, ap, subst, arith, Bool, false, inl, inr}
use Rattle.std.proofs.lemmas.Grind.{common_steps}
use Rattle.std.specs.Prelude.{◌≤◌, slice_get, Option, true, is_err, Result, Ok, Err, IfOk, OnOk, OnErr}
use Rattle.clif_types.specs.declared.error.BuildError.{BuildError}
use Rattle.clif_types.specs.declared.error.BuildError.TheVariants.{Failed}
use Rattle.clif_types.specs.Signature.{SignatureShape}
use Rattle.clif_tables.specs.Entries.{TableEntry, AStackSlot, ADynamicStackSlot, AGlobalValue, ASignature, AFunction, count_for, with_entry}
use Rattle.clif_tables.specs.Lists.{TableLists}
use Rattle.clif_ir.specs.Body.{Body, value_at}
use Rattle.clif_ir.specs.Changes.{with_tables}
use Rattle.clif_ir.specs.Entries.{MakesIn}
use Rattle.clif_meaning.specs.Request.{AnsweredCall, MakeEntry}
use Rattle.clif_meaning.specs.Ledger.{AnEntry, Ledger, ledger_with}
use Rattle.clif_ssa.specs.Ssa.{NamesExist, SsaState, record_of}
use Rattle.clif_ssa.specs.Structure.{Remembers, StayAlike}
use Rattle.clif_ssa.proofs.Pooled.{KeepsConstants}
use Rattle.clif_ssa.proofs.StructuredLaws.{blocks_structured}
use Rattle.clif_simulation.proofs.Further.{carries_tables}
use Rattle.clif_simulation.proofs.Growing.{entries_kept}
use Rattle.clif_ir.proofs.KeepsTables.{entry_stays}
use Rattle.clif_ir.specs.Consistent.{IsConsistent}
use Rattle.clif_simulation.proofs.Redirections.Predecessors.{leads_on}
use Rattle.clif_builder.specs.declared.builder.FunctionBuilder.{FunctionBuilder}
use Rattle.clif_builder.specs.declared.context.BlockStatus.TheVariants.{Filled}
use Rattle.clif_builder.specs.Builder.{HasCurrent, SameLoans}
use Rattle.clif_builder.specs.Context.{ContextState, status_of}
use Rattle.clif_builder.specs.Calls.{answered}
use Rattle.clif_builder.specs.Entries.{MakesEntry}
use Rattle.clif_builder.specs.Growth.{EntriesStay, Grows, TypesStay}
use Rattle.clif_builder.specs.Ledger.{LedgerAgrees, ledger_of, tables_of_calls}
use Rattle.clif_builder.specs.Order.{IsInOrder, IsKept}
use Rattle.clif_builder.specs.StandsFor.{StandsIn}
use Rattle.clif_builder.proofs.Calls as calls
use Rattle.clif_builder.proofs.Calls.{refused, same_looks, told_by}
use Rattle.clif_builder.proofs.Framed.{filled-same}
use Rattle.clif_builder.proofs.Counted.{counts_same, leaves_all}
use Rattle.clif_builder.proofs.LedgerBlocks.{agrees-kept}
use Rattle.clif_builder.proofs.LedgerKept.{answers-one, concluded}
use Rattle.clif_builder.proofs.Named.{kept_by, kept_still}
use Rattle.clif_builder.proofs.Tracks.{tracks_still}
use Rattle.clif_builder.proofs.StandingCallers.{alone_after, kept_alone, same_callers}
use Rattle.clif_builder.proofs.Fitting.{fits_still}
use Rattle.clif_builder.specs.Tracking.{FitsMaps}

-- the agreement, with other tables
pub tabled : (calls : List AnsweredCall) (ledger : Ledger) (f : Body) (c : ContextState) (p : Option ℕ) (tables : TableLists) → KeepsConstants f (with_tables f tables)
    → LedgerAgrees calls ledger f c p → LedgerAgrees calls (record ledger { tables = tables_of_calls tables }) (with_tables f tables) c p
tabled calls ledger f c p tables keeps agrees = record {
  places = agrees.places;
  answers = λ place call answers at_call at_answers.
      let old = agrees.answers place call answers at_call at_answers in
      record { count = old.count; each = old.each; results = old.results };
  block_count = agrees.block_count;
  blocks = λ k s there. let was = agrees.blocks k s there in record { number = was.number; is_sealed = was.is_sealed; is_pristine = was.is_pristine; is_filled = was.is_filled; is_cold = was.is_cold; predecessors = was.predecessors };
  block_answers = agrees.block_answers;
  current = agrees.current;
  layout = agrees.layout;
  variables = agrees.variables;
  tables = refl;
  tracks = agrees.tracks;
  counts = counts_same calls f c (with_tables f tables) c refl refl refl (leaves_all c) agrees.counts;
  own = agrees.own;
  structured = λ types are. blocks_structured f f.blocks f.layout tables keeps types agrees.own c.ssa [] (λ x. refl) (λ x. refl) (agrees.structured types are);
  callers_types = agrees.callers_types;
  callers_alone = λ d. elim (agrees.callers_alone d) [
    | inl alone ↦ inl alone
    | inr old ↦ inr (record { inserted = old.inserted; begun = old.begun })
  ];
  branches = λ d i here. let old = agrees.branches d i here in record { inserted = old.inserted; filled = old.filled };
  fresh = agrees.fresh;
}

-- an entry is put into tables as it is into those without constants, which stay
entry_aside : (t : TableLists) (entry : TableEntry) → with_entry (tables_of_calls t) entry ≡ tables_of_calls (with_entry t entry)
entry_aside t (AStackSlot slot) = refl
entry_aside t _ = refl

count_aside : (t : TableLists) (entry : TableEntry) → count_for (tables_of_calls t) entry ≡ count_for t entry
count_aside t (AStackSlot slot) = refl
count_aside t _ = refl

constants_aside : (t : TableLists) (entry : TableEntry) → (with_entry t entry).constants ≡ t.constants
constants_aside t (AStackSlot slot) = refl
constants_aside t _ = refl

jump_tables_aside : (t : TableLists) (entry : TableEntry) → (with_entry t entry).jump_tables ≡ t.jump_tables
jump_tables_aside t (AStackSlot slot) = refl
jump_tables_aside t _ = refl

exception_tables_aside : (t : TableLists) (entry : TableEntry) → (with_entry t entry).exception_tables ≡ t.exception_tables
exception_tables_aside t (AStackSlot slot) = refl
exception_tables_aside t _ = refl

-- the entries that instructions name stay
pub entries_stay : (t : TableLists) (entry : TableEntry) → EntriesStay t (with_entry t entry)
entries_stay t (AStackSlot slot) = entry_stays t (with_entry t (AStackSlot slot)) (grind (arith, common_steps)) (omega arith) (omega arith) (omega arith)
entries_stay t (ADynamicStackSlot slot) = entry_stays t (with_entry t (ADynamicStackSlot slot)) (omega arith) (omega arith) (omega arith) (omega arith)
entries_stay t (AGlobalValue value) = entry_stays t (with_entry t (AGlobalValue value)) (omega arith) (omega arith) (omega arith) (omega arith)
entries_stay t (ASignature signature) = entry_stays t (with_entry t (ASignature signature)) (omega arith) (omega arith) (grind (arith, common_steps)) (omega arith)
entries_stay t (AFunction function) = entry_stays t (with_entry t (AFunction function)) (omega arith) (omega arith) (omega arith) (grind (arith, common_steps))

entry_keeps : (f : Body) (entry : TableEntry) → KeepsConstants f (with_tables f (with_entry f.tables entry))
entry_keeps f entry constant bytes here = ap (λ (constants : List (List ℕ)). slice_get constants constant) (constants_aside f.tables entry) ∙ here

-- the call
abbrev pub made : TableEntry → ℕ → AnsweredCall
made entry number = answered (MakeEntry entry) (number ∷ [])

-- the function with the entry
abbrev pub with_more : Body → TableEntry → Body
with_more f entry = with_tables f (with_entry f.tables entry)

pub entry_agrees : (calls : List AnsweredCall) (f : Body) (c : ContextState) (p : Option ℕ) (entry : TableEntry) (number : ℕ) → LedgerAgrees calls (ledger_of calls) f c p
    → number ≡ count_for f.tables entry → LedgerAgrees (calls ++ made entry number ∷ []) (ledger_of (calls ++ made entry number ∷ [])) (with_more f entry) c p
entry_agrees calls f c p entry number agrees is =
    let ledger : Ledger = ledger_of calls in
    let between : Ledger = record ledger { tables = with_entry ledger.tables entry } in
    let new : Ledger = ledger_with ledger (MakeEntry entry) in
    let g : Body = with_more f entry in
    let is_tabled : LedgerAgrees calls between g c p =
    subst (λ (tables : TableLists). LedgerAgrees calls (record ledger { tables = tables }) g c p)
    (sym (ap (λ (tables : TableLists). with_entry tables entry) agrees.tables ∙ entry_aside f.tables entry))
    (tabled calls ledger f c p (with_entry f.tables entry) (entry_keeps f entry) agrees) in
    let numbered : number ≡ count_for ledger.tables entry =
    is ∙ sym (ap (λ (tables : TableLists). count_for tables entry) agrees.tables ∙ count_aside f.tables entry) in
    concluded calls (made entry number) g c p
    (agrees-kept calls (made entry number) between new g c c p p (AnEntry entry (count_for ledger.tables entry) ∷ []) is_tabled refl refl refl refl is_tabled.current is_tabled.variables
    (λ d. refl) (λ d. refl) (λ d. refl) (tracks_still calls (made entry number) g.values c tt is_tabled.tracks) (leaves_all c) is_tabled.structured
    (answers-one new g (length calls) (AnEntry entry (count_for ledger.tables entry)) number numbered tt))

pub entry_stands : (declared : SignatureShape) (calls : List AnsweredCall) (f : Body) (c : ContextState) (p : Option ℕ) (entry : TableEntry) (number : ℕ) → IsConsistent f → StandsIn declared calls f c p
    → LedgerAgrees (calls ++ made entry number ∷ []) (ledger_of (calls ++ made entry number ∷ [])) (with_more f entry) c p
    → StandsIn declared (calls ++ made entry number ∷ []) (with_more f entry) c p
entry_stands declared calls f c p entry number consistent stands ledger = record {
  signature = stands.signature;
  ledger = ledger;
  carries = carries_tables calls f c.ssa stands.carries entry number (with_entry f.tables entry) consistent (entries_kept f.tables entry);
  leads_built = leads_on calls (made entry number) tt stands.leads_built;
  begun = stands.begun;
  callers_alone = λ d.
      alone_after calls (made entry number) f (with_more f entry) c c stands.carries.own stands.carries.holds.parameters
      (same_callers calls (made entry number) f c.ssa stands.carries tt tt) d
      (kept_alone stands.carries.own f (with_more f entry) c c d refl (λ was. record { inserted = was.inserted; begun = was.begun }))
      (stands.callers_alone d);
}

-- what the construction names exists, and is in order
pub names_tabled : (f : Body) (s : SsaState) (tables : TableLists) → NamesExist f s → NamesExist (with_tables f tables) s
names_tabled f s tables named = record { recorded = named.recorded; leading = named.leading; waiting = named.waiting }

pub order_tabled : (f : Body) (c : ContextState) (tables : TableLists) → KeepsConstants f (with_tables f tables) → IsInOrder f c → IsInOrder (with_tables f tables) c
order_tabled f c tables keeps order = record {
  own = order.own;
  structured = λ types are. blocks_structured f f.blocks f.layout tables keeps types order.own c.ssa [] (λ x. refl) (λ x. refl) (order.structured types are);
  callers_alone = λ d. elim (order.callers_alone d) [
    | inl alone ↦ inl alone
    | inr old ↦ inr (record { inserted = old.inserted; begun = old.begun })
  ];
  branches = λ d i here. let old = order.branches d i here in record { inserted = old.inserted; filled = old.filled };
  fresh = order.fresh;
}

-- THE BUILDER -----------------------------------------------------------------------------------------------------------

module _ (entry : TableEntry) (f g : Body) (c d : ContextState) (p q : Option ℕ) (same : d ≡ c) (stays : q ≡ p) where
  -- what holds of the parts as they are now
  now : (P : Body → ContextState → Option ℕ → Type 0) → g ≡ with_more f entry → P (with_more f entry) c p → P g d q
  now P is holds = subst (λ (r : Option ℕ). P g d r) (sym stays) (subst (λ (e : ContextState). P g e p) (sym same) (subst (λ (h : Body). P h c p) (sym is) holds))

  ledger_made : (r : Result ℕ BuildError) (calls : List AnsweredCall) → OnOk r (g ≡ with_more f entry) → IfOk r (λ number. number ≡ count_for f.tables entry)
      → LedgerAgrees calls (ledger_of calls) f c p → IfOk r (λ number. LedgerAgrees (calls ++ made entry number ∷ []) (ledger_of (calls ++ made entry number ∷ [])) g d q)
  ledger_made (Err e) calls is number agrees = tt
  ledger_made (Ok n) calls is number agrees =
      now (λ h e r. LedgerAgrees (calls ++ made entry n ∷ []) (ledger_of (calls ++ made entry n ∷ [])) h e r) is (entry_agrees calls f c p entry n agrees number)

  stands_made : (r : Result ℕ BuildError) (declared : SignatureShape) (calls : List AnsweredCall) → IsConsistent f → OnOk r (g ≡ with_more f entry) → IfOk r (λ number. number ≡ count_for f.tables entry)
      → StandsIn declared calls f c p → IfOk r (λ number. StandsIn declared (calls ++ made entry number ∷ []) g d q)
  stands_made (Err e) declared calls consistent is number stands = tt
  stands_made (Ok n) declared calls consistent is number stands =
      now (λ h e r. StandsIn declared (calls ++ made entry n ∷ []) h e r) is
      (entry_stands declared calls f c p entry n consistent stands (entry_agrees calls f c p entry n stands.ledger number))

-- what an answer other than an error makes of the function
module _ (entry : TableEntry) (f g : Body) where
  types_made : (r : Result ℕ BuildError) → OnOk r (g ≡ with_more f entry) → OnOk r (TypesStay f g)
  types_made (Err e) is = tt
  types_made (Ok n) is = subst (TypesStay f) (sym is) (λ v inside. refl)

  grows_made : (r : Result ℕ BuildError) → OnOk r (g ≡ with_more f entry) → OnOk r (Grows f g)
  grows_made (Err e) is = tt
  grows_made (Ok n) is = subst (Grows f) (sym is) (omega arith, omega arith, omega arith, refl, refl, slots entry, jump_tables_aside f.tables entry, entries_stay f.tables entry, exception_tables_aside f.tables entry)
    where
      slots : (e : TableEntry) → length f.tables.stack_slots ≤ length (with_entry f.tables e).stack_slots
      slots (AStackSlot slot) = grind (arith, common_steps)
      slots _ = omega arith

  remembers_made : (r : Result ℕ BuildError) (x b : ℕ) (s t : SsaState) → OnOk r (g ≡ with_more f entry) → t ≡ s → OnOk r (Remembers x b f s g t)
  remembers_made (Err e) x b s t is same = tt
  remembers_made (Ok n) x b s t is same = record {
    recorded = λ v here. ap (λ (u : SsaState). record_of u x b) same ∙ here;
    alike = subst (λ (h : Body). StayAlike f h) (sym is) (λ u v alike. alike);
  }

current_made : {R : Type 0} (entry : TableEntry) (old new : FunctionBuilder R) (r : Result ℕ BuildError) → new.position ≡ old.position → new.ctx.now.parts ≡ old.ctx.now.parts
    → OnOk r (new.func.now ≡ with_more old.func.now entry) → HasCurrent old → OnOk r (HasCurrent new)
current_made entry old new (Err e) position context is current = tt
current_made entry old new (Ok n) position context is current = (
  current.0,
  position ∙ current.1,
  subst (λ (f : Body). current.0 < length f.blocks) (sym is) current.2,
  subst (λ (c : ContextState). status_of c current.0 ≢ Filled) (sym context) current.3,
)

-- a call on a builder that hasn't failed
pub entry_made : {R : Type 0} (entry : TableEntry) (old new : FunctionBuilder R) (answer : Result ℕ BuildError) → old.failed ≡ false → IsConsistent old.func.now → SameLoans old new → new.position ≡ old.position → new.srcloc ≡ old.srcloc
    → new.ctx.now.parts ≡ old.ctx.now.parts → new.failed ≡ is_err answer → MakesIn entry old.func.now new.func.now answer → MakesEntry entry old new answer
entry_made entry old new answer fine consistent loans position srcloc context fails makes =
    let ssa : new.ctx.now.parts.ssa ≡ old.ctx.now.parts.ssa = ap (λ (c : ContextState). c.ssa) context in
    record {
      call = calls.made old new answer loans position srcloc fine makes.never_failed fails (same_looks old.ctx.now.parts.ssa new.ctx.now.parts.ssa ssa)
          (types_made entry old.func.now new.func.now answer makes.ok) (filled-same answer old.ctx.now.parts new.ctx.now.parts (ap (λ (c : ContextState). c.status) context));
      function = makes.ok;
      number = makes.number;
      kept = makes.err;
      context = context;
      full = (λ is. (fine, makes.full.0 is), λ both. makes.full.1 both.1);
      told = told_by old new answer (λ _. Unit {0}) (made entry)
          (λ cs agrees _. ledger_made entry old.func.now new.func.now old.ctx.now.parts new.ctx.now.parts old.position new.position context position answer cs makes.ok makes.number agrees)
          (λ signature cs stands _ _. stands_made entry old.func.now new.func.now old.ctx.now.parts new.ctx.now.parts old.position new.position context position answer signature cs consistent makes.ok makes.number stands);
      grows = grows_made entry old.func.now new.func.now answer makes.ok;
      remembers = λ x b. remembers_made entry old.func.now new.func.now answer x b old.ctx.now.parts.ssa new.ctx.now.parts.ssa makes.ok ssa;
      current = current_made entry old new answer position context makes.ok;
    }

-- a call on one that has
pub entry_refused : {R : Type 0} (entry : TableEntry) (old : FunctionBuilder R) → old.failed ≡ true → MakesEntry entry old old (Err Failed)
entry_refused entry old failed = record {
  call = refused old failed;
  function = tt;
  number = tt;
  kept = refl;
  context = refl;
  full = (λ is. let no_way : ⊥ = cc in absurd no_way, λ both. let no_way : ⊥ = cc in absurd no_way);
  told = record { ledger = λ calls agrees named. tt; stands = λ signature calls stands named. tt };
  grows = tt;
  remembers = λ x b. tt;
  current = λ current. tt;
}

-- the function is kept in order where its tables change
pub tables_kept : {A : Type 0} (lists : TableLists) (answer : Result A BuildError) (f g : Body) (c : ContextState) (was now : Bool) → KeepsConstants f (with_tables f lists)
    → was ≡ false → now ≡ is_err answer → OnOk answer (g ≡ with_tables f lists) → OnErr answer (g ≡ f) → ∥ IsKept f c was ∥₁ → ∥ IsKept g c now ∥₁
tables_kept {A} lists answer f g c was now constants sound fails ok err kept =
    kept_by answer f g c c was now sound fails (names_made answer ok err) (λ order. order_made answer ok order) (λ order fits. fits_made answer ok fits) kept
  where
    names_made : (r : Result A BuildError) → OnOk r (g ≡ with_tables f lists) → OnErr r (g ≡ f) → NamesExist f c.ssa → NamesExist g c.ssa
    names_made (Ok n) is _ named = subst (λ (h : Body). NamesExist h c.ssa) (sym is) (names_tabled f c.ssa lists named)
    names_made (Err e) _ is named = subst (λ (h : Body). NamesExist h c.ssa) (sym is) named

    order_made : (r : Result A BuildError) → OnOk r (g ≡ with_tables f lists) → IsInOrder f c → OnOk r (IsInOrder g c)
    order_made (Ok n) is order = subst (λ (h : Body). IsInOrder h c) (sym is) (order_tabled f c lists constants order)
    order_made (Err e) is order = tt

    fits_made : (r : Result A BuildError) → OnOk r (g ≡ with_tables f lists) → FitsMaps f c → OnOk r (FitsMaps g c)
    fits_made (Ok n) is fits = fits_still f g c (λ v there. ap (λ (h : Body). (value_at h v).ty) is) fits
    fits_made (Err e) is fits = tt

-- the same of a call that can't fail
pub tables_still : (lists : TableLists) (f g : Body) (c : ContextState) (failed : Bool) → KeepsConstants f (with_tables f lists)
    → g ≡ with_tables f lists → ∥ IsKept f c failed ∥₁ → ∥ IsKept g c failed ∥₁
tables_still lists f g c failed constants made kept =
    kept_still f g c c failed
    (λ named. subst (λ (h : Body). NamesExist h c.ssa) (sym made) (names_tabled f c.ssa lists named))
    (λ order. subst (λ (h : Body). IsInOrder h c) (sym made) (order_tabled f c lists constants order))
    (fits_still f g c (λ v there. ap (λ (h : Body). (value_at h v).ty) made))
    kept

pub entry_kept : (entry : TableEntry) (answer : Result ℕ BuildError) (f g : Body) (c : ContextState) (was now : Bool) → was ≡ false → now ≡ is_err answer
    → MakesIn entry f g answer → ∥ IsKept f c was ∥₁ → ∥ IsKept g c now ∥₁
entry_kept entry answer f g c was now sound fails makes kept =
    tables_kept (with_entry f.tables entry) answer f g c was now (entry_keeps f entry) sound fails makes.ok makes.err kept
