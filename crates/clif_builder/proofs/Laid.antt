-- A block comes behind another one in the layout: the agreement with the ledger is kept, and the builder stands for the
-- calls.
use Rattle.std.proofs.Common.{◌≡◌, ℕ, List, [], ◌∷◌, ◌++◌, length, refl, sym, ◌∙◌, Bool, false, if◌then◌else◌, inl, inr}
use Rattle.std.proofs.lemmas.Bool.{false≢true}
use Rattle.std.specs.Prelude.{◌==◌, map, Option, Some, true}
use Rattle.clif_types.specs.Signature.{SignatureShape}
use Rattle.clif_ir.specs.Body.{Body}
use Rattle.clif_ir.specs.Changes.{put_behind, with_layout_after}
use Rattle.clif_instructions.specs.Members.{stands_in}
use Rattle.clif_meaning.specs.Name.{Name, same_name}
use Rattle.clif_meaning.specs.Request.{AnsweredCall, InsertBlockAfter}
use Rattle.clif_meaning.specs.Ledger.{Ledger, ledger_with, put_after}
use Rattle.clif_ssa.specs.LookUp.{branch_block}
use Rattle.clif_ssa.specs.Ssa.{NamesExist, SsaState}
use Rattle.clif_ssa.proofs.StructuredLaws.{blocks_structured}
use Rattle.clif_simulation.proofs.Further.{carries_after, first_stays, out_before}
use Rattle.clif_simulation.proofs.Redirections.Predecessors.{leads_on}
use Rattle.clif_builder.specs.Context.{ContextState}
use Rattle.clif_builder.specs.Ledger.{LedgerAgrees, NamesBlock, block_name, ledger_of}
use Rattle.clif_builder.specs.StandsFor.{StandsIn}
use Rattle.clif_builder.proofs.Counted.{counts_same, leaves_all}
use Rattle.clif_builder.proofs.LedgerBlocks.{agrees-kept}
use Rattle.clif_builder.proofs.LedgerKept.{answers-none, concluded}
use Rattle.clif_builder.proofs.LedgerNames.{name-number, named-block, same-block}
use Rattle.clif_builder.proofs.StandingCallers.{alone_after, kept_alone, same_callers}
use Rattle.clif_builder.proofs.Tracks.{tracks_still}

-- a block behind another one, by names and by numbers
after-same : (ledger : Ledger) (block after : Name) (b a : ℕ) (names : List Name) (numbers : List ℕ)
    → ((j : ℕ) (x : Name) → block_name ledger j ≡ Some x → same_name x after ≡ (j == a)) → block_name ledger b ≡ Some block
    → map Some names ≡ map (block_name ledger) numbers → map Some (put_after block after names) ≡ map (block_name ledger) (put_behind b a numbers)
after-same ledger block after b a [] [] test at same = refl
after-same ledger block after b a [] (j ∷ numbers) test at same = let no_way : ⊥ = cc in absurd no_way
after-same ledger block after b a (x ∷ names) [] test at same = let no_way : ⊥ = cc in absurd no_way
after-same ledger block after b a (x ∷ names) (j ∷ numbers) test at same =
    let here : block_name ledger j ≡ Some x = cc in
    let rest : map Some names ≡ map (block_name ledger) numbers = cc in
    by (same_name x after) (j == a) (test j x here) here rest (after-same ledger block after b a names numbers test at rest)
  where
    by : (s t : Bool) → s ≡ t → block_name ledger j ≡ Some x → map Some names ≡ map (block_name ledger) numbers
        → map Some (put_after block after names) ≡ map (block_name ledger) (put_behind b a numbers)
        → map Some (if s then x ∷ block ∷ names else x ∷ put_after block after names)
        ≡ map (block_name ledger) (if t then j ∷ b ∷ numbers else j ∷ put_behind b a numbers)
    by true true is here rest others = cc
    by false false is here rest others = cc
    by true false is here rest others = let no_way : ⊥ = cc in absurd no_way
    by false true is here rest others = let no_way : ⊥ = cc in absurd no_way

-- what stood in the layout goes on standing in it
pub still_stands : (b a x : ℕ) (layout : List ℕ) → stands_in x layout ≡ true → stands_in x (put_behind b a layout) ≡ true
still_stands b a x layout there = by (stands_in x (put_behind b a layout)) refl
  where
    by : (t : Bool) → stands_in x (put_behind b a layout) ≡ t → stands_in x (put_behind b a layout) ≡ true
    by true is = is
    by false is = absurd (false≢true (sym (out_before b a x layout is) ∙ there))

-- the agreement, with another layout of the same names
laid-agrees : (calls : List AnsweredCall) (ledger : Ledger) (f : Body) (c : ContextState) (p : Option ℕ) (b a : ℕ) (layout : List Name) → LedgerAgrees calls ledger f c p
    → map Some layout ≡ map (block_name ledger) (put_behind b a f.layout) → LedgerAgrees calls (record ledger { layout = layout }) (with_layout_after f b a) c p
laid-agrees calls ledger f c p b a layout agrees same = record {
  places = agrees.places;
  answers = λ place call answers at_call at_answers.
      let old = agrees.answers place call answers at_call at_answers in
      record { count = old.count; each = old.each; results = old.results };
  block_count = agrees.block_count;
  blocks = λ k s there. let was = agrees.blocks k s there in record { number = was.number; is_sealed = was.is_sealed; is_pristine = was.is_pristine; is_filled = was.is_filled; is_cold = was.is_cold; predecessors = was.predecessors };
  block_answers = agrees.block_answers;
  current = agrees.current;
  layout = same;
  variables = agrees.variables;
  tables = agrees.tables;
  tracks = agrees.tracks;
  counts = counts_same calls f c (with_layout_after f b a) c refl refl refl (leaves_all c) agrees.counts;
  own = agrees.own;
  structured = λ types are.
      blocks_structured f f.blocks (put_behind b a f.layout) f.tables (λ constant bytes here. here) types agrees.own c.ssa [] (λ x. refl) (λ x. refl) (agrees.structured types are);
  callers_types = agrees.callers_types;
  callers_alone = λ d. elim (agrees.callers_alone d) [
    | inl alone ↦ inl alone
    | inr old ↦ inr (record { inserted = still_stands b a d f.layout old.inserted; begun = old.begun })
  ];
  branches = λ d i here. let old = agrees.branches d i here in record { inserted = still_stands b a (branch_block f i) f.layout old.inserted; filled = old.filled };
  fresh = agrees.fresh;
}

-- a block is put behind another one
pub laid : (calls : List AnsweredCall) (f : Body) (c : ContextState) (p : Option ℕ) (block after : Name) (b a : ℕ) → LedgerAgrees calls (ledger_of calls) f c p
    → NamesBlock calls block b → NamesBlock calls after a
    → LedgerAgrees (calls ++ record { request = InsertBlockAfter block after; numbers = [] } ∷ [])
    (ledger_of (calls ++ record { request = InsertBlockAfter block after; numbers = [] } ∷ [])) (with_layout_after f b a) c p
laid calls f c p block after b a agrees names_block names_after =
    let call : AnsweredCall = record { request = InsertBlockAfter block after; numbers = [] } in
    let ledger : Ledger = ledger_of calls in
    let between : Ledger = record ledger { layout = put_after block after ledger.layout } in
    let new : Ledger = ledger_with ledger (InsertBlockAfter block after) in
    let g : Body = with_layout_after f b a in
    let numbered = name-number calls ledger f c p agrees in
    let at_block = named-block calls numbered block b names_block in
    let at_after = named-block calls numbered after a names_after in
    let is_laid = laid-agrees calls ledger f c p b a between.layout agrees
    (after-same ledger block after b a ledger.layout f.layout (λ j x named. same-block calls ledger numbered j a x after named at_after) at_block agrees.layout) in
    concluded calls call g c p
    (agrees-kept calls call between new g c c p p [] is_laid refl refl refl refl is_laid.current is_laid.variables (λ d. refl) (λ d. refl) (λ d. refl) (tracks_still calls call g.values c tt is_laid.tracks) (leaves_all c) is_laid.structured
    (answers-none new g (length calls)))

-- what the construction names exists in it
pub names_laid : (f : Body) (s : SsaState) (b a : ℕ) → NamesExist f s → NamesExist (with_layout_after f b a) s
names_laid f s b a named = record { recorded = named.recorded; leading = named.leading; waiting = named.waiting }

pub laid_stands : (declared : SignatureShape) (calls : List AnsweredCall) (f : Body) (c : ContextState) (p : Option ℕ) (block after : Name) (b a : ℕ) → StandsIn declared calls f c p
    → LedgerAgrees (calls ++ record { request = InsertBlockAfter block after; numbers = [] } ∷ [])
    (ledger_of (calls ++ record { request = InsertBlockAfter block after; numbers = [] } ∷ [])) (with_layout_after f b a) c p
    → StandsIn declared (calls ++ record { request = InsertBlockAfter block after; numbers = [] } ∷ []) (with_layout_after f b a) c p
laid_stands declared calls f c p block after b a stands ledger = record {
  signature = stands.signature;
  ledger = ledger;
  carries = carries_after calls f c.ssa stands.carries block after b a;
  leads_built = leads_on calls (record { request = InsertBlockAfter block after; numbers = [] }) tt stands.leads_built;
  begun = λ entry is. stands.begun entry (sym (first_stays b a f.layout) ∙ is);
  callers_alone = λ d.
      let call : AnsweredCall = record { request = InsertBlockAfter block after; numbers = [] } in
      alone_after calls call f (with_layout_after f b a) c c stands.carries.own stands.carries.holds.parameters (same_callers calls call f c.ssa stands.carries tt tt) d
      (kept_alone stands.carries.own f (with_layout_after f b a) c c d refl (λ was. record { inserted = still_stands b a d f.layout was.inserted; begun = was.begun }))
      (stands.callers_alone d);
}
