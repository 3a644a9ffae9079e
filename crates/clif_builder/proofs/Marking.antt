-- A block is made cold, and the current block is brought into the layout: the agreement with the ledger is kept, and the
-- builder stands for the calls.
use Rattle.std.proofs.Common.{◌≡◌, ◌≢◌, ℕ, List, [], ◌∷◌, ◌++◌, length, refl, sym, ◌∙◌, ap, subst, length-set, ◌<◌, ◌≤◌, Bool, false, if◌then◌else◌, ◌⊎◌, inl, inr, zero, suc, arith}
use Rattle.std.proofs.lemmas.Bool.{eq-eqb, eqb-true, false≢true}
use Rattle.std.proofs.lemmas.List.{length-map}
use Rattle.std.specs.Prelude.{◌==◌, map, slice_get, slice_index_or, slice_set, Option, Some, option_map, Contains, true, OnOk, Result, Ok, Err}
use Rattle.clif_types.specs.Signature.{SignatureShape}
use Rattle.clif_ir.specs.Body.{Body, block_at}
use Rattle.clif_nodes.specs.Nodes.{BlockNode, empty_block}
use Rattle.clif_ir.specs.Changes.{inserted_in, with_cold, with_layout}
use Rattle.clif_instructions.specs.Members.{stands_in}
use Rattle.clif_meaning.specs.Name.{Name, same_name}
use Rattle.clif_meaning.specs.Request.{AnsweredCall, EnsureInsertedBlock, SetColdBlock}
use Rattle.clif_meaning.specs.Ledger.{ABlock, BlockState, Ledger, VariableState, ledger_with, with_cold_mark}
use Rattle.clif_meaning.proofs.CallLists.{kept}
use Rattle.clif_ssa.specs.Ssa.{NamesExist, SsaState, predecessors_of, sealed_of}
use Rattle.clif_records.specs.Tables.{is_yes}
use Rattle.clif_ssa.specs.LookUp.{branch_block}
use Rattle.clif_ssa.specs.Structured.{Structured}
use Rattle.clif_ssa.proofs.Completing.{inserted_same}
use Rattle.clif_ssa.proofs.StructuredLaws.{blocks_structured, inserted_structured}
use Rattle.clif_simulation.specs.Carries.{Carries}
use Rattle.clif_simulation.proofs.Further.{carries_cold, carries_ensured, cold_insts, cold_params}
use Rattle.clif_simulation.proofs.Redirections.Predecessors.{leads_on}
use Rattle.clif_builder.specs.declared.context.BlockStatus.TheVariants.{Empty}
use Rattle.clif_builder.specs.Context.{ContextState, SameVariables, SetsStatus, begun, status_of}
use Rattle.clif_builder.specs.Ledger.{BlockAgrees, IsEnded, LedgerAgrees, NamesBlock, VariablesAgree, block_name, ledger_of}
use Rattle.clif_builder.specs.Order.{IsInOrder}
use Rattle.clif_builder.specs.StandsFor.{StandsIn}
use Rattle.clif_builder.proofs.Counted.{counts_on, leaves_all, leaves_ssa, spends_inserted, spends_itself}
use Rattle.clif_builder.proofs.LedgerKept.{Extends-inserted, Keeps, answer-still, answers-after, answers-none, branch-kept, concluded, keeps-of, places-after}
use Rattle.clif_builder.proofs.LedgerLists.{name-of-some, named-more, one-named-more}
use Rattle.clif_builder.proofs.LedgerMade.{MadeLedger, Makes, agrees-made, alone-still, begun-ledger, begun-variables, block-exists, ended-still, numbers-kept, unpristine}
use Rattle.clif_builder.proofs.LedgerNames.{name-number, named-block, state-entries, state-names}
use Rattle.clif_builder.proofs.LedgerUsed.{begun-agrees, begun-not-empty}
use Rattle.clif_builder.proofs.Placed.{in_order, branch_exists}
use Rattle.clif_builder.proofs.Standing.{current_name, first_cases}
use Rattle.clif_builder.proofs.StandingCallers.{alone_after, kept_alone, same_callers}
use Rattle.clif_builder.proofs.Touching.{agree_same, are_types}
use Rattle.clif_builder.proofs.Tracks.{keeps_ssa, tracks_still}

-- COLD BLOCKS -------------------------------------------------------------------------------------------------------------

-- the mark of the block, and those of the others
cold_here : (nodes : List BlockNode) (b : ℕ) → b < length nodes
    → (slice_index_or (slice_set nodes b (record (slice_index_or nodes b empty_block) { is_cold = true })) b empty_block).is_cold ≡ true
cold_here [] b inside = absurd (omega (arith, inside))
cold_here (node ∷ nodes) zero inside = refl
cold_here (node ∷ nodes) (suc b) inside = cold_here nodes b (omega (arith, inside))

cold_elsewhere : (nodes : List BlockNode) (b x : ℕ) → x ≢ b
    → (slice_index_or (slice_set nodes b (record (slice_index_or nodes b empty_block) { is_cold = true })) x empty_block).is_cold ≡ (slice_index_or nodes x empty_block).is_cold
cold_elsewhere [] b x other = refl
cold_elsewhere (node ∷ nodes) zero zero other = absurd (other refl)
cold_elsewhere (node ∷ nodes) zero (suc x) other = refl
cold_elsewhere (node ∷ nodes) (suc b) zero other = refl
cold_elsewhere (node ∷ nodes) (suc b) (suc x) other = cold_elsewhere nodes b x (λ same. other (ap suc same))

-- a block is marked
module _ (calls : List AnsweredCall) (f : Body) (c : ContextState) (p : Option ℕ) (name : Name) (b : ℕ) (agrees : LedgerAgrees calls (ledger_of calls) f c p)
    (named : block_name (ledger_of calls) b ≡ Some name) where
  abbrev marks : AnsweredCall
  marks = record { request = SetColdBlock name; numbers = [] }

  abbrev old : Ledger
  old = ledger_of calls

  abbrev new : Ledger
  new = ledger_with (ledger_of calls) (SetColdBlock name)

  abbrev g : Body
  g = with_cold f b

  keeps : Keeps f g
  keeps = record { values = λ v ty is. is; insts = λ i node is. record { kept = node; there = is; results = refl; block = refl } }

  same_names : (k : ℕ) → block_name new k ≡ block_name old k
  same_names = state-names old name with_cold_mark (λ s. refl)

  names : (k : ℕ) (x : Name) → block_name old k ≡ Some x → block_name new k ≡ Some x
  names k x is = same_names k ∙ is

  entry : (k : ℕ) (t : BlockState) → slice_get new.blocks k ≡ Some t
      → (s : BlockState) × (slice_get old.blocks k ≡ Some s) × ((if k == b then with_cold_mark s else s) ≡ t)
  entry = state-entries calls old (name-number calls old f c p agrees) b name with_cold_mark named

  block_here : (k : ℕ) (s : BlockState) → BlockAgrees calls f c k s → (test : Bool) → (k == b) ≡ test
      → BlockAgrees (calls ++ marks ∷ []) g c k (if test then with_cold_mark s else s)
  block_here k s was true here = record {
    number = kept calls marks s.block k was.number;
    is_sealed = was.is_sealed;
    is_pristine = was.is_pristine;
    is_filled = was.is_filled;
    is_cold = sym (ap (λ (x : ℕ). (block_at g x).is_cold) (eqb-true k b here) ∙ cold_here f.blocks b (block-exists calls old f c p agrees b name named));
    predecessors = numbers-kept calls marks s.predecessors _ was.predecessors;
  }
  block_here k s was false other = record {
    number = kept calls marks s.block k was.number;
    is_sealed = was.is_sealed;
    is_pristine = was.is_pristine;
    is_filled = was.is_filled;
    is_cold = was.is_cold ∙ sym (cold_elsewhere f.blocks b k (λ same. false≢true (sym other ∙ eq-eqb k b same)));
    predecessors = numbers-kept calls marks s.predecessors _ was.predecessors;
  }

  same_types : (s : BlockState) (test : Bool) → (if test then with_cold_mark s else s).parameters ≡ s.parameters
  same_types s true = refl
  same_types s false = refl

  agrees-cold : LedgerAgrees (calls ++ marks ∷ []) new g c p
  agrees-cold = record {
    places = places-after calls marks old new [] agrees.places refl;
    answers = answers-after calls marks old new f g c p [] agrees refl names keeps (answers-none new g (length calls));
    block_count = length-map old.blocks (λ (s : BlockState). if same_name s.block name then with_cold_mark s else s) ∙ agrees.block_count ∙ sym (length-set f.blocks b _);
    blocks = λ k t there.
        let e = entry k t there in
        subst (λ (s : BlockState). BlockAgrees (calls ++ marks ∷ []) g c k s) e.2 (block_here k e.0 (agrees.blocks k e.0 e.1) (k == b) refl);
    block_answers = λ k x is. answer-still old new [] x ABlock refl (agrees.block_answers k x (sym (same_names k) ∙ is));
    current = one-named-more (block_name old) (block_name new) old.current p names agrees.current;
    layout = named-more (block_name old) (block_name new) old.layout f.layout names agrees.layout;
    variables = agrees.variables;
    tables = agrees.tables;
    tracks = tracks_still calls marks f.values c tt agrees.tracks;
    counts = counts_on calls marks f c g c (spends_itself _ _ f c g c (omega arith) (omega arith) (length-set f.blocks b _) (leaves_all c)) agrees.counts;
    own = agrees.own;
    structured = λ types are.
        blocks_structured f g.blocks f.layout f.tables (λ constant bytes here. here) types agrees.own c.ssa [] (cold_params f.blocks b) (cold_insts f.blocks b)
        (agrees.structured types are);
    callers_types = λ k t there.
        let e = entry k t there in
        agrees.callers_types k e.0 e.1 ∙ ap (map Some) (sym (same_types e.0 (k == b)) ∙ ap (λ (s : BlockState). s.parameters) e.2);
    callers_alone = λ d. elim (agrees.callers_alone d) [
      | inl alone ↦ inl (cold_params f.blocks b d ∙ alone)
      | inr was ↦ inr (record { inserted = was.inserted; begun = was.begun })
    ];
    branches = λ d i here. let was = agrees.branches d i here in record { inserted = was.inserted; filled = was.filled };
    fresh = λ k above. agrees.fresh k (subst (λ (n : ℕ). n ≤ k) (length-set f.blocks b _) above);
  }

-- what comes of it
pub cold : (calls : List AnsweredCall) (f : Body) (c : ContextState) (p : Option ℕ) (name : Name) (b : ℕ) → LedgerAgrees calls (ledger_of calls) f c p → NamesBlock calls name b
    → LedgerAgrees (calls ++ record { request = SetColdBlock name; numbers = [] } ∷ []) (ledger_of (calls ++ record { request = SetColdBlock name; numbers = [] } ∷ [])) (with_cold f b) c p
cold calls f c p name b agrees names =
    concluded calls (record { request = SetColdBlock name; numbers = [] }) (with_cold f b) c p
    (agrees-cold calls f c p name b agrees (named-block calls (name-number calls (ledger_of calls) f c p agrees) name b names))

-- what the construction names exists in it
pub names_cold : (f : Body) (s : SsaState) (b : ℕ) → NamesExist f s → NamesExist (with_cold f b) s
names_cold f s b named = record { recorded = named.recorded; leading = named.leading; waiting = named.waiting }

pub cold_stands : (declared : SignatureShape) (calls : List AnsweredCall) (f : Body) (c : ContextState) (p : Option ℕ) (name : Name) (b : ℕ) → StandsIn declared calls f c p
    → LedgerAgrees (calls ++ record { request = SetColdBlock name; numbers = [] } ∷ []) (ledger_of (calls ++ record { request = SetColdBlock name; numbers = [] } ∷ [])) (with_cold f b) c p
    → StandsIn declared (calls ++ record { request = SetColdBlock name; numbers = [] } ∷ []) (with_cold f b) c p
cold_stands declared calls f c p name b stands ledger =
    record {
      signature = stands.signature;
      ledger = ledger;
      carries = carries_cold calls f c.ssa stands.carries name b;
      leads_built = leads_on calls (record { request = SetColdBlock name; numbers = [] }) tt stands.leads_built;
      begun = stands.begun;
      callers_alone = λ d.
          let call : AnsweredCall = record { request = SetColdBlock name; numbers = [] } in
          alone_after calls call f (with_cold f b) c c stands.carries.own stands.carries.holds.parameters (same_callers calls call f c.ssa stands.carries tt tt) d
          (kept_alone stands.carries.own f (with_cold f b) c c d (cold_params f.blocks b d) (λ was. record { inserted = was.inserted; begun = was.begun }))
          (stands.callers_alone d);
    }

-- THE LAYOUT --------------------------------------------------------------------------------------------------------------

-- a block that is brought into the layout
pub ensured-makes : (f : Body) (c d : ContextState) (block : ℕ) (order : IsInOrder f c)
    → SetsStatus c d block (begun (status_of c block)) → d.ssa ≡ c.ssa → SameVariables c d → Makes order.own f c (inserted_in f block) d block
ensured-makes f c d block order sets ssa variables =
    let g : Body = inserted_in f block in
    let extends = Extends-inserted f block in
    record {
      extends = extends;
      layout = refl;
      sealed = λ b. ap (λ (s : SsaState). is_yes (sealed_of s b)) ssa;
      predecessors = λ b. ap (λ (s : SsaState). predecessors_of s b) ssa;
      tracks = keeps_ssa f.values g.values c d extends.parameters ssa;
      own = order.own;
      structured = λ types are.
          subst (λ (s : SsaState). Structured types order.own g s []) (sym ssa)
          (inserted_structured types order.own f c.ssa block (order.structured types (are_types c d types variables are)));
      callers = λ b. refl;
      callers_alone = λ b.
          alone-still order.own order.own f g c d block (begun (status_of c block)) refl sets (begun-not-empty (status_of c block)) b refl
          (ap (λ (blocks : List BlockNode). (block_at (record f { blocks = blocks }) b).params) (inserted_same f block).blocks) (order.callers_alone b);
      branches = λ b i leads.
          let before : Contains (predecessors_of c.ssa b) i = subst (λ (s : SsaState). Contains (predecessors_of s b) i) ssa leads in
          let same : branch_block g i ≡ branch_block f i = branch-kept f g (keeps-of f g extends) i (branch_exists f c order b i before) in
          subst (IsEnded g d) (sym same)
          (ended-still f g c d block (begun (status_of c block)) refl sets (λ filled. ap begun filled) (branch_block f i) (order.branches b i before));
    }

pub ensured : {E : Type 0} (calls : List AnsweredCall) (f g : Body) (c d : ContextState) (p : Option ℕ) (block : ℕ) (r : Result (Unit {0}) E)
    → LedgerAgrees calls (ledger_of calls) f c p → p ≡ Some block → OnOk r (g ≡ inserted_in f block) → OnOk r (SetsStatus c d block (begun (status_of c block)))
    → d.ssa ≡ c.ssa → SameVariables c d
    → OnOk r (LedgerAgrees (calls ++ record { request = EnsureInsertedBlock; numbers = [] } ∷ []) (ledger_of (calls ++ record { request = EnsureInsertedBlock; numbers = [] } ∷ [])) g d p)
ensured calls f g c d p block (Err e) agrees at is sets ssa variables = tt
ensured calls f g c d p block (Ok u) agrees at is sets ssa variables =
    let call : AnsweredCall = record { request = EnsureInsertedBlock; numbers = [] } in
    let ledger : Ledger = ledger_of calls in
    let new : Ledger = ledger_with ledger EnsureInsertedBlock in
    let current = name-of-some (block_name ledger) ledger.current block (agrees.current ∙ ap (option_map (block_name ledger)) at) in
    let begins = begun-ledger ledger current.0 current.1 in
    let changed : MadeLedger ledger new current.0 unpristine =
    record { blocks = begins.blocks; layout = begins.layout; current = begins.current; tables = begins.tables } in
    concluded calls call g d p
    (subst (λ (h : Body). LedgerAgrees (calls ++ call ∷ []) new h d p) (sym is)
    (agrees-made calls call ledger new f (inserted_in f block) c d p block current.0 unpristine (begun (status_of c block)) [] agrees tt current.2 refl changed
    (agree_same _ c d variables (subst (λ (states : List VariableState). VariablesAgree states c) (sym (begun-variables ledger)) agrees.variables))
    (begun-agrees (status_of c block)) sets (ensured-makes f c d block (in_order agrees) sets ssa variables)
    (spends_inserted _ _ f c d block (leaves_ssa c d variables.0 ssa)) (answers-none new (inserted_in f block) (length calls))))

-- one block has another status than empty, if it had one, or is the one in which something was made
still_begun : (c d : ContextState) (block : ℕ) → SetsStatus c d block (begun (status_of c block))
    → (b : ℕ) → (status_of c b ≢ Empty) ⊎ (b ≡ block) → status_of d b ≢ Empty
still_begun c d block sets b was empty = by (b == block) refl (sym (sets b) ∙ empty) was
  where
    by : (t : Bool) → (b == block) ≡ t → (if t then begun (status_of c block) else status_of c b) ≡ Empty → (status_of c b ≢ Empty) ⊎ (b ≡ block) → ⊥
    by true is e w = begun-not-empty (status_of c block) e
    by false is e (inl some) = some e
    by false is e (inr same) = false≢true (sym is ∙ eq-eqb b block same)

pub ensured_stands : {E : Type 0} (declared : SignatureShape) (calls : List AnsweredCall) (f g : Body) (c d : ContextState) (p : Option ℕ) (block : ℕ) (r : Result (Unit {0}) E)
    → StandsIn declared calls f c p → p ≡ Some block → OnOk r (g ≡ inserted_in f block) → OnOk r (SetsStatus c d block (begun (status_of c block)))
    → d.ssa ≡ c.ssa
    → OnOk r (LedgerAgrees (calls ++ record { request = EnsureInsertedBlock; numbers = [] } ∷ []) (ledger_of (calls ++ record { request = EnsureInsertedBlock; numbers = [] } ∷ [])) g d p)
    → OnOk r (StandsIn declared (calls ++ record { request = EnsureInsertedBlock; numbers = [] } ∷ []) g d p)
ensured_stands declared calls f g c d p block (Err e) stands at is sets ssa ledger = tt
ensured_stands declared calls f g c d p block (Ok u) stands at is sets ssa ledger =
    let current = current_name declared calls f c p stands block at in
    let after : List AnsweredCall = calls ++ record { request = EnsureInsertedBlock; numbers = [] } ∷ [] in
    record {
      signature = ap (λ (h : Body). h.signature) is ∙ inserted_signature f block ∙ stands.signature;
      ledger = ledger;
      carries = subst (λ (s : SsaState). Carries after g s) (sym ssa)
          (subst (λ (h : Body). Carries after h c.ssa) (sym is) (carries_ensured calls f c.ssa stands.carries block current.0 current.1));
      leads_built = leads_on calls (record { request = EnsureInsertedBlock; numbers = [] }) tt stands.leads_built;
      begun = λ b there empty.
          still_begun c d block sets b
          (old_or_it b (first_cases f block b (ap (λ (h : Body). slice_get h.layout 0) (sym is) ∙ there))) empty;
      callers_alone = λ b.
          let call : AnsweredCall = record { request = EnsureInsertedBlock; numbers = [] } in
          alone_after calls call f g c d stands.carries.own stands.carries.holds.parameters (same_callers calls call f c.ssa stands.carries tt tt) b
          (alone-still stands.carries.own stands.carries.own f g c d block (begun (status_of c block)) (ap (λ (h : Body). h.layout) is) sets (begun-not-empty (status_of c block)) b refl
          (ap (λ (h : Body). (block_at h b).params) is
          ∙ ap (λ (blocks : List BlockNode). (block_at (record f { blocks = blocks }) b).params) (inserted_same f block).blocks))
          (stands.callers_alone b);
    }
  where
    inserted_signature : (f : Body) (b : ℕ) → (inserted_in f b).signature ≡ f.signature
    inserted_signature f b = by (stands_in b f.layout)
      where
        by : (test : Bool) → (if test then f else with_layout f b).signature ≡ f.signature
        by true = refl
        by false = refl

    old_or_it : (b : ℕ) → (slice_get f.layout 0 ≡ Some b) ⊎ (b ≡ block) → (status_of c b ≢ Empty) ⊎ (b ≡ block)
    old_or_it b (inl old) = inl (stands.begun b old)
    old_or_it b (inr same) = inr same
