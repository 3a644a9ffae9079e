-- A block is created, made current or sealed: the agreement with the ledger is kept.
use Rattle.std.proofs.Common.{◌≡◌, ◌≢◌, ◌+◌, ◌<◌, ◌≤◌, ℕ, zero, suc, List, [], ◌∷◌, ◌++◌, length, refl, sym, ◌∙◌, ap, subst, arith, inl, inr, length-append}
use Rattle.std.specs.Prelude.{map, slice_get, slice_index_or, Option, Some, option_map, option_and_then, Bool, true, false, if◌then◌else◌, ◌==◌, Contains, Result, Ok, Err, IfOk, OnOk}
use Rattle.std.proofs.lemmas.Bool.{eqb-true, ne_eqb}
use Rattle.clif_ir.specs.Body.{Body, block_at}
use Rattle.clif_nodes.specs.Nodes.{BlockNode, empty_block}
use Rattle.clif_ir.specs.Changes.{with_block}
use Rattle.clif_ir.specs.Consistent.{IsConsistent}
use Rattle.clif_instructions.specs.Members.{stands_in}
use Rattle.clif_meaning.specs.Name.{Name, answer_of, same_name}
use Rattle.clif_meaning.specs.Request.{AnsweredCall, CreateBlock, SwitchToBlock, SealBlock, number_of}
use Rattle.clif_meaning.specs.Ledger.{answer_at, Answered, ABlock, BlockState, Ledger, ledger_with, new_block, next_answer}
use Rattle.clif_meaning.proofs.CallLists as earlier
use Rattle.clif_ssa.specs.Own.{Own}
use Rattle.clif_records.specs.Tables.{RecordMap, is_yes, record_at}
use Rattle.clif_ssa.specs.LookUp.{branch_block}
use Rattle.clif_ssa.specs.Ssa.{predecessors_of, sealed_of, SameBlocks, SamePredecessors}
use Rattle.clif_ssa.specs.Structured.{Structured}
use Rattle.clif_ssa.proofs.Counting.{block_params}
use Rattle.clif_ssa.proofs.Structuring.{same_structured}
use Rattle.clif_ssa.proofs.StructuredLaws.{block_structured}
use Rattle.clif_builder.specs.declared.context.BlockStatus.{BlockStatus}
use Rattle.clif_builder.specs.declared.context.BlockStatus.TheVariants.{Empty}
use Rattle.clif_builder.specs.Context.{Begins, ContextState, SameStatus, SameVariables, status_of}
use Rattle.clif_builder.specs.Builder.{is_empty_status, is_filled_status}
use Rattle.clif_builder.specs.Construction.{IsSealing}
use Rattle.clif_builder.specs.Ledger.{AnswersAgree, BlockAgrees, HaveTypes, IsBegun, IsEnded, IsStructured, LedgerAgrees, NamesBlock, VariablesAgree, block_name, ledger_of, value_type, tables_of_calls, TracksAgree}
use Rattle.clif_builder.proofs.Counted.{LeavesCounts, counts_kept, counts_on, leaves_all, leaves_records, spends_created, spends_sealed}
use Rattle.clif_builder.proofs.LedgerLists.{get-front, get-last, get-push, if-yes, if-no, named-more, one-named-more, map-some}
use Rattle.clif_builder.proofs.LedgerNames.{name-number, named-block, state-entries}
use Rattle.clif_builder.proofs.LedgerKept.{answer-still, Extends, Keeps, extends-constructs, keeps-block, keeps-itself, keeps-of, answers-after, places-after, answers-none, answers-one, concluded, types-kept}
use Rattle.clif_builder.proofs.LedgerMade.{block-exists, changed-names, numbers-kept}
use Rattle.clif_builder.proofs.Placed.{in_order, are_listed, listed_structured, listed_types, sealed_alone, sealed_branches, sealed_layout, sealed_status, records_exist}
use Rattle.clif_builder.proofs.Touching.{agree_same, are_types}
use Rattle.clif_builder.specs.Recorded.{IsParameterAmong}
use Rattle.clif_builder.proofs.Tracks.{keeps_made, keeps_same, tracks_on, tracks_still}

-- a block that doesn't exist has no parameters
past_params : (nodes : List BlockNode) (b : ℕ) → length nodes ≤ b → (slice_index_or nodes b empty_block).params ≡ []
past_params [] b past = refl
past_params (node ∷ nodes) zero past = absurd (omega (arith, past))
past_params (node ∷ nodes) (suc b) past = past_params nodes b (omega (arith, past))

-- and isn't cold, nor is a new one
past_cold : (nodes : List BlockNode) (b : ℕ) → length nodes ≤ b → (slice_index_or nodes b empty_block).is_cold ≡ false
past_cold [] b past = refl
past_cold (node ∷ nodes) zero past = absurd (omega (arith, past))
past_cold (node ∷ nodes) (suc b) past = past_cold nodes b (omega (arith, past))

more_cold : (nodes : List BlockNode) (b : ℕ) → (slice_index_or (nodes ++ empty_block ∷ []) b empty_block).is_cold ≡ (slice_index_or nodes b empty_block).is_cold
more_cold [] zero = refl
more_cold [] (suc b) = refl
more_cold (node ∷ nodes) zero = refl
more_cold (node ∷ nodes) (suc b) = more_cold nodes b

first_none : (xs ys : List ℕ) → xs ++ ys ≡ [] → xs ≡ []
first_none [] ys none = refl
first_none (x ∷ xs) ys none = let no_way : ⊥ = cc in absurd no_way

-- a block of the ledger, one more call on, where sealing and status are as before
pub block-kept : (calls : List AnsweredCall) (call : AnsweredCall) (f g : Body) (c d : ContextState) (k : ℕ) (s : BlockState)
    → BlockAgrees calls f c k s → (block_at g k).is_cold ≡ (block_at f k).is_cold → is_yes (sealed_of d.ssa k) ≡ is_yes (sealed_of c.ssa k) → predecessors_of d.ssa k ≡ predecessors_of c.ssa k → status_of d k ≡ status_of c k
    → BlockAgrees (calls ++ call ∷ []) g d k s
block-kept calls call f g c d k s was cold sealed leads status =
    record {
      number = earlier.kept calls call s.block k was.number;
      is_sealed = was.is_sealed ∙ sym sealed;
      is_pristine = was.is_pristine ∙ ap is_empty_status (sym status);
      is_filled = was.is_filled ∙ ap is_filled_status (sym status);
      is_cold = was.is_cold ∙ sym cold;
      predecessors = numbers-kept calls call s.predecessors (predecessors_of c.ssa k) was.predecessors ∙ ap (map Some) (sym leads);
    }

-- a call that changes neither function nor blocks
pub agrees-kept : (calls : List AnsweredCall) (call : AnsweredCall) (old new : Ledger) (f : Body) (c d : ContextState) (p q : Option ℕ) (answered : List Answered)
    (agrees : LedgerAgrees calls old f c p) → new.answers ≡ old.answers ++ answered ∷ [] → new.blocks ≡ old.blocks → new.layout ≡ old.layout → new.tables ≡ old.tables
    → option_map Some new.current ≡ option_map (block_name old) q → VariablesAgree new.variables d
    → ((b : ℕ) → is_yes (sealed_of d.ssa b) ≡ is_yes (sealed_of c.ssa b)) → SamePredecessors c.ssa d.ssa → SameStatus c d → TracksAgree (calls ++ call ∷ []) f.values d → LeavesCounts c d → IsStructured agrees.own f d
    → AnswersAgree new f (length calls) answered call.numbers → LedgerAgrees (calls ++ call ∷ []) new f d q
agrees-kept calls call old new f c d p q answered agrees answers blocks layout tables current variables sealed leads status tracks counts structured fresh =
    record {
      places = places-after calls call old new answered agrees.places answers;
      answers = answers-after calls call old new f f c p answered agrees answers names (keeps-itself f) fresh;
      block_count = ap (λ (states : List BlockState). length states) blocks ∙ agrees.block_count;
      blocks = λ k s there.
          block-kept calls call f f c d k s (agrees.blocks k s (ap (λ (states : List BlockState). slice_get states k) (sym blocks) ∙ there)) refl (sealed_at k) (leads k) (status_at k);
      block_answers = λ k x is.
          answer-still old new answered x ABlock answers
          (agrees.block_answers k x (ap (λ (states : List BlockState). option_map (λ (s : BlockState). s.block) (slice_get states k)) (sym blocks) ∙ is));
      current = current ∙ ap (λ (states : List BlockState). option_map (λ (k : ℕ). option_map (λ (s : BlockState). s.block) (slice_get states k)) q) (sym blocks);
      layout = ap (map Some) layout ∙ named-more (block_name old) (block_name new) old.layout f.layout names agrees.layout;
      variables = variables;
      tables = tables ∙ agrees.tables;
      tracks = tracks;
      counts = counts_kept calls call f c d counts agrees.counts;
      own = agrees.own;
      structured = structured;
      callers_types = λ k s there. agrees.callers_types k s (ap (λ (states : List BlockState). slice_get states k) (sym blocks) ∙ there);
      callers_alone = λ b. elim (agrees.callers_alone b) [ inl alone ↦ inl alone | inr begun ↦ inr (begun_still b begun) ];
      branches = λ b i here. ended_still (branch_block f i) (agrees.branches b i (subst (λ (is : List ℕ). Contains is i) (leads b) here));
      fresh = λ k above. (sealed_at k ∙ (agrees.fresh k above).0, status_at k ∙ (agrees.fresh k above).1, leads k ∙ (agrees.fresh k above).2);
    }
  where
    names : (k : ℕ) (x : Name) → block_name old k ≡ Some x → block_name new k ≡ Some x
    names k x is = ap (λ (states : List BlockState). option_map (λ (s : BlockState). s.block) (slice_get states k)) blocks ∙ is

    sealed_at : (k : ℕ) → is_yes (sealed_of d.ssa k) ≡ is_yes (sealed_of c.ssa k)
    sealed_at k = sealed k

    status_at : (k : ℕ) → status_of d k ≡ status_of c k
    status_at k = status k

    begun_still : (h : ℕ) → IsBegun f c h → IsBegun f d h
    begun_still h was = record { inserted = was.inserted; begun = λ empty. was.begun (sym (status_at h) ∙ empty) }

    ended_still : (h : ℕ) → IsEnded f c h → IsEnded f d h
    ended_still h was = record { inserted = was.inserted; filled = status_at h ∙ was.filled }

-- another current block
pub agrees-switched : (calls : List AnsweredCall) (ledger : Ledger) (f : Body) (c : ContextState) (p : Option ℕ) (name : Name) (block : ℕ)
    → LedgerAgrees calls ledger f c p → block_name ledger block ≡ Some name
    → LedgerAgrees (calls ++ record { request = SwitchToBlock name; numbers = [] } ∷ []) (ledger_with ledger (SwitchToBlock name)) f c (Some block)
agrees-switched calls ledger f c p name block agrees named =
    let call : AnsweredCall = record { request = SwitchToBlock name; numbers = [] } in
    let new : Ledger = ledger_with ledger (SwitchToBlock name) in
    agrees-kept calls call ledger new f c c p (Some block) [] agrees refl refl refl refl (ap Some (sym named)) agrees.variables (λ b. refl) (λ b. refl) (λ b. refl) (tracks_still calls call f.values c tt agrees.tracks) (leaves_all c) agrees.structured
    (answers-none new f (length calls))

pub switched : (calls : List AnsweredCall) (f : Body) (c : ContextState) (p : Option ℕ) (name : Name) (block : ℕ)
    → LedgerAgrees calls (ledger_of calls) f c p → NamesBlock calls name block
    → LedgerAgrees (calls ++ record { request = SwitchToBlock name; numbers = [] } ∷ []) (ledger_of (calls ++ record { request = SwitchToBlock name; numbers = [] } ∷ [])) f c (Some block)
switched calls f c p name block agrees names =
    let named = named-block calls (name-number calls (ledger_of calls) f c p agrees) name block names in
    concluded calls (record { request = SwitchToBlock name; numbers = [] }) f c (Some block) (agrees-switched calls (ledger_of calls) f c p name block agrees named)

-- a new block
pub agrees-created : (calls : List AnsweredCall) (ledger : Ledger) (f g : Body) (c d : ContextState) (p : Option ℕ) (block : ℕ)
    → LedgerAgrees calls ledger f c p → g ≡ with_block f → block ≡ length f.blocks
    → d.ssa.records ≡ c.ssa.records → SameBlocks c.ssa d.ssa → SamePredecessors c.ssa d.ssa → d.status ≡ c.status → SameVariables c d → d.ssa.tracking ≡ c.ssa.tracking
    → LedgerAgrees (calls ++ record { request = CreateBlock; numbers = block ∷ [] } ∷ []) (ledger_with ledger CreateBlock) g d p
agrees-created calls ledger f g c d p block agrees function number records sealed leads status variables tracking =
    record {
      places = places-after calls (record { request = CreateBlock; numbers = block ∷ [] }) ledger (ledger_with ledger CreateBlock) (ABlock ∷ []) agrees.places refl;
      answers = answers-after calls (record { request = CreateBlock; numbers = block ∷ [] }) ledger (ledger_with ledger CreateBlock) f g c p (ABlock ∷ []) agrees refl names keeps
          (answers-one (ledger_with ledger CreateBlock) g (length calls) ABlock block new_name tt);
      block_count = length-append ledger.blocks _ ∙ ap (λ (n : ℕ). n + 1) agrees.block_count ∙ sym (length-append f.blocks _) ∙ ap (λ (h : Body). length h.blocks) (sym function);
      blocks = blocks_agree;
      block_answers = answers_agree;
      current = one-named-more (block_name ledger) (block_name (ledger_with ledger CreateBlock)) ledger.current p names agrees.current;
      layout = named-more (block_name ledger) (block_name (ledger_with ledger CreateBlock)) ledger.layout f.layout names agrees.layout
          ∙ ap (λ (h : Body). map (block_name (ledger_with ledger CreateBlock)) h.layout) (sym function);
      variables = agree_same ledger.variables c d variables agrees.variables;
      tables = agrees.tables ∙ ap (λ (h : Body). tables_of_calls h.tables) (sym function);
      tracks =
          tracks_on calls _ f.values c g.values d tt
          (keeps_same f.values g.values c d (λ v is. subst (λ (h : Body). IsParameterAmong h.values v) (sym function) is) (λ x b. ap (λ (m : RecordMap). record_at m x b) records) tracking) agrees.tracks;
      counts =
          counts_on calls _ f c g d
          (spends_created f c g d (in_order agrees) function (leaves_records c d variables.0 (λ x b. ap (λ (m : RecordMap). record_at m x b) records) sealed)) agrees.counts;
      own = agrees.own;
      structured = λ types are.
          let own : Own = agrees.own in
          let before : Structured types own f c.ssa [] = agrees.structured types (are_types c d types variables are) in
          let made : Structured types own g c.ssa [] = subst (λ (h : Body). Structured types own h c.ssa []) (sym function) (block_structured types own f c.ssa before) in
          same_structured types own g c.ssa d.ssa [] (λ x b. ap (λ (m : RecordMap). record_at m x b) records) sealed leads made;
      callers_types = types_agree;
      callers_alone = λ b. elim (agrees.callers_alone b) [
        | inl alone ↦ inl (same_params b ∙ alone)
        | inr begun ↦ inr (begun_still b begun)
      ];
      branches = λ b i here.
          subst (IsEnded g d) (ap (λ (h : Body). branch_block h i) (sym function))
          (ended_still (branch_block f i) (agrees.branches b i (subst (λ (is : List ℕ). Contains is i) (leads b) here)));
      fresh = λ k above.
          let more : length g.blocks ≡ length f.blocks + 1 = ap (λ (h : Body). length h.blocks) function ∙ length-append f.blocks _ in
          let past : length f.blocks ≤ k = omega (arith, above, more) in
          (sealed_at k ∙ (agrees.fresh k past).0, status_at k ∙ (agrees.fresh k past).1, leads k ∙ (agrees.fresh k past).2);
    }
  where
    names : (k : ℕ) (x : Name) → block_name ledger k ≡ Some x → block_name (ledger_with ledger CreateBlock) k ≡ Some x
    names k x is =
        let state = map-some (λ (s : BlockState). s.block) (slice_get ledger.blocks k) x is in
        ap (option_map (λ (s : BlockState). s.block)) (get-front ledger.blocks _ k state.0 state.1) ∙ ap Some state.2

    keeps : Keeps f g
    keeps = subst (Keeps f) (sym function) (keeps-block f)

    name_is : next_answer ledger ≡ answer_of (length calls) 0
    name_is = ap (λ (n : ℕ). answer_of n 0) agrees.places

    new_name : block_name (ledger_with ledger CreateBlock) block ≡ Some (answer_of (length calls) 0)
    new_name =
        ap (block_name (ledger_with ledger CreateBlock)) (number ∙ sym agrees.block_count)
        ∙ ap (option_map (λ (s : BlockState). s.block)) (get-last ledger.blocks (new_block (next_answer ledger))) ∙ ap Some name_is

    sealed_at : (k : ℕ) → is_yes (sealed_of d.ssa k) ≡ is_yes (sealed_of c.ssa k)
    sealed_at k = ap is_yes (sealed k)

    status_at : (k : ℕ) → status_of d k ≡ status_of c k
    status_at k = ap (λ (xs : List BlockStatus). status_of (record c { status = xs }) k) status

    begun_still : (h : ℕ) → IsBegun f c h → IsBegun g d h
    begun_still h was =
        record {
          inserted = ap (λ (b : Body). stands_in h b.layout) function ∙ was.inserted;
          begun = λ empty. was.begun (sym (status_at h) ∙ empty);
        }

    same_params : (b : ℕ) → (block_at g b).params ≡ (block_at f b).params
    same_params b = ap (λ (h : Body). (block_at h b).params) function ∙ block_params f b

    same_colds : (b : ℕ) → (block_at g b).is_cold ≡ (block_at f b).is_cold
    same_colds b = ap (λ (h : Body). (block_at h b).is_cold) function ∙ more_cold f.blocks b

    -- a new block has no parameters
    none_new : (b : ℕ) → length f.blocks ≤ b → agrees.own.params b ≡ []
    none_new b past =
        first_none (agrees.own.params b) _
        (sym ((listed_structured f c (in_order agrees)).parameters b).in_order
        ∙ past_params f.blocks b past)

    types_agree : (k : ℕ) (s : BlockState) → slice_get (ledger_with ledger CreateBlock).blocks k ≡ Some s → HaveTypes g (agrees.own.params k) s.parameters
    types_agree k s there =
        elim (get-push ledger.blocks (new_block (next_answer ledger)) k s there) [
          | inl old ↦ types-kept f g keeps (agrees.own.params k) s.parameters (agrees.callers_types k s old)
          | inr last ↦
              let past : length f.blocks ≤ k = omega (arith, last.0, agrees.block_count) in
              ap (map (value_type g)) (none_new k past) ∙ ap (λ (t : BlockState). map Some t.parameters) last.1
        ]

    ended_still : (h : ℕ) → IsEnded f c h → IsEnded g d h
    ended_still h was = record { inserted = ap (λ (b : Body). stands_in h b.layout) function ∙ was.inserted; filled = status_at h ∙ was.filled }

    answers_agree : (k : ℕ) (x : Name) → block_name (ledger_with ledger CreateBlock) k ≡ Some x → answer_at (ledger_with ledger CreateBlock) x ≡ Some ABlock
    answers_agree k x is =
        let state = map-some (λ (s : BlockState). s.block) (slice_get (ledger_with ledger CreateBlock).blocks k) x is in
        elim (get-push ledger.blocks (new_block (next_answer ledger)) k state.0 state.1) [
          | inl old ↦
              answer-still ledger (ledger_with ledger CreateBlock) (ABlock ∷ []) x ABlock refl
              (agrees.block_answers k x (ap (option_map (λ (s : BlockState). s.block)) old ∙ ap Some state.2))
          | inr last ↦
              let same : next_answer ledger ≡ x = ap (λ (s : BlockState). s.block) last.1 ∙ state.2 in
              ap (answer_at (ledger_with ledger CreateBlock)) (sym same)
              ∙ ap (option_and_then (λ (xs : List Answered). slice_get xs 0)) (get-last ledger.answers (ABlock ∷ []))
        ]

    blocks_agree : (k : ℕ) (s : BlockState) → slice_get (ledger_with ledger CreateBlock).blocks k ≡ Some s → BlockAgrees (calls ++ record { request = CreateBlock; numbers = block ∷ [] } ∷ []) g d k s
    blocks_agree k s there =
        elim (get-push ledger.blocks (new_block (next_answer ledger)) k s there) [
          | inl old ↦ block-kept calls (record { request = CreateBlock; numbers = block ∷ [] }) f g c d k s (agrees.blocks k s old) (same_colds k) (sealed_at k) (leads k) (status_at k)
          | inr last ↦
              let past : length f.blocks ≤ k = omega (arith, last.0, agrees.block_count) in
              let same : block ≡ k = omega (arith, number, last.0, agrees.block_count) in
              let none : status_of d k ≡ Empty = status_at k ∙ (agrees.fresh k past).1 in
              subst (λ (t : BlockState). BlockAgrees (calls ++ record { request = CreateBlock; numbers = block ∷ [] } ∷ []) g d k t) last.1 (record {
                number = ap (number_of (calls ++ record { request = CreateBlock; numbers = block ∷ [] } ∷ [])) name_is
                    ∙ earlier.new calls (record { request = CreateBlock; numbers = block ∷ [] }) 0 ∙ ap Some same;
                is_sealed = sym (sealed_at k ∙ (agrees.fresh k past).0);
                is_pristine = ap is_empty_status (sym none);
                is_filled = ap is_filled_status (sym none);
                is_cold = sym (same_colds k ∙ past_cold f.blocks k past);
                predecessors = sym (ap (map Some) (leads k ∙ (agrees.fresh k past).2));
              })
        ]

-- what comes of a creation
pub created : {E : Type 0} (calls : List AnsweredCall) (f g : Body) (c d : ContextState) (p : Option ℕ) (r : Result ℕ E)
    → LedgerAgrees calls (ledger_of calls) f c p → OnOk r (g ≡ with_block f) → IfOk r (λ block. block ≡ length f.blocks)
    → d.ssa.records ≡ c.ssa.records → SameBlocks c.ssa d.ssa → SamePredecessors c.ssa d.ssa → d.status ≡ c.status → SameVariables c d → d.ssa.tracking ≡ c.ssa.tracking
    → IfOk r (λ block. LedgerAgrees (calls ++ record { request = CreateBlock; numbers = block ∷ [] } ∷ []) (ledger_of (calls ++ record { request = CreateBlock; numbers = block ∷ [] } ∷ [])) g d p)
created calls f g c d p (Err e) agrees function number records sealed leads status variables tracking = tt
created calls f g c d p (Ok block) agrees function number records sealed leads status variables tracking =
    concluded calls (record { request = CreateBlock; numbers = block ∷ [] }) g d p
    (agrees-created calls (ledger_of calls) f g c d p block agrees function number records sealed leads status variables tracking)

-- a sealed block
module _ (calls : List AnsweredCall) (ledger : Ledger) (f g : Body) (c d : ContextState) (p : Option ℕ) (name : Name) (block : ℕ) (told : List ℕ)
    (agrees : LedgerAgrees calls ledger f c p) (named : block_name ledger block ≡ Some name) (sealing : IsSealing f c.ssa g d.ssa block told)
    (begins : Begins c d told) (firm : IsConsistent f) (consistent : IsConsistent g) (variables : SameVariables c d) where
  abbrev call : AnsweredCall
  call = record { request = SealBlock name; numbers = [] }

  abbrev new : Ledger
  new = ledger_with ledger (SealBlock name)

  abbrev change : BlockState → BlockState
  change s = record s { is_sealed = true }

  extends : Extends f g
  extends = extends-constructs f g sealing.constructs

  layout : g.layout ≡ f.layout
  layout = sealed_layout f c (in_order agrees) g d (λ b. b == block) told sealing firm consistent

  status_at : SameStatus c d
  status_at = sealed_status f c (in_order agrees) g d (λ b. b == block) told sealing firm begins

  names : (k : ℕ) (x : Name) → block_name ledger k ≡ Some x → block_name new k ≡ Some x
  names k x is = changed-names ledger new name change (λ s. refl) refl k ∙ is

  count_blocks : (states : List BlockState) → length (map (λ (s : BlockState). if same_name s.block name then record s { is_sealed = true } else s) states) ≡ length states
  count_blocks [] = refl
  count_blocks (s ∷ states) = ap suc (count_blocks states)

  block_here : (k : ℕ) (s : BlockState) → BlockAgrees calls f c k s → (test : Bool) → (k == block) ≡ test → BlockAgrees (calls ++ call ∷ []) g d k (if test then change s else s)
  block_here k s was true here =
      record {
        number = earlier.kept calls call s.block k was.number;
        is_sealed = sym (sealing.sealed k ∙ if-yes (k == block) true (is_yes (sealed_of c.ssa k)) here);
        is_pristine = was.is_pristine ∙ ap is_empty_status (sym (status_at k));
        is_filled = was.is_filled ∙ ap is_filled_status (sym (status_at k));
        is_cold = was.is_cold ∙ sym (extends.cold k);
        predecessors = numbers-kept calls call s.predecessors (predecessors_of c.ssa k) was.predecessors ∙ ap (map Some) (sym (sealing.predecessors k));
      }
  block_here k s was false other =
      block-kept calls call f g c d k s was (extends.cold k) (sealing.sealed k ∙ if-no (k == block) true (is_yes (sealed_of c.ssa k)) other) (sealing.predecessors k) (status_at k)

  structured : IsStructured agrees.own g d
  structured types are = sealing.structured types agrees.own (agrees.structured types (are_types c d types variables are))

  kept_types : (test : Bool) (s : BlockState) → (if test then change s else s).parameters ≡ s.parameters
  kept_types true s = refl
  kept_types false s = refl

  pub agrees-sealed : LedgerAgrees (calls ++ call ∷ []) new g d p
  agrees-sealed =
      record {
        places = places-after calls call ledger new [] agrees.places refl;
        answers = answers-after calls call ledger new f g c p [] agrees refl names (keeps-of f g extends) (answers-none new g (length calls));
        block_count = count_blocks ledger.blocks ∙ agrees.block_count ∙ sym extends.block_count;
        blocks = λ k t there.
            let entry = state-entries calls ledger (name-number calls ledger f c p agrees) block name change named k t there in
            subst (λ (s : BlockState). BlockAgrees (calls ++ call ∷ []) g d k s) entry.2 (block_here k entry.0 (agrees.blocks k entry.0 entry.1) (k == block) refl);
        block_answers = λ k x is.
            answer-still ledger new [] x ABlock refl (agrees.block_answers k x (sym (changed-names ledger new name change (λ s. refl) refl k) ∙ is));
        current = one-named-more (block_name ledger) (block_name new) ledger.current p names agrees.current;
        layout = named-more (block_name ledger) (block_name new) ledger.layout f.layout names agrees.layout ∙ ap (map (block_name new)) (sym layout);
        variables = agree_same ledger.variables c d variables agrees.variables;
        tables = agrees.tables ∙ sym extends.tables;
        tracks =
            tracks_on calls call f.values c g.values d tt
            (keeps_made f.values f.values g.values f c d refl extends.parameters sealing.stay (records_exist agrees.own f c agrees.structured)
            sealing.tracks sealing.makes)
            agrees.tracks;
        counts =
            counts_on calls call f c g d (spends_sealed _ _ f c g d (λ b. b == block) told (in_order agrees)
            (λ b is. subst (λ (n : ℕ). n < length f.blocks) (sym (eqb-true b block is)) (block-exists calls ledger f c p agrees block name named))
            sealing extends.block_count variables.0)
            agrees.counts;
        own = agrees.own;
        structured = structured;
        callers_types = λ k t there.
            let entry = state-entries calls ledger (name-number calls ledger f c p agrees) block name change named k t there in
            types-kept f g (keeps-of f g extends) (agrees.own.params k) entry.0.parameters (agrees.callers_types k entry.0 entry.1)
            ∙ ap (map Some) (sym (kept_types (k == block) entry.0) ∙ ap (λ (s : BlockState). s.parameters) entry.2);
        callers_alone = λ b.
            sealed_alone f c (in_order agrees) g d (λ b. b == block) told sealing firm consistent begins agrees.own (listed_types d.variables)
            (structured (listed_types d.variables) (are_listed d)) b (agrees.callers_alone b);
        branches = sealed_branches f c (in_order agrees) g d (λ b. b == block) told sealing firm consistent begins;
        fresh = λ k above.
            let past : length f.blocks ≤ k = omega (arith, above, extends.block_count) in
            let exists : block < length f.blocks = block-exists calls ledger f c p agrees block name named in
            let other : k ≢ block = omega (arith, past, exists) in (
              sealing.sealed k ∙ if-no (k == block) true (is_yes (sealed_of c.ssa k)) (ne_eqb k block other) ∙ (agrees.fresh k past).0,
              status_at k ∙ (agrees.fresh k past).1,
              sealing.predecessors k ∙ (agrees.fresh k past).2,
            );
      }

-- what comes of sealing
pub sealed : {E : Type 0} (calls : List AnsweredCall) (f g : Body) (c d : ContextState) (p : Option ℕ) (name : Name) (block : ℕ) (r : Result (Unit {0}) E)
    → LedgerAgrees calls (ledger_of calls) f c p → NamesBlock calls name block
    → OnOk r ((told : List ℕ) × IsSealing f c.ssa g d.ssa block told × Begins c d told) → IsConsistent f → IsConsistent g → SameVariables c d
    → OnOk r (LedgerAgrees (calls ++ record { request = SealBlock name; numbers = [] } ∷ []) (ledger_of (calls ++ record { request = SealBlock name; numbers = [] } ∷ [])) g d p)
sealed calls f g c d p name block (Err e) agrees names seals firm consistent variables = tt
sealed calls f g c d p name block (Ok done) agrees names seals firm consistent variables =
    let named = named-block calls (name-number calls (ledger_of calls) f c p agrees) name block names in
    concluded calls (record { request = SealBlock name; numbers = [] }) g d p
    (agrees-sealed calls (ledger_of calls) f g c d p name block seals.0 agrees named seals.1 seals.2 firm consistent variables)
