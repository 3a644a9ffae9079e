-- Something is made in the current block: the agreement with the ledger is kept.
use Rattle.std.proofs.Common.{◌≡◌, ◌≢◌, ◌<◌, ◌≤◌, ℕ, suc, List, [], ◌∷◌, ◌++◌, length, refl, sym, ◌∙◌, ap, subst, arith, inl, inr}
use Rattle.std.specs.Prelude.{map, slice_get, Option, Some, None, option_map, Bool, true, false, if◌then◌else◌, ◌==◌, Contains}
use Rattle.std.proofs.lemmas.Option.{slice_get_within}
use Rattle.std.proofs.lemmas.Bool.{cases_eq, eq-eqb, eqb-true, ne_eqb}
use Rattle.std.proofs.lemmas.List.{map_push}
use Rattle.clif_ir.specs.Body.{Body, block_at}
use Rattle.clif_ir.specs.Changes.{inserted_in}
use Rattle.clif_ir.specs.Changes as body
use Rattle.clif_instructions.specs.Members.{stands_in}
use Rattle.clif_meaning.specs.Name.{Name, same_name}
use Rattle.clif_meaning.specs.Request.{AnsweredCall, number_of}
use Rattle.clif_meaning.specs.Ledger.{ABlock, Answered, BlockState, Ledger, with_state, with_layout, with_begun, with_begun_at, is_inserted}
use Rattle.clif_meaning.proofs.CallLists.{kept}
use Rattle.clif_ssa.specs.Own.{Own}
use Rattle.clif_records.specs.Tables.{is_yes}
use Rattle.clif_ssa.specs.LookUp.{branch_block}
use Rattle.clif_ssa.specs.Ssa.{SamePredecessors, predecessors_of, sealed_of}
use Rattle.clif_builder.specs.declared.context.BlockStatus.{BlockStatus}
use Rattle.clif_builder.specs.declared.context.BlockStatus.TheVariants.{Empty, Filled}
use Rattle.clif_builder.specs.Context.{ContextState, status_of, SetsStatus}
use Rattle.clif_builder.specs.Builder.{is_empty_status, is_filled_status}
use Rattle.clif_builder.specs.Ledger.{AloneUnlessBegun, AnswersAgree, BlockAgrees, IsBegun, IsEnded, IsStructured, LedgerAgrees, VariablesAgree, block_name, value_type}
use Rattle.clif_builder.proofs.Counted.{SpendsFor, counts_on}
use Rattle.clif_builder.proofs.LedgerLists.{if-yes, if-no, named-more, numbered-more, one-named-more, map-some}
use Rattle.clif_builder.proofs.LedgerNames.{IsNumbered, name-number, block-inserted, state-names, state-entries}
use Rattle.clif_builder.proofs.LedgerKept.{answer-still, Extends, keeps-of, answers-after, places-after, stands-inserted, stands-still, types-kept}
use Rattle.clif_builder.proofs.Tracks.{KeepsTracks, TracksNothingNew, tracks_on}

-- a change of a block's state leaves what it is, and has it agree with another status
pub record ChangeAgrees (change : BlockState → BlockState) (old new : BlockStatus) : Type 0 where
  pub block : (s : BlockState) → (change s).block ≡ s.block
  pub is_sealed : (s : BlockState) → (change s).is_sealed ≡ s.is_sealed
  pub parameters : (s : BlockState) → (change s).parameters ≡ s.parameters
  pub is_cold : (s : BlockState) → (change s).is_cold ≡ s.is_cold
  pub predecessors : (s : BlockState) → (change s).predecessors ≡ s.predecessors
  pub is_pristine : (s : BlockState) → s.is_pristine ≡ is_empty_status old → (change s).is_pristine ≡ is_empty_status new
  pub is_filled : (s : BlockState) → s.is_filled ≡ is_filled_status old → (change s).is_filled ≡ is_filled_status new

-- the ledger in which something was made in a block
pub record MadeLedger (old new : Ledger) (name : Name) (change : BlockState → BlockState) : Type 0 where
  pub blocks : new.blocks ≡ (with_state old name change).blocks
  pub layout : new.layout ≡ (with_layout old name).layout
  pub current : new.current ≡ old.current
  pub tables : new.tables ≡ old.tables

-- the function and the context in which something was made in a block: `mine` is what the caller made before
pub record Makes (mine : Own) (f : Body) (c : ContextState) (g : Body) (d : ContextState) (block : ℕ) : Type 0 where
  pub extends : Extends f g
  pub layout : g.layout ≡ (inserted_in f block).layout
  pub sealed : (b : ℕ) → is_yes (sealed_of d.ssa b) ≡ is_yes (sealed_of c.ssa b)
  pub predecessors : SamePredecessors c.ssa d.ssa
  pub own : Own
  pub structured : IsStructured own g d
  pub callers : (b : ℕ) → own.params b ≡ mine.params b
  pub callers_alone : (b : ℕ) → AloneUnlessBegun own g d b
  pub branches : (b branch : ℕ) → Contains (predecessors_of d.ssa b) branch → IsEnded g d (branch_block g branch)
  pub tracks : KeepsTracks f.values c g.values d

-- what was begun or ended is so when something was made in a block
pub begun-still : (f g : Body) (c d : ContextState) (block : ℕ) (status : BlockStatus) → g.layout ≡ (inserted_in f block).layout → SetsStatus c d block status → status ≢ Empty
    → (h : ℕ) → IsBegun f c h → IsBegun g d h
begun-still f g c d block status layout sets begun h was =
    record {
      inserted = ap (stands_in h) layout ∙ stands-still f block h was.inserted;
      begun = λ empty. elim (cases_eq h block) [
        | inl same ↦ begun (sym (sets h ∙ if-yes (h == block) status (status_of c h) (eq-eqb h block same)) ∙ empty)
        | inr other ↦ was.begun (sym (sets h ∙ if-no (h == block) status (status_of c h) (ne_eqb h block other)) ∙ empty)
      ];
    }

pub begun-here : (f g : Body) (c d : ContextState) (block : ℕ) (status : BlockStatus) → g.layout ≡ (inserted_in f block).layout → SetsStatus c d block status → status ≢ Empty → IsBegun g d block
begun-here f g c d block status layout sets begun =
    record {
      inserted = ap (stands_in block) layout ∙ stands-inserted f block;
      begun = λ empty. begun (sym (sets block ∙ if-yes (block == block) status (status_of c block) (eq-eqb block block refl)) ∙ empty);
    }

-- a block that has as many parameters has the caller's alone as before
pub alone-still : (own mine : Own) (f g : Body) (c d : ContextState) (block : ℕ) (status : BlockStatus) → g.layout ≡ (inserted_in f block).layout → SetsStatus c d block status → status ≢ Empty
    → (h : ℕ) → own.params h ≡ mine.params h → (block_at g h).params ≡ (block_at f h).params → AloneUnlessBegun mine f c h → AloneUnlessBegun own g d h
alone-still own mine f g c d block status layout sets some h same params was =
    elim was [
      | inl alone ↦ inl (params ∙ alone ∙ sym same)
      | inr begun ↦ inr (begun-still f g c d block status layout sets some h begun)
    ]

pub ended-still : (f g : Body) (c d : ContextState) (block : ℕ) (status : BlockStatus) → g.layout ≡ (inserted_in f block).layout → SetsStatus c d block status
    → (status_of c block ≡ Filled → status ≡ Filled) → (h : ℕ) → IsEnded f c h → IsEnded g d h
ended-still f g c d block status layout sets stays h was =
    record {
      inserted = ap (stands_in h) layout ∙ stands-still f block h was.inserted;
      filled = elim (cases_eq h block) [
        | inl same ↦ sets h ∙ if-yes (h == block) status (status_of c h) (eq-eqb h block same) ∙ stays (ap (status_of c) (sym same) ∙ was.filled)
        | inr other ↦ sets h ∙ if-no (h == block) status (status_of c h) (ne_eqb h block other) ∙ was.filled
      ];
    }

pub ended-here : (f g : Body) (c d : ContextState) (block : ℕ) → g.layout ≡ (inserted_in f block).layout → SetsStatus c d block Filled → IsEnded g d block
ended-here f g c d block layout sets =
    record {
      inserted = ap (stands_in block) layout ∙ stands-inserted f block;
      filled = sets block ∙ if-yes (block == block) Filled (status_of c block) (eq-eqb block block refl);
    }

-- a block of the ledger exists
pub block-exists : (calls : List AnsweredCall) (ledger : Ledger) (f : Body) (c : ContextState) (p : Option ℕ) → LedgerAgrees calls ledger f c p
    → (block : ℕ) (name : Name) → block_name ledger block ≡ Some name → block < length f.blocks
block-exists calls ledger f c p agrees block name named =
    let state = map-some (λ (s : BlockState). s.block) (slice_get ledger.blocks block) name named in
    let inside : block < length ledger.blocks = slice_get_within ledger.blocks block state.0 state.1 in
    omega (arith, inside, agrees.block_count)

-- the numbers of names, one more call on
pub numbers-kept : (calls : List AnsweredCall) (call : AnsweredCall) (names : List Name) (numbers : List ℕ) → map (number_of calls) names ≡ map Some numbers
    → map (number_of (calls ++ call ∷ [])) names ≡ map Some numbers
numbers-kept calls call names numbers = numbered-more (number_of calls) (number_of (calls ++ call ∷ [])) names numbers (λ name number is. kept calls call name number is)

-- the names after a change of one block's state
pub changed-names : (old new : Ledger) (name : Name) (change : BlockState → BlockState) → ((s : BlockState) → (change s).block ≡ s.block)
    → new.blocks ≡ (with_state old name change).blocks → (k : ℕ) → block_name new k ≡ block_name old k
changed-names old new name change keeps blocks k =
    ap (λ (states : List BlockState). option_map (λ (s : BlockState). s.block) (slice_get states k)) blocks ∙ state-names old name change keeps k

-- the blocks after a change of one block's state, and of its status
pub blocks-after : (calls : List AnsweredCall) (call : AnsweredCall) (old new : Ledger) (f g : Body) (c d : ContextState) (p : Option ℕ) (block : ℕ) (name : Name) (change : BlockState → BlockState) (status : BlockStatus)
    → LedgerAgrees calls old f c p → Extends f g → block_name old block ≡ Some name → new.blocks ≡ (with_state old name change).blocks
    → ChangeAgrees change (status_of c block) status → SetsStatus c d block status → ((b : ℕ) → is_yes (sealed_of d.ssa b) ≡ is_yes (sealed_of c.ssa b)) → SamePredecessors c.ssa d.ssa
    → (k : ℕ) (t : BlockState) → slice_get new.blocks k ≡ Some t → BlockAgrees (calls ++ call ∷ []) g d k t
blocks-after calls call old new f g c d p block name change status agrees extends named blocks changes sets sealed leads k t found =
    let at_old : slice_get (with_state old name change).blocks k ≡ Some t = ap (λ (states : List BlockState). slice_get states k) (sym blocks) ∙ found in
    let entry = state-entries calls old (name-number calls old f c p agrees) block name change named k t at_old in
    subst (λ (s : BlockState). BlockAgrees (calls ++ call ∷ []) g d k s) entry.2 (by entry.0 (agrees.blocks k entry.0 entry.1) (k == block) refl)
  where
    by : (s : BlockState) → BlockAgrees calls f c k s → (test : Bool) → (k == block) ≡ test → BlockAgrees (calls ++ call ∷ []) g d k (if test then change s else s)
    by s was true here =
        let same : k ≡ block = eqb-true k block here in
        let now : status_of d k ≡ status = sets k ∙ if-yes (k == block) status (status_of c k) here in
        let before : status_of c k ≡ status_of c block = ap (status_of c) same in
        record {
          number = kept calls call (change s).block k (ap (number_of calls) (changes.block s) ∙ was.number);
          is_sealed = changes.is_sealed s ∙ was.is_sealed ∙ sym (sealed k);
          is_pristine = changes.is_pristine s (was.is_pristine ∙ ap is_empty_status before) ∙ ap is_empty_status (sym now);
          is_filled = changes.is_filled s (was.is_filled ∙ ap is_filled_status before) ∙ ap is_filled_status (sym now);
          is_cold = changes.is_cold s ∙ was.is_cold ∙ sym (extends.cold k);
          predecessors = ap (map (number_of (calls ++ call ∷ []))) (changes.predecessors s) ∙ numbers-kept calls call s.predecessors (predecessors_of c.ssa k) was.predecessors ∙ ap (map Some) (sym (leads k));
        }
    by s was false other =
        let same : status_of d k ≡ status_of c k = sets k ∙ if-no (k == block) status (status_of c k) other in
        record {
          number = kept calls call s.block k was.number;
          is_sealed = was.is_sealed ∙ sym (sealed k);
          is_pristine = was.is_pristine ∙ ap is_empty_status (sym same);
          is_filled = was.is_filled ∙ ap is_filled_status (sym same);
          is_cold = was.is_cold ∙ sym (extends.cold k);
          predecessors = numbers-kept calls call s.predecessors (predecessors_of c.ssa k) was.predecessors ∙ ap (map Some) (sym (leads k));
        }

-- the layout with a block, by names and by numbers
layout-after : (calls : List AnsweredCall) (old new : Ledger) (f : Body) (block : ℕ) (name : Name) → IsNumbered calls old
    → map Some old.layout ≡ map (block_name old) f.layout → block_name old block ≡ Some name
    → ((k : ℕ) (x : Name) → block_name old k ≡ Some x → block_name new k ≡ Some x)
    → map Some (with_layout old name).layout ≡ map (block_name new) (inserted_in f block).layout
layout-after calls old new f block name numbered same named names =
    by (stands_in block f.layout) (is_inserted old name) (block-inserted calls old numbered f.layout same block name named)
  where
    kept_names : map Some old.layout ≡ map (block_name new) f.layout
    kept_names = named-more (block_name old) (block_name new) old.layout f.layout names same

    by : (there inserted : Bool) → inserted ≡ there
        → map Some (if inserted then old else record old { layout = old.layout ++ name ∷ [] }).layout ≡ map (block_name new) (if there then f else body.with_layout f block).layout
    by true true is = kept_names
    by true false is = let no_way : ⊥ = cc in absurd no_way
    by false true is = let no_way : ⊥ = cc in absurd no_way
    by false false is =
        map_push Some old.layout name ∙ ap (λ (xs : List (Option Name)). xs ++ Some name ∷ []) kept_names
        ∙ ap (λ (x : Option Name). map (block_name new) f.layout ++ x ∷ []) (sym (names block name named))
        ∙ sym (map_push (block_name new) f.layout block)

pub agrees-made : (calls : List AnsweredCall) (call : AnsweredCall) (old new : Ledger) (f g : Body) (c d : ContextState) (p : Option ℕ) (block : ℕ) (name : Name) (change : BlockState → BlockState) (status : BlockStatus) (answered : List Answered)
    (agrees : LedgerAgrees calls old f c p) → TracksNothingNew call.request → block_name old block ≡ Some name
    → new.answers ≡ old.answers ++ answered ∷ [] → MadeLedger old new name change → VariablesAgree new.variables d
    → ChangeAgrees change (status_of c block) status → SetsStatus c d block status → Makes agrees.own f c g d block → SpendsFor call.request f c g d
    → AnswersAgree new g (length calls) answered call.numbers → LedgerAgrees (calls ++ call ∷ []) new g d p
agrees-made calls call old new f g c d p block name change status answered agrees asks named answers ledger variables changes sets makes spends fresh =
    record {
      places = places-after calls call old new answered agrees.places answers;
      answers = answers-after calls call old new f g c p answered agrees answers names (keeps-of f g makes.extends) fresh;
      block_count = count_blocks ∙ agrees.block_count ∙ sym makes.extends.block_count;
      blocks = blocks-after calls call old new f g c d p block name change status agrees makes.extends named ledger.blocks changes sets makes.sealed makes.predecessors;
      block_answers = λ k x is.
          answer-still old new answered x ABlock answers (agrees.block_answers k x (sym (changed-names old new name change changes.block ledger.blocks k) ∙ is));
      current = ap (option_map Some) ledger.current ∙ one-named-more (block_name old) (block_name new) old.current p names agrees.current;
      layout = ap (map Some) ledger.layout ∙ layout-after calls old new f block name numbered agrees.layout named names ∙ ap (map (block_name new)) (sym makes.layout);
      variables = variables;
      tables = ledger.tables ∙ agrees.tables ∙ sym makes.extends.tables;
      tracks = tracks_on calls call f.values c g.values d asks makes.tracks agrees.tracks;
      counts = counts_on calls call f c g d spends agrees.counts;
      own = makes.own;
      structured = makes.structured;
      callers_types = λ k t there.
          let entry = state-entries calls old numbered block name change named k t (ap (λ (states : List BlockState). slice_get states k) (sym ledger.blocks) ∙ there) in
          ap (map (value_type g)) (makes.callers k) ∙ types-kept f g (keeps-of f g makes.extends) (agrees.own.params k) entry.0.parameters (agrees.callers_types k entry.0 entry.1)
          ∙ ap (map Some) (sym (kept_types (k == block) entry.0) ∙ ap (λ (s : BlockState). s.parameters) entry.2);
      callers_alone = makes.callers_alone;
      branches = makes.branches;
      fresh = λ k above.
          let past : length f.blocks ≤ k = omega (arith, above, makes.extends.block_count) in
          let exists : block < length f.blocks = block-exists calls old f c p agrees block name named in
          let other : k ≢ block = omega (arith, past, exists) in (
            makes.sealed k ∙ (agrees.fresh k past).0,
            sets k ∙ if-no (k == block) status (status_of c k) (ne_eqb k block other) ∙ (agrees.fresh k past).1,
            makes.predecessors k ∙ (agrees.fresh k past).2,
          );
    }
  where
    numbered : IsNumbered calls old
    numbered = name-number calls old f c p agrees

    kept_types : (test : Bool) (s : BlockState) → (if test then change s else s).parameters ≡ s.parameters
    kept_types true s = changes.parameters s
    kept_types false s = refl

    names : (k : ℕ) (x : Name) → block_name old k ≡ Some x → block_name new k ≡ Some x
    names k x is = changed-names old new name change changes.block ledger.blocks k ∙ is

    count_blocks : length new.blocks ≡ length old.blocks
    count_blocks = ap (λ (states : List BlockState). length states) ledger.blocks ∙ length_map old.blocks
      where
        length_map : (states : List BlockState) → length (map (λ (s : BlockState). if same_name s.block name then change s else s) states) ≡ length states
        length_map [] = refl
        length_map (s ∷ states) = ap suc (length_map states)

-- the caller's parameters then
pub made-callers : (calls : List AnsweredCall) (call : AnsweredCall) (old new : Ledger) (f g : Body) (c d : ContextState) (p : Option ℕ) (block : ℕ) (name : Name) (change : BlockState → BlockState) (status : BlockStatus) (answered : List Answered)
    (agrees : LedgerAgrees calls old f c p) (asks : TracksNothingNew call.request) (named : block_name old block ≡ Some name)
    (answers : new.answers ≡ old.answers ++ answered ∷ []) (ledger : MadeLedger old new name change) (variables : VariablesAgree new.variables d)
    (changes : ChangeAgrees change (status_of c block) status) (sets : SetsStatus c d block status) (makes : Makes agrees.own f c g d block) (spends : SpendsFor call.request f c g d)
    (fresh : AnswersAgree new g (length calls) answered call.numbers)
    → (b : ℕ) → (agrees-made calls call old new f g c d p block name change status answered agrees asks named answers ledger variables changes sets makes spends fresh).own.params b ≡ agrees.own.params b
unfolding agrees-made
made-callers calls call old new f g c d p block name change status answered agrees asks named answers ledger variables changes sets makes spends fresh b = makes.callers b

-- the ledger in which something was made in the current block
abbrev pub unpristine : BlockState → BlockState
unpristine s = record s { is_pristine = false }

pub begun-ledger : (ledger : Ledger) (name : Name) → ledger.current ≡ Some name → MadeLedger ledger (with_begun ledger) name unpristine
begun-ledger ledger name current =
    subst (λ (new : Ledger). MadeLedger ledger new name unpristine) (ap (with_begun_at ledger) (sym current)) (record {
      blocks = same_blocks (is_inserted ledger name);
      layout = refl;
      current = same_current (is_inserted ledger name);
      tables = same_tables (is_inserted ledger name);
    })
  where
    placed : Bool → Ledger
    placed inserted = if inserted then ledger else record ledger { layout = ledger.layout ++ name ∷ [] }

    same_blocks : (inserted : Bool) → (with_state (if inserted then ledger else record ledger { layout = ledger.layout ++ name ∷ [] }) name unpristine).blocks ≡ (with_state ledger name unpristine).blocks
    same_blocks true = refl
    same_blocks false = refl

    same_current : (inserted : Bool) → (if inserted then ledger else record ledger { layout = ledger.layout ++ name ∷ [] }).current ≡ ledger.current
    same_current true = refl
    same_current false = refl

    same_tables : (inserted : Bool) → (if inserted then ledger else record ledger { layout = ledger.layout ++ name ∷ [] }).tables ≡ ledger.tables
    same_tables true = refl
    same_tables false = refl

-- the variables then
pub begun-variables : (ledger : Ledger) → (with_begun ledger).variables ≡ ledger.variables
begun-variables ledger = by ledger.current
  where
    inserted : (name : Name) (test : Bool) → (if test then ledger else record ledger { layout = ledger.layout ++ name ∷ [] }).variables ≡ ledger.variables
    inserted name true = refl
    inserted name false = refl

    by : (current : Option Name) → (with_begun_at ledger current).variables ≡ ledger.variables
    by None = refl
    by (Some name) = inserted name (is_inserted ledger name)
