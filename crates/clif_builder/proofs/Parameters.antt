-- Parameters of the caller's come behind those of a block: what they change, and the agreement with the ledger is kept.
use Rattle.std.proofs.Common.{◌≡◌, ◌≢◌, ◌<◌, ◌≤◌, ◌+◌, ℕ, zero, suc, Bool, true, false, List, [], ◌∷◌, ◌++◌, length, map, refl, sym, ◌∙◌, ap, subst, arith, inl, inr, append_assoc}
use Rattle.std.specs.Prelude.{slice_get, Option, Some, option_map, if◌then◌else◌, ◌==◌}
use Rattle.std.proofs.Math.Decide.{ℕ_discrete}
use Rattle.std.proofs.lemmas.Bool.{eq-eqb, eqb-true}
use Rattle.std.proofs.lemmas.List.{append-nil, length-map, map_push}
use Rattle.std.proofs.lemmas.Option.{same_Some, none-some}
use Rattle.clif_types.specs.declared.types.«Type».{«Type»}
use Rattle.clif_nodes.specs.declared.nodes.ValueNode.{ValueNode}
use Rattle.clif_ir.specs.Body.{Body, block_at}
use Rattle.clif_ir.specs.Changes.{with_param}
use Rattle.clif_ir.specs.Consistent.{IsConsistent}
use Rattle.clif_instructions.specs.Members.{stands_in}
use Rattle.clif_ssa.specs.Own.{Own, with_own_param}
use Rattle.clif_ssa.specs.LookUp.{branch_block}
use Rattle.clif_ssa.proofs.Bodies.{firm_from}
use Rattle.clif_paths.proofs.Tables.{updated-same}
use Rattle.clif_meaning.specs.Name.{Name, answer_of, same_name}
use Rattle.clif_meaning.specs.Request.{AnsweredCall, Request, AppendBlockParams, AppendFunctionParams}
use Rattle.clif_meaning.specs.Ledger.{ABlock, AValue, Answered, BlockState, Ledger, VariableState, ledger_with, with_parameter_types, with_state}
use Rattle.clif_meaning.proofs.CallLists.{kept}
use Rattle.clif_simulation.specs.Carries.{numbers_from, with_params}
use Rattle.clif_simulation.proofs.Appending.{bare_still, own_after, own_elsewhere, params_elsewhere, params_structured, same_layout, typed_now}
use Rattle.clif_simulation.proofs.ParameterCalls.{Makes}
use Rattle.clif_builder.specs.declared.context.BlockStatus.TheVariants.{Empty}
use Rattle.clif_builder.specs.Context.{ContextState, status_of}
use Rattle.clif_builder.specs.Ledger.{AloneUnlessBegun, AnswerAgrees, AnswersAgree, BlockAgrees, HaveTypes, IsBegun, LedgerAgrees, VariablesAgree, ResultsFollow, block_name, value_type}
use Rattle.clif_builder.proofs.Counted.{SpendsFor, counts_on, spends_params}
use Rattle.clif_builder.proofs.LedgerLists.{get-last, named-more, one-named-more}
use Rattle.clif_builder.proofs.LedgerNames.{name-number, state-entries}
use Rattle.clif_builder.proofs.LedgerKept.{answer-still, answers-after, branch-kept, Extends, Extends-param, Extends-same, Extends-then, keeps-of, places-after, types-kept}
use Rattle.clif_builder.proofs.LedgerMade.{block-exists, changed-names, numbers-kept}
use Rattle.clif_builder.proofs.LedgerUsed.{typed-value}
use Rattle.clif_builder.proofs.Placed.{in_order, branch_exists}
use Rattle.clif_builder.proofs.Tracks.{TracksNothingNew, tracks_more}

-- THE FUNCTION ----------------------------------------------------------------------------------------------------------

pub Extends-params : (f : Body) (b : ℕ) (types : List «Type») → Extends f (with_params f b types)
Extends-params f b [] = Extends-same f f refl
Extends-params f b (ty ∷ types) = Extends-then f (with_param f b ty) (with_params (with_param f b ty) b types) (Extends-param f b ty) (Extends-params (with_param f b ty) b types)

-- the caller's parameters of the block have the types that they had, and then these
one-typed : (own : Own) (f : Body) (b : ℕ) (ty : «Type») (known : List «Type») → HaveTypes f (own.params b) known
    → HaveTypes (with_param f b ty) ((with_own_param own b (length f.values)).params b) (known ++ ty ∷ [])
one-typed own f b ty known before =
    let g : Body = with_param f b ty in
    let last : value_type g (length f.values) ≡ Some ty = ap (option_map (λ (n : ValueNode). n.ty)) (get-last f.values _) in
    ap (map (value_type g)) (updated-same own.params b (own.params b ++ length f.values ∷ []) b refl)
    ∙ map_push (value_type g) (own.params b) (length f.values)
    ∙ ap (λ (xs : List (Option «Type»)). xs ++ value_type g (length f.values) ∷ []) (types-kept f g (keeps-of f g (Extends-param f b ty)) (own.params b) known before)
    ∙ ap (λ (x : Option «Type»). map Some known ++ x ∷ []) last ∙ sym (map_push Some known ty)

params-typed : (own : Own) (f : Body) (b : ℕ) (types known : List «Type») → HaveTypes f (own.params b) known
    → HaveTypes (with_params f b types) ((own_after own f b types).params b) (known ++ types)
params-typed own f b [] known before = before ∙ ap (map Some) (sym (append-nil known))
params-typed own f b (ty ∷ types) known before =
    params-typed (with_own_param own b (length f.values)) (with_param f b ty) b types (known ++ ty ∷ []) (one-typed own f b ty known before)
    ∙ ap (map Some) (append_assoc known (ty ∷ []) types)

-- THE ANSWERS -----------------------------------------------------------------------------------------------------------

count-numbers : (n : ℕ) (types : List «Type») → length (numbers_from n types) ≡ length (map AValue types)
count-numbers n [] = refl
count-numbers n (ty ∷ types) = ap suc (count-numbers (suc n) types)

-- the answer and the number at one place
answer-at : (n : ℕ) (types : List «Type») (k : ℕ) (answer : Answered) (number : ℕ) → slice_get (map AValue types) k ≡ Some answer → slice_get (numbers_from n types) k ≡ Some number
    → (ty : «Type») × (slice_get types k ≡ Some ty) × (AValue ty ≡ answer) × (n + k ≡ number)
answer-at n [] k answer number at there = absurd (none-some answer at)
answer-at n (ty ∷ types) zero answer number at there =
    let same : n ≡ number = same_Some n number there in (ty, refl, same_Some (AValue ty) answer at, omega (arith, same))
answer-at n (ty ∷ types) (suc k) answer number at there =
    let rest = answer-at (suc n) types k answer number at there in (rest.0, rest.1, rest.2, omega (arith, rest.3))

pub params-answered : (ledger : Ledger) (f : Body) (b place : ℕ) (types : List «Type») → AnswersAgree ledger (with_params f b types) place (map AValue types) (numbers_from (length f.values) types)
params-answered ledger f b place types = record {
  count = count-numbers (length f.values) types;
  each = λ index answer number at there.
      let g : Body = with_params f b types in
      let one = answer-at (length f.values) types index answer number at there in
      subst (λ (a : Answered). AnswerAgrees ledger g (answer_of place index) a number) one.2
      (subst (λ (v : ℕ). value_type g v ≡ Some one.0) one.3 (typed-value g (length f.values + index) one.0 (typed_now f b types index one.0 one.1)));
  results = no_results types (numbers_from (length f.values) types);
}
  where
    no_results : (ts : List «Type») (numbers : List ℕ) → ResultsFollow (with_params f b types) (map AValue ts) numbers
    no_results [] numbers = tt
    no_results (ty ∷ ts) numbers = tt

-- THE AGREEMENT ---------------------------------------------------------------------------------------------------------

module _ (calls : List AnsweredCall) (ledger : Ledger) (f : Body) (c : ContextState) (p : Option ℕ) (agrees : LedgerAgrees calls ledger f c p) (consistent : IsConsistent f)
    (b : ℕ) (B : Name) (named : block_name ledger b ≡ Some B) (empty : status_of c b ≡ Empty)
    (types : List «Type») (call : AnsweredCall) (makes : Makes call.request B types) (numbers : call.numbers ≡ numbers_from (length f.values) types) where
  tracks_none : Makes call.request B types → TracksNothingNew call.request
  tracks_none (inl is) = subst TracksNothingNew (sym is) tt
  tracks_none (inr is) = subst TracksNothingNew (sym is) tt

  abbrev g : Body
  g = with_params f b types

  abbrev new : Ledger
  new = ledger_with ledger call.request

  abbrev change : BlockState → BlockState
  change = with_parameter_types types

  abbrev mine : Own
  mine = own_after agrees.own f b types

  by_request : (P : Request → Type 0) → P (AppendBlockParams B types) → P (AppendFunctionParams B types) → P call.request
  by_request P first second = by makes
    where
      by : Makes call.request B types → P call.request
      by (inl is) = subst P (sym is) first
      by (inr is) = subst P (sym is) second

  answers_are : new.answers ≡ ledger.answers ++ map AValue types ∷ []
  answers_are = by_request (λ (r : Request). (ledger_with ledger r).answers ≡ ledger.answers ++ map AValue types ∷ []) refl refl

  blocks_are : new.blocks ≡ (with_state ledger B change).blocks
  blocks_are = by_request (λ (r : Request). (ledger_with ledger r).blocks ≡ (with_state ledger B change).blocks) refl refl

  layout_is : new.layout ≡ ledger.layout
  layout_is = by_request (λ (r : Request). (ledger_with ledger r).layout ≡ ledger.layout) refl refl

  current_is : new.current ≡ ledger.current
  current_is = by_request (λ (r : Request). (ledger_with ledger r).current ≡ ledger.current) refl refl

  tables_are : new.tables ≡ ledger.tables
  tables_are = by_request (λ (r : Request). (ledger_with ledger r).tables ≡ ledger.tables) refl refl

  variables_are : new.variables ≡ ledger.variables
  variables_are = by_request (λ (r : Request). (ledger_with ledger r).variables ≡ ledger.variables) refl refl

  there : b < length f.blocks
  there = block-exists calls ledger f c p agrees b B named

  -- nothing was made in the block
  not_begun : {X : Type 0} → IsBegun f c b → X
  not_begun begun = absurd (begun.begun empty)

  bare : (block_at f b).params ≡ agrees.own.params b
  bare = elim (agrees.callers_alone b) [ inl alone ↦ alone | inr begun ↦ not_begun begun ]

  extends : Extends f g
  extends = Extends-params f b types

  names_same : (k : ℕ) → block_name new k ≡ block_name ledger k
  names_same = changed-names ledger new B change (λ s. refl) blocks_are

  names : (k : ℕ) (x : Name) → block_name ledger k ≡ Some x → block_name new k ≡ Some x
  names k x is = names_same k ∙ is

  entry : (k : ℕ) (t : BlockState) → slice_get new.blocks k ≡ Some t → (s : BlockState) × (slice_get ledger.blocks k ≡ Some s) × ((if k == b then change s else s) ≡ t)
  entry k t at = state-entries calls ledger (name-number calls ledger f c p agrees) b B change named k t (ap (λ (states : List BlockState). slice_get states k) (sym blocks_are) ∙ at)

  block_here : (k : ℕ) (s : BlockState) → BlockAgrees calls f c k s → (test : Bool) → BlockAgrees (calls ++ call ∷ []) g c k (if test then change s else s)
  block_here k s was true = record {
    number = kept calls call s.block k was.number;
    is_sealed = was.is_sealed;
    is_pristine = was.is_pristine;
    is_filled = was.is_filled;
    is_cold = was.is_cold ∙ sym (extends.cold k);
    predecessors = numbers-kept calls call s.predecessors _ was.predecessors;
  }
  block_here k s was false = record {
    number = kept calls call s.block k was.number;
    is_sealed = was.is_sealed;
    is_pristine = was.is_pristine;
    is_filled = was.is_filled;
    is_cold = was.is_cold ∙ sym (extends.cold k);
    predecessors = numbers-kept calls call s.predecessors _ was.predecessors;
  }

  elsewhere : (k : ℕ) → k ≢ b → mine.params k ≡ agrees.own.params k
  elsewhere k other = own_elsewhere agrees.own f b types k other

  types_here : (k : ℕ) (s : BlockState) → HaveTypes f (agrees.own.params k) s.parameters → (test : Bool) → (k == b) ≡ test → HaveTypes g (mine.params k) (if test then change s else s).parameters
  types_here k s was true here =
      let same : k ≡ b = eqb-true k b here in
      subst (λ (j : ℕ). HaveTypes g (mine.params j) (s.parameters ++ types)) (sym same)
      (params-typed agrees.own f b types s.parameters (subst (λ (j : ℕ). HaveTypes f (agrees.own.params j) s.parameters) same was))
  types_here k s was false other =
      ap (map (value_type g)) (elsewhere k (λ same. apart (ap (λ (j : ℕ). j == b) same ∙ eq_self) other))
      ∙ types-kept f g (keeps-of f g extends) (agrees.own.params k) s.parameters was
    where
      eq_self : (b == b) ≡ true
      eq_self = eq-eqb b b refl

      apart : (k == b) ≡ true → (k == b) ≡ false → ⊥
      apart is_here not_here = let no_way : true ≡ false = sym is_here ∙ not_here in cc

  still_begun : (k : ℕ) → IsBegun f c k → IsBegun g c k
  still_begun k was = record { inserted = ap (stands_in k) (same_layout f b types) ∙ was.inserted; begun = was.begun }

  alone_or_begun : (k : ℕ) → AloneUnlessBegun mine g c k
  alone_or_begun k = by (ℕ_discrete k b)
    where
      by : Dec (k ≡ b) → AloneUnlessBegun mine g c k
      by (yes same) = inl (subst (λ (j : ℕ). (block_at g j).params ≡ mine.params j) (sym same) (bare_still b (length calls) agrees.own f types there bare))
      by (no other) = elim (agrees.callers_alone k) [
        | inl alone ↦ inl (params_elsewhere b (length calls) f types k there other ∙ alone ∙ sym (elsewhere k other))
        | inr begun ↦ inr (still_begun k begun)
      ]

  pub agrees-params : LedgerAgrees (calls ++ call ∷ []) new g c p
  agrees-params = record {
    places = places-after calls call ledger new (map AValue types) agrees.places answers_are;
    answers = answers-after calls call ledger new f g c p (map AValue types) agrees answers_are names (keeps-of f g extends)
        (subst (AnswersAgree new g (length calls) (map AValue types)) (sym numbers) (params-answered new f b (length calls) types));
    block_count =
        ap (λ (states : List BlockState). length states) blocks_are ∙ length-map ledger.blocks (λ (s : BlockState). if same_name s.block B then change s else s)
        ∙ agrees.block_count ∙ sym extends.block_count;
    blocks = λ k t at. let e = entry k t at in subst (λ (s : BlockState). BlockAgrees (calls ++ call ∷ []) g c k s) e.2 (block_here k e.0 (agrees.blocks k e.0 e.1) (k == b));
    block_answers = λ k x is. answer-still ledger new (map AValue types) x ABlock answers_are (agrees.block_answers k x (sym (names_same k) ∙ is));
    current = ap (option_map Some) current_is ∙ one-named-more (block_name ledger) (block_name new) ledger.current p names agrees.current;
    layout =
        ap (map Some) layout_is ∙ named-more (block_name ledger) (block_name new) ledger.layout f.layout names agrees.layout
        ∙ ap (map (block_name new)) (sym (same_layout f b types));
    variables = subst (λ (states : List VariableState). VariablesAgree states c) (sym variables_are) agrees.variables;
    tables = tables_are ∙ agrees.tables ∙ sym extends.tables;
    tracks = tracks_more calls call f.values g.values c (tracks_none makes) extends.parameters agrees.tracks;
    counts = counts_on calls call f c g c (by_request (λ (r : Request). SpendsFor r f c g c) (spends_params 0 f c b types) (spends_params 0 f c b types)) agrees.counts;
    own = mine;
    structured = λ declared are. params_structured b (length calls) declared agrees.own f c.ssa types (firm_from f consistent) there bare (agrees.structured declared are);
    callers_types = λ k t at.
        let e = entry k t at in
        subst (λ (s : BlockState). HaveTypes g (mine.params k) s.parameters) e.2 (types_here k e.0 (agrees.callers_types k e.0 e.1) (k == b) refl);
    callers_alone = alone_or_begun;
    branches = λ d i leads.
        let old = agrees.branches d i leads in
        let same : branch_block g i ≡ branch_block f i = branch-kept f g (keeps-of f g extends) i (branch_exists f c (in_order agrees) d i leads) in
        record {
          inserted = ap (λ (k : ℕ). stands_in k g.layout) same ∙ ap (stands_in (branch_block f i)) (same_layout f b types) ∙ old.inserted;
          filled = ap (status_of c) same ∙ old.filled;
        };
    fresh = λ k above. agrees.fresh k (subst (λ (n : ℕ). n ≤ k) extends.block_count above);
  }
