-- A branch leads to one block in place of another one: the parts of a builder stay in order, and it stands for the list with the
-- call.
use Rattle.std.proofs.Common.{◌≡◌, ◌≢◌, ◌<◌, ◌≤◌, ◌==◌, ◌⊎◌, inl, inr, ℕ, zero, suc, Bool, true, false, List, [], ◌∷◌, ◌++◌, length, map, refl, sym, ◌∙◌, ap, subst, arith, Option, Some, None}
use Rattle.std.specs.Prelude.{◌||◌, Contains, IsTrue, Result, Ok, Err, OnErr, OnOk, cond, filter, if◌then◌else◌, not, option_map, slice_get}
use Rattle.std.specs.List.{AllByRecursion, list_any}
use Rattle.std.proofs.lemmas.Bool.{cases_eq, eq-eqb, eqb-true}
use Rattle.std.proofs.lemmas.Option.{get_or_from_slice_get, none-some, same_Some, slice_get-get_or, slice_get-map, slice_get_within}
use Rattle.clif_types.specs.Signature.{SignatureShape}
use Rattle.clif_ir.specs.Body.{Body, block_at, inst_at}
use Rattle.clif_ir.specs.Changes.{with_branch_target}
use Rattle.clif_ir.specs.Consistent.{IsConsistent}
use Rattle.clif_instructions.specs.Members.{Once, Stands, stands_in, without}
use Rattle.clif_instructions.proofs.Members.{Once-tail, Stands-from_test, if_true, if_false}
use Rattle.clif_nodes.specs.Nodes.{no_inst}
use Rattle.clif_nodes.specs.declared.nodes.InstNode.{InstNode}
use Rattle.clif_records.specs.Tables.{RecordMap, Sealed, is_yes, pending_of, record_at}
use Rattle.clif_ssa.specs.LookUp.{branch_block}
use Rattle.clif_ssa.specs.Moving.{MovesBranch, moved_leads, with_once}
use Rattle.clif_ssa.specs.Own.{Own}
use Rattle.clif_ssa.specs.Sound.{args_of, edge_target, edges_at}
use Rattle.clif_ssa.specs.Ssa.{NamesExist, SameBlocks, SamePredecessors, SsaState, predecessors_of, sealed_of}
use Rattle.clif_ssa.specs.Structure.{Remembers, StayAlike}
use Rattle.clif_ssa.specs.Structured.{EdgePasses, HasParameters, Structured, VariableTypes}
use Rattle.clif_ssa.proofs.Leading.{once_first}
use Rattle.clif_ssa.proofs.Moved.{moves}
use Rattle.clif_ssa.proofs.MovedState.{branch_structured, contained, led_before, leads_moved}
use Rattle.clif_ssa.proofs.StructuredLaws.{append_none, none_complete}
use Rattle.clif_meaning.specs.Ledger.{ABlock, AJumpTable, AnExceptionTable, AnEdge, AnEntry, AnInstruction, Answered, AValue, AVariable, BlockState, Ledger, answer_at, block_state, is_instruction_answer, leads_to, led_by, ledger_with, left_by, redirected_state, state_has}
use Rattle.clif_meaning.specs.Name.{Name, same_name}
use Rattle.clif_meaning.specs.Request.{AnsweredCall, ChangeJumpDestination, number_of}
use Rattle.clif_meaning.proofs.CallLists as earlier
use Rattle.clif_simulation.specs.Carries.{IsInstruction}
use Rattle.clif_simulation.specs.Tables.{answered, number_or_none}
use Rattle.clif_simulation.specs.Tables as simulation
use Rattle.clif_simulation.proofs.Calls.{structured_so_far}
use Rattle.clif_simulation.proofs.Redirections.Predecessors.{leads_on}
use Rattle.clif_simulation.proofs.Redirections.Redirecting.{MayRedirect, carries_redirected}
use Rattle.clif_builder.specs.declared.context.BlockStatus.{BlockStatus}
use Rattle.clif_builder.specs.declared.context.BlockStatus.TheVariants.{Filled}
use Rattle.clif_builder.specs.Builder.{is_empty_status, is_filled_status}
use Rattle.clif_builder.specs.Context.{ContextState, SameVariables, status_of}
use Rattle.clif_builder.specs.Growth.{Grows, TypesStay}
use Rattle.clif_builder.specs.Ledger.{BlockAgrees, LedgerAgrees, NamesBlock, NamesInstruction, block_name, ledger_of}
use Rattle.clif_builder.specs.Order.{IsBegun, IsEnded, IsInOrder}
use Rattle.clif_builder.specs.Redirecting.{Redirects}
use Rattle.clif_builder.specs.StandsFor.{StandsIn}
use Rattle.clif_builder.proofs.Growing.{Grows-same, on_ok_step}
use Rattle.clif_builder.proofs.LedgerKept.{Extends, Extends-same, KeepsInst, answer-still, answers-after, answers-none, concluded, keeps-of, places-after, types-kept}
use Rattle.clif_builder.proofs.LedgerLists.{if-yes, map-some, named-more, one-named-more}
use Rattle.clif_builder.proofs.LedgerMade.{block-exists, numbers-kept}
use Rattle.clif_builder.proofs.LedgerNames.{IsNumbered, by-number, name-number, named-block, same-block, state-by-name}
use Rattle.clif_builder.proofs.Placed.{in_order}
use Rattle.clif_builder.proofs.StandingCallers.{alone_after, kept_alone, same_callers}
use Rattle.clif_builder.proofs.Touching.{agree_same, are_types}
use Rattle.clif_builder.proofs.Counted.{counts_on, leaves_records, spends_redirected}
use Rattle.clif_builder.proofs.Tracks.{keeps_same, tracks_on}

-- WHAT THE CALLER PASSED ------------------------------------------------------------------------------------------------

abbrev leads_at : Option ℕ → ℕ → Bool
leads_at None block = false
leads_at (Some target) block = target == block

-- the caller's, where the edges to this block passed what they pass now
abbrev own_passing : Own → Body → ℕ → Own
own_passing own f block =
    record own { passed = λ i k. if leads_at (edge_target f i k) block then args_of (slice_get (edges_at f i) k) else own.passed i k }

passes_now : (own : Own) (f : Body) (block i k : ℕ) → edge_target f i k ≡ Some block → args_of (slice_get (edges_at f i) k) ≡ (own_passing own f block).passed i k
passes_now own f block i k to =
    sym (if-yes (leads_at (edge_target f i k) block) (args_of (slice_get (edges_at f i) k)) (own.passed i k)
    (ap (λ (o : Option ℕ). leads_at o block) to ∙ eq-eqb block block refl))

-- edges to an unsealed block pass nothing else
structured_passing : (types : VariableTypes) (own : Own) (f : Body) (s : SsaState) (block : ℕ) → is_yes (sealed_of s block) ≡ false
    → Structured types own f s [] → Structured types (own_passing own f block) f s []
structured_passing types own f s block unsealed before = record {
  parameters = λ b.
      let has : HasParameters own f s [] b = before.parameters b in
      record {
        complete = has.complete;
        in_order = has.in_order;
        several = has.several;
        edges = λ i k leads to. by b has i k leads to (leads_at (edge_target f i k) block) refl;
      };
  alias_types = before.alias_types;
  zeros = before.zeros;
  recorded = before.recorded;
  waiting = before.waiting;
  leading = before.leading;
  leading_once = before.leading_once;
}
  where
    by : (b : ℕ) (has : HasParameters own f s [] b) (i k : ℕ) → Contains (predecessors_of s b) i → edge_target f i k ≡ Some b
        → (test : Bool) → leads_at (edge_target f i k) block ≡ test
        → EdgePasses f (if test then args_of (slice_get (edges_at f i) k) else own.passed i k) has.complete (args_of (slice_get (edges_at f i) k))
    by b has i k leads to false other = has.edges i k leads to
    by b has i k leads to true here =
        let at : b ≡ block = eqb-true b block (sym (ap (λ (o : Option ℕ). leads_at o block) to) ∙ here) in
        subst (λ (complete : List ℕ). EdgePasses f (args_of (slice_get (edges_at f i) k)) complete (args_of (slice_get (edges_at f i) k)))
        (sym (none_complete own f s [] b has (ap (λ (n : ℕ). is_yes (sealed_of s n)) at ∙ unsealed)))
        (record { values = []; in_order = sym (append_none (args_of (slice_get (edges_at f i) k))); are_for = tt })

-- what stands in front of a list in which each number stands once doesn't stand behind
not_again : (n : ℕ) (numbers : List ℕ) (i : ℕ) → Once (n ∷ numbers) → n ≡ i → stands_in i numbers ≡ false
not_again n numbers i once same = by (stands_in i numbers) refl
  where
    by : (test : Bool) → stands_in i numbers ≡ test → test ≡ false
    by true there = absurd (once_first n numbers i once (contained i numbers (Stands-from_test i numbers there)) same)
    by false out = refl

-- NAMES AND NUMBERS -----------------------------------------------------------------------------------------------------

-- The names of branches and their numbers, where one of them is this branch's.
module _ (calls : List AnsweredCall) (branch : Name) (i : ℕ) (numbered : number_of calls branch ≡ Some i)
    (only : (name : Name) → IsInstruction calls name → number_of calls name ≡ Some i → branch ≡ name) where
  abbrev numbers_are : List Name → List ℕ → Type 0
  numbers_are names numbers = map (number_of calls) names ≡ map Some numbers

  same_test : (name : Name) (n : ℕ) → IsInstruction calls name → number_of calls name ≡ Some n → same_name branch name ≡ (n == i)
  same_test name n built is =
      by-number branch name n i (λ same. only name built (is ∙ ap Some same)) (λ same. same_Some n i (sym is ∙ ap (number_of calls) (sym same) ∙ numbered))

  -- the branch is among the names exactly where its number is among the numbers
  pub heard : (names : List Name) (numbers : List ℕ) → AllByRecursion (IsInstruction calls) names → numbers_are names numbers → list_any (same_name branch) names ≡ stands_in i numbers
  heard [] [] built are = refl
  heard [] (n ∷ numbers) built are = let no_way : ⊥ = cc in absurd no_way
  heard (name ∷ names) [] built are = let no_way : ⊥ = cc in absurd no_way
  heard (name ∷ names) (n ∷ numbers) built are =
      let first : number_of calls name ≡ Some n = cc in
      let rest : numbers_are names numbers = cc in
      let here : same_name branch name ≡ (n == i) = same_test name n built.0 first in
      let later : list_any (same_name branch) names ≡ stands_in i numbers = heard names numbers built.1 rest in
      cc

  pushed : (names : List Name) (numbers : List ℕ) → numbers_are names numbers → numbers_are (names ++ branch ∷ []) (numbers ++ i ∷ [])
  pushed [] [] are = ap (λ (o : Option ℕ). o ∷ []) numbered
  pushed [] (n ∷ numbers) are = let no_way : ⊥ = cc in absurd no_way
  pushed (name ∷ names) [] are = let no_way : ⊥ = cc in absurd no_way
  pushed (name ∷ names) (n ∷ numbers) are =
      let first : number_of calls name ≡ Some n = cc in
      let rest : numbers_are names numbers = cc in
      let later : numbers_are (names ++ branch ∷ []) (numbers ++ i ∷ []) = pushed names numbers rest in
      cc

  -- with it, once,
  led_numbers : (s : BlockState) (numbers : List ℕ) → AllByRecursion (IsInstruction calls) s.predecessors → numbers_are s.predecessors numbers
      → numbers_are (led_by branch s).predecessors (with_once i numbers)
  led_numbers s numbers built are = by (list_any (same_name branch) s.predecessors) (stands_in i numbers) (heard s.predecessors numbers built are)
    where
      by : (named there : Bool) → named ≡ there
          → numbers_are (if named then s else record s { predecessors = s.predecessors ++ branch ∷ [] }).predecessors (if there then numbers else numbers ++ i ∷ [])
      by true true same = are
      by true false same = let no_way : ⊥ = cc in absurd no_way
      by false true same = let no_way : ⊥ = cc in absurd no_way
      by false false same = pushed s.predecessors numbers are

  none_left : (names : List Name) → list_any (same_name branch) names ≡ false → filter (λ other. not (same_name branch other)) names ≡ names
  none_left [] out = refl
  none_left (name ∷ names) out = by (same_name branch name) out (none_left names)
    where
      others : List Name
      others = filter (λ other. not (same_name branch other)) names

      by : (test : Bool) → (test || list_any (same_name branch) names) ≡ false → (list_any (same_name branch) names ≡ false → others ≡ names)
          → cond (not test) (name ∷ others) others ≡ name ∷ names
      by true out rest = let no_way : ⊥ = cc in absurd no_way
      by false out rest = ap (λ (xs : List Name). name ∷ xs) (rest out)

  -- and without it
  left_numbers : (names : List Name) (numbers : List ℕ) → AllByRecursion (IsInstruction calls) names → Once numbers → numbers_are names numbers
      → numbers_are (filter (λ other. not (same_name branch other)) names) (without i numbers)
  left_numbers [] [] built once are = refl
  left_numbers [] (n ∷ numbers) built once are = let no_way : ⊥ = cc in absurd no_way
  left_numbers (name ∷ names) [] built once are = let no_way : ⊥ = cc in absurd no_way
  left_numbers (name ∷ names) (n ∷ numbers) built once are =
      let first : number_of calls name ≡ Some n = cc in
      let rest : numbers_are names numbers = cc in
      by (same_name branch name) (n == i) (same_test name n built.0 first) refl first rest (left_numbers names numbers built.1 (Once-tail n numbers once) rest)
    where
      others : List Name
      others = filter (λ other. not (same_name branch other)) names

      by : (named there : Bool) → named ≡ there → (n == i) ≡ there → number_of calls name ≡ Some n → numbers_are names numbers → numbers_are others (without i numbers)
          → numbers_are (cond (not named) (name ∷ others) others) (if there then numbers else n ∷ without i numbers)
      by true true same here first rest later =
          let out : stands_in i numbers ≡ false = not_again n numbers i once (eqb-true n i here) in
          ap (map (number_of calls)) (none_left names (heard names numbers built.1 rest ∙ out)) ∙ rest
      by true false same here first rest later = let no_way : ⊥ = cc in absurd no_way
      by false true same here first rest later = let no_way : ⊥ = cc in absurd no_way
      by false false same here first rest later = cc

-- THE PARTS OF A BUILDER ------------------------------------------------------------------------------------------------

module _ (f : Body) (c : ContextState) (g : Body) (d : ContextState) (i a b : ℕ) (redirects : Redirects f c g d i a b) (within : i < length f.insts)
    (open_a : is_yes (sealed_of c.ssa a) ≡ false) (open_b : is_yes (sealed_of c.ssa b) ≡ false) (leads : Stands i (predecessors_of c.ssa a)) where
  on_new : (P : Body → Type 0) → P f → P (with_branch_target f i a b) → P g
  on_new P one two =
      elim (cases_eq a b) [
        | inl same ↦ subst P (sym (redirects.moved.function ∙ if_true a b _ _ same)) one
        | inr apart ↦ subst P (sym (redirects.moved.function ∙ if_false a b _ _ apart)) two
      ]

  moved_insts : (j : ℕ) (node : InstNode) → slice_get f.insts j ≡ Some node → KeepsInst (with_branch_target f i a b) j node
  moved_insts j node there =
      let moving = moves f i a b within in
      let inside : j < length f.insts = slice_get_within f.insts j node there in
      let at : inst_at f j ≡ node = get_or_from_slice_get f.insts j node no_inst there in
      record {
        kept = inst_at (with_branch_target f i a b) j;
        there = slice_get-get_or (with_branch_target f i a b).insts j no_inst (omega (arith, inside, moving.count));
        results = moving.results j ∙ ap (λ (n : InstNode). n.results) at;
        block = moving.block j ∙ ap (λ (n : InstNode). n.block) at;
      }

  pub redirected_extends : Extends f g
  redirected_extends =
      on_new (Extends f) (Extends-same f f refl)
      (record { parameters = λ v is. is; values = λ v ty is. is; insts = moved_insts; block_count = refl; cold = λ x. refl; tables = refl })

  same_layout : g.layout ≡ f.layout
  same_layout = on_new (λ h. h.layout ≡ f.layout) refl refl

  same_signature : g.signature ≡ f.signature
  same_signature = on_new (λ h. h.signature ≡ f.signature) refl refl

  same_params : (e : ℕ) → (block_at g e).params ≡ (block_at f e).params
  same_params e = on_new (λ h. (block_at h e).params ≡ (block_at f e).params) refl refl

  same_block : (j : ℕ) → branch_block g j ≡ branch_block f j
  same_block j = on_new (λ h. branch_block h j ≡ branch_block f j) refl ((moves f i a b within).block j)

  status_at : (e : ℕ) → status_of d e ≡ status_of c e
  status_at e = ap (λ (statuses : List BlockStatus). status_of (record c { status = statuses }) e) redirects.status

  sealed_at : (e : ℕ) → is_yes (sealed_of d.ssa e) ≡ is_yes (sealed_of c.ssa e)
  sealed_at e = ap is_yes (redirects.moved.blocks e)

  begun_still : (e : ℕ) → IsBegun f c e → IsBegun g d e
  begun_still e was = record { inserted = ap (stands_in e) same_layout ∙ was.inserted; begun = λ empty. was.begun (sym (status_at e) ∙ empty) }

  ended_still : (e : ℕ) → IsEnded f c e → IsEnded g d e
  ended_still e was = record { inserted = ap (stands_in e) same_layout ∙ was.inserted; filled = status_at e ∙ was.filled }

  led_there : (e j : ℕ) → Contains (predecessors_of d.ssa e) j → Contains (predecessors_of c.ssa e) j ⊎ ((e ≡ b) × (j ≡ i))
  led_there e j there =
      elim (cases_eq a b) [
        | inl same ↦ inl (subst (λ (xs : List ℕ). Contains xs j) (redirects.moved.leads e ∙ if_true a b _ _ same) there)
        | inr apart ↦
            led_before c.ssa d.ssa i a b (leads_moved c.ssa d.ssa i a b apart (λ n. redirects.moved.leads n ∙ if_false a b _ _ apart)) e j there
      ]

  -- other blocks
  led_elsewhere : (e : ℕ) → e ≢ a → e ≢ b → predecessors_of d.ssa e ≡ predecessors_of c.ssa e
  led_elsewhere e not_a not_b =
      redirects.moved.leads e
      ∙ elim (cases_eq a b) [
        | inl same ↦ if_true a b (predecessors_of c.ssa e) (moved_leads i a b e (predecessors_of c.ssa e)) same
        | inr apart ↦
            if_false a b (predecessors_of c.ssa e) (moved_leads i a b e (predecessors_of c.ssa e)) apart
            ∙ if_false e a (without i (predecessors_of c.ssa e)) (if e == b then with_once i (predecessors_of c.ssa e) else predecessors_of c.ssa e) not_a
            ∙ if_false e b (with_once i (predecessors_of c.ssa e)) (predecessors_of c.ssa e) not_b
      ]

  below : (x n : ℕ) → (x < n) ⊎ (n ≤ x)
  below x n = grind arith

  none_stands : (xs : List ℕ) → xs ≡ [] → Stands i xs → ⊥
  none_stands [] none stands = absurd (omega (arith, stands.1))
  none_stands (x ∷ xs) none stands = let no_way : ⊥ = cc in no_way

  structured_still : (own : Own) → IsConsistent f → (types : VariableTypes) → Structured types own f c.ssa [] → Structured types (own_passing own f b) g d.ssa []
  structured_still own consistent types before =
      branch_structured f g c.ssa d.ssa i a b redirects.moved redirects.records within open_a open_b leads types (own_passing own f b) consistent
      (λ k to. passes_now own f b i k to) (structured_passing types own f c.ssa b open_b before)

  pub order_redirected : IsConsistent f → b < length f.blocks → IsInOrder f c → IsInOrder g d
  order_redirected consistent exists order = record {
    own = own_passing order.own f b;
    structured = λ types are.
        structured_still order.own consistent types (order.structured types (are_types c d types redirects.variables are));
    callers_alone = λ e. elim (order.callers_alone e) [
      | inl alone ↦ inl (same_params e ∙ alone)
      | inr begun ↦ inr (begun_still e begun)
    ];
    branches = λ e j there.
        subst (IsEnded g d) (sym (same_block j))
        (ended_still (branch_block f j)
        (elim (led_there e j there) [
          | inl old ↦ order.branches e j old
          | inr new ↦ order.branches a j (subst (λ (n : ℕ). Contains (predecessors_of c.ssa a) n) (sym new.1) (contained i (predecessors_of c.ssa a) leads))
        ]));
    fresh = λ k above.
        let past : length f.blocks ≤ k = omega (arith, above, redirected_extends.block_count) in
        let other : k ≢ b = omega (arith, past, exists) in
        let not_a : k ≢ a = λ same. none_stands (predecessors_of c.ssa a) (ap (predecessors_of c.ssa) (sym same) ∙ (order.fresh k past).2) leads in
        (sealed_at k ∙ (order.fresh k past).0, status_at k ∙ (order.fresh k past).1, led_elsewhere k not_a other ∙ (order.fresh k past).2);
  }

-- THE LEDGER ------------------------------------------------------------------------------------------------------------

-- a state that differs in its predecessors alone
record SameBut (s t : BlockState) : Type 0 where
  block : t.block ≡ s.block
  parameters : t.parameters ≡ s.parameters
  is_pristine : t.is_pristine ≡ s.is_pristine
  is_filled : t.is_filled ≡ s.is_filled
  is_sealed : t.is_sealed ≡ s.is_sealed
  is_cold : t.is_cold ≡ s.is_cold

nothing_else : (branch from to : Name) (s : BlockState) → SameBut s (redirected_state branch from to s)
nothing_else branch from to s = by (same_name from to) (same_name s.block from) (same_name s.block to) (list_any (same_name branch) s.predecessors)
  where
    same : SameBut s s
    same = record { block = refl; parameters = refl; is_pristine = refl; is_filled = refl; is_sealed = refl; is_cold = refl }

    by : (one at_from at_to there : Bool)
        → SameBut s (if one then s
        else (if at_from then left_by branch s else (if at_to then (if there then s else record s { predecessors = s.predecessors ++ branch ∷ [] }) else s)))
    by true at_from at_to there = same
    by false true at_to there = record { block = refl; parameters = refl; is_pristine = refl; is_filled = refl; is_sealed = refl; is_cold = refl }
    by false false true true = same
    by false false true false = record { block = refl; parameters = refl; is_pristine = refl; is_filled = refl; is_sealed = refl; is_cold = refl }
    by false false false there = same

instruction_is : (o : Option Answered) → IsTrue (is_instruction_answer o) → o ≡ Some AnInstruction
instruction_is None is = let no_way : ⊥ = cc in absurd no_way
instruction_is (Some AnInstruction) is = refl
instruction_is (Some ABlock) is = let no_way : ⊥ = cc in absurd no_way
instruction_is (Some (AVariable variable)) is = let no_way : ⊥ = cc in absurd no_way
instruction_is (Some (AValue ty)) is = let no_way : ⊥ = cc in absurd no_way
instruction_is (Some (AnEntry entry number)) is = let no_way : ⊥ = cc in absurd no_way
instruction_is (Some (AnEdge edge)) is = let no_way : ⊥ = cc in absurd no_way
instruction_is (Some (AJumpTable number)) is = let no_way : ⊥ = cc in absurd no_way
instruction_is (Some (AnExceptionTable number)) is = let no_way : ⊥ = cc in absurd no_way

-- the predecessors of a block are instructions
built_in : (calls : List AnsweredCall) (many : List BlockState) (k : ℕ) (s : BlockState) → AllByRecursion (λ (state : BlockState). AllByRecursion (IsInstruction calls) state.predecessors) many
    → slice_get many k ≡ Some s → AllByRecursion (IsInstruction calls) s.predecessors
built_in calls [] k s all there = absurd (none-some s there)
built_in calls (t ∷ many) zero s all there = subst (λ (u : BlockState). AllByRecursion (IsInstruction calls) u.predecessors) (same_Some t s there) all.0
built_in calls (t ∷ many) (suc k) s all there = built_in calls many k s all.1 there

-- no other name was answered by the branch
only_one : {declared : SignatureShape} (calls : List AnsweredCall) (f : Body) (c : ContextState) (p : Option ℕ) → StandsIn declared calls f c p
    → (branch : Name) (i : ℕ) → NamesInstruction calls branch i → (name : Name) → IsInstruction calls name → number_of calls name ≡ Some i → branch ≡ name
only_one calls f c p stands branch i names name built is =
    stands.carries.holds.instructions.differ branch name (instruction_is (answer_at (ledger_of calls) branch) names.is_instruction) built
    (ap number_or_none (names.number ∙ sym is))

-- a branch leads to a block by their names exactly where it does by their numbers
pub leads_by_number : {declared : SignatureShape} (calls : List AnsweredCall) (f : Body) (c : ContextState) (p : Option ℕ) → StandsIn declared calls f c p
    → (branch block : Name) (i k : ℕ) → NamesInstruction calls branch i → NamesBlock calls block k
    → leads_to (ledger_of calls) branch block ≡ stands_in i (predecessors_of c.ssa k)
leads_by_number calls f c p stands branch block i k names_branch names_block =
    ap (state_has (λ (state : BlockState). list_any (same_name branch) state.predecessors)) state.3
    ∙ heard calls branch i names_branch.number (only_one calls f c p stands branch i names_branch) state.0.predecessors (predecessors_of c.ssa k)
    (built_in calls (ledger_of calls).blocks k state.0 stands.leads_built state.1) (stands.ledger.blocks k state.0 state.1).predecessors
  where
    numbered : IsNumbered calls (ledger_of calls)
    numbered = name-number calls (ledger_of calls) f c p stands.ledger

    state : (s : BlockState) × (slice_get (ledger_of calls).blocks k ≡ Some s) × (s.block ≡ block) × (block_state (ledger_of calls) block ≡ Some s)
    state = state-by-name calls (ledger_of calls) numbered k block (named-block calls numbered block k names_block)

module _ (declared : SignatureShape) (calls : List AnsweredCall) (f : Body) (c : ContextState) (g : Body) (d : ContextState) (p : Option ℕ) (stands : StandsIn declared calls f c p)
    (branch from to : Name) (i a b : ℕ) (names_branch : NamesInstruction calls branch i) (names_from : NamesBlock calls from a) (names_to : NamesBlock calls to b)
    (consistent : IsConsistent f) (redirects : Redirects f c g d i a b) (within : i < length f.insts)
    (open_a : is_yes (sealed_of c.ssa a) ≡ false) (open_b : is_yes (sealed_of c.ssa b) ≡ false) (leads : Stands i (predecessors_of c.ssa a)) where
  abbrev call : AnsweredCall
  call = record { request = ChangeJumpDestination branch from to; numbers = [] }

  abbrev after : List AnsweredCall
  after = calls ++ call ∷ []

  abbrev old : Ledger
  old = ledger_of calls

  abbrev new : Ledger
  new = ledger_with old (ChangeJumpDestination branch from to)

  agrees : LedgerAgrees calls old f c p
  agrees = stands.ledger

  numbered : IsNumbered calls old
  numbered = name-number calls old f c p agrees

  from_named : block_name old a ≡ Some from
  from_named = named-block calls numbered from a names_from

  to_named : block_name old b ≡ Some to
  to_named = named-block calls numbered to b names_to

  is_branch : IsInstruction calls branch
  is_branch = instruction_is (answer_at old branch) names_branch.is_instruction

  only : (name : Name) → IsInstruction calls name → number_of calls name ≡ Some i → branch ≡ name
  only = only_one calls f c p stands branch i names_branch

  states : (k : ℕ) (t : BlockState) → slice_get new.blocks k ≡ Some t → (s : BlockState) × (slice_get old.blocks k ≡ Some s) × (redirected_state branch from to s ≡ t)
  states k t there = map-some (redirected_state branch from to) (slice_get old.blocks k) t (sym (slice_get-map (redirected_state branch from to) old.blocks k) ∙ there)

  same_names : (k : ℕ) → block_name new k ≡ block_name old k
  same_names k =
      ap (option_map (λ (s : BlockState). s.block)) (slice_get-map (redirected_state branch from to) old.blocks k) ∙ by (slice_get old.blocks k)
    where
      by : (o : Option BlockState) → option_map (λ (s : BlockState). s.block) (option_map (redirected_state branch from to) o) ≡ option_map (λ (s : BlockState). s.block) o
      by None = refl
      by (Some s) = ap (λ (name : Name). Some name) (nothing_else branch from to s).block

  still_named : (k : ℕ) (x : Name) → block_name old k ≡ Some x → block_name new k ≡ Some x
  still_named k x is = same_names k ∙ is

  predecessors_agree : (k : ℕ) (s : BlockState) → slice_get old.blocks k ≡ Some s → BlockAgrees calls f c k s
      → map (number_of calls) (redirected_state branch from to s).predecessors ≡ map Some (predecessors_of d.ssa k)
  predecessors_agree k s there was =
      by (same_name from to) (same_name s.block from) (same_name s.block to)
      ∙ ap (λ (t : Bool). map Some (tests t (same_name s.block from) (same_name s.block to))) one
      ∙ ap (λ (t : Bool). map Some (tests (a == b) t (same_name s.block to))) at_from
      ∙ ap (λ (t : Bool). map Some (tests (a == b) (k == a) t)) at_to
      ∙ ap (map Some) (sym (redirects.moved.leads k))
    where
      xs : List ℕ
      xs = predecessors_of c.ssa k

      tests : Bool → Bool → Bool → List ℕ
      tests x y z = if x then xs else (if y then without i xs else (if z then with_once i xs else xs))

      named : block_name old k ≡ Some s.block
      named = ap (option_map (λ (t : BlockState). t.block)) there

      one : same_name from to ≡ (a == b)
      one = same-block calls old numbered a b from to from_named to_named

      at_from : same_name s.block from ≡ (k == a)
      at_from = same-block calls old numbered k a s.block from named from_named

      at_to : same_name s.block to ≡ (k == b)
      at_to = same-block calls old numbered k b s.block to named to_named

      built : AllByRecursion (IsInstruction calls) s.predecessors
      built = built_in calls old.blocks k s stands.leads_built there

      once : Once xs
      once = (structured_so_far calls f c.ssa stands.carries).leading_once k

      by : (x y z : Bool) → map (number_of calls) (if x then s else (if y then left_by branch s else (if z then led_by branch s else s))).predecessors ≡ map Some (tests x y z)
      by true y z = was.predecessors
      by false true z = left_numbers calls branch i names_branch.number only s.predecessors xs built once was.predecessors
      by false false true = led_numbers calls branch i names_branch.number only s xs built was.predecessors
      by false false false = was.predecessors

  block_agrees : (k : ℕ) (s : BlockState) → slice_get old.blocks k ≡ Some s → BlockAgrees calls f c k s → BlockAgrees after g d k (redirected_state branch from to s)
  block_agrees k s there was =
      let same = nothing_else branch from to s in
      record {
        number = ap (number_of after) same.block ∙ earlier.kept calls call s.block k was.number;
        is_sealed = same.is_sealed ∙ was.is_sealed ∙ sym (sealed_at f c g d i a b redirects within open_a open_b leads k);
        is_pristine = same.is_pristine ∙ was.is_pristine ∙ ap is_empty_status (sym (status_at f c g d i a b redirects within open_a open_b leads k));
        is_filled = same.is_filled ∙ was.is_filled ∙ ap is_filled_status (sym (status_at f c g d i a b redirects within open_a open_b leads k));
        is_cold = same.is_cold ∙ was.is_cold ∙ sym (extends.cold k);
        predecessors = numbers-kept calls call (redirected_state branch from to s).predecessors (predecessors_of d.ssa k) (predecessors_agree k s there was);
      }
    where
      extends : Extends f g
      extends = redirected_extends f c g d i a b redirects within open_a open_b leads

  exists : b < length f.blocks
  exists = block-exists calls old f c p agrees b to to_named

  order : IsInOrder g d
  order = order_redirected f c g d i a b redirects within open_a open_b leads consistent exists (in_order agrees)

  as_many : (many : List BlockState) → length (map (redirected_state branch from to) many) ≡ length many
  as_many [] = refl
  as_many (s ∷ many) = ap suc (as_many many)

  agrees_redirected : LedgerAgrees after new g d p
  agrees_redirected = record {
    places = places-after calls call old new [] agrees.places refl;
    answers = answers-after calls call old new f g c p [] agrees refl still_named (keeps-of f g extends) (answers-none new g (length calls));
    block_count = as_many old.blocks ∙ agrees.block_count ∙ sym extends.block_count;
    blocks = λ k t there.
        let entry = states k t there in
        subst (λ (s : BlockState). BlockAgrees after g d k s) entry.2 (block_agrees k entry.0 entry.1 (agrees.blocks k entry.0 entry.1));
    block_answers = λ k x is. answer-still old new [] x ABlock refl (agrees.block_answers k x (sym (same_names k) ∙ is));
    current = one-named-more (block_name old) (block_name new) old.current p still_named agrees.current;
    layout = named-more (block_name old) (block_name new) old.layout f.layout still_named agrees.layout
        ∙ ap (map (block_name new)) (sym (same_layout f c g d i a b redirects within open_a open_b leads));
    variables = agree_same old.variables c d redirects.variables agrees.variables;
    tables = agrees.tables ∙ sym extends.tables;
    tracks =
        tracks_on calls _ f.values c g.values d tt
        (keeps_same f.values g.values c d extends.parameters (λ x k. ap (λ (m : RecordMap). record_at m x k) redirects.records) redirects.tracking) agrees.tracks;
    counts =
        counts_on calls call f c g d (spends_redirected f c g d i a b redirects.moved
        (leaves_records c d redirects.variables.0 (λ x k. ap (λ (m : RecordMap). record_at m x k) redirects.records) redirects.moved.blocks))
        agrees.counts;
    own = own_passing agrees.own f b;
    structured = λ types are.
        structured_still f c g d i a b redirects within open_a open_b leads agrees.own consistent types
        (agrees.structured types (are_types c d types redirects.variables are));
    callers_types = λ k t there.
        let entry = states k t there in
        types-kept f g (keeps-of f g extends) (agrees.own.params k) entry.0.parameters (agrees.callers_types k entry.0 entry.1)
        ∙ ap (map Some) (sym (nothing_else branch from to entry.0).parameters ∙ ap (λ (s : BlockState). s.parameters) entry.2);
    callers_alone = λ e. elim (agrees.callers_alone e) [
      | inl alone ↦ inl (same_params f c g d i a b redirects within open_a open_b leads e ∙ alone)
      | inr begun ↦ inr (begun_still f c g d i a b redirects within open_a open_b leads e begun)
    ];
    branches = order.branches;
    fresh = order.fresh;
  }
    where
      extends : Extends f g
      extends = redirected_extends f c g d i a b redirects within open_a open_b leads

  is_answered : (name : Name) (number : ℕ) → number_of calls name ≡ Some number → number ≡ answered calls name
  is_answered name number is = sym (ap number_or_none is)

  simulated : (k : ℕ) (name : Name) → block_name old k ≡ Some name → simulation.block_name calls k ≡ Some name
  simulated k name is = slice_get-map (λ (s : BlockState). s.block) old.blocks k ∙ is

  -- the numbers are those that answered
  abbrev By : ℕ → ℕ → ℕ → Type 0
  By x y z = MovesBranch f c.ssa g d.ssa x y z

  pub stands_redirected : StandsIn declared after g d p
  stands_redirected = record {
    signature = same_signature f c g d i a b redirects within open_a open_b leads ∙ stands.signature;
    ledger = concluded calls call g d p agrees_redirected;
    carries = carries_redirected calls f g c.ssa d.ssa consistent stands.carries branch from to may redirects.records by_names redirects.tracking;
    leads_built = leads_on calls call is_branch stands.leads_built;
    begun = λ e there empty.
        stands.begun e (ap (λ (layout : List ℕ). slice_get layout 0) (sym (same_layout f c g d i a b redirects within open_a open_b leads)) ∙ there)
        (sym (status_at f c g d i a b redirects within open_a open_b leads e) ∙ empty);
    callers_alone = λ e.
        alone_after calls call f g c d stands.carries.own stands.carries.holds.parameters (same_callers calls call f c.ssa stands.carries tt tt) e
        (kept_alone stands.carries.own f g c d e (same_params f c g d i a b redirects within open_a open_b leads e)
        (begun_still f c g d i a b redirects within open_a open_b leads e))
        (stands.callers_alone e);
  }
    where
      of_i : i ≡ answered calls branch
      of_i = is_answered branch i names_branch.number

      of_a : a ≡ answered calls from
      of_a = is_answered from a names_from.number

      of_b : b ≡ answered calls to
      of_b = is_answered to b names_to.number

      may : MayRedirect calls c.ssa branch from to
      may = record {
        is_branch = is_branch;
        from_named = ap (simulation.block_name calls) (sym of_a) ∙ simulated a from from_named;
        to_named = ap (simulation.block_name calls) (sym of_b) ∙ simulated b to to_named;
        from_open = ap (λ (n : ℕ). is_yes (sealed_of c.ssa n)) (sym of_a) ∙ open_a;
        to_open = ap (λ (n : ℕ). is_yes (sealed_of c.ssa n)) (sym of_b) ∙ open_b;
        leads = subst (λ (n : ℕ). Stands n (predecessors_of c.ssa (answered calls from))) of_i (subst (λ (n : ℕ). Stands i (predecessors_of c.ssa n)) of_a leads);
      }

      by_names : By (answered calls branch) (answered calls from) (answered calls to)
      by_names = subst (λ (n : ℕ). By n (answered calls from) (answered calls to)) of_i (subst (λ (n : ℕ). By i n (answered calls to)) of_a (subst (λ (n : ℕ). By i a n) of_b redirects.moved))

-- what comes of the call
pub redirected_stands : {E : Type 0} (declared : SignatureShape) (calls : List AnsweredCall) (f g : Body) (c d : ContextState) (p : Option ℕ) (branch from to : Name) (i a b : ℕ)
    (r : Result (Unit {0}) E) → StandsIn declared calls f c p → NamesInstruction calls branch i → NamesBlock calls from a → NamesBlock calls to b → IsConsistent f
    → OnOk r (Redirects f c g d i a b) → i < length f.insts → is_yes (sealed_of c.ssa a) ≡ false → is_yes (sealed_of c.ssa b) ≡ false → Stands i (predecessors_of c.ssa a)
    → OnOk r (StandsIn declared (calls ++ record { request = ChangeJumpDestination branch from to; numbers = [] } ∷ []) g d p)
redirected_stands declared calls f g c d p branch from to i a b (Err e) stands names_branch names_from names_to consistent redirects within open_a open_b leads = tt
redirected_stands declared calls f g c d p branch from to i a b (Ok u) stands names_branch names_from names_to consistent redirects within open_a open_b leads =
    stands_redirected declared calls f c g d p stands branch from to i a b names_branch names_from names_to consistent redirects within open_a open_b leads

-- WHAT ELSE A CALLER READS ----------------------------------------------------------------------------------------------

moved_grows : (f : Body) (i a b : ℕ) → i < length f.insts → Grows f (with_branch_target f i a b)
moved_grows f i a b within =
    let count : length (with_branch_target f i a b).insts ≡ length f.insts = (moves f i a b within).count in
    (omega arith, omega (arith, count), omega arith, refl, refl, omega arith, refl, (λ entry exists. exists), refl)

module _ {E : Type 0} (r : Result (Unit {0}) E) (f : Body) (c : ContextState) (g : Body) (d : ContextState) (i a b : ℕ) (within : i < length f.insts) where
  on_either : (P : Body → Type 0) → P f → P (with_branch_target f i a b) → OnOk r (Redirects f c g d i a b) → OnOk r (P g)
  on_either P one two redirects = on_ok_step r _ _ by redirects
    where
      by : Redirects f c g d i a b → P g
      by done =
          elim (cases_eq a b) [
            | inl same ↦ subst P (sym (done.moved.function ∙ if_true a b _ _ same)) one
            | inr apart ↦ subst P (sym (done.moved.function ∙ if_false a b _ _ apart)) two
          ]

  pub redirected_grows : OnOk r (Redirects f c g d i a b) → OnOk r (Grows f g)
  redirected_grows = on_either (Grows f) (Grows-same f f refl) (moved_grows f i a b within)

  pub redirected_types : OnOk r (Redirects f c g d i a b) → OnOk r (TypesStay f g)
  redirected_types = on_either (TypesStay f) (λ v inside. refl) (λ v inside. refl)

  redirected_alike : OnOk r (Redirects f c g d i a b) → OnOk r (StayAlike f g)
  redirected_alike = on_either (StayAlike f) (λ u v same. same) (λ u v same. same)

  pub redirected_remembers : (x block : ℕ) → OnOk r (Redirects f c g d i a b) → OnOk r (Remembers x block f c.ssa g d.ssa)
  redirected_remembers x block redirects = both r redirects (redirected_alike redirects)
    where
      both : (r : Result (Unit {0}) E) → OnOk r (Redirects f c g d i a b) → OnOk r (StayAlike f g) → OnOk r (Remembers x block f c.ssa g d.ssa)
      both (Err e) done alike = tt
      both (Ok u) done alike = record { recorded = λ v is. ap (λ (m : RecordMap). record_at m x block) done.records ∙ is; alike = alike }

pub redirects_from : {E : Type 0} (r : Result (Unit {0}) E) (f : Body) (c : ContextState) (g : Body) (d : ContextState) (i a b : ℕ) → OnOk r (MovesBranch f c.ssa g d.ssa i a b)
    → d.ssa.records ≡ c.ssa.records → d.ssa.tracking ≡ c.ssa.tracking → d.status ≡ c.status → SameVariables c d → OnOk r (Redirects f c g d i a b)
redirects_from r f c g d i a b moved records tracking status variables =
    on_ok_step r _ _ (λ (done : MovesBranch f c.ssa g d.ssa i a b). record { moved = done; records = records; tracking = tracking; status = status; variables = variables }) moved

pub order_after : {E : Type 0} (r : Result (Unit {0}) E) (f : Body) (c : ContextState) (g : Body) (d : ContextState) (i a b : ℕ) → OnOk r (Redirects f c g d i a b) → i < length f.insts
    → is_yes (sealed_of c.ssa a) ≡ false → is_yes (sealed_of c.ssa b) ≡ false → Stands i (predecessors_of c.ssa a) → IsConsistent f → b < length f.blocks
    → IsInOrder f c → OnOk r (IsInOrder g d)
order_after (Err e) f c g d i a b redirects within open_a open_b leads consistent exists order = tt
order_after (Ok u) f c g d i a b redirects within open_a open_b leads consistent exists order =
    order_redirected f c g d i a b redirects within open_a open_b leads consistent exists order

-- what the construction names exists still
pub names_redirected : {E : Type 0} (r : Result (Unit {0}) E) (f g : Body) (s t : SsaState) (i a b : ℕ) → i < length f.insts → OnOk r (MovesBranch f s g t i a b)
    → OnErr r ((g ≡ f) × SamePredecessors s t) → t.records ≡ s.records → SameBlocks s t → NamesExist f s → NamesExist g t
names_redirected {E} r f g s t i a b within moved kept records same named = record {
  recorded = λ x e v is. let below = named.recorded x e v (sym (ap (λ (m : RecordMap). record_at m x e) records) ∙ is) in let count = (counts r moved kept).0 in omega (arith, below, count);
  leading = λ e j there. let below = led r moved kept e j there in let count = (counts r moved kept).1 in omega (arith, below, count);
  waiting = λ e p there.
      let below = named.waiting e p (subst (λ (sealed : Sealed). Contains (pending_of sealed) p) (same e) there) in let count = (counts r moved kept).0 in omega (arith, below, count);
}
  where
    counts : (r : Result (Unit {0}) E) → OnOk r (MovesBranch f s g t i a b) → OnErr r ((g ≡ f) × SamePredecessors s t)
        → (length g.values ≡ length f.values) × (length g.insts ≡ length f.insts)
    counts (Ok u) moved kept =
        elim (cases_eq a b) [
          | inl same ↦ subst (λ (h : Body). (length h.values ≡ length f.values) × (length h.insts ≡ length f.insts)) (sym (moved.function ∙ if_true a b _ _ same)) (refl, refl)
          | inr apart ↦
              subst (λ (h : Body). (length h.values ≡ length f.values) × (length h.insts ≡ length f.insts)) (sym (moved.function ∙ if_false a b _ _ apart))
              (refl, (moves f i a b within).count)
        ]
    counts (Err e) moved kept = subst (λ (h : Body). (length h.values ≡ length f.values) × (length h.insts ≡ length f.insts)) (sym kept.0) (refl, refl)

    led : (r : Result (Unit {0}) E) → OnOk r (MovesBranch f s g t i a b) → OnErr r ((g ≡ f) × SamePredecessors s t)
        → (e j : ℕ) → Contains (predecessors_of t e) j → j < length f.insts
    led (Err error) moved kept e j there = named.leading e j (subst (λ (xs : List ℕ). Contains xs j) (kept.1 e) there)
    led (Ok u) moved kept e j there =
        elim (cases_eq a b) [
          | inl same ↦ named.leading e j (subst (λ (xs : List ℕ). Contains xs j) (moved.leads e ∙ if_true a b _ _ same) there)
          | inr apart ↦
              elim (led_before s t i a b (leads_moved s t i a b apart (λ n. moved.leads n ∙ if_false a b _ _ apart)) e j there) [
                | inl old ↦ named.leading e j old
                | inr new ↦ subst (λ (n : ℕ). n < length f.insts) (sym new.1) within
              ]
        ]

-- there is still a current block
pub redirected_current : {E : Type 0} (r : Result (Unit {0}) E) (p : Option ℕ) (f : Body) (c : ContextState) (g : Body) (d : ContextState) (i a b : ℕ) → i < length f.insts
    → OnOk r (Redirects f c g d i a b) → (block : ℕ) × (p ≡ Some block) × (block < length f.blocks) × (status_of c block ≢ Filled)
    → OnOk r ((block : ℕ) × (p ≡ Some block) × (block < length g.blocks) × (status_of d block ≢ Filled))
redirected_current {E} r p f c g d i a b within redirects current =
    by r redirects (redirected_grows r f c g d i a b within redirects)
  where
    by : (r : Result (Unit {0}) E) → OnOk r (Redirects f c g d i a b) → OnOk r (Grows f g)
        → OnOk r ((block : ℕ) × (p ≡ Some block) × (block < length g.blocks) × (status_of d block ≢ Filled))
    by (Err e) done grows = tt
    by (Ok u) done grows = (
      current.0,
      current.1,
      omega (arith, current.2, grows.2),
      λ filled. current.3 (sym (ap (λ (statuses : List BlockStatus). status_of (record c { status = statuses }) current.0) done.status) ∙ filled),
    )
