-- A branch leads to one block in place of another one, both unsealed: the function carries the call.
use Rattle.std.proofs.Common.{◌≡◌, ◌≢◌, ◌⊎◌, inl, inr, ◌<◌, ℕ, zero, suc, Bool, true, false, List, [], ◌∷◌, ◌++◌, length, map, refl, sym, ◌∙◌, ap, subst, arith, Option, Some, None}
use Rattle.std.specs.Prelude.{Contains, IsTrue, flat_map, if◌then◌else◌, slice_get}
use Rattle.std.specs.List.{AllByRecursion}
use Rattle.std.proofs.lemmas.Bool.{cases_eq}
use Rattle.std.proofs.lemmas.List.Elements.{Contains-push, Contains-append_left}
use Rattle.clif_instructions.specs.declared.block_call.BlockCall.{BlockCall}
use Rattle.clif_instructions.specs.Edges.{redirected, targets, with_target_changed}
use Rattle.clif_instructions.specs.Instruction.{destinations, with_targets_changed}
use Rattle.clif_instructions.specs.Members.{Stands, stands_in, without}
use Rattle.clif_instructions.proofs.Lists.{at_set}
use Rattle.clif_instructions.proofs.Members.{if_true, if_false, Stands-from_test, Stands-without, without-stood}
use Rattle.clif_types.specs.declared.types.«Type».{«Type»}
use Rattle.clif_nodes.specs.Nodes.{no_inst}
use Rattle.clif_nodes.specs.declared.nodes.InstNode.{InstNode}
use Rattle.clif_ir.specs.Body.{Body, inst_at}
use Rattle.clif_ir.specs.Changes.{with_branch_target}
use Rattle.clif_ir.specs.Consistent.{IsConsistent}
use Rattle.clif_records.specs.Tables.{RecordMap, is_yes, record_at}
use Rattle.clif_tables.specs.Lists.{stack_map_at}
use Rattle.clif_ssa.specs.LookUp.{branch_block}
use Rattle.clif_ssa.specs.Moving.{MovesBranch}
use Rattle.clif_ssa.specs.Own.{Own}
use Rattle.clif_ssa.specs.Sound.{EntryIsFree, PassesOwn, edge_target, edges_at, entry_of}
use Rattle.clif_ssa.specs.SoundLaws.{DescribesSoundly}
use Rattle.clif_ssa.specs.Ssa.{SsaState, predecessors_of, sealed_of}
use Rattle.clif_ssa.specs.Structured.{HasType, Structured, VariableTypes}
use Rattle.clif_ssa.proofs.Moved.{moved_destinations, moves}
use Rattle.clif_ssa.proofs.MovedState.{MovedLeads, branch_described, branch_structured, contained, led_before, leads_moved, open_passes}
use Rattle.clif_ssa.proofs.Ordering.{entry_any}
use Rattle.clif_meaning.specs.Name.{Name, answer_of, same_name}
use Rattle.clif_meaning.specs.Instruction.{Edge, Instruction}
use Rattle.clif_meaning.specs.Ledger.{is_filled, ledger_after}
use Rattle.clif_meaning.specs.Program.{Item, Instruct, Use, Assign, Program, redirected_edge, redirected_instruction, redirected_item}
use Rattle.clif_meaning.specs.Request.{AnsweredCall, ChangeJumpDestination, script_of}
use Rattle.clif_meaning.specs.FunctionView.{Placed}
use Rattle.clif_simulation.specs.Carries.{AreDeclared, Carries, EdgeEarlier, EdgesEnd, HasItems, HaveEdges, Holds, IsBuilt, IsEarlier, IsInstruction, LeadsOwn, NamesEarlier, OwnAnswers, SoundOnPaths, carried, instruction_of, own_placed}
use Rattle.clif_simulation.specs.Tables.{answered, block_name, program_so_far}
use Rattle.clif_simulation.proofs.Calls.{longer_calls, name_stays, structured_so_far}
use Rattle.clif_simulation.proofs.Carrying.{all_mapped, carried_stays, earlier_stays, parameters_on, parameters_values_on}
use Rattle.clif_simulation.proofs.Redirections.EachRedirected.{all_redirected}
use Rattle.clif_simulation.proofs.FreeEntry.{free_before}
use Rattle.clif_simulation.proofs.LedgerValues.{none_new, typed_on}
use Rattle.clif_simulation.proofs.Ledgers.{filled_stays, types_before}
use Rattle.clif_simulation.proofs.NameLists.{names_stay, same_name-equal, same_name_cases}
use Rattle.clif_simulation.proofs.Numbering.{apart_on, built_stays, item_numbers, none_made}
use Rattle.clif_simulation.proofs.Numbers.{program_longer}
use Rattle.clif_simulation.proofs.Finished.OwnEdges
use Rattle.clif_simulation.proofs.Finished.OwnEdges.{last_item}
use Rattle.clif_simulation.proofs.Finished.Placing as placing
use Rattle.clif_simulation.proofs.Redirections.Redirected.{edges_end_still, numbers_same, only_bare, only_blocks, program_still}
use Rattle.clif_simulation.proofs.Redirections.RedirectedEdges.{branch_moved, instruction_answered, others_stay, redirected_placed, same_placed}
use Rattle.clif_simulation.proofs.Requests.{entry_stays}
use Rattle.clif_simulation.proofs.Staying.{same_program-refl}
use Rattle.clif_simulation.proofs.Values.{is_value_at, values_kept}
use Rattle.clif_simulation.proofs.Whole.{Whole, declared_types, whole}
use Rattle.clif_simulation.proofs.Tracking.Steps.{same_function, tracks_quiet}

some_is : {x y : ℕ} → ◌≡◌ {A = Option ℕ} (Some x) (Some y) → x ≡ y
some_is same = cc

none_some : {X : Type 0} (x : X) → None ≡ Some x → ⊥
none_some x same = cc

true_false : true ≡ false → ⊥
true_false same = cc

-- EDGES -----------------------------------------------------------------------------------------------------------------

module _ (from to : ℕ) where
  at_from : (edge : BlockCall) → edge.block ≡ from → (redirected from to edge).block ≡ to
  at_from edge same = ap (λ (e : BlockCall). e.block) (if_true edge.block from (record edge { block = to }) edge same)

  elsewhere : (edge : BlockCall) → edge.block ≢ from → (redirected from to edge).block ≡ edge.block
  elsewhere edge other = ap (λ (e : BlockCall). e.block) (if_false edge.block from (record edge { block = to }) edge other)

  -- an edge to the first block leads to the second one,
  reaches : (edges : List BlockCall) (k : ℕ) → slice_get (targets edges) k ≡ Some from → slice_get (targets (with_target_changed from to edges)) k ≡ Some to
  reaches [] k leads = absurd (none_some from leads)
  reaches (edge ∷ edges) zero leads = ap Some (at_from edge (some_is leads))
  reaches (edge ∷ edges) (suc k) leads = reaches edges k leads

  -- and none to the first one
  leaves : from ≢ to → (edges : List BlockCall) (k : ℕ) → slice_get (targets (with_target_changed from to edges)) k ≡ Some from → ⊥
  leaves apart [] k leads = none_some from leads
  leaves apart (edge ∷ edges) zero leads =
      elim (cases_eq edge.block from) [
        | inl same ↦ apart (some_is (sym leads ∙ ap Some (at_from edge same)))
        | inr other ↦ other (some_is (ap Some (sym (elsewhere edge other)) ∙ leads))
      ]
  leaves apart (edge ∷ edges) (suc k) leads = leaves apart edges k leads

module _ (f : Body) (i from to : ℕ) (within : i < length f.insts) where
  abbrev node : InstNode
  node = record (inst_at f i) { shape = with_targets_changed from to (inst_at f i).shape }

  at_node : (P : InstNode → Type 0) (j : ℕ) → (j ≡ i → P node) → (j ≢ i → P (inst_at f j)) → P (inst_at (with_branch_target f i from to) j)
  at_node P j here other = at_set P f.insts i node j no_inst within here other

  branch_edges : (edges_at (with_branch_target f i from to) i) ≡ with_target_changed from to (edges_at f i)
  branch_edges = at_node (λ m. destinations m.shape ≡ with_target_changed from to (edges_at f i)) i (λ same. moved_destinations from to (inst_at f i).shape) (λ other. absurd (other refl))

  branch_reaches : (k : ℕ) → edge_target f i k ≡ Some from → edge_target (with_branch_target f i from to) i k ≡ Some to
  branch_reaches k leads = ap (λ (edges : List BlockCall). slice_get (targets edges) k) branch_edges ∙ reaches from to (edges_at f i) k leads

  branch_leaves : from ≢ to → (k : ℕ) → edge_target (with_branch_target f i from to) i k ≡ Some from → ⊥
  branch_leaves apart k leads = leaves from to apart (edges_at f i) k (sym (ap (λ (edges : List BlockCall). slice_get (targets edges) k) branch_edges) ∙ leads)

  others_lead : (j k : ℕ) → j ≢ i → edge_target (with_branch_target f i from to) j k ≡ edge_target f j k
  others_lead j k apart =
      at_node (λ m. slice_get (targets (destinations m.shape)) k ≡ edge_target f j k) j (λ same. absurd (apart same)) (λ other. refl)

-- ONE BRANCH A BLOCK ----------------------------------------------------------------------------------------------------

module _ (calls : List AnsweredCall) (f : Body) (s : SsaState) (consistent : IsConsistent f) (all : Whole calls f s) where
  -- the block of a branch has a name
  block_named : (b i : ℕ) → Contains (predecessors_of s b) i → (name : Name) × (block_name calls (branch_block f i) ≡ Some name)
  block_named b i leads =
      let from = all.leads_own b i leads in
      let there = placing.contained_at (all.own.insts from.0) i from.2 in
      (from.1, ap (block_name calls) (OwnEdges.stands_in_block calls f s consistent all from.0 there.0 i there.1) ∙ from.3)

  pub one_branch : (a b i j k m : ℕ) → Contains (predecessors_of s a) i → edge_target f i k ≡ Some a → Contains (predecessors_of s b) j → edge_target f j m ≡ Some b
      → branch_block f j ≡ branch_block f i → j ≡ i
  one_branch a b i j k m leads_i to_a leads_j to_b same =
      some_is (sym other.1 ∙ ap (slice_get (all.own.insts c)) places ∙ first.1)
    where
      c : ℕ
      c = branch_block f i

      first : (t : ℕ) × (slice_get (all.own.insts c) t ≡ Some i)
      first = OwnEdges.is_own calls f s consistent all a i k leads_i to_a

      other : (t : ℕ) × (slice_get (all.own.insts c) t ≡ Some j)
      other =
          let there = OwnEdges.is_own calls f s consistent all b j m leads_j to_b in
          (there.0, ap (λ (block : ℕ). slice_get (all.own.insts block) there.0) (sym same) ∙ there.1)

      C : Name
      C = (block_named a i leads_i).0

      named : block_name calls c ≡ Some C
      named = (block_named a i leads_i).1

      items : List Item
      items = (program_so_far calls).items C

      last : (t n l d : ℕ) → slice_get (all.own.insts c) t ≡ Some n → edge_target f n l ≡ Some d → (x : ℕ) × (suc x ≡ length items) × (t ≡ placing.so_many calls x items)
      last t n l d there to =
          let item = OwnEdges.item_of calls f s consistent all c C named t n there in
          let edge = OwnEdges.edge_in_program calls f s consistent all n item.instruction item.results item.is l d to in
          (item.j, last_item items item.j item.place item.instruction item.results l edge.0 (all.edges_end C) item.stands edge.1, item.counted)

      places : other.0 ≡ first.0
      places =
          let one = last first.0 i k a first.1 to_a in
          let two = last other.0 j m b other.1 to_b in
          let index : two.0 ≡ one.0 = omega (arith, one.1, two.1) in
          two.2 ∙ ap (λ (x : ℕ). placing.so_many calls x items) index ∙ sym one.2

-- THE CALL --------------------------------------------------------------------------------------------------------------

-- What the caller of it knows: the branch is an instruction that leads to the first block, and both blocks are unsealed.
pub record MayRedirect (calls : List AnsweredCall) (s : SsaState) (branch from to : Name) : Type 0 where
  pub is_branch : IsInstruction calls branch
  pub from_named : block_name calls (answered calls from) ≡ Some from
  pub to_named : block_name calls (answered calls to) ≡ Some to
  pub from_open : is_yes (sealed_of s (answered calls from)) ≡ false
  pub to_open : is_yes (sealed_of s (answered calls to)) ≡ false
  pub leads : Stands (answered calls branch) (predecessors_of s (answered calls from))

module _ (calls : List AnsweredCall) (f g : Body) (s t : SsaState) (consistent : IsConsistent f) (c : Carries calls f s) (branch from to : Name)
    (may : MayRedirect calls s branch from to) (records : t.records ≡ s.records)
    (moved : MovesBranch f s g t (answered calls branch) (answered calls from) (answered calls to)) (tracking : t.tracking ≡ s.tracking) where
  abbrev i : ℕ
  i = answered calls branch

  abbrev a : ℕ
  a = answered calls from

  abbrev b : ℕ
  b = answered calls to

  abbrev call : AnsweredCall
  call = record { request = ChangeJumpDestination branch from to; numbers = [] }

  abbrev after : List AnsweredCall
  after = calls ++ call ∷ []

  abbrev own : Own
  own = c.own

  within : i < length f.insts
  within = c.holds.instructions.exist branch may.is_branch

  here : Contains (predecessors_of s a) i
  here = contained i (predecessors_of s a) may.leads

  stays : (block : ℕ) (name : Name) → block_name calls block ≡ Some name → block_name after block ≡ Some name
  stays = name_stays calls call tt

  was_named : (block : ℕ) (name : Name) → block_name after block ≡ Some name → block_name calls block ≡ Some name
  was_named block name is = sym (names_stay calls call tt block) ∙ is

  to_earlier : IsEarlier calls to
  to_earlier = c.holds.blocks.earlier b to may.to_named

  -- what holds of the function where both blocks are one, and where they aren't
  on_new : (P : Body → Type 0) → (a ≡ b → P f) → (a ≢ b → P (with_branch_target f i a b)) → P g
  on_new P one two =
      elim (cases_eq a b) [
        | inl same ↦ subst P (sym (moved.function ∙ if_true a b _ _ same)) (one same)
        | inr apart ↦ subst P (sym (moved.function ∙ if_false a b _ _ apart)) (two apart)
      ]

  same_layout : g.layout ≡ f.layout
  same_layout = on_new (λ h. h.layout ≡ f.layout) (λ same. refl) (λ apart. refl)

  same_count : length g.insts ≡ length f.insts
  same_count = on_new (λ h. length h.insts ≡ length f.insts) (λ same. refl) (λ apart. (moves f i a b within).count)

  types_stay : (v : ℕ) (ty : «Type») → HasType f v ty → HasType g v ty
  types_stay v ty typed = on_new (λ h. HasType h v ty) (λ same. typed) (λ apart. typed)

  branch_placed : own_placed own g i ≡ redirected_placed a b (own_placed own f i)
  branch_placed =
      on_new (λ h. own_placed own h i ≡ redirected_placed a b (own_placed own f i)) (λ same. sym (same_placed a b same (own_placed own f i)))
      (λ apart. branch_moved a b own f i within)

  others_placed : (j : ℕ) → j ≢ i → own_placed own g j ≡ own_placed own f j
  others_placed j other = on_new (λ h. own_placed own h j ≡ own_placed own f j) (λ same. refl) (λ apart. others_stay a b own f i j within other)

  -- PREDECESSORS --------------------------------------------------------------------------------------------------------

  led : a ≢ b → MovedLeads s t i a b
  led apart = leads_moved s t i a b apart (λ d. moved.leads d ∙ if_false a b _ _ apart)

  unled : a ≡ b → (d : ℕ) → predecessors_of t d ≡ predecessors_of s d
  unled same d = moved.leads d ∙ if_true a b _ _ same

  led_there : (d j : ℕ) → Contains (predecessors_of t d) j → Contains (predecessors_of s d) j ⊎ ((d ≡ b) × (j ≡ i))
  led_there d j there =
      elim (cases_eq a b) [
        | inl same ↦ inl (subst (λ (xs : List ℕ). Contains xs j) (unled same d) there)
        | inr apart ↦ led_before s t i a b (led apart) d j there
      ]

  as_stands : (xs : List ℕ) (j : ℕ) → Contains xs j → Stands j xs
  as_stands xs j there = (there.0, there.1, entry_any xs there.0 0 j there.1 ∙ there.2)

  still_once : (xs : List ℕ) (j : ℕ) → Contains xs j → (test : Bool) → Contains (if test then xs else xs ++ i ∷ []) j
  still_once xs j there true = there
  still_once xs j there false = Contains-append_left xs (i ∷ []) j there

  once_there : (xs : List ℕ) (test : Bool) → stands_in i xs ≡ test → Contains (if test then xs else xs ++ i ∷ []) i
  once_there xs true is = contained i xs (Stands-from_test i xs is)
  once_there xs false is = Contains-push xs i

  -- the branch leads to the second block,
  reached : Contains (predecessors_of t b) i
  reached =
      elim (cases_eq a b) [
        | inl same ↦ subst (λ (xs : List ℕ). Contains xs i) (sym (unled same b)) (subst (λ (d : ℕ). Contains (predecessors_of s d) i) same here)
        | inr apart ↦ subst (λ (xs : List ℕ). Contains xs i) (sym (led apart).reached) (once_there (predecessors_of s b) (stands_in i (predecessors_of s b)) refl)
      ]

  -- and each other one where it led
  still_led : (d j : ℕ) → j ≢ i → Contains (predecessors_of s d) j → Contains (predecessors_of t d) j
  still_led d j other there =
      elim (cases_eq a b) [
        | inl same ↦ subst (λ (xs : List ℕ). Contains xs j) (sym (unled same d)) there
        | inr apart ↦
            elim (cases_eq d b) [
              | inl at_b ↦
                  subst (λ (e : ℕ). Contains (predecessors_of t e) j) (sym at_b)
                  (subst (λ (xs : List ℕ). Contains xs j) (sym (led apart).reached)
                  (still_once (predecessors_of s b) j (subst (λ (e : ℕ). Contains (predecessors_of s e) j) at_b there) (stands_in i (predecessors_of s b))))
              | inr not_b ↦
                  elim (cases_eq d a) [
                    | inl at_a ↦
                        subst (λ (e : ℕ). Contains (predecessors_of t e) j) (sym at_a)
                        (subst (λ (xs : List ℕ). Contains xs j) (sym (led apart).left)
                        (contained j (without i (predecessors_of s a))
                        (Stands-without j i (predecessors_of s a) other (as_stands (predecessors_of s a) j (subst (λ (e : ℕ). Contains (predecessors_of s e) j) at_a there)))))
                    | inr not_a ↦ subst (λ (xs : List ℕ). Contains xs j) (sym ((led apart).others d not_a not_b)) there
                  ]
            ]
      ]

  -- the branch leads to each other block as before
  branch_led : (d : ℕ) → d ≢ a → Contains (predecessors_of s d) i → Contains (predecessors_of t d) i
  branch_led d not_a there =
      elim (cases_eq d b) [
        | inl at_b ↦ subst (λ (e : ℕ). Contains (predecessors_of t e) i) (sym at_b) reached
        | inr not_b ↦
            elim (cases_eq a b) [
              | inl same ↦ subst (λ (xs : List ℕ). Contains xs i) (sym (unled same d)) there
              | inr apart ↦ subst (λ (xs : List ℕ). Contains xs i) (sym ((led apart).others d not_a not_b)) there
            ]
      ]

  structured_now : Structured (declared_types calls) own f s []
  structured_now = structured_so_far calls f s c

  declared : AreDeclared g t own.insts
  declared block inst k target there =
      on_new (λ h. edge_target h inst k ≡ Some target → Contains (predecessors_of t target) inst)
      (λ same to_target. subst (λ (xs : List ℕ). Contains xs inst) (sym (unled same target)) (c.holds.declared block inst k target there to_target))
      (λ apart to_target.
      elim (cases_eq inst i) [
        | inr other ↦ still_led target inst other (c.holds.declared block inst k target there (sym (others_lead f i a b within inst k other) ∙ to_target))
        | inl is ↦
            let to_i : edge_target (with_branch_target f i a b) i k ≡ Some target = subst (λ (n : ℕ). edge_target (with_branch_target f i a b) n k ≡ Some target) is to_target in
            subst (λ (n : ℕ). Contains (predecessors_of t target) n) (sym is)
            (elim (cases_eq target b) [
              | inl at_b ↦ subst (λ (e : ℕ). Contains (predecessors_of t e) i) (sym at_b) reached
              | inr not_b ↦
                  branch_led target
                  (λ at_a. branch_leaves f i a b within apart k (to_i ∙ ap (λ (n : ℕ). Some n) at_a))
                  (c.holds.declared block i k target (subst (Contains (own.insts block)) is there) ((moves f i a b within).back i k target not_b to_i))
            ])
      ])

  edge_to_first : (k : ℕ) × (edge_target f i k ≡ Some a)
  edge_to_first = c.holds.have_edges a i here

  -- the branch doesn't lead to the first block any more
  gone : a ≢ b → Contains (predecessors_of t a) i → ⊥
  gone apart there =
      let stands : Stands i (without i (predecessors_of s a)) = as_stands (without i (predecessors_of s a)) i (subst (λ (xs : List ℕ). Contains xs i) (led apart).left there) in
      let stood = without-stood i (predecessors_of s a) stands.0 (structured_now.leading_once a) stands.1 in
      stood.1 stands.2

  have : HaveEdges g t
  have target inst there =
      on_new (λ h. (k : ℕ) × (edge_target h inst k ≡ Some target))
      (λ same. c.holds.have_edges target inst (subst (λ (xs : List ℕ). Contains xs inst) (unled same target) there))
      (λ apart.
      elim (cases_eq inst i) [
        | inr other ↦
            elim (led_before s t i a b (led apart) target inst there) [
              | inl old ↦
                  let edge : (k : ℕ) × (edge_target f inst k ≡ Some target) = c.holds.have_edges target inst old in
                  (edge.0, others_lead f i a b within inst edge.0 other ∙ edge.1)
              | inr new ↦ absurd (other new.1)
            ]
        | inl is ↦
            elim (cases_eq target b) [
              | inl at_b ↦ (
                edge_to_first.0,
                ap (λ (n : ℕ). edge_target (with_branch_target f i a b) n edge_to_first.0) is ∙ branch_reaches f i a b within edge_to_first.0 edge_to_first.1
                    ∙ ap (λ (n : ℕ). Some n) (sym at_b),
              )
              | inr not_b ↦
                  elim (led_before s t i a b (led apart) target inst there) [
                    | inl old ↦
                        let edge : (k : ℕ) × (edge_target f inst k ≡ Some target) = c.holds.have_edges target inst old in (
                          edge.0,
                          (moves f i a b within).forth inst edge.0 target
                              (λ at_a. gone apart (subst (λ (e : ℕ). Contains (predecessors_of t e) i) at_a (subst (Contains (predecessors_of t target)) is there))) edge.1,
                        )
                    | inr new ↦ absurd (not_b new.0)
                  ]
            ]
      ])

  leads_own : LeadsOwn after own t
  leads_own target inst there =
      elim (led_there target inst there) [
        | inl was ↦ by target was
        | inr new ↦ by a (subst (Contains (predecessors_of s a)) (sym new.1) here)
      ]
    where
      by : (d : ℕ) → Contains (predecessors_of s d) inst
          → (block : ℕ) × (name : Name) × Contains (own.insts block) inst × (block_name after block ≡ Some name) × IsTrue (is_filled (ledger_after (script_of after)) name)
      by d leads = let old = c.holds.leads_own d inst leads in (old.0, old.1, old.2, stays old.0 old.1 old.3, filled_stays calls call old.1 old.4)

  -- ITEMS ---------------------------------------------------------------------------------------------------------------

  items_are : (name : Name) → (program_so_far after).items name ≡ map (redirected_item branch from to) ((program_so_far calls).items name)
  items_are name = ap (λ (p : Program). p.items name) (program_longer calls call)

  redirected_earlier : (edges : List (Edge Name Name)) → AllByRecursion (EdgeEarlier calls) edges → AllByRecursion (EdgeEarlier calls) (map (redirected_edge from to) edges)
  redirected_earlier [] earlier = tt
  redirected_earlier (edge ∷ edges) earlier = (by (same_name edge.target from), redirected_earlier edges earlier.1)
    where
      by : (test : Bool) → EdgeEarlier calls (if test then record edge { target = to } else edge)
      by true = record { target = to_earlier; leads = may.to_named; passes = earlier.0.passes }
      by false = earlier.0

  item_earlier : (place : ℕ) (instruction : Instruction Name Name) (results : List Name) → NamesEarlier calls (Instruct place instruction results)
      → NamesEarlier calls (Instruct place (redirected_instruction from to instruction) results)
  item_earlier place instruction results earlier = (earlier.0, earlier.1, redirected_earlier instruction.edges earlier.2, earlier.3)

  first_is : (p q : Placed) (ps qs : List Placed) → p ∷ ps ≡ q ∷ qs → p ≡ q
  first_is p q ps qs same = cc

  rest_are : (p q : Placed) (ps qs : List Placed) → p ∷ ps ≡ q ∷ qs → ps ≡ qs
  rest_are p q ps qs same = cc

  -- the instruction of an item
  item_on : (place : ℕ) (instruction : Instruction Name Name) (results : List Name) → IsBuilt calls (Instruct place instruction results) → NamesEarlier calls (Instruct place instruction results)
      → own_placed own f (answered calls (answer_of place 0)) ≡ placing.placed_item calls instruction results
      → own_placed own g (answered calls (answer_of place 0)) ∷ [] ≡ carried after (redirected_item branch from to (Instruct place instruction results))
  item_on place instruction results built earlier is = by (same_name name branch) yes no_way
    where
      name : Name
      name = answer_of place 0

      yes : same_name name branch ≡ true → name ≡ branch
      yes true_is =
          elim (same_name_cases name branch) [
            | inl same ↦ same
            | inr other ↦ absurd (true_false (sym true_is ∙ other.1))
          ]

      no_way : same_name name branch ≡ false → name ≢ branch
      no_way false_is same = true_false (sym (same_name-equal name branch same) ∙ false_is)

      moved_is : name ≡ branch → own_placed own g (answered calls name) ≡ placing.placed_item calls (redirected_instruction from to instruction) results
      moved_is same =
          ap (λ (n : Name). own_placed own g (answered calls n)) same ∙ branch_placed
          ∙ ap (λ (n : Name). redirected_placed a b (own_placed own f (answered calls n))) (sym same) ∙ ap (redirected_placed a b) is
          ∙ ap (λ (x : Instruction ℕ ℕ). record { instruction = x; results = map (answered calls) results; stack_map = [] })
          (sym (instruction_answered calls from to may.from_named instruction earlier.2))

      by : (test : Bool) → (test ≡ true → name ≡ branch) → (test ≡ false → name ≢ branch)
          → own_placed own g (answered calls name) ∷ [] ≡ carried after (Instruct place (if test then redirected_instruction from to instruction else instruction) results)
      by true same other =
          ap (λ (p : Placed). p ∷ []) (moved_is (same refl))
          ∙ sym (carried_stays calls call (Instruct place (redirected_instruction from to instruction) results) (item_earlier place instruction results earlier))
      by false same other =
          ap (λ (p : Placed). p ∷ [])
          (others_placed (answered calls name) (λ at. other refl (c.holds.instructions.differ name branch built may.is_branch at)) ∙ is)
          ∙ sym (carried_stays calls call (Instruct place instruction results) earlier)

  items_on : (items : List Item) → AllByRecursion (IsBuilt calls) items → AllByRecursion (NamesEarlier calls) items
      → map (own_placed own f) (flat_map (instruction_of calls) items) ≡ flat_map (carried calls) items
      → map (own_placed own g) (flat_map (instruction_of calls) items) ≡ flat_map (carried after) (map (redirected_item branch from to) items)
  items_on [] built earlier same = refl
  items_on (Instruct place instruction results ∷ items) built earlier same =
      let old : Placed = own_placed own f (answered calls (answer_of place 0)) in
      let item : Placed = placing.placed_item calls instruction results in
      let olds : List Placed = map (own_placed own f) (flat_map (instruction_of calls) items) in
      let news : List Placed = flat_map (carried calls) items in
      let first = item_on place instruction results built.0 earlier.0 (first_is old item olds news same) in
      let rest = items_on items built.1 earlier.1 (rest_are old item olds news same) in
      ap (λ (ps : List Placed). own_placed own g (answered calls (answer_of place 0)) ∷ ps) rest
      ∙ ap (λ (ps : List Placed). ps ++ flat_map (carried after) (map (redirected_item branch from to) items)) first
  items_on (Use variable name ∷ items) built earlier same = items_on items built.1 earlier.1 same
  items_on (Assign variable name ∷ items) built earlier same = items_on items built.1 earlier.1 same

  items : HasItems after g own
  items block name is =
      let old = was_named block name is in
      let numbers = c.holds.own_answers block name old in
      ap (map (own_placed own g)) numbers
      ∙ items_on ((program_so_far calls).items name) (c.holds.items_built name) (c.holds.earlier name) (ap (map (own_placed own f)) (sym numbers) ∙ c.holds.items block name old)
      ∙ ap (flat_map (carried after)) (sym (items_are name))

  own_answers : OwnAnswers after own
  own_answers block name is =
      c.holds.own_answers block name (was_named block name is)
      ∙ sym (item_numbers calls call ((program_so_far calls).items name) (c.holds.items_built name))
      ∙ sym (numbers_same branch from to after ((program_so_far calls).items name))
      ∙ ap (flat_map (instruction_of after)) (sym (items_are name))

  -- ALL OF IT -----------------------------------------------------------------------------------------------------------

  no_value : (index : ℕ) → is_value_at [] index ≡ false
  no_value index = refl

  types_kept : (types : VariableTypes) → Structured types own f s [] → Structured types own g t []
  types_kept types before =
      branch_structured f g s t i a b moved records within may.from_open may.to_open may.leads types own consistent
      (λ k to_b. open_passes types own f s before b i k may.to_open (led_to_second k to_b) to_b) before
    where
      led_to_second : (k : ℕ) → edge_target f i k ≡ Some b → Contains (predecessors_of s b) i
      led_to_second k to_b = let from_own = c.holds.leads_own a i here in c.holds.declared from_own.0 i k b from_own.2 to_b

  holds : Holds after own g t
  holds = record {
    blocks = record {
      distinct = λ d e name first second. c.holds.blocks.distinct d e name (was_named d name first) (was_named e name second);
      earlier = λ d name is. let e = c.holds.blocks.earlier d name (was_named d name is) in let l = longer_calls calls call in omega (arith, e, l);
      only = λ name. only_blocks branch from to calls call tt tt items_are name (c.holds.blocks.only name);
      only_parameters = λ name. only_bare branch from to calls call tt tt items_are name (c.holds.blocks.only_parameters name);
    };
    items = items;
    own_answers = own_answers;
    items_built = λ name.
        subst (AllByRecursion (IsBuilt after)) (sym (items_are name))
        (all_redirected (IsBuilt calls) (IsBuilt after) branch from to (built_stays calls call)
        (λ place instruction results built. built_stays calls call (Instruct place instruction results) built)
        ((program_so_far calls).items name) (c.holds.items_built name));
    instructions = apart_on calls call (length f.insts) (length g.insts) (none_made (ledger_after (script_of calls)) (ChangeJumpDestination branch from to) tt) (omega (arith, same_count)) c.holds.instructions;
    earlier = λ name.
        subst (AllByRecursion (NamesEarlier after)) (sym (items_are name))
        (all_redirected (NamesEarlier calls) (NamesEarlier after) branch from to (earlier_stays calls call stays)
        (λ place instruction results earlier.
        earlier_stays calls call stays (Instruct place (redirected_instruction from to instruction) results) (item_earlier place instruction results earlier))
        ((program_so_far calls).items name) (c.holds.earlier name));
    edges_end = λ name. subst EdgesEnd (sym (items_are name)) (edges_end_still branch from to ((program_so_far calls).items name) (c.holds.edges_end name));
    no_maps = λ inst. on_new (λ h. stack_map_at h.tables inst ≡ []) (λ same. c.holds.no_maps inst) (λ apart. c.holds.no_maps inst);
    own_exist = λ block. all_mapped (λ (n : ℕ). n < length f.insts) (λ (n : ℕ). n < length g.insts) (λ n below. omega (arith, below, same_count)) (own.insts block) (c.holds.own_exist block);
    own_named = λ block none. c.holds.own_named block (sym (names_stay calls call tt block) ∙ none);
    own_inserted = λ block out. c.holds.own_inserted block (ap (stands_in block) (sym same_layout) ∙ out);
    declared = declared;
    leads_own = leads_own;
    have_edges = have;
    parameters = parameters_on calls call stays own own f f s s c.holds (λ j below. refl) (omega arith) (λ block out. out) tt (λ block. refl) (λ block name is. inl (was_named block name is));
    parameters_values = parameters_values_on calls call stays own own f f s s c.holds (λ j below. refl) (omega arith) (λ block out. out) tt;
    values_typed = typed_on calls call f g c.holds.values_typed types_stay (λ index ty is. absurd (none_new calls call no_value index ty is));
    entry = entry_stays calls after f g (ap (λ (p : Program). p.entry) (program_longer calls call)) (ap (λ (l : List ℕ). slice_get l 0) same_layout) stays c.holds.entry;
    structured = λ types are. types_kept types (c.holds.structured types (types_before calls call types are));
  }

  entry_before : (entry : ℕ) → entry_of f ≡ Some entry → entry_of g ≡ Some entry
  entry_before entry is = ap (λ (l : List ℕ). slice_get l 0) same_layout ∙ is

  sealed_before : (d : ℕ) → is_yes (sealed_of s d) ≡ true → (is_yes (sealed_of t d) ≡ true) × (predecessors_of t d ≡ predecessors_of s d)
  sealed_before d sealed = (
    ap is_yes (moved.blocks d) ∙ sealed,
    elim (cases_eq a b) [
      | inl same ↦ unled same d
      | inr apart ↦ (led apart).others d (other a may.from_open) (other b may.to_open)
    ],
  )
    where
      other : (e : ℕ) → is_yes (sealed_of s e) ≡ false → d ≢ e
      other e unsealed same = true_false (sym sealed ∙ ap (λ (n : ℕ). is_yes (sealed_of s n)) same ∙ unsealed)

  passes_own : (d : ℕ) → is_yes (sealed_of s d) ≡ false → PassesOwn own f d i
  passes_own d unsealed k to_d =
      let from_own = c.holds.leads_own a i here in
      ap length (open_passes (declared_types calls) own f s structured_now d i k unsealed (c.holds.declared from_own.0 i k d from_own.2 to_d) to_d)

  on_paths : EntryIsFree g t → SoundOnPaths after own g t
  on_paths free_after =
      let free : EntryIsFree f s = free_before f g s t entry_before sealed_before free_after in
      let p : SoundOnPaths calls own f s = c.on_paths free in
      let described : DescribesSoundly own g t p.tables =
      branch_described f g s t i a b moved records within may.from_open may.to_open may.leads own p.tables (passes_own a may.from_open) (passes_own b may.to_open)
      (λ j there other same. other (apart_from free j there same)) (p.describes, p.sound, p.counts) in
      record {
        tables = p.tables;
        program = program_still branch from to calls call tt tt items_are p.tables p.program;
        values_given = values_kept calls call p.tables p.tables (same_program-refl p.tables) no_value p.values_given;
        describes = described.0;
        sound = described.1;
        counts = described.2;
        tracked = tracks_quiet calls call s t p.tables p.tracked tt tracking (λ x d. ap (λ (r : RecordMap). record_at r x d) records)
            p.tables (same_function p.tables p.tables refl);
      }
    where
      apart_from : EntryIsFree f s → (j : ℕ) → Contains (predecessors_of s b) j → branch_block f j ≡ branch_block f i → j ≡ i
      apart_from free j there same =
          let to_b = c.holds.have_edges b j there in
          one_branch calls f s consistent (whole calls f s consistent c free) a b i j edge_to_first.0 to_b.0 here edge_to_first.1 there to_b.1 same

  pub carries_redirected : Carries after g t
  carries_redirected = record { own = own; holds = holds; on_paths = on_paths }
