-- Items of the caller's: assignments, uses and instructions.
use Rattle.std.proofs.Common.{◌≡◌, ◌≢◌, ℕ, suc, ◌<◌, ◌≤◌, ◌==◌, ◌&&◌, true, false, [], length, refl, ap, arith, sym, ◌∙◌, subst, ◌⊎◌, inl, inr, List, ◌++◌, slice_get, ◌∷◌}
use Rattle.std.specs.Prelude.{Option, Some, None, Contains, cond}
use Rattle.std.proofs.lemmas.Grind.{common_steps}
use Rattle.std.proofs.lemmas.Bool.{cases_eq}
use Rattle.clif_types.specs.declared.extname.UserFuncName.{UserFuncName}
use Rattle.clif_types.specs.Signature.{SignatureShape}
use Rattle.clif_tables.specs.Lists.{TableLists}
use Rattle.clif_ir.specs.Body.{Body, block_at, resolved, empty_body}
use Rattle.clif_nodes.specs.Nodes.{BlockNode, empty_block}
use Rattle.clif_ir.specs.Changes.{with_block}
use Rattle.clif_instructions.proofs.Lists.{at_push, at_past, below_or_not}
use Rattle.clif_ir.proofs.Aliases.{follow_nothing}
use Rattle.clif_paths.specs.Places.{Place, start, inside, Arm}
use Rattle.clif_paths.specs.State.{Naming, Kind, Definition, born, pending, complete, fresh, reads, Origin}
use Rattle.clif_paths.specs.Steps.{updated, IsNewName}
use Rattle.clif_paths.specs.Blocks.{Blocks, front, last_place, state_of, no_blocks, with_item, with_read, with_write, AssignsNot, Knows}
use Rattle.clif_paths.proofs.BlockSteps.{first_sound, item_keeps, read_keeps, write_keeps}
use Rattle.clif_paths.proofs.Tables.{updated-same, updated-other, record_other}
use Rattle.clif_ssa.specs.Own.{Own, no_own}
use Rattle.clif_records.specs.Tables.{is_yes, pending_of}
use Rattle.clif_records.specs.declared.tables.Pending.{Pending}
use Rattle.clif_ssa.specs.Ssa.{SsaState, no_state, record_of, sealed_of, predecessors_of, Records, SameRecords, SameBlocks, SamePredecessors}
use Rattle.clif_ssa.specs.LookUp.{branch_block}
use Rattle.clif_ssa.specs.Sound.{Describes, IsEdgeInto, InOrder, entry_of}
use Rattle.clif_ssa.specs.SoundLaws.{DescribesSoundly, IsOpen}
use Rattle.clif_records.proofs.RecordMaps.{record_at-empty}
use Rattle.clif_ssa.proofs.Ordering.{none_contained, in_order_small}
use Rattle.clif_ssa.proofs.Pooled.{KeepsConstants}
use Rattle.clif_ssa.proofs.Describing.{Extends, Arms, arms_of, arms_kept, SameEdges, same_edges, Ordered, ordered_of, ordered_kept, same_passed, same_kinds, instructions_kept, waiting_kept, homes_kept, assigns_not_kept, record_changed, not_recorded, is_recorded}
use Rattle.clif_ssa.proofs.Entering.{Waiting, relaid, same_leads}
use Rattle.clif_ssa.proofs.Counts.{counts_kept}

-- THE STATE -------------------------------------------------------------------------------------------------------

-- what waits in a state with the same blocks
pub same_waiting : (own : Own) (f : Body) (s t : SsaState) (blocks : Blocks) → Describes own f s [] blocks → SameBlocks s t
    → ((b : ℕ) (p : Pending) → Contains (pending_of (sealed_of s b)) p → record_of t p.variable b ≢ None) → Waiting f t [] blocks
same_waiting own f s t blocks before same still_recorded = record {
  waiting = λ b p here. before.waiting b p (subst (λ xs. Contains xs p) (ap pending_of (same b)) here);
  completed = λ p here. absurd (omega (arith, here.1));
  pends = λ v x ends is.
      elim (before.pends v x ends is) [
        | inl old ↦ inl (old.0, subst (λ xs. Contains xs (record { variable = x; param = v })) (ap pending_of (sym (same old.0))) old.1)
        | inr listed ↦ inr listed
      ];
  waiting_recorded = λ b p here. still_recorded b p (subst (λ xs. Contains xs p) (ap pending_of (same b)) here);
  waiting_order = λ b. subst (λ ps. InOrder (block_at f b).params ps) (sym (ap pending_of (same b))) (before.waiting_order b);
  completing_order = before.completing_order;
}

-- what tables say of arms and parameters, in a function that stays as it is
pub record ArmsAndOrder (own : Own) (f : Body) (s : SsaState) (blocks : Blocks) : Type 0 where
  pub arms : Arms f s blocks
  pub order : Ordered own f s [] blocks

-- the state has the same blocks, and the tables the same arms and values; no block in which a branch stands has a new item
pub record SameShape (f : Body) (s t : SsaState) (blocks blocks' : Blocks) : Type 0 where
  pub predecessors : SamePredecessors s t
  pub entries : SameBlocks s t
  pub sealed : (b : ℕ) → blocks'.sealed b ≡ blocks.sealed b
  pub joins : (arm : Arm) → blocks'.joins arm ≡ blocks.joins arm
  pub definition : (v : ℕ) → blocks'.function.definition v ≡ blocks.function.definition v
  pub argument : (v : ℕ) (arm : Arm) → blocks'.function.argument v arm ≡ blocks.function.argument v arm
  pub count : (b i : ℕ) → Contains (predecessors_of s b) i → blocks'.count (branch_block f i) ≡ blocks.count (branch_block f i)

pub shape_kept : (own : Own) (f : Body) (s t : SsaState) (blocks blocks' : Blocks) → Describes own f s [] blocks → SameShape f s t blocks blocks' → ArmsAndOrder own f t blocks'
shape_kept own f s t blocks blocks' before same =
    let extends : Extends f f blocks blocks' =
    record { values_more = omega arith; insts_more = omega arith; inst_same = λ i here. refl; constants_kept = λ constant bytes here. here; definition_same = λ v here. same.definition v } in
    let old : Arms f s blocks = arms_of own f s [] blocks before in
    let edges : SameEdges f f s t blocks blocks' = same_edges f f s t blocks blocks' old extends same.predecessors same.count in
    record {
      arms =
          arms_kept f f s t blocks blocks'
          (record { edges = edges; insts_more = omega arith; entry = refl; same_yes = λ b. ap is_yes (same.entries b); sealed = same.sealed; joins = same.joins }) old;
      order =
          ordered_kept own f f s t [] blocks blocks'
          (record {
            edges = edges;
            passed = λ b i k j here. refl;
            kinds = same_kinds blocks blocks' same.definition;
            params = λ b. refl;
            homes = λ v. refl;
            entries = λ b. ap pending_of (same.entries b);
            arguments = same.argument;
          })
          (ordered_of own f s [] blocks before);
    }

pub same_state : (own : Own) (f : Body) (s t : SsaState) (blocks : Blocks) → SameRecords s t → SameBlocks s t → SamePredecessors s t
    → Describes own f s [] blocks → Describes own f t [] blocks
same_state own f s t blocks records same leads before =
    let kept : ArmsAndOrder own f t blocks =
    shape_kept own f s t blocks blocks before
    (record {
      predecessors = leads;
      entries = same;
      sealed = λ b. refl;
      joins = λ arm. refl;
      definition = λ v. refl;
      argument = λ v arm. refl;
      count = λ b i here. refl;
    }) in
    relaid own f f.layout s t [] [] blocks blocks.sealed blocks.joins before records (same_leads s t blocks leads) (λ b known. known) kept.arms
    (same_waiting own f s t blocks before same (λ b p here none. before.waiting_recorded b p here (sym (records p.variable b) ∙ none)))

-- A NEW BLOCK -----------------------------------------------------------------------------------------------------

block_insts : (f : Body) (b : ℕ) → (block_at (with_block f) b).insts ≡ (block_at f b).insts
block_insts f b =
    at_push (λ (m : BlockNode). m.insts ≡ (block_at f b).insts) f.blocks empty_block b empty_block
    (λ here. refl)
    (λ last. ap (λ (m : BlockNode). m.insts) (sym (at_past f.blocks b empty_block (omega (arith, last)))))
    (λ past. ap (λ (m : BlockNode). m.insts) (sym (at_past f.blocks b empty_block (omega (arith, past)))))

block_params : (f : Body) (b : ℕ) → (block_at (with_block f) b).params ≡ (block_at f b).params
block_params f b =
    at_push (λ (m : BlockNode). m.params ≡ (block_at f b).params) f.blocks empty_block b empty_block
    (λ here. refl)
    (λ last. ap (λ (m : BlockNode). m.params) (sym (at_past f.blocks b empty_block (omega (arith, last)))))
    (λ past. ap (λ (m : BlockNode). m.params) (sym (at_past f.blocks b empty_block (omega (arith, past)))))

-- a function with other blocks, another layout and other tables: each block has the parameters and instructions that it had, and the entry
-- is the same
pub blocks_described : (own : Own) (f : Body) (nodes : List BlockNode) (layout : List ℕ) (lists : TableLists) → KeepsConstants f (record f { tables = lists }) → (s : SsaState) (blocks : Blocks)
    → ((b : ℕ) → (block_at (record f { blocks = nodes; layout = layout; tables = lists }) b).params ≡ (block_at f b).params)
    → ((b : ℕ) → (block_at (record f { blocks = nodes; layout = layout; tables = lists }) b).insts ≡ (block_at f b).insts)
    → slice_get layout 0 ≡ entry_of f → Describes own f s [] blocks → Describes own (record f { blocks = nodes; layout = layout; tables = lists }) s [] blocks
blocks_described own f nodes layout lists keeps s blocks same_params same_insts entry before =
    let g : Body = record f { blocks = nodes; layout = layout; tables = lists } in
    let extends : Extends f g blocks blocks =
    record { values_more = omega arith; insts_more = omega arith; inst_same = λ i here. refl; constants_kept = keeps; definition_same = λ v here. refl } in
    let old : Arms f s blocks = arms_of own f s [] blocks before in
    let edges : SameEdges f g s s blocks blocks = same_edges f g s s blocks blocks old extends (λ b. refl) (λ b i here. refl) in
    let arms : Arms g s blocks =
    arms_kept f g s s blocks blocks (record { edges = edges; insts_more = omega arith; entry = entry; same_yes = λ b. refl; sealed = λ b. refl; joins = λ arm. refl }) old in
    let order : Ordered own g s [] blocks =
    ordered_kept own f g s s [] blocks blocks
    (record {
      edges = edges;
      passed = same_passed f g s blocks blocks old extends;
      kinds = same_kinds blocks blocks (λ v. refl);
      params = same_params;
      homes = λ v. refl;
      entries = λ b. refl;
      arguments = λ v arm. refl;
    })
    (ordered_of own f s [] blocks before) in
    record {
      sealed = arms.sealed;
      joined = arms.joined;
      entered = arms.entered;
      led = arms.led;
      leading = arms.leading;
      leading_apart = arms.leading_apart;
      entry_free = arms.entry_free;
      resolves = before.resolves;
      recorded = before.recorded;
      records_exist = before.records_exist;
      unrecorded = before.unrecorded;
      unwritten = before.unwritten;
      absent = before.absent;
      homes = before.homes;
      answered = before.answered;
      born_there = before.born_there;
      waiting = λ b p here. waiting_kept f g blocks blocks b p refl refl (before.waiting b p here);
      completed = λ p here. absurd (omega (arith, here.1));
      pends = before.pends;
      waiting_recorded = before.waiting_recorded;
      complete_there = order.complete_there;
      complete_first = order.complete_first;
      waiting_order = order.waiting_order;
      completing_order = order.completing_order;
      passes = order.passes;
      instructions = λ b. instructions_kept f g blocks blocks b (own.insts b) extends (same_insts b) (before.instructions b);
    }

pub block_described : (own : Own) (f : Body) (s : SsaState) (blocks : Blocks) → Describes own f s [] blocks → Describes own (with_block f) s [] blocks
block_described own f s blocks before = blocks_described own f (f.blocks ++ empty_block ∷ []) f.layout f.tables (λ constant bytes here. here) s blocks (block_params f) (block_insts f) refl before

-- THE FIRST TABLES ------------------------------------------------------------------------------------------------

unborn_or_complete : {x : ℕ} → ◌≡◌ {A = Kind} Kind.unborn (complete x) → ⊥
unborn_or_complete same = cc

pub first_described : (name : UserFuncName) (signature : SignatureShape) → DescribesSoundly no_own (empty_body name signature) no_state no_blocks
first_described name signature =
    let f : Body = empty_body name signature in (
      record {
        sealed = λ b. refl;
        joined = λ arm known. absurd (let no_arm : false ≡ true = known in cc);
        entered = λ entry at. absurd (let nothing : ◌≡◌ {A = Option ℕ} None (Some entry) = at in cc);
        led = λ b arm known at edge. absurd (none_contained edge.branch edge.leads);
        leading = λ b i here. absurd (none_contained i here);
        leading_apart = λ b j k below inside. absurd (omega (arith, inside));
        entry_free = λ entry is sealed. refl;
        resolves = λ v. sym (follow_nothing [] 0 v refl);
        recorded = λ b x. sym (record_at-empty x b);
        records_exist = λ b x v is. absurd (let nothing : ◌≡◌ {A = Option ℕ} None (Some v) = sym (record_at-empty x b) ∙ is in cc);
        unrecorded = λ b x none. record { none = λ k below. refl };
        unwritten = λ b k x below. refl;
        absent = λ v past. refl;
        homes = λ v. refl;
        answered = λ n given. absurd (given refl);
        born_there = λ n given is_fresh. absurd (given refl);
        waiting = λ b p here. absurd (omega (arith, here.1));
        completed = λ p here. absurd (omega (arith, here.1));
        pends = λ v x ends is. absurd (let nothing : ◌≡◌ {A = Kind} Kind.unborn (pending x) = is in cc);
        waiting_recorded = λ b p here. absurd (none_contained p here);
        complete_there = λ b v is. absurd (unborn_or_complete (ap (λ (d : Definition). d.kind) is));
        complete_first = λ b v u x is pends home. absurd (unborn_or_complete (ap (λ (d : Definition). d.kind) is));
        waiting_order = λ b. in_order_small [] [] (omega arith);
        completing_order = λ b. in_order_small [] [] (omega arith);
        passes = λ b v arm edge is at j belongs. absurd (unborn_or_complete (ap (λ (d : Definition). d.kind) is));
        instructions = λ b. record { zeros = []; in_order = refl; are_zeros = tt };
      },
      first_sound,
      record {
        behind = λ b v is. absurd (let nothing : ◌≡◌ {A = Option ℕ} None (Some b) = is in cc);
        callers = λ b. omega arith;
        counted = λ b i k v here. absurd (none_contained i here);
        no_fewer = λ b i k here. absurd (none_contained i here);
        no_more = λ b i k here. absurd (none_contained i here);
      },
    )

-- AN ITEM ---------------------------------------------------------------------------------------------------------

count_cases : (blocks : Blocks) (b c : ℕ) → ((c ≡ b) × ((with_item blocks b).count c ≡ suc (blocks.count c))) ⊎ ((c ≢ b) × ((with_item blocks b).count c ≡ blocks.count c))
count_cases blocks b c =
    elim (cases_eq c b) [
      | inl same ↦ inl (same, updated-same blocks.count b (suc (blocks.count b)) c same ∙ ap (λ d. suc (blocks.count d)) (sym same))
      | inr apart ↦ inr (apart, updated-other blocks.count b (suc (blocks.count b)) c apart)
    ]

count_more : (blocks : Blocks) (b c : ℕ) → blocks.count c ≤ (with_item blocks b).count c
count_more blocks b c =
    elim (count_cases blocks b c) [
      | inl here ↦ omega (arith, here.1)
      | inr apart ↦ omega (arith, apart.1)
    ]

item_assigns_not : (blocks : Blocks) (b c x : ℕ) → ((k : ℕ) → blocks.count c < k → blocks.assigned (inside c k) x ≡ None) → AssignsNot blocks c x → AssignsNot (with_item blocks b) c x
item_assigns_not blocks b c x unwritten none = record {
  none = λ k below.
      elim (cases_order k) [
        | inl old ↦ none.none k old
        | inr new ↦ unwritten k new
      ];
}
  where
    cases_order : (k : ℕ) → (k < suc (blocks.count c)) ⊎ (blocks.count c < k)
    cases_order k = elim (below_or_not k (suc (blocks.count c))) [ inl below ↦ inl below | inr above ↦ inr (omega (arith, above)) ]

-- a block in which no branch stands has one item more
item_shape : (f : Body) (s : SsaState) (blocks : Blocks) (b : ℕ) → IsOpen f s b → SameShape f s s blocks (with_item blocks b)
item_shape f s blocks b open_block = record {
  predecessors = λ c. refl;
  entries = λ c. refl;
  sealed = λ c. refl;
  joins = λ arm. refl;
  definition = λ v. refl;
  argument = λ v arm. refl;
  count = λ c i here. updated-other blocks.count b (suc (blocks.count b)) (branch_block f i) (open_block c i here);
}

pub item_described : (own : Own) (f : Body) (s : SsaState) (blocks : Blocks) (b : ℕ) → DescribesSoundly own f s blocks → IsOpen f s b → DescribesSoundly own f s (with_item blocks b)
item_described own f s blocks b given open_block =
    let before : Describes own f s [] blocks = given.0 in
    let after : Blocks = with_item blocks b in
    let extends : Extends f f blocks after =
    record { values_more = omega arith; insts_more = omega arith; inst_same = λ i here. refl; constants_kept = λ constant bytes here. here; definition_same = λ v here. refl } in
    let kept : ArmsAndOrder own f s after = shape_kept own f s s blocks after before (item_shape f s blocks b open_block) in (
      record {
        sealed = kept.arms.sealed;
        joined = kept.arms.joined;
        entered = kept.arms.entered;
        led = kept.arms.led;
        leading = kept.arms.leading;
        leading_apart = kept.arms.leading_apart;
        entry_free = kept.arms.entry_free;
        resolves = before.resolves;
        recorded = before.recorded;
        records_exist = before.records_exist;
        unrecorded = λ c x none. item_assigns_not blocks b c x (λ k. before.unwritten c k x) (before.unrecorded c x none);
        unwritten = λ c k x below. before.unwritten c k x (omega (arith, below, count_more blocks b c));
        absent = before.absent;
        homes = before.homes;
        answered = before.answered;
        born_there = before.born_there;
        waiting = λ c p here. waiting_kept f f blocks after c p refl refl (before.waiting c p here);
        completed = λ p here. absurd (omega (arith, here.1));
        pends = before.pends;
        waiting_recorded = before.waiting_recorded;
        complete_there = kept.order.complete_there;
        complete_first = kept.order.complete_first;
        waiting_order = kept.order.waiting_order;
        completing_order = kept.order.completing_order;
        passes = kept.order.passes;
        instructions = λ c. instructions_kept f f blocks after c (own.insts c) extends refl (before.instructions c);
      },
      item_keeps blocks b (record { unassigned = λ x. before.unwritten b (suc (blocks.count b)) x (omega arith) }) given.1,
      counts_kept own f s s blocks after given.2 (λ c. refl) (λ u. refl),
    )

-- the new item assigns nothing so far
pub item_unassigned : (own : Own) (f : Body) (s : SsaState) (blocks : Blocks) (b x : ℕ) → Describes own f s [] blocks → (with_item blocks b).assigned (last_place (with_item blocks b) b) x ≡ None
item_unassigned own f s blocks b x before =
    let last : (with_item blocks b).count b ≡ suc (blocks.count b) = updated-same blocks.count b (suc (blocks.count b)) b refl in
    ap (λ k. blocks.assigned (inside b k) x) last ∙ before.unwritten b (suc (blocks.count b)) x (omega arith)

-- ASSIGN ----------------------------------------------------------------------------------------------------------

inside_block : {b c j k : ℕ} → inside b j ≡ inside c k → b ≡ c
inside_block same = cc

inside_step : {b c j k : ℕ} → inside b j ≡ inside c k → j ≡ k
inside_step same = cc

inside_written : (b k : ℕ) → start ≡ inside b k → ⊥
inside_written b k same = cc

both_hold : (x y b c : ℕ) → y ≡ x → c ≡ b → (y == x && c == b) ≡ true
both_hold x y b c p q = grind (arith, common_steps, p, q)

true_false : true ≡ false → ⊥
true_false same = cc

-- no arm leaves the last place of a block in which no branch stands
open_place : (f : Body) (s : SsaState) (blocks : Blocks) (b : ℕ) → IsOpen f s b
    → ((arm : Arm) → blocks.joins arm ≡ true
    → (c : ℕ) × (arm.target ≡ front c) × (is_yes (sealed_of s c) ≡ true) × (((arm.source ≡ start) × (entry_of f ≡ Some c)) ⊎ IsEdgeInto f s blocks c arm))
    → (arm : Arm) → blocks.joins arm ≡ true → arm.source ≢ last_place blocks b
open_place f s blocks b open_block joined arm known at =
    let there : (c : ℕ) × (arm.target ≡ front c) × (is_yes (sealed_of s c) ≡ true) × (((arm.source ≡ start) × (entry_of f ≡ Some c)) ⊎ IsEdgeInto f s blocks c arm) =
    joined arm known in
    elim there.3 [
      | inl enters ↦ inside_written b (blocks.count b) (sym enters.0 ∙ at)
      | inr edge ↦ open_block there.0 edge.branch edge.leads (inside_block (sym edge.from ∙ at))
    ]

pub write_described : (own : Own) (f : Body) (s t : SsaState) (blocks : Blocks) (b x n : ℕ) → DescribesSoundly own f s blocks → IsOpen f s b
    → (blocks.naming n).home ≢ start → blocks.assigned (last_place blocks b) x ≡ None → Records s t x b (blocks.answer n) → SameBlocks s t → SamePredecessors s t
    → DescribesSoundly own f t (with_write blocks b x n)
write_described own f s t blocks b x n both open_block given none written same leads =
    let before : Describes own f s [] blocks = both.0 in
    let after : Blocks = with_write blocks b x n in
    let v : ℕ = blocks.answer n in
    let kept : (p : Place) (y : ℕ) → (p ≡ last_place blocks b → y ≢ x) → after.assigned p y ≡ blocks.assigned p y = record_other blocks.assigned (last_place blocks b) x n in
    let extends : Extends f f blocks after =
    record { values_more = omega arith; insts_more = omega arith; inst_same = λ i here. refl; constants_kept = λ constant bytes here. here; definition_same = λ u here. refl } in
    let kept_records : (c : ℕ) (p : Pending) → Contains (pending_of (sealed_of s c)) p → record_of t p.variable c ≢ None =
    λ c p here is. before.waiting_recorded c p here (not_recorded (p.variable == x && c == b) v (record_of s p.variable c) (sym (written p.variable c) ∙ is)).1 in
    let waits : Waiting f t [] blocks = same_waiting own f s t blocks before same kept_records in
    let still : ArmsAndOrder own f t after =
    shape_kept own f s t blocks after before
    (record {
      predecessors = leads;
      entries = same;
      sealed = λ c. refl;
      joins = λ arm. refl;
      definition = λ u. refl;
      argument = λ u arm. refl;
      count = λ c i here. refl;
    }) in (
      record {
        sealed = still.arms.sealed;
        joined = still.arms.joined;
        entered = still.arms.entered;
        led = still.arms.led;
        leading = still.arms.leading;
        leading_apart = still.arms.leading_apart;
        entry_free = still.arms.entry_free;
        resolves = before.resolves;
        recorded = λ c y. record_changed blocks.recorded b x v c y ∙ ap (λ r. cond (y == x && c == b) (Some v) r) (before.recorded c y) ∙ sym (written y c);
        records_exist = λ c y u is.
            elim (is_recorded (y == x && c == b) v u (record_of s y c) (sym (written y c) ∙ is)) [
              | inl now ↦ omega (arith, now, before.answered n given)
              | inr old ↦ before.records_exist c y u old
            ];
        unrecorded = λ c y is.
            let old : ((y == x && c == b) ≡ false) × (record_of s y c ≡ None) = not_recorded (y == x && c == b) v (record_of s y c) (sym (written y c) ∙ is) in
            assigns_not_kept blocks after c y refl
            (λ k. kept (inside c k) y (λ at one. true_false (sym (both_hold x y b c one (inside_block at)) ∙ old.0)))
            (before.unrecorded c y old.1);
        unwritten = λ c k y below.
            kept (inside c k) y (λ at. absurd (omega (arith, below, inside_step at, ap blocks.count (inside_block at)))) ∙ before.unwritten c k y below;
        absent = before.absent;
        homes = before.homes;
        answered = before.answered;
        born_there = before.born_there;
        waiting = λ c p here. waiting_kept f f blocks after c p refl refl (waits.waiting c p here);
        completed = λ p here. absurd (omega (arith, here.1));
        pends = waits.pends;
        waiting_recorded = waits.waiting_recorded;
        complete_there = still.order.complete_there;
        complete_first = still.order.complete_first;
        waiting_order = still.order.waiting_order;
        completing_order = still.order.completing_order;
        passes = still.order.passes;
        instructions = λ c. instructions_kept f f blocks after c (own.insts c) extends refl (before.instructions c);
      },
      write_keeps blocks b x n
          (record {
            unassigned = none;
            is_given = given;
            open_block = open_place f s blocks b open_block before.joined;
          }) both.1,
      counts_kept own f s t blocks after both.2 leads (λ u. refl),
    )

pub write_item_described : (own : Own) (f : Body) (s t : SsaState) (blocks : Blocks) (b x n : ℕ) → DescribesSoundly own f s blocks → IsOpen f s b
    → (blocks.naming n).home ≢ start → Records s t x b (blocks.answer n) → SameBlocks s t → SamePredecessors s t
    → DescribesSoundly own f t (with_write (with_item blocks b) b x n)
write_item_described own f s t blocks b x n both open_block given written same leads =
    write_described own f s t (with_item blocks b) b x n (item_described own f s blocks b both open_block) open_block given (item_unassigned own f s blocks b x both.0) written same leads

-- USE -------------------------------------------------------------------------------------------------------------

pub names_kept : (naming : ℕ → Naming) (answer : ℕ → ℕ) (n v : ℕ) (new : Naming) → (naming n).home ≡ start → (m : ℕ) → (naming m).home ≢ start
    → (updated naming n new m ≡ naming m) × (updated answer n v m ≡ answer m)
names_kept naming answer n v new nowhere m given =
    let other : m ≢ n = λ same. given (ap (λ k. (naming k).home) same ∙ nowhere) in
    (updated-other naming n new m other, updated-other answer n v m other)

-- a name is new or as it was
pub name_cases : (naming : ℕ → Naming) (answer : ℕ → ℕ) (n v : ℕ) (new : Naming) (m : ℕ)
    → ((m ≡ n) × (updated naming n new m ≡ new) × (updated answer n v m ≡ v)) ⊎ ((m ≢ n) × (updated naming n new m ≡ naming m) × (updated answer n v m ≡ answer m))
name_cases naming answer n v new m =
    elim (cases_eq m n) [
      | inl same ↦ inl (same, updated-same naming n new m same, updated-same answer n v m same)
      | inr other ↦ inr (other, updated-other naming n new m other, updated-other answer n v m other)
    ]

reads_or_fresh : {x : ℕ} → ◌≡◌ {A = Origin} (reads x) fresh → ⊥
reads_or_fresh same = cc

pub new_name_item : (blocks : Blocks) (b n : ℕ) → IsNewName (state_of blocks) n → IsNewName (state_of (with_item blocks b)) n
new_name_item blocks b n name = record { new_name = name.new_name; unassigned = name.unassigned }

pub read_described : (own : Own) (f : Body) (s : SsaState) (blocks : Blocks) (b n x v : ℕ) → DescribesSoundly own f s blocks
    → IsNewName (state_of blocks) n → blocks.assigned (last_place blocks b) x ≡ None → Knows blocks b x v → v < length f.values
    → DescribesSoundly own f s (with_read blocks b n x v)
read_described own f s blocks b n x v both name none known exists =
    let before : Describes own f s [] blocks = both.0 in
    let after : Blocks = with_read blocks b n x v in
    let new : Naming = record { home = last_place blocks b; origin = reads x } in
    let cases : (m : ℕ) → ((m ≡ n) × (after.naming m ≡ new) × (after.answer m ≡ v)) ⊎ ((m ≢ n) × (after.naming m ≡ blocks.naming m) × (after.answer m ≡ blocks.answer m)) =
    name_cases blocks.naming blocks.answer n v new in
    let extends : Extends f f blocks after =
    record { values_more = omega arith; insts_more = omega arith; inst_same = λ i here. refl; constants_kept = λ constant bytes here. here; definition_same = λ u here. refl } in
    let kept : ArmsAndOrder own f s after =
    shape_kept own f s s blocks after before
    (record {
      predecessors = λ c. refl;
      entries = λ c. refl;
      sealed = λ c. refl;
      joins = λ arm. refl;
      definition = λ u. refl;
      argument = λ u arm. refl;
      count = λ c i here. refl;
    }) in (
      record {
        sealed = kept.arms.sealed;
        joined = kept.arms.joined;
        entered = kept.arms.entered;
        led = kept.arms.led;
        leading = kept.arms.leading;
        leading_apart = kept.arms.leading_apart;
        entry_free = kept.arms.entry_free;
        resolves = before.resolves;
        recorded = before.recorded;
        records_exist = before.records_exist;
        unrecorded = λ c y is. assigns_not_kept blocks after c y refl (λ k. refl) (before.unrecorded c y is);
        unwritten = before.unwritten;
        absent = before.absent;
        homes = λ u. homes_kept blocks after u refl (λ c known. known) (names_kept blocks.naming blocks.answer n v new name.new_name) (before.homes u);
        answered = λ m given.
            elim (cases m) [
              | inl now ↦ omega (arith, now.2, exists)
              | inr old ↦ omega (arith, old.2, before.answered m (λ none. given (ap (λ (k : Naming). k.home) old.1 ∙ none)))
            ];
        born_there = λ m given is_fresh.
            elim (cases m) [
              | inl now ↦ absurd (reads_or_fresh (sym (ap (λ (k : Naming). k.origin) now.1) ∙ is_fresh))
              | inr old ↦
                  let was : (blocks.function.definition (blocks.answer m) ≡ record { home = (blocks.naming m).home; kind = born m }) × (resolved f (blocks.answer m) ≡ blocks.answer m) =
                  before.born_there m (λ none. given (ap (λ (k : Naming). k.home) old.1 ∙ none)) (sym (ap (λ (k : Naming). k.origin) old.1) ∙ is_fresh) in (
                    ap blocks.function.definition old.2 ∙ was.0 ∙ ap (λ (k : Naming). record { home = k.home; kind = born m }) (sym old.1),
                    ap (λ w. resolved f w) old.2 ∙ was.1 ∙ sym old.2,
                  )
            ];
        waiting = λ c p here. waiting_kept f f blocks after c p refl refl (before.waiting c p here);
        completed = λ p here. absurd (omega (arith, here.1));
        pends = before.pends;
        waiting_recorded = before.waiting_recorded;
        complete_there = kept.order.complete_there;
        complete_first = kept.order.complete_first;
        waiting_order = kept.order.waiting_order;
        completing_order = kept.order.completing_order;
        passes = kept.order.passes;
        instructions = λ c. instructions_kept f f blocks after c (own.insts c) extends refl (before.instructions c);
      },
      read_keeps blocks b n x v (record { name = name; unassigned = none; known = known }) both.1,
      counts_kept own f s s blocks after both.2 (λ c. refl) (λ u. refl),
    )

pub read_item_described : (own : Own) (f : Body) (s : SsaState) (blocks : Blocks) (b n x v : ℕ) → DescribesSoundly own f s blocks → IsOpen f s b
    → IsNewName (state_of blocks) n → Knows blocks b x v → v < length f.values
    → DescribesSoundly own f s (with_read (with_item blocks b) b n x v)
read_item_described own f s blocks b n x v both open_block name known exists =
    read_described own f s (with_item blocks b) b n x v (item_described own f s blocks b both open_block) (new_name_item blocks b n name)
    (item_unassigned own f s blocks b x both.0) (record { value = known.value; is_recorded = known.is_recorded; resolves = known.resolves }) exists
