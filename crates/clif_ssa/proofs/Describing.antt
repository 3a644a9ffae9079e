-- What tables still say of a function as both grow.
use Rattle.std.proofs.Common.{◌≡◌, ◌≢◌, ℕ, ◌<◌, ◌≤◌, ◌==◌, ◌&&◌, Bool, true, false, List, [], ◌∷◌, length, refl, ap, arith, sym, ◌∙◌, subst, ◌⊎◌, inl, inr}
use Rattle.std.specs.Prelude.{Option, Some, None, if◌then◌else◌, map, Contains, slice_get}
use Rattle.std.specs.List.{AllByRecursion}
use Rattle.std.proofs.lemmas.Grind.{common_steps}
use Rattle.std.proofs.lemmas.Bool.{cases_eq}
use Rattle.clif_ir.specs.Body.{Body, inst_at, block_at}
use Rattle.clif_instructions.specs.Members.{Once, place_of}
use Rattle.clif_instructions.specs.Instruction.{destinations}
use Rattle.clif_ir.specs.Reading.{param_home}
use Rattle.clif_instructions.specs.Edges.{targets}
use Rattle.clif_instructions.specs.declared.block_call.BlockArg.TheVariants.{Value}
use Rattle.clif_nodes.specs.declared.nodes.InstNode.{InstNode}
use Rattle.clif_paths.specs.Places.{Place, start, inside, Arm}
use Rattle.clif_paths.specs.State.{fresh, Kind, unborn, born, pending, complete, zero_of, Definition, Naming}
use Rattle.clif_paths.specs.Steps.{updated}
use Rattle.clif_paths.specs.Blocks.{Blocks, front, last_place, AssignsNot}
use Rattle.clif_paths.proofs.Tables.{updated-same, updated-other}
use Rattle.clif_records.specs.declared.tables.Pending.{Pending}
use Rattle.clif_ssa.specs.Own.{Own}
use Rattle.clif_records.specs.Tables.{is_yes, pending_of}
use Rattle.clif_ssa.specs.Ssa.{SsaState, sealed_of, predecessors_of, SamePredecessors}
use Rattle.clif_ssa.specs.LookUp.{branch_block}
use Rattle.clif_ssa.specs.Zeros.{ZeroAt, value_of_zero}
use Rattle.clif_ssa.proofs.Pooled.{KeepsConstants}
use Rattle.clif_ssa.proofs.ZeroTable.{has_zero_kept, zero_exists}
use Rattle.clif_ssa.specs.Sound.{Describes, EntryIsFree, IsZero, HasInstructions, IsWaiting, HomeFits, IsEdgeInto, InOrder, parameters_of, is_some_block, has_entry, entry_of, edge_target, args_of, passed_at, BelongsTo}
use Rattle.clif_ssa.proofs.Bodies.{param_exists}
use Rattle.clif_ssa.proofs.Ordering.{map_same, parameters_same}

-- the second function has what the first has, and maybe more behind it, and the second tables say the same of it
pub record Extends (f g : Body) (blocks blocks' : Blocks) : Type 0 where
  pub values_more : length f.values ≤ length g.values
  pub insts_more : length f.insts ≤ length g.insts
  pub inst_same : (i : ℕ) → i < length f.insts → inst_at g i ≡ inst_at f i
  pub constants_kept : KeepsConstants f g
  pub definition_same : (v : ℕ) → v < length f.values → blocks'.function.definition v ≡ blocks.function.definition v

pub zero_kept : (f g : Body) (blocks blocks' : Blocks) (b : ℕ) (z : ZeroAt) → Extends f g blocks blocks' → IsZero f blocks b z → IsZero g blocks' b z
zero_kept f g blocks blocks' b z extends zero =
    let exists : value_of_zero z < length f.values = zero_exists f z zero.stands in
    record {
      variable = zero.variable;
      stands = has_zero_kept f g z extends.values_more extends.insts_more extends.inst_same extends.constants_kept zero.stands;
      defined = extends.definition_same (value_of_zero z) exists ∙ zero.defined;
      others = λ v from below. extends.definition_same v (omega (arith, below, exists)) ∙ zero.others v from below;
    }

pub zeros_kept : (f g : Body) (blocks blocks' : Blocks) (b : ℕ) (zeros : List ZeroAt) → Extends f g blocks blocks'
    → AllByRecursion (IsZero f blocks b) zeros → AllByRecursion (IsZero g blocks' b) zeros
zeros_kept f g blocks blocks' b [] extends all = tt
zeros_kept f g blocks blocks' b (z ∷ zeros) extends all =
    (zero_kept f g blocks blocks' b z extends all.0, zeros_kept f g blocks blocks' b zeros extends all.1)

pub instructions_kept : (f g : Body) (blocks blocks' : Blocks) (b : ℕ) (own : List ℕ) → Extends f g blocks blocks'
    → (block_at g b).insts ≡ (block_at f b).insts → HasInstructions f blocks b own → HasInstructions g blocks' b own
instructions_kept f g blocks blocks' b own extends same has = record {
  zeros = has.zeros;
  in_order = same ∙ has.in_order;
  are_zeros = zeros_kept f g blocks blocks' b has.zeros extends has.are_zeros;
}

pub waiting_kept : (f g : Body) (blocks blocks' : Blocks) (b : ℕ) (p : Pending)
    → param_home g p.param ≡ param_home f p.param → blocks'.function.definition p.param ≡ blocks.function.definition p.param
    → IsWaiting f blocks b p → IsWaiting g blocks' b p
waiting_kept f g blocks blocks' b p same_home same_definition waits = record {
  parameter = same_home ∙ waits.parameter;
  defined = same_definition ∙ waits.defined;
}

pub waiting_exists : (f : Body) (blocks : Blocks) (b : ℕ) (p : Pending) → IsWaiting f blocks b p → p.param < length f.values
waiting_exists f blocks b p waits = param_exists f p.param b waits.parameter

-- names that are given keep their home and their answer
abbrev pub KeepsNames : Blocks → Blocks → Type 0
KeepsNames blocks blocks' =
    (n : ℕ) → (blocks.naming n).home ≢ start → (blocks'.naming n ≡ blocks.naming n) × (blocks'.answer n ≡ blocks.answer n)

-- blocks that are sealed stay so
abbrev pub KeepsSealed : Blocks → Blocks → Type 0
KeepsSealed blocks blocks' = (b : ℕ) → blocks.sealed b ≡ true → blocks'.sealed b ≡ true

pub home_kept : (blocks blocks' : Blocks) (v : ℕ) (k : Kind) → blocks'.function.definition v ≡ blocks.function.definition v
    → KeepsSealed blocks blocks' → KeepsNames blocks blocks' → HomeFits blocks v k → HomeFits blocks' v k
home_kept blocks blocks' v unborn same sealed names fits = ap (λ (d : Definition). d.home) same ∙ fits
home_kept blocks blocks' v (born n) same sealed names fits =
    let at : (blocks'.function.definition v).home ≡ (blocks.function.definition v).home = ap (λ (d : Definition). d.home) same in
    let named : (blocks.naming n).home ≡ (blocks.function.definition v).home = ap (λ (m : Naming). m.home) fits.0 in
    let kept : (blocks'.naming n ≡ blocks.naming n) × (blocks'.answer n ≡ blocks.answer n) = names n (λ none. fits.2 (sym named ∙ none)) in (
      kept.0 ∙ fits.0 ∙ ap (λ (p : Place). record { home = p; origin = fresh }) (sym at),
      kept.1 ∙ fits.1,
      λ none. fits.2 (sym at ∙ none),
    )
home_kept blocks blocks' v (pending x) same sealed names fits = (fits.0, ap (λ (d : Definition). d.home) same ∙ fits.1)
home_kept blocks blocks' v (complete x) same sealed names fits = (fits.0, ap (λ (d : Definition). d.home) same ∙ fits.1, sealed fits.0 fits.2)
home_kept blocks blocks' v (zero_of x) same sealed names fits = (fits.0, ap (λ (d : Definition). d.home) same ∙ fits.1)

-- the homes of values whose definition stays
pub homes_kept : (blocks blocks' : Blocks) (v : ℕ) → blocks'.function.definition v ≡ blocks.function.definition v → KeepsSealed blocks blocks' → KeepsNames blocks blocks'
    → HomeFits blocks v (blocks.function.definition v).kind → HomeFits blocks' v (blocks'.function.definition v).kind
homes_kept blocks blocks' v same sealed names fits =
    subst (λ (d : Definition). HomeFits blocks' v d.kind) (sym same) (home_kept blocks blocks' v (blocks.function.definition v).kind same sealed names fits)

-- the block of a complete parameter is sealed
pub complete_sealed : (own : Own) (f : Body) (s : SsaState) (completing : List Pending) (blocks : Blocks) (b v : ℕ) {made_for : ℕ} → Describes own f s completing blocks
    → blocks.function.definition v ≡ record { home = front b; kind = complete made_for } → blocks.sealed b ≡ true
complete_sealed own f s completing blocks b v {made_for} before is =
    let fits : HomeFits blocks v (complete made_for) = subst (λ (k : Kind). HomeFits blocks v k) (ap (λ (d : Definition). d.kind) is) (before.homes v) in
    subst (λ c. blocks.sealed c ≡ true) (front_of (sym fits.1 ∙ ap (λ (d : Definition). d.home) is)) fits.2
  where
    front_of : {x y : ℕ} → front x ≡ front y → x ≡ y
    front_of same = cc

pub assigns_not_kept : (blocks blocks' : Blocks) (b x : ℕ) → blocks'.count b ≡ blocks.count b
    → ((k : ℕ) → blocks'.assigned (inside b k) x ≡ blocks.assigned (inside b k) x) → AssignsNot blocks b x → AssignsNot blocks' b x
assigns_not_kept blocks blocks' b x count same none = record { none = λ k below. same k ∙ none.none k (omega (arith, below, count)) }

-- ARMS ------------------------------------------------------------------------------------------------------------

-- what is known of the arms into fronts
pub record Arms (f : Body) (s : SsaState) (blocks : Blocks) : Type 0 where
  pub sealed : (b : ℕ) → blocks.sealed b ≡ (is_yes (sealed_of s b) && has_entry f.layout)
  pub joined : (arm : Arm) → blocks.joins arm ≡ true
      → (b : ℕ) × (arm.target ≡ front b) × (is_yes (sealed_of s b) ≡ true)
      × (((arm.source ≡ start) × (entry_of f ≡ Some b)) ⊎ IsEdgeInto f s blocks b arm)
  pub entered : (entry : ℕ) → entry_of f ≡ Some entry → blocks.sealed entry ≡ true
      → blocks.joins (record { source = start; target = front entry; edge = 0 }) ≡ true
  pub led : (b : ℕ) (arm : Arm) → is_yes (sealed_of s b) ≡ true → arm.target ≡ front b → IsEdgeInto f s blocks b arm
      → blocks.joins arm ≡ true
  pub leading : (b i : ℕ) → Contains (predecessors_of s b) i → (i < length f.insts) × (has_entry f.layout ≡ true)
  pub leading_apart : (b : ℕ) → Once (map (branch_block f) (predecessors_of s b))
  pub entry_free : EntryIsFree f s

pub arms_of : (own : Own) (f : Body) (s : SsaState) (completing : List Pending) (blocks : Blocks) → Describes own f s completing blocks → Arms f s blocks
arms_of own f s completing blocks before = record {
  sealed = before.sealed;
  joined = before.joined;
  entered = before.entered;
  led = before.led;
  leading = before.leading;
  leading_apart = before.leading_apart;
  entry_free = before.entry_free;
}

-- the branches that lead to blocks, where their edges lead, and the last places of their blocks are as before
pub record SameEdges (f g : Body) (s t : SsaState) (blocks blocks' : Blocks) : Type 0 where
  pub predecessors_same : SamePredecessors s t
  pub block_same : (b i : ℕ) → Contains (predecessors_of s b) i → branch_block g i ≡ branch_block f i
  pub target_same : (b i k : ℕ) → Contains (predecessors_of s b) i → edge_target g i k ≡ edge_target f i k
  pub count_same : (b i : ℕ) → Contains (predecessors_of s b) i → blocks'.count (branch_block f i) ≡ blocks.count (branch_block f i)

pub same_last : (f g : Body) (s t : SsaState) (blocks blocks' : Blocks) (b i : ℕ) → SameEdges f g s t blocks blocks' → Contains (predecessors_of s b) i
    → last_place blocks' (branch_block g i) ≡ last_place blocks (branch_block f i)
same_last f g s t blocks blocks' b i same here =
    ap (λ c. last_place blocks' c) (same.block_same b i here) ∙ ap (λ k. inside (branch_block f i) k) (same.count_same b i here)

pub edge_kept : (f g : Body) (s t : SsaState) (blocks blocks' : Blocks) (b : ℕ) (arm : Arm) → SameEdges f g s t blocks blocks' → IsEdgeInto f s blocks b arm → IsEdgeInto g t blocks' b arm
edge_kept f g s t blocks blocks' b arm same edge = record {
  branch = edge.branch;
  leads = subst (λ xs. Contains xs edge.branch) (sym (same.predecessors_same b)) edge.leads;
  from = edge.from ∙ sym (same_last f g s t blocks blocks' b edge.branch same edge.leads);
  to = same.target_same b edge.branch arm.edge edge.leads ∙ edge.to;
}

-- the other way round, with the same branch
abbrev pub edge_before : (f g : Body) (s t : SsaState) (blocks blocks' : Blocks) (b : ℕ) (arm : Arm) → SameEdges f g s t blocks blocks' → IsEdgeInto g t blocks' b arm → IsEdgeInto f s blocks b arm
edge_before f g s t blocks blocks' b arm same edge =
    let leads : Contains (predecessors_of s b) edge.branch = subst (λ xs. Contains xs edge.branch) (same.predecessors_same b) edge.leads in
    record {
      branch = edge.branch;
      leads = leads;
      from = edge.from ∙ same_last f g s t blocks blocks' b edge.branch same leads;
      to = sym (same.target_same b edge.branch arm.edge leads) ∙ edge.to;
    }

-- the instructions that were there are as before, and the blocks in which branches stand have no new items
pub same_edges : (f g : Body) (s t : SsaState) (blocks blocks' : Blocks) → Arms f s blocks → Extends f g blocks blocks' → SamePredecessors s t
    → ((b i : ℕ) → Contains (predecessors_of s b) i → blocks'.count (branch_block f i) ≡ blocks.count (branch_block f i))
    → SameEdges f g s t blocks blocks'
same_edges f g s t blocks blocks' arms extends same counts = record {
  predecessors_same = same;
  block_same = λ b i here. ap (λ (n : InstNode). n.block) (extends.inst_same i (arms.leading b i here).0);
  target_same = λ b i k here. ap (λ (n : InstNode). slice_get (targets (destinations n.shape)) k) (extends.inst_same i (arms.leading b i here).0);
  count_same = counts;
}

-- what decides of arms is as before
pub record SameArms (f g : Body) (s t : SsaState) (blocks blocks' : Blocks) : Type 0 where
  pub edges : SameEdges f g s t blocks blocks'
  pub insts_more : length f.insts ≤ length g.insts
  pub entry : entry_of g ≡ entry_of f
  pub same_yes : (b : ℕ) → is_yes (sealed_of t b) ≡ is_yes (sealed_of s b)
  pub sealed : (b : ℕ) → blocks'.sealed b ≡ blocks.sealed b
  pub joins : (arm : Arm) → blocks'.joins arm ≡ blocks.joins arm

-- layouts that begin with one block, or both with none, both have an entry or have none
entry_there : (ours theirs : List ℕ) → slice_get ours 0 ≡ slice_get theirs 0 → has_entry ours ≡ has_entry theirs
entry_there [] [] same = refl
entry_there [] (b ∷ theirs) same = let no_way : ⊥ = cc in absurd no_way
entry_there (b ∷ ours) [] same = let no_way : ⊥ = cc in absurd no_way
entry_there (b ∷ ours) (c ∷ theirs) same = refl

pub arms_kept : (f g : Body) (s t : SsaState) (blocks blocks' : Blocks) → SameArms f g s t blocks blocks' → Arms f s blocks → Arms g t blocks'
arms_kept f g s t blocks blocks' same arms = record {
  sealed = λ b. same.sealed b ∙ arms.sealed b ∙ ap (λ r. r && has_entry f.layout) (sym (same.same_yes b)) ∙ ap (λ r. is_yes (sealed_of t b) && r) (sym (entry_there g.layout f.layout same.entry));
  joined = λ arm known.
      let there : (b : ℕ) × (arm.target ≡ front b) × (is_yes (sealed_of s b) ≡ true) × (((arm.source ≡ start) × (entry_of f ≡ Some b)) ⊎ IsEdgeInto f s blocks b arm) =
      arms.joined arm (sym (same.joins arm) ∙ known) in (
        there.0,
        there.1,
        same.same_yes there.0 ∙ there.2,
        elim there.3 [
          | inl enters ↦ inl (enters.0, same.entry ∙ enters.1)
          | inr edge ↦ inr (edge_kept f g s t blocks blocks' there.0 arm same.edges edge)
        ],
      );
  entered = λ entry is sealed. same.joins _ ∙ arms.entered entry (sym same.entry ∙ is) (sym (same.sealed entry) ∙ sealed);
  led = λ b arm sealed at edge. same.joins arm ∙ arms.led b arm (sym (same.same_yes b) ∙ sealed) at (edge_before f g s t blocks blocks' b arm same.edges edge);
  leading = λ b i here.
      let old : (i < length f.insts) × (has_entry f.layout ≡ true) = arms.leading b i (subst (λ xs. Contains xs i) (same.edges.predecessors_same b) here) in
      (omega (arith, old.0, same.insts_more), entry_there g.layout f.layout same.entry ∙ old.1);
  leading_apart = λ b.
      subst (λ xs. Once (map (branch_block g) xs)) (sym (same.edges.predecessors_same b))
      (subst Once (sym (map_same (branch_block g) (branch_block f) (predecessors_of s b) (same.edges.block_same b))) (arms.leading_apart b));
  entry_free = λ entry is sealed.
      same.edges.predecessors_same entry ∙ arms.entry_free entry (sym same.entry ∙ is) (sym (same.same_yes entry) ∙ sealed);
}

-- PARAMETERS ------------------------------------------------------------------------------------------------------

-- what is a complete parameter, or one that waits, was so before
pub record KeepsKinds (blocks blocks' : Blocks) : Type 0 where
  pub complete_before : {made_for : ℕ} (v b : ℕ) → blocks'.function.definition v ≡ record { home = front b; kind = complete made_for }
      → blocks.function.definition v ≡ record { home = front b; kind = complete made_for }
  pub pending_before : (v b x : ℕ) → blocks'.function.definition v ≡ record { home = front b; kind = pending x }
      → blocks.function.definition v ≡ record { home = front b; kind = pending x }

pub same_kinds : (blocks blocks' : Blocks) → ((v : ℕ) → blocks'.function.definition v ≡ blocks.function.definition v) → KeepsKinds blocks blocks'
same_kinds blocks blocks' same = record { complete_before = λ v b is. sym (same v) ∙ is; pending_before = λ v b x is. sym (same v) ∙ is }

-- the same where one definition is new
pub new_kinds : (blocks blocks' : Blocks) (z : ℕ) (new : Definition) → blocks'.function.definition z ≡ new
    → ((v : ℕ) → v ≢ z → blocks'.function.definition v ≡ blocks.function.definition v) → ((x : ℕ) → new.kind ≢ complete x) → ((x : ℕ) → new.kind ≢ pending x) → KeepsKinds blocks blocks'
new_kinds blocks blocks' z new is_new is_old no_complete no_pending = record {
  complete_before = λ {made_for} v b is.
      elim (cases_eq v z) [
        | inl same ↦ absurd (no_complete made_for (sym (kind_of v same) ∙ ap (λ (d : Definition). d.kind) is))
        | inr other ↦ sym (is_old v other) ∙ is
      ];
  pending_before = λ v b x is.
      elim (cases_eq v z) [
        | inl same ↦ absurd (no_pending x (sym (kind_of v same) ∙ ap (λ (d : Definition). d.kind) is))
        | inr other ↦ sym (is_old v other) ∙ is
      ];
}
  where
    kind_of : (v : ℕ) → v ≡ z → (blocks'.function.definition v).kind ≡ new.kind
    kind_of v same = ap (λ w. (blocks'.function.definition w).kind) same ∙ ap (λ (d : Definition). d.kind) is_new

-- the order of parameters, and what edges pass
pub record Ordered (own : Own) (f : Body) (s : SsaState) (completing : List Pending) (blocks : Blocks) : Type 0 where
  pub complete_there : {made_for : ℕ} (b v : ℕ) → blocks.function.definition v ≡ record { home = front b; kind = complete made_for } → param_home f v ≡ Some b
  pub complete_first : {made_for : ℕ} (b v u x : ℕ) → blocks.function.definition v ≡ record { home = front b; kind = complete made_for }
      → blocks.function.definition u ≡ record { home = front b; kind = pending x } → param_home f u ≡ Some b
      → place_of v (block_at f b).params < place_of u (block_at f b).params
  pub waiting_order : (b : ℕ) → InOrder (block_at f b).params (pending_of (sealed_of s b))
  pub completing_order : (b : ℕ) → InOrder (block_at f b).params (parameters_of f b completing)
  pub passes : {made_for : ℕ} (b v : ℕ) (arm : Arm) (edge : IsEdgeInto f s blocks b arm)
      → blocks.function.definition v ≡ record { home = front b; kind = complete made_for } → arm.target ≡ front b
      → (j : ℕ) → BelongsTo own b edge.branch arm.edge (place_of v (block_at f b).params) j
      → passed_at f edge.branch arm.edge j ≡ Some (Value (blocks.function.argument v arm))

pub ordered_of : (own : Own) (f : Body) (s : SsaState) (completing : List Pending) (blocks : Blocks) → Describes own f s completing blocks → Ordered own f s completing blocks
ordered_of own f s completing blocks before = record {
  complete_there = before.complete_there;
  complete_first = before.complete_first;
  waiting_order = before.waiting_order;
  completing_order = before.completing_order;
  passes = before.passes;
}

-- what edges pass at each place is as before
pub same_passed : (f g : Body) (s : SsaState) (blocks blocks' : Blocks) → Arms f s blocks → Extends f g blocks blocks' → (b i k j : ℕ) → Contains (predecessors_of s b) i
    → passed_at g i k j ≡ passed_at f i k j
same_passed f g s blocks blocks' arms extends b i k j here =
    ap (λ (n : InstNode). slice_get (args_of (slice_get (destinations n.shape) k)) j) (extends.inst_same i (arms.leading b i here).0)

-- what decides of parameters is as before
pub record SameOrder (f g : Body) (s t : SsaState) (blocks blocks' : Blocks) : Type 0 where
  pub edges : SameEdges f g s t blocks blocks'
  pub passed : (b i k j : ℕ) → Contains (predecessors_of s b) i → passed_at g i k j ≡ passed_at f i k j
  pub kinds : KeepsKinds blocks blocks'
  pub params : (b : ℕ) → (block_at g b).params ≡ (block_at f b).params
  pub homes : (v : ℕ) → param_home g v ≡ param_home f v
  pub entries : (b : ℕ) → pending_of (sealed_of t b) ≡ pending_of (sealed_of s b)
  pub arguments : (v : ℕ) (arm : Arm) → blocks'.function.argument v arm ≡ blocks.function.argument v arm

-- The caller made as many parameters as before, and the branches that lead to blocks pass as much of its.
pub record SameGiven (own own' : Own) (s : SsaState) : Type 0 where
  pub params : (b : ℕ) → length (own'.params b) ≡ length (own.params b)
  pub passed : (b i k : ℕ) → Contains (predecessors_of s b) i → length (own'.passed i k) ≡ length (own.passed i k)

pub ordered_given : (own own' : Own) (f : Body) (s : SsaState) (completing : List Pending) (blocks : Blocks) → SameGiven own own' s → Ordered own f s completing blocks → Ordered own' f s completing blocks
ordered_given own own' f s completing blocks same order = record {
  complete_there = order.complete_there;
  complete_first = order.complete_first;
  waiting_order = order.waiting_order;
  completing_order = order.completing_order;
  passes = λ b v arm edge is at j belongs.
      let given : length (own'.passed edge.branch arm.edge) ≡ length (own.passed edge.branch arm.edge) = same.passed b edge.branch arm.edge edge.leads in
      let callers : length (own'.params b) ≡ length (own.params b) = same.params b in
      order.passes b v arm edge is at j (omega (arith, belongs, given, callers));
}

pub ordered_kept : (own : Own) (f g : Body) (s t : SsaState) (completing : List Pending) (blocks blocks' : Blocks) → SameOrder f g s t blocks blocks'
    → Ordered own f s completing blocks → Ordered own g t completing blocks'
ordered_kept own f g s t completing blocks blocks' same order = record {
  complete_there = λ b v is. same.homes v ∙ order.complete_there b v (same.kinds.complete_before v b is);
  complete_first = λ b v u x is waits home.
      subst (λ ps. place_of v ps < place_of u ps) (sym (same.params b))
      (order.complete_first b v u x (same.kinds.complete_before v b is) (same.kinds.pending_before u b x waits) (sym (same.homes u) ∙ home));
  waiting_order = λ b.
      subst (λ ps. InOrder ps (pending_of (sealed_of t b))) (sym (same.params b))
      (subst (λ qs. InOrder (block_at f b).params qs) (sym (same.entries b)) (order.waiting_order b));
  completing_order = λ b.
      subst (λ ps. InOrder ps (parameters_of g b completing)) (sym (same.params b))
      (subst (λ qs. InOrder (block_at f b).params qs) (sym (parameters_same f g b completing (λ p here. ap (is_some_block b) (same.homes p.param)))) (order.completing_order b));
  passes = λ b v arm edge is at j belongs.
      let old : IsEdgeInto f s blocks b arm = edge_before f g s t blocks blocks' b arm same.edges edge in
      same.passed b edge.branch arm.edge j old.leads
      ∙ order.passes b v arm old (same.kinds.complete_before v b is) at j (subst (λ (ps : List ℕ). BelongsTo own b edge.branch arm.edge (place_of v ps) j) (same.params b) belongs)
      ∙ ap (λ w. Some (Value w)) (sym (same.arguments v arm));
}

-- RECORDS ---------------------------------------------------------------------------------------------------------

-- a table of records in which one was changed says what the state with one new record says
pub record_changed : (table : ℕ → ℕ → Option ℕ) (b x v c y : ℕ)
    → updated table b (updated (table b) x (Some v)) c y ≡ (if y == x && c == b then Some v else table c y)
record_changed table b x v c y =
    elim (cases_eq c b) [
      | inl here ↦
          ap (λ t. t y) (updated-same table b (updated (table b) x (Some v)) c here)
          ∙ elim (cases_eq y x) [
            | inl same ↦ updated-same (table b) x (Some v) y same ∙ grind (arith, common_steps, here, same)
            | inr other ↦ updated-other (table b) x (Some v) y other ∙ ap (λ d. table d y) (sym here) ∙ grind (arith, common_steps, here, other)
          ]
      | inr apart ↦ ap (λ t. t y) (updated-other table b (updated (table b) x (Some v)) c apart) ∙ grind (arith, common_steps, apart)
    ]

none_or_some : {x : ℕ} → ◌≡◌ {A = Option ℕ} (Some x) None → ⊥
none_or_some same = cc

same_some : {x y : ℕ} → ◌≡◌ {A = Option ℕ} (Some x) (Some y) → x ≡ y
same_some same = cc

pub not_recorded : (test : Bool) (v : ℕ) (old : Option ℕ) → (if test then Some v else old) ≡ None → (test ≡ false) × (old ≡ None)
not_recorded true v old is = absurd (none_or_some is)
not_recorded false v old is = (refl, is)

pub is_recorded : (test : Bool) (v w : ℕ) (old : Option ℕ) → (if test then Some v else old) ≡ Some w → (v ≡ w) ⊎ (old ≡ Some w)
is_recorded true v w old is = inl (same_some is)
is_recorded false v w old is = inr is

pub recorded_here : (x b v : ℕ) (old : Option ℕ) → (if x == x && b == b then Some v else old) ≡ Some v
recorded_here x b v old = grind (arith, common_steps)
