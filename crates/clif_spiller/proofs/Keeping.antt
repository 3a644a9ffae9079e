-- What stays of a function through changes one after the other, and what is known of slots and plans with it.
use Rattle.std.proofs.Common.{◌≡◌, ◌≢◌, ◌<◌, ◌≤◌, ◌∙◌, ◌-◌, ℕ, zero, suc, List, [], ◌∷◌, ◌++◌, length, get_or, set, inl, inr, refl, sym, ap, subst, arith, length-append, append_assoc}
use Rattle.std.specs.Prelude.{slice_get, slice_index_or, Option, None, Some, true, Result, Ok, Err, IfOk, IfSome, OnOk}
use Rattle.std.proofs.Math.ListN.{get_or-append}
use Rattle.std.proofs.lemmas.List.{append-nil}
use Rattle.clif_types.specs.declared.stackmap.UserStackMapEntry.{UserStackMapEntry}
use Rattle.clif_types.specs.StackSlot.{StackSlotShape}
use Rattle.clif_types.specs.declared.types.«Type».{«Type»}
use Rattle.clif_instructions.specs.declared.insert_at.InsertAt.{InsertAt}
use Rattle.clif_instructions.specs.declared.instructions.InstructionData.{InstructionData}
use Rattle.clif_instructions.specs.Members.{Stands, put_at}
use Rattle.clif_instructions.proofs.Lists.{at_append, at_set, below_or_not}
use Rattle.clif_tables.specs.Lists.{TableLists, with_stack_map}
use Rattle.clif_tables.specs.Entries.{AStackSlot, with_entry}
use Rattle.clif_nodes.specs.declared.nodes.ValueOrigin.TheVariants.{Param}
use Rattle.clif_nodes.specs.declared.nodes.ValueNode.{ValueNode}
use Rattle.clif_nodes.specs.declared.nodes.InstNode.{InstNode}
use Rattle.clif_nodes.specs.Nodes.{BlockNode, empty_block, no_inst, no_value, result_nodes}
use Rattle.clif_ir.specs.Body.{Body, alias_of_origin, block_at, inst_at, value_at}
use Rattle.clif_ir.specs.Changes.{inst_node, put_behind, with_block, with_cold, with_inst, with_layout_after, with_param, with_shape, with_tables}
use Rattle.clif_ir.proofs.KeepsInst.{alias_of-result_nodes}
use Rattle.clif_ir.proofs.Orders.{put_behind-first, put_behind-stands}
use Rattle.clif_stack_slots.specs.Sizes.{FitsStackMap}
use Rattle.clif_stack_slots.specs.declared.slots.StackSlots.{StackSlots}
use Rattle.clif_spiller.specs.Keeping.{Keeps, NoAliases}
use Rattle.clif_spiller.specs.Plans.{GoesOn, IsPlan, KnowsSlots, MayBeSpilled}
use Rattle.clif_spiller.specs.declared.plan.Plan.{Plan}

pub keeps_refl : (n : ℕ) (f : Body) → Keeps n f f
keeps_refl n f = record {
  values = [];
  values_are = sym (append-nil f.values);
  no_aliases = λ k inside. absurd (omega (arith, inside));
  slots = [];
  slots_are = sym (append-nil f.tables.stack_slots);
  tables = refl;
  insts = omega arith;
  results = λ i inside. refl;
  homes = λ i inside. refl;
  sources = λ i inside. refl;
  blocks = omega arith;
  params = λ b inside. refl;
  cold = λ b inside. refl;
  layout = λ b stands. stands;
  entry = refl;
  name = refl;
  signature = refl;
}

no_aliases-append : (xs ys : List ValueNode) → NoAliases xs → NoAliases ys → NoAliases (xs ++ ys)
no_aliases-append xs ys first second k inside =
    at_append (λ (node : ValueNode). alias_of_origin node.origin ≡ None) xs ys k no_value (first k)
    (λ past. second (k - length xs) (omega (arith, past, inside, length-append xs ys)))

pub keeps_trans : (n : ℕ) (f g h : Body) → Keeps n f g → Keeps n g h → Keeps n f h
keeps_trans n f g h p q = record {
  values = p.values ++ q.values;
  values_are = q.values_are ∙ ap (λ xs. xs ++ q.values) p.values_are ∙ append_assoc f.values p.values q.values;
  no_aliases = no_aliases-append p.values q.values p.no_aliases q.no_aliases;
  slots = p.slots ++ q.slots;
  slots_are = q.slots_are ∙ ap (λ xs. xs ++ q.slots) p.slots_are ∙ append_assoc f.tables.stack_slots p.slots q.slots;
  tables = q.tables ∙ ap (λ (t : TableLists). record t { stack_slots = h.tables.stack_slots; stack_maps = h.tables.stack_maps }) p.tables;
  insts = omega (arith, p.insts, q.insts);
  results = λ i inside. q.results i (omega (arith, inside, p.insts)) ∙ p.results i inside;
  homes = λ i inside. q.homes i (omega (arith, inside, p.insts)) ∙ p.homes i inside;
  sources = λ i inside. q.sources i (omega (arith, inside, p.insts)) ∙ p.sources i inside;
  blocks = omega (arith, p.blocks, q.blocks);
  params = λ b inside. q.params b inside ∙ p.params b inside;
  cold = λ b inside. q.cold b inside ∙ p.cold b inside;
  layout = λ b stands. q.layout b (p.layout b stands);
  entry = q.entry ∙ p.entry;
  name = q.name ∙ p.name;
  signature = q.signature ∙ p.signature;
}

-- of fewer blocks
pub keeps_fewer : (m n : ℕ) (f g : Body) → m ≤ n → Keeps n f g → Keeps m f g
keeps_fewer m n f g fewer p = record {
  values = p.values;
  values_are = p.values_are;
  no_aliases = p.no_aliases;
  slots = p.slots;
  slots_are = p.slots_are;
  tables = p.tables;
  insts = p.insts;
  results = p.results;
  homes = p.homes;
  sources = p.sources;
  blocks = p.blocks;
  params = λ b inside. p.params b (omega (arith, inside, fewer));
  cold = λ b inside. p.cold b (omega (arith, inside, fewer));
  layout = p.layout;
  entry = p.entry;
  name = p.name;
  signature = p.signature;
}

module _ (n : ℕ) (f g : Body) (p : Keeps n f g) where
  pub more_values : length f.values ≤ length g.values
  more_values = omega (arith, ap (λ (xs : List ValueNode). length xs) p.values_are, length-append f.values p.values)

  pub more_slots : length f.tables.stack_slots ≤ length g.tables.stack_slots
  more_slots = omega (arith, ap (λ (xs : List StackSlotShape). length xs) p.slots_are, length-append f.tables.stack_slots p.slots)

  pub same_value : (v : ℕ) → v < length f.values → value_at g v ≡ value_at f v
  same_value v inside = ap (λ (xs : List ValueNode). get_or xs v no_value) p.values_are ∙ get_or-append f.values p.values no_value v inside

  pub spillable_stays : (v : ℕ) → MayBeSpilled f v → MayBeSpilled g v
  spillable_stays v may = record {
    exists = omega (arith, may.exists, more_values);
    fits = subst (λ (node : ValueNode). FitsStackMap node.ty) (sym (same_value v may.exists)) may.fits;
  }

  pub plan_stays : (plan : Plan) → IsPlan f plan → IsPlan g plan
  plan_stays plan is = record { named = is.named; spillable = λ v member. spillable_stays v (is.spillable v member) }

  pub slots_stay : (slots : StackSlots) → KnowsSlots f slots → KnowsSlots g slots
  slots_stay slots knows = record {
    values = λ v slot is. spillable_stays v (knows.values v slot is);
    given = λ v slot is. omega (arith, knows.given v slot is, more_slots);
    free = λ size slot member. omega (arith, knows.free size slot member, more_slots);
  }

pub goes_on_refl : (n : ℕ) (f : Body) (a : StackSlots) → KnowsSlots f a → GoesOn n f a f a
goes_on_refl n f a knows = record { keeps = keeps_refl n f; slots = knows }

pub goes_on_trans : (n : ℕ) (f : Body) (a : StackSlots) (g : Body) (b : StackSlots) (h : Body) (c : StackSlots)
    → GoesOn n f a g b → GoesOn n g b h c → GoesOn n f a h c
goes_on_trans n f a g b h c p q = record { keeps = keeps_trans n f g h p.keeps q.keeps; slots = q.slots }

-- CHANGES ---------------------------------------------------------------------------------------------------------------

set_past : {A : Type 0} (xs : List A) (i : ℕ) (x : A) → length xs ≤ i → set xs i x ≡ xs
set_past [] i x past = refl
set_past (y ∷ xs) zero x past = absurd (omega (arith, past))
set_past (y ∷ xs) (suc i) x past = ap (λ ys. y ∷ ys) (set_past xs i x (omega (arith, past)))

-- what holds of the old entry holds after an entry is replaced, or after none is
pub at_set_or_not : {X : Type 0} (P : X → Type 0) (xs : List X) (i : ℕ) (x : X) (k : ℕ) (d : X)
    → (k ≡ i → P x) → P (get_or xs k d) → P (get_or (set xs i x) k d)
at_set_or_not P xs i x k d new old =
    elim (below_or_not i (length xs)) [
      | inl inside ↦ at_set P xs i x k d inside new (λ _. old)
      | inr past ↦ subst (λ ys. P (get_or ys k d)) (sym (set_past xs i x past)) old
    ]

pub length_set : {X : Type 0} (xs : List X) (i : ℕ) (x : X) → length (set xs i x) ≡ length xs
length_set [] i x = refl
length_set (y ∷ xs) zero x = refl
length_set (y ∷ xs) (suc i) x = ap suc (length_set xs i x)

-- an instruction comes
pub with_inst_keeps : (n : ℕ) (f : Body) (b : ℕ) (at : InsertAt) (shape : InstructionData) (types : List «Type») (loc : ℕ)
    → Keeps n f (with_inst f b at shape types loc)
with_inst_keeps n f b at shape types loc =
    let old : (i : ℕ) → i < length f.insts → inst_at (with_inst f b at shape types loc) i ≡ inst_at f i =
    λ i inside. get_or-append f.insts (inst_node f b shape types loc ∷ []) no_inst i inside in
    record {
      values = result_nodes (length f.insts) 0 types;
      values_are = refl;
      no_aliases = λ k inside. alias_of-result_nodes (length f.insts) 0 types k;
      slots = [];
      slots_are = sym (append-nil f.tables.stack_slots);
      tables = refl;
      insts = omega (arith, length-append f.insts (inst_node f b shape types loc ∷ []));
      results = λ i inside. ap (λ (m : InstNode). m.results) (old i inside);
      homes = λ i inside. ap (λ (m : InstNode). m.block) (old i inside);
      sources = λ i inside. ap (λ (m : InstNode). m.srcloc) (old i inside);
      blocks = omega (arith, length_set f.blocks b (record (block_at f b) { insts = put_at at (length f.insts) (block_at f b).insts }));
      params = λ c inside. at_set_or_not (λ (m : BlockNode). m.params ≡ (block_at f c).params) f.blocks b _ c empty_block (λ same. ap (λ k. (block_at f k).params) (sym same)) refl;
      cold = λ c inside. at_set_or_not (λ (m : BlockNode). m.is_cold ≡ (block_at f c).is_cold) f.blocks b _ c empty_block (λ same. ap (λ k. (block_at f k).is_cold) (sym same)) refl;
      layout = λ c stands. stands;
      entry = refl;
      name = refl;
      signature = refl;
    }

-- an instruction gets another shape
pub with_shape_keeps : (n : ℕ) (f : Body) (i : ℕ) (shape : InstructionData) → Keeps n f (with_shape f i shape)
with_shape_keeps n f i shape = record {
  values = [];
  values_are = sym (append-nil f.values);
  no_aliases = λ k inside. absurd (omega (arith, inside));
  slots = [];
  slots_are = sym (append-nil f.tables.stack_slots);
  tables = refl;
  insts = omega (arith, length_set f.insts i (record (inst_at f i) { shape = shape }));
  results = λ j inside. at_set_or_not (λ (m : InstNode). m.results ≡ (inst_at f j).results) f.insts i _ j no_inst (λ same. ap (λ k. (inst_at f k).results) (sym same)) refl;
  homes = λ j inside. at_set_or_not (λ (m : InstNode). m.block ≡ (inst_at f j).block) f.insts i _ j no_inst (λ same. ap (λ k. (inst_at f k).block) (sym same)) refl;
  sources = λ j inside. at_set_or_not (λ (m : InstNode). m.srcloc ≡ (inst_at f j).srcloc) f.insts i _ j no_inst (λ same. ap (λ k. (inst_at f k).srcloc) (sym same)) refl;
  blocks = omega arith;
  params = λ b inside. refl;
  cold = λ b inside. refl;
  layout = λ b stands. stands;
  entry = refl;
  name = refl;
  signature = refl;
}

-- slots come, or a stack map
pub with_tables_keeps : (n : ℕ) (f : Body) (u : TableLists) (slots : List StackSlotShape) → u.stack_slots ≡ f.tables.stack_slots ++ slots
    → u ≡ record f.tables { stack_slots = u.stack_slots; stack_maps = u.stack_maps } → Keeps n f (with_tables f u)
with_tables_keeps n f u slots more tables = record {
  values = [];
  values_are = sym (append-nil f.values);
  no_aliases = λ k inside. absurd (omega (arith, inside));
  slots = slots;
  slots_are = more;
  tables = tables;
  insts = omega arith;
  results = λ i inside. refl;
  homes = λ i inside. refl;
  sources = λ i inside. refl;
  blocks = omega arith;
  params = λ b inside. refl;
  cold = λ b inside. refl;
  layout = λ b stands. stands;
  entry = refl;
  name = refl;
  signature = refl;
}

pub with_stack_map_keeps : (n : ℕ) (f : Body) (inst : ℕ) (map : List UserStackMapEntry) → Keeps n f (with_tables f (with_stack_map f.tables inst map))
with_stack_map_keeps n f inst map = with_tables_keeps n f (with_stack_map f.tables inst map) [] (sym (append-nil f.tables.stack_slots)) refl

pub with_slot_keeps : (n : ℕ) (f : Body) (slot : StackSlotShape) → Keeps n f (with_tables f (with_entry f.tables (AStackSlot slot)))
with_slot_keeps n f slot = with_tables_keeps n f (with_entry f.tables (AStackSlot slot)) (slot ∷ []) refl refl

-- blocks and their layout change, and parameters come to blocks from the number on
pub with_blocks_keeps : (n : ℕ) (f : Body) (values : List ValueNode) (blocks : List BlockNode) (order : List ℕ) → NoAliases values
    → length f.blocks ≤ length blocks
    → ((b : ℕ) → b < n → ((slice_index_or blocks b empty_block).params ≡ (block_at f b).params) × ((slice_index_or blocks b empty_block).is_cold ≡ (block_at f b).is_cold))
    → ((b : ℕ) → Stands b f.layout → Stands b order) → slice_get order 0 ≡ slice_get f.layout 0
    → Keeps n f (record f { values = f.values ++ values; blocks = blocks; layout = order })
with_blocks_keeps n f values blocks order no_aliases more same stay entry = record {
  values = values;
  values_are = refl;
  no_aliases = no_aliases;
  slots = [];
  slots_are = sym (append-nil f.tables.stack_slots);
  tables = refl;
  insts = omega arith;
  results = λ i inside. refl;
  homes = λ i inside. refl;
  sources = λ i inside. refl;
  blocks = more;
  params = λ b inside. (same b inside).0;
  cold = λ b inside. (same b inside).1;
  layout = stay;
  entry = entry;
  name = refl;
  signature = refl;
}

none : NoAliases []
none k inside = absurd (omega (arith, inside))

pub with_block_keeps : (f : Body) → Keeps (length f.blocks) f (with_block f)
with_block_keeps f =
    let old : (b : ℕ) → b < length f.blocks → block_at (with_block f) b ≡ block_at f b = λ b inside. get_or-append f.blocks (empty_block ∷ []) empty_block b inside in
    subst (λ (g : Body). Keeps (length f.blocks) f g) (ap (λ xs. record f { values = xs; blocks = f.blocks ++ empty_block ∷ [] }) (append-nil f.values))
    (with_blocks_keeps (length f.blocks) f [] (f.blocks ++ empty_block ∷ []) f.layout none (omega (arith, length-append f.blocks (empty_block ∷ [])))
    (λ b inside. (ap (λ (m : BlockNode). m.params) (old b inside), ap (λ (m : BlockNode). m.is_cold) (old b inside))) (λ b stands. stands) refl)

pub with_layout_after_keeps : (n : ℕ) (f : Body) (b after : ℕ) → Keeps n f (with_layout_after f b after)
with_layout_after_keeps n f b after =
    subst (λ (g : Body). Keeps n f g) (ap (λ xs. record f { values = xs; layout = put_behind b after f.layout }) (append-nil f.values))
    (with_blocks_keeps n f [] f.blocks (put_behind b after f.layout) none (omega arith) (λ c inside. (refl, refl))
    (λ c stands. put_behind-stands b after c f.layout stands) (put_behind-first b after f.layout))

pub with_cold_keeps : (n : ℕ) (f : Body) (b : ℕ) → n ≤ b → Keeps n f (with_cold f b)
with_cold_keeps n f b beyond =
    subst (λ (g : Body). Keeps n f g) (ap (λ xs. record f { values = xs; blocks = set f.blocks b (record (block_at f b) { is_cold = true }) }) (append-nil f.values))
    (with_blocks_keeps n f [] (set f.blocks b (record (block_at f b) { is_cold = true })) f.layout none (omega (arith, length_set f.blocks b (record (block_at f b) { is_cold = true })))
    (λ c inside. (
      at_set_or_not (λ (m : BlockNode). m.params ≡ (block_at f c).params) f.blocks b _ c empty_block (λ same. absurd (omega (arith, same, inside, beyond))) refl,
      at_set_or_not (λ (m : BlockNode). m.is_cold ≡ (block_at f c).is_cold) f.blocks b _ c empty_block (λ same. absurd (omega (arith, same, inside, beyond))) refl,
    )) (λ c stands. stands) refl)

pub with_param_keeps : (n : ℕ) (f : Body) (b : ℕ) (ty : «Type») → n ≤ b → Keeps n f (with_param f b ty)
with_param_keeps n f b ty beyond =
    let node : ValueNode = record { ty = ty; origin = Param b } in
    let row : BlockNode = record (block_at f b) { params = (block_at f b).params ++ length f.values ∷ [] } in
    with_blocks_keeps n f (node ∷ []) (set f.blocks b row) f.layout one (omega (arith, length_set f.blocks b row))
    (λ c inside. (
      at_set_or_not (λ (m : BlockNode). m.params ≡ (block_at f c).params) f.blocks b row c empty_block (λ same. absurd (omega (arith, same, inside, beyond))) refl,
      at_set_or_not (λ (m : BlockNode). m.is_cold ≡ (block_at f c).is_cold) f.blocks b row c empty_block (λ same. absurd (omega (arith, same, inside, beyond))) refl,
    )) (λ c stands. stands) refl
  where
    one : NoAliases (record { ty = ty; origin = Param b } ∷ [])
    one zero inside = refl
    one (suc k) inside = absurd (omega (arith, inside))

-- STEPS -----------------------------------------------------------------------------------------------------------------

-- one step after others
pub goes_further : (f : Body) (a : StackSlots) (g : Body) (b : StackSlots) (h : Body) (c : StackSlots)
    → GoesOn (length f.blocks) f a g b → GoesOn (length g.blocks) g b h c → GoesOn (length f.blocks) f a h c
goes_further f a g b h c p q =
    goes_on_trans (length f.blocks) f a g b h c p
    (record { keeps = keeps_fewer (length f.blocks) (length g.blocks) g h p.keeps.blocks q.keeps; slots = q.slots })

-- a change of the function alone
pub goes_beside : (n : ℕ) (f : Body) (a : StackSlots) (g : Body) → KnowsSlots f a → Keeps n f g → GoesOn n f a g a
goes_beside n f a g knows keeps = record { keeps = keeps; slots = slots_stay n f g keeps a knows }

pub on_ok : {A E P Q : Type 0} (r : Result A E) → (P → Q) → OnOk r P → OnOk r Q
on_ok (Ok x) f holds = f holds
on_ok (Err e) f holds = tt

pub on_ok₂ : {A E P Q R : Type 0} (r : Result A E) → (P → Q → R) → OnOk r P → OnOk r Q → OnOk r R
on_ok₂ (Ok x) f first second = f first second
on_ok₂ (Err e) f first second = tt

pub on_ok₃ : {A E P Q R S : Type 0} (r : Result A E) → (P → Q → R → S) → OnOk r P → OnOk r Q → OnOk r R → OnOk r S
on_ok₃ (Ok x) f first second third = f first second third
on_ok₃ (Err e) f first second third = tt

-- the instruction that got another shape
pub shape_there : (f : Body) (i : ℕ) (shape : InstructionData) → i < length f.insts → (inst_at (with_shape f i shape) i).shape ≡ shape
shape_there f i shape inside =
    at_set (λ (m : InstNode). m.shape ≡ shape) f.insts i (record (inst_at f i) { shape = shape }) i no_inst inside (λ same. refl) (λ other. absurd (other refl))

-- another instruction keeps its node
pub others_there : (f : Body) (inst : ℕ) (shape : InstructionData) (i : ℕ) → i ≢ inst → inst_at (with_shape f inst shape) i ≡ inst_at f i
others_there f inst shape i apart =
    at_set_or_not (λ (m : InstNode). m ≡ inst_at f i) f.insts inst (record (inst_at f inst) { shape = shape }) i no_inst (λ same. absurd (apart same)) refl

pub if_ok : {A E P Q : Type 0} (r : Result A E) → (P → Q) → OnOk r P → IfOk r (λ _. Q)
if_ok (Ok x) f holds = f holds
if_ok (Err e) f holds = tt

pub if_ok_further : {A E : Type 0} (P Q : A → Type 0) (r : Result A E) → ((x : A) → P x → Q x) → IfOk r P → IfOk r Q
if_ok_further P Q (Ok x) f holds = f x holds
if_ok_further P Q (Err e) f holds = tt

pub if_ok_always : {A E Q : Type 0} (r : Result A E) → Q → IfOk r (λ _. Q)
if_ok_always (Ok x) holds = holds
if_ok_always (Err e) holds = tt

pub if_some_further : {A : Type 0} (P Q : A → Type 0) (found : Option A) → ((x : A) → P x → Q x) → IfSome found P → IfSome found Q
if_some_further P Q (Some x) f holds = f x holds
if_some_further P Q None f holds = tt
