-- Steps that act on slots, one after the other.
use Rattle.std.proofs.Common.{◌≡◌, ◌≢◌, ◌∙◌, ◌<◌, ℕ, Bool, true, false, cond, List, [], ◌∷◌, ◌++◌, length, map, refl, sym, ap, subst, arith, Ok}
use Rattle.std.specs.Prelude.{Contains, Some, filter}
use Rattle.clif_types.specs.EntitySet.{has}
use Rattle.clif_tables.specs.Lists.{TableLists, stack_map_at}
use Rattle.clif_instructions.specs.Members.{Stands}
use Rattle.clif_nodes.specs.declared.nodes.ValueNode.{ValueNode}
use Rattle.clif_ir.specs.Body.{Body, block_at, inst_at, value_at}
use Rattle.clif_stack_slots.specs.Sizes.{size_of_type}
use Rattle.clif_stack_slots.specs.Slots.{GivesSlot}
use Rattle.clif_stack_slots.specs.declared.size.SlotSize.{SlotSize}
use Rattle.clif_stack_slots.specs.declared.slots.StackSlots.{StackSlots}
use Rattle.clif_spiller.specs.Acting.{Acts, GoesBy, IsOnTheWay, needs, types_in}
use Rattle.clif_spiller.specs.Allocating.{IsSlotState, Needs, SlotAct, after_acts}
use Rattle.clif_spiller.specs.Keeping.{Keeps}
use Rattle.clif_spiller.specs.declared.plan.Plan.{Plan}
use Rattle.clif_spiller.proofs.Advancing.{on_the_way}
use Rattle.clif_spiller.proofs.Allocating.Bridging.{needed}
use Rattle.clif_spiller.proofs.Allocating.States.{acts_append}
use Rattle.clif_spiller.proofs.Keeping.{same_value}

-- ONE AFTER THE OTHER ---------------------------------------------------------------------------------------------------

pub goes_nowhere : (plan : Plan) (f : Body) (a : StackSlots) → GoesBy plan f a f a []
goes_nowhere plan f a first way st was = was

pub goes_then : (plan : Plan) (f : Body) (a : StackSlots) (g : Body) (b : StackSlots) (h : Body) (c : StackSlots) (acts more : List SlotAct) {n : ℕ}
    → Keeps n f g → GoesBy plan f a g b acts → GoesBy plan g b h c more → GoesBy plan f a h c (acts ++ more)
goes_then plan f a g b h c acts more {n} keeps first_goes then_goes first way st was =
    subst (IsSlotState h c) (sym (acts_append (types_in first) acts more st))
    (then_goes first (on_the_way first plan f g way keeps) (after_acts (types_in first) acts st) (first_goes first way st was))

-- a function whose slots stay
pub goes_beside : (plan : Plan) (f g : Body) (a : StackSlots) → g.tables.stack_slots ≡ f.tables.stack_slots → GoesBy plan f a g a []
goes_beside plan f g a same first way st was = record { assigned = was.assigned; free = was.free; slots = same ∙ was.slots }

pub acts_nothing : (plan : Plan) (inst : ℕ) (f : Body) (a : StackSlots) → Acts plan inst f a f a []
acts_nothing plan inst f a = record {
  others = λ i inside apart. refl;
  maps = λ i. refl;
  lists = λ c inside apart. refl;
  layout = λ c inside stands. stands;
  goes_by = goes_nowhere plan f a;
}

pub acts_then : (plan : Plan) (inst : ℕ) (f : Body) (a : StackSlots) (g : Body) (b : StackSlots) (h : Body) (c : StackSlots) (acts more : List SlotAct) {n : ℕ}
    → inst < length f.insts → Keeps n f g → Acts plan inst f a g b acts → Acts plan inst g b h c more → Acts plan inst f a h c (acts ++ more)
acts_then plan inst f a g b h c acts more {n} exists keeps p q = record {
  others = λ i inside apart. q.others i (omega (arith, inside, keeps.insts)) apart ∙ p.others i inside apart;
  maps = λ i. q.maps i ∙ p.maps i;
  lists = λ c inside apart.
      q.lists c (omega (arith, inside, keeps.blocks)) (λ same. apart (same ∙ keeps.homes inst exists)) ∙ p.lists c inside apart;
  layout = λ c inside stands. p.layout c inside (q.layout c (omega (arith, inside, keeps.blocks)) stands);
  goes_by = goes_then plan f a g b h c acts more keeps p.goes_by q.goes_by;
}

-- a change of the function alone
pub acts_beside : (plan : Plan) (inst : ℕ) (f g : Body) (a : StackSlots) → g.tables ≡ f.tables → g.layout ≡ f.layout
    → ((c : ℕ) → (block_at g c).insts ≡ (block_at f c).insts)
    → ((i : ℕ) → i < length f.insts → i ≢ inst → inst_at g i ≡ inst_at f i) → Acts plan inst f a g a []
acts_beside plan inst f g a tables layout lists others = record {
  others = others;
  lists = λ c inside apart. lists c;
  layout = λ c inside stands. subst (Stands c) layout stands;
  maps = λ i. ap (λ (t : TableLists). stack_map_at t i) tables;
  goes_by = goes_beside plan f g a (ap (λ (t : TableLists). t.stack_slots) tables);
}

-- A SLOT ----------------------------------------------------------------------------------------------------------------

-- the size of a value of the first function is known
pub sized_in : (first : Body) (plan : Plan) (f : Body) (value : ℕ) (slot_size : SlotSize) → IsOnTheWay first plan f → value < length first.values
    → size_of_type (value_at f value).ty ≡ Some slot_size → size_of_type (types_in first value) ≡ Some slot_size
sized_in first plan f value slot_size way inside is =
    ap (λ (node : ValueNode). size_of_type node.ty) (sym (same_value 0 first f way.keeps value inside)) ∙ is

-- a spilled value is given its slot
pub goes_needed : (plan : Plan) (f : Body) (a : StackSlots) (g : Body) (b : StackSlots) (value slot : ℕ) (size : SlotSize)
    → Contains plan.spilled value → size_of_type (value_at f value).ty ≡ Some size → GivesSlot value size a b f g (Ok slot)
    → GoesBy plan f a g b (Needs value ∷ [])
goes_needed plan f a g b value slot size spilled is gives first way st was =
    (needed (types_in first) value size (sized_in first plan f value size way (way.planned.spillable value spilled).exists is) a b f g st was slot gives).state

-- NEEDS -----------------------------------------------------------------------------------------------------------------

pub filter_append : (p : ℕ → Bool) (xs ys : List ℕ) → filter p (xs ++ ys) ≡ filter p xs ++ filter p ys
filter_append p [] ys = refl
filter_append p (x ∷ xs) ys = by (p x) (filter_append p xs ys)
  where
    by : (c : Bool) → filter p (xs ++ ys) ≡ filter p xs ++ filter p ys
        → cond c (x ∷ filter p (xs ++ ys)) (filter p (xs ++ ys)) ≡ cond c (x ∷ filter p xs) (filter p xs) ++ filter p ys
    by true rest = ap (λ zs. x ∷ zs) rest
    by false rest = rest

pub map_append : {X Y : Type 0} (p : X → Y) (xs ys : List X) → map p (xs ++ ys) ≡ map p xs ++ map p ys
map_append p [] ys = refl
map_append p (x ∷ xs) ys = ap (λ zs. p x ∷ zs) (map_append p xs ys)

pub needs_append : (plan : Plan) (xs ys : List ℕ) → needs plan (xs ++ ys) ≡ needs plan xs ++ needs plan ys
needs_append plan xs ys = ap (map Needs) (filter_append (has plan.spilled) xs ys) ∙ map_append Needs (filter (has plan.spilled) xs) (filter (has plan.spilled) ys)

pub needs_one : (plan : Plan) (value : ℕ) → has plan.spilled value ≡ true → needs plan (value ∷ []) ≡ Needs value ∷ []
needs_one plan value spilled = ap (λ c. map Needs (cond c (value ∷ []) [])) spilled

pub needs_none : (plan : Plan) (value : ℕ) → has plan.spilled value ≡ false → needs plan (value ∷ []) ≡ []
needs_none plan value spilled = ap (λ c. map Needs (cond c (value ∷ []) [])) spilled
