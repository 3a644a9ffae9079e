-- Values that are given, one after the other: what has a slot is stored there, and the slot is free.
use Rattle.std.proofs.Common.{◌≡◌, ◌∙◌, ◌<◌, ◌≤◌, ◌+◌, ℕ, pos, List, [], ◌∷◌, ◌++◌, length, get_or, take, map as each, refl, sym, ap, subst, arith, Some, None, Result, Ok, Err}
use Rattle.std.specs.Prelude.{OnOk}
use Rattle.std.specs.FinMap as map
use Rattle.std.proofs.lemmas.List.{take_all}
use Rattle.std.proofs.lemmas.List.Elements.{Contains-append_left, Contains-append_right}
use Rattle.clif_types.specs.declared.error.BuildError.{BuildError}
use Rattle.clif_types.specs.declared.types.«Type».{«Type»}
use Rattle.clif_tables.specs.Lists.{TableLists, stack_map_at}
use Rattle.clif_opcodes.specs.declared.opcodes.StackOpcode.TheVariants.{StackAddr}
use Rattle.clif_instructions.specs.declared.instructions.InstructionData.{InstructionData}
use Rattle.clif_instructions.specs.declared.instructions.InstructionData.TheVariants.{StackLoad, Store}
use Rattle.clif_instructions.proofs.Lists.{at_push}
use Rattle.clif_nodes.specs.declared.nodes.InstNode.{InstNode}
use Rattle.clif_nodes.specs.Nodes.{no_inst}
use Rattle.clif_ir.specs.Changes.{inst_node}
use Rattle.clif_nodes.specs.declared.nodes.ValueNode.{ValueNode}
use Rattle.clif_ir.specs.Body.{Body, inst_at, value_at}
use Rattle.clif_stack_slots.specs.Sizes.{size_of_type}
use Rattle.clif_stack_slots.specs.Slots.{FreesSlot, assigned_in}
use Rattle.clif_stack_slots.specs.declared.size.SlotSize.{SlotSize}
use Rattle.clif_stack_slots.specs.declared.slots.StackSlots.{StackSlots}
use Rattle.clif_spiller.specs.Acting.{ActsGiving, types_in}
use Rattle.clif_spiller.specs.Allocating.{Gives, IsSlotState, after_acts}
use Rattle.clif_spiller.specs.Inserting.{inst_beside, nowhere, put_in, spot_after, trusted, with_address, with_store}
use Rattle.clif_spiller.specs.Keeping.{Keeps}
use Rattle.clif_spiller.specs.declared.accesses.Spot.{Spot}
use Rattle.clif_spiller.specs.declared.accesses.Spot.TheVariants as spot
use Rattle.clif_spiller.proofs.Acting.{map_append}
use Rattle.clif_spiller.proofs.Allocating.Bridging.{given}
use Rattle.clif_spiller.proofs.Allocating.States.{acts_append, gives_none}
use Rattle.clif_spiller.proofs.Needing.{take_one_more}
use Rattle.clif_spiller.specs.Plans.{GoesOn, KnowsSlots}
use Rattle.clif_spiller.proofs.Keeping.{goes_further, goes_on_refl, keeps_fewer, keeps_trans, same_value}
use Rattle.clif_spiller.proofs.Putting.{spot_after_exists}
use Rattle.clif_spiller.proofs.Reading.{more_insts, put_in_old, put_in_others}

pub gives_nothing : (home : ℕ) (f : Body) (a : StackSlots) → ActsGiving home f a f a []
gives_nothing home f a = record { lists = λ c apart. refl; layout = refl; nodes = λ i inside. refl; maps = λ i. refl; goes_by = λ first keeps below st was. was }

pub gives_then : (home : ℕ) (f : Body) (a : StackSlots) (g : Body) (b : StackSlots) (h : Body) (c : StackSlots) (values more : List ℕ) {n : ℕ} → Keeps n f g
    → ActsGiving home f a g b values → ActsGiving home g b h c more → ActsGiving home f a h c (values ++ more)
gives_then home f a g b h c values more {n} keeps p q = record {
  lists = λ d apart. q.lists d apart ∙ p.lists d apart;
  layout = q.layout ∙ p.layout;
  nodes = λ i inside. q.nodes i (omega (arith, inside, keeps.insts)) ∙ p.nodes i inside;
  maps = λ i. q.maps i ∙ p.maps i;
  goes_by = λ first first_keeps below st was.
      subst (IsSlotState h c)
      (sym (acts_append (types_in first) (each Gives values) (each Gives more) st) ∙ ap (λ acts. after_acts (types_in first) acts st) (sym (map_append Gives values more)))
      (q.goes_by first (keeps_trans 0 first f g first_keeps (keeps_fewer 0 n f g (omega arith) keeps))
      (λ v there. below v (Contains-append_right values more v there)) (after_acts (types_in first) (each Gives values) st)
      (p.goes_by first first_keeps (λ v there. below v (Contains-append_left values more v there)) st was));
}

-- a value without a slot
pub gives_unassigned : (home : ℕ) (f : Body) (a : StackSlots) (value : ℕ) → map.get (assigned_in a) value ≡ None → ActsGiving home f a f a (value ∷ [])
gives_unassigned home f a value none = record {
  lists = λ c apart. refl;
  layout = refl;
  nodes = λ i inside. refl;
  maps = λ i. refl;
  goes_by = λ first keeps below st was.
      subst (IsSlotState f a) (sym (gives_none (types_in first) value st (ap (λ slots. map.get slots value) (sym was.assigned) ∙ none))) was;
}

-- a slot becomes free, and the function stays
pub gives_freed : (home : ℕ) (f : Body) (a b : StackSlots) (value slot : ℕ) (size_is : SlotSize) → size_of_type (value_at f value).ty ≡ Some size_is
    → map.get (assigned_in a) value ≡ Some slot → FreesSlot size_is slot a b (Ok tt) → ActsGiving home f a f b (value ∷ [])
gives_freed home f a b value slot size_is is has frees = record {
  lists = λ c apart. refl;
  layout = refl;
  nodes = λ i inside. refl;
  maps = λ i. refl;
  goes_by = λ first keeps below st was.
      let same : value_at f value ≡ value_at first value = same_value 0 first f keeps value (below value (0, omega arith, refl)) in
      given (types_in first) value size_is (ap (λ (node : ValueNode). size_of_type node.ty) (sym same) ∙ is) a b f f st was slot
      (ap (λ slots. map.get slots value) (sym was.assigned) ∙ has) frees;
}

-- STORES ----------------------------------------------------------------------------------------------------------------

pub put_in_tables : (f : Body) (at : Spot) (shape : InstructionData) (types : List «Type») → (put_in f at shape types).tables ≡ f.tables
put_in_tables f (spot.Before next) shape types = refl
put_in_tables f (spot.After previous) shape types = refl

pub put_in_layout : (f : Body) (at : Spot) (shape : InstructionData) (types : List «Type») → (put_in f at shape types).layout ≡ f.layout
put_in_layout f (spot.Before next) shape types = refl
put_in_layout f (spot.After previous) shape types = refl

-- the next spot is in the same block
pub home_after : (f : Body) (at : Spot) (shape : InstructionData) (types : List «Type») → inst_beside at < length f.insts
    → (inst_at (put_in f at shape types) (inst_beside (spot_after f at))).block ≡ (inst_at f (inst_beside at)).block
home_after f (spot.Before next) shape types exists = ap (λ (m : InstNode). m.block) (put_in_old f (spot.Before next) shape types next exists)
home_after f (spot.After previous) shape types exists =
    at_push (λ (m : InstNode). m.block ≡ (inst_at f previous).block) f.insts (inst_node f (inst_at f previous).block shape types nowhere) (length f.insts) no_inst
    (λ below. absurd (omega (arith, below))) (λ _. refl) (λ past. absurd (omega (arith, past)))

pub stored_home : (f : Body) (pointer : «Type») (at : Spot) (slot value : ℕ) → inst_beside at < length f.insts
    → (inst_at (with_store f pointer at slot value) (inst_beside (spot_after (with_address f pointer at slot) (spot_after f at)))).block ≡ (inst_at f (inst_beside at)).block
stored_home f pointer at slot value exists =
    let address : InstructionData = StackLoad StackAddr slot (pos 0) in
    home_after (with_address f pointer at slot) (spot_after f at) (Store trusted (value ∷ length f.values ∷ []) (pos 0)) [] (spot_after_exists f at address (pointer ∷ []) exists)
    ∙ home_after f at address (pointer ∷ []) exists

-- a store changes no instruction that was there and no table
pub gives_stored : (f : Body) (a : StackSlots) (pointer : «Type») (at : Spot) (slot value : ℕ) → inst_beside at < length f.insts
    → ActsGiving (inst_at f (inst_beside at)).block f a (with_store f pointer at slot value) a []
gives_stored f a pointer at slot value exists =
    let there : Body = with_address f pointer at slot in
    let address : InstructionData = StackLoad StackAddr slot (pos 0) in
    let store : InstructionData = Store trusted (value ∷ length f.values ∷ []) (pos 0) in
    let tables : (with_store f pointer at slot value).tables ≡ f.tables = put_in_tables there (spot_after f at) store [] ∙ put_in_tables f at address (pointer ∷ []) in
    record {
      lists = λ c apart.
          put_in_others there (spot_after f at) store [] c (λ same. apart (same ∙ home_after f at address (pointer ∷ []) exists))
          ∙ put_in_others f at address (pointer ∷ []) c apart;
      layout = put_in_layout there (spot_after f at) store [] ∙ put_in_layout f at address (pointer ∷ []);
      nodes = λ i inside.
          put_in_old there (spot_after f at) store [] i (omega (arith, inside, more_insts f at address (pointer ∷ [])))
          ∙ put_in_old f at address (pointer ∷ []) i inside;
      maps = λ i. ap (λ (t : TableLists). stack_map_at t i) tables;
      goes_by = λ first keeps below st was. record {
        assigned = was.assigned;
        free = was.free;
        slots = ap (λ (t : TableLists). t.stack_slots) tables ∙ was.slots;
      };
    }

-- SO MANY ---------------------------------------------------------------------------------------------------------------

-- the first so many of these values are given
pub record GivesFirst (home : ℕ) (f : Body) (a : StackSlots) (values : List ℕ) (count : ℕ) (g : Body) (b : StackSlots) : Type 0 where
  pub goes : GoesOn (length f.blocks) f a g b
  pub acts : ActsGiving home f a g b (take count values)

pub none_given_yet : (home : ℕ) (f : Body) (a : StackSlots) (values : List ℕ) → KnowsSlots f a → GivesFirst home f a values 0 f a
none_given_yet home f a values knows = record { goes = goes_on_refl (length f.blocks) f a knows; acts = gives_nothing home f a }

pub next_given : (home : ℕ) (f : Body) (a : StackSlots) (values : List ℕ) (count : ℕ) (g : Body) (b : StackSlots) (h : Body) (c : StackSlots) (value : ℕ)
    → count < length values → value ≡ get_or values count value → GivesFirst home f a values count g b
    → GoesOn (length g.blocks) g b h c → ActsGiving home g b h c (value ∷ []) → GivesFirst home f a values (count + 1) h c
next_given home f a values count g b h c value inside is so_far goes acts = record {
  goes = goes_further f a g b h c so_far.goes goes;
  acts = subst (ActsGiving home f a h c) (ap (λ x. take count values ++ x ∷ []) is ∙ sym (take_one_more values count value inside))
      (gives_then home f a g b h c (take count values) (value ∷ []) so_far.goes.keeps so_far.acts acts);
}

pub all_given : (home : ℕ) (f : Body) (a : StackSlots) (values : List ℕ) (count : ℕ) (g : Body) (b : StackSlots) → length values ≤ count → GivesFirst home f a values count g b
    → ActsGiving home f a g b values
all_given home f a values count g b past gives = subst (ActsGiving home f a g b) (take_all count values past) gives.acts

-- the slot of a value is freed, or an error says that it isn't
pub frees_or_not : (home : ℕ) (f : Body) (a b : StackSlots) (value slot : ℕ) (size_is : SlotSize) (answer : Result (Unit {0}) BuildError) → size_of_type (value_at f value).ty ≡ Some size_is
    → map.get (assigned_in a) value ≡ Some slot → FreesSlot size_is slot a b answer → OnOk answer (ActsGiving home f a f b (value ∷ []))
frees_or_not home f a b value slot size_is (Ok done) is has frees = gives_freed home f a b value slot size_is is has frees
frees_or_not home f a b value slot size_is (Err error) is has frees = tt

-- what holds of each home where all is well
pub all_homes : {A E : Type 0} (answer : Result A E) (P : ℕ → Type 0) → ((home : ℕ) → OnOk answer (P home)) → OnOk answer ((home : ℕ) → P home)
all_homes (Ok x) P each = each
all_homes (Err e) P each = tt
