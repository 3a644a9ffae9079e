-- Values that are stored one after the other, as they are given.
use Rattle.std.proofs.Common.{◌≡◌, ◌∙◌, ◌<◌, ◌≤◌, ◌+◌, ℕ, cond, List, [], ◌∷◌, ◌++◌, length, get_or, take, refl, sym, ap, ap₂, subst, arith, Option, None, Some}
use Rattle.std.specs.Prelude.{filter, is_some}
use Rattle.std.specs.FinMap as map
use Rattle.std.proofs.lemmas.List.{map-append, take_all}
use Rattle.std.proofs.lemmas.List.Elements.{filter-append}
use Rattle.clif_ir.specs.Body.{Body}
use Rattle.clif_stack_slots.specs.Slots.{SlotMap, assigned_in}
use Rattle.clif_stack_slots.specs.declared.slots.StackSlots.{StackSlots}
use Rattle.clif_spiller.specs.Inserting.{spot_after, with_address, with_store}
use Rattle.clif_spiller.specs.Keeping.{Keeps}
use Rattle.clif_spiller.specs.Text.{Access, Stored, Stores, is_assigned}
use Rattle.clif_spiller.specs.declared.accesses.Spot.{Spot}
use Rattle.clif_spiller.specs.declared.accesses.Spot.TheVariants as spot
use Rattle.clif_spiller.specs.declared.plan.Plan.{Plan}
use Rattle.clif_spiller.proofs.Needing.{take_one_more}
use Rattle.clif_spiller.proofs.Text.Adding.{NoMapsBeyond, StayFrom, adds_none, adds_then, store_adds}

pub stores_nothing : (plan : Plan) (f : Body) (a : StackSlots) (at : Spot) → Stores plan f a at f a at []
stores_nothing plan f a at = record {
  accesses = [];
  adds = adds_none Stored plan.pointer f a at f a at (λ block front back cut. cut) (omega arith) (omega arith) (λ v slot has. has) refl;
  before = λ i is. is;
  those = refl;
  same = refl;
}

-- a value without a slot isn't stored
pub stores_unassigned : (plan : Plan) (f : Body) (a : StackSlots) (at : Spot) (value : ℕ) → map.get (assigned_in a) value ≡ None → Stores plan f a at f a at (value ∷ [])
stores_unassigned plan f a at value none = record {
  accesses = [];
  adds = adds_none Stored plan.pointer f a at f a at (λ block front back cut. cut) (omega arith) (omega arith) (λ v slot has. has) refl;
  before = λ i is. is;
  those = sym (ap (λ (found : Option ℕ). cond (is_some found) (value ∷ []) []) none);
  same = refl;
}

before_stays : (f : Body) (plan : Plan) (at : Spot) (slot i : ℕ) → at ≡ spot.Before i → spot_after (with_address f plan.pointer at slot) (spot_after f at) ≡ spot.Before i
before_stays f plan (spot.Before next) slot i is = is
before_stays f plan (spot.After previous) slot i is = cc

-- one with a slot is stored, and then its slot is freed
pub stores_assigned : (plan : Plan) (f : Body) (a : StackSlots) (at : Spot) (value slot : ℕ) (b : StackSlots) → NoMapsBeyond f → value < length f.values
    → map.get (assigned_in a) value ≡ Some slot → assigned_in b ≡ assigned_in a
    → Stores plan f a at (with_store f plan.pointer at slot value) b (spot_after (with_address f plan.pointer at slot) (spot_after f at)) (value ∷ [])
stores_assigned plan f a at value slot b none exists has same =
    let adds = store_adds plan.pointer f a at slot value none exists has in
    record {
      accesses = record { value = value; slot = slot; inst = length f.insts; address = length f.values } ∷ [];
      adds = record {
        cut = adds.cut;
        are = adds.are;
        slots = λ x here. ap (λ (m : SlotMap). map.get m x.value) same ∙ adds.slots x here;
        still = λ v s is. ap (λ (m : SlotMap). map.get m v) same ∙ is;
        blocks = adds.blocks;
      };
      before = λ i is. before_stays f plan at slot i is;
      those = sym (ap (λ (found : Option ℕ). cond (is_some found) (value ∷ []) []) has);
      same = same;
    }

pub stores_then : (plan : Plan) (f : Body) (a : StackSlots) (at : Spot) (h : Body) (c : StackSlots) (middle : Spot) (g : Body) (b : StackSlots) (next : Spot) (xs ys : List ℕ) (n : ℕ)
    → Keeps n h g → StayFrom (length f.insts) (length h.insts) h g → Stores plan f a at h c middle xs → Stores plan h c middle g b next ys
    → Stores plan f a at g b next (xs ++ ys)
stores_then plan f a at h c middle g b next xs ys n keeps stay p q = record {
  accesses = p.accesses ++ q.accesses;
  adds = adds_then Stored plan.pointer f a at h c middle g b next p.accesses q.accesses n keeps stay p.adds q.adds;
  before = λ i is. q.before i (p.before i is);
  those = map-append (λ (x : Access). x.value) p.accesses q.accesses ∙ ap₂ (λ us vs. us ++ vs) p.those
      (q.those ∙ ap (λ (m : SlotMap). filter (λ v. is_some (map.get m v)) ys) p.same)
      ∙ sym (filter-append (is_assigned a) xs ys);
  same = q.same ∙ p.same;
}

-- one value more
pub stores_next : (plan : Plan) (f : Body) (a : StackSlots) (at : Spot) (h : Body) (c : StackSlots) (middle : Spot) (g : Body) (b : StackSlots) (next : Spot) (values : List ℕ)
    (count value n : ℕ) → count < length values → value ≡ get_or values count value → Keeps n h g → StayFrom (length f.insts) (length h.insts) h g
    → Stores plan f a at h c middle (take count values) → Stores plan h c middle g b next (value ∷ []) → Stores plan f a at g b next (take (count + 1) values)
stores_next plan f a at h c middle g b next values count value n inside is keeps stay p q =
    subst (Stores plan f a at g b next) (ap (λ x. take count values ++ x ∷ []) is ∙ sym (take_one_more values count value inside))
    (stores_then plan f a at h c middle g b next (take count values) (value ∷ []) n keeps stay p q)

pub stores_all : (plan : Plan) (f : Body) (a : StackSlots) (at : Spot) (g : Body) (b : StackSlots) (next : Spot) (values : List ℕ) (count : ℕ) → length values ≤ count
    → Stores plan f a at g b next (take count values) → Stores plan f a at g b next values
stores_all plan f a at g b next values count past stores = subst (Stores plan f a at g b next) (take_all count values past) stores
