-- Accesses that come to a function, one after the other.
use Rattle.std.proofs.Common.{◌≡◌, ◌∙◌, ◌<◌, ◌≤◌, ◌+◌, ℕ, zero, suc, pos, Bool, false, cond, List, [], ◌∷◌, ◌++◌, length, refl, sym, ap, subst, arith, append_assoc, length-append, Option, None, Some, Ok, inl, inr}
use Rattle.std.specs.Prelude.{slice_index_or}
use Rattle.std.specs.FinMap as map
use Rattle.std.specs.FinMap.{get-insert, nat_cmp-IsAntisymmetric}
use Rattle.std.specs.Cmp.{nat_cmp_total, tied_itself}
use Rattle.std.specs.List.{range_with_len}
use Rattle.std.specs.Ordering.{eq_by_cmp, is_eq, nat_cmp}
use Rattle.std.proofs.lemmas.List.{append-nil}
use Rattle.std.proofs.lemmas.List.Elements.{Contains-append_cases}
use Rattle.clif_types.specs.declared.types.«Type».{«Type»}
use Rattle.clif_opcodes.specs.declared.opcodes.StackOpcode.TheVariants.{StackAddr}
use Rattle.clif_tables.specs.Lists.{TableLists, stack_map_at}
use Rattle.clif_instructions.specs.declared.instructions.InstructionData.{InstructionData}
use Rattle.clif_instructions.specs.declared.instructions.InstructionData.TheVariants.{Load, StackLoad, Store}
use Rattle.clif_instructions.proofs.Lists.{at_push}
use Rattle.clif_nodes.specs.declared.nodes.InstNode.{InstNode}
use Rattle.clif_nodes.specs.declared.nodes.ValueNode.{ValueNode}
use Rattle.clif_nodes.specs.Nodes.{BlockNode, empty_block, no_inst, no_value, result_nodes}
use Rattle.clif_ir.specs.Body.{Body, inst_at, value_at}
use Rattle.clif_ir.specs.Changes.{inst_node}
use Rattle.clif_stack_slots.specs.Slots.{GivesSlot, SlotMap, assigned_in}
use Rattle.clif_stack_slots.specs.declared.size.SlotSize.{SlotSize}
use Rattle.clif_stack_slots.specs.declared.slots.StackSlots.{StackSlots}
use Rattle.clif_spiller.specs.Inserting.{IsReloaded, nowhere, put_in, spot_after, trusted, with_address, with_store}
use Rattle.clif_spiller.specs.Keeping.{Keeps}
use Rattle.clif_spiller.specs.Plans.{KnowsSlots, MayBeSpilled}
use Rattle.clif_spiller.specs.Text.{Access, Adds, AreAccesses, HaveSlots, IsAccess, IsCopy, IsCut, IsNode, KeepsSlots, Reloaded, Stored, Way, access_results, access_shape, insts_of, past_access}
use Rattle.clif_spiller.specs.declared.accesses.Spot.{Spot}
use Rattle.clif_spiller.specs.declared.accesses.Spot.TheVariants as spot
use Rattle.clif_spiller.proofs.Giving.{equal-is, given, not_equal}
use Rattle.clif_spiller.proofs.Keeping.{length_set, more_values, same_value}
use Rattle.clif_spiller.proofs.Putting.{put_in_keeps, put_in_results}
use Rattle.clif_spiller.proofs.Reading.{more_insts, put_in_old}
use Rattle.clif_spiller.proofs.Storing.{put_in_tables}
use Rattle.clif_spiller.proofs.Text.Cutting.{cut_put, cut_stays}

-- RANGES ----------------------------------------------------------------------------------------------------------------

-- instructions in this range are as they were
abbrev pub StayFrom : (low high : ℕ) → Body → Body → Type 0
StayFrom low high g h =
    (i : ℕ) → low ≤ i → i < high → (inst_at h i ≡ inst_at g i) × (stack_map_at h.tables i ≡ stack_map_at g.tables i)

pub past_address : (way : Way) (x : Access) → x.address < past_access way x
past_address Stored x = omega arith
past_address Reloaded x = omega arith

module _ (way : Way) (pointer : «Type») (g : Body) where
  pub in_range : (m v : ℕ) (xs : List Access) (m' v' : ℕ) → AreAccesses way pointer g m v xs m' v' → (m ≤ m') × (v ≤ v')
  in_range m v [] m' v' are = are
  in_range m v (x ∷ xs) m' v' are =
      let rest = in_range (suc (suc x.inst)) (past_access way x) xs m' v' are.3 in
      let past = past_address way x in (
        (let low = are.0 in let high = rest.0 in omega (arith, low, high)),
        (let low = are.1 in let high = rest.1 in omega (arith, low, high, past)),
      )

  pub are_lower : (m v m₁ v₁ : ℕ) (xs : List Access) (m' v' : ℕ) → m ≤ m₁ → v ≤ v₁ → AreAccesses way pointer g m₁ v₁ xs m' v' → AreAccesses way pointer g m v xs m' v'
  are_lower m v m₁ v₁ [] m' v' fewer less are = (let high = are.0 in omega (arith, high, fewer), (let high = are.1 in omega (arith, high, less)))
  are_lower m v m₁ v₁ (x ∷ xs) m' v' fewer less are =
      ((let low = are.0 in omega (arith, low, fewer)), (let low = are.1 in omega (arith, low, less)), are.2, are.3)

  pub are_upper : (m v : ℕ) (xs : List Access) (m₁ v₁ m' v' : ℕ) → m₁ ≤ m' → v₁ ≤ v' → AreAccesses way pointer g m v xs m₁ v₁ → AreAccesses way pointer g m v xs m' v'
  are_upper m v [] m₁ v₁ m' v' more further are = ((let high = are.0 in omega (arith, high, more)), (let high = are.1 in omega (arith, high, further)))
  are_upper m v (x ∷ xs) m₁ v₁ m' v' more further are =
      (are.0, are.1, are.2, are_upper (suc (suc x.inst)) (past_access way x) xs m₁ v₁ m' v' more further are.3)

  pub are_append : (m v : ℕ) (xs : List Access) (m₁ v₁ : ℕ) (ys : List Access) (m' v' : ℕ) → AreAccesses way pointer g m v xs m₁ v₁ → AreAccesses way pointer g m₁ v₁ ys m' v'
      → AreAccesses way pointer g m v (xs ++ ys) m' v'
  are_append m v [] m₁ v₁ ys m' v' first second = are_lower m v m₁ v₁ ys m' v' first.0 first.1 second
  are_append m v (x ∷ xs) m₁ v₁ ys m' v' first second =
      (first.0, first.1, first.2, are_append (suc (suc x.inst)) (past_access way x) xs m₁ v₁ ys m' v' first.3 second)

pub insts_append : (xs ys : List Access) → insts_of (xs ++ ys) ≡ insts_of xs ++ insts_of ys
insts_append [] ys = refl
insts_append (x ∷ xs) ys = ap (λ (zs : List ℕ). x.inst ∷ suc x.inst ∷ zs) (insts_append xs ys)

-- STAYING ---------------------------------------------------------------------------------------------------------------

pub node_stays : (g h : Body) (i : ℕ) (shape : InstructionData) (results : List ℕ) → inst_at h i ≡ inst_at g i → stack_map_at h.tables i ≡ stack_map_at g.tables i
    → IsNode g i shape results → IsNode h i shape results
node_stays g h i shape results node maps is = record {
  shape_is = ap (λ (m : InstNode). m.shape) node ∙ is.shape_is;
  results_are = ap (λ (m : InstNode). m.results) node ∙ is.results_are;
  no_map = maps ∙ is.no_map;
}

module _ (way : Way) (pointer : «Type») (n : ℕ) (g h : Body) (keeps : Keeps n g h) where
  type_stays : (v : ℕ) → v < length g.values → (value_at h v).ty ≡ (value_at g v).ty
  type_stays v inside = ap (λ (node : ValueNode). node.ty) (same_value n g h keeps v inside)

  copy_stays : (way : Way) (x : Access) → x.value < length g.values → past_access way x ≤ length g.values → IsCopy way g x → IsCopy way h x
  copy_stays Stored x exists inside is = is
  copy_stays Reloaded x exists inside is = type_stays (suc x.address) (omega (arith, inside)) ∙ is ∙ sym (type_stays x.value exists)

  pub access_stays : (x : Access) → past_access way x ≤ length g.values → (low high : ℕ) → StayFrom low high g h → low ≤ x.inst → suc x.inst < high
      → IsAccess way pointer g x → IsAccess way pointer h x
  access_stays x inside low high stay from to is =
      let past = past_address way x in
      let first = stay x.inst from (omega (arith, to)) in
      let second = stay (suc x.inst) (omega (arith, from)) to in
      record {
        address = node_stays g h x.inst (StackLoad StackAddr x.slot (pos 0)) (x.address ∷ []) first.0 first.1 is.address;
        access = node_stays g h (suc x.inst) (access_shape way x) (access_results way x) second.0 second.1 is.access;
        exists = (let there = is.exists in let more = more_values n g h keeps in omega (arith, there, more));
        typed = type_stays x.address (omega (arith, past, inside)) ∙ is.typed;
        copied = copy_stays way x is.exists inside is.copied;
      }

  pub are_stay : (low high : ℕ) → StayFrom low high g h → (m v : ℕ) (xs : List Access) (m' v' : ℕ) → low ≤ m → m' ≤ high → v' ≤ length g.values
      → AreAccesses way pointer g m v xs m' v' → AreAccesses way pointer h m v xs m' v'
  are_stay low high stay m v [] m' v' from to inside are = are
  are_stay low high stay m v (x ∷ xs) m' v' from to inside are =
      let rest = in_range way pointer g (suc (suc x.inst)) (past_access way x) xs m' v' are.3 in
      let here = are.0 in (
        are.0,
        are.1,
        access_stays x (let high_value = rest.1 in omega (arith, high_value, inside)) low high stay (omega (arith, from, here)) (let high_inst = rest.0 in omega (arith, high_inst, to)) are.2,
        are_stay low high stay (suc (suc x.inst)) (past_access way x) xs m' v' (omega (arith, from, here)) to inside are.3,
      )

-- ONE AFTER THE OTHER ---------------------------------------------------------------------------------------------------

pub adds_none : (way : Way) (pointer : «Type») (f : Body) (a : StackSlots) (at : Spot) (g : Body) (b : StackSlots) (next : Spot)
    → ((block : ℕ) (front back : List ℕ) → IsCut f block at front back → IsCut g block next front back) → length f.insts ≤ length g.insts
    → length f.values ≤ length g.values → KeepsSlots a b → length g.blocks ≡ length f.blocks → Adds way pointer f a at g b next []
adds_none way pointer f a at g b next cut more further still blocks = record {
  cut = λ block front back is. subst (λ (xs : List ℕ). IsCut g block next xs back) (sym (append-nil front)) (cut block front back is);
  are = (more, further);
  slots = λ x here. absurd (let inside = here.1 in omega (arith, inside));
  still = still;
  blocks = blocks;
}

pub adds_then : (way : Way) (pointer : «Type») (f : Body) (a : StackSlots) (at : Spot) (h : Body) (c : StackSlots) (middle : Spot) (g : Body) (b : StackSlots) (next : Spot)
    (xs ys : List Access) (n : ℕ) → Keeps n h g → StayFrom (length f.insts) (length h.insts) h g
    → Adds way pointer f a at h c middle xs → Adds way pointer h c middle g b next ys → Adds way pointer f a at g b next (xs ++ ys)
adds_then way pointer f a at h c middle g b next xs ys n keeps stay p q = record {
  cut = λ block front back is.
      subst (λ (zs : List ℕ). IsCut g block next zs back)
      (append_assoc front (insts_of xs) (insts_of ys) ∙ ap (λ (zs : List ℕ). front ++ zs) (sym (insts_append xs ys)))
      (q.cut block (front ++ insts_of xs) back (p.cut block front back is));
  are = are_append way pointer g (length f.insts) (length f.values) xs (length h.insts) (length h.values) ys (length g.insts) (length g.values)
      (are_stay way pointer n h g keeps (length f.insts) (length h.insts) stay (length f.insts) (length f.values) xs (length h.insts) (length h.values)
      (omega arith) (omega arith) (omega arith) p.are)
      q.are;
  slots = λ x here. elim (Contains-append_cases xs ys x here) [ inl early ↦ q.still x.value x.slot (p.slots x early) | inr late ↦ q.slots x late ];
  still = λ v slot is. q.still v slot (p.still v slot is);
  blocks = q.blocks ∙ p.blocks;
}

-- PUT IN ----------------------------------------------------------------------------------------------------------------

put_in_shape : (f : Body) (at : Spot) (shape : InstructionData) (types : List «Type») → (inst_at (put_in f at shape types) (length f.insts)).shape ≡ shape
put_in_shape f (spot.Before next) shape types =
    at_push (λ (m : InstNode). m.shape ≡ shape) f.insts (inst_node f (inst_at f next).block shape types nowhere) (length f.insts) no_inst
    (λ below. absurd (omega (arith, below))) (λ _. refl) (λ past. absurd (omega (arith, past)))
put_in_shape f (spot.After previous) shape types =
    at_push (λ (m : InstNode). m.shape ≡ shape) f.insts (inst_node f (inst_at f previous).block shape types nowhere) (length f.insts) no_inst
    (λ below. absurd (omega (arith, below))) (λ _. refl) (λ past. absurd (omega (arith, past)))

put_in_values : (f : Body) (at : Spot) (shape : InstructionData) (types : List «Type») → (put_in f at shape types).values ≡ f.values ++ result_nodes (length f.insts) 0 types
put_in_values f (spot.Before next) shape types = refl
put_in_values f (spot.After previous) shape types = refl

put_in_blocks : (f : Body) (at : Spot) (shape : InstructionData) (types : List «Type») → length (put_in f at shape types).blocks ≡ length f.blocks
put_in_blocks f (spot.Before next) shape types = length_set f.blocks (inst_at f next).block _
put_in_blocks f (spot.After previous) shape types = length_set f.blocks (inst_at f previous).block _

-- the type of the only result
put_in_type : (f : Body) (at : Spot) (shape : InstructionData) (ty : «Type») → (value_at (put_in f at shape (ty ∷ [])) (length f.values)).ty ≡ ty
put_in_type f at shape ty =
    ap (λ (xs : List ValueNode). (slice_index_or xs (length f.values) no_value).ty) (put_in_values f at shape (ty ∷ []))
    ∙ at_push (λ (m : ValueNode). m.ty ≡ ty) f.values _ (length f.values) no_value
    (λ below. absurd (omega (arith, below))) (λ _. refl) (λ past. absurd (omega (arith, past)))

-- no stack map is kept of an instruction that isn't there
abbrev pub NoMapsBeyond : Body → Type 0
NoMapsBeyond f = (i : ℕ) → length f.insts ≤ i → stack_map_at f.tables i ≡ []

node_put : (f : Body) (at : Spot) (shape : InstructionData) (types : List «Type») → NoMapsBeyond f
    → IsNode (put_in f at shape types) (length f.insts) shape (range_with_len (length f.values) (length types))
node_put f at shape types none = record {
  shape_is = put_in_shape f at shape types;
  results_are = put_in_results f at shape types;
  no_map = ap (λ (t : TableLists). stack_map_at t (length f.insts)) (put_in_tables f at shape types) ∙ none (length f.insts) (omega arith);
}

-- an access whose two instructions are put in, the second one by its shape and types
module _ (way : Way) (pointer : «Type») (f : Body) (at : Spot) (slot value : ℕ) (types : List «Type») (none : NoMapsBeyond f) where
  abbrev pub new_access : Access
  new_access = record { value = value; slot = slot; inst = length f.insts; address = length f.values }

  abbrev address : InstructionData
  address = StackLoad StackAddr slot (pos 0)

  abbrev shape : InstructionData
  shape = access_shape way (record { value = value; slot = slot; inst = length f.insts; address = length f.values })

  abbrev there : Body
  there = put_in f at (StackLoad StackAddr slot (pos 0)) (pointer ∷ [])

  abbrev last : Body
  last = put_in there (spot_after f at) shape types

  more_there : length there.insts ≡ suc (length f.insts)
  more_there = (let more = more_insts f at address (pointer ∷ []) in omega (arith, more))

  values_there : length there.values ≡ suc (length f.values)
  values_there =
      ap (λ (xs : List ValueNode). length xs) (put_in_values f at address (pointer ∷ [])) ∙ length-append f.values (result_nodes (length f.insts) 0 (pointer ∷ []))
      ∙ (let more : length f.values + 1 ≡ suc (length f.values) = omega arith in more)

  none_there : NoMapsBeyond there
  none_there i beyond =
      ap (λ (t : TableLists). stack_map_at t i) (put_in_tables f at address (pointer ∷ [])) ∙ none i (omega (arith, beyond, more_there))

  -- the second one gives what it should
  pub put_access : value < length f.values → range_with_len (length there.values) (length types) ≡ access_results way new_access
      → past_access way new_access ≤ length last.values → IsCopy way last new_access
      → IsAccess way pointer last new_access × (suc (suc (length f.insts)) ≤ length last.insts)
  put_access exists gives room copied =
      let keeps = put_in_keeps 0 there (spot_after f at) shape types in
      let keeps_there = put_in_keeps 0 f at address (pointer ∷ []) in
      let inside : length f.insts < length there.insts = omega (arith, more_there) in
      let old = put_in_old there (spot_after f at) shape types (length f.insts) inside in
      let maps : stack_map_at last.tables (length f.insts) ≡ stack_map_at there.tables (length f.insts) =
      ap (λ (t : TableLists). stack_map_at t (length f.insts)) (put_in_tables there (spot_after f at) shape types) in
      let second : IsNode last (length there.insts) shape (range_with_len (length there.values) (length types)) = node_put there (spot_after f at) shape types none_there in (
        record {
          address = node_stays there last (length f.insts) address (length f.values ∷ []) old maps (node_put f at address (pointer ∷ []) none);
          access = subst (λ (results : List ℕ). IsNode last (suc (length f.insts)) shape results) gives
              (subst (λ (i : ℕ). IsNode last i shape (range_with_len (length there.values) (length types))) more_there second);
          exists = (let more = more_values 0 f there keeps_there in let further = more_values 0 there last keeps in omega (arith, exists, more, further));
          typed = ap (λ (node : ValueNode). node.ty) (same_value 0 there last keeps (length f.values) (omega (arith, values_there))) ∙ put_in_type f at address pointer;
          copied = copied;
        },
        (let more = more_insts there (spot_after f at) shape types in omega (arith, more, more_there)),
      )

  pub put_blocks : length last.blocks ≡ length f.blocks
  put_blocks = put_in_blocks there (spot_after f at) shape types ∙ put_in_blocks f at address (pointer ∷ [])

  pub put_cut : (block : ℕ) (front back : List ℕ) → IsCut f block at front back
      → IsCut last block (spot_after there (spot_after f at)) (front ++ insts_of (new_access ∷ [])) back
  put_cut block front back is =
      subst (λ (xs : List ℕ). IsCut last block (spot_after there (spot_after f at)) xs back)
      (append_assoc front (length f.insts ∷ []) (length there.insts ∷ []) ∙ ap (λ (i : ℕ). front ++ length f.insts ∷ i ∷ []) more_there)
      (cut_put there block (spot_after f at) (front ++ length f.insts ∷ []) back shape types (cut_put f block at front back address (pointer ∷ []) is))

-- A STORE ---------------------------------------------------------------------------------------------------------------

pub store_adds : (pointer : «Type») (f : Body) (a : StackSlots) (at : Spot) (slot value : ℕ) → NoMapsBeyond f → value < length f.values
    → map.get (assigned_in a) value ≡ Some slot
    → Adds Stored pointer f a at (with_store f pointer at slot value) a (spot_after (with_address f pointer at slot) (spot_after f at))
    (record { value = value; slot = slot; inst = length f.insts; address = length f.values } ∷ [])
store_adds pointer f a at slot value none exists has =
    let there : Body = with_address f pointer at slot in
    let further = more_values 0 there (with_store f pointer at slot value) (put_in_keeps 0 there (spot_after f at) (Store trusted (value ∷ length f.values ∷ []) (pos 0)) []) in
    let grown = values_there Stored pointer f at slot value [] none in
    let put = put_access Stored pointer f at slot value [] none exists refl (omega (arith, further, grown)) tt in
    record {
      cut = put_cut Stored pointer f at slot value [] none;
      are = (omega arith, omega arith, put.0, (put.1, omega (arith, further, grown)));
      slots = only;
      still = λ v s is. is;
      blocks = put_blocks Stored pointer f at slot value [] none;
    }
  where
    only : HaveSlots a (record { value = value; slot = slot; inst = length f.insts; address = length f.values } ∷ [])
    only x (zero, inside, is) = subst (λ (y : Access). map.get (assigned_in a) y.value ≡ Some y.slot) is has
    only x (suc k, inside, is) = absurd (omega (arith, inside))

-- A RELOAD --------------------------------------------------------------------------------------------------------------

-- what is given a slot has it, and other values keep theirs
pub gives_slots : (value slot : ℕ) (size : SlotSize) (a b : StackSlots) (f g : Body) → GivesSlot value size a b f g (Ok slot)
    → (map.get (assigned_in b) value ≡ Some slot) × KeepsSlots a b
gives_slots value slot slot_size a b f g gives = by (map.get (assigned_in a) value) refl
  where
    by : (found : Option ℕ) → map.get (assigned_in a) value ≡ found → (map.get (assigned_in b) value ≡ Some slot) × KeepsSlots a b
    by (Some old) is =
        let known = gives.known old is in
        let same : old ≡ slot = cc in
        let slots : b ≡ a = known.1 in (
          ap (λ (s : StackSlots). map.get (assigned_in s) value) slots ∙ is ∙ ap (λ (x : ℕ). Some x) same,
          (λ v s has. ap (λ (t : StackSlots). map.get (assigned_in t) v) slots ∙ has),
        )
    by None is =
        let put : assigned_in b ≡ map.insert (assigned_in a) value slot = gives.given is in
        let found : (q : ℕ) → map.get (assigned_in b) q ≡ cond (eq_by_cmp nat_cmp q value) (Some slot) (map.get (assigned_in a) q) =
        λ q. ap (λ (m : SlotMap). map.get m q) put ∙ get-insert nat_cmp_total (assigned_in a) value slot q in (
          found value ∙ ap (λ (c : Bool). cond c (Some slot) (map.get (assigned_in a) value)) (ap is_eq (tied_itself nat_cmp_total value)),
          (λ v s has. found v ∙ ap (λ (c : Bool). cond c (Some slot) (map.get (assigned_in a) v)) (other v s has) ∙ has),
        )
      where
        other : (v s : ℕ) → map.get (assigned_in a) v ≡ Some s → eq_by_cmp nat_cmp v value ≡ false
        other v s has = not_equal _ (λ tied. let same : v ≡ value = nat_cmp-IsAntisymmetric v value (equal-is _ tied) in
            absurd (let both = sym is ∙ ap (map.get (assigned_in a)) (sym same) ∙ has in cc))

pub reload_adds : (pointer : «Type») (next value : ℕ) (f : Body) (a : StackSlots) (g : Body) (b : StackSlots) (copy : ℕ) → NoMapsBeyond f
    → MayBeSpilled f value → KnowsSlots f a → IsReloaded pointer next value f a g b copy
    → (x : Access) × (x.value ≡ value) × (copy ≡ suc x.address) × Adds Reloaded pointer f a (spot.Before next) g b (spot.Before next) (x ∷ [])
reload_adds pointer next value f a g b copy none may knows is =
    let gift = given f a value may knows is.size is.middle b is.slot is.gives in
    let middle : Body = is.middle in
    let ty : «Type» = (value_at f value).ty in
    let at : Spot = spot.Before next in
    let there : Body = with_address middle pointer at is.slot in
    let load : InstructionData = Load trusted (length middle.values) (pos 0) in
    let last : Body = put_in there at load (ty ∷ []) in
    let none_middle : NoMapsBeyond middle = λ i beyond. gift.maps i ∙ none i (subst (λ (xs : List InstNode). length xs ≤ i) gift.insts beyond) in
    let exists : value < length middle.values = subst (λ (xs : List ValueNode). value < length xs) (sym gift.values) may.exists in
    let grown = values_there Reloaded pointer middle at is.slot value (ty ∷ []) none_middle in
    let count : length last.values ≡ length there.values + 1 = length-append there.values (result_nodes (length there.insts) 0 (ty ∷ [])) in
    let x : Access = record { value = value; slot = is.slot; inst = length middle.insts; address = length middle.values } in
    let keeps_middle = put_in_keeps 0 middle at (StackLoad StackAddr is.slot (pos 0)) (pointer ∷ []) in
    let keeps_there = put_in_keeps 0 there at load (ty ∷ []) in
    let copy_type : (value_at last (suc (length middle.values))).ty ≡ ty =
    ap (λ (v : ℕ). (value_at last v).ty) (sym grown) ∙ put_in_type there at load ty in
    let value_type : (value_at last value).ty ≡ ty =
    ap (λ (node : ValueNode). node.ty)
    (same_value 0 there last keeps_there value (let more = more_values 0 middle there keeps_middle in omega (arith, exists, more))
    ∙ same_value 0 middle there keeps_middle value exists
    ∙ ap (λ (xs : List ValueNode). slice_index_or xs value no_value) gift.values) in
    let put = put_access Reloaded pointer middle at is.slot value (ty ∷ []) none_middle exists (ap (λ (v : ℕ). v ∷ []) grown) (omega (arith, count, grown)) (copy_type ∙ sym value_type) in
    let slots = gives_slots value is.slot is.size a b f middle is.gives in (
      x,
      refl,
      is.copy_is ∙ (let more : length middle.values + 1 ≡ suc (length middle.values) = omega arith in more),
      record {
        cut = λ block front back cut.
            subst (λ (h : Body). IsCut h block at (front ++ insts_of (x ∷ [])) back) (sym is.put)
            (put_cut Reloaded pointer middle at is.slot value (ty ∷ []) none_middle block front back
            (cut_stays f middle block at front back (let same = ap (λ (xs : List InstNode). length xs) gift.insts in omega (arith, same))
            (gift.keeps 0).blocks (ap (λ (xs : List BlockNode). (slice_index_or xs block empty_block).insts) gift.blocks)
            (ap (λ (xs : List InstNode). (slice_index_or xs next no_inst).block) gift.insts) cut));
        are = subst (λ (h : Body). AreAccesses Reloaded pointer h (length f.insts) (length f.values) (x ∷ []) (length h.insts) (length h.values)) (sym is.put) (
          (let same = ap (λ (xs : List InstNode). length xs) gift.insts in omega (arith, same)),
          (let same = ap (λ (xs : List ValueNode). length xs) gift.values in omega (arith, same)),
          put.0,
          (put.1, omega (arith, count, grown)),
        );
        slots = only slots.0;
        still = slots.1;
        blocks = ap (λ (h : Body). length h.blocks) is.put ∙ put_blocks Reloaded pointer middle at is.slot value (ty ∷ []) none_middle
            ∙ ap (λ (xs : List BlockNode). length xs) gift.blocks;
      },
    )
  where
    only : map.get (assigned_in b) value ≡ Some is.slot
        → HaveSlots b (record { value = value; slot = is.slot; inst = length is.middle.insts; address = length is.middle.values } ∷ [])
    only has x (zero, inside, same) = subst (λ (y : Access). map.get (assigned_in b) y.value ≡ Some y.slot) same has
    only has x (suc k, inside, same) = absurd (omega (arith, inside))
