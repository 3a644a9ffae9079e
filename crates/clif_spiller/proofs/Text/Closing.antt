-- What was written, in a function at the end, as the law of spilling has it: reloads, stores and what is read.
use Rattle.std.proofs.Common.{◌≡◌, ◌∙◌, ◌<◌, ◌≤◌, ◌-◌, ℕ, zero, suc, pos, Bool, true, false, cond, List, [], ◌∷◌, ◌++◌, length, map as each, refl, sym, ap, ap₂, subst, arith, inl, inr, length-append}
use Rattle.std.specs.Prelude.{Contains, None, Some, filter}
use Rattle.std.specs.FinMap as fin
use Rattle.clif_types.specs.EntitySet.{has}
use Rattle.clif_types.specs.declared.types.«Type».{«Type»}
use Rattle.clif_opcodes.specs.declared.opcodes.StackOpcode.TheVariants.{StackAddr}
use Rattle.clif_instructions.specs.Instruction.{contexts, operands}
use Rattle.clif_instructions.specs.declared.instructions.InstructionData.{InstructionData}
use Rattle.clif_instructions.specs.declared.instructions.InstructionData.TheVariants.{Load, StackLoad, Store}
use Rattle.clif_instructions.proofs.Lists.{at_append}
use Rattle.clif_nodes.specs.declared.nodes.ValueNode.{ValueNode}
use Rattle.clif_nodes.specs.Nodes.{no_value}
use Rattle.clif_ir.specs.Body.{Body, alias_of, alias_of_origin, resolved, value_at}
use Rattle.clif_ir.specs.Consistent.{IsConsistent}
use Rattle.clif_ir.proofs.Aliases.{follow_end, resolved-no_alias}
use Rattle.clif_meaning.specs.FunctionView.{Placed}
use Rattle.clif_meaning.specs.Instruction.{Stack}
use Rattle.clif_meaning.specs.Instruction as operation
use Rattle.clif_meaning.specs.View.{controlling_of, edges_of, operation_of, placed_of, view_of}
use Rattle.clif_safepoints.proofs.Paths.{stands_to}
use Rattle.clif_typed_runs.specs.ValuesFit.{AliasesTyped}
use Rattle.clif_spilling_laws.specs.Rewriting.{IsRead}
use Rattle.clif_spilling_laws.specs.Spilling.{AreReloads, AreStores, BeginsWith, IsNew, IsStore, IsStoredIf, Reload, SlotAccess, Spilling, address_item, load_item, plain_item, reload_items, store_item, store_items}
use Rattle.clif_spilling_laws.proofs.Basics.Lists.{first_is, rest_is}
use Rattle.clif_stack_slots.specs.Slots.{assigned_in}
use Rattle.clif_stack_slots.specs.declared.slots.StackSlots.{StackSlots}
use Rattle.clif_spiller.specs.Inserting.{trusted}
use Rattle.clif_spiller.specs.Keeping.{Keeps}
use Rattle.clif_spiller.specs.Plans.{IsPlan}
use Rattle.clif_spiller.specs.Spills.{beside}
use Rattle.clif_spiller.specs.Text.{Access, AreAccesses, HaveSlots, IsAccess, IsNamedBy, IsNode, IsReadBy, IsReadWhere, Reloaded, Stored, Way, insts_of, past_access}
use Rattle.clif_spiller.specs.declared.plan.Plan.{Plan}
use Rattle.clif_spiller.proofs.Advancing.{name_inside, names_stay}
use Rattle.clif_spiller.proofs.Keeping.{same_value}
use Rattle.clif_spiller.proofs.Progressing.Members.{from_map, into_map}
use Rattle.clif_spiller.proofs.Text.Adding.{in_range}
use Rattle.clif_spiller.proofs.Text.Landing.{access_inside}

-- an instruction that is there, as the machines see it
pub placed_node : (f : Body) (i : ℕ) (shape : InstructionData) (results : List ℕ) → IsNode f i shape results
    → placed_of f i
    ≡ record {
      instruction = record {
        operation = operation_of f.tables shape;
        controlling = controlling_of f shape results;
        operands = operands shape;
        contexts = contexts shape;
        edges = edges_of shape;
      };
      results = results;
      stack_map = [];
    }
placed_node f i shape results is = λ j. record {
  instruction = record {
    operation = operation_of f.tables (is.shape_is j);
    controlling = controlling_of f (is.shape_is j) (is.results_are j);
    operands = operands (is.shape_is j);
    contexts = contexts (is.shape_is j);
    edges = edges_of (is.shape_is j);
  };
  results = is.results_are j;
  stack_map = is.no_map j;
}

-- the function that was found, and the one at the end, with the slots of values
module _ (first : Body) (plan : Plan) (last : Body) (final : StackSlots) (slot_of : ℕ → ℕ) (known : IsConsistent first) (n : ℕ) (keeps : Keeps n first last)
    (slots : (v slot : ℕ) → fin.get (assigned_in final) v ≡ Some slot → slot_of v ≡ slot)
    (spilled : (v slot : ℕ) → fin.get (assigned_in final) v ≡ Some slot → has plan.spilled v ≡ true)
    (planned : IsPlan first plan) where
  abbrev s : Spilling
  s = beside first plan.pointer last (has plan.spilled) slot_of

  -- VALUES --------------------------------------------------------------------------------------------------------------

  pub type_kept : (v : ℕ) → v < length first.values → (value_at last v).ty ≡ (value_at first v).ty
  type_kept v inside = ap (λ (node : ValueNode). node.ty) (same_value n first last keeps v inside)

  -- a new value is no alias
  pub new_itself : (v : ℕ) → length first.values ≤ v → v < length last.values → resolved last v ≡ v
  new_itself v beyond inside =
      follow_end last.values (length last.values) v
      (ap (λ (values : List ValueNode). alias_of values v) keeps.values_are
      ∙ at_append (λ (node : ValueNode). alias_of_origin node.origin ≡ None) first.values keeps.values v no_value
      (λ old. absurd (omega (arith, old, beyond)))
      (λ past. keeps.no_aliases (v - length first.values)
      (omega (arith, past, inside, ap (λ (values : List ValueNode). length values) keeps.values_are, length-append first.values keeps.values))))

  pub is_new : (v : ℕ) (ty : «Type») → length first.values ≤ v → v < length last.values → (value_at last v).ty ≡ ty → IsNew (beside first plan.pointer last (has plan.spilled) slot_of) ty v
  is_new v ty beyond inside typed = record { beyond = beyond; typed = typed; itself = new_itself v beyond inside }

  -- what a value stands for is no alias
  end_itself : (v : ℕ) → v < length first.values → resolved first (resolved first v) ≡ resolved first v
  end_itself v inside =
      follow_end first.values (length first.values) (resolved first v) (resolved-no_alias first.values v known.aliases_end inside)

  pub named_so : (old new : ℕ) → old < length first.values → IsNamedBy first old new → resolved last new ≡ resolved first old
  named_so old new inside (inl itself) = ap (resolved last) itself ∙ names_stay n first last keeps known old inside
  named_so old new inside (inr name) =
      ap (resolved last) name ∙ names_stay n first last keeps known (resolved first old) (name_inside first known old inside) ∙ end_itself old inside

  -- ACCESSES ------------------------------------------------------------------------------------------------------------

  abbrev pub access_of : Access → SlotAccess
  access_of x = record { value = x.value; address = x.address; region = None }

  abbrev pub reload_of : Access → Reload
  reload_of x = record { access = record { value = x.value; address = x.address; region = None }; copy = suc x.address }

  address_is : (way : Way) (x : Access) → IsAccess way plan.pointer last x → slot_of x.value ≡ x.slot
      → placed_of last x.inst ≡ address_item (beside first plan.pointer last (has plan.spilled) slot_of) (record { value = x.value; address = x.address; region = None })
  address_is way x is slot =
      placed_node last x.inst (StackLoad StackAddr x.slot (pos 0)) (x.address ∷ []) is.address
      ∙ ap₂ (λ (k : ℕ) (ty : «Type»). plain_item (Stack StackAddr k (pos 0)) ty [] (x.address ∷ [])) (sym slot) is.typed

  value_inside : (x : Access) → fin.get (assigned_in final) x.value ≡ Some x.slot → x.value < length first.values
  value_inside x has_slot = (planned.spillable x.value (stands_to x.value plan.spilled (spilled x.value x.slot has_slot))).exists

  load_is : (x : Access) → IsAccess Reloaded plan.pointer last x → fin.get (assigned_in final) x.value ≡ Some x.slot
      → placed_of last (suc x.inst) ≡ load_item (beside first plan.pointer last (has plan.spilled) slot_of) (reload_of x)
  load_is x is has_slot =
      placed_node last (suc x.inst) (Load trusted x.address (pos 0)) (suc x.address ∷ []) is.access
      ∙ ap (λ (ty : «Type»). plain_item (operation.Load trusted (pos 0)) ty (x.address ∷ []) (suc x.address ∷ [])) (is.copied ∙ type_kept x.value (value_inside x has_slot))

  store_is : (x : Access) → IsAccess Stored plan.pointer last x → fin.get (assigned_in final) x.value ≡ Some x.slot
      → placed_of last (suc x.inst) ≡ store_item (beside first plan.pointer last (has plan.spilled) slot_of) (access_of x)
  store_is x is has_slot =
      placed_node last (suc x.inst) (Store trusted (x.value ∷ x.address ∷ []) (pos 0)) [] is.access
      ∙ ap (λ (ty : «Type»). plain_item (operation.Store trusted (pos 0)) ty (x.value ∷ x.address ∷ []) []) (type_kept x.value (value_inside x has_slot))

  first_has : (x : Access) (xs : List Access) → HaveSlots final (x ∷ xs) → fin.get (assigned_in final) x.value ≡ Some x.slot
  first_has x xs have = have x (0, omega arith, refl)

  rest_have : (x : Access) (xs : List Access) → HaveSlots final (x ∷ xs) → HaveSlots final xs
  rest_have x xs have y here = have y (suc here.0, (let inside = here.1 in omega (arith, inside)), here.2)

  -- RELOADS -------------------------------------------------------------------------------------------------------------

  pub reloads_are : (m v : ℕ) (xs : List Access) (m' v' : ℕ) → AreAccesses Reloaded plan.pointer last m v xs m' v' → HaveSlots final xs → (rest : List ℕ)
      → each (placed_of last) (insts_of xs ++ rest) ≡ reload_items (beside first plan.pointer last (has plan.spilled) slot_of) (each reload_of xs) (each (placed_of last) rest)
  reloads_are m v [] m' v' are have rest = refl
  reloads_are m v (x ∷ xs) m' v' are have rest =
      let has_slot = first_has x xs have in
      let more = reloads_are (suc (suc x.inst)) (past_access Reloaded x) xs m' v' are.3 (rest_have x xs have) rest in
      ap₂ (λ (p : Placed) (ps : List Placed). p ∷ ps) (address_is Reloaded x are.2 (slots x.value x.slot has_slot))
      (ap₂ (λ (p : Placed) (ps : List Placed). p ∷ ps) (load_is x are.2 has_slot) more)

  pub good_reloads : (m v : ℕ) (xs : List Access) (m' v' : ℕ) → length first.values ≤ v → v' ≤ length last.values → AreAccesses Reloaded plan.pointer last m v xs m' v'
      → HaveSlots final xs → AreReloads (beside first plan.pointer last (has plan.spilled) slot_of) (each reload_of xs)
  good_reloads m v [] m' v' low high are have = tt
  good_reloads m v (x ∷ xs) m' v' low high are have =
      let has_slot = first_has x xs have in
      let from = are.1 in
      let range = in_range Reloaded plan.pointer last (suc (suc x.inst)) (past_access Reloaded x) xs m' v' are.3 in
      let below : suc (suc x.address) ≤ v' = range.1 in (
        record {
          spilled = spilled x.value x.slot has_slot;
          address = is_new x.address plan.pointer (omega (arith, low, from)) (omega (arith, below, high)) are.2.typed;
          copy = is_new (suc x.address) (value_at first x.value).ty (omega (arith, low, from)) (omega (arith, below, high)) (are.2.copied ∙ type_kept x.value (value_inside x has_slot));
        },
        (λ y here.
            let found = from_map reload_of xs y here in
            let later = (access_inside Reloaded plan.pointer last (suc (suc x.inst)) (past_access Reloaded x) xs m' v' found.0 are.3 found.1).0 in
            let copy_is : suc found.0.address ≡ y.copy = ap (λ (r : Reload). r.copy) found.2 in
            let address_is : found.0.address ≡ y.access.address = ap (λ (r : Reload). r.access.address) found.2 in
            ((λ same. omega (arith, same, later, copy_is)), (λ same. omega (arith, same, later, address_is)))),
        good_reloads (suc (suc x.inst)) (past_access Reloaded x) xs m' v' (omega (arith, low, from)) high are.3 (rest_have x xs have),
      )

  -- WHAT IS READ --------------------------------------------------------------------------------------------------------

  -- an access of a list that is there, and its values
  access_there : (m v : ℕ) (xs : List Access) (m' v' : ℕ) (x : Access) → AreAccesses Reloaded plan.pointer last m v xs m' v' → Contains xs x → IsAccess Reloaded plan.pointer last x
  access_there m v [] m' v' x are (k, inside, is) = absurd (omega (arith, inside))
  access_there m v (y ∷ xs) m' v' x are (zero, inside, is) = subst (IsAccess Reloaded plan.pointer last) is are.2
  access_there m v (y ∷ xs) m' v' x are (suc k, inside, is) =
      access_there (suc (suc y.inst)) (past_access Reloaded y) xs m' v' x are.3 (k, omega (arith, inside), is)

  named_type : (old new : ℕ) → old < length first.values → AliasesTyped (view_of first) → IsNamedBy first old new → (value_at last new).ty ≡ (value_at first old).ty
  named_type old new inside typed (inl itself) = ap (λ (v : ℕ). (value_at last v).ty) itself ∙ type_kept old inside
  named_type old new inside typed (inr name) =
      ap (λ (v : ℕ). (value_at last v).ty) name ∙ type_kept (resolved first old) (name_inside first known old inside) ∙ typed old

  pub is_read : (m v : ℕ) (xs : List Access) (m' v' : ℕ) → AreAccesses Reloaded plan.pointer last m v xs m' v' → (old new : ℕ) → old < length first.values
      → IsReadBy plan first xs old new → IsRead (beside first plan.pointer last (has plan.spilled) slot_of) (each reload_of xs) old new
  is_read m v xs m' v' are old new inside is = by (has plan.spilled (resolved first old)) refl is
    where
      by : (c : Bool) → has plan.spilled (resolved first old) ≡ c → IsReadWhere c first xs old new
          → IsRead (beside first plan.pointer last (has plan.spilled) slot_of) (each reload_of xs) old new
      by true is_spilled (x, here, value, copy) =
          let there = access_there m v xs m' v' x are here in
          record {
            typed = λ typed.
                ap (λ (w : ℕ). (value_at last w).ty) copy ∙ there.copied ∙ ap (λ (w : ℕ). (value_at last w).ty) value
                ∙ type_kept (resolved first old) (name_inside first known old inside) ∙ typed old;
            how = inl (is_spilled, reload_of x, into_map reload_of xs x here, value, sym copy);
          }
      by false not_spilled named = record {
        typed = λ typed. named_type old new inside typed named;
        how = inr (not_spilled, named_so old new inside named);
      }

  -- STORES --------------------------------------------------------------------------------------------------------------

  pub stores_are : (m v : ℕ) (xs : List Access) (m' v' : ℕ) → AreAccesses Stored plan.pointer last m v xs m' v' → HaveSlots final xs → (rest : List ℕ)
      → each (placed_of last) (insts_of xs ++ rest) ≡ store_items (beside first plan.pointer last (has plan.spilled) slot_of) (each access_of xs) (each (placed_of last) rest)
  stores_are m v [] m' v' are have rest = refl
  stores_are m v (x ∷ xs) m' v' are have rest =
      let has_slot = first_has x xs have in
      let more = stores_are (suc (suc x.inst)) (past_access Stored x) xs m' v' are.3 (rest_have x xs have) rest in
      ap₂ (λ (p : Placed) (ps : List Placed). p ∷ ps) (address_is Stored x are.2 (slots x.value x.slot has_slot))
      (ap₂ (λ (p : Placed) (ps : List Placed). p ∷ ps) (store_is x are.2 has_slot) more)

  -- those that a test picks are stored, and others are not needed
  module _ (Needed : ℕ → Type 0) (picked : ℕ → Bool) (picked_spilled : (v : ℕ) → picked v ≡ true → has plan.spilled v ≡ true) where
    pub good_stores : (values : List ℕ) (m v : ℕ) (xs : List Access) (m' v' : ℕ) → length first.values ≤ v → v' ≤ length last.values
        → AreAccesses Stored plan.pointer last m v xs m' v' → each (λ (x : Access). x.value) xs ≡ filter picked values
        → ((w : ℕ) → Contains values w → has plan.spilled w ≡ true → picked w ≡ false → Needed w → ⊥)
        → AreStores (beside first plan.pointer last (has plan.spilled) slot_of) Needed values (each access_of xs)
    good_stores [] m v [] m' v' low high are those unneeded = refl
    good_stores [] m v (x ∷ xs) m' v' low high are those unneeded = cc
    good_stores (w ∷ values) m v xs m' v' low high are those unneeded =
        by (λ m₁ v₁ ys from is some. good_stores values m₁ v₁ ys m' v' from high is some rest_unneeded) (picked w) refl (has plan.spilled w) refl
      where
        rest_unneeded : (u : ℕ) → Contains values u → has plan.spilled u ≡ true → picked u ≡ false → Needed u → ⊥
        rest_unneeded u here = unneeded u (suc here.0, (let inside = here.1 in omega (arith, inside)), here.2)

        Later : Type 0
        Later =
            (m₁ v₁ : ℕ) (ys : List Access) → length first.values ≤ v₁ → AreAccesses Stored plan.pointer last m₁ v₁ ys m' v'
            → each (λ (x : Access). x.value) ys ≡ filter picked values
            → AreStores (beside first plan.pointer last (has plan.spilled) slot_of) Needed values (each access_of ys)

        stored : Later → (ys : List Access) → AreAccesses Stored plan.pointer last m v ys m' v' → each (λ (x : Access). x.value) ys ≡ w ∷ filter picked values
            → BeginsWith (IsStore (beside first plan.pointer last (has plan.spilled) slot_of) w) (AreStores (beside first plan.pointer last (has plan.spilled) slot_of) Needed values) (each access_of ys)
        stored later [] is none = cc
        stored later (x ∷ ys) is some =
            let from = is.1 in
            let range = in_range Stored plan.pointer last (suc (suc x.inst)) (past_access Stored x) ys m' v' is.3 in
            let below : suc x.address ≤ v' = range.1 in (
              record {
                value = first_is x.value w (each (λ (y : Access). y.value) ys) (filter picked values) some;
                address = is_new x.address plan.pointer (omega (arith, low, from)) (omega (arith, below, high)) is.2.typed;
              },
              later (suc (suc x.inst)) (past_access Stored x) ys (omega (arith, low, from)) is.3 (rest_is x.value w (each (λ (y : Access). y.value) ys) (filter picked values) some),
            )

        Goal : Bool → Type 0
        Goal c =
            IsStoredIf c (Needed w → ⊥) (IsStore (beside first plan.pointer last (has plan.spilled) slot_of) w)
            (AreStores (beside first plan.pointer last (has plan.spilled) slot_of) Needed values) (each access_of xs)

        kept : (c : Bool) → picked w ≡ c → each (λ (x : Access). x.value) xs ≡ cond c (w ∷ filter picked values) (filter picked values)
        kept c is = those ∙ ap (λ (p : Bool). cond p (w ∷ filter picked values) (filter picked values)) is

        by : Later → (p : Bool) → picked w ≡ p → (q : Bool) → has plan.spilled w ≡ q → Goal (has plan.spilled w)
        by later true is_picked q is_spilled = subst Goal (sym (picked_spilled w is_picked)) (inl (stored later xs are (kept true is_picked)))
        by later false not_picked true is_spilled =
            subst Goal (sym is_spilled) (inr (unneeded w (0, omega arith, refl) is_spilled not_picked, later m v xs low are (kept false not_picked)))
        by later false not_picked false not_spilled = subst Goal (sym not_spilled) (later m v xs low are (kept false not_picked))
