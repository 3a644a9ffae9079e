-- The stack maps of a function in which an instruction gets one.
use Rattle.std.proofs.Common.{◌≡◌, ◌≢◌, ◌∙◌, ℕ, List, [], ◌∷◌, ◌++◌, Bool, false, true, length, Some, cond, refl, ap, sym, subst, map as each}
use Rattle.std.specs.Prelude.{Contains, Ok, Option, unwrap_or}
use Rattle.std.proofs.lemmas.List.{append-nil}
use Rattle.std.specs.List.{AllZip}
use Rattle.std.specs.declared.cmp.Ordering.{Ordering}
use Rattle.std.specs.declared.cmp.Ordering.TheVariants.{Less, Equal, Greater}
use Rattle.std.specs.Cmp.{nat_cmp_total, tied_itself}
use Rattle.std.specs.Ordering.{nat_cmp, is_eq, match_ordering}
use Rattle.std.specs.BTreeMap.{insert_entry, is_at}
use Rattle.std.specs.FinMap.{nat_cmp-IsAntisymmetric}
use Rattle.std.specs.Map.{lookup}
use Rattle.std.proofs.lemmas.Map.Entries.{lookup_tail}
use Rattle.clif_types.specs.declared.stackmap.UserStackMapEntry.{UserStackMapEntry}
use Rattle.clif_nodes.specs.declared.nodes.ValueNode.{ValueNode}
use Rattle.clif_tables.specs.Lists.{TableLists, stack_map_at, with_stack_map}
use Rattle.clif_tables.specs.Entries.{NamesSlots}
use Rattle.clif_ir.specs.Body.{Body, value_at}
use Rattle.clif_ir.specs.Changes.{with_tables}
use Rattle.clif_stack_slots.specs.Slots.{GivesSlot}
use Rattle.clif_stack_slots.specs.declared.size.SlotSize.{SlotSize}
use Rattle.clif_stack_slots.specs.Sizes.{size_of_type}
use Rattle.clif_stack_slots.specs.declared.slots.StackSlots.{StackSlots}
use Rattle.clif_spiller.specs.Acting.{ActsMapping, GoesBy, IsEntryOf, IsOnTheWay, types_in}
use Rattle.clif_spiller.specs.Allocating.{IsSlotState, Needs, SlotState, after_act, after_acts}
use Rattle.clif_spiller.specs.Plans.{GoesOn, KnowsSlots}
use Rattle.clif_spiller.specs.declared.plan.Plan.{Plan}
use Rattle.clif_spiller.proofs.Acting.{goes_beside, goes_needed, goes_nowhere, goes_then, map_append, sized_in}
use Rattle.clif_spiller.proofs.Advancing.{on_the_way}
use Rattle.clif_spiller.proofs.Allocating.Bridging.{needed}
use Rattle.clif_spiller.proofs.Allocating.States.{act_keeps, needs_push}
use Rattle.clif_spiller.proofs.Giving.{IsGiven}
use Rattle.clif_spiller.proofs.Keeping.{goes_further, goes_on_refl, same_value}

equal-is : (o : Ordering) → is_eq o ≡ true → o ≡ Equal
equal-is Less is = cc
equal-is Equal is = refl
equal-is Greater is = cc

not_equal : (b : Bool) → (b ≡ true → ⊥) → b ≡ false
not_equal true none = absurd (none refl)
not_equal false none = refl

module _ {A : Type 0} (number : ℕ) (list : A) where
  module _ (other : ℕ) (apart : other ≢ number) where
    misses : (n : ℕ) → n ≡ number → is_at (nat_cmp other) n ≡ false
    misses n same = not_equal _ (λ is. apart (nat_cmp-IsAntisymmetric other n (equal-is _ is) ∙ same))

    abbrev found : List (ℕ × A) → Option A
    found lists = lookup (is_at (nat_cmp other)) lists

    others_found : (lists : List (ℕ × A)) → found (insert_entry nat_cmp lists number list) ≡ found lists
    others_found [] = lookup_tail (is_at (nat_cmp other)) (number, list) [] (misses number refl)
    others_found (e ∷ es) = at (nat_cmp number e.0) refl (others_found es)
      where
        at : (o : Ordering) → nat_cmp number e.0 ≡ o → found (insert_entry nat_cmp es number list) ≡ found es
            → found (match_ordering o ((number, list) ∷ e ∷ es) ((e.0, list) ∷ es) (e ∷ insert_entry nat_cmp es number list)) ≡ found (e ∷ es)
        at Less is rest = lookup_tail (is_at (nat_cmp other)) (number, list) (e ∷ es) (misses number refl)
        at Equal is rest =
            let same : e.0 ≡ number = sym (nat_cmp-IsAntisymmetric number e.0 is) in
            lookup_tail (is_at (nat_cmp other)) (e.0, list) es (misses e.0 same) ∙ sym (lookup_tail (is_at (nat_cmp other)) e es (misses e.0 same))
        at Greater is rest = λ i. cond (is_at (nat_cmp other) e.0) (Some e.1) (rest i)

  hits : (n : ℕ) → n ≡ number → is_at (nat_cmp number) n ≡ true
  hits n same = ap (is_at (nat_cmp number)) same ∙ ap is_eq (tied_itself nat_cmp_total number)

  abbrev own : List (ℕ × A) → Option A
  own lists = lookup (is_at (nat_cmp number)) lists

  own_found : (lists : List (ℕ × A)) → own (insert_entry nat_cmp lists number list) ≡ Some list
  own_found [] = λ i. cond (hits number refl i) (Some list) (own [])
  own_found (e ∷ es) = at (nat_cmp number e.0) refl (own_found es)
    where
      at : (o : Ordering) → nat_cmp number e.0 ≡ o → own (insert_entry nat_cmp es number list) ≡ Some list
          → own (match_ordering o ((number, list) ∷ e ∷ es) ((e.0, list) ∷ es) (e ∷ insert_entry nat_cmp es number list)) ≡ Some list
      at Less is rest = λ i. cond (hits number refl i) (Some list) (own (e ∷ es))
      at Equal is rest = λ i. cond (hits e.0 (sym (nat_cmp-IsAntisymmetric number e.0 is)) i) (Some list) (own es)
      at Greater is rest =
          lookup_tail (is_at (nat_cmp number)) e (insert_entry nat_cmp es number list)
          (not_equal _ (λ hit. let tied = equal-is _ hit in let greater = is in cc)) ∙ rest

pub other_map : (t : TableLists) (inst : ℕ) (entries : List UserStackMapEntry) (i : ℕ) → i ≢ inst → stack_map_at (with_stack_map t inst entries) i ≡ stack_map_at t i
other_map t inst entries i apart = ap (λ found. unwrap_or found []) (others_found inst entries i apart t.stack_maps)

pub own_map : (t : TableLists) (inst : ℕ) (entries : List UserStackMapEntry) → stack_map_at (with_stack_map t inst entries) inst ≡ entries
own_map t inst entries = ap (λ found. unwrap_or found []) (own_found inst entries t.stack_maps)

-- ENTRY BY ENTRY --------------------------------------------------------------------------------------------------------

zip_push : {X Y : Type 0} (R : X → Y → Type 0) (xs : List X) (ys : List Y) (x : X) (y : Y) → AllZip R xs ys → R x y → AllZip R (xs ++ x ∷ []) (ys ++ y ∷ [])
zip_push R [] [] x y zip r = (r, tt)
zip_push R [] (z ∷ ys) x y zip r = absurd zip
zip_push R (w ∷ xs) [] x y zip r = absurd zip
zip_push R (w ∷ xs) (z ∷ ys) x y zip r = (zip.0, zip_push R xs ys x y zip.1 r)

pub zip_weaker : {X Y : Type 0} (R S : X → Y → Type 0) (xs : List X) (ys : List Y) → ((x : X) (y : Y) → R x y → S x y) → AllZip R xs ys → AllZip S xs ys
zip_weaker R S [] [] weaker zip = tt
zip_weaker R S [] (y ∷ ys) weaker zip = absurd zip
zip_weaker R S (x ∷ xs) [] weaker zip = absurd zip
zip_weaker R S (x ∷ xs) (y ∷ ys) weaker zip = (weaker x y zip.0, zip_weaker R S xs ys weaker zip.1)

-- the values so far have slots, and these are their entries
pub record MapsFirst (plan : Plan) (f : Body) (a : StackSlots) (values : List ℕ) (g : Body) (b : StackSlots) (entries : List UserStackMapEntry) : Type 0 where
  pub goes : GoesOn (length f.blocks) f a g b
  pub named : NamesSlots g.tables entries
  pub insts : g.insts ≡ f.insts
  pub blocks : g.blocks ≡ f.blocks
  pub layout : g.layout ≡ f.layout
  pub maps : (i : ℕ) → stack_map_at g.tables i ≡ stack_map_at f.tables i
  pub goes_by : GoesBy plan f a g b (each Needs values)
  pub zip : (first : Body) → IsOnTheWay first plan f → (st : SlotState) → IsSlotState f a st
      → AllZip (IsEntryOf first (after_acts (types_in first) (each Needs values) st)) values entries

pub no_entry_yet : (plan : Plan) (f : Body) (a : StackSlots) → KnowsSlots f a → NamesSlots f.tables [] → MapsFirst plan f a [] f a []
no_entry_yet plan f a knows named = record {
  goes = goes_on_refl (length f.blocks) f a knows;
  named = named;
  insts = refl;
  blocks = refl;
  layout = refl;
  maps = λ i. refl;
  goes_by = goes_nowhere plan f a;
  zip = λ first way st was. tt;
}

module _ (plan : Plan) (f : Body) (a : StackSlots) (values : List ℕ) (g : Body) (b : StackSlots) (entries : List UserStackMapEntry)
    (so_far : MapsFirst plan f a values g b entries) (value slot : ℕ) (spilled : Contains plan.spilled value)
    (slot_size : SlotSize) (sized : size_of_type (value_at g value).ty ≡ Some slot_size) (h : Body) (c : StackSlots) (gives : GivesSlot value slot_size b c g h (Ok slot))
    (gift : IsGiven g b h c slot) (entry : UserStackMapEntry) (ty : entry.ty ≡ (value_at h value).ty) (slot_is : entry.slot ≡ slot) (offset : entry.offset ≡ 0) where
  pub next_entry : NamesSlots h.tables (entries ++ entry ∷ []) → MapsFirst plan f a (values ++ value ∷ []) h c (entries ++ entry ∷ [])
  next_entry named = record {
    goes = goes_further f a g b h c so_far.goes (record { keeps = gift.keeps (length g.blocks); slots = gift.knows });
    named = named;
    insts = gift.insts ∙ so_far.insts;
    blocks = gift.blocks ∙ so_far.blocks;
    layout = gift.layout ∙ so_far.layout;
    maps = λ i. gift.maps i ∙ so_far.maps i;
    goes_by = subst (GoesBy plan f a h c) (sym (map_append Needs values (value ∷ [])))
        (goes_then plan f a g b h c (each Needs values) (Needs value ∷ []) so_far.goes.keeps so_far.goes_by (goes_needed plan g b h c value slot slot_size spilled sized gives));
    zip = λ first way st was.
        let there = on_the_way first plan f g way so_far.goes.keeps in
        let exists = (way.planned.spillable value spilled).exists in
        let before = after_acts (types_in first) (each Needs values) st in
        let need = needed (types_in first) value slot_size (sized_in first plan g value slot_size there exists sized) b c g h before (so_far.goes_by first way st was) slot gives in
        subst (λ (s : SlotState). AllZip (IsEntryOf first s) (values ++ value ∷ []) (entries ++ entry ∷ [])) (sym (needs_push (types_in first) values value st))
        (zip_push (IsEntryOf first (after_act (types_in first) (Needs value) before)) values entries value entry
        (zip_weaker (IsEntryOf first before) (IsEntryOf first (after_act (types_in first) (Needs value) before)) values entries
        (λ v e is. record { ty = is.ty; slot = act_keeps (types_in first) (Needs value) before v e.slot is.slot; offset = is.offset }) (so_far.zip first way st was))
        (record {
          ty = ty ∙ ap (λ (node : ValueNode). node.ty)
              (same_value 0 first h (on_the_way first plan g h there (gift.keeps (length g.blocks))).keeps value exists);
          slot = need.has ∙ ap (λ (s : ℕ). Some s) (sym slot_is);
          offset = offset;
        }));
  }

-- the instruction gets the entries
pub mapped : (plan : Plan) (inst : ℕ) (f : Body) (a : StackSlots) (values : List ℕ) (g : Body) (b : StackSlots) (entries : List UserStackMapEntry)
    → MapsFirst plan f a values g b entries → ActsMapping plan inst f a (with_tables g (with_stack_map g.tables inst entries)) b values
mapped plan inst f a values g b entries so_far = record {
  insts = so_far.insts;
  blocks = so_far.blocks;
  layout = so_far.layout;
  maps = λ i apart. other_map g.tables inst entries i apart ∙ so_far.maps i;
  goes_by = subst (GoesBy plan f a (with_tables g (with_stack_map g.tables inst entries)) b) (append-nil (each Needs values))
      (goes_then plan f a g b (with_tables g (with_stack_map g.tables inst entries)) b (each Needs values) [] so_far.goes.keeps so_far.goes_by
      (goes_beside plan g (with_tables g (with_stack_map g.tables inst entries)) b refl));
  entries = λ first way st was.
      subst (AllZip (IsEntryOf first (after_acts (types_in first) (each Needs values) st)) values) (sym (own_map g.tables inst entries)) (so_far.zip first way st was);
}
