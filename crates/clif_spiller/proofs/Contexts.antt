-- Contexts of a try call that are written as what they stand for, one after the other.
use Rattle.std.proofs.Common.{◌≡◌, ◌≢◌, ◌∙◌, ◌<◌, ◌≤◌, ◌+◌, ℕ, List, [], ◌∷◌, length, get_or, set, flat_map, refl, sym, ap, subst, arith, inl, inr}
use Rattle.std.specs.Prelude.{Some, slice_get}
use Rattle.std.specs.List.{AllZip}
use Rattle.std.proofs.lemmas.Bool.{cases_eq}
use Rattle.std.proofs.lemmas.Option.{get_or_from_slice_get, slice_get_within}
use Rattle.clif_instructions.specs.ExceptionTables.{item_context}
use Rattle.clif_instructions.specs.Instruction.{contexts, destinations, items_of, operands, with_context}
use Rattle.clif_instructions.specs.declared.exception_table.ExceptionItem.{ExceptionItem}
use Rattle.clif_instructions.specs.declared.exception_table.ExceptionItem.TheVariants as kept
use Rattle.clif_instructions.specs.declared.instructions.InstructionData.{InstructionData}
use Rattle.clif_instructions.proofs.Lists.{at_set}
use Rattle.clif_nodes.specs.declared.nodes.ValueNode.{ValueNode}
use Rattle.clif_ir.specs.Body.{Body, follow, inst_at, resolved}
use Rattle.clif_ir.specs.Changes.{with_shape}
use Rattle.clif_meaning.specs.View.{call_item_of}
use Rattle.clif_spiller.specs.Keeping.{Keeps}
use Rattle.clif_spiller.specs.Text.{IsAlike, IsNamedBy, ResolvesNames}
use Rattle.clif_spiller.proofs.Keeping.{at_set_or_not, keeps_refl, keeps_trans, others_there, shape_there, with_shape_keeps}
use Rattle.clif_spiller.proofs.Parts.{destinations-with_context, operands-with_context}
use Rattle.clif_spiller.proofs.Shapes.{length-items-with_context}
use Rattle.clif_spiller.proofs.Text.Alike.{alike_context, alike_same, alike_then, contexts-items, items-with_context}
use Rattle.clif_spiller.proofs.Text.Lists.{zip_by_place}

-- an item names the same context, or is as it was
abbrev pub IsItemBy : Body → ExceptionItem → ExceptionItem → Type 0
IsItemBy f (kept.Context old) (kept.Context new) = IsNamedBy f old new
IsItemBy f (kept.Tag tag) (kept.Tag other) = tag ≡ other
IsItemBy f kept.Default kept.Default = Unit {0}
IsItemBy f _ _ = ⊥

item_itself : (f : Body) (x : ExceptionItem) → IsItemBy f x x
item_itself f (kept.Context v) = inl refl
item_itself f (kept.Tag tag) = refl
item_itself f kept.Default = tt

-- then the contexts are named so
named_items : (f : Body) (olds news : List ExceptionItem) → AllZip (IsItemBy f) olds news → AllZip (IsNamedBy f) (flat_map item_context olds) (flat_map item_context news)
named_items f [] [] zip = tt
named_items f [] (y ∷ news) zip = absurd zip
named_items f (x ∷ olds) [] zip = absurd zip
named_items f (kept.Context old ∷ olds) (kept.Context new ∷ news) zip = (zip.0, named_items f olds news zip.1)
named_items f (kept.Context old ∷ olds) (kept.Tag tag ∷ news) zip = absurd zip.0
named_items f (kept.Context old ∷ olds) (kept.Default ∷ news) zip = absurd zip.0
named_items f (kept.Tag tag ∷ olds) (kept.Tag other ∷ news) zip = named_items f olds news zip.1
named_items f (kept.Tag tag ∷ olds) (kept.Context new ∷ news) zip = absurd zip.0
named_items f (kept.Tag tag ∷ olds) (kept.Default ∷ news) zip = absurd zip.0
named_items f (kept.Default ∷ olds) (kept.Default ∷ news) zip = named_items f olds news zip.1
named_items f (kept.Default ∷ olds) (kept.Context new ∷ news) zip = absurd zip.0
named_items f (kept.Default ∷ olds) (kept.Tag tag ∷ news) zip = absurd zip.0

-- The contexts at items before this one are named by what they stand for, and the others are as they were. Another instruction stays as it
-- was, and so do the tables.
pub record ResolvesContexts (f : Body) (inst place : ℕ) (g : Body) : Type 0 where
  pub keeps : Keeps (length f.blocks) f g
  pub count : length (items_of (inst_at g inst).shape) ≡ length (items_of (inst_at f inst).shape)
  pub others : (i : ℕ) → i ≢ inst → inst_at g i ≡ inst_at f i
  pub tables : g.tables ≡ f.tables
  pub blocks : g.blocks ≡ f.blocks
  pub layout : g.layout ≡ f.layout
  pub values : g.values ≡ f.values
  pub alike : IsAlike (inst_at f inst).shape (inst_at g inst).shape
  pub operands : operands (inst_at g inst).shape ≡ operands (inst_at f inst).shape
  pub edges : destinations (inst_at g inst).shape ≡ destinations (inst_at f inst).shape
  pub rest : (k : ℕ) → place ≤ k → get_or (items_of (inst_at g inst).shape) k kept.Default ≡ get_or (items_of (inst_at f inst).shape) k kept.Default
  pub items : (k : ℕ) → IsItemBy f (get_or (items_of (inst_at f inst).shape) k kept.Default) (get_or (items_of (inst_at g inst).shape) k kept.Default)

pub none_resolved : (f : Body) (inst : ℕ) → ResolvesContexts f inst 0 f
none_resolved f inst = record {
  keeps = keeps_refl (length f.blocks) f;
  count = refl;
  others = λ i apart. refl;
  tables = refl;
  blocks = refl;
  layout = refl;
  values = refl;
  alike = alike_same (inst_at f inst).shape;
  operands = refl;
  edges = refl;
  rest = λ k from. refl;
  items = λ k. item_itself f (get_or (items_of (inst_at f inst).shape) k kept.Default);
}

-- an item that is no context stays
pub item_passed : (f g : Body) (inst item : ℕ) → ResolvesContexts f inst item g → ResolvesContexts f inst (item + 1) g
item_passed f g inst item so_far = record {
  keeps = so_far.keeps;
  count = so_far.count;
  others = so_far.others;
  tables = so_far.tables;
  blocks = so_far.blocks;
  layout = so_far.layout;
  values = so_far.values;
  alike = so_far.alike;
  operands = so_far.operands;
  edges = so_far.edges;
  rest = λ k from. so_far.rest k (omega (arith, from));
  items = so_far.items;
}

pub one_resolved : (f g : Body) (inst item context v : ℕ) → inst < length f.insts → slice_get (items_of (inst_at g inst).shape) item ≡ Some (kept.Context context)
    → v ≡ resolved g context → ResolvesContexts f inst item g
    → ResolvesContexts f inst (item + 1) (with_shape g inst (with_context item v (inst_at g inst).shape))
one_resolved f g inst item context v exists there v_is so_far =
    let old : InstructionData = (inst_at g inst).shape in
    let shape : InstructionData = with_context item v old in
    let now = shape_there g inst shape (omega (arith, exists, so_far.keeps.insts)) in
    let items_now : items_of (inst_at (with_shape g inst shape) inst).shape ≡ set (items_of old) item (kept.Context v) = ap items_of now ∙ items-with_context item v old in
    let inside : item < length (items_of old) = slice_get_within (items_of old) item (kept.Context context) there in
    let was : get_or (items_of (inst_at f inst).shape) item kept.Default ≡ kept.Context context =
    sym (so_far.rest item (omega arith)) ∙ get_or_from_slice_get (items_of old) item (kept.Context context) kept.Default there in
    let names : v ≡ resolved f context = v_is ∙ ap (λ (values : List ValueNode). follow (length values) values context) so_far.values in
    let only : (x : ExceptionItem) → slice_get (items_of old) item ≡ Some x → call_item_of x ≡ call_item_of (kept.Context v) =
    λ x is. let same : kept.Context context ≡ x = cc in ap call_item_of (sym same) in
    record {
      keeps = keeps_trans (length f.blocks) f g _ so_far.keeps (with_shape_keeps (length f.blocks) g inst shape);
      count = ap (λ (s : InstructionData). length (items_of s)) now
          ∙ length-items-with_context item v (inst_at g inst).shape ∙ so_far.count;
      others = λ i apart. others_there g inst shape i apart ∙ so_far.others i apart;
      tables = so_far.tables;
      blocks = so_far.blocks;
      layout = so_far.layout;
      values = so_far.values;
      alike = alike_then (inst_at f inst).shape old _ so_far.alike
          (subst (IsAlike old) (sym now) (alike_context item v old only));
      operands = ap operands now ∙ operands-with_context item v old ∙ so_far.operands;
      edges = ap destinations now ∙ destinations-with_context item v old ∙ so_far.edges;
      rest = λ k from.
          ap (λ (xs : List ExceptionItem). get_or xs k kept.Default) items_now
          ∙ at_set_or_not (λ (x : ExceptionItem). x ≡ get_or (items_of old) k kept.Default) (items_of old) item (kept.Context v) k kept.Default
          (λ is. absurd (omega (arith, is, from))) refl
          ∙ so_far.rest k (omega (arith, from));
      items = λ k.
          elim (cases_eq k item) [
            | inl at_item ↦
                subst (λ (j : ℕ). IsItemBy f (get_or (items_of (inst_at f inst).shape) j kept.Default)
                (get_or (items_of (inst_at (with_shape g inst shape) inst).shape) j kept.Default)) (sym at_item)
                (subst (λ (x : ExceptionItem). IsItemBy f (get_or (items_of (inst_at f inst).shape) item kept.Default) x)
                (sym (ap (λ (xs : List ExceptionItem). get_or xs item kept.Default) items_now
                ∙ at_set (λ (x : ExceptionItem). x ≡ kept.Context v) (items_of old) item (kept.Context v) item kept.Default inside (λ _. refl) (λ apart. absurd (apart refl))))
                (subst (λ (x : ExceptionItem). IsItemBy f x (kept.Context v)) (sym was) (inr names)))
            | inr other ↦
                subst (λ (x : ExceptionItem). IsItemBy f (get_or (items_of (inst_at f inst).shape) k kept.Default) x)
                (sym (ap (λ (xs : List ExceptionItem). get_or xs k kept.Default) items_now
                ∙ at_set_or_not (λ (x : ExceptionItem). x ≡ get_or (items_of old) k kept.Default) (items_of old) item (kept.Context v) k kept.Default
                (λ is. absurd (other is)) refl)) (so_far.items k)
          ];
    }

pub all_resolved : (f g : Body) (inst place : ℕ) → ResolvesContexts f inst place g → ResolvesNames inst f g
all_resolved f g inst place resolves = record {
  alike = resolves.alike;
  operands = resolves.operands;
  edges = resolves.edges;
  named = subst (λ (olds : List ℕ). AllZip (IsNamedBy f) olds (contexts (inst_at g inst).shape)) (sym (contexts-items (inst_at f inst).shape))
      (subst (AllZip (IsNamedBy f) (flat_map item_context (items_of (inst_at f inst).shape))) (sym (contexts-items (inst_at g inst).shape))
      (named_items f (items_of (inst_at f inst).shape) (items_of (inst_at g inst).shape)
      (zip_by_place (IsItemBy f) (items_of (inst_at f inst).shape) (items_of (inst_at g inst).shape) kept.Default kept.Default resolves.count (λ k inside. resolves.items k))));
}
