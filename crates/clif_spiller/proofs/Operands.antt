-- Operands that are read anew, one after the other.
use Rattle.std.proofs.Common.{◌≡◌, ◌∙◌, ◌<◌, ◌≤◌, ◌+◌, ℕ, zero, suc, List, [], ◌∷◌, ◌++◌, length, get_or, map, set, take, refl, sym, ap, subst, arith, inl, inr}
use Rattle.std.proofs.lemmas.Bool.{cases_eq}
use Rattle.std.proofs.lemmas.List.{append-nil, take_all}
use Rattle.clif_instructions.proofs.Lists.{at_set}
use Rattle.clif_instructions.specs.Instruction.{destinations, operands, with_operand}
use Rattle.clif_instructions.specs.declared.instructions.InstructionData.{InstructionData}
use Rattle.clif_nodes.specs.declared.nodes.InstNode.{InstNode}
use Rattle.clif_ir.specs.Body.{Body, inst_at, resolved}
use Rattle.clif_ir.specs.Changes.{with_shape}
use Rattle.clif_ir.specs.Consistent.{IsConsistent}
use Rattle.clif_stack_slots.specs.declared.slots.StackSlots.{StackSlots}
use Rattle.clif_spiller.specs.Acting.{Acts, needs, operand_values}
use Rattle.clif_spiller.specs.Keeping.{Keeps}
use Rattle.clif_spiller.specs.Plans.{GoesOn, IsPlan, IsRead, KnowsSlots}
use Rattle.clif_spiller.specs.Text.{Access, IsReadBy, Rereads, RereadsOperands}
use Rattle.clif_spiller.specs.declared.plan.Plan.{Plan}
use Rattle.clif_spiller.proofs.Acting.{acts_beside, acts_nothing, acts_then, needs_append}
use Rattle.clif_spiller.proofs.Advancing.{names_stay}
use Rattle.clif_spiller.proofs.Keeping.{at_set_or_not, goes_beside, goes_further, goes_on_refl, others_there, plan_stays, shape_there, with_shape_keeps}
use Rattle.clif_spiller.proofs.Members.{taken_more}
use Rattle.clif_spiller.proofs.Parts.{operands-with_operand}
use Rattle.clif_spiller.proofs.Reading.{Inserts, read_acts, read_inserts}
use Rattle.clif_spiller.proofs.Shapes.{destinations-with_operand, get_or_inside, length-operands-with_operand}
use Rattle.clif_spiller.proofs.Text.Alike.{alike_operand, contexts-with_operand}
use Rattle.clif_spiller.proofs.Text.Lists.{zip_by_place}
use Rattle.clif_spiller.proofs.Text.Rereading.{IsReadAdding, more_left, more_right, read_adds, read_turned, rereads_next, rereads_nothing}

-- The first so many operands of an instruction are read anew, and the others are as they were.
pub record ReadsOperands (plan : Plan) (f : Body) (a : StackSlots) (inst place : ℕ) (g : Body) (b : StackSlots) : Type 0 where
  pub goes : GoesOn (length f.blocks) f a g b
  pub count : length (operands (inst_at g inst).shape) ≡ length (operands (inst_at f inst).shape)
  pub edges : destinations (inst_at g inst).shape ≡ destinations (inst_at f inst).shape
  pub acts : Acts plan inst f a g b (needs plan (take place (operand_values f inst)))
  pub rest : (k : ℕ) → place ≤ k → get_or (operands (inst_at g inst).shape) k 0 ≡ get_or (operands (inst_at f inst).shape) k 0
  pub accesses : List Access
  pub so : Rereads plan inst f a g b accesses
  pub read : (k : ℕ) → k < place → IsReadBy plan f accesses (get_or (operands (inst_at f inst).shape) k 0) (get_or (operands (inst_at g inst).shape) k 0)

pub no_operand_yet : (plan : Plan) (f : Body) (a : StackSlots) (inst : ℕ) → KnowsSlots f a → ReadsOperands plan f a inst 0 f a
no_operand_yet plan f a inst knows = record {
  goes = goes_on_refl (length f.blocks) f a knows;
  count = refl;
  edges = refl;
  acts = acts_nothing plan inst f a;
  rest = λ k from. refl;
  accesses = [];
  so = rereads_nothing plan inst f a;
  read = λ k before. absurd (omega (arith, before));
}

get_mapped : (p : ℕ → ℕ) (xs : List ℕ) (k d e : ℕ) → k < length xs → get_or (map p xs) k d ≡ p (get_or xs k e)
get_mapped p [] k d e inside = absurd (omega (arith, inside))
get_mapped p (x ∷ xs) zero d e inside = refl
get_mapped p (x ∷ xs) (suc k) d e inside = get_mapped p xs k d e (omega (arith, inside))

length_mapped : (p : ℕ → ℕ) (xs : List ℕ) → length (map p xs) ≡ length xs
length_mapped p [] = refl
length_mapped p (x ∷ xs) = ap suc (length_mapped p xs)

put_entry : (xs : List ℕ) (place v : ℕ) → place < length xs → get_or (set xs place v) place 0 ≡ v
put_entry xs place v inside = at_set (λ (y : ℕ). y ≡ v) xs place v place 0 inside (λ _. refl) (λ apart. absurd (apart refl))

other_entry : (xs : List ℕ) (place v k : ℕ) → place < k → get_or (set xs place v) k 0 ≡ get_or xs k 0
other_entry xs place v k before = at_set_or_not (λ (y : ℕ). y ≡ get_or xs k 0) xs place v k 0 (λ same. absurd (omega (arith, before, same))) refl

module _ (plan : Plan) (f : Body) (a : StackSlots) (inst place : ℕ) (known : IsConsistent f) (exists : inst < length f.insts) (planned : IsPlan f plan)
    (inside : place < length (operands (inst_at f inst).shape)) (g : Body) (b : StackSlots) (so_far : ReadsOperands plan f a inst place g b)
    (operand : ℕ) (operand_is : operand ≡ get_or (operands (inst_at g inst).shape) place operand)
    (h : Body) (c : StackSlots) (new : ℕ) (read : IsRead plan inst operand g b h c new) where
  step : Inserts g b h c
  step = read_inserts plan inst operand g b h c new (plan_stays (length f.blocks) f g so_far.goes.keeps plan planned) so_far.goes.slots read

  there : inst < length h.insts
  there = omega (arith, exists, so_far.goes.keeps.insts, (step.goes 0).keeps.insts)

  same : inst_at h inst ≡ inst_at g inst
  same = step.nodes inst (omega (arith, exists, so_far.goes.keeps.insts))

  abbrev value : ℕ
  value = get_or (operands (inst_at f inst).shape) place 0

  value_is : operand ≡ value
  value_is =
      operand_is ∙ get_or_inside (operands (inst_at g inst).shape) place operand 0 (omega (arith, inside, so_far.count)) ∙ so_far.rest place (omega arith)

  stands_for : resolved g operand ≡ resolved f value
  stands_for = ap (resolved g) value_is ∙ names_stay (length f.blocks) f g so_far.goes.keeps known value (known.operands_exist inst place inside)

  one_more : take (place + 1) (operand_values f inst) ≡ take place (operand_values f inst) ++ resolved g operand ∷ []
  one_more =
      taken_more (operand_values f inst) place 0 (omega (arith, inside, length_mapped (resolved f) (operands (inst_at f inst).shape)))
      ∙ ap (λ (v : ℕ). take place (operand_values f inst) ++ v ∷ []) (get_mapped (resolved f) (operands (inst_at f inst).shape) place 0 0 inside ∙ sym stands_for)

  -- what the read adds
  added : IsReadAdding plan inst operand g b h c new
  added =
      read_adds plan inst operand g b h c new
      (λ i beyond. so_far.acts.maps i ∙ known.maps_known i (let more = so_far.goes.keeps.insts in omega (arith, beyond, more)))
      (plan_stays (length f.blocks) f g so_far.goes.keeps plan planned) so_far.goes.slots read

  -- by which the operand is read
  is_read : (shape : InstructionData) → operands shape ≡ set (operands (inst_at h inst).shape) place new → (k : ℕ) → k < place + 1
      → IsReadBy plan f (so_far.accesses ++ added.accesses) (get_or (operands (inst_at f inst).shape) k 0) (get_or (operands shape) k 0)
  is_read shape are k before =
      elim (cases_eq k place) [
        | inl now ↦
            subst (λ (j : ℕ). IsReadBy plan f (so_far.accesses ++ added.accesses) (get_or (operands (inst_at f inst).shape) j 0) (get_or (operands shape) j 0)) (sym now)
            (subst (λ (v : ℕ). IsReadBy plan f (so_far.accesses ++ added.accesses) (get_or (operands (inst_at f inst).shape) place 0) v)
            (sym (ap (λ (xs : List ℕ). get_or xs place 0) are ∙ put_entry (operands (inst_at h inst).shape) place new (omega (arith, inside, so_far.count, ap (λ (m : InstNode). length (operands m.shape)) same))))
            (subst (λ (v : ℕ). IsReadBy plan f (so_far.accesses ++ added.accesses) v new) value_is
            (read_turned plan g f added.accesses (so_far.accesses ++ added.accesses) operand new
            (ap (resolved f) value_is ∙ sym stands_for) (more_right so_far.accesses added.accesses) added.read)))
        | inr other ↦
            subst (λ (v : ℕ). IsReadBy plan f (so_far.accesses ++ added.accesses) (get_or (operands (inst_at f inst).shape) k 0) v)
            (sym (ap (λ (xs : List ℕ). get_or xs k 0) are
            ∙ at_set_or_not (λ (y : ℕ). y ≡ get_or (operands (inst_at h inst).shape) k 0) (operands (inst_at h inst).shape) place new k 0 (λ is. absurd (other is)) refl
            ∙ ap (λ (m : InstNode). get_or (operands m.shape) k 0) same))
            (read_turned plan f f so_far.accesses (so_far.accesses ++ added.accesses) _ _ refl (more_left so_far.accesses added.accesses)
            (so_far.read k (omega (arith, before, other))))
      ]

  pub next_operand : (k : Body) → k ≡ with_shape h inst (with_operand place new (inst_at h inst).shape) → ReadsOperands plan f a inst (place + 1) k c
  next_operand k made =
      let old : InstructionData = (inst_at h inst).shape in
      let shape : InstructionData = with_operand place new old in
      let now : (inst_at k inst).shape ≡ shape = ap (λ (x : Body). (inst_at x inst).shape) made ∙ shape_there h inst shape there in
      let was : old ≡ (inst_at g inst).shape = ap (λ (m : InstNode). m.shape) same in
      let old_inside : place < length (operands old) = omega (arith, inside, so_far.count, ap (λ (s : InstructionData). length (operands s)) was) in
      let further : GoesOn (length f.blocks) f a h c = goes_further f a g b h c so_far.goes (step.goes (length g.blocks)) in
      let read_so : Acts plan inst f a h c (needs plan (take place (operand_values f inst)) ++ needs plan (resolved g operand ∷ [])) =
      acts_then plan inst f a g b h c (needs plan (take place (operand_values f inst))) (needs plan (resolved g operand ∷ [])) exists so_far.goes.keeps so_far.acts
      (read_acts plan inst operand g b h c new (omega (arith, exists, so_far.goes.keeps.insts)) (plan_stays (length f.blocks) f g so_far.goes.keeps plan planned) so_far.goes.slots read) in
      let written : Acts plan inst h c k c [] =
      subst (λ (x : Body). Acts plan inst h c x c []) (sym made) (acts_beside plan inst h (with_shape h inst shape) c refl refl (λ d. refl) (λ i below apart. others_there h inst shape i apart)) in
      record {
        goes = goes_further f a h c k c further
            (goes_beside (length h.blocks) h c k further.slots (subst (Keeps (length h.blocks) h) (sym made) (with_shape_keeps (length h.blocks) h inst shape)));
        count = ap (λ (s : InstructionData). length (operands s)) now ∙ length-operands-with_operand place new old
            ∙ ap (λ (s : InstructionData). length (operands s)) was ∙ so_far.count;
        edges = ap destinations now ∙ destinations-with_operand place new old ∙ ap destinations was ∙ so_far.edges;
        acts = subst (Acts plan inst f a k c) (all_acts)
            (acts_then plan inst f a h c k c (needs plan (take place (operand_values f inst)) ++ needs plan (resolved g operand ∷ [])) [] exists further.keeps read_so written);
        rest = λ j from.
            ap (λ (s : InstructionData). get_or (operands s) j 0) now
            ∙ ap (λ (xs : List ℕ). get_or xs j 0) (operands-with_operand place new old old_inside)
            ∙ other_entry (operands old) place new j (omega (arith, from))
            ∙ ap (λ (s : InstructionData). get_or (operands s) j 0) was
            ∙ so_far.rest j (omega (arith, from));
        accesses = so_far.accesses ++ added.accesses;
        so = rereads_next plan inst (length f.blocks) 0 f a g b so_far.accesses h c added.accesses (needs plan (resolved g operand ∷ [])) shape k exists so_far.goes.keeps (step.goes 0).keeps
            (read_acts plan inst operand g b h c new (omega (arith, exists, so_far.goes.keeps.insts)) (plan_stays (length f.blocks) f g so_far.goes.keeps plan planned) so_far.goes.slots read)
            same so_far.so added.adds made (alike_operand place new old) (contexts-with_operand place new old);
        read = is_read (inst_at k inst).shape (ap operands now ∙ operands-with_operand place new old old_inside);
      }
    where
      all_acts : (needs plan (take place (operand_values f inst)) ++ needs plan (resolved g operand ∷ [])) ++ [] ≡ needs plan (take (place + 1) (operand_values f inst))
      all_acts =
          append-nil (needs plan (take place (operand_values f inst)) ++ needs plan (resolved g operand ∷ []))
          ∙ sym (needs_append plan (take place (operand_values f inst)) (resolved g operand ∷ []))
          ∙ ap (needs plan) (sym one_more)

-- and then all of them
pub all_operands : (plan : Plan) (f : Body) (a : StackSlots) (inst place : ℕ) (g : Body) (b : StackSlots) → length (operands (inst_at f inst).shape) ≤ place
    → ReadsOperands plan f a inst place g b → Acts plan inst f a g b (needs plan (operand_values f inst))
all_operands plan f a inst place g b past reads =
    subst (λ (xs : List ℕ). Acts plan inst f a g b (needs plan xs))
    (take_all place (operand_values f inst) (omega (arith, past, length_mapped (resolved f) (operands (inst_at f inst).shape)))) reads.acts

pub all_reread : (plan : Plan) (f : Body) (a : StackSlots) (inst place : ℕ) (g : Body) (b : StackSlots) → length (operands (inst_at f inst).shape) ≤ place
    → ReadsOperands plan f a inst place g b → RereadsOperands plan inst f a g b
all_reread plan f a inst place g b past reads = record {
  accesses = reads.accesses;
  so = reads.so;
  reads = zip_by_place (IsReadBy plan f reads.accesses) (operands (inst_at f inst).shape) (operands (inst_at g inst).shape) 0 0 reads.count
      (λ k inside. reads.read k (omega (arith, inside, past)));
}
