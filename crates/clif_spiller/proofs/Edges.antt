-- Edges whose arguments are read anew, one after the other.
use Rattle.std.proofs.Common.{◌≡◌, ◌∙◌, ◌<◌, ◌≤◌, ◌≢◌, ◌+◌, ℕ, suc, List, [], ◌∷◌, ◌++◌, length, take, refl, sym, ap, ap₂, subst, arith, inl, inr}
use Rattle.std.specs.Prelude.{All, Contains}
use Rattle.std.proofs.lemmas.Bool.{cases_eq}
use Rattle.std.proofs.lemmas.List.{append-nil, take_all}
use Rattle.std.proofs.lemmas.List.Elements.{All-contains}
use Rattle.clif_instructions.specs.Edges.{edge_at, no_edge}
use Rattle.clif_instructions.specs.Instruction.{destinations, operands}
use Rattle.clif_instructions.specs.declared.block_call.BlockArg.{BlockArg}
use Rattle.clif_instructions.specs.declared.block_call.BlockArg.TheVariants as arg
use Rattle.clif_instructions.specs.declared.block_call.BlockCall.{BlockCall}
use Rattle.clif_ir.specs.Body.{Body, inst_at}
use Rattle.clif_ir.specs.Consistent.{EdgeExists, IsConsistent, PassedExists}
use Rattle.clif_stack_slots.specs.declared.slots.StackSlots.{StackSlots}
use Rattle.clif_spiller.specs.Acting.{Acts, edge_values, needs, operand_values, passed_value, passed_values, used_values}
use Rattle.clif_spiller.specs.Keeping.{Keeps}
use Rattle.clif_spiller.specs.Plans.{GoesOn, KnowsSlots}
use Rattle.clif_spiller.specs.Text.{Access, IsEdgeBy, Rereads, RereadsEdge}
use Rattle.clif_spiller.specs.declared.plan.Plan.{Plan}
use Rattle.clif_spiller.proofs.Acting.{acts_nothing, acts_then, needs_append}
use Rattle.clif_spiller.proofs.Advancing.{names_stay}
use Rattle.clif_spiller.proofs.Keeping.{goes_further, goes_on_refl}
use Rattle.clif_spiller.proofs.Needing.{edges_append, needs_next, one_edge}
use Rattle.clif_spiller.proofs.Passing.{alike_itself}
use Rattle.clif_spiller.proofs.Text.Rereading.{IsNamedAlike, edge_turned, more_left, more_right, rereads_nothing, rereads_then}

-- WHAT IS PASSED --------------------------------------------------------------------------------------------------------

module _ (n : ℕ) (f g : Body) (keeps : Keeps n f g) (known : IsConsistent f) where
  pub passed_stays : (x : BlockArg) → PassedExists f x → passed_value g x ≡ passed_value f x
  passed_stays (arg.Value v) there = ap (λ w. w ∷ []) (names_stay n f g keeps known v there)
  passed_stays (arg.TryCallRet index) there = refl
  passed_stays (arg.TryCallExn part) there = refl

  -- arguments that exist pass what they passed
  pub all_passed_stay : (args : List BlockArg) → All (PassedExists f) args → passed_values g args ≡ passed_values f args
  all_passed_stay [] there = refl
  all_passed_stay (x ∷ args) there =
      ap₂ (λ ys zs. ys ++ zs) (passed_stays x (there 0 x (omega arith))) (all_passed_stay args (λ k d inside. there (suc k) d (omega (arith, inside))))

  pub all_edges_stay : (edges : List BlockCall) → All (EdgeExists f) edges → edge_values g edges ≡ edge_values f edges
  all_edges_stay [] there = refl
  all_edges_stay (edge ∷ edges) there =
      ap₂ (λ ys zs. ys ++ zs) (all_passed_stay edge.args (there 0 edge (omega arith)).1) (all_edges_stay edges (λ k d inside. there (suc k) d (omega (arith, inside))))

-- EDGE BY EDGE ----------------------------------------------------------------------------------------------------------

-- The first so many edges of an instruction are read anew, and the others are as they were.
pub record ReadsEdges (plan : Plan) (f : Body) (a : StackSlots) (inst count : ℕ) (g : Body) (b : StackSlots) : Type 0 where
  pub goes : GoesOn (length f.blocks) f a g b
  pub edges : length (destinations (inst_at g inst).shape) ≡ length (destinations (inst_at f inst).shape)
  pub acts : Acts plan inst f a g b (needs plan (edge_values f (take count (destinations (inst_at f inst).shape))))
  pub rest : (k : ℕ) → count ≤ k → edge_at (destinations (inst_at g inst).shape) k ≡ edge_at (destinations (inst_at f inst).shape) k
  pub operands : operands (inst_at g inst).shape ≡ operands (inst_at f inst).shape
  pub accesses : List Access
  pub so : Rereads plan inst f a g b accesses
  pub read : (k : ℕ) → k < count → IsEdgeBy plan f accesses (edge_at (destinations (inst_at f inst).shape) k) (edge_at (destinations (inst_at g inst).shape) k)

pub no_edge_yet : (plan : Plan) (f : Body) (a : StackSlots) (inst : ℕ) → KnowsSlots f a → ReadsEdges plan f a inst 0 f a
no_edge_yet plan f a inst knows = record {
  goes = goes_on_refl (length f.blocks) f a knows;
  edges = refl;
  acts = acts_nothing plan inst f a;
  rest = λ k from. refl;
  operands = refl;
  accesses = [];
  so = rereads_nothing plan inst f a;
  read = λ k before. absurd (omega (arith, before));
}

-- arguments that exist stand for what they stood for
pub alike_there : (n : ℕ) (f g : Body) → Keeps n f g → IsConsistent f → (x : BlockArg) → PassedExists f x → IsNamedAlike f g x
alike_there n f g keeps known (arg.Value v) there = names_stay n f g keeps known v there
alike_there n f g keeps known (arg.TryCallRet index) there = tt
alike_there n f g keeps known (arg.TryCallExn part) there = tt

-- edges that exist are read anew in a later function as in this one
pub edge_there : (plan : Plan) (n : ℕ) (f g : Body) (xs ys : List Access) (old new : BlockCall) → Keeps n f g → IsConsistent f → EdgeExists f old
    → ((x : Access) → Contains xs x → Contains ys x) → IsEdgeBy plan g xs old new → IsEdgeBy plan f ys old new
edge_there plan n f g xs ys old new keeps known exists more is =
    edge_turned plan g f xs ys old new
    (λ x here. turned x (alike_there n f g keeps known x (All-contains (PassedExists f) old.args x exists.1 here))) more is
  where
    turned : (x : BlockArg) → IsNamedAlike f g x → IsNamedAlike g f x
    turned (arg.Value v) same = sym same
    turned (arg.TryCallRet index) same = tt
    turned (arg.TryCallExn part) same = tt

pub next_edge : (plan : Plan) (f : Body) (a : StackSlots) (inst count : ℕ) (g : Body) (b : StackSlots) (h : Body) (c : StackSlots)
    → IsConsistent f → inst < length f.insts → count < length (destinations (inst_at f inst).shape) → ReadsEdges plan f a inst count g b → GoesOn (length g.blocks) g b h c
    → length (destinations (inst_at h inst).shape) ≡ length (destinations (inst_at g inst).shape)
    → ((k : ℕ) → k ≢ count → edge_at (destinations (inst_at h inst).shape) k ≡ edge_at (destinations (inst_at g inst).shape) k)
    → Acts plan inst g b h c (needs plan (passed_values g (edge_at (destinations (inst_at g inst).shape) count).args))
    → RereadsEdge plan inst count g b h c → ReadsEdges plan f a inst (count + 1) h c
next_edge plan f a inst count g b h c known exists inside so_far goes edges others acts reread =
    let all : List BlockCall = destinations (inst_at f inst).shape in
    let before = needs plan (edge_values f (take count all)) in
    let same_values : passed_values g (edge_at (destinations (inst_at g inst).shape) count).args ≡ passed_values f (edge_at all count).args =
    ap (λ (edge : BlockCall). passed_values g edge.args) (so_far.rest count (omega arith))
    ∙ all_passed_stay (length f.blocks) f g so_far.goes.keeps known (edge_at all count).args (known.edges_exist inst count no_edge inside).1 in
    record {
      goes = goes_further f a g b h c so_far.goes goes;
      edges = edges ∙ so_far.edges;
      acts = subst (Acts plan inst f a h c)
          (ap (λ xs. before ++ needs plan xs) same_values
          ∙ ap (λ xs. before ++ xs) (sym (one_edge plan f (edge_at all count)))
          ∙ sym (needs_next plan (edge_values f) (edges_append f) all count no_edge inside))
          (acts_then plan inst f a g b h c before (needs plan (passed_values g (edge_at (destinations (inst_at g inst).shape) count).args)) exists so_far.goes.keeps so_far.acts acts);
      rest = λ k from. others k (λ same. absurd (omega (arith, from, same))) ∙ so_far.rest k (omega (arith, from));
      operands = reread.operands ∙ so_far.operands;
      accesses = so_far.accesses ++ reread.accesses;
      so = rereads_then plan inst (length f.blocks) (length g.blocks) f a g b so_far.accesses h c reread.accesses
          (needs plan (passed_values g (edge_at (destinations (inst_at g inst).shape) count).args)) exists so_far.goes.keeps goes.keeps acts so_far.so reread.so;
      read = λ k before.
          elim (cases_eq k count) [
            | inl now ↦
                subst (λ (j : ℕ). IsEdgeBy plan f (so_far.accesses ++ reread.accesses) (edge_at (destinations (inst_at f inst).shape) j) (edge_at (destinations (inst_at h inst).shape) j)) (sym now)
                (edge_there plan (length f.blocks) f g reread.accesses (so_far.accesses ++ reread.accesses) (edge_at all count) (edge_at (destinations (inst_at h inst).shape) count)
                so_far.goes.keeps known (known.edges_exist inst count no_edge inside) (more_right so_far.accesses reread.accesses)
                (subst (λ (old : BlockCall). IsEdgeBy plan g reread.accesses old (edge_at (destinations (inst_at h inst).shape) count)) (so_far.rest count (omega arith)) reread.reads))
            | inr other ↦
                subst (λ (new : BlockCall). IsEdgeBy plan f (so_far.accesses ++ reread.accesses) (edge_at (destinations (inst_at f inst).shape) k) new) (sym (others k other))
                (edge_turned plan f f so_far.accesses (so_far.accesses ++ reread.accesses) _ _ (λ x here. alike_itself f x) (more_left so_far.accesses reread.accesses)
                (so_far.read k (omega (arith, before, other))))
          ];
    }

-- THE WHOLE INSTRUCTION -------------------------------------------------------------------------------------------------

-- operands, then edges, and then what needs nothing
pub all_used : (plan : Plan) (inst : ℕ) (f : Body) (a : StackSlots) (g : Body) (b : StackSlots) (h : Body) (c : StackSlots) (k : Body) (count : ℕ)
    → IsConsistent f → inst < length f.insts → GoesOn (length f.blocks) f a g b → destinations (inst_at g inst).shape ≡ destinations (inst_at f inst).shape
    → Acts plan inst f a g b (needs plan (operand_values f inst)) → ReadsEdges plan g b inst count h c → length (destinations (inst_at g inst).shape) ≤ count
    → Acts plan inst h c k c [] → Acts plan inst f a k c (needs plan (used_values f inst))
all_used plan inst f a g b h c k count known exists goes edges operands_read edges_read past rest =
    let all : List BlockCall = destinations (inst_at g inst).shape in
    let first = needs plan (operand_values f inst) in
    let then_edges = needs plan (edge_values g (take count all)) in
    let same : edge_values g (take count all) ≡ edge_values f (destinations (inst_at f inst).shape) =
    ap (edge_values g) (take_all count all past ∙ edges)
    ∙ all_edges_stay (length f.blocks) f g goes.keeps known (destinations (inst_at f inst).shape) (known.edges_exist inst) in
    subst (Acts plan inst f a k c)
    (ap (λ xs. first ++ xs) (append-nil then_edges ∙ ap (needs plan) same) ∙ sym (needs_append plan (operand_values f inst) (edge_values f (destinations (inst_at f inst).shape))))
    (acts_then plan inst f a g b k c first (then_edges ++ []) exists goes.keeps operands_read
    (acts_then plan inst g b h c k c then_edges [] (omega (arith, exists, goes.keeps.insts)) edges_read.goes.keeps edges_read.acts rest))
