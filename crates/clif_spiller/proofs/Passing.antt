-- Arguments of an edge that are read anew, one after the other.
use Rattle.std.proofs.Common.{◌≡◌, ◌≢◌, ◌<◌, ◌≤◌, ◌∙◌, ◌+◌, ℕ, List, [], ◌∷◌, ◌++◌, length, get_or, set, take, refl, sym, ap, subst, arith, inl, inr}
use Rattle.std.proofs.lemmas.Bool.{cases_eq}
use Rattle.std.proofs.lemmas.List.{append-nil, take_all}
use Rattle.clif_instructions.specs.Edges.{edge_at, no_edge, with_passed}
use Rattle.clif_instructions.specs.Instruction.{destinations, operands, with_edge_argument}
use Rattle.clif_instructions.specs.declared.block_call.BlockArg.{BlockArg}
use Rattle.clif_instructions.specs.declared.block_call.BlockArg.TheVariants as arg
use Rattle.clif_instructions.specs.declared.block_call.BlockCall.{BlockCall}
use Rattle.clif_instructions.specs.declared.instructions.InstructionData.{InstructionData}
use Rattle.clif_instructions.proofs.Lists.{at_set}
use Rattle.clif_nodes.specs.declared.nodes.InstNode.{InstNode}
use Rattle.clif_ir.specs.Body.{Body, inst_at, resolved}
use Rattle.clif_ir.specs.Changes.{with_passed_argument, with_shape}
use Rattle.clif_ir.specs.Consistent.{IsConsistent, PassedExists}
use Rattle.clif_stack_slots.specs.declared.slots.StackSlots.{StackSlots}
use Rattle.clif_spiller.specs.Acting.{Acts, args_of, needs, no_argument, passed_value, passed_values}
use Rattle.clif_spiller.specs.Allocating.{SlotAct}
use Rattle.clif_spiller.specs.Keeping.{Keeps}
use Rattle.clif_spiller.specs.Plans.{GoesOn, IsPlan, IsRead, KnowsSlots, OwnArgument}
use Rattle.clif_spiller.specs.Text.{Access, IsArgumentBy, Rereads, RereadsEdge}
use Rattle.clif_spiller.specs.declared.plan.Plan.{Plan}
use Rattle.clif_spiller.proofs.Acting.{acts_beside, acts_nothing, acts_then}
use Rattle.clif_spiller.proofs.Advancing.{names_stay}
use Rattle.clif_spiller.proofs.Keeping.{at_set_or_not, goes_beside, goes_further, goes_on_refl, others_there, plan_stays, shape_there, with_shape_keeps}
use Rattle.clif_spiller.proofs.Needing.{needs_next, one_passed, passed_append}
use Rattle.clif_spiller.proofs.Parts.{destinations-with_edge_argument, operands-with_edge_argument}
use Rattle.clif_spiller.proofs.Reading.{Inserts, read_acts, read_inserts}
use Rattle.clif_spiller.proofs.Shapes.{get_or_inside, length-args-with_edge_argument, length-destinations-with_edge_argument}
use Rattle.clif_spiller.proofs.Text.Alike.{alike_edge_argument, contexts-with_edge_argument}
use Rattle.clif_spiller.proofs.Text.Lists.{zip_by_place}
use Rattle.clif_spiller.proofs.Text.Rereading.{IsNamedAlike, IsReadAdding, argument_turned, more_left, more_right, read_adds, read_turned, rereads_next, rereads_nothing}

-- The first so many arguments of an edge of an instruction are read anew. The others, the other edges and the operands are as they were.
pub record PassesOn (plan : Plan) (f : Body) (a : StackSlots) (inst edge place : ℕ) (g : Body) (b : StackSlots) : Type 0 where
  pub goes : GoesOn (length f.blocks) f a g b
  pub operands : operands (inst_at g inst).shape ≡ operands (inst_at f inst).shape
  pub edges : length (destinations (inst_at g inst).shape) ≡ length (destinations (inst_at f inst).shape)
  pub args : length (args_of g inst edge) ≡ length (args_of f inst edge)
  pub acts : Acts plan inst f a g b (needs plan (passed_values f (take place (args_of f inst edge))))
  pub others : (k : ℕ) → k ≢ edge → edge_at (destinations (inst_at g inst).shape) k ≡ edge_at (destinations (inst_at f inst).shape) k
  pub rest : (k : ℕ) → place ≤ k → get_or (args_of g inst edge) k no_argument ≡ get_or (args_of f inst edge) k no_argument
  pub target : (edge_at (destinations (inst_at g inst).shape) edge).block ≡ (edge_at (destinations (inst_at f inst).shape) edge).block
  pub accesses : List Access
  pub so : Rereads plan inst f a g b accesses
  pub read : (k : ℕ) → k < place → IsArgumentBy plan f accesses (get_or (args_of f inst edge) k no_argument) (get_or (args_of g inst edge) k no_argument)

pub none_passed_yet : (plan : Plan) (f : Body) (a : StackSlots) (inst edge : ℕ) → KnowsSlots f a → PassesOn plan f a inst edge 0 f a
none_passed_yet plan f a inst edge knows = record {
  goes = goes_on_refl (length f.blocks) f a knows;
  operands = refl;
  edges = refl;
  args = refl;
  acts = acts_nothing plan inst f a;
  others = λ k apart. refl;
  rest = λ k from. refl;
  target = refl;
  accesses = [];
  so = rereads_nothing plan inst f a;
  read = λ k before. absurd (omega (arith, before));
}

-- LISTS -----------------------------------------------------------------------------------------------------------------

entry_set : {X : Type 0} (xs : List X) (i : ℕ) (x d : X) → i < length xs → get_or (set xs i x) i d ≡ x
entry_set xs i x d inside = at_set (λ y. y ≡ x) xs i x i d inside (λ same. refl) (λ apart. absurd (apart refl))

-- the needs of one argument more
one_more : (plan : Plan) (f : Body) (args : List BlockArg) (place : ℕ) → place < length args
    → needs plan (passed_values f (take (place + 1) args)) ≡ needs plan (passed_values f (take place args)) ++ needs plan (passed_value f (get_or args place no_argument))
one_more plan f args place inside =
    needs_next plan (passed_values f) (passed_append f) args place no_argument inside
    ∙ ap (λ xs. needs plan (passed_values f (take place args)) ++ xs) (one_passed plan f (get_or args place no_argument))

-- an edge that is read from a list
pub edge_read : (edges all : List BlockCall) (edge : ℕ) (call : BlockCall) (args : List BlockArg) → edges ≡ all → edge < length all
    → args ≡ (get_or edges edge call).args → args ≡ (edge_at all edge).args
edge_read edges all edge call args same inside are =
    are ∙ ap (λ (x : BlockCall). x.args) (ap (λ (xs : List BlockCall). get_or xs edge call) same ∙ get_or_inside all edge call no_edge inside)

-- an argument that is read from a list
pub argument_read : (args all : List BlockArg) (place : ℕ) (d x : BlockArg) → args ≡ all → place < length all → get_or args place d ≡ x → get_or all place no_argument ≡ x
argument_read args all place d x same inside is =
    get_or_inside all place no_argument d inside ∙ ap (λ (xs : List BlockArg). get_or xs place d) (sym same) ∙ is

-- what is named alike in one function
pub alike_itself : (f : Body) (x : BlockArg) → IsNamedAlike f f x
alike_itself f (arg.Value v) = refl
alike_itself f (arg.TryCallRet index) = tt
alike_itself f (arg.TryCallExn part) = tt

pub is_own : (x : BlockArg) → ((operand : ℕ) → x ≡ arg.Value operand → ⊥) → OwnArgument x
is_own (arg.Value operand) other = other operand refl
is_own (arg.TryCallRet index) other = tt
is_own (arg.TryCallExn part) other = tt

-- ONE MORE --------------------------------------------------------------------------------------------------------------

module _ (plan : Plan) (f : Body) (a : StackSlots) (inst edge place : ℕ) (known : IsConsistent f) (exists : inst < length f.insts) (planned : IsPlan f plan)
    (inside : edge < length (destinations (inst_at f inst).shape)) (place_inside : place < length (args_of f inst edge))
    (g : Body) (b : StackSlots) (so_far : PassesOn plan f a inst edge place g b)
    (passed : BlockArg) (passed_is : passed ≡ get_or (args_of g inst edge) place passed) where
  passed_was : passed ≡ get_or (args_of f inst edge) place no_argument
  passed_was =
      passed_is ∙ get_or_inside (args_of g inst edge) place passed no_argument (omega (arith, place_inside, so_far.args)) ∙ so_far.rest place (omega arith)

  -- what the call gives itself stays
  pub passes_own : OwnArgument passed → PassesOn plan f a inst edge (place + 1) g b
  passes_own own = record {
    goes = so_far.goes;
    operands = so_far.operands;
    edges = so_far.edges;
    args = so_far.args;
    acts = subst (Acts plan inst f a g b) (sym (append-nil before) ∙ ap (λ xs. before ++ xs) (sym nothing) ∙ sym (one_more plan f (args_of f inst edge) place place_inside)) so_far.acts;
    others = so_far.others;
    rest = λ k from. so_far.rest k (omega (arith, from));
    target = so_far.target;
    accesses = so_far.accesses;
    so = so_far.so;
    read = λ k low.
        elim (cases_eq k place) [
          | inl now ↦
              subst (λ (j : ℕ). IsArgumentBy plan f so_far.accesses (get_or (args_of f inst edge) j no_argument) (get_or (args_of g inst edge) j no_argument)) (sym now)
              (subst (λ (y : BlockArg). IsArgumentBy plan f so_far.accesses (get_or (args_of f inst edge) place no_argument) y) (sym (so_far.rest place (omega arith)))
              (subst (λ (y : BlockArg). IsArgumentBy plan f so_far.accesses y y) passed_was (itself passed own)))
          | inr other ↦ so_far.read k (omega (arith, low, other))
        ];
  }
    where
      itself : (x : BlockArg) → OwnArgument x → IsArgumentBy plan f so_far.accesses x x
      itself (arg.Value v) h = absurd h
      itself (arg.TryCallRet index) h = refl
      itself (arg.TryCallExn part) h = refl

      before : List SlotAct
      before = needs plan (passed_values f (take place (args_of f inst edge)))

      by : (x : BlockArg) → OwnArgument x → needs plan (passed_value f x) ≡ []
      by (arg.Value v) h = absurd h
      by (arg.TryCallRet index) h = refl
      by (arg.TryCallExn part) h = refl

      nothing : needs plan (passed_value f (get_or (args_of f inst edge) place no_argument)) ≡ []
      nothing = ap (λ x. needs plan (passed_value f x)) (sym passed_was) ∙ by passed own

  module _ (operand : ℕ) (value : passed ≡ arg.Value operand) (h : Body) (c : StackSlots) (new : ℕ) (read : IsRead plan inst operand g b h c new) where
    step : Inserts g b h c
    step = read_inserts plan inst operand g b h c new (plan_stays (length f.blocks) f g so_far.goes.keeps plan planned) so_far.goes.slots read

    pub there : inst < length h.insts
    there = omega (arith, exists, so_far.goes.keeps.insts, (step.goes 0).keeps.insts)

    pub same : inst_at h inst ≡ inst_at g inst
    same = step.nodes inst (omega (arith, exists, so_far.goes.keeps.insts))

    further : GoesOn (length f.blocks) f a h c
    further = goes_further f a g b h c so_far.goes (step.goes (length g.blocks))

    is_value : get_or (args_of f inst edge) place no_argument ≡ arg.Value operand
    is_value = sym passed_was ∙ value

    stands_for : resolved g operand ≡ resolved f operand
    stands_for =
        let edge_there = known.edges_exist inst edge no_edge inside in
        let exists_there : PassedExists f (arg.Value operand) = subst (PassedExists f) is_value (edge_there.1 place no_argument place_inside) in
        names_stay (length f.blocks) f g so_far.goes.keeps known operand exists_there

    abbrev before : List SlotAct
    before = needs plan (passed_values f (take place (args_of f inst edge)))

    all_acts : (before ++ needs plan (resolved g operand ∷ [])) ++ [] ≡ needs plan (passed_values f (take (place + 1) (args_of f inst edge)))
    all_acts =
        append-nil (before ++ needs plan (resolved g operand ∷ []))
        ∙ ap (λ (v : ℕ). before ++ needs plan (v ∷ [])) stands_for
        ∙ ap (λ (x : BlockArg). before ++ needs plan (passed_value f x)) (sym is_value)
        ∙ sym (one_more plan f (args_of f inst edge) place place_inside)

    -- what the read adds
    added : IsReadAdding plan inst operand g b h c new
    added =
        read_adds plan inst operand g b h c new
        (λ i beyond. so_far.acts.maps i ∙ known.maps_known i (let more = so_far.goes.keeps.insts in omega (arith, beyond, more)))
        (plan_stays (length f.blocks) f g so_far.goes.keeps plan planned) so_far.goes.slots read

    abbrev all_accesses : List Access
    all_accesses = so_far.accesses ++ added.accesses

    -- by which the argument is read
    is_read : (args : List BlockArg) → args ≡ set (args_of h inst edge) place (arg.Value new) → (k : ℕ) → k < place + 1
        → IsArgumentBy plan f all_accesses (get_or (args_of f inst edge) k no_argument) (get_or args k no_argument)
    is_read args are k low =
        elim (cases_eq k place) [
          | inl now ↦
              subst (λ (j : ℕ). IsArgumentBy plan f all_accesses (get_or (args_of f inst edge) j no_argument) (get_or args j no_argument)) (sym now)
              (subst (λ (y : BlockArg). IsArgumentBy plan f all_accesses (get_or (args_of f inst edge) place no_argument) y)
              (sym (ap (λ (xs : List BlockArg). get_or xs place no_argument) are
              ∙ entry_set (args_of h inst edge) place (arg.Value new) no_argument
              (omega (arith, place_inside, so_far.args, ap (λ (m : InstNode). length (edge_at (destinations m.shape) edge).args) same))))
              (subst (λ (y : BlockArg). IsArgumentBy plan f all_accesses y (arg.Value new)) (sym is_value)
              (read_turned plan g f added.accesses all_accesses operand new (sym stands_for) (more_right so_far.accesses added.accesses) added.read)))
          | inr other ↦
              subst (λ (y : BlockArg). IsArgumentBy plan f all_accesses (get_or (args_of f inst edge) k no_argument) y)
              (sym (ap (λ (xs : List BlockArg). get_or xs k no_argument) are
              ∙ at_set_or_not (λ (y : BlockArg). y ≡ get_or (args_of h inst edge) k no_argument) (args_of h inst edge) place (arg.Value new) k no_argument (λ is. absurd (other is)) refl
              ∙ ap (λ (m : InstNode). get_or (edge_at (destinations m.shape) edge).args k no_argument) same))
              (argument_turned plan f f so_far.accesses all_accesses _ _ (alike_itself f _) (more_left so_far.accesses added.accesses)
              (so_far.read k (omega (arith, low, other))))
        ]

    pub passes_next : (k : Body) → k ≡ with_passed_argument h inst edge place new → PassesOn plan f a inst edge (place + 1) k c
    passes_next k made =
        let old : InstructionData = (inst_at h inst).shape in
        let shape : InstructionData = with_edge_argument edge place new old in
        let now : (inst_at k inst).shape ≡ shape = ap (λ (x : Body). (inst_at x inst).shape) made ∙ shape_there h inst shape there in
        let was : old ≡ (inst_at g inst).shape = ap (λ (m : InstNode). m.shape) same in
        let edge_inside : edge < length (destinations old) = omega (arith, inside, so_far.edges, ap (λ (s : InstructionData). length (destinations s)) was) in
        let edges_now : destinations (inst_at k inst).shape ≡ set (destinations old) edge (with_passed place new (edge_at (destinations old) edge)) =
        ap destinations now ∙ destinations-with_edge_argument edge place new old edge_inside in
        let args_now : args_of k inst edge ≡ set (edge_at (destinations old) edge).args place (arg.Value new) =
        ap (λ (xs : List BlockCall). (edge_at xs edge).args) edges_now ∙ ap (λ (x : BlockCall). x.args) (entry_set (destinations old) edge (with_passed place new (edge_at (destinations old) edge)) no_edge edge_inside) in
        let written : Acts plan inst h c k c [] =
        subst (λ (x : Body). Acts plan inst h c x c []) (sym made) (acts_beside plan inst h (with_shape h inst shape) c refl refl (λ d. refl) (λ i below apart. others_there h inst shape i apart)) in
        record {
          goes = goes_further f a h c k c further
              (goes_beside (length h.blocks) h c k further.slots (subst (Keeps (length h.blocks) h) (sym made) (with_shape_keeps (length h.blocks) h inst shape)));
          operands = ap operands now ∙ operands-with_edge_argument edge place new old ∙ ap operands was ∙ so_far.operands;
          edges = ap (λ (s : InstructionData). length (destinations s)) now ∙ length-destinations-with_edge_argument edge place new old
              ∙ ap (λ (s : InstructionData). length (destinations s)) was ∙ so_far.edges;
          args = ap (λ (s : InstructionData). length (edge_at (destinations s) edge).args) now ∙ length-args-with_edge_argument edge place new old
              ∙ ap (λ (s : InstructionData). length (edge_at (destinations s) edge).args) was ∙ so_far.args;
          acts = subst (Acts plan inst f a k c) all_acts
              (acts_then plan inst f a h c k c (before ++ needs plan (resolved g operand ∷ [])) [] exists further.keeps
              (acts_then plan inst f a g b h c before (needs plan (resolved g operand ∷ [])) exists so_far.goes.keeps so_far.acts
              (read_acts plan inst operand g b h c new (omega (arith, exists, so_far.goes.keeps.insts)) (plan_stays (length f.blocks) f g so_far.goes.keeps plan planned) so_far.goes.slots read)) written);
          others = λ j apart.
              ap (λ (xs : List BlockCall). edge_at xs j) edges_now
              ∙ at_set_or_not (λ (x : BlockCall). x ≡ edge_at (destinations old) j) (destinations old) edge _ j no_edge (λ other. absurd (apart other)) refl
              ∙ ap (λ (s : InstructionData). edge_at (destinations s) j) was ∙ so_far.others j apart;
          rest = λ j from.
              ap (λ (xs : List BlockArg). get_or xs j no_argument) args_now
              ∙ at_set_or_not (λ (x : BlockArg). x ≡ get_or (edge_at (destinations old) edge).args j no_argument) (edge_at (destinations old) edge).args place _ j no_argument
              (λ other. absurd (omega (arith, from, other))) refl
              ∙ ap (λ (s : InstructionData). get_or (edge_at (destinations s) edge).args j no_argument) was
              ∙ so_far.rest j (omega (arith, from));
          target = ap (λ (xs : List BlockCall). (edge_at xs edge).block) edges_now
              ∙ ap (λ (x : BlockCall). x.block) (entry_set (destinations old) edge (with_passed place new (edge_at (destinations old) edge)) no_edge edge_inside)
              ∙ ap (λ (s : InstructionData). (edge_at (destinations s) edge).block) was ∙ so_far.target;
          accesses = so_far.accesses ++ added.accesses;
          so = rereads_next plan inst (length f.blocks) 0 f a g b so_far.accesses h c added.accesses (needs plan (resolved g operand ∷ [])) shape k exists so_far.goes.keeps (step.goes 0).keeps
              (read_acts plan inst operand g b h c new (omega (arith, exists, so_far.goes.keeps.insts)) (plan_stays (length f.blocks) f g so_far.goes.keeps plan planned) so_far.goes.slots read)
              same so_far.so added.adds made (alike_edge_argument edge place new old) (contexts-with_edge_argument edge place new old);
          read = is_read (args_of k inst edge) args_now;
        }

-- and then all of them
pub all_passed : (plan : Plan) (f : Body) (a : StackSlots) (inst edge place : ℕ) (g : Body) (b : StackSlots) → length (args_of f inst edge) ≤ place
    → PassesOn plan f a inst edge place g b → Acts plan inst f a g b (needs plan (passed_values f (args_of f inst edge)))
all_passed plan f a inst edge place g b past passes =
    subst (λ (xs : List BlockArg). Acts plan inst f a g b (needs plan (passed_values f xs))) (take_all place (args_of f inst edge) past) passes.acts

pub all_passed_by : (plan : Plan) (f : Body) (a : StackSlots) (inst edge place : ℕ) (g : Body) (b : StackSlots) → length (args_of f inst edge) ≤ place
    → PassesOn plan f a inst edge place g b → RereadsEdge plan inst edge f a g b
all_passed_by plan f a inst edge place g b past passes = record {
  accesses = passes.accesses;
  so = passes.so;
  operands = passes.operands;
  reads = record {
    block = passes.target;
    args = zip_by_place (IsArgumentBy plan f passes.accesses) (args_of f inst edge) (args_of g inst edge) no_argument no_argument passes.args
        (λ k inside. passes.read k (omega (arith, inside, past)));
  };
}
