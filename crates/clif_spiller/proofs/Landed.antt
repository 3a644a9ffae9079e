-- What landing blocks do to slots, argument by argument and edge by edge.
use Rattle.std.proofs.Common.{◌≡◌, ◌≢◌, ◌∙◌, ◌<◌, ◌≤◌, ◌+◌, ◌-◌, ℕ, zero, suc, List, [], ◌∷◌, ◌++◌, length, get_or, set, take, drop, refl, sym, ap, ap₂, subst, arith, ◌⊎◌, inl, inr}
use Rattle.std.specs.Prelude.{All}
use Rattle.std.proofs.lemmas.List.{append-nil, take_all}
use Rattle.clif_instructions.specs.Edges.{edge_at, no_edge}
use Rattle.clif_instructions.specs.Instruction.{destinations, operands, with_edge}
use Rattle.clif_instructions.specs.declared.block_call.BlockArg.{BlockArg}
use Rattle.clif_instructions.specs.declared.block_call.BlockArg.TheVariants as arg
use Rattle.clif_instructions.specs.declared.block_call.BlockCall.{BlockCall}
use Rattle.clif_instructions.specs.declared.instructions.InstructionData.{InstructionData}
use Rattle.std.proofs.lemmas.Bool.{cases_eq}
use Rattle.clif_instructions.proofs.Lists.{at_set, below_or_not}
use Rattle.clif_instructions.specs.Members.{Stands}
use Rattle.clif_nodes.specs.declared.nodes.InstNode.{InstNode}
use Rattle.clif_ir.specs.Body.{Body, block_at, inst_at}
use Rattle.clif_ir.specs.Changes.{with_shape}
use Rattle.clif_ir.specs.Consistent.{IsConsistent, PassedExists}
use Rattle.clif_stack_slots.specs.declared.slots.StackSlots.{StackSlots}
use Rattle.clif_tables.specs.Lists.{TableLists, stack_map_at}
use Rattle.clif_spiller.specs.Acting.{Acts, GoesBy, LandsEdge, LandsEdges, args_of, edge_values, needs, no_argument, passed_value, passed_values}
use Rattle.clif_spiller.specs.Keeping.{Keeps}
use Rattle.clif_spiller.specs.Plans.{GoesOn, KnowsSlots, OwnArgument}
use Rattle.clif_spiller.specs.declared.plan.Plan.{Plan}
use Rattle.clif_spiller.proofs.Acting.{acts_beside, acts_nothing, acts_then, goes_beside, goes_then, needs_append}
use Rattle.clif_spiller.proofs.Edges.{all_passed_stay, passed_stays}
use Rattle.clif_spiller.proofs.Keeping.{at_set_or_not, goes_further, goes_on_refl, keeps_fewer, keeps_trans, others_there, shape_there}
use Rattle.clif_spiller.proofs.Needing.{edges_append, needs_next, one_edge, one_passed, passed_append}
use Rattle.clif_spiller.proofs.Parts.{destinations-with_edge, operands-with_edge}

-- WHAT THE CALL GIVES ITSELF --------------------------------------------------------------------------------------------

own_passes : (f : Body) (x : BlockArg) → OwnArgument x → passed_value f x ≡ []
own_passes f (arg.Value v) own = absurd own
own_passes f (arg.TryCallRet index) own = refl
own_passes f (arg.TryCallExn part) own = refl

pub own_pass_none : (plan : Plan) (f : Body) (args : List BlockArg) → All OwnArgument args → needs plan (passed_values f args) ≡ []
own_pass_none plan f args own = ap (needs plan) (none args own)
  where
    none : (xs : List BlockArg) → All OwnArgument xs → passed_values f xs ≡ []
    none [] all = refl
    none (x ∷ xs) all = ap₂ (λ ys zs. ys ++ zs) (own_passes f x (all 0 x (omega arith))) (none xs (λ k d inside. all (suc k) d (omega (arith, inside))))

-- ARGUMENT BY ARGUMENT --------------------------------------------------------------------------------------------------

-- one argument more is landed: what it needs, and then the jump passes it on
pub landed_next : (plan : Plan) (jump n : ℕ) (f : Body) (a : StackSlots) (args : List BlockArg) (place : ℕ) (g : Body) (b : StackSlots) (h : Body) (c : StackSlots)
    (shape : InstructionData) → IsConsistent f → jump < length f.insts → Keeps n f g → Keeps n g h → place < length args → All (PassedExists f) args
    → Acts plan jump f a g b (needs plan (passed_values f (take place args)))
    → Acts plan jump g b h c (needs plan (passed_value g (get_or args place no_argument)))
    → Acts plan jump f a (with_shape h jump shape) c (needs plan (passed_values f (take (place + 1) args)))
landed_next plan jump n f a args place g b h c shape known exists keeps further inside there so_far now =
    let before = needs plan (passed_values f (take place args)) in
    let passed : BlockArg = get_or args place no_argument in
    let one : passed_value g passed ≡ passed_value f passed = passed_stays n f g keeps known passed (there place no_argument inside) in
    subst (Acts plan jump f a (with_shape h jump shape) c)
    (append-nil (before ++ needs plan (passed_value g passed)) ∙ ap (λ xs. before ++ needs plan xs) one
    ∙ ap (λ xs. before ++ xs) (sym (one_passed plan f passed)) ∙ sym (needs_next plan (passed_values f) (passed_append f) args place no_argument inside))
    (acts_then plan jump f a h c (with_shape h jump shape) c (before ++ needs plan (passed_value g passed)) [] exists (keeps_trans n f g h keeps further)
    (acts_then plan jump f a g b h c before (needs plan (passed_value g passed)) exists keeps so_far now)
    (acts_beside plan jump h (with_shape h jump shape) c refl refl (λ d. refl) (λ i below apart. others_there h jump shape i apart)))

-- AN EDGE ---------------------------------------------------------------------------------------------------------------

-- an edge that passes no spilled value stays
pub stays_straight : (plan : Plan) (inst edge : ℕ) (f : Body) (a : StackSlots) → needs plan (passed_values f (args_of f inst edge)) ≡ [] → LandsEdge plan inst edge f a f a
stays_straight plan inst edge f a none = record {
  acts = subst (Acts plan inst f a f a) (sym none) (acts_nothing plan inst f a);
  operands = refl;
  others = λ k apart. refl;
  passes_none = none;
}

-- A block and a jump come, the arguments are landed, and then the edge leads to the block.
pub lands : (plan : Plan) (inst edge jump : ℕ) (f : Body) (a : StackSlots) (j l : Body) (b : StackSlots) (g : Body) (n m : ℕ) (call : BlockCall)
    → IsConsistent f → inst < length f.insts → edge < length (destinations (inst_at f inst).shape) → inst ≢ jump → length f.insts ≤ jump
    → Keeps n f j → j.tables ≡ f.tables → ((i : ℕ) → i < length f.insts → inst_at j i ≡ inst_at f i)
    → ((c : ℕ) → c < length f.blocks → (block_at j c).insts ≡ (block_at f c).insts)
    → ((c : ℕ) → c < length f.blocks → Stands c j.layout → Stands c f.layout) → length f.blocks ≤ (inst_at j jump).block
    → Keeps m j l → Acts plan jump j a l b (needs plan (passed_values j (args_of j inst edge)))
    → All OwnArgument call.args → g ≡ with_shape l inst (with_edge edge call (inst_at l inst).shape)
    → LandsEdge plan inst edge f a g b
lands plan inst edge jump f a j l b g n m call known exists inside apart beyond keeps tables nodes lists layout home further landed own made =
    let there : inst < length l.insts = omega (arith, exists, keeps.insts, further.insts) in
    let in_jump : inst_at j inst ≡ inst_at f inst = nodes inst exists in
    let same : inst_at l inst ≡ inst_at f inst = landed.others inst (omega (arith, exists, keeps.insts)) apart ∙ in_jump in
    let old : InstructionData = (inst_at l inst).shape in
    let shape : InstructionData = with_edge edge call old in
    let was : old ≡ (inst_at f inst).shape = ap (λ (m : InstNode). m.shape) same in
    let now : (inst_at g inst).shape ≡ shape = ap (λ (x : Body). (inst_at x inst).shape) made ∙ shape_there l inst shape there in
    let edge_inside : edge < length (destinations old) = omega (arith, inside, ap (λ (s : InstructionData). length (destinations s)) was) in
    let edges_now : destinations (inst_at g inst).shape ≡ set (destinations old) edge call = ap destinations now ∙ destinations-with_edge edge call old edge_inside in
    let args_now : args_of g inst edge ≡ call.args =
    ap (λ (xs : List BlockCall). (edge_at xs edge).args) edges_now
    ∙ ap (λ (x : BlockCall). x.args) (at_set (λ (y : BlockCall). y ≡ call) (destinations old) edge call edge no_edge edge_inside (λ here. refl) (λ other. absurd (other refl))) in
    let passed : passed_values j (args_of j inst edge) ≡ passed_values f (args_of f inst edge) =
    ap (λ (node : InstNode). passed_values j (edge_at (destinations node.shape) edge).args) in_jump
    ∙ all_passed_stay n f j keeps known (args_of f inst edge) (known.edges_exist inst edge no_edge inside).1 in
    let need = needs plan (passed_values j (args_of j inst edge)) in
    let slots_stay : j.tables.stack_slots ≡ f.tables.stack_slots = ap (λ (t : TableLists). t.stack_slots) tables in
    let all_kept : Keeps 0 f l = keeps_trans 0 f j l (keeps_fewer 0 n f j (omega arith) keeps) (keeps_fewer 0 m j l (omega arith) further) in
    record {
      acts = record {
        others = λ i below other.
            ap (λ (x : Body). inst_at x i) made ∙ others_there l inst shape i other
            ∙ landed.others i (omega (arith, below, keeps.insts)) (λ is. absurd (omega (arith, is, below, beyond))) ∙ nodes i below;
        maps = λ i. ap (λ (x : Body). stack_map_at x.tables i) made ∙ landed.maps i ∙ ap (λ (t : TableLists). stack_map_at t i) tables;
        lists = λ c below other.
            ap (λ (x : Body). (block_at x c).insts) made
            ∙ landed.lists c (omega (arith, below, keeps.blocks)) (λ is. absurd (omega (arith, is, below, home))) ∙ lists c below;
        layout = λ c below stands.
            layout c below (landed.layout c (omega (arith, below, keeps.blocks)) (subst (λ (x : Body). Stands c x.layout) made stands));
        goes_by = subst (GoesBy plan f a g b) (append-nil need ∙ ap (needs plan) passed)
            (goes_then plan f a l b g b need [] all_kept
            (goes_then plan f a j a l b [] need keeps (goes_beside plan f j a slots_stay) landed.goes_by)
            (goes_beside plan l g b (ap (λ (x : Body). x.tables.stack_slots) made)));
      };
      operands = ap operands now ∙ operands-with_edge edge call old ∙ ap operands was;
      others = λ k other.
          ap (λ (xs : List BlockCall). edge_at xs k) edges_now
          ∙ at_set_or_not (λ (x : BlockCall). x ≡ edge_at (destinations old) k) (destinations old) edge call k no_edge (λ is. absurd (other is)) refl
          ∙ ap (λ (s : InstructionData). edge_at (destinations s) k) was;
      passes_none = ap (λ (xs : List BlockArg). needs plan (passed_values g xs)) args_now ∙ own_pass_none plan g call.args own;
    }

-- EDGE BY EDGE ----------------------------------------------------------------------------------------------------------

pub edges_none : (plan : Plan) (f : Body) (edges : List BlockCall) → ((k : ℕ) → k < length edges → needs plan (passed_values f (edge_at edges k).args) ≡ [])
    → needs plan (edge_values f edges) ≡ []
edges_none plan f [] none = refl
edges_none plan f (edge ∷ edges) none =
    needs_append plan (passed_values f edge.args) (edge_values f edges)
    ∙ ap₂ (λ ys zs. ys ++ zs) (none 0 (omega arith)) (edges_none plan f edges (λ k inside. none (suc k) (omega (arith, inside))))

-- The edges of items before this one are landed, and those from it on are as they were, as is the normal one.
pub record LandsFirst (plan : Plan) (inst : ℕ) (f : Body) (a : StackSlots) (edge : ℕ) (g : Body) (b : StackSlots) : Type 0 where
  pub goes : GoesOn (length f.blocks) f a g b
  pub count : length (destinations (inst_at g inst).shape) ≡ length (destinations (inst_at f inst).shape)
  pub operands : operands (inst_at g inst).shape ≡ operands (inst_at f inst).shape
  pub acts : Acts plan inst f a g b (needs plan (edge_values f (take (edge - 1) (drop 1 (destinations (inst_at f inst).shape)))))
  pub rest : (k : ℕ) → edge ≤ k → edge_at (destinations (inst_at g inst).shape) k ≡ edge_at (destinations (inst_at f inst).shape) k
  pub normal : edge_at (destinations (inst_at g inst).shape) 0 ≡ edge_at (destinations (inst_at f inst).shape) 0
  pub landed : (k : ℕ) → 1 ≤ k → k < edge → needs plan (passed_values g (args_of g inst k)) ≡ []

pub none_landed_yet : (plan : Plan) (inst : ℕ) (f : Body) (a : StackSlots) → KnowsSlots f a → LandsFirst plan inst f a 1 f a
none_landed_yet plan inst f a knows = record {
  goes = goes_on_refl (length f.blocks) f a knows;
  count = refl;
  operands = refl;
  acts = acts_nothing plan inst f a;
  rest = λ k from. refl;
  normal = refl;
  landed = λ k low high. absurd (omega (arith, low, high));
}

-- an edge that isn't this one passes what it passed
others_pass : (plan : Plan) (inst edge k n : ℕ) (g : Body) (b : StackSlots) (h : Body) (c : StackSlots) → IsConsistent g → Keeps n g h → k ≢ edge
    → k < length (destinations (inst_at g inst).shape) → LandsEdge plan inst edge g b h c
    → passed_values h (args_of h inst k) ≡ passed_values g (args_of g inst k)
others_pass plan inst edge k n g b h c known keeps apart inside landing =
    ap (λ (x : BlockCall). passed_values h x.args) (landing.others k apart)
    ∙ all_passed_stay n g h keeps known (args_of g inst k) (known.edges_exist inst k no_edge inside).1

dropped_at : (xs : List BlockCall) (k : ℕ) → suc k < length xs → get_or (drop 1 xs) k no_edge ≡ edge_at xs (suc k)
dropped_at [] k inside = absurd (omega (arith, inside))
dropped_at (x ∷ xs) k inside = refl

dropped_count : (xs : List BlockCall) (k : ℕ) → suc k < length xs → k < length (drop 1 xs)
dropped_count [] k inside = absurd (omega (arith, inside))
dropped_count (x ∷ xs) k inside = omega (arith, inside)

pub next_landed : (plan : Plan) (inst : ℕ) (f : Body) (a : StackSlots) (edge : ℕ) (g : Body) (b : StackSlots) (h : Body) (c : StackSlots)
    → IsConsistent f → IsConsistent g → inst < length f.insts → 1 ≤ edge → edge < length (destinations (inst_at f inst).shape) → LandsFirst plan inst f a edge g b
    → GoesOn (length g.blocks) g b h c → length (destinations (inst_at h inst).shape) ≡ length (destinations (inst_at g inst).shape) → LandsEdge plan inst edge g b h c
    → LandsFirst plan inst f a (edge + 1) h c
next_landed plan inst f a zero g b h c known known_g exists low inside so_far goes counted landing = absurd (omega (arith, low))
next_landed plan inst f a (suc k) g b h c known known_g exists low inside so_far goes counted landing =
    let all : List BlockCall = destinations (inst_at f inst).shape in
    let before = needs plan (edge_values f (take k (drop 1 all))) in
    let was : passed_values g (args_of g inst (suc k)) ≡ passed_values f (edge_at all (suc k)).args =
    ap (λ (x : BlockCall). passed_values g x.args) (so_far.rest (suc k) (omega arith))
    ∙ all_passed_stay (length f.blocks) f g so_far.goes.keeps known (edge_at all (suc k)).args (known.edges_exist inst (suc k) no_edge inside).1 in
    record {
      goes = goes_further f a g b h c so_far.goes goes;
      count = counted ∙ so_far.count;
      operands = landing.operands ∙ so_far.operands;
      acts = subst (Acts plan inst f a h c)
          (ap (λ xs. before ++ needs plan xs) (was ∙ ap (λ (x : BlockCall). passed_values f x.args) (sym (dropped_at all k inside)))
          ∙ ap (λ xs. before ++ xs) (sym (one_edge plan f (get_or (drop 1 all) k no_edge)))
          ∙ sym (needs_next plan (edge_values f) (edges_append f) (drop 1 all) k no_edge (dropped_count all k inside))
          ∙ ap (λ (n : ℕ). needs plan (edge_values f (take n (drop 1 all)))) (let more : k + 1 ≡ suc k + 1 - 1 = omega arith in more))
          (acts_then plan inst f a g b h c before (needs plan (passed_values g (args_of g inst (suc k)))) exists so_far.goes.keeps
          (subst (λ (n : ℕ). Acts plan inst f a g b (needs plan (edge_values f (take n (drop 1 all))))) (let fewer : suc k - 1 ≡ k = omega arith in fewer) so_far.acts) landing.acts);
      rest = λ j from. landing.others j (λ same. absurd (omega (arith, from, same))) ∙ so_far.rest j (omega (arith, from));
      normal = landing.others 0 (λ same. absurd (omega (arith, same))) ∙ so_far.normal;
      landed = λ j positive below.
          elim (below_or_not j (suc k)) [
            | inl earlier ↦
                ap (needs plan) (others_pass plan inst (suc k) j (length g.blocks) g b h c known_g goes.keeps (λ same. absurd (omega (arith, earlier, same))) (omega (arith, earlier, inside, so_far.count)) landing)
                ∙ so_far.landed j positive earlier
            | inr later ↦
                let same : suc k ≡ j = omega (arith, below, later) in
                subst (λ (x : ℕ). needs plan (passed_values h (args_of h inst x)) ≡ []) same landing.passes_none
          ];
    }

-- and the normal edge last
pub all_landed : (plan : Plan) (inst : ℕ) (f : Body) (a : StackSlots) (edge : ℕ) (g : Body) (b : StackSlots) (h : Body) (c : StackSlots)
    → IsConsistent f → IsConsistent g → inst < length f.insts → 0 < length (destinations (inst_at f inst).shape) → 1 ≤ edge → length (destinations (inst_at f inst).shape) ≤ edge
    → LandsFirst plan inst f a edge g b → GoesOn (length g.blocks) g b h c
    → length (destinations (inst_at h inst).shape) ≡ length (destinations (inst_at g inst).shape) → LandsEdge plan inst 0 g b h c → LandsEdges plan inst f a h c
all_landed plan inst f a edge g b h c known known_g exists some low past so_far goes counted landing =
    let all : List BlockCall = destinations (inst_at f inst).shape in
    let before = needs plan (edge_values f (take (edge - 1) (drop 1 all))) in
    let was : passed_values g (args_of g inst 0) ≡ passed_values f (edge_at all 0).args =
    ap (λ (x : BlockCall). passed_values g x.args) so_far.normal
    ∙ all_passed_stay (length f.blocks) f g so_far.goes.keeps known (edge_at all 0).args (known.edges_exist inst 0 no_edge some).1 in
    record {
      acts = subst (Acts plan inst f a h c)
          (ap₂ (λ (xs : List BlockCall) (values : List ℕ). needs plan (edge_values f xs) ++ needs plan values) (take_all (edge - 1) (drop 1 all) (short all (edge - 1) (omega (arith, past, low))))
          (was ∙ first_edge all some)
          ∙ sym (needs_append plan (edge_values f (drop 1 all)) (edge_values f (take 1 all))))
          (acts_then plan inst f a g b h c before (needs plan (passed_values g (args_of g inst 0))) exists so_far.goes.keeps so_far.acts landing.acts);
      operands = landing.operands ∙ so_far.operands;
      pass_none = edges_none plan h (destinations (inst_at h inst).shape) (λ k inside. each k inside (cases_eq k 0));
    }
  where
    short : (xs : List BlockCall) (n : ℕ) → length xs ≤ n + 1 → length (drop 1 xs) ≤ n
    short [] n fits = omega arith
    short (x ∷ xs) n fits = omega (arith, fits)

    first_edge : (xs : List BlockCall) → 0 < length xs → passed_values f (edge_at xs 0).args ≡ edge_values f (take 1 xs)
    first_edge [] none = absurd (omega (arith, none))
    first_edge (x ∷ xs) there = sym (append-nil (passed_values f x.args))

    each : (k : ℕ) → k < length (destinations (inst_at h inst).shape) → (k ≡ 0) ⊎ (k ≡ 0 → ⊥) → needs plan (passed_values h (args_of h inst k)) ≡ []
    each k inside (inl same) = subst (λ (x : ℕ). needs plan (passed_values h (args_of h inst x)) ≡ []) (sym same) landing.passes_none
    each k inside (inr apart) =
        ap (needs plan) (others_pass plan inst 0 k (length g.blocks) g b h c known_g goes.keeps apart (omega (arith, inside, counted)) landing)
        ∙ so_far.landed k (omega (arith, apart)) (omega (arith, inside, counted, so_far.count, past))

take_none : (n : ℕ) → take {A = BlockCall} n [] ≡ []
take_none zero = refl
take_none (suc n) = refl

-- an instruction without edges
pub none_to_land : (plan : Plan) (inst : ℕ) (f : Body) (a : StackSlots) (edge : ℕ) (g : Body) (b : StackSlots) → length (destinations (inst_at f inst).shape) ≡ 0
    → LandsFirst plan inst f a edge g b → LandsEdges plan inst f a g b
none_to_land plan inst f a edge g b none so_far = by (destinations (inst_at f inst).shape) refl (destinations (inst_at g inst).shape) refl
  where
    by : (edges : List BlockCall) → destinations (inst_at f inst).shape ≡ edges → (after : List BlockCall) → destinations (inst_at g inst).shape ≡ after → LandsEdges plan inst f a g b
    by [] is [] after_is = record {
      acts = subst (Acts plan inst f a g b)
          (ap (λ (xs : List BlockCall). needs plan (edge_values f (take (edge - 1) (drop 1 xs)))) is
          ∙ ap (λ (xs : List BlockCall). needs plan (edge_values f xs)) (take_none (edge - 1))
          ∙ ap (λ (xs : List BlockCall). needs plan (edge_values f (drop 1 xs) ++ edge_values f (take 1 xs))) (sym is)) so_far.acts;
      operands = so_far.operands;
      pass_none = ap (λ (xs : List BlockCall). needs plan (edge_values g xs)) after_is;
    }
    by [] is (x ∷ after) after_is = absurd (omega (arith, none, so_far.count, ap (λ (xs : List BlockCall). length xs) after_is))
    by (x ∷ edges) is after after_is = absurd (omega (arith, none, ap (λ (xs : List BlockCall). length xs) is))
