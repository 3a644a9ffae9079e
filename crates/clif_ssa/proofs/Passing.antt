-- Branches whose edges pass one value more to a block.
use Rattle.std.proofs.Common.{◌≡◌, ◌≢◌, ℕ, zero, suc, ◌<◌, List, [], ◌∷◌, ◌++◌, length, map, get_or, refl, ap, arith, sym, ◌∙◌, subst, ◌⊎◌, inl, inr, ◌+◌, ◌-◌}
use Rattle.std.specs.Prelude.{Option, Some, None, slice_get, slice_index, Contains, if◌then◌else◌}
use Rattle.std.proofs.lemmas.Grind.{common_steps}
use Rattle.std.proofs.lemmas.Bool.{cases_eq}
use Rattle.clif_ir.specs.Body.{Body, inst_at}
use Rattle.clif_nodes.specs.Nodes.{no_inst}
use Rattle.clif_ir.specs.Changes.{with_branch_argument}
use Rattle.clif_ir.specs.Consistent.{IsConsistent}
use Rattle.clif_instructions.specs.Members.{Once}
use Rattle.clif_instructions.specs.Edges.{appended_to, with_argument_to, targets}
use Rattle.clif_instructions.specs.Instruction.{destinations, with_argument}
use Rattle.clif_instructions.specs.declared.block_call.BlockArg.{BlockArg}
use Rattle.clif_instructions.specs.declared.block_call.BlockArg.TheVariants.{Value}
use Rattle.clif_instructions.specs.declared.block_call.BlockCall.{BlockCall}
use Rattle.clif_nodes.specs.declared.nodes.InstNode.{InstNode}
use Rattle.clif_instructions.specs.declared.instructions.InstructionData.{InstructionData}
use Rattle.clif_instructions.proofs.Lists.{at_set}
use Rattle.clif_instructions.proofs.Members.{if_true, if_false, Once-tail}
use Rattle.clif_ir.proofs.KeepsBranch.{destinations-with_argument, with_branch_argument_consistent}
use Rattle.clif_paths.specs.Places.{inside, Arm, same_place}
use Rattle.clif_paths.specs.Blocks.{Blocks, last_place}
use Rattle.clif_paths.specs.LookUp.{Paired}
use Rattle.clif_paths.proofs.PathLemmas.{same_place-equal, same_place-other}
use Rattle.clif_ssa.specs.Zeros.{ZeroAt, HasZero, IsStep}
use Rattle.clif_ssa.proofs.Pooled.{zeros_stay}
use Rattle.clif_ssa.proofs.ZeroTable.{plain_step}
use Rattle.clif_ssa.specs.LookUp.{branch_block, with_arguments}
use Rattle.clif_ssa.specs.Sound.{edges_at, edge_target, args_of, passed_at, passed_count}

-- EDGES -----------------------------------------------------------------------------------------------------------

same_some : {x y : ℕ} → ◌≡◌ {A = Option ℕ} (Some x) (Some y) → x ≡ y
same_some same = cc

appended_block : (b v : ℕ) (edge : BlockCall) → (appended_to b v edge).block ≡ edge.block
appended_block b v edge =
    elim (cases_eq edge.block b) [
      | inl same ↦ ap (λ (e : BlockCall). e.block) (if_true edge.block b (record edge { args = edge.args ++ Value v ∷ [] }) edge same)
      | inr other ↦ ap (λ (e : BlockCall). e.block) (if_false edge.block b (record edge { args = edge.args ++ Value v ∷ [] }) edge other)
    ]

targets_same : (b v : ℕ) (edges : List BlockCall) → targets (with_argument_to b v edges) ≡ targets edges
targets_same b v [] = refl
targets_same b v (edge ∷ edges) = ap (λ c. c ∷ targets (with_argument_to b v edges)) (appended_block b v edge) ∙ ap (λ cs. edge.block ∷ cs) (targets_same b v edges)

pub args_more : (b v : ℕ) (edges : List BlockCall) (k : ℕ) → slice_get (targets edges) k ≡ Some b
    → args_of (slice_get (with_argument_to b v edges) k) ≡ args_of (slice_get edges k) ++ Value v ∷ []
args_more b v [] k leads = absurd (none_some leads)
  where
    none_some : {x : ℕ} → ◌≡◌ {A = Option ℕ} None (Some x) → ⊥
    none_some same = cc
args_more b v (edge ∷ edges) zero leads =
    ap (λ (e : BlockCall). e.args) (if_true edge.block b (record edge { args = edge.args ++ Value v ∷ [] }) edge (same_some leads))
args_more b v (edge ∷ edges) (suc k) leads = args_more b v edges k leads

pub args_same : (b v : ℕ) (edges : List BlockCall) (k : ℕ) → slice_get (targets edges) k ≢ Some b
    → args_of (slice_get (with_argument_to b v edges) k) ≡ args_of (slice_get edges k)
args_same b v [] k apart = refl
args_same b v (edge ∷ edges) zero apart =
    ap (λ (e : BlockCall). e.args) (if_false edge.block b (record edge { args = edge.args ++ Value v ∷ [] }) edge (λ same. apart (ap Some same)))
args_same b v (edge ∷ edges) (suc k) apart = args_same b v edges k apart

some_kept : {X : Type 0} (xs ys : List X) (m : ℕ) (a : X) → slice_get xs m ≡ Some a → slice_get (xs ++ ys) m ≡ Some a
some_kept [] ys m a is = absurd (none_some is)
  where
    none_some : {X : Type 0} {x : X} → ◌≡◌ {A = Option X} None (Some x) → ⊥
    none_some same = cc
some_kept (x ∷ xs) ys zero a is = is
some_kept (x ∷ xs) ys (suc m) a is = some_kept xs ys m a is

pub some_pushed : {X : Type 0} (xs : List X) (a : X) → slice_get (xs ++ a ∷ []) (length xs) ≡ Some a
some_pushed [] a = refl
some_pushed (x ∷ xs) a = some_pushed xs a

-- FUNCTIONS -------------------------------------------------------------------------------------------------------

-- The second function has the same values, blocks and layout as the first, and the same branches, of whose edges those to
-- the block may pass more arguments at the end.
pub record Passing (b : ℕ) (f g : Body) : Type 0 where
  pub same : g ≡ record f { insts = g.insts }
  pub count : length g.insts ≡ length f.insts
  pub block : (j : ℕ) → branch_block g j ≡ branch_block f j
  pub results : (j : ℕ) → (inst_at g j).results ≡ (inst_at f j).results
  pub plain : (j : ℕ) (shape : InstructionData) → ((c w : ℕ) → with_argument c w shape ≡ shape)
      → (inst_at f j).shape ≡ shape → (inst_at g j).shape ≡ shape
  pub target : (j k : ℕ) → edge_target g j k ≡ edge_target f j k
  pub kept : (j k m : ℕ) (a : BlockArg) → passed_at f j k m ≡ Some a → passed_at g j k m ≡ Some a
  pub elsewhere : (j k c : ℕ) → edge_target f j k ≡ Some c → c ≢ b → passed_count g j k ≡ passed_count f j k

pub passing_none : (b : ℕ) (f : Body) → Passing b f f
passing_none b f = record {
  same = refl;
  count = refl;
  block = λ j. refl;
  results = λ j. refl;
  plain = λ j shape plain is. is;
  target = λ j k. refl;
  kept = λ j k m a is. is;
  elsewhere = λ j k c leads apart. refl;
}

pub passing_then : (b : ℕ) (f g h : Body) → Passing b f g → Passing b g h → Passing b f h
passing_then b f g h first second = record {
  same = second.same ∙ ap (λ (k : Body). record k { insts = h.insts }) first.same;
  count = second.count ∙ first.count;
  block = λ j. second.block j ∙ first.block j;
  results = λ j. second.results j ∙ first.results j;
  plain = λ j shape plain is. second.plain j shape plain (first.plain j shape plain is);
  target = λ j k. second.target j k ∙ first.target j k;
  kept = λ j k m a is. second.kept j k m a (first.kept j k m a is);
  elsewhere = λ j k c leads apart. second.elsewhere j k c (first.target j k ∙ leads) apart ∙ first.elsewhere j k c leads apart;
}

abbrev more_node : Body → ℕ → ℕ → ℕ → InstNode
more_node f i b v = record (inst_at f i) { shape = with_argument b v (inst_at f i).shape }

inst_here : (f : Body) (i b v : ℕ) → i < length f.insts → inst_at (with_branch_argument f i b v) i ≡ more_node f i b v
inst_here f i b v within = at_set (λ m. m ≡ more_node f i b v) f.insts i (more_node f i b v) i no_inst within (λ _. refl) (λ differs. absurd (differs refl))

pub inst_other : (f : Body) (i b v j : ℕ) → i < length f.insts → j ≢ i → inst_at (with_branch_argument f i b v) j ≡ inst_at f j
inst_other f i b v j within other = at_set (λ m. m ≡ inst_at f j) f.insts i (more_node f i b v) j no_inst within (λ same. absurd (other same)) (λ _. refl)

pub edges_here : (f : Body) (i b v : ℕ) → i < length f.insts → edges_at (with_branch_argument f i b v) i ≡ with_argument_to b v (edges_at f i)
edges_here f i b v within = ap (λ (n : InstNode). destinations n.shape) (inst_here f i b v within) ∙ destinations-with_argument b v (inst_at f i).shape

pub one_passes : (f : Body) (i b v : ℕ) → i < length f.insts → Passing b f (with_branch_argument f i b v)
one_passes f i b v within =
    let g : Body = with_branch_argument f i b v in
    let at : (P : InstNode → Type 0) (j : ℕ) → (j ≡ i → P (more_node f i b v)) → P (inst_at f j) → P (inst_at g j) =
    λ P j here old. at_set P f.insts i (more_node f i b v) j no_inst within here (λ _. old) in
    record {
      same = refl;
      count = grind (arith, common_steps);
      block = λ j. at_set (λ (m : InstNode). m.block ≡ (inst_at f j).block) f.insts i (more_node f i b v) j no_inst within (λ same. ap (λ k. (inst_at f k).block) (sym same)) (λ _. refl);
      results = λ j. at_set (λ (m : InstNode). m.results ≡ (inst_at f j).results) f.insts i (more_node f i b v) j no_inst within (λ same. ap (λ k. (inst_at f k).results) (sym same)) (λ _. refl);
      plain = λ j shape plain is.
          at_set (λ (m : InstNode). m.shape ≡ shape) f.insts i (more_node f i b v) j no_inst within
          (λ same. ap (with_argument b v) (subst (λ k. (inst_at f k).shape ≡ shape) same is) ∙ plain b v) (λ _. is);
      target = λ j k.
          elim (cases_eq j i) [
            | inl same ↦
                ap (λ n. edge_target g n k) same ∙ ap (λ es. slice_get (targets es) k) (edges_here f i b v within)
                ∙ ap (λ cs. slice_get cs k) (targets_same b v (edges_at f i)) ∙ ap (λ n. edge_target f n k) (sym same)
            | inr other ↦ ap (λ (n : InstNode). slice_get (targets (destinations n.shape)) k) (inst_other f i b v j within other)
          ];
      kept = λ j k m a is.
          elim (cases_eq j i) [
            | inl same ↦
                subst (λ n. passed_at g n k m ≡ Some a) (sym same)
                (ap (λ es. slice_get (args_of (slice_get es k)) m) (edges_here f i b v within)
                ∙ still (edges_at f i) k m a (subst (λ n. passed_at f n k m ≡ Some a) same is))
            | inr other ↦ ap (λ (n : InstNode). slice_get (args_of (slice_get (destinations n.shape) k)) m) (inst_other f i b v j within other) ∙ is
          ];
      elsewhere = λ j k c leads apart.
          elim (cases_eq j i) [
            | inl same ↦
                ap (λ n. passed_count g n k) same ∙ ap (λ es. length (args_of (slice_get es k))) (edges_here f i b v within)
                ∙ ap length (args_same b v (edges_at f i) k (λ here. apart (same_some (sym leads ∙ ap (λ n. edge_target f n k) same ∙ here))))
                ∙ ap (λ n. passed_count f n k) (sym same)
            | inr other ↦ ap (λ (n : InstNode). length (args_of (slice_get (destinations n.shape) k))) (inst_other f i b v j within other)
          ];
    }
  where
    by_target : (edges : List BlockCall) (k m : ℕ) (a : BlockArg) → slice_get (args_of (slice_get edges k)) m ≡ Some a
        → (target : Option ℕ) → slice_get (targets edges) k ≡ target → slice_get (args_of (slice_get (with_argument_to b v edges) k)) m ≡ Some a
    by_target edges k m a is None leads =
        ap (λ xs. slice_get xs m) (args_same b v edges k (λ here. none_some (sym leads ∙ here))) ∙ is
      where
        none_some : {x : ℕ} → ◌≡◌ {A = Option ℕ} None (Some x) → ⊥
        none_some same = cc
    by_target edges k m a is (Some c) leads =
        elim (cases_eq c b) [
          | inl same ↦
              ap (λ xs. slice_get xs m) (args_more b v edges k (leads ∙ ap Some same))
              ∙ some_kept (args_of (slice_get edges k)) (Value v ∷ []) m a is
          | inr other ↦ ap (λ xs. slice_get xs m) (args_same b v edges k (λ here. other (same_some (sym leads ∙ here)))) ∙ is
        ]

    still : (edges : List BlockCall) (k m : ℕ) (a : BlockArg) → slice_get (args_of (slice_get edges k)) m ≡ Some a
        → slice_get (args_of (slice_get (with_argument_to b v edges) k)) m ≡ Some a
    still edges k m a is = by_target edges k m a is (slice_get (targets edges) k) refl

-- zeros stay as they are
pub zero_passed : (b : ℕ) (f g : Body) (z : ZeroAt) → Passing b f g → HasZero f z → HasZero g z
zero_passed b f g z passing has k step is =
    let old : IsStep f (z.inst + k) (z.value + k) step = has k step is in
    record {
      exists = let there : z.inst + k < length f.insts = old.exists in omega (arith, there, passing.count);
      value_exists = subst (λ (h : Body). z.value + k < length h.values) (sym passing.same) old.value_exists;
      constant = old.constant;
      zeros = zeros_stay f g old.constant step.size (λ c bytes here. ap (λ (h : Body). slice_get h.tables.constants c) passing.same ∙ here) old.zeros;
      shape = passing.plain (z.inst + k) (step.shape old.constant ((z.value + k) - 1)) (λ c w. (plain_step z.ty k step is).unchanged c w old.constant ((z.value + k) - 1)) old.shape;
      result = passing.results (z.inst + k) ∙ old.result;
    }

contains_cons : (i : ℕ) (is : List ℕ) (j : ℕ) → Contains (i ∷ is) j → (i ≡ j) ⊎ Contains is j
contains_cons i is j (zero, within, at) = inl at
contains_cons i is j (suc k, within, at) = inr (k, omega (arith, within), at)

contains_more : (i : ℕ) (is : List ℕ) (j : ℕ) → Contains is j → Contains (i ∷ is) j
contains_more i is j here = (suc here.0, omega (arith, here.1), here.2)

contains_first : (i : ℕ) (is : List ℕ) → Contains (i ∷ is) i
contains_first i is = (0, omega arith, refl)

-- all of these branches exist
abbrev pub AllExist : Body → List ℕ → Type 0
AllExist f branches = (j : ℕ) → Contains branches j → j < length f.insts

pub exist_then : (f g : Body) (i : ℕ) (branches : List ℕ) → length g.insts ≡ length f.insts → AllExist f (i ∷ branches) → AllExist g branches
exist_then f g i branches count exist j here = let old : j < length f.insts = exist j (contains_more i branches j here) in omega (arith, old, count)

pub arguments_pass : (branches : List ℕ) (values : List ℕ) (f : Body) (b : ℕ) → AllExist f branches → Passing b f (with_arguments f b branches values)
arguments_pass [] values f b exist = passing_none b f
arguments_pass (i ∷ branches) [] f b exist = passing_none b f
arguments_pass (i ∷ branches) (v ∷ values) f b exist =
    let first : Passing b f (with_branch_argument f i b v) = one_passes f i b v (exist i (contains_first i branches)) in
    passing_then b f (with_branch_argument f i b v) (with_arguments (with_branch_argument f i b v) b branches values) first
    (arguments_pass branches values (with_branch_argument f i b v) b (exist_then f (with_branch_argument f i b v) i branches first.count exist))

-- a branch that isn't one of them stays as it is
pub others_stay : (branches : List ℕ) (values : List ℕ) (f : Body) (b j : ℕ) → AllExist f branches → (Contains branches j → ⊥)
    → inst_at (with_arguments f b branches values) j ≡ inst_at f j
others_stay [] values f b j exist apart = refl
others_stay (i ∷ branches) [] f b j exist apart = refl
others_stay (i ∷ branches) (v ∷ values) f b j exist apart =
    let first : Passing b f (with_branch_argument f i b v) = one_passes f i b v (exist i (contains_first i branches)) in
    others_stay branches values (with_branch_argument f i b v) b j (exist_then f (with_branch_argument f i b v) i branches first.count exist)
    (λ here. apart (contains_more i branches j here))
    ∙ inst_other f i b v j (exist i (contains_first i branches)) (λ same. apart (subst (λ n. Contains (i ∷ branches) n) (sym same) (contains_first i branches)))

-- WHAT IS PASSED --------------------------------------------------------------------------------------------------

-- the value that stands beside the block from whose last place the arm comes
abbrev pub given_by : Blocks → List ℕ → List ℕ → Arm → ℕ
given_by tables [] values arm = 0
given_by tables (b ∷ blocks) [] arm = 0
given_by tables (b ∷ blocks) (v ∷ values) arm =
    if same_place arm.source (last_place tables b) then v else given_by tables blocks values arm

same_block : (tables : Blocks) (b c : ℕ) → last_place tables b ≡ last_place tables c → b ≡ c
same_block tables b c same = block_of same
  where
    block_of : {b c k j : ℕ} → inside b k ≡ inside c j → b ≡ c
    block_of same = cc

given_here : (tables : Blocks) (b : ℕ) (blocks : List ℕ) (v : ℕ) (values : List ℕ) (arm : Arm) → arm.source ≡ last_place tables b
    → given_by tables (b ∷ blocks) (v ∷ values) arm ≡ v
given_here tables b blocks v values arm at =
    ap (λ test. if test then v else given_by tables blocks values arm) (same_place-equal arm.source (last_place tables b) at)

given_other : (tables : Blocks) (b : ℕ) (blocks : List ℕ) (v : ℕ) (values : List ℕ) (arm : Arm) → arm.source ≢ last_place tables b
    → given_by tables (b ∷ blocks) (v ∷ values) arm ≡ given_by tables blocks values arm
given_other tables b blocks v values arm other =
    ap (λ test. if test then v else given_by tables blocks values arm) (same_place-other arm.source (last_place tables b) other)

once_head : (x : ℕ) (xs : List ℕ) (y : ℕ) → Once (x ∷ xs) → Contains xs y → x ≢ y
once_head x xs y once here same = once 0 (suc here.0) (omega arith) (omega (arith, here.1)) (same ∙ sym (at xs here.0 y here.1 here.2))
  where
    at : (ys : List ℕ) (k z : ℕ) → k < length ys → get_or ys k z ≡ z → slice_index ys k ≡ z
    at [] k z within is = absurd (omega (arith, within))
    at (w ∷ ys) zero z within is = is
    at (w ∷ ys) (suc k) z within is = at ys k z (omega (arith, within)) is

pub contains_map : (h : ℕ → ℕ) (xs : List ℕ) (y : ℕ) → Contains xs y → Contains (map h xs) (h y)
contains_map h [] y here = absurd (omega (arith, here.1))
contains_map h (x ∷ xs) y here =
    elim (contains_cons x xs y here) [
      | inl same ↦ subst (λ z. Contains (map h (x ∷ xs)) (h z)) same (contains_first (h x) (map h xs))
      | inr later ↦ contains_more (h x) (map h xs) (h y) (contains_map h xs y later)
    ]

map_blocks : (f g : Body) → ((j : ℕ) → branch_block g j ≡ branch_block f j) → (branches : List ℕ) → map (branch_block g) branches ≡ map (branch_block f) branches
map_blocks f g same [] = refl
map_blocks f g same (i ∷ branches) = ap (λ c. c ∷ map (branch_block g) branches) (same i) ∙ ap (λ cs. branch_block f i ∷ cs) (map_blocks f g same branches)

-- Each edge to the block, of these branches, passes the value that stands beside its branch at the end.
pub arguments_given : (branches : List ℕ) (values : List ℕ) (f : Body) (b j k : ℕ) (tables : Blocks) (arm : Arm) → AllExist f branches
    → Once (map (branch_block f) branches) → length values ≡ length branches → Contains branches j → edge_target f j k ≡ Some b
    → arm.source ≡ last_place tables (branch_block f j)
    → args_of (slice_get (edges_at (with_arguments f b branches values) j) k)
    ≡ args_of (slice_get (edges_at f j) k) ++ Value (given_by tables (map (branch_block f) branches) values arm) ∷ []
arguments_given [] values f b j k tables arm exist once count here leads from = absurd (omega (arith, here.1))
arguments_given (i ∷ branches) [] f b j k tables arm exist once count here leads from = absurd (omega (arith, count))
arguments_given (i ∷ branches) (v ∷ values) f b j k tables arm exist once count here leads from =
    let f' : Body = with_branch_argument f i b v in
    let within : i < length f.insts = exist i (contains_first i branches) in
    let first : Passing b f f' = one_passes f i b v within in
    let exist' : AllExist f' branches = exist_then f f' i branches first.count exist in
    let apart : (n : ℕ) → Contains branches n → branch_block f i ≢ branch_block f n =
    λ n there. once_head (branch_block f i) (map (branch_block f) branches) (branch_block f n) once (contains_map (branch_block f) branches n there) in
    let induction : Contains branches j → args_of (slice_get (edges_at (with_arguments f' b branches values) j) k)
    ≡ args_of (slice_get (edges_at f' j) k) ++ Value (given_by tables (map (branch_block f') branches) values arm) ∷ [] =
    λ there. arguments_given branches values f' b j k tables arm exist'
    (subst Once (sym (map_blocks f f' first.block branches)) (Once-tail (branch_block f i) (map (branch_block f) branches) once))
    (omega (arith, count)) there (first.target j k ∙ leads) (from ∙ ap (λ c. last_place tables c) (sym (first.block j))) in
    elim (cases_eq j i) [
      | inl same ↦
          let new : args_of (slice_get (edges_at f' i) k) ≡ args_of (slice_get (edges_at f i) k) ++ Value v ∷ [] =
          ap (λ es. args_of (slice_get es k)) (edges_here f i b v within) ∙ args_more b v (edges_at f i) k (ap (λ n. edge_target f n k) (sym same) ∙ leads) in
          let gone : Contains branches i → ⊥ = λ there. apart i there refl in
          let now : args_of (slice_get (edges_at (with_arguments f' b branches values) i) k) ≡ args_of (slice_get (edges_at f' i) k) =
          ap (λ (n : InstNode). args_of (slice_get (destinations n.shape) k)) (others_stay branches values f' b i exist' gone) in
          let given : given_by tables (map (branch_block f) (i ∷ branches)) (v ∷ values) arm ≡ v =
          given_here tables (branch_block f i) (map (branch_block f) branches) v values arm (from ∙ ap (λ n. last_place tables (branch_block f n)) same) in
          ap (λ n. args_of (slice_get (edges_at (with_arguments f' b branches values) n) k)) same ∙ now ∙ new
          ∙ ap (λ n. args_of (slice_get (edges_at f n) k) ++ Value v ∷ []) (sym same)
          ∙ ap (λ w. args_of (slice_get (edges_at f j) k) ++ Value w ∷ []) (sym given)
      | inr other ↦
          let there : Contains branches j = elim (contains_cons i branches j here) [ inl same ↦ absurd (other (sym same)) | inr later ↦ later ] in
          let given : given_by tables (map (branch_block f) (i ∷ branches)) (v ∷ values) arm ≡ given_by tables (map (branch_block f) branches) values arm =
          given_other tables (branch_block f i) (map (branch_block f) branches) v values arm
          (λ same. apart j there (same_block tables (branch_block f i) (branch_block f j) (sym same ∙ from))) in
          induction there
          ∙ ap (λ (n : InstNode). args_of (slice_get (destinations n.shape) k) ++ Value (given_by tables (map (branch_block f') branches) values arm) ∷ []) (inst_other f i b v j within other)
          ∙ ap (λ cs. args_of (slice_get (edges_at f j) k) ++ Value (given_by tables cs values arm) ∷ []) (map_blocks f f' first.block branches)
          ∙ ap (λ w. args_of (slice_get (edges_at f j) k) ++ Value w ∷ []) (sym given)
    ]

-- the block from which the arm comes and the value that it is given stand at one place
pub given_paired : (tables : Blocks) (blocks values : List ℕ) (b : ℕ) (arm : Arm) → Once blocks → length values ≡ length blocks → Contains blocks b
    → arm.source ≡ last_place tables b → Paired blocks values b (given_by tables blocks values arm)
given_paired tables [] values b arm once count here from = absurd (omega (arith, here.1))
given_paired tables (c ∷ blocks) [] b arm once count here from = absurd (omega (arith, count))
given_paired tables (c ∷ blocks) (v ∷ values) b arm once count here from =
    elim (contains_cons c blocks b here) [
      | inl same ↦ inl (sym same, given_here tables c blocks v values arm (from ∙ ap (λ d. last_place tables d) (sym same)))
      | inr later ↦
          let given : given_by tables (c ∷ blocks) (v ∷ values) arm ≡ given_by tables blocks values arm =
          given_other tables c blocks v values arm (λ same. once_head c blocks b once later (same_block tables c b (sym same ∙ from))) in
          inr (subst (λ w. Paired blocks values b w) (sym given) (given_paired tables blocks values b arm (Once-tail c blocks once) (omega (arith, count)) later from))
    ]

-- the function stays consistent where the values exist
pub arguments_consistent : (branches : List ℕ) (values : List ℕ) (f : Body) (b : ℕ) → AllExist f branches → ((v : ℕ) → Contains values v → v < length f.values)
    → IsConsistent f → IsConsistent (with_arguments f b branches values)
arguments_consistent [] values f b exist there known = known
arguments_consistent (i ∷ branches) [] f b exist there known = known
arguments_consistent (i ∷ branches) (v ∷ values) f b exist there known =
    let within : i < length f.insts = exist i (contains_first i branches) in
    let first : Passing b f (with_branch_argument f i b v) = one_passes f i b v within in
    arguments_consistent branches values (with_branch_argument f i b v) b (exist_then f (with_branch_argument f i b v) i branches first.count exist)
    (λ w here. there w (contains_more v values w here)) (with_branch_argument_consistent f i b v known within (there v (contains_first v values)))
