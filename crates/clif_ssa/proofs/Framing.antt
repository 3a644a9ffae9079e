-- What stands between the calls of the machine that looks a variable up.
use Rattle.std.proofs.Common.{◌≡◌, ◌≢◌, ℕ, zero, suc, ◌<◌, ◌≤◌, ◌&&◌, Bool, true, false, List, [], ◌∷◌, ◌++◌, length, map, refl, ap, arith, eq-eqb, sym, ◌∙◌, subst, ◌⊎◌, inl, inr}
use mathlib.Core.List.{reverse_aux}
use Rattle.std.specs.Prelude.{Option, Some, None, Contains, reverse, slice_index_or, if◌then◌else◌}
use Rattle.std.specs.List.{AllByRecursion}
use Rattle.std.proofs.lemmas.List.{get_or_default}
use Rattle.std.proofs.lemmas.List.Elements.{recursion_from_All, Contains-get_or}
use Rattle.clif_ir.specs.Body.{Body, block_at, resolved}
use Rattle.clif_ir.specs.Reading.{param_home}
use Rattle.clif_instructions.specs.Members.{place_of}
use Rattle.clif_ir.proofs.Aliases.{follow-inside, follow_end}
use Rattle.clif_instructions.proofs.Lists.{below_or_not}
use Rattle.clif_paths.specs.Places.{start, Arm}
use Rattle.clif_paths.specs.State.{Definition}
use Rattle.clif_paths.specs.Blocks.{Blocks, front, last_place, Knows}
use Rattle.clif_paths.specs.BlockLaws.{BlocksSound}
use Rattle.clif_paths.specs.LookUp.{Frame, results_of, back_onto, FrameFits, GoesTo, AtRest, InList, LeavesOneOf}
use Rattle.clif_records.specs.declared.look_up.Call.{Call}
use Rattle.clif_records.specs.declared.tables.Pending.{Pending}
use Rattle.clif_ssa.specs.Own.{Own}
use Rattle.clif_records.specs.Tables.{is_yes}
use Rattle.clif_ssa.specs.Ssa.{SsaState, record_of, sealed_of, predecessors_of, RecordsStay}
use Rattle.clif_records.specs.Stacks.{calls_for}
use Rattle.clif_ssa.specs.LookUp.{branch_block, Stage}
use Rattle.clif_ssa.specs.Sound.{Describes, CountsArguments, SameProgram, KeepsParameters, IsEdgeInto, InOrder, has_entry, entry_of, no_pending, is_some_block, is_parameter_of, parameters_of}
use Rattle.clif_ssa.proofs.Bodies.{Firm, past_alias}
use Rattle.clif_ssa.proofs.Housing.{Housed}

-- DEFINITIONS -----------------------------------------------------------------------------------------------------

-- the blocks from which control comes to a block, one for each branch that leads to it, in order
abbrev pub blocks_before : Body → SsaState → ℕ → List ℕ
blocks_before f s b = map (branch_block f) (predecessors_of s b)

-- a branch and its block exist
pub record BranchStands (f : Body) (branch : ℕ) : Type 0 where
  pub exists : branch < length f.insts
  pub block_exists : branch_block f branch < length f.blocks

abbrev pub BranchesStand : Body → SsaState → Type 0
BranchesStand f s = (b i : ℕ) → Contains (predecessors_of s b) i → BranchStands f i

-- What is the same in each call of the machine: the tables at first, with the instructions of each block that the caller
-- made; the function and the state at first; the variable; the block of the use, if it is one; and the parameters that are
-- completed later.
pub record Setting : Type 0 where
  pub own : Own
  pub before : Blocks
  pub function : Body
  pub state : SsaState
  pub variable : ℕ
  pub first : Option ℕ
  pub rest : List Pending

abbrev pub comes_from : Setting → ℕ → List ℕ
comes_from c = blocks_before c.function c.state

-- what the machine leaves of a function and of a state
pub record Since (f : Body) (s : SsaState) (g : Body) (t : SsaState) : Type 0 where
  pub insts_more : length f.insts ≤ length g.insts
  pub branches : (i : ℕ) → i < length f.insts → branch_block g i ≡ branch_block f i
  pub predecessors : (b : ℕ) → predecessors_of t b ≡ predecessors_of s b
  pub block_count : length g.blocks ≡ length f.blocks
  pub stay : RecordsStay s t

-- the parameters of the frames, which wait for the variable
abbrev pub parameters_for : ℕ → List Frame → List Pending
parameters_for x [] = []
parameters_for x (f ∷ frames) = record { variable = x; param = f.parameter } ∷ parameters_for x frames

abbrev pub completing_of : Setting → List Frame → List Pending
completing_of c frames = parameters_for c.variable frames ++ c.rest

-- The first calls are those of a frame: a look-up for each branch whose block is still to do, and the end of the look-up.
pub record FrameCalls (f : Body) (frame : Frame) (calls others : List Call) : Type 0 where
  pub branches : List ℕ
  pub to_do : map (branch_block f) branches ≡ frame.todo
  pub stand : AllByRecursion (BranchStands f) branches
  pub calls_are : calls ≡ calls_for branches frame.parameter frame.block ++ others

abbrev pub CallsOf : Body → List Frame → List Call → Type 0
CallsOf f [] calls = calls ≡ []
CallsOf f (frame ∷ frames) calls = (others : List Call) × FrameCalls f frame calls others × CallsOf f frames others

-- the block of each parameter of the list has a record of the variable
abbrev pub HomesRecorded : Body → SsaState → ℕ → List Pending → Type 0
HomesRecorded f s x ps = (p : Pending) (b : ℕ) → Contains ps p → param_home f p.param ≡ Some b → record_of s x b ≢ None

abbrev pub SameHomes : Body → Body → List Pending → Type 0
SameHomes f g ps = (p : Pending) → Contains ps p → param_home g p.param ≡ param_home f p.param

-- sound tables that describe the function and the state, while the parameters of the frames are completed
pub record Base (c : Setting) (frames : List Frame) (tables : Blocks) (m : Stage) : Type 0 where
  pub describes : Describes c.own m.function m.state (completing_of c frames) tables
  pub sound : BlocksSound tables
  pub same : SameProgram c.before tables
  pub counts : CountsArguments c.own m.function m.state tables
  pub parameters : KeepsParameters c.before tables m.state
  pub firm : Firm m.function
  pub housed : Housed m.function
  pub stand : BranchesStand c.function c.state
  pub since : Since c.function c.state m.function m.state
  pub homes : HomesRecorded m.function m.state c.variable (completing_of c frames)
  pub rest_homes : SameHomes c.function m.function c.rest

-- A result was found for what the frames expect.
pub record Hands (c : Setting) (frames : List Frame) (m : Stage) : Type 0 where
  pub tables : Blocks
  pub value : ℕ
  pub base : Base c frames tables m
  pub goes : GoesTo tables (comes_from c) c.variable c.first frames value
  pub results : m.look_up.results ≡ value ∷ results_of frames
  pub calls : CallsOf c.function frames m.look_up.calls

-- Between two calls: the frames are at rest, and the stacks are theirs.
pub record Rests (c : Setting) (f : Frame) (frames : List Frame) (m : Stage) : Type 0 where
  pub tables : Blocks
  pub base : Base c (f ∷ frames) tables m
  pub at_rest : AtRest tables (comes_from c) c.variable c.first f frames
  pub results : m.look_up.results ≡ f.results ++ results_of frames
  pub calls : CallsOf c.function (f ∷ frames) m.look_up.calls

-- The same in a function without an entry, where the tables know no block as sealed and nothing has predecessors: the one
-- parameter goes to what the use expects.
abbrev pub bare_frame : ℕ → ℕ → Frame
bare_frame param block = record { parameter = param; block = block; done = []; results = []; todo = [] }

pub record Idles (c : Setting) (param block : ℕ) (m : Stage) : Type 0 where
  pub tables : Blocks
  pub base : Base c (bare_frame param block ∷ []) tables m
  pub no_entry : has_entry m.function.layout ≡ false
  pub parameter : param_home m.function param ≡ Some block
  pub goes : GoesTo tables (comes_from c) c.variable c.first [] param
  pub results : m.look_up.results ≡ []
  pub calls : CallsOf c.function (bare_frame param block ∷ []) m.look_up.calls

-- What each call keeps: no frame is left, or frames are at rest.
abbrev pub Fits : Setting → Stage → Type 0
Fits c m =
    Hands c [] m
    ⊎ (((f : Frame) × (frames : List Frame) × Rests c f frames m)
    ⊎ ((param : ℕ) × (block : ℕ) × Idles c param block m))

-- LISTS -----------------------------------------------------------------------------------------------------------

pub in_list_map : (g : ℕ → ℕ) (xs : List ℕ) (x k : ℕ) → k < length xs → slice_index_or xs k x ≡ x → InList (map g xs) (g x)
in_list_map g [] x k inside at = absurd (omega (arith, inside))
in_list_map g (y ∷ ys) x zero inside at = inl (ap g (sym at))
in_list_map g (y ∷ ys) x (suc k) inside at = inr (in_list_map g ys x k (omega (arith, inside)) at)

pub in_map : (g : ℕ → ℕ) (xs : List ℕ) (x : ℕ) → Contains xs x → InList (map g xs) (g x)
in_map g xs x here = in_list_map g xs x here.0 here.1 here.2

pub contains_in : (xs : List ℕ) (r : ℕ) → InList xs r → Contains xs r
contains_in [] r none = absurd none
contains_in (x ∷ xs) r (inl first) = (0, omega arith, sym first)
contains_in (x ∷ xs) r (inr later) = let there : Contains xs r = contains_in xs r later in (suc there.0, omega (arith, there.1), there.2)

in_by : (xs : List ℕ) (r k : ℕ) → k < length xs → slice_index_or xs k r ≡ r → InList xs r
in_by [] r k inside at = absurd (omega (arith, inside))
in_by (x ∷ xs) r zero inside at = inl (sym at)
in_by (x ∷ xs) r (suc k) inside at = inr (in_by xs r k (omega (arith, inside)) at)

-- a list turned round, in front of another
pub turned : (xs ys : List ℕ) → back_onto xs ys ≡ reverse_aux xs ys
turned [] ys = refl
turned (x ∷ xs) ys = turned xs (x ∷ ys)

in_onto : (xs ys : List ℕ) (r : ℕ) → InList xs r ⊎ InList ys r → InList (back_onto xs ys) r
in_onto [] ys r (inl none) = absurd none
in_onto [] ys r (inr there) = there
in_onto (x ∷ xs) ys r (inl (inl first)) = in_onto xs (x ∷ ys) r (inr (inl first))
in_onto (x ∷ xs) ys r (inl (inr later)) = in_onto xs (x ∷ ys) r (inl later)
in_onto (x ∷ xs) ys r (inr there) = in_onto xs (x ∷ ys) r (inr (inr there))

of_onto : (xs ys : List ℕ) (r : ℕ) → InList (back_onto xs ys) r → InList xs r ⊎ InList ys r
of_onto [] ys r here = inr here
of_onto (x ∷ xs) ys r here =
    elim (of_onto xs (x ∷ ys) r here) [
      | inl later ↦ inl (inr later)
      | inr rest ↦ elim rest [ inl first ↦ inl (inl first) | inr there ↦ inr there ]
    ]

pub in_reversed : (xs : List ℕ) (r : ℕ) → InList xs r → Contains (reverse xs) r
in_reversed xs r here = subst (λ ys. Contains ys r) (turned xs []) (contains_in (back_onto xs []) r (in_onto xs [] r (inl here)))

pub of_reversed : (xs : List ℕ) (r : ℕ) → Contains (reverse xs) r → InList xs r
of_reversed xs r here =
    let there : InList (reverse xs) r = in_by (reverse xs) r here.0 here.1 here.2 in
    elim (of_onto xs [] r (subst (λ ys. InList ys r) (sym (turned xs [])) there)) [ inl found ↦ found | inr none ↦ absurd none ]

pub in_some : (xs : List ℕ) (r : ℕ) → InList xs r → xs ≢ []
in_some [] r none same = none
in_some (x ∷ xs) r here same = cc

-- two lists in front of others, as long as each other, are one where the whole is
pub same_parts : (xs ys xs' ys' : List ℕ) → length xs ≡ length xs' → xs ++ ys ≡ xs' ++ ys' → (xs ≡ xs') × (ys ≡ ys')
same_parts [] ys [] ys' count same = (refl, same)
same_parts [] ys (x' ∷ xs') ys' count same = absurd (omega (arith, count))
same_parts (x ∷ xs) ys [] ys' count same = absurd (omega (arith, count))
same_parts (x ∷ xs) ys (x' ∷ xs') ys' count same =
    let first : x ≡ x' = cc in
    let others : xs ++ ys ≡ xs' ++ ys' = cc in
    let rest : (xs ≡ xs') × (ys ≡ ys') = same_parts xs ys xs' ys' (omega (arith, count)) others in
    let parts : xs ≡ xs' = rest.0 in
    (cc (first, parts), rest.1)

pub count_zero : {X : Type 0} (xs : List X) → length xs ≡ 0 → xs ≡ []
count_zero [] none = refl
count_zero (x ∷ xs) none = absurd (omega (arith, none))

pub all_of : (P : ℕ → Type 0) (xs : List ℕ) → ((x : ℕ) → Contains xs x → P x) → AllByRecursion P xs
all_of P xs each = recursion_from_All P xs (λ k d inside. each (slice_index_or xs k d) (Contains-get_or xs k d inside))

-- VALUES ----------------------------------------------------------------------------------------------------------

pub resolved_inside : (f : Body) (v : ℕ) → Firm f → v < length f.values → resolved f v < length f.values
resolved_inside f v firm inside = follow-inside f.values (length f.values) v firm.leads inside

-- what is known to stand for a record is a value of the function
pub knows_value : (own : Own) (f : Body) (s : SsaState) (waiting : List Pending) (tables : Blocks) (b x r : ℕ) → Firm f → Describes own f s waiting tables
    → Knows tables b x r → r < length f.values
knows_value own f s waiting tables b x r firm before knows =
    let exists : knows.value < length f.values = before.records_exist b x knows.value (sym (before.recorded b x) ∙ knows.is_recorded) in
    let ends : resolved f knows.value ≡ resolved f r = sym (before.resolves knows.value) ∙ knows.resolves ∙ before.resolves r in
    elim (below_or_not r (length f.values)) [
      | inl here ↦ here
      | inr past ↦ absurd (omega (arith, past, resolved_inside f knows.value firm exists, ends, follow_end f.values (length f.values) r (past_alias f.values r past)))
    ]

-- BRANCHES --------------------------------------------------------------------------------------------------------

pub since_self : (f : Body) (s : SsaState) → Since f s f s
since_self f s = record { insts_more = omega arith; branches = λ i here. refl; predecessors = λ b. refl; block_count = refl; stay = λ v b value is. is }

pub since_then : (f : Body) (s : SsaState) (g : Body) (t : SsaState) (h : Body) (u : SsaState) → Since f s g t → Since g t h u → Since f s h u
since_then f s g t h u first second = record {
  insts_more = omega (arith, first.insts_more, second.insts_more);
  branches = λ i here. second.branches i (omega (arith, here, first.insts_more)) ∙ first.branches i here;
  predecessors = λ b. second.predecessors b ∙ first.predecessors b;
  block_count = second.block_count ∙ first.block_count;
  stay = λ v b value is. second.stay v b value (first.stay v b value is);
}

pub stand_since : (f : Body) (s : SsaState) (g : Body) (t : SsaState) → BranchesStand f s → Since f s g t → BranchesStand g t
stand_since f s g t stand since b i here =
    let old : BranchStands f i = stand b i (subst (λ xs. Contains xs i) (since.predecessors b) here) in
    record {
      exists = omega (arith, old.exists, since.insts_more);
      block_exists = omega (arith, old.block_exists, since.branches i old.exists, since.block_count);
    }

-- an edge into a block comes from one of the blocks before it
pub edge_from : (c : Setting) (frames : List Frame) (tables : Blocks) (m : Stage) (b : ℕ) (arm : Arm) → Base c frames tables m → IsEdgeInto m.function m.state tables b arm
    → (a : ℕ) × InList (comes_from c b) a × (arm.source ≡ last_place tables a)
edge_from c frames tables m b arm base edge =
    let old : Contains (predecessors_of c.state b) edge.branch = subst (λ xs. Contains xs edge.branch) (base.since.predecessors b) edge.leads in
    let stands : BranchStands c.function edge.branch = base.stand b edge.branch old in (
      branch_block c.function edge.branch,
      in_map (branch_block c.function) (predecessors_of c.state b) edge.branch old,
      edge.from ∙ ap (last_place tables) (base.since.branches edge.branch stands.exists),
    )

same_front : {b c : ℕ} → front b ≡ front c → b ≡ c
same_front same = cc

-- a known arm into a block comes from the start, or is one of its edges
pub arm_from : (own : Own) (f : Body) (s : SsaState) (waiting : List Pending) (tables : Blocks) (b : ℕ) (arm : Arm) → Describes own f s waiting tables
    → tables.joins arm ≡ true → arm.target ≡ front b → ((arm.source ≡ start) × (entry_of f ≡ Some b)) ⊎ IsEdgeInto f s tables b arm
arm_from own f s waiting tables b arm before joins at =
    let there : (d : ℕ) × (arm.target ≡ front d) × (is_yes (sealed_of s d) ≡ true) × (((arm.source ≡ start) × (entry_of f ≡ Some d)) ⊎ IsEdgeInto f s tables d arm) = before.joined arm joins in
    let here : there.0 ≡ b = same_front (sym there.1 ∙ at) in
    subst (λ d. ((arm.source ≡ start) × (entry_of f ≡ Some d)) ⊎ IsEdgeInto f s tables d arm) here there.3

-- a block into which an arm is known is sealed
into_sealed : (own : Own) (f : Body) (s : SsaState) (waiting : List Pending) (tables : Blocks) (b : ℕ) (arm : Arm) → Describes own f s waiting tables
    → tables.joins arm ≡ true → arm.target ≡ front b → is_yes (sealed_of s b) ≡ true
into_sealed own f s waiting tables b arm before joins at =
    let there : (d : ℕ) × (arm.target ≡ front d) × (is_yes (sealed_of s d) ≡ true) × (((arm.source ≡ start) × (entry_of f ≡ Some d)) ⊎ IsEdgeInto f s tables d arm) = before.joined arm joins in
    ap (λ d. is_yes (sealed_of s d)) (sym (same_front (sym there.1 ∙ at))) ∙ there.2

-- into a block that has predecessors none comes from the start
pub edges_from : (c : Setting) (frames : List Frame) (tables : Blocks) (m : Stage) (b : ℕ) → Base c frames tables m → predecessors_of m.state b ≢ []
    → LeavesOneOf tables b (comes_from c b)
edges_from c frames tables m b base some = record {
  from = λ arm joins at.
      elim (arm_from c.own m.function m.state (completing_of c frames) tables b arm base.describes joins at) [
        | inl entry ↦ absurd (some (base.describes.entry_free b entry.1 (into_sealed c.own m.function m.state (completing_of c frames) tables b arm base.describes joins at)))
        | inr edge ↦ edge_from c frames tables m b arm base edge
      ];
}

-- THE TOPMOST FRAME -----------------------------------------------------------------------------------------------

-- where the parameter of a frame is
pub record IsHere (f : Body) (s : SsaState) (block : ℕ) (param : ℕ) : Type 0 where
  pub parameter : param_home f param ≡ Some block
  pub is_sealed : is_yes (sealed_of s block) ≡ true
  pub entry : has_entry f.layout ≡ true

off : ◌≡◌ {A = Bool} true false → ⊥
off same = cc

both_true : (a b : Bool) → (a && b) ≡ true → (a ≡ true) × (b ≡ true)
both_true true b is = (refl, is)
both_true false b is = absurd (off (sym is))

pub frame_here : (own : Own) (f : Body) (s : SsaState) (x : ℕ) (frame : Frame) (waiting : List Pending) (tables : Blocks)
    → Describes own f s (record { variable = x; param = frame.parameter } ∷ waiting) tables → FrameFits tables x frame
    → IsHere f s frame.block frame.parameter
frame_here own f s x frame waiting tables before fits =
    let p : Pending = record { variable = x; param = frame.parameter } in
    let known : (is_yes (sealed_of s frame.block) ≡ true) × (has_entry f.layout ≡ true) = both_true _ _ (sym (before.sealed frame.block) ∙ fits.waits.is_sealed) in
    elim (before.completed p (0, omega arith, refl)) [
      | inl gone ↦ absurd (gone.1 (sym (before.resolves frame.parameter) ∙ fits.no_alias))
      | inr there ↦
          let at : there.0 ≡ frame.block = same_front (sym (ap (λ (d : Definition). d.home) there.1.defined) ∙ ap (λ (d : Definition). d.home) fits.waits.is_parameter) in
          record { parameter = there.1.parameter ∙ ap Some at; is_sealed = known.0; entry = known.1 }
    ]

is_of_block : (f : Body) (b : ℕ) (p : Pending) → param_home f p.param ≡ Some b → is_parameter_of f b p ≡ true
is_of_block f b p home = ap (is_some_block b) home ∙ eq-eqb b b refl

parameters_first : (f : Body) (b : ℕ) (p : Pending) (ps : List Pending) → param_home f p.param ≡ Some b → parameters_of f b (p ∷ ps) ≡ p ∷ parameters_of f b ps
parameters_first f b p ps home = ap (λ test. if test then p ∷ parameters_of f b ps else parameters_of f b ps) (is_of_block f b p home)

parameters_listed : (f : Body) (b : ℕ) (ps : List Pending) (q : Pending) (k : ℕ) → param_home f q.param ≡ Some b → k < length ps → slice_index_or ps k q ≡ q
    → Contains (parameters_of f b ps) q
parameters_listed f b [] q k home inside at = absurd (omega (arith, inside))
parameters_listed f b (p ∷ ps) q zero home inside at =
    let here : param_home f p.param ≡ Some b = ap (λ (r : Pending). param_home f r.param) at ∙ home in
    subst (λ xs. Contains xs q) (sym (parameters_first f b p ps here)) (0, omega arith, at)
parameters_listed f b (p ∷ ps) q (suc k) home inside at = by (parameters_listed f b ps q k home (omega (arith, inside)) at) (is_parameter_of f b p)
  where
    by : Contains (parameters_of f b ps) q → (test : Bool) → Contains (if test then p ∷ parameters_of f b ps else parameters_of f b ps) q
    by there true = (suc there.0, omega (arith, there.1), there.2)
    by there false = there

-- no other parameter that is completed is the first one
pub completing_apart : (own : Own) (f : Body) (s : SsaState) (p : Pending) (ps : List Pending) (tables : Blocks) (b : ℕ) → Describes own f s (p ∷ ps) tables
    → param_home f p.param ≡ Some b → (q : Pending) → Contains ps q → q.param ≢ p.param
completing_apart own f s p ps tables b before home q here same =
    let listed : Contains (parameters_of f b ps) q = parameters_listed f b ps q here.0 (ap (param_home f) same ∙ home) here.1 here.2 in
    let order : InOrder (block_at f b).params (p ∷ parameters_of f b ps) = subst (InOrder (block_at f b).params) (parameters_first f b p ps home) (before.completing_order b) in
    let falls : place_of p.param (block_at f b).params < place_of (slice_index_or (parameters_of f b ps) listed.0 no_pending).param (block_at f b).params =
    order 0 (suc listed.0) (omega arith) (omega (arith, listed.1)) in
    let is : slice_index_or (parameters_of f b ps) listed.0 no_pending ≡ q = get_or_default (parameters_of f b ps) listed.0 no_pending q listed.1 ∙ listed.2 in
    let places : place_of (slice_index_or (parameters_of f b ps) listed.0 no_pending).param (block_at f b).params ≡ place_of p.param (block_at f b).params =
    ap (λ (r : Pending). place_of r.param (block_at f b).params) is ∙ ap (λ v. place_of v (block_at f b).params) same in
    absurd (omega (arith, falls, places))
