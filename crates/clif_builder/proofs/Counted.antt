-- How much is in a function that a builder makes, as calls are made.
use Rattle.std.proofs.Common.{◌≡◌, ◌<◌, ◌≤◌, ◌+◌, ◌*◌, ℕ, zero, suc, List, [], ◌∷◌, ◌++◌, length, refl, sym, ◌∙◌, ap, subst, arith, ◌⊎◌, inl, inr, length-append, length-set}
use Rattle.std.specs.Prelude.{◌==◌, Bool, true, false, if◌then◌else◌, Option, Some, None, Contains, Result, Err, slice_get}
use Rattle.std.proofs.lemmas.Bool.{cases_eq}
use Rattle.std.proofs.lemmas.Option.{slice_get_within}
use Rattle.clif_types.specs.declared.types.«Type».{«Type»}
use Rattle.clif_types.specs.declared.error.BuildError.{BuildError}
use Rattle.clif_types.specs.declared.error.BuildError.TheVariants.{Full, Memory}
use Rattle.clif_types.specs.Signature.{SignatureShape}
use Rattle.clif_types.specs.declared.extname.UserFuncName.{UserFuncName}
use Rattle.clif_instructions.specs.declared.insert_at.InsertAt.TheVariants.{Back}
use Rattle.clif_instructions.specs.declared.instructions.InstructionData.{InstructionData}
use Rattle.clif_nodes.specs.Nodes.{result_nodes}
use Rattle.clif_ir.specs.Body.{Body, empty_body}
use Rattle.clif_ir.specs.Changes.{inserted_in, with_block, with_branch_target, with_inst, with_param}
use Rattle.clif_meaning.specs.Request.{AnsweredCall, Request, CreateBlock, script_of}
use Rattle.clif_meaning.specs.Sizes.{Table, Values, Instructions, made_by, made_by_script}
use Rattle.clif_records.specs.declared.tables.Pending.{Pending}
use Rattle.clif_records.specs.Tables.{SsaBlock, pending_of, sealed_at}
use Rattle.clif_ssa.specs.Counted.{sum_below, one_if_some, recorded_pairs, waiting_below, CountsFor, StepCounts, WaitsBelow}
use Rattle.clif_ssa.specs.Ssa.{SsaState, Records, SameBlocks, SameRecords, record_of, sealed_of}
use Rattle.clif_ssa.proofs.Completing.{inserted_same}
use Rattle.clif_ssa.proofs.Counted.{pairs_stay, sum_more, waiting_same}
use Rattle.clif_ssa.proofs.CountedOnce.{NoneLost, none_lost, records_kept}
use Rattle.clif_ssa.specs.Moving.{MovesBranch}
use Rattle.clif_simulation.specs.Carries.{with_params}
use Rattle.clif_simulation.proofs.Whole.{waiting_pending}
use Rattle.clif_builder.specs.Construction.{IsSealingOf, IsUse}
use Rattle.clif_builder.specs.Context.{ContextState, empty_context}
use Rattle.clif_builder.specs.Counted.{CountsCalls, IsWithinCalls}
use Rattle.clif_builder.specs.Order.{IsInOrder}
use Rattle.clif_builder.proofs.Fresh.{new_waits}
use Rattle.clif_builder.proofs.Placed.{listed_structured}
use Rattle.clif_builder.proofs.Touching.{undeclared_unused}

-- SUMS ------------------------------------------------------------------------------------------------------------------

-- a sum over more numbers, of more
sum_longer : (m n : ℕ) (f g : ℕ → ℕ) → m ≤ n → ((k : ℕ) → f k ≤ g k) → sum_below m f ≤ sum_below n g
unfolding sum_below
sum_longer m zero f g below more = let none : m ≡ 0 = omega (arith, below) in subst (λ k. sum_below k f ≤ 0) (sym none) (omega arith)
sum_longer m (suc n) f g below more =
    elim (cases_eq m (suc n)) [
      | inl same ↦ subst (λ k. sum_below k f ≤ sum_below (suc n) g) (sym same) (sum_more (suc n) f g more)
      | inr fewer ↦ omega (arith, sum_longer m n f g (omega (arith, below, fewer)) more)
    ]

-- and one of at most so much each
sum_at_most : (n most : ℕ) (f : ℕ → ℕ) → ((k : ℕ) → f k ≤ most) → sum_below n f ≤ n * most
unfolding sum_below
sum_at_most zero most f each = omega arith
sum_at_most (suc n) most f each = let next : suc n * most ≡ most + n * most = grind arith in omega (arith, next, each n, sum_at_most n most f each)

one_at_most : (o : Option ℕ) → one_if_some o ≤ 1
one_at_most None = omega arith
one_at_most (Some v) = omega arith

-- no pair is lost, and there may be more of them
pairs_more : (variables more_variables blocks more_blocks : ℕ) (s t : SsaState) → variables ≤ more_variables → blocks ≤ more_blocks → NoneLost s t
    → recorded_pairs variables blocks s ≤ recorded_pairs more_variables more_blocks t
pairs_more variables more_variables blocks more_blocks s t wider longer lost =
    let longer_rows : recorded_pairs variables blocks t ≤ recorded_pairs more_variables more_blocks t =
    sum_longer variables more_variables _ _ wider (λ x. sum_longer blocks more_blocks _ _ longer (λ b. omega arith)) in
    omega (arith, pairs_stay variables blocks s t lost, longer_rows)

pairs_at_most : (variables blocks : ℕ) (s : SsaState) → recorded_pairs variables blocks s ≤ variables * blocks
pairs_at_most variables blocks s =
    sum_at_most variables blocks _ (λ x. let row = sum_at_most blocks 1 _ (λ b. one_at_most (record_of s x b)) in omega (arith, row))

-- WHAT A CALL LEAVES ----------------------------------------------------------------------------------------------------

-- No variable is lost, no record, and as many parameters wait.
pub record LeavesCounts (c d : ContextState) : Type 0 where
  pub variables : length c.variables ≤ length d.variables
  pub records : NoneLost c.ssa d.ssa
  pub blocks : SameBlocks c.ssa d.ssa

pub leaves_all : (c : ContextState) → LeavesCounts c c
leaves_all c = record { variables = omega arith; records = λ x b none. none; blocks = λ b. refl }

-- the same records, of as many variables
pub leaves_records : (c d : ContextState) → d.variables ≡ c.variables → SameRecords c.ssa d.ssa → SameBlocks c.ssa d.ssa → LeavesCounts c d
leaves_records c d variables records blocks = record {
  variables = let same : length d.variables ≡ length c.variables = ap (λ (types : List «Type»). length types) variables in omega (arith, same);
  records = none_lost c.ssa d.ssa records;
  blocks = blocks;
}

pub leaves_ssa : (c d : ContextState) → d.variables ≡ c.variables → d.ssa ≡ c.ssa → LeavesCounts c d
leaves_ssa c d variables same =
    leaves_records c d variables (λ x b. ap (λ (s : SsaState). record_of s x b) same) (λ b. ap (λ (s : SsaState). sealed_of s b) same)

-- one variable more
pub leaves_declared : (c : ContextState) (ty : «Type») → LeavesCounts c (record c { variables = c.variables ++ ty ∷ [] })
leaves_declared c ty = record {
  variables = let more = length-append c.variables (ty ∷ []) in omega (arith, more);
  records = λ x b none. none;
  blocks = λ b. refl;
}

-- one record is new, or another one
pub leaves_recorded : (c d : ContextState) (variable block value : ℕ) → d.variables ≡ c.variables → Records c.ssa d.ssa variable block value → d.ssa.blocks ≡ c.ssa.blocks
    → LeavesCounts c d
leaves_recorded c d variable block value variables records blocks = record {
  variables = let same : length d.variables ≡ length c.variables = ap (λ (types : List «Type»). length types) variables in omega (arith, same);
  records = records_kept c.ssa d.ssa variable block value records;
  blocks = λ b. ap (λ (xs : List SsaBlock). sealed_at xs b) blocks;
}

-- WHAT WAITS ------------------------------------------------------------------------------------------------------------

-- the variables of parameters that wait are declared, since these are recorded
pub waits_declared : (f : Body) (c : ContextState) → IsInOrder f c → WaitsBelow (length c.variables) c.ssa
waits_declared f c order b p here = by (side p.variable (length c.variables))
  where
    side : (x n : ℕ) → (x < n) ⊎ (n ≤ x)
    side x n = grind arith

    by : (p.variable < length c.variables) ⊎ (length c.variables ≤ p.variable) → p.variable < length c.variables
    by (inl declared) = declared
    by (inr past) =
        absurd (((listed_structured f c order).waiting b p (subst (λ (ps : List Pending). Contains ps p) (sym (waiting_pending f (sealed_of c.ssa b) b)) here)).1
        (undeclared_unused order.own f c p.variable order.structured past b))

-- a block that comes into the layout before is none that counts
pub counted_inserted : {Fits : ℕ → Type 0} (f : Body) (b : ℕ) (s : SsaState) (g : Body) (t : SsaState) → CountsFor Fits 0 (inserted_in f b) s 0 g t → CountsFor Fits 0 f s 0 g t
counted_inserted f b s g t counted =
    let same = inserted_same f b in
    let values : length (inserted_in f b).values ≡ length f.values = ap length same.values in
    let insts : length (inserted_in f b).insts ≡ length f.insts = ap length same.insts in
    let blocks : length (inserted_in f b).blocks ≡ length f.blocks = ap length same.blocks in
    record {
      each = λ variables n fits exist.
          let made = counted.each variables n fits (omega (arith, exist, blocks)) in
          record { values = omega (arith, made.values, values); insts = omega (arith, made.insts, insts); waits = made.waits };
    }

pub step_inserted : {Fits : ℕ → Type 0} {A : Type 0} (f mid : Body) (b : ℕ) (s t u : SsaState) (g : Body) (answer : Result A BuildError) → mid ≡ inserted_in f b → t ≡ s
    → StepCounts Fits 0 mid t g u answer → StepCounts Fits 0 f s g u answer
step_inserted {Fits = Fits} f mid b s t u g answer function state step = record {
  counts = λ some.
      counted_inserted f b s g u
      (subst (λ (r : SsaState). CountsFor Fits 0 (inserted_in f b) r 0 g u) state (subst (λ (h : Body). CountsFor Fits 0 h t 0 g u) function (step.counts some)));
}

-- HOW MUCH A CALL MAKES -------------------------------------------------------------------------------------------------

-- So many values and instructions a call makes itself, at most; records pay for the others.
pub record Spends (most_values most_insts : ℕ) (f : Body) (c : ContextState) (g : Body) (d : ContextState) : Type 0 where
  pub values : length g.values + 2 * waiting_below (length g.blocks) d.ssa + 3 * recorded_pairs (length c.variables) (length f.blocks) c.ssa
      ≤ length f.values + most_values + 2 * waiting_below (length f.blocks) c.ssa + 3 * recorded_pairs (length d.variables) (length g.blocks) d.ssa
  pub insts : length g.insts + 2 * waiting_below (length g.blocks) d.ssa + 2 * recorded_pairs (length c.variables) (length f.blocks) c.ssa
      ≤ length f.insts + most_insts + 2 * waiting_below (length f.blocks) c.ssa + 2 * recorded_pairs (length d.variables) (length g.blocks) d.ssa

-- what a call spends, for its request
abbrev pub SpendsFor : Request → Body → ContextState → Body → ContextState → Type 0
SpendsFor request f c g d = Spends (made_by request Values) (made_by request Instructions) f c g d

made_before : (calls : List AnsweredCall) (call : AnsweredCall) (table : Table)
    → made_by_script (script_of (calls ++ call ∷ [])) table ≡ made_by_script (script_of calls) table + made_by call.request table
made_before [] call table = omega arith
made_before (first ∷ calls) call table = omega (arith, made_before calls call table)

-- before the first one
pub counts_first : (name : UserFuncName) (signature : SignatureShape) → CountsCalls [] (empty_body name signature) empty_context
unfolding sum_below
counts_first name signature = record { values = omega arith; insts = omega arith }

-- one call more
pub counts_on : (calls : List AnsweredCall) (call : AnsweredCall) (f : Body) (c : ContextState) (g : Body) (d : ContextState) → SpendsFor call.request f c g d
    → CountsCalls calls f c → CountsCalls (calls ++ call ∷ []) g d
counts_on calls call f c g d spends counts = record {
  values = omega (arith, counts.values, spends.values, made_before calls call Values);
  insts = omega (arith, counts.insts, spends.insts, made_before calls call Instructions);
}

-- the construction makes nothing
pub spends_itself : (most_values most_insts : ℕ) (f : Body) (c : ContextState) (g : Body) (d : ContextState) → length g.values ≤ length f.values + most_values
    → length g.insts ≤ length f.insts + most_insts → length g.blocks ≡ length f.blocks → LeavesCounts c d → Spends most_values most_insts f c g d
spends_itself most_values most_insts f c g d values insts blocks leaves =
    let n : ℕ = length f.blocks in
    let pairs = pairs_more (length c.variables) (length d.variables) n (length g.blocks) c.ssa d.ssa leaves.variables (omega (arith, blocks)) leaves.records in
    let waits : waiting_below (length g.blocks) d.ssa ≡ waiting_below n c.ssa = ap (λ k. waiting_below k d.ssa) blocks ∙ waiting_same n c.ssa d.ssa leaves.blocks in
    record { values = omega (arith, values, pairs, waits); insts = omega (arith, insts, pairs, waits) }

-- nothing is made
pub counts_kept : (calls : List AnsweredCall) (call : AnsweredCall) (f : Body) (c d : ContextState) → LeavesCounts c d → CountsCalls calls f c → CountsCalls (calls ++ call ∷ []) f d
counts_kept calls call f c d leaves counts =
    counts_on calls call f c f d (spends_itself _ _ f c f d (omega arith) (omega arith) refl leaves) counts

-- nor is a call made: there are other entries of tables, or blocks stand elsewhere
pub counts_same : (calls : List AnsweredCall) (f : Body) (c : ContextState) (g : Body) (d : ContextState) → length g.values ≡ length f.values → length g.insts ≡ length f.insts
    → length g.blocks ≡ length f.blocks → LeavesCounts c d → CountsCalls calls f c → CountsCalls calls g d
counts_same calls f c g d values insts blocks leaves counts =
    let spends : Spends 0 0 f c g d = spends_itself 0 0 f c g d (omega (arith, values)) (omega (arith, insts)) blocks leaves in
    record { values = omega (arith, counts.values, spends.values); insts = omega (arith, counts.insts, spends.insts) }

-- the construction makes something
pub spends_made : (most_values most_insts : ℕ) (f : Body) (c : ContextState) (g : Body) (d : ContextState) {Fits : ℕ → Type 0} → CountsFor Fits 0 f c.ssa 0 g d.ssa
    → Fits (length c.variables) → length g.blocks ≡ length f.blocks → d.variables ≡ c.variables → Spends most_values most_insts f c g d
spends_made most_values most_insts f c g d counted fits still variables =
    let made = counted.each (length c.variables) (length f.blocks) fits (omega arith) in
    let pairs : recorded_pairs (length d.variables) (length g.blocks) d.ssa ≡ recorded_pairs (length c.variables) (length f.blocks) d.ssa =
    ap (λ (types : List «Type»). recorded_pairs (length types) (length g.blocks) d.ssa) variables ∙ ap (λ n. recorded_pairs (length c.variables) n d.ssa) still in
    let waits : waiting_below (length g.blocks) d.ssa ≡ waiting_below (length f.blocks) d.ssa = ap (λ n. waiting_below n d.ssa) still in
    record { values = omega (arith, made.values, pairs, waits); insts = omega (arith, made.insts, pairs, waits) }

pub spends_used : (most_values most_insts : ℕ) (f : Body) (c : ContextState) (g : Body) (d : ContextState) (variable : ℕ) (ty : «Type») (block value : ℕ) (told : List ℕ)
    → slice_get c.variables variable ≡ Some ty → IsUse (inserted_in f block) c.ssa g d.ssa variable ty block value told → length g.blocks ≡ length f.blocks
    → d.variables ≡ c.variables → Spends most_values most_insts f c g d
spends_used most_values most_insts f c g d variable ty block value told declared used still variables =
    spends_made most_values most_insts f c g d (counted_inserted f block c.ssa g d.ssa used.counted) (slice_get_within c.variables variable ty declared) still variables

pub spends_sealed : (most_values most_insts : ℕ) (f : Body) (c : ContextState) (g : Body) (d : ContextState) (seals : ℕ → Bool) (told : List ℕ) → IsInOrder f c
    → ((b : ℕ) → seals b ≡ true → b < length f.blocks) → IsSealingOf f c.ssa g d.ssa seals told → length g.blocks ≡ length f.blocks → d.variables ≡ c.variables
    → Spends most_values most_insts f c g d
spends_sealed most_values most_insts f c g d seals told order exist sealing still variables =
    spends_made most_values most_insts f c g d (sealing.counted exist) (waits_declared f c order) still variables

-- a block comes into the layout
pub spends_inserted : (most_values most_insts : ℕ) (f : Body) (c d : ContextState) (block : ℕ) → LeavesCounts c d → Spends most_values most_insts f c (inserted_in f block) d
spends_inserted most_values most_insts f c d block leaves =
    let same = inserted_same f block in
    let values : length (inserted_in f block).values ≡ length f.values = ap length same.values in
    let insts : length (inserted_in f block).insts ≡ length f.insts = ap length same.insts in
    spends_itself most_values most_insts f c (inserted_in f block) d (omega (arith, values)) (omega (arith, insts)) (ap length same.blocks) leaves

-- and an instruction behind it, with its results
pub spends_appended : (place most_values : ℕ) (f : Body) (c : ContextState) (g : Body) (d : ContextState) (block : ℕ) (shape : InstructionData) (types : List «Type»)
    → g ≡ with_inst (inserted_in f block) block Back shape types place → length types ≤ most_values → LeavesCounts c d → Spends most_values 1 f c g d
spends_appended place most_values f c g d block shape types made room leaves =
    let h : Body = inserted_in f block in
    let same = inserted_same f block in
    let old_values : length h.values ≡ length f.values = ap length same.values in
    let old_insts : length h.insts ≡ length f.insts = ap length same.insts in
    let values : length g.values ≡ length h.values + length types =
    ap (λ (b : Body). length b.values) made ∙ length-append h.values _ ∙ ap (λ n. length h.values + n) (count_results (length h.insts) 0 types) in
    let insts : length g.insts ≡ length h.insts + 1 = ap (λ (b : Body). length b.insts) made ∙ length-append h.insts _ in
    let blocks : length g.blocks ≡ length f.blocks = ap (λ (b : Body). length b.blocks) made ∙ length-set h.blocks block _ ∙ ap length same.blocks in
    spends_itself most_values 1 f c g d (omega (arith, values, old_values, room)) (omega (arith, insts, old_insts)) blocks leaves
  where
    count_results : (i k : ℕ) (types : List «Type») → length (result_nodes i k types) ≡ length types
    count_results i k [] = refl
    count_results i k (ty ∷ types) = ap suc (count_results i (k + 1) types)

-- parameters are appended to a block
pub spends_params : (most_insts : ℕ) (f : Body) (c : ContextState) (block : ℕ) (types : List «Type») → Spends (length types) most_insts f c (with_params f block types) c
spends_params most_insts f c block types =
    let values : length (with_params f block types).values ≡ length f.values + length types = count_values f types in
    let insts : length (with_params f block types).insts ≡ length f.insts = same_insts f types in
    spends_itself (length types) most_insts f c (with_params f block types) c (omega (arith, values)) (omega (arith, insts)) (same_blocks f types) (leaves_all c)
  where
    count_values : (f : Body) (types : List «Type») → length (with_params f block types).values ≡ length f.values + length types
    count_values f [] = omega arith
    count_values f (ty ∷ types) =
        let more : length (with_param f block ty).values ≡ length f.values + 1 = length-append f.values _ in omega (arith, count_values (with_param f block ty) types, more)

    same_insts : (f : Body) (types : List «Type») → length (with_params f block types).insts ≡ length f.insts
    same_insts f [] = refl
    same_insts f (ty ∷ types) = same_insts (with_param f block ty) types

    same_blocks : (f : Body) (types : List «Type») → length (with_params f block types).blocks ≡ length f.blocks
    same_blocks f [] = refl
    same_blocks f (ty ∷ types) = same_blocks (with_param f block ty) types ∙ length-set f.blocks block _

-- a branch leads to another block
pub spends_redirected : (f : Body) (c : ContextState) (g : Body) (d : ContextState) (branch from to : ℕ) → MovesBranch f c.ssa g d.ssa branch from to → LeavesCounts c d
    → Spends 0 0 f c g d
spends_redirected f c g d branch from to moves leaves =
    subst (λ (h : Body). Spends 0 0 f c h d) (sym moves.function) (by (from == to))
  where
    by : (test : Bool) → Spends 0 0 f c (if test then f else with_branch_target f branch from to) d
    by true = spends_itself 0 0 f c f d (omega arith) (omega arith) refl leaves
    by false =
        let insts : length (with_branch_target f branch from to).insts ≡ length f.insts = length-set f.insts branch _ in
        spends_itself 0 0 f c (with_branch_target f branch from to) d (omega arith) (omega (arith, insts)) refl leaves

-- a block is created: no parameter waits in it
pub spends_created : (f : Body) (c : ContextState) (g : Body) (d : ContextState) → IsInOrder f c → g ≡ with_block f → LeavesCounts c d → SpendsFor CreateBlock f c g d
unfolding sum_below
spends_created f c g d order made leaves =
    let n : ℕ = length f.blocks in
    let values : length g.values ≡ length f.values = ap (λ (h : Body). length h.values) made in
    let insts : length g.insts ≡ length f.insts = ap (λ (h : Body). length h.insts) made in
    let blocks : length g.blocks ≡ suc n = ap (λ (h : Body). length h.blocks) made ∙ length-append f.blocks _ ∙ omega arith in
    let pairs = pairs_more (length c.variables) (length d.variables) n (length g.blocks) c.ssa d.ssa leaves.variables (omega (arith, blocks)) leaves.records in
    let none : length (pending_of (sealed_of d.ssa n)) ≡ 0 = ap (λ entry. length (pending_of entry)) (leaves.blocks n) ∙ ap (λ (ps : List Pending). length ps) (new_waits f c order) in
    let last : waiting_below (suc n) d.ssa ≡ waiting_below n d.ssa = omega (arith, none) in
    let waits : waiting_below (length g.blocks) d.ssa ≡ waiting_below n c.ssa =
    ap (λ k. waiting_below k d.ssa) blocks ∙ last ∙ waiting_same n c.ssa d.ssa leaves.blocks in
    record { values = omega (arith, values, pairs, waits); insts = omega (arith, insts, pairs, waits) }

-- WITHIN THE CALLS ------------------------------------------------------------------------------------------------------

-- what agrees with the ledger of calls is within them
pub agreeing_is_within : (calls : List AnsweredCall) (f : Body) (c : ContextState) → CountsCalls calls f c
    → IsWithinCalls calls (length c.variables) (length f.blocks) f
agreeing_is_within calls f c counts =
    let most = pairs_at_most (length c.variables) (length f.blocks) c.ssa in
    record { values = omega (arith, counts.values, most); insts = omega (arith, counts.insts, most) }

-- and so is what the construction leaves then
pub within_made : (calls : List AnsweredCall) (f : Body) (c : ContextState) (g : Body) (t : SsaState) {Fits : ℕ → Type 0} → CountsFor Fits 0 f c.ssa 0 g t → Fits (length c.variables)
    → CountsCalls calls f c → IsWithinCalls calls (length c.variables) (length f.blocks) g
within_made calls f c g t counted fits counts =
    let made = counted.each (length c.variables) (length f.blocks) fits (omega arith) in
    let most = pairs_at_most (length c.variables) (length f.blocks) t in
    record { values = omega (arith, counts.values, made.values, most); insts = omega (arith, counts.insts, made.insts, most) }

-- where a table of the function is full
pub within_full : (calls : List AnsweredCall) (f : Body) (c : ContextState) (g : Body) (t : SsaState) {Fits : ℕ → Type 0} {A : Type 0} (answer : Result A BuildError)
    → StepCounts Fits 0 f c.ssa g t answer → Fits (length c.variables) → CountsCalls calls f c → answer ≡ Err Full
    → IsWithinCalls calls (length c.variables) (length f.blocks) g
within_full calls f c g t answer step fits counts full =
    within_made calls f c g t (step.counts (λ memory. full_memory (sym full ∙ memory))) fits counts
  where
    full_memory : {A : Type 0} → ◌≡◌ {A = Result A BuildError} (Err Full) (Err Memory) → ⊥
    full_memory same = cc
