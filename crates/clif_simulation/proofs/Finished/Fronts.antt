-- The zeros at the front of a block: they come first, and change nothing where their values have no bits.
use Rattle.clif_simulation.specs.Coming.{Arrival, arrival_at}
use Rattle.clif_simulation.specs.Interrupted.{function_answer, function_edge, taken_of}
use Rattle.clif_simulation.proofs.Finished.Agreement.{IsBlank}
use Rattle.clif_simulation.proofs.Finished.Placing.{at_first, at_second, in_two}
use Rattle.clif_simulation.proofs.Finished.ZeroInsts.{InTurn, IsFromBefore, IsZeroInst, IsZeroValue, zero_insts, zeros_in_turn}
use Rattle.clif_ssa.proofs.ZeroTable.{none_some, same_some}
use Rattle.clif_ssa.specs.Zeros.{insts_of_zeros}
use Rattle.std.proofs.Common.{◌≡◌, ℕ, zero, suc, ◌+◌, if◌then◌else◌, Bool, true, false, List, [], ◌∷◌, ◌++◌, length, map, slice_get, Some, None, ◌-◌, ◌<◌, ◌⊎◌, inl, inr, append_assoc, refl, sym, ◌∙◌, ap, ap₂, subst, arith, Option}
use Rattle.std.proofs.lemmas.Bool.Decides.{nat_tests}
use Rattle.std.proofs.lemmas.List.{map-append}
use Rattle.std.specs.List.{AllByRecursion}
use Rattle.clif_ir.specs.Body.{Body, inst_at, block_at, resolved}
use Rattle.clif_ir.specs.Consistent.{IsConsistent}
use Rattle.clif_instructions.specs.Members.{stands_in}
use Rattle.clif_instructions.specs.Instruction.{operands}
use Rattle.clif_paths.specs.State.{Definition}
use Rattle.clif_paths.specs.Blocks.{Blocks}
use Rattle.clif_ssa.specs.Sound.{HasInstructions}
use Rattle.clif_meaning.specs.Store.{shown_memory}
use Rattle.clif_meaning.specs.Event.{Event}
use Rattle.clif_meaning.specs.Machine.{Machine, Control, At, Observation, Ending, NotYet, ending_of}
use Rattle.clif_meaning.specs.FunctionMachine as function_machine_of
use Rattle.clif_meaning.specs.FunctionMachine.{FunctionRun, FunctionState, function_machine, same_value, value_bits}
use Rattle.clif_meaning.specs.Outcome.{Gives, outcome_of}
use Rattle.clif_meaning.specs.FunctionView.{Placed}
use Rattle.clif_meaning.specs.View.{edges_of, placed_of, items_of}
use Rattle.clif_meaning.proofs.Stuttering.{steps_from}

abbrev pub placed_inst : Body → ℕ → Placed
placed_inst f inst = placed_of f inst

-- What a block's instructions are to the machine: zeros, step by step, and then the caller's. A block outside the layout has
-- none.
pub record HasFront (f : Body) (blocks : Blocks) (b : ℕ) (own : List ℕ) : Type 0 where
  pub zeros : List ℕ
  pub are_zeros : AllByRecursion (IsZeroInst f blocks b) zeros
  pub in_turn : InTurn f zeros
  pub in_order : items_of f b ≡ map (placed_inst f) zeros ++ map (placed_inst f) own

-- The machine is about to make one of a block's zeros.
pub record NextIsZero (f : Body) (blocks : Blocks) (b : ℕ) (state : FunctionState) : Type 0 where
  pub inst : ℕ
  pub behind : List Placed
  pub put : IsZeroInst f blocks b inst
  pub at : state.control ≡ At (placed_inst f inst ∷ behind)

pub has_front : (f : Body) → IsConsistent f → (blocks : Blocks) (b : ℕ) (own : List ℕ) → HasInstructions f blocks b own → (stands_in b f.layout ≡ false → own ≡ [])
    → HasFront f blocks b own
has_front f consistent blocks b own has outside = by (stands_in b f.layout) refl
  where
    by : (there : Bool) → stands_in b f.layout ≡ there → HasFront f blocks b own
    by true there = record {
      zeros = insts_of_zeros has.zeros;
      are_zeros = zero_insts f blocks b has.zeros has.are_zeros;
      in_turn = zeros_in_turn f consistent blocks b has.zeros has.are_zeros;
      in_order = ap (λ (t : Bool). if t then map (placed_inst f) (block_at f b).insts else []) there ∙ ap (map (placed_inst f)) has.in_order
          ∙ map-append (placed_inst f) (insts_of_zeros has.zeros) own;
    }
    by false out = record {
      zeros = [];
      are_zeros = tt;
      in_turn = λ place inst k value stands. absurd (none_some stands);
      in_order = ap (λ (t : Bool). if t then map (placed_inst f) (block_at f b).insts else []) out ∙ ap (map (placed_inst f)) (sym (outside out));
    }

-- what a machine shows while it goes on
abbrev pub quiet : List Event → Observation
quiet events = record { events = events; ending = NotYet }

pub goes_on_quietly : (run : FunctionRun) (q : FunctionState) (rest : List Placed) (events : List Event) → q.control ≡ At rest → q.events ≡ events
    → function_machine_of.function_shown run q ≡ quiet events
goes_on_quietly run q rest events at same =
    ap₂ (λ (seen : List Event) (ending : Ending). record { events = seen; ending = ending }) same
    (ap (λ (c : Control Placed). ending_of c (shown_memory run.hidden q.memory)) at)

-- a first step, and more steps
pub steps_behind : {State : Type 0} (machine : Machine State Observation) (n : ℕ) (state : State) → steps_from machine (suc n) state ≡ steps_from machine n (machine.next state)
steps_behind machine zero state = refl
steps_behind machine (suc n) state = ap machine.next (steps_behind machine n state)

all_zero : (bits : ℕ → ℕ) (xs : List ℕ) → ((k v : ℕ) → slice_get xs k ≡ Some v → bits v ≡ 0) → map bits xs ≡ map (λ v. 0) xs
all_zero bits [] each = refl
all_zero bits (x ∷ xs) each = ap₂ (λ (y : ℕ) (ys : List ℕ). y ∷ ys) (each 0 x refl) (all_zero bits xs (λ k v there. each (suc k) v there))

-- where something stands, control comes along no edge that isn't made yet
pub not_at_thing : {Thing : Type 0} (o : Option Arrival) (x : Thing) (xs : List Thing) → arrival_at o (At (x ∷ xs)) ≡ None
not_at_thing None x xs = refl
not_at_thing (Some arrival) x xs = refl

module _ (run : FunctionRun) (f : Body) (resolves : (v : ℕ) → run.function.resolved v ≡ resolved f v) (blocks : Blocks) (b : ℕ) (zeros : List ℕ)
    (in_turn : InTurn f zeros) (rest : List Placed) (q : FunctionState)
  where
    abbrev machine : Machine FunctionState Observation
    machine = function_machine run

    -- The next so many instructions of zeros are left to do. The results of the others are zero, and nothing else has changed.
    pub record ZerosLeft (n : ℕ) (state : FunctionState) : Type 0 where
      pub done : List ℕ
      pub left : List ℕ
      pub in_order : done ++ left ≡ zeros
      pub count : length left ≡ n
      pub all : AllByRecursion (IsZeroInst f blocks b) left
      pub at : state.control ≡ At (map (placed_inst f) left ++ rest)
      pub memory : state.memory ≡ q.memory
      pub events : state.events ≡ q.events
      pub ran : (k inst v : ℕ) → slice_get done k ≡ Some inst → (inst_at f inst).results ≡ v ∷ [] → state.values v ≡ 0
      pub values : (w : ℕ) → (state.values w ≡ q.values w) ⊎ ((state.values w ≡ 0) × IsZeroValue blocks b w)

    -- before the first
    pub none_done : AllByRecursion (IsZeroInst f blocks b) zeros → q.control ≡ At (map (placed_inst f) zeros ++ rest) → ZerosLeft (length zeros) q
    none_done all at = record {
      done = [];
      left = zeros;
      in_order = refl;
      count = refl;
      all = all;
      at = at;
      memory = refl;
      events = refl;
      ran = λ k inst v stands. absurd (none_some stands);
      values = λ w. inl refl;
    }

    -- the next one gives zero
    module _ (n : ℕ) (state : FunctionState) (z : ZerosLeft n state) (inst : ℕ) (left : List ℕ) (left_is : z.left ≡ inst ∷ left) where
      abbrev placed : Placed
      placed = placed_inst f inst

      abbrev behind : List Placed
      behind = map (placed_inst f) left ++ rest

      stands : slice_get zeros (length z.done) ≡ Some inst
      stands =
          ap (λ xs. slice_get xs (length z.done)) (sym z.in_order) ∙ at_second z.done z.left (length z.done) 0 (omega arith) ∙ ap (λ xs. slice_get xs 0) left_is

      -- its operand, if it has one, was given by the one before
      operand_zero : (k v : ℕ) → slice_get (operands (inst_at f inst).shape) k ≡ Some v → state.values (run.function.resolved v) ≡ 0
      operand_zero k v there =
          let from : IsFromBefore f zeros (length z.done) v = in_turn (length z.done) inst k v stands there in
          let in_done : slice_get z.done from.before ≡ Some from.inst =
          sym (at_first z.done z.left from.before (omega (arith, from.next))) ∙ ap (λ xs. slice_get xs from.before) z.in_order ∙ from.stands in
          ap state.values (resolves v ∙ from.itself) ∙ z.ran from.before from.inst v in_done from.gives

      put : IsZeroInst f blocks b inst
      put = (subst (AllByRecursion (IsZeroInst f blocks b)) left_is z.all).0

      pub outcome_is : outcome_of run.world placed.instruction.operation placed.instruction.controlling (map run.function.value_type placed.instruction.operands)
          (map (value_bits run state) placed.instruction.operands) state.memory ≡ Gives (0 ∷ []) state.memory
      outcome_is =
          ap (λ bits. outcome_of run.world placed.instruction.operation placed.instruction.controlling (map run.function.value_type placed.instruction.operands) bits state.memory)
          (all_zero (value_bits run state) placed.instruction.operands operand_zero)
          ∙ put.gives run.world placed.instruction.controlling (map run.function.value_type placed.instruction.operands) state.memory

      next : machine.next state ≡ function_machine_of.give_results state (put.value ∷ []) behind (0 ∷ [])
      next =
          ap (function_machine_of.step_at run state) (z.at ∙ ap (λ xs. At (map (placed_inst f) xs ++ rest)) left_is)
          ∙ ap (function_machine_of.carry_out run state placed behind) outcome_is
          ∙ ap (λ results. function_machine_of.give_results state results behind (0 ∷ [])) put.result

      value : (w : ℕ) (test : Bool) → same_value w put.value ≡ test → (state.values w ≡ q.values w) ⊎ ((state.values w ≡ 0) × IsZeroValue blocks b w)
          → ((if test then 0 else state.values w) ≡ q.values w) ⊎ (((if test then 0 else state.values w) ≡ 0) × IsZeroValue blocks b w)
      value w false other before = before
      value w true one before = let same : w ≡ put.value = grind (arith, nat_tests) in inr (refl, subst (IsZeroValue blocks b) (sym same) put.defined)

      still_zero : (v : ℕ) (test : Bool) → (test ≡ false → state.values v ≡ 0) → (if test then 0 else state.values v) ≡ 0
      still_zero v true before = refl
      still_zero v false before = before refl

      ran : (k i v : ℕ) → slice_get (z.done ++ inst ∷ []) k ≡ Some i → (inst_at f i).results ≡ v ∷ [] → (if same_value v put.value then 0 else state.values v) ≡ 0
      ran k i v there gives = still_zero v (same_value v put.value) (λ other. by other (in_two z.done (inst ∷ []) k i there))
        where
          by : same_value v put.value ≡ false → ((k < length z.done) × (slice_get z.done k ≡ Some i)) ⊎ ((m : ℕ) × (k ≡ length z.done + m) × (slice_get (inst ∷ []) m ≡ Some i)) → state.values v ≡ 0
          by other (inl earlier) = z.ran k i v earlier.1 gives
          by other (inr (zero, here, is)) =
              let same : v ≡ put.value = first_is (sym gives ∙ ap (λ j. (inst_at f j).results) (sym (same_some is)) ∙ put.result) in
              absurd (grind (arith, nat_tests))
            where
              first_is : v ∷ [] ≡ put.value ∷ [] → v ≡ put.value
              first_is h = cc
          by other (inr (suc m, here, is)) = absurd (none_some is)

      stepped : length left ≡ n - 1 → ZerosLeft (n - 1) (machine.next state)
      stepped count =
          subst (λ (after : FunctionState). ZerosLeft (n - 1) after) (sym next) (record {
            done = z.done ++ inst ∷ [];
            left = left;
            in_order = append_assoc z.done (inst ∷ []) left ∙ ap (λ xs. z.done ++ xs) (sym left_is) ∙ z.in_order;
            count = count;
            all = (subst (AllByRecursion (IsZeroInst f blocks b)) left_is z.all).1;
            at = refl;
            memory = z.memory;
            events = z.events;
            ran = ran;
            values = λ w. value w (same_value w put.value) refl (z.values w);
          })

    step_zero : (n : ℕ) (state : FunctionState) → ZerosLeft (suc n) state → ZerosLeft n (machine.next state)
    step_zero n state z = by z.left refl
      where
        by : (left : List ℕ) → z.left ≡ left → ZerosLeft n (machine.next state)
        by [] is = let some : length z.left ≡ 0 = ap length is in absurd (omega (arith, z.count, some))
        by (inst ∷ left) is =
            let count : length left ≡ suc n - 1 = let whole : length z.left ≡ suc (length left) = ap length is in omega (arith, z.count, whole) in
            let one : suc n - 1 ≡ n = omega arith in
            subst (λ m. ZerosLeft m (machine.next state)) one (stepped (suc n) state z inst left is count)

    -- after so many steps, so many zeros are left
    pub zeros_left : (j n m : ℕ) → j + n ≡ m → ZerosLeft m q → ZerosLeft n (steps_from machine j q)
    zeros_left zero n m is z = let same : m ≡ n = omega (arith, is) in subst (λ (k : ℕ). ZerosLeft k q) same z
    zeros_left (suc j) n m is z = step_zero n (steps_from machine j q) (zeros_left j (suc n) m (omega (arith, is)) z)

    none_left : (state : FunctionState) (left : List ℕ) → length left ≡ 0 → state.control ≡ At (map (placed_inst f) left ++ rest) → state.control ≡ At rest
    none_left state [] count at = at
    none_left state (inst ∷ left) count at = absurd (omega (arith, count))

    -- behind the zeros
    pub at_rest : (state : FunctionState) → ZerosLeft 0 state → state.control ≡ At rest
    at_rest state z = none_left state z.left z.count z.at

    -- on the way nothing new is shown
    pub shown_quietly : (n : ℕ) (state : FunctionState) → ZerosLeft n state → machine.shown state ≡ quiet q.events
    shown_quietly n state z = goes_on_quietly run state (map (placed_inst f) z.left ++ rest) q.events z.at z.events

    -- where zeros, and results on the way to them, had no bits set, each value has the bits that it had
    pub same_values : ((w : ℕ) → IsBlank (blocks.function.definition w).kind → q.values w ≡ 0) → (n : ℕ) (state : FunctionState) → ZerosLeft n state
        → (w : ℕ) → state.values w ≡ q.values w
    same_values blank n state z w = by (z.values w)
      where
        by : (state.values w ≡ q.values w) ⊎ ((state.values w ≡ 0) × IsZeroValue blocks b w) → state.values w ≡ q.values w
        by (inl same) = same
        by (inr (none, inl put)) = none ∙ sym (blank w (subst IsBlank (sym (ap (λ (d : Definition). d.kind) put.1)) tt))
        by (inr (none, inr inner)) = none ∙ sym (blank w (subst IsBlank (sym (ap (λ (d : Definition). d.kind) inner)) tt))

    -- something stands there, so control comes along no edge that isn't made yet
    pub no_arrival : (n : ℕ) (state : FunctionState) (o : Option Arrival) → ZerosLeft (suc n) state → arrival_at o state.control ≡ None
    no_arrival n state o z = by z.left refl
      where
        by : (left : List ℕ) → z.left ≡ left → arrival_at o state.control ≡ None
        by [] is = let some : length z.left ≡ 0 = ap length is in absurd (omega (arith, z.count, some))
        by (inst ∷ left) is =
            ap (arrival_at o) (z.at ∙ ap (λ xs. At (map (placed_inst f) xs ++ rest)) is) ∙ not_at_thing o (placed_inst f inst) (map (placed_inst f) left ++ rest)

    -- the next one is a zero
    pub next_zero : (n : ℕ) (state : FunctionState) → ZerosLeft (suc n) state → NextIsZero f blocks b state
    next_zero n state z = by z.left refl
      where
        by : (left : List ℕ) → z.left ≡ left → NextIsZero f blocks b state
        by [] is = let some : length z.left ≡ 0 = ap length is in absurd (omega (arith, z.count, some))
        by (inst ∷ left) is = record {
          inst = inst;
          behind = map (placed_inst f) left ++ rest;
          put = (subst (AllByRecursion (IsZeroInst f blocks b)) is z.all).0;
          at = z.at ∙ ap (λ xs. At (map (placed_inst f) xs ++ rest)) is;
        }

    -- no edge is taken
    pub no_edge : (n : ℕ) (state : FunctionState) → ZerosLeft (suc n) state → function_edge run state state.control ≡ None
    no_edge n state z = by z.left refl
      where
        by : (left : List ℕ) → z.left ≡ left → function_edge run state state.control ≡ None
        by [] is = let some : length z.left ≡ 0 = ap length is in absurd (omega (arith, z.count, some))
        by (inst ∷ left) is =
            ap (function_edge run state) (z.at ∙ ap (λ xs. At (map (placed_inst f) xs ++ rest)) is)
            ∙ ap (taken_of (function_answer run state (placed_inst f inst)) (edges_of (inst_at f inst).shape)) (outcome_is (suc n) state z inst left is)
