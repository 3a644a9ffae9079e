-- One step of the script's machine is matched by the function's machine: both stand before the same items of a block and
-- agree, or ended in one way. A step along an edge is matched by that and the zeros of the block that it leads to.
use Rattle.std.proofs.Common.{◌≡◌, ℕ, suc, ◌+◌, ◌-◌, ◌<◌, ◌≤◌, nat_lt, true, List, [], ◌∷◌, ◌++◌, map, length, drop, flat_map, slice_get, Option, Some, None, Contains, ◌⊎◌, inl, inr, refl, sym, ◌∙◌, ap, ap₂, subst, subst₂, arith}
use Rattle.std.specs.Prelude.{IsTrue}
use Rattle.std.proofs.lemmas.Bool.Decides.{nat_tests}
use Rattle.clif_types.specs.Signature.{SignatureShape}
use Rattle.clif_types.specs.declared.target.PointerWidth.{PointerWidth}
use Rattle.clif_ir.specs.Body.{Body, inst_at, resolved}
use Rattle.clif_ir.specs.Consistent.{IsConsistent}
use Rattle.clif_paths.specs.Places.{inside, Arm, Path, Follows, Visits, end_of}
use Rattle.clif_paths.specs.State.{Program, Function}
use Rattle.clif_paths.specs.Denotation.{denotes}
use Rattle.clif_paths.specs.Blocks.{Blocks, state_of}
use Rattle.clif_paths.specs.Laws.{IsCorrect}
use Rattle.clif_paths.proofs.PathLemmas.{same_place-refl}
use Rattle.clif_ssa.specs.Ssa.{SsaState}
use Rattle.clif_ssa.specs.Sound.{edges_at}
use Rattle.clif_meaning.specs.Access.{touched_ranges}
use Rattle.clif_meaning.specs.Bits.{Bits}
use Rattle.clif_meaning.specs.Memory.{Memory}
use Rattle.clif_meaning.specs.Event.{Answer, CallShape, Callee, Event, Exception, Results}
use Rattle.clif_meaning.specs.Name.{Name, same_name}
use Rattle.clif_meaning.specs.Request.{AnsweredCall, script_of}
use Rattle.clif_meaning.specs.Ledger.{ledger_after, is_filled}
use Rattle.clif_meaning.specs.Instruction.{Argument, Known, CallResult, CallPayload, Edge, Instruction}
use Rattle.clif_meaning.specs.Program.{Item, Instruct, Use, Assign}
use Rattle.clif_meaning.specs.World.{World}
use Rattle.clif_meaning.specs.Outcome.{Outcome, Gives, Goes, Returns, Traps, Calls, NoStep, outcome_of}
use Rattle.clif_meaning.specs.Store.{assigned, argument_bits, shown_memory}
use Rattle.clif_meaning.specs.Machine.{Machine, Control, At, HasReturned, HasTrapped, IsStuck, Observation, Ending, ending_of}
use Rattle.clif_meaning.specs.ScriptMachine as script
use Rattle.clif_meaning.specs.ScriptMachine.{ScriptRun, ScriptState, script_machine}
use Rattle.clif_meaning.specs.FunctionMachine as function_machine_of
use Rattle.clif_meaning.specs.FunctionMachine.{FunctionRun, FunctionState, function_machine, value_bits, same_value}
use Rattle.clif_meaning.specs.FunctionView.{Placed}
use Rattle.clif_meaning.specs.View.{edge_of, edges_of, argument_of}
use Rattle.clif_meaning.specs.Premises.{EachItem, HasGoodTargets, WellTyped}
use Rattle.clif_meaning.specs.WellPlaced.{item_names, known_argument, passed_operands, program_code, IsWellPlaced}
use Rattle.clif_meaning.proofs.Stuttering.{steps_from}
use Rattle.clif_simulation.specs.Tables.{code, answered, program_so_far, block_name}
use Rattle.clif_simulation.proofs.Whole.{Whole}
use Rattle.clif_instructions.specs.declared.block_call.BlockArg.{BlockArg}
use Rattle.clif_simulation.specs.Carries.{answered_argument, answered_edge, as_passed, carried, own_placed}
use Rattle.clif_simulation.specs.Laws.{IsFinished}
use Rattle.clif_simulation.specs.Marked.{collected_run, marked_script_run}
use Rattle.clif_simulation.proofs.Finished.Giving.{In, first_contained, in_contained}
use Rattle.clif_simulation.proofs.Finished.InLists.{among_all}
use Rattle.clif_simulation.proofs.Finished.Agreement.{Agrees, GivesThere, ZerosAreZero, given_agrees, used_agrees, assigned_agrees, given_zeros, used_zeros, assigned_zeros, agrees_still, zeros_still}
use Rattle.clif_simulation.proofs.Finished.Calling
use Rattle.clif_simulation.proofs.Finished.Entered.{EntersThere, entered_agrees, entered_zeros}
use Rattle.clif_simulation.proofs.Labelling.Labels.{Labels, no_labels}
use Rattle.clif_simulation.proofs.Finished.Entry.{resolved_twice}
use Rattle.clif_simulation.proofs.Finished.Straight.{arms, next_arm}
use Rattle.clif_simulation.proofs.Finished.Edges
use Rattle.clif_simulation.proofs.Finished.Flow
use Rattle.clif_simulation.proofs.Finished.Fronts
use Rattle.clif_simulation.proofs.Finished.Fronts.{HasFront, NextIsZero, has_front, placed_inst, steps_behind}
use Rattle.clif_simulation.proofs.Finished.ItemsAt
use Rattle.clif_simulation.proofs.Listed.{place_within}
use Rattle.clif_simulation.proofs.Finished.OwnEdges
use Rattle.clif_simulation.proofs.Finished.OwnEdges.{last_item}
use Rattle.clif_simulation.proofs.Finished.OperandTypes.{outcomes_alike, ranges_alike}
use Rattle.clif_simulation.proofs.Finished.Sources.{Moving}
use Rattle.clif_simulation.proofs.Finished.Targets
use Rattle.clif_simulation.proofs.Finished.Placing.{at_second, map_at, map_length, placed_item}
use Rattle.clif_simulation.proofs.Finished.TwoParts.{nothing_assigned}
use Rattle.clif_simulation.proofs.Finished.Matching.{script_still, function_still, observation, remaining, first_is, rest_is, item_here, rest_behind, same_bits, Followed, followed_by_one, followed_by_none, followed_by_more, SameEnd, same_ending, same_outcomes}

-- what is passed has the same bits where the names have those of their answers
pub same_arguments : (calls : List AnsweredCall) (names : Name → ℕ) (values : ℕ → ℕ) (given : List ℕ) (arguments : List (Argument Name))
    → ((x : Name) → In x (flat_map known_argument arguments) → names x ≡ values (answered calls x))
    → map (argument_bits names given) arguments ≡ map (argument_bits values given) (map (answered_argument calls) arguments)
same_arguments calls names values given [] same = refl
same_arguments calls names values given (Known x ∷ arguments) same =
    ap₂ (λ (bits : ℕ) (rest : List ℕ). bits ∷ rest) (same x (inl refl)) (same_arguments calls names values given arguments (λ y there. same y (inr there)))
same_arguments calls names values given (CallResult index ∷ arguments) same =
    ap (λ (rest : List ℕ). argument_bits values given (CallResult index) ∷ rest) (same_arguments calls names values given arguments same)
same_arguments calls names values given (CallPayload index ∷ arguments) same =
    ap (λ (rest : List ℕ). argument_bits values given (CallPayload index) ∷ rest) (same_arguments calls names values given arguments same)

-- An exception takes the edge of its item, behind the normal one.
pub script_along : (run : ScriptRun) (state : ScriptState) (edges : List (Edge Name Name)) (results : List Name) (rest : List Item) (item : ℕ) (payload : List Bits)
    → script.take_answer run state edges results rest (Exception item payload) ≡ script.follow_edge run state payload (slice_get edges (suc item))
script_along run state [] results rest item payload = refl
script_along run state (normal ∷ edges) results rest item payload = refl

pub function_along : (run : FunctionRun) (state : FunctionState) (edges : List (Edge ℕ ℕ)) (results : List ℕ) (rest : List Placed) (item : ℕ) (payload : List Bits)
    → function_machine_of.take_answer run state edges results rest (Exception item payload) ≡ function_machine_of.follow_edge run state payload (slice_get edges (suc item))
function_along run state [] results rest item payload = refl
function_along run state (normal ∷ edges) results rest item payload = refl

pub none_passed : (passed : ℕ → List BlockArg) (n : ℕ) (edges : List (Edge ℕ ℕ)) → as_passed passed n edges ≡ [] → edges ≡ []
none_passed passed n [] none = refl
none_passed passed n (edge ∷ edges) none = cc

pub some_passed : (passed : ℕ → List BlockArg) (n : ℕ) (edges : List (Edge ℕ ℕ)) (first : Edge ℕ ℕ) (others : List (Edge ℕ ℕ)) → as_passed passed n edges ≡ first ∷ others
    → (edge : Edge ℕ ℕ) × (rest : List (Edge ℕ ℕ)) × (edges ≡ edge ∷ rest)
some_passed passed n [] first others some = cc
some_passed passed n (edge ∷ edges) first others some = (edge, edges, refl)

-- what an edge of an instruction passes the instruction passes
pub edge_passes : (instruction : Instruction Name Name) (n : ℕ) (edge : Edge Name Name) → slice_get instruction.edges n ≡ Some edge
    → (x : Name) → In x (flat_map known_argument edge.arguments) → In x (passed_operands instruction)
edge_passes instruction n edge is x known = among_all (λ (e : Edge Name Name). flat_map known_argument e.arguments) instruction.edges n edge x is known

module _ (calls : List AnsweredCall) (f : Body) (ssa : SsaState) (consistent : IsConsistent f) (carries : Whole calls f ssa) (finished : IsFinished calls f ssa)
    (width : PointerWidth) (world : World) (signature : SignatureShape) (placed : IsWellPlaced (program_code (program_so_far calls)))
    (targets : EachItem (HasGoodTargets (ledger_after (script_of calls)) (program_so_far calls)) (program_so_far calls))
    (typed : WellTyped (ledger_after (script_of calls)) (program_so_far calls) signature) (moving : Moving calls carries.own f ssa)
  where
    abbrev pub left_run : ScriptRun
    left_run = marked_script_run calls f world moving.marked moving.tracked moving.hidden

    abbrev pub right_run : FunctionRun
    right_run = collected_run calls f world moving.collector moving.hidden

    abbrev pub left_machine : Machine ScriptState Observation
    left_machine = script_machine left_run

    abbrev pub right_machine : Machine FunctionState Observation
    right_machine = function_machine right_run

    abbrev pub tables : Blocks
    tables = carries.tables

    abbrev pub program : Program
    program = Edges.program calls f ssa consistent carries finished placed

    abbrev pub function : Function
    function = Edges.function calls f ssa consistent carries finished placed

    -- both agree about what moves and what doesn't
    abbrev labels : Labels program function
    labels = no_labels program function

    abbrev pub live : ℕ → Type 0
    live = Edges.live calls f ssa consistent carries finished placed

    abbrev pub items : Name → List Item
    items = (program_so_far calls).items

    -- Both stand before these items of a block, which a path leads to, and agree; so many of the caller's instructions are
    -- left.
    pub record IsAt (b : ℕ) (B : Name) (k : ℕ) (rest : List Item) (left : List ℕ) (path : Path) (p : ScriptState) (q : FunctionState) : Type 0 where
      pub named : block_name calls b ≡ Some B
      pub follows : Follows (arms tables) path
      pub ends : end_of path ≡ inside b k
      pub behind : drop k (items B) ≡ rest
      pub front : List ℕ
      pub own_is : carries.own.insts b ≡ front ++ left
      pub left_is : map (own_placed carries.own f) left ≡ flat_map (carried calls) rest
      pub script_at : p.control ≡ At rest
      pub function_at : q.control ≡ At (map (placed_inst f) left)
      pub same_memory : p.memory ≡ q.memory
      pub same_events : p.events ≡ q.events
      pub agrees : Agrees live program function labels path p.variables p.names q.values
      pub zeros : ZerosAreZero program function path p.variables p.names q.values

    pub record Running (p : ScriptState) (q : FunctionState) : Type 0 where
      pub block : ℕ
      pub name : Name
      pub index : ℕ
      pub rest : List Item
      pub left : List ℕ
      pub path : Path
      pub is_at : IsAt block name index rest left path p q

    -- both ended in one way
    pub record Ended (p : ScriptState) (q : FunctionState) : Type 0 where
      pub same_end : SameEnd p.control q.control
      pub same_memory : p.memory ≡ q.memory
      pub same_events : p.events ≡ q.events

    abbrev pub Related : ScriptState → FunctionState → Type 0
    Related p q = Running p q ⊎ Ended p q

    abbrev pub measure : ScriptState → ℕ
    measure p = remaining p.control

    -- about to make a zero that the construction put at a front
    abbrev pub IsAtZero : FunctionState → Type 0
    IsAtZero q = (block : ℕ) × NextIsZero f tables block q

    abbrev pub IsMatched : ScriptState → FunctionState → Type 0
    IsMatched p q = Followed left_machine right_machine Related measure IsAtZero p q

    shown : (p : ScriptState) (q : FunctionState) → p.events ≡ q.events
        → ending_of p.control (shown_memory left_run.hidden p.memory) ≡ ending_of q.control (shown_memory left_run.hidden q.memory)
        → left_machine.shown p ≡ right_machine.shown q
    shown p q events ending = ap₂ (λ (seen : List Event) (end : Ending). observation seen end) events ending

    pub shows : (p : ScriptState) (q : FunctionState) → Related p q → left_machine.shown p ≡ right_machine.shown q
    shows p q (inl running) =
        let r = running.is_at in
        shown p q r.same_events (
        ap (λ (c : Control Item). ending_of c (shown_memory left_run.hidden p.memory)) r.script_at
        ∙ sym (ap (λ (c : Control Placed). ending_of c (shown_memory left_run.hidden q.memory)) r.function_at))
    shows p q (inr ended) =
        shown p q ended.same_events (
        same_ending p.control q.control (shown_memory left_run.hidden p.memory) ended.same_end
        ∙ ap (λ (m : Memory). ending_of q.control (shown_memory left_run.hidden m)) ended.same_memory)

    by_one : (p p' : ScriptState) (q q' : FunctionState) → left_machine.next p ≡ p' → right_machine.next q ≡ q' → Related p' q' → IsMatched p q
    by_one p p' q q' left_is right_is related =
        followed_by_one left_machine right_machine Related measure IsAtZero p q
        (subst₂ (λ (x : ScriptState) (y : FunctionState). Related x y) (sym left_is) (sym right_is) related)

    by_none : (p p' : ScriptState) (q : FunctionState) → left_machine.next p ≡ p' → Related p' q → measure p' < measure p → IsMatched p q
    by_none p p' q left_is related falls =
        followed_by_none left_machine right_machine Related measure IsAtZero p q
        (subst (λ (x : ScriptState). Related x q) (sym left_is) related)
        (subst (λ (x : ScriptState). measure x < measure p) (sym left_is) falls)

    ended_step : (p : ScriptState) (q : FunctionState) → Ended p q → IsMatched p q
    ended_step p q ended =
        by_one p p q q (script_still left_run p p.control q.control ended.same_end) (function_still right_run q p.control q.control ended.same_end) (inr ended)

    -- Within a block --------------------------------------------------------------------------------------------------------

    module _ (b : ℕ) (B : Name) (k : ℕ) (path : Path) where
      -- the path goes on to the next place of the block
      goes_on : block_name calls b ≡ Some B → (item : Item) → slice_get (items B) k ≡ Some item → Follows (arms tables) path → end_of path ≡ inside b k
          → Follows (arms tables) (next_arm b k ∷ path)
      goes_on named item stands follows ends =
          let count = carries.program.counts b B named in
          let below : k < tables.count b = omega (arith, count, place_within (items B) k item stands) in
          let there : nat_lt k (tables.count b) ≡ true = grind (arith, nat_tests) in
          (rw (there, same_place-refl (inside b k)) refl, sym ends, follows)

      -- the end of the block without a terminator
      stuck_step : (left : List ℕ) (p : ScriptState) (q : FunctionState) → IsAt b B k [] left path p q → IsMatched p q
      stuck_step [] p q r =
          by_one p (record p { control = IsStuck }) q (record q { control = IsStuck })
          (ap (script.step_at left_run p) r.script_at) (ap (function_machine_of.step_at right_run q) r.function_at)
          (inr (record { same_end = tt; same_memory = r.same_memory; same_events = r.same_events }))
      stuck_step (i ∷ left) p q r = absurd (none (own_placed carries.own f i) (map (own_placed carries.own f) left) r.left_is)
        where
          none : (x : Placed) (xs : List Placed) → (x ∷ xs) ≡ [] → ⊥
          none x xs h = cc

      pub used_next : (x : ℕ) (used : Name) (rest : List Item) (left : List ℕ) (p : ScriptState) (q : FunctionState) → IsAt b B k (Use x used ∷ rest) left path p q
          → IsAt b B (suc k) rest left (next_arm b k ∷ path) (script.run_item left_run p (Use x used) rest) q
      used_next x used rest left p q r =
          let stands : slice_get (items B) k ≡ Some (Use x used) = item_here (items B) k (Use x used) rest r.behind in
          let uses = ItemsAt.uses_there calls carries.own f ssa tables carries.program carries.describes b B r.named k x used stands in
          record {
            named = r.named;
            follows = goes_on r.named (Use x used) stands r.follows r.ends;
            ends = refl;
            behind = rest_behind (items B) k (Use x used) rest r.behind;
            front = r.front;
            own_is = r.own_is;
            left_is = r.left_is;
            script_at = refl;
            function_at = r.function_at;
            same_memory = r.same_memory;
            same_events = r.same_events;
            agrees = used_agrees live program function labels (next_arm b k) path x used uses p.variables p.names q.values r.agrees;
            zeros = used_zeros live program function labels (next_arm b k) path x used uses p.variables p.names q.values r.agrees r.zeros;
          }

      use_step : (x : ℕ) (used : Name) (rest : List Item) (left : List ℕ) (p : ScriptState) (q : FunctionState) → IsAt b B k (Use x used ∷ rest) left path p q → IsMatched p q
      use_step x used rest left p q r =
          let left_is : left_machine.next p ≡ script.run_item left_run p (Use x used) rest = ap (script.step_at left_run p) r.script_at in
          let before : measure p ≡ length (Use x used ∷ rest) = ap remaining r.script_at in
          by_none p (script.run_item left_run p (Use x used) rest) q left_is
          (inl (record { block = b; name = B; index = suc k; rest = rest; left = left; path = next_arm b k ∷ path; is_at = used_next x used rest left p q r }))
          (omega (arith, before))

      pub assigned_next : (x : ℕ) (from : Name) (rest : List Item) (left : List ℕ) (p : ScriptState) (q : FunctionState) → IsAt b B k (Assign x from ∷ rest) left path p q
          → IsAt b B (suc k) rest left (next_arm b k ∷ path) (script.run_item left_run p (Assign x from) rest) q
      assigned_next x from rest left p q r =
          let stands : slice_get (items B) k ≡ Some (Assign x from) = item_here (items B) k (Assign x from) rest r.behind in
          let assigns = ItemsAt.assigns_there calls carries.own f ssa tables carries.program carries.describes b B r.named k x from stands in
          record {
            named = r.named;
            follows = goes_on r.named (Assign x from) stands r.follows r.ends;
            ends = refl;
            behind = rest_behind (items B) k (Assign x from) rest r.behind;
            front = r.front;
            own_is = r.own_is;
            left_is = r.left_is;
            script_at = refl;
            function_at = r.function_at;
            same_memory = r.same_memory;
            same_events = r.same_events;
            agrees = assigned_agrees live program function labels (next_arm b k) path x from assigns p.variables p.names q.values r.agrees;
            zeros = assigned_zeros live program function labels (next_arm b k) path x from assigns p.variables p.names q.values r.agrees r.zeros;
          }

      assign_step : (x : ℕ) (from : Name) (rest : List Item) (left : List ℕ) (p : ScriptState) (q : FunctionState) → IsAt b B k (Assign x from ∷ rest) left path p q → IsMatched p q
      assign_step x from rest left p q r =
          let left_is : left_machine.next p ≡ script.run_item left_run p (Assign x from) rest = ap (script.step_at left_run p) r.script_at in
          let before : measure p ≡ length (Assign x from ∷ rest) = ap remaining r.script_at in
          by_none p (script.run_item left_run p (Assign x from) rest) q left_is
          (inl (record { block = b; name = B; index = suc k; rest = rest; left = left; path = next_arm b k ∷ path; is_at = assigned_next x from rest left p q r }))
          (omega (arith, before))

      -- a name that the item at this place names has the bits that its answer has
      operand_agrees : (rest : List Item) (left : List ℕ) (p : ScriptState) (q : FunctionState) → IsAt b B k rest left path p q
          → (item : Item) → slice_get (items B) k ≡ Some item → (x : Name) → Contains (item_names (Some item)) x → p.names x ≡ q.values (resolved f (answered calls x))
      operand_agrees rest left p q r item stands x names_it =
          let correct : IsCorrect (state_of tables) = Flow.is_correct calls f ssa consistent carries placed finished in
          let on = Flow.named_before calls f ssa consistent carries placed path b k B r.follows r.ends r.named item stands x names_it in
          let stands_for = correct.answers (code x) on.given (inside b k) (record {
            on_every_path = λ way follows ends. (Flow.named_before calls f ssa consistent carries placed way b k B follows ends r.named item stands x names_it).visits;
          }) in
          let same : function.resolve (tables.answer (code x)) ≡ resolved f (answered calls x) =
          carries.describes.resolves (tables.answer (code x)) ∙ ap (resolved f) on.answer in
          r.agrees.of_name x (resolved f (answered calls x))
          (carries.describes.resolves (resolved f (answered calls x)) ∙ resolved_twice f (answered calls x) consistent) refl
          (sym (stands_for.denotes_name program path r.follows r.ends) ∙ ap (λ (v : ℕ). denotes program function path v) same)

    -- An instruction ----------------------------------------------------------------------------------------------------------

    module _ (b : ℕ) (B : Name) (k : ℕ) (path : Path) (place : ℕ) (instruction : Instruction Name Name) (results : List Name) (rest : List Item) (i : ℕ) (left : List ℕ)
        (p : ScriptState) (q : FunctionState) (r : IsAt b B k (Instruct place instruction results ∷ rest) (i ∷ left) path p q)
      where
        stands : slice_get (items B) k ≡ Some (Instruct place instruction results)
        stands = item_here (items B) k (Instruct place instruction results) rest r.behind

        is : own_placed carries.own f i ≡ placed_item calls instruction results
        is =
            first_is (own_placed carries.own f i) (placed_item calls instruction results) (map (own_placed carries.own f) left) (flat_map (carried calls) rest) r.left_is

        left_are : map (own_placed carries.own f) left ≡ flat_map (carried calls) rest
        left_are =
            rest_is (own_placed carries.own f i) (placed_item calls instruction results) (map (own_placed carries.own f) left) (flat_map (carried calls) rest) r.left_is

        there : slice_get (carries.own.insts b) (length r.front) ≡ Some i
        there = ap (λ (xs : List ℕ). slice_get xs (length r.front)) r.own_is ∙ at_second r.front (i ∷ left) (length r.front) 0 (omega arith)

        outcome : Outcome
        outcome = outcome_of world instruction.operation instruction.controlling (map left_run.name_type instruction.operands) (map p.names instruction.operands) p.memory

        same_operands : map p.names instruction.operands ≡ map (value_bits right_run q) (map (answered calls) instruction.operands)
        same_operands =
            same_bits instruction.operands p.names (value_bits right_run q) (answered calls) (λ x named_there.
            operand_agrees b B k path (Instruct place instruction results ∷ rest) (i ∷ left) p q r (Instruct place instruction results) stands x
            (first_contained instruction.operands instruction.contexts x named_there))

        -- both touch one list of ranges
        pub same_ranges :
            touched_ranges world (placed_inst f i).instruction.operation (placed_inst f i).instruction.controlling (map right_run.function.value_type (placed_inst f i).instruction.operands) (map (value_bits right_run q) (placed_inst f i).instruction.operands)
            ≡ touched_ranges world instruction.operation instruction.controlling (map left_run.name_type instruction.operands) (map p.names instruction.operands)
        same_ranges =
            ap (λ (o : Placed). touched_ranges world o.instruction.operation o.instruction.controlling (map right_run.function.value_type o.instruction.operands) (map (value_bits right_run q) o.instruction.operands)) is
            ∙ ranges_alike calls f world carries.values_typed signature typed B k place instruction results stands (map (value_bits right_run q) (map (answered calls) instruction.operands))
            ∙ ap (λ (bits : List Bits). touched_ranges world instruction.operation instruction.controlling (map left_run.name_type instruction.operands) bits) (sym same_operands)

        same_outcome :
            outcome_of world (placed_inst f i).instruction.operation (placed_inst f i).instruction.controlling (map right_run.function.value_type (placed_inst f i).instruction.operands) (map (value_bits right_run q) (placed_inst f i).instruction.operands) q.memory
            ≡ outcome
        unfolding outcome
        same_outcome =
            ap (λ (o : Placed). outcome_of world o.instruction.operation o.instruction.controlling (map right_run.function.value_type o.instruction.operands) (map (value_bits right_run q) o.instruction.operands) q.memory) is
            ∙ same_outcomes world instruction.operation instruction.controlling _ _ _ _ _ _ (outcomes_alike calls f world carries.values_typed signature typed B k place instruction results stands) same_operands r.same_memory

        left_goes : left_machine.next p ≡ script.carry_out left_run p instruction.edges results rest outcome
        unfolding outcome
        left_goes = ap (script.step_at left_run p) r.script_at

        right_goes : right_machine.next q ≡ function_machine_of.carry_out right_run q (placed_inst f i) (map (placed_inst f) left) outcome
        right_goes =
            ap (function_machine_of.step_at right_run q) r.function_at
            ∙ ap (λ (o : Outcome). function_machine_of.carry_out right_run q (placed_inst f i) (map (placed_inst f) left) o) same_outcome

        abbrev gives : (way : Path) → GivesThere live program function (next_arm b k) way results (answered calls)
        gives way = ItemsAt.gives_there calls carries.own f ssa tables carries.program carries.describes b B r.named k place instruction results stands way

        same_results : (bits : List Bits) → assigned same_value (placed_inst f i).results bits q.values ≡ assigned same_value (map (answered calls) results) bits q.values
        same_results bits = ap (λ (o : Placed). assigned same_value o.results bits q.values) is

        -- On to the next item, from whatever states these two give the results in.
        gives_results : (p0 : ScriptState) (q0 : FunctionState) (bits : List Bits) (memory : Memory)
            → left_machine.next p0 ≡ script.give_results (record p { memory = memory }) results rest bits
            → right_machine.next q0 ≡ function_machine_of.give_results (record q { memory = memory }) (placed_inst f i).results (map (placed_inst f) left) bits → IsMatched p0 q0
        gives_results p0 q0 bits memory left_next right_next =
            by_one p0 (script.give_results (record p { memory = memory }) results rest bits)
            q0 (function_machine_of.give_results (record q { memory = memory }) (placed_inst f i).results (map (placed_inst f) left) bits) left_next right_next
            (inl (record {
              block = b;
              name = B;
              index = suc k;
              rest = rest;
              left = left;
              path = next_arm b k ∷ path;
              is_at = record {
                named = r.named;
                follows = goes_on b B k path r.named (Instruct place instruction results) stands r.follows r.ends;
                ends = refl;
                behind = rest_behind (items B) k (Instruct place instruction results) rest r.behind;
                front = r.front ++ i ∷ [];
                own_is = r.own_is ∙ one_more r.front;
                left_is = left_are;
                script_at = refl;
                function_at = refl;
                same_memory = refl;
                same_events = r.same_events;
                agrees = subst (λ (values : ℕ → ℕ). Agrees live program function labels (next_arm b k ∷ path) p.variables (assigned same_name results bits p.names) values) (sym (same_results bits))
                    (given_agrees live program function labels (next_arm b k) path results (answered calls) (gives path) p.variables p.names q.values r.agrees bits);
                zeros = subst (λ (values : ℕ → ℕ). ZerosAreZero program function (next_arm b k ∷ path) p.variables (assigned same_name results bits p.names) values) (sym (same_results bits))
                    (given_zeros live program function labels (next_arm b k) path results (answered calls) (gives path) p.variables p.names q.values r.agrees bits r.zeros);
              };
            }))
          where
            one_more : (front : List ℕ) → front ++ i ∷ left ≡ (front ++ i ∷ []) ++ left
            one_more [] = refl
            one_more (x ∷ front) = ap (λ (xs : List ℕ). x ∷ xs) (one_more front)

        -- along an edge, from whatever states
        module _ (p0 : ScriptState) (q0 : FunctionState) (n : ℕ) (edge : Edge Name Name) (is_edge : slice_get instruction.edges n ≡ Some edge) (given : List Bits) (memory : Memory)
            (left_next : left_machine.next p0 ≡ script.follow_edge left_run (record p { memory = memory }) given (Some edge))
            (right_next : right_machine.next q0 ≡ function_machine_of.follow_edge right_run (record q { memory = memory }) given (slice_get (edges_of (inst_at f i).shape) n))
          where
            as_many : length edge.arguments ≡ length ((program_so_far calls).parameters edge.target)
            as_many = Targets.passes_as_many calls B k place instruction results stands n edge is_edge signature typed

            filled : IsTrue (is_filled (ledger_after (script_of calls)) edge.target)
            filled = Targets.target_filled calls B k place instruction results stands n edge is_edge targets

            abbrev d : ℕ
            d = answered calls edge.target

            abbrev of_function : OwnEdges.IsEdgeOf calls f ssa consistent carries i n edge
            of_function = OwnEdges.edge_in_function calls f ssa consistent carries i instruction results is n edge is_edge

            abbrev arm : Arm
            arm = Edges.arm calls f ssa consistent carries finished placed b B r.named k place instruction results stands (length r.front) i there is n edge is_edge as_many filled

            -- the states behind the edge
            abbrev p1 : ScriptState
            p1 = script.follow_edge left_run (record p { memory = memory }) given (Some edge)

            abbrev q1 : FunctionState
            q1 =
                function_machine_of.enter_block right_run (record q { memory = memory }) d
                (map (argument_bits (value_bits right_run q) given) (map argument_of of_function.call.args))

            right_is : right_machine.next q0 ≡ q1
            right_is =
                right_next
                ∙ ap (function_machine_of.follow_edge right_run (record q { memory = memory }) given)
                (map_at edge_of (edges_at f i) n of_function.call of_function.stands)
                ∙ ap (λ (c : ℕ). function_machine_of.enter_block right_run (record q { memory = memory }) c
                (map (argument_bits (value_bits right_run q) given) (map argument_of of_function.call.args))) of_function.target

            abbrev behind : Path
            behind = next_arm b k ∷ path

            follows_behind : Follows (arms tables) behind
            follows_behind = goes_on b B k path r.named (Instruct place instruction results) stands r.follows r.ends

            agrees_behind : Agrees live program function labels behind p.variables p.names q.values
            agrees_behind =
                subst₂ (λ (names : Name → ℕ) (values : ℕ → ℕ). Agrees live program function labels behind p.variables names values)
                (nothing_assigned same_name results p.names) (nothing_assigned same_value (map (answered calls) results) q.values)
                (given_agrees live program function labels (next_arm b k) path results (answered calls) (gives path) p.variables p.names q.values r.agrees [])

            zeros_behind : ZerosAreZero program function behind p.variables p.names q.values
            zeros_behind =
                subst₂ (λ (names : Name → ℕ) (values : ℕ → ℕ). ZerosAreZero program function behind p.variables names values)
                (nothing_assigned same_name results p.names) (nothing_assigned same_value (map (answered calls) results) q.values)
                (given_zeros live program function labels (next_arm b k) path results (answered calls) (gives path) p.variables p.names q.values r.agrees [] r.zeros)

            -- a name that the edge passes has the bits that its answer has
            passed_agrees : (x : Name) → Contains (passed_operands instruction) x → p.names x ≡ value_bits right_run q (answered calls x)
            passed_agrees x passes =
                let correct : IsCorrect (state_of tables) = Flow.is_correct calls f ssa consistent carries placed finished in
                let on = Flow.passed_before calls f ssa consistent carries placed (next_arm b k) path b k B r.follows r.ends refl r.named (Instruct place instruction results) stands x passes in
                let stands_for = correct.answers (code x) on.given (inside b (suc k)) (record {
                  on_every_path = λ way follows ends. visits_on way follows ends;
                }) in
                let same : function.resolve (tables.answer (code x)) ≡ resolved f (answered calls x) =
                carries.describes.resolves (tables.answer (code x)) ∙ ap (resolved f) on.answer in
                agrees_behind.of_name x (resolved f (answered calls x))
                (carries.describes.resolves (resolved f (answered calls x)) ∙ resolved_twice f (answered calls x) consistent) refl
                (sym (stands_for.denotes_name program behind follows_behind refl) ∙ ap (λ (v : ℕ). denotes program function behind v) same)
              where
                visits_on : (way : Path) → Follows (arms tables) way → end_of way ≡ inside b (suc k) → Visits (tables.naming (code x)).home way
                visits_on [] follows ends = cc
                visits_on (first ∷ way) follows ends =
                    (Flow.passed_before calls f ssa consistent carries placed first way b k B follows.2
                    (Flow.to_item calls f ssa consistent carries placed first way b k follows ends) ends r.named (Instruct place instruction results) stands x passes).visits

            -- the bits that the target's parameters get
            abbrev bits_passed : List ℕ
            bits_passed = map (argument_bits p.names given) edge.arguments

            abbrev of_target : List Name
            of_target = (program_so_far calls).parameters edge.target

            same_passed : bits_passed ≡ map (argument_bits (value_bits right_run q) given) (map argument_of (carries.own.passed i n))
            same_passed =
                same_arguments calls p.names (value_bits right_run q) given edge.arguments
                (λ x known. passed_agrees x (in_contained (passed_operands instruction) x (edge_passes instruction n edge is_edge x known)))
                ∙ ap (map (argument_bits (value_bits right_run q) given)) (sym of_function.passed)

            abbrev old_and_theirs : ℕ → ℕ
            old_and_theirs =
                Edges.new calls f ssa consistent carries finished placed b B r.named k place instruction results stands (length r.front) i there is n edge is_edge as_many filled
                behind given q.values zeros_behind.of_value

            enters : EntersThere live program function arm behind of_target (answered calls) q.values old_and_theirs
            enters =
                Edges.enters calls f ssa consistent carries finished placed b B r.named k place instruction results stands (length r.front) i there is n edge is_edge as_many filled
                behind given q.values zeros_behind.of_value

            bits_count : length bits_passed ≡ length of_target
            bits_count = map_length (argument_bits p.names given) edge.arguments ∙ as_many

            -- the values behind the edge
            abbrev values_there : ℕ → ℕ
            values_there = assigned same_value (map (answered calls) of_target) bits_passed old_and_theirs

            same_values : (v : ℕ) → q1.values v ≡ values_there v
            same_values v =
                Edges.both_parts calls f ssa consistent carries finished placed b B r.named k place instruction results stands (length r.front) i there is n edge is_edge as_many filled
                behind given q.values zeros_behind.of_value v
                ∙ ap (λ (bits : List ℕ). assigned same_value (map (answered calls) of_target) bits old_and_theirs v) (sym same_passed)

            agrees_there : Agrees live program function labels (arm ∷ behind) p.variables p1.names q1.values
            agrees_there =
                agrees_still live program function labels (arm ∷ behind) p.variables p1.names values_there q1.values same_values
                (entered_agrees live program function labels arm behind of_target (answered calls) q.values old_and_theirs enters p.variables p.names agrees_behind zeros_behind bits_passed (inl bits_count))

            zeros_there : ZerosAreZero program function (arm ∷ behind) p.variables p1.names q1.values
            zeros_there =
                zeros_still program function (arm ∷ behind) p.variables p1.names values_there q1.values same_values
                (entered_zeros live program function labels arm behind of_target (answered calls) q.values old_and_theirs enters p.variables p.names agrees_behind zeros_behind bits_passed (inl bits_count))

            follows_there : Follows (arms tables) (arm ∷ behind)
            follows_there =
                let last : suc k ≡ length (items B) = last_item (items B) k place instruction results n edge (carries.edges_end B) stands is_edge in (
                  Edges.known calls f ssa consistent carries finished placed b B r.named k place instruction results stands (length r.front) i there is n edge is_edge as_many filled,
                  ap (inside b) (carries.program.counts b B r.named ∙ sym last),
                  goes_on b B k path r.named (Instruct place instruction results) stands r.follows r.ends,
                )

            abbrev has : HasFront f tables d (carries.own.insts d)
            has = has_front f consistent tables d (carries.own.insts d) (carries.describes.instructions d) (carries.own_inserted d)

            abbrev Left : ℕ → FunctionState → Type 0
            Left = Fronts.ZerosLeft right_run f (λ v. refl) tables d has.zeros has.in_turn (map (placed_inst f) (carries.own.insts d)) q1

            all_left : Left (length has.zeros) q1
            all_left =
                Fronts.none_done right_run f (λ v. refl) tables d has.zeros has.in_turn (map (placed_inst f) (carries.own.insts d)) q1 has.are_zeros
                (ap (λ (ps : List Placed). At ps) has.in_order)

            left_after : (j m : ℕ) → j + m ≡ length has.zeros → Left m (steps_from right_machine j q1)
            left_after j m sum = Fronts.zeros_left right_run f (λ v. refl) tables d has.zeros has.in_turn (map (placed_inst f) (carries.own.insts d)) q1 j m (length has.zeros) sum all_left

            after_first : (j : ℕ) → steps_from right_machine (suc j) q0 ≡ steps_from right_machine j q1
            after_first j = steps_behind right_machine j q0 ∙ ap (steps_from right_machine j) right_is

            -- where the zeros are done
            abbrev q2 : FunctionState
            q2 = steps_from right_machine (length has.zeros) q1

            done : Left 0 q2
            done = left_after (length has.zeros) 0 (omega arith)

            done_values : (w : ℕ) → q2.values w ≡ q1.values w
            done_values =
                Fronts.same_values right_run f (λ v. refl) tables d has.zeros has.in_turn (map (placed_inst f) (carries.own.insts d)) q1 zeros_there.of_value 0 q2 done

            running : Running p1 q2
            running = record {
              block = d;
              name = edge.target;
              index = 0;
              rest = items edge.target;
              left = carries.own.insts d;
              path = arm ∷ behind;
              is_at = record {
                named = Edges.target_named calls f ssa consistent carries finished placed b B r.named k place instruction results stands (length r.front) i there is n edge is_edge as_many filled;
                follows = follows_there;
                ends = refl;
                behind = refl;
                front = [];
                own_is = refl;
                left_is = carries.items d edge.target
                    (Edges.target_named calls f ssa consistent carries finished placed b B r.named k place instruction results stands (length r.front) i there is n edge is_edge as_many filled);
                script_at = refl;
                function_at = Fronts.at_rest right_run f (λ v. refl) tables d has.zeros has.in_turn (map (placed_inst f) (carries.own.insts d)) q1 q2 done;
                same_memory = sym done.memory;
                same_events = r.same_events ∙ sym done.events;
                agrees = agrees_still live program function labels (arm ∷ behind) p.variables p1.names q1.values q2.values done_values agrees_there;
                zeros = zeros_still program function (arm ∷ behind) p.variables p1.names q1.values q2.values done_values zeros_there;
              };
            }

            -- behind the first step, all steps show the same
            quietly : (j : ℕ) → j ≤ length has.zeros
                → right_machine.shown (steps_from right_machine (suc j) q0) ≡ right_machine.shown (steps_from right_machine (suc (length has.zeros)) q0)
            quietly j within =
                ap right_machine.shown (after_first j)
                ∙ Fronts.shown_quietly right_run f (λ v. refl) tables d has.zeros has.in_turn (map (placed_inst f) (carries.own.insts d)) q1 (length has.zeros - j) (steps_from right_machine j q1)
                (left_after j (length has.zeros - j) (omega (arith, within)))
                ∙ sym (Fronts.shown_quietly right_run f (λ v. refl) tables d has.zeros has.in_turn (map (placed_inst f) (carries.own.insts d)) q1 0 q2 done)
                ∙ sym (ap right_machine.shown (after_first (length has.zeros)))

            passes : (j : ℕ) → j < length has.zeros → IsAtZero (steps_from right_machine (suc j) q0)
            passes j within = (
              d,
              subst (NextIsZero f tables d) (sym (after_first j))
                  (Fronts.next_zero right_run f (λ v. refl) tables d has.zeros has.in_turn (map (placed_inst f) (carries.own.insts d)) q1 (length has.zeros - suc j) (steps_from right_machine j q1)
                  (left_after j (suc (length has.zeros - suc j)) (omega (arith, within)))),
            )

            pub goes_along : IsMatched p0 q0
            goes_along =
                followed_by_more left_machine right_machine Related measure IsAtZero p0 q0 (length has.zeros)
                (subst₂ (λ (x : ScriptState) (y : FunctionState). Related x y) (sym left_next) (sym (after_first (length has.zeros))) (inl running)) quietly passes

        goes : (p0 : ScriptState) (q0 : FunctionState) (n : ℕ) (given : List Bits) (memory : Memory) (o : Option (Edge Name Name)) → slice_get instruction.edges n ≡ o
            → left_machine.next p0 ≡ script.follow_edge left_run (record p { memory = memory }) given (slice_get instruction.edges n)
            → right_machine.next q0 ≡ function_machine_of.follow_edge right_run (record q { memory = memory }) given (slice_get (edges_of (inst_at f i).shape) n) → IsMatched p0 q0
        goes p0 q0 n given memory None none left_next right_next =
            by_one p0 (record p { memory = memory; control = IsStuck }) q0 (record q { memory = memory; control = IsStuck })
            (left_next ∙ ap (script.follow_edge left_run (record p { memory = memory }) given) none)
            (right_next
            ∙ ap (function_machine_of.follow_edge right_run (record q { memory = memory }) given) (OwnEdges.no_edge_in_function calls f ssa consistent carries i instruction results is n none))
            (inr (record { same_end = tt; same_memory = refl; same_events = r.same_events }))
        goes p0 q0 n given memory (Some edge) is_edge left_next right_next =
            goes_along p0 q0 n edge is_edge given memory (left_next ∙ ap (script.follow_edge left_run (record p { memory = memory }) given) is_edge) right_next

    -- An outside call ---------------------------------------------------------------------------------------------------------

    -- Both show the same event, what denotes the same moves alike, and both get the same answer.
    module _ (b : ℕ) (B : Name) (k : ℕ) (path : Path) (place : ℕ) (instruction : Instruction Name Name) (results : List Name) (rest : List Item) (i : ℕ) (left : List ℕ)
        (p : ScriptState) (q : FunctionState) (r : IsAt b B k (Instruct place instruction results ∷ rest) (i ∷ left) path p q)
        (callee : Callee) (call : CallShape) (arguments : List Bits)
      where
        abbrev p' : ScriptState
        p' = script.call_outside left_run p callee call arguments

        abbrev q' : FunctionState
        q' = function_machine_of.call_outside right_run q (placed_inst f i).stack_map callee call arguments

        placed_is : own_placed carries.own f i ≡ placed_item calls instruction results
        placed_is = is b B k path place instruction results rest i left p q r

        no_map : (placed_inst f i).stack_map ≡ []
        no_map = ap (λ (o : Placed). o.stack_map) placed_is

        edges_are : as_passed (carries.own.passed i) 0 (edges_of (inst_at f i).shape) ≡ map (answered_edge calls) instruction.edges
        edges_are = ap (λ (o : Placed). o.instruction.edges) placed_is

        events_are : p'.events ≡ q'.events
        events_are =
            Calling.events_are calls f ssa consistent carries finished world signature placed typed moving p q r.same_memory r.same_events
            (placed_inst f i).stack_map no_map callee call arguments path r.follows r.agrees r.zeros

        memory_is : p'.memory ≡ q'.memory
        memory_is =
            Calling.memory_is calls f ssa consistent carries finished world signature placed typed moving p q r.same_memory r.same_events
            (placed_inst f i).stack_map no_map callee call arguments path r.follows r.agrees r.zeros

        called : IsAt b B k (Instruct place instruction results ∷ rest) (i ∷ left) path p' q'
        called = record {
          named = r.named;
          follows = r.follows;
          ends = r.ends;
          behind = r.behind;
          front = r.front;
          own_is = r.own_is;
          left_is = r.left_is;
          script_at = r.script_at;
          function_at = r.function_at;
          same_memory = memory_is;
          same_events = events_are;
          agrees = Calling.agrees_behind calls f ssa consistent carries finished world signature placed typed moving p q r.same_memory r.same_events
              (placed_inst f i).stack_map no_map callee call arguments path r.follows r.agrees r.zeros;
          zeros = Calling.zeros_behind calls f ssa consistent carries finished world signature placed typed moving p q r.same_memory r.same_events
              (placed_inst f i).stack_map no_map callee call arguments path r.follows r.agrees r.zeros;
        }

        abbrev takes : List (Edge ℕ ℕ) → Answer → FunctionState
        takes edges answer = function_machine_of.take_answer right_run q' edges (placed_inst f i).results (map (placed_inst f) left) answer

        -- with the same memory on both sides
        along_edge : (n : ℕ) (given : List Bits) → left_machine.next p ≡ script.follow_edge left_run p' given (slice_get instruction.edges n)
            → right_machine.next q ≡ function_machine_of.follow_edge right_run q' given (slice_get (edges_of (inst_at f i).shape) n) → IsMatched p q
        along_edge n given left_next right_next =
            goes b B k path place instruction results rest i left p' q' called p q n given p'.memory (slice_get instruction.edges n) refl left_next
            (right_next
            ∙ ap (λ (memory : Memory). function_machine_of.follow_edge right_run (record q' { memory = memory }) given (slice_get (edges_of (inst_at f i).shape) n)) (sym memory_is))

        returns : (bits : List Bits) (edges : List (Edge Name Name)) → instruction.edges ≡ edges
            → left_machine.next p ≡ script.take_answer left_run p' instruction.edges results rest (Results bits)
            → right_machine.next q ≡ takes (edges_of (inst_at f i).shape) (Results bits) → IsMatched p q
        returns bits [] none left_next right_next =
            gives_results b B k path place instruction results rest i left p' q' called p q bits p'.memory
            (left_next ∙ ap (λ (edges : List (Edge Name Name)). script.take_answer left_run p' edges results rest (Results bits)) none)
            (right_next
            ∙ ap (λ (edges : List (Edge ℕ ℕ)). takes edges (Results bits))
            (none_passed (carries.own.passed i) 0 (edges_of (inst_at f i).shape) (edges_are ∙ ap (map (answered_edge calls)) none))
            ∙ ap (λ (memory : Memory). function_machine_of.give_results (record q' { memory = memory }) (placed_inst f i).results (map (placed_inst f) left) bits) (sym memory_is))
        returns bits (normal ∷ edges) some left_next right_next =
            let first = some_passed (carries.own.passed i) 0 (edges_of (inst_at f i).shape) _ _ (edges_are ∙ ap (map (answered_edge calls)) some) in
            along_edge 0 bits
            (left_next
            ∙ ap (λ (es : List (Edge Name Name)). script.take_answer left_run p' es results rest (Results bits)) some
            ∙ sym (ap (λ (es : List (Edge Name Name)). script.follow_edge left_run p' bits (slice_get es 0)) some))
            (right_next
            ∙ ap (λ (es : List (Edge ℕ ℕ)). takes es (Results bits)) first.2
            ∙ sym (ap (λ (es : List (Edge ℕ ℕ)). function_machine_of.follow_edge right_run q' bits (slice_get es 0)) first.2))

        after_answer : (answer : Answer) → left_machine.next p ≡ script.take_answer left_run p' instruction.edges results rest answer
            → right_machine.next q ≡ takes (edges_of (inst_at f i).shape) answer → IsMatched p q
        after_answer (Results bits) left_next right_next = returns bits instruction.edges refl left_next right_next
        after_answer (Exception item payload) left_next right_next =
            along_edge (suc item) payload
            (left_next ∙ script_along left_run p' instruction.edges results rest item payload)
            (right_next ∙ function_along right_run q' (edges_of (inst_at f i).shape) (placed_inst f i).results (map (placed_inst f) left) item payload)

        pub call_step : left_machine.next p ≡ script.answer_call left_run p' call instruction.edges results rest
            → right_machine.next q ≡ function_machine_of.answer_call right_run q' call (placed_inst f i) (map (placed_inst f) left) → IsMatched p q
        call_step left_next right_next =
            after_answer (world.answer p'.events call) left_next
            (right_next ∙ ap (λ (events : List Event). takes (edges_of (inst_at f i).shape) (world.answer events call)) (sym events_are))

    -- Whatever an instruction does --------------------------------------------------------------------------------------------

    module _ (b : ℕ) (B : Name) (k : ℕ) (path : Path) (place : ℕ) (instruction : Instruction Name Name) (results : List Name) (rest : List Item) (i : ℕ) (left : List ℕ)
        (p : ScriptState) (q : FunctionState) (r : IsAt b B k (Instruct place instruction results ∷ rest) (i ∷ left) path p q)
      where
        after_outcome : (o : Outcome) → left_machine.next p ≡ script.carry_out left_run p instruction.edges results rest o
            → right_machine.next q ≡ function_machine_of.carry_out right_run q (placed_inst f i) (map (placed_inst f) left) o → IsMatched p q
        after_outcome (Gives bits memory) left_next right_next = gives_results b B k path place instruction results rest i left p q r p q bits memory left_next right_next
        after_outcome (Goes n given memory) left_next right_next = goes b B k path place instruction results rest i left p q r p q n given memory (slice_get instruction.edges n) refl left_next right_next
        after_outcome (Returns bits) left_next right_next =
            by_one p (record p { control = HasReturned bits }) q (record q { control = HasReturned bits }) left_next right_next
            (inr (record { same_end = refl; same_memory = r.same_memory; same_events = r.same_events }))
        after_outcome (Traps reason) left_next right_next =
            by_one p (record p { control = HasTrapped reason }) q (record q { control = HasTrapped reason }) left_next right_next
            (inr (record { same_end = refl; same_memory = r.same_memory; same_events = r.same_events }))
        after_outcome (Calls callee call arguments) left_next right_next = call_step b B k path place instruction results rest i left p q r callee call arguments left_next right_next
        after_outcome NoStep left_next right_next =
            by_one p (record p { control = IsStuck }) q (record q { control = IsStuck }) left_next right_next
            (inr (record { same_end = tt; same_memory = r.same_memory; same_events = r.same_events }))

        pub instruct_step : IsMatched p q
        instruct_step = after_outcome (outcome b B k path place instruction results rest i left p q r) (left_goes b B k path place instruction results rest i left p q r) (right_goes b B k path place instruction results rest i left p q r)

    running_step : (b : ℕ) (B : Name) (k : ℕ) (rest : List Item) (left : List ℕ) (path : Path) (p : ScriptState) (q : FunctionState) → IsAt b B k rest left path p q → IsMatched p q
    running_step b B k [] left path p q r = stuck_step b B k path left p q r
    running_step b B k (Use x used ∷ rest) left path p q r = use_step b B k path x used rest left p q r
    running_step b B k (Assign x from ∷ rest) left path p q r = assign_step b B k path x from rest left p q r
    running_step b B k (Instruct place instruction results ∷ rest) (i ∷ left) path p q r = instruct_step b B k path place instruction results rest i left p q r
    running_step b B k (Instruct place instruction results ∷ rest) [] path p q r = absurd (none (placed_item calls instruction results) (flat_map (carried calls) rest) r.left_is)
      where
        none : (x : Placed) (xs : List Placed) → [] ≡ (x ∷ xs) → ⊥
        none x xs h = cc

    pub step : (p : ScriptState) (q : FunctionState) → Related p q → IsMatched p q
    step p q (inl running) = running_step running.block running.name running.index running.rest running.left running.path p q running.is_at
    step p q (inr ended) = ended_step p q ended
