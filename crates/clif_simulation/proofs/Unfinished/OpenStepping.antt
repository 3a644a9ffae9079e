-- One step of the script's interrupted run that goes on is matched by the function's: both stand before the same items of a
-- block and agree.
use Rattle.std.proofs.Common.{◌≡◌, ◌⊎◌, inl, inr, ℕ, suc, ◌<◌, ◌≤◌, nat_lt, Bool, true, false, List, [], ◌∷◌, ◌++◌, map, length, flat_map, slice_get, Option, Some, None, Contains, refl, sym, ◌∙◌, ap, subst, subst₂, arith}
use Rattle.std.proofs.lemmas.Bool.Decides.{nat_tests}
use Rattle.clif_types.specs.Signature.{SignatureShape}
use Rattle.clif_types.specs.declared.target.PointerWidth.{PointerWidth}
use Rattle.clif_ir.specs.Body.{Body, block_at, inst_at, resolved}
use Rattle.clif_ir.specs.Consistent.{IsConsistent}
use Rattle.clif_instructions.specs.declared.block_call.BlockCall.{BlockCall}
use Rattle.clif_paths.specs.Places.{inside, Arm, Path, Follows, end_of}
use Rattle.clif_paths.specs.State.{Program, Function}
use Rattle.clif_paths.specs.Denotation.{denotes}
use Rattle.clif_paths.specs.Blocks.{Blocks, front, last_place}
use Rattle.clif_paths.proofs.PathLemmas.{same_place-refl}
use Rattle.clif_ssa.specs.Ssa.{SsaState, predecessors_of, sealed_of}
use Rattle.clif_records.specs.Tables.{is_yes, pending_of}
use Rattle.clif_ssa.specs.Sound.{IsEdgeInto, edges_at, edge_target}
use Rattle.clif_meaning.specs.Bits.{Bits}
use Rattle.clif_meaning.specs.Event.{Answer, CallShape, Callee, Event, Exception, Results}
use Rattle.clif_meaning.specs.Premises.{EachItem}
use Rattle.clif_meaning.specs.Memory.{Memory}
use Rattle.clif_meaning.specs.Name.{Name, same_name}
use Rattle.clif_meaning.specs.Request.{AnsweredCall, script_of}
use Rattle.clif_meaning.specs.Ledger.{ledger_after}
use Rattle.clif_meaning.specs.Instruction.{Edge, Instruction}
use Rattle.clif_meaning.specs.Program.{Item, Instruct, Use, Assign}
use Rattle.clif_meaning.specs.World.{World}
use Rattle.clif_meaning.specs.Outcome.{Outcome, Gives, Goes, Returns, Traps, Calls, NoStep, outcome_of}
use Rattle.clif_meaning.specs.Store.{assigned, argument_bits}
use Rattle.clif_meaning.specs.Machine.{Machine, Control, At, HasReturned, HasTrapped, IsStuck, Observation}
use Rattle.clif_meaning.specs.ScriptMachine as script
use Rattle.clif_meaning.specs.ScriptMachine.{ScriptRun, ScriptState}
use Rattle.clif_meaning.specs.FunctionMachine as function_machine_of
use Rattle.clif_meaning.specs.FunctionMachine.{Collector, FunctionRun, FunctionState, value_bits, same_value}
use Rattle.clif_meaning.specs.FunctionView.{Placed}
use Rattle.clif_meaning.specs.View.{edge_of, edges_of, argument_of}
use Rattle.clif_meaning.specs.Path.{Place}
use Rattle.clif_meaning.specs.WellPlaced.{item_names, passed_operands}
use Rattle.clif_meaning.proofs.Stuttering.{steps_from}
use Rattle.clif_simulation.specs.Tables.{code, answered, program_so_far, block_name}
use Rattle.clif_simulation.specs.Carries.{CallsNothing, answered_edge, as_passed, carried, own_placed}
use Rattle.clif_simulation.specs.Reading.{behind, WellTypedSoFar}
use Rattle.clif_simulation.specs.Coming.{Arrival, Arrivals, Coming, MayCome, arrival_at, script_comes, function_comes}
use Rattle.clif_simulation.specs.Interrupted.{AreOpen, taken_of, Unknowns, taken_by, ScriptStanding, FunctionStanding, function_answer, script_answer, item_edge, script_edge, script_goes, script_enters, function_edge, function_goes, function_enters, variables_entering, values_entering}
use Rattle.clif_simulation.proofs.Whole.{Whole}
use Rattle.clif_simulation.proofs.Finished.Giving.{first_contained, in_contained}
use Rattle.clif_simulation.proofs.Finished.Agreement.{Agrees, GivesThere, UsesThere, AssignsThere, ZerosAreZero, given_agrees, name_bits, used_agrees, assigned_agrees, given_zeros, used_zeros, assigned_zeros}
use Rattle.clif_simulation.proofs.Finished.Entry.{resolved_twice}
use Rattle.clif_simulation.proofs.Finished.Fronts.{not_at_thing, placed_inst, steps_behind}
use Rattle.clif_simulation.proofs.Finished.ItemsAt
use Rattle.clif_simulation.proofs.Labelling.Labels.{same_instance}
use Rattle.clif_simulation.proofs.Listed.{place_within}
use Rattle.clif_simulation.proofs.Finished.Matching.{first_is, rest_is, item_here, rest_behind, same_bits, IsPlain, item_plain, outcome_plain, same_outcomes}
use Rattle.clif_simulation.proofs.Unfinished.OpenArms
use Rattle.clif_simulation.proofs.Labelling.Labels.{Labels}
use Rattle.clif_simulation.proofs.Unfinished.OpenCalls.{AgreeOn, ArrivalsKeep, CallsKeep, KeepAgreement}
use Rattle.clif_simulation.proofs.Unfinished.OpenEdges
use Rattle.clif_simulation.proofs.Unfinished.OpenFlow
use Rattle.clif_simulation.proofs.Unfinished.ComingStep
use Rattle.clif_simulation.proofs.Unfinished.OpenStanding
use Rattle.clif_simulation.proofs.Unfinished.OpenStanding.{IsAt, Running, Gets}
use Rattle.clif_simulation.proofs.Finished.OwnEdges
use Rattle.clif_simulation.proofs.Finished.OwnEdges.{last_item}
use Rattle.clif_simulation.proofs.Finished.Placing.{at_second, contained, map_at, placed_item}
use Rattle.clif_simulation.proofs.Finished.Stepping.{edge_passes, function_along, none_passed, same_arguments, script_along, some_passed}
use Rattle.clif_simulation.proofs.Labelling.Labelled.{labelled_value}
use Rattle.clif_simulation.proofs.Labelling.Outside
use Rattle.clif_simulation.proofs.Finished.Straight.{next_arm}
use Rattle.clif_simulation.proofs.Finished.OperandTypes.{outcomes_alike_so_far}
use Rattle.clif_simulation.proofs.Finished.Targets
use Rattle.clif_simulation.proofs.Finished.TwoParts.{nothing_assigned}

-- where a run goes doesn't depend on the state before
script_before : (calls : List AnsweredCall) (s : SsaState) (unknowns : Unknowns) (before : ScriptStanding) (was : ScriptState) (o : Option (Edge Name Name)) (state : ScriptState)
    → script_goes calls s unknowns before o state ≡ script_goes calls s unknowns (record before { state = was }) o state
script_before calls s unknowns before was None state = refl
script_before calls s unknowns before was (Some edge) state = refl

function_before : (s : SsaState) (unknowns : Unknowns) (before : FunctionStanding) (was : FunctionState) (o : Option (Edge ℕ ℕ)) (state : FunctionState)
    → function_goes s unknowns before o state ≡ function_goes s unknowns (record before { state = was }) o state
function_before s unknowns before was None state = refl
function_before s unknowns before was (Some edge) state = refl

stuck_not_on : (rest : List Item) → ◌≡◌ {A = Control Item} IsStuck (At rest) → ⊥
stuck_not_on rest h = cc

module _ (coming : Coming) (arrivals : Arrivals) (calls : List AnsweredCall) (f : Body) (ssa : SsaState) (consistent : IsConsistent f) (carries : Whole calls f ssa)
    (width : PointerWidth) (world : World) (tracked : Name → Bool) (collector : Collector)
    (labels : Labels (OpenEdges.program calls f ssa consistent carries) (OpenEdges.function calls f ssa consistent carries)) (unknowns : Unknowns) (entry : ℕ) (entry_name : Name)
    (growing : Name → Bool) (are_open : AreOpen calls f ssa growing) (signature : SignatureShape) (may : MayCome coming calls ssa)
    (typed : WellTypedSoFar growing (ledger_after (script_of calls)) (program_so_far calls) signature)
    (keeps : CallsKeep coming calls f ssa consistent carries world tracked collector labels)
    (arrive : ArrivalsKeep coming calls f ssa consistent carries world tracked collector labels arrivals)
  where
    abbrev left_run : ScriptRun
    left_run = OpenStanding.left_run coming arrivals calls f ssa consistent carries width world tracked collector labels unknowns entry entry_name

    abbrev right_run : FunctionRun
    right_run = OpenStanding.right_run coming arrivals calls f ssa consistent carries width world tracked collector labels unknowns entry entry_name

    abbrev pub left_machine : Machine ScriptStanding Observation
    left_machine = OpenStanding.left_machine coming arrivals calls f ssa consistent carries width world tracked collector labels unknowns entry entry_name

    abbrev pub right_machine : Machine FunctionStanding Observation
    right_machine = OpenStanding.right_machine coming arrivals calls f ssa consistent carries width world tracked collector labels unknowns entry entry_name

    abbrev tables : Blocks
    tables = carries.tables

    abbrev program : Program
    program = OpenEdges.program calls f ssa consistent carries

    abbrev function : Function
    function = OpenEdges.function calls f ssa consistent carries

    abbrev live : ℕ → Type 0
    live = OpenEdges.live calls f ssa consistent carries

    abbrev items : Name → List Item
    items = (program_so_far calls).items

    abbrev pub Stands : ℕ → Name → ℕ → List Item → List ℕ → Path → ScriptState → FunctionState → Type 0
    Stands = IsAt coming arrivals calls f ssa consistent carries width world tracked collector labels unknowns entry entry_name

    abbrev pub Runs : ScriptStanding → FunctionStanding → Type 0
    Runs = Running coming arrivals calls f ssa consistent carries width world tracked collector labels unknowns entry entry_name

    abbrev pub Comes : ScriptStanding → FunctionStanding → Type 0
    Comes = Gets coming arrivals calls f ssa consistent carries width world tracked collector labels unknowns entry entry_name

    -- Where something stands, a run goes on as the machines go -------------------------------------------------------------

    left_next : (a : ScriptStanding) (item : Item) (rest : List Item) → a.state.control ≡ At (item ∷ rest)
        → left_machine.next a ≡ script_goes calls ssa unknowns a (item_edge left_run a.state item) (script.run_item left_run a.state item rest)
    left_next a item rest at =
        ap (λ (here : Control Item). script_comes coming calls left_run ssa unknowns a (arrival_at (arrivals a.entries) here)
        (script_goes calls ssa unknowns a (script_edge left_run a.state here) (script.step_at left_run a.state here))) at
        ∙ ap (λ (o : Option Arrival). script_comes coming calls left_run ssa unknowns a o
        (script_goes calls ssa unknowns a (item_edge left_run a.state item) (script.run_item left_run a.state item rest))) (not_at_thing (arrivals a.entries) item rest)

    right_next : (c : FunctionStanding) (thing : Placed) (rest : List Placed) → c.state.control ≡ At (thing ∷ rest)
        → right_machine.next c
        ≡ function_goes ssa unknowns c (function_edge right_run c.state (At (thing ∷ rest))) (function_machine_of.step_at right_run c.state (At (thing ∷ rest)))
    right_next c thing rest at =
        ap (λ (here : Control Placed). function_comes calls right_run ssa unknowns c (arrival_at (arrivals c.entries) here)
        (function_goes ssa unknowns c (function_edge right_run c.state here) (function_machine_of.step_at right_run c.state here))) at
        ∙ ap (λ (o : Option Arrival). function_comes calls right_run ssa unknowns c o
        (function_goes ssa unknowns c (function_edge right_run c.state (At (thing ∷ rest))) (function_machine_of.step_at right_run c.state (At (thing ∷ rest)))))
        (not_at_thing (arrivals c.entries) thing rest)

    -- What stands at the place of an item ---------------------------------------------------------------------------------

    module _ (b : ℕ) (B : Name) (named : block_name calls b ≡ Some B) (k : ℕ) where
      known : (item : Item) → slice_get (items B) k ≡ Some item → program.is_sealed (inside b (suc k)) ≡ true
      known item stands =
          let count = carries.program.counts b B named in
          let below : k < tables.count b = omega (arith, count, place_within (items B) k item stands) in
          let there : nat_lt k (tables.count b) ≡ true = grind (arith, nat_tests) in
          there

      -- the path goes on to the next place of the block
      pub goes_on : (path : Path) → (item : Item) → slice_get (items B) k ≡ Some item → Follows (OpenFlow.edges coming calls f ssa consistent carries) path → end_of path ≡ inside b k
          → Follows (OpenFlow.edges coming calls f ssa consistent carries) (next_arm b k ∷ path)
      goes_on path item stands follows ends =
          let there : nat_lt k (tables.count b) ≡ true = known item stands in
          (rw (there, same_place-refl (inside b k)) refl, sym ends, follows)

      pub gives_there : (place : ℕ) (instruction : Instruction Name Name) (results : List Name) → slice_get (items B) k ≡ Some (Instruct place instruction results) → (path : Path)
          → GivesThere live program function (next_arm b k) path results (answered calls)
      gives_there place instruction results stands path =
          let g = ItemsAt.gives_there calls carries.own f ssa tables carries.program carries.describes b B named k place instruction results stands path in
          record {
            known = known (Instruct place instruction results) stands;
            unassigned = g.unassigned;
            named = g.named;
            defined = g.defined;
            only_names = g.only_names;
            only_values = g.only_values;
            are_live = g.are_live;
            before = λ n there. same_instance program function (code n) (answered calls n) (inside b (suc k)) (g.named n there) (g.defined n there) path;
          }

      uses_there : (x : ℕ) (used : Name) → slice_get (items B) k ≡ Some (Use x used) → UsesThere program function (next_arm b k) x used
      uses_there x used stands =
          let u = ItemsAt.uses_there calls carries.own f ssa tables carries.program carries.describes b B named k x used stands in
          record {
            begun = u.begun;
            known = known (Use x used) stands;
            unassigned = u.unassigned;
            named = u.named;
            only_names = u.only_names;
            no_values = u.no_values;
          }

      assigns_there : (x : ℕ) (from : Name) → slice_get (items B) k ≡ Some (Assign x from) → AssignsThere program function (next_arm b k) x from
      assigns_there x from stands =
          let u = ItemsAt.assigns_there calls carries.own f ssa tables carries.program carries.describes b B named k x from stands in
          record {
            known = known (Assign x from) stands;
            written = u.written;
            unwritten = u.unwritten;
            no_names = u.no_names;
            no_values = u.no_values;
          }

    -- A use, and an assignment --------------------------------------------------------------------------------------------

    within_item : (B : Name) (k : ℕ) (item : Item) → slice_get (items B) k ≡ Some item → suc k ≤ length (items B)
    within_item B k item stands = omega (arith, place_within (items B) k item stands)

    module _ (a : ScriptStanding) (c : FunctionStanding) (b : ℕ) (B : Name) (k : ℕ) (path : Path) (place_is : a.place ≡ behind B k) (entries : a.entries ≡ c.entries) where
      next_place : behind a.place.block (suc a.place.index) ≡ behind B (suc k)
      next_place = ap (λ (p : Place Name). behind p.block (suc p.index)) place_is

      use_step : (x : ℕ) (used : Name) (rest : List Item) (left : List ℕ) → Stands b B k (Use x used ∷ rest) left path a.state c.state → Comes (left_machine.next a) c
      use_step x used rest left r =
          let stands : slice_get (items B) k ≡ Some (Use x used) = item_here (items B) k (Use x used) rest r.rest_is in
          let uses = uses_there b B r.named k x used stands in
          let is : left_machine.next a ≡ script_goes calls ssa unknowns a None (script.run_item left_run a.state (Use x used) rest) =
          left_next a (Use x used) rest r.script_at in
          subst (λ (after : ScriptStanding). Comes after c) (sym is) (
            0,
            record {
              block = b;
              name = B;
              index = suc k;
              rest = rest;
              left = left;
              path = next_arm b k ∷ path;
              place = next_place;
              entries = entries;
              is_at = record {
                named = r.named;
                follows = goes_on b B r.named k path (Use x used) stands r.follows r.ends;
                ends = refl;
                rest_is = rest_behind (items B) k (Use x used) rest r.rest_is;
                within = within_item B k (Use x used) stands;
                front = r.front;
                own_is = r.own_is;
                left_is = r.left_is;
                script_at = refl;
                function_at = r.function_at;
                same_memory = r.same_memory;
                same_events = r.same_events;
                agrees = used_agrees live program function labels (next_arm b k) path x used uses a.state.variables a.state.names c.state.values r.agrees;
                zeros = used_zeros live program function labels (next_arm b k) path x used uses a.state.variables a.state.names c.state.values r.agrees r.zeros;
              };
            },
          )

      assign_step : (x : ℕ) (from : Name) (rest : List Item) (left : List ℕ) → Stands b B k (Assign x from ∷ rest) left path a.state c.state → Comes (left_machine.next a) c
      assign_step x from rest left r =
          let stands : slice_get (items B) k ≡ Some (Assign x from) = item_here (items B) k (Assign x from) rest r.rest_is in
          let assigns = assigns_there b B r.named k x from stands in
          let is : left_machine.next a ≡ script_goes calls ssa unknowns a None (script.run_item left_run a.state (Assign x from) rest) =
          left_next a (Assign x from) rest r.script_at in
          subst (λ (after : ScriptStanding). Comes after c) (sym is) (
            0,
            record {
              block = b;
              name = B;
              index = suc k;
              rest = rest;
              left = left;
              path = next_arm b k ∷ path;
              place = next_place;
              entries = entries;
              is_at = record {
                named = r.named;
                follows = goes_on b B r.named k path (Assign x from) stands r.follows r.ends;
                ends = refl;
                rest_is = rest_behind (items B) k (Assign x from) rest r.rest_is;
                within = within_item B k (Assign x from) stands;
                front = r.front;
                own_is = r.own_is;
                left_is = r.left_is;
                script_at = refl;
                function_at = r.function_at;
                same_memory = r.same_memory;
                same_events = r.same_events;
                agrees = assigned_agrees live program function labels (next_arm b k) path x from assigns a.state.variables a.state.names c.state.values r.agrees;
                zeros = assigned_zeros live program function labels (next_arm b k) path x from assigns a.state.variables a.state.names c.state.values r.agrees r.zeros;
              };
            },
          )

      -- An instruction ----------------------------------------------------------------------------------------------------

      module _ (place : ℕ) (instruction : Instruction Name Name) (results : List Name) (rest : List Item) (i : ℕ) (left : List ℕ)
          (r : Stands b B k (Instruct place instruction results ∷ rest) (i ∷ left) path a.state c.state)
        where
          stands : slice_get (items B) k ≡ Some (Instruct place instruction results)
          stands = item_here (items B) k (Instruct place instruction results) rest r.rest_is

          is : own_placed carries.own f i ≡ placed_item calls instruction results
          is =
              first_is (own_placed carries.own f i) (placed_item calls instruction results) (map (own_placed carries.own f) left) (flat_map (carried calls) rest) r.left_is

          left_are : map (own_placed carries.own f) left ≡ flat_map (carried calls) rest
          left_are =
              rest_is (own_placed carries.own f i) (placed_item calls instruction results) (map (own_placed carries.own f) left) (flat_map (carried calls) rest) r.left_is

          there : slice_get (carries.own.insts b) (length r.front) ≡ Some i
          there = ap (λ (xs : List ℕ). slice_get xs (length r.front)) r.own_is ∙ at_second r.front (i ∷ left) (length r.front) 0 (omega arith)

          outcome : Outcome
          outcome = outcome_of world instruction.operation instruction.controlling (map left_run.name_type instruction.operands) (map a.state.names instruction.operands) a.state.memory

          -- a name that it names has the bits that its answer has
          operand_agrees : (x : Name) → Contains (item_names (Some (Instruct place instruction results))) x → a.state.names x ≡ c.state.values (resolved f (answered calls x))
          operand_agrees x names_it =
              let on = OpenFlow.named_before coming calls f ssa consistent carries may.given_before path b k B r.follows r.ends r.named (Instruct place instruction results) stands x names_it in
              let holds = OpenFlow.name_holds coming calls f ssa consistent carries may.given_before x (inside b k) on.given
              (λ way follows ends. OpenFlow.named_before coming calls f ssa consistent carries may.given_before way b k B follows ends r.named (Instruct place instruction results) stands x names_it) in
              let same : function.resolve (tables.answer (code x)) ≡ resolved f (answered calls x) =
              carries.describes.resolves (tables.answer (code x)) ∙ ap (resolved f) on.answer in
              name_bits live program function labels path a.state.variables a.state.names c.state.values r.agrees r.zeros.held x (resolved f (answered calls x))
              (carries.describes.resolves (resolved f (answered calls x)) ∙ resolved_twice f (answered calls x) consistent)
              (λ is. subst (λ (v : ℕ). labels.of_value v ≡ true) same (labelled_value calls f ssa consistent carries labels x on.given is))
              (sym (holds.agrees path r.follows r.ends) ∙ ap (λ (v : ℕ). denotes program function path v) same)

          same_operands : map a.state.names instruction.operands ≡ map (value_bits right_run c.state) (map (answered calls) instruction.operands)
          same_operands =
              same_bits instruction.operands a.state.names (value_bits right_run c.state) (answered calls) (λ x named_there.
              operand_agrees x (first_contained instruction.operands instruction.contexts x named_there))

          same_outcome :
              outcome_of world (placed_inst f i).instruction.operation (placed_inst f i).instruction.controlling (map right_run.function.value_type (placed_inst f i).instruction.operands) (map (value_bits right_run c.state) (placed_inst f i).instruction.operands)
              c.state.memory
              ≡ outcome
          unfolding outcome
          same_outcome =
              ap (λ (o : Placed). outcome_of world o.instruction.operation o.instruction.controlling (map right_run.function.value_type o.instruction.operands) (map (value_bits right_run c.state) o.instruction.operands) c.state.memory) is
              ∙ same_outcomes world instruction.operation instruction.controlling _ _ _ _ _ _ (outcomes_alike_so_far calls f world carries.values_typed growing signature typed B k place instruction results stands) same_operands r.same_memory

          left_goes : left_machine.next a ≡ script_goes calls ssa unknowns a (taken_of (script_answer left_run a.state) instruction.edges outcome) (script.carry_out left_run a.state instruction.edges results rest outcome)
          unfolding outcome
          left_goes = left_next a (Instruct place instruction results) rest r.script_at

          right_goes :
              right_machine.next c
              ≡ function_goes ssa unknowns c (taken_of (function_answer right_run c.state (placed_inst f i)) (placed_inst f i).instruction.edges outcome) (function_machine_of.carry_out right_run c.state (placed_inst f i) (map (placed_inst f) left) outcome)
          right_goes =
              right_next c (placed_inst f i) (map (placed_inst f) left) r.function_at
              ∙ ap (λ (o : Outcome).
              function_goes ssa unknowns c (taken_of (function_answer right_run c.state (placed_inst f i)) (placed_inst f i).instruction.edges o) (function_machine_of.carry_out right_run c.state (placed_inst f i) (map (placed_inst f) left) o)) same_outcome

          abbrev gives : (way : Path) → GivesThere live program function (next_arm b k) way results (answered calls)
          gives way = gives_there b B r.named k place instruction results stands way

          same_results : (bits : List Bits) → assigned same_value (placed_inst f i).results bits c.state.values ≡ assigned same_value (map (answered calls) results) bits c.state.values
          same_results bits = ap (λ (o : Placed). assigned same_value o.results bits c.state.values) is

          -- On to the next item, from whatever states these two give the results in.
          gives_results : (a0 : ScriptStanding) (c0 : FunctionStanding) (bits : List Bits) (memory : Memory)
              → left_machine.next a0 ≡ script_goes calls ssa unknowns a None (script.give_results (record a.state { memory = memory }) results rest bits)
              → right_machine.next c0
              ≡ function_goes ssa unknowns c None
              (function_machine_of.give_results (record c.state { memory = memory }) (placed_inst f i).results (map (placed_inst f) left) bits)
              → Comes (left_machine.next a0) c0
          gives_results a0 c0 bits memory left_next right_next = (
            1,
            subst₂ (λ (x : ScriptStanding) (y : FunctionStanding). Runs x y) (sym left_next) (sym right_next) (record {
              block = b;
              name = B;
              index = suc k;
              rest = rest;
              left = left;
              path = next_arm b k ∷ path;
              place = next_place;
              entries = entries;
              is_at = record {
                named = r.named;
                follows = goes_on b B r.named k path (Instruct place instruction results) stands r.follows r.ends;
                ends = refl;
                rest_is = rest_behind (items B) k (Instruct place instruction results) rest r.rest_is;
                within = within_item B k (Instruct place instruction results) stands;
                front = r.front ++ i ∷ [];
                own_is = r.own_is ∙ one_more r.front;
                left_is = left_are;
                script_at = refl;
                function_at = refl;
                same_memory = refl;
                same_events = r.same_events;
                agrees = subst (λ (values : ℕ → ℕ). Agrees live program function labels (next_arm b k ∷ path) a.state.variables (assigned same_name results bits a.state.names) values) (sym (same_results bits))
                    (given_agrees live program function labels (next_arm b k) path results (answered calls) (gives path) a.state.variables a.state.names c.state.values r.agrees bits);
                zeros = subst (λ (values : ℕ → ℕ). ZerosAreZero program function (next_arm b k ∷ path) a.state.variables (assigned same_name results bits a.state.names) values) (sym (same_results bits))
                    (given_zeros live program function labels (next_arm b k) path results (answered calls) (gives path) a.state.variables a.state.names c.state.values r.agrees bits r.zeros);
              };
            }),
          )
            where
              one_more : (front : List ℕ) → front ++ i ∷ left ≡ (front ++ i ∷ []) ++ left
              one_more [] = refl
              one_more (x ∷ front) = ap (λ (xs : List ℕ). x ∷ xs) (one_more front)

          -- along an edge
          module _ (n : ℕ) (edge : Edge Name Name) (is_edge : slice_get instruction.edges n ≡ Some edge) (given : List Bits) (memory : Memory) where
            abbrev d : ℕ
            d = answered calls edge.target

            abbrev of_function : OwnEdges.IsEdgeOf calls f ssa consistent carries i n edge
            of_function = OwnEdges.edge_in_function calls f ssa consistent carries i instruction results is n edge is_edge

            target_named : block_name calls d ≡ Some edge.target
            target_named = OwnEdges.target_named calls f ssa consistent carries B k place instruction results stands n edge is_edge

            -- it passes as much as its target has parameters of the caller's, or that is open
            abbrev MayPass : Type 0
            MayPass =
                (length (carries.own.passed i n) ≡ length ((program_so_far calls).parameters edge.target))
                ⊎ ((is_yes (sealed_of ssa d) ≡ false) ⊎ ((block_at f d).params ≡ map (answered calls) ((program_so_far calls).parameters edge.target)))

            may_pass : (t : Bool) → growing edge.target ≡ t → MayPass
            may_pass true is_open = inr (are_open d edge.target target_named is_open)
            may_pass false settled =
                inl (OwnEdges.passed_count calls f ssa consistent carries i n edge of_function
                ∙ Targets.passes_as_many_so_far calls B k place instruction results stands n edge is_edge growing signature typed settled)

            abbrev arm : Arm
            arm = record { source = last_place tables b; target = front d; edge = n }

            to : edge_target f i n ≡ Some d
            to = map_at (λ (call : BlockCall). call.block) (edges_at f i) n of_function.call of_function.stands ∙ ap (λ (c : ℕ). Some c) of_function.target

            leads : Contains (predecessors_of ssa d) i
            leads = carries.declared b i n d (contained (carries.own.insts b) (length r.front) i there) to

            abbrev into : IsEdgeInto f ssa tables d arm
            into = record {
              branch = i;
              leads = leads;
              from = ap (last_place tables) (sym (OwnEdges.stands_in_block calls f ssa consistent carries b (length r.front) i there));
              to = to;
            }

            -- the states behind the edge, before anything is interrupted
            abbrev p1 : ScriptState
            p1 = script.follow_edge left_run (record a.state { memory = memory }) given (Some edge)

            abbrev q1 : FunctionState
            q1 =
                function_machine_of.enter_block right_run (record c.state { memory = memory }) d
                (map (argument_bits (value_bits right_run c.state) given) (map argument_of of_function.call.args))

            abbrev along : Path
            along = next_arm b k ∷ path

            agrees_behind : Agrees live program function labels along a.state.variables a.state.names c.state.values
            agrees_behind =
                subst₂ (λ (names : Name → ℕ) (values : ℕ → ℕ). Agrees live program function labels along a.state.variables names values)
                (nothing_assigned same_name results a.state.names) (nothing_assigned same_value (map (answered calls) results) c.state.values)
                (given_agrees live program function labels (next_arm b k) path results (answered calls) (gives path) a.state.variables a.state.names c.state.values r.agrees [])

            zeros_behind : ZerosAreZero program function along a.state.variables a.state.names c.state.values
            zeros_behind =
                subst₂ (λ (names : Name → ℕ) (values : ℕ → ℕ). ZerosAreZero program function along a.state.variables names values)
                (nothing_assigned same_name results a.state.names) (nothing_assigned same_value (map (answered calls) results) c.state.values)
                (given_zeros live program function labels (next_arm b k) path results (answered calls) (gives path) a.state.variables a.state.names c.state.values r.agrees [] r.zeros)

            follows_along : Follows (OpenFlow.edges coming calls f ssa consistent carries) along
            follows_along = goes_on b B r.named k path (Instruct place instruction results) stands r.follows r.ends

            -- a name that the edge passes has the bits that its answer has
            passed_agrees : (x : Name) → Contains (passed_operands instruction) x → a.state.names x ≡ value_bits right_run c.state (answered calls x)
            passed_agrees x passes =
                let given_on : (way : Path) → Follows (OpenFlow.edges coming calls f ssa consistent carries) way → end_of way ≡ inside b (suc k)
                → OpenFlow.IsGivenOn coming calls f ssa consistent carries way x = λ way follows ends.
                OpenFlow.passed_before coming calls f ssa consistent carries may.given_before way b k B follows ends r.named (Instruct place instruction results) stands x passes in
                let on = given_on along follows_along refl in
                let holds = OpenFlow.name_holds coming calls f ssa consistent carries may.given_before x (inside b (suc k)) on.given given_on in
                let same : function.resolve (tables.answer (code x)) ≡ resolved f (answered calls x) =
                carries.describes.resolves (tables.answer (code x)) ∙ ap (resolved f) on.answer in
                name_bits live program function labels along a.state.variables a.state.names c.state.values agrees_behind zeros_behind.held x (resolved f (answered calls x))
                (carries.describes.resolves (resolved f (answered calls x)) ∙ resolved_twice f (answered calls x) consistent)
                (λ is. subst (λ (v : ℕ). labels.of_value v ≡ true) same (labelled_value calls f ssa consistent carries labels x on.given is))
                (sym (holds.agrees along follows_along refl) ∙ ap (λ (v : ℕ). denotes program function along v) same)

            -- the bits that the target's parameters get
            abbrev bits_passed : List ℕ
            bits_passed = map (argument_bits a.state.names given) edge.arguments

            same_passed : bits_passed ≡ map (argument_bits (value_bits right_run c.state) given) (map argument_of (carries.own.passed i n))
            same_passed =
                same_arguments calls a.state.names (value_bits right_run c.state) given edge.arguments
                (λ x known. passed_agrees x (in_contained (passed_operands instruction) x (edge_passes instruction n edge is_edge x known)))
                ∙ ap (map (argument_bits (value_bits right_run c.state) given)) (sym of_function.passed)

            abbrev held : ℕ → ℕ
            held = variables_entering (is_yes (sealed_of ssa d)) (unknowns a.entries) a.state.variables

            abbrev values_there : ℕ → ℕ
            values_there = values_entering (pending_of (sealed_of ssa d)) (unknowns a.entries) q1.values

            crossed : Agrees live program function labels (arm ∷ along) held p1.names values_there × ZerosAreZero program function (arm ∷ along) held p1.names values_there
            crossed =
                OpenEdges.goes calls f ssa consistent carries d edge.target target_named labels (last_place tables b) n into of_function.call of_function.stands along given
                c.state.values (unknowns a.entries) a.state.variables a.state.names agrees_behind zeros_behind bits_passed same_passed
                (may_pass (growing edge.target) refl)

            follows_there : Follows (OpenFlow.edges coming calls f ssa consistent carries) (arm ∷ along)
            follows_there =
                let last : suc k ≡ length (items B) = last_item (items B) k place instruction results n edge (carries.edges_end B) stands is_edge in (
                  OpenArms.edge_open (OpenFlow.more_coming calls tables coming) carries.own f ssa tables carries.describes d arm refl into,
                  ap (inside b) (carries.program.counts b B r.named ∙ sym last),
                  follows_along,
                )

            arrived : Comes (script_enters ssa unknowns d edge.target a.entries p1) (function_enters ssa unknowns d a.entries q1)
            arrived =
                OpenStanding.arrives coming arrivals calls f ssa consistent carries width world tracked collector labels unknowns entry entry_name d edge.target target_named (arm ∷ along) follows_there refl
                a.entries p1 q1 refl refl refl r.same_events crossed.0 crossed.1

            pub goes_along : (a0 : ScriptStanding) (c0 : FunctionStanding) → left_machine.next a0 ≡ script_goes calls ssa unknowns a (Some edge) p1
                → right_machine.next c0
                ≡ function_goes ssa unknowns c (slice_get (edges_of (inst_at f i).shape) n)
                (function_machine_of.follow_edge right_run (record c.state { memory = memory }) given (slice_get (edges_of (inst_at f i).shape) n))
                → Comes (left_machine.next a0) c0
            goes_along a0 c0 left_next right_next = (
              suc arrived.0,
              subst₂ (λ (x : ScriptStanding) (y : FunctionStanding). Runs x y) (sym left_next)
                  (sym (steps_behind right_machine arrived.0 c0 ∙ ap (steps_from right_machine arrived.0) right_is)) arrived.1,
            )
              where
                right_is : right_machine.next c0 ≡ function_enters ssa unknowns d a.entries q1
                right_is =
                    right_next
                    ∙ ap (λ (o : Option (Edge ℕ ℕ)). function_goes ssa unknowns c o (function_machine_of.follow_edge right_run (record c.state { memory = memory }) given o))
                    (map_at edge_of (edges_at f i) n of_function.call of_function.stands)
                    ∙ ap (λ (t : ℕ).
                    function_enters ssa unknowns t c.entries
                    (function_machine_of.enter_block right_run (record c.state { memory = memory }) t
                    (map (argument_bits (value_bits right_run c.state) given) (map argument_of of_function.call.args)))) of_function.target
                    ∙ ap (λ (so_many : ℕ). function_enters ssa unknowns d so_many q1) (sym entries)

          -- whatever it does, if the run goes on
          goes : (a0 : ScriptStanding) (c0 : FunctionStanding) (n : ℕ) (given : List Bits) (memory : Memory) (o : Option (Edge Name Name)) → slice_get instruction.edges n ≡ o
              → left_machine.next a0 ≡ script_goes calls ssa unknowns a o (script.follow_edge left_run (record a.state { memory = memory }) given o)
              → right_machine.next c0
              ≡ function_goes ssa unknowns c (slice_get (edges_of (inst_at f i).shape) n)
              (function_machine_of.follow_edge right_run (record c.state { memory = memory }) given (slice_get (edges_of (inst_at f i).shape) n))
              → (ahead : List Item) → (left_machine.next a0).state.control ≡ At ahead → Comes (left_machine.next a0) c0
          goes a0 c0 n given memory None is_edge left_next right_next ahead on =
              absurd (stuck_not_on ahead (sym (ap (λ (x : ScriptStanding). x.state.control) left_next) ∙ on))
          goes a0 c0 n given memory (Some edge) is_edge left_next right_next ahead on = goes_along n edge is_edge given memory a0 c0 left_next right_next

    -- An outside call -----------------------------------------------------------------------------------------------------

    module _ (a : ScriptStanding) (c : FunctionStanding) (b : ℕ) (B : Name) (k : ℕ) (path : Path) (place_is : a.place ≡ behind B k) (entries : a.entries ≡ c.entries) where
      -- Both show the same event and get the same answer, and still agree.
      module _ (place : ℕ) (instruction : Instruction Name Name) (results : List Name) (rest : List Item) (i : ℕ) (left : List ℕ)
          (r : Stands b B k (Instruct place instruction results ∷ rest) (i ∷ left) path a.state c.state)
          (keep : KeepAgreement coming calls f ssa consistent carries world tracked collector labels) (callee : Callee) (call : CallShape) (arguments : List Bits)
        where
          abbrev p' : ScriptState
          p' = script.call_outside left_run a.state callee call arguments

          abbrev q' : FunctionState
          q' = function_machine_of.call_outside right_run c.state (placed_inst f i).stack_map callee call arguments

          abbrev a' : ScriptStanding
          a' = record a { state = p' }

          abbrev c' : FunctionStanding
          c' = record c { state = q' }

          placed_is : own_placed carries.own f i ≡ placed_item calls instruction results
          placed_is = is a c b B k path place_is entries place instruction results rest i left r

          no_map : (placed_inst f i).stack_map ≡ []
          no_map = ap (λ (o : Placed). o.stack_map) placed_is

          edges_are : as_passed (carries.own.passed i) 0 (edges_of (inst_at f i).shape) ≡ map (answered_edge calls) instruction.edges
          edges_are = ap (λ (o : Placed). o.instruction.edges) placed_is

          events_are : p'.events ≡ q'.events
          events_are = Outside.events_are left_run f collector a.state c.state r.same_memory r.same_events (placed_inst f i).stack_map no_map callee call arguments

          memory_is : p'.memory ≡ q'.memory
          memory_is = Outside.memory_is left_run f collector a.state c.state r.same_memory r.same_events (placed_inst f i).stack_map no_map callee call arguments

          behind_call : AgreeOn coming calls f ssa consistent carries world tracked collector labels path p' q'
          behind_call =
              keep path r.follows a.state c.state r.same_memory r.same_events (placed_inst f i).stack_map no_map callee call arguments
              (record { agrees = r.agrees; zeros = r.zeros })

          called : Stands b B k (Instruct place instruction results ∷ rest) (i ∷ left) path p' q'
          called = record {
            named = r.named;
            follows = r.follows;
            ends = r.ends;
            rest_is = r.rest_is;
            within = r.within;
            front = r.front;
            own_is = r.own_is;
            left_is = r.left_is;
            script_at = r.script_at;
            function_at = r.function_at;
            same_memory = memory_is;
            same_events = events_are;
            agrees = behind_call.agrees;
            zeros = behind_call.zeros;
          }

          abbrev takes : List (Edge ℕ ℕ) → Answer → FunctionState
          takes edges answer = function_machine_of.take_answer right_run q' edges (placed_inst f i).results (map (placed_inst f) left) answer

          -- with the same memory on both sides
          along_edge : (n : ℕ) (given : List Bits)
              → left_machine.next a ≡ script_goes calls ssa unknowns a (slice_get instruction.edges n) (script.follow_edge left_run p' given (slice_get instruction.edges n))
              → right_machine.next c
              ≡ function_goes ssa unknowns c (slice_get (edges_of (inst_at f i).shape) n)
              (function_machine_of.follow_edge right_run q' given (slice_get (edges_of (inst_at f i).shape) n))
              → (ahead : List Item) → (left_machine.next a).state.control ≡ At ahead → Comes (left_machine.next a) c
          along_edge n given left_next right_next ahead on =
              goes a' c' b B k path place_is entries place instruction results rest i left called a c n given p'.memory (slice_get instruction.edges n) refl (left_next ∙ script_before calls ssa unknowns a p' (slice_get instruction.edges n) _)
              (right_next ∙ function_before ssa unknowns c q' (slice_get (edges_of (inst_at f i).shape) n) _
              ∙ ap (λ (memory : Memory). function_goes ssa unknowns c' (slice_get (edges_of (inst_at f i).shape) n)
              (function_machine_of.follow_edge right_run (record q' { memory = memory }) given (slice_get (edges_of (inst_at f i).shape) n))) (sym memory_is))
              ahead on

          returns : (bits : List Bits) (edges : List (Edge Name Name)) → instruction.edges ≡ edges
              → left_machine.next a ≡ script_goes calls ssa unknowns a (slice_get instruction.edges 0) (script.take_answer left_run p' instruction.edges results rest (Results bits))
              → right_machine.next c ≡ function_goes ssa unknowns c (slice_get (edges_of (inst_at f i).shape) 0) (takes (edges_of (inst_at f i).shape) (Results bits))
              → (ahead : List Item) → (left_machine.next a).state.control ≡ At ahead → Comes (left_machine.next a) c
          returns bits [] none left_next right_next ahead on =
              gives_results a' c' b B k path place_is entries place instruction results rest i left called a c bits p'.memory
              (left_next
              ∙ ap (λ (edges : List (Edge Name Name)).
              script_goes calls ssa unknowns a (slice_get edges 0) (script.take_answer left_run p' edges results rest (Results bits))) none)
              (right_next
              ∙ ap (λ (edges : List (Edge ℕ ℕ)). function_goes ssa unknowns c (slice_get edges 0) (takes edges (Results bits)))
              (none_passed (carries.own.passed i) 0 (edges_of (inst_at f i).shape) (edges_are ∙ ap (map (answered_edge calls)) none))
              ∙ ap (λ (memory : Memory). function_goes ssa unknowns c None
              (function_machine_of.give_results (record q' { memory = memory }) (placed_inst f i).results (map (placed_inst f) left) bits)) (sym memory_is))
          returns bits (normal ∷ edges) some left_next right_next ahead on =
              let first = some_passed (carries.own.passed i) 0 (edges_of (inst_at f i).shape) _ _ (edges_are ∙ ap (map (answered_edge calls)) some) in
              along_edge 0 bits
              (left_next
              ∙ ap (script_goes calls ssa unknowns a (slice_get instruction.edges 0))
              (ap (λ (es : List (Edge Name Name)). script.take_answer left_run p' es results rest (Results bits)) some
              ∙ sym (ap (λ (es : List (Edge Name Name)). script.follow_edge left_run p' bits (slice_get es 0)) some)))
              (right_next
              ∙ ap (function_goes ssa unknowns c (slice_get (edges_of (inst_at f i).shape) 0))
              (ap (λ (es : List (Edge ℕ ℕ)). takes es (Results bits)) first.2
              ∙ sym (ap (λ (es : List (Edge ℕ ℕ)). function_machine_of.follow_edge right_run q' bits (slice_get es 0)) first.2)))
              ahead on

          after_answer : (answer : Answer)
              → left_machine.next a ≡ script_goes calls ssa unknowns a (taken_by instruction.edges answer) (script.take_answer left_run p' instruction.edges results rest answer)
              → right_machine.next c ≡ function_goes ssa unknowns c (taken_by (edges_of (inst_at f i).shape) answer) (takes (edges_of (inst_at f i).shape) answer)
              → (ahead : List Item) → (left_machine.next a).state.control ≡ At ahead → Comes (left_machine.next a) c
          after_answer (Results bits) left_next right_next ahead on = returns bits instruction.edges refl left_next right_next ahead on
          after_answer (Exception item payload) left_next right_next ahead on =
              along_edge (suc item) payload
              (left_next ∙ ap (script_goes calls ssa unknowns a (slice_get instruction.edges (suc item))) (script_along left_run p' instruction.edges results rest item payload))
              (right_next
              ∙ ap (function_goes ssa unknowns c (slice_get (edges_of (inst_at f i).shape) (suc item)))
              (function_along right_run q' (edges_of (inst_at f i).shape) (placed_inst f i).results (map (placed_inst f) left) item payload))
              ahead on

          call_step : left_machine.next a ≡ script_goes calls ssa unknowns a (taken_by instruction.edges (world.answer p'.events call)) (script.answer_call left_run p' call instruction.edges results rest)
              → right_machine.next c
              ≡ function_goes ssa unknowns c (taken_by (edges_of (inst_at f i).shape) (world.answer q'.events call))
              (function_machine_of.answer_call right_run q' call (placed_inst f i) (map (placed_inst f) left))
              → (ahead : List Item) → (left_machine.next a).state.control ≡ At ahead → Comes (left_machine.next a) c
          call_step left_next right_next ahead on =
              after_answer (world.answer p'.events call) left_next
              (right_next
              ∙ ap (λ (events : List Event). function_goes ssa unknowns c (taken_by (edges_of (inst_at f i).shape) (world.answer events call))
              (takes (edges_of (inst_at f i).shape) (world.answer events call))) (sym events_are))
              ahead on

      -- Whatever an instruction does, if the run goes on ----------------------------------------------------------------------

      module _ (place : ℕ) (instruction : Instruction Name Name) (results : List Name) (rest : List Item) (i : ℕ) (left : List ℕ)
          (r : Stands b B k (Instruct place instruction results ∷ rest) (i ∷ left) path a.state c.state)
        where
          -- where nothing is called, this is no call
          no_call : EachItem CallsNothing (program_so_far calls) → IsPlain (outcome a c b B k path place_is entries place instruction results rest i left r)
          unfolding outcome
          no_call nothing =
              outcome_plain world instruction.operation (item_plain calls B (nothing B) k place instruction results (stands a c b B k path place_is entries place instruction results rest i left r)) instruction.controlling
              (map left_run.name_type instruction.operands) (map a.state.names instruction.operands) a.state.memory

          after_outcome : (o : Outcome) → (EachItem CallsNothing (program_so_far calls) → IsPlain o)
              → left_machine.next a ≡ script_goes calls ssa unknowns a (taken_of (script_answer left_run a.state) instruction.edges o) (script.carry_out left_run a.state instruction.edges results rest o)
              → right_machine.next c
              ≡ function_goes ssa unknowns c (taken_of (function_answer right_run c.state (placed_inst f i)) (placed_inst f i).instruction.edges o)
              (function_machine_of.carry_out right_run c.state (placed_inst f i) (map (placed_inst f) left) o)
              → (ahead : List Item) → (left_machine.next a).state.control ≡ At ahead → Comes (left_machine.next a) c
          after_outcome (Gives bits memory) plain left_next right_next ahead on = gives_results a c b B k path place_is entries place instruction results rest i left r a c bits memory left_next right_next
          after_outcome (Goes n given memory) plain left_next right_next ahead on =
              goes a c b B k path place_is entries place instruction results rest i left r a c n given memory (slice_get instruction.edges n) refl left_next right_next ahead on
          after_outcome (Returns bits) plain left_next right_next ahead on =
              absurd (other (sym (ap (λ (x : ScriptStanding). x.state.control) left_next) ∙ on))
            where
              other : ◌≡◌ {A = Control Item} (HasReturned bits) (At ahead) → ⊥
              other h = cc
          after_outcome (Traps reason) plain left_next right_next ahead on =
              absurd (other (sym (ap (λ (x : ScriptStanding). x.state.control) left_next) ∙ on))
            where
              other : ◌≡◌ {A = Control Item} (HasTrapped reason) (At ahead) → ⊥
              other h = cc
          after_outcome (Calls callee call arguments) plain left_next right_next ahead on = by keeps
            where
              by : CallsKeep coming calls f ssa consistent carries world tracked collector labels → Comes (left_machine.next a) c
              by (inl none) = absurd (plain none)
              by (inr keep) = call_step place instruction results rest i left r keep callee call arguments left_next right_next ahead on
          after_outcome NoStep plain left_next right_next ahead on = absurd (stuck_not_on ahead (sym (ap (λ (x : ScriptStanding). x.state.control) left_next) ∙ on))

          instruct_step : (ahead : List Item) → (left_machine.next a).state.control ≡ At ahead → Comes (left_machine.next a) c
          instruct_step = after_outcome (outcome a c b B k path place_is entries place instruction results rest i left r) no_call (left_goes a c b B k path place_is entries place instruction results rest i left r) (right_goes a c b B k path place_is entries place instruction results rest i left r)

      running_step : (rest : List Item) (left : List ℕ) → Stands b B k rest left path a.state c.state
          → (ahead : List Item) → (left_machine.next a).state.control ≡ At ahead → Comes (left_machine.next a) c
      running_step [] [] r ahead on =
          ComingStep.arrives coming arrivals calls f ssa consistent carries width world tracked collector labels unknowns entry entry_name may arrive a c b B k path place_is entries r ahead (arrivals a.entries) refl on
      running_step [] (i ∷ left) r ahead on = absurd (none (own_placed carries.own f i) (map (own_placed carries.own f) left) (sym r.left_is))
        where
          none : (x : Placed) (xs : List Placed) → [] ≡ (x ∷ xs) → ⊥
          none x xs h = cc
      running_step (Use x used ∷ rest) left r ahead on = use_step a c b B k path place_is entries x used rest left r
      running_step (Assign x from ∷ rest) left r ahead on = assign_step a c b B k path place_is entries x from rest left r
      running_step (Instruct place instruction results ∷ rest) (i ∷ left) r ahead on = instruct_step place instruction results rest i left r ahead on
      running_step (Instruct place instruction results ∷ rest) [] r ahead on = absurd (none (placed_item calls instruction results) (flat_map (carried calls) rest) r.left_is)
        where
          none : (x : Placed) (xs : List Placed) → [] ≡ (x ∷ xs) → ⊥
          none x xs h = cc

    -- one step of a run that goes on
    pub step : (a : ScriptStanding) (c : FunctionStanding) → Runs a c → (ahead : List Item) → (left_machine.next a).state.control ≡ At ahead → Comes (left_machine.next a) c
    step a c r ahead on = running_step a c r.block r.name r.index r.path r.place r.entries r.rest r.left r.is_at ahead on
