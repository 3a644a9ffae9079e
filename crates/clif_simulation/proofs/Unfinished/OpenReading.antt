-- An unfinished function that carries a list of calls reads right beside interrupted runs, with any branches.
use Rattle.std.proofs.Common.{◌≡◌, ℕ, zero, suc, ◌+◌, ◌≤◌, inl, Bool, List, [], ◌∷◌, ◌++◌, map, length, drop, flat_map, slice_get, Option, Some, None, refl, sym, ◌∙◌, ap, ap₂, subst, subst₂, append_assoc, arith}
use Rattle.std.proofs.lemmas.List.{map-append}
use Rattle.clif_types.specs.Signature.{SignatureShape}
use Rattle.clif_types.specs.declared.target.PointerWidth.{PointerWidth}
use Rattle.clif_ir.specs.Body.{Body, resolved}
use Rattle.clif_ir.specs.Consistent.{IsConsistent}
use Rattle.clif_instructions.specs.declared.block_call.BlockArg.{BlockArg}
use Rattle.clif_paths.specs.Places as paths
use Rattle.clif_paths.specs.Places.{start, inside, Path, Follows}
use Rattle.clif_paths.specs.State.{Program, Function}
use Rattle.clif_paths.specs.Denotation.{variable}
use Rattle.clif_paths.specs.Blocks.{Blocks}
use Rattle.clif_paths.specs.Sound.{Holds}
use Rattle.clif_paths.proofs.BlockTables.{recorded_at-last}
use Rattle.clif_ssa.specs.Ssa.{SsaState, record_of, sealed_of}
use Rattle.clif_records.specs.Tables.{is_yes, pending_of}
use Rattle.clif_ssa.specs.Sound.{entry_of}
use Rattle.clif_tables.specs.Callees.{types_of}
use Rattle.clif_types.specs.declared.trapcode.TrapCode.{TrapCode}
use Rattle.clif_meaning.specs.Bits.{Bits}
use Rattle.clif_meaning.specs.Name.{Name, same_name}
use Rattle.clif_meaning.specs.Request.{AnsweredCall, script_of}
use Rattle.clif_meaning.specs.Instruction.{Edge, Instruction}
use Rattle.clif_meaning.specs.Program.{Item, Instruct, Use, Assign}
use Rattle.clif_meaning.specs.World.{World}
use Rattle.clif_meaning.specs.Store.{assigned}
use Rattle.clif_meaning.specs.Machine.{Machine, Control, At, HasReturned, HasTrapped, IsStuck, Observation, state_after}
use Rattle.clif_meaning.specs.ScriptMachine as script
use Rattle.clif_meaning.specs.ScriptMachine.{ScriptRun, ScriptState}
use Rattle.clif_meaning.specs.FunctionMachine as function_machine_of
use Rattle.clif_meaning.specs.FunctionMachine.{Collector, FunctionRun, FunctionState, same_value}
use Rattle.clif_meaning.specs.FunctionView.{Placed}
use Rattle.clif_meaning.specs.View.{items_of, view_of}
use Rattle.clif_meaning.specs.Path.{Place}
use Rattle.clif_meaning.specs.WellPlaced.{IsGivenBefore}
use Rattle.clif_meaning.specs.Headline.{IsWorldOf}
use Rattle.clif_meaning.proofs.Stuttering.{steps_from, state_after-+}
use Rattle.clif_simulation.specs.Tables.{code, answered, program_so_far, block_name}
use Rattle.clif_simulation.specs.Carries.{as_passed, carried, own_placed, Carries}
use Rattle.clif_simulation.specs.Reading.{behind, function_run_so_far, IsAtEnd, script_run_so_far, WellTypedSoFar}
use Rattle.clif_simulation.specs.Interrupted.{Unknowns, ScriptStanding, FunctionStanding, script_edge, script_goes, script_enters, function_enters, variables_entering, values_entering, without_arguments, StandsBefore, StandsBesideIn, HasBesideIn, AreOpen, ReadsRightWhere, RunsBeside}
use Rattle.clif_simulation.specs.Coming.{Arrival, Arrivals, Coming, MayCome, ReadsRightComing, RunsBesideArriving, arrival_at, code_coming, script_comes}
use Rattle.clif_simulation.proofs.Unfinished.ComingCode.{given_so_far, may_nothing, nothing_comes}
use Rattle.clif_meaning.specs.Ledger.{ledger_after}
use Rattle.clif_simulation.proofs.Finished.Agreement.{Agrees, NothingIsZero, ZerosAreZero, given_agrees, given_nothing, name_bits, unlabelled_variable, zeros_agree}
use Rattle.clif_simulation.proofs.Labelling.Labelled.{labelled, labelled_value}
use Rattle.clif_simulation.proofs.Unfinished.Counted.{gives_results, terminator_gives_none}
use Rattle.clif_simulation.proofs.Finished.Entry.{begins as starts_first, resolved_twice}
use Rattle.clif_simulation.proofs.Finished.Fronts.{HasFront, has_front, placed_inst}
use Rattle.clif_simulation.proofs.Finished.IntoBlock
use Rattle.clif_simulation.proofs.Listed.{place_within}
use Rattle.clif_simulation.proofs.Finished.Matching.{item_here, nothing_behind, rest_behind}
use Rattle.clif_simulation.proofs.Unfinished.OpenArms
use Rattle.clif_simulation.proofs.Labelling.Labels.{Labels}
use Rattle.clif_simulation.proofs.Unfinished.OpenCalls.{ArrivalsKeep, CallsKeep, calls_keep}
use Rattle.clif_simulation.proofs.Unfinished.OpenEdges
use Rattle.clif_simulation.proofs.Unfinished.OpenFlow
use Rattle.clif_simulation.proofs.Unfinished.OpenStanding
use Rattle.clif_simulation.proofs.Unfinished.OpenStanding.{IsAt, Running, Gets}
use Rattle.clif_simulation.proofs.Unfinished.OpenStepping
use Rattle.clif_simulation.proofs.Finished.Starting.{arguments_count}
use Rattle.clif_simulation.proofs.Finished.Straight.{first_arm, next_arm}
use Rattle.clif_simulation.proofs.Finished.TwoParts.{nothing_assigned}
use Rattle.clif_simulation.proofs.Whole.{Whole, whole}

abbrev returned : List Bits → Control Item
returned bits = HasReturned bits

abbrev trapped : TrapCode → Control Item
trapped reason = HasTrapped reason

abbrev stuck : Control Item
stuck = IsStuck

-- Instructions, but for what their edges pass ---------------------------------------------------------------------------

abbrev bare : Edge ℕ ℕ → Edge ℕ ℕ
bare edge = record edge { arguments = [] }

bare_passed : (passed : ℕ → List BlockArg) (n : ℕ) (edges : List (Edge ℕ ℕ)) → map bare (as_passed passed n edges) ≡ map bare edges
bare_passed passed n [] = refl
bare_passed passed n (edge ∷ edges) = ap (λ (rest : List (Edge ℕ ℕ)). bare edge ∷ rest) (bare_passed passed (suc n) edges)

module _ (calls : List AnsweredCall) (f : Body) (ssa : SsaState) (consistent : IsConsistent f) (carries : Whole calls f ssa) where
  own_without : (i : ℕ) → without_arguments (own_placed carries.own f i) ≡ without_arguments (placed_inst f i)
  own_without i =
      ap (λ (edges : List (Edge ℕ ℕ)). record (placed_inst f i) { instruction = record (placed_inst f i).instruction { edges = edges } })
      (bare_passed (carries.own.passed i) 0 (placed_inst f i).instruction.edges)

  all_without : (left : List ℕ) → map without_arguments (map (placed_inst f) left) ≡ map without_arguments (map (own_placed carries.own f) left)
  all_without [] = refl
  all_without (i ∷ left) = ap₂ (λ (p : Placed) (ps : List Placed). p ∷ ps) (sym (own_without i)) (all_without left)

  drop_first : (xs ys : List Placed) → drop (length xs) (xs ++ ys) ≡ ys
  drop_first [] ys = refl
  drop_first (x ∷ xs) ys = drop_first xs ys

  -- what is left of a block's own instructions is an end of the block
  module _ (b : ℕ) (front left : List ℕ) (own_is : carries.own.insts b ≡ front ++ left) where
    abbrev has : HasFront f carries.tables b (carries.own.insts b)
    has = has_front f consistent carries.tables b (carries.own.insts b) (carries.describes.instructions b) (carries.own_inserted b)

    abbrev before : List Placed
    before = map (placed_inst f) has.zeros ++ map (placed_inst f) front

    behind_is : drop (length before) (items_of f b) ≡ map (placed_inst f) left
    behind_is =
        ap (drop (length before))
        (has.in_order ∙ ap (λ (own : List ℕ). map (placed_inst f) has.zeros ++ map (placed_inst f) own) own_is
        ∙ ap (λ (ps : List Placed). map (placed_inst f) has.zeros ++ ps) (map-append (placed_inst f) front left)
        ∙ sym (append_assoc (map (placed_inst f) has.zeros) (map (placed_inst f) front) (map (placed_inst f) left)))
        ∙ drop_first before (map (placed_inst f) left)

    pub stands_before : (items : List Item) (control : Control Placed) → map (own_placed carries.own f) left ≡ flat_map (carried calls) items
        → control ≡ At (map (placed_inst f) left) → StandsBefore calls f b items control
    stands_before items control left_is at = record {
      index = length before;
      at = at ∙ ap (λ (rest : List Placed). At rest) (sym behind_is);
      instructions = ap (map without_arguments) behind_is ∙ all_without left ∙ ap (map without_arguments) left_is;
    }

module _ (coming : Coming) (arrivals : Arrivals) (calls : List AnsweredCall) (signature : SignatureShape) (f : Body) (ssa : SsaState) (consistent : IsConsistent f) (carries : Whole calls f ssa)
    (width : PointerWidth) (world : World) (tracked : Name → Bool) (collector : Collector)
    (labels : Labels (OpenEdges.program calls f ssa consistent carries) (OpenEdges.function calls f ssa consistent carries))
    (growing : Name → Bool) (are_open : AreOpen calls f ssa growing) (fits : IsWorldOf signature (view_of f) width world) (typed : WellTypedSoFar growing (ledger_after (script_of calls)) (program_so_far calls) signature) (may : MayCome coming calls ssa)
    (keeps : CallsKeep coming calls f ssa consistent carries world tracked collector labels)
    (arrive : ArrivalsKeep coming calls f ssa consistent carries world tracked collector labels arrivals)
    (entry : ℕ) (entry_name : Name) (entry_named : block_name calls entry ≡ Some entry_name) (is_entry : (program_so_far calls).entry ≡ Some entry_name)
    (unknowns : Unknowns)
  where
    abbrev left_run : ScriptRun
    left_run = OpenStanding.left_run coming arrivals calls f ssa consistent carries width world tracked collector labels unknowns entry entry_name

    abbrev right_run : FunctionRun
    right_run = OpenStanding.right_run coming arrivals calls f ssa consistent carries width world tracked collector labels unknowns entry entry_name

    abbrev left_machine : Machine ScriptStanding Observation
    left_machine = OpenStanding.left_machine coming arrivals calls f ssa consistent carries width world tracked collector labels unknowns entry entry_name

    abbrev right_machine : Machine FunctionStanding Observation
    right_machine = OpenStanding.right_machine coming arrivals calls f ssa consistent carries width world tracked collector labels unknowns entry entry_name

    abbrev Stands : ℕ → Name → ℕ → List Item → List ℕ → Path → ScriptState → FunctionState → Type 0
    Stands = IsAt coming arrivals calls f ssa consistent carries width world tracked collector labels unknowns entry entry_name

    abbrev Runs : ScriptStanding → FunctionStanding → Type 0
    Runs = Running coming arrivals calls f ssa consistent carries width world tracked collector labels unknowns entry entry_name

    abbrev Comes : ScriptStanding → FunctionStanding → Type 0
    Comes = Gets coming arrivals calls f ssa consistent carries width world tracked collector labels unknowns entry entry_name

    abbrev tables : Blocks
    tables = carries.tables

    abbrev program : Program
    program = OpenEdges.program calls f ssa consistent carries

    abbrev function : Function
    function = OpenEdges.function calls f ssa consistent carries

    abbrev live : ℕ → Type 0
    live = OpenEdges.live calls f ssa consistent carries

    abbrev items : Name → List Item
    items = (program_so_far calls).items

    -- What both have in common at a place ---------------------------------------------------------------------------------

    is_live : (v : ℕ) → live (function.resolve v)
    is_live v =
        carries.describes.resolves (function.resolve v) ∙ ap (resolved f) (carries.describes.resolves v)
        ∙ resolved_twice f v consistent ∙ sym (carries.describes.resolves v)

    module _ (b : ℕ) (B : Name) (k : ℕ) (rest : List Item) (left : List ℕ) (path : Path) (p : ScriptState) (q : FunctionState) (r : Stands b B k rest left path p q) where
      -- a name that was given has its value's bits
      given_bits : (x : Name) → IsGivenBefore (code_coming coming calls) x (behind B k) → p.names x ≡ q.values (resolved f (answered calls x))
      given_bits x given =
          let on = OpenFlow.given_before coming calls f ssa consistent carries path b k B r.follows r.ends r.named x given in
          let holds = OpenFlow.name_holds coming calls f ssa consistent carries may.given_before x (inside b k) on.given
          (λ way follows ends. OpenFlow.given_before coming calls f ssa consistent carries way b k B follows ends r.named x given) in
          let v : ℕ = tables.answer (code x) in
          name_bits live program function labels path p.variables p.names q.values r.agrees r.zeros.held x (function.resolve v) (is_live v)
          (labelled_value calls f ssa consistent carries labels x on.given) (sym (holds.agrees path r.follows r.ends))
          ∙ ap q.values (carries.describes.resolves v ∙ ap (resolved f) on.answer)

      -- where a path stands at the block's end so far, each record has its variable's bits
      recorded_bits : (way : Path) (j : ℕ) → Follows (OpenFlow.edges coming calls f ssa consistent carries) way → paths.end_of way ≡ inside b j → j ≡ length (items B)
          → Agrees live program function labels way p.variables p.names q.values → NothingIsZero program way p.variables p.names
          → (x v : ℕ) → record_of ssa x b ≡ Some v → p.variables x ≡ q.values (resolved f v)
      recorded_bits way j follows ends at_end agrees held x v is =
          let last : tables.count b ≡ j = carries.program.counts b B r.named ∙ sym at_end in
          let holds : Holds (OpenFlow.edges coming calls f ssa consistent carries) program function v (variable x) (inside b j) =
          subst (λ (c : ℕ). Holds (OpenFlow.edges coming calls f ssa consistent carries) program function v (variable x) (inside b c)) last
          ((OpenFlow.under coming calls f ssa consistent carries may.given_before).records (inside b (tables.count b)) x v
          (recorded_at-last tables.count tables.recorded b x ∙ carries.describes.recorded b x ∙ is)) in
          unlabelled_variable live program function labels way p.variables p.names q.values agrees held x (function.resolve v) (is_live v) (sym (holds.agrees way follows ends)) ∙ ap q.values (carries.describes.resolves v)

      -- before the instruction that ends the block, too: it gives nothing and assigns nothing
      before_end : (place : ℕ) (instruction : Instruction Name Name) (results : List Name) (stands : slice_get (items B) k ≡ Some (Instruct place instruction results)) → results ≡ []
          → Agrees live program function labels (next_arm b k ∷ path) p.variables p.names q.values × NothingIsZero program (next_arm b k ∷ path) p.variables p.names
      before_end place instruction results stands none =
          let gives = OpenStepping.gives_there coming arrivals calls f ssa consistent carries width world tracked collector labels unknowns entry entry_name growing are_open signature may typed keeps arrive
          b B r.named k place instruction results stands path in (
            subst₂ (λ (names : Name → ℕ) (values : ℕ → ℕ). Agrees live program function labels (next_arm b k ∷ path) p.variables names values)
                (nothing_assigned same_name results p.names) (nothing_assigned same_value (map (answered calls) results) q.values)
                (given_agrees live program function labels (next_arm b k) path results (answered calls) gives p.variables p.names q.values r.agrees []),
            subst (λ (names : Name → ℕ). NothingIsZero program (next_arm b k ∷ path) p.variables names) (nothing_assigned same_name results p.names)
                (given_nothing live program function labels (next_arm b k) path results (answered calls) gives p.variables p.names q.values r.agrees [] r.zeros.held),
          )

      records_alike : (ahead : List Item) → drop k (items B) ≡ ahead → IsAtEnd ahead → (x v : ℕ) → record_of ssa x b ≡ Some v → p.variables x ≡ q.values (resolved f v)
      records_alike [] here at_end =
          let past : length (items B) ≤ k = nothing_behind (items B) k here in
          let within : k ≤ length (items B) = r.within in
          recorded_bits path k r.follows r.ends (omega (arith, past, within)) r.agrees r.zeros.held
      records_alike (Instruct place instruction results ∷ ahead) here at_end =
          let stands : slice_get (items B) k ≡ Some (Instruct place instruction results) = item_here (items B) k (Instruct place instruction results) ahead here in
          let last : length (items B) ≤ suc k = nothing_behind (items B) (suc k) (rest_behind (items B) k (Instruct place instruction results) ahead here ∙ at_end.1) in
          let none : results ≡ [] = gives_results (script_of calls) B k (Instruct place instruction results) stands ∙ terminator_gives_none place instruction at_end.0 in
          recorded_bits (next_arm b k ∷ path) (suc k)
          (OpenStepping.goes_on coming arrivals calls f ssa consistent carries width world tracked collector labels unknowns entry entry_name growing are_open signature may typed keeps arrive
          b B r.named k path (Instruct place instruction results) stands r.follows r.ends)
          refl (omega (arith, last, place_within (items B) k (Instruct place instruction results) stands)) (before_end place instruction results stands none).0 (before_end place instruction results stands none).1
      records_alike (Use y used ∷ ahead) here at_end = absurd at_end
      records_alike (Assign y from ∷ ahead) here at_end = absurd at_end

      pub stand_beside : StandsBesideIn (code_coming coming calls) calls f ssa b B k p q
      stand_beside = record {
        script_at = r.script_at ∙ ap (λ (ahead : List Item). At ahead) (sym r.rest_is);
        function_at = stands_before calls f ssa consistent carries b r.front left r.own_is (drop k (items B)) q.control
            (r.left_is ∙ ap (flat_map (carried calls)) (sym r.rest_is)) r.function_at;
        same_memory = r.same_memory;
        same_events = r.same_events;
        names = given_bits;
        records = records_alike (drop k (items B)) refl;
      }

    has_beside : (a : ScriptStanding) (steps : ℕ) → Runs a (state_after right_machine steps) → HasBesideIn (code_coming coming calls) calls f ssa a right_machine
    has_beside a steps r = record {
      block = r.block;
      named = r.is_at.named ∙ ap (λ (place : Place Name). Some place.block) (sym r.place);
      steps = steps;
      entries = r.entries;
      beside = subst (λ (place : Place Name). StandsBesideIn (code_coming coming calls) calls f ssa r.block place.block place.index a.state (state_after right_machine steps).state) (sym r.place)
          (stand_beside r.block r.name r.index r.rest r.left r.path a.state (state_after right_machine steps).state r.is_at);
    }

    -- At the entry --------------------------------------------------------------------------------------------------------

    found : entry_of f ≡ Some entry
    found =
        let there = carries.entry.some entry_name is_entry in
        there.1 ∙ ap (λ (c : ℕ). Some c) (carries.program.distinct there.0 entry entry_name there.2 entry_named)

    as_many : length world.arguments ≡ length ((program_so_far calls).parameters entry_name)
    as_many = arguments_count calls entry_name (types_of signature.params) world is_entry typed.entry fits.arguments

    abbrev p0 : ScriptState
    p0 = script.enter_block left_run (script.blank_state left_run) entry_name world.arguments

    abbrev q0 : FunctionState
    q0 = function_machine_of.enter_block right_run (function_machine_of.blank_state right_run) entry world.arguments

    abbrev first : Path
    first = first_arm entry ∷ []

    -- all bits are zero at first
    blank_agrees : Agrees live program function labels [] (λ x. 0) (λ n. 0) (λ w. 0)
    blank_agrees = zeros_agree live program function labels [] (λ x. 0) (λ n. 0) (λ w. 0) (λ x. refl) (λ n. refl) (λ w. refl)

    blank_zeros : ZerosAreZero program function [] (λ x. 0) (λ n. 0) (λ w. 0)
    blank_zeros = record { held = record { of_variable = λ x is. refl; of_name = λ n is. refl }; of_value = λ w blank. refl }

    -- the entry's parameters that the caller made have the world's arguments
    callers_alone : (w : ℕ) → q0.values w ≡ assigned same_value (map (answered calls) ((program_so_far calls).parameters entry_name)) world.arguments (λ v. 0) w
    callers_alone w = IntoBlock.callers_alone calls f ssa consistent carries entry entry_name entry_named world.arguments (λ v. 0) w as_many

    abbrev Begins : (ℕ → ℕ) → (ℕ → ℕ) → Type 0
    Begins variables values = Agrees live program function labels first variables p0.names values × ZerosAreZero program function first variables p0.names values

    begins : Begins (variables_entering (is_yes (sealed_of ssa entry)) (unknowns 0) p0.variables) (values_entering (pending_of (sealed_of ssa entry)) (unknowns 0) q0.values)
    begins =
        OpenEdges.enters calls f ssa consistent carries entry entry_name entry_named labels start 0 [] (λ w. 0) (unknowns 0) (λ x. 0) (λ n. 0) blank_agrees blank_zeros
        world.arguments q0.values (λ is w other. callers_alone w)
        (λ is. (
          λ w. 0,
          OpenEdges.enters_blank calls f ssa consistent carries entry entry_name entry_named start 0 (starts_first f.layout entry found) is,
          inl as_many,
          callers_alone,
        ))

    starts : Comes left_machine.start right_machine.start
    starts =
        subst₂ (λ (p : ScriptState) (q : FunctionState).
        Comes (script_enters ssa unknowns entry entry_name 0 p) (function_enters ssa unknowns entry 0 q))
        (sym (ap (script.start_at left_run) is_entry)) (sym (ap (function_machine_of.start_at right_run) found))
        (OpenStanding.arrives coming arrivals calls f ssa consistent carries width world tracked collector labels unknowns entry entry_name entry entry_name entry_named first
        (OpenArms.start_open (OpenFlow.more_coming calls tables coming) carries.own f ssa tables carries.describes entry found, refl, tt) refl 0 p0 q0 refl refl refl refl begins.0 begins.1)

    -- After each step -----------------------------------------------------------------------------------------------------

    -- where a run has ended, it stays
    stays : (a : ScriptStanding) (c : Control Item) → a.state.control ≡ c → ((o : Option Arrival) → arrival_at o c ≡ None)
        → left_machine.next a ≡ script_goes calls ssa unknowns a (script_edge left_run a.state c) (script.step_at left_run a.state c)
    stays a c is none =
        ap (λ (here : Control Item). script_comes coming calls left_run ssa unknowns a (arrival_at (arrivals a.entries) here)
        (script_goes calls ssa unknowns a (script_edge left_run a.state here) (script.step_at left_run a.state here))) is
        ∙ ap (λ (o : Option Arrival). script_comes coming calls left_run ssa unknowns a o
        (script_goes calls ssa unknowns a (script_edge left_run a.state c) (script.step_at left_run a.state c))) (none (arrivals a.entries))

    -- a run that goes on went on before
    went_on : (a : ScriptStanding) (c : Control Item) → a.state.control ≡ c → (rest : List Item) → (left_machine.next a).state.control ≡ At rest
        → (before : List Item) × (c ≡ At before)
    went_on a (At before) is rest on = (before, refl)
    went_on a (HasReturned bits) is rest on = absurd (other (sym is ∙ sym (ap (λ (x : ScriptStanding). x.state.control) (stays a (HasReturned bits) is none)) ∙ on))
      where
        none : (o : Option Arrival) → arrival_at o (returned bits) ≡ None
        none None = refl
        none (Some arrival) = refl

        other : returned bits ≡ At rest → ⊥
        other at = cc
    went_on a (HasTrapped reason) is rest on = absurd (other (sym is ∙ sym (ap (λ (x : ScriptStanding). x.state.control) (stays a (HasTrapped reason) is none)) ∙ on))
      where
        none : (o : Option Arrival) → arrival_at o (trapped reason) ≡ None
        none None = refl
        none (Some arrival) = refl

        other : trapped reason ≡ At rest → ⊥
        other at = cc
    went_on a IsStuck is rest on = absurd (other (sym is ∙ sym (ap (λ (x : ScriptStanding). x.state.control) (stays a IsStuck is none)) ∙ on))
      where
        none : (o : Option Arrival) → arrival_at o stuck ≡ None
        none None = refl
        none (Some arrival) = refl

        other : stuck ≡ At rest → ⊥
        other at = cc

    abbrev IsMet : ℕ → Type 0
    IsMet n = (steps : ℕ) × Runs (state_after left_machine n) (state_after right_machine steps)

    later : (a : ScriptStanding) (steps more : ℕ) → Runs a (steps_from right_machine more (state_after right_machine steps)) → (m : ℕ) × Runs a (state_after right_machine m)
    later a steps more runs = (steps + more, subst (Runs a) (state_after-+ right_machine steps more) runs)

    met : (n : ℕ) (rest : List Item) → (state_after left_machine n).state.control ≡ At rest → IsMet n
    met zero rest on = later left_machine.start 0 starts.0 starts.1
    met (suc n) rest on =
        let before = went_on (state_after left_machine n) (state_after left_machine n).state.control refl rest on in
        let now : IsMet n = met n before.0 before.1 in
        let more = OpenStepping.step coming arrivals calls f ssa consistent carries width world tracked collector labels unknowns entry entry_name growing are_open signature may typed keeps arrive
        (state_after left_machine n) (state_after right_machine now.0) now.1 rest on in
        later (state_after left_machine (suc n)) now.0 more.0 more.1

    pub beside : (n : ℕ) (rest : List Item) → (state_after left_machine n).state.control ≡ At rest → HasBesideIn (code_coming coming calls) calls f ssa (state_after left_machine n) right_machine
    beside n rest on = let now : IsMet n = met n rest on in has_beside (state_after left_machine n) now.0 now.1

pub reads_right_coming : (calls : List AnsweredCall) (signature : SignatureShape) (f : Body) (ssa : SsaState) (growing : Name → Bool)
    → IsConsistent f → Carries calls f ssa → AreOpen calls f ssa growing → ReadsRightComing growing calls signature f ssa
reads_right_coming calls signature f ssa growing consistent carries are_open width world tracked collector coming fits typed may free moves block name named is_entry arrivals branches unknowns =
    let both : Whole calls f ssa = whole calls f ssa consistent carries free in
    let moving = labelled calls f ssa consistent both tracked collector moves in
    beside coming arrivals calls signature f ssa consistent both width world tracked collector moving.0 growing are_open fits typed may
    (calls_keep coming calls f ssa consistent both world tracked collector moving.0 moving.1) (inl branches) block name named is_entry unknowns

-- what runs beside one along no such edges runs beside it in the code so far
pub beside_none : (calls : List AnsweredCall) (f : Body) (ssa : SsaState) (left : ScriptRun) (right : FunctionRun) (block : ℕ) (name : Name)
    → RunsBesideArriving nothing_comes (λ entries. None) calls f ssa left right block name → RunsBeside calls f ssa left right block name
beside_none calls f ssa left right block name runs unknowns n rest on =
    let found = runs unknowns n rest on in
    record {
      block = found.block;
      named = found.named;
      steps = found.steps;
      entries = found.entries;
      beside = record {
        script_at = found.beside.script_at;
        function_at = found.beside.function_at;
        same_memory = found.beside.same_memory;
        same_events = found.beside.same_events;
        names = λ x given. found.beside.names x (given_so_far calls x _ given);
        records = found.beside.records;
      };
    }

none_comes : (arrival : Arrival) → None ≡ Some arrival → arrival.call ≡ None
none_comes arrival is = cc

pub reads_right : (calls : List AnsweredCall) (signature : SignatureShape) (f : Body) (ssa : SsaState) (growing : Name → Bool)
    → IsConsistent f → Carries calls f ssa → AreOpen calls f ssa growing → ReadsRightWhere growing calls signature f ssa
reads_right calls signature f ssa growing consistent carries are_open width world tracked collector fits premises free moves block name named is_entry =
    beside_none calls f ssa (script_run_so_far calls f world tracked) (function_run_so_far calls f world collector) block name
    (reads_right_coming calls signature f ssa growing consistent carries are_open width world tracked collector nothing_comes fits premises.well_typed
    (may_nothing calls ssa premises.given_before) free moves block name named is_entry (λ entries. None) (λ entries. none_comes))
