-- One step of a run at a block's end so far: along an edge that may come, both enter its block and agree there.
use Rattle.std.proofs.Common.{◌≡◌, ℕ, suc, ◌≤◌, Bool, true, false, List, [], ◌∷◌, length, Option, Some, None, Contains, refl, sym, ◌∙◌, ap, subst, subst₂, arith}
use Rattle.std.specs.Prelude.{◌==◌, ◌&&◌, if◌then◌else◌}
use Rattle.std.specs.List.{list_any}
use Rattle.clif_types.specs.declared.target.PointerWidth.{PointerWidth}
use Rattle.clif_ir.specs.Body.{Body}
use Rattle.clif_ir.specs.Consistent.{IsConsistent}
use Rattle.clif_paths.specs.Places.{inside, Arm, Path, Follows}
use Rattle.clif_paths.specs.Blocks.{Blocks, front}
use Rattle.clif_paths.proofs.Tables.{number_equal}
use Rattle.clif_ssa.specs.Ssa.{SsaState, sealed_of}
use Rattle.clif_records.specs.Tables.{is_yes, pending_of}
use Rattle.clif_ssa.specs.Sound.{has_entry}
use Rattle.clif_meaning.specs.Name.{Name, same_name}
use Rattle.clif_meaning.specs.Request.{AnsweredCall}
use Rattle.clif_meaning.specs.Program.{Item}
use Rattle.clif_meaning.specs.World.{World}
use Rattle.clif_meaning.specs.Machine.{Machine, Control, At, IsStuck, Observation}
use Rattle.clif_meaning.specs.ScriptMachine as script
use Rattle.clif_meaning.specs.ScriptMachine.{ScriptRun, ScriptState}
use Rattle.clif_meaning.specs.FunctionMachine as function_machine_of
use Rattle.clif_meaning.specs.FunctionMachine.{Collector, FunctionRun, FunctionState}
use Rattle.clif_meaning.specs.FunctionView.{Placed}
use Rattle.clif_meaning.specs.Path.{Place}
use Rattle.clif_meaning.proofs.Stuttering.{steps_from}
use Rattle.clif_simulation.specs.Tables.{answered, program_so_far, block_name}
use Rattle.clif_simulation.specs.Reading.{behind}
use Rattle.clif_simulation.specs.Coming.{Arrival, Arrivals, Coming, MayCome, arrival_at, script_arrived, script_comes, script_moved, function_arrived, function_comes, function_moved}
use Rattle.clif_simulation.specs.Interrupted.{Unknowns, ScriptStanding, FunctionStanding, script_edge, script_goes, script_enters, function_edge, function_goes, function_enters, variables_entering, values_entering}
use Rattle.clif_simulation.proofs.Finished.Fronts.{steps_behind}
use Rattle.clif_simulation.proofs.Finished.Matching.{nothing_behind}
use Rattle.clif_simulation.proofs.Unfinished.OpenArms
use Rattle.clif_simulation.proofs.Labelling.Labels.{Labels}
use Rattle.clif_simulation.proofs.Unfinished.OpenCalls.{AgreeOn, ArrivalsKeep, arrival_keeps}
use Rattle.clif_simulation.proofs.Unfinished.OpenEdges
use Rattle.clif_simulation.proofs.Unfinished.OpenFlow
use Rattle.clif_simulation.proofs.Unfinished.OpenFlow.{listed_name, name_listed}
use Rattle.clif_simulation.proofs.Unfinished.OpenStanding
use Rattle.clif_simulation.proofs.Unfinished.OpenStanding.{IsAt, Running, Gets}
use Rattle.clif_simulation.proofs.Whole.{Whole}

not_both : {b : Bool} → b ≡ true → b ≡ false → ⊥
not_both is other = true_not_false (sym is ∙ other)
  where
    true_not_false : true ≡ false → ⊥
    true_not_false h = cc

stuck_not_on : (rest : List Item) → ◌≡◌ {A = Control Item} IsStuck (At rest) → ⊥
stuck_not_on rest h = cc

-- nothing is left of the block
abbrev nothing_left : Control Item
nothing_left = At []

abbrev no_instructions : Control Placed
no_instructions = At []

module _ (coming : Coming) (arrivals : Arrivals) (calls : List AnsweredCall) (f : Body) (ssa : SsaState) (consistent : IsConsistent f) (carries : Whole calls f ssa)
    (width : PointerWidth) (world : World) (tracked : Name → Bool) (collector : Collector)
    (labels : Labels (OpenEdges.program calls f ssa consistent carries) (OpenEdges.function calls f ssa consistent carries)) (unknowns : Unknowns) (entry : ℕ) (entry_name : Name)
    (may : MayCome coming calls ssa) (arrive : ArrivalsKeep coming calls f ssa consistent carries world tracked collector labels arrivals)
  where
    abbrev left_run : ScriptRun
    left_run = OpenStanding.left_run coming arrivals calls f ssa consistent carries width world tracked collector labels unknowns entry entry_name

    abbrev right_run : FunctionRun
    right_run = OpenStanding.right_run coming arrivals calls f ssa consistent carries width world tracked collector labels unknowns entry entry_name

    abbrev left_machine : Machine ScriptStanding Observation
    left_machine = OpenStanding.left_machine coming arrivals calls f ssa consistent carries width world tracked collector labels unknowns entry entry_name

    abbrev right_machine : Machine FunctionStanding Observation
    right_machine = OpenStanding.right_machine coming arrivals calls f ssa consistent carries width world tracked collector labels unknowns entry entry_name

    abbrev tables : Blocks
    tables = carries.tables

    abbrev items : Name → List Item
    items = (program_so_far calls).items

    abbrev Stands : ℕ → Name → ℕ → List Item → List ℕ → Path → ScriptState → FunctionState → Type 0
    Stands = IsAt coming arrivals calls f ssa consistent carries width world tracked collector labels unknowns entry entry_name

    abbrev Runs : ScriptStanding → FunctionStanding → Type 0
    Runs = Running coming arrivals calls f ssa consistent carries width world tracked collector labels unknowns entry entry_name

    abbrev Comes : ScriptStanding → FunctionStanding → Type 0
    Comes = Gets coming arrivals calls f ssa consistent carries width world tracked collector labels unknowns entry entry_name

    module _ (a : ScriptStanding) (c : FunctionStanding) (b : ℕ) (B : Name) (k : ℕ) (path : Path) (place_is : a.place ≡ behind B k) (entries : a.entries ≡ c.entries) where
      module _ (r : Stands b B k [] [] path a.state c.state) (arrival : Arrival) (listed : Contains (coming B) arrival.block) (is : arrivals a.entries ≡ Some arrival) where
        abbrev target : ℕ
        target = answered calls arrival.block

        target_named : block_name calls target ≡ Some arrival.block
        target_named = may.blocks B arrival.block listed

        unsealed : is_yes (sealed_of ssa target) ≡ false
        unsealed = may.unsealed B arrival.block listed

        abbrev along : Arm
        along = record { source = inside b k; target = front target; edge = 0 }

        at_end : k ≡ tables.count b
        at_end = let count = carries.program.counts b B r.named in let past : length (items B) ≤ k = nothing_behind (items B) k r.rest_is in let within = r.within in omega (arith, count, past, within)

        may_be : OpenFlow.more_coming calls tables coming target along ≡ true
        may_be =
            let last : (k == tables.count b) ≡ true = number_equal k (tables.count b) at_end in
            ap (OpenFlow.comes_into calls tables coming (inside b k)) target_named
            ∙ ap (λ (test : Bool). test && OpenFlow.comes_to coming arrival.block (block_name calls b)) last
            ∙ ap (OpenFlow.comes_to coming arrival.block) r.named ∙ name_listed arrival.block (coming B) listed

        follows : Follows (OpenFlow.edges coming calls f ssa consistent carries) (along ∷ path)
        follows = (
          OpenArms.more_open (OpenFlow.more_coming calls tables coming) carries.own f ssa tables carries.describes target along refl
              (carries.describes.sealed target ∙ ap (λ (t : Bool). t && has_entry f.layout) unsealed) may_be,
          sym r.ends,
          r.follows,
        )

        -- what an outside call moves has moved
        abbrev moved_p : ScriptState
        moved_p = script_moved left_run arrival.events arrival.call a.state

        abbrev moved_q : FunctionState
        moved_q = function_moved right_run arrival.events arrival.call c.state

        agree_moved : AgreeOn coming calls f ssa consistent carries world tracked collector labels path moved_p moved_q
        agree_moved =
            arrival_keeps coming calls f ssa consistent carries world tracked collector labels arrivals arrive a.entries arrival is path r.follows a.state c.state
            (record { agrees = r.agrees; zeros = r.zeros })

        abbrev p' : ScriptState
        p' = script_arrived calls left_run arrival a.state

        abbrev q' : FunctionState
        q' = function_arrived calls right_run arrival c.state

        agree : OpenEdges.Goes calls f ssa consistent carries target arrival.block target_named labels (inside b k) 0 path moved_q.values (unknowns a.entries) moved_p.variables moved_p.names agree_moved.agrees agree_moved.zeros arrival.parameters q'.values
            (variables_entering (is_yes (sealed_of ssa target)) (unknowns a.entries) p'.variables) (values_entering (pending_of (sealed_of ssa target)) (unknowns a.entries) q'.values)
        agree =
            OpenEdges.enters calls f ssa consistent carries target arrival.block target_named labels (inside b k) 0 path moved_q.values (unknowns a.entries) moved_p.variables moved_p.names agree_moved.agrees agree_moved.zeros arrival.parameters q'.values
            (λ is w other. refl) (λ is. absurd (not_both is unsealed))

        abbrev arrived : Comes (script_enters ssa unknowns target arrival.block a.entries p') (function_enters ssa unknowns target c.entries q')
        arrived =
            subst (λ (n : ℕ). Comes (script_enters ssa unknowns target arrival.block a.entries p') (function_enters ssa unknowns target n q')) entries
            (OpenStanding.arrives coming arrivals calls f ssa consistent carries width world tracked collector labels unknowns entry entry_name target arrival.block target_named (along ∷ path) follows refl a.entries p' q'
            refl refl refl refl agree.0 agree.1)

        comes : left_machine.next a ≡ script_enters ssa unknowns target arrival.block a.entries p'
            → right_machine.next c ≡ function_enters ssa unknowns target c.entries q' → Comes (left_machine.next a) c
        comes left_is right_is = (
          suc arrived.0,
          subst₂ (λ (x : ScriptStanding) (y : FunctionStanding). Runs x y) (sym left_is)
              (sym (steps_behind right_machine arrived.0 c ∙ ap (steps_from right_machine arrived.0) right_is)) arrived.1,
        )

      module _ (r : Stands b B k [] [] path a.state c.state) (ahead : List Item) where
        abbrev stuck : ScriptStanding
        stuck = script_goes calls ssa unknowns a None (record a.state { control = IsStuck })

        not_stuck : left_machine.next a ≡ stuck → (left_machine.next a).state.control ≡ At ahead → ⊥
        not_stuck is on = stuck_not_on ahead (sym (ap (λ (x : ScriptStanding). x.state.control) is) ∙ on)

        left_is : (o : Option Arrival) → arrivals a.entries ≡ o → left_machine.next a ≡ script_comes coming calls left_run ssa unknowns a (arrival_at o (nothing_left)) stuck
        left_is o is =
            ap (λ (here : Control Item). script_comes coming calls left_run ssa unknowns a (arrival_at (arrivals a.entries) here)
            (script_goes calls ssa unknowns a (script_edge left_run a.state here) (script.step_at left_run a.state here))) r.script_at
            ∙ ap (λ (found : Option Arrival). script_comes coming calls left_run ssa unknowns a (arrival_at found (nothing_left)) stuck) is

        right_is : (arrival : Arrival) → arrivals a.entries ≡ Some arrival
            → right_machine.next c ≡ function_enters ssa unknowns (answered calls arrival.block) c.entries (function_arrived calls right_run arrival c.state)
        right_is arrival is =
            ap (λ (here : Control Placed). function_comes calls right_run ssa unknowns c (arrival_at (arrivals c.entries) here)
            (function_goes ssa unknowns c (function_edge right_run c.state here) (function_machine_of.step_at right_run c.state here))) r.function_at
            ∙ ap (λ (found : Option Arrival). function_comes calls right_run ssa unknowns c (arrival_at found (no_instructions))
            (function_goes ssa unknowns c None (function_machine_of.step_at right_run c.state (At [])))) (ap arrivals (sym entries) ∙ is)

        pub arrives : (o : Option Arrival) → arrivals a.entries ≡ o → (left_machine.next a).state.control ≡ At ahead → Comes (left_machine.next a) c
        arrives None is on = absurd (not_stuck (left_is None is) on)
        arrives (Some arrival) is on = by (list_any (same_name arrival.block) (coming a.place.block)) refl
          where
            by : (test : Bool) → list_any (same_name arrival.block) (coming a.place.block) ≡ test → Comes (left_machine.next a) c
            by true found =
                let listed : Contains (coming B) arrival.block =
                listed_name arrival.block (coming B) (ap (λ (p : Place Name). list_any (same_name arrival.block) (coming p.block)) (sym place_is) ∙ found) in
                comes r arrival listed is
                (left_is (Some arrival) is
                ∙ ap (λ (test : Bool). if test then script_enters ssa unknowns (answered calls arrival.block) arrival.block a.entries (script_arrived calls left_run arrival a.state) else stuck) found)
                (right_is arrival is)
            by false other =
                absurd (not_stuck (left_is (Some arrival) is
                ∙ ap (λ (test : Bool). if test then script_enters ssa unknowns (answered calls arrival.block) arrival.block a.entries (script_arrived calls left_run arrival a.state) else stuck) other) on)
