-- Both machines of an unfinished function side by side in its entry: what each item keeps.
use Rattle.std.proofs.Common.{◌≡◌, ◌≢◌, ℕ, zero, suc, ◌<◌, ◌≤◌, nat_lt, Bool, true, false, List, [], ◌∷◌, length, map, drop, flat_map, slice_get, Some, ◌⊎◌, inl, inr, refl, sym, ◌∙◌, ap, subst, subst₂, arith}
use Rattle.std.proofs.lemmas.Bool.Decides.{nat_tests}
use Rattle.clif_types.specs.declared.target.PointerWidth.{PointerWidth}
use Rattle.clif_ir.specs.Body.{Body, resolved}
use Rattle.clif_ir.specs.Consistent.{IsConsistent}
use Rattle.clif_paths.specs.Places.{Place, start, inside, Edges, Follows, Visits}
use Rattle.clif_paths.specs.State.{Naming, Program, born, Definition, Function, home_of}
use Rattle.clif_paths.specs.Denotation.{variable, name, instances, denotes}
use Rattle.clif_paths.specs.Sound.{SoundUnder, Holds}
use Rattle.clif_paths.proofs.PathLemmas.{same_place-refl}
use Rattle.clif_paths.specs.Blocks.{Blocks, state_of}
use Rattle.clif_paths.proofs.BlockTables.{recorded_at-last}
use Rattle.clif_paths.proofs.Executing.{variable-kept, denotes-past}
use Rattle.clif_ssa.specs.Ssa.{SsaState, record_of}
use Rattle.clif_meaning.specs.Name.{Name, same_name}
use Rattle.clif_meaning.specs.Request.{AnsweredCall, script_of}
use Rattle.clif_meaning.specs.Instruction.{Instruction, Edge}
use Rattle.clif_meaning.specs.Program.{Item, Instruct, Use, Assign}
use Rattle.clif_tables.specs.Callees.{types_of}
use Rattle.clif_meaning.specs.Event.{Answer, CallShape, Callee, Event, Exception, IsAnswerTo, Results}
use Rattle.clif_meaning.specs.Premises.{EachItem}
use Rattle.clif_meaning.specs.World.{World}
use Rattle.clif_meaning.specs.Memory.{Memory}
use Rattle.clif_meaning.specs.Outcome.{Outcome, Gives, Goes, Returns, Traps, Calls, NoStep, outcome_of}
use Rattle.clif_meaning.specs.Machine.{At}
use Rattle.clif_meaning.specs.Store.{assigned}
use Rattle.clif_meaning.specs.ScriptMachine as script
use Rattle.clif_meaning.specs.ScriptMachine.{ScriptRun, ScriptState}
use Rattle.clif_meaning.specs.FunctionMachine as function_machine_of
use Rattle.clif_meaning.specs.FunctionMachine.{Collector, FunctionRun, FunctionState, same_value, value_bits}
use Rattle.clif_meaning.specs.FunctionView.{Placed}
use Rattle.clif_meaning.specs.WellPlaced.{program_code, IsWellPlaced}
use Rattle.clif_simulation.specs.Tables.{code, answered, program_so_far}
use Rattle.clif_simulation.specs.Carries.{CallsNothing, carried, answered_edge, answered_instruction}
use Rattle.clif_simulation.specs.Reading.{script_run_so_far, function_run_so_far}
use Rattle.clif_simulation.proofs.Unbranched.{CarriesUnbranched, PlainlyEarlier}
use Rattle.clif_simulation.proofs.Finished.Giving.{In, first_contained, in_contained, name_keeps, value_keeps, same_or_other}
use Rattle.clif_simulation.proofs.Finished.Agreement.{any_value, Agrees, AssignsThere, GivesThere, NothingIsZero, UsesThere, assigned_agrees, assigned_nothing, given_agrees, given_nothing, name_bits, unlabelled_variable, used_agrees, used_nothing}
use Rattle.clif_simulation.proofs.Finished.Straight.{next_arm, straight, straight_end, straight_follows, visits_so_far, absent_name, absent_value, same_step}
use Rattle.clif_simulation.proofs.Finished.OperandTypes.{OutcomesAlike}
use Rattle.clif_simulation.proofs.Finished.Matching.{item_here, rest_behind, same_bits, IsPlain, item_plain, outcome_plain, same_outcomes}
use Rattle.clif_simulation.proofs.Listed.{all_at, place_within}
use Rattle.clif_simulation.proofs.Unfinished.Ended.{with_ends_only, defined-end, is-end, denotes-end, name_stays, value_stays, visited_place}
use Rattle.clif_simulation.proofs.Unfinished.Opened.{Opens, opened}
use Rattle.clif_simulation.proofs.Unfinished.Opened
use Rattle.clif_simulation.proofs.Unfinished.Counted.{gives_results, as_many, as_many_values, call_count}
use Rattle.clif_simulation.proofs.Labelling.Labelled.{ends_labels, labelled_value}
use Rattle.clif_simulation.proofs.Labelling.Labels.{Labels}
use Rattle.clif_simulation.proofs.Labelling.Outside
use Rattle.clif_simulation.proofs.Unfinished.AlongCalls
use Rattle.clif_simulation.proofs.Unfinished.AlongCalls.{KeepAlong, MovesHere}
use Rattle.clif_simulation.proofs.Unfinished.ComingCode.{nothing_comes}
use Rattle.clif_simulation.proofs.Unfinished.OpenArms
use Rattle.clif_simulation.proofs.Unfinished.OpenFlow
use Rattle.clif_simulation.proofs.Finished.Entry
use Rattle.clif_simulation.proofs.Finished.ItemsAt

-- places that get bits, as many as places, have the same ones whatever they had before
same_given_places : {X : Type 0} (same : X → X → Bool) → ((a b : X) → (same a b ≡ true) ⊎ ((same a b ≡ false) × (a ≢ b)))
    → (places : List X) (bits : List ℕ) (old other : X → ℕ) (n : X) → length bits ≡ length places → In n places
    → assigned same places bits old n ≡ assigned same places bits other n
same_given_places same cases [] bits old other n as_many there = absurd there
same_given_places same cases (r ∷ places) [] old other n as_many there = absurd (omega (arith, as_many))
same_given_places {X} same cases (r ∷ places) (b ∷ bits) old other n as_many there =
    by (cases n r) there (λ later. same_given_places same cases places bits old other n (omega (arith, as_many)) later)
  where
    by : (same n r ≡ true) ⊎ ((same n r ≡ false) × (n ≢ r)) → (n ≡ r) ⊎ In n places
        → (In n places → assigned same places bits old n ≡ assigned same places bits other n)
        → assigned same (r ∷ places) (b ∷ bits) old n ≡ assigned same (r ∷ places) (b ∷ bits) other n
    by (inl one) there rest = rw one refl
    by (inr apart) (inl here) rest = absurd (apart.1 here)
    by (inr apart) (inr later) rest = rw (apart.0) (rest later)

-- where there are no places, no bits are put anywhere
none_assigned : {X : Type 0} (same : X → X → Bool) (places : List X) (bits : List ℕ) (old : X → ℕ) → places ≡ [] → assigned same places [] old ≡ assigned same places bits old
none_assigned same [] bits old none = refl
none_assigned same (place ∷ places) bits old none = cc

name_cases : (a b : Name) → (same_name a b ≡ true) ⊎ ((same_name a b ≡ false) × (a ≢ b))
name_cases a b = by (same_or_other a b)
  where
    by : ((same_name a b ≡ true) × (a ≡ b)) ⊎ ((same_name a b ≡ false) × (a ≢ b)) → (same_name a b ≡ true) ⊎ ((same_name a b ≡ false) × (a ≢ b))
    by (inl one) = inl one.0
    by (inr other) = inr other

value_cases : (a b : ℕ) → (same_value a b ≡ true) ⊎ ((same_value a b ≡ false) × (a ≢ b))
value_cases a b = grind (arith, nat_tests)

in_mapped : {X Y : Type 0} (g : X → Y) (xs : List X) (x : X) → In x xs → In (g x) (map g xs)
in_mapped g [] x there = absurd there
in_mapped g (y ∷ xs) x (inl here) = inl (ap g here)
in_mapped g (y ∷ xs) x (inr later) = inr (in_mapped g xs x later)

mapped_count : {X Y : Type 0} (g : X → Y) (xs : List X) → length (map g xs) ≡ length xs
mapped_count g [] = refl
mapped_count g (x ∷ xs) = ap suc (mapped_count g xs)

module _ (calls : List AnsweredCall) (f : Body) (ssa : SsaState) (consistent : IsConsistent f) (carries : CarriesUnbranched calls f ssa)
    (entry : Name) (is_entry : (program_so_far calls).entry ≡ Some entry) (placed : IsWellPlaced (program_code (program_so_far calls)))
    (sealed : ℕ → Bool) (joins : Edges) (opens : Opens carries.whole.tables (Entry.e calls f ssa carries entry is_entry) sealed joins)
    (width : PointerWidth) (world : World) (tracked : Name → Bool) (collector : Collector) (alike : OutcomesAlike calls f world)
    (moves : MovesHere calls f ssa consistent carries.whole world tracked collector)
  where
    abbrev pub left_run : ScriptRun
    left_run = script_run_so_far calls f world tracked

    abbrev pub right_run : FunctionRun
    right_run = function_run_so_far calls f world collector

    abbrev pub items : List Item
    items = Entry.items calls f ssa carries entry is_entry

    abbrev pub e : ℕ
    e = Entry.e calls f ssa carries entry is_entry

    abbrev pub tables : Blocks
    tables = carries.whole.tables

    abbrev pub program : Program
    program = (state_of tables).program

    -- the values that are no aliases
    abbrev pub function : Function
    function = with_ends_only tables.function

    -- by which names and values both runs move
    abbrev pub labels : Labels program function
    labels = ends_labels calls f ssa consistent carries.whole moves.0

    abbrev edges : Edges
    edges = Opened.edges calls f ssa carries entry is_entry placed sealed joins opens

    under : SoundUnder edges (state_of tables)
    under = carries.whole.sound.sound.under edges (Opened.allowed calls f ssa carries entry is_entry placed sealed joins opens)

    pub ends : (u : ℕ) → tables.function.resolve (tables.function.resolve u) ≡ tables.function.resolve u
    ends u =
        carries.whole.describes.resolves (tables.function.resolve u) ∙ ap (resolved f) (carries.whole.describes.resolves u)
        ∙ Entry.resolved_twice f u consistent ∙ sym (carries.whole.describes.resolves u)

    counted : tables.count e ≡ length items
    counted = Entry.counted calls f ssa carries entry is_entry

    -- Both stand behind so many items. `names` and `values` have the bits of what is given so far, and any others.
    pub record Alongside (k : ℕ) (p : ScriptState) (q : FunctionState) : Type 0 where
      pub within : k ≤ length items
      pub script_at : p.control ≡ At (drop k items)
      pub function_at : q.control ≡ At (flat_map (carried calls) (drop k items))
      pub same_memory : p.memory ≡ q.memory
      pub same_events : p.events ≡ q.events
      pub names : Name → ℕ
      pub values : ℕ → ℕ
      pub agrees : Agrees any_value program function labels (straight e k) p.variables names values
      pub held : NothingIsZero program (straight e k) p.variables names
      pub names_are : (x : Name) (i : ℕ) → i ≤ k → (tables.naming (code x)).home ≡ inside e i → names x ≡ p.names x
      pub values_are : (w i : ℕ) → i ≤ k → (function.definition w).home ≡ inside e i → values w ≡ q.values w

    follows : (k : ℕ) → k ≤ length items → Follows edges (straight e k)
    follows k within = straight_follows (opened tables sealed joins) e opens.only k (omega (arith, within, counted))

    no_start : (p : Place) (b k : ℕ) → p ≡ inside b k → p ≢ start
    no_start p b k at none = other (sym none ∙ at)
      where
        other : start ≡ inside b k → ⊥
        other h = cc

    -- What holds at a place of the entry's path: the value is defined at one before, and denotes what the holder does.
    record Found (v k : ℕ) : Type 0 where
      pub i : ℕ
      pub before : i ≤ k
      pub home : (function.definition (tables.function.resolve v)).home ≡ inside e i
      pub same : denotes program function (straight e k) (tables.function.resolve v) ≡ denotes program tables.function (straight e k) (tables.function.resolve v)

    found : (v k : ℕ) → k ≤ length items → Visits (home_of tables.function v) (straight e k) → Found v k
    found v k within visits =
        let at = visited_place e k (home_of tables.function v) visits in
        record {
          i = at.0;
          before = at.1;
          home = ap (λ (d : Definition). d.home) (defined-end tables.function (tables.function.resolve v) (ends v)) ∙ at.2;
          same = denotes-end tables.function program ends (straight e k) (tables.function.resolve v) (ends v);
        }

    -- a name that was given has its value's bits
    pub given_bits : (k : ℕ) (p : ScriptState) (q : FunctionState) → Alongside k p q → (x : Name) → Entry.IsEarlier calls f ssa carries entry is_entry k x
        → p.names x ≡ q.values (resolved f (answered calls x))
    given_bits k p q a x earlier =
        let i : ℕ = earlier.at in
        let before : i ≤ k = earlier.within in
        let home : (tables.naming (code x)).home ≡ inside e i = earlier.home in
        let v : ℕ = tables.answer (code x) in
        let u : ℕ = tables.function.resolve v in
        let holds : Holds edges program tables.function v (name (code x)) (tables.naming (code x)).home =
        under.answers (code x) (no_start (tables.naming (code x)).home e i home) in
        let here : Holds edges program tables.function v (name (code x)) (inside e i) =
        subst (λ (place : Place). Holds edges program tables.function v (name (code x)) place) home holds in
        let way = follows i (omega (arith, a.within, before)) in
        let at : Found v i = found v i (omega (arith, a.within, before)) (here.there.on_every_path (straight e i) way (straight_end e i)) in
        let same : instances program (straight e k) (name (code x)) ≡ denotes program function (straight e k) u =
        name_stays program e i (code x) k home before
        ∙ sym (here.agrees (straight e i) way (straight_end e i))
        ∙ sym at.same
        ∙ sym (value_stays program function e at.i i u k at.home at.before before) in
        let is : u ≡ resolved f (answered calls x) = carries.whole.describes.resolves v ∙ ap (resolved f) earlier.answer in
        sym (a.names_are x i before home)
        ∙ name_bits any_value program function labels (straight e k) p.variables a.names a.values a.agrees a.held x u tt
        (labelled_value calls f ssa consistent carries.whole moves.0 x (no_start (tables.naming (code x)).home e i home)) same
        ∙ a.values_are u at.i (omega (arith, at.before, before)) at.home ∙ ap q.values is

    -- at the end so far each record has its variable's bits
    pub recorded_bits : (k : ℕ) (p : ScriptState) (q : FunctionState) → Alongside k p q → k ≡ length items → (x v : ℕ) → record_of ssa x e ≡ Some v
        → p.variables x ≡ q.values (resolved f v)
    recorded_bits k p q a at_end x v is =
        let u : ℕ = tables.function.resolve v in
        let last : tables.count e ≡ k = counted ∙ sym at_end in
        let holds : Holds edges program tables.function v (variable x) (inside e (tables.count e)) =
        under.records (inside e (tables.count e)) x v (recorded_at-last tables.count tables.recorded e x ∙ carries.whole.describes.recorded e x ∙ is) in
        let here : Holds edges program tables.function v (variable x) (inside e k) =
        subst (λ (c : ℕ). Holds edges program tables.function v (variable x) (inside e c)) last holds in
        let way = follows k a.within in
        let at : Found v k = found v k a.within (here.there.on_every_path (straight e k) way (straight_end e k)) in
        let same : instances program (straight e k) (variable x) ≡ denotes program function (straight e k) u =
        sym (here.agrees (straight e k) way (straight_end e k)) ∙ sym at.same in
        unlabelled_variable any_value program function labels (straight e k) p.variables a.names a.values a.agrees a.held x u tt same ∙ a.values_are u at.i at.before at.home ∙ ap q.values (carries.whole.describes.resolves v)

    -- What stands at the place of an item -----------------------------------------------------------------------------

    known : (k : ℕ) (item : Item) → slice_get items k ≡ Some item → program.is_sealed (inside e (suc k)) ≡ true
    known k item stands =
        let below : k < tables.count e = omega (arith, counted, place_within items k item stands) in
        let there : nat_lt k (tables.count e) ≡ true = grind (arith, nat_tests) in
        there

    defined_there : (w k : ℕ) → (function.definition w).home ≡ inside e (suc k) → (tables.function.definition w).home ≡ inside e (suc k)
    defined_there w k at = sym (ap (λ (d : Definition). d.home) (defined-end tables.function w (is-end tables.function w e (suc k) at))) ∙ at

    not_visited : (place : Place) (k : ℕ) → place ≡ inside e (suc k) → Visits place (straight e k) → ⊥
    not_visited place k at there = absurd (omega (arith, visits_so_far e k e (suc k) (subst (λ (q : Place). Visits q (straight e k)) at there)))

    gives_there : (k place : ℕ) (instruction : Instruction Name Name) (results : List Name) → slice_get items k ≡ Some (Instruct place instruction results)
        → GivesThere any_value program function (next_arm e k) (straight e k) results (answered calls)
    gives_there k place instruction results stands =
        let g = ItemsAt.gives_there calls carries.whole.own f ssa tables carries.whole.program carries.whole.describes e entry (Entry.named calls f ssa carries entry is_entry) k place instruction results stands (straight e k) in
        let end : (n : Name) → In n results → tables.function.resolve (answered calls n) ≡ answered calls n = λ n there.
        let home : (tables.naming (code n)).home ≡ inside e (suc k) = ap (λ (m : Naming). m.home) (g.named n there) in
        let born_there = carries.whole.describes.born_there (code n) (no_start (tables.naming (code n)).home e (suc k) home) (ap (λ (m : Naming). m.origin) (g.named n there)) in
        let answer : tables.answer (code n) ≡ answered calls n =
        (Entry.given_at calls f ssa carries entry is_entry k (Instruct place instruction results) stands n (in_contained results n there)).1 in
        carries.whole.describes.resolves (answered calls n) ∙ ap (resolved f) (sym answer) ∙ born_there.1 ∙ answer in
        let defined : (n : Name) → In n results → function.definition (answered calls n) ≡ record { home = inside e (suc k); kind = born (code n) } = λ n there.
        defined-end tables.function (answered calls n) (end n there) ∙ g.defined n there in
        record {
          known = known k (Instruct place instruction results) stands;
          unassigned = g.unassigned;
          named = g.named;
          defined = defined;
          only_names = g.only_names;
          only_values = λ w at. g.only_values w (defined_there w k at);
          are_live = λ n there. tt;
          before = λ n there.
              absent_name program (code n) (straight e k) (not_visited (tables.naming (code n)).home k (ap (λ (m : Naming). m.home) (g.named n there)))
              ∙ sym (absent_value program function (answered calls n) (straight e k)
              (not_visited (function.definition (answered calls n)).home k (ap (λ (d : Definition). d.home) (defined n there))));
        }

    uses_there : (k x : ℕ) (used : Name) → slice_get items k ≡ Some (Use x used) → UsesThere program function (next_arm e k) x used
    uses_there k x used stands =
        let u = ItemsAt.uses_there calls carries.whole.own f ssa tables carries.whole.program carries.whole.describes e entry (Entry.named calls f ssa carries entry is_entry) k x used stands in
        record {
          begun = u.begun;
          known = known k (Use x used) stands;
          unassigned = u.unassigned;
          named = u.named;
          only_names = u.only_names;
          no_values = λ w at. u.no_values w (defined_there w k at);
        }

    assigns_there : (k x : ℕ) (from : Name) → slice_get items k ≡ Some (Assign x from) → AssignsThere program function (next_arm e k) x from
    assigns_there k x from stands =
        let u = ItemsAt.assigns_there calls carries.whole.own f ssa tables carries.whole.program carries.whole.describes e entry (Entry.named calls f ssa carries entry is_entry) k x from stands in
        record {
          known = known k (Assign x from) stands;
          written = u.written;
          unwritten = u.unwritten;
          no_names = u.no_names;
          no_values = λ w at. u.no_values w (defined_there w k at);
        }

    -- before the instruction that ends the block, too: it gives nothing and assigns nothing
    pub recorded_before_end : (k : ℕ) (p : ScriptState) (q : FunctionState) → Alongside k p q → (place : ℕ) (instruction : Instruction Name Name) (results : List Name)
        → slice_get items k ≡ Some (Instruct place instruction results) → suc k ≡ length items → results ≡ []
        → (x v : ℕ) → record_of ssa x e ≡ Some v → p.variables x ≡ q.values (resolved f v)
    recorded_before_end k p q a place instruction results stands at_end none x v is = by (order at.i k at.before)
      where
        gives : GivesThere any_value program function (next_arm e k) (straight e k) results (answered calls)
        gives = gives_there k place instruction results stands

        holds : Holds edges program tables.function v (variable x) (inside e (suc k))
        holds =
            subst (λ (c : ℕ). Holds edges program tables.function v (variable x) (inside e c)) (counted ∙ sym at_end)
            (under.records (inside e (tables.count e)) x v (recorded_at-last tables.count tables.recorded e x ∙ carries.whole.describes.recorded e x ∙ is))

        way : Follows edges (straight e (suc k))
        way = follows (suc k) (omega (arith, at_end))

        at : Found v (suc k)
        at = found v (suc k) (omega (arith, at_end)) (holds.there.on_every_path (straight e (suc k)) way (straight_end e (suc k)))

        order : (i k : ℕ) → i ≤ suc k → (i ≤ k) ⊎ (i ≡ suc k)
        order i k within = grind arith

        nothing_in : (n : Name) → In n results → ⊥
        nothing_in n there = subst (λ (names : List Name). In n names) none there

        not_given : (function.definition (tables.function.resolve v)).home ≢ inside e (suc k)
        not_given here = let one = gives.only_values (tables.function.resolve v) here in nothing_in one.0 one.1

        same : instances program (straight e k) (variable x) ≡ denotes program function (straight e k) (tables.function.resolve v)
        same =
            sym (variable-kept program (next_arm e k) (straight e k) x gives.known (gives.unassigned x))
            ∙ sym (holds.agrees (straight e (suc k)) way (straight_end e (suc k)))
            ∙ sym at.same
            ∙ denotes-past program function (next_arm e k) (straight e k) (tables.function.resolve v) not_given

        by : (at.i ≤ k) ⊎ (at.i ≡ suc k) → p.variables x ≡ q.values (resolved f v)
        by (inl before) =
            unlabelled_variable any_value program function labels (straight e k) p.variables a.names a.values a.agrees a.held x (tables.function.resolve v) tt same ∙ a.values_are (tables.function.resolve v) at.i before at.home
            ∙ ap q.values (carries.whole.describes.resolves v)
        by (inr here) = absurd (not_given (at.home ∙ ap (inside e) here))

    -- Each item -------------------------------------------------------------------------------------------------------

    below_or_at : (i k : ℕ) → i ≤ suc k → (i ≤ k) ⊎ (i ≡ suc k)
    below_or_at i k within = grind arith

    behind_item : (k : ℕ) (item : Item) (rest : List Item) → drop k items ≡ item ∷ rest → suc k ≤ length items
    behind_item k item rest here = omega (arith, place_within items k item (item_here items k item rest here))

    -- where the next place gives nothing to the function, values stay
    same_values : (k : ℕ) (q : FunctionState) (values : ℕ → ℕ) → ((w : ℕ) → (function.definition w).home ≢ inside e (suc k))
        → ((w i : ℕ) → i ≤ k → (function.definition w).home ≡ inside e i → values w ≡ q.values w)
        → (w i : ℕ) → i ≤ suc k → (function.definition w).home ≡ inside e i → values w ≡ q.values w
    same_values k q values none before w i within at = by (below_or_at i k within)
      where
        by : (i ≤ k) ⊎ (i ≡ suc k) → values w ≡ q.values w
        by (inl earlier) = before w i earlier at
        by (inr here) = absurd (none w (at ∙ ap (inside e) here))

    -- the function's machine stands before the same, where an item is no instruction
    passed : (k : ℕ) (item : Item) (rest : List Item) (q : FunctionState) → carried calls item ≡ [] → drop k items ≡ item ∷ rest
        → q.control ≡ At (flat_map (carried calls) (drop k items)) → q.control ≡ At (flat_map (carried calls) (drop (suc k) items))
    passed k item rest q none here at =
        at ∙ ap (λ (left : List Item). At (flat_map (carried calls) left)) here ∙ gone ∙ ap (λ (left : List Item). At (flat_map (carried calls) left)) (sym (rest_behind items k item rest here))
      where
        gone : At (flat_map (carried calls) (item ∷ rest)) ≡ At (flat_map (carried calls) rest)
        gone = rw none refl

    use_step : (k x : ℕ) (used : Name) (rest : List Item) (p : ScriptState) (q : FunctionState) → drop k items ≡ Use x used ∷ rest → Alongside k p q
        → Alongside (suc k) (script.run_item left_run p (Use x used) rest) q
    use_step k x used rest p q here a =
        let stands : slice_get items k ≡ Some (Use x used) = item_here items k (Use x used) rest here in
        let uses = uses_there k x used stands in
        record {
          within = behind_item k (Use x used) rest here;
          script_at = ap (λ (left : List Item). At left) (sym (rest_behind items k (Use x used) rest here));
          function_at = passed k (Use x used) rest q refl here a.function_at;
          same_memory = a.same_memory;
          same_events = a.same_events;
          names = assigned same_name (used ∷ []) (p.variables x ∷ []) a.names;
          values = a.values;
          agrees = used_agrees any_value program function labels (next_arm e k) (straight e k) x used uses p.variables a.names a.values a.agrees;
          held = used_nothing any_value program function labels (next_arm e k) (straight e k) x used uses p.variables a.names a.values a.agrees a.held;
          names_are = λ n i within home. by uses n i (below_or_at i k within) home (same_or_other n used);
          values_are = same_values k q a.values uses.no_values a.values_are;
        }
      where
        by : UsesThere program function (next_arm e k) x used → (n : Name) (i : ℕ) → (i ≤ k) ⊎ (i ≡ suc k) → (tables.naming (code n)).home ≡ inside e i
            → ((same_name n used ≡ true) × (n ≡ used)) ⊎ ((same_name n used ≡ false) × (n ≢ used))
            → assigned same_name (used ∷ []) (p.variables x ∷ []) a.names n ≡ assigned same_name (used ∷ []) (p.variables x ∷ []) p.names n
        by uses n i order home (inl one) = rw (one.0) refl
        by uses n i (inl before) home (inr other) = rw (other.0) (a.names_are n i before home)
        by uses n i (inr at) home (inr other) = absurd (other.1 (uses.only_names n (home ∙ ap (inside e) at)))

    assign_step : (k x : ℕ) (from : Name) (rest : List Item) (p : ScriptState) (q : FunctionState) → drop k items ≡ Assign x from ∷ rest → Alongside k p q
        → Alongside (suc k) (script.run_item left_run p (Assign x from) rest) q
    assign_step k x from rest p q here a =
        let stands : slice_get items k ≡ Some (Assign x from) = item_here items k (Assign x from) rest here in
        let assigns = assigns_there k x from stands in
        let is : a.names from ≡ p.names from = assigned_name stands in
        record {
          within = behind_item k (Assign x from) rest here;
          script_at = ap (λ (left : List Item). At left) (sym (rest_behind items k (Assign x from) rest here));
          function_at = passed k (Assign x from) rest q refl here a.function_at;
          same_memory = a.same_memory;
          same_events = a.same_events;
          names = a.names;
          values = a.values;
          agrees = subst (λ (bits : ℕ). Agrees any_value program function labels (next_arm e k ∷ straight e k) (assigned script.same_variable (x ∷ []) (bits ∷ []) p.variables) a.names a.values) is
              (assigned_agrees any_value program function labels (next_arm e k) (straight e k) x from assigns p.variables a.names a.values a.agrees);
          held = subst (λ (bits : ℕ). NothingIsZero program (next_arm e k ∷ straight e k) (assigned script.same_variable (x ∷ []) (bits ∷ []) p.variables) a.names) is
              (assigned_nothing any_value program function labels (next_arm e k) (straight e k) x from assigns p.variables a.names a.values a.agrees a.held);
          names_are = λ n i within home. by assigns n i (below_or_at i k within) home;
          values_are = same_values k q a.values assigns.no_values a.values_are;
        }
      where
        assigned_name : slice_get items k ≡ Some (Assign x from) → a.names from ≡ p.names from
        assigned_name stands =
            let before = Entry.named_before calls f ssa carries entry is_entry placed k (Assign x from) stands from (0, omega arith, refl) in
            a.names_are from before.at before.within before.home

        by : AssignsThere program function (next_arm e k) x from → (n : Name) (i : ℕ) → (i ≤ k) ⊎ (i ≡ suc k) → (tables.naming (code n)).home ≡ inside e i
            → a.names n ≡ p.names n
        by assigns n i (inl before) home = a.names_are n i before home
        by assigns n i (inr at) home = absurd (assigns.no_names n (home ∙ ap (inside e) at))

    -- an instruction, with numbers in place of names
    answered_placed : Instruction Name Name → List Name → Placed
    answered_placed instruction results =
        record { instruction = answered_instruction calls instruction; results = map (answered calls) results; stack_map = [] }

    -- it gives bits to its names and to their answers
    given_step : (k place : ℕ) (instruction : Instruction Name Name) (results : List Name) (rest : List Item) (p : ScriptState) (q : FunctionState)
        → drop k items ≡ Instruct place instruction results ∷ rest → Alongside k p q → (bits : List ℕ) (memory : Memory) → length bits ≡ length results
        → Alongside (suc k) (script.give_results (record p { memory = memory }) results rest bits)
        (function_machine_of.give_results (record q { memory = memory }) (map (answered calls) results) (flat_map (carried calls) rest) bits)
    given_step k place instruction results rest p q here a bits memory as_many =
        let stands : slice_get items k ≡ Some (Instruct place instruction results) = item_here items k (Instruct place instruction results) rest here in
        let gives = gives_there k place instruction results stands in
        let next : rest ≡ drop (suc k) items = sym (rest_behind items k (Instruct place instruction results) rest here) in
        record {
          within = behind_item k (Instruct place instruction results) rest here;
          script_at = ap (λ (left : List Item). At left) next;
          function_at = ap (λ (left : List Item). At (flat_map (carried calls) left)) next;
          same_memory = refl;
          same_events = a.same_events;
          names = assigned same_name results bits a.names;
          values = assigned same_value (map (answered calls) results) bits a.values;
          agrees = given_agrees any_value program function labels (next_arm e k) (straight e k) results (answered calls) gives p.variables a.names a.values a.agrees bits;
          held = given_nothing any_value program function labels (next_arm e k) (straight e k) results (answered calls) gives p.variables a.names a.values a.agrees bits a.held;
          names_are = λ n i within home. name_is gives n i (below_or_at i k within) home;
          values_are = λ w i within at. value_is gives w i (below_or_at i k within) at;
        }
      where
        apart : (i j : ℕ) (h : Place) → i < j → h ≡ inside e i → h ≡ inside e j → ⊥
        apart i j h below one other = absurd (omega (arith, below, same_step (sym one ∙ other)))

        name_is : GivesThere any_value program function (next_arm e k) (straight e k) results (answered calls) → (n : Name) (i : ℕ) → (i ≤ k) ⊎ (i ≡ suc k)
            → (tables.naming (code n)).home ≡ inside e i → assigned same_name results bits a.names n ≡ assigned same_name results bits p.names n
        name_is gives n i (inl before) home =
            let out : In n results → ⊥ = λ there. apart i (suc k) (tables.naming (code n)).home (omega (arith, before)) home (ap (λ (m : Naming). m.home) (gives.named n there)) in
            name_keeps results bits a.names n out ∙ a.names_are n i before home ∙ sym (name_keeps results bits p.names n out)
        name_is gives n i (inr at) home =
            same_given_places same_name name_cases results bits a.names p.names n as_many (gives.only_names n (home ∙ ap (inside e) at))

        value_is : GivesThere any_value program function (next_arm e k) (straight e k) results (answered calls) → (w i : ℕ) → (i ≤ k) ⊎ (i ≡ suc k)
            → (function.definition w).home ≡ inside e i
            → assigned same_value (map (answered calls) results) bits a.values w ≡ assigned same_value (map (answered calls) results) bits q.values w
        value_is gives w i (inl before) at =
            let out : (n : Name) → In n results → w ≢ answered calls n = λ n there same.
            apart i (suc k) (function.definition w).home (omega (arith, before)) at
            (ap (λ (v : ℕ). (function.definition v).home) same ∙ ap (λ (d : Definition). d.home) (gives.defined n there)) in
            value_keeps (answered calls) results bits a.values w out ∙ a.values_are w i before at ∙ sym (value_keeps (answered calls) results bits q.values w out)
        value_is gives w i (inr here) at =
            let found = gives.only_values w (at ∙ ap (inside e) here) in
            subst (λ (v : ℕ). assigned same_value (map (answered calls) results) bits a.values v ≡ assigned same_value (map (answered calls) results) bits q.values v) (sym found.2)
            (same_given_places same_value value_cases (map (answered calls) results) bits a.values q.values (answered calls found.0)
            (as_many ∙ sym (mapped_count (answered calls) results)) (in_mapped (answered calls) results found.0 found.1))

    -- where there are no edges, a run doesn't go on at a branch
    no_edge_taken : (p : ScriptState) {edges : List (Edge Name Name)} → edges ≡ [] → (edge : ℕ) (given : List ℕ) (memory : Memory) (left : List Item)
        → (script.follow_edge left_run (record p { memory = memory }) given (slice_get edges edge)).control ≡ At left → ⊥
    no_edge_taken p {edges} none edge given memory left =
        subst (λ (es : List (Edge Name Name)). (script.follow_edge left_run (record p { memory = memory }) given (slice_get es edge)).control ≡ At left → ⊥) (sym none) (λ on. cc)

    -- the path goes along the edges so far
    follows_open : (k : ℕ) → k ≤ length items → Follows (OpenFlow.edges nothing_comes calls f ssa consistent carries.whole) (straight e k)
    follows_open zero within =
        (OpenArms.start_open (OpenFlow.more_coming calls tables nothing_comes) carries.whole.own f ssa tables carries.whole.describes e (Entry.found calls f ssa carries entry is_entry), refl, tt)
    follows_open (suc k) within =
        let below : k < tables.count e = omega (arith, counted, within) in
        let there : nat_lt k (tables.count e) ≡ true = grind (arith, nat_tests) in
        (rw (there, same_place-refl (inside e k)) refl, sym (straight_end e k), follows_open k (omega (arith, within)))

    -- An outside call: both show the same event and get the same answer, and still agree.
    module _ (keep : KeepAlong calls f ssa consistent carries.whole world tracked collector moves.0) (k place : ℕ) (instruction : Instruction Name Name) (results : List Name) (rest : List Item) (p : ScriptState) (q : FunctionState)
        (here : drop k items ≡ Instruct place instruction results ∷ rest) (a : Alongside k p q) (callee : Callee) (call : CallShape) (arguments : List ℕ)
        (is : outcome_of world instruction.operation instruction.controlling (map left_run.name_type instruction.operands) (map p.names instruction.operands) p.memory
        ≡ Calls callee call arguments)
      where
        abbrev p' : ScriptState
        p' = script.call_outside left_run p callee call arguments

        abbrev q' : FunctionState
        q' = function_machine_of.call_outside right_run q [] callee call arguments

        events_are : p'.events ≡ q'.events
        events_are = Outside.events_are left_run f collector p q a.same_memory a.same_events [] refl callee call arguments

        memory_is : p'.memory ≡ q'.memory
        memory_is = Outside.memory_is left_run f collector p q a.same_memory a.same_events [] refl callee call arguments

        -- the bits that stand for those of names and values move as these do
        behind : AlongCalls.Behind calls f ssa consistent carries.whole world tracked collector moves.0 (straight e k) p q callee call arguments a.names a.values
        behind = keep (straight e k) (follows_open k a.within) p q a.same_memory a.same_events callee call arguments a.names a.values a.agrees a.held

        called : Alongside k p' q'
        called = record {
          within = a.within;
          script_at = a.script_at;
          function_at = a.function_at;
          same_memory = memory_is;
          same_events = events_are;
          names = behind.new_names;
          values = behind.new_values;
          agrees = behind.agrees;
          held = behind.held;
          names_are = λ x i within home. behind.names_are x (a.names_are x i within home);
          values_are = λ w i within home. behind.values_are w (a.values_are w i within home);
        }

        -- both behind the answer, where the instruction has these edges
        abbrev Behind : List (Edge Name Name) → Answer → Answer → Type 0
        Behind edges one other =
            Alongside (suc k) (script.take_answer left_run p' edges results rest one)
            (function_machine_of.take_answer right_run q' (map (answered_edge calls) edges) (map (answered calls) results) (flat_map (carried calls) rest) other)

        on_results : (bits : List ℕ) → length bits ≡ length results → Behind [] (Results bits) (Results bits)
        on_results bits as_many_bits =
            subst (λ (memory : Memory). Alongside (suc k) (script.give_results p' results rest bits)
            (function_machine_of.give_results (record q' { memory = memory }) (map (answered calls) results) (flat_map (carried calls) rest) bits)) memory_is
            (given_step k place instruction results rest p' q' here called bits p'.memory as_many_bits)

        without_results : (bits : List ℕ) → results ≡ [] → Behind [] (Results bits) (Results bits)
        without_results bits none =
            subst₂ (λ (names : Name → ℕ) (values : ℕ → ℕ). Alongside (suc k) (record p' { names = names; control = At rest })
            (record q' { values = values; control = At (flat_map (carried calls) rest) }))
            (none_assigned same_name results bits p'.names none) (none_assigned same_value (map (answered calls) results) bits q'.values (ap (map (answered calls)) none))
            (on_results [] (ap (λ (names : List Name). length names) (sym none)))

        answered_with : (answer : Answer) → IsAnswerTo call answer → (left : List Item) → (script.take_answer left_run p' [] results rest answer).control ≡ At left
            → Behind [] answer answer
        answered_with (Results bits) fits left on =
            by (call_count world place instruction results
            (gives_results (script_of calls) entry k (Instruct place instruction results) (item_here items k (Instruct place instruction results) rest here))
            (map left_run.name_type instruction.operands) (map p.names instruction.operands) p.memory callee call arguments is)
          where
            by : (length (types_of call.signature.returns) ≡ length results) ⊎ (results ≡ []) → Behind [] (Results bits) (Results bits)
            by (inl count) = on_results bits (as_many_values (types_of call.signature.returns) bits fits ∙ count)
            by (inr none) = without_results bits none
        answered_with (Exception item payload) fits left on = cc

        call_step : instruction.edges ≡ [] → (left : List Item) → (script.answer_call left_run p' call instruction.edges results rest).control ≡ At left
            → Behind instruction.edges (world.answer p'.events call) (world.answer q'.events call)
        call_step none left on =
            subst (λ (edges : List (Edge Name Name)). Behind edges (world.answer p'.events call) (world.answer q'.events call)) (sym none)
            (subst (λ (events : List Event). Behind [] (world.answer p'.events call) (world.answer events call)) events_are
            (answered_with (world.answer p'.events call) (world.answers_fit p'.events call) left
            (subst (λ (edges : List (Edge Name Name)). (script.take_answer left_run p' edges results rest (world.answer p'.events call)).control ≡ At left) none on)))

    -- whatever it does, if the run goes on
    after_outcome : (k place : ℕ) (instruction : Instruction Name Name) (results : List Name) (rest : List Item) (p : ScriptState) (q : FunctionState)
        → drop k items ≡ Instruct place instruction results ∷ rest → Alongside k p q → (o : Outcome) → (EachItem CallsNothing (program_so_far calls) → IsPlain o)
        → outcome_of world instruction.operation instruction.controlling (map left_run.name_type instruction.operands) (map p.names instruction.operands) p.memory ≡ o
        → (left : List Item) → (script.carry_out left_run p instruction.edges results rest o).control ≡ At left
        → Alongside (suc k) (script.carry_out left_run p instruction.edges results rest o)
        (function_machine_of.carry_out right_run q (answered_placed instruction results) (flat_map (carried calls) rest) o)
    unfolding answered_placed
    after_outcome k place instruction results rest p q here a (Gives bits memory) plain is left on =
        given_step k place instruction results rest p q here a bits memory
        (as_many world place instruction results
        (gives_results (script_of calls) entry k (Instruct place instruction results) (item_here items k (Instruct place instruction results) rest here))
        (map left_run.name_type instruction.operands) (map p.names instruction.operands) p.memory memory bits is)
    after_outcome k place instruction results rest p q here a (Goes edge given memory) plain is left on =
        absurd (no_edge_taken p ((all_at (PlainlyEarlier calls) items k (Instruct place instruction results) (carries.earlier entry) (item_here items k (Instruct place instruction results) rest here)).2)
        edge given memory left on)
    after_outcome k place instruction results rest p q here a (Returns bits) plain is left on = cc
    after_outcome k place instruction results rest p q here a (Traps reason) plain is left on = cc
    after_outcome k place instruction results rest p q here a (Calls callee call arguments) plain is left on =
        by moves.1
      where
        by : EachItem CallsNothing (program_so_far calls) ⊎ KeepAlong calls f ssa consistent carries.whole world tracked collector moves.0
            → Alongside (suc k) (script.carry_out left_run p instruction.edges results rest (Calls callee call arguments))
            (function_machine_of.carry_out right_run q (answered_placed instruction results) (flat_map (carried calls) rest) (Calls callee call arguments))
        by (inl none) = absurd (plain none)
        by (inr keep) =
            call_step keep k place instruction results rest p q here a callee call arguments is
            ((all_at (PlainlyEarlier calls) items k (Instruct place instruction results) (carries.earlier entry) (item_here items k (Instruct place instruction results) rest here)).2) left on
    after_outcome k place instruction results rest p q here a NoStep plain is left on = cc

    instruct_step : (k place : ℕ) (instruction : Instruction Name Name) (results : List Name) (rest : List Item) (p : ScriptState) (q : FunctionState)
        → drop k items ≡ Instruct place instruction results ∷ rest → Alongside k p q
        → (left : List Item) → (script.run_item left_run p (Instruct place instruction results) rest).control ≡ At left
        → Alongside (suc k) (script.run_item left_run p (Instruct place instruction results) rest) (function_machine_of.function_step right_run q)
    unfolding answered_placed
    instruct_step k place instruction results rest p q here a left on =
        let stands : slice_get items k ≡ Some (Instruct place instruction results) = item_here items k (Instruct place instruction results) rest here in
        let operands : map p.names instruction.operands ≡ map (value_bits right_run q) (map (answered calls) instruction.operands) =
        same_bits instruction.operands p.names (value_bits right_run q) (answered calls) (λ x there.
        given_bits k p q a x (Entry.named_before calls f ssa carries entry is_entry placed k (Instruct place instruction results) stands x (first_contained instruction.operands instruction.contexts x there))) in
        let outcome : Outcome = outcome_of world instruction.operation instruction.controlling (map left_run.name_type instruction.operands) (map p.names instruction.operands) p.memory in
        let same : outcome_of world instruction.operation instruction.controlling (map right_run.function.value_type (map (answered calls) instruction.operands)) (map (value_bits right_run q) (map (answered calls) instruction.operands)) q.memory
        ≡ outcome_of world instruction.operation instruction.controlling (map left_run.name_type instruction.operands) (map p.names instruction.operands) p.memory =
        same_outcomes world instruction.operation instruction.controlling _ _ _ _ _ _ (alike entry k place instruction results stands) operands a.same_memory in
        let function_here : q.control ≡ At (answered_placed instruction results ∷ flat_map (carried calls) rest) =
        a.function_at ∙ ap (λ (ahead : List Item). At (flat_map (carried calls) ahead)) here in
        let right_is : function_machine_of.function_step right_run q ≡ function_machine_of.carry_out right_run q (answered_placed instruction results) (flat_map (carried calls) rest) outcome =
        ap (function_machine_of.step_at right_run q) function_here
        ∙ ap (λ (o : Outcome). function_machine_of.carry_out right_run q (answered_placed instruction results) (flat_map (carried calls) rest) o) same in
        subst (λ (state : FunctionState). Alongside (suc k) (script.run_item left_run p (Instruct place instruction results) rest) state) (sym right_is)
        (after_outcome k place instruction results rest p q here a outcome
        (λ none.
        outcome_plain world instruction.operation (item_plain calls entry (none entry) k place instruction results stands) instruction.controlling
        (map left_run.name_type instruction.operands) (map p.names instruction.operands) p.memory) refl left on)

    -- One step of the script's machine that goes on is one of the function's, or none.
    abbrev pub Kept : ℕ → ScriptState → FunctionState → Type 0
    Kept k p q = Alongside (suc k) p q ⊎ Alongside (suc k) p (function_machine_of.function_step right_run q)

    item_step : (k : ℕ) (ahead : List Item) (p : ScriptState) (q : FunctionState) → drop k items ≡ ahead → Alongside k p q
        → (left : List Item) → (script.step_at left_run p (At ahead)).control ≡ At left → Kept k (script.step_at left_run p (At ahead)) q
    item_step k [] p q here a left on = cc
    item_step k (Instruct place instruction results ∷ rest) p q here a left on = inr (instruct_step k place instruction results rest p q here a left on)
    item_step k (Use x used ∷ rest) p q here a left on = inl (use_step k x used rest p q here a)
    item_step k (Assign x from ∷ rest) p q here a left on = inl (assign_step k x from rest p q here a)

    pub step : (k : ℕ) (p : ScriptState) (q : FunctionState) → Alongside k p q
        → (left : List Item) → (script.script_step left_run p).control ≡ At left → Kept k (script.script_step left_run p) q
    step k p q a left on =
        let is : script.script_step left_run p ≡ script.step_at left_run p (At (drop k items)) = ap (script.step_at left_run p) a.script_at in
        subst (λ (state : ScriptState). Kept k state q) (sym is)
        (item_step k (drop k items) p q refl a left (ap (λ (state : ScriptState). state.control) (sym is) ∙ on))
