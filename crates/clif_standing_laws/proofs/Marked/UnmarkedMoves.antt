-- What moves where no variable is marked agrees with the marks of the calls: nothing, or tracked names that are apart from variables,
-- and exactly the values that answered them.
use Rattle.std.proofs.Common.{◌≡◌, ◌⊎◌, inl, inr, ℕ, ◌+◌, ◌==◌, if◌then◌else◌, Bool, true, false, List, [], ◌∷◌, length, slice_get, Some, Contains, refl, sym, ◌∙◌, ap, subst, arith}
use Rattle.std.specs.Prelude.{IsTrue}
use Rattle.std.specs.List.{AllByRecursion}
use Rattle.std.proofs.lemmas.Bool.{eqb-true}
use Rattle.std.proofs.lemmas.Bool.Decides.{nat_tests}
use Rattle.clif_instructions.specs.declared.block_call.BlockArg.TheVariants.{Value}
use Rattle.clif_ir.specs.Body.{Body, block_at, resolved}
use Rattle.clif_ir.specs.Consistent.{IsConsistent}
use Rattle.clif_paths.specs.State.{Definition, born, complete, pending}
use Rattle.clif_paths.specs.ValueLabels.{AgreeOnProgram, label_by}
use Rattle.clif_records.specs.declared.tables.Pending.{Pending}
use Rattle.clif_records.specs.Tables.{pending_of}
use Rattle.clif_ssa.specs.Own.{Own}
use Rattle.clif_ssa.specs.Sound.{EntryIsFree, edge_target, passed_at}
use Rattle.clif_ssa.specs.Ssa.{SsaState, predecessors_of, sealed_of}
use Rattle.clif_meaning.specs.FunctionMachine.{Collector, ByMaps, OverSet}
use Rattle.clif_meaning.specs.Ledger.{is_marked, ledger_after}
use Rattle.clif_meaning.specs.Name.{Name}
use Rattle.clif_meaning.specs.Premises.{KeepsTrackedApart}
use Rattle.clif_meaning.specs.Program.{Item, Instruct, Use, Assign}
use Rattle.clif_meaning.specs.Request.{AnsweredCall, script_of}
use Rattle.clif_simulation.specs.Carries.{Carries}
use Rattle.clif_simulation.specs.Marked.{IsTrackedAsMarked, NamesAgree}
use Rattle.clif_simulation.specs.Reading.{AnswersTracked, IsGivenFresh, IsOver, LeavesValues, MovesNothing, MovesTracked, NoneMarked}
use Rattle.clif_simulation.specs.Tables.{answered, code, program_so_far}
use Rattle.clif_simulation.proofs.Codes
use Rattle.clif_simulation.proofs.GivenNames.{is_named}
use Rattle.clif_simulation.proofs.Labelling.GivenBy.{assigned_item, read_item}
use Rattle.clif_simulation.proofs.Listed.{all_at}
use Rattle.clif_simulation.proofs.Tracking.Agreeing
use Rattle.clif_simulation.proofs.Whole.{Whole, whole, whole_own}
use Rattle.clif_standing_laws.specs.Marked.{MovesAsMarked, moved_by}

true_no_false : true ≡ false → ⊥
true_no_false same = cc

never : (test : Bool) → (IsTrue test → ⊥) → test ≡ false
never true other = absurd (other refl)
never false other = refl

both_ways : (a b : Bool) → (IsTrue a → IsTrue b) → (IsTrue b → IsTrue a) → a ≡ b
both_ways true b forth back = sym (forth refl)
both_ways false true forth back = back refl
both_ways false false forth back = refl

born_code : (m n : ℕ) → born m ≡ born n → m ≡ n
born_code m n same = cc

born_no_complete : (n x : ℕ) → born n ≡ complete x → ⊥
born_no_complete n x same = cc

born_no_pending : (n x : ℕ) → born n ≡ pending x → ⊥
born_no_pending n x same = cc

some_same : (a b : ℕ) → Some a ≡ Some b → a ≡ b
some_same a b same = cc

module _ (calls : List AnsweredCall) (f : Body) (s : SsaState) (consistent : IsConsistent f) (carries : Whole calls f s) (tracked : Name → Bool)
    (unmarked : NoneMarked calls)
  where
    abbrev marked : ℕ → Bool
    marked = is_marked (ledger_after (script_of calls))

    -- a name is tracked as a variable is marked, where it isn't
    as_marked : (x : ℕ) (name : Name) → tracked name ≡ false → tracked name ≡ marked x
    as_marked x name is = is ∙ sym (unmarked x)

    -- Nothing ---------------------------------------------------------------------------------------------------------------

    none_leaves : (collector : Collector) → LeavesValues collector → (value : ℕ) → moved_by collector value ≡ false
    none_leaves ByMaps leaves value = refl
    none_leaves (OverSet members) leaves value = leaves value

    untracked_items : ((name : Name) → tracked name ≡ false) → (items : List Item) → AllByRecursion (IsTrackedAsMarked marked tracked) items
    untracked_items none [] = tt
    untracked_items none (Instruct place instruction results ∷ items) = (tt, untracked_items none items)
    untracked_items none (Use x name ∷ items) = (as_marked x name (none name), untracked_items none items)
    untracked_items none (Assign x name ∷ items) = (as_marked x name (none name), untracked_items none items)

    pub of_nothing : (collector : Collector) → ((name : Name) → tracked name ≡ false) → LeavesValues collector
        → MovesAsMarked calls carries.own f s tracked collector
    of_nothing collector none leaves =
        let still = none_leaves collector leaves in
        record {
          names = λ block. untracked_items none ((program_so_far calls).items block);
          values = record {
            answers = λ name given. still (resolved f (answered calls name)) ∙ sym (none name);
            arguments = λ target branch edge place argument parameter leads to passes stands.
                inl (still (resolved f argument) ∙ sym (still (resolved f parameter)));
          };
          waiting = λ block parameter there. still parameter.param ∙ sym (unmarked parameter.variable);
        }

    -- Tracked names ---------------------------------------------------------------------------------------------------------

    module _ (apart : (block : Name) → AllByRecursion (KeepsTrackedApart (ledger_after (script_of calls)) tracked) ((program_so_far calls).items block))
        (members : ℕ → Bool) (over : IsOver (AnswersTracked calls tracked) (OverSet members))
      where
        plain : (x : ℕ) (name : Name) → (IsTrue (tracked name) → IsTrue (marked x)) → tracked name ≡ false
        plain x name keeps = never (tracked name) (λ is. true_no_false (sym (keeps is) ∙ unmarked x))

        plain_items : (items : List Item) → AllByRecursion (KeepsTrackedApart (ledger_after (script_of calls)) tracked) items
            → AllByRecursion (IsTrackedAsMarked marked tracked) items
        plain_items [] all = tt
        plain_items (Instruct place instruction results ∷ items) all = (tt, plain_items items all.1)
        plain_items (Use x name ∷ items) all = (as_marked x name (plain x name all.0), plain_items items all.1)
        plain_items (Assign x name ∷ items) all = (as_marked x name (plain x name all.0), plain_items items all.1)

        names : NamesAgree calls marked tracked
        names block = plain_items ((program_so_far calls).items block) (apart block)

        -- a member is born with the tracked name that it answers
        born_of : (v : ℕ) (a : AnswersTracked calls tracked v) → (carries.tables.function.definition v).kind ≡ born (code a.name)
        born_of v a =
            ap (λ (w : ℕ). (carries.tables.function.definition w).kind) (sym a.answers)
            ∙ ap (λ (d : Definition). d.kind) (Agreeing.born_here calls f s consistent carries a.name a.is_given).0

        answers : (n : Name) → IsGivenFresh (program_so_far calls) n → members (resolved f (answered calls n)) ≡ tracked n
        answers n is_fresh =
            ap members here.1
            ∙ both_ways (members (answered calls n)) (tracked n)
            (λ is. of_member ((over (answered calls n)).0 is))
            (λ is. (over (answered calls n)).1 (record { name = n; is_tracked = is; is_given = is_fresh; answers = refl }))
          where
            here : (carries.tables.function.definition (answered calls n) ≡ record { home = (carries.tables.naming (code n)).home; kind = born (code n) })
                × (resolved f (answered calls n) ≡ answered calls n)
            here = Agreeing.born_here calls f s consistent carries n is_fresh

            of_member : AnswersTracked calls tracked (answered calls n) → IsTrue (tracked n)
            of_member a =
                let codes : code a.name ≡ code n =
                born_code (code a.name) (code n) (sym (born_of (answered calls n) a) ∙ ap (λ (d : Definition). d.kind) here.0) in
                subst (λ (m : Name). IsTrue (tracked m)) (Codes.differ a.name n codes) a.is_tracked

        -- Labels that tell this tracked name from all others agree on the program: no variable has it.
        module _ (n : Name) (is_tracked : IsTrue (tracked n)) where
          of_variable : ℕ → ℕ
          of_variable x = 0

          of_name : ℕ → ℕ
          of_name c = if c == code n then 1 else 0

          its_label : of_name (code n) ≡ 1
          unfolding of_name
          its_label = let same : (code n == code n) ≡ true = grind (arith, nat_tests) in rw same refl

          other_label : (m : Name) → tracked m ≡ false → of_name (code m) ≡ 0
          unfolding of_name
          other_label m none = by (code m == code n) refl
            where
              by : (test : Bool) → (code m == code n) ≡ test → ◌≡◌ {A = ℕ} (if test then 1 else 0) 0
              by false is = refl
              by true is =
                  absurd (true_no_false (sym is_tracked ∙ ap tracked (sym (Codes.differ m n (eqb-true (code m) (code n) is))) ∙ none))

          agree : AgreeOnProgram carries.tables of_variable of_name
          unfolding of_variable
          agree = record {
            assigned_same = λ place x c is.
                let a = assigned_item calls carries.tables carries.program place x c is in
                ap of_name (sym a.coded)
                ∙ other_label a.from
                (all_at (IsTrackedAsMarked marked tracked) ((program_so_far calls).items a.block) a.index (Assign x a.from) (names a.block) a.stands ∙ unmarked x);
            read_same = λ c x begun is.
                let g = is_named calls carries.tables carries.program c begun in
                let r = read_item calls carries.tables carries.program g.name (λ none. begun (ap (λ (d : ℕ). (carries.tables.naming d).home) (sym g.coded) ∙ none)) x
                (ap (λ (d : ℕ). (carries.tables.naming d).origin) g.coded ∙ is) in
                ap of_name (sym g.coded)
                ∙ other_label g.name
                (all_at (IsTrackedAsMarked marked tracked) ((program_so_far calls).items r.block) r.index (Use x g.name) (names r.block) r.stands ∙ unmarked x);
          }

        module _ (target branch edge place argument parameter : ℕ) (leads : Contains (predecessors_of s target) branch)
            (to : edge_target f branch edge ≡ Some target)
            (passes : passed_at f branch edge (length (carries.own.passed branch edge) + place) ≡ Some (Value argument))
            (stands : slice_get (block_at f target).params (length (carries.own.params target) + place) ≡ Some parameter)
          where
            -- a parameter of the construction's answers no name
            parameter_stays : members (resolved f parameter) ≡ false
            parameter_stays =
                ap members (Agreeing.itself calls f s consistent carries target branch edge place argument parameter leads to passes stands)
                ∙ never (members parameter) (λ is. by ((over parameter).0 is))
              where
                by : AnswersTracked calls tracked parameter → ⊥
                by a =
                    let complete_there = Agreeing.is_complete calls f s consistent carries target branch edge place argument parameter leads to passes stands in
                    born_no_complete (code a.name) complete_there.0 (sym (born_of parameter a) ∙ ap (λ (d : Definition). d.kind) complete_there.1)

            -- and what is passed to one, neither
            argument_stays : members (resolved f argument) ≡ false
            unfolding of_variable
            argument_stays = never (members (resolved f argument)) (λ is. by ((over (resolved f argument)).0 is))
              where
                by : AnswersTracked calls tracked (resolved f argument) → ⊥
                by a =
                    let kept = carries.sound.labelled.kept (of_variable a.name a.is_tracked) (of_name a.name a.is_tracked) (agree a.name a.is_tracked) in
                    let label = Agreeing.argument_label calls f s consistent carries target branch edge place argument parameter leads to passes stands
                    (of_variable a.name a.is_tracked) (of_name a.name a.is_tracked) kept in
                    let one : ◌≡◌ {A = ℕ} 1 0 =
                    some_same 1 0
                    (ap (λ (l : ℕ). Some l) (sym (its_label a.name a.is_tracked))
                    ∙ sym (ap (label_by (of_variable a.name a.is_tracked) (of_name a.name a.is_tracked)) (born_of (resolved f argument) a)) ∙ label) in
                    omega (arith, one)

        pub of_tracked : MovesAsMarked calls carries.own f s tracked (OverSet members)
        of_tracked = record {
          names = names;
          values = record {
            answers = answers;
            arguments = λ target branch edge place argument parameter leads to passes stands.
                inl (argument_stays target branch edge place argument parameter leads to passes stands
                ∙ sym (parameter_stays target branch edge place argument parameter leads to passes stands));
          };
          waiting = λ block parameter there. never (members parameter.param) (λ is. waits block parameter there ((over parameter.param).0 is)) ∙ sym (unmarked parameter.variable);
        }
          where
            waits : (block : ℕ) (parameter : Pending) → Contains (pending_of (sealed_of s block)) parameter → AnswersTracked calls tracked parameter.param → ⊥
            waits block parameter there a =
                born_no_pending (code a.name) parameter.variable
                (sym (born_of parameter.param a) ∙ ap (λ (d : Definition). d.kind) (carries.describes.waiting block parameter there).defined)

-- of the whole
tracked_whole : (calls : List AnsweredCall) (f : Body) (s : SsaState) (consistent : IsConsistent f) (carries : Whole calls f s) (tracked : Name → Bool) (collector : Collector)
    → MovesTracked calls tracked collector → MovesAsMarked calls carries.own f s tracked collector
tracked_whole calls f s consistent carries tracked ByMaps moves = absurd moves.over
tracked_whole calls f s consistent carries tracked (OverSet members) moves = of_tracked calls f s consistent carries tracked moves.unmarked moves.apart members moves.over

pub unmarked_agrees : (calls : List AnsweredCall) (f : Body) (s : SsaState) → IsConsistent f → (carries : Carries calls f s) → EntryIsFree f s
    → (tracked : Name → Bool) (collector : Collector) → MovesNothing calls tracked collector ⊎ MovesTracked calls tracked collector
    → MovesAsMarked calls carries.own f s tracked collector
unmarked_agrees calls f s consistent carries free tracked collector moves =
    subst (λ (own : Own). MovesAsMarked calls own f s tracked collector) (whole_own calls f s consistent carries free) (by moves)
  where
    by : MovesNothing calls tracked collector ⊎ MovesTracked calls tracked collector
        → MovesAsMarked calls (whole calls f s consistent carries free).own f s tracked collector
    by (inl nothing) = of_nothing calls f s consistent (whole calls f s consistent carries free) tracked nothing.unmarked collector nothing.untracked nothing.leaves
    by (inr names) = tracked_whole calls f s consistent (whole calls f s consistent carries free) tracked collector names
