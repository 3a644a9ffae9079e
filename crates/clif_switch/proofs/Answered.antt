-- What emitting a switch makes of a builder, by what its nodes make of it.
use Rattle.std.proofs.Common.{◌≡◌, ◌≤◌, ◌+◌, inl, inr, true, false, ℕ, List, [], ◌∷◌, ◌++◌, length, map, refl, sym, ◌∙◌, ap, subst, arith, append-nil, Option, Some, None}
use Rattle.std.specs.Prelude.{◌↔◌, All, Contains, IsTrue, Result, Ok, Err, is_some, option_map, replicate}
use Rattle.std.specs.FinMap as finite
use Rattle.std.proofs.lemmas.List.{get_or-append-add, length-append}
use Rattle.std.proofs.lemmas.List.Elements.{All-contains, All-contains_itself}
use Rattle.clif_types.specs.Signature.{SignatureShape}
use Rattle.clif_types.specs.Types.{greatest_of, is_int}
use Rattle.clif_types.specs.declared.error.BuildError.{BuildError}
use Rattle.clif_types.specs.declared.error.BuildError.TheVariants.{Failed, Full, Memory}
use Rattle.clif_types.specs.declared.types.«Type».{«Type»}
use Rattle.clif_ir.specs.Body.{value_at}
use Rattle.clif_ranges.specs.declared.ranges.CaseRange.{CaseRange}
use Rattle.clif_ranges.specs.declared.search.Node.{Node}
use Rattle.clif_ranges.specs.declared.error.SwitchError.{SwitchError}
use Rattle.clif_ranges.specs.declared.error.SwitchError.TheVariants as switch_error
use Rattle.clif_ranges.specs.Cases.{AreRangesFor, CaseMap, FitType, IsKeyTooWide, IsRefusal}
use Rattle.clif_ranges.specs.Ranges.{AreFewest}
use Rattle.clif_ranges.specs.Search.{AreFew, AreInOrder, AreTestsOf, FindsCases}
use Rattle.clif_meaning.specs.Ledger.{has_block, type_of}
use Rattle.clif_meaning.specs.Program.{program_of}
use Rattle.clif_meaning.specs.Name.{Name, answer_of}
use Rattle.clif_meaning.specs.Request.{AnsweredCall, Script, script_of}
use Rattle.clif_meaning.specs.Sizes.{Table, made_by_script}
use Rattle.clif_builder.specs.declared.builder.FunctionBuilder.{FunctionBuilder}
use Rattle.clif_builder.specs.Adding.{AddsAtMost}
use Rattle.clif_builder.specs.Ledger.{NamesBlock, NamesValue, block_name, ledger_of}
use Rattle.clif_builder.specs.LedgerLaws.{LedgerIsReadByNumber, RequestsAskForTheirShapes}
use Rattle.clif_builder.specs.StandsFor.{StandsFor}
use Rattle.clif_builder.proofs.Adding.{adds_fewer, makes_same}
use Rattle.clif_expansion.proofs.Placing.{contained_first, contained_in, contained_later}
use Rattle.clif_switch_calls.specs.SwitchCalls.{Switched, nodes_calls}
use Rattle.clif_switch_calls.specs.SwitchLaw.{MaySwitch, SearchesCases, SwitchCallsAreCode, case_edges, case_keys, switch_calls}
use Rattle.clif_switch_calls.specs.SwitchSizes.{nodes_make, switch_makes}
use Rattle.clif_switch_calls.proofs.Sized.{switch_calls_are_few}
use Rattle.clif_expansion.specs.Switching.{IsSwitchCode}
use Rattle.clif_switch.specs.Emission.{EndsBlock, MakesNodes, StandsAt, StandsOn, Steps, next_place, tables_at, tables_in}
use Rattle.clif_switch.specs.Switches.{Emits, IsCodeOf, IsUnemitted, MayEmit, NamesSwitch}
use Rattle.clif_switch.proofs.Cases.{all_cases, blocks_of_cases, each_case, tables_are}
use Rattle.clif_switch.proofs.Names.{as_many}
use Rattle.clif_switch.proofs.Numbers.{type_is}
use Rattle.clif_switch.proofs.Values.{done}

-- ERRORS ------------------------------------------------------------------------------------------------------------------

same_error : (e y : BuildError) → ◌≡◌ {A = Result (Unit {0}) SwitchError} (Err (switch_error.Build e)) (Err (switch_error.Build y)) → e ≡ y
same_error e y same = cc

same_failure : (e y : BuildError) → ◌≡◌ {A = Result (Unit {0}) BuildError} (Err e) (Err y) → e ≡ y
same_failure e y same = cc

-- keys that are numbers of the type aren't too wide
pub none_too_wide : (cases : CaseMap) (ty : «Type») → FitType cases ty → (max : ℕ) → IsKeyTooWide cases ty max → ⊥
none_too_wide cases ty fit max (over, last) =
    let front : List (ℕ × ℕ) = last.0 in
    let block : ℕ = last.1 in
    let all = subst (λ (entries : List (ℕ × ℕ)). All (λ case. case.0 ≤ greatest_of ty false) entries) last.2 fit in
    let long = length-append front ((max, block) ∷ []) in
    let least = all (length front + 0) (0, 0) (omega (arith, long)) in
    let same = ap (λ (case : ℕ × ℕ). case.0) (get_or-append-add front ((max, block) ∷ []) 0 (0, 0)) in
    omega (arith, least, same, over)

no_key_error : (e : BuildError) (ty : «Type») (max : ℕ) → ◌≡◌ {A = Result (Unit {0}) SwitchError} (Err (switch_error.Build e)) (Err (switch_error.KeyTooWide ty max)) → ⊥
no_key_error e ty max same = cc

-- something failed as it was built
pub failed_by : {R : Type 0} (cases : CaseMap) (value otherwise : ℕ) (old new : FunctionBuilder R) (e : BuildError) → ((max : ℕ) → old.failed ≡ false → IsKeyTooWide cases (value_at old.func.now value).ty max → ⊥)
    → Steps {A = Unit {0}} old new (Err e) → AddsAtMost {A = Unit {0}} (switch_makes (length (case_keys cases))) old new (Err e) → Emits cases value otherwise old new (Err (switch_error.Build e))
failed_by cases value otherwise old new e fits steps most = record {
  loans = steps.loans;
  srcloc = steps.srcloc;
  failed = (λ is. steps.failed.0 (ap Err (same_error e Failed is)), λ is. ap (λ (y : BuildError). Err (switch_error.Build y)) (same_failure e Failed (steps.failed.1 is)));
  unchanged = steps.unchanged;
  errors = steps.fails;
  too_wide = λ max. (λ is. absurd (no_key_error e _ max is), λ wide. absurd (fits max wide.0 wide.1));
  sound = tt;
  looks_once = steps.looks_once;
  variables = steps.variables;
  grows = tt;
  remembers = λ x b. tt;
  types = tt;
  exceptions = tt;
  full = λ is. steps.full (ap Err (same_error e Full is));
  most = λ some. most (λ is. some (ap (λ (y : BuildError). Err (switch_error.Build y)) (same_failure e Memory is)));
  keeps = tt;
  adds = tt;
  tables = tt;
  leaves = tt;
  left = tt;
  free = tt;
  stands = λ signature calls s block stands current named. tt;
}

-- REFUSALS ----------------------------------------------------------------------------------------------------------------

same_key : {A : Type 0} (ty : «Type») (m n : ℕ) → ◌≡◌ {A = Result A SwitchError} (Err (switch_error.KeyTooWide ty m)) (Err (switch_error.KeyTooWide ty n)) → m ≡ n
same_key ty m n same = cc

-- what is said of keys that are refused
abbrev pub Refuses : (A : Type 0) → CaseMap → «Type» → SwitchError → Type 0
Refuses A cases ty error = IsRefusal cases ty error × ((max : ℕ) → ◌≡◌ {A = Result A SwitchError} (Err error) (Err (switch_error.KeyTooWide ty max)) ↔ IsKeyTooWide cases ty max)

-- the same of the cases as a switch has them, and of the type as the builder holds it
pub refuses_of : {A : Type 0} (inside cases : CaseMap) (read held : «Type») (error : SwitchError) → inside ≡ cases → read ≡ held → IsRefusal inside read error
    → ((max : ℕ) → ◌≡◌ {A = Result A SwitchError} (Err error) (Err (switch_error.KeyTooWide read max)) ↔ IsKeyTooWide inside read max) → Refuses A cases held error
refuses_of {A} inside cases read held error view same refused wide =
    subst (λ (m : CaseMap). Refuses A m held error) view (subst (λ (t : «Type»). Refuses A inside t error) same (refused, wide))

-- where memory was refused, the keys aren't too wide
pub memory_not_wide : {A : Type 0} (cases : CaseMap) (ty : «Type») (error : SwitchError) (e : BuildError) → error ≡ switch_error.Build e → Refuses A cases ty error → (max : ℕ) → IsKeyTooWide cases ty max → ⊥
memory_not_wide {A} cases ty error e is refuses max wide = apart ((refuses.1 max).1 wide)
  where
    apart : ◌≡◌ {A = Result A SwitchError} (Err error) (Err (switch_error.KeyTooWide ty max)) → ⊥
    apart same = cc

module _ {R : Type 0} (cases : CaseMap) (value otherwise : ℕ) (b : FunctionBuilder R) where
  abbrev held : «Type»
  held = (value_at b.func.now value).ty

  -- nothing was emitted, and the builder is as it was
  unemitted : (error : SwitchError) → (◌≡◌ {A = Result (Unit {0}) SwitchError} (Err error) (Err (switch_error.Build Full)) → ⊥) → IsUnemitted cases held b b error → (◌≡◌ {A = Result (Unit {0}) SwitchError} (Err error) (Err (switch_error.Build Failed)) ↔ IsTrue b.failed)
      → ((max : ℕ) → ◌≡◌ {A = Result (Unit {0}) SwitchError} (Err error) (Err (switch_error.KeyTooWide held max)) ↔ ((b.failed ≡ false) × IsKeyTooWide cases held max))
      → Emits cases value otherwise b b (Err error)
  unemitted error not_full why failed wide = record {
    loans = record { func = refl; ctx = refl; region = refl };
    srcloc = refl;
    failed = failed;
    unchanged = λ is. refl;
    errors = why;
    too_wide = wide;
    sound = tt;
    looks_once = λ once. once;
    variables = refl;
    grows = tt;
    remembers = λ x c. tt;
    types = tt;
    exceptions = tt;
    full = λ is. absurd (not_full is);
    most = λ some. makes_same (switch_makes (length (case_keys cases))) b.func.now b.func.now refl;
    keeps = tt;
    adds = tt;
    tables = tt;
    leaves = tt;
    left = tt;
    free = tt;
    stands = λ signature calls s block stands current named. tt;
  }

  sound_not : b.failed ≡ false → IsTrue b.failed → ⊥
  sound_not sound is = let true_is : b.failed ≡ true = is in cc

  -- the builder had failed before
  pub was_failed : IsTrue b.failed → Emits cases value otherwise b b (Err (switch_error.Build Failed))
  was_failed is = unemitted (switch_error.Build Failed) not_full is ((λ same. is), (λ failed. refl)) (λ max. ((λ same. absurd (no_key_error Failed held max same)), (λ wide. absurd (sound_not wide.0 is))))
    where
      not_full : ◌≡◌ {A = Result (Unit {0}) SwitchError} (Err (switch_error.Build Failed)) (Err (switch_error.Build Full)) → ⊥
      not_full same = cc

  -- the greatest key is no number of the type
  pub key_too_wide : {A : Type 0} (error : SwitchError) (t answered : «Type») (max : ℕ) → b.failed ≡ false → error ≡ switch_error.KeyTooWide t max → Refuses A cases held error → answered ≡ held
      → Emits cases value otherwise b b (Err (switch_error.KeyTooWide answered max))
  key_too_wide {A} error t answered max sound is refuses same =
      subst (λ (ty : «Type»). Emits cases value otherwise b b (Err (switch_error.KeyTooWide ty max))) (sym same)
      (unemitted (switch_error.KeyTooWide held max) not_full ((refl, wide_here), refl) ((λ other. absurd (not_failed_before other)), (λ failed. absurd (sound_not sound failed)))
      (λ m. (
        (λ other. (sound, subst (IsKeyTooWide cases held) (same_key held max m other) wide_here)),
        (λ wide. ap (λ (k : ℕ). Err (switch_error.KeyTooWide held k)) (told_key m ((refuses.1 m).1 wide.1))),
      )))
    where
      wide_here : IsKeyTooWide cases held max
      wide_here = (subst (IsRefusal cases held) is refuses.0).1

      told_key : (m : ℕ) → ◌≡◌ {A = Result A SwitchError} (Err error) (Err (switch_error.KeyTooWide held m)) → max ≡ m
      told_key m other = cc

      not_full : ◌≡◌ {A = Result (Unit {0}) SwitchError} (Err (switch_error.KeyTooWide held max)) (Err (switch_error.Build Full)) → ⊥
      not_full same = cc

      not_failed_before : ◌≡◌ {A = Result (Unit {0}) SwitchError} (Err (switch_error.KeyTooWide held max)) (Err (switch_error.Build Failed)) → ⊥
      not_failed_before other = cc

  -- a range is too long
  pub table_too_long : b.failed ≡ false → IsRefusal cases held switch_error.TableTooLong → Emits cases value otherwise b b (Err switch_error.TableTooLong)
  table_too_long sound refused =
      unemitted switch_error.TableTooLong not_full (refused, refl) ((λ same. absurd (other same)), (λ failed. absurd (sound_not sound failed)))
      (λ m. ((λ same. absurd (no_key m same)), (λ wide. absurd (none_too_wide cases held refused.0 m wide.1))))
    where
      not_full : ◌≡◌ {A = Result (Unit {0}) SwitchError} (Err switch_error.TableTooLong) (Err (switch_error.Build Full)) → ⊥
      not_full same = cc

      other : ◌≡◌ {A = Result (Unit {0}) SwitchError} (Err switch_error.TableTooLong) (Err (switch_error.Build Failed)) → ⊥
      other same = cc

      no_key : (m : ℕ) → ◌≡◌ {A = Result (Unit {0}) SwitchError} (Err switch_error.TableTooLong) (Err (switch_error.KeyTooWide held m)) → ⊥
      no_key m same = cc

-- THE CODE ----------------------------------------------------------------------------------------------------------------

mapped : {X Y : Type 0} (f : X → Y) (xs : List X) (x : X) → Contains xs x → Contains (map f xs) (f x)
mapped f [] x here = absurd (omega (arith, here.1))
mapped {X} f (y ∷ xs) x here =
    let later : Contains xs x → Contains (map f xs) (f x) = mapped f xs x in
    elim (contained_in y xs x here) [
      | inl same ↦ subst (λ (z : X). Contains (f y ∷ map f xs) (f z)) same (contained_first (f y) (map f xs))
      | inr further ↦ contained_later (f y) (map f xs) (f x) (later further)
    ]

-- what all nodes make, by the number of keys
pub few_made : {R : Type 0} (cases : CaseMap) (value : ℕ) (old new : FunctionBuilder R) (ranges : List CaseRange) (nodes : List Node) → AreRangesFor cases (value_at old.func.now value).ty ranges → FindsCases ranges nodes 0
    → AreInOrder (0 ∷ []) 1 nodes → AreTestsOf ranges nodes → AreFew ranges nodes → (answer : Result (Unit {0}) BuildError) → AddsAtMost (nodes_make nodes) old new answer
    → AddsAtMost (switch_makes (length (case_keys cases))) old new answer
few_made cases value old new ranges nodes fits finds order tests small answer adds =
    let any : Switched = record { ty = (value_at old.func.now value).ty; value = answer_of 0 0; otherwise = answer_of 0 0; named = λ block. answer_of 0 0 } in
    adds_fewer (nodes_make nodes) (switch_makes (length (case_keys cases))) old new answer
    (switch_calls_are_few any cases ranges nodes (record { ranges_for = fits; finds = finds; order = order; tests = tests }) small).nodes_few adds

module _ {R : Type 0} (reads : LedgerIsReadByNumber) (asks : RequestsAskForTheirShapes) (codes : SwitchCallsAreCode)
    (cases : CaseMap) (value otherwise : ℕ) (old new : FunctionBuilder R) (ranges : List CaseRange) (nodes : List Node) (may : MayEmit cases value otherwise old)
    (fits : AreRangesFor cases (value_at old.func.now value).ty ranges) (fewest : AreFewest ranges) (finds : FindsCases ranges nodes 0) (order : AreInOrder (0 ∷ []) 1 nodes) (tests : AreTestsOf ranges nodes)
    (small : AreFew ranges nodes) where
  abbrev entries : List (ℕ × ℕ)
  entries = finite.entries cases

  abbrev blocks : List ℕ
  blocks = blocks_of_cases entries

  module _ (signature : SignatureShape) (calls : List AnsweredCall) (s : Switched) (block : Name) (stands : StandsFor signature calls old)
      (current : (ledger_of calls).current ≡ Some block) (named : NamesSwitch calls s cases value otherwise) where
    all_named : All (λ (c : ℕ). NamesBlock calls (s.named c) c) blocks
    all_named = each_case (λ (c : ℕ). NamesBlock calls (s.named c) c) cases ranges fits.ranges_of named.cases_named

    on_calls : (P : List AnsweredCall → Type 0) → P calls → P (calls ++ [])
    on_calls P p = subst P (sym (append-nil calls)) p

    at_start : StandsAt signature calls s value otherwise blocks [] old
    at_start = record {
      added = [];
      asked = refl;
      stands = on_calls (λ list. StandsFor signature list old) stands;
      value = on_calls (λ list. NamesValue list s.value value) named.value_named;
      typed = on_calls (λ list. type_of (ledger_of list) s.value ≡ Some s.ty) named.typed;
      otherwise_named = on_calls (λ list. NamesBlock list s.otherwise otherwise) named.otherwise_named;
      cases_named = λ b is. on_calls (λ list. NamesBlock list (s.named b) b) (All-contains (λ (c : ℕ). NamesBlock calls (s.named c) c) blocks b all_named is);
    }

    type_same : s.ty ≡ (value_at old.func.now value).ty
    type_same = type_is reads asks at_start

    -- the current block is there
    block_there : IsTrue (has_block (ledger_of calls) block)
    block_there =
        let name : block_name (ledger_of calls) may.current.0 ≡ Some block =
        same_some (sym (ap (option_map (block_name (ledger_of calls))) may.current.1) ∙ sym stands.ledger.current ∙ ap (option_map Some) current) in
        ap is_some ((reads calls old.func.now old.ctx.now.parts old.position stands.ledger).state may.current.0 block name).found
      where
        same_some : {x y : Option Name} → Some x ≡ Some y → x ≡ y
        same_some same = cc

    searches : SearchesCases s cases ranges nodes
    searches = record { ranges_for = subst (λ (ty : «Type»). AreRangesFor cases ty ranges) (sym type_same) fits; finds = finds; order = order; tests = tests }

    -- only blocks have items, and no block has a later name
    unwritten : (later : Name) → length (script_of calls) ≤ later.place → (program_of (script_of calls)).items later ≡ []
    unwritten later behind = elim (stands.carries.holds.blocks.only later) [
      | inl none ↦ none
      | inr (number, named) ↦
          let earlier = stands.carries.holds.blocks.earlier number later named in
          let many = as_many calls in
          absurd (omega (arith, behind, earlier, many))
    ]

    may_switch : MaySwitch (script_of calls) block s cases
    may_switch = record {
      current = current;
      there = block_there;
      int = subst (λ (ty : «Type»). IsTrue (is_int ty)) (sym type_same) may.integer;
      value = named.typed;
      otherwise = named.otherwise_named.is_block;
      targets = λ k d below.
          (All-contains (λ (c : ℕ). NamesBlock calls (s.named c) c) blocks _ all_named (mapped (λ (case : ℕ × ℕ). case.1) entries _ (All-contains_itself entries k d below))).is_block;
      unwritten = unwritten;
    }

    -- the list with the calls of the nodes at its end
    stood : MakesNodes (record { ty = (value_at old.func.now value).ty; val = value; otherwise = otherwise }) nodes old new done
        → (added : List AnsweredCall) × StandsFor signature (calls ++ added) new × IsCodeOf calls added s cases block
    unfolding at_start
    stood makes =
        let on : StandsOn at_start (nodes_calls s [] (tables_at at_start) nodes (next_place calls [])) new = makes signature calls s blocks [] at_start (all_cases entries ranges fits.ranges_of nodes tests.tests) in
        let many : next_place calls [] ≡ length (script_of calls) = let is = as_many calls in omega (arith, is) in
        let asked : script_of on.later.added ≡ switch_calls (script_of calls) s nodes =
        on.later.asked ∙ ap (λ (list : List AnsweredCall). nodes_calls s [] (length (ledger_of list).jump_tables) nodes (next_place calls [])) (append-nil calls)
        ∙ ap (λ (p : ℕ). nodes_calls s [] (length (ledger_of calls).jump_tables) nodes p) many in (
          on.later.added,
          on.later.stands,
          record {
            ranges = ranges;
            ranges_for = searches.ranges_for;
            fewest = fewest;
            most = λ table. subst (λ (more : Script). made_by_script more table ≤ switch_makes (length (case_keys cases)) table) (sym asked)
                ((switch_calls_are_few s cases ranges nodes searches small).calls_few [] (length (ledger_of calls).jump_tables) (length (script_of calls)) table);
            code = λ k short. subst (λ (more : Script). IsSwitchCode (script_of calls) more block s.value s.ty (case_keys cases) (case_edges s cases) (k + 2) 1) (sym asked)
                (codes (script_of calls) block s cases ranges nodes k may_switch searches short);
          },
        )

  pub emitted : EndsBlock {A = Unit {0}} (tables_in nodes) old new done → AddsAtMost (nodes_make nodes) old new done
      → MakesNodes (record { ty = (value_at old.func.now value).ty; val = value; otherwise = otherwise }) nodes old new done
      → Emits cases value otherwise old new (Ok tt)
  emitted ends most makes = record {
    loans = ends.steps.loans;
    srcloc = ends.steps.srcloc;
    failed = (λ is. absurd (no_failure is), λ is. absurd (no_error (ends.steps.failed.1 is)));
    unchanged = ends.steps.unchanged;
    errors = tt;
    too_wide = λ max. (λ is. absurd (no_key max is), λ wide. absurd (none_too_wide cases (value_at old.func.now value).ty fits.fit max wide.1));
    sound = ends.steps.fails;
    looks_once = ends.steps.looks_once;
    variables = ends.steps.variables;
    grows = ends.steps.grows;
    remembers = ends.steps.remembers;
    types = ends.steps.types;
    exceptions = ends.steps.exceptions;
    full = λ is. absurd (no_full is);
    most = λ some. few_made cases value old new ranges nodes fits finds order tests small (Ok tt) most (λ is. absurd (no_memory is));
    keeps = ends.steps.keeps;
    adds = ends.steps.adds;
    tables = ends.tables ∙ ap (λ (n : ℕ). old.func.now.tables.jump_tables ++ replicate n None) (tables_are entries ranges fits.ranges_of nodes tests);
    leaves = ends.leaves;
    left = ends.left;
    free = ends.free;
    stands = λ signature calls s block stands current named. stood signature calls s block stands current named makes;
  }
    where
      no_memory : ◌≡◌ {A = Result (Unit {0}) BuildError} (Ok tt) (Err Memory) → ⊥
      no_memory same = cc

      no_full : ◌≡◌ {A = Result (Unit {0}) SwitchError} (Ok tt) (Err (switch_error.Build Full)) → ⊥
      no_full same = cc

      no_failure : ◌≡◌ {A = Result (Unit {0}) SwitchError} (Ok tt) (Err (switch_error.Build Failed)) → ⊥
      no_failure same = cc

      no_key : (max : ℕ) → ◌≡◌ {A = Result (Unit {0}) SwitchError} (Ok tt) (Err (switch_error.KeyTooWide (value_at old.func.now value).ty max)) → ⊥
      no_key max same = cc

      no_error : ◌≡◌ {A = Result (Unit {0}) BuildError} (Ok tt) (Err Failed) → ⊥
      no_error same = cc
