-- When both machines agree: what denotes one instance has the same bits on both sides. Each kind of item keeps it, with
-- the bits that the machines give, and so does an edge.
use Rattle.std.proofs.Common.{◌≡◌, ◌≢◌, ◌⊎◌, ℕ, ◌≤◌, ◌==◌, Bool, true, false, List, [], ◌∷◌, map, length, Some, None, inl, inr, refl, sym, ◌∙◌, ap, subst, arith}
use Rattle.std.proofs.lemmas.Bool.{eqb-true}
use Rattle.std.proofs.lemmas.Bool.Decides.{nat_tests}
use Rattle.clif_paths.specs.Places.{Arm, Path, start}
use Rattle.clif_paths.specs.State.{fresh, reads, Naming, Program, Kind, unborn, born, pending, complete, zero_of, Definition, Function}
use Rattle.clif_paths.specs.Denotation.{Instance, given, variable, name, instances, denotes}
use Rattle.clif_paths.specs.Laws.{age}
use Rattle.clif_paths.proofs.PathLemmas.{dec_place}
use Rattle.clif_paths.proofs.Executing.{program_steps, function_steps, variable-kept, variable-assigned, entered-sealed, name-past, denotes-past}
use Rattle.clif_paths.proofs.Remembering.{program_knows, function_knows}
use Rattle.clif_meaning.specs.Name.{Name, same_name}
use Rattle.clif_meaning.specs.Store.{assigned}
use Rattle.clif_meaning.specs.FunctionMachine.{same_value}
use Rattle.clif_meaning.specs.ScriptMachine.{same_variable}
use Rattle.clif_simulation.specs.Tables.{code}
use Rattle.clif_simulation.proofs.Codes
use Rattle.clif_simulation.proofs.Labelling.Labels.{IsNothing, Labels, IsBornLabelled, born_denotes, born_has, given_is_something, holds_none, labelled_same}
use Rattle.clif_simulation.proofs.Finished.Giving.{In, name_keeps, value_keeps, same_given, same_or_other}

-- What denotes one instance has the same bits: variables and names, and such values, where labels fit. No variable has a label.
pub record Agrees (live : ℕ → Type 0) (program : Program) (function : Function) (labels : Labels program function) (path : Path) (variables : ℕ → ℕ) (names : Name → ℕ) (values : ℕ → ℕ) : Type 0 where
  pub of_variable : (x w : ℕ) → live w → labels.of_value w ≡ false → instances program path (variable x) ≡ denotes program function path w → variables x ≡ values w
  pub of_name : (n : Name) (w : ℕ) → live w → labels.of_name n ≡ labels.of_value w → instances program path (name (code n)) ≡ denotes program function path w
      → names n ≡ values w

-- what holds nothing, or a zero, has no bits set
pub record NothingIsZero (program : Program) (path : Path) (variables : ℕ → ℕ) (names : Name → ℕ) : Type 0 where
  pub of_variable : (x : ℕ) → IsNothing (instances program path (variable x)) → variables x ≡ 0
  pub of_name : (n : Name) → IsNothing (instances program path (name (code n))) → names n ≡ 0

-- each value
abbrev pub any_value : ℕ → Type 0
any_value w = Unit {0}

-- what arose before isn't what is given now
pub too_young : (n : ℕ) (arm : Arm) (path : Path) (i : Instance) → age i ≤ length path → i ≡ given n (arm ∷ path) → ⊥
too_young n arm path i old new =
    let same : age i ≡ length (arm ∷ path) = ap age new in
    absurd (omega arith)

-- An instruction at the arm's target gives these names, by their answers, and nothing else is given there.
pub record GivesThere (live : ℕ → Type 0) (program : Program) (function : Function) (arm : Arm) (path : Path) (results : List Name) (answered : Name → ℕ) : Type 0 where
  pub known : program.is_sealed arm.target ≡ true
  pub unassigned : (x : ℕ) → program.assigned arm.target x ≡ None
  pub named : (n : Name) → In n results → program.naming (code n) ≡ record { home = arm.target; origin = fresh }
  pub defined : (n : Name) → In n results → function.definition (answered n) ≡ record { home = arm.target; kind = born (code n) }
  pub only_names : (n : Name) → (program.naming (code n)).home ≡ arm.target → In n results
  pub only_values : (w : ℕ) → (function.definition w).home ≡ arm.target → (n : Name) × In n results × (w ≡ answered n)
  pub are_live : (n : Name) → In n results → live (answered n)
  -- whatever was given before, to name and value alike
  pub before : (n : Name) → In n results → instances program path (name (code n)) ≡ denotes program function path (answered n)

module _ (live : ℕ → Type 0) (program : Program) (function : Function) (labels : Labels program function) (arm : Arm) (path : Path) (results : List Name) (answered : Name → ℕ)
    (gives : GivesThere live program function arm path results answered)
    (variables : ℕ → ℕ) (names : Name → ℕ) (values : ℕ → ℕ) (agrees : Agrees live program function labels path variables names values) (bits : List ℕ)
  where
    abbrev pub new_names : Name → ℕ
    new_names = assigned same_name results bits names

    abbrev pub new_values : ℕ → ℕ
    new_values = assigned same_value (map answered results) bits values

    value_given : (n : Name) → In n results → denotes program function (arm ∷ path) (answered n) ≡ given (code n) (arm ∷ path)
    value_given n there = (function_steps program function arm path).born_here (answered n) (code n) (gives.defined n there)

    pub name_given : (n : Name) → In n results → instances program (arm ∷ path) (name (code n)) ≡ given (code n) (arm ∷ path)
    name_given n there = (program_steps program arm path).given_here (code n) (gives.named n there)

    -- a value that is defined elsewhere keeps its bits
    pub value_stays : (w : ℕ) → (function.definition w).home ≢ arm.target → new_values w ≡ values w
    value_stays w elsewhere = value_keeps answered results bits values w (λ n there e.
        elsewhere (ap (λ (v : ℕ). (function.definition v).home) e ∙ ap (λ (d : Definition). d.home) (gives.defined n there)))

    pub name_stays : (n : Name) → (program.naming (code n)).home ≢ arm.target → new_names n ≡ names n
    name_stays n elsewhere = name_keeps results bits names n (λ there. elsewhere (ap (λ (k : Naming). k.home) (gives.named n there)))

    -- nothing older denotes what a value born here does
    none_older : (i : Instance) (w : ℕ) → age i ≤ length path → (function.definition w).home ≡ arm.target → i ≡ denotes program function (arm ∷ path) w → ⊥
    none_older i w old at same =
        let found = gives.only_values w at in
        too_young (code found.0) arm path i old
        (same ∙ ap (λ (v : ℕ). denotes program function (arm ∷ path) v) found.2 ∙ value_given found.0 found.1)

    variable_agrees : (x w : ℕ) → live w → labels.of_value w ≡ false → instances program (arm ∷ path) (variable x) ≡ denotes program function (arm ∷ path) w → variables x ≡ new_values w
    variable_agrees x w is_live fit same = by (dec_place (function.definition w).home arm.target)
      where
        kept : instances program (arm ∷ path) (variable x) ≡ instances program path (variable x)
        kept = variable-kept program arm path x gives.known (gives.unassigned x)

        by : Dec ((function.definition w).home ≡ arm.target) → variables x ≡ new_values w
        by (yes at) = absurd (none_older (instances program path (variable x)) w (program_knows program path (variable x)) at (sym kept ∙ same))
        by (no elsewhere) =
            agrees.of_variable x w is_live fit (sym kept ∙ same ∙ denotes-past program function arm path w elsewhere) ∙ sym (value_stays w elsewhere)

    pub apart : (a b : Name) → In a results → In b results → answered a ≡ answered b → a ≡ b
    apart a b in_a in_b same =
        let one : ◌≡◌ {A = Definition} (record { home = arm.target; kind = born (code a) }) (record { home = arm.target; kind = born (code b) }) =
        sym (gives.defined a in_a) ∙ ap function.definition same ∙ gives.defined b in_b in
        let kinds : born (code a) ≡ born (code b) = ap (λ (d : Definition). d.kind) one in
        let codes : code a ≡ code b = cc in
        Codes.differ a b codes

    name_agrees : (n : Name) (w : ℕ) → live w → labels.of_name n ≡ labels.of_value w → instances program (arm ∷ path) (name (code n)) ≡ denotes program function (arm ∷ path) w → new_names n ≡ new_values w
    name_agrees n w is_live fit same = by (dec_place (program.naming (code n)).home arm.target) (dec_place (function.definition w).home arm.target)
      where
        old_name : (program.naming (code n)).home ≢ arm.target → instances program (arm ∷ path) (name (code n)) ≡ instances program path (name (code n))
        old_name other = name-past program arm path (code n) other

        -- the value that is born here under the name's instance answers the name
        answers : In n results → (m : Name) × In m results × (w ≡ answered m) → w ≡ answered n
        answers there found =
            let one : given (code n) (arm ∷ path) ≡ given (code found.0) (arm ∷ path) =
            sym (name_given n there) ∙ same ∙ ap (λ (v : ℕ). denotes program function (arm ∷ path) v) found.2 ∙ value_given found.0 found.1 in
            let codes : code found.0 ≡ code n = cc in
            found.2 ∙ ap answered (Codes.differ found.0 n codes)

        by : Dec ((program.naming (code n)).home ≡ arm.target) → Dec ((function.definition w).home ≡ arm.target) → new_names n ≡ new_values w
        by (yes here) (yes at) =
            let there : In n results = gives.only_names n here in
            same_given answered results bits names values n apart there (agrees.of_name n (answered n) (gives.are_live n there) (labels.answers n (answered n) arm.target (gives.named n there) (gives.defined n there)) (gives.before n there))
            ∙ ap new_values (sym (answers there (gives.only_values w at)))
        by (yes here) (no elsewhere) =
            absurd (too_young (code n) arm path (denotes program function path w) (function_knows program function path w)
            (sym (denotes-past program function arm path w elsewhere) ∙ sym same ∙ name_given n (gives.only_names n here)))
        by (no other) (yes at) =
            absurd (none_older (instances program path (name (code n))) w (program_knows program path (name (code n))) at (sym (old_name other) ∙ same))
        by (no other) (no elsewhere) =
            name_stays n other ∙ agrees.of_name n w is_live fit (sym (old_name other) ∙ same ∙ denotes-past program function arm path w elsewhere)
            ∙ sym (value_stays w elsewhere)

    pub given_agrees : Agrees live program function labels (arm ∷ path) variables new_names new_values
    given_agrees = record { of_variable = variable_agrees; of_name = name_agrees }

-- A use at the arm's target gives this name, and nothing else is given there.
pub record UsesThere (program : Program) (function : Function) (arm : Arm) (x : ℕ) (used : Name) : Type 0 where
  pub begun : arm.target ≢ start
  pub known : program.is_sealed arm.target ≡ true
  pub unassigned : (y : ℕ) → program.assigned arm.target y ≡ None
  pub named : program.naming (code used) ≡ record { home = arm.target; origin = reads x }
  pub only_names : (n : Name) → (program.naming (code n)).home ≡ arm.target → n ≡ used
  pub no_values : (w : ℕ) → (function.definition w).home ≢ arm.target

module _ (live : ℕ → Type 0) (program : Program) (function : Function) (labels : Labels program function) (arm : Arm) (path : Path) (x : ℕ) (used : Name)
    (uses : UsesThere program function arm x used)
    (variables : ℕ → ℕ) (names : Name → ℕ) (values : ℕ → ℕ) (agrees : Agrees live program function labels path variables names values)
  where
    abbrev pub names_with_use : Name → ℕ
    names_with_use = assigned same_name (used ∷ []) (variables x ∷ []) names

    kept_variable : (y : ℕ) → instances program (arm ∷ path) (variable y) ≡ instances program path (variable y)
    kept_variable y = variable-kept program arm path y uses.known (uses.unassigned y)

    kept_value : (w : ℕ) → denotes program function (arm ∷ path) w ≡ denotes program function path w
    kept_value w = denotes-past program function arm path w (uses.no_values w)

    pub read_name : instances program (arm ∷ path) (name (code used)) ≡ instances program path (variable x)
    read_name =
        (program_steps program arm path).read_here (code used) x uses.named ∙ entered-sealed program arm path x uses.known

    used_agrees_at : (n : Name) (w : ℕ) → live w → labels.of_name n ≡ labels.of_value w → instances program (arm ∷ path) (name (code n)) ≡ denotes program function (arm ∷ path) w → names_with_use n ≡ values w
    used_agrees_at n w is_live fit same = by (same_or_other n used)
      where
        by : ((same_name n used ≡ true) × (n ≡ used)) ⊎ ((same_name n used ≡ false) × (n ≢ used)) → names_with_use n ≡ values w
        by (inl one) =
            rw (one.0) (agrees.of_variable x w is_live
            (sym (ap labels.of_name (sym one.1) ∙ fit) ∙ labels.used used x (λ none. uses.begun (sym (ap (λ (k : Naming). k.home) uses.named) ∙ none)) (ap (λ (k : Naming). k.origin) uses.named))
            (sym read_name
            ∙ ap (λ (m : Name). instances program (arm ∷ path) (name (code m))) (sym one.1) ∙ same ∙ kept_value w))
        by (inr other) =
            rw (other.0) (agrees.of_name n w is_live fit (sym (name-past program arm path (code n) (λ here. other.1 (uses.only_names n here))) ∙ same ∙ kept_value w))

    pub used_agrees : Agrees live program function labels (arm ∷ path) variables names_with_use values
    used_agrees = record {
      of_variable = λ y w is_live fit same. agrees.of_variable y w is_live fit (sym (kept_variable y) ∙ same ∙ kept_value w);
      of_name = used_agrees_at;
    }

-- An assignment at the arm's target assigns this name to this variable alone, and nothing is given there.
pub record AssignsThere (program : Program) (function : Function) (arm : Arm) (x : ℕ) (from : Name) : Type 0 where
  pub known : program.is_sealed arm.target ≡ true
  pub written : program.assigned arm.target x ≡ Some (code from)
  pub unwritten : (y : ℕ) → y ≢ x → program.assigned arm.target y ≡ None
  pub no_names : (n : Name) → (program.naming (code n)).home ≢ arm.target
  pub no_values : (w : ℕ) → (function.definition w).home ≢ arm.target

module _ (live : ℕ → Type 0) (program : Program) (function : Function) (labels : Labels program function) (arm : Arm) (path : Path) (x : ℕ) (from : Name)
    (assigns : AssignsThere program function arm x from)
    (variables : ℕ → ℕ) (names : Name → ℕ) (values : ℕ → ℕ) (agrees : Agrees live program function labels path variables names values)
  where
    abbrev pub variables_with_assignment : ℕ → ℕ
    variables_with_assignment = assigned same_variable (x ∷ []) (names from ∷ []) variables

    same_value_denoted : (w : ℕ) → denotes program function (arm ∷ path) w ≡ denotes program function path w
    same_value_denoted w = denotes-past program function arm path w (assigns.no_values w)

    assigned_agrees_at : (y w : ℕ) → live w → labels.of_value w ≡ false → instances program (arm ∷ path) (variable y) ≡ denotes program function (arm ∷ path) w → variables_with_assignment y ≡ values w
    assigned_agrees_at y w is_live fit same = by (y == x) refl
      where
        by : (test : Bool) → (y == x) ≡ test → variables_with_assignment y ≡ values w
        by true one =
            rw one (agrees.of_name from w is_live (labels.assigned arm.target x from assigns.written ∙ sym fit) (
            sym (variable-assigned program arm path x (code from) assigns.written)
            ∙ ap (λ (z : ℕ). instances program (arm ∷ path) (variable z)) (sym (eqb-true y x one)) ∙ same ∙ same_value_denoted w))
        by false other =
            let apart : y ≢ x = grind (arith, nat_tests) in
            rw other (agrees.of_variable y w is_live fit (
            sym (variable-kept program arm path y assigns.known (assigns.unwritten y apart)) ∙ same ∙ same_value_denoted w))

    pub assigned_agrees : Agrees live program function labels (arm ∷ path) variables_with_assignment names values
    assigned_agrees = record {
      of_variable = assigned_agrees_at;
      of_name = λ n w is_live fit same. agrees.of_name n w is_live fit (sym (name-past program arm path (code n) (assigns.no_names n)) ∙ same ∙ same_value_denoted w);
    }

-- Bits of zeros ---------------------------------------------------------------------------------------------------------

-- a zero, or a result on the way to one, which no path sees
abbrev pub IsBlank : Kind → Type 0
IsBlank unborn = Unit {0}
IsBlank (zero_of x) = Unit {0}
IsBlank (born n) = ⊥
IsBlank (pending x) = ⊥
IsBlank (complete x) = ⊥

-- a variable or name that holds a zero has no bits set, and neither has a zero
pub record ZerosAreZero (program : Program) (function : Function) (path : Path) (variables : ℕ → ℕ) (names : Name → ℕ) (values : ℕ → ℕ) : Type 0 where
  pub held : NothingIsZero program path variables names
  pub of_value : (w : ℕ) → IsBlank (function.definition w).kind → values w ≡ 0

-- What has no label has the bits of a value that it denotes, labelled or not: a labelled one is nothing then, and its name has no
-- bits set.
module _ (live : ℕ → Type 0) (program : Program) (function : Function) (labels : Labels program function) (path : Path)
    (variables : ℕ → ℕ) (names : Name → ℕ) (values : ℕ → ℕ) (agrees : Agrees live program function labels path variables names values)
    (held : NothingIsZero program path variables names)
  where
    -- a labelled value that denotes nothing
    labelled_zero : (w : ℕ) → live w → labels.of_value w ≡ true → IsNothing (denotes program function path w) → values w ≡ 0
    labelled_zero w is_live is nothing =
        let b : IsBornLabelled labels.of_name program function w = labels.are_born w is in
        let same = born_denotes program function labels w b path in
        sym (agrees.of_name b.source w is_live (b.labelled ∙ sym is) same) ∙ held.of_name b.source (subst IsNothing (sym same) nothing)

    -- and one that nothing unlabelled shares anything with
    shared_zero : (w : ℕ) → live w → (is : labels.of_value w ≡ true) → ((m : Name) (q : Path) → labels.of_name m ≡ true → denotes program function path w ≡ given (code m) q → ⊥)
        → IsNothing (denotes program function path w) × (values w ≡ 0)
    shared_zero w is_live is apart = by (born_has program function labels w (labels.are_born w is) path)
      where
        by : IsNothing (denotes program function path w) ⊎ ((q : Path) × (denotes program function path w ≡ given (code (labels.are_born w is).source) q))
            → IsNothing (denotes program function path w) × (values w ≡ 0)
        by (inl nothing) = (nothing, labelled_zero w is_live is nothing)
        by (inr one) = absurd (apart (labels.are_born w is).source one.0 (labels.are_born w is).labelled one.1)

    pub unlabelled_variable : (x w : ℕ) → live w → instances program path (variable x) ≡ denotes program function path w → variables x ≡ values w
    unlabelled_variable x w is_live same = by (labels.of_value w) refl
      where
        by : (test : Bool) → labels.of_value w ≡ test → variables x ≡ values w
        by false is = agrees.of_variable x w is_live is same
        by true is =
            let zero_there = shared_zero w is_live is (λ m q labelled one. (holds_none program function labels path).of_variable x m q labelled (same ∙ one)) in
            held.of_variable x (subst IsNothing (sym same) zero_there.0) ∙ sym zero_there.1

    pub unlabelled_name : (n : Name) (w : ℕ) → live w → labels.of_name n ≡ false → instances program path (name (code n)) ≡ denotes program function path w
        → names n ≡ values w
    unlabelled_name n w is_live plain same = by (labels.of_value w) refl
      where
        not_both : (m : Name) → labels.of_name m ≡ true → n ≡ m → ⊥
        not_both m labelled one = clash (sym labelled ∙ ap labels.of_name (sym one) ∙ plain)
          where
            clash : true ≡ false → ⊥
            clash h = cc

        by : (test : Bool) → labels.of_value w ≡ test → names n ≡ values w
        by false is = agrees.of_name n w is_live (plain ∙ sym is) same
        by true is =
            let zero_there = shared_zero w is_live is (λ m q labelled one. not_both m labelled (labelled_same program function labels path n m q labelled (same ∙ one))) in
            held.of_name n (subst IsNothing (sym same) zero_there.0) ∙ sym zero_there.1

    -- a name has the bits of a value that it denotes, where it has no label or they fit
    pub name_bits : (n : Name) (w : ℕ) → live w → (labels.of_name n ≡ true → labels.of_value w ≡ true) → instances program path (name (code n)) ≡ denotes program function path w
        → names n ≡ values w
    name_bits n w is_live fit same = by (labels.of_name n) refl
      where
        by : (test : Bool) → labels.of_name n ≡ test → names n ≡ values w
        by false plain = unlabelled_name n w is_live plain same
        by true is = agrees.of_name n w is_live (is ∙ sym (fit is)) same

module _ (live : ℕ → Type 0) (program : Program) (function : Function) (labels : Labels program function) (arm : Arm) (path : Path) (results : List Name) (answered : Name → ℕ)
    (gives : GivesThere live program function arm path results answered)
    (variables : ℕ → ℕ) (names : Name → ℕ) (values : ℕ → ℕ) (agrees : Agrees live program function labels path variables names values) (bits : List ℕ)
  where
    pub given_nothing : NothingIsZero program path variables names
        → NothingIsZero program (arm ∷ path) variables (new_names live program function labels arm path results answered gives variables names values agrees bits)
    given_nothing held = record {
      of_variable = λ x is. held.of_variable x (subst IsNothing (variable-kept program arm path x gives.known (gives.unassigned x)) is);
      of_name = λ n is. by n is (dec_place (program.naming (code n)).home arm.target);
    }
      where
        by : (n : Name) → IsNothing (instances program (arm ∷ path) (name (code n))) → Dec ((program.naming (code n)).home ≡ arm.target)
            → new_names live program function labels arm path results answered gives variables names values agrees bits n ≡ 0
        by n is (yes here) =
            absurd (given_is_something (code n) (arm ∷ path) (instances program (arm ∷ path) (name (code n)))
            (sym (name_given live program function labels arm path results answered gives variables names values agrees bits n (gives.only_names n here))) is)
        by n is (no other) =
            name_stays live program function labels arm path results answered gives variables names values agrees bits n other
            ∙ held.of_name n (subst IsNothing (name-past program arm path (code n) other) is)

    pub given_zeros : ZerosAreZero program function path variables names values
        → ZerosAreZero program function (arm ∷ path) variables
        (new_names live program function labels arm path results answered gives variables names values agrees bits)
        (new_values live program function labels arm path results answered gives variables names values agrees bits)
    given_zeros zeros = record {
      held = given_nothing zeros.held;
      of_value = λ w blank.
          value_keeps answered results bits values w (λ n there e.
          subst IsBlank (ap (λ (v : ℕ). (function.definition v).kind) e ∙ ap (λ (d : Definition). d.kind) (gives.defined n there)) blank)
          ∙ zeros.of_value w blank;
    }

module _ (live : ℕ → Type 0) (program : Program) (function : Function) (labels : Labels program function) (arm : Arm) (path : Path) (x : ℕ) (used : Name)
    (uses : UsesThere program function arm x used)
    (variables : ℕ → ℕ) (names : Name → ℕ) (values : ℕ → ℕ) (agrees : Agrees live program function labels path variables names values)
  where
    pub used_nothing : NothingIsZero program path variables names
        → NothingIsZero program (arm ∷ path) variables (names_with_use live program function labels arm path x used uses variables names values agrees)
    used_nothing held = record {
      of_variable = λ z is. held.of_variable z (subst IsNothing (variable-kept program arm path z uses.known (uses.unassigned z)) is);
      of_name = λ n is. by n is (same_or_other n used);
    }
      where
        by : (n : Name) → IsNothing (instances program (arm ∷ path) (name (code n)))
            → ((same_name n used ≡ true) × (n ≡ used)) ⊎ ((same_name n used ≡ false) × (n ≢ used))
            → names_with_use live program function labels arm path x used uses variables names values agrees n ≡ 0
        by n is (inl one) =
            rw (one.0) (held.of_variable x (subst IsNothing (ap (λ (m : Name). instances program (arm ∷ path) (name (code m))) one.1
            ∙ read_name live program function labels arm path x used uses variables names values agrees) is))
        by n is (inr other) =
            rw (other.0) (held.of_name n (subst IsNothing (name-past program arm path (code n) (λ here. other.1 (uses.only_names n here))) is))

    pub used_zeros : ZerosAreZero program function path variables names values
        → ZerosAreZero program function (arm ∷ path) variables (names_with_use live program function labels arm path x used uses variables names values agrees) values
    used_zeros zeros = record { held = used_nothing zeros.held; of_value = zeros.of_value }

module _ (live : ℕ → Type 0) (program : Program) (function : Function) (labels : Labels program function) (arm : Arm) (path : Path) (x : ℕ) (from : Name)
    (assigns : AssignsThere program function arm x from)
    (variables : ℕ → ℕ) (names : Name → ℕ) (values : ℕ → ℕ) (agrees : Agrees live program function labels path variables names values)
  where
    pub assigned_nothing : NothingIsZero program path variables names
        → NothingIsZero program (arm ∷ path) (variables_with_assignment live program function labels arm path x from assigns variables names values agrees) names
    assigned_nothing held = record {
      of_variable = λ z is. by z is (z == x) refl;
      of_name = λ n is. held.of_name n (subst IsNothing (name-past program arm path (code n) (assigns.no_names n)) is);
    }
      where
        by : (z : ℕ) → IsNothing (instances program (arm ∷ path) (variable z)) → (test : Bool) → (z == x) ≡ test
            → variables_with_assignment live program function labels arm path x from assigns variables names values agrees z ≡ 0
        by z is true one =
            rw one (held.of_name from (subst IsNothing (ap (λ (u : ℕ). instances program (arm ∷ path) (variable u)) (eqb-true z x one)
            ∙ variable-assigned program arm path x (code from) assigns.written) is))
        by z is false other =
            let apart : z ≢ x = grind (arith, nat_tests) in
            rw other (held.of_variable z (subst IsNothing (variable-kept program arm path z assigns.known (assigns.unwritten z apart)) is))

    pub assigned_zeros : ZerosAreZero program function path variables names values
        → ZerosAreZero program function (arm ∷ path) (variables_with_assignment live program function labels arm path x from assigns variables names values agrees) names values
    assigned_zeros zeros = record { held = assigned_nothing zeros.held; of_value = zeros.of_value }

-- where all bits are zero, they agree
pub zeros_agree : (live : ℕ → Type 0) (program : Program) (function : Function) (labels : Labels program function) (path : Path) (variables : ℕ → ℕ) (names : Name → ℕ) (values : ℕ → ℕ)
    → ((x : ℕ) → variables x ≡ 0) → ((n : Name) → names n ≡ 0) → ((w : ℕ) → values w ≡ 0) → Agrees live program function labels path variables names values
zeros_agree live program function labels path variables names values zero_variables zero_names zero_values = record {
  of_variable = λ x w is_live fit same. zero_variables x ∙ sym (zero_values w);
  of_name = λ n w is_live fit same. zero_names n ∙ sym (zero_values w);
}

-- where values have the same bits, they agree as well
pub agrees_still : (live : ℕ → Type 0) (program : Program) (function : Function) (labels : Labels program function) (path : Path) (variables : ℕ → ℕ) (names : Name → ℕ) (old new : ℕ → ℕ)
    → ((w : ℕ) → new w ≡ old w) → Agrees live program function labels path variables names old → Agrees live program function labels path variables names new
agrees_still live program function labels path variables names old new same agrees = record {
  of_variable = λ x w is_live fit is. agrees.of_variable x w is_live fit is ∙ sym (same w);
  of_name = λ n w is_live fit is. agrees.of_name n w is_live fit is ∙ sym (same w);
}

pub zeros_still : (program : Program) (function : Function) (path : Path) (variables : ℕ → ℕ) (names : Name → ℕ) (old new : ℕ → ℕ)
    → ((w : ℕ) → new w ≡ old w) → ZerosAreZero program function path variables names old → ZerosAreZero program function path variables names new
zeros_still program function path variables names old new same zeros = record {
  held = zeros.held;
  of_value = λ w blank. same w ∙ zeros.of_value w blank;
}
