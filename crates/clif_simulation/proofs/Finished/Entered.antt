-- When both machines agree as a block is entered: its parameters that the caller made and their answers get the same bits,
-- and other values come along.
use Rattle.std.proofs.Common.{◌≡◌, ◌≢◌, ◌⊎◌, ℕ, true, List, ◌∷◌, map, length, None, inl, inr, sym, ◌∙◌, ap, subst}
use Rattle.clif_paths.specs.Places.{Arm, Path}
use Rattle.clif_paths.specs.State.{fresh, Naming, Program, born, Definition, Function}
use Rattle.clif_paths.specs.Denotation.{Instance, zero, given, variable, name, instances, denotes}
use Rattle.clif_paths.proofs.PathLemmas.{dec_place}
use Rattle.clif_paths.proofs.Executing.{program_steps, function_steps, variable-kept, name-past}
use Rattle.clif_paths.proofs.Remembering.{program_knows, function_knows}
use Rattle.clif_meaning.specs.Name.{Name, same_name}
use Rattle.clif_meaning.specs.Store.{assigned}
use Rattle.clif_meaning.specs.FunctionMachine.{same_value}
use Rattle.clif_simulation.specs.Tables.{code}
use Rattle.clif_simulation.proofs.Finished.Agreement.{Agrees, IsBlank, ZerosAreZero, name_bits, too_young, unlabelled_variable}
use Rattle.clif_simulation.proofs.Codes
use Rattle.clif_simulation.proofs.Labelling.Labels.{IsNothing, Labels, given_is_something}
use Rattle.clif_simulation.proofs.Finished.Giving.{In, name_keeps, value_keeps, same_all, same_given}

-- What such a value is after an edge: what another was before, with its bits, or a zero without bits. Where it isn't that value
-- itself, it is born with no name.
abbrev pub ComesAlong : (ℕ → Type 0) → Program → Function → Arm → Path → (ℕ → ℕ) → (ℕ → ℕ) → ℕ → Type 0
ComesAlong live program function arm path old new w =
    ((u : ℕ) × live u × (denotes program function (arm ∷ path) w ≡ denotes program function path u) × (new w ≡ old u)
    × ((w ≡ u) ⊎ ((n : ℕ) → (function.definition w).kind ≢ born n)))
    ⊎ ((x : ℕ) × (denotes program function (arm ∷ path) w ≡ zero x) × (new w ≡ 0))

-- Nothing is assigned at the arm's target; these names are given there, by their answers, and no others; and the other values
-- come along.
pub record EntersThere (live : ℕ → Type 0) (program : Program) (function : Function) (arm : Arm) (path : Path) (parameters : List Name) (answered : Name → ℕ) (old new : ℕ → ℕ) : Type 0 where
  pub known : program.is_sealed arm.target ≡ true
  pub unassigned : (x : ℕ) → program.assigned arm.target x ≡ None
  pub named : (n : Name) → In n parameters → program.naming (code n) ≡ record { home = arm.target; origin = fresh }
  pub defined : (n : Name) → In n parameters → function.definition (answered n) ≡ record { home = arm.target; kind = born (code n) }
  pub only_names : (n : Name) → (program.naming (code n)).home ≡ arm.target → In n parameters
  pub comes : (w : ℕ) → live w → ((n : Name) × In n parameters × (w ≡ answered n)) ⊎ ComesAlong live program function arm path old new w
  pub zeros_stay : (w : ℕ) → IsBlank (function.definition w).kind → new w ≡ old w

-- There are as many bits as parameters, or each parameter and its answer had the same bits.
abbrev pub Fit : List Name → (Name → ℕ) → List ℕ → (Name → ℕ) → (ℕ → ℕ) → Type 0
Fit parameters answered bits names values =
    (length bits ≡ length parameters) ⊎ ((n : Name) → In n parameters → names n ≡ values (answered n))

given_no_zero : (n y : ℕ) (path : Path) → ◌≡◌ {A = Instance} (given n path) (zero y) → ⊥
given_no_zero n y path h = cc

module _ (live : ℕ → Type 0) (program : Program) (function : Function) (labels : Labels program function) (arm : Arm) (path : Path) (parameters : List Name) (answered : Name → ℕ) (old new : ℕ → ℕ)
    (enters : EntersThere live program function arm path parameters answered old new)
    (variables : ℕ → ℕ) (names : Name → ℕ) (agrees : Agrees live program function labels path variables names old)
    (zeros : ZerosAreZero program function path variables names old) (bits : List ℕ) (fit : Fit parameters answered bits names new)
  where
    abbrev pub names_there : Name → ℕ
    names_there = assigned same_name parameters bits names

    abbrev pub values_there : ℕ → ℕ
    values_there = assigned same_value (map answered parameters) bits new

    same_variable_there : (x : ℕ) → instances program (arm ∷ path) (variable x) ≡ instances program path (variable x)
    same_variable_there x = variable-kept program arm path x enters.known (enters.unassigned x)

    name_given : (n : Name) → In n parameters → instances program (arm ∷ path) (name (code n)) ≡ given (code n) (arm ∷ path)
    name_given n there = (program_steps program arm path).given_here (code n) (enters.named n there)

    value_given : (n : Name) → In n parameters → denotes program function (arm ∷ path) (answered n) ≡ given (code n) (arm ∷ path)
    value_given n there = (function_steps program function arm path).born_here (answered n) (code n) (enters.defined n there)

    -- what a value denotes that answers one of them
    denotes_new : (w : ℕ) (n : Name) → In n parameters → w ≡ answered n → denotes program function (arm ∷ path) w ≡ given (code n) (arm ∷ path)
    denotes_new w n there is = ap (λ (v : ℕ). denotes program function (arm ∷ path) v) is ∙ value_given n there

    -- a value that comes along answers none of them
    along_keeps : (w : ℕ) → ComesAlong live program function arm path old new w → values_there w ≡ new w
    along_keeps w (inl from) =
        value_keeps answered parameters bits new w (λ n there is.
        too_young (code n) arm path (denotes program function path from.0) (function_knows program function path from.0) (sym from.2 ∙ denotes_new w n there is))
    along_keeps w (inr none) =
        value_keeps answered parameters bits new w (λ n there is. given_no_zero (code n) none.0 (arm ∷ path) (sym (denotes_new w n there is) ∙ none.1))

    name_elsewhere : (n : Name) → (program.naming (code n)).home ≢ arm.target → names_there n ≡ names n
    name_elsewhere n elsewhere = name_keeps parameters bits names n (λ there. elsewhere (ap (λ (k : Naming). k.home) (enters.named n there)))

    apart : (a b : Name) → In a parameters → In b parameters → answered a ≡ answered b → a ≡ b
    apart a b in_a in_b same =
        let one : ◌≡◌ {A = Definition} (record { home = arm.target; kind = born (code a) }) (record { home = arm.target; kind = born (code b) }) =
        sym (enters.defined a in_a) ∙ ap function.definition same ∙ enters.defined b in_b in
        let kinds : born (code a) ≡ born (code b) = ap (λ (d : Definition). d.kind) one in
        let codes : code a ≡ code b = cc in
        Codes.differ a b codes

    -- one of them and its answer get the same
    given_alike : (n : Name) → In n parameters → Fit parameters answered bits names new → names_there n ≡ values_there (answered n)
    given_alike n there (inl as_many) = same_all answered parameters bits names new n apart there as_many
    given_alike n there (inr before) = same_given answered parameters bits names new n apart there (before n there)

    -- a value that another comes along as has that value's label or none
    from_labelled : (w u : ℕ) → (w ≡ u) ⊎ ((n : ℕ) → (function.definition w).kind ≢ born n) → labels.of_value w ≡ true → labels.of_value u ≡ true
    from_labelled w u (inl same) is = sym (ap labels.of_value same) ∙ is
    from_labelled w u (inr unborn) is =
        let b = labels.are_born w is in
        absurd (unborn (code b.source) (ap (λ (d : Definition). d.kind) b.defined))

    -- a variable
    variable_by : (x w : ℕ) → instances program (arm ∷ path) (variable x) ≡ denotes program function (arm ∷ path) w
        → ((n : Name) × In n parameters × (w ≡ answered n)) ⊎ ComesAlong live program function arm path old new w → variables x ≡ values_there w
    variable_by x w same (inl found) =
        absurd (too_young (code found.0) arm path (instances program path (variable x)) (program_knows program path (variable x))
        (sym (same_variable_there x) ∙ same ∙ denotes_new w found.0 found.1 found.2))
    variable_by x w same (inr (inl from)) =
        unlabelled_variable live program function labels path variables names old agrees zeros.held x from.0 from.1 (sym (same_variable_there x) ∙ same ∙ from.2) ∙ sym from.3 ∙ sym (along_keeps w (inl from))
    variable_by x w same (inr (inr none)) =
        zeros.held.of_variable x (subst IsNothing (sym (sym (same_variable_there x) ∙ same ∙ none.1)) tt) ∙ sym none.2 ∙ sym (along_keeps w (inr none))

    -- a name
    name_by : (n : Name) (w : ℕ) → labels.of_name n ≡ labels.of_value w → instances program (arm ∷ path) (name (code n)) ≡ denotes program function (arm ∷ path) w
        → ((m : Name) × In m parameters × (w ≡ answered m)) ⊎ ComesAlong live program function arm path old new w
        → Dec ((program.naming (code n)).home ≡ arm.target) → names_there n ≡ values_there w
    name_by n w labels_fit same (inl found) (yes here) =
        let there : In n parameters = enters.only_names n here in
        let one : given (code n) (arm ∷ path) ≡ given (code found.0) (arm ∷ path) = sym (name_given n there) ∙ same ∙ denotes_new w found.0 found.1 found.2 in
        let codes : code found.0 ≡ code n = cc in
        given_alike n there fit
        ∙ ap values_there (sym (found.2 ∙ ap answered (Codes.differ found.0 n codes)))
    name_by n w labels_fit same (inl found) (no other) =
        absurd (too_young (code found.0) arm path (instances program path (name (code n))) (program_knows program path (name (code n)))
        (sym (name-past program arm path (code n) other) ∙ same ∙ denotes_new w found.0 found.1 found.2))
    name_by n w labels_fit same (inr (inl from)) (yes here) =
        absurd (too_young (code n) arm path (denotes program function path from.0) (function_knows program function path from.0)
        (sym from.2 ∙ sym same ∙ name_given n (enters.only_names n here)))
    name_by n w labels_fit same (inr (inl from)) (no other) =
        name_elsewhere n other
        ∙ name_bits live program function labels path variables names old agrees zeros.held n from.0 from.1 (λ is. from_labelled w from.0 from.4 (sym labels_fit ∙ is)) (sym (name-past program arm path (code n) other) ∙ same ∙ from.2) ∙ sym from.3
        ∙ sym (along_keeps w (inl from))
    name_by n w labels_fit same (inr (inr none)) (yes here) =
        absurd (given_no_zero (code n) none.0 (arm ∷ path) (sym (name_given n (enters.only_names n here)) ∙ same ∙ none.1))
    name_by n w labels_fit same (inr (inr none)) (no other) =
        name_elsewhere n other ∙ zeros.held.of_name n (subst IsNothing (sym (sym (name-past program arm path (code n) other) ∙ same ∙ none.1)) tt) ∙ sym none.2
        ∙ sym (along_keeps w (inr none))

    pub entered_agrees : Agrees live program function labels (arm ∷ path) variables names_there values_there
    entered_agrees = record {
      of_variable = λ x w is_live labels_fit same. variable_by x w same (enters.comes w is_live);
      of_name = λ n w is_live labels_fit same. name_by n w labels_fit same (enters.comes w is_live) (dec_place (program.naming (code n)).home arm.target);
    }

    pub entered_zeros : ZerosAreZero program function (arm ∷ path) variables names_there values_there
    entered_zeros = record {
      held = record {
        of_variable = λ x is. zeros.held.of_variable x (subst IsNothing (same_variable_there x) is);
        of_name = λ n is. by n is (dec_place (program.naming (code n)).home arm.target);
      };
      of_value = λ w blank.
          value_keeps answered parameters bits new w (λ n there e.
          subst IsBlank (ap (λ (v : ℕ). (function.definition v).kind) e ∙ ap (λ (d : Definition). d.kind) (enters.defined n there)) blank)
          ∙ enters.zeros_stay w blank ∙ zeros.of_value w blank;
    }
      where
        by : (n : Name) → IsNothing (instances program (arm ∷ path) (name (code n))) → Dec ((program.naming (code n)).home ≡ arm.target) → names_there n ≡ 0
        by n is (yes here) =
            absurd (given_is_something (code n) (arm ∷ path) (instances program (arm ∷ path) (name (code n))) (sym (name_given n (enters.only_names n here))) is)
        by n is (no other) = name_elsewhere n other ∙ zeros.held.of_name n (subst IsNothing (name-past program arm path (code n) other) is)
