-- Into an unsealed block: variables have any bits, parameters that wait have theirs, the caller's parameters get what the
-- edge passes, name and value alike, and what agreed before still does.
use Rattle.std.proofs.Common.{◌≡◌, ◌≢◌, ◌⊎◌, ℕ, ◌≤◌, false, List, ◌∷◌, length, None, inl, inr, sym, ◌∙◌, ap, subst, arith}
use Rattle.clif_paths.specs.Places.{Arm, Path}
use Rattle.clif_paths.specs.State.{fresh, Program, born, pending, zero_of, Function}
use Rattle.clif_paths.specs.Denotation.{Instance, zero, unknown, given, variable, name, instances, defined, denotes}
use Rattle.clif_paths.specs.Laws.{age}
use Rattle.clif_paths.proofs.PathLemmas.{dec_place}
use Rattle.clif_paths.proofs.Executing.{program_steps, function_steps, entered-unsealed, variable-entered, name-past, denotes-past, denotes-here}
use Rattle.clif_paths.proofs.Remembering.{program_knows, function_knows}
use Rattle.clif_meaning.specs.Name.{Name}
use Rattle.clif_simulation.specs.Tables.{code}
use Rattle.clif_simulation.proofs.Finished.Agreement.{Agrees, IsBlank, ZerosAreZero, too_young}
use Rattle.clif_simulation.proofs.Codes
use Rattle.clif_simulation.proofs.Labelling.Labels.{IsNothing, Labels, given_is_something, unknown_is_something}
use Rattle.clif_simulation.proofs.Finished.Giving.{In}

-- What a value at the front of such a block is: the answer of a name that is given there, one that waits and has its
-- variable's bits, or a zero.
abbrev pub IsAtFront : Function → List Name → (Name → ℕ) → (ℕ → ℕ) → (ℕ → ℕ) → ℕ → Type 0
IsAtFront function parameters answered bits new w =
    ((n : Name) × In n parameters × (w ≡ answered n))
    ⊎ (((x : ℕ) × ((function.definition w).kind ≡ pending x) × (new w ≡ bits x)) ⊎ ((x : ℕ) × ((function.definition w).kind ≡ zero_of x)))

-- Nothing is assigned at the arm's target, which isn't sealed; these names are given there, by their answers, with the same
-- bits, and no others; the other values there wait or are zeros.
pub record OpensWith (live : ℕ → Type 0) (program : Program) (function : Function) (arm : Arm) (parameters : List Name) (answered : Name → ℕ)
    (names after : Name → ℕ) (bits old new : ℕ → ℕ) : Type 0 where
  pub unsealed : program.is_sealed arm.target ≡ false
  pub unassigned : (x : ℕ) → program.assigned arm.target x ≡ None
  pub named : (n : Name) → In n parameters → program.naming (code n) ≡ record { home = arm.target; origin = fresh }
  pub defined : (n : Name) → In n parameters → function.definition (answered n) ≡ record { home = arm.target; kind = born (code n) }
  pub only_names : (n : Name) → (program.naming (code n)).home ≡ arm.target → In n parameters
  pub gives : (n : Name) → In n parameters → after n ≡ new (answered n)
  pub names_stay : (n : Name) → (program.naming (code n)).home ≢ arm.target → after n ≡ names n
  pub kinds : (w : ℕ) → live w → (function.definition w).home ≡ arm.target → IsAtFront function parameters answered bits new w
  pub others_stay : (w : ℕ) → (function.definition w).home ≢ arm.target → new w ≡ old w
  pub zeros_stay : (w : ℕ) → IsBlank (function.definition w).kind → new w ≡ old w

too_new : (x : ℕ) (arm : Arm) (path : Path) (i : Instance) → age i ≤ length path → i ≡ unknown x (arm ∷ path) → ⊥
too_new x arm path i old new =
    let same : age i ≡ length (arm ∷ path) = ap age new in
    absurd (omega arith)

same_unknown : (x y : ℕ) (path : Path) → ◌≡◌ {A = Instance} (unknown x path) (unknown y path) → y ≡ x
same_unknown x y path h = cc

same_given : (m n : ℕ) (path : Path) → ◌≡◌ {A = Instance} (given m path) (given n path) → n ≡ m
same_given m n path h = cc

unknown_no_zero : (x y : ℕ) (path : Path) → ◌≡◌ {A = Instance} (unknown x path) (zero y) → ⊥
unknown_no_zero x y path h = cc

unknown_no_given : (x n : ℕ) (path : Path) → ◌≡◌ {A = Instance} (unknown x path) (given n path) → ⊥
unknown_no_given x n path h = cc

given_no_zero : (n y : ℕ) (path : Path) → ◌≡◌ {A = Instance} (given n path) (zero y) → ⊥
given_no_zero n y path h = cc

module _ (live : ℕ → Type 0) (program : Program) (function : Function) (labels : Labels program function) (arm : Arm) (path : Path) (parameters : List Name) (answered : Name → ℕ)
    (variables : ℕ → ℕ) (names after : Name → ℕ) (bits old new : ℕ → ℕ)
    (opens : OpensWith live program function arm parameters answered names after bits old new)
    (agrees : Agrees live program function labels path variables names old)
    (zeros : ZerosAreZero program function path variables names old)
  where
    variable_is : (x : ℕ) → instances program (arm ∷ path) (variable x) ≡ unknown x (arm ∷ path)
    variable_is x = variable-entered program arm path x (opens.unassigned x) ∙ entered-unsealed program arm path x opens.unsealed

    name_given : (n : Name) → In n parameters → instances program (arm ∷ path) (name (code n)) ≡ given (code n) (arm ∷ path)
    name_given n there = (program_steps program arm path).given_here (code n) (opens.named n there)

    value_given : (w : ℕ) (n : Name) → In n parameters → w ≡ answered n → denotes program function (arm ∷ path) w ≡ given (code n) (arm ∷ path)
    value_given w n there is =
        ap (λ (v : ℕ). denotes program function (arm ∷ path) v) is
        ∙ (function_steps program function arm path).born_here (answered n) (code n) (opens.defined n there)

    name_older : (n : Name) → (program.naming (code n)).home ≢ arm.target → instances program (arm ∷ path) (name (code n)) ≡ instances program path (name (code n))
    name_older n elsewhere = name-past program arm path (code n) elsewhere

    pending_is : (w y : ℕ) → (function.definition w).home ≡ arm.target → (function.definition w).kind ≡ pending y
        → denotes program function (arm ∷ path) w ≡ unknown y (arm ∷ path)
    pending_is w y at kind =
        denotes-here program function arm path w at
        ∙ ap (λ (k : _). defined program function arm path (λ u. denotes program function path u) w k) kind
        ∙ entered-unsealed program arm path y opens.unsealed

    zero_is : (w y : ℕ) → (function.definition w).home ≡ arm.target → (function.definition w).kind ≡ zero_of y → denotes program function (arm ∷ path) w ≡ zero y
    zero_is w y at kind =
        denotes-here program function arm path w at
        ∙ ap (λ (k : _). defined program function arm path (λ u. denotes program function path u) w k) kind

    -- a variable
    of_variable : (x w : ℕ) → live w → instances program (arm ∷ path) (variable x) ≡ denotes program function (arm ∷ path) w → bits x ≡ new w
    of_variable x w is_live same = by (dec_place (function.definition w).home arm.target)
      where
        is : unknown x (arm ∷ path) ≡ denotes program function (arm ∷ path) w
        is = sym (variable_is x) ∙ same

        at_front : (function.definition w).home ≡ arm.target → IsAtFront function parameters answered bits new w → bits x ≡ new w
        at_front at (inl found) = absurd (unknown_no_given x (code found.0) (arm ∷ path) (is ∙ value_given w found.0 found.1 found.2))
        at_front at (inr (inl waits)) = ap bits (sym (same_unknown x waits.0 (arm ∷ path) (is ∙ pending_is w waits.0 at waits.1))) ∙ sym waits.2
        at_front at (inr (inr put)) = absurd (unknown_no_zero x put.0 (arm ∷ path) (is ∙ zero_is w put.0 at put.1))

        by : Dec ((function.definition w).home ≡ arm.target) → bits x ≡ new w
        by (yes at) = at_front at (opens.kinds w is_live at)
        by (no elsewhere) =
            absurd (too_new x arm path (denotes program function path w) (function_knows program function path w)
            (sym (denotes-past program function arm path w elsewhere) ∙ sym is))

    -- a name that is given here
    of_given : (n : Name) (w : ℕ) → live w → In n parameters → given (code n) (arm ∷ path) ≡ denotes program function (arm ∷ path) w → after n ≡ new w
    of_given n w is_live there is = by (dec_place (function.definition w).home arm.target)
      where
        at_front : (function.definition w).home ≡ arm.target → IsAtFront function parameters answered bits new w → after n ≡ new w
        at_front at (inl found) =
            let codes : code found.0 ≡ code n = same_given (code n) (code found.0) (arm ∷ path) (is ∙ value_given w found.0 found.1 found.2) in
            opens.gives n there ∙ ap new (sym (found.2 ∙ ap answered (Codes.differ found.0 n codes)))
        at_front at (inr (inl waits)) = absurd (unknown_no_given waits.0 (code n) (arm ∷ path) (sym (is ∙ pending_is w waits.0 at waits.1)))
        at_front at (inr (inr put)) = absurd (given_no_zero (code n) put.0 (arm ∷ path) (is ∙ zero_is w put.0 at put.1))

        by : Dec ((function.definition w).home ≡ arm.target) → after n ≡ new w
        by (yes at) = at_front at (opens.kinds w is_live at)
        by (no elsewhere) =
            absurd (too_young (code n) arm path (denotes program function path w) (function_knows program function path w)
            (sym (denotes-past program function arm path w elsewhere) ∙ sym is))

    -- a name that was given before
    of_older : (n : Name) (w : ℕ) → live w → labels.of_name n ≡ labels.of_value w → (program.naming (code n)).home ≢ arm.target
        → instances program path (name (code n)) ≡ denotes program function (arm ∷ path) w → names n ≡ new w
    of_older n w is_live fit other is = by (dec_place (function.definition w).home arm.target)
      where
        at_front : (function.definition w).home ≡ arm.target → IsAtFront function parameters answered bits new w → names n ≡ new w
        at_front at (inl found) =
            absurd (too_young (code found.0) arm path (instances program path (name (code n))) (program_knows program path (name (code n)))
            (is ∙ value_given w found.0 found.1 found.2))
        at_front at (inr (inl waits)) =
            absurd (too_new waits.0 arm path (instances program path (name (code n))) (program_knows program path (name (code n))) (is ∙ pending_is w waits.0 at waits.1))
        at_front at (inr (inr put)) =
            let blank : IsBlank (function.definition w).kind = subst IsBlank (sym put.1) tt in
            zeros.held.of_name n (subst IsNothing (sym (is ∙ zero_is w put.0 at put.1)) tt) ∙ sym (opens.zeros_stay w blank ∙ zeros.of_value w blank)

        by : Dec ((function.definition w).home ≡ arm.target) → names n ≡ new w
        by (yes at) = at_front at (opens.kinds w is_live at)
        by (no elsewhere) =
            agrees.of_name n w is_live fit (is ∙ denotes-past program function arm path w elsewhere) ∙ sym (opens.others_stay w elsewhere)

    of_name : (n : Name) (w : ℕ) → live w → labels.of_name n ≡ labels.of_value w → Dec ((program.naming (code n)).home ≡ arm.target)
        → instances program (arm ∷ path) (name (code n)) ≡ denotes program function (arm ∷ path) w → after n ≡ new w
    of_name n w is_live fit (yes here) same = of_given n w is_live (opens.only_names n here) (sym (name_given n (opens.only_names n here)) ∙ same)
    of_name n w is_live fit (no other) same = opens.names_stay n other ∙ of_older n w is_live fit other (sym (name_older n other) ∙ same)

    zero_name : (n : Name) → IsNothing (instances program (arm ∷ path) (name (code n))) → Dec ((program.naming (code n)).home ≡ arm.target) → after n ≡ 0
    zero_name n is (yes here) =
        absurd (given_is_something (code n) (arm ∷ path) (instances program (arm ∷ path) (name (code n))) (sym (name_given n (opens.only_names n here))) is)
    zero_name n is (no other) = opens.names_stay n other ∙ zeros.held.of_name n (subst IsNothing (name_older n other) is)

    pub opened_agrees : Agrees live program function labels (arm ∷ path) bits after new
    opened_agrees = record {
      of_variable = λ x w is_live fit same. of_variable x w is_live same;
      of_name = λ n w is_live fit same. of_name n w is_live fit (dec_place (program.naming (code n)).home arm.target) same;
    }

    pub opened_zeros : ZerosAreZero program function (arm ∷ path) bits after new
    opened_zeros = record {
      held = record {
        of_variable = λ x is. absurd (unknown_is_something x (arm ∷ path) (instances program (arm ∷ path) (variable x)) (sym (variable_is x)) is);
        of_name = λ n is. zero_name n is (dec_place (program.naming (code n)).home arm.target);
      };
      of_value = λ w blank. opens.zeros_stay w blank ∙ zeros.of_value w blank;
    }
