-- One map from instances to bits serves both runs.
use Rattle.std.proofs.Common.{◌≡◌, ◌≢◌, ℕ, suc, ◌≤◌, Bool, true, false, ◌==◌, ◌||◌, Option, None, Some, [], ◌∷◌, length, ◌⊎◌, inl, inr, refl, sym, ◌∙◌, ap, subst, arith}
use Rattle.clif_paths.specs.Places.{Place, Arm, Edges, Path, end_of, Follows}
use Rattle.clif_paths.specs.State.{Origin, fresh, reads, Program, Kind, unborn, born, pending, complete, zero_of, Function, home_of}
use Rattle.clif_paths.specs.Denotation.{Instance, absent, given, unknown, Holder, variable, name, after_assignment, at_home, instances, defined, denotes, denotation}
use Rattle.clif_paths.specs.Sound.{Holds}
use Rattle.clif_paths.specs.Laws.{entered, age}
use Rattle.clif_paths.specs.Labels.{ProgramLabels, FunctionLabels}
use Rattle.clif_paths.specs.Runs.{Outside, Labelling, entering_bits, bits_after_assignment, bits_at_home, program_bits, bits_of_kind, function_bits, KeepsLabels, label_of, first_bits, instance_bits}
use Rattle.clif_paths.proofs.Tables.{number_equal, number_other}
use Rattle.clif_paths.proofs.PathLemmas.{dec_place, same_place-equal, same_place-other}
use Rattle.clif_paths.proofs.Executing.{entered-sealed, entered-unsealed, instances-variable, name-past, name-here, denotes-past, denotes-here}
use Rattle.clif_paths.proofs.Remembering.{program_knows, function_knows}
use Rattle.clif_paths.proofs.Labelling.{program_keeps, function_keeps}
use Rattle.clif_paths.proofs.Checked.{of_or, or_left, or_right, number_true}

-- Labels that fit -------------------------------------------------------------------------------------------------

-- an instance whose bits are zero for good
is_nil : Instance → Bool
is_nil absent = true
is_nil (Instance.zero x) = true
is_nil (given n path) = false
is_nil (unknown x path) = false

-- the label is the instance's, or the instance is nil
abbrev fitting : Labelling → ℕ → Instance → Bool
fitting labels l i = (l == label_of labels i) || is_nil i

same_fits : (labels : Labelling) (l : ℕ) (i : Instance) → l ≡ label_of labels i → fitting labels l i ≡ true
same_fits labels l i e = or_left (l == label_of labels i) (is_nil i) (number_equal l (label_of labels i) e)

nil_fits : (labels : Labelling) (l : ℕ) (i : Instance) → is_nil i ≡ true → fitting labels l i ≡ true
nil_fits labels l i e = or_right (l == label_of labels i) (is_nil i) e

program_labels : {edges : Edges} (program : Program) (function : Function) (labels : Labelling) → KeepsLabels edges program function labels → ProgramLabels program (fitting labels) labels.of_variable labels.of_name
unfolding is_nil
program_labels program function labels keeps = record {
  absent_fits = λ l. nil_fits labels l absent refl;
  zero_fits = λ x. nil_fits labels (labels.of_variable x) (Instance.zero x) refl;
  unknown_fits = λ x path. same_fits labels (labels.of_variable x) (unknown x path) refl;
  given_fits = λ n path. same_fits labels (labels.of_name n) (given n path) refl;
  assigned_same = keeps.assigned_same;
  read_same = keeps.read_same;
}

argument_fits_by :
    (function : Function) (labels : Labelling) (r a : ℕ) →
    (labels.of_value a ≡ labels.of_value r) ⊎ ((x : ℕ) × ((function.definition a).kind ≡ zero_of x)) →
    (labels.of_value a ≡ labels.of_value r) ⊎
    ((x : ℕ) × ((function.definition a).kind ≡ zero_of x) × (fitting labels (labels.of_value r) (Instance.zero x) ≡ true))
unfolding is_nil
argument_fits_by function labels r a (inl same) = inl same
argument_fits_by function labels r a (inr (x, k)) = inr (x, k, nil_fits labels (labels.of_value r) (Instance.zero x) refl)

function_labels : {edges : Edges} (program : Program) (function : Function) (labels : Labelling) → KeepsLabels edges program function labels → FunctionLabels edges function (fitting labels) labels.of_variable labels.of_value
unfolding is_nil
function_labels program function labels keeps = record {
  born_fits = λ u n path k. same_fits labels (labels.of_value (function.resolve u)) (given n path) (keeps.born_same u n k);
  zero_fits = λ u x k. nil_fits labels (labels.of_value (function.resolve u)) (Instance.zero x) refl;
  pending_same = keeps.pending_same;
  argument_same = λ u arm k at e.
      argument_fits_by function labels (function.resolve u) (function.resolve (function.argument (function.resolve u) arm)) (keeps.argument_same u arm k at e);
}

-- Bits of instances -----------------------------------------------------------------------------------------------

nil_age : (i : Instance) → is_nil i ≡ true → age i ≡ 0
unfolding is_nil
nil_age absent e = refl
nil_age (Instance.zero x) e = refl
nil_age (given n path) e = absurd cc
nil_age (unknown x path) e = absurd cc

old_age : (i : Instance) (n : ℕ) → age i ≤ n → (age i == suc n) ≡ false
old_age i n le = number_other (age i) (suc n) (λ e. let clash : suc n ≤ n = subst (λ k. k ≤ n) e le in omega arith)

-- what arose before is moved
old_bits :
    (outside : Outside) (labels : Labelling) (arm : Arm) (path : Path) (i : Instance) → age i ≤ length path →
    instance_bits outside labels (arm ∷ path) i ≡ outside.moved (arm ∷ path) (label_of labels i) (instance_bits outside labels path i)
unfolding instance_bits
old_bits outside labels arm path i le = rw (old_age i (length path) le) refl

-- what arises now has its first bits
new_bits :
    (outside : Outside) (labels : Labelling) (arm : Arm) (path : Path) (i : Instance) → age i ≡ suc (length path) →
    instance_bits outside labels (arm ∷ path) i ≡ first_bits outside i
unfolding instance_bits
new_bits outside labels arm path i e = rw (number_equal (age i) (suc (length path)) e) refl

nil_bits : (outside : Outside) (labels : Labelling) (path : Path) (i : Instance) → is_nil i ≡ true → instance_bits outside labels path i ≡ 0
unfolding instance_bits
nil_bits outside labels [] i e = refl
nil_bits outside labels (arm ∷ path) i e =
    let le : age i ≤ length path = (let none : age i ≡ 0 = nil_age i e in omega arith) in
    old_bits outside labels arm path i le ∙
    ap (λ b. outside.moved (arm ∷ path) (label_of labels i) b) (nil_bits outside labels path i e) ∙
    outside.leaves_zero (arm ∷ path) (label_of labels i)

-- what is moved under a label that fits is moved as the instance is
moved_by :
    (outside : Outside) (labels : Labelling) (arm : Arm) (path : Path) (l : ℕ) (i : Instance) → age i ≤ length path →
    ((l == label_of labels i) ≡ true) ⊎ (is_nil i ≡ true) →
    outside.moved (arm ∷ path) l (instance_bits outside labels path i) ≡ instance_bits outside labels (arm ∷ path) i
moved_by outside labels arm path l i le (inl same) =
    ap (λ k. outside.moved (arm ∷ path) k (instance_bits outside labels path i)) (number_true l (label_of labels i) same) ∙
    sym (old_bits outside labels arm path i le)
moved_by outside labels arm path l i le (inr nil) =
    ap (λ b. outside.moved (arm ∷ path) l b) (nil_bits outside labels path i nil) ∙
    outside.leaves_zero (arm ∷ path) l ∙ sym (nil_bits outside labels (arm ∷ path) i nil)

moved_fits :
    (outside : Outside) (labels : Labelling) (arm : Arm) (path : Path) (l : ℕ) (i : Instance) → age i ≤ length path → fitting labels l i ≡ true →
    outside.moved (arm ∷ path) l (instance_bits outside labels path i) ≡ instance_bits outside labels (arm ∷ path) i
moved_fits outside labels arm path l i le fit = moved_by outside labels arm path l i le (of_or (l == label_of labels i) (is_nil i) fit)

-- The program's run -----------------------------------------------------------------------------------------------

-- the program's bits are those of its instances, at the end of this path
record ProgramReads (outside : Outside) (labels : Labelling) (program : Program) (path : Path) : Type 0 where
  pub reads_so : (h : Holder) → program_bits outside labels program path h ≡ instance_bits outside labels path (instances program path h)

moved_holder :
    (outside : Outside) (labels : Labelling) (program : Program) (arm : Arm) (path : Path) → ProgramReads outside labels program path → (l : ℕ) (h : Holder) →
    fitting labels l (instances program path h) ≡ true →
    outside.moved (arm ∷ path) l (program_bits outside labels program path h) ≡ instance_bits outside labels (arm ∷ path) (instances program path h)
moved_holder outside labels program arm path before l h fit =
    ap (λ b. outside.moved (arm ∷ path) l b) (before.reads_so h) ∙
    moved_fits outside labels arm path l (instances program path h) (program_knows program path h) fit

entering_reads :
    (outside : Outside) (labels : Labelling) (program : Program) → ProgramLabels program (fitting labels) labels.of_variable labels.of_name →
    (arm : Arm) (path : Path) → ProgramReads outside labels program path → (x : ℕ) → (sealed : Bool) → program.is_sealed arm.target ≡ sealed →
    entering_bits outside labels program arm path (λ h. program_bits outside labels program path h) x ≡
    instance_bits outside labels (arm ∷ path) (entered program arm path x)
entering_reads outside labels program fits arm path before x true e =
    let bits : entering_bits outside labels program arm path (λ h. program_bits outside labels program path h) x ≡ outside.moved (arm ∷ path) (labels.of_variable x) (program_bits outside labels program path (variable x)) = rw e refl in
    bits ∙
    moved_holder outside labels program arm path before (labels.of_variable x) (variable x)
    ((program_keeps program (fitting labels) labels.of_variable labels.of_name fits path).variables x) ∙
    ap (λ i. instance_bits outside labels (arm ∷ path) i) (sym (entered-sealed program arm path x e))
entering_reads outside labels program fits arm path before x false e =
    let bits : entering_bits outside labels program arm path (λ h. program_bits outside labels program path h) x ≡ outside.unknown_bits x (arm ∷ path) = rw e refl in
    bits ∙
    sym (new_bits outside labels arm path (unknown x (arm ∷ path)) refl) ∙
    ap (λ i. instance_bits outside labels (arm ∷ path) i) (sym (entered-unsealed program arm path x e))

assigned_reads :
    (outside : Outside) (labels : Labelling) (program : Program) → ProgramLabels program (fitting labels) labels.of_variable labels.of_name →
    (arm : Arm) (path : Path) → ProgramReads outside labels program path → (x : ℕ) → (o : Option ℕ) →
    bits_after_assignment outside labels arm path (λ h. program_bits outside labels program path h)
    (entering_bits outside labels program arm path (λ h. program_bits outside labels program path h) x) o ≡
    instance_bits outside labels (arm ∷ path) (after_assignment (λ h. instances program path h) (entered program arm path x) o)
assigned_reads outside labels program fits arm path before x None =
    entering_reads outside labels program fits arm path before x (program.is_sealed arm.target) refl
assigned_reads outside labels program fits arm path before x (Some n) =
    moved_holder outside labels program arm path before (labels.of_name n) (name n)
    ((program_keeps program (fitting labels) labels.of_variable labels.of_name fits path).names n)

origin_reads :
    (outside : Outside) (labels : Labelling) (program : Program) → ProgramLabels program (fitting labels) labels.of_variable labels.of_name →
    (arm : Arm) (path : Path) → ProgramReads outside labels program path → (n : ℕ) → (origin : Origin) →
    bits_at_home outside labels program arm path (λ h. program_bits outside labels program path h) n origin ≡
    instance_bits outside labels (arm ∷ path) (at_home program arm path (λ h. instances program path h) n origin)
origin_reads outside labels program fits arm path before n fresh = sym (new_bits outside labels arm path (given n (arm ∷ path)) refl)
origin_reads outside labels program fits arm path before n (reads x) =
    entering_reads outside labels program fits arm path before x (program.is_sealed arm.target) refl

name_bits_here :
    (outside : Outside) (labels : Labelling) (program : Program) (arm : Arm) (path : Path) (n : ℕ) → (program.naming n).home ≡ arm.target →
    program_bits outside labels program (arm ∷ path) (name n) ≡
    bits_at_home outside labels program arm path (λ h. program_bits outside labels program path h) n (program.naming n).origin
unfolding program_bits
name_bits_here outside labels program arm path n at = rw (same_place-equal (program.naming n).home arm.target at) refl

name_bits_past :
    (outside : Outside) (labels : Labelling) (program : Program) (arm : Arm) (path : Path) (n : ℕ) → (program.naming n).home ≢ arm.target →
    program_bits outside labels program (arm ∷ path) (name n) ≡
    outside.moved (arm ∷ path) (labels.of_name n) (program_bits outside labels program path (name n))
unfolding program_bits
name_bits_past outside labels program arm path n ne = rw (same_place-other (program.naming n).home arm.target ne) refl

name_reads :
    (outside : Outside) (labels : Labelling) (program : Program) → ProgramLabels program (fitting labels) labels.of_variable labels.of_name →
    (arm : Arm) (path : Path) → ProgramReads outside labels program path → (n : ℕ) → Dec ((program.naming n).home ≡ arm.target) →
    program_bits outside labels program (arm ∷ path) (name n) ≡ instance_bits outside labels (arm ∷ path) (instances program (arm ∷ path) (name n))
name_reads outside labels program fits arm path before n (yes at) =
    name_bits_here outside labels program arm path n at ∙
    origin_reads outside labels program fits arm path before n (program.naming n).origin ∙
    ap (λ i. instance_bits outside labels (arm ∷ path) i) (sym (name-here program arm path n at))
name_reads outside labels program fits arm path before n (no ne) =
    name_bits_past outside labels program arm path n ne ∙
    moved_holder outside labels program arm path before (labels.of_name n) (name n)
    ((program_keeps program (fitting labels) labels.of_variable labels.of_name fits path).names n) ∙
    ap (λ i. instance_bits outside labels (arm ∷ path) i) (sym (name-past program arm path n ne))

variable_bits :
    (outside : Outside) (labels : Labelling) (program : Program) (arm : Arm) (path : Path) (x : ℕ) →
    program_bits outside labels program (arm ∷ path) (variable x) ≡
    bits_after_assignment outside labels arm path (λ h. program_bits outside labels program path h)
    (entering_bits outside labels program arm path (λ h. program_bits outside labels program path h) x) (program.assigned arm.target x)
unfolding program_bits
variable_bits outside labels program arm path x = refl

reads_step :
    (outside : Outside) (labels : Labelling) (program : Program) → ProgramLabels program (fitting labels) labels.of_variable labels.of_name →
    (arm : Arm) (path : Path) → ProgramReads outside labels program path → (h : Holder) →
    program_bits outside labels program (arm ∷ path) h ≡ instance_bits outside labels (arm ∷ path) (instances program (arm ∷ path) h)
reads_step outside labels program fits arm path before (variable x) =
    variable_bits outside labels program arm path x ∙
    assigned_reads outside labels program fits arm path before x (program.assigned arm.target x) ∙
    ap (λ i. instance_bits outside labels (arm ∷ path) i) (sym (instances-variable program arm path x))
reads_step outside labels program fits arm path before (name n) =
    name_reads outside labels program fits arm path before n (dec_place (program.naming n).home arm.target)

program_reads :
    (outside : Outside) (labels : Labelling) (program : Program) → ProgramLabels program (fitting labels) labels.of_variable labels.of_name →
    (path : Path) → ProgramReads outside labels program path
unfolding program_bits instance_bits
program_reads outside labels program fits [] = record { reads_so = λ h. refl }
program_reads outside labels program fits (arm ∷ path) =
    let before : ProgramReads outside labels program path = program_reads outside labels program fits path in
    record { reads_so = λ h. reads_step outside labels program fits arm path before h }

-- The function's run ----------------------------------------------------------------------------------------------

module _
    (outside : Outside) (labels : Labelling) (edges : Edges) (program : Program) (function : Function)
    (keeps : KeepsLabels edges program function labels)
  where
    moved_value :
        (arm : Arm) (path : Path) → Follows edges path →
        ((u : ℕ) → function_bits outside labels program function path (function.resolve u) ≡ instance_bits outside labels path (denotation program function path u)) →
        (u : ℕ) →
        outside.moved (arm ∷ path) (labels.of_value (function.resolve u)) (function_bits outside labels program function path (function.resolve u)) ≡
        instance_bits outside labels (arm ∷ path) (denotation program function path u)
    moved_value arm path f before u =
        ap (λ b. outside.moved (arm ∷ path) (labels.of_value (function.resolve u)) b) (before u) ∙
        moved_fits outside labels arm path (labels.of_value (function.resolve u)) (denotation program function path u)
        (function_knows program function path (function.resolve u))
        (function_keeps edges program function (fitting labels) labels.of_variable labels.of_name labels.of_value
        (program_labels program function labels keeps) (function_labels program function labels keeps) path f u)

    kind_reads :
        (arm : Arm) (path : Path) → Follows edges path →
        ((u : ℕ) → function_bits outside labels program function path (function.resolve u) ≡ instance_bits outside labels path (denotation program function path u)) →
        (v : ℕ) (kind : Kind) →
        bits_of_kind outside labels program function arm path (λ h. program_bits outside labels program path h) (λ w. function_bits outside labels program function path w) v kind ≡
        instance_bits outside labels (arm ∷ path) (defined program function arm path (λ w. denotes program function path w) v kind)
    unfolding is_nil
    kind_reads arm path f before v unborn = sym (nil_bits outside labels (arm ∷ path) absent refl)
    kind_reads arm path f before v (born n) = sym (new_bits outside labels arm path (given n (arm ∷ path)) refl)
    kind_reads arm path f before v (pending x) =
        entering_reads outside labels program (program_labels program function labels keeps) arm path
        (program_reads outside labels program (program_labels program function labels keeps) path) x (program.is_sealed arm.target) refl
    kind_reads arm path f before v (complete x) = moved_value arm path f before (function.argument v arm)
    kind_reads arm path f before v (zero_of x) = sym (nil_bits outside labels (arm ∷ path) (Instance.zero x) refl)

    value_bits_here :
        (arm : Arm) (path : Path) (v : ℕ) → (function.definition v).home ≡ arm.target →
        function_bits outside labels program function (arm ∷ path) v ≡
        bits_of_kind outside labels program function arm path (λ h. program_bits outside labels program path h) (λ w. function_bits outside labels program function path w) v (function.definition v).kind
    unfolding function_bits
    value_bits_here arm path v at = rw (same_place-equal (function.definition v).home arm.target at) refl

    value_bits_past :
        (arm : Arm) (path : Path) (v : ℕ) → (function.definition v).home ≢ arm.target →
        function_bits outside labels program function (arm ∷ path) v ≡
        outside.moved (arm ∷ path) (labels.of_value v) (function_bits outside labels program function path v)
    unfolding function_bits
    value_bits_past arm path v ne = rw (same_place-other (function.definition v).home arm.target ne) refl

    value_reads :
        (arm : Arm) (path : Path) → Follows edges path →
        ((u : ℕ) → function_bits outside labels program function path (function.resolve u) ≡ instance_bits outside labels path (denotation program function path u)) →
        (u : ℕ) → Dec (home_of function u ≡ arm.target) →
        function_bits outside labels program function (arm ∷ path) (function.resolve u) ≡
        instance_bits outside labels (arm ∷ path) (denotation program function (arm ∷ path) u)
    value_reads arm path f before u (yes at) =
        value_bits_here arm path (function.resolve u) at ∙
        kind_reads arm path f before (function.resolve u) (function.definition (function.resolve u)).kind ∙
        ap (λ i. instance_bits outside labels (arm ∷ path) i) (sym (denotes-here program function arm path (function.resolve u) at))
    value_reads arm path f before u (no ne) =
        value_bits_past arm path (function.resolve u) ne ∙
        moved_value arm path f before u ∙
        ap (λ i. instance_bits outside labels (arm ∷ path) i) (sym (denotes-past program function arm path (function.resolve u) ne))

    function_reads :
        (path : Path) → Follows edges path → (u : ℕ) →
        function_bits outside labels program function path (function.resolve u) ≡ instance_bits outside labels path (denotation program function path u)
    unfolding function_bits instance_bits
    function_reads [] f u = refl
    function_reads (arm ∷ path) f u =
        let before : (w : ℕ) → function_bits outside labels program function path (function.resolve w) ≡ instance_bits outside labels path (denotation program function path w) =
        function_reads path f.2 in
        value_reads arm path f.2 before u (dec_place (home_of function u) arm.target)

-- where a value holds a variable or a name, the bits are the same
pub holders_have_the_same_bits :
    (outside : Outside) (labels : Labelling) (edges : Edges) (program : Program) (function : Function) → KeepsLabels edges program function labels →
    (v : ℕ) (h : Holder) (place : Place) → Holds edges program function v h place →
    (path : Path) → Follows edges path → end_of path ≡ place →
    function_bits outside labels program function path (function.resolve v) ≡ program_bits outside labels program path h
holders_have_the_same_bits outside labels edges program function keeps v h place held path f at_end =
    function_reads outside labels edges program function keeps path f v ∙
    ap (λ i. instance_bits outside labels path i) (held.agrees path f at_end) ∙
    sym ((program_reads outside labels program (program_labels program function labels keeps) path).reads_so h)

pub one_map_serves_both :
    (outside : Outside) (labels : Labelling) (edges : Edges) (program : Program) (function : Function) → KeepsLabels edges program function labels →
    (path : Path) → Follows edges path →
    ((h : Holder) → program_bits outside labels program path h ≡ instance_bits outside labels path (instances program path h)) ×
    ((v : ℕ) → function_bits outside labels program function path (function.resolve v) ≡ instance_bits outside labels path (denotation program function path v))
one_map_serves_both outside labels edges program function keeps path f = (
  (program_reads outside labels program (program_labels program function labels keeps) path).reads_so,
  function_reads outside labels edges program function keeps path f,
)
