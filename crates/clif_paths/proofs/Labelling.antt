-- Labels along paths, by induction on the path.
use Rattle.std.proofs.Common.{◌≡◌, ℕ, Bool, true, false, Option, None, Some, [], ◌∷◌, ◌⊎◌, inl, inr, refl, sym, ◌∙◌, ap}
use Rattle.clif_paths.specs.Places.{Arm, Edges, Path, Follows}
use Rattle.clif_paths.specs.State.{Origin, fresh, reads, Program, Kind, unborn, born, pending, complete, zero_of, Function, home_of}
use Rattle.clif_paths.specs.Denotation.{Instance, absent, zero, name, after_assignment, at_home, instances, defined, denotes, denotation}
use Rattle.clif_paths.specs.Laws.{entered}
use Rattle.clif_paths.specs.Labels.{ProgramLabels, FunctionLabels, ProgramFits}
use Rattle.clif_paths.proofs.PathLemmas.{dec_place}
use Rattle.clif_paths.proofs.Executing.{entered-sealed, entered-unsealed, name-past, name-here, denotes-past, denotes-here}

entered_fits :
    (program : Program) (fits : ℕ → Instance → Bool) (of_variable of_name : ℕ → ℕ) → ProgramLabels program fits of_variable of_name →
    (arm : Arm) (path : Path) → ProgramFits program fits of_variable of_name path → (x : ℕ) → (sealed : Bool) → program.is_sealed arm.target ≡ sealed →
    fits (of_variable x) (entered program arm path x) ≡ true
entered_fits program fits of_variable of_name labels arm path before x true e =
    ap (λ i. fits (of_variable x) i) (entered-sealed program arm path x e) ∙ before.variables x
entered_fits program fits of_variable of_name labels arm path before x false e =
    ap (λ i. fits (of_variable x) i) (entered-unsealed program arm path x e) ∙ labels.unknown_fits x (arm ∷ path)

variable_fits :
    (program : Program) (fits : ℕ → Instance → Bool) (of_variable of_name : ℕ → ℕ) → ProgramLabels program fits of_variable of_name →
    (arm : Arm) (path : Path) → ProgramFits program fits of_variable of_name path → (x : ℕ) → (o : Option ℕ) → program.assigned arm.target x ≡ o →
    fits (of_variable x) (after_assignment (λ h. instances program path h) (entered program arm path x) o) ≡ true
variable_fits program fits of_variable of_name labels arm path before x None e =
    entered_fits program fits of_variable of_name labels arm path before x (program.is_sealed arm.target) refl
variable_fits program fits of_variable of_name labels arm path before x (Some n) e =
    ap (λ l. fits l (instances program path (name n))) (sym (labels.assigned_same arm.target x n e)) ∙ before.names n

name_by_origin :
    (program : Program) (fits : ℕ → Instance → Bool) (of_variable of_name : ℕ → ℕ) → ProgramLabels program fits of_variable of_name →
    (arm : Arm) (path : Path) → ProgramFits program fits of_variable of_name path → (n : ℕ) → (origin : Origin) → (program.naming n).origin ≡ origin →
    fits (of_name n) (at_home program arm path (λ h. instances program path h) n origin) ≡ true
name_by_origin program fits of_variable of_name labels arm path before n fresh e = labels.given_fits n (arm ∷ path)
name_by_origin program fits of_variable of_name labels arm path before n (reads x) e =
    ap (λ l. fits l (entered program arm path x)) (labels.read_same n x e) ∙
    entered_fits program fits of_variable of_name labels arm path before x (program.is_sealed arm.target) refl

name_fits :
    (program : Program) (fits : ℕ → Instance → Bool) (of_variable of_name : ℕ → ℕ) → ProgramLabels program fits of_variable of_name →
    (arm : Arm) (path : Path) → ProgramFits program fits of_variable of_name path → (n : ℕ) → Dec ((program.naming n).home ≡ arm.target) →
    fits (of_name n) (instances program (arm ∷ path) (name n)) ≡ true
name_fits program fits of_variable of_name labels arm path before n (yes at) =
    ap (λ i. fits (of_name n) i) (name-here program arm path n at) ∙
    name_by_origin program fits of_variable of_name labels arm path before n (program.naming n).origin refl
name_fits program fits of_variable of_name labels arm path before n (no ne) =
    ap (λ i. fits (of_name n) i) (name-past program arm path n ne) ∙ before.names n

pub program_keeps :
    (program : Program) (fits : ℕ → Instance → Bool) (of_variable of_name : ℕ → ℕ) → ProgramLabels program fits of_variable of_name →
    (path : Path) → ProgramFits program fits of_variable of_name path
unfolding instances
program_keeps program fits of_variable of_name labels [] = record { variables = labels.zero_fits; names = λ n. labels.absent_fits (of_name n) }
program_keeps program fits of_variable of_name labels (arm ∷ path) =
    let before : ProgramFits program fits of_variable of_name path = program_keeps program fits of_variable of_name labels path in
    record {
      variables = λ x. variable_fits program fits of_variable of_name labels arm path before x (program.assigned arm.target x) refl;
      names = λ n. name_fits program fits of_variable of_name labels arm path before n (dec_place (program.naming n).home arm.target);
    }

-- Values ----------------------------------------------------------------------------------------------------------

-- a zero is the zero, or nothing yet
zero_or_absent_by :
    (program : Program) (function : Function) (x z : ℕ) → (function.definition z).kind ≡ zero_of x → (arm : Arm) (path : Path) →
    (denotes program function path z ≡ zero x) ⊎ (denotes program function path z ≡ absent) → Dec ((function.definition z).home ≡ arm.target) →
    (denotes program function (arm ∷ path) z ≡ zero x) ⊎ (denotes program function (arm ∷ path) z ≡ absent)
zero_or_absent_by program function x z k arm path before (yes at) =
    inl (denotes-here program function arm path z at ∙
    ap (λ kind. defined program function arm path (λ w. denotes program function path w) z kind) k)
zero_or_absent_by program function x z k arm path (inl e) (no ne) = inl (denotes-past program function arm path z ne ∙ e)
zero_or_absent_by program function x z k arm path (inr e) (no ne) = inr (denotes-past program function arm path z ne ∙ e)

zero_or_absent :
    (program : Program) (function : Function) (x z : ℕ) → (function.definition z).kind ≡ zero_of x → (path : Path) →
    (denotes program function path z ≡ zero x) ⊎ (denotes program function path z ≡ absent)
unfolding denotes
zero_or_absent program function x z k [] = inr refl
zero_or_absent program function x z k (arm ∷ path) =
    zero_or_absent_by program function x z k arm path (zero_or_absent program function x z k path) (dec_place (function.definition z).home arm.target)

zero_fits_by :
    (program : Program) (function : Function) (fits : ℕ → Instance → Bool) (l x z : ℕ) (path : Path) → fits l absent ≡ true → fits l (zero x) ≡ true →
    (denotes program function path z ≡ zero x) ⊎ (denotes program function path z ≡ absent) → fits l (denotes program function path z) ≡ true
zero_fits_by program function fits l x z path none fit (inl e) = ap (λ i. fits l i) e ∙ fit
zero_fits_by program function fits l x z path none fit (inr e) = ap (λ i. fits l i) e ∙ none

argument_fits :
    (edges : Edges) (program : Program) (function : Function) (fits : ℕ → Instance → Bool) (of_variable of_name of_value : ℕ → ℕ) →
    ProgramLabels program fits of_variable of_name → (path : Path) →
    ((w : ℕ) → fits (of_value (function.resolve w)) (denotation program function path w) ≡ true) → (u a : ℕ) →
    (of_value (function.resolve a) ≡ of_value (function.resolve u)) ⊎
    ((x : ℕ) × ((function.definition (function.resolve a)).kind ≡ zero_of x) × (fits (of_value (function.resolve u)) (zero x) ≡ true)) →
    fits (of_value (function.resolve u)) (denotation program function path a) ≡ true
argument_fits edges program function fits of_variable of_name of_value labels path before u a (inl same) =
    ap (λ l. fits l (denotation program function path a)) (sym same) ∙ before a
argument_fits edges program function fits of_variable of_name of_value labels path before u a (inr (x, k, fit)) =
    zero_fits_by program function fits (of_value (function.resolve u)) x (function.resolve a) path (labels.absent_fits (of_value (function.resolve u))) fit
    (zero_or_absent program function x (function.resolve a) k path)

value_by_kind :
    (edges : Edges) (program : Program) (function : Function) (fits : ℕ → Instance → Bool) (of_variable of_name of_value : ℕ → ℕ) →
    ProgramLabels program fits of_variable of_name → FunctionLabels edges function fits of_variable of_value →
    (arm : Arm) (path : Path) → Follows edges (arm ∷ path) →
    ((w : ℕ) → fits (of_value (function.resolve w)) (denotation program function path w) ≡ true) → (u : ℕ) → home_of function u ≡ arm.target →
    (kind : Kind) → (function.definition (function.resolve u)).kind ≡ kind →
    fits (of_value (function.resolve u)) (defined program function arm path (λ w. denotes program function path w) (function.resolve u) kind) ≡ true
value_by_kind edges program function fits of_variable of_name of_value labels values arm path f before u at unborn k =
    labels.absent_fits (of_value (function.resolve u))
value_by_kind edges program function fits of_variable of_name of_value labels values arm path f before u at (born n) k =
    values.born_fits u n (arm ∷ path) k
value_by_kind edges program function fits of_variable of_name of_value labels values arm path f before u at (pending x) k =
    ap (λ l. fits l (entered program arm path x)) (values.pending_same u x k) ∙
    entered_fits program fits of_variable of_name labels arm path (program_keeps program fits of_variable of_name labels path) x (program.is_sealed arm.target) refl
value_by_kind edges program function fits of_variable of_name of_value labels values arm path f before u at (complete x) k =
    argument_fits edges program function fits of_variable of_name of_value labels path before u (function.argument (function.resolve u) arm)
    (values.argument_same u arm k at f.0)
value_by_kind edges program function fits of_variable of_name of_value labels values arm path f before u at (zero_of x) k = values.zero_fits u x k

value_fits :
    (edges : Edges) (program : Program) (function : Function) (fits : ℕ → Instance → Bool) (of_variable of_name of_value : ℕ → ℕ) →
    ProgramLabels program fits of_variable of_name → FunctionLabels edges function fits of_variable of_value →
    (arm : Arm) (path : Path) → Follows edges (arm ∷ path) →
    ((w : ℕ) → fits (of_value (function.resolve w)) (denotation program function path w) ≡ true) → (u : ℕ) → Dec (home_of function u ≡ arm.target) →
    fits (of_value (function.resolve u)) (denotation program function (arm ∷ path) u) ≡ true
value_fits edges program function fits of_variable of_name of_value labels values arm path f before u (yes at) =
    ap (λ i. fits (of_value (function.resolve u)) i) (denotes-here program function arm path (function.resolve u) at) ∙
    value_by_kind edges program function fits of_variable of_name of_value labels values arm path f before u at
    (function.definition (function.resolve u)).kind refl
value_fits edges program function fits of_variable of_name of_value labels values arm path f before u (no ne) =
    ap (λ i. fits (of_value (function.resolve u)) i) (denotes-past program function arm path (function.resolve u) ne) ∙ before u

pub function_keeps :
    (edges : Edges) (program : Program) (function : Function) (fits : ℕ → Instance → Bool) (of_variable of_name of_value : ℕ → ℕ) →
    ProgramLabels program fits of_variable of_name → FunctionLabels edges function fits of_variable of_value →
    (path : Path) → Follows edges path → (u : ℕ) → fits (of_value (function.resolve u)) (denotation program function path u) ≡ true
unfolding denotes
function_keeps edges program function fits of_variable of_name of_value labels values [] f u = labels.absent_fits (of_value (function.resolve u))
function_keeps edges program function fits of_variable of_name of_value labels values (arm ∷ path) f u =
    let before : (w : ℕ) → fits (of_value (function.resolve w)) (denotation program function path w) ≡ true =
    function_keeps edges program function fits of_variable of_name of_value labels values path f.2 in
    value_fits edges program function fits of_variable of_name of_value labels values arm path f before u (dec_place (home_of function u) arm.target)
