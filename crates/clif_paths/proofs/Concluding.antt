-- From steps to the conclusion.
use Rattle.std.proofs.Common.{◌≡◌, ◌≢◌, ℕ, true, Option, None, Some, [], ◌∷◌, inl, refl, sym, ◌∙◌, ap, subst}
use Rattle.clif_paths.specs.Places.{Place, start, Arm, Edges, Path, end_of, Follows, Dominates}
use Rattle.clif_paths.specs.State.{Origin, fresh, reads, Program, Kind, unborn, born, pending, complete, zero_of, Function, State, home_of}
use Rattle.clif_paths.specs.Denotation.{Holder, variable, name, after_assignment, at_home, instances, defined, denotes, denotation}
use Rattle.clif_paths.specs.Sound.{Allowed, Holds, SoundUnder, Sound}
use Rattle.clif_paths.specs.Steps.{initial, Step, seal, record_values, wait, fill, drop, put_zero, undefine, give, use_variable, assign, restate, Steps, done, then}
use Rattle.clif_paths.specs.Laws.{NothingPending, AssignsGiven, all_sealed, IsCorrect}
use Rattle.clif_paths.proofs.PathLemmas.{dec_place, unvisited_pair, strictly_through}
use Rattle.clif_paths.specs.Laws.{entered}
use Rattle.clif_paths.proofs.Executing.{entered-sealed, instances-variable, name-here, name-past, denotes-here, denotes-past}
use Rattle.clif_paths.proofs.Born.{wait_keeps, zero_keeps}
use Rattle.clif_paths.proofs.Fill.{fill_keeps}
use Rattle.clif_paths.proofs.Alias.{drop_keeps, undefine_keeps}
use Rattle.clif_paths.proofs.Recording.{record_keeps}
use Rattle.clif_paths.proofs.Naming.{give_keeps, use_keeps}
use Rattle.clif_paths.proofs.Assigning.{assign_keeps, name_held}
use Rattle.clif_paths.proofs.Sealing.{seal_keeps}
use Rattle.clif_paths.proofs.Restating.{initial_sound, restate_keeps}

-- every step keeps soundness
pub step_keeps : {s s' : State} → Step s s' → Sound s → Sound s'
step_keeps {s} (seal chosen into can) sound = seal_keeps s chosen into can sound
step_keeps {s} (record_values records can) sound = record_keeps s records can sound
step_keeps {s} (wait place x v can) sound = wait_keeps s place x v can sound
step_keeps {s} (fill x v given can) sound = fill_keeps s x v given can sound
step_keeps {s} (drop x v target can) sound = drop_keeps s x v target can sound
step_keeps {s} (put_zero place x z can) sound = zero_keeps s place x z can sound
step_keeps {s} (undefine x v z can) sound = undefine_keeps s x v z can sound
step_keeps {s} (give place n v can) sound = give_keeps s place n v can sound
step_keeps {s} (use_variable place n x v can) sound = use_keeps s place n x v can sound
step_keeps {s} (assign place x n can) sound = assign_keeps s place x n can sound
step_keeps {s} (restate definition argument can) sound = restate_keeps s definition argument can sound

pub steps_keep : {s s' : State} → Steps s s' → Sound s → Sound s'
steps_keep done sound = sound
steps_keep (then steps step) sound = step_keeps step (steps_keep steps sound)

pub reached_sound : {s : State} → Steps initial s → Sound s
reached_sound steps = steps_keep steps initial_sound

pub answer_holds :
    {edges : Edges} (s : State) → SoundUnder edges s → (n : ℕ) → (s.program.naming n).home ≢ start →
    (place : Place) → Dominates edges (s.program.naming n).home place → Holds edges s.program s.function (s.answer n) (name n) place
answer_holds s sound n written place d = name_held s.program s.function (s.answer n) n (sound.answers n written) place d

-- The function alone ----------------------------------------------------------------------------------------------

alone_by_kind :
    (function : Function) → NothingPending function → (program program' : Program) (arm : Arm) (path : Path) →
    ((w : ℕ) → denotation program function path w ≡ denotation program' function path w) →
    (u : ℕ) (kind : Kind) → (function.definition (function.resolve u)).kind ≡ kind →
    defined program function arm path (λ w. denotes program function path w) (function.resolve u) kind ≡
    defined program' function arm path (λ w. denotes program' function path w) (function.resolve u) kind
alone_by_kind function nothing program program' arm path before u unborn k = refl
alone_by_kind function nothing program program' arm path before u (born n) k = refl
alone_by_kind function nothing program program' arm path before u (pending x) k = absurd (nothing.none u x k)
alone_by_kind function nothing program program' arm path before u (complete x) k = before (function.argument (function.resolve u) arm)
alone_by_kind function nothing program program' arm path before u (zero_of x) k = refl

alone_step :
    (function : Function) → NothingPending function → (program program' : Program) (arm : Arm) (path : Path) →
    ((w : ℕ) → denotation program function path w ≡ denotation program' function path w) →
    (u : ℕ) → Dec (home_of function u ≡ arm.target) →
    denotation program function (arm ∷ path) u ≡ denotation program' function (arm ∷ path) u
alone_step function nothing program program' arm path before u (yes at) =
    denotes-here program function arm path (function.resolve u) at ∙
    alone_by_kind function nothing program program' arm path before u (function.definition (function.resolve u)).kind refl ∙
    sym (denotes-here program' function arm path (function.resolve u) at)
alone_step function nothing program program' arm path before u (no ne) =
    denotes-past program function arm path (function.resolve u) ne ∙ before u ∙
    sym (denotes-past program' function arm path (function.resolve u) ne)

-- where no parameter waits, the program doesn't matter
pub stands_alone :
    (function : Function) → NothingPending function → (program program' : Program) (path : Path) (u : ℕ) →
    denotation program function path u ≡ denotation program' function path u
unfolding denotes
stands_alone function nothing program program' [] u = refl
stands_alone function nothing program program' (arm ∷ path) u =
    let before : (w : ℕ) → denotation program function path w ≡ denotation program' function path w =
    stands_alone function nothing program program' path in
    alone_step function nothing program program' arm path before u (dec_place (home_of function u) arm.target)

-- The plain program -----------------------------------------------------------------------------------------------

-- each edge leads to a sealed place
pub record LeadsToSealed (edges : Edges) (program : Program) : Type 0 where
  pub sealed : (arm : Arm) → edges arm ≡ true → program.is_sealed arm.target ≡ true

plain_entered :
    {edges : Edges} (program : Program) → LeadsToSealed edges program → (arm : Arm) (path : Path) → Follows edges (arm ∷ path) →
    ((h : Holder) → instances program path h ≡ instances (all_sealed program) path h) →
    (x : ℕ) → entered program arm path x ≡ entered (all_sealed program) arm path x
plain_entered program leads arm path f before x =
    entered-sealed program arm path x (leads.sealed arm f.0) ∙ before (variable x)

plain_assigned :
    {edges : Edges} (program : Program) → LeadsToSealed edges program → (arm : Arm) (path : Path) → Follows edges (arm ∷ path) →
    ((h : Holder) → instances program path h ≡ instances (all_sealed program) path h) →
    (x : ℕ) (o : Option ℕ) →
    after_assignment (λ h. instances program path h) (entered program arm path x) o ≡
    after_assignment (λ h. instances (all_sealed program) path h) (entered (all_sealed program) arm path x) o
plain_assigned program leads arm path f before x None = plain_entered program leads arm path f before x
plain_assigned program leads arm path f before x (Some n) = before (name n)

plain_by_origin :
    {edges : Edges} (program : Program) → LeadsToSealed edges program → (arm : Arm) (path : Path) → Follows edges (arm ∷ path) →
    ((h : Holder) → instances program path h ≡ instances (all_sealed program) path h) →
    (n : ℕ) (origin : Origin) →
    at_home program arm path (λ h. instances program path h) n origin ≡
    at_home (all_sealed program) arm path (λ h. instances (all_sealed program) path h) n origin
plain_by_origin program leads arm path f before n fresh = refl
plain_by_origin program leads arm path f before n (reads x) = plain_entered program leads arm path f before x

plain_name :
    {edges : Edges} (program : Program) → LeadsToSealed edges program → (arm : Arm) (path : Path) → Follows edges (arm ∷ path) →
    ((h : Holder) → instances program path h ≡ instances (all_sealed program) path h) →
    (n : ℕ) → Dec ((program.naming n).home ≡ arm.target) →
    instances program (arm ∷ path) (name n) ≡ instances (all_sealed program) (arm ∷ path) (name n)
plain_name program leads arm path f before n (yes at) =
    name-here program arm path n at ∙
    plain_by_origin program leads arm path f before n (program.naming n).origin ∙
    sym (name-here (all_sealed program) arm path n at)
plain_name program leads arm path f before n (no ne) =
    name-past program arm path n ne ∙ before (name n) ∙ sym (name-past (all_sealed program) arm path n ne)

plain_step :
    {edges : Edges} (program : Program) → LeadsToSealed edges program → (arm : Arm) (path : Path) → Follows edges (arm ∷ path) →
    ((h : Holder) → instances program path h ≡ instances (all_sealed program) path h) →
    (h : Holder) → instances program (arm ∷ path) h ≡ instances (all_sealed program) (arm ∷ path) h
plain_step program leads arm path f before (variable x) =
    instances-variable program arm path x ∙
    plain_assigned program leads arm path f before x (program.assigned arm.target x) ∙
    sym (instances-variable (all_sealed program) arm path x)
plain_step program leads arm path f before (name n) =
    plain_name program leads arm path f before n (dec_place (program.naming n).home arm.target)

plain_first : (program : Program) (h : Holder) → instances program [] h ≡ instances (all_sealed program) [] h
unfolding instances
plain_first program (variable x) = refl
plain_first program (name n) = refl

-- along arms into sealed places, the program is as if all its places were sealed
pub plain :
    {edges : Edges} (program : Program) → LeadsToSealed edges program → (path : Path) → Follows edges path →
    (h : Holder) → instances program path h ≡ instances (all_sealed program) path h
plain program leads [] f h = plain_first program h
plain program leads (arm ∷ path) f h =
    let before : (h : Holder) → instances program path h ≡ instances (all_sealed program) path h = plain program leads path f.2 in
    plain_step program leads arm path f before h

-- The conclusion --------------------------------------------------------------------------------------------------

-- the known arms are allowed edges
pub arms_allowed : (s : State) → Sound s → AssignsGiven s.program → Allowed s.program s.program.arms
arms_allowed s sound assigns = record {
  known = λ arm e. refl;
  rooted = sound.rooted;
  given_before = assigns.given_before;
}

pub correct : (s : State) → Sound s → NothingPending s.function → AssignsGiven s.program → IsCorrect s
correct s sound nothing assigns =
    let under : SoundUnder s.program.arms s = sound.under s.program.arms (arms_allowed s sound assigns) in
    record {
      answers = λ n written place d.
          let held : Holds s.program.arms s.program s.function (s.answer n) (name n) place = answer_holds s under n written place d in
          record {
            there = held.there;
            denotes_name = λ any path f at_end.
                stands_alone s.function nothing any s.program path (s.answer n) ∙
                held.agrees path f at_end ∙
                plain s.program (record { sealed = sound.known_sealed }) path f (name n);
          };
      well_placed = λ n written place before. strictly_through (under.answers n written).there before;
      arguments = under.arguments;
    }

-- two different places that dominate one another are reached by no path
pub antisymmetric :
    (edges : Edges) (g h : Place) → Dominates edges g h → Dominates edges h g → g ≢ h → (path : Path) → Follows edges path → end_of path ≢ h
antisymmetric edges g h gh hg ne path f at_end = unvisited_pair gh hg ne path f (inl (gh.on_every_path path f at_end))

-- two correct states of one plain program
same_home : (program program' : Program) → all_sealed program ≡ all_sealed program' → (n : ℕ) → (program.naming n).home ≡ (program'.naming n).home
same_home program program' e n = ap (λ (p : Program). (p.naming n).home) e

pub sealing_order_is_free :
    (s s' : State) → IsCorrect s → IsCorrect s' → all_sealed s.program ≡ all_sealed s'.program →
    (n : ℕ) → (s.program.naming n).home ≢ start →
    (place : Place) → Dominates s.program.arms (s.program.naming n).home place →
    (any : Program) (path : Path) → Follows s.program.arms path → end_of path ≡ place →
    denotation any s.function path (s.answer n) ≡ denotation any s'.function path (s'.answer n)
sealing_order_is_free s s' correct correct' same n written place d any path f at_end =
    let home : (s.program.naming n).home ≡ (s'.program.naming n).home = same_home s.program s'.program same n in
    let arms : s.program.arms ≡ s'.program.arms = ap (λ (p : Program). p.arms) same in
    let written' : (s'.program.naming n).home ≢ start = λ e. written (home ∙ e) in
    let d' : Dominates s'.program.arms (s'.program.naming n).home place =
    subst (λ h. Dominates s'.program.arms h place) home (subst (λ edges. Dominates edges (s.program.naming n).home place) arms d) in
    let f' : Follows s'.program.arms path = subst (λ edges. Follows edges path) arms f in
    (correct.answers n written place d).denotes_name any path f at_end ∙
    ap (λ p. instances p path (name n)) same ∙
    sym ((correct'.answers n written' place d').denotes_name any path f' at_end)
