-- Where the bits of variables, names and values come from in an unfinished function: nothing was given yet, or what they hold was given
-- to a name, or held by a variable as control entered an unsealed block, which is moved as they are. So what denotes one instance is
-- moved alike.
use Rattle.std.proofs.Common.{◌≡◌, ◌≢◌, ◌⊎◌, ℕ, zero, suc, ◌+◌, ◌-◌, ◌≤◌, ◌&&◌, Bool, true, false, List, [], ◌∷◌, ◌++◌, map, length, slice_get, Option, Some, None, Contains, inl, inr, refl, sym, ◌∙◌, ap, subst, arith}
use Rattle.clif_types.specs.declared.types.«Type».{«Type»}
use Rattle.clif_types.specs.Signature.{SignatureShape}
use Rattle.clif_ir.specs.Body.{Body, block_at, resolved, value_at}
use Rattle.clif_ir.specs.Consistent.{IsConsistent}
use Rattle.clif_ir.specs.Reading.{param_home}
use Rattle.clif_instructions.specs.Members.{place_of}
use Rattle.clif_instructions.specs.declared.block_call.BlockArg.{BlockArg}
use Rattle.clif_instructions.specs.declared.block_call.BlockArg.TheVariants.{Value}
use Rattle.clif_paths.specs.Places.{Arm, Follows, Path, Place, end_of, start}
use Rattle.clif_paths.specs.State.{Definition, Function, Kind, Naming, Origin, Program, born, complete, fresh, pending, reads, unborn, zero_of}
use Rattle.clif_paths.specs.Denotation.{Instance, defined, denotes, given, instances, name, unknown, variable}
use Rattle.clif_paths.specs.Blocks.{arm_into, front, state_of}
use Rattle.clif_paths.specs.Laws.{entered}
use Rattle.clif_paths.proofs.PathLemmas.{dec_place}
use Rattle.clif_paths.proofs.Executing.{denotes-here, denotes-past, entered-sealed, entered-unsealed, function_steps, name-past, program_steps, variable-assigned, variable-entered}
use Rattle.clif_records.specs.declared.tables.Pending.{Pending}
use Rattle.clif_records.specs.Tables.{is_yes, pending_of}
use Rattle.clif_ssa.specs.Ssa.{SsaState, sealed_of}
use Rattle.clif_ssa.specs.Sound.{HomeFits, IsBehind, IsEdgeInto, entry_of, has_entry, passed_at}
use Rattle.clif_ssa.specs.Structured.{AreFor, HasParameters, Structured, waiting_in}
use Rattle.clif_ssa.proofs.Losing.{home_stands}
use Rattle.clif_ssa.proofs.Ordering.{stands_place}
use Rattle.clif_meaning.specs.FunctionMachine.{Collector, ByMaps, OverSet}
use Rattle.clif_meaning.specs.Ledger.{is_marked, ledger_after, or_invalid, variable_type}
use Rattle.clif_meaning.specs.Name.{Name}
use Rattle.clif_meaning.specs.Program.{Assign, Use}
use Rattle.clif_meaning.specs.Request.{AnsweredCall, script_of}
use Rattle.clif_meaning.specs.View.{view_of}
use Rattle.clif_meaning.specs.WellPlaced.{IsWellPlaced}
use Rattle.clif_meaning.proofs.StraightLine.{nothing_contained}
use Rattle.clif_tables.specs.Callees.{types_of}
use Rattle.clif_simulation.specs.Coming.{Coming, code_coming}
use Rattle.clif_simulation.specs.Marked.{IsPut, IsTrackedAsMarked}
use Rattle.clif_simulation.specs.Reading.{IsGivenFresh, IsItemTypedSoFar, WellTypedSoFar}
use Rattle.clif_simulation.specs.Tables.{answered, code, program_so_far}
use Rattle.clif_simulation.proofs.Codes
use Rattle.clif_simulation.proofs.Finished.Agreement.{IsBlank}
use Rattle.clif_simulation.proofs.Finished.Entry.{resolved_twice}
use Rattle.clif_simulation.proofs.Finished.Placing.{at_second}
use Rattle.clif_simulation.proofs.Finished.Sources.{place_stands}
use Rattle.clif_simulation.proofs.Finished.Straight.{arms, both_right}
use Rattle.clif_simulation.proofs.Finished.Targets.{name_types}
use Rattle.clif_simulation.proofs.GivenNames.{IsNamed, is_named}
use Rattle.clif_simulation.proofs.Labelling.FreshValues.{used_value}
use Rattle.clif_simulation.proofs.Labelling.GivenBy.{IsRead, assigned_item, read_item}
use Rattle.clif_simulation.proofs.Labelling.Labelled
use Rattle.clif_simulation.proofs.Labelling.Labels.{IsNothing}
use Rattle.clif_simulation.proofs.Labelling.Outside.{collects, collects_itself}
use Rattle.clif_simulation.proofs.LedgerValues.{value_type}
use Rattle.clif_simulation.proofs.Listed.{all_at}
use Rattle.clif_simulation.proofs.Unfinished.OpenArms
use Rattle.clif_simulation.proofs.Unfinished.OpenFlow
use Rattle.clif_simulation.proofs.Whole.{Whole, are_declared, declared_types, sealed_none, waiting_pending}
use Rattle.clif_standing_laws.specs.Marked.{MovesAsMarked, moved_by}

-- Lists ---------------------------------------------------------------------------------------------------------------------

value_is : (a b : ℕ) → Some (Value a) ≡ Some (Value b) → a ≡ b
value_is a b e = cc

-- a definition, and a naming, by its parts
defined_as : (d : Definition) (place : Place) (kind : Kind) → d.home ≡ place → d.kind ≡ kind → d ≡ record { home = place; kind = kind }
defined_as d place kind at is =
    ap (λ (p : Place). record { home = p; kind = d.kind }) at ∙ ap (λ (k : Kind). record { home = place; kind = k }) is

named_as : (m : Naming) (place : Place) (origin : Origin) → m.home ≡ place → m.origin ≡ origin → m ≡ record { home = place; origin = origin }
named_as m place origin at is =
    ap (λ (p : Place). record { home = p; origin = m.origin }) at ∙ ap (λ (o : Origin). record { home = place; origin = o }) is

-- values that are for parameters have their types, whatever comes behind these
for_types : (f : Body) (values params more : List ℕ) → AreFor f values params → (j a p : ℕ) → slice_get (map Value values) j ≡ Some (Value a)
    → slice_get (params ++ more) j ≡ Some p → (value_at f a).ty ≡ (value_at f p).ty
for_types f [] params more all j a p value param = cc
for_types f (v ∷ values) [] more all j a p value param = absurd all
for_types f (v ∷ values) (q ∷ params) more all zero a p value param =
    let one : v ≡ a = value_is v a value in
    let other : q ≡ p = cc in
    ap (λ (u : ℕ). (value_at f u).ty) (sym one) ∙ all.0.1 ∙ ap (λ (u : ℕ). (value_at f u).ty) other
for_types f (v ∷ values) (q ∷ params) more all (suc j) a p value param = for_types f values params more all.1 j a p value param

-- a value that is no alias moves as the collector has it
pub collected_is : (f : Body) (collector : Collector) (v : ℕ) → resolved f v ≡ v → collects f collector v ≡ moved_by collector v
collected_is f ByMaps v itself = refl
collected_is f (OverSet members) v itself = collects_itself f members v itself

-- Sources ---------------------------------------------------------------------------------------------------------------------

-- what an instance comes from: a name that it was given to, or a variable that held it at an unsealed block
abbrev Source : Type 0
Source = Name ⊎ ℕ

abbrev stands_for : Source → Path → Instance
stands_for (inl n) on = given (code n) on
stands_for (inr x) on = unknown x on

same_source : (a b : Source) (p q : Path) (i : Instance) → i ≡ stands_for a p → i ≡ stands_for b q → a ≡ b
same_source (inl m) (inl n) p q i one other =
    let same : given (code m) p ≡ given (code n) q = sym one ∙ other in
    let codes : code m ≡ code n = cc in
    ap (λ (k : Name). inl k) (Codes.differ m n codes)
same_source (inl m) (inr y) p q i one other = cc
same_source (inr x) (inl n) p q i one other = cc
same_source (inr x) (inr y) p q i one other =
    let same : unknown x p ≡ unknown y q = sym one ∙ other in
    let variables : x ≡ y = cc in
    ap (λ (k : ℕ). inr k) variables

abbrev variable_types : List AnsweredCall → ℕ → «Type»
variable_types calls x = or_invalid (variable_type (ledger_after (script_of calls)) x)

abbrev mark_of : List AnsweredCall → (Name → Bool) → Source → Bool
mark_of calls tracked (inl n) = tracked n
mark_of calls tracked (inr x) = is_marked (ledger_after (script_of calls)) x

abbrev type_of_source : List AnsweredCall → Source → «Type»
type_of_source calls (inl n) = name_types calls n
type_of_source calls (inr x) = variable_types calls x

-- the instance comes from a source with this mark and this type
pub record IsFrom (calls : List AnsweredCall) (tracked : Name → Bool) (mark : Bool) (ty : «Type») (i : Instance) : Type 0 where
  source : Source
  on : Path
  is : i ≡ stands_for source on
  marked : mark_of calls tracked source ≡ mark
  typed : type_of_source calls source ≡ ty

-- or nothing was given yet
abbrev pub ComesOf : List AnsweredCall → (Name → Bool) → Bool → «Type» → Instance → Type 0
ComesOf calls tracked mark ty i = IsNothing i ⊎ IsFrom calls tracked mark ty i

module _ (calls : List AnsweredCall) (tracked : Name → Bool) where
  -- what one instance comes of has one mark and one type
  pub marks_alike : (one other : Bool) (ty uy : «Type») (i : Instance) → ComesOf calls tracked one ty i → ComesOf calls tracked other uy i
      → IsNothing i ⊎ ((one ≡ other) × (ty ≡ uy))
  marks_alike one other ty uy i (inl nothing) b = inl nothing
  marks_alike one other ty uy i (inr a) (inl nothing) = inl nothing
  marks_alike one other ty uy i (inr a) (inr b) =
      let same : a.source ≡ b.source = same_source a.source b.source a.on b.on i a.is b.is in
      inr (sym a.marked ∙ ap (mark_of calls tracked) same ∙ b.marked, sym a.typed ∙ ap (type_of_source calls) same ∙ b.typed)

  -- what comes of a source does so under each other mark and type that is the same
  comes_alike : (one other : Bool) (ty uy : «Type») (i j : Instance) → one ≡ other → ty ≡ uy → i ≡ j
      → ComesOf calls tracked one ty i → ComesOf calls tracked other uy j
  comes_alike one other ty uy i j marks types is (inl nothing) = inl (subst IsNothing is nothing)
  comes_alike one other ty uy i j marks types is (inr a) =
      inr (record { source = a.source; on = a.on; is = sym is ∙ a.is; marked = a.marked ∙ marks; typed = a.typed ∙ types })

module _ (coming : Coming) (calls : List AnsweredCall) (f : Body) (s : SsaState) (consistent : IsConsistent f) (carries : Whole calls f s)
    (placed : IsWellPlaced (code_coming coming calls)) (signature : SignatureShape) (growing : Name → Bool)
    (typed : WellTypedSoFar growing (ledger_after (script_of calls)) (program_so_far calls) signature)
    (tracked : Name → Bool) (collector : Collector) (moving : MovesAsMarked calls carries.own f s tracked collector)
  where
    abbrev marked : ℕ → Bool
    marked = is_marked (ledger_after (script_of calls))

    abbrev moves : ℕ → Bool
    moves = collects f collector

    abbrev program : Program
    program = (state_of carries.tables).program

    abbrev function : Function
    function = carries.tables.function

    abbrev value_types : ℕ → «Type»
    value_types w = (view_of f).value_type w

    structured_so_far : Structured (declared_types calls) carries.own f s []
    structured_so_far = carries.structured (declared_types calls) (are_declared calls)

    -- no edge leads to the start
    never_start : (arm : Arm) → OpenFlow.edges coming calls f s consistent carries arm ≡ true → arm.target ≡ start → ⊥
    never_start arm known at =
        let none : OpenFlow.edges coming calls f s consistent carries arm ≡ false = (OpenFlow.allowed coming calls f s consistent carries placed).rooted arm at in
        let clash : ⊥ = cc in clash

    -- Values ------------------------------------------------------------------------------------------------------------------

    abbrev pub ValueComes : Path → ℕ → Type 0
    ValueComes path w = ComesOf calls tracked (moves w) (value_types w) (denotes program function path w)

    -- a zero, and what is on the way to one, denotes nothing
    blank_nothing : (path : Path) (w : ℕ) → IsBlank (function.definition w).kind → IsNothing (denotes program function path w)
    unfolding denotes
    blank_nothing [] w blank = tt
    blank_nothing (arm ∷ path) w blank = by (dec_place (function.definition w).home arm.target) (blank_nothing path w blank)
      where
        of_kind : (kind : Kind) → IsBlank kind → IsNothing (defined program function arm path (λ u. denotes program function path u) w kind)
        of_kind unborn is = tt
        of_kind (zero_of x) is = tt
        of_kind (born n) is = absurd is
        of_kind (pending x) is = absurd is
        of_kind (complete x) is = absurd is

        by : Dec ((function.definition w).home ≡ arm.target) → IsNothing (denotes program function path w) → IsNothing (denotes program function (arm ∷ path) w)
        by (yes at) before = subst IsNothing (sym (denotes-here program function arm path w at)) (of_kind (function.definition w).kind blank)
        by (no other) before = subst IsNothing (sym (denotes-past program function arm path w other)) before

    -- the block in which a parameter waits
    record WaitsIn (w x : ℕ) : Type 0 where
      block : ℕ
      there : Contains (pending_of (sealed_of s block)) (record { variable = x; param = w })
      home : param_home f w ≡ Some block
      definition : function.definition w ≡ record { home = front block; kind = pending x }

    waits_in : (w x : ℕ) → resolved f w ≡ w → (function.definition w).kind ≡ pending x → WaitsIn w x
    waits_in w x itself kind = by (carries.describes.pends w x itself kind)
      where
        by : ((b : ℕ) × Contains (pending_of (sealed_of s b)) (record { variable = x; param = w })) ⊎ Contains {X = Pending} [] (record { variable = x; param = w })
            → WaitsIn w x
        by (inl found) =
            let waits = carries.describes.waiting found.0 (record { variable = x; param = w }) found.1 in
            record { block = found.0; there = found.1; home = waits.parameter; definition = waits.defined }
        by (inr none) = absurd (nothing_contained {X = Pending} (record { variable = x; param = w }) none)

    -- where one waits isn't sealed
    unsealed : (b : ℕ) (p : Pending) → Contains (pending_of (sealed_of s b)) p → program.is_sealed (front b) ≡ false
    unsealed b p there = by (is_yes (sealed_of s b)) refl
      where
        by : (t : Bool) → is_yes (sealed_of s b) ≡ t → program.is_sealed (front b) ≡ false
        by true is = absurd (nothing_contained p (subst (λ (waiting : List Pending). Contains waiting p) (sealed_none (sealed_of s b) is) there))
        by false is = carries.describes.sealed b ∙ ap (λ (t : Bool). t && has_entry f.layout) is

    -- A parameter that waits has what its variable holds at its block.
    of_pending : (arm : Arm) (path : Path) (w x : ℕ) → resolved f w ≡ w → (function.definition w).home ≡ arm.target
        → (function.definition w).kind ≡ pending x → ValueComes (arm ∷ path) w
    of_pending arm path w x itself at kind =
        let waits = waits_in w x itself kind in
        let target : arm.target ≡ front waits.block = sym at ∙ ap (λ (d : Definition). d.home) waits.definition in
        let open_there : program.is_sealed arm.target ≡ false =
        ap (λ (p : Place). program.is_sealed p) target ∙ unsealed waits.block (record { variable = x; param = w }) waits.there in
        inr (record {
          source = inr x;
          on = arm ∷ path;
          is = (function_steps program function arm path).pending_here w x (defined_as (function.definition w) arm.target (pending x) at kind)
              ∙ entered-unsealed program arm path x open_there;
          marked = sym (collected_is f collector w itself ∙ moving.waiting waits.block (record { variable = x; param = w }) waits.there);
          typed = sym (structured_so_far.waiting waits.block (record { variable = x; param = w })
              (subst (λ (ps : List Pending). Contains ps (record { variable = x; param = w })) (sym (waiting_pending f (sealed_of s waits.block) waits.block)) waits.there)).0.1;
        })

    -- the name that a value is born with, which it answers
    module _ (w n : ℕ) (kind : (function.definition w).kind ≡ born n) (fits : HomeFits carries.tables w (born n)) where
      born_named : IsNamed calls carries.tables n
      born_named = is_named calls carries.tables carries.program n (λ none. fits.2 (sym (ap (λ (m : Naming). m.home) fits.0) ∙ none))

      source : Name
      source = born_named.name

      source_named : carries.tables.naming (code source) ≡ record { home = (function.definition w).home; origin = fresh }
      unfolding source
      source_named = ap carries.tables.naming born_named.coded ∙ fits.0

      source_kind : (function.definition w).kind ≡ born (code source)
      unfolding source
      source_kind = kind ∙ ap born (sym born_named.coded)

      source_defined : function.definition w ≡ record { home = (function.definition w).home; kind = born (code source) }
      source_defined = defined_as (function.definition w) (function.definition w).home (born (code source)) refl source_kind

      source_fresh : IsGivenFresh (program_so_far calls) source
      source_fresh = Labelled.is_fresh calls f s consistent carries source w (function.definition w).home source_named source_defined

      source_answer : answered calls source ≡ w
      source_answer = Labelled.is_answer calls f s consistent carries source w (function.definition w).home source_named source_defined

      source_type : name_types calls source ≡ value_types w
      source_type = Labelled.same_type calls f s consistent carries source w (function.definition w).home source_named source_defined

    -- what the construction put is such
    put_blank : (w : ℕ) → resolved f w ≡ w → IsPut calls f w → IsBlank (function.definition w).kind
    put_blank w itself put = by (function.definition w).kind refl (carries.describes.homes w)
      where
        some_home : (b : ℕ) → None ≡ Some b → ⊥
        some_home b e = cc

        by : (kind : Kind) → (function.definition w).kind ≡ kind → HomeFits carries.tables w kind → IsBlank kind
        by unborn is fits = tt
        by (zero_of x) is fits = tt
        by (pending x) is fits = let waits = waits_in w x itself is in some_home waits.block (sym put.no_parameter ∙ waits.home)
        by (complete x) is fits =
            some_home fits.0 (sym put.no_parameter ∙ carries.describes.complete_there fits.0 w (defined_as (function.definition w) (front fits.0) (complete x) fits.1 is))
        by (born n) is fits = put.no_answer (source w n is fits) (source_fresh w n is fits) (source_answer w n is fits)

    -- A value that is born with a name is moved as the name is.
    of_born : (arm : Arm) (path : Path) (w n : ℕ) → resolved f w ≡ w → (function.definition w).home ≡ arm.target
        → (kind : (function.definition w).kind ≡ born n) → HomeFits carries.tables w (born n) → ValueComes (arm ∷ path) w
    of_born arm path w n itself at kind fits = inr (record {
      source = inl (source w n kind fits);
      on = arm ∷ path;
      is = (function_steps program function arm path).born_here w (code (source w n kind fits))
          (defined_as (function.definition w) arm.target (born (code (source w n kind fits))) at (source_kind w n kind fits));
      marked = sym (moving.values.answers (source w n kind fits) (source_fresh w n kind fits))
          ∙ ap (moved_by collector) (ap (resolved f) (source_answer w n kind fits) ∙ itself) ∙ sym (collected_is f collector w itself);
      typed = source_type w n kind fits;
    })

    -- An argument of a parameter has its type, and is moved as it is, or is a zero.
    module _ (b w : ℕ) {x : ℕ} (arm : Arm) (edge : IsEdgeInto f s carries.tables b arm) (itself : resolved f w ≡ w)
        (at : (function.definition w).home ≡ arm.target) (kind : (function.definition w).kind ≡ complete x) (target : arm.target ≡ front b)
      where
        defined_is : function.definition w ≡ record { home = front b; kind = complete x }
        defined_is = defined_as (function.definition w) (front b) (complete x) (at ∙ target) kind

        abbrev argument : ℕ
        argument = function.argument w arm

        abbrev callers : ℕ
        callers = length (carries.own.params b)

        abbrev place : ℕ
        place = place_of w (block_at f b).params

        home : param_home f w ≡ Some b
        home = carries.describes.complete_there b w defined_is

        past : callers ≤ place
        past = subst (λ (d : Definition). IsBehind d.kind place callers) defined_is (carries.counts.behind b w home)

        -- its place behind the caller's
        abbrev j : ℕ
        j = place - callers

        whole : place ≡ callers + j
        whole = omega (arith, past)

        stands : slice_get (block_at f b).params (callers + j) ≡ Some w
        stands =
            ap (slice_get (block_at f b).params) (sym whole)
            ∙ place_stands w (block_at f b).params (stands_place w (block_at f b).params (home_stands f consistent w b home))

        passes : passed_at f edge.branch arm.edge (length (carries.own.passed edge.branch arm.edge) + j) ≡ Some (Value argument)
        passes = carries.describes.passes b w arm edge defined_is target (length (carries.own.passed edge.branch arm.edge) + j) (omega (arith, whole))

        moved_or_put : (moved_by collector (resolved f argument) ≡ moved_by collector (resolved f w)) ⊎ IsPut calls f (resolved f argument)
        moved_or_put = moving.values.arguments b edge.branch arm.edge j argument w edge.leads edge.to passes stands

        -- those that wait come behind: none
        abbrev waiting : List ℕ
        waiting = map (λ (p : Pending). p.param) (waiting_in f s [] b)

        same_type : value_types (resolved f argument) ≡ value_types w
        same_type =
            let has : HasParameters carries.own f s [] b = structured_so_far.parameters b in
            let passed = has.edges edge.branch arm.edge edge.leads edge.to in
            structured_so_far.alias_types argument
            ∙ for_types f passed.values has.complete waiting passed.are_for j argument w
            (sym (at_second (carries.own.passed edge.branch arm.edge) (map Value passed.values) (length (carries.own.passed edge.branch arm.edge) + j) j refl)
            ∙ ap (λ (args : List BlockArg). slice_get args (length (carries.own.passed edge.branch arm.edge) + j)) (sym passed.in_order) ∙ passes)
            (sym (at_second (carries.own.params b) (has.complete ++ waiting) (callers + j) j refl)
            ∙ ap (λ (params : List ℕ). slice_get params (callers + j)) (sym has.in_order) ∙ stands)

        -- so the parameter comes of what the argument does
        of_argument : (path : Path) → ((u : ℕ) → resolved f u ≡ u → ValueComes path u) → ValueComes (arm ∷ path) w
        of_argument path before = by moved_or_put
          where
            u_itself : resolved f (resolved f argument) ≡ resolved f argument
            u_itself = resolved_twice f argument consistent

            takes : denotes program function path (resolved f argument) ≡ denotes program function (arm ∷ path) w
            takes =
                ap (λ (v : ℕ). denotes program function path v) (sym (carries.describes.resolves argument))
                ∙ sym ((function_steps program function arm path).complete_here w x (defined_as (function.definition w) arm.target (complete x) at kind))

            by : (moved_by collector (resolved f argument) ≡ moved_by collector (resolved f w)) ⊎ IsPut calls f (resolved f argument) → ValueComes (arm ∷ path) w
            by (inl same) =
                comes_alike calls tracked (moves (resolved f argument)) (moves w) (value_types (resolved f argument)) (value_types w)
                (denotes program function path (resolved f argument)) (denotes program function (arm ∷ path) w)
                (collected_is f collector (resolved f argument) u_itself ∙ same ∙ ap (moved_by collector) itself ∙ sym (collected_is f collector w itself)) same_type takes
                (before (resolved f argument) u_itself)
            by (inr put) = inl (subst IsNothing takes (blank_nothing path (resolved f argument) (put_blank (resolved f argument) u_itself put)))

    -- at first nothing is there to be passed
    from_start : (path : Path) → Follows (OpenFlow.edges coming calls f s consistent carries) path → start ≡ end_of path → (u : ℕ)
        → IsNothing (denotes program function path u)
    unfolding denotes
    from_start [] follows ends u = tt
    from_start (arm ∷ path) follows ends u = absurd (never_start arm follows.0 (sym ends))

    -- A parameter of the construction's, as its block is entered.
    of_complete : (arm : Arm) (path : Path) (w x : ℕ) → Follows (OpenFlow.edges coming calls f s consistent carries) (arm ∷ path) → resolved f w ≡ w
        → (function.definition w).home ≡ arm.target → (function.definition w).kind ≡ complete x → HomeFits carries.tables w (complete x)
        → ((u : ℕ) → resolved f u ≡ u → ValueComes path u) → ValueComes (arm ∷ path) w
    of_complete arm path w x follows itself at kind fits before =
        let way = carries.describes.joined arm (both_right (carries.tables.sealed fits.0) (carries.tables.joins arm) known) in
        by way.0 way.1 way.3
      where
        target : arm.target ≡ front fits.0
        target = sym at ∙ fits.1

        known_arm : arms carries.tables arm ≡ true
        known_arm =
            sym (OpenArms.known_open (OpenFlow.more_coming calls carries.tables coming) carries.own f s carries.tables carries.describes arm
            (ap (λ (p : Place). program.is_sealed p) target ∙ fits.2))
            ∙ follows.0

        known : (carries.tables.sealed fits.0 && carries.tables.joins arm) ≡ true
        known = subst (λ (p : Place). arm_into carries.tables.count carries.tables.sealed carries.tables.joins arm p ≡ true) target known_arm

        by : (b : ℕ) → arm.target ≡ front b → ((arm.source ≡ start) × (entry_of f ≡ Some b)) ⊎ IsEdgeInto f s carries.tables b arm → ValueComes (arm ∷ path) w
        by b target (inl enters) =
            inl (subst IsNothing (sym ((function_steps program function arm path).complete_here w x (defined_as (function.definition w) arm.target (complete x) at kind)))
            (from_start path follows.2 (sym enters.0 ∙ follows.1) (function.resolve (function.argument w arm))))
        by b target (inr edge) = of_argument b w arm edge itself at kind target path before

    pub value_comes : (path : Path) → Follows (OpenFlow.edges coming calls f s consistent carries) path → (w : ℕ) → resolved f w ≡ w → ValueComes path w
    unfolding denotes
    value_comes [] follows w itself = inl tt
    value_comes (arm ∷ path) follows w itself = by (dec_place (function.definition w).home arm.target) (λ u live. value_comes path follows.2 u live)
      where
        here : (function.definition w).home ≡ arm.target → ((u : ℕ) → resolved f u ≡ u → ValueComes path u)
            → (kind : Kind) → (function.definition w).kind ≡ kind → HomeFits carries.tables w kind → ValueComes (arm ∷ path) w
        here at before unborn kind fits = inl (blank_nothing (arm ∷ path) w (subst IsBlank (sym kind) tt))
        here at before (zero_of x) kind fits = inl (blank_nothing (arm ∷ path) w (subst IsBlank (sym kind) tt))
        here at before (born n) kind fits = of_born arm path w n itself at kind fits
        here at before (complete x) kind fits = of_complete arm path w x follows itself at kind fits before
        here at before (pending x) kind fits = of_pending arm path w x itself at kind

        by : Dec ((function.definition w).home ≡ arm.target) → ((u : ℕ) → resolved f u ≡ u → ValueComes path u) → ValueComes (arm ∷ path) w
        by (yes at) before = here at before (function.definition w).kind refl (carries.describes.homes w)
        by (no other) before =
            subst (ComesOf calls tracked (moves w) (value_types w)) (sym (denotes-past program function arm path w other)) (before w itself)

    -- Variables and names -------------------------------------------------------------------------------------------------------

    abbrev pub VariableComes : Path → ℕ → Type 0
    VariableComes path x = ComesOf calls tracked (marked x) (variable_types calls x) (instances program path (variable x))

    abbrev pub NameComes : Path → Name → Type 0
    NameComes path n = ComesOf calls tracked (tracked n) (name_types calls n) (instances program path (name (code n)))

    pub record HaveSources (path : Path) : Type 0 where
      pub variables : (x : ℕ) → VariableComes path x
      pub names : (n : Name) → NameComes path n

    -- one arm further
    module _ (arm : Arm) (path : Path) (follows : Follows (OpenFlow.edges coming calls f s consistent carries) (arm ∷ path)) (before : HaveSources path) where
      -- what a variable holds as control enters the place: what it held, or any bits where that isn't sealed
      entered_comes : (x : ℕ) → ComesOf calls tracked (marked x) (variable_types calls x) (entered program arm path x)
      entered_comes x = by (program.is_sealed arm.target) refl
        where
          by : (sealed : Bool) → program.is_sealed arm.target ≡ sealed → ComesOf calls tracked (marked x) (variable_types calls x) (entered program arm path x)
          by true is = subst (ComesOf calls tracked (marked x) (variable_types calls x)) (sym (entered-sealed program arm path x is)) (before.variables x)
          by false is = inr (record { source = inr x; on = arm ∷ path; is = entered-unsealed program arm path x is; marked = refl; typed = refl })

      assigned_comes : (x c : ℕ) → program.assigned arm.target x ≡ Some c → VariableComes (arm ∷ path) x
      assigned_comes x c is =
          let a = assigned_item calls carries.tables carries.program arm.target x c is in
          comes_alike calls tracked (tracked a.from) (marked x) (name_types calls a.from) (variable_types calls x)
          (instances program path (name (code a.from))) (instances program (arm ∷ path) (variable x))
          (all_at (IsTrackedAsMarked marked tracked) ((program_so_far calls).items a.block) a.index (Assign x a.from) (moving.names a.block) a.stands)
          (ap or_invalid (all_at (IsItemTypedSoFar growing (ledger_after (script_of calls)) (program_so_far calls) (types_of signature.returns))
          ((program_so_far calls).items a.block) a.index (Assign x a.from) (typed.items a.block) a.stands))
          (ap (λ (n : ℕ). instances program path (name n)) a.coded ∙ sym (variable-assigned program arm path x c is))
          (before.names a.from)

      variable_comes : (x : ℕ) (o : Option ℕ) → program.assigned arm.target x ≡ o → VariableComes (arm ∷ path) x
      variable_comes x (Some c) is = assigned_comes x c is
      variable_comes x None none =
          subst (ComesOf calls tracked (marked x) (variable_types calls x)) (sym (variable-entered program arm path x none)) (entered_comes x)

      -- What a use gives is what its variable has, and what its value denotes: the variable has its mark, the value its type.
      module _ (n : Name) (x : ℕ) (at : (carries.tables.naming (code n)).home ≡ arm.target) (origin : (carries.tables.naming (code n)).origin ≡ reads x) where
        begun : (carries.tables.naming (code n)).home ≢ start
        begun none = never_start arm follows.0 (sym at ∙ none)

        used : IsRead calls x n
        used = read_item calls carries.tables carries.program n begun x origin

        abbrev answer : ℕ
        answer = resolved f (answered calls n)

        variable_there : entered program arm path x ≡ instances program (arm ∷ path) (name (code n))
        variable_there =
            sym ((program_steps program arm path).read_here (code n) x
            (named_as (carries.tables.naming (code n)) arm.target (reads x) at origin))

        value_there : denotes program function (arm ∷ path) answer ≡ instances program (arm ∷ path) (name (code n))
        value_there =
            let g = is_named calls carries.tables carries.program (code n) begun in
            let answer_is : carries.tables.answer (code n) ≡ answered calls n = g.answers ∙ ap (answered calls) (Codes.differ g.name n g.coded) in
            let holds = (OpenFlow.under coming calls f s consistent carries placed).answers (code n) begun in
            ap (λ (v : ℕ). denotes program function (arm ∷ path) v)
            (sym (carries.describes.resolves (carries.tables.answer (code n)) ∙ ap (resolved f) answer_is))
            ∙ holds.agrees (arm ∷ path) follows (sym at)

        typed_answer : value_types answer ≡ name_types calls n
        typed_answer =
            let is = value_type calls n (used_value calls used.block used.index x n used.stands) in
            structured_so_far.alias_types (answered calls n) ∙ (carries.values_typed n is.0 is.1).1 ∙ sym (ap or_invalid is.1)

        joined : (i : Instance) → ComesOf calls tracked (marked x) (variable_types calls x) i → ComesOf calls tracked (moves answer) (value_types answer) i
            → ComesOf calls tracked (tracked n) (name_types calls n) i
        joined i (inl nothing) b = inl nothing
        joined i (inr a) (inl nothing) = inl nothing
        joined i (inr a) (inr b) = inr (record {
          source = a.source;
          on = a.on;
          is = a.is;
          marked = a.marked
              ∙ sym (all_at (IsTrackedAsMarked marked tracked) ((program_so_far calls).items used.block) used.index (Use x n) (moving.names used.block) used.stands);
          typed = ap (type_of_source calls) (same_source a.source b.source a.on b.on i a.is b.is) ∙ b.typed ∙ typed_answer;
        })

        read_comes : NameComes (arm ∷ path) n
        read_comes =
            joined (instances program (arm ∷ path) (name (code n)))
            (subst (ComesOf calls tracked (marked x) (variable_types calls x)) variable_there (entered_comes x))
            (subst (ComesOf calls tracked (moves answer) (value_types answer)) value_there
            (value_comes (arm ∷ path) follows answer (resolved_twice f (answered calls n) consistent)))

      name_here : (n : Name) → (carries.tables.naming (code n)).home ≡ arm.target → (o : Origin) → (carries.tables.naming (code n)).origin ≡ o
          → NameComes (arm ∷ path) n
      name_here n at (reads x) origin = read_comes n x at origin
      name_here n at fresh origin = inr (record {
        source = inl n;
        on = arm ∷ path;
        is = (program_steps program arm path).given_here (code n) (named_as (carries.tables.naming (code n)) arm.target fresh at origin);
        marked = refl;
        typed = refl;
      })

      name_comes : (n : Name) → NameComes (arm ∷ path) n
      name_comes n = by (dec_place (carries.tables.naming (code n)).home arm.target)
        where
          by : Dec ((carries.tables.naming (code n)).home ≡ arm.target) → NameComes (arm ∷ path) n
          by (yes at) = name_here n at (carries.tables.naming (code n)).origin refl
          by (no other) = subst (ComesOf calls tracked (tracked n) (name_types calls n)) (sym (name-past program arm path (code n) other)) (before.names n)

    pub have_sources : (path : Path) → Follows (OpenFlow.edges coming calls f s consistent carries) path → HaveSources path
    unfolding instances
    have_sources [] follows = record { variables = λ x. inl tt; names = λ n. inl tt }
    have_sources (arm ∷ path) follows =
        let before : HaveSources path = have_sources path follows.2 in
        record { variables = λ x. variable_comes arm path follows before x (program.assigned arm.target x) refl; names = name_comes arm path follows before }
