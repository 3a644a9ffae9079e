-- The labels of an unfinished function: those names and values that both runs move at outside calls.
use Rattle.std.proofs.Common.{◌≡◌, ◌≢◌, ℕ, suc, ◌==◌, ◌&&◌, Bool, true, false, List, [], Some, Contains, ◌⊎◌, inl, inr, refl, sym, ◌∙◌, ap, subst, arith}
use Rattle.std.specs.Prelude.{IsTrue}
use Rattle.std.proofs.lemmas.Bool.Decides.{nat_tests}
use Rattle.clif_ir.specs.Body.{Body, resolved}
use Rattle.clif_ir.specs.Consistent.{IsConsistent}
use Rattle.clif_paths.specs.Places.{Place, inside, start}
use Rattle.clif_paths.specs.State.{Origin, fresh, reads, Definition, Function, Naming, Program, born, unborn}
use Rattle.clif_paths.specs.Blocks.{front, state_of}
use Rattle.clif_ssa.specs.Ssa.{SsaState}
use Rattle.clif_ssa.specs.Sound.{HomeFits}
use Rattle.clif_meaning.specs.FunctionMachine.{Collector, ByMaps, OverSet}
use Rattle.clif_meaning.specs.Ledger.{is_marked, ledger_after, or_invalid}
use Rattle.clif_meaning.specs.Name.{Name}
use Rattle.clif_meaning.specs.Premises.{EachItem, KeepsTrackedApart}
use Rattle.clif_meaning.specs.Program.{Item, Instruct, Use, Assign}
use Rattle.clif_meaning.specs.Request.{AnsweredCall, script_of}
use Rattle.clif_meaning.specs.View.{view_of}
use Rattle.clif_meaning.proofs.StraightLine.{nothing_contained}
use Rattle.clif_simulation.specs.Carries.{CallsNothing}
use Rattle.clif_simulation.specs.Reading.{AnswersTracked, IsGivenFresh, IsOver, IsResult, LeavesValues, MovesAlike, MovesTracked, NoneMarked}
use Rattle.clif_simulation.specs.Tables.{answered, block_name, code, item_at, program_so_far}
use Rattle.clif_simulation.proofs.Codes
use Rattle.clif_simulation.proofs.Unfinished.Ended.{alias_nowhere, defined-end, with_ends_only}
use Rattle.clif_simulation.proofs.Labelling.FreshValues.{fresh_value}
use Rattle.clif_simulation.proofs.Labelling.GivenBy.{assigned_item, given_fresh, read_item}
use Rattle.clif_simulation.proofs.GivenNames.{is_named}
use Rattle.clif_simulation.proofs.Finished.Giving.{contained_in}
use Rattle.clif_simulation.proofs.Finished.IntoBlock
use Rattle.clif_simulation.proofs.Finished.ItemsAt
use Rattle.clif_simulation.proofs.Labelling.Labels.{IsBornLabelled, Labels, false_no_true, no_labels}
use Rattle.clif_simulation.proofs.Labelling.Outside.{collects}
use Rattle.clif_simulation.proofs.LedgerValues.{value_type}
use Rattle.clif_simulation.proofs.Listed.{all_at}
use Rattle.clif_simulation.proofs.Finished.Placing.{contained_at}
use Rattle.clif_simulation.proofs.Finished.Targets.{name_types}
use Rattle.clif_simulation.proofs.Whole.{Whole}

-- Both runs move what has a label, a name and its value alike.
pub record MovesLabelled (calls : List AnsweredCall) (f : Body) (tracked : Name → Bool) (collector : Collector) (program : Program) (function : Function) (labels : Labels program function) : Type 0 where
  pub unmarked : NoneMarked calls
  pub of_name : (n : Name) → tracked n ≡ labels.of_name n
  pub of_value : (v : ℕ) → collects f collector v ≡ labels.of_value v
  pub types : (w : ℕ) (b : IsBornLabelled labels.of_name program function w) → name_types calls b.source ≡ (view_of f).value_type w

-- or nothing is called
abbrev pub MovesBy : List AnsweredCall → Body → (Name → Bool) → Collector → (program : Program) (function : Function) → Labels program function → Type 0
MovesBy calls f tracked collector program function labels =
    EachItem CallsNothing (program_so_far calls) ⊎ MovesLabelled calls f tracked collector program function labels

none_is : {X : Type 0} → IsTrue false → X
none_is is = let no_way : ⊥ = cc in absurd no_way

not_true : (test : Bool) → (test ≡ true → ⊥) → test ≡ false
not_true true other = absurd (other refl)
not_true false other = refl

both_true : (a b : Bool) → (a && b) ≡ true → (a ≡ true) × (b ≡ true)
both_true true true is = (refl, refl)
both_true true false is = cc
both_true false b is = cc

collects_none : (f : Body) (collector : Collector) → LeavesValues collector → (v : ℕ) → collects f collector v ≡ false
collects_none f ByMaps leaves v = refl
collects_none f (OverSet members) leaves v = ap (λ (t : Bool). t && (resolved f v == v)) (leaves v)

-- a collector over such values
collects_such : (f : Body) (P : ℕ → Type 0) (collector : Collector) → IsOver P collector → (v : ℕ) → collects f collector v ≡ true → P v
collects_such f P ByMaps over v is = absurd over
collects_such f P (OverSet members) over v is = (over v).0 (both_true (members v) (resolved f v == v) is).0

collects_each : (f : Body) (P : ℕ → Type 0) (collector : Collector) → IsOver P collector → (v : ℕ) → resolved f v ≡ v → P v → collects f collector v ≡ true
collects_each f P ByMaps over v itself such = absurd over
collects_each f P (OverSet members) over v itself such =
    let is : members v ≡ true = (over v).1 such in
    let same : (resolved f v == v) ≡ true = grind (arith, nat_tests) in
    rw (is, same) refl

module _ (calls : List AnsweredCall) (f : Body) (s : SsaState) (consistent : IsConsistent f) (carries : Whole calls f s) where
  abbrev pub program : Program
  program = (state_of carries.tables).program

  abbrev pub function : Function
  function = carries.tables.function

  -- a name and the value that is born with it
  module _ (n : Name) (w : ℕ) (place : Place) (named : program.naming (code n) ≡ record { home = place; origin = fresh })
      (defined : function.definition w ≡ record { home = place; kind = born (code n) })
    where
      home : HomeFits carries.tables w (born (code n))
      home = subst (HomeFits carries.tables w) (ap (λ (d : Definition). d.kind) defined) (carries.describes.homes w)

      begun : (carries.tables.naming (code n)).home ≢ start
      begun none = home.2 (sym (ap (λ (m : Naming). m.home) home.0) ∙ none)

      pub is_fresh : IsGivenFresh (program_so_far calls) n
      is_fresh = given_fresh calls carries.tables carries.program n begun (ap (λ (m : Naming). m.origin) named)

      pub is_answer : answered calls n ≡ w
      is_answer =
          let g = is_named calls carries.tables carries.program (code n) begun in
          ap (answered calls) (sym (Codes.differ g.name n g.coded)) ∙ sym g.answers ∙ home.1

      itself : resolved f w ≡ w
      itself = subst (λ (v : ℕ). resolved f v ≡ v) home.1 (carries.describes.born_there (code n) begun (ap (λ (m : Naming). m.origin) named)).1

      pub same_type : name_types calls n ≡ (view_of f).value_type w
      same_type =
          let typed = value_type calls n (fresh_value calls n is_fresh) in
          ap or_invalid typed.1 ∙ sym (carries.values_typed n typed.0 typed.1).1 ∙ ap (view_of f).value_type is_answer

  module _ (tracked : Name → Bool) (collector : Collector) (moves : MovesTracked calls tracked collector) where
    -- a tracked name at an item
    plain_name : (item : Item) (block : Name) (k : ℕ) → item_at calls block k ≡ Some item → KeepsTrackedApart (ledger_after (script_of calls)) tracked item
    plain_name item block k stands = all_at (KeepsTrackedApart (ledger_after (script_of calls)) tracked) ((program_so_far calls).items block) k item (moves.apart block) stands

    unmarked : (n : Name) (x : ℕ) → (IsTrue (tracked n) → IsTrue (is_marked (ledger_after (script_of calls)) x)) → tracked n ≡ false
    unmarked n x apart = not_true (tracked n) (λ is. none_is (subst IsTrue (moves.unmarked x) (apart is)))

    assigned_at : (place : Place) (x : ℕ) (n : Name) → program.assigned place x ≡ Some (code n) → tracked n ≡ false
    assigned_at place x n is =
        let a = assigned_item calls carries.tables carries.program place x (code n) is in
        unmarked n x (subst (λ (m : Name). IsTrue (tracked m) → IsTrue (is_marked (ledger_after (script_of calls)) x)) (Codes.differ a.from n a.coded)
        (plain_name (Assign x a.from) a.block a.index a.stands))

    -- what a use answers isn't tracked
    used_plain : (n : Name) (x : ℕ) → (carries.tables.naming (code n)).home ≢ start → (carries.tables.naming (code n)).origin ≡ reads x → tracked n ≡ false
    used_plain n x begun is =
        let r = read_item calls carries.tables carries.program n begun x is in
        unmarked n x (plain_name (Use x n) r.block r.index r.stands)

    born_parameter : (w : ℕ) (a : AnswersTracked calls tracked w) (B : Name) → Contains ((program_so_far calls).parameters B) a.name → IsBornLabelled tracked program function w
    born_parameter w a B there = by (carries.program.only_parameters B)
      where
        by : ((program_so_far calls).parameters B ≡ []) ⊎ ((b : ℕ) × (block_name calls b ≡ Some B)) → IsBornLabelled tracked program function w
        by (inl none) = absurd (nothing_contained a.name (subst (λ (xs : List Name). Contains xs a.name) none there))
        by (inr block) = record {
          source = a.name;
          labelled = a.is_tracked;
          place = front block.0;
          named = IntoBlock.parameter_named calls f s consistent carries block.0 B block.1 a.name (contained_in ((program_so_far calls).parameters B) a.name there);
          defined = ap function.definition (sym a.answers)
              ∙ IntoBlock.parameter_defined calls f s consistent carries block.0 B block.1 a.name (contained_in ((program_so_far calls).parameters B) a.name there);
        }

    born_result : (w : ℕ) (a : AnswersTracked calls tracked w) → IsResult (program_so_far calls) a.name → IsBornLabelled tracked program function w
    born_result w a r = by (carries.program.only_blocks r.block)
      where
        by : ((program_so_far calls).items r.block ≡ []) ⊎ ((b : ℕ) × (block_name calls b ≡ Some r.block)) → IsBornLabelled tracked program function w
        by (inl none) = absurd (nothing_contained (Instruct r.place r.instruction r.results) (subst (λ (xs : List Item). Contains xs (Instruct r.place r.instruction r.results)) none r.stands))
        by (inr block) =
            let at = contained_at ((program_so_far calls).items r.block) (Instruct r.place r.instruction r.results) r.stands in
            let gives = ItemsAt.gives_there calls carries.own f s carries.tables carries.program carries.describes block.0 r.block block.1 at.0 r.place r.instruction r.results at.1 [] in
            record {
              source = a.name;
              labelled = a.is_tracked;
              place = inside block.0 (suc at.0);
              named = gives.named a.name (contained_in r.results a.name r.among);
              defined = ap function.definition (sym a.answers) ∙ gives.defined a.name (contained_in r.results a.name r.among);
            }

    born_of : (w : ℕ) → AnswersTracked calls tracked w → IsBornLabelled tracked program function w
    born_of w a = by a.is_given
      where
        by : IsGivenFresh (program_so_far calls) a.name → IsBornLabelled tracked program function w
        by (inl result) = born_result w a result
        by (inr parameter) = born_parameter w a parameter.0 parameter.1

    born_code : (m n : ℕ) → born m ≡ born n → m ≡ n
    born_code m n h = cc

    -- a name and the value that is born with it
    labelled_alike : (n : Name) (w : ℕ) (place : Place) → program.naming (code n) ≡ record { home = place; origin = fresh }
        → function.definition w ≡ record { home = place; kind = born (code n) } → tracked n ≡ collects f collector w
    labelled_alike n w place named defined = by (tracked n) (collects f collector w) refl refl
      where
        by : (t c : Bool) → tracked n ≡ t → collects f collector w ≡ c → tracked n ≡ collects f collector w
        by true true one other = one ∙ sym other
        by false false one other = one ∙ sym other
        by true false one other =
            one
            ∙ sym (collects_each f (AnswersTracked calls tracked) collector moves.over w (itself n w place named defined)
            (record { name = n; is_tracked = one; is_given = is_fresh n w place named defined; answers = is_answer n w place named defined }))
        by false true one other =
            let b = born_of w (collects_such f (AnswersTracked calls tracked) collector moves.over w other) in
            let codes : code b.source ≡ code n = born_code (code b.source) (code n) (ap (λ (d : Definition). d.kind) (sym b.defined ∙ defined)) in
            ap tracked (sym (Codes.differ b.source n codes)) ∙ b.labelled ∙ sym other

    abbrev labels : Labels program function
    labels = record {
      of_name = tracked;
      of_value = collects f collector;
      assigned = assigned_at;
      used = used_plain;
      are_born = λ w is. born_of w (collects_such f (AnswersTracked calls tracked) collector moves.over w is);
      answers = labelled_alike;
    }

    moves_tracked : MovesLabelled calls f tracked collector program function labels
    moves_tracked = record {
      unmarked = moves.unmarked;
      of_name = λ n. refl;
      of_value = λ v. refl;
      types = λ w b. same_type b.source w b.place b.named b.defined;
    }

  -- A labelled name that is given is labelled as its value is.
  module _ (labels : Labels program function) (x : Name) (begun : (carries.tables.naming (code x)).home ≢ start) where
    abbrev answer : ℕ
    answer = carries.tables.answer (code x)

    value_alike : (carries.tables.naming (code x)).origin ≡ fresh → labels.of_name x ≡ labels.of_value (function.resolve answer)
    value_alike is =
        let born_there = carries.describes.born_there (code x) begun is in
        labels.answers x answer (carries.tables.naming (code x)).home
        (ap (λ (o : Origin). record { home = (carries.tables.naming (code x)).home; origin = o }) is) born_there.0
        ∙ ap labels.of_value (sym (carries.describes.resolves answer ∙ born_there.1))

    pub labelled_value : labels.of_name x ≡ true → labels.of_value (function.resolve answer) ≡ true
    labelled_value is = by (carries.tables.naming (code x)).origin refl
      where
        clash : true ≡ false → ⊥
        clash h = cc

        by : (o : Origin) → (carries.tables.naming (code x)).origin ≡ o → labels.of_value (function.resolve answer) ≡ true
        by fresh one = sym (value_alike one) ∙ is
        by (reads y) other = absurd (clash (sym is ∙ labels.used x y begun other))

  -- The labels by which both runs move, however they move alike.
  pub labelled : (tracked : Name → Bool) (collector : Collector) → MovesAlike calls tracked collector
      → (labels : Labels program function) × MovesBy calls f tracked collector program function labels
  labelled tracked collector (inl none) = (no_labels program function, inl none)
  labelled tracked collector (inr (inl nothing)) = (
    no_labels program function,
    inr (record { unmarked = nothing.unmarked; of_name = nothing.untracked; of_value = collects_none f collector nothing.leaves; types = λ w b. absurd (false_no_true b.labelled) }),
  )
  labelled tracked collector (inr (inr moves)) = (labels tracked collector moves, inr (moves_tracked tracked collector moves))

  -- Where aliases are defined nowhere -------------------------------------------------------------------------------------

  abbrev ends_only : Function
  ends_only = with_ends_only function

  -- what is born there is no alias
  pub born_end : (w n : ℕ) (place : Place) → (test : Bool) → (function.resolve w == w) ≡ test → ends_only.definition w ≡ record { home = place; kind = born n }
      → function.definition w ≡ record { home = place; kind = born n }
  born_end w n place true is defined = let same : function.resolve w ≡ w = grind (arith, nat_tests) in sym (defined-end function w same) ∙ defined
  born_end w n place false is defined = absurd (clash (ap (λ (d : Definition). d.kind) (sym (alias_nowhere function w is) ∙ defined)))
    where
      clash : unborn ≡ born n → ⊥
      clash h = cc

  pub born_itself : (w : ℕ) (n : ℕ) (place : Place) → function.definition w ≡ record { home = place; kind = born n } → function.resolve w ≡ w
  born_itself w n place defined =
      let home : HomeFits carries.tables w (born n) = subst (HomeFits carries.tables w) (ap (λ (d : Definition). d.kind) defined) (carries.describes.homes w) in
      let begun : (carries.tables.naming n).home ≢ start = λ none. home.2 (sym (ap (λ (m : Naming). m.home) home.0) ∙ none) in
      carries.describes.resolves w
      ∙ subst (λ (v : ℕ). resolved f v ≡ v) home.1 (carries.describes.born_there n begun (ap (λ (m : Naming). m.origin) home.0)).1

  module _ (labels : Labels program function) where
    with_all : (w : ℕ) → IsBornLabelled labels.of_name program ends_only w → IsBornLabelled labels.of_name program function w
    with_all w b = record {
      source = b.source;
      labelled = b.labelled;
      place = b.place;
      named = b.named;
      defined = born_end w (code b.source) b.place (function.resolve w == w) refl b.defined;
    }

    abbrev pub ends_labels : Labels program ends_only
    ends_labels = record {
      of_name = labels.of_name;
      of_value = labels.of_value;
      assigned = labels.assigned;
      used = labels.used;
      are_born = λ w is.
          let b = labels.are_born w is in
          record {
            source = b.source;
            labelled = b.labelled;
            place = b.place;
            named = b.named;
            defined = defined-end function w (born_itself w (code b.source) b.place b.defined) ∙ b.defined;
          };
      answers = λ n w place named defined. labels.answers n w place named (born_end w (code n) place (function.resolve w == w) refl defined);
    }

    pub ends_moves : (tracked : Name → Bool) (collector : Collector) → MovesBy calls f tracked collector program function labels
        → MovesBy calls f tracked collector program ends_only ends_labels
    unfolding with_all
    ends_moves tracked collector (inl none) = inl none
    ends_moves tracked collector (inr moves) =
        inr (record { unmarked = moves.unmarked; of_name = moves.of_name; of_value = moves.of_value; types = λ w b. moves.types w (with_all w b) })
