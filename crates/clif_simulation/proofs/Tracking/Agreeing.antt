-- What is recorded agrees with what the calls mark and track, of an unfinished function, too. So a finished one, with a collector over
-- what is recorded, means what the calls' program means under their marks.
use Rattle.std.proofs.Common.{◌≡◌, ◌≢◌, ℕ, zero, suc, ◌+◌, ◌<◌, ◌==◌, ◌&&◌, ◌||◌, Bool, true, false, List, [], ◌∷◌, ◌++◌, map, length, Option, Some, None, ◌⊎◌, inl, inr, refl, sym, ◌∙◌, ap, subst, arith, length-append}
use Rattle.std.specs.Prelude.{IsTrue, Contains, slice_get, slice_index}
use Rattle.std.specs.List.{AllByRecursion, list_any}
use Rattle.std.proofs.lemmas.Bool.Decides.{nat_tests}
use Rattle.std.proofs.lemmas.Option.{slice_get_within}
use Rattle.clif_types.specs.EntitySet.{has}
use Rattle.clif_ir.specs.Body.{Body, block_at, resolved}
use Rattle.clif_ir.specs.Consistent.{IsConsistent}
use Rattle.clif_ir.specs.Reading.{param_home}
use Rattle.clif_instructions.specs.declared.block_call.BlockArg.{BlockArg}
use Rattle.clif_instructions.specs.declared.block_call.BlockArg.TheVariants.{Value}
use Rattle.clif_instructions.specs.Members.{Once, place_of}
use Rattle.clif_paths.specs.Places.{Arm, start}
use Rattle.clif_paths.specs.State.{Definition, Function, Kind, Naming, Origin, born, complete, fresh, pending, reads, unborn, zero_of}
use Rattle.clif_paths.specs.Blocks.{front, last_place}
use Rattle.clif_paths.specs.ValueLabels.{AgreeOnProgram, LabelsKept, label_by}
use Rattle.clif_records.specs.Tables.{is_yes, pending_of}
use Rattle.clif_records.specs.Tracking.{marked_of, recorded_of}
use Rattle.clif_ssa.specs.LookUp.{branch_block}
use Rattle.clif_ssa.specs.Own.{Own}
use Rattle.clif_ssa.specs.Ssa.{SsaState, predecessors_of, sealed_of}
use Rattle.clif_ssa.specs.Structured.{AreFor, HasParameters}
use Rattle.clif_ssa.specs.Sound.{IsParameterFor, HomeFits, IsBehind, IsEdgeInto, edge_target, has_entry, passed_at}
use Rattle.clif_ssa.proofs.Alike.{unaliased_home}
use Rattle.clif_ssa.proofs.Losing.{home_stands, stands_home}
use Rattle.clif_ssa.proofs.Ordering.{stands_place}
use Rattle.clif_meaning.specs.Name.{Name, same_name}
use Rattle.clif_meaning.specs.Ledger.{is_marked, ledger_after}
use Rattle.clif_meaning.specs.Premises.{EachItem, KeepsTrackedApart}
use Rattle.clif_meaning.specs.Program.{Item, Instruct, Use, Assign}
use Rattle.clif_meaning.specs.Request.{AnsweredCall, script_of}
use Rattle.clif_meaning.specs.Tracked.{is_tracked, tracked_names}
use Rattle.clif_simulation.specs.Carries.{IsValue}
use Rattle.clif_simulation.specs.Marked.{CarryingMeansTheSameTracked, IsPut, IsTrackedAsMarked, NamesAgree, ValuesAgree}
use Rattle.clif_simulation.specs.Reading.{IsGivenFresh}
use Rattle.clif_simulation.specs.Tables.{answered, code, program_so_far}
use Rattle.clif_simulation.specs.Tracks.{IsMarkedIn, IsAskedBy, IsAskedFor, IsMarkedParameter}
use Rattle.clif_simulation.proofs.Codes
use Rattle.clif_simulation.proofs.Finished.Assembly
use Rattle.clif_simulation.proofs.Finished.Entry.{resolved_twice}
use Rattle.clif_simulation.proofs.Finished.Giving.{same_or_other}
use Rattle.clif_simulation.proofs.Finished.IntoBlock
use Rattle.clif_simulation.proofs.Finished.Sources.{place_stands}
use Rattle.clif_simulation.proofs.GivenNames.{is_named}
use Rattle.clif_simulation.proofs.Labelling.FreshValues.{fresh_value}
use Rattle.clif_simulation.proofs.Labelling.GivenBy.{assigned_item, given_fresh, read_item}
use Rattle.clif_simulation.proofs.Listed.{all_at}
use Rattle.clif_simulation.proofs.Tracking.Coming.{AnswersUse, each_comes, fresh_no_use}
use Rattle.clif_simulation.proofs.Tracking.Steps.{kinds_apart_born}
use Rattle.clif_simulation.proofs.Tracking.TrackedNames.{IsAsked, IsUsed, asked_tracked, used_tracked, why_tracked}
use Rattle.clif_simulation.proofs.Values.{value_answered}
use Rattle.clif_simulation.proofs.Whole.{Whole, are_declared, declared_types, none_complete, sealed_none}

-- TRUTH VALUES AS LABELS --------------------------------------------------------------------------------------------------

abbrev flag : Bool → ℕ
flag true = 1
flag false = 0

flag_true : (a : Bool) → flag a ≡ 1 → IsTrue a
flag_true true is = refl
flag_true false is = let no_way : ⊥ = cc in absurd no_way

true_flag : (a : Bool) → IsTrue a → flag a ≡ 1
true_flag true is = refl
true_flag false is = let no_way : ⊥ = cc in absurd no_way

flag_same : (a b : Bool) → flag a ≡ flag b → a ≡ b
flag_same true true is = refl
flag_same true false is = cc
flag_same false true is = cc
flag_same false false is = refl

same_bool : (a b : Bool) → (IsTrue a → IsTrue b) → (IsTrue b → IsTrue a) → a ≡ b
same_bool true b forth back = sym (forth refl)
same_bool false true forth back = back refl
same_bool false false forth back = refl

some_label : (a b : ℕ) → Some a ≡ Some b → a ≡ b
some_label a b is = cc

none_label : (a : ℕ) → None ≡ Some a → ⊥
none_label a is = cc

-- what holds of each, by what holds of each
all_both : (P Q : Item → Type 0) (items : List Item) → AllByRecursion (λ item. P item → Q item) items → AllByRecursion P items → AllByRecursion Q items
all_both P Q [] each all = tt
all_both P Q (item ∷ items) each all = (each.0 all.0, all_both P Q items each.1 all.1)

-- where the names with this number are
coded_any : (names : List Name) (n : Name) → list_any (λ (m : Name). code m == code n) names ≡ list_any (same_name n) names
coded_any [] n = refl
coded_any (m ∷ names) n =
    ap (λ (t : Bool). t || list_any (λ (k : Name). code k == code n) names) (by (same_or_other n m)) ∙ ap (λ (t : Bool). same_name n m || t) (coded_any names n)
  where
    by : ((same_name n m ≡ true) × (n ≡ m)) ⊎ ((same_name n m ≡ false) × (n ≢ m)) → (code m == code n) ≡ same_name n m
    by (inl same) = let codes : code m ≡ code n = ap code (sym same.1) in equal (code m) (code n) codes ∙ sym same.0
      where
        equal : (a b : ℕ) → a ≡ b → (a == b) ≡ true
        equal a b is = grind (arith, nat_tests)
    by (inr other) = apart (code m) (code n) (λ is. other.1 (sym (Codes.differ m n is))) ∙ sym other.0
      where
        apart : (a b : ℕ) → a ≢ b → (a == b) ≡ false
        apart a b is = grind (arith, nat_tests)

true_no_false : true ≡ false → ⊥
true_no_false h = cc

-- for no parameters there are no values
for_none : (f : Body) (values : List ℕ) → AreFor f values [] → values ≡ []
for_none f [] are = refl
for_none f (value ∷ values) are = absurd are

-- nothing stands behind a list
none_there : (made : List BlockArg) (values : List ℕ) (place argument : ℕ) → values ≡ []
    → slice_get (made ++ map Value values) (length made + place) ≡ Some (Value argument) → ⊥
none_there made values place argument none is =
    let within = slice_get_within (made ++ map Value values) (length made + place) (Value argument) is in
    let as_long : length (made ++ map Value values) ≡ length made + length (map Value values) = length-append made (map Value values) in
    let no_values : length (map Value values) ≡ 0 = ap (λ (vs : List ℕ). length (map Value vs)) none in
    absurd (omega (arith, within, as_long, no_values))

-- PLACES OF LISTS -----------------------------------------------------------------------------------------------------------

index_at : (xs : List ℕ) (k v : ℕ) → slice_get xs k ≡ Some v → slice_index xs k ≡ v
index_at [] zero v is = cc
index_at [] (suc k) v is = cc
index_at (x ∷ xs) zero v is = some_label x v is
index_at (x ∷ xs) (suc k) v is = index_at xs k v is

one_place : (xs : List ℕ) (j k v : ℕ) → Once xs → slice_get xs j ≡ Some v → slice_get xs k ≡ Some v → j ≡ k
one_place xs j k v once at_j at_k = by (order j k)
  where
    order : (a b : ℕ) → (a ≡ b) ⊎ ((a < b) ⊎ (b < a))
    order a b = grind arith

    by : (j ≡ k) ⊎ ((j < k) ⊎ (k < j)) → j ≡ k
    by (inl same) = same
    by (inr (inl below)) = absurd (once j k below (slice_get_within xs k v at_k) (index_at xs j v at_j ∙ sym (index_at xs k v at_k)))
    by (inr (inr above)) = absurd (once k j above (slice_get_within xs j v at_j) (index_at xs k v at_k ∙ sym (index_at xs j v at_j)))

both_true : (a b : Bool) → (a && b) ≡ true → a ≡ true
both_true true b is = refl
both_true false b is = is

-- WHATEVER IS MARKED -------------------------------------------------------------------------------------------------------

module _ (calls : List AnsweredCall) (f : Body) (s : SsaState) (consistent : IsConsistent f) (carries : Whole calls f s) where
  abbrev values : Function
  values = carries.tables.function

  itself_here : (v : ℕ) → resolved f v ≡ v → values.resolve v ≡ v
  itself_here v itself = carries.describes.resolves v ∙ itself

  -- a use of a variable, for one
  abbrev IsUseOf : Item → Type 0
  IsUseOf (Instruct place instruction results) = Unit {0}
  IsUseOf (Use x name) = AnswersUse (script_of calls) x name
  IsUseOf (Assign x name) = Unit {0}

  uses : (block : Name) → AllByRecursion IsUseOf ((program_so_far calls).items block)
  uses = each_comes IsUseOf calls (λ place instruction results. tt) (λ x name from. from) (λ x name from. tt)

  -- NAMES THAT ARE GIVEN AFRESH -----------------------------------------------------------------------------------------

  module _ (n : Name) (is_fresh : IsGivenFresh (program_so_far calls) n) where
    known : (carries.tables.answer (code n) ≡ answered calls n) × (n.place < length calls) × ((carries.tables.naming (code n)).home ≢ start)
    known = value_answered calls carries.tables n carries.program carries.values_given (fresh_value calls n is_fresh)

    origin_fresh : (carries.tables.naming (code n)).origin ≡ fresh
    origin_fresh = by (carries.tables.naming (code n)).origin refl
      where
        by : (o : Origin) → (carries.tables.naming (code n)).origin ≡ o → (carries.tables.naming (code n)).origin ≡ fresh
        by fresh is = is
        by (reads x) is =
            let r = read_item calls carries.tables carries.program n known.2 x is in
            absurd (fresh_no_use calls n is_fresh x (all_at IsUseOf ((program_so_far calls).items r.block) r.index (Use x n) (uses r.block) r.stands))

    pub born_here : (values.definition (answered calls n) ≡ record { home = (carries.tables.naming (code n)).home; kind = born (code n) })
        × (resolved f (answered calls n) ≡ answered calls n)
    born_here =
        let there = carries.describes.born_there (code n) known.2 origin_fresh in (
          subst (λ (v : ℕ). values.definition v ≡ record { home = (carries.tables.naming (code n)).home; kind = born (code n) }) known.0 there.0,
          subst (λ (v : ℕ). resolved f v ≡ v) known.0 there.1,
        )

  module _ (target branch edge place argument parameter : ℕ) (leads : Contains (predecessors_of s target) branch)
      (to : edge_target f branch edge ≡ Some target)
      (passes : passed_at f branch edge (length (carries.own.passed branch edge) + place) ≡ Some (Value argument))
      (stands : slice_get (block_at f target).params (length (carries.own.params target) + place) ≡ Some parameter)
    where
      abbrev params : List ℕ
      params = (block_at f target).params

      passes_no_more : is_yes (sealed_of s target) ≡ false → ⊥
      passes_no_more unsealed =
          let has : HasParameters carries.own f s [] target = (carries.structured (declared_types calls) (are_declared calls)).parameters target in
          let passed = has.edges branch edge leads to in
          let none : has.complete ≡ [] = none_complete has.complete (λ some. true_no_false (sym (has.several some).0 ∙ unsealed)) in
          none_there (carries.own.passed branch edge) passed.values place argument
          (for_none f passed.values (subst (AreFor f passed.values) none passed.are_for))
          (ap (λ (args : List BlockArg). slice_get args (length (carries.own.passed branch edge) + place)) (sym passed.in_order) ∙ passes)

      pub home : param_home f parameter ≡ Some target
      home =
          stands_home f consistent parameter target (
            length (carries.own.params target) + place,
            slice_get_within params (length (carries.own.params target) + place) parameter stands,
            index_at params (length (carries.own.params target) + place) parameter stands,
          )

      pub itself : resolved f parameter ≡ parameter
      itself = unaliased_home f parameter target home

      pub place_is : place_of parameter params ≡ length (carries.own.params target) + place
      place_is =
          one_place params (place_of parameter params) (length (carries.own.params target) + place) parameter (consistent.params_once target)
          (place_stands parameter params (stands_place parameter params (home_stands f consistent parameter target home))) stands

      pub is_complete : (x : ℕ) × (values.definition parameter ≡ record { home = front target; kind = complete x })
      is_complete =
          IntoBlock.parameter_complete calls f s consistent carries target (by (is_yes (sealed_of s target)) refl) parameter home (omega (arith, place_is))
        where
          -- an edge into an unsealed block passes what the caller passed alone
          by : (t : Bool) → is_yes (sealed_of s target) ≡ t → pending_of (sealed_of s target) ≡ []
          by true is = sealed_none (sealed_of s target) is
          by false is = absurd (passes_no_more is)

      abbrev arm : Arm
      arm = record { source = last_place carries.tables (branch_block f branch); target = front target; edge = edge }

      abbrev into : IsEdgeInto f s carries.tables target arm
      into = record { branch = branch; leads = leads; from = refl; to = to }

      is_sealed : is_yes (sealed_of s target) ≡ true
      is_sealed =
          let fits : HomeFits carries.tables parameter (complete is_complete.0) =
          subst (HomeFits carries.tables parameter) (ap (λ (d : Definition). d.kind) is_complete.1) (carries.describes.homes parameter) in
          let same : fits.0 ≡ target = front_same fits.0 target (sym fits.1 ∙ ap (λ (d : Definition). d.home) is_complete.1) in
          both_true (is_yes (sealed_of s target)) (has_entry f.layout)
          (sym (carries.describes.sealed target) ∙ ap (λ (b : ℕ). carries.tables.sealed b) (sym same) ∙ fits.2)
        where
          front_same : (b c : ℕ) → front b ≡ front c → b ≡ c
          front_same b c h = cc

      argument_is : values.argument parameter arm ≡ argument
      argument_is =
          same_value (values.argument parameter arm) argument
          (sym (carries.describes.passes target parameter arm into is_complete.1 refl (length (carries.own.passed branch edge) + place)
          (omega (arith, place_is))) ∙ passes)
        where
          same_value : (a b : ℕ) → Some (Value a) ≡ Some (Value b) → a ≡ b
          same_value a b h = cc

      -- the argument has the label of the parameter's variable, whatever labels are kept
      pub argument_label : (of_variable of_name : ℕ → ℕ) → LabelsKept carries.tables of_variable of_name
          → label_by of_variable of_name (values.definition (resolved f argument)).kind ≡ Some (of_variable is_complete.0)
      argument_label of_variable of_name kept =
          ap (λ (v : ℕ). label_by of_variable of_name (values.definition v).kind) (sym (carries.describes.resolves argument))
          ∙ ap (λ (v : ℕ). label_by of_variable of_name (values.definition (values.resolve v)).kind)
          (sym argument_is ∙ ap (λ (v : ℕ). values.argument v arm) (sym (itself_here parameter itself)))
          ∙ (kept.arguments parameter target arm
          (ap (λ (v : ℕ). (values.definition v).kind) (itself_here parameter itself) ∙ ap (λ (d : Definition). d.kind) is_complete.1)
          (ap (λ (v : ℕ). (values.definition v).home) (itself_here parameter itself) ∙ ap (λ (d : Definition). d.home) is_complete.1)
          refl (carries.describes.led target arm is_sealed refl into)).by_kind

-- THE LABELS OF MARKS ------------------------------------------------------------------------------------------------------

module _ (calls : List AnsweredCall) (f : Body) (s : SsaState) (consistent : IsConsistent f) (carries : Whole calls f s)
    (marks : (x : ℕ) → is_marked (ledger_after (script_of calls)) x ≡ has (marked_of s.tracking) x)
    (apart : EachItem (KeepsTrackedApart (ledger_after (script_of calls)) (is_tracked (script_of calls))) (program_so_far calls))
  where
    abbrev function : Function
    function = carries.tables.function

    abbrev marked : ℕ → Bool
    marked = is_marked (ledger_after (script_of calls))

    abbrev tracked : Name → Bool
    tracked = is_tracked (script_of calls)

    abbrev members : ℕ → Bool
    members v = has (recorded_of s.tracking) v

    pub names_agree : NamesAgree calls marked tracked
    names_agree block =
        all_both (KeepsTrackedApart (ledger_after (script_of calls)) tracked) (IsTrackedAsMarked marked tracked) ((program_so_far calls).items block)
        (each_comes (λ item. KeepsTrackedApart (ledger_after (script_of calls)) tracked item → IsTrackedAsMarked marked tracked item) calls
        (λ place instruction results keeps. tt)
        (λ x name from keeps. same_bool (tracked name) (marked x) keeps (λ is. used_tracked (script_of calls) name (x, from, is)))
        (λ x name from keeps. same_bool (tracked name) (marked x) keeps (λ is. asked_tracked (script_of calls) name (inr (x, from, is)))) block)
        (apart block)

    of_variable : ℕ → ℕ
    of_variable x = flag (marked x)

    of_name : ℕ → ℕ
    of_name c = flag (list_any (λ (m : Name). code m == c) (tracked_names (script_of calls)))

    of_code : (n : Name) → of_name (code n) ≡ flag (tracked n)
    unfolding of_name
    of_code n = ap flag (coded_any (tracked_names (script_of calls)) n)

    variable_is : (x : ℕ) → of_variable x ≡ flag (marked x)
    unfolding of_variable
    variable_is x = refl

    agree : AgreeOnProgram carries.tables of_variable of_name
    agree = record {
      assigned_same = λ place x n is.
          let a = assigned_item calls carries.tables carries.program place x n is in
          ap of_name (sym a.coded) ∙ of_code a.from
          ∙ ap flag (all_at (IsTrackedAsMarked marked tracked) ((program_so_far calls).items a.block) a.index (Assign x a.from) (names_agree a.block) a.stands)
          ∙ sym (variable_is x);
      read_same = λ n x begun is.
          let g = is_named calls carries.tables carries.program n begun in
          let r = read_item calls carries.tables carries.program g.name (λ none. begun (ap (λ (c : ℕ). (carries.tables.naming c).home) (sym g.coded) ∙ none)) x
          (ap (λ (c : ℕ). (carries.tables.naming c).origin) g.coded ∙ is) in
          ap of_name (sym g.coded) ∙ of_code g.name
          ∙ ap flag (all_at (IsTrackedAsMarked marked tracked) ((program_so_far calls).items r.block) r.index (Use x g.name) (names_agree r.block) r.stands)
          ∙ sym (variable_is x);
    }

    kept : LabelsKept carries.tables of_variable of_name
    kept = carries.sound.labelled.kept of_variable of_name agree

    -- MEMBERS -------------------------------------------------------------------------------------------------------------

    abbrev label_of : ℕ → Option ℕ
    label_of v = label_by of_variable of_name (function.definition v).kind

    -- what stack maps were asked for has the label of what moves
    asked_label : (v : ℕ) → resolved f v ≡ v → IsAskedFor calls s v → label_of v ≡ Some 1
    asked_label v itself a =
        let known = value_answered calls carries.tables a.name carries.program carries.values_given (is_value a.how) in
        ap (λ (w : ℕ). label_of w) (sym (ap function.resolve (known.0 ∙ a.answers) ∙ itself_here calls f s consistent carries v itself))
        ∙ (kept.answers (code a.name) known.2).by_kind
        ∙ ap (λ (label : ℕ). Some label) (of_code a.name ∙ true_flag (tracked a.name) (asked_tracked (script_of calls) a.name (how a.how)))
      where
        is_value : IsAskedBy calls s a.name
            → IsValue calls a.name
        is_value (inl h) = carries.tracked.values_asked a.name h
        is_value (inr h) = carries.tracked.values_assigned h.0 a.name h.1

        how : IsAskedBy calls s a.name
            → IsAsked (script_of calls) a.name
        how (inl h) = inl h
        how (inr h) = inr (h.0, h.1, subst IsTrue (sym (marks h.0)) h.2)

    -- a parameter is a member exactly if its variable is marked
    pub parameter_member : (v x : ℕ) → resolved f v ≡ v → IsParameterFor carries.tables v x → members v ≡ marked x
    parameter_member v x itself p =
        same_bool (members v) (marked x) (λ is. by (carries.tracked.only v (itself_here calls f s consistent carries v itself) is))
        (λ is. carries.tracked.parameters v (itself_here calls f s consistent carries v itself) (x, p, subst IsTrue (marks x) is))
      where
        same_variable : (k : Kind) (y : ℕ) → (k ≡ pending x) ⊎ (k ≡ complete x) → (k ≡ pending y) ⊎ (k ≡ complete y) → y ≡ x
        same_variable k y (inl a) (inl b) = cc
        same_variable k y (inl a) (inr b) = cc
        same_variable k y (inr a) (inl b) = cc
        same_variable k y (inr a) (inr b) = cc

        label : (p : IsParameterFor carries.tables v x) → label_of v ≡ Some (flag (marked x))
        label (inl is) = ap (label_by of_variable of_name) is ∙ ap (λ (l : ℕ). Some l) (variable_is x)
        label (inr is) = ap (label_by of_variable of_name) is ∙ ap (λ (l : ℕ). Some l) (variable_is x)

        by : IsMarkedParameter carries.tables s v ⊎ IsAskedFor calls s v → IsTrue (marked x)
        by (inl q) =
            subst IsTrue (sym (marks x))
            (subst (λ (y : ℕ). IsMarkedIn s y) (same_variable (function.definition v).kind q.0 p q.1) q.2)
        by (inr a) = flag_true (marked x) (some_label (flag (marked x)) 1 (sym (label p) ∙ asked_label v itself a))

    -- a value that is born with a name is one exactly if the name is tracked
    born_member : (n : Name) (w : ℕ) → resolved f w ≡ w → (function.definition w).kind ≡ born (code n) → IsGivenFresh (program_so_far calls) n
        → answered calls n ≡ w → members w ≡ tracked n
    born_member n w itself kind is_fresh answers =
        same_bool (members w) (tracked n) (λ is. by (carries.tracked.only w (itself_here calls f s consistent carries w itself) is)) (λ is. back (why_tracked (script_of calls) n is))
      where
        by : IsMarkedParameter carries.tables s w ⊎ IsAskedFor calls s w → IsTrue (tracked n)
        by (inl q) = absurd (kinds_apart_born (code n) q.0 (subst (λ (k : Kind). (k ≡ pending q.0) ⊎ (k ≡ complete q.0)) kind q.1))
        by (inr a) =
            flag_true (tracked n)
            (some_label (flag (tracked n)) 1
            (ap (λ (l : ℕ). Some l) (sym (of_code n)) ∙ sym (ap (label_by of_variable of_name) kind) ∙ asked_label w itself a))

        back : IsAsked (script_of calls) n ⊎ IsUsed (script_of calls) n → IsTrue (members w)
        back (inl (inl h)) = carries.tracked.asked w (record { name = n; answers = answers; how = inl h })
        back (inl (inr h)) = carries.tracked.asked w (record { name = n; answers = answers; how = inr (h.0, h.1, subst IsTrue (marks h.0) h.2) })
        back (inr used) = absurd (fresh_no_use calls n is_fresh used.0 used.1)

    -- VALUES AGREE --------------------------------------------------------------------------------------------------------

    fresh_agrees : (n : Name) → IsGivenFresh (program_so_far calls) n → members (resolved f (answered calls n)) ≡ tracked n
    fresh_agrees n is_fresh =
        let here = born_here calls f s consistent carries n is_fresh in
        ap members here.1 ∙ born_member n (answered calls n) here.1 (ap (λ (d : Definition). d.kind) here.0) is_fresh refl

    -- what has the label of a variable is a member exactly if the variable is marked, or is a zero that the construction put
    labelled_member : (w x : ℕ) → resolved f w ≡ w → label_of w ≡ Some (flag (marked x)) → (members w ≡ marked x) ⊎ IsPut calls f w
    labelled_member w x itself label = by (function.definition w).kind refl (carries.describes.homes w)
      where
        of_parameter : (y : ℕ) → IsParameterFor carries.tables w y → Some (of_variable y) ≡ Some (flag (marked x)) → (members w ≡ marked x) ⊎ IsPut calls f w
        of_parameter y p same =
            inl (parameter_member w y itself p ∙ flag_same (marked y) (marked x) (sym (variable_is y) ∙ some_label (of_variable y) (flag (marked x)) same))

        no_parameter : (y : ℕ) → (function.definition w).kind ≡ zero_of y → param_home f w ≡ None
        no_parameter y kind = home (param_home f w) refl
          where
            home : (o : Option ℕ) → param_home f w ≡ o → param_home f w ≡ None
            home None is = is
            home (Some b) is =
                absurd (subst (λ (k : Kind). IsBehind k (place_of w (block_at f b).params) (length (carries.own.params b))) kind (carries.counts.behind b w is))

        zero_not_born : (y n : ℕ) → zero_of y ≡ born n → ⊥
        zero_not_born y n h = cc

        by : (kind : Kind) → (function.definition w).kind ≡ kind → HomeFits carries.tables w kind → (members w ≡ marked x) ⊎ IsPut calls f w
        by unborn kind fits = absurd (none_label (flag (marked x)) (sym (ap (label_by of_variable of_name) kind) ∙ label))
        by (pending y) kind fits = of_parameter y (inl kind) (sym (ap (label_by of_variable of_name) kind) ∙ label)
        by (complete y) kind fits = of_parameter y (inr kind) (sym (ap (label_by of_variable of_name) kind) ∙ label)
        by (zero_of y) kind fits = inr (record {
          no_parameter = no_parameter y kind;
          no_answer = λ n is_fresh same.
              zero_not_born y (code n)
              (sym kind ∙ ap (λ (v : ℕ). (function.definition v).kind) (sym same) ∙ ap (λ (d : Definition). d.kind) (born_here calls f s consistent carries n is_fresh).0);
        })
        by (born n) kind fits =
            let g = is_named calls carries.tables carries.program n (λ none. fits.2 (sym (ap (λ (m : Naming). m.home) fits.0) ∙ none)) in
            let of_name_kind : (function.definition w).kind ≡ born (code g.name) = kind ∙ ap born (sym g.coded) in
            let is_fresh : IsGivenFresh (program_so_far calls) g.name =
            given_fresh calls carries.tables carries.program g.name
            (λ none. fits.2 (sym (ap (λ (m : Naming). m.home) fits.0) ∙ ap (λ (c : ℕ). (carries.tables.naming c).home) (sym g.coded) ∙ none))
            (ap (λ (c : ℕ). (carries.tables.naming c).origin) g.coded ∙ ap (λ (m : Naming). m.origin) fits.0) in
            inl (born_member g.name w itself of_name_kind is_fresh (sym g.answers ∙ fits.1)
            ∙ flag_same (tracked g.name) (marked x)
            (sym (of_code g.name)
            ∙ some_label (of_name (code g.name)) (flag (marked x)) (sym (ap (label_by of_variable of_name) of_name_kind) ∙ label)))

    argument_agrees : (target branch edge place argument parameter : ℕ) → Contains (predecessors_of s target) branch → edge_target f branch edge ≡ Some target
        → passed_at f branch edge (length (carries.own.passed branch edge) + place) ≡ Some (Value argument)
        → slice_get (block_at f target).params (length (carries.own.params target) + place) ≡ Some parameter
        → (members (resolved f argument) ≡ members (resolved f parameter)) ⊎ IsPut calls f (resolved f argument)
    argument_agrees target branch edge place argument parameter leads to passes stands =
        by (labelled_member (resolved f argument) (is_complete calls f s consistent carries target branch edge place argument parameter leads to passes stands).0 (resolved_twice f argument consistent)
        (argument_label calls f s consistent carries target branch edge place argument parameter leads to passes stands of_variable of_name kept
        ∙ ap (λ (l : ℕ). Some l) (variable_is (is_complete calls f s consistent carries target branch edge place argument parameter leads to passes stands).0)))
      where
        by : (members (resolved f argument) ≡ marked (is_complete calls f s consistent carries target branch edge place argument parameter leads to passes stands).0) ⊎ IsPut calls f (resolved f argument)
            → (members (resolved f argument) ≡ members (resolved f parameter)) ⊎ IsPut calls f (resolved f argument)
        by (inl same) =
            let alone : resolved f parameter ≡ parameter = itself calls f s consistent carries target branch edge place argument parameter leads to passes stands in
            inl (same ∙ sym (ap members alone ∙ parameter_member parameter (is_complete calls f s consistent carries target branch edge place argument parameter leads to passes stands).0 alone (inr (ap (λ (d : Definition). d.kind) (is_complete calls f s consistent carries target branch edge place argument parameter leads to passes stands).1))))
        by (inr put) = inr put

    pub values_agree : ValuesAgree calls carries.own f s tracked members
    values_agree = record { answers = fresh_agrees; arguments = argument_agrees }

pub means_tracked : CarryingMeansTheSameTracked
means_tracked calls f s width consistent carries finished marks hidden world fits premises apart =
    let targets = premises.targets_filled in
    let all : Whole calls f s = Assembly.all calls f s consistent carries targets in
    Assembly.means_moving calls f s width consistent carries finished (is_marked (ledger_after (script_of calls))) (is_tracked (script_of calls))
    (λ v. has (recorded_of s.tracking) v) hidden (names_agree calls f s consistent all marks apart)
    (subst (λ (own : Own). ValuesAgree calls own f s (is_tracked (script_of calls)) (λ v. has (recorded_of s.tracking) v))
    (Assembly.own_is calls f s consistent carries targets)
    (values_agree calls f s consistent all marks apart))
    world fits premises
