-- What is recorded on paths, after one call more: where nothing is tracked, a value is assigned, stack maps are asked for, or
-- parameters are made.
use Rattle.std.proofs.Common.{◌≡◌, ℕ, zero, suc, ◌<◌, ◌≤◌, ◌==◌, ◌&&◌, ◌||◌, Bool, true, false, List, [], ◌∷◌, ◌++◌, length, Option, Some, None, ◌⊎◌, inl, inr, refl, sym, ◌∙◌, ap, subst, arith, nat_eq}
use Rattle.std.specs.Prelude.{IsTrue, if◌then◌else◌, slice_get}
use Rattle.std.proofs.lemmas.Bool.{eqb-true}
use Rattle.std.proofs.lemmas.Bool.Decides.{nat_tests}
use Rattle.std.proofs.lemmas.Option.{slice_get_within}
use Rattle.clif_types.specs.EntitySet.{has, with_member}
use Rattle.clif_types.proofs.Marks.{has-with_member}
use Rattle.clif_ir.specs.Body.{Body, resolved}
use Rattle.clif_paths.specs.State.{Function, Kind, unborn, born, pending, complete, zero_of}
use Rattle.clif_paths.specs.Blocks.{Blocks, no_blocks}
use Rattle.clif_records.specs.Tracking.{Tracked, marked_of, recorded_of, with_binding, with_mark, with_recorded}
use Rattle.clif_ssa.specs.Sound.{IsParameterFor, KeepsParameters, KindStays}
use Rattle.clif_ssa.specs.Ssa.{SsaState, Records, RecordsStay, SameRecords, no_state, record_of}
use Rattle.clif_ssa.specs.Tracked.{IsMadeForMarked, TracksMade}
use Rattle.clif_meaning.specs.Name.{Name}
use Rattle.clif_meaning.specs.Request.{AnsweredCall, DefVar, NeedStackMap, OfValue, OfVariable, Request, Script, StackMapNeed, script_of}
use Rattle.clif_simulation.specs.Carries.{IsValue}
use Rattle.clif_simulation.specs.Tables.{answered}
use Rattle.clif_simulation.specs.Tracks.{HasNoRecord, AsksFor, AssignsTo, HasRequest, IsMarkedIn, IsRecordedIn, IsAskedBy, IsAskedFor, IsMarkedParameter, TracksNeed, TracksOnPaths}
use Rattle.clif_simulation.proofs.LedgerValues.{value_earlier, value_stays}
use Rattle.clif_simulation.proofs.Values.{false_is}
use Rattle.clif_simulation.proofs.Numbers.{answered_stays, script_longer, slice_get-front, slice_get-last, slice_get-longer}

-- the call neither assigns a value nor asks for stack maps for one
abbrev pub NamesNothing : Request → Type 0
NamesNothing (DefVar x name) = ⊥
NamesNothing (NeedStackMap (OfValue name)) = ⊥
NamesNothing _ = Unit {0}

none_some : {X : Type 0} (x : X) → None ≡ Some x → ⊥
none_some x same = cc

same_request : (a b : Request) → Some a ≡ Some b → a ≡ b
same_request a b is = cc

-- a member of a set with one more is that one or a member before
member_cases : (s : List ℕ) (n q : ℕ) → IsTrue (has (with_member s n) q) → IsTrue (has s q) ⊎ (q ≡ n)
member_cases s n q is = by (nat_eq n q) refl (subst IsTrue (has-with_member s n q) is)
  where
    by : (test : Bool) → nat_eq n q ≡ test → IsTrue (test || has s q) → IsTrue (has s q) ⊎ (q ≡ n)
    by true same h = inr (sym (eqb-true n q same))
    by false other h = inl h

member_stays : (s : List ℕ) (n q : ℕ) → IsTrue (has s q) → IsTrue (has (with_member s n) q)
member_stays s n q is = subst IsTrue (sym (has-with_member s n q)) (by (nat_eq n q))
  where
    by : (test : Bool) → IsTrue (test || has s q)
    by true = refl
    by false = is

member_new : (s : List ℕ) (n : ℕ) → IsTrue (has (with_member s n) n)
member_new s n = subst IsTrue (sym (has-with_member s n n)) (by (nat_eq n n) (grind (arith, nat_tests)))
  where
    by : (test : Bool) → test ≡ true → IsTrue (test || has s n)
    by true is = refl
    by false is = let no_way : ⊥ = cc in absurd no_way

-- the kinds of parameters
pub kinds_apart_born : (n x : ℕ) → (born n ≡ pending x) ⊎ (born n ≡ complete x) → ⊥
kinds_apart_born n x (inl h) = cc
kinds_apart_born n x (inr h) = cc

kinds_apart_zero : (y x : ℕ) → (zero_of y ≡ pending x) ⊎ (zero_of y ≡ complete x) → ⊥
kinds_apart_zero y x (inl h) = cc
kinds_apart_zero y x (inr h) = cc

kinds_apart_unborn : (x : ℕ) → (unborn ≡ pending x) ⊎ (unborn ≡ complete x) → ⊥
kinds_apart_unborn x (inl h) = cc
kinds_apart_unborn x (inr h) = cc

-- the kind of a parameter for the variable
abbrev IsKindFor : Kind → ℕ → Type 0
IsKindFor kind x = (kind ≡ pending x) ⊎ (kind ≡ complete x)

-- Nothing so far: nothing is tracked ----------------------------------------------------------------------------------------

none_there : {X : Type 0} (place : ℕ) (x : X) → slice_get [] place ≡ Some x → ⊥
none_there zero x is = cc
none_there (suc place) x is = cc

pub tracks_nothing : TracksOnPaths [] no_state no_blocks
tracks_nothing = record {
  parameters = λ v itself p. absurd (kinds_apart_unborn p.0 p.1);
  only = λ v itself is. absurd (false_is is);
  asked = λ v a. absurd (no_how v a a.how);
  unassigned = λ x none name h. none_there h.0 (DefVar x name) h.1;
  unused = λ x none v itself p. kinds_apart_unborn x p;
  values_asked = λ name h. absurd (none_there h.0 (NeedStackMap (OfValue name)) h.1);
  values_assigned = λ x name h. absurd (none_there h.0 (DefVar x name) h.1);
}
  where
    no_how : (v : ℕ) (a : IsAskedFor [] no_state v)
        → HasRequest [] (NeedStackMap (OfValue a.name)) ⊎ ((x : ℕ) × HasRequest [] (DefVar x a.name) × IsMarkedIn no_state x) → ⊥
    no_how v a (inl h) = none_there h.0 (NeedStackMap (OfValue a.name)) h.1
    no_how v a (inr h) = none_there (h.1).0 (DefVar h.0 a.name) (h.1).1

-- Tables with the same parameters ---------------------------------------------------------------------------------------------

pub record SameParameters (T T' : Blocks) : Type 0 where
  pub resolves : (v : ℕ) → T'.function.resolve v ≡ T.function.resolve v
  pub forth : (v x : ℕ) → IsParameterFor T v x → IsParameterFor T' v x
  pub back : (v x : ℕ) → IsParameterFor T' v x → IsParameterFor T v x

pub same_function : (T T' : Blocks) → T'.function ≡ T.function → SameParameters T T'
same_function T T' same = record {
  resolves = λ v. ap (λ (h : Function). h.resolve v) same;
  forth = λ v x is. subst (λ (h : Function). IsKindFor (h.definition v).kind x) (sym same) is;
  back = λ v x is. subst (λ (h : Function). IsKindFor (h.definition v).kind x) same is;
}

pub same_parameters-then : (T T' T'' : Blocks) → SameParameters T T' → SameParameters T' T'' → SameParameters T T''
same_parameters-then T T' T'' first second = record {
  resolves = λ v. second.resolves v ∙ first.resolves v;
  forth = λ v x is. second.forth v x (first.forth v x is);
  back = λ v x is. first.back v x (second.back v x is);
}

module _ (calls : List AnsweredCall) (call : AnsweredCall) where
  abbrev after : List AnsweredCall
  after = calls ++ call ∷ []

  request_stays : (request : Request) → HasRequest (script_of calls) request → HasRequest (script_of after) request
  request_stays request h = (
    h.0,
    ap (λ (script : Script). slice_get script h.0) (script_longer calls call)
        ∙ slice_get-front (script_of calls) (call.request ∷ []) h.0 (slice_get_within (script_of calls) h.0 request h.1) ∙ h.1,
  )

  request_new : (request : Request) → call.request ≡ request → HasRequest (script_of after) request
  request_new request is = (
    length (script_of calls),
    ap (λ (script : Script). slice_get script (length (script_of calls))) (script_longer calls call)
        ∙ slice_get-last (script_of calls) call.request ∙ ap (λ (r : Request). Some r) is,
  )

  request_cases : (request : Request) → HasRequest (script_of after) request → HasRequest (script_of calls) request ⊎ (call.request ≡ request)
  request_cases request h =
      by (slice_get-longer (script_of calls) call.request h.0 request (sym (ap (λ (script : Script). slice_get script h.0) (script_longer calls call)) ∙ h.1))
    where
      by : ((slice_get (script_of calls) h.0 ≡ Some request) × (h.0 < length (script_of calls))) ⊎ ((h.0 ≡ length (script_of calls)) × (call.request ≡ request))
          → HasRequest (script_of calls) request ⊎ (call.request ≡ request)
      by (inl old) = inl (h.0, old.0)
      by (inr new) = inr new.1

  asks_old : NamesNothing call.request → (name : Name) → AsksFor (script_of after) name → AsksFor (script_of calls) name
  asks_old quiet name h = by (request_cases (NeedStackMap (OfValue name)) h)
    where
      by : AsksFor (script_of calls) name ⊎ (call.request ≡ NeedStackMap (OfValue name)) → AsksFor (script_of calls) name
      by (inl old) = old
      by (inr new) = absurd (subst NamesNothing new quiet)

  assigns_old : NamesNothing call.request → (x : ℕ) (name : Name) → AssignsTo (script_of after) x name → AssignsTo (script_of calls) x name
  assigns_old quiet x name h = by (request_cases (DefVar x name) h)
    where
      by : AssignsTo (script_of calls) x name ⊎ (call.request ≡ DefVar x name) → AssignsTo (script_of calls) x name
      by (inl old) = old
      by (inr new) = absurd (subst NamesNothing new quiet)

  module _ (s t : SsaState) (T : Blocks) (was : TracksOnPaths calls s T) where
    number_stays : (name : Name) → IsValue calls name → answered after name ≡ answered calls name
    number_stays name value = answered_stays calls call name (value_earlier calls name value)

    -- what was asked for is asked for
    asked_on : ((x : ℕ) → IsMarkedIn s x → IsMarkedIn t x) → (v : ℕ) → IsAskedFor calls s v → IsAskedFor after t v
    asked_on marks v a = by a.how
      where
        by : IsAskedBy calls s a.name → IsAskedFor after t v
        by (inl h) = record {
          name = a.name;
          answers = number_stays a.name (was.values_asked a.name h) ∙ a.answers;
          how = inl (request_stays (NeedStackMap (OfValue a.name)) h);
        }
        by (inr h) = record {
          name = a.name;
          answers = number_stays a.name (was.values_assigned h.0 a.name h.1) ∙ a.answers;
          how = inr (h.0, request_stays (DefVar h.0 a.name) h.1, marks h.0 h.2);
        }

    -- what is asked for by a name was asked for, where no other request names one
    asked_by : ((x : ℕ) (name : Name) → AssignsTo (script_of calls) x name → IsMarkedIn t x → IsMarkedIn s x)
        → (v : ℕ) (name : Name) → answered after name ≡ v
        → IsAskedBy calls t name
        → IsAskedFor calls s v
    asked_by marks v name answers (inl h) = record {
      name = name;
      answers = sym (number_stays name (was.values_asked name h)) ∙ answers;
      how = inl h;
    }
    asked_by marks v name answers (inr h) = record {
      name = name;
      answers = sym (number_stays name (was.values_assigned h.0 name h.1)) ∙ answers;
      how = inr (h.0, h.1, marks h.0 name h.1 h.2);
    }

    asked_back : NamesNothing call.request
        → ((x : ℕ) (name : Name) → AssignsTo (script_of calls) x name → IsMarkedIn t x → IsMarkedIn s x)
        → (v : ℕ) → IsAskedFor after t v → IsAskedFor calls s v
    asked_back quiet marks v a = asked_by marks v a.name a.answers (by a.how)
      where
        by : IsAskedBy after t a.name
            → IsAskedBy calls t a.name
        by (inl h) = inl (asks_old quiet a.name h)
        by (inr h) = inr (h.0, assigns_old quiet h.0 a.name h.1, h.2)

    values_asked_on : NamesNothing call.request → (name : Name) → AsksFor (script_of after) name
        → IsValue after name
    values_asked_on quiet name h = value_stays calls call name (was.values_asked name (asks_old quiet name h))

    values_assigned_on : NamesNothing call.request → (x : ℕ) (name : Name) → AssignsTo (script_of after) x name
        → IsValue after name
    values_assigned_on quiet x name h = value_stays calls call name (was.values_assigned x name (assigns_old quiet x name h))

    -- NOTHING IS TRACKED --------------------------------------------------------------------------------------------------

    pub tracks_quiet : NamesNothing call.request → t.tracking ≡ s.tracking → SameRecords s t → (T' : Blocks) → SameParameters T T' → TracksOnPaths after t T'
    tracks_quiet quiet same records T' tables = record {
      parameters = λ v itself p. recorded v (was.parameters v (sym (tables.resolves v) ∙ itself) (p.0, tables.back v p.0 p.1, marks p.0 p.2));
      only = λ v itself is. only_on v (was.only v (sym (tables.resolves v) ∙ itself) (subst (λ (k : Tracked). IsTrue (has (recorded_of k) v)) same is));
      asked = λ v a. recorded v (was.asked v (asked_back quiet (λ x name h is. marks x is) v a));
      unassigned = λ x none name h. was.unassigned x (λ b. sym (records x b) ∙ none b) name (assigns_old quiet x name h);
      unused = λ x none v itself p. was.unused x (λ b. sym (records x b) ∙ none b) v (sym (tables.resolves v) ∙ itself) (tables.back v x p);
      values_asked = values_asked_on quiet;
      values_assigned = values_assigned_on quiet;
    }
      where
        recorded : (v : ℕ) → IsRecordedIn s v → IsRecordedIn t v
        recorded v is = subst (λ (k : Tracked). IsTrue (has (recorded_of k) v)) (sym same) is

        marks : (x : ℕ) → IsMarkedIn t x → IsMarkedIn s x
        marks x is = subst (λ (k : Tracked). IsTrue (has (marked_of k) x)) same is

        marks_on : (x : ℕ) → IsMarkedIn s x → IsMarkedIn t x
        marks_on x is = subst (λ (k : Tracked). IsTrue (has (marked_of k) x)) (sym same) is

        only_on : (v : ℕ) → IsMarkedParameter T s v ⊎ IsAskedFor calls s v → IsMarkedParameter T' t v ⊎ IsAskedFor after t v
        only_on v (inl p) = inl (p.0, tables.forth v p.0 p.1, marks_on p.0 p.2)
        only_on v (inr a) = inr (asked_on marks_on v a)

    -- PARAMETERS ARE MADE -------------------------------------------------------------------------------------------------

    module _ (count : ℕ) (T' : Blocks) (g : Body) (made : TracksMade count s t) (stay : RecordsStay s t) (keeps : KeepsParameters T T' t)
        (resolves : (v : ℕ) → T'.function.resolve v ≡ resolved g v) (aliases : (v : ℕ) → resolved g v ≡ v → T.function.resolve v ≡ v)
        (fresh_ones : (v x : ℕ) → resolved g v ≡ v → (T.function.definition v).kind ≡ unborn → IsParameterFor T' v x → count ≤ v)
        (records_below : (c x v : ℕ) → T.recorded c x ≡ Some v → v < count) (quiet : NamesNothing call.request)
      where
        old_or_new : (v x : ℕ) → resolved g v ≡ v → IsParameterFor T' v x → IsParameterFor T v x ⊎ ((T.function.definition v).kind ≡ unborn)
        old_or_new v x itself p = by (T.function.definition v).kind refl (keeps.kinds v)
          where
            of_pending : (y : ℕ) → IsKindFor (T'.function.definition v).kind y → IsKindFor (T'.function.definition v).kind x → y ≡ x
            of_pending y (inl a) (inl b) = same (sym a ∙ b)
              where
                same : pending y ≡ pending x → y ≡ x
                same h = cc
            of_pending y (inl a) (inr b) = absurd (differ (sym a ∙ b))
              where
                differ : pending y ≡ complete x → ⊥
                differ h = cc
            of_pending y (inr a) (inl b) = absurd (differ (sym a ∙ b))
              where
                differ : complete y ≡ pending x → ⊥
                differ h = cc
            of_pending y (inr a) (inr b) = same (sym a ∙ b)
              where
                same : complete y ≡ complete x → y ≡ x
                same h = cc

            by : (kind : Kind) → (T.function.definition v).kind ≡ kind → KindStays kind (T'.function.definition v).kind
                → IsParameterFor T v x ⊎ ((T.function.definition v).kind ≡ unborn)
            by unborn is stays = inr is
            by (born n) is stays = absurd (kinds_apart_born n x (subst (λ (k : Kind). IsKindFor k x) stays p))
            by (pending y) is stays = inl (inl (is ∙ ap pending (of_pending y stays p)))
            by (complete y) is stays = inl (inr (is ∙ ap complete (of_pending y (inr stays) p)))
            by (zero_of y) is stays = absurd (kinds_apart_zero y x (subst (λ (k : Kind). IsKindFor k x) stays p))

        still : (v x : ℕ) → resolved g v ≡ v → IsParameterFor T v x → IsParameterFor T' v x
        still v x itself (inl is) = subst (λ (k : Kind). KindStays k (T'.function.definition v).kind) is (keeps.kinds v)
        still v x itself (inr is) = inr (subst (λ (k : Kind). KindStays k (T'.function.definition v).kind) is (keeps.kinds v))

        marks : (x : ℕ) → IsMarkedIn t x → IsMarkedIn s x
        marks x is = subst (λ (xs : List ℕ). IsTrue (has xs x)) made.marks is

        marks_on : (x : ℕ) → IsMarkedIn s x → IsMarkedIn t x
        marks_on x is = subst (λ (xs : List ℕ). IsTrue (has xs x)) (sym made.marks) is

        recorded : (v : ℕ) → IsRecordedIn s v → IsRecordedIn t v
        recorded v is = (made.recorded v).1 (inl is)

        itself_now : (v : ℕ) → T'.function.resolve v ≡ v → resolved g v ≡ v
        itself_now v itself = sym (resolves v) ∙ itself

        no_records : (x : ℕ) → ((b : ℕ) → record_of t x b ≡ None) → (b : ℕ) → record_of s x b ≡ None
        no_records x none b = by (record_of s x b) refl
          where
            by : (o : Option ℕ) → record_of s x b ≡ o → record_of s x b ≡ None
            by None is = is
            by (Some v) is = absurd (none_some v (sym (none b) ∙ stay x b v is))

        pub tracks_made : TracksOnPaths after t T'
        tracks_made = record {
          parameters = λ v itself p. parameters v (itself_now v itself) p (old_or_new v p.0 (itself_now v itself) p.1);
          only = λ v itself is. only v (itself_now v itself) ((made.recorded v).0 is);
          asked = λ v a. recorded v (was.asked v (asked_back quiet (λ x name h is. marks x is) v a));
          unassigned = λ x none name h. was.unassigned x (no_records x none) name (assigns_old quiet x name h);
          unused = λ x none v itself p. unused x none v (itself_now v itself) p (old_or_new v x (itself_now v itself) p);
          values_asked = values_asked_on quiet;
          values_assigned = values_assigned_on quiet;
        }
          where
            parameters : (v : ℕ) → resolved g v ≡ v → (p : IsMarkedParameter T' t v) → IsParameterFor T v p.0 ⊎ ((T.function.definition v).kind ≡ unborn)
                → IsRecordedIn t v
            parameters v itself p (inl old) = recorded v (was.parameters v (aliases v itself) (p.0, old, marks p.0 p.2))
            parameters v itself p (inr new) =
                let there = keeps.on_record v p.0 new p.1 in
                (made.recorded v).1 (inr (record {
                  variable = p.0;
                  marked = marks p.0 p.2;
                  is_new = fresh_ones v p.0 itself new p.1;
                  block = there.0;
                  on_record = there.1;
                }))

            only : (v : ℕ) → resolved g v ≡ v → IsRecordedIn s v ⊎ IsMadeForMarked count s t v
                → IsMarkedParameter T' t v ⊎ IsAskedFor after t v
            only v itself (inl old) = by (was.only v (aliases v itself) old)
              where
                by : IsMarkedParameter T s v ⊎ IsAskedFor calls s v → IsMarkedParameter T' t v ⊎ IsAskedFor after t v
                by (inl p) = inl (p.0, still v p.0 itself p.1, marks_on p.0 p.2)
                by (inr a) = inr (asked_on marks_on v a)
            only v itself (inr new) = by (keeps.for_variable v new.variable new.block new.on_record)
              where
                by : ((c : ℕ) × (T.recorded c new.variable ≡ Some v)) ⊎ (((T.function.definition v).kind ≡ unborn) × IsParameterFor T' v new.variable)
                    → IsMarkedParameter T' t v ⊎ IsAskedFor after t v
                by (inl old) = let below = records_below old.0 new.variable v old.1 in let past = new.is_new in absurd (omega (arith, below, past))
                by (inr one) = inl (new.variable, one.1, marks_on new.variable new.marked)

            unused : (x : ℕ) → ((b : ℕ) → record_of t x b ≡ None) → (v : ℕ) → resolved g v ≡ v → IsParameterFor T' v x
                → IsParameterFor T v x ⊎ ((T.function.definition v).kind ≡ unborn) → ⊥
            unused x none v itself p (inl old) = was.unused x (no_records x none) v (aliases v itself) old
            unused x none v itself p (inr new) = let there = keeps.on_record v x new p in none_some v (sym (none there.0) ∙ there.1)

    -- WITH ONE MORE VALUE RECORDED ----------------------------------------------------------------------------------------

    -- a value is assigned
    pub tracks_assigned : (x b : ℕ) (n : Name) (value : ℕ) → call.request ≡ DefVar x n → IsValue calls n → answered calls n ≡ value
        → t.tracking ≡ with_binding s.tracking x value → Records s t x b value → (T' : Blocks) → SameParameters T T' → TracksOnPaths after t T'
    tracks_assigned x b n value is is_value number tracking records T' tables = record {
      parameters = λ v itself p. recorded v (was.parameters v (sym (tables.resolves v) ∙ itself) (p.0, tables.back v p.0 p.1, marks p.0 p.2));
      only = λ v itself h. only v (sym (tables.resolves v) ∙ itself) (recorded_cases v h);
      asked = λ v a. asked v a.name a.answers a.how;
      unassigned = λ y none name h. unassigned y none name (request_cases (DefVar y name) h);
      unused = λ y none v itself p. was.unused y (no_records y none) v (sym (tables.resolves v) ∙ itself) (tables.back v y p);
      values_asked = λ name h. value_stays calls call name (was.values_asked name (asks_before name h));
      values_assigned = λ y name h. value_stays calls call name (values_assigned y name (request_cases (DefVar y name) h));
    }
      where
        marks_by : (test : Bool) → marked_of (if test then with_recorded s.tracking value else s.tracking) ≡ marked_of s.tracking
        marks_by true = refl
        marks_by false = refl

        same_marks : marked_of t.tracking ≡ marked_of s.tracking
        same_marks = ap marked_of tracking ∙ marks_by (has (marked_of s.tracking) x)

        marks : (y : ℕ) → IsMarkedIn t y → IsMarkedIn s y
        marks y h = subst (λ (xs : List ℕ). IsTrue (has xs y)) same_marks h

        marks_on : (y : ℕ) → IsMarkedIn s y → IsMarkedIn t y
        marks_on y h = subst (λ (xs : List ℕ). IsTrue (has xs y)) (sym same_marks) h

        recorded : (v : ℕ) → IsRecordedIn s v → IsRecordedIn t v
        recorded v h = subst (λ (k : Tracked). IsTrue (has (recorded_of k) v)) (sym tracking) (by (has (marked_of s.tracking) x))
          where
            by : (test : Bool) → IsTrue (has (recorded_of (if test then with_recorded s.tracking value else s.tracking)) v)
            by true = member_stays (recorded_of s.tracking) value v h
            by false = h

        recorded_cases : (v : ℕ) → IsRecordedIn t v → IsRecordedIn s v ⊎ ((v ≡ value) × IsMarkedIn s x)
        recorded_cases v h = by (has (marked_of s.tracking) x) (subst (λ (k : Tracked). IsTrue (has (recorded_of k) v)) tracking h)
          where
            new : IsRecordedIn s v ⊎ (v ≡ value) → IsRecordedIn s v ⊎ ((v ≡ value) × IsTrue true)
            new (inl old) = inl old
            new (inr one) = inr (one, refl)

            by : (test : Bool) → IsTrue (has (recorded_of (if test then with_recorded s.tracking value else s.tracking)) v)
                → IsRecordedIn s v ⊎ ((v ≡ value) × IsTrue test)
            by true k = new (member_cases (recorded_of s.tracking) value v k)
            by false k = inl k

        recorded_new : IsMarkedIn s x → IsRecordedIn t value
        recorded_new h = subst (λ (k : Tracked). IsTrue (has (recorded_of k) value)) (sym tracking) (by (has (marked_of s.tracking) x) h)
          where
            by : (test : Bool) → IsTrue test → IsTrue (has (recorded_of (if test then with_recorded s.tracking value else s.tracking)) value)
            by true k = member_new (recorded_of s.tracking) value
            by false k = absurd (false_is k)

        request_is : (y : ℕ) (name : Name) → call.request ≡ DefVar y name → (x ≡ y) × (n ≡ name)
        request_is y name h = parts (sym is ∙ h)
          where
            parts : DefVar x n ≡ DefVar y name → (x ≡ y) × (n ≡ name)
            parts k = (cc, cc)

        asks_before : (name : Name) → AsksFor (script_of after) name → AsksFor (script_of calls) name
        asks_before name h = by (request_cases (NeedStackMap (OfValue name)) h)
          where
            differ : DefVar x n ≡ NeedStackMap (OfValue name) → ⊥
            differ k = cc

            by : AsksFor (script_of calls) name ⊎ (call.request ≡ NeedStackMap (OfValue name)) → AsksFor (script_of calls) name
            by (inl old) = old
            by (inr new) = absurd (differ (sym is ∙ new))

        number_now : answered after n ≡ value
        number_now = number_stays n is_value ∙ number

        only : (v : ℕ) → T.function.resolve v ≡ v → IsRecordedIn s v ⊎ ((v ≡ value) × IsMarkedIn s x)
            → IsMarkedParameter T' t v ⊎ IsAskedFor after t v
        only v itself (inl old) = by (was.only v itself old)
          where
            by : IsMarkedParameter T s v ⊎ IsAskedFor calls s v → IsMarkedParameter T' t v ⊎ IsAskedFor after t v
            by (inl p) = inl (p.0, tables.forth v p.0 p.1, marks_on p.0 p.2)
            by (inr a) = inr (asked_on marks_on v a)
        only v itself (inr new) =
            inr (record { name = n; answers = number_now ∙ sym new.0; how = inr (x, request_new (DefVar x n) is, marks_on x new.1) })

        asked : (v : ℕ) (name : Name) → answered after name ≡ v
            → IsAskedBy after t name
            → IsRecordedIn t v
        asked v name answers (inl h) = recorded v (was.asked v (asked_by (λ y m k. marks y) v name answers (inl (asks_before name h))))
        asked v name answers (inr (y, h, marked)) = by (request_cases (DefVar y name) h)
          where
            by : AssignsTo (script_of calls) y name ⊎ (call.request ≡ DefVar y name) → IsRecordedIn t v
            by (inl old) = recorded v (was.asked v (asked_by (λ z m k. marks z) v name answers (inr (y, old, marked))))
            by (inr new) =
                let parts = request_is y name new in
                subst (λ (w : ℕ). IsRecordedIn t w) (sym number_now ∙ ap (answered after) parts.1 ∙ answers)
                (recorded_new (subst (λ (z : ℕ). IsMarkedIn s z) (sym parts.0) (marks y marked)))

        no_records : (y : ℕ) → ((c : ℕ) → record_of t y c ≡ None) → (c : ℕ) → record_of s y c ≡ None
        no_records y none c = by (y == x && c == b) (sym (records y c) ∙ none c)
          where
            by : (test : Bool) → (if test then Some value else record_of s y c) ≡ None → record_of s y c ≡ None
            by true h = absurd (none_some value (sym h))
            by false h = h

        on_record : record_of t x b ≡ Some value
        on_record = records x b ∙ by (x == x && b == b) (grind (arith, nat_tests))
          where
            by : (test : Bool) → test ≡ true → (if test then Some value else record_of s x b) ≡ Some value
            by true h = refl
            by false h = let no_way : ⊥ = cc in absurd no_way

        unassigned : (y : ℕ) → ((c : ℕ) → record_of t y c ≡ None) → (name : Name) → AssignsTo (script_of calls) y name ⊎ (call.request ≡ DefVar y name) → ⊥
        unassigned y none name (inl old) = was.unassigned y (no_records y none) name old
        unassigned y none name (inr new) = none_some value (sym (none b) ∙ ap (λ (z : ℕ). record_of t z b) (sym (request_is y name new).0) ∙ on_record)

        values_assigned : (y : ℕ) (name : Name) → AssignsTo (script_of calls) y name ⊎ (call.request ≡ DefVar y name) → IsValue calls name
        values_assigned y name (inl old) = was.values_assigned y name old
        values_assigned y name (inr new) = subst (λ (m : Name). IsValue calls m) (request_is y name new).1 is_value

    -- STACK MAPS ARE ASKED FOR --------------------------------------------------------------------------------------------

    -- a variable without records is marked
    tracks_marked : (x : ℕ) → call.request ≡ NeedStackMap (OfVariable x) → HasNoRecord s x → t.tracking ≡ with_mark s.tracking x → SameRecords s t
        → TracksOnPaths after t T
    tracks_marked x is bare tracking records = record {
      parameters = λ v itself p. recorded v (parameters v itself p (marks_cases p.0 p.2));
      only = λ v itself h. only v (was.only v itself (recorded_back v h));
      asked = λ v a. recorded v (was.asked v (asked_back quiet marks v a));
      unassigned = λ y none name h. was.unassigned y (λ b. sym (records y b) ∙ none b) name (assigns_old quiet y name h);
      unused = λ y none v itself p. was.unused y (λ b. sym (records y b) ∙ none b) v itself p;
      values_asked = values_asked_on quiet;
      values_assigned = values_assigned_on quiet;
    }
      where
        quiet : NamesNothing call.request
        quiet = subst NamesNothing (sym is) tt

        recorded : (v : ℕ) → IsRecordedIn s v → IsRecordedIn t v
        recorded v h = subst (λ (k : Tracked). IsTrue (has (recorded_of k) v)) (sym tracking) h

        recorded_back : (v : ℕ) → IsRecordedIn t v → IsRecordedIn s v
        recorded_back v h = subst (λ (k : Tracked). IsTrue (has (recorded_of k) v)) tracking h

        marks_cases : (y : ℕ) → IsMarkedIn t y → IsMarkedIn s y ⊎ (y ≡ x)
        marks_cases y h = member_cases (marked_of s.tracking) x y (subst (λ (k : Tracked). IsTrue (has (marked_of k) y)) tracking h)

        marks_on : (y : ℕ) → IsMarkedIn s y → IsMarkedIn t y
        marks_on y h = subst (λ (k : Tracked). IsTrue (has (marked_of k) y)) (sym tracking) (member_stays (marked_of s.tracking) x y h)

        marks : (y : ℕ) (name : Name) → AssignsTo (script_of calls) y name → IsMarkedIn t y → IsMarkedIn s y
        marks y name h marked = by (marks_cases y marked)
          where
            by : IsMarkedIn s y ⊎ (y ≡ x) → IsMarkedIn s y
            by (inl old) = old
            by (inr same) = absurd (was.unassigned x bare name (subst (λ (z : ℕ). AssignsTo (script_of calls) z name) same h))

        parameters : (v : ℕ) → T.function.resolve v ≡ v → (p : IsMarkedParameter T t v) → IsMarkedIn s p.0 ⊎ (p.0 ≡ x) → IsRecordedIn s v
        parameters v itself p (inl old) = was.parameters v itself (p.0, p.1, old)
        parameters v itself p (inr same) = absurd (was.unused x bare v itself (subst (IsParameterFor T v) same p.1))

        only : (v : ℕ) → IsMarkedParameter T s v ⊎ IsAskedFor calls s v → IsMarkedParameter T t v ⊎ IsAskedFor after t v
        only v (inl p) = inl (p.0, p.1, marks_on p.0 p.2)
        only v (inr a) = inr (asked_on marks_on v a)

    -- the value that answers a name is recorded
    tracks_recorded : (n : Name) → call.request ≡ NeedStackMap (OfValue n) → IsValue calls n
        → t.tracking ≡ with_recorded s.tracking (answered calls n) → SameRecords s t → TracksOnPaths after t T
    tracks_recorded n is is_value tracking records = record {
      parameters = λ v itself p. recorded v (was.parameters v itself (p.0, p.1, marks p.0 p.2));
      only = λ v itself h.
          only v itself (member_cases (recorded_of s.tracking) (answered calls n) v (subst (λ (k : Tracked). IsTrue (has (recorded_of k) v)) tracking h));
      asked = λ v a. asked v a.name a.answers a.how;
      unassigned = λ y none name h. was.unassigned y (λ b. sym (records y b) ∙ none b) name (assigns_before y name h);
      unused = λ y none v itself p. was.unused y (λ b. sym (records y b) ∙ none b) v itself p;
      values_asked = λ name h. value_stays calls call name (values_asked name (request_cases (NeedStackMap (OfValue name)) h));
      values_assigned = λ y name h. value_stays calls call name (was.values_assigned y name (assigns_before y name h));
    }
      where
        recorded : (v : ℕ) → IsRecordedIn s v → IsRecordedIn t v
        recorded v h = subst (λ (k : Tracked). IsTrue (has (recorded_of k) v)) (sym tracking) (member_stays (recorded_of s.tracking) (answered calls n) v h)

        recorded_new : IsTrue (has (recorded_of t.tracking) (answered calls n))
        recorded_new =
            subst (λ (k : Tracked). IsTrue (has (recorded_of k) (answered calls n))) (sym tracking) (member_new (recorded_of s.tracking) (answered calls n))

        marks : (y : ℕ) → IsMarkedIn t y → IsMarkedIn s y
        marks y h = subst (λ (k : Tracked). IsTrue (has (marked_of k) y)) tracking h

        marks_on : (y : ℕ) → IsMarkedIn s y → IsMarkedIn t y
        marks_on y h = subst (λ (k : Tracked). IsTrue (has (marked_of k) y)) (sym tracking) h

        assigns_before : (y : ℕ) (name : Name) → AssignsTo (script_of after) y name → AssignsTo (script_of calls) y name
        assigns_before y name h = by (request_cases (DefVar y name) h)
          where
            differ : NeedStackMap (OfValue n) ≡ DefVar y name → ⊥
            differ k = cc

            by : AssignsTo (script_of calls) y name ⊎ (call.request ≡ DefVar y name) → AssignsTo (script_of calls) y name
            by (inl old) = old
            by (inr new) = absurd (differ (sym is ∙ new))

        request_is : (name : Name) → call.request ≡ NeedStackMap (OfValue name) → n ≡ name
        request_is name h = part (sym is ∙ h)
          where
            part : NeedStackMap (OfValue n) ≡ NeedStackMap (OfValue name) → n ≡ name
            part k = cc

        number_now : answered after n ≡ answered calls n
        number_now = number_stays n is_value

        only : (v : ℕ) → T.function.resolve v ≡ v → IsRecordedIn s v ⊎ (v ≡ answered calls n) → IsMarkedParameter T t v ⊎ IsAskedFor after t v
        only v itself (inl old) = by (was.only v itself old)
          where
            by : IsMarkedParameter T s v ⊎ IsAskedFor calls s v → IsMarkedParameter T t v ⊎ IsAskedFor after t v
            by (inl p) = inl (p.0, p.1, marks_on p.0 p.2)
            by (inr a) = inr (asked_on marks_on v a)
        only v itself (inr new) = inr (record { name = n; answers = number_now ∙ sym new; how = inl (request_new (NeedStackMap (OfValue n)) is) })

        asked : (v : ℕ) (name : Name) → answered after name ≡ v
            → IsAskedBy after t name
            → IsRecordedIn t v
        asked v name answers (inl h) = by (request_cases (NeedStackMap (OfValue name)) h)
          where
            by : AsksFor (script_of calls) name ⊎ (call.request ≡ NeedStackMap (OfValue name)) → IsRecordedIn t v
            by (inl old) = recorded v (was.asked v (asked_by (λ z m k. marks z) v name answers (inl old)))
            by (inr new) =
                subst (λ (w : ℕ). IsRecordedIn t w) (sym number_now ∙ ap (answered after) (request_is name new) ∙ answers) recorded_new
        asked v name answers (inr (y, h, marked)) =
            recorded v (was.asked v (asked_by (λ z m k. marks z) v name answers (inr (y, assigns_before y name h, marked))))

        values_asked : (name : Name) → AsksFor (script_of calls) name ⊎ (call.request ≡ NeedStackMap (OfValue name))
            → IsValue calls name
        values_asked name (inl old) = was.values_asked name old
        values_asked name (inr new) = subst (λ (m : Name). IsValue calls m) (request_is name new) is_value

    pub tracks_needing : (need : StackMapNeed) → call.request ≡ NeedStackMap need → TracksNeed calls s t need → SameRecords s t → TracksOnPaths after t T
    tracks_needing (OfVariable x) is asks records = tracks_marked x is asks.0 asks.1 records
    tracks_needing (OfValue n) is asks records = tracks_recorded n is asks.0 asks.1 records
