-- What is recorded exactly, after one call more: the lemmas of tables on paths, on tables that hold nothing but which parameters were
-- made for which variables, and in which each value stands for itself.
use Rattle.std.proofs.Common.{◌≡◌, ℕ, ◌<◌, ◌≤◌, ◌==◌, ◌&&◌, Bool, true, false, List, [], ◌∷◌, ◌++◌, length, Option, Some, None, ◌⊎◌, inl, inr, refl, sym, ◌∙◌, ap, subst, arith}
use Rattle.std.specs.Prelude.{IsTrue, if◌then◌else◌, slice_get}
use Rattle.std.proofs.lemmas.Bool.{eqb-true}
use Rattle.std.proofs.lemmas.Option.{none-some, slice_get_within}
use Rattle.clif_ir.specs.Body.{Body, follow, resolved}
use Rattle.clif_nodes.specs.declared.nodes.ValueNode.{ValueNode}
use Rattle.clif_paths.specs.Places.{start}
use Rattle.clif_paths.specs.State.{Kind, complete, pending, unborn}
use Rattle.clif_paths.specs.Blocks.{Blocks, no_blocks}
use Rattle.clif_types.specs.EntitySet.{has}
use Rattle.clif_records.specs.Tracking.{Tracked, marked_of, recorded_of, with_binding}
use Rattle.clif_records.proofs.RecordMaps.{record_at-empty}
use Rattle.clif_ssa.specs.Sound.{IsParameterFor, KeepsParameters, KindStays}
use Rattle.clif_ssa.specs.Ssa.{SsaState, Records, RecordsStay, SameRecords, no_state, record_of}
use Rattle.clif_ssa.specs.Tracked.{TracksMade}
use Rattle.clif_meaning.specs.Name.{Name}
use Rattle.clif_meaning.specs.Request.{AnsweredCall, DefVar, NeedStackMap, Request, Script, StackMapNeed, script_of}
use Rattle.clif_simulation.specs.Carries.{IsValue}
use Rattle.clif_simulation.specs.Tables.{answered}
use Rattle.clif_simulation.specs.Tracks.{HasNoRecord, HasRequest, IsAskedFor, IsMarkedIn, IsMarkedParameter, IsRecordedIn, TracksNeed, TracksOnPaths}
use Rattle.clif_simulation.proofs.LedgerValues.{value_earlier}
use Rattle.clif_simulation.proofs.Numbers.{answered_stays, script_longer, slice_get-front, slice_get-last}
use Rattle.clif_simulation.proofs.Tracking.Steps.{NamesNothing, same_function, tracks_assigned, tracks_made, tracks_needing, tracks_nothing, tracks_quiet}
use Rattle.clif_simulation.proofs.Tracking.Giving.{tracks_same}
use Rattle.clif_builder.proofs.BlockValues.{StayParameters, among_within}
use Rattle.clif_builder.specs.Recorded.{IsAssigned, MadeFor, MakesParameters, RecordsExactly, StandsOnRecord, WasMadeForMarked}

-- TABLES ----------------------------------------------------------------------------------------------------------------

abbrev kind_of : Option ℕ → Kind
kind_of None = unborn
kind_of (Some variable) = complete variable

abbrev tables_of : MadeFor → SsaState → Blocks
tables_of made_for s = record no_blocks {
  function = record no_blocks.function { definition = λ v. record { home = start; kind = kind_of (made_for v) } };
  recorded = λ block x. record_of s x block;
}

-- the variable that a value was made for before, if there is one, or else the one that it was made for now
abbrev either : Option ℕ → Option ℕ → Option ℕ
either None new = new
either (Some x) new = Some x

made_kind : (o : Option ℕ) (x : ℕ) → o ≡ Some x → (kind_of o ≡ pending x) ⊎ (kind_of o ≡ complete x)
made_kind o x is = inr (ap kind_of is)

kind_made : (o : Option ℕ) (x : ℕ) → (kind_of o ≡ pending x) ⊎ (kind_of o ≡ complete x) → o ≡ Some x
kind_made None x (inl is) = absurd (apart is)
  where
    apart : unborn ≡ pending x → ⊥
    apart h = cc
kind_made None x (inr is) = absurd (apart is)
  where
    apart : unborn ≡ complete x → ⊥
    apart h = cc
kind_made (Some y) x (inl is) = absurd (apart is)
  where
    apart : complete y ≡ pending x → ⊥
    apart h = cc
kind_made (Some y) x (inr is) = ap (λ (z : ℕ). Some z) (one is)
  where
    one : complete y ≡ complete x → y ≡ x
    one h = cc

unborn_none : (o : Option ℕ) → kind_of o ≡ unborn → o ≡ None
unborn_none None is = refl
unborn_none (Some x) is = absurd (apart is)
  where
    apart : complete x ≡ unborn → ⊥
    apart h = cc

-- what stands on record is some record
stands_there : (calls : List AnsweredCall) (values : List ValueNode) (s : SsaState) (v x : ℕ) → StandsOnRecord calls values s v x → HasNoRecord s x → ⊥
stands_there calls values s v x stands none = by stands.on_record
  where
    by : (record_of s x stands.block ≡ Some v) ⊎ ((w : ℕ) × (record_of s x stands.block ≡ Some w) × IsAssigned calls x w) → ⊥
    by (inl is) = none-some v (sym (none stands.block) ∙ is)
    by (inr other) = none-some other.0 (sym (none stands.block) ∙ other.1)

module _ (calls : List AnsweredCall) (values : List ValueNode) (s : SsaState) where
  to_paths : (exactly : RecordsExactly calls values s) → TracksOnPaths calls s (tables_of exactly.made_for s)
  to_paths exactly = record {
    parameters = λ v itself p. (exactly.recorded v).1 (inr (p.0, kind_made (exactly.made_for v) p.0 p.1, p.2));
    only = λ v itself is. only v ((exactly.recorded v).0 is);
    asked = λ v a. (exactly.recorded v).1 (inl a);
    unassigned = exactly.unassigned;
    unused = λ x none v itself p. stands_there calls values s v x (exactly.stands v x (kind_made (exactly.made_for v) x p)) none;
    values_asked = exactly.values_asked;
    values_assigned = exactly.values_assigned;
  }
    where
      only : (v : ℕ) → IsAskedFor calls s v ⊎ WasMadeForMarked exactly.made_for s v → IsMarkedParameter (tables_of exactly.made_for s) s v ⊎ IsAskedFor calls s v
      only v (inl a) = inr a
      only v (inr p) = inl (p.0, made_kind (exactly.made_for v) p.0 p.1, p.2)

  from_paths : (made_for : MadeFor) (other : SsaState) → TracksOnPaths calls s (tables_of made_for other)
      → ((x b v : ℕ) → record_of s x b ≡ Some v → IsAssigned calls x v ⊎ (made_for v ≡ Some x))
      → ((v x : ℕ) → made_for v ≡ Some x → StandsOnRecord calls values s v x) → RecordsExactly calls values s
  from_paths made_for other paths on_record stands = record {
    made_for = made_for;
    recorded = λ v. (λ is. forth v (paths.only v refl is), λ or. back v or);
    on_record = on_record;
    stands = stands;
    unassigned = paths.unassigned;
    values_asked = paths.values_asked;
    values_assigned = paths.values_assigned;
  }
    where
      forth : (v : ℕ) → IsMarkedParameter (tables_of made_for other) s v ⊎ IsAskedFor calls s v → IsAskedFor calls s v ⊎ WasMadeForMarked made_for s v
      forth v (inl p) = inr (p.0, kind_made (made_for v) p.0 p.1, p.2)
      forth v (inr a) = inl a

      back : (v : ℕ) → IsAskedFor calls s v ⊎ WasMadeForMarked made_for s v → IsRecordedIn s v
      back v (inl a) = paths.asked v a
      back v (inr p) = paths.parameters v refl (p.0, made_kind (made_for v) p.0 p.1, p.2)

-- nothing so far
pub nothing_recorded : RecordsExactly [] [] no_state
nothing_recorded =
    from_paths [] [] no_state (λ v. None) no_state (tracks_same [] no_state no_blocks (tables_of (λ v. None) no_state) (same_function no_blocks (tables_of (λ v. None) no_state) refl) tracks_nothing)
    (λ x b v is. absurd (none-some v (sym (record_at-empty x b) ∙ is))) (λ v x is. absurd (none-some x is))

module _ (calls : List AnsweredCall) (call : AnsweredCall) where
  abbrev after : List AnsweredCall
  after = calls ++ call ∷ []

  request_stays : (request : Request) → HasRequest (script_of calls) request → HasRequest (script_of after) request
  request_stays request h = (
    h.0,
    ap (λ (script : Script). slice_get script h.0) (script_longer calls call)
        ∙ slice_get-front (script_of calls) (call.request ∷ []) h.0 (slice_get_within (script_of calls) h.0 request h.1) ∙ h.1,
  )

  request_new : (request : Request) → call.request ≡ request → HasRequest (script_of after) request
  request_new request is = (
    length (script_of calls),
    ap (λ (script : Script). slice_get script (length (script_of calls))) (script_longer calls call)
        ∙ slice_get-last (script_of calls) call.request ∙ ap (λ (r : Request). Some r) is,
  )

  module _ (values : List ValueNode) (s : SsaState) (was : RecordsExactly calls values s) where
    number_stays : (name : Name) → IsValue calls name → answered after name ≡ answered calls name
    number_stays name value = answered_stays calls call name (value_earlier calls name value)

    assigned_on : (x v : ℕ) → IsAssigned calls x v → IsAssigned after x v
    assigned_on x v a = (a.0, request_stays (DefVar x a.0) a.1, number_stays a.0 (was.values_assigned x a.0 a.1) ∙ a.2)

    or_made : (made_for : MadeFor) (x v : ℕ) → IsAssigned calls x v ⊎ (made_for v ≡ Some x) → IsAssigned after x v ⊎ (made_for v ≡ Some x)
    or_made made_for x v (inl a) = inl (assigned_on x v a)
    or_made made_for x v (inr m) = inr m

    -- what stands on record stands where records stay
    stands_on : (more : List ValueNode) (t : SsaState) (v x : ℕ) → StayParameters values more → RecordsStay s t → StandsOnRecord calls values s v x → StandsOnRecord after more t v x
    stands_on more t v x grows stay old = record {
      is_parameter = grows v old.is_parameter;
      block = old.block;
      on_record = by old.on_record;
    }
      where
        by : (record_of s x old.block ≡ Some v) ⊎ ((w : ℕ) × (record_of s x old.block ≡ Some w) × IsAssigned calls x w)
            → (record_of t x old.block ≡ Some v) ⊎ ((w : ℕ) × (record_of t x old.block ≡ Some w) × IsAssigned after x w)
        by (inl is) = inl (stay x old.block v is)
        by (inr other) = inr (other.0, stay x old.block other.0 other.1, assigned_on x other.0 other.2)

    abbrev before : Blocks
    before = tables_of was.made_for s

    -- nothing is tracked, and no record changes
    pub exactly_quiet : (more : List ValueNode) (t : SsaState) → NamesNothing call.request → StayParameters values more → SameRecords s t → t.tracking ≡ s.tracking → RecordsExactly after more t
    exactly_quiet more t quiet grows records tracking =
        from_paths after more t was.made_for t
        (tracks_quiet calls call s t before (to_paths calls values s was) quiet tracking records (tables_of was.made_for t) (same_function before (tables_of was.made_for t) refl))
        (λ x b v is. or_made was.made_for x v (was.on_record x b v (sym (records x b) ∙ is)))
        (λ v x is. stands_on more t v x grows (λ y b w there. records y b ∙ there) (was.stands v x is))

    -- stack maps are asked for
    pub exactly_needing : (t : SsaState) (need : StackMapNeed) → call.request ≡ NeedStackMap need → TracksNeed calls s t need → SameRecords s t → RecordsExactly after values t
    exactly_needing t need is asks records =
        from_paths after values t was.made_for s (tracks_needing calls call s t before (to_paths calls values s was) need is asks records)
        (λ x b v there. or_made was.made_for x v (was.on_record x b v (sym (records x b) ∙ there)))
        (λ v x made. stands_on values t v x (λ u is. is) (λ y b w there. records y b ∙ there) (was.stands v x made))

    -- a value is assigned
    pub exactly_assigned : (t : SsaState) (x b : ℕ) (n : Name) (value : ℕ) → call.request ≡ DefVar x n → IsValue calls n → answered calls n ≡ value
        → t.tracking ≡ with_binding s.tracking x value → Records s t x b value → RecordsExactly after values t
    exactly_assigned t x b n value is is_value number tracking records =
        from_paths after values t was.made_for t
        (tracks_assigned calls call s t before (to_paths calls values s was) x b n value is is_value number tracking records (tables_of was.made_for t)
        (same_function before (tables_of was.made_for t) refl))
        (λ y c v there. on_record y c v (y == x) (c == b) refl (sym (records y c) ∙ there)) (λ v y made. stands v y (was.stands v y made))
      where
        now : IsAssigned after x value
        now = (n, request_new (DefVar x n) is, number_stays n is_value ∙ number)

        same_value : (v : ℕ) → Some value ≡ Some v → value ≡ v
        same_value v h = cc

        on_record : (y c v : ℕ) (row here : Bool) → (y == x) ≡ row → (if row && here then Some value else record_of s y c) ≡ Some v
            → IsAssigned after y v ⊎ (was.made_for v ≡ Some y)
        on_record y c v true true same there =
            inl (subst (λ (z : ℕ). IsAssigned after z v) (sym (eqb-true y x same)) (subst (IsAssigned after x) (same_value v there) now))
        on_record y c v true false same there = or_made was.made_for y v (was.on_record y c v there)
        on_record y c v false here same there = or_made was.made_for y v (was.on_record y c v there)

        stands : (v y : ℕ) → StandsOnRecord calls values s v y → StandsOnRecord after values t v y
        stands v y old = record { is_parameter = old.is_parameter; block = old.block; on_record = by (y == x) (old.block == b) refl (records y old.block) }
          where
            stays : record_of t y old.block ≡ record_of s y old.block
                → (record_of s y old.block ≡ Some v) ⊎ ((w : ℕ) × (record_of s y old.block ≡ Some w) × IsAssigned calls y w)
                → (record_of t y old.block ≡ Some v) ⊎ ((w : ℕ) × (record_of t y old.block ≡ Some w) × IsAssigned after y w)
            stays same (inl there) = inl (same ∙ there)
            stays same (inr other) = inr (other.0, same ∙ other.1, assigned_on y other.0 other.2)

            by : (row here : Bool) → (y == x) ≡ row → record_of t y old.block ≡ (if row && here then Some value else record_of s y old.block)
                → (record_of t y old.block ≡ Some v) ⊎ ((w : ℕ) × (record_of t y old.block ≡ Some w) × IsAssigned after y w)
            by true true same there = inr (value, there, subst (λ (z : ℕ). IsAssigned after z value) (sym (eqb-true y x same)) now)
            by true false same there = stays there old.on_record
            by false here same there = stays there old.on_record

    -- PARAMETERS ARE MADE -----------------------------------------------------------------------------------------------

    module _ (more : List ValueNode) (t : SsaState) (quiet : NamesNothing call.request) (makes : MakesParameters values more s t) (tracks : TracksMade (length values) s t)
        (stay : RecordsStay s t) (grows : StayParameters values more) (below : (x b v : ℕ) → record_of s x b ≡ Some v → v < length values)
      where
        abbrev made_for : ℕ → Option ℕ
        made_for v = either (was.made_for v) (makes.made_for v)

        -- what is new wasn't made before
        not_made : (v : ℕ) → length values ≤ v → was.made_for v ≡ None
        not_made v new = by (was.made_for v) refl
          where
            by : (o : Option ℕ) → was.made_for v ≡ o → was.made_for v ≡ None
            by None is = is
            by (Some x) is = let old = among_within values v (was.stands v x is).is_parameter in absurd (omega (arith, old, new))

        made_now : (v x : ℕ) → makes.made_for v ≡ Some x → made_for v ≡ Some x
        made_now v x is = ap (λ (o : Option ℕ). either o (makes.made_for v)) (not_made v (makes.each v x is).is_new) ∙ is

        made_before : (v x : ℕ) → was.made_for v ≡ Some x → made_for v ≡ Some x
        made_before v x is = ap (λ (o : Option ℕ). either o (makes.made_for v)) is

        made_cases : (v x : ℕ) → made_for v ≡ Some x → (was.made_for v ≡ Some x) ⊎ ((was.made_for v ≡ None) × (makes.made_for v ≡ Some x))
        made_cases v x is = by (was.made_for v) refl is
          where
            by : (o : Option ℕ) → was.made_for v ≡ o → either o (makes.made_for v) ≡ Some x
                → (was.made_for v ≡ Some x) ⊎ ((was.made_for v ≡ None) × (makes.made_for v ≡ Some x))
            by None none now = inr (none, now)
            by (Some y) some now = inl (some ∙ now)

        abbrev now : Blocks
        now = tables_of made_for t

        keeps : KeepsParameters before now t
        keeps = record {
          kinds = λ v. kinds (was.made_for v) (makes.made_for v);
          on_record = λ v x none p.
              new v x (ap (λ (o : Option ℕ). either o (makes.made_for v)) (unborn_none (was.made_for v) none)) (kind_made (made_for v) x p);
          for_variable = λ v x b is. for_variable v x (makes.on_record x b v is);
        }
          where
            kinds : (old new : Option ℕ) → KindStays (kind_of old) (kind_of (either old new))
            kinds None new = tt
            kinds (Some x) new = refl

            new : (v x : ℕ) → made_for v ≡ makes.made_for v → made_for v ≡ Some x → (b : ℕ) × (record_of t x b ≡ Some v)
            new v x same is = let one = makes.each v x (sym same ∙ is) in (one.block, one.on_record)

            for_variable : (v x : ℕ) → ((c : ℕ) × (record_of s x c ≡ Some v)) ⊎ (makes.made_for v ≡ Some x)
                → ((c : ℕ) × (before.recorded c x ≡ Some v)) ⊎ (((before.function.definition v).kind ≡ unborn) × IsParameterFor now v x)
            for_variable v x (inl old) = inl old
            for_variable v x (inr one) =
                inr (ap kind_of (not_made v (makes.each v x one).is_new), made_kind (made_for v) x (made_now v x one))

        -- a function without values, and so without aliases
        bare : (f : Body) (v : ℕ) → resolved (record f { values = [] }) v ≡ v
        unfolding follow
        bare f v = refl

        -- of any function: it is looked at for its aliases alone
        pub exactly_made : Body → RecordsExactly after more t
        exactly_made f =
            from_paths after more t made_for t
            (tracks_made calls call s t before (to_paths calls values s was) (length values) now (record f { values = [] }) tracks stay keeps
            (λ v. sym (bare f v)) (λ v itself. refl)
            (λ v x itself none p. new_value v x (unborn_none (was.made_for v) none) (kind_made (made_for v) x p)) (λ c x v is. below x c v is) quiet)
            (λ x b v is. on_record x v (makes.on_record x b v is)) (λ v x is. stands v x (made_cases v x is))
          where
            new_value : (v x : ℕ) → was.made_for v ≡ None → made_for v ≡ Some x → length values ≤ v
            new_value v x none is = by (made_cases v x is)
              where
                by : (was.made_for v ≡ Some x) ⊎ ((was.made_for v ≡ None) × (makes.made_for v ≡ Some x)) → length values ≤ v
                by (inl old) = absurd (none-some x (sym none ∙ old))
                by (inr new) = (makes.each v x new.1).is_new

            on_record : (x v : ℕ) → ((c : ℕ) × (record_of s x c ≡ Some v)) ⊎ (makes.made_for v ≡ Some x) → IsAssigned after x v ⊎ (made_for v ≡ Some x)
            on_record x v (inl old) = by (was.on_record x old.0 v old.1)
              where
                by : IsAssigned calls x v ⊎ (was.made_for v ≡ Some x) → IsAssigned after x v ⊎ (made_for v ≡ Some x)
                by (inl a) = inl (assigned_on x v a)
                by (inr m) = inr (made_before v x m)
            on_record x v (inr one) = inr (made_now v x one)

            stands : (v x : ℕ) → (was.made_for v ≡ Some x) ⊎ ((was.made_for v ≡ None) × (makes.made_for v ≡ Some x)) → StandsOnRecord after more t v x
            stands v x (inl old) = stands_on more t v x grows stay (was.stands v x old)
            stands v x (inr new) =
                let one = makes.each v x new.1 in
                record { is_parameter = one.is_parameter; block = one.block; on_record = inl one.on_record }

-- and where the list stays
pub exactly_same : (calls : List AnsweredCall) (values : List ValueNode) (s t : SsaState) → SameRecords s t → t.tracking ≡ s.tracking
    → RecordsExactly calls values s → RecordsExactly calls values t
exactly_same calls values s t records tracking was = record {
  made_for = was.made_for;
  recorded = λ v. (λ is. forth v ((was.recorded v).0 (tracked_before v is)), λ or. tracked_now v ((was.recorded v).1 (back v or)));
  on_record = λ x b v is. was.on_record x b v (sym (records x b) ∙ is);
  stands = λ v x is.
      let old = was.stands v x is in
      record { is_parameter = old.is_parameter; block = old.block; on_record = by x v old.block old.on_record };
  unassigned = λ x none. was.unassigned x (λ b. sym (records x b) ∙ none b);
  values_asked = was.values_asked;
  values_assigned = was.values_assigned;
}
  where
    tracked_before : (v : ℕ) → IsRecordedIn t v → IsRecordedIn s v
    tracked_before v is = subst (λ (k : Tracked). IsTrue (has (recorded_of k) v)) tracking is

    tracked_now : (v : ℕ) → IsRecordedIn s v → IsRecordedIn t v
    tracked_now v is = subst (λ (k : Tracked). IsTrue (has (recorded_of k) v)) (sym tracking) is

    marks : (x : ℕ) → IsMarkedIn s x → IsMarkedIn t x
    marks x is = subst (λ (k : Tracked). IsTrue (has (marked_of k) x)) (sym tracking) is

    marks_back : (x : ℕ) → IsMarkedIn t x → IsMarkedIn s x
    marks_back x is = subst (λ (k : Tracked). IsTrue (has (marked_of k) x)) tracking is

    forth : (v : ℕ) → IsAskedFor calls s v ⊎ WasMadeForMarked was.made_for s v → IsAskedFor calls t v ⊎ WasMadeForMarked was.made_for t v
    forth v (inl a) = inl (record { name = a.name; answers = a.answers; how = elim a.how [ inl h ↦ inl h | inr h ↦ inr (h.0, h.1, marks h.0 h.2) ] })
    forth v (inr m) = inr (m.0, m.1, marks m.0 m.2)

    back : (v : ℕ) → IsAskedFor calls t v ⊎ WasMadeForMarked was.made_for t v → IsAskedFor calls s v ⊎ WasMadeForMarked was.made_for s v
    back v (inl a) = inl (record { name = a.name; answers = a.answers; how = elim a.how [ inl h ↦ inl h | inr h ↦ inr (h.0, h.1, marks_back h.0 h.2) ] })
    back v (inr m) = inr (m.0, m.1, marks_back m.0 m.2)

    by : (x v b : ℕ) → (record_of s x b ≡ Some v) ⊎ ((w : ℕ) × (record_of s x b ≡ Some w) × IsAssigned calls x w)
        → (record_of t x b ≡ Some v) ⊎ ((w : ℕ) × (record_of t x b ≡ Some w) × IsAssigned calls x w)
    by x v b (inl is) = inl (records x b ∙ is)
    by x v b (inr other) = inr (other.0, records x b ∙ other.1, other.2)
