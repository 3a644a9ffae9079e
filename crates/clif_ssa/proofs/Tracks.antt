-- Which values stack maps need after uses and sealings.
use Rattle.std.proofs.Common.{◌≡◌, ◌≢◌, ℕ, ◌+◌, ◌<◌, ◌≤◌, ◌==◌, ◌&&◌, ◌||◌, Bool, true, false, List, [], ◌∷◌, length, refl, ap, arith, sym, ◌∙◌, subst, ◌⊎◌, inl, inr}
use Rattle.std.specs.Prelude.{Option, Some, None, Result, Ok, Err, OnOk, IfOk, IsTrue, reverse, if◌then◌else◌}
use Rattle.std.proofs.lemmas.Grind.{common_steps}
use Rattle.clif_types.specs.declared.error.BuildError.{BuildError}
use Rattle.clif_types.specs.declared.types.«Type».{«Type»}
use Rattle.clif_types.specs.EntitySet.{has, with_member}
use Rattle.clif_types.proofs.Marks.{has-with_member}
use Rattle.clif_ir.specs.Body.{Body, value_at}
use Rattle.clif_ir.specs.Reading.{param_home}
use Rattle.clif_instructions.specs.Members.{stands_in}
use Rattle.clif_records.specs.declared.side_effects.SideEffects.{SideEffects}
use Rattle.clif_records.specs.declared.tables.Pending.{Pending}
use Rattle.clif_records.specs.Passed.{before_first}
use Rattle.clif_records.specs.Stacks.{LookUpState, no_look_up}
use Rattle.clif_records.specs.Tables.{is_yes, pending_of}
use Rattle.clif_records.specs.Tracking.{Tracked, sets, marked_of, recorded_of, with_binding}
use Rattle.clif_ssa.specs.Ssa.{SsaState, record_of, sealed_of, predecessors_of, zeroed, zeroed_in, completed, NamesExist, Records, RecordsStay, SameRecords, Waits, Zeroes}
use Rattle.clif_ssa.specs.LookUp.{Stage, AddsParameter, FindsRecord, LooksUp, MakesCall, MakesCalls, none_made, made, IsNoParameter, EndsLookUp, CompletesParameter, with_calls, branch_block}
use Rattle.clif_ssa.specs.Running.{stage, CompletesAll, MakesAll}
use Rattle.clif_ssa.specs.Sealing.{SealsLocally, SealsByLookUp, SealsBelow, none_sealed, next_sealed}
use Rattle.clif_ssa.specs.Tracked.{IsMadeForMarked, TracksMade}
use Rattle.clif_ssa.specs.Zeros.{steps_before}
use Rattle.clif_ssa.proofs.Grown.{Grown, grown_none, grown_param, grown_alias, grown_zeroed, grown_arguments}
use Rattle.clif_ssa.proofs.Looking.{added_recorded, added_stays, copies_stay, walk_unrecorded}
use Rattle.clif_ssa.proofs.Steps.{stay_recorded}

none_some : {v : ℕ} → ◌≡◌ {A = Option ℕ} None (Some v) → ⊥
none_some same = cc

same_some : {v w : ℕ} → ◌≡◌ {A = Option ℕ} (Some v) (Some w) → v ≡ w
same_some same = cc

some_none : {i : ℕ} {is : List ℕ} → ◌≡◌ {A = List ℕ} (i ∷ is) [] → ⊥
some_none same = cc

no_yes : ◌≡◌ false true → ⊥
no_yes same = cc

-- no value is on record that the function doesn't have
abbrev pub RecordsBelow : ℕ → SsaState → Type 0
RecordsBelow count s = (x b v : ℕ) → record_of s x b ≡ Some v → v < count

-- A VALUE BECOMES ONE OF A VARIABLE -------------------------------------------------------------------------------

with_new : (members : List ℕ) (v : ℕ) → has (with_member members v) v ≡ true
with_new members v = has-with_member members v v ∙ grind (arith, common_steps)

with_old : (members : List ℕ) (n v : ℕ) → has members v ≡ true → has (with_member members n) v ≡ true
with_old members n v is = has-with_member members n v ∙ by (n == v) is
  where
    by : (test : Bool) → has members v ≡ true → (test || has members v) ≡ true
    by true old = refl
    by false old = old

with_either : (members : List ℕ) (n v : ℕ) → has (with_member members n) v ≡ true → (v ≡ n) ⊎ (has members v ≡ true)
with_either members n v is = by (n == v) refl (sym (has-with_member members n v) ∙ is)
  where
    by : (test : Bool) → (n == v) ≡ test → (test || has members v) ≡ true → (v ≡ n) ⊎ (has members v ≡ true)
    by true here now = inl (grind (arith, common_steps, here))
    by false other now = inr now

-- what is recorded stays so
bound_old : (t : Tracked) (x n v : ℕ) → has (recorded_of t) v ≡ true → has (recorded_of (with_binding t x n)) v ≡ true
bound_old t x n v is = by (has (marked_of t) x)
  where
    by : (test : Bool) → has (recorded_of (if test then sets (marked_of t) (with_member (recorded_of t) n) else t)) v ≡ true
    by true = with_old (recorded_of t) n v is
    by false = is

-- the value is recorded, if the variable is marked
bound_new : (t : Tracked) (x n : ℕ) → has (marked_of t) x ≡ true → has (recorded_of (with_binding t x n)) n ≡ true
bound_new t x n marked =
    subst (λ test. has (recorded_of (if test then sets (marked_of t) (with_member (recorded_of t) n) else t)) n ≡ true) (sym marked) (with_new (recorded_of t) n)

-- and nothing else is
bound_either : (t : Tracked) (x n v : ℕ) → has (recorded_of (with_binding t x n)) v ≡ true → (has (recorded_of t) v ≡ true) ⊎ ((v ≡ n) × (has (marked_of t) x ≡ true))
bound_either t x n v is = by (has (marked_of t) x) refl is
  where
    by : (test : Bool) → has (marked_of t) x ≡ test → has (recorded_of (if test then sets (marked_of t) (with_member (recorded_of t) n) else t)) v ≡ true
        → (has (recorded_of t) v ≡ true) ⊎ ((v ≡ n) × (has (marked_of t) x ≡ true))
    by true marked now = elim (with_either (recorded_of t) n v now) [ inl new ↦ inr (new, marked) | inr old ↦ inl old ]
    by false unmarked now = inl now

bound_marks : (t : Tracked) (x n : ℕ) → (marked_of (with_binding t x n)) ≡ (marked_of t)
bound_marks t x n = by (has (marked_of t) x)
  where
    by : (test : Bool) → (marked_of (if test then sets (marked_of t) (with_member (recorded_of t) n) else t)) ≡ (marked_of t)
    by true = refl
    by false = refl

bound_unmarked : (t : Tracked) (x n : ℕ) → has (marked_of t) x ≡ false → with_binding t x n ≡ t
bound_unmarked t x n unmarked = ap (λ test. if test then sets (marked_of t) (with_member (recorded_of t) n) else t) unmarked

-- STEPS -----------------------------------------------------------------------------------------------------------

pub tracks_none : (count : ℕ) (s : SsaState) → RecordsBelow count s → TracksMade count s s
tracks_none count s below = record {
  marks = refl;
  recorded = λ v. (λ is. inl is, λ or. by v or);
  unmarked = λ none. refl;
}
  where
    by : (v : ℕ) → IsTrue (has (recorded_of s.tracking) v) ⊎ IsMadeForMarked count s s v → IsTrue (has (recorded_of s.tracking) v)
    by v (inl is) = is
    by v (inr param) = absurd (omega (arith, param.is_new, below param.variable param.block v param.on_record))

made_stays : (count : ℕ) (s m k : SsaState) (v : ℕ) → RecordsStay m k → IsMadeForMarked count s m v → IsMadeForMarked count s k v
made_stays count s m k v stay param = record {
  variable = param.variable;
  marked = param.marked;
  is_new = param.is_new;
  block = param.block;
  on_record = stay param.variable param.block v param.on_record;
}

-- what is tracked stays, and nothing comes on record that wasn't there
pub tracks_kept : (count : ℕ) (s m k : SsaState) → RecordsStay m k
    → ((x b v : ℕ) → record_of k x b ≡ Some v → (c : ℕ) × (record_of m x c ≡ Some v))
    → k.tracking ≡ m.tracking → TracksMade count s m → TracksMade count s k
tracks_kept count s m k stay found tracking before = record {
  marks = ap marked_of tracking ∙ before.marks;
  recorded = λ v. (λ is. there v is, λ or. back v or);
  unmarked = λ none. tracking ∙ before.unmarked none;
}
  where
    there : (v : ℕ) → IsTrue (has (recorded_of k.tracking) v) → IsTrue (has (recorded_of s.tracking) v) ⊎ IsMadeForMarked count s k v
    there v is =
        elim ((before.recorded v).0 (subst (λ (t : Tracked). has (recorded_of t) v ≡ true) tracking is)) [
          | inl old ↦ inl old
          | inr new ↦ inr (made_stays count s m k v stay new)
        ]

    earlier : (v : ℕ) → IsMadeForMarked count s k v → IsMadeForMarked count s m v
    earlier v new =
        let at : (c : ℕ) × (record_of m new.variable c ≡ Some v) = found new.variable new.block v new.on_record in
        record { variable = new.variable; marked = new.marked; is_new = new.is_new; block = at.0; on_record = at.1 }

    back : (v : ℕ) → IsTrue (has (recorded_of s.tracking) v) ⊎ IsMadeForMarked count s k v → IsTrue (has (recorded_of k.tracking) v)
    back v (inl old) = subst (λ (t : Tracked). has (recorded_of t) v ≡ true) (sym tracking) ((before.recorded v).1 (inl old))
    back v (inr new) = subst (λ (t : Tracked). has (recorded_of t) v ≡ true) (sym tracking) ((before.recorded v).1 (inr (earlier v new)))

pub tracks_same : (count : ℕ) (s m k : SsaState) → SameRecords m k → k.tracking ≡ m.tracking → TracksMade count s m → TracksMade count s k
tracks_same count s m k records tracking before =
    tracks_kept count s m k (λ x b v is. records x b ∙ is) (λ x b v is. (b, sym (records x b) ∙ is)) tracking before

-- a new value comes on record for a variable, in some blocks
pub tracks_bound : (count : ℕ) (s m k : SsaState) (x b n : ℕ) → count ≤ n → RecordsStay m k → record_of k x b ≡ Some n
    → ((y c v : ℕ) → record_of k y c ≡ Some v → ((y ≡ x) × (v ≡ n)) ⊎ (record_of m y c ≡ Some v))
    → k.tracking ≡ with_binding m.tracking x n → TracksMade count s m → TracksMade count s k
tracks_bound count s m k x b n new stay here read tracking before = record {
  marks = ap marked_of tracking ∙ bound_marks m.tracking x n ∙ before.marks;
  recorded = λ v. (λ is. there v is, λ or. back v or);
  unmarked = λ none.
      tracking ∙ bound_unmarked m.tracking x n (ap (λ marks. has marks x) before.marks ∙ none x) ∙ before.unmarked none;
}
  where
    bound : (v : ℕ) → has (recorded_of (with_binding m.tracking x n)) v ≡ true → IsTrue (has (recorded_of k.tracking) v)
    bound v is = subst (λ (t : Tracked). has (recorded_of t) v ≡ true) (sym tracking) is

    itself : (v : ℕ) → v ≡ n → has (marked_of m.tracking) x ≡ true → IsMadeForMarked count s k v
    itself v same marked = record {
      variable = x;
      marked = ap (λ marks. has marks x) (sym before.marks) ∙ marked;
      is_new = omega (arith, new, same);
      block = b;
      on_record = here ∙ ap (λ w. Some w) (sym same);
    }

    there : (v : ℕ) → IsTrue (has (recorded_of k.tracking) v) → IsTrue (has (recorded_of s.tracking) v) ⊎ IsMadeForMarked count s k v
    there v is =
        elim (bound_either m.tracking x n v (subst (λ (t : Tracked). has (recorded_of t) v ≡ true) tracking is)) [
          | inr last ↦ inr (itself v last.0 last.1)
          | inl old ↦ elim ((before.recorded v).0 old) [ inl first ↦ inl first | inr param ↦ inr (made_stays count s m k v stay param) ]
        ]

    back : (v : ℕ) → IsTrue (has (recorded_of s.tracking) v) ⊎ IsMadeForMarked count s k v → IsTrue (has (recorded_of k.tracking) v)
    back v (inl old) = bound v (bound_old m.tracking x n v ((before.recorded v).1 (inl old)))
    back v (inr param) =
        elim (read param.variable param.block v param.on_record) [
          | inl last ↦
              let marked : has (marked_of m.tracking) x ≡ true = ap (λ marks. has marks x) before.marks ∙ ap (λ y. has (marked_of s.tracking) y) (sym last.0) ∙ param.marked in
              bound v (subst (λ w. has (recorded_of (with_binding m.tracking x n)) w ≡ true) (sym last.1) (bound_new m.tracking x n marked))
          | inr old ↦
              bound v (bound_old m.tracking x n v ((before.recorded v).1
              (inr (record { variable = param.variable; marked = param.marked; is_new = param.is_new; block = param.block; on_record = old }))))
        ]

-- what is read where one value was written for a variable into some blocks
written : (m k : SsaState) (x n : ℕ) (at : ℕ → Bool) → ((y c : ℕ) → record_of k y c ≡ (if y == x && at c then Some n else record_of m y c))
    → (y c v : ℕ) → record_of k y c ≡ Some v → ((y ≡ x) × (v ≡ n)) ⊎ (record_of m y c ≡ Some v)
written m k x n at writes y c v is = by (y == x) (at c) refl (sym (writes y c) ∙ is)
  where
    by : (row here : Bool) → (y == x) ≡ row → (if row && here then Some n else record_of m y c) ≡ Some v → ((y ≡ x) × (v ≡ n)) ⊎ (record_of m y c ≡ Some v)
    by true true row now = inl (grind (arith, common_steps, row), sym (same_some now))
    by true false row now = inr now
    by false here row now = inr now

written_here : (m k : SsaState) (x b n : ℕ) (at : ℕ → Bool) → ((y c : ℕ) → record_of k y c ≡ (if y == x && at c then Some n else record_of m y c)) → at b ≡ true
    → record_of k x b ≡ Some n
written_here m k x b n at writes here = writes x b ∙ by (x == x) (at b) (grind (arith, common_steps)) here
  where
    by : (row there : Bool) → row ≡ true → there ≡ true → (if row && there then Some n else record_of m x b) ≡ Some n
    by true true row there = refl
    by true false row there = absurd (no_yes there)
    by false there row is = absurd (no_yes row)

-- one record
pub tracks_recorded : (count : ℕ) (s m k : SsaState) (x b n : ℕ) → count ≤ n → record_of m x b ≡ None → Records m k x b n → k.tracking ≡ with_binding m.tracking x n
    → TracksMade count s m → TracksMade count s k
tracks_recorded count s m k x b n new none records tracking before =
    tracks_bound count s m k x b n new (stay_recorded m k x b n none records)
    (written_here m k x b n (λ c. c == b) records (grind (arith, common_steps))) (written m k x n (λ c. c == b) records) tracking before

-- LOOK-UPS --------------------------------------------------------------------------------------------------------

abbrev anywhere : ℕ → Bool
anywhere b = true

-- the end of a look-up takes no value away
ended_values : (param block value : ℕ) (branches results zeros : List ℕ) (g h : Body)
    → IsNoParameter param g h value zeros ⊎ ((home : ℕ) × (param_home g param ≡ Some home) × EndsLookUp param home block branches results g h value zeros)
    → length g.values ≤ length h.values
ended_values param block value branches results zeros g h ends = (by ends).values
  where
    by : IsNoParameter param g h value zeros ⊎ ((home : ℕ) × (param_home g param ≡ Some home) × EndsLookUp param home block branches results g h value zeros)
        → Grown anywhere g h
    by (inl gone) = subst (Grown anywhere g) (sym gone.function) (grown_none anywhere g)
    by (inr (home, is, inl zero)) = subst (Grown anywhere g) (sym zero.function) (grown_zeroed anywhere g home param refl)
    by (inr (home, is, inr (inl one))) = subst (Grown anywhere g) (sym one.function) (grown_alias anywhere g param value)
    by (inr (home, is, inr (inr several))) = subst (Grown anywhere g) (sym several.function) (grown_arguments anywhere branches results g block)

completed_values : (ps : List Pending) (f : Body) → length f.values ≤ length (completed f ps).values
completed_values [] f = omega arith
completed_values (p ∷ ps) f = by (param_home f p.param) (λ g. completed_values ps g)
  where
    by : (home : Option ℕ) → ((g : Body) → length g.values ≤ length (completed g ps).values) → length f.values ≤ length (completed (zeroed_in home f p.param) ps).values
    by None rest = rest f
    by (Some b) rest =
        let first : length f.values ≤ length (zeroed f b p.param).values = (grown_zeroed anywhere f b p.param refl).values in
        omega (arith, first, rest (zeroed f b p.param))

-- `count` and `s` are from before the first step
record Gains (count : ℕ) (s : SsaState) (m : Stage) : Type 0 where
  values : count ≤ length m.function.values
  tracks : TracksMade count s m.state

module _ (count : ℕ) (s : SsaState) where
  grown_to : (f g : Body) → count ≤ length f.values → Grown anywhere f g → count ≤ length g.values
  grown_to f g before grown = omega (arith, before, grown.values)

  found_gains : (x block : ℕ) (m n : Stage) → Gains count s m → FindsRecord x block m n → Gains count s n
  found_gains x block m n gains finds = record {
    values = grown_to m.function n.function gains.values (subst (Grown anywhere m.function) (sym finds.function) (grown_none anywhere m.function));
    tracks =
        tracks_kept count s m.state n.state
        (copies_stay m.state n.state x finds.value finds.passed finds.copies (walk_unrecorded m.function m.state x finds.passed block finds.reached finds.walks.walk))
        (λ y b v is.
        elim (written m.state n.state x finds.value (λ c. stands_in c finds.passed) finds.copies y b v is) [
          | inl same ↦ (finds.reached, ap (λ z. record_of m.state z finds.reached) same.0 ∙ finds.is_recorded ∙ ap (λ w. Some w) (sym same.1))
          | inr old ↦ (b, old)
        ])
        finds.tracking gains.tracks;
  }

  added_gains : (x : ℕ) (ty : «Type») (block reached : ℕ) (m n : Stage) → Gains count s m → AddsParameter x ty block reached m n → Gains count s n
  added_gains x ty block reached m n gains adds =
      let blocks : List ℕ = reached ∷ before_first reached adds.passed in
      record {
        values = grown_to m.function n.function gains.values (subst (Grown anywhere m.function) (sym adds.function) (grown_param anywhere m.function reached ty refl));
        tracks =
            tracks_bound count s m.state n.state x reached (length m.function.values) gains.values
            (added_stays x ty block reached m n adds) (added_recorded x ty block reached m n adds)
            (written m.state n.state x (length m.function.values) (λ c. stands_in c blocks) adds.copies) adds.tracking gains.tracks;
      }

  looks_gains : (x : ℕ) (ty : «Type») (block : ℕ) (m n : Stage) → Gains count s m → LooksUp x ty block m n → Gains count s n
  looks_gains x ty block m n gains (inl finds) = found_gains x block m n gains finds
  looks_gains x ty block m n gains (inr (inl waits)) = added_gains x ty block waits.reached m n gains waits.adds
  looks_gains x ty block m n gains (inr (inr begins)) = added_gains x ty block begins.reached m n gains begins.adds

  call_gains : (x : ℕ) (ty : «Type») (m n : Stage) → Gains count s m → MakesCall x ty m n → Gains count s n
  call_gains x ty m n gains (inl look) =
      looks_gains x ty (branch_block m.function look.branch) (with_calls m look.calls) n (record { values = gains.values; tracks = gains.tracks }) look.looks
  call_gains x ty m n gains (inr finish) =
      let end = finish.finishes in
      let more : length m.function.values ≤ length n.function.values =
      ended_values finish.param finish.block end.value (predecessors_of m.state finish.block) (reverse end.results) end.zeros m.function n.function end.ends in
      record { values = omega (arith, gains.values, more); tracks = subst (TracksMade count s) (sym end.state) gains.tracks }

  calls_gain : (x : ℕ) (ty : «Type») {m n : Stage} → Gains count s m → MakesCalls x ty m n → Gains count s n
  calls_gain x ty gains none_made = gains
  calls_gain x ty gains (made {n = between} {k = last} first call) = call_gains x ty between last (calls_gain x ty gains first) call

  completes_gains : (p : Pending) (block : ℕ) (m n : Stage) → Gains count s m
      → CompletesParameter p.variable (value_at m.function p.param).ty p.param block m n → Gains count s n
  completes_gains p block m n gains complete =
      let begun : Gains count s complete.begun = record {
        values = grown_to m.function complete.begun.function gains.values (subst (Grown anywhere m.function) (sym complete.same_function) (grown_none anywhere m.function));
        tracks = tracks_same count s m.state complete.begun.state complete.same_records complete.same_tracking gains.tracks;
      } in
      let done : Gains count s complete.done = calls_gain p.variable (value_at m.function p.param).ty begun complete.made in
      subst (Gains count s) (sym complete.next) (record { values = done.values; tracks = done.tracks })

  all_gain : (block : ℕ) (ps : List Pending) (m n : Stage) → Gains count s m → CompletesAll block ps m n → Gains count s n
  all_gain block [] m n gains same = subst (Gains count s) (sym same) gains
  all_gain block (p ∷ ps) m n gains all = all_gain block ps all.0 n (completes_gains p block m all.0 gains all.1) all.2

  -- SEALING -------------------------------------------------------------------------------------------------------

  locally_gains : (f g : Body) (t u : SsaState) (l : LookUpState) (block : ℕ) (answer : SideEffects) → Gains count s (stage f t l)
      → SealsLocally f t g u block (Ok answer) → Gains count s (stage g u l)
  locally_gains f g t u l block answer gains seals =
      let more : length f.values ≤ length g.values =
      subst (λ (h : Body). length f.values ≤ length h.values) (sym seals.function) (completed_values (pending_of (sealed_of t block)) f) in
      record { values = omega (arith, gains.values, more); tracks = tracks_same count s t u seals.records seals.tracking gains.tracks }

  looked_up_gains : (f g : Body) (t u : SsaState) (l : LookUpState) (block : ℕ) (told : List ℕ) → Gains count s (stage f t l)
      → SealsByLookUp f t g u block told → Gains count s (stage g u l)
  looked_up_gains f g t u l block told gains seals =
      let start : Gains count s (stage f seals.sealed no_look_up) =
      record { values = gains.values; tracks = tracks_same count s t seals.sealed seals.records seals.tracking gains.tracks } in
      let done : Gains count s (stage g u seals.look_up) =
      all_gain block (pending_of (sealed_of t block)) (stage f seals.sealed no_look_up) (stage g u seals.look_up) start seals.completes in
      record { values = done.values; tracks = done.tracks }

  seals_gain : (f g : Body) (t u : SsaState) (l : LookUpState) (block : ℕ) (answer : SideEffects) → Gains count s (stage f t l)
      → (predecessors_of t block ≡ [] → SealsLocally f t g u block (Ok answer))
      → (predecessors_of t block ≢ [] → SealsByLookUp f t g u block answer.instructions_added_to_blocks.items) → Gains count s (stage g u l)
  seals_gain f g t u l block answer gains locally looks = by (predecessors_of t block) refl
    where
      by : (branches : List ℕ) → predecessors_of t block ≡ branches → Gains count s (stage g u l)
      by [] alone = locally_gains f g t u l block answer gains (locally alone)
      by (i ∷ branches) some = looked_up_gains f g t u l block answer.instructions_added_to_blocks.items gains (looks (λ empty. some_none (sym some ∙ empty)))

  below_gains : (f : Body) {n : ℕ} {g : Body} {t : SsaState} {told : List ℕ} (l : LookUpState) → Gains count s (stage f s l) → SealsBelow f s n g t told
      → Gains count s (stage g t l)
  below_gains f l gains none_sealed = gains
  below_gains f l gains (next_sealed {n = n} {g = g} {h = h} {t = t} {u = u} {answer = answer} first seals) =
      seals_gain g h t u l n answer (below_gains f l gains first) seals.local seals.completes

begins_with : (f : Body) (s : SsaState) (l : LookUpState) → NamesExist f s → Gains (length f.values) s (stage f s l)
begins_with f s l named = record { values = omega arith; tracks = tracks_none (length f.values) s named.recorded }

-- USES ------------------------------------------------------------------------------------------------------------

-- the block is unsealed, or no branch leads to it
pub local_tracks : (f g : Body) (s t : SsaState) (x : ℕ) (ty : «Type») (b : ℕ) {E : Type 0} (result : Result (ℕ × SideEffects) E) → NamesExist f s → record_of s x b ≡ None
    → (is_yes (sealed_of s b) ≡ false → OnOk result (Waits s t f g x ty b) × IfOk result (λ r. (r.0 ≡ length f.values) × (r.1.instructions_added_to_blocks.items ≡ [])))
    → (is_yes (sealed_of s b) ≡ true → OnOk result (Zeroes s t f g x ty b) × IfOk result (λ r. (r.0 ≡ length f.values + 1 + steps_before ty) × (r.1.instructions_added_to_blocks.items ≡ b ∷ [])))
    → OnOk result (TracksMade (length f.values) s t)
local_tracks f g s t x ty b (Err error) named none waits zeroes = tt
local_tracks f g s t x ty b (Ok r) named none waits zeroes = by (is_yes (sealed_of s b)) refl
  where
    start : TracksMade (length f.values) s s
    start = tracks_none (length f.values) s named.recorded

    by : (sealed : Bool) → is_yes (sealed_of s b) ≡ sealed → TracksMade (length f.values) s t
    by true sealed =
        let case : Zeroes s t f g x ty b = (zeroes sealed).0 in
        tracks_recorded (length f.values) s s t x b (length f.values) (omega arith) none case.recorded case.tracking start
    by false unsealed =
        let case : Waits s t f g x ty b = (waits unsealed).0 in
        tracks_recorded (length f.values) s s t x b (length f.values) (omega arith) none case.recorded case.tracking start

-- the variable is looked up in the predecessors
pub machine_tracks : (f h g : Body) (s r t : SsaState) (x : ℕ) (ty : «Type») (b : ℕ) (first begun last : LookUpState) (value : ℕ) → NamesExist f s
    → LooksUp x ty b (stage f s first) (stage h r begun) → MakesAll x ty (stage h r begun) value (stage g t last) → TracksMade (length f.values) s t
machine_tracks f h g s r t x ty b first begun last value named looks all =
    let looked : Gains (length f.values) s (stage h r begun) =
    looks_gains (length f.values) s x ty b (stage f s first) (stage h r begun) (begins_with f s first named) looks in
    let done : Gains (length f.values) s all.last = calls_gain (length f.values) s x ty looked all.made in
    subst (TracksMade (length f.values) s) (sym all.state) done.tracks

-- a block is sealed
pub seal_tracks : (f g : Body) (s t : SsaState) (b : ℕ) (result : Result SideEffects BuildError) → NamesExist f s
    → (predecessors_of s b ≡ [] → SealsLocally f s g t b result)
    → (predecessors_of s b ≢ [] → IfOk result (λ r. SealsByLookUp f s g t b r.instructions_added_to_blocks.items))
    → OnOk result (TracksMade (length f.values) s t)
seal_tracks f g s t b (Err error) named locally looks = tt
seal_tracks f g s t b (Ok answer) named locally looks =
    (seals_gain (length f.values) s f g s t no_look_up b answer (begins_with f s no_look_up named) locally looks).tracks

-- all blocks are
pub seals_track : (f g : Body) (s t : SsaState) (n : ℕ) (told : List ℕ) → NamesExist f s → SealsBelow f s n g t told → TracksMade (length f.values) s t
seals_track f g s t n told named below = (below_gains (length f.values) s f no_look_up (begins_with f s no_look_up named) below).tracks
