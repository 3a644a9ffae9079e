-- Which parameters a use and a sealing make for which variables: what comes on record is new, or was on record for its variable.
use Rattle.std.proofs.Common.{◌≡◌, ◌≢◌, ℕ, ◌+◌, ◌≤◌, ◌==◌, ◌&&◌, ◌||◌, Bool, true, false, List, [], ◌∷◌, length, refl, ap, arith, sym, ◌∙◌, subst, ◌⊎◌, inl, inr}
use Rattle.std.specs.Prelude.{Option, Some, None, Result, Ok, Err, OnOk, IfOk, IfSome, reverse, if◌then◌else◌}
use Rattle.std.proofs.lemmas.Grind.{common_steps}
use Rattle.std.proofs.lemmas.Option.{none-some}
use Rattle.clif_types.specs.declared.error.BuildError.{BuildError}
use Rattle.clif_types.specs.declared.types.«Type».{«Type»}
use Rattle.clif_ir.specs.Body.{Body, value_at}
use Rattle.clif_ir.specs.Changes.{with_param}
use Rattle.clif_ir.specs.Reading.{param_home}
use Rattle.clif_instructions.specs.Members.{stands_in}
use Rattle.clif_nodes.specs.declared.nodes.ValueNode.{ValueNode}
use Rattle.clif_nodes.specs.declared.nodes.ValueOrigin.TheVariants.{Param}
use Rattle.clif_paths.specs.Steps.{updated}
use Rattle.clif_paths.proofs.Tables.{updated-other, updated-same, updated_cases}
use Rattle.clif_records.specs.declared.side_effects.SideEffects.{SideEffects}
use Rattle.clif_records.specs.declared.tables.Pending.{Pending}
use Rattle.clif_records.specs.Passed.{before_first}
use Rattle.clif_records.specs.Stacks.{LookUpState, no_look_up}
use Rattle.clif_records.specs.Tables.{is_yes, pending_of}
use Rattle.clif_ssa.specs.Ssa.{SsaState, record_of, sealed_of, predecessors_of, zeroed, zeroed_in, completed, Records, RecordsStay, SameRecords, Waits, Zeroes}
use Rattle.clif_ssa.specs.LookUp.{Stage, AddsParameter, FindsRecord, LooksUp, MakesCall, MakesCalls, none_made, made, IsNoParameter, EndsLookUp, CompletesParameter, UsesVariable, with_calls, branch_block}
use Rattle.clif_ssa.specs.Running.{stage, found, CompletesAll}
use Rattle.clif_ssa.specs.Sealing.{SealsLocally, SealsByLookUp, SealsBelow, none_sealed, next_sealed}
use Rattle.clif_ssa.specs.Zeros.{steps_before}
use Rattle.clif_ssa.proofs.Grown.{grown_alias, grown_arguments, grown_param, grown_zeroed}
use Rattle.clif_ssa.proofs.Looking.{copies_stay, walk_first, walk_unrecorded}
use Rattle.clif_ssa.proofs.Steps.{stay_recorded}
use Rattle.clif_builder.specs.Recorded.{IsNewOnRecord, IsParameterAmong, MakesInto, MakesParameters}
use Rattle.clif_builder.proofs.BlockValues.{StayParameters, among_within, parameter_last, parameters_alias, parameters_arguments, parameters_param, parameters_zeroed}

some_none : {i : ℕ} {is : List ℕ} → ◌≡◌ {A = List ℕ} (i ∷ is) [] → ⊥
some_none same = cc

same_some : {v w : ℕ} → ◌≡◌ {A = Option ℕ} (Some v) (Some w) → v ≡ w
same_some same = cc

no_yes : ◌≡◌ false true → ⊥
no_yes same = cc

pub into : {before now : List ValueNode} {s t : SsaState} → MakesParameters before now s t → MakesInto before now s t
unfolding MakesInto
into makes = makes

pub makes_parameters : {before now : List ValueNode} {s t : SsaState} → MakesInto before now s t → MakesParameters before now s t
unfolding MakesInto
makes_parameters makes = makes

-- what is read where one value was written for a variable into some blocks
written : (m k : SsaState) (x n : ℕ) (at : ℕ → Bool) → ((y c : ℕ) → record_of k y c ≡ (if y == x && at c then Some n else record_of m y c))
    → (y c v : ℕ) → record_of k y c ≡ Some v → ((y ≡ x) × (v ≡ n)) ⊎ (record_of m y c ≡ Some v)
written m k x n at writes y c v is = by (y == x) (at c) refl (sym (writes y c) ∙ is)
  where
    by : (row here : Bool) → (y == x) ≡ row → (if row && here then Some n else record_of m y c) ≡ Some v → ((y ≡ x) × (v ≡ n)) ⊎ (record_of m y c ≡ Some v)
    by true true row now = inl (grind (arith, common_steps, row), sym (same_some now))
    by true false row now = inr now
    by false here row now = inr now

written_here : (m k : SsaState) (x b n : ℕ) (at : ℕ → Bool) → ((y c : ℕ) → record_of k y c ≡ (if y == x && at c then Some n else record_of m y c)) → at b ≡ true
    → record_of k x b ≡ Some n
written_here m k x b n at writes here = writes x b ∙ by (x == x) (at b) (grind (arith, common_steps)) here
  where
    by : (row there : Bool) → row ≡ true → there ≡ true → (if row && there then Some n else record_of m x b) ≡ Some n
    by true true row there = refl
    by true false row there = absurd (no_yes there)
    by false there row is = absurd (no_yes row)

abbrev anywhere : ℕ → Bool
anywhere b = true

-- no value goes, and parameters stay parameters or become other names
record Grows (f g : Body) : Type 0 where
  count : length f.values ≤ length g.values
  stay : StayParameters f.values g.values

grows_none : (f : Body) → Grows f f
grows_none f = record { count = omega arith; stay = λ v is. is }

grows_then : (f g h : Body) → Grows f g → Grows g h → Grows f h
grows_then f g h first second = record { count = omega (arith, first.count, second.count); stay = λ v is. second.stay v (first.stay v is) }

grows_zeroed : (f : Body) (b v : ℕ) → Grows f (zeroed f b v)
grows_zeroed f b v = record { count = (grown_zeroed anywhere f b v refl).values; stay = parameters_zeroed f b v }

grows_param : (f : Body) (b : ℕ) (ty : «Type») → Grows f (with_param f b ty)
grows_param f b ty = record { count = (grown_param anywhere f b ty refl).values; stay = parameters_param f b ty }

-- PARAMETERS STAY -------------------------------------------------------------------------------------------------------

ended_values : (param block value : ℕ) (branches results zeros : List ℕ) (g h : Body)
    → IsNoParameter param g h value zeros ⊎ ((home : ℕ) × (param_home g param ≡ Some home) × EndsLookUp param home block branches results g h value zeros)
    → Grows g h
ended_values param block value branches results zeros g h (inl gone) = subst (Grows g) (sym gone.function) (grows_none g)
ended_values param block value branches results zeros g h (inr (home, is, inl zero)) = subst (Grows g) (sym zero.function) (grows_zeroed g home param)
ended_values param block value branches results zeros g h (inr (home, is, inr (inl one))) =
    subst (Grows g) (sym one.function) (record { count = (grown_alias anywhere g param value).values; stay = parameters_alias g param value })
ended_values param block value branches results zeros g h (inr (home, is, inr (inr several))) =
    subst (Grows g) (sym several.function)
    (record { count = (grown_arguments anywhere branches results g block).values; stay = parameters_arguments branches results g block })

completed_values : (ps : List Pending) (f : Body) → Grows f (completed f ps)
completed_values [] f = grows_none f
completed_values (p ∷ ps) f = by (param_home f p.param) (λ g. completed_values ps g)
  where
    by : (home : Option ℕ) → ((g : Body) → Grows g (completed g ps)) → Grows f (completed (zeroed_in home f p.param) ps)
    by None rest = rest f
    by (Some b) rest = grows_then f (zeroed f b p.param) (completed (zeroed f b p.param) ps) (grows_zeroed f b p.param) (rest (zeroed f b p.param))

-- STEPS -----------------------------------------------------------------------------------------------------------------

-- what was made so far in a call that began with these values, in this state
record Makes (before : List ValueNode) (s : SsaState) (m : Stage) : Type 0 where
  values : length before ≤ length m.function.values
  makes : MakesParameters before m.function.values s m.state

module _ (before : List ValueNode) (s : SsaState) where
  -- nothing comes on record for a variable that wasn't there
  kept : (m n : Stage) → Grows m.function n.function → RecordsStay m.state n.state
      → ((x b v : ℕ) → record_of n.state x b ≡ Some v → (c : ℕ) × (record_of m.state x c ≡ Some v)) → Makes before s m → Makes before s n
  kept m n more stay there was = record {
    values = omega (arith, was.values, more.count);
    makes = record {
      made_for = was.makes.made_for;
      each = λ v x is.
          let old = was.makes.each v x is in
          record {
            is_new = old.is_new;
            is_parameter = more.stay v old.is_parameter;
            block = old.block;
            on_record = stay x old.block v old.on_record;
          };
      on_record = λ x b v is. let at = there x b v is in was.makes.on_record x at.0 v at.1;
    };
  }

  same : (m n : Stage) → Grows m.function n.function → SameRecords m.state n.state → Makes before s m → Makes before s n
  same m n more records was = kept m n more (λ x b v is. records x b ∙ is) (λ x b v is. (b, sym (records x b) ∙ is)) was

  -- the next value comes on record for a variable
  module _ (m k : Stage) (x b : ℕ) (more : Grows m.function k.function) (last : IsParameterAmong k.function.values (length m.function.values))
      (stay : RecordsStay m.state k.state) (here : record_of k.state x b ≡ Some (length m.function.values))
      (read : (y c v : ℕ) → record_of k.state y c ≡ Some v → ((y ≡ x) × (v ≡ length m.function.values)) ⊎ (record_of m.state y c ≡ Some v))
      (was : Makes before s m)
    where
      abbrev with_next : ℕ → Option ℕ
      with_next = updated was.makes.made_for (length m.function.values) (Some x)

      added_each : (v y : ℕ) → with_next v ≡ Some y → IsNewOnRecord before k.function.values k.state v y
      added_each v y is =
          elim (updated_cases was.makes.made_for (length m.function.values) (Some x) v) [
            | inl new ↦
                let variable : x ≡ y = same_some (sym new.1 ∙ is) in
                record {
                  is_new = omega (arith, was.values, new.0);
                  is_parameter = subst (IsParameterAmong k.function.values) (sym new.0) last;
                  block = b;
                  on_record = ap (λ z. record_of k.state z b) (sym variable) ∙ here ∙ ap (λ w. Some w) (sym new.0);
                }
            | inr other ↦
                let old = was.makes.each v y (sym other.1 ∙ is) in
                record {
                  is_new = old.is_new;
                  is_parameter = more.stay v old.is_parameter;
                  block = old.block;
                  on_record = stay y old.block v old.on_record;
                }
          ]

      added_earlier : (v y : ℕ) → ((d : ℕ) × (record_of s y d ≡ Some v)) ⊎ (was.makes.made_for v ≡ Some y) → ((d : ℕ) × (record_of s y d ≡ Some v)) ⊎ (with_next v ≡ Some y)
      added_earlier v y (inl first) = inl first
      added_earlier v y (inr old) =
          let below = among_within m.function.values v (was.makes.each v y old).is_parameter in
          inr (updated-other was.makes.made_for (length m.function.values) (Some x) v (λ now. omega (arith, below, now)) ∙ old)

      added_on_record : (y c v : ℕ) → ((y ≡ x) × (v ≡ length m.function.values)) ⊎ (record_of m.state y c ≡ Some v) → ((d : ℕ) × (record_of s y d ≡ Some v)) ⊎ (with_next v ≡ Some y)
      added_on_record y c v (inl new) = inr (updated-same was.makes.made_for (length m.function.values) (Some x) v new.1 ∙ ap (λ z. Some z) (sym new.0))
      added_on_record y c v (inr old) = added_earlier v y (was.makes.on_record y c v old)

      added : Makes before s k
      added = record {
        values = omega (arith, was.values, more.count);
        makes = record { made_for = with_next; each = added_each; on_record = λ y c v is. added_on_record y c v (read y c v is) };
      }

  -- in one block
  recorded : (m k : Stage) (x b : ℕ) → Grows m.function k.function → IsParameterAmong k.function.values (length m.function.values) → record_of m.state x b ≡ None
      → Records m.state k.state x b (length m.function.values) → Makes before s m → Makes before s k
  recorded m k x b more last none records was =
      added m k x b more last (stay_recorded m.state k.state x b (length m.function.values) none records)
      (written_here m.state k.state x b (length m.function.values) (λ c. c == b) records (grind (arith, common_steps)))
      (written m.state k.state x (length m.function.values) (λ c. c == b) records) was

  -- LOOK-UPS ------------------------------------------------------------------------------------------------------------

  found_makes : (x block : ℕ) (m n : Stage) → Makes before s m → FindsRecord x block m n → Makes before s n
  found_makes x block m n was finds =
      kept m n (subst (Grows m.function) (sym finds.function) (grows_none m.function))
      (copies_stay m.state n.state x finds.value finds.passed finds.copies (walk_unrecorded m.function m.state x finds.passed block finds.reached finds.walks.walk))
      (λ y b v is.
      elim (written m.state n.state x finds.value (λ c. stands_in c finds.passed) finds.copies y b v is) [
        | inl one ↦ (finds.reached, ap (λ z. record_of m.state z finds.reached) one.0 ∙ finds.is_recorded ∙ ap (λ w. Some w) (sym one.1))
        | inr old ↦ (b, old)
      ])
      was

  added_makes : (x : ℕ) (ty : «Type») (block reached : ℕ) (m n : Stage) → Makes before s m → AddsParameter x ty block reached m n → Makes before s n
  added_makes x ty block reached m n was adds =
      let blocks : List ℕ = reached ∷ before_first reached adds.passed in
      added m n x reached (subst (Grows m.function) (sym adds.function) (grows_param m.function reached ty))
      (subst (λ (f : Body). IsParameterAmong f.values (length m.function.values)) (sym adds.function) (parameter_last m.function.values (record { ty = ty; origin = Param reached }) tt))
      (copies_stay m.state n.state x (length m.function.values) blocks adds.copies (none_there adds))
      (written_here m.state n.state x reached (length m.function.values) (λ c. stands_in c blocks) adds.copies (grind (arith, common_steps)))
      (written m.state n.state x (length m.function.values) (λ c. stands_in c blocks) adds.copies) was
    where
      none_there : (adds : AddsParameter x ty block reached m n) → (b : ℕ) → stands_in b (reached ∷ before_first reached adds.passed) ≡ true → record_of m.state x b ≡ None
      none_there adds b there = by (reached == b) refl there
        where
          by : (test : Bool) → (reached == b) ≡ test → (test || stands_in b (before_first reached adds.passed)) ≡ true → record_of m.state x b ≡ None
          by true here now = let same : b ≡ reached = grind (arith, common_steps, here) in ap (record_of m.state x) same ∙ adds.unrecorded
          by false other now =
              walk_unrecorded m.function m.state x (before_first reached adds.passed) block reached
              (walk_first m.function m.state x adds.passed block reached adds.walks.walk) b now

  looks_make : (x : ℕ) (ty : «Type») (block : ℕ) (m n : Stage) → Makes before s m → LooksUp x ty block m n → Makes before s n
  looks_make x ty block m n was (inl finds) = found_makes x block m n was finds
  looks_make x ty block m n was (inr (inl waits)) = added_makes x ty block waits.reached m n was waits.adds
  looks_make x ty block m n was (inr (inr begins)) = added_makes x ty block begins.reached m n was begins.adds

  call_makes : (x : ℕ) (ty : «Type») (m n : Stage) → Makes before s m → MakesCall x ty m n → Makes before s n
  call_makes x ty m n was (inl look) =
      looks_make x ty (branch_block m.function look.branch) (with_calls m look.calls) n (record { values = was.values; makes = was.makes }) look.looks
  call_makes x ty m n was (inr finish) =
      let end = finish.finishes in
      let more : Grows m.function n.function =
      ended_values finish.param finish.block end.value (predecessors_of m.state finish.block) (reverse end.results) end.zeros m.function n.function end.ends in
      same m n more (λ x b. ap (λ (t : SsaState). record_of t x b) end.state) was

  calls_make : (x : ℕ) (ty : «Type») {m n : Stage} → Makes before s m → MakesCalls x ty m n → Makes before s n
  calls_make x ty was none_made = was
  calls_make x ty was (made {n = between} {k = last} first call) = call_makes x ty between last (calls_make x ty was first) call

  completes_makes : (p : Pending) (block : ℕ) (m n : Stage) → Makes before s m
      → CompletesParameter p.variable (value_at m.function p.param).ty p.param block m n → Makes before s n
  completes_makes p block m n was complete =
      let begun : Makes before s complete.begun =
      same m complete.begun (subst (Grows m.function) (sym complete.same_function) (grows_none m.function)) complete.same_records was in
      let done : Makes before s complete.done = calls_make p.variable (value_at m.function p.param).ty begun complete.made in
      subst (Makes before s) (sym complete.next) (record { values = done.values; makes = done.makes })

  all_make : (block : ℕ) (ps : List Pending) (m n : Stage) → Makes before s m → CompletesAll block ps m n → Makes before s n
  all_make block [] m n was none = subst (Makes before s) (sym none) was
  all_make block (p ∷ ps) m n was all = all_make block ps all.0 n (completes_makes p block m all.0 was all.1) all.2

  -- SEALING -------------------------------------------------------------------------------------------------------------

  locally_makes : (f g : Body) (t u : SsaState) (l : LookUpState) (block : ℕ) (answer : SideEffects) → Makes before s (stage f t l)
      → SealsLocally f t g u block (Ok answer) → Makes before s (stage g u l)
  locally_makes f g t u l block answer was seals =
      same (stage f t l) (stage g u l)
      (subst (Grows f) (sym seals.function) (completed_values (pending_of (sealed_of t block)) f)) seals.records was

  looked_up_makes : (f g : Body) (t u : SsaState) (l : LookUpState) (block : ℕ) (told : List ℕ) → Makes before s (stage f t l)
      → SealsByLookUp f t g u block told → Makes before s (stage g u l)
  looked_up_makes f g t u l block told was seals =
      let start : Makes before s (stage f seals.sealed no_look_up) = same (stage f t l) (stage f seals.sealed no_look_up) (grows_none f) seals.records was in
      let done : Makes before s (stage g u seals.look_up) =
      all_make block (pending_of (sealed_of t block)) (stage f seals.sealed no_look_up) (stage g u seals.look_up) start seals.completes in
      record { values = done.values; makes = done.makes }

  seals_make : (f g : Body) (t u : SsaState) (l : LookUpState) (block : ℕ) (answer : SideEffects) → Makes before s (stage f t l)
      → (predecessors_of t block ≡ [] → SealsLocally f t g u block (Ok answer))
      → (predecessors_of t block ≢ [] → SealsByLookUp f t g u block answer.instructions_added_to_blocks.items) → Makes before s (stage g u l)
  seals_make f g t u l block answer was locally looks = by (predecessors_of t block) refl
    where
      by : (branches : List ℕ) → predecessors_of t block ≡ branches → Makes before s (stage g u l)
      by [] alone = locally_makes f g t u l block answer was (locally alone)
      by (i ∷ branches) some = looked_up_makes f g t u l block answer.instructions_added_to_blocks.items was (looks (λ empty. some_none (sym some ∙ empty)))

  below_makes : (f : Body) {n : ℕ} {g : Body} {t : SsaState} {told : List ℕ} (l : LookUpState) → Makes before s (stage f s l) → SealsBelow f s n g t told
      → Makes before s (stage g t l)
  below_makes f l was none_sealed = was
  below_makes f l was (next_sealed {n = n} {g = g} {h = h} {t = t} {u = u} {answer = answer} first seals) =
      seals_make g h t u l n answer (below_makes f l was first) seals.local seals.completes

begins_with : (f : Body) (s : SsaState) (l : LookUpState) → Makes f.values s (stage f s l)
begins_with f s l = record {
  values = omega arith;
  makes = record {
    made_for = λ v. None;
    each = λ v x is. absurd (none-some x is);
    on_record = λ x b v is. inl (b, is);
  };
}

-- WHOLE CALLS -----------------------------------------------------------------------------------------------------------

-- a use of a variable in a block
pub use_makes : (f g : Body) (s t : SsaState) (x : ℕ) (ty : «Type») (b : ℕ) (result : Result (ℕ × SideEffects) BuildError)
    → IfSome (record_of s x b) (λ v. OnOk result ((g ≡ f) × (t ≡ s)) × IfOk result (λ r. (r.0 ≡ v) × (r.1.instructions_added_to_blocks.items ≡ [])))
    → (record_of s x b ≡ None → is_yes (sealed_of s b) ≡ false
    → OnOk result (Waits s t f g x ty b) × IfOk result (λ r. (r.0 ≡ length f.values) × (r.1.instructions_added_to_blocks.items ≡ [])))
    → (record_of s x b ≡ None → is_yes (sealed_of s b) ≡ true → predecessors_of s b ≡ []
    → OnOk result (Zeroes s t f g x ty b) × IfOk result (λ r. (r.0 ≡ length f.values + 1 + steps_before ty) × (r.1.instructions_added_to_blocks.items ≡ b ∷ [])))
    → (record_of s x b ≡ None → is_yes (sealed_of s b) ≡ true → predecessors_of s b ≢ []
    → IfOk result (λ r. UsesVariable x ty b (stage f s no_look_up) r.0 (stage g t (found r.0 r.1.instructions_added_to_blocks.items))))
    → OnOk result (MakesInto f.values g.values s t)
use_makes f g s t x ty b (Err error) known waits zeroes looks = tt
use_makes f g s t x ty b (Ok answer) known waits zeroes looks = into (by (record_of s x b) refl known)
  where
    start : Makes f.values s (stage f s no_look_up)
    start = begins_with f s no_look_up

    param_last : (ty : «Type») → IsParameterAmong (with_param f b ty).values (length f.values)
    param_last ty = parameter_last f.values (record { ty = ty; origin = Param b }) tt

    unsealed : record_of s x b ≡ None → is_yes (sealed_of s b) ≡ false → MakesParameters f.values g.values s t
    unsealed none unclosed =
        let case : Waits s t f g x ty b = (waits none unclosed).0 in
        (recorded f.values s (stage f s no_look_up) (stage g t no_look_up) x b (subst (Grows f) (sym case.function) (grows_param f b ty))
        (subst (λ (h : Body). IsParameterAmong h.values (length f.values)) (sym case.function) (param_last ty)) none case.recorded start).makes

    alone : record_of s x b ≡ None → is_yes (sealed_of s b) ≡ true → predecessors_of s b ≡ [] → MakesParameters f.values g.values s t
    alone none closed no_branch =
        let case : Zeroes s t f g x ty b = (zeroes none closed no_branch).0 in
        let last : Grows (with_param f b ty) (zeroed (with_param f b ty) b (length f.values)) = grows_zeroed (with_param f b ty) b (length f.values) in
        (recorded f.values s (stage f s no_look_up) (stage g t no_look_up) x b
        (subst (Grows f) (sym case.function) (grows_then f (with_param f b ty) (zeroed (with_param f b ty) b (length f.values)) (grows_param f b ty) last))
        (subst (λ (h : Body). IsParameterAmong h.values (length f.values)) (sym case.function) (last.stay (length f.values) (param_last ty))) none case.recorded start).makes

    led : record_of s x b ≡ None → is_yes (sealed_of s b) ≡ true → predecessors_of s b ≢ [] → MakesParameters f.values g.values s t
    led none closed some =
        let case = looks none closed some in
        (calls_make f.values s x ty (looks_make f.values s x ty b (stage f s no_look_up) case.begun start case.looks) case.made).makes

    of_sealed : record_of s x b ≡ None → is_yes (sealed_of s b) ≡ true → (branches : List ℕ) → predecessors_of s b ≡ branches
        → MakesParameters f.values g.values s t
    of_sealed none closed [] is = alone none closed is
    of_sealed none closed (i ∷ branches) is = led none closed (λ empty. some_none (sym is ∙ empty))

    of_block : record_of s x b ≡ None → (sealed : Bool) → is_yes (sealed_of s b) ≡ sealed → MakesParameters f.values g.values s t
    of_block none true closed = of_sealed none closed (predecessors_of s b) refl
    of_block none false unclosed = unsealed none unclosed

    by : (o : Option ℕ) → record_of s x b ≡ o
        → IfSome o (λ v. ((g ≡ f) × (t ≡ s)) × ((answer.0 ≡ v) × (answer.1.instructions_added_to_blocks.items ≡ []))) → MakesParameters f.values g.values s t
    by (Some v) is there =
        subst (λ (h : Body). MakesParameters f.values h.values s t) (sym there.0.0)
        (subst (λ (u : SsaState). MakesParameters f.values f.values s u) (sym there.0.1) start.makes)
    by None none there = of_block none (is_yes (sealed_of s b)) refl

-- a block is sealed
pub seal_makes : (f g : Body) (s t : SsaState) (b : ℕ) (answer : SideEffects) → (predecessors_of s b ≡ [] → SealsLocally f s g t b (Ok answer))
    → (predecessors_of s b ≢ [] → SealsByLookUp f s g t b answer.instructions_added_to_blocks.items) → MakesInto f.values g.values s t
seal_makes f g s t b answer locally looks = into (seals_make f.values s f g s t no_look_up b answer (begins_with f s no_look_up) locally looks).makes

-- all blocks are
pub seal_all_makes : (f g : Body) (s t : SsaState) (n : ℕ) (told : List ℕ) → SealsBelow f s n g t told → MakesInto f.values g.values s t
seal_all_makes f g s t n told below = into (below_makes f.values s f no_look_up (begins_with f s no_look_up) below).makes
