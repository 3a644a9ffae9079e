-- Values that stand for one value go on doing so while a variable is looked up.
use Rattle.std.proofs.Common.{◌≡◌, ℕ, ◌≢◌, ◌<◌, ◌≤◌, ◌+◌, ◌==◌, ◌&&◌, Bool, true, false, List, [], ◌∷◌, ◌++◌, length, refl, ap, arith, sym, ◌∙◌, subst, inl, inr}
use Rattle.std.specs.Prelude.{Some, None, Contains, reverse, Result, Ok, Err, OnOk, IfOk}
use Rattle.std.proofs.lemmas.Grind.{common_steps}
use Rattle.clif_types.specs.declared.error.BuildError.{BuildError}
use Rattle.clif_types.specs.declared.types.«Type».{«Type»}
use Rattle.clif_ir.specs.Body.{Body, block_at, value_at, resolved}
use Rattle.clif_ir.specs.Changes.{with_param, with_alias, with_branch_argument}
use Rattle.clif_ir.specs.Consistent.{IsConsistent}
use Rattle.clif_ir.specs.Reading.{param_home}
use Rattle.clif_instructions.specs.Members.{stands_in}
use Rattle.clif_paths.specs.LookUp.{InList}
use Rattle.clif_records.specs.declared.look_up.Call.{Call}
use Rattle.clif_records.specs.declared.look_up.Call.TheVariants.{UseVar, FinishPredecessorsLookup}
use Rattle.clif_records.specs.declared.side_effects.SideEffects.{SideEffects}
use Rattle.clif_records.specs.declared.tables.Pending.{Pending}
use Rattle.clif_records.specs.Tables.{is_yes, pending_of}
use Rattle.clif_ssa.specs.Ssa.{SsaState, Named, NamesExist, record_of, sealed_of, predecessors_of, zeroed, RecordsStay, Waits, Zeroes, zero_value}
use Rattle.clif_records.specs.Passed.{before_first}
use Rattle.clif_records.specs.Stacks.{LookUpState, no_look_up, calls_for}
use Rattle.clif_ssa.specs.LookUp.{Stage, LooksUp, FinishesLookUp, MakesCall, MakesCalls, none_made, made, CompletesParameter, Copies, with_calls, with_arguments}
use Rattle.clif_ssa.specs.Running.{stage, CompletesAll, MakesAll}
use Rattle.clif_ssa.specs.Sealing.{SealsLocally, SealsByLookUp}
use Rattle.clif_ssa.specs.Structure.{StayAlike, LosesWaiting, Remembers}
use Rattle.clif_ssa.proofs.Bodies.{Firm, firm_from, resolved_twice}
use Rattle.clif_ssa.proofs.Ordering.{contains_cons, contains_first, contains_more, none_contained}
use Rattle.clif_ssa.proofs.Describing.{is_recorded}
use Rattle.clif_ssa.proofs.Parameters.{param_firm, param_resolved, param_count}
use Rattle.clif_ssa.proofs.Zeroing.{CanAlias, alias_resolved, alias_firm}
use Rattle.clif_ssa.proofs.Alike.{zeroed_count, alike_same, alike_then, aliased_alike, Leaves, zeroed_leaves}
use Rattle.clif_ssa.proofs.Losing.{waits_used, zeroes_used, seal_alike, loses_waiting}
use Rattle.clif_ssa.proofs.Public.{something_leads}
use Rattle.clif_ssa.proofs.Framing.{resolved_inside, of_reversed}
use Rattle.clif_ssa.specs.Zeros.{steps_before}

-- calls end look-ups of parameters that are below `n`
pub CallsKnown : ℕ → List Call → Type 0
CallsKnown n [] = Unit {0}
CallsKnown n (UseVar branch ∷ calls) = CallsKnown n calls
CallsKnown n (FinishPredecessorsLookup param block ∷ calls) = (param < n) × CallsKnown n calls

known_more : (n k : ℕ) (calls : List Call) → n ≤ k → CallsKnown n calls → CallsKnown k calls
unfolding CallsKnown
known_more n k [] more known = tt
known_more n k (UseVar branch ∷ calls) more known = known_more n k calls more known
known_more n k (FinishPredecessorsLookup param block ∷ calls) more known = (omega (arith, known.0, more), known_more n k calls more known.1)

known_for : (n : ℕ) (branches : List ℕ) (param block : ℕ) (calls : List Call) → param < n → CallsKnown n calls → CallsKnown n (calls_for branches param block ++ calls)
unfolding CallsKnown
known_for n [] param block calls there known = (there, known)
known_for n (i ∷ branches) param block calls there known = known_for n branches param block calls there known

after_look : (n : ℕ) (all calls : List Call) (branch : ℕ) → all ≡ UseVar branch ∷ calls → CallsKnown n all → CallsKnown n calls
unfolding CallsKnown
after_look n all calls branch is known = subst (CallsKnown n) is known

after_finish : (n : ℕ) (all calls : List Call) (param block : ℕ) → all ≡ FinishPredecessorsLookup param block ∷ calls → CallsKnown n all → (param < n) × CallsKnown n calls
unfolding CallsKnown
after_finish n all calls param block is known = subst (CallsKnown n) is known

-- what a stage names exists
pub record Sane (m : Stage) : Type 0 where
  pub firm : Firm m.function
  pub recorded : (x b v : ℕ) → record_of m.state x b ≡ Some v → v < length m.function.values
  pub results : (r : ℕ) → Contains m.look_up.results r → r < length m.function.values
  pub calls : CallsKnown (length m.function.values) m.look_up.calls

pub record Stays (m n : Stage) : Type 0 where
  pub sane : Sane n
  pub alike : StayAlike m.function n.function
  pub more : length m.function.values ≤ length n.function.values

pub stays_then : (m k n : Stage) → Stays m k → Stays k n → Stays m n
stays_then m k n first next = record { sane = next.sane; alike = alike_then m.function k.function n.function first.alike next.alike; more = omega (arith, first.more, next.more) }

-- what became of the function
record Grown (f g : Body) : Type 0 where
  firm : Firm g
  alike : StayAlike f g
  more : length f.values ≤ length g.values

grown_same : (f g : Body) → Firm f → g ≡ f → Grown f g
grown_same f g firm same = subst (Grown f) (sym same) (record { firm = firm; alike = λ u v is. is; more = omega arith })

grown_param : (f g : Body) (b : ℕ) (ty : «Type») → Firm f → b < length f.blocks → g ≡ with_param f b ty → Grown f g
grown_param f g b ty firm there same =
    subst (Grown f) (sym same) (record { firm = param_firm f b ty firm there; alike = alike_same f (with_param f b ty) (param_resolved f b ty firm); more = omega (arith, param_count f b ty) })

grown_zero : (f g : Body) (b v : ℕ) → Firm f → param_home f v ≡ Some b → g ≡ zeroed f b v → Grown f g
grown_zero f g b v firm is same =
    let left : Leaves f (zeroed f b v) v = zeroed_leaves f b v firm is in
    subst (Grown f) (sym same) (record { firm = left.firm; alike = left.alike; more = omega (arith, zeroed_count f b v) })

grown_alias : (f g : Body) (v w b : ℕ) → Firm f → param_home f v ≡ Some b → w < length f.values → resolved f w ≡ w → w ≢ v → g ≡ with_alias f v w → Grown f g
grown_alias f g v w b firm is exists ends apart same =
    let can : CanAlias f v w b = record { firm = firm; parameter = is; own_end = ends; exists = exists; apart = apart } in
    let count : length (with_alias f v w).values ≡ length f.values = grind (arith, common_steps) in
    subst (Grown f) (sym same) (record {
      firm = alias_firm f v w b can;
      alike = λ u z alike.
          alias_resolved f v w b can u ∙ aliased_alike (λ x. resolved f x) v (resolved f w) u z alike ∙ sym (alias_resolved f v w b can z);
      more = omega (arith, count);
    })

-- arguments change the instructions alone
arguments_leave : (f : Body) (b : ℕ) (branches values : List ℕ) → with_arguments f b branches values ≡ record f { insts = (with_arguments f b branches values).insts }
arguments_leave f b [] values = refl
arguments_leave f b (i ∷ branches) [] = refl
arguments_leave f b (i ∷ branches) (v ∷ values) = arguments_leave (with_branch_argument f i b v) b branches values

grown_arguments : (f g : Body) (b : ℕ) (branches values : List ℕ) → Firm f → g ≡ with_arguments f b branches values → Grown f g
grown_arguments f g b branches values firm same =
    subst (Grown f) (sym (same ∙ arguments_leave f b branches values)) (record {
      firm = record { leads = firm.leads; ends = firm.ends; homes_exist = firm.homes_exist; stands = firm.stands; params_exist = firm.params_exist };
      alike = λ u v is. is;
      more = omega arith;
    })

-- one more value is recorded for a variable
copied_sane : (s t : SsaState) (x v : ℕ) (blocks : List ℕ) (n k : ℕ) → Copies s t x v blocks → n ≤ k → v < k
    → ((y b w : ℕ) → record_of s y b ≡ Some w → w < n) → (y b w : ℕ) → record_of t y b ≡ Some w → w < k
copied_sane s t x v blocks n k copies more there known y b w is =
    elim (is_recorded (y == x && stands_in b blocks) v w (record_of s y b) (sym (copies y b) ∙ is)) [
      | inl one ↦ omega (arith, one, there)
      | inr old ↦ omega (arith, known y b w old, more)
    ]

pushed_sane : (results : List ℕ) (v n k : ℕ) → n ≤ k → v < k → ((r : ℕ) → Contains results r → r < n) → (r : ℕ) → Contains (v ∷ results) r → r < k
pushed_sane results v n k more there known r here =
    elim (contains_cons v results r here) [
      | inl one ↦ omega (arith, one, there)
      | inr old ↦ omega (arith, known r old, more)
    ]

in_left : (xs ys : List ℕ) (r : ℕ) → InList xs r → Contains (xs ++ ys) r
in_left [] ys r none = absurd none
in_left (x ∷ xs) ys r (inl first) = subst (λ z. Contains (x ∷ (xs ++ ys)) z) (sym first) (contains_first x (xs ++ ys))
in_left (x ∷ xs) ys r (inr later) = contains_more x (xs ++ ys) r (in_left xs ys r later)

in_right : (xs ys : List ℕ) (r : ℕ) → Contains ys r → Contains (xs ++ ys) r
in_right [] ys r here = here
in_right (x ∷ xs) ys r here = contains_more x (xs ++ ys) r (in_right xs ys r here)

-- LOOK-UPS --------------------------------------------------------------------------------------------------------

pub looks_stay : (x : ℕ) (ty : «Type») (block : ℕ) (m n : Stage) → LooksUp x ty block m n → Sane m → Stays m n
looks_stay x ty block m n looks sane =
    elim looks [
      | inl finds ↦
          let grown : Grown m.function n.function = grown_same m.function n.function sane.firm finds.function in
          let there : finds.value < length n.function.values = omega (arith, sane.recorded x finds.reached finds.value finds.is_recorded, grown.more) in
          record {
            alike = grown.alike;
            more = grown.more;
            sane = record {
              firm = grown.firm;
              recorded = copied_sane m.state n.state x finds.value finds.passed (length m.function.values) (length n.function.values) finds.copies grown.more there sane.recorded;
              results = subst (λ (l : LookUpState). (r : ℕ) → Contains l.results r → r < length n.function.values) (sym finds.look_up)
                  (pushed_sane m.look_up.results finds.value (length m.function.values) (length n.function.values) grown.more there sane.results);
              calls = subst (λ (l : LookUpState). CallsKnown (length n.function.values) l.calls) (sym finds.look_up)
                  (known_more (length m.function.values) (length n.function.values) m.look_up.calls grown.more sane.calls);
            };
          }
      | inr adds ↦
          elim adds [
            | inl waits ↦
                let grown : Grown m.function n.function = grown_param m.function n.function waits.reached ty sane.firm (waits.adds).exists (waits.adds).function in
                let there : length m.function.values < length n.function.values = new_there waits.reached (waits.adds).function in
                record {
                  alike = grown.alike;
                  more = grown.more;
                  sane = record {
                    firm = grown.firm;
                    recorded = copied_sane m.state n.state x (length m.function.values) (waits.reached ∷ before_first waits.reached (waits.adds).passed) (length m.function.values) (length n.function.values) (waits.adds).copies grown.more there sane.recorded;
                    results = subst (λ (l : LookUpState). (r : ℕ) → Contains l.results r → r < length n.function.values) (sym waits.look_up)
                        (pushed_sane m.look_up.results (length m.function.values) (length m.function.values) (length n.function.values) grown.more there sane.results);
                    calls = subst (λ (l : LookUpState). CallsKnown (length n.function.values) l.calls) (sym waits.look_up)
                        (known_more (length m.function.values) (length n.function.values) m.look_up.calls grown.more sane.calls);
                  };
                }
            | inr begins ↦
                let grown : Grown m.function n.function = grown_param m.function n.function begins.reached ty sane.firm (begins.adds).exists (begins.adds).function in
                let there : length m.function.values < length n.function.values = new_there begins.reached (begins.adds).function in
                record {
                  alike = grown.alike;
                  more = grown.more;
                  sane = record {
                    firm = grown.firm;
                    recorded = copied_sane m.state n.state x (length m.function.values) (begins.reached ∷ before_first begins.reached (begins.adds).passed) (length m.function.values) (length n.function.values) (begins.adds).copies grown.more there sane.recorded;
                    results = subst (λ (l : LookUpState). (r : ℕ) → Contains l.results r → r < length n.function.values) (sym (begins.begins).look_up)
                        (λ r here. omega (arith, sane.results r here, grown.more));
                    calls = subst (λ (l : LookUpState). CallsKnown (length n.function.values) l.calls) (sym (begins.begins).look_up)
                        (known_for (length n.function.values) (predecessors_of m.state begins.reached) (length m.function.values) begins.reached m.look_up.calls there
                        (known_more (length m.function.values) (length n.function.values) m.look_up.calls grown.more sane.calls));
                  };
                }
          ]
    ]
  where
    new_there : (b : ℕ) → n.function ≡ with_param m.function b ty → length m.function.values < length n.function.values
    new_there b is = let count : length n.function.values ≡ length m.function.values + 1 = ap (λ (f : Body). length f.values) is ∙ param_count m.function b ty in omega (arith, count)

-- what a look-up's end makes of the function, and its answer exists there
record Answers (f g : Body) (value : ℕ) : Type 0 where
  grown : Grown f g
  there : value < length g.values

pub result_exists : (param block : ℕ) (m n : Stage) (finishes : FinishesLookUp param block m n) → Sane m
    → (r : ℕ) → Contains (reverse finishes.results) r → r < length m.function.values
result_exists param block m n finishes sane r here =
    sane.results r
    (subst (λ rs. Contains rs r) (sym finishes.taken) (in_left finishes.results finishes.others r (of_reversed finishes.results r here)))

pub finishes_stay : (param block : ℕ) (m n : Stage) → FinishesLookUp param block m n → param < length m.function.values → Sane m → Stays m n
finishes_stay param block m n finishes exists sane =
    let f : Body = m.function in
    let answers : Answers f n.function finishes.value =
    elim finishes.ends [
      | inl none ↦
          let grown : Grown f n.function = grown_same f n.function sane.firm none.function in
          record { grown = grown; there = omega (arith, exists, grown.more, none.answer) }
      | inr ends ↦
          elim ends.2 [
            | inl zero ↦
                let grown : Grown f n.function = grown_zero f n.function ends.0 param sane.firm ends.1 zero.function in
                let count : length n.function.values ≡ zero_value f (value_at f param).ty + 1 = ap (λ (g : Body). length g.values) zero.function ∙ zeroed_count f ends.0 param in
                record { grown = grown; there = omega (arith, count, zero.answer) }
            | inr more ↦
                elim more [
                  | inl value ↦
                      let r : ℕ = value.one.comes.0 in
                      let inside : r < length f.values = result_exists param block m n finishes sane r value.one.comes.1 in
                      let is : resolved f r ≡ finishes.value = value.one.comes.2 in
                      let there : finishes.value < length f.values = omega (arith, resolved_inside f r sane.firm inside, is) in
                      let own_end : resolved f finishes.value ≡ finishes.value = ap (λ v. resolved f v) (sym is) ∙ resolved_twice f sane.firm r ∙ is in
                      let grown : Grown f n.function = grown_alias f n.function param finishes.value ends.0 sane.firm ends.1 there own_end value.one.other value.function in
                      record { grown = grown; there = omega (arith, there, grown.more) }
                  | inr parameter ↦
                      let grown : Grown f n.function = grown_arguments f n.function block (predecessors_of m.state block) (reverse finishes.results) sane.firm parameter.function in
                      record { grown = grown; there = omega (arith, exists, grown.more, parameter.answer) }
                ]
          ]
    ] in
    let more : length f.values ≤ length n.function.values = answers.grown.more in
    record {
      alike = answers.grown.alike;
      more = more;
      sane = record {
        firm = answers.grown.firm;
        recorded = λ x b v is.
            let was : v < length f.values = sane.recorded x b v (ap (λ s. record_of s x b) (sym finishes.state) ∙ is) in
            omega (arith, was, more);
        results = subst (λ (l : LookUpState). (r : ℕ) → Contains l.results r → r < length n.function.values) (sym finishes.look_up)
            (pushed_sane finishes.others finishes.value (length f.values) (length n.function.values) more answers.there other_exists);
        calls = subst (λ (l : LookUpState). CallsKnown (length n.function.values) l.calls) (sym finishes.look_up)
            (known_more (length f.values) (length n.function.values) m.look_up.calls more sane.calls);
      };
    }
  where
    other_exists : (r : ℕ) → Contains finishes.others r → r < length m.function.values
    other_exists r here = sane.results r (subst (λ rs. Contains rs r) (sym finishes.taken) (in_right finishes.results finishes.others r here))

-- CALLS -----------------------------------------------------------------------------------------------------------

sane_with : (m : Stage) (calls : List Call) → Sane m → CallsKnown (length m.function.values) calls → Sane (with_calls m calls)
sane_with m calls sane known = record { firm = sane.firm; recorded = sane.recorded; results = sane.results; calls = known }

-- once the end of a look-up is taken from the calls
pub known_next : (m : Stage) (param block : ℕ) (calls : List Call) → m.look_up.calls ≡ FinishPredecessorsLookup param block ∷ calls → Sane m → Sane (with_calls m calls)
known_next m param block calls is sane = sane_with m calls sane (after_finish (length m.function.values) m.look_up.calls calls param block is sane.calls).1

pub call_stays : (x : ℕ) (ty : «Type») (m n : Stage) → MakesCall x ty m n → Sane m → Stays m n
call_stays x ty m n (inl look) sane =
    let done : Stays (with_calls m look.calls) n =
    looks_stay x ty _ (with_calls m look.calls) n look.looks (sane_with m look.calls sane (after_look (length m.function.values) m.look_up.calls look.calls look.branch look.is_next sane.calls)) in
    record { sane = done.sane; alike = done.alike; more = done.more }
call_stays x ty m n (inr finish) sane =
    let known : (finish.param < length m.function.values) × CallsKnown (length m.function.values) finish.calls =
    after_finish (length m.function.values) m.look_up.calls finish.calls finish.param finish.block finish.is_next sane.calls in
    let done : Stays (with_calls m finish.calls) n = finishes_stay finish.param finish.block (with_calls m finish.calls) n finish.finishes known.0 (sane_with m finish.calls sane known.1) in
    record { sane = done.sane; alike = done.alike; more = done.more }

pub calls_stay : (x : ℕ) (ty : «Type») {m n : Stage} → MakesCalls x ty m n → Sane m → Stays m n
calls_stay x ty {m = m} none_made sane = record { sane = sane; alike = λ u v is. is; more = omega arith }
calls_stay x ty {m = m} (made {n = between} {k = last} first call) sane =
    let before : Stays m between = calls_stay x ty first sane in
    stays_then m between last before (call_stays x ty between last call before.sane)

-- a parameter that waited is completed
pub completes_stay : (x : ℕ) (ty : «Type») (param block : ℕ) (m n : Stage) → CompletesParameter x ty param block m n → param < length m.function.values → Sane m → Stays m n
completes_stay x ty param block m n complete there sane =
    let begun : Stage = complete.begun in
    let first : Stays m begun = by begun.function complete.same_function in
    let last : Stays begun complete.done = calls_stay x ty complete.made first.sane in
    let both : Stays m complete.done = stays_then m begun complete.done first last in
    subst (Stays m) (sym complete.next) (record {
      alike = both.alike;
      more = both.more;
      sane = record { firm = both.sane.firm; recorded = both.sane.recorded; results = λ r here. absurd (omega (arith, here.1)); calls = both.sane.calls };
    })
  where
    by : (g : Body) → g ≡ m.function → Stays m complete.begun
    by g same =
        let grown : Grown m.function complete.begun.function = grown_same m.function complete.begun.function sane.firm complete.same_function in
        record {
          alike = grown.alike;
          more = grown.more;
          sane = record {
            firm = grown.firm;
            recorded = λ y b v is.
                let was : v < length m.function.values = sane.recorded y b v (sym (complete.same_records y b) ∙ is) in
                omega (arith, was, grown.more);
            results = subst (λ (l : LookUpState). (r : ℕ) → Contains l.results r → r < length complete.begun.function.values) (sym complete.begins.look_up)
                (λ r here. omega (arith, sane.results r here, grown.more));
            calls = subst (λ (l : LookUpState). CallsKnown (length complete.begun.function.values) l.calls) (sym complete.begins.look_up)
                (known_for (length complete.begun.function.values) (predecessors_of m.state block) param block m.look_up.calls (omega (arith, there, grown.more))
                (known_more (length m.function.values) (length complete.begun.function.values) m.look_up.calls grown.more sane.calls));
          };
        }

-- all that waited in a block is completed
pub all_stay : (block : ℕ) (ps : List Pending) (m n : Stage) → CompletesAll block ps m n → ((p : Pending) → Contains ps p → p.param < length m.function.values) → Sane m → Stays m n
all_stay block [] m n same there sane = subst (Stays m) (sym same) (record { sane = sane; alike = λ u v is. is; more = omega arith })
all_stay block (p ∷ ps) m n all there sane =
    let first : Stays m all.0 = completes_stay p.variable (value_at m.function p.param).ty p.param block m all.0 all.1 (there p (contains_first p ps)) sane in
    stays_then m all.0 n first
    (all_stay block ps all.0 n all.2 (λ q here. omega (arith, there q (contains_more p ps q here), first.more)) first.sane)

-- THE CLAUSES -----------------------------------------------------------------------------------------------------

no_calls_known : (n : ℕ) → CallsKnown n []
unfolding CallsKnown
no_calls_known n = tt

pub sane_first : (f : Body) (s : SsaState) (l : LookUpState) → l ≡ no_look_up → IsConsistent f → NamesExist f s → Sane (stage f s l)
sane_first f s l nothing known named = subst (λ k. Sane (stage f s k)) (sym nothing) (record {
  firm = firm_from f known;
  recorded = named.recorded;
  results = λ r here. absurd (none_contained r here);
  calls = no_calls_known (length f.values);
})

-- a use that looks a variable up
pub use_alike : (x : ℕ) (ty : «Type») (b : ℕ) (f h g : Body) (s r t : SsaState) (first begun last : LookUpState) (value : ℕ) → first ≡ no_look_up → IsConsistent f → NamesExist f s
    → LooksUp x ty b (stage f s first) (stage h r begun) → MakesAll x ty (stage h r begun) value (stage g t last) → StayAlike f g
use_alike x ty b f h g s r t first begun last value nothing known named looks all =
    let looked : Stays (stage f s first) (stage h r begun) = looks_stay x ty b (stage f s first) (stage h r begun) looks (sane_first f s first nothing known named) in
    let done : Stays (stage f s first) all.last = stays_then (stage f s first) (stage h r begun) all.last looked (calls_stay x ty all.made looked.sane) in
    subst (λ k. StayAlike f k) (sym all.function) done.alike

-- a use in a block that is unsealed, or to which no branch leads
pub local_remembers : (f g : Body) (s t : SsaState) (x : ℕ) (ty : «Type») (b y c : ℕ) {E : Type 0} (result : Result (ℕ × SideEffects) E)
    → IsConsistent f → b < length f.blocks → record_of s x b ≡ None
    → (is_yes (sealed_of s b) ≡ false → OnOk result (Waits s t f g x ty b) × IfOk result (λ r. (r.0 ≡ length f.values) × (r.1.instructions_added_to_blocks.items ≡ [])))
    → (is_yes (sealed_of s b) ≡ true → OnOk result (Zeroes s t f g x ty b) × IfOk result (λ r. (r.0 ≡ length f.values + 1 + steps_before ty) × (r.1.instructions_added_to_blocks.items ≡ b ∷ [])))
    → OnOk result (Remembers y c f s g t)
local_remembers f g s t x ty b y c (Err error) known there none waits zeroes = tt
local_remembers f g s t x ty b y c (Ok r) known there none waits zeroes = by (is_yes (sealed_of s b)) refl
  where
    by : (sealed : Bool) → is_yes (sealed_of s b) ≡ sealed → Remembers y c f s g t
    by true sealed = (zeroes_used f g s t x b ty known there none (zeroes sealed).0).remembers y c
    by false unsealed = (waits_used f g s t x b ty known none unsealed (waits unsealed).0).remembers y c

-- a sealing, whether a branch leads to the block or none does
pub seal_remembers : (x c : ℕ) (f g : Body) (s t : SsaState) (b : ℕ) (result : Result SideEffects BuildError) → IsConsistent f → Named f s → RecordsStay s t
    → (predecessors_of s b ≡ [] → SealsLocally f s g t b result)
    → (predecessors_of s b ≢ [] → IfOk result (λ r. SealsByLookUp f s g t b r.instructions_added_to_blocks.items))
    → OnOk result (Remembers x c f s g t)
seal_remembers x c f g s t b (Err error) known named stay locally looks = tt
seal_remembers x c f g s t b (Ok r) known named stay locally looks = by (predecessors_of s b) refl
  where
    some_none : {i : ℕ} {is : List ℕ} → ◌≡◌ {A = List ℕ} (i ∷ is) [] → ⊥
    some_none same = cc

    by : (branches : List ℕ) → predecessors_of s b ≡ branches → Remembers x c f s g t
    by [] alone =
        let case : SealsLocally f s g t b (Ok r) = locally alone in
        record { recorded = stay x c; alike = seal_alike f g (pending_of (sealed_of s b)) known case.function }
    by (i ∷ branches) some =
        let leads : predecessors_of s b ≢ [] = λ empty. some_none (sym some ∙ empty) in
        let case : SealsByLookUp f s g t b r.instructions_added_to_blocks.items = looks leads in
        let exist : NamesExist f s = named (something_leads s b leads) in
        let start : Sane (stage f s no_look_up) = sane_first f s no_look_up refl known exist in
        let sane : Sane (stage f case.sealed no_look_up) = record {
          firm = start.firm;
          recorded = λ y d v is. exist.recorded y d v (sym (case.records y d) ∙ is);
          results = start.results;
          calls = start.calls;
        } in
        record {
          recorded = stay x c;
          alike = (all_stay b (pending_of (sealed_of s b)) (stage f case.sealed no_look_up) (stage g t case.look_up) case.completes (exist.waiting b) sane).alike;
        }

-- two sealings in turn
pub remembers_then : (x c : ℕ) (f g h : Body) (s t u : SsaState) → Remembers x c f s g t → Remembers x c g t h u → Remembers x c f s h u
remembers_then x c f g h s t u first next = record {
  recorded = λ v is. next.recorded v (first.recorded v is);
  alike = alike_then f g h first.alike next.alike;
}

-- WHERE NOTHING LEADS TO THE BLOCK --------------------------------------------------------------------------------

-- a use in a sealed block leaves the parameters of all blocks
pub local_leaves : (f g : Body) (s t : SsaState) (x : ℕ) (ty : «Type») (b : ℕ) {E : Type 0} (result : Result (ℕ × SideEffects) E)
    → IsConsistent f → b < length f.blocks → record_of s x b ≡ None → is_yes (sealed_of s b) ≡ true
    → (is_yes (sealed_of s b) ≡ true → OnOk result (Zeroes s t f g x ty b) × IfOk result (λ r. (r.0 ≡ length f.values + 1 + steps_before ty) × (r.1.instructions_added_to_blocks.items ≡ b ∷ [])))
    → OnOk result ((c : ℕ) → (block_at g c).params ≡ (block_at f c).params)
local_leaves f g s t x ty b (Err error) known there none sealed zeroes = tt
local_leaves f g s t x ty b (Ok r) known there none sealed zeroes = (zeroes_used f g s t x b ty known there none (zeroes sealed).0).params sealed

pub seal_loses : (f g : Body) (s t : SsaState) (b : ℕ) (result : Result SideEffects BuildError) → IsConsistent f → IsConsistent g → SealsLocally f s g t b result
    → OnOk result (LosesWaiting f g (pending_of (sealed_of s b)))
seal_loses f g s t b (Err error) known known' seals = tt
seal_loses f g s t b (Ok r) known known' seals = loses_waiting f g (pending_of (sealed_of s b)) known known' seals.function
