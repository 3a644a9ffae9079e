-- What is kept as calls are made, and why they end.
use Rattle.std.proofs.Common.{◌≡◌, ℕ, zero, suc, ◌<◌, ◌≤◌, ◌+◌, ◌-◌, ◌==◌, ◌&&◌, Bool, true, false, List, [], ◌∷◌, ◌++◌, length, get_or, refl, ap, arith, sym, ◌∙◌, subst, ◌⊎◌, inl, inr}
use Rattle.std.specs.Prelude.{Option, Some, None, Result, Ok, Err, OnOk, IfOk, Contains, EachIndex, slice_index, map, if◌then◌else◌}
use Rattle.std.proofs.lemmas.Grind.{common_steps}
use Rattle.std.proofs.lemmas.Bool.{cases_eq}
use Rattle.clif_types.specs.declared.error.BuildError.{BuildError}
use Rattle.clif_types.specs.declared.types.«Type».{«Type»}
use Rattle.clif_ir.specs.Body.{Body, value_at}
use Rattle.clif_ir.specs.Changes.{with_param}
use Rattle.clif_instructions.specs.Members.{stands_in}
use Rattle.clif_records.specs.declared.look_up.Call.{Call}
use Rattle.clif_records.specs.declared.look_up.Call.TheVariants.{UseVar, FinishPredecessorsLookup}
use Rattle.clif_records.specs.Tables.{No, is_yes, pending_of}
use Rattle.clif_ssa.specs.Ssa.{SsaState, record_of, sealed_of, predecessors_of, NamesExist, HasMore, Records, SameBlocks, SameLookups, SamePredecessors, CountsLookup}
use Rattle.clif_records.specs.Stacks.{LookUpState, calls_for}
use Rattle.clif_ssa.specs.LookUp.{Stage, Copies, LooksUp, FinishesLookUp, MakesCall, branch_block, with_calls}
use Rattle.clif_ssa.specs.Running.{stage, with_call, CallExists, Balances, CallsFit, work_at, work_below, work_of, Got}
use Rattle.clif_records.specs.Tracking.{with_binding}
use Rattle.clif_ssa.proofs.Making.{got_added}
use Rattle.clif_ssa.proofs.ZeroSteps.{param_type}
use Rattle.clif_records.proofs.Copying.{get_or-inside}

none_some : {x : ℕ} → ◌≡◌ {A = Option ℕ} None (Some x) → ⊥
none_some same = cc

-- a new parameter, as the clauses of the code say it
pub added : (x : ℕ) (ty : «Type») (block : ℕ) (f g : Body) (s t : SsaState) (l l' : LookUpState) (answer : Result ℕ BuildError)
    → record_of s x block ≡ None
    → IfOk answer (λ v. v ≡ length f.values)
    → OnOk answer (g ≡ with_param f block ty)
    → OnOk answer (Records s t x block (length f.values))
    → OnOk answer (t.tracking ≡ with_binding s.tracking x (length f.values))
    → SamePredecessors s t
    → (is_yes (sealed_of s block) ≡ false → OnOk answer (((b : ℕ) → sealed_of t b ≡ (if b == block then No (pending_of (sealed_of s b) ++ record { variable = x; param = length f.values } ∷ []) else sealed_of s b)) × SameLookups s t × (l' ≡ record l { results = length f.values ∷ l.results })))
    → (is_yes (sealed_of s block) ≡ true → OnOk answer (SameBlocks s t × CountsLookup s t x block × (l' ≡ record l { calls = calls_for (predecessors_of s block) (length f.values) block ++ l.calls })))
    → IfOk answer (λ r. Got x ty block r (stage f s l) (stage g t l'))
added x ty block f g s t l l' (Err e) none number function recorded tracking same waits begins = tt
added x ty block f g s t l l' (Ok v) none number function recorded tracking same waits begins =
    got_added x ty block v (stage f s l) (stage g t l') none number
    (record {
      function = function;
      recorded = recorded;
      tracking = tracking;
      predecessors = same;
      waits = waits;
      begins = λ sealed. ((begins sealed).0, record { counted = (begins sealed).1; look_up = (begins sealed).2 });
    })

-- BALANCE ---------------------------------------------------------------------------------------------------------

pub balances-same : (s t : SsaState) (calls : List Call) (results : ℕ) → SamePredecessors s t → Balances s calls results → Balances t calls results
balances-same s t [] results same balances = balances
balances-same s t (UseVar branch ∷ calls) results same balances = balances-same s t calls (suc results) same balances
balances-same s t (FinishPredecessorsLookup param block ∷ calls) results same balances =
    let count : length (predecessors_of t block) ≡ length (predecessors_of s block) = ap length (same block) in (
      omega (arith, balances.0, count),
      subst (λ n. Balances t calls (suc (results - n))) (sym count) (balances-same s t calls (suc (results - length (predecessors_of s block))) same balances.1),
    )

looks_balance : (s : SsaState) (branches : List ℕ) (calls : List Call) (results : ℕ) → Balances s calls (results + length branches) → Balances s (map UseVar branches ++ calls) results
looks_balance s [] calls results balances = let same : results + 0 ≡ results = omega arith in subst (λ n. Balances s calls n) same balances
looks_balance s (branch ∷ branches) calls results balances =
    let same : results + length (branch ∷ branches) ≡ suc results + length branches = omega arith in
    looks_balance s branches calls (suc results) (subst (λ n. Balances s calls n) same balances)

append-assoc : {A : Type 0} (xs ys zs : List A) → (xs ++ ys) ++ zs ≡ xs ++ (ys ++ zs)
append-assoc [] ys zs = refl
append-assoc (x ∷ xs) ys zs = ap (λ ws. x ∷ ws) (append-assoc xs ys zs)

pub begun-balance : (s : SsaState) (param block : ℕ) (calls : List Call) (results : ℕ) → Balances s calls (suc results)
    → Balances s (calls_for (predecessors_of s block) param block ++ calls) results
begun-balance s param block calls results balances =
    let n : ℕ = length (predecessors_of s block) in
    let back : suc (results + n - n) ≡ suc results = omega arith in
    subst (λ all. Balances s all results) (sym (append-assoc (map UseVar (predecessors_of s block)) (FinishPredecessorsLookup param block ∷ []) calls))
    (looks_balance s (predecessors_of s block) (FinishPredecessorsLookup param block ∷ calls) results
    (omega arith, subst (λ k. Balances s calls k) (sym back) balances))

-- FITTING ---------------------------------------------------------------------------------------------------------

contains_tail : (call : Call) (calls : List Call) (c : Call) → Contains calls c → Contains (call ∷ calls) c
contains_tail call calls c (k, inside, at) = (suc k, omega (arith, inside), at)

contains_parts : (xs ys : List Call) (c : Call) → Contains (xs ++ ys) c → Contains xs c ⊎ Contains ys c
contains_parts [] ys c here = inr here
contains_parts (x ∷ xs) ys c (zero, inside, at) = inl (0, omega arith, at)
contains_parts (x ∷ xs) ys c (suc k, inside, at) =
    elim (contains_parts xs ys c (k, omega (arith, inside), at)) [ inl here ↦ inl (contains_tail x xs c here) | inr later ↦ inr later ]

contains_looks : (branches : List ℕ) (c : Call) → Contains (map UseVar branches) c → (i : ℕ) × Contains branches i × (UseVar i ≡ c)
contains_looks [] c (k, inside, at) = absurd (omega (arith, inside))
contains_looks (i ∷ branches) c (zero, inside, at) = (i, (0, omega arith, refl), at)
contains_looks (i ∷ branches) c (suc k, inside, at) =
    let rest = contains_looks branches c (k, omega (arith, inside), at) in
    (rest.0, (suc (rest.1).0, omega (arith, (rest.1).1), (rest.1).2), rest.2)

-- each value keeps its type
abbrev pub KeepsTypes : Body → Body → Type 0
KeepsTypes f g = (v : ℕ) → v < length f.values → (v < length g.values) × ((value_at g v).ty ≡ (value_at f v).ty)

call-exists : (ty : «Type») (f g : Body) (call : Call) → HasMore f g → KeepsTypes f g → CallExists ty f call → CallExists ty g call
call-exists ty f g (UseVar branch) more typed there = omega (arith, there, more.insts)
call-exists ty f g (FinishPredecessorsLookup param block) more typed there = let kept = typed param there.0 in (kept.0, kept.1 ∙ there.1)

results-kept : (f g : Body) (results : List ℕ) → HasMore f g → EachIndex results (λ k. slice_index results k < length f.values) → EachIndex results (λ k. slice_index results k < length g.values)
results-kept f g results more each k inside = omega (arith, each k inside, more.values)

result-first : (f g : Body) (value : ℕ) (results : List ℕ) → HasMore f g → value < length g.values → EachIndex results (λ k. slice_index results k < length f.values)
    → EachIndex (value ∷ results) (λ k. slice_index (value ∷ results) k < length g.values)
result-first f g value results more there each zero inside = there
result-first f g value results more there each (suc k) inside = omega (arith, each k (omega (arith, inside)), more.values)

inside_more : (f : Body) (b : ℕ) (ty : «Type») → length f.values < length (with_param f b ty).values
inside_more f b ty = grind (arith, common_steps)

-- what is left once the next call, a look-up, is taken
pub record Popped (ty : «Type») (m : Stage) : Type 0 where
  pub calls : (call : Call) → Contains m.look_up.calls call → CallExists ty m.function call
  pub results : EachIndex m.look_up.results (λ k. slice_index m.look_up.results k < length m.function.values)
  pub balances : Balances m.state m.look_up.calls (suc (length m.look_up.results))

pub look-fits : (x : ℕ) (ty : «Type») (block : ℕ) (m n : Stage) → LooksUp x ty block m n → NamesExist m.function m.state → HasMore m.function n.function
    → KeepsTypes m.function n.function → SamePredecessors m.state n.state → Popped ty m → CallsFit ty n.function n.state n.look_up
look-fits x ty block m n looks named more typed same popped =
    elim looks [
      | inl finds ↦ subst (λ l. CallsFit ty n.function n.state l) (sym finds.look_up)
          (pushed finds.value (omega (arith, named.recorded x finds.reached finds.value finds.is_recorded, more.values)))
      | inr later ↦
          elim later [
            | inl waits ↦ subst (λ l. CallsFit ty n.function n.state l) (sym waits.look_up) (pushed (length m.function.values) (new_there waits.reached (waits.adds).function))
            | inr begins ↦ subst (λ l. CallsFit ty n.function n.state l) (sym (begins.begins).look_up) (begun begins.reached (new_there begins.reached (begins.adds).function, new_type begins.reached (begins.adds).function))
          ]
    ]
  where
    new_there : (b : ℕ) → n.function ≡ with_param m.function b ty → length m.function.values < length n.function.values
    new_there b is = let same_count : length n.function.values ≡ length (with_param m.function b ty).values = ap (λ (f : Body). length f.values) is in omega (arith, inside_more m.function b ty, same_count)

    new_type : (b : ℕ) → n.function ≡ with_param m.function b ty → (value_at n.function (length m.function.values)).ty ≡ ty
    new_type b is = ap (λ (f : Body). (value_at f (length m.function.values)).ty) is ∙ param_type m.function b ty

    pushed : (value : ℕ) → value < length n.function.values → CallsFit ty n.function n.state (record m.look_up { results = value ∷ m.look_up.results })
    pushed value there = record {
      calls = λ call here. call-exists ty m.function n.function call more typed (popped.calls call here);
      results = result-first m.function n.function value m.look_up.results more there popped.results;
      balances = balances-same m.state n.state m.look_up.calls (suc (length m.look_up.results)) same popped.balances;
    }

    begun : (b : ℕ) → CallExists ty n.function (FinishPredecessorsLookup (length m.function.values) b)
        → CallsFit ty n.function n.state (record m.look_up { calls = calls_for (predecessors_of m.state b) (length m.function.values) b ++ m.look_up.calls })
    begun b there = record {
      calls = λ call here.
          elim (contains_parts (calls_for (predecessors_of m.state b) (length m.function.values) b) m.look_up.calls call here) [
            | inl first ↦
                elim (contains_parts (map UseVar (predecessors_of m.state b)) (FinishPredecessorsLookup (length m.function.values) b ∷ []) call first) [
                  | inl look ↦
                      let at = contains_looks (predecessors_of m.state b) call look in
                      subst (λ c. CallExists ty n.function c) at.2 (omega (arith, named.leading b at.0 at.1, more.insts))
                  | inr last ↦ subst (λ c. CallExists ty n.function c) (only call last) there
                ]
            | inr old ↦ call-exists ty m.function n.function call more typed (popped.calls call old)
          ];
      results = results-kept m.function n.function m.look_up.results more popped.results;
      balances = balances-same m.state n.state (calls_for (predecessors_of m.state b) (length m.function.values) b ++ m.look_up.calls) (length m.look_up.results) same
          (begun-balance m.state (length m.function.values) b m.look_up.calls (length m.look_up.results) popped.balances);
    }
      where
        only : (call : Call) → Contains (FinishPredecessorsLookup (length m.function.values) b ∷ []) call → FinishPredecessorsLookup (length m.function.values) b ≡ call
        only call (zero, inside, at) = at
        only call (suc k, inside, at) = absurd (omega (arith, inside))

-- the parameter whose look-up ends next exists, and has the variable's type
pub next_typed : (ty : «Type») (f : Body) (s : SsaState) (l : LookUpState) (call : Call) (param block : ℕ) → call ≡ FinishPredecessorsLookup param block
    → CallsFit ty f s (with_call call l) → CallExists ty f (FinishPredecessorsLookup param block)
next_typed ty f s l call param block is fits = subst (CallExists ty f) is (fits.calls call (0, omega arith, refl))

-- the next call is taken
pub popped-look : (ty : «Type») (f : Body) (s : SsaState) (branch : ℕ) (l : LookUpState) → CallsFit ty f s (with_call (UseVar branch) l) → Popped ty (stage f s l)
popped-look ty f s branch l fits = record {
  calls = λ call here. fits.calls call (contains_tail (UseVar branch) l.calls call here);
  results = fits.results;
  balances = fits.balances;
}

pub finish-fits : (ty : «Type») (param block : ℕ) (m n : Stage) → FinishesLookUp param block m n → HasMore m.function n.function → KeepsTypes m.function n.function
    → EachIndex n.look_up.results (λ k. slice_index n.look_up.results k < length n.function.values)
    → CallsFit ty m.function m.state (with_call (FinishPredecessorsLookup param block) m.look_up) → CallsFit ty n.function n.state n.look_up
finish-fits ty param block m n finishes more typed exist fits =
    let p : ℕ = length (predecessors_of m.state block) in
    let total : length m.look_up.results ≡ length finishes.results + length finishes.others = ap length finishes.taken ∙ grind (arith, common_steps) in
    let left : length finishes.others ≡ length m.look_up.results - p = omega (arith, total, finishes.count) in
    let after : LookUpState = record { calls = m.look_up.calls; results = finishes.value ∷ finishes.others; zeros = m.look_up.zeros ++ finishes.zeros } in
    record {
      calls = λ call here.
          call-exists ty m.function n.function call more typed
          (fits.calls call (contains_tail (FinishPredecessorsLookup param block) m.look_up.calls call (subst (λ (l : LookUpState). Contains l.calls call) finishes.look_up here)));
      results = exist;
      balances = subst (λ (s : SsaState). Balances s n.look_up.calls (length n.look_up.results)) (sym finishes.state)
          (subst (λ (l : LookUpState). Balances m.state l.calls (length l.results)) (sym finishes.look_up)
          (subst (λ k. Balances m.state m.look_up.calls (suc k)) (sym left) (fits.balances).1));
    }

-- ENDING ----------------------------------------------------------------------------------------------------------

work-mono : (s t : SsaState) (x n : ℕ) → SamePredecessors s t → ((b : ℕ) → record_of t x b ≡ None → record_of s x b ≡ None) → work_below t x n ≤ work_below s x n
unfolding work_below
work-mono s t x zero same none = omega arith
work-mono s t x (suc n) same none =
    let rest : work_below t x n ≤ work_below s x n = work-mono s t x n same none in
    let here : work_at (record_of t x n) (length (predecessors_of t n)) ≤ work_at (record_of s x n) (length (predecessors_of s n)) =
    by (record_of t x n) (record_of s x n) (length (predecessors_of t n)) (length (predecessors_of s n)) (none n) (ap length (same n)) in
    omega (arith, rest, here)
  where
    by : (new old : Option ℕ) (p q : ℕ) → (new ≡ None → old ≡ None) → p ≡ q → work_at new p ≤ work_at old q
    by None None p q follows is = omega (arith, is)
    by None (Some v) p q follows is = absurd (none_some (sym (follows refl)))
    by (Some v) old p q follows is = omega arith

work-less : (s t : SsaState) (x n b v : ℕ) → SamePredecessors s t → ((c : ℕ) → record_of t x c ≡ None → record_of s x c ≡ None)
    → b < n → record_of s x b ≡ None → record_of t x b ≡ Some v → work_below t x n + suc (length (predecessors_of s b)) ≤ work_below s x n
unfolding work_below
work-less s t x zero b v same none below old new = absurd (omega (arith, below))
work-less s t x (suc n) b v same none below old new =
    elim (cases_eq b n) [
      | inl is ↦
          let rest : work_below t x n ≤ work_below s x n = work-mono s t x n same none in
          let at_t : work_at (record_of t x n) (length (predecessors_of t n)) ≡ 0 = ap (λ o. work_at o (length (predecessors_of t n))) (ap (record_of t x) (sym is) ∙ new) in
          let at_s : work_at (record_of s x n) (length (predecessors_of s n)) ≡ suc (length (predecessors_of s b)) =
          ap (λ o. work_at o (length (predecessors_of s n))) (ap (record_of s x) (sym is) ∙ old) ∙ ap (λ c. suc (length (predecessors_of s c))) (sym is) in
          omega (arith, rest, at_t, at_s)
      | inr other ↦
          let rest : work_below t x n + suc (length (predecessors_of s b)) ≤ work_below s x n = work-less s t x n b v same none (omega (arith, below, other)) old new in
          let here : work_at (record_of t x n) (length (predecessors_of t n)) ≤ work_at (record_of s x n) (length (predecessors_of s n)) =
          by (record_of t x n) (record_of s x n) (length (predecessors_of t n)) (length (predecessors_of s n)) (none n) (ap length (same n)) in
          omega (arith, rest, here)
    ]
  where
    by : (fresh before : Option ℕ) (p q : ℕ) → (fresh ≡ None → before ≡ None) → p ≡ q → work_at fresh p ≤ work_at before q
    by None None p q follows is = omega (arith, is)
    by None (Some w) p q follows is = absurd (none_some (sym (follows refl)))
    by (Some w) before p q follows is = omega arith

some_none : {x : ℕ} → ◌≡◌ {A = Option ℕ} (Some x) None → ⊥
some_none same = cc

copies-none : (s t : SsaState) (x v : ℕ) (blocks : List ℕ) → Copies s t x v blocks → (b : ℕ) → record_of t x b ≡ None → record_of s x b ≡ None
copies-none s t x v blocks copies b is = by (x == x && stands_in b blocks) (sym (copies x b) ∙ is)
  where
    by : (test : Bool) → (if test then Some v else record_of s x b) ≡ None → record_of s x b ≡ None
    by true none = absurd (some_none none)
    by false none = none

copies-first : (s t : SsaState) (x v b : ℕ) (blocks : List ℕ) → Copies s t x v (b ∷ blocks) → record_of t x b ≡ Some v
copies-first s t x v b blocks copies = copies x b ∙ grind (arith, common_steps)

calls_count : (branches : List ℕ) (param block : ℕ) (calls : List Call) → length (calls_for branches param block ++ calls) ≡ suc (length branches) + length calls
calls_count branches param block calls = grind (arith, common_steps)

pub look-less : (x : ℕ) (ty : «Type») (block : ℕ) (m n : Stage) → LooksUp x ty block m n → HasMore m.function n.function → SamePredecessors m.state n.state
    → work_of n x ≤ work_of m x
look-less x ty block m n looks more same =
    let blocks : length n.function.blocks ≡ length m.function.blocks = more.blocks in
    elim looks [
      | inl finds ↦
          let fewer : work_below n.state x (length m.function.blocks) ≤ work_below m.state x (length m.function.blocks) =
          work-mono m.state n.state x (length m.function.blocks) same (copies-none m.state n.state x finds.value finds.passed finds.copies) in
          let calls : length n.look_up.calls ≡ length m.look_up.calls = ap (λ (l : LookUpState). length l.calls) finds.look_up in
          total calls fewer blocks
      | inr later ↦
          elim later [
            | inl waits ↦
                let adds = waits.adds in
                let fewer : work_below n.state x (length m.function.blocks) ≤ work_below m.state x (length m.function.blocks) =
                work-mono m.state n.state x (length m.function.blocks) same (copies-none m.state n.state x (length m.function.values) (waits.reached ∷ _) adds.copies) in
                let calls : length n.look_up.calls ≡ length m.look_up.calls = ap (λ (l : LookUpState). length l.calls) waits.look_up in
                total calls fewer blocks
            | inr begins ↦
                let adds = begins.adds in
                let fewer : work_below n.state x (length m.function.blocks) + suc (length (predecessors_of m.state begins.reached)) ≤ work_below m.state x (length m.function.blocks) =
                work-less m.state n.state x (length m.function.blocks) begins.reached (length m.function.values) same
                (copies-none m.state n.state x (length m.function.values) (begins.reached ∷ _) adds.copies) adds.exists adds.unrecorded
                (copies-first m.state n.state x (length m.function.values) begins.reached _ adds.copies) in
                let calls : length n.look_up.calls ≡ suc (length (predecessors_of m.state begins.reached)) + length m.look_up.calls =
                ap (λ (l : LookUpState). length l.calls) (begins.begins).look_up ∙ calls_count (predecessors_of m.state begins.reached) (length m.function.values) begins.reached m.look_up.calls in
                let at : work_below n.state x (length n.function.blocks) ≡ work_below n.state x (length m.function.blocks) = ap (work_below n.state x) blocks in
                omega (arith, fewer, calls, at)
          ]
    ]
  where
    total : length n.look_up.calls ≡ length m.look_up.calls → work_below n.state x (length m.function.blocks) ≤ work_below m.state x (length m.function.blocks)
        → length n.function.blocks ≡ length m.function.blocks → work_of n x ≤ work_of m x
    total calls fewer blocks = let at : work_below n.state x (length n.function.blocks) ≡ work_below n.state x (length m.function.blocks) = ap (work_below n.state x) blocks in omega (arith, fewer, calls, at)

-- each call leaves less work
pub call-less : (x : ℕ) (ty : «Type») (m n : Stage) → MakesCall x ty m n → HasMore m.function n.function → SamePredecessors m.state n.state → work_of n x < work_of m x
call-less x ty m n makes more same =
    elim makes [
      | inl look ↦
          let less : work_of n x ≤ work_of (with_calls m look.calls) x = look-less x ty (branch_block m.function look.branch) (with_calls m look.calls) n look.looks more same in
          let calls : length m.look_up.calls ≡ suc (length look.calls) = ap length look.is_next in
          omega (arith, less, calls)
      | inr finish ↦
          let finishes = finish.finishes in
          let calls : length m.look_up.calls ≡ suc (length finish.calls) = ap length finish.is_next in
          let after : length n.look_up.calls ≡ length finish.calls = ap (λ (l : LookUpState). length l.calls) finishes.look_up in
          let at : work_below n.state x (length n.function.blocks) ≡ work_below m.state x (length m.function.blocks) =
          ap (λ (s : SsaState). work_below s x (length n.function.blocks)) finishes.state ∙ ap (work_below m.state x) more.blocks in
          omega (arith, calls, after, at)
    ]

-- ANSWERS ---------------------------------------------------------------------------------------------------------

pub on_ok' : {A E : Type 0} {P Q : Type 0} (answer : Result A E) → (P → Q) → OnOk answer P → OnOk answer Q
on_ok' (Ok x) follows holds = follows holds
on_ok' (Err e) follows holds = tt

pub both_ok : {A E : Type 0} {P Q R : Type 0} (answer : Result A E) → (P → Q → R) → OnOk answer P → OnOk answer Q → OnOk answer R
both_ok (Ok x) follows first second = follows first second
both_ok (Err e) follows first second = tt

pub same_block : {x y : ℕ} → ◌≡◌ {A = Option ℕ} (Some x) (Some y) → x ≡ y
same_block same = cc

-- the branches that lead to a block exist
pub leading-each : (f : Body) (s : SsaState) (block : ℕ) → NamesExist f s
    → EachIndex (predecessors_of s block) (λ k. slice_index (predecessors_of s block) k < length f.insts)
leading-each f s block named k inside = named.leading block (slice_index (predecessors_of s block) k) (k, inside, at_own (predecessors_of s block) k inside)
  where
    at_own : (xs : List ℕ) (j : ℕ) (here : j < length xs) → get_or xs j (slice_index xs j) ≡ slice_index xs j
    at_own xs j here = get_or-inside xs j (slice_index xs j) 0 here

-- the call that was taken, put back
pub popped_is : (call : Call) (old new : LookUpState) → old.calls ≡ call ∷ new.calls → new ≡ record old { calls = new.calls } → with_call call new ≡ old
popped_is call old new calls is =
    let back : with_call call new ≡ record old { calls = call ∷ new.calls } = ap (λ (l : LookUpState). let k : LookUpState = record l { calls = call ∷ new.calls } in k) is in
    back ∙ ap (λ cs. let k : LookUpState = record old { calls = cs } in k) (sym calls)
