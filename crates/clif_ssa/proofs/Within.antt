-- The zeros of a look-up come into blocks of a set that holds the blocks of the branches.
use Rattle.std.proofs.Common.{◌≡◌, ℕ, ◌<◌, ◌≤◌, ◌==◌, Bool, true, false, List, [], ◌∷◌, ◌++◌, length, refl, ap, arith, sym, ◌∙◌, subst, ◌⊎◌, inl, inr}
use Rattle.std.specs.Prelude.{Some, Contains, reverse, if◌then◌else◌}
use Rattle.std.specs.List.{AllByRecursion}
use Rattle.std.proofs.lemmas.List.{append-nil}
use Rattle.clif_types.specs.declared.types.«Type».{«Type»}
use Rattle.clif_ir.specs.Body.{Body}
use Rattle.clif_ir.specs.Reading.{param_home}
use Rattle.clif_records.specs.declared.look_up.Call.{Call}
use Rattle.clif_records.specs.declared.look_up.Call.TheVariants.{UseVar, FinishPredecessorsLookup}
use Rattle.clif_records.specs.declared.tables.Pending.{Pending}
use Rattle.clif_records.specs.Tables.{No, pending_of}
use Rattle.clif_ssa.specs.Ssa.{SsaState, sealed_of, predecessors_of, SamePredecessors}
use Rattle.clif_records.specs.Stacks.{LookUpState, calls_for}
use Rattle.clif_ssa.specs.LookUp.{Stage, branch_block, with_calls, IsWalk, IsNoParameter, EndsLookUp, LooksUp, FinishesLookUp, MakesCall, MakesCalls, none_made, made}
use Rattle.clif_ssa.proofs.Bodies.{param_exists}
use Rattle.clif_ssa.proofs.Grown.{Grown, grown_none, grown_then, grown_param, grown_alias, grown_zeroed, grown_arguments}
use Rattle.clif_ssa.proofs.Looking.{single_stands}
use Rattle.clif_ssa.proofs.Naming.{contains_last}
use Rattle.clif_ssa.proofs.Ordering.{contains_first, contains_more}

-- the blocks of the list are of the set
abbrev pub AllHeld : (ℕ → Bool) → List ℕ → Type 0
AllHeld holds blocks = AllByRecursion (λ b. holds b ≡ true) blocks

pub held-append : (holds : ℕ → Bool) (xs ys : List ℕ) → AllHeld holds xs → AllHeld holds ys → AllHeld holds (xs ++ ys)
held-append holds [] ys first second = second
held-append holds (x ∷ xs) ys first second = (first.0, held-append holds xs ys first.1 second)

-- From one function and state to the next the function grows within the set, as many branches lead to each block, what
-- waits waited before or is new, and the zeros that are told come into the set.
pub record Kept (holds : ℕ → Bool) (f : Body) (s : SsaState) (g : Body) (t : SsaState) (told : List ℕ) : Type 0 where
  pub grown : Grown holds f g
  pub predecessors : SamePredecessors s t
  pub waiting : (b : ℕ) (p : Pending) → Contains (pending_of (sealed_of t b)) p → Contains (pending_of (sealed_of s b)) p ⊎ (length f.values ≤ p.param)
  pub zeros : AllHeld holds told

pub kept_then : (holds : ℕ → Bool) (f : Body) (s : SsaState) (g : Body) (t : SsaState) (h : Body) (u : SsaState) (told more : List ℕ)
    → Kept holds f s g t told → Kept holds g t h u more → Kept holds f s h u (told ++ more)
kept_then holds f s g t h u told more first second = record {
  grown = grown_then holds f g h first.grown second.grown;
  predecessors = λ b. second.predecessors b ∙ first.predecessors b;
  waiting = λ b p here. elim (second.waiting b p here) [
    | inl old ↦ first.waiting b p old
    | inr new ↦ inr (omega (arith, new, first.grown.values))
  ];
  zeros = held-append holds told more first.zeros second.zeros;
}

-- the branches that lead somewhere exist, and stand in blocks of the set
abbrev pub Leads : (ℕ → Bool) → Body → SsaState → Type 0
Leads holds f s = (b i : ℕ) → Contains (predecessors_of s b) i → (i < length f.insts) × (holds (branch_block f i) ≡ true)

-- they go on doing so
pub leads_kept : (holds : ℕ → Bool) (f : Body) (s : SsaState) (g : Body) (t : SsaState) (told : List ℕ) → Kept holds f s g t told → Leads holds f s → Leads holds g t
leads_kept holds f s g t told kept leads b i here =
    let old : (i < length f.insts) × (holds (branch_block f i) ≡ true) = leads b i (subst (λ xs. Contains xs i) (kept.predecessors b) here) in
    (omega (arith, old.0, kept.grown.insts), ap holds (kept.grown.blocks i old.0) ∙ old.1)

-- what a call is made for is of the set: the block of its branch, or that of its parameter
abbrev pub CallHeld : (ℕ → Bool) → Body → Call → Type 0
CallHeld holds f (UseVar branch) = (branch < length f.insts) × (holds (branch_block f branch) ≡ true)
CallHeld holds f (FinishPredecessorsLookup param block) = (home : ℕ) → param_home f param ≡ Some home → holds home ≡ true

abbrev pub CallsHeld : (ℕ → Bool) → Body → List Call → Type 0
CallsHeld holds f calls = AllByRecursion (CallHeld holds f) calls

-- what stands between two calls; `f` and `s` are the function and the state before the first
pub record Within (holds : ℕ → Bool) (f : Body) (s : SsaState) (m : Stage) : Type 0 where
  pub kept : Kept holds f s m.function m.state m.look_up.zeros
  pub calls : CallsHeld holds f m.look_up.calls

abbrev calls_of : LookUpState → List Call
calls_of l = l.calls

abbrev zeros_of : LookUpState → List ℕ
zeros_of l = l.zeros

-- the calls of a look-up that begins
pub begun_held : (holds : ℕ → Bool) (f : Body) (branches : List ℕ) (param block : ℕ) (calls : List Call)
    → ((i : ℕ) → Contains branches i → (i < length f.insts) × (holds (branch_block f i) ≡ true))
    → ((home : ℕ) → param_home f param ≡ Some home → holds home ≡ true) → CallsHeld holds f calls → CallsHeld holds f (calls_for branches param block ++ calls)
begun_held holds f [] param block calls leads home rest = (home, rest)
begun_held holds f (i ∷ branches) param block calls leads home rest =
    (leads i (contains_first i branches), begun_held holds f branches param block calls (λ j here. leads j (contains_more i branches j here)) home rest)

-- a walk stays within the set
walk_held : (holds : ℕ → Bool) (f : Body) (s : SsaState) (x : ℕ) (passed : List ℕ) (block reached : ℕ) → Leads holds f s → IsWalk f s x block passed reached
    → holds block ≡ true → holds reached ≡ true
walk_held holds f s x [] block reached leads walk held = ap holds (sym walk) ∙ held
walk_held holds f s x (b ∷ passed) block reached leads walk held =
    let (i, here, at) = single_stands f s block walk.2.0 walk.2.1 in
    walk_held holds f s x passed walk.2.0 reached leads walk.2.2 (ap holds (sym at) ∙ (leads block i here).1)

module _ (holds : ℕ → Bool) (f : Body) (s : SsaState) (leads : Leads holds f s) where
  -- a step, whose zeros come behind those so far
  pub stepped : (m n : Stage) (more : List ℕ) → Within holds f s m → Kept holds m.function m.state n.function n.state more → n.look_up.zeros ≡ m.look_up.zeros ++ more
      → CallsHeld holds f n.look_up.calls → Within holds f s n
  stepped m n more within kept told calls = record {
    kept = subst (Kept holds f s n.function n.state) (sym told) (kept_then holds f s m.function m.state n.function n.state m.look_up.zeros more within.kept kept);
    calls = calls;
  }

  pub no_zero : (zeros : List ℕ) → zeros ≡ zeros ++ []
  no_zero zeros = sym (append-nil zeros)

  reaches : (m : Stage) (x block reached : ℕ) (passed : List ℕ) → Within holds f s m → holds block ≡ true → IsWalk m.function m.state x block passed reached
      → holds reached ≡ true
  reaches m x block reached passed within held walk =
      walk_held holds m.function m.state x passed block reached (leads_kept holds f s m.function m.state m.look_up.zeros within.kept leads) walk held

  -- what waits in a block to which one parameter more may come
  waits_more : (m : Stage) (x reached b : ℕ) (p : Pending) (test : Bool)
      → Contains (pending_of (if test then No (pending_of (sealed_of m.state b) ++ record { variable = x; param = length m.function.values } ∷ []) else sealed_of m.state b)) p
      → Contains (pending_of (sealed_of m.state b)) p ⊎ (length m.function.values ≤ p.param)
  waits_more m x reached b p false here = inl here
  waits_more m x reached b p true here =
      elim (contains_last (pending_of (sealed_of m.state b)) (record { variable = x; param = length m.function.values }) p here) [
        | inl old ↦ inl old
        | inr last ↦ let at : length m.function.values ≡ p.param = ap (λ (q : Pending). q.param) last in inr (omega (arith, at))
      ]

  pub looks_within : (x : ℕ) (ty : «Type») (block : ℕ) (m n : Stage) → Within holds f s m → holds block ≡ true → LooksUp x ty block m n → Within holds f s n
  looks_within x ty block m n within held (inl found) =
      stepped m n [] within
      (record {
        grown = subst (Grown holds m.function) (sym found.function) (grown_none holds m.function);
        predecessors = found.predecessors;
        waiting = λ b p here. inl (subst (λ entry. Contains (pending_of entry) p) (found.blocks b) here);
        zeros = tt;
      })
      (ap zeros_of found.look_up ∙ no_zero m.look_up.zeros) (subst (CallsHeld holds f) (sym (ap calls_of found.look_up)) within.calls)
  looks_within x ty block m n within held (inr (inl waits)) =
      let at : holds waits.reached ≡ true = reaches m x block waits.reached waits.adds.passed within held waits.adds.walks.walk in
      stepped m n [] within
      (record {
        grown = subst (Grown holds m.function) (sym waits.adds.function) (grown_param holds m.function waits.reached ty at);
        predecessors = waits.adds.predecessors;
        waiting = λ b p here. waits_more m x waits.reached b p (b == waits.reached) (subst (λ entry. Contains (pending_of entry) p) (waits.blocks b) here);
        zeros = tt;
      })
      (ap zeros_of waits.look_up ∙ no_zero m.look_up.zeros) (subst (CallsHeld holds f) (sym (ap calls_of waits.look_up)) within.calls)
  looks_within x ty block m n within held (inr (inr begins)) =
      let at : holds begins.reached ≡ true = reaches m x block begins.reached begins.adds.passed within held begins.adds.walks.walk in
      let branches : List ℕ = predecessors_of m.state begins.reached in
      stepped m n [] within
      (record {
        grown = subst (Grown holds m.function) (sym begins.adds.function) (grown_param holds m.function begins.reached ty at);
        predecessors = begins.adds.predecessors;
        waiting = λ b p here. inl (subst (λ entry. Contains (pending_of entry) p) (begins.blocks b) here);
        zeros = tt;
      })
      (ap zeros_of begins.begins.look_up ∙ no_zero m.look_up.zeros)
      (subst (CallsHeld holds f) (sym (ap calls_of begins.begins.look_up))
      (begun_held holds f branches (length m.function.values) begins.reached m.look_up.calls
      (λ i here. leads begins.reached i (subst (λ xs. Contains xs i) (within.kept.predecessors begins.reached) here))
      (λ home is. absurd (omega (arith, param_exists f (length m.function.values) home is, within.kept.grown.values))) within.calls))

  -- a change of the function alone, with these zeros
  pub changed : (g h : Body) (t u : SsaState) (zeros : List ℕ) → u ≡ t → Grown holds g h → AllHeld holds zeros → Kept holds g t h u zeros
  changed g h t u zeros same grown all =
      subst (λ v. Kept holds g t h v zeros) (sym same) (record { grown = grown; predecessors = λ b. refl; waiting = λ b p here. inl here; zeros = all })

  -- the look-up of a parameter ends
  ended : (g h : Body) (t u : SsaState) (param block value : ℕ) (branches results zeros : List ℕ) → u ≡ t
      → ((home : ℕ) → param_home g param ≡ Some home → holds home ≡ true)
      → IsNoParameter param g h value zeros ⊎ ((home : ℕ) × (param_home g param ≡ Some home) × EndsLookUp param home block branches results g h value zeros)
      → Kept holds g t h u zeros
  ended g h t u param block value branches results zeros same held (inl no_parameter) =
      changed g h t u zeros same (subst (Grown holds g) (sym no_parameter.function) (grown_none holds g)) (subst (AllHeld holds) (sym no_parameter.told) tt)
  ended g h t u param block value branches results zeros same held (inr (home, is, inl zero)) =
      changed g h t u zeros same (subst (Grown holds g) (sym zero.function) (grown_zeroed holds g home param (held home is)))
      (subst (AllHeld holds) (sym zero.told) (held home is, tt))
  ended g h t u param block value branches results zeros same held (inr (home, is, inr (inl one))) =
      changed g h t u zeros same (subst (Grown holds g) (sym one.function) (grown_alias holds g param value)) (subst (AllHeld holds) (sym one.told) tt)
  ended g h t u param block value branches results zeros same held (inr (home, is, inr (inr several))) =
      changed g h t u zeros same (subst (Grown holds g) (sym several.function) (grown_arguments holds branches results g block))
      (subst (AllHeld holds) (sym several.told) tt)

  pub call_within : (x : ℕ) (ty : «Type») (m n : Stage) → Within holds f s m → MakesCall x ty m n → Within holds f s n
  call_within x ty m n within (inl look) =
      let next : CallsHeld holds f (UseVar look.branch ∷ look.calls) = subst (CallsHeld holds f) look.is_next within.calls in
      looks_within x ty (branch_block m.function look.branch) (with_calls m look.calls) n (record { kept = within.kept; calls = next.1 })
      (ap holds (within.kept.grown.blocks look.branch next.0.0) ∙ next.0.1) look.looks
  call_within x ty m n within (inr finish) =
      let next : CallsHeld holds f (FinishPredecessorsLookup finish.param finish.block ∷ finish.calls) = subst (CallsHeld holds f) finish.is_next within.calls in
      let end : FinishesLookUp finish.param finish.block (with_calls m finish.calls) n = finish.finishes in
      stepped m n end.zeros within
      (ended m.function n.function m.state n.state finish.param finish.block end.value (predecessors_of m.state finish.block) (reverse end.results) end.zeros end.state
      (λ home is. elim (within.kept.grown.homes finish.param home is) [ inl old ↦ next.0 home old | inr new ↦ new ]) end.ends)
      (ap zeros_of end.look_up) (subst (CallsHeld holds f) (sym (ap calls_of end.look_up)) next.1)

  pub calls_within : (x : ℕ) (ty : «Type») {m n : Stage} → Within holds f s m → MakesCalls x ty m n → Within holds f s n
  calls_within x ty within none_made = within
  calls_within x ty within (made {n = between} {k = last} first call) = call_within x ty between last (calls_within x ty within first) call
