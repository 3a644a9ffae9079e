-- The zeros of uses and of sealings come into blocks of a set that holds the blocks of the branches.
use Rattle.std.proofs.Common.{◌<◌, ◌≡◌, ◌≢◌, ℕ, ◌+◌, ◌≤◌, ◌==◌, Bool, true, false, List, [], ◌∷◌, ◌++◌, length, refl, ap, arith, sym, ◌∙◌, subst, ◌⊎◌, inl, inr}
use Rattle.std.specs.Prelude.{Option, Some, None, Contains, Result, Ok, Err, OnOk, IfOk, if◌then◌else◌}
use Rattle.std.specs.Option.{option_to_list}
use Rattle.clif_types.specs.declared.error.BuildError.{BuildError}
use Rattle.clif_types.specs.declared.types.«Type».{«Type»}
use Rattle.clif_ir.specs.Body.{Body, value_at}
use Rattle.clif_ir.specs.Changes.{with_param}
use Rattle.clif_ir.specs.Reading.{param_home}
use Rattle.clif_records.specs.declared.side_effects.SideEffects.{SideEffects}
use Rattle.clif_records.specs.declared.tables.Pending.{Pending}
use Rattle.clif_records.specs.Tables.{Yes, is_yes, pending_of}
use Rattle.clif_ssa.specs.Ssa.{SsaState, sealed_of, predecessors_of, zeroed, zeroed_in, completed, completing_blocks, Named, Seals, Waits, Zeroes}
use Rattle.clif_records.specs.Stacks.{LookUpState, no_look_up}
use Rattle.clif_ssa.specs.LookUp.{Stage, UsesVariable, CompletesParameter, LooksUp}
use Rattle.clif_ssa.specs.Running.{stage, CompletesAll, MakesAll}
use Rattle.clif_ssa.specs.Sealing.{SealsLocally, SealsByLookUp, SealsWith, SealsBelow, none_sealed, next_sealed}
use Rattle.clif_ssa.specs.Within.{HoldsBranches, HoldsWaiting, StaysWithin, WaitingHeld}
use Rattle.clif_ssa.proofs.Bodies.{param_exists}
use Rattle.clif_ssa.proofs.Grown.{Grown, grown_none, grown_then, grown_param, grown_zeroed}
use Rattle.clif_ssa.proofs.Housing.{housed_from}
use Rattle.clif_ssa.proofs.Ordering.{contains_first, contains_more, none_contained}
use Rattle.clif_ssa.proofs.Public.{looked_up}
use Rattle.clif_ssa.proofs.StructuredUses.{waiting_home, pending_waits}
use Rattle.clif_ssa.proofs.Within.{AllHeld, Kept, kept_then, Leads, leads_kept, CallsHeld, Within, begun_held, stepped, no_zero, looks_within, calls_within}
use Rattle.clif_ssa.specs.Zeros.{steps_before}

same_some : {a b : ℕ} → ◌≡◌ {A = Option ℕ} (Some a) (Some b) → a ≡ b
same_some same = cc

some_none : {i : ℕ} {is : List ℕ} → ◌≡◌ {A = List ℕ} (i ∷ is) [] → ⊥
some_none same = cc

pub leads_of : (holds : ℕ → Bool) (f : Body) (s : SsaState) → Named f s → HoldsBranches f s holds → Leads holds f s
leads_of holds f s named branches b i here = ((named (b, i, here)).leading b i here, branches b i here)

stays_within : (holds : ℕ → Bool) (f g : Body) (told : List ℕ) → Grown holds f g → AllHeld holds told → StaysWithin holds f g told
stays_within holds f g told grown zeros = record { zeros = zeros; parameters = grown.homes; layout = grown.layout }

pub same_within : (holds : ℕ → Bool) (f : Body) (told : List ℕ) → told ≡ [] → StaysWithin holds f f told
same_within holds f told none = stays_within holds f f told (grown_none holds f) (subst (AllHeld holds) (sym none) tt)

-- USES ------------------------------------------------------------------------------------------------------------

-- the block is unsealed, or no branch leads to it
pub local_within : (holds : ℕ → Bool) (f g : Body) (s t : SsaState) (x : ℕ) (ty : «Type») (b : ℕ) {E : Type 0} (result : Result (ℕ × SideEffects) E) → holds b ≡ true
    → (is_yes (sealed_of s b) ≡ false → OnOk result (Waits s t f g x ty b) × IfOk result (λ r. (r.0 ≡ length f.values) × (r.1.instructions_added_to_blocks.items ≡ [])))
    → (is_yes (sealed_of s b) ≡ true → OnOk result (Zeroes s t f g x ty b) × IfOk result (λ r. (r.0 ≡ length f.values + 1 + steps_before ty) × (r.1.instructions_added_to_blocks.items ≡ b ∷ [])))
    → IfOk result (λ r. StaysWithin holds f g r.1.instructions_added_to_blocks.items)
local_within holds f g s t x ty b (Err error) held waits zeroes = tt
local_within holds f g s t x ty b (Ok r) held waits zeroes = by (is_yes (sealed_of s b)) refl
  where
    with_new : Grown holds f (with_param f b ty)
    with_new = grown_param holds f b ty held

    by : (sealed : Bool) → is_yes (sealed_of s b) ≡ sealed → StaysWithin holds f g r.1.instructions_added_to_blocks.items
    by true sealed =
        let case : Zeroes s t f g x ty b × ((r.0 ≡ length f.values + 1 + steps_before ty) × (r.1.instructions_added_to_blocks.items ≡ b ∷ [])) = zeroes sealed in
        let zero : Body = zeroed (with_param f b ty) b (length f.values) in
        let grown : Grown holds f zero = grown_then holds f (with_param f b ty) zero with_new (grown_zeroed holds (with_param f b ty) b (length f.values) held) in
        stays_within holds f g r.1.instructions_added_to_blocks.items (subst (Grown holds f) (sym case.0.function) grown) (subst (AllHeld holds) (sym case.1.1) (held, tt))
    by false unsealed =
        let case : Waits s t f g x ty b × ((r.0 ≡ length f.values) × (r.1.instructions_added_to_blocks.items ≡ [])) = waits unsealed in
        stays_within holds f g r.1.instructions_added_to_blocks.items (subst (Grown holds f) (sym case.0.function) with_new) (subst (AllHeld holds) (sym case.1.1) tt)

-- the variable is looked up in the predecessors
pub machine_within : (holds : ℕ → Bool) (f h g : Body) (s r t : SsaState) (x : ℕ) (ty : «Type») (b : ℕ) (first begun last : LookUpState) (value : ℕ) (told : List ℕ)
    → first ≡ no_look_up → Leads holds f s → holds b ≡ true → LooksUp x ty b (stage f s first) (stage h r begun) → MakesAll x ty (stage h r begun) value (stage g t last)
    → told ≡ last.zeros → StaysWithin holds f g told
machine_within holds f h g s r t x ty b first begun last value told nothing leads held looks all is_told =
    let used : UsesVariable x ty b (stage f s no_look_up) value all.last = looked_up x ty b f h g s r t first begun last value nothing looks all in
    let start : Within holds f s (stage f s no_look_up) = record {
      kept = record { grown = grown_none holds f; predecessors = λ c. refl; waiting = λ c p here. inl here; zeros = tt };
      calls = tt;
    } in
    let done : Within holds f s all.last =
    calls_within holds f s leads x ty (looks_within holds f s leads x ty b (stage f s no_look_up) used.begun start held used.looks) used.made in
    stays_within holds f g told (subst (Grown holds f) (sym all.function) done.kept.grown)
    (subst (AllHeld holds) (ap (λ (l : LookUpState). l.zeros) all.ended ∙ sym is_told) done.kept.zeros)

-- SEALING ---------------------------------------------------------------------------------------------------------

module _ (holds : ℕ → Bool) (f : Body) (s : SsaState) where
  -- the block of which a value is a parameter is of the set
  abbrev HomeHeld : ℕ → Type 0
  HomeHeld v = (home : ℕ) → param_home f v ≡ Some home → holds home ≡ true

  -- parameters to which nothing comes are completed
  completed_grown : (ps : List Pending) (g : Body) → Grown holds f g → ((p : Pending) → Contains ps p → HomeHeld p.param)
      → Grown holds f (completed g ps) × AllHeld holds (completing_blocks g ps)
  completed_grown [] g grown homes = (grown, tt)
  completed_grown (p ∷ ps) g grown homes =
      by (param_home g p.param) (λ h before. completed_grown ps h before (λ q here. homes q (contains_more p ps q here))) refl
    where
      by : (o : Option ℕ) → ((h : Body) → Grown holds f h → Grown holds f (completed h ps) × AllHeld holds (completing_blocks h ps)) → param_home g p.param ≡ o
          → Grown holds f (completed (zeroed_in o g p.param) ps) × AllHeld holds (option_to_list o ++ completing_blocks (zeroed_in o g p.param) ps)
      by None rest is = rest g grown
      by (Some home) rest is =
          let held : holds home ≡ true = elim (grown.homes p.param home is) [ inl old ↦ homes p (contains_first p ps) home old | inr new ↦ new ] in
          let both : Grown holds f (completed (zeroed g home p.param) ps) × AllHeld holds (completing_blocks (zeroed g home p.param) ps) =
          rest (zeroed g home p.param) (grown_then holds f g (zeroed g home p.param) grown (grown_zeroed holds g home p.param held)) in
          (both.0, (held, both.1))

  -- a sealed block has nothing that waits
  seals_waiting : (t : SsaState) (block : ℕ) → Seals s t block → (b : ℕ) (p : Pending) → Contains (pending_of (sealed_of t b)) p
      → Contains (pending_of (sealed_of s b)) p ⊎ (length f.values ≤ p.param)
  seals_waiting t block seals b p here = by (b == block) (subst (λ entry. Contains (pending_of entry) p) (seals b) here)
    where
      by : (test : Bool) → Contains (pending_of (if test then Yes else sealed_of s b)) p → Contains (pending_of (sealed_of s b)) p ⊎ (length f.values ≤ p.param)
      by true here = absurd (none_contained p here)
      by false here = inl here

  module _ (leads : Leads holds f s) where
    completes_within : (p : Pending) (block : ℕ) (m n : Stage) → Within holds f s m → HomeHeld p.param
        → CompletesParameter p.variable (value_at m.function p.param).ty p.param block m n → Within holds f s n
    completes_within p block m n within home complete =
        let branches : List ℕ = predecessors_of m.state block in
        let begun : Within holds f s complete.begun =
        stepped holds f s leads m complete.begun [] within
        (record {
          grown = subst (Grown holds m.function) (sym complete.same_function) (grown_none holds m.function);
          predecessors = complete.same_predecessors;
          waiting = λ b q here. inl (subst (λ entry. Contains (pending_of entry) q) (complete.same_blocks b) here);
          zeros = tt;
        })
        (ap (λ (l : LookUpState). l.zeros) complete.begins.look_up ∙ no_zero holds f s leads m.look_up.zeros)
        (subst (CallsHeld holds f) (sym (ap (λ (l : LookUpState). l.calls) complete.begins.look_up))
        (begun_held holds f branches p.param block m.look_up.calls
        (λ i here. leads block i (subst (λ xs. Contains xs i) (within.kept.predecessors block) here)) home within.calls)) in
        let done : Within holds f s complete.done = calls_within holds f s leads p.variable (value_at m.function p.param).ty begun complete.made in
        subst (Within holds f s) (sym complete.next) (record { kept = done.kept; calls = done.calls })

    completes_all_within : (block : ℕ) (ps : List Pending) (m n : Stage) → Within holds f s m → ((p : Pending) → Contains ps p → HomeHeld p.param) → CompletesAll block ps m n
        → Within holds f s n
    completes_all_within block [] m n within homes same = subst (Within holds f s) (sym same) within
    completes_all_within block (p ∷ ps) m n within homes all =
        completes_all_within block ps all.0 n (completes_within p block m all.0 within (homes p (contains_first p ps)) all.1)
        (λ q here. homes q (contains_more p ps q here)) all.2

    -- a block is sealed, to which no branch leads
    pub locally_kept : (g : Body) (t : SsaState) (block : ℕ) (answer : SideEffects) → HoldsWaiting f s holds block → ((b : ℕ) → predecessors_of t b ≡ predecessors_of s b)
        → SealsLocally f s g t block (Ok answer) → Kept holds f s g t answer.instructions_added_to_blocks.items
    locally_kept g t block answer homes same seals =
        let ps : List Pending = pending_of (sealed_of s block) in
        let both : Grown holds f (completed f ps) × AllHeld holds (completing_blocks f ps) =
        completed_grown ps f (grown_none holds f) (λ p here home is. homes p home here is) in
        record {
          grown = subst (Grown holds f) (sym seals.function) both.0;
          predecessors = same;
          waiting = seals_waiting t block seals.sealed;
          zeros = subst (AllHeld holds) (sym seals.told) both.1;
        }

    -- or to which branches lead
    pub looked_up_kept : (g : Body) (t : SsaState) (block : ℕ) (told : List ℕ) → HoldsWaiting f s holds block → SealsByLookUp f s g t block told → Kept holds f s g t told
    looked_up_kept g t block told homes seals =
        let start : Within holds f s (stage f seals.sealed no_look_up) = record {
          kept = record { grown = grown_none holds f; predecessors = seals.predecessors; waiting = seals_waiting seals.sealed block seals.seals; zeros = tt };
          calls = tt;
        } in
        let done : Within holds f s (stage g t seals.look_up) =
        completes_all_within block (pending_of (sealed_of s block)) (stage f seals.sealed no_look_up) (stage g t seals.look_up) start
        (λ p here home is. homes p home here is) seals.completes in
        subst (Kept holds f s g t) (sym seals.is_told) done.kept

    pub seals_kept : (g : Body) (t : SsaState) (block : ℕ) (answer : SideEffects) → HoldsWaiting f s holds block → SealsWith f s g t block answer
        → Kept holds f s g t answer.instructions_added_to_blocks.items
    seals_kept g t block answer homes seals = by (predecessors_of s block) refl
      where
        by : (branches : List ℕ) → predecessors_of s block ≡ branches → Kept holds f s g t answer.instructions_added_to_blocks.items
        by [] alone = locally_kept g t block answer homes seals.predecessors (seals.local alone)
        by (i ∷ branches) some =
            looked_up_kept g t block answer.instructions_added_to_blocks.items homes (seals.completes (λ empty. some_none (sym some ∙ empty)))

-- what waits goes on waiting for blocks of the set
waiting_kept : (holds : ℕ → Bool) (f : Body) (s : SsaState) (g : Body) (t : SsaState) (told : List ℕ) → Kept holds f s g t told
    → (b : ℕ) → HoldsWaiting f s holds b → HoldsWaiting g t holds b
waiting_kept holds f s g t told kept b homes p home here is =
    elim (kept.grown.homes p.param home is) [
      | inr new ↦ new
      | inl old ↦
          elim (kept.waiting b p here) [
            | inl before ↦ homes p home before old
            | inr later ↦ absurd (omega (arith, later, param_exists f p.param home old))
          ]
    ]

below_kept : (holds : ℕ → Bool) (f : Body) (s : SsaState) → Leads holds f s
    → {n : ℕ} {g : Body} {t : SsaState} {told : List ℕ} → ((b : ℕ) → b < n → HoldsWaiting f s holds b) → SealsBelow f s n g t told → Kept holds f s g t told
below_kept holds f s leads homes none_sealed =
    record { grown = grown_none holds f; predecessors = λ b. refl; waiting = λ b p here. inl here; zeros = tt }
below_kept holds f s leads homes (next_sealed {n = n} {g = g} {h = h} {t = t} {u = u} {told = told} {answer = answer} first seals) =
    let before : Kept holds f s g t told = below_kept holds f s leads (λ b below. homes b (omega (arith, below))) first in
    kept_then holds f s g t h u told answer.instructions_added_to_blocks.items before
    (seals_kept holds g t (leads_kept holds f s g t told before leads) h u n answer (waiting_kept holds f s g t told before n (homes n (omega arith))) seals)

-- a block is sealed
pub seal_within : (holds : ℕ → Bool) (f g : Body) (s t : SsaState) (b : ℕ) (result : Result SideEffects BuildError) → Leads holds f s → HoldsWaiting f s holds b
    → ((c : ℕ) → predecessors_of t c ≡ predecessors_of s c) → (predecessors_of s b ≡ [] → SealsLocally f s g t b result)
    → (predecessors_of s b ≢ [] → IfOk result (λ r. SealsByLookUp f s g t b r.instructions_added_to_blocks.items))
    → IfOk result (λ r. StaysWithin holds f g r.instructions_added_to_blocks.items)
seal_within holds f g s t b (Err error) leads homes same locally looks = tt
seal_within holds f g s t b (Ok answer) leads homes same locally looks =
    let kept : Kept holds f s g t answer.instructions_added_to_blocks.items =
    seals_kept holds f s leads g t b answer homes (record { predecessors = same; local = locally; completes = looks }) in
    stays_within holds f g answer.instructions_added_to_blocks.items kept.grown kept.zeros

-- all blocks are
pub seals_within : (holds : ℕ → Bool) (f g : Body) (s t : SsaState) (n : ℕ) (told : List ℕ) → Leads holds f s → ((b : ℕ) → b < n → HoldsWaiting f s holds b)
    → SealsBelow f s n g t told → StaysWithin holds f g told
seals_within holds f g s t n told leads homes below =
    let kept : Kept holds f s g t told = below_kept holds f s leads homes below in stays_within holds f g told kept.grown kept.zeros

-- THE LAW ---------------------------------------------------------------------------------------------------------

pub waiting_held : WaitingHeld
waiting_held types own f s holds b known before held p home here is =
    let at : param_home f p.param ≡ Some b =
    waiting_home own f s [] b (housed_from f known) (before.parameters b) p (pending_waits f (sealed_of s b) [] b p here) in
    ap holds (same_some (sym is ∙ at)) ∙ held (λ empty. none_contained p (subst (λ ps. Contains ps p) empty here))
