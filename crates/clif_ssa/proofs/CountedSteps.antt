-- How much steps of the construction make, one after another, and where they stop.
use Rattle.std.proofs.Common.{◌≡◌, ◌≢◌, ℕ, suc, ◌+◌, ◌*◌, ◌<◌, ◌≤◌, ◌==◌, [], ◌∷◌, ◌++◌, length, refl, ap, arith, ◌∙◌, inl, inr}
use Rattle.std.specs.Prelude.{None, Result, Ok, Err, OnErr, if◌then◌else◌}
use Rattle.std.proofs.lemmas.Grind.{common_steps}
use Rattle.clif_types.specs.declared.error.BuildError.{BuildError}
use Rattle.clif_types.specs.declared.error.BuildError.TheVariants.{Memory}
use Rattle.clif_types.specs.declared.types.«Type».{«Type»}
use Rattle.clif_ir.specs.Body.{Body}
use Rattle.clif_ir.specs.Changes.{with_param}
use Rattle.clif_records.specs.declared.tables.Pending.{Pending}
use Rattle.clif_records.specs.Tables.{No, pending_of}
use Rattle.clif_ssa.specs.Counted.{recorded_pairs, waiting_below, WaitsBelow, AddsAtMost, MakesCounted, CountsFor, StepCounts, StepStops}
use Rattle.clif_ssa.specs.Ssa.{SsaState, record_of, sealed_of, SameBlocks, SameRecords, Seals}
use Rattle.clif_ssa.proofs.CountedOnce.{NoneLost, none_lost}
use Rattle.clif_ssa.proofs.Counted.{adds_more, adds_same, pairs_gain, pairs_stay, waiting_one, waiting_same, waiting_sealed, waits_one, waits_same, waits_sealed}

-- WHERE A STEP STOPS ----------------------------------------------------------------------------------------------

same_error : {A : Type 0} {d e : BuildError} → ◌≡◌ {A = Result A BuildError} (Err d) (Err e) → d ≡ e
same_error same = cc

-- nothing is changed
pub stops_unmade : (f g : Body) (s : SsaState) {A : Type 0} (e : BuildError) → g ≡ f → StepStops 0 f s g s {A = A} (Err e)
stops_unmade f g s e same = inr (refl, adds_same f g same)

-- for want of memory
pub stops_memory : {most : ℕ} {f g : Body} {s t : SsaState} {A B : Type 0} (e : BuildError) → ◌≡◌ {A = Result A BuildError} (Err e) (Err Memory)
    → StepStops most f s g t {A = B} (Err e)
stops_memory e memory = inl (ap (λ d. Err d) (same_error memory))

pub stops_only_memory : (most : ℕ) (f g : Body) (s t : SsaState) {A : Type 0} (answer : Result A BuildError) → OnErr answer (answer ≡ Err Memory)
    → StepStops most f s g t answer
stops_only_memory most f g s t (Ok a) memory = tt
stops_only_memory most f g s t (Err e) memory = inl memory

-- whatever it answers, the state stays
pub stops_grown : (most : ℕ) (f g : Body) (s : SsaState) {A : Type 0} (answer : Result A BuildError) → AddsAtMost most f g → StepStops most f s g s answer
stops_grown most f g s (Ok a) adds = tt
stops_grown most f g s (Err e) adds = inr (refl, adds)

pub stops_more : (few many : ℕ) (f g : Body) (s t : SsaState) {A : Type 0} (answer : Result A BuildError) → few ≤ many → StepStops few f s g t answer
    → StepStops many f s g t answer
stops_more few many f g s t (Ok a) more stops = tt
stops_more few many f g s t (Err e) more stops = elim stops [ inl memory ↦ inl memory | inr left ↦ inr (left.0, adds_more few many f g more left.1) ]

-- an error is passed on
pub stops_as : {most : ℕ} {f g : Body} {s t : SsaState} {A B : Type 0} (e : BuildError) → StepStops most f s g t {A = A} (Err e) → StepStops most f s g t {A = B} (Err e)
stops_as e stops = elim stops [ inl memory ↦ inl (ap (λ d. Err d) (same_error memory)) | inr left ↦ inr left ]

-- ONE CHANGE ------------------------------------------------------------------------------------------------------

-- the function grows; no record is lost, and what waits is what waited
pub counts_grown : {Fits : ℕ → Type 0} {begun left most : ℕ} {f g : Body} {s t : SsaState} → most + 2 * left ≤ 2 * begun → AddsAtMost most f g → NoneLost s t
    → SameBlocks s t → CountsFor Fits begun f s left g t
counts_grown {s = s} {t = t} room adds lost same = record {
  each = λ variables blocks fits exist.
      let pairs : recorded_pairs variables blocks s ≤ recorded_pairs variables blocks t = pairs_stay variables blocks s t lost in
      let waiting : waiting_below blocks t ≡ waiting_below blocks s = waiting_same blocks s t same in
      record {
        values = omega (arith, room, adds.values, pairs, waiting);
        insts = omega (arith, room, adds.insts, pairs, waiting);
        waits = waits_same variables s t same;
      };
}

pub counts_none : {Fits : ℕ → Type 0} (begun : ℕ) (f : Body) (s : SsaState) → CountsFor Fits begun f s begun f s
counts_none begun f s = counts_grown (omega arith) (adds_same f f refl) (λ y c none. none) (λ c. refl)

-- a new parameter of a block is recorded for a variable
module _ (x b begun : ℕ) (ty : «Type») (f g : Body) (s t : SsaState) (exists : b < length f.blocks) (made : g ≡ with_param f b ty) (none : record_of s x b ≡ None)
    (some : record_of t x b ≢ None) (lost : NoneLost s t)
  where
    values_more : length g.values ≡ length f.values + 1
    values_more = ap (λ (h : Body). length h.values) made ∙ grind (arith, common_steps)

    insts_same : length g.insts ≡ length f.insts
    insts_same = ap (λ (h : Body). length h.insts) made

    pairs_more : (variables blocks : ℕ) → x < variables → length f.blocks ≤ blocks → recorded_pairs variables blocks s + 1 ≤ recorded_pairs variables blocks t
    pairs_more variables blocks fits exist = pairs_gain variables blocks s t lost x b fits (omega (arith, exists, exist)) none some

    -- its look-up is under way
    pub counts_begun : SameBlocks s t → CountsFor (◌<◌ x) begun f s (suc begun) g t
    counts_begun same = record {
      each = λ variables blocks fits exist.
          let waiting : waiting_below blocks t ≡ waiting_below blocks s = waiting_same blocks s t same in
          record {
            values = omega (arith, values_more, pairs_more variables blocks fits exist, waiting);
            insts = omega (arith, insts_same, pairs_more variables blocks fits exist, waiting);
            waits = waits_same variables s t same;
          };
    }

    -- it waits
    pub counts_waiting : (v : ℕ) → ((c : ℕ) → sealed_of t c ≡ (if c == b then No (pending_of (sealed_of s c) ++ record { variable = x; param = v } ∷ []) else sealed_of s c))
        → CountsFor (◌<◌ x) begun f s begun g t
    counts_waiting v waits = record {
      each = λ variables blocks fits exist.
          let p : Pending = record { variable = x; param = v } in
          let waiting : waiting_below blocks t ≤ waiting_below blocks s + 1 = waiting_one s t b p waits blocks in
          record {
            values = omega (arith, values_more, pairs_more variables blocks fits exist, waiting);
            insts = omega (arith, insts_same, pairs_more variables blocks fits exist, waiting);
            waits = waits_one s t b p waits variables fits;
          };
    }

-- a block is sealed: the look-ups of those that waited are to be made
pub counts_sealed : {Fits : ℕ → Type 0} (f : Body) (s t : SsaState) (b : ℕ) → b < length f.blocks → Seals s t b → SameRecords s t
    → CountsFor Fits 0 f s (length (pending_of (sealed_of s b))) f t
counts_sealed f s t b exists seals records = record {
  each = λ variables blocks fits exist.
      let pairs : recorded_pairs variables blocks s ≤ recorded_pairs variables blocks t = pairs_stay variables blocks s t (none_lost s t records) in
      let waiting : waiting_below blocks t + length (pending_of (sealed_of s b)) ≤ waiting_below blocks s = waiting_sealed s t b seals blocks (omega (arith, exists, exist)) in
      record {
        values = omega (arith, pairs, waiting);
        insts = omega (arith, pairs, waiting);
        waits = waits_sealed s t b seals variables;
      };
}

-- ONE AFTER ANOTHER -----------------------------------------------------------------------------------------------

pub counts_then : {Fits Others : ℕ → Type 0} {begun between left : ℕ} {f g h : Body} {s t u : SsaState}
    → ((variables : ℕ) → Fits variables → (WaitsBelow variables s → WaitsBelow variables t) → Others variables) → length g.blocks ≡ length f.blocks
    → CountsFor Fits begun f s between g t → CountsFor Others between g t left h u → CountsFor Fits begun f s left h u
counts_then {begun = begun} {between = between} {left = left} {f = f} {g = g} {h = h} {s = s} {t = t} {u = u} follows same first next = record {
  each = λ variables blocks fits exist.
      let one : MakesCounted variables blocks begun f s between g t = first.each variables blocks fits exist in
      let two : MakesCounted variables blocks between g t left h u = next.each variables blocks (follows variables fits one.waits) (omega (arith, exist, same)) in
      record {
        values = omega (arith, one.values, two.values);
        insts = omega (arith, one.insts, two.insts);
        waits = λ waits. two.waits (one.waits waits);
      };
}

-- with more look-ups under way before, of which as many may be left
pub counts_room : {Fits : ℕ → Type 0} {begun left : ℕ} (more_begun more_left : ℕ) {f g : Body} {s t : SsaState} → more_left + begun ≤ left + more_begun
    → CountsFor Fits begun f s left g t → CountsFor Fits more_begun f s more_left g t
counts_room {begun = begun} {left = left} more_begun more_left {f = f} {g = g} {s = s} {t = t} room counts = record {
  each = λ variables blocks fits exist.
      let one : MakesCounted variables blocks begun f s left g t = counts.each variables blocks fits exist in
      record { values = omega (arith, room, one.values); insts = omega (arith, room, one.insts); waits = one.waits };
}

-- WHOLE STEPS -----------------------------------------------------------------------------------------------------

-- whatever the answer is
pub counts_any : {Fits : ℕ → Type 0} {begun : ℕ} {f g : Body} {s t : SsaState} {A : Type 0} {answer : Result A BuildError} → CountsFor Fits begun f s 0 g t
    → StepCounts Fits begun f s g t answer
counts_any made = record { counts = λ some. made }

pub counts_made : {Fits : ℕ → Type 0} {begun : ℕ} {f g : Body} {s t : SsaState} {A : Type 0} {a : A} → StepCounts Fits begun f s g t (Ok a)
    → CountsFor Fits begun f s 0 g t
counts_made {A = A} {a = a} step = step.counts (λ memory. let no : ◌≡◌ {A = Result A BuildError} (Ok a) (Err Memory) = memory in cc)

-- memory was refused
pub counts_memory : {Fits : ℕ → Type 0} {begun : ℕ} {f g : Body} {s t : SsaState} {A B : Type 0} (e : BuildError) → ◌≡◌ {A = Result A BuildError} (Err e) (Err Memory)
    → StepCounts Fits begun f s g t {A = B} (Err e)
counts_memory e memory = record { counts = λ some. absurd (some (ap (λ d. Err d) (same_error memory))) }

-- an error is passed on
pub counts_as : {Fits : ℕ → Type 0} {begun : ℕ} {f g : Body} {s t : SsaState} {A B : Type 0} {e : BuildError} → StepCounts Fits begun f s g t {A = A} (Err e)
    → StepCounts Fits begun f s g t {A = B} (Err e)
counts_as step = record { counts = λ some. step.counts (λ memory. some (ap (λ d. Err d) (same_error memory))) }

-- a step follows
pub counts_next : {Fits Others : ℕ → Type 0} {begun between : ℕ} {f g h : Body} {s t u : SsaState} {A : Type 0} {answer : Result A BuildError}
    → ((variables : ℕ) → Fits variables → (WaitsBelow variables s → WaitsBelow variables t) → Others variables) → length g.blocks ≡ length f.blocks
    → CountsFor Fits begun f s between g t → StepCounts Others between g t h u answer → StepCounts Fits begun f s h u answer
counts_next follows same first next = record { counts = λ some. counts_then follows same first (next.counts some) }

-- the next step stops
pub counts_stopped : {Fits : ℕ → Type 0} {begun left : ℕ} (most : ℕ) {f g : Body} (h : Body) {s t : SsaState} (u : SsaState) {A B : Type 0} (e : BuildError)
    → most ≤ 2 * left → length g.blocks ≡ length f.blocks → CountsFor Fits begun f s left g t → StepStops most g t h u {A = A} (Err e)
    → StepCounts Fits begun f s h u {A = B} (Err e)
counts_stopped most h {t = t} u e room same first stops = record {
  counts = λ some.
      elim stops [
        | inl memory ↦ absurd (some (ap (λ d. Err d) (same_error memory)))
        | inr end ↦
            counts_then (λ variables fits waits. fits) same first
            (counts_grown (omega (arith, room)) end.1
            (none_lost t u (λ y c. ap (λ (r : SsaState). record_of r y c) end.0)) (λ c. ap (λ (r : SsaState). sealed_of r c) end.0))
      ];
}
