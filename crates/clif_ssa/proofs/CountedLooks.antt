-- How much the look-up of a variable makes.
use Rattle.std.proofs.Common.{◌≡◌, ℕ, suc, ◌+◌, ◌*◌, ◌<◌, ◌==◌, List, [], ◌∷◌, ◌++◌, length, drop, refl, ap, arith, sym, ◌∙◌, subst, ◌⊎◌, inl, inr}
use Rattle.std.specs.Prelude.{Contains, Err, Option, Result, Some, None, reverse, if◌then◌else◌}
use Rattle.clif_types.specs.declared.error.BuildError.{BuildError}
use Rattle.clif_types.specs.declared.types.«Type».{«Type»}
use Rattle.clif_ir.specs.Body.{Body}
use Rattle.clif_ir.specs.Changes.{with_param}
use Rattle.clif_ir.specs.Reading.{param_home}
use Rattle.clif_records.specs.declared.look_up.Call.{Call}
use Rattle.clif_records.specs.declared.look_up.Call.TheVariants.{UseVar, FinishPredecessorsLookup}
use Rattle.clif_records.specs.declared.tables.Pending.{Pending}
use Rattle.clif_records.specs.Stacks.{LookUpState, calls_for, no_look_up}
use Rattle.clif_records.specs.Tables.{No, pending_of, record_at, sealed_at}
use Rattle.clif_ssa.specs.Counted.{finishes, AddsAtMost, AreBelow, CountsFor, StepCounts, WaitsBelow}
use Rattle.clif_ssa.specs.LookUp.{Stage, AddsParameter, FindsRecord, LooksUp, MakesCall, IsNoParameter, EndsLookUp, branch_block, with_calls}
use Rattle.clif_ssa.specs.Running.{stage}
use Rattle.clif_ssa.specs.Ssa.{SsaState, record_of, sealed_of, predecessors_of, Records, SameBlocks, SameRecords, Seals}
use Rattle.clif_ssa.proofs.Counted.{adds_alias, adds_arguments, adds_more, adds_same, adds_zeroed}
use Rattle.clif_ssa.proofs.CountedOnce.{here_recorded, none_lost, records_kept, stay_lost}
use Rattle.clif_ssa.proofs.CountedSteps.{counts_any, counts_as, counts_begun, counts_grown, counts_next, counts_none, counts_room, counts_sealed, counts_then, counts_waiting}
use Rattle.clif_ssa.proofs.Looking.{added_recorded, added_stays, copies_stay, walk_unrecorded}
use Rattle.clif_ssa.proofs.Naming.{param_more}

some_none : {v : ℕ} {o : Option ℕ} → o ≡ Some v → o ≡ None → ⊥
some_none some none = cc

-- from one stage of the look-up of a variable to another one
abbrev pub StageCounts : ℕ → Stage → Stage → Type 0
StageCounts x m n = CountsFor (◌<◌ x) (finishes m.look_up.calls) m.function m.state (finishes n.look_up.calls) n.function n.state

-- one look-up of a parameter more is to be ended
pub finishes_more : (branches : List ℕ) (param block : ℕ) (calls : List Call) → finishes (calls_for branches param block ++ calls) ≡ suc (finishes calls)
finishes_more [] param block calls = refl
finishes_more (i ∷ branches) param block calls = finishes_more branches param block calls

pub finishes_next : (call : Call) (calls : List Call) → finishes (call ∷ calls) ≡ finishes (call ∷ []) + finishes calls
finishes_next (UseVar branch) calls = omega arith
finishes_next (FinishPredecessorsLookup param block) calls = omega arith

found_counts : (x block : ℕ) (m n : Stage) → FindsRecord x block m n → StageCounts x m n
found_counts x block m n finds =
    let calls : finishes n.look_up.calls ≡ finishes m.look_up.calls = ap (λ (l : LookUpState). finishes l.calls) finds.look_up in
    counts_grown (omega (arith, calls)) (adds_same m.function n.function finds.function)
    (stay_lost m.state n.state
    (copies_stay m.state n.state x finds.value finds.passed finds.copies (walk_unrecorded m.function m.state x finds.passed block finds.reached finds.walks.walk)))
    finds.blocks

-- the variable is looked up in a block
pub looks_count : (x : ℕ) (ty : «Type») (block : ℕ) (m n : Stage) → LooksUp x ty block m n → StageCounts x m n
looks_count x ty block m n (inl finds) = found_counts x block m n finds
looks_count x ty block m n (inr (inl waits)) =
    let adds : AddsParameter x ty block waits.reached m n = waits.adds in
    let calls : finishes n.look_up.calls ≡ finishes m.look_up.calls = ap (λ (l : LookUpState). finishes l.calls) waits.look_up in
    subst (λ left. CountsFor (◌<◌ x) (finishes m.look_up.calls) m.function m.state left n.function n.state) (sym calls)
    (counts_waiting x waits.reached (finishes m.look_up.calls) ty m.function n.function m.state n.state adds.exists adds.function adds.unrecorded
    (some_none (added_recorded x ty block waits.reached m n adds)) (stay_lost m.state n.state (added_stays x ty block waits.reached m n adds)) (length m.function.values) waits.blocks)
looks_count x ty block m n (inr (inr begins)) =
    let adds : AddsParameter x ty block begins.reached m n = begins.adds in
    let calls : finishes n.look_up.calls ≡ suc (finishes m.look_up.calls) =
    ap (λ (l : LookUpState). finishes l.calls) begins.begins.look_up
    ∙ finishes_more (predecessors_of m.state begins.reached) (length m.function.values) begins.reached m.look_up.calls in
    subst (λ left. CountsFor (◌<◌ x) (finishes m.look_up.calls) m.function m.state left n.function n.state) (sym calls)
    (counts_begun x begins.reached (finishes m.look_up.calls) ty m.function n.function m.state n.state adds.exists adds.function adds.unrecorded
    (some_none (added_recorded x ty block begins.reached m n adds)) (stay_lost m.state n.state (added_stays x ty block begins.reached m n adds)) begins.blocks)

-- the look-up of a parameter ends
ended_adds : (param block value : ℕ) (branches results zeros : List ℕ) (g h : Body)
    → IsNoParameter param g h value zeros ⊎ ((home : ℕ) × (param_home g param ≡ Some home) × EndsLookUp param home block branches results g h value zeros)
    → AddsAtMost 2 g h
ended_adds param block value branches results zeros g h (inl gone) = adds_more 0 2 g h (omega arith) (adds_same g h gone.function)
ended_adds param block value branches results zeros g h (inr (home, is, inl zero)) = subst (AddsAtMost 2 g) (sym zero.function) (adds_zeroed g home param)
ended_adds param block value branches results zeros g h (inr (home, is, inr (inl one))) =
    adds_more 0 2 g h (omega arith) (adds_alias g h param value one.function)
ended_adds param block value branches results zeros g h (inr (home, is, inr (inr several))) =
    adds_more 0 2 g h (omega arith) (subst (AddsAtMost 0 g) (sym several.function) (adds_arguments branches results g block))

-- a call is made
pub call_counts : (x : ℕ) (ty : «Type») (m n : Stage) → MakesCall x ty m n → StageCounts x m n
call_counts x ty m n (inl look) =
    subst (λ calls. CountsFor (◌<◌ x) (finishes calls) m.function m.state (finishes n.look_up.calls) n.function n.state) (sym look.is_next)
    (looks_count x ty (branch_block m.function look.branch) (with_calls m look.calls) n look.looks)
call_counts x ty m n (inr finish) =
    let end = finish.finishes in
    let before : finishes m.look_up.calls ≡ suc (finishes finish.calls) = ap finishes finish.is_next in
    let after : finishes n.look_up.calls ≡ finishes finish.calls = ap (λ (l : LookUpState). finishes l.calls) end.look_up in
    counts_grown (omega (arith, before, after))
    (ended_adds finish.param finish.block end.value (predecessors_of m.state finish.block) (reverse end.results) end.zeros m.function n.function end.ends)
    (none_lost m.state n.state (λ y b. ap (λ (t : SsaState). record_of t y b) end.state)) (λ b. ap (λ (t : SsaState). sealed_of t b) end.state)

-- WHOLE STEPS -----------------------------------------------------------------------------------------------------

-- a new parameter of a block, to which nothing comes, is a name of a zero, or lacks steps of it
pub zero_counts : (x b v : ℕ) (ty : «Type») (f g h : Body) (s t : SsaState) → b < length f.blocks → record_of s x b ≡ None → g ≡ with_param f b ty → Records s t x b v
    → SameBlocks s t → AddsAtMost 2 g h → CountsFor (◌<◌ x) 0 f s 0 h t
zero_counts x b v ty f g h s t exists none made recorded same adds =
    counts_then (λ variables fits waits. fits) (ap (λ (k : Body). length k.blocks) made ∙ (param_more f b ty).blocks)
    (counts_begun x b 0 ty f g s t exists made none (here_recorded s t x b v recorded) (records_kept s t x b v recorded) same)
    (counts_grown (omega arith) adds (λ y c lost. lost) (λ c. refl))

-- one waits
pub waits_count : (x b v : ℕ) (ty : «Type») (f g : Body) (s t : SsaState) → b < length f.blocks → record_of s x b ≡ None → g ≡ with_param f b ty → Records s t x b v
    → ((c : ℕ) → sealed_of t c ≡ (if c == b then No (pending_of (sealed_of s c) ++ record { variable = x; param = v } ∷ []) else sealed_of s c))
    → CountsFor (◌<◌ x) 0 f s 0 g t
waits_count x b v ty f g s t exists none made recorded waits =
    counts_waiting x b 0 ty f g s t exists made none (here_recorded s t x b v recorded) (records_kept s t x b v recorded) v waits

-- the look-up of a variable begins for a parameter that waited
pub completion_begins : (x param block : ℕ) (f : Body) (s t : SsaState) (l k : LookUpState) → SameRecords s t → SameBlocks s t → l.calls ≡ []
    → k ≡ record l { calls = calls_for (predecessors_of s block) param block ++ l.calls } → CountsFor (◌<◌ x) 1 f s (finishes k.calls) f t
completion_begins x param block f s t l k records blocks idle begun =
    let calls : finishes k.calls ≡ 1 =
    ap (λ (j : LookUpState). finishes j.calls) begun ∙ finishes_more (predecessors_of s block) param block l.calls ∙ ap (λ calls. suc (finishes calls)) idle in
    counts_grown (omega (arith, calls)) (adds_same f f refl) (none_lost s t records) blocks

-- the next parameter that waited is completed
pub item_counts : (waiting : List Pending) (p : Pending) (i begun : ℕ) (f g h : Body) (s t u : SsaState) → drop i waiting ≡ p ∷ drop (i + 1) waiting → Contains waiting p
    → length g.blocks ≡ length f.blocks → CountsFor (λ variables. AreBelow variables waiting) begun f s (length (drop i waiting)) g t
    → CountsFor (◌<◌ p.variable) 1 g t 0 h u → CountsFor (λ variables. AreBelow variables waiting) begun f s (length (drop (i + 1) waiting)) h u
item_counts waiting p i begun f g h s t u is here same before next =
    let count : length (drop i waiting) ≡ suc (length (drop (i + 1) waiting)) = ap length is in
    counts_then (λ variables below waits. below p here) same before (counts_room _ _ (omega (arith, count)) next)

-- or the step stops
pub item_stops : (waiting : List Pending) (p : Pending) (i begun : ℕ) (f g h : Body) (s t u : SsaState) {A B : Type 0} (e : BuildError)
    → drop i waiting ≡ p ∷ drop (i + 1) waiting → Contains waiting p → length g.blocks ≡ length f.blocks
    → CountsFor (λ variables. AreBelow variables waiting) begun f s (length (drop i waiting)) g t → StepCounts (◌<◌ p.variable) 1 g t h u {A = A} (Err e)
    → StepCounts (λ variables. AreBelow variables waiting) begun f s h u {A = B} (Err e)
item_stops waiting p i begun f g h s t u e is here same before next =
    let count : length (drop i waiting) ≡ suc (length (drop (i + 1) waiting)) = ap length is in
    counts_as (counts_next (λ variables below waits. below p here) same (counts_room begun 1 (omega (arith, count)) before) next)

-- a use begins
pub use_begins : (x : ℕ) (ty : «Type») (b : ℕ) (f g : Body) (s t : SsaState) (l k : LookUpState) → l ≡ no_look_up → LooksUp x ty b (stage f s l) (stage g t k)
    → CountsFor (◌<◌ x) 0 f s (finishes k.calls) g t
use_begins x ty b f g s t l k nothing looks =
    counts_room 0 (finishes k.calls) (omega (arith, ap (λ (j : LookUpState). finishes j.calls) nothing)) (looks_count x ty b (stage f s l) (stage g t k) looks)

-- a block is sealed, and then what waited in it is completed
pub sealing_counts : (b : ℕ) (f g : Body) (s t u : SsaState) (waiting : List Pending) {A : Type 0} {answer : Result A BuildError} → b < length f.blocks → Seals s t b
    → t.records ≡ s.records → waiting ≡ pending_of (sealed_of s b) → StepCounts (λ variables. AreBelow variables waiting) (length waiting) f t g u answer
    → StepCounts (λ variables. WaitsBelow variables s) 0 f s g u answer
sealing_counts b f g s t u waiting exists seals records same completes =
    counts_next (λ variables below waits. subst (AreBelow variables) (sym same) (below b)) refl
    (counts_room 0 (length waiting) (omega (arith, ap length same)) (counts_sealed f s t b exists seals (λ y c. ap (λ rows. record_at rows y c) records))) completes

-- nothing waited
pub nothing_counts : {Fits : ℕ → Type 0} {A : Type 0} {answer : Result A BuildError} (waiting : List Pending) (f : Body) (s : SsaState)
    → StepCounts Fits (length waiting) f s f s answer
nothing_counts waiting f s = counts_any (counts_room (length waiting) 0 (omega arith) (counts_none (length waiting) f s))

-- it became names of zeros, or some of it did
pub zeros_count : {Fits : ℕ → Type 0} {A : Type 0} {answer : Result A BuildError} (waiting : List Pending) (f g : Body) (s t : SsaState)
    → AddsAtMost (2 * length waiting) f g → SameRecords s t → t.blocks ≡ s.blocks → StepCounts Fits (length waiting) f s g t answer
zeros_count waiting f g s t adds records blocks =
    counts_any (counts_grown (omega arith) adds (none_lost s t records) (λ c. ap (λ known. sealed_at known c) blocks))
