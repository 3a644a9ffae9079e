-- Parameters that waited in a block are completed, and the block is sealed.
use Rattle.std.proofs.Common.{◌≡◌, ◌≢◌, ℕ, suc, ◌<◌, ◌≤◌, ◌+◌, ◌==◌, Bool, true, false, List, [], ◌∷◌, ◌++◌, length, drop, get_or, refl, ap, arith, sym, ◌∙◌, subst, ◌⊎◌, inl, inr, append-nil}
use Rattle.std.specs.Prelude.{Contains, Result, Ok, Err, OnOk, OnErr, IfOk, if◌then◌else◌}
use Rattle.std.proofs.lemmas.Grind.{common_steps}
use Rattle.std.proofs.Math.Seq.{drop-cons}
use Rattle.std.proofs.lemmas.Bool.{cases_eq}
use Rattle.clif_types.specs.declared.types.«Type».{«Type»}
use Rattle.clif_types.specs.declared.error.BuildError.{BuildError}
use Rattle.clif_ir.specs.Body.{Body, value_at}
use Rattle.clif_records.specs.declared.look_up.Call.{Call}
use Rattle.clif_records.specs.declared.look_up.Call.TheVariants.{UseVar, FinishPredecessorsLookup}
use Rattle.clif_records.specs.declared.side_effects.SideEffects.{SideEffects}
use Rattle.clif_records.specs.declared.tables.Pending.{Pending}
use Rattle.clif_records.specs.Tables.{Sealed, SsaBlock, Yes, is_yes, pending_of, predecessors_at, sealed_at}
use Rattle.clif_ssa.specs.Ssa.{SsaState, sealed_of, predecessors_of, lookups_of, completed, completing_blocks, counted_for, KnowsNoMore, NamesExist, Named, Seals, SealedStays, SamePredecessors, SameRecords, SameLookups, CountsLookup, CountsEach}
use Rattle.clif_records.specs.Stacks.{LookUpState, calls_for}
use Rattle.clif_ssa.specs.LookUp.{Stage, CompletesParameter}
use Rattle.clif_ssa.specs.Running.{stage, found, Balances, CallExists, CallsFit, CompletesAll, MakesAll}
use Rattle.clif_ssa.specs.Sealing.{SealsOne, SealsLocally}
use Rattle.clif_ssa.proofs.Ordering.{contains_more, contains_first, contains_cons, none_contained}
use Rattle.clif_ssa.proofs.Calling.{balances-same, begun-balance}
use Rattle.clif_ssa.proofs.Naming.{named-more}

-- A LOOK-UP BEGINS ------------------------------------------------------------------------------------------------

abbrev state_with : List Call → List ℕ → List ℕ → LookUpState
state_with calls results zeros = record { calls = calls; results = results; zeros = zeros }

calls_exist : (ty : «Type») (f : Body) (branches : List ℕ) (param block : ℕ) → ((i : ℕ) → Contains branches i → i < length f.insts)
    → (param < length f.values) × ((value_at f param).ty ≡ ty) → (call : Call) → Contains (calls_for branches param block) call → CallExists ty f call
calls_exist ty f [] param block lead there call here =
    elim (contains_cons (FinishPredecessorsLookup param block) [] call here) [
      | inl is ↦ subst (λ k. CallExists ty f k) is there
      | inr later ↦ absurd (none_contained call later)
    ]
calls_exist ty f (i ∷ branches) param block lead there call here =
    elim (contains_cons (UseVar i) (calls_for branches param block) call here) [
      | inl is ↦ subst (λ k. CallExists ty f k) is (lead i (contains_first i branches))
      | inr later ↦ calls_exist ty f branches param block (λ j at. lead j (contains_more i branches j at)) there call later
    ]

begun_state : (xs : List Call) (l k : LookUpState) → l.calls ≡ [] → l.results ≡ [] → k ≡ state_with (xs ++ l.calls) l.results l.zeros → k ≡ state_with xs [] l.zeros
begun_state xs l k calls results is =
    is ∙ ap (λ cs. state_with (xs ++ cs) l.results l.zeros) calls ∙ ap (λ rs. state_with (xs ++ []) rs l.zeros) results ∙ ap (λ cs. state_with cs [] l.zeros) (append-nil xs)

-- what was begun can be run to its end
pub begun-fits : (ty : «Type») (f : Body) (s t : SsaState) (l k : LookUpState) (param block : ℕ) → NamesExist f s → SamePredecessors s t
    → (param < length f.values) × ((value_at f param).ty ≡ ty)
    → l.calls ≡ [] → l.results ≡ [] → k ≡ record l { calls = calls_for (predecessors_of s block) param block ++ l.calls } → CallsFit ty f t k
begun-fits ty f s t l k param block named same there calls results is =
    let xs : List Call = calls_for (predecessors_of s block) param block in
    subst (λ j. CallsFit ty f t j) (sym (begun_state xs l k calls results is)) (record {
      calls = calls_exist ty f (predecessors_of s block) param block (λ i at. named.leading block i at) there;
      results = λ i inside. absurd (omega (arith, inside));
      balances = balances-same s t xs 0 same (begun-balance_alone s param block);
    })
  where
    begun-balance_alone : (r : SsaState) (v b : ℕ) → Balances r (calls_for (predecessors_of r b) v b) 0
    begun-balance_alone r v b =
        subst (λ ys. Balances r ys 0) (append-nil (calls_for (predecessors_of r b) v b)) (begun-balance r v b [] 0 refl)

-- COMPLETION ------------------------------------------------------------------------------------------------------

stage_is : (n : Stage) (f : Body) (s : SsaState) (l : LookUpState) → n.function ≡ f → n.state ≡ s → n.look_up ≡ l → n ≡ stage f s l
stage_is n f s l function state look_up =
    ap (λ g. stage g n.state n.look_up) function ∙ ap (λ r. stage f r n.look_up) state ∙ ap (λ k. stage f s k) look_up

-- the last result is taken, and no call is left
pub result-taken : (l next new : LookUpState) (value : ℕ) → l.calls ≡ [] → next ≡ l → next.results ≡ value ∷ [] → new ≡ record next { results = [] }
    → (l ≡ found value new.zeros) × (new ≡ record { calls = []; results = []; zeros = l.zeros })
result-taken l next new value none same one taken =
    let left : next.calls ≡ [] = ap (λ (j : LookUpState). j.calls) same ∙ none in
    let told : next.zeros ≡ l.zeros = ap (λ (j : LookUpState). j.zeros) same in
    let kept : new.zeros ≡ next.zeros = ap (λ (j : LookUpState). j.zeros) taken in
    let results : l.results ≡ value ∷ [] = ap (λ (j : LookUpState). j.results) (sym same) ∙ one in (
      λ i. state_with (none i) (results i) (sym (kept ∙ told) i),
      taken ∙ (λ i. state_with (left i) [] (told i)),
    )

pub parameter-completed : (x : ℕ) (ty : «Type») (param block value : ℕ) (f : Body) (s t : SsaState) (l k : LookUpState) (n : Stage) → SameRecords s t → t.blocks ≡ s.blocks
    → t.tracking ≡ s.tracking → CountsLookup s t x block → k ≡ record l { calls = calls_for (predecessors_of s block) param block ++ l.calls } → MakesAll x ty (stage f t k) value n
    → CompletesParameter x ty param block (stage f s l) n
parameter-completed x ty param block value f s t l k n records blocks tracking counted begun all = record {
  begun = stage f t k;
  done = all.last;
  value = value;
  same_function = refl;
  same_records = records;
  same_blocks = λ b. ap (λ (bs : List SsaBlock). sealed_at bs b) blocks;
  same_predecessors = λ b. ap (λ (bs : List SsaBlock). predecessors_at bs b) blocks;
  same_tracking = tracking;
  begins = record { counted = counted; look_up = begun };
  made = all.made;
  answered = ap (λ (j : LookUpState). j.results) all.ended;
  ended = ap (λ (j : LookUpState). j.calls) all.ended;
  next = stage_is n all.last.function all.last.state (state_with all.last.look_up.calls [] all.last.look_up.zeros) all.function all.state
      (all.look_up ∙ ap (λ cs. state_with cs [] all.last.look_up.zeros) (sym (ap (λ (j : LookUpState). j.calls) all.ended)));
}

pub drop-item : (waiting : List Pending) (i : ℕ) (p : Pending) → i < length waiting → p ≡ get_or waiting i p → drop i waiting ≡ p ∷ drop (i + 1) waiting
drop-item waiting i p inside at =
    let next : suc i ≡ i + 1 = omega arith in
    drop-cons waiting i p inside ∙ ap (λ q. q ∷ drop (suc i) waiting) (sym at) ∙ ap (λ k. p ∷ drop k waiting) next

-- one more of the parameters is completed
pub all-further : (block i : ℕ) (waiting : List Pending) (p : Pending) (m k n : Stage) → drop i waiting ≡ p ∷ drop (i + 1) waiting
    → CompletesParameter p.variable (value_at m.function p.param).ty p.param block m k → CompletesAll block (drop (i + 1) waiting) k n
    → CompletesAll block (drop i waiting) m n
all-further block i waiting p m k n is first rest = subst (λ ps. CompletesAll block ps m n) (sym is) (k, first, rest)

-- SEALING ---------------------------------------------------------------------------------------------------------

pub sealed-named : (f : Body) (s t : SsaState) (b : ℕ) → Seals s t b → SameRecords s t → SamePredecessors s t → NamesExist f s → NamesExist f t
sealed-named f s t b seals records same named =
    named-more f f s t (record { values = omega arith; insts = omega arith; blocks = refl }) same (λ y c v at. inl (sym (records y c) ∙ at))
    (λ c p here. inl (by c p (c == b) (subst (λ entry. Contains (pending_of entry) p) (seals c) here))) named
  where
    by : (c : ℕ) (p : Pending) (test : Bool) → Contains (pending_of (if test then Yes else sealed_of s c)) p → Contains (pending_of (sealed_of s c)) p
    by c p true here = absurd (none_contained p here)
    by c p false here = here

if-yes : (test : Bool) (x : Sealed) → is_yes (if test then Yes else x) ≡ (if test then true else is_yes x)
if-yes true x = refl
if-yes false x = refl

pub seals-one : (s t u : SsaState) (b : ℕ) → Seals s t b → SealedStays t u → SealsOne s u b
seals-one s t u b seals stays c = stays c ∙ ap is_yes (seals c) ∙ if-yes (c == b) (sealed_of s c)

-- a branch leads to the block, so what the state names exists
pub leading-named : (f : Body) (s : SsaState) (b : ℕ) → Named f s → predecessors_of s b ≢ [] → NamesExist f s
leading-named f s b named some = by (predecessors_of s b) refl
  where
    by : (branches : List ℕ) → predecessors_of s b ≡ branches → NamesExist f s
    by [] none = absurd (some none)
    by (i ∷ branches) is = named (b, i, subst (λ xs. Contains xs i) (sym is) (contains_first i branches))

pub named-kept : (f g : Body) (s t : SsaState) → SamePredecessors s t → (NamesExist f s → NamesExist g t) → Named f s → Named g t
named-kept f g s t same keeps named (b, i, here) = keeps (named (b, i, subst (λ xs. Contains xs i) (same b) here))

-- the blocks below the next one are sealed
pub sealed-below : (s t : SsaState) (k : ℕ) → ((b : ℕ) → b < k → is_yes (sealed_of s b) ≡ true) → SealsOne s t k → (b : ℕ) → b < k + 1 → is_yes (sealed_of t b) ≡ true
sealed-below s t k below seals b inside =
    elim (cases_eq b k) [
      | inl here ↦ seals b ∙ grind (arith, common_steps, here)
      | inr apart ↦ seals b ∙ (let old : is_yes (sealed_of s b) ≡ true = below b (omega (arith, inside, apart)) in grind (arith, common_steps, apart, old))
    ]

pub on_any : {T E A : Type 0} (answer : Result T E) → A → OnOk answer A
on_any (Ok v) holds = holds
on_any (Err e) holds = tt

pub on_any_err : {T E A : Type 0} (answer : Result T E) → A → OnErr answer A
on_any_err (Ok v) holds = tt
on_any_err (Err e) holds = holds

-- what is sealed stays so, whether one block more is sealed or none
pub still-sealed : (s t : SsaState) (b : ℕ) → SealedStays s t ⊎ SealsOne s t b → (c : ℕ) → is_yes (sealed_of s c) ≡ true → is_yes (sealed_of t c) ≡ true
still-sealed s t b (inl stays) c is = stays c ∙ is
still-sealed s t b (inr seals) c is = seals c ∙ by (c == b)
  where
    by : (test : Bool) → (if test then true else is_yes (sealed_of s c)) ≡ true
    by true = refl
    by false = is

-- a block that isn't the one that is sealed stays as it was
pub other-same : (s t : SsaState) (b : ℕ) → SealedStays s t ⊎ SealsOne s t b → (c : ℕ) → c ≢ b → is_yes (sealed_of t c) ≡ is_yes (sealed_of s c)
other-same s t b (inl stays) c apart = stays c
other-same s t b (inr seals) c apart = seals c ∙ grind (arith, common_steps, apart)

-- no more blocks are known
pub no_more-self : (s : SsaState) (n : ℕ) → KnowsNoMore s s n
no_more-self s n = inl (omega arith)

pub no_more-then : (s t u : SsaState) (n m : ℕ) → m ≡ n → KnowsNoMore s t n → KnowsNoMore t u m → KnowsNoMore s u n
no_more-then s t u n m same (inl before) (inl after) = inl (omega (arith, before, after))
no_more-then s t u n m same (inr before) (inl after) = inr (omega (arith, before, after))
no_more-then s t u n m same (inl before) (inr after) = inr (omega (arith, same, after))
no_more-then s t u n m same (inr before) (inr after) = inr (omega (arith, same, after))

no_more-within : (s t : SsaState) (n m : ℕ) → m ≡ n → length s.blocks ≤ n → KnowsNoMore s t m → length t.blocks ≤ n
no_more-within s t n m same before (inl after) = omega (arith, before, after)
no_more-within s t n m same before (inr after) = omega (arith, same, after)

-- nor as one of the known ones is sealed
pub no_more-sealed : (s t : SsaState) (n m b count : ℕ) → b < count → count ≤ n → m ≡ n → length s.blocks ≤ n → (b < m → KnowsNoMore s t m) → length t.blocks ≤ n
no_more-sealed s t n m b count inside fits same before seals = no_more-within s t n m same before (seals (omega (arith, inside, fits, same)))

-- a look-up is counted for the first of these parameters
pub counted-next : (s t : SsaState) (block : ℕ) (p : Pending) (rest waiting : List Pending) → waiting ≡ p ∷ rest → CountsLookup s t p.variable block → (v b : ℕ)
    → counted_for block rest v b (lookups_of t v b) ≡ counted_for block waiting v b (lookups_of s v b)
counted-next s t block p rest waiting is counts v b =
    ap (λ n. counted_for block rest v b n) (counts v b) ∙ ap (λ ps. counted_for block ps v b (lookups_of s v b)) (sym is)

pub counted-all : (s t : SsaState) (block : ℕ) (waiting : List Pending) (k : ℕ) → drop k waiting ≡ []
    → ((v b : ℕ) → counted_for block (drop k waiting) v b (lookups_of t v b) ≡ counted_for block waiting v b (lookups_of s v b)) → CountsEach s t block waiting
counted-all s t block waiting k none counts v b = ap (λ ps. counted_for block ps v b (lookups_of t v b)) (sym none) ∙ counts v b

-- the same from the state before the block was sealed
counted-since : (s t u : SsaState) (block : ℕ) (waiting pending : List Pending) (answer : Result SideEffects BuildError) → SameLookups s t → waiting ≡ pending
    → OnOk answer (CountsEach t u block waiting) → OnOk answer (CountsEach s u block pending)
counted-since s t u block waiting pending (Ok r) lookups same counts =
    λ v b. subst (λ ps. CountsEach t u block ps) same counts v b ∙ ap (λ n. counted_for block pending v b n) (lookups v b)
counted-since s t u block waiting pending (Err e) lookups same counts = tt

pub sealed-locally : (f g : Body) (s t u : SsaState) (b : ℕ) (waiting : List Pending) (answer : Result SideEffects BuildError) → Seals s t b → SameRecords s t → SameRecords t u
    → SameLookups s t → t.tracking ≡ s.tracking → u.tracking ≡ t.tracking → OnOk answer (CountsEach t u b waiting)
    → u.blocks ≡ t.blocks → waiting ≡ pending_of (sealed_of s b) → OnOk answer (g ≡ completed f waiting)
    → IfOk answer (λ r. r.instructions_added_to_blocks.items ≡ completing_blocks f waiting) → SealsLocally f s g u b answer
sealed-locally f g s t u b waiting answer seals first next lookups before after counts blocks same function told = record {
  sealed = on_any answer (λ c. ap (λ (bs : List SsaBlock). sealed_at bs c) blocks ∙ seals c);
  refused = on_any_err answer (inr (λ c. ap (λ (bs : List SsaBlock). sealed_at bs c) blocks ∙ seals c));
  records = λ x c. next x c ∙ first x c;
  tracking = after ∙ before;
  counted = counted-since s t u b waiting (pending_of (sealed_of s b)) answer lookups same counts;
  function = subst (λ ps. OnOk answer (g ≡ completed f ps)) same function;
  told = subst (λ ps. IfOk answer (λ r. r.instructions_added_to_blocks.items ≡ completing_blocks f ps)) same told;
}
