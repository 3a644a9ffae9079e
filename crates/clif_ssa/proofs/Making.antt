-- A look-up in a block, as the walk, a record or a new parameter, and the copies make it.
use Rattle.std.proofs.Common.{◌≡◌, ℕ, zero, suc, ◌<◌, ◌==◌, ◌&&◌, ◌||◌, Bool, true, false, List, [], ◌∷◌, length, refl, ap, arith, sym, ◌∙◌, subst, ◌⊎◌, inl, inr}
use Rattle.std.specs.Prelude.{Option, Some, None, slice_index, if◌then◌else◌, Contains}
use Rattle.std.proofs.lemmas.Grind.{common_steps}
use Rattle.std.proofs.lemmas.Bool.{cases_eq}
use Rattle.clif_types.specs.declared.types.«Type».{«Type»}
use Rattle.clif_ir.specs.Body.{Body}
use Rattle.clif_ir.specs.Changes.{with_param}
use Rattle.clif_instructions.specs.Members.{Stands, stands_in}
use Rattle.clif_instructions.proofs.Members.{Stands-from_test}
use Rattle.clif_records.specs.Tables.{is_yes, pending_of}
use Rattle.clif_ssa.specs.Ssa.{SsaState, record_of, lookups_of, sealed_of, predecessors_of, NamesExist, RecordsStay, SameLookups}
use Rattle.clif_records.specs.Passed.{before_first}
use Rattle.clif_records.specs.Stacks.{LookUpState}
use Rattle.clif_ssa.specs.LookUp.{Stage, IsWalk, WalksTo, Copies, AddsParameter, ParameterWaits, ParameterBegins, LooksUp}
use Rattle.clif_ssa.specs.Running.{stage, Adds, Got}
use Rattle.clif_records.proofs.Copying.{before-all}
use Rattle.clif_ssa.proofs.Naming.{named-more, has_more}

none_some : {x : ℕ} → ◌≡◌ {A = Option ℕ} None (Some x) → ⊥
none_some same = cc

same_some : {x y : ℕ} → ◌≡◌ {A = Option ℕ} (Some x) (Some y) → x ≡ y
same_some same = cc

-- no block that is passed records the variable
pub passed-unrecorded : (f : Body) (s : SsaState) (x block : ℕ) (passed : List ℕ) (reached : ℕ) → IsWalk f s x block passed reached
    → (k : ℕ) → k < length passed → record_of s x (slice_index passed k) ≡ None
passed-unrecorded f s x block [] reached walk k inside = absurd (omega (arith, inside))
passed-unrecorded f s x block (b ∷ passed) reached walk zero inside = ap (record_of s x) walk.0 ∙ walk.1
passed-unrecorded f s x block (b ∷ passed) reached walk (suc k) inside = passed-unrecorded f s x (walk.2).0 passed reached (walk.2).2 k (omega (arith, inside))

pub stands-unrecorded : (f : Body) (s : SsaState) (x block : ℕ) (passed : List ℕ) (reached b : ℕ) → IsWalk f s x block passed reached
    → stands_in b passed ≡ true → record_of s x b ≡ None
stands-unrecorded f s x block passed reached b walk there =
    let at : Stands b passed = Stands-from_test b passed there in
    ap (record_of s x) (sym at.2) ∙ passed-unrecorded f s x block passed reached walk at.0 at.1

-- a block that records the variable was not passed
pub all_before : (f : Body) (s : SsaState) (x block : ℕ) (passed : List ℕ) (reached v : ℕ) → IsWalk f s x block passed reached
    → record_of s x reached ≡ Some v → before_first reached passed ≡ passed
all_before f s x block passed reached v walk is =
    before-all reached passed (λ k inside same. none_some (sym (passed-unrecorded f s x block passed reached walk k inside) ∙ ap (record_of s x) same ∙ is))

-- one record, and then copies of it
recorded_then : (old mid new : ℕ → ℕ → Option ℕ) (x value b : ℕ) (blocks : List ℕ)
    → ((y c : ℕ) → mid y c ≡ (if y == x && c == b then Some value else old y c))
    → ((y c : ℕ) → new y c ≡ (if y == x && stands_in c blocks then Some value else mid y c))
    → (y c : ℕ) → new y c ≡ (if y == x && stands_in c (b ∷ blocks) then Some value else old y c)
recorded_then old mid new x value b blocks first next y c =
    next y c ∙ ap (λ cell. if y == x && stands_in c blocks then Some value else cell) (first y c)
    ∙ by (y == x) (stands_in c blocks) (c == b) (b == c) (old y c) (turned c b)
  where
    by : (row listed here same : Bool) (cell : Option ℕ) → here ≡ same
        → (if row && listed then Some value else (if row && here then Some value else cell)) ≡ (if row && (same || listed) then Some value else cell)
    by false listed here same cell is = refl
    by true true true true cell is = refl
    by true true true false cell is = absurd (let no : true ≡ false = is in cc)
    by true true false true cell is = absurd (let no : false ≡ true = is in cc)
    by true true false false cell is = refl
    by true false true true cell is = refl
    by true false true false cell is = absurd (let no : true ≡ false = is in cc)
    by true false false true cell is = absurd (let no : false ≡ true = is in cc)
    by true false false false cell is = refl

    turned : (p q : ℕ) → (p == q) ≡ (q == p)
    turned p q = elim (cases_eq p q) [ inl same ↦ grind (arith, common_steps, same) | inr other ↦ grind (arith, common_steps, other) ]

pub looks_up : (x : ℕ) (ty : «Type») (block : ℕ) (passed : List ℕ) (reached value : ℕ) (m n : Stage) (t : SsaState)
    → WalksTo m.function m.state x block passed reached → reached < length m.function.blocks → Got x ty reached value m n
    → Copies n.state t x value (before_first reached passed) → t.blocks ≡ n.state.blocks → SameLookups n.state t → t.tracking ≡ n.state.tracking
    → LooksUp x ty block m (stage n.function t n.look_up)
looks_up x ty block passed reached value m n t walks exists got copies blocks lookups tracking = by (record_of m.state x reached) refl
  where
    same_sealed : (b : ℕ) → sealed_of t b ≡ sealed_of n.state b
    same_sealed b = ap (λ bs. let s : SsaState = record t { blocks = bs } in sealed_of s b) blocks

    same_predecessors : (b : ℕ) → predecessors_of t b ≡ predecessors_of n.state b
    same_predecessors b = ap (λ bs. let s : SsaState = record t { blocks = bs } in predecessors_of s b) blocks

    copies_to : (v : ℕ) → value ≡ v → n.state ≡ m.state → record_of m.state x reached ≡ Some v → Copies m.state t x v passed
    copies_to v is same at =
        subst (λ s. Copies s t x v passed) same
        (subst (λ w. Copies n.state t x w passed) is
        (subst (λ bs. Copies n.state t x value bs) (all_before m.function m.state x block passed reached v walks.walk at) copies))

    adding : Adds x ty reached m n → value ≡ length m.function.values → record_of m.state x reached ≡ None → AddsParameter x ty block reached m (stage n.function t n.look_up)
    adding adds is none = record {
      passed = passed;
      walks = walks;
      exists = exists;
      unrecorded = none;
      function = adds.function;
      copies = subst (λ w. Copies m.state t x w (reached ∷ before_first reached passed)) is
          (recorded_then (record_of m.state) (record_of n.state) (record_of t) x value reached (before_first reached passed)
          (λ y c. adds.recorded y c ∙ ap (λ w. if y == x && c == reached then Some w else record_of m.state y c) (sym is)) copies);
      tracking = tracking ∙ adds.tracking;
      predecessors = λ b. same_predecessors b ∙ adds.predecessors b;
    }

    sealed_or_not : (adds : Adds x ty reached m n) → value ≡ length m.function.values → record_of m.state x reached ≡ None → (test : Bool) → is_yes (sealed_of m.state reached) ≡ test
        → ParameterWaits x ty block m (stage n.function t n.look_up) ⊎ ParameterBegins x ty block m (stage n.function t n.look_up)
    sealed_or_not adds is none false unsealed = inl (record {
      reached = reached;
      adds = adding adds is none;
      unsealed = unsealed;
      blocks = λ b. same_sealed b ∙ (adds.waits unsealed).0 b;
      lookups = λ y b. lookups y b ∙ (adds.waits unsealed).1 y b;
      look_up = (adds.waits unsealed).2;
    })
    sealed_or_not adds is none true sealed = inr (record {
      reached = reached;
      adds = adding adds is none;
      is_sealed = sealed;
      blocks = λ b. same_sealed b ∙ (adds.begins sealed).0 b;
      begins = record { counted = λ y b. lookups y b ∙ ((adds.begins sealed).1).counted y b; look_up = ((adds.begins sealed).1).look_up };
    })

    by : (found : Option ℕ) → record_of m.state x reached ≡ found → LooksUp x ty block m (stage n.function t n.look_up)
    by (Some v) at =
        let all = got.finds v at in
        inl (record {
          passed = passed;
          reached = reached;
          value = v;
          walks = walks;
          is_recorded = at;
          function = all.1;
          copies = copies_to v all.0 all.2 at;
          blocks = λ b. same_sealed b ∙ ap (λ (s : SsaState). sealed_of s b) all.2;
          predecessors = λ b. same_predecessors b ∙ ap (λ (s : SsaState). predecessors_of s b) all.2;
          lookups = λ y b. lookups y b ∙ ap (λ (s : SsaState). lookups_of s y b) all.2;
          tracking = tracking ∙ ap (λ (s : SsaState). s.tracking) all.2;
          look_up = all.3;
        })
    by None none = inr (sealed_or_not (got.adds none).1 (got.adds none).0 none (is_yes (sealed_of m.state reached)) refl)

-- records stay, as only cells that hold nothing are written
pub looked-stay : (f : Body) (s mid t : SsaState) (x block reached : ℕ) (passed : List ℕ) → IsWalk f s x block passed reached → RecordsStay s mid
    → ((y b : ℕ) → (record_of t y b ≡ record_of mid y b) ⊎ ((y ≡ x) × (stands_in b passed ≡ true))) → RecordsStay s t
looked-stay f s mid t x block reached passed walk stay others y b v is =
    elim (others y b) [
      | inl same ↦ same ∙ stay y b v is
      | inr there ↦ absurd (none_some (sym (stands-unrecorded f s x block passed reached b walk there.1) ∙ ap (λ z. record_of s z b) (sym there.0) ∙ is))
    ]

-- what is named exists
pub looked-named : (g : Body) (mid t : SsaState) (value : ℕ) → value < length g.values → t.blocks ≡ mid.blocks
    → ((y b v : ℕ) → record_of t y b ≡ Some v → (record_of mid y b ≡ Some v) ⊎ (v ≡ value)) → NamesExist g mid → NamesExist g t
looked-named g mid t value exists blocks recorded named =
    named-more g g mid t (has_more g)
    (λ b. ap (λ bs. let s : SsaState = record t { blocks = bs } in predecessors_of s b) blocks)
    (λ y b v is. elim (recorded y b v is) [ inl old ↦ inl old | inr new ↦ inr (omega (arith, exists, new)) ])
    (λ b p here. inl (subst (λ bs. let s : SsaState = record t { blocks = bs } in Contains (pending_of (sealed_of s b)) p) blocks here))
    named

inside_more : (f : Body) (b : ℕ) (ty : «Type») → length f.values < length (with_param f b ty).values
inside_more f b ty = grind (arith, common_steps)

-- the value that was found or made exists
pub got-exists : (x : ℕ) (ty : «Type») (reached value : ℕ) (m n : Stage) → Got x ty reached value m n → NamesExist m.function m.state → value < length n.function.values
got-exists x ty reached value m n got named = by (record_of m.state x reached) refl
  where
    by : (found : Option ℕ) → record_of m.state x reached ≡ found → value < length n.function.values
    by (Some v) at =
        let all = got.finds v at in
        let same : length n.function.values ≡ length m.function.values = ap (λ (f : Body). length f.values) all.1 in
        omega (arith, named.recorded x reached v at, all.0, same)
    by None none =
        let all = got.adds none in
        let same : length n.function.values ≡ length (with_param m.function reached ty).values = ap (λ (f : Body). length f.values) (all.1).function in
        omega (arith, inside_more m.function reached ty, all.0, same)

pub got_found : (x : ℕ) (ty : «Type») (block value : ℕ) (m n : Stage) → record_of m.state x block ≡ Some value → n.function ≡ m.function → n.state ≡ m.state
    → n.look_up ≡ record m.look_up { results = value ∷ m.look_up.results } → Got x ty block value m n
got_found x ty block value m n is function state look_up = record {
  finds = λ v at.
      let same : value ≡ v = same_some (sym is ∙ at) in
      (same, function, state, look_up ∙ ap (λ w. let l : LookUpState = record m.look_up { results = w ∷ m.look_up.results } in l) same);
  adds = λ none. absurd (none_some (sym none ∙ is));
}

pub got_added : (x : ℕ) (ty : «Type») (block value : ℕ) (m n : Stage) → record_of m.state x block ≡ None → value ≡ length m.function.values → Adds x ty block m n → Got x ty block value m n
got_added x ty block value m n none is adds = record {
  finds = λ v at. absurd (none_some (sym none ∙ at));
  adds = λ _. (is, adds);
}
