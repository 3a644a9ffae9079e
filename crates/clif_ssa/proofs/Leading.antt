-- A branch leads to a block, or no longer does.
use Rattle.std.proofs.Common.{◌≡◌, ◌≢◌, ℕ, zero, suc, ◌<◌, ◌==◌, ◌&&◌, true, false, List, [], ◌∷◌, ◌++◌, length, refl, ap, arith, sym, ◌∙◌, subst, ◌⊎◌, inl, inr}
use Rattle.std.specs.Prelude.{Some, Contains, map, if◌then◌else◌}
use Rattle.std.proofs.lemmas.Bool.{cases_eq}
use Rattle.std.proofs.lemmas.List.Elements.{Contains-get_or, Contains-push_cases}
use Rattle.clif_ir.specs.Body.{Body}
use Rattle.clif_instructions.specs.Members.{Once, without}
use Rattle.clif_instructions.proofs.Members.{if_true, if_false, Once-tail}
use Rattle.clif_paths.specs.Places.{start, Arm}
use Rattle.clif_paths.specs.Blocks.{Blocks, front}
use Rattle.clif_paths.specs.BlockLaws.{BlocksSound}
use Rattle.clif_ssa.specs.Own.{Own}
use Rattle.clif_records.specs.Tables.{is_yes}
use Rattle.clif_ssa.specs.Ssa.{SsaState, sealed_of, predecessors_of, SameRecords, SameBlocks}
use Rattle.clif_ssa.specs.LookUp.{branch_block}
use Rattle.clif_ssa.specs.Sound.{Describes, IsEdgeInto, has_entry, entry_of}
use Rattle.clif_ssa.specs.SoundLaws.{DescribesSoundly}
use Rattle.clif_ssa.proofs.Ordering.{entry_any, contains_cons, contains_more, contains_first, none_contained, without_here, without_later}
use Rattle.clif_ssa.proofs.Describing.{Arms}
use Rattle.clif_ssa.proofs.Entering.{NoNewLeads, relaid, both_true}
use Rattle.clif_ssa.proofs.Writing.{same_waiting}

-- ONCE ------------------------------------------------------------------------------------------------------------

pub once_first : (x : ℕ) (xs : List ℕ) (y : ℕ) → Once (x ∷ xs) → Contains xs y → x ≢ y
once_first x xs y once here same = once 0 (suc here.0) (omega arith) (omega (arith, here.1)) (same ∙ sym here.2 ∙ entry_any xs here.0 y 0 here.1)

pub once_cons : (x : ℕ) (xs : List ℕ) → ((y : ℕ) → Contains xs y → x ≢ y) → Once xs → Once (x ∷ xs)
once_cons x xs apart once j zero below inside = absurd (omega (arith, below))
once_cons x xs apart once zero (suc k) below inside = apart _ (Contains-get_or xs k 0 (omega (arith, inside)))
once_cons x xs apart once (suc j) (suc k) below inside = once j k (omega (arith, below)) (omega (arith, inside))

pub once_push : (xs : List ℕ) (y : ℕ) → ((x : ℕ) → Contains xs x → x ≢ y) → Once xs → Once (xs ++ y ∷ [])
once_push [] y apart once = λ j k below inside. absurd (omega (arith, below, inside))
once_push (x ∷ xs) y apart once =
    once_cons x (xs ++ y ∷ [])
    (λ z here same.
    elim (Contains-push_cases xs y z here) [
      | inl old ↦ once_first x xs z once old same
      | inr new ↦ apart x (contains_first x xs) (same ∙ sym new)
    ])
    (once_push xs y (λ z here. apart z (contains_more x xs z here)) (Once-tail x xs once))

pub contains_map : (h : ℕ → ℕ) (xs : List ℕ) (y : ℕ) → Contains (map h xs) y → (x : ℕ) × Contains xs x × (h x ≡ y)
contains_map h [] y here = absurd (none_contained y here)
contains_map h (x ∷ xs) y here =
    let induction : Contains (map h xs) y → (z : ℕ) × Contains xs z × (h z ≡ y) = contains_map h xs y in
    elim (contains_cons (h x) (map h xs) y here) [
      | inl same ↦ (x, contains_first x xs, same)
      | inr later ↦ let there : (z : ℕ) × Contains xs z × (h z ≡ y) = induction later in (there.0, contains_more x xs there.0 there.1, there.2)
    ]

pub map_push : (h : ℕ → ℕ) (xs : List ℕ) (y : ℕ) → map h (xs ++ y ∷ []) ≡ map h xs ++ h y ∷ []
map_push h [] y = refl
map_push h (x ∷ xs) y = ap (λ ys. h x ∷ ys) (map_push h xs y)

pub contains_without : (i : ℕ) (xs : List ℕ) (x : ℕ) → Contains (without i xs) x → Contains xs x
contains_without i [] x here = here
contains_without i (y ∷ xs) x here =
    let induction : Contains (without i xs) x → Contains xs x = contains_without i xs x in
    elim (cases_eq y i) [
      | inl same ↦ contains_more y xs x (subst (λ zs. Contains zs x) (without_here i y xs same) here)
      | inr other ↦
          elim (contains_cons y (without i xs) x (subst (λ zs. Contains zs x) (without_later i y xs other) here)) [
            | inl first ↦ subst (λ z. Contains (y ∷ xs) z) first (contains_first y xs)
            | inr later ↦ contains_more y xs x (induction later)
          ]
    ]

contains_mapped : (h : ℕ → ℕ) (xs : List ℕ) (x : ℕ) → Contains xs x → Contains (map h xs) (h x)
contains_mapped h [] x here = absurd (none_contained x here)
contains_mapped h (y ∷ xs) x here =
    let induction : Contains xs x → Contains (map h xs) (h x) = contains_mapped h xs x in
    elim (contains_cons y xs x here) [
      | inl same ↦ subst (λ z. Contains (h y ∷ map h xs) (h z)) same (contains_first (h y) (map h xs))
      | inr later ↦ contains_more (h y) (map h xs) (h x) (induction later)
    ]

pub once_map_without : (h : ℕ → ℕ) (i : ℕ) (xs : List ℕ) → Once (map h xs) → Once (map h (without i xs))
once_map_without h i [] once = once
once_map_without h i (x ∷ xs) once =
    elim (cases_eq x i) [
      | inl same ↦ subst (λ zs. Once (map h zs)) (sym (without_here i x xs same)) (Once-tail (h x) (map h xs) once)
      | inr other ↦
          subst (λ zs. Once (map h zs)) (sym (without_later i x xs other))
          (once_cons (h x) (map h (without i xs))
          (λ y here.
          let there : (z : ℕ) × Contains (without i xs) z × (h z ≡ y) = contains_map h (without i xs) y here in
          once_first (h x) (map h xs) y once (subst (λ w. Contains (map h xs) w) there.2 (contains_mapped h xs there.0 (contains_without i xs there.0 there.1))))
          (once_map_without h i xs (Once-tail (h x) (map h xs) once)))
    ]

-- LEADS -----------------------------------------------------------------------------------------------------------

true_false : true ≡ false → ⊥
true_false same = cc

-- The branches that lead to one unsealed block change, in a way that leaves them apart and in the function.
record NewLeads (f : Body) (s t : SsaState) (b : ℕ) : Type 0 where
  unsealed : is_yes (sealed_of s b) ≡ false
  others : (c : ℕ) → c ≢ b → predecessors_of t c ≡ predecessors_of s c
  exist : (i : ℕ) → Contains (predecessors_of t b) i → (i < length f.insts) × (has_entry f.layout ≡ true)
  apart : Once (map (branch_block f) (predecessors_of t b))

leads_changed : (own : Own) (f : Body) (s t : SsaState) (blocks : Blocks) (b : ℕ) → Describes own f s [] blocks → SameRecords s t → SameBlocks s t → NewLeads f s t b
    → Describes own f t [] blocks
leads_changed own f s t blocks b before records same new =
    let other : (c : ℕ) → is_yes (sealed_of s c) ≡ true → c ≢ b = λ c sealed at. true_false (sym sealed ∙ ap (λ d. is_yes (sealed_of s d)) at ∙ new.unsealed) in
    let forth : (c : ℕ) (arm : Arm) → is_yes (sealed_of s c) ≡ true → IsEdgeInto f s blocks c arm → IsEdgeInto f t blocks c arm =
    λ c arm sealed edge. record {
      branch = edge.branch;
      leads = subst (λ xs. Contains xs edge.branch) (sym (new.others c (other c sealed))) edge.leads;
      from = edge.from;
      to = edge.to;
    } in
    let back : (c : ℕ) (arm : Arm) → is_yes (sealed_of s c) ≡ true → IsEdgeInto f t blocks c arm → IsEdgeInto f s blocks c arm =
    λ c arm sealed edge. record {
      branch = edge.branch;
      leads = subst (λ xs. Contains xs edge.branch) (new.others c (other c sealed)) edge.leads;
      from = edge.from;
      to = edge.to;
    } in
    let arms : Arms f t blocks = record {
      sealed = λ c. before.sealed c ∙ ap (λ r. is_yes r && has_entry f.layout) (sym (same c));
      joined = λ arm known.
          let there : (c : ℕ) × (arm.target ≡ front c) × (is_yes (sealed_of s c) ≡ true) × (((arm.source ≡ start) × (entry_of f ≡ Some c)) ⊎ IsEdgeInto f s blocks c arm) =
          before.joined arm known in (
            there.0,
            there.1,
            ap is_yes (same there.0) ∙ there.2,
            elim there.3 [
              | inl from_start ↦ inl from_start
              | inr edge ↦ inr (forth there.0 arm there.2 edge)
            ],
          );
      entered = before.entered;
      led = λ c arm sealed at edge.
          let was : is_yes (sealed_of s c) ≡ true = ap is_yes (sym (same c)) ∙ sealed in
          before.led c arm was at (back c arm was edge);
      leading = λ c i here.
          elim (cases_eq c b) [
            | inl at ↦ new.exist i (subst (λ d. Contains (predecessors_of t d) i) at here)
            | inr apart ↦ before.leading c i (subst (λ xs. Contains xs i) (new.others c apart) here)
          ];
      leading_apart = λ c.
          elim (cases_eq c b) [
            | inl at ↦ subst (λ d. Once (map (branch_block f) (predecessors_of t d))) (sym at) new.apart
            | inr apart ↦ subst (λ xs. Once (map (branch_block f) xs)) (sym (new.others c apart)) (before.leading_apart c)
          ];
      entry_free = λ entry is sealed.
          let was : is_yes (sealed_of s entry) ≡ true = ap is_yes (sym (same entry)) ∙ sealed in
          new.others entry (other entry was) ∙ before.entry_free entry is was;
    } in
    let leads : NoNewLeads s t blocks =
    λ c i known here.
    subst (λ xs. Contains xs i) (new.others c (other c (both_true (is_yes (sealed_of s c)) (has_entry f.layout) (sym (before.sealed c) ∙ known)).0)) here in
    relaid own f f.layout s t [] [] blocks blocks.sealed blocks.joins before records leads (λ c known. known) arms
    (same_waiting own f s t blocks before same (λ c p here none. before.waiting_recorded c p here (sym (records p.variable c) ∙ none)))

-- a branch is put behind those that lead to an unsealed block
pub predecessor_declared : (own : Own) (f : Body) (s t : SsaState) (blocks : Blocks) (b i : ℕ) → DescribesSoundly own f s blocks
    → i < length f.insts → has_entry f.layout ≡ true → is_yes (sealed_of s b) ≡ false
    → ((j : ℕ) → Contains (predecessors_of s b) j → branch_block f j ≢ branch_block f i)
    → SameRecords s t → SameBlocks s t
    → ((c : ℕ) → predecessors_of t c ≡ (if c == b then predecessors_of s c ++ i ∷ [] else predecessors_of s c))
    → Describes own f t [] blocks × BlocksSound blocks
predecessor_declared own f s t blocks b i both exists entry unsealed apart records same declared =
    let before : Describes own f s [] blocks = both.0 in
    let here : predecessors_of t b ≡ predecessors_of s b ++ i ∷ [] = declared b ∙ if_true b b _ _ refl in (
      leads_changed own f s t blocks b before records same
          (record {
            unsealed = unsealed;
            others = λ c other. declared c ∙ if_false c b _ _ other;
            exist = λ j there.
                elim (Contains-push_cases (predecessors_of s b) i j (subst (λ xs. Contains xs j) here there)) [
                  | inl old ↦ before.leading b j old
                  | inr new ↦ (subst (λ k. k < length f.insts) new exists, entry)
                ];
            apart =
                subst (λ xs. Once (map (branch_block f) xs)) (sym here)
                (subst Once (sym (map_push (branch_block f) (predecessors_of s b) i))
                (once_push (map (branch_block f) (predecessors_of s b)) (branch_block f i)
                (λ y stands one.
                let from : (j : ℕ) × Contains (predecessors_of s b) j × (branch_block f j ≡ y) = contains_map (branch_block f) (predecessors_of s b) y stands in
                apart from.0 from.1 (from.2 ∙ one)) (before.leading_apart b)));
          }),
      both.1,
    )

-- a branch leads no longer to an unsealed block
pub predecessor_removed : (own : Own) (f : Body) (s t : SsaState) (blocks : Blocks) (b i : ℕ) → DescribesSoundly own f s blocks
    → is_yes (sealed_of s b) ≡ false → SameRecords s t → SameBlocks s t
    → ((c : ℕ) → predecessors_of t c ≡ (if c == b then without i (predecessors_of s c) else predecessors_of s c))
    → Describes own f t [] blocks × BlocksSound blocks
predecessor_removed own f s t blocks b i both unsealed records same removed =
    let before : Describes own f s [] blocks = both.0 in
    let here : predecessors_of t b ≡ without i (predecessors_of s b) = removed b ∙ if_true b b _ _ refl in (
      leads_changed own f s t blocks b before records same
          (record {
            unsealed = unsealed;
            others = λ c other. removed c ∙ if_false c b _ _ other;
            exist = λ j there. before.leading b j (contains_without i (predecessors_of s b) j (subst (λ xs. Contains xs j) here there));
            apart = subst (λ xs. Once (map (branch_block f) xs)) (sym here) (once_map_without (branch_block f) i (predecessors_of s b) (before.leading_apart b));
          }),
      both.1,
    )
