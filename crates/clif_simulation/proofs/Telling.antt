-- One instruction is declared at several blocks in turn, once for each.
use Rattle.std.proofs.Common.{◌≡◌, ◌≢◌, ℕ, suc, ◌<◌, true, false, List, [], ◌∷◌, ◌++◌, length, refl, sym, ◌∙◌, ap, subst, Some, ◌⊎◌, inl, inr}
use Rattle.std.specs.Prelude.{Contains, slice_get}
use Rattle.std.proofs.lemmas.Bool.{cases_eq}
use Rattle.std.proofs.lemmas.List.Elements.{Contains-append_left, Contains-push, Contains-push_cases}
use Rattle.clif_ir.specs.Body.{Body}
use Rattle.clif_instructions.specs.Members.{Once}
use Rattle.clif_instructions.proofs.Members.{if_true, if_false, Once-tail}
use Rattle.clif_paths.specs.Blocks.{Blocks}
use Rattle.clif_ssa.specs.LookUp.{branch_block}
use Rattle.clif_ssa.specs.Own.{Own}
use Rattle.clif_records.specs.Tables.{is_yes}
use Rattle.clif_ssa.specs.Ssa.{SsaState, predecessors_of, sealed_of, Declares, SameBlocks, SameRecords}
use Rattle.clif_ssa.specs.Sound.{PassesOwn, args_of, edges_at, has_entry}
use Rattle.clif_ssa.specs.SoundLaws.{DescribesSoundly}
use Rattle.clif_ssa.specs.Structured.{Structured, VariableTypes}
use Rattle.clif_ssa.proofs.Counting.{declared_soundly}
use Rattle.clif_ssa.proofs.Counts.{counts_kept}
use Rattle.clif_ssa.proofs.Leading.{once_first}
use Rattle.clif_ssa.proofs.Ordering.{contains_cons, contains_first, contains_more, none_contained}
use Rattle.clif_ssa.proofs.Structuring.{same_structured}
use Rattle.clif_ssa.proofs.StructuredLaws.{declared_structured}
use Rattle.clif_ssa.proofs.Writing.{same_state}
use Rattle.clif_simulation.specs.Carries.{DeclaredAlong}

-- what leads to a block after one more was declared
module _ (s t : SsaState) (block i : ℕ) (declares : Declares s t block i) where
  here_is : (c : ℕ) → c ≡ block → predecessors_of t c ≡ predecessors_of s c ++ i ∷ []
  here_is c same = declares c ∙ if_true c block _ _ same

  other_is : (c : ℕ) → c ≢ block → predecessors_of t c ≡ predecessors_of s c
  other_is c other = declares c ∙ if_false c block _ _ other

  old_or_it : (c j : ℕ) → Contains (predecessors_of t c) j → Contains (predecessors_of s c) j ⊎ (j ≡ i)
  old_or_it c j here =
      elim (cases_eq c block) [
        | inl same ↦
            elim (Contains-push_cases (predecessors_of s c) i j (subst (λ (is : List ℕ). Contains is j) (here_is c same) here)) [
              | inl old ↦ inl old
              | inr is ↦ inr (sym is)
            ]
        | inr other ↦ inl (subst (λ (is : List ℕ). Contains is j) (other_is c other) here)
      ]

  old_stays : (c j : ℕ) → Contains (predecessors_of s c) j → Contains (predecessors_of t c) j
  old_stays c j old =
      elim (cases_eq c block) [
        | inl same ↦ subst (λ (is : List ℕ). Contains is j) (sym (here_is c same)) (Contains-append_left (predecessors_of s c) (i ∷ []) j old)
        | inr other ↦ subst (λ (is : List ℕ). Contains is j) (sym (other_is c other)) old
      ]

  it_leads : Contains (predecessors_of t block) i
  it_leads = subst (λ (is : List ℕ). Contains is i) (sym (here_is block refl)) (Contains-push (predecessors_of s block) i)

pub along_stays : (told : List ℕ) (s t : SsaState) (i : ℕ) → DeclaredAlong s i told t → (c j : ℕ) → Contains (predecessors_of s c) j → Contains (predecessors_of t c) j
along_stays [] s t i along c j old = subst (λ (is : List ℕ). Contains is j) (sym (along.2 c)) old
along_stays (block ∷ told) s t i along c j old = along_stays told along.0 t i along.4 c j (old_stays s along.0 block i along.3 c j old)

pub along_leads : (told : List ℕ) (s t : SsaState) (i : ℕ) → DeclaredAlong s i told t → (c : ℕ) → Contains told c → Contains (predecessors_of t c) i
along_leads [] s t i along c here = absurd (none_contained c here)
along_leads (block ∷ told) s t i along c here =
    elim (contains_cons block told c here) [
      | inl same ↦
          subst (λ (d : ℕ). Contains (predecessors_of t d) i) same (along_stays told along.0 t i along.4 block i (it_leads s along.0 block i along.3))
      | inr later ↦ along_leads told along.0 t i along.4 c later
    ]

-- records stay
pub along_records : (told : List ℕ) (s t : SsaState) (i : ℕ) → DeclaredAlong s i told t → SameRecords s t
along_records [] s t i along x b = along.0 x b
along_records (block ∷ told) s t i along x b = along_records told along.0 t i along.4 x b ∙ along.1 x b

-- what is in a list stands at a place of it
pub contained_get : (xs : List ℕ) (x : ℕ) → Contains xs x → (k : ℕ) × (slice_get xs k ≡ Some x)
contained_get [] x here = absurd (none_contained x here)
contained_get (y ∷ xs) x here =
    let later : Contains xs x → (k : ℕ) × (slice_get xs k ≡ Some x) = λ there. contained_get xs x there in
    elim (contains_cons y xs x here) [
      | inl same ↦ (0, ap Some same)
      | inr there ↦ let at = later there in (suc at.0, at.1)
    ]

-- what is new is the instruction, at a block where it is declared
pub along_told : (told : List ℕ) (s t : SsaState) (i : ℕ) → DeclaredAlong s i told t → (c j : ℕ) → Contains (predecessors_of t c) j
    → Contains (predecessors_of s c) j ⊎ ((j ≡ i) × Contains told c)
along_told [] s t i along c j here = inl (subst (λ (is : List ℕ). Contains is j) (along.2 c) here)
along_told (block ∷ told) s t i along c j here =
    elim (along_told told along.0 t i along.4 c j here) [
      | inl before ↦
          elim (cases_eq c block) [
            | inl same ↦
                elim (old_or_it s along.0 block i along.3 c j before) [
                  | inl old ↦ inl old
                  | inr is ↦ inr (is, subst (Contains (block ∷ told)) (sym same) (contains_first block told))
                ]
            | inr other ↦ inl (subst (λ (is : List ℕ). Contains is j) (other_is s along.0 block i along.3 c other) before)
          ]
      | inr later ↦ inr (later.0, contains_more block told c later.1)
    ]

-- other blocks, sealed ones among them, stay as they are
pub along_sealed : (told : List ℕ) (s t : SsaState) (i : ℕ) → DeclaredAlong s i told t → ((c : ℕ) → Contains told c → is_yes (sealed_of s c) ≡ false)
    → (c : ℕ) → is_yes (sealed_of s c) ≡ true → (is_yes (sealed_of t c) ≡ true) × (predecessors_of t c ≡ predecessors_of s c)
along_sealed [] s t i along unsealed c sealed = (ap is_yes (along.1 c) ∙ sealed, along.2 c)
along_sealed (block ∷ told) s t i along unsealed c sealed =
    let other : c ≢ block = λ same. true_false (sym sealed ∙ ap (λ (d : ℕ). is_yes (sealed_of s d)) same ∙ unsealed block (contains_first block told)) in
    let rest : (is_yes (sealed_of t c) ≡ true) × (predecessors_of t c ≡ predecessors_of along.0 c) =
    along_sealed told along.0 t i along.4 (λ d later. ap is_yes (along.2 d) ∙ unsealed d (contains_more block told d later)) c (ap is_yes (along.2 c) ∙ sealed) in
    (rest.0, rest.1 ∙ other_is s along.0 block i along.3 c other)
  where
    true_false : true ≡ false → ⊥
    true_false same = cc

-- The block is unsealed, and each branch that leads to it stands in another block than the instruction.
pub record MayLead (f : Body) (s : SsaState) (i block : ℕ) : Type 0 where
  pub unsealed : is_yes (sealed_of s block) ≡ false
  pub apart : (j : ℕ) → Contains (predecessors_of s block) j → branch_block f j ≢ branch_block f i

-- the same of another block after one was declared
may_lead_still : (f : Body) (s t : SsaState) (i block c : ℕ) → SameBlocks s t → Declares s t block i → block ≢ c → MayLead f s i c → MayLead f t i c
may_lead_still f s t i block c same declares other may = record {
  unsealed = ap is_yes (same c) ∙ may.unsealed;
  apart = λ j here. may.apart j (subst (λ (is : List ℕ). Contains is j) (other_is s t block i declares c (λ is. other (sym is))) here);
}

-- THE STATE ON PATHS ----------------------------------------------------------------------------------------------------

pub along_soundly : (told : List ℕ) (own : Own) (f : Body) (s t : SsaState) (tables : Blocks) (i : ℕ) → i < length f.insts → has_entry f.layout ≡ true → Once told
    → ((block : ℕ) → Contains told block → MayLead f s i block)
    → ((block : ℕ) → PassesOwn own f block i) → DeclaredAlong s i told t → DescribesSoundly own f s tables → DescribesSoundly own f t tables
along_soundly [] own f s t tables i exists entry once may passes along before = (
  same_state own f s t tables along.0 along.1 along.2 before.0,
  before.1,
  counts_kept own f s t tables tables before.2 along.2 (λ v. refl),
)
along_soundly (block ∷ told) own f s t tables i exists entry once may passes along before =
    let first : MayLead f s i block = may block (contains_first block told) in
    along_soundly told own f along.0 t tables i exists entry (Once-tail block told once)
    (λ c later. may_lead_still f s along.0 i block c along.2 along.3 (once_first block told c once later) (may c (contains_more block told c later)))
    passes along.4
    (declared_soundly own f s along.0 tables block i before exists entry first.unsealed first.apart (passes block) along.1 along.2 along.3)

-- THE STRUCTURE ---------------------------------------------------------------------------------------------------------

pub along_structured : (told : List ℕ) (types : VariableTypes) (own : Own) (f : Body) (s t : SsaState) (i : ℕ) → i < length f.insts → Once told
    → ((block : ℕ) → Contains told block → MayLead f s i block) → ((k : ℕ) → args_of (slice_get (edges_at f i) k) ≡ own.passed i k)
    → DeclaredAlong s i told t → Structured types own f s [] → Structured types own f t []
along_structured [] types own f s t i exists once may passes along before = same_structured types own f s t [] along.0 along.1 along.2 before
along_structured (block ∷ told) types own f s t i exists once may passes along before =
    let first : MayLead f s i block = may block (contains_first block told) in
    along_structured told types own f along.0 t i exists (Once-tail block told once)
    (λ c later. may_lead_still f s along.0 i block c along.2 along.3 (once_first block told c once later) (may c (contains_more block told c later))) passes along.4
    (declared_structured types own f s along.0 block i first.unsealed exists
    (λ j here same. first.apart j here (ap (branch_block f) same)) (λ k to. passes k) along.1 along.2 along.3 before)
