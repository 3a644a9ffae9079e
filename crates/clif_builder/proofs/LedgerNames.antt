-- Blocks of a ledger by name and by number, under agreement with a builder.
use Rattle.std.proofs.Common.{◌≡◌, ℕ, zero, suc, List, [], ◌∷◌, refl, sym, ◌∙◌, ap, subst, arith, inl, inr}
use Rattle.std.specs.Prelude.{map, slice_get, Option, Some, option_map, Bool, true, false, if◌then◌else◌, ◌==◌, find}
use Rattle.std.specs.List.{list_any}
use Rattle.std.proofs.lemmas.Option.{slice_get-map, same_Some, none-some}
use Rattle.std.proofs.lemmas.Bool.{cases_eq, eq-eqb, eqb-true, ne_eqb, and_parts, and_from, false_from_ne_true}
use Rattle.clif_ir.specs.Body.{Body}
use Rattle.clif_instructions.specs.Members.{stands_in}
use Rattle.clif_meaning.specs.Name.{Name, answer_of, same_name}
use Rattle.clif_meaning.specs.Request.{AnsweredCall, number_of}
use Rattle.clif_meaning.specs.Ledger.{BlockState, Ledger, block_state, with_state, is_inserted}
use Rattle.clif_builder.specs.Context.{ContextState}
use Rattle.clif_builder.specs.Ledger.{LedgerAgrees, NamesBlock, block_name, ledger_of}
use Rattle.clif_builder.proofs.LedgerLists.{map-some, some-is, if-yes, if-no}

-- the test for equal names
pub same_name-refl : (a : Name) → same_name a a ≡ true
same_name-refl a = and_from (a.place == a.place) (a.index == a.index) (eq-eqb a.place a.place refl) (eq-eqb a.index a.index refl)

pub same_name-true : (a b : Name) → same_name a b ≡ true → a ≡ b
same_name-true a b same =
    let parts = and_parts (a.place == b.place) (a.index == b.index) same in
    let place : a.place ≡ b.place = eqb-true a.place b.place parts.0 in
    let index : a.index ≡ b.index = eqb-true a.index b.index parts.1 in
    ap (λ (n : ℕ). answer_of n a.index) place ∙ ap (λ (n : ℕ). answer_of b.place n) index

-- a test by names is one by numbers, if equal numbers and equal names go together
pub by-number : (a b : Name) (j k : ℕ) → (j ≡ k → a ≡ b) → (a ≡ b → j ≡ k) → same_name a b ≡ (j == k)
by-number a b j k names numbers =
    elim (cases_eq j k) [
      | inl same ↦ subst (λ (x : Name). same_name a x ≡ true) (names same) (same_name-refl a) ∙ sym (eq-eqb j k same)
      | inr other ↦ false_from_ne_true (same_name a b) (λ holds. other (numbers (same_name-true a b holds))) ∙ sym (ne_eqb j k other)
    ]

-- the name of each block has the block's number
abbrev pub IsNumbered : List AnsweredCall → Ledger → Type 0
IsNumbered calls ledger = (k : ℕ) (name : Name) → block_name ledger k ≡ Some name → number_of calls name ≡ Some k

-- the number of a block's name is the block's
pub name-number : (calls : List AnsweredCall) (ledger : Ledger) (f : Body) (c : ContextState) (p : Option ℕ) → LedgerAgrees calls ledger f c p
    → (k : ℕ) (name : Name) → block_name ledger k ≡ Some name → number_of calls name ≡ Some k
name-number calls ledger f c p agrees k name named =
    let state = map-some (λ (s : BlockState). s.block) (slice_get ledger.blocks k) name named in
    ap (number_of calls) (sym state.2) ∙ (agrees.blocks k state.0 state.1).number

-- one number has one name, and one name has one number
pub same-block : (calls : List AnsweredCall) (ledger : Ledger) → IsNumbered calls ledger
    → (j k : ℕ) (a b : Name) → block_name ledger j ≡ Some a → block_name ledger k ≡ Some b → same_name a b ≡ (j == k)
same-block calls ledger numbered j k a b first second =
    by-number a b j k
    (λ same. same_Some a b (sym first ∙ ap (block_name ledger) same ∙ second))
    (λ same. same_Some j k (sym (numbered j a first) ∙ ap (number_of calls) same ∙ numbered k b second))

-- the block that is found by a name is the one with its number
pub find-at : (states : List BlockState) (name : Name) (k : ℕ) (s : BlockState) → slice_get states k ≡ Some s → s.block ≡ name
    → ((j : ℕ) (t : BlockState) → slice_get states j ≡ Some t → t.block ≡ name → j ≡ k) → find (λ (t : BlockState). same_name t.block name) states ≡ Some s
find-at [] name k s at named once = absurd (none-some s at)
find-at (t ∷ states) name zero s at named once =
    let same : t ≡ s = same_Some t s at in
    let holds : same_name t.block name ≡ true = ap (λ (u : BlockState). same_name u.block name) same ∙ subst (λ (x : Name). same_name s.block x ≡ true) named (same_name-refl s.block) in
    if-yes (same_name t.block name) (Some t) _ holds ∙ at
find-at (t ∷ states) name (suc k) s at named once =
    let fails : same_name t.block name ≡ false = false_from_ne_true (same_name t.block name) (λ holds. let no_way : 0 ≡ suc k = once 0 t refl (same_name-true t.block name holds) in absurd (omega (arith, no_way))) in
    if-no (same_name t.block name) (Some t) _ fails
    ∙ find-at states name k s at named (λ j u there is. let next : suc j ≡ suc k = once (suc j) u there is in omega (arith, next))

-- what is found by a name has a number
pub find-some : (states : List BlockState) (name : Name) (s : BlockState) → find (λ (t : BlockState). same_name t.block name) states ≡ Some s
    → (k : ℕ) × (slice_get states k ≡ Some s) × (s.block ≡ name)
find-some [] name s found = absurd (none-some s found)
find-some (t ∷ states) name s found = by (λ next. find-some states name s next) (same_name t.block name) refl
  where
    by : (find (λ (u : BlockState). same_name u.block name) states ≡ Some s → (k : ℕ) × (slice_get states k ≡ Some s) × (s.block ≡ name))
        → (test : Bool) → same_name t.block name ≡ test → (k : ℕ) × (slice_get (t ∷ states) k ≡ Some s) × (s.block ≡ name)
    by later true holds =
        let here : ◌≡◌ {A = Option BlockState} (Some t) (Some s) = sym (if-yes (same_name t.block name) (Some t) (find (λ (u : BlockState). same_name u.block name) states) holds) ∙ found in
        let same : t ≡ s = same_Some t s here in
        (0, here, ap (λ (u : BlockState). u.block) (sym same) ∙ same_name-true t.block name holds)
    by later false fails =
        let rest = later (sym (if-no (same_name t.block name) (Some t) (find (λ (u : BlockState). same_name u.block name) states) fails) ∙ found) in
        (suc rest.0, rest.1, rest.2)

-- the state of a block by its name is that by its number
pub state-by-name : (calls : List AnsweredCall) (ledger : Ledger) → IsNumbered calls ledger
    → (k : ℕ) (name : Name) → block_name ledger k ≡ Some name
    → (s : BlockState) × (slice_get ledger.blocks k ≡ Some s) × (s.block ≡ name) × (block_state ledger name ≡ Some s)
state-by-name calls ledger numbered k name named =
    let state = map-some (λ (s : BlockState). s.block) (slice_get ledger.blocks k) name named in (
      state.0,
      state.1,
      state.2,
      find-at ledger.blocks name k state.0 state.1 state.2 (λ j t there is.
          let at_j : block_name ledger j ≡ Some name = ap (option_map (λ (s : BlockState). s.block)) there ∙ ap Some is in
          same_Some j k (sym (numbered j name at_j) ∙ numbered k name named)),
    )

-- a name of a block with this number is the name of that block
pub named-block : (calls : List AnsweredCall) → IsNumbered calls (ledger_of calls)
    → (name : Name) (block : ℕ) → NamesBlock calls name block → block_name (ledger_of calls) block ≡ Some name
named-block calls numbered name block names =
    let state = some-is (block_state (ledger_of calls) name) names.is_block in
    let found = find-some (ledger_of calls).blocks name state.0 state.1 in
    let at_found : block_name (ledger_of calls) found.0 ≡ Some name = ap (option_map (λ (s : BlockState). s.block)) found.1 ∙ ap Some found.2 in
    let same : found.0 ≡ block = same_Some found.0 block (sym (numbered found.0 name at_found) ∙ names.number) in
    ap (block_name (ledger_of calls)) (sym same) ∙ at_found

-- whether a block is in the layout, by names and by numbers
pub inserted-same : (ledger : Ledger) (name : Name) (block : ℕ) (names : List Name) (numbers : List ℕ)
    → ((j : ℕ) (a : Name) → block_name ledger j ≡ Some a → same_name name a ≡ (j == block))
    → map Some names ≡ map (block_name ledger) numbers → list_any (same_name name) names ≡ stands_in block numbers
inserted-same ledger name block [] [] test same = refl
inserted-same ledger name block [] (j ∷ numbers) test same = let no_way : ⊥ = cc in absurd no_way
inserted-same ledger name block (a ∷ names) [] test same = let no_way : ⊥ = cc in absurd no_way
inserted-same ledger name block (a ∷ names) (j ∷ numbers) test same =
    let here : block_name ledger j ≡ Some a = cc in
    let rest : map Some names ≡ map (block_name ledger) numbers = cc in
    let first : same_name name a ≡ (j == block) = test j a here in
    let others : list_any (same_name name) names ≡ stands_in block numbers = inserted-same ledger name block names numbers test rest in
    cc

pub block-inserted : (calls : List AnsweredCall) (ledger : Ledger) → IsNumbered calls ledger
    → (layout : List ℕ) → map Some ledger.layout ≡ map (block_name ledger) layout → (block : ℕ) (name : Name) → block_name ledger block ≡ Some name → is_inserted ledger name ≡ stands_in block layout
block-inserted calls ledger numbered layout named_layout block name named =
    inserted-same ledger name block ledger.layout layout
    (λ j a there. by-number name a j block
    (λ same. same_Some name a (sym named ∙ ap (block_name ledger) (sym same) ∙ there))
    (λ same. same_Some j block (sym (numbered j a there) ∙ ap (number_of calls) (sym same) ∙ numbered block name named)))
    named_layout

-- a change of the state of one block: each name stays
pub state-names : (ledger : Ledger) (name : Name) (change : BlockState → BlockState) → ((s : BlockState) → (change s).block ≡ s.block)
    → (k : ℕ) → block_name (with_state ledger name change) k ≡ block_name ledger k
state-names ledger name change keeps k = names_of ledger.blocks k
  where
    changed : BlockState → BlockState
    changed s = if same_name s.block name then change s else s

    keeps_here : (s : BlockState) (test : Bool) → (if test then change s else s).block ≡ s.block
    keeps_here s true = keeps s
    keeps_here s false = refl

    names_of : (states : List BlockState) (k : ℕ)
        → option_map (λ (s : BlockState). s.block) (slice_get (map (λ (s : BlockState). if same_name s.block name then change s else s) states) k)
        ≡ option_map (λ (s : BlockState). s.block) (slice_get states k)
    names_of [] k = refl
    names_of (s ∷ states) zero = ap Some (keeps_here s (same_name s.block name))
    names_of (s ∷ states) (suc k) = names_of states k

-- a change of the state of one block changes the entry with its number, and no other
pub state-entries : (calls : List AnsweredCall) (ledger : Ledger) → IsNumbered calls ledger
    → (n : ℕ) (name : Name) (change : BlockState → BlockState) → block_name ledger n ≡ Some name
    → (k : ℕ) (t : BlockState) → slice_get (with_state ledger name change).blocks k ≡ Some t
    → (s : BlockState) × (slice_get ledger.blocks k ≡ Some s) × ((if k == n then change s else s) ≡ t)
state-entries calls ledger numbered n name change named k t found =
    let mapped = slice_get-map (λ (s : BlockState). if same_name s.block name then change s else s) ledger.blocks k in
    let state = map-some (λ (s : BlockState). if same_name s.block name then change s else s) (slice_get ledger.blocks k) t (sym mapped ∙ found) in
    let at_k : block_name ledger k ≡ Some (state.0).block = ap (option_map (λ (s : BlockState). s.block)) state.1 in
    let test : same_name (state.0).block name ≡ (k == n) = same-block calls ledger numbered k n (state.0).block name at_k named in
    (state.0, state.1, ap (λ (b : Bool). if b then change (state.0) else state.0) (sym test) ∙ state.2)

-- two changes of the state of one block are one
pub state-twice : (states : List BlockState) (name : Name) (first next : BlockState → BlockState) → ((s : BlockState) → (first s).block ≡ s.block)
    → map (λ (s : BlockState). if same_name s.block name then next s else s) (map (λ (s : BlockState). if same_name s.block name then first s else s) states)
    ≡ map (λ (s : BlockState). if same_name s.block name then next (first s) else s) states
state-twice [] name first next keeps = refl
state-twice (s ∷ states) name first next keeps =
    let here = by (same_name s.block name) refl in
    let rest = state-twice states name first next keeps in
    cc
  where
    by : (test : Bool) → same_name s.block name ≡ test
        → (if same_name (if test then first s else s).block name then next (if test then first s else s) else (if test then first s else s))
        ≡ (if test then next (first s) else s)
    by true holds = if-yes (same_name (first s).block name) (next (first s)) (first s) (ap (λ (n : Name). same_name n name) (keeps s) ∙ holds)
    by false fails = if-no (same_name s.block name) (next s) s fails
