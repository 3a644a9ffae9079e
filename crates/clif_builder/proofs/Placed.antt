-- Where a use of a variable and a sealing put zeros and parameters, where the parts of a builder are in order: into blocks of the layout
-- in which something was made. So no other block enters the layout, and no other block's status changes.
use Rattle.std.proofs.Common.{◌≡◌, ◌≢◌, ◌<◌, ◌==◌, ℕ, suc, List, [], ◌∷◌, ◌++◌, length, refl, sym, ◌∙◌, ap, subst, arith, inl, inr}
use Rattle.std.specs.Prelude.{Bool, true, false, not, ◌&&◌, ◌||◌, if◌then◌else◌, slice_get, slice_index, Option, Some, Contains}
use Rattle.std.specs.List.{AllByRecursion}
use Rattle.std.proofs.lemmas.Bool.{and_from, and_parts, cases_eq, eq-eqb, eqb-true, false≢true, ne_eqb, or_cases, or_left, or_right}
use Rattle.clif_types.specs.declared.types.«Type».{«Type»}
use Rattle.clif_nodes.specs.declared.nodes.InstNode.{InstNode}
use Rattle.clif_nodes.specs.Nodes.{BlockNode}
use Rattle.clif_ir.specs.Body.{Body, block_at, inst_at}
use Rattle.clif_ir.specs.Changes.{inserted_in, with_layout}
use Rattle.clif_ir.specs.Consistent.{IsConsistent}
use Rattle.clif_instructions.specs.Members.{Once, stands_in}
use Rattle.clif_ir.specs.Reading.{param_home}
use Rattle.clif_instructions.proofs.Members.{Once-tail}
use Rattle.clif_meaning.specs.Request.{AnsweredCall}
use Rattle.clif_meaning.specs.Ledger.{Ledger, or_invalid}
use Rattle.clif_ssa.specs.Own.{Own}
use Rattle.clif_ssa.specs.Ssa.{predecessors_of, sealed_of, record_of}
use Rattle.clif_records.specs.Tables.{pending_of}
use Rattle.clif_ssa.specs.LookUp.{branch_block}
use Rattle.clif_ssa.specs.Structured.{Structured, VariableTypes}
use Rattle.clif_ssa.specs.Constructs.{MayPassMore, OnlyConstructs}
use Rattle.clif_ssa.specs.Within.{StaysWithin}
use Rattle.clif_ssa.proofs.Completing.{inserted_same}
use Rattle.clif_ssa.proofs.WithinUses.{waiting_held}
use Rattle.clif_builder.specs.declared.context.BlockStatus.{BlockStatus}
use Rattle.clif_builder.specs.declared.context.BlockStatus.TheVariants.{Empty, Partial, Filled}
use Rattle.clif_builder.specs.Context.{Begins, ContextState, SameStatus, SetsStatus, begun, status_of}
use Rattle.clif_builder.specs.Builder.{is_empty_status}
use Rattle.clif_builder.specs.Construction.{IsSealingOf, IsUse}
use Rattle.clif_builder.specs.Ledger.{LedgerAgrees}
use Rattle.clif_builder.specs.Order.{AloneUnlessBegun, AreTypesOf, IsBegun, IsEnded, IsInOrder, IsStructured}
use Rattle.clif_builder.proofs.Callers.{alone_stays, none_waits_alone}
use Rattle.clif_builder.proofs.LedgerLists.{if-yes, if-no}
use Rattle.clif_builder.proofs.LedgerKept.{inserted-insts, stands-inserted, stands-still}

-- where a ledger agrees with the parts of a builder they are in order
abbrev pub in_order : {calls : List AnsweredCall} {ledger : Ledger} {f : Body} {c : ContextState} {p : Option ℕ} → LedgerAgrees calls ledger f c p → IsInOrder f c
in_order agrees = record {
  own = agrees.own;
  structured = agrees.structured;
  callers_alone = agrees.callers_alone;
  branches = agrees.branches;
  fresh = agrees.fresh;
}

-- STATUSES --------------------------------------------------------------------------------------------------------

not_empty-test : (s : BlockStatus) → s ≢ Empty → not (is_empty_status s) ≡ true
not_empty-test Empty other = absurd (other refl)
not_empty-test Partial other = refl
not_empty-test Filled other = refl

test-not_empty : (s : BlockStatus) → not (is_empty_status s) ≡ true → s ≢ Empty
test-not_empty Empty test is = let no_way : ⊥ = cc in no_way
test-not_empty Partial test is = let no_way : ⊥ = cc in no_way
test-not_empty Filled test is = let no_way : ⊥ = cc in no_way

begun-twice : (s : BlockStatus) → s ≢ Empty → begun s ≡ s
begun-twice Empty other = absurd (other refl)
begun-twice Partial other = refl
begun-twice Filled other = refl

begun-some : (s : BlockStatus) → begun s ≢ Empty
begun-some Empty is = let no_way : ⊥ = cc in no_way
begun-some Partial is = let no_way : ⊥ = cc in no_way
begun-some Filled is = let no_way : ⊥ = cc in no_way

-- a block that has its terminator is begun
pub ended-begun : (f : Body) (c : ContextState) (b : ℕ) → IsEnded f c b → IsBegun f c b
ended-begun f c b ended = record { inserted = ended.inserted; begun = λ empty. filled_is (sym ended.filled ∙ empty) }
  where
    filled_is : ◌≡◌ {A = BlockStatus} Filled Empty → ⊥
    filled_is is = cc

-- LISTS -----------------------------------------------------------------------------------------------------------

among_held : (holds : ℕ → Bool) (told : List ℕ) (b : ℕ) → AllByRecursion (λ c. holds c ≡ true) told → stands_in b told ≡ true → holds b ≡ true
among_held holds [] b all there = let no_way : ⊥ = cc in absurd no_way
among_held holds (x ∷ told) b all there =
    elim (or_cases (x == b) (stands_in b told) there) [
      | inl here ↦ subst (λ (n : ℕ). holds n ≡ true) (eqb-true x b here) all.0
      | inr later ↦ among_held holds told b all.1 later
    ]

stands_behind : (xs ys : List ℕ) (x : ℕ) → stands_in x (xs ++ x ∷ ys) ≡ true
stands_behind [] ys x = or_left (x == x) (stands_in x ys) (eq-eqb x x refl)
stands_behind (y ∷ xs) ys x = or_right (y == x) (stands_in x (xs ++ x ∷ ys)) (stands_behind xs ys x)

index_behind : (xs ys : List ℕ) (x : ℕ) → slice_index (xs ++ x ∷ ys) (length xs) ≡ x
index_behind [] ys x = refl
index_behind (y ∷ xs) ys x = index_behind xs ys x

length_behind : (xs ys : List ℕ) (x : ℕ) → length xs < length (xs ++ x ∷ ys)
length_behind [] ys x = omega arith
length_behind (y ∷ xs) ys x = omega (arith, length_behind xs ys x)

-- what stands once doesn't stand in front of itself
once_behind : (xs ys : List ℕ) (x : ℕ) → Once (xs ++ x ∷ ys) → stands_in x xs ≡ true → ⊥
once_behind [] ys x once there = cc
once_behind (y ∷ xs) ys x once there =
    elim (or_cases (y == x) (stands_in x xs) there) [
      | inl here ↦ once 0 (suc (length xs)) (omega arith) (omega (arith, length_behind xs ys x)) (eqb-true y x here ∙ sym (index_behind xs ys x))
      | inr later ↦ once_behind xs ys x (Once-tail y (xs ++ x ∷ ys) once) later
    ]

append_none : (xs : List ℕ) → xs ++ [] ≡ xs
append_none [] = refl
append_none (x ∷ xs) = ap (λ (ys : List ℕ). x ∷ ys) (append_none xs)

-- a layout that only grows behind, and by no new block, stays
pub layout_stays : (f g : Body) → OnlyConstructs f g → IsConsistent g → ((b : ℕ) → stands_in b g.layout ≡ true → stands_in b f.layout ≡ true) → g.layout ≡ f.layout
layout_stays f g constructs consistent no_other = by constructs.layout.0 constructs.layout.1
  where
    by : (more : List ℕ) → g.layout ≡ f.layout ++ more → g.layout ≡ f.layout
    by [] is = is ∙ append_none f.layout
    by (x ∷ more) is =
        let there : stands_in x f.layout ≡ true = no_other x (ap (stands_in x) is ∙ stands_behind f.layout more x) in
        absurd (once_behind f.layout more x (subst Once is consistent.layout_once) there)

-- WHERE BRANCHES STAND --------------------------------------------------------------------------------------------

-- types of which the variables are
abbrev pub listed_types : List «Type» → VariableTypes
listed_types variables x = or_invalid (slice_get variables x)

pub listed_type : (variables : List «Type») (x : ℕ) (ty : «Type») → slice_get variables x ≡ Some ty → listed_types variables x ≡ ty
listed_type variables x ty is = ap or_invalid is

pub are_listed : (c : ContextState) → AreTypesOf c (listed_types c.variables)
are_listed c x ty is touched = listed_type c.variables x ty is

-- parameters, edges and records are in order, by the types that were declared
pub listed_structured : (f : Body) (c : ContextState) (order : IsInOrder f c)
    → Structured (listed_types c.variables) order.own f c.ssa []
listed_structured f c order = order.structured (listed_types c.variables) (are_listed c)

-- what is on record exists
pub records_exist : (own : Own) (f : Body) (c : ContextState) → IsStructured own f c → (x b v : ℕ) → record_of c.ssa x b ≡ Some v → v < length f.values
records_exist own f c structured x b v is = ((structured (listed_types c.variables) (are_listed c)).recorded x b v is).0

-- a branch that leads somewhere exists
pub branch_exists : (f : Body) (c : ContextState) → IsInOrder f c
    → (b i : ℕ) → Contains (predecessors_of c.ssa b) i → i < length f.insts
branch_exists f c order b i leads = (listed_structured f c order).leading b i leads

-- where a parameter waits something was made
pub waiting_begun : (f : Body) (c : ContextState) → IsInOrder f c
    → (b : ℕ) → pending_of (sealed_of c.ssa b) ≢ [] → IsBegun f c b
waiting_begun f c order b some =
    elim (order.callers_alone b) [
      | inl alone ↦ absurd (some (none_waits_alone order.own (listed_types c.variables) f c.ssa b (listed_structured f c order) alone))
      | inr is ↦ is
    ]

pub inserted_inst : (f : Body) (b i : ℕ) → inst_at (inserted_in f b) i ≡ inst_at f i
inserted_inst f b i = by (stands_in b f.layout)
  where
    by : (test : Bool) → inst_at (if test then f else with_layout f b) i ≡ inst_at f i
    by true = refl
    by false = refl

-- it stands where it stood
pub branch_stays : (f g : Body) (i : ℕ) → OnlyConstructs f g → i < length f.insts → branch_block g i ≡ branch_block f i
branch_stays f g i constructs below =
    let more : MayPassMore (inst_at f i) (inst_at g i) = constructs.same_insts i below in
    ap (λ (node : InstNode). node.block) more.1

module _ (f : Body) (c : ContextState) (order : IsInOrder f c) (g : Body) (d : ContextState) where
  -- A USE ---------------------------------------------------------------------------------------------------------

  module _ (variable : ℕ) (ty : «Type») (block value : ℕ) (told : List ℕ) (used : IsUse (inserted_in f block) c.ssa g d.ssa variable ty block value told) where
    -- the status of each block then
    abbrev after : ℕ → BlockStatus
    after b = if b == block then begun (status_of c block) else status_of c b

    abbrev holds : ℕ → Bool
    holds b = stands_in b (inserted_in f block).layout && not (is_empty_status (after b))

    after_some : (b : ℕ) → (b ≢ block → status_of c b ≢ Empty) → after b ≢ Empty
    after_some b some =
        elim (cases_eq b block) [
          | inl same ↦ λ empty. begun-some (status_of c block) (sym (if-yes (b == block) (begun (status_of c block)) (status_of c b) (eq-eqb b block same)) ∙ empty)
          | inr other ↦ λ empty. some other (sym (if-no (b == block) (begun (status_of c block)) (status_of c b) (ne_eqb b block other)) ∙ empty)
        ]

    holds_some : (b : ℕ) → stands_in b (inserted_in f block).layout ≡ true → (b ≢ block → status_of c b ≢ Empty) → holds b ≡ true
    holds_some b there some =
        and_from (stands_in b (inserted_in f block).layout) (not (is_empty_status (after b))) there (not_empty-test (after b) (after_some b some))

    held : StaysWithin holds (inserted_in f block) g told
    held =
        used.within holds
        (λ b i leads.
        let ended : IsEnded f c (branch_block f i) = order.branches b i leads in
        let node : inst_at (inserted_in f block) i ≡ inst_at f i = inserted_inst f block i in
        ap (λ (n : InstNode). holds n.block) node
        ∙ holds_some (branch_block f i) (stands-still f block (branch_block f i) ended.inserted) (λ other. (ended-begun f c (branch_block f i) ended).begun))
        (holds_some block (stands-inserted f block) (λ other. absurd (other refl)))

    -- a block that is held
    held_there : (b : ℕ) → holds b ≡ true → stands_in b (inserted_in f block).layout ≡ true
    held_there b is = (and_parts (stands_in b (inserted_in f block).layout) (not (is_empty_status (after b))) is).0

    held_some : (b : ℕ) → holds b ≡ true → after b ≢ Empty
    held_some b is = test-not_empty (after b) (and_parts (stands_in b (inserted_in f block).layout) (not (is_empty_status (after b))) is).1

    -- no other block enters the layout
    pub used_layout : IsConsistent g → g.layout ≡ (inserted_in f block).layout
    used_layout consistent =
        layout_stays (inserted_in f block) g used.constructs consistent (λ b there. elim (held.layout b there) [ inl was ↦ was | inr is ↦ held_there b is ])

    -- the block is begun, and no other block's status changes
    pub used_status : Begins c d (block ∷ told) → SetsStatus c d block (begun (status_of c block))
    used_status begins b =
        elim (cases_eq b block) [
          | inl same ↦
              begins b ∙ if-yes (stands_in b (block ∷ told)) (begun (status_of c b)) (status_of c b) (or_left (block == b) (stands_in b told) (eq-eqb block b (sym same)))
              ∙ ap (λ (n : ℕ). begun (status_of c n)) same ∙ sym (if-yes (b == block) (begun (status_of c block)) (status_of c b) (eq-eqb b block same))
          | inr other ↦
              begins b ∙ by other (stands_in b told) refl ∙ sym (if-no (b == block) (begun (status_of c block)) (status_of c b) (ne_eqb b block other))
        ]
      where
        by : b ≢ block → (test : Bool) → stands_in b told ≡ test → (if stands_in b (block ∷ told) then begun (status_of c b) else status_of c b) ≡ status_of c b
        by other true is =
            let is_held : holds b ≡ true = among_held holds told b held.zeros is in
            let some : status_of c b ≢ Empty = λ empty. held_some b is_held (if-no (b == block) (begun (status_of c block)) (status_of c b) (ne_eqb b block other) ∙ empty) in
            if-yes (stands_in b (block ∷ told)) (begun (status_of c b)) (status_of c b) (or_right (block == b) (stands_in b told) is) ∙ begun-twice (status_of c b) some
        by other false is =
            if-no (stands_in b (block ∷ told)) (begun (status_of c b)) (status_of c b)
            (ap (λ (t : Bool). t || stands_in b told) (ne_eqb block b (λ same. other (sym same))) ∙ is)

    -- a block in which nothing was made has the caller's parameters alone
    pub used_alone : IsConsistent g → Begins c d (block ∷ told) → (own : Own) (types : VariableTypes) → Structured types own g d.ssa []
        → (b : ℕ) → AloneUnlessBegun own f c b → AloneUnlessBegun own g d b
    used_alone consistent begins own types structured b was = by (holds b) refl
      where
        now : stands_in b (inserted_in f block).layout ≡ true → after b ≢ Empty → IsBegun g d b
        now there some = record { inserted = ap (stands_in b) (used_layout consistent) ∙ there; begun = λ empty. some (sym (used_status begins b) ∙ empty) }

        no_other : holds b ≡ false → (v : ℕ) → param_home g v ≡ Some b → param_home (inserted_in f block) v ≡ Some b
        no_other out v home = elim (held.parameters v b home) [ inl old ↦ old | inr is ↦ absurd (false≢true (sym out ∙ is)) ]

        by : (test : Bool) → holds b ≡ test → AloneUnlessBegun own g d b
        by true is = inr (now (held_there b is) (held_some b is))
        by false out =
            elim was [
              | inl alone ↦
                  inl (alone_stays own types (inserted_in f block) g d.ssa b used.constructs consistent structured (no_other out)
                  (ap (λ (blocks : List BlockNode). (block_at (record f { blocks = blocks }) b).params) (inserted_same f block).blocks ∙ alone))
              | inr before ↦ inr (now (stands-still f block b before.inserted) (after_some b (λ other. before.begun)))
            ]

    -- a branch that leads somewhere ends a block of the layout
    pub used_branches : IsConsistent g → Begins c d (block ∷ told) → (b i : ℕ) → Contains (predecessors_of d.ssa b) i → IsEnded g d (branch_block g i)
    used_branches consistent begins b i leads =
        let before : Contains (predecessors_of c.ssa b) i = subst (λ (is : List ℕ). Contains is i) (used.predecessors b) leads in
        let ended : IsEnded f c (branch_block f i) = order.branches b i before in
        let below : i < length (inserted_in f block).insts = subst (λ (n : ℕ). i < n) (sym (inserted-insts f block)) (branch_exists f c order b i before) in
        let same : branch_block g i ≡ branch_block f i =
        branch_stays (inserted_in f block) g i used.constructs below ∙ ap (λ (n : InstNode). n.block) (inserted_inst f block i) in
        subst (IsEnded g d) (sym same) (record {
          inserted = ap (stands_in (branch_block f i)) (used_layout consistent) ∙ stands-still f block (branch_block f i) ended.inserted;
          filled = used_status begins (branch_block f i) ∙ still (branch_block f i) ended.filled;
        })
      where
        still : (h : ℕ) → status_of c h ≡ Filled → after h ≡ Filled
        still h filled =
            elim (cases_eq h block) [
              | inl same ↦
                  if-yes (h == block) (begun (status_of c block)) (status_of c h) (eq-eqb h block same) ∙ ap begun (ap (status_of c) (sym same) ∙ filled)
              | inr other ↦ if-no (h == block) (begun (status_of c block)) (status_of c h) (ne_eqb h block other) ∙ filled
            ]

  -- SEALINGS ------------------------------------------------------------------------------------------------------

  module _ (seals : ℕ → Bool) (told : List ℕ) (sealing : IsSealingOf f c.ssa g d.ssa seals told) (firm : IsConsistent f) where
    abbrev keeps : ℕ → Bool
    keeps b = stands_in b f.layout && not (is_empty_status (status_of c b))

    keeps_begun : (b : ℕ) → IsBegun f c b → keeps b ≡ true
    keeps_begun b is = and_from (stands_in b f.layout) (not (is_empty_status (status_of c b))) is.inserted (not_empty-test (status_of c b) is.begun)

    begun_kept : (b : ℕ) → keeps b ≡ true → IsBegun f c b
    begun_kept b is =
        let parts = and_parts (stands_in b f.layout) (not (is_empty_status (status_of c b))) is in
        record { inserted = parts.0; begun = test-not_empty (status_of c b) parts.1 }

    kept : StaysWithin keeps f g told
    kept =
        sealing.within keeps
        (λ b i leads. keeps_begun (branch_block f i) (ended-begun f c (branch_block f i) (order.branches b i leads)))
        (λ b is_sealed.
        waiting_held (listed_types c.variables) order.own f c.ssa keeps b firm (listed_structured f c order)
        (λ some. keeps_begun b (waiting_begun f c order b some)))

    -- no block enters the layout
    pub sealed_layout : IsConsistent g → g.layout ≡ f.layout
    sealed_layout consistent =
        layout_stays f g sealing.constructs consistent (λ b there. elim (kept.layout b there) [ inl was ↦ was | inr is ↦ (begun_kept b is).inserted ])

    -- no block's status changes
    pub sealed_status : Begins c d told → SameStatus c d
    sealed_status begins b = begins b ∙ by (stands_in b told) refl
      where
        by : (test : Bool) → stands_in b told ≡ test → (if test then begun (status_of c b) else status_of c b) ≡ status_of c b
        by true is = begun-twice (status_of c b) (begun_kept b (among_held keeps told b kept.zeros is)).begun
        by false is = refl

    -- a block in which nothing was made has the caller's parameters alone
    pub sealed_alone : IsConsistent g → Begins c d told → (own : Own) (types : VariableTypes) → Structured types own g d.ssa []
        → (b : ℕ) → AloneUnlessBegun own f c b → AloneUnlessBegun own g d b
    sealed_alone consistent begins own types structured b was = by (keeps b) refl
      where
        now : IsBegun f c b → IsBegun g d b
        now before = record { inserted = ap (stands_in b) (sealed_layout consistent) ∙ before.inserted; begun = λ empty. before.begun (sym (sealed_status begins b) ∙ empty) }

        no_other : keeps b ≡ false → (v : ℕ) → param_home g v ≡ Some b → param_home f v ≡ Some b
        no_other out v home = elim (kept.parameters v b home) [ inl old ↦ old | inr is ↦ absurd (false≢true (sym out ∙ is)) ]

        by : (test : Bool) → keeps b ≡ test → AloneUnlessBegun own g d b
        by true is = inr (now (begun_kept b is))
        by false out =
            elim was [
              | inl alone ↦ inl (alone_stays own types f g d.ssa b sealing.constructs consistent structured (no_other out) alone)
              | inr before ↦ inr (now before)
            ]

    -- a branch that leads somewhere ends a block of the layout
    pub sealed_branches : IsConsistent g → Begins c d told → (b i : ℕ) → Contains (predecessors_of d.ssa b) i → IsEnded g d (branch_block g i)
    sealed_branches consistent begins b i leads =
        let before : Contains (predecessors_of c.ssa b) i = subst (λ (is : List ℕ). Contains is i) (sealing.predecessors b) leads in
        let ended : IsEnded f c (branch_block f i) = order.branches b i before in
        let same : branch_block g i ≡ branch_block f i = branch_stays f g i sealing.constructs (branch_exists f c order b i before) in
        subst (IsEnded g d) (sym same) (record {
          inserted = ap (stands_in (branch_block f i)) (sealed_layout consistent) ∙ ended.inserted;
          filled = sealed_status begins (branch_block f i) ∙ ended.filled;
        })
