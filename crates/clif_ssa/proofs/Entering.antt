-- A block enters the layout, and other changes of what is known of the arms.
use Rattle.std.proofs.Common.{◌≡◌, ◌≢◌, ℕ, ◌==◌, ◌&&◌, Bool, true, false, cond, List, [], ◌∷◌, ◌++◌, refl, ap, arith, sym, ◌∙◌, subst, ◌⊎◌, inl, inr}
use Rattle.std.specs.Prelude.{Option, Some, None, slice_get, Contains}
use Rattle.clif_ir.specs.Body.{Body, block_at, resolved}
use Rattle.clif_ir.specs.Changes.{with_layout, inserted_in}
use Rattle.clif_ir.specs.Reading.{param_home}
use Rattle.clif_instructions.specs.Members.{stands_in}
use Rattle.clif_paths.specs.Places.{Place, start, Arm, Edges, same_place}
use Rattle.clif_paths.specs.State.{pending}
use Rattle.clif_paths.specs.Blocks.{Blocks, front, chosen_front, with_blocks_sealed}
use Rattle.clif_paths.specs.BlockLaws.{BlocksSound}
use Rattle.clif_paths.proofs.PathLemmas.{same_place-true, same_place-refl}
use Rattle.clif_paths.proofs.BlockSteps.{seal_blocks_keeps}
use Rattle.clif_records.specs.declared.tables.Pending.{Pending}
use Rattle.clif_ssa.specs.Own.{Own}
use Rattle.clif_records.specs.Tables.{is_yes, pending_of}
use Rattle.clif_ssa.specs.Ssa.{SsaState, sealed_of, record_of, predecessors_of, SameRecords, SamePredecessors}
use Rattle.clif_ssa.specs.Sound.{Describes, IsWaiting, IsEdgeInto, InOrder, parameters_of, has_entry, entry_of}
use Rattle.clif_ssa.specs.SoundLaws.{enters, with_entry}
use Rattle.clif_ssa.proofs.Ordering.{nothing_contained}
use Rattle.clif_ssa.proofs.Describing.{Extends, KeepsSealed, Arms, SameEdges, arms_of, edge_kept, edge_before, complete_sealed, homes_kept, instructions_kept, waiting_kept, assigns_not_kept}

-- the parameters that wait, in a new state and with others to be completed
pub record Waiting (f : Body) (t : SsaState) (completing : List Pending) (blocks : Blocks) : Type 0 where
  pub waiting : (b : ℕ) (p : Pending) → Contains (pending_of (sealed_of t b)) p → IsWaiting f blocks b p
  pub completed : (p : Pending) → Contains completing p
      → ((param_home f p.param ≡ None) × (resolved f p.param ≢ p.param)) ⊎ ((b : ℕ) × IsWaiting f blocks b p × (is_yes (sealed_of t b) ≡ true))
  pub pends : (v x : ℕ) → resolved f v ≡ v → (blocks.function.definition v).kind ≡ pending x
      → ((b : ℕ) × Contains (pending_of (sealed_of t b)) (record { variable = x; param = v }))
      ⊎ Contains completing (record { variable = x; param = v })
  pub waiting_recorded : (b : ℕ) (p : Pending) → Contains (pending_of (sealed_of t b)) p → record_of t p.variable b ≢ None
  pub waiting_order : (b : ℕ) → InOrder (block_at f b).params (pending_of (sealed_of t b))
  pub completing_order : (b : ℕ) → InOrder (block_at f b).params (parameters_of f b completing)

pub waiting_of : (own : Own) (f : Body) (s : SsaState) (completing : List Pending) (blocks : Blocks) → Describes own f s completing blocks → Waiting f s completing blocks
waiting_of own f s completing blocks before = record {
  waiting = before.waiting;
  completed = before.completed;
  pends = before.pends;
  waiting_recorded = before.waiting_recorded;
  waiting_order = before.waiting_order;
  completing_order = before.completing_order;
}

-- the branches that lead to blocks whose arms are known did so before
abbrev pub NoNewLeads : SsaState → SsaState → Blocks → Type 0
NoNewLeads s t blocks = (b i : ℕ) → blocks.sealed b ≡ true → Contains (predecessors_of t b) i → Contains (predecessors_of s b) i

pub same_leads : (s t : SsaState) (blocks : Blocks) → SamePredecessors s t → NoNewLeads s t blocks
same_leads s t blocks same b i sealed here = subst (λ xs. Contains xs i) (same b) here

-- only the layout, what is sealed, what waits and what is known of arms changed
pub relaid : (own : Own) (f : Body) (layout : List ℕ) (s t : SsaState) (completing completing' : List Pending) (blocks : Blocks) (sealed : ℕ → Bool) (joins : Edges)
    → Describes own f s completing blocks → SameRecords s t → NoNewLeads s t blocks → KeepsSealed blocks (record blocks { sealed = sealed; joins = joins })
    → Arms (record f { layout = layout }) t (record blocks { sealed = sealed; joins = joins }) → Waiting f t completing' blocks
    → Describes own (record f { layout = layout }) t completing' (record blocks { sealed = sealed; joins = joins })
relaid own f layout s t completing completing' blocks sealed joins before same leads stay_sealed arms waits =
    let g : Body = record f { layout = layout } in
    let after : Blocks = record blocks { sealed = sealed; joins = joins } in
    let extends : Extends f g blocks after =
    record { values_more = omega arith; insts_more = omega arith; inst_same = λ i here. refl; constants_kept = λ constant bytes here. here; definition_same = λ v here. refl } in
    record {
      sealed = arms.sealed;
      joined = arms.joined;
      entered = arms.entered;
      led = arms.led;
      leading = arms.leading;
      leading_apart = arms.leading_apart;
      entry_free = arms.entry_free;
      resolves = before.resolves;
      recorded = λ b x. before.recorded b x ∙ sym (same x b);
      records_exist = λ b x v is. before.records_exist b x v (sym (same x b) ∙ is);
      unrecorded = λ b x none. assigns_not_kept blocks after b x refl (λ k. refl) (before.unrecorded b x (sym (same x b) ∙ none));
      unwritten = before.unwritten;
      absent = before.absent;
      homes = λ v. homes_kept blocks after v refl stay_sealed (λ n given. (refl, refl)) (before.homes v);
      answered = before.answered;
      born_there = before.born_there;
      waiting = λ b p here. waiting_kept f g blocks after b p refl refl (waits.waiting b p here);
      completed = λ p here.
          elim (waits.completed p here) [
            | inl gone ↦ inl gone
            | inr there ↦ inr (there.0, waiting_kept f g blocks after there.0 p refl refl there.1, there.2)
          ];
      pends = waits.pends;
      waiting_recorded = waits.waiting_recorded;
      complete_there = before.complete_there;
      complete_first = before.complete_first;
      waiting_order = waits.waiting_order;
      completing_order = waits.completing_order;
      passes = λ b v arm edge is at j belongs.
          before.passes b v arm
          (record {
            branch = edge.branch;
            leads = leads b edge.branch (complete_sealed own f s completing blocks b v before is) edge.leads;
            from = edge.from;
            to = edge.to;
          }) is at j belongs;
      instructions = λ b. instructions_kept f g blocks after b (own.insts b) extends refl (before.instructions b);
    }

-- ARMS INTO THE ENTRY ----------------------------------------------------------------------------------------------

pub both_true : (a b : Bool) → (a && b) ≡ true → (a ≡ true) × (b ≡ true)
both_true true b is = (refl, is)
both_true false b is = (is, absurd (let no : false ≡ true = is in cc))

pub enters_from : (entry : ℕ) (arm : Arm) → enters entry arm ≡ true → (arm.source ≡ start) × (arm.target ≡ front entry)
enters_from entry arm is =
    let parts : (same_place arm.source start ≡ true) × ((same_place arm.target (front entry) && (arm.edge == 0)) ≡ true) = both_true (same_place arm.source start) _ is in
    let more : (same_place arm.target (front entry) ≡ true) × ((arm.edge == 0) ≡ true) = both_true (same_place arm.target (front entry)) _ parts.1 in
    (same_place-true arm.source start parts.0, same_place-true arm.target (front entry) more.0)

pub enters_there : (entry : ℕ) → enters entry (record { source = start; target = front entry; edge = 0 }) ≡ true
enters_there entry =
    ap (λ t. t && (same_place (front entry) (front entry) && true)) (same_place-refl start)
    ∙ ap (λ t. t && true) (same_place-refl (front entry))

-- INSERTED --------------------------------------------------------------------------------------------------------

no_entry : {x : ℕ} → ◌≡◌ {A = Option ℕ} None (Some x) → ⊥
no_entry same = cc

false_true : false ≡ true → ⊥
false_true same = cc

some_front : (chosen : ℕ → Bool) (p : Place) (b : ℕ) → p ≡ front b → chosen_front chosen p ≡ chosen b
some_front chosen p b at = ap (chosen_front chosen) at

-- a choice by a test
pub cond_cases : {X : Type 0} (test : Bool) (x y z : X) → cond test x y ≡ z → ((test ≡ true) × (x ≡ z)) ⊎ ((test ≡ false) × (y ≡ z))
cond_cases true x y z is = inl (refl, is)
cond_cases false x y z is = inr (refl, is)

pub cond_self : (test other : Bool) → other ≡ false → cond test true other ≡ test
cond_self true other is = refl
cond_self false other is = is

-- nothing is known of arms before there is an entry
pub none_sealed : (own : Own) (f : Body) (s : SsaState) (completing : List Pending) (blocks : Blocks) → Describes own f s completing blocks → f.layout ≡ []
    → (b : ℕ) → blocks.sealed b ≡ false
none_sealed own f s completing blocks before empty b = before.sealed b ∙ ap (λ layout. is_yes (sealed_of s b) && has_entry layout) empty ∙ and_false (is_yes (sealed_of s b))
  where
    and_false : (test : Bool) → (test && false) ≡ false
    and_false true = refl
    and_false false = refl

and_true : (test : Bool) → (test && true) ≡ test
and_true true = refl
and_true false = refl

-- then no branch leads anywhere
pub none_leads : (own : Own) (f : Body) (s : SsaState) (completing : List Pending) (blocks : Blocks) → Describes own f s completing blocks → f.layout ≡ []
    → (b i : ℕ) → Contains (predecessors_of s b) i → ⊥
none_leads own f s completing blocks before empty b i here = false_true (sym (ap has_entry empty) ∙ (before.leading b i here).1)

-- the first block
first_arms : (own : Own) (f : Body) (s : SsaState) (completing : List Pending) (blocks : Blocks) (b : ℕ) → Describes own f s completing blocks → f.layout ≡ []
    → Arms (record f { layout = b ∷ [] }) s (with_blocks_sealed blocks (λ c. is_yes (sealed_of s c)) (enters b))
first_arms own f s completing blocks b before empty = record {
  sealed = λ c. cond_self (is_yes (sealed_of s c)) (blocks.sealed c) (none_sealed own f s completing blocks before empty c) ∙ sym (and_true (is_yes (sealed_of s c)));
  joined = λ arm is.
      elim (cond_cases (chosen_front (λ c. is_yes (sealed_of s c)) arm.target) (enters b arm) (blocks.joins arm) true is) [
        | inl new ↦
            let from : (arm.source ≡ start) × (arm.target ≡ front b) = enters_from b arm new.1 in
            (b, from.1, sym (ap (chosen_front (λ c. is_yes (sealed_of s c))) from.1) ∙ new.0, inl (from.0, refl))
        | inr old ↦ absurd (not_joined arm (before.joined arm old.1))
      ];
  entered = λ entry is sealed.
      let same : b ≡ entry = some_same is in
      let chosen : is_yes (sealed_of s entry) ≡ true = sym (cond_self (is_yes (sealed_of s entry)) (blocks.sealed entry) (none_sealed own f s completing blocks before empty entry)) ∙ sealed in
      ap (λ t. cond t (enters b (record { source = start; target = front entry; edge = 0 })) (blocks.joins (record { source = start; target = front entry; edge = 0 }))) chosen
      ∙ ap (λ e. enters e (record { source = start; target = front entry; edge = 0 })) same ∙ enters_there entry;
  led = λ c arm sealed at edge. absurd (none_leads own f s completing blocks before empty c edge.branch edge.leads);
  leading = λ c i here. ((before.leading c i here).0, refl);
  leading_apart = before.leading_apart;
  entry_free = λ entry is sealed. nothing_contained (predecessors_of s entry) (none_leads own f s completing blocks before empty entry);
}
  where
    some_same : {x y : ℕ} → ◌≡◌ {A = Option ℕ} (Some x) (Some y) → x ≡ y
    some_same same = cc

    not_joined : (arm : Arm) → (c : ℕ) × (arm.target ≡ front c) × (is_yes (sealed_of s c) ≡ true) × (((arm.source ≡ start) × (entry_of f ≡ Some c)) ⊎ IsEdgeInto f s blocks c arm) → ⊥
    not_joined arm there =
        elim there.3 [
          | inl enters_it ↦ no_entry (sym (ap (λ layout. slice_get layout 0) empty) ∙ enters_it.1)
          | inr edge ↦ none_leads own f s completing blocks before empty there.0 edge.branch edge.leads
        ]

-- another layout with the same entry
pub same_entry_arms : (f : Body) (layout : List ℕ) (s : SsaState) (blocks : Blocks) → slice_get layout 0 ≡ slice_get f.layout 0 → has_entry layout ≡ has_entry f.layout
    → Arms f s blocks → Arms (record f { layout = layout }) s blocks
same_entry_arms f layout s blocks entry_same has_same arms =
    let g : Body = record f { layout = layout } in
    let edges : SameEdges f g s s blocks blocks =
    record { predecessors_same = λ b. refl; block_same = λ b i here. refl; target_same = λ b i k here. refl; count_same = λ b i here. refl } in
    record {
      sealed = λ b. arms.sealed b ∙ ap (λ t. is_yes (sealed_of s b) && t) (sym has_same);
      joined = λ arm known.
          let there : (b : ℕ) × (arm.target ≡ front b) × (is_yes (sealed_of s b) ≡ true) × (((arm.source ≡ start) × (entry_of f ≡ Some b)) ⊎ IsEdgeInto f s blocks b arm) =
          arms.joined arm known in (
            there.0,
            there.1,
            there.2,
            elim there.3 [
              | inl enters_it ↦ inl (enters_it.0, entry_same ∙ enters_it.1)
              | inr edge ↦ inr (edge_kept f g s s blocks blocks there.0 arm edges edge)
            ],
          );
      entered = λ entry is. arms.entered entry (sym entry_same ∙ is);
      led = λ b arm sealed at edge. arms.led b arm sealed at (edge_before f g s s blocks blocks b arm edges edge);
      leading = λ b i here. ((arms.leading b i here).0, has_same ∙ (arms.leading b i here).1);
      leading_apart = arms.leading_apart;
      entry_free = λ entry is sealed. arms.entry_free entry (sym entry_same ∙ is) sealed;
    }

-- a block behind others
next_arms : (f : Body) (layout : List ℕ) (c b : ℕ) (s : SsaState) (blocks : Blocks) → f.layout ≡ c ∷ layout → Arms f s blocks → Arms (record f { layout = f.layout ++ b ∷ [] }) s blocks
next_arms f layout c b s blocks is arms =
    same_entry_arms f (f.layout ++ b ∷ []) s blocks
    (ap (λ l. slice_get (l ++ b ∷ []) 0) is ∙ sym (ap (λ l. slice_get l 0) is))
    (ap (λ l. has_entry (l ++ b ∷ [])) is ∙ sym (ap has_entry is)) arms

placed : (own : Own) (f : Body) (s : SsaState) (completing : List Pending) (blocks : Blocks) (b : ℕ) (layout : List ℕ) → f.layout ≡ layout
    → Describes own f s completing blocks → BlocksSound blocks
    → Describes own (with_layout f b) s completing (with_entry layout s b blocks) × BlocksSound (with_entry layout s b blocks)
placed own f s completing blocks b [] is before sound =
    let chosen : ℕ → Bool = λ c. is_yes (sealed_of s c) in
    let after : Blocks = with_blocks_sealed blocks chosen (enters b) in (
      subst (λ l. Describes own (record f { layout = l ++ b ∷ [] }) s completing after) (sym is)
          (relaid own f (b ∷ []) s s completing completing blocks after.sealed after.joins before (λ v c. refl) (λ c i known here. here)
          (λ c known. absurd (false_true (sym (none_sealed own f s completing blocks before is c) ∙ known)))
          (first_arms own f s completing blocks b before is) (waiting_of own f s completing blocks before)),
      seal_blocks_keeps blocks chosen (enters b) (λ c here. none_sealed own f s completing blocks before is c) sound,
    )
placed own f s completing blocks b (c ∷ layout) is before sound = (
  relaid own f (f.layout ++ b ∷ []) s s completing completing blocks blocks.sealed blocks.joins before (λ v d. refl) (λ d i known here. here) (λ d known. known)
      (next_arms f layout c b s blocks is (arms_of own f s completing blocks before)) (waiting_of own f s completing blocks before),
  sound,
)

-- a block that stands in the layout already
standing : (own : Own) (f : Body) (s : SsaState) (completing : List Pending) (blocks : Blocks) (b : ℕ) (layout : List ℕ) → stands_in b layout ≡ true
    → Describes own f s completing blocks → BlocksSound blocks
    → Describes own f s completing (with_entry layout s b blocks) × BlocksSound (with_entry layout s b blocks)
standing own f s completing blocks b [] is before sound = absurd (false_true is)
standing own f s completing blocks b (c ∷ layout) is before sound = (before, sound)

pub inserted : (own : Own) (f : Body) (s : SsaState) (completing : List Pending) (blocks : Blocks) (b : ℕ)
    → Describes own f s completing blocks → BlocksSound blocks
    → Describes own (inserted_in f b) s completing (with_entry f.layout s b blocks) × BlocksSound (with_entry f.layout s b blocks)
inserted own f s completing blocks b before sound = by (stands_in b f.layout) refl
  where
    by : (test : Bool) → stands_in b f.layout ≡ test
        → Describes own (cond test f (with_layout f b)) s completing (with_entry f.layout s b blocks) × BlocksSound (with_entry f.layout s b blocks)
    by true is = standing own f s completing blocks b f.layout is before sound
    by false is = placed own f s completing blocks b f.layout refl before sound

-- then there is an entry
pub inserted_entry : (f : Body) (b : ℕ) → has_entry (inserted_in f b).layout ≡ true
inserted_entry f b = by (stands_in b f.layout) refl
  where
    with_one : (layout : List ℕ) → has_entry (layout ++ b ∷ []) ≡ true
    with_one [] = refl
    with_one (c ∷ layout) = refl

    some : (layout : List ℕ) → stands_in b layout ≡ true → has_entry layout ≡ true
    some [] is = is
    some (c ∷ layout) is = refl

    by : (test : Bool) → stands_in b f.layout ≡ test → has_entry (cond test f (with_layout f b)).layout ≡ true
    by true is = some f.layout is
    by false is = with_one f.layout
