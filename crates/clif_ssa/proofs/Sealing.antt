-- A block is sealed: the parameters that waited in it are to be completed.
use Rattle.std.proofs.Common.{◌≡◌, ◌≢◌, ℕ, ◌==◌, ◌&&◌, ◌||◌, Bool, true, false, List, [], ◌∷◌, length, refl, ap, arith, sym, ◌∙◌, subst, ◌⊎◌, inl, inr}
use Rattle.std.specs.Prelude.{Option, Some, None, Contains, cond, map, slice_get, if◌then◌else◌}
use Rattle.std.proofs.lemmas.Grind.{common_steps}
use Rattle.std.proofs.lemmas.Bool.{cases_eq}
use Rattle.clif_ir.specs.Body.{Body, block_at}
use Rattle.clif_instructions.specs.Members.{Once}
use Rattle.clif_paths.specs.Places.{start, Arm, Edges, same_place}
use Rattle.clif_paths.specs.Blocks.{Blocks, front, last_place, with_block_sealed}
use Rattle.clif_paths.specs.BlockLaws.{BlocksSound}
use Rattle.clif_paths.proofs.BlockSteps.{seal_block_keeps}
use Rattle.clif_paths.proofs.PathLemmas.{same_place-true, same_place-equal, same_place-other}
use Rattle.clif_paths.proofs.Tables.{updated-same, updated-other}
use Rattle.clif_records.specs.Tables.{Sealed, Yes, is_yes, pending_of}
use Rattle.clif_ssa.specs.Own.{Own}
use Rattle.clif_ssa.specs.Ssa.{SsaState, sealed_of, predecessors_of, SameRecords, SamePredecessors, Seals}
use Rattle.clif_ssa.specs.LookUp.{branch_block}
use Rattle.clif_ssa.specs.Sound.{Describes, IsEdgeInto, InOrder, parameters_of, is_some_block, edge_target, has_entry, entry_of, SameProgram, SparesIfEntry}
use Rattle.clif_ssa.specs.SoundLaws.{enters, edges_into, arms_into, with_seal}
use Rattle.clif_ssa.proofs.Ordering.{same_number, none_contained, nothing_contained, contains_first, contains_more, contains_cons, parameters_all, parameters_none, is_parameter, is_parameter_elsewhere, in_order_small}
use Rattle.clif_ssa.proofs.Describing.{KeepsSealed, Arms, arms_of, arms_kept, SameEdges, same_edges, edge_kept, edge_before}
use Rattle.clif_ssa.proofs.Entering.{Waiting, relaid, same_leads, none_sealed, none_leads, enters_from, enters_there, both_true, cond_cases}
use Rattle.clif_ssa.proofs.Completing.{same_program, both}

seal_here : (c b : ℕ) (x y : Sealed) → c ≡ b → (if c == b then x else y) ≡ x
seal_here c b x y same = grind (arith, common_steps, same)

seal_other : (c b : ℕ) (x y : Sealed) → c ≢ b → (if c == b then x else y) ≡ y
seal_other c b x y apart = grind (arith, common_steps, apart)

sealed_now : (s t : SsaState) (b : ℕ) → Seals s t b → sealed_of t b ≡ Yes
sealed_now s t b seals = seals b ∙ seal_here b b Yes (sealed_of s b) refl

sealed_same : (s t : SsaState) (b : ℕ) → Seals s t b → (c : ℕ) → c ≢ b → sealed_of t c ≡ sealed_of s c
sealed_same s t b seals c apart = seals c ∙ seal_other c b Yes (sealed_of s c) apart

-- blocks that were sealed are so
sealed_still : (s t : SsaState) (b c : ℕ) → Seals s t b → is_yes (sealed_of s c) ≡ true → is_yes (sealed_of t c) ≡ true
sealed_still s t b c seals was =
    elim (cases_eq c b) [
      | inl same ↦ ap (λ d. is_yes (sealed_of t d)) same ∙ ap is_yes (sealed_now s t b seals)
      | inr apart ↦ ap is_yes (sealed_same s t b seals c apart) ∙ was
    ]

sealed_waiting : (own : Own) (f : Body) (s t : SsaState) (blocks : Blocks) (b : ℕ) → Describes own f s [] blocks → SameRecords s t → Seals s t b → Waiting f t (pending_of (sealed_of s b)) blocks
sealed_waiting own f s t blocks b before records seals =
    let none_here : (c : ℕ) → c ≡ b → pending_of (sealed_of t c) ≡ [] = λ c same. ap (λ d. pending_of (sealed_of t d)) same ∙ ap pending_of (sealed_now s t b seals) in
    let old_there : (c : ℕ) → c ≢ b → pending_of (sealed_of t c) ≡ pending_of (sealed_of s c) = λ c apart. ap pending_of (sealed_same s t b seals c apart) in
    record {
      waiting = λ c p here.
          elim (cases_eq c b) [
            | inl same ↦ absurd (none_contained p (subst (λ xs. Contains xs p) (none_here c same) here))
            | inr apart ↦ before.waiting c p (subst (λ xs. Contains xs p) (old_there c apart) here)
          ];
      completed = λ p here. inr (b, before.waiting b p here, ap is_yes (sealed_now s t b seals));
      pends = λ v x ends is.
          elim (before.pends v x ends is) [
            | inl old ↦
                elim (cases_eq old.0 b) [
                  | inl same ↦ inr (subst (λ c. Contains (pending_of (sealed_of s c)) (record { variable = x; param = v })) same old.1)
                  | inr apart ↦ inl (old.0, subst (λ xs. Contains xs (record { variable = x; param = v })) (sym (old_there old.0 apart)) old.1)
                ]
            | inr listed ↦ absurd (none_contained _ listed)
          ];
      waiting_recorded = λ c p here none.
          elim (cases_eq c b) [
            | inl same ↦ none_contained p (subst (λ xs. Contains xs p) (none_here c same) here)
            | inr apart ↦ before.waiting_recorded c p (subst (λ xs. Contains xs p) (old_there c apart) here) (sym (records p.variable c) ∙ none)
          ];
      waiting_order = λ c.
          elim (cases_eq c b) [
            | inl same ↦ in_order_small (block_at f c).params (pending_of (sealed_of t c)) (omega (arith, ap length (none_here c same)))
            | inr apart ↦ subst (λ ps. InOrder (block_at f c).params ps) (sym (old_there c apart)) (before.waiting_order c)
          ];
      completing_order = λ c.
          elim (cases_eq c b) [
            | inl same ↦
                subst (λ d. InOrder (block_at f d).params (parameters_of f d (pending_of (sealed_of s b)))) (sym same)
                (subst (λ ps. InOrder (block_at f b).params ps)
                (sym (parameters_all f b (pending_of (sealed_of s b)) (λ p here. is_parameter f b p (before.waiting b p here).parameter))) (before.waiting_order b))
            | inr apart ↦
                let none : parameters_of f c (pending_of (sealed_of s b)) ≡ [] =
                parameters_none f c (pending_of (sealed_of s b)) (λ p here. is_parameter_elsewhere f c b p (before.waiting b p here).parameter (λ same. apart (sym same))) in
                in_order_small (block_at f c).params (parameters_of f c (pending_of (sealed_of s b))) (omega (arith, ap length none))
          ];
    }

-- EDGES -----------------------------------------------------------------------------------------------------------

or_cases : (a b : Bool) → (a || b) ≡ true → (a ≡ true) ⊎ (b ≡ true)
or_cases true b is = inl refl
or_cases false b is = inr is

or_left : (a b : Bool) → a ≡ true → (a || b) ≡ true
or_left a b is = ap (λ t. t || b) is

or_right : (a b : Bool) → b ≡ true → (a || b) ≡ true
or_right true b is = refl
or_right false b is = is

equal_number : (a b : ℕ) → (a == b) ≡ true → a ≡ b
equal_number a b is = grind (arith, common_steps, is)

pub some_block : (b : ℕ) (o : Option ℕ) → is_some_block b o ≡ true → o ≡ Some b
some_block b None is = absurd (let no : false ≡ true = is in cc)
some_block b (Some c) is = ap Some (equal_number c b is)

pub some_block_there : (b : ℕ) (o : Option ℕ) → o ≡ Some b → is_some_block b o ≡ true
some_block_there b o is = ap (is_some_block b) is ∙ same_number b b refl

-- an edge of one of these branches
pub edge_found : (f : Body) (blocks : Blocks) (b : ℕ) (branches : List ℕ) (arm : Arm) → edges_into f blocks b branches arm ≡ true
    → (i : ℕ) × Contains branches i × (arm.source ≡ last_place blocks (branch_block f i)) × (edge_target f i arm.edge ≡ Some b)
edge_found f blocks b [] arm known = absurd (let no : false ≡ true = known in cc)
edge_found f blocks b (i ∷ branches) arm known =
    let induction : edges_into f blocks b branches arm ≡ true → (j : ℕ) × Contains branches j × (arm.source ≡ last_place blocks (branch_block f j)) × (edge_target f j arm.edge ≡ Some b) =
    edge_found f blocks b branches arm in
    elim (or_cases _ (edges_into f blocks b branches arm) known) [
      | inl first ↦
          let both : (same_place arm.source (last_place blocks (branch_block f i)) ≡ true) × (is_some_block b (edge_target f i arm.edge) ≡ true) = both_true _ _ first in
          (i, contains_first i branches, same_place-true arm.source (last_place blocks (branch_block f i)) both.0, some_block b (edge_target f i arm.edge) both.1)
      | inr later ↦
          let there : (j : ℕ) × Contains branches j × (arm.source ≡ last_place blocks (branch_block f j)) × (edge_target f j arm.edge ≡ Some b) = induction later in
          (there.0, contains_more i branches there.0 there.1, there.2, there.3)
    ]

pub edge_there : (f : Body) (blocks : Blocks) (b : ℕ) (branches : List ℕ) (arm : Arm) (i : ℕ) → Contains branches i → arm.source ≡ last_place blocks (branch_block f i)
    → edge_target f i arm.edge ≡ Some b → edges_into f blocks b branches arm ≡ true
edge_there f blocks b [] arm i here from to = absurd (none_contained i here)
edge_there f blocks b (j ∷ branches) arm i here from to =
    let induction : Contains branches i → edges_into f blocks b branches arm ≡ true = λ later. edge_there f blocks b branches arm i later from to in
    elim (contains_cons j branches i here) [
      | inl same ↦
          or_left _ (edges_into f blocks b branches arm)
          (both (same_place arm.source (last_place blocks (branch_block f j))) (is_some_block b (edge_target f j arm.edge))
          (same_place-equal arm.source (last_place blocks (branch_block f j)) (from ∙ ap (λ k. last_place blocks (branch_block f k)) (sym same)))
          (some_block_there b (edge_target f j arm.edge) (ap (λ k. edge_target f k arm.edge) same ∙ to)))
      | inr later ↦ or_right _ (edges_into f blocks b branches arm) (induction later)
    ]

-- what is said of an arm into a block
pub arm_found : (f : Body) (s : SsaState) (blocks : Blocks) (b : ℕ) (arm : Arm) → arms_into f s blocks b arm ≡ true
    → ((arm.source ≡ start) × (entry_of f ≡ Some b)) ⊎ IsEdgeInto f s blocks b arm
arm_found f s blocks b arm known =
    elim (or_cases (is_some_block b (entry_of f) && enters b arm) (edges_into f blocks b (predecessors_of s b) arm) known) [
      | inl first ↦
          let parts : (is_some_block b (entry_of f) ≡ true) × (enters b arm ≡ true) = both_true (is_some_block b (entry_of f)) (enters b arm) first in
          inl ((enters_from b arm parts.1).0, some_block b (entry_of f) parts.0)
      | inr edge ↦
          let there : (i : ℕ) × Contains (predecessors_of s b) i × (arm.source ≡ last_place blocks (branch_block f i)) × (edge_target f i arm.edge ≡ Some b) =
          edge_found f blocks b (predecessors_of s b) arm edge in
          inr (record { branch = there.0; leads = there.1; from = there.2; to = there.3 })
    ]

-- ARMS ------------------------------------------------------------------------------------------------------------

same_some : {x y : ℕ} → ◌≡◌ {A = Option ℕ} (Some x) (Some y) → x ≡ y
same_some same = cc

and_false : (test : Bool) → (test && false) ≡ false
and_false true = refl
and_false false = refl

false_true : false ≡ true → ⊥
false_true same = cc

none_some : {x : ℕ} → ◌≡◌ {A = Option ℕ} None (Some x) → ⊥
none_some same = cc

front_of : {x y : ℕ} → front x ≡ front y → x ≡ y
front_of same = cc

-- the branches that lead to blocks in both states
seal_edges : (own : Own) (f : Body) (s t : SsaState) (blocks : Blocks) (sealed : ℕ → Bool) (joins : Edges) → Describes own f s [] blocks → SamePredecessors s t
    → SameEdges f f s t blocks (record blocks { sealed = sealed; joins = joins })
seal_edges own f s t blocks sealed joins before same =
    same_edges f f s t blocks (record blocks { sealed = sealed; joins = joins }) (arms_of own f s [] blocks before)
    (record { values_more = omega arith; insts_more = omega arith; inst_same = λ i here. refl; constants_kept = λ constant bytes here. here; definition_same = λ v here. refl }) same (λ c i here. refl)

-- without an entry no arms are known
empty_arms : (own : Own) (f : Body) (s t : SsaState) (blocks : Blocks) (b : ℕ) → Describes own f s [] blocks → SamePredecessors s t → Seals s t b → f.layout ≡ [] → Arms f t blocks
empty_arms own f s t blocks b before same seals empty =
    let nowhere : (c i : ℕ) → Contains (predecessors_of t c) i → ⊥ = λ c i here. none_leads own f s [] blocks before empty c i (subst (λ xs. Contains xs i) (same c) here) in
    record {
      sealed = λ c. none_sealed own f s [] blocks before empty c ∙ sym (ap (λ layout. is_yes (sealed_of t c) && has_entry layout) empty ∙ and_false (is_yes (sealed_of t c)));
      joined = λ arm known. absurd (not_joined arm (before.joined arm known));
      entered = before.entered;
      led = λ c arm known at edge. absurd (nowhere c edge.branch edge.leads);
      leading = λ c i here. absurd (nowhere c i here);
      leading_apart = λ c. subst (λ xs. Once (map (branch_block f) xs)) (sym (same c)) (before.leading_apart c);
      entry_free = λ entry is known. nothing_contained (predecessors_of t entry) (nowhere entry);
    }
  where
    not_joined : (arm : Arm) → (c : ℕ) × (arm.target ≡ front c) × (is_yes (sealed_of s c) ≡ true) × (((arm.source ≡ start) × (entry_of f ≡ Some c)) ⊎ IsEdgeInto f s blocks c arm) → ⊥
    not_joined arm there =
        elim there.3 [
          | inl enters_it ↦ none_some (sym (ap (λ layout. slice_get layout 0) empty) ∙ enters_it.1)
          | inr edge ↦ none_leads own f s [] blocks before empty there.0 edge.branch edge.leads
        ]

-- a block that was sealed before
again_arms : (own : Own) (f : Body) (s t : SsaState) (blocks : Blocks) (b : ℕ) → Describes own f s [] blocks → SamePredecessors s t → Seals s t b → is_yes (sealed_of s b) ≡ true → Arms f t blocks
again_arms own f s t blocks b before same seals was =
    arms_kept f f s t blocks blocks
    (record {
      edges = seal_edges own f s t blocks blocks.sealed blocks.joins before same;
      insts_more = omega arith;
      entry = refl;
      same_yes = λ c.
          elim (cases_eq c b) [
            | inl at ↦ ap (λ d. is_yes (sealed_of t d)) at ∙ ap is_yes (sealed_now s t b seals) ∙ sym (ap (λ d. is_yes (sealed_of s d)) at ∙ was)
            | inr apart ↦ ap is_yes (sealed_same s t b seals c apart)
          ];
      sealed = λ c. refl;
      joins = λ arm. refl;
    })
    (arms_of own f s [] blocks before)

-- a block that is sealed now
new_arms : (own : Own) (f : Body) (s t : SsaState) (blocks : Blocks) (b : ℕ) → Describes own f s [] blocks → SamePredecessors s t → Seals s t b → SparesIfEntry f s b → has_entry f.layout ≡ true
    → Arms f t (with_block_sealed blocks b (arms_into f s blocks b))
new_arms own f s t blocks b before same seals spares has =
    let into : Edges = arms_into f s blocks b in
    let after : Blocks = with_block_sealed blocks b into in
    let edges : SameEdges f f s t blocks after = seal_edges own f s t blocks after.sealed after.joins before same in
    let here_joins : (c : ℕ) (arm : Arm) → c ≡ b → arm.target ≡ front c → after.joins arm ≡ into arm =
    λ c arm at target. ap (λ r. cond r (into arm) (blocks.joins arm)) (same_place-equal arm.target (front b) (target ∙ ap front at)) in
    let other_joins : (c : ℕ) (arm : Arm) → c ≢ b → arm.target ≡ front c → after.joins arm ≡ blocks.joins arm =
    λ c arm apart target. ap (λ r. cond r (into arm) (blocks.joins arm)) (same_place-other arm.target (front b) (λ at. apart (front_of (sym target ∙ at)))) in
    record {
      sealed = λ c.
          elim (cases_eq c b) [
            | inl at ↦
                updated-same blocks.sealed b true c at
                ∙ sym (ap (λ r. r && has_entry f.layout) (ap (λ d. is_yes (sealed_of t d)) at ∙ ap is_yes (sealed_now s t b seals)) ∙ has)
            | inr apart ↦
                updated-other blocks.sealed b true c apart ∙ before.sealed c
                ∙ ap (λ r. is_yes r && has_entry f.layout) (sym (sealed_same s t b seals c apart))
          ];
      joined = λ arm known.
          elim (cond_cases (same_place arm.target (front b)) (into arm) (blocks.joins arm) true known) [
            | inl new ↦ (
              b,
              same_place-true arm.target (front b) new.0,
              ap is_yes (sealed_now s t b seals),
              elim (arm_found f s blocks b arm new.1) [
                | inl from_start ↦ inl from_start
                | inr edge ↦ inr (edge_kept f f s t blocks after b arm edges edge)
              ],
            )
            | inr old ↦
                let there : (c : ℕ) × (arm.target ≡ front c) × (is_yes (sealed_of s c) ≡ true) × (((arm.source ≡ start) × (entry_of f ≡ Some c)) ⊎ IsEdgeInto f s blocks c arm) =
                before.joined arm old.1 in (
                  there.0,
                  there.1,
                  sealed_still s t b there.0 seals there.2,
                  elim there.3 [
                    | inl from_start ↦ inl from_start
                    | inr edge ↦ inr (edge_kept f f s t blocks after there.0 arm edges edge)
                  ],
                )
          ];
      entered = λ e is sealed.
          let arm : Arm = record { source = start; target = front e; edge = 0 } in
          elim (cases_eq e b) [
            | inl at ↦
                here_joins e arm at refl
                ∙ or_left (is_some_block b (entry_of f) && enters b arm) (edges_into f blocks b (predecessors_of s b) arm)
                (both (is_some_block b (entry_of f)) (enters b arm) (some_block_there b (entry_of f) (is ∙ ap Some at)) (ap (λ d. enters d arm) (sym at) ∙ enters_there e))
            | inr apart ↦ other_joins e arm apart refl ∙ before.entered e is (sym (updated-other blocks.sealed b true e apart) ∙ sealed)
          ];
      led = λ c arm known at edge.
          let old : IsEdgeInto f s blocks c arm = edge_before f f s t blocks after c arm edges edge in
          elim (cases_eq c b) [
            | inl here ↦
                here_joins c arm here at
                ∙ or_right (is_some_block b (entry_of f) && enters b arm) (edges_into f blocks b (predecessors_of s b) arm)
                (edge_there f blocks b (predecessors_of s b) arm old.branch (subst (λ d. Contains (predecessors_of s d) old.branch) here old.leads) old.from (old.to ∙ ap Some here))
            | inr apart ↦ other_joins c arm apart at ∙ before.led c arm (ap is_yes (sym (sealed_same s t b seals c apart)) ∙ known) at old
          ];
      leading = λ c i here. before.leading c i (subst (λ xs. Contains xs i) (same c) here);
      leading_apart = λ c. subst (λ xs. Once (map (branch_block f) xs)) (sym (same c)) (before.leading_apart c);
      entry_free = λ entry is known.
          elim (cases_eq entry b) [
            | inl at ↦ same entry ∙ ap (λ d. predecessors_of s d) at ∙ spares (is ∙ ap Some at)
            | inr apart ↦ same entry ∙ before.entry_free entry is (ap is_yes (sym (sealed_same s t b seals entry apart)) ∙ known)
          ];
    }

-- A block is sealed: the tables describe the state while what waited in the block is completed.
pub seal_described : (own : Own) (f : Body) (s t : SsaState) (blocks : Blocks) (b : ℕ) → Describes own f s [] blocks → BlocksSound blocks → SameRecords s t → Seals s t b → SamePredecessors s t → SparesIfEntry f s b
    → Describes own f t (pending_of (sealed_of s b)) (with_seal f.layout (is_yes (sealed_of s b)) b (arms_into f s blocks b) blocks)
    × BlocksSound (with_seal f.layout (is_yes (sealed_of s b)) b (arms_into f s blocks b) blocks)
    × SameProgram blocks (with_seal f.layout (is_yes (sealed_of s b)) b (arms_into f s blocks b) blocks)
seal_described own f s t blocks b before sound records seals same spares = by f.layout refl (is_yes (sealed_of s b)) refl
  where
    relaid_to : (sealed : ℕ → Bool) (joins : Edges) → KeepsSealed blocks (record blocks { sealed = sealed; joins = joins }) → Arms f t (record blocks { sealed = sealed; joins = joins })
        → Describes own f t (pending_of (sealed_of s b)) (record blocks { sealed = sealed; joins = joins })
    relaid_to sealed joins stay arms =
        relaid own f f.layout s t [] (pending_of (sealed_of s b)) blocks sealed joins before records (same_leads s t blocks same) stay arms (sealed_waiting own f s t blocks b before records seals)

    unsealed : (was : Bool) → is_yes (sealed_of s b) ≡ was → was ≡ false → blocks.sealed b ≡ false
    unsealed was is not_yet = before.sealed b ∙ ap (λ r. r && has_entry f.layout) (is ∙ not_yet)

    stay_sealed : (into : Edges) → KeepsSealed blocks (with_block_sealed blocks b into)
    stay_sealed into c known =
        elim (cases_eq c b) [
          | inl at ↦ updated-same blocks.sealed b true c at
          | inr apart ↦ updated-other blocks.sealed b true c apart ∙ known
        ]

    by : (layout : List ℕ) → f.layout ≡ layout → (was : Bool) → is_yes (sealed_of s b) ≡ was
        → Describes own f t (pending_of (sealed_of s b)) (with_seal layout was b (arms_into f s blocks b) blocks)
        × BlocksSound (with_seal layout was b (arms_into f s blocks b) blocks)
        × SameProgram blocks (with_seal layout was b (arms_into f s blocks b) blocks)
    by [] is was is_was = (relaid_to blocks.sealed blocks.joins (λ c known. known) (empty_arms own f s t blocks b before same seals is), sound, same_program blocks)
    by (entry ∷ layout) is true is_was = (relaid_to blocks.sealed blocks.joins (λ c known. known) (again_arms own f s t blocks b before same seals is_was), sound, same_program blocks)
    by (entry ∷ layout) is false is_was =
        let into : Edges = arms_into f s blocks b in
        let after : Blocks = with_block_sealed blocks b into in (
          relaid_to after.sealed after.joins (stay_sealed into) (new_arms own f s t blocks b before same seals spares (ap has_entry is)),
          seal_block_keeps blocks b into (unsealed false is_was refl) sound,
          record { count = λ k. refl; assigned = λ p x. refl; naming = λ n. refl; answer = λ n. refl },
        )
