-- A walk along single predecessors is a chain of blocks, into which a record may be copied.
use Rattle.std.proofs.Common.{◌≡◌, ℕ, ◌<◌, ◌==◌, ◌&&◌, ◌||◌, Bool, true, false, List, [], ◌∷◌, ◌++◌, length, reverse, refl, ap, arith, sym, ◌∙◌, subst, ◌⊎◌, inl, inr}
use Rattle.std.specs.Prelude.{Option, Some, None, Contains, if◌then◌else◌}
use Rattle.std.proofs.lemmas.List.{reverse-append}
use Rattle.std.proofs.lemmas.Grind.{common_steps}
use Rattle.std.proofs.lemmas.Bool.{cases_eq}
use Rattle.clif_ir.specs.Body.{Body}
use Rattle.clif_instructions.specs.Members.{stands_in}
use Rattle.clif_instructions.proofs.Members.{if_true, if_false}
use Rattle.clif_paths.specs.Places.{start, Arm}
use Rattle.clif_paths.specs.Blocks.{Blocks, front, last_place, ComesFrom, IsChain, with_chain, with_record}
use Rattle.clif_paths.specs.LookUp.{last_of, Unrecorded}
use Rattle.clif_records.specs.declared.tables.Pending.{Pending}
use Rattle.clif_ssa.specs.Own.{Own}
use Rattle.clif_records.specs.Tables.{is_yes, pending_of}
use Rattle.clif_ssa.specs.Ssa.{SsaState, record_of, sealed_of, predecessors_of, SameBlocks, SamePredecessors}
use Rattle.clif_records.specs.Passed.{before_first}
use Rattle.clif_ssa.specs.LookUp.{branch_block, only_block, single_predecessor, IsWalk, Copies}
use Rattle.clif_ssa.specs.Sound.{Describes, IsEdgeInto, has_entry, entry_of, CountsArguments}
use Rattle.clif_ssa.proofs.Describing.{Arms, arms_of, SameEdges, arms_kept, Ordered, ordered_of, same_kinds, ordered_kept, Extends, instructions_kept, waiting_kept, homes_kept, assigns_not_kept, record_changed, not_recorded, is_recorded}
use Rattle.clif_ssa.proofs.Counts.{counts_kept}
use Rattle.clif_ssa.proofs.Firsts.{none_some, same_some, front_same}
use Rattle.clif_ssa.proofs.Ordering.{contains_first, contains_cons, none_contained}

-- THE CHAIN -------------------------------------------------------------------------------------------------------

-- the only branch that leads to a sealed block
record Alone (f : Body) (s : SsaState) (block next : ℕ) : Type 0 where
  branch : ℕ
  is_sealed : is_yes (sealed_of s block) ≡ true
  only : predecessors_of s block ≡ branch ∷ []
  stands : branch_block f branch ≡ next

alone_of : (f : Body) (s : SsaState) (block next : ℕ) → single_predecessor f s block ≡ Some next → Alone f s block next
alone_of f s block next is = by (is_yes (sealed_of s block)) refl is
  where
    by_list : is_yes (sealed_of s block) ≡ true → (xs : List ℕ) → predecessors_of s block ≡ xs → only_block f xs ≡ Some next → Alone f s block next
    by_list sealed [] all is = absurd (none_some is)
    by_list sealed (i ∷ []) all is = record { branch = i; is_sealed = sealed; only = all; stands = same_some is }
    by_list sealed (i ∷ j ∷ xs) all is = absurd (none_some is)

    by : (test : Bool) → is_yes (sealed_of s block) ≡ test → (if test then only_block f (predecessors_of s block) else None) ≡ Some next → Alone f s block next
    by true sealed is = by_list sealed (predecessors_of s block) refl is
    by false sealed is = absurd (none_some is)

-- control comes to the block from its single predecessor alone
comes_from : (own : Own) (f : Body) (s : SsaState) (completing : List Pending) (blocks : Blocks) (x block next : ℕ)
    → Describes own f s completing blocks → record_of s x block ≡ None → single_predecessor f s block ≡ Some next → ComesFrom blocks x next block
comes_from own f s completing blocks x block next before none is =
    let alone : Alone f s block next = alone_of f s block next is in
    let here : Contains (predecessors_of s block) alone.branch = subst (λ xs. Contains xs alone.branch) (sym alone.only) (contains_first alone.branch []) in
    record {
      is_sealed = before.sealed block ∙ ap (λ r. r && has_entry f.layout) alone.is_sealed ∙ (before.leading block alone.branch here).1;
      assigns_not = before.unrecorded block x none;
      single = λ arm known at.
          let there : (b : ℕ) × (arm.target ≡ front b) × (is_yes (sealed_of s b) ≡ true) × (((arm.source ≡ start) × (entry_of f ≡ Some b)) ⊎ IsEdgeInto f s blocks b arm) = before.joined arm known in
          let same : there.0 ≡ block = front_same (sym there.1 ∙ at) in
          elim there.3 [
            | inl enters ↦
                let empty : predecessors_of s block ≡ [] = before.entry_free block (enters.1 ∙ ap Some same) alone.is_sealed in
                absurd (none_contained alone.branch (subst (λ xs. Contains xs alone.branch) empty here))
            | inr edge ↦ edge.from ∙ ap (λ c. last_place blocks c) (by arm there.0 edge same alone)
          ];
    }
  where
    by : (arm : Arm) (b : ℕ) (edge : IsEdgeInto f s blocks b arm) → b ≡ block → (alone : Alone f s block next) → branch_block f edge.branch ≡ next
    by arm b edge same alone =
        let leads : Contains (alone.branch ∷ []) edge.branch = subst (λ xs. Contains xs edge.branch) (ap (λ c. predecessors_of s c) same ∙ alone.only) edge.leads in
        elim (contains_cons alone.branch [] edge.branch leads) [
          | inl one ↦ ap (λ i. branch_block f i) (sym one) ∙ alone.stands
          | inr none ↦ absurd (none_contained edge.branch none)
        ]

chain_push : (blocks : Blocks) (x from : ℕ) (chain : List ℕ) (b : ℕ) → IsChain blocks x from chain → ComesFrom blocks x (last_of from chain) b → IsChain blocks x from (chain ++ b ∷ [])
chain_push blocks x from [] b chain comes = (comes, tt)
chain_push blocks x from (c ∷ cs) b chain comes = (chain.0, chain_push blocks x c cs b chain.1 comes)

last_push : (from : ℕ) (chain : List ℕ) (b : ℕ) → last_of from (chain ++ b ∷ []) ≡ b
last_push from [] b = refl
last_push from (c ∷ cs) b = last_push c cs b

unrecorded_push : (blocks : Blocks) (x v : ℕ) (chain : List ℕ) (b : ℕ) → Unrecorded blocks x v chain → blocks.recorded b x ≡ None → Unrecorded blocks x v (chain ++ b ∷ [])
unrecorded_push blocks x v [] b chain none = (λ w is. absurd (none_some (sym none ∙ is)), tt)
unrecorded_push blocks x v (c ∷ cs) b chain none = (chain.0, unrecorded_push blocks x v cs b chain.1 none)

-- what a walk is to the tables
pub record WalkIsChain (blocks : Blocks) (x block : ℕ) (passed : List ℕ) (reached : ℕ) : Type 0 where
  pub chain : IsChain blocks x reached (reverse passed)
  pub ends : last_of reached (reverse passed) ≡ block
  pub unrecorded : (v : ℕ) → Unrecorded blocks x v (reverse passed)

pub walk_chain : (own : Own) (f : Body) (s : SsaState) (completing : List Pending) (blocks : Blocks) (x : ℕ) (passed : List ℕ) (block reached : ℕ)
    → Describes own f s completing blocks → IsWalk f s x block passed reached → WalkIsChain blocks x block passed reached
walk_chain own f s completing blocks x [] block reached before walk = record { chain = tt; ends = sym walk; unrecorded = λ v. tt }
walk_chain own f s completing blocks x (b ∷ passed) block reached before walk =
    let rest : WalkIsChain blocks x (walk.2).0 passed reached = walk_chain own f s completing blocks x passed (walk.2).0 reached before (walk.2).2 in
    let comes : ComesFrom blocks x (walk.2).0 block = comes_from own f s completing blocks x block (walk.2).0 before walk.1 (walk.2).1 in
    let comes_b : ComesFrom blocks x (last_of reached (reverse passed)) b =
    subst (λ c. ComesFrom blocks x (last_of reached (reverse passed)) c) (sym walk.0) (subst (λ c. ComesFrom blocks x c block) (sym rest.ends) comes) in
    let turned : reverse (b ∷ passed) ≡ reverse passed ++ b ∷ [] = reverse-append (b ∷ []) passed in
    record {
      chain = subst (λ cs. IsChain blocks x reached cs) (sym turned) (chain_push blocks x reached (reverse passed) b rest.chain comes_b);
      ends = ap (λ cs. last_of reached cs) turned ∙ last_push reached (reverse passed) b ∙ walk.0;
      unrecorded = λ v. subst (λ cs. Unrecorded blocks x v cs) (sym turned) (unrecorded_push blocks x v (reverse passed) b (rest.unrecorded v) (before.recorded b x ∙ ap (λ c. record_of s x c) walk.0 ∙ walk.1));
    }

-- the first part of a walk, to a block that it passes
pub walk_before : (f : Body) (s : SsaState) (x : ℕ) (passed : List ℕ) (block reached : ℕ) (again : ℕ) → IsWalk f s x block passed reached → stands_in again passed ≡ true
    → IsWalk f s x block (before_first again passed) again
walk_before f s x [] block reached again walk here = absurd (let no : false ≡ true = here in cc)
walk_before f s x (b ∷ passed) block reached again walk here =
    elim (cases_eq b again) [
      | inl same ↦ subst (λ bs. IsWalk f s x block bs again) (sym (if_true b again [] (b ∷ before_first again passed) same)) (sym walk.0 ∙ same)
      | inr other ↦
          let later : stands_in again passed ≡ true = grind (arith, common_steps, other, here) in
          subst (λ bs. IsWalk f s x block bs again) (sym (if_false b again [] (b ∷ before_first again passed) other))
          (walk.0, walk.1, ((walk.2).0, (walk.2).1, walk_before f s x passed (walk.2).0 reached again (walk.2).2 later))
    ]

-- THE RECORDS -----------------------------------------------------------------------------------------------------

-- the state has more records, and is otherwise as before
pub records_described : (own : Own) (f : Body) (s t : SsaState) (completing : List Pending) (blocks : Blocks) (recorded : ℕ → ℕ → Option ℕ)
    → Describes own f s completing blocks → SameBlocks s t → SamePredecessors s t → ((b x : ℕ) → recorded b x ≡ record_of t x b)
    → ((b x v : ℕ) → record_of t x b ≡ Some v → v < length f.values) → ((b x : ℕ) → record_of t x b ≡ None → record_of s x b ≡ None)
    → Describes own f t completing (record blocks { recorded = recorded })
records_described own f s t completing blocks recorded before same_blocks same_predecessors says exist fewer =
    let after : Blocks = record blocks { recorded = recorded } in
    let extends : Extends f f blocks after =
    record { values_more = omega arith; insts_more = omega arith; inst_same = λ i here. refl; constants_kept = λ constant bytes here. here; definition_same = λ v here. refl } in
    let edges : SameEdges f f s t blocks after =
    record { predecessors_same = same_predecessors; block_same = λ b i here. refl; target_same = λ b i k here. refl; count_same = λ b i here. refl } in
    let arms : Arms f t after =
    arms_kept f f s t blocks after
    (record { edges = edges; insts_more = omega arith; entry = refl; same_yes = λ b. ap is_yes (same_blocks b); sealed = λ b. refl; joins = λ arm. refl })
    (arms_of own f s completing blocks before) in
    let order : Ordered own f t completing after =
    ordered_kept own f f s t completing blocks after
    (record {
      edges = edges;
      passed = λ b i k j here. refl;
      kinds = same_kinds blocks after (λ v. refl);
      params = λ b. refl;
      homes = λ v. refl;
      entries = λ b. ap pending_of (same_blocks b);
      arguments = λ v arm. refl;
    })
    (ordered_of own f s completing blocks before) in
    let still : (b : ℕ) (p : Pending) → Contains (pending_of (sealed_of t b)) p → Contains (pending_of (sealed_of s b)) p =
    λ b p here. subst (λ xs. Contains xs p) (ap pending_of (same_blocks b)) here in
    record {
      sealed = arms.sealed;
      joined = arms.joined;
      entered = arms.entered;
      led = arms.led;
      leading = arms.leading;
      leading_apart = arms.leading_apart;
      entry_free = arms.entry_free;
      resolves = before.resolves;
      recorded = says;
      records_exist = exist;
      unrecorded = λ b x none. assigns_not_kept blocks after b x refl (λ k. refl) (before.unrecorded b x (fewer b x none));
      unwritten = before.unwritten;
      absent = before.absent;
      homes = λ v. homes_kept blocks after v refl (λ b is. is) (λ n given. (refl, refl)) (before.homes v);
      answered = before.answered;
      born_there = before.born_there;
      waiting = λ b p here. waiting_kept f f blocks after b p refl refl (before.waiting b p (still b p here));
      completed = λ p here.
          elim (before.completed p here) [
            | inl gone ↦ inl gone
            | inr there ↦ inr (there.0, waiting_kept f f blocks after there.0 p refl refl there.1, ap is_yes (same_blocks there.0) ∙ there.2)
          ];
      pends = λ v x ends is.
          elim (before.pends v x ends is) [
            | inl old ↦ inl (old.0, subst (λ xs. Contains xs (record { variable = x; param = v })) (sym (ap pending_of (same_blocks old.0))) old.1)
            | inr listed ↦ inr listed
          ];
      waiting_recorded = λ b p here none. before.waiting_recorded b p (still b p here) (fewer b p.variable none);
      complete_there = order.complete_there;
      complete_first = order.complete_first;
      waiting_order = order.waiting_order;
      completing_order = order.completing_order;
      passes = order.passes;
      instructions = λ b. instructions_kept f f blocks after b (own.insts b) extends refl (before.instructions b);
    }

-- a copy changes the records alone
pub with_chain_is : (x v : ℕ) (chain : List ℕ) (blocks : Blocks) → with_chain blocks x v chain ≡ record blocks { recorded = (with_chain blocks x v chain).recorded }
with_chain_is x v [] blocks = refl
with_chain_is x v (b ∷ chain) blocks = with_chain_is x v chain (with_record blocks b x v)

either : (here there : Bool) (v : ℕ) (old : Option ℕ) → (if there then Some v else (if here then Some v else old)) ≡ (if here || there then Some v else old)
either true true v old = refl
either true false v old = refl
either false true v old = refl
either false false v old = refl

both : (a b c : Bool) → ((a && b) || (a && c)) ≡ (a && (b || c))
both true b c = refl
both false b c = refl

same_test : (a b : ℕ) → (a == b) ≡ (b == a)
same_test a b = grind (arith, common_steps)

-- the records after the copy
pub chain_recorded : (x v : ℕ) (chain : List ℕ) (blocks : Blocks) (c y : ℕ)
    → (with_chain blocks x v chain).recorded c y ≡ (if y == x && stands_in c chain then Some v else blocks.recorded c y)
chain_recorded x v [] blocks c y = no_test (y == x)
  where
    no_test : (a : Bool) → blocks.recorded c y ≡ (if a && false then Some v else blocks.recorded c y)
    no_test true = refl
    no_test false = refl
chain_recorded x v (b ∷ chain) blocks c y =
    chain_recorded x v chain (with_record blocks b x v) c y
    ∙ ap (λ r. if y == x && stands_in c chain then Some v else r) (record_changed blocks.recorded b x v c y)
    ∙ either (y == x && c == b) (y == x && stands_in c chain) v (blocks.recorded c y)
    ∙ ap (λ t. if t then Some v else blocks.recorded c y) (both (y == x) (c == b) (stands_in c chain))
    ∙ ap (λ t. if y == x && (t || stands_in c chain) then Some v else blocks.recorded c y) (same_test c b)

stands_push : (c b : ℕ) (xs : List ℕ) → stands_in c (xs ++ b ∷ []) ≡ (stands_in c xs || (b == c))
stands_push c b [] = by (b == c)
  where
    by : (t : Bool) → (t || false) ≡ (false || t)
    by true = refl
    by false = refl
stands_push c b (x ∷ xs) = ap (λ t. (x == c) || t) (stands_push c b xs) ∙ assoc (x == c) (stands_in c xs) (b == c)
  where
    assoc : (p q r : Bool) → (p || (q || r)) ≡ ((p || q) || r)
    assoc true q r = refl
    assoc false q r = refl

pub stands_reverse : (c : ℕ) (xs : List ℕ) → stands_in c (reverse xs) ≡ stands_in c xs
stands_reverse c [] = refl
stands_reverse c (b ∷ xs) =
    ap (λ ys. stands_in c ys) (reverse-append (b ∷ []) xs) ∙ stands_push c b (reverse xs)
    ∙ ap (λ t. t || (b == c)) (stands_reverse c xs) ∙ turn (stands_in c xs) (b == c)
  where
    turn : (p q : Bool) → (p || q) ≡ (q || p)
    turn true true = refl
    turn true false = refl
    turn false true = refl
    turn false false = refl

-- a record is copied into the blocks that a walk passed
pub copied_described : (own : Own) (f : Body) (s t : SsaState) (completing : List Pending) (blocks : Blocks) (x v : ℕ) (passed : List ℕ)
    → Describes own f s completing blocks → Copies s t x v passed → SameBlocks s t → SamePredecessors s t → v < length f.values
    → Describes own f t completing (with_chain blocks x v (reverse passed))
copied_described own f s t completing blocks x v passed before copies same_blocks same_predecessors exists =
    let recorded : ℕ → ℕ → Option ℕ = (with_chain blocks x v (reverse passed)).recorded in
    let says : (b y : ℕ) → recorded b y ≡ record_of t y b =
    λ b y. chain_recorded x v (reverse passed) blocks b y
    ∙ ap (λ t. if y == x && t then Some v else blocks.recorded b y) (stands_reverse b passed)
    ∙ ap (λ r. if y == x && stands_in b passed then Some v else r) (before.recorded b y) ∙ sym (copies y b) in
    subst (λ after. Describes own f t completing after) (sym (with_chain_is x v (reverse passed) blocks))
    (records_described own f s t completing blocks recorded before same_blocks same_predecessors says
    (λ b y w is.
    elim (is_recorded (y == x && stands_in b passed) v w (record_of s y b) (sym (copies y b) ∙ is)) [
      | inl same ↦ subst (λ u. u < length f.values) same exists
      | inr old ↦ before.records_exist b y w old
    ])
    (λ b y none. (not_recorded (y == x && stands_in b passed) v (record_of s y b) (sym (copies y b) ∙ none)).1))

pub copied_counted : (own : Own) (f : Body) (s t : SsaState) (blocks : Blocks) (x v : ℕ) (chain : List ℕ) → CountsArguments own f s blocks → SamePredecessors s t
    → CountsArguments own f t (with_chain blocks x v chain)
copied_counted own f s t blocks x v chain counts same_predecessors =
    subst (λ after. CountsArguments own f t after) (sym (with_chain_is x v chain blocks))
    (counts_kept own f s t blocks (record blocks { recorded = (with_chain blocks x v chain).recorded }) counts same_predecessors (λ u. refl))
