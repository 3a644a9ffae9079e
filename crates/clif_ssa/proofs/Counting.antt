-- What the edges to a block pass stays as it is, where neither they nor the block's parameters change.
use Rattle.std.proofs.Common.{◌≡◌, ◌≢◌, ℕ, ◌+◌, ◌<◌, ◌≤◌, ◌&&◌, Bool, true, false, List, [], ◌∷◌, ◌++◌, ◌==◌, length, refl, ap, arith, sym, ◌∙◌, subst, ◌⊎◌, inl, inr}
use Rattle.std.specs.Prelude.{Some, Contains, slice_get, cond, if◌then◌else◌}
use Rattle.std.proofs.lemmas.Bool.{cases_eq}
use Rattle.std.proofs.lemmas.List.Elements.{Contains-push_cases}
use Rattle.clif_types.specs.declared.types.«Type».{«Type»}
use Rattle.clif_tables.specs.Lists.{TableLists}
use Rattle.clif_ir.specs.Body.{Body, block_at, inst_at}
use Rattle.clif_nodes.specs.Nodes.{BlockNode, empty_block}
use Rattle.clif_ir.specs.Changes.{with_layout, inserted_in, with_block, with_inst}
use Rattle.clif_instructions.specs.Members.{Stands, Once, place_of, stands_in, without}
use Rattle.clif_instructions.specs.Instruction.{destinations}
use Rattle.clif_ir.specs.Reading.{param_home}
use Rattle.clif_instructions.specs.Edges.{targets}
use Rattle.clif_nodes.specs.declared.nodes.InstNode.{InstNode}
use Rattle.clif_instructions.specs.declared.insert_at.InsertAt.{InsertAt}
use Rattle.clif_instructions.specs.declared.instructions.InstructionData.{InstructionData}
use Rattle.clif_instructions.proofs.Members.{if_true, if_false}
use Rattle.clif_instructions.proofs.Lists.{at_push, at_past}
use Rattle.clif_paths.specs.Places.{Place}
use Rattle.clif_paths.specs.State.{Definition, Kind, unborn, born, pending, complete, zero_of}
use Rattle.clif_paths.specs.Blocks.{Blocks, front, with_zero_in}
use Rattle.clif_paths.specs.BlockLaws.{BlocksSound}
use Rattle.clif_paths.proofs.Tables.{updated-other}
use Rattle.clif_records.specs.declared.tables.Pending.{Pending}
use Rattle.clif_ssa.specs.Own.{Own, no_own}
use Rattle.clif_records.specs.Tables.{is_yes}
use Rattle.clif_ssa.specs.Ssa.{SsaState, sealed_of, predecessors_of, SameRecords, SameBlocks, SamePredecessors, zero_value}
use Rattle.clif_ssa.specs.LookUp.{branch_block}
use Rattle.clif_ssa.specs.Sound.{Describes, CountsArguments, HomeFits, IsBehind, IsCounted, PassesOwn, edge_target, args_of, passed_count, has_entry}
use Rattle.clif_ssa.specs.SoundLaws.{DescribesSoundly}
use Rattle.clif_ssa.proofs.Bodies.{param_exists}
use Rattle.clif_ssa.proofs.Describing.{SameGiven}
use Rattle.clif_ssa.proofs.Entering.{both_true}
use Rattle.clif_ssa.proofs.Housing.{Housed}
use Rattle.clif_ssa.proofs.Instructions.{inst_param_home, inst_params, inst_old}
use Rattle.clif_ssa.proofs.Leading.{contains_without, predecessor_declared, predecessor_removed}
use Rattle.clif_ssa.proofs.ZeroSteps.{put_param_home, put_params, put_old, put_zero}

-- the branches that lead to blocks, the parameters, and how these are defined, are as before
pub record SameCounts (f g : Body) (s t : SsaState) (blocks blocks' : Blocks) : Type 0 where
  pub predecessors : SamePredecessors s t
  pub inst_same : (b i : ℕ) → Contains (predecessors_of s b) i → inst_at g i ≡ inst_at f i
  pub params : (b : ℕ) → (block_at g b).params ≡ (block_at f b).params
  pub homes : (v : ℕ) → param_home g v ≡ param_home f v
  pub defined : (v b : ℕ) → param_home f v ≡ Some b → blocks'.function.definition v ≡ blocks.function.definition v

pub counts_same : (own : Own) (f g : Body) (s t : SsaState) (blocks blocks' : Blocks) → SameCounts f g s t blocks blocks' → CountsArguments own f s blocks → CountsArguments own g t blocks'
counts_same own f g s t blocks blocks' same counts =
    let old : (b i : ℕ) → Contains (predecessors_of t b) i → Contains (predecessors_of s b) i = λ b i here. subst (λ xs. Contains xs i) (same.predecessors b) here in
    let target : (b i k : ℕ) → Contains (predecessors_of s b) i → edge_target g i k ≡ edge_target f i k =
    λ b i k here. ap (λ (n : InstNode). slice_get (targets (destinations n.shape)) k) (same.inst_same b i here) in
    let count : (b i k : ℕ) → Contains (predecessors_of s b) i → passed_count g i k ≡ passed_count f i k =
    λ b i k here. ap (λ (n : InstNode). length (args_of (slice_get (destinations n.shape) k))) (same.inst_same b i here) in
    let kind : (v b : ℕ) → param_home g v ≡ Some b → (blocks'.function.definition v).kind ≡ (blocks.function.definition v).kind =
    λ v b is. ap (λ (d : Definition). d.kind) (same.defined v b (sym (same.homes v) ∙ is)) in
    record {
      behind = λ b v is.
          subst (λ (ps : List ℕ). IsBehind (blocks'.function.definition v).kind (place_of v ps) (length (own.params b))) (sym (same.params b))
          (subst (λ (kind : Kind). IsBehind kind (place_of v (block_at f b).params) (length (own.params b))) (sym (kind v b is))
          (counts.behind b v (sym (same.homes v) ∙ is)));
      callers = λ b. subst (λ (ps : List ℕ). length (own.params b) ≤ length ps) (sym (same.params b)) (counts.callers b);
      counted = λ b i k v here leads is.
          let there : Contains (predecessors_of s b) i = old b i here in
          subst (λ n. IsCounted (blocks'.function.definition v).kind (place_of v (block_at g b).params) (length (own.params b)) n (length (own.passed i k))) (sym (count b i k there))
          (subst (λ ps. IsCounted (blocks'.function.definition v).kind (place_of v ps) (length (own.params b)) (passed_count f i k) (length (own.passed i k))) (sym (same.params b))
          (subst (λ (kind : Kind). IsCounted kind (place_of v (block_at f b).params) (length (own.params b)) (passed_count f i k) (length (own.passed i k))) (sym (kind v b is))
          (counts.counted b i k v there (sym (target b i k there) ∙ leads) (sym (same.homes v) ∙ is))));
      no_fewer = λ b i k here leads.
          let there : Contains (predecessors_of s b) i = old b i here in
          subst (λ n. length (own.passed i k) ≤ n) (sym (count b i k there)) (counts.no_fewer b i k there (sym (target b i k there) ∙ leads));
      no_more = λ b i k here leads.
          let there : Contains (predecessors_of s b) i = old b i here in
          subst (λ n. n + length (own.params b) ≤ length (block_at g b).params + length (own.passed i k)) (sym (count b i k there))
          (subst (λ (ps : List ℕ). passed_count f i k + length (own.params b) ≤ length ps + length (own.passed i k)) (sym (same.params b))
          (counts.no_more b i k there (sym (target b i k there) ∙ leads)));
    }

-- the caller made as many parameters as before, and branches pass as much of its
pub counts_given : (own own' : Own) (f : Body) (s : SsaState) (blocks : Blocks) → SameGiven own own' s → CountsArguments own f s blocks → CountsArguments own' f s blocks
counts_given own own' f s blocks same counts = record {
  behind = λ b v is.
      subst (λ n. IsBehind (blocks.function.definition v).kind (place_of v (block_at f b).params) n) (sym (same.params b)) (counts.behind b v is);
  callers = λ b. let params : length (own'.params b) ≡ length (own.params b) = same.params b in omega (arith, params, counts.callers b);
  counted = λ b i k v here leads is.
      subst (λ n. IsCounted (blocks.function.definition v).kind (place_of v (block_at f b).params) n (passed_count f i k) (length (own'.passed i k))) (sym (same.params b))
      (subst (λ n. IsCounted (blocks.function.definition v).kind (place_of v (block_at f b).params) (length (own.params b)) (passed_count f i k) n) (sym (same.passed b i k here))
      (counts.counted b i k v here leads is));
  no_fewer = λ b i k here leads. subst (λ n. n ≤ passed_count f i k) (sym (same.passed b i k here)) (counts.no_fewer b i k here leads);
  no_more = λ b i k here leads.
      let params : length (own'.params b) ≡ length (own.params b) = same.params b in
      let given : length (own'.passed i k) ≡ length (own.passed i k) = same.passed b i k here in
      omega (arith, params, given, counts.no_more b i k here leads);
}

pub housed_same : (f g : Body) → ((b : ℕ) → (block_at g b).params ≡ (block_at f b).params) → ((v : ℕ) → param_home g v ≡ param_home f v) → Housed f → Housed g
housed_same f g params homes housed = record {
  stands = λ v b is. subst (λ ps. Stands v ps) (sym (params b)) (housed.stands v b (sym (homes v) ∙ is));
  known = λ v b stands. homes v ∙ housed.known v b (subst (λ ps. Stands v ps) (params b) stands);
  once = λ b. subst (λ ps. Once ps) (sym (params b)) (housed.once b);
}

-- an instruction is put into a block
pub inst_counted : (own : Own) (f : Body) (s : SsaState) (completing : List Pending) (blocks blocks' : Blocks) (b : ℕ) (at : InsertAt) (shape : InstructionData) (types : List «Type») (loc : ℕ)
    → Describes own f s completing blocks → ((v : ℕ) → v < length f.values → blocks'.function.definition v ≡ blocks.function.definition v)
    → CountsArguments own f s blocks → CountsArguments own (with_inst f b at shape types loc) s blocks'
inst_counted own f s completing blocks blocks' b at shape types loc before defined counts =
    counts_same own f (with_inst f b at shape types loc) s s blocks blocks'
    (record {
      predecessors = λ c. refl;
      inst_same = λ c i here. inst_old f b at shape types loc i (before.leading c i here).0;
      params = inst_params f b at shape types loc;
      homes = inst_param_home f b at shape types loc;
      defined = λ v c is. defined v (param_exists f v c is);
    }) counts

pub inst_housed : (f : Body) (b : ℕ) (at : InsertAt) (shape : InstructionData) (types : List «Type») (loc : ℕ) → Housed f → Housed (with_inst f b at shape types loc)
inst_housed f b at shape types loc housed =
    housed_same f (with_inst f b at shape types loc) (inst_params f b at shape types loc) (inst_param_home f b at shape types loc) housed

-- a zero is put
pub zero_counted : (own : Own) (f : Body) (s : SsaState) (completing : List Pending) (blocks : Blocks) (b x : ℕ) (ty : «Type»)
    → Describes own f s completing blocks → CountsArguments own f s blocks → CountsArguments own (put_zero f b ty) s (with_zero_in blocks b x (zero_value f ty))
zero_counted own f s completing blocks b x ty before counts =
    counts_same own f (put_zero f b ty) s s blocks (with_zero_in blocks b x (zero_value f ty))
    (record {
      predecessors = λ c. refl;
      inst_same = λ c i here. put_old f b ty i (before.leading c i here).0;
      params = put_params f b ty;
      homes = put_param_home f b ty;
      defined = λ v c is.
          let below : v < length f.values = param_exists f v c is in
          updated-other blocks.function.definition (zero_value f ty) (record { home = front b; kind = zero_of x }) v (λ same. absurd (omega (arith, below, same)));
    }) counts

pub zero_housed : (f : Body) (b : ℕ) (ty : «Type») → Housed f → Housed (put_zero f b ty)
zero_housed f b ty housed = housed_same f (put_zero f b ty) (put_params f b ty) (put_param_home f b ty) housed

-- a block enters the layout
pub inserted_counted : (own : Own) (f : Body) (s : SsaState) (blocks blocks' : Blocks) (b : ℕ) → ((v : ℕ) → blocks'.function.definition v ≡ blocks.function.definition v)
    → CountsArguments own f s blocks → CountsArguments own (inserted_in f b) s blocks'
inserted_counted own f s blocks blocks' b defined counts = by (stands_in b f.layout)
  where
    by : (test : Bool) → CountsArguments own (cond test f (with_layout f b)) s blocks'
    by true = counts_same own f f s s blocks blocks' (record { predecessors = λ c. refl; inst_same = λ c i here. refl; params = λ c. refl; homes = λ v. refl; defined = λ v c is. defined v }) counts
    by false = counts_same own f (with_layout f b) s s blocks blocks' (record { predecessors = λ c. refl; inst_same = λ c i here. refl; params = λ c. refl; homes = λ v. refl; defined = λ v c is. defined v }) counts

pub inserted_housed : (f : Body) (b : ℕ) → Housed f → Housed (inserted_in f b)
inserted_housed f b housed = by (stands_in b f.layout)
  where
    by : (test : Bool) → Housed (cond test f (with_layout f b))
    by true = housed
    by false = housed_same f (with_layout f b) (λ c. refl) (λ v. refl) housed

-- a block is made
pub block_params : (f : Body) (b : ℕ) → (block_at (with_block f) b).params ≡ (block_at f b).params
block_params f b =
    at_push (λ (m : BlockNode). m.params ≡ (block_at f b).params) f.blocks empty_block b empty_block (λ inside. refl)
    (λ last. ap (λ (m : BlockNode). m.params) (sym (at_past f.blocks b empty_block (omega (arith, last)))))
    (λ past. ap (λ (m : BlockNode). m.params) (sym (at_past f.blocks b empty_block (omega (arith, past)))))

pub blocks_counted : (own : Own) (f : Body) (nodes : List BlockNode) (layout : List ℕ) (lists : TableLists) (s : SsaState) (blocks : Blocks)
    → ((b : ℕ) → (block_at (record f { blocks = nodes; layout = layout; tables = lists }) b).params ≡ (block_at f b).params)
    → CountsArguments own f s blocks → CountsArguments own (record f { blocks = nodes; layout = layout; tables = lists }) s blocks
blocks_counted own f nodes layout lists s blocks same_params counts =
    counts_same own f (record f { blocks = nodes; layout = layout; tables = lists }) s s blocks blocks
    (record { predecessors = λ c. refl; inst_same = λ c i here. refl; params = same_params; homes = λ v. refl; defined = λ v c is. refl }) counts

pub block_counted : (own : Own) (f : Body) (s : SsaState) (blocks : Blocks) → CountsArguments own f s blocks → CountsArguments own (with_block f) s blocks
block_counted own f s blocks counts =
    counts_same own f (with_block f) s s blocks blocks
    (record { predecessors = λ c. refl; inst_same = λ c i here. refl; params = block_params f; homes = λ v. refl; defined = λ v c is. refl }) counts

pub block_housed : (f : Body) → Housed f → Housed (with_block f)
block_housed f housed = housed_same f (with_block f) (block_params f) (λ v. refl) housed

-- BRANCHES --------------------------------------------------------------------------------------------------------

-- what the edges of one branch to a block have to pass
record EdgesCount (own : Own) (f : Body) (blocks : Blocks) (b i : ℕ) : Type 0 where
  counted : (k v : ℕ) → edge_target f i k ≡ Some b → param_home f v ≡ Some b
      → IsCounted (blocks.function.definition v).kind (place_of v (block_at f b).params) (length (own.params b)) (passed_count f i k) (length (own.passed i k))
  no_fewer : (k : ℕ) → edge_target f i k ≡ Some b → length (own.passed i k) ≤ passed_count f i k
  no_more : (k : ℕ) → edge_target f i k ≡ Some b → passed_count f i k + length (own.params b) ≤ length (block_at f b).params + length (own.passed i k)

-- other branches lead to blocks, whose edges pass what they have to
led_counted : (own : Own) (f : Body) (s t : SsaState) (blocks : Blocks) → CountsArguments own f s blocks
    → ((b i : ℕ) → Contains (predecessors_of t b) i → Contains (predecessors_of s b) i ⊎ EdgesCount own f blocks b i) → CountsArguments own f t blocks
led_counted own f s t blocks counts each = record {
  behind = counts.behind;
  callers = counts.callers;
  counted = λ b i k v here leads is.
      elim (each b i here) [
        | inl old ↦ counts.counted b i k v old leads is
        | inr new ↦ new.counted k v leads is
      ];
  no_fewer = λ b i k here leads.
      elim (each b i here) [
        | inl old ↦ counts.no_fewer b i k old leads
        | inr new ↦ new.no_fewer k leads
      ];
  no_more = λ b i k here leads.
      elim (each b i here) [
        | inl old ↦ counts.no_more b i k old leads
        | inr new ↦ new.no_more k leads
      ];
}

-- a branch is put behind those that lead to a block
declared_counted : (own : Own) (f : Body) (s t : SsaState) (blocks : Blocks) (b i : ℕ) → CountsArguments own f s blocks → EdgesCount own f blocks b i
    → ((c : ℕ) → predecessors_of t c ≡ (if c == b then predecessors_of s c ++ i ∷ [] else predecessors_of s c)) → CountsArguments own f t blocks
declared_counted own f s t blocks b i counts new declared =
    led_counted own f s t blocks counts (λ c j here.
    elim (cases_eq c b) [
      | inl same ↦
          let in_list : Contains (predecessors_of s c ++ i ∷ []) j = subst (λ xs. Contains xs j) (declared c ∙ if_true c b (predecessors_of s c ++ i ∷ []) (predecessors_of s c) same) here in
          elim (Contains-push_cases (predecessors_of s c) i j in_list) [
            | inl old ↦ inl old
            | inr at ↦ inr (subst (λ k. EdgesCount own f blocks c k) at (subst (λ d. EdgesCount own f blocks d i) (sym same) new))
          ]
      | inr apart ↦ inl (subst (λ xs. Contains xs j) (declared c ∙ if_false c b (predecessors_of s c ++ i ∷ []) (predecessors_of s c) apart) here)
    ])

complete_kind : {k : Kind} (d : Definition) → d.kind ≡ k → d ≡ record { home = d.home; kind = k }
complete_kind d is = ap (λ (kind : Kind). record d { kind = kind }) is

-- An edge to an unsealed block that passes what the caller passed: no parameter of the block is complete.
pub open_counts : (own : Own) (f : Body) (s : SsaState) (blocks : Blocks) (b : ℕ) → Describes own f s [] blocks → CountsArguments own f s blocks
    → is_yes (sealed_of s b) ≡ false → (v count given : ℕ) → count ≡ given → param_home f v ≡ Some b
    → IsCounted (blocks.function.definition v).kind (place_of v (block_at f b).params) (length (own.params b)) count given
open_counts own f s blocks b before counts unsealed v count given passes is = by (blocks.function.definition v).kind refl (counts.behind b v is)
  where
    false_true : ◌≡◌ {A = Bool} false true → ⊥
    false_true same = cc

    never_complete : (x : ℕ) → (blocks.function.definition v).kind ≡ complete x → ⊥
    never_complete x kind =
        let home : (c : ℕ) × ((blocks.function.definition v).home ≡ front c) × (blocks.sealed c ≡ true) = subst (λ (k : Kind). HomeFits blocks v k) kind (before.homes v) in
        let defined : blocks.function.definition v ≡ record { home = front home.0; kind = complete x } =
        complete_kind (blocks.function.definition v) kind ∙ ap (λ (place : Place). record { home = place; kind = complete x }) home.1 in
        let there : param_home f v ≡ Some home.0 = before.complete_there home.0 v defined in
        let same : home.0 ≡ b = cc in
        let sealed : (is_yes (sealed_of s home.0) && has_entry f.layout) ≡ true = sym (before.sealed home.0) ∙ home.2 in
        let yes : is_yes (sealed_of s home.0) ≡ true = (both_true (is_yes (sealed_of s home.0)) (has_entry f.layout) sealed).0 in
        false_true (sym unsealed ∙ ap (λ c. is_yes (sealed_of s c)) (sym same) ∙ yes)

    by : (kind : Kind) → (blocks.function.definition v).kind ≡ kind
        → IsBehind (blocks.function.definition v).kind (place_of v (block_at f b).params) (length (own.params b))
        → IsCounted (blocks.function.definition v).kind (place_of v (block_at f b).params) (length (own.params b)) count given
    by unborn kind behind = rw kind tt
    by (born n) kind behind = rw kind tt
    by (zero_of x) kind behind = rw kind tt
    by (pending x) kind behind =
        let first : length (own.params b) ≤ place_of v (block_at f b).params = rw kind at behind in
        rw kind (omega (arith, passes, first))
    by (complete x) kind behind = absurd (never_complete x kind)

own_counted : (own : Own) (f : Body) (s : SsaState) (blocks : Blocks) (b i : ℕ) → Describes own f s [] blocks → CountsArguments own f s blocks
    → is_yes (sealed_of s b) ≡ false → PassesOwn own f b i → EdgesCount own f blocks b i
own_counted own f s blocks b i before counts unsealed passes = record {
  counted = λ k v leads is. open_counts own f s blocks b before counts unsealed v (passed_count f i k) (length (own.passed i k)) (passes k leads) is;
  no_fewer = λ k leads. let given : passed_count f i k ≡ length (own.passed i k) = passes k leads in omega (arith, given);
  no_more = λ k leads.
      let given : passed_count f i k ≡ length (own.passed i k) = passes k leads in
      let fits : length (own.params b) ≤ length (block_at f b).params = counts.callers b in
      omega (arith, given, fits);
}

-- no branch leads anywhere, and no block has a parameter of the caller's
pub first_counted : (f : Body) (s : SsaState) (blocks : Blocks) → ((b i : ℕ) → Contains (predecessors_of s b) i → ⊥) → ((v b : ℕ) → param_home f v ≡ Some b → ⊥)
    → CountsArguments no_own f s blocks
first_counted f s blocks none bare = record {
  behind = λ b v is. absurd (bare v b is);
  callers = λ b. omega arith;
  counted = λ b i k v here. absurd (none b i here);
  no_fewer = λ b i k here. absurd (none b i here);
  no_more = λ b i k here. absurd (none b i here);
}

-- a branch leads no longer to a block
removed_counted : (own : Own) (f : Body) (s t : SsaState) (blocks : Blocks) (b i : ℕ) → CountsArguments own f s blocks
    → ((c : ℕ) → predecessors_of t c ≡ (if c == b then without i (predecessors_of s c) else predecessors_of s c)) → CountsArguments own f t blocks
removed_counted own f s t blocks b i counts removed =
    led_counted own f s t blocks counts (λ c j here.
    elim (cases_eq c b) [
      | inl same ↦
          inl (contains_without i (predecessors_of s c) j (subst (λ xs. Contains xs j) (removed c ∙ if_true c b (without i (predecessors_of s c)) (predecessors_of s c) same) here))
      | inr apart ↦ inl (subst (λ xs. Contains xs j) (removed c ∙ if_false c b (without i (predecessors_of s c)) (predecessors_of s c) apart) here)
    ])

-- a branch, whose edges pass what they have to, is put behind those that lead to an unsealed block
pub declared_soundly : (own : Own) (f : Body) (s t : SsaState) (blocks : Blocks) (b i : ℕ) → DescribesSoundly own f s blocks
    → i < length f.insts → has_entry f.layout ≡ true → is_yes (sealed_of s b) ≡ false
    → ((j : ℕ) → Contains (predecessors_of s b) j → branch_block f j ≢ branch_block f i)
    → PassesOwn own f b i → SameRecords s t → SameBlocks s t
    → ((c : ℕ) → predecessors_of t c ≡ (if c == b then predecessors_of s c ++ i ∷ [] else predecessors_of s c))
    → DescribesSoundly own f t blocks
declared_soundly own f s t blocks b i both exists entry unsealed apart new records same declared =
    let now : Describes own f t [] blocks × BlocksSound blocks = predecessor_declared own f s t blocks b i both exists entry unsealed apart records same declared in
    (now.0, now.1, declared_counted own f s t blocks b i both.2 (own_counted own f s blocks b i both.0 both.2 unsealed new) declared)

-- a branch leads no longer to an unsealed block
pub removed_soundly : (own : Own) (f : Body) (s t : SsaState) (blocks : Blocks) (b i : ℕ) → DescribesSoundly own f s blocks
    → is_yes (sealed_of s b) ≡ false → SameRecords s t → SameBlocks s t
    → ((c : ℕ) → predecessors_of t c ≡ (if c == b then without i (predecessors_of s c) else predecessors_of s c))
    → DescribesSoundly own f t blocks
removed_soundly own f s t blocks b i both unsealed records same removed =
    let now : Describes own f t [] blocks × BlocksSound blocks = predecessor_removed own f s t blocks b i both unsealed records same removed in
    (now.0, now.1, removed_counted own f s t blocks b i both.2 removed)
