-- The parts of a builder stay in order, whatever the calls are.
use Rattle.std.proofs.Common.{◌≡◌, ◌≢◌, ◌<◌, ◌≤◌, ◌+◌, ◌==◌, ◌||◌, ℕ, suc, List, [], ◌∷◌, ◌++◌, length, refl, sym, ◌∙◌, ap, subst, arith, inl, inr, length-append, length-set, append-nil}
use Rattle.std.specs.Prelude.{All, slice_get, slice_index_or, ltb, Bool, true, false, if◌then◌else◌, Some, Contains, Result, Ok, Err, OnOk, IfOk}
use Rattle.std.proofs.lemmas.Bool.{cases_eq, le-ltb, ne_eqb}
use Rattle.std.proofs.lemmas.Option.{get_or_from_slice_get}
use Rattle.clif_types.specs.declared.types.«Type».{«Type»}
use Rattle.clif_types.specs.declared.extname.UserFuncName.{UserFuncName}
use Rattle.clif_types.specs.Signature.{SignatureShape}
use Rattle.clif_instructions.specs.declared.block_call.BlockCall.{BlockCall}
use Rattle.clif_nodes.specs.declared.nodes.InstNode.{InstNode}
use Rattle.clif_instructions.specs.declared.insert_at.InsertAt.TheVariants.{Back}
use Rattle.clif_instructions.specs.declared.instructions.InstructionData.{InstructionData}
use Rattle.clif_instructions.specs.declared.instructions.InstructionData.TheVariants.{Jump, Brif, BranchTable, TryCall, TryCallIndirect}
use Rattle.clif_ir.specs.Body.{Body, block_at, empty_body, inst_at, resolved, value_at}
use Rattle.clif_nodes.specs.Nodes.{no_inst}
use Rattle.clif_ir.specs.Changes.{inserted_in, inst_node, with_block, with_cold, with_inst, with_layout_after}
use Rattle.clif_ir.specs.Consistent.{IsConsistent}
use Rattle.clif_instructions.specs.Instruction.{destinations, is_branch, is_terminator}
use Rattle.clif_tables.specs.Callees.{types_of_results}
use Rattle.clif_instructions.specs.Members.{stands_in}
use Rattle.clif_instructions.specs.Edges.{targets}
use Rattle.clif_paths.proofs.Tables.{updated-same}
use Rattle.clif_records.specs.Tables.{RecordMap, SsaBlock, is_yes, predecessors_at, record_at, sealed_at}
use Rattle.clif_ssa.specs.LookUp.{branch_block}
use Rattle.clif_ssa.specs.Own.{Own, no_own}
use Rattle.clif_ssa.specs.Sound.{args_of}
use Rattle.clif_ssa.specs.SoundLaws.{shape_passes, with_own}
use Rattle.clif_ssa.specs.Ssa.{Records, SameBlocks, SamePredecessors, predecessors_of, sealed_of}
use Rattle.clif_ssa.specs.Structured.{HasType, Structured}
use Rattle.clif_ssa.proofs.Bodies.{firm_from}
use Rattle.clif_ssa.proofs.Counting.{block_params}
use Rattle.clif_ssa.proofs.Ordering.{none_contained}
use Rattle.clif_ssa.proofs.Structuring.{same_structured}
use Rattle.clif_ssa.proofs.StructuredLaws.{assigned_structured, block_structured, blocks_structured, first_structured}
use Rattle.clif_simulation.specs.Carries.{with_params}
use Rattle.clif_simulation.proofs.Appending.{bare_still, own_after, own_elsewhere, params_elsewhere, params_structured, same_layout}
use Rattle.clif_simulation.proofs.Further.{cold_insts, cold_params}
use Rattle.clif_simulation.proofs.Telling.{MayLead, along_told, along_structured}
use Rattle.clif_builder.specs.declared.context.BlockStatus.{BlockStatus}
use Rattle.clif_builder.specs.declared.context.BlockStatus.TheVariants.{Empty, Filled}
use Rattle.clif_builder.specs.Builder.{AppendsIn, CanLeadIn}
use Rattle.clif_builder.specs.Construction.{IsDeclared, IsSealingOf, IsUse}
use Rattle.clif_builder.specs.Context.{Begins, ContextState, SameStatus, SameVariables, SetsStatus, TouchesVariable, begun, empty_context, status_of}
use Rattle.clif_builder.specs.Order.{AloneUnlessBegun, AreTypesOf, IsEnded, IsInOrder, IsStructured}
use Rattle.clif_builder.proofs.Laid.{still_stands}
use Rattle.clif_builder.proofs.LedgerBuilt.{appended-structured, appends-make, contained-stands, node-there, unsealed-target}
use Rattle.clif_builder.proofs.LedgerKept.{branch-kept, extends-constructs, inserted-insts, keeps-of}
use Rattle.clif_builder.proofs.LedgerLeads.{blocks-along, leads-along}
use Rattle.clif_builder.proofs.LedgerLists.{get-front, if-no}
use Rattle.clif_builder.proofs.LedgerMade.{Makes, ended-here}
use Rattle.clif_builder.proofs.LedgerUsed.{begun-not-empty, use-makes}
use Rattle.clif_builder.proofs.Marking.{ensured-makes}
use Rattle.clif_builder.proofs.Parameters.{Extends-params}
use Rattle.clif_builder.proofs.Touching.{are_types, type_touched, types_before}
use Rattle.clif_builder.proofs.Placed.{are_listed, branch_exists, listed_types, sealed_alone, sealed_branches, sealed_status, used_status}

-- nothing made
order-first : (name : UserFuncName) (signature : SignatureShape) → IsInOrder (empty_body name signature) empty_context
order-first name signature = record {
  own = no_own;
  structured = λ types are. first_structured types name signature;
  callers_alone = λ b. inl refl;
  branches = λ b branch leads. absurd (none_contained branch leads);
  fresh = λ k above. (refl, refl, refl);
}

pub order-begins : (f : Body) (c : ContextState) → f ≡ empty_body f.name f.signature → c ≡ empty_context → IsInOrder f c
order-begins f c function context =
    subst (λ (h : Body). IsInOrder h c) (sym function)
    (subst (λ (d : ContextState). IsInOrder (empty_body f.name f.signature) d) (sym context) (order-first f.name f.signature))

-- the context is cleared: each block has what it has from the caller
abbrev all_own : Body → Own
all_own f = record { insts = λ b. (block_at f b).insts; params = λ b. (block_at f b).params; passed = λ i k. [] }

none_value : (f : Body) (v : ℕ) → v < length (empty_body f.name f.signature).values → ⊥
none_value f v inside = omega (arith, inside)

pub order-bare : (f : Body) → ((v : ℕ) → (value_at f (resolved f v)).ty ≡ (value_at f v).ty) → IsInOrder f empty_context
order-bare f alias_types = record {
  own = all_own f;
  structured = λ types are. record {
    parameters = λ b. record {
      complete = [];
      in_order = sym (append-nil (block_at f b).params);
      several = λ some. absurd (some refl);
      edges = λ i k here. absurd (none_contained i here);
    };
    alias_types = alias_types;
    zeros = λ b. record { zeros = []; in_order = refl; needed = tt };
    recorded = λ x b v is. absurd (none_value f v (((first_structured types f.name f.signature).recorded x b v is).0));
    waiting = λ b p here. absurd (none_contained p here);
    leading = λ b i here. absurd (none_contained i here);
    leading_once = λ b j k below inside. absurd (omega (arith, inside));
  };
  callers_alone = λ b. inl refl;
  branches = λ b branch leads. absurd (none_contained branch leads);
  fresh = λ k above. (refl, refl, refl);
}

cleared : (f : Body) (c : ContextState) → IsInOrder f c → IsInOrder f empty_context
cleared f c order = order-bare f (order.structured (listed_types c.variables) (are_listed c)).alias_types

pub order-cleared : (f : Body) (c d : ContextState) → d ≡ empty_context → IsInOrder f c → IsInOrder f d
order-cleared f c d empty order = subst (IsInOrder f) (sym empty) (cleared f c order)

-- the function and what is known of its blocks stay
pub order-kept : (f : Body) (c d : ContextState) (order : IsInOrder f c) → ((b : ℕ) → is_yes (sealed_of d.ssa b) ≡ is_yes (sealed_of c.ssa b)) → SamePredecessors c.ssa d.ssa → SameStatus c d
    → IsStructured order.own f d → IsInOrder f d
order-kept f c d order sealed leads status structured = record {
  own = order.own;
  structured = structured;
  callers_alone = λ b. elim (order.callers_alone b) [
    | inl alone ↦ inl alone
    | inr was ↦ inr (record { inserted = was.inserted; begun = λ empty. was.begun (sym (status b) ∙ empty) })
  ];
  branches = λ b i here.
      let was = order.branches b i (subst (λ (is : List ℕ). Contains is i) (leads b) here) in
      record { inserted = was.inserted; filled = status (branch_block f i) ∙ was.filled };
  fresh = λ k above. (sealed k ∙ (order.fresh k above).0, status k ∙ (order.fresh k above).1, leads k ∙ (order.fresh k above).2);
}

-- a variable is declared
pub order-declared : {E : Type 0} (r : Result ℕ E) (f : Body) (c d : ContextState) (ty : «Type») → OnOk r (d ≡ record c { variables = c.variables ++ ty ∷ [] }) → IsInOrder f c → OnOk r (IsInOrder f d)
order-declared (Err e) f c d ty is order = tt
order-declared (Ok x) f c d ty is order =
    subst (IsInOrder f) (sym is)
    (order-kept f c (record c { variables = c.variables ++ ty ∷ [] }) order (λ b. refl) (λ b. refl) (λ b. refl)
    (λ types are. order.structured types (λ y t at touched. are y t (get-front c.variables _ y t at) touched)))

-- a variable is assigned
pub order-assigned : {E : Type 0} (r : Result (Unit {0}) E) (f : Body) (c d : ContextState) (variable block value : ℕ) (ty : «Type») → slice_get c.variables variable ≡ Some ty → HasType f value ty
    → OnOk r (Records c.ssa d.ssa variable block value) → d.ssa.blocks ≡ c.ssa.blocks → d.status ≡ c.status → OnOk r (TouchesVariable c d variable) → IsInOrder f c → OnOk r (IsInOrder f d)
order-assigned (Err e) f c d variable block value ty declared typed records blocks status variables order = tt
order-assigned (Ok u) f c d variable block value ty declared typed records blocks status variables order =
    order-kept f c d order (λ b. ap (λ (xs : List SsaBlock). is_yes (sealed_at xs b)) blocks) leads
    (λ b. ap (λ (xs : List BlockStatus). slice_index_or xs b Empty) status)
    (λ types are.
    let before : AreTypesOf c types = types_before c d variable types variables are in
    let has : HasType f value (types variable) = subst (HasType f value) (sym (type_touched c d variable ty types variables declared are)) typed in
    assigned_structured types order.own f c.ssa d.ssa variable block value has records (λ b. ap (λ (xs : List SsaBlock). sealed_at xs b) blocks) leads
    (order.structured types before))
  where
    leads : SamePredecessors c.ssa d.ssa
    leads b = ap (λ (xs : List SsaBlock). predecessors_at xs b) blocks

-- something was made in a block
order-made : (f g : Body) (c d : ContextState) (block : ℕ) (status : BlockStatus) (order : IsInOrder f c) → block < length f.blocks → SetsStatus c d block status → Makes order.own f c g d block
    → IsInOrder g d
order-made f g c d block status order exists sets makes = record {
  own = makes.own;
  structured = makes.structured;
  callers_alone = makes.callers_alone;
  branches = makes.branches;
  fresh = λ k above.
      let past : length f.blocks ≤ k = omega (arith, above, makes.extends.block_count) in
      let other : k ≢ block = omega (arith, past, exists) in (
        makes.sealed k ∙ (order.fresh k past).0,
        sets k ∙ if-no (k == block) status (status_of c k) (ne_eqb k block other) ∙ (order.fresh k past).1,
        makes.predecessors k ∙ (order.fresh k past).2,
      );
}

-- a variable is used
pub order-used : {E : Type 0} (r : Result ℕ E) (f g : Body) (c d : ContextState) (variable : ℕ) (ty : «Type») (block : ℕ) → block < length f.blocks → slice_get c.variables variable ≡ Some ty
    → IfOk r (λ value. (told : List ℕ) × IsUse (inserted_in f block) c.ssa g d.ssa variable ty block value told × Begins c d (block ∷ told))
    → IsConsistent g → OnOk r (TouchesVariable c d variable) → IsInOrder f c → OnOk r (IsInOrder g d)
order-used (Err e) f g c d variable ty block exists declared uses consistent variables order = tt
order-used (Ok value) f g c d variable ty block exists declared uses consistent variables order =
    order-made f g c d block (begun (status_of c block)) order exists (used_status f c order g d variable ty block value uses.0 uses.1 uses.2)
    (use-makes f g c d variable ty block value uses.0 order declared uses.1 uses.2 consistent variables)

-- a block is brought into the layout
pub order-ensured : {E : Type 0} (r : Result (Unit {0}) E) (f g : Body) (c d : ContextState) (block : ℕ) → block < length f.blocks → OnOk r (g ≡ inserted_in f block)
    → OnOk r (SetsStatus c d block (begun (status_of c block))) → d.ssa ≡ c.ssa → SameVariables c d → IsInOrder f c → OnOk r (IsInOrder g d)
order-ensured (Err e) f g c d block exists is sets ssa variables order = tt
order-ensured (Ok u) f g c d block exists is sets ssa variables order =
    subst (λ (h : Body). IsInOrder h d) (sym is)
    (order-made f (inserted_in f block) c d block (begun (status_of c block)) order exists sets (ensured-makes f c d block order sets ssa variables))

-- a block is made
pub order-created : {E : Type 0} (r : Result ℕ E) (f g : Body) (c d : ContextState) → OnOk r (g ≡ with_block f)
    → d.ssa.records ≡ c.ssa.records → SameBlocks c.ssa d.ssa → SamePredecessors c.ssa d.ssa → d.status ≡ c.status → SameVariables c d → IsInOrder f c → OnOk r (IsInOrder g d)
order-created (Err e) f g c d function records sealed leads status variables order = tt
order-created (Ok block) f g c d function records sealed leads status variables order = record {
  own = order.own;
  structured = λ types are.
      let own : Own = order.own in
      let before : Structured types own f c.ssa [] = order.structured types (are_types c d types variables are) in
      let made : Structured types own g c.ssa [] = subst (λ (h : Body). Structured types own h c.ssa []) (sym function) (block_structured types own f c.ssa before) in
      same_structured types own g c.ssa d.ssa [] (λ x b. ap (λ (m : RecordMap). record_at m x b) records) sealed leads made;
  callers_alone = λ b. elim (order.callers_alone b) [
    | inl alone ↦ inl (same_params b ∙ alone)
    | inr was ↦ inr (record { inserted = same_stands b ∙ was.inserted; begun = λ empty. was.begun (sym (same_status b) ∙ empty) })
  ];
  branches = λ b i here.
      let was = order.branches b i (subst (λ (is : List ℕ). Contains is i) (leads b) here) in
      subst (IsEnded g d) (ap (λ (h : Body). branch_block h i) (sym function))
      (record { inserted = same_stands (branch_block f i) ∙ was.inserted; filled = same_status (branch_block f i) ∙ was.filled });
  fresh = λ k above.
      let more : length g.blocks ≡ length f.blocks + 1 = ap (λ (h : Body). length h.blocks) function ∙ length-append f.blocks _ in
      let past : length f.blocks ≤ k = omega (arith, above, more) in
      (ap is_yes (sealed k) ∙ (order.fresh k past).0, same_status k ∙ (order.fresh k past).1, leads k ∙ (order.fresh k past).2);
}
  where
    same_status : SameStatus c d
    same_status b = ap (λ (xs : List BlockStatus). slice_index_or xs b Empty) status

    same_stands : (b : ℕ) → stands_in b g.layout ≡ stands_in b f.layout
    same_stands b = ap (λ (h : Body). stands_in b h.layout) function

    same_params : (b : ℕ) → (block_at g b).params ≡ (block_at f b).params
    same_params b = ap (λ (h : Body). (block_at h b).params) function ∙ block_params f b

-- blocks of the function are sealed
order-sealed : (f g : Body) (c d : ContextState) (seals : ℕ → Bool) (told : List ℕ) → ((k : ℕ) → length f.blocks ≤ k → seals k ≡ false) → IsSealingOf f c.ssa g d.ssa seals told → Begins c d told
    → IsConsistent f → IsConsistent g → SameVariables c d → IsInOrder f c → IsInOrder g d
order-sealed f g c d seals told none sealing begins firm consistent variables order = record {
  own = order.own;
  structured = structured;
  callers_alone = λ b.
      sealed_alone f c order g d seals told sealing firm consistent begins order.own (listed_types d.variables)
      (structured (listed_types d.variables) (are_listed d)) b (order.callers_alone b);
  branches = sealed_branches f c order g d seals told sealing firm consistent begins;
  fresh = λ k above.
      let extends = extends-constructs f g sealing.constructs in
      let past : length f.blocks ≤ k = omega (arith, above, extends.block_count) in (
        sealing.sealed k ∙ if-no (seals k) true (is_yes (sealed_of c.ssa k)) (none k past) ∙ (order.fresh k past).0,
        sealed_status f c order g d seals told sealing firm begins k ∙ (order.fresh k past).1,
        sealing.predecessors k ∙ (order.fresh k past).2,
      );
}
  where
    structured : IsStructured order.own g d
    structured types are = sealing.structured types order.own (order.structured types (are_types c d types variables are))

pub order-sealed-one : {E : Type 0} (r : Result (Unit {0}) E) (f g : Body) (c d : ContextState) (block : ℕ) → block < length f.blocks
    → OnOk r ((told : List ℕ) × IsSealingOf f c.ssa g d.ssa (λ b. b == block) told × Begins c d told) → IsConsistent f → IsConsistent g → SameVariables c d → IsInOrder f c → OnOk r (IsInOrder g d)
order-sealed-one (Err e) f g c d block exists seals firm consistent variables order = tt
order-sealed-one (Ok u) f g c d block exists seals firm consistent variables order =
    order-sealed f g c d (λ b. b == block) seals.0 (λ k past. ne_eqb k block (omega (arith, past, exists))) seals.1 seals.2 firm consistent variables order

pub order-sealed-all : {E : Type 0} (r : Result (Unit {0}) E) (f g : Body) (c d : ContextState)
    → OnOk r ((told : List ℕ) × IsSealingOf f c.ssa g d.ssa (λ b. ltb b (length f.blocks)) told × Begins c d told) → IsConsistent f → IsConsistent g → SameVariables c d → IsInOrder f c → OnOk r (IsInOrder g d)
order-sealed-all (Err e) f g c d seals firm consistent variables order = tt
order-sealed-all (Ok u) f g c d seals firm consistent variables order =
    order-sealed f g c d (λ b. ltb b (length f.blocks)) seals.0 (λ k past. le-ltb k (length f.blocks) past) seals.1 seals.2 firm consistent variables order

-- a block is marked as cold
pub order-cold : (f : Body) (c : ContextState) (b : ℕ) → IsInOrder f c → IsInOrder (with_cold f b) c
order-cold f c b order = record {
  own = order.own;
  structured = λ types are.
      blocks_structured f (with_cold f b).blocks f.layout f.tables (λ constant bytes here. here) types order.own c.ssa [] (cold_params f.blocks b) (cold_insts f.blocks b) (order.structured types are);
  callers_alone = λ d. elim (order.callers_alone d) [
    | inl alone ↦ inl (cold_params f.blocks b d ∙ alone)
    | inr was ↦ inr (record { inserted = was.inserted; begun = was.begun })
  ];
  branches = λ d i here. let was = order.branches d i here in record { inserted = was.inserted; filled = was.filled };
  fresh = λ k above. order.fresh k (subst (λ (n : ℕ). n ≤ k) (length-set f.blocks b _) above);
}

-- a block is put behind another one
pub order-laid : (f : Body) (c : ContextState) (b a : ℕ) → IsInOrder f c → IsInOrder (with_layout_after f b a) c
order-laid f c b a order = record {
  own = order.own;
  structured = λ types are.
      blocks_structured f f.blocks (with_layout_after f b a).layout f.tables (λ constant bytes here. here) types order.own c.ssa [] (λ x. refl) (λ x. refl) (order.structured types are);
  callers_alone = λ d. elim (order.callers_alone d) [
    | inl alone ↦ inl alone
    | inr old ↦ inr (record { inserted = still_stands b a d f.layout old.inserted; begun = old.begun })
  ];
  branches = λ d i here. let old = order.branches d i here in record { inserted = still_stands b a (branch_block f i) f.layout old.inserted; filled = old.filled };
  fresh = order.fresh;
}

-- parameters of the caller's are put behind those of a block in which nothing was made
module _ (f : Body) (c : ContextState) (b : ℕ) (types : List «Type») (order : IsInOrder f c) (consistent : IsConsistent f) (there : b < length f.blocks) (empty : status_of c b ≡ Empty) where
  abbrev with_more : Body
  with_more = with_params f b types

  abbrev more_own : Own
  more_own = own_after order.own f b types

  bare : (block_at f b).params ≡ order.own.params b
  bare = elim (order.callers_alone b) [ inl alone ↦ alone | inr begun ↦ absurd (begun.begun empty) ]

  elsewhere : (k : ℕ) → k ≢ b → more_own.params k ≡ order.own.params k
  elsewhere k other = own_elsewhere order.own f b types k other

  alone_or_begun : (k : ℕ) → AloneUnlessBegun more_own with_more c k
  alone_or_begun k = elim (cases_eq k b) [
    | inl same ↦ inl (subst (λ (j : ℕ). (block_at with_more j).params ≡ more_own.params j) (sym same) (bare_still b 0 order.own f types there bare))
    | inr other ↦ elim (order.callers_alone k) [
      | inl alone ↦ inl (params_elsewhere b 0 f types k there other ∙ alone ∙ sym (elsewhere k other))
      | inr was ↦ inr (record { inserted = ap (stands_in k) (same_layout f b types) ∙ was.inserted; begun = was.begun })
    ]
  ]

  order-params : IsInOrder with_more c
  order-params = record {
    own = more_own;
    structured = λ declared are. params_structured b 0 declared order.own f c.ssa types (firm_from f consistent) there bare (order.structured declared are);
    callers_alone = alone_or_begun;
    branches = λ d i leads.
        let old = order.branches d i leads in
        let same : branch_block with_more i ≡ branch_block f i = branch-kept f with_more (keeps-of f with_more (Extends-params f b types)) i (branch_exists f c order d i leads) in
        record {
          inserted = ap (λ (k : ℕ). stands_in k with_more.layout) same ∙ ap (stands_in (branch_block f i)) (same_layout f b types) ∙ old.inserted;
          filled = ap (status_of c) same ∙ old.filled;
        };
    fresh = λ k above. order.fresh k (subst (λ (n : ℕ). n ≤ k) (Extends-params f b types).block_count above);
  }

pub order-more : {A E : Type 0} (r : Result A E) (f g : Body) (c : ContextState) (b : ℕ) (types : List «Type») → IsConsistent f → b < length f.blocks → status_of c b ≡ Empty
    → OnOk r (g ≡ with_params f b types) → IsInOrder f c → OnOk r (IsInOrder g c)
order-more (Err e) f g c b types consistent there empty is order = tt
order-more (Ok a) f g c b types consistent there empty is order =
    subst (λ (h : Body). IsInOrder h c) (sym is) (order-params f c b types order consistent there empty)

-- an instruction that ends its block is appended, and declared along its edges
module _ (place : ℕ) (f g : Body) (c d : ContextState) (block : ℕ) (shape : InstructionData) (types : List «Type») (inst : ℕ)
    (order : IsInOrder f c) (consistent : IsConsistent f) (exists : block < length f.blocks) (open_in : status_of c block ≢ Filled)
    (function : g ≡ with_inst (inserted_in f block) block Back shape types place) (sets : SetsStatus c d block Filled) (variables : SameVariables c d) (is_inst : inst ≡ length f.insts)
    (may : All (CanLeadIn f c) (destinations shape)) (declared : IsDeclared c.ssa inst (targets (destinations shape)) d.ssa) where
  -- the context before the branch is declared
  abbrev undeclared : ContextState
  undeclared = record d { ssa = c.ssa }

  abbrev node : InstNode
  node = inst_node (inserted_in f block) block shape types place

  node_is : inst_at g inst ≡ node
  node_is = get_or_from_slice_get g.insts inst node no_inst (ap (slice_get g.insts) is_inst ∙ node-there _ f g block shape types function)

  some : Filled ≢ Empty
  some is = cc

  makes : Makes order.own f c g undeclared block
  makes = appends-make _ f g c undeclared block shape types Filled order consistent exists function sets some (λ filled. refl) refl variables

  -- the branch stands in the block
  stands : branch_block g inst ≡ block
  stands = ap (λ (n : InstNode). n.block) node_is

  may_lead : (x : ℕ) → Contains declared.told x → MayLead g c.ssa inst x
  may_lead x here = record {
    unsealed = unsealed-target f c (destinations shape) may x (sym (declared.each x) ∙ contained-stands declared.told x here);
    apart = λ j leads same.
        let stays : branch_block g j ≡ branch_block f j = branch-kept f g (keeps-of f g makes.extends) j (branch_exists f c order x j leads) in
        let is_block : branch_block f j ≡ block = sym stays ∙ same ∙ stands in
        open_in (ap (status_of c) (sym is_block) ∙ (order.branches x j leads).filled);
  }

  -- what the caller made then
  abbrev mine : Own
  mine = with_own order.own block (length (inserted_in f block).insts) shape

  structured : IsStructured mine g d
  structured types are =
      let same : inst ≡ length (inserted_in f block).insts = is_inst ∙ sym (inserted-insts f block) in
      let more : length g.insts ≡ length (inserted_in f block).insts + 1 = ap (λ (h : Body). length h.insts) function ∙ length-append (inserted_in f block).insts (node ∷ []) in
      along_structured declared.told types mine g c.ssa d.ssa inst (omega (arith, same, more)) declared.once may_lead
      (λ k. ap (λ (n : InstNode). args_of (slice_get (destinations n.shape) k)) node_is
      ∙ ap (λ passes. passes k) (sym (updated-same order.own.passed (length (inserted_in f block).insts) (shape_passes shape) inst same)))
      declared.along (subst (λ (h : Body). Structured types mine h c.ssa []) (sym function)
      (appended-structured _ types order.own f c.ssa block shape _ consistent exists
      (order.structured types (are_types c d types variables are))))

  -- nothing leads to a block that doesn't exist
  not_led : (k : ℕ) → length f.blocks ≤ k → (edges : List BlockCall) → All (CanLeadIn f c) edges → stands_in k (targets edges) ≡ false
  not_led k past [] may = refl
  not_led k past (edge ∷ edges) may =
      let there : edge.block < length f.blocks = (may 0 edge (omega arith)).0.0 in
      let other : edge.block ≢ k = omega (arith, past, there) in
      ap (λ (t : Bool). t || stands_in k (targets edges)) (ne_eqb edge.block k other) ∙ not_led k past edges (λ j e below. may (suc j) e (omega (arith, below)))

  order-ended : IsInOrder g d
  order-ended = record {
    own = mine;
    structured = structured;
    callers_alone = λ b. elim (makes.callers_alone b) [
      | inl alone ↦ inl (alone ∙ makes.callers b)
      | inr was ↦ inr (record { inserted = was.inserted; begun = was.begun })
    ];
    branches = λ b i here. elim (along_told declared.told c.ssa d.ssa inst declared.along b i here) [
      | inl before ↦ (let was = makes.branches b i before in record { inserted = was.inserted; filled = was.filled })
      | inr it ↦ subst (λ (n : ℕ). IsEnded g d (branch_block g n)) (sym it.0) (subst (IsEnded g d) (sym stands) (ended-here f g c d block makes.layout sets))
    ];
    fresh = λ k above.
        let past : length f.blocks ≤ k = omega (arith, above, makes.extends.block_count) in
        let other : k ≢ block = omega (arith, past, exists) in (
          ap is_yes (blocks-along declared.told c.ssa d.ssa inst declared.along k) ∙ (order.fresh k past).0,
          sets k ∙ if-no (k == block) Filled (status_of c k) (ne_eqb k block other) ∙ (order.fresh k past).1,
          leads-along declared.told c.ssa d.ssa inst declared.along declared.once k
              ∙ if-no (stands_in k declared.told) (predecessors_of c.ssa k ++ inst ∷ []) (predecessors_of c.ssa k) (declared.each k ∙ not_led k past (destinations shape) may)
              ∙ (order.fresh k past).2,
        );
  }

-- an instruction that doesn't end its block is no branch
inner_plain : (shape : InstructionData) → is_terminator shape ≡ false → is_branch shape ≡ false
inner_plain (Jump destination) goes_on = let no_way : ⊥ = cc in absurd no_way
inner_plain (Brif arg blocks) goes_on = let no_way : ⊥ = cc in absurd no_way
inner_plain (BranchTable arg table) goes_on = let no_way : ⊥ = cc in absurd no_way
inner_plain (TryCall function args table) goes_on = let no_way : ⊥ = cc in absurd no_way
inner_plain (TryCallIndirect args table) goes_on = let no_way : ⊥ = cc in absurd no_way
inner_plain _ goes_on = refl

-- an instruction is appended
order-appended : (place : ℕ) (f g : Body) (c d : ContextState) (block : ℕ) (shape : InstructionData) (ty : «Type») (inst : ℕ) → IsConsistent f → block < length f.blocks → status_of c block ≢ Filled
    → AppendsIn place f c g d block shape ty inst → SameVariables c d → All (CanLeadIn f c) (destinations shape) → IsDeclared c.ssa inst (targets (destinations shape)) d.ssa
    → (is_branch shape ≡ false → d.ssa ≡ c.ssa) → IsInOrder f c → IsInOrder g d
order-appended place f g c d block shape ty inst consistent exists open_in appends variables may declared ssa order = by (is_terminator shape) refl
  where
    sets : (t : Bool) → is_terminator shape ≡ t → SetsStatus c d block (if t then Filled else begun (status_of c block))
    sets t is = subst (λ (u : Bool). SetsStatus c d block (if u then Filled else begun (status_of c block))) is appends.status

    by : (t : Bool) → is_terminator shape ≡ t → IsInOrder g d
    by true is = order-ended _ f g c d block shape (types_of_results f.tables shape ty) inst order consistent exists open_in appends.function (sets true is) variables appends.number may declared
    by false is =
        order-made f g c d block (begun (status_of c block)) order exists (sets false is)
        (appends-make _ f g c d block shape (types_of_results f.tables shape ty) (begun (status_of c block)) order consistent exists appends.function (sets false is) (begun-not-empty (status_of c block))
        (λ filled. ap begun filled) (ssa (inner_plain shape is)) variables)

pub order-built : (place : ℕ) {E : Type 0} (r : Result ℕ E) (f g : Body) (c d : ContextState) (block : ℕ) (shape : InstructionData) (ty : «Type») → IsConsistent f → block < length f.blocks → status_of c block ≢ Filled
    → IfOk r (AppendsIn place f c g d block shape ty) → SameVariables c d → All (CanLeadIn f c) (destinations shape) → IfOk r (λ inst. IsDeclared c.ssa inst (targets (destinations shape)) d.ssa)
    → (is_branch shape ≡ false → d.ssa ≡ c.ssa) → IsInOrder f c → OnOk r (IsInOrder g d)
order-built place (Err e) f g c d block shape ty consistent exists open_in appends variables may declared ssa order = tt
order-built place (Ok inst) f g c d block shape ty consistent exists open_in appends variables may declared ssa order =
    order-appended _ f g c d block shape ty inst consistent exists open_in appends variables may declared ssa order
