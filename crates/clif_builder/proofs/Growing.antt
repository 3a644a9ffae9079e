-- What goes on existing as calls are made.
use Rattle.std.proofs.Common.{◌≡◌, ◌≢◌, ℕ, ◌+◌, ◌<◌, ◌≤◌, List, [], ◌∷◌, length, refl, ap, arith, sym, ◌∙◌, subst, inl, inr}
use Rattle.std.specs.Prelude.{slice_index_or, Option, Some, None, IfSome, Result, Ok, Err, OnOk, IfOk, Bool, true, false, if◌then◌else◌, ◌==◌}
use Rattle.std.proofs.lemmas.Bool.{cases_eq}
use Rattle.std.proofs.lemmas.Grind.{common_steps}
use Rattle.clif_types.specs.declared.error.BuildError.{BuildError}
use Rattle.clif_types.specs.declared.types.«Type».{«Type»}
use Rattle.clif_instructions.specs.declared.insert_at.InsertAt.{InsertAt}
use Rattle.clif_instructions.specs.declared.insert_at.InsertAt.TheVariants.{Back}
use Rattle.clif_instructions.specs.declared.instructions.InstructionData.{InstructionData}
use Rattle.std.specs.List.{range_with_len}
use Rattle.clif_nodes.specs.declared.nodes.InstNode.{InstNode}
use Rattle.clif_tables.specs.Lists.{TableLists}
use Rattle.clif_ir.specs.Body.{Body, inst_at}
use Rattle.clif_ir.specs.Changes.{HasNoRoom, inserted_in, with_block, with_layout, with_inst, with_param, inst_node, with_cold, with_layout_after}
use Rattle.clif_instructions.specs.Instruction.{is_terminator}
use Rattle.clif_tables.specs.Callees.{types_of_results}
use Rattle.clif_instructions.specs.Members.{stands_in}
use Rattle.clif_builder.specs.declared.context.BlockStatus.{BlockStatus}
use Rattle.clif_builder.specs.declared.context.BlockStatus.TheVariants.{Empty, Partial, Filled}
use Rattle.clif_builder.specs.Context.{ContextState, begun, status_of, FillsNone, SetsStatus, Begins}
use Rattle.clif_builder.specs.declared.builder.FunctionBuilder.{FunctionBuilder}
use Rattle.clif_builder.specs.Builder.{Appends, AppendsIn, AppendsPair, AppendsValue, HasCurrent, status_after, with_appended}
use Rattle.clif_builder.specs.Built.{OnlyLaidOut}
use Rattle.clif_builder.specs.Construction.{IsUse, IsSealingOf}
use Rattle.clif_builder.specs.Growth.{EntriesStay, Grows}
use Rattle.clif_ir.proofs.KeepsTables.{entry_stays}
use Rattle.clif_ssa.specs.Constructs.{OnlyConstructs, PoolsZeros}

-- the entries that instructions name stay where constants of zeros are pooled
pools-stay : (t u : TableLists) → PoolsZeros t u → EntriesStay t u
pools-stay t u pools =
    let slots : length u.stack_slots ≡ length t.stack_slots = ap (λ (v : TableLists). length v.stack_slots) pools.same in
    let signatures : length u.signatures ≡ length t.signatures = ap (λ (v : TableLists). length v.signatures) pools.same in
    let functions : length u.functions ≡ length t.functions = ap (λ (v : TableLists). length v.functions) pools.same in
    let constants : length t.constants ≤ length u.constants = grind (arith, common_steps, pools.behind) in
    entry_stays t u (omega (arith, slots)) constants (omega (arith, signatures)) (omega (arith, functions))

pub Grows-same : (f g : Body) → g ≡ f → Grows f g
Grows-same f g same = subst (λ h. Grows f h) (sym same) (omega arith, omega arith, omega arith, refl, refl, omega arith, refl, λ entry here. here, refl)

pub Grows-then : (f g h : Body) → Grows f g → Grows g h → Grows f h
Grows-then f g h first next = (omega (arith, first.0, next.0), omega (arith, first.1, next.1), omega (arith, first.2, next.2), next.3 ∙ first.3, next.4 ∙ first.4, omega (arith, first.5, next.5), next.6 ∙ first.6, λ entry here. next.7 entry (first.7 entry here), next.8 ∙ first.8)

pub Grows-with_block : (f : Body) → Grows f (with_block f)
Grows-with_block f = (omega arith, omega arith, grind (arith, common_steps), refl, refl, omega arith, refl, λ entry here. here, refl)

pub Grows-inserted : (f : Body) (b : ℕ) → Grows f (inserted_in f b)
Grows-inserted f b = by_test (stands_in b f.layout)
  where
    by_test : (c : Bool) → Grows f (if c then f else with_layout f b)
    by_test true = (omega arith, omega arith, omega arith, refl, refl, omega arith, refl, λ entry here. here, refl)
    by_test false = (omega arith, omega arith, omega arith, refl, refl, omega arith, refl, λ entry here. here, refl)

pub Grows-laid : (f : Body) (b after : ℕ) → Grows f (with_layout_after f b after)
Grows-laid f b after = (omega arith, omega arith, omega arith, refl, refl, omega arith, refl, λ entry here. here, refl)

pub Grows-cold : (f : Body) (b : ℕ) → Grows f (with_cold f b)
Grows-cold f b = (omega arith, omega arith, grind (arith, common_steps), refl, refl, omega arith, refl, λ entry here. here, refl)

pub Grows-with_inst : (f : Body) (b : ℕ) (at : InsertAt) (shape : InstructionData) (types : List «Type») (loc : ℕ) → Grows f (with_inst f b at shape types loc)
Grows-with_inst f b at shape types loc = (grind (arith, common_steps), grind (arith, common_steps), grind (arith, common_steps), refl, refl, omega arith, refl, λ entry here. here, refl)

pub Grows-with_param : (f : Body) (b : ℕ) (ty : «Type») → Grows f (with_param f b ty)
Grows-with_param f b ty = (grind (arith, common_steps), omega arith, grind (arith, common_steps), refl, refl, omega arith, refl, λ entry here. here, refl)

-- what the construction of SSA form makes of a function
pub Grows-constructs : (f g : Body) → OnlyConstructs f g → Grows f g
Grows-constructs f g only =
    let slots : length g.tables.stack_slots ≡ length f.tables.stack_slots = ap (λ (t : TableLists). length t.stack_slots) only.tables.same in
    (only.values, only.insts, omega (arith, only.block_count), ap (λ (h : Body). h.name) only.same, ap (λ (h : Body). h.signature) only.same, omega (arith, slots), ap (λ (t : TableLists). t.jump_tables) only.tables.same, pools-stay f.tables g.tables only.tables, ap (λ (t : TableLists). t.exception_tables) only.tables.same)

-- a block that enters the layout changes no value and no instruction
pub same_values-inserted : (f : Body) (b : ℕ) → (inserted_in f b).values ≡ f.values
same_values-inserted f b = by_test (stands_in b f.layout)
  where
    by_test : (c : Bool) → (if c then f else with_layout f b).values ≡ f.values
    by_test true = refl
    by_test false = refl

pub values-inserted : (f : Body) (b : ℕ) → length (inserted_in f b).values ≡ length f.values
values-inserted f b = by_test (stands_in b f.layout)
  where
    by_test : (c : Bool) → length (if c then f else with_layout f b).values ≡ length f.values
    by_test true = refl
    by_test false = refl

pub laid_inserted : (f : Body) (b : ℕ) → OnlyLaidOut f (inserted_in f b)
laid_inserted f b = by_test (stands_in b f.layout)
  where
    by_test : (c : Bool) → OnlyLaidOut f (if c then f else with_layout f b)
    by_test true = refl
    by_test false = refl

pub insts-inserted : (f : Body) (b : ℕ) → length (inserted_in f b).insts ≡ length f.insts
insts-inserted f b = by_test (stands_in b f.layout)
  where
    by_test : (c : Bool) → length (if c then f else with_layout f b).insts ≡ length f.insts
    by_test true = refl
    by_test false = refl

-- an instruction was appended: the tables grew, and it exists
appended_grows : (place : ℕ) (f : Body) (c : ContextState) (g : Body) (d : ContextState) (block : ℕ) (shape : InstructionData) (ty : «Type») (inst : ℕ)
    → AppendsIn place f c g d block shape ty inst → Grows f g
appended_grows place f c g d block shape ty inst appends =
    subst (Grows f) (sym appends.function) (Grows-then f (inserted_in f block) (with_appended f block shape ty place) (Grows-inserted f block) (Grows-with_inst (inserted_in f block) block Back shape (types_of_results f.tables shape ty) place))

appended_exists : (place : ℕ) (f : Body) (c : ContextState) (g : Body) (d : ContextState) (block : ℕ) (shape : InstructionData) (ty : «Type») (inst : ℕ)
    → AppendsIn place f c g d block shape ty inst → inst < length g.insts
appended_exists place f c g d block shape ty inst appends =
    let count : length (with_appended f block shape ty place).insts ≡ length (inserted_in f block).insts + 1 = grind (arith, common_steps) in
    let same : length (inserted_in f block).insts ≡ length f.insts = insts-inserted f block in
    let new_count : length g.insts ≡ length (with_appended f block shape ty place).insts = ap (λ (h : Body). length h.insts) appends.function in
    omega (arith, count, same, new_count, appends.number)

-- a fact that follows from what is known of an answer
on_ok_from : {X Y : Type 0} (r : Result X Y) (P : X → Type 0) (Q : Type 0) → ((x : X) → P x → Q) → IfOk r P → OnOk r Q
on_ok_from (Ok x) P Q step known = step x known
on_ok_from (Err e) P Q step known = tt

if_ok_from : {X Y : Type 0} (r : Result X Y) (P Q : X → Type 0) → ((x : X) → P x → Q x) → IfOk r P → IfOk r Q
if_ok_from (Ok x) P Q step known = step x known
if_ok_from (Err e) P Q step known = tt

pub on_ok_step : {X Y : Type 0} (r : Result X Y) (P Q : Type 0) → (P → Q) → OnOk r P → OnOk r Q
on_ok_step (Ok x) P Q step known = step known
on_ok_step (Err e) P Q step known = tt

-- a use answered
pub used_grows : (r : Result ℕ BuildError) (f : Body) (c : ContextState) (g : Body) (d : ContextState) (variable : ℕ) (ty : «Type») (block : ℕ)
    → IfOk r (λ value. (told : List ℕ) × IsUse (inserted_in f block) c.ssa g d.ssa variable ty block value told × Begins c d (block ∷ told)) → OnOk r (Grows f g)
used_grows r f c g d variable ty block =
    on_ok_from r _ _ (λ value used. Grows-then f (inserted_in f block) g (Grows-inserted f block) (Grows-constructs (inserted_in f block) g used.1.constructs))

-- an appending answered
pub append_grows : (place : ℕ) (r : Result ℕ BuildError) (f : Body) (c : ContextState) (g : Body) (d : ContextState) (block : ℕ) (shape : InstructionData) (ty : «Type»)
    → IfOk r (AppendsIn place f c g d block shape ty) → OnOk r (Grows f g)
append_grows place r f c g d block shape ty = on_ok_from r _ _ (λ inst appends. appended_grows _ f c g d block shape ty inst appends)

pub append_exists : (place : ℕ) (r : Result ℕ BuildError) (f : Body) (c : ContextState) (g : Body) (d : ContextState) (block : ℕ) (shape : InstructionData) (ty : «Type»)
    → IfOk r (AppendsIn place f c g d block shape ty) → IfOk r (λ inst. inst < length g.insts)
append_exists place r f c g d block shape ty = if_ok_from r _ _ (λ inst appends. appended_exists _ f c g d block shape ty inst appends)

-- what wasn't filled isn't filled by a beginning
begun_unfilled : (s : BlockStatus) → begun s ≡ Filled → s ≡ Filled
begun_unfilled Empty same = let no_way : ⊥ = cc in absurd no_way
begun_unfilled Partial same = same
begun_unfilled Filled same = same

pub fills_none_same : (c d : ContextState) → d.status ≡ c.status → FillsNone c d
fills_none_same c d same b filled = ap (λ (xs : List BlockStatus). slice_index_or xs b Empty) (sym same) ∙ filled

pub fills_none_begins : (c d : ContextState) (blocks : List ℕ) → Begins c d blocks → FillsNone c d
fills_none_begins c d blocks begins b filled = by_test (stands_in b blocks) refl
  where
    by_test : (t : Bool) → stands_in b blocks ≡ t → status_of c b ≡ Filled
    by_test true stands = begun_unfilled (status_of c b) (sym (begins b ∙ ap (λ u. if u then begun (status_of c b) else status_of c b) stands) ∙ filled)
    by_test false stands = sym (begins b ∙ ap (λ u. if u then begun (status_of c b) else status_of c b) stands) ∙ filled

pub fills_none_begun : (c d : ContextState) (block : ℕ) → SetsStatus c d block (begun (status_of c block)) → FillsNone c d
fills_none_begun c d block sets b filled =
    elim (cases_eq b block) [
      | inl same ↦
          let now : status_of d b ≡ begun (status_of c block) = sets b ∙ grind (arith, common_steps, same) in
          ap (status_of c) same ∙ begun_unfilled (status_of c block) (sym now ∙ filled)
      | inr other ↦
          let kept : status_of d b ≡ status_of c b = sets b ∙ grind (arith, common_steps, other) in
          sym kept ∙ filled
    ]

-- there is still a current block
abbrev pub CurrentIn : Option ℕ → Body → ContextState → Type 0
CurrentIn o f c = (block : ℕ) × (o ≡ Some block) × (block < length f.blocks) × (status_of c block ≢ Filled)

still_current : (o p : Option ℕ) (f g : Body) (c d : ContextState) → p ≡ o → Grows f g → FillsNone c d → CurrentIn o f c → CurrentIn p g d
still_current o p f g c d position grows fills current =
    (current.0, position ∙ current.1, omega (arith, current.2, grows.2), λ filled. current.3 (fills current.0 filled))

-- a fact of the current block
pub at_current : {R : Type 0} (old : FunctionBuilder R) (P : ℕ → Type 0) (current : HasCurrent old) → IfSome old.position P → P current.0
at_current old P current holds = let Q : Option ℕ → Type 0 = λ o. IfSome o P in subst Q current.1 holds

-- where an instruction was appended that doesn't end its block
pub status_after_none : (shape : InstructionData) (s : BlockStatus) → is_terminator shape ≡ false → status_after shape s ≡ begun s
status_after_none shape s none = ap (λ t. if t then Filled else begun s) none

pub current_appended : {R : Type 0} (r : Result ℕ BuildError) (old new : FunctionBuilder R) (shape : InstructionData) (ty : «Type») → HasCurrent old → new.position ≡ old.position
    → IfSome old.position (λ block. IfOk r (Appends old new block shape ty)) → is_terminator shape ≡ false → OnOk r (HasCurrent new)
current_appended r old new shape ty current position appends none =
    on_ok_from r _ _ (λ inst appended.
    still_current old.position new.position old.func.now new.func.now old.ctx.now.parts new.ctx.now.parts position (appended_grows _ old.func.now old.ctx.now.parts new.func.now new.ctx.now.parts current.0 shape ty inst appended)
    (fills_none_begun old.ctx.now.parts new.ctx.now.parts current.0 (λ b. appended.status b ∙ ap (λ s. if b == current.0 then s else status_of old.ctx.now.parts b) (status_after_none shape (status_of old.ctx.now.parts current.0) none))) current)
    (at_current old (λ block. IfOk r (Appends old new block shape ty)) current appends)

-- the node of an instruction that was appended
appended_node : (place : ℕ) (f : Body) (c : ContextState) (g : Body) (d : ContextState) (block : ℕ) (shape : InstructionData) (ty : «Type») (inst : ℕ)
    → AppendsIn place f c g d block shape ty inst → inst_at g inst ≡ inst_node (inserted_in f block) block shape (types_of_results f.tables shape ty) place
appended_node place f c g d block shape ty inst appends =
    let at : Body = inserted_in f block in
    let node : InstNode = inst_node at block shape (types_of_results f.tables shape ty) place in
    let made : inst_at g inst ≡ inst_at (with_appended f block shape ty place) inst = ap (λ (h : Body). inst_at h inst) appends.function in
    let at_end : inst ≡ length at.insts = appends.number ∙ sym (insts-inserted f block) in
    let last : inst_at (with_appended f block shape ty place) inst ≡ node = grind (arith, common_steps, at_end) in
    made ∙ last

-- its results have the next numbers of values
pub appended_range : (place : ℕ) (f : Body) (c : ContextState) (g : Body) (d : ContextState) (block : ℕ) (shape : InstructionData) (ty : «Type») (inst : ℕ)
    → AppendsIn place f c g d block shape ty inst → (inst_at g inst).results ≡ range_with_len (length (inserted_in f block).values) (length (types_of_results f.tables shape ty))
appended_range place f c g d block shape ty inst appends = ap (λ (n : InstNode). n.results) (appended_node _ f c g d block shape ty inst appends)

-- its result
pub appended_results : (place : ℕ) (f : Body) (c : ContextState) (g : Body) (d : ContextState) (block : ℕ) (shape : InstructionData) (ty result : «Type») (inst : ℕ)
    → AppendsIn place f c g d block shape ty inst → types_of_results f.tables shape ty ≡ result ∷ [] → (inst_at g inst).results ≡ length f.values ∷ []
appended_results place f c g d block shape ty result inst appends types =
    let at : Body = inserted_in f block in
    let results : range_with_len (length at.values) (length (types_of_results f.tables shape ty)) ≡ length at.values ∷ [] = ap (λ (ts : List «Type»). range_with_len (length at.values) (length ts)) types in
    ap (λ (n : InstNode). n.results) (appended_node _ f c g d block shape ty inst appends) ∙ results ∙ ap (λ n. n ∷ []) (values-inserted f block)

-- where it has none
pub appended_no_results : (place : ℕ) (f : Body) (c : ContextState) (g : Body) (d : ContextState) (block : ℕ) (shape : InstructionData) (ty : «Type») (inst : ℕ)
    → AppendsIn place f c g d block shape ty inst → types_of_results f.tables shape ty ≡ [] → (inst_at g inst).results ≡ []
appended_no_results place f c g d block shape ty inst appends types =
    ap (λ (n : InstNode). n.results) (appended_node _ f c g d block shape ty inst appends)
    ∙ ap (λ (ts : List «Type»). range_with_len (length (inserted_in f block).values) (length ts)) types

pub current_results : {R : Type 0} (old new : FunctionBuilder R) (shape : InstructionData) (ty result : «Type») (inst : ℕ) → HasCurrent old
    → IfSome old.position (λ block. Appends old new block shape ty inst) → types_of_results old.func.now.tables shape ty ≡ result ∷ [] → (inst_at new.func.now inst).results ≡ length old.func.now.values ∷ []
current_results old new shape ty result inst current appends types =
    appended_results _ old.func.now old.ctx.now.parts new.func.now new.ctx.now.parts current.0 shape ty result inst (at_current old (λ block. Appends old new block shape ty inst) current appends) types

-- it is the value that is answered
pub appends_value : {R : Type 0} (old new : FunctionBuilder R) (shape : InstructionData) (ty : «Type») (inst v : ℕ)
    → IfSome old.position (λ block. Appends old new block shape ty inst) → v ≡ length old.func.now.values → IfSome old.position (λ block. AppendsValue old new block shape ty v)
appends_value old new shape ty inst v appends is = by_position old.position appends
  where
    by_position : (o : Option ℕ) → IfSome o (λ block. Appends old new block shape ty inst) → IfSome o (λ block. AppendsValue old new block shape ty v)
    by_position None holds = tt
    by_position (Some block) holds = (subst (λ (i : ℕ). Appends old new block shape ty i) holds.number holds, is)

-- the same of two
pub appends_pair : {R : Type 0} (old new : FunctionBuilder R) (shape : InstructionData) (ty : «Type») (inst : ℕ) (pair : ℕ × ℕ)
    → IfSome old.position (λ block. Appends old new block shape ty inst) → pair.0 ≡ length old.func.now.values → pair.1 ≡ length old.func.now.values + 1
    → IfSome old.position (λ block. AppendsPair old new block shape ty pair)
appends_pair old new shape ty inst pair appends first second = by_position old.position appends
  where
    by_position : (o : Option ℕ) → IfSome o (λ block. Appends old new block shape ty inst) → IfSome o (λ block. AppendsPair old new block shape ty pair)
    by_position None holds = tt
    by_position (Some block) holds = (subst (λ (i : ℕ). Appends old new block shape ty i) holds.number holds, first, second)

-- where there is no room once a block was inserted, there was none before
pub no_room_before : (f : Body) (b count : ℕ) → HasNoRoom (inserted_in f b) count → HasNoRoom f count
no_room_before f b count (inl insts) = inl (sym (insts-inserted f b) ∙ insts)
no_room_before f b count (inr (inl values)) = inr (inl (sym (values-inserted f b) ∙ values))
no_room_before f b count (inr (inr past)) = inr (inr (omega (arith, past, values-inserted f b)))

-- a use answered in the current block
pub used_current : (r : Result ℕ BuildError) (o : Option ℕ) (f : Body) (c : ContextState) (g : Body) (d : ContextState) (variable : ℕ) (ty : «Type») (block : ℕ)
    → IfOk r (λ value. (told : List ℕ) × IsUse (inserted_in f block) c.ssa g d.ssa variable ty block value told × Begins c d (block ∷ told))
    → CurrentIn o f c → OnOk r (CurrentIn o g d)
used_current r o f c g d variable ty block used current =
    on_ok_from r _ _ (λ value used_so.
    still_current o o f g c d refl (Grows-then f (inserted_in f block) g (Grows-inserted f block) (Grows-constructs (inserted_in f block) g used_so.1.constructs))
    (fills_none_begins c d (block ∷ used_so.0) used_so.2) current) used

-- a sealing answered
pub sealed_grows : (r : Result (Unit {0}) BuildError) (f : Body) (c : ContextState) (g : Body) (d : ContextState) (seals : ℕ → Bool)
    → OnOk r ((told : List ℕ) × IsSealingOf f c.ssa g d.ssa seals told × Begins c d told) → OnOk r (Grows f g)
sealed_grows r f c g d seals = on_ok_step r _ _ (λ sealing. Grows-constructs f g sealing.1.constructs)

pub sealed_current : (r : Result (Unit {0}) BuildError) (o : Option ℕ) (f : Body) (c : ContextState) (g : Body) (d : ContextState) (seals : ℕ → Bool)
    → OnOk r ((told : List ℕ) × IsSealingOf f c.ssa g d.ssa seals told × Begins c d told) → CurrentIn o f c → OnOk r (CurrentIn o g d)
sealed_current r o f c g d seals sealed current =
    on_ok_step r _ _ (λ sealing. still_current o o f g c d refl (Grows-constructs f g sealing.1.constructs) (fills_none_begins c d sealing.0 sealing.2) current) sealed
