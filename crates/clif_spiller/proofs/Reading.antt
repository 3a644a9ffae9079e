-- What a read in place of an operand leaves.
use Rattle.std.proofs.Common.{◌≡◌, ◌≢◌, ◌<◌, ◌+◌, ◌∙◌, ℕ, pos, Bool, true, false, List, [], ◌∷◌, length, refl, sym, ap, subst, arith, length-append}
use Rattle.std.proofs.Math.ListN.{get_or-append}
use Rattle.clif_types.specs.declared.types.«Type».{«Type»}
use Rattle.clif_types.specs.EntitySet.{has}
use Rattle.clif_nodes.specs.declared.nodes.InstNode.{InstNode}
use Rattle.clif_nodes.specs.Nodes.{BlockNode, empty_block, no_inst, result_nodes}
use Rattle.clif_instructions.specs.Members.{Stands}
use Rattle.clif_opcodes.specs.declared.opcodes.StackOpcode.TheVariants.{StackAddr}
use Rattle.clif_instructions.specs.declared.instructions.InstructionData.TheVariants.{Load, StackLoad}
use Rattle.clif_ir.specs.Changes.{inst_node}
use Rattle.clif_instructions.specs.declared.instructions.InstructionData.{InstructionData}
use Rattle.std.specs.Prelude.{Contains, slice_index_or}
use Rattle.clif_tables.specs.Lists.{TableLists, stack_map_at}
use Rattle.clif_ir.specs.Body.{Body, block_at, inst_at, resolved, value_at}
use Rattle.clif_stack_slots.specs.declared.slots.StackSlots.{StackSlots}
use Rattle.clif_safepoints.proofs.Paths.{stands_to}
use Rattle.clif_spiller.specs.Inserting.{IsReloaded, inst_beside, nowhere, put_in, trusted, with_address, with_reload}
use Rattle.clif_spiller.specs.Keeping.{Keeps}
use Rattle.clif_spiller.specs.Plans.{GoesOn, IsPlan, IsRead, IsReadAs, KnowsSlots, MayBeSpilled}
use Rattle.clif_spiller.specs.declared.accesses.Spot.{Spot}
use Rattle.clif_spiller.specs.declared.accesses.Spot.TheVariants as spot
use Rattle.clif_spiller.specs.declared.plan.Plan.{Plan}
use Rattle.clif_spiller.specs.Acting.{Acts, needs}
use Rattle.clif_spiller.specs.Allocating.{Needs}
use Rattle.clif_spiller.proofs.Acting.{acts_nothing, goes_beside, goes_needed, goes_then, needs_none, needs_one}
use Rattle.clif_spiller.proofs.Giving.{given}
use Rattle.clif_spiller.proofs.Keeping.{at_set_or_not, goes_on_refl, keeps_trans, slots_stay}
use Rattle.clif_spiller.proofs.Putting.{with_reload_keeps}

-- what is so after a step that changes no instruction that was there
pub record Inserts (f : Body) (a : StackSlots) (g : Body) (b : StackSlots) : Type 0 where
  pub goes : (n : ℕ) → GoesOn n f a g b
  pub nodes : (i : ℕ) → i < length f.insts → inst_at g i ≡ inst_at f i
  pub layout : g.layout ≡ f.layout

pub record Reloads (f : Body) (a : StackSlots) (g : Body) (b : StackSlots) (copy : ℕ) : Type 0 where
  pub inserts : Inserts f a g b
  pub exists : copy < length g.values

pub put_in_old : (f : Body) (at : Spot) (shape : InstructionData) (types : List «Type») (i : ℕ) → i < length f.insts → inst_at (put_in f at shape types) i ≡ inst_at f i
put_in_old f (spot.Before next) shape types i inside = get_or-append f.insts (inst_node f (inst_at f next).block shape types nowhere ∷ []) no_inst i inside
put_in_old f (spot.After previous) shape types i inside = get_or-append f.insts (inst_node f (inst_at f previous).block shape types nowhere ∷ []) no_inst i inside

pub more_insts : (f : Body) (at : Spot) (shape : InstructionData) (types : List «Type») → length (put_in f at shape types).insts ≡ length f.insts + 1
more_insts f (spot.Before next) shape types = length-append f.insts (inst_node f (inst_at f next).block shape types nowhere ∷ [])
more_insts f (spot.After previous) shape types = length-append f.insts (inst_node f (inst_at f previous).block shape types nowhere ∷ [])

pub reloaded_step : (pointer : «Type») (next value : ℕ) (f : Body) (a : StackSlots) (g : Body) (b : StackSlots) (copy : ℕ)
    → MayBeSpilled f value → KnowsSlots f a → IsReloaded pointer next value f a g b copy → Reloads f a g b copy
reloaded_step pointer next value f a g b copy may knows is =
    let gift = given f a value may knows is.size is.middle b is.slot is.gives in
    let middle : Body = is.middle in
    let there : Body = with_address middle pointer (spot.Before next) is.slot in
    let last : Body = with_reload middle pointer next is.slot (value_at f value).ty in
    let keeps : (n : ℕ) → Keeps n middle g =
    λ n. subst (Keeps n middle) (sym is.put) (with_reload_keeps n middle pointer next is.slot (value_at f value).ty) in
    let address : InstructionData = StackLoad StackAddr is.slot (pos 0) in
    let load : InstructionData = Load trusted (length middle.values) (pos 0) in
    let ty : «Type» = (value_at f value).ty in
    let count : length last.values ≡ length middle.values + 1 + 1 =
    length-append there.values (result_nodes (length there.insts) 0 (ty ∷ [])) ∙ ap (λ n. n + 1) (length-append middle.values (result_nodes (length middle.insts) 0 (pointer ∷ []))) in
    record {
      inserts = record {
        goes = λ n. record {
          keeps = keeps_trans n f middle g (gift.keeps n) (keeps n);
          slots = slots_stay n middle g (keeps n) b gift.knows;
        };
        nodes = λ i inside.
            let in_middle : i < length middle.insts = subst (λ (xs : List InstNode). i < length xs) (sym gift.insts) inside in
            let in_there : i < length there.insts = omega (arith, in_middle, more_insts middle (spot.Before next) address (pointer ∷ [])) in
            ap (λ (h : Body). inst_at h i) is.put ∙ put_in_old there (spot.Before next) load (ty ∷ []) i in_there ∙ put_in_old middle (spot.Before next) address (pointer ∷ []) i in_middle
            ∙ ap (λ (xs : List InstNode). slice_index_or xs i no_inst) gift.insts;
        layout = ap (λ (h : Body). h.layout) is.put ∙ gift.layout;
      };
      exists = subst (λ (h : Body). copy < length h.values) (sym is.put) (omega (arith, is.copy_is, count));
    }

inserts_nothing : (f : Body) (a : StackSlots) → KnowsSlots f a → Inserts f a f a
inserts_nothing f a knows = record { goes = λ n. goes_on_refl n f a knows; nodes = λ i inside. refl; layout = refl }

-- a read inserts a reload or nothing
pub read_inserts : (plan : Plan) (next operand : ℕ) (f : Body) (a : StackSlots) (g : Body) (b : StackSlots) (new : ℕ)
    → IsPlan f plan → KnowsSlots f a → IsRead plan next operand f a g b new → Inserts f a g b
read_inserts plan next operand f a g b new known knows is = by (has plan.spilled (resolved f operand)) refl is
  where
    by : (test : Bool) → has plan.spilled (resolved f operand) ≡ test → IsReadAs test plan next operand f a g b new → Inserts f a g b
    by true spilled read =
        (reloaded_step plan.pointer next (resolved f operand) f a g b new
        (known.spillable (resolved f operand) (stands_to (resolved f operand) plan.spilled spilled)) knows read).inserts
    by false spilled read =
        subst (λ (h : Body). Inserts f a h b) (sym read.0) (subst (λ (y : StackSlots). Inserts f a f y) (sym read.1) (inserts_nothing f a knows))

-- other blocks get no instruction
pub put_in_others : (f : Body) (at : Spot) (shape : InstructionData) (types : List «Type») (c : ℕ) → c ≢ (inst_at f (inst_beside at)).block
    → (block_at (put_in f at shape types) c).insts ≡ (block_at f c).insts
put_in_others f (spot.Before next) shape types c apart =
    at_set_or_not (λ (m : BlockNode). m.insts ≡ (block_at f c).insts) f.blocks (inst_at f next).block _ c empty_block (λ same. absurd (apart same)) refl
put_in_others f (spot.After previous) shape types c apart =
    at_set_or_not (λ (m : BlockNode). m.insts ≡ (block_at f c).insts) f.blocks (inst_at f previous).block _ c empty_block (λ same. absurd (apart same)) refl

-- what a read does to slots: a spilled value needs one
reload_acts : (plan : Plan) (next value : ℕ) (f : Body) (a : StackSlots) (g : Body) (b : StackSlots) (copy : ℕ)
    → next < length f.insts → IsPlan f plan → KnowsSlots f a → Contains plan.spilled value → IsReloaded plan.pointer next value f a g b copy → Acts plan next f a g b (Needs value ∷ [])
reload_acts plan next value f a g b copy exists known knows spilled is =
    let may = known.spillable value spilled in
    let gift = given f a value may knows is.size is.middle b is.slot is.gives in
    let middle : Body = is.middle in
    let same : g.tables ≡ middle.tables = ap (λ (h : Body). h.tables) is.put in
    let step = (reloaded_step plan.pointer next value f a g b copy may knows is).inserts in
    record {
      others = λ i inside apart. step.nodes i inside;
      maps = λ i. ap (λ (t : TableLists). stack_map_at t i) same ∙ gift.maps i;
      lists = λ c inside apart.
          let there : Body = with_address middle plan.pointer (spot.Before next) is.slot in
          let address : InstructionData = StackLoad StackAddr is.slot (pos 0) in
          let load : InstructionData = Load trusted (length middle.values) (pos 0) in
          let here : next < length middle.insts = subst (λ (xs : List InstNode). next < length xs) (sym gift.insts) exists in
          let home : (inst_at middle next).block ≡ (inst_at f next).block = ap (λ (xs : List InstNode). (slice_index_or xs next no_inst).block) gift.insts in
          let home_there : (inst_at there next).block ≡ (inst_at middle next).block =
          ap (λ (m : InstNode). m.block) (put_in_old middle (spot.Before next) address (plan.pointer ∷ []) next here) in
          ap (λ (h : Body). (block_at h c).insts) is.put
          ∙ put_in_others there (spot.Before next) load ((value_at f value).ty ∷ []) c (λ is_home. apart (is_home ∙ home_there ∙ home))
          ∙ put_in_others middle (spot.Before next) address (plan.pointer ∷ []) c (λ is_home. apart (is_home ∙ home))
          ∙ ap (λ (xs : List BlockNode). (slice_index_or xs c empty_block).insts) gift.blocks;
      layout = λ c inside stands. subst (Stands c) step.layout stands;
      goes_by = goes_then plan f a middle b g b (Needs value ∷ []) [] (gift.keeps (length f.blocks))
          (goes_needed plan f a middle b value is.slot is.size spilled is.size_is is.gives)
          (goes_beside plan middle g b (ap (λ (t : TableLists). t.stack_slots) same));
    }

pub read_acts : (plan : Plan) (next operand : ℕ) (f : Body) (a : StackSlots) (g : Body) (b : StackSlots) (new : ℕ)
    → next < length f.insts → IsPlan f plan → KnowsSlots f a → IsRead plan next operand f a g b new → Acts plan next f a g b (needs plan (resolved f operand ∷ []))
read_acts plan next operand f a g b new exists known knows is = by (has plan.spilled (resolved f operand)) refl is
  where
    by : (test : Bool) → has plan.spilled (resolved f operand) ≡ test → IsReadAs test plan next operand f a g b new
        → Acts plan next f a g b (needs plan (resolved f operand ∷ []))
    by true spilled read =
        subst (Acts plan next f a g b) (sym (needs_one plan (resolved f operand) spilled))
        (reload_acts plan next (resolved f operand) f a g b new exists known knows (stands_to (resolved f operand) plan.spilled spilled) read)
    by false spilled read =
        subst (Acts plan next f a g b) (sym (needs_none plan (resolved f operand) spilled))
        (subst (λ (h : Body). Acts plan next f a h b []) (sym read.0) (subst (λ (y : StackSlots). Acts plan next f a f y []) (sym read.1) (acts_nothing plan next f a)))
