-- Instructions that are put at spots, and tables that are full.
use Rattle.std.proofs.Common.{◌≡◌, ◌<◌, ◌≤◌, ◌+◌, ℕ, pos, inl, inr, List, [], ◌∷◌, length, refl, arith, length-append}
use Rattle.clif_types.specs.declared.types.«Type».{«Type»}
use Rattle.clif_instructions.specs.declared.insert_at.InsertAt.TheVariants.{Behind}
use Rattle.clif_opcodes.specs.declared.opcodes.StackOpcode.TheVariants.{StackAddr}
use Rattle.clif_instructions.specs.declared.instructions.InstructionData.{InstructionData}
use Rattle.clif_instructions.specs.declared.instructions.InstructionData.TheVariants.{Load, StackLoad, Store}
use Rattle.std.specs.List.{range_with_len}
use Rattle.clif_nodes.specs.declared.nodes.InstNode.{InstNode}
use Rattle.clif_nodes.specs.Nodes.{no_inst}
use Rattle.clif_instructions.proofs.Lists.{at_push}
use Rattle.clif_ir.specs.Body.{Body, inst_at}
use Rattle.clif_ir.specs.Changes.{HasNoRoom, inst_node}
use Rattle.clif_ir.specs.Consistent.{IsConsistent}
use Rattle.clif_ir.specs.Reading.{place_in_block}
use Rattle.clif_ir.proofs.Changes.{no_room_few}
use Rattle.clif_spiller.specs.Inserting.{inst_beside, nowhere, put_in, spot_after, trusted, with_address, with_reload, with_store}
use Rattle.clif_spiller.specs.Keeping.{Keeps}
use Rattle.clif_spiller.specs.Plans.{IsFull}
use Rattle.clif_spiller.specs.declared.accesses.Spot.{Spot}
use Rattle.clif_spiller.specs.declared.accesses.Spot.TheVariants as spot
use Rattle.clif_spiller.proofs.Keeping.{keeps_trans, with_inst_keeps}

pub put_in_keeps : (n : ℕ) (f : Body) (at : Spot) (shape : InstructionData) (types : List «Type») → Keeps n f (put_in f at shape types)
put_in_keeps n f (spot.Before next) shape types = with_inst_keeps n f (inst_at f next).block (Behind (place_in_block f next)) shape types nowhere
put_in_keeps n f (spot.After previous) shape types = with_inst_keeps n f (inst_at f previous).block (Behind (place_in_block f previous + 1)) shape types nowhere

pub with_store_keeps : (n : ℕ) (f : Body) (pointer : «Type») (at : Spot) (slot value : ℕ) → Keeps n f (with_store f pointer at slot value)
with_store_keeps n f pointer at slot value =
    keeps_trans n f (with_address f pointer at slot) (with_store f pointer at slot value)
    (put_in_keeps n f at (StackLoad StackAddr slot (pos 0)) (pointer ∷ []))
    (put_in_keeps n (with_address f pointer at slot) (spot_after f at) (Store trusted (value ∷ length f.values ∷ []) (pos 0)) [])

pub with_reload_keeps : (n : ℕ) (f : Body) (pointer : «Type») (next slot : ℕ) (ty : «Type») → Keeps n f (with_reload f pointer next slot ty)
with_reload_keeps n f pointer next slot ty =
    keeps_trans n f (with_address f pointer (spot.Before next) slot) (with_reload f pointer next slot ty)
    (put_in_keeps n f (spot.Before next) (StackLoad StackAddr slot (pos 0)) (pointer ∷ []))
    (put_in_keeps n (with_address f pointer (spot.Before next) slot) (spot.Before next) (Load trusted (length f.values) (pos 0)) (ty ∷ []))

-- with one result or none there is no room where a table is full
pub full_for_one : (f : Body) (count : ℕ) → IsConsistent f → count ≤ 1 → HasNoRoom f count → IsFull f
full_for_one f count known few no_room =
    elim (no_room_few f count known.values_fit few no_room) [ inl insts ↦ inr (inl insts) | inr values ↦ inl values ]

-- the results of an instruction that was put at a spot are the next values
pub put_in_results : (f : Body) (at : Spot) (shape : InstructionData) (types : List «Type»)
    → (inst_at (put_in f at shape types) (length f.insts)).results ≡ range_with_len (length f.values) (length types)
put_in_results f (spot.Before next) shape types =
    at_push (λ (m : InstNode). m.results ≡ range_with_len (length f.values) (length types)) f.insts (inst_node f (inst_at f next).block shape types nowhere) (length f.insts) no_inst
    (λ below. absurd (omega (arith, below))) (λ _. refl) (λ past. absurd (omega (arith, past)))
put_in_results f (spot.After previous) shape types =
    at_push (λ (m : InstNode). m.results ≡ range_with_len (length f.values) (length types)) f.insts (inst_node f (inst_at f previous).block shape types nowhere) (length f.insts) no_inst
    (λ below. absurd (omega (arith, below))) (λ _. refl) (λ past. absurd (omega (arith, past)))

-- the spot that comes after one is beside an instruction
pub spot_after_exists : (f : Body) (at : Spot) (shape : InstructionData) (types : List «Type») → inst_beside at < length f.insts
    → inst_beside (spot_after f at) < length (put_in f at shape types).insts
spot_after_exists f (spot.Before next) shape types exists =
    omega (arith, exists, length-append f.insts (inst_node f (inst_at f next).block shape types nowhere ∷ []))
spot_after_exists f (spot.After previous) shape types exists =
    omega (arith, length-append f.insts (inst_node f (inst_at f previous).block shape types nowhere ∷ []))
