-- What an instruction loads or stores, and in which slot, doesn't depend on regions.
use Rattle.std.proofs.Common.{◌≡◌, ℕ, List, [], ◌∷◌, refl, sym, ◌∙◌, ap}
use Rattle.std.specs.Prelude.{option_map}
use Rattle.clif_instructions.specs.declared.instructions.InstructionData.{InstructionData}
use Rattle.clif_instructions.specs.declared.instructions.InstructionData.TheVariants.{Load, Store}
use Rattle.clif_nodes.specs.declared.nodes.InstNode.{InstNode}
use Rattle.clif_nodes.specs.declared.nodes.ValueOrigin.{ValueOrigin}
use Rattle.clif_nodes.specs.declared.nodes.ValueOrigin.TheVariants.{Alias, Param, Result}
use Rattle.clif_ir.specs.Body.{Body, inst_at, resolved, value_at}
use Rattle.clif_ir.specs.Reading.{def_of}
use Rattle.clif_region_laws.specs.Regions.{AreAlikeButForRegions, plain_body, plain_shape}
use Rattle.clif_region_laws.proofs.Bodies.{first_same, node_same}
use Rattle.clif_regions.specs.Asking.{addressed_by, addressed_in, slot_at, touched, touched_by}

addressed_plain : (shape : InstructionData) → addressed_by (plain_shape shape) ≡ addressed_by shape
addressed_plain (Load flags arg offset) = refl
addressed_plain (Store flags args offset) = refl
addressed_plain _ = refl

module _ (f : Body) where
  slot_plain : (value : ℕ) → slot_at (plain_body f) value ≡ slot_at f value
  slot_plain value = by (value_at f (resolved f value)).origin
    where
      by : (origin : ValueOrigin) → addressed_in (plain_body f) (def_of (plain_body f) (resolved f value) origin) ≡ addressed_in f (def_of f (resolved f value) origin)
      by (Result inst place) = ap (λ (node : InstNode). addressed_by node.shape) (node_same f inst) ∙ addressed_plain (inst_at f inst).shape
      by (Param block) = refl
      by (Alias original) = refl

  touched_shape : (shape : InstructionData) (results : List ℕ) → touched (plain_body f) (plain_shape shape) results ≡ touched f shape results
  touched_shape (Load flags arg offset) results = λ i. option_map (λ (slot : ℕ). (first_same f results i, slot)) (slot_plain arg i)
  touched_shape (Store flags [] offset) results = refl
  touched_shape (Store flags (stored ∷ []) offset) results = refl
  touched_shape (Store flags (stored ∷ address ∷ []) offset) results = ap (option_map (λ (slot : ℕ). ((value_at f stored).ty, slot))) (slot_plain address)
  touched_shape (Store flags (stored ∷ address ∷ other ∷ args) offset) results = refl
  touched_shape _ results = refl

  touched_plain : (inst : ℕ) → touched_by (plain_body f) inst ≡ touched_by f inst
  touched_plain inst =
      ap (λ (node : InstNode). touched (plain_body f) node.shape node.results) (node_same f inst)
      ∙ touched_shape (inst_at f inst).shape (inst_at f inst).results

-- so it is the same in functions that are alike but for regions
pub touched_alike : (f g : Body) → AreAlikeButForRegions f g → (inst : ℕ) → touched_by g inst ≡ touched_by f inst
touched_alike f g alike inst = sym (touched_plain g inst) ∙ ap (λ (h : Body). touched_by h inst) (sym alike) ∙ touched_plain f inst
