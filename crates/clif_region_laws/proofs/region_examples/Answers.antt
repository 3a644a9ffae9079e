use Rattle.std.proofs.Common.{◌≡◌, List, [], ◌∷◌, Bool, true, false, refl, ap, Some}
use Rattle.std.specs.Prelude.{ℤ, pos}
use Rattle.clif_instructions.specs.declared.instructions.InstructionData.{InstructionData}
use Rattle.clif_instructions.specs.declared.instructions.InstructionData.TheVariants as shape
use Rattle.clif_nodes.specs.declared.nodes.InstNode.{InstNode}
use Rattle.clif_ir.specs.Body.{Body}
use Rattle.clif_region_laws.specs.Regions.{AreAlikeButForRegions}
use Rattle.clif_region_laws.specs.Examples.{loading}
use Rattle.clif_region_laws.proofs.region_examples.Goals as goal

-- the offset of an access, and whether it may trap
abbrev offset_of : InstructionData → ℤ
offset_of (shape.Load flags arg offset) = offset
offset_of _ = pos 0

abbrev promises : InstructionData → Bool
promises (shape.Load flags arg offset) = flags.notrap
promises _ = false

abbrev first_shape : List InstNode → InstructionData
first_shape [] = shape.MultiAry []
first_shape (node ∷ nodes) = node.shape

offsets_differ : AreAlikeButForRegions (loading true (Some 0) (pos 0)) (loading true (Some 0) (pos 4)) → ⊥
offsets_differ same = let offsets : pos 0 ≡ pos 4 = ap (λ (f : Body). offset_of (first_shape f.insts)) same in cc

promises_differ : AreAlikeButForRegions (loading true (Some 0) (pos 0)) (loading false (Some 0) (pos 0)) → ⊥
promises_differ same = let promised : true ≡ false = ap (λ (f : Body). promises (first_shape f.insts)) same in cc

pub returns : goal.returns
returns c = record {
  region_or_none = refl;
  other_region = refl;
  other_offset = offsets_differ;
  other_promise = promises_differ;
}
