-- An alias region that is named keeps a function consistent.
use Rattle.std.proofs.Common.{ℕ, ◌<◌, List, length}
use Rattle.std.specs.Prelude.{Option}
use Rattle.clif_instructions.specs.declared.instructions.InstructionData.{InstructionData}
use Rattle.clif_instructions.specs.declared.instructions.InstructionData.TheVariants.{Load, Store}
use Rattle.clif_ir.specs.Body.{Body}
use Rattle.clif_ir.specs.Changes.{in_region, with_alias_region}
use Rattle.clif_ir.specs.Consistent.{IsConsistent}
use Rattle.clif_ir.proofs.KeepsShape.{Fits, fits_now, with_shape_consistent}

-- an access names what it named before
fits_in_region : (f : Body) (results : List ℕ) (region : Option ℕ) (shape : InstructionData) → Fits f results shape → Fits f results (in_region region shape)
fits_in_region f results region (Load flags arg offset) fits = record {
  operands_exist = fits.operands_exist;
  contexts_exist = fits.contexts_exist;
  edges_exist = fits.edges_exist;
  entries_exist = fits.entries_exist;
  edges_without_results = fits.edges_without_results;
}
fits_in_region f results region (Store flags args offset) fits = record {
  operands_exist = fits.operands_exist;
  contexts_exist = fits.contexts_exist;
  edges_exist = fits.edges_exist;
  entries_exist = fits.entries_exist;
  edges_without_results = fits.edges_without_results;
}
fits_in_region f results region _ fits = fits

pub with_alias_region_consistent : (f : Body) (i : ℕ) (region : Option ℕ) → IsConsistent f → i < length f.insts → IsConsistent (with_alias_region f i region)
with_alias_region_consistent f i region known exists = with_shape_consistent f i _ known exists (fits_in_region f _ region _ (fits_now f i known))
