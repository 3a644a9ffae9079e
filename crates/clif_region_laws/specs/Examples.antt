-- Worked examples: a load that names a region, another one or none; and loads that differ in more. Own.
use Rattle.std.specs.Prelude.{ℕ, ℤ, pos, Bool, true, false, [], ◌∷◌, Option, None, Some}
use Rattle.clif_instructions.specs.declared.instructions.InstructionData.TheVariants.{Load}
use Rattle.clif_ir.specs.Body.{Body, empty_function}
use Rattle.clif_region_laws.specs.Regions.{AreAlikeButForRegions}

-- a function with one instruction: it loads what the address v0 tells, aligned, where it may trap or doesn't
abbrev pub loading : (notrap : Bool) (region : Option ℕ) (offset : ℤ) → Body
loading notrap region offset = record empty_function {
  insts = record {
    shape = Load (record { notrap = notrap; aligned = true; alias_region = region }) 0 offset;
    results = 1 ∷ [];
    block = 0;
    srcloc = 0;
  } ∷ [];
}

pub record RegionExamples : Type 0 where
  pub region_or_none : AreAlikeButForRegions (loading true (Some 0) (pos 0)) (loading true None (pos 0))
  pub other_region : AreAlikeButForRegions (loading true (Some 0) (pos 0)) (loading true (Some 7) (pos 0))
  -- wrong ones: another place in memory, or an access that may trap
  pub other_offset : AreAlikeButForRegions (loading true (Some 0) (pos 0)) (loading true (Some 0) (pos 4)) → ⊥
  pub other_promise : AreAlikeButForRegions (loading true (Some 0) (pos 0)) (loading false (Some 0) (pos 0)) → ⊥
