-- A callback that is asked behind the spills.
use Rattle.std.proofs.Common.{◌≡◌, ℕ, List, length, sym, subst}
use Rattle.std.specs.Prelude.{Option, Some, Result, Ok, Err, OnOk}
use Rattle.clif_types.specs.declared.error.BuildError.{BuildError}
use Rattle.clif_types.specs.declared.types.«Type».{«Type»}
use Rattle.clif_ir.specs.Body.{Body}
use Rattle.clif_region_laws.specs.Regions.{AreAlikeButForRegions}
use Rattle.clif_regions.specs.Asking.{AreAnswered, Asks, CarriesAnswersOf}
use Rattle.clif_spiller.specs.Keeping.{Keeps}
use Rattle.clif_spiller.specs.Regions.{SpillsAndAsks}
use Rattle.clif_spiller.specs.Spills.{Spills}

pub asked : {C : Type 0} (r : Result (Unit {0}) BuildError) (f between g : Body) (recorded : List ℕ) (pointer : «Type») (callback : Option C) (one : C) (asks_of : C → Asks) (first : ℕ)
    → callback ≡ Some one → first ≡ length f.insts → Keeps (length f.blocks) f between → Spills f recorded pointer between → AreAlikeButForRegions between g
    → OnOk r (AreAnswered (asks_of one) first between g) → OnOk r (SpillsAndAsks f recorded pointer callback asks_of g)
asked (Err e) f between g recorded pointer callback one asks_of first is from keeps spills alike answered = tt
asked {C} (Ok u) f between g recorded pointer callback one asks_of first is from keeps spills alike answered = record {
  between = between;
  keeps = keeps;
  spills = spills;
  regions =
      subst (λ (o : Option C). CarriesAnswersOf o asks_of (length f.insts) between g) (sym is)
      (record { alike = alike; answered = subst (λ (n : ℕ). AreAnswered (asks_of one) n between g) from answered });
}
