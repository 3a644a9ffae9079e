-- Functions that a callback was asked about are alike but for regions; where nothing came to a function, nothing is asked.
use Rattle.std.proofs.Common.{◌≡◌, ◌-◌, ℕ, length, refl, sym, ap, subst, arith}
use Rattle.std.specs.Prelude.{Option, None, Some}
use Rattle.std.specs.List.{FoldsTo}
use Rattle.clif_ir.specs.Body.{Body}
use Rattle.clif_region_laws.specs.Regions.{AreAlikeButForRegions, plain_body}
use Rattle.clif_regions.specs.Asking.{Asks, CarriesAnswersOf, MayAnswer, accesses}

pub alike_of : {C : Type 0} (callback : Option C) (asks_of : C → Asks) (first : ℕ) (old new : Body) → CarriesAnswersOf callback asks_of first old new → AreAlikeButForRegions old new
alike_of None asks_of first old new same = ap plain_body (sym same)
alike_of (Some one) asks_of first old new carries = carries.alike

pub none_asked : {C : Type 0} (callback : Option C) (asks_of : C → Asks) (f : Body) → CarriesAnswersOf callback asks_of (length f.insts) f f
none_asked None asks_of f = refl
none_asked (Some one) asks_of f =
    let none : length f.insts - length f.insts ≡ 0 = omega arith in
    record {
      alike = refl;
      answered =
          subst (λ (n : ℕ). FoldsTo (MayAnswer (asks_of one)) f.tables.alias_regions (accesses f (length f.insts) n) f.tables.alias_regions) (sym none) refl;
    }
