use Rattle.std.proofs.Common.{◌≡◌, ◌<◌, ℕ, refl, sym, ◌∙◌, ap, arith, [], ◌∷◌}
use Rattle.std.specs.Prelude.{◌≢◌, Option, Some, unwrap_or}
use Rattle.clif_types.specs.Target.{pointer_type_of}
use Rattle.clif_types.specs.Types.{bits_of}
use Rattle.clif_types.specs.declared.target.PointerWidth.{PointerWidth}
use Rattle.clif_types.specs.declared.target.PointerWidth.TheVariants.{U16, U32, U64}
use Rattle.clif_meaning.specs.Library.{pointer_of}
use Rattle.clif_meaning.specs.Outcome.{Gives, Goes}
use Rattle.clif_outcome_laws.specs.LibraryExamples.{numbered}
use Rattle.clif_outcome_laws.proofs.library_examples.Goals as goal

-- what is a greater number isn't a lesser one
not_less : (held : Option ℕ) (greater less : ℕ) → held ≡ Some greater → less < greater → held ≢ Some less
not_less held greater less is below other =
    let same : greater ≡ less = ap (λ (o : Option ℕ). unwrap_or o 0) (sym is ∙ other) in
    let no_way : ⊥ = omega (arith, same, below) in no_way

pointers : (width : PointerWidth) → pointer_of (bits_of (pointer_type_of width)) ≡ pointer_type_of width
pointers U16 = refl
pointers U32 = refl
pointers U64 = refl

pub returns : goal.returns
returns c = record {
  copies = λ world. record {
    answer = refl;
    before = refl;
    first = refl;
    last = refl;
    behind = refl;
    source_stays = refl;
    overlaps = refl;
    overlaps_below = refl;
    neighbours = refl;
    moved_up = refl;
    not_smeared = not_less _ 102 100 refl (omega arith);
    moved_down = refl;
    nothing = refl;
    source_outside = refl;
    target_outside = refl;
  };
  fills = λ world. record {
    answer = refl;
    first = refl;
    last = refl;
    behind = refl;
    not_wide = not_less _ 255 1 refl (omega arith);
    wraps = refl;
    wraps_once = refl;
    outside = refl;
  };
  compares = λ world. record {
    answer = refl;
    equal = ap (λ (bits : _). Gives (bits ∷ []) numbered) (world.memcmp_sign (3 ∷ 4 ∷ []) (3 ∷ 4 ∷ []));
    nothing = ap (λ (bits : _). Gives (bits ∷ []) numbered) (world.memcmp_sign [] []);
  };
  calls = λ world. record {
    narrow_byte = refl;
    wide_pointer = refl;
    other_result = refl;
    wide_world = refl;
    tried = ap (λ (bits : _). Goes 0 (bits ∷ []) numbered) (world.memcmp_sign [] []);
    other_name = λ text. refl;
    indirect = refl;
  };
  pointers = pointers;
}
