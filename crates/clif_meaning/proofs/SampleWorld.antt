-- A world with a collector that moves: every answer is zeros, and each number but zero is moved by 16.
use Rattle.std.proofs.Common.{◌+◌, ◌%◌, ◌^◌, ◌<◌, ◌==◌, ℕ, zero, suc, List, [], ◌∷◌, refl, arith, map, Bool, true, false, if◌then◌else◌}
use Rattle.std.proofs.Math.Nat.{pow-suc, mod-lt}
use Rattle.std.specs.declared.cmp.Ordering.{Ordering}
use Rattle.std.specs.declared.cmp.Ordering.TheVariants.{Less, Equal, Greater}
use Rattle.clif_types.specs.declared.types.«Type».{«Type»}
use Rattle.clif_types.specs.Types.{bits_of}
use Rattle.clif_meaning.specs.Bits.{IsValue, AreValues}
use Rattle.clif_meaning.specs.Memory.{byte_order}
use Rattle.clif_meaning.specs.Event.{Results}
use Rattle.clif_tables.specs.Callees.{types_of}
use Rattle.clif_meaning.specs.World.{World, HasSignOf}
use Rattle.clif_meaning.specs.Examples.{sign_number, moved_by_16}

pub pow_pos : (k : ℕ) → 0 < 2 ^ k
pow_pos zero = omega arith
pow_pos (suc k) = omega (arith, pow-suc 2 k, pow_pos k)

pub signed : (order : Ordering) → HasSignOf order (sign_number order)
signed Less = (omega arith, omega arith)
signed Equal = refl
signed Greater = (omega arith, omega arith)

pub zeros_fit : (types : List «Type») → AreValues types (map (λ ty. 0) types)
zeros_fit [] = tt
zeros_fit (ty ∷ types) = (pow_pos (bits_of ty), zeros_fit types)

pub moves_inside : (ty : «Type») (bits : ℕ) → IsValue ty bits → IsValue ty (moved_by_16 ty bits)
moves_inside ty bits inside = by (bits == 0)
  where
    by : (c : Bool) → (if c then 0 else (bits + 16) % 2 ^ bits_of ty) < 2 ^ bits_of ty
    by true = pow_pos (bits_of ty)
    by false = mod-lt (bits + 16) (pow_pos (bits_of ty))

abbrev pub sample_world : World
sample_world = record {
  arguments = [];
  memory = λ address. 0;
  is_accessible = λ address. true;
  pointer_width = 64;
  slot_place = λ slot. 1000;
  memcmp_number = λ left right. sign_number (byte_order left right);
  answer = λ events call. Results (map (λ ty. 0) (types_of call.signature.returns));
  memory_after = λ events call address. 9;
  moved = λ events call. moved_by_16;
  holds_bytes = λ address. omega arith;
  keeps_bytes = λ events call address. omega arith;
  memcmp_sign = λ left right. signed (byte_order left right);
  answers_fit = λ events call. zeros_fit (types_of call.signature.returns);
  moved_fits = λ events call. moves_inside;
  moved_zero = λ events call ty. refl;
}
