-- Laws of the words that say what a call makes of a function.
use Rattle.std.proofs.Common.{◌≡◌, ℕ, ◌-◌, ◌^◌, ◌<◌, ◌≤◌, ◌⊎◌, inl, inr, length, arith}
use Rattle.clif_ir.specs.Body.{Body}
use Rattle.clif_ir.specs.Changes.{HasNoRoom}

-- with one result or none, there is no room exactly where a table holds 2^32 - 1 entries
pub no_room_few : (f : Body) (count : ℕ) → length f.values < 2 ^ 32 → count ≤ 1 → HasNoRoom f count → (length f.insts ≡ 2 ^ 32 - 1) ⊎ (length f.values ≡ 2 ^ 32 - 1)
no_room_few f count fits few (inl insts) = inl insts
no_room_few f count fits few (inr (inl values)) = inr values
no_room_few f count fits few (inr (inr past)) = inr (omega (arith, fits, few, past))
