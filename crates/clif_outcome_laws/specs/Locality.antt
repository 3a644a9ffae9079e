-- Instructions are local: what an instruction does depends on the bytes of the ranges that it may touch alone, and
-- changes those alone.
use Rattle.std.specs.Prelude.{◌≡◌, ℕ, Bool, true, false, List}
use Rattle.std.specs.List.{list_any}
use Rattle.clif_types.specs.declared.types.«Type».{«Type»}
use Rattle.clif_meaning.specs.Bits.{Bits}
use Rattle.clif_meaning.specs.Memory.{Memory, Range, lies_in}
use Rattle.clif_meaning.specs.Access.{touched_ranges}
use Rattle.clif_meaning.specs.Instruction.{Operation}
use Rattle.clif_meaning.specs.Outcome.{Outcome, Gives, Goes, Returns, Traps, Calls, NoStep, outcome_of}
use Rattle.clif_meaning.specs.World.{World}

-- the address is that of a byte of one of the ranges
abbrev pub lies_in_one : List Range → ℕ → Bool
lies_in_one ranges address = list_any (λ range. lies_in range address) ranges

-- two memories have the same bytes in the ranges
abbrev pub SameInside : List Range → (left right : Memory) → Type 0
SameInside ranges left right = (address : ℕ) → lies_in_one ranges address ≡ true → left address ≡ right address

-- two memories have the same bytes outside the ranges
abbrev pub SameOutside : List Range → (left right : Memory) → Type 0
SameOutside ranges left right = (address : ℕ) → lies_in_one ranges address ≡ false → left address ≡ right address

-- two memories before and two after: outside the ranges each is as it was before, and inside both have the same bytes
pub record ChangeAlike (ranges : List Range) (left right left_after right_after : Memory) : Type 0 where
  pub left_outside : SameOutside ranges left_after left
  pub right_outside : SameOutside ranges right_after right
  pub inside : SameInside ranges left_after right_after

-- Outcomes from two memories agree: they are of one kind, with the same results, edge, reason or call, and change memory
-- in the ranges alone and alike.
abbrev pub Agree : List Range → (left right : Memory) → Outcome → Outcome → Type 0
Agree ranges left right (Gives results memory) (Gives others other_memory) =
    (results ≡ others) × ChangeAlike ranges left right memory other_memory
Agree ranges left right (Goes edge given memory) (Goes other_edge other_given other_memory) =
    (edge ≡ other_edge) × (given ≡ other_given) × ChangeAlike ranges left right memory other_memory
Agree ranges left right (Returns results) (Returns others) = results ≡ others
Agree ranges left right (Traps reason) (Traps other) = reason ≡ other
Agree ranges left right (Calls callee call arguments) (Calls other_callee other_call others) =
    (callee ≡ other_callee) × (call ≡ other_call) × (arguments ≡ others)
Agree ranges left right NoStep NoStep = Unit {0}
Agree ranges left right _ _ = ⊥

-- From two memories with the same bytes in the ranges that an instruction may touch, its outcomes agree.
abbrev pub OutcomesAreLocal : Type 0
OutcomesAreLocal =
    (world : World) (operation : Operation) (ty : «Type») (types : List «Type») (operands : List Bits) (left right : Memory)
    → SameInside (touched_ranges world operation ty types operands) left right
    → Agree (touched_ranges world operation ty types operands) left right
    (outcome_of world operation ty types operands left) (outcome_of world operation ty types operands right)
