-- Liveness by paths: a value is live where some path ahead comes to a use of it before a definition. The usual
-- definition of live variables, with Cranelift's order at an instruction: operands are used, then results are defined,
-- and then the arguments of its edges are used; parameters are defined as their block is entered. Uses are taken after
-- aliases.
use Rattle.std.specs.Prelude.{◌≡◌, ◌⊎◌, ℕ, List, [], ◌∷◌, map, Option, Some, None, slice_get, Contains}
use Rattle.clif_meaning.specs.Instruction.{Edge, Known}
use Rattle.clif_meaning.specs.FunctionView.{Placed, FunctionView}
use Rattle.clif_meaning.specs.Path.{Place, Leads}
use Rattle.clif_meaning.specs.WellPlaced.{function_code, function_flow, given_on_entry, placed_at, placed_gives}

-- An edge of the instruction passes the value, as an argument that counts as a use. `counts` tells which ones do, by
-- the edge's target and the argument's place.
abbrev pub IsPassed : (counts : ℕ → ℕ → Type 0) → (ℕ → ℕ) → ℕ → Option Placed → Type 0
IsPassed counts resolved value None = ⊥
IsPassed counts resolved value (Some placed) =
    (edge : Edge ℕ ℕ) × (place operand : ℕ) × Contains placed.instruction.edges edge
    × (slice_get edge.arguments place ≡ Some (Known operand)) × (resolved operand ≡ value) × counts edge.target place

-- every argument of an edge counts
abbrev pub every_argument : ℕ → ℕ → Type 0
every_argument target place = Unit {0}

-- the operands of an instruction, after aliases. The context of a try call is none of them.
abbrev pub used_operands : (ℕ → ℕ) → Option Placed → List ℕ
used_operands resolved None = []
used_operands resolved (Some placed) = map resolved placed.instruction.operands

-- From behind the results of a place on, the path ahead comes to a use of the value before a definition of it. The path
-- is the list of the places that follow, each of which control may go to from the one before.
abbrev pub IsUsedAhead : (counts : ℕ → ℕ → Type 0) → FunctionView → ℕ → Place ℕ → List (Place ℕ) → Type 0
IsUsedAhead counts function value p [] = IsPassed counts function.resolved value (placed_at function p)
IsUsedAhead counts function value p (q ∷ path) =
    Leads (function_flow function) p q
    × (¬ Contains (given_on_entry (function_code function) q.block q.index) value)
    × (Contains (used_operands function.resolved (placed_at function q)) value
    ⊎ ((¬ Contains (placed_gives (placed_at function q)) value) × IsUsedAhead counts function value q path))

-- Live across the instruction at a place: it is no result of it, and some path ahead comes to a use before a
-- definition.
abbrev pub IsLiveAcross : (counts : ℕ → ℕ → Type 0) → FunctionView → Place ℕ → ℕ → Type 0
IsLiveAcross counts function p value =
    (¬ Contains (placed_gives (placed_at function p)) value)
    × (path : List (Place ℕ)) × IsUsedAhead counts function value p path

-- Live right before the instruction at a place, the parameters of its block given: it uses the value, or the value is live across
-- it.
abbrev pub IsLiveBefore : (counts : ℕ → ℕ → Type 0) → FunctionView → Place ℕ → ℕ → Type 0
IsLiveBefore counts function p value =
    Contains (used_operands function.resolved (placed_at function p)) value ⊎ IsLiveAcross counts function p value
