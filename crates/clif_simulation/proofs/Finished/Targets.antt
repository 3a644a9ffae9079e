-- What the premises say of an edge of the program: its target has its terminator, and it passes as much as that has
-- parameters of the caller's.
use Rattle.std.proofs.Common.{◌≡◌, ℕ, zero, suc, Bool, false, List, [], ◌∷◌, length, map, slice_get, Option, Some, None, refl, sym, ◌∙◌, ap, subst}
use Rattle.std.specs.Prelude.{IsTrue}
use Rattle.std.specs.List.{AllByRecursion}
use Rattle.clif_types.specs.Signature.{SignatureShape}
use Rattle.clif_types.specs.declared.types.«Type».{«Type»}
use Rattle.clif_tables.specs.Callees.{types_of}
use Rattle.clif_meaning.specs.Event.{CallShape, payload_types}
use Rattle.clif_meaning.specs.Name.{Name}
use Rattle.clif_meaning.specs.Request.{AnsweredCall, script_of}
use Rattle.clif_meaning.specs.Ledger.{Ledger, ledger_after, is_filled, or_invalid, type_of}
use Rattle.clif_meaning.specs.Instruction.{Edge, Instruction}
use Rattle.clif_meaning.specs.Program.{Instruct}
use Rattle.clif_meaning.specs.Premises.{EachItem, HasGoodTargets, IsGoodTarget, IsItemWellTyped, WellTyped, parameter_types}
use Rattle.clif_meaning.specs.Typing.{EdgeMatches, EachEdgeMatches, argument_type, call_shape}
use Rattle.clif_simulation.specs.Tables.{program_so_far}
use Rattle.clif_simulation.specs.Reading.{EachEdgeMatchesSoFar, EdgeMatchesSoFar, IsItemTypedSoFar, WellTypedSoFar}
use Rattle.clif_simulation.proofs.Listed.{all_at}
use Rattle.clif_simulation.proofs.Finished.Placing.{map_length}

-- what holds of what stands at each place holds of each entry
pub all_where : {X : Type 0} (P : X → Type 0) (xs : List X) → ((k : ℕ) (x : X) → slice_get xs k ≡ Some x → P x) → AllByRecursion P xs
all_where P [] each = tt
all_where P (x ∷ xs) each = (each 0 x refl, all_where P xs (λ k y there. each (suc k) y there))

some_same : {X : Type 0} (x y : X) → Some x ≡ Some y → x ≡ y
some_same x y e = cc

-- The types of what the call at its start gives along the edge with this number: the results along the first one, and the
-- payload of an exception along the others.
abbrev pub results_along : Option CallShape → ℕ → List «Type»
results_along None n = []
results_along (Some call) zero = types_of call.signature.returns
results_along (Some call) (suc n) = []

abbrev pub payload_along : Option CallShape → ℕ → List «Type»
payload_along None n = []
payload_along (Some call) zero = []
payload_along (Some call) (suc n) = payload_types

-- each edge matches by its number,
pub edge_at : {Block Operand : Type 0} (type_of_operand : Operand → «Type») (parameters : Block → List «Type») (call : Option CallShape) (edges : List (Edge Block Operand))
    → EachEdgeMatches type_of_operand parameters call edges → (n : ℕ) (edge : Edge Block Operand) → slice_get edges n ≡ Some edge
    → EdgeMatches type_of_operand parameters (results_along call n) (payload_along call n) edge
edge_at type_of_operand parameters None edges matches n edge is = all_at (EdgeMatches type_of_operand parameters [] []) edges n edge matches is
edge_at type_of_operand parameters (Some call) [] matches zero edge is = cc
edge_at type_of_operand parameters (Some call) [] matches (suc n) edge is = cc
edge_at type_of_operand parameters (Some call) (normal ∷ items) matches zero edge is =
    subst (EdgeMatches type_of_operand parameters (types_of call.signature.returns) []) (some_same normal edge is) matches.0
edge_at type_of_operand parameters (Some call) (normal ∷ items) matches (suc n) edge is =
    all_at (EdgeMatches type_of_operand parameters [] payload_types) items n edge matches.1 is

-- and edges that do so match
pub edges_by_number : {Block Operand : Type 0} (type_of_operand : Operand → «Type») (parameters : Block → List «Type») (call : Option CallShape) (edges : List (Edge Block Operand))
    → ((n : ℕ) (edge : Edge Block Operand) → slice_get edges n ≡ Some edge → EdgeMatches type_of_operand parameters (results_along call n) (payload_along call n) edge)
    → EachEdgeMatches type_of_operand parameters call edges
edges_by_number type_of_operand parameters None edges each = all_where (EdgeMatches type_of_operand parameters [] []) edges each
edges_by_number type_of_operand parameters (Some call) [] each = tt
edges_by_number type_of_operand parameters (Some call) (normal ∷ items) each =
    (each 0 normal refl, all_where (EdgeMatches type_of_operand parameters [] payload_types) items (λ n edge is. each (suc n) edge is))

-- the same of edges that match so far
pub edge_at_so_far : (growing : Name → Bool) (name_type : Name → «Type») (parameters : Name → List «Type») (call : Option CallShape) (edges : List (Edge Name Name))
    → EachEdgeMatchesSoFar growing name_type parameters call edges → (n : ℕ) (edge : Edge Name Name) → slice_get edges n ≡ Some edge
    → EdgeMatchesSoFar growing name_type parameters (results_along call n) (payload_along call n) edge
edge_at_so_far growing name_type parameters None edges matches n edge is = all_at (EdgeMatchesSoFar growing name_type parameters [] []) edges n edge matches is
edge_at_so_far growing name_type parameters (Some call) [] matches zero edge is = cc
edge_at_so_far growing name_type parameters (Some call) [] matches (suc n) edge is = cc
edge_at_so_far growing name_type parameters (Some call) (normal ∷ items) matches zero edge is =
    subst (EdgeMatchesSoFar growing name_type parameters (types_of call.signature.returns) []) (some_same normal edge is) matches.0
edge_at_so_far growing name_type parameters (Some call) (normal ∷ items) matches (suc n) edge is =
    all_at (EdgeMatchesSoFar growing name_type parameters [] payload_types) items n edge matches.1 is

-- the types of names
abbrev pub name_types : List AnsweredCall → Name → «Type»
name_types calls name = or_invalid (type_of (ledger_after (script_of calls)) name)

-- an edge of the program that matches passes as much as its target has parameters
pub matching_passes_as_many : (calls : List AnsweredCall) (given payload : List «Type») (edge : Edge Name Name)
    → EdgeMatches (name_types calls) (parameter_types (ledger_after (script_of calls)) (program_so_far calls)) given payload edge
    → length edge.arguments ≡ length ((program_so_far calls).parameters edge.target)
matching_passes_as_many calls given payload edge matches =
    sym (map_length (argument_type (name_types calls) given payload) edge.arguments)
    ∙ ap (λ (types : List (Option «Type»)). length types) matches
    ∙ map_length (λ ty. Some ty) (map (name_types calls) ((program_so_far calls).parameters edge.target))
    ∙ map_length (name_types calls) ((program_so_far calls).parameters edge.target)

module _ (calls : List AnsweredCall) (B : Name) (k place : ℕ) (instruction : Instruction Name Name) (results : List Name)
    (stands : slice_get ((program_so_far calls).items B) k ≡ Some (Instruct place instruction results)) (n : ℕ) (edge : Edge Name Name) (is_edge : slice_get instruction.edges n ≡ Some edge)
  where
    abbrev ledger : Ledger
    ledger = ledger_after (script_of calls)

    -- so does an edge that is well typed
    pub passes_as_many : (signature : SignatureShape) → WellTyped ledger (program_so_far calls) signature
        → length edge.arguments ≡ length ((program_so_far calls).parameters edge.target)
    passes_as_many signature typed =
        let item : IsItemWellTyped ledger (program_so_far calls) (types_of signature.returns) (Instruct place instruction results) =
        all_at (IsItemWellTyped ledger (program_so_far calls) (types_of signature.returns)) ((program_so_far calls).items B) k (Instruct place instruction results) (typed.items B) stands in
        matching_passes_as_many calls _ _ edge
        (edge_at (name_types calls) (parameter_types ledger (program_so_far calls)) (call_shape instruction.operation) instruction.edges item.edges n edge is_edge)

    -- and one that is well typed so far, unless its target is growing
    pub passes_as_many_so_far : (growing : Name → Bool) (signature : SignatureShape) → WellTypedSoFar growing ledger (program_so_far calls) signature
        → growing edge.target ≡ false → length edge.arguments ≡ length ((program_so_far calls).parameters edge.target)
    passes_as_many_so_far growing signature typed settled =
        let item : IsItemTypedSoFar growing ledger (program_so_far calls) (types_of signature.returns) (Instruct place instruction results) =
        all_at (IsItemTypedSoFar growing ledger (program_so_far calls) (types_of signature.returns)) ((program_so_far calls).items B) k (Instruct place instruction results) (typed.items B) stands in
        matching_passes_as_many calls _ _ edge
        (edge_at_so_far growing (name_types calls) (parameter_types ledger (program_so_far calls)) (call_shape instruction.operation) instruction.edges item.1 n edge is_edge settled)

    pub target_filled : EachItem (HasGoodTargets ledger (program_so_far calls)) (program_so_far calls) → IsTrue (is_filled ledger edge.target)
    target_filled targets =
        let item : HasGoodTargets ledger (program_so_far calls) (Instruct place instruction results) =
        all_at (HasGoodTargets ledger (program_so_far calls)) ((program_so_far calls).items B) k (Instruct place instruction results) (targets B) stands in
        (all_at (IsGoodTarget ledger (program_so_far calls)) instruction.edges n edge item is_edge).filled
