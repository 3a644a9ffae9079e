-- Calls that are well typed are so far, whichever blocks are growing.
use Rattle.std.proofs.Common.{Bool, List, [], ◌∷◌, Option, Some, None}
use Rattle.std.specs.List.{AllByRecursion}
use Rattle.clif_types.specs.Signature.{SignatureShape}
use Rattle.clif_types.specs.declared.types.«Type».{«Type»}
use Rattle.clif_meaning.specs.Name.{Name}
use Rattle.clif_meaning.specs.Ledger.{Ledger, or_invalid, type_of}
use Rattle.clif_meaning.specs.Premises.{IsItemWellTyped, WellTyped, parameter_types}
use Rattle.clif_meaning.specs.Program.{Program, Item, Instruct, Use, Assign}
use Rattle.clif_tables.specs.Callees.{types_of}
use Rattle.clif_meaning.specs.Event.{CallShape, payload_types}
use Rattle.clif_meaning.specs.Instruction.{Edge}
use Rattle.clif_meaning.specs.Typing.{EachEdgeMatches, EdgeMatches, call_shape}
use Rattle.clif_simulation.specs.Reading.{EachEdgeMatchesSoFar, EdgeMatchesSoFar, IsItemTypedSoFar, WellTypedSoFar}
use Rattle.clif_simulation.proofs.Carrying.{all_mapped}

module _ (growing : Name → Bool) (ledger : Ledger) (program : Program) where
  abbrev name_type : Name → «Type»
  name_type name = or_invalid (type_of ledger name)

  no_edges : (call : Option CallShape) → EachEdgeMatches {Operand = Name} name_type (parameter_types ledger program) call []
  no_edges None = tt
  no_edges (Some call) = tt

  all_so_far : (results payload : List «Type») (edges : List (Edge Name Name)) → AllByRecursion (EdgeMatches name_type (parameter_types ledger program) results payload) edges
      → AllByRecursion (EdgeMatchesSoFar growing name_type (parameter_types ledger program) results payload) edges
  all_so_far results payload =
      all_mapped (EdgeMatches name_type (parameter_types ledger program) results payload) (EdgeMatchesSoFar growing name_type (parameter_types ledger program) results payload)
      (λ edge matches settled. matches)

  edges_so_far : (call : Option CallShape) (edges : List (Edge Name Name)) → EachEdgeMatches name_type (parameter_types ledger program) call edges
      → EachEdgeMatchesSoFar growing name_type (parameter_types ledger program) call edges
  edges_so_far None edges typed = all_so_far [] [] edges typed
  edges_so_far (Some call) [] typed = tt
  edges_so_far (Some call) (normal ∷ items) typed = (λ settled. typed.0, all_so_far [] payload_types items typed.1)

  item_so_far : (returns : List «Type») (item : Item) → IsItemWellTyped ledger program returns item → IsItemTypedSoFar growing ledger program returns item
  item_so_far returns (Instruct place instruction results) typed = (
    record { made_at = typed.made_at; operands = typed.operands; edges = no_edges (call_shape instruction.operation) },
    edges_so_far (call_shape instruction.operation) instruction.edges typed.edges,
  )
  item_so_far returns (Use variable name) typed = tt
  item_so_far returns (Assign variable name) typed = typed

  pub typed_so_far : (signature : SignatureShape) → WellTyped ledger program signature → WellTypedSoFar growing ledger program signature
  typed_so_far signature typed = record {
    items = λ block.
        all_mapped (IsItemWellTyped ledger program (types_of signature.returns)) (IsItemTypedSoFar growing ledger program (types_of signature.returns))
        (item_so_far (types_of signature.returns)) (program.items block) (typed.items block);
    entry = typed.entry;
  }
