-- Where a branch leads, by names and by numbers, as this crate's law function states it. Own.
use Rattle.std.specs.Prelude.{◌≡◌, ℕ, List, Option}
use Rattle.clif_types.specs.Signature.{SignatureShape}
use Rattle.clif_instructions.specs.Members.{stands_in}
use Rattle.clif_ir.specs.Body.{Body}
use Rattle.clif_meaning.specs.Name.{Name}
use Rattle.clif_meaning.specs.Request.{AnsweredCall}
use Rattle.clif_meaning.specs.Ledger.{leads_to}
use Rattle.clif_ssa.specs.Ssa.{predecessors_of}
use Rattle.clif_builder.specs.Context.{ContextState}
use Rattle.clif_builder.specs.Ledger.{NamesBlock, NamesInstruction, ledger_of}
use Rattle.clif_builder.specs.StandsFor.{StandsIn}

-- Where a builder stands for a list of calls, an instruction leads to a block in the ledger, by their names, exactly where
-- it does in the builder, by their numbers.
abbrev pub LeadsAreReadByNumber : Type 0
LeadsAreReadByNumber =
    (declared : SignatureShape) (calls : List AnsweredCall) (f : Body) (c : ContextState) (position : Option ℕ) (branch block : Name) (inst number : ℕ)
    → StandsIn declared calls f c position → NamesInstruction calls branch inst → NamesBlock calls block number
    → leads_to (ledger_of calls) branch block ≡ stands_in inst (predecessors_of c.ssa number)
