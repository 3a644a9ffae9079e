-- New entries of tables keep a function consistent.
use Rattle.std.proofs.Common.{ℕ, ◌≤◌, length, arith}
use Rattle.std.specs.Prelude.{All}
use Rattle.std.proofs.lemmas.List.Elements.{All-weaker}
use Rattle.clif_instructions.specs.Instruction.{EntryRef, ASlot, AConstant, ASignatureRef, AFunctionRef, entries_of}
use Rattle.clif_tables.specs.Lists.{TableLists}
use Rattle.clif_ir.specs.Body.{Body, inst_at}
use Rattle.clif_ir.specs.Consistent.{IsConsistent, EntryExists}

pub entry_stays : (t u : TableLists) → length t.stack_slots ≤ length u.stack_slots → length t.constants ≤ length u.constants
    → length t.signatures ≤ length u.signatures → length t.functions ≤ length u.functions
    → (entry : EntryRef) → EntryExists t entry → EntryExists u entry
entry_stays t u slots constants signatures functions (ASlot number) here = omega (arith, here, slots)
entry_stays t u slots constants signatures functions (AConstant number) here = omega (arith, here, constants)
entry_stays t u slots constants signatures functions (ASignatureRef number) here = omega (arith, here, signatures)
entry_stays t u slots constants signatures functions (AFunctionRef number) here = omega (arith, here, functions)

-- what instructions name goes on existing where tables grow
pub entries_stay : (f : Body) (u : TableLists) → IsConsistent f → length f.tables.stack_slots ≤ length u.stack_slots → length f.tables.constants ≤ length u.constants
    → length f.tables.signatures ≤ length u.signatures → length f.tables.functions ≤ length u.functions
    → (i : ℕ) → All (EntryExists u) (entries_of (inst_at f i).shape)
entries_stay f u known slots constants signatures functions i =
    All-weaker (EntryExists f.tables) (EntryExists u) (entry_stays f.tables u slots constants signatures functions) (entries_of (inst_at f i).shape) (known.entries_exist i)
