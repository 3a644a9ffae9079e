-- The first error of a list of instructions.
use Rattle.std.proofs.Common.{◌≡◌, ℕ, suc, List, ◌++◌, take, drop}
use Rattle.std.specs.Prelude.{Option, Some, All}
use Rattle.std.specs.List.{flat_map}
use Rattle.std.proofs.lemmas.List.Elements.{All-append}
use Rattle.clif_ir.specs.Body.{Body}
use Rattle.clif_check.specs.declared.error.CheckError.{CheckError}
use Rattle.clif_check.specs.declared.error.CheckErrorKind.{CheckErrorKind}
use Rattle.clif_check.specs.WellTyped.{Fails, IsFirstError, IsWellTyped, insts_in_order, insts_of}
use Rattle.clif_check.proofs.Walks.{Walked, all_flat, flat_order, order}

-- where the walk stands at an instruction that fails
pub in_block : (f : Body) (insts : List ℕ) {next : Option ℕ} (inst : ℕ) (kind : CheckErrorKind) → Walked (IsWellTyped f) insts next → next ≡ Some inst → Fails f inst kind
    → IsFirstError f insts (record { inst = inst; kind = kind })
in_block f insts inst kind walked is fails = record {
  before = take walked.place insts;
  after = drop (suc walked.place) insts;
  order = order walked is;
  passed = walked.passed;
  fails = fails;
}

-- the instructions of a block are well typed
abbrev pub IsBlockRight : Body → ℕ → Type 0
IsBlockRight f block = All (IsWellTyped f) (insts_of f block)

-- where the walk stands at a block with such an instruction
pub in_layout : (f : Body) {next : Option ℕ} (block : ℕ) (error : CheckError) → Walked (IsBlockRight f) f.layout next → next ≡ Some block
    → IsFirstError f (insts_of f block) error → IsFirstError f (insts_in_order f) error
in_layout f block error walked is first = record {
  before = flat_map (insts_of f) (take walked.place f.layout) ++ first.before;
  after = first.after ++ flat_map (insts_of f) (drop (suc walked.place) f.layout);
  order = flat_order (insts_of f) f.layout (take walked.place f.layout) (drop (suc walked.place) f.layout) block first.before first.after error.inst
      (order walked is) first.order;
  passed = All-append (IsWellTyped f) (flat_map (insts_of f) (take walked.place f.layout)) first.before
      (all_flat (IsWellTyped f) (insts_of f) (take walked.place f.layout) walked.passed) first.passed;
  fails = first.fails;
}
