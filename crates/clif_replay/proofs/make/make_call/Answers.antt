use Rattle.std.proofs.Common.{ℕ, List, sym, subst}
use Rattle.std.specs.Prelude.{false, map}
use Rattle.clif_types.specs.declared.types.«Type».TheVariants.{Invalid}
use Rattle.clif_opcodes.specs.declared.opcodes.PooledConstOpcode.TheVariants.{F128const, Vconst}
use Rattle.clif_ssa.specs.Limits.{IsFull}
use Rattle.clif_meaning.specs.Acceptance.{return_}
use Rattle.clif_calls.specs.declared.call.Name.{Name}
use Rattle.clif_calls.specs.declared.table.TableItem.{TableItem}
use Rattle.clif_calls.specs.declared.plan.Plan.{Plan}
use Rattle.clif_calls.specs.declared.straight.StraightInstruction.{StraightInstruction}
use Rattle.clif_calls.specs.declared.call.Call.{Call}
use Rattle.clif_replay.specs.Emits.{MakesScriptCall}
use Rattle.clif_replay.specs.Makes.{Makes, MakesConstant, MakesExceptions, MakesPlan, MakesStraight, MakesTable}
use Rattle.clif_replay.proofs.make.make_call.Goals as goal

pub returns-in-CreateBlock : goal.returns-in-CreateBlock
returns-in-CreateBlock g c = subst (λ (x : Call). MakesScriptCall c.args.config x c.args.builder.now c.create_block.new.builder c.args.answers.now c.create_block.result) (sym c.in-CreateBlock.is) c.create_block.ensures

pub returns-in-SwitchToBlock : goal.returns-in-SwitchToBlock
returns-in-SwitchToBlock g c = subst (λ (x : Call). MakesScriptCall c.args.config x c.args.builder.now c.switch_to_block.new.builder c.args.answers.now c.switch_to_block.result) (sym c.in-SwitchToBlock.is) c.switch_to_block.ensures

pub returns-in-SealBlock : goal.returns-in-SealBlock
returns-in-SealBlock g c = subst (λ (x : Call). MakesScriptCall c.args.config x c.args.builder.now c.seal_block.new.builder c.args.answers.now c.seal_block.result) (sym c.in-SealBlock.is) c.seal_block.ensures

pub returns-in-SealAllBlocks : goal.returns-in-SealAllBlocks
returns-in-SealAllBlocks g c = subst (λ (x : Call). MakesScriptCall c.args.config x c.args.builder.now c.seal_all_blocks.new.builder c.args.answers.now c.seal_all_blocks.result) (sym c.in-SealAllBlocks.is) c.seal_all_blocks.ensures

pub returns-in-InsertBlockAfter : goal.returns-in-InsertBlockAfter
returns-in-InsertBlockAfter g c = subst (λ (x : Call). MakesScriptCall c.args.config x c.args.builder.now c.insert_block_after.new.builder c.args.answers.now c.insert_block_after.result) (sym c.in-InsertBlockAfter.is) c.insert_block_after.ensures

pub returns-in-SetColdBlock : goal.returns-in-SetColdBlock
returns-in-SetColdBlock g c = subst (λ (x : Call). MakesScriptCall c.args.config x c.args.builder.now c.set_cold_block.new.builder c.args.answers.now c.set_cold_block.result) (sym c.in-SetColdBlock.is) c.set_cold_block.ensures

pub returns-in-EnsureInsertedBlock : goal.returns-in-EnsureInsertedBlock
returns-in-EnsureInsertedBlock g c = subst (λ (x : Call). MakesScriptCall c.args.config x c.args.builder.now c.ensure_inserted_block.new.builder c.args.answers.now c.ensure_inserted_block.result) (sym c.in-EnsureInsertedBlock.is) c.ensure_inserted_block.ensures

pub returns-in-AppendBlockParam : goal.returns-in-AppendBlockParam
returns-in-AppendBlockParam g c = subst (λ (x : Call). MakesScriptCall c.args.config x c.args.builder.now c.append_block_param.new.builder c.args.answers.now c.append_block_param.result) (sym c.in-AppendBlockParam.is) c.append_block_param.ensures

pub returns-in-AppendBlockParamsForFunctionParams : goal.returns-in-AppendBlockParamsForFunctionParams
returns-in-AppendBlockParamsForFunctionParams g c = subst (λ (x : Call). MakesScriptCall c.args.config x c.args.builder.now c.append_block_params_for_function_params.new.builder c.args.answers.now c.append_block_params_for_function_params.result) (sym c.in-AppendBlockParamsForFunctionParams.is) c.append_block_params_for_function_params.ensures

pub returns-in-AppendBlockParamsForFunctionReturns : goal.returns-in-AppendBlockParamsForFunctionReturns
returns-in-AppendBlockParamsForFunctionReturns g c = subst (λ (x : Call). MakesScriptCall c.args.config x c.args.builder.now c.append_block_params_for_function_returns.new.builder c.args.answers.now c.append_block_params_for_function_returns.result) (sym c.in-AppendBlockParamsForFunctionReturns.is) c.append_block_params_for_function_returns.ensures

pub returns-in-Entry : goal.returns-in-Entry
returns-in-Entry g c = subst (λ (x : Call). MakesScriptCall c.args.config x c.args.builder.now c.make_entry.new.builder c.args.answers.now c.make_entry.result) (sym c.in-Entry.is) c.make_entry.ensures

pub returns-in-CreateJumpTable : goal.returns-in-CreateJumpTable
returns-in-CreateJumpTable g c =
    let new = c.create_jump_table.new.builder in
    subst (λ (x : Call). MakesScriptCall c.args.config x c.args.builder.now new c.args.answers.now c.create_jump_table.result) (sym c.in-CreateJumpTable.is)
    (subst (λ (names : List Name). MakesTable c.in-CreateJumpTable.default names c.args.builder.now new c.args.answers.now c.create_jump_table.result) c.as_slice.ensures.value
    c.create_jump_table.ensures)

pub returns-in-CreateExceptionTable : goal.returns-in-CreateExceptionTable
returns-in-CreateExceptionTable g c =
    let new = c.create_exception_table.new.builder in
    subst (λ (x : Call). MakesScriptCall c.args.config x c.args.builder.now new c.args.answers.now c.create_exception_table.result) (sym c.in-CreateExceptionTable.is)
    (subst (λ (items : List TableItem). MakesExceptions c.in-CreateExceptionTable.signature c.in-CreateExceptionTable.normal items c.args.builder.now new c.args.answers.now c.create_exception_table.result)
    c.as_slice-in-CreateExceptionTable.ensures.value c.create_exception_table.ensures)

pub returns-in-DeclareVar : goal.returns-in-DeclareVar
returns-in-DeclareVar g c = subst (λ (x : Call). MakesScriptCall c.args.config x c.args.builder.now c.declare_var.new.builder c.args.answers.now c.declare_var.result) (sym c.in-DeclareVar.is) c.declare_var.ensures

pub returns-in-DeclareVarNeedsStackMap : goal.returns-in-DeclareVarNeedsStackMap
returns-in-DeclareVarNeedsStackMap g c = subst (λ (x : Call). MakesScriptCall c.args.config x c.args.builder.now c.declare_var_needs_stack_map.new.builder c.args.answers.now c.declare_var_needs_stack_map.result) (sym c.in-DeclareVarNeedsStackMap.is) c.declare_var_needs_stack_map.ensures

pub returns-in-DeclareValueNeedsStackMap : goal.returns-in-DeclareValueNeedsStackMap
returns-in-DeclareValueNeedsStackMap g c = subst (λ (x : Call). MakesScriptCall c.args.config x c.args.builder.now c.declare_value_needs_stack_map.new.builder c.args.answers.now c.declare_value_needs_stack_map.result) (sym c.in-DeclareValueNeedsStackMap.is) c.declare_value_needs_stack_map.ensures

pub returns-in-DefVar : goal.returns-in-DefVar
returns-in-DefVar g c = subst (λ (x : Call). MakesScriptCall c.args.config x c.args.builder.now c.def_var.new.builder c.args.answers.now c.def_var.result) (sym c.in-DefVar.is) c.def_var.ensures

pub returns-in-UseVar : goal.returns-in-UseVar
returns-in-UseVar g c = subst (λ (x : Call). MakesScriptCall c.args.config x c.args.builder.now c.use_var.new.builder c.args.answers.now c.use_var.result) (sym c.in-UseVar.is) c.use_var.ensures

pub returns-in-TryDefVar : goal.returns-in-TryDefVar
returns-in-TryDefVar g c = subst (λ (x : Call). MakesScriptCall c.args.config x c.args.builder.now c.try_def_var.new.builder c.args.answers.now c.try_def_var.result) (sym c.in-TryDefVar.is) c.try_def_var.ensures

pub returns-in-TryUseVar : goal.returns-in-TryUseVar
returns-in-TryUseVar g c = subst (λ (x : Call). MakesScriptCall c.args.config x c.args.builder.now c.try_use_var.new.builder c.args.answers.now c.try_use_var.result) (sym c.in-TryUseVar.is) c.try_use_var.ensures

pub returns-in-Plain : goal.returns-in-Plain
returns-in-Plain g c =
    let new = c.make_instruction.new.builder in
    subst (λ (x : Call). MakesScriptCall c.args.config x c.args.builder.now new c.args.answers.now c.make_instruction.result) (sym c.in-Straight.is)
    (subst (λ (s : StraightInstruction). MakesStraight s c.args.builder.now new c.args.answers.now c.make_instruction.result) (sym c.in-Plain.is)
    (subst (λ (p : Plan). MakesPlan p c.args.builder.now new c.args.answers.now c.make_instruction.result) c.plan.ensures c.make_instruction.ensures))

pub returns-in-Outside : goal.returns-in-Outside
returns-in-Outside g c =
    let new = c.make_outside_call.new.builder in
    subst (λ (x : Call). MakesScriptCall c.args.config x c.args.builder.now new c.args.answers.now c.make_outside_call.result) (sym c.in-Straight.is)
    (subst (λ (s : StraightInstruction). MakesStraight s c.args.builder.now new c.args.answers.now c.make_outside_call.result) (sym c.in-Outside.is) c.make_outside_call.ensures)

pub returns-in-F128const : goal.returns-in-F128const
returns-in-F128const g c =
    let new = c.make_constant.new.builder in
    subst (λ (x : Call). MakesScriptCall c.args.config x c.args.builder.now new c.args.answers.now c.make_constant.result) (sym c.in-Straight.is)
    (subst (λ (s : StraightInstruction). MakesStraight s c.args.builder.now new c.args.answers.now c.make_constant.result) (sym c.in-F128const.is)
    (subst (λ (bytes : List ℕ). MakesConstant F128const Invalid bytes c.args.builder.now new c.args.answers.now c.make_constant.result) c.as_slice-bytes.ensures.value c.make_constant.ensures))

pub returns-in-Vconst : goal.returns-in-Vconst
returns-in-Vconst g c =
    let new = c.make_constant-in-Vconst.new.builder in
    subst (λ (x : Call). MakesScriptCall c.args.config x c.args.builder.now new c.args.answers.now c.make_constant-in-Vconst.result) (sym c.in-Straight.is)
    (subst (λ (s : StraightInstruction). MakesStraight s c.args.builder.now new c.args.answers.now c.make_constant-in-Vconst.result) (sym c.in-Vconst.is)
    (subst (λ (bytes : List ℕ). MakesConstant Vconst c.in-Vconst.ty bytes c.args.builder.now new c.args.answers.now c.make_constant-in-Vconst.result) c.as_slice-in-Vconst.ensures.value
    c.make_constant-in-Vconst.ensures))

pub returns-in-SetSrcloc : goal.returns-in-SetSrcloc
returns-in-SetSrcloc g c = subst (λ (x : Call). MakesScriptCall c.args.config x c.args.builder.now c.set_srcloc.new.builder c.args.answers.now c.set_srcloc.result) (sym c.in-SetSrcloc.is) c.set_srcloc.ensures.made

pub returns-in-CollectDebugInfo : goal.returns-in-CollectDebugInfo
returns-in-CollectDebugInfo g c = subst (λ (x : Call). MakesScriptCall c.args.config x c.args.builder.now c.collect_debug_info.new.builder c.args.answers.now c.collect_debug_info.result) (sym c.in-CollectDebugInfo.is) c.collect_debug_info.ensures.made

pub returns-in-SetValLabel : goal.returns-in-SetValLabel
returns-in-SetValLabel g c = subst (λ (x : Call). MakesScriptCall c.args.config x c.args.builder.now c.set_val_label.new.builder c.args.answers.now c.set_val_label.result) (sym c.in-SetValLabel.is) c.set_val_label.ensures.made

pub returns-in-ChangeJumpDestination : goal.returns-in-ChangeJumpDestination
returns-in-ChangeJumpDestination g c = subst (λ (x : Call). MakesScriptCall c.args.config x c.args.builder.now c.change_jump_destination.new.builder c.args.answers.now c.change_jump_destination.result) (sym c.in-ChangeJumpDestination.is) c.change_jump_destination.ensures

pub returns-in-Jump : goal.returns-in-Jump
returns-in-Jump g c = subst (λ (x : Call). MakesScriptCall c.args.config x c.args.builder.now c.make_instruction-in-Jump.new.builder c.args.answers.now c.make_instruction-in-Jump.result) (sym c.in-Jump.is) c.make_instruction-in-Jump.ensures

pub returns-in-Brif : goal.returns-in-Brif
returns-in-Brif g c = subst (λ (x : Call). MakesScriptCall c.args.config x c.args.builder.now c.make_instruction-in-Brif.new.builder c.args.answers.now c.make_instruction-in-Brif.result) (sym c.in-Brif.is) c.make_instruction-in-Brif.ensures

pub returns-in-Throwing : goal.returns-in-Throwing
returns-in-Throwing g c = subst (λ (x : Call). MakesScriptCall c.args.config x c.args.builder.now c.make_throwing_call.new.builder c.args.answers.now c.make_throwing_call.result) (sym c.in-Throwing.is) c.make_throwing_call.ensures

pub returns-in-Return : goal.returns-in-Return
returns-in-Return g c =
    let new = c.make_instruction-in-Return.new.builder in
    subst (λ (x : Call). MakesScriptCall c.args.config x c.args.builder.now new c.args.answers.now c.make_instruction-in-Return.result) (sym c.in-Return.is)
    (subst (λ (names : List Name). Makes (λ naming declared ledger. return_ (map naming names)) false (IsFull c.args.builder.now.func.now) c.args.builder.now.ctx.now.parts.variables c.args.builder.now new c.args.answers.now c.make_instruction-in-Return.result)
    c.as_slice-args.ensures.value c.make_instruction-in-Return.ensures)

pub returns-in-Trap : goal.returns-in-Trap
returns-in-Trap g c = subst (λ (x : Call). MakesScriptCall c.args.config x c.args.builder.now c.make_instruction-in-Trap.new.builder c.args.answers.now c.make_instruction-in-Trap.result) (sym c.in-Trap.is) c.make_instruction-in-Trap.ensures

pub returns-in-Immediate : goal.returns-in-Immediate
returns-in-Immediate g c = subst (λ (x : Call). MakesScriptCall c.args.config x c.args.builder.now c.make_immediate.new.builder c.args.answers.now c.make_immediate.result) (sym c.in-Immediate.is) c.make_immediate.ensures

pub returns-in-Memory : goal.returns-in-Memory
returns-in-Memory g c = subst (λ (x : Call). MakesScriptCall c.args.config x c.args.builder.now c.make_memory.new.builder c.args.answers.now c.make_memory.result) (sym c.in-Memory.is) c.make_memory.ensures
