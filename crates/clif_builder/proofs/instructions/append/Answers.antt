use Rattle.std.proofs.Common.{◌≡◌, ℕ, false, List, [], sym, ap, subst, arith, ◌∙◌}
use Rattle.std.specs.Prelude.{Contains}
use Rattle.clif_ir.specs.Body.{Body}
use Rattle.clif_instructions.specs.Instruction.{destinations}
use Rattle.clif_tables.specs.Callees.{types_of_results}
use Rattle.clif_instructions.specs.Edges.{targets}
use Rattle.clif_instructions.specs.declared.block_call.BlockCall.{BlockCall}
use Rattle.clif_instructions.specs.declared.insert_at.InsertAt.TheVariants.{Back}
use Rattle.clif_records.specs.Tables.{is_yes}
use Rattle.clif_ssa.specs.Ssa.{SsaState, NamesExist, sealed_of}
use Rattle.clif_builder.specs.Context.{ContextState}
use Rattle.clif_builder.specs.Construction.{IsDeclared}
use Rattle.clif_builder.proofs.Appending.{inserted_node, lead_unsealed, new_leads_nowhere, none_of_inner, none_of_plain}
use Rattle.clif_builder.specs.Built.{OnlyLaidOut}
use Rattle.clif_builder.proofs.Declaring.{declared_none}
use Rattle.clif_builder.proofs.Growing.{laid_inserted}
use Rattle.clif_builder.proofs.Named.{names_appended}
use Rattle.clif_builder.proofs.instructions.append.Goals as goal
use Rattle.clif_builder.proofs.instructions.append.Goals.{then-ends+in_ok-set_status+in_ok-declare_successors, else-ends}

named_still : (s t : SsaState) (f : Body) → t ≡ s → NamesExist f s → NamesExist f t
named_still s t f same named = subst (NamesExist f) (sym same) named

pub returns-in_err-inst-clause-full_stays : goal.returns-in_err-inst-clause-full_stays
returns-in_err-inst-clause-full_stays c = λ is.
    subst (OnlyLaidOut c.args.func.now) (sym (c.in_err-inst.ensures.err ∙ c.in_ok-begin_block.ensures.function)) (laid_inserted c.args.func.now c.args.block)

pub returns-in_err-set_status-clause-names : goal.returns-in_err-set_status-clause-names
returns-in_err-set_status-clause-names c =
    named_still c.begin_block.new.ctx.ssa c.set_status.new.self.ssa c.insert_inst.new.self c.set_status.ensures.ssa
    (names_appended c.insert_inst.result c.begin_block.new.func c.insert_inst.new.self c.begin_block.new.ctx.ssa c.args.block Back c.args.shape (types_of_results c.begin_block.new.func.tables c.args.shape c.args.ctrl_type) c.args.srcloc
    c.insert_inst.ensures.ok c.insert_inst.ensures.err (c.begin_block.ensures.names c.requires.named))

pub declare_successors-requires-clause-unsealed : goal.declare_successors-requires-clause-unsealed
declare_successors-requires-clause-unsealed c = λ b here.
    let node = inserted_node c.begin_block.new.func c.insert_inst.new.self c.args.block Back c.args.shape (types_of_results c.begin_block.new.func.tables c.args.shape c.args.ctrl_type) c.args.srcloc c.in_ok-inst.inst c.in_ok-inst.ensures.ok c.in_ok-inst.ensures.number in
    let edges : c.branch_destination.result.now ≡ destinations c.args.shape = c.branch_destination.ensures ∙ ap destinations (c.inst_data.ensures.exact ∙ node.0) in
    subst (λ (s : SsaState). is_yes (sealed_of s b) ≡ false) (sym (c.set_status.ensures.ssa ∙ c.begin_block.ensures.ssa))
    (lead_unsealed c.args.func.now c.args.ctx.now (destinations c.args.shape) c.requires.edges b (subst (λ (es : List BlockCall). Contains (targets es) b) edges here))

pub declare_successors-requires-clause-new_branch :
    goal.declare_successors-requires-clause-new_branch
declare_successors-requires-clause-new_branch c =
    let named : NamesExist c.begin_block.new.func c.set_status.new.self.ssa =
    named_still c.begin_block.new.ctx.ssa c.set_status.new.self.ssa c.begin_block.new.func c.set_status.ensures.ssa (c.begin_block.ensures.names c.requires.named) in
    new_leads_nowhere c.begin_block.new.func c.set_status.new.self.ssa c.in_ok-inst.inst named (omega (arith, c.in_ok-inst.ensures.number))

pub returns-in_err-declare_successors-clause-ssa :
    goal.returns-in_err-declare_successors-clause-ssa
returns-in_err-declare_successors-clause-ssa c = λ plain.
    let node = inserted_node c.begin_block.new.func c.insert_inst.new.self c.args.block Back c.args.shape (types_of_results c.begin_block.new.func.tables c.args.shape c.args.ctrl_type) c.args.srcloc c.in_ok-inst.inst c.in_ok-inst.ensures.ok c.in_ok-inst.ensures.number in
    let edges : c.branch_destination.result.now ≡ destinations c.args.shape = c.branch_destination.ensures ∙ ap destinations (c.inst_data.ensures.exact ∙ node.0) in
    c.declare_successors.ensures.none (edges ∙ none_of_plain c.args.shape plain) ∙ c.set_status.ensures.ssa ∙ c.begin_block.ensures.ssa

pub returns-in_err-declare_successors-clause-names :
    goal.returns-in_err-declare_successors-clause-names
returns-in_err-declare_successors-clause-names c =
    let node = inserted_node c.begin_block.new.func c.insert_inst.new.self c.args.block Back c.args.shape (types_of_results c.begin_block.new.func.tables c.args.shape c.args.ctrl_type) c.args.srcloc c.in_ok-inst.inst c.in_ok-inst.ensures.ok c.in_ok-inst.ensures.number in
    c.declare_successors.ensures.names c.insert_inst.new.self node.1 (named_still c.begin_block.new.ctx.ssa c.set_status.new.self.ssa c.insert_inst.new.self c.set_status.ensures.ssa
    (names_appended c.insert_inst.result c.begin_block.new.func c.insert_inst.new.self c.begin_block.new.ctx.ssa c.args.block Back c.args.shape (types_of_results c.begin_block.new.func.tables c.args.shape c.args.ctrl_type) c.args.srcloc
    c.insert_inst.ensures.ok c.insert_inst.ensures.err (c.begin_block.ensures.names c.requires.named)))

pub returns-clause-declares : goal.returns-clause-declares
returns-clause-declares c =
    let inst : ℕ = c.in_ok-inst.inst in
    let node = inserted_node c.begin_block.new.func c.insert_inst.new.self c.args.block Back c.args.shape (types_of_results c.begin_block.new.func.tables c.args.shape c.args.ctrl_type) c.args.srcloc inst c.in_ok-inst.ensures.ok c.in_ok-inst.ensures.number in
    elim c.if-ends.branch [
      | then-ends+in_ok-set_status+in_ok-declare_successors w ↦
          let edges : w.branch_destination.result.now ≡ destinations c.args.shape = w.branch_destination.ensures ∙ ap destinations (w.inst_data.ensures.exact ∙ node.0) in
          subst (λ (d : ContextState). IsDeclared c.args.ctx.now.ssa inst (targets (destinations c.args.shape)) d.ssa) (sym w.ctx-is)
          (subst (λ (s : SsaState). IsDeclared s inst (targets (destinations c.args.shape)) w.declare_successors.new.self.ssa) (w.set_status.ensures.ssa ∙ c.begin_block.ensures.ssa)
          (subst (λ (es : List BlockCall). IsDeclared w.set_status.new.self.ssa inst (targets es) w.declare_successors.new.self.ssa) edges w.in_ok-declare_successors.ensures.ok))
      | else-ends w ↦
          let none : destinations c.args.shape ≡ [] = none_of_inner c.args.shape (sym c.is_terminator-ends.ensures ∙ w.if-ends.false) in
          subst (λ (d : ContextState). IsDeclared c.args.ctx.now.ssa inst (targets (destinations c.args.shape)) d.ssa) (sym w.ctx-is)
          (subst (λ (t : SsaState). IsDeclared c.args.ctx.now.ssa inst (targets (destinations c.args.shape)) t) (sym c.begin_block.ensures.ssa)
          (subst (λ (es : List BlockCall). IsDeclared c.args.ctx.now.ssa inst (targets es) c.args.ctx.now.ssa) (sym none) (declared_none c.args.ctx.now.ssa inst)))
    ]

pub returns-clause-ssa : goal.returns-clause-ssa
returns-clause-ssa c = λ plain.
    let node = inserted_node c.begin_block.new.func c.insert_inst.new.self c.args.block Back c.args.shape (types_of_results c.begin_block.new.func.tables c.args.shape c.args.ctrl_type) c.args.srcloc c.in_ok-inst.inst c.in_ok-inst.ensures.ok c.in_ok-inst.ensures.number in
    elim c.if-ends.branch [
      | then-ends+in_ok-set_status+in_ok-declare_successors w ↦
          let edges : w.branch_destination.result.now ≡ destinations c.args.shape = w.branch_destination.ensures ∙ ap destinations (w.inst_data.ensures.exact ∙ node.0) in
          ap (λ (d : ContextState). d.ssa) w.ctx-is ∙ w.declare_successors.ensures.none (edges ∙ none_of_plain c.args.shape plain) ∙ w.set_status.ensures.ssa ∙ c.begin_block.ensures.ssa
      | else-ends w ↦ ap (λ (d : ContextState). d.ssa) w.ctx-is ∙ c.begin_block.ensures.ssa
    ]

pub returns-clause-names : goal.returns-clause-names
returns-clause-names c =
    let node = inserted_node c.begin_block.new.func c.insert_inst.new.self c.args.block Back c.args.shape (types_of_results c.begin_block.new.func.tables c.args.shape c.args.ctrl_type) c.args.srcloc c.in_ok-inst.inst c.in_ok-inst.ensures.ok c.in_ok-inst.ensures.number in
    let named : NamesExist c.insert_inst.new.self c.begin_block.new.ctx.ssa =
    names_appended c.insert_inst.result c.begin_block.new.func c.insert_inst.new.self c.begin_block.new.ctx.ssa c.args.block Back c.args.shape (types_of_results c.begin_block.new.func.tables c.args.shape c.args.ctrl_type) c.args.srcloc
    c.insert_inst.ensures.ok c.insert_inst.ensures.err (c.begin_block.ensures.names c.requires.named) in
    elim c.if-ends.branch [
      | then-ends+in_ok-set_status+in_ok-declare_successors w ↦
          subst (λ (d : ContextState). NamesExist c.insert_inst.new.self d.ssa) (sym w.ctx-is)
          (w.declare_successors.ensures.names c.insert_inst.new.self node.1 (named_still c.begin_block.new.ctx.ssa w.set_status.new.self.ssa c.insert_inst.new.self w.set_status.ensures.ssa named))
      | else-ends w ↦ subst (λ (d : ContextState). NamesExist c.insert_inst.new.self d.ssa) (sym w.ctx-is) named
    ]
