use Rattle.std.proofs.Common.{◌∙◌, ap, inl, sym, length, arith}
use Rattle.clif_ir.specs.Body.{Body}
use Rattle.clif_ssa.proofs.Alike.{zero_ending_exists}
use Rattle.clif_ssa.proofs.Bodies.{param_exists}
use Rattle.clif_ssa.proofs.Constructing.{constructs_same}
use Rattle.clif_ssa.proofs.Constructed.{alias_made, param_is}
use Rattle.clif_ssa.proofs.Counted.{adds_alias, adds_more, adds_same}
use Rattle.clif_ssa.proofs.Zeroing.{alias_count_same}
use Rattle.clif_ssa.proofs.ending.end_look_up.Goals as goal

pub change_param_to_alias-requires-clause-original_exists :
    goal.change_param_to_alias-requires-clause-original_exists
change_param_to_alias-requires-clause-original_exists c = c.in-One.ensures.exists.0

pub change_param_to_alias-requires-clause-apart : goal.change_param_to_alias-requires-clause-apart
change_param_to_alias-requires-clause-apart c = λ same. c.in-One.ensures.exact.other (sym c.in-One.ensures.exists.1 ∙ same)

pub returns-in_ok-change_param_to_alias-in-One-clause-exists :
    goal.returns-in_ok-change_param_to_alias-in-One-clause-exists
returns-in_ok-change_param_to_alias-in-One-clause-exists c =
    let done = c.in_ok-change_param_to_alias-in-One.ensures.ok in
    let count = ap (λ (g : Body). length g.values) done ∙ alias_count_same c.args.func.now c.args.param c.in-One.value in
    omega (arith, count, c.in-One.ensures.exists.0)

pub returns-in_ok-pass_arguments-in-Several-clause-exists :
    goal.returns-in_ok-pass_arguments-in-Several-clause-exists
returns-in_ok-pass_arguments-in-Several-clause-exists c =
    omega (arith, param_exists c.args.func.now c.args.param c.args.home c.requires.is_parameter, c.pass_arguments.ensures.more.values)

pub returns-in_err-change_param_to_alias-in-One-clause-constructs :
    goal.returns-in_err-change_param_to_alias-in-One-clause-constructs
returns-in_err-change_param_to_alias-in-One-clause-constructs c =
    constructs_same c.args.func.now c.change_param_to_alias.new.self c.in_err-change_param_to_alias-in-One.ensures.err

pub returns-in_ok-change_param_to_alias-in-One-clause-constructs :
    goal.returns-in_ok-change_param_to_alias-in-One-clause-constructs
returns-in_ok-change_param_to_alias-in-One-clause-constructs c =
    alias_made c.args.func.now c.change_param_to_alias.new.self c.args.param c.in-One.value c.law_consistent.ensures
    (param_is c.args.func.now c.args.param c.args.home c.requires.is_parameter) c.in_ok-change_param_to_alias-in-One.ensures.ok

pub returns-in-Nothing-clause-exists : goal.returns-in-Nothing-clause-exists
returns-in-Nothing-clause-exists c =
    zero_ending_exists c.args.func.now c.become_zero.new.func c.args.param c.args.home c.become_zero.result c.requires.is_parameter
    c.become_zero.ensures.zero c.become_zero.ensures.answer

-- HOW MUCH IS NEW -------------------------------------------------------------------------------------------------

pub returns-in_err-change_param_to_alias-in-One-clause-at_most : goal.returns-in_err-change_param_to_alias-in-One-clause-at_most
returns-in_err-change_param_to_alias-in-One-clause-at_most c =
    adds_more 0 2 _ _ (omega arith) (adds_same c.args.func.now c.change_param_to_alias.new.self c.in_err-change_param_to_alias-in-One.ensures.err)

pub returns-in_ok-change_param_to_alias-in-One-clause-at_most : goal.returns-in_ok-change_param_to_alias-in-One-clause-at_most
returns-in_ok-change_param_to_alias-in-One-clause-at_most c =
    adds_more 0 2 _ _ (omega arith)
    (adds_alias c.args.func.now c.change_param_to_alias.new.self c.args.param c.in-One.value c.in_ok-change_param_to_alias-in-One.ensures.ok)

pub returns-in_err-pass_arguments-in-Several-clause-at_most : goal.returns-in_err-pass_arguments-in-Several-clause-at_most
returns-in_err-pass_arguments-in-Several-clause-at_most c = adds_more 0 2 _ _ (omega arith) c.pass_arguments.ensures.at_most

pub returns-in_ok-pass_arguments-in-Several-clause-at_most : goal.returns-in_ok-pass_arguments-in-Several-clause-at_most
returns-in_ok-pass_arguments-in-Several-clause-at_most c = adds_more 0 2 _ _ (omega arith) c.pass_arguments.ensures.at_most

-- WHICH CONSTANTS -------------------------------------------------------------------------------------------------

pub returns-in_err-change_param_to_alias-in-One-clause-pools : goal.returns-in_err-change_param_to_alias-in-One-clause-pools
returns-in_err-change_param_to_alias-in-One-clause-pools c = inl (ap (λ (g : Body). g.tables) c.in_err-change_param_to_alias-in-One.ensures.err)

pub returns-in_ok-change_param_to_alias-in-One-clause-pools : goal.returns-in_ok-change_param_to_alias-in-One-clause-pools
returns-in_ok-change_param_to_alias-in-One-clause-pools c = inl (ap (λ (g : Body). g.tables) c.in_ok-change_param_to_alias-in-One.ensures.ok)

pub returns-in_err-pass_arguments-in-Several-clause-pools : goal.returns-in_err-pass_arguments-in-Several-clause-pools
returns-in_err-pass_arguments-in-Several-clause-pools c = inl c.pass_arguments.ensures.tables

pub returns-in_ok-pass_arguments-in-Several-clause-pools : goal.returns-in_ok-pass_arguments-in-Several-clause-pools
returns-in_ok-pass_arguments-in-Several-clause-pools c = inl c.pass_arguments.ensures.tables
