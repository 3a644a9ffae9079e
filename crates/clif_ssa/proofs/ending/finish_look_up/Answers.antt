use Rattle.std.proofs.Common.{rules, ◌≡◌, ◌++◌}
use Rattle.std.specs.Option.{option_to_list}
use Rattle.clif_records.proofs.RecordLaws.{on_ok}
use Rattle.clif_ssa.proofs.Finished.{finishes}
use Rattle.clif_ssa.proofs.ending.finish_look_up.Goals as goal

pub returns-clause-ok : goal.returns-clause-ok
returns-clause-ok c = λ s same.
    on_ok c.push_result.result _ _
    (λ pushed.
    let told : c.tell_zero.new.self ≡ record c.args.look_up.now { zeros = c.args.look_up.now.zeros ++ option_to_list c.in_ok-ending.ending.zero } = search rules in
    finishes c.args.func.now c.end_or_stay.new.func s c.args.look_up.now c.tell_zero.new.self c.drop_results.new.self c.push_result.new.self c.args.predecessors.now c.last_results.result.now
    c.args.param c.args.block c.in_ok-ending.ending.value (option_to_list c.in_ok-ending.ending.zero)
    same c.requires.count c.last_results.ensures c.in_ok-ending.ensures.ends told c.drop_results.ensures pushed)
    c.push_result.ensures.ok
