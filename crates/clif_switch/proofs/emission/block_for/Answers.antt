-- Control goes to `otherwise`, or to a new block.
use Rattle.std.proofs.Common.{◌++◌, length, sym, subst}
use Rattle.std.specs.Prelude.{IfOk, Ok}
use Rattle.std.specs.List.{AllZip}
use Rattle.clif_ranges.specs.declared.search.Next.{Next}
use Rattle.clif_ranges.specs.Search.{number_of}
use Rattle.clif_builder.specs.Ledger.{NamesBlock}
use Rattle.clif_switch_calls.specs.SwitchCalls.{block_for, name_for, other_of}
use Rattle.clif_switch.specs.Emission.{NamesTarget, next_place}
use Rattle.clif_switch.proofs.Targets.{next_made, next_none}
use Rattle.clif_builder.specs.Adding.{AddsAtMost}
use Rattle.clif_builder.proofs.Adding.{adds_none}
use Rattle.clif_switch_calls.specs.SwitchSizes.{so_many}
use Rattle.clif_switch.proofs.emission.block_for.Goals as goal

pub returns-in-Otherwise-clause-made : goal.returns-in-Otherwise-clause-made
returns-in-Otherwise-clause-made g c = λ signature calls s cases plain at names zip.
    subst (λ (n : Next). (target : NamesTarget at (block_for n) c.args.bx.now (name_for s n (next_place calls plain)) c.args.switched.otherwise)
    × AllZip (NamesBlock (calls ++ target.on.later.added)) (names ++ other_of n (next_place calls plain)) c.args.blocks.now.items) (sym c.in-Otherwise.is)
    (next_none at names c.args.blocks.now.items zip)

pub returns-in-Node-clause-made : goal.returns-in-Node-clause-made
returns-in-Node-clause-made g c = λ signature calls s cases plain at names zip.
    subst (λ (n : Next). IfOk c.new_block.result (λ block. (target : NamesTarget at (block_for n) c.new_block.new.bx (name_for s n (next_place calls plain)) block)
    × AllZip (NamesBlock (calls ++ target.on.later.added)) (names ++ other_of n (next_place calls plain)) c.new_block.new.blocks.items)) (sym c.in-Node.is)
    (next_made at names c.args.blocks.now.items zip c.new_block.new.bx c.new_block.new.blocks.items c.new_block.result c.new_block.ensures.added
    (c.new_block.ensures.made signature calls s c.args.switched.val c.args.switched.otherwise cases plain at))

pub returns-in-Otherwise-clause-most : goal.returns-in-Otherwise-clause-most
returns-in-Otherwise-clause-most g c = adds_none _ c.args.bx.now (Ok c.args.switched.otherwise)

pub returns-in-Node-clause-most : goal.returns-in-Node-clause-most
returns-in-Node-clause-most g c =
    subst (λ (n : Next). AddsAtMost (so_many 0 0 (length (number_of n)) 0) c.args.bx.now c.new_block.new.bx c.new_block.result) (sym c.in-Node.is) c.new_block.ensures.most
