-- Blocks are made for other nodes, and a branch behind them.
use Rattle.std.proofs.Common.{◌≡◌, ◌<◌, ◌+◌, ℕ, suc, List, [], ◌∷◌, ◌++◌, length, refl, sym, ◌∙◌, subst, arith, append_assoc}
use Rattle.std.specs.Prelude.{All, Contains, Err, Ok, OnOk, Result, slice_index_or}
use Rattle.std.specs.List.{AllZip}
use Rattle.std.proofs.lemmas.Grind.{get_or_default_zero}
use Rattle.clif_types.specs.declared.condcodes.IntCC.TheVariants.{UnsignedGreaterThanOrEqual}
use Rattle.clif_types.specs.declared.error.BuildError.{BuildError}
use Rattle.clif_inst_builder.specs.Shapes as shapes
use Rattle.clif_ranges.specs.Search.{named_by, number_of}
use Rattle.clif_ranges.specs.declared.search.Test.{Test}
use Rattle.clif_meaning.specs.Name.{Name, answer_of}
use Rattle.clif_meaning.specs.Request.{CreateBlock, Script}
use Rattle.clif_builder.specs.Ledger.{NamesBlock}
use Rattle.clif_switch_calls.specs.SwitchCalls.{block_for, blocks_of, compared, first_block, name_for, other_of, tables_of, test_calls}
use Rattle.clif_switch.specs.Emission.{AddsBlocks, EndsBlock, HasItsBlock, NamesTarget, StandsOn, cases_in, key_calls, next_place, tables_at}
use Rattle.clif_switch.proofs.Blocks.{ends_by, stays_went}
use Rattle.clif_switch.proofs.Names.{long}
use Rattle.clif_switch.proofs.Numbers.{one_after, place_after}
use Rattle.clif_switch.proofs.Targets.{zip_more}
use Rattle.clif_switch.proofs.Tests.{adds_ended, adds_push, ends_behind, jump_made, names_after, names_then, same_after}
use Rattle.clif_switch.proofs.Values.{done, went_then}
use Rattle.clif_builder.specs.Adding.{AddsAtMost}
use Rattle.clif_builder.proofs.Adding.{adds_err, adds_ok}
use Rattle.clif_switch_calls.specs.SwitchSizes.{so_many, test_makes}
use Rattle.clif_switch.proofs.Sized.{built_many, fewer_many, then_many}
use Rattle.clif_switch.proofs.emission.emit_test.Goals as goal

pub returns-in_ok-jump-in-Nothing-clause-ends : goal.returns-in_ok-jump-in-Nothing-clause-ends
returns-in_ok-jump-in-Nothing-clause-ends g c =
    subst (λ (t : Test). EndsBlock {A = Unit {0}} (tables_of t) c.args.bx.now c.jump.new.self done) (sym c.in-Nothing.is)
    (ends_by c.args.bx.now c.jump.new.self _ _ c.in_ok-jump-in-Nothing.field-0 refl c.requires.current c.in_ok-jump-in-Nothing.ensures.built)

pub returns-in_ok-jump-in-Nothing-clause-made : goal.returns-in_ok-jump-in-Nothing-clause-made
returns-in_ok-jump-in-Nothing-clause-made g c = λ signature calls s cases plain at names needs zip.
    let r : Result (Unit {0}) BuildError = Ok tt in
    subst (λ (t : Test). OnOk r ((on : StandsOn at (test_calls s (tables_at at) t (next_place calls plain)) c.jump.new.self)
    × AllZip (NamesBlock (calls ++ on.later.added)) (names ++ blocks_of t (next_place calls plain)) c.args.blocks.now.items)) (sym c.in-Nothing.is)
    (same_after at _ c.jump.new.self names c.args.blocks.now.items r zip
    (jump_made at c.ledger_is_read_by_number.ensures c.requests_ask_for_their_shapes.ensures c.jump.new.self s.otherwise c.args.switched.otherwise c.in_ok-jump-in-Nothing.field-0 at.otherwise_named c.in_ok-jump-in-Nothing.ensures.built))

pub returns-in_ok-other-in-OneKey-clause-ends : goal.returns-in_ok-other-in-OneKey-clause-ends
returns-in_ok-other-in-OneKey-clause-ends g c =
    subst (λ (t : Test). EndsBlock {A = Unit {0}} (tables_of t) c.args.bx.now c.branch_on_key.new.bx c.branch_on_key.result) (sym c.in-OneKey.is)
    (ends_behind 0 c.args.bx.now c.block_for.new.bx c.branch_on_key.new.bx c.branch_on_key.result
    (stays_went c.args.bx.now c.block_for.new.bx c.in_ok-other-in-OneKey.other c.in_ok-other-in-OneKey.ensures.here) c.branch_on_key.ensures.ends)

pub returns-in_ok-other-in-OneKey-clause-blocks : goal.returns-in_ok-other-in-OneKey-clause-blocks
returns-in_ok-other-in-OneKey-clause-blocks g c =
    subst (λ (t : Test). OnOk c.branch_on_key.result (AddsBlocks (length (named_by t)) c.args.bx.now c.branch_on_key.new.bx c.args.blocks.now.items c.block_for.new.blocks.items)) (sym c.in-OneKey.is)
    (adds_ended (length (number_of c.in-OneKey.other)) 0 c.args.bx.now c.block_for.new.bx c.branch_on_key.new.bx c.args.blocks.now.items c.block_for.new.blocks.items c.branch_on_key.result c.requires.current
    (stays_went c.args.bx.now c.block_for.new.bx c.in_ok-other-in-OneKey.other c.in_ok-other-in-OneKey.ensures.here) c.branch_on_key.ensures.ends c.in_ok-other-in-OneKey.ensures.blocks)

pub returns-in_ok-other-in-OneKey-clause-made : goal.returns-in_ok-other-in-OneKey-clause-made
returns-in_ok-other-in-OneKey-clause-made g c = λ signature calls s cases plain at names needs zip.
    let place : ℕ = next_place calls plain in
    let target = c.in_ok-other-in-OneKey.ensures.made signature calls s cases plain at names zip in
    let filled : 0 < length c.in-OneKey.range.now.blocks.items = subst HasItsBlock c.in-OneKey.is c.requires.filled in
    let there : Contains cases (slice_index_or c.in-OneKey.range.now.blocks.items 0 0) = (subst (λ (t : Test). All (Contains cases) (cases_in t)) c.in-OneKey.is needs) 0 0 filled in
    let is_first : slice_index_or c.in-OneKey.range.now.blocks.items 0 0 ≡ c.index.result.now = sym (c.index.ensures ∙ get_or_default_zero c.in-OneKey.range.now.blocks.items 0 c.index.result.now filled) in
    let named : NamesBlock (calls ++ target.0.on.later.added) (first_block s c.in-OneKey.range.now) c.index.result.now =
    subst (λ (block : ℕ). NamesBlock (calls ++ target.0.on.later.added) (first_block s c.in-OneKey.range.now) block) is_first
    (target.0.on.later.cases_named (slice_index_or c.in-OneKey.range.now.blocks.items 0 0) there) in
    let made : Script = block_for c.in-OneKey.other in
    let other : Name = name_for s c.in-OneKey.other place in
    let key : ℕ = c.in-OneKey.range.now.first in
    let first : Name = first_block s c.in-OneKey.range.now in
    let line : Script = key_calls s key (place + length made) first other in
    let all : List Name = names ++ other_of c.in-OneKey.other place in
    let branch = subst (λ (p : ℕ). OnOk c.branch_on_key.result (StandsOn target.0.on.later (key_calls s key p first other) c.branch_on_key.new.bx)) (place_after calls plain made)
    (c.branch_on_key.ensures.made signature calls s cases (plain ++ made) target.0.on.later first other named target.0.named) in
    subst (λ (t : Test). OnOk c.branch_on_key.result ((on : StandsOn at (test_calls s (tables_at at) t place) c.branch_on_key.new.bx)
    × AllZip (NamesBlock (calls ++ on.later.added)) (names ++ blocks_of t place) c.block_for.new.blocks.items)) (sym c.in-OneKey.is)
    (names_then at made line c.block_for.new.bx c.branch_on_key.new.bx all c.block_for.new.blocks.items c.branch_on_key.result target.0.on
    (names_after target.0.on.later line c.branch_on_key.new.bx all c.block_for.new.blocks.items c.branch_on_key.result target.1 branch))

pub returns-in_ok-above-in-NotBelow-clause-ends : goal.returns-in_ok-above-in-NotBelow-clause-ends
returns-in_ok-above-in-NotBelow-clause-ends g c =
    subst (λ (t : Test). EndsBlock {A = Unit {0}} (tables_of t) c.args.bx.now c.branch_on.new.bx c.branch_on.result) (sym c.in-NotBelow.is)
    (ends_behind 0 c.args.bx.now c.new_block.new.bx c.branch_on.new.bx c.branch_on.result
    (went_then c.args.bx.now c.block_for-in-NotBelow.new.bx c.new_block.new.bx
    (stays_went c.args.bx.now c.block_for-in-NotBelow.new.bx c.in_ok-other-in-NotBelow.other c.in_ok-other-in-NotBelow.ensures.here)
    (stays_went c.block_for-in-NotBelow.new.bx c.new_block.new.bx c.in_ok-above-in-NotBelow.above c.in_ok-above-in-NotBelow.ensures.here)) c.branch_on.ensures.ends)

pub returns-in_ok-above-in-NotBelow-clause-blocks : goal.returns-in_ok-above-in-NotBelow-clause-blocks
returns-in_ok-above-in-NotBelow-clause-blocks g c =
    let first = stays_went c.args.bx.now c.block_for-in-NotBelow.new.bx c.in_ok-other-in-NotBelow.other c.in_ok-other-in-NotBelow.ensures.here in
    let next = stays_went c.block_for-in-NotBelow.new.bx c.new_block.new.bx c.in_ok-above-in-NotBelow.above c.in_ok-above-in-NotBelow.ensures.here in
    let numbers : List ℕ = number_of c.in-NotBelow.other in
    subst (λ (t : Test). OnOk c.branch_on.result (AddsBlocks (length (named_by t)) c.args.bx.now c.branch_on.new.bx c.args.blocks.now.items c.new_block.new.blocks.items)) (sym c.in-NotBelow.is)
    (adds_ended (length (numbers ++ c.in-NotBelow.above ∷ [])) 0 c.args.bx.now c.new_block.new.bx c.branch_on.new.bx c.args.blocks.now.items c.new_block.new.blocks.items c.branch_on.result c.requires.current
    (went_then c.args.bx.now c.block_for-in-NotBelow.new.bx c.new_block.new.bx first next) c.branch_on.ensures.ends
    (adds_push (length numbers) (length (numbers ++ c.in-NotBelow.above ∷ [])) c.args.bx.now c.block_for-in-NotBelow.new.bx c.new_block.new.bx c.args.blocks.now.items c.block_for-in-NotBelow.new.blocks.items
    c.new_block.new.blocks.items c.in_ok-above-in-NotBelow.above c.requires.current first next c.in_ok-other-in-NotBelow.ensures.blocks c.in_ok-above-in-NotBelow.ensures.open c.in_ok-above-in-NotBelow.ensures.number.0
    c.in_ok-above-in-NotBelow.ensures.added (let one = long numbers (c.in-NotBelow.above ∷ []) in omega (arith, one))))

pub returns-in_ok-above-in-NotBelow-clause-made : goal.returns-in_ok-above-in-NotBelow-clause-made
returns-in_ok-above-in-NotBelow-clause-made g c = λ signature calls s cases plain at names needs zip.
    let place : ℕ = next_place calls plain in
    let target = c.in_ok-other-in-NotBelow.ensures.made signature calls s cases plain at names zip in
    let made : Script = block_for c.in-NotBelow.other in
    let other : Name = name_for s c.in-NotBelow.other place in
    let more : List Name = other_of c.in-NotBelow.other place in
    let above : Name = answer_of (place + length made) 0 in
    let second = subst (λ (p : ℕ). NamesTarget target.0.on.later (CreateBlock ∷ []) c.new_block.new.bx (answer_of p 0) c.in_ok-above-in-NotBelow.above) (place_after calls plain made)
    (c.in_ok-above-in-NotBelow.ensures.made signature calls s c.args.switched.val c.args.switched.otherwise cases (plain ++ made) target.0.on.later) in
    let behind : next_place calls ((plain ++ made) ++ CreateBlock ∷ []) ≡ place + suc (length made) = let first = place_after calls plain made in let next = one_after calls (plain ++ made) CreateBlock in omega (arith, first, next) in
    let named = zip_more target.0.on.later (names ++ more) c.block_for-in-NotBelow.new.blocks.items target.1 (CreateBlock ∷ []) c.new_block.new.bx above c.in_ok-above-in-NotBelow.above c.new_block.new.blocks.items second c.in_ok-above-in-NotBelow.ensures.added in
    let zipped : AllZip (NamesBlock (calls ++ second.on.later.added)) (names ++ (more ++ above ∷ [])) c.new_block.new.blocks.items =
    subst (λ (list : List Name). AllZip (NamesBlock (calls ++ second.on.later.added)) list c.new_block.new.blocks.items) (append_assoc names more (above ∷ [])) named in
    let all : List Name = names ++ (more ++ above ∷ []) in
    let line : Script = compared s UnsignedGreaterThanOrEqual c.in-NotBelow.first (place + suc (length made)) above other in
    let branch = subst (λ (p : ℕ). OnOk c.branch_on.result (StandsOn second.on.later (compared s UnsignedGreaterThanOrEqual c.in-NotBelow.first p above other) c.branch_on.new.bx)) behind
    (c.branch_on.ensures.made signature calls s cases ((plain ++ made) ++ CreateBlock ∷ []) second.on.later above other second.named (second.on.blocks_stay other c.in_ok-other-in-NotBelow.other target.0.named)) in
    subst (λ (t : Test). OnOk c.branch_on.result ((on : StandsOn at (test_calls s (tables_at at) t place) c.branch_on.new.bx)
    × AllZip (NamesBlock (calls ++ on.later.added)) (names ++ blocks_of t place) c.new_block.new.blocks.items)) (sym c.in-NotBelow.is)
    (names_then at made (CreateBlock ∷ line) c.block_for-in-NotBelow.new.bx c.branch_on.new.bx all c.new_block.new.blocks.items c.branch_on.result target.0.on
    (names_then target.0.on.later (CreateBlock ∷ []) line c.new_block.new.bx c.branch_on.new.bx all c.new_block.new.blocks.items c.branch_on.result second.on
    (names_after second.on.later line c.branch_on.new.bx all c.new_block.new.blocks.items c.branch_on.result zipped branch)))

pub returns-in-Table-clause-made : goal.returns-in-Table-clause-made
returns-in-Table-clause-made g c = λ signature calls s cases plain at names needs zip.
    let here = subst (λ (t : Test). All (Contains cases) (cases_in t)) c.in-Table.is needs in
    subst (λ (t : Test). OnOk c.emit_table.result ((on : StandsOn at (test_calls s (tables_at at) t (next_place calls plain)) c.emit_table.new.bx)
    × AllZip (NamesBlock (calls ++ on.later.added)) (names ++ blocks_of t (next_place calls plain)) c.args.blocks.now.items)) (sym c.in-Table.is)
    (same_after at _ c.emit_table.new.bx names c.args.blocks.now.items c.emit_table.result zip (c.emit_table.ensures.made signature calls s cases plain at here))

-- SIZES -------------------------------------------------------------------------------------------------------------------

pub returns-in_err-jump-in-Nothing-clause-most : goal.returns-in_err-jump-in-Nothing-clause-most
returns-in_err-jump-in-Nothing-clause-most g c =
    subst (λ (t : Test). AddsAtMost (test_makes t) c.args.bx.now c.jump.new.self c.from_residual.result) (sym c.in-Nothing.is)
    (adds_err {A = ℕ} (so_many 0 1 0 0) c.args.bx.now c.jump.new.self c.in_err-jump-in-Nothing.field-0.0 c.from_residual.result c.from_residual.ensures.1
    (built_many c.args.bx.now c.jump.new.self (shapes.jump c.args.switched.otherwise []) _ (Err c.in_err-jump-in-Nothing.field-0.0) refl c.requires.current c.in_err-jump-in-Nothing.ensures.built))

pub returns-in_ok-jump-in-Nothing-clause-most : goal.returns-in_ok-jump-in-Nothing-clause-most
returns-in_ok-jump-in-Nothing-clause-most g c =
    subst (λ (t : Test). AddsAtMost (test_makes t) c.args.bx.now c.jump.new.self done) (sym c.in-Nothing.is)
    (adds_ok (so_many 0 1 0 0) c.args.bx.now c.jump.new.self c.in_ok-jump-in-Nothing.field-0 (tt {0})
    (built_many c.args.bx.now c.jump.new.self (shapes.jump c.args.switched.otherwise []) _ (Ok c.in_ok-jump-in-Nothing.field-0) refl c.requires.current c.in_ok-jump-in-Nothing.ensures.built))

pub returns-in_err-other-in-OneKey-clause-most : goal.returns-in_err-other-in-OneKey-clause-most
returns-in_err-other-in-OneKey-clause-most g c =
    subst (λ (t : Test). AddsAtMost (test_makes t) c.args.bx.now c.block_for.new.bx c.from_residual-in_err-other-in-OneKey.result) (sym c.in-OneKey.is)
    (adds_err {A = ℕ} (so_many 4 5 (length (number_of c.in-OneKey.other)) 0) c.args.bx.now c.block_for.new.bx c.in_err-other-in-OneKey.field-0.0 c.from_residual-in_err-other-in-OneKey.result c.from_residual-in_err-other-in-OneKey.ensures.1
    (fewer_many 0 0 (length (number_of c.in-OneKey.other)) 0 4 5 (length (number_of c.in-OneKey.other)) 0 c.args.bx.now c.block_for.new.bx (Err c.in_err-other-in-OneKey.field-0.0) (omega arith) (omega arith) (omega arith) (omega arith) c.in_err-other-in-OneKey.ensures.most))

pub returns-in_ok-other-in-OneKey-clause-most : goal.returns-in_ok-other-in-OneKey-clause-most
returns-in_ok-other-in-OneKey-clause-most g c =
    subst (λ (t : Test). AddsAtMost (test_makes t) c.args.bx.now c.branch_on_key.new.bx c.branch_on_key.result) (sym c.in-OneKey.is)
    (fewer_many 4 5 (length (number_of c.in-OneKey.other) + 0) 0 4 5 (length (number_of c.in-OneKey.other)) 0 c.args.bx.now c.branch_on_key.new.bx c.branch_on_key.result (omega arith) (omega arith) (omega arith) (omega arith)
    (then_many 0 0 (length (number_of c.in-OneKey.other)) 0 4 5 0 0 c.args.bx.now c.block_for.new.bx c.branch_on_key.new.bx c.in_ok-other-in-OneKey.other c.branch_on_key.result c.in_ok-other-in-OneKey.ensures.most c.branch_on_key.ensures.most))

pub returns-in_err-other-in-NotBelow-clause-most : goal.returns-in_err-other-in-NotBelow-clause-most
returns-in_err-other-in-NotBelow-clause-most g c =
    subst (λ (t : Test). AddsAtMost (test_makes t) c.args.bx.now c.block_for-in-NotBelow.new.bx c.from_residual-in_err-other-in-NotBelow.result) (sym c.in-NotBelow.is)
    (adds_err {A = ℕ} (so_many 4 5 (suc (length (number_of c.in-NotBelow.other))) 0) c.args.bx.now c.block_for-in-NotBelow.new.bx c.in_err-other-in-NotBelow.field-0.0 c.from_residual-in_err-other-in-NotBelow.result
    c.from_residual-in_err-other-in-NotBelow.ensures.1
    (fewer_many 0 0 (length (number_of c.in-NotBelow.other)) 0 4 5 (suc (length (number_of c.in-NotBelow.other))) 0 c.args.bx.now c.block_for-in-NotBelow.new.bx (Err c.in_err-other-in-NotBelow.field-0.0) (omega arith) (omega arith) (omega arith) (omega arith) c.in_err-other-in-NotBelow.ensures.most))

pub returns-in_err-above-in-NotBelow-clause-most : goal.returns-in_err-above-in-NotBelow-clause-most
returns-in_err-above-in-NotBelow-clause-most g c =
    subst (λ (t : Test). AddsAtMost (test_makes t) c.args.bx.now c.new_block.new.bx c.from_residual-in_err-above-in-NotBelow.result) (sym c.in-NotBelow.is)
    (adds_err {A = ℕ} (so_many 4 5 (suc (length (number_of c.in-NotBelow.other))) 0) c.args.bx.now c.new_block.new.bx c.in_err-above-in-NotBelow.field-0.0 c.from_residual-in_err-above-in-NotBelow.result
    c.from_residual-in_err-above-in-NotBelow.ensures.1
    (fewer_many 0 0 (length (number_of c.in-NotBelow.other) + 1) 0 4 5 (suc (length (number_of c.in-NotBelow.other))) 0 c.args.bx.now c.new_block.new.bx (Err c.in_err-above-in-NotBelow.field-0.0) (omega arith) (omega arith) (omega arith) (omega arith)
    (then_many 0 0 (length (number_of c.in-NotBelow.other)) 0 0 0 1 0 c.args.bx.now c.block_for-in-NotBelow.new.bx c.new_block.new.bx c.in_ok-other-in-NotBelow.other (Err c.in_err-above-in-NotBelow.field-0.0) c.in_ok-other-in-NotBelow.ensures.most c.in_err-above-in-NotBelow.ensures.most)))

pub returns-in_ok-above-in-NotBelow-clause-most : goal.returns-in_ok-above-in-NotBelow-clause-most
returns-in_ok-above-in-NotBelow-clause-most g c =
    subst (λ (t : Test). AddsAtMost (test_makes t) c.args.bx.now c.branch_on.new.bx c.branch_on.result) (sym c.in-NotBelow.is)
    (fewer_many 4 5 (length (number_of c.in-NotBelow.other) + 1 + 0) 0 4 5 (suc (length (number_of c.in-NotBelow.other))) 0 c.args.bx.now c.branch_on.new.bx c.branch_on.result (omega arith) (omega arith) (omega arith) (omega arith)
    (then_many 0 0 (length (number_of c.in-NotBelow.other) + 1) 0 4 5 0 0 c.args.bx.now c.new_block.new.bx c.branch_on.new.bx c.in_ok-above-in-NotBelow.above c.branch_on.result
    (then_many 0 0 (length (number_of c.in-NotBelow.other)) 0 0 0 1 0 c.args.bx.now c.block_for-in-NotBelow.new.bx c.new_block.new.bx c.in_ok-other-in-NotBelow.other (Ok c.in_ok-above-in-NotBelow.above) c.in_ok-other-in-NotBelow.ensures.most c.in_ok-above-in-NotBelow.ensures.most)
    c.branch_on.ensures.most))

pub returns-in-Table-clause-most : goal.returns-in-Table-clause-most
returns-in-Table-clause-most g c =
    subst (λ (t : Test). AddsAtMost (test_makes t) c.args.bx.now c.emit_table.new.bx c.emit_table.result) (sym c.in-Table.is) c.emit_table.ensures.most
