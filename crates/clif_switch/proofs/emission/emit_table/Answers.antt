-- The table stands before the code that comes to the index, and serves the branch behind it.
use Rattle.std.proofs.Common.{◌≡◌, ◌≤◌, ◌+◌, ℕ, suc, List, [], ◌∷◌, ◌++◌, length, map, sym, ◌∙◌, ap, subst, arith, append_assoc}
use Rattle.std.specs.Prelude.{All, Err, Ok}
use Rattle.std.proofs.lemmas.List.{length-map}
use Rattle.clif_instructions.specs.declared.block_call.BlockCall.{BlockCall}
use Rattle.clif_ir.specs.Body.{Body}
use Rattle.clif_meaning.specs.Acceptance.{table_branch}
use Rattle.clif_meaning.specs.Instruction.{Instruction}
use Rattle.clif_meaning.specs.Name.{Name, answer_of}
use Rattle.clif_meaning.specs.Request.{Build, MakeJumpTable, Request, ServedBy, Script}
use Rattle.clif_builder.specs.Ledger.{NamesEdges}
use Rattle.clif_expansion.specs.Emission.{building}
use Rattle.clif_switch_calls.specs.SwitchCalls.{answers_of, bare_edge, difference, difference_name, index_calls, index_name, table_targets}
use Rattle.clif_switch.specs.Emission.{MayLead, NamesAnswer, StandsOn, bare_to, difference_calls, difference_named, next_place, tables_at}
use Rattle.clif_switch.proofs.Emitted.{fails_then}
use Rattle.clif_switch.proofs.Names.{on_then}
use Rattle.clif_switch.proofs.Numbers.{place_after}
use Rattle.clif_switch.proofs.Serving.{all_lead, all_lead_on, held_is_table, may_serve, served, served_fails, table_ends, table_leaves, table_then}
use Rattle.clif_switch.proofs.Steps.{leaves_on, may_lead_on, steps_ok, steps_on}
use Rattle.clif_switch.proofs.Tables.{all_edges, edge_requests, table_branch_made, table_length, table_stood}
use Rattle.clif_switch.proofs.Values.{done}
use Rattle.clif_builder.proofs.Adding.{adds_err, adds_ok}
use Rattle.clif_switch_calls.specs.SwitchSizes.{so_many}
use Rattle.clif_switch.proofs.Sized.{fewer_many, served_many, then_many}
use Rattle.clif_switch.proofs.emission.emit_table.Goals as goal

pub br_table-requires-clause-serves : goal.br_table-requires-clause-serves
br_table-requires-clause-serves g c =
    let edges : List BlockCall = map bare_to (c.args.switched.otherwise ∷ c.as_slice.result.now) in
    let table = c.in_ok-table.ensures.made in
    let place = c.in_ok-place.ensures.gives in
    let index = c.in_ok-index.ensures.gives in
    let first = table_leaves edges c.args.bx.now c.jump_table.new.bx c.in_ok-table.table table in
    let two = leaves_on c.args.bx.now c.jump_table.new.bx c.emit_difference.new.bx table.steps.grows.2 first place.leaves in
    let grown : length c.args.bx.now.func.now.blocks ≤ length c.emit_difference.new.bx.func.now.blocks = let a = table.steps.grows.2 in let b = place.steps.grows.2 in omega (arith, a, b) in
    let leaves = leaves_on c.args.bx.now c.emit_difference.new.bx c.emit_index.new.bx grown two index.leaves in
    let more : length c.args.bx.now.func.now.blocks ≤ length c.emit_index.new.bx.func.now.blocks = let a = index.steps.grows.2 in omega (arith, grown, a) in
    let tables = table_then c.args.bx.now c.emit_difference.new.bx c.emit_index.new.bx edges
    (table_then c.args.bx.now c.jump_table.new.bx c.emit_difference.new.bx edges (ap (λ (f : Body). f.tables.jump_tables) table.function) place.tables) index.tables in
    may_serve c.args.bx.now c.emit_index.new.bx c.in_ok-table.table c.args.switched.otherwise c.as_slice.result.now table.number tables
    (all_lead c.emit_index.new.bx c.args.switched.otherwise c.as_slice.result.now (may_lead_on c.args.bx.now c.emit_index.new.bx c.args.switched.otherwise more leaves c.requires.switched.otherwise)
    (all_lead_on c.args.bx.now c.emit_index.new.bx c.as_slice.result.now more leaves (subst (All (MayLead c.args.bx.now)) (sym c.as_slice.ensures.value) c.requires.leads)))

pub returns-clause-ends : goal.returns-clause-ends
returns-clause-ends g c =
    let edges : List BlockCall = map bare_to (c.args.switched.otherwise ∷ c.as_slice.result.now) in
    let table = c.in_ok-table.ensures.made in
    let place = c.in_ok-place.ensures.gives in
    let index = c.in_ok-index.ensures.gives in
    let first = table_leaves edges c.args.bx.now c.jump_table.new.bx c.in_ok-table.table table in
    let two = leaves_on c.args.bx.now c.jump_table.new.bx c.emit_difference.new.bx table.steps.grows.2 first place.leaves in
    let grown : length c.args.bx.now.func.now.blocks ≤ length c.emit_difference.new.bx.func.now.blocks = let a = table.steps.grows.2 in let b = place.steps.grows.2 in omega (arith, a, b) in
    let leaves = leaves_on c.args.bx.now c.emit_difference.new.bx c.emit_index.new.bx grown two index.leaves in
    let tables = table_then c.args.bx.now c.emit_difference.new.bx c.emit_index.new.bx edges
    (table_then c.args.bx.now c.jump_table.new.bx c.emit_difference.new.bx edges (ap (λ (f : Body). f.tables.jump_tables) table.function) place.tables) index.tables in
    let steps = steps_on c.args.bx.now c.jump_table.new.bx c.emit_difference.new.bx c.in_ok-table.table done table.steps (steps_ok c.jump_table.new.bx c.emit_difference.new.bx c.in_ok-place.place (tt {0}) place.steps) in
    let whole = steps_on c.args.bx.now c.emit_difference.new.bx c.emit_index.new.bx (tt {0}) done steps (steps_ok c.emit_difference.new.bx c.emit_index.new.bx c.in_ok-index.index (tt {0}) index.steps) in
    let is = served c.emit_index.new.bx c.br_table.new.self c.in_ok-table.table c.in_ok-index.index c.in_ok-br_table.field-0 c.in_ok-br_table.ensures.built in
    table_ends c.args.bx.now c.emit_index.new.bx is.between c.br_table.new.self c.in_ok-table.table c.in_ok-br_table.field-0 c.in_ok-index.index edges is.held index.current whole leaves tables table.number is.takes is.builds

pub returns-in_err-br_table-clause-ends : goal.returns-in_err-br_table-clause-ends
returns-in_err-br_table-clause-ends g c =
    let table = c.in_ok-table.ensures.made in
    let steps = steps_on c.args.bx.now c.jump_table.new.bx c.emit_difference.new.bx c.in_ok-table.table done table.steps
    (steps_ok c.jump_table.new.bx c.emit_difference.new.bx c.in_ok-place.place (tt {0}) c.in_ok-place.ensures.gives.steps) in
    let whole = steps_on c.args.bx.now c.emit_difference.new.bx c.emit_index.new.bx (tt {0}) done steps
    (steps_ok c.emit_difference.new.bx c.emit_index.new.bx c.in_ok-index.index (tt {0}) c.in_ok-index.ensures.gives.steps) in
    fails_then 1 c.args.bx.now c.emit_index.new.bx c.br_table.new.self c.from_residual-in_err-br_table.result c.in_err-br_table.field-0.0 whole
    (served_fails c.emit_index.new.bx c.br_table.new.self c.in_ok-table.table c.in_ok-index.index c.in_err-br_table.field-0.0 c.in_err-br_table.ensures.built) c.from_residual-in_err-br_table.ensures.1

pub returns-clause-made : goal.returns-clause-made
returns-clause-made g c = λ signature calls s cases plain at are.
    let reads = c.ledger_is_read_by_number.ensures in
    let law = c.table_calls_add_nothing.ensures in
    let items : List ℕ = c.args.range.now.blocks.items in
    let table = c.in_ok-table.ensures.made in
    let held_edges : List BlockCall = map bare_to (c.args.switched.otherwise ∷ c.as_slice.result.now) in
    let place : ℕ = next_place calls plain in
    let targets : List Name = table_targets s c.args.range.now in
    let request : Request = MakeJumpTable (answer_of place 0) (answers_of (suc place) (length items)) in
    let first : Script = edge_requests targets ++ request ∷ [] in
    let behind : ℕ = place + suc (length targets) in
    let one : StandsOn at first c.jump_table.new.bx = table_stood reads law at c.jump_table.new.bx table.stands targets (answer_of place 0) (answers_of (suc place) (length items)) in
    let there : next_place calls (plain ++ first) ≡ behind = place_after calls plain first ∙ ap (λ (n : ℕ). place + n) (table_length targets request) in
    let two : NamesAnswer one.later (difference_calls c.args.range.now.first s behind) c.emit_difference.new.bx (difference_named c.args.range.now.first s behind) c.in_ok-place.place =
    subst (λ (p : ℕ). NamesAnswer one.later (difference_calls c.args.range.now.first s p) c.emit_difference.new.bx (difference_named c.args.range.now.first s p) c.in_ok-place.place) there
    (c.in_ok-place.ensures.made signature calls s cases (plain ++ first) one.later) in
    let line : List (Instruction Name Name) = difference s.ty c.args.range.now.first behind s.value in
    let name : Name = difference_name s.ty c.args.range.now.first behind s.value in
    let next : next_place calls ((plain ++ first) ++ map building line) ≡ behind + length line =
    place_after calls (plain ++ first) (map building line) ∙ ap (λ (p : ℕ). p + length (map building line)) there ∙ ap (λ (n : ℕ). behind + n) (length-map line building) in
    let three : NamesAnswer two.on.later (index_calls s (behind + length line) name) c.emit_index.new.bx (index_name s (behind + length line) name) c.in_ok-index.index =
    subst (λ (p : ℕ). NamesAnswer two.on.later (index_calls s p name) c.emit_index.new.bx (index_name s p name) c.in_ok-index.index) next
    (c.in_ok-index.ensures.made signature calls s cases ((plain ++ first) ++ map building line) two.on.later name two.named) in
    let is = served c.emit_index.new.bx c.br_table.new.self c.in_ok-table.table c.in_ok-index.index c.in_ok-br_table.field-0 c.in_ok-br_table.ensures.built in
    let tables = table_then c.args.bx.now c.emit_difference.new.bx c.emit_index.new.bx held_edges
    (table_then c.args.bx.now c.jump_table.new.bx c.emit_difference.new.bx held_edges (ap (λ (f : Body). f.tables.jump_tables) table.function) c.in_ok-place.ensures.gives.tables) c.in_ok-index.ensures.gives.tables in
    let held : is.held ≡ map bare_to (c.args.switched.otherwise ∷ items) =
    held_is_table c.args.bx.now c.emit_index.new.bx is.between c.in_ok-table.table held_edges is.held table.number tables is.takes
    ∙ ap (λ (list : List ℕ). map bare_to (c.args.switched.otherwise ∷ list)) c.as_slice.ensures.value in
    let named : NamesEdges (calls ++ three.on.later.added) (map bare_edge targets) is.held =
    subst (NamesEdges (calls ++ three.on.later.added) (map bare_edge targets)) (sym held) (all_edges reads law three.on.later items are) in
    let four = table_branch_made reads law three.on.later is.between c.br_table.new.self (index_name s (behind + length line) name) c.in_ok-index.index (tables_at at) c.in_ok-br_table.field-0 c.in_ok-table.table (map bare_edge targets) is.held
    three.named named is.takes.sets.stands is.builds in
    let branch : Request = Build (ServedBy (tables_at at) ∷ []) (table_branch (index_name s (behind + length line) name) (map bare_edge targets)) in
    let indices : Script = index_calls s (behind + length line) name in
    let made : Script = map building line in
    let rest : Script = indices ++ branch ∷ [] in
    subst (λ (script : Script). StandsOn at script c.br_table.new.self)
    (append_assoc (edge_requests targets) (request ∷ []) (made ++ rest) ∙ sym (append_assoc (edge_requests targets) (request ∷ made) rest) ∙ sym (append_assoc (edge_requests targets ++ request ∷ made) indices (branch ∷ [])))
    (on_then at first (made ++ rest) c.br_table.new.self one
    (on_then one.later made rest c.br_table.new.self two.on (on_then two.on.later indices (branch ∷ []) c.br_table.new.self three.on four)))

-- SIZES -------------------------------------------------------------------------------------------------------------------

pub returns-in_err-table-clause-most : goal.returns-in_err-table-clause-most
returns-in_err-table-clause-most g c =
    adds_err {A = ℕ} (so_many 8 10 1 1) c.args.bx.now c.jump_table.new.bx c.in_err-table.field-0.0 c.from_residual.result c.from_residual.ensures.1
    (fewer_many 0 0 0 1 8 10 1 1 c.args.bx.now c.jump_table.new.bx (Err c.in_err-table.field-0.0) (omega arith) (omega arith) (omega arith) (omega arith) c.in_err-table.ensures.most)

pub returns-in_err-place-clause-most : goal.returns-in_err-place-clause-most
returns-in_err-place-clause-most g c =
    adds_err {A = ℕ} (so_many 8 10 1 1) c.args.bx.now c.emit_difference.new.bx c.in_err-place.field-0.0 c.from_residual-in_err-place.result c.from_residual-in_err-place.ensures.1
    (fewer_many 4 4 0 1 8 10 1 1 c.args.bx.now c.emit_difference.new.bx (Err c.in_err-place.field-0.0) (omega arith) (omega arith) (omega arith) (omega arith)
    (then_many 0 0 0 1 4 4 0 0 c.args.bx.now c.jump_table.new.bx c.emit_difference.new.bx c.in_ok-table.table (Err c.in_err-place.field-0.0) c.in_ok-table.ensures.most c.in_err-place.ensures.most))

pub returns-in_err-index-clause-most : goal.returns-in_err-index-clause-most
returns-in_err-index-clause-most g c =
    adds_err {A = ℕ} (so_many 8 10 1 1) c.args.bx.now c.emit_index.new.bx c.in_err-index.field-0.0 c.from_residual-in_err-index.result c.from_residual-in_err-index.ensures.1
    (fewer_many 8 9 1 1 8 10 1 1 c.args.bx.now c.emit_index.new.bx (Err c.in_err-index.field-0.0) (omega arith) (omega arith) (omega arith) (omega arith)
    (then_many 4 4 0 1 4 5 1 0 c.args.bx.now c.emit_difference.new.bx c.emit_index.new.bx c.in_ok-place.place (Err c.in_err-index.field-0.0)
    (then_many 0 0 0 1 4 4 0 0 c.args.bx.now c.jump_table.new.bx c.emit_difference.new.bx c.in_ok-table.table (Ok c.in_ok-place.place) c.in_ok-table.ensures.most c.in_ok-place.ensures.most) c.in_err-index.ensures.most))

pub returns-in_err-br_table-clause-most : goal.returns-in_err-br_table-clause-most
returns-in_err-br_table-clause-most g c =
    adds_err {A = ℕ} (so_many 8 10 1 1) c.args.bx.now c.br_table.new.self c.in_err-br_table.field-0.0 c.from_residual-in_err-br_table.result c.from_residual-in_err-br_table.ensures.1
    (then_many 8 9 1 1 0 1 0 0 c.args.bx.now c.emit_index.new.bx c.br_table.new.self c.in_ok-index.index (Err c.in_err-br_table.field-0.0)
    (then_many 4 4 0 1 4 5 1 0 c.args.bx.now c.emit_difference.new.bx c.emit_index.new.bx c.in_ok-place.place (Ok c.in_ok-index.index)
    (then_many 0 0 0 1 4 4 0 0 c.args.bx.now c.jump_table.new.bx c.emit_difference.new.bx c.in_ok-table.table (Ok c.in_ok-place.place) c.in_ok-table.ensures.most c.in_ok-place.ensures.most) c.in_ok-index.ensures.most)
    (served_many c.emit_index.new.bx c.br_table.new.self c.in_ok-table.table c.in_ok-index.index (Err c.in_err-br_table.field-0.0) c.in_ok-index.ensures.gives.current c.in_err-br_table.ensures.built))

pub returns-clause-most : goal.returns-clause-most
returns-clause-most g c =
    adds_ok (so_many 8 10 1 1) c.args.bx.now c.br_table.new.self c.in_ok-br_table.field-0 (tt {0})
    (then_many 8 9 1 1 0 1 0 0 c.args.bx.now c.emit_index.new.bx c.br_table.new.self c.in_ok-index.index (Ok c.in_ok-br_table.field-0)
    (then_many 4 4 0 1 4 5 1 0 c.args.bx.now c.emit_difference.new.bx c.emit_index.new.bx c.in_ok-place.place (Ok c.in_ok-index.index)
    (then_many 0 0 0 1 4 4 0 0 c.args.bx.now c.jump_table.new.bx c.emit_difference.new.bx c.in_ok-table.table (Ok c.in_ok-place.place) c.in_ok-table.ensures.most c.in_ok-place.ensures.most) c.in_ok-index.ensures.most)
    (served_many c.emit_index.new.bx c.br_table.new.self c.in_ok-table.table c.in_ok-index.index (Ok c.in_ok-br_table.field-0) c.in_ok-index.ensures.gives.current c.in_ok-br_table.ensures.built))
