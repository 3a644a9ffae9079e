-- An instruction that succeeds leaves a function that carries it.
use Rattle.std.proofs.Common.{◌≡◌, ◌≢◌, ℕ, zero, suc, ◌+◌, ◌<◌, List, [], ◌∷◌, ◌++◌, length, map, get_or, refl, sym, ◌∙◌, ap, ap₂, subst, arith, Some, None, ◌⊎◌, inl, inr, true, false}
use Rattle.std.specs.Prelude.{slice_get, slice_index, slice_index_or, Contains, IsTrue}
use Rattle.std.proofs.lemmas.Option.{slice_get_within}
use Rattle.std.specs.List.{AllByRecursion}
use Rattle.std.proofs.Math.Decide.{ℕ_discrete}
use Rattle.std.proofs.lemmas.Grind.{common_steps}
use Rattle.std.proofs.lemmas.List.Elements.{Contains-append_left, Contains-push, Contains-push_cases}
use Rattle.clif_types.specs.declared.types.«Type».{«Type»}
use Rattle.clif_instructions.specs.declared.block_call.BlockArg.{BlockArg}
use Rattle.clif_instructions.specs.declared.block_call.BlockCall.{BlockCall}
use Rattle.clif_instructions.specs.declared.insert_at.InsertAt.TheVariants.{Back}
use Rattle.clif_instructions.specs.declared.instructions.InstructionData.{InstructionData}
use Rattle.clif_nodes.specs.declared.nodes.InstNode.{InstNode}
use Rattle.clif_nodes.specs.declared.nodes.ValueNode.{ValueNode}
use Rattle.clif_instructions.specs.Instruction.{contexts, operands, destinations}
use Rattle.clif_instructions.specs.Instruction as shapes
use Rattle.clif_opcodes.specs.Kinds.{result_type}
use Rattle.clif_opcodes.specs.declared.kinds.ResultKind.{ResultKind}
use Rattle.clif_tables.specs.Callees.{given_by_call, types_of, types_of_results}
use Rattle.clif_instructions.specs.Edges.{targets}
use Rattle.clif_tables.specs.Lists.{TableLists}
use Rattle.clif_types.specs.declared.stackmap.UserStackMapEntry.{UserStackMapEntry}
use Rattle.clif_ir.specs.Body.{Body, inst_at}
use Rattle.clif_nodes.specs.Nodes.{BlockNode, no_value}
use Rattle.clif_ir.specs.Consistent.{IsConsistent}
use Rattle.clif_instructions.specs.Members.{Once}
use Rattle.clif_ir.specs.Changes.{inserted_in, inst_node, with_inst}
use Rattle.clif_paths.specs.Places.{inside}
use Rattle.clif_paths.specs.State.{Definition}
use Rattle.clif_paths.specs.Blocks.{Blocks, last_place, with_item}
use Rattle.clif_paths.proofs.Tables.{updated-same, updated-other}
use Rattle.clif_ssa.specs.Own.{Own}
use Rattle.clif_records.specs.Tables.{is_yes}
use Rattle.clif_ssa.specs.Ssa.{SsaState, SameRecords, predecessors_of, sealed_of}
use Rattle.clif_ssa.specs.Sound.{SameProgram, args_of, edge_target, edges_at}
use Rattle.clif_ssa.specs.SoundLaws.{with_all_born, with_entry, with_own, shape_passes, DescribesSoundly, IsOpen}
use Rattle.clif_ssa.specs.Structured.{HasType, Structured, VariableTypes}
use Rattle.clif_ssa.proofs.Bodies.{Firm, firm_from}
use Rattle.clif_ssa.proofs.Completing.{SameButLayout, inserted_same, inserted_firm, entry_same}
use Rattle.clif_ssa.proofs.Entering.{inserted_entry}
use Rattle.clif_ssa.proofs.Instructions.{inst_new, inst_values_count}
use Rattle.clif_ssa.proofs.Owning.{own_described}
use Rattle.clif_ssa.proofs.StructuredLaws.{inserted_structured, instruction_structured}
use Rattle.clif_meaning.specs.Name.{Name, answer_of}
use Rattle.clif_meaning.specs.Instruction.{Operation, Instruction, Edge}
use Rattle.clif_meaning.specs.Request.{Build, GivenEntry, AnsweredCall, script_of}
use Rattle.clif_meaning.specs.Ledger.{AnInstruction, AValue, answers_to, is_filled, is_terminator, ledger_after, value_answer_type}
use Rattle.clif_meaning.specs.Program.{Item, Instruct, result_types, answers_from, first_block}
use Rattle.clif_meaning.specs.FunctionView.{Placed}
use Rattle.clif_meaning.specs.View.{argument_of, edge_of, edges_of, operation_of, controlling_of, first_type, made_at}
use Rattle.clif_simulation.specs.Tables.{IsProgramOf, code, answered, block_name, program_so_far}
use Rattle.clif_simulation.specs.Carries.{AreDeclared, AreTypes, Carries, DeclaredAlong, EdgeEarlier, HasEntry, HasNoMaps, HaveEdges, Holds, InstructionsApart, IsCurrent, IsEarlier, IsValue, LeadsOwn, SoundOnPaths, answered_edge, as_passed, carried, own_placed}
use Rattle.clif_simulation.proofs.Calls.{inserted_soundly, longer_calls, name_stays, open_kept, opened, plain, structured_so_far, values_same}
use Rattle.clif_simulation.proofs.Carrying.{all_contained, all_mapped, earlier_name, edge_earlier, edges_kept, edges_there, holds_item, leads_kept, numbers_kept, values_kept}
use Rattle.clif_simulation.proofs.FreeEntry.{entry_inserted, free_before}
use Rattle.clif_simulation.proofs.Numbering.{apart_made, instruction_first, instruction_new}
use Rattle.clif_simulation.proofs.Extending.{extended}
use Rattle.clif_simulation.proofs.Growing.{inserted_entries, GoesOn, KeepsInsts, goes_on-from, goes_on-with_inst, insts_inserted, insts_kept, made_controlled}
use Rattle.clif_simulation.proofs.ItemCalls.{PutsItem, adds_instruction, last-with_item, number_of_answer}
use Rattle.clif_simulation.proofs.Layouts.{out_before, never_out}
use Rattle.clif_simulation.proofs.LedgerValues.{typed_on, value_stays}
use Rattle.clif_simulation.proofs.Ledgers.{fills, types_before}
use Rattle.clif_simulation.proofs.Places.{contained_at}
use Rattle.clif_simulation.proofs.Requests
use Rattle.clif_simulation.proofs.Requests.{entry_begun}
use Rattle.clif_simulation.proofs.ResultNames.{answer_is, answer_there, answers_are_new, answers_count, answers_earlier, result_typed, results_answered, typed_at, value_within}
use Rattle.clif_simulation.proofs.Staying.{restated}
use Rattle.clif_simulation.proofs.Telling.{MayLead, along_leads, along_records, along_sealed, along_soundly, along_stays, along_structured, along_told, contained_get}
use Rattle.clif_simulation.proofs.Tracking.Steps.{same_function, same_parameters-then, tracks_quiet}
use Rattle.clif_simulation.proofs.Tracking.Giving.{all_born_same, entry_same_function}
use Rattle.clif_simulation.proofs.Unbranched.{no_target}
use Rattle.clif_simulation.proofs.Values.{is_value_at, false_is, values_added}

-- an instruction as the machine sees it, by its parts
abbrev placed_parts : Operation → «Type» → List ℕ → List ℕ → List (Edge ℕ ℕ) → List ℕ → List UserStackMapEntry → Placed
placed_parts operation controlling arguments contexts edges results stack_map =
    record { instruction = record { operation = operation; controlling = controlling; operands = arguments; contexts = contexts; edges = edges }; results = results; stack_map = stack_map }

placed_same : (o p : Operation) (c d : «Type») (xs ys : List ℕ) (us vs : List ℕ) (es fs : List (Edge ℕ ℕ)) (rs ss : List ℕ) (ms : List UserStackMapEntry)
    → o ≡ p → c ≡ d → xs ≡ ys → us ≡ vs → es ≡ fs → rs ≡ ss → placed_parts o c xs us es rs ms ≡ placed_parts p d ys vs fs ss ms
placed_same o p c d xs ys us vs es fs rs ss ms a b e w g h =
    ap (λ (q : Operation). placed_parts q c xs us es rs ms) a ∙ ap (λ (t : «Type»). placed_parts p t xs us es rs ms) b
    ∙ ap (λ (zs : List ℕ). placed_parts p d zs us es rs ms) e ∙ ap (λ (zs : List ℕ). placed_parts p d ys zs es rs ms) w
    ∙ ap (λ (gs : List (Edge ℕ ℕ)). placed_parts p d ys vs gs rs ms) g ∙ ap (λ (ts : List ℕ). placed_parts p d ys vs fs ts ms) h

-- edges that pass what these pass are these
passed_edges : (passed : ℕ → List BlockArg) (n : ℕ) (edges : List BlockCall) → ((k : ℕ) → passed (n + k) ≡ args_of (slice_get edges k)) → as_passed passed n (map edge_of edges) ≡ map edge_of edges
passed_edges passed n [] same = refl
passed_edges passed n (edge ∷ edges) same =
    let first : n ≡ n + 0 = omega arith in
    ap₂ (λ (args : List BlockArg) (es : List (Edge ℕ ℕ)). record { target = edge.block; arguments = map argument_of args } ∷ es)
    (ap passed first ∙ same 0)
    (passed_edges passed (suc n) edges (λ k. let later : suc n + k ≡ n + suc k = omega arith in ap passed later ∙ same (suc k)))

-- What a shape of the function and an instruction of the program have in common, its results aside: the edges pass what
-- answered.
pub record SameBranch (calls : List AnsweredCall) (tables : TableLists) (shape : InstructionData) (instruction : Instruction Name Name) : Type 0 where
  pub operation : operation_of tables shape ≡ instruction.operation
  pub arguments : operands shape ≡ map (answered calls) instruction.operands
  pub edges : edges_of shape ≡ map (answered_edge calls) instruction.edges
  pub contexts_same : contexts shape ≡ map (answered calls) instruction.contexts
  pub values : AllByRecursion (IsValue calls) instruction.operands
  pub contexts_earlier : AllByRecursion (IsEarlier calls) instruction.contexts
  pub edges_earlier : AllByRecursion (EdgeEarlier calls) instruction.edges

-- the same of one without edges
pub record SameInstruction (calls : List AnsweredCall) (tables : TableLists) (shape : InstructionData) (instruction : Instruction Name Name) : Type 0 where
  pub operation : operation_of tables shape ≡ instruction.operation
  pub arguments : operands shape ≡ map (answered calls) instruction.operands
  pub no_edges : edges_of shape ≡ []
  pub edges : instruction.edges ≡ []
  pub contexts_same : contexts shape ≡ map (answered calls) instruction.contexts
  pub values : AllByRecursion (IsValue calls) instruction.operands
  pub contexts_earlier : AllByRecursion (IsEarlier calls) instruction.contexts

same_branch : (calls : List AnsweredCall) (tables : TableLists) (shape : InstructionData) (instruction : Instruction Name Name)
    → SameInstruction calls tables shape instruction → SameBranch calls tables shape instruction
same_branch calls tables shape instruction same = record {
  operation = same.operation;
  arguments = same.arguments;
  edges = same.no_edges ∙ sym (ap (map (answered_edge calls)) same.edges);
  contexts_same = same.contexts_same;
  values = same.values;
  contexts_earlier = same.contexts_earlier;
  edges_earlier = subst (AllByRecursion (EdgeEarlier calls)) (sym same.edges) tt;
}

target_contained : (edges : List BlockCall) (k target : ℕ) → slice_get (targets edges) k ≡ Some target → Contains (targets edges) target
target_contained edges k target to = (k, slice_get_within (targets edges) k target to, slice_get_or (targets edges) k target to)
  where
    slice_get_or : (xs : List ℕ) (k x : ℕ) → slice_get xs k ≡ Some x → slice_index_or xs k x ≡ x
    slice_get_or [] k x is = refl
    slice_get_or (y ∷ xs) zero x is = cc
    slice_get_or (y ∷ xs) (suc k) x is = slice_get_or xs k x is

-- the first result of a new instruction has the first type
node_after : (values : List ValueNode) (node : ValueNode) (nodes : List ValueNode) → get_or (values ++ node ∷ nodes) (length values) no_value ≡ node
node_after [] node nodes = refl
node_after (v ∷ values) node nodes = node_after values node nodes

first_new : (h : Body) (b : ℕ) (shape : InstructionData) (types : List «Type») (loc : ℕ) (t : «Type») (ts : List «Type») → types ≡ t ∷ ts
    → first_type (with_inst h b Back shape types loc) (inst_node h b shape types loc).results ≡ t
first_new h b shape types loc t ts is =
    ap (λ (us : List «Type»). first_type (with_inst h b Back shape us loc) (inst_node h b shape us loc).results) is
    ∙ ap (λ (node : ValueNode). node.ty) (node_after h.values _ _)

module _ (calls : List AnsweredCall) (f : Body) (s : SsaState) (c : Carries calls f s) (consistent : IsConsistent f)
    (b : ℕ) (B : Name) (current : IsCurrent calls b B) (unfilled : is_filled (ledger_after (script_of calls)) B ≡ false) (there : b < length f.blocks)
    (shape : InstructionData) (entries : List GivenEntry) (instruction : Instruction Name Name) (loc : ℕ) (numbers : List ℕ) where
  abbrev call : AnsweredCall
  call = record { request = Build entries instruction; numbers = numbers }

  abbrev after : List AnsweredCall
  after = calls ++ call ∷ []

  abbrev h : Body
  h = inserted_in f b

  -- the number of the instruction
  abbrev i : ℕ
  i = length h.insts

  -- what the caller made then
  abbrev mine : Own
  mine = with_own c.own b i shape

  same : SameButLayout f h
  same = inserted_same f b

  firm : Firm h
  firm = inserted_firm f b (firm_from f consistent)

  there_still : b < length h.blocks
  there_still = subst (λ (blocks : List BlockNode). b < length blocks) (sym same.blocks) there

  as_many : length f.insts ≡ i
  as_many = ap (λ (is : List InstNode). length is) (sym same.insts)

  exist : (d j : ℕ) → Contains (predecessors_of s d) j → j < length f.insts
  exist = (structured_so_far calls f s c).leading

  stays : (d : ℕ) (N : Name) → block_name calls d ≡ Some N → block_name after d ≡ Some N
  stays = name_stays calls call tt

  open_in : IsOpen f s b
  open_in = opened calls f s c consistent b B current unfilled

  own_here : mine.insts b ≡ c.own.insts b ++ i ∷ []
  own_here = updated-same c.own.insts b (c.own.insts b ++ i ∷ []) b refl

  own_elsewhere : (d : ℕ) → d ≢ b → mine.insts d ≡ c.own.insts d
  own_elsewhere d other = updated-other c.own.insts b (c.own.insts b ++ i ∷ []) d other

  -- what the caller had, it still has
  own_still : (d j : ℕ) → Contains (c.own.insts d) j → Contains (mine.insts d) j
  own_still d j here = by (ℕ_discrete d b)
    where
      by : Dec (d ≡ b) → Contains (mine.insts d) j
      by (yes is) =
          subst (λ (e : ℕ). Contains (mine.insts e) j) (sym is) (subst (λ (js : List ℕ). Contains js j) (sym own_here)
          (Contains-append_left (c.own.insts b) (i ∷ []) j (subst (λ (e : ℕ). Contains (c.own.insts e) j) is here)))
      by (no other) = subst (λ (js : List ℕ). Contains js j) (sym (own_elsewhere d other)) here

  -- and the instruction
  own_it : Contains (mine.insts b) i
  own_it = subst (λ (js : List ℕ). Contains js i) (sym own_here) (Contains-push (c.own.insts b) i)

  old_or_it : (d j : ℕ) → Contains (mine.insts d) j → Contains (c.own.insts d) j ⊎ (j ≡ i)
  old_or_it d j here = by (ℕ_discrete d b)
    where
      pushed : Contains (c.own.insts b) j ⊎ (i ≡ j) → d ≡ b → Contains (c.own.insts d) j ⊎ (j ≡ i)
      pushed (inl old) is = inl (subst (λ (e : ℕ). Contains (c.own.insts e) j) (sym is) old)
      pushed (inr new) is = inr (sym new)

      by : Dec (d ≡ b) → Contains (c.own.insts d) j ⊎ (j ≡ i)
      by (yes is) =
          pushed (Contains-push_cases (c.own.insts b) i j (subst (λ (js : List ℕ). Contains js j) own_here (subst (λ (e : ℕ). Contains (mine.insts e) j) is here))) is
      by (no other) = inl (subst (λ (js : List ℕ). Contains js j) (own_elsewhere d other) here)

  -- with results of these types
  module _ (types : List «Type») where
    abbrev g : Body
    g = with_inst h b Back shape types loc

    on : GoesOn f g
    on = goes_on-from f h g same.insts same.values (inserted_entries f b) (goes_on-with_inst h b Back shape types loc)

    keeps : KeepsInsts f g
    keeps = insts_kept f g consistent on

    -- it is made at the type that is told with it
    pub made_controlling : (ty : «Type») → types ≡ types_of_results f.tables shape ty → ((k : ℕ) → k < length (operands shape) → slice_index (operands shape) k < length f.values)
        → controlling_of g shape (inst_node h b shape types loc).results ≡ made_at f shape ty
    made_controlling ty typed operands_exist =
        made_controlled f g on (shapes.typing_of shape).results (shapes.typing_of shape).control (operands shape) (inst_node h b shape types loc).results ty operands_exist
        (λ first others is. first_new h b shape types loc (result_type ty first) (map (result_type ty) others ++ types_of (given_by_call f.tables shape)) (typed ∙ ap (λ (kinds : List ResultKind). map (result_type ty) kinds ++ types_of (given_by_call f.tables shape)) is))

    -- no instruction has a stack map
    no_maps : HasNoMaps g
    no_maps inst = keeps.maps inst ∙ c.holds.no_maps inst

    longer_insts : i < length g.insts
    longer_insts = grind (arith, common_steps)

    node_is : inst_at g i ≡ inst_node h b shape types loc
    node_is = inst_new h b Back shape types loc

    -- what its edges pass is the caller's
    passes_made : (k : ℕ) → args_of (slice_get (edges_at g i) k) ≡ mine.passed i k
    passes_made k =
        ap (λ (node : InstNode). args_of (slice_get (destinations node.shape) k)) node_is
        ∙ ap (λ (passes : ℕ → List BlockArg). passes k) (sym (updated-same c.own.passed i (shape_passes shape) i refl))

    kept : (j : ℕ) → j < length f.insts → own_placed mine g j ≡ own_placed c.own f j
    kept j below =
        ap (λ (passes : ℕ → List BlockArg). own_placed (record c.own { passed = λ k. passes }) g j)
        (updated-other c.own.passed i (shape_passes shape) j (λ is. omega (arith, below, is, as_many)))
        ∙ keeps.placed c.own j below

    own_new : (operation : operation_of f.tables shape ≡ instruction.operation) (arguments : operands shape ≡ map (answered after) instruction.operands)
        (named : contexts shape ≡ map (answered after) instruction.contexts) (edges : edges_of shape ≡ map (answered_edge after) instruction.edges) (results : List Name)
        → controlling_of g shape (inst_node h b shape types loc).results ≡ instruction.controlling → (inst_node h b shape types loc).results ≡ map (answered after) results
        → map (own_placed mine g) (i ∷ []) ≡ carried after (Instruct (length calls) instruction results)
    own_new operation arguments named edges results controlling result_is =
        ap (λ (p : Placed). p ∷ [])
        (ap (λ (stack_map : List UserStackMapEntry). record (own_placed mine g i) { stack_map = stack_map }) (no_maps i)
        ∙ ap (λ (node : InstNode). placed_parts (operation_of g.tables node.shape) (controlling_of g node.shape node.results) (operands node.shape) (contexts node.shape) (as_passed (mine.passed i) 0 (edges_of node.shape)) node.results []) node_is
        ∙ placed_same _ _ _ _ _ _ _ _ _ _ _ _ [] (ap (λ (t : TableLists). operation_of t shape) same.tables ∙ operation) controlling arguments named
        (passed_edges (mine.passed i) 0 (destinations shape)
        (λ k. let plain_k : 0 + k ≡ k = omega arith in
        ap (mine.passed i) plain_k ∙ ap (λ (passes : ℕ → List BlockArg). passes k) (updated-same c.own.passed i (shape_passes shape) i refl))
        ∙ edges)
        result_is)

    -- where it leads, it is declared
    declared_more : (t : SsaState) → ((d j : ℕ) → Contains (predecessors_of s d) j → Contains (predecessors_of t d) j)
        → ((k target : ℕ) → edge_target g i k ≡ Some target → Contains (predecessors_of t target) i) → AreDeclared g t mine.insts
    declared_more t more reaches d j k target here to = by (old_or_it d j here)
      where
        by : Contains (c.own.insts d) j ⊎ (j ≡ i) → Contains (predecessors_of t target) j
        by (inl old) =
            let below : j < length f.insts = all_contained (λ (e : ℕ). e < length f.insts) (c.own.insts d) j (c.holds.own_exist d) old in
            more target j (c.holds.declared d j k target old (sym (keeps.targets j k below) ∙ to))
        by (inr is) = subst (λ (e : ℕ). Contains (predecessors_of t target) e) (sym is) (reaches k target (ap (λ (e : ℕ). edge_target g e k) (sym is) ∙ to))

    -- what it leads to are the targets of the shape
    target_is : (k target : ℕ) → edge_target g i k ≡ Some target → slice_get (targets (destinations shape)) k ≡ Some target
    target_is k target to = ap (λ (node : InstNode). slice_get (targets (destinations node.shape)) k) (sym node_is) ∙ to

    structured_before : (declared : VariableTypes) → AreTypes after declared → Structured declared mine g s []
    structured_before declared are =
        instruction_structured declared c.own h s b shape types loc firm there_still
        (inserted_structured declared c.own f s b (c.holds.structured declared (types_before calls call declared are)))

    -- where it has no edges, what leads somewhere stays
    declared_plain : edges_of shape ≡ [] → AreDeclared g s mine.insts
    declared_plain none =
        declared_more s (λ d j here. here)
        (λ k target to. absurd (no_target g i k target (ap (λ (node : InstNode). edges_of node.shape) node_is ∙ none) to))

    edges_plain : HaveEdges g s
    edges_plain = edges_there f g s s keeps (λ d. refl) exist c.holds.have_edges

    leads_plain : LeadsOwn after mine s
    leads_plain = leads_kept calls call c.own mine s s stays own_still (λ d. refl) c.holds.leads_own

    entry_on : HasEntry after g
    entry_on = entry_begun calls after f g b B (Requests.entry_instructed calls call B current.current entries instruction refl) refl current.named stays c.holds.entry

  -- the tables once the block is in the layout
  abbrev entered : SoundOnPaths calls c.own f s → Blocks
  entered p = with_entry f.layout s b p.tables

  described_before : (p : SoundOnPaths calls c.own f s) → DescribesSoundly c.own h s (entered p)
  described_before p = inserted_soundly c.own f s p.tables b (p.describes, p.sound, p.counts)

  same_side : (p : SoundOnPaths calls c.own f s) → SameProgram p.tables (entered p)
  same_side p = (entry_same f.layout s b p.tables).program

  unwritten : (p : SoundOnPaths calls c.own f s) (y : ℕ) → (entered p).assigned (inside b (suc ((entered p).count b))) y ≡ None
  unwritten p y = (described_before p).0.unwritten b (suc ((entered p).count b)) y (omega arith)

  open_here : IsOpen h s b
  open_here = open_kept f h s s b (insts_inserted f b) (λ d. refl) exist open_in

  entry_is : (program_so_far after).entry ≡ first_block (program_so_far calls).entry (Some B)
  entry_is = Requests.entry_instructed calls call B current.current entries instruction refl

  -- THE INSTRUCTION -----------------------------------------------------------------------------------------------------

  module _ (matches : SameBranch calls f.tables shape instruction) (types : List «Type») (typed : result_types instruction.operation instruction.controlling ≡ types)
      (controlling : controlling_of (with_inst h b Back shape types loc) shape (inst_node h b shape types loc).results ≡ instruction.controlling)
      (numbered : (k : ℕ) → k < length types → slice_get numbers (suc k) ≡ Some (length h.values + k)) (first : slice_get numbers 0 ≡ Some (length f.insts)) where
    abbrev m : Body
    m = with_inst h b Back shape types loc

    -- the names of its results
    abbrev results : List Name
    results = answers_from (length calls) 1 types

    abbrev item : Item
    item = Instruct (length calls) instruction (answers_from (length calls) 1 types)

    puts : PutsItem calls call B (Instruct (length calls) instruction (answers_from (length calls) 1 types))
    puts = subst (λ (ts : List «Type»). PutsItem calls call B (Instruct (length calls) instruction (answers_from (length calls) 1 ts))) typed
        (Requests.puts_instruction calls call B current.current entries instruction refl)

    operands_after : operands shape ≡ map (answered after) instruction.operands
    operands_after = matches.arguments ∙ sym (values_kept calls call instruction.operands matches.values)

    contexts_after : contexts shape ≡ map (answered after) instruction.contexts
    contexts_after = matches.contexts_same ∙ sym (numbers_kept calls call instruction.contexts matches.contexts_earlier)

    edges_after : edges_of shape ≡ map (answered_edge after) instruction.edges
    edges_after = matches.edges ∙ sym (edges_kept calls call instruction.edges matches.edges_earlier)

    -- they are answered by the values from the first new one on
    results_after : (inst_node h b shape types loc).results ≡ map (answered after) (answers_from (length calls) 1 types)
    results_after =
        results_answered calls call (length h.values) 1 types
        (λ k below. let next : 1 + k ≡ suc k = omega arith in ap (slice_get numbers) next ∙ numbered k below)

    result_number : (k : ℕ) → k < length types → answered after (answer_of (length calls) (suc k)) ≡ length h.values + k
    result_number k below = sym (number_of_answer calls call (suc k) (length h.values + k) (numbered k below))

    values_typed : (index : ℕ) (a : «Type») → value_answer_type (slice_get (answers_to (ledger_after (script_of calls)) call.request) index) ≡ Some a
        → HasType m (answered after (answer_of (length calls) index)) a
    values_typed index a is = by index (subst (λ (ts : List «Type»). value_answer_type (slice_get (AnInstruction ∷ map AValue ts) index) ≡ Some a) typed is)
      where
        none_some : None ≡ Some a → ⊥
        none_some h = cc

        by : (j : ℕ) → value_answer_type (slice_get (AnInstruction ∷ map AValue types) j) ≡ Some a → HasType m (answered after (answer_of (length calls) j)) a
        by zero h = absurd (none_some h)
        by (suc j) h =
            let at : slice_get types j ≡ Some a = typed_at types j a h in
            let below : j < length types = slice_get_within types j a at in
            let count : length (with_inst (inserted_in f b) b Back shape types loc).values ≡ length (inserted_in f b).values + length types =
            inst_values_count (inserted_in f b) b Back shape types loc in
            subst (λ (v : ℕ). HasType (with_inst (inserted_in f b) b Back shape types loc) v a) (sym (result_number j below))
            (omega (arith, below, count), result_typed (inserted_in f b).values (length (inserted_in f b).insts) types j a at)

    earlier_results : AllByRecursion (IsEarlier after) (answers_from (length calls) 1 types)
    earlier_results = let l = longer_calls calls call in answers_earlier (length after) (length calls) 1 types (omega (arith, l))

    -- it is known by its number
    number_is : i ≡ answered after (answer_of (length calls) 0)
    number_is = number_of_answer calls call 0 i (first ∙ ap (λ (n : ℕ). Some n) as_many)

    apart : InstructionsApart after (length m.insts)
    apart =
        let longer : i < length m.insts = longer_insts types in
        apart_made calls call (length f.insts) (length m.insts) (λ index is. instruction_first (result_types instruction.operation instruction.controlling) index is)
        (sym number_is ∙ sym as_many) (omega (arith, longer, as_many)) c.holds.instructions

    holds_made : (t : SsaState) → AreDeclared m t mine.insts → LeadsOwn after mine t → HaveEdges m t → ((declared : VariableTypes) → AreTypes after declared → Structured declared mine m t []) → Holds after mine m t
    holds_made t declared leads have structured =
        holds_item calls call stays c.own mine f m s t c.holds (kept types) (keeps types).more (out_before f b) b B item current.named puts (i ∷ []) own_here own_elsewhere
        (λ d. refl) (typed_on calls call f m c.holds.values_typed (keeps types).types values_typed) (λ out. absurd (never_out f b out))
        (own_new types matches.operation operands_after contexts_after edges_after results controlling results_after) (longer_insts types, tt) (
          all_mapped (IsValue calls) (IsValue after) (value_stays calls call) instruction.operands matches.values,
          earlier_results,
          all_mapped (EdgeEarlier calls) (EdgeEarlier after) (edge_earlier calls call stays) instruction.edges matches.edges_earlier,
          all_mapped (IsEarlier calls) (IsEarlier after) (earlier_name calls call) instruction.contexts matches.contexts_earlier,
        )
        (ap (λ (n : ℕ). n ∷ []) number_is) (instruction_new calls call 0 refl) apart
        (plain calls f s c consistent b B current unfilled) (no_maps types) declared leads have (entry_on types) structured

    values_named : (index : ℕ) → IsTrue (is_value_at (AnInstruction ∷ map AValue (result_types instruction.operation instruction.controlling)) index)
        → Contains (answers_from (length calls) 1 types) (answer_of (length calls) index)
    values_named index is = by index (subst (λ (ts : List «Type»). IsTrue (is_value_at (AnInstruction ∷ map AValue ts) index)) typed is)
      where
        by : (j : ℕ) → IsTrue (is_value_at (AnInstruction ∷ map AValue types) j) → Contains (answers_from (length calls) 1 types) (answer_of (length calls) j)
        by zero h = absurd (false_is h)
        by (suc j) is_value =
            let next : 1 + j ≡ suc j = omega arith in
            contained_at (answers_from (length calls) 1 types) j (answer_of (length calls) (suc j))
            (answer_there (length calls) 1 types j (value_within types j is_value) ∙ ap (λ (index : ℕ). Some (answer_of (length calls) index)) next)

    -- the tables with the instruction, whose results are given at its place
    abbrev made : SoundOnPaths calls c.own f s → Blocks
    made p = with_all_born (with_item (entered p) b) (last_place (with_item (entered p) b) b) (map code (answers_from (length calls) 1 types)) (length h.values)

    same_names : (p : SoundOnPaths calls c.own f s) → IsProgramOf calls (entered p)
    same_names p = restated calls p.tables (entered p) (same_side p) p.program

    described_made : (p : SoundOnPaths calls c.own f s) → DescribesSoundly mine m s (made p)
    described_made p =
        own_described c.own h s (entered p) b (map code (answers_from (length calls) 1 types)) shape types loc firm (described_before p) open_here there_still
        (answers_count (length calls) 1 types) (answers_are_new calls (entered p) 1 types (same_names p))

    sound_made : (p : SoundOnPaths calls c.own f s) (t : SsaState) → t.tracking ≡ s.tracking → SameRecords s t → DescribesSoundly mine m t (made p)
        → SoundOnPaths after mine m t
    sound_made p t tracking records described =
        let adds = adds_instruction calls call (entered p) b B current.named (unwritten p) instruction (answers_from (length calls) 1 types) (length h.values) (last_place (with_item (entered p) b) b) puts
        (λ k y at.
        let is = answer_is (length calls) 1 types k y at in
        let next : 1 + k ≡ suc k = omega arith in
        (ap (λ (n : Name). n.place) is.1, ap (answered after) (is.1 ∙ ap (answer_of (length calls)) next) ∙ result_number k is.0))
        (answers_are_new calls (entered p) 1 types (same_names p)) (last-with_item (entered p) b) in
        record {
          tables = made p;
          program = extended calls after (entered p) (made p) b B item adds (same_names p);
          values_given = values_added calls call (entered p) (made p) b B item adds values_named (values_same calls p.tables (entered p) (same_side p) p.values_given);
          describes = described.0;
          sound = described.1;
          counts = described.2;
          tracked = tracks_quiet calls call s t p.tables p.tracked tt tracking records (made p)
              (same_parameters-then p.tables (entered p) (made p) (entry_same_function f.layout s b p.tables)
              (same_parameters-then (entered p) (with_item (entered p) b) (made p) (same_function (entered p) (with_item (entered p) b) refl)
              (all_born_same (with_item (entered p) b) (last_place (with_item (entered p) b) b) (map code (answers_from (length calls) 1 types)) (length h.values)
              (λ v past. ap (λ (d : Definition). d.kind) ((described_before p).0.absent v past)))));
        }

    -- the state after it may be another one
    carries_made : (t : SsaState) → t.tracking ≡ s.tracking → SameRecords s t
        → AreDeclared m t mine.insts → LeadsOwn after mine t → HaveEdges m t → ((declared : VariableTypes) → AreTypes after declared → Structured declared mine m t [])
        → ((x : ℕ) → is_yes (sealed_of s x) ≡ true → (is_yes (sealed_of t x) ≡ true) × (predecessors_of t x ≡ predecessors_of s x))
        → ((T : Blocks) → DescribesSoundly mine m s T → DescribesSoundly mine m t T) → Carries after m t
    carries_made t tracking records declared leads have structured sealed sound = record {
      own = mine;
      holds = holds_made t declared leads have structured;
      on_paths = λ free.
          let p : SoundOnPaths calls c.own f s = c.on_paths (free_before f m s t (entry_inserted f b) sealed free) in
          sound_made p t tracking records (sound (made p) (described_made p));
    }

    -- it has edges, and is declared at each block that one of them leads to
    module _ (told : List ℕ) (t : SsaState) (ends : is_terminator instruction.operation ≡ true) (once : Once told)
        (exactly : (x : ℕ) → (Contains told x → Contains (targets (destinations shape)) x) × (Contains (targets (destinations shape)) x → Contains told x))
        (unsealed : (x : ℕ) → Contains told x → is_yes (sealed_of s x) ≡ false) (along : DeclaredAlong s i told t) (tracking : t.tracking ≡ s.tracking) where
      may : (x : ℕ) → Contains told x → MayLead m s i x
      may x here = record {
        unsealed = unsealed x here;
        apart = λ j leads is. open_kept f m s s b (keeps types) (λ d. refl) exist open_in x j leads (is ∙ ap (λ (node : InstNode). node.block) (node_is types));
      }

      leads_branch : LeadsOwn after mine t
      leads_branch target j here = by (along_told told s t i along target j here)
        where
          by : Contains (predecessors_of s target) j ⊎ ((j ≡ i) × Contains told target)
              → (block : ℕ) × (name : Name) × Contains (mine.insts block) j × (block_name after block ≡ Some name) × IsTrue (is_filled (ledger_after (script_of after)) name)
          by (inl old) = leads_plain types target j old
          by (inr new) =
              (b, B, subst (λ (e : ℕ). Contains (mine.insts b) e) (sym new.0) own_it, stays b B current.named, fills calls call entries instruction b B refl ends current)

      edges_branch : HaveEdges m t
      edges_branch target j here = by (along_told told s t i along target j here)
        where
          by : Contains (predecessors_of s target) j ⊎ ((j ≡ i) × Contains told target) → (k : ℕ) × (edge_target m j k ≡ Some target)
          by (inl old) = edges_plain types target j old
          by (inr new) =
              let edge : (k : ℕ) × (slice_get (targets (destinations shape)) k ≡ Some target) = contained_get (targets (destinations shape)) target ((exactly target).0 new.1) in
              (edge.0, ap (λ (e : ℕ). edge_target m e edge.0) new.0 ∙ ap (λ (node : InstNode). slice_get (targets (destinations node.shape)) edge.0) (node_is types) ∙ edge.1)

      carries_along : Carries after m t
      carries_along =
          carries_made t tracking (along_records told s t i along)
          (declared_more types t (along_stays told s t i along)
          (λ k target to. along_leads told s t i along target ((exactly target).1 (target_contained (destinations shape) k target (target_is types k target to)))))
          leads_branch edges_branch
          (λ declared are. along_structured told declared mine m s t i (longer_insts types) once may (passes_made types) along (structured_before types declared are))
          (along_sealed told s t i along unsealed)
          (λ T. along_soundly told mine m s t T i (longer_insts types) (inserted_entry f b) once may (λ x k to. ap (λ (args : List BlockArg). length args) (passes_made types k)) along)

  -- An instruction without edges, with results of these types.
  pub carries_plain : (matches : SameInstruction calls f.tables shape instruction) (types : List «Type») → result_types instruction.operation instruction.controlling ≡ types
      → controlling_of (with_inst h b Back shape types loc) shape (inst_node h b shape types loc).results ≡ instruction.controlling
      → ((k : ℕ) → k < length types → slice_get numbers (suc k) ≡ Some (length h.values + k)) → slice_get numbers 0 ≡ Some (length f.insts)
      → Carries after (with_inst h b Back shape types loc) s
  carries_plain matches types typed controlling numbered first =
      carries_made (same_branch calls f.tables shape instruction matches) types typed controlling numbered first s refl (λ x d. refl)
      (declared_plain types matches.no_edges) (leads_plain types) (edges_plain types) (structured_before types)
      (λ x is. (is, refl)) (λ T d. d)

  -- A branch: it was declared once at each block to which it leads.
  pub carries_branch : (matches : SameBranch calls f.tables shape instruction) (types : List «Type») → result_types instruction.operation instruction.controlling ≡ types
      → controlling_of (with_inst h b Back shape types loc) shape (inst_node h b shape types loc).results ≡ instruction.controlling
      → ((k : ℕ) → k < length types → slice_get numbers (suc k) ≡ Some (length h.values + k)) → slice_get numbers 0 ≡ Some (length f.insts)
      → (told : List ℕ) (t : SsaState) → is_terminator instruction.operation ≡ true → Once told
      → ((x : ℕ) → (Contains told x → Contains (targets (destinations shape)) x) × (Contains (targets (destinations shape)) x → Contains told x))
      → ((x : ℕ) → Contains told x → is_yes (sealed_of s x) ≡ false) → DeclaredAlong s (length f.insts) told t
      → t.tracking ≡ s.tracking → Carries after (with_inst h b Back shape types loc) t
  carries_branch matches types typed controlling numbered first told t ends once exactly unsealed along tracking =
      carries_along matches types typed controlling numbered first told t ends once exactly unsealed (subst (λ (n : ℕ). DeclaredAlong s n told t) as_many along) tracking
