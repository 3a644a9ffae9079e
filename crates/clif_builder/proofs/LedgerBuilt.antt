-- An instruction is built: the agreement with the ledger is kept.
use Rattle.std.proofs.Common.{◌≡◌, ◌≢◌, ◌<◌, ◌+◌, ◌==◌, ℕ, zero, suc, List, [], ◌∷◌, ◌++◌, length, refl, sym, ◌∙◌, ap, subst, arith, inl, inr, length-append}
use Rattle.std.specs.Prelude.{map, slice_get, Option, Some, None, option_map, Bool, true, false, if◌then◌else◌, fold, All, Contains}
use Rattle.std.specs.List.{range_with_len}
use Rattle.std.proofs.lemmas.Bool.{eq-eqb, or_cases, or_left, or_right, eqb-true}
use Rattle.std.proofs.lemmas.Option.{get_or_from_slice_get}
use Rattle.clif_types.specs.declared.types.«Type».{«Type»}
use Rattle.clif_instructions.specs.declared.insert_at.InsertAt.TheVariants.{Back}
use Rattle.clif_instructions.specs.declared.instructions.InstructionData.{InstructionData}
use Rattle.clif_nodes.specs.declared.nodes.ValueNode.{ValueNode}
use Rattle.clif_nodes.specs.declared.nodes.InstNode.{InstNode}
use Rattle.clif_instructions.specs.declared.block_call.BlockCall.{BlockCall}
use Rattle.clif_ir.specs.Body.{Body, block_at, inst_at}
use Rattle.clif_nodes.specs.Nodes.{BlockNode, no_inst, result_nodes}
use Rattle.clif_ir.specs.Changes.{inserted_in, with_inst, inst_node}
use Rattle.clif_ir.specs.Consistent.{IsConsistent}
use Rattle.clif_instructions.specs.Instruction.{destinations}
use Rattle.clif_instructions.specs.Members.{stands_in}
use Rattle.clif_instructions.specs.Edges.{targets}
use Rattle.clif_paths.proofs.Tables.{updated-same}
use Rattle.clif_meaning.specs.Name.{Name}
use Rattle.clif_meaning.specs.Instruction.{Instruction, Operation}
use Rattle.clif_meaning.specs.Request.{AnsweredCall, Build, GivenEntry, Request, number_of}
use Rattle.clif_meaning.specs.Program as program
use Rattle.clif_meaning.specs.Ledger.{Answered, AValue, AnInstruction, BlockState, Ledger, VariableState, is_terminator, ledger_with, next_answer, with_begun, with_filled_at, with_predecessor, with_served, with_tried, with_state}
use Rattle.clif_meaning.proofs.CallLists as earlier
use Rattle.clif_ssa.specs.Own.{Own}
use Rattle.clif_records.specs.Tables.{is_yes}
use Rattle.clif_ssa.specs.LookUp.{branch_block}
use Rattle.clif_ssa.specs.Sound.{args_of}
use Rattle.clif_ssa.specs.SoundLaws.{shape_passes, with_own}
use Rattle.clif_ssa.specs.Ssa.{SsaState, predecessors_of, sealed_of}
use Rattle.clif_ssa.specs.Structured.{Structured, VariableTypes}
use Rattle.clif_ssa.proofs.Bodies.{firm_from}
use Rattle.clif_ssa.proofs.Completing.{inserted_firm, inserted_same}
use Rattle.clif_ssa.proofs.Instructions.{inst_params}
use Rattle.clif_ssa.proofs.Ordering.{contains_cons, none_contained}
use Rattle.clif_ssa.proofs.StructuredLaws.{inserted_structured, instruction_structured}
use Rattle.clif_simulation.proofs.Telling.{MayLead, along_structured}
use Rattle.clif_builder.specs.declared.context.BlockStatus.{BlockStatus}
use Rattle.clif_builder.specs.declared.context.BlockStatus.TheVariants.{Empty, Filled}
use Rattle.clif_builder.specs.Context.{ContextState, SameVariables, SetsStatus, begun, status_of}
use Rattle.clif_builder.specs.Builder.{CanLeadIn}
use Rattle.clif_builder.specs.Construction.{IsDeclared}
use Rattle.clif_builder.specs.Ledger.{AnswersAgree, IsEnded, IsStructured, LedgerAgrees, NamesEdges, VariablesAgree, block_name, value_type, ledger_of}
use Rattle.clif_builder.specs.Order.{IsInOrder}
use Rattle.clif_builder.proofs.Counted.{SpendsFor, leaves_ssa, spends_appended}
use Rattle.clif_builder.proofs.LedgerLists.{get-last, name-of-some}
use Rattle.clif_builder.proofs.LedgerNames.{name-number, state-twice}
use Rattle.clif_builder.proofs.LedgerKept.{Continues, Extends, Extends-then, Extends-inserted, Continues-inst, branch-kept, inserted-insts, keeps-of, answers-one, answers-results}
use Rattle.clif_builder.proofs.LedgerMade.{ChangeAgrees, MadeLedger, Makes, agrees-made, alone-still, begun-ledger, begun-variables, changed-names, ended-here, ended-still, made-callers, unpristine}
use Rattle.clif_builder.proofs.LedgerUsed.{begun-agrees, begun-not-empty}
use Rattle.clif_builder.proofs.LedgerLeads.{LedLedger, lead-still, lead-to, led-ledger}
use Rattle.clif_builder.proofs.LedgerBranched.{agrees-led}
use Rattle.clif_builder.proofs.Placed.{in_order, branch_exists}
use Rattle.clif_builder.proofs.Touching.{agree_same, are_types}
use Rattle.clif_builder.proofs.Tracks.{keeps_ssa}

-- what the caller made, with one more instruction
pub appended-structured : (place : ℕ) (types : VariableTypes) (own : Own) (f : Body) (s : SsaState) (block : ℕ) (shape : InstructionData) (results : List «Type») → IsConsistent f → block < length f.blocks
    → Structured types own f s []
    → Structured types (with_own own block (length (inserted_in f block).insts) shape) (with_inst (inserted_in f block) block Back shape results place) s []
appended-structured place types own f s block shape results consistent exists before =
    let below : block < length (inserted_in f block).blocks = omega (arith, exists, ap length (inserted_same f block).blocks) in
    instruction_structured types own (inserted_in f block) s block shape results place (inserted_firm f block (firm_from f consistent)) below
    (inserted_structured types own f s block before)

appended-is-structured : (place : ℕ) (f g : Body) (c d : ContextState) (block : ℕ) (shape : InstructionData) (results : List «Type») → IsConsistent f → block < length f.blocks
    → g ≡ with_inst (inserted_in f block) block Back shape results place → d.ssa ≡ c.ssa → SameVariables c d → (mine : Own) → IsStructured mine f c → IsStructured (with_own mine block (length (inserted_in f block).insts) shape) g d
appended-is-structured place f g c d block shape results consistent exists function ssa variables mine before types are =
    let own : Own = with_own mine block (length (inserted_in f block).insts) shape in
    subst (λ (s : SsaState). Structured types own g s []) (sym ssa)
    (subst (λ (h : Body). Structured types own h c.ssa []) (sym function)
    (appended-structured _ types mine f c.ssa block shape results consistent exists (before types (are_types c d types variables are))))

-- what an appended instruction makes
pub appends-make : (place : ℕ) (f g : Body) (c d : ContextState) (block : ℕ) (shape : InstructionData) (types : List «Type») (status : BlockStatus)
    (order : IsInOrder f c) → IsConsistent f → block < length f.blocks
    → g ≡ with_inst (inserted_in f block) block Back shape types place → SetsStatus c d block status → status ≢ Empty → (status_of c block ≡ Filled → status ≡ Filled)
    → d.ssa ≡ c.ssa → SameVariables c d → Makes order.own f c g d block
appends-make place f g c d block shape types status order consistent exists function sets some stays ssa variables =
    let made : Continues (inserted_in f block) g = subst (Continues (inserted_in f block)) (sym function) (Continues-inst (inserted_in f block) block Back shape types place) in
    let extends : Extends f g = Extends-then f (inserted_in f block) g (Extends-inserted f block) made.extends in
    record {
      extends = extends;
      layout = made.layout;
      sealed = λ b. ap (λ (s : SsaState). is_yes (sealed_of s b)) ssa;
      predecessors = λ b. ap (λ (s : SsaState). predecessors_of s b) ssa;
      tracks = keeps_ssa f.values g.values c d extends.parameters ssa;
      own = with_own order.own block (length (inserted_in f block).insts) shape;
      structured = appended-is-structured _ f g c d block shape types consistent exists function ssa variables order.own order.structured;
      callers = λ b. refl;
      callers_alone = λ b.
          alone-still (with_own order.own block (length (inserted_in f block).insts) shape) order.own f g c d block status made.layout sets some b refl
          (ap (λ (h : Body). (block_at h b).params) function ∙ inst_params (inserted_in f block) block Back shape types place b
          ∙ ap (λ (blocks : List BlockNode). (block_at (record f { blocks = blocks }) b).params) (inserted_same f block).blocks)
          (order.callers_alone b);
      branches = λ b i leads.
          let before : Contains (predecessors_of c.ssa b) i = subst (λ (s : SsaState). Contains (predecessors_of s b) i) ssa leads in
          let same : branch_block g i ≡ branch_block f i = branch-kept f g (keeps-of f g extends) i (branch_exists f c order b i before) in
          subst (IsEnded g d) (sym same) (ended-still f g c d block status made.layout sets stays (branch_block f i) (order.branches b i before));
    }

-- the node of an appended instruction
pub node-there : (place : ℕ) (f g : Body) (block : ℕ) (shape : InstructionData) (types : List «Type»)
    → g ≡ with_inst (inserted_in f block) block Back shape types place
    → slice_get g.insts (length f.insts) ≡ Some (inst_node (inserted_in f block) block shape types place)
node-there place f g block shape types function =
    ap (λ (h : Body). slice_get h.insts (length f.insts)) function
    ∙ ap (slice_get (with_inst (inserted_in f block) block Back shape types place).insts) (sym (inserted-insts f block))
    ∙ get-last (inserted_in f block).insts _

-- the types of its results
results-types : (place : ℕ) (f g : Body) (block : ℕ) (shape : InstructionData) (types : List «Type») → g ≡ with_inst (inserted_in f block) block Back shape types place
    → (k : ℕ) (ty : «Type») → slice_get types k ≡ Some ty → value_type g (length (inserted_in f block).values + k) ≡ Some ty
results-types place f g block shape types function k ty at =
    ap (λ (h : Body). value_type h (length (inserted_in f block).values + k)) function
    ∙ ap (option_map (λ (n : ValueNode). n.ty)) (behind (inserted_in f block).values)
    ∙ node 0 types k at
  where
    behind : (values : List ValueNode)
        → slice_get (values ++ result_nodes (length (inserted_in f block).insts) 0 types) (length values + k) ≡ slice_get (result_nodes (length (inserted_in f block).insts) 0 types) k
    behind [] = let same : 0 + k ≡ k = omega arith in ap (slice_get (result_nodes (length (inserted_in f block).insts) 0 types)) same
    behind (v ∷ values) =
        let same : suc (length values) + k ≡ suc (length values + k) = omega arith in
        ap (slice_get ((v ∷ values) ++ result_nodes (length (inserted_in f block).insts) 0 types)) same ∙ behind values

    node : (j : ℕ) (ts : List «Type») (m : ℕ) → slice_get ts m ≡ Some ty
        → option_map (λ (n : ValueNode). n.ty) (slice_get (result_nodes (length (inserted_in f block).insts) j ts) m) ≡ Some ty
    node j [] m at = let none : ⊥ = cc in absurd none
    node j (t ∷ ts) zero at = at
    node j (t ∷ ts) (suc m) at = node (j + 1) ts m at

-- an instruction behind which its block goes on
pub agrees-plain : (place : ℕ) (calls : List AnsweredCall) (ledger : Ledger) (f g : Body) (c d : ContextState) (p : Option ℕ) (block : ℕ) (shape : InstructionData) (entries : List GivenEntry)
    (operation : Operation) (controlling : «Type») (types : List «Type») (operands contexts : List Name) (inst : ℕ) (results : List ℕ)
    → LedgerAgrees calls ledger f c p → p ≡ Some block → IsConsistent f → block < length f.blocks → g ≡ with_inst (inserted_in f block) block Back shape types place
    → SetsStatus c d block (begun (status_of c block)) → d.ssa ≡ c.ssa → SameVariables c d → is_terminator operation ≡ false → program.result_types operation controlling ≡ types
    → ((new : Ledger) → AnswersAgree new g (length calls) (AnInstruction ∷ map AValue types) (inst ∷ results))
    → LedgerAgrees (calls ++ record { request = Build entries (record { operation = operation; controlling = controlling; operands = operands; contexts = contexts; edges = [] }); numbers = inst ∷ results } ∷ [])
    (ledger_with ledger (Build entries (record { operation = operation; controlling = controlling; operands = operands; contexts = contexts; edges = [] }))) g d p
agrees-plain place calls ledger f g c d p block shape entries operation controlling types operands contexts inst results agrees at consistent exists function sets ssa variables goes_on typed answers =
    let request : Request = Build entries (record { operation = operation; controlling = controlling; operands = operands; contexts = contexts; edges = [] }) in
    let call : AnsweredCall = record { request = request; numbers = inst ∷ results } in
    let current = name-of-some (block_name ledger) ledger.current block (agrees.current ∙ ap (option_map (block_name ledger)) at) in
    let new : Ledger = ledger_with ledger request in
    let changed : MadeLedger ledger new current.0 unpristine = begun_by (is_terminator operation) goes_on current.0 current.1 in
    agrees-made calls call ledger new f g c d p block current.0 unpristine (begun (status_of c block)) (AnInstruction ∷ map AValue types) agrees tt current.2
    (ap (λ (ts : List «Type»). ledger.answers ++ (AnInstruction ∷ map AValue ts) ∷ []) typed) changed
    (agree_same _ c d variables (subst (λ (states : List VariableState). VariablesAgree states c) (sym (variables_by (is_terminator operation) goes_on)) agrees.variables))
    (begun-agrees (status_of c block)) sets
    (appends-make _ f g c d block shape types (begun (status_of c block)) (in_order agrees) consistent exists function sets (begun-not-empty (status_of c block)) (λ filled. ap begun filled) ssa variables)
    (spends_appended place _ f c g d block shape types function (let count = ap (λ (ts : List «Type»). length ts) typed in omega (arith, count)) (leaves_ssa c d variables.0 ssa))
    (answers new)
  where
    begun_by : (ends : Bool) → ends ≡ false → (x : Name) → ledger.current ≡ Some x
        → MadeLedger ledger (record (if ends then with_filled_at (with_begun ledger) (with_begun ledger).current else with_begun ledger)
        { answers = ledger.answers ++ (AnInstruction ∷ map AValue (program.result_types operation controlling)) ∷ []; jump_tables = with_served ledger.jump_tables entries; exception_tables = with_tried ledger.exception_tables entries }) x unpristine
    begun_by true is x at = let no_way : ⊥ = cc in absurd no_way
    begun_by false is x at =
        let begins = begun-ledger ledger x at in
        record { blocks = begins.blocks; layout = begins.layout; current = begins.current; tables = begins.tables }

    variables_by : (ends : Bool) → ends ≡ false → (if ends then with_filled_at (with_begun ledger) (with_begun ledger).current else with_begun ledger).variables ≡ ledger.variables
    variables_by true is = let no_way : ⊥ = cc in absurd no_way
    variables_by false is = begun-variables ledger

-- with its results, which have the next numbers of values
pub agrees-built : (place : ℕ) (calls : List AnsweredCall) (ledger : Ledger) (f g : Body) (c d : ContextState) (p : Option ℕ) (block : ℕ) (shape : InstructionData) (entries : List GivenEntry)
    (operation : Operation) (controlling : «Type») (types : List «Type») (operands contexts : List Name) (inst : ℕ)
    → LedgerAgrees calls ledger f c p → p ≡ Some block → IsConsistent f → block < length f.blocks → g ≡ with_inst (inserted_in f block) block Back shape types place
    → SetsStatus c d block (begun (status_of c block)) → d.ssa ≡ c.ssa → SameVariables c d → inst ≡ length f.insts
    → is_terminator operation ≡ false → program.result_types operation controlling ≡ types
    → LedgerAgrees
    (calls ++ record { request = Build entries (record { operation = operation; controlling = controlling; operands = operands; contexts = contexts; edges = [] }); numbers = inst ∷ range_with_len (length (inserted_in f block).values) (length types) } ∷ [])
    (ledger_with ledger (Build entries (record { operation = operation; controlling = controlling; operands = operands; contexts = contexts; edges = [] }))) g d p
agrees-built place calls ledger f g c d p block shape entries operation controlling types operands contexts inst agrees at consistent exists function sets ssa variables is_inst goes_on typed =
    let first : ℕ = length (inserted_in f block).values in
    let node : InstNode = inst_node (inserted_in f block) block shape types place in
    let there : slice_get g.insts inst ≡ Some node = ap (slice_get g.insts) is_inst ∙ node-there _ f g block shape types function in
    agrees-plain _ calls ledger f g c d p block shape entries operation controlling types operands contexts inst (range_with_len first (length types)) agrees at consistent exists function sets ssa variables goes_on typed
    (λ new. answers-results new g (length calls) inst first node types there refl (results-types _ f g block shape types function))

-- the state of a block that gets its terminator
abbrev pub filled : BlockState → BlockState
filled s = record s { is_filled = true }

filled-agrees : (s : BlockStatus) → ChangeAgrees (λ (t : BlockState). filled (unpristine t)) s Filled
filled-agrees s =
    record {
      block = λ t. refl;
      is_sealed = λ t. refl;
      is_cold = λ t. refl;
      parameters = λ t. refl;
      predecessors = λ t. refl;
      is_pristine = λ t was. refl;
      is_filled = λ t was. refl;
    }

filled-ledger : (ledger : Ledger) (name : Name) → ledger.current ≡ Some name
    → MadeLedger ledger (with_filled_at (with_begun ledger) (with_begun ledger).current) name (λ (t : BlockState). filled (unpristine t))
filled-ledger ledger name current =
    let begins = begun-ledger ledger name current in
    subst (λ (new : Ledger). MadeLedger ledger new name (λ (t : BlockState). filled (unpristine t))) (ap (with_filled_at (with_begun ledger)) (sym (begins.current ∙ current)))
    (record {
      blocks = ap (λ (states : List BlockState). (with_state (record ledger { blocks = states }) name filled).blocks) begins.blocks
          ∙ state-twice ledger.blocks name unpristine filled (λ s. refl);
      layout = begins.layout;
      current = begins.current;
      tables = begins.tables;
    })

filled-variables : (ledger : Ledger) → (with_filled_at (with_begun ledger) (with_begun ledger).current).variables ≡ ledger.variables
filled-variables ledger = by (with_begun ledger).current ∙ begun-variables ledger
  where
    by : (current : Option Name) → (with_filled_at (with_begun ledger) current).variables ≡ (with_begun ledger).variables
    by None = refl
    by (Some name) = refl

-- A TERMINATOR ------------------------------------------------------------------------------------------------------

pub contained-stands : (xs : List ℕ) (x : ℕ) → Contains xs x → stands_in x xs ≡ true
contained-stands [] x here = absurd (none_contained x here)
contained-stands (y ∷ xs) x here =
    elim (contains_cons y xs x here) [
      | inl same ↦ or_left (y == x) (stands_in x xs) (eq-eqb y x same)
      | inr later ↦ or_right (y == x) (stands_in x xs) (contained-stands xs x later)
    ]

-- an edge that may be made leads to an unsealed block
pub unsealed-target : (f : Body) (c : ContextState) (edges : List BlockCall) → All (CanLeadIn f c) edges → (x : ℕ) → stands_in x (targets edges) ≡ true → is_yes (sealed_of c.ssa x) ≡ false
unsealed-target f c [] may x there = let no_way : ⊥ = cc in absurd no_way
unsealed-target f c (edge ∷ edges) may x there =
    elim (or_cases (edge.block == x) (stands_in x (targets edges)) there) [
      | inl here ↦ subst (λ (n : ℕ). is_yes (sealed_of c.ssa n) ≡ false) (eqb-true edge.block x here) (may 0 edge (omega arith)).1
      | inr later ↦ unsealed-target f c edges (λ k e below. may (suc k) e (omega (arith, below))) x later
    ]

module _ (place : ℕ) (calls : List AnsweredCall) (f g : Body) (c d : ContextState) (p : Option ℕ) (block : ℕ) (shape : InstructionData) (entries : List GivenEntry) (instruction : Instruction Name Name) (inst : ℕ)
    (agrees : LedgerAgrees calls (ledger_of calls) f c p) (at : p ≡ Some block) (consistent : IsConsistent f) (exists : block < length f.blocks) (open_in : status_of c block ≢ Filled)
    (function : g ≡ with_inst (inserted_in f block) block Back shape [] place) (sets : SetsStatus c d block Filled) (variables : SameVariables c d) (is_inst : inst ≡ length f.insts)
    (names : NamesEdges calls instruction.edges (destinations shape)) (may : All (CanLeadIn f c) (destinations shape)) (declared : IsDeclared c.ssa inst (targets (destinations shape)) d.ssa) where
  abbrev ledger : Ledger
  ledger = ledger_of calls

  abbrev call : AnsweredCall
  call = record { request = Build entries instruction; numbers = inst ∷ [] }

  -- the context before the branch is declared
  abbrev undeclared : ContextState
  undeclared = record d { ssa = c.ssa }

  -- and the ledger
  abbrev ended_ledger : Ledger
  ended_ledger = with_filled_at (with_begun ledger) (with_begun ledger).current

  abbrev answered : List (List Answered)
  answered = ledger.answers ++ (AnInstruction ∷ []) ∷ []

  abbrev node : InstNode
  node = inst_node (inserted_in f block) block shape [] place

  there : slice_get g.insts inst ≡ Some node
  there = ap (slice_get g.insts) is_inst ∙ node-there _ f g block shape [] function

  node_is : inst_at g inst ≡ node
  node_is = get_or_from_slice_get g.insts inst node no_inst there

  some : Filled ≢ Empty
  some is = cc

  makes : Makes agrees.own f c g undeclared block
  makes = appends-make _ f g c undeclared block shape [] Filled (in_order agrees) consistent exists function sets some (λ filled. refl) refl variables

  spends : SpendsFor call.request f c g undeclared
  spends = spends_appended place _ f c g undeclared block shape [] function (omega arith) (leaves_ssa c undeclared variables.0 refl)

  current : (x : Name) × (ledger.current ≡ Some x) × (block_name ledger block ≡ Some x)
  current = name-of-some (block_name ledger) ledger.current block (agrees.current ∙ ap (option_map (block_name ledger)) at)

  changed : MadeLedger ledger (record ended_ledger { answers = answered }) current.0 (λ (t : BlockState). filled (unpristine t))
  changed =
      let fills = filled-ledger ledger current.0 current.1 in
      record { blocks = fills.blocks; layout = fills.layout; current = fills.current; tables = fills.tables }

  agree : VariablesAgree ended_ledger.variables undeclared
  agree = agree_same _ c undeclared variables (subst (λ (states : List VariableState). VariablesAgree states c) (sym (filled-variables ledger)) agrees.variables)

  -- the ledger agrees before the branch is declared
  abbrev ended : LedgerAgrees (calls ++ call ∷ []) (record ended_ledger { answers = answered }) g undeclared p
  ended =
      agrees-made calls call ledger (record ended_ledger { answers = answered }) f g c undeclared p block current.0 (λ (t : BlockState). filled (unpristine t)) Filled (AnInstruction ∷ [])
      agrees tt current.2 refl changed agree (filled-agrees (status_of c block)) sets makes spends
      (answers-one (record ended_ledger { answers = answered }) g (length calls) AnInstruction inst (node, there) (node, there, refl))

  same_callers : (b : ℕ) → agrees.own.params b ≡ ended.own.params b
  same_callers b = sym
      (made-callers calls call ledger (record ended_ledger { answers = answered }) f g c undeclared p block current.0 (λ (t : BlockState). filled (unpristine t)) Filled (AnInstruction ∷ [])
      agrees tt current.2 refl changed agree (filled-agrees (status_of c block)) sets makes spends
      (answers-one (record ended_ledger { answers = answered }) g (length calls) AnInstruction inst (node, there) (node, there, refl)) b)

  number : number_of (calls ++ call ∷ []) (next_answer ledger) ≡ Some inst
  number = ap (λ (n : ℕ). number_of (calls ++ call ∷ []) (record { place = n; index = 0 })) agrees.places ∙ earlier.new calls call 0

  is_new : (b : ℕ) → Contains (predecessors_of c.ssa b) inst → ⊥
  is_new b here = omega (arith, branch_exists f c (in_order agrees) b inst here, is_inst)

  -- the branch stands in the block
  stands : branch_block g inst ≡ block
  stands = ap (λ (n : InstNode). n.block) node_is

  may_lead : (x : ℕ) → Contains declared.told x → MayLead g c.ssa inst x
  may_lead x here = record {
    unsealed = unsealed-target f c (destinations shape) may x (sym (declared.each x) ∙ contained-stands declared.told x here);
    apart = λ j leads same.
        let stays : branch_block g j ≡ branch_block f j = branch-kept f g (keeps-of f g makes.extends) j (branch_exists f c (in_order agrees) x j leads) in
        let is_block : branch_block f j ≡ block = sym stays ∙ same ∙ stands in
        open_in (ap (status_of c) (sym is_block) ∙ (agrees.branches x j leads).filled);
  }

  -- what the caller made then
  abbrev mine : Own
  mine = with_own agrees.own block (length (inserted_in f block).insts) shape

  structured : IsStructured mine g d
  structured types are =
      let same : inst ≡ length (inserted_in f block).insts = is_inst ∙ sym (inserted-insts f block) in
      let more : length g.insts ≡ length (inserted_in f block).insts + 1 = ap (λ (h : Body). length h.insts) function ∙ length-append (inserted_in f block).insts (node ∷ []) in
      along_structured declared.told types mine g c.ssa d.ssa inst (omega (arith, same, more)) declared.once may_lead
      (λ k. ap (λ (n : InstNode). args_of (slice_get (destinations n.shape) k)) node_is
      ∙ ap (λ passes. passes k) (sym (updated-same agrees.own.passed (length (inserted_in f block).insts) (shape_passes shape) inst same)))
      declared.along (subst (λ (h : Body). Structured types mine h c.ssa []) (sym function)
      (appended-structured _ types agrees.own f c.ssa block shape [] consistent exists
      (agrees.structured types (are_types c d types variables are))))

  led : LedLedger (record ended_ledger { answers = answered }) (record (fold (with_predecessor (next_answer ledger)) ended_ledger instruction.edges) { answers = answered; jump_tables = with_served ledger.jump_tables entries; exception_tables = with_tried ledger.exception_tables entries })
      (next_answer ledger) instruction.edges
  led =
      let all = led-ledger (next_answer ledger) instruction.edges ended_ledger in
      record { answers = refl; blocks = all.blocks; layout = all.layout; current = all.current; variables = all.variables; tables = all.tables }

  declares : LedgerAgrees (calls ++ call ∷ []) (record (fold (with_predecessor (next_answer ledger)) ended_ledger instruction.edges) { answers = answered; jump_tables = with_served ledger.jump_tables entries; exception_tables = with_tried ledger.exception_tables entries }) g d p
  declares =
      agrees-led (calls ++ call ∷ []) (record ended_ledger { answers = answered }) (record (fold (with_predecessor (next_answer ledger)) ended_ledger instruction.edges) { answers = answered; jump_tables = with_served ledger.jump_tables entries; exception_tables = with_tried ledger.exception_tables entries })
      g undeclared d p (next_answer ledger) inst instruction.edges (destinations shape) ended number is_new led
      (lead-still ledger (record ended_ledger { answers = answered }) instruction.edges (destinations shape)
      (λ k x is. changed-names ledger (record ended_ledger { answers = answered }) current.0 (λ (t : BlockState). filled (unpristine t)) (λ s. refl) changed.blocks k ∙ is)
      (lead-to calls instruction.edges (destinations shape) (name-number calls ledger f c p agrees) names))
      declared (λ b. refl) (refl, refl) mine structured same_callers (subst (IsEnded g d) (sym stands) (ended-here f g c d block makes.layout sets))

  -- a terminator, with its edges
  pub agrees-ended : is_terminator instruction.operation ≡ true → program.result_types instruction.operation instruction.controlling ≡ []
      → LedgerAgrees (calls ++ call ∷ []) (ledger_with ledger (Build entries instruction)) g d p
  agrees-ended ends none =
      subst (λ (types : List «Type»). LedgerAgrees (calls ++ call ∷ [])
      (record (fold (with_predecessor (next_answer ledger)) (if is_terminator instruction.operation then ended_ledger else with_begun ledger) instruction.edges) { answers = ledger.answers ++ (AnInstruction ∷ map AValue types) ∷ []; jump_tables = with_served ledger.jump_tables entries; exception_tables = with_tried ledger.exception_tables entries }) g d p)
      (sym none)
      (subst (λ (t : Bool). LedgerAgrees (calls ++ call ∷ [])
      (record (fold (with_predecessor (next_answer ledger)) (if t then ended_ledger else with_begun ledger) instruction.edges)
      { answers = answered; jump_tables = with_served ledger.jump_tables entries; exception_tables = with_tried ledger.exception_tables entries }) g d p)
      (sym ends) declares)
