-- The tests before a call are the condition of its request in the ledger.
use Rattle.std.proofs.Common.{◌≡◌, ◌≢◌, ℕ, zero, suc, ◌<◌, List, [], ◌∷◌, length, refl, ap, arith, sym, ◌∙◌, subst, ap₂}
use Rattle.std.specs.Prelude.{map, slice_get, Option, Some, None, option_map, is_some, Bool, true, false, not, ◌&&◌, ◌||◌, ◌==◌, slice_index, ◌↔◌, IsTrue}
use Rattle.std.specs.List.{All, list_all}
use Rattle.std.proofs.Math.Bool.{not-not}
use Rattle.std.proofs.lemmas.Option.{slice_get_within, get_or_from_slice_get}
use Rattle.std.proofs.lemmas.Bool.{and_from, and_parts, and_right, not-true, false_from_ne_true, false≢true}
use Rattle.clif_opcodes.specs.declared.opcodes.PooledConstOpcode.{PooledConstOpcode}
use Rattle.clif_types.specs.declared.types.«Type».{«Type»}
use Rattle.clif_types.specs.Signature.{SignatureShape}
use Rattle.clif_nodes.specs.declared.nodes.ValueNode.{ValueNode}
use Rattle.clif_ir.specs.Consistent.{PassedExists}
use Rattle.clif_instructions.specs.declared.block_call.BlockArg.{BlockArg}
use Rattle.clif_instructions.specs.declared.block_call.BlockArg.TheVariants as arg
use Rattle.clif_instructions.specs.declared.block_call.BlockCall.{BlockCall}
use Rattle.clif_ir.specs.Body.{Body, value_at}
use Rattle.clif_nodes.specs.Nodes.{no_value}
use Rattle.clif_meaning.specs.Name as meaning
use Rattle.clif_meaning.specs.Instruction.{Known}
use Rattle.clif_meaning.specs.SameType.{same_type}
use Rattle.clif_meaning.proofs.SameTypes.{same_type_refl, type_is}
use Rattle.clif_meaning.specs.Request.{AnsweredCall, number_of, AppendBlockParams, AppendFunctionParams, SwitchToBlock, SealBlock, DefVar, UseVar}
use Rattle.clif_meaning.specs.Ledger.{BlockState, Ledger, begins_with, block_state, has_block, has_predecessors, has_value, is_empty, is_filled, is_pristine, is_sealed, state_has, type_of, variable_type}
use Rattle.clif_meaning.specs.Acceptance.{allows, blames_variable, can_assign, can_lead, can_leave, has_argument, has_bytes, pooled_const}
use Rattle.clif_meaning.specs.Acceptance as acceptance
use Rattle.clif_records.specs.Tables.{is_yes}
use Rattle.clif_ssa.specs.Ssa.{predecessors_of, sealed_of}
use Rattle.clif_builder.specs.declared.context.BlockStatus.{BlockStatus}
use Rattle.clif_builder.specs.declared.context.BlockStatus.TheVariants.{Empty, Partial, Filled}
use Rattle.clif_builder.specs.declared.builder.FunctionBuilder.{FunctionBuilder}
use Rattle.clif_builder.specs.Context.{status_of}
use Rattle.clif_builder.specs.Builder.{CanLead, HasCurrent, is_elsewhere, is_empty_status, is_filled_status, is_free, is_free_at, is_nothing, may_be_left}
use Rattle.clif_builder.specs.Ledger.{NamesArguments, NamesEdge, NamesValue, NamesValues, block_name, ledger_of}
use Rattle.clif_calls.specs.declared.call.Edge.{Edge}
use Rattle.clif_calls.specs.declared.call.Name.{Name}
use Rattle.clif_resolution.specs.declared.answers.Answer.{Answer}
use Rattle.clif_replay.specs.Requests.{Naming, edge_of}
use Rattle.clif_replay.specs.Ready.{IsReady, can_append, can_append_function_params, can_define, can_switch, can_use}
use Rattle.clif_resolution.specs.Conditions.{IsFound, can_seal, is_open, is_open_at, is_target, may_lead}
use Rattle.clif_resolution.specs.Answers.{all_values, block_of, value_of}
use Rattle.clif_resolution.proofs.Options.{get-below, map-some}
use Rattle.clif_replay.proofs.Options.{name-of-none, name-of-some, some-is}
use Rattle.clif_replay.proofs.ReadyLaws.{block-found, block-missing, block-there, read, value-exists, value-found, value-missing}
use Rattle.clif_resolution.proofs.Found.{passed-values}

filled-same : {R : Type 0} {naming : Naming} {declared : SignatureShape} (calls : List AnsweredCall) (b : FunctionBuilder R) (answers : List Answer) → IsReady naming declared calls b answers
    → (name : meaning.Name) (block : ℕ) → block_name (ledger_of calls) block ≡ Some name → is_filled (ledger_of calls) name ≡ is_filled_status (status_of b.ctx.now.parts block)
filled-same calls b answers ready name block named =
    let s = (read calls b answers ready).state block name named in
    ap (state_has (λ (state : BlockState). state.is_filled)) s.found ∙ s.agrees.is_filled

pristine-same : {R : Type 0} {naming : Naming} {declared : SignatureShape} (calls : List AnsweredCall) (b : FunctionBuilder R) (answers : List Answer) → IsReady naming declared calls b answers
    → (name : meaning.Name) (block : ℕ) → block_name (ledger_of calls) block ≡ Some name → is_pristine (ledger_of calls) name ≡ is_empty_status (status_of b.ctx.now.parts block)
pristine-same calls b answers ready name block named =
    let s = (read calls b answers ready).state block name named in
    ap (state_has (λ (state : BlockState). state.is_pristine)) s.found ∙ s.agrees.is_pristine

pub sealed-same : {R : Type 0} {naming : Naming} {declared : SignatureShape} (calls : List AnsweredCall) (b : FunctionBuilder R) (answers : List Answer) → IsReady naming declared calls b answers
    → (name : meaning.Name) (block : ℕ) → block_name (ledger_of calls) block ≡ Some name → is_sealed (ledger_of calls) name ≡ is_yes (sealed_of b.ctx.now.parts.ssa block)
sealed-same calls b answers ready name block named =
    let s = (read calls b answers ready).state block name named in
    ap (state_has (λ (state : BlockState). state.is_sealed)) s.found ∙ s.agrees.is_sealed

-- names are as many as their numbers
same-empty : (calls : List AnsweredCall) (names : List meaning.Name) (numbers : List ℕ) → map (number_of calls) names ≡ map Some numbers → is_empty names ≡ is_nothing numbers
same-empty calls [] [] same = refl
same-empty calls [] (k ∷ numbers) same = let no_way : ⊥ = cc in absurd no_way
same-empty calls (name ∷ names) [] same = let no_way : ⊥ = cc in absurd no_way
same-empty calls (name ∷ names) (k ∷ numbers) same = refl

predecessors-same : {R : Type 0} {naming : Naming} {declared : SignatureShape} (calls : List AnsweredCall) (b : FunctionBuilder R) (answers : List Answer) → IsReady naming declared calls b answers
    → (name : meaning.Name) (block : ℕ) → block_name (ledger_of calls) block ≡ Some name
    → has_predecessors (ledger_of calls) name ≡ not (is_nothing (predecessors_of b.ctx.now.parts.ssa block))
predecessors-same calls b answers ready name block named =
    let s = (read calls b answers ready).state block name named in
    ap (state_has (λ (state : BlockState). not (is_empty state.predecessors))) s.found
    ∙ ap not (same-empty calls s.state.predecessors (predecessors_of b.ctx.now.parts.ssa block) s.agrees.predecessors)

-- there is a current block that isn't filled
pub open-same : {R : Type 0} {naming : Naming} {declared : SignatureShape} (calls : List AnsweredCall) (b : FunctionBuilder R) (answers : List Answer) → IsReady naming declared calls b answers
    → acceptance.is_open (ledger_of calls) (ledger_of calls).current ≡ is_open b
open-same calls b answers ready = by b.position refl
  where
    by : (p : Option ℕ) → b.position ≡ p → acceptance.is_open (ledger_of calls) (ledger_of calls).current ≡ is_open b
    by None at =
        let none : (ledger_of calls).current ≡ None = name-of-none (block_name (ledger_of calls)) (ledger_of calls).current (ready.stands.ledger.current ∙ ap (option_map (block_name (ledger_of calls))) at) in
        ap (acceptance.is_open (ledger_of calls)) none ∙ ap (λ (o : Option ℕ). is_open_at o b.ctx.now.parts) (sym at)
    by (Some block) at =
        let current = name-of-some (block_name (ledger_of calls)) (ledger_of calls).current block (ready.stands.ledger.current ∙ ap (option_map (block_name (ledger_of calls))) at) in
        ap (acceptance.is_open (ledger_of calls)) current.1 ∙ ap not (filled-same calls b answers ready current.0 block current.2)
        ∙ ap (λ (o : Option ℕ). is_open_at o b.ctx.now.parts) (sym at)

-- the first block of the layout, by name and by number
elsewhere-same : (ledger : Ledger) (block : ℕ) (name : meaning.Name) → ((k : ℕ) (x : meaning.Name) → block_name ledger k ≡ Some x → meaning.same_name x name ≡ (k == block))
    → (names : List meaning.Name) (numbers : List ℕ) → map Some names ≡ map (block_name ledger) numbers
    → (not (is_empty names) && not (begins_with names name)) ≡ is_elsewhere numbers block
elsewhere-same ledger block name test [] [] same = refl
elsewhere-same ledger block name test [] (k ∷ numbers) same = let no_way : ⊥ = cc in absurd no_way
elsewhere-same ledger block name test (x ∷ names) [] same = let no_way : ⊥ = cc in absurd no_way
elsewhere-same ledger block name test (x ∷ names) (k ∷ numbers) same =
    let here : block_name ledger k ≡ Some x = cc in
    ap not (test k x here)

-- whether the current block may be left
pub leave-same : {R : Type 0} {naming : Naming} {declared : SignatureShape} (calls : List AnsweredCall) (b : FunctionBuilder R) (answers : List Answer) → IsReady naming declared calls b answers
    → can_leave (ledger_of calls) (ledger_of calls).current ≡ is_free b
leave-same calls b answers ready = by b.position refl
  where
    cases : (away sealed nothing : Bool) (s : BlockStatus)
        → ((((away && sealed) && not (not nothing)) || is_empty_status s) || is_filled_status s) ≡ (may_be_left s || ((away && sealed) && nothing))
    cases true true true Empty = refl
    cases true true true Partial = refl
    cases true true true Filled = refl
    cases true true false Empty = refl
    cases true true false Partial = refl
    cases true true false Filled = refl
    cases true false nothing Empty = refl
    cases true false nothing Partial = refl
    cases true false nothing Filled = refl
    cases false sealed nothing Empty = refl
    cases false sealed nothing Partial = refl
    cases false sealed nothing Filled = refl

    by : (p : Option ℕ) → b.position ≡ p → can_leave (ledger_of calls) (ledger_of calls).current ≡ is_free b
    by None at =
        let none : (ledger_of calls).current ≡ None = name-of-none (block_name (ledger_of calls)) (ledger_of calls).current (ready.stands.ledger.current ∙ ap (option_map (block_name (ledger_of calls))) at) in
        ap (can_leave (ledger_of calls)) none ∙ ap (λ (o : Option ℕ). is_free_at o b.func.now b.ctx.now.parts) (sym at)
    by (Some block) at =
        let current = name-of-some (block_name (ledger_of calls)) (ledger_of calls).current block (ready.stands.ledger.current ∙ ap (option_map (block_name (ledger_of calls))) at) in
        let filled = filled-same calls b answers ready current.0 block current.2 in
        let pristine = pristine-same calls b answers ready current.0 block current.2 in
        let sealed = sealed-same calls b answers ready current.0 block current.2 in
        let alone = predecessors-same calls b answers ready current.0 block current.2 in
        let away = elsewhere-same (ledger_of calls) block current.0 (λ k x here. (read calls b answers ready).same k block x current.0 here current.2) (ledger_of calls).layout b.func.now.layout ready.stands.ledger.layout in
        ap (can_leave (ledger_of calls)) current.1
        ∙ rw (filled, pristine, sealed, alone, away) (cases (is_elsewhere b.func.now.layout block) (is_yes (sealed_of b.ctx.now.parts.ssa block)) (is_nothing (predecessors_of b.ctx.now.parts.ssa block)) (status_of b.ctx.now.parts block))
        ∙ ap (λ (o : Option ℕ). is_free_at o b.func.now b.ctx.now.parts) (sym at)

-- `switch_to_block`
pub switch-none : {R : Type 0} {naming : Naming} {declared : SignatureShape} (calls : List AnsweredCall) (b : FunctionBuilder R) (answers : List Answer) → IsReady naming declared calls b answers
    → (name : Name) → block_of answers name ≡ None → allows (ledger_of calls) (SwitchToBlock (naming name)) ≡ false
switch-none calls b answers ready name missing = let none = block-missing calls b answers ready name missing in rw none refl

pub switch-some : {R : Type 0} {naming : Naming} {declared : SignatureShape} (calls : List AnsweredCall) (b : FunctionBuilder R) (answers : List Answer) → IsReady naming declared calls b answers
    → (name : Name) (block : ℕ) → block_of answers name ≡ Some block → allows (ledger_of calls) (SwitchToBlock (naming name)) ≡ can_switch b block
switch-some {naming} calls b answers ready name block found =
    let names = block-found calls b answers ready name block found in
    let there = names.is_block in
    let named = (read calls b answers ready).named (naming name) block names in
    let filled = filled-same calls b answers ready (naming name) block named in
    let leaves = leave-same calls b answers ready in
    rw (there, filled, leaves) refl

-- `seal_block`
pub seal-none : {R : Type 0} {naming : Naming} {declared : SignatureShape} (calls : List AnsweredCall) (b : FunctionBuilder R) (answers : List Answer) → IsReady naming declared calls b answers
    → (name : Name) → block_of answers name ≡ None → allows (ledger_of calls) (SealBlock (naming name)) ≡ false
seal-none calls b answers ready name missing = let none = block-missing calls b answers ready name missing in rw none refl

pub seal-some : {R : Type 0} {naming : Naming} {declared : SignatureShape} (calls : List AnsweredCall) (b : FunctionBuilder R) (answers : List Answer) → IsReady naming declared calls b answers
    → (name : Name) (block : ℕ) → block_of answers name ≡ Some block → allows (ledger_of calls) (SealBlock (naming name)) ≡ can_seal b block
seal-some {naming} calls b answers ready name block found =
    let names = block-found calls b answers ready name block found in
    let there = names.is_block in
    let named = (read calls b answers ready).named (naming name) block names in
    let sealed = sealed-same calls b answers ready (naming name) block named in
    rw (there, sealed) refl

-- `append_block_param`
pub no-state : (o : Option BlockState) (test : BlockState → Bool) → is_some o ≡ false → state_has test o ≡ false
no-state None test is = refl
no-state (Some state) test is = let no_way : ⊥ = cc in absurd no_way

pub empty-is : (s : BlockStatus) → is_empty_status s ≡ true → s ≡ Empty
empty-is Empty is = refl
empty-is Partial is = let no_way : ⊥ = cc in absurd no_way
empty-is Filled is = let no_way : ⊥ = cc in absurd no_way

pub append-none : {R : Type 0} {naming : Naming} {declared : SignatureShape} (calls : List AnsweredCall) (b : FunctionBuilder R) (answers : List Answer) → IsReady naming declared calls b answers
    → (name : Name) (types : List «Type») → block_of answers name ≡ None → allows (ledger_of calls) (AppendBlockParams (naming name) types) ≡ false
append-none {naming} calls b answers ready name types missing =
    no-state (block_state (ledger_of calls) (naming name)) (λ (state : BlockState). state.is_pristine) (block-missing calls b answers ready name missing)

pub append-some : {R : Type 0} {naming : Naming} {declared : SignatureShape} (calls : List AnsweredCall) (b : FunctionBuilder R) (answers : List Answer) → IsReady naming declared calls b answers
    → (name : Name) (block : ℕ) (types : List «Type») → block_of answers name ≡ Some block → allows (ledger_of calls) (AppendBlockParams (naming name) types) ≡ can_append b block
append-some {naming} calls b answers ready name block types found =
    let names = block-found calls b answers ready name block found in
    let named = (read calls b answers ready).named (naming name) block names in
    pristine-same calls b answers ready (naming name) block named

-- `append_block_params_for_function_params`
pub alone-from : (branches : List ℕ) (has : Bool) → (IsTrue has ↔ (branches ≢ [])) → not has ≡ is_nothing branches
alone-from [] true is = absurd (is.0 refl refl)
alone-from [] false is = refl
alone-from (branch ∷ branches) true is = refl
alone-from (branch ∷ branches) false is = let there : false ≡ true = is.1 (λ same. cc) in absurd (false≢true there)

pub nothing-is : (branches : List ℕ) → is_nothing branches ≡ true → branches ≡ []
nothing-is [] is = refl
nothing-is (branch ∷ branches) is = absurd (false≢true is)

pub function-params-none : {R : Type 0} {naming : Naming} {declared : SignatureShape} (calls : List AnsweredCall) (b : FunctionBuilder R) (answers : List Answer) → IsReady naming declared calls b answers
    → (name : Name) (types : List «Type») → block_of answers name ≡ None → allows (ledger_of calls) (AppendFunctionParams (naming name) types) ≡ false
function-params-none {naming} calls b answers ready name types missing =
    ap (λ (test : Bool). test && not (has_predecessors (ledger_of calls) (naming name))) (append-none calls b answers ready name types missing)

pub function-params-some : {R : Type 0} {naming : Naming} {declared : SignatureShape} (calls : List AnsweredCall) (b : FunctionBuilder R) (answers : List Answer) → IsReady naming declared calls b answers
    → (name : Name) (block : ℕ) (types : List «Type») → block_of answers name ≡ Some block
    → allows (ledger_of calls) (AppendFunctionParams (naming name) types) ≡ can_append_function_params b block
function-params-some {naming} calls b answers ready name block types found =
    let names = block-found calls b answers ready name block found in
    let named = (read calls b answers ready).named (naming name) block names in
    ap (λ (test : Bool). test && not (has_predecessors (ledger_of calls) (naming name))) (append-some calls b answers ready name block types found)
    ∙ ap (λ (test : Bool). can_append b block && not test) (predecessors-same calls b answers ready (naming name) block named)
    ∙ ap (λ (test : Bool). can_append b block && test) (not-not (is_nothing (predecessors_of b.ctx.now.parts.ssa block)))

-- an instruction of a pooled constant
pub pooled-same : {R : Type 0} {naming : Naming} {declared : SignatureShape} (calls : List AnsweredCall) (b : FunctionBuilder R) (answers : List Answer) → IsReady naming declared calls b answers
    → (opcode : PooledConstOpcode) (ty : «Type») (bytes : List ℕ) → allows (ledger_of calls) (pooled_const opcode ty bytes) ≡ is_open b && has_bytes opcode ty bytes
pooled-same calls b answers ready opcode ty bytes =
    let opens = open-same calls b answers ready in
    rw opens (by (is_open b) (has_bytes opcode ty bytes))
  where
    by : (first second : Bool) → ((((first && true) && true) && second) && true) ≡ (first && second)
    by true true = refl
    by true false = refl
    by false second = refl

-- `def_var`
no-value-assigned : (ty : Option «Type») → can_assign ty None ≡ false
no-value-assigned None = refl
no-value-assigned (Some ty) = refl

no-variable-assigned : (other : Option «Type») → can_assign None other ≡ false
no-variable-assigned None = refl
no-variable-assigned (Some ty) = refl

no-type : (o : Option «Type») → is_some o ≡ false → o ≡ None
no-type None is = refl
no-type (Some ty) is = let no_way : ⊥ = cc in absurd no_way

pub define-none : {R : Type 0} {naming : Naming} {declared : SignatureShape} (calls : List AnsweredCall) (b : FunctionBuilder R) (answers : List Answer) → IsReady naming declared calls b answers
    → (variable : ℕ) (name : Name) → value_of b.func.now answers name ≡ None → allows (ledger_of calls) (DefVar variable (naming name)) ≡ false
define-none {naming} calls b answers ready variable name missing =
    let none : type_of (ledger_of calls) (naming name) ≡ None = no-type (type_of (ledger_of calls) (naming name)) (value-missing calls b answers ready name missing) in
    and_right _ _ (ap (can_assign (variable_type (ledger_of calls) variable)) none ∙ no-value-assigned (variable_type (ledger_of calls) variable))

pub define-undeclared : {R : Type 0} {naming : Naming} {declared : SignatureShape} (calls : List AnsweredCall) (b : FunctionBuilder R) (answers : List Answer) → IsReady naming declared calls b answers
    → (variable : ℕ) (name : meaning.Name) → slice_get b.ctx.now.parts.variables variable ≡ None → allows (ledger_of calls) (DefVar variable name) ≡ false
define-undeclared calls b answers ready variable name missing =
    let none : variable_type (ledger_of calls) variable ≡ None = (read calls b answers ready).variable variable ∙ missing in
    and_right _ _ (ap (λ (o : Option «Type»). can_assign o (type_of (ledger_of calls) name)) none ∙ no-variable-assigned (type_of (ledger_of calls) name))

-- the ledger's type of a value is the function's
pub value-type-same : {R : Type 0} {naming : Naming} {declared : SignatureShape} (calls : List AnsweredCall) (b : FunctionBuilder R) (answers : List Answer) → IsReady naming declared calls b answers
    → (name : Name) (value : ℕ) → value_of b.func.now answers name ≡ Some value → type_of (ledger_of calls) (naming name) ≡ Some (value_at b.func.now value).ty
value-type-same {naming} calls b answers ready name value found =
    let names = value-found calls b answers ready name value found in
    let typed = (read calls b answers ready).value (naming name) value names in
    let node = map-some (λ (n : ValueNode). n.ty) (slice_get b.func.now.values value) typed.0 typed.2 in
    typed.1 ∙ ap Some (sym (ap (λ (n : ValueNode). n.ty) (get_or_from_slice_get b.func.now.values value node.0 no_value node.1) ∙ node.2))

pub define-some : {R : Type 0} {naming : Naming} {declared : SignatureShape} (calls : List AnsweredCall) (b : FunctionBuilder R) (answers : List Answer) → IsReady naming declared calls b answers
    → (variable : ℕ) (name : Name) (value : ℕ) (ty : «Type») → value_of b.func.now answers name ≡ Some value → slice_get b.ctx.now.parts.variables variable ≡ Some ty
    → allows (ledger_of calls) (DefVar variable (naming name)) ≡ can_define b ty value
define-some calls b answers ready variable name value ty found declared =
    let opens = open-same calls b answers ready in
    let of_value = value-type-same calls b answers ready name value found in
    let of_variable : variable_type (ledger_of calls) variable ≡ Some ty = (read calls b answers ready).variable variable ∙ declared in
    rw (opens, of_variable, of_value) refl

-- `use_var`
pub use-same : {R : Type 0} {naming : Naming} {declared : SignatureShape} (calls : List AnsweredCall) (b : FunctionBuilder R) (answers : List Answer) → IsReady naming declared calls b answers
    → (variable : ℕ) → allows (ledger_of calls) (UseVar variable) ≡ can_use b b.ctx.now.parts.variables variable
use-same calls b answers ready variable =
    let opens = open-same calls b answers ready in
    let of_variable = (read calls b answers ready).variable variable in
    rw (opens, of_variable) refl

-- the values that names lead to are there
pub values-same : {R : Type 0} {naming : Naming} {declared : SignatureShape} (calls : List AnsweredCall) (b : FunctionBuilder R) (answers : List Answer) → IsReady naming declared calls b answers
    → (names : List Name) → list_all (has_value (ledger_of calls)) (map naming names) ≡ all_values b.func.now answers names
values-same {naming} calls b answers ready [] = refl
values-same {naming} calls b answers ready (name ∷ names) =
    let rest = values-same calls b answers ready names in
    let here : has_value (ledger_of calls) (naming name) ≡ is_some (value_of b.func.now answers name) = by (value_of b.func.now answers name) refl in
    cc
  where
    by : (o : Option ℕ) → value_of b.func.now answers name ≡ o → has_value (ledger_of calls) (naming name) ≡ is_some (value_of b.func.now answers name)
    by None is = value-missing calls b answers ready name is ∙ ap is_some (sym is)
    by (Some value) is = (value-found calls b answers ready name value is).is_value ∙ ap is_some (sym is)

-- a current block that isn't filled
pub has-current : {R : Type 0} {naming : Naming} {declared : SignatureShape} (calls : List AnsweredCall) (b : FunctionBuilder R) (answers : List Answer) → IsReady naming declared calls b answers → is_open b ≡ true → HasCurrent b
has-current calls b answers ready opens = by b.position refl opens
  where
    not_filled : (s : BlockStatus) → not (is_filled_status s) ≡ true → s ≢ Filled
    not_filled Empty is same = let no_way : ⊥ = cc in absurd no_way
    not_filled Partial is same = let no_way : ⊥ = cc in absurd no_way
    not_filled Filled is same = let no_way : ⊥ = cc in absurd no_way

    by : (p : Option ℕ) → b.position ≡ p → is_open_at p b.ctx.now.parts ≡ true → HasCurrent b
    by None at is = let no_way : ⊥ = cc in absurd no_way
    by (Some block) at is =
        let current = name-of-some (block_name (ledger_of calls)) (ledger_of calls).current block (ready.stands.ledger.current ∙ ap (option_map (block_name (ledger_of calls))) at) in
        (block, at, (read calls b answers ready).exists block current.0 current.2, not_filled (status_of b.ctx.now.parts block) is)

-- the values that names lead to exist, and have the names' numbers
pub all-exist : {R : Type 0} {naming : Naming} {declared : SignatureShape} (calls : List AnsweredCall) (b : FunctionBuilder R) (answers : List Answer) → IsReady naming declared calls b answers
    → (names : List Name) (values : List ℕ) → map (value_of b.func.now answers) names ≡ map Some values
    → (k : ℕ) → k < length values → slice_index values k < length b.func.now.values
all-exist calls b answers ready [] [] found k inside = absurd (omega (arith, inside))
all-exist calls b answers ready [] (value ∷ values) found k inside = let no_way : ⊥ = cc in absurd no_way
all-exist calls b answers ready (name ∷ names) [] found k inside = let no_way : ⊥ = cc in absurd no_way
all-exist calls b answers ready (name ∷ names) (value ∷ values) found zero inside =
    let here : value_of b.func.now answers name ≡ Some value = cc in value-exists calls b answers ready name value here
all-exist calls b answers ready (name ∷ names) (value ∷ values) found (suc k) inside =
    let rest : map (value_of b.func.now answers) names ≡ map Some values = cc in all-exist calls b answers ready names values rest k (omega (arith, inside))

pub all-named : {R : Type 0} {naming : Naming} {declared : SignatureShape} (calls : List AnsweredCall) (b : FunctionBuilder R) (answers : List Answer) → IsReady naming declared calls b answers
    → (names : List Name) (values : List ℕ) → map (value_of b.func.now answers) names ≡ map Some values → NamesValues calls (map naming names) values
all-named {naming} calls b answers ready [] [] found = record { numbers = refl; are_values = tt }
all-named {naming} calls b answers ready [] (value ∷ values) found = let no_way : ⊥ = cc in absurd no_way
all-named {naming} calls b answers ready (name ∷ names) [] found = let no_way : ⊥ = cc in absurd no_way
all-named {naming} calls b answers ready (name ∷ names) (value ∷ values) found =
    let here : value_of b.func.now answers name ≡ Some value = cc in
    let rest : map (value_of b.func.now answers) names ≡ map Some values = cc in
    let first : NamesValue calls (naming name) value = value-found calls b answers ready name value here in
    let others = all-named calls b answers ready names values rest in
    record {
      numbers = ap₂ (λ (o : Option ℕ) (os : List (Option ℕ)). o ∷ os) first.number others.numbers;
      are_values = (first.is_value, others.are_values);
    }

-- a variable that may be used was declared
pub declared-there : {R : Type 0} (b : FunctionBuilder R) (types variables : List «Type») (variable : ℕ) → types ≡ variables → can_use b types variable ≡ true → variable < length variables
declared-there b types variables variable same holds =
    let parts = and_parts (is_open b) (is_some (slice_get types variable)) holds in
    let entry = some-is (slice_get types variable) parts.1 in
    subst (λ (xs : List «Type»). variable < length xs) same (slice_get_within types variable entry.0 entry.1)

-- a test that tells whether types are equal is that test
pub same_from_iff : (r : Bool) (a b : «Type») → ((r ≡ true) ↔ (a ≡ b)) → r ≡ same_type a b
same_from_iff true a b tells = sym (subst (λ (x : «Type»). same_type a x ≡ true) (tells.0 refl) (same_type_refl a))
same_from_iff false a b tells = sym (false_from_ne_true (same_type a b) (λ same. false≢true (tells.1 (type_is a b same))))

-- TRYING ----------------------------------------------------------------------------------------------------------

-- `try_use_var`
pub try-use-closed : {R : Type 0} {naming : Naming} {declared : SignatureShape} (calls : List AnsweredCall) (b : FunctionBuilder R) (answers : List Answer) → IsReady naming declared calls b answers
    → (variable : ℕ) → is_open b ≡ false → (allows (ledger_of calls) (UseVar variable) ≡ false) × (blames_variable (ledger_of calls) (UseVar variable) ≡ false)
try-use-closed calls b answers ready variable closed =
    let opens = open-same calls b answers ready ∙ closed in (
      ap (λ (test : Bool). test && is_some (variable_type (ledger_of calls) variable)) opens,
      ap (λ (test : Bool). test && not (is_some (variable_type (ledger_of calls) variable))) opens,
    )

pub try-use-undeclared : {R : Type 0} {naming : Naming} {declared : SignatureShape} (calls : List AnsweredCall) (b : FunctionBuilder R) (answers : List Answer) → IsReady naming declared calls b answers
    → (variable : ℕ) → is_open b ≡ true → slice_get b.ctx.now.parts.variables variable ≡ None
    → (allows (ledger_of calls) (UseVar variable) ≡ false) × (blames_variable (ledger_of calls) (UseVar variable) ≡ true)
try-use-undeclared calls b answers ready variable here none =
    let opens = open-same calls b answers ready ∙ here in
    let undeclared : variable_type (ledger_of calls) variable ≡ None = (read calls b answers ready).variable variable ∙ none in (
      ap (λ (test : Bool). test && is_some (variable_type (ledger_of calls) variable)) opens ∙ ap is_some undeclared,
      ap (λ (test : Bool). test && not (is_some (variable_type (ledger_of calls) variable))) opens ∙ ap (λ (o : Option «Type»). not (is_some o)) undeclared,
    )

-- a variable that is declared may be used
pub use-declared : {R : Type 0} {naming : Naming} {declared : SignatureShape} (calls : List AnsweredCall) (b : FunctionBuilder R) (answers : List Answer) → IsReady naming declared calls b answers
    → (variable : ℕ) → is_open b ≡ true → variable < length b.ctx.now.parts.variables → allows (ledger_of calls) (UseVar variable) ≡ true
use-declared calls b answers ready variable here declared =
    let ty = get-below b.ctx.now.parts.variables variable declared in
    use-same calls b answers ready variable ∙ and_from (is_open b) (is_some (slice_get b.ctx.now.parts.variables variable)) here (ap is_some ty.1)

-- `try_def_var`
pub try-define-none : {R : Type 0} {naming : Naming} {declared : SignatureShape} (calls : List AnsweredCall) (b : FunctionBuilder R) (answers : List Answer) → IsReady naming declared calls b answers
    → (variable : ℕ) (name : Name) → value_of b.func.now answers name ≡ None
    → (allows (ledger_of calls) (DefVar variable (naming name)) ≡ false) × (blames_variable (ledger_of calls) (DefVar variable (naming name)) ≡ false)
try-define-none {naming} calls b answers ready variable name missing =
    let none = value-missing calls b answers ready name missing in (
      define-none calls b answers ready variable name missing,
      ap (λ (test : Bool). test && not (can_assign (variable_type (ledger_of calls) variable) (type_of (ledger_of calls) (naming name))))
          (and_right (acceptance.is_open (ledger_of calls) (ledger_of calls).current) (has_value (ledger_of calls) (naming name)) none),
    )

pub try-define-closed : {R : Type 0} {naming : Naming} {declared : SignatureShape} (calls : List AnsweredCall) (b : FunctionBuilder R) (answers : List Answer) → IsReady naming declared calls b answers
    → (variable : ℕ) (name : Name) → is_open b ≡ false
    → (allows (ledger_of calls) (DefVar variable (naming name)) ≡ false) × (blames_variable (ledger_of calls) (DefVar variable (naming name)) ≡ false)
try-define-closed {naming} calls b answers ready variable name closed =
    let opens = open-same calls b answers ready ∙ closed in
    let assigns : Bool = can_assign (variable_type (ledger_of calls) variable) (type_of (ledger_of calls) (naming name)) in (
      ap (λ (test : Bool). test && assigns) opens,
      ap (λ (test : Bool). test && has_value (ledger_of calls) (naming name) && not assigns) opens,
    )

-- a value of another type can't be assigned
mistyped-assigned : (o : Option «Type») (ty : «Type») → o ≢ Some ty → can_assign o (Some ty) ≡ false
mistyped-assigned None ty other = refl
mistyped-assigned (Some own) ty other = false_from_ne_true (same_type own ty) (λ same. other (ap Some (type_is own ty same)))

pub try-define-mistyped : {R : Type 0} {naming : Naming} {declared : SignatureShape} (calls : List AnsweredCall) (b : FunctionBuilder R) (answers : List Answer) → IsReady naming declared calls b answers
    → (variable : ℕ) (name : Name) (value : ℕ) → is_open b ≡ true → value_of b.func.now answers name ≡ Some value → slice_get b.ctx.now.parts.variables variable ≢ Some (value_at b.func.now value).ty
    → (allows (ledger_of calls) (DefVar variable (naming name)) ≡ false) × (blames_variable (ledger_of calls) (DefVar variable (naming name)) ≡ true)
try-define-mistyped {naming} calls b answers ready variable name value here found other =
    let opens = open-same calls b answers ready ∙ here in
    let of_value = value-type-same calls b answers ready name value found in
    let of_variable = (read calls b answers ready).variable variable in
    let denied : can_assign (variable_type (ledger_of calls) variable) (type_of (ledger_of calls) (naming name)) ≡ false =
    ap (λ (o : Option «Type»). can_assign o (type_of (ledger_of calls) (naming name))) of_variable
    ∙ ap (can_assign (slice_get b.ctx.now.parts.variables variable)) of_value ∙ mistyped-assigned (slice_get b.ctx.now.parts.variables variable) (value_at b.func.now value).ty other in (
      ap (λ (test : Bool). test && can_assign (variable_type (ledger_of calls) variable) (type_of (ledger_of calls) (naming name))) opens ∙ denied,
      ap (λ (test : Bool). test && has_value (ledger_of calls) (naming name) && not (can_assign (variable_type (ledger_of calls) variable) (type_of (ledger_of calls) (naming name)))) opens
          ∙ ap (λ (test : Bool). test && not (can_assign (variable_type (ledger_of calls) variable) (type_of (ledger_of calls) (naming name)))) (ap is_some of_value)
          ∙ ap not denied,
    )

-- a value of the variable's type may be assigned
pub define-typed : {R : Type 0} {naming : Naming} {declared : SignatureShape} (calls : List AnsweredCall) (b : FunctionBuilder R) (answers : List Answer) → IsReady naming declared calls b answers
    → (variable : ℕ) (name : Name) (value : ℕ) → is_open b ≡ true → value_of b.func.now answers name ≡ Some value → slice_get b.ctx.now.parts.variables variable ≡ Some (value_at b.func.now value).ty
    → allows (ledger_of calls) (DefVar variable (naming name)) ≡ true
define-typed calls b answers ready variable name value here found typed =
    let ty : «Type» = (value_at b.func.now value).ty in
    define-some calls b answers ready variable name value ty found typed ∙ and_from (is_open b) (same_type ty ty) here (same_type_refl ty)

-- EDGES -----------------------------------------------------------------------------------------------------------

pub arguments-same : (naming : Naming) (ledger : Ledger) (names : List Name) → list_all (has_argument ledger) (map (λ name. Known (naming name)) names) ≡ list_all (has_value ledger) (map naming names)
arguments-same naming ledger [] = refl
arguments-same naming ledger (name ∷ names) = ap (λ (rest : Bool). has_value ledger (naming name) && rest) (arguments-same naming ledger names)

pub target-same : {R : Type 0} {naming : Naming} {declared : SignatureShape} (calls : List AnsweredCall) (b : FunctionBuilder R) (answers : List Answer) → IsReady naming declared calls b answers
    → (name : Name) → (has_block (ledger_of calls) (naming name) && not (is_sealed (ledger_of calls) (naming name))) ≡ is_target b (block_of answers name)
target-same {naming} calls b answers ready name = by (block_of answers name) refl
  where
    by : (o : Option ℕ) → block_of answers name ≡ o → (has_block (ledger_of calls) (naming name) && not (is_sealed (ledger_of calls) (naming name))) ≡ is_target b (block_of answers name)
    by None at = seal-none calls b answers ready name at ∙ ap (is_target b) (sym at)
    by (Some block) at = seal-some calls b answers ready name block at ∙ ap (is_target b) (sym at)

-- an edge may be made in the ledger where it may be made here
pub lead-same : {R : Type 0} {naming : Naming} {declared : SignatureShape} (calls : List AnsweredCall) (b : FunctionBuilder R) (answers : List Answer) → IsReady naming declared calls b answers
    → (edge : Edge) → can_lead (ledger_of calls) (edge_of naming edge) ≡ may_lead b answers edge
lead-same {naming} calls b answers ready edge =
    ap (λ (test : Bool). test && list_all (has_argument (ledger_of calls)) (map (λ name. Known (naming name)) edge.args.items)) (target-same calls b answers ready edge.block)
    ∙ ap (λ (all : Bool). is_target b (block_of answers edge.block) && all)
    (arguments-same naming (ledger_of calls) edge.args.items ∙ values-same calls b answers ready edge.args.items)

-- what names lead to is passed
passed-named : {R : Type 0} {naming : Naming} {declared : SignatureShape} (calls : List AnsweredCall) (b : FunctionBuilder R) (answers : List Answer) → IsReady naming declared calls b answers
    → (names : List Name) (values : List ℕ) → map (value_of b.func.now answers) names ≡ map Some values → NamesArguments calls (map (λ name. Known (naming name)) names) (map arg.Value values)
passed-named calls b answers ready [] [] found = tt
passed-named calls b answers ready [] (value ∷ values) found = let no_way : ⊥ = cc in absurd no_way
passed-named calls b answers ready (name ∷ names) [] found = let no_way : ⊥ = cc in absurd no_way
passed-named calls b answers ready (name ∷ names) (value ∷ values) found =
    let here : value_of b.func.now answers name ≡ Some value = cc in
    let rest : map (value_of b.func.now answers) names ≡ map Some values = cc in
    (value-found calls b answers ready name value here, passed-named calls b answers ready names values rest)

pub found-names : {R : Type 0} {naming : Naming} {declared : SignatureShape} (calls : List AnsweredCall) (b : FunctionBuilder R) (answers : List Answer) → IsReady naming declared calls b answers
    → (edge : Edge) (call : BlockCall) → IsFound b answers edge call → NamesEdge calls (edge_of naming edge) call
found-names {naming} calls b answers ready edge call found =
    let passed = passed-values b.func.now answers edge.args.items call.args found.passed in
    record {
      target = block-found calls b answers ready edge.block call.block found.target;
      arguments = subst (λ (xs : List BlockArg). NamesArguments calls (map (λ name. Known (naming name)) edge.args.items) xs) (sym passed.2)
          (passed-named calls b answers ready edge.args.items passed.0 passed.1);
    }

-- and exists
passed-exist : (f : Body) (values : List ℕ) → ((k : ℕ) → k < length values → slice_index values k < length f.values) → All (PassedExists f) (map arg.Value values)
passed-exist f [] exist k d inside = absurd (omega (arith, inside))
passed-exist f (value ∷ values) exist zero d inside = exist zero (omega arith)
passed-exist f (value ∷ values) exist (suc k) d inside = passed-exist f values (λ j below. exist (suc j) (omega (arith, below))) k d (omega (arith, inside))

pub found-exists : {R : Type 0} {naming : Naming} {declared : SignatureShape} (calls : List AnsweredCall) (b : FunctionBuilder R) (answers : List Answer) → IsReady naming declared calls b answers
    → (edge : Edge) (call : BlockCall) → IsFound b answers edge call → CanLead b call
found-exists calls b answers ready edge call found =
    let passed = passed-values b.func.now answers edge.args.items call.args found.passed in
    let exist = passed-exist b.func.now passed.0 (all-exist calls b answers ready edge.args.items passed.0 passed.1) in (
      (
        block-there calls b answers ready edge.block call.block found.target,
        subst (λ (xs : List BlockArg). All (PassedExists b.func.now) xs) (sym passed.2) exist,
      ),
      not-true (is_yes (sealed_of b.ctx.now.parts.ssa call.block)) found.unsealed,
    )
