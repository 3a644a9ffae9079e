-- Edges, jump tables and branches by them: when they are allowed, and what a builder stands for afterwards.
use Rattle.std.proofs.Common.{◌≡◌, ℕ, zero, suc, List, [], ◌∷◌, ◌++◌, length, refl, ap, arith, sym, ◌∙◌, subst, inl, inr}
use Rattle.std.specs.Prelude.{◌↔◌, IsTrue, map, slice_get, slice_set, Option, Some, None, is_some, option_and_then, option_map, Bool, true, false, ◌&&◌, Result, Ok, Err}
use Rattle.std.specs.List.{All, cons_option, list_all}
use Rattle.std.proofs.lemmas.Bool.{and_from, and_parts, and_right, not-true}
use Rattle.std.proofs.lemmas.Option.{same_Some, slice_get_past, slice_get_within}
use Rattle.clif_types.specs.declared.error.BuildError.{BuildError}
use Rattle.clif_types.specs.declared.error.BuildError.TheVariants.{Failed, Full}
use Rattle.clif_types.specs.declared.types.«Type».TheVariants.{Invalid}
use Rattle.clif_types.specs.Signature.{SignatureShape}
use Rattle.clif_instructions.specs.declared.block_call.BlockArg.{BlockArg}
use Rattle.clif_instructions.specs.declared.block_call.BlockArg.TheVariants as arg
use Rattle.clif_instructions.specs.declared.block_call.BlockCall.{BlockCall}
use Rattle.clif_tables.specs.Lists.{unserved, with_jump_table}
use Rattle.clif_nodes.specs.declared.nodes.ValueNode.{ValueNode}
use Rattle.clif_ir.specs.Body.{Body, inst_at}
use Rattle.clif_ir.specs.Consistent.{PassedExists}
use Rattle.clif_inst_builder.specs.Shapes.{TakesThenBuilds, branch_table}
use Rattle.clif_meaning.specs.Acceptance.{allows, br_table, can_lead, has_argument}
use Rattle.clif_meaning.specs.Instruction.{Argument, CallPayload, CallResult, Known}
use Rattle.clif_meaning.specs.Instruction as meaning
use Rattle.clif_meaning.specs.Ledger.{AJumpTable, AnEdge, Answered, Ledger, answered_edge, edge_named, edges_named, has_block, has_value, ledger_with, unserved_edges}
use Rattle.clif_meaning.specs.Name as named
use Rattle.clif_meaning.specs.Request.{AnsweredCall, MakeEdge, MakeJumpTable, Request}
use Rattle.clif_ssa.specs.Limits.{IsFull}
use Rattle.clif_builder.specs.declared.builder.FunctionBuilder.{FunctionBuilder}
use Rattle.clif_builder.specs.Builder.{CanLead, SameLoans}
use Rattle.clif_builder.specs.Built.{Builds, numbers_of}
use Rattle.clif_builder.specs.Entries.{CreatesJumpTable, MakesEdge, MayServe, TakesJumpTable, table_edges}
use Rattle.clif_builder.specs.Ledger.{NamesArgument, NamesArguments, NamesEdge, NamesEdges, ledger_of}
use Rattle.clif_builder.specs.LedgerLaws.{RequestsAskForTheirShapes, TableCallsAddNothing}
use Rattle.clif_builder.specs.StandsFor.{StandsFor}
use Rattle.clif_calls.specs.declared.call.Name.{Name}
use Rattle.clif_calls.specs.declared.table.Passed.{Passed}
use Rattle.clif_calls.specs.declared.table.Passed.TheVariants as passed
use Rattle.clif_calls.specs.declared.table.TableEdge.{TableEdge}
use Rattle.clif_resolution.specs.declared.answers.Answer.{Answer}
use Rattle.clif_resolution.specs.declared.answers.Answer.TheVariants as answer
use Rattle.clif_resolution.specs.declared.answers.Entry.TheVariants as entry
use Rattle.clif_replay.specs.Requests.{Naming, passed_of, table_edge_of}
use Rattle.clif_resolution.specs.Conditions.{IsEdge, can_seal, has_edge, is_open, serves, serves_at}
use Rattle.clif_replay.specs.Ready.{IsReady, IsReadyAfter, TableAgrees, TablesAgree}
use Rattle.clif_resolution.specs.Answers.{all_passed, block_of, edge_at, passed_in, value_of}
use Rattle.clif_replay.proofs.Conditions.{open-same, sealed-same, values-same}
use Rattle.clif_builder.proofs.Lasting.{edge-stays, edges-stay, ledger-more}
use Rattle.clif_replay.proofs.Lasting.{as-many, held-missing, held-there, one-table-more, table-at, table-serves, tables-stay}
use Rattle.clif_replay.proofs.Making.{full-either}
use Rattle.clif_replay.proofs.Options.{get-last}
use Rattle.clif_resolution.proofs.Options.{map-some}
use Rattle.clif_replay.proofs.ReadyLaws.{block-found, block-missing, edge-found, edge-missing, exceptions-still, read, ready-answered, tables-still, value-found, value-missing}

-- EDGES -----------------------------------------------------------------------------------------------------------------

block-same : {R : Type 0} {naming : Naming} {declared : SignatureShape} (calls : List AnsweredCall) (b : FunctionBuilder R) (answers : List Answer) → IsReady naming declared calls b answers
    → (name : Name) → has_block (ledger_of calls) (naming name) ≡ is_some (block_of answers name)
block-same {naming} calls b answers ready name = by (block_of answers name) refl
  where
    by : (o : Option ℕ) → block_of answers name ≡ o → has_block (ledger_of calls) (naming name) ≡ is_some (block_of answers name)
    by None at = block-missing calls b answers ready name at ∙ ap is_some (sym at)
    by (Some block) at = (block-found calls b answers ready name block at).is_block ∙ ap is_some (sym at)

-- what an edge of a table passes is there in the ledger where it is here
passed-same : {R : Type 0} {naming : Naming} {declared : SignatureShape} (calls : List AnsweredCall) (b : FunctionBuilder R) (answers : List Answer) → IsReady naming declared calls b answers
    → (args : List Passed) → list_all (has_argument (ledger_of calls)) (map (passed_of naming) args) ≡ all_passed b.func.now answers args
passed-same {naming} calls b answers ready [] = refl
passed-same {naming} calls b answers ready (one ∷ args) =
    ap (λ (test : Bool). test && list_all (has_argument (ledger_of calls)) (map (passed_of naming) args)) (by one)
    ∙ ap (λ (rest : Bool). is_some (passed_in b.func.now answers one) && rest) (passed-same calls b answers ready args)
  where
    of_value : (name : Name) (o : Option ℕ) → value_of b.func.now answers name ≡ o → has_value (ledger_of calls) (naming name) ≡ is_some (option_map arg.Value (value_of b.func.now answers name))
    of_value name None is = value-missing calls b answers ready name is ∙ ap (λ (v : Option ℕ). is_some (option_map arg.Value v)) (sym is)
    of_value name (Some value) is = (value-found calls b answers ready name value is).is_value ∙ ap (λ (v : Option ℕ). is_some (option_map arg.Value v)) (sym is)

    by : (other : Passed) → has_argument (ledger_of calls) (passed_of naming other) ≡ is_some (passed_in b.func.now answers other)
    by (passed.Value name) = of_value name (value_of b.func.now answers name) refl
    by (passed.Returned place) = refl
    by (passed.Thrown place) = refl

-- an edge is there in the ledger where it is here
pub edge-same : {R : Type 0} {naming : Naming} {declared : SignatureShape} (calls : List AnsweredCall) (b : FunctionBuilder R) (answers : List Answer) → IsReady naming declared calls b answers
    → (edge : TableEdge) → allows (ledger_of calls) (MakeEdge (table_edge_of naming edge)) ≡ has_edge b answers edge
edge-same {naming} calls b answers ready edge =
    ap (λ (test : Bool). test && list_all (has_argument (ledger_of calls)) (map (passed_of naming) edge.args.items)) (block-same calls b answers ready edge.block)
    ∙ ap (λ (all : Bool). is_some (block_of answers edge.block) && all) (passed-same calls b answers ready edge.args.items)

-- it is named
passed-names : {R : Type 0} {naming : Naming} {declared : SignatureShape} (calls : List AnsweredCall) (b : FunctionBuilder R) (answers : List Answer) → IsReady naming declared calls b answers
    → (args : List Passed) (made : List BlockArg) → map (passed_in b.func.now answers) args ≡ map Some made → NamesArguments calls (map (passed_of naming) args) made
passed-names {naming} calls b answers ready [] [] found = tt
passed-names {naming} calls b answers ready [] (a ∷ made) found = let no_way : ⊥ = cc in absurd no_way
passed-names {naming} calls b answers ready (one ∷ args) [] found = let no_way : ⊥ = cc in absurd no_way
passed-names {naming} calls b answers ready (one ∷ args) (a ∷ made) found =
    let here : passed_in b.func.now answers one ≡ Some a = cc in
    let rest : map (passed_in b.func.now answers) args ≡ map Some made = cc in
    (by one here, passed-names calls b answers ready args made rest)
  where
    by : (other : Passed) → passed_in b.func.now answers other ≡ Some a → NamesArgument calls (passed_of naming other) a
    by (passed.Value name) is =
        let value = map-some arg.Value (value_of b.func.now answers name) a is in
        subst (NamesArgument calls (Known (naming name))) value.2 (value-found calls b answers ready name value.0 value.1)
    by (passed.Returned place) is = subst (NamesArgument calls (CallResult place)) (same_Some (arg.TryCallRet place) a is) refl
    by (passed.Thrown place) is = subst (NamesArgument calls (CallPayload place)) (same_Some (arg.TryCallExn place) a is) refl

edge-names : {R : Type 0} {naming : Naming} {declared : SignatureShape} (calls : List AnsweredCall) (b : FunctionBuilder R) (answers : List Answer) → IsReady naming declared calls b answers
    → (edge : TableEdge) (call : BlockCall) → IsEdge b answers edge call → NamesEdge calls (table_edge_of naming edge) call
edge-names calls b answers ready edge call found = record {
  target = block-found calls b answers ready edge.block call.block found.target;
  arguments = passed-names calls b answers ready edge.args.items call.args found.passed;
}

-- names lead to edges where they name edges
pub edges-same : {R : Type 0} {naming : Naming} {declared : SignatureShape} (calls : List AnsweredCall) (b : FunctionBuilder R) (answers : List Answer) → IsReady naming declared calls b answers
    → (names : List Name) → list_all (λ name. is_some (edge_named (ledger_of calls) name)) (map naming names) ≡ list_all (λ name. is_some (edge_at answers name)) names
edges-same {naming} calls b answers ready [] = refl
edges-same {naming} calls b answers ready (name ∷ names) =
    ap (λ (test : Bool). test && list_all (λ name. is_some (edge_named (ledger_of calls) name)) (map naming names)) (by (edge_at answers name) refl)
    ∙ ap (λ (rest : Bool). is_some (edge_at answers name) && rest) (edges-same calls b answers ready names)
  where
    by : (o : Option BlockCall) → edge_at answers name ≡ o → is_some (edge_named (ledger_of calls) (naming name)) ≡ is_some (edge_at answers name)
    by None at = edge-missing calls b answers ready name at ∙ ap is_some (sym at)
    by (Some made) at = ap is_some (edge-found calls b answers ready name made at).1 ∙ ap is_some (sym at)

pub edges-names : {R : Type 0} {naming : Naming} {declared : SignatureShape} (calls : List AnsweredCall) (b : FunctionBuilder R) (answers : List Answer) → IsReady naming declared calls b answers
    → (names : List Name) (made : List BlockCall) → map (edge_at answers) names ≡ map Some made → NamesEdges calls (edges_named (ledger_of calls) (map naming names)) made
edges-names {naming} calls b answers ready [] [] found = tt
edges-names {naming} calls b answers ready [] (other ∷ made) found = let no_way : ⊥ = cc in absurd no_way
edges-names {naming} calls b answers ready (name ∷ names) [] found = let no_way : ⊥ = cc in absurd no_way
edges-names {naming} calls b answers ready (name ∷ names) (other ∷ made) found =
    let here : edge_at answers name ≡ Some other = cc in
    let rest : map (edge_at answers) names ≡ map Some made = cc in
    let edge = edge-found calls b answers ready name other here in
    subst (λ (o : Option (meaning.Edge named.Name named.Name)). NamesEdges calls (cons_option o (edges_named (ledger_of calls) (map naming names))) (other ∷ made)) (sym edge.1)
    (edge.2, edges-names calls b answers ready names made rest)

pub all-there : (answers : List Answer) (names : List Name) (made : List BlockCall) → map (edge_at answers) names ≡ map Some made → list_all (λ name. is_some (edge_at answers name)) names ≡ true
all-there answers [] made found = refl
all-there answers (name ∷ names) [] found = let no_way : ⊥ = cc in absurd no_way
all-there answers (name ∷ names) (other ∷ made) found =
    let here : edge_at answers name ≡ Some other = cc in
    let rest : map (edge_at answers) names ≡ map Some made = cc in
    rw here (all-there answers names made rest)

-- TABLES ----------------------------------------------------------------------------------------------------------------

-- the edges of a table that serves nothing so far
pub table-named : {R : Type 0} {naming : Naming} {declared : SignatureShape} (calls : List AnsweredCall) (b : FunctionBuilder R) (answers : List Answer) → IsReady naming declared calls b answers
    → (table : ℕ) (made : List BlockCall) → table_edges b table ≡ Some made
    → (edges : List (meaning.Edge named.Name named.Name)) × (unserved_edges (ledger_of calls) table ≡ Some edges) × NamesEdges calls edges made
table-named calls b answers ready table made found =
    held-there (NamesEdges calls) (unserved_edges (ledger_of calls) table) made
    (subst (TableAgrees (NamesEdges calls) (unserved_edges (ledger_of calls) table)) found
    (table-at (NamesEdges calls) (ledger_of calls).jump_tables b.func.now.tables.jump_tables table ready.tables))

table-missing : {R : Type 0} {naming : Naming} {declared : SignatureShape} (calls : List AnsweredCall) (b : FunctionBuilder R) (answers : List Answer) → IsReady naming declared calls b answers
    → (table : ℕ) → table_edges b table ≡ None → unserved_edges (ledger_of calls) table ≡ None
table-missing calls b answers ready table missing =
    held-missing (NamesEdges calls) (unserved_edges (ledger_of calls) table)
    (subst (TableAgrees (NamesEdges calls) (unserved_edges (ledger_of calls) table)) missing
    (table-at (NamesEdges calls) (ledger_of calls).jump_tables b.func.now.tables.jump_tables table ready.tables))

-- what edges pass is there
passed-there : (calls : List AnsweredCall) (arguments : List (Argument named.Name)) (args : List BlockArg) → NamesArguments calls arguments args
    → list_all (has_argument (ledger_of calls)) arguments ≡ true
passed-there calls [] [] names = refl
passed-there calls [] (a ∷ args) names = absurd names
passed-there calls (argument ∷ arguments) [] names = absurd names
passed-there calls (argument ∷ arguments) (a ∷ args) names =
    and_from (has_argument (ledger_of calls) argument) (list_all (has_argument (ledger_of calls)) arguments) (by argument a names.0) (passed-there calls arguments args names.1)
  where
    by : (one : Argument named.Name) (made : BlockArg) → NamesArgument calls one made → has_argument (ledger_of calls) one ≡ true
    by (Known name) (arg.Value value) is = is.is_value
    by (Known name) (arg.TryCallRet place) is = absurd is
    by (Known name) (arg.TryCallExn place) is = absurd is
    by (CallResult index) made is = refl
    by (CallPayload index) made is = refl

-- an edge may be made where its target isn't sealed
pub leads-same : {R : Type 0} {naming : Naming} {declared : SignatureShape} (calls : List AnsweredCall) (b : FunctionBuilder R) (answers : List Answer) → IsReady naming declared calls b answers
    → (edges : List (meaning.Edge named.Name named.Name)) (made : List BlockCall) → NamesEdges calls edges made
    → list_all (can_lead (ledger_of calls)) edges ≡ list_all (λ edge. can_seal b edge.block) made
leads-same calls b answers ready [] [] names = refl
leads-same calls b answers ready [] (other ∷ made) names = absurd names
leads-same calls b answers ready (edge ∷ edges) [] names = absurd names
leads-same calls b answers ready (edge ∷ edges) (other ∷ made) (names, more) =
    ap (λ (test : Bool). test && list_all (can_lead (ledger_of calls)) edges) here ∙ ap (λ (rest : Bool). can_seal b other.block && rest) (leads-same calls b answers ready edges made more)
  where
    by : (test : Bool) → ((true && test) && true) ≡ test
    by true = refl
    by false = refl

    here : can_lead (ledger_of calls) edge ≡ can_seal b other.block
    here =
        let there = names.target.is_block in
        let sealed = sealed-same calls b answers ready edge.target other.block ((read calls b answers ready).named edge.target other.block names.target) in
        let passed = passed-there calls edge.arguments other.args names.arguments in
        rw (there, sealed, passed) (by (can_seal b other.block))

-- THE BRANCH ------------------------------------------------------------------------------------------------------------

-- a branch by a table is allowed where the block is open, the index is there and the table serves
pub branch-same : {R : Type 0} {naming : Naming} {declared : SignatureShape} (calls : List AnsweredCall) (b : FunctionBuilder R) (answers : List Answer) → IsReady naming declared calls b answers
    → (index : Name) (table : ℕ) → allows (ledger_of calls) (br_table (ledger_of calls) (naming index) table) ≡ ((is_open b && is_some (value_of b.func.now answers index)) && serves b table)
branch-same {naming} calls b answers ready index table = by (table_edges b table) refl
  where
    closed : (opens value : Bool) → ((((((false && opens) && value) && true) && true) && true) ≡ false)
    closed opens value = refl

    all : (opens value edges : Bool) → (((((true && opens) && (value && true)) && edges) && true) && true) ≡ ((opens && value) && edges)
    all true true true = refl
    all true true false = refl
    all true false edges = refl
    all false value edges = refl

    by : (u : Option (List BlockCall)) → table_edges b table ≡ u
        → allows (ledger_of calls) (br_table (ledger_of calls) (naming index) table) ≡ ((is_open b && is_some (value_of b.func.now answers index)) && serves b table)
    by None found =
        let missing = table-missing calls b answers ready table found in
        let right = and_right (is_open b && is_some (value_of b.func.now answers index)) (serves b table) (ap (serves_at b) found) in
        rw missing (sym right)
    by (Some made) found =
        let named = table-named calls b answers ready table made found in
        let there = named.1 in
        let opens = open-same calls b answers ready in
        let values = values-same calls b answers ready (index ∷ []) in
        let edges = leads-same calls b answers ready named.0 made named.2 in
        let right = ap (λ (test : Bool). (is_open b && is_some (value_of b.func.now answers index)) && test) (ap (serves_at b) found) in
        rw (there, opens, values, edges) (all (is_open b) (is_some (value_of b.func.now answers index)) (list_all (λ edge. can_seal b edge.block) made) ∙ sym right)

-- it isn't, where one of these fails
pub branch-closed : {R : Type 0} (b : FunctionBuilder R) (value : Bool) (table : ℕ) → is_open b ≡ false → ((is_open b && value) && serves b table) ≡ false
branch-closed b value table closed = ap (λ (test : Bool). (test && value) && serves b table) closed

-- there is no table at the next number
pub none-serves : {R : Type 0} (b : FunctionBuilder R) → serves b (length b.func.now.tables.jump_tables) ≡ false
none-serves b =
    ap (λ (o : Option (Option (List BlockCall))). serves_at b (unserved o))
    (slice_get_past b.func.now.tables.jump_tables (length b.func.now.tables.jump_tables) (omega arith))

pub branch-missing : {R : Type 0} (b : FunctionBuilder R) (o : Option ℕ) (table : ℕ) → o ≡ None → ((is_open b && is_some o) && serves b table) ≡ false
branch-missing b o table none =
    ap (λ (test : Bool). test && serves b table) (and_right (is_open b) (is_some o) (ap is_some none))

-- the edges of a table that serves may be made
argument-exists : {R : Type 0} {naming : Naming} {declared : SignatureShape} (calls : List AnsweredCall) (b : FunctionBuilder R) (answers : List Answer) → IsReady naming declared calls b answers
    → (argument : Argument named.Name) (made : BlockArg) → NamesArgument calls argument made → PassedExists b.func.now made
argument-exists calls b answers ready (Known name) (arg.Value value) is =
    let typed = (read calls b answers ready).value name value is in
    let node = map-some (λ (n : ValueNode). n.ty) (slice_get b.func.now.values value) typed.0 typed.2 in
    slice_get_within b.func.now.values value node.0 node.1
argument-exists calls b answers ready argument (arg.TryCallRet place) is = tt
argument-exists calls b answers ready argument (arg.TryCallExn place) is = tt
argument-exists calls b answers ready (CallResult index) (arg.Value value) is = absurd is
argument-exists calls b answers ready (CallPayload index) (arg.Value value) is = absurd is

pub arguments-exist : {R : Type 0} {naming : Naming} {declared : SignatureShape} (calls : List AnsweredCall) (b : FunctionBuilder R) (answers : List Answer) → IsReady naming declared calls b answers
    → (arguments : List (Argument named.Name)) (made : List BlockArg) → NamesArguments calls arguments made → All (PassedExists b.func.now) made
arguments-exist calls b answers ready arguments [] names k d below = absurd (omega (arith, below))
arguments-exist calls b answers ready [] (a ∷ made) names k d below = absurd names
arguments-exist calls b answers ready (argument ∷ arguments) (a ∷ made) names zero d below = argument-exists calls b answers ready argument a names.0
arguments-exist calls b answers ready (argument ∷ arguments) (a ∷ made) names (suc k) d below =
    arguments-exist calls b answers ready arguments made names.1 k d (omega (arith, below))

pub edges-lead : {R : Type 0} {naming : Naming} {declared : SignatureShape} (calls : List AnsweredCall) (b : FunctionBuilder R) (answers : List Answer) → IsReady naming declared calls b answers
    → (edges : List (meaning.Edge named.Name named.Name)) (made : List BlockCall) → NamesEdges calls edges made → list_all (λ edge. can_seal b edge.block) made ≡ true → All (CanLead b) made
edges-lead calls b answers ready edges [] names opens k d below = absurd (omega (arith, below))
edges-lead calls b answers ready [] (other ∷ made) names opens k d below = absurd names
edges-lead calls b answers ready (edge ∷ edges) (other ∷ made) names opens zero d below =
    let r = read calls b answers ready in
    let opened = and_parts (can_seal b other.block) (list_all (λ edge. can_seal b edge.block) made) opens in (
      (r.exists other.block edge.target (r.named edge.target other.block names.0.target), arguments-exist calls b answers ready edge.arguments other.args names.0.arguments),
      not-true _ opened.0,
    )
edges-lead calls b answers ready (edge ∷ edges) (other ∷ made) names opens (suc k) d below =
    edges-lead calls b answers ready edges made names.1 (and_parts (can_seal b other.block) (list_all (λ edge. can_seal b edge.block) made) opens).1 k d (omega (arith, below))

pub serving : {R : Type 0} {naming : Naming} {declared : SignatureShape} (calls : List AnsweredCall) (b : FunctionBuilder R) (answers : List Answer) → IsReady naming declared calls b answers
    → (table : ℕ) → serves b table ≡ true → MayServe b table
serving calls b answers ready table is = by (table_edges b table) refl
  where
    by : (u : Option (List BlockCall)) → table_edges b table ≡ u → MayServe b table
    by None found = let no_way : false ≡ true = sym (ap (serves_at b) found) ∙ is in let impossible : ⊥ = cc in absurd impossible
    by (Some made) found =
        let named = table-named calls b answers ready table made found in
        (made, found, edges-lead calls b answers ready named.0 made named.2 (sym (ap (serves_at b) found) ∙ is))

-- what a branch by a table makes of a builder that hasn't failed
pub record Branched {R : Type 0} (old new : FunctionBuilder R) (index table : ℕ) (answer : Result ℕ BuildError) : Type 0 where
  pub loans : SameLoans old new
  pub failed : (answer ≡ Err Failed) ↔ IsTrue old.failed
  pub full : answer ≡ Err Full → IsFull old.func.now
  pub between : FunctionBuilder R
  pub edges : List BlockCall
  pub takes : TakesJumpTable old between table (Ok edges)
  pub builds : Builds between new (branch_table index edges) Invalid answer

pub branched : {R : Type 0} (old new : FunctionBuilder R) (index table : ℕ) (answer : Result ℕ BuildError) → old.failed ≡ false
    → TakesThenBuilds TakesJumpTable Builds old new (branch_table index) table Invalid answer → Branched old new index table answer
branched old new index table answer sound (inl (between, edges, takes, builds)) =
    record {
      loans = record { func = builds.loans.func ∙ takes.sets.call.loans.func; ctx = builds.loans.ctx ∙ takes.sets.call.loans.ctx; region = builds.loans.region ∙ takes.sets.call.loans.region };
      failed = (
        λ is. let between_failed : between.failed ≡ true = builds.failed.0 is in let fine : between.failed ≡ false = takes.sets.call.fails in let no_way : ⊥ = cc in absurd no_way,
        λ failed. let no_way : ⊥ = cc in absurd no_way,
      );
      full = λ is. subst IsFull takes.sets.function (full-either between.func.now (builds.full_table (omega arith) is));
      between = between;
      edges = edges;
      takes = takes;
      builds = builds;
    }
branched old new index table answer sound (inr (error, takes, is)) =
    let failed : old.failed ≡ true = takes.sets.call.failed.0 takes.only_failed in let no_way : ⊥ = cc in absurd no_way

-- AFTER THE CALLS ---------------------------------------------------------------------------------------------------------

-- an edge was made
pub edge-ready : {R : Type 0} → TableCallsAddNothing → {naming : Naming} {declared : SignatureShape} (calls : List AnsweredCall) (old new : FunctionBuilder R) (answers : List Answer) (edge : TableEdge) (found made : BlockCall)
    → IsReady naming declared calls old answers → IsEdge old answers edge found → made ≡ found → MakesEdge found.block found.args old new (Ok made)
    → IsReadyAfter naming declared calls (MakeEdge (table_edge_of naming edge)) new answers (answer.Edge made)
edge-ready law {naming} {declared} calls old new answers edge found made ready is same makes = (
  0 ∷ [],
  ready-answered calls call old new answers (answer.Edge made) ready stands (table_edge_of naming edge, refl, refl) there tables
      (exceptions-still calls call old new answers ready stands refl makes.grows.8),
)
  where
    call : AnsweredCall
    call = record { request = MakeEdge (table_edge_of naming edge); numbers = 0 ∷ [] }

    stands : StandsFor declared (calls ++ call ∷ []) new
    stands = law.edge declared calls new.func.now new.ctx.now.parts new.position (table_edge_of naming edge) 0 (makes.sets.stands declared calls ready.stands)

    there : (other : BlockCall) → ◌≡◌ {A = Answer} (answer.Edge made) (answer.Edge other)
        → (e : meaning.Edge named.Name named.Name) × (edge_named (ledger_of (calls ++ call ∷ [])) (named.answer_of (length calls) 0) ≡ Some e) × NamesEdge (calls ++ call ∷ []) e other
    there other is_other =
        let one : made ≡ other = cc in (
          table_edge_of naming edge,
          new_edge,
          subst (NamesEdge (calls ++ call ∷ []) (table_edge_of naming edge)) (sym same ∙ one)
              (edge-stays ready.reads calls (call ∷ []) old new ready.stands stands (table_edge_of naming edge) found (edge-names calls old answers ready edge found is)),
        )
      where
        new_edge : edge_named (ledger_of (calls ++ call ∷ [])) (named.answer_of (length calls) 0) ≡ Some (table_edge_of naming edge)
        new_edge =
            ap (λ (l : Ledger). edge_named l (named.answer_of (length calls) 0)) (ledger-more calls call)
            ∙ ap (λ (k : ℕ). edge_named (ledger_with (ledger_of calls) (MakeEdge (table_edge_of naming edge))) (named.answer_of k 0)) (sym ready.stands.ledger.places)
            ∙ ap (λ (o : Option (List Answered)). answered_edge (option_and_then (λ (xs : List Answered). slice_get xs 0) o))
            (get-last (ledger_of calls).answers (AnEdge (table_edge_of naming edge) ∷ []))

    tables : TablesAgree (NamesEdges (calls ++ call ∷ [])) (ledger_of (calls ++ call ∷ [])).jump_tables new.func.now.tables.jump_tables
    tables = tables-still calls call old new answers ready stands refl makes.grows.6

-- a table was made
pub table-ready : {R : Type 0} → TableCallsAddNothing → {naming : Naming} {declared : SignatureShape} (calls : List AnsweredCall) (old new : FunctionBuilder R) (answers : List Answer) (default : Name) (entries : List Name)
    (edges : List BlockCall) (number : ℕ) → IsReady naming declared calls old answers → map (edge_at answers) (default ∷ entries) ≡ map Some edges → CreatesJumpTable edges old new (Ok number)
    → IsReadyAfter naming declared calls (MakeJumpTable (naming default) (map naming entries)) new answers (answer.Entry (entry.JumpTable number))
table-ready law {naming} {declared} calls old new answers default entries edges number ready found creates = (
  number ∷ [],
  ready-answered calls call old new answers (answer.Entry (entry.JumpTable number)) ready stands
      (AJumpTable number, number, ap (λ (n : ℕ). AJumpTable n ∷ []) (sym counts), refl, refl, refl)
      (λ made same. let no_way : ⊥ = cc in absurd no_way) tables
      (exceptions-still calls call old new answers ready stands refl (ap (λ (f : Body). f.tables.exception_tables) creates.sets.function)),
)
  where
    call : AnsweredCall
    call = record { request = MakeJumpTable (naming default) (map naming entries); numbers = number ∷ [] }

    counts : number ≡ length (ledger_of calls).jump_tables
    counts = creates.number ∙ sym (as-many (NamesEdges calls) (ledger_of calls).jump_tables old.func.now.tables.jump_tables ready.tables)

    stands : StandsFor declared (calls ++ call ∷ []) new
    stands = law.table declared calls new.func.now new.ctx.now.parts new.position (naming default) (map naming entries) number counts (creates.sets.stands declared calls ready.stands)

    tables : TablesAgree (NamesEdges (calls ++ call ∷ [])) (ledger_of (calls ++ call ∷ [])).jump_tables new.func.now.tables.jump_tables
    tables =
        subst (TablesAgree (NamesEdges (calls ++ call ∷ [])) (ledger_of (calls ++ call ∷ [])).jump_tables) (sym (ap (λ (f : Body). f.tables.jump_tables) creates.sets.function))
        (subst (λ (lists : List (Option (List (meaning.Edge named.Name named.Name)))). TablesAgree (NamesEdges (calls ++ call ∷ [])) lists (with_jump_table old.func.now.tables edges).jump_tables)
        (sym (ap (λ (l : Ledger). l.jump_tables) (ledger-more calls call)))
        (one-table-more (NamesEdges (calls ++ call ∷ [])) (ledger_of calls).jump_tables old.func.now.tables.jump_tables (edges_named (ledger_of calls) (map naming (default ∷ entries))) edges
        (tables-stay ready.reads calls (call ∷ []) old new ready.stands stands (ledger_of calls).jump_tables old.func.now.tables.jump_tables ready.tables)
        (edges-stay ready.reads calls (call ∷ []) old new ready.stands stands (edges_named (ledger_of calls) (map naming (default ∷ entries))) edges
        (edges-names calls old answers ready (default ∷ entries) edges found))))

-- a table served a branch
pub branch-ready : {R : Type 0} → RequestsAskForTheirShapes → {naming : Naming} {declared : SignatureShape} (calls : List AnsweredCall) (old new : FunctionBuilder R) (answers : List Answer) (index : Name) (value table inst : ℕ)
    → IsReady naming declared calls old answers → value_of old.func.now answers index ≡ Some value → Branched old new value table (Ok inst)
    → IsReadyAfter naming declared calls (br_table (ledger_of calls) (naming index) table) new answers (answer.Inst inst)
branch-ready {R} shapes {naming} {declared} calls old new answers index value table inst ready found branch = (
  numbers_of new inst,
  ready-answered calls call old new answers (answer.Inst inst) ready stands ([], (inst_at new.func.now inst).results, refl, refl) (λ made same. let no_way : ⊥ = cc in absurd no_way) tables
      (exceptions-still calls call old new answers ready stands exceptions-left (branch.builds.grows.8 ∙ ap (λ (f : Body). f.tables.exception_tables) branch.takes.sets.function)),
)
  where
    call : AnsweredCall
    call = record { request = br_table (ledger_of calls) (naming index) table; numbers = numbers_of new inst }

    between : FunctionBuilder R
    between = branch.between

    taken : StandsFor declared calls between
    taken = branch.takes.sets.stands declared calls ready.stands

    edges : (edges : List (meaning.Edge named.Name named.Name)) × (unserved_edges (ledger_of calls) table ≡ Some edges) × NamesEdges calls edges branch.edges
    edges = table-named calls old answers ready table branch.edges branch.takes.held

    stands : StandsFor declared (calls ++ call ∷ []) new
    stands =
        let asked = (shapes calls between.func.now between.ctx.now.parts between.position taken.ledger).br_table (naming index) value table edges.0 branch.edges
        (value-found calls old answers ready index value found) edges.1 edges.2 in
        subst (λ (r : Request). StandsFor declared (calls ++ record { request = r; numbers = numbers_of new inst } ∷ []) new) (sym asked.2)
        (branch.builds.stands declared calls asked.0 asked.1 taken asked.3)

    exceptions-left : (ledger_with (ledger_of calls) call.request).exception_tables ≡ (ledger_of calls).exception_tables
    exceptions-left = refl

    tables : TablesAgree (NamesEdges (calls ++ call ∷ [])) (ledger_of (calls ++ call ∷ [])).jump_tables new.func.now.tables.jump_tables
    tables =
        subst (TablesAgree (NamesEdges (calls ++ call ∷ [])) (ledger_of (calls ++ call ∷ [])).jump_tables)
        (sym (branch.builds.grows.6 ∙ ap (λ (f : Body). f.tables.jump_tables) branch.takes.sets.function))
        (subst (λ (lists : List (Option (List (meaning.Edge named.Name named.Name)))). TablesAgree (NamesEdges (calls ++ call ∷ [])) lists (slice_set old.func.now.tables.jump_tables table None))
        (sym (ap (λ (l : Ledger). l.jump_tables) (ledger-more calls call)))
        (table-serves (NamesEdges (calls ++ call ∷ [])) (ledger_of calls).jump_tables old.func.now.tables.jump_tables table
        (tables-stay ready.reads calls (call ∷ []) old new ready.stands stands (ledger_of calls).jump_tables old.func.now.tables.jump_tables ready.tables)))
