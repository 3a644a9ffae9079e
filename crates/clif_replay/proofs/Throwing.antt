-- Exception tables and the calls that they serve: when they are allowed, and what a builder stands for afterwards.
use Rattle.std.proofs.Common.{◌≡◌, ℕ, zero, suc, ◌<◌, ◌≤◌, List, [], ◌∷◌, ◌++◌, length, refl, ap, arith, sym, ◌∙◌, subst}
use Rattle.std.specs.Prelude.{◌↔◌, IsTrue, map, flat_map, nat_lt, slice_index, slice_set, Option, Some, None, is_some, option_map, Bool, true, false, ◌&&◌, Result, Ok, Err}
use Rattle.std.specs.List.{All, cons_option, list_all}
use Rattle.std.proofs.lemmas.Bool.{and_from, and_parts, and_right, ltb-true}
use Rattle.std.proofs.lemmas.List.Elements.{All-cons, All-nil}
use Rattle.clif_types.specs.declared.error.BuildError.{BuildError}
use Rattle.clif_types.specs.declared.error.BuildError.TheVariants.{Failed, Full}
use Rattle.clif_types.specs.declared.types.«Type».TheVariants.{Invalid}
use Rattle.clif_types.specs.Signature.{SignatureShape}
use Rattle.clif_instructions.specs.declared.block_call.BlockArg.TheVariants as arg
use Rattle.clif_instructions.specs.declared.block_call.BlockCall.{BlockCall}
use Rattle.clif_instructions.specs.declared.exception_table.ExceptionTableData.{ExceptionTableData}
use Rattle.clif_instructions.specs.declared.exception_table.ExceptionTableItem.{ExceptionTableItem}
use Rattle.clif_instructions.specs.declared.exception_table.ExceptionTableItem.TheVariants as kept
use Rattle.clif_instructions.specs.ExceptionTables.{ExceptionShape, contexts_of, exception_shape, item_edges, kept_item}
use Rattle.clif_instructions.specs.ExceptionTables as shape
use Rattle.clif_instructions.specs.Instruction.{AFunctionRef, ASignatureRef, contexts, destinations, entries_of, operands}
use Rattle.clif_inst_builder.specs.Served.{exception_tables}
use Rattle.clif_tables.specs.Callees.{count_of_results}
use Rattle.clif_tables.specs.Lists.{TableLists, with_exception_table}
use Rattle.clif_ir.specs.Body.{Body, inst_at}
use Rattle.clif_ir.specs.Consistent.{EntryExists, PassedExists, ValueExists}
use Rattle.clif_meaning.specs.Acceptance.{allows, has_entry, has_item, try_call, try_call_indirect}
use Rattle.clif_meaning.specs.Event.{CallItem}
use Rattle.clif_meaning.specs.Event as event
use Rattle.clif_meaning.specs.Instruction.{Known}
use Rattle.clif_meaning.specs.Instruction as meaning
use Rattle.clif_meaning.specs.Ledger.{AnExceptionTable, ExceptionTable, Ledger, answers_to, edge_named, edges_named, exception_table, has_value, item_context, item_edge, item_kind, ledger_with, unserved_exceptions}
use Rattle.clif_meaning.specs.Name as named
use Rattle.clif_meaning.specs.Request.{AnsweredCall, MakeExceptionTable, Request}
use Rattle.clif_meaning.specs.View.{call_item_of}
use Rattle.clif_builder.specs.declared.builder.FunctionBuilder.{FunctionBuilder}
use Rattle.clif_builder.specs.Built.{Builds, numbers_of}
use Rattle.clif_builder.specs.Entries.{CreatesExceptionTable, MayServeTry, TakesExceptionTable, table_held}
use Rattle.clif_builder.specs.Ledger.{NamesArguments, NamesEdges, NamesExceptions, ledger_of}
use Rattle.clif_builder.specs.LedgerLaws.{AsksForShape, RequestsAskForTheirShapes, TableCallsAddNothing}
use Rattle.clif_builder.specs.StandsFor.{StandsFor}
use Rattle.clif_calls.specs.Tables.{table_of, tried_operands}
use Rattle.clif_calls.specs.declared.call.Name.{Name}
use Rattle.clif_calls.specs.declared.table.TableItem.{TableItem}
use Rattle.clif_calls.specs.declared.table.TableItem.TheVariants as item
use Rattle.clif_calls.specs.declared.table.ThrowingCall.{ThrowingCall}
use Rattle.clif_calls.specs.declared.table.ThrowingCall.TheVariants as throwing
use Rattle.clif_resolution.specs.declared.answers.Answer.{Answer}
use Rattle.clif_resolution.specs.declared.answers.Answer.TheVariants as answer
use Rattle.clif_resolution.specs.declared.answers.Entry.TheVariants as entry
use Rattle.clif_resolution.specs.Entries.{ExceptionTables, Functions, Numbers, numbers_at}
use Rattle.clif_resolution.specs.Callings.{can_try, has_callee, table_in, throwing_shape}
use Rattle.clif_replay.specs.Ready.{AnswerIs, IsReady, IsReadyAfter, TableAgrees, TablesAgree}
use Rattle.clif_resolution.specs.Answers.{all_items, all_values, edge_at, item_in, value_of}
use Rattle.clif_resolution.specs.Conditions.{can_seal, is_open, tries, tries_at}
use Rattle.clif_replay.specs.Requests.{Naming, item_of, throwing_request}
use Rattle.clif_replay.proofs.Conditions.{all-exist, all-named, open-same, values-same}
use Rattle.clif_replay.proofs.JumpTables.{arguments-exist, edges-lead, leads-same}
use Rattle.clif_builder.proofs.Lasting.{ledger-more}
use Rattle.clif_replay.proofs.Lasting.{as-many, exception-stays, exceptions-stay, held-missing, held-there, one-table-more, table-at, table-serves}
use Rattle.clif_resolution.proofs.Options.{map-some}
use Rattle.clif_replay.proofs.ReadyLaws.{edge-found, edge-missing, ready-answered, tables-still, value-found, value-missing}

-- THE TABLE -------------------------------------------------------------------------------------------------------------

module _ {R : Type 0} {naming : Naming} {declared : SignatureShape} (calls : List AnsweredCall) (b : FunctionBuilder R) (answers : List Answer) (ready : IsReady naming declared calls b answers) where
  -- a name is that of an edge in the ledger where it leads to one here
  edge-tested : {X : Type 0} (f : BlockCall → X) (name : Name) → is_some (edge_named (ledger_of calls) (naming name)) ≡ is_some (option_map f (edge_at answers name))
  edge-tested f name = by (edge_at answers name) refl
    where
      by : (o : Option BlockCall) → edge_at answers name ≡ o → is_some (edge_named (ledger_of calls) (naming name)) ≡ is_some (option_map f (edge_at answers name))
      by None at = edge-missing calls b answers ready name at ∙ ap (λ (x : Option BlockCall). is_some (option_map f x)) (sym at)
      by (Some made) at = ap is_some (edge-found calls b answers ready name made at).1 ∙ ap (λ (x : Option BlockCall). is_some (option_map f x)) (sym at)

  item-same : (one : TableItem) → has_item (ledger_of calls) (item_of naming one) ≡ is_some (item_in b.func.now answers one)
  item-same (item.Tag tag edge) = edge-tested (kept.Tag tag) edge
  item-same (item.Default edge) = edge-tested kept.Default edge
  item-same (item.Context name) = by (value_of b.func.now answers name) refl
    where
      by : (o : Option ℕ) → value_of b.func.now answers name ≡ o → has_value (ledger_of calls) (naming name) ≡ is_some (option_map kept.Context (value_of b.func.now answers name))
      by None at = value-missing calls b answers ready name at ∙ ap (λ (x : Option ℕ). is_some (option_map kept.Context x)) (sym at)
      by (Some value) at = (value-found calls b answers ready name value at).is_value ∙ ap (λ (x : Option ℕ). is_some (option_map kept.Context x)) (sym at)

  items-same : (items : List TableItem) → list_all (has_item (ledger_of calls)) (map (item_of naming) items) ≡ all_items b.func.now answers items
  items-same [] = refl
  items-same (one ∷ items) =
      ap (λ (test : Bool). test && list_all (has_item (ledger_of calls)) (map (item_of naming) items)) (item-same one)
      ∙ ap (λ (rest : Bool). is_some (item_in b.func.now answers one) && rest) (items-same items)

  edge-one : (name : Name) → is_some (edge_named (ledger_of calls) (naming name)) ≡ is_some (edge_at answers name)
  edge-one name = by (edge_at answers name) refl
    where
      by : (o : Option BlockCall) → edge_at answers name ≡ o → is_some (edge_named (ledger_of calls) (naming name)) ≡ is_some (edge_at answers name)
      by None at = edge-missing calls b answers ready name at ∙ ap is_some (sym at)
      by (Some made) at = ap is_some (edge-found calls b answers ready name made at).1 ∙ ap is_some (sym at)

  -- a table may be made in the ledger where it may be made here
  pub exceptions-same : (signature : ℕ) (normal : Name) (items : List TableItem)
      → allows (ledger_of calls) (MakeExceptionTable signature (naming normal) (map (item_of naming) items))
      ≡ (is_some (edge_at answers normal) && all_items b.func.now answers items && nat_lt signature (length b.func.now.tables.signatures))
  exceptions-same signature normal items =
      ap (λ (test : Bool). test && list_all (has_item (ledger_of calls)) (map (item_of naming) items) && has_entry (ledger_of calls).tables (ASignatureRef signature)) (edge-one normal)
      ∙ ap (λ (rest : Bool). is_some (edge_at answers normal) && rest && has_entry (ledger_of calls).tables (ASignatureRef signature)) (items-same items)
      ∙ ap (λ (tables : TableLists). is_some (edge_at answers normal) && all_items b.func.now answers items && has_entry tables (ASignatureRef signature)) ready.stands.ledger.tables

  -- items name what was found
  record ItemsNamed (items : List TableItem) (made : List ExceptionTableItem) : Type 0 where
    pub edges : NamesEdges calls (edges_named (ledger_of calls) (flat_map item_edge (map (item_of naming) items))) (flat_map item_edges made)
    pub kinds : map item_kind (map (item_of naming) items) ≡ map call_item_of (map kept_item made)
    pub contexts : NamesArguments calls (map Known (flat_map item_context (map (item_of naming) items))) (map arg.Value (flat_map shape.item_context (map kept_item made)))

  items-named : (items : List TableItem) (made : List ExceptionTableItem) → map (item_in b.func.now answers) items ≡ map Some made → ItemsNamed items made
  items-named [] [] found = record { edges = tt; kinds = refl; contexts = tt }
  items-named [] (m ∷ made) found = let no_way : ⊥ = cc in absurd no_way
  items-named (one ∷ items) [] found = let no_way : ⊥ = cc in absurd no_way
  items-named (one ∷ items) (m ∷ made) found =
      let here : item_in b.func.now answers one ≡ Some m = cc in
      let rest : map (item_in b.func.now answers) items ≡ map Some made = cc in
      by one here (items-named items made rest)
    where
      with_edge : (f : BlockCall → ExceptionTableItem) (g : named.Name → CallItem) (name : Name) (edge : BlockCall) → edge_at answers name ≡ Some edge
          → NamesEdges calls (edges_named (ledger_of calls) (flat_map item_edge (map (item_of naming) items))) (flat_map item_edges made)
          → NamesEdges calls (edges_named (ledger_of calls) (naming name ∷ flat_map item_edge (map (item_of naming) items))) (edge ∷ flat_map item_edges made)
      with_edge f g name edge at others =
          let there = edge-found calls b answers ready name edge at in
          subst (λ (o : Option (meaning.Edge named.Name named.Name)). NamesEdges calls (cons_option o (edges_named (ledger_of calls) (flat_map item_edge (map (item_of naming) items)))) (edge ∷ flat_map item_edges made))
          (sym there.1) (there.2, others)

      by : (other : TableItem) → item_in b.func.now answers other ≡ Some m → ItemsNamed items made → ItemsNamed (other ∷ items) (m ∷ made)
      by (item.Tag tag name) is all =
          let edge = map-some (kept.Tag tag) (edge_at answers name) m is in
          subst (λ (x : ExceptionTableItem). ItemsNamed (item.Tag tag name ∷ items) (x ∷ made)) edge.2 (record {
            edges = with_edge (kept.Tag tag) (λ n. event.Tag tag) name edge.0 edge.1 all.edges;
            kinds = ap (λ (xs : List CallItem). event.Tag tag ∷ xs) all.kinds;
            contexts = all.contexts;
          })
      by (item.Default name) is all =
          let edge = map-some kept.Default (edge_at answers name) m is in
          subst (λ (x : ExceptionTableItem). ItemsNamed (item.Default name ∷ items) (x ∷ made)) edge.2 (record {
            edges = with_edge kept.Default (λ n. event.Default) name edge.0 edge.1 all.edges;
            kinds = ap (λ (xs : List CallItem). event.Default ∷ xs) all.kinds;
            contexts = all.contexts;
          })
      by (item.Context name) is all =
          let value = map-some kept.Context (value_of b.func.now answers name) m is in
          subst (λ (x : ExceptionTableItem). ItemsNamed (item.Context name ∷ items) (x ∷ made)) value.2 (record {
            edges = all.edges;
            kinds = ap (λ (xs : List CallItem). event.Context ∷ xs) all.kinds;
            contexts = (value-found calls b answers ready name value.0 value.1, all.contexts);
          })

  -- a table names what was found
  table-names : (signature : ℕ) (normal : Name) (items : List TableItem) (given : ExceptionTableData) → given.sig ≡ signature → edge_at answers normal ≡ Some given.normal
      → map (item_in b.func.now answers) items ≡ map Some given.items.items
      → NamesExceptions calls (exception_table (ledger_of calls) signature (naming normal) (map (item_of naming) items)) (exception_shape given)
  table-names signature normal items given same at found =
      let all = items-named items given.items.items found in
      let there = edge-found calls b answers ready normal given.normal at in
      record {
        signature = sym same;
        items = all.kinds;
        edges = subst (λ (o : Option (meaning.Edge named.Name named.Name)).
            NamesEdges calls (cons_option o (edges_named (ledger_of calls) (flat_map item_edge (map (item_of naming) items)))) (given.normal ∷ flat_map item_edges given.items.items))
            (sym there.1) (there.2, all.edges);
        contexts = all.contexts;
      }

  -- what a table holds that serves nothing so far
  exceptions-held : (table : ℕ) (made : ExceptionShape) → table_held exception_tables b table ≡ Some made
      → (held : ExceptionTable) × (unserved_exceptions (ledger_of calls) table ≡ Some held) × NamesExceptions calls held made
  exceptions-held table made found =
      held-there (NamesExceptions calls) (unserved_exceptions (ledger_of calls) table) made
      (subst (TableAgrees (NamesExceptions calls) (unserved_exceptions (ledger_of calls) table)) found
      (table-at (NamesExceptions calls) (ledger_of calls).exception_tables b.func.now.tables.exception_tables table ready.exceptions))

  exceptions-missing : (table : ℕ) → table_held exception_tables b table ≡ None → unserved_exceptions (ledger_of calls) table ≡ None
  exceptions-missing table missing =
      held-missing (NamesExceptions calls) (unserved_exceptions (ledger_of calls) table)
      (subst (TableAgrees (NamesExceptions calls) (unserved_exceptions (ledger_of calls) table)) missing
      (table-at (NamesExceptions calls) (ledger_of calls).exception_tables b.func.now.tables.exception_tables table ready.exceptions))

-- what was found is there
items-there : (f : Body) (answers : List Answer) (items : List TableItem) (made : List ExceptionTableItem) → map (item_in f answers) items ≡ map Some made → all_items f answers items ≡ true
items-there f answers [] made found = refl
items-there f answers (one ∷ items) [] found = let no_way : ⊥ = cc in absurd no_way
items-there f answers (one ∷ items) (m ∷ made) found =
    let here : item_in f answers one ≡ Some m = cc in
    let rest : map (item_in f answers) items ≡ map Some made = cc in
    and_from (is_some (item_in f answers one)) (all_items f answers items) (ap is_some here) (items-there f answers items made rest)

pub exceptions-there : (f : Body) (answers : List Answer) (normal : Name) (items : List TableItem) (edge : BlockCall) (made : List ExceptionTableItem) → edge_at answers normal ≡ Some edge
    → map (item_in f answers) items ≡ map Some made → (is_some (edge_at answers normal) && all_items f answers items) ≡ true
exceptions-there f answers normal items edge made at found =
    and_from (is_some (edge_at answers normal)) (all_items f answers items) (ap is_some at) (items-there f answers items made found)

-- a table was made
pub exceptions-ready : {R : Type 0} → TableCallsAddNothing → {naming : Naming} {declared : SignatureShape} (calls : List AnsweredCall) (old new : FunctionBuilder R) (answers : List Answer) (signature : ℕ) (normal : Name)
    (items : List TableItem) (given : ExceptionTableData) (number : ℕ) → IsReady naming declared calls old answers → given.sig ≡ signature → edge_at answers normal ≡ Some given.normal
    → map (item_in old.func.now answers) items ≡ map Some given.items.items → CreatesExceptionTable given old new (Ok number)
    → IsReadyAfter naming declared calls (MakeExceptionTable signature (naming normal) (map (item_of naming) items)) new answers (answer.Entry (entry.ExceptionTable number))
exceptions-ready law {naming} {declared} calls old new answers signature normal items given number ready same at found creates = (
  number ∷ [],
  ready-answered calls call old new answers (answer.Entry (entry.ExceptionTable number)) ready stands
      (AnExceptionTable number, number, ap (λ (n : ℕ). AnExceptionTable n ∷ []) (sym counts), refl, refl, refl)
      (λ made is. let no_way : ⊥ = cc in absurd no_way)
      (tables-still calls call old new answers ready stands refl (ap (λ (f : Body). f.tables.jump_tables) creates.sets.function)) exceptions,
)
  where
    request : Request
    request = MakeExceptionTable signature (naming normal) (map (item_of naming) items)

    call : AnsweredCall
    call = record { request = MakeExceptionTable signature (naming normal) (map (item_of naming) items); numbers = number ∷ [] }

    held : ExceptionTable
    held = exception_table (ledger_of calls) signature (naming normal) (map (item_of naming) items)

    counts : number ≡ length (ledger_of calls).exception_tables
    counts = creates.number ∙ sym (as-many (NamesExceptions calls) (ledger_of calls).exception_tables old.func.now.tables.exception_tables ready.exceptions)

    stands : StandsFor declared (calls ++ call ∷ []) new
    stands = law.exceptions declared calls new.func.now new.ctx.now.parts new.position signature (naming normal) (map (item_of naming) items) number counts (creates.sets.stands declared calls ready.stands)

    exceptions : TablesAgree (NamesExceptions (calls ++ call ∷ [])) (ledger_of (calls ++ call ∷ [])).exception_tables new.func.now.tables.exception_tables
    exceptions =
        subst (TablesAgree (NamesExceptions (calls ++ call ∷ [])) (ledger_of (calls ++ call ∷ [])).exception_tables) (sym (ap (λ (f : Body). f.tables.exception_tables) creates.sets.function))
        (subst (λ (lists : List (Option ExceptionTable)). TablesAgree (NamesExceptions (calls ++ call ∷ [])) lists (with_exception_table old.func.now.tables (exception_shape given)).exception_tables)
        (sym (ap (λ (l : Ledger). l.exception_tables) (ledger-more calls call)))
        (one-table-more (NamesExceptions (calls ++ call ∷ [])) (ledger_of calls).exception_tables old.func.now.tables.exception_tables held (exception_shape given)
        (exceptions-stay ready.reads calls (call ∷ []) old new ready.stands stands (ledger_of calls).exception_tables old.func.now.tables.exception_tables ready.exceptions)
        (exception-stays ready.reads calls (call ∷ []) old new ready.stands stands held (exception_shape given)
        (table-names calls old answers ready signature normal items given same at found))))

-- THE CALL --------------------------------------------------------------------------------------------------------------

-- its condition, in the order in which its parts are tested, by a function and at an address
function-in-order : (function signature opens values edges : Bool)
    → (((((true && (function && (signature && true))) && opens) && values) && edges) && true && true) ≡ ((opens && values) && (function && (edges && signature)))
function-in-order true true true true true = refl
function-in-order true true true true false = refl
function-in-order true true true false edges = refl
function-in-order true true false values edges = refl
function-in-order true false true true true = refl
function-in-order true false true true false = refl
function-in-order true false true false edges = refl
function-in-order true false false values edges = refl
function-in-order false signature true true edges = refl
function-in-order false signature true false edges = refl
function-in-order false signature false values edges = refl

address-in-order : (signature opens values edges : Bool)
    → (((((true && (signature && true)) && opens) && values) && edges) && true && true) ≡ ((opens && values) && (true && (edges && signature)))
address-in-order true true true true = refl
address-in-order true true true false = refl
address-in-order true true false edges = refl
address-in-order true false values edges = refl
address-in-order false true true true = refl
address-in-order false true true false = refl
address-in-order false true false edges = refl
address-in-order false false values edges = refl

-- where no table serves it isn't allowed
none-tried : (opens values callee served : Bool) → served ≡ false → ((opens && values) && (callee && served)) ≡ false
none-tried opens values callee served is = and_right (opens && values) (callee && served) (and_right callee served is)

-- the contexts of a table that the ledger and the function hold alike are values
contexts-there : (calls : List AnsweredCall) (names : List named.Name) (values : List ℕ) → NamesArguments calls (map Known names) (map arg.Value values)
    → list_all (has_value (ledger_of calls)) names ≡ true
contexts-there calls [] values names-them = refl
contexts-there calls (name ∷ names) [] names-them = absurd names-them
contexts-there calls (name ∷ names) (value ∷ values) names-them =
    and_from (has_value (ledger_of calls) name) (list_all (has_value (ledger_of calls)) names) names-them.0.is_value (contexts-there calls names values names-them.1)

-- a call of this function along the edges of this table is allowed where it may be made, and so is one of an address
function-same : {R : Type 0} {naming : Naming} {declared : SignatureShape} (calls : List AnsweredCall) (b : FunctionBuilder R) (answers : List Answer) → IsReady naming declared calls b answers
    → (function table : ℕ) (args : List Name) → allows (ledger_of calls) (try_call (ledger_of calls) function (map naming args) table)
    ≡ ((is_open b && all_values b.func.now answers args) && (nat_lt function (length b.func.now.tables.functions) && tries b table))
function-same {naming} calls b answers ready function table args = by (table_held exception_tables b table) refl
  where
    by : (o : Option ExceptionShape) → table_held exception_tables b table ≡ o → allows (ledger_of calls) (try_call (ledger_of calls) function (map naming args) table)
        ≡ ((is_open b && all_values b.func.now answers args) && (nat_lt function (length b.func.now.tables.functions) && tries b table))
    by None found =
        let missing = exceptions-missing calls b answers ready table found in
        let right = none-tried (is_open b) (all_values b.func.now answers args) (nat_lt function (length b.func.now.tables.functions)) (tries b table) (ap (tries_at b) found) in
        rw missing (sym right)
    by (Some made) found =
        let held = exceptions-held calls b answers ready table made found in
        let there = held.1 in
        let signature = held.2.signature in
        let named = contexts-there calls held.0.contexts (contexts_of made) held.2.contexts in
        let opens = open-same calls b answers ready in
        let values = values-same calls b answers ready args in
        let edges = leads-same calls b answers ready held.0.edges made.edges held.2.edges in
        let tables = ready.stands.ledger.tables in
        let right = ap (λ (test : Bool). (is_open b && all_values b.func.now answers args) && (nat_lt function (length b.func.now.tables.functions) && test)) (ap (tries_at b) found) in
        rw (there, named, opens, values, edges, signature, tables)
        (function-in-order (nat_lt function (length b.func.now.tables.functions)) (nat_lt made.sig (length b.func.now.tables.signatures)) (is_open b)
        (all_values b.func.now answers args) (list_all (λ edge. can_seal b edge.block) made.edges) ∙ sym right)

address-same : {R : Type 0} {naming : Naming} {declared : SignatureShape} (calls : List AnsweredCall) (b : FunctionBuilder R) (answers : List Answer) → IsReady naming declared calls b answers
    → (callee : Name) (table : ℕ) (args : List Name) → allows (ledger_of calls) (try_call_indirect (ledger_of calls) (naming callee) (map naming args) table)
    ≡ ((is_open b && all_values b.func.now answers (callee ∷ args)) && (true && tries b table))
address-same {naming} calls b answers ready callee table args = by (table_held exception_tables b table) refl
  where
    by : (o : Option ExceptionShape) → table_held exception_tables b table ≡ o → allows (ledger_of calls) (try_call_indirect (ledger_of calls) (naming callee) (map naming args) table)
        ≡ ((is_open b && all_values b.func.now answers (callee ∷ args)) && (true && tries b table))
    by None found =
        let missing = exceptions-missing calls b answers ready table found in
        let right = none-tried (is_open b) (all_values b.func.now answers (callee ∷ args)) true (tries b table) (ap (tries_at b) found) in
        rw missing (sym right)
    by (Some made) found =
        let held = exceptions-held calls b answers ready table made found in
        let there = held.1 in
        let signature = held.2.signature in
        let named = contexts-there calls held.0.contexts (contexts_of made) held.2.contexts in
        let opens = open-same calls b answers ready in
        let values = values-same calls b answers ready (callee ∷ args) in
        let edges = leads-same calls b answers ready held.0.edges made.edges held.2.edges in
        let tables = ready.stands.ledger.tables in
        let right = ap (λ (test : Bool). (is_open b && all_values b.func.now answers (callee ∷ args)) && (true && test)) (ap (tries_at b) found) in
        rw (there, named, opens, values, edges, signature, tables)
        (address-in-order (nat_lt made.sig (length b.func.now.tables.signatures)) (is_open b) (all_values b.func.now answers (callee ∷ args))
        (list_all (λ edge. can_seal b edge.block) made.edges) ∙ sym right)

pub throwing-same : {R : Type 0} {naming : Naming} {declared : SignatureShape} (calls : List AnsweredCall) (b : FunctionBuilder R) (answers : List Answer) → IsReady naming declared calls b answers
    → (called : ThrowingCall) → allows (ledger_of calls) (throwing_request (numbers_at b.func.now answers) naming (ledger_of calls) called) ≡ can_try b answers called
throwing-same calls b answers ready (throwing.TryCall function args table) =
    function-same calls b answers ready (numbers_at b.func.now answers Functions function) (numbers_at b.func.now answers ExceptionTables table) args.items
throwing-same calls b answers ready (throwing.TryCallIndirect callee args table) =
    address-same calls b answers ready callee (numbers_at b.func.now answers ExceptionTables table) args.items

-- the parts of its condition
pub can-open : {R : Type 0} (b : FunctionBuilder R) (answers : List Answer) (called : ThrowingCall) → can_try b answers called ≡ true → is_open b ≡ true
can-open b answers called may =
    (and_parts (is_open b) _ (and_parts (is_open b && all_values b.func.now answers (tried_operands called)) (has_callee b.func.now answers called && tries b (table_in b.func.now answers called)) may).0).0

can-serve : {R : Type 0} (b : FunctionBuilder R) (answers : List Answer) (called : ThrowingCall) → can_try b answers called ≡ true → (has_callee b.func.now answers called && tries b (table_in b.func.now answers called)) ≡ true
can-serve b answers called may = (and_parts (is_open b && all_values b.func.now answers (tried_operands called)) (has_callee b.func.now answers called && tries b (table_in b.func.now answers called)) may).1

-- what a list passes as values exists as values
values-exist : (f : Body) (values : List ℕ) → All (PassedExists f) (map arg.Value values) → All (ValueExists f) values
values-exist f [] all k d below = absurd (omega (arith, below))
values-exist f (value ∷ values) all zero d below = all 0 (arg.Value value) (omega arith)
values-exist f (value ∷ values) all (suc k) d below = values-exist f values (λ j e under. all (suc j) e (omega (arith, under))) k d (omega (arith, below))

-- its table may serve
pub trying : {R : Type 0} {naming : Naming} {declared : SignatureShape} (calls : List AnsweredCall) (b : FunctionBuilder R) (answers : List Answer) → IsReady naming declared calls b answers
    → (called : ThrowingCall) → can_try b answers called ≡ true → MayServeTry b (table_in b.func.now answers called)
trying calls b answers ready called may = by (table_held exception_tables b (table_in b.func.now answers called)) refl
  where
    serves : tries b (table_in b.func.now answers called) ≡ true
    serves = (and_parts (has_callee b.func.now answers called) (tries b (table_in b.func.now answers called)) (can-serve b answers called may)).1

    by : (o : Option ExceptionShape) → table_held exception_tables b (table_in b.func.now answers called) ≡ o → MayServeTry b (table_in b.func.now answers called)
    by None found = let no_way : false ≡ true = sym (ap (tries_at b) found) ∙ serves in let impossible : ⊥ = cc in absurd impossible
    by (Some made) found =
        let held = exceptions-held calls b answers ready (table_in b.func.now answers called) made found in
        let both = and_parts (list_all (λ edge. can_seal b edge.block) made.edges) (nat_lt made.sig (length b.func.now.tables.signatures)) (sym (ap (tries_at b) found) ∙ serves) in (
          made,
          found,
          (
            edges-lead calls b answers ready held.0.edges made.edges held.2.edges both.0,
            values-exist b.func.now (contexts_of made) (arguments-exist calls b answers ready (map Known held.0.contexts) (map arg.Value (contexts_of made)) held.2.contexts),
            ltb-true made.sig (length b.func.now.tables.signatures) both.1,
          ),
        )

-- its shape
pub throwing-operands : (numbers : Numbers) (called : ThrowingCall) (values : List ℕ) (held : ExceptionShape) → operands (throwing_shape numbers called values held) ≡ values
throwing-operands numbers (throwing.TryCall function args table) values held = refl
throwing-operands numbers (throwing.TryCallIndirect callee args table) values held = refl

pub throwing-contexts : (numbers : Numbers) (called : ThrowingCall) (values : List ℕ) (held : ExceptionShape) → contexts (throwing_shape numbers called values held) ≡ contexts_of held
throwing-contexts numbers (throwing.TryCall function args table) values held = refl
throwing-contexts numbers (throwing.TryCallIndirect callee args table) values held = refl

pub throwing-edges : (numbers : Numbers) (called : ThrowingCall) (values : List ℕ) (held : ExceptionShape) → destinations (throwing_shape numbers called values held) ≡ held.edges
throwing-edges numbers (throwing.TryCall function args table) values held = refl
throwing-edges numbers (throwing.TryCallIndirect callee args table) values held = refl

pub throwing-count : (tables : TableLists) (numbers : Numbers) (called : ThrowingCall) (values : List ℕ) (held : ExceptionShape) → count_of_results tables (throwing_shape numbers called values held) ≤ 1
throwing-count tables numbers (throwing.TryCall function args table) values held = omega arith
throwing-count tables numbers (throwing.TryCallIndirect callee args table) values held = omega arith

-- what it names exists behind the taking
pub throwing-entries : {R : Type 0} (old between : FunctionBuilder R) (answers : List Answer) (called : ThrowingCall) (values : List ℕ) (held : ExceptionShape) → can_try old answers called ≡ true
    → TakesExceptionTable old between (table_in old.func.now answers called) (Ok held) → held.sig < length between.func.now.tables.signatures
    → All (EntryExists between.func.now.tables) (entries_of (throwing_shape (numbers_at old.func.now answers) called values held))
throwing-entries old between answers (throwing.TryCall function args table) values held may takes signature =
    let number : ℕ = numbers_at old.func.now answers Functions function in
    let imported = (and_parts (nat_lt number (length old.func.now.tables.functions)) (tries old (numbers_at old.func.now answers ExceptionTables table)) (can-serve old answers (throwing.TryCall function args table) may)).0 in
    All-cons (EntryExists between.func.now.tables) (AFunctionRef number) (ASignatureRef held.sig ∷ [])
    (takes.sets.grows.6 (AFunctionRef number) (ltb-true number (length old.func.now.tables.functions) imported))
    (All-cons (EntryExists between.func.now.tables) (ASignatureRef held.sig) [] signature (All-nil (EntryExists between.func.now.tables)))
throwing-entries old between answers (throwing.TryCallIndirect callee args table) values held may takes signature =
    All-cons (EntryExists between.func.now.tables) (ASignatureRef held.sig) [] signature (All-nil (EntryExists between.func.now.tables))

pub throwing-exist : {R : Type 0} {naming : Naming} {declared : SignatureShape} (calls : List AnsweredCall) (old between : FunctionBuilder R) (answers : List Answer) → IsReady naming declared calls old answers
    → (called : ThrowingCall) (values : List ℕ) (held : ExceptionShape) → map (value_of old.func.now answers) (tried_operands called) ≡ map Some values
    → length old.func.now.values ≤ length between.func.now.values
    → (k : ℕ) → k < length (operands (throwing_shape (numbers_at old.func.now answers) called values held)) → slice_index (operands (throwing_shape (numbers_at old.func.now answers) called values held)) k < length between.func.now.values
throwing-exist calls old between answers ready called values held found grows =
    subst (λ (xs : List ℕ). (k : ℕ) → k < length xs → slice_index xs k < length between.func.now.values) (sym (throwing-operands (numbers_at old.func.now answers) called values held))
    (λ k inside. let below : slice_index values k < length old.func.now.values = all-exist calls old answers ready (tried_operands called) values found k inside in omega (arith, below, grows))

-- a taking finds no full table, and what is built behind it fails as the builder did before
pub never-full : {R : Type 0} {old between : FunctionBuilder R} {table : ℕ} (told : Result ExceptionShape BuildError) → TakesExceptionTable old between table told → told ≡ Err Full → ⊥
never-full (Ok held) takes is = cc
never-full (Err error) takes is = let failed = takes.only_failed in cc

pub not-failed : (told : Result ℕ BuildError) (old between : Bool) → old ≡ false → between ≡ false → (told ≡ Err Failed) ↔ IsTrue between → (told ≡ Err Failed) ↔ IsTrue old
not-failed told old between sound still tells = (
  λ is. let wrong : between ≡ true = tells.0 is in let no_way : ⊥ = cc in absurd no_way,
  λ failed. let wrong : old ≡ true = failed in let no_way : ⊥ = cc in absurd no_way,
)

-- it asks for its shape, in any builder that stands for the calls
throwing-asked : {R : Type 0} → RequestsAskForTheirShapes → {naming : Naming} {declared : SignatureShape} (calls : List AnsweredCall) (old between : FunctionBuilder R) (answers : List Answer) → IsReady naming declared calls old answers
    → StandsFor declared calls between → (numbers : Numbers) (called : ThrowingCall) (values : List ℕ) (made : ExceptionShape) → map (value_of old.func.now answers) (tried_operands called) ≡ map Some values
    → table_held exception_tables old (numbers ExceptionTables (table_of called)) ≡ Some made
    → AsksForShape calls between.func.now (throwing_request numbers naming (ledger_of calls) called) (throwing_shape numbers called values made) Invalid
throwing-asked shapes {naming} calls old between answers ready stands numbers (throwing.TryCall function args table) values made found at =
    let held = exceptions-held calls old answers ready (numbers ExceptionTables table) made at in
    (shapes calls between.func.now between.ctx.now.parts between.position stands.ledger).try_call (numbers Functions function) (numbers ExceptionTables table) (map naming args.items) values held.0 made
    (all-named calls old answers ready args.items values found) held.1 held.2
throwing-asked shapes {naming} calls old between answers ready stands numbers (throwing.TryCallIndirect callee args table) [] made found at = let no_way : ⊥ = cc in absurd no_way
throwing-asked shapes {naming} calls old between answers ready stands numbers (throwing.TryCallIndirect callee args table) (address ∷ values) made found at =
    let here : value_of old.func.now answers callee ≡ Some address = cc in
    let rest : map (value_of old.func.now answers) args.items ≡ map Some values = cc in
    let held = exceptions-held calls old answers ready (numbers ExceptionTables table) made at in
    (shapes calls between.func.now between.ctx.now.parts between.position stands.ledger).try_call_indirect (numbers ExceptionTables table) (naming callee) address (map naming args.items) values held.0 made
    (value-found calls old answers ready callee address here) (all-named calls old answers ready args.items values rest) held.1 held.2

is-answered : (numbers : Numbers) (naming : Naming) (ledger : Ledger) (called : ThrowingCall) (inst : ℕ) (results : List ℕ) → AnswerIs (answer.Inst inst) (answers_to ledger (throwing_request numbers naming ledger called)) (inst ∷ results)
is-answered numbers naming ledger (throwing.TryCall function args table) inst results = ([], results, refl, refl)
is-answered numbers naming ledger (throwing.TryCallIndirect callee args table) inst results = ([], results, refl, refl)

jumps-left : (numbers : Numbers) (naming : Naming) (ledger : Ledger) (called : ThrowingCall) → (ledger_with ledger (throwing_request numbers naming ledger called)).jump_tables ≡ ledger.jump_tables
jumps-left numbers naming ledger (throwing.TryCall function args table) = refl
jumps-left numbers naming ledger (throwing.TryCallIndirect callee args table) = refl

one-taken : (numbers : Numbers) (naming : Naming) (ledger : Ledger) (called : ThrowingCall) → (ledger_with ledger (throwing_request numbers naming ledger called)).exception_tables ≡ slice_set ledger.exception_tables (numbers ExceptionTables (table_of called)) None
one-taken numbers naming ledger (throwing.TryCall function args table) = refl
one-taken numbers naming ledger (throwing.TryCallIndirect callee args table) = refl

-- it was made
pub throwing-ready : {R : Type 0} → RequestsAskForTheirShapes → {naming : Naming} {declared : SignatureShape} (calls : List AnsweredCall) (old between new : FunctionBuilder R) (answers : List Answer) (called : ThrowingCall)
    (values : List ℕ) (made : ExceptionShape) (inst : ℕ) → IsReady naming declared calls old answers → map (value_of old.func.now answers) (tried_operands called) ≡ map Some values
    → TakesExceptionTable old between (table_in old.func.now answers called) (Ok made) → Builds between new (throwing_shape (numbers_at old.func.now answers) called values made) Invalid (Ok inst)
    → IsReadyAfter naming declared calls (throwing_request (numbers_at old.func.now answers) naming (ledger_of calls) called) new answers (answer.Inst inst)
throwing-ready shapes {naming} {declared} calls old between new answers called values made inst ready found takes builds = (
  numbers_of new inst,
  ready-answered calls call old new answers (answer.Inst inst) ready stands (is-answered (numbers_at old.func.now answers) naming (ledger_of calls) called inst (inst_at new.func.now inst).results)
      (λ edge same. let no_way : ⊥ = cc in absurd no_way)
      (tables-still calls call old new answers ready stands (jumps-left (numbers_at old.func.now answers) naming (ledger_of calls) called) (builds.grows.6 ∙ ap (λ (f : Body). f.tables.jump_tables) takes.sets.function)) exceptions,
)
  where
    call : AnsweredCall
    call = record { request = throwing_request (numbers_at old.func.now answers) naming (ledger_of calls) called; numbers = numbers_of new inst }

    taken : StandsFor declared calls between
    taken = takes.sets.stands declared calls ready.stands

    stands : StandsFor declared (calls ++ call ∷ []) new
    stands =
        let asked = throwing-asked shapes calls old between answers ready taken (numbers_at old.func.now answers) called values made found takes.held in
        subst (λ (r : Request). StandsFor declared (calls ++ record { request = r; numbers = numbers_of new inst } ∷ []) new) (sym asked.2)
        (builds.stands declared calls asked.0 asked.1 taken asked.3)

    exceptions : TablesAgree (NamesExceptions (calls ++ call ∷ [])) (ledger_of (calls ++ call ∷ [])).exception_tables new.func.now.tables.exception_tables
    exceptions =
        subst (TablesAgree (NamesExceptions (calls ++ call ∷ [])) (ledger_of (calls ++ call ∷ [])).exception_tables)
        (sym (builds.grows.8 ∙ ap (λ (f : Body). f.tables.exception_tables) takes.sets.function))
        (subst (λ (lists : List (Option ExceptionTable)). TablesAgree (NamesExceptions (calls ++ call ∷ [])) lists (slice_set old.func.now.tables.exception_tables (table_in old.func.now answers called) None))
        (sym (ap (λ (l : Ledger). l.exception_tables) (ledger-more calls call) ∙ one-taken (numbers_at old.func.now answers) naming (ledger_of calls) called))
        (table-serves (NamesExceptions (calls ++ call ∷ [])) (ledger_of calls).exception_tables old.func.now.tables.exception_tables (table_in old.func.now answers called)
        (exceptions-stay ready.reads calls (call ∷ []) old new ready.stands stands (ledger_of calls).exception_tables old.func.now.tables.exception_tables ready.exceptions)))
