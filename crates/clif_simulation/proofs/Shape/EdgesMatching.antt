-- The edges of a function match once no parameter waits, in every program: each passes what the caller passed, and then
-- one value to each parameter of a variable.
use Rattle.clif_simulation.proofs.Finished.ZeroInsts.{LeadsNowhere, needed_lead_nowhere}
use Rattle.clif_ssa.specs.Zeros.{insts_of_zeros}
use Rattle.std.proofs.Common.{◌≡◌, ℕ, ◌+◌, ◌==◌, if◌then◌else◌, Bool, true, false, List, [], ◌∷◌, ◌++◌, map, slice_get, Option, Some, None, refl, sym, ◌∙◌, ap, ap₂, subst, arith}
use Rattle.std.proofs.lemmas.List.{map-append}
use Rattle.std.specs.List.{AllByRecursion, list_any}
use Rattle.clif_types.specs.declared.types.«Type».{«Type»}
use Rattle.clif_ir.specs.Body.{Body, inst_at, block_at}
use Rattle.clif_instructions.specs.Instruction.{destinations}
use Rattle.clif_instructions.specs.declared.block_call.BlockArg.{BlockArg}
use Rattle.clif_instructions.specs.declared.block_call.BlockArg.TheVariants.{Value}
use Rattle.clif_instructions.specs.declared.block_call.BlockCall.{BlockCall}
use Rattle.clif_ssa.specs.Own.{Own}
use Rattle.clif_ssa.specs.Ssa.{SsaState, sealed_of}
use Rattle.clif_ssa.specs.Sound.{args_of, edges_at, edge_target}
use Rattle.clif_ssa.specs.Structured.{VariableTypes, Structured, AreFor, EdgePasses}
use Rattle.clif_meaning.specs.Name.{Name}
use Rattle.clif_meaning.specs.Request.{AnsweredCall, script_of}
use Rattle.clif_meaning.specs.Ledger.{ledger_after, or_invalid}
use Rattle.clif_meaning.specs.Instruction.{Argument, Known, CallResult, CallPayload, Edge}
use Rattle.clif_meaning.specs.Program.{Instruct}
use Rattle.clif_meaning.specs.Event.{CallShape}
use Rattle.clif_meaning.specs.FunctionView.{Placed}
use Rattle.clif_meaning.specs.View.{argument_of, edge_of, edges_of, operation_of, placed_of, view_of}
use Rattle.clif_meaning.specs.Typing.{EdgesMatch, EachEdgeMatches, EdgeMatches, argument_type, call_shape, value_types_at}
use Rattle.clif_meaning.specs.Premises.{CallersEdgesMatch, ItemEdgesMatch, parameter_types}
use Rattle.clif_simulation.specs.Tables.{answered, callers_parameters, program_so_far, block_name}
use Rattle.clif_simulation.specs.Carries.{AreDeclared, EdgeEarlier, HasItems, IsValue, OwnNamed, OwnParameters, PassesEarlier, ValuesTyped, answered_argument, answered_edge, own_placed}
use Rattle.clif_simulation.specs.Structure.{EdgesEarlier, NoneWaits}
use Rattle.clif_simulation.proofs.Shape.CallersAlone
use Rattle.clif_simulation.proofs.Carrying.{all_append, all_mapped}
use Rattle.clif_simulation.proofs.Listed.{all_at}
use Rattle.clif_simulation.proofs.Finished.OwnEdges.{passed_there}
use Rattle.clif_simulation.proofs.Finished.Placing.{contained, map_at, map_from, OfItem, of_item}
use Rattle.clif_simulation.proofs.Finished.Targets.{all_where, edge_at, edges_by_number, name_types, payload_along, results_along}
use Rattle.clif_simulation.proofs.LedgerValues.{value_type}

-- no edge matches whatever the call at its start gives
none_match : (f : Body) (call : Option CallShape) → EachEdgeMatches (view_of f).value_type (value_types_at (view_of f)) call []
none_match f None = tt
none_match f (Some call) = tt

-- What an instruction's edges pass matches.
abbrev InstMatches : Body → Placed → Type 0
InstMatches f placed = EachEdgeMatches (view_of f).value_type (value_types_at (view_of f)) (call_shape placed.instruction.operation) placed.instruction.edges

abbrev placed_at_inst : Body → ℕ → Placed
placed_at_inst f i = placed_of f i

-- the types of what is passed, where the call at the edge's start gives results and a payload of these types
abbrev passed_types : Body → List «Type» → List «Type» → List BlockArg → List (Option «Type»)
passed_types f given payload args = map (argument_type (view_of f).value_type given payload) (map argument_of args)

-- the types of parameters
abbrev wanted_types : Body → List ℕ → List (Option «Type»)
wanted_types f params = map (λ ty. Some ty) (map (view_of f).value_type params)

-- values that are for parameters have their types
values_match : (f : Body) (given payload : List «Type») (values params : List ℕ) → AreFor f values params → passed_types f given payload (map Value values) ≡ wanted_types f params
values_match f given payload [] [] all = refl
values_match f given payload [] (param ∷ params) all = absurd all
values_match f given payload (value ∷ values) [] all = absurd all
values_match f given payload (value ∷ values) (param ∷ params) all =
    ap₂ (λ (ty : «Type») (types : List (Option «Type»)). Some ty ∷ types) all.0.1 (values_match f given payload values params all.1)

-- what is passed in two parts goes to parameters in two parts
both_match : (f : Body) (given payload : List «Type») (first second : List BlockArg) (firsts seconds : List ℕ)
    → passed_types f given payload first ≡ wanted_types f firsts → passed_types f given payload second ≡ wanted_types f seconds
    → passed_types f given payload (first ++ second) ≡ wanted_types f (firsts ++ seconds)
both_match f given payload first second firsts seconds one other =
    ap (map (argument_type (view_of f).value_type given payload)) (map-append argument_of first second)
    ∙ map-append (argument_type (view_of f).value_type given payload) (map argument_of first) (map argument_of second)
    ∙ ap₂ (λ (xs ys : List (Option «Type»)). xs ++ ys) one other
    ∙ sym (ap (map (λ ty. Some ty)) (map-append (view_of f).value_type firsts seconds)
    ∙ map-append (λ ty. Some ty) (map (view_of f).value_type firsts) (map (view_of f).value_type seconds))

zero_matches : (f : Body) (i : ℕ) → LeadsNowhere f i → InstMatches f (placed_at_inst f i)
zero_matches f i nowhere =
    subst (EachEdgeMatches (view_of f).value_type (value_types_at (view_of f)) (call_shape (operation_of f.tables (inst_at f i).shape)))
    (sym (ap (map edge_of) nowhere)) (none_match f (call_shape (operation_of f.tables (inst_at f i).shape)))

module _ (calls : List AnsweredCall) (f : Body) (s : SsaState) (own : Own) (types : VariableTypes) (structured : Structured types own f s [])
    (callers_own : OwnParameters calls own) (parameters_values : (name : Name) → AllByRecursion (IsValue calls) ((program_so_far calls).parameters name))
    (values_typed : ValuesTyped calls f) (earlier : (name : Name) → AllByRecursion (EdgesEarlier calls) ((program_so_far calls).items name)) (items : HasItems calls f own) (named_only : OwnNamed calls own.insts)
    (declared : AreDeclared f s own.insts) (none_waits : NoneWaits s) (typed : CallersEdgesMatch (script_of calls))
  where
    -- the types of what the call at its start gives along an edge
    abbrev shape_of : ℕ → Option CallShape
    shape_of i = call_shape (operation_of f.tables (inst_at f i).shape)

    abbrev results_of : ℕ → ℕ → List «Type»
    results_of i k = results_along (shape_of i) k

    abbrev payload_of : ℕ → ℕ → List «Type»
    payload_of i k = payload_along (shape_of i) k

    -- An edge of an instruction of the caller's is one of the program, which matches.
    record IsCallers (i k : ℕ) (call : BlockCall) : Type 0 where
      edge : Edge Name Name
      target : answered calls edge.target ≡ call.block
      passed : map argument_of (own.passed i k) ≡ map (answered_argument calls) edge.arguments
      was : EdgeEarlier calls edge
      matches : EdgeMatches (name_types calls) (parameter_types (ledger_after (script_of calls)) (program_so_far calls)) (results_of i k) (payload_of i k) edge

    is_callers : (b t i k : ℕ) (B : Name) (call : BlockCall) → block_name calls b ≡ Some B → slice_get (own.insts b) t ≡ Some i
        → slice_get (destinations (inst_at f i).shape) k ≡ Some call → IsCallers i k call
    is_callers b t i k B call named there stands =
        let it : OfItem calls ((program_so_far calls).items B) t (own_placed own f i) = of_item calls ((program_so_far calls).items B) t (own_placed own f i)
        (ap (λ (ps : List Placed). slice_get ps t) (sym (items b B named)) ∙ map_at (own_placed own f) (own.insts b) t i there) in
        let edges_are = ap (λ (p : Placed). p.instruction.edges) it.is in
        let passes = passed_there (own.passed i) 0 (edges_of (inst_at f i).shape) k (edge_of call) (map_at edge_of (destinations (inst_at f i).shape) k call stands) in
        let edge = map_from (answered_edge calls) it.instruction.edges k (record (edge_of call) { arguments = map argument_of (own.passed i (0 + k)) })
        (ap (λ (es : List (Edge ℕ ℕ)). slice_get es k) (sym edges_are) ∙ passes) in
        let same : k ≡ 0 + k = omega arith in
        let edges_earlier : EdgesEarlier calls (Instruct it.place it.instruction it.results) =
        all_at (EdgesEarlier calls) ((program_so_far calls).items B) it.j (Instruct it.place it.instruction it.results) (earlier B) it.stands in
        let item : ItemEdgesMatch (ledger_after (script_of calls)) (program_so_far calls) (Instruct it.place it.instruction it.results) =
        all_at (ItemEdgesMatch (ledger_after (script_of calls)) (program_so_far calls)) ((program_so_far calls).items B) it.j (Instruct it.place it.instruction it.results) (typed B) it.stands in
        record {
          edge = edge.0;
          target = ap (λ (e : Edge ℕ ℕ). e.target) edge.2;
          passed = ap (λ (m : ℕ). map argument_of (own.passed i m)) same ∙ sym (ap (λ (e : Edge ℕ ℕ). e.arguments) edge.2);
          was = all_at (EdgeEarlier calls) it.instruction.edges k edge.0 edges_earlier edge.1;
          matches = subst (λ (call : Option CallShape).
              EdgeMatches (name_types calls) (parameter_types (ledger_after (script_of calls)) (program_so_far calls)) (results_along call k) (payload_along call k) edge.0)
              (sym (ap (λ (p : Placed). call_shape p.instruction.operation) it.is))
              (edge_at (name_types calls) (parameter_types (ledger_after (script_of calls)) (program_so_far calls)) (call_shape it.instruction.operation) it.instruction.edges item k edge.0 edge.1);
        }

    -- a value has the type of its name
    value_typed : (name : Name) → IsValue calls name → (view_of f).value_type (answered calls name) ≡ name_types calls name
    value_typed name is =
        let typed = value_type calls name is in
        (values_typed name typed.0 typed.1).1 ∙ sym (ap or_invalid typed.1)

    argument_typed : (given payload : List «Type») (argument : Argument Name) → PassesEarlier calls argument
        → argument_type (view_of f).value_type given payload (answered_argument calls argument) ≡ argument_type (name_types calls) given payload argument
    argument_typed given payload (Known name) is = ap (λ ty. Some ty) (value_typed name is)
    argument_typed given payload (CallResult index) is = refl
    argument_typed given payload (CallPayload index) is = refl

    arguments_typed : (given payload : List «Type») (arguments : List (Argument Name)) → AllByRecursion (PassesEarlier calls) arguments
        → map (argument_type (view_of f).value_type given payload) (map (answered_argument calls) arguments) ≡ map (argument_type (name_types calls) given payload) arguments
    arguments_typed given payload [] all = refl
    arguments_typed given payload (argument ∷ arguments) all =
        ap₂ (λ (ty : Option «Type») (types : List (Option «Type»)). ty ∷ types) (argument_typed given payload argument all.0) (arguments_typed given payload arguments all.1)

    names_typed : (names : List Name) → AllByRecursion (IsValue calls) names → map (view_of f).value_type (map (answered calls) names) ≡ map (name_types calls) names
    names_typed [] all = refl
    names_typed (name ∷ names) all = ap₂ (λ (ty : «Type») (types : List «Type»). ty ∷ types) (value_typed name all.0) (names_typed names all.1)

    -- what the caller passed matches the caller's parameters
    callers_match : (i k : ℕ) (call : BlockCall) → IsCallers i k call → passed_types f (results_of i k) (payload_of i k) (own.passed i k) ≡ wanted_types f (own.params call.block)
    callers_match i k call is =
        let params : own.params call.block ≡ map (answered calls) ((program_so_far calls).parameters is.edge.target) =
        callers_own call.block ∙ ap (λ (o : Option Name). map (answered calls) (callers_parameters calls o)) (ap (block_name calls) (sym is.target) ∙ is.was.leads) in
        ap (map (argument_type (view_of f).value_type (results_of i k) (payload_of i k))) is.passed
        ∙ arguments_typed (results_of i k) (payload_of i k) is.edge.arguments is.was.passes
        ∙ is.matches
        ∙ ap (map (λ ty. Some ty)) (sym (names_typed ((program_so_far calls).parameters is.edge.target) (parameters_values is.edge.target)))
        ∙ sym (ap (wanted_types f) params)

    edge_matches : (b t i k : ℕ) (B : Name) (call : BlockCall) → block_name calls b ≡ Some B → slice_get (own.insts b) t ≡ Some i
        → slice_get (destinations (inst_at f i).shape) k ≡ Some call → EdgeMatches (view_of f).value_type (value_types_at (view_of f)) (results_of i k) (payload_of i k) (edge_of call)
    edge_matches b t i k B call named there stands =
        let to : edge_target f i k ≡ Some call.block = map_at (λ (edge : BlockCall). edge.block) (destinations (inst_at f i).shape) k call stands in
        let passes : EdgePasses f (own.passed i k) (structured.parameters call.block).complete (args_of (slice_get (edges_at f i) k)) =
        (structured.parameters call.block).edges i k (declared b i k call.block (contained (own.insts b) t i there) to) to in
        let args : call.args ≡ own.passed i k ++ map Value passes.values = ap args_of (sym stands) ∙ passes.in_order in
        let params : (block_at f call.block).params ≡ own.params call.block ++ (structured.parameters call.block).complete =
        CallersAlone.callers_first calls f s own types structured callers_own call.block
        (CallersAlone.none_waiting calls f s own types structured callers_own call.block (sealed_of s call.block) (none_waits call.block)) in
        ap (passed_types f (results_of i k) (payload_of i k)) args
        ∙ both_match f (results_of i k) (payload_of i k) (own.passed i k) (map Value passes.values) (own.params call.block) (structured.parameters call.block).complete
        (callers_match i k call (is_callers b t i k B call named there stands))
        (values_match f (results_of i k) (payload_of i k) passes.values (structured.parameters call.block).complete passes.are_for)
        ∙ sym (ap (wanted_types f) params)

    own_matches : (b t i : ℕ) (B : Name) → block_name calls b ≡ Some B → slice_get (own.insts b) t ≡ Some i → InstMatches f (placed_at_inst f i)
    own_matches b t i B named there = edges_by_number (view_of f).value_type (value_types_at (view_of f)) (shape_of i) (edges_of (inst_at f i).shape) each
      where
        each : (k : ℕ) (edge : Edge ℕ ℕ) → slice_get (edges_of (inst_at f i).shape) k ≡ Some edge
            → EdgeMatches (view_of f).value_type (value_types_at (view_of f)) (results_of i k) (payload_of i k) edge
        each k edge is =
            let from = map_from edge_of (destinations (inst_at f i).shape) k edge is in
            subst (EdgeMatches (view_of f).value_type (value_types_at (view_of f)) (results_of i k) (payload_of i k)) from.2 (edge_matches b t i k B from.0 named there from.1)

    all_own : (b : ℕ) (o : Option Name) → block_name calls b ≡ o → AllByRecursion (λ (i : ℕ). InstMatches f (placed_at_inst f i)) (own.insts b)
    all_own b None none = subst (AllByRecursion (λ (i : ℕ). InstMatches f (placed_at_inst f i))) (sym (named_only b none)) tt
    all_own b (Some B) named = all_where (λ (i : ℕ). InstMatches f (placed_at_inst f i)) (own.insts b) (λ t i there. own_matches b t i B named there)

    all_insts : (b : ℕ) → AllByRecursion (λ (i : ℕ). InstMatches f (placed_at_inst f i)) (block_at f b).insts
    all_insts b =
        let here = structured.zeros b in
        subst (AllByRecursion (λ (i : ℕ). InstMatches f (placed_at_inst f i))) (sym here.in_order)
        (all_append (λ (i : ℕ). InstMatches f (placed_at_inst f i)) (insts_of_zeros here.zeros) (own.insts b)
        (all_mapped (LeadsNowhere f) (λ (i : ℕ). InstMatches f (placed_at_inst f i)) (zero_matches f) (insts_of_zeros here.zeros) (needed_lead_nowhere f here.zeros here.needed)) (all_own b (block_name calls b) refl))

    of_insts : (insts : List ℕ) → AllByRecursion (λ (i : ℕ). InstMatches f (placed_at_inst f i)) insts → AllByRecursion (InstMatches f) (map (placed_at_inst f) insts)
    of_insts [] all = tt
    of_insts (i ∷ insts) all = (all.0, of_insts insts all.1)

    pub edges_match : EdgesMatch (view_of f)
    edges_match b = by (list_any (λ other. other == b) f.layout)
      where
        by : (t : Bool) → AllByRecursion (InstMatches f) (if t then map (placed_at_inst f) (block_at f b).insts else [])
        by true = of_insts (block_at f b).insts (all_insts b)
        by false = tt
