-- Each instruction that succeeds leaves a builder that stands for the list with this call at its end.
use Rattle.std.proofs.Common.{◌≡◌, ◌≢◌, ℕ, ◌<◌, List, [], ◌∷◌, ◌++◌, length, map, refl, sym, ◌∙◌, ap, ap₂, subst, ◌⊎◌, inl, inr}
use Rattle.std.specs.Prelude.{slice_get, Option, Some, None, Bool, true, false, if◌then◌else◌, ◌==◌, option_and_then}
use Rattle.std.specs.List.{AllByRecursion}
use Rattle.std.proofs.lemmas.Bool.{eq-eqb}
use Rattle.std.proofs.lemmas.Option.{slice_get_within, slice_get-map, none-some}
use Rattle.clif_types.specs.declared.types.«Type».{«Type»}
use Rattle.clif_types.specs.Signature.{SignatureShape}
use Rattle.clif_instructions.specs.declared.block_call.BlockArg.{BlockArg}
use Rattle.clif_instructions.specs.declared.block_call.BlockArg.TheVariants as arg
use Rattle.clif_instructions.specs.declared.block_call.BlockCall.{BlockCall}
use Rattle.clif_instructions.specs.declared.instructions.InstructionData.{InstructionData}
use Rattle.clif_nodes.specs.Nodes.{BlockNode}
use Rattle.clif_instructions.specs.declared.insert_at.InsertAt.TheVariants.{Back}
use Rattle.clif_ir.specs.Body.{Body, block_at}
use Rattle.clif_ir.specs.Changes.{inserted_in}
use Rattle.clif_instructions.specs.Instruction.{is_terminator}
use Rattle.clif_tables.specs.Callees.{types_of_results}
use Rattle.clif_meaning.specs.Name.{Name}
use Rattle.clif_meaning.specs.Instruction.{Argument, CallPayload, CallResult, Edge, Known}
use Rattle.clif_meaning.specs.Ledger.{BlockState}
use Rattle.clif_meaning.specs.Request.{AnsweredCall, number_of}
use Rattle.clif_meaning.specs.View.{argument_of, edge_of}
use Rattle.clif_simulation.specs.Tables as simulation
use Rattle.clif_simulation.specs.Tables.{answered, number_or_none}
use Rattle.clif_simulation.specs.Carries.{Carries, EdgeEarlier, IsEarlier, PassesEarlier, answered_argument, answered_edge}
use Rattle.clif_simulation.proofs.Listed.{MakesNoParameter}
use Rattle.clif_simulation.proofs.NameLists.{MakesNoBlock}
use Rattle.clif_ssa.proofs.Completing.{inserted_same}
use Rattle.clif_ssa.proofs.Constructed.{inserted_constructs}
use Rattle.clif_ssa.proofs.Instructions.{inst_params}
use Rattle.clif_simulation.proofs.Redirections.Predecessors.{RedirectsBuilt, leads_on}
use Rattle.clif_builder.specs.declared.context.BlockStatus.{BlockStatus}
use Rattle.clif_builder.specs.declared.context.BlockStatus.TheVariants.{Empty, Filled}
use Rattle.clif_builder.specs.Context.{ContextState, status_of, begun, SetsStatus}
use Rattle.clif_builder.specs.Builder.{AppendsIn, status_after, with_appended}
use Rattle.clif_builder.specs.Ledger.{LedgerAgrees, NamesArgument, NamesArguments, NamesEdge, NamesEdges, block_name, ledger_of}
use Rattle.clif_builder.specs.StandsFor.{StandsIn}
use Rattle.clif_builder.proofs.LedgerNames.{IsNumbered, named-block}
use Rattle.clif_builder.proofs.LedgerMade.{alone-still}
use Rattle.clif_builder.proofs.Standing.{begun_not_empty, first_cases}
use Rattle.clif_builder.proofs.StandingCallers.{alone_after, same_callers}

-- a name that has a number was answered before
pub named_earlier : (calls : List AnsweredCall) (name : Name) (number : ℕ) → number_of calls name ≡ Some number → IsEarlier calls name
named_earlier calls name number is = by (slice_get calls name.place) refl is
  where
    by : (o : Option AnsweredCall) → slice_get calls name.place ≡ o → option_and_then (λ (c : AnsweredCall). slice_get c.numbers name.index) o ≡ Some number → name.place < length calls
    by None found h = absurd (none-some number h)
    by (Some call) found h = slice_get_within calls name.place call found

answer_is : (calls : List AnsweredCall) (name : Name) (number : ℕ) → number_of calls name ≡ Some number → number ≡ answered calls name
answer_is calls name number is = sym (ap number_or_none is)

pub all_named : (calls : List AnsweredCall) (names : List Name) (values : List ℕ) → map (number_of calls) names ≡ map Some values
    → (values ≡ map (answered calls) names) × AllByRecursion (IsEarlier calls) names
all_named calls [] [] same = (refl, tt)
all_named calls [] (v ∷ values) same = absurd (differ same)
  where
    differ : [] ≡ (Some v ∷ map Some values) → ⊥
    differ h = cc
all_named calls (name ∷ names) [] same = absurd (differ same)
  where
    differ : (number_of calls name ∷ map (number_of calls) names) ≡ [] → ⊥
    differ h = cc
all_named calls (name ∷ names) (v ∷ values) same =
    let first : number_of calls name ≡ Some v = head same in
    let rest = all_named calls names values (tail same) in
    (ap (λ (x : ℕ). x ∷ values) (answer_is calls name v first) ∙ ap (λ (xs : List ℕ). answered calls name ∷ xs) rest.0, (named_earlier calls name v first, rest.1))
  where
    head : (number_of calls name ∷ map (number_of calls) names) ≡ (Some v ∷ map Some values) → number_of calls name ≡ Some v
    head h = cc

    tail : (number_of calls name ∷ map (number_of calls) names) ≡ (Some v ∷ map Some values) → map (number_of calls) names ≡ map Some values
    tail h = cc

-- names of what an edge passes answered it
argument_named : (calls : List AnsweredCall) (argument : Argument Name) (passed : BlockArg) → NamesArgument calls argument passed
    → (argument_of passed ≡ answered_argument calls argument) × PassesEarlier calls argument
argument_named calls (Known name) (arg.Value value) names = (ap (λ (v : ℕ). Known v) (answer_is calls name value names.number), names.is_value)
argument_named calls (Known name) (arg.TryCallRet place) names = absurd names
argument_named calls (Known name) (arg.TryCallExn place) names = absurd names
argument_named calls (CallResult index) (arg.Value value) names = absurd names
argument_named calls (CallResult index) (arg.TryCallRet place) names = (ap (λ (k : ℕ). CallResult k) (sym names), tt)
argument_named calls (CallResult index) (arg.TryCallExn place) names = absurd names
argument_named calls (CallPayload index) (arg.Value value) names = absurd names
argument_named calls (CallPayload index) (arg.TryCallRet place) names = absurd names
argument_named calls (CallPayload index) (arg.TryCallExn place) names = (ap (λ (k : ℕ). CallPayload k) (sym names), tt)

arguments_named : (calls : List AnsweredCall) (arguments : List (Argument Name)) (passed : List BlockArg) → NamesArguments calls arguments passed
    → (map argument_of passed ≡ map (answered_argument calls) arguments) × AllByRecursion (PassesEarlier calls) arguments
arguments_named calls [] [] names = (refl, tt)
arguments_named calls [] (p ∷ passed) names = absurd names
arguments_named calls (argument ∷ arguments) [] names = absurd names
arguments_named calls (argument ∷ arguments) (p ∷ passed) names =
    let first = argument_named calls argument p names.0 in
    let rest = arguments_named calls arguments passed names.1 in (
      ap₂ (λ (x : Argument ℕ) (xs : List (Argument ℕ)). x ∷ xs) first.0 rest.0,
      (first.1, rest.1),
    )

module _ (calls : List AnsweredCall) (numbered : IsNumbered calls (ledger_of calls)) where
  edge_named : (edge : Edge Name Name) (made : BlockCall) → NamesEdge calls edge made → (edge_of made ≡ answered_edge calls edge) × EdgeEarlier calls edge
  edge_named edge made names =
      let target : made.block ≡ answered calls edge.target = answer_is calls edge.target made.block names.target.number in
      let passes = arguments_named calls edge.arguments made.args names.arguments in
      let named : block_name (ledger_of calls) made.block ≡ Some edge.target = named-block calls numbered edge.target made.block names.target in (
        ap₂ (λ (k : ℕ) (arguments : List (Argument ℕ)). record { target = k; arguments = arguments }) target passes.0,
        record {
          target = named_earlier calls edge.target made.block names.target.number;
          leads = ap (simulation.block_name calls) (sym target) ∙ slice_get-map (λ (state : BlockState). state.block) (ledger_of calls).blocks made.block ∙ named;
          passes = passes.1;
        },
      )

  pub edges_named : (edges : List (Edge Name Name)) (made : List BlockCall) → NamesEdges calls edges made
      → (map edge_of made ≡ map (answered_edge calls) edges) × AllByRecursion (EdgeEarlier calls) edges
  edges_named [] [] names = (refl, tt)
  edges_named [] (m ∷ made) names = absurd names
  edges_named (edge ∷ edges) [] names = absurd names
  edges_named (edge ∷ edges) (m ∷ made) names =
      let first = edge_named edge m names.0 in
      let rest = edges_named edges made names.1 in (
        ap₂ (λ (x : Edge ℕ ℕ) (xs : List (Edge ℕ ℕ)). x ∷ xs) first.0 rest.0,
        (first.1, rest.1),
      )

-- no edge is named
pub none_named : (calls : List AnsweredCall) (edges : List (Edge Name Name)) → NamesEdges calls edges [] → edges ≡ []
none_named calls [] names = refl
none_named calls (edge ∷ edges) names = absurd names

-- one block has another status than empty, if it had one, or is the one in which something was made
not_empty : (c d : ContextState) (block : ℕ) (status : BlockStatus) → SetsStatus c d block status → status ≢ Empty
    → (b : ℕ) → (status_of c b ≢ Empty) ⊎ (b ≡ block) → status_of d b ≢ Empty
not_empty c d block status sets made b was empty = by (b == block) refl (sym (sets b) ∙ empty) was
  where
    apart : true ≡ false → ⊥
    apart h = cc

    by : (t : Bool) → (b == block) ≡ t → (if t then status else status_of c b) ≡ Empty → (status_of c b ≢ Empty) ⊎ (b ≡ block) → ⊥
    by true is e w = made e
    by false is e (inl not) = not e
    by false is e (inr same) = apart (sym (eq-eqb b block same) ∙ is)

-- a block to which an instruction was appended isn't empty
appended_not_empty : (shape : InstructionData) (status : BlockStatus) → status_after shape status ≢ Empty
appended_not_empty shape status = by (is_terminator shape)
  where
    filled : Filled ≢ Empty
    filled h = cc

    by : (t : Bool) → (if t then Filled else begun status) ≢ Empty
    by true = filled
    by false = begun_not_empty status

module _ (place : ℕ) (declared : SignatureShape) (calls : List AnsweredCall) (f g : Body) (c d : ContextState) (p : Option ℕ) (stands : StandsIn declared calls f c p)
    (block : ℕ) (shape : InstructionData) (ty : «Type») (inst : ℕ) (appends : AppendsIn place f c g d block shape ty inst) where
  was : (b : ℕ) → (slice_get f.layout 0 ≡ Some b) ⊎ (b ≡ block) → (status_of c b ≢ Empty) ⊎ (b ≡ block)
  was b (inl old) = inl (stands.begun b old)
  was b (inr same) = inr same

  -- an instruction was appended, and the function carries the call
  pub stands_built : (call : AnsweredCall) → MakesNoBlock call.request → MakesNoParameter call.request → RedirectsBuilt calls call.request → LedgerAgrees (calls ++ call ∷ []) (ledger_of (calls ++ call ∷ [])) g d p
      → Carries (calls ++ call ∷ []) (with_appended f block shape ty place) d.ssa → StandsIn declared (calls ++ call ∷ []) g d p
  stands_built call no_block no_parameter redirects ledger carries = record {
    signature = ap (λ (h : Body). h.signature) appends.function ∙ ap (λ (h : Body). h.signature) (inserted_constructs f block).same ∙ stands.signature;
    ledger = ledger;
    carries = subst (λ (h : Body). Carries (calls ++ call ∷ []) h d.ssa) (sym appends.function) carries;
    leads_built = leads_on calls call redirects stands.leads_built;
    begun = λ b stays.
        not_empty c d block (status_after shape (status_of c block)) appends.status (appended_not_empty shape (status_of c block)) b
        (was b (first_cases f block b (ap (λ (h : Body). slice_get h.layout 0) (sym appends.function) ∙ stays)));
    callers_alone = λ b.
        alone_after calls call f g c d stands.carries.own stands.carries.holds.parameters (same_callers calls call f c.ssa stands.carries no_block no_parameter) b
        (alone-still stands.carries.own stands.carries.own f g c d block (status_after shape (status_of c block)) (ap (λ (h : Body). h.layout) appends.function) appends.status
        (appended_not_empty shape (status_of c block)) b refl
        (ap (λ (h : Body). (block_at h b).params) appends.function ∙ inst_params (inserted_in f block) block Back shape (types_of_results f.tables shape ty) place b
        ∙ ap (λ (blocks : List BlockNode). (block_at (record f { blocks = blocks }) b).params) (inserted_same f block).blocks))
        (stands.callers_alone b);
  }
