-- A list makes an edge, a table of edges or a note: nothing of what a builder stands for changes.
use Rattle.std.proofs.Common.{◌≡◌, ℕ, zero, suc, List, [], ◌∷◌, ◌++◌, length, refl}
use Rattle.std.specs.Prelude.{Bool, Option, false}
use Rattle.clif_types.specs.Signature.{SignatureShape}
use Rattle.clif_ir.specs.Body.{Body}
use Rattle.clif_meaning.specs.Instruction.{Edge}
use Rattle.clif_meaning.specs.Name.{Name}
use Rattle.clif_meaning.specs.Request.{AnsweredCall, Annotate, MakeEdge, MakeExceptionTable, MakeJumpTable, TableItem, script_of}
use Rattle.clif_meaning.specs.Program.{Program, extended}
use Rattle.clif_meaning.specs.Ledger.{AnEdge, AJumpTable, AnExceptionTable, Answered, Ledger, answers_to, ledger_after, ledger_with}
use Rattle.clif_simulation.proofs.Values.{is_value_at}
use Rattle.clif_simulation.proofs.Numbering.{MakesNoInstruction}
use Rattle.clif_simulation.proofs.Further.{carries_still}
use Rattle.clif_simulation.proofs.NameLists.{MakesNoBlock}
use Rattle.clif_simulation.proofs.Listed.{MakesNoParameter}
use Rattle.clif_simulation.proofs.Redirections.Predecessors.{RedirectsBuilt, leads_on}
use Rattle.clif_builder.specs.Calls.{answered}
use Rattle.clif_builder.specs.Context.{ContextState}
use Rattle.clif_simulation.proofs.Tracking.Steps.{NamesNothing}
use Rattle.clif_builder.specs.Ledger.{LedgerAgrees, ledger_of}
use Rattle.clif_builder.specs.StandsFor.{StandsIn}
use Rattle.clif_builder.proofs.Counted.{leaves_all}
use Rattle.clif_builder.proofs.LedgerBlocks.{agrees-kept}
use Rattle.clif_builder.proofs.LedgerKept.{answers-none, answers-one, concluded}
use Rattle.clif_builder.proofs.Standing.{unchanged_alone}
use Rattle.clif_builder.proofs.Tracks.{tracks_still}

module _ (calls : List AnsweredCall) (f : Body) (c : ContextState) (p : Option ℕ) where
  pub edge_agrees : (edge : Edge Name Name) (number : ℕ) → LedgerAgrees calls (ledger_of calls) f c p
      → LedgerAgrees (calls ++ answered (MakeEdge edge) (number ∷ []) ∷ []) (ledger_of (calls ++ answered (MakeEdge edge) (number ∷ []) ∷ [])) f c p
  edge_agrees edge number agrees =
      let call : AnsweredCall = answered (MakeEdge edge) (number ∷ []) in
      let new : Ledger = ledger_with (ledger_of calls) (MakeEdge edge) in
      concluded calls call f c p
      (agrees-kept calls call (ledger_of calls) new f c c p p (AnEdge edge ∷ []) agrees refl refl refl refl agrees.current agrees.variables (λ b. refl) (λ b. refl) (λ b. refl) (tracks_still calls call f.values c tt agrees.tracks) (leaves_all c)
      agrees.structured (answers-one new f (length calls) (AnEdge edge) number tt tt))

  pub table_agrees : (default : Name) (entries : List Name) (number : ℕ) → number ≡ length (ledger_of calls).jump_tables → LedgerAgrees calls (ledger_of calls) f c p
      → LedgerAgrees (calls ++ answered (MakeJumpTable default entries) (number ∷ []) ∷ []) (ledger_of (calls ++ answered (MakeJumpTable default entries) (number ∷ []) ∷ [])) f c p
  table_agrees default entries number counts agrees =
      let call : AnsweredCall = answered (MakeJumpTable default entries) (number ∷ []) in
      let new : Ledger = ledger_with (ledger_of calls) (MakeJumpTable default entries) in
      let answer : Answered = AJumpTable (length (ledger_of calls).jump_tables) in
      concluded calls call f c p
      (agrees-kept calls call (ledger_of calls) new f c c p p (answer ∷ []) agrees refl refl refl refl agrees.current agrees.variables (λ b. refl) (λ b. refl) (λ b. refl) (tracks_still calls call f.values c tt agrees.tracks) (leaves_all c)
      agrees.structured (answers-one new f (length calls) answer number counts tt))

  pub exceptions_agree : (signature : ℕ) (normal : Name) (items : List TableItem) (number : ℕ) → number ≡ length (ledger_of calls).exception_tables
      → LedgerAgrees calls (ledger_of calls) f c p
      → LedgerAgrees (calls ++ answered (MakeExceptionTable signature normal items) (number ∷ []) ∷ [])
      (ledger_of (calls ++ answered (MakeExceptionTable signature normal items) (number ∷ []) ∷ [])) f c p
  exceptions_agree signature normal items number counts agrees =
      let call : AnsweredCall = answered (MakeExceptionTable signature normal items) (number ∷ []) in
      let new : Ledger = ledger_with (ledger_of calls) (MakeExceptionTable signature normal items) in
      let answer : Answered = AnExceptionTable (length (ledger_of calls).exception_tables) in
      concluded calls call f c p
      (agrees-kept calls call (ledger_of calls) new f c c p p (answer ∷ []) agrees refl refl refl refl agrees.current agrees.variables (λ b. refl) (λ b. refl) (λ b. refl) (tracks_still calls call f.values c tt agrees.tracks) (leaves_all c)
      agrees.structured (answers-one new f (length calls) answer number counts tt))

  pub note_agrees : (inside : Bool) (values : List Name) → LedgerAgrees calls (ledger_of calls) f c p
      → LedgerAgrees (calls ++ answered (Annotate inside values) [] ∷ []) (ledger_of (calls ++ answered (Annotate inside values) [] ∷ [])) f c p
  note_agrees inside values agrees =
      let call : AnsweredCall = answered (Annotate inside values) [] in
      let new : Ledger = ledger_with (ledger_of calls) (Annotate inside values) in
      concluded calls call f c p
      (agrees-kept calls call (ledger_of calls) new f c c p p [] agrees refl refl refl refl agrees.current agrees.variables (λ b. refl) (λ b. refl) (λ b. refl) (tracks_still calls call f.values c tt agrees.tracks) (leaves_all c)
      agrees.structured (answers-none new f (length calls)))

-- a call that answers no value and adds nothing to the program
module _ (declared : SignatureShape) (calls : List AnsweredCall) (f : Body) (c : ContextState) (p : Option ℕ) (call : AnsweredCall) (no_block : MakesNoBlock call.request)
    (no_parameter : MakesNoParameter call.request) (no_instruction : MakesNoInstruction call.request) (no_name : NamesNothing call.request) (leaves : (program : Program) → extended program call.request ≡ program)
    (no_value : (index : ℕ) → is_value_at (answers_to (ledger_after (script_of calls)) call.request) index ≡ false) (redirects : RedirectsBuilt calls call.request) where
  stands_still : StandsIn declared calls f c p → LedgerAgrees (calls ++ call ∷ []) (ledger_of (calls ++ call ∷ [])) f c p → StandsIn declared (calls ++ call ∷ []) f c p
  stands_still stands ledger = record {
    signature = stands.signature;
    ledger = ledger;
    carries = carries_still calls f c.ssa stands.carries call no_block no_parameter no_instruction no_name leaves no_value;
    leads_built = leads_on calls call redirects stands.leads_built;
    begun = stands.begun;
    callers_alone = λ b. unchanged_alone declared calls f c p stands call c no_block no_parameter (λ e. refl) b;
  }

module _ (declared : SignatureShape) (calls : List AnsweredCall) (f : Body) (c : ContextState) (p : Option ℕ) where
  pub edge_stands : (edge : Edge Name Name) (number : ℕ) → StandsIn declared calls f c p
      → StandsIn declared (calls ++ answered (MakeEdge edge) (number ∷ []) ∷ []) f c p
  edge_stands edge number stands =
      stands_still declared calls f c p (answered (MakeEdge edge) (number ∷ [])) tt tt tt tt (λ program. refl) no_value tt stands
      (edge_agrees calls f c p edge number stands.ledger)
    where
      no_value : (index : ℕ) → is_value_at (AnEdge edge ∷ []) index ≡ false
      no_value zero = refl
      no_value (suc index) = refl

  pub table_stands : (default : Name) (entries : List Name) (number : ℕ) → number ≡ length (ledger_of calls).jump_tables → StandsIn declared calls f c p
      → StandsIn declared (calls ++ answered (MakeJumpTable default entries) (number ∷ []) ∷ []) f c p
  table_stands default entries number counts stands =
      stands_still declared calls f c p (answered (MakeJumpTable default entries) (number ∷ [])) tt tt tt tt (λ program. refl) no_value tt stands
      (table_agrees calls f c p default entries number counts stands.ledger)
    where
      no_value : (index : ℕ) → is_value_at (AJumpTable (length (ledger_of calls).jump_tables) ∷ []) index ≡ false
      no_value zero = refl
      no_value (suc index) = refl

  pub exceptions_stand : (signature : ℕ) (normal : Name) (items : List TableItem) (number : ℕ) → number ≡ length (ledger_of calls).exception_tables
      → StandsIn declared calls f c p → StandsIn declared (calls ++ answered (MakeExceptionTable signature normal items) (number ∷ []) ∷ []) f c p
  exceptions_stand signature normal items number counts stands =
      stands_still declared calls f c p (answered (MakeExceptionTable signature normal items) (number ∷ [])) tt tt tt tt (λ program. refl) no_value tt stands
      (exceptions_agree calls f c p signature normal items number counts stands.ledger)
    where
      no_value : (index : ℕ) → is_value_at (AnExceptionTable (length (ledger_of calls).exception_tables) ∷ []) index ≡ false
      no_value zero = refl
      no_value (suc index) = refl

  pub note_stands : (inside : Bool) (values : List Name) → StandsIn declared calls f c p → StandsIn declared (calls ++ answered (Annotate inside values) [] ∷ []) f c p
  note_stands inside values stands =
      stands_still declared calls f c p (answered (Annotate inside values) []) tt tt tt tt (λ program. refl) (λ index. refl) tt stands
      (note_agrees calls f c p inside values stands.ledger)
