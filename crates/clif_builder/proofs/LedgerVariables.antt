-- A variable is declared or assigned: the agreement with the ledger is kept.
use Rattle.std.proofs.Common.{◌≡◌, ◌<◌, ℕ, List, [], ◌∷◌, ◌++◌, length, refl, sym, ◌∙◌, ap, subst, arith}
use Rattle.std.specs.Prelude.{slice_get, Option, Some, Result, Ok, Err, IfOk, OnOk}
use Rattle.std.proofs.lemmas.List.{length-map}
use Rattle.std.proofs.lemmas.Option.{slice_get_within}
use Rattle.clif_types.specs.declared.types.«Type».{«Type»}
use Rattle.clif_ir.specs.Body.{Body, value_at}
use Rattle.clif_meaning.specs.Name.{Name}
use Rattle.clif_meaning.specs.Request.{AnsweredCall, DeclareVar, DefVar}
use Rattle.clif_meaning.specs.Ledger.{AVariable, Ledger, VariableState, ledger_with}
use Rattle.clif_records.specs.Tables.{SsaBlock, is_yes, predecessors_at, sealed_at}
use Rattle.clif_ssa.specs.Ssa.{Records, SamePredecessors}
use Rattle.clif_ssa.specs.Structured.{HasType}
use Rattle.clif_ssa.proofs.StructuredLaws.{assigned_structured}
use Rattle.clif_builder.specs.declared.context.BlockStatus.{BlockStatus}
use Rattle.clif_builder.specs.Context.{ContextState, TouchesVariable, status_of}
use Rattle.clif_builder.specs.Ledger.{AreTypesOf, LedgerAgrees, NamesValue, ledger_of}
use Rattle.clif_builder.proofs.Counted.{leaves_declared, leaves_recorded}
use Rattle.clif_builder.proofs.LedgerLists.{get-front}
use Rattle.clif_builder.proofs.LedgerKept.{answers-none, answers-one, concluded}
use Rattle.clif_builder.proofs.LedgerBlocks.{agrees-kept}
use Rattle.clif_builder.proofs.Touching.{agree_declared, agree_touched, type_touched, types_before}
use Rattle.clif_records.specs.Tracking.{with_binding}
use Rattle.clif_builder.proofs.Tracks.{keeps_ssa, tracks_bound, tracks_on}

-- as many variables
pub variable-count : (calls : List AnsweredCall) (ledger : Ledger) (f : Body) (c : ContextState) (p : Option ℕ) → LedgerAgrees calls ledger f c p → length ledger.variables ≡ length c.variables
variable-count calls ledger f c p agrees = sym (length-map ledger.variables (λ (v : VariableState). v.ty)) ∙ ap (λ (types : List «Type»). length types) agrees.variables.types

pub agrees-declared : (calls : List AnsweredCall) (ledger : Ledger) (f : Body) (c : ContextState) (p : Option ℕ) (ty : «Type») (variable : ℕ)
    → LedgerAgrees calls ledger f c p → variable ≡ length c.variables
    → LedgerAgrees (calls ++ record { request = DeclareVar ty; numbers = variable ∷ [] } ∷ []) (ledger_with ledger (DeclareVar ty)) f (record c { variables = c.variables ++ ty ∷ [] }) p
agrees-declared calls ledger f c p ty variable agrees number =
    let call : AnsweredCall = record { request = DeclareVar ty; numbers = variable ∷ [] } in
    let new : Ledger = ledger_with ledger (DeclareVar ty) in
    let d : ContextState = record c { variables = c.variables ++ ty ∷ [] } in
    agrees-kept calls call ledger new f c d p p (AVariable (length ledger.variables) ∷ []) agrees refl refl refl refl agrees.current
    (agree_declared ledger.variables c ty agrees.variables)
    (λ b. refl) (λ b. refl) (λ b. refl) (tracks_on calls call f.values c f.values d tt (keeps_ssa f.values f.values c d (λ v is. is) refl) agrees.tracks) (leaves_declared c ty)
    (λ types are. agrees.structured types (λ x t is touched. are x t (get-front c.variables _ x t is) touched))
    (answers-one new f (length calls) (AVariable (length ledger.variables)) variable (number ∙ sym (variable-count calls ledger f c p agrees)) tt)

-- what comes of a declaration
pub declared : {E : Type 0} (calls : List AnsweredCall) (f : Body) (c d : ContextState) (p : Option ℕ) (ty : «Type») (r : Result ℕ E)
    → LedgerAgrees calls (ledger_of calls) f c p → OnOk r (d ≡ record c { variables = c.variables ++ ty ∷ [] }) → IfOk r (λ variable. variable ≡ length c.variables)
    → IfOk r (λ variable. LedgerAgrees (calls ++ record { request = DeclareVar ty; numbers = variable ∷ [] } ∷ []) (ledger_of (calls ++ record { request = DeclareVar ty; numbers = variable ∷ [] } ∷ [])) f d p)
declared calls f c d p ty (Err e) agrees context number = tt
declared calls f c d p ty (Ok variable) agrees context number =
    let call : AnsweredCall = record { request = DeclareVar ty; numbers = variable ∷ [] } in
    subst (λ (e : ContextState). LedgerAgrees (calls ++ call ∷ []) (ledger_of (calls ++ call ∷ [])) f e p) (sym context)
    (concluded calls call f (record c { variables = c.variables ++ ty ∷ [] }) p (agrees-declared calls (ledger_of calls) f c p ty variable agrees number))

pub agrees-assigned : (calls : List AnsweredCall) (ledger : Ledger) (f : Body) (c d : ContextState) (p : Option ℕ) (variable : ℕ) (name : Name) (block value : ℕ) (ty : «Type»)
    → LedgerAgrees calls ledger f c p → NamesValue calls name value → slice_get c.variables variable ≡ Some ty → HasType f value ty
    → Records c.ssa d.ssa variable block value → d.ssa.tracking ≡ with_binding c.ssa.tracking variable value → d.ssa.blocks ≡ c.ssa.blocks → d.status ≡ c.status → TouchesVariable c d variable
    → LedgerAgrees (calls ++ record { request = DefVar variable name; numbers = [] } ∷ []) (ledger_with ledger (DefVar variable name)) f d p
agrees-assigned calls ledger f c d p variable name block value ty agrees names declared typed records tracking blocks status touches =
    let call : AnsweredCall = record { request = DefVar variable name; numbers = [] } in
    let new : Ledger = ledger_with ledger (DefVar variable name) in
    agrees-kept calls call ledger new f c d p p [] agrees refl refl refl refl agrees.current
    (agree_touched ledger.variables c d variable inside touches agrees.variables)
    (λ b. ap (λ (xs : List SsaBlock). is_yes (sealed_at xs b)) blocks) leads
    (λ b. ap (λ (xs : List BlockStatus). status_of (record c { status = xs }) b) status)
    (tracks_bound calls f.values c d variable block value name names records tracking agrees.tracks) (leaves_recorded c d variable block value touches.0 records blocks)
    (λ types are.
    let before : AreTypesOf c types = types_before c d variable types touches are in
    let has : HasType f value (types variable) = subst (HasType f value) (sym (type_touched c d variable ty types touches declared are)) typed in
    assigned_structured types agrees.own f c.ssa d.ssa variable block value has records (λ b. ap (λ (xs : List SsaBlock). sealed_at xs b) blocks) leads
    (agrees.structured types before))
    (answers-none new f (length calls))
  where
    leads : SamePredecessors c.ssa d.ssa
    leads b = ap (λ (xs : List SsaBlock). predecessors_at xs b) blocks

    inside : variable < length ledger.variables
    inside = omega (arith, slice_get_within c.variables variable ty declared, variable-count calls ledger f c p agrees)

-- what comes of an assignment
pub assigned : {E : Type 0} (calls : List AnsweredCall) (f : Body) (c d : ContextState) (p : Option ℕ) (variable : ℕ) (name : Name) (block value : ℕ) (r : Result (Unit {0}) E)
    → LedgerAgrees calls (ledger_of calls) f c p → NamesValue calls name value → value < length f.values → slice_get c.variables variable ≡ Some (value_at f value).ty
    → OnOk r (Records c.ssa d.ssa variable block value) → OnOk r (d.ssa.tracking ≡ with_binding c.ssa.tracking variable value) → d.ssa.blocks ≡ c.ssa.blocks → d.status ≡ c.status → OnOk r (TouchesVariable c d variable)
    → OnOk r (LedgerAgrees (calls ++ record { request = DefVar variable name; numbers = [] } ∷ []) (ledger_of (calls ++ record { request = DefVar variable name; numbers = [] } ∷ [])) f d p)
assigned calls f c d p variable name block value (Err e) agrees names exists declared records tracking blocks status variables = tt
assigned calls f c d p variable name block value (Ok done) agrees names exists declared records tracking blocks status variables =
    concluded calls (record { request = DefVar variable name; numbers = [] }) f d p
    (agrees-assigned calls (ledger_of calls) f c d p variable name block value (value_at f value).ty agrees names declared (exists, refl) records tracking blocks status variables)
