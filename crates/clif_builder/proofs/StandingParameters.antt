-- A builder goes on standing for the calls where parameters of the caller's come behind those of a block; and what goes on
-- existing then.
use Rattle.std.proofs.Common.{◌≡◌, ◌<◌, ℕ, List, [], ◌∷◌, ◌++◌, length, refl, sym, ◌∙◌, ap, subst, arith, inl, inr, get_or, take, ◌+◌, ◌-◌, ◌^◌}
use Rattle.std.specs.Prelude.{slice_get, Option, Some, IfOk, OnOk, Result, Ok, Err}
use Rattle.std.proofs.lemmas.List.{length-append, length-map, length-take-le, map_push, take_more}
use Rattle.std.proofs.lemmas.Option.{slice_get-map}
use Rattle.clif_types.specs.declared.extfunc.AbiParam.{AbiParam}
use Rattle.clif_types.specs.declared.types.«Type».{«Type»}
use Rattle.clif_types.specs.Signature.{SignatureShape}
use Rattle.clif_ir.specs.Body.{Body, resolved}
use Rattle.clif_ir.specs.Changes.{with_param}
use Rattle.clif_ir.specs.Consistent.{IsConsistent}
use Rattle.clif_instructions.specs.Members.{stands_in}
use Rattle.clif_ssa.specs.Ssa.{SsaState}
use Rattle.clif_ssa.specs.Structure.{Remembers, StayAlike}
use Rattle.clif_ssa.proofs.Alike.{alike_same}
use Rattle.clif_ssa.proofs.Bodies.{Firm, firm_from}
use Rattle.clif_ssa.proofs.Parameters.{param_firm, param_resolved}
use Rattle.clif_meaning.specs.Name.{Name}
use Rattle.clif_meaning.specs.Request.{AnsweredCall, AppendBlockParams, Request}
use Rattle.clif_meaning.specs.Ledger.{BlockState}
use Rattle.clif_simulation.specs.Tables as simulation
use Rattle.clif_simulation.specs.Carries.{numbers_from, with_params}
use Rattle.clif_simulation.specs.Structure.{HasCallersAlone}
use Rattle.clif_simulation.proofs.Appending.{same_layout}
use Rattle.clif_simulation.proofs.ParameterCalls.{Makes, alone_still, carries_params}
use Rattle.clif_simulation.proofs.Redirections.Predecessors.{RedirectsBuilt, leads_on}
use Rattle.clif_builder.specs.declared.context.BlockStatus.TheVariants.{Empty}
use Rattle.clif_builder.specs.Context.{ContextState, status_of}
use Rattle.clif_builder.specs.Ledger.{LedgerAgrees, NamesBlock, ledger_of}
use Rattle.clif_tables.specs.Callees.{types_of}
use Rattle.clif_builder.specs.Growth.{Grows, NoRoomFor}
use Rattle.clif_builder.specs.StandsFor.{StandsIn}
use Rattle.clif_builder.proofs.Growing.{Grows-same, Grows-then, Grows-with_param}
use Rattle.clif_builder.proofs.LedgerKept.{concluded}
use Rattle.clif_builder.proofs.LedgerNames.{name-number, named-block}
use Rattle.clif_builder.proofs.Parameters.{agrees-params}

same_signature : (f : Body) (b : ℕ) (types : List «Type») → (with_params f b types).signature ≡ f.signature
same_signature f b [] = refl
same_signature f b (ty ∷ types) = same_signature (with_param f b ty) b types

pub same-signature : (f g : Body) (b : ℕ) (types : List «Type») → g ≡ with_params f b types → g.signature ≡ f.signature
same-signature f g b types is = ap (λ (h : Body). h.signature) is ∙ same_signature f b types

-- parameters of these types, by a call that makes them
pub params_agree : (calls : List AnsweredCall) (f : Body) (c : ContextState) (p : Option ℕ) (b : ℕ) (B : Name) (types : List «Type») (request : Request)
    → LedgerAgrees calls (ledger_of calls) f c p → IsConsistent f → NamesBlock calls B b → status_of c b ≡ Empty → Makes request B types
    → LedgerAgrees (calls ++ record { request = request; numbers = numbers_from (length f.values) types } ∷ [])
    (ledger_of (calls ++ record { request = request; numbers = numbers_from (length f.values) types } ∷ [])) (with_params f b types) c p
params_agree calls f c p b B types request agrees consistent names empty makes =
    let call : AnsweredCall = record { request = request; numbers = numbers_from (length f.values) types } in
    let named = named-block calls (name-number calls (ledger_of calls) f c p agrees) B b names in
    concluded calls call (with_params f b types) c p (agrees-params calls (ledger_of calls) f c p agrees consistent b B named empty types call makes refl)

pub params_stand : (declared : SignatureShape) (calls : List AnsweredCall) (f : Body) (c : ContextState) (p : Option ℕ) (b : ℕ) (B : Name) (types : List «Type») (request : Request)
    → StandsIn declared calls f c p → IsConsistent f → NamesBlock calls B b → b < length f.blocks → status_of c b ≡ Empty → Makes request B types
    → StandsIn declared (calls ++ record { request = request; numbers = numbers_from (length f.values) types } ∷ []) (with_params f b types) c p
params_stand declared calls f c p b B types request stands consistent names there empty makes = record {
  signature = same_signature f b types ∙ stands.signature;
  ledger = params_agree calls f c p b B types request stands.ledger consistent names empty makes;
  carries = carries_params calls f c.ssa stands.carries consistent b B named there alone types (record { request = request; numbers = numbers_from (length f.values) types }) makes refl;
  leads_built = leads_on calls (record { request = request; numbers = numbers_from (length f.values) types }) (redirects_none makes) stands.leads_built;
  begun = λ entry first. stands.begun entry (ap (λ (layout : List ℕ). slice_get layout 0) (sym (same_layout f b types)) ∙ first);
  callers_alone = λ d. elim (stands.callers_alone d) [
    | inl old ↦ inl (alone_still calls f c.ssa stands.carries consistent b B named there alone types (record { request = request; numbers = numbers_from (length f.values) types }) makes refl d old)
    | inr begun ↦ inr (record { inserted = ap (stands_in d) (same_layout f b types) ∙ begun.inserted; begun = begun.begun })
  ];
}
  where
    redirects_none : Makes request B types → RedirectsBuilt calls request
    redirects_none (inl is) = subst (RedirectsBuilt calls) (sym is) tt
    redirects_none (inr is) = subst (RedirectsBuilt calls) (sym is) tt

    named : simulation.block_name calls b ≡ Some B
    named = slice_get-map (λ (state : BlockState). state.block) (ledger_of calls).blocks b ∙ named-block calls (name-number calls (ledger_of calls) f c p stands.ledger) B b names

    alone : HasCallersAlone calls f b
    alone = elim (stands.callers_alone b) [ inl is ↦ is | inr begun ↦ absurd (begun.begun empty) ]

-- the calls with one parameter more, and with many
abbrev pub one_more : List AnsweredCall → Name → «Type» → ℕ → List AnsweredCall
one_more calls B ty v = calls ++ record { request = AppendBlockParams B (ty ∷ []); numbers = v ∷ [] } ∷ []

abbrev pub many_more : List AnsweredCall → Body → Request → List «Type» → List AnsweredCall
many_more calls f request types = calls ++ record { request = request; numbers = numbers_from (length f.values) types } ∷ []

-- where no error is answered
module _ {E : Type 0} (calls : List AnsweredCall) (f g : Body) (c : ContextState) (p : Option ℕ) (b : ℕ) (B : Name) where
  pub one_agrees : (ty : «Type») (r : Result ℕ E) → LedgerAgrees calls (ledger_of calls) f c p → IsConsistent f → NamesBlock calls B b → status_of c b ≡ Empty
      → OnOk r (g ≡ with_param f b ty) → IfOk r (λ v. v ≡ length f.values) → IfOk r (λ v. LedgerAgrees (one_more calls B ty v) (ledger_of (one_more calls B ty v)) g c p)
  one_agrees ty (Err e) agrees consistent names empty is number = tt
  one_agrees ty (Ok v) agrees consistent names empty is number =
      subst (λ (n : ℕ). LedgerAgrees (one_more calls B ty n) (ledger_of (one_more calls B ty n)) g c p) (sym number)
      (subst (λ (h : Body). LedgerAgrees (one_more calls B ty (length f.values)) (ledger_of (one_more calls B ty (length f.values))) h c p) (sym is)
      (params_agree calls f c p b B (ty ∷ []) (AppendBlockParams B (ty ∷ [])) agrees consistent names empty (inl refl)))

  pub one_stands : (declared : SignatureShape) (ty : «Type») (r : Result ℕ E) → StandsIn declared calls f c p → IsConsistent f → NamesBlock calls B b → b < length f.blocks → status_of c b ≡ Empty
      → OnOk r (g ≡ with_param f b ty) → IfOk r (λ v. v ≡ length f.values) → IfOk r (λ v. StandsIn declared (one_more calls B ty v) g c p)
  one_stands declared ty (Err e) stands consistent names there empty is number = tt
  one_stands declared ty (Ok v) stands consistent names there empty is number =
      subst (λ (n : ℕ). StandsIn declared (one_more calls B ty n) g c p) (sym number)
      (subst (λ (h : Body). StandsIn declared (one_more calls B ty (length f.values)) h c p) (sym is)
      (params_stand declared calls f c p b B (ty ∷ []) (AppendBlockParams B (ty ∷ [])) stands consistent names there empty (inl refl)))

  pub many_agree : (types : List «Type») (request : Request) (r : Result (Unit {0}) E) → Makes request B types → LedgerAgrees calls (ledger_of calls) f c p → IsConsistent f → NamesBlock calls B b
      → status_of c b ≡ Empty → OnOk r (g ≡ with_params f b types) → OnOk r (LedgerAgrees (many_more calls f request types) (ledger_of (many_more calls f request types)) g c p)
  many_agree types request (Err e) makes agrees consistent names empty is = tt
  many_agree types request (Ok u) makes agrees consistent names empty is =
      subst (λ (h : Body). LedgerAgrees (many_more calls f request types) (ledger_of (many_more calls f request types)) h c p) (sym is)
      (params_agree calls f c p b B types request agrees consistent names empty makes)

  pub many_stand : (declared : SignatureShape) (types : List «Type») (request : Request) (r : Result (Unit {0}) E) → Makes request B types → StandsIn declared calls f c p → IsConsistent f
      → NamesBlock calls B b → b < length f.blocks → status_of c b ≡ Empty → OnOk r (g ≡ with_params f b types) → OnOk r (StandsIn declared (many_more calls f request types) g c p)
  many_stand declared types request (Err e) makes stands consistent names there empty is = tt
  many_stand declared types request (Ok u) makes stands consistent names there empty is =
      subst (λ (h : Body). StandsIn declared (many_more calls f request types) h c p) (sym is)
      (params_stand declared calls f c p b B types request stands consistent names there empty makes)

-- WHAT GOES ON EXISTING -------------------------------------------------------------------------------------------------

pub Grows-params : (f : Body) (b : ℕ) (types : List «Type») → Grows f (with_params f b types)
Grows-params f b [] = Grows-same f f refl
Grows-params f b (ty ∷ types) = Grows-then f (with_param f b ty) (with_params (with_param f b ty) b types) (Grows-with_param f b ty) (Grows-params (with_param f b ty) b types)

-- each parameter is one more value
values_more : (f : Body) (b : ℕ) (types : List «Type») → length (with_params f b types).values ≡ length f.values + length types
values_more f b [] = omega arith
values_more f b (ty ∷ types) =
    let one : length (with_param f b ty).values ≡ length f.values + 1 = length-append f.values _ in
    let rest = values_more (with_param f b ty) b types in
    omega (arith, one, rest)

-- no more parameters were made than there are
pub no-room : (f g : Body) (b : ℕ) (params : List AbiParam) (index : ℕ) → index < length params → g ≡ with_params f b (types_of (take index params)) → length g.values ≡ 2 ^ 32 - 1
    → NoRoomFor f (length params)
no-room f g b params index inside is full =
    let same : length g.values ≡ length (with_params f b (types_of (take index params))).values = ap (λ (h : Body). length h.values) is in
    let more = values_more f b (types_of (take index params)) in
    let typed : length (types_of (take index params)) ≡ length (take index params) = length-map (take index params) (λ (p : AbiParam). p.value_type) in
    let few : length (take index params) ≡ index = length-take-le index params (omega (arith, inside)) in
    (index, inside, omega (arith, same, more, typed, few, full))

-- each value stands for the value that it stood for
params_resolved : (f : Body) (b : ℕ) (types : List «Type») → Firm f → b < length f.blocks → (v : ℕ) → resolved (with_params f b types) v ≡ resolved f v
params_resolved f b [] firm there v = refl
params_resolved f b (ty ∷ types) firm there v =
    let grows = Grows-with_param f b ty in
    params_resolved (with_param f b ty) b types (param_firm f b ty firm there) (omega (arith, there, grows.2)) v ∙ param_resolved f b ty firm v

pub remembers_params : {T E : Type 0} (r : Result T E) (x d : ℕ) (f g : Body) (s : SsaState) (b : ℕ) (types : List «Type») → IsConsistent f → b < length f.blocks
    → OnOk r (g ≡ with_params f b types) → OnOk r (Remembers x d f s g s)
remembers_params (Err e) x d f g s b types consistent there is = tt
remembers_params (Ok v) x d f g s b types consistent there is = record {
  recorded = λ w at. at;
  alike = subst (StayAlike f) (sym is) (alike_same f (with_params f b types) (params_resolved f b types (firm_from f consistent) there));
}

-- WITH ONE MORE ---------------------------------------------------------------------------------------------------------

pub params-push : (f : Body) (b : ℕ) (types : List «Type») (ty : «Type») → with_params f b (types ++ ty ∷ []) ≡ with_param (with_params f b types) b ty
params-push f b [] ty = refl
params-push f b (t ∷ types) ty = params-push (with_param f b t) b types ty

-- the next parameter of a signature
pub params-next : (first f g : Body) (b : ℕ) (params : List AbiParam) (i : ℕ) (param : AbiParam) → i < length params → param ≡ get_or params i param
    → f ≡ with_params first b (types_of (take i params)) → g ≡ with_param f b param.value_type → g ≡ with_params first b (types_of (take (i + 1) params))
params-next first f g b params i param inside at before next =
    next ∙ ap (λ (h : Body). with_param h b param.value_type) before ∙ sym (params-push first b (types_of (take i params)) param.value_type)
    ∙ ap (with_params first b)
    (ap (λ (p : AbiParam). types_of (take i params) ++ p.value_type ∷ []) at ∙ sym (map_push (λ (p : AbiParam). p.value_type) (take i params) (get_or params i param))
    ∙ ap types_of (sym (take_more params i param inside)))
