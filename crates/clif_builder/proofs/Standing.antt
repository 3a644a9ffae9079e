-- Each call that succeeds leaves a builder that stands for the list with this call at its end.
use Rattle.std.proofs.Common.{◌≡◌, ◌≢◌, ℕ, ◌<◌, List, [], ◌∷◌, ◌++◌, length, refl, sym, ◌∙◌, ap, subst, ◌⊎◌, inl, inr}
use Rattle.std.specs.Prelude.{slice_get, Option, Some, None, option_map, Bool, true, false, if◌then◌else◌, ◌==◌}
use Rattle.std.proofs.lemmas.Option.{same_Some, slice_get-map, none-some}
use Rattle.std.proofs.lemmas.Bool.{eq-eqb, or_left}
use Rattle.clif_types.specs.declared.types.«Type».{«Type»}
use Rattle.clif_types.specs.Signature.{SignatureShape}
use Rattle.clif_ir.specs.Body.{Body, block_at, empty_body, value_at}
use Rattle.clif_ir.specs.Consistent.{IsConsistent}
use Rattle.clif_ir.specs.Changes.{with_block, inserted_in, with_layout}
use Rattle.clif_instructions.specs.Members.{stands_in}
use Rattle.clif_records.specs.Tables.{RecordMap, record_at}
use Rattle.clif_records.specs.Tracking.{with_binding}
use Rattle.clif_ssa.specs.Ssa.{sealed_of, predecessors_of, Records, SameBlocks, SamePredecessors}
use Rattle.clif_meaning.specs.Name.{Name}
use Rattle.clif_meaning.specs.Request.{AnsweredCall, CreateBlock, SwitchToBlock, SealBlock, DeclareVar, DefVar, UseVar}
use Rattle.clif_ssa.proofs.Counting.{block_params}
use Rattle.clif_ssa.proofs.Constructed.{inserted_constructs}
use Rattle.clif_ssa.proofs.Constructing.{constructs_then}
use Rattle.clif_ssa.proofs.StructuredLaws.{inserted_structured}
use Rattle.clif_meaning.specs.Ledger.{BlockState, VariableState, is_filled, state_has, variable_type}
use Rattle.clif_simulation.specs.Carries.{Carries, IsCurrent}
use Rattle.clif_simulation.specs.Structure.{HasCallersAlone}
use Rattle.clif_simulation.proofs.Listed.{MakesNoParameter}
use Rattle.clif_simulation.proofs.NameLists.{MakesNoBlock}
use Rattle.clif_simulation.proofs.Whole.{are_declared, declared_types}
use Rattle.clif_simulation.proofs.Shape.CarriedStructure.{matching_edges}
use Rattle.clif_simulation.proofs.Beginning.{carries_nothing, one_current}
use Rattle.clif_simulation.proofs.Calls.{carries_created, carries_switched, carries_declared, carries_sealed, carries_assigned, carries_used, structured_so_far}
use Rattle.clif_simulation.proofs.Redirections.Predecessors.{leads_on}
use Rattle.clif_builder.specs.declared.context.BlockStatus.{BlockStatus}
use Rattle.clif_builder.specs.declared.context.BlockStatus.TheVariants.{Empty, Partial, Filled}
use Rattle.clif_builder.specs.Context.{ContextState, SameStatus, empty_context, status_of, begun, Begins}
use Rattle.clif_builder.specs.Construction.{IsUse, IsSealing}
use Rattle.clif_builder.specs.Builder.{HasCurrent, is_filled_status}
use Rattle.clif_builder.specs.declared.builder.FunctionBuilder.{FunctionBuilder}
use Rattle.clif_builder.specs.Ledger.{IsBegun, LedgerAgrees, NamesValue, ledger_of, block_name}
use Rattle.clif_builder.specs.Laws.{StandingMatchesEdges}
use Rattle.clif_builder.specs.StandsFor.{StandsIn}
use Rattle.clif_builder.proofs.LedgerNames.{state-by-name, name-number}
use Rattle.clif_builder.proofs.Placed.{in_order, sealed_alone, used_alone}
use Rattle.clif_builder.proofs.Tracks.{tracks_made}
use Rattle.clif_builder.proofs.StandingCallers.{alone_after, created_callers, kept_alone, same_callers}

pub begun_not_empty : (s : BlockStatus) → begun s ≢ Empty
begun_not_empty Empty h = cc
begun_not_empty Partial h = cc
begun_not_empty Filled h = cc

-- a block in which something was made is no longer empty, and none is that wasn't before
pub begins_not_empty : (c d : ContextState) (blocks : List ℕ) → Begins c d blocks → (b : ℕ) → (status_of c b ≢ Empty) ⊎ (stands_in b blocks ≡ true) → status_of d b ≢ Empty
begins_not_empty c d blocks begins b was empty = by (stands_in b blocks) refl (sym (begins b) ∙ empty) was
  where
    apart : true ≡ false → ⊥
    apart h = cc

    by : (t : Bool) → stands_in b blocks ≡ t → (if t then begun (status_of c b) else status_of c b) ≡ Empty → (status_of c b ≢ Empty) ⊎ (stands_in b blocks ≡ true) → ⊥
    by true is e w = begun_not_empty (status_of c b) e
    by false is e (inl not) = not e
    by false is e (inr there) = apart (sym there ∙ is)

-- the first block of a layout into which one was brought was the first, or is that one
pub first_cases : (f : Body) (block b : ℕ) → slice_get (inserted_in f block).layout 0 ≡ Some b → (slice_get f.layout 0 ≡ Some b) ⊎ (b ≡ block)
first_cases f block b is = by (stands_in block f.layout) is
  where
    pushed : (layout : List ℕ) → slice_get (layout ++ block ∷ []) 0 ≡ Some b → (slice_get layout 0 ≡ Some b) ⊎ (b ≡ block)
    pushed [] h = inr (sym (same_Some block b h))
    pushed (x ∷ layout) h = inl h

    by : (t : Bool) → slice_get (if t then f else with_layout f block).layout 0 ≡ Some b → (slice_get f.layout 0 ≡ Some b) ⊎ (b ≡ block)
    by true h = inl h
    by false h = pushed f.layout h

module _ (declared : SignatureShape) (calls : List AnsweredCall) (f : Body) (c : ContextState) (p : Option ℕ) (stands : StandsIn declared calls f c p) where
  -- the current block has a name
  pub current_name : (block : ℕ) → p ≡ Some block → (B : Name) × IsCurrent calls block B
  current_name block at = by (ledger_of calls).current refl
    where
      agrees : option_map Some (ledger_of calls).current ≡ option_map (block_name (ledger_of calls)) (Some block)
      agrees = stands.ledger.current ∙ ap (option_map (block_name (ledger_of calls))) at

      by : (o : Option Name) → (ledger_of calls).current ≡ o → (B : Name) × IsCurrent calls block B
      by None is = absurd (none-some (block_name (ledger_of calls) block) (sym (ap (option_map Some) is) ∙ agrees))
      by (Some B) is =
          let named : Some B ≡ block_name (ledger_of calls) block = same_Some (Some B) (block_name (ledger_of calls) block) (sym (ap (option_map Some) is) ∙ agrees) in
          (B, record { current = one_current calls ∙ is; named = slice_get-map (λ (s : BlockState). s.block) (ledger_of calls).blocks block ∙ sym named })

  same_status : (d : ContextState) → d.status ≡ c.status → (b : ℕ) → status_of c b ≡ status_of d b
  same_status d status b = ap (λ (s : List BlockStatus). status_of (record c { status = s }) b) (sym status)

  -- a call that changes neither the function nor a status
  pub unchanged_alone : (call : AnsweredCall) (d : ContextState) → MakesNoBlock call.request → MakesNoParameter call.request → SameStatus c d
      → (b : ℕ) → HasCallersAlone (calls ++ call ∷ []) f b ⊎ IsBegun f d b
  unchanged_alone call d no_block no_parameter status b =
      alone_after calls call f f c d stands.carries.own stands.carries.holds.parameters (same_callers calls call f c.ssa stands.carries no_block no_parameter) b
      (kept_alone stands.carries.own f f c d b refl (λ was. record { inserted = was.inserted; begun = λ empty. was.begun (sym (status b) ∙ empty) }))
      (stands.callers_alone b)

  pub stands_created : (g : Body) (d : ContextState) (numbers : List ℕ) → g ≡ with_block f → d.ssa.records ≡ c.ssa.records → SameBlocks c.ssa d.ssa → SamePredecessors c.ssa d.ssa → d.status ≡ c.status
      → d.ssa.tracking ≡ c.ssa.tracking
      → LedgerAgrees (calls ++ record { request = CreateBlock; numbers = numbers } ∷ []) (ledger_of (calls ++ record { request = CreateBlock; numbers = numbers } ∷ [])) g d p
      → StandsIn declared (calls ++ record { request = CreateBlock; numbers = numbers } ∷ []) g d p
  stands_created g d numbers is records same leads status tracking ledger = record {
    signature = ap (λ (h : Body). h.signature) is ∙ stands.signature;
    ledger = ledger;
    carries = subst (λ (h : Body). Carries (calls ++ record { request = CreateBlock; numbers = numbers } ∷ []) h d.ssa) (sym is)
        (carries_created calls f c.ssa stands.carries d.ssa numbers stands.ledger.block_count (λ v b. ap (λ (m : RecordMap). record_at m v b) records) same leads tracking);
    leads_built = leads_on calls (record { request = CreateBlock; numbers = numbers }) tt stands.leads_built;
    begun = λ b there empty. stands.begun b (ap (λ (h : Body). slice_get h.layout 0) (sym is) ∙ there) (ap (λ (s : List BlockStatus). status_of (record c { status = s }) b) (sym status) ∙ empty);
    callers_alone = λ b.
        alone_after calls (record { request = CreateBlock; numbers = numbers }) f g c d stands.carries.own stands.carries.holds.parameters (created_callers calls numbers f c.ssa stands.carries) b
        (kept_alone stands.carries.own f g c d b (ap (λ (h : Body). (block_at h b).params) is ∙ block_params f b) (λ was. record {
          inserted = ap (λ (h : Body). stands_in b h.layout) is ∙ was.inserted;
          begun = λ empty. was.begun (same_status d status b ∙ empty);
        }))
        (stands.callers_alone b);
  }

  pub stands_switched : (q : Option ℕ) (name : Name) → LedgerAgrees (calls ++ record { request = SwitchToBlock name; numbers = [] } ∷ []) (ledger_of (calls ++ record { request = SwitchToBlock name; numbers = [] } ∷ [])) f c q
      → StandsIn declared (calls ++ record { request = SwitchToBlock name; numbers = [] } ∷ []) f c q
  stands_switched q name ledger = record {
    signature = stands.signature;
    ledger = ledger;
    carries = carries_switched calls f c.ssa stands.carries name [];
    leads_built = leads_on calls (record { request = SwitchToBlock name; numbers = [] }) tt stands.leads_built;
    begun = stands.begun;
    callers_alone = λ b. unchanged_alone (record { request = SwitchToBlock name; numbers = [] }) c tt tt (λ e. refl) b;
  }

  pub stands_declared : (d : ContextState) (ty : «Type») (numbers : List ℕ) → d.ssa ≡ c.ssa → d.status ≡ c.status
      → LedgerAgrees (calls ++ record { request = DeclareVar ty; numbers = numbers } ∷ []) (ledger_of (calls ++ record { request = DeclareVar ty; numbers = numbers } ∷ [])) f d p
      → StandsIn declared (calls ++ record { request = DeclareVar ty; numbers = numbers } ∷ []) f d p
  stands_declared d ty numbers ssa status ledger = record {
    signature = stands.signature;
    ledger = ledger;
    carries = subst (Carries (calls ++ record { request = DeclareVar ty; numbers = numbers } ∷ []) f) (sym ssa) (carries_declared calls f c.ssa stands.carries ty numbers);
    leads_built = leads_on calls (record { request = DeclareVar ty; numbers = numbers }) tt stands.leads_built;
    begun = λ b there empty. stands.begun b there (ap (λ (s : List BlockStatus). status_of (record c { status = s }) b) (sym status) ∙ empty);
    callers_alone = λ b. unchanged_alone (record { request = DeclareVar ty; numbers = numbers }) d tt tt (λ e. sym (same_status d status e)) b;
  }

  pub stands_sealed : (g : Body) (d : ContextState) (name : Name) (block : ℕ) (told : List ℕ) → IsConsistent f → IsSealing f c.ssa g d.ssa block told → Begins c d told → IsConsistent g → g.layout ≡ f.layout
      → LedgerAgrees (calls ++ record { request = SealBlock name; numbers = [] } ∷ []) (ledger_of (calls ++ record { request = SealBlock name; numbers = [] } ∷ [])) g d p
      → StandsIn declared (calls ++ record { request = SealBlock name; numbers = [] } ∷ []) g d p
  stands_sealed g d name block told consistent seals begins after layout ledger = record {
    signature = ap (λ (h : Body). h.signature) seals.constructs.same ∙ stands.signature;
    ledger = ledger;
    carries = carries_sealed calls f c.ssa stands.carries g d.ssa name [] (λ b. b == block) consistent seals.sealed seals.keeps seals.structured seals.constructs layout seals.predecessors after
        (tracks_made seals.tracks) seals.stay;
    leads_built = leads_on calls (record { request = SealBlock name; numbers = [] }) tt stands.leads_built;
    begun = λ b there. begins_not_empty c d told begins b (inl (stands.begun b (ap (λ (blocks : List ℕ). slice_get blocks 0) (sym layout) ∙ there)));
    callers_alone = λ b.
        let call : AnsweredCall = record { request = SealBlock name; numbers = [] } in
        alone_after calls call f g c d stands.carries.own stands.carries.holds.parameters (same_callers calls call f c.ssa stands.carries tt tt) b
        (sealed_alone f c (in_order stands.ledger) g d (λ b. b == block) told seals consistent after begins stands.carries.own (declared_types calls)
        (seals.structured (declared_types calls) stands.carries.own (structured_so_far calls f c.ssa stands.carries)) b)
        (stands.callers_alone b);
  }

  -- the current block, which has no terminator, has none in the ledger
  pub current_unfilled : (block : ℕ) (B : Name) → IsCurrent calls block B → status_of c block ≢ Filled → is_filled (ledger_of calls) B ≡ false
  current_unfilled block B current open_block =
      let numbered : block_name (ledger_of calls) block ≡ Some B = sym (slice_get-map (λ (s : BlockState). s.block) (ledger_of calls).blocks block) ∙ current.named in
      let state = state-by-name calls (ledger_of calls) (name-number calls (ledger_of calls) f c p stands.ledger) block B numbered in
      ap (state_has (λ (s : BlockState). s.is_filled)) state.3 ∙ (stands.ledger.blocks block state.0 state.1).is_filled ∙ not_filled (status_of c block) open_block
    where
      not_filled : (s : BlockStatus) → s ≢ Filled → is_filled_status s ≡ false
      not_filled Empty other = refl
      not_filled Partial other = refl
      not_filled Filled other = absurd (other refl)

  -- the type of a variable is the ledger's
  pub ledger_type : (variable : ℕ) (ty : «Type») → slice_get c.variables variable ≡ Some ty → variable_type (ledger_of calls) variable ≡ Some ty
  ledger_type variable ty is =
      sym (slice_get-map (λ (s : VariableState). s.ty) (ledger_of calls).variables variable) ∙ ap (λ (tys : List «Type»). slice_get tys variable) stands.ledger.variables.types ∙ is

  pub stands_assigned : (d : ContextState) (variable value block : ℕ) (name : Name) → p ≡ Some block → IsConsistent f → status_of c block ≢ Filled
      → value < length f.values → slice_get c.variables variable ≡ Some (value_at f value).ty → NamesValue calls name value → Records c.ssa d.ssa variable block value
      → d.ssa.tracking ≡ with_binding c.ssa.tracking variable value → d.ssa.blocks ≡ c.ssa.blocks → d.status ≡ c.status
      → LedgerAgrees (calls ++ record { request = DefVar variable name; numbers = [] } ∷ []) (ledger_of (calls ++ record { request = DefVar variable name; numbers = [] } ∷ [])) f d p
      → StandsIn declared (calls ++ record { request = DefVar variable name; numbers = [] } ∷ []) f d p
  stands_assigned d variable value block name at consistent open_block exists typed names records tracking blocks status ledger =
      let current = current_name block at in
      record {
        signature = stands.signature;
        ledger = ledger;
        carries = carries_assigned calls f c.ssa stands.carries consistent block current.0 current.1 (current_unfilled block current.0 current.1 open_block) d.ssa variable name value (value_at f value).ty []
            names.number names.is_value (ledger_type variable (value_at f value).ty typed) (exists, refl) records
            (λ b. ap (λ bs. sealed_of (record c.ssa { blocks = bs }) b) blocks) (λ b. ap (λ bs. predecessors_of (record c.ssa { blocks = bs }) b) blocks) tracking;
        begun = λ b there empty. stands.begun b there (ap (λ (s : List BlockStatus). status_of (record c { status = s }) b) (sym status) ∙ empty);
        leads_built = leads_on calls (record { request = DefVar variable name; numbers = [] }) tt stands.leads_built;
        callers_alone = λ b. unchanged_alone (record { request = DefVar variable name; numbers = [] }) d tt tt (λ e. sym (same_status d status e)) b;
      }

  -- a use of a variable in the current block
  pub stands_used : (g : Body) (d : ContextState) (variable : ℕ) (ty : «Type») (block value : ℕ) (told : List ℕ) → IsConsistent f → p ≡ Some block → status_of c block ≢ Filled
      → slice_get c.variables variable ≡ Some ty → IsUse (inserted_in f block) c.ssa g d.ssa variable ty block value told → Begins c d (block ∷ told) → IsConsistent g
      → g.layout ≡ (inserted_in f block).layout
      → LedgerAgrees (calls ++ record { request = UseVar variable; numbers = value ∷ [] } ∷ []) (ledger_of (calls ++ record { request = UseVar variable; numbers = value ∷ [] } ∷ [])) g d p
      → StandsIn declared (calls ++ record { request = UseVar variable; numbers = value ∷ [] } ∷ []) g d p
  stands_used g d variable ty block value told consistent at open_block of_type is_use begins after layout ledger =
      let current = current_name block at in
      let of_ledger : variable_type (ledger_of calls) variable ≡ Some ty = ledger_type variable ty of_type in
      let answer = is_use.structured (declared_types calls) stands.carries.own (sym (are_declared calls variable ty of_ledger))
      (inserted_structured (declared_types calls) stands.carries.own f c.ssa block (structured_so_far calls f c.ssa stands.carries)) in
      record {
        signature = ap (λ (h : Body). h.signature) (constructs_then f (inserted_in f block) g (inserted_constructs f block) is_use.constructs).same ∙ stands.signature;
        ledger = ledger;
        carries = carries_used calls f c.ssa stands.carries consistent block current.0 current.1 (current_unfilled block current.0 current.1 open_block) g d.ssa variable value ty of_ledger
            is_use.keeps (λ types own same before. (is_use.structured types own (sym same) before).0) is_use.constructs layout is_use.predecessors is_use.flags answer.1
            after (tracks_made is_use.tracks) is_use.stay;
        leads_built = leads_on calls (record { request = UseVar variable; numbers = value ∷ [] }) tt stands.leads_built;
        begun = λ b there. begins_not_empty c d (block ∷ told) begins b (was b (first_cases f block b (ap (λ (blocks : List ℕ). slice_get blocks 0) (sym layout) ∙ there)));
        callers_alone = λ b.
            let call : AnsweredCall = record { request = UseVar variable; numbers = value ∷ [] } in
            alone_after calls call f g c d stands.carries.own stands.carries.holds.parameters (same_callers calls call f c.ssa stands.carries tt tt) b
            (used_alone f c (in_order stands.ledger) g d variable ty block value told is_use after begins stands.carries.own (declared_types calls) answer.0 b)
            (stands.callers_alone b);
      }
    where
      was : (b : ℕ) → (slice_get f.layout 0 ≡ Some b) ⊎ (b ≡ block) → (status_of c b ≢ Empty) ⊎ (stands_in b (block ∷ told) ≡ true)
      was b (inl old) = inl (stands.begun b old)
      was b (inr same) = inr (or_left (block == b) (stands_in b told) (eq-eqb block b (sym same)))

-- the same for a builder of a fresh function
pub stands_begins : (f : Body) (c : ContextState) (p : Option ℕ) → f ≡ empty_body f.name f.signature → c ≡ empty_context → LedgerAgrees [] (ledger_of []) f c p → StandsIn f.signature [] f c p
stands_begins f c p function context ledger = record {
  signature = refl;
  ledger = ledger;
  carries = subst (λ (g : Body). Carries [] g c.ssa) (sym function) (subst (λ (d : ContextState). Carries [] (empty_body f.name f.signature) d.ssa) (sym context) (carries_nothing f.name f.signature));
  leads_built = tt;
  begun = λ b there empty. absurd (none-some b (sym (ap (λ (g : Body). slice_get g.layout 0) function) ∙ there));
  callers_alone = λ b. inl (ap (λ (g : Body). (block_at g b).params) function);
}

-- the current block exists
pub current_exists : {R : Type 0} (b : FunctionBuilder R) → HasCurrent b → (block : ℕ) → b.position ≡ Some block → block < length b.func.now.blocks
current_exists b current block at = subst (λ (k : ℕ). k < length b.func.now.blocks) (same_Some current.0 block (sym current.1 ∙ at)) current.2

-- and has no terminator
pub current_open : {R : Type 0} (b : FunctionBuilder R) → HasCurrent b → (block : ℕ) → b.position ≡ Some block → status_of b.ctx.now.parts block ≢ Filled
current_open b current block at = subst (λ (k : ℕ). status_of b.ctx.now.parts k ≢ Filled) (same_Some current.0 block (sym current.1 ∙ at)) current.3

-- once no parameter waits, the edges match where the caller's do
pub standing_edges : StandingMatchesEdges
standing_edges declared calls f c p stands none_waits typed = matching_edges calls f c.ssa stands.carries none_waits typed
