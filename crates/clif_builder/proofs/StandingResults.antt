-- The same for calls that answer a result: where it is no error.
use Rattle.std.proofs.Common.{◌≡◌, ◌≢◌, ◌<◌, ℕ, List, [], ◌∷◌, ◌++◌, length, ap}
use Rattle.std.specs.Prelude.{◌==◌, slice_get, Option, Some, IfOk, OnOk, Result, Ok, Err}
use Rattle.clif_types.specs.Signature.{SignatureShape}
use Rattle.clif_types.specs.declared.types.«Type».{«Type»}
use Rattle.clif_ir.specs.Body.{Body, value_at}
use Rattle.clif_ir.specs.Consistent.{IsConsistent}
use Rattle.clif_ir.specs.Changes.{with_block, inserted_in}
use Rattle.clif_records.specs.Tracking.{with_binding}
use Rattle.clif_ssa.specs.Ssa.{Records, SameBlocks, SamePredecessors}
use Rattle.clif_meaning.specs.Name.{Name}
use Rattle.clif_meaning.specs.Request.{AnsweredCall, CreateBlock, SealBlock, DeclareVar, DefVar, UseVar}
use Rattle.clif_builder.specs.declared.context.BlockStatus.TheVariants.{Filled}
use Rattle.clif_builder.specs.Context.{ContextState, status_of, Begins}
use Rattle.clif_builder.specs.Construction.{IsUse, IsSealing}
use Rattle.clif_builder.specs.Ledger.{LedgerAgrees, NamesValue, ledger_of}
use Rattle.clif_builder.specs.StandsFor.{StandsIn}
use Rattle.clif_builder.proofs.Placed.{in_order, sealed_layout, used_layout}
use Rattle.clif_builder.proofs.Standing.{stands_created, stands_declared, stands_sealed, stands_assigned, stands_used}

module _ {E : Type 0} (declared : SignatureShape) (calls : List AnsweredCall) where
  pub created_stands : (f g : Body) (c d : ContextState) (p : Option ℕ) (r : Result ℕ E) → StandsIn declared calls f c p
      → OnOk r (g ≡ with_block f) → d.ssa.records ≡ c.ssa.records → SameBlocks c.ssa d.ssa → SamePredecessors c.ssa d.ssa → d.status ≡ c.status → d.ssa.tracking ≡ c.ssa.tracking
      → IfOk r (λ block. LedgerAgrees (calls ++ record { request = CreateBlock; numbers = block ∷ [] } ∷ []) (ledger_of (calls ++ record { request = CreateBlock; numbers = block ∷ [] } ∷ [])) g d p)
      → IfOk r (λ block. StandsIn declared (calls ++ record { request = CreateBlock; numbers = block ∷ [] } ∷ []) g d p)
  created_stands f g c d p (Err e) stands function records same leads status tracking ledger = tt
  created_stands f g c d p (Ok block) stands function records same leads status tracking ledger =
      stands_created declared calls f c p stands g d (block ∷ []) function records same leads status tracking ledger

  pub declared_stands : (f : Body) (c d : ContextState) (p : Option ℕ) (ty : «Type») (r : Result ℕ E) → StandsIn declared calls f c p
      → OnOk r (d ≡ record c { variables = c.variables ++ ty ∷ [] })
      → IfOk r (λ v. LedgerAgrees (calls ++ record { request = DeclareVar ty; numbers = v ∷ [] } ∷ []) (ledger_of (calls ++ record { request = DeclareVar ty; numbers = v ∷ [] } ∷ [])) f d p)
      → IfOk r (λ v. StandsIn declared (calls ++ record { request = DeclareVar ty; numbers = v ∷ [] } ∷ []) f d p)
  declared_stands f c d p ty (Err e) stands same ledger = tt
  declared_stands f c d p ty (Ok v) stands same ledger = stands_declared declared calls f c p stands d ty (v ∷ [])
      (ap (λ (e : ContextState). e.ssa) same) (ap (λ (e : ContextState). e.status) same) ledger

  pub sealed_stands : (f g : Body) (c d : ContextState) (p : Option ℕ) (name : Name) (block : ℕ) (r : Result (Unit {0}) E) → StandsIn declared calls f c p → IsConsistent f
      → OnOk r ((told : List ℕ) × IsSealing f c.ssa g d.ssa block told × Begins c d told) → IsConsistent g
      → OnOk r (LedgerAgrees (calls ++ record { request = SealBlock name; numbers = [] } ∷ []) (ledger_of (calls ++ record { request = SealBlock name; numbers = [] } ∷ [])) g d p)
      → OnOk r (StandsIn declared (calls ++ record { request = SealBlock name; numbers = [] } ∷ []) g d p)
  sealed_stands f g c d p name block (Err e) stands consistent seals after ledger = tt
  sealed_stands f g c d p name block (Ok u) stands consistent seals after ledger =
      stands_sealed declared calls f c p stands g d name block seals.0 consistent seals.1 seals.2 after
      (sealed_layout f c (in_order stands.ledger) g d (λ b. b == block) seals.0 seals.1 consistent after) ledger

  pub assigned_stands : (f : Body) (c d : ContextState) (p : Option ℕ) (variable value block : ℕ) (name : Name) (r : Result (Unit {0}) E) → StandsIn declared calls f c p
      → p ≡ Some block → IsConsistent f → status_of c block ≢ Filled → value < length f.values → slice_get c.variables variable ≡ Some (value_at f value).ty
      → NamesValue calls name value → OnOk r (Records c.ssa d.ssa variable block value) → OnOk r (d.ssa.tracking ≡ with_binding c.ssa.tracking variable value)
      → d.ssa.blocks ≡ c.ssa.blocks → d.status ≡ c.status
      → OnOk r (LedgerAgrees (calls ++ record { request = DefVar variable name; numbers = [] } ∷ []) (ledger_of (calls ++ record { request = DefVar variable name; numbers = [] } ∷ [])) f d p)
      → OnOk r (StandsIn declared (calls ++ record { request = DefVar variable name; numbers = [] } ∷ []) f d p)
  assigned_stands f c d p variable value block name (Err e) stands at consistent open_block exists typed names records tracking blocks status ledger = tt
  assigned_stands f c d p variable value block name (Ok u) stands at consistent open_block exists typed names records tracking blocks status ledger =
      stands_assigned declared calls f c p stands d variable value block name at consistent open_block exists typed names records tracking blocks status ledger

  pub used_stands : (f g : Body) (c d : ContextState) (p : Option ℕ) (variable : ℕ) (ty : «Type») (block : ℕ) (r : Result ℕ E) → StandsIn declared calls f c p → IsConsistent f
      → p ≡ Some block → status_of c block ≢ Filled → slice_get c.variables variable ≡ Some ty
      → IfOk r (λ value. (told : List ℕ) × IsUse (inserted_in f block) c.ssa g d.ssa variable ty block value told × Begins c d (block ∷ told))
      → IsConsistent g
      → IfOk r (λ value. LedgerAgrees (calls ++ record { request = UseVar variable; numbers = value ∷ [] } ∷ []) (ledger_of (calls ++ record { request = UseVar variable; numbers = value ∷ [] } ∷ [])) g d p)
      → IfOk r (λ value. StandsIn declared (calls ++ record { request = UseVar variable; numbers = value ∷ [] } ∷ []) g d p)
  used_stands f g c d p variable ty block (Err e) stands consistent at open_block of_type is_use after ledger = tt
  used_stands f g c d p variable ty block (Ok value) stands consistent at open_block of_type is_use after ledger =
      stands_used declared calls f c p stands g d variable ty block value is_use.0 consistent at open_block of_type is_use.1 is_use.2 after
      (used_layout f c (in_order stands.ledger) g d variable ty block value is_use.0 is_use.1 after) ledger
