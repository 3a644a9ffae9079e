-- What a use of a variable says, of a use that is only tried too.
use Rattle.std.proofs.Common.{◌≡◌, ◌≢◌, ℕ, List, refl, sym, ap, ◌∙◌, inl}
use Rattle.std.specs.Prelude.{Option, Some, None, Result, Ok, Err, IfOk, IfSome, slice_get}
use Rattle.clif_types.specs.declared.error.BuildError.{BuildError}
use Rattle.clif_types.specs.declared.error.BuildError.TheVariants.{Failed, Full}
use Rattle.clif_types.specs.declared.types.«Type».{«Type»}
use Rattle.clif_meaning.specs.Request.{AnsweredCall}
use Rattle.clif_ssa.specs.Ssa.{SealedStays}
use Rattle.clif_builder.specs.declared.builder.FunctionBuilder.{FunctionBuilder}
use Rattle.clif_builder.specs.Context.{SetsStatus, begun, status_of}
use Rattle.clif_builder.specs.Ledger.{AgreesWithLedger}
use Rattle.clif_builder.specs.Uses.{UsesVariable, value_given}

no_ok : {A : Type 0} {a : A} → ◌≡◌ {A = Result A BuildError} (Ok a) (Err Full) → ⊥
no_ok same = cc

pub failed_full : {A : Type 0} → ◌≡◌ {A = Result A BuildError} (Err Failed) (Err Full) → ⊥
failed_full same = cc

same_error : {A : Type 0} {d e : BuildError} → ◌≡◌ {A = Result A BuildError} (Err d) (Err e) → d ≡ e
same_error same = cc

none_some : {ty : «Type»} → ◌≡◌ {A = Option «Type»} None (Some ty) → ⊥
none_some same = cc

if_any : (o : Option ℕ) {P : ℕ → Type 0} → ((n : ℕ) → P n) → IfSome o P
if_any None each = tt
if_any (Some n) each = each n

if_step : (o : Option ℕ) {P Q : ℕ → Type 0} → ((n : ℕ) → P n → Q n) → IfSome o P → IfSome o Q
if_step None step known = tt
if_step (Some n) step known = step n known

pub if_ok_step : {X Y : Type 0} (r : Result X Y) {P Q : X → Type 0} → ((x : X) → P x → Q x) → IfOk r P → IfOk r Q
if_ok_step (Ok x) step known = step x known
if_ok_step (Err e) step known = tt

module _ {R : Type 0} (variable : ℕ) where
  -- a builder that failed
  pub unused : {A : Type 0} (given : A → Option ℕ) (b : FunctionBuilder R) → UsesVariable given variable b b (Err Failed)
  unused {A} given b = record {
    uses = if_any b.position (λ n. tt);
    exists = tt;
    typed = tt;
    has_record = if_any b.position (λ n. tt);
    is_use = λ ty is. if_any b.position (λ n. tt);
    seals = tt;
    status = λ calls agrees. if_any b.position (λ n. tt);
    variables = refl;
    pools = λ ty is. inl refl;
    full = λ ty is full. absurd (failed_full full);
    within = λ calls agrees full. absurd (failed_full full);
    constructs = if_any b.position (λ n full. absurd (failed_full full));
  }

  module _ {E : Type 0} (old new : FunctionBuilder R) where
    -- a use that is only tried gives the value
    pub tried : (v : ℕ) → UsesVariable Some variable old new (Ok v) → UsesVariable {A = Result ℕ E} value_given variable old new (Ok (Ok v))
    tried v used = record {
      uses = used.uses;
      exists = used.exists;
      typed = used.typed;
      has_record = used.has_record;
      is_use = used.is_use;
      seals = used.seals;
      status = used.status;
      variables = used.variables;
      pools = used.pools;
      full = λ ty is full. absurd (no_ok full);
      within = λ calls agrees full. absurd (no_ok full);
      constructs = if_any old.position (λ n full. absurd (no_ok full));
    }

    -- or ends in an error
    pub tried_error : (e : BuildError) → UsesVariable Some variable old new (Err e) → UsesVariable {A = Result ℕ E} value_given variable old new (Err e)
    tried_error e used = record {
      uses = if_any old.position (λ n. tt);
      exists = tt;
      typed = tt;
      has_record = if_any old.position (λ n. tt);
      is_use = λ ty is. if_any old.position (λ n. tt);
      seals = tt;
      status = λ calls agrees. if_any old.position (λ n. tt);
      variables = used.variables;
      pools = used.pools;
      full = λ ty is full. used.full ty is (ap (λ (d : BuildError). Err d) (same_error full));
      within = λ calls agrees full. used.within calls agrees (ap (λ (d : BuildError). Err d) (same_error full));
      constructs = if_step old.position (λ n constructs full. constructs (ap (λ (d : BuildError). Err d) (same_error full))) used.constructs;
    }

    module _ (none : slice_get old.ctx.now.parts.variables variable ≡ None) (same : new.ctx.now.parts.variables ≡ old.ctx.now.parts.variables) where
      -- the variable isn't declared
      pub refused : (error : E) → SealedStays old.ctx.now.parts.ssa new.ctx.now.parts.ssa
          → ((calls : List AnsweredCall) → AgreesWithLedger calls old
          → IfSome old.position (λ block. SetsStatus old.ctx.now.parts new.ctx.now.parts block (begun (status_of old.ctx.now.parts block))))
          → UsesVariable value_given variable old new (Ok (Err error))
      refused error seals status = record {
        uses = if_any old.position (λ n. tt);
        exists = tt;
        typed = tt;
        has_record = if_any old.position (λ n. tt);
        is_use = λ ty is. absurd (none_some (sym none ∙ is));
        seals = seals;
        status = status;
        variables = same;
        pools = λ ty is. absurd (none_some (sym none ∙ is));
        full = λ ty is. absurd (none_some (sym none ∙ is));
        within = λ calls agrees full. absurd (no_ok full);
        constructs = if_any old.position (λ n full. absurd (no_ok full));
      }

      -- nor did the current block become one of the layout
      pub refused_error : (e : BuildError) → e ≢ Full → UsesVariable {A = Result ℕ E} value_given variable old new (Err e)
      refused_error e never = record {
        uses = if_any old.position (λ n. tt);
        exists = tt;
        typed = tt;
        has_record = if_any old.position (λ n. tt);
        is_use = λ ty is. if_any old.position (λ n. tt);
        seals = tt;
        status = λ calls agrees. if_any old.position (λ n. tt);
        variables = same;
        pools = λ ty is. absurd (none_some (sym none ∙ is));
        full = λ ty is. absurd (none_some (sym none ∙ is));
        within = λ calls agrees full. absurd (never (same_error full));
        constructs = if_any old.position (λ n full. absurd (never (same_error full)));
      }
