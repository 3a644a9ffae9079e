use Rattle.std.proofs.Common.{◌≡◌, ◌∷◌, List, refl}
use Rattle.clif_ir.specs.Changes.{inserted_in}
use Rattle.clif_ssa.specs.Constructs.{OnlyConstructs}
use Rattle.clif_types.specs.declared.error.BuildError.TheVariants.{Full}
use Rattle.clif_builder.specs.Builder.{UsesIn}
use Rattle.clif_builder.specs.Construction.{IsUse}
use Rattle.clif_types.specs.declared.types.«Type».{«Type»}
use Rattle.clif_ssa.specs.Pools.{MayPool, UseIsFull}
use Rattle.clif_builder.proofs.Used.{typed_so}
use Rattle.clif_builder.proofs.Calls.{told_by, made}
use Rattle.clif_builder.proofs.Counted.{within_full}
use Rattle.clif_builder.proofs.Remembered.{remembers_used, has_record_used}
use Rattle.std.proofs.Common.{sym, ◌∙◌, ℕ, subst}
use Rattle.clif_builder.proofs.LedgerUsed.{used, used-statuses}
use Rattle.clif_builder.proofs.Standing.{current_exists, current_open}
use Rattle.clif_builder.proofs.StandingResults.{used_stands}
use Rattle.clif_builder.proofs.GoingOn.{goes_nowhere, goes_on}
use Rattle.clif_builder.proofs.Growing.{used_grows}
use Rattle.clif_builder.proofs.UsedAlike.{if_ok_step, unused}
use Rattle.clif_builder.proofs.Framed.{used-filled, used-seals, used-types}
use Rattle.clif_builder.proofs.Named.{kept_by, kept_typed, opened}
use Rattle.clif_builder.proofs.Ordered.{order-used}
use Rattle.std.specs.Prelude.{Err, IfOk, IfSome, OnOk, Option, Some, slice_get}
use Rattle.clif_builder.specs.Context.{Begins, SetsStatus, begun, status_of}
use Rattle.clif_simulation.proofs.Shape.CarriedStructure.{sealed_parameters}
use Rattle.clif_builder.proofs.Fitting.{fits_used}
use Rattle.clif_builder.proofs.builder.FunctionBuilder.use_var.Goals as goal

pub returns-clause-told : goal.returns-clause-told
returns-clause-told g c =
    told_by c.args.self.now _ c.use_variable-used.result _ _
    (λ calls agrees _.
    used calls _ _ _ _ _ c.args.variable c.in-Some-var_type.ty c.in-Some.block _ agrees c.in-Some.is (sym c.var_type.ensures ∙ c.in-Some-var_type.is)
    c.use_variable-used.ensures.is_use c.law_consistent-2.ensures c.use_variable-used.ensures.touches)
    (λ signature calls stands _ ledger.
    used_stands signature calls _ _ _ _ _ c.args.variable c.in-Some-var_type.ty c.in-Some.block _ stands c.law_consistent.ensures c.in-Some.is
    (current_open c.args.self.now c.requires.current c.in-Some.block c.in-Some.is) (sym c.var_type.ensures ∙ c.in-Some-var_type.is)
    c.use_variable-used.ensures.is_use c.law_consistent-2.ensures ledger)

pub returns-clause-call : goal.returns-clause-call
returns-clause-call g c =
    made c.args.self.now _ c.use_variable-used.result (record { func = refl; ctx = refl; region = refl }) refl refl c.if-self.false c.use_variable-used.ensures.never_failed c.is_err-self.ensures.value
    c.use_variable-used.ensures.looks_once (used-types c.use_variable-used.result c.args.self.now.func.now c.args.self.now.ctx.now.parts c.use_variable-used.new.func c.use_variable-used.new.ctx c.args.variable c.in-Some-var_type.ty c.in-Some.block c.use_variable-used.ensures.is_use)
    (used-filled c.use_variable-used.result c.args.self.now.func.now c.args.self.now.ctx.now.parts c.use_variable-used.new.func c.use_variable-used.new.ctx c.args.variable c.in-Some-var_type.ty c.in-Some.block c.use_variable-used.ensures.is_use)

pub use_variable-used-requires-clause-named : goal.use_variable-used-requires-clause-named
use_variable-used-requires-clause-named g c = opened _ _ _ c.args.self.now.named

pub returns-then-self-clause-parameters : goal.returns-then-self-clause-parameters
returns-then-self-clause-parameters g c = λ signature calls stands. sealed_parameters calls _ _ stands.carries

pub returns-clause-parameters : goal.returns-clause-parameters
returns-clause-parameters g c = λ signature calls stands. sealed_parameters calls _ _ stands.carries

pub invariant_of-self : goal.invariant_of-self
invariant_of-self g c =
    let done = c.use_variable-used.ensures in
    record {
      named = kept_by c.use_variable-used.result _ _ _ _ _ _ c.if-self.false c.is_err-self.ensures.value (λ names. done.names)
          (order-used c.use_variable-used.result c.args.self.now.func.now c.use_variable-used.new.func c.args.self.now.ctx.now.parts c.use_variable-used.new.ctx c.args.variable c.in-Some-var_type.ty c.in-Some.block
          (current_exists c.args.self.now c.requires.current c.in-Some.block c.in-Some.is) (sym c.var_type.ensures ∙ c.in-Some-var_type.is) done.is_use c.law_consistent-2.ensures done.touches)
          (fits_used c.use_variable-used.result c.args.self.now.func.now c.use_variable-used.new.func c.args.self.now.ctx.now.parts c.use_variable-used.new.ctx c.args.variable c.in-Some-var_type.ty c.in-Some.block
          done.is_use done.variables)
          c.args.self.now.named;
    }

pub returns-then-self-clause-used : goal.returns-then-self-clause-used
returns-then-self-clause-used g c = unused c.args.variable Some c.args.self.now

pub returns-clause-used : goal.returns-clause-used
returns-clause-used g c =
    let done = c.use_variable-used.ensures in
    let has : slice_get c.args.self.now.ctx.now.parts.variables c.args.variable ≡ Some c.in-Some-var_type.ty = sym c.var_type.ensures ∙ c.in-Some-var_type.is in
    record {
      uses =
          subst (λ (o : Option ℕ). IfSome o (λ block. IfOk c.use_variable-used.result (λ v. (ty : «Type») → slice_get c.args.self.now.ctx.now.parts.variables c.args.variable ≡ Some ty → UsesIn c.args.self.now.func.now c.args.self.now.ctx.now.parts c.use_variable-used.new.func c.use_variable-used.new.ctx c.args.variable ty block v))) (sym c.in-Some.is)
          (if_ok_step c.use_variable-used.result (λ v used ty is. typed_so (λ (t : «Type»). UsesIn c.args.self.now.func.now c.args.self.now.ctx.now.parts c.use_variable-used.new.func c.use_variable-used.new.ctx c.args.variable t c.in-Some.block v) _ c.in-Some-var_type.ty ty has used is) done.uses);
      exists = done.exists;
      typed = kept_typed c.use_variable-used.result c.args.self.now.func.now c.use_variable-used.new.func c.args.self.now.ctx.now.parts c.use_variable-used.new.ctx _ c.args.variable c.in-Some-var_type.ty c.in-Some.block c.if-self.false has done.is_use c.args.self.now.named;
      has_record = has_record_used c.use_variable-used.result c.args.self.now.func.now c.use_variable-used.new.func c.args.self.now.ctx.now.parts c.use_variable-used.new.ctx c.args.variable c.in-Some-var_type.ty c.in-Some.block c.args.self.now.position c.in-Some.is done.is_use;
      is_use = λ ty is.
          subst (λ (o : Option ℕ). IfSome o (λ block. IfOk c.use_variable-used.result (λ value. (told : List ℕ) × IsUse (inserted_in c.args.self.now.func.now block) c.args.self.now.ctx.now.parts.ssa c.use_variable-used.new.func c.use_variable-used.new.ctx.ssa c.args.variable ty block value told × Begins c.args.self.now.ctx.now.parts c.use_variable-used.new.ctx (block ∷ told)))) (sym c.in-Some.is)
          (typed_so (λ (t : «Type»). IfOk c.use_variable-used.result (λ value. (told : List ℕ) × IsUse (inserted_in c.args.self.now.func.now c.in-Some.block) c.args.self.now.ctx.now.parts.ssa c.use_variable-used.new.func c.use_variable-used.new.ctx.ssa c.args.variable t c.in-Some.block value told × Begins c.args.self.now.ctx.now.parts c.use_variable-used.new.ctx (c.in-Some.block ∷ told))) _ c.in-Some-var_type.ty ty has done.is_use is);
      seals = used-seals c.use_variable-used.result c.args.self.now.func.now c.args.self.now.ctx.now.parts c.use_variable-used.new.func c.use_variable-used.new.ctx c.args.variable c.in-Some-var_type.ty c.in-Some.block done.is_use;
      status = λ calls agrees.
          subst (λ (o : Option ℕ). IfSome o (λ block. OnOk c.use_variable-used.result (SetsStatus c.args.self.now.ctx.now.parts c.use_variable-used.new.ctx block (begun (status_of c.args.self.now.ctx.now.parts block))))) (sym c.in-Some.is)
          (used-statuses calls c.args.self.now.func.now c.use_variable-used.new.func c.args.self.now.ctx.now.parts c.use_variable-used.new.ctx c.args.self.now.position c.args.variable c.in-Some-var_type.ty c.in-Some.block _ agrees done.is_use);
      variables = done.variables;
      pools = λ ty is. typed_so (λ (t : «Type»). MayPool t c.args.self.now.func.now.tables c.use_variable-used.new.func.tables) _ c.in-Some-var_type.ty ty has done.pools is;
      full = λ ty is full. typed_so (λ (t : «Type»). UseIsFull t c.use_variable-used.new.func) _ c.in-Some-var_type.ty ty has (done.full full) is;
      within = λ calls agrees full.
          within_full calls c.args.self.now.func.now c.args.self.now.ctx.now.parts c.use_variable-used.new.func c.use_variable-used.new.ctx.ssa c.use_variable-used.result done.counts
          c.requires.declared agrees.counts full;
      constructs = subst (λ (o : Option ℕ). IfSome o (λ block. c.use_variable-used.result ≡ Err Full → OnlyConstructs (inserted_in c.args.self.now.func.now block) c.use_variable-used.new.func)) (sym c.in-Some.is) done.constructs;
    }

pub returns-clause-goes_on : goal.returns-clause-goes_on
returns-clause-goes_on g c =
    goes_on c.args.self.now _ c.use_variable-used.result (returns-clause-call g c)
    (used_grows c.use_variable-used.result c.args.self.now.func.now c.args.self.now.ctx.now.parts c.use_variable-used.new.func c.use_variable-used.new.ctx c.args.variable c.in-Some-var_type.ty c.in-Some.block c.use_variable-used.ensures.is_use)
    (λ x b. remembers_used c.use_variable-used.result x b c.args.self.now.func.now c.use_variable-used.new.func c.args.self.now.ctx.now.parts c.use_variable-used.new.ctx c.args.variable c.in-Some-var_type.ty c.in-Some.block c.use_variable-used.ensures.is_use)

pub returns-then-self-clause-goes_on : goal.returns-then-self-clause-goes_on
returns-then-self-clause-goes_on g c = goes_nowhere (λ x b. Unit {0}) c.args.self.now _ _
