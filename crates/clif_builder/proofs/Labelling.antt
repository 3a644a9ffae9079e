-- Labels of values: what a builder stands for doesn't depend on them.
use Rattle.std.proofs.Common.{◌≡◌, ◌∙◌, ℕ, refl, subst, sym, ap, arith, false}
use Rattle.std.specs.Prelude.{true, is_err, Option, Result, Ok, Err, OnOk, OnErr}
use Rattle.clif_types.specs.declared.error.BuildError.{BuildError}
use Rattle.clif_types.specs.declared.error.BuildError.TheVariants.{Failed, Memory}
use Rattle.clif_tables.specs.Lists.{TableLists, with_labels_collected}
use Rattle.clif_ir.specs.Body.{Body}
use Rattle.clif_ir.specs.Changes.{with_tables}
use Rattle.clif_ir.specs.Consistent.{IsConsistent}
use Rattle.clif_builder.specs.declared.builder.FunctionBuilder.{FunctionBuilder}
use Rattle.clif_builder.specs.Builder.{SameLoans}
use Rattle.clif_ssa.specs.Ssa.{SsaState, record_of}
use Rattle.clif_ssa.specs.Structure.{Remembers}
use Rattle.clif_builder.specs.Context.{ContextState}
use Rattle.clif_builder.specs.Growth.{Grows}
use Rattle.clif_builder.specs.Ledger.{LedgerAgrees, ledger_of}
use Rattle.clif_builder.specs.StandsFor.{StandsIn}
use Rattle.clif_builder.specs.Labels.{CollectsLabels, SetsLabel, labelled}
use Rattle.clif_builder.proofs.Calls as calls
use Rattle.clif_builder.proofs.Tabling.{agrees_aside, collected_aside, current_aside, labelled_aside, not_full, on_ok, set_refused, set_tables, stands_aside}

module _ {R : Type 0} (old new : FunctionBuilder R) (loans : SameLoans old new) (position : new.position ≡ old.position) (srcloc : new.srcloc ≡ old.srcloc)
    (context : new.ctx.now.parts ≡ old.ctx.now.parts) (failed : new.failed ≡ old.failed) (consistent : IsConsistent old.func.now)
    (made : new.func.now ≡ with_tables old.func.now (with_labels_collected old.func.now.tables)) where
  abbrev lists : TableLists
  lists = with_labels_collected old.func.now.tables

  -- what holds of the parts with other tables holds of those of the new builder
  moved : (P : Body → ContextState → Option ℕ → Type 0) → P (with_tables old.func.now lists) old.ctx.now.parts old.position → P new.func.now new.ctx.now.parts new.position
  moved P holds =
      subst (λ (g : Body). P g new.ctx.now.parts new.position) (sym made)
      (subst (λ (d : ContextState). P (with_tables old.func.now lists) d new.position) (sym context)
      (subst (λ (r : Option ℕ). P (with_tables old.func.now lists) old.ctx.now.parts r) (sym position) holds))

  pub collected : CollectsLabels old new
  collected =
      let f : Body = old.func.now in
      let aside = collected_aside f in
      let ssa : new.ctx.now.parts.ssa ≡ old.ctx.now.parts.ssa = ap (λ (c : ContextState). c.ssa) context in
      record {
        loans = loans;
        function = made;
        context = context;
        position = position;
        srcloc = srcloc;
        failed = failed;
        ledger = λ calls agrees. moved (λ g d r. LedgerAgrees calls (ledger_of calls) g d r)
            (agrees_aside f lists aside.constants aside.entries aside.of_calls calls (ledger_of calls) old.ctx.now.parts old.position agrees);
        stands = λ signature calls stands. moved (λ g d r. StandsIn signature calls g d r)
            (stands_aside f lists aside.constants aside.entries aside.of_calls signature calls old.ctx.now.parts old.position consistent stands);
        grows = subst (Grows f) (sym made) (omega arith, omega arith, omega arith, refl, refl, omega arith, refl, aside.stay, refl);
        remembers = λ x b. subst (λ (g : Body). Remembers x b f old.ctx.now.parts.ssa g new.ctx.now.parts.ssa) (sym made)
            (record { recorded = λ v here. ap (λ (u : SsaState). record_of u x b) ssa ∙ here; alike = λ u v alike. alike });
        current = current_aside {A = Unit {0}} lists old new (Ok tt) position context made;
      }

pub label_set : {R : Type 0} (value label : ℕ) (old new : FunctionBuilder R) (answer : Result (Unit {0}) BuildError) → old.failed ≡ false → SameLoans old new → new.position ≡ old.position
    → new.srcloc ≡ old.srcloc → new.ctx.now.parts ≡ old.ctx.now.parts → new.failed ≡ is_err answer → IsConsistent old.func.now → OnErr answer (answer ≡ Err Memory)
    → OnOk answer (new.func.now ≡ with_tables old.func.now (labelled old value label)) → OnErr answer (new.func.now ≡ old.func.now)
    → SetsLabel value label old new answer
label_set value label old new answer fine loans position srcloc context fails consistent only_memory ok err =
    let f : Body = old.func.now in
    let lists : TableLists = labelled old value label in
    let aside = labelled_aside f value (record { from = old.srcloc; label = label }) in
    record {
      sets = set_tables lists old new answer aside fine loans position srcloc context fails consistent (calls.by_memory answer only_memory) ok err;
      grows = on_ok lists f new.func.now (Grows f) answer ok (omega arith, omega arith, omega arith, refl, refl, omega arith, refl, aside.stay, refl);
      never_full = not_full answer only_memory;
    }

pub label_refused : {R : Type 0} (value label : ℕ) (old : FunctionBuilder R) → old.failed ≡ true → SetsLabel value label old old (Err Failed)
label_refused value label old failed = record {
  sets = set_refused (labelled old value label) old failed;
  grows = tt;
  never_full = λ is. let no_way : ⊥ = cc in absurd no_way;
}
