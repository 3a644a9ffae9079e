-- A block in which no parameter waits is sealed, and nothing else happens.
use Rattle.std.proofs.Common.{◌≡◌, ◌≢◌, ℕ, List, [], ◌∷◌, ap, refl, subst, sym, ◌∙◌}
use Rattle.std.specs.Prelude.{Ok}
use Rattle.clif_ir.specs.Body.{Body}
use Rattle.clif_records.specs.Stacks.{no_look_up}
use Rattle.clif_records.specs.Tables.{pending_of}
use Rattle.clif_records.specs.declared.side_effects.SideEffects.{SideEffects}
use Rattle.clif_records.specs.declared.tables.Pending.{Pending}
use Rattle.clif_ssa.specs.LookUp.{Stage}
use Rattle.clif_ssa.specs.Running.{CompletesAll, stage}
use Rattle.clif_ssa.specs.Sealing.{SealsByLookUp, SealsLocally}
use Rattle.clif_ssa.specs.Ssa.{SameRecords, Seals, SsaState, completed, predecessors_of, sealed_of}
use Rattle.clif_builder.specs.Construction.{SealsAlone}

some_none : {p : ℕ} {ps : List ℕ} → ◌≡◌ {A = List ℕ} (p ∷ ps) [] → ⊥
some_none same = cc

module _ (f g : Body) (s t : SsaState) (block : ℕ) (answer : SideEffects) (none : pending_of (sealed_of s block) ≡ []) where
  locally : SealsLocally f s g t block (Ok answer) → SealsAlone f s g t block
  locally seals = record {
    function = seals.function ∙ ap (completed f) none;
    sealed = seals.sealed;
    records = seals.records;
    tracking = seals.tracking;
  }

  by_look_up : (told : List ℕ) → SealsByLookUp f s g t block told → SealsAlone f s g t block
  by_look_up told seals =
      let same : stage g t seals.look_up ≡ stage f seals.sealed no_look_up =
      subst (λ (waiting : List Pending). CompletesAll block waiting (stage f seals.sealed no_look_up) (stage g t seals.look_up)) none seals.completes in
      let state : t ≡ seals.sealed = ap (λ (m : Stage). m.state) same in
      record {
        function = ap (λ (m : Stage). m.function) same;
        sealed = subst (λ (u : SsaState). Seals s u block) (sym state) seals.seals;
        records = subst (SameRecords s) (sym state) seals.records;
        tracking = ap (λ (u : SsaState). u.tracking) state ∙ seals.tracking;
      }

  pub seals_alone : (predecessors_of s block ≡ [] → SealsLocally f s g t block (Ok answer))
      → (predecessors_of s block ≢ [] → SealsByLookUp f s g t block answer.instructions_added_to_blocks.items) → SealsAlone f s g t block
  seals_alone local looks = by (predecessors_of s block) refl
    where
      by : (predecessors : List ℕ) → predecessors_of s block ≡ predecessors → SealsAlone f s g t block
      by [] is = locally (local is)
      by (p ∷ ps) is = by_look_up answer.instructions_added_to_blocks.items (looks (λ empty. some_none (sym is ∙ empty)))
