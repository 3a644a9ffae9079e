-- What a use and a sealing keep of the structure, by how they end.
use Rattle.std.proofs.Common.{◌≡◌, ◌≢◌, ℕ, ◌+◌, ◌<◌, true, false, Bool, List, [], ◌∷◌, length, refl, sym, ◌∙◌, subst}
use Rattle.std.specs.Prelude.{None, Result, Ok, Err, OnOk, IfOk}
use Rattle.clif_types.specs.declared.error.BuildError.{BuildError}
use Rattle.clif_types.specs.declared.types.«Type».{«Type»}
use Rattle.clif_ir.specs.Body.{Body}
use Rattle.clif_ir.specs.Consistent.{IsConsistent}
use Rattle.clif_ssa.specs.Own.{Own}
use Rattle.clif_records.specs.declared.side_effects.SideEffects.{SideEffects}
use Rattle.clif_records.specs.Tables.{is_yes, pending_of}
use Rattle.clif_ssa.specs.Ssa.{SsaState, record_of, sealed_of, predecessors_of, SamePredecessors, Waits, Zeroes}
use Rattle.clif_records.specs.Stacks.{LookUpState, no_look_up}
use Rattle.clif_ssa.specs.LookUp.{LooksUp}
use Rattle.clif_ssa.specs.Running.{stage, MakesAll}
use Rattle.clif_ssa.specs.Sealing.{SealsLocally, SealsByLookUp}
use Rattle.clif_ssa.specs.Structured.{VariableTypes, HasType, Structured}
use Rattle.clif_ssa.proofs.Bodies.{firm_from}
use Rattle.clif_ssa.proofs.Housing.{housed_from}
use Rattle.clif_ssa.proofs.Public.{looked_up}
use Rattle.clif_ssa.proofs.StructuredUses.{Used, AllHome, Completes, uses, waits_used, zeroes_used, sealed_structured, completed_structured, completes_all}
use Rattle.clif_ssa.specs.Zeros.{steps_before}

-- USES ------------------------------------------------------------------------------------------------------------

-- the structure, and an answer of the variable's type
abbrev pub UsedWell : VariableTypes → Own → Body → SsaState → ℕ → «Type» → Type 0
UsedWell types own g t value ty = Structured types own g t [] × HasType g value ty

used_well : (types : VariableTypes) (own : Own) (g : Body) (t : SsaState) (value : ℕ) (ty : «Type») → Used types own g t value ty → UsedWell types own g t value ty
used_well types own g t value ty used = (used.structured, used.typed)

-- the block is unsealed, or no branch leads to it
pub local_structured : (types : VariableTypes) (own : Own) (f g : Body) (s t : SsaState) (x : ℕ) (ty : «Type») (b : ℕ) {E : Type 0} (result : Result (ℕ × SideEffects) E)
    → IsConsistent f → ty ≡ types x → Structured types own f s [] → b < length f.blocks → record_of s x b ≡ None → SamePredecessors s t
    → (is_yes (sealed_of s b) ≡ false → OnOk result (Waits s t f g x ty b) × IfOk result (λ r. (r.0 ≡ length f.values) × (r.1.instructions_added_to_blocks.items ≡ [])))
    → (is_yes (sealed_of s b) ≡ true → OnOk result (Zeroes s t f g x ty b) × IfOk result (λ r. (r.0 ≡ length f.values + 1 + steps_before ty) × (r.1.instructions_added_to_blocks.items ≡ b ∷ [])))
    → IfOk result (λ r. UsedWell types own g t r.0 ty)
local_structured types own f g s t x ty b (Err error) known same before there none same_before waits zeroes = tt
local_structured types own f g s t x ty b (Ok r) known same before there none same_before waits zeroes = by (is_yes (sealed_of s b)) refl
  where
    by : (sealed : Bool) → is_yes (sealed_of s b) ≡ sealed → UsedWell types own g t r.0 ty
    by true sealed =
        let case : Zeroes s t f g x ty b × ((r.0 ≡ length f.values + 1 + steps_before ty) × (r.1.instructions_added_to_blocks.items ≡ b ∷ [])) = zeroes sealed in
        subst (λ v. UsedWell types own g t v ty) (sym case.1.0)
        (used_well types own g t (length f.values + 1 + steps_before ty) ty
        (zeroes_used types own f g s t x ty b same (firm_from f known) (housed_from f known) there none sealed case.0 same_before before))
    by false unsealed =
        let case : Waits s t f g x ty b × ((r.0 ≡ length f.values) × (r.1.instructions_added_to_blocks.items ≡ [])) = waits unsealed in
        subst (λ v. UsedWell types own g t v ty) (sym case.1.0)
        (used_well types own g t (length f.values) ty
        (waits_used types own f g s t x ty b same (firm_from f known) (housed_from f known) there none unsealed case.0 same_before before))

-- the variable is looked up in the predecessors
pub machine_structured : (types : VariableTypes) (own : Own) (f h g : Body) (s r t : SsaState) (x : ℕ) (ty : «Type») (b : ℕ) (first begun last : LookUpState) (value : ℕ) → first ≡ no_look_up
    → IsConsistent f → ty ≡ types x → Structured types own f s []
    → LooksUp x ty b (stage f s first) (stage h r begun) → MakesAll x ty (stage h r begun) value (stage g t last) → UsedWell types own g t value ty
machine_structured types own f h g s r t x ty b first begun last value nothing known same before looks all =
    subst (λ k. UsedWell types own k t value ty) (sym all.function)
    (subst (λ q. UsedWell types own all.last.function q value ty) (sym all.state)
    (used_well types own all.last.function all.last.state value ty
    (uses types own x ty b (stage f s no_look_up) all.last value same refl (firm_from f known) (housed_from f known) before
    (looked_up x ty b f h g s r t first begun last value nothing looks all))))

-- SEALING ---------------------------------------------------------------------------------------------------------

-- a sealing, whether a branch leads to the block or none does
pub seal_structured : (types : VariableTypes) (own : Own) (f g : Body) (s t : SsaState) (b : ℕ) (result : Result SideEffects BuildError)
    → IsConsistent f → Structured types own f s [] → SamePredecessors s t
    → (predecessors_of s b ≡ [] → SealsLocally f s g t b result)
    → (predecessors_of s b ≢ [] → IfOk result (λ r. SealsByLookUp f s g t b r.instructions_added_to_blocks.items))
    → OnOk result (Structured types own g t [])
seal_structured types own f g s t b (Err error) known before same locally looks = tt
seal_structured types own f g s t b (Ok r) known before same locally looks = by (predecessors_of s b) refl
  where
    some_none : {i : ℕ} {is : List ℕ} → ◌≡◌ {A = List ℕ} (i ∷ is) [] → ⊥
    some_none same = cc

    by : (branches : List ℕ) → predecessors_of s b ≡ branches → Structured types own g t []
    by [] alone =
        let case : SealsLocally f s g t b (Ok r) = locally alone in
        let now : Structured types own f t (pending_of (sealed_of s b)) × AllHome f t b (pending_of (sealed_of s b)) =
        sealed_structured types own f s t b (housed_from f known) case.records case.sealed same before in
        subst (λ h. Structured types own h t []) (sym case.function)
        (completed_structured types own t b (pending_of (sealed_of s b)) f (firm_from f known) (housed_from f known) now.1 now.0)
    by (i ∷ branches) some =
        let case : SealsByLookUp f s g t b r.instructions_added_to_blocks.items = looks (λ empty. some_none (sym some ∙ empty)) in
        let now : Structured types own f case.sealed (pending_of (sealed_of s b)) × AllHome f case.sealed b (pending_of (sealed_of s b)) =
        sealed_structured types own f s case.sealed b (housed_from f known) case.records case.seals case.predecessors before in
        let start : Completes types own b (pending_of (sealed_of s b)) (stage f case.sealed no_look_up) = record {
          structured = now.0;
          homes = now.1;
          firm = firm_from f known;
          housed = housed_from f known;
          calls = refl;
          results = refl;
        } in
        (completes_all types own b (pending_of (sealed_of s b)) (stage f case.sealed no_look_up) (stage g t case.look_up) start case.completes).structured
