-- What the sealing of a block makes and leaves, by the ways in which it ends.
use Rattle.std.proofs.Common.{◌≡◌, ◌≢◌, ℕ, ◌+◌, List, [], ◌∷◌, length, refl, ap, sym, ◌∙◌, subst, inl, inr}
use Rattle.std.specs.Prelude.{Result, Ok, Err, OnOk, IfOk}
use Rattle.clif_types.specs.declared.error.BuildError.{BuildError}
use Rattle.clif_ir.specs.Body.{Body}
use Rattle.clif_records.specs.declared.side_effects.SideEffects.{SideEffects}
use Rattle.clif_records.specs.declared.tables.Pending.{Pending}
use Rattle.clif_ssa.specs.Constructs.{OnlyConstructs, TellsMore, TellsZeros}
use Rattle.clif_records.specs.Stacks.{LookUpState, no_look_up}
use Rattle.clif_ssa.specs.Running.{stage, CompletesAll, ToComplete}
use Rattle.clif_ssa.specs.Sealing.{SealsOne}
use Rattle.clif_ssa.specs.Ssa.{SsaState, sealed_of, predecessors_of, completed, completing_blocks, CountsEach, HasMore, KnowsNoMore, SameBlocks, SameLookups, SamePredecessors, SameRecords, Seals}
use Rattle.clif_ssa.specs.Steps.{SealKeeps, SealMakes, StepLeaves}
use Rattle.clif_ssa.specs.Structure.{LooksOnce}
use Rattle.clif_records.specs.Tables.{is_yes, lookups_at, pending_of, predecessors_at, record_at, sealed_at}
use Rattle.clif_ssa.proofs.Constructing.{constructs_none, tells_all, tells_more_none, tells_none}
use Rattle.clif_ssa.proofs.CountedOnce.{none_lost, once_kept, once_same, once_seals}
use Rattle.clif_ssa.proofs.LeavesSteps.{leaves_kept}
use Rattle.clif_ssa.proofs.Local.{named-same}
use Rattle.clif_ssa.proofs.Naming.{has_more}
use Rattle.clif_ssa.proofs.Public.{seals_by_look_up}
use Rattle.clif_ssa.proofs.Steps.{known_below, known_same}
use Rattle.clif_ssa.proofs.Waited.{no_more-then, on_any, on_any_err, sealed-locally, sealed-named, seals-one}

same_records : (s t : SsaState) → t.records ≡ s.records → SameRecords s t
same_records s t records x b = ap (λ rows. record_at rows x b) records

same_lookups : (s t : SsaState) → t.records ≡ s.records → SameLookups s t
same_lookups s t records x b = ap (λ rows. lookups_at rows x b) records

-- IT ISN'T SEALED -------------------------------------------------------------------------------------------------

pub refused_makes : (b : ℕ) (f : Body) (s t : SsaState) (e : BuildError) → t.records ≡ s.records → t.tracking ≡ s.tracking → SameBlocks s t → SealMakes b f s f t (Err e)
refused_makes b f s t e records tracking blocks = record {
  sealed = tt;
  err = inl (λ c. ap is_yes (blocks c));
  local = λ _. record { sealed = tt; refused = inl blocks; records = same_records s t records; tracking = tracking; counted = tt; function = tt; told = tt };
  completes = λ _. tt;
  tells = tt;
}

pub refused_keeps : (b : ℕ) (f : Body) (s t : SsaState) → t.records ≡ s.records → SameBlocks s t → SamePredecessors s t → KnowsNoMore s t (b + 1) → SealKeeps b f s f t
refused_keeps b f s t records blocks same known = record {
  predecessors = same;
  stay = λ x c v is. same_records s t records x c ∙ is;
  no_more = λ there. known_below s t b (length f.blocks) there known;
  more = has_more f;
  constructs = constructs_none f;
  names = named-same f f s t (has_more f) same (same_records s t records) blocks;
  looks_once = (once_kept s t (none_lost s t (same_records s t records)) (same_lookups s t records) blocks).looks_once;
}

-- NOTHING LEADS TO IT ---------------------------------------------------------------------------------------------

pub local_makes : (b : ℕ) (f g : Body) (s t u : SsaState) (waiting : List Pending) (answer : Result SideEffects BuildError) → t.records ≡ s.records → t.tracking ≡ s.tracking → Seals s t b → SamePredecessors s t
    → waiting ≡ pending_of (sealed_of s b) → (predecessors_of t b ≢ [] → ⊥) → SameRecords t u → u.tracking ≡ t.tracking → u.blocks ≡ t.blocks → OnOk answer (CountsEach t u b waiting)
    → OnOk answer (g ≡ completed f waiting) → IfOk answer (λ r. r.instructions_added_to_blocks.items ≡ completing_blocks f waiting)
    → IfOk answer (λ r. TellsZeros f g r.instructions_added_to_blocks.items) → SealMakes b f s g u answer
local_makes b f g s t u waiting answer records before seals same list alone kept after blocks counted function told tells =
    let one : SealsOne s u b = seals-one s t u b seals (λ c. ap (λ known. is_yes (sealed_at known c)) blocks) in
    record {
      sealed = on_any answer one;
      err = on_any_err answer (inr one);
      local = λ _. sealed-locally f g s t u b waiting answer seals (same_records s t records) kept (same_lookups s t records) before after counted blocks list function told;
      completes = λ some. absurd (alone (λ none. some (sym (same b) ∙ none)));
      tells = tells;
    }

pub local_keeps : (b : ℕ) (f g : Body) (s t u : SsaState) (waiting : List Pending) → t.records ≡ s.records → Seals s t b → SamePredecessors s t → KnowsNoMore s t (b + 1)
    → waiting ≡ pending_of (sealed_of s b) → SameRecords t u → u.blocks ≡ t.blocks → (ToComplete t b waiting → LooksOnce u) → HasMore f g → OnlyConstructs f g → SealKeeps b f s g u
local_keeps b f g s t u waiting records seals same known list kept blocks looks more constructs =
    let sealed : SameBlocks t u = λ c. ap (λ all. sealed_at all c) blocks in
    let leads : SamePredecessors t u = λ c. ap (λ all. predecessors_at all c) blocks in
    record {
      predecessors = λ c. leads c ∙ same c;
      stay = λ x c v is. kept x c ∙ same_records s t records x c ∙ is;
      no_more = λ there. no_more-then s t u (length f.blocks) (length f.blocks) refl (known_below s t b (length f.blocks) there known) (known_same t u (length f.blocks) blocks);
      more = more;
      constructs = constructs;
      names = λ named. named-same f g t u more leads kept sealed (sealed-named f s t b seals (same_records s t records) same named);
      looks_once = λ once.
          looks (once_same t b (pending_of (sealed_of s b)) waiting (sym list) (once_seals s t b seals (same_records s t records) (same_lookups s t records) once));
    }

-- BRANCHES LEAD TO IT ---------------------------------------------------------------------------------------------

pub failed_makes : (b : ℕ) (f g : Body) (s t u : SsaState) (e : BuildError) → Seals s t b → SamePredecessors s t → predecessors_of t b ≢ [] → StepLeaves f t g u
    → SealMakes b f s g u (Err e)
failed_makes b f g s t u e seals same some leaves = record {
  sealed = tt;
  err = inr (seals-one s t u b seals leaves.flags);
  local = λ none. absurd (some (same b ∙ none));
  completes = λ _. tt;
  tells = tt;
}

pub looked_makes : (b : ℕ) (f g : Body) (s t u : SsaState) (waiting : List Pending) (first last : LookUpState) (answer : SideEffects) → t.records ≡ s.records → t.tracking ≡ s.tracking → Seals s t b
    → SamePredecessors s t → waiting ≡ pending_of (sealed_of s b) → predecessors_of t b ≢ [] → StepLeaves f t g u → first ≡ no_look_up
    → CompletesAll b waiting (stage f t first) (stage g u last) → TellsMore f g first.zeros last.zeros → answer.instructions_added_to_blocks.items ≡ last.zeros
    → SealMakes b f s g u (Ok answer)
looked_makes b f g s t u waiting first last answer records tracking seals same list some leaves new completes tells told = record {
  sealed = seals-one s t u b seals leaves.flags;
  err = tt;
  local = λ none. absurd (some (same b ∙ none));
  completes = λ _. seals_by_look_up f g s t u b waiting first last answer.instructions_added_to_blocks.items records tracking seals same list new completes told;
  tells = subst (λ xs. TellsZeros f g xs) (sym told) (tells_all f g first.zeros last.zeros (ap (λ (l : LookUpState). l.zeros) new) tells);
}

pub looked_keeps : (b : ℕ) (f g : Body) (s t u : SsaState) (waiting : List Pending) → t.records ≡ s.records → Seals s t b → SamePredecessors s t → KnowsNoMore s t (b + 1)
    → waiting ≡ pending_of (sealed_of s b) → StepLeaves f t g u → (ToComplete t b waiting → LooksOnce u)
    → SealKeeps b f s g u
looked_keeps b f g s t u waiting records seals same known list leaves looks = record {
  predecessors = λ c. leaves.predecessors c ∙ same c;
  stay = λ x c v is. leaves.stay x c v (same_records s t records x c ∙ is);
  no_more = λ there. no_more-then s t u (length f.blocks) (length f.blocks) refl (known_below s t b (length f.blocks) there known) leaves.no_more;
  more = leaves.more;
  constructs = leaves.constructs;
  names = λ named. leaves.names (sealed-named f s t b seals (same_records s t records) same named);
  looks_once = λ once.
      looks (once_same t b (pending_of (sealed_of s b)) waiting (sym list) (once_seals s t b seals (same_records s t records) (same_lookups s t records) once));
}

-- NOTHING WAITS IN IT ---------------------------------------------------------------------------------------------

-- where nothing waits it makes no difference whether branches lead to the block
pub nothing_makes : (b : ℕ) (f : Body) (s t : SsaState) (answer : SideEffects) → t.records ≡ s.records → t.tracking ≡ s.tracking → Seals s t b → SamePredecessors s t
    → [] ≡ pending_of (sealed_of s b) → answer.instructions_added_to_blocks.items ≡ [] → SealMakes b f s f t (Ok answer)
nothing_makes b f s t answer records tracking seals same none told = by (predecessors_of t b) refl
  where
    some_none : {x : ℕ} {xs : List ℕ} → ◌≡◌ {A = List ℕ} (x ∷ xs) [] → ⊥
    some_none is = cc

    by : (leads : List ℕ) → predecessors_of t b ≡ leads → SealMakes b f s f t (Ok answer)
    by [] is =
        local_makes b f f s t t [] (Ok answer) records tracking seals same none (λ some. some is) (λ x c. refl) refl refl (λ x c. refl) refl told
        (subst (λ xs. TellsZeros f f xs) (sym told) (tells_none f f refl))
    by (branch ∷ leads) is =
        looked_makes b f f s t t [] no_look_up no_look_up answer records tracking seals same none (λ no. some_none (sym is ∙ no))
        (leaves_kept f t t (λ x c. refl) refl) refl refl (tells_more_none f []) told

pub nothing_keeps : (b : ℕ) (f : Body) (s t : SsaState) → t.records ≡ s.records → Seals s t b → SamePredecessors s t → KnowsNoMore s t (b + 1)
    → [] ≡ pending_of (sealed_of s b) → SealKeeps b f s f t
nothing_keeps b f s t records seals same known none =
    local_keeps b f f s t t [] records seals same known none (λ x c. refl) refl (λ begins. begins.once) (has_more f) (constructs_none f)
