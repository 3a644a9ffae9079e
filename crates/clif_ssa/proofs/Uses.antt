-- What a use of a variable makes, by the way that it takes.
use Rattle.std.proofs.Common.{◌≡◌, ◌≢◌, ◌<◌, ℕ, Bool, true, false, [], length, refl, ap, sym, ◌∙◌, subst}
use Rattle.std.specs.Prelude.{Option, Some, None, Result, Ok, Err, OnOk, IfOk, IfSome}
use Rattle.clif_types.specs.declared.error.BuildError.{BuildError}
use Rattle.clif_types.specs.declared.types.«Type».{«Type»}
use Rattle.clif_ir.specs.Body.{Body, block_at}
use Rattle.clif_records.specs.declared.side_effects.SideEffects.{SideEffects}
use Rattle.clif_records.specs.Stacks.{no_look_up}
use Rattle.clif_paths.specs.Blocks.{Blocks}
use Rattle.clif_records.specs.Tables.{is_yes}
use Rattle.clif_ssa.specs.Constructs.{TellsZeros}
use Rattle.clif_ssa.specs.LookUp.{UsesVariable}
use Rattle.clif_ssa.specs.Own.{Own}
use Rattle.clif_ssa.specs.Running.{found, stage}
use Rattle.clif_ssa.specs.Sound.{KeepsAndKnows}
use Rattle.clif_ssa.specs.SoundLaws.{DescribesSoundly}
use Rattle.clif_ssa.specs.Ssa.{SsaState, predecessors_of, record_of, sealed_of, NamesExist}
use Rattle.clif_ssa.specs.Steps.{StepKeeps, StepLeaves, UseGives, UseMakes, UsesLocally}
use Rattle.clif_ssa.specs.Structure.{HasRecordOf, Remembers}
use Rattle.clif_ssa.specs.Structured.{HasType, Structured, VariableTypes}
use Rattle.clif_ssa.specs.Tracked.{TracksMade}
use Rattle.clif_ssa.specs.Within.{HoldsBranches, StaysWithin}

some_none : {v : ℕ} → ◌≡◌ {A = Option ℕ} (Some v) None → ⊥
some_none same = cc

yes_no : ◌≡◌ true false → ⊥
yes_no same = cc

-- what a step for one variable keeps is what it leaves
pub leaves_of : {x : ℕ} {ty : «Type»} {f g : Body} {s t : SsaState} → StepKeeps x ty f s g t → StepLeaves f s g t
leaves_of keeps = record {
  predecessors = keeps.predecessors;
  stay = keeps.stay;
  flags = keeps.flags;
  no_more = keeps.no_more;
  more = keeps.more;
  constructs = keeps.constructs;
  names = keeps.names;
}

module _ (x : ℕ) (ty : «Type») (b : ℕ) (f : Body) (s : SsaState) where
  abbrev KnownIs : Body → SsaState → Result (ℕ × SideEffects) BuildError → Option ℕ → Type 0
  KnownIs g t answer recorded = IfSome recorded (λ v. OnOk answer ((g ≡ f) × (t ≡ s)) × IfOk answer (λ r. (r.0 ≡ v) × (r.1.instructions_added_to_blocks.items ≡ [])))

  -- the record is the answer
  pub makes_known : (v : ℕ) (told : SideEffects) → record_of s x b ≡ Some v → told.instructions_added_to_blocks.items ≡ [] → UseMakes x ty b f s f s (Ok (v, told))
  makes_known v told is none = record {
    known = subst (KnownIs f s (Ok (v, told))) (sym is) ((refl, refl), (refl, none));
    waits = λ no unsealed. absurd (some_none (sym is ∙ no));
    zero = λ no sealed alone. absurd (some_none (sym is ∙ no));
    looks = λ no sealed some. absurd (some_none (sym is ∙ no));
    counts_none = λ no unsealed. absurd (some_none (sym is ∙ no));
    counts_one = λ no sealed alone. absurd (some_none (sym is ∙ no));
    parameters = λ local sealed c. refl;
    err = λ local. tt;
  }

  module _ (none : record_of s x b ≡ None) where
    -- a parameter or a zero of the block itself
    pub makes_local : (g : Body) (t : SsaState) (answer : Result (ℕ × SideEffects) BuildError) → (is_yes (sealed_of s b) ≡ true → predecessors_of s b ≡ [])
        → (is_yes (sealed_of s b) ≡ true → (c : ℕ) → OnOk answer ((block_at g c).params ≡ (block_at f c).params)) → UsesLocally x ty b f s g t answer
        → UseMakes x ty b f s g t answer
    makes_local g t answer alone parameters used = record {
      known = subst (KnownIs g t answer) (sym none) tt;
      waits = λ _ unsealed. used.waits unsealed;
      zero = λ _ sealed _. used.zero sealed;
      looks = λ _ sealed some. absurd (some (alone sealed));
      counts_none = λ _ unsealed. used.counts_none unsealed;
      counts_one = λ _ sealed _. used.counts_one sealed;
      parameters = λ _ sealed. parameters sealed;
      err = λ _. used.err;
    }

    module _ (sealed : is_yes (sealed_of s b) ≡ true) (some : predecessors_of s b ≢ []) (g : Body) (t : SsaState) where
      -- a look-up fails
      pub makes_none : (e : BuildError) → UseMakes x ty b f s g t (Err e)
      makes_none e = record {
        known = subst (KnownIs g t (Err e)) (sym none) tt;
        waits = λ _ _. (tt, tt);
        zero = λ _ _ _. (tt, tt);
        looks = λ _ _ _. tt;
        counts_none = λ _ _. tt;
        counts_one = λ _ _ _. tt;
        parameters = λ _ _ c. tt;
        err = λ local. absurd (some (local none sealed));
      }

      -- it finds the value
      pub makes_found : (v : ℕ) (told : SideEffects)
          → UsesVariable x ty b (stage f s no_look_up) v (stage g t (found v told.instructions_added_to_blocks.items)) → UseMakes x ty b f s g t (Ok (v, told))
      makes_found v told uses = record {
        known = subst (KnownIs g t (Ok (v, told))) (sym none) tt;
        waits = λ _ unsealed. absurd (yes_no (sym sealed ∙ unsealed));
        zero = λ _ _ alone. absurd (some alone);
        looks = λ _ _ _. uses;
        counts_none = λ _ unsealed. absurd (yes_no (sym sealed ∙ unsealed));
        counts_one = λ _ _ alone. absurd (some alone);
        parameters = λ local _ c. absurd (some (local none sealed));
        err = λ _. tt;
      }

  -- what is answered, if anything is
  pub gives_if : (g : Body) (t : SsaState) (answer : Result (ℕ × SideEffects) BuildError)
      → ((own : Own) (tables : Blocks) → DescribesSoundly own f s tables → IfOk answer (λ r. KeepsAndKnows own tables g t b x r.0))
      → IfOk answer (λ r. HasRecordOf g t x b r.0)
      → ((y c : ℕ) → OnOk answer (Remembers y c f s g t))
      → ((types : VariableTypes) (own : Own) → ty ≡ types x → Structured types own f s [] → IfOk answer (λ r. Structured types own g t [] × HasType g r.0 ty))
      → IfOk answer (λ r. TellsZeros f g r.1.instructions_added_to_blocks.items)
      → (NamesExist f s → OnOk answer (TracksMade (length f.values) s t))
      → ((holds : ℕ → Bool) → HoldsBranches f s holds → holds b ≡ true → IfOk answer (λ r. StaysWithin holds f g r.1.instructions_added_to_blocks.items))
      → (NamesExist f s → IfOk answer (λ r. r.0 < length g.values))
      → IfOk answer (λ r. UseGives x ty b f s g t r.0 r.1.instructions_added_to_blocks.items)
  gives_if g t (Ok r) keeps recorded remembers structured tells tracks within exists = record {
    keeps = keeps;
    recorded = recorded;
    remembers = remembers;
    structured = structured;
    tells = tells;
    tracks = tracks;
    within = within;
    exists = exists;
  }
  gives_if g t (Err e) keeps recorded remembers structured tells tracks within exists = tt
