-- What a use of a variable and a sealing make of a function and of the state of its construction: the contracts of the
-- crate below, of a call that answers. Source: own, after Braun et al. 2013.
use Rattle.std.specs.Prelude.{◌≡◌, ◌≢◌, ◌<◌, ℕ, ◌==◌, List, [], length, Bool, true, ltb, if◌then◌else◌}
use Rattle.clif_types.specs.declared.types.«Type».{«Type»}
use Rattle.clif_ir.specs.Body.{Body}
use Rattle.clif_instructions.specs.Members.{stands_in, Once}
use Rattle.clif_paths.specs.Blocks.{Blocks}
use Rattle.clif_ssa.specs.Own.{Own}
use Rattle.clif_ssa.specs.Counted.{CountsFor, WaitsBelow}
use Rattle.clif_ssa.specs.Ssa.{SsaState, RecordsStay, SamePredecessors, SameRecords, SealedStays, Seals, sealed_of}
use Rattle.clif_ssa.specs.Sound.{Keeps, KeepsAndKnows, SparesIfEntry}
use Rattle.clif_ssa.specs.SoundLaws.{DescribesSoundly}
use Rattle.clif_ssa.specs.Structure.{HasRecordOf, Remembers}
use Rattle.clif_ssa.specs.Structured.{HasType, Structured, VariableTypes}
use Rattle.clif_ssa.specs.Constructs.{OnlyConstructs, TellsZeros}
use Rattle.clif_ssa.specs.Within.{HoldsBranches, HoldsWaiting, StaysWithin}
use Rattle.clif_records.specs.Tables.{is_yes}
use Rattle.clif_simulation.specs.Carries.{DeclaredAlong}
use Rattle.clif_builder.specs.Recorded.{MakesInto}
use Rattle.clif_builder.specs.Tracking.{TracksParameters}

-- A use of a variable of type `ty` in a block of the layout answers `value`; zeros come into the blocks `told`.
pub record IsUse (f : Body) (s : SsaState) (g : Body) (t : SsaState) (variable : ℕ) (ty : «Type») (block value : ℕ) (told : List ℕ) : Type 0 where
  pub constructs : OnlyConstructs f g
  pub tells : TellsZeros f g told
  pub within : (holds : ℕ → Bool) → HoldsBranches f s holds → holds block ≡ true → StaysWithin holds f g told
  pub predecessors : SamePredecessors s t
  pub flags : SealedStays s t
  pub stay : RecordsStay s t
  pub remembers : (x b : ℕ) → Remembers x b f s g t
  pub recorded : HasRecordOf g t variable block value
  pub tracks : TracksParameters (length f.values) s t
  pub makes : MakesInto f.values g.values s t
  pub counted : CountsFor (◌<◌ variable) 0 f s 0 g t
  pub structured : (types : VariableTypes) (own : Own) → ty ≡ types variable → Structured types own f s []
      → Structured types own g t [] × HasType g value ty
  pub keeps : (own : Own) (tables : Blocks) → DescribesSoundly own f s tables → KeepsAndKnows own tables g t block variable value

-- The blocks are sealed of which `seals` says so; zeros come into the blocks `told`.
pub record IsSealingOf (f : Body) (s : SsaState) (g : Body) (t : SsaState) (seals : ℕ → Bool) (told : List ℕ) : Type 0 where
  pub constructs : OnlyConstructs f g
  pub tells : TellsZeros f g told
  pub within : (holds : ℕ → Bool) → HoldsBranches f s holds → ((b : ℕ) → seals b ≡ true → HoldsWaiting f s holds b) → StaysWithin holds f g told
  pub predecessors : SamePredecessors s t
  pub sealed : (b : ℕ) → is_yes (sealed_of t b) ≡ (if seals b then true else is_yes (sealed_of s b))
  pub stay : RecordsStay s t
  pub tracks : TracksParameters (length f.values) s t
  pub makes : MakesInto f.values g.values s t
  pub counted : ((b : ℕ) → seals b ≡ true → b < length f.blocks) → CountsFor (λ variables. WaitsBelow variables s) 0 f s 0 g t
  pub remembers : (x b : ℕ) → Remembers x b f s g t
  pub structured : (types : VariableTypes) (own : Own) → Structured types own f s [] → Structured types own g t []
  pub keeps : (own : Own) (tables : Blocks) → ((b : ℕ) → seals b ≡ true → SparesIfEntry f s b) → DescribesSoundly own f s tables → Keeps own tables g t

-- A block is sealed.
abbrev pub IsSealing : Body → SsaState → Body → SsaState → ℕ → List ℕ → Type 0
IsSealing f s g t block told = IsSealingOf f s g t (λ b. b == block) told

-- A block in which no parameter waits is sealed, and nothing else happens.
pub record SealsAlone (f : Body) (s : SsaState) (g : Body) (t : SsaState) (block : ℕ) : Type 0 where
  pub function : g ≡ f
  pub sealed : Seals s t block
  pub records : SameRecords s t
  pub tracking : t.tracking ≡ s.tracking

-- no other block is sealed that wasn't
abbrev pub SealsAtMost : SsaState → SsaState → ℕ → Type 0
SealsAtMost s t block = (b : ℕ) → b ≢ block → is_yes (sealed_of t b) ≡ is_yes (sealed_of s b)

-- Each block of the function is sealed.
abbrev pub IsSealingAll : Body → SsaState → Body → SsaState → List ℕ → Type 0
IsSealingAll f s g t told = IsSealingOf f s g t (λ b. ltb b (length f.blocks)) told

-- A branch is declared at each of these targets, once.
pub record IsDeclared (s : SsaState) (inst : ℕ) (targets : List ℕ) (t : SsaState) : Type 0 where
  pub told : List ℕ
  pub once : Once told
  pub each : (b : ℕ) → stands_in b told ≡ stands_in b targets
  pub along : DeclaredAlong s inst told t
  pub tracking : t.tracking ≡ s.tracking
