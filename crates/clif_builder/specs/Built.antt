-- What building an instruction makes of a builder, whatever it answers. Source: own, after the crate's documentation of
-- `InstBuilder`.
use Rattle.std.specs.Prelude.{◌≡◌, ◌<◌, ◌≤◌, ◌-◌, ◌^◌, ◌⊎◌, ◌↔◌, ℕ, List, [], ◌∷◌, ◌++◌, length, true, false, is_err, map, IsTrue, Result, Err, IfOk, OnOk, IfSome}
use Rattle.clif_types.specs.declared.error.BuildError.{BuildError}
use Rattle.clif_types.specs.declared.error.BuildError.TheVariants.{Full, Failed}
use Rattle.clif_types.specs.declared.types.«Type».{«Type»}
use Rattle.clif_types.specs.Signature.{SignatureShape}
use Rattle.clif_ir.specs.Body.{Body, inst_at, value_at}
use Rattle.clif_instructions.specs.Instruction.{destinations, is_branch, is_terminator, result_type_of, result_types}
use Rattle.clif_tables.specs.Callees.{count_of_results}
use Rattle.clif_ir.specs.Changes.{HasNoRoom}
use Rattle.clif_instructions.specs.Edges.{targets}
use Rattle.clif_instructions.specs.declared.instructions.InstructionData.{InstructionData}
use Rattle.clif_meaning.specs.Instruction.{Instruction}
use Rattle.clif_meaning.specs.Name.{Name}
use Rattle.clif_meaning.specs.Request.{AnsweredCall, Build, GivenEntry}
use Rattle.clif_ssa.specs.Ssa.{SealedStays}
use Rattle.clif_ssa.specs.Structure.{LooksOnce}
use Rattle.clif_builder.specs.declared.builder.FunctionBuilder.{FunctionBuilder}
use Rattle.clif_builder.specs.Builder.{Appends, AppendsPair, AppendsValue, FillsCurrent, HasCurrent, IsLeft, SameLoans, is_free}
use Rattle.clif_builder.specs.Construction.{IsDeclared}
use Rattle.clif_builder.specs.Context.{FillsNone}
use Rattle.clif_builder.specs.Growth.{Grows, RemembersIn, TypesStay}
use Rattle.clif_builder.specs.Ledger.{AgreesWithLedger, HasShape}
use Rattle.clif_builder.specs.StandsFor.{StandsFor}

-- the calls, and at their end the one that builds an instruction, which is given these entries, answered by these numbers
abbrev pub after_build : List AnsweredCall → List GivenEntry → Instruction Name Name → List ℕ → List AnsweredCall
after_build calls entries instruction numbers = calls ++ record { request = Build entries instruction; numbers = numbers } ∷ []

-- the numbers that answer an instruction: its own, and those of its results
abbrev pub numbers_of : {R : Type 0} → FunctionBuilder R → ℕ → List ℕ
numbers_of b inst = inst ∷ (inst_at b.func.now inst).results

-- the numbers that answer the next instruction, if this value is its only result
abbrev pub numbers_with : {R : Type 0} → FunctionBuilder R → ℕ → List ℕ
numbers_with b value = length b.func.now.insts ∷ value ∷ []

-- the numbers that answer the next instruction, if these values are its results
abbrev pub numbers_with_pair : {R : Type 0} → FunctionBuilder R → ℕ × ℕ → List ℕ
numbers_with_pair b pair = length b.func.now.insts ∷ pair.0 ∷ pair.1 ∷ []

-- the table of instructions or that of values is full
abbrev pub HasFullTable : {R : Type 0} → FunctionBuilder R → Type 0
HasFullTable b = (length b.func.now.insts ≡ 2 ^ 32 - 1) ⊎ (length b.func.now.values ≡ 2 ^ 32 - 1)

-- all of the function but its layout stays
abbrev pub OnlyLaidOut : Body → Body → Type 0
OnlyLaidOut f g = g ≡ record f { layout = g.layout }

-- where a table is full nothing changes but the layout, in which the current block stands then
abbrev pub StaysIfFull : {A : Type 0} → {R : Type 0} → FunctionBuilder R → FunctionBuilder R → Result A BuildError → Type 0
StaysIfFull old new answer = answer ≡ Err Full → OnlyLaidOut old.func.now new.func.now

-- An instruction of this shape was to be built at the end of the current block; the answer is its number, or an error.
pub record Builds {R : Type 0} (old new : FunctionBuilder R) (shape : InstructionData) (ty : «Type») (answer : Result ℕ BuildError) : Type 0 where
  pub loans : SameLoans old new
  pub appends : IfSome old.position (λ block. IfOk answer (Appends old new block shape ty))
  pub declares : IfOk answer (λ inst. IsDeclared old.ctx.now.parts.ssa inst (targets (destinations shape)) new.ctx.now.parts.ssa)
  pub ssa : is_branch shape ≡ false → new.ctx.now.parts.ssa ≡ old.ctx.now.parts.ssa
  pub variables : new.ctx.now.parts.variables ≡ old.ctx.now.parts.variables
  pub position : new.position ≡ old.position
  pub srcloc : new.srcloc ≡ old.srcloc
  pub full : answer ≡ Err Full → HasNoRoom old.func.now (count_of_results old.func.now.tables shape)
  pub full_table : count_of_results old.func.now.tables shape ≤ 1 → answer ≡ Err Full → HasFullTable old
  pub full_stays : StaysIfFull old new answer
  pub failed : (answer ≡ Err Failed) ↔ IsTrue old.failed
  pub unchanged : IsTrue old.failed → new ≡ old
  pub fails : new.failed ≡ is_err answer
  pub looks_once : LooksOnce old.ctx.now.parts.ssa → LooksOnce new.ctx.now.parts.ssa
  pub ledger : (calls : List AnsweredCall) (entries : List GivenEntry) (instruction : Instruction Name Name)
      → AgreesWithLedger calls old → HasShape calls old.func.now instruction shape ty
      → IfOk answer (λ inst. AgreesWithLedger (after_build calls entries instruction (numbers_of new inst)) new)
  pub stands : (signature : SignatureShape) (calls : List AnsweredCall) (entries : List GivenEntry) (instruction : Instruction Name Name)
      → StandsFor signature calls old → HasShape calls old.func.now instruction shape ty
      → IfOk answer (λ inst. StandsFor signature (after_build calls entries instruction (numbers_of new inst)) new)
  pub exists : IfOk answer (λ inst. inst < length new.func.now.insts)
  -- as many results as the typing table and the signature of what it calls say
  pub results : IfOk answer (λ inst. length (inst_at new.func.now inst).results ≡ count_of_results old.func.now.tables shape)
  pub grows : OnOk answer (Grows old.func.now new.func.now)
  pub remembers : (v b : ℕ) → OnOk answer (RemembersIn v b old new)
  pub current : is_terminator shape ≡ false → OnOk answer (HasCurrent new)
  pub types : OnOk answer (TypesStay old.func.now new.func.now)
  pub seals : OnOk answer (SealedStays old.ctx.now.parts.ssa new.ctx.now.parts.ssa)
  pub fills : OnOk answer (FillsCurrent old new)
  -- after a terminator the block may be left
  pub left : is_terminator shape ≡ true → OnOk answer (IsLeft new)
  pub free : is_terminator shape ≡ true → OnOk answer (IsTrue (is_free new))

-- The same of an instruction that has one result and ends no block; the answer is that result.
pub record BuildsValue {R : Type 0} (old new : FunctionBuilder R) (shape : InstructionData) (ty : «Type») (answer : Result ℕ BuildError) : Type 0 where
  pub loans : SameLoans old new
  pub appends : IfSome old.position (λ block. IfOk answer (AppendsValue old new block shape ty))
  pub ssa : new.ctx.now.parts.ssa ≡ old.ctx.now.parts.ssa
  pub variables : new.ctx.now.parts.variables ≡ old.ctx.now.parts.variables
  pub position : new.position ≡ old.position
  pub srcloc : new.srcloc ≡ old.srcloc
  pub full : answer ≡ Err Full → HasFullTable old
  pub full_stays : StaysIfFull old new answer
  pub failed : (answer ≡ Err Failed) ↔ IsTrue old.failed
  pub unchanged : IsTrue old.failed → new ≡ old
  pub fails : new.failed ≡ is_err answer
  pub looks_once : LooksOnce old.ctx.now.parts.ssa → LooksOnce new.ctx.now.parts.ssa
  pub ledger : (calls : List AnsweredCall) (entries : List GivenEntry) (instruction : Instruction Name Name)
      → AgreesWithLedger calls old → HasShape calls old.func.now instruction shape ty
      → IfOk answer (λ value. AgreesWithLedger (after_build calls entries instruction (numbers_with old value)) new)
  pub stands : (signature : SignatureShape) (calls : List AnsweredCall) (entries : List GivenEntry) (instruction : Instruction Name Name)
      → StandsFor signature calls old → HasShape calls old.func.now instruction shape ty
      → IfOk answer (λ value. StandsFor signature (after_build calls entries instruction (numbers_with old value)) new)
  pub exists : IfOk answer (λ value. value < length new.func.now.values)
  pub one_result : count_of_results old.func.now.tables shape ≡ 1
  pub grows : OnOk answer (Grows old.func.now new.func.now)
  pub remembers : (v b : ℕ) → OnOk answer (RemembersIn v b old new)
  pub current : OnOk answer (HasCurrent new)
  pub types : OnOk answer (TypesStay old.func.now new.func.now)
  pub typed : IfOk answer (λ value. (value_at new.func.now value).ty ≡ result_type_of shape ty)
  pub fills : OnOk answer (FillsNone old.ctx.now.parts new.ctx.now.parts)

-- The same of an instruction that has two results and ends no block; the answer is these.
pub record BuildsPair {R : Type 0} (old new : FunctionBuilder R) (shape : InstructionData) (ty : «Type») (answer : Result (ℕ × ℕ) BuildError) : Type 0 where
  pub loans : SameLoans old new
  pub appends : IfSome old.position (λ block. IfOk answer (AppendsPair old new block shape ty))
  pub ssa : new.ctx.now.parts.ssa ≡ old.ctx.now.parts.ssa
  pub variables : new.ctx.now.parts.variables ≡ old.ctx.now.parts.variables
  pub position : new.position ≡ old.position
  pub srcloc : new.srcloc ≡ old.srcloc
  pub full : answer ≡ Err Full → HasNoRoom old.func.now 2
  pub full_stays : StaysIfFull old new answer
  pub failed : (answer ≡ Err Failed) ↔ IsTrue old.failed
  pub unchanged : IsTrue old.failed → new ≡ old
  pub fails : new.failed ≡ is_err answer
  pub looks_once : LooksOnce old.ctx.now.parts.ssa → LooksOnce new.ctx.now.parts.ssa
  pub ledger : (calls : List AnsweredCall) (entries : List GivenEntry) (instruction : Instruction Name Name)
      → AgreesWithLedger calls old → HasShape calls old.func.now instruction shape ty
      → IfOk answer (λ pair. AgreesWithLedger (after_build calls entries instruction (numbers_with_pair old pair)) new)
  pub stands : (signature : SignatureShape) (calls : List AnsweredCall) (entries : List GivenEntry) (instruction : Instruction Name Name)
      → StandsFor signature calls old → HasShape calls old.func.now instruction shape ty
      → IfOk answer (λ pair. StandsFor signature (after_build calls entries instruction (numbers_with_pair old pair)) new)
  pub exists : IfOk answer (λ pair. (pair.0 < length new.func.now.values) × (pair.1 < length new.func.now.values))
  pub grows : OnOk answer (Grows old.func.now new.func.now)
  pub remembers : (v b : ℕ) → OnOk answer (RemembersIn v b old new)
  pub current : OnOk answer (HasCurrent new)
  pub types : OnOk answer (TypesStay old.func.now new.func.now)
  pub typed : IfOk answer (λ pair. map (λ value. (value_at new.func.now value).ty) (pair.0 ∷ pair.1 ∷ []) ≡ result_types shape ty)
  pub fills : OnOk answer (FillsNone old.ctx.now.parts new.ctx.now.parts)
