-- Instructions that are built one behind the other, and the constants of integer types. Source: own, after the documentation of
-- Cranelift's `InstBuilder`.
use Rattle.std.specs.Prelude.{◌≡◌, ◌⊎◌, ℕ, ℤ, Bool, true, false, Result, Ok, Err}
use Rattle.clif_types.specs.declared.error.BuildError.{BuildError}
use Rattle.clif_types.specs.declared.types.LaneType.TheVariants as lane
use Rattle.clif_types.specs.declared.types.«Type».{«Type»}
use Rattle.clif_types.specs.declared.types.«Type».TheVariants as type
use Rattle.clif_opcodes.specs.declared.opcodes.ConvertOpcode.TheVariants.{Sextend}
use Rattle.clif_instructions.specs.declared.instructions.InstructionData.{InstructionData}
use Rattle.clif_inst_builder.specs.Shapes.{convert, unary_imm}

-- what one step makes of a builder, by its answer
abbrev pub Step : Type 0 → Type 0 → Type 1
Step B V = B → B → V → Type 0

-- One step is made and then, with the value that it answers, the next one; or the first one fails, and the answer is made of its
-- error.
abbrev pub Then : {B V : Type 0} → (Result ℕ BuildError → V) → Step B V → (ℕ → Step B V) → Step B V
Then {B} {V} answer_value First Next old new answer =
    ((between : B) × (value : ℕ) × First old between (answer_value (Ok value)) × Next value between new answer)
    ⊎ ((error : BuildError) × First old new (answer_value (Err error)) × (answer ≡ answer_value (Err error)))

-- the integer type that has no `iconst`
abbrev pub is_wide : «Type» → Bool
is_wide (type.Lane lane.I128) = true
is_wide ty = false

abbrev pub i64 : «Type»
i64 = type.Lane lane.I64

-- The constant of a type is built: by an `iconst`, or where the type is the wide one by an `iconst` of 64 bits whose sign is
-- repeated.
abbrev pub AnswersConstant : {B V : Type 0} → (Result ℕ BuildError → V) → (B → B → InstructionData → «Type» → V → Type 0) → «Type» → ℤ → Step B V
AnswersConstant {B} {V} answer_value builds_value ty imm old new answer =
    ((is_wide ty ≡ true)
    × Then answer_value (λ before after made. builds_value before after (unary_imm imm) i64 made) (λ narrow before after made. builds_value before after (convert Sextend narrow) ty made) old new answer)
    ⊎ ((is_wide ty ≡ false) × builds_value old new (unary_imm imm) ty answer)

-- The same, where the answer is a result.
abbrev pub BuildsConstant : {B : Type 0} → (B → B → InstructionData → «Type» → Result ℕ BuildError → Type 0) → «Type» → ℤ → Step B (Result ℕ BuildError)
BuildsConstant = AnswersConstant (λ made. made)

-- The constant of a type is built, and then an instruction of a shape with it, at the type of a value.
abbrev pub AnswersWithConstant : {B V : Type 0} → (Result ℕ BuildError → V) → (B → B → InstructionData → «Type» → V → Type 0) → (B → B → InstructionData → ℕ → V → Type 0)
    → (shape : ℕ → InstructionData) → «Type» → ℤ → (like : ℕ) → Step B V
AnswersWithConstant {B} {V} answer_value builds_value builds_like shape ty imm like =
    Then answer_value (AnswersConstant answer_value builds_value ty imm) (λ constant before after made. builds_like before after (shape constant) like made)

-- The same, where the answer is a result.
abbrev pub BuildsWithConstant : {B : Type 0} → (B → B → InstructionData → «Type» → Result ℕ BuildError → Type 0) → (B → B → InstructionData → ℕ → Result ℕ BuildError → Type 0)
    → (shape : ℕ → InstructionData) → «Type» → ℤ → (like : ℕ) → Step B (Result ℕ BuildError)
BuildsWithConstant = AnswersWithConstant (λ made. made)
