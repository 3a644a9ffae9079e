-- What a call answers: a few effects serve all calls, as those on the program and on the ledger do. A call that answers nothing
-- needs no row here.
use Rattle.std.proofs.Common.{◌≡◌, List, [], ◌∷◌, length, refl}
use Rattle.std.specs.Prelude.{map}
use Rattle.clif_types.specs.declared.types.«Type».{«Type»}
use Rattle.clif_tables.specs.Entries.{count_for}
use Rattle.clif_meaning.specs.Name.{Name}
use Rattle.clif_meaning.specs.Instruction.{Edge, Instruction}
use Rattle.clif_meaning.specs.Request.{Request, CreateBlock, AppendBlockParams, AppendFunctionParams, DeclareVar, UseVar, MakeEntry, MakeEdge, MakeJumpTable, MakeExceptionTable, Build, GivenEntry}
use Rattle.clif_meaning.specs.Program.{Program, answers_from, extended, with_parameters}
use Rattle.clif_meaning.specs.Ledger.{ABlock, AVariable, AValue, AnInstruction, AnEntry, AnEdge, AJumpTable, AnExceptionTable, Answered, Ledger, answers_to, or_invalid, variable_type}
use Rattle.clif_meaning.proofs.Effects.{MakesNoParameter}

-- the answer is a block, a variable, an entry or a table: known by its number, and no value, instruction or edge
abbrev pub IsEntity : Answered → Type 0
IsEntity (AValue ty) = ⊥
IsEntity AnInstruction = ⊥
IsEntity (AnEdge edge) = ⊥
IsEntity _ = Unit {0}

pub data AnswersEffect (request : Request) : Type 0 where
  AnswersNothing : ((ledger : Ledger) → answers_to ledger request ≡ []) → AnswersEffect request
  AnswersValues : (types : Ledger → List «Type») → ((ledger : Ledger) → answers_to ledger request ≡ map AValue (types ledger)) → AnswersEffect request
  AnswersEntity : (answer : Ledger → Answered) → ((ledger : Ledger) → IsEntity (answer ledger)) → ((ledger : Ledger) → answers_to ledger request ≡ answer ledger ∷ [])
      → AnswersEffect request
  AnswersEdge : (edge : Edge Name Name) → request ≡ MakeEdge edge → AnswersEffect request
  -- an instruction, and its results
  AnswersInstruction : (entries : List GivenEntry) (instruction : Instruction Name Name) → request ≡ Build entries instruction → AnswersEffect request

pub answers_effect : (request : Request) → AnswersEffect request
answers_effect CreateBlock = AnswersEntity (λ ledger. ABlock) (λ ledger. tt) (λ ledger. refl)
answers_effect (AppendBlockParams block types) = AnswersValues (λ ledger. types) (λ ledger. refl)
answers_effect (AppendFunctionParams block types) = AnswersValues (λ ledger. types) (λ ledger. refl)
answers_effect (DeclareVar ty) = AnswersEntity (λ ledger. AVariable (length ledger.variables)) (λ ledger. tt) (λ ledger. refl)
answers_effect (UseVar variable) = AnswersValues (λ ledger. or_invalid (variable_type ledger variable) ∷ []) (λ ledger. refl)
answers_effect (MakeEntry entry) = AnswersEntity (λ ledger. AnEntry entry (count_for ledger.tables entry)) (λ ledger. tt) (λ ledger. refl)
answers_effect (MakeEdge edge) = AnswersEdge edge refl
answers_effect (MakeJumpTable default entries) = AnswersEntity (λ ledger. AJumpTable (length ledger.jump_tables)) (λ ledger. tt) (λ ledger. refl)
answers_effect (MakeExceptionTable signature normal items) =
    AnswersEntity (λ ledger. AnExceptionTable (length ledger.exception_tables)) (λ ledger. tt) (λ ledger. refl)
answers_effect (Build entries instruction) = AnswersInstruction entries instruction refl
answers_effect _ = AnswersNothing (λ ledger. refl)

-- the parameters of the caller's that a call makes: it answers them, and the program takes these answers
pub record TakesParameters (request : Request) : Type 0 where
  pub block : Name
  pub types : List «Type»
  pub program : (program : Program) → extended program request ≡ with_parameters program block (answers_from program.place 0 types)
  pub answers : (ledger : Ledger) → answers_to ledger request ≡ map AValue types

pub takes_parameters : (request : Request) → (MakesNoParameter request → ⊥) → TakesParameters request
takes_parameters (AppendBlockParams block types) makes = record { block = block; types = types; program = λ program. refl; answers = λ ledger. refl }
takes_parameters (AppendFunctionParams block types) makes = record { block = block; types = types; program = λ program. refl; answers = λ ledger. refl }
takes_parameters _ makes = absurd (makes tt)
