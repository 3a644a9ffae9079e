-- An instruction of a pooled constant, by numbers.
use Rattle.std.proofs.Common.{◌≡◌, ◌≤◌, ℕ, List, [], refl, ap, sym, ◌∙◌, arith, subst}
use Rattle.std.specs.Prelude.{Option, Some, true, slice_get}
use Rattle.std.proofs.lemmas.Bool.{and_from}
use Rattle.std.proofs.lemmas.Option.{get_or_from_slice_get}
use Rattle.clif_types.specs.declared.types.«Type».{«Type»}
use Rattle.clif_types.specs.declared.types.«Type».TheVariants.{Invalid}
use Rattle.clif_types.specs.Signature.{SignatureShape}
use Rattle.clif_opcodes.specs.declared.opcodes.PooledConstOpcode.{PooledConstOpcode}
use Rattle.clif_opcodes.specs.declared.opcodes.PooledConstOpcode.TheVariants.{F128const, Vconst}
use Rattle.clif_instructions.specs.declared.instructions.InstructionData.TheVariants.{UnaryConst}
use Rattle.clif_instructions.specs.Instruction.{result_types}
use Rattle.clif_tables.specs.Callees.{count_of_results}
use Rattle.clif_tables.specs.Lists.{TableLists}
use Rattle.clif_ir.specs.Body.{Body}
use Rattle.clif_meaning.specs.Acceptance.{has_bytes, pooled_const}
use Rattle.clif_meaning.specs.Instruction.{Compute, PooledConst}
use Rattle.clif_meaning.specs.Request.{AnsweredCall}
use Rattle.clif_meaning.specs.View.{made_at}
use Rattle.clif_builder.specs.declared.builder.FunctionBuilder.{FunctionBuilder}
use Rattle.clif_builder.specs.Ledger.{HasShape, NamesEdges, NamesExceptions, ledger_of}
use Rattle.clif_builder.specs.StandsFor.{StandsFor}
use Rattle.clif_replay.specs.Ready.{IsReady, KeepsTables, TablesAgree}
use Rattle.clif_resolution.specs.Conditions.{is_open, is_open_at}
use Rattle.clif_resolution.specs.declared.answers.Answer.{Answer}
use Rattle.clif_replay.proofs.Conditions.{pooled-same}
use Rattle.clif_replay.proofs.Making.{Judges}
use Rattle.clif_replay.specs.Requests.{Naming}

-- where its opcode tells the type, none is given
made-at : (f : Body) (opcode : PooledConstOpcode) (constant : ℕ) (ty : «Type») → (opcode ≡ F128const → ty ≡ Invalid) → ty ≡ made_at f (UnaryConst opcode constant) ty
made-at f F128const constant ty told = told refl
made-at f Vconst constant ty told = refl

-- the constant has its bytes
pub constant-shape : (calls : List AnsweredCall) (f : Body) (opcode : PooledConstOpcode) (ty : «Type») (bytes : List ℕ) (constant : ℕ) → (opcode ≡ F128const → ty ≡ Invalid)
    → slice_get f.tables.constants constant ≡ Some bytes
    → HasShape calls f (record { operation = Compute (PooledConst opcode bytes); controlling = ty; operands = []; contexts = []; edges = [] }) (UnaryConst opcode constant) ty
constant-shape calls f opcode ty bytes constant told found =
    let controlling = made-at f opcode constant ty told in
    record {
      operation = ap (λ (b : List ℕ). Compute (PooledConst opcode b)) (sym (get_or_from_slice_get f.tables.constants constant bytes [] found));
      controlling = controlling;
      typed = ap (result_types (UnaryConst opcode constant)) controlling;
      operands_named = record { numbers = refl; are_values = tt };
      contexts_numbered = refl;
      edges = tt;
    }

pub constant-count : (tables : TableLists) (opcode : PooledConstOpcode) (constant : ℕ) → count_of_results tables (UnaryConst opcode constant) ≤ 1
constant-count tables F128const constant = omega arith
constant-count tables Vconst constant = omega arith

-- it may be made in an open block, with as many bytes as its type has
pub constant-allowed : {R : Type 0} (b : FunctionBuilder R) (answers : List Answer) (opcode : PooledConstOpcode) (ty : «Type») (bytes : List ℕ) → is_open b ≡ true → has_bytes opcode ty bytes ≡ true
    → Judges (λ naming declared ledger. pooled_const opcode ty bytes) b answers true
constant-allowed b answers opcode ty bytes opens fits naming declared calls ready =
    pooled-same calls b answers ready opcode ty bytes ∙ and_from (is_open b) (has_bytes opcode ty bytes) opens fits

-- a builder that pooled a constant stands for the same calls, and its block is open where it was
pub pooled-ready : {R : Type 0} {naming : Naming} {declared : SignatureShape} (calls : List AnsweredCall) (old new : FunctionBuilder R) (answers : List Answer) → StandsFor declared calls new
    → KeepsTables old new → IsReady naming declared calls old answers → IsReady naming declared calls new answers
pooled-ready calls old new answers stands tables ready = record {
  reads = ready.reads;
  stands = stands;
  answered = ready.answered;
  later = ready.later;
  edges = ready.edges;
  tables = subst (TablesAgree (NamesEdges calls) (ledger_of calls).jump_tables) (sym tables.0) ready.tables;
  exceptions = subst (TablesAgree (NamesExceptions calls) (ledger_of calls).exception_tables) (sym tables.1) ready.exceptions;
}

pub pooled-open : {R : Type 0} (old new : FunctionBuilder R) → new.position ≡ old.position → new.ctx.now.parts ≡ old.ctx.now.parts → is_open old ≡ true → is_open new ≡ true
pooled-open old new position context opens =
    ap (λ (p : Option ℕ). is_open_at p new.ctx.now.parts) position ∙ ap (is_open_at old.position) context ∙ opens
