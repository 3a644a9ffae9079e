-- What is so of the table of zeros, and of zeros that stand in a function.
use Rattle.std.proofs.Common.{◌≡◌, ℕ, zero, suc, ◌+◌, ◌<◌, ◌≤◌, false, List, [], ◌∷◌, ◌++◌, length, refl, ap, arith, sym, ◌∙◌, subst}
use Rattle.std.specs.Prelude.{All, Option, Some, None, pos, slice_get}
use Rattle.std.specs.List.{AllByRecursion}
use Rattle.std.proofs.lemmas.Grind.{common_steps}
use Rattle.std.proofs.lemmas.List.Elements.{All-nil}
use Rattle.clif_types.specs.declared.types.«Type».{«Type»}
use Rattle.clif_types.specs.Types.{bytes_of}
use Rattle.clif_ir.specs.Body.{Body, inst_at}
use Rattle.clif_ir.specs.Consistent.{EntryExists}
use Rattle.clif_instructions.specs.declared.instructions.InstructionData.{InstructionData}
use Rattle.clif_opcodes.specs.declared.opcodes.PooledConstOpcode.{PooledConstOpcode}
use Rattle.clif_opcodes.specs.declared.opcodes.PooledConstOpcode.TheVariants.{F128const, Vconst}
use Rattle.clif_instructions.specs.Instruction.{contexts, entries_of, destinations, is_terminator, operands, with_argument}
use Rattle.clif_tables.specs.Callees.{types_of_results}
use Rattle.clif_tables.specs.Lists.{TableLists}
use Rattle.clif_nodes.specs.declared.nodes.InstNode.{InstNode}
use Rattle.clif_instructions.specs.declared.instructions.InstructionData.TheVariants.{UnaryImm, UnaryIeee, UnaryConst, Convert}
use Rattle.clif_types.specs.declared.types.LaneType.TheVariants as lane
use Rattle.clif_types.specs.declared.types.«Type».TheVariants as type
use Rattle.clif_opcodes.specs.declared.opcodes.ConvertOpcode.{ConvertOpcode}
use Rattle.clif_opcodes.specs.declared.opcodes.ConvertOpcode.TheVariants.{Splat, Uextend}
use Rattle.clif_opcodes.specs.declared.opcodes.FloatConstOpcode.{FloatConstOpcode}
use Rattle.clif_opcodes.specs.declared.opcodes.FloatConstOpcode.TheVariants.{F16const, F32const, F64const}
use Rattle.clif_ssa.specs.declared.zeros.ZeroKind.{ZeroKind}
use Rattle.clif_ssa.specs.declared.zeros.ZeroKind.TheVariants as made
use Rattle.clif_ssa.specs.Zeros.{ZeroAt, ZeroStep, HasZero, HasZeros, IsStep, constant_size, float_type, kind_of_zero, last_size, steps_before, steps_of_kind, unpooled, value_of_zero, zero_row, zero_size, zero_steps, zeros_number}
use Rattle.clif_ssa.proofs.Pooled.{KeepsConstants, zeros_exist, zeros_stay}

pub none_some : {X : Type 0} {x : X} → ◌≡◌ {A = Option X} None (Some x) → ⊥
none_some same = cc

pub same_some : {X : Type 0} {x y : X} → ◌≡◌ {A = Option X} (Some x) (Some y) → x ≡ y
same_some same = cc

-- THE TABLE -------------------------------------------------------------------------------------------------------

-- a step has no edges and no contexts, has one result and at most the operand before, control goes on behind it, and a
-- constant that it names exists where this has zero bytes
pub record IsPlainStep (step : ZeroStep) : Type 0 where
  pub no_edges : (constant value : ℕ) → destinations (step.shape constant value) ≡ []
  pub no_contexts : (constant value : ℕ) → contexts (step.shape constant value) ≡ []
  pub entries : (f : Body) (constant value : ℕ) → HasZeros f constant step.size → All (EntryExists f.tables) (entries_of (step.shape constant value))
  pub unchanged : (b v constant value : ℕ) → with_argument b v (step.shape constant value) ≡ step.shape constant value
  pub goes_on : (constant value : ℕ) → is_terminator (step.shape constant value) ≡ false
  pub one_result : (t : TableLists) (constant value : ℕ) → types_of_results t (step.shape constant value) step.ty ≡ step.ty ∷ []
  pub operands_before : (constant value : ℕ) → All (λ operand. operand ≡ value) (operands (step.shape constant value))

plain_constant : (ty : «Type») → IsPlainStep (unpooled (λ value. UnaryImm (pos 0)) ty)
plain_constant ty = record {
  no_edges = λ constant value. refl;
  no_contexts = λ constant value. refl;
  entries = λ f constant value has. All-nil _;
  unchanged = λ b v constant value. refl;
  goes_on = λ constant value. refl;
  one_result = λ t constant value. refl;
  operands_before = λ constant value. All-nil _;
}

-- the bits of a float, at its type
plain_float : (opcode : FloatConstOpcode) → IsPlainStep (unpooled (λ value. UnaryIeee opcode 0) (float_type opcode))
plain_float opcode = record {
  no_edges = λ constant value. refl;
  no_contexts = λ constant value. refl;
  entries = λ f constant value has. All-nil _;
  unchanged = λ b v constant value. refl;
  goes_on = λ constant value. goes_on opcode;
  one_result = λ t constant value. one t opcode;
  operands_before = λ constant value. All-nil _;
}
  where
    goes_on : (o : FloatConstOpcode) → is_terminator (UnaryIeee o 0) ≡ false
    goes_on F16const = refl
    goes_on F32const = refl
    goes_on F64const = refl

    one : (t : TableLists) (o : FloatConstOpcode) → types_of_results t (UnaryIeee o 0) (float_type o) ≡ float_type o ∷ []
    one t F16const = refl
    one t F32const = refl
    one t F64const = refl

-- a pooled constant, at a type that it may have
plain_pooled : (opcode : PooledConstOpcode) (ty : «Type») (size : ℕ) → ((t : TableLists) (constant : ℕ) → types_of_results t (UnaryConst opcode constant) ty ≡ ty ∷ [])
    → IsPlainStep (record { shape = λ constant value. UnaryConst opcode constant; ty = ty; size = Some size })
plain_pooled opcode ty size one = record {
  no_edges = λ constant value. refl;
  no_contexts = λ constant value. refl;
  entries = λ f constant value has. zeros_exist f constant size has;
  unchanged = λ b v constant value. refl;
  goes_on = λ constant value. goes_on opcode constant;
  one_result = λ t constant value. one t constant;
  operands_before = λ constant value. All-nil _;
}
  where
    goes_on : (o : PooledConstOpcode) (constant : ℕ) → is_terminator (UnaryConst o constant) ≡ false
    goes_on F128const constant = refl
    goes_on Vconst constant = refl

-- the value before, at another type
plain_converted : (opcode : ConvertOpcode) (ty : «Type») → IsPlainStep (unpooled (λ value. Convert opcode value) ty)
plain_converted opcode ty = record {
  no_edges = λ constant value. refl;
  no_contexts = λ constant value. refl;
  entries = λ f constant value has. All-nil _;
  unchanged = λ b v constant value. refl;
  goes_on = λ constant value. refl;
  one_result = λ t constant value. refl;
  operands_before = λ constant value. itself value;
}
  where
    itself : (value : ℕ) → All (λ operand. operand ≡ value) (value ∷ [])
    itself value zero d inside = refl
    itself value (suc k) d inside = absurd (omega (arith, inside))

-- a float that is its own type's zero
float_at : (ty : «Type») (opcode : FloatConstOpcode) → float_type opcode ≡ ty → IsPlainStep (unpooled (λ value. UnaryIeee opcode 0) ty)
float_at ty opcode is = subst (λ t. IsPlainStep (unpooled (λ value. UnaryIeee opcode 0) t)) is (plain_float opcode)

plain_steps : (ty : «Type») → AllByRecursion IsPlainStep (zero_steps ty)
unfolding zero_row
plain_steps (type.Lane lane.I128) = (plain_constant (type.Lane lane.I64), (plain_converted Uextend (type.Lane lane.I128), tt))
plain_steps (type.Lane lane.F16) = (float_at (type.Lane lane.F16) F16const refl, tt)
plain_steps (type.Lane lane.F32) = (float_at (type.Lane lane.F32) F32const refl, tt)
plain_steps (type.Lane lane.F64) = (float_at (type.Lane lane.F64) F64const refl, tt)
plain_steps (type.Lane lane.F128) = (plain_pooled F128const (type.Lane lane.F128) 16 (λ t constant. refl), tt)
plain_steps (type.Vector lane.F16 count) = (plain_float F16const, (plain_converted Splat (type.Vector lane.F16 count), tt))
plain_steps (type.Vector lane.F32 count) = (plain_float F32const, (plain_converted Splat (type.Vector lane.F32 count), tt))
plain_steps (type.Vector lane.F64 count) = (plain_float F64const, (plain_converted Splat (type.Vector lane.F64 count), tt))
plain_steps (type.Vector lane.F128 count) =
    (plain_pooled F128const (type.Lane lane.F128) 16 (λ t constant. refl), (plain_converted Splat (type.Vector lane.F128 count), tt))
plain_steps (type.Vector l count) = (plain_pooled Vconst (type.Vector l count) (bytes_of (type.Vector l count)) (λ t constant. refl), tt)
plain_steps ty = (plain_constant ty, tt)

-- the first step has no operands
pub first_alone : (ty : «Type») (step : ZeroStep) (constant value : ℕ) → slice_get (zero_steps ty) 0 ≡ Some step → operands (step.shape constant value) ≡ []
unfolding zero_row
first_alone ty step constant value is = alone (kind_of_zero ty) is
  where
    alone : (kind : ZeroKind) → slice_get (steps_of_kind kind ty) 0 ≡ Some step → operands (step.shape constant value) ≡ []
    alone made.Number first = ap (λ (s : ZeroStep). operands (s.shape constant value)) (sym (same_some first))
    alone made.Extended first = ap (λ (s : ZeroStep). operands (s.shape constant value)) (sym (same_some first))
    alone (made.Float opcode) first = ap (λ (s : ZeroStep). operands (s.shape constant value)) (sym (same_some first))
    alone (made.Splatted opcode) first = ap (λ (s : ZeroStep). operands (s.shape constant value)) (sym (same_some first))
    alone (made.Pooled opcode) first = ap (λ (s : ZeroStep). operands (s.shape constant value)) (sym (same_some first))
    alone made.SplattedPooled first = ap (λ (s : ZeroStep). operands (s.shape constant value)) (sym (same_some first))

-- a step names the constant of its type's zero, or none
pub record NamesZero (size : Option ℕ) (step : ZeroStep) : Type 0 where
  pub same : (constants : List (List ℕ)) (value : ℕ) → step.shape (zeros_number constants size) value ≡ step.shape (zeros_number constants step.size) value
  pub has : (f : Body) (constant : ℕ) → HasZeros f constant size → HasZeros f constant step.size
  pub numbered : (f : Body) → HasZeros f (zeros_number f.tables.constants size) size → HasZeros f (zeros_number f.tables.constants step.size) step.size

names_none : (size : Option ℕ) (shape : ℕ → InstructionData) (ty : «Type») → NamesZero size (unpooled shape ty)
names_none size shape ty = record { same = λ constants value. refl; has = λ f constant has. tt; numbered = λ f has. tt }

names_it : (step : ZeroStep) → NamesZero step.size step
names_it step = record { same = λ constants value. refl; has = λ f constant has. has; numbered = λ f has. has }

names_zero : (ty : «Type») → AllByRecursion (NamesZero (zero_size ty)) (zero_steps ty)
unfolding zero_row zero_size
names_zero ty = by (kind_of_zero ty)
  where
    by : (kind : ZeroKind) → AllByRecursion (NamesZero (constant_size kind ty)) (steps_of_kind kind ty)
    by made.Number = (names_none None (λ value. UnaryImm (pos 0)) ty, tt)
    by made.Extended = (names_none None (λ value. UnaryImm (pos 0)) (type.Lane lane.I64), (names_none None (λ value. Convert Uextend value) ty, tt))
    by (made.Float opcode) = (names_none None (λ value. UnaryIeee opcode 0) ty, tt)
    by (made.Splatted opcode) = (names_none None (λ value. UnaryIeee opcode 0) (float_type opcode), (names_none None (λ value. Convert Splat value) ty, tt))
    by (made.Pooled opcode) = (names_it (record { shape = λ constant value. UnaryConst opcode constant; ty = ty; size = Some (bytes_of ty) }), tt)
    by made.SplattedPooled = (
      names_it (record { shape = λ constant value. UnaryConst F128const constant; ty = type.Lane lane.F128; size = Some 16 }),
      (names_none (Some 16) (λ value. Convert Splat value) ty, tt),
    )

all_get : {X : Type 0} (P : X → Type 0) (xs : List X) (k : ℕ) (x : X) → AllByRecursion P xs → slice_get xs k ≡ Some x → P x
all_get P [] k x all is = absurd (none_some is)
all_get P (y ∷ ys) zero x all is = subst P (same_some is) all.0
all_get P (y ∷ ys) (suc k) x all is = all_get P ys k x all.1 is

pub plain_step : (ty : «Type») (k : ℕ) (step : ZeroStep) → slice_get (zero_steps ty) k ≡ Some step → IsPlainStep step
plain_step ty k step is = all_get IsPlainStep (zero_steps ty) k step (plain_steps ty) is

pub step_names : (ty : «Type») (k : ℕ) (step : ZeroStep) → slice_get (zero_steps ty) k ≡ Some step → NamesZero (zero_size ty) step
step_names ty k step is = all_get (NamesZero (zero_size ty)) (zero_steps ty) k step (names_zero ty) is

get_last : {X : Type 0} (xs : List X) (x : X) → slice_get (xs ++ x ∷ []) (length xs) ≡ Some x
get_last [] x = refl
get_last (y ∷ ys) x = get_last ys x

-- the last step has the zero's type
abbrev pub last_of : «Type» → ZeroStep
last_of ty = record { shape = (zero_row ty).last; ty = ty; size = last_size (kind_of_zero ty) ty }

pub last_step : (ty : «Type») → slice_get (zero_steps ty) (steps_before ty) ≡ Some (last_of ty)
last_step ty = get_last (zero_row ty).before (last_of ty)

pub step_count : (ty : «Type») → length (zero_steps ty) ≡ steps_before ty + 1
step_count ty = grind (arith, common_steps)

-- the zero itself exists
pub zero_exists : (f : Body) (z : ZeroAt) → HasZero f z → value_of_zero z < length f.values
zero_exists f z has = (has (steps_before z.ty) (last_of z.ty) (last_step z.ty)).value_exists

-- a zero stays where instructions and constants do
pub has_zero_kept : (f g : Body) (z : ZeroAt) → length f.values ≤ length g.values → length f.insts ≤ length g.insts
    → ((i : ℕ) → i < length f.insts → inst_at g i ≡ inst_at f i) → KeepsConstants f g → HasZero f z → HasZero g z
has_zero_kept f g z values insts same constants has k step is =
    let old : IsStep f (z.inst + k) (z.value + k) step = has k step is in
    let kept : inst_at g (z.inst + k) ≡ inst_at f (z.inst + k) = same (z.inst + k) old.exists in
    record {
      exists = omega (arith, old.exists, insts);
      value_exists = omega (arith, old.value_exists, values);
      constant = old.constant;
      zeros = zeros_stay f g old.constant step.size constants old.zeros;
      shape = ap (λ (n : InstNode). n.shape) kept ∙ old.shape;
      result = ap (λ (n : InstNode). n.results) kept ∙ old.result;
    }

pub get_inside : {X : Type 0} (xs : List X) (k : ℕ) (x : X) → slice_get xs k ≡ Some x → k < length xs
get_inside [] k x is = absurd (none_some is)
get_inside (y ∷ ys) zero x is = omega arith
get_inside (y ∷ ys) (suc k) x is = let rest : k < length ys = get_inside ys k x is in omega (arith, rest)

pub step_inside : (ty : «Type») (k : ℕ) (step : ZeroStep) → slice_get (zero_steps ty) k ≡ Some step → k < length (zero_steps ty)
step_inside ty k step is = get_inside (zero_steps ty) k step is

get_there : {X : Type 0} (xs : List X) (k : ℕ) → k < length xs → (x : X) × (slice_get xs k ≡ Some x)
get_there [] k inside = absurd (omega (arith, inside))
get_there (y ∷ ys) zero inside = (y, refl)
get_there (y ∷ ys) (suc k) inside = get_there ys k (omega (arith, inside))

pub step_there : (ty : «Type») (k : ℕ) → k < length (zero_steps ty) → (step : ZeroStep) × (slice_get (zero_steps ty) k ≡ Some step)
step_there ty k inside = get_there (zero_steps ty) k inside
