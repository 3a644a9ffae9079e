-- The instructions of zeros, one by one.
use Rattle.std.proofs.Common.{◌≡◌, ℕ, zero, suc, ◌+◌, ◌-◌, ◌^◌, ◌<◌, List, [], ◌∷◌, ◌++◌, map, length, ◌⊎◌, inl, inr, refl, ap, arith, sym, ◌∙◌, subst}
use Rattle.std.specs.Prelude.{Some, ◌*◌, pos, replicate, slice_get, slice_index}
use Rattle.std.specs.List.{AllByRecursion, range_with_len}
use Rattle.std.proofs.Math.Nat.{mul-zero, zero-mod}
use Rattle.std.proofs.lemmas.Bool.{cases_eq}
use Rattle.std.proofs.lemmas.List.FromFn.{length-range_with_len}
use Rattle.clif_types.specs.declared.types.«Type».{«Type»}
use Rattle.clif_types.specs.Types.{bits_of, bytes_of, lane_count_of, lane_type_of}
use Rattle.clif_tables.specs.Lists.{TableLists}
use Rattle.clif_ir.specs.Body.{Body, alias_of_origin, inst_at, resolved, value_at}
use Rattle.clif_ir.specs.Consistent.{IsConsistent}
use Rattle.clif_instructions.specs.Instruction.{contexts, destinations, operands}
use Rattle.clif_instructions.specs.declared.instructions.InstructionData.{InstructionData}
use Rattle.clif_ir.proofs.Aliases.{follow_end}
use Rattle.clif_paths.specs.Places.{start}
use Rattle.clif_paths.specs.State.{unborn, zero_of}
use Rattle.clif_paths.specs.Blocks.{Blocks, front}
use Rattle.clif_ssa.specs.Sound.{IsZero}
use Rattle.clif_ssa.specs.Structure.{IsNeededZero}
use Rattle.clif_ssa.specs.Zeros.{HasZeros, kind_of_zero, steps_of_kind, ZeroAt, ZeroStep, HasZero, IsStep, insts_of_zero, insts_of_zeros, steps_before, zero_row, zero_steps}
use Rattle.clif_ssa.proofs.ZeroTable.{IsPlainStep, first_alone, none_some, plain_step, same_some, step_count, step_there}
use Rattle.clif_meaning.specs.Bits.{Bits, value_of_bytes}
use Rattle.clif_meaning.specs.Memory.{Memory}
use Rattle.clif_meaning.specs.Outcome.{Gives, float_type, low_bits_at, outcome_of, pooled_type, repeated}
use Rattle.clif_instructions.specs.declared.instructions.InstructionData.TheVariants.{UnaryImm, UnaryIeee, UnaryConst, Convert}
use Rattle.clif_opcodes.specs.declared.opcodes.ConvertOpcode.TheVariants.{Splat, Uextend}
use Rattle.clif_opcodes.specs.declared.opcodes.FloatConstOpcode.{FloatConstOpcode}
use Rattle.clif_opcodes.specs.declared.opcodes.PooledConstOpcode.{PooledConstOpcode}
use Rattle.clif_opcodes.specs.declared.opcodes.PooledConstOpcode.TheVariants.{F128const}
use Rattle.clif_ssa.specs.declared.zeros.ZeroKind.{ZeroKind}
use Rattle.clif_ssa.specs.declared.zeros.ZeroKind.TheVariants as made
use Rattle.clif_meaning.specs.Access.{touched_ranges}
use Rattle.clif_meaning.specs.View.{constant_at, operation_of}
use Rattle.clif_meaning.specs.World.{World}
use Rattle.std.proofs.lemmas.Option.{get_or_from_slice_get}
use Rattle.clif_simulation.proofs.Listed.{place_within}
use Rattle.clif_simulation.proofs.Finished.Placing.{at_first, at_second, in_two}

-- THE TABLE -------------------------------------------------------------------------------------------------------

-- An instruction whose operands have no bits set gives zero, at all types, in a function with these tables.
abbrev pub GivesZero : TableLists → InstructionData → Type 0
GivesZero tables shape =
    (world : World) (ty : «Type») (types : List «Type») (memory : Memory)
    → outcome_of world (operation_of tables shape) ty types (map (λ (operand : ℕ). 0) (operands shape)) memory ≡ Gives (0 ∷ []) memory

-- so does each step of a zero
abbrev StepGivesZero : ZeroStep → Type 0
StepGivesZero step = (f : Body) (constant value : ℕ) → HasZeros f constant step.size → GivesZero f.tables (step.shape constant value)

repeated_zero : (count width : ℕ) → repeated count width 0 ≡ 0
repeated_zero zero width = refl
repeated_zero (suc count) width = ap (λ n. 0 + 2 ^ width * n) (repeated_zero count width) ∙ ap (λ n. 0 + n) (mul-zero (2 ^ width))

low_zero : (ty : «Type») (number : ℕ) → number ≡ 0 → low_bits_at ty number ≡ 0
low_zero ty number none = ap (low_bits_at ty) none ∙ zero-mod (2 ^ bits_of ty)

number_gives_zero : (tables : TableLists) → GivesZero tables (UnaryImm (pos 0))
number_gives_zero tables world ty types memory = ap (λ bits. Gives (bits ∷ []) memory) (zero-mod (2 ^ bits_of ty))

float_gives_zero : (tables : TableLists) (opcode : FloatConstOpcode) → GivesZero tables (UnaryIeee opcode 0)
float_gives_zero tables opcode world ty types memory = ap (λ bits. Gives (bits ∷ []) memory) (zero-mod (2 ^ bits_of (float_type opcode)))

extended_gives_zero : (tables : TableLists) (value : ℕ) → GivesZero tables (Convert Uextend value)
extended_gives_zero tables value world ty types memory = ap (λ bits. Gives (bits ∷ []) memory) (zero-mod (2 ^ bits_of ty))

splat_gives_zero : (tables : TableLists) (value : ℕ) → GivesZero tables (Convert Splat value)
splat_gives_zero tables value world ty types memory =
    ap (λ bits. Gives (bits ∷ []) memory) (low_zero ty (repeated (lane_count_of ty) (bits_of (lane_type_of ty)) 0) (repeated_zero (lane_count_of ty) (bits_of (lane_type_of ty))))

-- bytes that are zero are no number
no_bytes : (size : ℕ) → value_of_bytes (replicate size 0) ≡ 0
no_bytes zero = refl
no_bytes (suc size) = ap (λ n. 0 + 256 * n) (no_bytes size)

pooled_gives_zero : (f : Body) (opcode : PooledConstOpcode) (constant size : ℕ) → HasZeros f constant (Some size) → GivesZero f.tables (UnaryConst opcode constant)
pooled_gives_zero f opcode constant size has world ty types memory =
    let bytes : constant_at f.tables constant ≡ replicate size 0 = get_or_from_slice_get f.tables.constants constant (replicate size 0) [] has in
    ap (λ bits. Gives (bits ∷ []) memory) (low_zero (pooled_type opcode ty) (value_of_bytes (constant_at f.tables constant)) (ap value_of_bytes bytes ∙ no_bytes size))

kind_gives_zero : (kind : ZeroKind) (ty : «Type») → AllByRecursion StepGivesZero (steps_of_kind kind ty)
kind_gives_zero made.Number ty = ((λ f constant value has. number_gives_zero f.tables), tt)
kind_gives_zero made.Extended ty = ((λ f constant value has. number_gives_zero f.tables), ((λ f constant value has. extended_gives_zero f.tables value), tt))
kind_gives_zero (made.Float opcode) ty = ((λ f constant value has. float_gives_zero f.tables opcode), tt)
kind_gives_zero (made.Splatted opcode) ty =
    ((λ f constant value has. float_gives_zero f.tables opcode), ((λ f constant value has. splat_gives_zero f.tables value), tt))
kind_gives_zero (made.Pooled opcode) ty = ((λ f constant value has. pooled_gives_zero f opcode constant (bytes_of ty) has), tt)
kind_gives_zero made.SplattedPooled ty =
    ((λ f constant value has. pooled_gives_zero f F128const constant 16 has), ((λ f constant value has. splat_gives_zero f.tables value), tt))

steps_give_zero : (ty : «Type») → AllByRecursion StepGivesZero (zero_steps ty)
unfolding zero_row
steps_give_zero ty = kind_gives_zero (kind_of_zero ty) ty

-- An instruction touches no memory by itself.
abbrev pub TouchesNothing : TableLists → InstructionData → Type 0
TouchesNothing tables shape =
    (world : World) (ty : «Type») (types : List «Type») (operands : List Bits) → touched_ranges world (operation_of tables shape) ty types operands ≡ []

-- no step of a zero does
abbrev StepTouchesNothing : ZeroStep → Type 0
StepTouchesNothing step = (tables : TableLists) (constant value : ℕ) → TouchesNothing tables (step.shape constant value)

kind_touches_nothing : (kind : ZeroKind) (ty : «Type») → AllByRecursion StepTouchesNothing (steps_of_kind kind ty)
kind_touches_nothing made.Number ty = ((λ tables constant value world at types operands. refl), tt)
kind_touches_nothing made.Extended ty = ((λ tables constant value world at types operands. refl), ((λ tables constant value world at types operands. refl), tt))
kind_touches_nothing (made.Float opcode) ty = ((λ tables constant value world at types operands. refl), tt)
kind_touches_nothing (made.Splatted opcode) ty = ((λ tables constant value world at types operands. refl), ((λ tables constant value world at types operands. refl), tt))
kind_touches_nothing (made.Pooled opcode) ty = ((λ tables constant value world at types operands. refl), tt)
kind_touches_nothing made.SplattedPooled ty = ((λ tables constant value world at types operands. refl), ((λ tables constant value world at types operands. refl), tt))

steps_touch_nothing : (ty : «Type») → AllByRecursion StepTouchesNothing (zero_steps ty)
unfolding zero_row
steps_touch_nothing ty = kind_touches_nothing (kind_of_zero ty) ty

all_get : {X : Type 0} (P : X → Type 0) (xs : List X) (k : ℕ) (x : X) → AllByRecursion P xs → slice_get xs k ≡ Some x → P x
all_get P [] k x all is = absurd (none_some is)
all_get P (y ∷ ys) zero x all is = subst P (same_some is) all.0
all_get P (y ∷ ys) (suc k) x all is = all_get P ys k x all.1 is

-- EDGES -----------------------------------------------------------------------------------------------------------

abbrev pub LeadsNowhere : Body → ℕ → Type 0
LeadsNowhere f inst = destinations (inst_at f inst).shape ≡ []

all_range : (P : ℕ → Type 0) (a n : ℕ) → ((k : ℕ) → k < n → P (a + k)) → AllByRecursion P (range_with_len a n)
all_range P a zero each = tt
all_range P a (suc n) each = (
  (let same : a + 0 ≡ a = omega arith in subst P same (each 0 (omega arith))),
  all_range P (a + 1) n (λ k inside. let same : a + suc k ≡ (a + 1) + k = omega arith in subst P same (each (suc k) (omega (arith, inside)))),
)

all_append : (P : ℕ → Type 0) (xs ys : List ℕ) → AllByRecursion P xs → AllByRecursion P ys → AllByRecursion P (xs ++ ys)
all_append P [] ys first second = second
all_append P (x ∷ xs) ys first second = (first.0, all_append P xs ys first.1 second)

zero_leads_nowhere : (f : Body) (z : ZeroAt) → HasZero f z → AllByRecursion (LeadsNowhere f) (insts_of_zero z)
zero_leads_nowhere f z has =
    all_range (LeadsNowhere f) z.inst (length (zero_steps z.ty))
    (λ k inside.
    let step : (s : ZeroStep) × (slice_get (zero_steps z.ty) k ≡ Some s) = step_there z.ty k inside in
    let at : IsStep f (z.inst + k) (z.value + k) step.0 = has k step.0 step.1 in
    ap destinations at.shape ∙ (plain_step z.ty k step.0 step.1).no_edges at.constant ((z.value + k) - 1))

-- the instructions of zeros that something needs have no edges
pub needed_lead_nowhere : (f : Body) (zeros : List ZeroAt) → AllByRecursion (IsNeededZero f) zeros → AllByRecursion (LeadsNowhere f) (insts_of_zeros zeros)
needed_lead_nowhere f [] all = tt
needed_lead_nowhere f (z ∷ zeros) all =
    all_append (LeadsNowhere f) (insts_of_zero z) (insts_of_zeros zeros) (zero_leads_nowhere f z all.0.stands) (needed_lead_nowhere f zeros all.1)

-- WHAT THEY COMPUTE -----------------------------------------------------------------------------------------------

-- the zero of a variable, for the front of this block, or a result on the way to one
abbrev pub IsZeroValue : Blocks → ℕ → ℕ → Type 0
IsZeroValue blocks block value =
    ((variable : ℕ) × (blocks.function.definition value ≡ record { home = front block; kind = zero_of variable }))
    ⊎ (blocks.function.definition value ≡ record { home = start; kind = unborn })

-- The instruction is a step of a zero, for the front of this block.
pub record IsZeroInst (f : Body) (blocks : Blocks) (block inst : ℕ) : Type 0 where
  pub value : ℕ
  pub exists : inst < length f.insts
  pub value_exists : value < length f.values
  pub no_edges : LeadsNowhere f inst
  pub no_contexts : contexts (inst_at f inst).shape ≡ []
  pub gives : GivesZero f.tables (inst_at f inst).shape
  pub touches_nothing : TouchesNothing f.tables (inst_at f inst).shape
  pub result : (inst_at f inst).results ≡ value ∷ []
  pub defined : IsZeroValue blocks block value

-- the instruction at the place before this one gives a value, which stands for itself
pub record IsFromBefore (f : Body) (insts : List ℕ) (place value : ℕ) : Type 0 where
  pub before : ℕ
  pub next : place ≡ suc before
  pub inst : ℕ
  pub stands : slice_get insts before ≡ Some inst
  pub gives : (inst_at f inst).results ≡ value ∷ []
  pub itself : resolved f value ≡ value

-- so does that before each one of these that has an operand
abbrev pub InTurn : Body → List ℕ → Type 0
InTurn f insts =
    (place inst k value : ℕ) → slice_get insts place ≡ Some inst → slice_get (operands (inst_at f inst).shape) k ≡ Some value → IsFromBefore f insts place value

-- a result stands for itself
result_itself : (f : Body) → IsConsistent f → (inst value : ℕ) → (inst_at f inst).results ≡ value ∷ [] → resolved f value ≡ value
result_itself f consistent inst value result =
    let inside : 0 < length (inst_at f inst).results = subst (λ xs. 0 < length xs) (sym result) (omega arith) in
    let is : slice_index (inst_at f inst).results 0 ≡ value = ap (λ xs. slice_index xs 0) result in
    follow_end f.values (length f.values) value (ap (λ v. alias_of_origin (value_at f v).origin) (sym is) ∙ ap alias_of_origin (consistent.results_known inst 0 inside).1)

module _ (f : Body) (blocks : Blocks) (b : ℕ) where
  zero_inst : (z : ZeroAt) → IsZero f blocks b z → (k : ℕ) → k < length (zero_steps z.ty) → IsZeroInst f blocks b (z.inst + k)
  zero_inst z is k inside =
      let step : (s : ZeroStep) × (slice_get (zero_steps z.ty) k ≡ Some s) = step_there z.ty k inside in
      let at : IsStep f (z.inst + k) (z.value + k) step.0 = is.stands k step.0 step.1 in
      record {
        value = z.value + k;
        exists = at.exists;
        value_exists = at.value_exists;
        no_edges = ap destinations at.shape ∙ (plain_step z.ty k step.0 step.1).no_edges at.constant ((z.value + k) - 1);
        no_contexts = ap contexts at.shape ∙ (plain_step z.ty k step.0 step.1).no_contexts at.constant ((z.value + k) - 1);
        gives =
            subst (GivesZero f.tables) (sym at.shape)
            (all_get StepGivesZero (zero_steps z.ty) k step.0 (steps_give_zero z.ty) step.1 f at.constant ((z.value + k) - 1) at.zeros);
        touches_nothing =
            subst (TouchesNothing f.tables) (sym at.shape)
            (all_get StepTouchesNothing (zero_steps z.ty) k step.0 (steps_touch_nothing z.ty) step.1 f.tables at.constant ((z.value + k) - 1));
        result = at.result;
        defined =
            elim (cases_eq k (steps_before z.ty)) [
              | inl last ↦ inl (is.variable, ap (λ n. blocks.function.definition (z.value + n)) last ∙ is.defined)
              | inr other ↦ inr (is.others (z.value + k) (omega arith) (omega (arith, inside, other, step_count z.ty)))
            ];
      }

  pub zero_insts : (zeros : List ZeroAt) → AllByRecursion (IsZero f blocks b) zeros → AllByRecursion (IsZeroInst f blocks b) (insts_of_zeros zeros)
  zero_insts [] all = tt
  zero_insts (z ∷ zeros) all =
      all_append (IsZeroInst f blocks b) (insts_of_zero z) (insts_of_zeros zeros)
      (all_range (IsZeroInst f blocks b) z.inst (length (zero_steps z.ty)) (zero_inst z all.0)) (zero_insts zeros all.1)

-- IN TURN ---------------------------------------------------------------------------------------------------------

range_at : (a n k : ℕ) → k < n → slice_get (range_with_len a n) k ≡ Some (a + k)
range_at a zero k inside = absurd (omega (arith, inside))
range_at a (suc n) zero inside = let same : a ≡ a + 0 = omega arith in ap (λ m. Some m) same
range_at a (suc n) (suc k) inside = let same : (a + 1) + k ≡ a + suc k = omega arith in range_at (a + 1) n k (omega (arith, inside)) ∙ ap (λ m. Some m) same

-- an operand of a step is the value before
operand_is : (step : ZeroStep) → IsPlainStep step → (constant before k value : ℕ) → slice_get (operands (step.shape constant before)) k ≡ Some value → value ≡ before
operand_is step plain constant before k value is =
    let there : slice_index (operands (step.shape constant before)) k ≡ value = get_or_from_slice_get (operands (step.shape constant before)) k value 0 is in
    sym there ∙ plain.operands_before constant before k 0 (place_within (operands (step.shape constant before)) k value is)

module _ (f : Body) (consistent : IsConsistent f) where
  zero_in_turn : (z : ZeroAt) → HasZero f z → InTurn f (insts_of_zero z)
  zero_in_turn z has place inst k value stands operand = by place refl
    where
      inside : place < length (zero_steps z.ty)
      inside = subst (λ n. place < n) (length-range_with_len z.inst (length (zero_steps z.ty))) (place_within (insts_of_zero z) place inst stands)

      number : z.inst + place ≡ inst
      number = same_some (sym (range_at z.inst (length (zero_steps z.ty)) place inside) ∙ stands)

      step : (s : ZeroStep) × (slice_get (zero_steps z.ty) place ≡ Some s)
      step = step_there z.ty place inside

      constant : ℕ
      constant = (has place step.0 step.1).constant

      shape : (inst_at f inst).shape ≡ step.0.shape constant ((z.value + place) - 1)
      shape = ap (λ i. (inst_at f i).shape) (sym number) ∙ (has place step.0 step.1).shape

      same_operand : slice_get (operands (step.0.shape constant ((z.value + place) - 1))) k ≡ Some value
      same_operand = ap (λ s. slice_get (operands s) k) (sym shape) ∙ operand

      value_is : value ≡ (z.value + place) - 1
      value_is = operand_is step.0 (plain_step z.ty place step.0 step.1) constant ((z.value + place) - 1) k value same_operand

      by : (n : ℕ) → place ≡ n → IsFromBefore f (insts_of_zero z) place value
      by zero first =
          let none : operands (step.0.shape constant ((z.value + place) - 1)) ≡ [] =
          first_alone z.ty step.0 constant ((z.value + place) - 1) (ap (slice_get (zero_steps z.ty)) (sym first) ∙ step.1) in
          absurd (none_some (ap (λ xs. slice_get xs k) (sym none) ∙ same_operand))
      by (suc before) next =
          let earlier : before < length (zero_steps z.ty) = omega (arith, next, inside) in
          let step_before : (s : ZeroStep) × (slice_get (zero_steps z.ty) before ≡ Some s) = step_there z.ty before earlier in
          let same : z.value + before ≡ value = omega (arith, value_is, next) in
          let result : (inst_at f (z.inst + before)).results ≡ value ∷ [] = (has before step_before.0 step_before.1).result ∙ ap (λ v. v ∷ []) same in
          record {
            before = before;
            next = next;
            inst = z.inst + before;
            stands = range_at z.inst (length (zero_steps z.ty)) before earlier;
            gives = result;
            itself = result_itself f consistent (z.inst + before) value result;
          }

  pub zeros_in_turn : (blocks : Blocks) (b : ℕ) (zeros : List ZeroAt) → AllByRecursion (IsZero f blocks b) zeros → InTurn f (insts_of_zeros zeros)
  zeros_in_turn blocks b [] all place inst k value stands operand = absurd (none_some stands)
  zeros_in_turn blocks b (z ∷ zeros) all place inst k value stands operand =
      by (λ m there. zeros_in_turn blocks b zeros all.1 m inst k value there operand) (in_two (insts_of_zero z) (insts_of_zeros zeros) place inst stands)
    where
      by : ((m : ℕ) → slice_get (insts_of_zeros zeros) m ≡ Some inst → IsFromBefore f (insts_of_zeros zeros) m value)
          → ((place < length (insts_of_zero z)) × (slice_get (insts_of_zero z) place ≡ Some inst))
          ⊎ ((m : ℕ) × (place ≡ length (insts_of_zero z) + m) × (slice_get (insts_of_zeros zeros) m ≡ Some inst))
          → IsFromBefore f (insts_of_zero z ++ insts_of_zeros zeros) place value
      by later (inl first) =
          let from : IsFromBefore f (insts_of_zero z) place value = zero_in_turn z all.0.stands place inst k value first.1 operand in
          record {
            before = from.before;
            next = from.next;
            inst = from.inst;
            stands = at_first (insts_of_zero z) (insts_of_zeros zeros) from.before (omega (arith, first.0, from.next)) ∙ from.stands;
            gives = from.gives;
            itself = from.itself;
          }
      by later (inr second) =
          let from : IsFromBefore f (insts_of_zeros zeros) second.0 value = later second.0 second.2 in
          record {
            before = length (insts_of_zero z) + from.before;
            next = omega (arith, second.1, from.next);
            inst = from.inst;
            stands = at_second (insts_of_zero z) (insts_of_zeros zeros) (length (insts_of_zero z) + from.before) from.before refl ∙ from.stands;
            gives = from.gives;
            itself = from.itself;
          }
