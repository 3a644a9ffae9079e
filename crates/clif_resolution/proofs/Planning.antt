-- The instruction of a plan: what it names is there.
use Rattle.std.proofs.Common.{◌≡◌, ℕ, zero, suc, ◌<◌, List, [], ◌∷◌, length, refl, ap, arith, sym, ◌∙◌, subst}
use Rattle.std.specs.Prelude.{◌↔◌, ◌&&◌, IsTrue, is_some, map, nat_lt, unwrap_or, Option, Some, None, Bool, true, false, Ok}
use Rattle.std.specs.List.{All, list_all}
use Rattle.std.specs.Borrow.{Bor}
use Rattle.std.proofs.lemmas.Bool.{and_from, and_left, and_parts, and_right, false_from_ne_true, false≢true, lt-ltb, ltb-true}
use Rattle.clif_types.specs.declared.types.«Type».{«Type»}
use Rattle.clif_types.specs.declared.types.«Type».TheVariants.{Invalid}
use Rattle.clif_instructions.specs.Instruction.{EntryRef, AConstant, AFunctionRef, ASignatureRef, ASlot, destinations, entries_of, operands}
use Rattle.clif_tables.specs.Lists.{TableLists}
use Rattle.clif_ir.specs.Consistent.{EntryExists}
use Rattle.clif_instructions.specs.declared.block_call.BlockCall.{BlockCall}
use Rattle.clif_instructions.specs.declared.instructions.InstructionData.{InstructionData}
use Rattle.clif_instructions.specs.declared.instructions.InstructionData.TheVariants as shape
use Rattle.clif_meaning.specs.Acceptance.{has_entry}
use Rattle.clif_builder.specs.declared.builder.FunctionBuilder.{FunctionBuilder}
use Rattle.clif_calls.specs.Plan.{edges_in, operands_in}
use Rattle.clif_calls.specs.declared.call.Edge.{Edge}
use Rattle.clif_calls.specs.declared.call.Name.{Name}
use Rattle.clif_calls.specs.declared.plan.Plan.{Plan}
use Rattle.clif_calls.specs.declared.plan.Plan.TheVariants as plan
use Rattle.clif_resolution.specs.declared.answers.Answer.{Answer}
use Rattle.clif_meaning.specs.Event.{CallShape}
use Rattle.clif_meaning.specs.Typing.{call_shape}
use Rattle.clif_meaning.specs.Instruction.{Compute, Operation, PooledConst, operation_entries}
use Rattle.clif_meaning.specs.View.{operation_of}
use Rattle.clif_resolution.specs.declared.plans.Planned.{Planned}
use Rattle.clif_resolution.specs.Plans.{AreFound, IsPlanned, ValuesExist, can_make, has_entries, has_names, has_slot, operation_in}
use Rattle.clif_ir.specs.Body.{Body}
use Rattle.clif_resolution.specs.Answers.{Finds, all_values, value_of}
use Rattle.clif_resolution.specs.Conditions.{is_open, may_lead}
use Rattle.clif_resolution.specs.Entries.{NamedTable, Numbers, StackSlots, count_in, entry_of, numbers_at}
use Rattle.clif_resolution.proofs.Found.{all-found, found-leads, found-one}

-- no plan asks for a call
calls-nothing : (numbers : Numbers) (p : Plan) → call_shape (operation_in numbers p) ≡ None
calls-nothing numbers (plan.Jump destination) = refl
calls-nothing numbers _ = refl

pub never-calls : (numbers : Numbers) (p : Plan) {call : CallShape} → call_shape (operation_in numbers p) ≡ Some call → ⊥
never-calls numbers p {call} is = let none : call_shape (operation_in numbers p) ≡ None = calls-nothing numbers p in cc

-- the entries that it names exist
abbrev is-pooled : Operation → Bool
is-pooled (Compute (PooledConst opcode bytes)) = true
is-pooled _ = false

-- no plan asks for a pooled constant
never-pooled : (numbers : Numbers) (p : Plan) → is-pooled (operation_in numbers p) ≡ false
never-pooled numbers (plan.Jump destination) = refl
never-pooled numbers _ = refl

pub entries-alike : (tables : TableLists) (numbers : Numbers) (p : Plan) (s : InstructionData) → operation_in numbers p ≡ operation_of tables s → operation_entries (operation_in numbers p) ≡ entries_of s
entries-alike tables numbers p (shape.UnaryConst opcode constant) same =
    let no_way : false ≡ true = sym (never-pooled numbers p) ∙ ap is-pooled same in absurd (false≢true no_way)
entries-alike tables numbers p (shape.UnaryIeee opcode bits) same = ap operation_entries same
entries-alike tables numbers p (shape.Call function args) same = absurd (never-calls numbers p (ap call_shape same))
entries-alike tables numbers p (shape.CallIndirect sig args) same = absurd (never-calls numbers p (ap call_shape same))
entries-alike tables numbers p (shape.TryCall function args table) same = absurd (never-calls numbers p (ap call_shape same))
entries-alike tables numbers p (shape.TryCallIndirect args table) same = absurd (never-calls numbers p (ap call_shape same))
entries-alike tables numbers p _ same = ap operation_entries same

entry-exists : (tables : TableLists) (entry : EntryRef) → has_entry tables entry ≡ true → EntryExists tables entry
entry-exists tables (ASlot number) there = ltb-true number (length tables.stack_slots) there
entry-exists tables (AConstant number) there = ltb-true number (length tables.constants) there
entry-exists tables (ASignatureRef number) there = ltb-true number (length tables.signatures) there
entry-exists tables (AFunctionRef number) there = ltb-true number (length tables.functions) there

pub all-entries-exist : (tables : TableLists) (entries : List EntryRef) → list_all (has_entry tables) entries ≡ true → All (EntryExists tables) entries
all-entries-exist tables [] there k d inside = absurd (omega (arith, inside))
all-entries-exist tables (entry ∷ entries) there zero d inside = entry-exists tables entry (and_parts (has_entry tables entry) _ there).0
all-entries-exist tables (entry ∷ entries) there (suc k) d inside =
    all-entries-exist tables entries (and_parts (has_entry tables entry) _ there).1 k d (omega (arith, inside))

entries-found : (tables : TableLists) (entries : List EntryRef) → All (EntryExists tables) entries → list_all (has_entry tables) entries ≡ true
entries-found tables [] exist = refl
entries-found tables (entry ∷ entries) exist =
    and_from (has_entry tables entry) (list_all (has_entry tables) entries) (entry-found entry (exist 0 entry (omega arith)))
    (entries-found tables entries (λ k d inside. exist (suc k) d (omega (arith, inside))))
  where
    entry-found : (e : EntryRef) → EntryExists tables e → has_entry tables e ≡ true
    entry-found (ASlot number) below = lt-ltb number (length tables.stack_slots) below
    entry-found (AConstant number) below = lt-ltb number (length tables.constants) below
    entry-found (ASignatureRef number) below = lt-ltb number (length tables.signatures) below
    entry-found (AFunctionRef number) below = lt-ltb number (length tables.functions) below

-- a test of these entries
pub entries-tested : (tables : TableLists) (entries : List EntryRef) (test : Bool) → IsTrue test ↔ All (EntryExists tables) entries → list_all (has_entry tables) entries ≡ test
entries-tested tables entries true tells = entries-found tables entries (tells.0 refl)
entries-tested tables entries false tells =
    false_from_ne_true _ (λ there. let no_way : false ≡ true = tells.1 (all-entries-exist tables entries there) in absurd (false≢true no_way))

-- a test of what the shape names is one of what the plan names
pub entries-same : {R : Type 0} (b : FunctionBuilder R) (answers : List Answer) (p : Plan) (s : InstructionData) (ty : «Type») (test : Bool) → IsPlanned b answers p s ty
    → IsTrue test ↔ All (EntryExists b.func.now.tables) (entries_of s) → has_entries b.func.now answers p ≡ test
entries-same b answers p s ty test planned tells =
    ap (list_all (has_entry b.func.now.tables)) (entries-alike b.func.now.tables (numbers_at b.func.now answers) p s planned.operation) ∙ entries-tested b.func.now.tables (entries_of s) test tells

-- the first of the values that names lead to exists, and so does the second
pub first-exists : {R : Type 0} (b : FunctionBuilder R) (answers : List Answer) (names : List Name) (x : ℕ) (xs : List ℕ) → ValuesExist b answers
    → map (value_of b.func.now answers) names ≡ map Some (x ∷ xs) → x < length b.func.now.values
first-exists b answers [] x xs exist found = let no_way : ⊥ = cc in absurd no_way
first-exists b answers (name ∷ names) x xs exist found = let here : value_of b.func.now answers name ≡ Some x = cc in exist name x here

pub second-exists : {R : Type 0} (b : FunctionBuilder R) (answers : List Answer) (names : List Name) (w x : ℕ) (xs : List ℕ) → ValuesExist b answers
    → map (value_of b.func.now answers) names ≡ map Some (w ∷ x ∷ xs) → x < length b.func.now.values
second-exists b answers [] w x xs exist found = let no_way : ⊥ = cc in absurd no_way
second-exists b answers (name ∷ names) w x xs exist found =
    let rest : map (value_of b.func.now answers) names ≡ map Some (x ∷ xs) = cc in first-exists b answers names x xs exist rest

-- what names lead to is there
edges-there : {R : Type 0} (b : FunctionBuilder R) (answers : List Answer) (edges : List Edge) (made : List BlockCall) → AreFound b answers edges made → list_all (may_lead b answers) edges ≡ true
edges-there b answers [] [] found = refl
edges-there b answers [] (m ∷ made) found = absurd found
edges-there b answers (edge ∷ edges) [] found = absurd found
edges-there b answers (edge ∷ edges) (m ∷ made) found =
    and_from (may_lead b answers edge) (list_all (may_lead b answers) edges) (found-leads b answers edge m found.0) (edges-there b answers edges made found.1)

pub planned-named : {R : Type 0} (b : FunctionBuilder R) (answers : List Answer) (p : Plan) (s : InstructionData) (ty : «Type») → IsPlanned b answers p s ty → has_names b answers p ≡ true
planned-named b answers p s ty planned =
    and_from (all_values b.func.now answers (operands_in p)) (list_all (may_lead b answers) (edges_in p))
    (all-found b.func.now answers (operands_in p) (operands s) planned.operands) (edges-there b answers (edges_in p) (destinations s) planned.edges)

pub planned-returns : {R : Type 0} (b : FunctionBuilder R) (answers : List Answer) (args : Bor (List Name)) (values : List ℕ) → map (value_of b.func.now answers) args.now ≡ map Some values
    → IsPlanned b answers (plan.MultiAry args) (shape.MultiAry values) Invalid
planned-returns b answers args values found = record { operation = refl; controlling = refl; typed = refl; operands = found; edges = tt }

-- the instruction was found
pub planned-found : {R : Type 0} (b : FunctionBuilder R) (answers : List Answer) (given p : Plan) (made : Planned) (s : InstructionData) (ty : «Type») → given ≡ p → made ≡ record { shape = s; ty = ty } → has_slot answers p ≡ true
    → IsPlanned b answers p s ty → Finds (λ (x : Planned). IsPlanned b answers given x.shape x.ty) (has_slot answers given && has_names b answers given) (Ok made)
planned-found b answers given p made s ty is same slot planned =
    let here : IsPlanned b answers given made.shape made.ty =
    subst (λ (x : Planned). IsPlanned b answers given x.shape x.ty) (sym same) (subst (λ (q : Plan). IsPlanned b answers q s ty) (sym is) planned) in
    found-one made here
    (and_from (has_slot answers given) (has_names b answers given) (ap (has_slot answers) is ∙ slot) (planned-named b answers given made.shape made.ty here))

-- a name that leads to no stack slot stands for none
pub none-below : (n : ℕ) → nat_lt n n ≡ false
none-below n = false_from_ne_true (nat_lt n n) (λ below. let less : n < n = ltb-true n n below in omega (arith, less))

pub none-there : (f : Body) (answers : List Answer) (table : NamedTable) (name : Name) → is_some (entry_of table answers name) ≡ false
    → nat_lt (numbers_at f answers table name) (count_in table f.tables) ≡ false
none-there f answers table name missing = by (entry_of table answers name) missing
  where
    by : (o : Option ℕ) → is_some o ≡ false → nat_lt (unwrap_or o (count_in table f.tables)) (count_in table f.tables) ≡ false
    by None is = none-below (count_in table f.tables)
    by (Some number) is = let no_way : ⊥ = cc in absurd no_way

no-slot : (f : Body) (answers : List Answer) (p : Plan) → has_slot answers p ≡ false → has_entries f answers p ≡ false
no-slot f answers (plan.StackLoad opcode ty slot offset) missing = ap (λ (test : Bool). test && true) (none-there f answers StackSlots slot missing)
no-slot f answers (plan.StackStore arg slot offset) missing = ap (λ (test : Bool). test && true) (none-there f answers StackSlots slot missing)
no-slot f answers _ missing = let no_way : ⊥ = cc in absurd no_way

-- where it leads to none, or another name to nothing that fits, the instruction may not be made
pub names-denied : {R : Type 0} (b : FunctionBuilder R) (answers : List Answer) (p : Plan) → (has_slot answers p && has_names b answers p) ≡ false → can_make b answers p ≡ false
names-denied b answers p denied = by (has_slot answers p) refl denied
  where
    by : (slot : Bool) → has_slot answers p ≡ slot → (slot && has_names b answers p) ≡ false → can_make b answers p ≡ false
    by true at names = and_left _ _ (and_left _ _ (and_right (is_open b) (has_names b answers p) names))
    by false at names = and_right _ _ (no-slot b.func.now answers p at)
