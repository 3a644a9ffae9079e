-- What names lead to is there.
use Rattle.std.proofs.Common.{◌≡◌, ℕ, List, [], ◌∷◌, refl, ap, sym, subst, ◌∙◌, Vec, Global}
use Rattle.std.specs.Prelude.{map, Option, Some, is_some, unwrap_or, Bool, true, false, Result, Ok, Err}
use Rattle.std.proofs.lemmas.Bool.{and_from}
use Rattle.clif_instructions.specs.declared.block_call.BlockArg.{BlockArg}
use Rattle.clif_instructions.specs.declared.block_call.BlockArg.TheVariants as arg
use Rattle.clif_instructions.specs.declared.block_call.BlockCall.{BlockCall}
use Rattle.clif_instructions.specs.declared.instructions.InstructionData.TheVariants as shape
use Rattle.clif_ir.specs.Body.{Body}
use Rattle.clif_builder.specs.declared.builder.FunctionBuilder.{FunctionBuilder}
use Rattle.clif_calls.specs.declared.call.Edge.{Edge}
use Rattle.clif_calls.specs.declared.call.Name.{Name}
use Rattle.clif_calls.specs.declared.outside.OutsideCall.{OutsideCall}
use Rattle.clif_calls.specs.declared.outside.OutsideCall.TheVariants as outside
use Rattle.clif_resolution.specs.declared.answers.Answer.{Answer}
use Rattle.clif_resolution.specs.Conditions.{IsFound, is_target, may_lead, IsEdge, has_edge}
use Rattle.clif_resolution.specs.Answers.{all_values, argument_of, block_of, value_of, all_passed, passed_in, Finds}
use Rattle.clif_resolution.specs.Callings.{has_called, outside_shape}
use Rattle.clif_resolution.specs.Entries.{Functions, Signatures, count_in, entry_of, numbers_at}
use Rattle.clif_resolution.proofs.Options.{map-some}
use Rattle.clif_types.specs.declared.error.BuildError.TheVariants.{Full}
use Rattle.clif_calls.specs.declared.table.Passed.{Passed}
use Rattle.clif_calls.specs.declared.table.Passed.TheVariants as passed
use Rattle.clif_calls.specs.declared.table.TableEdge.{TableEdge}
use Rattle.clif_resolution.specs.declared.condition.Condition.{Condition}
use Rattle.clif_resolution.specs.declared.answers.CallError.{CallError}
use Rattle.clif_resolution.specs.declared.answers.CallError.TheVariants as error

-- values that were found are all there
pub all-found : (f : Body) (answers : List Answer) (names : List Name) (values : List ℕ) → map (value_of f answers) names ≡ map Some values → all_values f answers names ≡ true
all-found f answers [] values found = refl
all-found f answers (name ∷ names) [] found = let no_way : ⊥ = cc in absurd no_way
all-found f answers (name ∷ names) (value ∷ values) found =
    let here : value_of f answers name ≡ Some value = cc in
    let rest : map (value_of f answers) names ≡ map Some values = cc in
    rw here (all-found f answers names values rest)

-- what names pass is what they lead to
pub passed-values : (f : Body) (answers : List Answer) (names : List Name) (args : List BlockArg) → map (argument_of f answers) names ≡ map Some args
    → (values : List ℕ) × (map (value_of f answers) names ≡ map Some values) × (args ≡ map arg.Value values)
passed-values f answers [] [] found = ([], refl, refl)
passed-values f answers [] (a ∷ args) found = let no_way : ⊥ = cc in absurd no_way
passed-values f answers (name ∷ names) [] found = let no_way : ⊥ = cc in absurd no_way
passed-values f answers (name ∷ names) (a ∷ args) found =
    let here : argument_of f answers name ≡ Some a = cc in
    let rest : map (argument_of f answers) names ≡ map Some args = cc in
    let value = map-some arg.Value (value_of f answers name) a here in
    let others = passed-values f answers names args rest in
    let first : value_of f answers name ≡ Some value.0 = value.1 in
    let same : arg.Value value.0 ≡ a = value.2 in
    let more : map (value_of f answers) names ≡ map Some others.0 = others.1 in
    let same_args : args ≡ map arg.Value others.0 = others.2 in
    (value.0 ∷ others.0, cc, cc)

-- an edge that was found may be made
pub found-leads : {R : Type 0} (b : FunctionBuilder R) (answers : List Answer) (edge : Edge) (call : BlockCall) → IsFound b answers edge call → may_lead b answers edge ≡ true
found-leads b answers edge call found =
    let passed = passed-values b.func.now answers edge.args.items call.args found.passed in
    and_from (is_target b (block_of answers edge.block)) (all_values b.func.now answers edge.args.items)
    (ap (is_target b) found.target ∙ found.unsealed) (all-found b.func.now answers edge.args.items passed.0 passed.1)

-- what was found is there
passed-found : (f : Body) (answers : List Answer) (args : List Passed) (made : List BlockArg) → map (passed_in f answers) args ≡ map Some made → all_passed f answers args ≡ true
passed-found f answers [] made found = refl
passed-found f answers (one ∷ args) [] found = let no_way : ⊥ = cc in absurd no_way
passed-found f answers (one ∷ args) (a ∷ made) found =
    let here : passed_in f answers one ≡ Some a = cc in
    let rest : map (passed_in f answers) args ≡ map Some made = cc in
    and_from (is_some (passed_in f answers one)) (all_passed f answers args) (ap is_some here) (passed-found f answers args made rest)

pub edge-there : {R : Type 0} (b : FunctionBuilder R) (answers : List Answer) (edge : TableEdge) (call : BlockCall) → IsEdge b answers edge call → has_edge b answers edge ≡ true
edge-there b answers edge call is =
    and_from (is_some (block_of answers edge.block)) (all_passed b.func.now answers edge.args.items) (ap is_some is.target)
    (passed-found b.func.now answers edge.args.items call.args is.passed)

pub found-misuse : {X : Type 0} {Found : X → Type 0} {there : Bool} {why : Condition} → there ≡ false → Finds Found there (Err (error.Misuse why))
found-misuse none = record { found = tt; may = tt; misuse = λ other same. none; never_refused = λ other same. cc; never_full = λ same. cc }

pub found-one : {X : Type 0} {Found : X → Type 0} {there : Bool} (x : X) → Found x → there ≡ true → Finds Found there (Ok x)
found-one {X = X} x found may = record { found = found; may = may; misuse = λ why same. absurd (no-error (error.Misuse why) same); never_refused = λ why. no-error (error.Refused why); never_full = no-error error.Full }
  where
    no-error : (e : CallError) → ◌≡◌ {A = Result X CallError} (Ok x) (Err e) → ⊥
    no-error e same = cc

-- what is called was found
pub call-found : (f : Body) (answers : List Answer) (called : OutsideCall) (function : Name) (args : Vec Name Global) (number : ℕ) (values : List ℕ) → called ≡ outside.Call function args
    → Some number ≡ entry_of Functions answers function → (shape.Call number values ≡ outside_shape (numbers_at f answers) called values) × (has_called answers called ≡ true)
call-found f answers called function args number values is entry =
    subst (λ (c : OutsideCall). (shape.Call number values ≡ outside_shape (numbers_at f answers) c values) × (has_called answers c ≡ true)) (sym is)
    (ap (λ (found : Option ℕ). shape.Call (unwrap_or found (count_in Functions f.tables)) values) entry, ap is_some (sym entry))

pub address-found : (f : Body) (answers : List Answer) (called : OutsideCall) (signature callee : Name) (args : Vec Name Global) (number : ℕ) (values : List ℕ) → called ≡ outside.CallIndirect signature callee args
    → Some number ≡ entry_of Signatures answers signature → (shape.CallIndirect number values ≡ outside_shape (numbers_at f answers) called values) × (has_called answers called ≡ true)
address-found f answers called signature callee args number values is entry =
    subst (λ (c : OutsideCall). (shape.CallIndirect number values ≡ outside_shape (numbers_at f answers) c values) × (has_called answers c ≡ true)) (sym is)
    (ap (λ (found : Option ℕ). shape.CallIndirect (unwrap_or found (count_in Signatures f.tables)) values) entry, ap is_some (sym entry))
