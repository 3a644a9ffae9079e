-- What the calls answer that append parameters by a signature: the last parameters of their block.
use Rattle.std.proofs.Common.{◌≡◌, ◌<◌, ◌≤◌, ◌+◌, ◌-◌, ℕ, suc, List, [], ◌∷◌, ◌++◌, length, refl, sym, ◌∙◌, ap, subst, arith, append_assoc, length-append, get_or-set_same}
use Rattle.std.specs.Prelude.{map, slice_get, Option}
use Rattle.std.proofs.lemmas.List.{append-nil, length-map}
use Rattle.std.proofs.lemmas.Grind.{common_steps}
use Rattle.clif_types.specs.declared.types.«Type».{«Type»}
use Rattle.clif_types.specs.declared.extfunc.AbiParam.{AbiParam}
use Rattle.clif_types.specs.Signature.{SignatureShape}
use Rattle.clif_ir.specs.Body.{Body, block_at}
use Rattle.clif_nodes.specs.Nodes.{BlockNode, empty_block}
use Rattle.clif_ir.specs.Changes.{with_param}
use Rattle.clif_tables.specs.Callees.{types_of}
use Rattle.clif_meaning.specs.Request.{AnsweredCall, Request}
use Rattle.clif_meaning.specs.Ledger.{AValue, Answered, answers_to}
use Rattle.clif_simulation.specs.Carries.{numbers_from, with_params}
use Rattle.clif_builder.specs.declared.builder.FunctionBuilder.{FunctionBuilder}
use Rattle.clif_builder.specs.Ledger.{ledger_of}
use Rattle.clif_builder.specs.StandsFor.{StandsFor}
use Rattle.clif_resolution.specs.declared.answers.Answer.{Answer}
use Rattle.clif_replay.specs.Ready.{AnswerIs, IsReady, IsReadyAfter, KeepsTables, last_params, values_from}
use Rattle.clif_replay.proofs.Lasting.{LeavesTables}
use Rattle.clif_replay.proofs.ReadyLaws.{ready-more}
use Rattle.clif_replay.specs.Requests.{Naming}

-- the new parameter is the last one of its block
one-more : (f : Body) (b : ℕ) (ty : «Type») → b < length f.blocks → (block_at (with_param f b ty) b).params ≡ (block_at f b).params ++ length f.values ∷ []
one-more f b ty there =
    ap (λ (node : BlockNode). node.params)
    (get_or-set_same f.blocks b (record (block_at f b) { params = (block_at f b).params ++ length f.values ∷ [] }) empty_block there)

-- the numbers of a block's parameters, and behind them those of the new ones
params-there : (f : Body) (b : ℕ) (types : List «Type») → b < length f.blocks
    → (block_at (with_params f b types) b).params ≡ (block_at f b).params ++ numbers_from (length f.values) types
params-there f b [] there = sym (append-nil (block_at f b).params)
params-there f b (ty ∷ types) there =
    let g : Body = with_param f b ty in
    let still : b < length g.blocks = grind (arith, common_steps) in
    let more : length g.values ≡ suc (length f.values) = length-append f.values _ ∙ next (length f.values) in
    params-there g b types still
    ∙ ap (λ (params : List ℕ). params ++ numbers_from (length g.values) types) (one-more f b ty there)
    ∙ ap (λ (n : ℕ). ((block_at f b).params ++ length f.values ∷ []) ++ numbers_from n types) more
    ∙ append_assoc (block_at f b).params (length f.values ∷ []) (numbers_from (suc (length f.values)) types)
  where
    next : (n : ℕ) → n + 1 ≡ suc n
    next n = omega arith

count-numbers : (n : ℕ) (types : List «Type») → length (numbers_from n types) ≡ length types
count-numbers n [] = refl
count-numbers n (ty ∷ types) = ap suc (count-numbers (suc n) types)

-- there are as many
pub enough-params : (f g : Body) (b : ℕ) (params : List AbiParam) (count : ℕ) → b < length f.blocks → g ≡ with_params f b (types_of params) → count ≡ length params
    → count ≤ length (block_at g b).params
enough-params f g b params count there function same =
    let types : List «Type» = types_of params in
    let all : length (block_at g b).params ≡ length ((block_at f b).params ++ numbers_from (length f.values) types) =
    ap (λ (h : Body). length (block_at h b).params) function ∙ ap (λ (xs : List ℕ). length xs) (params-there f b types there) in
    let both = length-append (block_at f b).params (numbers_from (length f.values) types) in
    let many = count-numbers (length f.values) types in
    let typed : length types ≡ length params = length-map params (λ (p : AbiParam). p.value_type) in
    omega (arith, all, both, many, typed, same)

-- the last numbers of a list
get-behind : (xs ys : List ℕ) → slice_get (xs ++ ys) (length xs) ≡ slice_get ys 0
get-behind [] ys = refl
get-behind (x ∷ xs) ys = get-behind xs ys

last-are : (params : List ℕ) (n : ℕ) (types : List «Type») (count : ℕ) → count ≡ length types
    → last_params (params ++ numbers_from n types) count ≡ values_from (slice_get (numbers_from n types) 0) count
last-are params n types count same =
    let both = length-append params (numbers_from n types) in
    let many = count-numbers n types in
    let place : length (params ++ numbers_from n types) - count ≡ length params = omega (arith, both, many, same) in
    ap (λ (k : ℕ). values_from (slice_get (params ++ numbers_from n types) k) count) place
    ∙ ap (λ (o : Option ℕ). values_from o count) (get-behind params (numbers_from n types))

-- they are what is answered
are-answers : (n : ℕ) (types : List «Type») (count : ℕ) → count ≡ length types
    → AnswerIs (values_from (slice_get (numbers_from n types) 0) count) (map AValue types) (numbers_from n types)
are-answers n [] count same = (refl, refl)
are-answers n (ty ∷ types) count same = (ty ∷ types, refl, refl, same)

-- one more call was answered, which appended parameters
pub params-ready : {R : Type 0} {naming : Naming} {declared : SignatureShape} (calls : List AnsweredCall) (old new : FunctionBuilder R) (answers : List Answer) (request : Request) (b : ℕ) (params : List AbiParam) (count : ℕ) (a : Answer)
    → IsReady naming declared calls old answers → LeavesTables request → KeepsTables old new
    → b < length old.func.now.blocks → new.func.now ≡ with_params old.func.now b (types_of params)
    → StandsFor declared (calls ++ record { request = request; numbers = numbers_from (length old.func.now.values) (types_of params) } ∷ []) new
    → answers_to (ledger_of calls) request ≡ map AValue (types_of params) → count ≡ length params → a ≡ last_params (block_at new.func.now b).params count
    → IsReadyAfter naming declared calls request new answers a
params-ready calls old new answers request b params count a ready leaves tables there function stands given many is =
    (numbers, ready-more calls (record { request = request; numbers = numbers }) old new answers a ready leaves tables stands answer)
  where
    types : List «Type»
    types = types_of params

    numbers : List ℕ
    numbers = numbers_from (length old.func.now.values) types

    same : count ≡ length types
    same = many ∙ sym (length-map params (λ (p : AbiParam). p.value_type))

    last : a ≡ values_from (slice_get numbers 0) count
    last =
        is ∙ ap (λ (g : Body). last_params (block_at g b).params count) function
        ∙ ap (λ (xs : List ℕ). last_params xs count) (params-there old.func.now b types there)
        ∙ last-are (block_at old.func.now b).params (length old.func.now.values) types count same

    answer : AnswerIs a (answers_to (ledger_of calls) request) numbers
    answer =
        subst (λ (x : Answer). AnswerIs x (answers_to (ledger_of calls) request) numbers) (sym last)
        (subst (λ (xs : List Answered). AnswerIs (values_from (slice_get numbers 0) count) xs numbers) (sym given)
        (are-answers (length old.func.now.values) types count same))
