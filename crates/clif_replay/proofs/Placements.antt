-- The tests before a call that marks a block or places it are the condition of its request in the ledger.
use Rattle.std.proofs.Common.{◌≡◌, ℕ, suc, arith, get_or, List, [], ◌∷◌, refl, ap, sym, ◌∙◌}
use Rattle.std.specs.Prelude.{map, Some, None, is_some, Bool, true, false, not, ◌&&◌, ◌||◌, ◌==◌}
use Rattle.std.specs.List.{list_any}
use Rattle.std.proofs.lemmas.Bool.{and_parts, eq-eqb, eqb-true, false_from_ne_true, false≢true}
use Rattle.clif_types.specs.Signature.{SignatureShape}
use Rattle.std.proofs.lemmas.List.Folds.{list_any_at}
use Rattle.clif_instructions.specs.Members.{Stands, stands_in}
use Rattle.clif_meaning.specs.Name as meaning
use Rattle.clif_meaning.specs.Request.{AnsweredCall, InsertBlockAfter, SetColdBlock}
use Rattle.clif_meaning.specs.Ledger.{Ledger, has_block, is_inserted}
use Rattle.clif_meaning.specs.Acceptance.{allows}
use Rattle.clif_builder.specs.declared.builder.FunctionBuilder.{FunctionBuilder}
use Rattle.clif_builder.specs.Ledger.{block_name, ledger_of}
use Rattle.clif_calls.specs.declared.call.Name.{Name}
use Rattle.clif_resolution.specs.declared.answers.Answer.{Answer}
use Rattle.clif_replay.specs.Requests.{Naming}
use Rattle.clif_replay.specs.Ready.{IsReady, can_insert}
use Rattle.clif_resolution.specs.Answers.{block_of}
use Rattle.clif_replay.proofs.ReadyLaws.{block-found, block-missing, read}

-- a number stands in a list where the test says so
pub Stands-from_test : (x : ℕ) (xs : List ℕ) → stands_in x xs ≡ true → Stands x xs
Stands-from_test x [] test = let no_way : ⊥ = cc in absurd no_way
Stands-from_test x (y ∷ xs) test = by (Stands-from_test x xs) (y == x) refl test
  where
    by : (stands_in x xs ≡ true → Stands x xs) → (here : Bool) → (y == x) ≡ here → (here || stands_in x xs) ≡ true → Stands x (y ∷ xs)
    by later true is test = (0, omega arith, eqb-true y x is)
    by later false is test = let there : Stands x xs = later test in (suc there.0, omega (arith, there.1), there.2)

pub test-from_Stands : (x : ℕ) (xs : List ℕ) → Stands x xs → stands_in x xs ≡ true
test-from_Stands x xs here = list_any_at (λ y. y == x) xs here.0 0 here.1 (eq-eqb (get_or xs here.0 0) x here.2)

-- names that are the same by the test are equal
same_name-true : (a b : meaning.Name) → meaning.same_name a b ≡ true → a ≡ b
same_name-true a b same =
    let parts = and_parts (a.place == b.place) (a.index == b.index) same in
    ap (λ (n : ℕ). meaning.answer_of n a.index) (eqb-true a.place b.place parts.0) ∙ ap (λ (n : ℕ). meaning.answer_of b.place n) (eqb-true a.index b.index parts.1)

-- a name in the layout is that of a block
named-in : (ledger : Ledger) (name : meaning.Name) (names : List meaning.Name) (numbers : List ℕ) → map Some names ≡ map (block_name ledger) numbers
    → list_any (meaning.same_name name) names ≡ true → (k : ℕ) × (block_name ledger k ≡ Some name)
named-in ledger name [] numbers same there = let no_way : ⊥ = cc in absurd no_way
named-in ledger name (x ∷ names) [] same there = let no_way : ⊥ = cc in absurd no_way
named-in ledger name (x ∷ names) (k ∷ numbers) same there =
    let here : block_name ledger k ≡ Some x = cc in
    let rest : map Some names ≡ map (block_name ledger) numbers = cc in
    by here (λ later. named-in ledger name names numbers rest later) (meaning.same_name name x) refl there
  where
    by : block_name ledger k ≡ Some x → (list_any (meaning.same_name name) names ≡ true → (j : ℕ) × (block_name ledger j ≡ Some name))
        → (test : Bool) → meaning.same_name name x ≡ test → list_any (meaning.same_name name) (x ∷ names) ≡ true → (j : ℕ) × (block_name ledger j ≡ Some name)
    by here later true is there = (k, here ∙ ap Some (sym (same_name-true name x is)))
    by here later false is there = later cc

-- a name that leads to no block isn't in the layout
inserted-missing : {R : Type 0} {naming : Naming} {declared : SignatureShape} (calls : List AnsweredCall) (b : FunctionBuilder R) (answers : List Answer) → IsReady naming declared calls b answers
    → (name : Name) → block_of answers name ≡ None → is_inserted (ledger_of calls) (naming name) ≡ false
inserted-missing {naming} calls b answers ready name missing =
    false_from_ne_true (is_inserted (ledger_of calls) (naming name)) (λ there.
    let block = named-in (ledger_of calls) (naming name) (ledger_of calls).layout b.func.now.layout ready.stands.ledger.layout there in
    let state = (read calls b answers ready).state block.0 (naming name) block.1 in
    false≢true (sym (block-missing calls b answers ready name missing) ∙ ap is_some state.found))

-- one that leads to a block is where the block is
inserted-found : {R : Type 0} {naming : Naming} {declared : SignatureShape} (calls : List AnsweredCall) (b : FunctionBuilder R) (answers : List Answer) → IsReady naming declared calls b answers
    → (name : Name) (block : ℕ) → block_of answers name ≡ Some block → is_inserted (ledger_of calls) (naming name) ≡ stands_in block b.func.now.layout
inserted-found {naming} calls b answers ready name block found =
    let r = read calls b answers ready in
    r.inserted block (naming name) (r.named (naming name) block (block-found calls b answers ready name block found))

-- `insert_block_after`
pub insert-none : {R : Type 0} {naming : Naming} {declared : SignatureShape} (calls : List AnsweredCall) (b : FunctionBuilder R) (answers : List Answer) → IsReady naming declared calls b answers
    → (name behind : Name) → block_of answers name ≡ None → allows (ledger_of calls) (InsertBlockAfter (naming name) (naming behind)) ≡ false
insert-none calls b answers ready name behind missing = let none = block-missing calls b answers ready name missing in rw none refl

pub insert-nowhere : {R : Type 0} {naming : Naming} {declared : SignatureShape} (calls : List AnsweredCall) (b : FunctionBuilder R) (answers : List Answer) → IsReady naming declared calls b answers
    → (name behind : Name) → block_of answers behind ≡ None → allows (ledger_of calls) (InsertBlockAfter (naming name) (naming behind)) ≡ false
insert-nowhere {naming} calls b answers ready name behind missing =
    by (has_block (ledger_of calls) (naming name)) (is_inserted (ledger_of calls) (naming name)) (is_inserted (ledger_of calls) (naming behind))
    (inserted-missing calls b answers ready behind missing)
  where
    by : (there inside after : Bool) → after ≡ false → (there && not inside && after) ≡ false
    by true true after is = refl
    by true false after is = is
    by false inside after is = refl

pub insert-some : {R : Type 0} {naming : Naming} {declared : SignatureShape} (calls : List AnsweredCall) (b : FunctionBuilder R) (answers : List Answer) → IsReady naming declared calls b answers
    → (name behind : Name) (block after : ℕ) → block_of answers name ≡ Some block → block_of answers behind ≡ Some after
    → allows (ledger_of calls) (InsertBlockAfter (naming name) (naming behind)) ≡ can_insert b block after
insert-some {naming} calls b answers ready name behind block after found found_behind =
    by (has_block (ledger_of calls) (naming name)) (is_inserted (ledger_of calls) (naming name)) (is_inserted (ledger_of calls) (naming behind))
    (stands_in block b.func.now.layout) (stands_in after b.func.now.layout) (block-found calls b answers ready name block found).is_block
    (inserted-found calls b answers ready name block found) (inserted-found calls b answers ready behind after found_behind)
  where
    by : (there inside behind_there s t : Bool) → there ≡ true → inside ≡ s → behind_there ≡ t → (there && not inside && behind_there) ≡ (not s && t)
    by there inside behind_there s t first second third = rw (first, second, third) refl

-- `set_cold_block`
pub cold-none : {R : Type 0} {naming : Naming} {declared : SignatureShape} (calls : List AnsweredCall) (b : FunctionBuilder R) (answers : List Answer) → IsReady naming declared calls b answers
    → (name : Name) → block_of answers name ≡ None → allows (ledger_of calls) (SetColdBlock (naming name)) ≡ false
cold-none calls b answers ready name missing = block-missing calls b answers ready name missing

pub cold-some : {R : Type 0} {naming : Naming} {declared : SignatureShape} (calls : List AnsweredCall) (b : FunctionBuilder R) (answers : List Answer) → IsReady naming declared calls b answers
    → (name : Name) (block : ℕ) → block_of answers name ≡ Some block → allows (ledger_of calls) (SetColdBlock (naming name)) ≡ true
cold-some calls b answers ready name block found = (block-found calls b answers ready name block found).is_block
