-- The names of an instruction's results, and the values that answer them.
use Rattle.std.proofs.Common.{◌≡◌, ◌≢◌, ℕ, zero, suc, ◌+◌, ◌<◌, List, [], ◌∷◌, ◌++◌, length, map, get_or, refl, sym, ◌∙◌, ap, ap₂, arith, Some}
use Rattle.std.specs.Prelude.{slice_get, IsTrue}
use Rattle.std.specs.List.{AllByRecursion, range_with_len}
use Rattle.clif_types.specs.declared.types.«Type».{«Type»}
use Rattle.clif_nodes.specs.declared.nodes.ValueNode.{ValueNode}
use Rattle.clif_nodes.specs.Nodes.{no_value, result_nodes}
use Rattle.clif_paths.specs.Blocks.{Blocks, state_of}
use Rattle.clif_ssa.specs.SoundLaws.{AreNewNames}
use Rattle.clif_meaning.specs.Name.{Name, answer_of}
use Rattle.clif_meaning.specs.Request.{AnsweredCall}
use Rattle.clif_meaning.specs.Ledger.{AValue, value_answer_type}
use Rattle.clif_meaning.specs.Program.{answers_from}
use Rattle.clif_simulation.specs.Tables.{code, answered, IsProgramOf}
use Rattle.clif_simulation.proofs.Codes.{differ as codes_differ}
use Rattle.clif_simulation.proofs.ItemCalls.{number_of_answer}
use Rattle.clif_simulation.proofs.Values.{false_is, is_value_at, next_is_new}

-- NAMES ---------------------------------------------------------------------------------------------------------------

-- the answers to a call from one on are those of the following numbers
pub answer_is : (place index : ℕ) (types : List «Type») (k : ℕ) (y : Name) → slice_get (answers_from place index types) k ≡ Some y
    → (k < length types) × (y ≡ answer_of place (index + k))
answer_is place index [] k y at = let none : ⊥ = cc in absurd none
answer_is place index (ty ∷ types) zero y at = let back : index ≡ index + 0 = omega arith in (omega arith, sym (same (answer_of place index) y at) ∙ ap (answer_of place) back)
  where
    same : (a b : Name) → Some a ≡ Some b → a ≡ b
    same a b is = cc
answer_is place index (ty ∷ types) (suc k) y at =
    let rest = answer_is place (suc index) types k y at in
    let back : suc index + k ≡ index + suc k = omega arith in
    (omega (arith, rest.0), rest.1 ∙ ap (answer_of place) back)

pub answer_there : (place index : ℕ) (types : List «Type») (k : ℕ) → k < length types → slice_get (answers_from place index types) k ≡ Some (answer_of place (index + k))
answer_there place index [] k below = absurd (omega (arith, below))
answer_there place index (ty ∷ types) zero below = let back : index ≡ index + 0 = omega arith in ap (λ (j : ℕ). Some (answer_of place j)) back
answer_there place index (ty ∷ types) (suc k) below =
    let back : suc index + k ≡ index + suc k = omega arith in
    answer_there place (suc index) types k (omega (arith, below)) ∙ ap (λ (j : ℕ). Some (answer_of place j)) back

pub answers_earlier : (bound place index : ℕ) (types : List «Type») → place < bound → AllByRecursion (λ (name : Name). name.place < bound) (answers_from place index types)
answers_earlier bound place index [] below = tt
answers_earlier bound place index (ty ∷ types) below = (below, answers_earlier bound place (suc index) types below)

-- as many names as types
pub answers_count : (place index : ℕ) (types : List «Type») → length (map code (answers_from place index types)) ≡ length types
answers_count place index [] = refl
answers_count place index (ty ∷ types) = ap suc (answers_count place (suc index) types)

-- those of the next call are new, and differ
pub answers_are_new : (calls : List AnsweredCall) (T : Blocks) (index : ℕ) (types : List «Type») → IsProgramOf calls T
    → AreNewNames (state_of T) (map code (answers_from (length calls) index types))
answers_are_new calls T index [] was = tt
answers_are_new calls T index (ty ∷ types) was =
    (next_is_new calls T index was, others (suc index) types (omega arith), answers_are_new calls T (suc index) types was)
  where
    others : (later : ℕ) (types : List «Type») → index < later → AllByRecursion (λ m. m ≢ code (answer_of (length calls) index)) (map code (answers_from (length calls) later types))
    others later [] more = tt
    others later (t ∷ types) more = (
      λ same.
          let one : later ≡ index = ap (λ (n : Name). n.index) (codes_differ (answer_of (length calls) later) (answer_of (length calls) index) same) in
          absurd (omega (arith, one, more)),
      others (suc later) types (omega (arith, more)),
    )

-- ANSWERS -------------------------------------------------------------------------------------------------------------

-- the numbers that follow one another from the first result's on answer the names
pub results_answered : (calls : List AnsweredCall) (call : AnsweredCall) (first index : ℕ) (types : List «Type»)
    → ((k : ℕ) → k < length types → slice_get call.numbers (index + k) ≡ Some (first + k))
    → range_with_len first (length types) ≡ map (answered (calls ++ call ∷ [])) (answers_from (length calls) index types)
results_answered calls call first index [] numbered = refl
results_answered calls call first index (ty ∷ types) numbered =
    let here : index + 0 ≡ index = omega arith in
    let first_here : first + 0 ≡ first = omega arith in
    ap₂ (λ (v : ℕ) (vs : List ℕ). v ∷ vs)
    (number_of_answer calls call index first (ap (slice_get call.numbers) (sym here) ∙ numbered 0 (omega arith) ∙ ap (λ (v : ℕ). Some v) first_here))
    (results_answered calls call (first + 1) (suc index) types
    (λ k below.
    let next : suc index + k ≡ index + suc k = omega arith in
    let more : first + suc k ≡ (first + 1) + k = omega arith in
    ap (slice_get call.numbers) next ∙ numbered (suc k) (omega (arith, below)) ∙ ap (λ (v : ℕ). Some v) more))

-- the type of a value among them
pub typed_at : (types : List «Type») (k : ℕ) (a : «Type») → value_answer_type (slice_get (map AValue types) k) ≡ Some a → slice_get types k ≡ Some a
typed_at [] k a is = let none : ⊥ = cc in absurd none
typed_at (ty ∷ types) zero a is = is
typed_at (ty ∷ types) (suc k) a is = typed_at types k a is

pub value_within : (types : List «Type») (k : ℕ) → IsTrue (is_value_at (map AValue types) k) → k < length types
value_within [] k is = absurd (false_is is)
value_within (ty ∷ types) zero is = omega arith
value_within (ty ∷ types) (suc k) is = omega (arith, value_within types k is)

nodes_type : (i j : ℕ) (types : List «Type») (k : ℕ) (a : «Type») → slice_get types k ≡ Some a → (get_or (result_nodes i j types) k no_value).ty ≡ a
nodes_type i j [] k a at = let none : ⊥ = cc in absurd none
nodes_type i j (ty ∷ types) zero a at = same ty a at
  where
    same : (s t : «Type») → Some s ≡ Some t → s ≡ t
    same s t is = cc
nodes_type i j (ty ∷ types) (suc k) a at = nodes_type i (j + 1) types k a at

behind_values : (values nodes : List ValueNode) (k : ℕ) → get_or (values ++ nodes) (length values + k) no_value ≡ get_or nodes k no_value
behind_values [] nodes k = let same : 0 + k ≡ k = omega arith in ap (λ (j : ℕ). get_or nodes j no_value) same
behind_values (v ∷ values) nodes k =
    let same : suc (length values) + k ≡ suc (length values + k) = omega arith in
    ap (λ (j : ℕ). get_or ((v ∷ values) ++ nodes) j no_value) same ∙ behind_values values nodes k

-- the type of a result's value
pub result_typed : (values : List ValueNode) (i : ℕ) (types : List «Type») (k : ℕ) (a : «Type») → slice_get types k ≡ Some a
    → (get_or (values ++ result_nodes i 0 types) (length values + k) no_value).ty ≡ a
result_typed values i types k a at = ap (λ (node : ValueNode). node.ty) (behind_values values (result_nodes i 0 types) k) ∙ nodes_type i 0 types k a at
