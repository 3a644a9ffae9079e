-- Laws of the numbers and the rows of results.
use Rattle.std.proofs.Common.{◌≡◌, ℕ, zero, suc, ◌+◌, ◌<◌, List, [], ◌∷◌, ◌++◌, length, map, take, get_or, ap, arith, sym, ◌∙◌, append_assoc}
use Rattle.std.specs.List.{range_with_len}
use Rattle.std.proofs.lemmas.List.{take_more, take-map, get_or-map, map-append}
use Rattle.std.proofs.lemmas.Grind.{common_steps}
use Rattle.clif_types.specs.declared.types.«Type».{«Type»}
use Rattle.clif_opcodes.specs.declared.kinds.ResultKind.{ResultKind}
use Rattle.clif_opcodes.specs.Kinds.{result_type}
use Rattle.clif_types.specs.declared.extfunc.AbiParam.{AbiParam}
use Rattle.clif_tables.specs.Callees.{types_of}
use Rattle.clif_nodes.specs.declared.nodes.ValueOrigin.TheVariants.{Result}
use Rattle.clif_nodes.specs.declared.nodes.ValueNode.{ValueNode}
use Rattle.clif_nodes.specs.Nodes.{result_nodes}

pub range_with_len_more : (first count : ℕ) → range_with_len first (count + 1) ≡ range_with_len first count ++ (first + count) ∷ []
range_with_len_more first zero = let same : first ≡ first + 0 = omega arith in ap (λ n. n ∷ []) same
range_with_len_more first (suc count) =
    let same : (first + 1) + count ≡ first + suc count = omega arith in
    let more : suc count + 1 ≡ suc (count + 1) = omega arith in
    ap (λ n. range_with_len first n) more
    ∙ ap (λ xs. first ∷ xs) (range_with_len_more (first + 1) count ∙ ap (λ n. range_with_len (first + 1) count ++ n ∷ []) same)

-- the node of one result
abbrev pub result_node : ℕ → ℕ → «Type» → ValueNode
result_node i k ty = record { ty = ty; origin = Result i k }

-- results in two parts
result_nodes-both : (i k : ℕ) (types more : List «Type») → result_nodes i k (types ++ more) ≡ result_nodes i k types ++ result_nodes i (k + length types) more
result_nodes-both i k [] more = let same : k ≡ k + 0 = omega arith in ap (λ n. result_nodes i n more) same
result_nodes-both i k (ty ∷ types) more =
    let same : (k + 1) + length types ≡ k + suc (length types) = omega arith in
    ap (λ nodes. result_node i k ty ∷ nodes) (result_nodes-both i (k + 1) types more ∙ ap (λ n. result_nodes i (k + 1) types ++ result_nodes i n more) same)

result_nodes-append : (i k : ℕ) (types : List «Type») (ty : «Type») → result_nodes i k (types ++ ty ∷ []) ≡ result_nodes i k types ++ result_node i (k + length types) ty ∷ []
result_nodes-append i k types ty = result_nodes-both i k types (ty ∷ [])

result_nodes_more : (i : ℕ) (types : List «Type») (k : ℕ) (d : «Type») → k < length types
    → result_nodes i 0 (take (k + 1) types) ≡ result_nodes i 0 (take k types) ++ result_node i k (get_or types k d) ∷ []
result_nodes_more i types k d inside =
    let same : 0 + length (take k types) ≡ k = grind (arith, common_steps) in
    ap (result_nodes i 0) (take_more types k d inside) ∙ result_nodes-append i 0 (take k types) (get_or types k d)
    ∙ ap (λ n. result_nodes i 0 (take k types) ++ result_node i n (get_or types k d) ∷ []) same

-- the second part was put behind the first one
pub both_pushed : (before values after : List ValueNode) (i first : ℕ) (types more : List «Type») → first ≡ length types → values ≡ before ++ result_nodes i 0 types
    → after ≡ values ++ result_nodes i first more → after ≡ before ++ result_nodes i 0 (types ++ more)
both_pushed before values after i first types more at so_far pushed =
    let there : first ≡ 0 + length types = omega (arith, at) in
    pushed ∙ ap (λ nodes. nodes ++ result_nodes i first more) so_far
    ∙ append_assoc before (result_nodes i 0 types) (result_nodes i first more)
    ∙ ap (λ n. before ++ (result_nodes i 0 types ++ result_nodes i n more)) there
    ∙ ap (λ nodes. before ++ nodes) (sym (result_nodes-both i 0 types more))

-- one more result was put behind the others
result_nodes_pushed : (before values after : List ValueNode) (i k : ℕ) (types : List «Type») (d : «Type») → k < length types
    → values ≡ before ++ result_nodes i 0 (take k types) → after ≡ values ++ result_node i k (get_or types k d) ∷ []
    → after ≡ before ++ result_nodes i 0 (take (k + 1) types)
result_nodes_pushed before values after i k types d inside so_far pushed =
    pushed ∙ ap (λ nodes. nodes ++ result_node i k (get_or types k d) ∷ []) so_far
    ∙ append_assoc before (result_nodes i 0 (take k types)) (result_node i k (get_or types k d) ∷ [])
    ∙ ap (λ nodes. before ++ nodes) (sym (result_nodes_more i types k d inside))

-- the same, by the kinds of the results
pub result_kinds_pushed : (before values after : List ValueNode) (i k : ℕ) (ty of_kind : «Type») (kinds : List ResultKind) (d : ResultKind) → k < length kinds
    → values ≡ before ++ result_nodes i 0 (map (result_type ty) (take k kinds)) → of_kind ≡ result_type ty (get_or kinds k d) → after ≡ values ++ result_node i k of_kind ∷ []
    → after ≡ before ++ result_nodes i 0 (map (result_type ty) (take (k + 1) kinds))
result_kinds_pushed before values after i k ty of_kind kinds d inside so_far is pushed =
    let types : List «Type» = map (result_type ty) kinds in
    let there : k < length types = grind (arith, common_steps, inside) in
    result_nodes_pushed before values after i k types ty there
    (so_far ∙ ap (λ (ts : List «Type»). before ++ result_nodes i 0 ts) (sym (take-map (result_type ty) k kinds)))
    (pushed ∙ ap (λ (t : «Type»). values ++ result_node i k t ∷ []) (is ∙ sym (get_or-map (result_type ty) kinds k d ty inside)))
    ∙ ap (λ (ts : List «Type»). before ++ result_nodes i 0 ts) (take-map (result_type ty) (k + 1) kinds)

-- the same of what a call gives, whose first result has this place
pub given_pushed : (before values after : List ValueNode) (i first k : ℕ) (given : List AbiParam) (d : AbiParam) → k < length given
    → values ≡ before ++ result_nodes i first (types_of (take k given)) → after ≡ values ++ result_node i (first + k) (get_or given k d).value_type ∷ []
    → after ≡ before ++ result_nodes i first (types_of (take (k + 1) given))
given_pushed before values after i first k given d inside so_far pushed =
    let param_type : AbiParam → «Type» = λ (param : AbiParam). param.value_type in
    let last : «Type» = (get_or given k d).value_type in
    let count : length (types_of (take k given)) ≡ k = grind (arith, common_steps, inside) in
    pushed ∙ ap (λ nodes. nodes ++ result_node i (first + k) last ∷ []) so_far
    ∙ append_assoc before (result_nodes i first (types_of (take k given))) (result_node i (first + k) last ∷ [])
    ∙ ap (λ n. before ++ (result_nodes i first (types_of (take k given)) ++ result_node i (first + n) last ∷ [])) (sym count)
    ∙ ap (λ nodes. before ++ nodes)
    (sym (ap (λ params. result_nodes i first (types_of params)) (take_more given k d inside)
    ∙ ap (result_nodes i first) (map-append param_type (take k given) (get_or given k d ∷ []))
    ∙ result_nodes-append i first (types_of (take k given)) last))
