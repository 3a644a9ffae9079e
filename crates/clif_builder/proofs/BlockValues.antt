-- What is a parameter of a block, or was one, stays so as values come behind and parameters become other names.
use Rattle.std.proofs.Common.{◌≡◌, ◌<◌, ℕ, zero, suc, List, [], ◌∷◌, ◌++◌, length, refl, sym, subst, arith, inl, inr}
use Rattle.std.specs.Prelude.{slice_get, slice_index_or, slice_set, Option, Some, None, Bool, true, false, if◌then◌else◌}
use Rattle.std.proofs.lemmas.Option.{slice_get_within}
use Rattle.clif_types.specs.declared.types.«Type».{«Type»}
use Rattle.clif_instructions.specs.Members.{stands_in}
use Rattle.clif_nodes.specs.declared.nodes.ValueNode.{ValueNode}
use Rattle.clif_nodes.specs.declared.nodes.ValueOrigin.TheVariants.{Alias}
use Rattle.clif_nodes.specs.Nodes.{no_value}
use Rattle.clif_ir.specs.Body.{Body, resolved, value_at}
use Rattle.clif_ir.specs.Changes.{inserted_in, with_alias, with_branch_argument, with_layout, with_param}
use Rattle.clif_ssa.specs.Constructs.{OnlyConstructs, StaysOrNames}
use Rattle.clif_ssa.specs.LookUp.{with_arguments}
use Rattle.clif_ssa.specs.Ssa.{with_zero, zero_value, zeroed}
use Rattle.clif_builder.specs.Recorded.{IsOfBlock, IsParameterAmong, IsParameterOrName}

abbrev pub StayParameters : List ValueNode → List ValueNode → Type 0
StayParameters before now = (v : ℕ) → IsParameterAmong before v → IsParameterAmong now v

-- it exists
pub among_within : (values : List ValueNode) (v : ℕ) → IsParameterAmong values v → v < length values
among_within values v is = by (slice_get values v) refl is
  where
    by : (o : Option ValueNode) → slice_get values v ≡ o → IsParameterOrName o → v < length values
    by None at is = absurd is
    by (Some node) at is = slice_get_within values v node at

-- where more follow
pub parameters_front : (xs ys : List ValueNode) → StayParameters xs (xs ++ ys)
parameters_front [] ys zero is = absurd is
parameters_front [] ys (suc v) is = absurd is
parameters_front (x ∷ xs) ys zero is = is
parameters_front (x ∷ xs) ys (suc v) is = parameters_front xs ys v is

-- the last is one
pub parameter_last : (xs : List ValueNode) (node : ValueNode) → IsOfBlock node.origin → IsParameterAmong (xs ++ node ∷ []) (length xs)
parameter_last [] node is = is
parameter_last (x ∷ xs) node is = parameter_last xs node is

-- where one becomes another name
pub parameters_set : (xs : List ValueNode) (i : ℕ) (d : ValueNode) (original : ℕ) → StayParameters xs (slice_set xs i (record (slice_index_or xs i d) { origin = Alias original }))
parameters_set [] i d original zero is = absurd is
parameters_set [] i d original (suc v) is = absurd is
parameters_set (x ∷ xs) zero d original zero is = tt
parameters_set (x ∷ xs) zero d original (suc v) is = is
parameters_set (x ∷ xs) (suc i) d original zero is = is
parameters_set (x ∷ xs) (suc i) d original (suc v) is = parameters_set xs i d original v is

-- THE CONSTRUCTION ------------------------------------------------------------------------------------------------------

-- the node of a value
node_among : (values : List ValueNode) (v : ℕ) → v < length values → IsOfBlock (slice_index_or values v no_value).origin → IsParameterAmong values v
node_among [] v below is = absurd (omega (arith, below))
node_among (x ∷ xs) zero below is = is
node_among (x ∷ xs) (suc v) below is = node_among xs v (omega (arith, below)) is

among_node : (values : List ValueNode) (v : ℕ) → IsParameterAmong values v → IsOfBlock (slice_index_or values v no_value).origin
among_node [] zero is = absurd is
among_node [] (suc v) is = absurd is
among_node (x ∷ xs) zero is = is
among_node (x ∷ xs) (suc v) is = among_node xs v is

pub parameters_constructed : (f g : Body) → OnlyConstructs f g → StayParameters f.values g.values
parameters_constructed f g constructs v is =
    let below : v < length f.values = among_within f.values v is in
    node_among g.values v (omega (arith, below, constructs.values)) (by (constructs.same_values v below))
  where
    by : StaysOrNames (value_at f v) (value_at g v) → IsOfBlock (value_at g v).origin
    by (inl same) = subst (λ (n : ValueNode). IsOfBlock n.origin) (sym same) (among_node f.values v is)
    by (inr named) = subst (λ (n : ValueNode). IsOfBlock n.origin) (sym named.3) tt

pub parameters_inserted : (f : Body) (b : ℕ) → StayParameters f.values (inserted_in f b).values
parameters_inserted f b v is = by (stands_in b f.layout)
  where
    by : (test : Bool) → IsParameterAmong (if test then f else with_layout f b).values v
    by true = is
    by false = is

pub same_inserted : (f : Body) (b : ℕ) → (inserted_in f b).values ≡ f.values
same_inserted f b = by (stands_in b f.layout)
  where
    by : (test : Bool) → (if test then f else with_layout f b).values ≡ f.values
    by true = refl
    by false = refl

pub parameters_param : (f : Body) (b : ℕ) (ty : «Type») → StayParameters f.values (with_param f b ty).values
parameters_param f b ty = parameters_front f.values _

pub parameters_alias : (f : Body) (v original : ℕ) → StayParameters f.values (with_alias f v original).values
parameters_alias f v original = parameters_set f.values v no_value (resolved f original)

pub parameters_zeroed : (f : Body) (b v : ℕ) → StayParameters f.values (zeroed f b v).values
parameters_zeroed f b v w is =
    parameters_alias (with_zero f b (value_at f v).ty) v (zero_value f (value_at f v).ty) w
    (parameters_front (inserted_in f b).values _ w (parameters_inserted f b w is))

pub parameters_arguments : (branches values : List ℕ) (f : Body) (b : ℕ) → StayParameters f.values (with_arguments f b branches values).values
parameters_arguments [] values f b v is = is
parameters_arguments (i ∷ branches) [] f b v is = is
parameters_arguments (i ∷ branches) (value ∷ values) f b v is = parameters_arguments branches values (with_branch_argument f i b value) b v is
