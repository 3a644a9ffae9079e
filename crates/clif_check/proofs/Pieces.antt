-- The parts of an instruction, as pairs of what is found and what is asked.
use Rattle.std.proofs.Common.{◌≡◌, ℕ, zero, suc, ◌<◌, List, [], ◌∷◌, length, take, drop, sym, ap, ◌∙◌, arith}
use Rattle.std.specs.Prelude.{Option, Some, All, slice_index}
use Rattle.std.proofs.lemmas.Simd.{map-map}
use Rattle.clif_types.specs.declared.types.«Type».{«Type»}
use Rattle.clif_types.specs.declared.extfunc.AbiParam.{AbiParam}
use Rattle.clif_opcodes.specs.declared.kinds.OperandKind.{OperandKind}
use Rattle.clif_opcodes.specs.declared.kinds.OtherOperands.{OtherOperands}
use Rattle.clif_opcodes.specs.declared.kinds.OtherOperands.TheVariants as others
use Rattle.clif_opcodes.specs.Kinds.{IsOfKind}
use Rattle.clif_opcodes.specs.Typing.{AreOfKinds}
use Rattle.clif_instructions.specs.declared.block_call.BlockArg.{BlockArg}
use Rattle.clif_instructions.specs.declared.block_call.BlockArg.TheVariants as arg
use Rattle.clif_instructions.specs.declared.block_call.BlockCall.{BlockCall}
use Rattle.clif_ir.specs.Body.{Body, block_at}
use Rattle.clif_tables.specs.Callees.{types_of}
use Rattle.clif_meaning.specs.Typing.{argument_type}
use Rattle.clif_meaning.specs.View.{argument_of}
use Rattle.clif_check.specs.WellTyped.{AllMatch, HasType, Matches, fixed_operands, type_at, types_at}
use Rattle.clif_check.proofs.Pairs.{Pairwise, same_images, images_same}

-- OPERANDS --------------------------------------------------------------------------------------------------------------

abbrev pub OfKind : Body → «Type» → ℕ → OperandKind → Type 0
OfKind f ty value kind = IsOfKind ty kind (type_at f value)

pub kinds_pairs : (f : Body) (ty : «Type») (kinds : List OperandKind) (values : List ℕ) → AreOfKinds ty kinds (types_at f values) → Pairwise (OfKind f ty) values kinds
kinds_pairs f ty [] [] all = tt
kinds_pairs f ty [] (value ∷ values) all = all
kinds_pairs f ty (kind ∷ kinds) [] all = all
kinds_pairs f ty (kind ∷ kinds) (value ∷ values) all = (all.0, kinds_pairs f ty kinds values all.1)

pub pairs_kinds : (f : Body) (ty : «Type») (kinds : List OperandKind) (values : List ℕ) → Pairwise (OfKind f ty) values kinds → AreOfKinds ty kinds (types_at f values)
pairs_kinds f ty [] [] pairs = tt
pairs_kinds f ty [] (value ∷ values) pairs = pairs
pairs_kinds f ty (kind ∷ kinds) [] pairs = pairs
pairs_kinds f ty (kind ∷ kinds) (value ∷ values) pairs = (pairs.0, pairs_kinds f ty kinds values pairs.1)

-- a part of a list of numbers that exist
pub exist_taken : (n count : ℕ) (xs : List ℕ) → ((k : ℕ) → k < length xs → slice_index xs k < n) → (k : ℕ) → k < length (take count xs) → slice_index (take count xs) k < n
exist_taken n zero xs exist k inside = absurd (omega (arith, inside))
exist_taken n (suc count) [] exist k inside = absurd (omega (arith, inside))
exist_taken n (suc count) (x ∷ xs) exist zero inside = exist 0 (omega arith)
exist_taken n (suc count) (x ∷ xs) exist (suc k) inside =
    exist_taken n count xs (λ j here. exist (suc j) (omega (arith, here))) k (omega (arith, inside))

pub exist_dropped : (n count : ℕ) (xs : List ℕ) → ((k : ℕ) → k < length xs → slice_index xs k < n) → (k : ℕ) → k < length (drop count xs) → slice_index (drop count xs) k < n
exist_dropped n zero xs exist k inside = exist k inside
exist_dropped n (suc count) [] exist k inside = absurd (omega (arith, inside))
exist_dropped n (suc count) (x ∷ xs) exist k inside = exist_dropped n count xs (λ j here. exist (suc j) (omega (arith, here))) k inside

pub exist_fixed : (n : ℕ) (which : OtherOperands) (count : ℕ) (xs : List ℕ) → ((k : ℕ) → k < length xs → slice_index xs k < n) → (k : ℕ)
    → k < length (fixed_operands which count xs) → slice_index (fixed_operands which count xs) k < n
exist_fixed n others.Nothing count xs exist = exist
exist_fixed n others.Arguments count xs exist = exist_taken n count xs exist
exist_fixed n others.Returned count xs exist = exist_taken n count xs exist

-- RETURNED VALUES -------------------------------------------------------------------------------------------------------

abbrev pub HasTypeOf : Body → ℕ → AbiParam → Type 0
HasTypeOf f value param = type_at f value ≡ param.value_type

pub types_pairs : (f : Body) (values : List ℕ) (params : List AbiParam) → types_at f values ≡ types_of params → Pairwise (HasTypeOf f) values params
types_pairs f values params same = images_same (type_at f) (λ param. param.value_type) values params same

pub pairs_types : (f : Body) (values : List ℕ) (params : List AbiParam) → Pairwise (HasTypeOf f) values params → types_at f values ≡ types_of params
pairs_types f values params pairs = same_images (type_at f) (λ param. param.value_type) values params pairs

-- EDGES -----------------------------------------------------------------------------------------------------------------

-- a value that an edge passes
pub has_type : (f : Body) (results payload : List «Type») (value : ℕ) (ty : «Type») → type_at f value ≡ ty → HasType f results payload (arg.Value value) ty
has_type f results payload value ty same = ap (λ (own : «Type»). Some own) same

pub type_had : (f : Body) (results payload : List «Type») (value : ℕ) (ty : «Type») → HasType f results payload (arg.Value value) ty → type_at f value ≡ ty
type_had f results payload value ty has = cc

abbrev pub Passes : Body → (results payload : List «Type») → BlockArg → ℕ → Type 0
Passes f results payload argument param = HasType f results payload argument (type_at f param)

-- what an argument of an edge has for a type
abbrev passed : Body → (results payload : List «Type») → BlockArg → Option «Type»
passed f results payload argument = argument_type (type_at f) results payload (argument_of argument)

abbrev expected : Body → ℕ → Option «Type»
expected f param = Some (type_at f param)

pub edge_pairs : (f : Body) (results payload : List «Type») (edge : BlockCall) → Matches f results payload edge → Pairwise (Passes f results payload) edge.args (block_at f edge.block).params
edge_pairs f results payload edge matches =
    images_same (passed f results payload) (expected f) edge.args (block_at f edge.block).params
    (sym (map-map (argument_type (type_at f) results payload) argument_of edge.args) ∙ matches ∙ map-map (λ ty. Some ty) (type_at f) (block_at f edge.block).params)

pub pairs_edge : (f : Body) (results payload : List «Type») (edge : BlockCall) → Pairwise (Passes f results payload) edge.args (block_at f edge.block).params → Matches f results payload edge
pairs_edge f results payload edge pairs =
    map-map (argument_type (type_at f) results payload) argument_of edge.args ∙ same_images (passed f results payload) (expected f) edge.args (block_at f edge.block).params pairs
    ∙ sym (map-map (λ ty. Some ty) (type_at f) (block_at f edge.block).params)

-- several edges
pub edges_match : (f : Body) (results payload : List «Type») (edges : List BlockCall) → All (Matches f results payload) edges → AllMatch f results payload edges
edges_match f results payload [] all = tt
edges_match f results payload (edge ∷ edges) all =
    (all 0 edge (omega arith), edges_match f results payload edges (λ k d inside. all (suc k) d (omega (arith, inside))))

pub edge_at : (f : Body) (results payload : List «Type») (edges : List BlockCall) → AllMatch f results payload edges → All (Matches f results payload) edges
edge_at f results payload [] all k d inside = absurd (omega (arith, inside))
edge_at f results payload (edge ∷ edges) all zero d inside = all.0
edge_at f results payload (edge ∷ edges) all (suc k) d inside = edge_at f results payload edges all.1 k d (omega (arith, inside))
