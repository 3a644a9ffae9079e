-- What an agreement with the ledger keeps as a function grows and calls follow.
use Rattle.std.proofs.Common.{◌≡◌, ◌+◌, ◌<◌, ℕ, zero, suc, List, [], ◌∷◌, ◌++◌, length, refl, sym, ◌∙◌, ap, subst, arith, ◌⊎◌, inl, inr, length-append, length-set}
use Rattle.std.specs.Prelude.{fold, map, slice_get, slice_index_or, slice_set, Option, Some, None, option_map, option_and_then, Bool, true, false, if◌then◌else◌, ◌==◌, ◌||◌}
use Rattle.std.specs.List.{range_with_len}
use Rattle.std.specs.Option.{option_to_list}
use Rattle.std.proofs.lemmas.Option.{get_or_from_slice_get, slice_get-get_or, slice_get_within, same_Some, none-some}
use Rattle.std.proofs.lemmas.Bool.{eq-eqb, or_left, or_right, or_cases, eqb-true}
use Rattle.std.proofs.lemmas.List.{map_push}
use Rattle.clif_types.specs.declared.types.«Type».{«Type»}
use Rattle.clif_instructions.specs.declared.insert_at.InsertAt.{InsertAt}
use Rattle.clif_instructions.specs.declared.instructions.InstructionData.{InstructionData}
use Rattle.clif_nodes.specs.declared.nodes.ValueNode.{ValueNode}
use Rattle.clif_nodes.specs.declared.nodes.ValueOrigin.{ValueOrigin}
use Rattle.clif_nodes.specs.declared.nodes.ValueOrigin.TheVariants.{Alias}
use Rattle.clif_nodes.specs.declared.nodes.InstNode.{InstNode}
use Rattle.clif_ir.specs.Body.{Body, block_at, inst_at, value_at, resolved}
use Rattle.clif_nodes.specs.Nodes.{BlockNode, empty_block, no_inst, no_value, result_nodes}
use Rattle.clif_ir.specs.Changes.{inserted_in, with_block, with_layout, with_param, with_inst, with_alias}
use Rattle.clif_ir.specs.Reading.{param_home, home_of_node}
use Rattle.clif_instructions.specs.Members.{stands_in}
use Rattle.clif_meaning.specs.Name.{Name, answer_of}
use Rattle.clif_meaning.specs.Request.{AnsweredCall, script_of, number_of}
use Rattle.clif_meaning.specs.Ledger.{Answered, ABlock, AVariable, AValue, AnInstruction, AnEntry, AnEdge, AJumpTable, AnExceptionTable, Ledger, ledger_with, empty_ledger, answer_at, value_answer_type, type_of, has_value}
use Rattle.clif_ssa.specs.Zeros.{ZeroStep, zero_steps, with_pooled, zero_size}
use Rattle.clif_ssa.proofs.Pooled.{zeros_pooled}
use Rattle.clif_records.specs.declared.tables.Pending.{Pending}
use Rattle.clif_ssa.specs.Constructs.{MayPassMore, OnlyConstructs}
use Rattle.clif_ssa.specs.LookUp.{branch_block}
use Rattle.clif_ssa.specs.Ssa.{step_values, with_steps, with_zero, zero_value, zeroed, zeroed_in, completed, completing_blocks}
use Rattle.clif_simulation.proofs.Places.{mapped_count, mapped_from, range_at, range_count}
use Rattle.clif_builder.specs.Ledger.{AnswerAgrees, HaveTypes, ResultsFollow, AnswersAgree, LedgerAgrees, block_name, value_type, ledger_of, tables_of_calls}
use Rattle.clif_builder.specs.Context.{ContextState}
use Rattle.clif_builder.specs.Recorded.{IsParameterAmong}
use Rattle.clif_builder.proofs.BlockValues.{StayParameters, parameters_constructed, parameters_front, parameters_set}
use Rattle.clif_builder.proofs.LedgerLists.{fold-push, get-front, get-push, map-some, some-is, and-then-some, if-yes, numbered-more}

-- the ledger with one more call
pub ledger-more : (calls : List AnsweredCall) (call : AnsweredCall) → ledger_of (calls ++ call ∷ []) ≡ ledger_with (ledger_of calls) call.request
ledger-more calls call =
    ap (fold ledger_with empty_ledger) (map_push (λ (c : AnsweredCall). c.request) calls call)
    ∙ fold-push ledger_with empty_ledger (script_of calls) call.request

-- an instruction is there with the results that it had, and stands where it stood
pub record KeepsInst (g : Body) (i : ℕ) (node : InstNode) : Type 0 where
  pub kept : InstNode
  pub there : slice_get g.insts i ≡ Some kept
  pub results : kept.results ≡ node.results
  pub block : kept.block ≡ node.block

keeps-node : (g : Body) (i : ℕ) (node : InstNode) → slice_get g.insts i ≡ Some node → KeepsInst g i node
keeps-node g i node is = record { kept = node; there = is; results = refl; block = refl }

-- a function has the values and the instructions of another one
pub record Keeps (f g : Body) : Type 0 where
  pub values : (v : ℕ) (ty : «Type») → value_type f v ≡ Some ty → value_type g v ≡ Some ty
  pub insts : (i : ℕ) (node : InstNode) → slice_get f.insts i ≡ Some node → KeepsInst g i node

-- it has as many blocks, too, and the same ones are cold
pub record Extends (f g : Body) : Type 0 where
  pub parameters : StayParameters f.values g.values
  pub values : (v : ℕ) (ty : «Type») → value_type f v ≡ Some ty → value_type g v ≡ Some ty
  pub insts : (i : ℕ) (node : InstNode) → slice_get f.insts i ≡ Some node → KeepsInst g i node
  pub block_count : length g.blocks ≡ length f.blocks
  pub cold : (b : ℕ) → (block_at g b).is_cold ≡ (block_at f b).is_cold
  pub tables : tables_of_calls g.tables ≡ tables_of_calls f.tables

-- where one block is written anew, and keeps its mark
pub same_cold : (nodes : List BlockNode) (b x : ℕ) (node : BlockNode) → node.is_cold ≡ (slice_index_or nodes b empty_block).is_cold
    → (slice_index_or (slice_set nodes b node) x empty_block).is_cold ≡ (slice_index_or nodes x empty_block).is_cold
same_cold [] b x node same = refl
same_cold (n ∷ nodes) zero zero node same = same
same_cold (n ∷ nodes) zero (suc x) node same = refl
same_cold (n ∷ nodes) (suc b) zero node same = refl
same_cold (n ∷ nodes) (suc b) (suc x) node same = same_cold nodes b x node same

pub keeps-of : (f g : Body) → Extends f g → Keeps f g
keeps-of f g extends = record { values = extends.values; insts = extends.insts }

pub keeps-itself : (f : Body) → Keeps f f
keeps-itself f = record { values = λ v ty is. is; insts = λ i node is. keeps-node f i node is }

-- a new block changes neither
pub keeps-block : (f : Body) → Keeps f (with_block f)
keeps-block f = record { values = λ v ty is. is; insts = λ i node is. keeps-node (with_block f) i node is }

-- a branch that exists stands where it stood
pub branch-kept : (f g : Body) → Keeps f g → (i : ℕ) → i < length f.insts → branch_block g i ≡ branch_block f i
branch-kept f g keeps i below =
    let node = keeps.insts i (inst_at f i) (slice_get-get_or f.insts i no_inst below) in
    ap (λ (n : InstNode). n.block) (get_or_from_slice_get g.insts i node.kept no_inst node.there) ∙ node.block

-- what the construction makes
pub extends-constructs : (f g : Body) → OnlyConstructs f g → Extends f g
extends-constructs f g constructs =
    record {
      parameters = parameters_constructed f g constructs;
      values = λ v ty is.
          let node = map-some (λ (n : ValueNode). n.ty) (slice_get f.values v) ty is in
          let below : v < length f.values = slice_get_within f.values v node.0 node.1 in
          let there : slice_get g.values v ≡ Some (value_at g v) = slice_get-get_or g.values v no_value (omega (arith, below, constructs.values)) in
          let was : value_at f v ≡ node.0 = get_or_from_slice_get f.values v node.0 no_value node.1 in
          let same : (value_at g v).ty ≡ (value_at f v).ty =
          elim (constructs.same_values v below) [
            | inl stays ↦ ap (λ (n : ValueNode). n.ty) stays
            | inr names ↦ ap (λ (n : ValueNode). n.ty) names.3
          ] in
          ap (option_map (λ (n : ValueNode). n.ty)) there ∙ ap Some (same ∙ ap (λ (n : ValueNode). n.ty) was ∙ node.2);
      insts = λ i node is.
          let below : i < length f.insts = slice_get_within f.insts i node is in
          let was : inst_at f i ≡ node = get_or_from_slice_get f.insts i node no_inst is in
          let more : MayPassMore (inst_at f i) (inst_at g i) = constructs.same_insts i below in
          record {
            kept = inst_at g i;
            there = slice_get-get_or g.insts i no_inst (omega (arith, below, constructs.insts));
            results = ap (λ (n : InstNode). n.results) more.1 ∙ ap (λ (n : InstNode). n.results) was;
            block = ap (λ (n : InstNode). n.block) more.1 ∙ ap (λ (n : InstNode). n.block) was;
          };
      block_count = constructs.block_count;
      cold = λ b. ap (λ (n : BlockNode). n.is_cold) (constructs.blocks b).node;
      tables = ap tables_of_calls constructs.tables.same;
    }

-- it has also its layout, and no other parameters
pub record Continues (f g : Body) : Type 0 where
  pub extends : Extends f g
  pub layout : g.layout ≡ f.layout
  pub homes : (v b : ℕ) → param_home g v ≡ Some b → param_home f v ≡ Some b

pub Extends-same : (f g : Body) → g ≡ f → Extends f g
Extends-same f g same =
    record {
      parameters = λ v is. subst (λ (h : Body). IsParameterAmong h.values v) (sym same) is;
      values = λ v ty is. ap (λ (h : Body). value_type h v) same ∙ is;
      insts = λ i node is. keeps-node g i node (ap (λ (h : Body). slice_get h.insts i) same ∙ is);
      block_count = ap (λ (h : Body). length h.blocks) same;
      cold = λ b. ap (λ (h : Body). (block_at h b).is_cold) same;
      tables = ap (λ (h : Body). tables_of_calls h.tables) same;
    }

pub Extends-then : (f g h : Body) → Extends f g → Extends g h → Extends f h
Extends-then f g h first next =
    record {
      parameters = λ v is. next.parameters v (first.parameters v is);
      values = λ v ty is. next.values v ty (first.values v ty is);
      insts = λ i node is.
          let one = first.insts i node is in
          let two = next.insts i one.kept one.there in
          record { kept = two.kept; there = two.there; results = two.results ∙ one.results; block = two.block ∙ one.block };
      block_count = next.block_count ∙ first.block_count;
      cold = λ b. next.cold b ∙ first.cold b;
      tables = next.tables ∙ first.tables;
    }

pub Continues-same : (f : Body) → Continues f f
Continues-same f = record { extends = Extends-same f f refl; layout = refl; homes = λ v b is. is }

pub Continues-then : (f g h : Body) → Continues f g → Continues g h → Continues f h
Continues-then f g h first next =
    record {
      extends = Extends-then f g h first.extends next.extends;
      layout = next.layout ∙ first.layout;
      homes = λ v b is. first.homes v b (next.homes v b is);
    }

-- types of values where more follow
type-front : (xs ys : List ValueNode) (v : ℕ) (ty : «Type») → option_map (λ (n : ValueNode). n.ty) (slice_get xs v) ≡ Some ty
    → option_map (λ (n : ValueNode). n.ty) (slice_get (xs ++ ys) v) ≡ Some ty
type-front xs ys v ty is =
    let node = map-some (λ (n : ValueNode). n.ty) (slice_get xs v) ty is in
    ap (option_map (λ (n : ValueNode). n.ty)) (get-front xs ys v node.0 node.1) ∙ ap Some node.2

-- a new origin leaves the types
type-set : (xs : List ValueNode) (i : ℕ) (d : ValueNode) (o : ValueOrigin) (v : ℕ)
    → option_map (λ (n : ValueNode). n.ty) (slice_get (slice_set xs i (record (slice_index_or xs i d) { origin = o })) v) ≡ option_map (λ (n : ValueNode). n.ty) (slice_get xs v)
type-set [] i d o v = refl
type-set (x ∷ xs) zero d o zero = refl
type-set (x ∷ xs) zero d o (suc v) = refl
type-set (x ∷ xs) (suc i) d o zero = refl
type-set (x ∷ xs) (suc i) d o (suc v) = type-set xs i d o v

-- a new name is no parameter
home-set : (xs : List ValueNode) (i : ℕ) (d : ValueNode) (original v b : ℕ)
    → home_of_node (slice_get (slice_set xs i (record (slice_index_or xs i d) { origin = Alias original })) v) ≡ Some b → home_of_node (slice_get xs v) ≡ Some b
home-set [] i d original v b is = is
home-set (x ∷ xs) zero d original zero b is = let no_way : ⊥ = cc in absurd no_way
home-set (x ∷ xs) zero d original (suc v) b is = is
home-set (x ∷ xs) (suc i) d original zero b is = is
home-set (x ∷ xs) (suc i) d original (suc v) b is = home-set xs i d original v b is

-- results are no parameters
home-results : (i k : ℕ) (types : List «Type») (j : ℕ) → home_of_node (slice_get (result_nodes i k types) j) ≡ None
home-results i k [] j = refl
home-results i k (ty ∷ types) zero = refl
home-results i k (ty ∷ types) (suc j) = home-results i (k + 1) types j

home-append : (xs ys : List ValueNode) (v b : ℕ) → ((j : ℕ) → home_of_node (slice_get ys j) ≡ None)
    → home_of_node (slice_get (xs ++ ys) v) ≡ Some b → home_of_node (slice_get xs v) ≡ Some b
home-append [] ys v b none is = sym (none v) ∙ is
home-append (x ∷ xs) ys zero b none is = is
home-append (x ∷ xs) ys (suc v) b none is = home-append xs ys v b none is

home-push : (xs : List ValueNode) (y : ValueNode) (v b : ℕ) → home_of_node (slice_get (xs ++ y ∷ []) v) ≡ Some b
    → (home_of_node (slice_get xs v) ≡ Some b) ⊎ (home_of_node (Some y) ≡ Some b)
home-push [] y zero b is = inr is
home-push [] y (suc v) b is = absurd (none-some b is)
home-push (x ∷ xs) y zero b is = inl is
home-push (x ∷ xs) y (suc v) b is = home-push xs y v b is

-- a block that enters the layout
pub Extends-inserted : (f : Body) (b : ℕ) → Extends f (inserted_in f b)
Extends-inserted f b = by (stands_in b f.layout)
  where
    by : (test : Bool) → Extends f (if test then f else with_layout f b)
    by true = Extends-same f f refl
    by false = record { parameters = λ v is. is; values = λ v ty is. is; insts = λ i node is. keeps-node (with_layout f b) i node is; block_count = refl; cold = λ x. refl; tables = refl }

pub home-inserted : (f : Body) (b v h : ℕ) → param_home (inserted_in f b) v ≡ Some h → param_home f v ≡ Some h
home-inserted f b v h = by (stands_in b f.layout)
  where
    by : (test : Bool) → param_home (if test then f else with_layout f b) v ≡ Some h → param_home f v ≡ Some h
    by true is = is
    by false is = is

-- the test on a list with one more
pub stands-push : (b y : ℕ) (xs : List ℕ) → stands_in b (xs ++ y ∷ []) ≡ (stands_in b xs || (y == b))
stands-push b y [] = by (y == b)
  where
    by : (test : Bool) → (test || false) ≡ (false || test)
    by true = refl
    by false = refl
stands-push b y (x ∷ xs) = ap (λ (t : Bool). (x == b) || t) (stands-push b y xs) ∙ by (x == b)
  where
    by : (test : Bool) → (test || (stands_in b xs || (y == b))) ≡ ((test || stands_in b xs) || (y == b))
    by true = refl
    by false = refl

-- then it is there, and so is each one that was
pub stands-inserted : (f : Body) (b : ℕ) → stands_in b (inserted_in f b).layout ≡ true
stands-inserted f b = by (stands_in b f.layout) refl
  where
    by : (test : Bool) → stands_in b f.layout ≡ test → stands_in b (if test then f else with_layout f b).layout ≡ true
    by true is = is
    by false is = stands-push b b f.layout ∙ or_right (stands_in b f.layout) (b == b) (eq-eqb b b refl)

pub stands-still : (f : Body) (b c : ℕ) → stands_in c f.layout ≡ true → stands_in c (inserted_in f b).layout ≡ true
stands-still f b c there = by (stands_in b f.layout)
  where
    by : (test : Bool) → stands_in c (if test then f else with_layout f b).layout ≡ true
    by true = there
    by false = stands-push c b f.layout ∙ or_left (stands_in c f.layout) (b == c) there

pub inserted-twice : (f : Body) (b : ℕ) → stands_in b f.layout ≡ true → inserted_in f b ≡ f
inserted-twice f b there = if-yes (stands_in b f.layout) f (with_layout f b) there

-- a new parameter
pub Extends-param : (f : Body) (b : ℕ) (ty : «Type») → Extends f (with_param f b ty)
Extends-param f b ty =
    record {
      parameters = parameters_front f.values _;
      values = λ v t is. type-front f.values _ v t is;
      insts = λ i node is. keeps-node (with_param f b ty) i node is;
      block_count = length-set f.blocks b _;
      cold = λ x. same_cold f.blocks b x _ refl;
      tables = refl;
    }

pub home-param : (f : Body) (b : ℕ) (ty : «Type») (v h : ℕ) → param_home (with_param f b ty) v ≡ Some h → (param_home f v ≡ Some h) ⊎ (b ≡ h)
home-param f b ty v h is = elim (home-push f.values _ v h is) [ inl old ↦ inl old | inr new ↦ inr (same_Some b h new) ]

-- a new instruction
pub Continues-inst : (f : Body) (b : ℕ) (at : InsertAt) (shape : InstructionData) (types : List «Type») (loc : ℕ) → Continues f (with_inst f b at shape types loc)
Continues-inst f b at shape types loc =
    record {
      extends = record {
        parameters = parameters_front f.values _;
        values = λ v t is. type-front f.values _ v t is;
        insts = λ i node is. keeps-node (with_inst f b at shape types loc) i node (get-front f.insts _ i node is);
        block_count = length-set f.blocks b _;
        cold = λ x. same_cold f.blocks b x _ refl;
        tables = refl;
      };
      layout = refl;
      homes = λ v h is. home-append f.values (result_nodes (length f.insts) 0 types) v h (home-results (length f.insts) 0 types) is;
    }

home-steps : (i : ℕ) (steps : List ZeroStep) (j : ℕ) → home_of_node (slice_get (step_values i steps) j) ≡ None
home-steps i [] j = refl
home-steps i (step ∷ steps) zero = refl
home-steps i (step ∷ steps) (suc j) = home-steps (suc i) steps j

-- the steps of a zero
Continues-steps : (f : Body) (b : ℕ) (steps : List ZeroStep) → Continues f (with_steps f b steps)
Continues-steps f b steps =
    record {
      extends = record {
        parameters = parameters_front f.values _;
        values = λ v t is. type-front f.values _ v t is;
        insts = λ i node is. keeps-node (with_steps f b steps) i node (get-front f.insts _ i node is);
        block_count = length-set f.blocks b _;
        cold = λ x. same_cold f.blocks b x _ refl;
        tables = refl;
      };
      layout = refl;
      homes = λ v h is. home-append f.values (step_values (length f.insts) steps) v h (home-steps (length f.insts) steps) is;
    }

-- a new name
pub Continues-alias : (f : Body) (v original : ℕ) → Continues f (with_alias f v original)
Continues-alias f v original =
    record {
      extends = record {
        parameters = parameters_set f.values v _ (resolved f original);
        values = λ w ty is. type-set f.values v _ (Alias (resolved f original)) w ∙ is;
        insts = λ i node is. keeps-node (with_alias f v original) i node is;
        block_count = length-set f.blocks _ _;
        cold = λ x. same_cold f.blocks _ x _ refl;
        tables = refl;
      };
      layout = refl;
      homes = λ w h is. home-set f.values v _ (resolved f original) w h is;
    }

-- the constant of a zero
Continues-pooled : (f : Body) (ty : «Type») → Continues f (with_pooled f ty)
Continues-pooled f ty =
    record {
      extends = record {
        parameters = λ v is. is;
        values = λ v t is. is;
        insts = λ i node is. keeps-node (with_pooled f ty) i node is;
        block_count = refl;
        cold = λ x. refl;
        tables = ap tables_of_calls (zeros_pooled f.tables (zero_size ty)).same;
      };
      layout = refl;
      homes = λ v h is. is;
    }

-- a zero in a block of the layout
pub Continues-zero : (f : Body) (b : ℕ) (ty : «Type») → stands_in b f.layout ≡ true → Continues f (with_zero f b ty)
Continues-zero f b ty there =
    subst (λ (g : Body). Continues g (with_zero f b ty)) (inserted-twice f b there)
    (Continues-then (inserted_in f b) (with_pooled (inserted_in f b) ty) (with_zero f b ty) (Continues-pooled (inserted_in f b) ty)
    (Continues-steps (with_pooled (inserted_in f b) ty) b (zero_steps ty)))

pub Continues-zeroed : (f : Body) (b v : ℕ) → stands_in b f.layout ≡ true → Continues f (zeroed f b v)
Continues-zeroed f b v there =
    Continues-then f (with_zero f b (value_at f v).ty) (zeroed f b v) (Continues-zero f b (value_at f v).ty there)
    (Continues-alias (with_zero f b (value_at f v).ty) v (zero_value f (value_at f v).ty))

pub inserted-values : (f : Body) (b : ℕ) → length (inserted_in f b).values ≡ length f.values
inserted-values f b = by (stands_in b f.layout)
  where
    by : (there : Bool) → length (if there then f else with_layout f b).values ≡ length f.values
    by true = refl
    by false = refl

pub inserted-insts : (f : Body) (b : ℕ) → length (inserted_in f b).insts ≡ length f.insts
inserted-insts f b = by (stands_in b f.layout)
  where
    by : (there : Bool) → length (if there then f else with_layout f b).insts ≡ length f.insts
    by true = refl
    by false = refl

-- parameters were completed, whose blocks are in the layout
pub Continues-completed : (f : Body) (pending : List Pending) → ((v b : ℕ) → param_home f v ≡ Some b → stands_in b f.layout ≡ true) → Continues f (completed f pending)
Continues-completed f [] there = Continues-same f
Continues-completed f (p ∷ pending) there =
    let g : Body = zeroed_in (param_home f p.param) f p.param in
    let first : Continues f g = by (param_home f p.param) refl in
    Continues-then f g (completed g pending) first
    (Continues-completed g pending (λ v b is. ap (stands_in b) first.layout ∙ there v b (first.homes v b is)))
  where
    by : (home : Option ℕ) → param_home f p.param ≡ home → Continues f (zeroed_in home f p.param)
    by None is = Continues-same f
    by (Some b) is = Continues-zeroed f b p.param (there p.param b is)

-- only blocks of parameters get a zero on the way
pub completing-homes : (P : ℕ → Type 0) (f : Body) (pending : List Pending)
    → ((v b : ℕ) → param_home f v ≡ Some b → (stands_in b f.layout ≡ true) × P b)
    → (b : ℕ) → stands_in b (completing_blocks f pending) ≡ true → P b
completing-homes P f [] there b stands = let no_way : ⊥ = cc in absurd no_way
completing-homes P f (p ∷ pending) there b stands =
    let g : Body = zeroed_in (param_home f p.param) f p.param in
    let first : Continues f g = by (param_home f p.param) refl in
    let later = completing-homes P g pending (λ v h is. (ap (stands_in h) first.layout ∙ (there v h (first.homes v h is)).0, (there v h (first.homes v h is)).1)) b in
    at (param_home f p.param) refl later stands
  where
    by : (home : Option ℕ) → param_home f p.param ≡ home → Continues f (zeroed_in home f p.param)
    by None is = Continues-same f
    by (Some h) is = Continues-zeroed f h p.param (there p.param h is).0

    at : (home : Option ℕ) → param_home f p.param ≡ home
        → (stands_in b (completing_blocks (zeroed_in (param_home f p.param) f p.param) pending) ≡ true → P b)
        → stands_in b (option_to_list home ++ completing_blocks (zeroed_in (param_home f p.param) f p.param) pending) ≡ true → P b
    at None is later stands = later stands
    at (Some h) is later stands =
        elim (or_cases (h == b) (stands_in b (completing_blocks (zeroed_in (param_home f p.param) f p.param) pending)) stands) [
          | inl here ↦ subst P (eqb-true h b here) (there p.param h is).1
          | inr next ↦ later next
        ]

-- values keep their types
pub types-kept : (f g : Body) → Keeps f g → (values : List ℕ) (types : List «Type») → HaveTypes f values types → HaveTypes g values types
types-kept f g keeps values types = numbered-more (value_type f) (value_type g) values types keeps.values

-- answers stay
answer-kept : (old new : Ledger) (f g : Body) → ((k : ℕ) (name : Name) → block_name old k ≡ Some name → block_name new k ≡ Some name) → Keeps f g
    → (name : Name) (answer : Answered) (number : ℕ) → AnswerAgrees old f name answer number → AnswerAgrees new g name answer number
answer-kept old new f g names extends name ABlock number is = names number name is
answer-kept old new f g names extends name (AVariable variable) number is = is
answer-kept old new f g names extends name (AValue ty) number is = extends.values number ty is
answer-kept old new f g names extends name (AnEntry entry place) number is = is
answer-kept old new f g names extends name (AnEdge edge) number is = is
answer-kept old new f g names extends name (AJumpTable place) number is = is
answer-kept old new f g names extends name (AnExceptionTable place) number is = is
answer-kept old new f g names extends name AnInstruction number is =
    let node = extends.insts number is.0 is.1 in
    (node.kept, node.there)

results-kept : (f g : Body) → Keeps f g → (answers : List Answered) (numbers : List ℕ) → ResultsFollow f answers numbers → ResultsFollow g answers numbers
results-kept f g extends [] numbers follow = tt
results-kept f g extends (ABlock ∷ answers) numbers follow = tt
results-kept f g extends (AVariable variable ∷ answers) numbers follow = tt
results-kept f g extends (AValue ty ∷ answers) numbers follow = tt
results-kept f g extends (AnEntry entry place ∷ answers) numbers follow = tt
results-kept f g extends (AnEdge edge ∷ answers) numbers follow = tt
results-kept f g extends (AJumpTable place ∷ answers) numbers follow = tt
results-kept f g extends (AnExceptionTable place ∷ answers) numbers follow = tt
results-kept f g extends (AnInstruction ∷ answers) [] follow = tt
results-kept f g extends (AnInstruction ∷ answers) (inst ∷ numbers) follow =
    let node = extends.insts inst follow.0 follow.1 in
    (node.kept, node.there, follow.2 ∙ sym node.results)

pub answers-kept : (old new : Ledger) (f g : Body) → ((k : ℕ) (name : Name) → block_name old k ≡ Some name → block_name new k ≡ Some name) → Keeps f g
    → (place : ℕ) (answers : List Answered) (numbers : List ℕ) → AnswersAgree old f place answers numbers → AnswersAgree new g place answers numbers
answers-kept old new f g names extends place answers numbers agree =
    record {
      count = agree.count;
      each = λ index answer number at there. answer-kept old new f g names extends (answer_of place index) answer number (agree.each index answer number at there);
      results = results-kept f g extends answers numbers agree.results;
    }

-- the answers of the calls, where one more call was answered
pub answers-after : (calls : List AnsweredCall) (call : AnsweredCall) (old new : Ledger) (f g : Body) (c : ContextState) (p : Option ℕ) (answered : List Answered)
    → LedgerAgrees calls old f c p → new.answers ≡ old.answers ++ answered ∷ []
    → ((k : ℕ) (name : Name) → block_name old k ≡ Some name → block_name new k ≡ Some name) → Keeps f g
    → AnswersAgree new g (length calls) answered call.numbers
    → (place : ℕ) (other : AnsweredCall) (answers : List Answered) → slice_get (calls ++ call ∷ []) place ≡ Some other → slice_get new.answers place ≡ Some answers
    → AnswersAgree new g place answers other.numbers
answers-after calls call old new f g c p answered agrees more names extends fresh place other answers at_call at_answers =
    let at_more : slice_get (old.answers ++ answered ∷ []) place ≡ Some answers = ap (λ (xs : List (List Answered)). slice_get xs place) (sym more) ∙ at_answers in
    elim (get-push calls call place other at_call) [
      | inl old_call ↦
          elim (get-push old.answers answered place answers at_more) [
            | inl old_answers ↦ answers-kept old new f g names extends place answers other.numbers (agrees.answers place other answers old_call old_answers)
            | inr last ↦ let inside : place < length calls = slice_get_within calls place other old_call in absurd (omega (arith, inside, last.0, agrees.places))
          ]
      | inr last_call ↦
          elim (get-push old.answers answered place answers at_more) [
            | inl old_answers ↦ let inside : place < length old.answers = slice_get_within old.answers place answers old_answers in absurd (omega (arith, inside, last_call.0, agrees.places))
            | inr last ↦
                let here : AnswersAgree new g place answered call.numbers = subst (λ (n : ℕ). AnswersAgree new g n answered call.numbers) (sym last_call.0) fresh in
                let same : AnswersAgree new g place answers call.numbers = subst (λ (xs : List Answered). AnswersAgree new g place xs call.numbers) last.1 here in
                subst (λ (x : AnsweredCall). AnswersAgree new g place answers x.numbers) last_call.1 same
          ]
    ]

pub places-after : (calls : List AnsweredCall) (call : AnsweredCall) (old new : Ledger) (answered : List Answered)
    → length old.answers ≡ length calls → new.answers ≡ old.answers ++ answered ∷ [] → length new.answers ≡ length (calls ++ call ∷ [])
places-after calls call old new answered places more =
    ap (λ (xs : List (List Answered)). length xs) more ∙ length-append old.answers (answered ∷ [])
    ∙ ap (λ n. n + 1) places ∙ sym (length-append calls (call ∷ []))

-- no answers agree, and one that does alone
pub answers-none : (ledger : Ledger) (g : Body) (place : ℕ) → AnswersAgree ledger g place [] []
answers-none ledger g place =
    record {
      count = refl;
      each = λ index answer number at there. absurd (none-some answer at);
      results = tt;
    }

pub answers-one : (ledger : Ledger) (g : Body) (place : ℕ) (answer : Answered) (number : ℕ)
    → AnswerAgrees ledger g (answer_of place 0) answer number → ResultsFollow g (answer ∷ []) (number ∷ []) → AnswersAgree ledger g place (answer ∷ []) (number ∷ [])
answers-one ledger g place answer number agrees follow = record { count = refl; each = each; results = follow }
  where
    each : (index : ℕ) (other : Answered) (n : ℕ) → slice_get (answer ∷ []) index ≡ Some other → slice_get (number ∷ []) index ≡ Some n
        → AnswerAgrees ledger g (answer_of place index) other n
    each zero other n at there =
        subst (λ (a : Answered). AnswerAgrees ledger g (answer_of place 0) a n) (same_Some answer other at)
        (subst (λ (m : ℕ). AnswerAgrees ledger g (answer_of place 0) answer m) (same_Some number n there) agrees)
    each (suc index) other n at there = absurd (none-some other at)

-- an instruction with results of these types, which have the numbers from the first on
pub answers-results : (ledger : Ledger) (g : Body) (place inst first : ℕ) (node : InstNode) (types : List «Type»)
    → slice_get g.insts inst ≡ Some node → node.results ≡ range_with_len first (length types)
    → ((k : ℕ) (ty : «Type») → slice_get types k ≡ Some ty → value_type g (first + k) ≡ Some ty)
    → AnswersAgree ledger g place (AnInstruction ∷ map AValue types) (inst ∷ range_with_len first (length types))
answers-results ledger g place inst first node types there results typed =
    record { count = ap suc (range_count first (length types) ∙ sym (mapped_count AValue types)); each = each; results = (node, there, sym results) }
  where
    each : (index : ℕ) (other : Answered) (n : ℕ) → slice_get (AnInstruction ∷ map AValue types) index ≡ Some other → slice_get (inst ∷ range_with_len first (length types)) index ≡ Some n
        → AnswerAgrees ledger g (answer_of place index) other n
    each zero other n at same =
        subst (λ (a : Answered). AnswerAgrees ledger g (answer_of place 0) a n) (same_Some AnInstruction other at)
        (node, ap (slice_get g.insts) (sym (same_Some inst n same)) ∙ there)
    each (suc index) other n at same =
        let found = mapped_from AValue types index other at in
        let number : first + index ≡ n = same_Some (first + index) n (sym (range_at first (length types) index (slice_get_within types index found.0 found.1)) ∙ same) in
        subst (λ (a : Answered). AnswerAgrees ledger g (answer_of place (suc index)) a n) found.2
        (ap (value_type g) (sym number) ∙ typed index found.0 found.1)

-- an answer stays under its name
pub answer-still : (old new : Ledger) (answered : List Answered) (name : Name) (answer : Answered) → new.answers ≡ old.answers ++ answered ∷ []
    → answer_at old name ≡ Some answer → answer_at new name ≡ Some answer
answer-still old new answered name answer more is =
    let answers = and-then-some (λ (xs : List Answered). slice_get xs name.index) (slice_get old.answers name.place) answer is in
    ap (λ (xss : List (List Answered)). option_and_then (λ (xs : List Answered). slice_get xs name.index) (slice_get xss name.place)) more
    ∙ ap (option_and_then (λ (xs : List Answered). slice_get xs name.index)) (get-front old.answers _ name.place answers.0 answers.1) ∙ answers.2

-- a name of a value has the value's type
pub named-value : (calls : List AnsweredCall) (ledger : Ledger) (f : Body) (c : ContextState) (p : Option ℕ) → LedgerAgrees calls ledger f c p
    → (name : Name) (value : ℕ) → number_of calls name ≡ Some value → has_value ledger name ≡ true
    → (ty : «Type») × (type_of ledger name ≡ Some ty) × (value_type f value ≡ Some ty)
named-value calls ledger f c p agrees name value number is_value =
    let typed = some-is (type_of ledger name) is_value in
    let answer : answer_at ledger name ≡ Some (AValue typed.0) = by (answer_at ledger name) typed.0 typed.1 in
    let answers = and-then-some (λ (answers : List Answered). slice_get answers name.index) (slice_get ledger.answers name.place) (AValue typed.0) answer in
    let call = and-then-some (λ (call : AnsweredCall). slice_get call.numbers name.index) (slice_get calls name.place) value number in
    (typed.0, typed.1, (agrees.answers name.place call.0 answers.0 call.1 answers.1).each name.index (AValue typed.0) value answers.2 call.2)
  where
    by : (o : Option Answered) (ty : «Type») → value_answer_type o ≡ Some ty → o ≡ Some (AValue ty)
    by None ty is = absurd (none-some ty is)
    by (Some ABlock) ty is = absurd (none-some ty is)
    by (Some (AVariable variable)) ty is = absurd (none-some ty is)
    by (Some (AValue other)) ty is = ap (λ (t : «Type»). Some (AValue t)) (same_Some other ty is)
    by (Some (AnEntry entry place)) ty is = absurd (none-some ty is)
    by (Some (AnEdge edge)) ty is = absurd (none-some ty is)
    by (Some (AJumpTable place)) ty is = absurd (none-some ty is)
    by (Some (AnExceptionTable place)) ty is = absurd (none-some ty is)
    by (Some AnInstruction) ty is = absurd (none-some ty is)

-- from the ledger with one more call to the ledger of all calls
pub concluded : (calls : List AnsweredCall) (call : AnsweredCall) (g : Body) (d : ContextState) (p : Option ℕ)
    → LedgerAgrees (calls ++ call ∷ []) (ledger_with (ledger_of calls) call.request) g d p → LedgerAgrees (calls ++ call ∷ []) (ledger_of (calls ++ call ∷ [])) g d p
concluded calls call g d p after = subst (λ (l : Ledger). LedgerAgrees (calls ++ call ∷ []) l g d p) (sym (ledger-more calls call)) after
