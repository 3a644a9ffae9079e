-- The structure of blocks under construction: parameters, edges, records and look-ups, over all blocks, reached or
-- not.
-- Source: own, after upstream's documentation: the caller's parameters are appended while a block is empty, edges
-- are
-- given arguments for variables at their ends.
use Rattle.std.specs.Prelude.{◌≡◌, ◌≢◌, ℕ, suc, ◌+◌, ◌≤◌, Bool, true, false, ◌==◌, Option, None, Some, List, [], ◌∷◌, ◌++◌, length, ◌⊎◌, remove}
use Rattle.clif_paths.specs.Steps.{updated}

-- the types of values and variables, as numbers
pub record Types : Type 0 where
  pub of_value : ℕ → ℕ
  pub of_variable : ℕ → ℕ

-- a parameter that was made for a variable, and whether its look-up in the predecessors has begun
pub record Parameter : Type 0 where
  pub variable : ℕ
  pub value : ℕ
  pub begun : Bool

-- One block. `parameters` is the list that the function has; the three lists above it say what they are.
pub record BlockShape : Type 0 where
  -- whether an instruction or a use was made in it
  pub entered : Bool
  pub sealed : Bool
  -- the branches declared as its predecessors
  pub predecessors : List ℕ
  -- the caller's parameters, those whose arguments are on all edges, and those that wait
  pub callers : List ℕ
  pub completed : List Parameter
  pub waiting : List Parameter
  pub parameters : List ℕ
  -- the value recorded for a variable
  pub recorded : ℕ → Option ℕ
  -- whether the block uses or assigns a variable
  pub touched : ℕ → Bool
  -- how many look-ups of a variable in the predecessors began here
  pub lookups : ℕ → ℕ

-- One edge: the block of its branch, where it leads, the caller's arguments, and the arguments that the function
-- has.
pub record EdgeShape : Type 0 where
  pub source : ℕ
  pub target : Option ℕ
  pub caller_arguments : List ℕ
  pub arguments : List ℕ

pub record Shape : Type 0 where
  pub block : ℕ → BlockShape
  pub edge : ℕ → EdgeShape

-- the values of parameters
abbrev pub values_of : List Parameter → List ℕ
values_of [] = []
values_of (p ∷ ps) = p.value ∷ values_of ps

-- the list has the parameter
abbrev pub HasParameter : List Parameter → Parameter → Type 0
HasParameter [] p = ⊥
HasParameter (q ∷ qs) p = (p ≡ q) ⊎ HasParameter qs p

-- no variable has two parameters in the list
abbrev pub Apart : List Parameter → Type 0
Apart [] = Unit {0}
Apart (p ∷ ps) = ((q : Parameter) → HasParameter ps q → q.variable ≢ p.variable) × Apart ps

-- one argument for each parameter, of its variable's type, in order
abbrev pub GivesEach : Types → List Parameter → List ℕ → Type 0
GivesEach types [] [] = Unit {0}
GivesEach types (p ∷ ps) (a ∷ as') = (types.of_value a ≡ types.of_variable p.variable) × GivesEach types ps as'
GivesEach types _ _ = ⊥

-- two lists of values of the same types, in number and order
abbrev pub SameTypes : Types → List ℕ → List ℕ → Type 0
SameTypes types [] [] = Unit {0}
SameTypes types (v ∷ vs) (w ∷ ws) = (types.of_value v ≡ types.of_value w) × SameTypes types vs ws
SameTypes types _ _ = ⊥

-- What holds of each block, with no premise on the program.
pub record IsBlockShape (types : Types) (b : BlockShape) : Type 0 where
  -- the caller's parameters come first, and complete ones before those that wait
  pub in_order : b.parameters ≡ b.callers ++ (values_of b.completed ++ values_of b.waiting)
  -- a block in which nothing was made has the caller's parameters alone
  pub pristine : b.entered ≡ false → (b.completed ≡ []) × (b.waiting ≡ [])
  -- nothing is complete before the block is sealed
  pub unsealed : b.sealed ≡ false → b.completed ≡ []
  -- a block that keeps a variable's parameter has two predecessors at least
  pub joined : (b.completed ≡ []) ⊎ (2 ≤ length b.predecessors)
  -- parameters and records have their variables' types
  pub completed_typed :
      (p : Parameter) → HasParameter b.completed p → types.of_value p.value ≡ types.of_variable p.variable
  pub waiting_typed :
      (p : Parameter) → HasParameter b.waiting p → types.of_value p.value ≡ types.of_variable p.variable
  pub recorded_typed : (x v : ℕ) → b.recorded x ≡ Some v → types.of_value v ≡ types.of_variable x
  -- a variable whose parameter waits is recorded, and no other parameter of it waits
  pub waiting_recorded : (p : Parameter) → HasParameter b.waiting p → b.recorded p.variable ≢ None
  pub apart : Apart b.waiting
  -- a variable without a record is neither used nor assigned in the block, and was not looked up from it
  pub untouched : (x : ℕ) → b.recorded x ≡ None → b.touched x ≡ false
  pub not_looked_up : (x : ℕ) → b.recorded x ≡ None → b.lookups x ≡ 0
  -- at most one look-up of a variable begins in the block
  pub not_begun : (p : Parameter) → HasParameter b.waiting p → p.begun ≡ false → b.lookups p.variable ≡ 0
  pub once : (x : ℕ) → b.lookups x ≤ 1

-- What an edge into a block carries: the caller's arguments, and then one for each complete parameter, in order.
pub record IsEdgeShape (types : Types) (completed : List Parameter) (e : EdgeShape) : Type 0 where
  pub given : List ℕ
  pub carries : e.arguments ≡ e.caller_arguments ++ given
  pub gives_each : GivesEach types completed given

pub record Structured (types : Types) (shape : Shape) : Type 0 where
  pub blocks : (b : ℕ) → IsBlockShape types (shape.block b)
  pub edges :
      (e b : ℕ) → (shape.edge e).target ≡ Some b → IsEdgeShape types (shape.block b).completed (shape.edge e)
  -- look-ups follow edges back, so they reach only blocks that hold a branch
  pub sources :
      (e b : ℕ) → (shape.edge e).target ≡ Some b → (shape.block (shape.edge e).source).entered ≡ true

-- STEPS -----------------------------------------------------------------------------------------------------------

abbrev pub no_shape : Shape
no_shape = record {
  block = λ b. record {
    entered = false;
    sealed = false;
    predecessors = [];
    callers = [];
    completed = [];
    waiting = [];
    parameters = [];
    recorded = λ x. None;
    touched = λ x. false;
    lookups = λ x. 0;
  };
  edge = λ e. record { source = 0; target = None; caller_arguments = []; arguments = [] };
}

-- the shape with one block changed
abbrev pub with_block : Shape → ℕ → BlockShape → Shape
with_block shape b new = record shape { block = updated shape.block b new }

-- a parameter of the caller
abbrev pub caller_added : BlockShape → ℕ → BlockShape
caller_added b v = record b { callers = b.callers ++ (v ∷ []); parameters = b.parameters ++ (v ∷ []) }

-- a parameter for a variable, which waits and is recorded
abbrev pub waiting_added : BlockShape → ℕ → ℕ → BlockShape
waiting_added b x v = record b {
  waiting = b.waiting ++ (record { variable = x; value = v; begun = false } ∷ []);
  parameters = b.parameters ++ (v ∷ []);
  recorded = updated b.recorded x (Some v);
}

-- the look-up for the first parameter that waits begins
abbrev pub lookup_begun : BlockShape → Parameter → List Parameter → BlockShape
lookup_begun b p rest = record b {
  waiting = record p { begun = true } ∷ rest;
  lookups = updated b.lookups p.variable (suc (b.lookups p.variable));
}

-- the first parameter that waits is complete
abbrev pub first_completed : BlockShape → Parameter → List Parameter → BlockShape
first_completed b p rest = record b { completed = b.completed ++ (p ∷ []); waiting = rest }

-- the first parameter that waits is removed
abbrev pub first_dropped : BlockShape → List Parameter → BlockShape
first_dropped b rest = record b {
  waiting = rest;
  parameters = remove b.parameters (length b.callers + length b.completed);
}

-- a variable is recorded as this value
abbrev pub value_recorded : BlockShape → ℕ → ℕ → BlockShape
value_recorded b x v = record b { recorded = updated b.recorded x (Some v) }

-- a recorded variable is used
abbrev pub variable_used : BlockShape → ℕ → BlockShape
variable_used b x = record b { touched = updated b.touched x true }

-- a variable is assigned
abbrev pub variable_assigned : BlockShape → ℕ → ℕ → BlockShape
variable_assigned b x v = record (value_recorded b x v) { touched = updated b.touched x true }

-- whether an edge leads to the block
abbrev pub leads_to : Option ℕ → ℕ → Bool
leads_to None b = false
leads_to (Some c) b = c == b

abbrev pub appended_if : Bool → List ℕ → ℕ → List ℕ
appended_if true arguments a = arguments ++ (a ∷ [])
appended_if false arguments a = arguments

-- an argument at the end of each edge into the block
abbrev pub arguments_appended : (ℕ → EdgeShape) → ℕ → (ℕ → ℕ) → ℕ → EdgeShape
arguments_appended edge b given e =
    record (edge e) { arguments = appended_if (leads_to (edge e).target b) (edge e).arguments (given e) }

-- One step, with what it needs.
pub data ShapeStep (types : Types) : Shape → Shape → Type 0 where
  -- an instruction or a use is made in a block
  enter :
      {shape : Shape} (b : ℕ) →
      ShapeStep types shape (with_block shape b (record (shape.block b) { entered = true }))
  -- an edge of a new branch, with the caller's arguments, into a block that is not sealed
  new_edge :
      {shape : Shape} (e from b : ℕ) (arguments : List ℕ) → (shape.block from).entered ≡ true →
      (shape.block b).sealed ≡ false →
      ShapeStep types shape (record shape {
        edge =
            updated shape.edge e
            (record { source = from; target = Some b; caller_arguments = arguments; arguments = arguments });
      })
  -- an edge is led to another block; neither is sealed
  retarget :
      {shape : Shape} (e b c : ℕ) → (shape.edge e).target ≡ Some b → (shape.block b).sealed ≡ false →
      (shape.block c).sealed ≡ false →
      ShapeStep types shape (record shape { edge = updated shape.edge e (record (shape.edge e) { target = Some c }) })
  -- predecessors are declared or removed while the block is not sealed
  declare :
      {shape : Shape} (b : ℕ) (predecessors : List ℕ) → (shape.block b).sealed ≡ false →
      ShapeStep types shape (with_block shape b (record (shape.block b) { predecessors = predecessors }))
  seal_shape :
      {shape : Shape} (b : ℕ) →
      ShapeStep types shape (with_block shape b (record (shape.block b) { sealed = true }))
  -- a caller's parameter, while nothing was made in the block
  add_caller :
      {shape : Shape} (b v : ℕ) → (shape.block b).entered ≡ false →
      ShapeStep types shape (with_block shape b (caller_added (shape.block b) v))
  -- a parameter for a variable that has no record, in a block that is used or holds a branch
  add_waiting :
      {shape : Shape} (b x v : ℕ) → (shape.block b).entered ≡ true → (shape.block b).recorded x ≡ None →
      types.of_value v ≡ types.of_variable x →
      ShapeStep types shape (with_block shape b (waiting_added (shape.block b) x v))
  -- the look-up for the first parameter that waits
  begin_lookup :
      {shape : Shape} (b : ℕ) (p : Parameter) (rest : List Parameter) → (shape.block b).waiting ≡ p ∷ rest →
      p.begun ≡ false →
      ShapeStep types shape (with_block shape b (lookup_begun (shape.block b) p rest))
  -- it ends with two values at least: each edge gets its argument
  complete_first :
      {shape : Shape} (b : ℕ) (p : Parameter) (rest : List Parameter) (given : ℕ → ℕ) →
      (shape.block b).waiting ≡ p ∷ rest →
      (shape.block b).sealed ≡ true → 2 ≤ length (shape.block b).predecessors →
      ((e : ℕ) → (shape.edge e).target ≡ Some b → types.of_value (given e) ≡ types.of_variable p.variable) →
      ShapeStep types shape (record {
        block = updated shape.block b (first_completed (shape.block b) p rest);
        edge = arguments_appended shape.edge b given;
      })
  -- it ends with one value or none: the parameter is removed
  drop_first :
      {shape : Shape} (b : ℕ) (p : Parameter) (rest : List Parameter) → (shape.block b).waiting ≡ p ∷ rest →
      ShapeStep types shape (with_block shape b (first_dropped (shape.block b) rest))
  record_value :
      {shape : Shape} (b x v : ℕ) → types.of_value v ≡ types.of_variable x →
      ShapeStep types shape (with_block shape b (value_recorded (shape.block b) x v))
  use_recorded :
      {shape : Shape} (b x : ℕ) → (shape.block b).recorded x ≢ None →
      ShapeStep types shape (with_block shape b (variable_used (shape.block b) x))
  assign_value :
      {shape : Shape} (b x v : ℕ) → types.of_value v ≡ types.of_variable x →
      ShapeStep types shape (with_block shape b (variable_assigned (shape.block b) x v))

-- Any number of steps, the first at the left.
pub data ShapeSteps (types : Types) : Shape → Shape → Type 0 where
  no_step : {shape : Shape} → ShapeSteps types shape shape
  and_then :
      {shape shape' shape'' : Shape} → ShapeSteps types shape shape' → ShapeStep types shape' shape'' →
      ShapeSteps types shape shape''

-- LAWS ------------------------------------------------------------------------------------------------------------

abbrev pub FirstShapeStructured : Type 0
FirstShapeStructured = (types : Types) → Structured types no_shape

abbrev pub StructureKept : Type 0
StructureKept =
    (types : Types) (shape shape' : Shape) → ShapeStep types shape shape' → Structured types shape →
    Structured types shape'

-- where nothing waits in a block, an edge whose caller's arguments match its caller's parameters matches it whole
abbrev pub EdgesMatch : Type 0
EdgesMatch =
    (types : Types) (shape : Shape) → Structured types shape → (e b : ℕ) → (shape.edge e).target ≡ Some b →
    (shape.block b).waiting ≡ [] →
    SameTypes types (shape.edge e).caller_arguments (shape.block b).callers →
    SameTypes types (shape.edge e).arguments (shape.block b).parameters

-- a block with at most one predecessor in which nothing waits has the caller's parameters alone
abbrev pub SinglePredecessorKeepsNone : Type 0
SinglePredecessorKeepsNone =
    (types : Types) (shape : Shape) → Structured types shape → (b : ℕ) → length (shape.block b).predecessors ≤ 1 →
    (shape.block b).waiting ≡ [] → (shape.block b).parameters ≡ (shape.block b).callers

abbrev pub ShapesAreStructured : Type 0
ShapesAreStructured = (types : Types) (shape : Shape) → ShapeSteps types no_shape shape → Structured types shape

-- at most one look-up of a variable begins in a block, and none of a variable that it has no record of
abbrev pub LookedUpOnce : Type 0
LookedUpOnce =
    (types : Types) (shape : Shape) → Structured types shape → (b x : ℕ) →
    ((shape.block b).lookups x ≤ 1) × ((shape.block b).recorded x ≡ None → (shape.block b).lookups x ≡ 0)

-- a block without a record for a variable neither uses nor assigns it
abbrev pub UnrecordedIsUntouched : Type 0
UnrecordedIsUntouched =
    (types : Types) (shape : Shape) → Structured types shape → (b x : ℕ) → (shape.block b).recorded x ≡ None →
    (shape.block b).touched x ≡ false
