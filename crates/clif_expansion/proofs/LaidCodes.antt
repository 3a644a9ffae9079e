-- Code that is the item is laid, and so is arithmetic on a constant.
use Rattle.std.proofs.Common.{ℕ, suc, ℤ, List, [], ◌∷◌, ◌++◌, map, inl, inr, Some}
use Rattle.std.specs.Prelude.{Contains, flat_map}
use Rattle.std.specs.List.{AllByRecursion, AllZip}
use Rattle.clif_opcodes.specs.declared.opcodes.ConvertOpcode.TheVariants.{Sextend}
use Rattle.clif_types.specs.declared.types.LaneType.TheVariants as lane
use Rattle.clif_types.specs.declared.types.«Type».{«Type»}
use Rattle.clif_types.specs.declared.types.«Type».TheVariants as type
use Rattle.clif_meaning.specs.Instruction.{Argument, Arithmetic, Convert, Iconst, Known, CallResult, CallPayload, Edge, named_operands}
use Rattle.clif_meaning.specs.Name.{Name}
use Rattle.clif_meaning.specs.Program.{Program, Item, Instruct, Use, Assign}
use Rattle.clif_meaning.specs.WellPlaced.{item_names, item_passes, item_targets, known_argument, passed_operands}
use Rattle.clif_expansion.specs.Code.{IsItself}
use Rattle.clif_expansion.specs.Constants.{computing, i64, with_constant}
use Rattle.clif_expansion.specs.Laying.{CodesAreLaid, Ending, HasGiven, IsAmong, IsLaid, IsToHand, IsToPass, Laying, Lays, Leaving}
use Rattle.clif_expansion.specs.Reading.{IsReadArgument, IsReadAs, IsReadEdge, IsReadItem, Reading}
use Rattle.clif_expansion.proofs.Placing.{contained_first, contained_later, contained_left}

-- ITSELF ------------------------------------------------------------------------------------------------------------------

module _ (reading : Reading) where
  known_read : (plain arguments : List (Argument Name)) → AllZip (IsReadArgument reading) plain arguments
      → AllZip (IsReadAs reading) (flat_map known_argument plain) (flat_map known_argument arguments)
  known_read [] [] is = tt
  known_read [] (argument ∷ arguments) is = absurd is
  known_read (argument ∷ plain) [] is = absurd is
  known_read (Known x ∷ plain) (Known name ∷ arguments) is = (is.0, known_read plain arguments is.1)
  known_read (CallResult k ∷ plain) (CallResult index ∷ arguments) is = known_read plain arguments is.1
  known_read (CallPayload k ∷ plain) (CallPayload index ∷ arguments) is = known_read plain arguments is.1
  known_read (Known x ∷ plain) (CallResult index ∷ arguments) is = absurd is.0
  known_read (Known x ∷ plain) (CallPayload index ∷ arguments) is = absurd is.0
  known_read (CallResult k ∷ plain) (Known name ∷ arguments) is = absurd is.0
  known_read (CallResult k ∷ plain) (CallPayload index ∷ arguments) is = absurd is.0
  known_read (CallPayload k ∷ plain) (Known name ∷ arguments) is = absurd is.0
  known_read (CallPayload k ∷ plain) (CallResult index ∷ arguments) is = absurd is.0

  both_read : (a b c d : List Name) → AllZip (IsReadAs reading) a b → AllZip (IsReadAs reading) c d → AllZip (IsReadAs reading) (a ++ c) (b ++ d)
  both_read [] [] c d first second = second
  both_read [] (y ∷ b) c d first second = absurd first
  both_read (x ∷ a) [] c d first second = absurd first
  both_read (x ∷ a) (y ∷ b) c d first second = (first.0, both_read a b c d first.1 second)

  abbrev passed_by : Edge Name Name → List Name
  passed_by edge = flat_map known_argument edge.arguments

  passed_read : (plain edges : List (Edge Name Name)) → AllZip (IsReadEdge reading) plain edges
      → AllZip (IsReadAs reading) (flat_map passed_by plain) (flat_map passed_by edges)
  passed_read [] [] is = tt
  passed_read [] (edge ∷ edges) is = absurd is
  passed_read (edge' ∷ plain) [] is = absurd is
  passed_read (edge' ∷ plain) (edge ∷ edges) is =
      both_read (passed_by edge') (passed_by edge) (flat_map passed_by plain) (flat_map passed_by edges)
      (known_read edge'.arguments edge.arguments is.0.arguments) (passed_read plain edges is.1)

  module _ (program : Program) (item : Item) where
    hands : (given names read : List Name) → AllZip (IsReadAs reading) names read → ((name : Name) → Contains read name → Contains (item_names (Some item)) name)
        → AllByRecursion (IsToHand reading item given) names
    hands given [] [] is within = tt
    hands given [] (name ∷ read) is within = absurd is
    hands given (x ∷ names) [] is within = absurd is
    hands given (x ∷ names) (name ∷ read) is within = (
      inr (name, is.0, within name (contained_first name read)),
      hands given names read is.1 (λ other there. within other (contained_later name read other there)),
    )

    passing : (given names read : List Name) → HasGiven reading item given → AllZip (IsReadAs reading) names read
        → ((name : Name) → Contains read name → Contains (item_passes (Some item)) name) → AllByRecursion (IsToPass reading item given) names
    passing given [] [] has is within = tt
    passing given [] (name ∷ read) has is within = absurd is
    passing given (x ∷ names) [] has is within = absurd is
    passing given (x ∷ names) (name ∷ read) has is within = (
      inr (has, name, is.0, within name (contained_first name read)),
      passing given names read has is.1 (λ other there. within other (contained_later name read other there)),
    )

    leaves : (given : List Name) (plain edges : List (Edge Name Name)) → HasGiven reading item given → AllZip (IsReadEdge reading) plain edges
        → ((name : Name) → Contains (map (λ (edge : Edge Name Name). edge.target) edges) name → Contains (item_targets (Some item)) name)
        → Lays reading program item given (map (λ (edge : Edge Name Name). edge.target) plain) []
    leaves given [] [] has is within = Ending given has
    leaves given [] (edge ∷ edges) has is within = absurd is
    leaves given (edge' ∷ plain) [] has is within = absurd is
    leaves given (edge' ∷ plain) (edge ∷ edges) has is within =
        let targets : List Name = map (λ (edge : Edge Name Name). edge.target) edges in
        Leaving given edge'.target edge.target (map (λ (edge : Edge Name Name). edge.target) plain) [] is.0.target
        (within edge.target (contained_first edge.target targets)) has
        (leaves given plain edges has is.1 (λ other there. within other (contained_later edge.target targets other there)))

  among : (all names read : List Name) → AllZip (IsReadAs reading) names read → ((x : Name) → Contains names x → Contains all x) → AllByRecursion (IsAmong reading all) read
  among all [] [] is within = tt
  among all [] (name ∷ read) is within = absurd is
  among all (x ∷ names) [] is within = absurd is
  among all (x ∷ names) (name ∷ read) is within = (
    (x, is.0, within x (contained_first x names)),
    among all names read is.1 (λ y there. within y (contained_later x names y there)),
  )

  item_laid : (program : Program) (plain item : Item) → IsReadItem reading plain item → Lays reading program item [] [] (plain ∷ [])
  item_laid program (Instruct place plain given) (Instruct other instruction results) is =
      let item : Item = Instruct other instruction results in
      let has : HasGiven reading item (given ++ []) = among (given ++ []) given results is.1 (contained_left given []) in
      Laying [] (Instruct place plain given) []
      (hands program item [] (named_operands plain) (named_operands instruction)
      (both_read plain.operands instruction.operands plain.contexts instruction.contexts is.0.operands is.0.contexts) (λ name there. there))
      (passing program item (given ++ []) (passed_operands plain) (passed_operands instruction) has (passed_read plain.edges instruction.edges is.0.edges) (λ name there. there))
      (leaves program item (given ++ []) plain.edges instruction.edges has is.0.edges (λ name there. there))
  item_laid program (Use variable' x) (Use variable name) is =
      Laying [] (Use variable' x) [] tt tt (Ending (x ∷ []) ((x, is.1, contained_first x []), tt))
  item_laid program (Assign variable' x) (Assign variable name) is =
      Laying [] (Assign variable' x) [] (inr (name, is.1, contained_first name []), tt) tt (Ending [] tt)
  item_laid program (Instruct place plain given) (Use variable name) is = absurd is
  item_laid program (Instruct place plain given) (Assign variable name) is = absurd is
  item_laid program (Use variable' x) (Instruct other instruction results) is = absurd is
  item_laid program (Use variable' x) (Assign variable name) is = absurd is
  item_laid program (Assign variable' x) (Instruct other instruction results) is = absurd is
  item_laid program (Assign variable' x) (Use variable name) is = absurd is

  pub itself : (program : Program) (code : List Item) (item : Item) → IsItself reading code item → IsLaid reading program code item
  itself program [] item is = absurd is
  itself program (plain ∷ []) item is = record { begins = λ none. cc; lays = item_laid program plain item is }
  itself program (plain ∷ other ∷ code) item is = absurd is

  -- CONSTANTS -------------------------------------------------------------------------------------------------------------

  module _ (program : Program) (arithmetic whole : Arithmetic) (number : ℤ) (place other : ℕ) (narrow constant plain given x result : Name)
      (operand : IsReadAs reading plain x) (gives : IsReadAs reading given result) where
    abbrev item_at : «Type» → Item
    item_at ty = Instruct other (computing whole ty (x ∷ [])) (result ∷ [])

    -- behind the constant
    last : (ty : «Type») (place : ℕ) (before : List Name) → Lays reading program (item_at ty) (constant ∷ before) [] (Instruct place (computing arithmetic ty (plain ∷ constant ∷ [])) (given ∷ []) ∷ [])
    last ty place before =
        Laying (constant ∷ before) (Instruct place (computing arithmetic ty (plain ∷ constant ∷ [])) (given ∷ [])) []
        (inr (x, operand, contained_first x []), (inl (contained_first constant before), tt)) tt
        (Ending (given ∷ constant ∷ before) ((given, gives, contained_first given (constant ∷ before)), tt))

    at_once : (ty : «Type») → IsLaid reading program
        (Instruct place (computing (Iconst number) ty []) (constant ∷ []) ∷ Instruct (suc place) (computing arithmetic ty (plain ∷ constant ∷ [])) (given ∷ []) ∷ []) (item_at ty)
    at_once ty = record { begins = λ none. cc; lays = Laying [] (Instruct place (computing (Iconst number) ty []) (constant ∷ [])) _ tt tt (last ty (suc place) []) }

    at_twice : IsLaid reading program (with_constant arithmetic (type.Lane lane.I128) number place narrow constant plain given) (item_at (type.Lane lane.I128))
    at_twice = record {
      begins = λ none. cc;
      lays = Laying [] (Instruct place (computing (Iconst number) i64 []) (narrow ∷ [])) _ tt tt
          (Laying (narrow ∷ []) (Instruct (suc place) (computing (Convert Sextend) (type.Lane lane.I128) (narrow ∷ [])) (constant ∷ [])) _
          (inl (contained_first narrow []), tt) tt (last (type.Lane lane.I128) (suc (suc place)) (narrow ∷ [])));
    }

    constants : (ty : «Type») → IsLaid reading program (with_constant arithmetic ty number place narrow constant plain given) (item_at ty)
    constants (type.Lane lane.I128) = at_twice
    constants (type.Lane lane.I8) = at_once (type.Lane lane.I8)
    constants (type.Lane lane.I16) = at_once (type.Lane lane.I16)
    constants (type.Lane lane.I32) = at_once (type.Lane lane.I32)
    constants (type.Lane lane.I64) = at_once (type.Lane lane.I64)
    constants (type.Lane lane.F16) = at_once (type.Lane lane.F16)
    constants (type.Lane lane.F32) = at_once (type.Lane lane.F32)
    constants (type.Lane lane.F64) = at_once (type.Lane lane.F64)
    constants (type.Lane lane.F128) = at_once (type.Lane lane.F128)
    constants type.Invalid = at_once type.Invalid
    constants (type.Vector l n) = at_once (type.Vector l n)

pub codes_are_laid : CodesAreLaid
codes_are_laid = record {
  itself = itself;
  constants = λ reading program arithmetic whole ty number place other narrow constant plain given x result operand gives.
      constants reading program arithmetic whole number place other narrow constant plain given x result operand gives ty;
}
