-- The code of a switch decides, and is laid, with its names read.
use Rattle.std.proofs.Common.{◌≡◌, ◌<◌, ◌≤◌, ◌+◌, ◌⊎◌, inl, inr, ℕ, zero, suc, Bool, List, [], ◌∷◌, ◌++◌, length, map, refl, sym, ◌∙◌, ap, subst, arith, Option, Some, None}
use Rattle.std.specs.Prelude.{Contains, flat_map, fold, if◌then◌else◌, slice_get}
use Rattle.std.specs.List.{AllByRecursion, AllZip}
use Rattle.std.proofs.lemmas.Bool.{cases_lt, le-ltb, lt-ltb}
use Rattle.clif_types.specs.declared.types.«Type».{«Type»}
use Rattle.clif_meaning.specs.Bits.{AreValues, Bits, IsValue}
use Rattle.clif_meaning.specs.Instruction.{Argument, Edge, Instruction, Operation, Switch}
use Rattle.clif_meaning.specs.Ledger.{Ledger, ledger_after, ledger_with}
use Rattle.clif_meaning.specs.Name.{Name, answer_of, same_name}
use Rattle.clif_meaning.specs.Outcome.{Goes, outcome_of}
use Rattle.clif_meaning.specs.Program.{Program, Item, Instruct, Use, Assign, answers_from, program_of, result_types, with_call}
use Rattle.clif_meaning.specs.Request.{Build, Script}
use Rattle.clif_meaning.specs.Store.{assigned}
use Rattle.clif_meaning.specs.Switch.{edge_of_key}
use Rattle.clif_meaning.specs.WellPlaced.{item_gives, item_names, item_passes, item_targets, known_argument}
use Rattle.clif_meaning.specs.World.{World}
use Rattle.clif_expansion.specs.Code.{Decides, DecidesItem, NameTypes}
use Rattle.clif_expansion.specs.Emission.{reading_across}
use Rattle.clif_expansion.specs.JoinedPrograms.{DecidesAlong, IsDecidingItem}
use Rattle.clif_expansion.specs.Joining.{IsJoined}
use Rattle.clif_expansion.specs.Laying.{Ending, Entering, HasGiven, IsAmong, IsLaid, IsToHand, IsToPass, Laying, Lays, Leaving}
use Rattle.clif_expansion.specs.LedgerTypes.{HaveTypes}
use Rattle.clif_expansion.specs.Reading.{Generated, IsReadArgument, IsReadAs, IsReadEdge, IsReadInstruction, Reading, ScriptName}
use Rattle.clif_expansion.specs.ScriptCall.{emitted_item, emitted_types}
use Rattle.clif_expansion.specs.Switching.{IsSwitchCode, generated_from, switching, targets_of}
use Rattle.clif_expansion.specs.Walk.{Arriving, Computing, IsGenerated, Passing, Surroundings, Takes, Walk}
use Rattle.clif_expansion.proofs.Across.{across_inside, across_read}
use Rattle.clif_expansion.proofs.DecidingPrograms.{AllBuilt}
use Rattle.clif_expansion.proofs.JoinedPrograms.{IsBareFrom}
use Rattle.clif_expansion.proofs.Joins.{GoesOn}
use Rattle.clif_expansion.proofs.Names.{same_script}
use Rattle.clif_expansion.proofs.Placing.{contained_first, contained_in, none_contained}
use Rattle.clif_expansion.proofs.ReadConditions
use Rattle.clif_expansion.proofs.SwitchedPrograms
use Rattle.clif_expansion.proofs.SwitchedPrograms.{all_two, target_read}

-- LISTS -------------------------------------------------------------------------------------------------------------------

some_same : {X : Type 0} (a b : X) → Some a ≡ Some b → a ≡ b
some_same {X} a b same = ap (or_this a) same
  where
    or_this : X → Option X → X
    or_this other None = other
    or_this other (Some z) = z

of_place : {X : Type 0} (P : X → Type 0) (xs : List X) (k : ℕ) (x : X) → AllByRecursion P xs → slice_get xs k ≡ Some x → P x
of_place P [] k x all is = let no_way : ⊥ = cc in absurd no_way
of_place P (y ∷ xs) zero x all is = subst P (some_same y x is) all.0
of_place P (y ∷ xs) (suc k) x all is = of_place P xs k x all.1 is

-- the edge at a place, with its names read
edge_at : (reading : Reading) (edges' edges : List (Edge Name Name)) (k : ℕ) (edge' : Edge Name Name) → AllZip (IsReadEdge reading) edges' edges → slice_get edges' k ≡ Some edge'
    → (edge : Edge Name Name) × (slice_get edges k ≡ Some edge) × IsReadEdge reading edge' edge
edge_at reading [] edges k edge' are is = let no_way : ⊥ = cc in absurd no_way
edge_at reading (first' ∷ edges') [] k edge' are is = absurd are
edge_at reading (first' ∷ edges') (first ∷ edges) zero edge' are is = (first, refl, subst (λ (e : Edge Name Name). IsReadEdge reading e first) (some_same first' edge' is) are.0)
edge_at reading (first' ∷ edges') (first ∷ edges) (suc k) edge' are is = edge_at reading edges' edges k edge' are.1 is

-- edges that pass nothing
nothing_passed : (edges : List (Edge Name Name)) → AllByRecursion (λ edge. edge.arguments ≡ []) edges → flat_map (λ (edge : Edge Name Name). flat_map known_argument edge.arguments) edges ≡ []
nothing_passed [] all = refl
nothing_passed (edge ∷ edges) all =
    ap (λ arguments. flat_map known_argument arguments ++ flat_map (λ (edge : Edge Name Name). flat_map known_argument edge.arguments) edges) all.0 ∙ nothing_passed edges all.1

none_read : (reading : Reading) (arguments' arguments : List (Argument Name)) → AllZip (IsReadArgument reading) arguments' arguments → arguments' ≡ [] → arguments ≡ []
none_read reading [] [] are none = refl
none_read reading [] (argument ∷ arguments) are none = absurd are
none_read reading (argument' ∷ arguments') arguments are none = let no_way : ⊥ = cc in absurd no_way

-- one operand, read
one_read : (reading : Reading) (value : Name) (operands : List Name) → AllZip (IsReadAs reading) (value ∷ []) operands → (name : Name) × IsReadAs reading value name × (operands ≡ name ∷ [])
one_read reading value [] are = absurd are
one_read reading value (name ∷ []) are = (name, are.0, refl)
one_read reading value (name ∷ other ∷ operands) are = absurd are.1

no_contexts : (reading : Reading) (contexts : List Name) → AllZip (IsReadAs reading) [] contexts → contexts ≡ []
no_contexts reading [] are = refl
no_contexts reading (name ∷ contexts) are = absurd are

-- what the plain names stand for in the code's own reading
below_base : (base : ℕ) (x name : Name) → generated_from base x ≡ ScriptName name → (x ≡ name) × (x.place < base)
below_base base x name is = by (cases_lt x.place base)
  where
    by : (x.place < base) ⊎ (base ≤ x.place) → (x ≡ name) × (x.place < base)
    by (inl below) = (same_script x name (sym (ap (λ (c : Bool). if c then ScriptName x else Generated) (lt-ltb x.place base below)) ∙ is), below)
    by (inr from) =
        let apart : Generated ≡ ScriptName name = sym (ap (λ (c : Bool). if c then ScriptName x else Generated) (le-ltb x.place base from)) ∙ is in
        let no_way : ⊥ = cc in absurd no_way

from_base : (base : ℕ) (x : Name) → generated_from base x ≡ Generated → base ≤ x.place
from_base base x is = by (cases_lt x.place base)
  where
    by : (x.place < base) ⊎ (base ≤ x.place) → base ≤ x.place
    by (inl below) =
        let apart : ScriptName x ≡ Generated = sym (ap (λ (c : Bool). if c then ScriptName x else Generated) (lt-ltb x.place base below)) ∙ is in
        let no_way : ⊥ = cc in absurd no_way
    by (inr from) = from

-- THE CODE ----------------------------------------------------------------------------------------------------------------

module _ (reading : Reading) (plain more : Script) (ledger : Ledger) (joined : IsJoined reading (ledger_after plain) ledger) (block here value : Name) (ty : «Type») (keys : List ℕ)
    (edges : List (Edge Name Name)) (switch : Instruction Name Name) (branches tables : ℕ)
    (at' : (ledger_after plain).current ≡ Some block) (at : ledger.current ≡ Some here) (is_block : IsReadAs reading block here)
    (is : IsReadInstruction reading (switching keys ty value edges) switch) (code : IsSwitchCode plain more block value ty keys edges branches tables)
    (place : length plain ≡ length (ledger_after plain).answers) (end_is : ledger_after (plain ++ more) ≡ fold ledger_with (ledger_after plain) more)
    (same' : (program_of plain).current ≡ (ledger_after plain).current) (place' : (program_of plain).place ≡ length (ledger_after plain).answers)
    (program_is : program_of (plain ++ more) ≡ fold with_call (program_of plain) more) (bare' : IsBareFrom (length (ledger_after plain).answers) (program_of plain)) where
  abbrev base : ℕ
  base = length plain

  abbrev across : Reading
  across = reading_across reading base (length more)

  abbrev program : Program
  program = program_of (plain ++ more)

  abbrev item : Item
  item = emitted_item (length ledger.answers) switch

  on : GoesOn reading across (length ledger.answers) (suc (length ledger.answers))
  on = SwitchedPrograms.on reading plain more ledger joined block here value ty keys edges switch branches tables at' at is_block is code place end_is

  -- results are generated
  abbrev HasOwnResults : Item → Type 0
  HasOwnResults built = AllByRecursion (IsGenerated across) (item_gives (Some built))

  results_own : (n index : ℕ) (types : List «Type») → base ≤ n → n < base + length more → AllByRecursion (IsGenerated across) (answers_from n index types)
  results_own n index [] from below = tt
  results_own n index (t ∷ types) from below = (across_inside reading base (length more) (answer_of n index) from below, results_own n (suc index) types from below)

  all_own : (list : Script) (n k : ℕ) → n ≡ base + k → k + length list ≡ length more → AllBuilt HasOwnResults n list
  all_own [] n k from whole = tt
  all_own (Build entries instruction ∷ list) n k from whole = (
    results_own n 1 (result_types instruction.operation instruction.controlling) (omega (arith, from)) (omega (arith, from, whole)),
    all_own list (suc n) (suc k) (omega (arith, from)) (omega (arith, whole)),
  )
  all_own (_ ∷ list) n k from whole = all_own list (suc n) (suc k) (omega (arith, from)) (omega (arith, whole))

  own_results : AllBuilt HasOwnResults base more
  own_results = all_own more base 0 (nothing base) (first_of (length more))
    where
      nothing : (n : ℕ) → n ≡ n + 0
      nothing n = omega arith

      first_of : (n : ℕ) → 0 + n ≡ n
      first_of n = omega arith

  abbrev IsBuilt : Item → Type 0
  IsBuilt built = IsDecidingItem across item built × HasOwnResults built

  code_built : AllByRecursion IsBuilt code.code
  code_built =
      SwitchedPrograms.code_built reading plain more ledger joined block here value ty keys edges switch branches tables at' at is_block is code place end_is HasOwnResults own_results same' place' program_is

  new_built : (x : Name) → base ≤ x.place → AllByRecursion IsBuilt (program.items x)
  new_built x from =
      SwitchedPrograms.new_built reading plain more ledger joined block here value ty keys edges switch branches tables at' at is_block is code place end_is HasOwnResults own_results same' place' program_is bare' x from

  read_below : (x name : Name) → IsReadAs across x name → x.place < base
  read_below x name read = subst (λ (n : ℕ). x.place < n) (sym place) (joined.made x name (across_read reading base (length more) x name read)).0

  -- where an edge leads that leads to a later place
  own_target : (edge : Edge Name Name) → DecidesAlong across item edge → base ≤ edge.target.place → IsGenerated across edge.target
  own_target edge along from = by along.leads
    where
      by : IsGenerated across edge.target ⊎ ((name : Name) × IsReadAs across edge.target name × Contains (item_targets (Some item)) name) → IsGenerated across edge.target
      by (inl own) = own
      by (inr (name, read, there)) = let below = read_below edge.target name read in absurd (omega (arith, below, from))

  -- WALKS -----------------------------------------------------------------------------------------------------------------

  module _ (world : World) (types : Name → «Type») where
    abbrev around : Surroundings
    around = record { world = world; reading = generated_from base; types = types; program = program }

    abbrev around_read : Surroundings
    around_read = record { world = world; reading = across; types = types; program = program }

    takes_read : (instruction : Instruction Name Name) (names : Name → Bits) (edge : Edge Name Name) → Takes around instruction names edge → Takes around_read instruction names edge
    takes_read instruction names edge takes = record { is_branch = takes.is_branch; index = takes.index; goes = takes.goes; there = takes.there; nothing = takes.nothing }

    walk_read : (target : Name) (items : List Item) (before after : Name → Bits) (bs ts : ℕ) → AllByRecursion IsBuilt items → Walk around target items before after bs ts → Walk around_read target items before after bs ts
    walk_read target items before after bs ts all (Computing p instruction results rest values b a bs' ts' does walk) =
        Computing p instruction results rest values before after bs ts
        (record { arithmetic = does.arithmetic; is_arithmetic = does.is_arithmetic; computes = does.computes; generated = all.0.1 })
        (walk_read target rest (assigned same_name results values before) after bs ts all.1 walk)
    walk_read target items before after bs ts all (Passing p instruction results rest edge b a bs' ts' takes generated walk) =
        let from = from_base base edge.target generated in
        Passing p instruction results rest edge before after bs' ts' (takes_read instruction before edge takes)
        (own_target edge (of_place (DecidesAlong across item) instruction.edges takes.index edge all.0.0.edges takes.there) from)
        (walk_read target (program.items edge.target) before after bs' ts' (new_built edge.target from) walk)
    walk_read target items before after bs ts all (Arriving p instruction results rest edge b takes same) =
        Arriving p instruction results rest edge before (takes_read instruction before edge takes) same

  -- LAYING ----------------------------------------------------------------------------------------------------------------

  abbrev plain_switch : Instruction Name Name
  plain_switch = switching keys ty value edges

  abbrev plain_item : Item
  plain_item = Instruct 0 plain_switch []

  operand : (name : Name) × IsReadAs reading value name × (switch.operands ≡ name ∷ [])
  operand = one_read reading value switch.operands is.operands

  hand_read : (given : List Name) (x : Name) → IsToHand (generated_from base) plain_item given x → IsToHand across item given x
  hand_read given x (inl there) = inl there
  hand_read given x (inr (name, read, there)) = by (contained_in value [] name there)
    where
      by : (value ≡ name) ⊎ Contains [] name → IsToHand across item given x
      by (inl same) =
          let x_is : x ≡ value = (below_base base x name read).0 ∙ sym same in
          inr (
            operand.0,
            ap across x_is ∙ on.keeps value operand.0 operand.1,
            subst (λ (names : List Name). Contains (names ++ switch.contexts) operand.0) (sym operand.2) (contained_first operand.0 switch.contexts),
          )
      by (inr none) = absurd (none_contained name none)

  pass_read : (given : List Name) (x : Name) → IsToPass (generated_from base) plain_item given x → IsToPass across item given x
  pass_read given x (inl hand) = inl (hand_read given x hand)
  pass_read given x (inr (has, name, read, there)) =
      absurd (none_contained name (subst (λ (names : List Name). Contains names name) (nothing_passed edges code.nothing) there))

  all_read : (P R : Name → Type 0) → ((x : Name) → P x → R x) → (names : List Name) → AllByRecursion P names → AllByRecursion R names
  all_read P R each [] all = tt
  all_read P R each (x ∷ names) all = (each x all.0, all_read P R each names all.1)

  no_results : emitted_types switch ≡ []
  no_results = ap (λ (operation : Operation). result_types operation switch.controlling) (sym is.operation)

  gives_nothing : (given : List Name) → HasGiven across item given
  gives_nothing given = subst (λ (types : List «Type»). AllByRecursion (IsAmong across given) (answers_from (length ledger.answers) 0 types)) (sym no_results) tt

  -- it is generated, or read
  abbrev IsThere : Name → Type 0
  IsThere x = IsGenerated across x ⊎ ((name : Name) × IsReadAs across x name)

  targets_there : (list : List (Edge Name Name)) → AllByRecursion (DecidesAlong across item) list → AllByRecursion IsThere (targets_of list)
  targets_there [] all = tt
  targets_there (edge ∷ list) all = (by all.0.leads, targets_there list all.1)
    where
      by : IsGenerated across edge.target ⊎ ((name : Name) × IsReadAs across edge.target name × Contains (item_targets (Some item)) name) → IsThere edge.target
      by (inl own) = inl own
      by (inr (name, read, there)) = inr (name, read)

  item_there : (first : Item) → IsDecidingItem across item first → AllByRecursion IsThere (item_targets (Some first))
  item_there (Instruct p instruction results) is' = targets_there instruction.edges is'.edges
  item_there (Use variable name) is' = absurd is'
  item_there (Assign variable name) is' = absurd is'

  lays_read : (given blocks : List Name) (list : List Item) → AllByRecursion IsThere blocks → AllByRecursion IsBuilt list
      → Lays (generated_from base) program plain_item given blocks list → Lays across program item given blocks list
  lays_read given [] [] there all (Ending g has) = Ending given (gives_nothing given)
  lays_read given [] (start ∷ list) there all (Laying g first rest names passes lays) =
      Laying given first rest
      (all_read (IsToHand (generated_from base) plain_item given) (IsToHand across item given) (hand_read given) (item_names (Some first)) names)
      (all_read (IsToPass (generated_from base) plain_item (item_gives (Some first) ++ given)) (IsToPass across item (item_gives (Some first) ++ given)) (pass_read (item_gives (Some first) ++ given))
      (item_passes (Some first)) passes)
      (lays_read (item_gives (Some first) ++ given) (item_targets (Some first)) rest (item_there first all.0.0) all.1 lays)
  lays_read given (b ∷ blocks) list there all (Entering g x others c own within lays) =
      let from = from_base base x own in
      Entering given x others list (by from there.0)
      (lays_read (program.parameters x ++ given) [] (program.items x) tt (new_built x from) within)
      (lays_read given others list there.1 all lays)
    where
      by : base ≤ b.place → IsThere b → IsGenerated across b
      by from (inl generated) = generated
      by from (inr (name, read)) = let below = read_below b name read in absurd (omega (arith, below, from))
  lays_read given (b ∷ blocks) list there all (Leaving g x target others c read target_there has lays) =
      let same = below_base base x target read in
      let found = target_read reading edges switch.edges is.edges target target_there in
      Leaving given x found.0 others list (ap across same.0 ∙ on.keeps target found.0 found.1) found.2 (gives_nothing given) (lays_read given others list there.1 all lays)

  pub laid : IsLaid across program code.code item
  laid =
      let was = code.laid 0 plain_switch refl refl in
      record { begins = was.begins; lays = lays_read [] [] code.code tt code_built was.lays }

  -- DECIDING --------------------------------------------------------------------------------------------------------------

  module _ (pointer_width : ℕ) (types : NameTypes) (have' : HaveTypes (ledger_after (plain ++ more)) types.plain) (have : HaveTypes ledger types.script) where
    script_type : types.script operand.0 ≡ ty
    script_type =
        have operand.0 ty (sym (ReadConditions.type_same reading (ledger_after plain) ledger joined.ledgers joined.one_to_one value operand.0 operand.1) ∙ code.value_type)

    one_value : (names : Name → Bits) (operands : List Name) → operands ≡ operand.0 ∷ [] → AreValues (map types.script operands) (map names operands) → IsValue (types.script operand.0) (names operand.0)
    one_value names operands same values = (subst (λ (list : List Name). AreValues (map types.script list) (map names list)) same values).0

    pub decides : Decides pointer_width across types program code.code switch branches tables
    decides = record {
      decides = λ world plain_names names memory width agree sound.
          let held : plain_names value ≡ names operand.0 = agree value operand.0 (on.keeps value operand.0 operand.1) in
          let is_value : IsValue ty (plain_names value) =
          subst (λ (bits : Bits). IsValue ty bits) (sym held) (subst (λ (t : «Type»). IsValue t (names operand.0)) script_type (one_value names switch.operands operand.2 sound.operands)) in
          let goes = code.goes world types.plain plain_names have' is_value in
          let key : ℕ = edge_of_key keys (plain_names value) in
          let edge = edge_at reading edges switch.edges key goes.edge is.edges goes.there in
          record {
            index = key;
            edge = edge.0;
            outcome =
                ap (λ (operation : Operation). outcome_of world operation switch.controlling (map types.script switch.operands) (map names switch.operands) memory) (sym is.operation)
                ∙ ap (λ (operands : List Name). outcome_of world (Switch keys) switch.controlling (map types.script operands) (map names operands) memory) operand.2
                ∙ ap (λ (bits : Bits). Goes (edge_of_key keys bits) [] memory) (sym held);
            there = edge.1;
            nothing = none_read reading goes.edge.arguments edge.0.arguments edge.2.arguments (of_place (λ (e : Edge Name Name). e.arguments ≡ []) edges key goes.edge code.nothing goes.there);
            block = goes.edge.target;
            target = on.keeps goes.edge.target edge.0.target edge.2.target;
            after = goes.after;
            walked_branches = goes.walked_branches;
            walked_tables = goes.walked_tables;
            walk = walk_read world types.plain goes.edge.target code.code plain_names goes.after goes.walked_branches goes.walked_tables code_built goes.walk;
            few_branches = goes.few_branches;
            few_tables = goes.few_tables;
          };
    }

    pub item_decides : DecidesItem pointer_width across types program code.code item
    item_decides = (branches, tables, decides)
