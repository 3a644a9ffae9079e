-- Changes of a program with names read keep it cut.
use Rattle.std.proofs.Common.{◌≡◌, ◌<◌, ◌≤◌, ◌⊎◌, inl, inr, ℕ, suc, Bool, true, false, List, [], ◌∷◌, ◌++◌, map, refl, sym, ◌∙◌, ap, ap₂, arith, subst, Option, Some, None, append_assoc}
use Rattle.std.specs.Prelude.{◌≢◌, Contains, if◌then◌else◌}
use Rattle.std.specs.List.{AllByRecursion}
use Rattle.std.proofs.Math.Path.{fun_ext}
use Rattle.std.proofs.lemmas.List.{map-append}
use Rattle.clif_meaning.specs.Instruction.{Edge, Instruction}
use Rattle.clif_meaning.specs.Name.{Name, answer_of, same_name}
use Rattle.clif_meaning.specs.Program.{Program, Item, Instruct, Use, Assign, answers_from, first_block, redirected_edge, redirected_instruction, redirected_item, result_names, with_inserted, with_item_at}
use Rattle.clif_meaning.specs.WellPlaced.{item_targets}
use Rattle.clif_expansion.specs.Emission.{AreGenerated, AreGiven, LastResults, StaysInLine}
use Rattle.clif_expansion.specs.Expansion.{AreCut, IsCutProgram, IsReadBlock}
use Rattle.clif_expansion.specs.JoinedPrograms.{AreLastRead, DecidesAlong, IsAsked, IsDecidingItem, IsEmission, IsReadPlace, IsSwitched, built_items}
use Rattle.clif_expansion.specs.Joining.{IsUnread}
use Rattle.clif_expansion.specs.Reading.{IsOneToOne, IsReadAs, IsReadEdge, IsReadInstruction, IsReadItem, Reading, ScriptName}
use Rattle.clif_expansion.specs.ScriptCall.{emitted_item, emitted_types}
use Rattle.clif_expansion.specs.Walk.{IsGenerated}
use Rattle.clif_expansion.proofs.Among.{other_generated}
use Rattle.clif_expansion.proofs.JoinedStates.{chosen, zip_mapped}
use Rattle.clif_expansion.proofs.Joins.{KeepsGenerated, KeepsReading, edges_later, names_later}
use Rattle.clif_expansion.proofs.Names.{names_equal, same_read}

-- CUTS --------------------------------------------------------------------------------------------------------------------

pub cut_each : (P Q : List Item → Item → Type 0) → ((code : List Item) (item : Item) → P code item → Q code item) → (plain items : List Item) → AreCut P plain items → AreCut Q plain items
cut_each P Q each plain [] cut = cut
cut_each P Q each plain (item ∷ items) (code, rest, split, is, more) = (code, rest, split, each code item is, cut_each P Q each rest items more)

-- one more code at the end
pub cut_more : (P : List Item → Item → Type 0) (plain items code : List Item) (item : Item) → AreCut P plain items → P code item → AreCut P (plain ++ code) (items ++ item ∷ [])
cut_more P plain [] code item cut is = (code, [], ap (λ (xs : List Item). xs ++ code) cut ∙ no_more code, is, refl)
  where
    no_more : (xs : List Item) → xs ≡ xs ++ []
    no_more [] = refl
    no_more (x ∷ xs) = ap (λ (rest : List Item). x ∷ rest) (no_more xs)
cut_more P plain (first ∷ items) code item (before, rest, split, is_first, more) is = (
  before,
  rest ++ code,
  ap (λ (xs : List Item). xs ++ code) split ∙ append_assoc before rest code,
  is_first,
  cut_more P rest items code item more is,
)

pub cut_mapped : (P : List Item → Item → Type 0) (f g : Item → Item) → ((code : List Item) (item : Item) → P code item → P (map f code) (g item))
    → (plain items : List Item) → AreCut P plain items → AreCut P (map f plain) (map g items)
cut_mapped P f g each plain [] cut = ap (map f) cut
cut_mapped P f g each plain (item ∷ items) (code, rest, split, is, more) =
    (map f code, map f rest, ap (map f) split ∙ map-append f code rest, each code item is, cut_mapped P f g each rest items more)

-- KNOWN CODE --------------------------------------------------------------------------------------------------------------

-- in what was generated nothing is changed
abbrev pub KeepsOwn : Reading → (before after : Program) → Type 0
KeepsOwn reading before after = (x : Name) → IsGenerated reading x → (after.items x ≡ before.items x) × (after.parameters x ≡ before.parameters x)

-- what is known of an emission's code stays true in a later reading
abbrev pub LastsLater : (Reading → List Item → Item → Type 0) → Type 0
LastsLater Known =
    (reading later : Reading) → KeepsReading reading later → KeepsGenerated reading later → (code : List Item) (item : Item) → Known reading code item → Known later code item

-- and what is known of a switch's code, in a later program
abbrev pub LastsIn : (Reading → Program → List Item → Item → Type 0) → Type 0
LastsIn Decided =
    (reading later : Reading) (before after : Program) → KeepsReading reading later → KeepsGenerated reading later → KeepsOwn reading before after
    → (code : List Item) (item : Item) → Decided reading before code item → Decided later after code item

-- The code of a switch that was emitted among so many calls, and what is known of it.
pub record IsSwitchedSo (Decided : Reading → Program → List Item → Item → Type 0) (reading : Reading) (made : ℕ) (plain : Program) (code : List Item) (item : Item) : Type 0 where
  pub switched : IsSwitched reading code item
  pub before : switched.other < made
  pub decided : Decided reading plain code item

-- the code was called, and if it is an emission's this is known of it
abbrev pub IsCalledSo : (Reading → List Item → Item → Type 0) → (Reading → Program → List Item → Item → Type 0) → Reading → ℕ → Program → List Item → Item → Type 0
IsCalledSo Known Decided reading made plain code item =
    IsAsked reading code item ⊎ (IsEmission reading code item × Known reading code item) ⊎ IsSwitchedSo Decided reading made plain code item

-- A LATER READING ---------------------------------------------------------------------------------------------------------

module _ (reading later : Reading) (keeps : KeepsReading reading later) where
  item_later : (plain item : Item) → IsReadItem reading plain item → IsReadItem later plain item
  item_later (Instruct place plain given) (Instruct other instruction results) is = (
    record {
      operation = is.0.operation;
      controlling = is.0.controlling;
      operands = names_later reading later keeps plain.operands instruction.operands is.0.operands;
      contexts = names_later reading later keeps plain.contexts instruction.contexts is.0.contexts;
      edges = edges_later reading later keeps plain.edges instruction.edges is.0.edges;
    },
    names_later reading later keeps given results is.1,
  )
  item_later (Use number x) (Use variable name) is = (is.0, keeps x name is.1)
  item_later (Assign number x) (Assign variable name) is = (is.0, keeps x name is.1)
  item_later _ _ is = absurd is

  place_later : (plain item : Item) → IsReadItem reading plain item → IsReadPlace reading plain item → IsReadPlace later plain item
  place_later (Instruct place plain given) (Instruct other instruction results) read is = keeps (answer_of place 0) (answer_of other 0) is
  place_later (Use number x) (Use variable name) read is = tt
  place_later (Assign number x) (Assign variable name) read is = tt
  place_later _ _ read is = absurd read

  along_later : KeepsGenerated reading later → (item : Item) (edges : List (Edge Name Name)) → AllByRecursion (DecidesAlong reading item) edges → AllByRecursion (DecidesAlong later item) edges
  along_later generated item [] all = tt
  along_later generated item (edge ∷ edges) all = (record { nothing = all.0.nothing; leads = by all.0.leads }, along_later generated item edges all.1)
    where
      by : IsGenerated reading edge.target ⊎ ((name : Name) × IsReadAs reading edge.target name × Contains (item_targets (Some item)) name)
          → IsGenerated later edge.target ⊎ ((name : Name) × IsReadAs later edge.target name × Contains (item_targets (Some item)) name)
      by (inl own) = inl (generated edge.target own)
      by (inr (name, read, there)) = inr (name, keeps edge.target name read, there)

  decider_later : KeepsGenerated reading later → (item plain : Item) → IsDecidingItem reading item plain → IsDecidingItem later item plain
  decider_later generated item (Instruct place instruction results) is = record {
    own = generated (answer_of place 0) is.own;
    deciding = is.deciding;
    contexts = is.contexts;
    edges = along_later generated item instruction.edges is.edges;
  }
  decider_later generated item (Use variable name) is = absurd is
  decider_later generated item (Assign variable name) is = absurd is

  pub deciders_later : KeepsGenerated reading later → (item : Item) (code : List Item) → AllByRecursion (IsDecidingItem reading item) code → AllByRecursion (IsDecidingItem later item) code
  deciders_later generated item [] all = tt
  deciders_later generated item (plain ∷ code) all = (decider_later generated item plain all.0, deciders_later generated item code all.1)

  generated_later : KeepsGenerated reading later → (names : List Name) → AllByRecursion (IsGenerated reading) names → AllByRecursion (IsGenerated later) names
  generated_later generated [] all = tt
  generated_later generated (name ∷ names) all = (generated name all.0, generated_later generated names all.1)

  -- what the last instruction gives
  last_later : KeepsGenerated reading later → (how : LastResults) (plain results : List Name) → AreLastRead how reading plain results → AreLastRead how later plain results
  last_later generated AreGiven plain results read = names_later reading later keeps plain results read
  last_later generated AreGenerated plain results all = (generated_later generated plain all.0, all.1)

  pub called_later : (Known : Reading → List Item → Item → Type 0) (Decided : Reading → Program → List Item → Item → Type 0) → LastsLater Known → LastsIn Decided
      → KeepsGenerated reading later → (made further : ℕ) → ((name : Name) → IsUnread reading made name → IsUnread later further name)
      → (before after : Program) → KeepsOwn reading before after
      → (code : List Item) (item : Item) → IsCalledSo Known Decided reading made before code item → IsCalledSo Known Decided later further after code item
  called_later Known Decided lasts lasts_in generated made further unread before after own (plain ∷ []) item (inl asked) = inl (item_later plain item asked.0, place_later plain item asked.0 asked.1)
  called_later Known Decided lasts lasts_in generated made further unread before after own [] item (inl asked) = absurd asked
  called_later Known Decided lasts lasts_in generated made further unread before after own (plain ∷ second ∷ code) item (inl asked) = absurd asked
  called_later Known Decided lasts lasts_in generated made further unread before after own code item (inr (inr is)) =
      let still = unread (answer_of is.switched.other 0) (record { unread = is.switched.unread; before = is.before }) in
      inr (inr (record {
        switched = record {
          other = is.switched.other;
          keys = is.switched.keys;
          switch = is.switched.switch;
          is_switch = is.switched.is_switch;
          nothing = is.switched.nothing;
          emitted = is.switched.emitted;
          unread = still.unread;
          decides = deciders_later generated item code is.switched.decides;
        };
        before = still.before;
        decided = lasts_in reading later before after keeps generated own code item is.decided;
      }))
  called_later Known Decided lasts lasts_in generated made further unread before after own code item (inr (inl (is, known))) = inr (inl (
    record {
      place = is.place;
      instructions = is.instructions;
      last = is.last;
      built = is.built;
      line = is.line;
      other = is.other;
      whole = is.whole;
      emitted = is.emitted;
      stays = is.stays;
      how = is.how;
      results = last_later generated is.how _ _ is.results;
    },
    lasts reading later keeps generated code item known,
  ))

-- CHANGED EDGES -----------------------------------------------------------------------------------------------------------

-- what stays in line has no edge that changes
unchanged : (branch from to : Name) (place : ℕ) (instruction : Instruction Name Name) (results : List Name) → StaysInLine instruction
    → redirected_item branch from to (Instruct place instruction results) ≡ Instruct place instruction results
unchanged branch from to place instruction results stays = by (same_name (answer_of place 0) branch)
  where
    none : map (redirected_edge from to) instruction.edges ≡ instruction.edges
    none = ap (λ (edges : List (Edge Name Name)). map (redirected_edge from to) edges) stays.no_edges ∙ sym stays.no_edges

    by : (c : Bool) → Instruct place (if c then redirected_instruction from to instruction else instruction) results ≡ Instruct place instruction results
    by true = ap (λ (edges : List (Edge Name Name)). Instruct place (record instruction { edges = edges }) results) none
    by false = refl

unchanged_line : (branch from to : Name) (place : ℕ) (code : List (Instruction Name Name)) → AllByRecursion StaysInLine code
    → map (redirected_item branch from to) (built_items place code) ≡ built_items place code
unchanged_line branch from to place [] line = refl
unchanged_line branch from to place (instruction ∷ code) line =
    ap₂ (λ (first : Item) (rest : List Item). first ∷ rest) (unchanged branch from to place instruction (result_names place instruction) line.0)
    (unchanged_line branch from to (suc place) code line.1)

-- what was generated has no edge that changes, where the branch is one that is read
pub own_unchanged : (reading : Reading) (jump branch at there : Name) → IsReadAs reading jump branch → (item : Item) (code : List Item) → AllByRecursion (IsDecidingItem reading item) code
    → map (redirected_item jump at there) code ≡ code
own_unchanged reading jump branch at there read item [] all = refl
own_unchanged reading jump branch at there read item (Instruct place instruction results ∷ code) all =
    ap₂ (λ (first : Item) (rest : List Item). first ∷ rest)
    (ap (λ (c : Bool). Instruct place (if c then redirected_instruction at there instruction else instruction) results) (other_generated reading jump (answer_of place 0) branch read all.0.own))
    (own_unchanged reading jump branch at there read item code all.1)
own_unchanged reading jump branch at there read item (Use variable name ∷ code) all = absurd all.0
own_unchanged reading jump branch at there read item (Assign variable name ∷ code) all = absurd all.0

-- and neither has a switch that was emitted
pub switch_unchanged : (reading : Reading) (jump branch from to : Name) → IsReadAs reading jump branch → (other : ℕ) (switch : Instruction Name Name)
    → ((x : Name) → reading x ≢ ScriptName (answer_of other 0)) → redirected_item branch from to (emitted_item other switch) ≡ emitted_item other switch
switch_unchanged reading jump branch from to read other switch unread =
    ap (λ (c : Bool). Instruct other (if c then redirected_instruction from to switch else switch) (answers_from other 0 (emitted_types switch)))
    (by (same_name (answer_of other 0) branch) refl)
  where
    by : (c : Bool) → same_name (answer_of other 0) branch ≡ c → c ≡ false
    by true same = absurd (unread jump (read ∙ ap ScriptName (sym (names_equal (answer_of other 0) branch same))))
    by false same = refl

module _ (reading : Reading) (one_to_one : IsOneToOne reading) (jump branch at from there to : Name)
    (is_jump : IsReadAs reading jump branch) (is_at : IsReadAs reading at from) (is_there : IsReadAs reading there to) where
  edge_redirected : (edge' edge : Edge Name Name) → IsReadEdge reading edge' edge → IsReadEdge reading (redirected_edge at there edge') (redirected_edge from to edge)
  edge_redirected edge' edge is =
      chosen (IsReadEdge reading) (same_name edge'.target at) (same_name edge.target from) (record edge' { target = there }) edge' (record edge { target = to }) edge
      (same_read reading one_to_one edge'.target at edge.target from is.target is_at)
      (record { target = is_there; arguments = is.arguments }) is

  instruction_redirected : (plain instruction : Instruction Name Name) → IsReadInstruction reading plain instruction
      → IsReadInstruction reading (redirected_instruction at there plain) (redirected_instruction from to instruction)
  instruction_redirected plain instruction is = record {
    operation = is.operation;
    controlling = is.controlling;
    operands = is.operands;
    contexts = is.contexts;
    edges = zip_mapped (IsReadEdge reading) (IsReadEdge reading) (redirected_edge at there) (redirected_edge from to) edge_redirected plain.edges instruction.edges is.edges;
  }

  item_redirected : (plain item : Item) → IsReadItem reading plain item × IsReadPlace reading plain item
      → IsReadItem reading (redirected_item jump at there plain) (redirected_item branch from to item)
      × IsReadPlace reading (redirected_item jump at there plain) (redirected_item branch from to item)
  item_redirected (Instruct place plain given) (Instruct other instruction results) is = (
    (
      chosen (IsReadInstruction reading) (same_name (answer_of place 0) jump) (same_name (answer_of other 0) branch) (redirected_instruction at there plain) plain
          (redirected_instruction from to instruction) instruction (same_read reading one_to_one (answer_of place 0) jump (answer_of other 0) branch is.1 is_jump)
          (instruction_redirected plain instruction is.0.0) is.0.0,
      is.0.1,
    ),
    is.1,
  )
  item_redirected (Use number x) (Use variable name) is = is
  item_redirected (Assign number x) (Assign variable name) is = is
  item_redirected _ _ is = absurd is.0

  pub called_redirected : (Known : Reading → List Item → Item → Type 0) (Decided : Reading → Program → List Item → Item → Type 0) (made : ℕ) (plain : Program)
      (code : List Item) (item : Item) → IsCalledSo Known Decided reading made plain code item
      → IsCalledSo Known Decided reading made plain (map (redirected_item jump at there) code) (redirected_item branch from to item)
  called_redirected Known Decided made program (plain ∷ []) item (inl asked) = inl (item_redirected plain item asked)
  called_redirected Known Decided made program [] item (inl asked) = absurd asked
  called_redirected Known Decided made program (plain ∷ second ∷ code) item (inl asked) = absurd asked
  called_redirected Known Decided made program code item (inr (inr is)) =
      let same_code : map (redirected_item jump at there) code ≡ code = own_unchanged reading jump branch at there is_jump item code is.switched.decides in
      let same_item : redirected_item branch from to item ≡ item =
      ap (redirected_item branch from to) is.switched.emitted ∙ switch_unchanged reading jump branch from to is_jump is.switched.other is.switched.switch is.switched.unread ∙ sym is.switched.emitted in
      subst (λ (xs : List Item). IsCalledSo Known Decided reading made program xs (redirected_item branch from to item)) (sym same_code)
      (subst (λ (i : Item). IsCalledSo Known Decided reading made program code i) (sym same_item) (inr (inr is)))
  called_redirected Known Decided made program code item (inr (inl (is, known))) =
      let same_code : map (redirected_item jump at there) code ≡ built_items is.place (is.instructions ++ is.last ∷ []) =
      ap (map (redirected_item jump at there)) is.built ∙ unchanged_line jump at there is.place (is.instructions ++ is.last ∷ []) is.line in
      let same_item : redirected_item branch from to item ≡ emitted_item is.other is.whole = ap (redirected_item branch from to) is.emitted ∙ unchanged branch from to is.other is.whole _ is.stays in
      inr (inl (
        record {
          place = is.place;
          instructions = is.instructions;
          last = is.last;
          built = same_code;
          line = is.line;
          other = is.other;
          whole = is.whole;
          emitted = same_item;
          stays = is.stays;
          how = is.how;
          results = is.results;
        },
        subst (λ (xs : List Item). Known reading xs (redirected_item branch from to item)) (is.built ∙ sym same_code)
            (subst (λ (x : Item). Known reading code x) (is.emitted ∙ sym same_item) known),
      ))

-- PROGRAMS ----------------------------------------------------------------------------------------------------------------

-- items at the end of a block
abbrev pub with_items_at : Program → Option Name → List Item → Program
with_items_at program None items = program
with_items_at program (Some block) items =
    record program { items = λ other. if same_name other block then program.items other ++ items else program.items other }

pub one_item : (program : Program) (current : Option Name) (item : Item) → with_item_at program current item ≡ with_items_at program current (item ∷ [])
one_item program None item = refl
one_item program (Some block) item = refl

pub items_more : (program : Program) (current : Option Name) (items more : List Item) → with_items_at (with_items_at program current items) current more ≡ with_items_at program current (items ++ more)
items_more program None items more = refl
items_more program (Some block) items more = ap (λ (f : Name → List Item). record program { items = f }) (fun_ext each)
  where
    by : (c : Bool) (xs : List Item) → (if c then (if c then xs ++ items else xs) ++ more else (if c then xs ++ items else xs)) ≡ (if c then xs ++ (items ++ more) else xs)
    by true xs = append_assoc xs items more
    by false xs = refl

    each : (other : Name) → (if same_name other block then (if same_name other block then program.items other ++ items else program.items other) ++ more else (if same_name other block then program.items other ++ items else program.items other))
        ≡ (if same_name other block then program.items other ++ (items ++ more) else program.items other)
    each other = by (same_name other block) (program.items other)

-- nothing is in a block whose name comes from this place on
abbrev pub IsBareFrom : ℕ → Program → Type 0
IsBareFrom place program = (x : Name) → place ≤ x.place → (program.items x ≡ []) × (program.parameters x ≡ [])

-- the block's name comes before
abbrev pub IsBefore : ℕ → Option Name → Type 0
IsBefore place None = Unit {0}
IsBefore place (Some block) = block.place < place

pub elsewhere : (x block : Name) (place : ℕ) → block.place < place → place ≤ x.place → same_name x block ≡ false
elsewhere x block place before behind = by (same_name x block) refl
  where
    by : (c : Bool) → same_name x block ≡ c → c ≡ false
    by true is = absurd (let places = ap (λ (n : Name). n.place) (names_equal x block is) in omega (arith, places, before, behind))
    by false is = refl

pub bare_items : (place : ℕ) (program : Program) (current : Option Name) (items : List Item) → IsBefore place current → IsBareFrom place program → IsBareFrom place (with_items_at program current items)
bare_items place program None items before bare = bare
bare_items place program (Some block) items before bare = λ x behind. (
  ap (λ (c : Bool). if c then program.items x ++ items else program.items x) (elsewhere x block place before behind) ∙ (bare x behind).0,
  (bare x behind).1,
)

module _ (Stands : List Item → Item → Type 0) (reading : Reading) (one_to_one : IsOneToOne reading) where
  abbrev Cut : Program → Program → Type 0
  Cut plain program = IsCutProgram reading Stands plain program

  pub cut_items : (plain program : Program) (current' current : Option Name) (code : List Item) (item : Item) → Cut plain program → IsReadBlock reading current' current
      → Stands code item → Cut (with_items_at plain current' code) (with_items_at program current (item ∷ []))
  cut_items plain program None None code item cut is called = cut
  cut_items plain program None (Some block) code item cut is called = absurd is
  cut_items plain program (Some x) None code item cut is called = absurd is
  cut_items plain program (Some x) (Some block) code item cut is called = record {
    entry = cut.entry;
    parameters = cut.parameters;
    items = λ y other read.
        chosen (AreCut Stands) (same_name y x) (same_name other block) (plain.items y ++ code) (plain.items y) (program.items other ++ item ∷ []) (program.items other)
        (same_read reading one_to_one y x other block read is)
        (cut_more Stands (plain.items y) (program.items other) code item (cut.items y other read) called) (cut.items y other read);
  }

  pub first_read : (entry' entry current' current : Option Name) → IsReadBlock reading entry' entry → IsReadBlock reading current' current
      → IsReadBlock reading (first_block entry' current') (first_block entry current)
  first_read None None current' current is at = at
  first_read (Some x) (Some block) current' current is at = is
  first_read None (Some block) current' current is at = absurd is
  first_read (Some x) None current' current is at = absurd is

  pub cut_inserted : (plain program : Program) → Cut plain program → IsReadBlock reading plain.current program.current → Cut (with_inserted plain) (with_inserted program)
  cut_inserted plain program cut is = record {
    entry = first_read plain.entry program.entry plain.current program.current cut.entry is;
    parameters = cut.parameters;
    items = cut.items;
  }
