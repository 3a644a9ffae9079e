-- The program of a script without its calls that seal is that of the script, renamed.
use Rattle.std.proofs.Common.{◌≡◌, ℕ, suc, Bool, true, false, cond, not, List, [], ◌∷◌, ◌++◌, map, refl, sym, ◌∙◌, ap, ap₂, subst, Option, Some, None}
use Rattle.std.specs.Prelude.{fold, if◌then◌else◌, option_map}
use Rattle.std.proofs.lemmas.List.{map-append}
use Rattle.clif_types.specs.declared.types.«Type».{«Type»}
use Rattle.clif_meaning.specs.Name.{Name, answer_of, same_name}
use Rattle.clif_meaning.specs.Instruction.{Edge, Instruction}
use Rattle.clif_meaning.specs.Program.{Program, Item, Instruct, Use, Assign, answers_from, empty_program, extended, first_block, program_of, redirected_edge, redirected_instruction, redirected_item, result_types, with_call, with_inserted, with_item, with_item_at, with_parameters, with_redirected}
use Rattle.clif_meaning.specs.Request.{Request, Script}
use Rattle.std.specs.List.{AllZip}
use Rattle.clif_renaming.specs.Renaming.{AreRenamedItems, IsRenamedItem, IsRenamedProgram, KeepsApart, renamed_edge, renamed_instruction}
use Rattle.clif_renaming.specs.Sealing.{is_sealing, name_left, renamed_request, unsealed, without_seals}
use Rattle.clif_renaming.proofs.Places.{Follows, follows_at_first, follows_call, follows_here, follows_seal, names_apart}
use Rattle.clif_renaming.proofs.RenamedEffects.{BothAssign, BothBuild, BothInsert, BothLeave, BothRedirect, BothSwitch, BothTake, BothUse, RenamedProgramEffect, renamed_program_effect, Seals, SealsAll, SealsOne, sealing_is}
use Rattle.clif_renaming.proofs.RenamedNames.{same_renamed}

-- the place at which an instruction was built is renamed too
abbrev GoesAlong : (Name → Name) → Item → Item → Type 0
GoesAlong rename (Instruct place instruction results) (Instruct other renamed names) = rename (answer_of place 0) ≡ answer_of other 0
GoesAlong rename _ _ = Unit {0}

-- the second program is the first one renamed, also its current block and the places of its items
pub record IsRenamedSoFar (rename : Name → Name) (p p' : Program) : Type 0 where
  pub current : p'.current ≡ option_map rename p.current
  pub program : IsRenamedProgram rename p p'
  pub places : (block : Name) → AllZip (GoesAlong rename) (p.items block) (p'.items (rename block))

-- one more item on both sides
one_more : (R : Item → Item → Type 0) (items items' : List Item) (item item' : Item) → AllZip R items items' → R item item' → AllZip R (items ++ item ∷ []) (items' ++ item' ∷ [])
one_more R [] [] item item' are is = (is, tt)
one_more R [] (x' ∷ items') item item' are is = absurd are
one_more R (x ∷ items) [] item item' are is = absurd are
one_more R (x ∷ items) (x' ∷ items') item item' are is = (are.0, one_more R items items' item item' are.1 is)

module _ (rename : Name → Name) (apart : KeepsApart rename) where
  -- a block's items with one more in some block
  item_there : (R : Item → Item → Type 0) (block other : Name) (items items' : List Item) (item item' : Item) → AllZip R items items' → R item item'
      → AllZip R (if same_name other block then items ++ item ∷ [] else items) (if same_name (rename other) (rename block) then items' ++ item' ∷ [] else items')
  item_there R block other items items' item item' are is =
      subst (λ (test : Bool). AllZip R (if same_name other block then items ++ item ∷ [] else items) (if test then items' ++ item' ∷ [] else items'))
      (sym (same_renamed rename apart other block)) (by (same_name other block))
    where
      by : (c : Bool) → AllZip R (if c then items ++ item ∷ [] else items) (if c then items' ++ item' ∷ [] else items')
      by true = one_more R items items' item item' are is
      by false = are

  item_at : (p p' : Program) (current : Option Name) (item item' : Item) → IsRenamedSoFar rename p p' → IsRenamedItem rename item item' → GoesAlong rename item item'
      → IsRenamedSoFar rename (with_item_at p current item) (with_item_at p' (option_map rename current) item')
  item_at p p' None item item' is same along = is
  item_at p p' (Some block) item item' is same along = record {
    current = is.current;
    program = record {
      entry = is.program.entry;
      parameters = is.program.parameters;
      items = λ other. item_there (IsRenamedItem rename) block other (p.items other) (p'.items (rename other)) item item' (is.program.items other) same;
    };
    places = λ other. item_there (GoesAlong rename) block other (p.items other) (p'.items (rename other)) item item' (is.places other) along;
  }

  pub item_more : (p p' : Program) (item item' : Item) → IsRenamedSoFar rename p p' → IsRenamedItem rename item item' → GoesAlong rename item item'
      → IsRenamedSoFar rename (with_item p item) (with_item p' item')
  item_more p p' item item' is same along =
      subst (λ (current : Option Name). IsRenamedSoFar rename (with_item p item) (with_item_at p' current item')) (sym is.current)
      (item_at p p' p.current item item' is same along)

  -- EDGES THAT LEAD ELSEWHERE -------------------------------------------------------------------------------------------

  edge_both : (from to : Name) (edge : Edge Name Name) → redirected_edge (rename from) (rename to) (renamed_edge rename edge) ≡ renamed_edge rename (redirected_edge from to edge)
  edge_both from to edge =
      ap (λ (test : Bool). if test then record (renamed_edge rename edge) { target = rename to } else renamed_edge rename edge) (same_renamed rename apart edge.target from)
      ∙ by (same_name edge.target from)
    where
      by : (test : Bool) → (if test then record (renamed_edge rename edge) { target = rename to } else renamed_edge rename edge)
          ≡ renamed_edge rename (if test then record edge { target = to } else edge)
      by true = refl
      by false = refl

  edges_both : (from to : Name) (edges : List (Edge Name Name))
      → map (redirected_edge (rename from) (rename to)) (map (renamed_edge rename) edges) ≡ map (renamed_edge rename) (map (redirected_edge from to) edges)
  edges_both from to [] = refl
  edges_both from to (edge ∷ edges) =
      ap₂ (λ (first : Edge Name Name) (rest : List (Edge Name Name)). first ∷ rest) (edge_both from to edge) (edges_both from to edges)

  redirected_both : (branch from to : Name) (items items' : List Item) → AreRenamedItems rename items items' → AllZip (GoesAlong rename) items items'
      → AreRenamedItems rename (map (redirected_item branch from to) items) (map (redirected_item (rename branch) (rename from) (rename to)) items')
      × AllZip (GoesAlong rename) (map (redirected_item branch from to) items) (map (redirected_item (rename branch) (rename from) (rename to)) items')
  redirected_both branch from to [] [] are along = (tt, tt)
  redirected_both branch from to [] (x' ∷ items') are along = absurd are
  redirected_both branch from to (x ∷ items) [] are along = absurd are
  redirected_both branch from to (x ∷ items) (x' ∷ items') are along =
      let first = one x x' are.0 along.0 in
      let rest = redirected_both branch from to items items' are.1 along.1 in
      ((first.0, rest.0), (first.1, rest.1))
    where
      one : (item item' : Item) → IsRenamedItem rename item item' → GoesAlong rename item item'
          → IsRenamedItem rename (redirected_item branch from to item) (redirected_item (rename branch) (rename from) (rename to) item')
          × GoesAlong rename (redirected_item branch from to item) (redirected_item (rename branch) (rename from) (rename to) item')
      one (Instruct place instruction results) (Instruct other renamed names) is places = (
        (
          ap₂ (λ (test : Bool) (old : Instruction Name Name). if test then redirected_instruction (rename from) (rename to) old else old)
              (ap (λ (name : Name). same_name name (rename branch)) (sym places) ∙ same_renamed rename apart (answer_of place 0) branch) is.0
              ∙ by (same_name (answer_of place 0) branch),
          is.1,
        ),
        places,
      )
        where
          by : (test : Bool)
              → (if test then redirected_instruction (rename from) (rename to) (renamed_instruction rename instruction) else renamed_instruction rename instruction)
              ≡ renamed_instruction rename (if test then redirected_instruction from to instruction else instruction)
          by true = ap (λ (edges : List (Edge Name Name)). record (renamed_instruction rename instruction) { edges = edges }) (edges_both from to instruction.edges)
          by false = refl
      one (Use variable name) (Use other renamed) is places = (is, tt)
      one (Assign variable name) (Assign other renamed) is places = (is, tt)
      one (Instruct place instruction results) (Use other renamed) is places = absurd is
      one (Instruct place instruction results) (Assign other renamed) is places = absurd is
      one (Use variable name) (Instruct place instruction results) is places = absurd is
      one (Use variable name) (Assign other renamed) is places = absurd is
      one (Assign variable name) (Instruct place instruction results) is places = absurd is
      one (Assign variable name) (Use other renamed) is places = absurd is

  redirected_programs : (p p' : Program) (branch from to : Name) → IsRenamedSoFar rename p p'
      → IsRenamedSoFar rename (with_redirected p branch from to) (with_redirected p' (rename branch) (rename from) (rename to))
  redirected_programs p p' branch from to is = record {
    current = is.current;
    program = record {
      entry = is.program.entry;
      parameters = is.program.parameters;
      items = λ block. (redirected_both branch from to (p.items block) (p'.items (rename block)) (is.program.items block) (is.places block)).0;
    };
    places = λ block. (redirected_both branch from to (p.items block) (p'.items (rename block)) (is.program.items block) (is.places block)).1;
  }

  pub inserted : (p p' : Program) → IsRenamedSoFar rename p p' → IsRenamedSoFar rename (with_inserted p) (with_inserted p')
  inserted p p' is = record {
    current = is.current;
    program = record {
      entry = ap₂ first_block is.program.entry is.current ∙ first p.entry p.current;
      parameters = is.program.parameters;
      items = is.program.items;
    };
    places = is.places;
  }
    where
      first : (entry current : Option Name) → first_block (option_map rename entry) (option_map rename current) ≡ option_map rename (first_block entry current)
      first None current = refl
      first (Some entry) current = refl

  parameters_more : (p p' : Program) (block : Name) (names names' : List Name) → IsRenamedSoFar rename p p' → names' ≡ map rename names
      → IsRenamedSoFar rename (with_parameters p block names) (with_parameters p' (rename block) names')
  parameters_more p p' block names names' is same = record {
    current = is.current;
    program = record {
      entry = is.program.entry;
      parameters = λ other.
          ap (λ (test : Bool). if test then p'.parameters (rename other) ++ names' else p'.parameters (rename other)) (same_renamed rename apart other block)
          ∙ by other (same_name other block);
      items = is.program.items;
    };
    places = is.places;
  }
    where
      by : (other : Name) (c : Bool) → (if c then p'.parameters (rename other) ++ names' else p'.parameters (rename other)) ≡ map rename (if c then p.parameters other ++ names else p.parameters other)
      by other true = ap₂ (λ (xs ys : List Name). xs ++ ys) (is.program.parameters other) same ∙ sym (map-append rename (p.parameters other) names)
      by other false = is.program.parameters other

  -- the answers of a call whose place is renamed
  pub answers_renamed : (place place' : ℕ) → ((index : ℕ) → rename (answer_of place index) ≡ answer_of place' index) → (index : ℕ) (types : List «Type»)
      → answers_from place' index types ≡ map rename (answers_from place index types)
  answers_renamed place place' at index [] = refl
  answers_renamed place place' at index (ty ∷ types) =
      ap₂ (λ (name : Name) (names : List Name). name ∷ names) (sym (at index)) (answers_renamed place place' at (suc index) types)

  -- what one more call adds, that doesn't seal
  extended_both : (p p' : Program) (request : Request) → IsRenamedSoFar rename p p' → ((index : ℕ) → rename (answer_of p.place index) ≡ answer_of p'.place index)
      → IsRenamedSoFar rename (extended p request) (extended p' (renamed_request rename request))
  extended_both p p' request is at = by (renamed_program_effect rename request)
    where
      -- both by what they do
      of_programs : (q q' : Program) → extended p request ≡ q → extended p' (renamed_request rename request) ≡ q' → IsRenamedSoFar rename q q'
          → IsRenamedSoFar rename (extended p request) (extended p' (renamed_request rename request))
      of_programs q q' here there both =
          subst (λ (other : Program). IsRenamedSoFar rename other (extended p' (renamed_request rename request))) (sym here)
          (subst (λ (other : Program). IsRenamedSoFar rename q other) (sym there) both)

      of_request : (other : Request) → request ≡ other → IsRenamedSoFar rename (extended p other) (extended p' (renamed_request rename other))
          → IsRenamedSoFar rename (extended p request) (extended p' (renamed_request rename request))
      of_request other same both = subst (λ (r : Request). IsRenamedSoFar rename (extended p r) (extended p' (renamed_request rename r))) (sym same) both

      by : RenamedProgramEffect rename request → IsRenamedSoFar rename (extended p request) (extended p' (renamed_request rename request))
      by (BothLeave here there) = of_programs _ _ (here p) (there p') is
      by (BothInsert here there) = of_programs _ _ (here p) (there p') (inserted p p' is)
      by (BothTake block types here there) =
          of_programs _ _ (here p) (there p') (parameters_more p p' block _ _ is (answers_renamed p.place p'.place at 0 types))
      by (BothSwitch block same) =
          of_request _ same (record {
            current = refl;
            program = record { entry = is.program.entry; parameters = is.program.parameters; items = is.program.items };
            places = is.places;
          })
      by (BothAssign variable value same) = of_request _ same (item_more p p' _ _ is (refl, refl) tt)
      by (BothUse variable same) = of_request _ same (item_more (with_inserted p) (with_inserted p') _ _ (inserted p p' is) (refl, sym (at 0)) tt)
      by (BothBuild entries instruction same) =
          of_request _ same (item_more (with_inserted p) (with_inserted p') _ _ (inserted p p' is)
          (refl, answers_renamed p.place p'.place at 1 (result_types instruction.operation instruction.controlling)) (at 0))
      by (BothRedirect branch from to here there) = of_programs _ _ (here p) (there p') (redirected_programs p p' branch from to is)

  -- a call that seals adds nothing
  sealing_adds_nothing : (p : Program) (request : Request) → is_sealing request ≡ true → extended p request ≡ p
  sealing_adds_nothing p request is = by (sealing_is request is)
    where
      by : Seals request → extended p request ≡ p
      by (SealsOne block same) = ap (extended p) same
      by (SealsAll same) = ap (extended p) same

  -- the place aside
  pub placed : (p p' : Program) (n n' : ℕ) → IsRenamedSoFar rename p p' → IsRenamedSoFar rename (record p { place = n }) (record p' { place = n' })
  placed p p' n n' is = record { current = is.current; program = record { entry = is.program.entry; parameters = is.program.parameters; items = is.program.items }; places = is.places }

  -- after a call that seals, and after another one on both sides
  pub behind_seal : (p p' : Program) (request : Request) → is_sealing request ≡ true → IsRenamedSoFar rename p p' → IsRenamedSoFar rename (with_call p request) p'
  behind_seal p p' request seals is =
      subst (λ (q : Program). IsRenamedSoFar rename (record q { place = suc p.place }) p') (sym (sealing_adds_nothing p request seals)) (placed p p' (suc p.place) p'.place is)

  pub both_after : (p p' : Program) (request : Request) → IsRenamedSoFar rename p p' → ((index : ℕ) → rename (answer_of p.place index) ≡ answer_of p'.place index)
      → IsRenamedSoFar rename (with_call p request) (with_call p' (renamed_request rename request))
  both_after p p' request is at = placed (extended p request) (extended p' (renamed_request rename request)) (suc p.place) (suc p'.place) (extended_both p p' request is at)

  abbrev KeepsRenamed : Script → Type 0
  KeepsRenamed script = (p p' : Program) → IsRenamedSoFar rename p p' → Follows rename script p.place p'.place
      → IsRenamedSoFar rename (fold with_call p script) (fold with_call p' (map (renamed_request rename) (without_seals script)))

  -- the same after one more call, of which is told whether it seals
  abbrev BothAfter : Request → Script → Program → Program → Bool → Type 0
  BothAfter request script p p' seals = IsRenamedSoFar rename (fold with_call (with_call p request) script)
      (fold with_call p' (map (renamed_request rename) (cond (not seals) (request ∷ without_seals script) (without_seals script))))

  along_one : (request : Request) (script : Script) → KeepsRenamed script → KeepsRenamed (request ∷ script)
  along_one request script later p p' is follows =
      by (is_sealing request) refl
    where
      by : (c : Bool) → is_sealing request ≡ c → BothAfter request script p p' (is_sealing request)
      by true seals =
          subst (BothAfter request script p p') (sym seals)
          (later (with_call p request) p' (behind_seal p p' request seals is)
          (follows_seal rename request script p.place p'.place follows seals))
      by false stays =
          subst (BothAfter request script p p') (sym stays)
          (later (with_call p request) (with_call p' (renamed_request rename request))
          (both_after p p' request is (follows_here rename request script p.place p'.place follows stays))
          (follows_call rename request script p.place p'.place follows stays))

  along : (script : Script) → KeepsRenamed script
  along [] p p' is follows = is
  along (request ∷ script) p p' is follows = along_one request script (along script) p p' is follows

pub unsealed_program : (script : Script) → IsRenamedProgram (name_left script) (program_of script) (program_of (unsealed script))
unsealed_program script =
    (along (name_left script) (names_apart script) script empty_program empty_program
    (record { current = refl; program = record { entry = refl; parameters = λ block. refl; items = λ block. tt }; places = λ block. tt })
    (follows_at_first script)).program
