-- Programs behind an emission and its code in a line.
use Rattle.std.proofs.Common.{◌≡◌, ◌<◌, ◌≤◌, ◌+◌, ◌⊎◌, inl, inr, ℕ, zero, suc, List, [], ◌∷◌, ◌++◌, length, map, refl, sym, ◌∙◌, ap, arith, Option, Some, None}
use Rattle.std.specs.Prelude.{fold, if◌then◌else◌}
use Rattle.std.specs.List.{AllByRecursion, AllZip}
use Rattle.clif_types.specs.declared.types.«Type».{«Type»}
use Rattle.clif_meaning.specs.Instruction.{Instruction}
use Rattle.clif_meaning.specs.Ledger.{Ledger, answers_to, ledger_with}
use Rattle.clif_meaning.specs.Name.{Name, answer_of, same_name}
use Rattle.clif_meaning.specs.Program.{Program, Item, Instruct, answers_from, first_block, result_names, with_call, with_inserted}
use Rattle.clif_expansion.specs.Emission.{AreGenerated, AreGiven, LastResults, building, reading_behind, reading_emitted, reading_generated, results_as}
use Rattle.clif_expansion.specs.Joining.{results_at}
use Rattle.clif_expansion.specs.JoinedPrograms.{built_items}
use Rattle.clif_expansion.specs.Reading.{Generated, IsReadAs, Reading, ScriptName}
use Rattle.clif_expansion.specs.Walk.{IsGenerated}
use Rattle.clif_expansion.proofs.JoinedPrograms.{items_more, with_items_at}
use Rattle.clif_expansion.proofs.Joins.{read_before, read_either, read_there}
use Rattle.clif_expansion.proofs.Names.{same_script}

-- THE PROGRAM -------------------------------------------------------------------------------------------------------------

-- the program behind code in a line
abbrev pub built_program : Program → List (Instruction Name Name) → Instruction Name Name → Program
built_program program code last =
    record (with_items_at (with_inserted program) program.current (built_items program.place (code ++ last ∷ []))) { place = length code + suc program.place }

first_twice : (entry block : Option Name) → first_block (first_block entry block) block ≡ first_block entry block
first_twice None None = refl
first_twice None (Some block) = refl
first_twice (Some entry) block = refl

-- so it is for each current block
abbrev BuiltAt : Option Name → List (Instruction Name Name) → Type 0
BuiltAt current code =
    (place : ℕ) (entry : Option Name) (parameters : Name → List Name) (items : Name → List Item) (last : Instruction Name Name)
    → fold with_call (record { place = place; current = current; entry = entry; parameters = parameters; items = items }) (map building code ++ building last ∷ [])
    ≡ built_program (record { place = place; current = current; entry = entry; parameters = parameters; items = items }) code last

pub none_on : (n : ℕ) → n ≡ 0 + n
none_on n = omega arith

one_on : (n place : ℕ) → n + suc (suc place) ≡ suc n + suc place
one_on n place = omega arith

built_nowhere : (code : List (Instruction Name Name)) → BuiltAt None code
built_nowhere [] place entry parameters items last =
    λ i. record { place = none_on (suc place) i; current = None; entry = first_block entry None; parameters = parameters; items = items }
built_nowhere (first ∷ code) place entry parameters items last =
    built_nowhere code (suc place) (first_block entry None) parameters items last
    ∙ (λ i. record { place = one_on (length code) place i; current = None; entry = first_twice entry None i; parameters = parameters; items = items })

built_somewhere : (block : Name) (code : List (Instruction Name Name)) → BuiltAt (Some block) code
built_somewhere block [] place entry parameters items last =
    λ i. record {
      place = none_on (suc place) i;
      current = Some block;
      entry = first_block entry (Some block);
      parameters = parameters;
      items = λ other. if same_name other block then items other ++ Instruct place last (result_names place last) ∷ [] else items other;
    }
built_somewhere block (first ∷ code) place entry parameters items last =
    let item : Item = Instruct place first (result_names place first) in
    let rest : List Item = built_items (suc place) (code ++ last ∷ []) in
    let added : Name → List Item = λ other. if same_name other block then items other ++ item ∷ [] else items other in
    let program : Program = record { place = 0; current = Some block; entry = None; parameters = parameters; items = items } in
    built_somewhere block code (suc place) (first_block entry (Some block)) parameters added last
    ∙ (λ i. record {
      place = one_on (length code) place i;
      current = Some block;
      entry = first_twice entry (Some block) i;
      parameters = parameters;
      items = (items_more program (Some block) (item ∷ []) rest i).items;
    })

pub built : (program : Program) (code : List (Instruction Name Name)) (last : Instruction Name Name) → fold with_call program (map building code ++ building last ∷ []) ≡ built_program program code last
built program code last = by program.current
  where
    by : (current : Option Name)
        → fold with_call (record { place = program.place; current = current; entry = program.entry; parameters = program.parameters; items = program.items }) (map building code ++ building last ∷ [])
        ≡ built_program (record { place = program.place; current = current; entry = program.entry; parameters = program.parameters; items = program.items }) code last
    by None = built_nowhere code program.place program.entry program.parameters program.items last
    by (Some block) = built_somewhere block code program.place program.entry program.parameters program.items last

-- THE READING -------------------------------------------------------------------------------------------------------------

pub one_longer : {X : Type 0} (xs : List X) (x : X) → length (xs ++ x ∷ []) ≡ suc (length xs)
one_longer [] x = refl
one_longer (first ∷ xs) x = ap suc (one_longer xs x)

-- how many calls there are behind one more
longer : (ledger : Ledger) (instruction : Instruction Name Name) → length (ledger_with ledger (building instruction)).answers ≡ suc (length ledger.answers)
longer ledger instruction = one_longer ledger.answers (answers_to ledger (building instruction))

-- earlier names are read as before
pub emitted_before : (how : LastResults) (reading : Reading) (plain ledger : Ledger) (code : List (Instruction Name Name)) (x : Name) → x.place < length plain.answers
    → reading_behind how reading plain ledger code x ≡ reading x
emitted_before how reading plain ledger [] x below = read_before reading (length plain.answers) (results_as how (length ledger.answers)) x below
emitted_before how reading plain ledger (first ∷ code) x below =
    let more = longer plain first in
    emitted_before how (reading_generated reading plain) (ledger_with plain (building first)) ledger code x (omega (arith, below, more))
    ∙ read_before reading (length plain.answers) (λ index. Generated) x below

-- what is read is an answer of the emission, or was read before
pub emitted_either : (how : LastResults) (reading : Reading) (plain ledger : Ledger) (code : List (Instruction Name Name)) (x name : Name) → IsReadAs (reading_behind how reading plain ledger code) x name
    → ((length plain.answers ≤ x.place) × (name.place ≡ length ledger.answers)) ⊎ IsReadAs reading x name
emitted_either how reading plain ledger [] x name is = by (read_either reading (length plain.answers) (results_as how (length ledger.answers)) x (ScriptName name) is)
  where
    result_place : (so : LastResults) (k : ℕ) → results_as so (length ledger.answers) k ≡ ScriptName name → name.place ≡ length ledger.answers
    result_place AreGiven zero is = cc
    result_place AreGiven (suc k) is = ap (λ (n : Name). n.place) (sym (same_script (answer_of (length ledger.answers) k) name is))
    result_place AreGenerated k is = cc

    by : ((x.place ≡ length plain.answers) × (results_as how (length ledger.answers) x.index ≡ ScriptName name)) ⊎ IsReadAs reading x name
        → ((length plain.answers ≤ x.place) × (name.place ≡ length ledger.answers)) ⊎ IsReadAs reading x name
    by (inl new) = let place = new.0 in inl (omega (arith, place), result_place how x.index new.1)
    by (inr old) = inr old
emitted_either how reading plain ledger (first ∷ code) x name is =
    by (emitted_either how (reading_generated reading plain) (ledger_with plain (building first)) ledger code x name is)
  where
    generated : ((x.place ≡ length plain.answers) × (Generated ≡ ScriptName name)) ⊎ IsReadAs reading x name → IsReadAs reading x name
    generated (inl new) = let apart = new.1 in cc
    generated (inr old) = old

    by : ((length (ledger_with plain (building first)).answers ≤ x.place) × (name.place ≡ length ledger.answers)) ⊎ IsReadAs (reading_generated reading plain) x name
        → ((length plain.answers ≤ x.place) × (name.place ≡ length ledger.answers)) ⊎ IsReadAs reading x name
    by (inl new) = let more = longer plain first in let below = new.0 in inl (omega (arith, more, below), new.1)
    by (inr old) = inr (generated (read_either reading (length plain.answers) (λ index. Generated) x (ScriptName name) old))

-- what the calls before the last one answer is generated
pub emitted_inner : (how : LastResults) (reading : Reading) (plain ledger : Ledger) (code : List (Instruction Name Name)) (place k index : ℕ) → place ≡ length plain.answers + k → k < length code
    → reading_behind how reading plain ledger code (answer_of place index) ≡ Generated
emitted_inner how reading plain ledger [] place k index is below = absurd (omega (arith, below))
emitted_inner how reading plain ledger (first ∷ code) place zero index is below =
    let here : place ≡ length plain.answers = omega (arith, is) in
    let more = longer plain first in
    emitted_before how (reading_generated reading plain) (ledger_with plain (building first)) ledger code (answer_of place index) (omega (arith, here, more))
    ∙ ap (λ (n : ℕ). reading_generated reading plain (answer_of n index)) here
    ∙ read_there reading (length plain.answers) index (λ index. Generated)
emitted_inner how reading plain ledger (first ∷ code) place (suc k) index is below =
    let more = longer plain first in
    emitted_inner how (reading_generated reading plain) (ledger_with plain (building first)) ledger code place k index (omega (arith, is, more)) (omega (arith, below))

-- what is generated is an answer of a call so far
pub emitted_generated : (how : LastResults) (reading : Reading) (plain ledger : Ledger) (code : List (Instruction Name Name)) → ((x : Name) → reading x ≡ Generated → x.place < length plain.answers)
    → (x : Name) → reading_behind how reading plain ledger code x ≡ Generated → x.place < length code + suc (length plain.answers)
emitted_generated how reading plain ledger [] made x is = by (read_either reading (length plain.answers) (results_as how (length ledger.answers)) x Generated is)
  where
    by : ((x.place ≡ length plain.answers) × (results_as how (length ledger.answers) x.index ≡ Generated)) ⊎ (reading x ≡ Generated) → x.place < 0 + suc (length plain.answers)
    by (inl new) = let place = new.0 in omega (arith, place)
    by (inr old) = let below = made x old in omega (arith, below)
emitted_generated how reading plain ledger (first ∷ code) made x is =
    let more = longer plain first in
    let below = emitted_generated how (reading_generated reading plain) (ledger_with plain (building first)) ledger code made_next x is in
    omega (arith, more, below)
  where
    made_next : (y : Name) → reading_generated reading plain y ≡ Generated → y.place < length (ledger_with plain (building first)).answers
    made_next y stands = by (read_either reading (length plain.answers) (λ index. Generated) y Generated stands)
      where
        by : ((y.place ≡ length plain.answers) × (Generated ≡ Generated)) ⊎ (reading y ≡ Generated) → y.place < length (ledger_with plain (building first)).answers
        by (inl new) = let more = longer plain first in let place = new.0 in omega (arith, more, place)
        by (inr old) = let more = longer plain first in let below = made y old in omega (arith, more, below)

-- the last call's results are the emission's
pub emitted_result : (reading : Reading) (plain ledger : Ledger) (code : List (Instruction Name Name)) (place index : ℕ) → place ≡ length plain.answers + length code
    → IsReadAs (reading_emitted reading plain ledger code) (answer_of place (suc index)) (answer_of (length ledger.answers) index)
emitted_result reading plain ledger [] place index is =
    let here : place ≡ length plain.answers = omega (arith, is) in
    ap (λ (n : ℕ). reading_emitted reading plain ledger [] (answer_of n (suc index))) here
    ∙ read_there reading (length plain.answers) (suc index) (results_at (length ledger.answers))
emitted_result reading plain ledger (first ∷ code) place index is =
    let more = longer plain first in
    emitted_result (reading_generated reading plain) (ledger_with plain (building first)) ledger code place index (omega (arith, is, more))

-- or are generated
pub emitted_none : (reading : Reading) (plain ledger : Ledger) (code : List (Instruction Name Name)) (place index : ℕ) → place ≡ length plain.answers + length code
    → reading_behind AreGenerated reading plain ledger code (answer_of place index) ≡ Generated
emitted_none reading plain ledger [] place index is =
    let here : place ≡ length plain.answers = omega (arith, is) in
    ap (λ (n : ℕ). reading_behind AreGenerated reading plain ledger [] (answer_of n index)) here
    ∙ read_there reading (length plain.answers) index (λ k. Generated)
emitted_none reading plain ledger (first ∷ code) place index is =
    let more = longer plain first in
    emitted_none (reading_generated reading plain) (ledger_with plain (building first)) ledger code place index (omega (arith, is, more))

pub results_generated : (reading : Reading) (place : ℕ) (types : List «Type») (index : ℕ) → ((k : ℕ) → reading (answer_of place k) ≡ Generated)
    → AllByRecursion (IsGenerated reading) (answers_from place index types)
results_generated reading place [] index generated = tt
results_generated reading place (ty ∷ types) index generated = (generated index, results_generated reading place types (suc index) generated)

-- ANSWERS -----------------------------------------------------------------------------------------------------------------

-- results of two calls at these places, the one's numbers one further than the other's
pub results_read : (reading : Reading) (place other : ℕ) (types : List «Type») (index : ℕ)
    → ((k : ℕ) → IsReadAs reading (answer_of place (suc k)) (answer_of other k))
    → AllZip (IsReadAs reading) (answers_from place (suc index) types) (answers_from other index types)
results_read reading place other [] index read = tt
results_read reading place other (ty ∷ types) index read = (read index, results_read reading place other types (suc index) read)
