-- What each kind of call does to the program so far: its items, its current block and its entry.
use Rattle.std.proofs.Common.{◌≡◌, ℕ, List, [], ◌∷◌, ◌++◌, length, refl, sym, ◌∙◌, ap, subst, Some, None, Bool, true, false}
use Rattle.std.specs.Prelude.{slice_get, Option, if◌then◌else◌}
use Rattle.clif_ir.specs.Body.{Body}
use Rattle.clif_ir.specs.Changes.{inserted_in, with_layout}
use Rattle.clif_instructions.specs.Members.{stands_in}
use Rattle.clif_ssa.specs.Sound.{entry_of}
use Rattle.clif_meaning.specs.Name.{Name, answer_of}
use Rattle.clif_meaning.specs.Instruction.{Instruction}
use Rattle.clif_meaning.specs.Request.{Request, SwitchToBlock, EnsureInsertedBlock, DefVar, UseVar, Build, GivenEntry, AnsweredCall}
use Rattle.clif_meaning.specs.Program.{Program, Instruct, Use, Assign, extended, with_call, with_item_at, with_inserted, first_block, result_names}
use Rattle.clif_simulation.specs.Tables.{program_so_far, block_name}
use Rattle.clif_simulation.specs.Carries.{HasEntry}
use Rattle.clif_simulation.proofs.Numbers.{program_longer, place_so_far}
use Rattle.clif_meaning.proofs.Effects.{MakesNoParameter, MakesNoBlock}
use Rattle.clif_simulation.proofs.ItemCalls.{PutsItem}

module _ (calls : List AnsweredCall) (call : AnsweredCall) where
  abbrev longer : Program
  longer = program_so_far (calls ++ call ∷ [])

  abbrev before : Program
  before = program_so_far calls

  -- the program with this call
  program_with : (request : Request) → call.request ≡ request → longer ≡ with_call before request
  program_with request is = program_longer calls call ∙ ap (with_call before) is

  -- a call that adds nothing to the program leaves items and entry
  pub items_left : ((program : Program) → extended program call.request ≡ program) → (N : Name) → longer.items N ≡ before.items N
  items_left leaves N = ap (λ (p : Program). p.items N) (program_longer calls call) ∙ ap (λ (p : Program). p.items N) (leaves before)

  pub entry_left : ((program : Program) → extended program call.request ≡ program) → longer.entry ≡ before.entry
  entry_left leaves = ap (λ (p : Program). p.entry) (program_longer calls call) ∙ ap (λ (p : Program). p.entry) (leaves before)

  -- so does one that switches to a block
  pub items_switched : (block : Name) → call.request ≡ SwitchToBlock block → (N : Name) → longer.items N ≡ before.items N
  items_switched block is N = ap (λ (p : Program). p.items N) (program_with (SwitchToBlock block) is)

  pub entry_switched : (block : Name) → call.request ≡ SwitchToBlock block → longer.entry ≡ before.entry
  entry_switched block is = ap (λ (p : Program). p.entry) (program_with (SwitchToBlock block) is)

  -- one that puts the current block into the layout leaves items
  pub items_ensured : call.request ≡ EnsureInsertedBlock → (N : Name) → longer.items N ≡ before.items N
  items_ensured is N = ap (λ (p : Program). p.items N) (program_with EnsureInsertedBlock is)

  pub entry_ensured : (B : Name) → before.current ≡ Some B → call.request ≡ EnsureInsertedBlock → longer.entry ≡ first_block before.entry (Some B)
  entry_ensured B current is = ap (λ (p : Program). p.entry) (program_with EnsureInsertedBlock is) ∙ ap (first_block before.entry) current

  -- an item in the current block
  module _ (B : Name) (current : before.current ≡ Some B) where
    pub puts_use : (x : ℕ) → call.request ≡ UseVar x → PutsItem calls call B (Use x (answer_of (length calls) 0))
    puts_use x is = record {
      items = λ N.
          ap (λ (p : Program). p.items N) (program_with (UseVar x) is)
          ∙ ap (λ (o : Option Name). (with_item_at (with_inserted before) o (Use x (answer_of before.place 0))).items N) current
          ∙ ap (λ (place : ℕ). (with_item_at before (Some B) (Use x (answer_of place 0))).items N) (place_so_far calls);
      no_block = subst MakesNoBlock (sym is) tt;
      no_parameter = subst MakesNoParameter (sym is) tt;
    }

    pub entry_used : (x : ℕ) → call.request ≡ UseVar x → longer.entry ≡ first_block before.entry (Some B)
    entry_used x is =
        ap (λ (p : Program). p.entry) (program_with (UseVar x) is)
        ∙ ap (λ (o : Option Name). (with_item_at (with_inserted before) o (Use x (answer_of before.place 0))).entry) current
        ∙ ap (first_block before.entry) current

    pub puts_assignment : (x : ℕ) (n : Name) → call.request ≡ DefVar x n → PutsItem calls call B (Assign x n)
    puts_assignment x n is = record {
      items = λ N.
          ap (λ (p : Program). p.items N) (program_with (DefVar x n) is)
          ∙ ap (λ (o : Option Name). (with_item_at before o (Assign x n)).items N) current;
      no_block = subst MakesNoBlock (sym is) tt;
      no_parameter = subst MakesNoParameter (sym is) tt;
    }

    pub entry_assigned : (x : ℕ) (n : Name) → call.request ≡ DefVar x n → longer.entry ≡ before.entry
    entry_assigned x n is =
        ap (λ (p : Program). p.entry) (program_with (DefVar x n) is) ∙ ap (λ (o : Option Name). (with_item_at before o (Assign x n)).entry) current

    pub puts_instruction : (entries : List GivenEntry) (instruction : Instruction Name Name) → call.request ≡ Build entries instruction
        → PutsItem calls call B (Instruct (length calls) instruction (result_names (length calls) instruction))
    puts_instruction entries instruction is = record {
      items = λ N.
          ap (λ (p : Program). p.items N) (program_with (Build entries instruction) is)
          ∙ ap (λ (o : Option Name). (with_item_at (with_inserted before) o (Instruct before.place instruction (result_names before.place instruction))).items N) current
          ∙ ap (λ (place : ℕ). (with_item_at before (Some B) (Instruct place instruction (result_names place instruction))).items N) (place_so_far calls);
      no_block = subst MakesNoBlock (sym is) tt;
      no_parameter = subst MakesNoParameter (sym is) tt;
    }

    pub entry_instructed : (entries : List GivenEntry) (instruction : Instruction Name Name) → call.request ≡ Build entries instruction → longer.entry ≡ first_block before.entry (Some B)
    entry_instructed entries instruction is =
        ap (λ (p : Program). p.entry) (program_with (Build entries instruction) is)
        ∙ ap (λ (o : Option Name). (with_item_at (with_inserted before) o (Instruct before.place instruction (result_names before.place instruction))).entry) current
        ∙ ap (first_block before.entry) current

-- The entry stays.
pub entry_stays : (calls calls' : List AnsweredCall) (f g : Body) → (program_so_far calls').entry ≡ (program_so_far calls).entry → entry_of g ≡ entry_of f
    → ((c : ℕ) (N : Name) → block_name calls c ≡ Some N → block_name calls' c ≡ Some N) → HasEntry calls f → HasEntry calls' g
entry_stays calls calls' f g program function names has = record {
  none = λ none. function ∙ has.none (sym program ∙ none);
  some = λ entry is. let e = has.some entry (sym program ∙ is) in (e.0, function ∙ e.1, names e.0 entry e.2);
}

-- the entry of a layout after a block is brought into it
layout_first : (f : Body) (b : ℕ) → (layout : List ℕ) → f.layout ≡ layout → (slice_get layout 0 ≡ None → entry_of (inserted_in f b) ≡ Some b) × ((e : ℕ) → slice_get layout 0 ≡ Some e → entry_of (inserted_in f b) ≡ Some e)
layout_first f b [] is = (λ none. by (stands_in b f.layout) (ap (stands_in b) is), λ e some. absurd (differ e some))
  where
    by : (c : Bool) → c ≡ false → entry_of (if c then f else with_layout f b) ≡ Some b
    by true false_is = absurd (apart false_is)
      where
        apart : true ≡ false → ⊥
        apart h = cc
    by false h = ap (λ (l : List ℕ). slice_get (l ++ b ∷ []) 0) is

    differ : (e : ℕ) → None ≡ Some e → ⊥
    differ e h = cc
layout_first f b (c ∷ layout) is = (λ none. absurd (differ none), λ e some. by e some (stands_in b f.layout))
  where
    differ : Some c ≡ None → ⊥
    differ h = cc

    by : (e : ℕ) → Some c ≡ Some e → (t : Bool) → entry_of (if t then f else with_layout f b) ≡ Some e
    by e some true = ap (λ (l : List ℕ). slice_get l 0) is ∙ some
    by e some false = ap (λ (l : List ℕ). slice_get (l ++ b ∷ []) 0) is ∙ some

-- The current block is brought into the layout, and is the entry if it is the first one there.
pub entry_begun : (calls calls' : List AnsweredCall) (f g : Body) (b : ℕ) (B : Name) → (program_so_far calls').entry ≡ first_block (program_so_far calls).entry (Some B)
    → g.layout ≡ (inserted_in f b).layout → block_name calls b ≡ Some B
    → ((c : ℕ) (N : Name) → block_name calls c ≡ Some N → block_name calls' c ≡ Some N) → HasEntry calls f → HasEntry calls' g
entry_begun calls calls' f g b B program layout named names has = by (program_so_far calls).entry refl
  where
    first : (slice_get f.layout 0 ≡ None → entry_of (inserted_in f b) ≡ Some b) × ((e : ℕ) → slice_get f.layout 0 ≡ Some e → entry_of (inserted_in f b) ≡ Some e)
    first = layout_first f b f.layout refl

    same : entry_of g ≡ entry_of (inserted_in f b)
    same = ap (λ (l : List ℕ). slice_get l 0) layout

    some_differs : (N : Name) (o : Option Name) → o ≡ Some N → o ≡ None → ⊥
    some_differs N o some none = cc

    one : (M N : Name) (o : Option Name) → o ≡ Some M → o ≡ Some N → M ≡ N
    one M N o first second = cc

    by : (o : Option Name) → (program_so_far calls).entry ≡ o → HasEntry calls' g
    by None is =
        let now : (program_so_far calls').entry ≡ Some B = program ∙ ap (λ (o : Option Name). first_block o (Some B)) is in
        record {
          none = λ none. absurd (some_differs B (program_so_far calls').entry now none);
          some = λ entry some. (b, same ∙ first.0 (has.none is), names b B named ∙ ap (λ (N : Name). Some N) (one B entry (program_so_far calls').entry now some));
        }
    by (Some E) is =
        let now : (program_so_far calls').entry ≡ Some E = program ∙ ap (λ (o : Option Name). first_block o (Some B)) is in
        let e = has.some E is in
        record {
          none = λ none. absurd (some_differs E (program_so_far calls').entry now none);
          some = λ entry some. (e.0, same ∙ first.1 e.0 e.1, names e.0 E e.2 ∙ ap (λ (N : Name). Some N) (one E entry (program_so_far calls').entry now some));
        }
