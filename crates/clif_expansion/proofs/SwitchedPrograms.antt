-- Programs behind a switch that is emitted and its code in blocks of its own.
use Rattle.std.proofs.Common.{◌≡◌, ◌<◌, ◌≤◌, ◌+◌, ◌⊎◌, inl, inr, ℕ, suc, Bool, true, false, List, [], ◌∷◌, ◌++◌, length, refl, sym, ◌∙◌, ap, subst, arith, Option, Some, None}
use Rattle.std.specs.Prelude.{Contains, IsTrue, fold, if◌then◌else◌}
use Rattle.std.specs.List.{AllByRecursion, AllZip}
use Rattle.clif_types.specs.declared.types.«Type».{«Type»}
use Rattle.clif_meaning.specs.Instruction.{Argument, Edge, Instruction}
use Rattle.clif_meaning.specs.Ledger.{Ledger, has_block, ledger_after, ledger_with}
use Rattle.clif_meaning.specs.Name.{Name, answer_of, same_name}
use Rattle.clif_meaning.specs.Program.{Program, Item, first_block, program_of, with_call, with_inserted}
use Rattle.clif_meaning.specs.Request.{CreateBlock, SwitchToBlock, SealBlock, MakeEdge, MakeJumpTable, Build, Script}
use Rattle.clif_meaning.specs.WellPlaced.{item_targets}
use Rattle.clif_expansion.specs.Emission.{reading_across}
use Rattle.clif_expansion.specs.Expansion.{AreCut, IsCutProgram, IsReadBlock}
use Rattle.clif_expansion.specs.JoinedPrograms.{DecidesAlong, IsDecidingItem}
use Rattle.clif_expansion.specs.Joining.{IsJoined, IsUnread}
use Rattle.clif_expansion.specs.Reading.{Generated, IsOneToOne, IsReadArgument, IsReadAs, IsReadEdge, IsReadInstruction, Reading, ScriptName}
use Rattle.clif_expansion.specs.ScriptCall.{emitted_item}
use Rattle.clif_expansion.specs.Switching.{IsDecidingCall, IsSwitchCode, LeadsInside, LeadsToBlocks, switching, targets_of}
use Rattle.clif_expansion.specs.Walk.{IsGenerated}
use Rattle.clif_expansion.proofs.Across.{across_generated, across_inside, across_read}
use Rattle.clif_expansion.proofs.BlockNames.{script_apart, there_made}
use Rattle.clif_expansion.proofs.CalledPrograms
use Rattle.clif_expansion.proofs.DecidingPrograms.{AllBuilt, AllSwitched, Grown, cancelled, entry_of, grown_more, starting}
use Rattle.clif_expansion.proofs.JoinedPrograms.{IsBareFrom, IsBefore, IsCalledSo, KeepsOwn, LastsIn, LastsLater, bare_items, cut_inserted, cut_items, with_items_at}
use Rattle.clif_expansion.proofs.Joins.{GoesOn}
use Rattle.clif_expansion.proofs.Names.{equal_names, names_equal}
use Rattle.clif_expansion.proofs.Placing.{contained_first, contained_in, contained_later, contained_left, none_contained}
use Rattle.clif_expansion.proofs.SwitchedLedgers

-- what stands among names that are read
pub target_read : (reading : Reading) (edges' edges : List (Edge Name Name)) → AllZip (IsReadEdge reading) edges' edges → (x : Name) → Contains (targets_of edges') x
    → (name : Name) × IsReadAs reading x name × Contains (targets_of edges) name
target_read reading [] edges are x there = absurd (none_contained x there)
target_read reading (edge' ∷ edges') [] are x there = absurd are
target_read reading (edge' ∷ edges') (edge ∷ edges) are x there = by (contained_in edge'.target (targets_of edges') x there) (target_read reading edges' edges are.1 x)
  where
    by : (edge'.target ≡ x) ⊎ Contains (targets_of edges') x → (Contains (targets_of edges') x → (name : Name) × IsReadAs reading x name × Contains (targets_of edges) name)
        → (name : Name) × IsReadAs reading x name × Contains (targets_of (edge ∷ edges)) name
    by (inl same) rest = (edge.target, ap reading (sym same) ∙ are.0.target, contained_first edge.target (targets_of edges))
    by (inr further) rest = let found = rest further in (found.0, found.1, contained_later edge.target (targets_of edges) found.0 found.2)

-- edges that pass nothing, read
none_read : (reading : Reading) (arguments' arguments : List (Argument Name)) → AllZip (IsReadArgument reading) arguments' arguments → arguments' ≡ [] → arguments ≡ []
none_read reading [] [] are none = refl
none_read reading [] (argument ∷ arguments) are none = absurd are
none_read reading (argument' ∷ arguments') arguments are none = let no_way : ⊥ = cc in absurd no_way

pub nothing_read : (reading : Reading) (edges' edges : List (Edge Name Name)) → AllZip (IsReadEdge reading) edges' edges → AllByRecursion (λ edge. edge.arguments ≡ []) edges'
    → AllByRecursion (λ edge. edge.arguments ≡ []) edges
nothing_read reading [] [] are all = tt
nothing_read reading [] (edge ∷ edges) are all = absurd are
nothing_read reading (edge' ∷ edges') [] are all = absurd are
nothing_read reading (edge' ∷ edges') (edge ∷ edges) are all = (none_read reading edge'.arguments edge.arguments are.0.arguments all.0, nothing_read reading edges' edges are.1 all.1)

pub all_two : {X : Type 0} (P Q : X → Type 0) (xs : List X) → AllByRecursion (λ x. P x × Q x) xs → AllByRecursion P xs × AllByRecursion Q xs
all_two P Q [] all = (tt, tt)
all_two P Q (x ∷ xs) all = let rest = all_two P Q xs all.1 in ((all.0.0, rest.0), (all.0.1, rest.1))

module _ (reading : Reading) (plain more : Script) (ledger : Ledger) (joined : IsJoined reading (ledger_after plain) ledger) (block here value : Name) (ty : «Type») (keys : List ℕ)
    (edges : List (Edge Name Name)) (switch : Instruction Name Name) (branches tables : ℕ)
    (at' : (ledger_after plain).current ≡ Some block) (at : ledger.current ≡ Some here) (is_block : IsReadAs reading block here)
    (is : IsReadInstruction reading (switching keys ty value edges) switch) (code : IsSwitchCode plain more block value ty keys edges branches tables)
    (place : length plain ≡ length (ledger_after plain).answers) (end_is : ledger_after (plain ++ more) ≡ fold ledger_with (ledger_after plain) more) where
  abbrev base : ℕ
  base = length plain

  abbrev count : ℕ
  count = length more

  abbrev pub across : Reading
  across = reading_across reading base count

  abbrev made : ℕ
  made = length ledger.answers

  pub on : GoesOn reading across made (suc made)
  on = SwitchedLedgers.on reading plain more ledger joined block here value ty keys edges switch branches tables at' at is_block is code place end_is

  many : length (ledger_after (plain ++ more)).answers ≡ base + count
  many = SwitchedLedgers.many reading plain more ledger joined block here value ty keys edges switch branches tables at' at is_block is code place end_is

  kept : (x name : Name) → IsReadAs reading x name → x.place < base
  kept x name read = subst (λ (n : ℕ). x.place < n) (sym place) (joined.made x name read).0

  there_own : (x : Name) → base ≤ x.place → IsTrue (has_block (ledger_after (plain ++ more)) x) → IsGenerated across x
  there_own x from there =
      let below : x.place < length (ledger_after (plain ++ more)).answers =
      there_made (length (ledger_after (plain ++ more)).answers) x (ledger_after (plain ++ more)).blocks (script_apart (plain ++ more)).made there in
      across_inside reading base count x from (omega (arith, below, many))

  -- the item of the switch
  abbrev pub item : Item
  item = emitted_item made switch

  -- EDGES -----------------------------------------------------------------------------------------------------------------

  edges_decide : (list : List (Edge Name Name)) → AllByRecursion (LeadsInside base (targets_of edges)) list
      → AllByRecursion (λ edge. base ≤ edge.target.place → IsTrue (has_block (ledger_after (plain ++ more)) edge.target)) list → AllByRecursion (DecidesAlong across item) list
  edges_decide [] inside there = tt
  edges_decide (edge ∷ list) inside there = (record { nothing = inside.0.nothing; leads = by inside.0.inside }, edges_decide list inside.1 there.1)
    where
      by : (base ≤ edge.target.place) ⊎ Contains (targets_of edges) edge.target
          → IsGenerated across edge.target ⊎ ((name : Name) × IsReadAs across edge.target name × Contains (item_targets (Some item)) name)
      by (inl from) = inl (there_own edge.target from (there.0 from))
      by (inr target) =
          let read = target_read reading edges switch.edges is.edges edge.target target in
          inr (read.0, on.keeps edge.target read.0 read.1, read.2)

  -- all that is built decides, and its results are generated
  abbrev pub IsBuiltSo : (KnownItem : Item → Type 0) → Item → Type 0
  IsBuiltSo KnownItem built = IsDecidingItem across item built × KnownItem built

  all_decide : (KnownItem : Item → Type 0) (list : Script) (n k : ℕ) → n ≡ base + k → k + length list ≡ count
      → AllByRecursion (IsDecidingCall base (length (ledger_after plain).jump_tables) (targets_of edges)) list → AllByRecursion (LeadsToBlocks base (ledger_after (plain ++ more))) list
      → AllBuilt KnownItem n list → AllBuilt (IsBuiltSo KnownItem) n list
  all_decide KnownItem [] n k from whole deciding leads known = tt
  all_decide KnownItem (Build entries instruction ∷ list) n k from whole deciding leads known = (
    (
      record {
        own = across_inside reading base count (answer_of n 0) (omega (arith, from)) (omega (arith, from, whole));
        deciding = deciding.0.0.deciding;
        contexts = deciding.0.0.contexts;
        edges = edges_decide instruction.edges deciding.0.0.edges leads.0;
      },
      known.0,
    ),
    all_decide KnownItem list (suc n) (suc k) (omega (arith, from)) (omega (arith, whole)) deciding.1 leads.1 known.1,
  )
  all_decide KnownItem (CreateBlock ∷ list) n k from whole deciding leads known = all_decide KnownItem list (suc n) (suc k) (omega (arith, from)) (omega (arith, whole)) deciding.1 leads.1 known
  all_decide KnownItem (SwitchToBlock x ∷ list) n k from whole deciding leads known = all_decide KnownItem list (suc n) (suc k) (omega (arith, from)) (omega (arith, whole)) deciding.1 leads.1 known
  all_decide KnownItem (SealBlock x ∷ list) n k from whole deciding leads known = all_decide KnownItem list (suc n) (suc k) (omega (arith, from)) (omega (arith, whole)) deciding.1 leads.1 known
  all_decide KnownItem (MakeEdge edge ∷ list) n k from whole deciding leads known = all_decide KnownItem list (suc n) (suc k) (omega (arith, from)) (omega (arith, whole)) deciding.1 leads.1 known
  all_decide KnownItem (MakeJumpTable default entries ∷ list) n k from whole deciding leads known =
      all_decide KnownItem list (suc n) (suc k) (omega (arith, from)) (omega (arith, whole)) deciding.1 leads.1 known
  all_decide KnownItem (_ ∷ list) n k from whole deciding leads known = absurd deciding.0

  -- a block that was generated by this code
  abbrev pub IsNew : Name → Type 0
  IsNew x = (base ≤ x.place) × IsGenerated across x

  all_switched : (list : Script) → AllByRecursion (IsDecidingCall base (length (ledger_after plain).jump_tables) (targets_of edges)) list
      → AllByRecursion (LeadsToBlocks base (ledger_after (plain ++ more))) list → AllSwitched IsNew list
  all_switched [] deciding leads = tt
  all_switched (SwitchToBlock x ∷ list) deciding leads = ((deciding.0, there_own x deciding.0 leads.0), all_switched list deciding.1 leads.1)
  all_switched (CreateBlock ∷ list) deciding leads = all_switched list deciding.1 leads.1
  all_switched (SealBlock x ∷ list) deciding leads = all_switched list deciding.1 leads.1
  all_switched (MakeEdge edge ∷ list) deciding leads = all_switched list deciding.1 leads.1
  all_switched (MakeJumpTable default entries ∷ list) deciding leads = all_switched list deciding.1 leads.1
  all_switched (Build entries instruction ∷ list) deciding leads = all_switched list deciding.1 leads.1
  all_switched (_ ∷ list) deciding leads = absurd deciding.0

  -- THE PLAIN PROGRAM -----------------------------------------------------------------------------------------------------

  module _ (KnownItem : Item → Type 0) (known : AllBuilt KnownItem base more) (same' : (program_of plain).current ≡ (ledger_after plain).current) (place' : (program_of plain).place ≡ length (ledger_after plain).answers)
      (program_is : program_of (plain ++ more) ≡ fold with_call (program_of plain) more) where
    abbrev start : Program
    start = program_of plain

    abbrev end' : Program
    end' = program_of (plain ++ more)

    abbrev Q : Item → Type 0
    Q = IsBuiltSo KnownItem

    pub grown : Grown Q IsNew block base (length (ledger_after plain).jump_tables) (targets_of edges) start end'
    grown =
        subst (Grown Q IsNew block base (length (ledger_after plain).jump_tables) (targets_of edges) start) (sym program_is)
        (grown_more Q IsNew block base (length (ledger_after plain).jump_tables) (targets_of edges) start more start code.calls
        (subst (λ (n : ℕ). AllBuilt Q n more) (place ∙ sym place') (all_decide KnownItem more base 0 (nothing base) (first_of count) code.calls code.blocks known))
        (all_switched more code.calls code.blocks)
        (starting Q IsNew block base (length (ledger_after plain).jump_tables) (targets_of edges) start (same' ∙ at')))
      where
        nothing : (n : ℕ) → n ≡ n + 0
        nothing n = omega arith

        first_of : (n : ℕ) → 0 + n ≡ n
        first_of n = omega arith

    pub end_entry : end'.entry ≡ first_block start.entry (Some block)
    end_entry =
        ap (λ (p : Program). p.entry) program_is
        ∙ entry_of base (length (ledger_after plain).jump_tables) (targets_of edges) block more start code.calls code.begins (same' ∙ at')

    -- the code is what was built in the block
    pub code_built : AllByRecursion Q code.code
    code_built =
        let was = grown.each block in
        subst (AllByRecursion Q) (cancelled (start.items block) was.new code.code (sym was.split ∙ code.stands)) was.all

    none_more : (xs : List Item) → xs ++ [] ≡ xs
    none_more [] = refl
    none_more (x ∷ xs) = ap (λ (rest : List Item). x ∷ rest) (none_more xs)

    -- elsewhere nothing was built, but in new blocks
    pub untouched : (x : Name) → (x ≡ block → ⊥) → (IsNew x → ⊥) → end'.items x ≡ start.items x
    untouched x other named = by (grown.each x).side
      where
        by : ((grown.each x).new ≡ []) ⊎ (x ≡ block) ⊎ IsNew x → end'.items x ≡ start.items x
        by (inl none) = (grown.each x).split ∙ ap (λ (xs : List Item). start.items x ++ xs) none ∙ none_more (start.items x)
        by (inr (inl same)) = absurd (other same)
        by (inr (inr own)) = absurd (named own)

    -- a block that was generated before stays as it is
    pub old_same : (x : Name) → IsGenerated reading x → end'.items x ≡ start.items x
    old_same x own =
        let below : x.place < length (ledger_after plain).answers = joined.generated x own in
        untouched x (λ same. let apart : Generated ≡ ScriptName here = sym own ∙ ap reading same ∙ is_block in let no_way : ⊥ = cc in no_way)
        (λ new. let from = new.0 in omega (arith, below, from, place))

    -- in a new one all was built now
    pub new_built : (bare' : IsBareFrom (length (ledger_after plain).answers) start) (x : Name) → base ≤ x.place → AllByRecursion Q (end'.items x)
    new_built bare' x from =
        let was = grown.each x in
        let none : start.items x ≡ [] = (bare' x (subst (λ (n : ℕ). n ≤ x.place) place from)).0 in
        subst (AllByRecursion Q) (sym (was.split ∙ ap (λ (xs : List Item). xs ++ was.new) none)) was.all

    -- THE PROGRAMS --------------------------------------------------------------------------------------------------------

    module _ (Known : Reading → List Item → Item → Type 0) (lasts : LastsLater Known)
        (Decided : Reading → Program → List Item → Item → Type 0) (lasts_in : LastsIn Decided) (program : Program)
        (goes : CalledPrograms.GoesWith Known lasts Decided lasts_in KnownItem reading (ledger_after plain) ledger start program)
        (decided : Decided across end' code.code item) (apart : IsOneToOne across) where
      abbrev IsCalledAt : ℕ → Program → List Item → Item → Type 0
      IsCalledAt n p = IsCalledSo Known Decided across n p

      abbrev IsOwnAt : ℕ → (p q : Program) → Name → Type 0
      IsOwnAt n p q x = CalledPrograms.IsOwnBlock Known lasts Decided lasts_in KnownItem across n p q x

      -- what is generated was so before, or is an answer to the code's calls
      either : (x : Name) → IsGenerated across x → IsNew x ⊎ IsGenerated reading x
      either x own = by (across_generated reading base count x own)
        where
          by : ((base ≤ x.place) × (x.place < base + count)) ⊎ IsGenerated reading x → IsNew x ⊎ IsGenerated reading x
          by (inl new) = inl (new.0, own)
          by (inr old) = inr old

      bare_start : (x : Name) → base ≤ x.place → (start.items x ≡ []) × (start.parameters x ≡ [])
      bare_start x from = goes.bare' x (subst (λ (n : ℕ). n ≤ x.place) place from)

      kept_own : KeepsOwn reading start end'
      kept_own x own = (old_same x own, grown.parameters x)

      script_current : program.current ≡ Some here
      script_current = goes.same ∙ at

      abbrev script_end : Program
      script_end = record (with_items_at (with_inserted program) (Some here) (item ∷ [])) { current = None; place = suc program.place }

      called_now : IsCalledAt (suc made) end' code.code item
      called_now = inr (inr (record {
        switched = record {
          other = made;
          keys = keys;
          switch = switch;
          is_switch = sym is.operation;
          nothing = nothing_read reading edges switch.edges is.edges code.nothing;
          emitted = refl;
          unread = unread.unread;
          decides = (all_two (IsDecidingItem across item) KnownItem code.code code_built).0;
        };
        before = omega arith;
        decided = decided;
      }))
        where
          unread : IsUnread across (suc made) (answer_of made 0)
          unread = SwitchedLedgers.branch_unread reading plain more ledger joined block here value ty keys edges switch branches tables at' at is_block is code place end_is

      -- the cut, in terms of items at the end of a block
      cut_items_end : IsCutProgram across (IsCalledAt (suc made) end') (with_items_at (with_inserted start) (Some block) code.code) (with_items_at (with_inserted program) (Some here) (item ∷ []))
      cut_items_end =
          cut_items (IsCalledAt (suc made) end') across apart (with_inserted start) (with_inserted program) (Some block) (Some here) code.code item
          (cut_inserted (IsCalledAt (suc made) end') across apart start program
          (CalledPrograms.cut_in Known lasts Decided lasts_in KnownItem reading across made (suc made) on start program goes.cut end' kept_own
          (λ x name read. across_read reading base count x name read))
          (subst (λ (c : Option Name). IsReadBlock across c program.current) (sym (same' ∙ at'))
          (subst (λ (c : Option Name). IsReadBlock across (Some block) c) (sym script_current) (on.keeps block here is_block))))
          (on.keeps block here is_block) called_now

      chosen_items : (x : Name) (c : Bool) → same_name x block ≡ c → (IsNew x → ⊥) → end'.items x ≡ (if c then start.items x ++ code.code else start.items x)
      chosen_items x true same named =
          ap end'.items (names_equal x block same) ∙ code.stands ∙ ap (λ (y : Name). start.items y ++ code.code) (sym (names_equal x block same))
      chosen_items x false other named = untouched x (λ same. let apart : true ≡ false = sym (equal_names x block same) ∙ other in let no_way : ⊥ = cc in no_way) named

      read_not_new : (x name : Name) → IsReadAs across x name → IsNew x → ⊥
      read_not_new x name read new = let apart : Generated ≡ ScriptName name = sym new.1 ∙ read in let no_way : ⊥ = cc in no_way

      cut_end : IsCutProgram across (IsCalledAt (suc made) end') end' script_end
      cut_end = record {
        entry = subst (λ (e : Option Name). IsReadBlock across e (first_block program.entry program.current)) (sym end_entry)
            (subst (λ (c : Option Name). IsReadBlock across (first_block start.entry c) (first_block program.entry program.current)) (same' ∙ at') cut_items_end.entry);
        parameters = λ x name read. subst (λ (names : List Name). AllZip (IsReadAs across) names (program.parameters name)) (sym (grown.parameters x)) (cut_items_end.parameters x name read);
        items = λ x name read.
            subst (λ (xs : List Item). AreCut (IsCalledAt (suc made) end') xs ((with_items_at (with_inserted program) (Some here) (item ∷ [])).items name))
            (sym (chosen_items x (same_name x block) refl (read_not_new x name read))) (cut_items_end.items x name read);
      }

      stays_there : (b : Name) (other : Item) → Contains (program.items b) other → Contains (script_end.items b) other
      stays_there b other there = by (same_name b here)
        where
          by : (c : Bool) → Contains (if c then program.items b ++ item ∷ [] else program.items b) other
          by true = contained_left (program.items b) (item ∷ []) other there
          by false = there

      item_there : Contains (script_end.items here) item
      item_there =
          subst (λ (c : Bool). Contains (if c then program.items here ++ item ∷ [] else program.items here) item) (sym (equal_names here here refl)) (last (program.items here))
        where
          last : (xs : List Item) → Contains (xs ++ item ∷ []) item
          last [] = contained_first item []
          last (x ∷ xs) = contained_later x (xs ++ item ∷ []) item (last xs)

      own_end : (x : Name) → IsGenerated across x → IsOwnAt (suc made) end' script_end x
      own_end x own = by (either x own)
        where
          by : IsNew x ⊎ IsGenerated reading x → IsOwnAt (suc made) end' script_end x
          by (inl new) =
              let built = all_two (IsDecidingItem across item) KnownItem (end'.items x) (new_built goes.bare' x new.0) in (
                grown.parameters x ∙ (bare_start x new.0).1,
                inr (record {
                  block = here;
                  item = item;
                  there = item_there;
                  other = made;
                  keys = keys;
                  switch = switch;
                  is_switch = sym is.operation;
                  nothing = nothing_read reading edges switch.edges is.edges code.nothing;
                  emitted = refl;
                  unread = SwitchedLedgers.branch_unread reading plain more ledger joined block here value ty keys edges switch branches tables at' at is_block is code place end_is;
                  decides = built.0;
                  known = built.1;
                }),
              )
          by (inr old) =
              CalledPrograms.own_later Known lasts Decided lasts_in KnownItem reading across made (suc made) on start program goes.cut end' script_end x (kept_own x old)
              (λ b other_item other other_switch emitted not_read there. stays_there b other_item there) (goes.own x old)

      script_bare : IsBareFrom made script_end
      script_bare =
          bare_items made (with_inserted program) (Some here) (item ∷ [])
          (subst (IsBefore made) script_current (CalledPrograms.script_before Known lasts Decided lasts_in KnownItem reading (ledger_after plain) ledger joined start program goes)) goes.bare

      -- nothing is in a block that isn't made
      plain_bare : IsBareFrom (base + count) end'
      plain_bare x behind = (
        untouched x (λ same. let below = kept block here is_block in let at_place = ap (λ (n : Name). n.place) same in omega (arith, below, at_place, behind))
            (λ new. not_inside x new.1 behind) ∙ (bare_start x (omega (arith, behind))).0,
        grown.parameters x ∙ (bare_start x (omega (arith, behind))).1,
      )
        where
          not_inside : (y : Name) → IsGenerated across y → base + count ≤ y.place → ⊥
          not_inside y own past = by (across_generated reading base count y own)
            where
              by : ((base ≤ y.place) × (y.place < base + count)) ⊎ IsGenerated reading y → ⊥
              by (inl inside) = let below = inside.1 in omega (arith, below, past)
              by (inr old) = let below = joined.generated y old in omega (arith, below, past, place)

      pub switched_goes : (end : Ledger) → length end.answers ≡ suc made → end.current ≡ None → (script : Program) → script ≡ script_end → end'.place ≡ base + count → end'.current ≡ (ledger_after (plain ++ more)).current
          → CalledPrograms.GoesWith Known lasts Decided lasts_in KnownItem across (ledger_after (plain ++ more)) end end' script
      switched_goes end longer none script script_is place_end current_end =
          subst (λ (p : Program). CalledPrograms.GoesWith Known lasts Decided lasts_in KnownItem across (ledger_after (plain ++ more)) end end' p) (sym script_is)
          (record {
            place' = place_end ∙ sym many;
            place = ap suc goes.place ∙ sym longer;
            same' = current_end;
            same = sym none;
            cut = subst (λ (n : ℕ). IsCutProgram across (IsCalledAt n end') end' script_end) (sym longer) cut_end;
            own = λ x own. subst (λ (n : ℕ). IsOwnAt n end' script_end x) (sym longer) (own_end x own);
            bare' = λ x behind. plain_bare x (subst (λ (n : ℕ). n ≤ x.place) many behind);
            bare = λ x behind. script_bare x (omega (arith, behind, longer));
          })
