-- Code of a switch in blocks of its own keeps ledgers joined with the switch that is emitted.
use Rattle.std.proofs.Common.{◌≡◌, ◌<◌, ◌≤◌, ◌+◌, ◌⊎◌, inl, inr, ℕ, zero, suc, Bool, true, false, List, [], ◌∷◌, ◌++◌, length, map, refl, sym, ◌∙◌, ap, subst, arith, Option, Some, None}
use Rattle.std.specs.Prelude.{◌≢◌, Contains, IfSome, find, fold, if◌then◌else◌, replicate, ◌||◌}
use Rattle.std.specs.List.{AllByRecursion, AllZip, list_any}
use Rattle.std.proofs.lemmas.Bool.{and_parts}
use Rattle.clif_types.specs.declared.types.«Type».{«Type»}
use Rattle.clif_meaning.specs.Instruction.{Edge, Instruction, Operation, Switch}
use Rattle.clif_meaning.specs.Ledger.{AValue, Answered, BlockState, ExceptionTable, Ledger, answer_at, answers_to, is_filled, is_pristine, led_by, ledger_after, ledger_with, next_answer, state_has, with_instruction}
use Rattle.clif_meaning.specs.Name.{Name, same_name}
use Rattle.clif_meaning.specs.Request.{Script}
use Rattle.clif_expansion.specs.Emission.{reading_across}
use Rattle.clif_expansion.specs.Joining.{AreJoinedStates, AreLeading, Both, IsAnother, IsEmitted, IsEnded, IsJoined, IsOwnState, IsRead, IsReadAnswer, IsReadCurrent, IsReadException, IsReadState, IsReadTable, IsUnread, NoMore, NoneLeads, Own, StandAmong}
use Rattle.clif_expansion.specs.Keys.{table_count}
use Rattle.clif_expansion.specs.Reading.{Generated, IsOneToOne, IsReadAs, IsReadEdge, IsReadInstruction, NotMade, Reading, ScriptName}
use Rattle.clif_expansion.specs.ScriptCall.{Emit, emitted_types, ledger_behind, ledger_with_call}
use Rattle.clif_expansion.specs.Switching.{IsFinishedFrom, IsSpent, IsSwitchCode, switching, targets_of}
use Rattle.clif_expansion.specs.Walk.{IsGenerated}
use Rattle.clif_expansion.proofs.Across.{across_apart, across_before, across_generated, across_read}
use Rattle.clif_expansion.proofs.Among.{among_each, changed_at, leading_emitted, leading_joined, leading_later}
use Rattle.clif_expansion.proofs.BlockNames.{AreApart, found_apart, names_of, script_apart}
use Rattle.clif_expansion.proofs.EmittedPrograms.{one_longer}
use Rattle.clif_expansion.proofs.Instructions.{beginning, ending, instruction_is, laid_list, led_all, stated}
use Rattle.clif_expansion.proofs.JoinedStates.{zip_joined}
use Rattle.clif_expansion.proofs.Joins.{GoesOn, answer_later, answers_before, states_later}
use Rattle.clif_expansion.proofs.Names.{equal_names, names_equal, same_read}
use Rattle.clif_expansion.proofs.Placing.{contained_first, contained_in, contained_later, none_contained, of_contained}
use Rattle.clif_expansion.proofs.Switches
use Rattle.clif_expansion.proofs.Switches.{laid_there}

-- LISTS -------------------------------------------------------------------------------------------------------------------

-- where this is known of each, and the second list is changed
among_known : {X Y : Type 0} (R : X → Y → Type 0) (O A : X → Type 0) (S : X → Y → Type 0) (P : X → Type 0) (g : Y → Y)
    → ((x : X) (y : Y) → A x → R x y → S x (g y)) → ((x : X) → A x → O x → P x)
    → (xs : List X) (ys : List Y) → AllByRecursion A xs → StandAmong R O xs ys → StandAmong S P xs (map g ys)
among_known R O A S P g each own [] [] all NoMore = NoMore
among_known R O A S P g each own [] (y ∷ ys) all is = elim is [ ]
among_known R O A S P g each own (x ∷ xs) (y ∷ ys) all (Both a b zs ws is are) = Both x (g y) xs (map g ys) (each x y all.0 is) (among_known R O A S P g each own xs ys all.1 are)
among_known R O A S P g each own (x ∷ xs) ys all (Own a zs ws is are) = Own x xs (map g ys) (own x all.0 is) (among_known R O A S P g each own xs ys all.1 are)

all_contained : {X : Type 0} (P : X → Type 0) (xs : List X) → ((x : X) → Contains xs x → P x) → AllByRecursion P xs
all_contained P [] each = tt
all_contained P (x ∷ xs) each = (each x (contained_first x xs), all_contained P xs (λ y there. each y (contained_later x xs y there)))

none_led : (branch : Name) (base : ℕ) (names : List Name) → base ≤ branch.place → AllByRecursion (λ x. x.place < base) names → list_any (same_name branch) names ≡ false
none_led branch base [] from all = refl
none_led branch base (x ∷ names) from all = by (same_name branch x) refl (none_led branch base names from all.1)
  where
    by : (c : Bool) → same_name branch x ≡ c → list_any (same_name branch) names ≡ false → (c || list_any (same_name branch) names) ≡ false
    by true same rest =
        let place = ap (λ (n : Name). n.place) (names_equal branch x same) in
        let below = all.0 in
        absurd (omega (arith, place, below, from))
    by false same rest = rest

any_either : (x : Name) (xs ys : List Name) → list_any (same_name x) (xs ++ ys) ≡ (list_any (same_name x) xs || list_any (same_name x) ys)
any_either x [] ys = refl
any_either x (y ∷ xs) ys = by (same_name x y) (any_either x xs ys)
  where
    by : (c : Bool) → list_any (same_name x) (xs ++ ys) ≡ (list_any (same_name x) xs || list_any (same_name x) ys)
        → (c || list_any (same_name x) (xs ++ ys)) ≡ ((c || list_any (same_name x) xs) || list_any (same_name x) ys)
    by true rest = refl
    by false rest = rest

-- THE SCRIPT'S STATES -----------------------------------------------------------------------------------------------------

abbrev any_target : List (Edge Name Name) → Name → Bool
any_target edges block = list_any (λ edge. same_name block edge.target) edges

-- a branch that leads there already
led_again : (branch : Name) (edges : List (Edge Name Name)) (state : BlockState) → list_any (same_name branch) state.predecessors ≡ true → led_all branch edges state ≡ state
led_again branch [] state there = refl
led_again branch (edge ∷ edges) state there =
    ap (led_all branch edges) (by (same_name state.block edge.target)) ∙ led_again branch edges state there
  where
    by : (c : Bool) → (if c then led_by branch state else state) ≡ state
    by true = ap (λ (d : Bool). if d then state else record state { predecessors = state.predecessors ++ branch ∷ [] }) there
    by false = refl

led_once : (branch : Name) (edges : List (Edge Name Name)) (state : BlockState) → list_any (same_name branch) state.predecessors ≡ false
    → led_all branch edges state ≡ record state { predecessors = if any_target edges state.block then state.predecessors ++ branch ∷ [] else state.predecessors }
led_once branch [] state none = refl
led_once branch (edge ∷ edges) state none = by (same_name state.block edge.target) (led_once branch edges state none)
  where
    there : list_any (same_name branch) (state.predecessors ++ branch ∷ []) ≡ true
    there = any_either branch state.predecessors (branch ∷ []) ∙ last (list_any (same_name branch) state.predecessors)
      where
        last : (c : Bool) → (c || (same_name branch branch || false)) ≡ true
        last true = refl
        last false = ap (λ (c : Bool). c || false) (equal_names branch branch refl)

    by : (c : Bool) → led_all branch edges state ≡ record state { predecessors = if any_target edges state.block then state.predecessors ++ branch ∷ [] else state.predecessors }
        → led_all branch edges (if c then led_by branch state else state)
        ≡ record state { predecessors = if (c || any_target edges state.block) then state.predecessors ++ branch ∷ [] else state.predecessors }
    by true rest =
        ap (λ (d : Bool). led_all branch edges (if d then state else record state { predecessors = state.predecessors ++ branch ∷ [] })) none
        ∙ led_again branch edges (record state { predecessors = state.predecessors ++ branch ∷ [] }) there
    by false rest = rest

-- the state of a block behind the switch
abbrev formed : (ended led : Bool) → Name → BlockState → BlockState
formed ended led branch state = record state {
  is_pristine = if ended then false else state.is_pristine;
  is_filled = if ended then true else state.is_filled;
  predecessors = if led then state.predecessors ++ branch ∷ [] else state.predecessors;
}

abbrev switched : Name → Name → List (Edge Name Name) → BlockState → BlockState
switched here branch edges state = led_all branch edges (changed_at here ending (changed_at here beginning state))

switched_is : (here branch : Name) (edges : List (Edge Name Name)) (state : BlockState) → list_any (same_name branch) state.predecessors ≡ false
    → switched here branch edges state ≡ formed (same_name state.block here) (any_target edges state.block) branch state
switched_is here branch edges state none = by (same_name state.block here) refl
  where
    by : (c : Bool) → same_name state.block here ≡ c
        → led_all branch edges (changed_at here ending (if c then beginning state else state)) ≡ formed c (any_target edges state.block) branch state
    by true is =
        ap (λ (c : Bool). led_all branch edges (if c then ending (beginning state) else beginning state)) is
        ∙ led_once branch edges (ending (beginning state)) none
    by false is =
        ap (λ (c : Bool). led_all branch edges (if c then ending state else state)) is
        ∙ led_once branch edges state none

twice_mapped : {X : Type 0} (f g : X → X) (xs : List X) → map g (map f xs) ≡ map (λ x. g (f x)) xs
twice_mapped f g [] = refl
twice_mapped {X} f g (x ∷ xs) = ap (λ (rest : List X). g (f x) ∷ rest) (twice_mapped f g xs)

-- TARGETS -----------------------------------------------------------------------------------------------------------------

module _ (reading : Reading) (one_to_one : IsOneToOne reading) (x block : Name) (is : IsReadAs reading x block) where
  target_there : (edges' edges : List (Edge Name Name)) → AllZip (IsReadEdge reading) edges' edges → Contains (targets_of edges') x → any_target edges block ≡ true
  target_there [] [] are there = absurd (none_contained x there)
  target_there [] (edge ∷ edges) are there = absurd are
  target_there (edge' ∷ edges') [] are there = absurd are
  target_there (edge' ∷ edges') (edge ∷ edges) are there = by (contained_in edge'.target (targets_of edges') x there) (target_there edges' edges are.1)
    where
      later : (c : Bool) → any_target edges block ≡ true → (c || any_target edges block) ≡ true
      later true rest = refl
      later false rest = rest

      by : (edge'.target ≡ x) ⊎ Contains (targets_of edges') x → (Contains (targets_of edges') x → any_target edges block ≡ true) → (same_name block edge.target || any_target edges block) ≡ true
      by (inl same) rest =
          ap (λ (c : Bool). c || any_target edges block) (sym (same_read reading one_to_one x edge'.target block edge.target is are.0.target) ∙ equal_names x edge'.target (sym same))
      by (inr further) rest = later (same_name block edge.target) (rest further)

  there_target : (edges' edges : List (Edge Name Name)) → AllZip (IsReadEdge reading) edges' edges → any_target edges block ≡ true → Contains (targets_of edges') x
  there_target [] [] are there = let no_way : ⊥ = cc in absurd no_way
  there_target [] (edge ∷ edges) are there = absurd are
  there_target (edge' ∷ edges') [] are there = absurd are
  there_target (edge' ∷ edges') (edge ∷ edges) are there =
      by (same_name block edge.target) (same_read reading one_to_one x edge'.target block edge.target is are.0.target) there (there_target edges' edges are.1)
    where
      by : (c : Bool) → same_name x edge'.target ≡ c → (c || any_target edges block) ≡ true → (any_target edges block ≡ true → Contains (targets_of edges') x) → Contains (targets_of (edge' ∷ edges')) x
      by true same here rest = subst (λ (y : Name). Contains (edge'.target ∷ targets_of edges') y) (sym (names_equal x edge'.target same)) (contained_first edge'.target (targets_of edges'))
      by false same here rest = contained_later edge'.target (targets_of edges') x (rest here)

-- LEADING NAMES -----------------------------------------------------------------------------------------------------------

module _ (reading : Reading) (made base : ℕ) (kept : (x name : Name) → IsReadAs reading x name → (x.place < base) × (name.place < made)) (own : (x : Name) → IsGenerated reading x → x.place < base) where
  plain_before : (xs ys : List Name) → AreLeading reading made xs ys → AllByRecursion (λ x. x.place < base) xs
  plain_before [] [] NoneLeads = tt
  plain_before [] (y ∷ ys) is = elim is [ ]
  plain_before (x ∷ xs) (y ∷ ys) (IsRead a b as' bs is are) = ((kept x y is).0, plain_before xs ys are)
  plain_before (x ∷ xs) (y ∷ ys) (IsEmitted a b as' bs generated unread are) = (own x generated, plain_before xs ys are)
  plain_before (x ∷ next ∷ xs) ys (IsAnother a n as' bs generated also are) = (own x generated, plain_before (next ∷ xs) ys are)

  script_before : (xs ys : List Name) → AreLeading reading made xs ys → AllByRecursion (λ x. x.place < made) ys
  script_before [] [] NoneLeads = tt
  script_before [] (y ∷ ys) is = elim is [ ]
  script_before (x ∷ xs) (y ∷ ys) (IsRead a b as' bs is are) = ((kept x y is).1, script_before xs ys are)
  script_before (x ∷ xs) (y ∷ ys) (IsEmitted a b as' bs generated unread are) = (unread.before, script_before xs ys are)
  script_before (x ∷ next ∷ xs) ys (IsAnother a n as' bs generated also are) = script_before (next ∷ xs) ys are

-- answers before more calls
pub fold_longer : (more : Script) (ledger : Ledger) → length (fold ledger_with ledger more).answers ≡ length ledger.answers + length more
fold_longer [] ledger = omega arith
fold_longer (request ∷ more) ledger =
    let one : length (ledger_with ledger request).answers ≡ suc (length ledger.answers) = one_longer ledger.answers (answers_to ledger request) in
    let rest = fold_longer more (ledger_with ledger request) in
    omega (arith, one, rest)

pub answer_fold : (more : Script) (ledger : Ledger) (x : Name) → x.place < length ledger.answers → answer_at (fold ledger_with ledger more) x ≡ answer_at ledger x
answer_fold [] ledger x below = refl
answer_fold (request ∷ more) ledger x below =
    let one : length (ledger_with ledger request).answers ≡ suc (length ledger.answers) = one_longer ledger.answers (answers_to ledger request) in
    answer_fold more (ledger_with ledger request) x (omega (arith, one, below))
    ∙ answers_before ledger.answers (answers_to ledger request) x.place x.index below

no_tables : (reading : Reading) (n : ℕ) → AllZip (IsReadTable reading) (replicate n None) (replicate n None)
no_tables reading zero = tt
no_tables reading (suc n) = (tt, no_tables reading n)

all_both : {X : Type 0} (P Q : X → Type 0) (xs : List X) → AllByRecursion P xs → AllByRecursion Q xs → AllByRecursion (λ x. P x × Q x) xs
all_both P Q [] first second = tt
all_both P Q (x ∷ xs) first second = ((first.0, second.0), all_both P Q xs first.1 second.1)

-- THE JOIN ----------------------------------------------------------------------------------------------------------------

module _ (reading : Reading) (plain more : Script) (ledger : Ledger) (joined : IsJoined reading (ledger_after plain) ledger) (block here value : Name) (ty : «Type») (keys : List ℕ)
    (edges : List (Edge Name Name)) (switch : Instruction Name Name) (branches tables : ℕ)
    (at' : (ledger_after plain).current ≡ Some block) (at : ledger.current ≡ Some here) (is_block : IsReadAs reading block here)
    (is : IsReadInstruction reading (switching keys ty value edges) switch) (code : IsSwitchCode plain more block value ty keys edges branches tables)
    (place : length plain ≡ length (ledger_after plain).answers) (end_is : ledger_after (plain ++ more) ≡ fold ledger_with (ledger_after plain) more) where
  abbrev before : Ledger
  before = ledger_after plain

  abbrev end' : Ledger
  end' = ledger_after (plain ++ more)

  abbrev base : ℕ
  base = length plain

  abbrev count : ℕ
  count = length more

  abbrev made : ℕ
  made = length ledger.answers

  abbrev pub across : Reading
  across = reading_across reading base count

  abbrev targets : List Name
  targets = targets_of edges

  kept : (x name : Name) → IsReadAs reading x name → (x.place < base) × (name.place < made)
  kept x name read = (subst (λ (n : ℕ). x.place < n) (sym place) (joined.made x name read).0, (joined.made x name read).1)

  own_before : (x : Name) → IsGenerated reading x → x.place < base
  own_before x generated = subst (λ (n : ℕ). x.place < n) (sym place) (joined.generated x generated)

  pub many : length end'.answers ≡ base + count
  many = ap (λ (l : Ledger). length l.answers) end_is ∙ fold_longer more before ∙ ap (λ (n : ℕ). n + count) (sym place)

  abbrev end : Ledger
  end = ledger_with_call ledger (Emit [] switch)

  longer : length end.answers ≡ suc made
  longer = one_longer ledger.answers (map AValue (emitted_types switch))

  pub on : GoesOn reading across made (suc made)
  on = record {
    keeps = λ x name read. across_before reading base count x (kept x name read).0 ∙ read;
    generated = λ x generated. across_before reading base count x (own_before x generated) ∙ generated;
    unread = λ name unread. record { unread = λ x read. unread.unread x (across_read reading base count x name read); before = let below = unread.before in omega (arith, below) };
  }

  apart : IsOneToOne across
  apart = across_apart reading base count joined.one_to_one

  abbrev earlier : AreJoinedStates across (suc made) before ledger
  earlier = states_later reading across made (suc made) on before ledger joined.ledgers.states

  -- THE PLAIN LEDGER ------------------------------------------------------------------------------------------------------

  abbrev InSwitch : BlockState → BlockState → Type 0
  InSwitch plain_state state =
      Switches.InSwitch reading joined.one_to_one block here is_block base count (kept block here is_block).0 (λ x name read. (kept x name read).0) made targets plain_state state

  abbrev InOwn : BlockState → Type 0
  InOwn state =
      Switches.InOwn reading joined.one_to_one block here is_block base count (kept block here is_block).0 (λ x name read. (kept x name read).0) made targets state

  abbrev Behind : Ledger → Type 0
  Behind l =
      Switches.Behind reading joined.one_to_one block here is_block base count (kept block here is_block).0 (λ x name read. (kept x name read).0) made targets apart
      before ledger.blocks (laid_list here ledger.layout) (laid_there here ledger.layout) l

  starts_so : (plain_state state : BlockState) → IsReadState reading made plain_state state → InSwitch plain_state state
  starts_so plain_state state read = record {
    block_read = read.block;
    parameters = read.parameters;
    is_sealed = read.is_sealed;
    is_cold = read.is_cold;
    others = λ other. (read.is_pristine, read.is_filled);
    old = plain_state.predecessors;
    new = [];
    split = none_more plain_state.predecessors;
    led = read.predecessors;
    generated = tt;
    targeted = inl refl;
  }
    where
      none_more : (xs : List Name) → xs ≡ xs ++ []
      none_more [] = refl
      none_more (x ∷ xs) = ap (λ (rest : List Name). x ∷ rest) (none_more xs)

  behind : Behind (fold ledger_with before more)
  behind =
      Switches.goes_before reading joined.one_to_one block here is_block base count (kept block here is_block).0 (λ x name read. (kept x name read).0) made targets apart
      before ledger.blocks (laid_list here ledger.layout) (laid_there here ledger.layout) end' (script_apart (plain ++ more)) many (length before.jump_tables)
      (Switches.laid_first reading joined.one_to_one block here is_block base count (kept block here is_block).0 (λ x name read. (kept x name read).0) made targets apart
      before.layout ledger.layout earlier.layout)
      more before 0 (sym place ∙ nothing base) (first_of count) code.calls code.blocks code.begins
      (record {
        stays = record { variables = refl; exception_tables = refl; tables = refl };
        blocks = among_each (IsReadState reading made) (IsOwnState reading) InSwitch InOwn starts_so (λ state own. (on.generated state.block own.block, λ below. (own.is_filled, own.is_sealed)))
            before.blocks ledger.blocks joined.ledgers.states.blocks;
        current = at';
        layout_same = refl;
      })
    where
      nothing : (n : ℕ) → n ≡ n + 0
      nothing n = omega arith

      first_of : (n : ℕ) → 0 + n ≡ n
      first_of n = omega arith

  behind_end : Behind end'
  behind_end = subst Behind (sym end_is) behind

  -- WHAT IS KNOWN OF EACH STATE -------------------------------------------------------------------------------------------

  record IsKnown (state : BlockState) : Type 0 where
    finished : IsFinishedFrom base state
    begun : state.block ≡ block → state.is_pristine ≡ false
    filled : state.block ≡ block → state.is_filled ≡ true
    led : Contains targets state.block → (branch : Name) × (base ≤ branch.place) × (list_any (same_name branch) state.predecessors ≡ true)

  abbrev names_apart : AreApart (names_of end'.blocks)
  names_apart = (script_apart (plain ++ more)).apart

  -- what is found of a block is said of its state
  found : (f : BlockState → Bool) (state : BlockState) → Contains end'.blocks state → state_has f (find (λ s. same_name s.block state.block) end'.blocks) ≡ f state
  found f state there =
      of_contained (λ s. s.block ≡ state.block → state_has f (find (λ s. same_name s.block state.block) end'.blocks) ≡ f s) end'.blocks state
      (found_apart f state.block end'.blocks names_apart) there refl

  known : AllByRecursion IsKnown end'.blocks
  known = all_contained IsKnown end'.blocks (λ state there. record {
    finished = of_contained (IsFinishedFrom base) end'.blocks state code.finished there;
    begun = of_contained (λ s. s.block ≡ block → s.is_pristine ≡ false) end'.blocks state behind_end.begun there;
    filled = λ same. sym (found (λ s. s.is_filled) state there) ∙ subst (λ (x : Name). is_filled end' x ≡ true) (sym same) code.filled;
    led = λ target.
        let led = code.led state.block target in
        (led.branch, led.generated, sym (found (λ s. list_any (same_name led.branch) s.predecessors) state there) ∙ led.leads);
  })

  -- EACH STATE ------------------------------------------------------------------------------------------------------------

  abbrev branch : Name
  branch = next_answer ledger

  pub branch_unread : IsUnread across (suc made) branch
  branch_unread = record {
    unread = λ x read. let below = (kept x branch (across_read reading base count x branch read)).1 in absurd (omega (arith, below));
    before = omega arith;
  }

  state_read : (plain_state state : BlockState) → IsKnown plain_state → InSwitch plain_state state → IsReadState across (suc made) plain_state (switched here branch switch.edges state)
  state_read plain_state state about within =
      subst (λ (s : BlockState). IsReadState across (suc made) plain_state s) (sym (switched_is here branch switch.edges state none))
      (by (same_name plain_state.block block) refl (any_target switch.edges state.block) refl)
    where
      none : list_any (same_name branch) state.predecessors ≡ false
      none = none_led branch made state.predecessors (omega arith) (script_before reading made base kept own_before within.old state.predecessors within.led)

      test_same : same_name plain_state.block block ≡ same_name state.block here
      test_same = same_read reading joined.one_to_one plain_state.block block state.block here within.block_read is_block

      old_later : AreLeading across (suc made) within.old state.predecessors
      old_later = leading_later reading across made (suc made) on.keeps on.generated on.unread within.old state.predecessors within.led

      emitted : (new : List Name) → AllByRecursion (IsGenerated across) new → (new ≡ [] → ⊥) → AreLeading across (suc made) (within.old ++ new) (state.predecessors ++ branch ∷ [])
      emitted [] all some = absurd (some refl)
      emitted (x ∷ new) all some =
          leading_joined across (suc made) within.old (x ∷ new) state.predecessors (branch ∷ []) old_later (leading_emitted across (suc made) x new branch all.0 all.1 branch_unread)

      -- where the switch leads there, some branch does that was generated
      some_new : any_target switch.edges state.block ≡ true → within.new ≡ [] → ⊥
      some_new there no_new =
          let led = about.led (there_target reading joined.one_to_one plain_state.block state.block within.block_read edges switch.edges is.edges there) in
          let split : plain_state.predecessors ≡ within.old ++ [] = within.split ∙ ap (λ (names : List Name). within.old ++ names) no_new in
          let not_there : list_any (same_name led.0) (within.old ++ []) ≡ false =
          any_either led.0 within.old [] ∙ ap (λ (c : Bool). c || false) (none_led led.0 base within.old led.1 (plain_before reading made base kept own_before within.old state.predecessors within.led)) in
          let apart : true ≡ false = sym led.2 ∙ ap (list_any (same_name led.0)) split ∙ not_there in
          cc

      no_new : any_target switch.edges state.block ≡ false → within.new ≡ []
      no_new nowhere = by_side within.targeted
        where
          by_side : (within.new ≡ []) ⊎ Contains targets plain_state.block → within.new ≡ []
          by_side (inl empty) = empty
          by_side (inr target) =
              let there = target_there reading joined.one_to_one plain_state.block state.block within.block_read edges switch.edges is.edges target in
              let apart : true ≡ false = sym there ∙ nowhere in
              cc

      predecessors : (d : Bool) → any_target switch.edges state.block ≡ d
          → AreLeading across (suc made) plain_state.predecessors (if d then state.predecessors ++ branch ∷ [] else state.predecessors)
      predecessors true there =
          subst (λ (names : List Name). AreLeading across (suc made) names (state.predecessors ++ branch ∷ [])) (sym within.split) (emitted within.new within.generated (some_new there))
      predecessors false nowhere =
          subst (λ (names : List Name). AreLeading across (suc made) names state.predecessors) (sym (within.split ∙ ap (λ (names : List Name). within.old ++ names) (no_new nowhere)))
          (subst (λ (names : List Name). AreLeading across (suc made) names state.predecessors) (none_more within.old) old_later)
        where
          none_more : (xs : List Name) → xs ≡ xs ++ []
          none_more [] = refl
          none_more (x ∷ xs) = ap (λ (rest : List Name). x ∷ rest) (none_more xs)

      by : (c : Bool) → same_name plain_state.block block ≡ c → (d : Bool) → any_target switch.edges state.block ≡ d
          → IsReadState across (suc made) plain_state (formed (same_name state.block here) (any_target switch.edges state.block) branch state)
      by true same d led =
          let here_is : same_name state.block here ≡ true = sym test_same ∙ same in
          let at_block : plain_state.block ≡ block = names_equal plain_state.block block same in
          record {
            block = on.keeps plain_state.block state.block within.block_read;
            parameters = within.parameters;
            is_pristine = about.begun at_block ∙ sym (ap (λ (c : Bool). if c then false else state.is_pristine) here_is);
            is_filled = about.filled at_block ∙ sym (ap (λ (c : Bool). if c then true else state.is_filled) here_is);
            is_sealed = within.is_sealed;
            is_cold = within.is_cold;
            predecessors = subst (λ (e : Bool). AreLeading across (suc made) plain_state.predecessors (if e then state.predecessors ++ branch ∷ [] else state.predecessors)) (sym led) (predecessors d led);
          }
      by false same d led =
          let elsewhere : same_name state.block here ≡ false = sym test_same ∙ same in
          let other : plain_state.block ≡ block → ⊥ = λ equal. let apart : true ≡ false = sym (equal_names plain_state.block block equal) ∙ same in cc in
          record {
            block = on.keeps plain_state.block state.block within.block_read;
            parameters = within.parameters;
            is_pristine = (within.others other).0 ∙ sym (ap (λ (c : Bool). if c then false else state.is_pristine) elsewhere);
            is_filled = (within.others other).1 ∙ sym (ap (λ (c : Bool). if c then true else state.is_filled) elsewhere);
            is_sealed = within.is_sealed;
            is_cold = within.is_cold;
            predecessors = subst (λ (e : Bool). AreLeading across (suc made) plain_state.predecessors (if e then state.predecessors ++ branch ∷ [] else state.predecessors)) (sym led) (predecessors d led);
          }

  own_state : (state : BlockState) → IsKnown state → InOwn state → IsOwnState across state
  own_state state about own = by (across_generated reading base count state.block own.0)
    where
      by : ((base ≤ state.block.place) × (state.block.place < base + count)) ⊎ IsGenerated reading state.block → IsOwnState across state
      by (inl new) =
          let both = and_parts state.is_filled state.is_sealed (about.finished new.0) in
          record { block = own.0; is_filled = both.0; is_sealed = both.1 }
      by (inr old) =
          let ended = own.1 (own_before state.block old) in
          record { block = own.0; is_filled = ended.0; is_sealed = ended.1 }

  -- THE CURRENT BLOCK -----------------------------------------------------------------------------------------------------

  made_later : (x : Name) → (x ≡ block) ⊎ IsGenerated across x → across x ≢ NotMade
  made_later x (inl same) none = let apart : ScriptName here ≡ NotMade = sym (on.keeps block here is_block) ∙ ap across (sym same) ∙ none in cc
  made_later x (inr generated) none = let apart : Generated ≡ NotMade = sym generated ∙ none in cc

  ended : (x : Name) → IsSpent end' x → IsEnded end'.blocks end'.layout x
  ended x spent = record {
    filled = spent.filled;
    inserted = spent.inserted;
    each = all_contained (λ s. s.block ≡ x → (s.is_filled ≡ true) × (s.is_pristine ≡ false)) end'.blocks (λ state there same. (
      sym (found (λ s. s.is_filled) state there) ∙ subst (λ (y : Name). is_filled end' y ≡ true) (sym same) spent.filled,
      sym (found (λ s. s.is_pristine) state there) ∙ subst (λ (y : Name). is_pristine end' y ≡ false) (sym same) spent.begun,
    ));
  }

  current_ended : IsReadCurrent across end' end'.current None
  current_ended =
      subst (λ (current : Option Name). IsReadCurrent across end' current None) (sym behind_end.at) (
        made_later behind_end.current behind_end.side,
        ended behind_end.current (subst (λ (current : Option Name). IfSome current (IsSpent end')) behind_end.at code.left),
      )

  -- ALL OF THE LEDGERS ----------------------------------------------------------------------------------------------------

  abbrev lists : Ledger
  lists = record ledger {
    blocks = map (led_all branch switch.edges) (map (changed_at here ending) (map (changed_at here beginning) ledger.blocks));
    layout = laid_list here ledger.layout;
  }

  script_is : with_instruction ledger switch ≡ lists
  script_is =
      instruction_is ledger here switch at
      ∙ ap (λ (operation : Operation). record ledger { blocks = map (led_all branch switch.edges) (stated here operation ledger.blocks); layout = laid_list here ledger.layout }) (sym is.operation)

  abbrev script_end : Ledger
  script_end = record lists { current = None; jump_tables = ledger.jump_tables ++ replicate (table_count keys keys) None }

  end_script : ledger_behind switch.operation (with_instruction ledger switch) ≡ script_end
  end_script =
      ap (λ (operation : Operation). ledger_behind operation (with_instruction ledger switch)) (sym is.operation)
      ∙ ap (λ (l : Ledger). ledger_behind (Switch keys) l) script_is

  blocks_read : StandAmong (IsReadState across (suc made)) (IsOwnState across) end'.blocks script_end.blocks
  blocks_read =
      subst (λ (states : List BlockState). StandAmong (IsReadState across (suc made)) (IsOwnState across) end'.blocks states)
      (sym (ap (map (led_all branch switch.edges)) (twice_mapped (changed_at here beginning) (changed_at here ending) ledger.blocks)
      ∙ twice_mapped (λ state. changed_at here ending (changed_at here beginning state)) (led_all branch switch.edges) ledger.blocks))
      (among_known InSwitch InOwn IsKnown (IsReadState across (suc made)) (IsOwnState across) (switched here branch switch.edges) state_read own_state
      end'.blocks ledger.blocks known behind_end.blocks)

  states_end : AreJoinedStates across (suc made) end' script_end
  states_end = record {
    blocks = blocks_read;
    current = current_ended;
    layout = behind_end.layout_read;
    variables = behind_end.stays.variables ∙ earlier.variables;
    jump_tables = subst (λ (all : List (Option (List (Edge Name Name)))). AllZip (IsReadTable across) all script_end.jump_tables) (sym code.jump_tables)
        (zip_joined (IsReadTable across) before.jump_tables (replicate (table_count keys keys) None) ledger.jump_tables (replicate (table_count keys keys) None) earlier.jump_tables
        (no_tables across (table_count keys keys)));
    exception_tables = subst (λ (all : List (Option ExceptionTable)). AllZip (IsReadException across) all ledger.exception_tables) (sym behind_end.stays.exception_tables) earlier.exception_tables;
    tables = behind_end.stays.tables ∙ earlier.tables;
  }

  answers_end : (x name : Name) → IsReadAs across x name → IsReadAnswer across (answer_at end' x) (answer_at end name)
  answers_end x name read =
      let old : IsReadAs reading x name = across_read reading base count x name read in
      subst (λ (answer : Option Answered). IsReadAnswer across answer (answer_at end name))
      (sym (ap (λ (l : Ledger). answer_at l x) end_is ∙ answer_fold more before x (joined.made x name old).0))
      (subst (λ (answer : Option Answered). IsReadAnswer across (answer_at before x) answer)
      (sym (answers_before ledger.answers (map AValue (emitted_types switch)) name.place name.index (joined.made x name old).1))
      (answer_later reading across on.keeps (answer_at before x) (answer_at ledger name) (joined.ledgers.answers x name old)))

  pub switched_joined : IsJoined across end' end
  switched_joined = record {
    ledgers = record {
      states = subst (λ (l : Ledger). AreJoinedStates across (length end.answers) end' (record l { answers = end.answers })) (sym end_script)
          (subst (λ (n : ℕ). AreJoinedStates across n end' (record script_end { answers = end.answers })) (sym longer)
          (record {
            blocks = states_end.blocks;
            current = states_end.current;
            layout = states_end.layout;
            variables = states_end.variables;
            jump_tables = states_end.jump_tables;
            exception_tables = states_end.exception_tables;
            tables = states_end.tables;
          }));
      answers = answers_end;
    };
    one_to_one = apart;
    made = λ x name read.
        let both = kept x name (across_read reading base count x name read) in
        let below = both.0 in
        let below' = both.1 in
        (omega (arith, below, many), omega (arith, below', longer));
    generated = λ x generated. by x (across_generated reading base count x generated);
  }
    where
      by : (x : Name) → ((base ≤ x.place) × (x.place < base + count)) ⊎ IsGenerated reading x → x.place < length end'.answers
      by x (inl new) = let below = new.1 in omega (arith, below, many)
      by x (inr old) = let below = own_before x old in omega (arith, below, many)
