-- Code of a switch in blocks of its own: what it leaves of the states of the script's blocks.
use Rattle.std.proofs.Common.{◌≡◌, ◌<◌, ◌≤◌, ◌+◌, ◌⊎◌, inl, inr, ℕ, suc, Bool, true, false, List, [], ◌∷◌, ◌++◌, length, map, refl, sym, ◌∙◌, ap, subst, arith, Option, Some, append_assoc}
use Rattle.std.specs.Prelude.{Contains, IsTrue, fold, if◌then◌else◌, ◌||◌}
use Rattle.std.specs.List.{AllByRecursion, list_any}
use Rattle.clif_meaning.specs.Instruction.{Edge, Instruction, Operation}
use Rattle.clif_meaning.specs.Ledger.{BlockState, ExceptionTable, Ledger, answers_to, has_block, is_terminator, led_by, ledger_with, new_block, next_answer, sealed, with_tried}
use Rattle.clif_meaning.specs.Name.{Name, same_name}
use Rattle.clif_meaning.specs.Request.{Request, CreateBlock, SwitchToBlock, SealBlock, MakeEdge, MakeJumpTable, Build, GivenEntry, ServedBy, Script}
use Rattle.clif_expansion.specs.Emission.{reading_across}
use Rattle.clif_expansion.specs.Joining.{AreLeading, Both, IsReadLayout, NoMore, Own, StandAmong}
use Rattle.clif_expansion.specs.Reading.{IsOneToOne, IsReadAs, Reading}
use Rattle.clif_expansion.specs.Switching.{BeginsHere, IsDecidingCall, IsTableFrom, LeadsInside, LeadsToBlocks}
use Rattle.clif_expansion.specs.Walk.{IsGenerated}
use Rattle.clif_expansion.proofs.Across.{across_before, across_inside}
use Rattle.clif_expansion.proofs.Among.{KeepsEnds, among_joined, any_among, changed_at, generated_other, keeps_at, keeps_beginning, keeps_filling, keeps_leading, keeps_sealing}
use Rattle.clif_expansion.proofs.BlockNames.{HasApart, there_made}
use Rattle.clif_expansion.proofs.EmittedPrograms.{one_longer}
use Rattle.clif_expansion.proofs.Instructions.{beginning, ending, instruction_is, laid_list, led_all, stated}
use Rattle.clif_expansion.proofs.Names.{equal_names, names_equal}

-- changes of the plain states alone
among_left : {X Y : Type 0} (R : X → Y → Type 0) (O : X → Type 0) (f : X → X) → ((x : X) (y : Y) → R x y → R (f x) y) → ((x : X) → O x → O (f x))
    → (xs : List X) (ys : List Y) → StandAmong R O xs ys → StandAmong R O (map f xs) ys
among_left R O f each own [] [] NoMore = NoMore
among_left R O f each own [] (y ∷ ys) is = elim is [ ]
among_left R O f each own (x ∷ xs) (y ∷ ys) (Both a b zs ws is are) = Both (f x) y (map f xs) ys (each x y is) (among_left R O f each own xs ys are)
among_left R O f each own (x ∷ xs) ys (Own a zs ws is are) = Own (f x) (map f xs) ys (own x is) (among_left R O f each own xs ys are)

among_more : {X Y : Type 0} (R : X → Y → Type 0) (O : X → Type 0) (xs : List X) (ys : List Y) (x : X) → O x → StandAmong R O xs ys → StandAmong R O (xs ++ x ∷ []) ys
among_more R O [] [] x own NoMore = Own x [] [] own NoMore
among_more R O [] (y ∷ ys) x own is = elim is [ ]
among_more R O (a ∷ xs) (y ∷ ys) x own (Both p q zs ws is are) = Both a y (xs ++ x ∷ []) ys is (among_more R O xs ys x own are)
among_more R O (a ∷ xs) ys x own (Own p zs ws is are) = Own a (xs ++ x ∷ []) ys is (among_more R O xs ys x own are)

there_last : (x : Name) (xs : List Name) → list_any (same_name x) (xs ++ x ∷ []) ≡ true
there_last x [] = ap (λ (c : Bool). c || false) (equal_names x x refl)
there_last x (y ∷ xs) = by (same_name x y) (there_last x xs)
  where
    by : (c : Bool) → list_any (same_name x) (xs ++ x ∷ []) ≡ true → (c || list_any (same_name x) (xs ++ x ∷ [])) ≡ true
    by true later = refl
    by false later = later

pub laid_there : (x : Name) (layout : List Name) → list_any (same_name x) (laid_list x layout) ≡ true
laid_there x layout = by (list_any (same_name x) layout) refl
  where
    by : (c : Bool) → list_any (same_name x) layout ≡ c → list_any (same_name x) (if c then layout else layout ++ x ∷ []) ≡ true
    by true is = is
    by false is = there_last x layout

all_more : {X : Type 0} (P : X → Type 0) (xs : List X) (x : X) → AllByRecursion P xs → P x → AllByRecursion P (xs ++ x ∷ [])
all_more P [] x all is = (is, tt)
all_more P (y ∷ xs) x all is = (all.0, all_more P xs x all.1 is)

all_changed : {X : Type 0} (P : X → Type 0) (f : X → X) → ((x : X) → P x → P (f x)) → (xs : List X) → AllByRecursion P xs → AllByRecursion P (map f xs)
all_changed P f each [] all = tt
all_changed P f each (x ∷ xs) all = (each x all.0, all_changed P f each xs all.1)

keeps_led : (branch : Name) (edges : List (Edge Name Name)) → KeepsEnds (led_all branch edges)
keeps_led branch [] = record { block = λ state. refl; filled = λ state is. is; is_sealed = λ state is. is; begun = λ state is. is }
keeps_led branch (edge ∷ edges) =
    let first = keeps_at edge.target (led_by branch) (keeps_leading branch) in
    let rest = keeps_led branch edges in
    record {
      block = λ state. rest.block (changed_at edge.target (led_by branch) state) ∙ first.block state;
      filled = λ state is. rest.filled (changed_at edge.target (led_by branch) state) (first.filled state is);
      is_sealed = λ state is. rest.is_sealed (changed_at edge.target (led_by branch) state) (first.is_sealed state is);
      begun = λ state is. rest.begun (changed_at edge.target (led_by branch) state) (first.begun state is);
    }

-- tables alone serve
none_tried : (first : ℕ) (tables : List (Option ExceptionTable)) (entries : List GivenEntry) → AllByRecursion (IsTableFrom first) entries → with_tried tables entries ≡ tables
none_tried first tables [] all = refl
none_tried first tables (ServedBy table ∷ entries) all = none_tried first tables entries all.1
none_tried first tables (_ ∷ entries) all = absurd all.0

module _ (reading : Reading) (one_to_one : IsOneToOne reading) (block here : Name) (is_block : IsReadAs reading block here) (base count : ℕ) (before : block.place < base)
    (kept : (x name : Name) → IsReadAs reading x name → x.place < base) (made : ℕ) (targets : List Name) where
  abbrev pub across : Reading
  across = reading_across reading base count

  -- The state of a block of the script's, with that in the plain ledger behind some of the calls: branches were generated that lead to it.
  pub record InSwitch (plain state : BlockState) : Type 0 where
    pub block_read : IsReadAs reading plain.block state.block
    pub parameters : plain.parameters ≡ state.parameters
    pub is_sealed : plain.is_sealed ≡ state.is_sealed
    pub is_cold : plain.is_cold ≡ state.is_cold
    pub others : (plain.block ≡ block → ⊥) → (plain.is_pristine ≡ state.is_pristine) × (plain.is_filled ≡ state.is_filled)
    pub old : List Name
    pub new : List Name
    pub split : plain.predecessors ≡ old ++ new
    pub led : AreLeading reading made old state.predecessors
    pub generated : AllByRecursion (IsGenerated across) new
    pub targeted : (new ≡ []) ⊎ Contains targets plain.block

  abbrev pub InOwn : BlockState → Type 0
  InOwn state = IsGenerated across state.block × (state.block.place < base → (state.is_filled ≡ true) × (state.is_sealed ≡ true))

  abbrev pub Among : List BlockState → List BlockState → Type 0
  Among states' states = StandAmong InSwitch InOwn states' states

  own_kept : (change : BlockState → BlockState) → KeepsEnds change → (state : BlockState) → InOwn state → InOwn (change state)
  own_kept change keeps state own = (
    ap across (keeps.block state) ∙ own.0,
    λ below. let ended = own.1 (subst (λ (x : Name). x.place < base) (keeps.block state) below) in (keeps.filled state ended.0, keeps.is_sealed state ended.1),
  )

  across_keeps : (x name : Name) → IsReadAs reading x name → IsReadAs across x name
  across_keeps x name is = across_before reading base count x (kept x name is) ∙ is

  -- a generated block's change
  other_changed : (x : Name) (change : BlockState → BlockState) → IsGenerated across x → (plain state : BlockState) → InSwitch plain state → InSwitch (changed_at x change plain) state
  other_changed x change own plain state is =
      subst (λ (c : Bool). InSwitch (if c then change plain else plain) state) (sym (generated_other across plain.block x state.block (across_keeps plain.block state.block is.block_read) own)) is

  -- the switch's block is begun or filled
  begun_here : (plain state : BlockState) → InSwitch plain state → InSwitch (changed_at block beginning plain) state
  begun_here plain state is = by (same_name plain.block block) refl
    where
      by : (c : Bool) → same_name plain.block block ≡ c → InSwitch (if c then beginning plain else plain) state
      by true same = record {
        block_read = is.block_read;
        parameters = is.parameters;
        is_sealed = is.is_sealed;
        is_cold = is.is_cold;
        others = λ other. absurd (other (names_equal plain.block block same));
        old = is.old;
        new = is.new;
        split = is.split;
        led = is.led;
        generated = is.generated;
        targeted = is.targeted;
      }
      by false same = is

  filled_here : (plain state : BlockState) → InSwitch plain state → InSwitch (changed_at block ending plain) state
  filled_here plain state is = by (same_name plain.block block) refl
    where
      by : (c : Bool) → same_name plain.block block ≡ c → InSwitch (if c then ending plain else plain) state
      by true same = record {
        block_read = is.block_read;
        parameters = is.parameters;
        is_sealed = is.is_sealed;
        is_cold = is.is_cold;
        others = λ other. absurd (other (names_equal plain.block block same));
        old = is.old;
        new = is.new;
        split = is.split;
        led = is.led;
        generated = is.generated;
        targeted = is.targeted;
      }
      by false same = is

  -- a branch that is generated leads to one of the targets
  led_to : (branch : Name) → IsGenerated across branch → (plain state : BlockState) → Contains targets plain.block → InSwitch plain state → InSwitch (led_by branch plain) state
  led_to branch own plain state target is = by (list_any (same_name branch) plain.predecessors)
    where
      by : (c : Bool) → InSwitch (if c then plain else record plain { predecessors = plain.predecessors ++ branch ∷ [] }) state
      by true = is
      by false = record {
        block_read = is.block_read;
        parameters = is.parameters;
        is_sealed = is.is_sealed;
        is_cold = is.is_cold;
        others = is.others;
        old = is.old;
        new = is.new ++ branch ∷ [];
        split = ap (λ (names : List Name). names ++ branch ∷ []) is.split ∙ append_assoc is.old is.new (branch ∷ []);
        led = is.led;
        generated = all_more (IsGenerated across) is.new branch is.generated own;
        targeted = inr target;
      }

  -- the edge leads to a generated block or to one of the targets
  abbrev pub LeadsSo : Edge Name Name → Type 0
  LeadsSo edge = IsGenerated across edge.target ⊎ Contains targets edge.target

  led_along : (branch : Name) → IsGenerated across branch → (edges : List (Edge Name Name)) → AllByRecursion LeadsSo edges → (plain state : BlockState) → InSwitch plain state → InSwitch (led_all branch edges plain) state
  led_along branch own [] all plain state is = is
  led_along branch own (edge ∷ edges) all plain state is = led_along branch own edges all.1 (changed_at edge.target (led_by branch) plain) state (by all.0)
    where
      at_target : Contains targets edge.target → (c : Bool) → same_name plain.block edge.target ≡ c → InSwitch (if c then led_by branch plain else plain) state
      at_target there true same = led_to branch own plain state (subst (λ (x : Name). Contains targets x) (sym (names_equal plain.block edge.target same)) there) is
      at_target there false same = is

      by : LeadsSo edge → InSwitch (changed_at edge.target (led_by branch) plain) state
      by (inl generated) = other_changed edge.target (led_by branch) generated plain state is
      by (inr there) = at_target there (same_name plain.block edge.target) refl

  -- an instruction in a block changes states so
  module _ (states : List BlockState) where
    changed_among : (states' : List BlockState) (change : BlockState → BlockState) → KeepsEnds change → ((plain state : BlockState) → InSwitch plain state → InSwitch (change plain) state)
        → Among states' states → Among (map change states') states
    changed_among states' change keeps each are = among_left InSwitch InOwn change each (own_kept change keeps) states' states are

    stated_among : (x : Name) → (x ≡ block) ⊎ IsGenerated across x → (operation : Operation) (states' : List BlockState) → Among states' states → Among (stated x operation states') states
    stated_among x side operation states' are = by (is_terminator operation)
      where
        begins : (s : (x ≡ block) ⊎ IsGenerated across x) → (plain state : BlockState) → InSwitch plain state → InSwitch (changed_at x beginning plain) state
        begins (inl same) plain state is = subst (λ (y : Name). InSwitch (changed_at y beginning plain) state) (sym same) (begun_here plain state is)
        begins (inr own) plain state is = other_changed x beginning own plain state is

        ends : (s : (x ≡ block) ⊎ IsGenerated across x) → (plain state : BlockState) → InSwitch plain state → InSwitch (changed_at x ending plain) state
        ends (inl same) plain state is = subst (λ (y : Name). InSwitch (changed_at y ending plain) state) (sym same) (filled_here plain state is)
        ends (inr own) plain state is = other_changed x ending own plain state is

        begun : Among (map (changed_at x beginning) states') states
        begun = changed_among states' (changed_at x beginning) (keeps_at x beginning keeps_beginning) (begins side) are

        by : (c : Bool) → Among (if c then map (changed_at x ending) (map (changed_at x beginning) states') else map (changed_at x beginning) states') states
        by true = changed_among (map (changed_at x beginning) states') (changed_at x ending) (keeps_at x ending keeps_filling) (ends side) begun
        by false = begun

  -- each state of the switch's block is begun
  abbrev pub IsBegun : BlockState → Type 0
  IsBegun state = state.block ≡ block → state.is_pristine ≡ false

  begun_kept : (change : BlockState → BlockState) → KeepsEnds change → (state : BlockState) → IsBegun state → IsBegun (change state)
  begun_kept change keeps state is = λ same. keeps.begun state (is (sym (keeps.block state) ∙ same))

  begun_stated : (x : Name) (operation : Operation) (states' : List BlockState) → AllByRecursion IsBegun states' → AllByRecursion IsBegun (stated x operation states')
  begun_stated x operation states' all = by (is_terminator operation)
    where
      begun : AllByRecursion IsBegun (map (changed_at x beginning) states')
      begun = all_changed IsBegun (changed_at x beginning) (begun_kept (changed_at x beginning) (keeps_at x beginning keeps_beginning)) states' all

      by : (c : Bool) → AllByRecursion IsBegun (if c then map (changed_at x ending) (map (changed_at x beginning) states') else map (changed_at x beginning) states')
      by true = all_changed IsBegun (changed_at x ending) (begun_kept (changed_at x ending) (keeps_at x ending keeps_filling)) (map (changed_at x beginning) states') begun
      by false = begun

  -- where the block itself is begun, they are
  begun_now : (states' : List BlockState) → AllByRecursion IsBegun (map (changed_at block beginning) states')
  begun_now [] = tt
  begun_now (state ∷ states') = (by (same_name state.block block) refl, begun_now states')
    where
      by : (c : Bool) → same_name state.block block ≡ c → IsBegun (if c then beginning state else state)
      by true is = λ same. refl
      by false is = λ same. let apart : true ≡ false = sym (equal_names state.block block same) ∙ is in cc

  begun_first : (operation : Operation) (states' : List BlockState) → AllByRecursion IsBegun (stated block operation states')
  begun_first operation states' = by (is_terminator operation)
    where
      by : (c : Bool) → AllByRecursion IsBegun (if c then map (changed_at block ending) (map (changed_at block beginning) states') else map (changed_at block beginning) states')
      by true = all_changed IsBegun (changed_at block ending) (begun_kept (changed_at block ending) (keeps_at block ending keeps_filling)) (map (changed_at block beginning) states') (begun_now states')
      by false = begun_now states'

  -- LAYOUTS ---------------------------------------------------------------------------------------------------------------

  among_layout : (layout' layout : List Name) → IsReadLayout across layout' layout → StandAmong (IsReadAs across) (IsGenerated across) layout' layout
  among_layout [] [] are = NoMore
  among_layout (x ∷ layout') (y ∷ layout) are = Both x y layout' layout are.0 are.1
  among_layout [] (y ∷ layout) are = absurd are
  among_layout (x ∷ layout') [] are = absurd are

  own_more : (layout' layout : List Name) (x : Name) → IsGenerated across x → list_any (same_name here) layout ≡ true → IsReadLayout across layout' layout → IsReadLayout across (layout' ++ x ∷ []) layout
  own_more [] [] x own there are = let no_way : ⊥ = cc in absurd no_way
  own_more (y ∷ layout') (other ∷ layout) x own there are = (are.0, among_more (IsReadAs across) (IsGenerated across) layout' layout x own are.1)
  own_more [] (other ∷ layout) x own there are = absurd are
  own_more (y ∷ layout') [] x own there are = absurd are

  module _ (apart : IsOneToOne across) where
    -- the layout where the switch's block is in it, and later
    pub laid_first : (layout' layout : List Name) → IsReadLayout across layout' layout → IsReadLayout across (laid_list block layout') (laid_list here layout)
    laid_first layout' layout are =
        by (list_any (same_name block) layout') (list_any (same_name here) layout) (any_among across apart block here layout' layout (across_keeps block here is_block) (among_layout layout' layout are)) layout' layout are
      where
        by : (c' c : Bool) → c' ≡ c → (xs ys : List Name) → IsReadLayout across xs ys → IsReadLayout across (if c' then xs else xs ++ block ∷ []) (if c then ys else ys ++ here ∷ [])
        by true true same xs ys read = read
        by true false same xs ys read = cc
        by false true same xs ys read = cc
        by false false same [] [] read = (across_keeps block here is_block, NoMore)
        by false false same (x ∷ xs) (y ∷ ys) read =
            (read.0, among_joined (IsReadAs across) (IsGenerated across) xs (block ∷ []) ys (here ∷ []) read.1 (Both block here [] [] (across_keeps block here is_block) NoMore))
        by false false same [] (y ∷ ys) read = absurd read
        by false false same (x ∷ xs) [] read = absurd read

    laid_later : (x : Name) → (x ≡ block) ⊎ IsGenerated across x → (layout' layout : List Name) → list_any (same_name here) layout ≡ true → IsReadLayout across layout' layout
        → IsReadLayout across (laid_list x layout') layout
    laid_later x (inl same) layout' layout there are =
        subst (λ (y : Name). IsReadLayout across (laid_list y layout') layout) (sym same)
        (subst (λ (c : Bool). IsReadLayout across (if c then layout' else layout' ++ block ∷ []) layout)
        (sym (any_among across apart block here layout' layout (across_keeps block here is_block) (among_layout layout' layout are) ∙ there)) are)
    laid_later x (inr own) layout' layout there are = by (list_any (same_name x) layout')
      where
        by : (c : Bool) → IsReadLayout across (if c then layout' else layout' ++ x ∷ []) layout
        by true = are
        by false = own_more layout' layout x own there are

    -- THE CALLS -----------------------------------------------------------------------------------------------------------

    module _ (plain : Ledger) (states : List BlockState) (layout : List Name) (there : list_any (same_name here) layout ≡ true) where
      -- what stays through all of the calls
      pub record Stays (ledger : Ledger) : Type 0 where
        pub variables : ledger.variables ≡ plain.variables
        pub exception_tables : ledger.exception_tables ≡ plain.exception_tables
        pub tables : ledger.tables ≡ plain.tables

      -- before the first instruction
      pub record Before (ledger : Ledger) : Type 0 where
        pub stays : Stays ledger
        pub blocks : Among ledger.blocks states
        pub current : ledger.current ≡ Some block
        pub layout_same : ledger.layout ≡ plain.layout

      -- and behind it
      pub record Behind (ledger : Ledger) : Type 0 where
        pub stays : Stays ledger
        pub blocks : Among ledger.blocks states
        pub current : Name
        pub at : ledger.current ≡ Some current
        pub side : (current ≡ block) ⊎ IsGenerated across current
        pub layout_read : IsReadLayout across ledger.layout layout
        pub begun : AllByRecursion IsBegun ledger.blocks

      abbrev with_all : Ledger → List BlockState → List Name → Ledger
      with_all ledger blocks names = record ledger { blocks = blocks; layout = names }

      -- AN INSTRUCTION ----------------------------------------------------------------------------------------------------

      module _ (ledger : Ledger) (entries : List GivenEntry) (instruction : Instruction Name Name) (own : IsGenerated across (next_answer ledger))
          (leads : AllByRecursion LeadsSo instruction.edges) (first : ℕ) (tables : AllByRecursion (IsTableFrom first) entries) where
        abbrev blocks_at : Name → List BlockState
        blocks_at x = map (led_all (next_answer ledger) instruction.edges) (stated x instruction.operation ledger.blocks)

        among_at : (x : Name) → (x ≡ block) ⊎ IsGenerated across x → Among ledger.blocks states → Among (blocks_at x) states
        among_at x side are =
            changed_among states (stated x instruction.operation ledger.blocks) (led_all (next_answer ledger) instruction.edges) (keeps_led (next_answer ledger) instruction.edges)
            (led_along (next_answer ledger) own instruction.edges leads) (stated_among states x side instruction.operation ledger.blocks are)

        stays_on : (x : Name) → ledger.current ≡ Some x → Stays ledger → Stays (ledger_with ledger (Build entries instruction))
        stays_on x at stays = record {
          variables = ap (λ (l : Ledger). l.variables) (instruction_is ledger x instruction at) ∙ stays.variables;
          exception_tables = none_tried first ledger.exception_tables entries tables ∙ stays.exception_tables;
          tables = ap (λ (l : Ledger). l.tables) (instruction_is ledger x instruction at) ∙ stays.tables;
        }

        begins_here : IsReadLayout across (laid_list block plain.layout) layout → Before ledger → Behind (ledger_with ledger (Build entries instruction))
        begins_here laid is =
            let same = instruction_is ledger block instruction is.current in
            record {
              stays = stays_on block is.current is.stays;
              blocks = subst (λ (xs : List BlockState). Among xs states) (sym (ap (λ (l : Ledger). l.blocks) same)) (among_at block (inl refl) is.blocks);
              current = block;
              at = ap (λ (l : Ledger). l.current) same ∙ is.current;
              side = inl refl;
              layout_read = subst (λ (xs : List Name). IsReadLayout across xs layout) (sym (ap (λ (l : Ledger). l.layout) same ∙ ap (laid_list block) is.layout_same)) laid;
              begun = subst (AllByRecursion IsBegun) (sym (ap (λ (l : Ledger). l.blocks) same))
                  (all_changed IsBegun (led_all (next_answer ledger) instruction.edges) (begun_kept (led_all (next_answer ledger) instruction.edges) (keeps_led (next_answer ledger) instruction.edges))
                  (stated block instruction.operation ledger.blocks) (begun_first instruction.operation ledger.blocks));
            }

        goes_on : Behind ledger → Behind (ledger_with ledger (Build entries instruction))
        goes_on is =
            let same = instruction_is ledger is.current instruction is.at in
            record {
              stays = stays_on is.current is.at is.stays;
              blocks = subst (λ (xs : List BlockState). Among xs states) (sym (ap (λ (l : Ledger). l.blocks) same)) (among_at is.current is.side is.blocks);
              current = is.current;
              at = ap (λ (l : Ledger). l.current) same ∙ is.at;
              side = is.side;
              layout_read = subst (λ (xs : List Name). IsReadLayout across xs layout) (sym (ap (λ (l : Ledger). l.layout) same)) (laid_later is.current is.side ledger.layout layout there is.layout_read);
              begun = subst (AllByRecursion IsBegun) (sym (ap (λ (l : Ledger). l.blocks) same))
                  (all_changed IsBegun (led_all (next_answer ledger) instruction.edges) (begun_kept (led_all (next_answer ledger) instruction.edges) (keeps_led (next_answer ledger) instruction.edges))
                  (stated is.current instruction.operation ledger.blocks) (begun_stated is.current instruction.operation ledger.blocks is.begun));
            }

      -- ALL CALLS ---------------------------------------------------------------------------------------------------------

      module _ (end : Ledger) (has : HasApart end) (many : length end.answers ≡ base + count) (first : ℕ) (laid : IsReadLayout across (laid_list block plain.layout) layout) where
        there_generated : (x : Name) → base ≤ x.place → IsTrue (has_block end x) → IsGenerated across x
        there_generated x from is =
            let below : x.place < length end.answers = there_made (length end.answers) x end.blocks has.made is in
            across_inside reading base count x from (omega (arith, below, many))

        edges_lead : (edges : List (Edge Name Name)) → AllByRecursion (LeadsInside base targets) edges
            → AllByRecursion (λ edge. base ≤ edge.target.place → IsTrue (has_block end edge.target)) edges → AllByRecursion LeadsSo edges
        edges_lead [] inside are = tt
        edges_lead (edge ∷ edges) inside are = (by inside.0.inside, edges_lead edges inside.1 are.1)
          where
            by : (base ≤ edge.target.place) ⊎ Contains targets edge.target → LeadsSo edge
            by (inl from) = inl (there_generated edge.target from (are.0 from))
            by (inr target) = inr target

        -- the next answer is generated
        next_own : (ledger : Ledger) (k : ℕ) (request : Request) (more : Script) → length ledger.answers ≡ base + k → k + length (request ∷ more) ≡ count → IsGenerated across (next_answer ledger)
        next_own ledger k request more place whole = across_inside reading base count (next_answer ledger) (omega (arith, place)) (omega (arith, place, whole))

        created : (ledger : Ledger) (k : ℕ) → length ledger.answers ≡ base + k → IsGenerated across (next_answer ledger) → Among ledger.blocks states
            → Among (ledger.blocks ++ new_block (next_answer ledger) ∷ []) states
        created ledger k place own are = among_more InSwitch InOwn ledger.blocks states (new_block (next_answer ledger)) (own, λ below. absurd (omega (arith, below, place))) are

        -- a block that is sealed is generated, or there is none
        sealed_side : (x : Name) → base ≤ x.place → (plain state : BlockState) → InSwitch plain state → InSwitch (changed_at x sealed plain) state
        sealed_side x from plain state is = by (same_name plain.block x) refl
          where
            by : (c : Bool) → same_name plain.block x ≡ c → InSwitch (if c then sealed plain else plain) state
            by true same =
                let below = kept plain.block state.block is.block_read in
                let place : plain.block.place ≡ x.place = ap (λ (n : Name). n.place) (names_equal plain.block x same) in
                absurd (omega (arith, from, below, place))
            by false same = is

        new_begun : (ledger : Ledger) (k : ℕ) → length ledger.answers ≡ base + k → IsBegun (new_block (next_answer ledger))
        new_begun ledger k place = λ same. let at : length ledger.answers ≡ block.place = ap (λ (n : Name). n.place) same in absurd (omega (arith, at, place, before))

        further : (ledger : Ledger) (request : Request) (k : ℕ) → length ledger.answers ≡ base + k → length (ledger_with ledger request).answers ≡ base + suc k
        further ledger request k place =
            let longer : length (ledger_with ledger request).answers ≡ suc (length ledger.answers) = one_longer ledger.answers (answers_to ledger request) in
            omega (arith, longer, place)

        shorter : (k : ℕ) (request : Request) (more : Script) → k + length (request ∷ more) ≡ count → suc k + length more ≡ count
        shorter k request more whole = omega (arith, whole)

        pub goes_behind : (more : Script) (ledger : Ledger) (k : ℕ) → length ledger.answers ≡ base + k → k + length more ≡ count
            → AllByRecursion (IsDecidingCall base first targets) more → AllByRecursion (LeadsToBlocks base end) more → Behind ledger → Behind (fold ledger_with ledger more)
        goes_behind [] ledger k place whole deciding leads is = is
        goes_behind (CreateBlock ∷ more) ledger k place whole deciding leads is =
            goes_behind more (ledger_with ledger CreateBlock) (suc k) (further ledger CreateBlock k place) (shorter k CreateBlock more whole) deciding.1 leads.1
            (record {
              stays = record { variables = is.stays.variables; exception_tables = is.stays.exception_tables; tables = is.stays.tables };
              blocks = created ledger k place (next_own ledger k CreateBlock more place whole) is.blocks;
              current = is.current;
              at = is.at;
              side = is.side;
              layout_read = is.layout_read;
              begun = all_more IsBegun ledger.blocks (new_block (next_answer ledger)) is.begun (new_begun ledger k place);
            })
        goes_behind (SwitchToBlock x ∷ more) ledger k place whole deciding leads is =
            goes_behind more (ledger_with ledger (SwitchToBlock x)) (suc k) (further ledger (SwitchToBlock x) k place) (shorter k (SwitchToBlock x) more whole) deciding.1 leads.1
            (record {
              stays = record { variables = is.stays.variables; exception_tables = is.stays.exception_tables; tables = is.stays.tables };
              blocks = is.blocks;
              current = x;
              at = refl;
              side = inr (there_generated x deciding.0 leads.0);
              layout_read = is.layout_read;
              begun = is.begun;
            })
        goes_behind (SealBlock x ∷ more) ledger k place whole deciding leads is =
            goes_behind more (ledger_with ledger (SealBlock x)) (suc k) (further ledger (SealBlock x) k place) (shorter k (SealBlock x) more whole) deciding.1 leads.1
            (record {
              stays = record { variables = is.stays.variables; exception_tables = is.stays.exception_tables; tables = is.stays.tables };
              blocks = changed_among states ledger.blocks (changed_at x sealed) (keeps_at x sealed keeps_sealing) (sealed_side x deciding.0) is.blocks;
              current = is.current;
              at = is.at;
              side = is.side;
              layout_read = is.layout_read;
              begun = all_changed IsBegun (changed_at x sealed) (begun_kept (changed_at x sealed) (keeps_at x sealed keeps_sealing)) ledger.blocks is.begun;
            })
        goes_behind (MakeEdge edge ∷ more) ledger k place whole deciding leads is =
            goes_behind more (ledger_with ledger (MakeEdge edge)) (suc k) (further ledger (MakeEdge edge) k place) (shorter k (MakeEdge edge) more whole) deciding.1 leads.1
            (record {
              stays = record { variables = is.stays.variables; exception_tables = is.stays.exception_tables; tables = is.stays.tables };
              blocks = is.blocks;
              current = is.current;
              at = is.at;
              side = is.side;
              layout_read = is.layout_read;
              begun = is.begun;
            })
        goes_behind (MakeJumpTable default entries ∷ more) ledger k place whole deciding leads is =
            goes_behind more (ledger_with ledger (MakeJumpTable default entries)) (suc k) (further ledger (MakeJumpTable default entries) k place) (shorter k (MakeJumpTable default entries) more whole) deciding.1 leads.1
            (record {
              stays = record { variables = is.stays.variables; exception_tables = is.stays.exception_tables; tables = is.stays.tables };
              blocks = is.blocks;
              current = is.current;
              at = is.at;
              side = is.side;
              layout_read = is.layout_read;
              begun = is.begun;
            })
        goes_behind (Build entries instruction ∷ more) ledger k place whole deciding leads is =
            goes_behind more (ledger_with ledger (Build entries instruction)) (suc k) (further ledger (Build entries instruction) k place) (shorter k (Build entries instruction) more whole) deciding.1 leads.1
            (goes_on ledger entries instruction (next_own ledger k (Build entries instruction) more place whole) (edges_lead instruction.edges deciding.0.0.edges leads.0) first deciding.0.1 is)
        goes_behind (_ ∷ more) ledger k place whole deciding leads is = absurd deciding.0

        pub goes_before : (more : Script) (ledger : Ledger) (k : ℕ) → length ledger.answers ≡ base + k → k + length more ≡ count
            → AllByRecursion (IsDecidingCall base first targets) more → AllByRecursion (LeadsToBlocks base end) more → BeginsHere more → Before ledger → Behind (fold ledger_with ledger more)
        goes_before [] ledger k place whole deciding leads begins is = absurd begins
        goes_before (CreateBlock ∷ more) ledger k place whole deciding leads begins is =
            goes_before more (ledger_with ledger CreateBlock) (suc k) (further ledger CreateBlock k place) (shorter k CreateBlock more whole) deciding.1 leads.1 begins.1
            (record {
              stays = record { variables = is.stays.variables; exception_tables = is.stays.exception_tables; tables = is.stays.tables };
              blocks = created ledger k place (next_own ledger k CreateBlock more place whole) is.blocks;
              current = is.current;
              layout_same = is.layout_same;
            })
        goes_before (MakeEdge edge ∷ more) ledger k place whole deciding leads begins is =
            goes_before more (ledger_with ledger (MakeEdge edge)) (suc k) (further ledger (MakeEdge edge) k place) (shorter k (MakeEdge edge) more whole) deciding.1 leads.1 begins.1
            (record {
              stays = record { variables = is.stays.variables; exception_tables = is.stays.exception_tables; tables = is.stays.tables };
              blocks = is.blocks;
              current = is.current;
              layout_same = is.layout_same;
            })
        goes_before (MakeJumpTable default entries ∷ more) ledger k place whole deciding leads begins is =
            goes_before more (ledger_with ledger (MakeJumpTable default entries)) (suc k) (further ledger (MakeJumpTable default entries) k place) (shorter k (MakeJumpTable default entries) more whole)
            deciding.1 leads.1 begins.1
            (record {
              stays = record { variables = is.stays.variables; exception_tables = is.stays.exception_tables; tables = is.stays.tables };
              blocks = is.blocks;
              current = is.current;
              layout_same = is.layout_same;
            })
        goes_before (Build entries instruction ∷ more) ledger k place whole deciding leads begins is =
            goes_behind more (ledger_with ledger (Build entries instruction)) (suc k) (further ledger (Build entries instruction) k place) (shorter k (Build entries instruction) more whole) deciding.1 leads.1
            (begins_here ledger entries instruction (next_own ledger k (Build entries instruction) more place whole) (edges_lead instruction.edges deciding.0.0.edges leads.0) first deciding.0.1 laid is)
        goes_before (_ ∷ more) ledger k place whole deciding leads begins is = absurd begins.0
