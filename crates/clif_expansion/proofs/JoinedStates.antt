-- Changes of a ledger with names read keep its states joined.
use Rattle.std.proofs.Common.{◌≡◌, ℕ, zero, suc, Bool, true, false, List, [], ◌∷◌, ◌++◌, map, refl, sym, ◌∙◌, ap, ap₂, subst, Option, Some, None}
use Rattle.std.specs.Prelude.{flat_map, fold, if◌then◌else◌, slice_set, ◌||◌}
use Rattle.std.specs.List.{AllZip, list_any}
use Rattle.clif_meaning.specs.Instruction.{Edge, Operation}
use Rattle.clif_meaning.specs.Ledger.{BlockState, ExceptionTable, Ledger, empty_ledger, is_inserted, is_terminator, led_by, left_by, put_after, redirected_state, with_begun, with_begun_at, with_filled_at, with_layout, with_predecessor, with_served, with_state, with_terminator, with_tried}
use Rattle.clif_meaning.specs.Name.{Name, same_name}
use Rattle.clif_meaning.specs.Request.{GivenEntry, ServedBy, TriedBy, Imported}
use Rattle.clif_expansion.specs.Joining.{AreJoinedStates, AreLeading, Both, IsEnded, IsOwnState, IsRead, IsReadCurrent, IsReadException, IsReadLayout, IsReadState, IsReadTable, NoMore, NoneLeads, StandAmong}
use Rattle.clif_expansion.specs.Reading.{IsOneToOne, IsReadAs, IsReadEdge, Reading}
use Rattle.clif_expansion.specs.Walk.{IsGenerated}
use Rattle.clif_expansion.proofs.Among.{KeepsEnds, among_joined, among_mapped, any_among, any_joined, any_leading, any_put, begun_same, changed_at, ended_mapped, filled_same, keeps_at, keeps_beginning, keeps_filling, keeps_leading, leading_joined, others_leading, put_among}
use Rattle.clif_expansion.proofs.Names.{same_read}

-- LISTS -------------------------------------------------------------------------------------------------------------------

-- by tests that are the same
pub chosen : {X Y : Type 0} (R : X → Y → Type 0) (c' c : Bool) (x' y' : X) (x y : Y) → c' ≡ c → R x' x → R y' y → R (if c' then x' else y') (if c then x else y)
chosen R true true x' y' x y same first second = first
chosen R true false x' y' x y same first second = cc
chosen R false true x' y' x y same first second = cc
chosen R false false x' y' x y same first second = second

pub zip_mapped : {X Y X' Y' : Type 0} (R : X → Y → Type 0) (S : X' → Y' → Type 0) (f : X → X') (g : Y → Y') → ((x : X) (y : Y) → R x y → S (f x) (g y))
    → (xs : List X) (ys : List Y) → AllZip R xs ys → AllZip S (map f xs) (map g ys)
zip_mapped R S f g each [] [] are = tt
zip_mapped R S f g each [] (y ∷ ys) are = absurd are
zip_mapped R S f g each (x ∷ xs) [] are = absurd are
zip_mapped R S f g each (x ∷ xs) (y ∷ ys) are = (each x y are.0, zip_mapped R S f g each xs ys are.1)

pub zip_each : {X Y : Type 0} (R S : X → Y → Type 0) → ((x : X) (y : Y) → R x y → S x y) → (xs : List X) (ys : List Y) → AllZip R xs ys → AllZip S xs ys
zip_each R S each [] [] are = tt
zip_each R S each [] (y ∷ ys) are = absurd are
zip_each R S each (x ∷ xs) [] are = absurd are
zip_each R S each (x ∷ xs) (y ∷ ys) are = (each x y are.0, zip_each R S each xs ys are.1)

pub zip_joined : {X Y : Type 0} (R : X → Y → Type 0) (xs xs' : List X) (ys ys' : List Y) → AllZip R xs ys → AllZip R xs' ys' → AllZip R (xs ++ xs') (ys ++ ys')
zip_joined R [] xs' [] ys' are more = more
zip_joined R [] xs' (y ∷ ys) ys' are more = absurd are
zip_joined R (x ∷ xs) xs' [] ys' are more = absurd are
zip_joined R (x ∷ xs) xs' (y ∷ ys) ys' are more = (are.0, zip_joined R xs xs' ys ys' are.1 more)

pub zip_flattened : {X Y X' Y' : Type 0} (R : X → Y → Type 0) (S : X' → Y' → Type 0) (f : X → List X') (g : Y → List Y') → ((x : X) (y : Y) → R x y → AllZip S (f x) (g y))
    → (xs : List X) (ys : List Y) → AllZip R xs ys → AllZip S (flat_map f xs) (flat_map g ys)
zip_flattened R S f g each [] [] are = tt
zip_flattened R S f g each [] (y ∷ ys) are = absurd are
zip_flattened R S f g each (x ∷ xs) [] are = absurd are
zip_flattened R S f g each (x ∷ xs) (y ∷ ys) are =
    zip_joined S (f x) (flat_map f xs) (g y) (flat_map g ys) (each x y are.0) (zip_flattened R S f g each xs ys are.1)

-- what is made of each is the same
pub maps_same : {X Y Z : Type 0} (R : X → Y → Type 0) (f : X → Z) (g : Y → Z) → ((x : X) (y : Y) → R x y → f x ≡ g y) → (xs : List X) (ys : List Y) → AllZip R xs ys
    → map f xs ≡ map g ys
maps_same R f g each [] [] are = refl
maps_same R f g each [] (y ∷ ys) are = absurd are
maps_same R f g each (x ∷ xs) [] are = absurd are
maps_same {X} {Y} {Z} R f g each (x ∷ xs) (y ∷ ys) are = ap₂ (λ (z : Z) (zs : List Z). z ∷ zs) (each x y are.0) (maps_same R f g each xs ys are.1)

pub zip_set : {X Y : Type 0} (R : X → Y → Type 0) (xs : List X) (ys : List Y) (k : ℕ) (x : X) (y : Y) → AllZip R xs ys → R x y → AllZip R (slice_set xs k x) (slice_set ys k y)
zip_set R [] [] k x y are is = tt
zip_set R [] (b ∷ ys) k x y are is = absurd are
zip_set R (a ∷ xs) [] k x y are is = absurd are
zip_set R (a ∷ xs) (b ∷ ys) zero x y are is = (is, are.1)
zip_set R (a ∷ xs) (b ∷ ys) (suc k) x y are is = (are.0, zip_set R xs ys k x y are.1 is)

-- READ NAMES --------------------------------------------------------------------------------------------------------------

module _ (reading : Reading) (one_to_one : IsOneToOne reading) where
  abbrev Read : List Name → List Name → Type 0
  Read names' names = AllZip (IsReadAs reading) names' names

  -- whether a name is in a list
  pub any_read : (x' x : Name) (names' names : List Name) → IsReadAs reading x' x → Read names' names → list_any (same_name x') names' ≡ list_any (same_name x) names
  any_read x' x [] [] is are = refl
  any_read x' x [] (y ∷ names) is are = absurd are
  any_read x' x (y' ∷ names') [] is are = absurd are
  any_read x' x (y' ∷ names') (y ∷ names) is are =
      ap₂ (λ (a b : Bool). a || b) (same_read reading one_to_one x' y' x y is are.0) (any_read x' x names' names is are.1)

module _ (reading : Reading) (made : ℕ) (one_to_one : IsOneToOne reading) where
  -- STATES ----------------------------------------------------------------------------------------------------------------

  abbrev State : BlockState → BlockState → Type 0
  State state' state = IsReadState reading made state' state

  abbrev Own : BlockState → Type 0
  Own state = IsOwnState reading state

  abbrev Respects : (BlockState → BlockState) → (BlockState → BlockState) → Type 0
  Respects change' change = (state' state : BlockState) → State state' state → State (change' state') (change state)

  with_predecessors_read : (state' state : BlockState) (names' names : List Name) → State state' state → AreLeading reading made names' names
      → State (record state' { predecessors = names' }) (record state { predecessors = names })
  with_predecessors_read state' state names' names read are = record { block = read.block; parameters = read.parameters; is_pristine = read.is_pristine; is_filled = read.is_filled; is_sealed = read.is_sealed; is_cold = read.is_cold; predecessors = are }

  led_read : (branch' branch : Name) → IsReadAs reading branch' branch → Respects (led_by branch') (led_by branch)
  led_read branch' branch is state' state read =
      chosen State (list_any (same_name branch') state'.predecessors) (list_any (same_name branch) state.predecessors)
      state' (record state' { predecessors = state'.predecessors ++ branch' ∷ [] }) state (record state { predecessors = state.predecessors ++ branch ∷ [] })
      (any_leading reading made one_to_one branch' branch state'.predecessors state.predecessors is read.predecessors) read
      (with_predecessors_read state' state _ _ read
      (leading_joined reading made state'.predecessors (branch' ∷ []) state.predecessors (branch ∷ []) read.predecessors (IsRead branch' branch [] [] is NoneLeads)))

  left_read : (branch' branch : Name) → IsReadAs reading branch' branch → Respects (left_by branch') (left_by branch)
  left_read branch' branch is state' state read =
      with_predecessors_read state' state _ _ read (others_leading reading made one_to_one branch' branch state'.predecessors state.predecessors is read.predecessors)

  pub redirected_read : (branch' branch from' from to' to : Name) → IsReadAs reading branch' branch → IsReadAs reading from' from → IsReadAs reading to' to
      → Respects (redirected_state branch' from' to') (redirected_state branch from to)
  redirected_read branch' branch from' from to' to is at there state' state read =
      chosen State (same_name from' to') (same_name from to) state' _ state _ (same_read reading one_to_one from' to' from to at there) read
      (chosen State (same_name state'.block from') (same_name state.block from) (left_by branch' state') _ (left_by branch state) _
      (same_read reading one_to_one state'.block from' state.block from read.block at) (left_read branch' branch is state' state read)
      (chosen State (same_name state'.block to') (same_name state.block to) (led_by branch' state') state' (led_by branch state) state
      (same_read reading one_to_one state'.block to' state.block to read.block there) (led_read branch' branch is state' state read) read))

  own_kept : (change : BlockState → BlockState) → KeepsEnds change → (state : BlockState) → Own state → Own (change state)
  own_kept change keeps state own = record {
    block = ap reading (keeps.block state) ∙ own.block;
    is_filled = keeps.filled state own.is_filled;
    is_sealed = keeps.is_sealed state own.is_sealed;
  }

  -- LEDGERS ---------------------------------------------------------------------------------------------------------------

  abbrev Joined : Ledger → Ledger → Type 0
  Joined plain ledger = AreJoinedStates reading made plain ledger

  abbrev Current : List BlockState → List Name → Option Name → Option Name → Type 0
  Current blocks layout current' current = IsReadCurrent reading (record empty_ledger { blocks = blocks; layout = layout }) current' current

  -- changes of all states, and of the layout, keep the current blocks
  current_kept : (blocks blocks' : List BlockState) (layout layout' : List Name) (current' current : Option Name)
      → ((x : Name) → IsEnded blocks layout x → IsEnded blocks' layout' x)
      → Current blocks layout current' current → Current blocks' layout' current' current
  current_kept blocks blocks' layout layout' None None each is = tt
  current_kept blocks blocks' layout layout' (Some x) (Some block) each is = is
  current_kept blocks blocks' layout layout' (Some x) None each is = (is.0, each x is.1)
  current_kept blocks blocks' layout layout' None (Some block) each is = absurd is

  pub all_changed : (plain ledger : Ledger) (change' change : BlockState → BlockState) → Joined plain ledger → KeepsEnds change' → Respects change' change
      → Joined (record plain { blocks = map change' plain.blocks }) (record ledger { blocks = map change ledger.blocks })
  all_changed plain ledger change' change joined keeps respects = record {
    blocks = among_mapped State Own State Own change' change respects (own_kept change' keeps) plain.blocks ledger.blocks joined.blocks;
    current = current_kept plain.blocks (map change' plain.blocks) plain.layout plain.layout plain.current ledger.current
        (λ x is. ended_mapped x change' keeps plain.blocks plain.layout is) joined.current;
    layout = joined.layout;
    variables = joined.variables;
    jump_tables = joined.jump_tables;
    exception_tables = joined.exception_tables;
    tables = joined.tables;
  }

  pub changed_read : (plain ledger : Ledger) (x block : Name) (change' change : BlockState → BlockState) → Joined plain ledger → IsReadAs reading x block → KeepsEnds change' → Respects change' change
      → Joined (with_state plain x change') (with_state ledger block change)
  changed_read plain ledger x block change' change joined is keeps respects =
      all_changed plain ledger (changed_at x change') (changed_at block change) joined (keeps_at x change' keeps)
      (λ state' state read. chosen State (same_name state'.block x) (same_name state.block block) (change' state') state' (change state) state
      (same_read reading one_to_one state'.block x state.block block read.block is) (respects state' state read) read)

  -- LAYOUTS ---------------------------------------------------------------------------------------------------------------

  among_layout : (layout' layout : List Name) → IsReadLayout reading layout' layout → StandAmong (IsReadAs reading) (IsGenerated reading) layout' layout
  among_layout [] [] are = NoMore
  among_layout (x ∷ layout') (block ∷ layout) are = Both x block layout' layout are.0 are.1
  among_layout [] (block ∷ layout) are = absurd are
  among_layout (x ∷ layout') [] are = absurd are

  pub inserted_read : (plain ledger : Ledger) (x block : Name) → Joined plain ledger → IsReadAs reading x block → is_inserted plain x ≡ is_inserted ledger block
  inserted_read plain ledger x block joined is = any_among reading one_to_one x block plain.layout ledger.layout is (among_layout plain.layout ledger.layout joined.layout)

  layout_joined : (layout' layout : List Name) (x block : Name) → IsReadAs reading x block → IsReadLayout reading layout' layout → IsReadLayout reading (layout' ++ x ∷ []) (layout ++ block ∷ [])
  layout_joined [] [] x block is are = (is, NoMore)
  layout_joined (y ∷ layout') (other ∷ layout) x block is are =
      (are.0, among_joined (IsReadAs reading) (IsGenerated reading) layout' (x ∷ []) layout (block ∷ []) are.1 (Both x block [] [] is NoMore))
  layout_joined [] (other ∷ layout) x block is are = absurd are
  layout_joined (y ∷ layout') [] x block is are = absurd are

  layout_put : (x block behind after : Name) (layout' layout : List Name) → IsReadAs reading x block → IsReadAs reading behind after → IsReadLayout reading layout' layout
      → IsReadLayout reading (put_after x behind layout') (put_after block after layout)
  layout_put x block behind after [] [] is at are = tt
  layout_put x block behind after (y ∷ layout') (other ∷ layout) is at are =
      chosen (IsReadLayout reading) (same_name y behind) (same_name other after) (y ∷ x ∷ layout') (y ∷ put_after x behind layout') (other ∷ block ∷ layout) (other ∷ put_after block after layout)
      (same_read reading one_to_one y behind other after are.0 at) (are.0, Both x block layout' layout is are.1)
      (are.0, put_among reading one_to_one x block behind after layout' layout is at are.1)
  layout_put x block behind after [] (other ∷ layout) is at are = absurd are
  layout_put x block behind after (y ∷ layout') [] is at are = absurd are

  with_layouts : (plain ledger : Ledger) (layout' layout : List Name) → Joined plain ledger → ((x : Name) → IsEnded plain.blocks plain.layout x → IsEnded plain.blocks layout' x)
      → IsReadLayout reading layout' layout → Joined (record plain { layout = layout' }) (record ledger { layout = layout })
  with_layouts plain ledger layout' layout joined each are = record {
    blocks = joined.blocks;
    current = current_kept plain.blocks plain.blocks plain.layout layout' plain.current ledger.current each joined.current;
    layout = are;
    variables = joined.variables;
    jump_tables = joined.jump_tables;
    exception_tables = joined.exception_tables;
    tables = joined.tables;
  }

  pub put_read : (plain ledger : Ledger) (x block behind after : Name) → Joined plain ledger → IsReadAs reading x block → IsReadAs reading behind after
      → Joined (record plain { layout = put_after x behind plain.layout }) (record ledger { layout = put_after block after ledger.layout })
  put_read plain ledger x block behind after joined is at =
      with_layouts plain ledger _ _ joined
      (λ y ended. record { filled = ended.filled; inserted = any_put y x behind plain.layout ended.inserted; each = ended.each })
      (layout_put x block behind after plain.layout ledger.layout is at joined.layout)

  laid_out : (plain ledger : Ledger) (x block : Name) → Joined plain ledger → IsReadAs reading x block → Joined (with_layout plain x) (with_layout ledger block)
  laid_out plain ledger x block joined is =
      chosen Joined (is_inserted plain x) (is_inserted ledger block) plain (record plain { layout = plain.layout ++ x ∷ [] }) ledger (record ledger { layout = ledger.layout ++ block ∷ [] })
      (inserted_read plain ledger x block joined is) joined
      (with_layouts plain ledger _ _ joined
      (λ y ended. record { filled = ended.filled; inserted = any_joined y plain.layout (x ∷ []) ended.inserted; each = ended.each })
      (layout_joined plain.layout ledger.layout x block is joined.layout))

  -- CURRENT BLOCKS --------------------------------------------------------------------------------------------------------

  -- a block that has ended isn't begun again, nor filled
  begun_ended : (plain : Ledger) (x : Name) → IsEnded plain.blocks plain.layout x → with_begun_at plain (Some x) ≡ plain
  begun_ended plain x ended =
      ap (λ (c : Bool). with_state (if c then plain else record plain { layout = plain.layout ++ x ∷ [] }) x (λ state. record state { is_pristine = false })) ended.inserted
      ∙ ap (λ (states : List BlockState). record plain { blocks = states }) (begun_same x plain.blocks ended.each)

  filled_ended : (plain : Ledger) (x : Name) → IsEnded plain.blocks plain.layout x → with_filled_at plain (Some x) ≡ plain
  filled_ended plain x ended = ap (λ (states : List BlockState). record plain { blocks = states }) (filled_same x plain.blocks ended.each)

  begun_at : (plain ledger : Ledger) (x block : Option Name) → Joined plain ledger → IsReadCurrent reading plain x block → Joined (with_begun_at plain x) (with_begun_at ledger block)
  begun_at plain ledger None None joined is = joined
  begun_at plain ledger None (Some block) joined is = absurd is
  begun_at plain ledger (Some x) None joined is = subst (λ (l : Ledger). Joined l ledger) (sym (begun_ended plain x is.1)) joined
  begun_at plain ledger (Some x) (Some block) joined is =
      changed_read (with_layout plain x) (with_layout ledger block) x block (λ state. record state { is_pristine = false }) (λ state. record state { is_pristine = false })
      (laid_out plain ledger x block joined is) is keeps_beginning
      (λ state' state read. record { block = read.block; parameters = read.parameters; is_pristine = refl; is_filled = read.is_filled; is_sealed = read.is_sealed; is_cold = read.is_cold; predecessors = read.predecessors })

  pub begun_read : (plain ledger : Ledger) → Joined plain ledger → Joined (with_begun plain) (with_begun ledger)
  begun_read plain ledger joined = begun_at plain ledger plain.current ledger.current joined joined.current

  filled_at : (plain ledger : Ledger) (x block : Option Name) → Joined plain ledger → IsReadCurrent reading plain x block → Joined (with_filled_at plain x) (with_filled_at ledger block)
  filled_at plain ledger None None joined is = joined
  filled_at plain ledger None (Some block) joined is = absurd is
  filled_at plain ledger (Some x) None joined is = subst (λ (l : Ledger). Joined l ledger) (sym (filled_ended plain x is.1)) joined
  filled_at plain ledger (Some x) (Some block) joined is =
      changed_read plain ledger x block (λ state. record state { is_filled = true }) (λ state. record state { is_filled = true }) joined is keeps_filling
      (λ state' state read. record { block = read.block; parameters = read.parameters; is_pristine = read.is_pristine; is_filled = refl; is_sealed = read.is_sealed; is_cold = read.is_cold; predecessors = read.predecessors })

  terminated : (plain ledger : Ledger) (operation : Operation) → Joined plain ledger → Joined (with_terminator plain operation) (with_terminator ledger operation)
  terminated plain ledger operation joined =
      chosen Joined (is_terminator operation) (is_terminator operation) (with_filled_at plain plain.current) plain (with_filled_at ledger ledger.current) ledger refl
      (filled_at plain ledger plain.current ledger.current joined joined.current) joined

  led_along : (plain ledger : Ledger) (branch' branch : Name) (edges' edges : List (Edge Name Name)) → Joined plain ledger → IsReadAs reading branch' branch
      → AllZip (IsReadEdge reading) edges' edges → Joined (fold (with_predecessor branch') plain edges') (fold (with_predecessor branch) ledger edges)
  led_along plain ledger branch' branch [] [] joined is are = joined
  led_along plain ledger branch' branch [] (edge ∷ edges) joined is are = absurd are
  led_along plain ledger branch' branch (edge' ∷ edges') [] joined is are = absurd are
  led_along plain ledger branch' branch (edge' ∷ edges') (edge ∷ edges) joined is are =
      led_along (with_predecessor branch' plain edge') (with_predecessor branch ledger edge) branch' branch edges' edges
      (changed_read plain ledger edge'.target edge.target (led_by branch') (led_by branch) joined are.0.target (keeps_leading branch') (led_read branch' branch is)) is are.1

  -- an instruction with its names read
  pub built_read : (plain ledger : Ledger) (branch' branch : Name) (operation : Operation) (edges' edges : List (Edge Name Name)) → Joined plain ledger → IsReadAs reading branch' branch
      → AllZip (IsReadEdge reading) edges' edges
      → Joined (fold (with_predecessor branch') (with_terminator (with_begun plain) operation) edges') (fold (with_predecessor branch) (with_terminator (with_begun ledger) operation) edges)
  built_read plain ledger branch' branch operation edges' edges joined is are =
      led_along (with_terminator (with_begun plain) operation) (with_terminator (with_begun ledger) operation) branch' branch edges' edges
      (terminated (with_begun plain) (with_begun ledger) operation (begun_read plain ledger joined)) is are

module _ (reading : Reading) where
  pub served_read : (entries : List GivenEntry) (tables' tables : List (Option (List (Edge Name Name)))) → AllZip (IsReadTable reading) tables' tables
      → AllZip (IsReadTable reading) (with_served tables' entries) (with_served tables entries)
  served_read [] tables' tables are = are
  served_read (ServedBy table ∷ entries) tables' tables are =
      served_read entries (slice_set tables' table None) (slice_set tables table None) (zip_set (IsReadTable reading) tables' tables table None None are tt)
  served_read (TriedBy table ∷ entries) tables' tables are = served_read entries tables' tables are
  served_read (Imported entry ∷ entries) tables' tables are = served_read entries tables' tables are

  pub tried_read : (entries : List GivenEntry) (tables' tables : List (Option ExceptionTable)) → AllZip (IsReadException reading) tables' tables
      → AllZip (IsReadException reading) (with_tried tables' entries) (with_tried tables entries)
  tried_read [] tables' tables are = are
  tried_read (ServedBy table ∷ entries) tables' tables are = tried_read entries tables' tables are
  tried_read (TriedBy table ∷ entries) tables' tables are =
      tried_read entries (slice_set tables' table None) (slice_set tables table None) (zip_set (IsReadException reading) tables' tables table None None are tt)
  tried_read (Imported entry ∷ entries) tables' tables are = tried_read entries tables' tables are
