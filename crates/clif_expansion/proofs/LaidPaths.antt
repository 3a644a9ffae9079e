-- Where codes are laid, a path of the plain program goes beside a path of the script's program.
use Rattle.std.proofs.Common.{◌≡◌, ◌<◌, ◌+◌, ℕ, suc, List, [], ◌∷◌, ◌++◌, drop, length, refl, sym, ◌∙◌, ap, subst, arith, ◌⊎◌, inl, inr, Option, Some, None}
use Rattle.std.specs.Prelude.{◌≢◌, Contains}
use Rattle.std.specs.List.{AllByRecursion}
use Rattle.clif_meaning.specs.Name.{Name}
use Rattle.clif_meaning.specs.Path.{Flow, IsPath, Leads, Place}
use Rattle.clif_meaning.specs.Program.{Program, Item}
use Rattle.clif_meaning.specs.WellPlaced.{Code, IsGivenAlong, IsGivenBefore, IsWellPlaced, item_at, item_gives, item_names, item_passes, item_targets, program_code, program_flow}
use Rattle.clif_expansion.specs.Expansion.{AreCut, IsReadBlock}
use Rattle.clif_expansion.specs.Laying.{Ending, Entering, HasGiven, IsAmong, IsLaid, IsLaidProgram, IsToHand, IsToPass, Laying, LayingKeepsPlaces, Lays, Leaving}
use Rattle.clif_expansion.specs.Reading.{IsOneToOne, IsReadAs, Reading}
use Rattle.clif_expansion.proofs.Placing.{IsGivenAt, at_drop, behind_drop, below_drop, contained_either, contained_in, contained_read, given_further, inside_drop, is_contained, none_contained, of_contained}

module _ (reading : Reading) (one_to_one : IsOneToOne reading) (plain program : Program) (laid : IsLaidProgram reading plain program) where
  abbrev flow : Flow Name
  flow = program_flow program

  abbrev flow' : Flow Name
  flow' = program_flow plain

  abbrev code : Code Name Name
  code = program_code program

  abbrev code' : Code Name Name
  code' = program_code plain

  abbrev Goes : Item → List Name → List Name → List Item → Type 0
  Goes item given blocks items = Lays reading plain item given blocks items

  abbrev Cut : List Item → List Item → Type 0
  Cut items' items = AreCut (IsLaid reading plain) items' items

  -- CODE ------------------------------------------------------------------------------------------------------------------

  -- what an instruction at the front names, and how it goes on
  record Begun (item : Item) (given : List Name) (first : Item) (rest : List Item) : Type 0 where
    names : AllByRecursion (IsToHand reading item given) (item_names (Some first))
    passes : AllByRecursion (IsToPass reading item (item_gives (Some first) ++ given)) (item_passes (Some first))
    on : Goes item (item_gives (Some first) ++ given) (item_targets (Some first)) rest

  begun : (item : Item) (given : List Name) (first : Item) (rest : List Item) → Goes item given [] (first ∷ rest) → Begun item given first rest
  begun item given first rest (Laying g f r names passes on) = record { names = names; passes = passes; on = on }

  ended : (item : Item) (given : List Name) → Goes item given [] [] → HasGiven reading item given
  ended item given (Ending g has) = has

  -- on through the code, whatever blocks there were
  past : (item : Item) (given blocks : List Name) (items : List Item) → Goes item given blocks items → Goes item given [] items
  past item given [] items goes = goes
  past item given (block ∷ blocks) items (Entering g b bs c generated inner goes) = past item given blocks items goes
  past item given (block ∷ blocks) items (Leaving g b target bs c read there has goes) = past item given blocks items goes

  -- the block is a generated one that goes on so, or the item leads to it
  abbrev Onward : Item → List Name → Name → Type 0
  Onward item given block =
      Goes item (plain.parameters block ++ given) [] (plain.items block)
      ⊎ ((target : Name) × IsReadAs reading block target × Contains (item_targets (Some item)) target × HasGiven reading item given)

  onward : (item : Item) (given blocks : List Name) (items : List Item) → Goes item given blocks items → (block : Name) → Contains blocks block → Onward item given block
  onward item given [] items goes block here = absurd (none_contained block here)
  onward item given (first ∷ blocks) items (Entering g b bs c generated inner goes) block here =
      let later : Contains blocks block → Onward item given block = onward item given blocks items goes block in
      elim (contained_in first blocks block here) [
        | inl same ↦ subst (λ z. Onward item given z) same (inl inner)
        | inr further ↦ later further
      ]
  onward item given (first ∷ blocks) items (Leaving g b target bs c read there has goes) block here =
      let later : Contains blocks block → Onward item given block = onward item given blocks items goes block in
      elim (contained_in first blocks block here) [
        | inl same ↦ subst (λ z. Onward item given z) same (inr (target, read, there, has))
        | inr further ↦ later further
      ]

  -- the first code of a list that is cut
  record Opened (items' items : List Item) : Type 0 where
    item : Item
    behind : List Item
    first : Item
    left : List Item
    rest : List Item
    script : items ≡ item ∷ behind
    cut : items' ≡ first ∷ (left ++ rest)
    goes : Goes item [] [] (first ∷ left)
    more : Cut rest behind

  opened : (items' items : List Item) → Cut items' items → items' ≢ [] → Opened items' items
  opened items' [] cut some = absurd (some cut)
  opened items' (item ∷ items) (c, rest, split, is, more) some = by c split is
    where
      by : (c : List Item) → items' ≡ c ++ rest → IsLaid reading plain c item → Opened items' (item ∷ items)
      by [] split is = absurd (is.begins refl)
      by (first ∷ left) split is =
          record { item = item; behind = items; first = first; left = left; rest = rest; script = refl; cut = split; goes = is.lays; more = more }

  -- PATHS -----------------------------------------------------------------------------------------------------------------

  -- Where a path of the plain program stands: in code of an item that a path of the script's comes to, and behind the code there
  -- are the codes of the block's later items, or none.
  record Beside (q : Place Name) (path : List (Place Name)) : Type 0 where
    spot : Place Name
    along : List (Place Name)
    walk : IsPath flow (spot ∷ along)
    item : Item
    here : item_at program spot ≡ Some item
    given : List Name
    first : Item
    left : List Item
    rest : List Item
    stands : drop q.index (plain.items q.block) ≡ first ∷ (left ++ rest)
    goes : Goes item given [] (first ∷ left)
    home : (IsReadAs reading q.block spot.block × Cut rest (drop (suc spot.index) (program.items spot.block))) ⊎ (rest ≡ [])
    was_given : (x : Name) → Contains given x → IsGivenAt code' q path x
    earlier : (x name : Name) → IsReadAs reading x name → IsGivenAt code spot along name → IsGivenAt code' q path x

  -- what is at hand along the paths, behind the item
  abbrev Earlier : Place Name → List (Place Name) → Place Name → List (Place Name) → Type 0
  Earlier spot along q path = (x name : Name) → IsReadAs reading x name → IsGivenAt code spot along name → IsGivenAt code' q path x

  -- at the first instruction of an item's code
  at_code : (q : Place Name) (path : List (Place Name)) (spot : Place Name) (along : List (Place Name)) → IsPath flow (spot ∷ along)
      → IsReadAs reading q.block spot.block → Opened (drop q.index (plain.items q.block)) (drop spot.index (program.items spot.block))
      → Earlier spot along q path → Beside q path
  at_code q path spot along walk read o earlier = record {
    spot = spot;
    along = along;
    walk = walk;
    item = o.item;
    here = at_drop (program.items spot.block) spot.index o.item o.behind o.script;
    given = [];
    first = o.first;
    left = o.left;
    rest = o.rest;
    stands = o.cut;
    goes = o.goes;
    home = inl (read, subst (λ (items : List Item). Cut o.rest items) (sym (behind_drop (program.items spot.block) spot.index o.item o.behind o.script)) o.more);
    was_given = λ x here. absurd (none_contained x here);
    earlier = earlier;
  }

  -- at the first place of a block
  abbrev first_of : Name → Place Name
  first_of block = record { block = block; index = 0 }

  opened_block : (x block : Name) → IsReadAs reading x block → 0 < length (plain.items x) → Opened (plain.items x) (program.items block)
  opened_block x block read some = opened (plain.items x) (program.items block) (laid.items x block read) (inside_drop (plain.items x) 0 some)

  script_some : (x block : Name) → IsReadAs reading x block → 0 < length (plain.items x) → 0 < length (program.items block)
  script_some x block read some =
      let o = opened_block x block read some in below_drop (program.items block) 0 o.item o.behind o.script

  -- a parameter of a block is given where the block is entered
  entered : (x block : Name) (path along : List (Place Name)) → IsReadAs reading x block
      → ((y name : Name) → IsReadAs reading y name → IsGivenAlong code name along → IsGivenAlong code' y path)
      → Earlier (first_of block) along (first_of x) path
  entered x block path along read later y name is (inl parameter) =
      let found = contained_read reading (plain.parameters x) (program.parameters block) name (laid.parameters x block read) parameter in
      inl (subst (λ z. Contains (plain.parameters x) z) (one_to_one found.0 y name found.1 is) found.2)
  entered x block path along read later y name is (inr before) = inr (later y name is before)

  entry_read : (entry' entry : Option Name) (x : Name) → IsReadBlock reading entry' entry → entry' ≡ Some x → (block : Name) × (entry ≡ Some block) × IsReadAs reading x block
  entry_read None None x is at = let none : ⊥ = cc in absurd none
  entry_read None (Some entry) x is at = absurd is
  entry_read (Some entry') None x is at = absurd is
  entry_read (Some entry') (Some entry) x is at = (entry, refl, subst (λ y. IsReadAs reading y entry) (inner entry' x at) is)
    where
      inner : (a b : Name) → Some a ≡ Some b → a ≡ b
      inner a b is = cc

  started : (x : Name) → plain.entry ≡ Some x → 0 < length (plain.items x) → Beside (first_of x) []
  started x at some =
      let found = entry_read plain.entry program.entry x laid.entry at in
      at_code (first_of x) [] (first_of found.0) [] (found.1, (refl, script_some x found.0 found.2 some)) found.2 (opened_block x found.0 found.2 some)
      (entered x found.0 [] [] found.2 (λ y name is none. none))

  module _ (q : Place Name) (path : List (Place Name)) (b : Beside q path) where
    gives_first : code'.gives q ≡ item_gives (Some b.first)
    gives_first = ap item_gives (at_drop (plain.items q.block) q.index b.first (b.left ++ b.rest) b.stands)

    targets_first : flow'.targets q ≡ item_targets (Some b.first)
    targets_first = ap item_targets (at_drop (plain.items q.block) q.index b.first (b.left ++ b.rest) b.stands)

    front : Begun b.item b.given b.first b.left
    front = begun b.item b.given b.first b.left b.goes

    -- what is given behind the instruction
    abbrev now : List Name
    now = item_gives (Some b.first) ++ b.given

    now_given : (x : Name) → Contains now x → IsGivenAlong code' x (q ∷ path)
    now_given x here =
        elim (contained_either (item_gives (Some b.first)) b.given x here) [
          | inl mine ↦ inl (subst (λ (names : List Name). Contains names x) (sym gives_first) mine)
          | inr before ↦ inr (b.was_given x before)
        ]

    still : (x name : Name) → IsReadAs reading x name → IsGivenAt code b.spot b.along name → IsGivenAlong code' x (q ∷ path)
    still x name is before = inr (b.earlier x name is before)

    -- behind the item
    behind : HasGiven reading b.item now → (x name : Name) → IsReadAs reading x name → IsGivenAlong code name (b.spot ∷ b.along) → IsGivenAlong code' x (q ∷ path)
    behind has x name is (inl gives) =
        let found : IsAmong reading now name =
        of_contained (IsAmong reading now) (item_gives (Some b.item)) name has (subst (λ (there : Option Item). Contains (item_gives there) name) b.here gives) in
        now_given x (subst (λ y. Contains now y) (one_to_one found.0 x name found.1 is) found.2)
    behind has x name is (inr before) = still x name is before

    -- NEXT IN THE BLOCK ---------------------------------------------------------------------------------------------------

    abbrev next : Place Name
    next = record { block = q.block; index = suc q.index }

    next_stands : drop (suc q.index) (plain.items q.block) ≡ b.left ++ b.rest
    next_stands = behind_drop (plain.items q.block) q.index b.first (b.left ++ b.rest) b.stands

    in_code : (first : Item) (left : List Item) → b.left ≡ first ∷ left → Beside next (q ∷ path)
    in_code first left is = record {
      spot = b.spot;
      along = b.along;
      walk = b.walk;
      item = b.item;
      here = b.here;
      given = now;
      first = first;
      left = left;
      rest = b.rest;
      stands = next_stands ∙ ap (λ (items : List Item). items ++ b.rest) is;
      goes = subst (λ (items : List Item). Goes b.item now [] items) is (past b.item now (item_targets (Some b.first)) b.left front.on);
      home = b.home;
      was_given = λ x here. inr (now_given x here);
      earlier = λ x name read before. inr (still x name read before);
    }

    next_code : b.left ≡ [] → suc q.index < length (plain.items q.block) → Beside next (q ∷ path)
    next_code is below = by b.home
      where
        rest_there : drop (suc q.index) (plain.items q.block) ≡ b.rest
        rest_there = next_stands ∙ ap (λ (items : List Item). items ++ b.rest) is

        some : b.rest ≢ []
        some none = inside_drop (plain.items q.block) (suc q.index) below (rest_there ∙ none)

        has : HasGiven reading b.item now
        has = ended b.item now (subst (λ (items : List Item). Goes b.item now [] items) is (past b.item now (item_targets (Some b.first)) b.left front.on))

        by : (IsReadAs reading q.block b.spot.block × Cut b.rest (drop (suc b.spot.index) (program.items b.spot.block))) ⊎ (b.rest ≡ []) → Beside next (q ∷ path)
        by (inr none) = absurd (some none)
        by (inl (read, cut)) =
            let o = opened b.rest (drop (suc b.spot.index) (program.items b.spot.block)) cut some in
            let spot : Place Name = record { block = b.spot.block; index = suc b.spot.index } in
            let one_on : suc b.spot.index ≡ b.spot.index + 1 = omega arith in
            at_code next (q ∷ path) spot (b.spot ∷ b.along)
            (inl (refl, one_on, below_drop (program.items b.spot.block) (suc b.spot.index) o.item o.behind o.script), b.walk)
            read
            (subst (λ (items : List Item). Opened items (drop (suc b.spot.index) (program.items b.spot.block))) (sym rest_there) o)
            (λ x name is before. inr (behind has x name is (given_further code b.spot.block b.spot.index (b.spot ∷ b.along) name before)))

    followed : suc q.index < length (plain.items q.block) → Beside next (q ∷ path)
    followed below = by b.left refl
      where
        by : (left : List Item) → b.left ≡ left → Beside next (q ∷ path)
        by [] is = next_code is below
        by (first ∷ left) is = in_code first left is

    -- AT A SUCCESSOR ------------------------------------------------------------------------------------------------------

    in_generated : (x : Name) → Goes b.item (plain.parameters x ++ now) [] (plain.items x) → 0 < length (plain.items x) → Beside (first_of x) (q ∷ path)
    in_generated x inner some = by (plain.items x) refl inner
      where
        by : (items : List Item) → plain.items x ≡ items → Goes b.item (plain.parameters x ++ now) [] items → Beside (first_of x) (q ∷ path)
        by [] is inner = absurd (inside_drop (plain.items x) 0 some is)
        by (first ∷ left) is inner = record {
          spot = b.spot;
          along = b.along;
          walk = b.walk;
          item = b.item;
          here = b.here;
          given = plain.parameters x ++ now;
          first = first;
          left = left;
          rest = [];
          stands = is ∙ ap (λ (items : List Item). first ∷ items) (no_more left);
          goes = inner;
          home = inr refl;
          was_given = λ y here. elim (contained_either (plain.parameters x) now y here) [
            | inl parameter ↦ inl parameter
            | inr before ↦ inr (now_given y before)
          ];
          earlier = λ y name read before. inr (still y name read before);
        }
          where
            no_more : (items : List Item) → items ≡ items ++ []
            no_more [] = refl
            no_more (item ∷ items) = ap (λ (rest : List Item). item ∷ rest) (no_more items)

    at_target : (x target : Name) → IsReadAs reading x target → Contains (item_targets (Some b.item)) target → HasGiven reading b.item now
        → 0 < length (plain.items x) → Beside (first_of x) (q ∷ path)
    at_target x target read there has some =
        at_code (first_of x) (q ∷ path) (first_of target) (b.spot ∷ b.along)
        (inr (subst (λ (item : Option Item). Contains (item_targets item) target) (sym b.here) there, (refl, script_some x target read some)), b.walk)
        read (opened_block x target read some) (entered x target (q ∷ path) (b.spot ∷ b.along) read (behind has))

    went : (x : Name) → Contains (flow'.targets q) x → 0 < length (plain.items x) → Beside (first_of x) (q ∷ path)
    went x here some =
        elim (onward b.item now (item_targets (Some b.first)) b.left front.on x (subst (λ (names : List Name). Contains names x) targets_first here)) [
          | inl inner ↦ in_generated x inner some
          | inr out ↦ at_target x out.0 out.1 out.2 out.3 some
        ]

  -- each path of the plain program goes beside one of the script's
  beside : (q : Place Name) (path : List (Place Name)) → IsPath flow' (q ∷ path) → Beside q path
  beside q [] start =
      let index : 0 ≡ q.index = sym start.1.0 in
      subst (λ (p : Place Name). Beside p []) (λ i. record { block = q.block; index = index i }) (started q.block start.0 start.1.1)
  beside q (p ∷ path) walk = by walk.0 (beside p path walk.1)
    where
      by : Leads flow' p q → Beside p path → Beside q (p ∷ path)
      by (inl next) b =
          let index : suc p.index ≡ q.index = omega (arith, next.1) in
          let block : p.block ≡ q.block = sym next.0 in
          let below : suc p.index < length (plain.items p.block) =
          subst (λ (k : ℕ). k < length (plain.items p.block)) (sym index) (subst (λ z. q.index < length (plain.items z)) next.0 next.2) in
          subst (λ (r : Place Name). Beside r (p ∷ path)) (λ i. record { block = block i; index = index i }) (followed p path b below)
      by (inr enters) b =
          let index : 0 ≡ q.index = sym enters.1.0 in
          subst (λ (r : Place Name). Beside r (p ∷ path)) (λ i. record { block = q.block; index = index i }) (went p path b q.block enters.0 enters.1.1)

  -- WHAT IS NAMED ---------------------------------------------------------------------------------------------------------

  module _ (well : IsWellPlaced code) where
    to_hand : (q : Place Name) (path : List (Place Name)) (b : Beside q path) (given : List Name) (x : Name) → IsToHand reading b.item given x
        → Contains given x ⊎ IsGivenAt code' q path x
    to_hand q path b given x (inl here) = inl here
    to_hand q path b given x (inr (name, is, names)) =
        inr (b.earlier x name is (well.named b.spot name (subst (λ (there : Option Item). Contains (item_names there) name) (sym b.here) names) b.along b.walk))

    named : (q : Place Name) (x : Name) → Contains (code'.names q) x → IsGivenBefore code' x q
    named q x here path walk =
        let b : Beside q path = beside q path walk in
        let mine : Contains (item_names (Some b.first)) x =
        subst (λ (there : Option Item). Contains (item_names there) x) (at_drop (plain.items q.block) q.index b.first (b.left ++ b.rest) b.stands) here in
        let hand : IsToHand reading b.item b.given x = of_contained (IsToHand reading b.item b.given) (item_names (Some b.first)) x (front q path b).names mine in
        elim (to_hand q path b b.given x hand) [
          | inl given ↦ b.was_given x given
          | inr before ↦ before
        ]

    -- what isn't given by the place itself, and is given behind it, was given before it
    given_earlier : (q : Place Name) (path : List (Place Name)) (b : Beside q path) (x : Name) → (Contains (code'.gives q) x → ⊥) → Contains (now q path b) x → IsGivenAt code' q path x
    given_earlier q path b x not here =
        elim (contained_either (item_gives (Some b.first)) b.given x here) [
          | inl mine ↦ absurd (not (subst (λ (names : List Name). Contains names x) (sym (gives_first q path b)) mine))
          | inr before ↦ b.was_given x before
        ]

    to_pass : (q : Place Name) (path : List (Place Name)) (b : Beside q path) (x : Name) → (Contains (code'.gives q) x → ⊥) → IsToPass reading b.item (now q path b) x
        → IsGivenAt code' q path x
    to_pass q path b x not (inl hand) =
        elim (to_hand q path b (now q path b) x hand) [
          | inl here ↦ given_earlier q path b x not here
          | inr before ↦ before
        ]
    to_pass q path b x not (inr (has, name, is, passes)) =
        elim (well.passed b.spot name (subst (λ (there : Option Item). Contains (item_passes there) name) (sym b.here) passes)) [
          | inl gives ↦ (
              let found : IsAmong reading (now q path b) name =
              of_contained (IsAmong reading (now q path b)) (item_gives (Some b.item)) name has (subst (λ (there : Option Item). Contains (item_gives there) name) b.here gives) in
              given_earlier q path b x not (subst (λ y. Contains (now q path b) y) (one_to_one found.0 x name found.1 is) found.2))
          | inr before ↦ b.earlier x name is (before b.along b.walk)
        ]

    passed : (q : Place Name) (x : Name) → Contains (code'.passes q) x → Contains (code'.gives q) x ⊎ IsGivenBefore code' x q
    passed q x here = by (is_contained (code'.gives q) x)
      where
        before : (Contains (code'.gives q) x → ⊥) → IsGivenBefore code' x q
        before not path walk =
            let b : Beside q path = beside q path walk in
            let mine : Contains (item_passes (Some b.first)) x =
            subst (λ (there : Option Item). Contains (item_passes there) x) (at_drop (plain.items q.block) q.index b.first (b.left ++ b.rest) b.stands) here in
            to_pass q path b x not (of_contained (IsToPass reading b.item (now q path b)) (item_passes (Some b.first)) x (front q path b).passes mine)

        by : Contains (code'.gives q) x ⊎ (Contains (code'.gives q) x → ⊥) → Contains (code'.gives q) x ⊎ IsGivenBefore code' x q
        by (inl given) = inl given
        by (inr not) = inr (before not)

    pub well_placed : IsWellPlaced code'
    well_placed = record { named = named; passed = passed }

pub laying_keeps_places : LayingKeepsPlaces
laying_keeps_places reading plain program one_to_one laid well = well_placed reading one_to_one plain program laid well
