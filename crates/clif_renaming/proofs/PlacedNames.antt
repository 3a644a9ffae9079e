-- What the names of a program are given before, the renamed names of the renamed program are.
use Rattle.std.proofs.Common.{◌≡◌, ◌<◌, ◌↔◌, ℕ, zero, suc, List, [], ◌∷◌, ◌++◌, length, map, refl, sym, ◌∙◌, ap, ap₂, subst, arith, ◌⊎◌, inl, inr, Option, Some, None}
use Rattle.std.specs.Prelude.{Contains, flat_map, option_map, slice_get}
use Rattle.std.proofs.lemmas.List.{map-append}
use Rattle.clif_meaning.specs.Instruction.{Argument, Known, CallResult, CallPayload, Edge, Instruction, named_operands}
use Rattle.clif_meaning.specs.Name.{Name}
use Rattle.clif_meaning.specs.Path.{Flow, IsFirstPlace, IsPath, Leads, Place}
use Rattle.clif_meaning.specs.Program.{Program, Item, Instruct, Use, Assign}
use Rattle.clif_meaning.specs.WellPlaced.{Code, IsGivenAlong, IsGivenBefore, IsWellPlaced, edge_targets, given_on_entry, item_at, item_gives, item_names, item_passes, item_targets, known_argument, passed_operands, program_code, program_flow}
use Rattle.clif_renaming.specs.Renaming.{AreRenamedItems, IsRenamedItem, IsRenamedProgram, KeepsApart, renamed_argument, renamed_edge}
use Rattle.clif_renaming.proofs.Images.{IsBareElsewhere, contains_image, contains_named, contains_renamed, nothing_contained}

-- a renamed entry is this one
pub entry_named : (rename : Name → Name) → KeepsApart rename → (entry : Option Name) (block : Name) → option_map rename entry ≡ Some (rename block) → entry ≡ Some block
entry_named rename apart None block same = let none : ⊥ = cc in absurd none
entry_named rename apart (Some entry) block same = ap (λ (name : Name). Some name) (apart entry block (inner (rename entry) (rename block) same))
  where
    inner : (a b : Name) → Some a ≡ Some b → a ≡ b
    inner a b is = cc

-- ITEMS -----------------------------------------------------------------------------------------------------------------

module _ (rename : Name → Name) where
  targets_renamed : (edges : List (Edge Name Name)) → map (λ (edge : Edge Name Name). edge.target) (map (renamed_edge rename) edges) ≡ map rename (map (λ (edge : Edge Name Name). edge.target) edges)
  targets_renamed [] = refl
  targets_renamed (edge ∷ edges) = ap (λ (names : List Name). rename edge.target ∷ names) (targets_renamed edges)

  known_renamed : (arguments : List (Argument Name)) → flat_map known_argument (map (renamed_argument rename) arguments) ≡ map rename (flat_map known_argument arguments)
  known_renamed [] = refl
  known_renamed (Known name ∷ arguments) = ap (λ (names : List Name). rename name ∷ names) (known_renamed arguments)
  known_renamed (CallResult index ∷ arguments) = known_renamed arguments
  known_renamed (CallPayload index ∷ arguments) = known_renamed arguments

  abbrev passed_by : Edge Name Name → List Name
  passed_by edge = flat_map known_argument edge.arguments

  passed_renamed : (edges : List (Edge Name Name)) → flat_map passed_by (map (renamed_edge rename) edges) ≡ map rename (flat_map passed_by edges)
  passed_renamed [] = refl
  passed_renamed (edge ∷ edges) =
      ap₂ (λ (xs ys : List Name). xs ++ ys) (known_renamed edge.arguments) (passed_renamed edges)
      ∙ sym (map-append rename (passed_by edge) (flat_map passed_by edges))

  abbrev IsRenamedOf : (Option Item → List Name) → Type 0
  IsRenamedOf names = (item item' : Item) → IsRenamedItem rename item item' → names (Some item') ≡ map rename (names (Some item))

  targets_of : IsRenamedOf item_targets
  targets_of (Instruct place instruction results) (Instruct other changed names) is = ap edge_targets is.0 ∙ targets_renamed instruction.edges
  targets_of (Use variable name) (Use other name') is = refl
  targets_of (Assign variable name) (Assign other name') is = refl
  targets_of _ _ is = absurd is

  gives_of : IsRenamedOf item_gives
  gives_of (Instruct place instruction results) (Instruct other changed names) is = is.1
  gives_of (Use variable name) (Use other name') is = ap (λ (n : Name). n ∷ []) is.1
  gives_of (Assign variable name) (Assign other name') is = refl
  gives_of _ _ is = absurd is

  names_of : IsRenamedOf item_names
  names_of (Instruct place instruction results) (Instruct other changed names) is =
      ap (λ (n : Instruction Name Name). named_operands n) is.0 ∙ sym (map-append rename instruction.operands instruction.contexts)
  names_of (Use variable name) (Use other name') is = refl
  names_of (Assign variable name) (Assign other name') is = ap (λ (n : Name). n ∷ []) is.1
  names_of _ _ is = absurd is

  passes_of : IsRenamedOf item_passes
  passes_of (Instruct place instruction results) (Instruct other changed names) is = ap passed_operands is.0 ∙ passed_renamed instruction.edges
  passes_of (Use variable name) (Use other name') is = refl
  passes_of (Assign variable name) (Assign other name') is = refl
  passes_of _ _ is = absurd is

  length_of : (items items' : List Item) → AreRenamedItems rename items items' → length items' ≡ length items
  length_of [] [] are = refl
  length_of [] (item' ∷ items') are = absurd are
  length_of (item ∷ items) [] are = absurd are
  length_of (item ∷ items) (item' ∷ items') are = ap suc (length_of items items' are.1)

  each_of : (names : Option Item → List Name) → names None ≡ [] → IsRenamedOf names → (items items' : List Item) (k : ℕ) → AreRenamedItems rename items items'
      → names (slice_get items' k) ≡ map rename (names (slice_get items k))
  each_of names none of [] [] k are = none ∙ ap (map rename) (sym none)
  each_of names none of [] (item' ∷ items') k are = absurd are
  each_of names none of (item ∷ items) [] k are = absurd are
  each_of names none of (item ∷ items) (item' ∷ items') zero are = of item item' are.0
  each_of names none of (item ∷ items) (item' ∷ items') (suc k) are = each_of names none of items items' k are.1

-- PATHS -----------------------------------------------------------------------------------------------------------------

module _ (rename : Name → Name) (apart : KeepsApart rename) (program program' : Program) (renamed : IsRenamedProgram rename program program') (elsewhere : IsBareElsewhere rename program') where
  abbrev flow : Flow Name
  flow = program_flow program

  abbrev flow' : Flow Name
  flow' = program_flow program'

  abbrev code : Code Name Name
  code = program_code program

  abbrev code' : Code Name Name
  code' = program_code program'

  abbrev moved : Place Name → Place Name
  moved p = record { block = rename p.block; index = p.index }

  size_moved : (block : Name) → flow'.size (rename block) ≡ flow.size block
  size_moved block = length_of rename (program.items block) (program'.items (rename block)) (renamed.items block)

  moved_names : (names : Option Item → List Name) → names None ≡ [] → IsRenamedOf rename names → (p : Place Name)
      → names (item_at program' (moved p)) ≡ map rename (names (item_at program p))
  moved_names names none of p = each_of rename names none of (program.items p.block) (program'.items (rename p.block)) p.index (renamed.items p.block)

  first_forth : (p : Place Name) → IsFirstPlace flow p → IsFirstPlace flow' (moved p)
  first_forth p first = (first.0, subst (λ (n : ℕ). 0 < n) (sym (size_moved p.block)) first.1)

  first_back : (p : Place Name) → IsFirstPlace flow' (moved p) → IsFirstPlace flow p
  first_back p first = (first.0, subst (λ (n : ℕ). 0 < n) (size_moved p.block) first.1)

  leads_forth : (p q : Place Name) → Leads flow p q → Leads flow' (moved p) (moved q)
  leads_forth p q (inl next) = inl (ap rename next.0, next.1, subst (λ (n : ℕ). q.index < n) (sym (size_moved q.block)) next.2)
  leads_forth p q (inr enters) =
      inr (
        subst (λ (names : List Name). Contains names (rename q.block)) (sym (moved_names item_targets refl (targets_of rename) p)) (contains_renamed rename (flow.targets p) q.block enters.0),
        first_forth q enters.1,
      )

  leads_back : (p q : Place Name) → Leads flow' (moved p) (moved q) → Leads flow p q
  leads_back p q (inl next) = inl (apart q.block p.block next.0, next.1, subst (λ (n : ℕ). q.index < n) (size_moved q.block) next.2)
  leads_back p q (inr enters) =
      inr (
        contains_named rename apart (flow.targets p) q.block (subst (λ (names : List Name). Contains names (rename q.block)) (moved_names item_targets refl (targets_of rename) p) enters.0),
        first_back q enters.1,
      )

  path_forth : (q : Place Name) (path : List (Place Name)) → IsPath flow (q ∷ path) → IsPath flow' (moved q ∷ map moved path)
  path_forth q [] start = (renamed.entry ∙ ap (λ (entry : Option Name). option_map rename entry) start.0, first_forth q start.1)
  path_forth q (p ∷ path) walk = (leads_forth p q walk.0, path_forth p path walk.1)

  path_back : (q : Place Name) (path : List (Place Name)) → IsPath flow' (moved q ∷ map moved path) → IsPath flow (q ∷ path)
  path_back q [] start = (entry_named rename apart program.entry q.block (sym renamed.entry ∙ start.0), first_back q start.1)
  path_back q (p ∷ path) walk = (leads_back p q walk.0, path_back p path walk.1)

  -- a place of a path is one of its block's items, and so it is a moved one
  inside : (q : Place Name) (path : List (Place Name)) → IsPath flow' (q ∷ path) → q.index < flow'.size q.block
  inside q [] start = subst (λ (n : ℕ). n < flow'.size q.block) (sym start.1.0) start.1.1
  inside q (p ∷ path) walk = by walk.0
    where
      by : Leads flow' p q → q.index < flow'.size q.block
      by (inl next) = next.2
      by (inr enters) = subst (λ (n : ℕ). n < flow'.size q.block) (sym enters.1.0) enters.1.1

  place_image : (q' : Place Name) → q'.index < flow'.size q'.block → (q : Place Name) × (moved q ≡ q')
  place_image q' below =
      elim (elsewhere q'.block) [
        | inl bare ↦ absurd (let none : q'.index < length {A = Item} [] = subst (λ (items : List Item). q'.index < length items) bare.0 below in omega (arith, none))
        | inr found ↦ (record { block = found.0; index = q'.index }, λ i. record { block = found.1 i; index = q'.index })
      ]

  path_image : (q' : Place Name) (path' : List (Place Name)) → IsPath flow' (q' ∷ path') → (q : Place Name) × (path : List (Place Name)) × (moved q ≡ q') × (map moved path ≡ path')
  path_image q' [] start = let here = place_image q' (inside q' [] start) in (here.0, [], here.1, refl)
  path_image q' (p' ∷ path') walk =
      let rest = path_image p' path' walk.1 in
      let here = place_image q' (inside q' (p' ∷ path') walk) in
      (here.0, rest.0 ∷ rest.1, here.1, λ i. rest.2 i ∷ rest.3 i)

  -- WHAT IS GIVEN ---------------------------------------------------------------------------------------------------------

  entry_moved : (block : Name) (index : ℕ) → given_on_entry code' (rename block) index ≡ map rename (given_on_entry code block index)
  entry_moved block zero = renamed.parameters block
  entry_moved block (suc index) = refl

  gives_moved : (p : Place Name) → code'.gives (moved p) ≡ map rename (code.gives p)
  gives_moved p = moved_names item_gives refl (gives_of rename) p

  among_forth : (names' names : List Name) (x : Name) → names' ≡ map rename names → Contains names x → Contains names' (rename x)
  among_forth names' names x same here = subst (λ (list : List Name). Contains list (rename x)) (sym same) (contains_renamed rename names x here)

  among_back : (names' names : List Name) (x : Name) → names' ≡ map rename names → Contains names' (rename x) → Contains names x
  among_back names' names x same here = contains_named rename apart names x (subst (λ (list : List Name). Contains list (rename x)) same here)

  along_forth : (x : Name) (path : List (Place Name)) → IsGivenAlong code x path → IsGivenAlong code' (rename x) (map moved path)
  along_forth x [] given = given
  along_forth x (p ∷ path) given =
      let later : IsGivenAlong code x path → IsGivenAlong code' (rename x) (map moved path) = along_forth x path in
      elim given [
        | inl here ↦ inl (among_forth (code'.gives (moved p)) (code.gives p) x (gives_moved p) here)
        | inr (inl entered) ↦ inr (inl (among_forth (given_on_entry code' (rename p.block) p.index) (given_on_entry code p.block p.index) x (entry_moved p.block p.index) entered))
        | inr (inr before) ↦ inr (inr (later before))
      ]

  along_back : (x : Name) (path : List (Place Name)) → IsGivenAlong code' (rename x) (map moved path) → IsGivenAlong code x path
  along_back x [] given = given
  along_back x (p ∷ path) given =
      let later : IsGivenAlong code' (rename x) (map moved path) → IsGivenAlong code x path = along_back x path in
      elim given [
        | inl here ↦ inl (among_back (code'.gives (moved p)) (code.gives p) x (gives_moved p) here)
        | inr (inl entered) ↦ inr (inl (among_back (given_on_entry code' (rename p.block) p.index) (given_on_entry code p.block p.index) x (entry_moved p.block p.index) entered))
        | inr (inr before) ↦ inr (inr (later before))
      ]

  before_forth : (q : Place Name) (x : Name) → IsGivenBefore code x q → IsGivenBefore code' (rename x) (moved q)
  before_forth q x given path' walk =
      let image = path_image (moved q) path' walk in
      let walk' : IsPath flow (q ∷ image.1) = path_back q image.1 (subst (λ (path : List (Place Name)). IsPath flow' (moved q ∷ path)) (sym image.3) walk) in
      subst (λ (path : List (Place Name)). Contains (given_on_entry code' (rename q.block) q.index) (rename x) ⊎ IsGivenAlong code' (rename x) path) image.3
      (elim (given image.1 walk') [
        | inl entered ↦ inl (among_forth (given_on_entry code' (rename q.block) q.index) (given_on_entry code q.block q.index) x (entry_moved q.block q.index) entered)
        | inr before ↦ inr (along_forth x image.1 before)
      ])

  before_back : (q : Place Name) (x : Name) → IsGivenBefore code' (rename x) (moved q) → IsGivenBefore code x q
  before_back q x given path walk =
      elim (given (map moved path) (path_forth q path walk)) [
        | inl entered ↦ inl (among_back (given_on_entry code' (rename q.block) q.index) (given_on_entry code q.block q.index) x (entry_moved q.block q.index) entered)
        | inr before ↦ inr (along_back x path before)
      ]

  -- what is named at a place is renamed, and so is the place
  at_image : (names : Option Item → List Name) → names None ≡ [] → IsRenamedOf rename names → (P : Place Name → Name → Type 0)
      → ((q : Place Name) (x : Name) → Contains (names (item_at program q)) x → P (moved q) (rename x))
      → (q' : Place Name) (x' : Name) → Contains (names (item_at program' q')) x' → P q' x'
  at_image names none of P each q' x' here = by (elsewhere q'.block)
    where
      by : (((program'.items q'.block ≡ []) × (program'.parameters q'.block ≡ [])) ⊎ ((other : Name) × (rename other ≡ q'.block))) → P q' x'
      by (inl bare) =
          absurd (nothing_contained x' (subst (λ (list : List Name). Contains list x')
          (ap (λ (items : List Item). names (slice_get items q'.index)) bare.0 ∙ none) here))
      by (inr found) =
          let q : Place Name = record { block = found.0; index = q'.index } in
          let same : moved q ≡ q' = λ i. record { block = found.1 i; index = q'.index } in
          let there : Contains (map rename (names (item_at program q))) x' =
          subst (λ (list : List Name). Contains list x')
          (ap (λ (p : Place Name). names (item_at program' p)) (sym same) ∙ moved_names names none of q) here in
          let image = contains_image rename (names (item_at program q)) x' there in
          subst (λ (p : Place Name). P p x') same (subst (λ (x : Name). P (moved q) x) image.2 (each q image.0 image.1))

  well_forth : IsWellPlaced code → IsWellPlaced code'
  well_forth well = record {
    named = at_image item_names refl (names_of rename) (λ q' x'. IsGivenBefore code' x' q') (λ q x here. before_forth q x (well.named q x here));
    passed = at_image item_passes refl (passes_of rename) (λ q' x'. Contains (code'.gives q') x' ⊎ IsGivenBefore code' x' q') (λ q x here. either q x (well.passed q x here));
  }
    where
      either : (q : Place Name) (x : Name) → Contains (code.gives q) x ⊎ IsGivenBefore code x q → Contains (code'.gives (moved q)) (rename x) ⊎ IsGivenBefore code' (rename x) (moved q)
      either q x (inl given) = inl (among_forth (code'.gives (moved q)) (code.gives q) x (gives_moved q) given)
      either q x (inr before) = inr (before_forth q x before)

  well_back : IsWellPlaced code' → IsWellPlaced code
  well_back well = record {
    named = λ q x here. before_back q x (well.named (moved q) (rename x) (among_forth (code'.names (moved q)) (code.names q) x (moved_names item_names refl (names_of rename) q) here));
    passed = λ q x here. either q x (well.passed (moved q) (rename x) (among_forth (code'.passes (moved q)) (code.passes q) x (moved_names item_passes refl (passes_of rename) q) here));
  }
    where
      either : (q : Place Name) (x : Name) → Contains (code'.gives (moved q)) (rename x) ⊎ IsGivenBefore code' (rename x) (moved q) → Contains (code.gives q) x ⊎ IsGivenBefore code x q
      either q x (inl given) = inl (among_back (code'.gives (moved q)) (code.gives q) x (gives_moved q) given)
      either q x (inr before) = inr (before_back q x before)

  pub placed_alike : IsWellPlaced code ↔ IsWellPlaced code'
  placed_alike = (well_forth, well_back)
