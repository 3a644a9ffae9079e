-- What renamed lists contain; and the program of renamed calls has items and parameters in blocks with renamed names alone.
use Rattle.std.proofs.Common.{◌≡◌, zero, suc, Bool, true, false, List, [], ◌∷◌, ◌++◌, map, refl, sym, ◌∙◌, ap, subst, arith, ◌⊎◌, inl, inr, Option, Some, None}
use Rattle.std.specs.Prelude.{Contains, fold, if◌then◌else◌, option_map}
use Rattle.clif_meaning.specs.Name.{Name, same_name}
use Rattle.clif_meaning.specs.Program.{Program, Item, empty_program, extended, program_of, redirected_item, with_call, with_inserted, with_item, with_item_at, with_parameters, with_redirected}
use Rattle.clif_meaning.specs.Request.{Request, Script}
use Rattle.clif_renaming.specs.Sealing.{renamed_request}
use Rattle.clif_renaming.proofs.RenamedEffects.{BothAssign, BothBuild, BothInsert, BothLeave, BothRedirect, BothSwitch, BothTake, BothUse, RenamedProgramEffect, renamed_program_effect}
use Rattle.clif_renaming.proofs.RenamedNames.{names_equal}

-- RENAMED LISTS ---------------------------------------------------------------------------------------------------------

pub nothing_contained : {X : Type 0} (x : X) → Contains [] x → ⊥
nothing_contained x here = absurd (omega (arith, here.1))

contains_more : {X : Type 0} (x : X) (xs : List X) (y : X) → Contains xs y → Contains (x ∷ xs) y
contains_more x xs y here = (suc here.0, omega (arith, here.1), here.2)

contains_first : {X : Type 0} (x : X) (xs : List X) → Contains (x ∷ xs) x
contains_first x xs = (0, omega arith, refl)

contains_cons : {X : Type 0} (x : X) (xs : List X) (y : X) → Contains (x ∷ xs) y → (x ≡ y) ⊎ Contains xs y
contains_cons x xs y (zero, below, at) = inl at
contains_cons x xs y (suc k, below, at) = inr (k, omega (arith, below), at)

pub contains_renamed : {X : Type 0} (rename : X → X) (xs : List X) (x : X) → Contains xs x → Contains (map rename xs) (rename x)
contains_renamed rename [] x here = absurd (nothing_contained x here)
contains_renamed rename (y ∷ xs) x here =
    let induction : Contains xs x → Contains (map rename xs) (rename x) = contains_renamed rename xs x in
    elim (contains_cons y xs x here) [
      | inl same ↦ subst (λ z. Contains (rename y ∷ map rename xs) (rename z)) same (contains_first (rename y) (map rename xs))
      | inr later ↦ contains_more (rename y) (map rename xs) (rename x) (induction later)
    ]

-- what a renamed list contains is renamed
pub contains_image : {X : Type 0} (rename : X → X) (xs : List X) (y : X) → Contains (map rename xs) y → (x : X) × Contains xs x × (rename x ≡ y)
contains_image rename [] y here = absurd (nothing_contained y here)
contains_image {X} rename (x ∷ xs) y here =
    let induction : Contains (map rename xs) y → (z : X) × Contains xs z × (rename z ≡ y) = contains_image rename xs y in
    elim (contains_cons (rename x) (map rename xs) y here) [
      | inl same ↦ (x, contains_first x xs, same)
      | inr later ↦ let there : (z : X) × Contains xs z × (rename z ≡ y) = induction later in (there.0, contains_more x xs there.0 there.1, there.2)
    ]

pub contains_named : {X : Type 0} (rename : X → X) → ((a b : X) → rename a ≡ rename b → a ≡ b) → (xs : List X) (x : X) → Contains (map rename xs) (rename x) → Contains xs x
contains_named rename apart xs x here =
    let found = contains_image rename xs (rename x) here in subst (λ z. Contains xs z) (apart found.0 x found.2) found.1

-- BLOCKS ----------------------------------------------------------------------------------------------------------------

-- the name is a renamed one
abbrev pub IsImage : (Name → Name) → Name → Type 0
IsImage rename name = (other : Name) × (rename other ≡ name)

-- the block has no items and no parameters
abbrev pub IsBare : Program → Name → Type 0
IsBare program block = (program.items block ≡ []) × (program.parameters block ≡ [])

-- each block has a renamed name or is bare
abbrev pub IsBareElsewhere : (Name → Name) → Program → Type 0
IsBareElsewhere rename program = (block : Name) → IsBare program block ⊎ IsImage rename block

-- so it is so far, and the current block, if there is one, has a renamed name
pub record HasImages (rename : Name → Name) (program : Program) : Type 0 where
  pub current : (block : Option Name) × (option_map rename block ≡ program.current)
  pub blocks : IsBareElsewhere rename program

module _ (rename : Name → Name) where
  item_image : (p : Program) (current : Option Name) (item : Item) → HasImages rename p → HasImages rename (with_item_at p (option_map rename current) item)
  item_image p None item has = has
  item_image p (Some block) item has = record { current = has.current; blocks = λ other. by other (same_name other (rename block)) refl (has.blocks other) }
    where
      by : (other : Name) (c : Bool) → same_name other (rename block) ≡ c → IsBare p other ⊎ IsImage rename other
          → IsBare (with_item_at p (Some (rename block)) item) other ⊎ IsImage rename other
      by other true is before = inr (block, sym (names_equal other (rename block) is))
      by other false is (inl bare) = inl (ap (λ (test : Bool). if test then p.items other ++ item ∷ [] else p.items other) is ∙ bare.0, bare.1)
      by other false is (inr image) = inr image

  pub item_images : (p : Program) (item : Item) → HasImages rename p → HasImages rename (with_item p item)
  item_images p item has =
      subst (λ (current : Option Name). HasImages rename (with_item_at p current item)) has.current.1 (item_image p has.current.0 item has)

  parameter_images : (p : Program) (block : Name) (names : List Name) → HasImages rename p → HasImages rename (with_parameters p (rename block) names)
  parameter_images p block names has = record { current = has.current; blocks = λ other. by other (same_name other (rename block)) refl (has.blocks other) }
    where
      by : (other : Name) (c : Bool) → same_name other (rename block) ≡ c → IsBare p other ⊎ IsImage rename other
          → IsBare (with_parameters p (rename block) names) other ⊎ IsImage rename other
      by other true is before = inr (block, sym (names_equal other (rename block) is))
      by other false is (inl bare) = inl (bare.0, ap (λ (test : Bool). if test then p.parameters other ++ names else p.parameters other) is ∙ bare.1)
      by other false is (inr image) = inr image

  redirected_images : (p : Program) (branch from to : Name) → HasImages rename p → HasImages rename (with_redirected p branch from to)
  redirected_images p branch from to has = record { current = has.current; blocks = λ other. by other (has.blocks other) }
    where
      by : (other : Name) → IsBare p other ⊎ IsImage rename other → IsBare (with_redirected p branch from to) other ⊎ IsImage rename other
      by other (inl bare) = inl (ap (map (redirected_item branch from to)) bare.0, bare.1)
      by other (inr image) = inr image

  pub inserted_images : (p : Program) → HasImages rename p → HasImages rename (with_inserted p)
  inserted_images p has = record { current = has.current; blocks = has.blocks }

  extended_images : (p : Program) (request : Request) → HasImages rename p → HasImages rename (extended p (renamed_request rename request))
  extended_images p request has = by (renamed_program_effect rename request)
    where
      of_program : (q : Program) → extended p (renamed_request rename request) ≡ q → HasImages rename q → HasImages rename (extended p (renamed_request rename request))
      of_program q there images = subst (λ (other : Program). HasImages rename other) (sym there) images

      of_request : (other : Request) → request ≡ other → HasImages rename (extended p (renamed_request rename other)) → HasImages rename (extended p (renamed_request rename request))
      of_request other same images = subst (λ (r : Request). HasImages rename (extended p (renamed_request rename r))) (sym same) images

      by : RenamedProgramEffect rename request → HasImages rename (extended p (renamed_request rename request))
      by (BothLeave here there) = of_program _ (there p) has
      by (BothInsert here there) = of_program _ (there p) (inserted_images p has)
      by (BothTake block types here there) = of_program _ (there p) (parameter_images p block _ has)
      by (BothSwitch block same) = of_request _ same (record { current = (Some block, refl); blocks = has.blocks })
      by (BothAssign variable value same) = of_request _ same (item_images p _ has)
      by (BothUse variable same) = of_request _ same (item_images (with_inserted p) _ (inserted_images p has))
      by (BothBuild entries instruction same) = of_request _ same (item_images (with_inserted p) _ (inserted_images p has))
      by (BothRedirect branch from to here there) = of_program _ (there p) (redirected_images p (rename branch) (rename from) (rename to) has)

  -- one more call
  pub images_after : (p : Program) (request : Request) → HasImages rename p → HasImages rename (with_call p (renamed_request rename request))
  images_after p request has =
      let one : HasImages rename (extended p (renamed_request rename request)) = extended_images p request has in record { current = one.current; blocks = one.blocks }

  images_along : (script : Script) (p : Program) → HasImages rename p → HasImages rename (fold with_call p (map (renamed_request rename) script))
  images_along [] p has = has
  images_along (request ∷ script) p has =
      images_along script (with_call p (renamed_request rename request)) (images_after p request has)

  pub bare_elsewhere : (script : Script) → IsBareElsewhere rename (program_of (map (renamed_request rename) script))
  bare_elsewhere script =
      (images_along script empty_program (record { current = (None, refl); blocks = λ block. inl (refl, refl) })).blocks
