-- Each item of the plain program stands in a block that is read, and so in the code of one of the script's items, or in a generated one.
use Rattle.std.proofs.Common.{◌≡◌, ◌⊎◌, inl, inr, List, [], ◌∷◌, ◌++◌, refl, sym, subst}
use Rattle.std.specs.List.{AllByRecursion}
use Rattle.clif_meaning.specs.Name.{Name}
use Rattle.clif_meaning.specs.Premises.{EachItem}
use Rattle.clif_meaning.specs.Program.{Program, Item, program_of}
use Rattle.clif_meaning.specs.Request.{Script}
use Rattle.clif_expansion.specs.Expansion.{AreCut, IsCutProgram}
use Rattle.clif_expansion.specs.JoinedCalls.{AreJoinedCalls}
use Rattle.clif_expansion.specs.Reading.{Generated, IsReadAs, NotMade, Reading, ScriptName, StandsFor}
use Rattle.clif_expansion.specs.ScriptCall.{ScriptCall}
use Rattle.clif_expansion.specs.Walk.{IsGenerated}
use Rattle.clif_expansion.proofs.ProgramsOfCalls.{joined_bare, unmade}

-- each block in which something is is read or generated
abbrev pub AreRead : Reading → Program → Type 0
AreRead reading program = (x : Name) → (program.items x ≡ []) ⊎ ((block : Name) × IsReadAs reading x block) ⊎ IsGenerated reading x

pub all_read : (reading : Reading) (plain : Script) (calls : List ScriptCall) → AreJoinedCalls reading plain calls → AreRead reading (program_of plain)
all_read reading plain calls are x = by (reading x) refl
  where
    by : (stands : StandsFor) → reading x ≡ stands → ((program_of plain).items x ≡ []) ⊎ ((block : Name) × IsReadAs reading x block) ⊎ IsGenerated reading x
    by NotMade is = inl (joined_bare reading plain calls are x (unmade reading plain calls are x is)).0
    by Generated is = inr (inr is)
    by (ScriptName name) is = inr (inl (name, is))

-- each of both lists
pub all_append : {X : Type 0} (P : X → Type 0) (xs ys : List X) → AllByRecursion P xs → AllByRecursion P ys → AllByRecursion P (xs ++ ys)
all_append P [] ys first second = second
all_append P (x ∷ xs) ys first second = (first.0, all_append P xs ys first.1 second)

-- EACH ITEM ---------------------------------------------------------------------------------------------------------------

module _ (Stands : List Item → Item → Type 0) (P Q : Item → Type 0) (each : (code : List Item) (item : Item) → Stands code item → P item → AllByRecursion Q code) where
  all_cut : (plain items : List Item) → AreCut Stands plain items → AllByRecursion P items → AllByRecursion Q plain
  all_cut plain [] cut all = subst (AllByRecursion Q) (sym cut) tt
  all_cut plain (item ∷ items) (code, rest, split, is, more) all =
      subst (AllByRecursion Q) (sym split) (all_append Q code rest (each code item is all.0) (all_cut rest items more all.1))

  -- what is true of each item of the script's program is true of each item of the plain one, if it is so for each code and each generated
  -- block
  pub each_item : (reading : Reading) (plain program : Program) → IsCutProgram reading Stands plain program → AreRead reading plain → ((x : Name) → IsGenerated reading x → AllByRecursion Q (plain.items x))
      → EachItem P program → EachItem Q plain
  each_item reading plain program cut are own all x = by (are x)
    where
      by : (plain.items x ≡ []) ⊎ ((block : Name) × IsReadAs reading x block) ⊎ IsGenerated reading x → AllByRecursion Q (plain.items x)
      by (inl none) = subst (AllByRecursion Q) (sym none) tt
      by (inr (inl (block, is))) = all_cut (plain.items x) (program.items block) (cut.items x block is) (all block)
      by (inr (inr is)) = own x is
