-- The wrong rows of the worked examples.
use Rattle.std.proofs.Common.{◌≡◌, ℕ, List, [], ◌∷◌, refl, ap, subst, arith}
use Rattle.std.specs.Prelude.{slice_get, Option, Some}
use Rattle.clif_meaning.specs.BranchExamples.{block}
use Rattle.clif_meaning.specs.Name.{Name}
use Rattle.clif_meaning.specs.Program.{program_of}
use Rattle.clif_meaning.specs.Request.{Request, Build, Script}
use Rattle.clif_renaming.specs.Examples.{sealed_early, sealed_late}
use Rattle.clif_renaming.specs.Renaming.{AreRenamedItems, IsRenamedProgram, KeepsApart}
use Rattle.clif_renaming.specs.Sealing.{DifferInSealing}

-- the place of an instruction's first operand
abbrev first_place : List Name → ℕ
first_place [] = 0
first_place (name ∷ names) = name.place

abbrev place_in : Option Request → ℕ
place_in (Some (Build entries instruction)) = first_place instruction.operands
place_in _ = 0

pub other_answer : DifferInSealing sealed_early (sealed_late 0 5) → ⊥
other_answer same =
    let places : 4 ≡ 5 = ap (λ (script : Script). place_in (slice_get script 6)) same in
    absurd (omega (arith, places))

pub no_renaming : (rename : Name → Name) → IsRenamedProgram rename (program_of sealed_early) (program_of (sealed_late 1 4)) → ⊥
no_renaming rename is =
    let stays : rename (block 0) ≡ block 0 = cc in
    let items : AreRenamedItems rename ((program_of sealed_early).items (block 0)) ((program_of (sealed_late 1 4)).items (block 0)) =
    subst (λ (b : Name). AreRenamedItems rename ((program_of sealed_early).items (block 0)) ((program_of (sealed_late 1 4)).items b)) stays (is.items (block 0)) in
    absurd (omega (arith, items.0.0))

pub not_apart : KeepsApart (λ name. block 0) → ⊥
not_apart apart =
    let places : 0 ≡ 1 = ap (λ (n : Name). n.place) (apart (block 0) (block 1) refl) in
    absurd (omega (arith, places))
