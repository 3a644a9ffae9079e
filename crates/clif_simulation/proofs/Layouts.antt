-- A block that is outside a layout was outside before, and a block that is put into a layout is there.
use Rattle.std.proofs.Common.{◌≡◌, ℕ, ◌==◌, Bool, true, false, List, [], ◌∷◌, ◌++◌, refl, sym, ◌∙◌, Option, Some, None, arith}
use Rattle.std.specs.Prelude.{if◌then◌else◌, ◌||◌}
use Rattle.std.proofs.lemmas.List.Folds.{list_any-append}
use Rattle.std.proofs.lemmas.Bool.Decides.{nat_tests}
use Rattle.clif_ir.specs.Body.{Body}
use Rattle.clif_ir.specs.Changes.{inserted_in, with_layout}
use Rattle.clif_instructions.specs.Members.{stands_in}
use Rattle.clif_ir.specs.Reading.{param_home}
use Rattle.clif_records.specs.declared.tables.Pending.{Pending}
use Rattle.clif_ssa.specs.Ssa.{completed, zeroed_in}

both_false : (a b : Bool) → (a || b) ≡ false → a ≡ false
both_false true b none = none
both_false false b none = refl

right_false : (a b : Bool) → (a || b) ≡ false → b ≡ false
right_false true b none = cc
right_false false b none = none

longer : (layout : List ℕ) (b d : ℕ) → stands_in d (layout ++ b ∷ []) ≡ (stands_in d layout || stands_in d (b ∷ []))
longer layout b d = list_any-append (λ y. y == d) layout (b ∷ [])

pub out_before : (f : Body) (b d : ℕ) → stands_in d (inserted_in f b).layout ≡ false → stands_in d f.layout ≡ false
out_before f b d out = by (stands_in b f.layout) out
  where
    by : (there : Bool) → stands_in d (if there then f else with_layout f b).layout ≡ false → stands_in d f.layout ≡ false
    by true out = out
    by false out = both_false (stands_in d f.layout) (stands_in d (b ∷ [])) (sym (longer f.layout b d) ∙ out)

alone : (b : ℕ) → stands_in b (b ∷ []) ≡ false → ⊥
alone b out = let same : (b == b) ≡ true = grind (arith, nat_tests) in let one : (true || false) ≡ false = rw same at out in cc

pub never_out : (f : Body) (b : ℕ) → stands_in b (inserted_in f b).layout ≡ false → ⊥
never_out f b out = by (stands_in b f.layout) refl out
  where
    by : (there : Bool) → stands_in b f.layout ≡ there → stands_in b (if there then f else with_layout f b).layout ≡ false → ⊥
    by true is out = cc
    by false is out = alone b (right_false (stands_in b f.layout) (stands_in b (b ∷ [])) (sym (longer f.layout b b) ∙ out))

out_zeroed : (o : Option ℕ) (f : Body) (v d : ℕ) → stands_in d (zeroed_in o f v).layout ≡ false → stands_in d f.layout ≡ false
out_zeroed None f v d out = out
out_zeroed (Some b) f v d out = out_before f b d out

pub still_out-completed : (f : Body) (pending : List Pending) (d : ℕ) → stands_in d (completed f pending).layout ≡ false → stands_in d f.layout ≡ false
still_out-completed f [] d out = out
still_out-completed f (p ∷ pending) d out =
    out_zeroed (param_home f p.param) f p.param d (still_out-completed (zeroed_in (param_home f p.param) f p.param) pending d out)
