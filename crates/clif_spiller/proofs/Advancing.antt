-- What values of a function stand for as it is rewritten.
use Rattle.std.proofs.Common.{◌≡◌, ◌∙◌, ◌<◌, ◌≤◌, ℕ, suc, List, ◌++◌, length, map, [], ◌∷◌, refl, sym, ap, ap₂, arith, length-append}
use Rattle.std.specs.Prelude.{Contains}
use Rattle.std.proofs.lemmas.Grind.{common_steps}
use Rattle.std.proofs.lemmas.List.Sums.{count_by-le-length}
use Rattle.clif_nodes.specs.declared.nodes.ValueNode.{ValueNode}
use Rattle.clif_ir.specs.Body.{Body, follow, resolved}
use Rattle.clif_ir.specs.Consistent.{IsConsistent, alias_count}
use Rattle.clif_ir.proofs.Aliases.{follow-append, follow-ended, follow-inside}
use Rattle.clif_ir.proofs.Keeps.{leads_inside}
use Rattle.clif_spiller.specs.Acting.{IsOnTheWay}
use Rattle.clif_spiller.specs.Keeping.{Keeps}
use Rattle.clif_spiller.specs.declared.plan.Plan.{Plan}
use Rattle.clif_spiller.proofs.Keeping.{keeps_fewer, keeps_trans}

pub on_the_way : (first : Body) (plan : Plan) (f g : Body) {n : ℕ} → IsOnTheWay first plan f → Keeps n f g → IsOnTheWay first plan g
on_the_way first plan f g {n} way keeps =
    record { known = way.known; planned = way.planned; keeps = keeps_trans 0 first f g way.keeps (keeps_fewer 0 n f g (omega arith) keeps) }

steps_enough : (values : List ValueNode) → alias_count values ≤ length values
steps_enough values = grind (arith, common_steps, count_by-le-length)

-- values that are there stand for what they stood for
pub names_stay : (n : ℕ) (f g : Body) → Keeps n f g → IsConsistent f → (v : ℕ) → v < length f.values → resolved g v ≡ resolved f v
names_stay n f g keeps known v inside =
    let more : List ValueNode = keeps.values in
    let enough : alias_count f.values ≤ length f.values = steps_enough f.values in
    let longer : alias_count f.values ≤ length (f.values ++ more) = omega (arith, enough, length-append f.values more) in
    ap (λ (values : List ValueNode). follow (length values) values v) keeps.values_are
    ∙ follow-append f.values more (length (f.values ++ more)) v (leads_inside f known) inside
    ∙ follow-ended f.values (alias_count f.values) (length (f.values ++ more)) v (known.aliases_end v inside) longer
    ∙ sym (follow-ended f.values (alias_count f.values) (length f.values) v (known.aliases_end v inside) enough)

pub name_inside : (f : Body) → IsConsistent f → (v : ℕ) → v < length f.values → resolved f v < length f.values
name_inside f known v inside = follow-inside f.values (length f.values) v (leads_inside f known) inside

pub map_alike : {X Y : Type 0} (p q : X → Y) (xs : List X) → ((x : X) → Contains xs x → p x ≡ q x) → map p xs ≡ map q xs
map_alike p q [] same = refl
map_alike p q (x ∷ xs) same =
    ap₂ (λ y ys. y ∷ ys) (same x (0, omega arith, refl)) (map_alike p q xs (λ y here. same y (suc here.0, (let inside = here.1 in omega (arith, inside)), here.2)))
