-- In a block that doesn't exist yet no parameter waits.
use Rattle.std.proofs.Common.{◌≡◌, ℕ, List, [], ◌∷◌, ◌++◌, length, map, refl, sym, ◌∙◌, ap}
use Rattle.std.specs.Prelude.{slice_index_or}
use Rattle.clif_ir.specs.Body.{Body}
use Rattle.clif_nodes.specs.Nodes.{BlockNode, empty_block}
use Rattle.clif_records.specs.Tables.{No, Sealed, Yes, pending_of}
use Rattle.clif_records.specs.declared.tables.Pending.{Pending}
use Rattle.clif_ssa.specs.Ssa.{sealed_of}
use Rattle.clif_ssa.specs.Structured.{waiting_in, waiting_of}
use Rattle.clif_builder.specs.Context.{ContextState}
use Rattle.clif_builder.specs.Order.{IsInOrder}
use Rattle.clif_builder.proofs.Placed.{listed_structured}

behind : {X : Type 0} (xs : List X) (d : X) → slice_index_or xs (length xs) d ≡ d
behind [] d = refl
behind (x ∷ xs) d = behind xs d

nothing_left : {X : Type 0} (f : X → ℕ) (front middle : List ℕ) (xs : List X) → [] ≡ front ++ (middle ++ map f xs) → xs ≡ []
nothing_left f [] [] [] is = refl
nothing_left f [] [] (x ∷ xs) is = let no_way : ⊥ = cc in absurd no_way
nothing_left f [] (m ∷ middle) xs is = let no_way : ⊥ = cc in absurd no_way
nothing_left f (a ∷ front) middle xs is = let no_way : ⊥ = cc in absurd no_way

none_of : (f : Body) (block : ℕ) (sealed : Sealed) → waiting_of f sealed [] block ≡ [] → pending_of sealed ≡ []
none_of f block (No pending) none = none
none_of f block Yes none = refl

-- its parameters are none
pub new_waits : (f : Body) (c : ContextState) → IsInOrder f c → pending_of (sealed_of c.ssa (length f.blocks)) ≡ []
new_waits f c order =
    let block : ℕ = length f.blocks in
    let has = (listed_structured f c order).parameters block in
    none_of f block (sealed_of c.ssa block)
    (nothing_left (λ (p : Pending). p.param) (order.own.params block) has.complete (waiting_in f c.ssa [] block)
    (sym (ap (λ (node : BlockNode). node.params) (behind f.blocks empty_block)) ∙ has.in_order))
