-- The caller's parameters of a block: where nothing is made in it, the construction puts none of a variable behind them.
use Rattle.std.proofs.Common.{◌≡◌, ◌≤◌, ◌<◌, ℕ, suc, Bool, true, false, List, [], ◌∷◌, ◌++◌, length, map, refl, sym, ◌∙◌, ap, subst, arith, length-append}
use Rattle.std.specs.Prelude.{Some, if◌then◌else◌}
use Rattle.std.specs.List.{filter}
use Rattle.std.proofs.lemmas.List.{append-nil}
use Rattle.clif_nodes.specs.Nodes.{BlockNode}
use Rattle.clif_ir.specs.Body.{Body, block_at}
use Rattle.clif_ir.specs.Consistent.{IsConsistent}
use Rattle.clif_instructions.specs.Members.{Stands}
use Rattle.clif_ir.specs.Reading.{param_home}
use Rattle.clif_records.specs.declared.tables.Pending.{Pending}
use Rattle.clif_ssa.specs.Constructs.{ConstructsBlock, OnlyConstructs, Rises}
use Rattle.clif_ssa.specs.Own.{Own}
use Rattle.clif_ssa.specs.Ssa.{SsaState, sealed_of}
use Rattle.clif_ssa.specs.Structured.{Structured, VariableTypes, waiting_in}
use Rattle.clif_records.specs.Tables.{pending_of}
use Rattle.clif_ssa.proofs.Bodies.{param_exists}
use Rattle.clif_ssa.proofs.Housing.{housed_from}
use Rattle.clif_simulation.proofs.Whole.{waiting_pending}

-- LISTS -----------------------------------------------------------------------------------------------------------------

-- what a test leaves is no longer
filter-shorter : (keep : ℕ → Bool) (xs : List ℕ) → length (filter keep xs) ≤ length xs
filter-shorter keep [] = omega arith
filter-shorter keep (x ∷ xs) = by (keep x) (filter-shorter keep xs)
  where
    by : (test : Bool) → length (filter keep xs) ≤ length xs → length (if test then x ∷ filter keep xs else filter keep xs) ≤ suc (length xs)
    by true rest = omega (arith, rest)
    by false rest = omega (arith, rest)

-- a list with more behind it is no longer than itself only where nothing is behind
none-behind : (xs more : List ℕ) → length (xs ++ more) ≤ length xs → more ≡ []
none-behind xs [] short = refl
none-behind xs (y ∷ more) short = let long = length-append xs (y ∷ more) in absurd (omega (arith, short, long))

stands-behind : (xs ys : List ℕ) (x : ℕ) → Stands x (xs ++ x ∷ ys)
stands-behind [] ys x = (0, omega arith, refl)
stands-behind (y ∷ xs) ys x = let later = stands-behind xs ys x in (suc later.0, omega (arith, later.1), later.2)

-- A BLOCK THAT GETS NO PARAMETER ----------------------------------------------------------------------------------------

-- Where no other value becomes a parameter of the block, and it goes on having the caller's parameters first, it has them
-- alone if it had.
pub alone_stays : (own : Own) (types : VariableTypes) (f g : Body) (t : SsaState) (b : ℕ) → OnlyConstructs f g → IsConsistent g → Structured types own g t []
    → ((v : ℕ) → param_home g v ≡ Some b → param_home f v ≡ Some b) → (block_at f b).params ≡ own.params b → (block_at g b).params ≡ own.params b
alone_stays own types f g t b constructs consistent structured no_other alone =
    now ∙ ap (λ (more : List ℕ). own.params b ++ more) (none-behind (own.params b) behind short) ∙ append-nil (own.params b)
  where
    block : ConstructsBlock f g (block_at f b) (block_at g b)
    block = constructs.blocks b

    params : (block_at g b).params ≡ filter block.stays (block_at f b).params ++ block.added
    params = ap (λ (node : BlockNode). node.params) block.node

    none_added : (added : List ℕ) → (block_at g b).params ≡ filter block.stays (block_at f b).params ++ added → Rises (length f.values) (length g.values) added → added ≡ []
    none_added [] is rises = refl
    none_added (v ∷ added) is rises =
        let stands : Stands v (block_at g b).params = subst (Stands v) (sym is) (stands-behind (filter block.stays (block_at f b).params) added v) in
        let old : v < length f.values = param_exists f v b (no_other v ((housed_from g consistent).known v b stands)) in
        absurd (omega (arith, old, rises.0))

    left : (block_at g b).params ≡ filter block.stays (own.params b)
    left =
        params ∙ ap (λ (more : List ℕ). filter block.stays (block_at f b).params ++ more) (none_added block.added params block.added_new)
        ∙ append-nil (filter block.stays (block_at f b).params) ∙ ap (filter block.stays) alone

    behind : List ℕ
    behind = (structured.parameters b).complete ++ map (λ (p : Pending). p.param) (waiting_in g t [] b)

    now : (block_at g b).params ≡ own.params b ++ behind
    now = (structured.parameters b).in_order

    short : length (own.params b ++ behind) ≤ length (own.params b)
    short =
        let same : length (filter block.stays (own.params b)) ≡ length (own.params b ++ behind) = ap length (sym left ∙ now) in
        omega (arith, same, filter-shorter block.stays (own.params b))

-- a block with the caller's parameters alone has none that waits
pub none_waits_alone : (own : Own) (types : VariableTypes) (f : Body) (s : SsaState) (b : ℕ) → Structured types own f s [] → (block_at f b).params ≡ own.params b
    → pending_of (sealed_of s b) ≡ []
none_waits_alone own types f s b structured alone =
    no_element (pending_of (sealed_of s b)) (second (structured.parameters b).complete (map (λ (p : Pending). p.param) (pending_of (sealed_of s b)))
    (none-behind (own.params b) _ (let same = ap length (sym behind ∙ alone) in omega (arith, same))))
  where
    behind : (block_at f b).params ≡ own.params b ++ ((structured.parameters b).complete ++ map (λ (p : Pending). p.param) (pending_of (sealed_of s b)))
    behind =
        (structured.parameters b).in_order
        ∙ ap (λ (ps : List Pending). own.params b ++ ((structured.parameters b).complete ++ map (λ (p : Pending). p.param) ps)) (waiting_pending f (sealed_of s b) b)

    second : (xs ys : List ℕ) → xs ++ ys ≡ [] → ys ≡ []
    second [] ys none = none
    second (x ∷ xs) ys none = let no_way : ⊥ = cc in absurd no_way

    no_element : (ps : List Pending) → map (λ (p : Pending). p.param) ps ≡ [] → ps ≡ []
    no_element [] none = refl
    no_element (p ∷ ps) none = let no_way : ⊥ = cc in absurd no_way
