-- A depth-first search leaves blocks in one order alone.
use Rattle.std.proofs.Common.{◌≡◌, ◌⊎◌, ℕ, List, [], ◌∷◌, refl, sym, ap, subst, ◌∙◌, inl, inr, Some, None}
use Rattle.std.specs.Prelude.{Contains}
use Rattle.clif_safepoints.specs.Order.{DepthFirst, Ends, Enters, HasOneOrder, Passes, Visited, with_entered, with_left}

-- a search that comes to nothing
ended : {leads : ℕ → List ℕ} {xs : List ℕ} {a b : Visited} → DepthFirst leads xs a b → xs ≡ [] → a ≡ b
ended (Ends visited) is = refl
ended (Passes block blocks before after known rest) is = cc
ended (Enters block blocks before inside after fresh within rest) is = cc

-- what a search does with the first block
abbrev pub Comes : (ℕ → List ℕ) → ℕ → List ℕ → Visited → Visited → Type 0
Comes leads x xs a b =
    (Contains a.entered x × DepthFirst leads xs a b)
    ⊎ ((Contains a.entered x → ⊥) × (inside : Visited) × DepthFirst leads (leads x) (with_entered x a) inside × DepthFirst leads xs (with_left x inside) b)

came : {leads : ℕ → List ℕ} {xs : List ℕ} {a b : Visited} → DepthFirst leads xs a b → (y : ℕ) (ys : List ℕ) → xs ≡ y ∷ ys → Comes leads y ys a b
came (Ends visited) y ys is = cc
came {leads} {xs} {a} {b} (Passes block blocks before after known rest) y ys is =
    subst (λ x. Comes leads x ys before after) (let e : block ≡ y = cc in e) (subst (λ zs. Comes leads block zs before after) (let e : blocks ≡ ys = cc in e) (inl (known, rest)))
came {leads} {xs} {a} {b} (Enters block blocks before inside after fresh within rest) y ys is =
    subst (λ x. Comes leads x ys before after) (let e : block ≡ y = cc in e)
    (subst (λ zs. Comes leads block zs before after) (let e : blocks ≡ ys = cc in e) (inr (fresh, inside, within, rest)))

pub search_once : {leads : ℕ → List ℕ} {xs : List ℕ} {a b c : Visited} → DepthFirst leads xs a b → DepthFirst leads xs a c → b ≡ c
search_once (Ends visited) second = ended second refl
search_once {leads} {xs} {a} {b} {c} (Passes block blocks before after known rest) second =
    by (λ d. search_once rest d) (came second block blocks refl)
  where
    by : (DepthFirst leads blocks before c → after ≡ c) → Comes leads block blocks before c → after ≡ c
    by more (inl h) = more h.1
    by more (inr h) = absurd (h.0 known)
search_once {leads} {xs} {a} {b} {c} (Enters block blocks before inside after fresh within rest) second =
    by (λ other d. search_once within d) (λ d. search_once rest d) (came second block blocks refl)
  where
    by : ((other : Visited) → DepthFirst leads (leads block) (with_entered block before) other → inside ≡ other)
        → (DepthFirst leads blocks (with_left block inside) c → after ≡ c) → Comes leads block blocks before c → after ≡ c
    by own more (inl h) = absurd (fresh h.0)
    by own more (inr h) = more (subst (λ v. DepthFirst leads blocks (with_left block v) c) (sym (own h.1 h.2)) h.3)

pub one_order : HasOneOrder
one_order leads None order other first second = first ∙ sym second
one_order leads (Some entry) order other first second = ap (λ (v : Visited). v.left) (search_once first.1 second.1)
