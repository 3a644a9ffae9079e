-- Aliases as links.
use Rattle.std.proofs.Common.{◌≡◌, ◌≢◌, ℕ, zero, suc, ◌<◌, Option, None, Some, ◌⊎◌, inl, inr, refl, sym, ◌∙◌, ap, arith}
use Rattle.clif_paths.specs.Steps.{updated, aliased}
use Rattle.clif_paths.specs.Blocks.{Resolves, FallsAlong}
use Rattle.clif_paths.proofs.Tables.{updated-other, updated_cases, aliased_cases}

-- the end of a value's links is its own end
pub ends_are_ends : (link : ℕ → Option ℕ) (resolve : ℕ → ℕ) → Resolves link resolve → (v : ℕ) → resolve (resolve v) ≡ resolve v
ends_are_ends link resolve resolves v = resolves.at_end (resolve v) (resolves.ends_unlinked v)

-- A new link ------------------------------------------------------------------------------------------------------

-- what an unlinked value other than the new alias resolves to
end_kept :
    (link : ℕ → Option ℕ) (resolve : ℕ → ℕ) (v target u : ℕ) → Resolves link resolve →
    (u ≢ v) × (updated link v (Some target) u ≡ link u) → updated link v (Some target) u ≡ None →
    ((resolve u ≡ v) × (aliased resolve v target u ≡ target)) ⊎ ((resolve u ≢ v) × (aliased resolve v target u ≡ resolve u)) →
    aliased resolve v target u ≡ u
end_kept link resolve v target u resolves kept none (inl c) =
    absurd (kept.0 (sym (resolves.at_end u (sym kept.1 ∙ none)) ∙ c.0))
end_kept link resolve v target u resolves kept none (inr c) = c.1 ∙ resolves.at_end u (sym kept.1 ∙ none)

new_at_end :
    (link : ℕ → Option ℕ) (resolve : ℕ → ℕ) (v target u : ℕ) → Resolves link resolve → updated link v (Some target) u ≡ None →
    ((u ≡ v) × (updated link v (Some target) u ≡ Some target)) ⊎ ((u ≢ v) × (updated link v (Some target) u ≡ link u)) →
    aliased resolve v target u ≡ u
new_at_end link resolve v target u resolves none (inl new) = let linked = new.1 in absurd cc
new_at_end link resolve v target u resolves none (inr kept) =
    end_kept link resolve v target u resolves kept none (aliased_cases resolve v target u)

-- equal ends stay equal
pub same_ends :
    (resolve : ℕ → ℕ) (v target u w : ℕ) → resolve u ≡ resolve w →
    ((resolve u ≡ v) × (aliased resolve v target u ≡ target)) ⊎ ((resolve u ≢ v) × (aliased resolve v target u ≡ resolve u)) →
    ((resolve w ≡ v) × (aliased resolve v target w ≡ target)) ⊎ ((resolve w ≢ v) × (aliased resolve v target w ≡ resolve w)) →
    aliased resolve v target u ≡ aliased resolve v target w
same_ends resolve v target u w e (inl c) (inl d) = c.1 ∙ sym d.1
same_ends resolve v target u w e (inl c) (inr d) = absurd (d.0 (sym e ∙ c.0))
same_ends resolve v target u w e (inr c) (inl d) = absurd (c.0 (e ∙ d.0))
same_ends resolve v target u w e (inr c) (inr d) = c.1 ∙ e ∙ sym d.1

-- the target is its own end
target_end :
    (link : ℕ → Option ℕ) (resolve : ℕ → ℕ) (v target : ℕ) → Resolves link resolve → link target ≡ None → target ≢ v →
    ((resolve target ≡ v) × (aliased resolve v target target ≡ target)) ⊎
    ((resolve target ≢ v) × (aliased resolve v target target ≡ resolve target)) →
    aliased resolve v target target ≡ target
target_end link resolve v target resolves none other (inl c) = c.1
target_end link resolve v target resolves none other (inr c) = c.1 ∙ resolves.at_end target none

alias_end :
    (link : ℕ → Option ℕ) (resolve : ℕ → ℕ) (v target : ℕ) → Resolves link resolve → link v ≡ None →
    ((resolve v ≡ v) × (aliased resolve v target v ≡ target)) ⊎ ((resolve v ≢ v) × (aliased resolve v target v ≡ resolve v)) →
    aliased resolve v target v ≡ target
alias_end link resolve v target resolves none (inl c) = c.1
alias_end link resolve v target resolves none (inr c) = absurd (c.0 (resolves.at_end v none))

new_along :
    (link : ℕ → Option ℕ) (resolve : ℕ → ℕ) (v target u w : ℕ) → Resolves link resolve → link v ≡ None → link target ≡ None → target ≢ v →
    updated link v (Some target) u ≡ Some w →
    ((u ≡ v) × (updated link v (Some target) u ≡ Some target)) ⊎ ((u ≢ v) × (updated link v (Some target) u ≡ link u)) →
    aliased resolve v target u ≡ aliased resolve v target w
new_along link resolve v target u w resolves none none_target other linked (inl new) =
    let changed : Some target ≡ Some w = sym new.1 ∙ linked in
    let same : target ≡ w = cc in
    ap (λ z. aliased resolve v target z) new.0 ∙
    alias_end link resolve v target resolves none (aliased_cases resolve v target v) ∙
    sym (target_end link resolve v target resolves none_target other (aliased_cases resolve v target target)) ∙
    ap (λ z. aliased resolve v target z) same
new_along link resolve v target u w resolves none none_target other linked (inr kept) =
    same_ends resolve v target u w (resolves.along_link u w (sym kept.1 ∙ linked)) (aliased_cases resolve v target u) (aliased_cases resolve v target w)

new_unlinked :
    (link : ℕ → Option ℕ) (resolve : ℕ → ℕ) (v target u : ℕ) → Resolves link resolve → link target ≡ None → target ≢ v →
    ((resolve u ≡ v) × (aliased resolve v target u ≡ target)) ⊎ ((resolve u ≢ v) × (aliased resolve v target u ≡ resolve u)) →
    updated link v (Some target) (aliased resolve v target u) ≡ None
new_unlinked link resolve v target u resolves none other (inl c) =
    ap (λ z. updated link v (Some target) z) c.1 ∙ updated-other link v (Some target) target other ∙ none
new_unlinked link resolve v target u resolves none other (inr c) =
    ap (λ z. updated link v (Some target) z) c.1 ∙ updated-other link v (Some target) (resolve u) c.0 ∙ resolves.ends_unlinked u

-- a new link from an unlinked value to another makes that one an alias
pub new_link_resolves :
    (link : ℕ → Option ℕ) (resolve : ℕ → ℕ) (v target : ℕ) → Resolves link resolve → link v ≡ None → link target ≡ None → target ≢ v →
    Resolves (updated link v (Some target)) (aliased resolve v target)
new_link_resolves link resolve v target resolves none none_target other = record {
  at_end = λ u unlinked. new_at_end link resolve v target u resolves unlinked (updated_cases link v (Some target) u);
  along_link = λ u w linked. new_along link resolve v target u w resolves none none_target other linked (updated_cases link v (Some target) u);
  ends_unlinked = λ u. new_unlinked link resolve v target u resolves none_target other (aliased_cases resolve v target u);
}

-- One way to resolve ----------------------------------------------------------------------------------------------

unique_by :
    (link : ℕ → Option ℕ) (rank : ℕ → ℕ) (resolve resolve' : ℕ → ℕ) → FallsAlong link rank → Resolves link resolve → Resolves link resolve' →
    (bound : ℕ) → ((w : ℕ) → rank w < bound → resolve w ≡ resolve' w) →
    (v : ℕ) → rank v < suc bound → (o : Option ℕ) → link v ≡ o → resolve v ≡ resolve' v
unique_by link rank resolve resolve' falls r r' bound below v lt None e = r.at_end v e ∙ sym (r'.at_end v e)
unique_by link rank resolve resolve' falls r r' bound below v lt (Some w) e =
    let fallen : rank w < rank v = falls.falls v w e in
    let small : rank w < bound = omega arith in
    r.along_link v w e ∙ below w small ∙ sym (r'.along_link v w e)

unique_below :
    (link : ℕ → Option ℕ) (rank : ℕ → ℕ) (resolve resolve' : ℕ → ℕ) → FallsAlong link rank → Resolves link resolve → Resolves link resolve' →
    (bound : ℕ) → (v : ℕ) → rank v < bound → resolve v ≡ resolve' v
unique_below link rank resolve resolve' falls r r' zero v lt = absurd (omega arith)
unique_below link rank resolve resolve' falls r r' (suc bound) v lt =
    let below : (w : ℕ) → rank w < bound → resolve w ≡ resolve' w = unique_below link rank resolve resolve' falls r r' bound in
    unique_by link rank resolve resolve' falls r r' bound below v lt (link v) refl

-- where no links run in a circle, they resolve in one way
pub ends_are_unique :
    (link : ℕ → Option ℕ) (rank : ℕ → ℕ) (resolve resolve' : ℕ → ℕ) → FallsAlong link rank → Resolves link resolve → Resolves link resolve' →
    (v : ℕ) → resolve v ≡ resolve' v
ends_are_unique link rank resolve resolve' falls r r' v =
    let small : rank v < suc (rank v) = omega arith in
    unique_below link rank resolve resolve' falls r r' (suc (rank v)) v small
