-- The entry of a finished function that carries a list of calls: what is given where, and that the theory's conclusion
-- holds of its tables.
use Rattle.std.proofs.Common.{◌≡◌, ℕ, suc, ◌<◌, ◌≤◌, ◌&&◌, Bool, true, List, [], ◌∷◌, length, slice_get, Option, Some, None, Contains, ◌⊎◌, inl, inr, refl, sym, ◌∙◌, ap, subst, arith}
use Rattle.std.proofs.lemmas.List.{get_or_past}
use Rattle.clif_ir.specs.Body.{Body, resolved, alias_of, alias_of_origin}
use Rattle.clif_nodes.specs.Nodes.{no_value}
use Rattle.clif_nodes.specs.declared.nodes.ValueNode.{ValueNode}
use Rattle.clif_ir.specs.Consistent.{IsConsistent}
use Rattle.clif_ir.proofs.Aliases.{follow_end, resolved-no_alias}
use Rattle.clif_paths.specs.Places.{start, inside, Arm}
use Rattle.clif_paths.specs.State.{Naming}
use Rattle.clif_paths.specs.Blocks.{front}
use Rattle.clif_ssa.specs.Ssa.{SsaState}
use Rattle.clif_ssa.specs.Sound.{IsEdgeInto, entry_of, has_entry}
use Rattle.clif_meaning.specs.Name.{Name}
use Rattle.clif_meaning.specs.Request.{AnsweredCall}
use Rattle.clif_meaning.specs.Program.{Item}
use Rattle.clif_meaning.specs.WellPlaced.{item_gives, item_names, program_code, IsWellPlaced, IsGivenAlong, given_on_entry}
use Rattle.clif_meaning.proofs.StraightLine.{nothing_contained}
use Rattle.clif_simulation.specs.Tables.{code, answered, program_so_far, block_name, origin_of}
use Rattle.clif_simulation.specs.Laws.{IsFinished}
use Rattle.clif_simulation.proofs.Finished.Straight.{OnlyEntry}
use Rattle.clif_simulation.proofs.Unbranched.{none_leads, CarriesUnbranched}
use Rattle.clif_simulation.proofs.Listed.{place_within, through_block, is_path, given_earlier, given_entering}

-- what a value stands for stands for itself
pub resolved_twice : (f : Body) (v : ℕ) → IsConsistent f → resolved f (resolved f v) ≡ resolved f v
resolved_twice f v consistent = follow_end f.values (length f.values) (resolved f v) (by (order v (length f.values)))
  where
    order : (v n : ℕ) → (v < n) ⊎ (n ≤ v)
    order v n = grind arith

    by : (v < length f.values) ⊎ (length f.values ≤ v) → alias_of f.values (resolved f v) ≡ None
    by (inl there) = resolved-no_alias f.values v consistent.aliases_end there
    by (inr behind) =
        let none : alias_of f.values v ≡ None = ap (λ (n : ValueNode). alias_of_origin n.origin) (get_or_past f.values v no_value behind) in
        ap (alias_of f.values) (follow_end f.values (length f.values) v none) ∙ none

some_is : {X : Type 0} (x y : X) → Some x ≡ Some y → x ≡ y
some_is x y e = cc

none_some : {n : ℕ} → None ≡ Some n → ⊥
none_some e = cc

pub begins : (layout : List ℕ) (e : ℕ) → slice_get layout 0 ≡ Some e → has_entry layout ≡ true
begins [] e found = cc
begins (b ∷ layout) e found = refl

module _ (calls : List AnsweredCall) (f : Body) (s : SsaState) (carries : CarriesUnbranched calls f s)
    (entry : Name) (is_entry : (program_so_far calls).entry ≡ Some entry)
  where
    abbrev pub e : ℕ
    e = (carries.whole.entry.some entry is_entry).0

    pub found : entry_of f ≡ Some e
    found = (carries.whole.entry.some entry is_entry).1

    pub named : block_name calls e ≡ Some entry
    named = (carries.whole.entry.some entry is_entry).2

    abbrev pub items : List Item
    items = (program_so_far calls).items entry

    pub counted : carries.whole.tables.count e ≡ length items
    counted = carries.whole.program.counts e entry named

    -- an arm that is known comes from the start, since no branch leads anywhere
    pub joined : (arm : Arm) → carries.whole.tables.joins arm ≡ true → arm.target ≡ front e
    joined arm joins =
        let way = carries.whole.describes.joined arm joins in
        by way.0 way.1 way.3
      where
        by : (b : ℕ) → arm.target ≡ front b → ((arm.source ≡ start) × (entry_of f ≡ Some b)) ⊎ IsEdgeInto f s carries.whole.tables b arm → arm.target ≡ front e
        by b target (inl enters) = target ∙ ap front (some_is b e (sym enters.1 ∙ found))
        by b target (inr edge) = absurd (none_leads s carries.nothing_leads b edge.branch edge.leads)

    sealed : IsFinished calls f s → carries.whole.tables.sealed e ≡ true
    sealed finished =
        carries.whole.describes.sealed e ∙ ap (λ (b : Bool). b && has_entry f.layout) (finished.entry_sealed e found) ∙ begins f.layout e found

    pub only_entry : IsFinished calls f s → OnlyEntry carries.whole.tables e
    only_entry finished = record {
      joined = joined;
      sealed = sealed finished;
      entered = carries.whole.describes.entered e found (sealed finished);
    }

    -- What items give ---------------------------------------------------------------------------------------------------

    pub given_at : (k : ℕ) (item : Item) → slice_get items k ≡ Some item → (x : Name) → Contains (item_gives (Some item)) x
        → (carries.whole.tables.naming (code x) ≡ record { home = inside e (suc k); origin = origin_of item }) × (carries.whole.tables.answer (code x) ≡ answered calls x)
    given_at k item stands x there = carries.whole.program.given e k entry item named stands x there

    -- What items name ---------------------------------------------------------------------------------------------------

    -- a parameter of the entry, and what an item before this place gives, is given at a place of the entry so far
    pub record IsEarlier (k : ℕ) (x : Name) : Type 0 where
      pub at : ℕ
      pub within : at ≤ k
      pub home : (carries.whole.tables.naming (code x)).home ≡ inside e at
      pub answer : carries.whole.tables.answer (code x) ≡ answered calls x

    of_item : (k : ℕ) (x : Name) (j : ℕ) → j < k → (o : Option Item) → slice_get items j ≡ o → Contains (item_gives o) x → IsEarlier k x
    of_item k x j below None stands gives = absurd (nothing_contained x gives)
    of_item k x j below (Some item) stands gives =
        let there = given_at j item stands x gives in
        record { at = suc j; within = omega (arith, below); home = ap (λ (m : Naming). m.home) there.0; answer = there.1 }

    pub is_earlier : (k : ℕ) (x : Name)
        → Contains ((program_so_far calls).parameters entry) x ⊎ ((j : ℕ) × (j < k) × Contains (item_gives (slice_get items j)) x) → IsEarlier k x
    is_earlier k x (inl entering) =
        let there = carries.whole.program.parameter e entry named x entering in
        record { at = 0; within = omega arith; home = ap (λ (m : Naming). m.home) there.0; answer = there.1 }
    is_earlier k x (inr found) = of_item k x found.0 found.1 (slice_get items found.0) refl found.2

    -- so is a name that the item at this place names
    pub named_before : IsWellPlaced (program_code (program_so_far calls)) → (k : ℕ) (item : Item) → slice_get items k ≡ Some item
        → (x : Name) → Contains (item_names (Some item)) x → IsEarlier k x
    named_before placed k item stands x names =
        is_earlier k x (by (placed.named (record { block = entry; index = k }) x (subst (λ (o : Option Item). Contains (item_names o) x) (sym stands) names)
        (through_block entry k) (is_path (program_so_far calls) entry is_entry k (place_within items k item stands))))
      where
        by : Contains (given_on_entry (program_code (program_so_far calls)) entry k) x ⊎ IsGivenAlong (program_code (program_so_far calls)) x (through_block entry k)
            → Contains ((program_so_far calls).parameters entry) x ⊎ ((j : ℕ) × (j < k) × Contains (item_gives (slice_get items j)) x)
        by (inl entering) = inl (given_entering (program_so_far calls) entry is_entry x k entering)
        by (inr along) = given_earlier (program_so_far calls) entry is_entry x k along
