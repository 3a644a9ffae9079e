-- Paths of code so far that has no branches: they stay in the entry, and what is given before a place is given by an
-- item before it.
use Rattle.std.proofs.Common.{◌≡◌, ℕ, zero, suc, ◌<◌, ◌≤◌, List, [], ◌∷◌, length, map, slice_get, Some, Contains, ◌⊎◌, inl, inr, refl, sym, ◌∙◌, ap, subst, arith}
use Rattle.std.specs.List.{AllByRecursion}
use Rattle.clif_meaning.specs.Name.{Name}
use Rattle.clif_meaning.specs.Request.{AnsweredCall}
use Rattle.clif_meaning.specs.Instruction.{Edge}
use Rattle.clif_meaning.specs.Program.{Item, Instruct, Use, Assign}
use Rattle.clif_meaning.specs.Path.{Place, Flow, IsPath, Leads, IsReachable}
use Rattle.clif_meaning.specs.WellPlaced.{Code, IsGivenAlong, IsGivenBefore, given_on_entry, item_targets, item_gives, program_code}
use Rattle.clif_meaning.proofs.StraightLine.{none_of}
use Rattle.clif_simulation.specs.Tables.{program_so_far}
use Rattle.clif_simulation.proofs.Unbranched.{PlainlyEarlier}
use Rattle.clif_simulation.specs.Reading.{with_ends, code_so_far, behind}
use Rattle.clif_simulation.proofs.Listed.{through_block, given_earlier, given_entering}

-- where nothing leads to another block, paths stay in the entry
in_entry : {Block : Type 0} (flow : Flow Block) → ((p : Place Block) → flow.targets p ≡ []) → (p : Place Block) (path : List (Place Block)) → IsPath flow (p ∷ path)
    → flow.entry ≡ Some p.block
in_entry flow none p [] start = start.0
in_entry {Block} flow none p (q ∷ path) walk = by walk.0 (in_entry flow none q path walk.1)
  where
    by : Leads flow q p → flow.entry ≡ Some q.block → flow.entry ≡ Some p.block
    by (inl next) before = before ∙ ap Some (sym next.0)
    by (inr enters) before = absurd (none_of (flow.targets q) p.block (none q) enters.0)

-- the end of each block is no step of a path's that gives
pub given_on_entry-same : {Block Thing : Type 0} (code : Code Block Thing) (block : Block) (index : ℕ) → given_on_entry (with_ends code) block index ≡ given_on_entry code block index
given_on_entry-same code block zero = refl
given_on_entry-same code block (suc index) = refl

pub along_same : {Block Thing : Type 0} (code : Code Block Thing) (x : Thing) (path : List (Place Block)) → IsGivenAlong (with_ends code) x path → IsGivenAlong code x path
along_same code x [] along = along
along_same {Block} {Thing} code x (p ∷ path) along = by along (along_same code x path)
  where
    by : Contains (code.gives p) x ⊎ Contains (given_on_entry (with_ends code) p.block p.index) x ⊎ IsGivenAlong (with_ends code) x path
        → (IsGivenAlong (with_ends code) x path → IsGivenAlong code x path)
        → Contains (code.gives p) x ⊎ Contains (given_on_entry code p.block p.index) x ⊎ IsGivenAlong code x path
    by (inl here) later = inl here
    by (inr (inl entering)) later = inr (inl (subst (λ (things : List Thing). Contains things x) (given_on_entry-same code p.block p.index) entering))
    by (inr (inr before)) later = inr (inr (later before))

module _ (calls : List AnsweredCall) where
  item_leads : (item : Item) → PlainlyEarlier calls item → item_targets (Some item) ≡ []
  item_leads (Instruct place instruction results) earlier = ap (λ (edges : List (Edge Name Name)). map (λ edge. edge.target) edges) earlier.2
  item_leads (Use variable name) earlier = refl
  item_leads (Assign variable name) earlier = refl

  pub leads_nowhere : (items : List Item) (k : ℕ) → AllByRecursion (PlainlyEarlier calls) items → item_targets (slice_get items k) ≡ []
  leads_nowhere [] k all = refl
  leads_nowhere (item ∷ items) zero all = item_leads item all.0
  leads_nowhere (item ∷ items) (suc k) all = leads_nowhere items k all.1

  -- the blocks that are reached are the entry
  pub reached_entry : ((name : Name) → AllByRecursion (PlainlyEarlier calls) ((program_so_far calls).items name)) → (name : Name)
      → IsReachable (code_so_far calls).flow (behind name 0) → (program_so_far calls).entry ≡ Some name
  reached_entry earlier name reached =
      in_entry (code_so_far calls).flow (λ p. leads_nowhere ((program_so_far calls).items p.block) p.index (earlier p.block)) (behind name 0) reached.0 reached.1

  module _ (entry : Name) (is_entry : (program_so_far calls).entry ≡ Some entry) where
    is_path : (k : ℕ) → k ≤ length ((program_so_far calls).items entry) → IsPath (code_so_far calls).flow (behind entry k ∷ through_block entry k)
    is_path zero within = (is_entry, (refl, omega arith))
    is_path (suc k) within = (inl (refl, omega arith, omega (arith, within)), is_path k (omega arith))

    -- what is given before a place of the entry is a parameter of it, or an item before the place gives it
    pub given_behind : (x : Name) (k : ℕ) → k ≤ length ((program_so_far calls).items entry) → IsGivenBefore (code_so_far calls) x (behind entry k)
        → Contains ((program_so_far calls).parameters entry) x ⊎ ((j : ℕ) × (j < k) × Contains (item_gives (slice_get ((program_so_far calls).items entry) j)) x)
    given_behind x k within given = by (given (through_block entry k) (is_path k within))
      where
        by : Contains (given_on_entry (code_so_far calls) entry k) x ⊎ IsGivenAlong (code_so_far calls) x (through_block entry k)
            → Contains ((program_so_far calls).parameters entry) x ⊎ ((j : ℕ) × (j < k) × Contains (item_gives (slice_get ((program_so_far calls).items entry) j)) x)
        by (inl entering) =
            inl (given_entering (program_so_far calls) entry is_entry x k
            (subst (λ (names : List Name). Contains names x) (given_on_entry-same (program_code (program_so_far calls)) entry k) entering))
        by (inr along) = given_earlier (program_so_far calls) entry is_entry x k (along_same (program_code (program_so_far calls)) x (through_block entry k) along)
