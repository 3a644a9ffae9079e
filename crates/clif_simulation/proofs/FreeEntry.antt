-- When the entry is free: it was so before a call that leaves it free, and it is where no branch of the calls names it.
use Rattle.std.proofs.Common.{true, false, ◌≡◌, ◌≢◌, ℕ, zero, suc, Bool, List, [], ◌∷◌, ◌++◌, map, refl, sym, ◌∙◌, ap, subst, Option, Some, None, inl, inr}
use Rattle.std.specs.Prelude.{Contains, flat_map, slice_get, if◌then◌else◌}
use Rattle.std.specs.List.{AllByRecursion}
use Rattle.clif_ir.specs.Body.{Body}
use Rattle.clif_ir.specs.Changes.{inserted_in, with_layout}
use Rattle.clif_instructions.specs.Edges.{targets}
use Rattle.clif_instructions.specs.Members.{stands_in}
use Rattle.clif_instructions.specs.declared.block_call.BlockArg.{BlockArg}
use Rattle.clif_instructions.specs.declared.block_call.BlockCall.{BlockCall}
use Rattle.clif_records.specs.Tables.{is_yes}
use Rattle.clif_ssa.specs.Own.{Own}
use Rattle.clif_ssa.specs.Sound.{EntryIsFree, SparesIfEntry, edge_target, edges_at, entry_of}
use Rattle.clif_ssa.specs.Ssa.{SsaState, SamePredecessors, predecessors_of, sealed_of}
use Rattle.clif_ssa.proofs.Ordering.{contains_cons, none_contained, nothing_contained}
use Rattle.clif_meaning.specs.Name.{Name}
use Rattle.clif_meaning.specs.Instruction.{Edge}
use Rattle.clif_meaning.specs.Request.{AnsweredCall}
use Rattle.clif_meaning.specs.Program.{Item, Instruct, Use, Assign}
use Rattle.clif_meaning.specs.FunctionView.{Placed}
use Rattle.clif_meaning.specs.View.{edge_of}
use Rattle.clif_simulation.specs.Tables.{block_name, program_so_far}
use Rattle.clif_simulation.specs.Carries.{EdgeEarlier, Holds, NamesEarlier, NothingLeads, SparesBlock, SparesEntry, answered_edge, as_passed, carried, own_placed}
use Rattle.clif_simulation.proofs.Extending.{one_answer}

none_some : {A : Type 0} (x : A) → None ≡ Some x → ⊥
none_some x same = cc

same_some : {x y : ℕ} → ◌≡◌ {A = Option ℕ} (Some x) (Some y) → x ≡ y
same_some same = cc

-- BEFORE A CALL ---------------------------------------------------------------------------------------------------------

-- The entry stays, what is sealed stays so, and no predecessor of a sealed block comes or goes.
pub free_before : (f g : Body) (s t : SsaState) → ((entry : ℕ) → entry_of f ≡ Some entry → entry_of g ≡ Some entry)
    → ((b : ℕ) → is_yes (sealed_of s b) ≡ true → (is_yes (sealed_of t b) ≡ true) × (predecessors_of t b ≡ predecessors_of s b))
    → EntryIsFree g t → EntryIsFree f s
free_before f g s t stays kept free entry is sealed = sym (kept entry sealed).1 ∙ free entry (stays entry is) (kept entry sealed).0

-- where blocks are sealed, those among them to which a branch leads aren't the entry
pub spared_sealed : (f g : Body) (s t : SsaState) (seals : ℕ → Bool) → g.layout ≡ f.layout → SamePredecessors s t
    → ((b : ℕ) → is_yes (sealed_of t b) ≡ (if seals b then true else is_yes (sealed_of s b)))
    → EntryIsFree g t → (b : ℕ) → seals b ≡ true → SparesIfEntry f s b
spared_sealed f g s t seals layout leads sealed free b chosen is =
    sym (leads b) ∙ free b (ap (λ (l : List ℕ). slice_get l 0) layout ∙ is) (sealed b ∙ ap (λ (u : Bool). if u then true else is_yes (sealed_of s b)) chosen)

-- what was sealed before is sealed after
pub still_sealed : (s t : SsaState) (seals : ℕ → Bool) → ((b : ℕ) → is_yes (sealed_of t b) ≡ (if seals b then true else is_yes (sealed_of s b)))
    → (b : ℕ) → is_yes (sealed_of s b) ≡ true → is_yes (sealed_of t b) ≡ true
still_sealed s t seals sealed b was = sealed b ∙ by (seals b)
  where
    by : (u : Bool) → (if u then true else is_yes (sealed_of s b)) ≡ true
    by true = refl
    by false = was

-- a block comes behind the others, or is the first one
pub entry_inserted : (f : Body) (b entry : ℕ) → entry_of f ≡ Some entry → entry_of (inserted_in f b) ≡ Some entry
entry_inserted f b entry is = by (stands_in b f.layout)
  where
    behind : (layout : List ℕ) → slice_get layout 0 ≡ Some entry → slice_get (layout ++ b ∷ []) 0 ≡ Some entry
    behind [] none = absurd (none_some entry none)
    behind (c ∷ layout) first = first

    by : (test : Bool) → slice_get (if test then f else with_layout f b).layout 0 ≡ Some entry
    by true = is
    by false = behind f.layout is

-- WHERE NO BRANCH NAMES IT ------------------------------------------------------------------------------------------------

-- no edge of an instruction leads to the block
abbrev LeadsElsewhere : ℕ → Placed → Type 0
LeadsElsewhere target placed = AllByRecursion (λ (edge : Edge ℕ ℕ). edge.target ≢ target) placed.instruction.edges

module _ (calls : List AnsweredCall) (entry : Name) (number : ℕ) (named : block_name calls number ≡ Some entry) where
  edges_elsewhere : (edges : List (Edge Name Name)) → AllByRecursion (EdgeEarlier calls) edges → AllByRecursion (λ (edge : Edge Name Name). edge.target ≢ entry) edges
      → AllByRecursion (λ (edge : Edge ℕ ℕ). edge.target ≢ number) (map (answered_edge calls) edges)
  edges_elsewhere [] earlier spares = tt
  edges_elsewhere (edge ∷ edges) earlier spares = (
    λ same. spares.0 (one_answer edge.target entry (block_name calls number) (ap (block_name calls) (sym same) ∙ earlier.0.leads) named),
    edges_elsewhere edges earlier.1 spares.1,
  )

  items_elsewhere : (items : List Item) → AllByRecursion (NamesEarlier calls) items → AllByRecursion (SparesBlock entry) items
      → AllByRecursion (LeadsElsewhere number) (flat_map (carried calls) items)
  items_elsewhere [] earlier spares = tt
  items_elsewhere (Instruct place instruction results ∷ items) earlier spares =
      let names : NamesEarlier calls (Instruct place instruction results) = earlier.0 in
      (edges_elsewhere instruction.edges names.2 spares.0, items_elsewhere items earlier.1 spares.1)
  items_elsewhere (Use variable name ∷ items) earlier spares = items_elsewhere items earlier.1 spares.1
  items_elsewhere (Assign variable name ∷ items) earlier spares = items_elsewhere items earlier.1 spares.1

  one_elsewhere : (own : Own) (f : Body) (insts : List ℕ) (inst : ℕ) → Contains insts inst → AllByRecursion (LeadsElsewhere number) (map (own_placed own f) insts)
      → LeadsElsewhere number (own_placed own f inst)
  one_elsewhere own f [] inst here all = absurd (none_contained inst here)
  one_elsewhere own f (i ∷ insts) inst here all =
      let later : Contains insts inst → LeadsElsewhere number (own_placed own f inst) = λ there. one_elsewhere own f insts inst there all.1 in
      elim (contains_cons i insts inst here) [
        | inl same ↦ subst (λ (j : ℕ). LeadsElsewhere number (own_placed own f j)) same all.0
        | inr there ↦ later there
      ]

  none_leads_there : (passed : ℕ → List BlockArg) (first k : ℕ) (edges : List BlockCall)
      → AllByRecursion (λ (edge : Edge ℕ ℕ). edge.target ≢ number) (as_passed passed first (map edge_of edges)) → slice_get (targets edges) k ≡ Some number → ⊥
  none_leads_there passed first k [] all is = none_some number is
  none_leads_there passed first zero (edge ∷ edges) all is = all.0 (same_some is)
  none_leads_there passed first (suc k) (edge ∷ edges) all is = none_leads_there passed (suc first) k edges all.1 is

-- where no branch names the entry, it is free
pub free_spared : (calls : List AnsweredCall) (own : Own) (f : Body) (s : SsaState) → Holds calls own f s → SparesEntry calls → EntryIsFree f s
free_spared calls own f s holds spares number is sealed = by (program_so_far calls).entry refl
  where
    by : (o : Option Name) → (program_so_far calls).entry ≡ o → predecessors_of s number ≡ []
    by None none = absurd (none_some number (sym (holds.entry.none none) ∙ is))
    by (Some entry) some =
        let at = holds.entry.some entry some in
        let named : block_name calls number ≡ Some entry = ap (block_name calls) (same_some (sym is ∙ at.1)) ∙ at.2 in
        nothing_contained (predecessors_of s number) (λ inst here.
        let from = holds.leads_own number inst here in
        let edge : (k : ℕ) × (edge_target f inst k ≡ Some number) = holds.have_edges number inst here in
        none_leads_there calls entry number named (own.passed inst) 0 edge.0 (edges_at f inst)
        (one_elsewhere calls entry number named own f (own.insts from.0) inst from.2
        (subst (AllByRecursion (LeadsElsewhere number)) (sym (holds.items from.0 from.1 from.3))
        (items_elsewhere calls entry number named ((program_so_far calls).items from.1) (holds.earlier from.1) (spares entry some from.1)))) edge.1)

-- and where no branch leads anywhere
pub free_nowhere : (f : Body) (s : SsaState) → NothingLeads s → EntryIsFree f s
free_nowhere f s nothing entry is sealed = nothing entry

-- as the entry that is block 0, to which none leads
pub free_first : (f : Body) (s : SsaState) → entry_of f ≡ Some 0 → predecessors_of s 0 ≡ [] → EntryIsFree f s
free_first f s first none entry is sealed = ap (predecessors_of s) (same_some (sym is ∙ first)) ∙ none
