-- What holds where no branch leads to any block: a function that carries a list of calls has no branch then.
use Rattle.std.proofs.Common.{◌≡◌, ℕ, zero, suc, List, [], ◌∷◌, map, Contains, refl, sym, ◌∙◌, ap, ap₂, subst, slice_get, Some, inl, inr, ◌⊎◌}
use Rattle.std.specs.Prelude.{flat_map}
use Rattle.std.specs.List.{AllByRecursion}
use Rattle.clif_ir.specs.Body.{Body, inst_at}
use Rattle.clif_instructions.specs.Instruction.{destinations}
use Rattle.clif_instructions.specs.declared.block_call.BlockCall.{BlockCall}
use Rattle.clif_ssa.specs.Own.{Own}
use Rattle.clif_ssa.specs.Ssa.{SsaState, predecessors_of}
use Rattle.clif_ssa.specs.Sound.{edge_target}
use Rattle.clif_meaning.specs.Instruction.{Edge}
use Rattle.clif_meaning.specs.Name.{Name}
use Rattle.clif_meaning.specs.Request.{AnsweredCall}
use Rattle.clif_meaning.specs.Program.{Item, Instruct, Use, Assign}
use Rattle.clif_meaning.specs.FunctionView.{Placed}
use Rattle.clif_meaning.specs.View.{placed_of, edge_of, edges_of}
use Rattle.clif_meaning.proofs.StraightLine.{none_of}
use Rattle.clif_simulation.specs.Tables.{program_so_far, block_name}
use Rattle.clif_simulation.specs.Carries.{NothingLeads, IsEarlier, IsValue, NamesEarlier, carried, answered_edge, as_passed, own_placed}
use Rattle.clif_simulation.proofs.Whole.{Whole}
use Rattle.clif_simulation.proofs.Finished.Giving.{In, in_contained}
use Rattle.clif_simulation.proofs.Listed.{none_mapped}

pub none_leads : (s : SsaState) → NothingLeads s → (b i : ℕ) → Contains (predecessors_of s b) i → ⊥
none_leads s nothing b i leads = none_of (predecessors_of s b) i (nothing b) leads

-- what an item names was answered, by a value where it is an operand, and so was what it gives; and an instruction has no edges
abbrev pub PlainlyEarlier : List AnsweredCall → Item → Type 0
PlainlyEarlier calls (Instruct place instruction results) =
    AllByRecursion (IsValue calls) instruction.operands × AllByRecursion (IsEarlier calls) results × (instruction.edges ≡ [])
PlainlyEarlier calls (Use variable name) = IsEarlier calls name
PlainlyEarlier calls (Assign variable name) = IsEarlier calls name

-- a block's own instructions are those of the program's items
abbrev pub PlainlyHasItems : List AnsweredCall → Body → (ℕ → List ℕ) → Type 0
PlainlyHasItems calls f own =
    (block : ℕ) (name : Name) → block_name calls block ≡ Some name
    → map (placed_of f) (own block) ≡ flat_map (carried calls) ((program_so_far calls).items name)

-- a function without branches carries a list of calls
pub record CarriesUnbranched (calls : List AnsweredCall) (f : Body) (s : SsaState) : Type 0 where
  pub whole : Whole calls f s
  pub items : PlainlyHasItems calls f whole.own.insts
  pub earlier : (name : Name) → AllByRecursion (PlainlyEarlier calls) ((program_so_far calls).items name)
  pub nothing_leads : NothingLeads s

-- Instructions without edges ----------------------------------------------------------------------------------------------

abbrev HasNoEdges : Placed → Type 0
HasNoEdges placed = placed.instruction.edges ≡ []

nothing_passes : (own : Own) (f : Body) (inst : ℕ) → edges_of (inst_at f inst).shape ≡ [] → own_placed own f inst ≡ placed_of f inst
nothing_passes own f inst none =
    ap (λ (edges : List (Edge ℕ ℕ)). record (placed_of f inst) { instruction = record (placed_of f inst).instruction { edges = edges } })
    (ap (as_passed (own.passed inst) 0) none ∙ sym none)

pub all_nothing_passes : (own : Own) (f : Body) (insts : List ℕ) → ((inst : ℕ) → In inst insts → edges_of (inst_at f inst).shape ≡ [])
    → map (own_placed own f) insts ≡ map (placed_of f) insts
all_nothing_passes own f [] none = refl
all_nothing_passes own f (inst ∷ insts) none =
    ap₂ (λ (p : Placed) (ps : List Placed). p ∷ ps) (nothing_passes own f inst (none inst (inl refl))) (all_nothing_passes own f insts (λ i there. none i (inr there)))

all_without : (f : Body) (insts : List ℕ) → ((inst : ℕ) → In inst insts → edges_of (inst_at f inst).shape ≡ []) → AllByRecursion HasNoEdges (map (placed_of f) insts)
all_without f [] none = tt
all_without f (inst ∷ insts) none = (none inst (inl refl), all_without f insts (λ i there. none i (inr there)))

of_items : (calls : List AnsweredCall) (items : List Item) → AllByRecursion (NamesEarlier calls) items → AllByRecursion HasNoEdges (flat_map (carried calls) items)
    → AllByRecursion (PlainlyEarlier calls) items
of_items calls [] earlier without = tt
of_items calls (Instruct place instruction results ∷ items) earlier without =
    ((earlier.0.0, earlier.0.1, none_mapped (answered_edge calls) instruction.edges without.0), of_items calls items earlier.1 without.1)
of_items calls (Use variable name ∷ items) earlier without = (earlier.0, of_items calls items earlier.1 without)
of_items calls (Assign variable name ∷ items) earlier without = (earlier.0, of_items calls items earlier.1 without)

pub no_target : (f : Body) (inst k target : ℕ) → edges_of (inst_at f inst).shape ≡ [] → edge_target f inst k ≡ Some target → ⊥
no_target f inst k target none leads = by (destinations (inst_at f inst).shape) (none_mapped edge_of (destinations (inst_at f inst).shape) none) k leads
  where
    by : (edges : List BlockCall) → edges ≡ [] → (k : ℕ) → slice_get (map (λ (edge : BlockCall). edge.block) edges) k ≡ Some target → ⊥
    by [] none zero leads = cc
    by [] none (suc k) leads = cc
    by (edge ∷ edges) none k leads = cc

-- Where no branch leads anywhere -------------------------------------------------------------------------------------------

module _ (calls : List AnsweredCall) (f : Body) (s : SsaState) (carries : Whole calls f s) (nothing : NothingLeads s) where
  own_without : (block inst : ℕ) → In inst (carries.own.insts block) → edges_of (inst_at f inst).shape ≡ []
  own_without block inst there = by (destinations (inst_at f inst).shape) refl
    where
      by : (edges : List BlockCall) → destinations (inst_at f inst).shape ≡ edges → map edge_of (destinations (inst_at f inst).shape) ≡ []
      by [] none = ap (map edge_of) none
      by (edge ∷ edges) some =
          absurd (none_leads s nothing edge.block inst (carries.declared block inst 0 edge.block (in_contained (carries.own.insts block) inst there)
          (ap (λ (es : List BlockCall). slice_get (map (λ (e : BlockCall). e.block) es) 0) some)))

  pub plain_items : PlainlyHasItems calls f carries.own.insts
  plain_items block name named = sym (all_nothing_passes carries.own f (carries.own.insts block) (own_without block)) ∙ carries.items block name named

  pub plainly_earlier : (name : Name) → ((program_so_far calls).items name ≡ []) ⊎ ((block : ℕ) × (block_name calls block ≡ Some name))
      → AllByRecursion (PlainlyEarlier calls) ((program_so_far calls).items name)
  plainly_earlier name (inl none) = subst (AllByRecursion (PlainlyEarlier calls)) (sym none) tt
  plainly_earlier name (inr block) =
      of_items calls ((program_so_far calls).items name) (carries.earlier name)
      (subst (AllByRecursion HasNoEdges) (plain_items block.0 name block.1) (all_without f (carries.own.insts block.0) (own_without block.0)))

  abbrev pub unbranched : CarriesUnbranched calls f s
  unbranched = record {
    whole = carries;
    items = plain_items;
    earlier = λ name. plainly_earlier name (carries.program.only_blocks name);
    nothing_leads = nothing;
  }
