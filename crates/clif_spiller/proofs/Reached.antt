-- The blocks that are reached exist.
use Rattle.std.proofs.Common.{◌≡◌, ◌<◌, ◌∙◌, ℕ, inl, inr, Bool, true, false, if◌then◌else◌, List, [], Option, None, Some, length, map, slice_get, refl, sym, ap, subst, arith}
use Rattle.std.specs.Prelude.{◌==◌, Contains, option_map, slice_index}
use Rattle.std.specs.List.{list_any}
use Rattle.std.proofs.lemmas.List.Elements.{All-contains}
use Rattle.std.proofs.lemmas.Option.{get_or_from_slice_get, slice_get-map, slice_get_within}
use Rattle.clif_instructions.specs.Instruction.{destinations}
use Rattle.clif_instructions.specs.declared.block_call.BlockCall.{BlockCall}
use Rattle.clif_ir.specs.Body.{Body, block_at, inst_at}
use Rattle.clif_ir.specs.Consistent.{EdgeExists, IsConsistent}
use Rattle.clif_meaning.specs.FunctionView.{Placed}
use Rattle.clif_meaning.specs.Instruction.{Edge}
use Rattle.clif_meaning.specs.View.{edge_of, placed_of, view_of}
use Rattle.clif_meaning.specs.WellPlaced.{edge_targets, placed_at, placed_targets}
use Rattle.clif_safepoints.specs.Analysis.{IsReached}
use Rattle.clif_safepoints.proofs.Paths.{contained_in_map}

-- what stands at a place of mapped instructions
placed_as : (f : Body) (test : Bool) (insts : List ℕ) (k : ℕ) (placed : Placed) → slice_get (if test then map (placed_of f) insts else []) k ≡ Some placed
    → (i : ℕ) × (placed_of f i ≡ placed)
placed_as f true insts k placed is = by (slice_get insts k) (sym (slice_get-map (placed_of f) insts k) ∙ is)
  where
    by : (found : Option ℕ) → option_map (placed_of f) found ≡ Some placed → (i : ℕ) × (placed_of f i ≡ placed)
    by None is = absurd cc
    by (Some i) is = (i, cc)
placed_as f false insts k placed is = absurd cc

target_exists : (f : Body) → IsConsistent f → (i b : ℕ) → Contains (edge_targets (placed_of f i).instruction) b → b < length f.blocks
target_exists f known i b member =
    let calls : List BlockCall = destinations (inst_at f i).shape in
    let edge = contained_in_map (λ (edge : Edge ℕ ℕ). edge.target) (map edge_of calls) b member in
    let call = contained_in_map edge_of calls edge.0 edge.1 in
    let exists = (All-contains (EdgeExists f) calls call.0 (known.edges_exist i) call.1).0 in
    let same : call.0.block ≡ b = ap (λ (edge : Edge ℕ ℕ). edge.target) call.2 ∙ edge.2 in
    subst (λ n. n < length f.blocks) same exists

pub reached_exists : (f : Body) → IsConsistent f → (b : ℕ) → IsReached (view_of f) b → b < length f.blocks
reached_exists f known b (inl entry) =
    let inside = slice_get_within f.layout 0 b entry in
    let same : slice_index f.layout 0 ≡ b = get_or_from_slice_get f.layout 0 b 0 entry in
    subst (λ n. n < length f.blocks) same (known.layout_exists 0 inside)
reached_exists f known b (inr (p, reachable, member)) = by (placed_at (view_of f) p) refl member
  where
    by : (found : Option Placed) → placed_at (view_of f) p ≡ found → Contains (placed_targets found) b → b < length f.blocks
    by None is none = absurd (omega (arith, none.1))
    by (Some placed) is some =
        let at = placed_as f (list_any (λ other. other == p.block) f.layout) (block_at f p.block).insts p.index placed is in
        target_exists f known at.0 b (subst (λ (x : Placed). Contains (edge_targets x.instruction) b) (sym at.1) some)
