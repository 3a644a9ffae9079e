-- A consistent function's edges lead to its own blocks, and pass its own values.
use Rattle.std.proofs.Common.{◌≡◌, ◌<◌, ℕ, List, length, sym, subst, arith}
use Rattle.std.specs.Prelude.{Contains}
use Rattle.std.proofs.lemmas.List.Elements.{All-contains}
use Rattle.clif_instructions.specs.Instruction.{destinations}
use Rattle.clif_instructions.specs.declared.block_call.BlockArg.{BlockArg}
use Rattle.clif_instructions.specs.declared.block_call.BlockArg.TheVariants as arg
use Rattle.clif_instructions.specs.declared.block_call.BlockCall.{BlockCall}
use Rattle.clif_ir.specs.Body.{Body, inst_at}
use Rattle.clif_ir.specs.Consistent.{EdgeExists, IsConsistent, PassedExists}
use Rattle.clif_meaning.specs.FunctionView.{FunctionView, Placed}
use Rattle.clif_meaning.specs.Instruction.{Known, Edge}
use Rattle.clif_meaning.specs.View.{argument_of, edge_of, placed_of, view_of}
use Rattle.clif_safepoints.specs.Transfer.{insts_of}
use Rattle.clif_safepoints.proofs.Paths.{contained_in_map, items_are}
use Rattle.clif_spilling_laws.specs.EdgeLaws.{ConsistentLeadsInside}

-- the branch target that an edge of the view is made of
record IsMadeOf (f : Body) (edge : Edge ℕ ℕ) : Type 0 where
  call : BlockCall
  exists : EdgeExists f call
  same : edge_of call ≡ edge

module _ (f : Body) (kept : IsConsistent f) where
  made_of : (block : ℕ) (placed : Placed) (edge : Edge ℕ ℕ) → Contains ((view_of f).blocks block).items placed
      → Contains placed.instruction.edges edge → IsMadeOf f edge
  made_of block placed edge h is_edge =
      let inst = contained_in_map (placed_of f) (insts_of f block) placed (subst (λ (xs : List Placed). Contains xs placed) (items_are f block) h) in
      let call = contained_in_map edge_of (destinations (inst_at f inst.0).shape) edge
      (subst (λ (item : Placed). Contains item.instruction.edges edge) (sym inst.2) is_edge) in
      record {
        call = call.0;
        exists = All-contains (λ e. EdgeExists f e) (destinations (inst_at f inst.0).shape) call.0 (kept.edges_exist inst.0) call.1;
        same = call.2;
      }

  leads : (edge : Edge ℕ ℕ) → IsMadeOf f edge → edge.target < length f.blocks
  leads edge is = subst (λ (e : Edge ℕ ℕ). e.target < length f.blocks) is.same (let exists = is.exists in exists.0)

  known_exists : (a : BlockArg) (v : ℕ) → argument_of a ≡ Known v → PassedExists f a → v < length f.values
  known_exists (arg.Value w) v is exists = subst (λ (u : ℕ). u < length f.values) (let e : w ≡ v = cc in e) exists
  known_exists (arg.TryCallRet index) v is exists = cc
  known_exists (arg.TryCallExn index) v is exists = cc

  passes : (edge : Edge ℕ ℕ) → IsMadeOf f edge → (v : ℕ) → Contains edge.arguments (Known v) → v < length f.values
  passes edge is v h =
      let passed = contained_in_map argument_of is.call.args (Known v) (subst (λ (e : Edge ℕ ℕ). Contains e.arguments (Known v)) (sym is.same) h) in
      let exists = is.exists in
      known_exists passed.0 v passed.2 (All-contains (λ x. PassedExists f x) is.call.args passed.0 exists.1 passed.1)

pub leads_inside : ConsistentLeadsInside
leads_inside f counts s kept same many new = record {
  passes = λ block placed edge v unreached h is_edge known.
      subst (λ (n : ℕ). v < n) (sym many) (passes f kept edge (made_of f kept block placed edge (here block placed h) is_edge) v known);
  leads = λ block placed edge unreached h is_edge landing.
      let low = leads f kept edge (made_of f kept block placed edge (here block placed h) is_edge) in
      let high = new edge.target landing in omega (arith, low, high);
}
  where
    here : (block : ℕ) (placed : Placed) → Contains (s.before.blocks block).items placed → Contains ((view_of f).blocks block).items placed
    here block placed h = subst (λ (view : FunctionView). Contains (view.blocks block).items placed) same h
