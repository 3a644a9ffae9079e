-- All that an instruction uses is read anew, or nothing of it is spilled.
use Rattle.std.proofs.Common.{◌≡◌, ◌≢◌, ◌∙◌, ◌<◌, ◌≤◌, ℕ, false, List, [], ◌∷◌, ◌++◌, length, map as each, refl, sym, ap, subst, arith, inl, inr}
use Rattle.std.specs.Prelude.{Contains, filter, slice_index_or}
use Rattle.std.specs.List.{AllZip}
use Rattle.std.proofs.lemmas.Bool.{cases_Bool}
use Rattle.std.proofs.lemmas.List.Elements.{All-contains, Contains-append_left, Contains-append_right}
use Rattle.clif_types.specs.EntitySet.{has}
use Rattle.clif_tables.specs.Lists.{TableLists, stack_map_at}
use Rattle.clif_instructions.specs.Edges.{no_edge}
use Rattle.clif_instructions.specs.Instruction.{contexts, destinations, operands}
use Rattle.clif_instructions.specs.declared.block_call.BlockArg.{BlockArg}
use Rattle.clif_instructions.specs.declared.block_call.BlockArg.TheVariants as arg
use Rattle.clif_instructions.specs.declared.block_call.BlockCall.{BlockCall}
use Rattle.clif_nodes.specs.Nodes.{BlockNode, empty_block}
use Rattle.clif_ir.specs.Body.{Body, inst_at, resolved}
use Rattle.clif_ir.specs.Consistent.{EdgeExists, IsConsistent, ValueExists}
use Rattle.clif_safepoints.proofs.Numbered.{filter_from, filter_to}
use Rattle.clif_stack_slots.specs.declared.slots.StackSlots.{StackSlots}
use Rattle.clif_spiller.specs.Acting.{Acts, edge_values, needs, operand_values, passed_value, passed_values, used_values}
use Rattle.clif_spiller.specs.Allocating.{Needs, SlotAct}
use Rattle.clif_spiller.specs.Keeping.{Keeps}
use Rattle.clif_spiller.specs.Plans.{GoesOn}
use Rattle.clif_spiller.specs.Text.{IsArgumentBy, IsEdgeBy, IsNamedBy, IsReadBy, ReadsUses, Reloaded, Rereads, RereadsOperands, ResolvesNames}
use Rattle.clif_spiller.specs.declared.accesses.Spot.TheVariants as spot
use Rattle.clif_spiller.specs.declared.plan.Plan.{Plan}
use Rattle.clif_spiller.proofs.Advancing.{names_stay}
use Rattle.clif_spiller.proofs.Edges.{ReadsEdges, edge_there}
use Rattle.clif_spiller.proofs.Keeping.{keeps_fewer, keeps_trans}
use Rattle.clif_spiller.proofs.Progressing.Members.{into_flat, into_map}
use Rattle.clif_spiller.proofs.Text.Adding.{adds_none}
use Rattle.clif_spiller.proofs.Text.Alike.{alike_same, alike_then}
use Rattle.clif_spiller.proofs.Text.Cutting.{cut_stays}
use Rattle.clif_spiller.proofs.Text.Lists.{zip_by_place, zip_same, zip_turned}
use Rattle.clif_spiller.proofs.Text.Rereading.{adds_kept, more_left, more_right, read_itself, read_turned, rereads_then}

-- ALL IS READ -----------------------------------------------------------------------------------------------------------

module _ (plan : Plan) (inst : ℕ) (f : Body) (a : StackSlots) (g : Body) (b : StackSlots) (h : Body) (c : StackSlots) (k : Body) (count : ℕ)
    (known : IsConsistent f) (exists : inst < length f.insts) (goes : GoesOn (length f.blocks) f a g b)
    (edges_same : destinations (inst_at g inst).shape ≡ destinations (inst_at f inst).shape) (acts : List SlotAct) (at : Acts plan inst f a g b acts)
    (first : RereadsOperands plan inst f a g b) (second : ReadsEdges plan g b inst count h c) (past : length (destinations (inst_at g inst).shape) ≤ count)
    (names : ResolvesNames inst h k) (keeps : Keeps (length h.blocks) h k) (others : (i : ℕ) → i ≢ inst → inst_at k i ≡ inst_at h i) (tables : k.tables ≡ h.tables)
    (blocks : k.blocks ≡ h.blocks) where
  middle : Rereads plan inst f a h c (first.accesses ++ second.accesses)
  middle = rereads_then plan inst (length f.blocks) (length g.blocks) f a g b first.accesses h c second.accesses _ exists goes.keeps second.goes.keeps second.acts first.so second.so

  keeps_all : Keeps (length f.blocks) f h
  keeps_all = keeps_trans (length f.blocks) f g h goes.keeps (keeps_fewer (length f.blocks) (length g.blocks) g h goes.keeps.blocks second.goes.keeps)

  named_so : (old new : ℕ) → Contains (contexts (inst_at f inst).shape) old → IsNamedBy h old new → IsNamedBy f old new
  named_so old new here (inl itself) = inl itself
  named_so old new here (inr name) =
      inr (name ∙ names_stay (length f.blocks) f h keeps_all known old
      (All-contains (ValueExists f) (contexts (inst_at f inst).shape) old (known.contexts_exist inst) here))

  pub all_read : ReadsUses plan inst f a k c
  all_read = record {
    accesses = first.accesses ++ second.accesses;
    adds = adds_kept Reloaded plan.pointer f a (spot.Before inst) h c (spot.Before inst) (first.accesses ++ second.accesses) k (length h.blocks) keeps
        (λ block front back cut.
        cut_stays h k block (spot.Before inst) front back keeps.insts keeps.blocks (ap (λ (xs : List BlockNode). (slice_index_or xs block empty_block).insts) blocks)
        (keeps.homes inst cut.exists) cut)
        (λ i from to. (others i (λ same. omega (arith, same, from, exists)), ap (λ (t : TableLists). stack_map_at t i) tables))
        (ap (λ (xs : List BlockNode). length xs) blocks) middle.adds;
    alike = alike_then (inst_at f inst).shape (inst_at h inst).shape (inst_at k inst).shape middle.alike names.alike;
    named = zip_turned (IsNamedBy h) (IsNamedBy f) (contexts (inst_at f inst).shape) (contexts (inst_at k inst).shape) named_so
        (subst (λ (olds : List ℕ). AllZip (IsNamedBy h) olds (contexts (inst_at k inst).shape)) middle.named names.named);
    reads = subst (AllZip (IsReadBy plan f (first.accesses ++ second.accesses)) (operands (inst_at f inst).shape)) (sym (names.operands ∙ second.operands))
        (zip_turned (IsReadBy plan f first.accesses) (IsReadBy plan f (first.accesses ++ second.accesses)) (operands (inst_at f inst).shape) (operands (inst_at g inst).shape)
        (λ old new here. read_turned plan f f first.accesses (first.accesses ++ second.accesses) old new refl (more_left first.accesses second.accesses)) first.reads);
    edges = subst (AllZip (IsEdgeBy plan f (first.accesses ++ second.accesses)) (destinations (inst_at f inst).shape)) (sym names.edges)
        (zip_turned (IsEdgeBy plan g second.accesses) (IsEdgeBy plan f (first.accesses ++ second.accesses)) (destinations (inst_at f inst).shape) (destinations (inst_at h inst).shape)
        (λ old new here.
        edge_there plan (length f.blocks) f g second.accesses (first.accesses ++ second.accesses) old new goes.keeps known
        (All-contains (EdgeExists f) (destinations (inst_at f inst).shape) old (known.edges_exist inst) here) (more_right first.accesses second.accesses))
        (subst (λ (olds : List BlockCall). AllZip (IsEdgeBy plan g second.accesses) olds (destinations (inst_at h inst).shape)) edges_same
        (zip_by_place (IsEdgeBy plan g second.accesses) (destinations (inst_at g inst).shape) (destinations (inst_at h inst).shape) no_edge no_edge second.edges
        (λ j inside. second.read j (omega (arith, inside, past))))));
  }

-- NOTHING IS ------------------------------------------------------------------------------------------------------------

none_needed : (xs : List ℕ) (v : ℕ) → each Needs xs ≡ [] → Contains xs v → ⊥
none_needed [] v none here = absurd (let inside = here.1 in omega (arith, inside))
none_needed (x ∷ xs) v none here = cc

-- where nothing needs a slot nothing is spilled
pub not_spilled : (plan : Plan) (xs : List ℕ) (v : ℕ) → needs plan xs ≡ [] → Contains xs v → has plan.spilled v ≡ false
not_spilled plan xs v none here =
    elim (cases_Bool (has plan.spilled v)) [
      | inl spilled ↦ absurd (none_needed (filter (has plan.spilled) xs) v none (filter_from (has plan.spilled) xs v here spilled))
      | inr not ↦ not
    ]

argument_itself : (plan : Plan) (f : Body) (args : List BlockArg) (x : BlockArg) → needs plan (passed_values f args) ≡ [] → Contains args x → IsArgumentBy plan f [] x x
argument_itself plan f args (arg.Value v) none here =
    read_itself plan f [] v
    (not_spilled plan (passed_values f args) (resolved f v) none (into_flat (passed_value f) args (arg.Value v) (resolved f v) here (0, omega arith, refl)))
argument_itself plan f args (arg.TryCallRet index) none here = refl
argument_itself plan f args (arg.TryCallExn part) none here = refl

-- an edge that passes nothing spilled stays
pub edge_itself : (plan : Plan) (f : Body) (call : BlockCall) → needs plan (passed_values f call.args) ≡ [] → IsEdgeBy plan f [] call call
edge_itself plan f call none = record {
  block = refl;
  args = zip_same (IsArgumentBy plan f []) call.args (λ x here. argument_itself plan f call.args x none here);
}

part_none : (plan : Plan) (xs ys : List ℕ) → needs plan ys ≡ [] → ((v : ℕ) → Contains xs v → Contains ys v) → needs plan xs ≡ []
part_none plan xs ys none inside = by (needs plan xs) (filter (has plan.spilled) xs) refl refl
  where
    by : (acts : List SlotAct) (kept : List ℕ) → needs plan xs ≡ acts → filter (has plan.spilled) xs ≡ kept → needs plan xs ≡ []
    by acts [] is kept_is = ap (each Needs) kept_is
    by acts (v ∷ kept) is kept_is =
        let both = filter_to (has plan.spilled) xs v (subst (λ (zs : List ℕ). Contains zs v) (sym kept_is) (0, omega arith, refl)) in
        absurd (let no = not_spilled plan ys v none (inside v both.0) in let both_ways = sym both.1 ∙ no in cc)

pub nothing_read : (plan : Plan) (inst : ℕ) (f : Body) (a : StackSlots) → needs plan (used_values f inst) ≡ [] → ReadsUses plan inst f a f a
nothing_read plan inst f a none = record {
  accesses = [];
  adds = adds_none Reloaded plan.pointer f a (spot.Before inst) f a (spot.Before inst) (λ block front back cut. cut) (omega arith) (omega arith) (λ v slot has_slot. has_slot) refl;
  alike = alike_same (inst_at f inst).shape;
  named = zip_same (IsNamedBy f) (contexts (inst_at f inst).shape) (λ v here. inl refl);
  reads = zip_same (IsReadBy plan f []) (operands (inst_at f inst).shape) (λ v here.
      read_itself plan f [] v
      (not_spilled plan (used_values f inst) (resolved f v) none
      (Contains-append_left (operand_values f inst) (edge_values f (destinations (inst_at f inst).shape)) (resolved f v)
      (into_map (resolved f) (operands (inst_at f inst).shape) v here))));
  edges = zip_same (IsEdgeBy plan f []) (destinations (inst_at f inst).shape) (λ call here.
      edge_itself plan f call
      (part_none plan (passed_values f call.args) (used_values f inst) none (λ v passed.
      Contains-append_right (operand_values f inst) (edge_values f (destinations (inst_at f inst).shape)) v
      (into_flat (λ (edge : BlockCall). passed_values f edge.args) (destinations (inst_at f inst).shape) call v here passed))));
}
