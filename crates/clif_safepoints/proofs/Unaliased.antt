-- What is used is no alias: uses are taken after aliases.
use Rattle.std.proofs.Common.{◌≡◌, ◌<◌, ◌⊎◌, ℕ, List, [], ◌∷◌, length, map, refl, sym, ap, subst, ◌∙◌, arith, inl, inr, Option, Some, None}
use Rattle.std.specs.Prelude.{Contains, slice_get}
use Rattle.std.specs.Option.{option_map}
use Rattle.std.proofs.lemmas.List.{get_or_default}
use Rattle.std.proofs.lemmas.Option.{slice_get-map}
use Rattle.std.proofs.lemmas.List.Elements.{All-contains}
use Rattle.clif_instructions.specs.declared.block_call.BlockArg.{BlockArg}
use Rattle.clif_instructions.specs.declared.block_call.BlockArg.TheVariants as arg
use Rattle.clif_instructions.specs.Instruction.{destinations, operands}
use Rattle.clif_ir.specs.Body.{Body, inst_at, resolved}
use Rattle.clif_ir.specs.Consistent.{EdgeExists, IsConsistent, PassedExists}
use Rattle.clif_ir.proofs.Aliases.{follow_end, resolved-no_alias}
use Rattle.clif_meaning.specs.FunctionView.{Placed}
use Rattle.clif_meaning.specs.Instruction.{Edge, Known}
use Rattle.clif_meaning.specs.Path.{Place}
use Rattle.clif_meaning.specs.View.{argument_of, edge_of, placed_of, view_of}
use Rattle.clif_meaning.specs.WellPlaced.{placed_at, placed_gives}
use Rattle.clif_safepoints.specs.Fronts.{at}
use Rattle.clif_safepoints.specs.Liveness.{IsPassed, IsUsedAhead, every_argument, used_operands}
use Rattle.clif_safepoints.specs.Transfer.{insts_of}
use Rattle.clif_safepoints.proofs.Paths.{contained_in_map, contains_at, placed_is, placed_none}

-- what an operand or an argument stands for is no alias
pub resolved_twice : (f : Body) → IsConsistent f → (x : ℕ) → x < length f.values → resolved f (resolved f x) ≡ resolved f x
resolved_twice f kept x inside = follow_end f.values (length f.values) (resolved f x) (resolved-no_alias f.values x kept.aliases_end inside)

pub used_unaliased : (f : Body) → IsConsistent f → (v b k : ℕ) → Contains (used_operands (resolved f) (placed_at (view_of f) (at b k))) v → resolved f v ≡ v
used_unaliased f kept v b k h = by (slice_get (insts_of f b) k) refl
  where
    named : (inst : ℕ) → Contains (map (resolved f) (operands (inst_at f inst).shape)) v → resolved f v ≡ v
    named inst m =
        let from = contained_in_map (resolved f) (operands (inst_at f inst).shape) v m in
        let exists : from.0 < length f.values =
        subst (λ x. x < length f.values) (get_or_default (operands (inst_at f inst).shape) from.1.0 0 from.0 from.1.1 ∙ from.1.2) (kept.operands_exist inst from.1.0 from.1.1) in
        subst (λ x. resolved f x ≡ x) from.2 (resolved_twice f kept from.0 exists)

    by : (o : Option ℕ) → slice_get (insts_of f b) k ≡ o → resolved f v ≡ v
    by (Some inst) is = named inst (subst (λ (o : Option Placed). Contains (used_operands (resolved f) o) v) (placed_is f b k inst is) h)
    by None is = absurd (omega (arith, (subst (λ (o : Option Placed). Contains (used_operands (resolved f) o) v) (placed_none f b k is) h).1))

argument_exists : (f : Body) (x : BlockArg) (operand : ℕ) → argument_of x ≡ Known operand → PassedExists f x → operand < length f.values
argument_exists f (arg.Value w) operand is exists = subst (λ y. y < length f.values) (let e : w ≡ operand = cc in e) exists
argument_exists f (arg.TryCallRet index) operand is exists = cc
argument_exists f (arg.TryCallExn index) operand is exists = cc

unmap : {X Y : Type 0} (g : X → Y) (o : Option X) (y : Y) → option_map g o ≡ Some y → (x : X) × (o ≡ Some x) × (g x ≡ y)
unmap g None y h = cc
unmap g (Some x) y h = (x, refl, cc)

passed_unaliased : (f : Body) → IsConsistent f → (v b k : ℕ) → IsPassed every_argument (resolved f) v (placed_at (view_of f) (at b k)) → resolved f v ≡ v
passed_unaliased f kept v b k h = by (slice_get (insts_of f b) k) refl
  where
    named : (inst : ℕ) → IsPassed every_argument (resolved f) v (Some (placed_of f inst)) → resolved f v ≡ v
    named inst given =
        let call = contained_in_map edge_of (destinations (inst_at f inst).shape) given.0 given.3 in
        let argument = unmap argument_of (slice_get call.0.args given.1) (Known given.2)
        (sym (slice_get-map argument_of call.0.args given.1) ∙ ap (λ (e : Edge ℕ ℕ). slice_get e.arguments given.1) call.2 ∙ given.4) in
        let edge : EdgeExists f call.0 = All-contains (λ e. EdgeExists f e) (destinations (inst_at f inst).shape) call.0 (kept.edges_exist inst) call.1 in
        let exists : PassedExists f argument.0 = All-contains (λ x. PassedExists f x) call.0.args argument.0 edge.1 (contains_at call.0.args given.1 argument.0 argument.1) in
        subst (λ x. resolved f x ≡ x) given.5 (resolved_twice f kept given.2 (argument_exists f argument.0 given.2 argument.2 exists))

    by : (o : Option ℕ) → slice_get (insts_of f b) k ≡ o → resolved f v ≡ v
    by (Some inst) is = named inst (subst (λ (o : Option Placed). IsPassed every_argument (resolved f) v o) (placed_is f b k inst is) h)
    by None is = absurd (subst (λ (o : Option Placed). IsPassed every_argument (resolved f) v o) (placed_none f b k is) h)

pub ahead_unaliased : (f : Body) → IsConsistent f → (v : ℕ) (path : List (Place ℕ)) (p : Place ℕ) → IsUsedAhead every_argument (view_of f) v p path → resolved f v ≡ v
ahead_unaliased f kept v [] p h = passed_unaliased f kept v p.block p.index h
ahead_unaliased f kept v (q ∷ path) p h = by (ahead_unaliased f kept v path q) h.2
  where
    by : (IsUsedAhead every_argument (view_of f) v q path → resolved f v ≡ v)
        → Contains (used_operands (resolved f) (placed_at (view_of f) q)) v ⊎ ((¬ Contains (placed_gives (placed_at (view_of f) q)) v) × IsUsedAhead every_argument (view_of f) v q path)
        → resolved f v ≡ v
    by rest (inl used) = used_unaliased f kept v q.block q.index used
    by rest (inr later) = rest later.1
