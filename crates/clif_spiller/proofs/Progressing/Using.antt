-- What an instruction uses, by its node and by the view.
use Rattle.std.proofs.Common.{◌≡◌, ◌∙◌, ℕ, zero, suc, List, [], ◌∷◌, ◌++◌, take, drop, refl, sym, ap, subst, arith, inl, inr}
use Rattle.std.specs.Prelude.{Contains, None, Option, Some, option_map, slice_get}
use Rattle.std.proofs.lemmas.List.Elements.{Contains-append_cases, Contains-append_left, Contains-append_right}
use Rattle.std.proofs.lemmas.Option.{slice_get-get_or, slice_get-map}
use Rattle.clif_instructions.specs.Instruction.{destinations}
use Rattle.clif_instructions.specs.declared.block_call.BlockArg.{BlockArg}
use Rattle.clif_instructions.specs.declared.block_call.BlockArg.TheVariants as arg
use Rattle.clif_instructions.specs.declared.block_call.BlockCall.{BlockCall}
use Rattle.clif_ir.specs.Body.{Body, inst_at, resolved}
use Rattle.clif_meaning.specs.FunctionView.{Placed}
use Rattle.clif_meaning.specs.Instruction.{Edge, Known}
use Rattle.clif_meaning.specs.Path.{Place}
use Rattle.clif_meaning.specs.View.{argument_of, edge_of, placed_of, view_of}
use Rattle.clif_meaning.specs.WellPlaced.{placed_at}
use Rattle.clif_safepoints.specs.Liveness.{IsPassed, used_operands}
use Rattle.clif_spilling_laws.specs.Live.{counted}
use Rattle.clif_spiller.specs.Acting.{edge_values, operand_values, passed_value, passed_values, used_values}
use Rattle.clif_spiller.specs.Allocating.{IsUsedAt, every}
use Rattle.clif_spiller.proofs.Needing.{edges_append}
use Rattle.clif_spiller.proofs.Progressing.Homes.{get_contains}
use Rattle.clif_spiller.proofs.Progressing.Members.{from_flat, from_map, into_flat, into_map}

-- an argument that passes an operand is that value
known_is : (found : Option BlockArg) (operand : ℕ) → option_map argument_of found ≡ Some (Known operand) → found ≡ Some (arg.Value operand)
known_is None operand is = cc
known_is (Some (arg.Value v)) operand is = let same : v ≡ operand = cc in ap (λ w. Some (arg.Value w)) same
known_is (Some (arg.TryCallRet index)) operand is = cc
known_is (Some (arg.TryCallExn part)) operand is = cc

contains_get : {X : Type 0} (xs : List X) (x : X) → (here : Contains xs x) → slice_get xs here.0 ≡ Some x
contains_get xs x here = slice_get-get_or xs here.0 x here.1 ∙ ap (λ y. Some y) here.2

module _ (f : Body) (inst v : ℕ) where
  abbrev edges : List BlockCall
  edges = destinations (inst_at f inst).shape

  pub passed_from : IsPassed (counted every) (resolved f) v (Some (placed_of f inst)) → Contains (edge_values f edges) v
  passed_from passed =
      let call = from_map edge_of edges passed.0 passed.3 in
      let argument : option_map argument_of (slice_get call.0.args passed.1) ≡ Some (Known passed.2) =
      sym (slice_get-map argument_of call.0.args passed.1) ∙ ap (λ (edge : Edge ℕ ℕ). slice_get edge.arguments passed.1) call.2 ∙ passed.4 in
      let there : Contains call.0.args (arg.Value passed.2) = get_contains call.0.args passed.1 (arg.Value passed.2) (known_is (slice_get call.0.args passed.1) passed.2 argument) in
      into_flat (λ (edge : BlockCall). passed_values f edge.args) edges call.0 v call.1
      (into_flat (passed_value f) call.0.args (arg.Value passed.2) v there (0, omega arith, passed.5))

  pub passed_to : Contains (edge_values f edges) v → IsPassed (counted every) (resolved f) v (Some (placed_of f inst))
  passed_to here =
      let call = from_flat (λ (edge : BlockCall). passed_values f edge.args) edges v here in
      let passed = from_flat (passed_value f) call.0.args v call.2 in
      by call.0 call.1 passed.0 passed.1 passed.2
    where
      by : (call : BlockCall) → Contains edges call → (x : BlockArg) → Contains call.args x → Contains (passed_value f x) v
          → IsPassed (counted every) (resolved f) v (Some (placed_of f inst))
      by call member (arg.Value operand) there (zero, inside, is) = (
        edge_of call,
        there.0,
        operand,
        into_map edge_of edges call member,
        slice_get-map argument_of call.args there.0 ∙ ap (option_map argument_of) (contains_get call.args (arg.Value operand) there),
        is,
        refl,
      )
      by call member (arg.Value operand) there (suc k, inside, is) = absurd (omega (arith, inside))
      by call member (arg.TryCallRet index) there (k, inside, is) = absurd (omega (arith, inside))
      by call member (arg.TryCallExn part) there (k, inside, is) = absurd (omega (arith, inside))

  module _ (p : Place ℕ) (placed : placed_at (view_of f) p ≡ Some (placed_of f inst)) where
    pub used_from : IsUsedAt (view_of f) p v → Contains (used_values f inst) v
    used_from (inl operand) =
        Contains-append_left (operand_values f inst) (edge_values f edges) v (subst (λ (o : Option Placed). Contains (used_operands (resolved f) o) v) placed operand)
    used_from (inr passed) =
        Contains-append_right (operand_values f inst) (edge_values f edges) v (passed_from (subst (IsPassed (counted every) (resolved f) v) placed passed))

    pub used_to : Contains (used_values f inst) v → IsUsedAt (view_of f) p v
    used_to here =
        elim (Contains-append_cases (operand_values f inst) (edge_values f edges) v here) [
          | inl operand ↦ inl (subst (λ (o : Option Placed). Contains (used_operands (resolved f) o) v) (sym placed) operand)
          | inr passed ↦ inr (subst (IsPassed (counted every) (resolved f) v) (sym placed) (passed_to passed))
        ]

-- the edges of items and then the normal one are all edges
split_edges : (edges : List BlockCall) → edges ≡ take 1 edges ++ drop 1 edges
split_edges [] = refl
split_edges (edge ∷ later) = refl

module _ (f : Body) (edges : List BlockCall) (v : ℕ) where
  pub landed_from : Contains (edge_values f (drop 1 edges) ++ edge_values f (take 1 edges)) v → Contains (edge_values f edges) v
  landed_from here =
      subst (λ (xs : List ℕ). Contains xs v) (sym (ap (edge_values f) (split_edges edges) ∙ edges_append f (take 1 edges) (drop 1 edges)))
      (elim (Contains-append_cases (edge_values f (drop 1 edges)) (edge_values f (take 1 edges)) v here) [
        | inl late ↦ Contains-append_right (edge_values f (take 1 edges)) (edge_values f (drop 1 edges)) v late
        | inr first ↦ Contains-append_left (edge_values f (take 1 edges)) (edge_values f (drop 1 edges)) v first
      ])

  pub landed_to : Contains (edge_values f edges) v → Contains (edge_values f (drop 1 edges) ++ edge_values f (take 1 edges)) v
  landed_to here =
      elim (Contains-append_cases (edge_values f (take 1 edges)) (edge_values f (drop 1 edges)) v
      (subst (λ (xs : List ℕ). Contains xs v) (ap (edge_values f) (split_edges edges) ∙ edges_append f (take 1 edges) (drop 1 edges)) here)) [
        | inl first ↦ Contains-append_right (edge_values f (drop 1 edges)) (edge_values f (take 1 edges)) v first
        | inr late ↦ Contains-append_left (edge_values f (drop 1 edges)) (edge_values f (take 1 edges)) v late
      ]
