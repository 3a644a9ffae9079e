-- What is recorded on paths, where the construction made parameters and zeros: what it made for marked variables is recorded.
use Rattle.std.proofs.Common.{◌≡◌, ℕ, zero, suc, ◌<◌, ◌≤◌, List, [], ◌∷◌, ◌++◌, length, Some, None, ◌⊎◌, inl, inr, sym, ◌∙◌, ap, subst, arith}
use Rattle.std.specs.Prelude.{Contains, slice_get, slice_index_or}
use Rattle.std.proofs.lemmas.List.{get_or_past}
use Rattle.clif_instructions.specs.Members.{place_of}
use Rattle.clif_nodes.specs.Nodes.{no_value}
use Rattle.clif_nodes.specs.declared.nodes.ValueNode.{ValueNode}
use Rattle.clif_nodes.specs.declared.nodes.ValueOrigin.{ValueOrigin}
use Rattle.clif_nodes.specs.declared.nodes.ValueOrigin.TheVariants.{Alias, Param}
use Rattle.clif_ir.specs.Body.{Body, alias_of, alias_of_origin, block_at, resolved, value_at}
use Rattle.clif_ir.specs.Consistent.{IsConsistent}
use Rattle.clif_ir.specs.Reading.{home_of_node, param_home}
use Rattle.clif_ir.proofs.Aliases.{follow_end, resolved-no_alias}
use Rattle.clif_paths.specs.State.{Kind, complete, unborn}
use Rattle.clif_paths.specs.Places.{Place}
use Rattle.clif_paths.specs.Blocks.{Blocks}
use Rattle.clif_records.specs.declared.tables.Pending.{Pending}
use Rattle.clif_records.specs.Tables.{pending_of}
use Rattle.clif_ssa.specs.Constructs.{OnlyConstructs, StaysOrNames}
use Rattle.clif_ssa.specs.Own.{Own}
use Rattle.clif_ssa.specs.Sound.{IsParameterFor, HomeFits, IsBehind, Keeps}
use Rattle.clif_ssa.specs.SoundLaws.{DescribesSoundly}
use Rattle.clif_ssa.specs.Ssa.{SsaState, RecordsStay, sealed_of}
use Rattle.clif_ssa.specs.Tracked.{TracksMade}
use Rattle.clif_ssa.proofs.Bodies.{param_origin}
use Rattle.clif_meaning.specs.Request.{AnsweredCall}
use Rattle.clif_meaning.proofs.StraightLine.{nothing_contained}
use Rattle.clif_simulation.specs.Tracks.{TracksOnPaths}
use Rattle.clif_simulation.proofs.Tracking.Steps.{NamesNothing, tracks_made}

param_alias : (b original : ℕ) → Param b ≡ Alias original → ⊥
param_alias b original h = cc

-- a value that is there and is a parameter of the block
home_is : (f : Body) (v b : ℕ) → v < length f.values → (value_at f v).origin ≡ Param b → param_home f v ≡ Some b
home_is f v b below is = by f.values v below is
  where
    by : (values : List ValueNode) (k : ℕ) → k < length values → (slice_index_or values k no_value).origin ≡ Param b → home_of_node (slice_get values k) ≡ Some b
    by [] k inside at = absurd (omega (arith, inside))
    by (node ∷ values) zero inside at = of_origin node.origin at
      where
        of_origin : (o : ValueOrigin) → o ≡ Param b → home_of_node (Some (record node { origin = o })) ≡ Some b
        of_origin o at = ap (λ (p : ValueOrigin). home_of_node (Some (record node { origin = p }))) at
    by (node ∷ values) (suc k) inside at = by values k (omega (arith, inside)) at

module _ (f g : Body) (constructs : OnlyConstructs f g) where
  -- What is no alias now was none.
  pub was_itself : IsConsistent g → (v : ℕ) → resolved g v ≡ v → resolved f v ≡ v
  was_itself consistent v itself = follow_end f.values (length f.values) v (by (order v (length f.values)))
    where
      order : (a n : ℕ) → (a < n) ⊎ (n ≤ a)
      order a n = grind arith

      no_alias : v < length f.values → alias_of g.values v ≡ None
      no_alias below =
          let more = constructs.values in
          ap (alias_of g.values) (sym itself) ∙ resolved-no_alias g.values v consistent.aliases_end (omega (arith, below, more))

      of_node : alias_of g.values v ≡ None → StaysOrNames (value_at f v) (value_at g v) → alias_of f.values v ≡ None
      of_node none (inl same) = ap (λ (n : ValueNode). alias_of_origin n.origin) (sym same) ∙ none
      of_node none (inr named) = ap alias_of_origin named.2

      by : (v < length f.values) ⊎ (length f.values ≤ v) → alias_of f.values v ≡ None
      by (inl below) = of_node (no_alias below) (constructs.same_values v below)
      by (inr past) = ap (λ (n : ValueNode). alias_of_origin n.origin) (get_or_past f.values v no_value past)

  -- a parameter that was there is one of the block that it was of
  was_home : (v b : ℕ) → v < length f.values → param_home g v ≡ Some b → param_home f v ≡ Some b
  was_home v b below home = by (constructs.same_values v below)
    where
      by : StaysOrNames (value_at f v) (value_at g v) → param_home f v ≡ Some b
      by (inl same) = home_is f v b below (ap (λ (n : ValueNode). n.origin) (sym same) ∙ param_origin g v b home)
      by (inr named) = absurd (param_alias b named.1 (sym (param_origin g v b home) ∙ ap (λ (n : ValueNode). n.origin) named.3))

  module _ (own : Own) (s t : SsaState) (T : Blocks) (before : DescribesSoundly own f s T) (after : Keeps own T g t) where
    -- a parameter for a variable is one of its block
    parameter_home : (v x : ℕ) → resolved g v ≡ v → IsParameterFor after.tables v x → (b : ℕ) × (param_home g v ≡ Some b)
    parameter_home v x itself (inl waits) = by (after.describes.pends v x itself waits)
      where
        by : ((b : ℕ) × Contains (pending_of (sealed_of t b)) (record { variable = x; param = v }))
            ⊎ Contains {X = Pending} [] (record { variable = x; param = v }) → (b : ℕ) × (param_home g v ≡ Some b)
        by (inl found) = (found.0, (after.describes.waiting found.0 (record { variable = x; param = v }) found.1).parameter)
        by (inr none) = absurd (nothing_contained {X = Pending} (record { variable = x; param = v }) none)
    parameter_home v x itself (inr is) =
        let fits : HomeFits after.tables v (complete x) = subst (HomeFits after.tables v) is (after.describes.homes v) in (
          fits.0,
          after.describes.complete_there fits.0 v
              (ap (λ (k : Kind). record { home = (after.tables.function.definition v).home; kind = k }) is
              ∙ ap (λ (p : Place). record { home = p; kind = complete x }) fits.1),
        )

    -- so those that are new are new values
    new_ones : (v x : ℕ) → resolved g v ≡ v → (T.function.definition v).kind ≡ unborn → IsParameterFor after.tables v x → length f.values ≤ v
    new_ones v x itself none p = by (order v (length f.values))
      where
        order : (a n : ℕ) → (a < n) ⊎ (n ≤ a)
        order a n = grind arith

        by : (v < length f.values) ⊎ (length f.values ≤ v) → length f.values ≤ v
        by (inl below) =
            let home = parameter_home v x itself p in
            absurd (subst (λ (k : Kind). IsBehind k (place_of v (block_at f home.0).params) (length (own.params home.0))) none
            (before.2.behind home.0 v (was_home v home.0 below home.1)))
        by (inr past) = past

    pub tracks_constructed : (calls : List AnsweredCall) (call : AnsweredCall) → IsConsistent g → TracksMade (length f.values) s t → RecordsStay s t
        → NamesNothing call.request → TracksOnPaths calls s T → TracksOnPaths (calls ++ call ∷ []) t after.tables
    tracks_constructed calls call consistent made stay quiet was =
        tracks_made calls call s t T was (length f.values) after.tables g made stay after.parameters after.describes.resolves
        (λ v itself. before.0.resolves v ∙ was_itself consistent v itself) new_ones
        (λ c x v is. before.0.records_exist c x v (sym (before.0.recorded c x) ∙ is)) quiet
