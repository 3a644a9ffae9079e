-- Both runs go along an edge of an instruction: straight, or through a landing block.
use Rattle.std.proofs.Common.{◌≡◌, ◌⊎◌, ◌<◌, ◌≤◌, ◌+◌, inl, inr, ℕ, Bool, true, false, List, [], ◌∷◌, length, map, refl, sym, ap, subst, ◌∙◌, arith, Some}
use Rattle.std.specs.Prelude.{Contains, slice_get}
use Rattle.std.proofs.lemmas.List.{length-map}
use Rattle.clif_meaning.specs.Bits.{Bits, IsValue}
use Rattle.clif_meaning.specs.Event.{CallShape}
use Rattle.clif_meaning.specs.FunctionMachine.{FunctionRun, FunctionState, enter_block, follow_edge, same_value}
use Rattle.clif_meaning.specs.FunctionView.{Placed}
use Rattle.clif_meaning.specs.Instruction.{Argument, Known, CallResult, CallPayload, Edge}
use Rattle.clif_meaning.specs.Machine.{At}
use Rattle.clif_meaning.specs.Memory.{Memory}
use Rattle.clif_meaning.specs.Path.{IsReachable, Leads}
use Rattle.clif_meaning.specs.Store.{argument_bits, assigned}
use Rattle.clif_meaning.specs.Typing.{EachEdgeMatches, call_shape, value_types_at}
use Rattle.clif_meaning.specs.WellPlaced.{function_flow, placed_at, placed_gives, placed_targets}
use Rattle.clif_meaning.specs.World.{World}
use Rattle.clif_safepoints.specs.Analysis.{IsReached}
use Rattle.clif_safepoints.specs.Liveness.{IsLiveAcross, IsPassed}
use Rattle.clif_safepoints.proofs.Paths.{contains_map}
use Rattle.clif_spilling_laws.specs.Accesses.{state_of}
use Rattle.clif_spilling_laws.specs.Live.{IsLiveBefore, counted, place_at}
use Rattle.clif_spilling_laws.specs.Rewriting.{AreFresh, IsCopied, IsNamed, Lands, LeadsStraight, jump_item, own_arguments}
use Rattle.clif_spilling_laws.specs.Spilling.{AreReloads, IsKeptBy, IsReload, Reload, Spilling, reload_items}
use Rattle.clif_spilling_laws.proofs.Forward.Edges.{OwnHeld, ReadAlike, edge_as_many, front_filled, landed_alike, landed_long, own_held, straight_alike, straight_long}
use Rattle.clif_spilling_laws.proofs.Forward.Entering.{Arrives, old_run, new_run, entered, slots, still_held}
use Rattle.clif_spilling_laws.proofs.Basics.Lists.{assigned_alike, assigned_other, contains_cases, contains_none, true_or_false}
use Rattle.clif_spilling_laws.proofs.Liveness.LivePaths.{live_after_below}
use Rattle.clif_spilling_laws.proofs.Basics.Passing.{BeginsQuietly, Passes, passes_some, passes_step, passes_then}
use Rattle.clif_spilling_laws.proofs.Forward.Relation.{Held, SeenAlike, Setting}
use Rattle.clif_spilling_laws.proofs.Memory.Reloading.{AreReloaded, each_reload, old_is_kept, reloads_run}
use Rattle.clif_spilling_laws.proofs.Memory.Slots.{there_is_loaded}

-- each parameter of a landing block is new, no alias, and kept by the reloads
pub each_fresh : (s : Spilling) (reloads : List Reload) (params : List ℕ) (v : ℕ) → AreFresh s reloads params → Contains params v
    → (s.count ≤ v) × (s.after.resolved v ≡ v) × IsKeptBy reloads v
each_fresh s reloads [] v fresh h = absurd (contains_none v h)
each_fresh s reloads (param ∷ params) v fresh h = by (contains_cases param v params h) (λ more. each_fresh s reloads params v fresh.1 more)
  where
    by : (param ≡ v) ⊎ Contains params v → (Contains params v → (s.count ≤ v) × (s.after.resolved v ≡ v) × IsKeptBy reloads v)
        → (s.count ≤ v) × (s.after.resolved v ≡ v) × IsKeptBy reloads v
    by (inl same) later =
        subst (λ (w : ℕ). (s.count ≤ w) × (s.after.resolved w ≡ w) × IsKeptBy reloads w) same (fresh.0.0, fresh.0.1, fresh.0.3)
    by (inr more) later = later more

-- what the call gives itself doesn't depend on values
own_bits : (f g : ℕ → Bits) (given : List Bits) (olds : List (Argument ℕ))
    → map (argument_bits f given) (own_arguments olds) ≡ map (argument_bits g given) (own_arguments olds)
own_bits f g given [] = refl
own_bits f g given (Known old ∷ olds) = own_bits f g given olds
own_bits f g given (CallResult i ∷ olds) = λ k. argument_bits f given (CallResult i) ∷ own_bits f g given olds k
own_bits f g given (CallPayload i ∷ olds) = λ k. argument_bits f given (CallPayload i) ∷ own_bits f g given olds k

module _ (counts : ℕ → ℕ → Bool) (members : ℕ → Bool) (s : Spilling) (world : World) (c : Setting counts members s world)
    (P : FunctionState → Type 0) (block index : ℕ) (old : Placed) (there : placed_at s.before (place_at block index) ≡ Some old)
    (reachable : IsReachable (function_flow s.before) (place_at block index))
    (match : EachEdgeMatches s.before.value_type (value_types_at s.before) (call_shape old.instruction.operation) old.instruction.edges)
    (edge : Edge ℕ ℕ) (is_edge : Contains old.instruction.edges edge)
    (p q : FunctionState) (seen : SeenAlike s world p q) (given : List Bits)
    (through : (values : ℕ → Bits) (memory : Memory) (code : List Placed) → BeginsQuietly code → P (state_of values memory q.events (At code)))
    (across : (v : ℕ) → v < s.count → IsLiveAcross (counted counts) s.before (place_at block index) v → Held s world v p.values q.values q.memory)
    (fits : (v : ℕ) → s.is_spilled v ≡ true → IsValue (s.before.value_type v) (p.values v)) where
  abbrev run : FunctionRun
  run = new_run counts members s world c

  abbrev target : ℕ
  target = edge.target

  abbrev params : List ℕ
  params = (s.before.blocks edge.target).parameters

  is_target : Contains (placed_targets (placed_at s.before (place_at block index))) edge.target
  is_target =
      subst (λ o. Contains (placed_targets o) edge.target) (sym there)
      (contains_map (λ (e : Edge ℕ ℕ). e.target) old.instruction.edges edge is_edge)

  not_given : (v : ℕ) → Contains (placed_gives (placed_at s.before (place_at block index))) v → ⊥
  not_given v h =
      contains_none v (subst (λ (xs : List ℕ). Contains xs v)
      (c.may.gives_once.edges_give_nothing (place_at block index) (λ empty. contains_none edge.target (subst (λ (xs : List ℕ). Contains xs edge.target) empty is_target))) h)

  reached : IsReached s.before edge.target
  reached = inr (place_at block index, reachable, is_target)

  -- what an argument that counts passes is live across the instruction
  passed : (j operand : ℕ) → slice_get edge.arguments j ≡ Some (Known operand) → counts edge.target j ≡ true
      → IsPassed (counted counts) s.before.resolved (s.before.resolved operand) (placed_at s.before (place_at block index))
  passed j operand is counts_so =
      subst (λ o. IsPassed (counted counts) s.before.resolved (s.before.resolved operand) o) (sym there)
      (edge, j, operand, is_edge, is, refl, counts_so)

  passed_live : (j operand : ℕ) → slice_get edge.arguments j ≡ Some (Known operand) → counts edge.target j ≡ true
      → IsLiveAcross (counted counts) s.before (place_at block index) (s.before.resolved operand)
  passed_live j operand is counts_so = (not_given (s.before.resolved operand), [], passed j operand is counts_so)

  passed_below : (j operand : ℕ) → slice_get edge.arguments j ≡ Some (Known operand) → counts edge.target j ≡ true → s.before.resolved operand < s.count
  passed_below j operand is counts_so =
      live_after_below counts s.before c.may.well_placed s.count c.may.gives_once (s.before.resolved operand) (place_at block index) reachable
      ([], passed j operand is counts_so)

  -- what is live at the front of the target is live across the instruction, if it is no parameter
  front_across : (v : ℕ) → IsLiveBefore counts s.before (place_at edge.target 0) v → (Contains params v → ⊥)
      → IsLiveAcross (counted counts) s.before (place_at block index) v
  front_across v live none = by live
    where
      leads : Leads (function_flow s.before) (place_at block index) (place_at edge.target 0)
      leads = inr (is_target, (refl, front_filled counts s.before edge.target v live))

      by : IsLiveBefore counts s.before (place_at edge.target 0) v → IsLiveAcross (counted counts) s.before (place_at block index) v
      by (inl used) = (not_given v, place_at edge.target 0 ∷ [], (leads, none, inl used))
      by (inr later) = (not_given v, place_at edge.target 0 ∷ later.1, (leads, none, inr (later.0, later.2)))

  -- an argument for what is live there counts
  counts_there : (v k : ℕ) → IsLiveBefore counts s.before (place_at edge.target 0) v → slice_get params k ≡ Some v → counts edge.target (0 + k) ≡ true
  counts_there v k live is = subst (λ (n : ℕ). counts edge.target n ≡ true) (from_zero k) (by (true_or_false (counts edge.target k)))
    where
      from_zero : (k : ℕ) → k ≡ 0 + k
      from_zero k = omega arith

      by : (counts edge.target k ≡ true) ⊎ (counts edge.target k ≡ false) → counts edge.target k ≡ true
      by (inl yes_it_does) = yes_it_does
      by (inr not_so) = let dead = c.may.counts_enough edge.target k v reached not_so is in absurd (dead.2 live)

  long : length params ≡ length edge.arguments
  long = edge_as_many s.before (call_shape old.instruction.operation) old.instruction.edges edge match is_edge

  abbrev old_bits : List Bits
  old_bits = map (argument_bits (λ v. p.values (s.before.resolved v)) given) edge.arguments

  old_long : length params ≤ length old_bits
  old_long = let e = length-map edge.arguments (argument_bits (λ v. p.values (s.before.resolved v)) given) in omega (arith, e, long)

  -- operands that are read have the same bits
  reads : (reloads : List Reload) (given' : List Bits) (g : ℕ → Bits) → AreReloads s reloads → ((v : ℕ) → v < s.count → g v ≡ q.values v)
      → ((x : Reload) → Contains reloads x → x.access.value < s.count → IsLiveAcross (counted counts) s.before (place_at block index) x.access.value
      → g x.copy ≡ p.values x.access.value)
      → ReadAlike counts s reloads edge.target given given' (λ v. p.values (s.before.resolved v)) (λ v. g (s.after.resolved v)) 0 edge.arguments
  reads reloads given' g are same copies j old new is counted_so read = by read.how
    where
      from_zero : (k : ℕ) → 0 + k ≡ k
      from_zero k = omega arith

      counts_so : counts edge.target j ≡ true
      counts_so = subst (λ (n : ℕ). counts edge.target n ≡ true) (from_zero j) counted_so

      low : s.before.resolved old < s.count
      low = passed_below j old is counts_so

      live : IsLiveAcross (counted counts) s.before (place_at block index) (s.before.resolved old)
      live = passed_live j old is counts_so

      by : IsCopied s reloads old new ⊎ IsNamed s old new → g (s.after.resolved new) ≡ p.values (s.before.resolved old)
      by (inl copied) =
          let x : Reload = copied.1 in
          let is_reload : IsReload s copied.1 = each_reload s reloads copied.1 are copied.2 in
          ap (λ (n : ℕ). g (s.after.resolved n)) (sym copied.4)
          ∙ ap g is_reload.copy.itself
          ∙ copies copied.1 copied.2 (subst (λ (v : ℕ). v < s.count) (sym copied.3) low)
          (subst (λ (v : ℕ). IsLiveAcross (counted counts) s.before (place_at block index) v) (sym copied.3) live)
          ∙ ap p.values copied.3
      by (inr named) =
          let held : Held s world (s.before.resolved old) p.values q.values q.memory = across (s.before.resolved old) low live in
          ap g named.1 ∙ same (s.before.resolved old) low ∙ held.as_it_is named.0

  pub followed_straight : (reloads : List Reload) (new : Edge ℕ ℕ) → AreReloads s reloads → LeadsStraight counts s reloads edge new
      → ((x : Reload) → Contains reloads x → x.access.value < s.count → IsLiveAcross (counted counts) s.before (place_at block index) x.access.value
      → q.values x.copy ≡ p.values x.access.value)
      → Arrives counts members s world c P (follow_edge (old_run counts members s world c) p given (Some edge)) (follow_edge (new_run counts members s world c) q given (Some new))
  followed_straight reloads new are led copies =
      subst (λ (t : ℕ). Arrives counts members s world c P (follow_edge (old_run counts members s world c) p given (Some edge)) (enter_block run q t new_bits))
      (sym led.target)
      (entered counts members s world c P q.events through edge.target reached p q seen refl old_bits new_bits same
      (λ v low live none. across v low (front_across v live none)))
    where
      new_bits : List Bits
      new_bits = map (argument_bits (λ v. q.values (s.after.resolved v)) given) new.arguments

      new_long : length params ≤ length new_bits
      new_long =
          let e = length-map new.arguments (argument_bits (λ v. q.values (s.after.resolved v)) given) in
          let d = straight_long counts s reloads edge.target given given (λ v. p.values (s.before.resolved v)) (λ v. q.values (s.after.resolved v)) 0 edge.arguments new.arguments led.arguments in
          omega (arith, e, d, long)

      same : (v : ℕ) → v < s.count → IsLiveBefore counts s.before (place_at edge.target 0) v → Contains params v
          → assigned same_value params new_bits q.values v ≡ assigned same_value params old_bits p.values v
      same v low live h =
          assigned_alike params new_bits old_bits q.values p.values v new_long old_long (λ k is.
          straight_alike counts s reloads edge.target given given (λ v. p.values (s.before.resolved v)) (λ v. q.values (s.after.resolved v)) refl 0 edge.arguments new.arguments led.arguments
          (reads reloads given q.values are (λ v low. refl) copies) k (counts_there v k live is)) h

  -- THROUGH A LANDING BLOCK ---------------------------------------------------------------------------------------------

  module _ (call : CallShape) (new : Edge ℕ ℕ) (lands : Lands counts s call edge new) where
    abbrev landing : List ℕ
    landing = (s.after.blocks new.target).parameters

    abbrev landing_bits : List Bits
    landing_bits = map (argument_bits (λ v. q.values (s.after.resolved v)) given) new.arguments

    abbrev base : ℕ → Bits
    base = assigned same_value landing landing_bits q.values

    ran : (f : ℕ → Bits) × AreReloaded s world lands.reloads base q.memory f
        × Passes run P (state_of base q.memory q.events (At (reload_items s lands.reloads (jump_item edge.target lands.passed ∷ []))))
        (state_of f q.memory q.events (At (jump_item edge.target lands.passed ∷ [])))
    ran =
        reloads_run s world c.pointers c.places (slots counts members s world c) P q.memory q.events (λ values code quiet. through values q.memory code quiet)
        lands.reloads (jump_item edge.target lands.passed ∷ []) base lands.are_reloads

    abbrev g : ℕ → Bits
    g = ran.0

    old_stays : (v : ℕ) → v < s.count → g v ≡ q.values v
    old_stays v low =
        ran.1.others v (old_is_kept s lands.reloads v lands.are_reloads low)
        ∙ assigned_other landing landing_bits q.values v (λ h. let fresh = each_fresh s lands.reloads landing v lands.fresh h in absurd (omega (arith, fresh.0, low)))

    copied : (x : Reload) → Contains lands.reloads x → x.access.value < s.count → IsLiveAcross (counted counts) s.before (place_at block index) x.access.value
        → g x.copy ≡ p.values x.access.value
    copied x h low live =
        let is : IsReload s x = each_reload s lands.reloads x lands.are_reloads h in
        let held : Held s world x.access.value p.values q.values q.memory = across x.access.value low live in
        ran.1.copies x h
        ∙ there_is_loaded s world c.places x.access.value (slots counts members s world c x.access.value is.spilled) q.memory (p.values x.access.value)
        (fits x.access.value is.spilled) (held.in_slot is.spilled)

    own_is : map (argument_bits (λ v. p.values (s.before.resolved v)) given) (own_arguments edge.arguments) ≡ landing_bits
    own_is =
        own_bits (λ v. p.values (s.before.resolved v)) (λ v. q.values (s.after.resolved v)) given edge.arguments
        ∙ ap (λ (xs : List (Argument ℕ)). map (argument_bits (λ v. q.values (s.after.resolved v)) given) xs) (sym lands.arguments)

    own : OwnHeld counts s lands.reloads edge.target given [] (λ v. p.values (s.before.resolved v)) (λ v. g (s.after.resolved v)) edge.arguments landing
    own =
        own_held counts s lands.reloads edge.target given [] (λ v. p.values (s.before.resolved v)) (λ v. g (s.after.resolved v)) lands.reloads edge.arguments landing lands.fresh
        q.values (λ v h.
        let fresh = each_fresh s lands.reloads landing v lands.fresh h in
        ap g fresh.1 ∙ ran.1.others v fresh.2 ∙ ap (λ (bits : List Bits). assigned same_value landing bits q.values v) (sym own_is))

    abbrev new_bits : List Bits
    new_bits = map (argument_bits (λ v. g (s.after.resolved v)) []) lands.passed

    new_long : length params ≤ length new_bits
    new_long =
        let e = length-map lands.passed (argument_bits (λ v. g (s.after.resolved v)) []) in
        let d = landed_long counts s lands.reloads edge.target given [] (λ v. p.values (s.before.resolved v)) (λ v. g (s.after.resolved v)) 0 edge.arguments landing lands.passed lands.landed in
        omega (arith, e, d, long)

    same : (v : ℕ) → v < s.count → IsLiveBefore counts s.before (place_at edge.target 0) v → Contains params v
        → assigned same_value params new_bits g v ≡ assigned same_value params old_bits p.values v
    same v low live h =
        assigned_alike params new_bits old_bits g p.values v new_long old_long (λ k is.
        landed_alike counts s lands.reloads edge.target given [] (λ v. p.values (s.before.resolved v)) (λ v. g (s.after.resolved v)) 0 edge.arguments landing lands.passed lands.landed
        (reads lands.reloads [] g lands.are_reloads old_stays copied) own k (counts_there v k live is)) h

    abbrev at_jump : FunctionState
    at_jump = state_of g q.memory q.events (At (jump_item edge.target lands.passed ∷ []))

    arrived : Arrives counts members s world c P (follow_edge (old_run counts members s world c) p given (Some edge)) (enter_block run at_jump edge.target new_bits)
    arrived =
        entered counts members s world c P q.events through edge.target reached p at_jump (record { events = seen.events; memory = seen.memory }) refl
        old_bits new_bits same
        (λ v low live none. still_held s world v p.values q.values g q.memory (old_stays v low) (across v low (front_across v live none)))

    pub followed_landing : Arrives counts members s world c P (follow_edge (old_run counts members s world c) p given (Some edge)) (follow_edge (new_run counts members s world c) q given (Some new))
    followed_landing =
        subst (λ (xs : List Placed). Arrives counts members s world c P (follow_edge (old_run counts members s world c) p given (Some edge)) (state_of base q.memory q.events (At xs)))
        (sym lands.items) (
          arrived.0,
          passes_then run P (state_of base q.memory q.events (At (reload_items s lands.reloads (jump_item edge.target lands.passed ∷ [])))) at_jump arrived.0 ran.2
              (passes_some run P at_jump arrived.0
              (passes_step run P at_jump (enter_block run at_jump edge.target new_bits) arrived.0
              (through g q.memory (jump_item edge.target lands.passed ∷ []) refl) refl arrived.1)),
          arrived.2,
        )
