-- An outside call: both runs show the same event, what is live across it moves in the slots as it moves in the values, and memory
-- outside spill slots is the world's.
use Rattle.std.proofs.Common.{◌≡◌, ◌⊎◌, ◌<◌, ◌==◌, ◌&&◌, inl, inr, ℕ, Bool, true, false, List, ◌∷◌, refl, sym, ap, ◌∙◌, Some}
use Rattle.std.specs.Prelude.{Contains, if◌then◌else◌}
use Rattle.std.proofs.Math.Path.{fun_ext}
use Rattle.std.proofs.lemmas.Bool.{and_parts, eqb-true, eq-eqb}
use Rattle.clif_types.specs.Types.{bytes_of}
use Rattle.clif_types.specs.declared.stackmap.UserStackMapEntry.{UserStackMapEntry}
use Rattle.clif_types.specs.declared.types.«Type».{«Type»}
use Rattle.clif_meaning.specs.Bits.{Bits, IsValue, value_bytes, value_of_bytes}
use Rattle.clif_meaning.specs.Event.{CallShape, Callee, Event}
use Rattle.clif_meaning.specs.FunctionMachine.{FunctionState, call_outside, entries_moved}
use Rattle.clif_meaning.specs.FunctionView.{Placed}
use Rattle.clif_meaning.specs.Memory.{Memory, bytes_in}
use Rattle.clif_meaning.specs.Path.{IsReachable}
use Rattle.clif_meaning.specs.Store.{memory_beside, shown_memory}
use Rattle.clif_meaning.specs.Typing.{call_shape}
use Rattle.clif_meaning.specs.WellPlaced.{function_flow, placed_at}
use Rattle.clif_meaning.specs.World.{World}
use Rattle.clif_safepoints.specs.Liveness.{IsLiveAcross}
use Rattle.clif_spilling_laws.specs.Live.{IsLiveAcrossCall, IsSlotOf, counted, place_at}
use Rattle.clif_spilling_laws.specs.Rewriting.{IsExactMap}
use Rattle.clif_spilling_laws.specs.Runs.{in_spill_slots, slot_range}
use Rattle.clif_spilling_laws.specs.Spilling.{Spilling}
use Rattle.clif_spilling_laws.proofs.Forward.Entering.{old_run, new_run, slots}
use Rattle.clif_spilling_laws.proofs.Basics.Lists.{true_false, true_or_false}
use Rattle.clif_spilling_laws.proofs.Memory.Maps.{each_moved}
use Rattle.clif_spilling_laws.proofs.Forward.Relation.{Held, SeenAlike, Setting}
use Rattle.clif_spilling_laws.proofs.Memory.Slots.{same_in_slot, spelled_back}
use Rattle.clif_spilling_laws.proofs.Memory.Storing.{HoldsIn}

-- what is shown of two memories that are alike outside hidden addresses
pub shown_alike : (hidden : ℕ → Bool) (left right : Memory) → ((a : ℕ) → hidden a ≡ false → left a ≡ right a) → shown_memory hidden left ≡ shown_memory hidden right
shown_alike hidden left right same = fun_ext (λ a. by a (hidden a) refl)
  where
    by : (a : ℕ) (h : Bool) → hidden a ≡ h → (if h then 0 else left a) ≡ (if h then 0 else right a)
    by a true is = refl
    by a false is = same a is

-- hidden bytes stay at a call, and the others are the world's
beside_hidden : (hidden : ℕ → Bool) (kept memory : Memory) (a : ℕ) → hidden a ≡ true → memory_beside hidden kept memory a ≡ kept a
beside_hidden hidden kept memory a is = rw is refl

beside_seen : (hidden : ℕ → Bool) (kept memory : Memory) (a : ℕ) → hidden a ≡ false → memory_beside hidden kept memory a ≡ memory a
beside_seen hidden kept memory a is = rw is refl

and_both : (a b : Bool) → a ≡ true → b ≡ true → (a && b) ≡ true
and_both true b g h = h
and_both false b g h = cc

module _ (counts : ℕ → ℕ → Bool) (members : ℕ → Bool) (s : Spilling) (world : World) (c : Setting counts members s world)
    (block index : ℕ) (old : Placed) (there : placed_at s.before (place_at block index) ≡ Some old)
    (reachable : IsReachable (function_flow s.before) (place_at block index)) (shape : CallShape) (is_call : call_shape old.instruction.operation ≡ Some shape)
    (entries : List UserStackMapEntry) (exact : IsExactMap counts members s (place_at block index) entries)
    (p q : FunctionState) (seen : SeenAlike s world p q) (callee : Callee) (arguments : List Bits)
    (fits : (v : ℕ) → members v ≡ true → IsValue (s.before.value_type v) (p.values v))
    (across : (v : ℕ) → v < s.count → IsLiveAcross (counted counts) s.before (place_at block index) v → Held s world v p.values q.values q.memory) where
  abbrev pub p' : FunctionState
  p' = call_outside (old_run counts members s world c) p old.stack_map callee shape arguments

  abbrev pub q' : FunctionState
  q' = call_outside (new_run counts members s world c) q entries callee shape arguments

  abbrev moved : «Type» → Bits → Bits
  moved = world.moved q'.events shape

  pub events_are : q'.events ≡ p'.events
  events_are = λ i. record { callee = callee; arguments = arguments; memory = shown_alike (in_spill_slots s world) q.memory p.memory seen.memory i } ∷ seen.events i

  pub seen_after : SeenAlike s world p' q'
  seen_after = record {
    events = events_are;
    memory = λ a h.
        beside_seen (in_spill_slots s world) (entries_moved (new_run counts members s world c) moved entries q.memory) (world.memory_after q'.events shape) a h
        ∙ ap (λ (events : List Event). world.memory_after events shape a) events_are
        ∙ sym (beside_seen (in_spill_slots s world) p.memory (world.memory_after p'.events shape) a h);
  }

  -- what moves in the run before
  abbrev moves : ℕ → Bool
  moves v = members v && (s.before.resolved v == v)

  moves_if : (v : ℕ) → members v ≡ true → s.before.resolved v ≡ v → p'.values v ≡ world.moved p'.events shape (s.before.value_type v) (p.values v)
  moves_if v member itself = let e : moves v ≡ true = and_both (members v) (s.before.resolved v == v) member (eq-eqb (s.before.resolved v) v itself) in rw e refl

  stays_if : (v : ℕ) → moves v ≡ false → p'.values v ≡ p.values v
  stays_if v e = rw e refl

  -- a value is live across a call, so it is spilled if it moves
  spilled_if : (v : ℕ) → IsLiveAcross (counted counts) s.before (place_at block index) v → members v ≡ true → s.before.resolved v ≡ v → s.is_spilled v ≡ true
  spilled_if v live member itself =
      (c.spills.spilled v).1 (record {
        place = place_at block index;
        reachable = reachable;
        placed = old;
        there = there;
        shape = shape;
        call = is_call;
        member = member;
        unaliased = itself;
        live = live;
      })

  named_spilled : (v : ℕ) → Contains exact.values v → s.is_spilled v ≡ true
  named_spilled v h = let so = (exact.all v).0 h in spilled_if v so.2 so.0 so.1

  named_apart : (v u : ℕ) → Contains exact.values v → Contains exact.values u → s.slot_of v ≡ s.slot_of u → v ≡ u
  named_apart v u h g same =
      let first = (exact.all v).0 h in
      let second = (exact.all u).0 g in
      c.may.shares_no_slot.after (place_at block index) reachable v u (named_spilled v h) (named_spilled u g)
      (first.2.1, first.2.2) (second.2.1, second.2.2) same

  unmoved : (v : ℕ) → IsLiveAcross (counted counts) s.before (place_at block index) v → s.is_spilled v ≡ false → moves v ≡ false
  unmoved v live unspilled = by (true_or_false (moves v))
    where
      by : (moves v ≡ true) ⊎ (moves v ≡ false) → moves v ≡ false
      by (inr no_move) = no_move
      by (inl so) =
          let parts = and_parts (members v) (s.before.resolved v == v) so in
          true_false (s.is_spilled v) (spilled_if v live parts.0 (eqb-true (s.before.resolved v) v parts.1)) unspilled

  in_slot : (v : ℕ) → v < s.count → IsLiveAcross (counted counts) s.before (place_at block index) v → s.is_spilled v ≡ true → HoldsIn s world q'.memory v (p'.values v)
  in_slot v low live spilled =
      same_in_slot s world c.places v has q'.memory kept (λ a h. beside_hidden (in_spill_slots s world) kept (world.memory_after q'.events shape) a h)
      ∙ ap (λ (es : List UserStackMapEntry). bytes_in (entries_moved (new_run counts members s world c) moved es q.memory) (slot_range s world v)) exact.entries_are
      ∙ each_moved s world c.places moved exact.values v q.memory exact.rising (λ u h. slots counts members s world c u (named_spilled u h)) named_apart named
      ∙ ap (λ (x : Bits). value_bytes (bytes_of (s.before.value_type v)) x) bits
    where
      has : IsSlotOf s v
      has = slots counts members s world c v spilled

      spill : IsLiveAcrossCall counts members s.before v
      spill = (c.spills.spilled v).0 spilled

      kept : Memory
      kept = entries_moved (new_run counts members s world c) moved entries q.memory

      named : Contains exact.values v
      named = (exact.all v).1 (spill.member, spill.unaliased, live)

      held : Held s world v p.values q.values q.memory
      held = across v low live

      bits : moved (s.before.value_type v) (value_of_bytes (bytes_in q.memory (slot_range s world v))) ≡ p'.values v
      bits =
          ap (λ (bytes : List ℕ). moved (s.before.value_type v) (value_of_bytes bytes)) (held.in_slot spilled)
          ∙ ap (moved (s.before.value_type v)) (spelled_back s world c.places v has (p.values v) (fits v spill.member))
          ∙ ap (λ (events : List Event). world.moved events shape (s.before.value_type v) (p.values v)) events_are
          ∙ sym (moves_if v spill.member spill.unaliased)

  pub held_after : (v : ℕ) → v < s.count → IsLiveAcross (counted counts) s.before (place_at block index) v → Held s world v p'.values q'.values q'.memory
  held_after v low live = record {
    in_slot = λ spilled. in_slot v low live spilled;
    as_it_is = λ unspilled. (let held : Held s world v p.values q.values q.memory = across v low live in held.as_it_is unspilled) ∙ sym (stays_if v (unmoved v live unspilled));
  }

  pub fits_after : (v : ℕ) → members v ≡ true → IsValue (s.before.value_type v) (p'.values v)
  fits_after v member = by (moves v)
    where
      by : (m : Bool) → IsValue (s.before.value_type v) (if m then world.moved p'.events shape (s.before.value_type v) (p.values v) else p.values v)
      by true = world.moved_fits p'.events shape (s.before.value_type v) (p.values v) (fits v member)
      by false = fits v member
