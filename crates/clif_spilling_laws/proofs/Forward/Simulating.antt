-- The run with stores and reloads simulates the one before: each step of the one is matched by some steps of the other.
use Rattle.std.proofs.Common.{◌≡◌, ◌⊎◌, ◌<◌, ◌≤◌, ◌+◌, ◌-◌, inl, inr, ℕ, zero, suc, Bool, true, List, [], ◌∷◌, refl, sym, ap, subst, ◌∙◌, arith, Option, Some, None}
use Rattle.clif_meaning.specs.Bits.{IsValue}
use Rattle.clif_meaning.specs.Event.{CallShape}
use Rattle.clif_meaning.specs.FunctionMachine.{FunctionRun, FunctionState, blank_state, function_machine, function_shown, function_step, start_at}
use Rattle.clif_meaning.specs.FunctionView.{Placed}
use Rattle.clif_meaning.specs.Machine.{Control, At, HasReturned, HasTrapped, IsStuck, NotYet, Returned, Trapped, Machine, Observation, ending_of, observed, state_after}
use Rattle.clif_meaning.specs.Memory.{Memory}
use Rattle.clif_meaning.specs.SameMeaning.{SameMeaning}
use Rattle.clif_meaning.specs.Store.{shown_memory}
use Rattle.clif_meaning.specs.Typing.{call_shape}
use Rattle.clif_meaning.specs.World.{World}
use Rattle.clif_meaning.proofs.Stuttering
use Rattle.clif_meaning.proofs.Stuttering.{Matched, ShowsOnlyEnds, Simulates, state_after-+, steps_from}
use Rattle.clif_safepoints.specs.Analysis.{IsReached}
use Rattle.clif_typed_runs.specs.Laws.{OfNextPlaced}
use Rattle.clif_spilling_laws.specs.Laws.{MaySpill, SpillingMeansTheSame}
use Rattle.clif_spilling_laws.specs.Live.{place_at}
use Rattle.clif_spilling_laws.specs.Rewriting.{IsSpilling}
use Rattle.clif_spilling_laws.specs.Runs.{IsInOrder, IsMetBy, after_run, before_run, in_spill_slots}
use Rattle.clif_spilling_laws.specs.SlotContents.{HoldsAtCall, SlotContents}
use Rattle.clif_spilling_laws.specs.Spilling.{Spilling}
use Rattle.clif_spilling_laws.proofs.Forward.Calling.{shown_alike}
use Rattle.clif_spilling_laws.proofs.Forward.Edges.{front_filled}
use Rattle.clif_spilling_laws.proofs.Forward.Entering.{Arrives, entered}
use Rattle.clif_spilling_laws.proofs.Liveness.LivePaths.{entry_is_live}
use Rattle.clif_spilling_laws.proofs.Basics.Passing.{BeginsQuietly, Passes, PassesOn, Walks}
use Rattle.clif_spilling_laws.proofs.Forward.Relation.{Alike, Between, ControlAlike, HoldsNext, IsAt, Setting}
use Rattle.clif_spilling_laws.proofs.Forward.Stepping.{matched}

-- WALKS -----------------------------------------------------------------------------------------------------------------

module _ (run : FunctionRun) (P : FunctionState → Type 0) where
  abbrev machine : Machine FunctionState Observation
  machine = function_machine run

  next_first : (k : ℕ) (t : FunctionState) → steps_from machine k (function_step run t) ≡ function_step run (steps_from machine k t)
  next_first zero t = refl
  next_first (suc k) t = ap (function_step run) (next_first k t)

  walk_end : (k : ℕ) (t u : FunctionState) → Walks run P k t u → steps_from machine k t ≡ u
  walk_end zero t u same = same
  walk_end (suc k) t u walk = sym (next_first k t) ∙ walk_end k (function_step run t) u walk.1

  walk_states : (k : ℕ) (t u : FunctionState) → Walks run P k t u → (j : ℕ) → j < k → P (steps_from machine j t)
  walk_states zero t u walk j inside = absurd (omega (arith, inside))
  walk_states (suc k) t u walk zero inside = walk.0
  walk_states (suc k) t u walk (suc j) inside =
      subst P (next_first j t) (walk_states k (function_step run t) u walk.1 j (omega (arith, inside)))

  from_start : (k : ℕ) → steps_from machine k machine.start ≡ state_after machine k
  from_start zero = refl
  from_start (suc k) = ap (function_step run) (from_start k)

  -- one step shows what is before it or after it
  quiet_step : (t : FunctionState) → ShowsOnlyEnds machine 1 t
  quiet_step t zero few = inl refl
  quiet_step t (suc zero) few = inr refl
  quiet_step t (suc (suc j)) few = absurd (omega (arith, few))

-- WHAT IS SHOWN ---------------------------------------------------------------------------------------------------------

not_yet : (d : Control Placed) (memory : Memory) → IsAt d → ending_of d memory ≡ NotYet
not_yet (At rest) memory is = refl
not_yet (HasReturned results) memory is = absurd is
not_yet (HasTrapped reason) memory is = absurd is
not_yet IsStuck memory is = absurd is

-- states that have no end and the same events show the same
shown_at : (run : FunctionRun) (x y : FunctionState) → IsAt x.control → IsAt y.control → x.events ≡ y.events → function_shown run x ≡ function_shown run y
shown_at run x y first second same =
    λ i. record { events = same i; ending = (not_yet x.control (shown_memory run.hidden x.memory) first ∙ sym (not_yet y.control (shown_memory run.hidden y.memory) second)) i }

module _ (counts : ℕ → ℕ → Bool) (members : ℕ → Bool) (s : Spilling) (world : World) where
  abbrev left : FunctionRun
  left = before_run s members world

  abbrev right : FunctionRun
  right = after_run s world

  abbrev Agree : FunctionState → FunctionState → Type 0
  Agree p q = Alike counts members s world p q

  at_alike : (p q : FunctionState) (d d' : Control Placed) → ControlAlike counts members s world p q d d' → IsAt d → IsAt d'
  at_alike p q (At []) (At code) alike is = tt
  at_alike p q (At (old ∷ olds)) (At code) alike is = tt
  at_alike p q (At []) (HasReturned results) alike is = absurd alike
  at_alike p q (At []) (HasTrapped reason) alike is = absurd alike
  at_alike p q (At []) IsStuck alike is = absurd alike
  at_alike p q (At (old ∷ olds)) (HasReturned results) alike is = absurd alike
  at_alike p q (At (old ∷ olds)) (HasTrapped reason) alike is = absurd alike
  at_alike p q (At (old ∷ olds)) IsStuck alike is = absurd alike
  at_alike p q (HasReturned results) d' alike is = absurd is
  at_alike p q (HasTrapped reason) d' alike is = absurd is
  at_alike p q IsStuck d' alike is = absurd is

  ends_alike : (p q : FunctionState) (d d' : Control Placed) (m m' : Memory) → m ≡ m' → ControlAlike counts members s world p q d d' → ending_of d m ≡ ending_of d' m'
  ends_alike p q (At []) (At code) m m' same alike = refl
  ends_alike p q (At (old ∷ olds)) (At code) m m' same alike = refl
  ends_alike p q (HasReturned results) (HasReturned others) m m' same alike = λ i. Returned (sym alike i) (same i)
  ends_alike p q (HasTrapped reason) (HasTrapped other) m m' same alike = λ i. Trapped (sym alike i) (same i)
  ends_alike p q IsStuck IsStuck m m' same alike = refl
  ends_alike p q (At []) (HasReturned results) m m' same alike = absurd alike
  ends_alike p q (At []) (HasTrapped reason) m m' same alike = absurd alike
  ends_alike p q (At []) IsStuck m m' same alike = absurd alike
  ends_alike p q (At (old ∷ olds)) (HasReturned results) m m' same alike = absurd alike
  ends_alike p q (At (old ∷ olds)) (HasTrapped reason) m m' same alike = absurd alike
  ends_alike p q (At (old ∷ olds)) IsStuck m m' same alike = absurd alike
  ends_alike p q (HasReturned results) (At code) m m' same alike = absurd alike
  ends_alike p q (HasReturned results) (HasTrapped reason) m m' same alike = absurd alike
  ends_alike p q (HasReturned results) IsStuck m m' same alike = absurd alike
  ends_alike p q (HasTrapped reason) (At code) m m' same alike = absurd alike
  ends_alike p q (HasTrapped reason) (HasReturned results) m m' same alike = absurd alike
  ends_alike p q (HasTrapped reason) IsStuck m m' same alike = absurd alike
  ends_alike p q IsStuck (At code) m m' same alike = absurd alike
  ends_alike p q IsStuck (HasReturned results) m m' same alike = absurd alike
  ends_alike p q IsStuck (HasTrapped reason) m m' same alike = absurd alike

  shows : (p q : FunctionState) → Agree p q → function_shown left p ≡ function_shown right q
  shows p q alike =
      λ i. record {
        events = sym alike.seen.events i;
        ending = ends_alike p q p.control q.control (shown_memory (in_spill_slots s world) p.memory) (shown_memory (in_spill_slots s world) q.memory)
            (sym (shown_alike (in_spill_slots s world) q.memory p.memory alike.seen.memory)) alike.control i;
      }

  module _ (c : Setting counts members s world) where
    -- some steps match a step
    abbrev Stepped : FunctionState → FunctionState → Type 0
    Stepped p q =
        (k : ℕ) × (q' : FunctionState) × (steps_from (function_machine right) k q ≡ q') × Agree (function_step left p) q'
        × ShowsOnlyEnds (function_machine right) k q × (0 < k) × ((j : ℕ) → j < k → HoldsNext counts members s world p (steps_from (function_machine right) j q))

    -- of one step
    at_first_alone : (p q : FunctionState) → HoldsNext counts members s world p q
        → (j : ℕ) → j < 1 → HoldsNext counts members s world p (steps_from (function_machine right) j q)
    at_first_alone p q holds zero few = holds
    at_first_alone p q holds (suc j) few = absurd (omega (arith, few))

    -- on the way from the step's begin
    abbrev OnTheWay : FunctionState → FunctionState → FunctionState → Type 0
    OnTheWay p q x = Between (HoldsNext counts members s world p) q.events (function_step left p) x

    -- of a state that stays
    still : (p q : FunctionState) → function_step left p ≡ p → function_step right q ≡ q → Agree p q → HoldsNext counts members s world p q → Stepped p q
    still p q left_stays right_stays alike holds = (
      1,
      q,
      right_stays,
      subst (λ (x : FunctionState). Agree x q) (sym left_stays) alike,
      quiet_step right (λ x. Unit {0}) q,
      omega arith,
      at_first_alone p q holds,
    )

    last_or_before : (j k : ℕ) → j ≤ k → (j ≡ k) ⊎ (j < k)
    last_or_before j k few = grind arith

    placed_step : (p q : FunctionState) (old : Placed) (olds code : List Placed)
        → Agree (record p { control = At (old ∷ olds) }) (record q { control = At code })
        → IsInOrder left (record p { control = At (old ∷ olds) }) old → ((v : ℕ) → members v ≡ true → IsValue (s.before.value_type v) (p.values v))
        → Stepped (record p { control = At (old ∷ olds) }) (record q { control = At code })
    placed_step p q old olds code alike in_order fits = (
      suc on.0,
      q',
      reaches,
      next.2,
      λ j few. by j (last_or_before j (suc on.0) few),
      omega arith,
      λ j few. let is = walk_states right (OnTheWay p0 q0) (suc on.0) q0 next.0 on.1 j few in is.holds,
    )
      where
        p0 : FunctionState
        p0 = record p { control = At (old ∷ olds) }

        q0 : FunctionState
        q0 = record q { control = At code }

        next : (q' : FunctionState) × PassesOn right (OnTheWay (record p { control = At (old ∷ olds) }) (record q { control = At code })) (record q { control = At code }) q'
            × Agree (function_step left (record p { control = At (old ∷ olds) })) q'
        next =
            matched counts members s world c alike.control.0 alike.control.1 old olds code (record p { control = At (old ∷ olds) }) (record q { control = At code })
            alike.seen refl alike.control.2 in_order fits

        q' : FunctionState
        q' = next.0

        on : (k : ℕ) × Walks right (OnTheWay (record p { control = At (old ∷ olds) }) (record q { control = At code })) (suc k) (record q { control = At code }) next.0
        on = next.1

        reaches : steps_from (function_machine right) (suc on.0) (record q { control = At code }) ≡ next.0
        reaches = walk_end right (OnTheWay (record p { control = At (old ∷ olds) }) (record q { control = At code })) (suc on.0) (record q { control = At code }) next.0 on.1

        Shows : FunctionState → Type 0
        Shows x =
            (function_shown right x ≡ function_shown right (record q { control = At code }))
            ⊎ (function_shown right x ≡ function_shown right (steps_from (function_machine right) (suc on.0) (record q { control = At code })))

        between : (x : FunctionState) → OnTheWay (record p { control = At (old ∷ olds) }) (record q { control = At code }) x → Shows x
        between x is = which is.shows
          where
            which : (x.events ≡ q.events) ⊎ ((x.events ≡ (function_step left (record p { control = At (old ∷ olds) })).events) × IsAt (function_step left (record p { control = At (old ∷ olds) })).control) → Shows x
            which (inl before) = inl (shown_at right x (record q { control = At code }) is.at tt before)
            which (inr after) =
                inr (shown_at right x next.0 is.at
                (at_alike (function_step left (record p { control = At (old ∷ olds) })) next.0 (function_step left (record p { control = At (old ∷ olds) })).control next.0.control next.2.control after.1)
                (after.0 ∙ sym next.2.seen.events)
                ∙ ap (function_shown right) (sym reaches))

        by : (j : ℕ) → (j ≡ suc on.0) ⊎ (j < suc on.0) → Shows (steps_from (function_machine right) j (record q { control = At code }))
        by j (inl end) = inr (ap (λ (n : ℕ). function_shown right (steps_from (function_machine right) n (record q { control = At code }))) end)
        by j (inr inside) =
            between (steps_from (function_machine right) j (record q { control = At code }))
            (walk_states right (OnTheWay (record p { control = At (old ∷ olds) }) (record q { control = At code })) (suc on.0) (record q { control = At code }) next.0 on.1 j inside)

    stepped : (p q : FunctionState) (d d' : Control Placed) → Agree (record p { control = d }) (record q { control = d' })
        → OfNextPlaced (IsInOrder left (record p { control = d })) d → ((v : ℕ) → members v ≡ true → IsValue (s.before.value_type v) (p.values v))
        → Stepped (record p { control = d }) (record q { control = d' })
    stepped p q (At []) (At code) alike in_order fits =
        subst (λ (xs : List Placed). Stepped (record p { control = At [] }) (record q { control = At xs })) (sym alike.control) (
          1,
          record q { control = IsStuck },
          refl,
          record { seen = record { events = alike.seen.events; memory = alike.seen.memory }; control = tt },
          quiet_step right (λ x. Unit {0}) (record q { control = At [] }),
          omega arith,
          at_first_alone (record p { control = At [] }) (record q { control = At [] }) tt,
        )
    stepped p q (At (old ∷ olds)) (At code) alike in_order fits = placed_step p q old olds code alike in_order fits
    stepped p q (HasReturned results) (HasReturned others) alike in_order fits = still (record p { control = HasReturned results }) (record q { control = HasReturned others }) refl refl alike tt
    stepped p q (HasTrapped reason) (HasTrapped other) alike in_order fits = still (record p { control = HasTrapped reason }) (record q { control = HasTrapped other }) refl refl alike tt
    stepped p q IsStuck IsStuck alike in_order fits = still (record p { control = IsStuck }) (record q { control = IsStuck }) refl refl alike tt
    stepped p q (At []) (HasReturned results) alike in_order fits = absurd alike.control
    stepped p q (At []) (HasTrapped reason) alike in_order fits = absurd alike.control
    stepped p q (At []) IsStuck alike in_order fits = absurd alike.control
    stepped p q (At (old ∷ olds)) (HasReturned results) alike in_order fits = absurd alike.control
    stepped p q (At (old ∷ olds)) (HasTrapped reason) alike in_order fits = absurd alike.control
    stepped p q (At (old ∷ olds)) IsStuck alike in_order fits = absurd alike.control
    stepped p q (HasReturned results) (At code) alike in_order fits = absurd alike.control
    stepped p q (HasReturned results) (HasTrapped reason) alike in_order fits = absurd alike.control
    stepped p q (HasReturned results) IsStuck alike in_order fits = absurd alike.control
    stepped p q (HasTrapped reason) (At code) alike in_order fits = absurd alike.control
    stepped p q (HasTrapped reason) (HasReturned results) alike in_order fits = absurd alike.control
    stepped p q (HasTrapped reason) IsStuck alike in_order fits = absurd alike.control
    stepped p q IsStuck (At code) alike in_order fits = absurd alike.control
    stepped p q IsStuck (HasReturned results) alike in_order fits = absurd alike.control
    stepped p q IsStuck (HasTrapped reason) alike in_order fits = absurd alike.control

    -- THE START ---------------------------------------------------------------------------------------------------------

    -- it is before no call
    abbrev IsQuiet : FunctionState → Type 0
    IsQuiet x = OfNextPlaced (λ placed. call_shape placed.instruction.operation ≡ None) x.control

    quiet_code : (code : List Placed) → BeginsQuietly code → OfNextPlaced (λ placed. call_shape placed.instruction.operation ≡ None) (At code)
    quiet_code [] quiet = tt
    quiet_code (placed ∷ rest) quiet = quiet

    abbrev AtStart : Option ℕ → FunctionState → Type 0
    AtStart entry x = Between IsQuiet [] (start_at left entry) x × IsAt (start_at left entry).control

    abbrev Started : Option ℕ → Type 0
    Started entry = Arrives counts members s world c (AtStart entry) (start_at left entry) (start_at right entry)

    starting : (entry : Option ℕ) → s.before.entry ≡ entry → Started entry
    starting None is = (
      start_at right None,
      (0, refl),
      record { seen = record { events = refl; memory = λ a h. refl }; control = tt },
    )
    starting (Some entry) is =
        entered counts members s world c (AtStart (Some entry)) [] (λ values memory code quiet. (record { at = tt; shows = inl refl; holds = quiet_code code quiet }, tt))
        entry reached (blank_state left) (blank_state right) (record { events = refl; memory = λ a h. refl }) refl world.arguments world.arguments
        (λ v low live h. refl)
        (λ v low live none. absurd (none (entry_is_live counts s.before c.may.well_placed v (place_at entry 0)
        (is, (refl, front_filled counts s.before entry v live)) live)))
      where
        reached : IsReached s.before entry
        reached = inl is

    begun : Started s.before.entry
    begun = starting s.before.entry refl

    -- THE SIMULATION ----------------------------------------------------------------------------------------------------

    module _ (met : IsMetBy members s world) where
      pub record Related (p q : FunctionState) : Type 0 where
        pub steps : ℕ
        pub is : p ≡ state_after (function_machine left) steps
        pub alike : Agree p q

      matched_by : (p q : FunctionState) → Related p q → Stepped p q
      matched_by p q related =
          stepped p q p.control q.control related.alike
          (subst (λ (x : FunctionState). OfNextPlaced (IsInOrder left x) x.control) (sym related.is) (met.in_order related.steps))
          (subst (λ (x : FunctionState). (v : ℕ) → members v ≡ true → IsValue (s.before.value_type v) (x.values v)) (sym related.is) (met.fits related.steps))

      follows : (p q : FunctionState) (related : Related p q)
          → Related (function_step left p) (steps_from (function_machine right) (matched_by p q related).0 q)
      follows p q related = record {
        steps = suc related.steps;
        is = ap (function_step left) related.is;
        alike = let there = matched_by p q related in subst (λ (x : FunctionState). Agree (function_step left p) x) (sym there.2) there.3;
      }

      step : (p q : FunctionState) → Related p q → Matched (function_machine left) (function_machine right) Related (λ x. 0) p q
      step p q related =
          let there = matched_by p q related in
          record { steps = there.0; related = follows p q related; quiet = there.4; gets_on = inl there.5 }

      right_start : start_at right s.after.entry ≡ start_at right s.before.entry
      right_start = ap (start_at right) c.spills.text.entry

      -- the first steps of the run with stores and reloads
      walk : Passes right (AtStart s.before.entry) (start_at right s.after.entry) begun.0
      walk = subst (λ (x : FunctionState). Passes right (AtStart s.before.entry) x begun.0) (sym right_start) begun.1

      reached_there : state_after (function_machine right) walk.0 ≡ begun.0
      reached_there =
          sym (from_start right (AtStart s.before.entry) walk.0)
          ∙ walk_end right (AtStart s.before.entry) walk.0 (start_at right s.after.entry) begun.0 walk.1

      no_events : (entry : Option ℕ) → (start_at left entry).events ≡ []
      no_events None = refl
      no_events (Some entry) = refl

      at_first : (j : ℕ) → j ≤ walk.0 → observed (function_machine right) j ≡ observed (function_machine left) 0
      at_first j few = by (last_or_before j walk.0 few)
        where
          same_end : observed (function_machine right) walk.0 ≡ observed (function_machine left) 0
          same_end = ap (function_shown right) reached_there ∙ sym (shows (start_at left s.before.entry) begun.0 begun.2)

          between : (x : FunctionState) → AtStart s.before.entry x → function_shown right x ≡ function_shown left (start_at left s.before.entry)
          between x is = shown_at right x (start_at left s.before.entry) is.0.at is.1 (which is.0.shows)
            where
              which : (x.events ≡ []) ⊎ ((x.events ≡ (start_at left s.before.entry).events) × IsAt (start_at left s.before.entry).control) → x.events ≡ (start_at left s.before.entry).events
              which (inl nothing) = nothing ∙ sym (no_events s.before.entry)
              which (inr after) = after.0

          by : (j ≡ walk.0) ⊎ (j < walk.0) → observed (function_machine right) j ≡ observed (function_machine left) 0
          by (inl end) = ap (λ (n : ℕ). observed (function_machine right) n) end ∙ same_end
          by (inr inside) =
              between (state_after (function_machine right) j)
              (subst (AtStart s.before.entry) (from_start right (AtStart s.before.entry) j)
              (walk_states right (AtStart s.before.entry) walk.0 (start_at right s.after.entry) begun.0 walk.1 j inside))

      starts_related : Related (start_at left s.before.entry) (state_after (function_machine right) walk.0)
      starts_related =
          record { steps = 0; is = refl; alike = subst (λ (x : FunctionState). Agree (start_at left s.before.entry) x) (sym reached_there) begun.2 }

      simulates : Simulates (function_machine left) (function_machine right) Related (λ x. 0)
      simulates = record {
        ahead = walk.0;
        at_first = at_first;
        starts = starts_related;
        shows = λ p q related. shows p q related.alike;
        step = step;
      }

      pub same : SameMeaning (observed (function_machine left)) (observed (function_machine right))
      same = Stuttering.same_meaning (function_machine left) (function_machine right) Related (λ x. 0) simulates

      -- WHAT SLOTS HOLD -------------------------------------------------------------------------------------------------

      -- After this many steps the run after is on the way from a state that a state of the run before is related to, to the next one.
      record Covered (n : ℕ) : Type 0 where
        moment : ℕ
        from : ℕ
        related : Related (state_after (function_machine left) moment) (state_after (function_machine right) from)
        begun_by : from ≤ n
        ends : n < from + (matched_by (state_after (function_machine left) moment) (state_after (function_machine right) from) related).0

      order : (j k : ℕ) → (j < k) ⊎ (k ≤ j)
      order j k = grind arith

      covered : (j : ℕ) → Covered (walk.0 + j)
      covered zero = record {
        moment = 0;
        from = walk.0;
        related = starts_related;
        begun_by = omega arith;
        ends = let some = (matched_by left_start (state_after (function_machine right) walk.0) starts_related).5 in omega (arith, some);
      }
        where
          left_start : FunctionState
          left_start = start_at left s.before.entry
      covered (suc j) = next (covered j)
        where
          next : Covered (walk.0 + j) → Covered (walk.0 + suc j)
          next c = by (order (walk.0 + suc j) (c.from + k))
            where
              p : FunctionState
              p = state_after (function_machine left) c.moment

              q : FunctionState
              q = state_after (function_machine right) c.from

              k : ℕ
              k = (matched_by p q c.related).0

              then : Related (state_after (function_machine left) (suc c.moment)) (state_after (function_machine right) (c.from + k))
              then =
                  subst (λ (x : FunctionState). Related (state_after (function_machine left) (suc c.moment)) x)
                  (state_after-+ (function_machine right) c.from k) (follows p q c.related)

              by : (walk.0 + suc j < c.from + k) ⊎ (c.from + k ≤ walk.0 + suc j) → Covered (walk.0 + suc j)
              by (inl inside) = record { moment = c.moment; from = c.from; related = c.related; begun_by = let b = c.begun_by in omega (arith, b); ends = inside }
              by (inr past) = record {
                moment = suc c.moment;
                from = c.from + k;
                related = then;
                begun_by = past;
                ends =
                    let some = (matched_by (state_after (function_machine left) (suc c.moment)) (state_after (function_machine right) (c.from + k)) then).5 in
                    let b = c.ends in omega (arith, some, b);
              }

      holds_there : (n : ℕ) → Covered n → (m : ℕ) × HoldsNext counts members s world (state_after (function_machine left) m) (state_after (function_machine right) n)
      holds_there n c = (
        c.moment,
        subst (λ (i : ℕ). HoldsNext counts members s world p (state_after (function_machine right) i)) whole
            (subst (λ (x : FunctionState). HoldsNext counts members s world p x) (state_after-+ (function_machine right) c.from (n - c.from))
            (there.6 (n - c.from) (let b = c.begun_by in let e = c.ends in omega (arith, b, e)))),
      )
        where
          p : FunctionState
          p = state_after (function_machine left) c.moment

          there : Stepped p (state_after (function_machine right) c.from)
          there = matched_by p (state_after (function_machine right) c.from) c.related

          whole : c.from + (n - c.from) ≡ n
          whole = let b = c.begun_by in omega (arith, b)

      pub contents : (n : ℕ) (new : Placed) (rest : List Placed) (call : CallShape)
          → (state_after (function_machine right) n).control ≡ At (new ∷ rest) → call_shape new.instruction.operation ≡ Some call
          → (m : ℕ) × HoldsAtCall counts members s world new (state_after (function_machine left) m) (state_after (function_machine right) n)
      contents n new rest call at is = by (order n walk.0)
        where
          q : FunctionState
          q = state_after (function_machine right) n

          no_call : {X : Type 0} → ◌≡◌ {A = Option CallShape} None (Some call) → X
          no_call e = cc

          by : (n < walk.0) ⊎ (walk.0 ≤ n) → (m : ℕ) × HoldsAtCall counts members s world new (state_after (function_machine left) m) (state_after (function_machine right) n)
          by (inl before) =
              let first : AtStart s.before.entry (state_after (function_machine right) n) =
              subst (AtStart s.before.entry) (from_start right (AtStart s.before.entry) n)
              (walk_states right (AtStart s.before.entry) walk.0 (start_at right s.after.entry) begun.0 walk.1 n before) in
              no_call (sym (subst (λ (d : Control Placed). OfNextPlaced (λ placed. call_shape placed.instruction.operation ≡ None) d) at first.0.holds) ∙ is)
          by (inr after) =
              let whole : walk.0 + (n - walk.0) ≡ n = omega (arith, after) in
              let found = holds_there n (subst Covered whole (covered (n - walk.0))) in (
                found.0,
                subst (λ (d : Control Placed). OfNextPlaced (λ new. (call : CallShape) → call_shape new.instruction.operation ≡ Some call
                    → HoldsAtCall counts members s world new (state_after (function_machine left) found.0) (state_after (function_machine right) n)) d) at found.1 call is,
              )

abbrev the_setting : (counts : ℕ → ℕ → Bool) (members : ℕ → Bool) (s : Spilling) (world : World) → IsSpilling counts s members → MaySpill counts members s
    → IsMetBy members s world → Setting counts members s world
the_setting counts members s world spills may met = record { spills = spills; may = may; pointers = met.pointers; places = met.places }

pub means_the_same : SpillingMeansTheSame
means_the_same counts members s world spills may met = same counts members s world (the_setting counts members s world spills may met) met

pub slot_contents : SlotContents
slot_contents counts members s world spills may met = contents counts members s world (the_setting counts members s world spills may met) met
