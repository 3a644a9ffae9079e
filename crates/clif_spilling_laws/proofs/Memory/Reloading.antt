-- A list of reloads runs: each copy holds what was in the slot, and the other values and memory stay.
use Rattle.std.proofs.Common.{◌≡◌, ◌⊎◌, ◌<◌, inl, inr, ℕ, true, List, [], ◌∷◌, refl, sym, subst, ◌∙◌, arith}
use Rattle.std.specs.Prelude.{Contains}
use Rattle.clif_types.specs.Types.{bits_of}
use Rattle.clif_meaning.specs.Bits.{Bits}
use Rattle.clif_meaning.specs.Event.{Event}
use Rattle.clif_meaning.specs.FunctionMachine.{FunctionRun, FunctionState, same_value}
use Rattle.clif_meaning.specs.FunctionView.{Placed}
use Rattle.clif_meaning.specs.Machine.{At}
use Rattle.clif_meaning.specs.Memory.{Memory}
use Rattle.clif_meaning.specs.Store.{assigned}
use Rattle.clif_meaning.specs.World.{World, PlacesSlots}
use Rattle.clif_spilling_laws.specs.Accesses.{loaded, reloaded, state_of}
use Rattle.clif_spilling_laws.specs.Live.{IsSlotOf}
use Rattle.clif_spilling_laws.specs.Runs.{after_run}
use Rattle.clif_spilling_laws.specs.Spilling.{AreReloads, IsKeptBy, IsReload, Reload, Spilling, load_item, reload_items}
use Rattle.clif_spilling_laws.proofs.Memory.Accesses.{address_step, load_step}
use Rattle.clif_spilling_laws.proofs.Basics.Lists.{assigned_one, assigned_other, contains_cases, contains_first, contains_more, contains_none}
use Rattle.clif_spilling_laws.proofs.Basics.Passing.{BeginsQuietly, Passes, passes_nothing, passes_some, passes_step}

pub assigned_apart : (p : ℕ) (x : Bits) (old : ℕ → Bits) (v : ℕ) → (v ≡ p → ⊥) → assigned same_value (p ∷ []) (x ∷ []) old v ≡ old v
assigned_apart p x old v apart = assigned_other (p ∷ []) (x ∷ []) old v (λ h. by (contains_cases p v [] h))
  where
    by : (p ≡ v) ⊎ Contains [] v → ⊥
    by (inl same) = apart (sym same)
    by (inr none) = contains_none v none

pub each_reload : (s : Spilling) (reloads : List Reload) (x : Reload) → AreReloads s reloads → Contains reloads x → IsReload s x
each_reload s [] x are h = absurd (contains_none x h)
each_reload s (y ∷ reloads) x are h = by (contains_cases y x reloads h) (λ more. each_reload s reloads x are.2 more)
  where
    by : (y ≡ x) ⊎ Contains reloads x → (Contains reloads x → IsReload s x) → IsReload s x
    by (inl same) later = subst (λ (z : Reload). IsReload s z) same are.0
    by (inr more) later = later more

-- an old value is overwritten by no reload
pub old_is_kept : (s : Spilling) (reloads : List Reload) (v : ℕ) → AreReloads s reloads → v < s.count → IsKeptBy reloads v
old_is_kept s reloads v are below y h =
    let is : IsReload s y = each_reload s reloads y are h in (
      λ same. absurd (omega (arith, same, below, is.copy.beyond)),
      λ same. absurd (omega (arith, same, below, is.address.beyond)),
    )

-- the values after some reloads
pub record AreReloaded (s : Spilling) (world : World) (reloads : List Reload) (values : ℕ → Bits) (memory : Memory) (new : ℕ → Bits) : Type 0 where
  pub copies : (x : Reload) → Contains reloads x → new x.copy ≡ loaded s world memory x.access.value
  pub others : (v : ℕ) → IsKeptBy reloads v → new v ≡ values v

module _ (s : Spilling) (world : World) (pointers : world.pointer_width ≡ bits_of s.pointer) (places : PlacesSlots world s.after.slots)
    (slots : (v : ℕ) → s.is_spilled v ≡ true → IsSlotOf s v) (P : FunctionState → Type 0) (memory : Memory) (events : List Event)
    (through : (values : ℕ → Bits) (code : List Placed) → BeginsQuietly code → P (state_of values memory events (At code))) where
  abbrev run : FunctionRun
  run = after_run s world

  abbrev at : (ℕ → Bits) → List Placed → FunctionState
  at values code = state_of values memory events (At code)

  pub reloads_run : (reloads : List Reload) (rest : List Placed) (values : ℕ → Bits) → AreReloads s reloads
      → (new : ℕ → Bits) × AreReloaded s world reloads values memory new × Passes run P (at values (reload_items s reloads rest)) (at new rest)
  reloads_run [] rest values are =
      (values, record { copies = λ x h. absurd (contains_none x h); others = λ v kept. refl }, passes_nothing run P (at values rest))
  reloads_run (x ∷ reloads) rest values are =
      let more = reloads_run reloads rest second are.2 in (more.0, facts more.0 more.1, walk more.0 more.2)
    where
      v : ℕ
      v = x.access.value

      has : IsSlotOf s x.access.value
      has = slots x.access.value are.0.spilled

      first : ℕ → Bits
      first = assigned same_value (x.access.address ∷ []) (world.slot_place (s.slot_of x.access.value) ∷ []) values

      second : ℕ → Bits
      second = reloaded s world memory x values

      facts : (new : ℕ → Bits) → AreReloaded s world reloads second memory new → AreReloaded s world (x ∷ reloads) values memory new
      facts new are_reloaded = record {
        copies = λ y h. by y (contains_cases x y reloads h);
        others = λ w kept.
            are_reloaded.others w (λ y h. kept y (contains_more x y reloads h))
            ∙ assigned_apart x.copy (loaded s world memory x.access.value) first w (let k = kept x (contains_first x reloads) in k.0)
            ∙ assigned_apart x.access.address (world.slot_place (s.slot_of x.access.value)) values w (let k = kept x (contains_first x reloads) in k.1);
      }
        where
          by : (y : Reload) → (x ≡ y) ⊎ Contains reloads y → new y.copy ≡ loaded s world memory y.access.value
          by y (inl same) =
              subst (λ (z : Reload). new z.copy ≡ loaded s world memory z.access.value) same
              (are_reloaded.others x.copy are.1 ∙ assigned_one x.copy (loaded s world memory x.access.value) first)
          by y (inr more) = are_reloaded.copies y more

      walk : (new : ℕ → Bits) → Passes run P (at second (reload_items s reloads rest)) (at new rest)
          → Passes run P (at values (reload_items s (x ∷ reloads) rest)) (at new rest)
      walk new more =
          let tail : List Placed = reload_items s reloads rest in
          passes_some run P (at values (reload_items s (x ∷ reloads) rest)) (at new rest)
          (passes_step run P (at values (reload_items s (x ∷ reloads) rest)) (at first (load_item s x ∷ tail)) (at new rest)
          (through values (reload_items s (x ∷ reloads) rest) refl)
          (address_step s world pointers places x.access (load_item s x ∷ tail) values memory events has)
          (passes_some run P (at first (load_item s x ∷ tail)) (at new rest)
          (passes_step run P (at first (load_item s x ∷ tail)) (at second tail) (at new rest)
          (through first (load_item s x ∷ tail) refl)
          (load_step s world pointers places x tail first memory events has are.0.address
          (assigned_one x.access.address (world.slot_place (s.slot_of x.access.value)) values))
          more)))
