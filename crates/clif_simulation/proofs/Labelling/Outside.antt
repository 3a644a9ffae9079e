-- What an outside call does to both runs, whatever is marked and tracked and whatever the collector is: they show the same event,
-- memory is the same behind it, and each variable, name and value is moved by its type, or keeps its bits.
use Rattle.std.proofs.Common.{◌≡◌, ◌⊎◌, inl, inr, ℕ, List, [], ◌∷◌, refl, sym, ◌∙◌, ap, ap₂, arith}
use Rattle.std.proofs.lemmas.Bool.Decides.{nat_tests}
use Rattle.std.specs.Prelude.{Bool, true, false, ◌==◌, ◌&&◌, if◌then◌else◌}
use Rattle.clif_types.specs.declared.types.«Type».{«Type»}
use Rattle.clif_types.specs.declared.stackmap.UserStackMapEntry.{UserStackMapEntry}
use Rattle.clif_ir.specs.Body.{Body, resolved}
use Rattle.clif_meaning.specs.Bits.{Bits}
use Rattle.clif_meaning.specs.Event.{CallShape, Callee, Event}
use Rattle.clif_meaning.specs.Memory.{Memory}
use Rattle.clif_meaning.specs.Store.{memory_beside, shown_memory}
use Rattle.clif_meaning.specs.ScriptMachine as script
use Rattle.clif_meaning.specs.ScriptMachine.{ScriptRun, ScriptState}
use Rattle.clif_meaning.specs.FunctionMachine as machine
use Rattle.clif_meaning.specs.FunctionMachine.{Collector, ByMaps, OverSet, FunctionRun, FunctionState}
use Rattle.clif_meaning.specs.View.{view_of}
use Rattle.clif_meaning.specs.World.{World}

-- the values that a collector moves: of its set those that are no alias
abbrev pub collects : Body → Collector → ℕ → Bool
collects f ByMaps v = false
collects f (OverSet members) v = members v && (resolved f v == v)

-- a member that is no alias is collected
pub collects_itself : (f : Body) (members : ℕ → Bool) (v : ℕ) → resolved f v ≡ v → collects f (OverSet members) v ≡ members v
collects_itself f members v itself =
    let same : (resolved f v == v) ≡ true = grind (arith, nat_tests) in
    rw same (by (members v))
  where
    by : (test : Bool) → (test && true) ≡ test
    by true = refl
    by false = refl

-- the bits behind a call, where this tells whether they move
abbrev pub moved_if : Bool → Bits → Bits → Bits
moved_if test moved bits = if test then moved else bits

module _ (left_run : ScriptRun) (f : Body) (collector : Collector) where
  -- the function's run beside that of the script
  abbrev pub right_run : FunctionRun
  right_run = record { function = view_of f; collector = collector; hidden = left_run.hidden; world = left_run.world }

  slots_left : (other : Collector) (moved : «Type» → Bits → Bits) (memory : Memory) → machine.slots_after right_run moved [] other memory ≡ memory
  slots_left ByMaps moved memory = refl
  slots_left (OverSet members) moved memory = refl

  values_moved : (other : Collector) (moved : «Type» → Bits → Bits) (values : ℕ → Bits) (v : ℕ)
      → machine.values_after right_run moved other values v ≡ moved_if (collects f other v) (moved ((view_of f).value_type v) (values v)) (values v)
  values_moved ByMaps moved values v = refl
  values_moved (OverSet members) moved values v = refl

  module _ (p : ScriptState) (q : FunctionState) (same_memory : p.memory ≡ q.memory) (same_events : p.events ≡ q.events)
      (entries : List UserStackMapEntry) (no_map : entries ≡ []) (callee : Callee) (call : CallShape) (arguments : List Bits)
    where
      abbrev pub world : World
      world = left_run.world

      abbrev pub p' : ScriptState
      p' = script.call_outside left_run p callee call arguments

      abbrev pub q' : FunctionState
      q' = machine.call_outside right_run q entries callee call arguments

      pub events_are : p'.events ≡ q'.events
      events_are =
          ap₂ (λ (memory : Memory) (events : List Event).
          record { callee = callee; arguments = arguments; memory = shown_memory left_run.hidden memory } ∷ events) same_memory same_events

      pub memory_is : p'.memory ≡ q'.memory
      memory_is =
          ap₂ (λ (memory : Memory) (events : List Event). memory_beside left_run.hidden memory (world.memory_after events call)) same_memory events_are
          ∙ sym (ap (λ (memory : Memory). memory_beside left_run.hidden memory (world.memory_after q'.events call))
          (ap (λ (found : List UserStackMapEntry). machine.slots_after right_run (world.moved q'.events call) found collector q.memory) no_map
          ∙ slots_left collector (world.moved q'.events call) q.memory))

      pub value_is : (w : ℕ) → q'.values w ≡ moved_if (collects f collector w) (world.moved q'.events call ((view_of f).value_type w) (q.values w)) (q.values w)
      value_is w = values_moved collector (world.moved q'.events call) q.values w

      -- zero stays zero
      pub zero_moved : (events : List Event) (test : Bool) (ty : «Type») (bits : Bits) → bits ≡ 0 → moved_if test (world.moved events call ty bits) bits ≡ 0
      zero_moved events true ty bits is = ap (world.moved events call ty) is ∙ world.moved_zero events call ty
      zero_moved events false ty bits is = is

      -- and the same bits are moved alike, where the marks and the types are the same
      pub moved_alike : (one other : Bool) (ty uy : «Type») (a b : Bits) → a ≡ b → (a ≡ 0) ⊎ ((one ≡ other) × (ty ≡ uy))
          → moved_if one (world.moved p'.events call ty a) a ≡ moved_if other (world.moved q'.events call uy b) b
      moved_alike one other ty uy a b bits (inl none) = zero_moved p'.events one ty a none ∙ sym (zero_moved q'.events other uy b (sym bits ∙ none))
      moved_alike one other ty uy a b bits (inr same) =
          ap₂ (λ (events : List Event) (x : Bits). moved_if one (world.moved events call ty x) x) events_are bits
          ∙ ap₂ (λ (mark : Bool) (t : «Type»). moved_if mark (world.moved q'.events call t b) b) same.0 same.1
