-- Expanding means the same, and keeps what the premises ask of each step.
use Rattle.std.proofs.Common.{◌≡◌, ◌⊎◌, inl, inr, ◌≤◌, ℕ, zero, suc, Bool, true, false, List, [], ◌∷◌, refl, sym, ◌∙◌, ap, ap₂, subst, arith}
use Rattle.std.specs.List.{AllByRecursion, list_any}
use Rattle.std.proofs.Math.Path.{fun_ext}
use Rattle.std.proofs.lemmas.Bool.{or_cases}
use Rattle.clif_types.specs.declared.trapcode.TrapCode.{TrapCode}
use Rattle.clif_types.specs.declared.types.«Type».{«Type»}
use Rattle.clif_meaning.specs.Bits.{Bits}
use Rattle.clif_meaning.specs.Event.{Event}
use Rattle.clif_meaning.specs.Machine.{Control, At, HasReturned, HasTrapped, IsStuck, Ending, ending_of, observed, state_after}
use Rattle.clif_meaning.specs.Memory.{Memory, Range, lies_in}
use Rattle.clif_meaning.specs.Name.{Name}
use Rattle.clif_meaning.specs.Premises.{ClaimsAreTrue, InEachStep, OfNextItem, SparesRange, SparesSpillSlots}
use Rattle.clif_meaning.specs.Program.{Program, Item, Instruct, Use, Assign}
use Rattle.clif_meaning.specs.SameMeaning.{SameMeaning}
use Rattle.clif_meaning.specs.ScriptMachine.{ScriptRun, ScriptState, script_machine, script_shown, script_step}
use Rattle.clif_meaning.specs.Store.{shown_memory}
use Rattle.clif_meaning.specs.World.{World}
use Rattle.clif_meaning.proofs.Stuttering
use Rattle.clif_meaning.proofs.Stuttering.{Matched, ShowsOnlyEnds, Simulates, always, steps_from}
use Rattle.clif_typed_runs.proofs.HoldingBytes.{memory_holds_bytes}
use Rattle.clif_expansion.specs.Code.{NameTypes}
use Rattle.clif_expansion.specs.Expansion.{IsExpandedProgram, IsExpandedRun}
use Rattle.clif_expansion.specs.Laws.{ExpandingKeepsPremises, ExpandingMeansTheSame, IsSoundRun}
use Rattle.clif_expansion.specs.Line.{LiesWithin}
use Rattle.clif_expansion.specs.Reading.{Agree, IsOneToOne, Reading}
use Rattle.clif_expansion.proofs.Alike
use Rattle.clif_expansion.proofs.Alike.{IsAlike, IsSamePlace}
use Rattle.clif_expansion.proofs.Steps.{IsSafeItem, Passes, arrives, quiet}
use Rattle.clif_expansion.proofs.Turns
use Rattle.clif_expansion.proofs.Turns.{AsksTheSame, IsSoundAt, next_ranges}

-- WHAT IS SHOWN ---------------------------------------------------------------------------------------------------------

ends_alike : (width : ℕ) (reading : Reading) (types : NameTypes) (program : Program) (control' control : Control Item) (memory : Memory)
    → IsSamePlace width reading types program control' control → ending_of control memory ≡ ending_of control' memory
ends_alike width reading types program (At rest') (At rest) memory is = refl
ends_alike width reading types program (At rest') (HasReturned values) memory is = absurd is
ends_alike width reading types program (At rest') (HasTrapped reason) memory is = absurd is
ends_alike width reading types program (At rest') IsStuck memory is = absurd is
ends_alike width reading types program (HasReturned values') (At rest) memory is = absurd is
ends_alike width reading types program (HasReturned values') (HasReturned values) memory is = ap (λ (vs : List Bits). ending_of {Item = Item} (HasReturned vs) memory) (sym is)
ends_alike width reading types program (HasReturned values') (HasTrapped reason) memory is = absurd is
ends_alike width reading types program (HasReturned values') IsStuck memory is = absurd is
ends_alike width reading types program (HasTrapped reason') (At rest) memory is = absurd is
ends_alike width reading types program (HasTrapped reason') (HasReturned values) memory is = absurd is
ends_alike width reading types program (HasTrapped reason') (HasTrapped reason) memory is = ap (λ (trap : TrapCode). ending_of {Item = Item} (HasTrapped trap) memory) (sym is)
ends_alike width reading types program (HasTrapped reason') IsStuck memory is = absurd is
ends_alike width reading types program IsStuck (At rest) memory is = absurd is
ends_alike width reading types program IsStuck (HasReturned values) memory is = absurd is
ends_alike width reading types program IsStuck (HasTrapped reason) memory is = absurd is
ends_alike width reading types program IsStuck IsStuck memory is = refl

-- WHAT IS ASKED ---------------------------------------------------------------------------------------------------------

of_next : (P Q : Item → Type 0) → ((item : Item) → P item → Q item) → (control : Control Item) → OfNextItem P control → OfNextItem Q control
of_next P Q each (At []) holds = tt
of_next P Q each (At (item ∷ rest)) holds = each item holds
of_next P Q each (HasReturned values) holds = tt
of_next P Q each (HasTrapped reason) holds = tt
of_next P Q each IsStuck holds = tt

-- where ranges spare spill slots, an address in one of them does
spared : (hidden : ℕ → Bool) (ranges : List Range) (address : ℕ) → AllByRecursion (SparesRange hidden) ranges
    → list_any (λ range. lies_in range address) ranges ≡ true → hidden address ≡ false
spared hidden [] address all here = cc
spared hidden (range ∷ ranges) address all here =
    by (or_cases (lies_in range address) (list_any (λ other. lies_in other address) ranges) here) (spared hidden ranges address all.1)
  where
    by : ((lies_in range address ≡ true) ⊎ (list_any (λ other. lies_in other address) ranges ≡ true))
        → (list_any (λ other. lies_in other address) ranges ≡ true → hidden address ≡ false) → hidden address ≡ false
    by (inl first) later = all.0 address first
    by (inr further) later = later further

-- and so does a range that lies within them
spared_within : (hidden : ℕ → Bool) (ranges within : List Range) → AllByRecursion (SparesRange hidden) ranges → AllByRecursion (LiesWithin ranges) within
    → AllByRecursion (SparesRange hidden) within
spared_within hidden ranges [] all lies = tt
spared_within hidden ranges (range ∷ within) all lies =
    (λ address here. spared hidden ranges address all (lies.0 address here), spared_within hidden ranges within all lies.1)

safe_claims : (run : ScriptRun) (ranges : List Range) (state : ScriptState) (item : Item) → IsSafeItem run ranges state item → ClaimsAreTrue run state item
safe_claims run ranges state (Instruct place instruction results) safe = safe.claims
safe_claims run ranges state (Use variable name) safe = tt
safe_claims run ranges state (Assign variable name) safe = tt

safe_spares : (run : ScriptRun) (ranges : List Range) → AllByRecursion (SparesRange run.hidden) ranges → (state : ScriptState) (item : Item)
    → IsSafeItem run ranges state item → SparesSpillSlots run state item
safe_spares run ranges all state (Instruct place instruction results) safe = spared_within run.hidden ranges _ all safe.within
safe_spares run ranges all state (Use variable name) safe = tt
safe_spares run ranges all state (Assign variable name) safe = tt

-- the next item's ranges spare spill slots
ranges_spared : (run : ScriptRun) (state : ScriptState) (control : Control Item) → OfNextItem (SparesSpillSlots run state) control
    → AllByRecursion (SparesRange run.hidden) (next_ranges run state control)
ranges_spared run state (At []) spares = tt
ranges_spared run state (At (Instruct place instruction results ∷ rest)) spares = spares
ranges_spared run state (At (Use variable name ∷ rest)) spares = tt
ranges_spared run state (At (Assign variable name ∷ rest)) spares = tt
ranges_spared run state (HasReturned values) spares = tt
ranges_spared run state (HasTrapped reason) spares = tt
ranges_spared run state IsStuck spares = tt

-- THE RUNS --------------------------------------------------------------------------------------------------------------

module _ (reading : Reading) (one_to_one : IsOneToOne reading) (world : World) (hidden : ℕ → Bool) (variable_type : ℕ → «Type») (is_marked : ℕ → Bool)
    (program' program : Program) (type' type : Name → «Type») (tracked' tracked : Name → Bool)
    (expanded : IsExpandedProgram world.pointer_width reading (record { plain = type'; script = type }) program' program)
    (same_type : Agree reading type' type) (same_tracked : Agree reading tracked' tracked) where
  abbrev run : ScriptRun
  run = Alike.run reading one_to_one world hidden variable_type is_marked program' program type' type tracked' tracked expanded same_type same_tracked

  abbrev run' : ScriptRun
  run' = Alike.run' reading one_to_one world hidden variable_type is_marked program' program type' type tracked' tracked expanded same_type same_tracked

  abbrev IsLike : ScriptState → ScriptState → Type 0
  IsLike t s = IsAlike world.pointer_width reading (record { plain = type'; script = type }) program' t s

  abbrev Turn : ScriptState → ScriptState → Type 0
  Turn t s = Turns.Turn reading one_to_one world hidden variable_type is_marked program' program type' type tracked' tracked expanded same_type same_tracked t s

  starts : IsLike (script_machine run').start (script_machine run).start
  starts = Alike.starts reading one_to_one world hidden variable_type is_marked program' program type' type tracked' tracked expanded same_type same_tracked

  shown_alike : (t s : ScriptState) → IsLike t s → script_shown run s ≡ script_shown run' t
  shown_alike t s alike =
      ap₂ (λ (events : List Event) (memory : Memory). record { events = events; ending = ending_of s.control (shown_memory hidden memory) }) (sym alike.agrees.events) (sym alike.agrees.memory)
      ∙ ap (λ (ending : Ending). record { events = t.events; ending = ending })
      (ends_alike world.pointer_width reading (record { plain = type'; script = type }) program' t.control s.control (shown_memory hidden t.memory) alike.place)

  module _ (sound : IsSoundRun run) where
    -- the state after so many steps of the script
    abbrev after : ℕ → ScriptState
    after n = state_after (script_machine run) n

    turns : (n : ℕ) (t : ScriptState) → IsLike t (after n) → Turn t (after n)
    turns n t alike =
        Turns.turn reading one_to_one world hidden variable_type is_marked program' program type' type tracked' tracked expanded same_type same_tracked
        t (after n) alike (record { typed = sound.takes_types n; values = sound.takes_values n; claims = sound.claims_true n; bytes = memory_holds_bytes run n })

    -- a state of the script's run, and a state that is alike
    abbrev Related : ScriptState → ScriptState → Type 0
    Related s t = (n : ℕ) × (after n ≡ s) × IsLike t s

    one_quiet : (t : ScriptState) → ShowsOnlyEnds (script_machine run') 1 t
    one_quiet t zero below = inl refl
    one_quiet t (suc zero) below = inr refl
    one_quiet t (suc (suc j)) below = absurd (omega (arith, below))

    matched : (n : ℕ) (t : ScriptState) → Turn t (after n) → Matched (script_machine run) (script_machine run') Related (λ s. 0) (after n) t
    matched n t (inl (next, same)) = record {
      steps = 1;
      related = (suc n, refl, next);
      quiet = one_quiet t;
      gets_on = inl (omega arith);
    }
    matched n t (inr (more, end, passes, next)) =
        let ranges = next_ranges run (after n) (after n).control in
        record {
          steps = suc more;
          related = subst (λ (u : ScriptState). Related (script_step run (after n)) u) (sym (arrives run' ranges (suc more) t end passes)) (suc n, refl, next);
          quiet = λ j below. inl (quiet run' ranges (suc more) t end passes j below);
          gets_on = inl (omega arith);
        }

    stepped : (s t : ScriptState) → Related s t → Matched (script_machine run) (script_machine run') Related (λ s. 0) s t
    stepped s t (n, is, alike) =
        subst (λ (u : ScriptState). Matched (script_machine run) (script_machine run') Related (λ s. 0) u t) is
        (matched n t (turns n t (subst (λ (u : ScriptState). IsLike t u) (sym is) alike)))

    at_first : (j : ℕ) → j ≤ 0 → observed (script_machine run') j ≡ observed (script_machine run) 0
    at_first zero below = sym (shown_alike (script_machine run').start (script_machine run).start starts)
    at_first (suc j) below = absurd (omega (arith, below))

    simulates : Simulates (script_machine run) (script_machine run') Related (λ s. 0)
    simulates = record {
      ahead = 0;
      at_first = at_first;
      starts = (0, refl, starts);
      shows = λ s t related. shown_alike t s related.2;
      step = stepped;
    }

    pub same_meaning : SameMeaning (observed (script_machine run)) (observed (script_machine run'))
    same_meaning = Stuttering.same_meaning (script_machine run) (script_machine run') Related (λ s. 0) simulates

    -- Where the plain run stands: with the script, or in the midst of what it does for the script's next item.
    abbrev Midst : ℕ → ScriptState → Type 0
    Midst n t = (more : ℕ) × (end : ScriptState) × Passes run' (next_ranges run (after n) (after n).control) (suc more) t end × IsLike end (after (suc n))

    abbrev Stands : ScriptState → Type 0
    Stands t = (n : ℕ) × (IsLike t (after n) ⊎ Midst n t)

    on_from_midst : (n : ℕ) (t : ScriptState) → Midst n t → Stands (script_step run' t)
    on_from_midst n t (zero, end, passes, alike) = (suc n, inl (subst (λ (u : ScriptState). IsLike u (after (suc n))) passes.2 alike))
    on_from_midst n t (suc more, end, passes, alike) = (n, inr (more, end, passes.2, alike))

    on_from_turn : (n : ℕ) (t : ScriptState) → Turn t (after n) → Stands (script_step run' t)
    on_from_turn n t (inl (next, same)) = (suc n, inl next)
    on_from_turn n t (inr midst) = on_from_midst n t midst

    goes_on : (t : ScriptState) → Stands t → Stands (script_step run' t)
    goes_on t (n, inl alike) = on_from_turn n t (turns n t alike)
    goes_on t (n, inr midst) = on_from_midst n t midst

    stands : (n : ℕ) → Stands (state_after (script_machine run') n)
    stands n = always (script_machine run') Stands (0, inl starts) goes_on n

    claims_at : (t : ScriptState) → Stands t → OfNextItem (ClaimsAreTrue run' t) t.control
    claims_at t (n, inl alike) = by (turns n t alike)
      where
        by : Turn t (after n) → OfNextItem (ClaimsAreTrue run' t) t.control
        by (inl (next, same)) = same.claims (sound.claims_true n)
        by (inr (more, end, passes, next)) = of_next _ _ (safe_claims run' (next_ranges run (after n) (after n).control) t) t.control passes.0
    claims_at t (n, inr (more, end, passes, alike)) = of_next _ _ (safe_claims run' (next_ranges run (after n) (after n).control) t) t.control passes.0

    pub claims_true : InEachStep (ClaimsAreTrue run') run'
    claims_true n = claims_at (state_after (script_machine run') n) (stands n)

    module _ (spares : InEachStep (SparesSpillSlots run) run) where
      midst_spares : (n : ℕ) (t : ScriptState) → Midst n t → OfNextItem (SparesSpillSlots run' t) t.control
      midst_spares n t (more, end, passes, alike) =
          of_next _ _ (safe_spares run' (next_ranges run (after n) (after n).control) (ranges_spared run (after n) (after n).control (spares n)) t) t.control passes.0

      spares_at : (t : ScriptState) → Stands t → OfNextItem (SparesSpillSlots run' t) t.control
      spares_at t (n, inl alike) = by (turns n t alike)
        where
          by : Turn t (after n) → OfNextItem (SparesSpillSlots run' t) t.control
          by (inl (next, same)) = same.spares (spares n)
          by (inr midst) = midst_spares n t midst
      spares_at t (n, inr midst) = midst_spares n t midst

      pub slots_spared : InEachStep (SparesSpillSlots run') run'
      slots_spared n = spares_at (state_after (script_machine run') n) (stands n)

-- THE LAWS --------------------------------------------------------------------------------------------------------------

-- the plain run, with the variables, the spill slots and the world of the script's
abbrev with_world_of : ScriptRun → ScriptRun → ScriptRun
with_world_of plain script = record {
  program = plain.program;
  variable_type = script.variable_type;
  name_type = plain.name_type;
  is_marked = script.is_marked;
  is_tracked = plain.is_tracked;
  hidden = script.hidden;
  world = script.world;
}

same_world : (reading : Reading) (plain script : ScriptRun) → IsExpandedRun reading plain script → with_world_of plain script ≡ plain
same_world reading plain script is = sym (λ i. record {
  program = plain.program;
  variable_type = fun_ext is.variable_type i;
  name_type = plain.name_type;
  is_marked = fun_ext is.is_marked i;
  is_tracked = plain.is_tracked;
  hidden = fun_ext is.hidden i;
  world = is.world i;
})

pub expanding_means_the_same : ExpandingMeansTheSame
expanding_means_the_same reading plain script is sound =
    subst (λ (r : ScriptRun). SameMeaning (observed (script_machine script)) (observed (script_machine r))) (same_world reading plain script is)
    (same_meaning reading is.one_to_one script.world script.hidden script.variable_type script.is_marked plain.program script.program
    plain.name_type script.name_type plain.is_tracked script.is_tracked is.program is.name_type is.is_tracked sound)

pub expanding_keeps_premises : ExpandingKeepsPremises
expanding_keeps_premises = record {
  claims_true = λ reading plain script is sound.
      subst (λ (r : ScriptRun). InEachStep (ClaimsAreTrue r) r) (same_world reading plain script is)
      (claims_true reading is.one_to_one script.world script.hidden script.variable_type script.is_marked plain.program script.program
      plain.name_type script.name_type plain.is_tracked script.is_tracked is.program is.name_type is.is_tracked sound);
  spares_spill_slots = λ reading plain script is sound spares.
      subst (λ (r : ScriptRun). InEachStep (SparesSpillSlots r) r) (same_world reading plain script is)
      (slots_spared reading is.one_to_one script.world script.hidden script.variable_type script.is_marked plain.program script.program
      plain.name_type script.name_type plain.is_tracked script.is_tracked is.program is.name_type is.is_tracked sound spares);
}
