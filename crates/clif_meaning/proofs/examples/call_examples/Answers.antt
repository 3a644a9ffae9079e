use Rattle.std.proofs.Common.{◌≡◌, ◌==◌, ℕ, Bool, true, false, refl, sym, ◌∙◌, ap, List, [], ◌∷◌}
use Rattle.std.proofs.Math.Path.{fun_ext}
use Rattle.std.proofs.lemmas.Bool.{eqb-true}
use Rattle.clif_meaning.specs.Memory.{Memory}
use Rattle.clif_meaning.specs.Event.{Event}
use Rattle.clif_meaning.specs.Store.{shown_memory}
use Rattle.clif_meaning.specs.CallExamples.{slot_bytes, sample_callee, sample_script_state, sample_function_state}
use Rattle.clif_meaning.proofs.SampleWorld.{sample_world}
use Rattle.clif_meaning.proofs.examples.call_examples.Goals as goal

-- outside the slot both memories hold 7
same_byte : (address : ℕ) → shown_memory slot_bytes sample_script_state.memory address ≡ shown_memory slot_bytes sample_function_state.memory address
same_byte address = by (slot_bytes address) refl (address == 1000) refl
  where
    by : (in_slot : Bool) → slot_bytes address ≡ in_slot → (first : Bool) → (address == 1000) ≡ first
        → shown_memory slot_bytes sample_script_state.memory address ≡ shown_memory slot_bytes sample_function_state.memory address
    by true inside first is_first = rw inside refl
    by false outside false other = rw (outside, other) refl
    by false outside true is_first =
        let impossible : true ≡ false = ap slot_bytes (sym (eqb-true address 1000 is_first)) ∙ outside in
        cc

-- an event with this memory
seen : Memory → List Event
seen memory = record { callee = sample_callee; arguments = 64 ∷ []; memory = memory } ∷ []

pub returns : goal.returns
unfolding seen
returns c = (
  sample_world,
  record {
    marked = refl;
    unmarked = refl;
    tracked = refl;
    untracked = refl;
    one_event = refl;
    slot_unseen = refl;
    rest_seen = refl;
    left = refl;
    normal = refl;
    result = refl;
    raised = refl;
    library_unseen = refl;
    library_unmoved = refl;
    library_result = refl;
    library_memory = refl;
    slot_moves = refl;
    value_stays = refl;
    member_moves = refl;
    alias_stays = refl;
    other_stays = refl;
    slot_stays = refl;
    same_events = ap seen (fun_ext same_byte);
  },
)
