-- In a world whose collector moves the parameter, the function of the worked example returns what its script returns, under a
-- collector over what is recorded; under one over nothing it doesn't.
use Rattle.std.proofs.Common.{◌≡◌, false, List, [], ◌∷◌, refl, sym, ◌∙◌, ap, arith}
use Rattle.clif_types.specs.declared.target.PointerWidth.TheVariants.{U64}
use Rattle.clif_ir.specs.Body.{follow}
use Rattle.clif_meaning.specs.Bits.{Bits}
use Rattle.clif_meaning.specs.Headline.{IsWorldOf, script_run}
use Rattle.clif_meaning.specs.Machine.{Observation}
use Rattle.clif_meaning.specs.Request.{script_of}
use Rattle.clif_meaning.specs.SameMeaning.{SameMeaning}
use Rattle.clif_meaning.specs.View.{view_of}
use Rattle.clif_meaning.specs.World.{World}
use Rattle.clif_meaning.proofs.Endings
use Rattle.clif_meaning.proofs.FirstPremises as no_memory
use Rattle.clif_meaning.proofs.SampleWorld
use Rattle.clif_meaning.proofs.WorkedExamples.{other_ends}
use Rattle.clif_simulation.specs.Marked.{MeansTheSameMoving}
use Rattle.clif_simulation.proofs.Tracking.Agreeing.{means_tracked}
use Rattle.clif_standing_laws.specs.MovingExamples.{MovesInBoth, moved_body, moved_calls, moved_signature, moved_state, recorded_values, returned_bits, shown_by_function, shown_by_script}
use Rattle.clif_standing_laws.proofs.Moved.MovedPremises
use Rattle.clif_standing_laws.proofs.Moved.MovedRow

-- it passes 64, and adds 16 to what moves
abbrev pub passing : World
passing = record SampleWorld.sample_world { arguments = 64 ∷ [] }

fits : IsWorldOf moved_signature (view_of moved_body) U64 passing
fits = record { arguments = (omega arith, tt); pointers = refl; slots = no_memory.no_slots passing }

moves : MovesInBoth passing
unfolding follow
moves = record { by_script = refl; by_function = refl; one_call = refl; forgotten = refl }

pub a_world : (world : World) × IsWorldOf moved_signature (view_of moved_body) U64 world × MovesInBoth world
a_world = (passing, fits, moves)

pub means_the_same : MeansTheSameMoving (script_of moved_calls) moved_signature U64 (view_of moved_body) recorded_values
means_the_same = means_tracked moved_calls moved_body moved_state U64 MovedRow.consistent MovedRow.carried MovedRow.finished MovedRow.marks

-- both runs end, with different bits
pub forgets : MeansTheSameMoving (script_of moved_calls) moved_signature U64 (view_of moved_body) (λ value. false) → ⊥
forgets means =
    let same : SameMeaning (shown_by_script passing) (shown_by_function passing (λ value. false)) =
    means (λ address. false) passing fits MovedPremises.premises MovedPremises.apart in
    let shown : shown_by_script passing 4 ≡ shown_by_function passing (λ value. false) 2 =
    other_ends (shown_by_script passing) (shown_by_function passing (λ value. false))
    (Endings.script_stays (record (script_run (script_of moved_calls) (view_of moved_body) passing) { hidden = λ address. false })) 4 2 tt tt same in
    differ (sym moves.by_script ∙ ap (λ (seen : Observation). returned_bits seen.ending) shown ∙ moves.forgotten)
  where
    differ : ◌≡◌ {A = List Bits} (80 ∷ []) (64 ∷ []) → ⊥
    differ same = cc
