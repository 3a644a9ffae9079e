-- A function that returns something else than the script doesn't mean what the script means.
use Rattle.std.proofs.Common.{◌≡◌, ◌≢◌, ℕ, List, [], ◌∷◌, sym, ap, ◌∙◌}
use Rattle.clif_types.specs.declared.stackmap.UserStackMapEntry.{UserStackMapEntry}
use Rattle.clif_types.specs.declared.target.PointerWidth.TheVariants.{U64}
use Rattle.clif_meaning.specs.Bits.{Bits}
use Rattle.clif_meaning.specs.Headline.{MeansTheSame, function_behaviour, script_behaviour, script_run}
use Rattle.clif_meaning.specs.Machine.{Ending, IsEnd, NotYet, Observation, Returned, Stuck, Trapped}
use Rattle.clif_meaning.specs.SameMeaning.{Behaviour}
use Rattle.clif_meaning.specs.World.{World}
use Rattle.clif_meaning.proofs.Endings.{script_stays}
use Rattle.clif_meaning.proofs.SampleWorld.{sample_world}
use Rattle.clif_meaning.proofs.WorkedExamples.{other_ends}
use Rattle.clif_moving_examples.specs.Scripts.{Example, spilled}
use Rattle.clif_moving_examples.specs.Examples.{Course, IsRefused, ReturnsOther, returned_bits}

ended : (ending : Ending) (bits : Bits) → returned_bits ending ≡ bits ∷ [] → IsEnd ending
ended NotYet bits is = let no_way : ⊥ = cc in absurd no_way
ended (Returned results memory) bits is = tt
ended (Trapped reason memory) bits is = tt
ended Stuck bits is = tt

one_is : (left right : Bits) → ◌≡◌ {A = List Bits} (left ∷ []) (right ∷ []) → left ≡ right
one_is left right same = cc

module _ (e : Example) (course : Course) (slots : ℕ) (entries : List UserStackMapEntry) (bits : Bits) where
  refused : course.returned ≢ bits → (other world : World) → ReturnsOther e course slots entries bits other world
      → MeansTheSame e.script e.signature U64 (spilled e slots entries) → ⊥
  refused differs other world returns means =
      let left : Behaviour = script_behaviour e.script (spilled e slots entries) world in
      let right : Behaviour = function_behaviour e.script (spilled e slots entries) world in
      let shown : left course.script_steps ≡ right course.function_steps =
      other_ends left right (script_stays (script_run e.script (spilled e slots entries) world)) course.script_steps course.function_steps
      (ended _ course.returned returns.by_script) (ended _ bits returns.by_function) (means world returns.under.of_function returns.under.premises) in
      differs (one_is course.returned bits (sym returns.by_script ∙ ap (λ (seen : Observation). returned_bits seen.ending) shown ∙ returns.by_function))

  pub is_refused : course.returned ≢ bits → (world_of : World → World)
      → ((other : World) → ReturnsOther e course slots entries bits other (world_of other)) → IsRefused e course slots entries bits
  is_refused differs world_of returns = record {
    goes_so = λ other. (world_of other, returns other);
    differs = differs;
    refused = refused differs sample_world (world_of sample_world) (returns sample_world);
  }
