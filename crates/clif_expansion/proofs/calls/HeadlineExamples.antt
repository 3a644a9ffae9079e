-- The worked examples of the theorem on calls.
use Rattle.std.proofs.Common.{◌≡◌, ◌<◌, ◌⊎◌, inl, inr, ℕ, zero, suc, Bool, true, false, List, [], ◌∷◌, ◌++◌, refl, sym, ◌∙◌, ap, subst, arith}
use Rattle.std.specs.Prelude.{Contains, pos, slice_get}
use Rattle.std.specs.List.{AllByRecursion}
use Rattle.clif_types.specs.declared.target.PointerWidth.{PointerWidth}
use Rattle.clif_types.specs.declared.target.PointerWidth.TheVariants.{U64}
use Rattle.clif_types.specs.Target.{pointer_type_of}
use Rattle.clif_meaning.specs.FunctionView.{FunctionView}
use Rattle.clif_meaning.specs.Machine.{Observation, Returned}
use Rattle.clif_meaning.specs.World.{World}
use Rattle.clif_meaning.proofs.Endings
use Rattle.clif_meaning.proofs.FirstPremises.{no_slots, shows_all}
use Rattle.clif_meaning.proofs.SampleWorld
use Rattle.clif_meaning.proofs.WorkedExamples.{other_ends}
use Rattle.clif_expansion.specs.Emission.{AreGiven}
use Rattle.clif_expansion.specs.CallsHeadline.{CallsMeanTheSame, CallsPremises, behaviour_beside_calls, behaviour_of_calls, in_spill_slot_beside, run_beside_calls, run_of_calls}
use Rattle.clif_meaning.specs.Examples.{first_function_with, first_signature, i32}
use Rattle.clif_meaning.specs.Headline.{MeansTheSame, pointer_bits}
use Rattle.clif_meaning.specs.BranchExamples.{block}
use Rattle.clif_meaning.specs.Acceptance.{iconst, return_}
use Rattle.clif_meaning.specs.Instruction.{Iconst}
use Rattle.clif_meaning.specs.Ledger.{ledger_after, or_invalid, type_of}
use Rattle.clif_meaning.specs.Name.{Name, answer_of, same_name}
use Rattle.clif_meaning.specs.Request.{Build, Script, SealBlock}
use Rattle.clif_meaning.specs.Path.{Place}
use Rattle.clif_meaning.specs.Premises.{EachItem}
use Rattle.clif_meaning.specs.Program.{Item, Program}
use Rattle.clif_meaning.specs.WellPlaced.{IsGivenAlong, IsGivenBefore, IsWellPlaced, item_gives, item_names, item_passes, item_targets, program_code}
use Rattle.clif_meaning.proofs.EachStep.{IsQuietItem, claims, spares}
use Rattle.clif_meaning.proofs.FirstRow.{first_of_one, one_of}
use Rattle.clif_meaning.proofs.StraightLine
use Rattle.clif_expansion.specs.Constants.{computing, i64}
use Rattle.clif_expansion.specs.HeadlineExamples.{HeadlineExamples, is_seven, is_wide_seven, returning_calls, returning_script}
use Rattle.clif_expansion.specs.JoinedCalls.{AreJoinedCalls, Asking, Emitting}
use Rattle.clif_expansion.specs.CallsRun.{calls_run}
use Rattle.clif_expansion.specs.PerformedCalls.{IsPerformed}
use Rattle.clif_expansion.specs.Reading.{Reading}
use Rattle.clif_expansion.specs.ScriptCall.{Ask, Emit, ScriptCall, ledger_of, program_of_calls}
use Rattle.clif_expansion.specs.ScriptCallExamples.{begun_calls, begun_script, summing_calls, summing_script}
use Rattle.clif_expansion.proofs.PerformedConstants.{constant_calls_are_performed}
use Rattle.clif_expansion.proofs.ScriptCalls
use Rattle.clif_expansion.proofs.calls.Headline.{calls_mean}
use Rattle.clif_expansion.proofs.calls.Premises.{agree}

abbrev first : Name
first = answer_of 0 0

abbrev program : Program
program = program_of_calls returning_calls

-- the items of its one block
abbrev items : List Item
items = program.items first

each_block : (P : Item → Type 0) → AllByRecursion P items → EachItem P program
each_block P each block = by (same_name block first) refl
  where
    by : (c : Bool) → same_name block first ≡ c → AllByRecursion P (program.items block)
    by true same = rw same each
    by false other = rw other tt

items_of : (block : Name) → (program.items block ≡ items) ⊎ (program.items block ≡ [])
items_of block = by (same_name block first) refl
  where
    by : (c : Bool) → same_name block first ≡ c → (program.items block ≡ items) ⊎ (program.items block ≡ [])
    by true same = inl (rw same refl)
    by false other = inr (rw other refl)

targets : (i : ℕ) → item_targets (slice_get items i) ≡ []
targets zero = refl
targets (suc zero) = refl
targets (suc (suc zero)) = refl
targets (suc (suc (suc i))) = refl

passes : (i : ℕ) → item_passes (slice_get items i) ≡ []
passes zero = refl
passes (suc zero) = refl
passes (suc (suc zero)) = refl
passes (suc (suc (suc i))) = refl

straight : (p : Place Name) → (program_code program).flow.targets p ≡ []
straight p = by (items_of p.block)
  where
    by : (program.items p.block ≡ items) ⊎ (program.items p.block ≡ []) → item_targets (slice_get (program.items p.block) p.index) ≡ []
    by (inl full) = ap (λ (list : List Item). item_targets (slice_get list p.index)) full ∙ targets p.index
    by (inr empty) = ap (λ (list : List Item). item_targets (slice_get list p.index)) empty

passes_nothing : (p : Place Name) → (program_code program).passes p ≡ []
passes_nothing p = by (items_of p.block)
  where
    by : (program.items p.block ≡ items) ⊎ (program.items p.block ≡ []) → item_passes (slice_get (program.items p.block) p.index) ≡ []
    by (inl full) = ap (λ (list : List Item). item_passes (slice_get list p.index)) full ∙ passes p.index
    by (inr empty) = ap (λ (list : List Item). item_passes (slice_get list p.index)) empty

-- the sum names the constant, and the return the sum, which the item before it gives
givers : (x : Name) (i : ℕ) → Contains (item_names (slice_get items i)) x → (j : ℕ) × (j < i) × Contains (item_gives (slice_get items j)) x
givers x zero names = absurd (StraightLine.nothing_contained x names)
givers x (suc zero) names = (0, omega arith, first_of_one (answer_of 2 1) x (one_of (answer_of 2 1) x names))
givers x (suc (suc zero)) names = (1, omega arith, first_of_one (answer_of 3 0) x (one_of (answer_of 3 0) x names))
givers x (suc (suc (suc i))) names = absurd (StraightLine.nothing_contained x names)

named : (q : Place Name) (x : Name) → Contains ((program_code program).names q) x → IsGivenBefore (program_code program) x q
named q x names path walk = inr (by (items_of q.block))
  where
    by : (program.items q.block ≡ items) ⊎ (program.items q.block ≡ []) → IsGivenAlong (program_code program) x path
    by (inl full) =
        let giver = givers x q.index (subst (λ (list : List Item). Contains (item_names (slice_get list q.index)) x) full names) in
        StraightLine.given_along (program_code program) straight path q giver.0 x walk giver.1
        (subst (λ (list : List Item). Contains (item_gives (slice_get list giver.0)) x) (sym full) giver.2)
    by (inr empty) =
        absurd (StraightLine.nothing_contained x (subst (λ (list : List Item). Contains (item_names (slice_get list q.index)) x) empty names))

well_placed : IsWellPlaced (program_code program)
well_placed = record {
  named = named;
  passed = λ q x passed. absurd (StraightLine.none_of _ x (passes_nothing q) passed);
}

quiet : EachItem IsQuietItem program
quiet = each_block IsQuietItem (tt, (tt, (tt, tt)))

met : (width : PointerWidth) (hidden : ℕ → Bool) (world : World) → CallsPremises returning_calls first_signature (pointer_type_of width) (calls_run returning_calls hidden world)
met width hidden world = record {
  targets_filled = each_block _ (tt, (tt, (tt, tt)));
  well_typed = record {
    items = each_block _ (
      record { made_at = refl; operands = tt; edges = tt },
      (record { made_at = refl; operands = (refl, tt); edges = tt }, (record { made_at = refl; operands = refl; edges = tt }, tt)),
    );
    entry = refl;
  };
  given_before = well_placed;
  tracked_apart = each_block _ (tt, (tt, (tt, tt)));
  spares_spill_slots = spares (calls_run returning_calls hidden world) quiet;
  claims_true = claims (calls_run returning_calls hidden world) quiet;
  libc_as_named = each_block _ (tt, (tt, (tt, tt)));
}

-- THE PLAIN CALLS ---------------------------------------------------------------------------------------------------------

abbrev summed : (reading : Reading) × AreJoinedCalls reading summing_script summing_calls
summed = (_, (constant_calls_are_performed.adds (pos 7)).joined ScriptCalls.begun.0 begun_script begun_calls i32 (answer_of 2 1) (answer_of 2 1) ScriptCalls.begun.1 refl)

abbrev returned : (reading : Reading) × AreJoinedCalls reading (summing_script ++ return_ (answer_of 4 1 ∷ []) ∷ []) (summing_calls ++ Ask (return_ (answer_of 3 0 ∷ [])) ∷ [])
returned = (
  _,
  Asking summed.0 summing_script summing_calls (return_ (answer_of 4 1 ∷ [])) (return_ (answer_of 3 0 ∷ [])) summed.1
      (refl, record { operation = refl; controlling = refl; operands = (refl, tt); contexts = tt; edges = tt }) (λ uses. refl),
)

abbrev joined : (reading : Reading) × AreJoinedCalls reading returning_script returning_calls
joined = (
  _,
  Asking returned.0 (summing_script ++ return_ (answer_of 4 1 ∷ []) ∷ []) (summing_calls ++ Ask (return_ (answer_of 3 0 ∷ [])) ∷ [])
      (SealBlock (block 0)) (SealBlock (block 0)) returned.1 refl (λ uses. refl),
)

means : (width : PointerWidth) (function : FunctionView) → MeansTheSame returning_script first_signature width function → CallsMeanTheSame returning_calls first_signature width function
means width function =
    calls_mean joined.0 returning_script returning_calls joined.1 first_signature width function
    ((constant_calls_are_performed.adds (pos 7)).performed (pointer_bits width) ScriptCalls.begun.0 begun_script begun_calls i32 (answer_of 2 1) (answer_of 2 1) ScriptCalls.begun.1 tt refl refl)
    (refl, (refl, (refl, (refl, (refl, (refl, tt))))))

-- TWELVE ------------------------------------------------------------------------------------------------------------------

abbrev returns : ℕ → FunctionView
returns number = first_function_with number

calls_before : (world : World) (n : ℕ) → n < 3 → behaviour_of_calls returning_calls (returns 12) world n ≡ behaviour_beside_calls returning_calls (returns 12) world 0
calls_before world zero h = refl
calls_before world (suc zero) h = refl
calls_before world (suc (suc zero)) h = refl
calls_before world (suc (suc (suc n))) h = absurd (omega (arith, h))

function_before : (world : World) (n : ℕ) → n < 4 → behaviour_beside_calls returning_calls (returns 12) world n ≡ behaviour_of_calls returning_calls (returns 12) world 0
function_before world zero h = refl
function_before world (suc zero) h = refl
function_before world (suc (suc zero)) h = refl
function_before world (suc (suc (suc zero))) h = refl
function_before world (suc (suc (suc (suc n)))) h = absurd (omega (arith, h))

twelve : CallsMeanTheSame returning_calls first_signature U64 (returns 12)
twelve world fits premises = record {
  there = shows_all (behaviour_of_calls returning_calls (returns 12) world) (behaviour_beside_calls returning_calls (returns 12) world) 3 4
      (Endings.script_stays (run_of_calls returning_calls (returns 12) world)) tt (calls_before world) refl;
  back = shows_all (behaviour_beside_calls returning_calls (returns 12) world) (behaviour_of_calls returning_calls (returns 12) world) 4 3
      (Endings.function_stays (run_beside_calls returning_calls (returns 12) world)) tt (function_before world) refl;
}

seven : CallsMeanTheSame returning_calls first_signature U64 (returns 7) → ⊥
seven same =
    let world : World = SampleWorld.sample_world in
    let ends : Returned (12 ∷ []) world.memory ≡ Returned (7 ∷ []) world.memory =
    ap (λ (seen : Observation). seen.ending)
    (other_ends (behaviour_of_calls returning_calls (returns 7) world) (behaviour_beside_calls returning_calls (returns 7) world)
    (Endings.script_stays (run_of_calls returning_calls (returns 7) world)) 3 4 tt tt
    (same world (record { arguments = tt; pointers = refl; slots = no_slots world }) (met U64 (in_spill_slot_beside returning_calls (returns 7) world) world))) in
    cc

-- CODE ON TYPES -----------------------------------------------------------------------------------------------------------

-- The compared name has 32 bits.
untyped : (pointer_width : ℕ) (reading : Reading) → AreJoinedCalls reading begun_script begun_calls
    → IsPerformed pointer_width AreGiven reading (ledger_after begun_script) (ledger_of begun_calls) (computing (Iconst (pos 7)) i64 [] ∷ []) is_wide_seven is_seven → ⊥
untyped pointer_width reading are is =
    let joined =
    Emitting AreGiven reading begun_script begun_calls [] (computing (Iconst (pos 7)) i64 [] ∷ []) is_wide_seven is_seven are refl
    (record { no_edges = refl; goes_on = refl }, tt) (record { no_edges = refl; goes_on = refl }) (record { no_edges = refl; goes_on = refl }) refl in
    let script : Script = begun_script ++ iconst i64 (pos 7) ∷ Build [] is_wide_seven ∷ [] in
    let calls : List ScriptCall = begun_calls ++ Emit [] is_seven ∷ [] in
    let typed =
    is.typed (record { plain = λ x. or_invalid (type_of (ledger_after script) x); script = λ x. or_invalid (type_of (ledger_of calls) x) }) [] (λ x ty there. ap or_invalid there)
    (agree _ script calls joined) (record { made_at = refl; operands = (refl, tt); edges = tt }) in
    let same : i32 ≡ i64 = typed.1.0.operands.0 in cc

pub examples : HeadlineExamples
examples = record {
  premises = met;
  allowed = (refl, (refl, (refl, (refl, (refl, (refl, tt))))));
  accepted = refl;
  means = means;
  twelve = twelve;
  seven = seven;
  may_mistype = (refl, (refl, (refl, (refl, tt))));
  mistyped = λ typed. let same = (typed.items first).1.0.operands.0 in cc;
  untyped = untyped;
  misnamed = λ pointer_width reading is. let none = is.as_named.0.parameters in cc;
  unsealed = refl;
  misuse = refl;
  tried = refl;
  only_tried = refl;
}
