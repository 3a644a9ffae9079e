-- What is recorded of a parameter of the caller's.
use Rattle.std.proofs.Common.{◌≡◌, ◌⊎◌, inl, inr, ℕ, zero, suc, List, [], ◌∷◌, ◌++◌, IsTrue, Some, refl, sym, ◌∙◌, ap, subst, arith}
use Rattle.std.specs.FinMap as map
use Rattle.std.specs.Prelude.{slice_get}
use Rattle.clif_ir.specs.Body.{Body, resolved}
use Rattle.clif_ir.proofs.KeepsParam.{with_param_consistent}
use Rattle.clif_paths.specs.State.{Definition, Kind, Naming, born, complete, pending}
use Rattle.clif_paths.specs.Places.{inside, start}
use Rattle.clif_records.proofs.RecordMaps.{record_at-empty, record_at-insert}
use Rattle.clif_types.specs.EntitySet.{has}
use Rattle.clif_records.specs.Tracking.{Tracked, marked_of, sets}
use Rattle.clif_ssa.specs.Sound.{EntryIsFree, entry_of}
use Rattle.clif_ssa.specs.Ssa.{Records, SsaState, no_state}
use Rattle.clif_meaning.specs.Name.{Name, answer_of}
use Rattle.clif_meaning.specs.Request.{AnsweredCall, DeclareVar, NeedStackMap, OfValue, OfVariable, SwitchToBlock, script_of}
use Rattle.clif_meaning.specs.Examples.{i32}
use Rattle.clif_meaning.specs.BranchExamples.{block}
use Rattle.clif_simulation.specs.Carries.{Carries, SoundOnPaths}
use Rattle.clif_simulation.specs.ParameterCarryingExamples.{parameter_body, parameter_calls}
use Rattle.clif_simulation.specs.RecordingExamples.{asking_calls, assigned_state, assigning_calls, tracking}
use Rattle.clif_simulation.specs.Tables.{code}
use Rattle.clif_simulation.specs.Tracks.{IsAskedBy, IsAskedFor, IsMarkedParameter}
use Rattle.clif_simulation.proofs.Calls.{carries_assigned, carries_declared, carries_needing, carries_switched}
use Rattle.clif_simulation.proofs.Rows.ParameterRow as parameter
use Rattle.clif_simulation.proofs.Tracking.Steps.{kinds_apart_born}
use Rattle.clif_simulation.proofs.Values.{false_is}

abbrev body : Body
body = parameter_body i32

abbrev three_calls : List AnsweredCall
three_calls = parameter_calls ++ record { request = DeclareVar i32; numbers = 0 ∷ [] } ∷ []

abbrev four_calls : List AnsweredCall
four_calls = three_calls ++ record { request = NeedStackMap (OfVariable 0); numbers = [] } ∷ []

abbrev five_calls : List AnsweredCall
five_calls = four_calls ++ record { request = SwitchToBlock (block 0); numbers = [] } ∷ []

abbrev marked_state : SsaState
marked_state = tracking (sets (0 ∷ []) [])

pub asked : Carries asking_calls (parameter_body i32) (tracking (sets [] (0 ∷ [])))
asked =
    carries_needing parameter_calls body no_state parameter.carried (tracking (sets [] (0 ∷ []))) (OfValue (answer_of 1 0))
    (λ x b. refl) (λ b. refl) (λ b. refl) (refl, refl)

declared : Carries three_calls body no_state
declared = carries_declared parameter_calls body no_state parameter.carried i32 (0 ∷ [])

marked : Carries four_calls body marked_state
marked = carries_needing three_calls body no_state declared marked_state (OfVariable 0) (λ x b. refl) (λ b. refl) (λ b. refl) (record_at-empty 0, refl)

switched : Carries five_calls body marked_state
switched = carries_switched four_calls body marked_state marked (block 0) []

records : Records marked_state (assigned_state (sets (0 ∷ []) (0 ∷ []))) 0 0 0
records = record_at-insert map.empty 0 0 (record { value = Some 0; lookups = 0 })

pub assigned : Carries assigning_calls (parameter_body i32) (assigned_state (sets (0 ∷ []) (0 ∷ [])))
assigned =
    carries_assigned five_calls body marked_state switched (with_param_consistent _ 0 i32 parameter.consistent (omega arith) (omega arith))
    0 (block 0) (record { current = refl; named = refl }) refl
    (assigned_state (sets (0 ∷ []) (0 ∷ []))) 0 (answer_of 1 0) 0 i32 [] refl refl refl (omega arith, refl) records (λ b. refl) (λ b. refl) refl

-- nothing is in the layout yet
free : (s : SsaState) → EntryIsFree (parameter_body i32) s
free s entry is = let no_way : ⊥ = none entry is in absurd no_way
  where
    none : (e : ℕ) → entry_of (parameter_body i32) ≡ Some e → ⊥
    none e is = cc

pub forgotten : Carries asking_calls (parameter_body i32) (tracking (sets [] [])) → ⊥
forgotten carries =
    let p : SoundOnPaths asking_calls carries.own body (tracking (sets [] [])) = carries.on_paths (free (tracking (sets [] []))) in
    false_is (p.tracked.asked 0 (record { name = answer_of 1 0; answers = refl; how = inl (2, refl) }))

pub forgotten_assigned : Carries assigning_calls (parameter_body i32) (assigned_state (sets (0 ∷ []) [])) → ⊥
forgotten_assigned carries =
    let s : SsaState = assigned_state (sets (0 ∷ []) []) in
    let p : SoundOnPaths assigning_calls carries.own body s = carries.on_paths (free s) in
    false_is (p.tracked.asked 0 (record { name = answer_of 1 0; answers = refl; how = inr (0, (5, refl), refl) }))

pub unasked : Carries parameter_calls (parameter_body i32) (tracking (sets [] (0 ∷ []))) → ⊥
unasked carries =
    let s : SsaState = tracking (sets [] (0 ∷ [])) in
    let p : SoundOnPaths parameter_calls carries.own body s = carries.on_paths (free s) in
    let given = p.program.parameter 0 (block 0) refl (answer_of 1 0) (0, omega arith, refl) in
    let there =
    p.describes.born_there (code (answer_of 1 0)) (λ none. front_start (sym (ap (λ (m : Naming). m.home) given.0) ∙ none)) (ap (λ (m : Naming). m.origin) given.0) in
    let kind : (p.tables.function.definition 0).kind ≡ born (code (answer_of 1 0)) =
    ap (λ (v : ℕ). (p.tables.function.definition v).kind) (sym given.1) ∙ ap (λ (d : Definition). d.kind) there.0 in
    let itself : p.tables.function.resolve 0 ≡ 0 = p.describes.resolves 0 ∙ subst (λ (v : ℕ). resolved body v ≡ v) given.1 there.1 in
    by s p kind refl (p.tracked.only 0 itself refl)
  where
    front_start : inside 0 0 ≡ start → ⊥
    front_start same = cc

    none_asked : (place : ℕ) (name : Name) → slice_get (script_of parameter_calls) place ≡ Some (NeedStackMap (OfValue name)) → ⊥
    none_asked zero name is = cc
    none_asked (suc zero) name is = cc
    none_asked (suc (suc place)) name is = cc

    not_asked : (s : SsaState) (name : Name) → s.tracking ≡ sets [] (0 ∷ []) → IsAskedBy parameter_calls s name → ⊥
    not_asked s name is (inl asks) = none_asked asks.0 name asks.1
    not_asked s name is (inr (x, assigns, marked)) = false_is (subst (λ (k : Tracked). IsTrue (has (marked_of k) x)) is marked)

    by : (s : SsaState) (p : SoundOnPaths parameter_calls carries.own body s) → (p.tables.function.definition 0).kind ≡ born (code (answer_of 1 0))
        → s.tracking ≡ sets [] (0 ∷ []) → IsMarkedParameter p.tables s 0 ⊎ IsAskedFor parameter_calls s 0 → ⊥
    by s p kind is (inl q) = kinds_apart_born (code (answer_of 1 0)) q.0 (subst (λ (k : Kind). (k ≡ pending q.0) ⊎ (k ≡ complete q.0)) kind q.1)
    by s p kind is (inr a) = not_asked s a.name is a.how
