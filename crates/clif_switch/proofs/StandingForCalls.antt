-- A switch is one call of a script for a builder that stood for its calls.
use Rattle.std.proofs.Common.{◌≡◌, ◌<◌, ◌≤◌, ◌+◌, ℕ, zero, suc, List, [], ◌∷◌, ◌++◌, length, arith, refl, sym, ◌∙◌, ap}
use Rattle.std.specs.Prelude.{◌&&◌, ◌^◌, All, Bool, true, false, Contains, Err, IsTrue, None, Ok, OnOk, Option, Result, Some, is_some, map}
use Rattle.std.specs.FinMap as finite
use Rattle.std.specs.List.{AllZip, list_all}
use Rattle.std.proofs.lemmas.Bool.{false≢true}
use Rattle.std.proofs.lemmas.Nat.{pow_below}
use Rattle.clif_types.specs.Signature.{SignatureShape}
use Rattle.clif_types.specs.declared.target.PointerWidth.{PointerWidth}
use Rattle.clif_ranges.specs.Cases.{CaseMap}
use Rattle.clif_ranges.specs.Ranges.{AreRangesOf}
use Rattle.clif_ranges.specs.declared.ranges.CaseRange.{CaseRange}
use Rattle.clif_ranges.specs.declared.error.SwitchError.{SwitchError}
use Rattle.clif_meaning.specs.Acceptance.{can_lead, is_open}
use Rattle.clif_meaning.specs.Instruction.{Instruction}
use Rattle.clif_meaning.specs.Ledger.{has_value}
use Rattle.clif_meaning.specs.Name.{Name}
use Rattle.clif_meaning.specs.Request.{script_of}
use Rattle.clif_expansion.specs.JoinedCalls.{HaveCurrent, Switching}
use Rattle.clif_expansion.specs.Reading.{IsReadAs, IsReadEdge, IsReadInstruction, Reading}
use Rattle.clif_expansion.specs.ScriptCall.{Emit, ScriptCall, call_allowed, can_emit, ledger_of, takes_byte}
use Rattle.clif_expansion.specs.Switching.{switching}
use Rattle.clif_expansion.specs.Emission.{reading_across}
use Rattle.clif_expansion.proofs.Across.{across_before}
use Rattle.clif_expansion.proofs.JoinedCalls.{calls_made, emission_placed}
use Rattle.clif_expansion.proofs.Joins.{KeepsReading}
use Rattle.clif_expansion.proofs.Placing.{contained_first, contained_later}
use Rattle.clif_builder.specs.declared.builder.FunctionBuilder.{FunctionBuilder}
use Rattle.clif_builder.specs.StandsForCalls.{StandsForCalls, StandsOnFor}
use Rattle.clif_builder.proofs.StandingForCalls.{goes_on, ledgers_joined, plain_ledger}
use Rattle.clif_switch_calls.specs.SwitchCalls.{Switched, bare_edge}
use Rattle.clif_switch_calls.specs.SwitchLaw.{case_edges, case_keys}
use Rattle.clif_switch.specs.Calls.{LeadsToSwitch, SwitchesStandForCalls, switch_of}
use Rattle.clif_switch.specs.Switches.{Emits}
use Rattle.clif_switch.proofs.Cases.{entry_found}

-- there is a current block where something may be emitted
third : (a b c d e f : Bool) → (a && b && c && d && e && f) ≡ true → c ≡ true
third true true true d e f is = refl
third true true false d e f is = is
third true false c d e f is = absurd (false≢true is)
third false b c d e f is = absurd (false≢true is)

pub below_power : (n : ℕ) → n ≤ 2 ^ n
below_power zero = omega arith
below_power (suc n) = let rest = below_power n in let more = pow_below n (suc n) (omega arith) in omega (arith, rest, more)

module _ {R : Type 0} {width : PointerWidth} {declared : SignatureShape} {calls : List ScriptCall} {old : FunctionBuilder R} (before : StandsForCalls width declared calls old)
    (s : Switched) (cases : CaseMap) (value otherwise : ℕ) (leads : LeadsToSwitch before s cases value otherwise) (may : IsTrue (call_allowed (ledger_of calls) (switch_of s cases))) where
  abbrev switch : Instruction Name Name
  switch = switching (case_keys cases) s.ty s.value (case_edges s cases)

  placed : HaveCurrent (plain_ledger before) (ledger_of calls)
  placed = emission_placed before.reading (plain_ledger before) (ledger_of calls) (ledgers_joined before) [] switch may

  -- the block in which the switch stands
  current : (block : Name) × ((plain_ledger before).current ≡ Some block)
  current = by (plain_ledger before).current (ledger_of calls).current placed
      (third (list_all (has_value (ledger_of calls)) switch.contexts) (takes_byte (ledger_of calls) switch.operation switch.operands) (is_open (ledger_of calls) (ledger_of calls).current)
      (list_all (has_value (ledger_of calls)) switch.operands) (list_all (can_lead (ledger_of calls)) switch.edges) (can_emit switch.operation switch.controlling) may)
    where
      by : (plain own : Option Name) → is_some plain ≡ is_some own → is_open (ledger_of calls) own ≡ true → (block : Name) × (plain ≡ Some block)
      by (Some block) own same opens = (block, refl)
      by None None same opens = absurd (false≢true opens)
      by None (Some block) same opens = absurd (false≢true same)

  edges_read : (entries : List (ℕ × ℕ)) → ((entry : ℕ × ℕ) → Contains entries entry → finite.get cases entry.0 ≡ Some entry.1)
      → AllZip (IsReadEdge before.reading) (map (λ case. bare_edge (leads.plain.named case.1)) entries ++ bare_edge leads.plain.otherwise ∷ [])
      (map (λ case. bare_edge (s.named case.1)) entries ++ bare_edge s.otherwise ∷ [])
  edges_read [] found = (record { target = leads.otherwise_read; arguments = tt }, tt)
  edges_read (entry ∷ entries) found = (
    record { target = leads.cases_read entry.0 entry.1 (found entry (contained_first entry entries)); arguments = tt },
    edges_read entries (λ other there. found other (contained_later entry entries other there)),
  )

  read : (ranges : List CaseRange) → AreRangesOf (finite.entries cases) ranges
      → IsReadInstruction before.reading (switching (case_keys cases) leads.plain.ty leads.plain.value (case_edges leads.plain cases)) switch
  read ranges are = record {
    operation = refl;
    controlling = leads.typed;
    operands = (leads.value_read, tt);
    contexts = tt;
    edges = edges_read (finite.entries cases) (entry_found cases ranges are);
  }

  stands_on : (new : FunctionBuilder R) (answer : Result (Unit {0}) SwitchError) → Emits cases value otherwise old new answer → OnOk answer (StandsOnFor before (calls ++ switch_of s cases ∷ []) new)
  stands_on new (Err error) emits = tt
  stands_on new (Ok done) emits =
      let stood = emits.stands declared before.made leads.plain current.0 before.stands current.1 leads.named in
      let code = stood.2.code (length stood.2.ranges) (below_power (length stood.2.ranges)) in
      let later : Reading = reading_across before.reading (length (script_of before.made)) (length (script_of stood.0)) in
      let kept : KeepsReading before.reading later = λ x name is.
      let made = ((ledgers_joined before).made x name is).0 in
      let many = calls_made (script_of before.made) in
      across_before before.reading (length (script_of before.made)) (length (script_of stood.0)) x (omega (arith, made, many)) ∙ is in
      goes_on before (switch_of s cases) stood.0 later new kept may (
        Switching before.reading (script_of before.made) (script_of stood.0) calls current.0 leads.plain.value leads.plain.ty (case_keys cases) (case_edges leads.plain cases) switch
            (length stood.2.ranges + 2) 1 before.joined current.1 placed (read stood.2.ranges stood.2.ranges_for.ranges_of) code,
        before.performed,
      )
      stood.1

pub stand_for_calls : {R : Type 0} → SwitchesStandForCalls R
stand_for_calls width declared calls old new before s cases value otherwise answer leads may emits = stands_on before s cases value otherwise leads may new answer emits
