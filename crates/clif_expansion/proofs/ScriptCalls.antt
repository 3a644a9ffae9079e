-- Without emissions all is as it is for the builder's calls; and the worked examples.
use Rattle.std.proofs.Common.{◌≡◌, true, false, List, [], ◌∷◌, ◌++◌, ap, map, refl, subst, pos}
use Rattle.std.specs.Prelude.{fold}
use Rattle.clif_meaning.specs.Acceptance.{iconst}
use Rattle.clif_meaning.specs.BranchExamples.{block}
use Rattle.clif_meaning.specs.Examples.{i32}
use Rattle.clif_meaning.specs.Instruction.{Iconst}
use Rattle.clif_meaning.specs.Ledger.{BlockState, Ledger, empty_ledger, ledger_after, ledger_with}
use Rattle.clif_meaning.specs.Name.{Name, answer_of}
use Rattle.clif_meaning.specs.Program.{Program, empty_program, with_call}
use Rattle.clif_meaning.specs.Request.{CreateBlock, SwitchToBlock, SealBlock, Script}
use Rattle.clif_expansion.specs.Emission.{AreGiven}
use Rattle.clif_expansion.specs.Constants.{computing}
use Rattle.clif_expansion.specs.JoinedCalls.{AreJoinedCalls, Asking, Emitting, Starting}
use Rattle.clif_expansion.specs.Joining.{AreJoinedStates, Both, IsOwnState, IsReadState, NoMore, NoneLeads, Own, StandAmong}
use Rattle.clif_expansion.specs.Reading.{NotMade, Reading}
use Rattle.clif_expansion.specs.ScriptCall.{Ask, AskingStays, ledger_of, ledger_with_call, program_with_call}
use Rattle.clif_expansion.specs.ScriptCallExamples.{ScriptCallExamples, begun_calls, begun_script, leading, seven_more, sum, summing_calls, summing_script, throwing, throwing_calls, throwing_script}
use Rattle.clif_expansion.proofs.JoinedCalls.{joined_calls}

ledger_asked : (ledger : Ledger) (script : Script) → fold ledger_with_call ledger (map Ask script) ≡ fold ledger_with ledger script
ledger_asked ledger [] = refl
ledger_asked ledger (request ∷ script) = ledger_asked (ledger_with ledger request) script

program_asked : (program : Program) (script : Script) → fold program_with_call program (map Ask script) ≡ fold with_call program script
program_asked program [] = refl
program_asked program (request ∷ script) = program_asked (with_call program request) script

pub asking_stays : AskingStays
asking_stays = record { ledger = λ script. ledger_asked empty_ledger script; program = λ script. program_asked empty_program script }

apart : (reading : Reading) → AreJoinedStates reading 4 (ledger_after (summing_script ++ SealBlock (block 0) ∷ [])) (ledger_of summing_calls) → ⊥
apart reading are = by _ _ are.blocks refl refl
  where
    by : (states' states : List BlockState) → StandAmong (IsReadState reading 4) (IsOwnState reading) states' states
        → states' ≡ (ledger_after (summing_script ++ SealBlock (block 0) ∷ [])).blocks → states ≡ (ledger_of summing_calls).blocks → ⊥
    by states' states among is' is = one_state (subst (λ xs. StandAmong (IsReadState reading 4) (IsOwnState reading) xs (ledger_of summing_calls).blocks) is'
        (subst (λ xs. StandAmong (IsReadState reading 4) (IsOwnState reading) states' xs) is among))
      where
        one_state : StandAmong (IsReadState reading 4) (IsOwnState reading) (ledger_after (summing_script ++ SealBlock (block 0) ∷ [])).blocks (ledger_of summing_calls).blocks → ⊥
        one_state (Both a b as' bs read rest) = let sealed : true ≡ false = read.is_sealed in cc
        one_state (Own a as' bs own rest) = elim rest [ ]

one_more : (reading : Reading) → AreJoinedCalls reading (summing_script ++ SealBlock (block 0) ∷ []) summing_calls → ⊥
one_more reading are = apart reading (joined_calls reading (summing_script ++ SealBlock (block 0) ∷ []) summing_calls are).ledgers.states

-- the calls before the emission
abbrev pub begun : (reading : Reading) × AreJoinedCalls reading begun_script begun_calls
begun =
    let created = Asking (λ x. NotMade) [] [] CreateBlock CreateBlock Starting tt (λ uses. refl) in
    let switched = Asking _ (CreateBlock ∷ []) (Ask CreateBlock ∷ []) (SwitchToBlock (block 0)) (SwitchToBlock (block 0)) created refl (λ uses. refl) in (
      _,
      Asking _ (CreateBlock ∷ SwitchToBlock (block 0) ∷ []) (Ask CreateBlock ∷ Ask (SwitchToBlock (block 0)) ∷ []) (iconst i32 (pos 5)) (iconst i32 (pos 5)) switched
          (refl, record { operation = refl; controlling = refl; operands = tt; contexts = tt; edges = tt }) (λ uses. refl),
    )

abbrev stands : (reading : Reading) × AreJoinedCalls reading summing_script summing_calls
stands = (
  _,
  Emitting AreGiven _ begun_script begun_calls [] (computing (Iconst (pos 7)) i32 [] ∷ []) sum (seven_more (answer_of 2 1)) begun.1 refl
      (record { no_edges = refl; goes_on = refl }, tt) (record { no_edges = refl; goes_on = refl }) (record { no_edges = refl; goes_on = refl }) refl,
)

throws : (reading : Reading) × AreJoinedCalls reading (throwing_script 7 (answer_of 4 1)) throwing_calls
throws =
    let led = Asking stands.0 summing_script summing_calls (leading (answer_of 4 1)) (leading (answer_of 3 0)) stands.1 (record { target = refl; arguments = (refl, (refl, tt)) }) (λ uses. refl) in (
      _,
      Asking _ (summing_script ++ leading (answer_of 4 1) ∷ []) (summing_calls ++ Ask (leading (answer_of 3 0)) ∷ [])
          (throwing 7 (answer_of 5 0) (answer_of 4 1)) (throwing 7 (answer_of 4 0) (answer_of 3 0)) led (refl, refl, (refl, ((refl, refl), (refl, tt)))) (λ uses. refl),
    )

other_tag : (reading : Reading) → AreJoinedCalls reading (throwing_script 8 (answer_of 4 1)) throwing_calls → ⊥
other_tag reading are =
    let items = (joined_calls reading (throwing_script 8 (answer_of 4 1)) throwing_calls are).ledgers.states.exception_tables.0.items in cc

other_context : (reading : Reading) → AreJoinedCalls reading (throwing_script 7 (answer_of 2 1)) throwing_calls → ⊥
other_context reading are =
    let joined = joined_calls reading (throwing_script 7 (answer_of 2 1)) throwing_calls are in
    let table = joined.ledgers.states.exception_tables.0 in
    let same : answer_of 2 1 ≡ answer_of 4 1 = joined.one_to_one (answer_of 2 1) (answer_of 4 1) (answer_of 3 0) table.contexts.0 table.edges.0.arguments.0 in
    let place = ap (λ (name : Name). name.place) same in cc

pub examples : ScriptCallExamples
examples = record {
  allowed = refl;
  with_context = refl;
  no_value = refl;
  no_context = refl;
  built = refl;
  too_wide = refl;
  result = refl;
  items = refl;
  joined = record {
    blocks = Both _ _ [] [] (record { block = refl; parameters = refl; is_pristine = refl; is_filled = refl; is_sealed = refl; is_cold = refl; predecessors = NoneLeads }) NoMore;
    current = refl;
    layout = (refl, NoMore);
    variables = refl;
    jump_tables = tt;
    exception_tables = tt;
    tables = refl;
  };
  plain = refl;
  stands = stands;
  throws = throws;
  other_tag = other_tag;
  other_context = other_context;
  one_more = one_more;
  apart = apart;
}
