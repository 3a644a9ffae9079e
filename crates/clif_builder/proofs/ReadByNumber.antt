-- What a ledger that agrees with a builder says of names, the builder says of their numbers.
use Rattle.std.proofs.Common.{◌≡◌, ℕ, ap, sym, ◌∙◌}
use Rattle.std.specs.Prelude.{Some, option_map, true}
use Rattle.clif_meaning.specs.Name.{Name}
use Rattle.clif_meaning.specs.Ledger.{BlockState, block_state, has_block}
use Rattle.clif_builder.specs.Ledger.{block_name, ledger_of}
use Rattle.clif_builder.specs.LedgerLaws.{IsStateOf, LedgerIsReadByNumber}
use Rattle.clif_builder.proofs.LedgerLists.{some-is}
use Rattle.clif_builder.proofs.LedgerNames.{IsNumbered, block-inserted, find-some, name-number, named-block, same-block, state-by-name}
use Rattle.clif_builder.proofs.LedgerKept.{named-value}
use Rattle.clif_builder.proofs.LedgerMade.{block-exists}
use Rattle.clif_builder.proofs.LedgerUsed.{ledger-type}
use Rattle.clif_builder.proofs.LedgerVariables.{variable-count}
use Rattle.clif_builder.proofs.Touching.{untouched_unused}

pub read_by_number : LedgerIsReadByNumber
read_by_number calls f c position agrees =
    record {
      exists = block-exists calls (ledger_of calls) f c position agrees;
      state = found;
      same = same-block calls (ledger_of calls) numbers;
      inserted = λ block name named. block-inserted calls (ledger_of calls) numbers f.layout agrees.layout block name named;
      numbered = there;
      named = named-block calls numbers;
      value = λ name value names. named-value calls (ledger_of calls) f c position agrees name value names.number names.is_value;
      variable = ledger-type calls (ledger_of calls) f c position agrees;
      variable_count = variable-count calls (ledger_of calls) f c position agrees;
      unused = λ variable untouched. untouched_unused agrees.own f c variable agrees.structured (sym (agrees.variables.touched variable) ∙ untouched);
    }
  where
    numbers : IsNumbered calls (ledger_of calls)
    numbers = name-number calls (ledger_of calls) f c position agrees

    found : (block : ℕ) (name : Name) → block_name (ledger_of calls) block ≡ Some name → IsStateOf calls f c block name
    found block name named =
        let one = state-by-name calls (ledger_of calls) numbers block name named in
        record { state = one.0; found = one.3; agrees = agrees.blocks block one.0 one.1 }

    there : (name : Name) → has_block (ledger_of calls) name ≡ true → (block : ℕ) × (block_name (ledger_of calls) block ≡ Some name)
    there name is_block =
        let state = some-is (block_state (ledger_of calls) name) is_block in
        let one = find-some (ledger_of calls).blocks name state.0 state.1 in
        (one.0, ap (option_map (λ (s : BlockState). s.block)) one.1 ∙ ap Some one.2)
