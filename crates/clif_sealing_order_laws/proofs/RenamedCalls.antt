-- One call more: the two ledgers stay beside one another.
use Rattle.std.proofs.Common.{◌≡◌, ℕ, zero, suc, true, false, List, [], ◌∷◌, ◌++◌, length, map, refl, sym, ◌∙◌, ap, subst, Option, Some, None}
use Rattle.std.specs.Prelude.{replicate}
use Rattle.std.proofs.lemmas.List.{map-append}
use Rattle.clif_meaning.specs.Instruction.{Edge, Operation, Switch}
use Rattle.clif_meaning.specs.Ledger.{Answered, BlockState, ExceptionTable, Ledger, answers_to, changed_by, edges_named, exception_table, ledger_with, new_block, next_answer, with_instruction}
use Rattle.clif_meaning.specs.Name.{Name, answer_of}
use Rattle.clif_meaning.specs.Request.{Request}
use Rattle.clif_expansion.specs.Keys.{table_count}
use Rattle.clif_expansion.specs.ScriptCall.{Ask, Emit, ScriptCall, call_answers, call_changes, emitted_types, ledger_behind, ledger_with_call, with_imports}
use Rattle.clif_renaming.specs.CallsSealing.{counted_as, renamed_call}
use Rattle.clif_renaming.specs.Renaming.{KeepsApart}
use Rattle.clif_renaming.specs.Sealing.{is_sealing, renamed_request}
use Rattle.clif_renaming.proofs.RenamedEffects.{BothAppend, BothBegin, BothChange, BothChangeJump, BothCreate, BothEnter, BothInsertAfter, BothList, BothMakeExceptionTable, BothMakeJumpTable, BothSeal, RenamedLedgerEffect, Seals, SealsAll, SealsOne, renamed_ledger_effect, sealing_is}
use Rattle.clif_sealing_order_laws.proofs.RenamedAnswers.{AnswersGoAlong, along_call, along_seal, answered_along, edges_named_along, exceptions_along, values_along}
use Rattle.clif_sealing_order_laws.proofs.RenamedLedgers.{begun_both, instruction_both, put_both, redirected_both, renamed_answer, renamed_exception, renamed_table, sealed_one_unseen, sealed_unseen, served_renamed, state_both, tried_renamed, unsealed_ledger, unsealed_state}

module _ (rename : Name → Name) (apart : KeepsApart rename) where
  -- a renamed call changes the other ledger as the call does
  abbrev ChangesBoth : Ledger → List (List Answered) → Request → Type 0
  ChangesBoth ledger answers request = changed_by (unsealed_ledger rename ledger answers) (renamed_request rename request) ≡ unsealed_ledger rename (changed_by ledger request) answers

  changed_both : (ledger : Ledger) (answers : List (List Answered)) → AnswersGoAlong rename ledger.answers answers → (request : Request) → is_sealing request ≡ false
      → rename (next_answer ledger) ≡ next_answer (unsealed_ledger rename ledger answers) → ChangesBoth ledger answers request
  changed_both ledger answers along request stays at = by (renamed_ledger_effect rename request)
    where
      -- both by what they do
      of_ledgers : (m m' : Ledger) → changed_by ledger request ≡ m → changed_by (unsealed_ledger rename ledger answers) (renamed_request rename request) ≡ m'
          → m' ≡ unsealed_ledger rename m answers → ChangesBoth ledger answers request
      of_ledgers m m' here there both = there ∙ both ∙ ap (λ (other : Ledger). unsealed_ledger rename other answers) (sym here)

      of_request : (other : Request) → request ≡ other → ChangesBoth ledger answers other → ChangesBoth ledger answers request
      of_request other same both = subst (ChangesBoth ledger answers) (sym same) both

      by : RenamedLedgerEffect rename request → ChangesBoth ledger answers request
      by (BothList variables tables here there) = of_ledgers _ _ (here ledger) (there (unsealed_ledger rename ledger answers)) refl
      by (BothChange block change renamed alike here there) =
          of_ledgers _ _ (here ledger) (there (unsealed_ledger rename ledger answers)) (state_both rename apart answers ledger block change renamed (alike.along false))
      by (BothBegin variables here there) =
          of_ledgers _ _ (here ledger) (there (unsealed_ledger rename ledger answers))
          (ap (λ (begun : Ledger). record begun { variables = variables begun.variables }) (begun_both rename apart answers ledger))
      by (BothSeal seals renamed_seals) = let none : ⊥ = cc in absurd none
      by (BothCreate same) =
          of_request _ same (ap (λ (blocks : List BlockState). record (unsealed_ledger rename ledger answers) { blocks = blocks })
          (ap (λ (block : Name). map (unsealed_state rename) ledger.blocks ++ new_block block ∷ []) (sym at)
          ∙ sym (map-append (unsealed_state rename) ledger.blocks (new_block (next_answer ledger) ∷ []))))
      by (BothEnter block same) = of_request _ same refl
      by (BothInsertAfter block after same) = of_request _ same (put_both rename apart answers ledger block after)
      by (BothMakeJumpTable default entries same) =
          of_request _ same (ap (λ (tables : List (Option (List (Edge Name Name)))). record (unsealed_ledger rename ledger answers) { jump_tables = tables })
          (ap (λ (edges : List (Edge Name Name)). map (renamed_table rename) ledger.jump_tables ++ Some edges ∷ []) (edges_named_along rename ledger answers along (default ∷ entries))
          ∙ sym (map-append (renamed_table rename) ledger.jump_tables (Some (edges_named ledger (default ∷ entries)) ∷ []))))
      by (BothMakeExceptionTable signature normal items same) =
          of_request _ same (ap (λ (tables : List (Option ExceptionTable)). record (unsealed_ledger rename ledger answers) { exception_tables = tables })
          (ap (λ (held : ExceptionTable). map (renamed_exception rename) ledger.exception_tables ++ Some held ∷ []) (exceptions_along rename ledger answers along signature normal items)
          ∙ sym (map-append (renamed_exception rename) ledger.exception_tables (Some (exception_table ledger signature normal items) ∷ []))))
      by (BothAppend entries instruction same) =
          of_request _ same (λ i. record (instruction_both rename apart answers ledger instruction at i) {
            jump_tables = served_renamed rename ledger.jump_tables entries i;
            exception_tables = tried_renamed rename ledger.exception_tables entries i;
          })
      by (BothChangeJump branch from to same) = of_request _ same (redirected_both rename apart answers ledger branch from to)

  -- what stands behind a switch
  behind_both : (ledger : Ledger) (answers : List (List Answered)) (operation : Operation)
      → ledger_behind operation (unsealed_ledger rename ledger answers) ≡ unsealed_ledger rename (ledger_behind operation ledger) answers
  behind_both ledger answers (Switch keys) =
      ap (λ (tables : List (Option (List (Edge Name Name)))). record (unsealed_ledger rename ledger answers) { current = None; jump_tables = tables })
      (ap (λ (served : List (Option (List (Edge Name Name)))). map (renamed_table rename) ledger.jump_tables ++ served) (sym (all_served (table_count keys keys)))
      ∙ sym (map-append (renamed_table rename) ledger.jump_tables (replicate (table_count keys keys) None)))
    where
      all_served : (n : ℕ) → map (renamed_table rename) (replicate n None) ≡ replicate n None
      all_served zero = refl
      all_served (suc n) = ap (λ (rest : List (Option (List (Edge Name Name)))). None ∷ rest) (all_served n)
  behind_both ledger answers _ = refl

  -- so does a renamed call of a script
  changes_both : (ledger : Ledger) (answers : List (List Answered)) → AnswersGoAlong rename ledger.answers answers → (call : ScriptCall)
      → is_sealing (counted_as call) ≡ false → rename (next_answer ledger) ≡ next_answer (unsealed_ledger rename ledger answers)
      → call_changes (unsealed_ledger rename ledger answers) (renamed_call rename call) ≡ unsealed_ledger rename (call_changes ledger call) answers
  changes_both ledger answers along (Ask request) stays at = changed_both ledger answers along request stays at
  changes_both ledger answers along (Emit imports instruction) stays at =
      ap (ledger_behind instruction.operation) (instruction_both rename apart answers (with_imports imports ledger) instruction at)
      ∙ behind_both (with_instruction (with_imports imports ledger) instruction) answers instruction.operation

  call_answered_along : (ledger : Ledger) (answers : List (List Answered)) (call : ScriptCall)
      → call_answers (unsealed_ledger rename ledger answers) (renamed_call rename call) ≡ map (renamed_answer rename) (call_answers ledger call)
  call_answered_along ledger answers (Ask request) = answered_along rename ledger answers request
  call_answered_along ledger answers (Emit imports instruction) = values_along rename (emitted_types instruction)

  -- the answers of the other ledger behind a call that doesn't seal
  abbrev pub answers_behind : Ledger → List (List Answered) → ScriptCall → List (List Answered)
  answers_behind ledger answers call = answers ++ map (renamed_answer rename) (call_answers ledger call) ∷ []

  pub with_call_both : (ledger : Ledger) (answers : List (List Answered)) → AnswersGoAlong rename ledger.answers answers → (call : ScriptCall)
      → is_sealing (counted_as call) ≡ false → ((index : ℕ) → rename (answer_of (length ledger.answers) index) ≡ answer_of (length answers) index)
      → ledger_with_call (unsealed_ledger rename ledger answers) (renamed_call rename call)
      ≡ unsealed_ledger rename (ledger_with_call ledger call) (answers_behind ledger answers call)
  with_call_both ledger answers along call stays at = λ i.
      record (changes_both ledger answers along call stays (at 0) i) { answers = answers ++ call_answered_along ledger answers call i ∷ [] }

  pub answers_along_call : (ledger : Ledger) (answers : List (List Answered)) → AnswersGoAlong rename ledger.answers answers → (call : ScriptCall)
      → ((index : ℕ) → rename (answer_of (length ledger.answers) index) ≡ answer_of (length answers) index)
      → AnswersGoAlong rename (ledger_with_call ledger call).answers (answers_behind ledger answers call)
  answers_along_call ledger answers along call at = along_call rename apart ledger.answers answers along (call_answers ledger call) at

  -- a call that seals leaves the other ledger as it is
  request_seal_both : (ledger : Ledger) (answers : List (List Answered)) (request : Request) → is_sealing request ≡ true
      → unsealed_ledger rename (ledger_with ledger request) answers ≡ unsealed_ledger rename ledger answers
  request_seal_both ledger answers request seals = by (sealing_is request seals)
    where
      by : Seals request → unsealed_ledger rename (ledger_with ledger request) answers ≡ unsealed_ledger rename ledger answers
      by (SealsOne block same) =
          ap (λ (r : Request). unsealed_ledger rename (ledger_with ledger r) answers) same
          ∙ ap (λ (blocks : List BlockState). record (unsealed_ledger rename ledger answers) { blocks = blocks }) (sealed_one_unseen rename block ledger.blocks)
      by (SealsAll same) =
          ap (λ (r : Request). unsealed_ledger rename (ledger_with ledger r) answers) same
          ∙ ap (λ (blocks : List BlockState). record (unsealed_ledger rename ledger answers) { blocks = blocks }) (sealed_unseen rename ledger.blocks)

  pub with_seal_both : (ledger : Ledger) (answers : List (List Answered)) (call : ScriptCall) → is_sealing (counted_as call) ≡ true
      → unsealed_ledger rename (ledger_with_call ledger call) answers ≡ unsealed_ledger rename ledger answers
  with_seal_both ledger answers (Ask request) seals = request_seal_both ledger answers request seals
  with_seal_both ledger answers (Emit imports instruction) seals = let none : ⊥ = cc in absurd none

  pub answers_along_seal : (ledger : Ledger) (answers : List (List Answered)) → AnswersGoAlong rename ledger.answers answers → (call : ScriptCall) → is_sealing (counted_as call) ≡ true
      → AnswersGoAlong rename (ledger_with_call ledger call).answers answers
  answers_along_seal ledger answers along call seals =
      subst (λ (given : List Answered). AnswersGoAlong rename (ledger.answers ++ given ∷ []) answers) (sym (none_given call seals))
      (along_seal rename apart ledger.answers answers along)
    where
      no_answers : (request : Request) → is_sealing request ≡ true → answers_to ledger request ≡ []
      no_answers request seals = by (sealing_is request seals)
        where
          by : Seals request → answers_to ledger request ≡ []
          by (SealsOne block same) = ap (answers_to ledger) same
          by (SealsAll same) = ap (answers_to ledger) same

      none_given : (call : ScriptCall) → is_sealing (counted_as call) ≡ true → call_answers ledger call ≡ []
      none_given (Ask request) seals = no_answers request seals
      none_given (Emit imports instruction) seals = let none : ⊥ = cc in absurd none
