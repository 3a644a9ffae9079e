-- The caller's parameters beside a builder that stands for calls: a call that makes none leaves them.
use Rattle.std.proofs.Common.{◌≡◌, ◌<◌, ◌⊎◌, ℕ, List, [], ◌∷◌, ◌++◌, length, refl, sym, ◌∙◌, ap, arith, inl, inr, None, Some}
use Rattle.std.specs.Prelude.{slice_get}
use Rattle.clif_ir.specs.Body.{Body, block_at}
use Rattle.clif_ssa.specs.Own.{Own}
use Rattle.clif_ssa.specs.Ssa.{SsaState}
use Rattle.clif_meaning.specs.Name.{Name, answer_of}
use Rattle.clif_meaning.specs.Request.{AnsweredCall, CreateBlock, script_of}
use Rattle.clif_meaning.specs.Ledger.{ledger_after}
use Rattle.clif_simulation.specs.Tables.{block_name, program_so_far}
use Rattle.clif_simulation.specs.Carries.{Carries, OwnParameters}
use Rattle.clif_simulation.specs.Structure.{HasCallersAlone}
use Rattle.clif_simulation.proofs.Calls.{name_stays}
use Rattle.clif_simulation.proofs.Carrying.{parameters_on}
use Rattle.clif_simulation.proofs.Listed.{MakesNoParameter}
use Rattle.clif_simulation.proofs.NameLists.{MakesNoBlock, names_of, names_stay}
use Rattle.clif_simulation.proofs.Staying.{kept, old_or_new}
use Rattle.clif_builder.specs.Context.{ContextState}
use Rattle.clif_builder.specs.Ledger.{AloneUnlessBegun, IsBegun}

-- where a block's parameters stay, and what was begun is so
pub kept_alone : (own : Own) (f g : Body) (c d : ContextState) (b : ℕ) → (block_at g b).params ≡ (block_at f b).params → (IsBegun f c b → IsBegun g d b)
    → AloneUnlessBegun own f c b → AloneUnlessBegun own g d b
kept_alone own f g c d b same still was = elim was [ inl alone ↦ inl (same ∙ alone) | inr begun ↦ inr (still begun) ]

-- the numbers of the caller's parameters stay
pub same_callers : (calls : List AnsweredCall) (call : AnsweredCall) (f : Body) (s : SsaState) (c : Carries calls f s) → MakesNoBlock call.request → MakesNoParameter call.request
    → OwnParameters (calls ++ call ∷ []) c.own
same_callers calls call f s c no_block no_parameter =
    parameters_on calls call (name_stays calls call no_block) c.own c.own f f s s c.holds (λ i below. refl) (omega arith) (λ b out. out) no_parameter (λ b. refl)
    (λ b N is. inl (sym (names_stay calls call no_block b) ∙ is))

-- and so where a block is made: it has none
pub created_callers : (calls : List AnsweredCall) (numbers : List ℕ) (f : Body) (s : SsaState) (c : Carries calls f s)
    → OwnParameters (calls ++ record { request = CreateBlock; numbers = numbers } ∷ []) c.own
created_callers calls numbers f s c =
    let call : AnsweredCall = record { request = CreateBlock; numbers = numbers } in
    parameters_on calls call (kept calls call refl) c.own c.own f f s s c.holds (λ i below. refl) (omega arith) (λ b out. out) tt (λ b. refl)
    (λ b N is. by b N (old_or_new calls call refl b N is))
  where
    past_names : (names : List Name) → slice_get names (length names) ≡ None
    past_names [] = refl
    past_names (N ∷ names) = past_names names

    none_yet : (N : Name) → answer_of (length calls) 0 ≡ N → ((program_so_far calls).parameters N ≡ []) ⊎ ((b : ℕ) × (block_name calls b ≡ Some N)) → (program_so_far calls).parameters N ≡ []
    none_yet N new (inl none) = none
    none_yet N new (inr block) =
        let earlier : N.place < length calls = c.holds.blocks.earlier block.0 N block.1 in
        let late : length calls ≡ N.place = ap (λ (M : Name). M.place) new in
        absurd (omega (arith, earlier, late))

    by : (b : ℕ) (N : Name) → (block_name calls b ≡ Some N) ⊎ ((b ≡ length (names_of (ledger_after (script_of calls)).blocks)) × (answer_of (length calls) 0 ≡ N))
        → (block_name calls b ≡ Some N) ⊎ ((block_name calls b ≡ None) × ((program_so_far calls).parameters N ≡ []))
    by b N (inl old) = inl old
    by b N (inr new) = inr (
      ap (slice_get (names_of (ledger_after (script_of calls)).blocks)) new.0 ∙ past_names (names_of (ledger_after (script_of calls)).blocks),
      none_yet N new.1 (c.holds.blocks.only_parameters N),
    )

-- A block that had the caller's parameters alone has them alone, if the call leaves it so.
pub alone_after : (calls : List AnsweredCall) (call : AnsweredCall) (f g : Body) (c d : ContextState) (own : Own) → OwnParameters calls own → OwnParameters (calls ++ call ∷ []) own
    → (b : ℕ) → (AloneUnlessBegun own f c b → AloneUnlessBegun own g d b)
    → HasCallersAlone calls f b ⊎ IsBegun f c b → HasCallersAlone (calls ++ call ∷ []) g b ⊎ IsBegun g d b
alone_after calls call f g c d own before after b step (inr begun) = elim (step (inr begun)) [ inl alone ↦ inl (alone ∙ after b) | inr still ↦ inr still ]
alone_after calls call f g c d own before after b step (inl alone) =
    elim (step (inl (alone ∙ sym (before b)))) [ inl still ↦ inl (still ∙ after b) | inr begun ↦ inr begun ]
