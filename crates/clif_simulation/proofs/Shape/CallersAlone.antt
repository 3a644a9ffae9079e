-- Blocks to which at most one branch leads have no parameter of a variable, in every program.
use Rattle.std.proofs.Common.{◌≡◌, ◌≢◌, ℕ, ◌≤◌, true, false, List, [], ◌∷◌, ◌++◌, length, map, refl, sym, ◌∙◌, ap, arith}
use Rattle.std.proofs.lemmas.List.{append-nil}
use Rattle.clif_ir.specs.Body.{Body, block_at}
use Rattle.clif_ssa.specs.Own.{Own}
use Rattle.clif_ssa.specs.Ssa.{SsaState, sealed_of, predecessors_of}
use Rattle.clif_ssa.specs.Structured.{VariableTypes, Structured, waiting_of, waiting_in}
use Rattle.clif_records.specs.Tables.{No, Sealed, Yes, is_yes, pending_of}
use Rattle.clif_records.specs.declared.tables.Pending.{Pending}
use Rattle.clif_meaning.specs.Request.{AnsweredCall}
use Rattle.clif_simulation.specs.Carries.{NothingLeads, OwnParameters}
use Rattle.clif_simulation.specs.Structure.{HasCallersAlone, HasCallersParameters, KeepsNoParameter, LeavesFewParameters, LeavesNoParameter, NoneWaits}

-- where no branch leads anywhere, each block is one of these
of_all : (calls : List AnsweredCall) (f : Body) (s : SsaState) → LeavesNoParameter calls f s → NothingLeads s → HasCallersParameters calls f
of_all calls f s leaves nothing b =
    let none : length (predecessors_of s b) ≡ 0 = ap (λ (leading : List ℕ). length leading) (nothing b) in leaves b (omega (arith, none))

module _ (calls : List AnsweredCall) (f : Body) (s : SsaState) (own : Own) (types : VariableTypes) (structured : Structured types own f s [])
    (callers_own : OwnParameters calls own)
  where
    -- none waits in a sealed block, or where the construction knows of none
    sealed_waits : (b : ℕ) (sealed : Sealed) → is_yes sealed ≡ true → waiting_of f sealed [] b ≡ []
    sealed_waits b Yes is = refl
    sealed_waits b (No pending) is = absurd (apart is)
      where
        apart : false ≡ true → ⊥
        apart h = cc

    pub none_waiting : (b : ℕ) (sealed : Sealed) → pending_of sealed ≡ [] → waiting_of f sealed [] b ≡ []
    none_waiting b Yes none = refl
    none_waiting b (No pending) none = none

    params_of : (b : ℕ) (complete : List ℕ) → (block_at f b).params ≡ own.params b ++ (complete ++ map (λ (p : Pending). p.param) (waiting_in f s [] b))
        → waiting_in f s [] b ≡ [] → (block_at f b).params ≡ own.params b ++ complete
    params_of b complete in_order none =
        in_order
        ∙ ap (λ (waiting : List Pending). own.params b ++ (complete ++ map (λ (p : Pending). p.param) waiting)) none
        ∙ ap (λ (others : List ℕ). own.params b ++ others) (append-nil complete)

    -- where none waits in a block, its parameters are the caller's and then complete ones
    pub callers_first : (b : ℕ) → waiting_in f s [] b ≡ [] → (block_at f b).params ≡ own.params b ++ (structured.parameters b).complete
    callers_first b none = params_of b (structured.parameters b).complete (structured.parameters b).in_order none

    alone : (b : ℕ) → length (predecessors_of s b) ≤ 1 → waiting_in f s [] b ≡ [] → HasCallersAlone calls f b
    alone b few none = callers_first b none ∙ by (structured.parameters b).complete refl ∙ callers_own b
      where
        by : (complete : List ℕ) → (structured.parameters b).complete ≡ complete → own.params b ++ complete ≡ own.params b
        by [] is = append-nil (own.params b)
        by (v ∷ complete) is =
            let some : (structured.parameters b).complete ≢ [] = λ empty. apart (sym is ∙ empty) in
            let several = (structured.parameters b).several some in
            absurd (omega (arith, few, several.1))
          where
            apart : (v ∷ complete) ≡ [] → ⊥
            apart h = cc

    -- a block in which none waits has the caller's alone, where at most one branch leads to it, or where it isn't sealed
    pub alone_few : (b : ℕ) → length (predecessors_of s b) ≤ 1 → pending_of (sealed_of s b) ≡ [] → HasCallersAlone calls f b
    alone_few b few none = alone b few (none_waiting b (sealed_of s b) none)

    pub alone_unsealed : (b : ℕ) → is_yes (sealed_of s b) ≡ false → pending_of (sealed_of s b) ≡ [] → HasCallersAlone calls f b
    alone_unsealed b unsealed none = callers_first b (none_waiting b (sealed_of s b) none) ∙ by (structured.parameters b).complete refl ∙ callers_own b
      where
        by : (complete : List ℕ) → (structured.parameters b).complete ≡ complete → own.params b ++ complete ≡ own.params b
        by [] is = append-nil (own.params b)
        by (v ∷ complete) is =
            let some : (structured.parameters b).complete ≢ [] = λ empty. apart (sym is ∙ empty) in
            absurd (both (sym ((structured.parameters b).several some).0 ∙ unsealed))
          where
            apart : (v ∷ complete) ≡ [] → ⊥
            apart h = cc

            both : true ≡ false → ⊥
            both h = cc

    keeps_none : KeepsNoParameter calls f s
    keeps_none b sealed few = alone b few (sealed_waits b (sealed_of s b) sealed)

    leaves_none : NoneWaits s → LeavesNoParameter calls f s
    leaves_none nothing_waits b few = alone b few (none_waiting b (sealed_of s b) (nothing_waits b))

    pub leaves_few : LeavesFewParameters calls f s
    leaves_few = record {
      keeps = keeps_none;
      leaves = leaves_none;
      without_branches = λ nothing_waits nothing. of_all calls f s (leaves_none nothing_waits) nothing;
    }
