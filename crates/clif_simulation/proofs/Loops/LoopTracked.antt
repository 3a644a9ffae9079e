-- The row `both_arms`: nothing is marked or asked for, and its one variable has records.
use Rattle.std.proofs.Common.{◌≡◌, ℕ, zero, suc, inl, inr, Some, None, ◌∙◌, subst, IsTrue}
use Rattle.std.specs.List.{AllByRecursion}
use Rattle.clif_paths.specs.State.{complete}
use Rattle.clif_ssa.specs.Sound.{IsParameterFor}
use Rattle.clif_ssa.specs.Ssa.{record_of}
use Rattle.clif_meaning.specs.Ledger.{has_value, ledger_after}
use Rattle.clif_meaning.specs.Request.{DefVar, NeedStackMap, OfValue, Request, script_of}
use Rattle.clif_simulation.specs.CarryingExamples.{loop_calls, loop_state}
use Rattle.clif_simulation.specs.Tracks.{HasRequest, IsAskedBy, IsAskedFor, TracksOnPaths}
use Rattle.clif_simulation.proofs.Listed.{all_at}
use Rattle.clif_simulation.proofs.Loops.LoopDescribed.{row_described}
use Rattle.clif_simulation.proofs.Loops.LoopTables.{loop_tables}
use Rattle.clif_simulation.proofs.Values.{false_is}

-- a request asks for no stack maps, and assigns to the one variable alone, values
abbrev IsPlain : Request → Type 0
IsPlain (DefVar x name) = (x ≡ 0) × IsTrue (has_value (ledger_after (script_of loop_calls)) name)
IsPlain (NeedStackMap need) = ⊥
IsPlain _ = Unit {0}

all_plain : AllByRecursion IsPlain (script_of loop_calls)
all_plain = search

plain_at : (request : Request) → HasRequest (script_of loop_calls) request → IsPlain request
plain_at request h = all_at IsPlain (script_of loop_calls) h.0 request all_plain h.1

one_variable : (v x : ℕ) → IsParameterFor loop_tables v x → x ≡ 0
one_variable zero x (inl h) = absurd cc
one_variable zero x (inr h) = absurd cc
one_variable (suc zero) x (inl h) = absurd cc
one_variable (suc zero) x (inr h) = same h
  where
    same : complete 0 ≡ complete x → x ≡ 0
    same h = cc
one_variable (suc (suc zero)) x (inl h) = absurd cc
one_variable (suc (suc zero)) x (inr h) = absurd cc
one_variable (suc (suc (suc zero))) x (inl h) = absurd cc
one_variable (suc (suc (suc zero))) x (inr h) = absurd cc
one_variable (suc (suc (suc (suc v)))) x (inl h) = absurd cc
one_variable (suc (suc (suc (suc v)))) x (inr h) = absurd cc

-- it is on record
on_record : (x : ℕ) → x ≡ 0 → ((b : ℕ) → record_of loop_state x b ≡ None) → ⊥
on_record x is none = some 0 (row_described.recorded 0 0 ∙ subst (λ (y : ℕ). record_of loop_state y 0 ≡ None) is (none 0))
  where
    some : (v : ℕ) → Some v ≡ None → ⊥
    some v h = cc

pub row_tracked : TracksOnPaths loop_calls loop_state loop_tables
row_tracked = record {
  parameters = λ v itself p. absurd (false_is p.2);
  only = λ v itself is. absurd (false_is is);
  asked = λ v a. absurd (no_how a a.how);
  unassigned = λ x none name h. on_record x (plain_at (DefVar x name) h).0 none;
  unused = λ x none v itself p. on_record x (one_variable v x p) none;
  values_asked = λ name h. absurd (plain_at (NeedStackMap (OfValue name)) h);
  values_assigned = λ x name h. (plain_at (DefVar x name) h).1;
}
  where
    no_how : {v : ℕ} (a : IsAskedFor loop_calls loop_state v) → IsAskedBy loop_calls loop_state a.name → ⊥
    no_how a (inl h) = plain_at (NeedStackMap (OfValue a.name)) h
    no_how a (inr h) = false_is h.2
