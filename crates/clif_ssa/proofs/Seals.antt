-- What the sealing of all blocks keeps and makes, one block after another.
use Rattle.std.proofs.Common.{◌≡◌, ◌<◌, ◌≤◌, ℕ, Bool, true, length, refl, arith, ◌∙◌, ◌⊎◌}
use Rattle.std.specs.Prelude.{Err}
use Rattle.clif_types.specs.declared.error.BuildError.{BuildError}
use Rattle.clif_ir.specs.Body.{Body}
use Rattle.clif_records.specs.Tables.{is_yes}
use Rattle.clif_ssa.specs.Sealing.{SealsOne}
use Rattle.clif_ssa.specs.Ssa.{SsaState, sealed_of, SealedStays}
use Rattle.clif_ssa.specs.Steps.{SealAllKeeps, SealAllMakes, SealGives, SealKeeps}
use Rattle.clif_ssa.proofs.Constructing.{constructs_none, constructs_then}
use Rattle.clif_ssa.proofs.Naming.{has_more, more-then}
use Rattle.clif_ssa.proofs.Waited.{no_more-sealed, other-same, still-sealed}

-- before the first block
pub all_keep_none : (f : Body) (s : SsaState) → SealAllKeeps f s f s
all_keep_none f s = record {
  predecessors = λ b. refl;
  stay = λ x b v is. is;
  no_more = λ fits. fits;
  more = has_more f;
  constructs = constructs_none f;
  names = λ named. named;
  looks_once = λ once. once;
}

-- one more block
pub all_keep_next : (f : Body) (s : SsaState) (g : Body) (t : SsaState) (h : Body) (u : SsaState) (b : ℕ) → b < length f.blocks → SealAllKeeps f s g t → SealKeeps b g t h u
    → SealAllKeeps f s h u
all_keep_next f s g t h u b inside keeps next = record {
  predecessors = λ c. next.predecessors c ∙ keeps.predecessors c;
  stay = λ x c v is. next.stay x c v (keeps.stay x c v is);
  no_more = λ fits. no_more-sealed t u (length f.blocks) (length g.blocks) b (length f.blocks) inside (omega arith) keeps.more.blocks (keeps.no_more fits) next.no_more;
  more = more-then f g h keeps.more next.more;
  constructs = constructs_then f g h keeps.constructs next.constructs;
  names = λ named. next.names (keeps.names named);
  looks_once = λ once. next.looks_once (keeps.looks_once once);
}

-- an error ends it, at a block that may be sealed
pub all_makes_stopped : (f : Body) (s : SsaState) (g : Body) (t : SsaState) (h : Body) (u : SsaState) (b : ℕ) (e : BuildError) → b < length f.blocks
    → ((c : ℕ) → is_yes (sealed_of s c) ≡ true → is_yes (sealed_of t c) ≡ true)
    → ((c : ℕ) → length f.blocks ≤ c → is_yes (sealed_of t c) ≡ is_yes (sealed_of s c))
    → SealedStays t u ⊎ SealsOne t u b → SealAllMakes f s h u (Err e)
all_makes_stopped f s g t h u b e inside sealed_stays others sealed = record {
  sealed = tt;
  sealed_stays = λ c is. still-sealed t u b sealed c (sealed_stays c is);
  others = λ c above. other-same t u b sealed c (omega (arith, inside, above)) ∙ others c above;
  in_turn = tt;
}

-- after an error nothing is given
pub gives_none : (Spares : Type 0) (WaitsWithin : (ℕ → Bool) → Type 0) (f : Body) (s : SsaState) (g : Body) (t : SsaState) (e : BuildError) → SealGives Spares WaitsWithin f s g t (Err e)
gives_none Spares WaitsWithin f s g t e = record {
  keeps = λ _ _ _ _. tt;
  remembers = λ _ _. tt;
  structured = λ _ _ _. tt;
  tells = tt;
  tracks = λ _. tt;
  within = λ _ _ _. tt;
}
