-- A new context has no record of any variable.
use Rattle.std.proofs.Common.{◌≡◌, ℕ, sym, subst}
use Rattle.std.specs.Prelude.{None}
use Rattle.clif_records.proofs.RecordMaps.{record_at-empty}
use Rattle.clif_ssa.specs.Ssa.{SsaState, no_state, record_of}
use Rattle.clif_builder.specs.Context.{ContextState}
use Rattle.clif_builder.specs.Marks.{IsUnused}

pub unused : (c : ContextState) (variable : ℕ) → c.ssa ≡ no_state → IsUnused c variable
unused c variable is block =
    subst (λ (s : SsaState). record_of s variable block ≡ None) (sym is) (record_at-empty variable block)
