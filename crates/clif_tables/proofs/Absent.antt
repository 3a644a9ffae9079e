-- What stands for an entry that isn't there.
use Rattle.std.proofs.Common.{◌≡◌, ℕ, None, ap, ◌∙◌, sym}
use Rattle.std.specs.Prelude.{slice_get, unwrap_or}
use Rattle.std.proofs.lemmas.Option.{unwrap_or-slice_get}
use Rattle.clif_tables.specs.Lists.{TableLists}
use Rattle.clif_tables.specs.Callees.{function_at, no_function, no_signature, signature_at}

pub no_signature_there : (t : TableLists) (sig : ℕ) → slice_get t.signatures sig ≡ None → signature_at t sig ≡ no_signature
no_signature_there t sig none =
    sym (unwrap_or-slice_get t.signatures sig no_signature) ∙ ap (λ found. unwrap_or found no_signature) none

pub no_function_there : (t : TableLists) (function : ℕ) → slice_get t.functions function ≡ None → function_at t function ≡ no_function
no_function_there t function none =
    sym (unwrap_or-slice_get t.functions function no_function) ∙ ap (λ found. unwrap_or found no_function) none
