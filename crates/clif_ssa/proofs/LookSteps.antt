-- What a look-up in a block keeps, and how it ends.
use Rattle.std.proofs.Common.{◌≡◌, ℕ, ◌<◌, true, List, length, refl, ap, ◌∙◌, ◌⊎◌, inl}
use Rattle.std.specs.Prelude.{Some, Result, Ok, Err, OnOk, OnErr}
use Rattle.clif_types.specs.declared.error.BuildError.{BuildError}
use Rattle.clif_types.specs.declared.error.BuildError.TheVariants.{Memory}
use Rattle.clif_types.specs.declared.types.«Type».{«Type»}
use Rattle.clif_ir.specs.Body.{Body}
use Rattle.clif_ir.specs.Consistent.{IsConsistent}
use Rattle.clif_instructions.specs.Members.{stands_in}
use Rattle.clif_records.specs.Passed.{before_first}
use Rattle.clif_ssa.specs.LookUp.{Stage, Copies, IsWalk, LooksUp, WalksTo}
use Rattle.clif_ssa.specs.Running.{stage, Got}
use Rattle.clif_ssa.specs.Ssa.{SsaState, record_of, NamesExist, SameBlocks, SameLookups}
use Rattle.clif_ssa.specs.Steps.{StepKeeps, StepEnds}
use Rattle.clif_records.specs.Tables.{is_yes, predecessors_at, sealed_at}
use Rattle.clif_ssa.proofs.Constructing.{constructs_none}
use Rattle.clif_ssa.proofs.CountedOnce.{NoneLost, counts_then, once_kept}
use Rattle.clif_ssa.proofs.Making.{looked-named, looked-stay, looks_up}
use Rattle.clif_ssa.proofs.Pooling.{pools_again, pools_kept}
use Rattle.clif_ssa.proofs.Steps.{ends_memory, ends_ok, known_same}
use Rattle.clif_ssa.proofs.Waited.{no_more-then}

-- what was found or made is copied to the blocks that were passed
pub keeps_looked : {ty : «Type»} (x : ℕ) (f : Body) (s : SsaState) (g : Body) (t u : SsaState) (block reached value : ℕ) (passed : List ℕ) → IsConsistent f → NamesExist f s
    → block < length f.blocks → IsWalk f s x block passed reached → value < length g.values → StepKeeps x ty f s g t → u.blocks ≡ t.blocks → SameLookups t u
    → ((y b v : ℕ) → record_of u y b ≡ Some v → (record_of t y b ≡ Some v) ⊎ (v ≡ value))
    → ((y b : ℕ) → (record_of u y b ≡ record_of t y b) ⊎ ((y ≡ x) × (stands_in b passed ≡ true))) → NoneLost t u → StepKeeps x ty f s g u
keeps_looked {ty} x f s g t u block reached value passed known named there walk exists keeps blocks lookups recorded others kept =
    let sealed : SameBlocks t u = λ b. ap (λ all. sealed_at all b) blocks in
    record {
      predecessors = λ b. ap (λ all. predecessors_at all b) blocks ∙ keeps.predecessors b;
      stay = looked-stay f s t u x block reached passed walk keeps.stay others;
      flags = λ b. ap is_yes (sealed b) ∙ keeps.flags b;
      no_more = no_more-then s t u (length f.blocks) (length f.blocks) refl keeps.no_more (known_same t u (length f.blocks) blocks);
      more = keeps.more;
      constructs = keeps.constructs;
      names = λ before. looked-named g t u value exists blocks recorded (keeps.names before);
      once = counts_then s t u keeps.once (once_kept t u kept lookups sealed);
      pools = pools_again ty f s g t g u keeps.pools (pools_kept ty g g t u (inl refl) (constructs_none g) sealed);
    }

pub looked_copied : (x : ℕ) (ty : «Type») (block : ℕ) (passed : List ℕ) (reached value : ℕ) (m n : Stage) (t : SsaState) {A E : Type 0} (answer : Result A E)
    → WalksTo m.function m.state x block passed reached → reached < length m.function.blocks → Got x ty reached value m n
    → OnOk answer (Copies n.state t x value (before_first reached passed)) → t.blocks ≡ n.state.blocks → SameLookups n.state t → t.tracking ≡ n.state.tracking
    → OnOk answer (LooksUp x ty block m (stage n.function t n.look_up))
looked_copied x ty block passed reached value m n t (Ok a) walks exists got copies blocks lookups tracking = looks_up x ty block passed reached value m n t walks exists got copies blocks lookups tracking
looked_copied x ty block passed reached value m n t (Err e) walks exists got copies blocks lookups tracking = tt

pub ends_copied : {TableIsFull : Body → Type 0} (g : Body) {A : Type 0} (answer : Result A BuildError) → OnErr answer (answer ≡ Err Memory) → StepEnds TableIsFull g answer
ends_copied g (Ok a) memory = ends_ok g a
ends_copied g (Err e) memory = ends_memory g e memory
