-- A jump that passes an argument to a block before the block's parameter is made, read beside interrupted runs.
use Rattle.std.proofs.Common.{◌≡◌, ℕ, zero, suc, Bool, false, List, [], ◌∷◌, slice_get, Some, Contains, ◌⊎◌, inl, inr, refl, sym, ◌∙◌, ap, subst, arith}
use Rattle.std.specs.List.{AllByRecursion}
use Rattle.clif_types.specs.declared.target.PointerWidth.{PointerWidth}
use Rattle.clif_ir.specs.Body.{follow, resolved}
use Rattle.clif_meaning.specs.Bits.{Bits}
use Rattle.clif_meaning.specs.Name.{Name, answer_of, same_name}
use Rattle.clif_tables.specs.Callees.{types_of}
use Rattle.clif_meaning.specs.Request.{script_of}
use Rattle.clif_meaning.specs.Ledger.{ledger_after}
use Rattle.clif_meaning.specs.Program.{Item}
use Rattle.clif_meaning.specs.World.{World}
use Rattle.clif_meaning.specs.Store.{assigned}
use Rattle.clif_meaning.specs.Machine.{Machine, Control, At, IsStuck, Observation, state_after}
use Rattle.clif_meaning.specs.ScriptMachine as script
use Rattle.clif_meaning.specs.ScriptMachine.{ScriptRun}
use Rattle.clif_meaning.specs.FunctionMachine.{Collector, FunctionRun, same_value}
use Rattle.clif_meaning.specs.Path.{Place}
use Rattle.clif_meaning.specs.WellPlaced.{item_names, item_passes, program_code, IsGivenBefore, given_on_entry}
use Rattle.clif_meaning.specs.BranchExamples.{block}
use Rattle.clif_meaning.specs.SampleExamples.{sample_signature}
use Rattle.clif_meaning.proofs.StraightLine.{nothing_contained, none_of}
use Rattle.clif_meaning.proofs.FirstRow.{one_of, first_of_one}
use Rattle.clif_simulation.specs.Tables.{answered, block_name, program_so_far}
use Rattle.clif_simulation.specs.Reading.{code_so_far, behind, may_grow, IsItemTypedSoFar, PremisesSoFar, script_run_so_far, function_run_so_far}
use Rattle.clif_simulation.specs.Interrupted.{Unknowns, ScriptStanding, FunctionStanding, interrupted_script, interrupted_function, script_edge, script_goes, HasBeside, RunsBeside, ReadsRight}
use Rattle.clif_simulation.specs.InterruptedExamples.{early_jump_calls, early_jump_body, early_jump_state}
use Rattle.clif_simulation.proofs.Rows.RecordsListed.{nothing_there, early_record}
use Rattle.clif_simulation.proofs.Loops.LoopWaiting.{nothing_at, of_one_block}

abbrev items : Name → List Item
items name = (program_so_far early_jump_calls).items name

-- the entry's parameter
abbrev first : Name
first = answer_of 2 0

-- What is given before a place ------------------------------------------------------------------------------------------

at_entry : (x : Name) → IsGivenBefore (code_so_far early_jump_calls) x (behind (block 0) 0) → first ≡ x
at_entry x given = by (given [] (refl, (refl, omega arith)))
  where
    by : Contains (first ∷ []) x ⊎ ⊥ → first ≡ x
    by (inl there) = one_of first x there
    by (inr none) = absurd none

at_front : (x : Name) → IsGivenBefore (code_so_far early_jump_calls) x (behind (block 1) 0) → first ≡ x
at_front x given = by (given (behind (block 0) 0 ∷ []) (inr (first_of_one (block 1) (block 1) refl, (refl, omega arith)), (refl, (refl, omega arith))))
  where
    by : Contains [] x ⊎ (Contains [] x ⊎ Contains (first ∷ []) x ⊎ ⊥) → first ≡ x
    by (inl there) = absurd (nothing_contained x there)
    by (inr (inl there)) = absurd (nothing_contained x there)
    by (inr (inr (inl there))) = one_of first x there
    by (inr (inr (inr none))) = absurd none

-- both sides get one argument alike
same_argument : (arguments : List Bits) → assigned same_name (first ∷ []) arguments (λ n. 0) first ≡ assigned same_value (0 ∷ []) arguments (λ v. 0) 0
same_argument [] = refl
same_argument (bits ∷ arguments) = refl

stuck_there : {X : Type 0} {rest : List X} → IsStuck ≡ At rest → ⊥
stuck_there e = cc

-- Along the jump --------------------------------------------------------------------------------------------------------

module _ (width : PointerWidth) (world : World) (tracked : Name → Bool) (collector : Collector) (unknowns : Unknowns) where
  abbrev left_run : ScriptRun
  left_run = script_run_so_far early_jump_calls early_jump_body world tracked

  abbrev right_run : FunctionRun
  right_run = function_run_so_far early_jump_calls early_jump_body world collector

  abbrev left : Machine ScriptStanding Observation
  left = interrupted_script early_jump_calls early_jump_state unknowns 0 (block 0) left_run

  abbrev right : Machine FunctionStanding Observation
  right = interrupted_function early_jump_state unknowns 0 right_run

  abbrev SameBits : ScriptStanding → FunctionStanding → Name → Type 0
  SameBits a c x = a.state.names x ≡ c.state.values (resolved early_jump_body (answered early_jump_calls x))

  -- behind the jump nothing follows
  stuck : (n : ℕ) → (state_after left (suc (suc n))).state.control ≡ IsStuck
  stuck zero = refl
  stuck (suc n) =
      ap (λ (c : Control Item).
      (script_goes early_jump_calls early_jump_state unknowns (state_after left (suc (suc n)))
      (script_edge left_run (state_after left (suc (suc n))).state c)
      (script.step_at left_run (state_after left (suc (suc n))).state c)).state.control) (stuck n)
      ∙ stuck n

  runs : (n : ℕ) (rest : List Item) → (state_after left n).state.control ≡ At rest → HasBeside early_jump_calls early_jump_body early_jump_state (state_after left n) right
  unfolding follow
  runs zero rest on = record {
    block = 0;
    named = refl;
    steps = 0;
    entries = refl;
    beside = record {
      script_at = refl;
      function_at = record { index = 0; at = refl; instructions = refl };
      same_memory = refl;
      same_events = refl;
      names = λ x given. subst (SameBits (state_after left 0) (state_after right 0)) (at_entry x given) (same_argument world.arguments);
      records = λ at_end x v is. nothing_there (sym (early_record x _) ∙ is);
    };
  }
  runs (suc zero) rest on = record {
    block = 1;
    named = refl;
    steps = 1;
    entries = refl;
    beside = record {
      script_at = refl;
      function_at = record { index = 0; at = refl; instructions = refl };
      same_memory = refl;
      same_events = refl;
      names = λ x given. subst (SameBits (state_after left 1) (state_after right 1)) (at_front x given) (same_argument world.arguments);
      records = λ at_end x v is. nothing_there (sym (early_record x _) ∙ is);
    };
  }
  runs (suc (suc n)) rest on = absurd (stuck_there (sym (stuck n) ∙ on))

is_block : (a b : Name) → Some a ≡ Some b → a ≡ b
is_block a b h = cc

apart : (name : Name) → block 0 ≡ name → block 1 ≡ name → ⊥
apart name one two = let h : 0 ≡ 1 = ap (λ (n : Name). n.place) (one ∙ sym two) in omega (arith, h)

the_entry : (number : ℕ) (name : Name) → block_name early_jump_calls number ≡ Some name → Some (block 0) ≡ Some name → (number ≡ 0) × (block 0 ≡ name)
the_entry zero name named is = (refl, is_block (block 0) name is)
the_entry (suc zero) name named is = absurd (apart name (is_block (block 0) name is) (is_block (block 1) name named))
the_entry (suc (suc number)) name named is = cc

-- both runs, from the entry
abbrev Runs : PointerWidth → World → (Name → Bool) → Collector → ℕ → Name → Type 0
Runs width world tracked collector =
    RunsBeside early_jump_calls early_jump_body early_jump_state (script_run_so_far early_jump_calls early_jump_body world tracked)
    (function_run_so_far early_jump_calls early_jump_body world collector)

pub reads_right : ReadsRight early_jump_calls sample_signature early_jump_body early_jump_state
reads_right width world tracked collector fits premises free moves number name named is_entry = by (the_entry number name named is_entry)
  where
    by : (number ≡ 0) × (block 0 ≡ name) → Runs width world tracked collector number name
    by is =
        subst (λ (b : ℕ). Runs width world tracked collector b name) (sym is.0)
        (subst (Runs width world tracked collector 0) is.1 (runs width world tracked collector))

-- The premises ----------------------------------------------------------------------------------------------------------

elsewhere : (name : Name) → same_name name (block 0) ≡ false → items name ≡ []
elsewhere name other = rw other refl

each_items : (P : List Item → Type 0) → P [] → P (items (block 0)) → (name : Name) → P (items name)
each_items P none = of_one_block items (block 0) elsewhere (λ name list. P list) (λ name. none)

-- the jump alone passes anything: the entry's parameter
record IsPassed (q : Place Name) (x : Name) : Type 0 where
  here : q.block ≡ block 0
  index : q.index ≡ 0
  is : first ≡ x

-- what an item of these passes, at this place of this block
abbrev Passes : Name → Name → List Item → Type 0
Passes x name list = (k : ℕ) → Contains (item_passes (slice_get list k)) x → (name ≡ block 0) × (k ≡ 0) × (first ≡ x)

is_passed : (q : Place Name) (x : Name) → Contains (item_passes (slice_get (items q.block) q.index)) x → IsPassed q x
is_passed q x there =
    let found = of_one_block items (block 0) elsewhere (Passes x) (λ name. nowhere name) of_entry q.block q.index there in
    record { here = found.0; index = found.1; is = found.2 }
  where
    of_entry : Passes x (block 0) (items (block 0))
    of_entry zero passed = (refl, refl, one_of first x passed)
    of_entry (suc zero) passed = absurd (nothing_contained x passed)
    of_entry (suc (suc k)) passed = absurd (nothing_contained x passed)

    nowhere : (name : Name) → Passes x name []
    nowhere name zero passed = absurd (nothing_contained x passed)
    nowhere name (suc k) passed = absurd (nothing_contained x passed)

passed_before : (q : Place Name) (x : Name) → IsPassed q x → IsGivenBefore (program_code (program_so_far early_jump_calls)) x q
passed_before q x passed path walk =
    inl (subst (λ (b : Name). Contains (given_on_entry (program_code (program_so_far early_jump_calls)) b q.index) x) (sym passed.here)
    (subst (λ (k : ℕ). Contains (given_on_entry (program_code (program_so_far early_jump_calls)) (block 0) k) x) (sym passed.index) (first_of_one first x passed.is)))

pub premises : PremisesSoFar (may_grow early_jump_calls) early_jump_calls sample_signature
premises = record {
  well_typed = record {
    items = each_items
        (AllByRecursion (IsItemTypedSoFar (may_grow early_jump_calls) (ledger_after (script_of early_jump_calls)) (program_so_far early_jump_calls)
        (types_of sample_signature.returns))) tt
        ((record { made_at = refl; operands = tt; edges = tt }, (λ settled. cc, tt)), tt);
    entry = refl;
  };
  given_before = record {
    named = λ q x there.
        absurd (none_of (item_names (slice_get (items q.block) q.index)) x
        (nothing_at item_names refl (items q.block) q.index (each_items (AllByRecursion (λ item. item_names (Some item) ≡ [])) tt (refl, tt) q.block)) there);
    passed = λ q x there. inr (passed_before q x (is_passed q x there));
  };
}

-- one argument, and no parameter
pub settled : PremisesSoFar (λ block. false) early_jump_calls sample_signature → ⊥
settled so_far = differ ((so_far.well_typed.items (block 0)).0.1.0 refl)
  where
    differ : {X : Type 0} {x : X} {xs : List X} → x ∷ xs ≡ [] → ⊥
    differ h = cc
