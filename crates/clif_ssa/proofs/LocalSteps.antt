-- A variable is used where the value is found in its block alone: what is answered.
use Rattle.std.proofs.Common.{◌≡◌, ◌≢◌, ℕ, ◌==◌, ◌&&◌, true, false, [], ◌∷◌, ◌++◌, length, ap, sym, ◌∙◌, subst}
use Rattle.std.specs.Prelude.{Result, Ok, Err, MatchOption, if◌then◌else◌}
use Rattle.std.specs.Option.{option_to_list}
use Rattle.std.proofs.lemmas.List.{append-nil}
use Rattle.clif_types.specs.declared.error.BuildError.{BuildError}
use Rattle.clif_types.specs.declared.error.BuildError.TheVariants.{Memory}
use Rattle.clif_types.specs.declared.types.«Type».{«Type»}
use Rattle.clif_ir.specs.Body.{Body, value_at}
use Rattle.clif_ir.specs.Changes.{with_param}
use Rattle.clif_ir.specs.Reading.{param_home}
use Rattle.clif_records.specs.declared.side_effects.SideEffects.{SideEffects}
use Rattle.clif_records.specs.Tables.{No, is_yes, one_more, pending_of, sealed_at}
use Rattle.clif_ssa.specs.Constructs.{OnlyConstructs, TellsMore, TellsZeros}
use Rattle.clif_records.specs.Stacks.{LookUpState}
use Rattle.clif_records.specs.Tracking.{with_binding}
use Rattle.clif_ssa.specs.Ssa.{SsaState, sealed_of, zeroed_in, CountsLookup, Records, SameBlocks, SameLookups, zero_value}
use Rattle.clif_ssa.specs.Steps.{UsesLocally}
use Rattle.clif_ssa.proofs.Constructing.{tells_none, tells_then}
use Rattle.clif_ssa.proofs.Local.{param-zero-answer, param-zero-told, param-zeroes}

yes_no : ◌≡◌ true false → ⊥
yes_no same = cc

-- a look-up is counted after a step that counts none
pub counted_from : (s t u : SsaState) (x b : ℕ) → SameLookups s t → CountsLookup t u x b → CountsLookup s u x b
counted_from s t u x b same counted y c = counted y c ∙ ap (λ n. if y == x && c == b then one_more n else n) (same y c)

-- a parameter waits after a step that leaves the blocks
pub waiting_from : (s t u : SsaState) (x b v w : ℕ) → t.blocks ≡ s.blocks → v ≡ w
    → ((c : ℕ) → sealed_of u c ≡ (if c == b then No (pending_of (sealed_of t c) ++ record { variable = x; param = v } ∷ []) else sealed_of t c))
    → (c : ℕ) → sealed_of u c ≡ (if c == b then No (pending_of (sealed_of s c) ++ record { variable = x; param = w } ∷ []) else sealed_of s c)
waiting_from s t u x b v w same is waiting c =
    waiting c
    ∙ ap (λ known. if c == b then No (pending_of (sealed_at known c) ++ record { variable = x; param = v } ∷ []) else sealed_at known c) same
    ∙ ap (λ p. if c == b then No (pending_of (sealed_of s c) ++ record { variable = x; param = p } ∷ []) else sealed_of s c) is

-- HOW MUCH IS TAKEN -----------------------------------------------------------------------------------------------

-- WHAT IS ANSWERED ------------------------------------------------------------------------------------------------

-- an error
pub use_refused : (x : ℕ) (ty : «Type») (b : ℕ) (f : Body) (s : SsaState) (g : Body) (t : SsaState) (e : BuildError) → SameBlocks s t → UsesLocally x ty b f s g t (Err e)
use_refused x ty b f s g t e blocks = record {
  waits = λ _. (tt, tt);
  zero = λ _. (tt, tt);
  counts_none = λ _. tt;
  counts_one = λ _. tt;
  tells = tt;
  err = blocks;
}

-- an error of another call
pub error_from : {A B : Type 0} (e : BuildError) (X : Type 0) → (◌≢◌ {A = Result A BuildError} (Err e) (Err Memory) → X) → ◌≢◌ {A = Result B BuildError} (Err e) (Err Memory) → X
error_from e X follows other = follows (λ is. other (ap (λ d. Err d) (same is)))
  where
    same : {A : Type 0} {c d : BuildError} → ◌≡◌ {A = Result A BuildError} (Err c) (Err d) → c ≡ d
    same is = cc

-- in an unsealed block a new parameter waits
pub use_waits : (x : ℕ) (ty : «Type») (b : ℕ) (f : Body) (s : SsaState) (g : Body) (t : SsaState) (v : ℕ) (effects : SideEffects)
    → is_yes (sealed_of s b) ≡ false → v ≡ length f.values → g ≡ with_param f b ty → Records s t x b (length f.values)
    → t.tracking ≡ with_binding s.tracking x (length f.values) → SameLookups s t
    → ((c : ℕ) → sealed_of t c ≡ (if c == b then No (pending_of (sealed_of s c) ++ record { variable = x; param = length f.values } ∷ []) else sealed_of s c))
    → effects.instructions_added_to_blocks.items ≡ [] → UsesLocally x ty b f s g t (Ok (v, effects))
use_waits x ty b f s g t v effects unsealed number made recorded tracking lookups waiting nothing = record {
  waits = λ _. (record { function = made; recorded = recorded; tracking = tracking; waiting = waiting }, (number, nothing));
  zero = λ sealed. absurd (yes_no (sym sealed ∙ unsealed));
  counts_none = λ _. lookups;
  counts_one = λ sealed. absurd (yes_no (sym sealed ∙ unsealed));
  tells = subst (λ told. TellsZeros f g told) (sym nothing) (tells_none f g (ap (λ (h : Body). length h.insts) made));
  err = tt;
}

-- in a sealed one it becomes a name of a zero
pub use_zeroes : (x : ℕ) (ty : «Type») (b : ℕ) (f : Body) (s : SsaState) (g h : Body) (t : SsaState) (v answer : ℕ) (old effects : SideEffects)
    → is_yes (sealed_of s b) ≡ true → v ≡ length f.values → g ≡ with_param f b ty → Records s t x b (length f.values)
    → t.tracking ≡ with_binding s.tracking x (length f.values) → SameBlocks s t → CountsLookup s t x b
    → h ≡ zeroed_in (param_home g v) g v → MatchOption (param_home g v) (answer ≡ v) (λ _. answer ≡ zero_value g (value_at g v).ty) → old.instructions_added_to_blocks.items ≡ []
    → effects.instructions_added_to_blocks.items ≡ old.instructions_added_to_blocks.items ++ option_to_list (param_home g v)
    → OnlyConstructs g h → TellsZeros g h (option_to_list (param_home g v)) → UsesLocally x ty b f s h t (Ok (answer, effects))
use_zeroes x ty b f s g h t v answer old effects sealed number made recorded tracking blocks counted done answers nothing told constructs tells = record {
  waits = λ unsealed. absurd (yes_no (sym sealed ∙ unsealed));
  zero = λ _. (
    param-zeroes f g h s t x b v ty made number done recorded tracking blocks,
    (
      param-zero-answer f g b v answer ty made number answers,
      param-zero-told f g b v ty old.instructions_added_to_blocks.items effects.instructions_added_to_blocks.items made number nothing told,
    ),
  );
  counts_none = λ unsealed. absurd (yes_no (sym sealed ∙ unsealed));
  counts_one = λ _. counted;
  tells = subst (λ xs. TellsZeros f h xs) (sym (told ∙ ap (λ xs. xs ++ option_to_list (param_home g v)) nothing))
      (tells_then f g h [] (option_to_list (param_home g v)) constructs (tells_none f g (ap (λ (k : Body). length k.insts) made)) tells);
  err = tt;
}

-- a parameter tells of no zero
pub param_tells : (f g : Body) (b : ℕ) (ty : «Type») (l l' : LookUpState) → g ≡ with_param f b ty → l'.zeros ≡ l.zeros → TellsMore f g l.zeros l'.zeros
param_tells f g b ty l l' made same = ([], same ∙ sym (append-nil l.zeros), tells_none f g (ap (λ (h : Body). length h.insts) made))
