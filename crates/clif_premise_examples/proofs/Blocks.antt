-- The blocks of calls: what holds of each one that they switch to, and of names without items, holds of each name.
use Rattle.std.proofs.Common.{◌≡◌, ◌⊎◌, inl, inr, ◌==◌, ℕ, Bool, true, false, List, [], ◌∷◌, refl, sym, ap, ◌∙◌, subst, fold, Option, None, Some}
use Rattle.std.proofs.lemmas.Bool.{and_parts, eqb-true, eq-eqb}
use Rattle.std.specs.Prelude.{map}
use Rattle.std.specs.List.{AllByRecursion}
use Rattle.clif_meaning.specs.Instruction.{Operation, Switch}
use Rattle.clif_meaning.specs.Name.{Name, same_name}
use Rattle.clif_meaning.specs.Premises.{EachItem}
use Rattle.clif_meaning.specs.Program.{Item, Program, empty_program, redirected_item, with_inserted, with_item_at}
use Rattle.clif_meaning.specs.Request.{Build, ChangeJumpDestination, DefVar, SwitchToBlock, UseVar}
use Rattle.clif_expansion.specs.ScriptCall.{Ask, Emit, ScriptCall, emitted_item, program_behind, program_of_calls, program_with_call}

pub name_is : (a b : Name) → same_name a b ≡ true → a ≡ b
name_is a b same =
    let parts = and_parts (a.place == b.place) (a.index == b.index) same in
    ap (λ (n : ℕ). record { place = n; index = a.index }) (eqb-true a.place b.place parts.0)
    ∙ ap (λ (n : ℕ). record { place = b.place; index = n }) (eqb-true a.index b.index parts.1)

pub same_itself : (a : Name) → same_name a a ≡ true
same_itself a = rw (eq-eqb a.place a.place refl, eq-eqb a.index a.index refl) refl

-- the blocks that calls switch to
abbrev pub blocks_before : ScriptCall → List Name → List Name
blocks_before (Ask (SwitchToBlock block)) rest = block ∷ rest
blocks_before _ rest = rest

abbrev pub blocks_of : List ScriptCall → List Name
blocks_of [] = []
blocks_of (call ∷ calls) = blocks_before call (blocks_of calls)

-- the current block is another one
abbrev IsNotAt : Name → Option Name → Type 0
IsNotAt name None = Unit {0}
IsNotAt name (Some block) = same_name name block ≡ false

-- nothing is in the block with this name, nor is it current
abbrev IsFree : Name → Program → Type 0
IsFree name program = (program.items name ≡ []) × IsNotAt name program.current

abbrev SwitchesElsewhere : Name → ScriptCall → Type 0
SwitchesElsewhere name (Ask (SwitchToBlock block)) = same_name name block ≡ false
SwitchesElsewhere name _ = Unit {0}

abbrev Apart : Name → List Name → Type 0
Apart name blocks = AllByRecursion (λ block. same_name name block ≡ false) blocks

split : (name : Name) (call : ScriptCall) (rest : List Name) → Apart name (blocks_before call rest) → SwitchesElsewhere name call × Apart name rest
split name (Ask (SwitchToBlock block)) rest all = all
split name _ rest all = (tt, all)

with_item : (name : Name) (program : Program) (current : Option Name) (item : Item) → IsNotAt name current → IsFree name program
    → IsFree name (with_item_at program current item)
with_item name program None item apart free = free
with_item name program (Some block) item apart free = (rw apart free.0, free.1)

behind : (name : Name) (operation : Operation) (program : Program) → IsFree name program → IsFree name (program_behind operation program)
behind name (Switch keys) program free = (free.0, tt)
behind name _ program free = free

step : (name : Name) (call : ScriptCall) (program : Program) → SwitchesElsewhere name call → IsFree name program → IsFree name (program_with_call program call)
step name (Ask (SwitchToBlock block)) program other free = (free.0, other)
step name (Ask (DefVar variable value)) program other free = with_item name program program.current _ free.1 free
step name (Ask (UseVar variable)) program other free = with_item name (with_inserted program) program.current _ free.1 free
step name (Ask (Build entries instruction)) program other free = with_item name (with_inserted program) program.current _ free.1 free
step name (Ask (ChangeJumpDestination branch from to)) program other free = (ap (map (redirected_item branch from to)) free.0, free.1)
step name (Ask _) program other free = free
step name (Emit imports instruction) program other free =
    behind name instruction.operation _ (with_item name (with_inserted program) program.current (emitted_item program.place instruction) free.1 free)

nothing_there : (name : Name) (calls : List ScriptCall) (program : Program) → Apart name (blocks_of calls) → IsFree name program
    → IsFree name (fold program_with_call program calls)
nothing_there name [] program apart free = free
nothing_there name (call ∷ calls) program apart free =
    let parts = split name call (blocks_of calls) apart in
    nothing_there name calls (program_with_call program call) parts.1 (step name call program parts.0 free)

look : (P : Name → Type 0) (blocks : List Name) → AllByRecursion P blocks → (name : Name) → P name ⊎ Apart name blocks
look P [] all name = inr tt
look P (block ∷ blocks) all name = by (same_name name block) refl (look P blocks all.1 name)
  where
    by : (c : Bool) → same_name name block ≡ c → P name ⊎ Apart name blocks → P name ⊎ Apart name (block ∷ blocks)
    by true same rest = inl (subst P (sym (name_is name block same)) all.0)
    by false other (inl there) = inl there
    by false other (inr apart) = inr (other, apart)

module _ (calls : List ScriptCall) where
  pub each_block : (P : Name → Type 0) → ((name : Name) → (program_of_calls calls).items name ≡ [] → P name) → AllByRecursion P (blocks_of calls) → (name : Name) → P name
  each_block P none all name = by (look P (blocks_of calls) all name)
    where
      by : P name ⊎ Apart name (blocks_of calls) → P name
      by (inl there) = there
      by (inr apart) = none name (nothing_there name calls empty_program apart (refl, tt)).0

  pub each_item : (P : Item → Type 0) → AllByRecursion (λ block. AllByRecursion P ((program_of_calls calls).items block)) (blocks_of calls)
      → EachItem P (program_of_calls calls)
  each_item P = each_block (λ block. AllByRecursion P ((program_of_calls calls).items block)) (λ name none. subst (AllByRecursion P) (sym none) tt)
