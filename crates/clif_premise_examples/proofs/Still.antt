-- Items that access nothing, and call no function of the C library by its name: along their runs nothing is asked, whatever is answered.
use Rattle.std.proofs.Common.{◌≡◌, Bool, true, false, List, [], refl, sym, subst}
use Rattle.std.specs.List.{AllByRecursion, list_all}
use Rattle.clif_types.specs.declared.extname.ExternalName.{ExternalName}
use Rattle.clif_types.specs.declared.extname.ExternalName.TheVariants as name
use Rattle.clif_types.specs.declared.types.«Type».{«Type»}
use Rattle.clif_meaning.specs.Access.{call_claims, call_ranges, claims_of, touched_ranges}
use Rattle.clif_meaning.specs.Bits.{Bits}
use Rattle.clif_meaning.specs.Instruction.{Bytes, Call, Load, Operation, Stack, StackStore, Store, TryCall}
use Rattle.clif_meaning.specs.Premises.{ClaimsAreTrue, SparesSpillSlots}
use Rattle.clif_meaning.specs.Program.{Assign, Instruct, Item, Use}
use Rattle.clif_meaning.specs.ScriptMachine.{ScriptState}
use Rattle.clif_meaning.specs.World.{World}
use Rattle.clif_meaning.proofs.EachStep.{each_step}
use Rattle.clif_premise_examples.specs.Premise.{ClaimsTrue, Holds, Situation, SparesSpills, program_in, run_in}
use Rattle.clif_premise_examples.proofs.Blocks.{blocks_of}
use Rattle.clif_premise_examples.proofs.Items.{by_test}

abbrev is_outside : ExternalName → Bool
is_outside (name.LibCall callee) = false
is_outside _ = true

abbrev leaves_memory : Operation → Bool
leaves_memory (Load flags offset) = false
leaves_memory (Store flags offset) = false
leaves_memory (Stack opcode slot offset) = false
leaves_memory (StackStore slot offset) = false
leaves_memory (Bytes operation) = false
leaves_memory (Call callee signature) = is_outside callee
leaves_memory (TryCall callee call) = is_outside callee
leaves_memory _ = true

abbrev pub is_still : Item → Bool
is_still (Instruct place instruction results) = leaves_memory instruction.operation
is_still _ = true

-- what an outside call touches and claims, and an operation that leaves memory
record Nothing (world : World) (operation : Operation) : Type 0 where
  touched : (ty : «Type») (types : List «Type») (bits : List Bits) → touched_ranges world operation ty types bits ≡ []
  claimed : (ty : «Type») (types : List «Type») (bits : List Bits) → claims_of world operation ty types bits ≡ []

no_ranges : (world : World) (callee : ExternalName) (bits : List Bits) → is_outside callee ≡ true → call_ranges world callee bits ≡ []
no_ranges world (name.LibCall callee) bits outside = let no_way : ⊥ = cc in absurd no_way
no_ranges world _ bits outside = refl

no_claims : (world : World) (callee : ExternalName) (bits : List Bits) → is_outside callee ≡ true → call_claims world callee bits ≡ []
no_claims world (name.LibCall callee) bits outside = let no_way : ⊥ = cc in absurd no_way
no_claims world _ bits outside = refl

nothing : (world : World) (operation : Operation) → leaves_memory operation ≡ true → Nothing world operation
nothing world (Load flags offset) still = let no_way : ⊥ = cc in absurd no_way
nothing world (Store flags offset) still = let no_way : ⊥ = cc in absurd no_way
nothing world (Stack opcode slot offset) still = let no_way : ⊥ = cc in absurd no_way
nothing world (StackStore slot offset) still = let no_way : ⊥ = cc in absurd no_way
nothing world (Bytes operation) still = let no_way : ⊥ = cc in absurd no_way
nothing world (Call callee signature) still = record { touched = λ ty types bits. no_ranges world callee bits still; claimed = λ ty types bits. no_claims world callee bits still }
nothing world (TryCall callee call) still = record { touched = λ ty types bits. no_ranges world callee bits still; claimed = λ ty types bits. no_claims world callee bits still }
nothing world _ still = record { touched = λ ty types bits. refl; claimed = λ ty types bits. refl }

of_none : {X : Type 0} (P : X → Type 0) (xs : List X) → xs ≡ [] → AllByRecursion P xs
of_none {X} P xs none = subst (λ (ys : List X). AllByRecursion P ys) (sym none) tt

module _ (s : Situation) (still : AllByRecursion (λ block. list_all is_still ((program_in s).items block) ≡ true) (blocks_of s.calls)) where
  pub spared : Holds s SparesSpills
  spared = each_step (λ item. is_still item ≡ true) (run_in s) (by_test s.calls _ is_still (λ item met. met) still) (SparesSpillSlots (run_in s)) by
    where
      by : (state : ScriptState) (item : Item) → is_still item ≡ true → SparesSpillSlots (run_in s) state item
      by state (Instruct place instruction results) met = of_none _ _ ((nothing s.world instruction.operation met).touched _ _ _)
      by state (Use variable name) met = tt
      by state (Assign variable name) met = tt

  pub claimed : Holds s ClaimsTrue
  claimed = each_step (λ item. is_still item ≡ true) (run_in s) (by_test s.calls _ is_still (λ item met. met) still) (ClaimsAreTrue (run_in s)) by
    where
      by : (state : ScriptState) (item : Item) → is_still item ≡ true → ClaimsAreTrue (run_in s) state item
      by state (Instruct place instruction results) met = of_none _ _ ((nothing s.world instruction.operation met).claimed _ _ _)
      by state (Use variable name) met = tt
      by state (Assign variable name) met = tt
