-- The plain program's machine walks.
use Rattle.std.proofs.Common.{◌≡◌, ℕ, suc, List, [], ◌∷◌, ◌++◌, map, refl, sym, ◌∙◌, ap, subst, Option, Some}
use Rattle.std.specs.Prelude.{◌≢◌, slice_get}
use Rattle.std.specs.List.{AllByRecursion}
use Rattle.clif_types.specs.declared.types.«Type».{«Type»}
use Rattle.clif_meaning.specs.Access.{Holds, claims_of, touched_ranges}
use Rattle.clif_meaning.specs.Bits.{Bits}
use Rattle.clif_meaning.specs.Instruction.{Arithmetic, Argument, Operation, Compute, Jump, Brif, BrTable, Edge, Instruction}
use Rattle.clif_meaning.specs.Memory.{Memory, Range}
use Rattle.clif_meaning.specs.Name.{Name, same_name}
use Rattle.clif_meaning.specs.Outcome.{Computed, Outcome, Goes, outcome_of, outcome_of_computed}
use Rattle.clif_meaning.specs.Program.{Item, Instruct}
use Rattle.clif_meaning.specs.ScriptMachine.{ScriptRun, ScriptState, carry_out, enter_block, follow_edge, script_shown, script_step}
use Rattle.clif_meaning.specs.Store.{argument_bits, assigned}
use Rattle.clif_meaning.specs.World.{World}
use Rattle.clif_expansion.specs.Line.{Contents, IsSafe, LiesWithin}
use Rattle.clif_expansion.specs.Reading.{Generated, Reading}
use Rattle.clif_expansion.specs.Walk.{Arriving, Computes, Computing, IsBranch, Passing, Surroundings, Takes, Walk}
use Rattle.clif_expansion.proofs.Lines.{one_given, standing}
use Rattle.clif_expansion.proofs.Names.{assigned_elsewhere}
use Rattle.clif_expansion.proofs.Steps.{Passes}

-- SAFE STEPS --------------------------------------------------------------------------------------------------------------

-- it holds of each element of no list
of_none : {X : Type 0} (P : X → Type 0) (xs : List X) → xs ≡ [] → AllByRecursion P xs
of_none {X} P xs none = subst (λ (ys : List X). AllByRecursion P ys) (sym none) tt

no_claim : (world : World) (operation : Operation) (ty : «Type») (types : List «Type») (bits : List Bits) → IsBranch operation → claims_of world operation ty types bits ≡ []
no_claim world Jump ty types bits is = refl
no_claim world Brif ty types bits is = refl
no_claim world (BrTable entries) ty types bits is = refl
no_claim world _ ty types bits is = absurd is

no_range : (world : World) (operation : Operation) (ty : «Type») (types : List «Type») (bits : List Bits) → IsBranch operation → touched_ranges world operation ty types bits ≡ []
no_range world Jump ty types bits is = refl
no_range world Brif ty types bits is = refl
no_range world (BrTable entries) ty types bits is = refl
no_range world _ ty types bits is = absurd is

branch_safe : (world : World) (types : Name → «Type») (ranges : List Range) (instruction : Instruction Name Name) (names : Name → Bits)
    → IsBranch instruction.operation → IsSafe world types ranges instruction names
branch_safe world types ranges instruction names is = record {
  claims = of_none (Holds world) _ (no_claim world instruction.operation instruction.controlling (map types instruction.operands) (map names instruction.operands) is);
  within = of_none (LiesWithin ranges) _ (no_range world instruction.operation instruction.controlling (map types instruction.operands) (map names instruction.operands) is);
}

compute_safe : (world : World) (types : Name → «Type») (ranges : List Range) (instruction : Instruction Name Name) (names : Name → Bits) (arithmetic : Arithmetic)
    → instruction.operation ≡ Compute arithmetic → IsSafe world types ranges instruction names
compute_safe world types ranges instruction names arithmetic is = record {
  claims = of_none (Holds world) _
      (ap (λ (operation : Operation). claims_of world operation instruction.controlling (map types instruction.operands) (map names instruction.operands)) is);
  within = of_none (LiesWithin ranges) _
      (ap (λ (operation : Operation). touched_ranges world operation instruction.controlling (map types instruction.operands) (map names instruction.operands)) is);
}

-- STEPS -------------------------------------------------------------------------------------------------------------------

none_assigned : (places : List Name) (old : Name → Bits) → assigned same_name places [] old ≡ old
none_assigned [] old = refl
none_assigned (place ∷ places) old = refl

-- a block that is entered with nothing
pub enters : (run : ScriptRun) (state : ScriptState) (contents : Contents) (items : List Item) (block : Name)
    → enter_block run (standing state contents items) block [] ≡ standing state contents (run.program.items block)
enters run state contents items block =
    ap (λ (names : Name → Bits). standing state (record { names = names; memory = contents.memory }) (run.program.items block))
    (none_assigned (run.program.parameters block) contents.names)

-- an instruction goes along an edge that passes nothing
pub goes_along : (run : ScriptRun) (state : ScriptState) (contents : Contents) (place : ℕ) (instruction : Instruction Name Name) (results : List Name) (rest : List Item)
    (index : ℕ) (edge : Edge Name Name)
    → outcome_of run.world instruction.operation instruction.controlling (map run.name_type instruction.operands) (map contents.names instruction.operands) contents.memory ≡ Goes index [] contents.memory
    → slice_get instruction.edges index ≡ Some edge → edge.arguments ≡ []
    → script_step run (standing state contents (Instruct place instruction results ∷ rest)) ≡ standing state contents (run.program.items edge.target)
goes_along run state contents place instruction results rest index edge goes there nothing =
    let here : ScriptState = standing state contents (Instruct place instruction results ∷ rest) in
    ap (λ (outcome : Outcome). carry_out run here instruction.edges results rest outcome) goes
    ∙ ap (λ (taken : Option (Edge Name Name)). follow_edge run here [] taken) there
    ∙ ap (λ (arguments : List (Argument Name)). enter_block run here edge.target (map (argument_bits contents.names []) arguments)) nothing
    ∙ enters run state contents (Instruct place instruction results ∷ rest) edge.target

module _ (run : ScriptRun) (reading : Reading) (ranges : List Range) (state : ScriptState) (memory : Memory) where
  abbrev around : Surroundings
  around = record { world = run.world; reading = reading; types = run.name_type; program = run.program }

  abbrev at : (Name → Bits) → List Item → ScriptState
  at names items = standing state (record { names = names; memory = memory }) items

  computing : (place : ℕ) (instruction : Instruction Name Name) (results : List Name) (rest : List Item) (values : List Bits) (before : Name → Bits)
      → Computes around instruction results before values
      → script_step run (at before (Instruct place instruction results ∷ rest)) ≡ at (assigned same_name results values before) rest
  computing place instruction results rest values before does =
      one_given run state (record { names = before; memory = memory }) place instruction results rest values memory
      (ap (λ (operation : Operation). outcome_of run.world operation instruction.controlling (map run.name_type instruction.operands) (map before instruction.operands) memory) does.is_arithmetic
      ∙ ap (λ (result : Computed). outcome_of_computed result memory) does.computes)

  taking : (place : ℕ) (instruction : Instruction Name Name) (results : List Name) (rest : List Item) (before : Name → Bits) (edge : Edge Name Name)
      → Takes around instruction before edge
      → script_step run (at before (Instruct place instruction results ∷ rest)) ≡ at before (run.program.items edge.target)
  taking place instruction results rest before edge takes =
      goes_along run state (record { names = before; memory = memory }) place instruction results rest takes.index edge (takes.goes memory) takes.there takes.nothing

  -- one more step at the front
  one_more : (names next : Name → Bits) (place : ℕ) (instruction : Instruction Name Name) (results : List Name) (rest items : List Item) (n : ℕ) (end : ScriptState)
      → IsSafe run.world run.name_type ranges instruction names
      → script_step run (at names (Instruct place instruction results ∷ rest)) ≡ at next items
      → Passes run ranges n (at next items) end
      → Passes run ranges (suc n) (at names (Instruct place instruction results ∷ rest)) end
  one_more names next place instruction results rest items n end safe step passes = (
    safe,
    ap (script_shown run) step,
    subst (λ (s : ScriptState). Passes run ranges n s end) (sym step) passes,
  )

  appended_none : (items : List Item) → items ++ [] ≡ items
  appended_none [] = refl
  appended_none (item ∷ items) = ap (λ (more : List Item). item ∷ more) (appended_none items)

  -- from the code, whatever is behind it, some steps lead to the block
  pub walk_passes : (block : Name) (items rest : List Item) (before after : Name → Bits) (branches tables : ℕ) → Walk around block items before after branches tables
      → (n : ℕ) × Passes run ranges (suc n) (at before (items ++ rest)) (at after (run.program.items block))
  walk_passes block items rest before after branches tables (Computing place instruction results more values b a bs ts does walk) =
      let others = walk_passes block more rest (assigned same_name results values before) after bs ts walk in (
        suc others.0,
        one_more before (assigned same_name results values before) place instruction results (more ++ rest) (more ++ rest) (suc others.0) (at after (run.program.items block))
            (compute_safe run.world run.name_type ranges instruction before does.arithmetic does.is_arithmetic)
            (computing place instruction results (more ++ rest) values before does)
            others.1,
      )
  walk_passes block items rest before after branches tables (Passing place instruction results more edge b a bs ts takes generated walk) =
      let others = walk_passes block (run.program.items edge.target) [] before after bs ts walk in (
        suc others.0,
        one_more before before place instruction results (more ++ rest) (run.program.items edge.target) (suc others.0) (at after (run.program.items block))
            (branch_safe run.world run.name_type ranges instruction before takes.is_branch)
            (taking place instruction results (more ++ rest) before edge takes)
            (subst (λ (is : List Item). Passes run ranges (suc others.0) (at before is) (at after (run.program.items block))) (appended_none (run.program.items edge.target)) others.1),
      )
  walk_passes block items rest before after branches tables (Arriving place instruction results more edge b takes target) = (
    0,
    one_more before before place instruction results (more ++ rest) (run.program.items edge.target) 0 (at before (run.program.items block))
        (branch_safe run.world run.name_type ranges instruction before takes.is_branch)
        (taking place instruction results (more ++ rest) before edge takes)
        (ap (λ (name : Name). at before (run.program.items name)) (sym target)),
  )

-- A walk changes generated names alone.
pub walk_keeps : (through : Surroundings) (block : Name) (items : List Item) (before after : Name → Bits) (branches tables : ℕ) → Walk through block items before after branches tables
    → (x : Name) → through.reading x ≢ Generated → after x ≡ before x
walk_keeps through block items before after branches tables (Computing place instruction results more values b a bs ts does walk) x kept =
    walk_keeps through block more (assigned same_name results values before) after bs ts walk x kept
    ∙ assigned_elsewhere through.reading results values before x does.generated kept
walk_keeps through block items before after branches tables (Passing place instruction results more edge b a bs ts takes generated walk) x kept =
    walk_keeps through block (through.program.items edge.target) before after bs ts walk x kept
walk_keeps through block items before after branches tables (Arriving place instruction results more edge b takes target) x kept = refl
