-- Walks that go on, and walks in code that grew.
use Rattle.std.proofs.Common.{◌≡◌, ◌+◌, ℕ, List, [], ◌∷◌, ◌++◌, map, sym, ◌∙◌, ap, subst, arith}
use Rattle.std.specs.List.{AllByRecursion}
use Rattle.std.proofs.Math.Path.{fun_ext}
use Rattle.clif_types.specs.declared.types.«Type».{«Type»}
use Rattle.clif_meaning.specs.Bits.{Bits}
use Rattle.clif_meaning.specs.Instruction.{Edge, Instruction}
use Rattle.clif_meaning.specs.Name.{Name, same_name}
use Rattle.clif_meaning.specs.Outcome.{computed, outcome_of}
use Rattle.clif_meaning.specs.Program.{Item}
use Rattle.clif_meaning.specs.Store.{assigned}
use Rattle.clif_expansion.specs.Reading.{Reading}
use Rattle.clif_expansion.specs.Walk.{Arriving, Computes, Computing, IsGenerated, Passing, Surroundings, Takes, Walk}
use Rattle.clif_expansion.specs.WalkLaws.{Extends, WalksGoOn}

-- with as many branches and tables
counted : (around : Surroundings) (block : Name) (items : List Item) (before after : Name → Bits) (branches tables others tables' : ℕ)
    → branches ≡ others → tables ≡ tables' → Walk around block items before after branches tables → Walk around block items before after others tables'
counted around block items before after branches tables others tables' same same' walk =
    subst (λ (b : ℕ). Walk around block items before after b tables') same (subst (λ (t : ℕ). Walk around block items before after branches t) same' walk)

through : (around : Surroundings) (between block : Name) (items : List Item) (before middle after : Name → Bits) (branches tables more_branches more_tables : ℕ)
    → Walk around between items before middle branches tables → IsGenerated around.reading between
    → Walk around block (around.program.items between) middle after more_branches more_tables
    → Walk around block items before after (branches + more_branches) (tables + more_tables)
through around between block items before middle after branches tables more_branches more_tables (Computing place instruction results rest values b m bs ts does walk) generated on =
    Computing place instruction results rest values before after (branches + more_branches) (tables + more_tables) does
    (through around between block rest (assigned same_name results values before) middle after bs ts more_branches more_tables walk generated on)
through around between block items before middle after branches tables more_branches more_tables (Passing place instruction results rest edge b m bs ts takes made walk) generated on =
    counted around block items before after _ _ _ _ (omega arith) (omega arith)
    (Passing place instruction results rest edge before after (bs + more_branches) (ts + more_tables) takes made
    (through around between block (around.program.items edge.target) before middle after bs ts more_branches more_tables walk generated on))
through around between block items before middle after branches tables more_branches more_tables (Arriving place instruction results rest edge b takes target) generated on =
    Passing place instruction results rest edge before after more_branches more_tables takes
    (subst (λ (x : Name). IsGenerated around.reading x) (sym target) generated)
    (subst (λ (x : Name). Walk around block (around.program.items x) before after more_branches more_tables) (sym target) on)

-- what generated names had generated names have later
all_generated : (reading later : Reading) → ((x : Name) → IsGenerated reading x → IsGenerated later x) → (names : List Name)
    → AllByRecursion (IsGenerated reading) names → AllByRecursion (IsGenerated later) names
all_generated reading later keeps [] all = tt
all_generated reading later keeps (x ∷ names) all = (keeps x all.0, all_generated reading later keeps names all.1)

module _ (around later : Surroundings) (extends : Extends around later) where
  types_same : later.types ≡ around.types
  types_same = fun_ext extends.types

  computes_later : (instruction : Instruction Name Name) (results : List Name) (names : Name → Bits) (values : List Bits)
      → Computes around instruction results names values → Computes later instruction results names values
  computes_later instruction results names values does = record {
    arithmetic = does.arithmetic;
    is_arithmetic = does.is_arithmetic;
    computes = ap (λ (types : Name → «Type»). computed does.arithmetic instruction.controlling (map types instruction.operands) (map names instruction.operands)) types_same ∙ does.computes;
    generated = all_generated around.reading later.reading extends.generated results does.generated;
  }

  takes_later : (instruction : Instruction Name Name) (names : Name → Bits) (edge : Edge Name Name) → Takes around instruction names edge → Takes later instruction names edge
  takes_later instruction names edge takes = record {
    is_branch = takes.is_branch;
    index = takes.index;
    goes = λ memory.
        (λ i. outcome_of (extends.world i) instruction.operation instruction.controlling (map (types_same i) instruction.operands) (map names instruction.operands) memory)
        ∙ takes.goes memory;
    there = takes.there;
    nothing = takes.nothing;
  }

  kept : (block : Name) (items more : List Item) (before after : Name → Bits) (branches tables : ℕ)
      → Walk around block items before after branches tables → Walk later block (items ++ more) before after branches tables
  kept block items more before after branches tables (Computing place instruction results rest values b a bs ts does walk) =
      Computing place instruction results (rest ++ more) values before after branches tables (computes_later instruction results before values does)
      (kept block rest more (assigned same_name results values before) after bs ts walk)
  kept block items more before after branches tables (Passing place instruction results rest edge b a bs ts takes generated walk) =
      let grown = extends.items edge.target generated in
      Passing place instruction results (rest ++ more) edge before after bs ts (takes_later instruction before edge takes) (extends.generated edge.target generated)
      (subst (λ (is : List Item). Walk later block is before after bs ts) (sym grown.1)
      (kept block (around.program.items edge.target) grown.0 before after bs ts walk))
  kept block items more before after branches tables (Arriving place instruction results rest edge b takes target) =
      Arriving place instruction results (rest ++ more) edge before (takes_later instruction before edge takes) target

pub walks_go_on : WalksGoOn
walks_go_on = record { through = through; kept = λ around later block items more before after branches tables extends walk. kept around later extends block items more before after branches tables walk }
