-- What calls build, block by block.
use Rattle.std.proofs.Common.{◌≡◌, ◌+◌, ℕ, suc, List, [], ◌∷◌, ◌++◌, length, map, ◌∙◌, ap, subst, arith}
use Rattle.clif_meaning.specs.Instruction.{Instruction}
use Rattle.clif_meaning.specs.Name.{Name, answer_of}
use Rattle.clif_types.specs.declared.types.«Type».{«Type»}
use Rattle.clif_meaning.specs.Program.{Item, Instruct, Program, result_names, result_types}
use Rattle.clif_meaning.specs.Request.{Request, SwitchToBlock, MakeEdge, Build, Script}
use Rattle.clif_expansion.specs.Emission.{building}
use Rattle.clif_expansion.specs.JoinedPrograms.{built_items}
use Rattle.clif_switch_calls.specs.SwitchCalls.{bare_edge}

-- the items that calls build, from this place on, before another block becomes the current one
abbrev pub code_of : ℕ → Script → List Item
code_of place [] = []
code_of place (SwitchToBlock block ∷ more) = []
code_of place (Build entries instruction ∷ more) = Instruct place instruction (result_names place instruction) ∷ code_of (suc place) more
code_of place (_ ∷ more) = code_of (suc place) more

-- each block that becomes the current one has the items that are built from there on
abbrev pub Entered : Program → ℕ → Script → Type 0
Entered program place [] = Unit {0}
Entered program place (SwitchToBlock block ∷ more) = (program.items block ≡ code_of (suc place) more) × Entered program (suc place) more
Entered program place (_ ∷ more) = Entered program (suc place) more

-- each instruction with one result has it of its type
abbrev pub AreTyped : (Name → «Type») → ℕ → Script → Type 0
AreTyped types place [] = Unit {0}
AreTyped types place (Build entries instruction ∷ more) =
    ((ty : «Type») → result_types instruction.operation instruction.controlling ≡ ty ∷ [] → types (answer_of place 1) ≡ ty) × AreTyped types (suc place) more
AreTyped types place (_ ∷ more) = AreTyped types (suc place) more

-- it builds nothing before another block becomes the current one
abbrev pub IsClosed : Script → Type 0
IsClosed more = (place : ℕ) → code_of place more ≡ []

place_on : (place n : ℕ) → suc place + n ≡ place + suc n
place_on place n = omega arith

place_here : (place : ℕ) → place ≡ place + 0
place_here place = omega arith

-- INSTRUCTIONS AND EDGES --------------------------------------------------------------------------------------------------

pub code_building : (place : ℕ) (code : List (Instruction Name Name)) (more : Script)
    → code_of place (map building code ++ more) ≡ built_items place code ++ code_of (place + length code) more
code_building place [] more = ap (λ (p : ℕ). code_of p more) (place_here place)
code_building place (first ∷ code) more =
    ap (λ (items : List Item). Instruct place first (result_names place first) ∷ items)
    (code_building (suc place) code more ∙ ap (λ (p : ℕ). built_items (suc place) code ++ code_of p more) (place_on place (length code)))

pub entered_building : (program : Program) (place : ℕ) (code : List (Instruction Name Name)) (more : Script)
    → Entered program place (map building code ++ more) → Entered program (place + length code) more
entered_building program place [] more entered = subst (λ (p : ℕ). Entered program p more) (place_here place) entered
entered_building program place (first ∷ code) more entered =
    subst (λ (p : ℕ). Entered program p more) (place_on place (length code)) (entered_building program (suc place) code more entered)

pub code_edges : (place : ℕ) (targets : List Name) (more : Script) → code_of place (map (λ target. MakeEdge (bare_edge target)) targets ++ more) ≡ code_of (place + length targets) more
code_edges place [] more = ap (λ (p : ℕ). code_of p more) (place_here place)
code_edges place (target ∷ targets) more = code_edges (suc place) targets more ∙ ap (λ (p : ℕ). code_of p more) (place_on place (length targets))

pub entered_edges : (program : Program) (place : ℕ) (targets : List Name) (more : Script)
    → Entered program place (map (λ target. MakeEdge (bare_edge target)) targets ++ more) → Entered program (place + length targets) more
entered_edges program place [] more entered = subst (λ (p : ℕ). Entered program p more) (place_here place) entered
entered_edges program place (target ∷ targets) more entered =
    subst (λ (p : ℕ). Entered program p more) (place_on place (length targets)) (entered_edges program (suc place) targets more entered)

pub typed_building : (types : Name → «Type») (place : ℕ) (code : List (Instruction Name Name)) (more : Script)
    → AreTyped types place (map building code ++ more) → AreTyped types (place + length code) more
typed_building types place [] more typed = subst (λ (p : ℕ). AreTyped types p more) (place_here place) typed
typed_building types place (first ∷ code) more typed =
    subst (λ (p : ℕ). AreTyped types p more) (place_on place (length code)) (typed_building types (suc place) code more typed.1)

pub typed_edges : (types : Name → «Type») (place : ℕ) (targets : List Name) (more : Script)
    → AreTyped types place (map (λ target. MakeEdge (bare_edge target)) targets ++ more) → AreTyped types (place + length targets) more
typed_edges types place [] more typed = subst (λ (p : ℕ). AreTyped types p more) (place_here place) typed
typed_edges types place (target ∷ targets) more typed =
    subst (λ (p : ℕ). AreTyped types p more) (place_on place (length targets)) (typed_edges types (suc place) targets more typed)

-- BEHIND OTHER CALLS ------------------------------------------------------------------------------------------------------

entered_next : (program : Program) (place : ℕ) (request : Request) (more : Script) → Entered program place (request ∷ more) → Entered program (suc place) more
entered_next program place (SwitchToBlock block) more entered = entered.1
entered_next program place _ more entered = entered

pub entered_behind : (program : Program) (place : ℕ) (calls more : Script) → Entered program place (calls ++ more) → Entered program (place + length calls) more
entered_behind program place [] more entered = subst (λ (p : ℕ). Entered program p more) (place_here place) entered
entered_behind program place (request ∷ calls) more entered =
    subst (λ (p : ℕ). Entered program p more) (place_on place (length calls))
    (entered_behind program (suc place) calls more (entered_next program place request (calls ++ more) entered))

typed_next : (types : Name → «Type») (place : ℕ) (request : Request) (more : Script) → AreTyped types place (request ∷ more) → AreTyped types (suc place) more
typed_next types place (Build entries instruction) more typed = typed.1
typed_next types place _ more typed = typed

pub typed_behind : (types : Name → «Type») (place : ℕ) (calls more : Script) → AreTyped types place (calls ++ more) → AreTyped types (place + length calls) more
typed_behind types place [] more typed = subst (λ (p : ℕ). AreTyped types p more) (place_here place) typed
typed_behind types place (request ∷ calls) more typed =
    subst (λ (p : ℕ). AreTyped types p more) (place_on place (length calls))
    (typed_behind types (suc place) calls more (typed_next types place request (calls ++ more) typed))
