-- The ledger behind an instruction, with its lists written out.
use Rattle.std.proofs.Common.{◌≡◌, Bool, true, false, List, [], ◌∷◌, ◌++◌, map, refl, sym, ◌∙◌, ap, Option, Some}
use Rattle.std.specs.Prelude.{fold, if◌then◌else◌}
use Rattle.std.specs.List.{list_any}
use Rattle.clif_meaning.specs.Instruction.{Edge, Instruction, Operation}
use Rattle.clif_meaning.specs.Ledger.{BlockState, Ledger, is_inserted, is_terminator, led_by, next_answer, with_begun_at, with_filled_at, with_instruction, with_layout, with_predecessor, with_terminator}
use Rattle.clif_meaning.specs.Name.{Name, same_name}
use Rattle.clif_expansion.proofs.Among.{changed_at}

-- at the end of a layout, unless it is there
abbrev pub laid_list : Name → List Name → List Name
laid_list x layout = if list_any (same_name x) layout then layout else layout ++ x ∷ []

abbrev pub beginning : BlockState → BlockState
beginning state = record state { is_pristine = false }

abbrev pub ending : BlockState → BlockState
ending state = record state { is_filled = true }

-- a branch leads to the targets of these edges
abbrev pub led_all : Name → List (Edge Name Name) → BlockState → BlockState
led_all branch [] state = state
led_all branch (edge ∷ edges) state = led_all branch edges (changed_at edge.target (led_by branch) state)

-- states of which those of a block are begun, and filled by what ends it
abbrev pub stated : Name → Operation → List BlockState → List BlockState
stated x operation states =
    if is_terminator operation then map (changed_at x ending) (map (changed_at x beginning) states) else map (changed_at x beginning) states

abbrev pub with_lists : Ledger → List BlockState → List Name → Ledger
with_lists ledger blocks layout = record ledger { blocks = blocks; layout = layout }

layout_is : (ledger : Ledger) (x : Name) → with_layout ledger x ≡ record ledger { layout = laid_list x ledger.layout }
layout_is ledger x = by (is_inserted ledger x)
  where
    by : (c : Bool) → (if c then ledger else record ledger { layout = ledger.layout ++ x ∷ [] }) ≡ record ledger { layout = if c then ledger.layout else ledger.layout ++ x ∷ [] }
    by true = refl
    by false = refl

pub begun_is : (ledger : Ledger) (x : Name) → with_begun_at ledger (Some x) ≡ with_lists ledger (map (changed_at x beginning) ledger.blocks) (laid_list x ledger.layout)
begun_is ledger x = ap (λ (l : Ledger). record l { blocks = map (changed_at x beginning) l.blocks }) (layout_is ledger x)

mapped_twice : {X : Type 0} (f g : X → X) (xs : List X) → map g (map f xs) ≡ map (λ x. g (f x)) xs
mapped_twice f g [] = refl
mapped_twice {X} f g (x ∷ xs) = ap (λ (rest : List X). g (f x) ∷ rest) (mapped_twice f g xs)

same_map : {X : Type 0} (xs : List X) → map (λ x. x) xs ≡ xs
same_map [] = refl
same_map {X} (x ∷ xs) = ap (λ (rest : List X). x ∷ rest) (same_map xs)

led_is : (branch : Name) (ledger : Ledger) (edges : List (Edge Name Name)) → fold (with_predecessor branch) ledger edges ≡ record ledger { blocks = map (led_all branch edges) ledger.blocks }
led_is branch ledger [] = ap (λ (states : List BlockState). record ledger { blocks = states }) (sym (same_map ledger.blocks))
led_is branch ledger (edge ∷ edges) =
    led_is branch (with_predecessor branch ledger edge) edges
    ∙ ap (λ (states : List BlockState). record ledger { blocks = states }) (mapped_twice (changed_at edge.target (led_by branch)) (led_all branch edges) ledger.blocks)

ended_is : (ledger : Ledger) (x : Name) (operation : Operation) → ledger.current ≡ Some x
    → with_terminator ledger operation ≡ record ledger { blocks = if is_terminator operation then map (changed_at x ending) ledger.blocks else ledger.blocks }
ended_is ledger x operation at =
    ap (λ (current : Option Name). if is_terminator operation then with_filled_at ledger current else ledger) at ∙ by (is_terminator operation)
  where
    by : (c : Bool) → (if c then record ledger { blocks = map (changed_at x ending) ledger.blocks } else ledger)
        ≡ record ledger { blocks = if c then map (changed_at x ending) ledger.blocks else ledger.blocks }
    by true = refl
    by false = refl

pub instruction_is : (ledger : Ledger) (x : Name) (instruction : Instruction Name Name) → ledger.current ≡ Some x
    → with_instruction ledger instruction
    ≡ with_lists ledger (map (led_all (next_answer ledger) instruction.edges) (stated x instruction.operation ledger.blocks)) (laid_list x ledger.layout)
instruction_is ledger x instruction at =
    let begun : Ledger = with_lists ledger (map (changed_at x beginning) ledger.blocks) (laid_list x ledger.layout) in
    let ended : Ledger = with_lists ledger (stated x instruction.operation ledger.blocks) (laid_list x ledger.layout) in
    ap (λ (current : Option Name). fold (with_predecessor (next_answer ledger)) (with_terminator (with_begun_at ledger current) instruction.operation) instruction.edges) at
    ∙ ap (λ (l : Ledger). fold (with_predecessor (next_answer ledger)) (with_terminator l instruction.operation) instruction.edges) (begun_is ledger x)
    ∙ ap (λ (l : Ledger). fold (with_predecessor (next_answer ledger)) l instruction.edges) (ended_is begun x instruction.operation at)
    ∙ led_is (next_answer ledger) ended instruction.edges
