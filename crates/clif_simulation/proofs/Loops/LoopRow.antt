-- The row `both_arms` is carried, and finished.
use Rattle.std.proofs.Common.{◌≡◌, ◌≢◌, ℕ, zero, suc, ◌<◌, true, false, List, [], inl, inr, Some, None, refl, ap, arith, IsTrue, map, flat_map, Bool, if◌then◌else◌}
use Rattle.std.specs.List.{AllByRecursion}
use Rattle.std.specs.Prelude.{Option, is_some}
use Rattle.clif_types.specs.declared.types.«Type».{«Type»}
use Rattle.clif_ir.specs.Body.{follow, resolved}
use Rattle.clif_instructions.specs.Members.{stands_in}
use Rattle.clif_paths.specs.Places.{start}
use Rattle.clif_ssa.specs.Ssa.{sealed_of}
use Rattle.clif_ssa.specs.Sound.{entry_of}
use Rattle.clif_ssa.specs.Structured.{HasType}
use Rattle.clif_records.specs.Tables.{is_yes}
use Rattle.clif_meaning.specs.Name.{Name, answer_of}
use Rattle.clif_meaning.specs.Request.{script_of}
use Rattle.clif_meaning.specs.Ledger.{ledger_after, has_value, type_of}
use Rattle.clif_meaning.specs.View.{view_of}
use Rattle.clif_meaning.specs.FunctionView.{Placed}
use Rattle.clif_meaning.specs.Examples.{i32}
use Rattle.clif_meaning.specs.BranchExamples.{block, plain, both_arms_function}
use Rattle.clif_simulation.specs.Tables.{code, answered, callers_parameters, program_so_far, block_name}
use Rattle.clif_simulation.specs.Carries.{Carries, HasItems, HasEntry, NamesEarlier, EdgesEnd, EdgeEarlier, OwnParameters, ValuesGiven, ValuesTyped, own_placed, carried, IsBuilt, OwnAnswers, instruction_of}
use Rattle.clif_simulation.proofs.Numbering.{NumbersRise, apart_all}
use Rattle.clif_simulation.specs.Laws.{IsFinished}
use Rattle.clif_simulation.specs.CarryingExamples.{loop_calls, loop_body, loop_state, SeenAlike}
use Rattle.clif_simulation.proofs.Values.{false_is}
use Rattle.clif_simulation.proofs.Loops.LoopTables.{loop_tables, computing_row, row_sound}
use Rattle.clif_simulation.proofs.Loops.LoopProgram.{each_block_of_row, each_items_of_row, other_block, row_program}
use Rattle.clif_simulation.proofs.Loops.LoopTracked.{row_tracked}
use Rattle.clif_simulation.proofs.Loops.LoopStructured.{have_edges, leads_own, row_structured}
use Rattle.clif_simulation.proofs.Loops.LoopDescribed.{row_own, leads, none_waits, row_described, row_counted, not_start}

-- The view ------------------------------------------------------------------------------------------------------------------

abbrev no_items : List Placed
no_items = []

pub seen_alike : SeenAlike loop_body both_arms_function
unfolding follow
seen_alike = record { signature = refl; entry = refl; blocks = blocks; resolved = resolves; value_type = types; slots = refl }
  where
    either : (c : Bool) → (if c then no_items else no_items) ≡ no_items
    either true = refl
    either false = refl

    blocks : (number : ℕ) → (view_of loop_body).blocks number ≡ both_arms_function.blocks number
    blocks zero = refl
    blocks (suc zero) = refl
    blocks (suc (suc zero)) = refl
    blocks (suc (suc (suc zero))) = refl
    blocks (suc (suc (suc (suc number)))) = ap (λ (items : List Placed). record { parameters = []; items = items }) (either _)

    resolves : (v : ℕ) → resolved loop_body v ≡ v
    resolves zero = refl
    resolves (suc zero) = refl
    resolves (suc (suc zero)) = refl
    resolves (suc (suc (suc zero))) = refl
    resolves (suc (suc (suc (suc v)))) = refl

    types : (v : ℕ) → v < 4 → (view_of loop_body).value_type v ≡ i32
    types zero below = refl
    types (suc zero) below = refl
    types (suc (suc zero)) below = refl
    types (suc (suc (suc zero))) below = refl
    types (suc (suc (suc (suc v)))) below = absurd (omega (arith, below))

-- Items ---------------------------------------------------------------------------------------------------------------------

items : HasItems loop_calls loop_body row_own
items number name =
    each_block_of_row (λ k n. map (own_placed row_own loop_body) (row_own.insts k) ≡ flat_map (carried loop_calls) ((program_so_far loop_calls).items n))
    refl refl refl refl number name

own_answers : OwnAnswers loop_calls row_own
own_answers number name =
    each_block_of_row (λ k n. row_own.insts k ≡ flat_map (instruction_of loop_calls) ((program_so_far loop_calls).items n))
    refl refl refl refl number name

items_built : (name : Name) → AllByRecursion (IsBuilt loop_calls) ((program_so_far loop_calls).items name)
items_built =
    each_items_of_row (AllByRecursion (IsBuilt loop_calls)) tt
    (refl, (tt, (refl, tt)))
    (tt, (refl, tt))
    (tt, (refl, (refl, (tt, (refl, tt)))))
    (tt, (refl, tt))

numbers_rise : NumbersRise 0 loop_calls
numbers_rise =
    (tt, (tt, (tt, (tt, (tt, (tt, (tt, (refl, (tt, (refl, (tt, (tt, (refl, (tt, (tt, (tt, (refl, (refl, (tt, (refl, (tt, (tt, (tt, (tt, (refl, tt)))))))))))))))))))))))))

early : (n : ℕ) → n < 25 → n < 25
early n h = h

earlier : (name : Name) → AllByRecursion (NamesEarlier loop_calls) ((program_so_far loop_calls).items name)
earlier =
    each_items_of_row (AllByRecursion (NamesEarlier loop_calls)) tt
    ((tt, (early 7 (omega arith), tt), tt, tt), (early 7 (omega arith), ((tt, tt, (to 1 (omega arith) refl, tt), tt), tt)))
    (early 11 (omega arith), (((refl, tt), tt, (to 2 (omega arith) refl, (to 3 (omega arith) refl, tt)), tt), tt)) (
      early 15 (omega arith),
      (
        (tt, (early 16 (omega arith), tt), tt, tt),
        (
          ((refl, (refl, tt)), (early 17 (omega arith), tt), tt, tt),
          (early 17 (omega arith), (((refl, tt), tt, (to 1 (omega arith) refl, (to 1 (omega arith) refl, tt)), tt), tt)),
        ),
      ),
    )
    (early 23 (omega arith), (((refl, tt), tt, tt, tt), tt))
  where
    to : (number : ℕ) → number < 25 → block_name loop_calls (answered loop_calls (block number)) ≡ Some (block number)
        → EdgeEarlier loop_calls (plain (block number))
    to number earlier leads = record { target = earlier; leads = leads; passes = tt }

edges_end : (name : Name) → EdgesEnd ((program_so_far loop_calls).items name)
edges_end =
    each_items_of_row EdgesEnd tt
    (inl refl, (inr refl, tt))
    (inr refl, tt)
    (inl refl, (inl refl, (inr refl, tt)))
    (inl refl, tt)

-- Instructions --------------------------------------------------------------------------------------------------------------

own_exist : (b : ℕ) → AllByRecursion (λ inst. inst < 7) (row_own.insts b)
own_exist zero = (omega arith, (omega arith, tt))
own_exist (suc zero) = (omega arith, tt)
own_exist (suc (suc zero)) = (omega arith, (omega arith, (omega arith, tt)))
own_exist (suc (suc (suc zero))) = (omega arith, tt)
own_exist (suc (suc (suc (suc b)))) = tt

own_inserted : (b : ℕ) → stands_in b loop_body.layout ≡ false → row_own.insts b ≡ []
own_inserted zero e = absurd cc
own_inserted (suc zero) e = absurd cc
own_inserted (suc (suc zero)) e = absurd cc
own_inserted (suc (suc (suc zero))) e = absurd cc
own_inserted (suc (suc (suc (suc b)))) e = refl

-- Values --------------------------------------------------------------------------------------------------------------------

no_truth : {A : Type 0} → IsTrue false → A
no_truth is = absurd (false_is is)

-- what holds of each name that is a value's
each_value : (P : Name → Type 0) → P (answer_of 7 1) → P (answer_of 11 0) → P (answer_of 15 0) → P (answer_of 16 1) → P (answer_of 17 1) → P (answer_of 23 0)
    → (name : Name) → IsTrue (has_value (ledger_after (script_of loop_calls)) name) → P name
each_value P a b c d e h name = by name.place name.index
  where
    by : (place index : ℕ) → IsTrue (has_value (ledger_after (script_of loop_calls)) (answer_of place index)) → P (answer_of place index)
    by zero zero is = no_truth is
    by zero (suc index) is = no_truth is
    by (suc zero) zero is = no_truth is
    by (suc zero) (suc index) is = no_truth is
    by (suc (suc zero)) zero is = no_truth is
    by (suc (suc zero)) (suc index) is = no_truth is
    by (suc (suc (suc zero))) zero is = no_truth is
    by (suc (suc (suc zero))) (suc index) is = no_truth is
    by (suc (suc (suc (suc zero)))) zero is = no_truth is
    by (suc (suc (suc (suc zero)))) (suc index) is = no_truth is
    by (suc (suc (suc (suc (suc zero))))) index is = no_truth is
    by (suc (suc (suc (suc (suc (suc zero)))))) index is = no_truth is
    by (suc (suc (suc (suc (suc (suc (suc zero))))))) zero is = no_truth is
    by (suc (suc (suc (suc (suc (suc (suc zero))))))) (suc zero) is = a
    by (suc (suc (suc (suc (suc (suc (suc zero))))))) (suc (suc index)) is = no_truth is
    by (suc (suc (suc (suc (suc (suc (suc (suc zero)))))))) index is = no_truth is
    by (suc (suc (suc (suc (suc (suc (suc (suc (suc zero))))))))) zero is = no_truth is
    by (suc (suc (suc (suc (suc (suc (suc (suc (suc zero))))))))) (suc index) is = no_truth is
    by (suc (suc (suc (suc (suc (suc (suc (suc (suc (suc zero)))))))))) index is = no_truth is
    by (suc (suc (suc (suc (suc (suc (suc (suc (suc (suc (suc zero))))))))))) zero is = b
    by (suc (suc (suc (suc (suc (suc (suc (suc (suc (suc (suc zero))))))))))) (suc index) is = no_truth is
    by (suc (suc (suc (suc (suc (suc (suc (suc (suc (suc (suc (suc zero)))))))))))) zero is = no_truth is
    by (suc (suc (suc (suc (suc (suc (suc (suc (suc (suc (suc (suc zero)))))))))))) (suc index) is = no_truth is
    by (suc (suc (suc (suc (suc (suc (suc (suc (suc (suc (suc (suc (suc zero))))))))))))) index is = no_truth is
    by (suc (suc (suc (suc (suc (suc (suc (suc (suc (suc (suc (suc (suc (suc zero)))))))))))))) index is = no_truth is
    by (suc (suc (suc (suc (suc (suc (suc (suc (suc (suc (suc (suc (suc (suc (suc zero))))))))))))))) zero is = c
    by (suc (suc (suc (suc (suc (suc (suc (suc (suc (suc (suc (suc (suc (suc (suc zero))))))))))))))) (suc index) is = no_truth is
    by (suc (suc (suc (suc (suc (suc (suc (suc (suc (suc (suc (suc (suc (suc (suc (suc zero)))))))))))))))) zero is = no_truth is
    by (suc (suc (suc (suc (suc (suc (suc (suc (suc (suc (suc (suc (suc (suc (suc (suc zero)))))))))))))))) (suc zero) is = d
    by (suc (suc (suc (suc (suc (suc (suc (suc (suc (suc (suc (suc (suc (suc (suc (suc zero)))))))))))))))) (suc (suc index)) is = no_truth is
    by (suc (suc (suc (suc (suc (suc (suc (suc (suc (suc (suc (suc (suc (suc (suc (suc (suc zero))))))))))))))))) zero is = no_truth is
    by (suc (suc (suc (suc (suc (suc (suc (suc (suc (suc (suc (suc (suc (suc (suc (suc (suc zero))))))))))))))))) (suc zero) is = e
    by (suc (suc (suc (suc (suc (suc (suc (suc (suc (suc (suc (suc (suc (suc (suc (suc (suc zero))))))))))))))))) (suc (suc index)) is = no_truth is
    by (suc (suc (suc (suc (suc (suc (suc (suc (suc (suc (suc (suc (suc (suc (suc (suc (suc (suc zero)))))))))))))))))) index is = no_truth is
    by (suc (suc (suc (suc (suc (suc (suc (suc (suc (suc (suc (suc (suc (suc (suc (suc (suc (suc (suc zero))))))))))))))))))) zero is = no_truth is
    by (suc (suc (suc (suc (suc (suc (suc (suc (suc (suc (suc (suc (suc (suc (suc (suc (suc (suc (suc zero))))))))))))))))))) (suc index) is = no_truth is
    by (suc (suc (suc (suc (suc (suc (suc (suc (suc (suc (suc (suc (suc (suc (suc (suc (suc (suc (suc (suc zero)))))))))))))))))))) index is = no_truth is
    by (suc (suc (suc (suc (suc (suc (suc (suc (suc (suc (suc (suc (suc (suc (suc (suc (suc (suc (suc (suc (suc zero))))))))))))))))))))) index is = no_truth is
    by (suc (suc (suc (suc (suc (suc (suc (suc (suc (suc (suc (suc (suc (suc (suc (suc (suc (suc (suc (suc (suc (suc zero)))))))))))))))))))))) index is = no_truth is
    by (suc (suc (suc (suc (suc (suc (suc (suc (suc (suc (suc (suc (suc (suc (suc (suc (suc (suc (suc (suc (suc (suc (suc zero))))))))))))))))))))))) zero is = h
    by (suc (suc (suc (suc (suc (suc (suc (suc (suc (suc (suc (suc (suc (suc (suc (suc (suc (suc (suc (suc (suc (suc (suc zero))))))))))))))))))))))) (suc index) is = no_truth is
    by (suc (suc (suc (suc (suc (suc (suc (suc (suc (suc (suc (suc (suc (suc (suc (suc (suc (suc (suc (suc (suc (suc (suc (suc zero)))))))))))))))))))))))) zero is = no_truth is
    by (suc (suc (suc (suc (suc (suc (suc (suc (suc (suc (suc (suc (suc (suc (suc (suc (suc (suc (suc (suc (suc (suc (suc (suc zero)))))))))))))))))))))))) (suc index) is = no_truth is
    by (suc (suc (suc (suc (suc (suc (suc (suc (suc (suc (suc (suc (suc (suc (suc (suc (suc (suc (suc (suc (suc (suc (suc (suc (suc place))))))))))))))))))))))))) index is = no_truth is

values_given : ValuesGiven loop_calls loop_tables
unfolding computing_row
values_given =
    each_value (λ name. (loop_tables.naming (code name)).home ≢ start) (not_start 0 1) (not_start 1 1) (not_start 2 1) (not_start 2 2) (not_start 2 3) (not_start 3 1)

-- each is of the type of the one variable
abbrev IsTyped : Name → Type 0
IsTyped name = (ty : «Type») → type_of (ledger_after (script_of loop_calls)) name ≡ Some ty → HasType loop_body (answered loop_calls name) ty

is_value : (o : Option «Type») (ty : «Type») → o ≡ Some ty → IsTrue (is_some o)
is_value None ty is = absurd cc
is_value (Some one) ty is = refl

one_type : (a b : «Type») → Some a ≡ Some b → a ≡ b
one_type a b same = cc

values_typed : ValuesTyped loop_calls loop_body
values_typed name ty is =
    each_value IsTyped
    (λ t one. (omega arith, one_type i32 t one)) (λ t one. (omega arith, one_type i32 t one)) (λ t one. (omega arith, one_type i32 t one))
    (λ t one. (omega arith, one_type i32 t one)) (λ t one. (omega arith, one_type i32 t one)) (λ t one. (omega arith, one_type i32 t one))
    name (is_value (type_of (ledger_after (script_of loop_calls)) name) ty is) ty is

-- no block has a parameter that the caller made
parameters : OwnParameters loop_calls row_own
parameters b = by (block_name loop_calls b)
  where
    by : (o : Option Name) → [] ≡ map (answered loop_calls) (callers_parameters loop_calls o)
    by None = refl
    by (Some name) = refl

-- The entry -----------------------------------------------------------------------------------------------------------------

has_entry : HasEntry loop_calls loop_body
has_entry = record { none = λ e. absurd (other e); some = λ name e. (0, refl, e) }
  where
    other : Some (block 0) ≡ None → ⊥
    other e = cc

pub row_carried : Carries loop_calls loop_body loop_state
row_carried = record {
  own = row_own;
  holds = record {
    blocks = record { distinct = row_program.distinct; earlier = row_program.blocks_earlier; only = row_program.only_blocks; only_parameters = row_program.only_parameters };
    items = items;
    own_answers = own_answers;
    items_built = items_built;
    instructions = apart_all loop_calls numbers_rise;
    earlier = earlier;
    edges_end = edges_end;
    no_maps = λ inst. refl;
    own_exist = own_exist;
    own_named = other_block (λ b. row_own.insts b ≡ []) (λ b. refl);
    own_inserted = own_inserted;
    declared = λ b inst k target there to. leads inst k target to;
    leads_own = leads_own;
    have_edges = have_edges;
    parameters = parameters;
    parameters_values = λ name. tt;
    values_typed = values_typed;
    entry = has_entry;
    structured = row_structured seen_alike.resolved;
  };
  on_paths = λ free. record {
    tables = loop_tables;
    program = row_program;
    values_given = values_given;
    describes = row_described;
    sound = row_sound;
    counts = row_counted;
    tracked = row_tracked;
  };
}

-- what the caller made of it
pub row_carried_own : row_carried.own ≡ row_own
unfolding row_carried
row_carried_own = refl

pub row_finished : IsFinished loop_calls loop_body loop_state
row_finished = record { none_waits = none_waits; entry_sealed = entry_sealed; filled_sealed = λ number name named filled. all_sealed number name named }
  where
    entry_sealed : (entry : ℕ) → entry_of loop_body ≡ Some entry → is_yes (sealed_of loop_state entry) ≡ true
    entry_sealed zero e = refl
    entry_sealed (suc entry) e = absurd cc

    all_sealed : (number : ℕ) (name : Name) → block_name loop_calls number ≡ Some name → is_yes (sealed_of loop_state number) ≡ true
    all_sealed = each_block_of_row (λ k n. is_yes (sealed_of loop_state k) ≡ true) refl refl refl refl
