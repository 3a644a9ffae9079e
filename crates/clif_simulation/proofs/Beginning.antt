-- A new function carries the empty list of calls; and the current block of a list is one for program and ledger.
use Rattle.std.proofs.Common.{◌≡◌, List, [], ◌∷◌, ◌++◌, length, refl, sym, ◌∙◌, ap, subst, arith, Some, None, inl, Bool, true, false}
use Rattle.std.specs.Prelude.{ℕ, zero, suc, Option, fold, if◌then◌else◌, option_and_then, slice_get}
use Rattle.clif_types.specs.declared.types.«Type».{«Type»}
use Rattle.clif_types.specs.declared.extname.UserFuncName.{UserFuncName}
use Rattle.clif_types.specs.Signature.{SignatureShape}
use Rattle.clif_ir.specs.Body.{empty_body}
use Rattle.clif_paths.specs.Blocks.{no_blocks}
use Rattle.clif_ssa.specs.Own.{no_own}
use Rattle.clif_ssa.specs.Ssa.{no_state}
use Rattle.clif_ssa.proofs.StructuredLaws.{first_structured}
use Rattle.clif_ssa.proofs.Writing.{first_described}
use Rattle.clif_meaning.specs.Name.{Name, answer_of}
use Rattle.clif_meaning.specs.Instruction.{Operation, Edge}
use Rattle.clif_meaning.specs.Request.{Request, Script, AnsweredCall, script_of}
use Rattle.clif_meaning.specs.Ledger.{Answered, Ledger, changed_by, type_of, value_answer_type, ledger_after, ledger_with, empty_ledger, with_layout, with_begun_at, with_begun, with_filled_at, with_terminator, with_predecessor, is_inserted, is_terminator}
use Rattle.clif_meaning.specs.Program.{Program, Item, extended, first_block, with_call, empty_program, with_item_at, with_inserted}
use Rattle.clif_simulation.specs.Tables.{program_so_far, IsProgramOf}
use Rattle.clif_simulation.proofs.Numbering.{apart_first}
use Rattle.clif_simulation.specs.Carries.{Carries}
use Rattle.clif_meaning.proofs.Effects.{switch_of, ProgramEffect, program_effect, Leaves, Inserts, Takes, Switches, Assigns, Uses, Builds, Redirects, LedgerEffect, ledger_effect, Keeps, Lays, Changes, Begins, Creates, Enters, ChangesEach, Declares, Touches, Reads, Appends, Marks}
use Rattle.clif_simulation.proofs.Values.{false_is}
use Rattle.clif_simulation.proofs.Tracking.Steps.{tracks_nothing}

some_none : {X : Type 0} (x : X) → None ≡ Some x → ⊥
some_none x h = cc

-- an item leaves the current block
pub current-item : (program : Program) (o : Option Name) (item : Item) → (with_item_at program o item).current ≡ program.current
current-item program None item = refl
current-item program (Some block) item = refl

current-layout : (ledger : Ledger) (block : Name) → (with_layout ledger block).current ≡ ledger.current
current-layout ledger block = by (is_inserted ledger block)
  where
    by : (c : Bool) → (if c then ledger else record ledger { layout = ledger.layout ++ block ∷ [] }).current ≡ ledger.current
    by true = refl
    by false = refl

pub current-begun : (ledger : Ledger) (o : Option Name) → (with_begun_at ledger o).current ≡ ledger.current
current-begun ledger None = refl
current-begun ledger (Some block) = current-layout ledger block

current-filled : (ledger : Ledger) (o : Option Name) → (with_filled_at ledger o).current ≡ ledger.current
current-filled ledger None = refl
current-filled ledger (Some block) = refl

current-terminator : (ledger : Ledger) (operation : Operation) → (with_terminator ledger operation).current ≡ ledger.current
current-terminator ledger operation = by (is_terminator operation)
  where
    by : (c : Bool) → (if c then with_filled_at ledger ledger.current else ledger).current ≡ ledger.current
    by true = current-filled ledger ledger.current
    by false = refl

current-edges : (branch : Name) (ledger : Ledger) (edges : List (Edge Name Name)) → (fold (with_predecessor branch) ledger edges).current ≡ ledger.current
current-edges branch ledger [] = refl
current-edges branch ledger (edge ∷ edges) = current-edges branch (with_predecessor branch ledger edge) edges

-- the current block after one more call: the one that it switches to, or else the one before
pub current_of_program : (program : Program) (request : Request) → (with_call program request).current ≡ first_block (switch_of request) program.current
current_of_program program request = by (program_effect request)
  where
    of_program : (other : Program) → extended program request ≡ other → other.current ≡ program.current → switch_of request ≡ None
        → (with_call program request).current ≡ first_block (switch_of request) program.current
    of_program other is same stays =
        ap (λ (p : Program). p.current) is ∙ same ∙ sym (ap (λ (o : Option Name). first_block o program.current) stays)

    of_request : (other : Request) → request ≡ other → (with_call program other).current ≡ first_block (switch_of other) program.current
        → (with_call program request).current ≡ first_block (switch_of request) program.current
    of_request other is holds = subst (λ (r : Request). (with_call program r).current ≡ first_block (switch_of r) program.current) (sym is) holds

    by : ProgramEffect request → (with_call program request).current ≡ first_block (switch_of request) program.current
    by (Leaves stays is) = of_program _ (is program) refl stays
    by (Inserts stays is) = of_program _ (is program) refl stays
    by (Takes block types stays makes is) = of_program _ (is program) refl stays
    by (Switches block is) = of_request _ is refl
    by (Assigns variable value is) = of_request _ is (current-item program program.current _)
    by (Uses variable is) = of_request _ is (current-item (with_inserted program) program.current _)
    by (Builds entries instruction is) = of_request _ is (current-item (with_inserted program) program.current _)
    by (Redirects branch from to stays is) = of_program _ (is program) refl stays

current_of_ledger : (ledger : Ledger) (request : Request) → (ledger_with ledger request).current ≡ first_block (switch_of request) ledger.current
current_of_ledger ledger request = by (ledger_effect request)
  where
    of_ledger : (other : Ledger) → changed_by ledger request ≡ other → other.current ≡ ledger.current → switch_of request ≡ None
        → (ledger_with ledger request).current ≡ first_block (switch_of request) ledger.current
    of_ledger other is same stays =
        ap (λ (l : Ledger). l.current) is ∙ same ∙ sym (ap (λ (o : Option Name). first_block o ledger.current) stays)

    of_request : (other : Request) → request ≡ other → (ledger_with ledger other).current ≡ first_block (switch_of other) ledger.current
        → (ledger_with ledger request).current ≡ first_block (switch_of request) ledger.current
    of_request other is holds = subst (λ (r : Request). (ledger_with ledger r).current ≡ first_block (switch_of r) ledger.current) (sym is) holds

    by : LedgerEffect request → (ledger_with ledger request).current ≡ first_block (switch_of request) ledger.current
    by (Keeps stays is) = of_ledger _ (is ledger) refl stays
    by (Lays layout tables jump_tables exception_tables stays is) = of_ledger _ (is ledger) refl stays
    by (Changes block change keeps stays is) = of_ledger _ (is ledger) refl stays
    by (Begins stays is) = of_ledger _ (is ledger) (current-begun ledger ledger.current) stays
    by (Creates is) = of_request _ is refl
    by (Enters block is) = of_request _ is refl
    by (ChangesEach change keeps stays is) = of_ledger _ (is ledger) refl stays
    by (Declares ty is) = of_request _ is refl
    by (Touches variable value is) = of_request _ is refl
    by (Marks need is) = of_request _ is refl
    by (Reads variable is) = of_request _ is (current-begun ledger ledger.current)
    by (Appends entries instruction is) =
        of_request _ is
        (current-edges (answer_of (length ledger.answers) 0) (with_terminator (with_begun ledger) instruction.operation) instruction.edges
        ∙ current-terminator (with_begun ledger) instruction.operation ∙ current-begun ledger ledger.current)

-- one more call leaves program and ledger with one current block
current_next : (program : Program) (ledger : Ledger) (request : Request) → program.current ≡ ledger.current → (with_call program request).current ≡ (ledger_with ledger request).current
current_next program ledger request same =
    current_of_program program request ∙ ap (first_block (switch_of request)) same ∙ sym (current_of_ledger ledger request)

current_fold : (script : Script) (program : Program) (ledger : Ledger) → program.current ≡ ledger.current → (fold with_call program script).current ≡ (fold ledger_with ledger script).current
current_fold [] program ledger same = same
current_fold (request ∷ script) program ledger same = current_fold script (with_call program request) (ledger_with ledger request) (current_next program ledger request same)

pub one_current : (calls : List AnsweredCall) → (program_so_far calls).current ≡ (ledger_after (script_of calls)).current
one_current calls = current_fold (script_of calls) empty_program empty_ledger refl

none_typed : (N : Name) (ty : «Type») → type_of empty_ledger N ≡ Some ty → ⊥
none_typed N ty is = by N.place is
  where
    by : (place : ℕ) → value_answer_type (option_and_then (λ (answers : List Answered). slice_get answers N.index) (slice_get [] place)) ≡ Some ty → ⊥
    by zero h = cc
    by (suc place) h = cc

nothing_so_far : IsProgramOf [] no_blocks
nothing_so_far = record {
  counts = λ b N named. absurd (some_none N named);
  no_count = λ b none. refl;
  assigned = λ b index N named. absurd (some_none N named);
  front_assigns_nothing = λ b x. refl;
  start_assigns_nothing = λ x. refl;
  elsewhere_nothing = λ b index x none. refl;
  given = λ b index N item named. absurd (some_none N named);
  given_only = λ n home. absurd (home refl);
  assigned_earlier = λ place x n is. absurd (some_none n is);
  distinct = λ b c N first second. absurd (some_none N first);
  blocks_earlier = λ b N named. absurd (some_none N named);
  parameter = λ b N named. absurd (some_none N named);
  only_blocks = λ N. inl refl;
  only_parameters = λ N. inl refl;
}

-- a new function carries the empty list of calls
pub carries_nothing : (name : UserFuncName) (signature : SignatureShape) → Carries [] (empty_body name signature) no_state
carries_nothing name signature = record {
  own = no_own;
  holds = record {
    blocks = record {
      distinct = λ b c N first second. absurd (some_none N first);
      earlier = λ b N named. absurd (some_none N named);
      only = λ N. inl refl;
      only_parameters = λ N. inl refl;
    };
    items = λ b N named. absurd (some_none N named);
    own_answers = λ b N is. refl;
    items_built = λ N. tt;
    instructions = apart_first 0;
    earlier = λ N. tt;
    edges_end = λ N. tt;
    no_maps = λ inst. refl;
    own_exist = λ b. tt;
    own_named = λ b none. refl;
    own_inserted = λ b out. refl;
    declared = λ b inst k target here to. absurd (omega (arith, here.1));
    leads_own = λ target inst here. absurd (omega (arith, here.1));
    have_edges = λ target inst here. absurd (omega (arith, here.1));
    parameters = λ b. refl;
    parameters_values = λ N. tt;
    values_typed = λ N ty is. absurd (none_typed N ty is);
    entry = record { none = λ none. refl; some = λ e is. absurd (some_none e is) };
    structured = λ types are. first_structured types name signature;
  };
  on_paths = λ free.
      let first = first_described name signature in
      record {
        tables = no_blocks;
        program = nothing_so_far;
        values_given = λ x is. absurd (false_is is);
        describes = first.0;
        sound = first.1;
        counts = first.2;
        tracked = tracks_nothing;
      };
}
