-- Calls that seal all blocks, put a block behind another one, make a block cold, or bring the current block into the layout.
use Rattle.std.proofs.Common.{◌≡◌, ℕ, zero, suc, ◌<◌, ◌==◌, List, [], ◌∷◌, ◌++◌, length, map, refl, ◌∙◌, ap, ap₂, arith, Bool, true, false, if◌then◌else◌, slice_get, Some}
use Rattle.std.specs.Prelude.{◌||◌, slice_index_or, slice_set}
use Rattle.clif_tables.specs.Entries.{TableEntry}
use Rattle.clif_tables.specs.Lists.{TableLists}
use Rattle.clif_ir.specs.Body.{Body, block_at}
use Rattle.clif_nodes.specs.Nodes.{BlockNode, empty_block}
use Rattle.clif_ir.specs.Consistent.{IsConsistent}
use Rattle.clif_ir.specs.Changes.{inserted_in, put_behind, with_cold, with_layout_after, with_tables}
use Rattle.clif_instructions.specs.Members.{stands_in}
use Rattle.clif_paths.specs.Blocks.{Blocks}
use Rattle.std.specs.List.{AllByRecursion}
use Rattle.clif_ssa.specs.Own.{Own}
use Rattle.clif_records.specs.Tables.{is_yes}
use Rattle.clif_ssa.specs.Ssa.{SsaState, RecordsStay, SamePredecessors, sealed_of}
use Rattle.clif_ssa.specs.Constructs.{OnlyConstructs}
use Rattle.clif_ssa.specs.Sound.{Keeps, SparesIfEntry, entry_of}
use Rattle.clif_ssa.specs.SoundLaws.{DescribesSoundly, with_entry}
use Rattle.clif_ssa.specs.Structured.{Structured, VariableTypes}
use Rattle.clif_ssa.specs.Tracked.{TracksMade}
use Rattle.clif_ssa.proofs.Pooled.{KeepsConstants}
use Rattle.clif_ssa.proofs.Completing.{entry_same, inserted_same, same_program}
use Rattle.clif_ssa.proofs.KeptParameters.{itself_parameters, entry_parameters}
use Rattle.clif_ssa.proofs.Counting.{blocks_counted}
use Rattle.clif_ssa.proofs.StructuredLaws.{blocks_structured, inserted_structured}
use Rattle.clif_ssa.proofs.Writing.{blocks_described}
use Rattle.clif_meaning.specs.Name.{Name}
use Rattle.clif_meaning.specs.Ledger.{answers_to, ledger_after}
use Rattle.clif_meaning.specs.Program.{Program, extended}
use Rattle.clif_meaning.specs.Request.{Request, SealAllBlocks, InsertBlockAfter, SetColdBlock, EnsureInsertedBlock, MakeEntry, AnsweredCall, script_of}
use Rattle.clif_meaning.specs.FunctionView.{Placed}
use Rattle.clif_ir.specs.Body.{inst_at}
use Rattle.clif_ssa.proofs.Constructing.{more_none}
use Rattle.clif_simulation.specs.Carries.{Carries, Holds, IsCurrent, SoundOnPaths, own_placed}
use Rattle.clif_simulation.proofs.Calls.{carries_kept, carries_on, inserted_soundly, name_stays, still, still_tracks, structured_so_far}
use Rattle.clif_simulation.specs.Tracks.{TracksOnPaths}
use Rattle.clif_simulation.proofs.Carrying.{edges_there}
use Rattle.clif_simulation.proofs.FreeEntry.{entry_inserted, spared_sealed, still_sealed}
use Rattle.clif_meaning.proofs.Effects.{MakesNoBlock, MakesNoParameter}
use Rattle.clif_simulation.proofs.Numbering.{MakesNoInstruction}
use Rattle.clif_simulation.proofs.Growing.{GoesOn, KeepsEntries, KeepsInsts, goes_on-constructs, insts_kept, insts_same}
use Rattle.clif_simulation.proofs.Layouts as layouts
use Rattle.clif_simulation.proofs.Values.{is_value_at}
use Rattle.clif_simulation.proofs.Requests
use Rattle.clif_simulation.proofs.Requests.{entry_begun}
use Rattle.clif_simulation.proofs.Tracking.Steps.{NamesNothing, same_function, tracks_quiet}
use Rattle.clif_simulation.proofs.Tracking.Making.{tracks_constructed}
use Rattle.clif_simulation.proofs.Tracking.Giving.{entry_same_function}

-- LAYOUTS -----------------------------------------------------------------------------------------------------------------

-- the first block stays where another one comes behind one of the layout
pub first_stays : (b a : ℕ) (layout : List ℕ) → slice_get (put_behind b a layout) 0 ≡ slice_get layout 0
first_stays b a [] = refl
first_stays b a (c ∷ layout) = by (c == a)
  where
    by : (test : Bool) → slice_get (if test then c ∷ b ∷ layout else c ∷ put_behind b a layout) 0 ≡ Some c
    by true = refl
    by false = refl

-- what stood in the layout stands in it
pub out_before : (b a x : ℕ) (layout : List ℕ) → stands_in x (put_behind b a layout) ≡ false → stands_in x layout ≡ false
out_before b a x [] out = refl
out_before b a x (c ∷ layout) out = by (c == a) (out_before b a x layout) out
  where
    neither : (s t : Bool) → (s || t) ≡ false → (s ≡ false) × (t ≡ false)
    neither true t h = let no_way : ⊥ = cc in absurd no_way
    neither false t h = (refl, h)

    or_false : (s t : Bool) → s ≡ false → t ≡ false → (s || t) ≡ false
    or_false s t first second = ap (λ (u : Bool). u || t) first ∙ second

    by : (test : Bool) → (stands_in x (put_behind b a layout) ≡ false → stands_in x layout ≡ false)
        → stands_in x (if test then c ∷ b ∷ layout else c ∷ put_behind b a layout) ≡ false → ((c == x) || stands_in x layout) ≡ false
    by true rest h =
        let parts = neither (c == x) ((b == x) || stands_in x layout) h in
        or_false (c == x) (stands_in x layout) parts.0 (neither (b == x) (stands_in x layout) parts.1).1
    by false rest h = let parts = neither (c == x) (stands_in x (put_behind b a layout)) h in or_false (c == x) (stands_in x layout) parts.0 (rest parts.1)

-- BLOCKS ------------------------------------------------------------------------------------------------------------------

-- a block that is cold keeps its parameters and instructions
pub cold_params : (nodes : List BlockNode) (b x : ℕ)
    → (slice_index_or (slice_set nodes b (record (slice_index_or nodes b empty_block) { is_cold = true })) x empty_block).params ≡ (slice_index_or nodes x empty_block).params
cold_params [] b x = refl
cold_params (node ∷ nodes) zero zero = refl
cold_params (node ∷ nodes) zero (suc x) = refl
cold_params (node ∷ nodes) (suc b) zero = refl
cold_params (node ∷ nodes) (suc b) (suc x) = cold_params nodes b x

pub cold_insts : (nodes : List BlockNode) (b x : ℕ)
    → (slice_index_or (slice_set nodes b (record (slice_index_or nodes b empty_block) { is_cold = true })) x empty_block).insts ≡ (slice_index_or nodes x empty_block).insts
cold_insts [] b x = refl
cold_insts (node ∷ nodes) zero zero = refl
cold_insts (node ∷ nodes) zero (suc x) = refl
cold_insts (node ∷ nodes) (suc b) zero = refl
cold_insts (node ∷ nodes) (suc b) (suc x) = cold_insts nodes b x

-- other blocks, another layout and other tables, with the same parameters, instructions and entry
module _ (f : Body) (nodes : List BlockNode) (layout : List ℕ) (lists : TableLists) (constants_kept : KeepsConstants f (record f { tables = lists })) (s : SsaState)
    (same_params : (b : ℕ) → (block_at (record f { blocks = nodes; layout = layout; tables = lists }) b).params ≡ (block_at f b).params)
    (same_insts : (b : ℕ) → (block_at (record f { blocks = nodes; layout = layout; tables = lists }) b).insts ≡ (block_at f b).insts)
    (entry : slice_get layout 0 ≡ entry_of f) where
  pub relaid_keeps : (own : Own) (tables : Blocks) → DescribesSoundly own f s tables → Keeps own tables (record f { blocks = nodes; layout = layout; tables = lists }) s
  relaid_keeps own tables before = record {
    tables = tables;
    describes = blocks_described own f nodes layout lists constants_kept s tables same_params same_insts entry before.0;
    sound = before.1;
    same = same_program tables;
    counts = blocks_counted own f nodes layout lists s tables same_params before.2;
    parameters = itself_parameters tables s s before.0.recorded (λ v b. refl);
  }

  pub relaid_tracks : (calls : List AnsweredCall) (call : AnsweredCall) → NamesNothing call.request → (own : Own) (tables : Blocks) (before : DescribesSoundly own f s tables)
      → TracksOnPaths calls s tables → TracksOnPaths (calls ++ call ∷ []) s (relaid_keeps own tables before).tables
  unfolding relaid_keeps
  relaid_tracks calls call quiet own tables before was = tracks_quiet calls call s s tables was quiet refl (λ v b. refl) tables (same_function tables tables refl)

  pub relaid_structured : (types : VariableTypes) (own : Own) → Structured types own f s [] → Structured types own (record f { blocks = nodes; layout = layout; tables = lists }) s []
  relaid_structured types own before = blocks_structured f nodes layout lists constants_kept types own s [] same_params same_insts before

map_kept : (P Q : ℕ → Placed) (count : ℕ) (xs : List ℕ) → ((i : ℕ) → i < count → P i ≡ Q i) → AllByRecursion (λ i. i < count) xs → map P xs ≡ map Q xs
map_kept P Q count [] same all = refl
map_kept P Q count (x ∷ xs) same all = ap₂ (λ (p : Placed) (ps : List Placed). p ∷ ps) (same x all.0) (map_kept P Q count xs same all.1)

-- other tables, where what was in them keeps its numbers
tables_on : (f : Body) (lists : TableLists) → KeepsEntries f.tables lists → GoesOn f (with_tables f lists)
tables_on f lists keeps = record {
  insts = λ i below. more_none (inst_at f i);
  types = λ v below. refl;
  more_insts = omega arith;
  more_values = omega arith;
  entries = keeps;
}

-- what is in tables keeps its numbers, and nothing is called
pub carries_pooled : (calls : List AnsweredCall) (f : Body) (s : SsaState) (lists : TableLists) → IsConsistent f → KeepsEntries f.tables lists
    → Carries calls f s → Carries calls (with_tables f lists) s
unfolding relaid_keeps
carries_pooled calls f s lists consistent keeps c =
    let g : Body = with_tables f lists in
    let kept : KeepsInsts f g = insts_kept f g consistent (tables_on f lists keeps) in
    let was : Holds calls c.own f s = c.holds in
    record {
      own = c.own;
      holds = record {
        blocks = was.blocks;
        items = λ block name named.
            map_kept (own_placed c.own g) (own_placed c.own f) (length f.insts) (c.own.insts block) (λ i below. kept.placed c.own i below) (was.own_exist block)
            ∙ was.items block name named;
        own_answers = was.own_answers;
        items_built = was.items_built;
        instructions = record { exist = was.instructions.exist; differ = was.instructions.differ };
        earlier = was.earlier;
        edges_end = was.edges_end;
        no_maps = λ i. kept.maps i ∙ was.no_maps i;
        own_exist = was.own_exist;
        own_named = was.own_named;
        own_inserted = was.own_inserted;
        declared = was.declared;
        leads_own = was.leads_own;
        have_edges = edges_there f g s s kept (λ b. refl) (structured_so_far calls f s c).leading was.have_edges;
        parameters = was.parameters;
        parameters_values = was.parameters_values;
        values_typed = was.values_typed;
        entry = record { none = was.entry.none; some = was.entry.some };
        structured = λ types are. relaid_structured f f.blocks f.layout lists keeps.constants s (λ x. refl) (λ x. refl) refl types c.own (was.structured types are);
      };
      on_paths = λ free.
          let before : SoundOnPaths calls c.own f s = c.on_paths free in
          let after : Keeps c.own before.tables g s =
          relaid_keeps f f.blocks f.layout lists keeps.constants s (λ x. refl) (λ x. refl) refl c.own before.tables (before.describes, before.sound, before.counts) in
          record {
            tables = before.tables;
            program = before.program;
            values_given = before.values_given;
            describes = after.describes;
            sound = after.sound;
            counts = after.counts;
            tracked = before.tracked;
          };
    }

module _ (calls : List AnsweredCall) (f : Body) (s : SsaState) (c : Carries calls f s) where
  abbrev the_call : Request → AnsweredCall
  the_call request = record { request = request; numbers = [] }

  -- each block that isn't sealed is
  pub carries_sealed_all : (g : Body) (t : SsaState) (seals : ℕ → Bool) → IsConsistent f
      → ((b : ℕ) → is_yes (sealed_of t b) ≡ (if seals b then true else is_yes (sealed_of s b)))
      → ((own : Own) (tables : Blocks) → ((b : ℕ) → seals b ≡ true → SparesIfEntry f s b) → DescribesSoundly own f s tables → Keeps own tables g t)
      → ((types : VariableTypes) (own : Own) → Structured types own f s [] → Structured types own g t [])
      → OnlyConstructs f g → g.layout ≡ f.layout → SamePredecessors s t → IsConsistent g → TracksMade (length f.values) s t → RecordsStay s t
      → Carries (calls ++ the_call SealAllBlocks ∷ []) g t
  carries_sealed_all g t seals consistent sealed keeps structured constructs layout leads consistent_now made stay =
      carries_kept calls f s c (the_call SealAllBlocks) g t tt tt tt (Requests.items_left calls (the_call SealAllBlocks) (λ program. refl))
      (Requests.entry_left calls (the_call SealAllBlocks) (λ program. refl)) (λ index. refl)
      (insts_kept f g consistent (goes_on-constructs f g constructs)) layout leads structured (still_sealed s t seals sealed)
      (λ free own tables. keeps own tables (spared_sealed f g s t seals layout leads sealed free))
      (λ free own tables before was.
      let kept : Keeps own tables g t = keeps own tables (spared_sealed f g s t seals layout leads sealed free) before in
      tracks_constructed f g constructs own s t tables before kept calls (the_call SealAllBlocks) consistent_now made stay tt was)

  -- a block comes behind another one
  pub carries_after : (block after : Name) (b a : ℕ) → Carries (calls ++ the_call (InsertBlockAfter block after) ∷ []) (with_layout_after f b a) s
  carries_after block after b a =
      let call : AnsweredCall = the_call (InsertBlockAfter block after) in
      carries_on calls f s c call (with_layout_after f b a) s tt tt tt (Requests.items_left calls call (λ program. refl))
      (Requests.entry_stays calls (calls ++ call ∷ []) f (with_layout_after f b a) (Requests.entry_left calls call (λ program. refl)) (first_stays b a f.layout)
      (name_stays calls call tt) c.holds.entry)
      (λ index. refl) (insts_same f (with_layout_after f b a) refl refl refl) (λ x out. out_before b a x f.layout out) (λ x. refl)
      (relaid_structured f f.blocks (put_behind b a f.layout) f.tables (λ constant bytes here. here) s (λ x. refl) (λ x. refl) (first_stays b a f.layout))
      (λ e is. first_stays b a f.layout ∙ is) (λ x is. is)
      (λ free. relaid_keeps f f.blocks (put_behind b a f.layout) f.tables (λ constant bytes here. here) s (λ x. refl) (λ x. refl) (first_stays b a f.layout))
      (λ free. relaid_tracks f f.blocks (put_behind b a f.layout) f.tables (λ constant bytes here. here) s (λ x. refl) (λ x. refl) (first_stays b a f.layout) calls call tt)

  -- a block is made cold
  pub carries_cold : (block : Name) (b : ℕ) → Carries (calls ++ the_call (SetColdBlock block) ∷ []) (with_cold f b) s
  carries_cold block b =
      let call : AnsweredCall = the_call (SetColdBlock block) in
      let nodes : List BlockNode = (with_cold f b).blocks in
      carries_kept calls f s c call (with_cold f b) s tt tt tt (Requests.items_left calls call (λ program. refl)) (Requests.entry_left calls call (λ program. refl)) (λ index. refl)
      (insts_same f (with_cold f b) refl refl refl) refl (λ x. refl)
      (relaid_structured f nodes f.layout f.tables (λ constant bytes here. here) s (cold_params f.blocks b) (cold_insts f.blocks b) refl)
      (λ x is. is) (λ free. relaid_keeps f nodes f.layout f.tables (λ constant bytes here. here) s (cold_params f.blocks b) (cold_insts f.blocks b) refl)
      (λ free. relaid_tracks f nodes f.layout f.tables (λ constant bytes here. here) s (cold_params f.blocks b) (cold_insts f.blocks b) refl calls call tt)

  -- a call that adds nothing to the program, and answers no value
  pub carries_still : (call : AnsweredCall) → MakesNoBlock call.request → MakesNoParameter call.request → MakesNoInstruction call.request → NamesNothing call.request
      → ((program : Program) → extended program call.request ≡ program)
      → ((index : ℕ) → is_value_at (answers_to (ledger_after (script_of calls)) call.request) index ≡ false)
      → Carries (calls ++ call ∷ []) f s
  carries_still call no_block no_parameter no_instruction no_name leaves no_value =
      carries_kept calls f s c call f s no_block no_parameter no_instruction (Requests.items_left calls call leaves) (Requests.entry_left calls call leaves) no_value
      (insts_same f f refl refl refl) refl (λ b. refl) (λ types own h. h) (λ b is. is) (λ free. still calls f s c)
      (λ free. still_tracks calls f s c call no_name)

  -- an entry is put into its table
  pub carries_tables : (entry : TableEntry) (number : ℕ) (lists : TableLists) → IsConsistent f → KeepsEntries f.tables lists
      → Carries (calls ++ record { request = MakeEntry entry; numbers = number ∷ [] } ∷ []) (with_tables f lists) s
  carries_tables entry number lists consistent keeps =
      let call : AnsweredCall = record { request = MakeEntry entry; numbers = number ∷ [] } in
      carries_kept calls f s c call (with_tables f lists) s tt tt tt (Requests.items_left calls call (λ program. refl)) (Requests.entry_left calls call (λ program. refl)) no_value
      (insts_kept f (with_tables f lists) consistent (tables_on f lists keeps)) refl (λ x. refl)
      (relaid_structured f f.blocks f.layout lists keeps.constants s (λ x. refl) (λ x. refl) refl)
      (λ x is. is) (λ free. relaid_keeps f f.blocks f.layout lists keeps.constants s (λ x. refl) (λ x. refl) refl)
      (λ free. relaid_tracks f f.blocks f.layout lists keeps.constants s (λ x. refl) (λ x. refl) refl calls call tt)
    where
      no_value : (index : ℕ) → is_value_at (answers_to (ledger_after (script_of calls)) (MakeEntry entry)) index ≡ false
      no_value zero = refl
      no_value (suc index) = refl

  -- the current block is brought into the layout
  pub carries_ensured : (b : ℕ) (B : Name) → IsCurrent calls b B → Carries (calls ++ the_call EnsureInsertedBlock ∷ []) (inserted_in f b) s
  carries_ensured b B current =
      let call : AnsweredCall = the_call EnsureInsertedBlock in
      let g : Body = inserted_in f b in
      let same = inserted_same f b in
      let entry = Requests.entry_ensured calls call B current.current refl in
      carries_on calls f s c call g s tt tt tt (Requests.items_ensured calls call refl)
      (entry_begun calls (calls ++ call ∷ []) f g b B entry refl current.named (name_stays calls call tt) c.holds.entry)
      (λ index. refl) (insts_same f g same.insts same.values same.tables) (λ x out. layouts.out_before f b x out) (λ x. refl)
      (λ types own before. inserted_structured types own f s b before)
      (λ e is. entry_inserted f b e is) (λ x is. is)
      (λ free own tables before.
      let after = inserted_soundly own f s tables b before in
      record {
        tables = with_entry f.layout s b tables;
        describes = after.0;
        sound = after.1;
        same = (entry_same f.layout s b tables).program;
        counts = after.2;
        parameters = entry_parameters f.layout s b tables before.0.recorded;
      })
      (λ free own tables before was.
      tracks_quiet calls call s s tables was tt refl (λ v x. refl) (with_entry f.layout s b tables) (entry_same_function f.layout s b tables))
