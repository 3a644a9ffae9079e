-- What a function holds of a list of calls it holds of the list with one more: with an item, or without.
use Rattle.std.proofs.Common.{◌≡◌, ◌≢◌, ℕ, suc, ◌<◌, ◌≤◌, List, [], ◌∷◌, ◌++◌, length, map, refl, sym, ◌∙◌, ap, ap₂, subst, arith, Option, Some, None, ◌⊎◌, inl, inr, false}
use Rattle.std.proofs.Math.Decide.{ℕ_discrete}
use Rattle.std.specs.Prelude.{Contains, flat_map, slice_get}
use Rattle.std.specs.List.{AllByRecursion}
use Rattle.std.proofs.lemmas.List.{append-nil, map-append}
use Rattle.std.proofs.lemmas.Grind.{flat_map-append}
use Rattle.clif_ir.specs.Body.{Body}
use Rattle.clif_instructions.specs.Members.{stands_in}
use Rattle.clif_ssa.specs.Own.{Own}
use Rattle.clif_ssa.specs.Sound.{edge_target}
use Rattle.clif_ssa.specs.Ssa.{SsaState, SamePredecessors, predecessors_of}
use Rattle.clif_ssa.specs.Structured.{Structured, VariableTypes}
use Rattle.clif_ssa.proofs.Ordering.{contains_cons}
use Rattle.clif_meaning.specs.Name.{Name}
use Rattle.clif_meaning.specs.Instruction.{Argument, Known, CallResult, CallPayload, Edge}
use Rattle.clif_meaning.specs.Ledger.{AnInstruction, answers_to, ledger_after}
use Rattle.clif_meaning.specs.Request.{AnsweredCall, script_of}
use Rattle.clif_meaning.specs.Program.{Item, Instruct, Use, Assign}
use Rattle.clif_meaning.specs.FunctionView.{Placed}
use Rattle.clif_simulation.specs.Tables.{answered, callers_parameters, program_so_far, block_name}
use Rattle.clif_simulation.specs.Carries.{AreDeclared, AreTypes, EdgeEarlier, EdgesEnd, HasEntry, HasItems, HasNoMaps, HaveEdges, Holds, InstructionsApart, IsBuilt, IsEarlier, IsValue, LeadsOwn, NamesBlocks, NamesEarlier, OwnAnswers, OwnExist, OwnParameters, PassesEarlier, ValuesTyped, answered_argument, answered_edge, answered_instruction, carried, instruction_of, own_placed}
use Rattle.clif_simulation.proofs.Extending.{one_answer}
use Rattle.clif_simulation.proofs.Growing.{KeepsInsts}
use Rattle.clif_simulation.proofs.ItemCalls.{PutsItem, items-here, items-elsewhere, same_or_other}
use Rattle.clif_simulation.proofs.Ledgers.{filled_stays}
use Rattle.clif_simulation.proofs.LedgerValues.{value_earlier, value_stays}
use Rattle.clif_simulation.proofs.Listed.{MakesNoParameter, parameters_stay}
use Rattle.clif_simulation.proofs.NameLists.{names_stay}
use Rattle.clif_simulation.proofs.Numbers.{answered_stays}
use Rattle.clif_simulation.proofs.Numbering.{apart_on, built_stays, item_numbers}
use Rattle.clif_simulation.proofs.Unfilled.{HasNoEdges, one_more_ends}

-- LISTS -----------------------------------------------------------------------------------------------------------------

-- what holds of each element, applied to each
pub all_mapped : {X : Type 0} (P Q : X → Type 0) → ((x : X) → P x → Q x) → (xs : List X) → AllByRecursion P xs → AllByRecursion Q xs
all_mapped P Q f [] all = tt
all_mapped P Q f (x ∷ xs) all = (f x all.0, all_mapped P Q f xs all.1)

pub all_append : {X : Type 0} (P : X → Type 0) (xs ys : List X) → AllByRecursion P xs → AllByRecursion P ys → AllByRecursion P (xs ++ ys)
all_append P [] ys first second = second
all_append P (x ∷ xs) ys first second = (first.0, all_append P xs ys first.1 second)

pub all_first : {X : Type 0} (P : X → Type 0) (xs ys : List X) → AllByRecursion P (xs ++ ys) → AllByRecursion P xs
all_first P [] ys all = tt
all_first P (x ∷ xs) ys all = (all.0, all_first P xs ys all.1)

pub all_contained : (P : ℕ → Type 0) (xs : List ℕ) (x : ℕ) → AllByRecursion P xs → Contains xs x → P x
all_contained P [] x all here = absurd (omega (arith, here.1))
all_contained P (y ∷ xs) x all here =
    elim (contains_cons y xs x here) [
      | inl same ↦ subst P same all.0
      | inr later ↦ all_contained P xs x all.1 later
    ]

pub map_same : {X Y : Type 0} (f g : X → Y) (P : X → Type 0) → ((x : X) → P x → f x ≡ g x) → (xs : List X) → AllByRecursion P xs → map f xs ≡ map g xs
map_same f g P same [] all = refl
map_same f g P same (x ∷ xs) all = ap (λ y. y ∷ map f xs) (same x all.0) ∙ ap (λ ys. g x ∷ ys) (map_same f g P same xs all.1)

none_some : (name : Name) → None ≡ Some name → ⊥
none_some name same = cc

-- what is declared, and what leads somewhere, where the branches that lead to blocks stay
pub declared_kept : (own : Own) (f g : Body) (s t : SsaState) → KeepsInsts f g → SamePredecessors s t → OwnExist f own.insts → AreDeclared f s own.insts → AreDeclared g t own.insts
declared_kept own f g s t keeps leads exist declared block inst k target here to =
    let below : inst < length f.insts = all_contained (λ (i : ℕ). i < length f.insts) (own.insts block) inst (exist block) here in
    subst (λ (is : List ℕ). Contains is inst) (sym (leads target)) (declared block inst k target here (sym (keeps.targets inst k below) ∙ to))

-- and so has each of them an edge to its block
pub edges_there : (f g : Body) (s t : SsaState) → KeepsInsts f g → SamePredecessors s t → ((target i : ℕ) → Contains (predecessors_of s target) i → i < length f.insts)
    → HaveEdges f s → HaveEdges g t
edges_there f g s t keeps leads exist have target inst here =
    let old : Contains (predecessors_of s target) inst = subst (λ (is : List ℕ). Contains is inst) (leads target) here in
    let edge : (k : ℕ) × (edge_target f inst k ≡ Some target) = have target inst old in
    (edge.0, keeps.targets inst edge.0 (exist target inst old) ∙ edge.1)

module _ (calls : List AnsweredCall) (call : AnsweredCall) where
  abbrev after : List AnsweredCall
  after = calls ++ call ∷ []

  -- NAMES ---------------------------------------------------------------------------------------------------------------

  pub numbers_kept : (names : List Name) → AllByRecursion (IsEarlier calls) names → map (answered after) names ≡ map (answered calls) names
  numbers_kept = map_same (answered after) (answered calls) (IsEarlier calls) (λ name earlier. answered_stays calls call name earlier)

  pub values_kept : (names : List Name) → AllByRecursion (IsValue calls) names → map (answered after) names ≡ map (answered calls) names
  values_kept names values = numbers_kept names (all_mapped (IsValue calls) (IsEarlier calls) (value_earlier calls) names values)

  argument_kept : (argument : Argument Name) → PassesEarlier calls argument → answered_argument after argument ≡ answered_argument calls argument
  argument_kept (Known name) value = ap Known (answered_stays calls call name (value_earlier calls name value))
  argument_kept (CallResult index) earlier = refl
  argument_kept (CallPayload index) earlier = refl

  edge_kept : (edge : Edge Name Name) → EdgeEarlier calls edge → answered_edge after edge ≡ answered_edge calls edge
  edge_kept edge earlier =
      ap₂ (λ (target : ℕ) (arguments : List (Argument ℕ)). record { target = target; arguments = arguments })
      (answered_stays calls call edge.target earlier.target)
      (map_same (answered_argument after) (answered_argument calls) (PassesEarlier calls) argument_kept edge.arguments earlier.passes)

  pub edges_kept : (edges : List (Edge Name Name)) → AllByRecursion (EdgeEarlier calls) edges → map (answered_edge after) edges ≡ map (answered_edge calls) edges
  edges_kept = map_same (answered_edge after) (answered_edge calls) (EdgeEarlier calls) edge_kept

  -- what an item is in the function stays
  pub carried_stays : (item : Item) → NamesEarlier calls item → carried after item ≡ carried calls item
  carried_stays (Instruct place instruction results) earlier =
      ap (λ (operands : List ℕ). record { instruction = record (answered_instruction after instruction) { operands = operands }; results = map (answered after) results; stack_map = [] } ∷ [])
      (values_kept instruction.operands earlier.0)
      ∙ ap (λ (results : List ℕ). record { instruction = record (answered_instruction after instruction) { operands = map (answered calls) instruction.operands }; results = results; stack_map = [] } ∷ [])
      (numbers_kept results earlier.1)
      ∙ ap (λ (edges : List (Edge ℕ ℕ)). record { instruction = record (answered_instruction calls instruction) { contexts = map (answered after) instruction.contexts; edges = edges }; results = map (answered calls) results; stack_map = [] } ∷ [])
      (edges_kept instruction.edges earlier.2)
      ∙ ap (λ (contexts : List ℕ). record { instruction = record (answered_instruction calls instruction) { contexts = contexts }; results = map (answered calls) results; stack_map = [] } ∷ [])
      (numbers_kept instruction.contexts earlier.3)
  carried_stays (Use variable name) earlier = refl
  carried_stays (Assign variable name) earlier = refl

  pub all_carried : (items : List Item) → AllByRecursion (NamesEarlier calls) items → flat_map (carried after) items ≡ flat_map (carried calls) items
  all_carried [] all = refl
  all_carried (item ∷ items) all =
      ap (λ (first : List Placed). first ++ flat_map (carried after) items) (carried_stays item all.0)
      ∙ ap (λ (rest : List Placed). carried calls item ++ rest) (all_carried items all.1)

  pub earlier_name : (name : Name) → IsEarlier calls name → IsEarlier after name
  earlier_name name earlier = longer name.place earlier
    where
      longer : (place : ℕ) → place < length calls → place < length (calls ++ call ∷ [])
      longer place below = by calls below
        where
          by : (cs : List AnsweredCall) → place < length cs → place < length (cs ++ call ∷ [])
          by [] h = absurd (omega arith)
          by (c ∷ cs) h = omega (arith, more cs)
            where
              more : (ds : List AnsweredCall) → length (ds ++ call ∷ []) ≡ suc (length ds)
              more [] = refl
              more (d ∷ ds) = ap suc (more ds)

  passes_earlier : (argument : Argument Name) → PassesEarlier calls argument → PassesEarlier after argument
  passes_earlier (Known name) value = value_stays calls call name value
  passes_earlier (CallResult index) earlier = tt
  passes_earlier (CallPayload index) earlier = tt

  -- the branches that lead to blocks stay the caller's
  pub leads_kept : (own own' : Own) (s t : SsaState) → ((block : ℕ) (name : Name) → block_name calls block ≡ Some name → block_name after block ≡ Some name)
      → ((block inst : ℕ) → Contains (own.insts block) inst → Contains (own'.insts block) inst)
      → SamePredecessors s t → LeadsOwn calls own s → LeadsOwn after own' t
  leads_kept own own' s t stays still leads was target inst here =
      let old = was target inst (subst (λ (is : List ℕ). Contains is inst) (leads target) here) in
      (old.0, old.1, still old.0 inst old.2, stays old.0 old.1 old.3, filled_stays calls call old.1 old.4)

  -- the items of the program, where one more is put behind those of block B
  module _ (B : Name) (item : Item) (puts : PutsItem calls call B item) where
    items_here : (program_so_far after).items B ≡ (program_so_far calls).items B ++ item ∷ []
    items_here = puts.items B ∙ items-here (program_so_far calls) B item

    items_others : (name : Name) → name ≢ B → (program_so_far after).items name ≡ (program_so_far calls).items name
    items_others name other = puts.items name ∙ items-elsewhere (program_so_far calls) B item name other

  module _ (stays : (block : ℕ) (name : Name) → block_name calls block ≡ Some name → block_name after block ≡ Some name) where
    pub edge_earlier : (edge : Edge Name Name) → EdgeEarlier calls edge → EdgeEarlier after edge
    edge_earlier edge earlier = record {
      target = earlier_name edge.target earlier.target;
      leads = ap (block_name after) (answered_stays calls call edge.target earlier.target) ∙ stays (answered calls edge.target) edge.target earlier.leads;
      passes = all_mapped (PassesEarlier calls) (PassesEarlier after) passes_earlier edge.arguments earlier.passes;
    }

    pub earlier_stays : (item : Item) → NamesEarlier calls item → NamesEarlier after item
    earlier_stays (Instruct place instruction results) earlier = (
      all_mapped (IsValue calls) (IsValue after) (value_stays calls call) instruction.operands earlier.0,
      all_mapped (IsEarlier calls) (IsEarlier after) earlier_name results earlier.1,
      all_mapped (EdgeEarlier calls) (EdgeEarlier after) edge_earlier instruction.edges earlier.2,
      all_mapped (IsEarlier calls) (IsEarlier after) earlier_name instruction.contexts earlier.3,
    )
    earlier_stays (Use variable name) earlier = earlier_name name earlier
    earlier_stays (Assign variable name) earlier = earlier_name name earlier

    -- the new function keeps the caller's instructions, as the machine sees them
    module _ (own own' : Own) (f g : Body) (s t : SsaState) (c : Holds calls own f s)
        (kept : (i : ℕ) → i < length f.insts → own_placed own' g i ≡ own_placed own f i) (more : length f.insts ≤ length g.insts)
        (inserted : (b : ℕ) → stands_in b g.layout ≡ false → stands_in b f.layout ≡ false) where
      own_exists : (insts : List ℕ) → AllByRecursion (λ (i : ℕ). i < length f.insts) insts → AllByRecursion (λ (i : ℕ). i < length g.insts) insts
      own_exists = all_mapped (λ (i : ℕ). i < length f.insts) (λ (i : ℕ). i < length g.insts) (λ i below. omega (arith, below, more))

      -- the items of a block are carried on
      items_kept : (block : ℕ) (name : Name) → block_name calls block ≡ Some name
          → map (own_placed own' g) (own.insts block) ≡ flat_map (carried after) ((program_so_far calls).items name)
      items_kept block name named =
          map_same (own_placed own' g) (own_placed own f) (λ (i : ℕ). i < length f.insts) kept (own.insts block) (c.own_exist block)
          ∙ c.items block name named ∙ sym (all_carried ((program_so_far calls).items name) (c.earlier name))

      -- they have the numbers that they had
      numbers_stay : (block : ℕ) (name : Name) → block_name calls block ≡ Some name → own.insts block ≡ flat_map (instruction_of after) ((program_so_far calls).items name)
      numbers_stay block name named =
          c.own_answers block name named ∙ sym (item_numbers calls call ((program_so_far calls).items name) (c.items_built name))

      -- The caller's parameters ---------------------------------------------------------------------------------------

      -- the program's parameters of a block have the numbers that they had
      pub parameters_kept : (name : Name) → map (answered after) ((program_so_far calls).parameters name) ≡ map (answered calls) ((program_so_far calls).parameters name)
      parameters_kept name = values_kept ((program_so_far calls).parameters name) (c.parameters_values name)

      -- a call that makes no parameter leaves those of each block, and those of a new block are none
      pub parameters_on : MakesNoParameter call.request → ((block : ℕ) → own'.params block ≡ own.params block)
          → ((block : ℕ) (name : Name) → block_name after block ≡ Some name → (block_name calls block ≡ Some name) ⊎ ((block_name calls block ≡ None) × ((program_so_far calls).parameters name ≡ [])))
          → OwnParameters after own'
      parameters_on none same named block = same block ∙ c.parameters block ∙ by (block_name after block) refl
        where
          at_block : (o : Option Name) → block_name calls block ≡ o → map (answered calls) (callers_parameters calls (block_name calls block)) ≡ map (answered calls) (callers_parameters calls o)
          at_block o is = ap (λ (p : Option Name). map (answered calls) (callers_parameters calls p)) is

          old : (name : Name) → map (answered calls) ((program_so_far calls).parameters name) ≡ map (answered after) ((program_so_far after).parameters name)
          old name = sym (parameters_kept name) ∙ ap (map (answered after)) (sym (parameters_stay calls call none name))

          was_unnamed : (o : Option Name) → block_name calls block ≡ o → block_name after block ≡ None → block_name calls block ≡ None
          was_unnamed None is unnamed = is
          was_unnamed (Some name) is unnamed = absurd (none_some name (sym unnamed ∙ stays block name is))

          of_name : (name : Name) → (block_name calls block ≡ Some name) ⊎ ((block_name calls block ≡ None) × ((program_so_far calls).parameters name ≡ []))
              → map (answered calls) (callers_parameters calls (block_name calls block)) ≡ map (answered after) ((program_so_far after).parameters name)
          of_name name (inl is) = at_block (Some name) is ∙ old name
          of_name name (inr new) = at_block None new.0 ∙ ap (map (answered calls)) (sym new.1) ∙ old name

          by : (o : Option Name) → block_name after block ≡ o → map (answered calls) (callers_parameters calls (block_name calls block)) ≡ map (answered after) (callers_parameters after (block_name after block))
          by None is = at_block None (was_unnamed (block_name calls block) refl is) ∙ ap (λ (o : Option Name). map (answered after) (callers_parameters after o)) (sym is)
          by (Some name) is = of_name name (named block name is) ∙ ap (λ (o : Option Name). map (answered after) (callers_parameters after o)) (sym is)

      pub parameters_values_on : MakesNoParameter call.request → (name : Name) → AllByRecursion (IsValue after) ((program_so_far after).parameters name)
      parameters_values_on none name =
          subst (AllByRecursion (IsValue after)) (sym (parameters_stay calls call none name))
          (all_mapped (IsValue calls) (IsValue after) (value_stays calls call) ((program_so_far calls).parameters name) (c.parameters_values name))

      pub only_parameters : MakesNoParameter call.request → ((d : ℕ) → block_name after d ≡ block_name calls d)
          → (name : Name) → ((program_so_far after).parameters name ≡ []) ⊎ ((block : ℕ) × (block_name after block ≡ Some name))
      only_parameters none names name = by (c.blocks.only_parameters name)
        where
          by : ((program_so_far calls).parameters name ≡ []) ⊎ ((block : ℕ) × (block_name calls block ≡ Some name))
              → ((program_so_far after).parameters name ≡ []) ⊎ ((block : ℕ) × (block_name after block ≡ Some name))
          by (inl empty) = inl (parameters_stay calls call none name ∙ empty)
          by (inr block) = inr (block.0, names block.0 ∙ block.1)

      -- A call without an item ------------------------------------------------------------------------------------------

      pub holds_on : HasNoMaps g → ((index : ℕ) → slice_get (answers_to (ledger_after (script_of calls)) call.request) index ≡ Some AnInstruction → ⊥)
          → ((block : ℕ) → own'.insts block ≡ own.insts block) → OwnParameters after own'
          → ((name : Name) → AllByRecursion (IsValue after) ((program_so_far after).parameters name)) → ValuesTyped after g → NamesBlocks after
          → ((block : ℕ) (name : Name) → block_name after block ≡ Some name → (block_name calls block ≡ Some name) ⊎ ((own.insts block ≡ []) × ((program_so_far calls).items name ≡ [])))
          → ((name : Name) → (program_so_far after).items name ≡ (program_so_far calls).items name)
          → AreDeclared g t own'.insts → LeadsOwn after own' t → HaveEdges g t → HasEntry after g
          → ((types : VariableTypes) → AreTypes after types → Structured types own' g t []) → Holds after own' g t
      holds_on no_maps no_instruction same parameters parameters_values values_typed blocks named items declared leads have entry structured = record {
        blocks = blocks;
        items = λ block name here. ap (map (own_placed own' g)) (same block) ∙ by block name (named block name here);
        own_answers = λ block name here. same block ∙ numbers block name (named block name here);
        items_built = λ name. subst (AllByRecursion (IsBuilt after)) (sym (items name)) (all_mapped (IsBuilt calls) (IsBuilt after) (built_stays calls call) ((program_so_far calls).items name) (c.items_built name));
        instructions = apart_on calls call (length f.insts) (length g.insts) no_instruction more c.instructions;
        earlier = λ name. subst (AllByRecursion (NamesEarlier after)) (sym (items name)) (all_mapped (NamesEarlier calls) (NamesEarlier after) earlier_stays ((program_so_far calls).items name) (c.earlier name));
        edges_end = λ name. subst EdgesEnd (sym (items name)) (c.edges_end name);
        no_maps = no_maps;
        own_exist = λ block. subst (AllByRecursion (λ (i : ℕ). i < length g.insts)) (sym (same block)) (own_exists (own.insts block) (c.own_exist block));
        own_named = λ block none. same block ∙ c.own_named block (unnamed block none (block_name calls block) refl);
        own_inserted = λ block out. same block ∙ c.own_inserted block (inserted block out);
        declared = declared;
        leads_own = leads;
        have_edges = have;
        parameters = parameters;
        parameters_values = parameters_values;
        values_typed = values_typed;
        entry = entry;
        structured = structured;
      }
        where
          unnamed : (block : ℕ) → block_name after block ≡ None → (o : Option Name) → block_name calls block ≡ o → block_name calls block ≡ None
          unnamed block none None is = is
          unnamed block none (Some name) is = absurd (none_some name (sym none ∙ stays block name is))

          by : (block : ℕ) (name : Name) → (block_name calls block ≡ Some name) ⊎ ((own.insts block ≡ []) × ((program_so_far calls).items name ≡ []))
              → map (own_placed own' g) (own.insts block) ≡ flat_map (carried after) ((program_so_far after).items name)
          by block name (inl old) = items_kept block name old ∙ ap (flat_map (carried after)) (sym (items name))
          by block name (inr new) = ap (map (own_placed own' g)) new.0 ∙ ap (flat_map (carried after)) (sym (items name ∙ new.1))

          numbers : (block : ℕ) (name : Name) → (block_name calls block ≡ Some name) ⊎ ((own.insts block ≡ []) × ((program_so_far calls).items name ≡ []))
              → own.insts block ≡ flat_map (instruction_of after) ((program_so_far after).items name)
          numbers block name (inl old) = numbers_stay block name old ∙ ap (flat_map (instruction_of after)) (sym (items name))
          numbers block name (inr new) = new.0 ∙ ap (flat_map (instruction_of after)) (sym (items name ∙ new.1))

      -- A call with an item ---------------------------------------------------------------------------------------------

      module _ (b : ℕ) (B : Name) (item : Item) (named : block_name calls b ≡ Some B) (puts : PutsItem calls call B item) (new : List ℕ)
          (own_here : own'.insts b ≡ own.insts b ++ new) (own_elsewhere : (d : ℕ) → d ≢ b → own'.insts d ≡ own.insts d)
          (same_params : (d : ℕ) → own'.params d ≡ own.params d) (values_typed : ValuesTyped after g) (new_inserted : stands_in b g.layout ≡ false → new ≡ [])
          (new_is : map (own_placed own' g) new ≡ carried after item)
          (new_exist : AllByRecursion (λ (i : ℕ). i < length g.insts) new) (item_earlier : NamesEarlier after item)
          (new_numbers : new ≡ instruction_of after item) (item_built : IsBuilt after item) (apart : InstructionsApart after (length g.insts))
          (no_edges : AllByRecursion HasNoEdges ((program_so_far calls).items B)) where
        names : (d : ℕ) → block_name after d ≡ block_name calls d
        names d = names_stay calls call puts.no_block d

        one_more : flat_map (carried after) (item ∷ []) ≡ carried after item
        one_more = append-nil (carried after item)

        items_at : map (own_placed own' g) (own'.insts b) ≡ flat_map (carried after) ((program_so_far after).items B)
        items_at =
            ap (map (own_placed own' g)) own_here
            ∙ map-append (own_placed own' g) (own.insts b) new
            ∙ ap (λ (rest : List Placed). map (own_placed own' g) (own.insts b) ++ rest) (new_is ∙ sym one_more)
            ∙ ap (λ (front : List Placed). front ++ flat_map (carried after) (item ∷ [])) (items_kept b B named)
            ∙ sym (flat_map-append (carried after) ((program_so_far calls).items B) (item ∷ []))
            ∙ ap (flat_map (carried after)) (sym (items_here B item puts))

        items_of : HasItems after g own'
        items_of block name named_after = by (ℕ_discrete block b)
          where
            old : block_name calls block ≡ Some name
            old = sym (names block) ∙ named_after

            by : Dec (block ≡ b) → map (own_placed own' g) (own'.insts block) ≡ flat_map (carried after) ((program_so_far after).items name)
            by (yes same) =
                let is_B : name ≡ B = one_answer name B (block_name calls block) old (ap (block_name calls) same ∙ named) in
                ap (λ (d : ℕ). map (own_placed own' g) (own'.insts d)) same ∙ items_at
                ∙ ap (λ (n : Name). flat_map (carried after) ((program_so_far after).items n)) (sym is_B)
            by (no other) =
                ap (map (own_placed own' g)) (own_elsewhere block other) ∙ items_kept block name old
                ∙ ap (flat_map (carried after)) (sym (items_others B item puts name (λ is_B. other (c.blocks.distinct block b B (old ∙ ap (λ (n : Name). Some n) is_B) named))))

        numbers_at : own'.insts b ≡ flat_map (instruction_of after) ((program_so_far after).items B)
        numbers_at =
            own_here
            ∙ ap₂ (λ (old last : List ℕ). old ++ last) (numbers_stay b B named) (new_numbers ∙ sym (append-nil (instruction_of after item)))
            ∙ sym (flat_map-append (instruction_of after) ((program_so_far calls).items B) (item ∷ []))
            ∙ ap (flat_map (instruction_of after)) (sym (items_here B item puts))

        numbers_of : OwnAnswers after own'
        numbers_of block name named_after = by (ℕ_discrete block b)
          where
            old : block_name calls block ≡ Some name
            old = sym (names block) ∙ named_after

            by : Dec (block ≡ b) → own'.insts block ≡ flat_map (instruction_of after) ((program_so_far after).items name)
            by (yes same) =
                let is_B : name ≡ B = one_answer name B (block_name calls block) old (ap (block_name calls) same ∙ named) in
                ap own'.insts same ∙ numbers_at ∙ ap (λ (n : Name). flat_map (instruction_of after) ((program_so_far after).items n)) (sym is_B)
            by (no other) =
                own_elsewhere block other ∙ numbers_stay block name old
                ∙ ap (flat_map (instruction_of after)) (sym (items_others B item puts name (λ is_B. other (c.blocks.distinct block b B (old ∙ ap (λ (n : Name). Some n) is_B) named))))

        old_built : (name : Name) → AllByRecursion (IsBuilt after) ((program_so_far calls).items name)
        old_built name = all_mapped (IsBuilt calls) (IsBuilt after) (built_stays calls call) ((program_so_far calls).items name) (c.items_built name)

        -- what holds of each old item and of the new one
        each_item : (P : List Item → Type 0) → P ((program_so_far calls).items B ++ item ∷ []) → ((name : Name) → P ((program_so_far calls).items name))
            → (name : Name) → P ((program_so_far after).items name)
        each_item P new_one old name = by (same_or_other B name)
          where
            by : (name ≡ B) ⊎ (name ≢ B) → P ((program_so_far after).items name)
            by (inl same) = subst (λ (n : Name). P ((program_so_far after).items n)) (sym same) (subst P (sym (items_here B item puts)) new_one)
            by (inr other) = subst P (sym (items_others B item puts name other)) (old name)

        old_earlier : (name : Name) → AllByRecursion (NamesEarlier after) ((program_so_far calls).items name)
        old_earlier name = all_mapped (NamesEarlier calls) (NamesEarlier after) earlier_stays ((program_so_far calls).items name) (c.earlier name)

        own_all : OwnExist g own'.insts
        own_all block = by (ℕ_discrete block b)
          where
            by : Dec (block ≡ b) → AllByRecursion (λ (i : ℕ). i < length g.insts) (own'.insts block)
            by (yes same) =
                subst (λ (d : ℕ). AllByRecursion (λ (i : ℕ). i < length g.insts) (own'.insts d)) (sym same)
                (subst (AllByRecursion (λ (i : ℕ). i < length g.insts)) (sym own_here) (all_append (λ (i : ℕ). i < length g.insts) (own.insts b) new (own_exists (own.insts b) (c.own_exist b)) new_exist))
            by (no other) = subst (AllByRecursion (λ (i : ℕ). i < length g.insts)) (sym (own_elsewhere block other)) (own_exists (own.insts block) (c.own_exist block))

        own_unnamed : (block : ℕ) → block_name after block ≡ None → Dec (block ≡ b) → own'.insts block ≡ []
        own_unnamed block none (yes same) = absurd (none_some B (sym none ∙ names block ∙ ap (block_name calls) same ∙ named))
        own_unnamed block none (no other) = own_elsewhere block other ∙ c.own_named block (sym (names block) ∙ none)

        own_outside : (block : ℕ) → stands_in block g.layout ≡ false → Dec (block ≡ b) → own'.insts block ≡ []
        own_outside block out (no other) = own_elsewhere block other ∙ c.own_inserted block (inserted block out)
        own_outside block out (yes same) =
            let out_here : stands_in b g.layout ≡ false = subst (λ (d : ℕ). stands_in d g.layout ≡ false) same out in
            ap own'.insts same ∙ own_here ∙ ap (λ (is : List ℕ). is ++ new) (c.own_inserted b (inserted b out_here)) ∙ new_inserted out_here

        only : (name : Name) → (name ≡ B) ⊎ (name ≢ B) → ((program_so_far calls).items name ≡ []) ⊎ ((block : ℕ) × (block_name calls block ≡ Some name))
            → ((program_so_far after).items name ≡ []) ⊎ ((block : ℕ) × (block_name after block ≡ Some name))
        only name (inl same) old = inr (b, names b ∙ named ∙ ap (λ (n : Name). Some n) (sym same))
        only name (inr other) (inl none) = inl (items_others B item puts name other ∙ none)
        only name (inr other) (inr block) = inr (block.0, names block.0 ∙ block.1)

        pub holds_item : HasNoMaps g → AreDeclared g t own'.insts → LeadsOwn after own' t → HaveEdges g t → HasEntry after g
            → ((types : VariableTypes) → AreTypes after types → Structured types own' g t []) → Holds after own' g t
        holds_item no_maps declared leads have entry structured = record {
          blocks = record {
            distinct = λ d e name first second. c.blocks.distinct d e name (sym (names d) ∙ first) (sym (names e) ∙ second);
            earlier = λ d name is. earlier_name name (c.blocks.earlier d name (sym (names d) ∙ is));
            only = λ name. only name (same_or_other B name) (c.blocks.only name);
            only_parameters = only_parameters puts.no_parameter (λ d. names d);
          };
          items = items_of;
          own_answers = numbers_of;
          items_built = each_item (AllByRecursion (IsBuilt after)) (all_append (IsBuilt after) ((program_so_far calls).items B) (item ∷ []) (old_built B) (item_built, tt)) old_built;
          instructions = apart;
          earlier = each_item (AllByRecursion (NamesEarlier after)) (all_append (NamesEarlier after) ((program_so_far calls).items B) (item ∷ []) (old_earlier B) (item_earlier, tt)) old_earlier;
          edges_end = each_item EdgesEnd (one_more_ends ((program_so_far calls).items B) item no_edges) c.edges_end;
          no_maps = no_maps;
          own_exist = own_all;
          own_named = λ block none. own_unnamed block none (ℕ_discrete block b);
          own_inserted = λ block out. own_outside block out (ℕ_discrete block b);
          declared = declared;
          leads_own = leads;
          have_edges = have;
          parameters = parameters_on puts.no_parameter same_params (λ d name is. inl (sym (names d) ∙ is));
          parameters_values = parameters_values_on puts.no_parameter;
          values_typed = values_typed;
          entry = entry;
          structured = structured;
        }
