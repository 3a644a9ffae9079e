-- An instruction, and its edges, at the end: the same operation, whose operands and edges are read as the law of spilling has it.
use Rattle.std.proofs.Common.{◌≡◌, ◌∙◌, ◌<◌, ◌≤◌, ◌⊎◌, ℕ, zero, suc, Bool, true, List, [], ◌∷◌, ◌++◌, length, drop, map as each, flat_map, refl, sym, ap, ap₂, subst, arith, inl, inr}
use Rattle.std.specs.Prelude.{Contains, Option, Some, if◌then◌else◌, slice_index_or}
use Rattle.std.specs.FinMap as fin
use Rattle.std.specs.List.{AllZip}
use Rattle.std.proofs.lemmas.List.Elements.{All-contains}
use Rattle.clif_types.specs.EntitySet.{has}
use Rattle.clif_types.specs.declared.types.LaneType.TheVariants as lane
use Rattle.clif_types.specs.declared.types.«Type».{«Type»}
use Rattle.clif_types.specs.declared.types.«Type».TheVariants as type
use Rattle.clif_opcodes.specs.declared.kinds.Control.{Control}
use Rattle.clif_opcodes.specs.declared.kinds.Control.TheVariants as control
use Rattle.clif_opcodes.specs.declared.kinds.ResultKind.{ResultKind}
use Rattle.clif_opcodes.specs.declared.kinds.ResultKind.TheVariants as kind
use Rattle.clif_opcodes.specs.declared.opcodes.Opcode.{Opcode}
use Rattle.clif_opcodes.specs.Typing.{row_of}
use Rattle.clif_instructions.specs.Instruction.{opcode_of, operands, typing_of}
use Rattle.clif_instructions.specs.declared.block_call.BlockArg.{BlockArg}
use Rattle.clif_instructions.specs.declared.block_call.BlockArg.TheVariants as arg
use Rattle.clif_instructions.specs.declared.block_call.BlockCall.{BlockCall}
use Rattle.clif_instructions.specs.declared.instructions.InstructionData.{InstructionData}
use Rattle.clif_instructions.specs.declared.instructions.InstructionData.TheVariants.{Jump}
use Rattle.clif_ir.specs.Body.{Body, block_at, value_at}
use Rattle.clif_ir.specs.Consistent.{EdgeExists, IsConsistent, PassedExists}
use Rattle.clif_meaning.specs.Event.{CallShape, payload_types}
use Rattle.clif_meaning.specs.FunctionView.{Placed}
use Rattle.clif_meaning.specs.Instruction.{Argument, CallPayload, CallResult, Known}
use Rattle.clif_meaning.specs.Typing.{call_shape}
use Rattle.clif_meaning.specs.View.{argument_of, controlled, controlling_of, edge_of, first_type, operation_of, placed_of}
use Rattle.clif_safepoints.proofs.Paths.{items_are, stands_from}
use Rattle.clif_spilling_laws.specs.Rewriting.{AreArguments, AreFresh, AreLanded, IsArgument, IsLedOn, IsRead, Lands, LeadsStraight, own_arguments, own_type}
use Rattle.clif_spilling_laws.specs.Spilling.{Reload, Spilling, reload_items}
use Rattle.clif_stack_slots.specs.Slots.{assigned_in}
use Rattle.clif_stack_slots.specs.declared.slots.StackSlots.{StackSlots}
use Rattle.clif_spiller.specs.Allocating.{every}
use Rattle.clif_spiller.specs.Keeping.{Keeps}
use Rattle.clif_spiller.specs.Plans.{IsPlan, insts_inside}
use Rattle.clif_spiller.specs.Spills.{beside}
use Rattle.clif_spiller.specs.Text.{Access, AreAccesses, AreApartFrom, AreRising, IsArgumentBy, IsEdgeBy, IsLandedAs, IsReadBy, LandedRow, LandsBy, Reloaded, arguments_of, own_arg, own_type_in, params_of, passed_of, returned_type}
use Rattle.clif_spiller.specs.declared.plan.Plan.{Plan}
use Rattle.clif_spiller.proofs.Progressing.Members.{from_map, into_map}
use Rattle.clif_spiller.proofs.Shapes.{get_or_inside}
use Rattle.clif_spiller.proofs.Text.Closing.{good_reloads, is_read, new_itself, placed_node, reload_of, reloads_are}
use Rattle.clif_spiller.proofs.Text.Landing.{rising_inside}
use Rattle.clif_spiller.proofs.Text.Lists.{zip_turned}

-- THE CONTROLLING TYPE --------------------------------------------------------------------------------------------------

-- where operands and results have the types that they had
controlled_so : (f g : Body) (kinds : List ResultKind) (how : Control) (olds news results : List ℕ) → first_type g results ≡ first_type f results
    → ((k : ℕ) → first_type g (drop k news) ≡ first_type f (drop k olds)) → controlled g kinds how news results ≡ controlled f kinds how olds results
controlled_so f g (kind.Controlling ∷ kinds) how olds news results same types = same
controlled_so f g [] control.Absent olds news results same types = refl
controlled_so f g [] control.Given olds news results same types = refl
controlled_so f g [] (control.Operand k) olds news results same types = types k
controlled_so f g (kind.Half ∷ kinds) control.Absent olds news results same types = refl
controlled_so f g (kind.Half ∷ kinds) control.Given olds news results same types = refl
controlled_so f g (kind.Half ∷ kinds) (control.Operand k) olds news results same types = types k
controlled_so f g (kind.Double ∷ kinds) control.Absent olds news results same types = refl
controlled_so f g (kind.Double ∷ kinds) control.Given olds news results same types = refl
controlled_so f g (kind.Double ∷ kinds) (control.Operand k) olds news results same types = types k
controlled_so f g (kind.Exactly ty ∷ kinds) control.Absent olds news results same types = refl
controlled_so f g (kind.Exactly ty ∷ kinds) control.Given olds news results same types = refl
controlled_so f g (kind.Exactly ty ∷ kinds) (control.Operand k) olds news results same types = types k

first_types : (f g : Body) (olds news : List ℕ) → AllZip (λ (old new : ℕ). (value_at g new).ty ≡ (value_at f old).ty) olds news → (k : ℕ)
    → first_type g (drop k news) ≡ first_type f (drop k olds)
first_types f g [] [] zip zero = refl
first_types f g [] [] zip (suc k) = refl
first_types f g [] (new ∷ news) zip k = absurd zip
first_types f g (old ∷ olds) [] zip k = absurd zip
first_types f g (old ∷ olds) (new ∷ news) zip zero = zip.0
first_types f g (old ∷ olds) (new ∷ news) zip (suc k) = first_types f g olds news zip.1 k

-- PAYLOADS --------------------------------------------------------------------------------------------------------------

payload_is : (index : ℕ) → slice_index_or payload_types index (type.Lane lane.I64) ≡ type.Lane lane.I64
payload_is zero = refl
payload_is (suc zero) = refl
payload_is (suc (suc index)) = past_two (λ (xs : List «Type»). xs) index
  where
    past_two : (List «Type» → List «Type») → (k : ℕ) → slice_index_or payload_types (suc (suc k)) (type.Lane lane.I64) ≡ type.Lane lane.I64
    past_two same k = refl

module _ (first : Body) (plan : Plan) (last : Body) (final : StackSlots) (slot_of : ℕ → ℕ) (known : IsConsistent first) (n : ℕ) (keeps : Keeps n first last)
    (slots : (v slot : ℕ) → fin.get (assigned_in final) v ≡ Some slot → slot_of v ≡ slot)
    (spilled : (v slot : ℕ) → fin.get (assigned_in final) v ≡ Some slot → has plan.spilled v ≡ true)
    (planned : IsPlan first plan) where
  abbrev s : Spilling
  s = beside first plan.pointer last (has plan.spilled) slot_of

  -- OPERANDS ------------------------------------------------------------------------------------------------------------

  -- reloads of a range of new values
  module _ (m v : ℕ) (xs : List Access) (m' v' : ℕ) (are : AreAccesses Reloaded plan.pointer last m v xs m' v') where
    abbrev reloads : List Reload
    reloads = each (reload_of first plan last final slot_of known n keeps slots spilled planned) xs

    read : (old new : ℕ) → old < length first.values → IsReadBy plan first xs old new → IsRead s reloads old new
    read = is_read first plan last final slot_of known n keeps slots spilled planned m v xs m' v' are

    pub operands_read : (olds news : List ℕ) → ((old : ℕ) → Contains olds old → old < length first.values) → AllZip (IsReadBy plan first xs) olds news
        → AllZip (IsRead s reloads) olds news
    operands_read olds news inside zip =
        zip_turned (IsReadBy plan first xs) (IsRead s reloads) olds news (λ old new here. read old new (inside old here)) zip

    argument_so : (target place : ℕ) (x y : BlockArg) → PassedExists first x → IsArgumentBy plan first xs x y → IsArgument every s reloads target place (argument_of x) (argument_of y)
    argument_so target place (arg.Value old) (arg.Value new) inside is = inl (read old new inside is)
    argument_so target place (arg.Value old) (arg.TryCallRet index) inside is = absurd is
    argument_so target place (arg.Value old) (arg.TryCallExn part) inside is = absurd is
    argument_so target place (arg.TryCallRet index) (arg.TryCallRet other) inside is = is
    argument_so target place (arg.TryCallRet index) (arg.Value new) inside is = absurd is
    argument_so target place (arg.TryCallRet index) (arg.TryCallExn part) inside is = absurd is
    argument_so target place (arg.TryCallExn part) (arg.TryCallExn other) inside is = is
    argument_so target place (arg.TryCallExn part) (arg.Value new) inside is = absurd is
    argument_so target place (arg.TryCallExn part) (arg.TryCallRet index) inside is = absurd is

    arguments_so : (target place : ℕ) (olds news : List BlockArg) → ((x : BlockArg) → Contains olds x → PassedExists first x) → AllZip (IsArgumentBy plan first xs) olds news
        → AreArguments every s reloads target place (each argument_of olds) (each argument_of news)
    arguments_so target place [] [] inside zip = tt
    arguments_so target place [] (y ∷ news) inside zip = absurd zip
    arguments_so target place (x ∷ olds) [] inside zip = absurd zip
    arguments_so target place (x ∷ olds) (y ∷ news) inside zip = (
      argument_so target place x y (inside x (0, omega arith, refl)) zip.0,
      arguments_so target (suc place) olds news (λ z here. inside z (suc here.0, (let there = here.1 in omega (arith, there)), here.2)) zip.1,
    )

    pub leads_straight : (old new : BlockCall) → EdgeExists first old → IsEdgeBy plan first xs old new → LeadsStraight every s reloads (edge_of old) (edge_of new)
    leads_straight old new inside is = record {
      target = is.block;
      arguments = arguments_so old.block 0 old.args new.args (λ x here. All-contains (PassedExists first) old.args x inside.1 here) is.args;
    }

  -- LANDING BLOCKS ------------------------------------------------------------------------------------------------------

  own_so : (args : List BlockArg) → own_arguments (each argument_of args) ≡ each argument_of (flat_map own_arg args)
  own_so [] = refl
  own_so (arg.Value v ∷ args) = own_so args
  own_so (arg.TryCallRet index ∷ args) = ap (λ (xs : List (Argument ℕ)). CallResult index ∷ xs) (own_so args)
  own_so (arg.TryCallExn part ∷ args) = ap (λ (xs : List (Argument ℕ)). CallPayload part ∷ xs) (own_so args)

  -- what a call gives has the types of its signature
  own_types : (shape : InstructionData) (call : CallShape) → call_shape (operation_of first.tables shape) ≡ Some call → (args : List BlockArg)
      → each (own_type_in first.tables shape) (flat_map own_arg args) ≡ each (own_type call) (each argument_of (flat_map own_arg args))
  own_types shape call is [] = refl
  own_types shape call is (arg.Value v ∷ args) = own_types shape call is args
  own_types shape call is (arg.TryCallRet index ∷ args) =
      ap₂ (λ (ty : «Type») (tys : List «Type»). ty ∷ tys) (ap (λ (o : Option CallShape). returned_type o index) is) (own_types shape call is args)
  own_types shape call is (arg.TryCallExn part ∷ args) =
      ap₂ (λ (ty : «Type») (tys : List «Type»). ty ∷ tys) (sym (payload_is part)) (own_types shape call is args)

  fresh : (xs : List Access) (low : ℕ) (params : List ℕ) → length first.values ≤ low → AreRising low params (length last.values) → AreApartFrom xs params
      → AreFresh s (each (reload_of first plan last final slot_of known n keeps slots spilled planned) xs) params
  fresh xs low [] beyond rising apart = tt
  fresh xs low (p ∷ params) beyond rising apart =
      let from = rising.0 in
      let past = rising_span (suc p) params (length last.values) rising.1 in (
        (
          omega (arith, beyond, from),
          new_itself first plan last final slot_of known n keeps slots spilled planned p (omega (arith, beyond, from)) (omega (arith, past)),
          (λ here. let low = (rising_inside (suc p) params (length last.values) p rising.1 here).0 in omega (arith, low)),
          (λ y here.
              let found = from_map (reload_of first plan last final slot_of known n keeps slots spilled planned) xs y here in
              let both = apart found.0 p found.1 (0, omega arith, refl) in
              ((λ is. both.0 (is ∙ sym (ap (λ (r : Reload). r.copy) found.2))), (λ is. both.1 (is ∙ sym (ap (λ (r : Reload). r.access.address) found.2))))),
        ),
        fresh xs (suc p) params (omega (arith, beyond, from)) rising.1 (λ x v here there. apart x v here (suc there.0, (let inside = there.1 in omega (arith, inside)), there.2)),
      )
    where
      rising_span : (low : ℕ) (ps : List ℕ) (high : ℕ) → AreRising low ps high → low ≤ high
      rising_span low [] high is = is
      rising_span low (q ∷ ps) high is = let rest = rising_span (suc q) ps high is.1 in let from = is.0 in omega (arith, from, rest)

  -- row by row
  landed_so : (m v : ℕ) (xs : List Access) (m' v' : ℕ) (are : AreAccesses Reloaded plan.pointer last m v xs m' v') (target place : ℕ) (rows : List LandedRow)
      → ((row : LandedRow) → Contains rows row → IsLandedAs plan first xs row.argument row.params row.new × PassedExists first row.argument)
      → AreLanded every s (each (reload_of first plan last final slot_of known n keeps slots spilled planned) xs) target place (each argument_of (arguments_of rows)) (params_of rows)
      (each argument_of (passed_of rows))
  landed_so m v xs m' v' are target place [] so = refl
  landed_so m v xs m' v' are target place (row ∷ rows) so =
      by (landed_so m v xs m' v' are target (suc place) rows (λ r here. so r (suc here.0, (let inside = here.1 in omega (arith, inside)), here.2)))
      row.argument refl (so row (0, omega arith, refl))
    where
      reloads : List Reload
      reloads = each (reload_of first plan last final slot_of known n keeps slots spilled planned) xs

      Rest : Type 0
      Rest = AreLanded every s (each (reload_of first plan last final slot_of known n keeps slots spilled planned) xs) target (suc place) (each argument_of (arguments_of rows)) (params_of rows)
          (each argument_of (passed_of rows))

      by : Rest → (x : BlockArg) → row.argument ≡ x → IsLandedAs plan first xs row.argument row.params row.new × PassedExists first row.argument
          → AreLanded every s (each (reload_of first plan last final slot_of known n keeps slots spilled planned) xs) target place
          (argument_of row.argument ∷ each argument_of (arguments_of rows)) (row.params ++ params_of rows) (Known row.new ∷ each argument_of (passed_of rows))
      by rest (arg.Value old) is both =
          let now = subst (λ (y : BlockArg). IsLandedAs plan first xs y row.params row.new × PassedExists first y) is both in
          subst (λ (y : BlockArg). AreLanded every s reloads target place (argument_of y ∷ each argument_of (arguments_of rows)) (row.params ++ params_of rows)
          (Known row.new ∷ each argument_of (passed_of rows))) (sym is)
          (subst (λ (ps : List ℕ). AreLanded every s reloads target place (Known old ∷ each argument_of (arguments_of rows)) (ps ++ params_of rows)
          (Known row.new ∷ each argument_of (passed_of rows))) (sym now.0.0)
          (inl (is_read first plan last final slot_of known n keeps slots spilled planned m v xs m' v' are old row.new now.1 now.0.1), rest))
      by rest (arg.TryCallRet index) is both =
          let now = subst (λ (y : BlockArg). IsLandedAs plan first xs y row.params row.new × PassedExists first y) is both in
          subst (λ (y : BlockArg). AreLanded every s reloads target place (argument_of y ∷ each argument_of (arguments_of rows)) (row.params ++ params_of rows)
          (Known row.new ∷ each argument_of (passed_of rows))) (sym is)
          (subst (λ (ps : List ℕ). AreLanded every s reloads target place (CallResult index ∷ each argument_of (arguments_of rows)) (ps ++ params_of rows)
          (Known row.new ∷ each argument_of (passed_of rows))) (sym now.0) (refl, rest))
      by rest (arg.TryCallExn part) is both =
          let now = subst (λ (y : BlockArg). IsLandedAs plan first xs y row.params row.new × PassedExists first y) is both in
          subst (λ (y : BlockArg). AreLanded every s reloads target place (argument_of y ∷ each argument_of (arguments_of rows)) (row.params ++ params_of rows)
          (Known row.new ∷ each argument_of (passed_of rows))) (sym is)
          (subst (λ (ps : List ℕ). AreLanded every s reloads target place (CallPayload part ∷ each argument_of (arguments_of rows)) (ps ++ params_of rows)
          (Known row.new ∷ each argument_of (passed_of rows))) (sym now.0) (refl, rest))

  pub lands_so : (shape : InstructionData) (call : CallShape) (old new : BlockCall) → call_shape (operation_of first.tables shape) ≡ Some call → EdgeExists first old
      → LandsBy plan shape first last final old new → Lands every s call (edge_of old) (edge_of new)
  lands_so shape call old new is inside lands =
      let xs : List Access = lands.accesses in
      let reloads : List Reload = each (reload_of first plan last final slot_of known n keeps slots spilled planned) xs in
      let passed : List (Argument ℕ) = each argument_of (passed_of lands.rows) in
      record {
        reloads = reloads;
        are_reloads = good_reloads first plan last final slot_of known n keeps slots spilled planned (length first.insts) (length first.values) xs (length last.insts) (length last.values)
            (omega arith) (omega arith) lands.are lands.slots;
        passed = passed;
        arguments = ap (each argument_of) lands.own_are ∙ sym (own_so old.args);
        fresh = subst (AreFresh s reloads) (sym lands.params) (fresh xs (length first.values) (params_of lands.rows) (omega arith) lands.rising lands.apart);
        types = ap (each (λ v. (value_at last v).ty)) lands.params ∙ lands.types ∙ ap (each (own_type_in first.tables shape)) lands.own_are
            ∙ own_types shape call is old.args ∙ ap (each (own_type call)) (sym (own_so old.args));
        landed = subst (λ (args : List BlockArg). AreLanded every s reloads old.block 0 (each argument_of args) (block_at last new.block).params passed) lands.args_are
            (subst (λ (ps : List ℕ). AreLanded every s reloads old.block 0 (each argument_of (arguments_of lands.rows)) ps passed) (sym lands.params)
            (landed_so (length first.insts) (length first.values) xs (length last.insts) (length last.values) lands.are old.block 0 lands.rows
            (λ row here. (
              lands.so row here,
              All-contains (PassedExists first) old.args row.argument inside.1
                  (subst (λ (args : List BlockArg). Contains args row.argument) lands.args_are (into_map (λ (r : LandedRow). r.argument) lands.rows row here)),
            ))));
        items = items_are last new.block ∙ ap (each (placed_of last)) (inside_list ∙ lands.list)
            ∙ reloads_are first plan last final slot_of known n keeps slots spilled planned (length first.insts) (length first.values) xs (length last.insts) (length last.values)
            lands.are lands.slots (lands.jump ∷ [])
            ∙ ap (λ (p : Placed). reload_items s reloads (p ∷ [])) (placed_node last lands.jump (Jump (record { block = old.block; args = passed_of lands.rows })) [] lands.jumps);
      }
    where
      inside_list : insts_inside last new.block ≡ (block_at last new.block).insts
      inside_list = ap (λ (c : Bool). if c then (block_at last new.block).insts else [])
          (stands_from new.block last.layout
          (lands.stands.0, lands.stands.1, get_or_inside last.layout lands.stands.0 new.block 0 lands.stands.1 ∙ lands.stands.2))

  -- EDGES ---------------------------------------------------------------------------------------------------------------

  -- an edge of a call, after its uses were read
  pub led_so : (shape : InstructionData) (call : CallShape) (xs : List Access) (old new : BlockCall) → call_shape (operation_of first.tables shape) ≡ Some call → EdgeExists first old
      → IsEdgeBy plan first [] old new ⊎ LandsBy plan shape first last final old new → IsLedOn every s (Some call)
      (each (reload_of first plan last final slot_of known n keeps slots spilled planned) xs) (edge_of old) (edge_of new)
  led_so shape call xs old new is inside (inl straight) =
      inl (leads_straight 0 0 [] 0 0 (omega arith, omega arith) old new inside straight)
  led_so shape call xs old new is inside (inr lands) = inr (lands_so shape call old new is inside lands)

-- THE INSTRUCTION -------------------------------------------------------------------------------------------------------

-- the controlling type, where aliases are typed
pub controlling_so : (first last : Body) (old new : InstructionData) (results : List ℕ) → opcode_of new ≡ opcode_of old
    → ((v : ℕ) → Contains results v → (value_at last v).ty ≡ (value_at first v).ty)
    → AllZip (λ (u w : ℕ). (value_at last w).ty ≡ (value_at first u).ty) (operands old) (operands new)
    → controlling_of last new results ≡ controlling_of first old results
controlling_so first last old new results same given zip =
    ap (λ (o : Opcode). controlled last (row_of o).results (row_of o).control (operands new) results) same
    ∙ controlled_so first last (typing_of old).results (typing_of old).control (operands old) (operands new) results (by results given) (first_types first last (operands old) (operands new) zip)
  where
    by : (rs : List ℕ) → ((v : ℕ) → Contains rs v → (value_at last v).ty ≡ (value_at first v).ty) → first_type last rs ≡ first_type first rs
    by [] each_so = refl
    by (r ∷ rs) each_so = each_so r (0, omega arith, refl)
