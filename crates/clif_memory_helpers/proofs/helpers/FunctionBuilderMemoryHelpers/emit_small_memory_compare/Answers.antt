-- A constant, two loads, or a call, by the plan.
use Rattle.std.proofs.Common.{w64, [], ◌∷◌, refl, rules, sym, ◌∙◌, ap}
use Rattle.std.proofs.lemmas.Int.{to_z-of_z}
use mir.Val.{SFits}
use Rattle.clif_access_plans.specs.Plans.{is_aligned_load}
use Rattle.std.specs.Int.NonZero.{non_zero_u8_get}
use Rattle.clif_meaning.specs.ByteOperation.{CompareShape}
use Rattle.clif_helper_calls.specs.Codes.{flags_where}
use Rattle.clif_helper_calls.specs.LibraryCodes.{i8}
use Rattle.clif_memory_helpers.proofs.Helped.{compare_called, compare_constant, compare_inline}
use Rattle.clif_memory_helpers.proofs.Loads.{iconst_made, typed_as}
use Rattle.clif_memory_helpers.proofs.LibraryCalls.{const_is}
use Rattle.clif_memory_helpers.proofs.helpers.FunctionBuilderMemoryHelpers.emit_small_memory_compare.Goals as goal

pub returns-in-Constant : goal.returns-in-Constant
returns-in-Constant g c =
    let shape : CompareShape = record {
      condition = c.args.int_cc;
      size = c.args.size;
      left_alignment = non_zero_u8_get c.args.left_align;
      right_alignment = non_zero_u8_get c.args.right_align;
      flags = c.args.flags;
    } in
    let fits : SFits w64 c.in-Constant.number = search rules in
    record {
      typed = typed_as c.args.self.now c.iconst.new.self _ _ i8 c.iconst.result refl c.iconst.ensures.built;
      made = compare_constant c.args.config c.args.self.now c.iconst.new.self shape c.args.left c.args.right c.iconst.result c.in-Constant.number (sym c.plan_compare.ensures ∙ c.in-Constant.is)
          (iconst_made c.ledger_is_read_by_number.ensures c.requests_ask_for_their_shapes.ensures (c.args.left ∷ c.args.right ∷ []) c.in-Constant.number i8 c.args.self.now c.iconst.new.self c.iconst.result c.requires.current
          (const_is _ _ _ _ _ _ c.iconst.result (to_z-of_z w64 c.in-Constant.number fits) refl c.iconst.ensures.built));
    }

pub returns-in-Inline : goal.returns-in-Inline
returns-in-Inline g c =
    let shape : CompareShape = record {
      condition = c.args.int_cc;
      size = c.args.size;
      left_alignment = non_zero_u8_get c.args.left_align;
      right_alignment = non_zero_u8_get c.args.right_align;
      flags = c.args.flags;
    } in
    record {
      typed = c.compare_loads.ensures.typed;
      made = compare_inline c.args.config c.args.self.now c.compare_loads.new.bx shape c.args.left c.args.right c.compare_loads.result c.in-Inline.ty c.flags_where.result c.flags_where-in-Inline.result
          (sym c.plan_compare.ensures ∙ c.in-Inline.is)
          (c.flags_where.ensures ∙ ap (flags_where c.args.flags) (c.is_aligned_load.ensures ∙ ap (is_aligned_load c.args.int_cc c.args.size) c.get.ensures.value))
          (c.flags_where-in-Inline.ensures ∙ ap (flags_where c.args.flags) (c.is_aligned_load-in-Inline.ensures ∙ ap (is_aligned_load c.args.int_cc c.args.size) c.get-in-Inline.ensures.value)) c.compare_loads.ensures.made;
    }

pub returns-in-LibraryCall : goal.returns-in-LibraryCall
returns-in-LibraryCall g c =
    let shape : CompareShape = record {
      condition = c.args.int_cc;
      size = c.args.size;
      left_alignment = non_zero_u8_get c.args.left_align;
      right_alignment = non_zero_u8_get c.args.right_align;
      flags = c.args.flags;
    } in
    record {
      typed = c.compare_known_by_call.ensures.typed;
      made = compare_called c.args.config c.args.self.now c.compare_known_by_call.new.bx shape c.args.left c.args.right c.compare_known_by_call.result c.in-LibraryCall.cond (sym c.plan_compare.ensures ∙ c.in-LibraryCall.is)
          c.compare_known_by_call.ensures.made;
    }
