-- The memory helpers of scripts: their plain calls are lines, and they may be emitted where the builder's may be made.
use Rattle.std.proofs.Common.{◌≡◌, ◌&&◌, ◌||◌, ◌==◌, ℕ, ℤ, zero, suc, true, false, Bool, map, refl, ap, sym, ◌∙◌, arith}
use Rattle.std.specs.Prelude.{nat_le, nat_lt, min}
use Rattle.std.specs.List.{list_all}
use Rattle.std.proofs.lemmas.Bool.{and_parts, false≢true, lt-ltb}
use Rattle.clif_types.specs.Target.{pointer_type_of}
use Rattle.clif_types.specs.declared.target.PointerWidth.{PointerWidth}
use Rattle.clif_types.specs.declared.target.PointerWidth.TheVariants as width
use Rattle.clif_types.specs.declared.target.TargetFrontendConfig.{TargetFrontendConfig}
use Rattle.clif_tables.specs.Lists.{TableLists}
use Rattle.clif_meaning.specs.Acceptance.{is_open}
use Rattle.clif_meaning.specs.ByteOperation.{ByteOperation, CallLibrary, CompareBytes, Copy, Fill, greatest_power, is_unsigned}
use Rattle.clif_meaning.specs.Instruction.{Bytes}
use Rattle.clif_meaning.specs.Ledger.{Ledger, has_value}
use Rattle.clif_meaning.specs.Name as meaning
use Rattle.clif_expansion.specs.ScriptCall.{call_allowed, can_emit, fits, is_pointer, takes_byte}
use Rattle.clif_memory_helpers.specs.HelperLines.{HelpersAreLines, IsLineOf}
use Rattle.clif_memory_helpers.specs.Helpers.{FillsWith, may_make}
use Rattle.clif_calls.specs.declared.call.Name.{Name}
use Rattle.clif_calls.specs.declared.memory.MemoryCall.{MemoryCall}
use Rattle.clif_calls.specs.declared.memory.MemoryCall.TheVariants as memory
use Rattle.clif_replay.specs.Helpers.{IsSized, helper_under, moves_nothing, operands_in, operation_in}

-- a helper of some bytes is a line, by whatever names
pub line-of : HelpersAreLines → (config : TargetFrontendConfig) (called : MemoryCall) (filling : ℤ) (tables : TableLists) (naming other : Name → meaning.Name)
    → may_make config.pointer_width (operation_in called) ≡ true → IsSized (operation_in called) → moves_nothing (operation_in called) ≡ false → FillsWith (operation_in called) filling
    → IsLineOf config (operation_in called) filling tables (map naming (operands_in called)) (map other (operands_in called))
line-of lines config (memory.CallLibrary callee first second size) filling tables naming other may sized moves fills =
    lines.sized config callee filling tables (naming first) (naming second) (naming size) (other first) (other second) (other size)
line-of lines config (memory.Copy dest src size dest_align src_align no_overlap flags) filling tables naming other may sized moves fills =
    lines.copies config _ filling tables (naming dest) (naming src) (other dest) (other src) may sized moves
line-of lines config (memory.Fill buffer ch size align flags) filling tables naming other may sized moves fills =
    lines.fills config _ filling tables (naming buffer) (other buffer) may sized.0 sized.1 moves fills
line-of lines config (memory.Compare condition left right size left_align right_align flags) filling tables naming other may sized moves fills =
    lines.compares config _ filling tables (naming left) (naming right) (other left) (other right) may

-- WHAT MAY BE EMITTED -----------------------------------------------------------------------------------------------------

-- the byte of a fill has 8 bits
abbrev pub byte_fits : ByteOperation → Bool
byte_fits (Fill fill) = nat_lt fill.byte 256
byte_fits _ = true

pointer-is : (w : PointerWidth) → is_pointer (pointer_type_of w) ≡ true
pointer-is width.U16 = refl
pointer-is width.U32 = refl
pointer-is width.U64 = refl

positive : (n : ℕ) → (n == 0) ≡ false → nat_lt 0 n ≡ true
positive zero is = absurd (false≢true (sym is))
positive (suc n) is = lt-ltb 0 (suc n) (omega arith)

swapped : (a b : Bool) → (a && b) ≡ (b && a)
swapped true true = refl
swapped true false = refl
swapped false true = refl
swapped false false = refl

last-swapped : (a b c : Bool) → ((a && b) && c) ≡ (a && (c && b))
last-swapped true b c = swapped b c
last-swapped false b c = refl

-- it may be, where the builder's may be made and its byte fits
pub can-emit : (w : PointerWidth) (operation : ByteOperation) → moves_nothing operation ≡ false → can_emit (Bytes operation) (pointer_type_of w) ≡ (byte_fits operation && may_make w operation)
can-emit w (CallLibrary callee) moves = ap (λ (p : Bool). p && true) (pointer-is w)
can-emit w (CompareBytes compared) moves = ap (λ (p : Bool). p && (is_unsigned compared.condition && fits (pointer_type_of w) compared.size)) (pointer-is w)
can-emit w (Copy copy) moves =
    let least : ℕ = min copy.target_alignment copy.source_alignment in
    let inside : Bool = fits (pointer_type_of w) copy.size in
    let aligned : Bool = nat_le least (greatest_power copy.size) in
    ap (λ (p : Bool). p && ((nat_lt 0 copy.size && inside) && aligned)) (pointer-is w)
    ∙ ap (λ (p : Bool). (p && inside) && aligned) (positive copy.size moves)
    ∙ swapped inside aligned
    ∙ ap (λ (none : Bool). none || (aligned && inside)) (sym moves)
can-emit w (Fill fill) moves =
    let inside : Bool = fits (pointer_type_of w) fill.size in
    let aligned : Bool = nat_le fill.alignment (greatest_power fill.size) in
    let byte : Bool = nat_lt fill.byte 256 in
    ap (λ (p : Bool). p && ((byte && (nat_lt 0 fill.size && inside)) && aligned)) (pointer-is w)
    ∙ ap (λ (p : Bool). (byte && (p && inside)) && aligned) (positive fill.size moves)
    ∙ last-swapped byte inside aligned
    ∙ ap (λ (none : Bool). byte && (none || (aligned && inside))) (sym moves)

-- the condition of a helper of some bytes
abbrev pub emitted : (takes opens values byte may : Bool) → Bool
emitted takes opens values byte may = true && takes && opens && values && true && (byte && may)

pub helper-allowed : (config : TargetFrontendConfig) (naming : Name → meaning.Name) (ledger : Ledger) (called : MemoryCall) → moves_nothing (operation_in called) ≡ false
    → call_allowed ledger (helper_under config naming ledger called)
    ≡ emitted (takes_byte ledger (Bytes (operation_in called)) (map naming (operands_in called))) (is_open ledger ledger.current)
    (list_all (has_value ledger) (map naming (operands_in called))) (byte_fits (operation_in called)) (may_make config.pointer_width (operation_in called))
helper-allowed config naming ledger called moves =
    ap (λ (can : Bool). true && takes_byte ledger (Bytes (operation_in called)) (map naming (operands_in called)) && is_open ledger ledger.current
    && list_all (has_value ledger) (map naming (operands_in called)) && true && can)
    (can-emit config.pointer_width (operation_in called) moves)

-- where it may be emitted, the builder's may be made
pub may-made : (config : TargetFrontendConfig) (naming : Name → meaning.Name) (ledger : Ledger) (called : MemoryCall) → moves_nothing (operation_in called) ≡ false
    → call_allowed ledger (helper_under config naming ledger called) ≡ true → may_make config.pointer_width (operation_in called) ≡ true
may-made config naming ledger called moves may =
    (and_parts (byte_fits (operation_in called)) (may_make config.pointer_width (operation_in called))
    (and_parts _ (byte_fits (operation_in called) && may_make config.pointer_width (operation_in called)) (sym (helper-allowed config naming ledger called moves) ∙ may)).1).1
