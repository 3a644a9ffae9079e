use Rattle.std.proofs.Common.{refl, ap, List, [], ◌∷◌}
use Rattle.std.specs.Prelude.{Option, unwrap_or}
use Rattle.clif_meaning.specs.Acceptance.{no_exceptions, table_branch, tried_address, tried_function}
use Rattle.clif_meaning.specs.Instruction.{Edge}
use Rattle.clif_meaning.specs.Ledger.{ExceptionTable}
use Rattle.clif_meaning.specs.Name.{Name}
use Rattle.clif_meaning.specs.Request.{Build, ServedBy}
use Rattle.clif_inst_builder.specs.Shapes.{edge_to}
use Rattle.clif_builder.specs.Ledger.{ledger_of}
use Rattle.clif_builder.proofs.LedgerShaped.{binary-shape, brif-shape, call-shape, call_indirect-shape, compare-shape, concat-shape, cond_trap-shape, convert-shape, f128const-shape, float-shape, iconst-shape, jump-shape, load-shape, return-shape, select-shape, split-shape, stack-shape, stack_store-shape, store-shape, table-shape, trap-shape, try_call-shape, try_call_indirect-shape, unary-shape, vconst-shape}
use Rattle.clif_builder.proofs.laws.requests_ask_for_their_shapes.Goals as goal

pub returns : goal.returns
returns c = λ calls f d p agrees. record {
  iconst = λ ty imm. (_, _, refl, iconst-shape calls f ty imm);
  unary = λ opcode a x first. (_, _, refl, unary-shape calls f d p agrees opcode a x first);
  binary = λ opcode a b x y first second. (_, _, refl, binary-shape calls f d p agrees opcode a b x y first second);
  convert = λ opcode ty a x names. (_, _, refl, convert-shape calls f opcode ty a x names);
  select = λ condition a b c x y tested first second. (_, _, refl, select-shape calls f d p agrees condition a b c x y tested first second);
  float_const = λ opcode bits. (_, _, refl, float-shape calls f opcode bits);
  f128const = λ bytes constant found. (_, _, refl, f128const-shape calls f bytes constant found);
  vconst = λ ty bytes constant found. (_, _, refl, vconst-shape calls f ty bytes constant found);
  compare = λ condition a b x y first second. (_, _, refl, compare-shape calls f d p agrees condition a b x y first second);
  concat = λ a b x y first second. (_, _, refl, concat-shape calls f d p agrees a b x y first second);
  split = λ a x names. (_, _, refl, split-shape calls f d p agrees a x names);
  load = λ flags ty a x offset names. (_, _, refl, load-shape calls f flags ty a x offset names);
  store = λ flags a b x y offset first second. (_, _, refl, store-shape calls f d p agrees flags a b x y offset first second);
  stack = λ opcode ty slot offset. (_, _, refl, stack-shape calls f opcode ty slot offset);
  stack_store = λ a x slot offset names. (_, _, refl, stack_store-shape calls f d p agrees a x slot offset names);
  trap = λ code. (_, _, refl, trap-shape calls f code);
  cond_trap = λ opcode a x code names. (_, _, refl, cond_trap-shape calls f d p agrees opcode a x code names);
  jump = λ edge block args names. (_, _, refl, jump-shape calls f edge (edge_to block args) names);
  brif = λ condition value first second taken other names one two.
      (_, _, refl, brif-shape calls f d p agrees condition value first second taken other _ refl names one two);
  br_table = λ index value number edges table names found named.
      (_, _, ap (λ (o : Option (List (Edge Name Name))). Build (ServedBy number ∷ []) (table_branch index (unwrap_or o []))) found, table-shape calls f index value edges table names named);
  call_function = λ function names values numbered. (_, _, refl, call-shape calls f d p agrees function names values numbered);
  call_indirect = λ signature callee address names values called numbered.
      (_, _, refl, call_indirect-shape calls f d p agrees signature callee address names values called numbered);
  try_call = λ function number names values held table numbered found named. (
    _,
    _,
    ap (λ (o : Option ExceptionTable). tried_function (ledger_of calls) function names number (unwrap_or o no_exceptions)) found,
    try_call-shape calls f d p agrees function names values held table numbered named,
  );
  try_call_indirect = λ number callee address names values held table called numbered found named. (
    _,
    _,
    ap (λ (o : Option ExceptionTable). tried_address (ledger_of calls) callee names number (unwrap_or o no_exceptions)) found,
    try_call_indirect-shape calls f d p agrees callee address names values held table called numbered named,
  );
  return_ = λ names values numbered. (_, _, refl, return-shape calls f names values numbered);
}
