-- The two loads and the comparison stand one behind the other.
use Rattle.std.proofs.Common.{ℕ, pos, List, [], ◌∷◌, refl}
use Rattle.clif_meaning.specs.Instruction.{Load}
use Rattle.clif_meaning.specs.Name.{Name}
use Rattle.clif_expansion.specs.Emission.{building}
use Rattle.clif_helper_calls.specs.Codes.{doing}
use Rattle.clif_helper_calls.specs.LibraryCodes.{i8}
use Rattle.clif_memory_helpers.specs.Lines.{nth, one_value}
use Rattle.clif_memory_helpers.proofs.Loads.{loads_compared, typed_as}
use Rattle.clif_memory_helpers.proofs.Stopped.{first_stopped, so_first, typed_stopped, value_stopped}
use Rattle.clif_memory_helpers.proofs.accesses.compare_loads.Goals as goal

pub returns : goal.returns
returns g c = record {
  typed = typed_as c.load-2.new.self c.icmp.new.self _ _ i8 c.icmp.result refl c.icmp.ensures.built;
  made = loads_compared c.ledger_is_read_by_number.ensures c.requests_ask_for_their_shapes.ensures c.args.cond c.args.ty c.args.left.flags c.args.right.flags c.args.left.address c.args.right.address
      c.in_ok-left.left c.in_ok-right.right c.args.bx.now c.load.new.self c.load-2.new.self c.icmp.new.self c.icmp.result c.requires.current c.in_ok-left.ensures.built c.in_ok-right.ensures.built c.icmp.ensures.built;
}

-- one of the loads failed
pub returns-in_err-left : goal.returns-in_err-left
returns-in_err-left g c =
    let operands : List ℕ = c.args.left.address ∷ c.args.right.address ∷ [] in
    typed_stopped i8 c.args.bx.now c.load.new.self operands _ _ c.from_residual.result c.in_err-left.field-0.0 c.from_residual.ensures.1
    (first_stopped operands _ _ one_value c.from_residual.result c.in_err-left.field-0.0 c.from_residual.ensures.1 (λ place names. doing (Load c.args.left.flags (pos 0)) c.args.ty (nth names 0 ∷ [])) (λ place names. refl)
    c.args.bx.now c.load.new.self _ _ c.requires.current c.in_err-left.ensures.built (λ place names long. record { rest = _; is = refl }))

pub returns-in_err-right : goal.returns-in_err-right
returns-in_err-right g c =
    let operands : List ℕ = c.args.left.address ∷ c.args.right.address ∷ [] in
    let first = λ (names : List Name). so_first (doing (Load c.args.left.flags (pos 0)) c.args.ty (nth names 0 ∷ [])) c.args.bx.now c.load.new.self _ _ c.in_ok-left.left refl c.requires.current c.in_ok-left.ensures.built in
    typed_stopped i8 c.args.bx.now c.load-2.new.self operands _ _ c.from_residual-in_err-right.result c.in_err-right.field-0.0 c.from_residual-in_err-right.ensures.1
    (value_stopped operands _ _ one_value c.from_residual-in_err-right.result c.in_err-right.field-0.0 c.from_residual-in_err-right.ensures.1 (λ place names. doing (Load c.args.right.flags (pos 0)) c.args.ty (nth names 1 ∷ [])) (λ place names. refl)
    (λ place names. building (doing (Load c.args.left.flags (pos 0)) c.args.ty (nth names 0 ∷ [])) ∷ []) c.args.bx.now c.load.new.self c.load-2.new.self _ _ (first []).line c.in_err-right.ensures.built
    (λ place names long. first names) (λ place names long. record { rest = _; is = refl }))
