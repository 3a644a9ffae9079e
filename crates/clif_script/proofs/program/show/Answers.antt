-- Refused memory is told with another status than 0.
use Rattle.std.proofs.Common.{arith}
use Rattle.clif_script.proofs.Answering.{if_ok_then}
use Rattle.clif_script.proofs.program.show.Goals as goal

pub returns-in_default-printed-clause-status : goal.returns-in_default-printed-clause-status
returns-in_default-printed-clause-status g c = if_ok_then c.tell_unread.result (λ status told. told.1) c.tell_unread.ensures

pub returns-in_default-printed-clause-typed : goal.returns-in_default-printed-clause-typed
returns-in_default-printed-clause-typed g c = if_ok_then c.tell_unread.result (λ status told zero. absurd (omega (arith, told.0, zero))) c.tell_unread.ensures
