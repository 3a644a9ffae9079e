-- The marks were filled up, and the last one set.
use Rattle.std.proofs.Common.{◌≡◌, arith, length, rules, vec_len}
use Rattle.clif_types.proofs.Marks.{set-resized}
use Rattle.clif_types.proofs.entity_set.extend.Goals as goal

pub returns-clause-marks : goal.returns-clause-marks
returns-clause-marks c =
    let same : vec_len c.args.marks.now ≡ length c.args.marks.now.items = search rules in
    rw (c.in_ok-resize.ensures.items, same) (set-resized c.args.marks.now.items c.args.index (omega arith))
