use Rattle.std.proofs.Common.{arith, rules, sym}
use Rattle.std.proofs.lemmas.Grind.{put_two}
use Rattle.clif_types.specs.Texts.{byte_text}
use Rattle.clif_types.proofs.FromLast.{one_byte_more}
use Rattle.clif_types.proofs.hex.write_from_last.Goals as goal

pub loop-place-preserved : goal.loop-place-preserved
loop-place-preserved g c = λ plain.
    let before = c.loop-place.invariant plain in
    put_two g.W.Write.write_str_gives c.args.f.now c.loop-place.f c.write_byte.new.f _ _ _ before (c.write_byte.ensures before.plain (search rules))
    (sym (one_byte_more byte_text c.args.bytes.now c.loop-place.place (omega (arith, c.loop-place-test.true))))
