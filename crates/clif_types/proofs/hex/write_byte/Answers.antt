use Rattle.std.proofs.Common.{arith, false, rules, subst}
use Rattle.std.specs.Fmt.{WritesOnOk}
use Rattle.std.proofs.lemmas.Fmt.{hex_byte}
use Rattle.clif_types.proofs.hex.write_byte.Goals as goal

pub returns : goal.returns
returns g c =
    subst (λ text. WritesOnOk g.W.Write.write_str_gives c.args.f.now c.write.result text c.write.new.self) (hex_byte false c.args.byte (omega (arith, c.ranges.byte))) (search rules)
