use Rattle.std.proofs.Common.{take, reverse}
use Rattle.std.specs.List.{flat_map}
use Rattle.std.specs.Fmt.{HasWritten, IsPlainFormatter}
use Rattle.clif_types.specs.Texts.{byte_text}
use Rattle.clif_types.proofs.hex.write_from_last.Given as goal

abbrev pub invariant-loop-place : goal.invariant-loop-place
invariant-loop-place g l =
    IsPlainFormatter l.initial.f → HasWritten g.W.Write.write_str_gives l.initial.f (flat_map byte_text (take l.place (reverse l.bytes))) l.f
