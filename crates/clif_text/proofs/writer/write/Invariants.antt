-- The header, and the calls so far.
use Rattle.std.proofs.Common.{◌≡◌, ◌++◌, take}
use Rattle.std.specs.Prelude.{string_bytes}
use Rattle.clif_text.specs.Texts.{calls_text, header_text}
use Rattle.clif_text.proofs.writer.write.Given as goal

abbrev pub invariant-loop-call : goal.invariant-loop-call
invariant-loop-call l = string_bytes l.text ≡ header_text l.name l.signature l.fn.config ++ calls_text (take l.call-index l.calls)
