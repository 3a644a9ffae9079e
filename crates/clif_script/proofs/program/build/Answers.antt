use Rattle.clif_script.proofs.program.build.Goals as goal

pub returns-in-Ok-clause-accepted : goal.returns-in-Ok-clause-accepted
returns-in-Ok-clause-accepted g c = λ zero. record {
  script = c.args.source.script;
  says = c.args.source.says;
  accepted = c.in-Ok.ensures.makes zero;
}
