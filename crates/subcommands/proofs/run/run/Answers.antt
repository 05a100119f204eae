use Rattle.std.proofs.Common.{rules}
use Rattle.script.specs.Scripts.{content}
use Rattle.subcommands.proofs.run.run.Goals as goal

pub returns-clause-printed : goal.returns-clause-printed
returns-clause-printed g c = record {
  script = content c.in_ok-script.script;
  reads = c.in_ok-script.ensures.reads;
  reached = c.in_ok-play.field-0;
  plays = c.in_ok-play.ensures;
  success = search rules;
}
