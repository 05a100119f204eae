use Rattle.std.proofs.Common.{rules}
use Rattle.script.specs.Scripts.{content}
use Rattle.std.proofs.lemmas.Result.{IfOk-weaker}
use Rattle.subcommands.proofs.run.tables.Goals as goal

pub returns-clause-printed : goal.returns-clause-printed
returns-clause-printed g c = IfOk-weaker c.print_tables.result _ _ (λ status prints. record {
  script = content c.in_ok-script.script;
  reads = c.in_ok-script.ensures.reads;
  layout = c.in_ok-context.field-0;
  reaches = search rules;
  prints = prints;
}) c.print_tables.ensures
