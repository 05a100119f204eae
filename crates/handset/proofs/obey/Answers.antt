use Rattle.std.proofs.Common.{rules, ◌≡◌}
use Rattle.std.specs.Prelude.{Result, Ok, Err, IfOk, MatchResult}
use Rattle.std.proofs.lemmas.Fn.{says_at}
use Rattle.std.proofs.lemmas.Result.{IfOk-weaker, IfOk-at_ok}
use Rattle.subcommands.specs.declared.Subcommand.TheVariants as subcommand
use Rattle.handset.proofs.Named.{two_texts, first_of_three, three_texts}
use Rattle.handset.proofs.obey.Goals as goal

-- a value stays as it is where the error alone gets a context
kept : {T E D : Type 0} (P : T → Type 0) (Q : D → Type 0) (before : Result T E) (after : Result T D) → MatchResult after (λ x. before ≡ Ok x) Q → IfOk before P → IfOk after P
kept P Q before (Ok x) m p = IfOk-at_ok P m p
kept P Q before (Err e) m p = tt

pub returns-in-run : goal.returns-in-run
returns-in-run g c = IfOk-weaker c.context.result _ _ (λ status obeys. record {
  subcommand = subcommand.Run c.deref.result;
  tells = (_, two_texts c.args.words.now _ _ c.in-run.len_at_least c.in-run.len_below c.in-run.is-run, (c.in_ok-text-in-run.text, says_at _ c.read.ensures (search rules), search rules));
  obeys = obeys;
}) (kept _ _ c.obey-in-run.result c.context.result c.context.ensures c.obey-in-run.ensures.obeyed)

pub returns-in-audit : goal.returns-in-audit
returns-in-audit g c = IfOk-weaker c.context-in-audit.result _ _ (λ status obeys. record {
  subcommand = subcommand.Audit c.deref-in-audit.result;
  tells = (_, two_texts c.args.words.now _ _ c.in-audit.len_at_least c.in-audit.len_below c.in-audit.is-audit, (c.in_ok-text-in-audit.text, says_at _ c.read-in-audit.ensures (search rules), search rules));
  obeys = obeys;
}) (kept _ _ c.obey-in-audit.result c.context-in-audit.result c.context-in-audit.ensures c.obey-in-audit.ensures.obeyed)

pub returns-in-run-2 : goal.returns-in-run-2
returns-in-run-2 g c = IfOk-weaker c.context-in-run-2.result _ _ (λ status obeys. record {
  subcommand = subcommand.Tables c.deref-in-run-2.result;
  tells = (_, three_texts c.args.words.now _ _ _ c.in-run-2.len_at_least c.in-run-2.len_below c.in-run-2.is-run c.in-run-2.is-text, (c.in_ok-text-in-run-2.text, says_at _ c.read-in-run-2.ensures (search rules), search rules));
  obeys = obeys;
}) (kept _ _ c.obey-in-run-2.result c.context-in-run-2.result c.context-in-run-2.ensures c.obey-in-run-2.ensures.obeyed)

pub returns-in-compare : goal.returns-in-compare
returns-in-compare g c = IfOk-weaker c.obey-in-compare.result _ _ (λ status obeys. record {
  subcommand = subcommand.Compare c.deref-in-compare.result c.deref-in-compare-2.result;
  tells = (_, _, first_of_three c.args.words.now _ _ c.in-compare.len_at_least c.in-compare.len_below c.in-compare.is-compare, (c.in_ok-one-in-compare.one, says_at _ c.read-in-compare.ensures (search rules), search rules), (c.in_ok-other-in-compare.other, says_at _ c.read-in-compare-2.ensures (search rules), search rules));
  obeys = obeys;
}) c.obey-in-compare.ensures.obeyed
