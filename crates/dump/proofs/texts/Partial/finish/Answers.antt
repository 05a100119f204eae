-- With ends it is a dump, and without them no line says anything. Assumes nothing.
use Rattle.std.proofs.Common.{◌≡◌, length, sym, ◌∙◌}
use Rattle.std.specs.Str.Lines.{lines}
use Rattle.std.proofs.lemmas.List.{length-map}
use Rattle.std.proofs.lemmas.Iterator.Consumers.{count_from_yields_List}
use Rattle.std.proofs.lemmas.Iterator.Splits.{YieldsList-from_lines}
use Rattle.words.specs.Words.{words_of, rows}
use Rattle.dump.specs.Parts.{part}
use Rattle.dump.proofs.Begun.{is_dump, no_ends}
use Rattle.dump.proofs.Back.{read_back, only_memory}
use Rattle.dump.proofs.texts.Partial.finish.Goals as goal

pub returns-in-Some-clause-reads : goal.returns-in-Some-clause-reads
returns-in-Some-clause-reads c = is_dump _ (part c.args.self) c.requires _ c.in-Some.is

pub returns-in-Some-clause-back : goal.returns-in-Some-clause-back
returns-in-Some-clause-back c t fits printed = read_back c.args.text.now t fits printed _ (is_dump _ (part c.args.self) c.requires _ c.in-Some.is)

pub returns-in-None-clause-reads : goal.returns-in-None-clause-reads
returns-in-None-clause-reads c =
    let all : c.count.result ≡ length (lines c.args.text.now) = count_from_yields_List c.lines.result c.count.result c.count.ensures.ran (YieldsList-from_lines c.args.text.now c.lines.ensures.rest) in
    no_ends (rows c.args.text.now) (part c.args.self) c.requires c.in-None.is c.count.result (all ∙ sym (length-map (lines c.args.text.now) words_of))

pub returns-in-None-clause-back : goal.returns-in-None-clause-back
returns-in-None-clause-back c t fits printed = only_memory c.args.text.now t fits printed _ (returns-in-None-clause-reads c)
