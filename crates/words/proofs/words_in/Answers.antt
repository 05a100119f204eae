-- The chain gives what stands between white space. Assumes nothing.
use Rattle.std.proofs.lemmas.Iterator.Consumers.{map_from_collect}
use Rattle.words.proofs.Splits.{road}
use Rattle.words.proofs.words_in.Goals as goal

pub returns : goal.returns
returns c = map_from_collect _ c.collect.ensures.ran (road c.args.text.now c.split_ascii_whitespace.ensures.text)
