-- What `parse` reads of a numeral. Assumes nothing.
use Rattle.words.proofs.Numerals.{parsed}
use Rattle.words.proofs.numbers.parsed.Goals as goal

pub returns : goal.returns
returns c = rw c.ok.ensures.value (parsed _ c.requires c.parse.result c.parse.ensures.value.0)
