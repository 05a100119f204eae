-- A numeral that is no number of up to 32 bits is past them. Assumes nothing.
use Rattle.words.proofs.Numerals.{past}
use Rattle.words.proofs.numbers.is_large.Goals as goal

pub returns : goal.returns
returns c = past _ c.requires _ c.number.ensures _ c.is_none.ensures
