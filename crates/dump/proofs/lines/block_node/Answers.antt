-- A fifth word is the mark. Assumes nothing.
use Rattle.dump.proofs.Named.{five_texts, cold_words}
use Rattle.dump.proofs.lines.block_node.Goals as goal

pub returns-in-cold : goal.returns-in-cold
returns-in-cold c n =
    rw (five_texts _ _ _ c.in-cold.len_at_least c.in-cold.len_below c.in-cold.is-cold) (cold_words _ _ _ _ n _ (c.marked_node-in-cold.ensures n))
