use Rattle.std.proofs.Common.{refl}
use Rattle.chain.proofs.Writes.{written}
use Rattle.chain.proofs.alter.Goals as goal

pub returns-in-Some : goal.returns-in-Some
returns-in-Some g c f h =
    let changed = h _ _ (record { shown = _; shows = refl; left = _; met = c.change.ensures; leaves = refl }) in
    rw c.in-Some.is (written _ _ _ _ _ _ f refl c.index.ensures changed)
