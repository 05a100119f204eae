use Rattle.std.proofs.Common.{[], ◌∷◌, refl}
use Rattle.replay.proofs.Turns.{whole}
use Rattle.replay.proofs.make_one.Goals as goal

pub returns : goal.returns
returns g c = λ start h reached. whole g.C.Cursor.pos (c.args.call ∷ []) (c.make.result ∷ []) start h c.args.layout.now c.make.new.layout c.args.cursors.now c.make.new.cursors reached (c.make.new.layout, c.make.new.cursors, c.make.ensures, (refl, refl))
