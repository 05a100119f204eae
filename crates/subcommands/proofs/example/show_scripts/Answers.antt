use Rattle.std.proofs.lemmas.Result.{IfOk-weaker}
use Rattle.subcommands.proofs.example.show_scripts.Goals as goal

pub returns : goal.returns
returns g c = IfOk-weaker c.show_contrast.result _ _ (λ status shows. record {
  s = c.in_ok-one.one;
  t = c.in_ok-other.other;
  told = g.W.Write.contents c.play_below.new.out;
  told_again = g.W.Write.contents c.play_below-2.new.out;
  plays_first = c.in_ok-one.ensures;
  plays_second = c.in_ok-other.ensures;
  shows = shows;
}) c.show_contrast.ensures
