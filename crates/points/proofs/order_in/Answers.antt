use Rattle.std.proofs.Common.{◌≡◌, sym, ap, ◌∙◌, subst, nat_cmp, Ordering}
use Rattle.entities.specs.Reading.{point_seq, Ranked}
use Rattle.listing.specs.Held.{program}
use Rattle.listing.proofs.Ranks.{ranked, point_inserted}
use Rattle.points.proofs.order_in.Goals as goal

pub point_seq-a_seq-requires : goal.point_seq-a_seq-requires
point_seq-a_seq-requires c = let l = c.args.listing.now in point_inserted l.tables l.sound c.args.a c.args.block c.requires.a

pub point_seq-b_seq-requires : goal.point_seq-b_seq-requires
point_seq-b_seq-requires c = let l = c.args.listing.now in point_inserted l.tables l.sound c.args.b c.args.block c.requires.b

pub returns : goal.returns
returns c =
    let l = c.args.listing.now in
    let p = program l in
    let a = c.args.a in
    let b = c.args.b in
    let is : c.cmp.result ≡ nat_cmp (point_seq a p) (point_seq b p) = c.cmp.ensures ∙ ap (λ n. nat_cmp n c.point_seq-b_seq.result) c.point_seq-a_seq.ensures ∙ ap (λ n. nat_cmp (point_seq a p) n) c.point_seq-b_seq.ensures in
    record { numbers = is; walk = subst (λ (o : Ordering). Ranked p a b o) (sym is) (ranked l.tables l.sound a b c.args.block c.requires.a c.requires.b) }
