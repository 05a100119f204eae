-- Two walks that gave the same so far part by what comes next in each, or are the same. Assumes nothing.
use Rattle.std.proofs.Common.{◌≡◌, ◌≢◌, Bool, true, not, List, [], ◌++◌, Some, None, Option, sym, ap, ◌∙◌, subst}
use Rattle.std.proofs.lemmas.Bool.{true≢false, not_from_true}
use Rattle.std.specs.Iterator.{Yields}
use Rattle.std.specs.Option.{option_eq}
use Rattle.chain.specs.Chain.{head_or}
use Rattle.entities.specs.declared.Block.{Block}
use Rattle.entities.specs.declared.Inst.{Inst}
use Rattle.entities.specs.declared.progpoint.ProgramPoint.{ProgramPoint}
use Rattle.entities.specs.declared.progpoint.ProgramPoint.TheVariants.{Inst as inst_point, Block as block_point}
use Rattle.order.proofs.Comparing.{steps_by, yielded}
use Rattle.walks.specs.Walks.{GivesFirst}
use Rattle.parting.specs.Parts.{PartAt}
use Rattle.parting.specs.Points.{points_left}
use Rattle.parting.specs.declared.walk.Points.{Points}

-- what comes next is the first of what is left
comes_next : (o : Option ProgramPoint) (before after : List ProgramPoint) → GivesFirst o before after → o ≡ head_or before None
comes_next None before after g = ap (λ xs. head_or xs None) (sym g.0)
comes_next (Some x) before after g = ap (λ xs. head_or xs None) (sym g)

-- points that `!=` tells apart are not the same: `==` says yes of each instruction and itself, and of each block and itself
pub apart : (eq : ProgramPoint → ProgramPoint → Bool) → ((i : Inst) → eq (inst_point i) (inst_point i) ≡ true) → ((b : Block) → eq (block_point b) (block_point b) ≡ true) → (x : ProgramPoint) (o : Option ProgramPoint) → not (option_eq eq o (Some x)) ≡ true → Some x ≢ o
apart eq insts blocks x o ne e = true≢false (sym ne ∙ not_from_true (option_eq eq o (Some x)) (ap (λ p. option_eq eq p (Some x)) (sym e) ∙ itself x))
  where
    itself : (y : ProgramPoint) → eq y y ≡ true
    itself (inst_point i) = insts i
    itself (block_point b) = blocks b

-- of xs a walk gave `ahead`, and then x; of ys another gave `ahead` too, and then y
module _ (s t : Points) (xs ys ahead after left others : List ProgramPoint) (x y : Option ProgramPoint) (all : points_left s ≡ xs) (came : Yields (steps_by points_left) s ahead t) (too : ys ≡ ahead ++ left) (gives_x : GivesFirst x (points_left t) after) (gives_y : GivesFirst y left others) where
  pub parted : (o p : Option ProgramPoint) → x ≡ o → y ≡ p → o ≢ p → PartAt (record { first = o; second = p }) xs ys
  parted o p ex ey d = record {
    ahead = ahead;
    rest_of_xs = points_left t;
    rest_of_ys = left;
    xs_is = sym all ∙ yielded points_left s ahead t came;
    ys_is = too;
    first_is = sym ex ∙ comes_next x (points_left t) after gives_x;
    second_is = sym ey ∙ comes_next y left others gives_y;
    differ = d;
  }

  pub all_given : x ≡ None → y ≡ None → xs ≡ ys
  all_given ex ey =
      let rest_x : points_left t ≡ [] = (subst (λ o. GivesFirst o (points_left t) after) ex gives_x).0 in
      let rest_y : left ≡ [] = (subst (λ o. GivesFirst o left others) ey gives_y).0 in
      sym all ∙ yielded points_left s ahead t came ∙ ap (λ r. ahead ++ r) (rest_x ∙ sym rest_y) ∙ sym too
