-- Where two walks first part. Assumes nothing.
use Rattle.std.specs.Prelude.{◌≡◌, ◌≢◌, List, ◌++◌, Some, None, Option}
use Rattle.chain.specs.Chain.{head_or}
use Rattle.entities.specs.declared.progpoint.ProgramPoint.{ProgramPoint}
use Rattle.parting.specs.declared.Parting.{Parting}

-- xs and ys begin alike; p says what comes next in each, none where it has ended; and there they differ
pub record PartAt (p : Parting) (xs ys : List ProgramPoint) : Type 0 where
  pub ahead : List ProgramPoint
  pub rest_of_xs : List ProgramPoint
  pub rest_of_ys : List ProgramPoint
  pub xs_is : xs ≡ ahead ++ rest_of_xs
  pub ys_is : ys ≡ ahead ++ rest_of_ys
  pub first_is : p.first ≡ head_or rest_of_xs None
  pub second_is : p.second ≡ head_or rest_of_ys None
  pub differ : p.first ≢ p.second

-- they part at p, or they are the same where there is no p
abbrev pub Parts : Option Parting → (xs ys : List ProgramPoint) → Type 0
Parts None xs ys = xs ≡ ys
Parts (Some p) xs ys = PartAt p xs ys
