-- What it is to be a node with two links. Assumes nothing.
use Rattle.std.specs.Prelude.{◌≡◌, Option}

pub record Links (N K : Type 0) : Type 0 where
  pub prev_of : N → Option K
  pub next_of : N → Option K
  pub with_prev : N → Option K → N
  pub with_next : N → Option K → N
  -- a link set is the link read, and the other link stays
  pub prev_set : (n : N) (l : Option K) → prev_of (with_prev n l) ≡ l
  pub next_set : (n : N) (l : Option K) → next_of (with_next n l) ≡ l
  pub prev_kept : (n : N) (l : Option K) → prev_of (with_next n l) ≡ prev_of n
  pub next_kept : (n : N) (l : Option K) → next_of (with_prev n l) ≡ next_of n
  -- setting a link spares everything else in the node: set to what is read it changes nothing at all, set twice it is as set last,
  -- and the two links do not disturb each other
  pub prev_same : (n : N) → with_prev n (prev_of n) ≡ n
  pub next_same : (n : N) → with_next n (next_of n) ≡ n
  pub prev_twice : (n : N) (k l : Option K) → with_prev (with_prev n k) l ≡ with_prev n l
  pub next_twice : (n : N) (k l : Option K) → with_next (with_next n k) l ≡ with_next n l
  pub both : (n : N) (p s : Option K) → with_prev (with_next n s) p ≡ with_next (with_prev n p) s
