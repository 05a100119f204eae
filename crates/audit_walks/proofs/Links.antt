-- What a read of one node's link is to the table, and one step of a walk. Assumes nothing.
use Rattle.std.proofs.Common.{◌≡◌, ℕ, zero, suc, ◌-◌, ◌<◌, ◌≤◌, ◌≢◌, List, [], ◌∷◌, length, Some, None, Option, refl, ap, le_of_suc-le-suc, not-suc-le-zero, arith}
use Rattle.chain.specs.Chain.{walk}
use Rattle.chain.specs.Table.{read_at}
use Rattle.chain.proofs.Writes.{read_is}

pub read_past : {N K : Type 0} (link : N → Option K) (t : List N) (i : ℕ) → length t ≤ i → read_at link t i ≡ None
read_past link [] i h = refl
read_past link (n ∷ ns) zero h = absurd (not-suc-le-zero h)
read_past link (n ∷ ns) (suc i) h = read_past link ns i (le_of_suc-le-suc h)

pub ruleset reads = (read_is, read_past)

pub walk_step : {K : Type 0} (link : K → Option K) (n : ℕ) (k : K) → n ≢ 0 → walk link n (Some k) ≡ k ∷ walk link (n - 1) (link k)
walk_step link zero k h = absurd (h refl)
walk_step link (suc n) k h =
    let e : n ≡ suc n - 1 = omega arith in
    ap (λ m. k ∷ walk link m (link k)) e

pub walk_less : {K : Type 0} (link : K → Option K) (n : ℕ) (k : K) → n ≢ 0 → length (walk link (n - 1) (link k)) < length (walk link n (Some k))
walk_less link n k h = let e : length (walk link n (Some k)) ≡ suc (length (walk link (n - 1) (link k))) = ap length (walk_step link n k h) in omega arith

pub walk_none : {K : Type 0} (link : K → Option K) (n : ℕ) → walk link n None ≡ []
walk_none link zero = refl
walk_none link (suc n) = refl

pub ruleset walk_steps = (walk_step, walk_less, walk_none)
