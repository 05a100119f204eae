-- What a walk along the next links of a table of any content says of it. Assumes nothing.
use Rattle.std.specs.Prelude.{◌≡◌, ℕ, Bool, List, length}
use Rattle.chain.specs.declared.Ends.{Ends}
use Rattle.chain.specs.Links.{Links}
use Rattle.chain.specs.Table.{read_at, Within}
use Rattle.chain.specs.Chain.{Chain}
use Rattle.audit_walks.specs.Marks.{AllUnmarked, marked}

module _ {N K : Type 0} (place : K → ℕ) (links : Links N K) (t : List N) where
  -- every link to the next leads into the table
  abbrev pub NextsWithin : Type 0
  NextsWithin = (k : K) → Within place (length t) (read_at links.next_of t (place k))

  -- between the ends the table has a chain of keys that m leaves unmarked, and m' marks them too
  pub record Met (e : Ends K) (m m' : List Bool) : Type 0 where
    pub keys : List K
    pub chain : Chain place links t e keys
    pub fresh : AllUnmarked place m keys
    pub marks : m' ≡ marked place keys m

  -- between the ends the table has no chain of keys that m leaves unmarked
  pub record Unmet (e : Ends K) (m : List Bool) : Type 0 where
    pub none : (ks : List K) → Chain place links t e ks → AllUnmarked place m ks → ⊥
