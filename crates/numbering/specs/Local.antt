-- What a local renumbering does to the nodes. Assumes nothing.
use Rattle.std.specs.Prelude.{◌≡◌, ℕ, ◌+◌, ◌≤◌, Bool, true, false, List, ◌∷◌, length, Some, None, Option, Ok, Err, Result}
use Rattle.chain.specs.Chain.{AllWithin, Distinct, Linked, head_or}
use Rattle.chain.specs.Table.{read_at}
use Rattle.entities.specs.declared.Inst.{Inst}
use Rattle.entities.specs.declared.nodes.InstNode.{InstNode}
use Rattle.entities.specs.Nodes.{inst_links, inst_place}
use Rattle.entities.specs.Program.{Slot, insts_in, slot}
use Rattle.entities.specs.Numbering.{local, midpoint}
use Rattle.listing.specs.Numbers.{Renumbered, Written}
use Rattle.numbering.specs.Assigned.{AssignedAt, seq_ahead_of, seq_behind_of, with_number}
use Rattle.numbering.specs.declared.PastLimit.{PastLimit}

-- from `at` on, the instructions ks stand to the end of their block, in a table of at most 1,024
pub record Tail (t : List InstNode) (at : Option Inst) (ks : List Inst) : Type 0 where
  pub before : Option Inst
  pub here : at ≡ head_or ks None
  pub linked : Linked (λ k. read_at inst_links.prev_of t (inst_place k)) (λ k. read_at inst_links.next_of t (inst_place k)) before ks None
  pub distinct : Distinct ks
  pub within : AllWithin inst_place (length t) ks
  pub size : length t ≤ 1024

-- behind inst the slots ss stand, to the end of its block
pub record Followed (t : List InstNode) (inst : Inst) (ss : List Slot) : Type 0 where
  pub tail : Tail t (Some inst) (inst ∷ insts_in ss)
  pub written : Written t ss

-- some slots stand behind inst
pub record SomeFollowed (t : List InstNode) (inst : Inst) : Type 0 where
  pub slots : List Slot
  pub followed : Followed t inst slots

-- it passed its limit when it had stored w numbers
abbrev pub past_limit : ℕ → PastLimit
past_limit w = record { 0 = w }

-- how a local renumbering ended, with the numbers that it stored
abbrev pub local_end : (passed : Bool) (writes : ℕ) → Result ℕ PastLimit
local_end false w = Ok w
local_end true w = Err (past_limit w)

-- whether it ends ahead of a write, w numbers stored so far: has it caught up? has it passed its limit? If neither, it goes on
abbrev pub ended : (caught_up past : Bool) (w : ℕ) → Result Bool PastLimit
ended true past w = Ok true
ended false true w = Err (past_limit w)
ended false false w = Ok false

-- from t to u inst got the number n, and the slots ss behind it were renumbered locally
pub record StoredLocally (t u : List InstNode) (inst : Inst) (n limit : ℕ) (ss : List Slot) (r : Result ℕ PastLimit) : Type 0 where
  pub table : Renumbered t u (slot inst n ∷ (local limit n ss).slots)
  pub end : r ≡ local_end (local limit n ss).passed (1 + (local limit n ss).writes)

-- so it is whatever slots stand behind inst
abbrev pub LocallyAnew : (t u : List InstNode) (inst : Inst) (n limit : ℕ) (r : Result ℕ PastLimit) → Type 0
LocallyAnew t u inst n limit r = (ss : List Slot) → Followed t inst ss → StoredLocally t u inst n limit ss r

-- so it is from any table that t came from by giving inst its number
abbrev pub BehindAnew : (t u : List InstNode) (inst : Inst) (n limit : ℕ) (r : Result ℕ PastLimit) → Type 0
BehindAnew t u inst n limit r = (s : List InstNode) → t ≡ with_number s inst n → LocallyAnew s u inst n limit r

-- where inst stands between two others with no midpoint, and p is the number ahead of it, it is numbered as the rule has it
abbrev pub Crowded : (t u : List InstNode) (first : Option Inst) (inst : Inst) (p r : ℕ) → Type 0
Crowded t u first inst p r = p ≡ seq_ahead_of t inst → (next : ℕ) → seq_behind_of t inst ≡ Some next → midpoint p next ≡ None → AssignedAt t u first inst r
