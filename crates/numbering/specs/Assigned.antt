-- What numbering an instruction, or a whole block, does to the nodes. Assumes nothing.
use Rattle.std.specs.Prelude.{◌≡◌, ℕ, ◌<◌, ◌≤◌, List, length, Some, None, Option, MatchOption}
use Rattle.chain.specs.Table.{alter, read_at}
use Rattle.entities.specs.declared.Inst.{Inst}
use Rattle.entities.specs.declared.nodes.InstNode.{InstNode}
use Rattle.entities.specs.Nodes.{inst_links, number_of}
use Rattle.entities.specs.Program.{Slot}
use Rattle.entities.specs.Numbering.{Numbered, full, midpoint, numbered, seq_ceiling, stride, tens}
use Rattle.listing.specs.Lawful.{or_zero}
use Rattle.listing.specs.Numbers.{Placed, Run, Renumbered}

-- from t to u the numbers of `new` were stored, r of them, and nothing else was written
pub record Stored (t u : List InstNode) (new : Numbered) (r : ℕ) : Type 0 where
  pub table : Renumbered t u new.slots
  pub count : r ≡ new.writes

-- whatever slots stand ahead of inst and behind it in the block that begins with `first`, the block is numbered as the rule has it
abbrev pub AssignedAt : (t u : List InstNode) (first : Option Inst) (inst : Inst) (r : ℕ) → Type 0
AssignedAt t u first inst r = (sa sb : List Slot) → Placed t first sa inst sb → Stored t u (numbered sa inst sb) r

-- whatever instructions the block has that begins with `first`, they are numbered 10, 20, 30 and so on
abbrev pub AllAnew : (t u : List InstNode) (first : Option Inst) (r : ℕ) → Type 0
AllAnew t u first r = (ks : List Inst) → Run t first ks → Stored t u (full ks) r

-- the same from n on: n, n + 10, n + 20 and so on
abbrev pub AnewFrom : (t u : List InstNode) (first : Option Inst) (n r : ℕ) → Type 0
AnewFrom t u first n r = (ks : List Inst) → Run t first ks → Stored t u (record { slots = tens n ks; writes = length ks }) r

-- the table with the number of one node set, and all else as it was
abbrev pub with_number : List InstNode → Inst → ℕ → List InstNode
with_number t i n = alter t i.0 (λ m. record { block = m.block; prev = m.prev; next = m.next; seq = n })

-- ---- the numbers of the neighbours

-- the number of the node at a link, or 0
abbrev pub number_at : List InstNode → Option Inst → ℕ
number_at t None = 0
number_at t (Some i) = or_zero (read_at number_of t i.0)

-- the number of the node at a link, if there is one
abbrev pub number_if : List InstNode → Option Inst → Option ℕ
number_if t None = None
number_if t (Some i) = Some (number_at t (Some i))

-- the number ahead of an instruction, or 0
abbrev pub seq_ahead_of : List InstNode → Inst → ℕ
seq_ahead_of t i = number_at t (read_at inst_links.prev_of t i.0)

-- the number behind an instruction, if one stands there
abbrev pub seq_behind_of : List InstNode → Inst → Option ℕ
seq_behind_of t i = number_if t (read_at inst_links.next_of t i.0)

-- ---- the ways of numbering an instruction, each by the numbers of its neighbours: it is numbered as the rule has it

-- inst stands in some block, the slots sa ahead of it and sb behind
pub record PlacedIn (t : List InstNode) (sa : List Slot) (inst : Inst) (sb : List Slot) : Type 0 where
  pub first : Option Inst
  pub placed : Placed t first sa inst sb

-- wherever the block begins, one number is stored
abbrev pub AssignedAloneAt : (t u : List InstNode) (inst : Inst) → Type 0
AssignedAloneAt t u inst = (sa sb : List Slot) → PlacedIn t sa inst sb → Stored t u (numbered sa inst sb) 1

-- o is the midpoint of these numbers, or none
abbrev pub Middle : (t : List InstNode) (inst : Inst) (o : Option ℕ) → Type 0
Middle t inst o = MatchOption (seq_behind_of t inst) (o ≡ None) (λ n. o ≡ midpoint (seq_ahead_of t inst) n)

-- a midpoint: n
abbrev pub AloneBetween : (t u : List InstNode) (inst : Inst) (n : ℕ) → Type 0
AloneBetween t u inst n = (o : Option ℕ) → Middle t inst o → o ≡ Some n → AssignedAloneAt t u inst

-- nothing behind it, up to the ceiling: n, one stride more than the number ahead
abbrev pub AloneLast : (t u : List InstNode) (inst : Inst) (n : ℕ) → Type 0
AloneLast t u inst n = seq_behind_of t inst ≡ None → seq_ahead_of t inst ≤ seq_ceiling → n ≡ stride (seq_ahead_of t inst) → AssignedAloneAt t u inst

-- no midpoint, above the ceiling: the block that begins with `first` is numbered anew
abbrev pub AnewAbove : (t u : List InstNode) (first : Option Inst) (r : ℕ) → Type 0
AnewAbove t u first r = (inst : Inst) (o : Option ℕ) → Middle t inst o → o ≡ None → seq_ceiling < seq_ahead_of t inst → AssignedAt t u first inst r
