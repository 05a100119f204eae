-- Numbers written into nodes that stand in a chain. Assumes nothing.
use Rattle.std.specs.Prelude.{◌≡◌, ℕ, ◌<◌, ◌≤◌, List, [], ◌∷◌, ◌++◌, length, Some, Option}
use Rattle.chain.specs.Table.{read_at}
use Rattle.chain.specs.Chain.{Chain, Misses}
use Rattle.entities.specs.declared.Inst.{Inst}
use Rattle.entities.specs.declared.nodes.InstNode.{InstNode}
use Rattle.entities.specs.Nodes.{inst_place, inst_links, block_named, number_of}
use Rattle.entities.specs.Numbering.{last_number}
use Rattle.entities.specs.Program.{Slot, insts_in}

-- each slot's number is in its node
abbrev pub Written : List InstNode → List Slot → Type 0
Written t [] = Unit {0}
Written t (s ∷ ss) = (read_at number_of t s.inst.0 ≡ Some s.seq) × Written t ss

-- from t to u, numbers were written at ks alone: links and names stay, and so do all other numbers
pub record Renumbers (t u : List InstNode) (ks : List Inst) : Type 0 where
  pub size : length u ≡ length t
  pub block : (i : Inst) → read_at block_named u i.0 ≡ read_at block_named t i.0
  pub prev : (i : Inst) → read_at inst_links.prev_of u i.0 ≡ read_at inst_links.prev_of t i.0
  pub next : (i : Inst) → read_at inst_links.next_of u i.0 ≡ read_at inst_links.next_of t i.0
  pub seq : (i : Inst) → Misses (Some i) ks → read_at number_of u i.0 ≡ read_at number_of t i.0

-- the slots ss got their numbers, and nothing else was written
pub record Renumbered (t u : List InstNode) (ss : List Slot) : Type 0 where
  pub spares : Renumbers t u (insts_in ss)
  pub written : Written u ss

-- the instructions ks are a chain that begins at `first`, in a table of at most 1,024
pub record Run (t : List InstNode) (first : Option Inst) (ks : List Inst) : Type 0 where
  pub last : Option Inst
  pub chain : Chain inst_place inst_links t (record { first = first; last = last }) ks
  pub size : length t ≤ 1024

-- some chain begins at `first`
pub record SomeRun (t : List InstNode) (first : Option Inst) : Type 0 where
  pub insts : List Inst
  pub run : Run t first insts

-- n is below the number of the first of the slots, if there is one
abbrev pub BelowFirst : ℕ → List Slot → Type 0
BelowFirst n [] = Unit {0}
BelowFirst n (s ∷ ss) = n < s.seq

-- inst stands in the block that begins at `first`, the slots sa ahead of it and sb behind; the number ahead of it is below the one behind
pub record Placed (t : List InstNode) (first : Option Inst) (sa : List Slot) (inst : Inst) (sb : List Slot) : Type 0 where
  pub run : Run t first (insts_in sa ++ (inst ∷ insts_in sb))
  pub ahead : Written t sa
  pub behind : Written t sb
  pub between : BelowFirst (last_number 0 sa) sb

-- inst stands somewhere in the block that begins at `first`
pub record SomePlaced (t : List InstNode) (first : Option Inst) (inst : Inst) : Type 0 where
  pub ahead : List Slot
  pub behind : List Slot
  pub placed : Placed t first ahead inst behind
