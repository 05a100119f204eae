-- The two kinds of nodes: the places and links of their chains, and what else is read of them. Assumes nothing.
use Rattle.std.specs.Prelude.{ℕ, Bool, false, cond, List, map, Some, None, Option, nat_lt, refl}
use Rattle.chain.specs.declared.Ends.{Ends}
use Rattle.chain.specs.Links.{Links}
use Rattle.chain.specs.Table.{read_at}
use Rattle.entities.specs.declared.Block.{Block}
use Rattle.entities.specs.declared.Inst.{Inst}
use Rattle.entities.specs.declared.nodes.BlockNode.{BlockNode}
use Rattle.entities.specs.declared.nodes.InstNode.{InstNode}

abbrev pub block_place : Block → ℕ
block_place b = b.0

abbrev pub inst_place : Inst → ℕ
inst_place i = i.0

-- the block with a number, but for the highest
abbrev pub block_with_number : ℕ → Option Block
block_with_number n = cond (nat_lt n 4294967295) (Some (record { 0 = n })) None

abbrev pub block_links : Links BlockNode Block
block_links = record {
  prev_of = λ n. n.prev;
  next_of = λ n. n.next;
  with_prev = λ n l. record { prev = l; next = n.next; first_inst = n.first_inst; last_inst = n.last_inst; cold = n.cold };
  with_next = λ n l. record { prev = n.prev; next = l; first_inst = n.first_inst; last_inst = n.last_inst; cold = n.cold };
  prev_set = λ n l. refl;
  next_set = λ n l. refl;
  prev_kept = λ n l. refl;
  next_kept = λ n l. refl;
  prev_same = λ n. refl;
  next_same = λ n. refl;
  prev_twice = λ n k l. refl;
  next_twice = λ n k l. refl;
  both = λ n p s. refl;
}

abbrev pub inst_links : Links InstNode Inst
inst_links = record {
  prev_of = λ n. n.prev;
  next_of = λ n. n.next;
  with_prev = λ n l. record { block = n.block; prev = l; next = n.next; seq = n.seq };
  with_next = λ n l. record { block = n.block; prev = n.prev; next = l; seq = n.seq };
  prev_set = λ n l. refl;
  next_set = λ n l. refl;
  prev_kept = λ n l. refl;
  next_kept = λ n l. refl;
  prev_same = λ n. refl;
  next_same = λ n. refl;
  prev_twice = λ n k l. refl;
  next_twice = λ n k l. refl;
  both = λ n p s. refl;
}

-- the node of a block that is not inserted: it has nothing but its mark
abbrev pub only_mark : Bool → BlockNode
only_mark c = record { prev = None; next = None; first_inst = None; last_inst = None; cold = c }

-- the node of what is neither inserted nor marked
abbrev pub no_block : BlockNode
no_block = only_mark false

abbrev pub no_inst : InstNode
no_inst = record { block = None; prev = None; next = None; seq = 0 }

-- ---- what is read of a node besides its links

abbrev pub first_of : BlockNode → Option Inst
first_of n = n.first_inst

abbrev pub last_of : BlockNode → Option Inst
last_of n = n.last_inst

abbrev pub block_named : InstNode → Option Block
block_named n = n.block

abbrev pub number_of : InstNode → Option ℕ
number_of n = Some n.seq

-- the ends of a block's chain of instructions
abbrev pub ends_of : List BlockNode → Block → Ends Inst
ends_of t b = record { first = read_at first_of t b.0; last = read_at last_of t b.0 }

-- the cold marks, one for each block
abbrev pub marks : List BlockNode → List Bool
marks t = map (λ n. n.cold) t
