-- The number of an instruction that was just put in, by the slots of its block. Assumes nothing.
use Rattle.std.specs.Prelude.{ℕ, ◌+◌, ◌-◌, ◌/◌, Bool, true, false, cond, List, [], ◌∷◌, ◌++◌, length, Some, None, Option, nat_lt}
use Rattle.entities.specs.declared.Block.{Block}
use Rattle.entities.specs.declared.Inst.{Inst}
use Rattle.entities.specs.Lists.{ahead_of, from_on}
use Rattle.entities.specs.Program.{Slot, Program, slot, insts_in, is_inst, in_block, in_block_of, with_lines}

-- a block's slots afterwards, and how many numbers were stored for that
pub record Numbered : Type 0 where
  pub slots : List Slot
  pub writes : ℕ

-- the highest number behind which a renumbering of two hundred and two more still fits 32 bits
abbrev pub seq_ceiling : ℕ
seq_ceiling = 4294967093

-- append stride: at the end of a block, ten more than the number ahead
abbrev pub stride : ℕ → ℕ
stride p = p + 10

-- midpoint: half way between two numbers, rounded down, if that is above the first
abbrev pub midpoint : ℕ → ℕ → Option ℕ
midpoint p n = cond (nat_lt p (p + (n - p) / 2)) (Some (p + (n - p) / 2)) None

-- the last number of these slots, or p where there are none
abbrev pub last_number : ℕ → List Slot → ℕ
last_number p [] = p
last_number p (s ∷ ss) = last_number s.seq ss

-- n, n + 10, n + 20 and so on
abbrev pub tens : ℕ → List Inst → List Slot
tens n [] = []
tens n (i ∷ is) = slot i n ∷ tens (n + 10) is

-- full block renumbering: 10, 20, 30 and so on over the whole block
abbrev pub full : List Inst → Numbered
full is = record { slots = tens 10 is; writes = length is }

-- a new one behind the slots: above the ceiling all are numbered anew, else the slots stay and it gets its number
abbrev pub numbered_at_end : (above_ceiling : Bool) → List Slot → Inst → Numbered
numbered_at_end true ss new = full (insts_in ss ++ (new ∷ []))
numbered_at_end false ss new = record { slots = ss ++ (slot new (stride (last_number 0 ss)) ∷ []); writes = 1 }

-- ceiling: above it the whole block is numbered anew
abbrev pub numbered_last : List Slot → Inst → Numbered
numbered_last ss new = numbered_at_end (nat_lt seq_ceiling (last_number 0 ss)) ss new

-- an instruction at the end of b, and then numbered
abbrev pub appended_inst : Inst → Block → Program → Program
appended_inst i b p = with_lines p (in_block b (λ ss. (numbered_last ss i).slots) p.lines)

-- ---- local renumbering

-- how it leaves the slots behind, how many numbers it stored there, and whether it passed its limit
pub record Local : Type 0 where
  pub slots : List Slot
  pub writes : ℕ
  pub passed : Bool

-- ahead of each write, top to bottom: has it caught up with the number that is there? has it passed its limit? If neither, the slot
-- gets the number n, and so on behind it
abbrev pub local_write : (caught_up past_limit : Bool) (s : Slot) (behind : List Slot) (n : ℕ) (onward : Local) → Local
local_write true past_limit s behind n onward = record { slots = s ∷ behind; writes = 0; passed = false }
local_write false true s behind n onward = record { slots = s ∷ behind; writes = 0; passed = true }
local_write false false s behind n onward = record { slots = slot s.inst n ∷ onward.slots; writes = 1 + onward.writes; passed = onward.passed }

-- each slot gets two more than the number given last
abbrev pub local : (limit given : ℕ) → List Slot → Local
local limit given [] = record { slots = []; writes = 0; passed = false }
local limit given (s ∷ ss) = local_write (nat_lt given s.seq) (nat_lt limit given) s ss (given + 2) (local limit (given + 2) ss)

-- ---- the number of a new one behind the slots `ahead` and ahead of the slots `behind`; p is the number ahead of it, or 0

-- it alone gets a number
abbrev pub alone : List Slot → Inst → ℕ → List Slot → Numbered
alone ahead new n behind = record { slots = ahead ++ (slot new n ∷ behind); writes = 1 }

-- all get numbers anew
abbrev pub anew : List Slot → Inst → List Slot → Numbered
anew ahead new behind = full (insts_in ahead ++ (new ∷ insts_in behind))

-- what a local renumbering has stored counts, also where it passed its limit and the whole block follows
abbrev pub settled : (passed : Bool) (p : ℕ) → List Slot → Inst → List Slot → Local → Numbered
settled true p ahead new behind l = record { slots = (anew ahead new behind).slots; writes = (1 + l.writes) + (anew ahead new behind).writes }
settled false p ahead new behind l = record { slots = ahead ++ (slot new (p + 2) ∷ l.slots); writes = 1 + l.writes }

-- no number between its neighbours: local renumbering from two more than p, up to two hundred more; above the ceiling the whole block
abbrev pub crowded : (above_ceiling : Bool) (p : ℕ) → List Slot → Inst → List Slot → Numbered
crowded true p ahead new behind = anew ahead new behind
crowded false p ahead new behind = settled (local (p + 200) (p + 2) behind).passed p ahead new behind (local (p + 200) (p + 2) behind)

-- the midpoint, if there is one
abbrev pub numbered_between : (middle : Option ℕ) (p : ℕ) → List Slot → Inst → List Slot → Numbered
numbered_between (Some m) p ahead new behind = alone ahead new m behind
numbered_between None p ahead new behind = crowded (nat_lt seq_ceiling p) p ahead new behind

-- nothing behind: as the last of its block
abbrev pub numbered_from : (p : ℕ) → List Slot → Inst → List Slot → Numbered
numbered_from p ahead new [] = numbered_last ahead new
numbered_from p ahead new (n ∷ behind) = numbered_between (midpoint p n.seq) p ahead new (n ∷ behind)

abbrev pub numbered : (ahead : List Slot) → Inst → (behind : List Slot) → Numbered
numbered ahead new behind = numbered_from (last_number 0 ahead) ahead new behind

-- ---- an instruction put in, and then numbered

-- the slots of a block, once i is put in directly ahead of `before`
abbrev pub numbered_before : Inst → (before : Inst) → List Slot → Numbered
numbered_before i before ss = numbered (ahead_of (is_inst before) ss) i (from_on (is_inst before) ss)

-- directly ahead of `before`, in its block
abbrev pub inserted_before : Inst → (before : Inst) → Program → Program
inserted_before i before p = with_lines p (in_block_of before (λ ss. (numbered_before i before ss).slots) p.lines)
