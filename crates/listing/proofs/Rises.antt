-- Which edits of the list leave the numbers of each block rising, and in 32 bits. Assumes nothing.
use Rattle.std.proofs.Common.{◌≡◌, ℕ, ◌^◌, ◌<◌, ◌≤◌, Bool, true, false, cond, List, [], ◌∷◌, ◌++◌, sym, ap, ◌∙◌, subst, arith}
use Rattle.entities.specs.Lists.{ahead_of, from_on}
use Rattle.entities.specs.Nodes.{marks}
use Rattle.entities.specs.Program.{Line, Program, Slot, append_block, chosen, empty_line, has_inst, insert_block, insert_block_after, instead_where, is_block, is_inst, remove_block, remove_inst, split_block, with_slots}
use Rattle.entities.specs.declared.Block.{Block}
use Rattle.entities.specs.declared.Inst.{Inst}
use Rattle.entities.specs.declared.nodes.Tables.{Tables}
use Rattle.listing.specs.Edits.{Becomes, Edited}
use Rattle.listing.specs.Lawful.{AllWellNumbered, Fitting, Lawful, Rising, WellNumbered, listed, program_of}

pub lawful_after : {t u : Tables} {p : List Line} → Edited t u p → AllWellNumbered p → Lawful u
lawful_after {t} {u} {p} e r = record { wired = e.wired; numbers = subst (λ q. AllWellNumbered q) (sym e.list) r }

-- the program, from its parts
pub program_is_now : (u : Tables) (ls : List Line) (cold : List Bool) → listed u ≡ ls → marks u.blocks ≡ cold → program_of u ≡ record { lines = ls; cold = cold }
program_is_now u ls cold a b = ap (λ q. whole q (marks u.blocks)) a ∙ ap (λ q. whole ls q) b
  where
    whole : List Line → List Bool → Program
    whole x y = record { lines = x; cold = y }

pub becomes : {t u : Tables} {ls : List Line} → Edited t u ls → AllWellNumbered ls → Becomes t u ls
becomes {t} {u} {ls} e r = record { sound = ∣ lawful_after e r ∣₁; program = program_is_now u ls (marks t.blocks) e.list e.cold }

-- ---- lines

rising_both : (xs ys : List Line) → AllWellNumbered xs → AllWellNumbered ys → AllWellNumbered (xs ++ ys)
rising_both [] ys a b = b
rising_both (x ∷ xs) ys a b = (a.0, rising_both xs ys a.1 b)

-- one line made anew
pub rising_apart : (xs : List Line) (l : Line) (ys : List Line) (new : List Slot) → AllWellNumbered (xs ++ (l ∷ ys)) → WellNumbered new → AllWellNumbered (xs ++ (with_slots l new ∷ ys))
rising_apart [] l ys new a r = (r, a.1)
rising_apart (x ∷ xs) l ys new a r = (a.0, rising_apart xs l ys new a.1 r)

pub rising_at : (xs : List Line) (l : Line) (ys : List Line) → AllWellNumbered (xs ++ (l ∷ ys)) → WellNumbered l.slots
rising_at [] l ys a = a.0
rising_at (x ∷ xs) l ys a = rising_at xs l ys a.1

chosen_rises : (c : Bool) (new : List Line) (l : Line) (rest : List Line) → AllWellNumbered new → WellNumbered l.slots → AllWellNumbered rest → AllWellNumbered (chosen c new l rest)
chosen_rises true new l rest a h r = rising_both new rest a r
chosen_rises false new l rest a h r = (h, r)

rising_instead : (test : Line → Bool) (f : Line → List Line) → ((l : Line) → WellNumbered l.slots → AllWellNumbered (f l)) → (p : List Line) → AllWellNumbered p → AllWellNumbered (instead_where test f p)
rising_instead test f h [] r = tt
rising_instead test f h (l ∷ ls) r = chosen_rises (test l) (f l) l (instead_where test f ls) (h l r.0) r.0 (rising_instead test f h ls r.1)

none_rise : WellNumbered []
none_rise = record { rising = tt; fit = tt }

pub insert_block_rises : (b at : Block) (p : List Line) → AllWellNumbered p → AllWellNumbered (insert_block b at p)
insert_block_rises b at p r = rising_instead (is_block at) (λ l. empty_line b ∷ l ∷ []) (λ l h. (none_rise, (h, tt))) p r

pub insert_block_after_rises : (b at : Block) (p : List Line) → AllWellNumbered p → AllWellNumbered (insert_block_after b at p)
insert_block_after_rises b at p r = rising_instead (is_block at) (λ l. l ∷ empty_line b ∷ []) (λ l h. (h, (none_rise, tt))) p r

pub remove_block_rises : (b : Block) (p : List Line) → AllWellNumbered p → AllWellNumbered (remove_block b p)
remove_block_rises b p r = rising_instead (is_block b) (λ l. []) (λ l h. tt) p r

pub append_block_rises : (b : Block) (p : List Line) → AllWellNumbered p → AllWellNumbered (append_block b p)
append_block_rises b p r = rising_both p (empty_line b ∷ []) r (none_rise, tt)

-- ---- slots

lower : (m n : ℕ) (ss : List Slot) → m ≤ n → Rising n ss → Rising m ss
lower m n [] h r = tt
lower m n (s ∷ ss) h r = let q : n < s.seq = r.0 in (omega arith, r.1)

-- one slot left out or kept
dropped : (c : Bool) (n : ℕ) (s : Slot) (rest : List Slot) → n < s.seq → Rising s.seq rest → Rising n (chosen c [] s rest)
dropped true n s rest h r = lower n s.seq rest (omega arith) r
dropped false n s rest h r = (h, r)

dropped_fit : (c : Bool) (s : Slot) (rest : List Slot) → s.seq < 2 ^ 32 → Fitting rest → Fitting (chosen c [] s rest)
dropped_fit true s rest h r = r
dropped_fit false s rest h r = (h, r)

rising_without : (test : Slot → Bool) (n : ℕ) (ss : List Slot) → Rising n ss → Rising n (instead_where test (λ s. []) ss)
rising_without test n [] r = tt
rising_without test n (s ∷ ss) r = dropped (test s) n s (instead_where test (λ x. []) ss) r.0 (rising_without test s.seq ss r.1)

fit_without : (test : Slot → Bool) (ss : List Slot) → Fitting ss → Fitting (instead_where test (λ s. []) ss)
fit_without test [] r = tt
fit_without test (s ∷ ss) r = dropped_fit (test s) s (instead_where test (λ x. []) ss) r.0 (fit_without test ss r.1)

without_rises : (test : Slot → Bool) (ss : List Slot) → WellNumbered ss → WellNumbered (instead_where test (λ s. []) ss)
without_rises test ss h = record { rising = rising_without test 0 ss h.rising; fit = fit_without test ss h.fit }

pub remove_inst_rises : (i : Inst) (p : List Line) → AllWellNumbered p → AllWellNumbered (remove_inst i p)
remove_inst_rises i p r = rising_instead (has_inst i) (λ l. with_slots l (instead_where (is_inst i) (λ s. []) l.slots) ∷ []) (λ l h. (without_rises (is_inst i) l.slots h, tt)) p r

-- one or the other
either_rises : (c : Bool) (n : ℕ) (here there : List Slot) → Rising n here → Rising n there → Rising n (cond c here there)
either_rises true n here there a b = a
either_rises false n here there a b = b

either_fits : (c : Bool) (here there : List Slot) → Fitting here → Fitting there → Fitting (cond c here there)
either_fits true here there a b = a
either_fits false here there a b = b

rising_ahead : (test : Slot → Bool) (n : ℕ) (ss : List Slot) → Rising n ss → Rising n (ahead_of test ss)
rising_ahead test n [] r = tt
rising_ahead test n (s ∷ ss) r = either_rises (test s) n [] (s ∷ ahead_of test ss) tt (r.0, rising_ahead test s.seq ss r.1)

fit_ahead : (test : Slot → Bool) (ss : List Slot) → Fitting ss → Fitting (ahead_of test ss)
fit_ahead test [] r = tt
fit_ahead test (s ∷ ss) r = either_fits (test s) [] (s ∷ ahead_of test ss) tt (r.0, fit_ahead test ss r.1)

rising_from : (test : Slot → Bool) (n : ℕ) (ss : List Slot) → Rising n ss → Rising n (from_on test ss)
rising_from test n [] r = tt
rising_from test n (s ∷ ss) r = let q : n < s.seq = r.0 in either_rises (test s) n (s ∷ ss) (from_on test ss) r (lower n s.seq (from_on test ss) (omega arith) (rising_from test s.seq ss r.1))

fit_from : (test : Slot → Bool) (ss : List Slot) → Fitting ss → Fitting (from_on test ss)
fit_from test [] r = tt
fit_from test (s ∷ ss) r = either_fits (test s) (s ∷ ss) (from_on test ss) r (fit_from test ss r.1)

-- the slots ahead of a cut, and those behind it
cut_rises : (test : Slot → Bool) (ss : List Slot) → WellNumbered ss → WellNumbered (ahead_of test ss) × WellNumbered (from_on test ss)
cut_rises test ss h = (record { rising = rising_ahead test 0 ss h.rising; fit = fit_ahead test ss h.fit }, record { rising = rising_from test 0 ss h.rising; fit = fit_from test ss h.fit })

pub split_block_rises : (b : Block) (i : Inst) (p : List Line) → AllWellNumbered p → AllWellNumbered (split_block b i p)
split_block_rises b i p r = rising_instead (has_inst i) (λ l. with_slots l (ahead_of (is_inst i) l.slots) ∷ record { block = b; slots = from_on (is_inst i) l.slots } ∷ []) (λ l h. let two = cut_rises (is_inst i) l.slots h in (two.0, (two.1, tt))) p r
