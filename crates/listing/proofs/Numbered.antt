-- What numbering an instruction keeps, whatever the slots of its block. Assumes nothing.
use Rattle.std.proofs.Common.{◌≡◌, ℕ, ◌+◌, ◌-◌, ◌*◌, ◌/◌, ◌^◌, ◌<◌, ◌≤◌, Bool, true, false, cond, ltb, List, [], ◌∷◌, ◌++◌, length, Some, None, refl, ap, ◌∙◌, arith, length-append}
use Rattle.std.proofs.lemmas.List.{length-map}
use Rattle.std.proofs.lemmas.Bool.{ltb-true, ltb-false, true≢false}
use Rattle.entities.specs.Numbering.{Local, Numbered, alone, anew, crowded, last_number, local, local_write, numbered, numbered_at_end, numbered_between, numbered_from, seq_ceiling, settled, tens}
use Rattle.entities.specs.Program.{Slot, insts_in, slot}
use Rattle.entities.specs.declared.Inst.{Inst}
use Rattle.listing.proofs.InstEdits.{insts_cut}
use Rattle.listing.specs.Lawful.{Fitting, Rising}

-- ---- slots cut in two

pub rising_front : (q : ℕ) (xs ys : List Slot) → Rising q (xs ++ ys) → Rising q xs
rising_front q [] ys h = tt
rising_front q (s ∷ xs) ys h = (h.0, rising_front s.seq xs ys h.1)

pub rising_back : (q : ℕ) (xs ys : List Slot) → Rising q (xs ++ ys) → Rising (last_number q xs) ys
rising_back q [] ys h = h
rising_back q (s ∷ xs) ys h = rising_back s.seq xs ys h.1

pub rising_join : (q : ℕ) (xs ys : List Slot) → Rising q xs → Rising (last_number q xs) ys → Rising q (xs ++ ys)
rising_join q [] ys h k = k
rising_join q (s ∷ xs) ys h k = (h.0, rising_join s.seq xs ys h.1 k)

fit_front : (xs ys : List Slot) → Fitting (xs ++ ys) → Fitting xs
fit_front [] ys h = tt
fit_front (s ∷ xs) ys h = (h.0, fit_front xs ys h.1)

fit_back : (xs ys : List Slot) → Fitting (xs ++ ys) → Fitting ys
fit_back [] ys h = h
fit_back (s ∷ xs) ys h = fit_back xs ys h.1

fit_join : (xs ys : List Slot) → Fitting xs → Fitting ys → Fitting (xs ++ ys)
fit_join [] ys h k = k
fit_join (s ∷ xs) ys h k = (h.0, fit_join xs ys h.1 k)

-- ---- the whole block anew

pub insts_tens : (n : ℕ) (is : List Inst) → insts_in (tens n is) ≡ is
insts_tens n [] = refl
insts_tens n (i ∷ is) = ap (λ js. i ∷ js) (insts_tens (n + 10) is)

tens_rise : (p n : ℕ) (is : List Inst) → p < n → Rising p (tens n is)
tens_rise p n [] h = tt
tens_rise p n (i ∷ is) h = (h, tens_rise n (n + 10) is (omega arith))

tens_fit : (n : ℕ) (is : List Inst) → n + 10 * length is ≤ 20000 → Fitting (tens n is)
tens_fit n [] h = tt
tens_fit n (i ∷ is) h = (omega arith, tens_fit (n + 10) is (omega arith))

-- ---- local renumbering

record LocalKept (limit given : ℕ) (ss : List Slot) (l : Local) : Type 0 where
  insts : insts_in l.slots ≡ insts_in ss
  rises : (q : ℕ) → Rising q ss → l.passed ≡ false → Rising given l.slots
  fits : limit + 2 < 2 ^ 32 → Fitting ss → Fitting l.slots

write_kept : (limit given : ℕ) (s : Slot) (ss : List Slot) (o : Local) (c b : Bool) → ltb given s.seq ≡ c → ltb limit given ≡ b → LocalKept limit (given + 2) ss o → LocalKept limit given (s ∷ ss) (local_write c b s ss (given + 2) o)
write_kept limit given s ss o true b e f k = record { insts = refl; rises = λ q h p. (ltb-true given s.seq e, h.1); fits = λ h k. k }
write_kept limit given s ss o false true e f k = record { insts = refl; rises = λ q h p. absurd (true≢false p); fits = λ h k. k }
write_kept limit given s ss o false false e f k = record {
  insts = ap (λ is. s.inst ∷ is) k.insts;
  rises = λ q h p. (omega arith, k.rises s.seq h.1 p);
  fits = λ h m. (omega (arith, ltb-false limit given f), k.fits h m.1);
}

local_kept : (limit given : ℕ) (ss : List Slot) → LocalKept limit given ss (local limit given ss)
local_kept limit given [] = record { insts = refl; rises = λ q h p. tt; fits = λ h k. tt }
local_kept limit given (s ∷ ss) = write_kept limit given s ss (local limit (given + 2) ss) _ _ refl refl (local_kept limit (given + 2) ss)

-- it keeps the instructions
pub local_insts : (limit given : ℕ) (ss : List Slot) → insts_in (local limit given ss).slots ≡ insts_in ss
local_insts limit given ss = (local_kept limit given ss).insts

-- ---- each way of numbering

record Kept (sa : List Slot) (i : Inst) (sb : List Slot) (r : Numbered) : Type 0 where
  insts : insts_in r.slots ≡ insts_in sa ++ (i ∷ insts_in sb)
  rises : Rising 0 (sa ++ sb) → Rising 0 r.slots
  fits : length (sa ++ sb) < 1024 → Fitting (sa ++ sb) → Fitting r.slots

module _ (sa : List Slot) (i : Inst) (sb : List Slot) where
  -- it alone gets a number, above those ahead and below those behind
  alone_kept : (n : ℕ) → last_number 0 sa < n → (Rising (last_number 0 sa) sb → Rising n sb) → (Fitting sb → n < 2 ^ 32) → Kept sa i sb (alone sa i n sb)
  alone_kept n above below small = record {
    insts = insts_cut sa (slot i n ∷ sb);
    rises = λ h. rising_join 0 sa (slot i n ∷ sb) (rising_front 0 sa sb h) (above, below (rising_back 0 sa sb h));
    fits = λ few h. fit_join sa (slot i n ∷ sb) (fit_front sa sb h) (small (fit_back sa sb h), fit_back sa sb h);
  }

  -- how many they are, with the new one
  pub length_with : length (insts_in sa ++ (i ∷ insts_in sb)) ≡ 1 + length (sa ++ sb)
  length_with = omega (arith, length-append (insts_in sa) (i ∷ insts_in sb), length-append sa sb, length-map sa (λ (s : Slot). s.inst), length-map sb (λ (s : Slot). s.inst))

  -- the whole block, whatever was stored before
  anew_kept : (r : ℕ) → Kept sa i sb (record { slots = (anew sa i sb).slots; writes = r })
  anew_kept r = record {
    insts = insts_tens 10 (insts_in sa ++ (i ∷ insts_in sb));
    rises = λ h. tens_rise 0 10 (insts_in sa ++ (i ∷ insts_in sb)) (omega arith);
    fits = λ few h. tens_fit 10 (insts_in sa ++ (i ∷ insts_in sb)) (omega (arith, length_with));
  }

  settled_kept : (p : ℕ) (l : Local) (b : Bool) → p ≡ last_number 0 sa → p ≤ seq_ceiling → l.passed ≡ b → LocalKept (p + 200) (p + 2) sb l → Kept sa i sb (settled b p sa i sb l)
  settled_kept p l true e c f k = anew_kept _
  settled_kept p l false e c f k = record {
    insts = insts_cut sa (slot i (p + 2) ∷ l.slots) ∙ ap (λ is. insts_in sa ++ (i ∷ is)) k.insts;
    rises = λ h. rising_join 0 sa (slot i (p + 2) ∷ l.slots) (rising_front 0 sa sb h) (omega arith, k.rises (last_number 0 sa) (rising_back 0 sa sb h) f);
    fits = λ few h. fit_join sa (slot i (p + 2) ∷ l.slots) (fit_front sa sb h) (omega arith, k.fits (omega arith) (fit_back sa sb h));
  }

  crowded_kept : (p : ℕ) (b : Bool) → p ≡ last_number 0 sa → ltb seq_ceiling p ≡ b → Kept sa i sb (crowded b p sa i sb)
  crowded_kept p true e f = anew_kept _
  crowded_kept p false e f = settled_kept p (local (p + 200) (p + 2) sb) _ e (ltb-false seq_ceiling p f) refl (local_kept (p + 200) (p + 2) sb)

at_end_kept : (sa : List Slot) (i : Inst) (b : Bool) → ltb seq_ceiling (last_number 0 sa) ≡ b → Kept sa i [] (numbered_at_end b sa i)
at_end_kept sa i true f = anew_kept sa i [] _
at_end_kept sa i false f = alone_kept sa i [] (last_number 0 sa + 10) (omega arith) (λ h. tt) (λ h. omega (arith, ltb-false seq_ceiling (last_number 0 sa) f))

between_kept : (sa : List Slot) (i : Inst) (n : Slot) (sb : List Slot) (p : ℕ) (b : Bool) → p ≡ last_number 0 sa → ltb p (p + (n.seq - p) / 2) ≡ b → Kept sa i (n ∷ sb) (numbered_between (cond b (Some (p + (n.seq - p) / 2)) None) p sa i (n ∷ sb))
between_kept sa i n sb p true e f =
    let m = p + (n.seq - p) / 2 in
    let up : p < m = ltb-true p m f in
    let down : m < n.seq = omega arith in
    alone_kept sa i (n ∷ sb) m (omega arith) (λ h. (down, h.1)) (λ h. omega (arith, h.0))
between_kept sa i n sb p false e f = crowded_kept sa i (n ∷ sb) p _ e refl

from_kept : (p : ℕ) (sa : List Slot) (i : Inst) (sb : List Slot) → p ≡ last_number 0 sa → Kept sa i sb (numbered_from p sa i sb)
from_kept p sa i [] e = at_end_kept sa i _ refl
from_kept p sa i (n ∷ sb) e = between_kept sa i n sb p _ e refl

-- ---- the rule

-- the block's instructions, with the new one where it was put
pub numbered_insts : (sa : List Slot) (i : Inst) (sb : List Slot) → insts_in (numbered sa i sb).slots ≡ insts_in sa ++ (i ∷ insts_in sb)
numbered_insts sa i sb = (from_kept (last_number 0 sa) sa i sb refl).insts

-- the numbers still rise from above 0
pub numbered_rises : (sa : List Slot) (i : Inst) (sb : List Slot) → Rising 0 (sa ++ sb) → Rising 0 (numbered sa i sb).slots
numbered_rises sa i sb = (from_kept (last_number 0 sa) sa i sb refl).rises

-- and they still fit 32 bits
pub numbered_fits : (sa : List Slot) (i : Inst) (sb : List Slot) → length (sa ++ sb) < 1024 → Fitting (sa ++ sb) → Fitting (numbered sa i sb).slots
numbered_fits sa i sb = (from_kept (last_number 0 sa) sa i sb refl).fits
