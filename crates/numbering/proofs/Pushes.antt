-- The loop that renumbers locally, turn by turn. Assumes nothing.
use Rattle.std.proofs.Common.{◌≡◌, ℕ, ◌+◌, ◌<◌, Bool, true, false, ltb, List, [], ◌∷◌, length, get_or, Some, None, Option, Ok, Err, Result, sym, refl, ap, ◌∙◌, subst, arith}
use Rattle.std.proofs.lemmas.List.{length-map}
use Rattle.std.proofs.lemmas.Option.{none-some, same_Some}
use Rattle.chain.specs.Chain.{Disjoint, Misses}
use Rattle.entities.specs.Nodes.{inst_links, no_inst, number_of}
use Rattle.entities.specs.Numbering.{Local, local, local_write}
use Rattle.entities.specs.Program.{Slot, slot, insts_in}
use Rattle.entities.specs.declared.Inst.{Inst}
use Rattle.entities.specs.declared.nodes.InstNode.{InstNode}
use Rattle.listing.proofs.Numbered.{local_insts}
use Rattle.listing.proofs.Parts.{node_reads}
use Rattle.listing.specs.Lawful.{or_zero}
use Rattle.listing.specs.Numbers.{Renumbered, Written}
use Rattle.numbering.specs.Assigned.{with_number}
use Rattle.numbering.specs.Local.{BehindAnew, Followed, Tail, ended, local_end, past_limit}
use Rattle.numbering.specs.declared.PastLimit.{PastLimit}
use Rattle.numbering.proofs.Renumbering.{both, put, stays, unchanged}
use Rattle.numbering.proofs.Tails.{few, tail_on, tail_stays}

-- from t to u the slots `new` were stored, and r counts one more number than these
pub record Settles (t u : List InstNode) (new : Local) (r : Result ℕ PastLimit) : Type 0 where
  pub table : Renumbered t u new.slots
  pub end : r ≡ local_end new.passed (1 + new.writes)

-- w numbers are stored, the last of them n, and the slots ss are left: whatever local renumbering makes of these makes `goal` of the whole
pub record Pushing (t₀ t : List InstNode) (at : Option Inst) (goal : Local) (limit n w total : ℕ) (ss : List Slot) : Type 0 where
  pub tail : Tail t at (insts_in ss)
  pub written : Written t ss
  pub counted : w + length ss ≡ total
  pub writes : w + (local limit n ss).writes ≡ 1 + goal.writes
  pub passed : (local limit n ss).passed ≡ goal.passed
  pub whole : (u : List InstNode) → Renumbered t u (local limit n ss).slots → Renumbered t₀ u goal.slots

push_start : {t : List InstNode} {at : Option Inst} {ss : List Slot} (limit n : ℕ) → Tail t at (insts_in ss) → Written t ss → Pushing t t at (local limit n ss) limit n 1 (1 + length ss) ss
push_start limit n r w = record { tail = r; written = w; counted = omega arith; writes = omega arith; passed = refl; whole = λ u h. h }

-- the link of inst leads to what stands behind it
behind_tail : {t : List InstNode} {inst : Inst} {ss : List Slot} (j : ℕ) → j ≡ inst.0 → Followed t inst ss → Tail t (get_or t j no_inst).next (insts_in ss)
behind_tail {t} {inst} j e f = tail_on (node_reads inst_links.next_of t inst.0 j no_inst e f.tail.within.0) f.tail

-- ---- at an instruction: it is the first of those that are left

-- the loop stands at i, whose number is `seq`, with the slots `behind` behind it
pub record Met (t₀ t : List InstNode) (at : Option Inst) (goal : Local) (limit n w total : ℕ) (i : Inst) : Type 0 where
  pub seq : ℕ
  pub behind : List Slot
  pub push : Pushing t₀ t at goal limit n w total (slot i seq ∷ behind)

met : {t₀ t : List InstNode} {at : Option Inst} {goal : Local} {limit n w total : ℕ} (i : Inst) (ss : List Slot) → at ≡ Some i → Pushing t₀ t at goal limit n w total ss → Met t₀ t at goal limit n w total i
met i [] e p = absurd (none-some i (sym p.tail.here ∙ e))
met {t₀} {t} {at} {goal} {limit} {n} {w} {total} i (s ∷ ss) e p =
    let same : s.inst ≡ i = sym (same_Some i s.inst (sym e ∙ p.tail.here)) in
    record { seq = s.seq; behind = ss; push = subst (λ k. Pushing t₀ t at goal limit n w total (slot k s.seq ∷ ss)) same p }

lone : (i : Inst) (ss : List Slot) → Misses (Some i) (insts_in ss) → Disjoint (insts_in ss) (i ∷ [])
lone i [] a = tt
lone i (s ∷ ss) a = ((λ e. a.0 (sym e), tt), lone i ss a.1)

-- ---- where it ends

stop : {t₀ t : List InstNode} {at : Option Inst} {goal : Local} {limit n w total : ℕ} {ss : List Slot} (b : Bool) → local limit n ss ≡ record { slots = ss; writes = 0; passed = b } → Pushing t₀ t at goal limit n w total ss → Settles t₀ t goal (local_end b w)
stop {t₀} {t} {at} {goal} {limit} {n} {w} {total} {ss} b e p =
    let none : (local limit n ss).writes ≡ 0 = ap (λ l. l.writes) e in
    let count : w ≡ 1 + goal.writes = omega (arith, p.writes) in
    let same : b ≡ goal.passed = sym (ap (λ (l : Local). l.passed) e) ∙ p.passed in
    record {
      table = p.whole t (subst (λ (l : Local). Renumbered t t l.slots) (sym e) (unchanged t ss p.written));
      end = ap (λ c. local_end c w) same ∙ ap (λ m. local_end goal.passed m) count;
    }

-- at none: all is done
finished : {t₀ t : List InstNode} {at : Option Inst} {goal : Local} {limit n w total : ℕ} (ss : List Slot) → at ≡ None → Pushing t₀ t at goal limit n w total ss → Settles t₀ t goal (Ok w)
finished [] e p = stop false refl p
finished (s ∷ ss) e p = absurd (none-some s.inst (sym e ∙ p.tail.here))

-- ---- ahead of a write, by what was asked there

caught : (c b : Bool) (w : ℕ) → Ok true ≡ ended c b w → c ≡ true
caught true b w f = refl
caught false true w f = absurd (cc)
caught false false w f = absurd (cc)

past : (c b : Bool) (w : ℕ) (l : PastLimit) → Err l ≡ ended c b w → (c ≡ false) × (b ≡ true) × (l ≡ past_limit w)
past true b w l f = absurd (cc)
past false true w l f = (refl, refl, cc)
past false false w l f = absurd (cc)

goes : (c b : Bool) (w : ℕ) → Ok false ≡ ended c b w → (c ≡ false) × (b ≡ false)
goes true b w f = absurd (cc)
goes false true w f = absurd (cc)
goes false false w f = (refl, refl)

-- k is the place of its node, and o the answer
module _ {t₀ t : List InstNode} {at : Option Inst} {goal : Local} {limit n w total k : ℕ} {i : Inst} (m : Met t₀ t at goal limit n w total i) (e : k ≡ i.0) {o : Result Bool PastLimit} (f : o ≡ ended (ltb n (get_or t k no_inst).seq) (ltb limit n) w) where
  -- the number that was asked about is that of the slot
  answer : {r : Result Bool PastLimit} → o ≡ r → r ≡ ended (ltb n m.seq) (ltb limit n) w
  answer {r} g = subst (λ q. r ≡ ended (ltb n q) (ltb limit n) w) (ap or_zero (node_reads number_of t i.0 k no_inst e m.push.tail.within.0 ∙ m.push.written.0)) (sym g ∙ f)

  asked : (c b : Bool) → Local
  asked c b = local_write c b (slot i m.seq) m.behind (n + 2) (local limit (n + 2) m.behind)

  -- it has caught up
  pub caught_up : {b : Bool} → o ≡ Ok b → b ≡ true → Settles t₀ t goal (Ok w)
  unfolding asked
  caught_up g h = stop false (ap (λ c. asked c (ltb limit n)) (caught _ _ w (answer (g ∙ ap Ok h)))) m.push

  -- it has passed its limit
  pub went_past : {l : PastLimit} {r : Result ℕ PastLimit} → o ≡ Err l → r ≡ Err l → Settles t₀ t goal r
  unfolding asked
  went_past {l} g h =
      let q = past _ _ w l (answer g) in
      subst (λ r. Settles t₀ t goal r) (sym (h ∙ ap Err q.2)) (stop true (ap (λ c. asked c (ltb limit n)) q.0 ∙ ap (λ b. asked false b) q.1) m.push)

  -- neither: it goes on
  push_on : {b : Bool} {u : List InstNode} {j : ℕ} → o ≡ Ok b → b ≡ false → u ≡ with_number t i (n + 2) → j ≡ i.0 → Pushing t₀ u (get_or u j no_inst).next goal limit (n + 2) (w + 1) total m.behind
  unfolding asked
  push_on {u = u} {j} g h d z =
      let p = m.push in
      let rest = local limit (n + 2) m.behind in
      let here = slot i (n + 2) in
      let q = goes _ _ w (answer (g ∙ ap Ok h)) in
      let rule : local limit n (slot i m.seq ∷ m.behind) ≡ record { slots = here ∷ rest.slots; writes = 1 + rest.writes; passed = rest.passed } = ap (λ c. asked c (ltb limit n)) q.0 ∙ ap (λ b. asked false b) q.1 in
      let wrote : Renumbered t u (here ∷ []) = subst (λ v. Renumbered t v (here ∷ [])) (sym d) (put t i (n + 2) p.tail.within.0) in
      let apart : Misses (Some i) (insts_in m.behind) = p.tail.distinct.0 in
      let apart_then : Misses (Some i) (insts_in rest.slots) = subst (λ ks. Misses (Some i) ks) (sym (local_insts limit (n + 2) m.behind)) apart in
      let there = tail_stays wrote.spares p.tail in
      record {
        tail = tail_on (node_reads inst_links.next_of u i.0 j no_inst z there.within.0) there;
        written = stays t u (i ∷ []) m.behind wrote.spares (lone i m.behind apart) p.written.1;
        counted = omega (arith, p.counted);
        writes = let one : (local limit n (slot i m.seq ∷ m.behind)).writes ≡ 1 + rest.writes = ap (λ l. l.writes) rule in omega (arith, p.writes);
        passed = sym (ap (λ (l : Local). l.passed) rule) ∙ p.passed;
        whole = λ v y. p.whole v (subst (λ (l : Local). Renumbered t v l.slots) (sym rule) (both t u v (here ∷ []) rest.slots (apart_then, tt) wrote y));
      }

-- ---- the loop, whatever slots stand behind inst

-- so far from t₀ to t, with n the number given last: what is left stands at `at`, and what was there at first at `from`
pub record Pushes (t₀ t : List InstNode) (from at : Option Inst) (limit start n w : ℕ) : Type 0 where
  pub pushing : (ss : List Slot) → Tail t₀ from (insts_in ss) → Written t₀ ss → (rest : List Slot) × Pushing t₀ t at (local limit start ss) limit n w (1 + length ss) rest

pub pushes_start : {t : List InstNode} {from : Option Inst} (limit start : ℕ) → Pushes t t from from limit start start 1
pushes_start limit start = record { pushing = λ ss r w. (ss, push_start limit start r w) }

pub pushes_on : {t₀ t u : List InstNode} {from at : Option Inst} {limit start n w k j : ℕ} {i : Inst} {o : Result Bool PastLimit} {b : Bool} → Pushes t₀ t from at limit start n w → at ≡ Some i → k ≡ i.0 → o ≡ ended (ltb n (get_or t k no_inst).seq) (ltb limit n) w → o ≡ Ok b → b ≡ false → u ≡ with_number t i (n + 2) → j ≡ i.0 → Pushes t₀ u from (get_or u j no_inst).next limit start (n + 2) (w + 1)
pushes_on {i = i} p a e f g h d z = record { pushing = λ ss r v. let m = met i _ a (p.pushing ss r v).1 in (m.behind, push_on m e f g h d z) }

module _ {t₀ t : List InstNode} {inst : Inst} {j : ℕ} {at : Option Inst} {limit start n w : ℕ} (p : Pushes t₀ t (get_or t₀ j no_inst).next at limit start n w) (e : j ≡ inst.0) where
  -- at an instruction
  pub standing : {i : Inst} {ss : List Slot} → at ≡ Some i → Followed t₀ inst ss → Met t₀ t at (local limit start ss) limit n w (1 + length ss) i
  standing {i} {ss} o f = met i _ o (p.pushing ss (behind_tail j e f) f.written).1

  pub in_table : {i : Inst} {ss : List Slot} → at ≡ Some i → Followed t₀ inst ss → i.0 < length t
  in_table o f = (standing o f).push.tail.within.0

  -- no more numbers than the table has places
  pub unfinished : {i : Inst} {ss : List Slot} → at ≡ Some i → Followed t₀ inst ss → w < 1024
  unfinished {ss = ss} o f = omega (arith, (standing o f).push.counted, few f.tail, length-map ss (λ (s : Slot). s.inst))

  -- at none
  pub all_done : {ss : List Slot} → at ≡ None → Followed t₀ inst ss → Settles t₀ t (local limit start ss) (Ok w)
  all_done {ss} o f = let l = p.pushing ss (behind_tail j e f) f.written in finished l.0 o l.1

-- ---- the whole

-- inst has got its number: those behind it are as they were
pub followed_then : {t u : List InstNode} {inst : Inst} {ss : List Slot} (n : ℕ) → u ≡ with_number t inst n → Followed t inst ss → Followed u inst ss
followed_then {t} {u} {inst} {ss} n e f =
    let w : Renumbered t u (slot inst n ∷ []) = subst (λ v. Renumbered t v (slot inst n ∷ [])) (sym e) (put t inst n f.tail.within.0) in
    record { tail = tail_stays w.spares f.tail; written = stays t u (inst ∷ []) ss w.spares (lone inst ss f.tail.distinct.0) f.written }

pub behind_anew : {t u : List InstNode} {inst : Inst} {n limit : ℕ} {r : Result ℕ PastLimit} → ((ss : List Slot) → Followed t inst ss → Settles t u (local limit n ss) r) → BehindAnew t u inst n limit r
behind_anew {t} {u} {inst} {n} {limit} {r} h s e ss f =
    let w : Renumbered s t (slot inst n ∷ []) = subst (λ v. Renumbered s v (slot inst n ∷ [])) (sym e) (put s inst n f.tail.within.0) in
    let d = h ss (followed_then n e f) in
    let apart : Misses (Some inst) (insts_in (local limit n ss).slots) = subst (λ ks. Misses (Some inst) ks) (sym (local_insts limit n ss)) f.tail.distinct.0 in
    record { table = both s t u (slot inst n ∷ []) (local limit n ss).slots (apart, tt) w d.table; end = d.end }
