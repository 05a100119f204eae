-- What was stored is what the rule says, by the numbers of the neighbours. Assumes nothing.
use Rattle.std.proofs.Common.{◌≡◌, ℕ, ◌+◌, ◌<◌, ◌≤◌, Bool, true, false, ltb, List, [], ◌∷◌, ◌++◌, length, Some, None, Option, Ok, Err, Result, sym, refl, ap, ◌∙◌, subst, arith}
use Rattle.std.proofs.lemmas.Option.{none-some, same_Some}
use Rattle.std.specs.Prelude.{MatchOption}
use Rattle.std.proofs.lemmas.Bool.{le-ltb, lt-ltb}
use Rattle.chain.proofs.Chained.{frame, split_right}
use Rattle.chain.proofs.Keys.{distinct_across, last_within, none_misses, within_left, head_within}
use Rattle.chain.specs.Chain.{AllWithin, Disjoint, head_or, last_or}
use Rattle.chain.specs.Table.{Within, read_at}
use Rattle.entities.specs.Nodes.{inst_links, inst_place}
use Rattle.entities.specs.Numbering.{Local, alone, anew, crowded, last_number, local, local_write, midpoint, numbered, numbered_at_end, numbered_between, seq_ceiling, settled, stride}
use Rattle.entities.specs.Program.{Slot, insts_in, slot}
use Rattle.entities.specs.declared.Inst.{Inst}
use Rattle.entities.specs.declared.nodes.InstNode.{InstNode}
use Rattle.listing.proofs.InstEdits.{insts_cut}
use Rattle.listing.proofs.Numbered.{local_insts, insts_tens}
use Rattle.listing.specs.Lawful.{or_zero}
use Rattle.listing.specs.Numbers.{BelowFirst, Placed, Renumbered, Run, SomePlaced, Written}
use Rattle.numbering.specs.Assigned.{AllAnew, AloneBetween, AloneLast, AnewAbove, Middle, Stored, number_at, number_if, seq_ahead_of, seq_behind_of, with_number}
use Rattle.numbering.specs.Local.{Crowded, Followed, LocallyAnew, StoredLocally, local_end}
use Rattle.numbering.specs.declared.PastLimit.{PastLimit}
use Rattle.numbering.proofs.Pushes.{followed_then}
use Rattle.numbering.proofs.Renumbering.{again, both, put, unchanged}
use Rattle.numbering.proofs.Tails.{few, tail_from}

-- ---- the numbers of the neighbours

-- the first number of these slots, if there is one
head_number : List Slot → Option ℕ
head_number [] = None
head_number (s ∷ ss) = Some s.seq

last_is : (t : List InstNode) (o : Option Inst) (ss : List Slot) → Written t ss → number_at t (last_or o (insts_in ss)) ≡ last_number (number_at t o) ss
last_is t o [] w = refl
last_is t o (s ∷ ss) w = last_is t (Some s.inst) ss w.1 ∙ ap (λ n. last_number (or_zero n) ss) w.0

head_is : (t : List InstNode) (ss : List Slot) → Written t ss → number_if t (head_or (insts_in ss) None) ≡ head_number ss
unfolding head_number
head_is t [] w = refl
head_is t (s ∷ ss) w = ap (λ n. Some (or_zero n)) w.0

module _ {t : List InstNode} {first : Option Inst} (sa : List Slot) (i : Inst) (sb : List Slot) (p : Placed t first sa i sb) where
  pub followed : Followed t i sb
  followed = record { tail = tail_from (insts_in sa) i (insts_in sb) p.run; written = p.behind }

  pub in_table : i.0 < length t
  in_table = followed.tail.within.0

  prev_is : read_at inst_links.prev_of t i.0 ≡ last_or None (insts_in sa)
  prev_is = (split_right (λ k. read_at inst_links.prev_of t (inst_place k)) (λ k. read_at inst_links.next_of t (inst_place k)) None (insts_in sa) (i ∷ insts_in sb) None p.run.chain.linked).0

  pub prev_in_table : Within inst_place (length t) (read_at inst_links.prev_of t i.0)
  prev_in_table = subst (λ o. Within inst_place (length t) o) (sym prev_is) (last_within inst_place (length t) (insts_in sa) (within_left inst_place (length t) (insts_in sa) (i ∷ insts_in sb) p.run.chain.within))

  pub next_in_table : Within inst_place (length t) (read_at inst_links.next_of t i.0)
  next_in_table = subst (λ o. Within inst_place (length t) o) (sym followed.tail.linked.1) (head_within inst_place (length t) (insts_in sb) followed.tail.within.1)

  ahead_is : seq_ahead_of t i ≡ last_number 0 sa
  ahead_is = ap (λ o. number_at t o) prev_is ∙ last_is t None sa p.ahead

  behind_is : seq_behind_of t i ≡ head_number sb
  behind_is = ap (λ o. number_if t o) followed.tail.linked.1 ∙ head_is t sb p.behind

  -- the number behind is above the number ahead
  rises_between : (n : ℕ) → seq_behind_of t i ≡ Some n → seq_ahead_of t i < n
  unfolding head_number
  rises_between n e = subst (λ q. q < n) (sym ahead_is) (by sb (sym behind_is ∙ e) p.between)
    where
      by : (ss : List Slot) → head_number ss ≡ Some n → BelowFirst (last_number 0 sa) ss → last_number 0 sa < n
      by [] e r = absurd (none-some n e)
      by (s ∷ ss) e r = subst (λ q. last_number 0 sa < q) (same_Some s.seq n e) r

  -- the midpoint of the numbers ahead and behind
  middle_is : (o : Option ℕ) → Middle t i o → MatchOption (head_number sb) (o ≡ None) (λ n. o ≡ midpoint (last_number 0 sa) n)
  middle_is o m = subst (λ k. MatchOption (head_number sb) (o ≡ None) (λ n. o ≡ midpoint k n)) ahead_is (subst (λ q. MatchOption q (o ≡ None) (λ n. o ≡ midpoint (seq_ahead_of t i) n)) behind_is m)

pub rises : {t : List InstNode} {first : Option Inst} {i : Inst} {p : ℕ} {o : Option ℕ} → SomePlaced t first i → p ≡ seq_ahead_of t i → o ≡ seq_behind_of t i → (n : ℕ) → o ≡ Some n → p < n
rises s ahead behind n e = subst (λ p. p < n) (sym ahead) (rises_between _ _ _ s.placed n (sym behind ∙ e))

-- ---- which way the rule goes; q is the number ahead

module _ (sa : List Slot) (i : Inst) where
  abbrev q : ℕ
  q = last_number 0 sa

  with_middle : (sb : List Slot) (n : ℕ) (o : Option ℕ) → o ≡ Some n → MatchOption (head_number sb) (o ≡ None) (λ k. o ≡ midpoint q k) → numbered sa i sb ≡ alone sa i n sb
  unfolding head_number
  with_middle [] n o e m = absurd (none-some n (sym m ∙ e))
  with_middle (s ∷ sb) n o e m = ap (λ x. numbered_between x q sa i (s ∷ sb)) (sym m ∙ e)

  above : (sb : List Slot) (o : Option ℕ) → o ≡ None → MatchOption (head_number sb) (o ≡ None) (λ k. o ≡ midpoint q k) → seq_ceiling < q → numbered sa i sb ≡ anew sa i sb
  unfolding head_number
  above [] o e m h = ap (λ b. numbered_at_end b sa i) (lt-ltb seq_ceiling q h)
  above (s ∷ sb) o e m h = ap (λ x. numbered_between x q sa i (s ∷ sb)) (sym m ∙ e) ∙ ap (λ b. crowded b q sa i (s ∷ sb)) (lt-ltb seq_ceiling q h)

  at_end : (sb : List Slot) → head_number sb ≡ None → q ≤ seq_ceiling → numbered sa i sb ≡ alone sa i (stride q) sb
  unfolding head_number
  at_end [] e h = ap (λ b. numbered_at_end b sa i) (le-ltb seq_ceiling q h)
  at_end (s ∷ sb) e h = absurd (none-some s.seq (sym e))

  locally : (sb : List Slot) (n : ℕ) (b : Bool) → head_number sb ≡ Some n → midpoint q n ≡ None → q ≤ seq_ceiling → (local (q + 200) (q + 2) sb).passed ≡ b → numbered sa i sb ≡ settled b q sa i sb (local (q + 200) (q + 2) sb)
  unfolding head_number
  locally [] n b e m h f = absurd (none-some n e)
  locally (s ∷ sb) n b e m h f =
      ap (λ o. numbered_between o q sa i (s ∷ sb)) (ap (λ k. midpoint q k) (same_Some s.seq n e) ∙ m)
      ∙ ap (λ c. crowded c q sa i (s ∷ sb)) (le-ltb seq_ceiling q h)
      ∙ ap (λ c. settled c q sa i (s ∷ sb) (local (q + 200) (q + 2) (s ∷ sb))) f

-- ---- what was done is what the rule says

module _ {t u : List InstNode} {first : Option Inst} (sa : List Slot) (i : Inst) (sb : List Slot) (p : Placed t first sa i sb) where
  by_anew : {r : ℕ} → AllAnew t u first r → numbered sa i sb ≡ anew sa i sb → Stored t u (numbered sa i sb) r
  by_anew {r} a rule = subst (λ n. Stored t u n r) (sym rule) (a (insts_in sa ++ (i ∷ insts_in sb)) p.run)

  -- the slots ahead stay
  behind_ahead : (ss : List Slot) → insts_in ss ≡ i ∷ insts_in sb → Renumbered t u ss → Renumbered t u (sa ++ ss)
  behind_ahead ss e r = both t t u sa ss (subst (λ ks. Disjoint (insts_in sa) ks) (sym e) (distinct_across (insts_in sa) (i ∷ insts_in sb) p.run.chain.distinct)) (unchanged t sa p.ahead) r

  by_alone : (n : ℕ) → u ≡ with_number t i n → numbered sa i sb ≡ alone sa i n sb → Stored t u (numbered sa i sb) 1
  by_alone n e rule =
      let f = followed sa i sb p in
      let one : Renumbered t u (slot i n ∷ []) = subst (λ v. Renumbered t v (slot i n ∷ [])) (sym e) (put t i n (in_table sa i sb p)) in
      let kept : Renumbered u u sb = unchanged u sb (followed_then n e f).written in
      subst (λ m. Stored t u m 1) (sym rule) (record { table = behind_ahead (slot i n ∷ sb) refl (both t u u (slot i n ∷ []) sb (f.tail.distinct.0, tt) one kept); count = refl })

pub anew_above : {t u : List InstNode} {first : Option Inst} {r : ℕ} → AllAnew t u first r → AnewAbove t u first r
anew_above a i o m none high sa sb p = by_anew sa i sb p a (above sa i sb o none (middle_is sa i sb p o m) (subst (λ n. seq_ceiling < n) (ahead_is sa i sb p) high))

pub alone_between : {t u : List InstNode} {i : Inst} {n : ℕ} → u ≡ with_number t i n → AloneBetween t u i n
alone_between {i = i} {n} e o m some sa sb in_block =
    let p = in_block.placed in
    by_alone sa i sb p n e (with_middle sa i sb n o some (middle_is sa i sb p o m))

pub alone_last : {t u : List InstNode} {i : Inst} {n : ℕ} → u ≡ with_number t i n → AloneLast t u i n
alone_last {i = i} {n} e none low step sa sb in_block =
    let p = in_block.placed in
    let q = ahead_is sa i sb p in
    let rule = at_end sa i sb (sym (behind_is sa i sb p) ∙ none) (subst (λ k. k ≤ seq_ceiling) q low) in
    by_alone sa i sb p n e (rule ∙ ap (λ k. alone sa i k sb) (sym (step ∙ ap stride q)))

-- ---- local renumbering

settled_end : (b : Bool) (w n : ℕ) → Ok w ≡ local_end b n → (b ≡ false) × (w ≡ n)
settled_end false w n e = (refl, cc)
settled_end true w n e = absurd (cc)

past_end : (b : Bool) (l : PastLimit) (n : ℕ) → Err l ≡ local_end b n → (b ≡ true) × (l.0 ≡ n)
past_end true l n e = (refl, cc)
past_end false l n e = absurd (cc)

-- the block is still there
pub run_stays : {t u : List InstNode} {first : Option Inst} {i : Inst} {n limit : ℕ} {end : Result ℕ PastLimit} {ss : List Slot} {ks : List Inst} → StoredLocally t u i n limit ss end → Run t first ks → Run u first ks
run_stays {ks = ks} s r = let w = s.table.spares in record {
  last = r.last;
  chain = record {
    first = r.chain.first;
    last = r.chain.last;
    linked = frame None None ks None (λ x _. w.prev x) (λ x _. w.next x) (none_misses ks) r.chain.linked;
    distinct = r.chain.distinct;
    within = subst (λ n. AllWithin inst_place n ks) (sym w.size) r.chain.within;
  };
  size = subst (λ n. n ≤ 1024) (sym w.size) r.size;
}

-- it stores no more numbers than there are slots
local_few : (limit n : ℕ) (ss : List Slot) → (local limit n ss).writes ≤ length (insts_in ss)
local_few limit n [] = omega arith
local_few limit n (s ∷ ss) = by (ltb n s.seq) (ltb limit n) (local limit (n + 2) ss) (local_few limit (n + 2) ss)
  where
    by : (c b : Bool) (l : Local) → l.writes ≤ length (insts_in ss) → (local_write c b s ss (n + 2) l).writes ≤ length (insts_in (s ∷ ss))
    by true b l h = omega arith
    by false true l h = omega arith
    by false false l h = omega arith

pub stored_few : {t u : List InstNode} {i : Inst} {n limit : ℕ} {l : PastLimit} {ss : List Slot} → Followed t i ss → StoredLocally t u i n limit ss (Err l) → l.0 ≤ 1024
stored_few {n = n} {limit = limit} {ss = ss} f s = omega (arith, (past_end _ _ _ s.end).1, local_few limit n ss, few f.tail)

pub crowded_settled : {t u : List InstNode} {first : Option Inst} {i : Inst} {p w : ℕ} → p ≤ seq_ceiling → LocallyAnew t u i (p + 2) (p + 200) (Ok w) → Crowded t u first i p w
crowded_settled {t} {u} {first} {i} {p} {w} low l e next b m sa sb pl =
    let q : p ≡ last_number 0 sa = e ∙ ahead_is sa i sb pl in
    let s = subst (λ k. StoredLocally t u i (k + 2) (k + 200) sb (Ok w)) q (l sb (followed sa i sb pl)) in
    let k = last_number 0 sa in
    let new = local (k + 200) (k + 2) sb in
    let end = settled_end _ _ _ s.end in
    let rule = locally sa i sb next false (sym (behind_is sa i sb pl) ∙ b) (subst (λ k. midpoint k next ≡ None) q m) (subst (λ k. k ≤ seq_ceiling) q low) end.0 in
    subst (λ n. Stored t u n w) (sym rule) (record { table = behind_ahead sa i sb pl (slot i (k + 2) ∷ new.slots) (ap (λ ks. i ∷ ks) (local_insts (k + 200) (k + 2) sb)) s.table; count = end.1 })

pub crowded_past : {t u v : List InstNode} {first : Option Inst} {i : Inst} {p r : ℕ} {l : PastLimit} → p ≤ seq_ceiling → LocallyAnew t u i (p + 2) (p + 200) (Err l) → AllAnew u v first r → Crowded t v first i p (l.0 + r)
crowded_past {t} {u} {v} {first} {i} {p} {r} {l = past} low l a e next b m sa sb pl =
    let q : p ≡ last_number 0 sa = e ∙ ahead_is sa i sb pl in
    let s = subst (λ k. StoredLocally t u i (k + 2) (k + 200) sb (Err past)) q (l sb (followed sa i sb pl)) in
    let k = last_number 0 sa in
    let new = local (k + 200) (k + 2) sb in
    let all = insts_in sa ++ (i ∷ insts_in sb) in
    let end = past_end _ _ _ s.end in
    let rule = locally sa i sb next true (sym (behind_is sa i sb pl) ∙ b) (subst (λ k. midpoint k next ≡ None) q m) (subst (λ k. k ≤ seq_ceiling) q low) end.0 in
    let local_first : Renumbered t u (sa ++ (slot i (k + 2) ∷ new.slots)) = behind_ahead sa i sb pl (slot i (k + 2) ∷ new.slots) (ap (λ ks. i ∷ ks) (local_insts (k + 200) (k + 2) sb)) s.table in
    let same : insts_in (sa ++ (slot i (k + 2) ∷ new.slots)) ≡ all = insts_cut sa (slot i (k + 2) ∷ new.slots) ∙ ap (λ ks. insts_in sa ++ (i ∷ ks)) (local_insts (k + 200) (k + 2) sb) in
    let whole = a all (run_stays s pl.run) in
    subst (λ n. Stored t v n (past.0 + r)) (sym rule) (record { table = again t u v (sa ++ (slot i (k + 2) ∷ new.slots)) (anew sa i sb).slots (same ∙ sym (insts_tens 10 all)) local_first whole.table; count = omega (arith, end.1, whole.count) })
