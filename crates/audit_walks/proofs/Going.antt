-- A walk by next links that marks what it meets. Assumes nothing.
use Rattle.std.proofs.Common.{◌≡◌, ℕ, ◌<◌, ◌≤◌, Bool, true, false, List, [], ◌∷◌, length, set, get_or, Some, None, Option, sym, refl, ◌∙◌, subst}
use Rattle.std.proofs.lemmas.Bool.{true≢false}
use Rattle.std.proofs.lemmas.Option.{none-some, same_Some}
use Rattle.chain.specs.declared.Ends.{Ends}
use Rattle.chain.specs.Links.{Links}
use Rattle.chain.specs.Table.{read_at, Within}
use Rattle.chain.specs.Chain.{head_or, last_or, Distinct, AllWithin, Linked}
use Rattle.audit_walks.specs.Marks.{AllUnmarked, marked}
use Rattle.audit_walks.specs.Met.{NextsWithin, Met, Unmet}
use Rattle.audit_walks.proofs.Marking.{unset_all, set_all, within_set, within_more}

module _ {K : Type 0} (place : K → ℕ) (prv nxt : K → Option K) (last : Option K) where
  -- from at, with ahead before it, the walk meets ks, ends at last and turns the marks m into m'
  abbrev pub Walk : List Bool → Option K → Option K → List K → List Bool → Type 0
  Walk m ahead at [] m' = (at ≡ None) × (ahead ≡ last) × (m' ≡ m)
  Walk m ahead at (k ∷ ks) m' = (at ≡ Some k) × (place k < length m) × (get_or m (place k) false ≡ false) × (prv k ≡ ahead) × Walk (set m (place k) true) (Some k) (nxt k) ks m'

  -- the walk from the start goes well exactly when the walk from here does
  pub record Going (m₀ : List Bool) (first : Option K) (m : List Bool) (ahead at : Option K) : Type 0 where
    pub back : (ks : List K) (m' : List Bool) → Walk m ahead at ks m' → (js : List K) × Walk m₀ None first js m'
    pub on : (ks : List K) (m' : List Bool) → Walk m₀ None first ks m' → (js : List K) × Walk m ahead at js m'

  -- no walk from the start goes well
  abbrev pub NoWalk : List Bool → Option K → Type 0
  NoWalk m₀ first = (ks : List K) (m' : List Bool) → Walk m₀ None first ks m' → ⊥

  pub going_start : (m : List Bool) (first : Option K) → Going m first m None first
  going_start m first = record { back = λ ks m' w. (ks, w); on = λ ks m' w. (ks, w) }

  -- what a walk shows of the key where it is
  record Here (m : List Bool) (ahead : Option K) (k : K) (m' : List Bool) : Type 0 where
    fresh : get_or m (place k) false ≡ false
    mirror : prv k ≡ ahead
    rest : List K
    walk : Walk (set m (place k) true) (Some k) (nxt k) rest m'

  here : (ks : List K) (m : List Bool) (ahead at : Option K) (m' : List Bool) (k : K) → at ≡ Some k → Walk m ahead at ks m' → Here m ahead k m'
  here [] m ahead at m' k e w = absurd (none-some k (sym w.0 ∙ e))
  here (x ∷ xs) m ahead at m' k e w =
      subst (λ q. Here m ahead q m') (same_Some x k (sym w.0 ∙ e)) (record { fresh = w.2; mirror = w.3; rest = xs; walk = w.4 })

  over : (ks : List K) (m : List Bool) (ahead at : Option K) (m' : List Bool) → at ≡ None → Walk m ahead at ks m' → ahead ≡ last
  over [] m ahead at m' e w = w.1
  over (x ∷ xs) m ahead at m' e w = absurd (none-some x (sym e ∙ w.0))

  module _ {m₀ : List Bool} {first : Option K} {m : List Bool} {ahead at : Option K} where
    pub going_step : (k : K) → at ≡ Some k → place k < length m → get_or m (place k) false ≡ false → prv k ≡ ahead → Going m₀ first m ahead at → Going m₀ first (set m (place k) true) (Some k) (nxt k)
    going_step k e h f p g = record {
      back = λ ks m' w. g.back (k ∷ ks) m' (e, h, f, p, w);
      on = λ ks m' w. let on = g.on ks m' w in let r = here on.0 m ahead at m' k e on.1 in (r.rest, r.walk);
    }

    pub going_end : at ≡ None → ahead ≡ last → Going m₀ first m ahead at → (js : List K) × Walk m₀ None first js m
    going_end e a g = g.back [] m (e, a, refl)

    pub no_end : at ≡ None → (ahead ≡ last → ⊥) → Going m₀ first m ahead at → NoWalk m₀ first
    no_end e n g ks m' w = let on = g.on ks m' w in n (over on.0 m ahead at m' e on.1)

    pub no_fresh : (k : K) → at ≡ Some k → get_or m (place k) false ≡ true → Going m₀ first m ahead at → NoWalk m₀ first
    no_fresh k e t g ks m' w = let on = g.on ks m' w in true≢false (sym t ∙ (here on.0 m ahead at m' k e on.1).fresh)

    pub no_mirror : (k : K) → at ≡ Some k → (prv k ≡ ahead → ⊥) → Going m₀ first m ahead at → NoWalk m₀ first
    no_mirror k e t g ks m' w = let on = g.on ks m' w in t (here on.0 m ahead at m' k e on.1).mirror

  -- what a walk has shown
  record Ran (m : List Bool) (ahead at : Option K) (ks : List K) (m' : List Bool) : Type 0 where
    starts : at ≡ head_or ks None
    ends : last ≡ last_or ahead ks
    linked : Linked prv nxt ahead ks None
    distinct : Distinct ks
    fresh : AllUnmarked place m ks
    marks : m' ≡ marked place ks m

  ran : (ks : List K) (m : List Bool) (ahead at : Option K) (m' : List Bool) → Walk m ahead at ks m' → Ran m ahead at ks m'
  ran [] m ahead at m' w = record { starts = w.0; ends = sym w.1; linked = tt; distinct = tt; fresh = tt; marks = w.2 }
  ran (k ∷ ks) m ahead at m' w =
      let r = ran ks (set m (place k) true) (Some k) (nxt k) m' w.4 in
      let u = unset_all place m k ks w.1 r.fresh in
      record { starts = w.0; ends = r.ends; linked = (w.3, r.starts, r.linked); distinct = (u.0, r.distinct); fresh = (w.2, u.1); marks = r.marks }

  runs : (apart : (a b : K) → place a ≡ place b → a ≡ b) (ks : List K) (m : List Bool) (ahead at : Option K) → at ≡ head_or ks None → last ≡ last_or ahead ks → Linked prv nxt ahead ks None → Distinct ks → AllUnmarked place m ks → AllWithin place (length m) ks → Walk m ahead at ks (marked place ks m)
  runs apart [] m ahead at s e l d f i = (s, sym e, refl)
  runs apart (k ∷ ks) m ahead at s e l d f i = (
    s,
    i.0,
    f.0,
    l.0,
    runs apart ks (set m (place k) true) (Some k) (nxt k) l.1 e l.2 d.1 (set_all place apart m k ks d.0 f.1) (within_set place m (place k) ks i.1),
  )

-- how far the walk along the table has come
abbrev pub Walking : {N K : Type 0} (place : K → ℕ) (links : Links N K) → List N → Ends K → List Bool → List Bool → Option K → Option K → Type 0
Walking place links t e m m' ahead at = Going place (λ k. read_at links.prev_of t (place k)) (λ k. read_at links.next_of t (place k)) e.last m e.first m' ahead at

-- keys that links lead to are within the table, since links are
links_within : {K : Type 0} (place : K → ℕ) (n : ℕ) (prv nxt : K → Option K) → ((k : K) → Within place n (nxt k)) → (ks : List K) (p at : Option K) → Within place n at → at ≡ head_or ks None → Linked prv nxt p ks None → AllWithin place n ks
links_within place n prv nxt links [] p at w e l = tt
links_within place n prv nxt links (k ∷ ks) p at w e l = (subst (λ o. Within place n o) e w, links_within place n prv nxt links ks (Some k) (nxt k) (links k) l.1 l.2)

pub in_table : {K : Type 0} (place : K → ℕ) {n : ℕ} {at : Option K} {k : K} → at ≡ Some k → Within place n at → place k < n
in_table place {n} e w = subst (λ o. Within place n o) e w

-- the key where the walk is, at place i, is not marked and has what the walk has ahead of it: the walk goes on at n, which is behind it
pub walking_on : {N K : Type 0} {place : K → ℕ} (links : Links N K) (t : List N) {e : Ends K} {m m' : List Bool} {ahead at p n : Option K} {k : K} {i : ℕ} → Walking place links t e m m' ahead at → at ≡ Some k → place k < length m' → i ≡ place k → get_or m' i false ≡ false → p ≡ read_at links.prev_of t (place k) → p ≡ ahead → n ≡ read_at links.next_of t (place k) → Walking place links t e m (set m' i true) (Some k) n
walking_on {place = place} links t {e} {m} {m'} {ahead} {at} {p} {n} {k} {i} going a h is fresh back mirror next =
    let fresh' : get_or m' (place k) false ≡ false = subst (λ j. get_or m' j false ≡ false) is fresh in
    let on = going_step place (λ k. read_at links.prev_of t (place k)) (λ k. read_at links.next_of t (place k)) e.last k a h fresh' (sym back ∙ mirror) going in
    subst (λ o. Walking place links t e m (set m' i true) (Some k) o) (sym next)
    (subst (λ j. Walking place links t e m (set m' j true) (Some k) (read_at links.next_of t (place k))) (sym is) on)

module _ {N K : Type 0} {place : K → ℕ} {links : Links N K} {t : List N} {e : Ends K} where
  -- a walk that ends at the last key has met a chain
  pub met_all : {m m' : List Bool} {ahead at : Option K} → NextsWithin place links t → Within place (length t) e.first → Walking place links t e m m' ahead at → at ≡ None → ahead ≡ e.last → Met place links t e m m'
  met_all {m} {m'} nexts first going a l =
      let w = going_end place (λ k. read_at links.prev_of t (place k)) (λ k. read_at links.next_of t (place k)) e.last a l going in
      let r = ran place (λ k. read_at links.prev_of t (place k)) (λ k. read_at links.next_of t (place k)) e.last w.0 m None e.first m' w.1 in
      record {
        keys = w.0;
        chain = record {
          first = r.starts;
          last = r.ends;
          linked = r.linked;
          distinct = r.distinct;
          within = links_within place (length t) (λ k. read_at links.prev_of t (place k)) (λ k. read_at links.next_of t (place k)) nexts w.0 None e.first first r.starts r.linked;
        };
        fresh = r.fresh;
        marks = r.marks;
      }

  module _ (apart : (a b : K) → place a ≡ place b → a ≡ b) {m m' : List Bool} {ahead at : Option K} (room : length t ≤ length m) (going : Walking place links t e m m' ahead at) where
    -- no walk, so no chain
    unmet : NoWalk place (λ k. read_at links.prev_of t (place k)) (λ k. read_at links.next_of t (place k)) e.last m e.first → Unmet place links t e m
    unmet astray = record {
      none = λ ks c f.
          astray ks (marked place ks m) (runs place (λ k. read_at links.prev_of t (place k)) (λ k. read_at links.next_of t (place k)) e.last apart ks m None e.first c.first c.last c.linked c.distinct f (within_more place (length t) (length m) ks room c.within));
    }

    pub unmet_end : at ≡ None → (ahead ≡ e.last → ⊥) → Unmet place links t e m
    unmet_end a l = unmet (no_end place (λ k. read_at links.prev_of t (place k)) (λ k. read_at links.next_of t (place k)) e.last a l going)

    pub unmet_marked : {k : K} {i : ℕ} → at ≡ Some k → i ≡ place k → get_or m' i false ≡ true → Unmet place links t e m
    unmet_marked {k} {i} a is f = unmet (no_fresh place (λ k. read_at links.prev_of t (place k)) (λ k. read_at links.next_of t (place k)) e.last k a (subst (λ j. get_or m' j false ≡ true) is f) going)

    pub unmet_unmirrored : {k : K} {p : Option K} → at ≡ Some k → p ≡ read_at links.prev_of t (place k) → (p ≡ ahead → ⊥) → Unmet place links t e m
    unmet_unmirrored {k} a back f = unmet (no_mirror place (λ k. read_at links.prev_of t (place k)) (λ k. read_at links.next_of t (place k)) e.last k a (λ q. f (back ∙ q)) going)

pub ruleset walked = (met_all, unmet_end)
