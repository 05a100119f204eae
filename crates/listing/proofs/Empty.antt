-- Tables of nodes that hold nothing are lawful, and stand for the empty list. Assumes nothing.
use Rattle.std.proofs.Common.{◌≡◌, ℕ, zero, suc, Bool, [], ◌∷◌, map, replicate, None, Option, sym, refl, ap, ◌∙◌, subst}
use lib.ListN.{length-replicate}
use Rattle.chain.specs.Table.{read_at}
use Rattle.entities.specs.Nodes.{block_links, block_named, first_of, inst_links, last_of, no_inst, only_mark}
use Rattle.entities.specs.declared.nodes.Tables.{Tables}
use Rattle.listing.proofs.Rises.{program_is_now}
use Rattle.listing.proofs.Unique.{program_is, sound_from}
use Rattle.listing.specs.Lawful.{AllWellNumbered, Represents, Sound, program_of}

abbrev pub empty_tables : Bool → Tables
empty_tables c = record { blocks = replicate 256 (only_mark c); insts = replicate 1024 no_inst; ends = record { first = None; last = None } }

blank : {N A : Type 0} (link : N → Option A) (x : N) → link x ≡ None → (n i : ℕ) → read_at link (replicate n x) i ≡ None
blank link x e zero i = refl
blank link x e (suc n) zero = e
blank link x e (suc n) (suc i) = blank link x e n i

map-replicate : {A B : Type 0} (f : A → B) (n : ℕ) (x : A) → map f (replicate n x) ≡ replicate n (f x)
map-replicate f zero x = refl
map-replicate f (suc n) x = ap (λ r. f x ∷ r) (map-replicate f n x)

empty_represents : (c : Bool) → Represents (empty_tables c) []
empty_represents c = record {
  blocks = record { first = refl; last = refl; linked = tt; distinct = tt; within = tt };
  lines = tt;
  bare_blocks = λ b m. record { prev = blank block_links.prev_of (only_mark c) refl 256 b.0; next = blank block_links.next_of (only_mark c) refl 256 b.0; first = blank first_of (only_mark c) refl 256 b.0; last = blank last_of (only_mark c) refl 256 b.0 };
  bare_insts = λ i m. record { block = blank block_named no_inst refl 1024 i.0; prev = blank inst_links.prev_of no_inst refl 1024 i.0; next = blank inst_links.next_of no_inst refl 1024 i.0 };
}

pub empty_sound : (c : Bool) → Sound (empty_tables c)
empty_sound c = ∣ record {
  wired = record { blocks_size = length-replicate 256 (only_mark c); insts_size = length-replicate 1024 no_inst; sound = sound_from (empty_represents c) };
  numbers = subst (λ q. AllWellNumbered q) (sym (program_is (empty_represents c))) tt;
} ∣₁

pub empty_program : (c : Bool) → program_of (empty_tables c) ≡ record { lines = []; cold = replicate 256 c }
empty_program c = program_is_now (empty_tables c) [] (replicate 256 c) (program_is (empty_represents c)) (map-replicate (λ n. n.cold) 256 (only_mark c))

-- tables that are found to be empty
pub emptied : (t : Tables) (c : Bool) → t ≡ empty_tables c → (Sound t) × (program_of t ≡ record { lines = []; cold = replicate 256 c })
emptied t c e = (subst (λ x. Sound x) (sym e) (empty_sound c), ap program_of e ∙ empty_program c)
