-- The node tables of a listing, emptied in place or with a mark set, and what they then stand for. Assumes nothing.
use Rattle.std.proofs.Common.{◌≡◌, ℕ, Bool, [], length, get_or, replicate, set, None, refl, ap}
use Rattle.chain.proofs.Writes.{written}
use Rattle.entities.specs.Nodes.{marks, no_block, no_inst, only_mark}
use Rattle.entities.specs.declared.nodes.Tables.{Tables}
use Rattle.listing.proofs.Landed.{all_unlinked}
use Rattle.listing.proofs.Marks.{cold_marked, marked}
use Rattle.listing.specs.Edits.{with_blocks}
use Rattle.listing.specs.Lawful.{Sound, listed, program_of}
use Rattle.listing.specs.declared.Listing.{Listing}

-- nodes that hold nothing but the mark c
abbrev pub emptied : Tables → Bool → Tables
emptied t c = record { blocks = replicate (length t.blocks) (only_mark c); insts = replicate (length t.insts) no_inst; ends = record { first = None; last = None } }

module _ (l : Listing) where
  module _ (c : Bool) where
    pub emptied_sound : Sound (emptied l.tables c)
    emptied_sound = (all_unlinked l.tables (only_mark c) _ _ l.sound refl refl refl).0

    pub emptied_program : program_of (emptied l.tables c) ≡ record { lines = []; cold = replicate 256 c }
    emptied_program = (all_unlinked l.tables (only_mark c) _ _ l.sound refl refl refl).1

  -- the mark of the node at i becomes c
  module _ (i : ℕ) (c : Bool) where
    abbrev pub cold_set : Tables
    cold_set = with_blocks l.tables (set l.tables.blocks i (marked c (get_or l.tables.blocks i no_block)))

    both : (Sound cold_set) × (program_of cold_set ≡ record { lines = listed l.tables; cold = set (marks l.tables.blocks) i c })
    both = cold_marked l.tables cold_set (record { 0 = i }) c l.sound (ap (with_blocks l.tables) (written _ _ _ _ _ _ (marked c) refl refl refl))

    pub cold_set_sound : Sound cold_set
    cold_set_sound = both.0

    pub cold_set_program : program_of cold_set ≡ record { lines = listed l.tables; cold = set (marks l.tables.blocks) i c }
    cold_set_program = both.1

-- what a search for an edit is told
pub ruleset edited = (emptied_sound, emptied_program, cold_set_sound, cold_set_program)
