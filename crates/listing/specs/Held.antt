-- The program that a listing holds. Assumes nothing.
use Rattle.entities.specs.Program.{Program}
use Rattle.listing.specs.Lawful.{program_of}
use Rattle.listing.specs.declared.Listing.{Listing}

abbrev pub program : Listing → Program
program l = program_of l.tables
