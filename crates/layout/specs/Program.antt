-- The program that a layout holds, and its tables. Assumes nothing.
use Rattle.entities.specs.Program.{Program}
use Rattle.entities.specs.declared.nodes.Tables.{Tables}
use Rattle.listing.specs.Lawful.{program_of}
use Rattle.layout.specs.declared.Layout.{Layout}

abbrev pub program : Layout → Program
program l = program_of l.listing.tables

-- the two node tables and the ends of the chain of blocks
abbrev pub tables : Layout → Tables
tables l = l.listing.tables
