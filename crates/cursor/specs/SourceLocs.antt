-- The source location that says nothing. Assumes nothing.
use Rattle.cursor.specs.declared.sourceloc.SourceLoc.{SourceLoc}

-- all ones
abbrev pub no_location : SourceLoc
no_location = record { 0 = 0xffff_ffff }
