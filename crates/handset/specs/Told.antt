-- What the words behind the program's name tell it to do. Assumes nothing.
use Rattle.std.specs.Prelude.{◌≡◌, ℕ, List, [], ◌∷◌, codes, Option}
use Rattle.std.specs.declared.process.ExitCode.{ExitCode}
use Rattle.subcommands.specs.Obeyed.{Obeys}
use Rattle.subcommands.specs.declared.Subcommand.{Subcommand}
use Rattle.subcommands.specs.declared.Subcommand.TheVariants as subcommand

-- the words tell this subcommand, on the texts that are read of the files that they name
module _ (Reads : (file text : List ℕ) → Type 0) where
  abbrev pub Tells : (words : List (List ℕ)) → Subcommand → Type 0
  Tells words subcommand.Example = words ≡ []
  Tells words (subcommand.Run text) = (file : List ℕ) × (words ≡ codes "run" ∷ file ∷ []) × Reads file text.now
  Tells words (subcommand.Tables text) = (file : List ℕ) × (words ≡ codes "run" ∷ file ∷ codes "--tables" ∷ []) × Reads file text.now
  Tells words (subcommand.Compare one other) = (first : List ℕ) × (second : List ℕ) × (words ≡ codes "compare" ∷ first ∷ second ∷ []) × Reads first one.now × Reads second other.now
  Tells words (subcommand.Audit text) = (file : List ℕ) × (words ≡ codes "audit" ∷ file ∷ []) × Reads file text.now
  Tells words subcommand.Help = words ≡ codes "help" ∷ []

  -- the subcommand that the words tell is done
  pub record Told (words : List (List ℕ)) (old new : Option (List ℕ)) (status : ExitCode) : Type 0 where
    pub subcommand : Subcommand
    pub tells : Tells words subcommand
    pub obeys : Obeys subcommand old new status
