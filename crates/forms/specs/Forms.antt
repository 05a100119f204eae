-- A call as it is written: its name, and its arguments. Assumes nothing.
use Rattle.std.specs.Prelude.{ℕ, List, ◌∷◌}
use Rattle.forms.specs.declared.Form.{Form as Written}
use Rattle.forms.specs.declared.Arg.{Arg}
use Rattle.forms.specs.declared.Args.{Args}
use Rattle.forms.specs.declared.Args.TheVariants as args
use Rattle.forms.specs.Args.{args_words}

pub record Form : Type 0 where
  pub name : List ℕ
  pub args : Args

-- what is written, by its text
abbrev pub form_of : Written → Form
form_of f = record { name = f.name.now; args = f.args }

abbrev pub form_words : Form → List (List ℕ)
form_words f = f.name ∷ args_words f.args

-- with so many arguments
abbrev pub bare : List ℕ → Form
bare n = record { name = n; args = args.None }

abbrev pub one : List ℕ → Arg → Form
one n a = record { name = n; args = args.One a }

abbrev pub two : List ℕ → Arg → Arg → Form
two n a b = record { name = n; args = args.Two a b }
