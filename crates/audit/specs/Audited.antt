-- What an audit answers. Assumes nothing.
use Rattle.std.specs.Prelude.{◌≡◌, ◌≤◌, length, Ok, Err, Result}
use Rattle.entities.specs.declared.nodes.Tables.{Tables}
use Rattle.verdicts.specs.declared.AuditFault.{AuditFault}
use Rattle.verdicts.specs.declared.AuditFault.TheVariants.{TooManyNodes}
use Rattle.verdicts.specs.declared.Verdict.{Verdict}
use Rattle.verdicts.specs.declared.Verdict.TheVariants.{Lawful, Broken}
use Rattle.audit_rules.specs.Breaches.{FirstBroken}
use Rattle.audit_rules.specs.Rules.{AllRules}

-- the verdict by the rules: lawful where all five hold, and else the first that is broken, with the first at fault
abbrev pub IsVerdict : Tables → Verdict → Type 0
IsVerdict t Lawful = AllRules t
IsVerdict t (Broken x) = FirstBroken t x

-- the rules give v, and no other verdict
pub record OnlyVerdict (t : Tables) (v : Verdict) : Type 0 where
  pub given : IsVerdict t v
  pub only : (w : Verdict) → IsVerdict t w → w ≡ v

-- no more nodes than a layout keeps
pub record Fits (t : Tables) : Type 0 where
  pub blocks : length t.blocks ≤ 256
  pub insts : length t.insts ≤ 1024

-- of tables that fit, the one verdict that the rules give; all others are refused
abbrev pub Audited : Tables → Result Verdict AuditFault → Type 0
Audited t (Ok v) = Fits t × OnlyVerdict t v
Audited t (Err f) = (Fits t → ⊥) × (f ≡ TooManyNodes)
