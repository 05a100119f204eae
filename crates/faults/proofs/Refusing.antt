-- A call that the first no refuses goes by its rule, whatever that is. Assumes nothing.
use Rattle.std.proofs.Common.{◌≡◌, ℕ, Some, Err, Option, sym, ap}
use Rattle.entities.specs.Program.{Program}
use Rattle.faults.specs.declared.LayoutFault.{LayoutFault}
use Rattle.faults.specs.Refusals.{Refusal, refusal_of}
use Rattle.faults.specs.Rules.{Follows, ruled}

pub refused_by : (o : Option Refusal) (f : LayoutFault) (writes : ℕ) (new old : Program) → o ≡ Some (refusal_of f) → Follows (ruled o writes new old) (Err f) old
refused_by o f writes new old e = record {
  answer = sym (ap (λ q. (ruled q writes new old).answer) e);
  program = sym (ap (λ q. (ruled q writes new old).after) e);
}
