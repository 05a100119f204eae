use Rattle.std.proofs.Common.{◌≡◌, Some, rules, true}
use Rattle.cursor_edits.proofs.Places.{stale_refused, standing_in_range}
use Rattle.cursor_edits.proofs.ensure_open.Goals as goal
use Rattle.cursor_edits.specs.Places.{place_in_range, put_asked}
use Rattle.cursor_faults.specs.Refusals.{cursor_refusal_of}
use Rattle.faults.specs.Questions.{first_no}
use Rattle.layout.specs.Program.{program}

pub returns : goal.returns
returns c =
    let ranged : place_in_range c.args.at ≡ true = standing_in_range c.args.layout.now c.args.at c.in_ok-ensure_standing.ensures.1 in
    search rules

pub returns-in_err-ensure_standing : goal.returns-in_err-ensure_standing
returns-in_err-ensure_standing c =
    let told : first_no (put_asked c.args.pp c.args.at (program c.args.layout.now)) ≡ Some (cursor_refusal_of c.in_err-ensure_standing.field-0.0) =
    stale_refused c.args.pp c.args.at (program c.args.layout.now) (cursor_refusal_of c.in_err-ensure_standing.field-0.0) c.in_ok-ensure_in_range.ensures.0 c.in_err-ensure_standing.ensures
    in
    search rules
