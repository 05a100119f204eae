-- The map finds the names that were there and the new one. Assumes nothing.
use Rattle.std.proofs.Common.{◌≡◌, length, sym, ◌∙◌, None}
use Rattle.words.specs.Words.{texts}
use Rattle.script.specs.Names.{place_of}
use Rattle.script.proofs.Places.{indexed, texts_push, length-texts}
use Rattle.script.proofs.names.Names.push.Goals as goal

pub invariant_of-self-2 : goal.invariant_of-self-2
invariant_of-self-2 c =
    let order = c.self.inside.order.items in
    let free : place_of c.args.name.now (texts order) ≡ None = rw c.self.view_is c.requires in
    let last : c.len-index.result ≡ length (texts order) = c.len-index.ensures ∙ (c.self.inside.order.ok.0 ∙ sym (length-texts order)) in
    rw (c.push_reserved.ensures.items, c.reserve.ensures.items, texts_push order c.args.name)
    (indexed (texts order) c.args.name.now free c.self.inside.places c.insert.new.self c.len-index.result last c.in_ok-insert.ensures.updates c.self.invariant)
