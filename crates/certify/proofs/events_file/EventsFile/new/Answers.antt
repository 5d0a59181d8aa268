use Rattle.std.proofs.Common.{ℕ, List, ap}
use Rattle.certify.specs.SoFar.{EventsSoFar}
use Rattle.certify.proofs.Headers.{is_new}
use Rattle.certify.proofs.events_file.EventsFile.new.Goals as goal

pub invariant_of-result : goal.invariant_of-result
invariant_of-result c = (is_new c.args.components c.in_ok-bytes.bytes.items c.in_ok-bytes.ensures).header

pub returns : goal.returns
returns c =
    let file = λ (body : List ℕ). let s : EventsSoFar = record { components = c.args.components; count = 0; body = body } in s in
    ap file (is_new c.args.components c.in_ok-bytes.bytes.items c.in_ok-bytes.ensures).body
