-- The words fit where no fault is found, and then the matches are those that are defined.
use Rattle.std.proofs.Common.{Some, ap}
use Rattle.std.proofs.lemmas.Bool.{and_parts}
use Rattle.zsim.proofs.options.matched_by.Goals as goal

pub returns-in-Ok : goal.returns-in-Ok
returns-in-Ok c =
    let fault = c.in-Ok.ensures.kinds c.requires in
    let rows = (c.in-Ok.ensures.matches (and_parts _ _ c.requires).0).0 in
    rw fault (ap Some rows)
