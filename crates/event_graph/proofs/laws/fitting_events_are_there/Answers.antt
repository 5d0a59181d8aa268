use Rattle.std.proofs.lemmas.Option.{slice_get_within, slice_get-get_or}
use Rattle.event_graph.proofs.laws.fitting_events_are_there.Goals as goal

pub returns : goal.returns
returns g c = λ events comps fits k d below.
    let fit = fits k _ (slice_get-get_or events k d below) in
    slice_get_within comps _ fit.component fit.there
