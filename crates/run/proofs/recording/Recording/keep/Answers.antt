-- A file that would be too long is let go of, and one that is not takes the interval.
use Rattle.std.proofs.Common.{◌≡◌, List, false, length, sym, ap, ◌∙◌, true}
use Rattle.event_graph.specs.declared.event.Event.{Event}
use Rattle.run.specs.Recording.{stays_short}
use Rattle.run.proofs.Recordings.{kept, let_go}
use Rattle.run.proofs.recording.Recording.keep.Goals as goal

pub returns-then-not-stays_short-clause-added : goal.returns-then-not-stays_short-clause-added
returns-then-not-stays_short-clause-added c machine intervals i events fired recorded =
    let long : stays_short c.args.self.now (length c.args.graph.now) ≡ false =
    ap (λ (graph : List Event). stays_short c.args.self.now (length graph)) (sym c.events.ensures.events) ∙ sym c.stays_short.ensures ∙ c.if-not-stays_short.true
    in
    let_go c.files_have_this_length.ensures machine intervals i c.args.graph.now c.args.fired.now events fired c.requires.fired c.args.self.now long recorded

pub returns-in_ok-add-clause-added : goal.returns-in_ok-add-clause-added
returns-in_ok-add-clause-added c machine intervals i events fired recorded =
    let short : stays_short c.args.self.now (length c.args.graph.now) ≡ true =
    ap (λ (graph : List Event). stays_short c.args.self.now (length graph)) (sym c.events.ensures.events) ∙ sym c.stays_short.ensures ∙ c.if-not-stays_short.false
    in
    kept c.files_have_this_length.ensures machine intervals i c.args.graph.now c.args.fired.now events fired c.requires.fired c.args.self.now c.in-On.file c.add.new.self c.in-On.is short
    c.in_ok-add.ensures.ok recorded
