use Rattle.std.proofs.Common.{◌∙◌, ◌-◌, ap, ◌++◌, append_assoc, length, take, drop, rules}
use Rattle.zsim.proofs.Pieces.{take_more}
use Rattle.zsim.proofs.put.put_all.Goals as goal

pub loop-done-preserved : goal.loop-done-preserved
loop-done-preserved g c =
    let bytes = g.S.Sink.bytes in
    let text = c.args.text.now in
    let done = c.loop-done.done in
    let n = c.in_ok-done.field-0 in
    let piece = take (length text - done) (drop done text) in
    record {
      within = search rules;
      gained = λ is_seen.
          c.in_ok-done.ensures.appended is_seen
          ∙ ap (λ before. before ++ take n piece) (c.loop-done.invariant.gained is_seen)
          ∙ append_assoc (bytes c.args.sink.now) (take done text) (take n piece)
          ∙ ap (λ all. bytes c.args.sink.now ++ all) (take_more done n text);
      faults = c.in_ok-done.ensures.faults ∙ c.loop-done.invariant.faults;
    }
