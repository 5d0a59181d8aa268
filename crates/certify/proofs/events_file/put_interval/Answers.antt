use Rattle.std.proofs.Common.{◌≡◌, ◌<◌, ◌++◌, ℕ, List, length, take, ap, sym, ◌∙◌, append_assoc, arith}
use Rattle.std.specs.List.{flat_map}
use Rattle.std.proofs.lemmas.List.{take_all}
use Rattle.byteorder.specs.Endian.{little_bytes}
use Rattle.event_graph.specs.OneListWeave.{FiredEvent}
use Rattle.certify.specs.EventsFile.{record_bytes, with_times}
use Rattle.certify.proofs.Times.{record_put, times_length, written_on}
use Rattle.certify.proofs.events_file.put_interval.Goals as goal

pub loop-k-preserved : goal.loop-k-preserved
loop-k-preserved c =
    let events = c.args.events.now in
    let fired = c.args.fired.now in
    let k = c.loop-k.k in
    let within : k < length events = omega (arith, c.loop-k-test.true) in
    let long : length (with_times events fired) ≡ length events = times_length events fired c.requires.fired in
    let put = record_put events fired k _ _ c.loop-k.out.items c.put-in-loop-k.new.out.items c.record_of.result c.requires.fired within c.record_of.ensures c.put-in-loop-k.ensures.items in
    record {
      written = written_on (c.args.out.now.items ++ little_bytes 4 (length events)) c.loop-k.out.items c.put-in-loop-k.new.out.items (with_times events fired) k _
          (omega (arith, within, long)) c.loop-k.invariant.written put;
      len = omega (arith, c.put-in-loop-k.ensures.len, c.loop-k.invariant.len);
      room = omega (arith, c.put-in-loop-k.ensures.room, c.loop-k.invariant.room);
    }

pub returns : goal.returns
returns c =
    let events = c.args.events.now in
    let timed = with_times events c.args.fired.now in
    let before : List ℕ = c.args.out.now.items in
    let long : length timed ≡ length events = times_length events c.args.fired.now c.requires.fired in
    let all : take c.loop-k.k timed ≡ timed = take_all c.loop-k.k timed (omega (arith, long, c.loop-k-test.false)) in
    c.loop-k.invariant.written
    ∙ (ap (λ (ts : List FiredEvent). (before ++ little_bytes 4 (length events)) ++ flat_map record_bytes ts) all
    ∙ (append_assoc before (little_bytes 4 (length events)) (flat_map record_bytes timed)
    ∙ ap (λ (n : ℕ). before ++ (little_bytes 4 n ++ flat_map record_bytes timed)) (sym long)))
