use Rattle.std.proofs.Common.{◌≡◌, ◌≤◌, ◌+◌, ◌++◌, ℕ, List, length, take, drop, ap, ◌∙◌, arith, length-append}
use Rattle.std.proofs.lemmas.List.{with_items_is}
use Rattle.byteorder.specs.Endian.{little_bytes}
use Rattle.event_graph.specs.declared.event.Event.{Event}
use Rattle.event_graph.specs.declared.fired.Fired.{Fired}
use Rattle.certify.specs.EventsFile.{interval_bytes, with_times}
use Rattle.certify.specs.SoFar.{EventsSoFar}
use Rattle.certify.proofs.Headers.{is_grown, long_enough}
use Rattle.certify.proofs.events_file.EventsFile.add.Goals as goal

pub put_count-requires : goal.put_count-requires
put_count-requires c =
    let before : List ℕ = c.self.inside.bytes.items in
    let added = interval_bytes (with_times c.events-events.result.now c.as_slice.result.now) in
    let long : 16 ≤ length before = long_enough c.self.inside.components c.self.inside.intervals before c.self.invariant in
    let more = ap length (c.deref_mut.ensures.value ∙ (c.put_interval.ensures ∙ ap (λ (bytes : List ℕ). bytes ++ added) c.in_ok-reserve.ensures.items)) in
    omega (arith, long, more, length-append before added)

pub invariant_of-self-2 : goal.invariant_of-self-2
invariant_of-self-2 c =
    let before : List ℕ = c.self.inside.bytes.items in
    let added = interval_bytes (with_times c.events-events.result.now c.as_slice.result.now) in
    let grown = c.put_interval.new.out in
    let more : grown.items ≡ before ++ added = c.put_interval.ensures ∙ ap (λ (bytes : List ℕ). bytes ++ added) c.in_ok-reserve.ensures.items in
    let counts : c.put_count.new.bytes ≡ take 12 grown.items ++ (little_bytes 4 (c.self.inside.intervals + 1) ++ drop 16 grown.items) =
    c.put_count.ensures ∙ ap (λ (bytes : List ℕ). take 12 bytes ++ (little_bytes 4 (c.self.inside.intervals + 1) ++ drop 16 bytes)) c.deref_mut.ensures.value in
    let long : length c.put_count.new.bytes ≡ grown.len = omega (arith, c.put_count.auto.bytes, ap length c.deref_mut.ensures.value, grown.ok.0) in
    ap (take 16) (with_items_is grown c.put_count.new.bytes long)
    ∙ (is_grown c.self.inside.components c.self.inside.intervals before added grown.items c.put_count.new.bytes c.self.invariant more counts).header

pub returns-clause-ok : goal.returns-clause-ok
returns-clause-ok c =
    let before : List ℕ = c.self.inside.bytes.items in
    let added = interval_bytes (with_times c.events-events.result.now c.as_slice.result.now) in
    let asked = interval_bytes (with_times c.args.graph.now c.args.fired.now) in
    let grown = c.put_interval.new.out in
    let more : grown.items ≡ before ++ added = c.put_interval.ensures ∙ ap (λ (bytes : List ℕ). bytes ++ added) c.in_ok-reserve.ensures.items in
    let counts : c.put_count.new.bytes ≡ take 12 grown.items ++ (little_bytes 4 (c.self.inside.intervals + 1) ++ drop 16 grown.items) =
    c.put_count.ensures ∙ ap (λ (bytes : List ℕ). take 12 bytes ++ (little_bytes 4 (c.self.inside.intervals + 1) ++ drop 16 bytes)) c.deref_mut.ensures.value in
    let long : length c.put_count.new.bytes ≡ grown.len = omega (arith, c.put_count.auto.bytes, ap length c.deref_mut.ensures.value, grown.ok.0) in
    let same : added ≡ asked =
    ap (λ (es : List Event). interval_bytes (with_times es c.as_slice.result.now)) c.events-events.ensures.events
    ∙ ap (λ (fs : List Fired). interval_bytes (with_times c.args.graph.now fs)) c.as_slice.ensures in
    let file = λ (body : List ℕ). let s : EventsSoFar = record { components = c.self.inside.components; count = c.self.inside.intervals + 1; body = body } in s in
    let grow = λ (s : EventsSoFar). let t : EventsSoFar = record { components = s.components; count = s.count + 1; body = s.body ++ asked } in t in
    ap file (ap (drop 16) (with_items_is grown c.put_count.new.bytes long)
    ∙ ((is_grown c.self.inside.components c.self.inside.intervals before added grown.items c.put_count.new.bytes c.self.invariant more counts).body
    ∙ ap (λ (bytes : List ℕ). drop 16 before ++ bytes) same))
    ∙ ap grow c.self.view_is
