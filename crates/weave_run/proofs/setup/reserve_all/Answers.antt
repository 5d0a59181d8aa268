-- Each room is as large as the parts of the plan ask.
use Rattle.std.proofs.Common.{◌≡◌, length, ◌∙◌, ap, arith}
use Rattle.domain_map.specs.Domains.{Partition}
use Rattle.weave_run.proofs.setup.reserve_all.Goals as goal

pub of-requires-clause-few : goal.of-requires-clause-few
of-requires-clause-few g c = omega (arith, ap length c.crossings.ensures, c.requires.fits.few_crossings)

pub returns : goal.returns
returns g c =
    let parts = c.args.plan.now.parts.value in
    let domains : c.domains-domains.result ≡ length parts.events = c.domains-domains.ensures.count ∙ ap (λ (p : Partition). length p.events) c.requires.parts in
    let places : length c.places.result.now ≡ length parts.places = ap length (c.places.ensures ∙ ap (λ (p : Partition). p.places) c.requires.parts) in
    let crossings : c.crossings.result.now ≡ parts.crossings = c.crossings.ensures ∙ ap (λ (p : Partition). p.crossings) c.requires.parts in
    let events : length c.events-events.result.now ≡ length c.args.plan.now.graph.value = ap length (c.events-events.ensures.events ∙ c.requires.graph) in
    record {
      rooms = rw (← domains, ← places) c.in_ok-rooms.ensures;
      domains = (c.in_ok-with_capacity.ensures.items, omega (arith, c.in_ok-with_capacity.ensures.capacity, c.from.ensures, domains));
      outgoing = rw (← events, ← crossings, c.in_ok-outgoing.ensures.ok) c.in_ok-of.ensures;
      times = omega (arith, c.in_ok-vec.ensures.len, c.in_ok-vec.field-0.ok, events);
      lists = (c.in_ok-with_capacity-2.ensures.items, omega (arith, c.in_ok-with_capacity-2.ensures.capacity, c.from-2.ensures, domains));
      team = c.in_ok-team.ensures;
    }
