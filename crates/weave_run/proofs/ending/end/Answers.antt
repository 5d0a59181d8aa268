-- All events have fired, and each component comes back to its place.
use Rattle.std.proofs.Common.{◌≡◌, length, ◌∙◌, ap, arith}
use Rattle.event_graph.specs.OneListWeave.{comps_after}
use Rattle.domain_map.specs.Domains.{Partition}
use Rattle.weave_run.proofs.Seatings.{seats_of_team}
use Rattle.weave_run.proofs.Wovens.{at_end, lent}
use Rattle.weave_run.proofs.ending.end.Goals as goal

pub gather-comps-requires-clause-there : goal.gather-comps-requires-clause-there
gather-comps-requires-clause-there g c =
    (at_end g.C.Component.serves g.C.Component.floor g.C.Component.stepped g.C.Component.greatest c.domains_keep_to_the_weave.ensures c.args.plan.now c.requires.can c.args.prepared.domains.items c.requires.left.kept
    c.requires.left.all c.finish_all-lists.result.items
    c.finish_all-lists.ensures.lists
    (λ n. c.components_serve_their_own_events.ensures c.args.plan.now.graph.value c.args.plan.now.comps.value (length c.args.plan.now.graph.value) n c.requires.can.partitioned.numbered c.requires.can.partitioned.fits)
    c.places.result.now c.as_mut_slice-2.result.now (c.places.ensures ∙ ap (λ (q : Partition). q.places) c.requires.parts) c.as_mut_slice-2.ensures.value).there

pub gather-comps-requires-clause-dealing : goal.gather-comps-requires-clause-dealing
gather-comps-requires-clause-dealing g c =
    let e = at_end g.C.Component.serves g.C.Component.floor g.C.Component.stepped g.C.Component.greatest c.domains_keep_to_the_weave.ensures c.args.plan.now c.requires.can c.args.prepared.domains.items c.requires.left.kept
    c.requires.left.all c.finish_all-lists.result.items
    c.finish_all-lists.ensures.lists
    (λ n. c.components_serve_their_own_events.ensures c.args.plan.now.graph.value c.args.plan.now.comps.value (length c.args.plan.now.graph.value) n c.requires.can.partitioned.numbered c.requires.can.partitioned.fits)
    c.places.result.now c.as_mut_slice-2.result.now (c.places.ensures ∙ ap (λ (q : Partition). q.places) c.requires.parts) c.as_mut_slice-2.ensures.value in
    record { comps = comps_after g.C.Component.stepped c.args.plan.now.graph.value c.args.plan.now.comps.value; count = e.count; dealt = e.dealt }

pub returns : goal.returns
returns g c =
    let times_len : c.args.prepared.times.len ≡ length c.fill_all.new.times =
    (let a = c.args.prepared.times.ok in let b = c.fill_all.auto.times in let d = ap length c.as_mut_slice.ensures.value in omega (arith, a, b, d))
    in
    let e = at_end g.C.Component.serves g.C.Component.floor g.C.Component.stepped g.C.Component.greatest c.domains_keep_to_the_weave.ensures c.args.plan.now c.requires.can c.args.prepared.domains.items c.requires.left.kept
    c.requires.left.all c.finish_all-lists.result.items
    c.finish_all-lists.ensures.lists
    (λ n. c.components_serve_their_own_events.ensures c.args.plan.now.graph.value c.args.plan.now.comps.value (length c.args.plan.now.graph.value) n c.requires.can.partitioned.numbered c.requires.can.partitioned.fits)
    c.places.result.now c.as_mut_slice-2.result.now (c.places.ensures ∙ ap (λ (q : Partition). q.places) c.requires.parts) c.as_mut_slice-2.ensures.value in
    record {
      fired_is = c.of.ensures ∙ (lent c.args.prepared.times.len c.fill_all.new.times _ times_len ∙ c.fill_all.ensures);
      comps_are = c.gather-comps.ensures (comps_after g.C.Component.stepped c.args.plan.now.graph.value c.args.plan.now.comps.value) e.count e.dealt;
      rounds_are = c.requires.rounds;
    }

pub close-requires : goal.close-requires
close-requires g c = seats_of_team g.C.Component.stepped c.args.plan.now c.args.prepared.domains.items c.args.prepared.team c.in-Some.team c.requires.left.team c.in-Some.is
