use Rattle.std.proofs.Common.{◌≡◌, ◌+◌, ◌++◌, ◌∙◌, List, length, map, ap, arith, subst, sym}
use Rattle.std.specs.List.{range_with_len}
use Rattle.std.proofs.lemmas.List.{length-append}
use Rattle.std.proofs.lemmas.List.FromFn.{length-map-range_with_len}
use Rattle.machine_desc.specs.Components.{links_of}
use Rattle.machine_desc.specs.ComponentDomains.{domain_of_link}
use Rattle.component.specs.declared.comp.Comp.{Comp}
use Rattle.component.specs.Serving.{comp_latency, comp_serves}
use Rattle.event_graph.specs.Fits.{GraphFits}
use Rattle.run.proofs.firing.fire_by_domains.Goals as goal

pub weave_by-requires-clause-partitioned : goal.weave_by-requires-clause-partitioned
weave_by-requires-clause-partitioned g c κs within =
    let machine = c.args.machine.now in
    let split = c.in_ok-parts.ensures in
    let banks = machine.domains.banks in
    let controllers = machine.domains.controllers in
    let links = map (domain_of_link machine) (range_with_len 0 (links_of machine)) in
    let listed : length c.in_ok-parts.parts.places ≡ length banks + length controllers + links_of machine =
    ap length split.places
    ∙ omega (arith, length-append banks controllers, length-append (banks ++ controllers) links, length-map-range_with_len (domain_of_link machine) 0 (links_of machine))
    in
    record {
      numbered = c.events-numbered.ensures.numbered;
      fits = subst (λ (comps : List Comp). GraphFits comp_serves comp_latency c.args.graph.now comps) (sym c.replace-own.ensures.value) c.requires.fits;
      partitions = split.partitions;
      places = omega (arith, listed, c.requires.machine.domains.banks_length, c.requires.machine.domains.controllers_length, c.requires.components.count, ap length c.replace-own.ensures.value);
    }
