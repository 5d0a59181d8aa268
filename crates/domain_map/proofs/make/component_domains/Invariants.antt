use Rattle.std.proofs.Common.{◌≡◌, ◌<◌, take}
use Rattle.std.specs.List.{All}
use Rattle.machine_desc.specs.ComponentDomains.{component_domains}
use Rattle.domain_map.proofs.make.component_domains.Given as goal

abbrev pub invariant-loop-component : goal.invariant-loop-component
invariant-loop-component l = record {
  listed : l.places.items ≡ take l.component (component_domains l.machine);
  below : All (λ domain. domain < l.machine.domains.count) l.places.items;
}
