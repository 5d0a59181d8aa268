use Rattle.std.proofs.Common.{◌≡◌, ◌∙◌, ◌+◌, ◌<◌, ◌++◌, ◌∷◌, [], ℕ, List, Some, length, map, take, ap, sym, arith}
use Rattle.std.specs.List.{range_with_len, slice_get}
use Rattle.std.proofs.lemmas.List.{length-append, take_more, take_all}
use Rattle.std.proofs.lemmas.List.Elements.{All-push}
use Rattle.std.proofs.lemmas.List.FromFn.{length-map-range_with_len}
use Rattle.std.proofs.lemmas.Option.{get_or_from_slice_get, slice_get_within}
use Rattle.machine_desc.specs.Components.{component_count, links_of}
use Rattle.machine_desc.specs.ComponentDomains.{component_domains, domain_of_link}
use Rattle.machine_desc.specs.declared.machine.Machine.{Machine}
use Rattle.machine_desc.specs.Machine.{IsMachine}
use Rattle.domain_map.proofs.make.component_domains.Goals as goal

-- as many are listed as there are components
long : (m : Machine) → IsMachine m → length (component_domains m) ≡ component_count m
long m is =
    let links = map (domain_of_link m) (range_with_len 0 (links_of m)) in
    omega (
      arith,
      is.domains.banks_length,
      is.domains.controllers_length,
      length-append m.domains.banks m.domains.controllers,
      length-append (m.domains.banks ++ m.domains.controllers) links,
      length-map-range_with_len (domain_of_link m) 0 (links_of m),
    )

-- the next of a list, behind those before it
next_listed : (xs : List ℕ) (i x : ℕ) → slice_get xs i ≡ Some x → take i xs ++ x ∷ [] ≡ take (i + 1) xs
next_listed xs i x is =
    ap (λ (y : ℕ). take i xs ++ y ∷ []) (sym (get_or_from_slice_get xs i x 0 is)) ∙ sym (take_more xs i 0 (slice_get_within xs i x is))

pub loop-component-preserved : goal.loop-component-preserved
loop-component-preserved c =
    let machine = c.args.machine.now in
    let places : List ℕ = c.loop-component.places.items in
    let domain = c.domain_of.result in
    let so_far = c.loop-component.invariant in
    record {
      listed =
          c.in_ok-push.ensures.items
          ∙ ap (λ (xs : List ℕ). xs ++ domain ∷ []) so_far.listed
          ∙ next_listed (component_domains machine) c.loop-component.component domain c.domain_of.ensures.listed;
      below = rw c.in_ok-push.ensures.items (All-push (λ d. d < machine.domains.count) places domain so_far.below c.domain_of.ensures.below);
    }

pub returns : goal.returns
returns c =
    let machine = c.args.machine.now in
    let so_far = c.loop-component.invariant in
    let all = long machine c.requires in
    let listed : c.loop-component.places.items ≡ component_domains machine =
    so_far.listed ∙ take_all c.loop-component.component (component_domains machine) (omega (arith, all))
    in
    record { listed = listed; count = ap length listed ∙ all; below = so_far.below }
