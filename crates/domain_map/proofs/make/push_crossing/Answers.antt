-- The crossing is that of its parent, where the two domains differ.
use Rattle.std.proofs.Common.{◌≡◌, ◌≢◌, ℕ, List, [], ◌∷◌, ◌++◌, Some, false, eqb, refl, sym, ◌∙◌, ap, arith}
use Rattle.std.proofs.lemmas.Bool.Decides.{nat_tests}
use Rattle.event_graph.specs.declared.event.Event.{Event}
use Rattle.event_graph.specs.declared.event.Parent.{Parent}
use Rattle.domain_map.specs.declared.crossing.Crossing.{Crossing}
use Rattle.domain_map.specs.Domains.{crossing_from, domain_of_event, domain_of_number}
use Rattle.domain_map.proofs.make.push_crossing.Goals as goal

crosses : (places : List ℕ) (events : List Event) (e : Event) (p : Parent) (x : Crossing)
    → x ≡ record { parent = p.number; child = e.number; source = domain_of_number places events p.number; target = domain_of_event places e; delay = p.delay }
    → domain_of_number places events p.number ≢ domain_of_event places e → crossing_from places events e (Some p) ≡ x ∷ []
crosses places events e p x is apart =
    let differ : eqb (domain_of_number places events p.number) (domain_of_event places e) ≡ false = grind (arith, nat_tests) in
    rw (differ, is) refl

pub returns-in_ok-push : goal.returns-in_ok-push
returns-in_ok-push c =
    let places = c.args.places.now in
    let events = c.args.events.now in
    let event = c.args.event.now in
    c.in_ok-push.ensures.items
    ∙ ap (λ (xs : List Crossing). c.args.crossings.now.items ++ xs)
    (sym (ap (crossing_from places events event) c.in-Some.is ∙ crosses places events event c.in-Some.parent _ (cc) (λ same. omega arith)))
