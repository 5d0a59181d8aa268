-- A domain of what was laid out.
use Rattle.std.proofs.Common.{◌≡◌, ◌<◌, ℕ, Bool, List, [], length, map, get_or, Some, slice_get, sym, ◌∙◌, ap, subst, arith}
use Rattle.std.proofs.lemmas.Option.{slice_get-get_or}
use Rattle.component.specs.declared.kind.Kind.{Kind}
use Rattle.event_graph.specs.declared.event.Event.{Event}
use Rattle.event_graph.specs.declared.fired.Fired.{Fired}
use Rattle.event_graph.specs.Fits.{EventFits}
use Rattle.event_graph.specs.Numbered.{IsNumbered}
use Rattle.domain_map.specs.Domains.{Partition, IsPartition}
use Rattle.weave_core.specs.declared.prepare.Layout.{Layout as Kept}
use Rattle.weave_core.specs.DomainCalls.{IsFitted, comps_in}
use Rattle.weave_core.specs.Exits.{AreExits}
use Rattle.weave_core.specs.LaidOut.{IsLaidOut}
use Rattle.weave_core.specs.Layout.{AreHere, AreStubs, HaveComponents, Stands, known_words, place_in, timed_from}
use Rattle.weave_core.proofs.Lists.{get_below}
use Rattle.weave_core.proofs.Looked.{stands_alike}
use Rattle.weave_core.proofs.OwnPlaces.{spot_there}

-- what is true of a domain, over its graph and its partition
pub record IsBegun {C : Type 0} (serves : C → Kind → Bool) (domain : ℕ) (l : Kept) (comps : List C) (events : List Event) (p : Partition) : Type 0 where
  pub numbered : IsNumbered events
  pub partitions : IsPartition events p
  pub here : AreHere events p domain l.here.items
  pub stubs : AreStubs events p domain l.here.items l.incoming.stubs
  pub exits : AreExits l.here.items p.crossings domain (length p.crossings) l.exits.numbers.items l.exits.parents.items
  pub stands : Stands events p domain (record { fired = map (timed_from events) l.fired.items; known = known_words p.crossings l.incoming.stubs; floor = l.incoming.floor }) l.here.items l.incoming.stubs l.waiting
  pub served : HaveComponents serves p domain l.here.items l.own_places.items comps

served_by : {C : Type 0} (serves : C → Kind → Bool) (floor : C → Kind → ℕ) (events : List Event) (p : Partition) (domain : ℕ) (l : Kept) (comps all : List C)
    → IsLaidOut events p domain l → IsFitted serves floor events p domain comps all → HaveComponents serves p domain l.here.items l.own_places.items comps
served_by {C} serves floor events p domain l comps all laid fits = record {
  own_place = λ place e h. laid.own_places.each e.component (below place e h);
  serving = λ place e h.
      let f : EventFits serves floor all e = fits.fits e.number e (laid.here.each place e h).0 in
      let at : slice_get (comps_in p.places domain all) (place_in p.places domain e.component) ≡ Some f.component =
      spot_there p.places domain all e.component (get_or p.places e.component 0) f.component (slice_get-get_or p.places e.component 0 (below place e h)) (laid.here.each place e h).1 f.there
      in
      (f.component, (ap (λ (cs : List C). slice_get cs (place_in p.places domain e.component)) fits.comps_are ∙ at, f.served));
}
  where
    below : (place : ℕ) (e : Event) → slice_get l.here.items place ≡ Some e → e.component < length p.places
    below place e h =
        let f : EventFits serves floor all e = fits.fits e.number e (laid.here.each place e h).0 in
        omega (arith, get_below all e.component f.component f.there, fits.count)

pub begun : {C : Type 0} (serves : C → Kind → Bool) (floor : C → Kind → ℕ) (events : List Event) (p : Partition) (domain : ℕ) (l : Kept) (comps all : List C)
    → IsNumbered events → IsPartition events p → IsLaidOut events p domain l → IsFitted serves floor events p domain comps all → IsBegun serves domain l comps events p
begun serves floor events p domain l comps all numbered partitions laid fits = record {
  numbered = numbered;
  partitions = partitions;
  here = laid.here;
  stubs = laid.stubs;
  exits = laid.exits;
  stands =
      subst (λ (xs : List Fired). Stands events p domain (record { fired = map (timed_from events) xs; known = known_words p.crossings l.incoming.stubs; floor = l.incoming.floor }) l.here.items l.incoming.stubs l.waiting) (sym laid.fired)
      (stands_alike events p domain l.here.items l.incoming.stubs l.waiting [] _ (known_words p.crossings l.incoming.stubs) 0 l.incoming.floor laid.stands);
  served = served_by serves floor events p domain l comps all laid fits;
}
