-- The finish of the first of two look-ups, by the one-list weave.
use Rattle.std.proofs.Common.{◌≡◌, ◌+◌, ℕ, zero, suc, List, [], ◌∷◌, length, Some, slice_get, max, map, ap, sym, ◌∙◌, subst, refl, arith}
use Rattle.std.proofs.lemmas.Option.{same_Some}
use Rattle.component.specs.declared.bank.Bank.{Bank}
use Rattle.component.specs.ComponentStep.{bank_latency, bank_step}
use Rattle.component.specs.Serving.{bank_serves}
use Rattle.event_graph.specs.declared.event.Event.{Event}
use Rattle.event_graph.specs.Fits.{EventFits, GraphFits}
use Rattle.event_graph.specs.OneListWeave.{after_firings, finish_in, fire_least, woven}
use Rattle.atomic_table.specs.Seated.{TableId}
use Rattle.domain_map.specs.Domains.{Partition}
use Rattle.domain_map.specs.declared.crossing.Crossing.{Crossing}
use Rattle.event_tests.specs.Pair.{IsPairOfEvents, pair}
use Rattle.crossing.specs.Seats.{AreSeats, SeatValue, finishes_of, new_seat, sources_of}

first_finish : (former latter : Bank) → finish_in (woven bank_step pair (former ∷ latter ∷ [])) 0 ≡ max 0 former.free + former.lookup
unfolding woven after_firings fire_least
first_finish former latter = refl

pair_finishes : (events : List Event) (p : Partition) (banks : List Bank) → IsPairOfEvents events p banks → finishes_of bank_step events p banks ≡ 10 ∷ []
pair_finishes events p banks h =
    let at : finish_in (woven bank_step events banks) h.crossing.parent ≡ 10 =
    ap (λ (es : List Event). finish_in (woven bank_step es banks) h.crossing.parent) h.events_are
    ∙ (ap (λ (bs : List Bank). finish_in (woven bank_step pair bs) h.crossing.parent) h.banks_are
    ∙ (ap (finish_in (woven bank_step pair (h.former ∷ h.latter ∷ []))) h.parent_is
    ∙ (first_finish h.former h.latter ∙ omega (arith, h.idle, h.fast))))
    in
    ap (λ (xs : List Crossing). map (λ x. finish_in (woven bank_step events banks) x.parent) xs) h.crossings_are ∙ ap (λ (n : ℕ). n ∷ []) at

pair_owners : (events : List Event) (p : Partition) (banks : List Bank) → IsPairOfEvents events p banks → sources_of p ≡ 0 ∷ []
pair_owners events p banks h = ap (λ (xs : List Crossing). map (λ x. x.source) xs) h.crossings_are ∙ ap (λ (n : ℕ). n ∷ []) h.source_is

pair_seats : (events : List Event) (p : Partition) (banks : List Bank) (table : TableId) (seats : List SeatValue) → IsPairOfEvents events p banks
    → AreSeats table (finishes_of bank_step events p banks) (sources_of p) (length p.events) seats → AreSeats table (10 ∷ []) (0 ∷ []) 2 seats
pair_seats events p banks table seats h all =
    subst (λ (fs : List ℕ). AreSeats table fs (0 ∷ []) 2 seats) (pair_finishes events p banks h)
    (subst (λ (os : List ℕ). AreSeats table (finishes_of bank_step events p banks) os 2 seats) (pair_owners events p banks h)
    (subst (λ (n : ℕ). AreSeats table (finishes_of bank_step events p banks) (sources_of p) n seats) h.domains_are all))

two : {X : Type 0} (xs : List X) (a b : X) → length xs ≡ 2 → slice_get xs 0 ≡ Some a → slice_get xs 1 ≡ Some b → xs ≡ a ∷ b ∷ []
two [] a b l e f = absurd (omega (arith, l))
two (x ∷ []) a b l e f = absurd (omega (arith, l))
two (x ∷ y ∷ []) a b l e f = ap (λ (z : _). z ∷ y ∷ []) (same_Some x a e) ∙ ap (λ (z : _). a ∷ z ∷ []) (same_Some y b f)
two (x ∷ y ∷ z ∷ xs) a b l e f = absurd (omega (arith, l))

pub pair_of_seats : (events : List Event) (p : Partition) (banks : List Bank) (table : TableId) (seats : List SeatValue) → IsPairOfEvents events p banks
    → AreSeats table (finishes_of bank_step events p banks) (sources_of p) (length p.events) seats
    → seats ≡ new_seat table (10 ∷ []) (0 ∷ []) 0 ∷ new_seat table (10 ∷ []) (0 ∷ []) 1 ∷ []
pair_of_seats events p banks table seats h all =
    let s = pair_seats events p banks table seats h all in two seats _ _ s.count (s.each 0 (omega arith)) (s.each 1 (omega arith))

pub pair_fits : (events : List Event) (p : Partition) (banks : List Bank) → IsPairOfEvents events p banks → GraphFits bank_serves bank_latency events banks
pair_fits events p banks h =
    subst (λ (es : List Event). GraphFits bank_serves bank_latency es banks) (sym h.events_are)
    (subst (λ (bs : List Bank). GraphFits bank_serves bank_latency pair bs) (sym h.banks_are) each)
  where
    each : GraphFits bank_serves bank_latency pair (h.former ∷ h.latter ∷ [])
    each zero e is =
        subst (EventFits bank_serves bank_latency (h.former ∷ h.latter ∷ [])) (same_Some _ e is)
        (record { component = h.former; there = refl; served = refl; floor_is = let f = h.fast in omega (arith, f) })
    each (suc zero) e is =
        subst (EventFits bank_serves bank_latency (h.former ∷ h.latter ∷ [])) (same_Some _ e is)
        (record { component = h.latter; there = refl; served = refl; floor_is = let f = h.latter_fast in omega (arith, f) })
    each (suc (suc i)) e is = absurd (cc)
