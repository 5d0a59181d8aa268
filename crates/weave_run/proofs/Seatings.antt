-- Domains and their seats, which go together.
use Rattle.std.proofs.Common.{◌≡◌, ◌%◌, ℕ, zero, suc, Bool, true, false, List, [], ◌∷◌, All, length, map, get_or, slice_index, Option, Some, None, slice_get, sym, ◌∙◌, ap, subst, refl, arith}
use Rattle.std.proofs.lemmas.Bool.{false≢true}
use Rattle.std.proofs.lemmas.List.{length-map}
use Rattle.std.proofs.lemmas.Option.{same_Some, none-some, slice_get-get_or, slice_get_within}
use Rattle.std.specs.Arc.{arc_value}
use Rattle.std.specs.Prelude.{IfSome}
use Rattle.atomic_table.specs.Seated.{TableId}
use Rattle.component.specs.declared.kind.Kind.{Kind}
use Rattle.event_graph.specs.OneListWeave.{is_fired}
use Rattle.crossing.specs.Seats.{AreSeats, SeatValue, finishes_of, new_seat, sources_of}
use Rattle.weave_core.specs.DomainCalls.{DomainValue}
use Rattle.weave_core.specs.DomainMachine.{DomainState}
use Rattle.weave_core.specs.Keeping.{IsKept}
use Rattle.weave_run.specs.Rounds.{AllGrow, AllKeep, Grows, own_in, with_floors}
use Rattle.weave_run.specs.Seating.{AreSeated, IsSeated}
use Rattle.weave_run.specs.Setup.{AreBegun}
use Rattle.weave_run.specs.Teams.{IsNewTeam, IsTeam}
use Rattle.weave_run.specs.declared.plan.Plan.{Plan}
use Rattle.weave_run.specs.declared.team.Team.{Team}
use Rattle.weave_run.proofs.Rounding.{floored, still_fired}
use Rattle.weave_run.proofs.Tellings.{own_there, stays_exact, there_at}

zeros : (xs : List ℕ) (n : ℕ) → slice_index (map (λ (x : ℕ). 0) xs) n ≡ 0
zeros [] zero = refl
zeros [] (suc n) = refl
zeros (x ∷ xs) zero = refl
zeros (x ∷ xs) (suc n) = zeros xs n

module _ {C : Type 0} (stepped : C → Kind → ℕ → C × ℕ) (plan : Plan C) (table : TableId) where
  -- ---- from round to round

  seated_on : (old new : List (DomainValue C)) (seats : List SeatValue) → AreSeated stepped plan table old seats → length new ≡ length old
      → ((d : ℕ) (v w : DomainValue C) → slice_get old d ≡ Some v → slice_get new d ≡ Some w → (w.domain ≡ v.domain) × Grows v.own w.own)
      → AreSeated stepped plan table new seats
  seated_on old new seats h count on = record {
    count = h.count ∙ sym count;
    each = λ d w s at there.
        let v = there_at old d (let b = slice_get_within new d w at in omega (arith, b, count)) in
        let i : IsSeated stepped plan table v.0 s = h.each d v.0 s v.1 there in
        let o = on d v.0 w v.1 at in
        record {
          seat = record {
            crossings_are = i.seat.crossings_are;
            domain_is = i.seat.domain_is ∙ sym o.0;
            finishes_are = i.seat.finishes_are;
            sources_are = i.seat.sources_are;
            wide = i.seat.wide;
          };
          unpublished = λ n x crossing source unfired. i.unpublished n x crossing (source ∙ o.0) (before v.0 w x.parent (λ n fired. still_fired v.0.own w.own n o.1 fired) unfired);
          informed = λ n odd. stays_exact v.0.own w.own n (o.1.words n) (i.informed n odd);
        };
  }
    where
      before : (v w : DomainValue C) (n : ℕ) → ((n : ℕ) → is_fired v.own.fired n ≡ true → is_fired w.own.fired n ≡ true) → is_fired w.own.fired n ≡ false → is_fired v.own.fired n ≡ false
      before v w n still un = by_test (is_fired v.own.fired n) refl
        where
          by_test : (t : Bool) → is_fired v.own.fired n ≡ t → is_fired v.own.fired n ≡ false
          by_test false e = e
          by_test true e = absurd (false≢true (sym un ∙ still n e))

  pub seated_grown : (old new : List (DomainValue C)) (seats : List SeatValue) → AllKeep stepped plan old → AllKeep stepped plan new → AllGrow old new → AreSeated stepped plan table old seats → AreSeated stepped plan table new seats
  seated_grown old new seats k m grow h =
      seated_on old new seats h (m.count ∙ sym k.count)
      (λ d v w at there.
      let a : IsKept stepped plan.graph.value plan.parts.value plan.comps.value d v = k.each d v at in
      let b : IsKept stepped plan.graph.value plan.parts.value plan.comps.value d w = m.each d w there in (
        ap (λ (x : DomainValue C). x.domain) b.is ∙ sym (ap (λ (x : DomainValue C). x.domain) a.is),
        subst (λ (o : DomainState). Grows o w.own) (own_there old d v at) (subst (Grows (own_in old d)) (own_there new d w there) (grow.each d)),
      ))

  pub seated_higher : (floor : ℕ) (vs : List (DomainValue C)) (seats : List SeatValue) → AreSeated stepped plan table vs seats → AreSeated stepped plan table (with_floors floor vs) seats
  seated_higher floor vs seats h = record {
    count = h.count ∙ sym (floors_count floor vs);
    each = λ d u s at there.
        let v = floored floor vs d u at in
        let i : IsSeated stepped plan table v.0 s = h.each d v.0 s v.1.0 there in
        subst (λ (w : DomainValue C). IsSeated stepped plan table w s) (sym v.1.1) (record { seat = i.seat; unpublished = i.unpublished; informed = i.informed });
  }
    where
      floors_count : (floor : ℕ) (vs : List (DomainValue C)) → length (with_floors floor vs) ≡ length vs
      floors_count floor [] = refl
      floors_count floor (v ∷ vs) = ap suc (floors_count floor vs)

  pub seated_first : (vs : List (DomainValue C)) (seats : List SeatValue) → AreBegun plan.graph.value plan.parts.value plan.comps.value (length plan.parts.value.events) vs
      → AreSeats table (finishes_of stepped plan.graph.value plan.parts.value plan.comps.value) (sources_of plan.parts.value) (length plan.parts.value.events) seats → AreSeated stepped plan table vs seats
  seated_first vs seats begun are = record {
    count = are.count ∙ sym begun.count_is;
    each = λ d v s at there.
        let s_is : new_seat table (finishes_of stepped plan.graph.value plan.parts.value plan.comps.value) (sources_of plan.parts.value) d ≡ s =
        same_Some _ s (sym (are.each d (let b = slice_get_within vs d v at in let n = begun.count_is in omega (arith, b, n))) ∙ there)
        in
        let number : v.domain ≡ d = ap (λ (w : DomainValue C). w.domain) (begun.each d v at) in
        subst (IsSeated stepped plan table v) s_is
        (record {
          seat = record { crossings_are = refl; domain_is = sym number; finishes_are = refl; sources_are = refl; wide = length-map (sources_of plan.parts.value) (λ (x : ℕ). 0) };
          unpublished = λ n x crossing source unfired. ap (λ (k : ℕ). k % 2) (zeros (sources_of plan.parts.value) n);
          informed = λ n odd. absurd (let z = zeros (sources_of plan.parts.value) n in omega (arith, z, odd));
        });
  }

  pub all_of_table : (vs : List (DomainValue C)) (seats : List SeatValue) → AreSeated stepped plan table vs seats → All (λ (s : SeatValue). s.crossings ≡ table) seats
  all_of_table vs seats h n d l =
      let v = there_at vs n (let c = h.count in omega (arith, l, c)) in
      (h.each n v.0 (get_or seats n d) v.1 (slice_get-get_or seats n d l)).seat.crossings_are

-- ---- teams

module _ {C W : Type 0} (stepped : C → Kind → ℕ → C × ℕ) (plan : Plan C) where
  pub team_after : (old new : List (DomainValue C)) (team : Option (Team C W)) → AllKeep stepped plan old → AllKeep stepped plan new → AllGrow old new → IfSome team (IsTeam stepped plan old) → IfSome team (IsTeam stepped plan new)
  team_after old new None k m grow h = tt
  team_after old new (Some t) k m grow h = record { has = h.has; seated = seated_grown stepped plan (arc_value t.crossings) old new t.seats.items k m grow h.seated }

  pub team_higher : (floor : ℕ) (vs : List (DomainValue C)) (team : Option (Team C W)) → IfSome team (IsTeam stepped plan vs) → IfSome team (IsTeam stepped plan (with_floors floor vs))
  team_higher floor vs None h = tt
  team_higher floor vs (Some t) h = record { has = h.has; seated = seated_higher stepped plan (arc_value t.crossings) floor vs t.seats.items h.seated }

  pub first_team : (vs : List (DomainValue C)) (team : Option (Team C W)) → AreBegun plan.graph.value plan.parts.value plan.comps.value (length plan.parts.value.events) vs → IfSome team (IsNewTeam stepped plan)
      → IfSome team (IsTeam stepped plan vs)
  first_team vs None begun h = tt
  first_team vs (Some t) begun h = record { has = h.has; seated = seated_first stepped plan (arc_value t.crossings) vs t.seats.items begun h.seats }

  pub seats_of_team : (vs : List (DomainValue C)) (team : Option (Team C W)) (t : Team C W) → IfSome team (IsTeam stepped plan vs) → team ≡ Some t → All (λ (s : SeatValue). s.crossings ≡ (arc_value t.crossings)) t.seats.items
  seats_of_team vs None t h e = absurd (none-some t e)
  seats_of_team vs (Some u) t h e =
      let here : IsTeam stepped plan vs t = subst (IsTeam stepped plan vs) (same_Some u t e) h in
      all_of_table stepped plan (arc_value t.crossings) vs t.seats.items here.seated
