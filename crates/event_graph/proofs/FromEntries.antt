-- What the events of an interval have from the accesses that they are of: how late they begin, and
-- their cores.
use Rattle.std.proofs.Common.{◌≡◌, ◌+◌, ◌-◌, ◌<◌, ◌≤◌, ℕ, zero, suc, false, List, length, Option, None, Some, ap, ◌∙◌, sym, arith, ◌==◌}
use Rattle.std.specs.List.{All, slice_get}
use Rattle.std.proofs.Math.Dec.{eqb-suc-zero}
use Rattle.std.proofs.lemmas.Bool.{cond-false}
use Rattle.std.proofs.lemmas.Option.{slice_get-get_or}
use Rattle.zs_num.specs.declared.entry.Entry.{Entry}
use Rattle.event_graph.specs.declared.event.Event.{Event}
use Rattle.event_graph.specs.declared.event.Parent.{Parent}
use Rattle.event_graph.specs.declared.piece.Piece.{Piece}
use Rattle.event_graph.specs.Critical.{last_critical}
use Rattle.event_graph.specs.Expansion.{EndsAt}
use Rattle.event_graph.specs.Near.{IsNear, AreNear}
use Rattle.event_graph.specs.EventGraph.{event_at, all_events, parent_of, zero_load_start, zero_load_finish, earlier_parent, inner_parent}
use Rattle.event_graph.proofs.AllEvents.{mapped_some, every_of}

-- A delay is a start minus a finish, and so no more than the start.

earlier_delay : (before : List Event) (core start : ℕ) (par : Parent) → earlier_parent before core start ≡ Some par → par.delay ≤ start
earlier_delay before core start par is =
    let from = mapped_some (λ (e : Event). parent_of e.number e.min_finish start) (last_critical core before) par is in
    let same : par.delay ≡ start - from.0.min_finish = ap (λ (r : Parent). r.delay) from.2 in
    omega arith

inner_delay : (base : ℕ) (e : Entry) (pieces : List Piece) (start : ℕ) (o : Option ℕ) (par : Parent) → inner_parent base e pieces start o ≡ Some par → par.delay ≤ start
inner_delay base e pieces start None par is = cc
inner_delay base e pieces start (Some i) par is =
    let from = mapped_some (λ (q : Piece). parent_of (base + i) (zero_load_finish e q) start) (slice_get pieces i) par is in
    let same : par.delay ≡ start - zero_load_finish e from.0 = ap (λ (r : Parent). r.delay) from.2 in
    omega arith

first_delay : (before : List Event) (e : Entry) (pieces : List Piece) (k : ℕ) (p : Piece) (par : Parent)
    → (event_at before e pieces k p).first ≡ Some par → par.delay ≤ zero_load_start e p
first_delay before e pieces zero p par is = earlier_delay before e.core (zero_load_start e p) par is
first_delay before e pieces (suc k) p par is =
    let later : (suc k == 0) ≡ false = eqb-suc-zero k in
    inner_delay (length before) e pieces (zero_load_start e p) p.first par
    (sym (cond-false (suc k == 0) (earlier_parent before e.core (zero_load_start e p)) (inner_parent (length before) e pieces (zero_load_start e p) p.first) later) ∙ is)

-- Accesses that start by `last` and take `most` have events that begin by the sum of both.
module _ (pieces : Entry → List Piece) (time : Entry → ℕ) (most : ℕ) (small : (e : Entry) → time e ≤ most) (ends : (e : Entry) → EndsAt (pieces e) (time e)) (last : ℕ) where
  near_at : (before : List Event) (e : Entry) (k : ℕ) (p : Piece) → e.start ≤ last → slice_get (pieces e) k ≡ Some p
      → IsNear (last + most) (last + most) (event_at before e (pieces e) k p)
  near_at before e k p early is =
      let ended : p.offset + p.time ≤ time e = (ends e).each k p is in
      let short : time e ≤ most = small e in
      let begins : zero_load_start e p ≤ last + most = omega arith in
      record {
        min_start = begins;
        first = λ par from.
            let delayed : par.delay ≤ zero_load_start e p = first_delay before e (pieces e) k p par from in
            omega arith;
        second = λ par from.
            let delayed : par.delay ≤ zero_load_start e p = inner_delay (length before) e (pieces e) (zero_load_start e p) p.second par from in
            omega arith;
      }

  pub near_all : (entries : List Entry) → All (λ e. e.start ≤ last) entries → AreNear (last + most) (last + most) (all_events pieces entries)
  near_all entries early = every_of pieces (λ e. e.start ≤ last) (IsNear (last + most) (last + most)) near_at entries early

-- an event is of its access's core
pub cores_kept : (pieces : Entry → List Piece) (cores : ℕ) (entries : List Entry) → All (λ e. e.core < cores) entries → All (λ e. e.core < cores) (all_events pieces entries)
cores_kept pieces cores entries within =
    λ k d below.
    every_of pieces (λ e. e.core < cores) (λ e. e.core < cores) (λ before e i p low is. low) entries within
    k _ (slice_get-get_or (all_events pieces entries) k d below)
