-- Cores that are seated run to the end of the interval.
use Rattle.std.proofs.Common.{◌≡◌, ℕ, ◌+◌, ◌<◌, ◌≤◌, ◌^◌, List, All, length, get_or, sym, ◌∙◌, arith}
use Rattle.std.proofs.lemmas.Option.{slice_get-get_or}
use Rattle.machine_desc.specs.declared.machine.Machine.{Machine}
use Rattle.shard_table.specs.Access.{SeatState, TableState}
use Rattle.bound_core.specs.NumberedCores.{NumberedCore}
use Rattle.dealing.specs.Dealing.{AreDealt}
use Rattle.dealing.specs.Laws.{AreAmongThese}
use Rattle.dealing.specs.Workers.{queues_of}
use Rattle.bound_phase.specs.declared.member.Member.{Member}
use Rattle.bound_phase.specs.Bounds.{HaveNewSeats}
use Rattle.bound_phase.specs.Crew.{CanWork, Crew}
use Rattle.bound_phase.specs.Member.{CanRun}
use Rattle.bound_phase.specs.Shares.{mates}
use Rattle.bound_phase.proofs.Ending.{all_at, all_here}
use Rattle.bound_phase.proofs.Shares.{mates_length}
use Rattle.bound_phase.proofs.Whole.{at_below, can_all}

module _ (m : Machine) (end : ℕ) (t : TableState) (cores : List NumberedCore) (seats : List SeatState) (small : end ≤ 2 ^ 60) (seated : HaveNewSeats m end t cores seats) where
  pub as_many_seats : length seats ≡ length cores
  as_many_seats = seated.seats_new.0 ∙ sym seated.count

  pub members_can : All (CanRun t m.memory end) (mates cores seats)
  members_can =
      can_all m end t seated.shards small seated.room 0 cores seats (λ i c at.
      let r = seated.ready i c at in
      let low = at_below cores i c at in
      let n = seated.count in
      let same : i ≡ 0 + i = omega arith in
      (r.0, r.1, r.2 ∙ same, (let here : 0 + i < t.cores = omega (arith, low, n) in here), r.3))
      (λ i s at. let e = seated.seats_new.1 i s at in let same : i ≡ 0 + i = omega arith in (e.0, e.1 ∙ same, e.2))

  pub members_count : length (mates cores seats) ≡ m.cores
  members_count = mates_length cores seats as_many_seats ∙ (seated.count ∙ seated.cores_are)

  pub crew_can : AreAmongThese Member (Unit {0}) → (crews : List Crew) → AreDealt 0 (mates cores seats) (queues_of crews) → (worker : ℕ) (d : Crew) → worker < length crews → CanWork t m.memory end (get_or crews worker d)
  crew_can among crews dealt worker d within = record {
    can = all_at (CanRun t m.memory end) (get_or crews worker d).queue.items (λ place x at.
        let there = among 0 (mates cores seats) crews dealt worker place (get_or crews worker d) x (slice_get-get_or crews worker d within) at in
        all_here (CanRun t m.memory end) (mates cores seats) there.0 x members_can there.1);
  }
