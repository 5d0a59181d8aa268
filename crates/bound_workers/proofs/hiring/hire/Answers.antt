-- The last core that is left goes to its worker.
use Rattle.std.proofs.Common.{◌≡◌, ◌+◌, ℕ, List, ◌++◌, ◌∷◌, [], arith, length, refl, sym, ◌∙◌, ap, subst}
use Rattle.std.specs.VecDeque.{deque_capacity}
use Rattle.std.proofs.lemmas.List.{length-map}
use Rattle.parts_table.specs.Access.{SeatState}
use Rattle.bound_core.specs.NumberedCores.{NumberedCore}
use Rattle.bound_records.specs.declared.record_port.CoreRecord.{CoreRecord}
use Rattle.dealing.specs.Dealing.{AreDealt}
use Rattle.dealing.specs.Workers.{CanGive, queues_of, rooms_of}
use Rattle.bound_workers.specs.declared.member.Member.{Member}
use Rattle.bound_workers.specs.Shares.{mates}
use Rattle.bound_workers.specs.Team.{Team}
use Rattle.bound_workers.proofs.Shares.{HiredSoFar, all_hired, next_can, none_hired, one_more_hired}
use Rattle.bound_workers.proofs.hiring.hire.Goals as goal

-- the loop's state, with the core, the seat and the record that were taken
taken : (all : List Member) (cores cs : List NumberedCore) (seats ss : List SeatState) (records rs : List CoreRecord) (c : NumberedCore) (s : SeatState) (r : CoreRecord) (workers : ℕ) (teams : List Team)
    → cores ≡ cs ++ c ∷ [] → seats ≡ ss ++ s ∷ [] → records ≡ rs ++ r ∷ [] → HiredSoFar all cores seats records workers teams → HiredSoFar all (cs ++ c ∷ []) (ss ++ s ∷ []) (rs ++ r ∷ []) workers teams
taken all cores cs seats ss records rs c s r workers teams one two three so_far =
    subst (λ (xs : List NumberedCore). HiredSoFar all xs (ss ++ s ∷ []) (rs ++ r ∷ []) workers teams) one
    (subst (λ (ys : List SeatState). HiredSoFar all cores ys (rs ++ r ∷ []) workers teams) two
    (subst (λ (zs : List CoreRecord). HiredSoFar all cores seats zs workers teams) three so_far))

-- there are as many workers
same_count : (before after : List Team) → rooms_of after ≡ rooms_of before → length after ≡ length before
same_count before after rooms = sym (length-map after (λ (w : Team). deque_capacity w.queue)) ∙ (ap length rooms ∙ length-map before (λ (w : Team). deque_capacity w.queue))

none_of : (xs : List NumberedCore) → length xs ≡ 0 → xs ≡ []
none_of [] none = refl
none_of (x ∷ xs) none = absurd (omega (arith, none))

pub loop-core-init : goal.loop-core-init
loop-core-init c = record {
  so_far = none_hired c.args.cores.items c.args.seats.items c.args.records.items c.args.teams.now c.requires.seats c.requires.records c.requires.free;
  places = refl;
}

pub give-requires : goal.give-requires
give-requires c =
    let all : List Member = mates c.args.cores.items c.args.seats.items c.args.records.items in
    let workers : ℕ = length c.args.teams.now in
    let teams : List Team = c.loop-core.teams in
    let so_far = taken all c.loop-core.cores.items c.pop.new.self.items c.loop-core.seats.items c.pop-in-Some.new.self.items c.loop-core.records.items c.pop-in-Some-2.new.self.items c.in-Some.core c.in-Some-pop.seat c.in-Some-pop-2.record workers teams c.in-Some.ensures.items c.in-Some-pop.ensures.items c.in-Some-pop-2.ensures.items c.loop-core.invariant.so_far in
    let number : length c.pop.new.self.items ≡ c.len.result = (let a = c.len.ensures in let b = c.pop.new.self.ok in omega (arith, a, b)) in
    subst (λ (n : ℕ). CanGive n teams) number
    (next_can all c.pop.new.self.items c.pop-in-Some.new.self.items c.pop-in-Some-2.new.self.items c.in-Some.core c.in-Some-pop.seat c.in-Some-pop-2.record workers teams so_far c.requires.some)

pub loop-core-preserved : goal.loop-core-preserved
loop-core-preserved c =
    let all : List Member = mates c.args.cores.items c.args.seats.items c.args.records.items in
    let workers : ℕ = length c.args.teams.now in
    let teams : List Team = c.loop-core.teams in
    let after : List Team = c.give.new.workers in
    let so_far = taken all c.loop-core.cores.items c.pop.new.self.items c.loop-core.seats.items c.pop-in-Some.new.self.items c.loop-core.records.items c.pop-in-Some-2.new.self.items c.in-Some.core c.in-Some-pop.seat c.in-Some-pop-2.record workers teams c.in-Some.ensures.items c.in-Some-pop.ensures.items c.in-Some-pop-2.ensures.items c.loop-core.invariant.so_far in
    let number : length c.pop.new.self.items ≡ c.len.result = (let a = c.len.ensures in let b = c.pop.new.self.ok in omega (arith, a, b)) in
    record {
      so_far = one_more_hired all c.pop.new.self.items c.pop-in-Some.new.self.items c.pop-in-Some-2.new.self.items c.in-Some.core c.in-Some-pop.seat c.in-Some-pop-2.record workers teams so_far after (same_count teams after c.give.ensures.rooms) c.give.ensures.rooms
          (λ given dealt.
          subst (λ (n : ℕ). AreDealt n (record { core = c.in-Some.core; seat = c.in-Some-pop.seat; «record» = c.in-Some-pop-2.record } ∷ given) (queues_of after)) (sym number)
          (c.give.ensures.dealt given (subst (λ (n : ℕ). AreDealt (n + 1) given (queues_of teams)) number dealt)));
      places = c.give.ensures.tools ∙ c.loop-core.invariant.places;
    }

pub returns-clause-places : goal.returns-clause-places
returns-clause-places c = c.loop-core.invariant.places

pub returns-clause-dealt : goal.returns-clause-dealt
returns-clause-dealt c =
    let all : List Member = mates c.args.cores.items c.args.seats.items c.args.records.items in
    let none = c.in_default.ensures.cases in
    let ok = c.loop-core.cores.ok in
    all_hired all c.loop-core.seats.items c.loop-core.records.items (length c.args.teams.now) c.loop-core.teams
    (subst (λ (xs : List NumberedCore). HiredSoFar all xs c.loop-core.seats.items c.loop-core.records.items (length c.args.teams.now) c.loop-core.teams) (none_of c.loop-core.cores.items (omega (arith, none, ok)))
    c.loop-core.invariant.so_far)
