-- The last core that is left goes to its worker.
use Rattle.std.proofs.Common.{◌≡◌, ◌+◌, ℕ, List, ◌++◌, ◌∷◌, [], arith, length, refl, sym, ◌∙◌, ap, subst}
use Rattle.std.proofs.lemmas.List.{length-map}
use Rattle.shard_table.specs.Access.{SeatState}
use Rattle.bound_core.specs.NumberedCores.{NumberedCore}
use Rattle.dealing.specs.Dealing.{AreDealt}
use Rattle.dealing.specs.Workers.{CanGive, queues_of, rooms_of}
use Rattle.bound_phase.specs.Crew.{Crew}
use Rattle.bound_phase.specs.declared.member.Member.{Member}
use Rattle.bound_phase.specs.Shares.{mates}
use Rattle.bound_phase.proofs.Shares.{HiredSoFar, all_hired, next_can, none_hired, one_more_hired}
use Rattle.bound_phase.proofs.hiring.hire.Goals as goal

-- the loop's state, with the core and the seat that were taken
taken : (all : List Member) (cores cs : List NumberedCore) (seats ss : List SeatState) (c : NumberedCore) (s : SeatState) (workers : ℕ) (crews : List Crew)
    → cores ≡ cs ++ c ∷ [] → seats ≡ ss ++ s ∷ [] → HiredSoFar all cores seats workers crews → HiredSoFar all (cs ++ c ∷ []) (ss ++ s ∷ []) workers crews
taken all cores cs seats ss c s workers crews one two so_far =
    subst (λ (xs : List NumberedCore). HiredSoFar all xs (ss ++ s ∷ []) workers crews) one (subst (λ (ys : List SeatState). HiredSoFar all cores ys workers crews) two so_far)

-- there are as many workers
same_count : (before after : List Crew) → rooms_of after ≡ rooms_of before → length after ≡ length before
same_count before after rooms =
    sym (length-map after (λ (w : Crew). Rattle.std.specs.VecDeque.deque_capacity w.queue)) ∙ (ap length rooms ∙ length-map before (λ (w : Crew). Rattle.std.specs.VecDeque.deque_capacity w.queue))

none_of : (xs : List NumberedCore) → length xs ≡ 0 → xs ≡ []
none_of [] none = refl
none_of (x ∷ xs) none = absurd (omega (arith, none))

pub loop-core-init : goal.loop-core-init
loop-core-init c = none_hired c.args.cores.items c.args.seats.items c.args.crews.now c.requires.seats c.requires.free

pub give-requires : goal.give-requires
give-requires c =
    let all : List Member = mates c.args.cores.items c.args.seats.items in
    let workers : ℕ = length c.args.crews.now in
    let crews : List Crew = c.loop-core.crews in
    let so_far = taken all c.loop-core.cores.items c.pop.new.self.items c.loop-core.seats.items c.pop-in-Some.new.self.items c.in-Some.core c.in-Some-pop.seat workers crews c.in-Some.ensures.items c.in-Some-pop.ensures.items c.loop-core.invariant in
    let number : length c.pop.new.self.items ≡ c.len.result = (let a = c.len.ensures in let b = c.pop.new.self.ok in omega (arith, a, b)) in
    subst (λ (n : ℕ). CanGive n crews) number (next_can all c.pop.new.self.items c.pop-in-Some.new.self.items c.in-Some.core c.in-Some-pop.seat workers crews so_far c.requires.some)

pub loop-core-preserved : goal.loop-core-preserved
loop-core-preserved c =
    let all : List Member = mates c.args.cores.items c.args.seats.items in
    let workers : ℕ = length c.args.crews.now in
    let crews : List Crew = c.loop-core.crews in
    let after : List Crew = c.give.new.workers in
    let so_far = taken all c.loop-core.cores.items c.pop.new.self.items c.loop-core.seats.items c.pop-in-Some.new.self.items c.in-Some.core c.in-Some-pop.seat workers crews c.in-Some.ensures.items c.in-Some-pop.ensures.items c.loop-core.invariant in
    let number : length c.pop.new.self.items ≡ c.len.result = (let a = c.len.ensures in let b = c.pop.new.self.ok in omega (arith, a, b)) in
    one_more_hired all c.pop.new.self.items c.pop-in-Some.new.self.items c.in-Some.core c.in-Some-pop.seat workers crews so_far after (same_count crews after c.give.ensures.rooms) c.give.ensures.rooms
    (λ given dealt.
    subst (λ (n : ℕ). AreDealt n (record { core = c.in-Some.core; seat = c.in-Some-pop.seat } ∷ given) (queues_of after)) (sym number)
    (c.give.ensures.dealt given (subst (λ (n : ℕ). AreDealt (n + 1) given (queues_of crews)) number dealt)))

pub returns-clause-dealt : goal.returns-clause-dealt
returns-clause-dealt c =
    let all : List Member = mates c.args.cores.items c.args.seats.items in
    let size = ap length c.in_default.ensures.items in
    let none = c.in_default.ensures.cases in
    let ok = c.loop-core.cores.ok in
    all_hired all c.loop-core.seats.items (length c.args.crews.now) c.loop-core.crews
    (subst (λ (xs : List NumberedCore). HiredSoFar all xs c.loop-core.seats.items (length c.args.crews.now) c.loop-core.crews) (none_of c.loop-core.cores.items (omega (arith, none, ok))) c.loop-core.invariant)
