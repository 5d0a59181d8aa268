-- The last domain that is left goes to its worker.
use Rattle.std.proofs.Common.{rules, ◌≡◌, ◌<◌, ◌+◌, ℕ, List, [], ◌∷◌, ◌++◌, length, refl, sym, ◌∙◌, ap, subst, arith}
use Rattle.crossing.specs.Seats.{SeatValue}
use Rattle.dealing.specs.Dealing.{AreDealt}
use Rattle.dealing.specs.Workers.{CanGive, queues_of}
use Rattle.weave_core.specs.DomainCalls.{DomainValue}
use Rattle.weave_run.specs.Crews.{Crew}
use Rattle.weave_run.specs.declared.post.Post.{Post}
use Rattle.weave_run.proofs.Lots.{HiredSoFar, all_hired, fewer, next_given, no_seat, none_hired, one_hired}
use Rattle.weave_run.proofs.hiring.hire.Goals as goal

-- the loop's state, with the domain and the seat that were taken
taken : {C : Type 0} (all left vs : List (DomainValue C)) (all_seats seats ss : List SeatValue) (v : DomainValue C) (s : SeatValue) (workers : ℕ) (crews : List (Crew C)) → left ≡ vs ++ v ∷ [] → seats ≡ ss ++ s ∷ []
    → HiredSoFar all left all_seats seats workers crews → HiredSoFar all (vs ++ v ∷ []) all_seats (ss ++ s ∷ []) workers crews
taken {C} all left vs all_seats seats ss v s workers crews one two so_far =
    subst (λ (xs : List (DomainValue C)). HiredSoFar all xs all_seats (ss ++ s ∷ []) workers crews) one (subst (λ (ys : List SeatValue). HiredSoFar all left all_seats ys workers crews) two so_far)

none_of : {X : Type 0} (xs : List X) → length xs ≡ 0 → xs ≡ []
none_of [] none = refl
none_of (x ∷ xs) none = absurd (omega (arith, none))

pub loop-domain-init : goal.loop-domain-init
loop-domain-init g c = record {
  so_far = none_hired c.args.domains.now.items c.args.seats.now.items c.args.crews.now c.requires.seats c.requires.free;
  capacity = refl;
  seats_capacity = refl;
}

pub unreachable-requires : goal.unreachable-requires
unreachable-requires g c =
    let count = c.loop-domain.invariant.so_far.same in
    let domains = c.loop-domain.domains.ok in
    let seats = c.loop-domain.seats.ok in
    let popped = c.pop.ensures.variant in
    let some = c.in-Some.is in
    let variant = c.pop-in-Some.ensures.variant in
    let none = c.in_default-pop.is in
    let more : 0 < c.loop-domain.domains.len = search rules in
    let left : 0 < c.loop-domain.seats.len = omega (arith, count, domains, seats, more) in
    search rules

pub overflow_cast-post : goal.overflow_cast-post
overflow_cast-post g c =
    let a = fewer c.args.domains.now.items c.loop-domain.domains.items c.args.seats.now.items c.loop-domain.seats.items (length c.args.crews.now) c.loop-domain.crews c.loop-domain.invariant.so_far in
    let b = c.len-number.ensures in
    let l = c.pop.ensures.len in
    let o = c.loop-domain.domains.ok in
    let few = c.requires.few in
    search rules

pub give-requires : goal.give-requires
give-requires g c =
    let crews : List (Crew g.row.C.Denot) = c.loop-domain.crews in
    let post : Post g.row.C.Denot = record { number = c.len-number.result; domain = c.in-Some.domain; seat = c.in-Some-pop.seat } in
    let so_far =
    taken c.args.domains.now.items c.loop-domain.domains.items c.pop.new.self.items c.args.seats.now.items c.loop-domain.seats.items c.pop-in-Some.new.self.items c.in-Some.domain c.in-Some-pop.seat (length c.args.crews.now) crews
    c.in-Some.ensures.items c.in-Some-pop.ensures.items c.loop-domain.invariant.so_far
    in
    let number : length c.pop.new.self.items ≡ c.len-number.result = (let a = c.len-number.ensures in let b = c.pop.new.self.ok in omega (arith, a, b)) in
    subst (λ (n : ℕ). CanGive n crews) number
    (next_given c.args.domains.now.items c.pop.new.self.items c.args.seats.now.items c.pop-in-Some.new.self.items post (length c.args.crews.now) crews so_far c.requires.some)

pub loop-domain-preserved : goal.loop-domain-preserved
loop-domain-preserved g c =
    let i = c.loop-domain.invariant in
    let crews : List (Crew g.row.C.Denot) = c.loop-domain.crews in
    let after : List (Crew g.row.C.Denot) = c.give.new.workers in
    let post : Post g.row.C.Denot = record { number = c.len-number.result; domain = c.in-Some.domain; seat = c.in-Some-pop.seat } in
    let so_far =
    taken c.args.domains.now.items c.loop-domain.domains.items c.pop.new.self.items c.args.seats.now.items c.loop-domain.seats.items c.pop-in-Some.new.self.items c.in-Some.domain c.in-Some-pop.seat (length c.args.crews.now) crews
    c.in-Some.ensures.items c.in-Some-pop.ensures.items i.so_far
    in
    let number : length c.pop.new.self.items ≡ c.len-number.result = (let a = c.len-number.ensures in let b = c.pop.new.self.ok in omega (arith, a, b)) in
    record {
      so_far = one_hired c.args.domains.now.items c.pop.new.self.items c.args.seats.now.items c.pop-in-Some.new.self.items post (length c.args.crews.now) crews so_far after c.give.ensures.rooms
          (λ given dealt.
          subst (λ (n : ℕ). AreDealt n (post ∷ given) (queues_of after)) (sym number) (c.give.ensures.dealt given (subst (λ (n : ℕ). AreDealt (n + 1) given (queues_of crews)) number dealt)));
      capacity = c.pop.ensures.capacity ∙ i.capacity;
      seats_capacity = c.pop-in-Some.ensures.capacity ∙ i.seats_capacity;
    }

pub returns-clause-no_seats : goal.returns-clause-no_seats
returns-clause-no_seats g c =
    let size = ap length c.in_default.ensures.items in
    let none = c.in_default.ensures.cases in
    let ok = c.loop-domain.domains.ok in
    no_seat c.args.domains.now.items c.args.seats.now.items c.loop-domain.seats.items (length c.args.crews.now) c.loop-domain.crews
    (subst (λ (xs : List (DomainValue g.row.C.Denot)). HiredSoFar c.args.domains.now.items xs c.args.seats.now.items c.loop-domain.seats.items (length c.args.crews.now) c.loop-domain.crews)
    (none_of c.loop-domain.domains.items (omega (arith, none, ok))) c.loop-domain.invariant.so_far)

pub returns-clause-hired : goal.returns-clause-hired
returns-clause-hired g c =
    let size = ap length c.in_default.ensures.items in
    let none = c.in_default.ensures.cases in
    let ok = c.loop-domain.domains.ok in
    all_hired c.args.domains.now.items c.args.seats.now.items c.loop-domain.seats.items (length c.args.crews.now) c.loop-domain.crews
    (subst (λ (xs : List (DomainValue g.row.C.Denot)). HiredSoFar c.args.domains.now.items xs c.args.seats.now.items c.loop-domain.seats.items (length c.args.crews.now) c.loop-domain.crews)
    (none_of c.loop-domain.domains.items (omega (arith, none, ok))) c.loop-domain.invariant.so_far)
