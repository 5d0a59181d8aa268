-- Domains are dealt to workers with their seats, the last one first, and taken back, the first one first.
use Rattle.std.proofs.Common.{◌≡◌, ℕ, ◌+◌, ◌<◌, ◌≤◌, List, [], ◌∷◌, ◌++◌, All, length, sym, ◌∙◌, ap, subst, refl, arith}
use Rattle.std.proofs.lemmas.List.{append-nil, append_assoc, length-append, length-map, length_push}
use Rattle.std.specs.VecDeque.{deque_capacity}
use Rattle.crossing.specs.Seats.{SeatValue}
use Rattle.dealing.specs.Dealing.{AreDealt}
use Rattle.dealing.specs.Workers.{AreFree, CanGive, CanTake, HaveRoom, queues_of, rooms_of}
use Rattle.weave_core.specs.DomainCalls.{DomainValue}
use Rattle.weave_run.specs.Crews.{AreHired, Crew, domains_in, seats_in}
use Rattle.weave_run.specs.declared.post.Post.{Post}

none_of : {X : Type 0} (xs : List X) → length xs ≡ 0 → xs ≡ []
none_of [] none = refl
none_of (x ∷ xs) none = absurd (omega (arith, none))

-- there are as many workers
pub as_many_crews : {C : Type 0} (before after : List (Crew C)) → rooms_of after ≡ rooms_of before → length after ≡ length before
as_many_crews {C} before after rooms =
    sym (length-map after (λ (w : Crew C). deque_capacity w.queue)) ∙ (ap length rooms ∙ length-map before (λ (w : Crew C). deque_capacity w.queue))

-- ---- hiring

-- these domains and seats are left, and the others were given
pub record HiredSoFar {C : Type 0} (all left : List (DomainValue C)) (all_seats seats : List SeatValue) (workers : ℕ) (crews : List (Crew C)) : Type 0 where
  pub given : List (Post C)
  pub domains_are : left ++ domains_in given ≡ all
  pub seats_are : seats ++ seats_in given ≡ all_seats
  pub same : length seats ≡ length left
  pub count : length crews ≡ workers
  pub dealt : AreDealt (length left) given (queues_of crews)
  pub room : HaveRoom (length all) crews

pub none_hired : {C : Type 0} (all : List (DomainValue C)) (seats : List SeatValue) (crews : List (Crew C)) → length seats ≡ length all → AreFree (length all) crews → HiredSoFar all all seats seats (length crews) crews
none_hired all seats crews same free = record { given = []; domains_are = append-nil all; seats_are = append-nil seats; same = same; count = refl; dealt = free.none; room = free.room }

-- there are no more left than there were
pub fewer : {C : Type 0} (all left : List (DomainValue C)) (all_seats seats : List SeatValue) (workers : ℕ) (crews : List (Crew C)) → HiredSoFar all left all_seats seats workers crews → length left ≤ length all
fewer all left all_seats seats workers crews h = let a = length-append left (domains_in h.given) in let b = ap length h.domains_are in omega (arith, a, b)

module _ {C : Type 0} (all left : List (DomainValue C)) (all_seats seats : List SeatValue) (post : Post C) (workers : ℕ) (crews : List (Crew C))
    (h : HiredSoFar all (left ++ post.domain ∷ []) all_seats (seats ++ post.seat ∷ []) workers crews) where
  whole : left ++ (post.domain ∷ domains_in h.given) ≡ all
  whole = sym (append_assoc left (post.domain ∷ []) (domains_in h.given)) ∙ h.domains_are

  behind : AreDealt (length left + 1) h.given (queues_of crews)
  behind = subst (λ (n : ℕ). AreDealt n h.given (queues_of crews)) (length_push left post.domain) h.dealt

  -- the next can be given
  pub next_given : 0 < workers → CanGive (length left) crews
  next_given some = record {
    some = (let n = h.count in omega (arith, some, n));
    items = h.given;
    dealt = behind;
    room = λ worker d within.
        let room = h.room worker d within in
        let a = length-append left (post.domain ∷ domains_in h.given) in
        let b = ap length whole in
        let c = length-map h.given (λ (p : Post C). p.domain) in
        omega (arith, room, a, b, c);
  }

  pub one_hired : (after : List (Crew C)) → rooms_of after ≡ rooms_of crews → ((given : List (Post C)) → AreDealt (length left + 1) given (queues_of crews) → AreDealt (length left) (post ∷ given) (queues_of after))
      → HiredSoFar all left all_seats seats workers after
  one_hired after rooms give = record {
    given = post ∷ h.given;
    domains_are = whole;
    seats_are = sym (append_assoc seats (post.seat ∷ []) (seats_in h.given)) ∙ h.seats_are;
    same = (let a = length_push left post.domain in let b = length_push seats post.seat in let same = h.same in omega (arith, a, b, same));
    count = as_many_crews crews after rooms ∙ h.count;
    dealt = give h.given behind;
    room = subst (All (λ (room : ℕ). length all ≤ room)) (sym rooms) h.room;
  }

pub no_seat : {C : Type 0} (all : List (DomainValue C)) (all_seats seats : List SeatValue) (workers : ℕ) (crews : List (Crew C)) → HiredSoFar all [] all_seats seats workers crews → seats ≡ []
no_seat all all_seats seats workers crews h = none_of seats h.same

pub all_hired : {C : Type 0} (all : List (DomainValue C)) (all_seats seats : List SeatValue) (workers : ℕ) (crews : List (Crew C)) → HiredSoFar all [] all_seats seats workers crews → AreHired all all_seats crews
all_hired all all_seats seats workers crews h = record {
  posts = h.given;
  dealt = h.dealt;
  domains_are = h.domains_are;
  seats_are = ap (λ (xs : List SeatValue). xs ++ seats_in h.given) (sym (none_of seats h.same)) ∙ h.seats_are;
}

-- ---- letting go

-- the domains below the number are back
pub record LetGoSoFar {C : Type 0} (posts : List (Post C)) (number : ℕ) (crews : List (Crew C)) (vs : List (DomainValue C)) (seats : List SeatValue) : Type 0 where
  pub rest : List (Post C)
  pub dealt : AreDealt number rest (queues_of crews)
  pub count : number + length rest ≡ length posts
  pub domains_are : vs ++ domains_in rest ≡ domains_in posts
  pub seats_are : seats ++ seats_in rest ≡ seats_in posts

pub none_gone : {C : Type 0} (posts : List (Post C)) (crews : List (Crew C)) (vs : List (DomainValue C)) (seats : List SeatValue) → AreDealt 0 posts (queues_of crews) → vs ≡ [] → seats ≡ [] → LetGoSoFar posts 0 crews vs seats
none_gone {C} posts crews vs seats dealt no_domains no_seats = record {
  rest = posts;
  dealt = dealt;
  count = omega arith;
  domains_are = ap (λ (xs : List (DomainValue C)). xs ++ domains_in posts) no_domains;
  seats_are = ap (λ (xs : List SeatValue). xs ++ seats_in posts) no_seats;
}

some_of : {X : Type 0} (xs : List X) → 0 < length xs → (x : X) × (rest : List X) × (xs ≡ x ∷ rest)
some_of [] some = absurd (omega (arith, some))
some_of (x ∷ xs) some = (x, xs, refl)

module _ {C : Type 0} (posts : List (Post C)) (number : ℕ) (crews : List (Crew C)) (vs : List (DomainValue C)) (seats : List SeatValue) (h : LetGoSoFar posts number crews vs seats) where
  module _ (below : number < length posts) where
    next : (x : Post C) × (rest : List (Post C)) × (h.rest ≡ x ∷ rest)
    next = some_of h.rest (let n = h.count in omega (arith, n, below))

    next_dealt : AreDealt number (next.0 ∷ next.1) (queues_of crews)
    next_dealt = subst (λ (ps : List (Post C)). AreDealt number ps (queues_of crews)) next.2 h.dealt

    pub next_taken : 0 < length crews → CanTake number crews
    next_taken some = record { some = some; item = next.0; items = next.1; dealt = next_dealt }

    pub one_gone : (post : Post C) (after : List (Crew C)) (vs_now : List (DomainValue C)) (seats_now : List SeatValue)
        → ((item : Post C) (items : List (Post C)) → AreDealt number (item ∷ items) (queues_of crews) → (post ≡ item) × AreDealt (number + 1) items (queues_of after)) → vs_now ≡ vs ++ post.domain ∷ []
        → seats_now ≡ seats ++ post.seat ∷ [] → LetGoSoFar posts (number + 1) after vs_now seats_now
    one_gone post after vs_now seats_now taken domain_pushed seat_pushed =
        let it = taken next.0 next.1 next_dealt in
        let rest_is : h.rest ≡ post ∷ next.1 = next.2 ∙ ap (λ (x : Post C). x ∷ next.1) (sym it.0) in
        record {
          rest = next.1;
          dealt = it.1;
          count = (let n = h.count in let s = ap length next.2 in omega (arith, n, s));
          domains_are =
              ap (λ (xs : List (DomainValue C)). xs ++ domains_in next.1) domain_pushed
              ∙ (append_assoc vs (post.domain ∷ []) (domains_in next.1) ∙ (ap (λ (ps : List (Post C)). vs ++ domains_in ps) (sym rest_is) ∙ h.domains_are));
          seats_are =
              ap (λ (xs : List SeatValue). xs ++ seats_in next.1) seat_pushed
              ∙ (append_assoc seats (post.seat ∷ []) (seats_in next.1) ∙ (ap (λ (ps : List (Post C)). seats ++ seats_in ps) (sym rest_is) ∙ h.seats_are));
        }

  none_to_go : number ≡ length posts → h.rest ≡ []
  none_to_go end = none_of h.rest (let n = h.count in omega (arith, n, end))

  pub all_gone : number ≡ length posts → (vs ≡ domains_in posts) × (seats ≡ seats_in posts)
  all_gone end = (
    sym (append-nil vs) ∙ (ap (λ (ps : List (Post C)). vs ++ domains_in ps) (sym (none_to_go end)) ∙ h.domains_are),
    sym (append-nil seats) ∙ (ap (λ (ps : List (Post C)). seats ++ seats_in ps) (sym (none_to_go end)) ∙ h.seats_are),
  )

  -- the workers have nothing
  pub all_free : number ≡ length posts → (count : ℕ) → HaveRoom count crews → AreFree count crews
  all_free end count room = record { none = subst (λ (ps : List (Post C)). AreDealt number ps (queues_of crews)) (none_to_go end) h.dealt; room = room }
