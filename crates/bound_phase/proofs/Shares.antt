-- Cores are given to workers, the last core first.
use Rattle.std.proofs.Common.{◌≡◌, ℕ, suc, ◌+◌, ◌<◌, ◌≤◌, List, [], ◌∷◌, ◌++◌, All, length, refl, sym, ◌∙◌, ap, subst, arith}
use Rattle.std.proofs.lemmas.List.{append-nil, append_assoc, length-append, length_push}
use Rattle.std.proofs.lemmas.List.Elements.{All-cons, All-head, All-nil, All-tail}
use Rattle.shard_table.specs.Access.{SeatState}
use Rattle.bound_core.specs.NumberedCores.{NumberedCore}
use Rattle.dealing.specs.Dealing.{AreDealt}
use Rattle.dealing.specs.Workers.{AreFree, CanGive, HaveRoom, queues_of, rooms_of}
use Rattle.bound_phase.specs.declared.member.Member.{Member}
use Rattle.bound_phase.specs.Crew.{Crew}
use Rattle.bound_phase.specs.Shares.{mates}

-- ---- cores with their seats

pub mates_more : (cores : List NumberedCore) (seats : List SeatState) (c : NumberedCore) (s : SeatState) → length seats ≡ length cores
    → mates (cores ++ c ∷ []) (seats ++ s ∷ []) ≡ mates cores seats ++ record { core = c; seat = s } ∷ []
mates_more [] [] c s same = refl
mates_more [] (y ∷ seats) c s same = absurd (omega (arith, same))
mates_more (x ∷ cores) [] c s same = absurd (omega (arith, same))
mates_more (x ∷ cores) (y ∷ seats) c s same = ap (λ ms. record { core = x; seat = y } ∷ ms) (mates_more cores seats c s (omega (arith, same)))

pub mates_length : (cores : List NumberedCore) (seats : List SeatState) → length seats ≡ length cores → length (mates cores seats) ≡ length cores
mates_length [] [] same = refl
mates_length [] (y ∷ seats) same = refl
mates_length (x ∷ cores) [] same = absurd (omega (arith, same))
mates_length (x ∷ cores) (y ∷ seats) same = ap suc (mates_length cores seats (omega (arith, same)))

-- ---- a step

-- room for more is room for fewer
room_for : (many few : ℕ) (rooms : List ℕ) → few ≤ many → All (λ room. many ≤ room) rooms → All (λ room. few ≤ room) rooms
room_for many few [] less all = All-nil (λ room. few ≤ room)
room_for many few (r ∷ rooms) less all =
    All-cons (λ room. few ≤ room) r rooms (let here = All-head (λ room. many ≤ room) r rooms all in omega (arith, less, here)) (room_for many few rooms less (All-tail (λ room. many ≤ room) r rooms all))

-- these cores and seats are left, and the others were given
pub record HiredSoFar (all : List Member) (cores : List NumberedCore) (seats : List SeatState) (workers : ℕ) (crews : List Crew) : Type 0 where
  pub given : List Member
  pub whole : mates cores seats ++ given ≡ all
  pub same : length seats ≡ length cores
  pub count : length crews ≡ workers
  pub dealt : AreDealt (length cores) given (queues_of crews)
  pub room : HaveRoom (length all) crews

pub none_hired : (cores : List NumberedCore) (seats : List SeatState) (crews : List Crew) → length seats ≡ length cores → AreFree (length cores) crews
    → HiredSoFar (mates cores seats) cores seats (length crews) crews
none_hired cores seats crews same free = record {
  given = [];
  whole = append-nil (mates cores seats);
  same = same;
  count = refl;
  dealt = free.none;
  room = subst (λ (n : ℕ). HaveRoom n crews) (sym (mates_length cores seats same)) free.room;
}

module _ (all : List Member) (cores : List NumberedCore) (seats : List SeatState) (c : NumberedCore) (s : SeatState) (workers : ℕ) (crews : List Crew)
    (so_far : HiredSoFar all (cores ++ c ∷ []) (seats ++ s ∷ []) workers crews) where
  abbrev m : Member
  m = record { core = c; seat = s }

  same_size : length seats ≡ length cores
  same_size = let a = length-append seats (s ∷ []) in let b = length-append cores (c ∷ []) in let same = so_far.same in omega (arith, a, b, same)

  whole_so_far : mates cores seats ++ (m ∷ so_far.given) ≡ all
  whole_so_far =
      sym (append_assoc (mates cores seats) (m ∷ []) so_far.given) ∙ (ap (λ ms. ms ++ so_far.given) (sym (mates_more cores seats c s same_size)) ∙ so_far.whole)

  behind : AreDealt (length cores + 1) so_far.given (queues_of crews)
  behind = subst (λ (n : ℕ). AreDealt n so_far.given (queues_of crews)) (length_push cores c) so_far.dealt

  -- the next can be given
  pub next_can : 0 < workers → CanGive (length cores) crews
  next_can some = record {
    some = (let n = so_far.count in omega (arith, some, n));
    items = so_far.given;
    dealt = behind;
    room = room_for (length all) (suc (length so_far.given)) (rooms_of crews) (let a = length-append (mates cores seats) (m ∷ so_far.given) in let b = ap length whole_so_far in omega (arith, a, b)) so_far.room;
  }

  pub one_more_hired : (after : List Crew) → length after ≡ length crews → rooms_of after ≡ rooms_of crews
      → ((given : List Member) → AreDealt (length cores + 1) given (queues_of crews) → AreDealt (length cores) (m ∷ given) (queues_of after)) → HiredSoFar all cores seats workers after
  one_more_hired after as_many rooms give = record {
    given = m ∷ so_far.given;
    whole = whole_so_far;
    same = same_size;
    count = as_many ∙ so_far.count;
    dealt = give so_far.given behind;
    room = subst (All (λ (room : ℕ). length all ≤ room)) (sym rooms) so_far.room;
  }

pub all_hired : (all : List Member) (seats : List SeatState) (workers : ℕ) (crews : List Crew) → HiredSoFar all [] seats workers crews → AreDealt 0 all (queues_of crews)
all_hired all seats workers crews so_far = subst (λ (ms : List Member). AreDealt 0 ms (queues_of crews)) so_far.whole so_far.dealt
