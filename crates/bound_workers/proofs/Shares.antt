-- Cores are given to workers, the last core first.
use Rattle.std.proofs.Common.{◌≡◌, ℕ, suc, ◌+◌, ◌<◌, ◌≤◌, List, [], ◌∷◌, ◌++◌, All, length, refl, sym, ◌∙◌, ap, subst, arith}
use Rattle.std.proofs.lemmas.List.{append-nil, append_assoc, length-append, length_push}
use Rattle.std.proofs.lemmas.List.Elements.{All-cons, All-head, All-nil, All-tail}
use Rattle.parts_table.specs.Access.{SeatState}
use Rattle.bound_core.specs.NumberedCores.{NumberedCore}
use Rattle.bound_records.specs.declared.record_port.CoreRecord.{CoreRecord}
use Rattle.dealing.specs.Dealing.{AreDealt}
use Rattle.dealing.specs.Workers.{AreFree, CanGive, HaveRoom, queues_of, rooms_of}
use Rattle.bound_workers.specs.declared.member.Member.{Member}
use Rattle.bound_workers.specs.Team.{Team}
use Rattle.bound_workers.specs.Shares.{mates}

-- ---- cores with their seats and records

pub mates_more : (cores : List NumberedCore) (seats : List SeatState) (records : List CoreRecord) (c : NumberedCore) (s : SeatState) (r : CoreRecord) → length seats ≡ length cores → length records ≡ length cores
    → mates (cores ++ c ∷ []) (seats ++ s ∷ []) (records ++ r ∷ []) ≡ mates cores seats records ++ record { core = c; seat = s; «record» = r } ∷ []
mates_more [] [] [] c s r same alike = refl
mates_more [] [] (z ∷ records) c s r same alike = absurd (omega (arith, alike))
mates_more [] (y ∷ seats) records c s r same alike = absurd (omega (arith, same))
mates_more (x ∷ cores) [] records c s r same alike = absurd (omega (arith, same))
mates_more (x ∷ cores) (y ∷ seats) [] c s r same alike = absurd (omega (arith, alike))
mates_more (x ∷ cores) (y ∷ seats) (z ∷ records) c s r same alike =
    ap (λ ms. record { core = x; seat = y; «record» = z } ∷ ms) (mates_more cores seats records c s r (omega (arith, same)) (omega (arith, alike)))

pub mates_length : (cores : List NumberedCore) (seats : List SeatState) (records : List CoreRecord) → length seats ≡ length cores → length records ≡ length cores → length (mates cores seats records) ≡ length cores
mates_length [] seats records same alike = refl
mates_length (x ∷ cores) [] records same alike = absurd (omega (arith, same))
mates_length (x ∷ cores) (y ∷ seats) [] same alike = absurd (omega (arith, alike))
mates_length (x ∷ cores) (y ∷ seats) (z ∷ records) same alike = ap suc (mates_length cores seats records (omega (arith, same)) (omega (arith, alike)))

-- ---- a step

-- room for more is room for fewer
room_for : (many few : ℕ) (rooms : List ℕ) → few ≤ many → All (λ room. many ≤ room) rooms → All (λ room. few ≤ room) rooms
room_for many few [] less all = All-nil (λ room. few ≤ room)
room_for many few (r ∷ rooms) less all =
    All-cons (λ room. few ≤ room) r rooms (let here = All-head (λ room. many ≤ room) r rooms all in omega (arith, less, here)) (room_for many few rooms less (All-tail (λ room. many ≤ room) r rooms all))

-- these cores, seats and records are left, and the others were given
pub record HiredSoFar (all : List Member) (cores : List NumberedCore) (seats : List SeatState) (records : List CoreRecord) (workers : ℕ) (teams : List Team) : Type 0 where
  pub given : List Member
  pub whole : mates cores seats records ++ given ≡ all
  pub same : length seats ≡ length cores
  pub alike : length records ≡ length cores
  pub count : length teams ≡ workers
  pub dealt : AreDealt (length cores) given (queues_of teams)
  pub room : HaveRoom (length all) teams

pub none_hired : (cores : List NumberedCore) (seats : List SeatState) (records : List CoreRecord) (teams : List Team) → length seats ≡ length cores → length records ≡ length cores → AreFree (length cores) teams
    → HiredSoFar (mates cores seats records) cores seats records (length teams) teams
none_hired cores seats records teams same alike free = record {
  given = [];
  whole = append-nil (mates cores seats records);
  same = same;
  alike = alike;
  count = refl;
  dealt = free.none;
  room = subst (λ (n : ℕ). HaveRoom n teams) (sym (mates_length cores seats records same alike)) free.room;
}

module _ (all : List Member) (cores : List NumberedCore) (seats : List SeatState) (records : List CoreRecord) (c : NumberedCore) (s : SeatState) (r : CoreRecord) (workers : ℕ) (teams : List Team)
    (so_far : HiredSoFar all (cores ++ c ∷ []) (seats ++ s ∷ []) (records ++ r ∷ []) workers teams) where
  abbrev m : Member
  m = record { core = c; seat = s; «record» = r }

  same_size : length seats ≡ length cores
  same_size = let a = length-append seats (s ∷ []) in let b = length-append cores (c ∷ []) in let same = so_far.same in omega (arith, a, b, same)

  alike_size : length records ≡ length cores
  alike_size = let a = length-append records (r ∷ []) in let b = length-append cores (c ∷ []) in let alike = so_far.alike in omega (arith, a, b, alike)

  whole_so_far : mates cores seats records ++ (m ∷ so_far.given) ≡ all
  whole_so_far =
      sym (append_assoc (mates cores seats records) (m ∷ []) so_far.given) ∙ (ap (λ ms. ms ++ so_far.given) (sym (mates_more cores seats records c s r same_size alike_size)) ∙ so_far.whole)

  behind : AreDealt (length cores + 1) so_far.given (queues_of teams)
  behind = subst (λ (n : ℕ). AreDealt n so_far.given (queues_of teams)) (length_push cores c) so_far.dealt

  -- the next can be given
  pub next_can : 0 < workers → CanGive (length cores) teams
  next_can some = record {
    some = (let n = so_far.count in omega (arith, some, n));
    items = so_far.given;
    dealt = behind;
    room = room_for (length all) (suc (length so_far.given)) (rooms_of teams) (let a = length-append (mates cores seats records) (m ∷ so_far.given) in let b = ap length whole_so_far in omega (arith, a, b)) so_far.room;
  }

  pub one_more_hired : (after : List Team) → length after ≡ length teams → rooms_of after ≡ rooms_of teams
      → ((given : List Member) → AreDealt (length cores + 1) given (queues_of teams) → AreDealt (length cores) (m ∷ given) (queues_of after)) → HiredSoFar all cores seats records workers after
  one_more_hired after as_many rooms give = record {
    given = m ∷ so_far.given;
    whole = whole_so_far;
    same = same_size;
    alike = alike_size;
    count = as_many ∙ so_far.count;
    dealt = give so_far.given behind;
    room = subst (All (λ (room : ℕ). length all ≤ room)) (sym rooms) so_far.room;
  }

pub all_hired : (all : List Member) (seats : List SeatState) (records : List CoreRecord) (workers : ℕ) (teams : List Team) → HiredSoFar all [] seats records workers teams → AreDealt 0 all (queues_of teams)
all_hired all seats records workers teams so_far = subst (λ (ms : List Member). AreDealt 0 ms (queues_of teams)) so_far.whole so_far.dealt
