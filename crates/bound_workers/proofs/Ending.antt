-- The cores of all workers, when they have run.
use Rattle.std.proofs.Common.{◌≡◌, ℕ, zero, suc, ◌+◌, ◌<◌, List, [], ◌∷◌, All, length, map, refl, sym, ◌∙◌, ap, subst, arith}
use Rattle.std.specs.Prelude.{slice_get, Some, None}
use Rattle.std.proofs.lemmas.List.{length-map}
use Rattle.std.proofs.lemmas.List.Elements.{All-cons, All-head, All-nil, All-tail}
use Rattle.std.proofs.lemmas.Option.{same_Some}
use Rattle.zs_num.specs.declared.entry.Entry.{Entry}
use Rattle.elf_load.specs.MemoryImage.{MemoryImage}
use Rattle.parts_table.specs.Access.{AreAllSeats, AreNewSeats, IsSeatOf, SeatState, TableState}
use Rattle.bound_core.specs.NumberedCores.{NumberedCore}
use Rattle.bound_records.specs.declared.record_port.CoreRecord.{CoreRecord}
use Rattle.bound_workers.specs.declared.member.Member.{Member}
use Rattle.bound_workers.specs.Team.{HaveRun}
use Rattle.bound_workers.specs.Member.{HasRun}
use Rattle.bound_workers.specs.Shares.{mates}
use Rattle.bound_workers.proofs.Shares.{mates_length}
use Rattle.bound_workers.proofs.Whole.{as_many, ran_at}

-- ---- lists

pub all_at : {X : Type 0} (P : X → Type 0) (xs : List X) → ((i : ℕ) (x : X) → slice_get xs i ≡ Some x → P x) → All P xs
all_at P [] each = All-nil P
all_at P (x ∷ xs) each = All-cons P x xs (each 0 x refl) (all_at P xs (λ i y at. each (suc i) y at))

pub all_here : {X : Type 0} (P : X → Type 0) (xs : List X) (i : ℕ) (x : X) → All P xs → slice_get xs i ≡ Some x → P x
all_here P [] i x all at = absurd (let none : None ≡ Some x = at in cc)
all_here P (y ∷ xs) zero x all at = subst P (same_Some y x at) (All-head P y xs all)
all_here P (y ∷ xs) (suc i) x all at = all_here P xs i x (All-tail P y xs all) at

pub mapped_at : {X Y : Type 0} (f : X → Y) (xs : List X) (i : ℕ) (x : X) → slice_get xs i ≡ Some x → slice_get (map f xs) i ≡ Some (f x)
mapped_at f [] i x at = absurd (let none : None ≡ Some x = at in cc)
mapped_at f (y ∷ xs) zero x at = ap (λ z. Some (f z)) (same_Some y x at)
mapped_at f (y ∷ xs) (suc i) x at = mapped_at f xs i x at

pub made_at : {X Y : Type 0} (f : X → Y) (xs : List X) (i : ℕ) (y : Y) → slice_get (map f xs) i ≡ Some y → (x : X) × (slice_get xs i ≡ Some x) × (f x ≡ y)
made_at f [] i y at = absurd (let none : None ≡ Some y = at in cc)
made_at f (x ∷ xs) zero y at = (x, refl, same_Some (f x) y at)
made_at f (x ∷ xs) (suc i) y at = made_at f xs i y at

pub same_lists : {X : Type 0} (xs ys : List X) → length xs ≡ length ys → ((i : ℕ) (x : X) → slice_get xs i ≡ Some x → slice_get ys i ≡ Some x) → xs ≡ ys
same_lists [] [] size each = refl
same_lists [] (y ∷ ys) size each = absurd (omega (arith, size))
same_lists (x ∷ xs) [] size each = absurd (omega (arith, size))
same_lists (x ∷ xs) (y ∷ ys) size each =
    let first : y ≡ x = same_Some y x (each 0 x refl) in
    let later : xs ≡ ys = same_lists xs ys (omega (arith, size)) (λ i z at. each (suc i) z at) in
    λ i. sym first i ∷ later i

pub mates_at : (cores : List NumberedCore) (seats : List SeatState) (records : List CoreRecord) (i : ℕ) (m : Member) → slice_get (mates cores seats records) i ≡ Some m
    → (slice_get cores i ≡ Some m.core) × (slice_get seats i ≡ Some m.seat) × (slice_get records i ≡ Some m.record)
mates_at [] seats records i m at = absurd (let none : None ≡ Some m = at in cc)
mates_at (c ∷ cores) [] records i m at = absurd (let none : None ≡ Some m = at in cc)
mates_at (c ∷ cores) (s ∷ seats) [] i m at = absurd (let none : None ≡ Some m = at in cc)
mates_at (c ∷ cores) (s ∷ seats) (r ∷ records) zero m at =
    let same : record { core = c; seat = s; «record» = r } ≡ m = same_Some (record { core = c; seat = s; «record» = r }) m at in
    (ap (λ (x : Member). Some x.core) same, ap (λ (x : Member). Some x.seat) same, ap (λ (x : Member). Some x.record) same)
mates_at (c ∷ cores) (s ∷ seats) (r ∷ records) (suc i) m at = mates_at cores seats records i m at

-- ---- the cores after the interval

some_at : {X : Type 0} (xs : List X) (i : ℕ) → i < length xs → (x : X) × (slice_get xs i ≡ Some x)
some_at [] i within = absurd (omega (arith, within))
some_at (x ∷ xs) zero within = (x, refl)
some_at (x ∷ xs) (suc i) within = some_at xs i (omega (arith, within))

module _ (time : Entry → ℕ) (image : MemoryImage) (end : ℕ) (t : TableState) (cores : List NumberedCore) (seats : List SeatState) (records : List CoreRecord) (now : List Member)
    (ran : HaveRun time image end t (mates cores seats records) now) (count : length cores ≡ t.cores) (new : AreNewSeats t seats) (many : length records ≡ length cores) where
  same_count : length seats ≡ length cores
  same_count = new.0 ∙ sym count

  pub size : length now ≡ t.cores
  size = as_many time image end t (mates cores seats records) now ran ∙ (mates_length cores seats records same_count many ∙ count)

  -- a core that ran, and what it was
  pub was : (i : ℕ) (n : Member) → slice_get now i ≡ Some n
      → (m : Member) × (slice_get cores i ≡ Some m.core) × (slice_get records i ≡ Some m.record) × IsSeatOf t m.seat × (m.seat.core ≡ i) × HasRun time image end t m n
  was i n at =
      let before = ran_at time image end t (mates cores seats records) now ran i n at in
      let all = mates_at cores seats records i before.0 before.1 in
      let seat = new.1 i before.0.seat all.1 in
      (before.0, all.0, all.2, seat.0, seat.1, before.2)

  pub seat_of : (i : ℕ) (n : Member) → slice_get now i ≡ Some n → IsSeatOf t n.seat × (n.seat.core ≡ i)
  seat_of i n at =
      let m = was i n at in
      let same = m.5.same_seat in (
        record { table = same.table ∙ m.3.table; opening = same.opening ∙ m.3.opening; cores = same.cores ∙ m.3.cores; banks = same.banks ∙ m.3.banks; room = same.room ∙ m.3.room },
        same.core ∙ m.4,
      )

  pub all_seats : AreAllSeats t (map (λ m. m.seat) now)
  all_seats = record {
    count = length-map now (λ (m : Member). m.seat) ∙ size;
    of_table = all_at (IsSeatOf t) (map (λ m. m.seat) now) (λ i s at.
        let n = made_at (λ (m : Member). m.seat) now i s at in subst (IsSeatOf t) n.2 (seat_of i n.0 n.1).0);
    each = λ core below.
        let n = some_at now core (omega (arith, below, size)) in
        (core, n.0.seat, mapped_at (λ (m : Member). m.seat) now core n.0 n.1, (seat_of core n.0 n.1).1);
  }
