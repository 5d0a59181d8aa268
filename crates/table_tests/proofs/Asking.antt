-- What the cores of the tests can ask of the shards of their table, and what can be asked of these when it is closed.
use Rattle.std.proofs.Common.{◌≡◌, ℕ, ◌%◌, ◌<◌, ◌++◌, Bool, List, [], ◌∷◌, length, Option, None, Some, slice_get, get_or, refl, sym, ◌∙◌, ap, subst, arith, zero, suc, mod-lt, false, true≢false}
use Rattle.std.proofs.lemmas.List.{length-map, length-replicate}
use Rattle.std.proofs.lemmas.List.Elements.{All-cons, All-nil}
use Rattle.std.proofs.lemmas.Option.{same_Some, none-some}
use Rattle.std.specs.List.{fold}
use Rattle.std.specs.Option.{option_map}
use Rattle.machine_desc.specs.declared.machine.Machine.{Machine}
use Rattle.elf_load.specs.MemoryImage.{MemoryImage}
use Rattle.zs_num.specs.Request.{line_of, bank_of}
use Rattle.zs_num.specs.Servable.{IsServable}
use Rattle.zs_num.specs.declared.entry.Entry.{Entry}
use Rattle.zs_num.specs.declared.request.Request.{Request}
use Rattle.access_log.specs.History.{bank_of_entry, each_after, of_number}
use Rattle.access_log.specs.Laws.{EachHasItsOwn}
use Rattle.shard.specs.HaveL1i.{have_l1i}
use Rattle.shard.specs.Laws.{StillServes}
use Rattle.shard.specs.Served.{CanServe, ShardState, new_shard, resumed, shard_after}
use Rattle.shard_table.specs.Access.{AreAllSeats, AreNewSeats, IsSameSeat, IsSeatOf, SeatState, TableState, restarted_shards}
use Rattle.shard_table.specs.Lives.{MayAsk}
use Rattle.reference.proofs.MoreServable.{more_servable}
use Rattle.table_tests.specs.Tested.{AreOf, IsAt, IsOf, IsTested}

some_at : (xs : List ShardState) (i : ℕ) → i < length xs → (x : ShardState) × (slice_get xs i ≡ Some x)
some_at [] i l = absurd (omega arith)
some_at (x ∷ xs) zero l = (x, refl)
some_at (x ∷ xs) (suc i) l = some_at xs i (omega arith)

pub first_there : (xs : List ShardState) (d : ShardState) → 0 < length xs → slice_get xs 0 ≡ Some (get_or xs 0 d)
first_there [] d l = absurd (omega arith)
first_there (x ∷ xs) d l = refl

-- a shard with another last stamp is of the same number and memory
pub restarted_of : (banks : ℕ) (shards : List ShardState) → AreOf banks shards → AreOf banks (restarted_shards shards)
restarted_of banks shards are number shard at = by_case (slice_get shards number) refl (sym (get_restarted shards number) ∙ at)
  where
    get_restarted : (xs : List ShardState) (i : ℕ) → slice_get (restarted_shards xs) i ≡ option_map (λ (x : ShardState). resumed x 0) (slice_get xs i)
    get_restarted [] i = refl
    get_restarted (x ∷ xs) zero = refl
    get_restarted (x ∷ xs) (suc i) = get_restarted xs i

    by_case : (o : Option ShardState) → slice_get shards number ≡ o → option_map (λ (x : ShardState). resumed x 0) o ≡ Some shard → IsOf banks number shard
    by_case None is h = absurd (none-some shard h)
    by_case (Some x) is h =
        let of = are number x is in
        subst (IsOf banks number) (same_Some (resumed x 0) shard h)
        (record { number_is = of.number_is; base = of.base; size = of.size; banks_are = of.banks_are; cores = of.cores })

pub new_is : (m : Machine) (image : MemoryImage) (number : ℕ) → m.cores ≡ 2 → image.base ≡ 65536 → image.size ≡ 1048576 → IsOf m.l2.banks number (new_shard m number image)
new_is m image number cores base size = record {
  number_is = refl;
  base = base;
  size = size;
  banks_are = refl;
  cores = length-replicate m.cores None ∙ cores;
}

-- one shard more
pub one_more_of : (banks : ℕ) (shards : List ShardState) (one : ShardState) → AreOf banks shards → IsOf banks (length shards) one → AreOf banks (shards ++ one ∷ [])
one_more_of banks shards one are is number shard at = here (IsOf banks) shards are is number at
  where
    here : (P : ℕ → ShardState → Type 0) (xs : List ShardState) → ((n : ℕ) (s : ShardState) → slice_get xs n ≡ Some s → P n s) → P (length xs) one
        → (n : ℕ) → slice_get (xs ++ one ∷ []) n ≡ Some shard → P n shard
    here P [] each last zero h = subst (P 0) (same_Some one shard h) last
    here P [] each last (suc n) h = absurd (none-some shard h)
    here P (x ∷ xs) each last zero h = each 0 shard h
    here P (x ∷ xs) each last (suc n) h = here (λ m. P (suc m)) xs (λ m s g. each (suc m) s g) last n h

-- what can be asked where no core fetches can be asked of any shard
of_any : (l1i : Bool) (request : Request) → IsServable 65536 1048576 false request → IsServable 65536 1048576 l1i request
of_any l1i request can = more_servable 65536 1048576 false l1i request (λ is. absurd (true≢false (sym is))) can

module _ (banks : ℕ) (table : TableState) (is : IsTested banks table) where
  can_serve : 0 < banks → (number : ℕ) (shard : ShardState) (request : Request) → slice_get table.shards number ≡ Some shard → IsServable 65536 1048576 false request → line_of request % banks ≡ number
      → CanServe shard request
  unfolding CanServe
  can_serve some number shard request at can own =
      let of = is.shards number shard at in (
        subst (λ (base : ℕ). IsServable base shard.size (have_l1i shard.caches) request) (sym of.base)
            (subst (λ (size : ℕ). IsServable 65536 size (have_l1i shard.caches) request) (sym of.size) (of_any (have_l1i shard.caches) request can)),
        ap (λ (n : ℕ). line_of request % n) of.banks_are ∙ (own ∙ sym of.number_is),
      )

  pub may_ask : 0 < banks → (core : ℕ) (request : Request) → core < 2 → IsServable 65536 1048576 false request → MayAsk table.shards core request
  may_ask some core request few can =
      let number : ℕ = bank_of (length table.shards) request in
      let at = some_at table.shards number (mod-lt (line_of request) (omega (arith, is.count, some))) in
      let of = is.shards number at.0 at.1 in (
        at.0,
        at.1,
        subst (λ (cores : ℕ). core < cores) (sym of.cores) few,
        can_serve some number at.0 request at.1 can (ap (λ (n : ℕ). line_of request % n) (sym is.count)),
      )

  -- the shards of a closed table can be asked what they could be
  module _ (its_own : EachHasItsOwn ShardState) (still : StillServes) where
    serves_after : (shard : ShardState) (entries : List Entry) (request : Request) → CanServe shard request → CanServe (fold shard_after shard entries) request
    serves_after shard [] request can = can
    serves_after shard (e ∷ entries) request can = serves_after (shard_after shard e) entries request (still shard e request can)

    pub closed_serve : 0 < banks → (entries : List Entry) (shards : List ShardState) → shards ≡ each_after shard_after (bank_of_entry (length table.shards)) entries table.shards
        → (number : ℕ) (shard : ShardState) (request : Request) → slice_get shards number ≡ Some shard → IsServable 65536 1048576 false request → line_of request % banks ≡ number → CanServe shard request
    closed_serve some entries shards left number shard request at can own =
        by_case (slice_get table.shards number) refl
        (sym (its_own shard_after (bank_of_entry (length table.shards)) entries table.shards number) ∙ (ap (λ (xs : List ShardState). slice_get xs number) (sym left) ∙ at))
      where
        by_case : (o : Option ShardState) → slice_get table.shards number ≡ o → option_map (λ (x : ShardState). fold shard_after x (of_number (bank_of_entry (length table.shards)) number entries)) o ≡ Some shard → CanServe shard request
        by_case None none h = absurd (none-some shard h)
        by_case (Some x) there h =
            subst (λ (s : ShardState). CanServe s request) (same_Some (fold shard_after x (of_number (bank_of_entry (length table.shards)) number entries)) shard h)
            (serves_after x (of_number (bank_of_entry (length table.shards)) number entries) request (can_serve some number x request there can own))

-- a seat stays where it is
pub seat_stays : (table : TableState) (before later : SeatState) → IsSeatOf table before → IsSameSeat before later → IsSeatOf table later
seat_stays table before later of same = record {
  table = same.table ∙ of.table;
  shards = same.shards ∙ of.shards;
  cores = same.cores ∙ of.cores;
  room = same.room ∙ of.room;
}

pub stays : (core : ℕ) (table : TableState) (before later : SeatState) → IsAt core table before → IsSameSeat before later → IsAt core table later
stays core table before later at same = record { seat_of = seat_stays table before later at.seat_of same; core_is = same.core ∙ at.core_is }

-- a new table of shards
pub tested : (banks : ℕ) (shards : List ShardState) (t : TableState) → length shards ≡ banks → AreOf banks shards → t.shards ≡ restarted_shards shards → t.cores ≡ 2 → t.room ≡ 1000 → IsTested banks t
tested banks shards t count of is cores room = record {
  room = room;
  cores = cores;
  count = ap (λ (xs : List ShardState). length xs) is ∙ (length-map shards (λ (shard : ShardState). resumed shard 0) ∙ count);
  shards = subst (AreOf banks) (sym is) (restarted_of banks shards of);
}

-- the seats of a new table
pub new_seats : (t : TableState) (first second : SeatState) → AreNewSeats t (first ∷ second ∷ []) → IsAt 0 t first × IsAt 1 t second × (first.entries ≡ []) × (second.entries ≡ [])
new_seats t first second new =
    let one = new.1 0 first refl in
    let two = new.1 1 second refl in
    (record { seat_of = one.0; core_is = one.1 }, record { seat_of = two.0; core_is = two.1 }, one.2, two.2)

-- the seats of two cores are all
pub are_both : (t : TableState) (first second : SeatState) → t.cores ≡ 2 → IsAt 0 t first → IsAt 1 t second → AreAllSeats t (first ∷ second ∷ [])
are_both t first second cores one two = record {
  count = sym cores;
  of_table = All-cons (IsSeatOf t) first (second ∷ []) one.seat_of (All-cons (IsSeatOf t) second [] two.seat_of (All-nil (IsSeatOf t)));
  each = λ core few. here core (subst (λ (n : ℕ). core < n) cores few);
}
  where
    here : (core : ℕ) → core < 2 → (place : ℕ) × (seat : SeatState) × (slice_get (first ∷ second ∷ []) place ≡ Some seat) × (seat.core ≡ core)
    here zero few = (0, first, refl, one.core_is)
    here (suc zero) few = (1, second, refl, two.core_is)
    here (suc (suc n)) few = absurd (omega (arith, few))
