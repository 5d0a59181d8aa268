-- What the cores of the tests can ask of a table of homes and L1s.
use Rattle.std.proofs.Common.{◌≡◌, ℕ, ◌%◌, ◌<◌, ◌+◌, List, [], ◌∷◌, get_or, length, map, None, Some, slice_get, refl, sym, ◌∙◌, ap, subst, arith, zero, suc, mod-lt, false, true≢false}
use Rattle.std.proofs.lemmas.List.{length-replicate, length_push}
use Rattle.std.proofs.lemmas.List.Elements.{All-cons, All-nil}
use Rattle.std.proofs.lemmas.Option.{same_Some}
use Rattle.std.specs.Prelude.{IfSome, Option}
use Rattle.std.specs.List.{range_with_len}
use Rattle.machine_desc.specs.declared.machine.Machine.{Machine}
use Rattle.elf_load.specs.MemoryImage.{MemoryImage}
use Rattle.zs_num.specs.Request.{bank_of, bank_of_line, line_of}
use Rattle.zs_num.specs.Servable.{IsServable}
use Rattle.zs_num.specs.declared.entry.Entry.{Entry}
use Rattle.zs_num.specs.declared.request.Request.{Request}
use Rattle.shard.specs.HaveL1i.{have_l1i}
use Rattle.shard.specs.Served.{CanServe, KnowsCore, ShardState, new_shard, resumed}
use Rattle.shard.specs.StandsFor.{new_shards}
use Rattle.parts_table.specs.Access.{AreAllSeats, AreNewSeats, CanAsk, IsAccess, IsSameSeat, IsSeatOf, SeatState, TableState, opening_shards}
use Rattle.parts_table.specs.KeptKeys.{BlocksState, first_of, no_key}
use Rattle.parts_table.specs.NextKeys.{number_of_keys}
use Rattle.parts_table.specs.Places.{PlacesState}
use Rattle.parts_table.specs.World.{MayAsk, world_of}
use Rattle.parts_table.specs.declared.part.TimedPart.{TimedPart}
use Rattle.reference.proofs.MoreServable.{more_servable}
use Rattle.table_tests.specs.PartsTested.{HasAll, IsOneShard, IsPartsTested, IsResting}

pub new_is_one : (m : Machine) (image : MemoryImage) → m.cores ≡ 2 → m.l2.banks ≡ 1 → image.base ≡ 65536 → image.size ≡ 1048576 → IsOneShard (new_shards m image)
new_is_one m image cores banks base size = (
  new_shard m 0 image,
  ap (λ (n : ℕ). map (λ (number : ℕ). new_shard m number image) (range_with_len 0 n)) banks,
  record { number_is = refl; base = base; size = size; banks_are = banks; cores = length-replicate m.cores None ∙ cores },
)

-- another last stamp changes nothing of that
pub resumed_is_one : (shards : List ShardState) → IsOneShard shards → IsOneShard (map (λ (s : ShardState). resumed s 0) shards)
resumed_is_one shards one =
    let has = one.2 in (
      resumed one.0 0,
      ap (map (λ (s : ShardState). resumed s 0)) one.1,
      record { number_is = has.number_is; base = has.base; size = has.size; banks_are = has.banks_are; cores = has.cores },
    )

only_bank : (line : ℕ) → line % 1 ≡ 0
only_bank line =
    let some : 0 < 1 = omega arith in
    let low : line % 1 < 1 = mod-lt line some in
    omega (arith, low)

can_serve : (shard : ShardState) → HasAll shard → (request : Request) → IsServable 65536 1048576 false request → CanServe shard request
unfolding CanServe
can_serve shard has request can = (
  subst (λ (base : ℕ). IsServable base shard.size (have_l1i shard.caches) request) (sym has.base)
      (subst (λ (size : ℕ). IsServable 65536 size (have_l1i shard.caches) request) (sym has.size)
      (more_servable 65536 1048576 false (have_l1i shard.caches) request (λ is. absurd (true≢false (sym is))) can)),
  ap (λ (n : ℕ). bank_of_line n (line_of request)) has.banks_are ∙ (only_bank (line_of request) ∙ sym has.number_is),
)

-- what the shards may be asked, the parts may be
abbrev pub MayAskParts : TableState → Type 0
MayAskParts t = (core : ℕ) (request : Request) (shard : ShardState) → slice_get (opening_shards t) (bank_of t.banks request) ≡ Some shard
    → KnowsCore shard core → CanServe shard request → MayAsk t.cores t.banks (world_of t.opening) core request

pub may_ask : (t : TableState) → IsPartsTested t → MayAskParts t → (core : ℕ) (request : Request) → core < 2 → IsServable 65536 1048576 false request
    → MayAsk t.cores t.banks (world_of t.opening) core request
may_ask t is law core request few can =
    let one = is.shards in
    let shard : ShardState = one.0 in
    let has : HasAll shard = one.2 in
    let at : slice_get (opening_shards t) (bank_of t.banks request) ≡ Some shard =
    ap (λ (n : ℕ). slice_get (opening_shards t) (bank_of n request)) is.banks
    ∙ (ap (λ (n : ℕ). slice_get (opening_shards t) n) (only_bank (line_of request)) ∙ ap (λ (xs : List ShardState). slice_get xs 0) one.1)
    in
    law core request shard at (subst (λ (n : ℕ). core < n) (sym has.cores) few) (can_serve shard has request can)

-- a seat stays at its table
pub seat_stays : (table : TableState) (before later : SeatState) → IsSeatOf table before → IsSameSeat before later → IsSeatOf table later
seat_stays table before later of same = record {
  table = same.table ∙ of.table;
  opening = same.opening ∙ of.opening;
  cores = same.cores ∙ of.cores;
  banks = same.banks ∙ of.banks;
  room = same.room ∙ of.room;
}

-- the seats of a new table
abbrev pub IsNew : TableState → (core : ℕ) → SeatState → Type 0
IsNew t core seat = IsSeatOf t seat × (seat.core ≡ core) × (seat.made ≡ [])

pub new_seats : (t : TableState) (first second : SeatState) → AreNewSeats t (first ∷ second ∷ []) → IsNew t 0 first × IsNew t 1 second
new_seats t first second new = (new.1 0 first refl, new.1 1 second refl)

-- the seats of two cores are all
pub are_both : (t : TableState) (first second : SeatState) → t.cores ≡ 2 → IsSeatOf t first → first.core ≡ 0 → IsSeatOf t second → second.core ≡ 1 → AreAllSeats t (first ∷ second ∷ [])
are_both t first second cores one zeroth two other = record {
  count = sym cores;
  of_table = All-cons (IsSeatOf t) first (second ∷ []) one (All-cons (IsSeatOf t) second [] two (All-nil (IsSeatOf t)));
  each = λ core few. here core (subst (λ (n : ℕ). core < n) cores few);
}
  where
    here : (core : ℕ) → core < 2 → (place : ℕ) × (seat : SeatState) × (slice_get (first ∷ second ∷ []) place ≡ Some seat) × (seat.core ≡ core)
    here zero few = (0, first, refl, zeroth)
    here (suc zero) few = (1, second, refl, other)
    here (suc (suc n)) few = absurd (omega (arith, few))

-- how a seat changes while a core works
pub same_seats : (before later last : SeatState) → IsSameSeat before later → IsSameSeat later last → IsSameSeat before last
same_seats before later last one two = record {
  table = two.table ∙ one.table;
  core = two.core ∙ one.core;
  opening = two.opening ∙ one.opening;
  cores = two.cores ∙ one.cores;
  banks = two.banks ∙ one.banks;
  room = two.room ∙ one.room;
}

-- a core at rest again
pub rests : (t : TableState) (core made later : ℕ) (seat after : SeatState) (places back : PlacesState) → IsResting core made t seat places → t.cores ≡ 2 → IsSameSeat seat after
    → length after.made ≡ later → (length back.l1s ≡ t.cores) × (back.filled ≡ 0) → IsResting core later t after back
rests t core made later seat after places back at cores same count empty = record {
  seat_of = seat_stays t seat after at.seat_of same;
  core_is = same.core ∙ at.core_is;
  few = at.few;
  count = count;
  places_are = empty.0 ∙ cores;
  empty = empty.1;
}

-- one access more
pub one_more : (before later : SeatState) (start made : ℕ) (request : Request) (e : Entry) → IsAccess before later start request e → length before.made ≡ made → length later.made ≡ made + 1
one_more before later start made request e is count =
    ap length is.access.2 ∙ (length_push before.made (record { entry = e; time = is.access.0; shared = is.access.1 }) ∙ ap (λ (n : ℕ). n + 1) count)

-- ---- a new table

pub first_has_two : (shards : List ShardState) → IsOneShard shards → (shard : ShardState) → slice_get shards 0 ≡ Some shard → length shard.marks ≡ 2
first_has_two shards one shard at =
    let has = one.2 in
    ap (λ (s : ShardState). length s.marks) (sym (same_Some one.0 shard (sym (ap (λ (xs : List ShardState). slice_get xs 0) one.1) ∙ at))) ∙ has.cores

pub one_long : (shards : List ShardState) → IsOneShard shards → length shards ≡ 1
one_long shards one = ap length one.1

pub tested : (t : TableState) (shards : List ShardState) → IsOneShard shards → opening_shards t ≡ map (λ (s : ShardState). resumed s 0) shards
    → t.cores ≡ 2 → t.banks ≡ length shards → t.room ≡ 2001 → IsPartsTested t
tested t shards one is cores banks room = record {
  room = room;
  cores = cores;
  banks = banks ∙ one_long shards one;
  shards = subst IsOneShard (sym is) (resumed_is_one shards one);
}

-- a new core is at rest
pub new_rests : (t : TableState) (core : ℕ) (seat : SeatState) (places : PlacesState) → IsNew t core seat → core < 2 → length places.l1s ≡ 2 → places.filled ≡ 0 → IsResting core 0 t seat places
new_rests t core seat places new few count empty = record {
  seat_of = new.0;
  core_is = new.1;
  few = few;
  count = ap length new.2;
  places_are = count;
  empty = empty;
}

-- ---- keys

pub two_lists : (blocks : List BlocksState) (ks ls : List ℕ) → map (λ (b : BlocksState). b.keys) blocks ≡ ks ∷ ls ∷ [] → (length blocks ≡ 2) × (number_of_keys blocks ≡ length ks + length ls)
two_lists [] ks ls is = absurd (let no = ap length is in omega (arith, no))
two_lists (a ∷ []) ks ls is = absurd (let no = ap length is in omega (arith, no))
two_lists (a ∷ b ∷ []) ks ls is =
    let one : length a.keys ≡ length ks = ap (λ (xs : List (List ℕ)). length (get_or xs 0 [])) is in
    let two : length b.keys ≡ length ls = ap (λ (xs : List (List ℕ)). length (get_or xs 1 [])) is in
    (refl, omega (arith, one, two))
two_lists (a ∷ b ∷ c ∷ blocks) ks ls is = absurd (let no = ap length is in omega (arith, no))

pub some_key : (keys : List ℕ) (key : ℕ) → key ≡ first_of keys → key < no_key → 0 < length keys
some_key [] key is low = absurd (omega (arith, is, low))
some_key (k ∷ keys) key is low = omega arith

-- a core that comes to work may ask
pub can_ask : (t : TableState) → IsPartsTested t → MayAskParts t → (core made : ℕ) (seat later : SeatState) (places : PlacesState) (request : Request) → IsResting core made t seat places
    → IsSameSeat seat later → length later.made < 2001 → IsServable 65536 1048576 false request → CanAsk t later request
can_ask t is law core made seat later places request at same room can = (
  subst (λ (n : ℕ). length later.made < n) (sym is.room) room,
  subst (λ (n : ℕ). MayAsk t.cores t.banks (world_of t.opening) n request) (sym (same.core ∙ at.core_is)) (may_ask t is law core request at.few can),
)

-- the same of what its seat knows
pub can_ask_alone : (t : TableState) → IsPartsTested t → MayAskParts t → (core made : ℕ) (seat later : SeatState) (places : PlacesState) (request : Request) → IsResting core made t seat places
    → IsSameSeat seat later → IsServable 65536 1048576 false request → MayAsk later.knows.cores later.knows.banks (world_of later.knows.opening) later.core request
can_ask_alone t is law core made seat later places request at same can =
    let of = seat_stays t seat later at.seat_of same in
    subst (λ (n : ℕ). MayAsk later.knows.cores later.knows.banks (world_of later.knows.opening) n request) (sym (same.core ∙ at.core_is))
    (subst (λ (parts : List (Option TimedPart)). MayAsk later.knows.cores later.knows.banks (world_of parts) core request) (sym of.opening)
    (subst (λ (n : ℕ). MayAsk later.knows.cores n (world_of t.opening) core request) (sym of.banks)
    (subst (λ (n : ℕ). MayAsk n t.banks (world_of t.opening) core request) (sym of.cores) (may_ask t is law core request at.few can))))

-- what follows for an answer, if there is one
pub if_some : {X : Type 0} (o : Option X) (P Q : X → Type 0) → ((x : X) → P x → Q x) → IfSome o P → IfSome o Q
if_some None P Q follows p = tt
if_some (Some x) P Q follows p = follows x p
