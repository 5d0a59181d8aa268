-- Shards stand for one machine after an access to a line of one of them, if they did before.
use Rattle.std.proofs.Common.{◌≡◌, ◌≢◌, ℕ, ◌-◌, ◌%◌, ◌<◌, Bool, List, [], length, get_or, map, set, Option, Some, refl, sym, ap, ◌∙◌, subst, arith}
use Rattle.std.specs.Prelude.{slice_get}
use Rattle.std.proofs.lemmas.List.{get_or-map, length-map, length-set, map-set}
use Rattle.std.proofs.lemmas.Option.{get_or_from_slice_get, slice_get_within}
use Rattle.zs_num.specs.Request.{addr_of, line_of, line_at}
use Rattle.zs_num.specs.Servable.{IsServable}
use Rattle.zs_num.specs.declared.entry.Entry.{Entry}
use Rattle.flat_memory.specs.declared.reservation.Reservation.{Reservation}
use Rattle.shard.specs.Coherence.{Caches, caches_after, outcome_of}
use Rattle.shard.specs.Laws.{ShardsStandForAMachine}
use Rattle.shard.specs.Marks.{MarkedMemory, bytes_after, marked_after, marked_reply, marks_after, marks_for, reply_from}
use Rattle.shard.specs.Served.{ShardState, met_by, place_of, shard_after, shard_reply}
use Rattle.shard.specs.StandsFor.{AreCoherent, HaveRoomForLines, KeepsLine, StandFor}
use Rattle.shard.proofs.Coherent.{coherent_stays}
use Rattle.shard.proofs.CoherentLists.{each_after_set}
use Rattle.shard.proofs.CoherentPlaced.{Placed}
use Rattle.shard.proofs.CoherentSets.{placed_of_sets}
use Rattle.shard.proofs.Kept.{length-marks_after, shards_stay}
use Rattle.shard.proofs.StandsForApart.{access_apart}
use Rattle.shard.proofs.StandsForBytes.{Share}
use Rattle.shard.proofs.StandsForPart.{Part, outcome_same}
use Rattle.shard.proofs.StandsForShare.{length-bytes_after, reply_same, share_after, share_apart}
use Rattle.shard.proofs.StandsForSteps.{access_part}

-- ---- one shard of those that stand for a machine
pub record Stands (n : ℕ) (memory : MarkedMemory) (c : Caches) (j : ℕ) (t : ShardState) : Type 0 where
  pub number : t.number ≡ j
  pub base : t.base ≡ memory.base
  pub size : t.size ≡ length memory.bytes
  pub part : Part n j c t.caches
  pub share : Share n j memory.base memory.bytes t.bytes
  pub cores : length t.marks ≡ length c.l1

pub each_stands : (shards : List ShardState) (memory : MarkedMemory) (c : Caches) → StandFor shards memory c → (j : ℕ) (t : ShardState) → slice_get shards j ≡ Some t → Stands (length shards) memory c j t
each_stands shards memory c h j t e =
    let keeps : (line : ℕ) → line % length shards ≡ j → KeepsLine shards line t = λ line is. subst (λ (i : ℕ). slice_get shards i ≡ Some t) (sym is) e in
    record {
      number = h.are.number j t e;
      base = h.are.base j t e;
      size = h.are.size j t e;
      part = record {
        whole = h.whole;
        count = h.are.count j t e;
        l1_ways = h.l1_ways j t e;
        l1i_ways = h.l1i_ways j t e;
        l2_ways = h.l2_ways j t e;
        cores = (h.cores j t e).0;
        fetchers = h.fetchers j t e;
        l1 = λ core. record { many = h.l1_sets j core t e; same = λ line is. h.l1 core line t (keeps line is) };
        l1i = λ core. record { many = h.l1i_sets j core t e; same = λ line is. h.l1i core line t (keeps line is) };
        l2 = record { many = h.l2_sets j t e; same = λ line is. h.l2 line t (keeps line is) };
      };
      share = record { bytes = λ addr from below is. h.bytes addr t from below (keeps (line_at addr) is) };
      cores = (h.cores j t e).1;
    }

pub stand_from : (shards : List ShardState) (memory : MarkedMemory) (c : Caches) → ((j : ℕ) (t : ShardState) → slice_get shards j ≡ Some t → Stands (length shards) memory c j t)
    → memory.marks ≡ map (λ s. s.marks) shards → c.shards ≡ 1 → AreCoherent c → HaveRoomForLines c → StandFor shards memory c
stand_from shards memory c each marks whole coherent room = record {
  are = record {
    number = λ j t e. (each j t e).number;
    count = λ j t e. (each j t e).part.count;
    base = λ j t e. (each j t e).base;
    size = λ j t e. (each j t e).size;
  };
  bytes = λ addr t from below k. (each (line_at addr % length shards) t k).share.bytes addr from below refl;
  marks = marks;
  whole = whole;
  l1 = λ core line t k. ((each (line % length shards) t k).part.l1 core).same line refl;
  l1i = λ core line t k. ((each (line % length shards) t k).part.l1i core).same line refl;
  l2 = λ line t k. (each (line % length shards) t k).part.l2.same line refl;
  l1_sets = λ j core t e. ((each j t e).part.l1 core).many;
  l1i_sets = λ j core t e. ((each j t e).part.l1i core).many;
  l2_sets = λ j t e. (each j t e).part.l2.many;
  cores = λ j t e. ((each j t e).part.cores, (each j t e).cores);
  fetchers = λ j t e. (each j t e).part.fetchers;
  l1_ways = λ j t e. (each j t e).part.l1_ways;
  l1i_ways = λ j t e. (each j t e).part.l1i_ways;
  l2_ways = λ j t e. (each j t e).part.l2_ways;
  coherent = coherent;
  room = room;
}

-- ---- one access, with instruction caches or without
module _ {l1i : Bool} (shards : List ShardState) (memory : MarkedMemory) (c : Caches) (s : ShardState) (entry : Entry) (h : StandFor shards memory c) (k : KeepsLine shards (line_of entry.request) s)
    (can : IsServable memory.base (length memory.bytes) l1i entry.request) (known : entry.core < length c.l1) where
  abbrev n : ℕ
  n = length shards

  abbrev number : ℕ
  number = line_of entry.request % n

  within : number < n
  within = slice_get_within shards number s k

  some : 0 < n
  some = omega (arith, within)

  own : Stands n memory c number s
  own = each_stands shards memory c h number s k

  placed : Placed c
  placed = placed_of_sets c h.coherent.sets

  marks_count : length memory.marks ≡ n
  marks_count = ap (λ (m : List (List (Option Reservation))). length m) h.marks ∙ length-map shards (λ (t : ShardState). t.marks)

  shard_is : line_of entry.request % length memory.marks ≡ number
  shard_is = ap (λ (x : ℕ). line_of entry.request % x) marks_count

  marks_are : marks_for memory entry.request ≡ s.marks
  marks_are =
      ap (λ (x : ℕ). get_or memory.marks x []) shard_is
      ∙ (ap (λ (m : List (List (Option Reservation))). get_or m number []) h.marks
      ∙ (get_or-map (λ (t : ShardState). t.marks) shards number s [] within
      ∙ ap (λ (t : ShardState). t.marks) (get_or_from_slice_get shards number s s k)))

  place_is : place_of s.caches.shards s.base (addr_of entry.request) ≡ place_of n memory.base (addr_of entry.request)
  place_is = rw (own.part.count, own.base) refl

  step_reply : shard_reply s entry ≡ marked_reply memory entry.core entry.request
  unfolding shard_reply
  step_reply =
      ap (λ (x : ℕ). reply_from s.bytes x s.marks entry.core entry.request) place_is
      ∙ (reply_same n number memory.base some memory.bytes s.bytes own.share s.marks entry.core entry.request can refl
      ∙ ap (λ (m : List (Option Reservation)). reply_from memory.bytes (addr_of entry.request - memory.base) m entry.core entry.request) (sym marks_are))

  step_outcome : met_by s entry ≡ outcome_of c entry.core entry.request
  unfolding met_by
  step_outcome = sym (outcome_same n number c s.caches own.part some placed entry.core entry.request refl)

  abbrev left : MarkedMemory
  left = marked_after memory entry.core entry.request

  abbrev caches_left : Caches
  caches_left = caches_after c entry.core entry.request

  bytes_left : length left.bytes ≡ length memory.bytes
  bytes_left = length-bytes_after memory.base memory.bytes (marks_for memory entry.request) entry.core entry.request can

  coherent_left : AreCoherent caches_left × HaveRoomForLines caches_left × (length caches_left.l1 ≡ length c.l1) × (length caches_left.l1i ≡ length c.l1i)
  coherent_left = coherent_stays c entry.core entry.request h.coherent h.room known

  own_left : Stands n left caches_left number (shard_after s entry)
  unfolding shard_after
  own_left =
      let marks : List (Option Reservation) = marks_for memory entry.request in
      let place : ℕ = place_of n memory.base (addr_of entry.request) in
      let shared : Share n number memory.base left.bytes (bytes_after s.bytes place marks entry.core entry.request)
      = share_after n number memory.base some memory.bytes s.bytes own.share marks entry.core entry.request can refl in
      record {
        number = own.number;
        base = own.base;
        size = own.size ∙ sym bytes_left;
        part = access_part n number some c s.caches own.part placed entry.core entry.request refl;
        share =
            subst (λ (x : ℕ). Share n number memory.base left.bytes (bytes_after s.bytes x s.marks entry.core entry.request)) (sym place_is)
            (subst (λ (m : List (Option Reservation)). Share n number memory.base left.bytes (bytes_after s.bytes place m entry.core entry.request)) marks_are shared);
        cores = length-marks_after s.marks entry.core entry.request ∙ (own.cores ∙ sym coherent_left.2);
      }

  other_left : (j : ℕ) (t : ShardState) → j ≢ number → slice_get shards j ≡ Some t → Stands n left caches_left j t
  other_left j t apart e =
      let was : Stands n memory c j t = each_stands shards memory c h j t e in
      let other : number ≢ j = λ same. apart (sym same) in
      record {
        number = was.number;
        base = was.base;
        size = was.size ∙ sym bytes_left;
        part = access_apart n j some t.caches c was.part placed entry.core entry.request other;
        share = share_apart n j memory.base some memory.bytes t.bytes was.share (marks_for memory entry.request) entry.core entry.request can other;
        cores = was.cores ∙ sym coherent_left.2;
      }

  abbrev shards_left : List ShardState
  shards_left = set shards number (shard_after s entry)

  marks_left : left.marks ≡ map (λ t. t.marks) shards_left
  unfolding shard_after
  marks_left =
      ap (λ (x : ℕ). set memory.marks x (marks_after (marks_for memory entry.request) entry.core entry.request)) shard_is
      ∙ (ap (λ (m : List (Option Reservation)). set memory.marks number (marks_after m entry.core entry.request)) marks_are
      ∙ (ap (λ (m : List (List (Option Reservation))). set m number (marks_after s.marks entry.core entry.request)) h.marks
      ∙ sym (map-set (λ (t : ShardState). t.marks) shards number (shard_after s entry))))

  stand_left : StandFor shards_left left caches_left
  stand_left =
      let long : length shards_left ≡ n = length-set shards number (shard_after s entry) in
      stand_from shards_left left caches_left
      (λ j t e. subst (λ (m : ℕ). Stands m left caches_left j t) (sym long) (each_after_set (λ i x. Stands n left caches_left i x) shards number (shard_after s entry) within own_left other_left j t e))
      marks_left (shards_stay c entry.core entry.request ∙ h.whole) coherent_left.0 coherent_left.1

pub stand_after : {l1i : Bool} (shards : List ShardState) (memory : MarkedMemory) (c : Caches) (s : ShardState) (entry : Entry)
    → StandFor shards memory c → KeepsLine shards (line_of entry.request) s → IsServable memory.base (length memory.bytes) l1i entry.request → entry.core < length c.l1
    → (shard_reply s entry ≡ marked_reply memory entry.core entry.request)
    × (met_by s entry ≡ outcome_of c entry.core entry.request)
    × StandFor (set shards s.number (shard_after s entry)) (marked_after memory entry.core entry.request) (caches_after c entry.core entry.request)
stand_after shards memory c s entry h k can known =
    let n : ℕ = length shards in (
      step_reply shards memory c s entry h k can known,
      step_outcome shards memory c s entry h k can known,
      subst (λ (i : ℕ). StandFor (set shards i (shard_after s entry)) (marked_after memory entry.core entry.request) (caches_after c entry.core entry.request)) (sym (own shards memory c s entry h k can known).number)
          (stand_left shards memory c s entry h k can known),
    )

pub shards_stand : ShardsStandForAMachine
shards_stand shards memory c s entry h k can known = stand_after shards memory c s entry h k can known
