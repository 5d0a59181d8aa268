-- What shards answer to a list of accesses is what one machine with one flat memory does.
use Rattle.std.proofs.Common.{◌≡◌, ℕ, ◌%◌, ◌<◌, Bool, List, [], ◌∷◌, length, get_or, map, set, replicate, Option, Some, None, refl, sym, ap, ◌∙◌, subst, arith}
use Rattle.std.specs.List.{All}
use Rattle.std.specs.Prelude.{slice_get}
use Rattle.std.proofs.lemmas.List.{length-map, length-replicate}
use Rattle.std.proofs.lemmas.List.FromFn.{length-map-range_with_len}
use Rattle.elf_load.specs.MemoryImage.{byte_at}
use Rattle.std.proofs.lemmas.List.Elements.{All-head, All-map, All-tail}
use Rattle.std.proofs.lemmas.Option.{slice_get-get_or, slice_get_within}
use Rattle.zs_num.specs.PairedRight.{AreAllPairedRight, pairings_after_all}
use Rattle.zs_num.specs.Request.{line_of}
use Rattle.zs_num.specs.Servable.{IsServable}
use Rattle.zs_num.specs.declared.entry.Entry.{Entry}
use Rattle.zs_num.specs.declared.pairing.Pairing.{Pairing}
use Rattle.zs_num.specs.declared.request.Request.{Request}
use Rattle.machine_desc.specs.InstructionCaches.{has_l1i}
use Rattle.flat_memory.specs.declared.reservation.Reservation.{Reservation}
use Rattle.flat_memory.specs.FlatMemory as flat
use Rattle.shard.specs.Coherence.{Caches, caches_after}
use Rattle.shard.specs.Accesses.{caches_after_all, outcomes_of}
use Rattle.shard.specs.Laws.{EntriesAreOfOneMachine, NewShardsAreOneMachine, marked_after_all, marked_replies, flat_after_all, flat_replies}
use Rattle.shard.specs.Marks.{MarkedMemory, marked_after}
use Rattle.shard.specs.Served.{ShardState, shard_after}
use Rattle.shard.specs.StandsFor.{AreAnswered, StandFor, accesses_of, flat_for, new_memory, new_shards}
use Rattle.shard.specs.NewCaches.{new_caches}
use Rattle.shard.proofs.Coherent.{coherent_stays}
use Rattle.shard.proofs.Reservations.{marks_are_reservations}
use Rattle.shard.proofs.StandsForShare.{length-bytes_after}
use Rattle.shard.proofs.StandsForStart.{new_shards_stand}
use Rattle.shard.proofs.StandsForStep.{stand_after}
use Rattle.shard.specs.Marks.{marks_for}

-- ---- with marks
pub record AreOfMarked (memory : MarkedMemory) (c : Caches) (entries : List Entry) (left : List ShardState) : Type 0 where
  pub replies : map (λ entry. entry.reply) entries ≡ marked_replies memory (accesses_of entries)
  pub outcomes : map (λ entry. entry.outcome) entries ≡ outcomes_of c (accesses_of entries)
  pub stand : StandFor left (marked_after_all memory (accesses_of entries)) (caches_after_all c (accesses_of entries))

pub are_of_marked : {l1i : Bool} (entries : List Entry) (shards : List ShardState) (memory : MarkedMemory) (c : Caches) (left : List ShardState)
    → StandFor shards memory c → All (λ entry. entry.core < length c.l1) entries → All (λ entry. IsServable memory.base (length memory.bytes) l1i entry.request) entries
    → AreAnswered shards entries left → AreOfMarked memory c entries left
are_of_marked [] shards memory c left h cores can answered = record {
  replies = refl;
  outcomes = refl;
  stand = subst (λ (s : List ShardState). StandFor s memory c) (sym answered) h;
}
are_of_marked {l1i} (entry ∷ entries) shards memory c left h cores can answered =
    let Known : Entry → Type 0 = λ e. e.core < length c.l1 in
    let Can : Entry → Type 0 = λ e. IsServable memory.base (length memory.bytes) l1i e.request in
    let s : ShardState = answered.0 in
    let known : entry.core < length c.l1 = All-head Known entry entries cores in
    let can_one : Can entry = All-head Can entry entries can in
    let step = stand_after shards memory c s entry h answered.1 can_one known in
    let d : Caches = caches_after c entry.core entry.request in
    let rest_memory : MarkedMemory = marked_after memory entry.core entry.request in
    let as_many : length d.l1 ≡ length c.l1 = (coherent_stays c entry.core entry.request h.coherent h.room known).2 in
    let as_long : length rest_memory.bytes ≡ length memory.bytes = length-bytes_after memory.base memory.bytes (marks_for memory entry.request) entry.core entry.request can_one in
    let rest : AreOfMarked rest_memory d entries left
    = are_of_marked entries (set shards s.number (shard_after s entry)) rest_memory d left step.2
    (subst (λ (n : ℕ). All (λ (e : Entry). e.core < n) entries) (sym as_many) (All-tail Known entry entries cores))
    (subst (λ (n : ℕ). All (λ (e : Entry). IsServable memory.base n l1i e.request) entries) (sym as_long) (All-tail Can entry entries can))
    answered.4 in
    record {
      replies = rw (answered.2 ∙ step.0, rest.replies) refl;
      outcomes = rw (answered.3 ∙ step.1, rest.outcomes) refl;
      stand = rest.stand;
    }

-- ---- and so with one reservation for each core
marks_each : (shards : List ShardState) (memory : MarkedMemory) (c : Caches) → StandFor shards memory c → All (λ marks. length marks ≡ length c.l1) memory.marks
marks_each shards memory c h =
    let P : List (Option Reservation) → Type 0 = λ marks. length marks ≡ length c.l1 in
    subst (λ (m : List (List (Option Reservation))). All P m) (sym h.marks)
    (All-map P (λ (s : ShardState). s.marks) shards (λ i d l. (h.cores i (get_or shards i d) (slice_get-get_or shards i d l)).1))

marks_some : (shards : List ShardState) (memory : MarkedMemory) (c : Caches) → StandFor shards memory c → (i : ℕ) (s : ShardState) → slice_get shards i ≡ Some s → 0 < length memory.marks
marks_some shards memory c h i s e =
    let long : length memory.marks ≡ length shards = ap (λ (m : List (List (Option Reservation))). length m) h.marks ∙ length-map shards (λ (s : ShardState). s.marks) in
    omega (arith, long, slice_get_within shards i s e)

accesses_known : (n : ℕ) (entries : List Entry) → All (λ (entry : Entry). entry.core < n) entries → All (λ (access : ℕ × Request). access.0 < n) (accesses_of entries)
accesses_known n entries h = All-map (λ (access : ℕ × Request). access.0 < n) (λ (entry : Entry). (entry.core, entry.request)) entries h

of_one_machine : {l1i : Bool} (shards : List ShardState) (memory : MarkedMemory) (c : Caches) (pairings : List (Option Pairing)) (entries : List Entry) (left : List ShardState)
    → StandFor shards memory c → length pairings ≡ length c.l1 → All (λ entry. entry.core < length c.l1) entries → All (λ entry. IsServable memory.base (length memory.bytes) l1i entry.request) entries
    → AreAllPairedRight pairings (accesses_of entries) → AreAnswered shards entries left
    → (map (λ entry. entry.reply) entries ≡ flat_replies (flat_for memory pairings) (accesses_of entries))
    × (map (λ entry. entry.outcome) entries ≡ outcomes_of c (accesses_of entries))
    × StandFor left (marked_after_all memory (accesses_of entries)) (caches_after_all c (accesses_of entries))
    × (flat_for (marked_after_all memory (accesses_of entries)) (pairings_after_all pairings (accesses_of entries)) ≡ flat_after_all (flat_for memory pairings) (accesses_of entries))
of_one_machine shards memory c pairings [] left h long cores can right answered =
    (refl, refl, subst (λ (s : List ShardState). StandFor s memory c) (sym answered) h, refl)
of_one_machine shards memory c pairings (entry ∷ entries) left h long cores can right answered =
    let marked : AreOfMarked memory c (entry ∷ entries) left = are_of_marked (entry ∷ entries) shards memory c left h cores can answered in
    let one = marks_are_reservations memory pairings (accesses_of (entry ∷ entries))
    (marks_some shards memory c h (line_of entry.request % length shards) answered.0 answered.1)
    (subst (λ (n : ℕ). All (λ (marks : List (Option Reservation)). length marks ≡ n) memory.marks) (sym long) (marks_each shards memory c h))
    (subst (λ (n : ℕ). All (λ (access : ℕ × Request). access.0 < n) (accesses_of (entry ∷ entries))) (sym long) (accesses_known (length c.l1) (entry ∷ entries) cores))
    right in
    (marked.replies ∙ one.0, marked.outcomes, marked.stand, one.1)

pub entries_are_of_one_machine : EntriesAreOfOneMachine
entries_are_of_one_machine shards memory c pairings entries left h long cores can right answered = of_one_machine shards memory c pairings entries left h long cores can right answered

-- ---- from the start
pub new_shards_are_one_machine : NewShardsAreOneMachine
new_shards_are_one_machine m image entries left is cores can right answered =
    let start = new_shards_stand m image is in
    let memory : MarkedMemory = new_memory m image in
    let accesses : List (ℕ × Request) = accesses_of entries in
    let many : length (new_caches m).l1 ≡ m.cores = length-replicate m.cores (replicate m.l1.sets []) in
    let paired : length (replicate {A = Option Pairing} m.cores None) ≡ m.cores = length-replicate m.cores None in
    let long : length memory.bytes ≡ image.size = length-map-range_with_len (byte_at image.segments) image.base image.size in
    let one = of_one_machine (new_shards m image) memory (new_caches m) (replicate m.cores None) entries left start.0 (paired ∙ sym many)
    (subst (λ (n : ℕ). All (λ (x : Entry). x.core < n) entries) (sym many) cores)
    (subst (λ (n : ℕ). All (λ (x : Entry). IsServable image.base n (has_l1i m) x.request) entries) (sym long) can)
    right answered in
    (one.0 ∙ ap (λ (f : flat.MemoryState). flat_replies f accesses) start.1, one.1)
