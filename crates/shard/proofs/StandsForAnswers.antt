-- There is an answer to every access: some shard keeps its line.
use Rattle.std.proofs.Common.{◌≡◌, ℕ, ◌%◌, ◌<◌, Bool, List, [], ◌∷◌, length, get_or, set, Some, refl, sym, ap, subst, arith}
use Rattle.std.specs.List.{All}
use Rattle.std.specs.Prelude.{slice_get}
use Rattle.std.proofs.lemmas.List.{length-set}
use Rattle.std.proofs.lemmas.List.Elements.{All-head, All-tail}
use Rattle.std.proofs.lemmas.Option.{slice_get-get_or}
use Rattle.zs_num.specs.Request.{line_of}
use Rattle.zs_num.specs.Servable.{IsServable}
use Rattle.zs_num.specs.declared.entry.Entry.{Entry}
use Rattle.zs_num.specs.declared.entry.Outcome.TheVariants.{Hit}
use Rattle.zs_num.specs.declared.request.Request.{Request}
use Rattle.shard.specs.Coherence.{Caches, caches_after}
use Rattle.shard.specs.Laws.{ShardsAnswer}
use Rattle.shard.specs.Marks.{MarkedMemory, marked_after, marks_for}
use Rattle.shard.specs.Served.{ShardState, met_by, shard_after, shard_reply}
use Rattle.shard.specs.StandsFor.{AreAnswered, KeepsLine, StandFor, accesses_of}
use Rattle.shard.proofs.Coherent.{coherent_stays}
use Rattle.shard.proofs.StandsForShare.{length-bytes_after}
use Rattle.shard.proofs.StandsForStep.{stand_after}

-- the entry of an access that a shard answers
abbrev asked : ℕ × Request → Entry
asked access = record { core = access.0; stamp = 0; start = 0; request = access.1; reply = 0; outcome = Hit }

abbrev answer : ShardState → ℕ × Request → Entry
answer s access = record (asked access) { reply = shard_reply s (asked access); outcome = met_by s (asked access) }

reply_is : (s : ShardState) (access : ℕ × Request) → (answer s access).reply ≡ shard_reply s (answer s access)
unfolding shard_reply
reply_is s access = refl

outcome_is : (s : ShardState) (access : ℕ × Request) → (answer s access).outcome ≡ met_by s (answer s access)
unfolding met_by
outcome_is s access = refl

some_of : {X : Type 0} (xs : List X) (i : ℕ) → i < length xs → (x : X) × (slice_get xs i ≡ Some x)
some_of [] i l = absurd (omega arith)
some_of (x ∷ xs) i l = (get_or (x ∷ xs) i x, slice_get-get_or (x ∷ xs) i x l)

-- an answer before those to the other accesses
answered_first : (shards : List ShardState) (s : ShardState) (access : ℕ × Request) (accesses : List (ℕ × Request)) → KeepsLine shards (line_of access.1) s
    → (entries : List Entry) × (left : List ShardState) × AreAnswered (set shards s.number (shard_after s (answer s access))) entries left × (accesses_of entries ≡ accesses)
    → (entries : List Entry) × (left : List ShardState) × AreAnswered shards entries left × (accesses_of entries ≡ access ∷ accesses)
answered_first shards s access accesses k rest =
    (answer s access ∷ rest.0, rest.1, (s, k, reply_is s access, outcome_is s access, rest.2), ap (λ (all : List (ℕ × Request)). access ∷ all) rest.3)

answers : {l1i : Bool} (shards : List ShardState) (memory : MarkedMemory) (c : Caches) (accesses : List (ℕ × Request)) → StandFor shards memory c → 0 < length shards
    → All (λ access. access.0 < length c.l1) accesses → All (λ access. IsServable memory.base (length memory.bytes) l1i access.1) accesses
    → (entries : List Entry) × (left : List ShardState) × AreAnswered shards entries left × (accesses_of entries ≡ accesses)
answers shards memory c [] h some cores can = ([], shards, refl, refl)
answers {l1i} shards memory c (access ∷ accesses) h some cores can =
    let Known : ℕ × Request → Type 0 = λ a. a.0 < length c.l1 in
    let Can : ℕ × Request → Type 0 = λ a. IsServable memory.base (length memory.bytes) l1i a.1 in
    let known : Known access = All-head Known access accesses cores in
    let can_one : Can access = All-head Can access accesses can in
    let within : line_of access.1 % length shards < length shards = omega arith in
    let one = some_of shards (line_of access.1 % length shards) within in
    let s : ShardState = one.0 in
    let entry : Entry = answer s access in
    let step = stand_after shards memory c s entry h one.1 can_one known in
    let d : Caches = caches_after c access.0 access.1 in
    let next : MarkedMemory = marked_after memory access.0 access.1 in
    let as_many : length d.l1 ≡ length c.l1 = (coherent_stays c access.0 access.1 h.coherent h.room known).2 in
    let as_long : length next.bytes ≡ length memory.bytes = length-bytes_after memory.base memory.bytes (marks_for memory access.1) access.0 access.1 can_one in
    answered_first shards s access accesses one.1
    (answers (set shards s.number (shard_after s entry)) next d accesses step.2 (omega (arith, length-set shards s.number (shard_after s entry)))
    (subst (λ (n : ℕ). All (λ (a : ℕ × Request). a.0 < n) accesses) (sym as_many) (All-tail Known access accesses cores))
    (subst (λ (n : ℕ). All (λ (a : ℕ × Request). IsServable memory.base n l1i a.1) accesses) (sym as_long) (All-tail Can access accesses can)))

pub shards_answer : ShardsAnswer
shards_answer shards memory c accesses h some cores can = answers shards memory c accesses h some cores can
