-- What a store wrote is read until an access writes to its line.
use Rattle.std.proofs.Common.{◌≡◌, ◌≢◌, ℕ, ◌+◌, ◌-◌, ◌/◌, ◌%◌, ◌^◌, ◌<◌, ◌≤◌, Bool, true, false, cond, eqb, List, [], ◌∷◌, ◌++◌, length, get_or, set, refl, sym, ◌∙◌, subst, arith, inl, inr}
use Rattle.std.specs.List.{All}
use Rattle.std.proofs.lemmas.Bool.{cases_lt}
use Rattle.std.proofs.lemmas.List.Elements.{All-head, All-tail}
use Rattle.zs_num.specs.Request.{addr_of, line_of, line_at}
use Rattle.zs_num.specs.Servable.{IsServable}
use Rattle.zs_num.specs.declared.entry.Entry.{Entry}
use Rattle.zs_num.specs.declared.request.Request.{Request}
use Rattle.zs_num.specs.declared.request.Request.TheVariants.{Load, Store, Lr, Sc, Amo, Fetch}
use Rattle.flat_memory.specs.FlatMemory.{MemoryState, number_in, with_number, written}
use Rattle.flat_memory.specs.Laws.{LoadGivesWhatWasStored}
use Rattle.shard.specs.Coherence.{Caches, caches_after}
use Rattle.shard.specs.HaveL1i.{have_l1i}
use Rattle.shard.specs.Laws.{ReadAfterWrite, has_written}
use Rattle.shard.specs.Marks.{MarkedMemory, bytes_after, does_store, marked_after, marked_reply, marks_for, reply_from}
use Rattle.shard.specs.Served.{ShardState, shard_after}
use Rattle.shard.specs.StandsFor.{AreAnswered, StandFor}
use Rattle.shard.proofs.Coherent.{coherent_stays}
use Rattle.shard.proofs.StandsForBytes.{number_same, written_before, written_behind}
use Rattle.shard.proofs.StandsForShare.{length-bytes_after}
use Rattle.shard.proofs.StandsForStep.{stand_after}

-- ---- a number of another line
module _ (base : ℕ) (bytes : List ℕ) (addr width : ℕ) (begins : base ≤ addr) (fits : addr % 64 + width ≤ 64) where
  stays_at : (at wide value : ℕ) → base ≤ at → at + wide ≤ base + length bytes → at % 64 + wide ≤ 64 → line_at at ≢ line_at addr
      → number_in (with_number bytes (at - base) wide value) (addr - base) width ≡ number_in bytes (addr - base) width
  stays_at at wide value from to inside other =
      let within : at - base + wide ≤ length bytes = omega arith in
      let new : List ℕ = with_number bytes (at - base) wide value in
      number_same width (addr - base) (addr - base) new bytes
      (λ k l. elim (cases_lt (addr + k) at) as (λ _. get_or new (addr - base + k) 0 ≡ get_or bytes (addr - base + k) 0) [
        | inl before ↦ written_before bytes (at - base) wide value within (addr - base + k) (omega arith)
        | inr low ↦ elim (cases_lt (addr + k) (at + wide)) as (λ _. get_or new (addr - base + k) 0 ≡ get_or bytes (addr - base + k) 0) [
          | inl high ↦ let same : at / 64 ≡ addr / 64 = omega arith in absurd (other same)
          | inr behind ↦ written_behind bytes (at - base) wide value within (addr - base + k) (omega arith)
        ]
      ])

  abbrev reads : List ℕ → ℕ
  reads s = number_in s (addr - base) width

  stays_if : (b : Bool) (at wide value : ℕ) → base ≤ at → at + wide ≤ base + length bytes → at % 64 + wide ≤ 64 → (eqb (cond b 0 1) 0 ≡ true → line_at at ≢ line_at addr)
      → reads (cond b (with_number bytes (at - base) wide value) bytes) ≡ reads bytes
  stays_if true at wide value from to inside other = stays_at at wide value from to inside (other refl)
  stays_if false at wide value from to inside other = refl

  stays : {l1i : Bool} (marks : List _) (core : ℕ) (request : Request) → IsServable base (length bytes) l1i request → (has_written request (reply_from bytes (addr_of request - base) marks core request) ≡ true → line_of request ≢ line_at addr)
      → reads (bytes_after bytes (addr_of request - base) marks core request) ≡ reads bytes
  unfolding bytes_after reply_from
  stays marks core (Load wide at) can other = refl
  stays marks core (Store wide at value) can other = stays_at at wide value can.begins can.ends can.in_line (other refl)
  stays marks core (Lr wide at) can other = refl
  stays marks core (Sc wide paired at value) can other = stays_if (does_store marks core at wide paired) at wide value can.begins can.ends can.in_line other
  stays marks core (Amo wide op at value) can other = stays_at at wide _ can.begins can.ends can.in_line (other refl)
  stays marks core (Fetch at) can other = refl

-- ---- entries
module _ (load : Entry) (addr width number : ℕ) (is_load : load.request ≡ Load width addr) where
  loads : (memory : MarkedMemory) → number_in memory.bytes (addr - memory.base) width ≡ number → marked_reply memory load.core load.request ≡ number
  unfolding reply_from
  loads memory e = rw (is_load) e

  still_read : {l1i : Bool} (between : List Entry) (shards : List ShardState) (memory : MarkedMemory) (c : Caches) (left : List ShardState) → memory.base ≤ addr → addr % 64 + width ≤ 64
      → StandFor shards memory c → AreAnswered shards (between ++ (load ∷ [])) left
      → All (λ entry. entry.core < length c.l1) (between ++ (load ∷ [])) → All (λ entry. IsServable memory.base (length memory.bytes) l1i entry.request) (between ++ (load ∷ []))
      → All (λ entry. has_written entry.request entry.reply ≡ true → line_of entry.request ≢ line_at addr) between
      → number_in memory.bytes (addr - memory.base) width ≡ number → load.reply ≡ number
  still_read {l1i} [] shards memory c left begins fits h answered cores can others e =
      let Known : Entry → Type 0 = λ entry. entry.core < length c.l1 in
      let Can : Entry → Type 0 = λ entry. IsServable memory.base (length memory.bytes) l1i entry.request in
      let step = stand_after shards memory c answered.0 load h answered.1 (All-head Can load [] can) (All-head Known load [] cores) in
      answered.2 ∙ (step.0 ∙ loads memory e)
  still_read {l1i} (entry ∷ between) shards memory c left begins fits h answered cores can others e =
      let rest : List Entry = between ++ (load ∷ []) in
      let Known : Entry → Type 0 = λ entry. entry.core < length c.l1 in
      let Can : Entry → Type 0 = λ entry. IsServable memory.base (length memory.bytes) l1i entry.request in
      let Apart : Entry → Type 0 = λ entry. has_written entry.request entry.reply ≡ true → line_of entry.request ≢ line_at addr in
      let known : Known entry = All-head Known entry rest cores in
      let can_one : Can entry = All-head Can entry rest can in
      let step = stand_after shards memory c answered.0 entry h answered.1 can_one known in
      let d : Caches = caches_after c entry.core entry.request in
      let next : MarkedMemory = marked_after memory entry.core entry.request in
      let as_many : length d.l1 ≡ length c.l1 = (coherent_stays c entry.core entry.request h.coherent h.room known).2 in
      let as_long : length next.bytes ≡ length memory.bytes = length-bytes_after memory.base memory.bytes (marks_for memory entry.request) entry.core entry.request can_one in
      let reply : entry.reply ≡ marked_reply memory entry.core entry.request = answered.2 ∙ step.0 in
      let other : has_written entry.request (marked_reply memory entry.core entry.request) ≡ true → line_of entry.request ≢ line_at addr
      = subst (λ (r : ℕ). has_written entry.request r ≡ true → line_of entry.request ≢ line_at addr) reply (All-head Apart entry between others) in
      let kept : number_in next.bytes (addr - memory.base) width ≡ number
      = stays memory.base memory.bytes addr width begins fits (marks_for memory entry.request) entry.core entry.request can_one other ∙ e in
      still_read between (set shards answered.0.number (shard_after answered.0 entry)) next d left begins fits step.2 answered.4
      (subst (λ (n : ℕ). All (λ (x : Entry). x.core < n) rest) (sym as_many) (All-tail Known entry rest cores))
      (subst (λ (n : ℕ). All (λ (x : Entry). IsServable memory.base n l1i x.request) rest) (sym as_long) (All-tail Can entry rest can))
      (All-tail Apart entry between others) kept

-- a store
stores : LoadGivesWhatWasStored → (memory : MarkedMemory) (core : ℕ) (request : Request) (addr width value : ℕ) → request ≡ Store width addr value → memory.base ≤ addr → addr + width ≤ memory.base + length memory.bytes
    → number_in (marked_after memory core request).bytes (addr - memory.base) width ≡ value % 256 ^ width
unfolding bytes_after written
stores law memory core request addr width value is begins ends =
    let flat : MemoryState = record { base = memory.base; bytes = memory.bytes; reservations = [] } in
    rw is (law flat 0 0 addr width value (record { begins = begins; ends = ends }))

pub read_after_write : LoadGivesWhatWasStored → ReadAfterWrite
read_after_write law shards memory c store load between left addr width value h answered cores can is_store is_load others =
    let rest : List Entry = between ++ (load ∷ []) in
    let Known : Entry → Type 0 = λ entry. entry.core < length c.l1 in
    let Can : Entry → Type 0 = λ entry. IsServable memory.base (length memory.bytes) (have_l1i c) entry.request in
    let known : Known store = All-head Known store rest cores in
    let can_one : Can store = All-head Can store rest can in
    let is : IsServable memory.base (length memory.bytes) (have_l1i c) (Store width addr value) = subst (λ (r : Request). IsServable memory.base (length memory.bytes) (have_l1i c) r) is_store can_one in
    let step = stand_after shards memory c answered.0 store h answered.1 can_one known in
    let d : Caches = caches_after c store.core store.request in
    let next : MarkedMemory = marked_after memory store.core store.request in
    let as_many : length d.l1 ≡ length c.l1 = (coherent_stays c store.core store.request h.coherent h.room known).2 in
    let as_long : length next.bytes ≡ length memory.bytes = length-bytes_after memory.base memory.bytes (marks_for memory store.request) store.core store.request can_one in
    still_read load addr width (value % 256 ^ width) is_load between (set shards answered.0.number (shard_after answered.0 store)) next d left is.begins is.in_line step.2 answered.4
    (subst (λ (n : ℕ). All (λ (x : Entry). x.core < n) rest) (sym as_many) (All-tail Known store rest cores))
    (subst (λ (n : ℕ). All (λ (x : Entry). IsServable memory.base n (have_l1i c) x.request) rest) (sym as_long) (All-tail Can store rest can))
    others (stores law memory store.core store.request addr width value is_store is.begins is.ends)
