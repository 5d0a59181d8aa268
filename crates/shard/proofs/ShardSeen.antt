-- A shard is what is seen of its home and its L1s.
use Rattle.std.proofs.Common.{◌≡◌, ◌≢◌, ℕ, zero, suc, ◌+◌, ◌-◌, ◌*◌, ◌/◌, ◌%◌, ◌<◌, ◌≤◌, ◌++◌, Bool, true, false, List, [], ◌∷◌, length, get_or, drop, replicate, take, Option, Some, None, is_some, refl, sym, ap, ◌∙◌, subst, arith, inl, inr}
use Rattle.std.specs.Prelude.{IsSome, IsTrue, nat_eq, nat_lt}
use Rattle.std.proofs.lemmas.Bool.{cases_Bool, cases_eq, eq-eqb, ne_eqb}
use Rattle.std.proofs.lemmas.List.{get_or_default, get_or_past}
use Rattle.elf_load.specs.MemoryImage.{MemoryImage}
use Rattle.machine_desc.specs.Machine.{IsMachine}
use Rattle.machine_desc.specs.declared.machine.Machine.{Machine}
use Rattle.std.proofs.Math.Seq.{take-append_seam}
use Rattle.byteorder.specs.Endian.{little_number}
use Rattle.zs_num.specs.Request.{addr_of, bank_of_line, line_at, line_bytes, line_of}
use Rattle.zs_num.specs.declared.entry.Entry.{Entry}
use Rattle.zs_num.specs.declared.request.Request.{Request}
use Rattle.zs_num.specs.declared.request.Request.TheVariants.{Load}
use Rattle.cache_set.specs.declared.letter.Letter.{Letter}
use Rattle.cache_set.specs.declared.letter.Letter.TheVariants.{M, E, S, I}
use Rattle.flat_memory.specs.FlatMemory.{number_in}
use Rattle.home.specs.NewHome.{new_home}
use Rattle.home.specs.HomeState.{HomeLine, HomeState, KeepsLine, bytes_at, row_at}
use Rattle.l1_cache.specs.L1State.{L1State, copy_at, has_instructions, letter_of, no_l1}
use Rattle.shard.specs.BankSteps.{bank_with}
use Rattle.shard.specs.Coherence.{Caches, caches_after, dirty_at, fetch_holds, is_valid, letter_at}
use Rattle.shard.specs.HaveL1i.{have_l1i}
use Rattle.shard.specs.Marks.{marks_after, reply_from}
use Rattle.shard.specs.PartsLaws.{AreParts, IsAsked, IsInMemory, IsOwn}
use Rattle.shard.specs.Seen.{bytes_seen, caches_seen, newest_in, shard_seen}
use Rattle.shard.specs.Served.{CanServe, KnowsCore, ShardState, met_by, new_shard, place_of, resumed, shard_after, shard_reply}
use Rattle.shard.specs.ShardLayout.{IsShardLayout}
use Rattle.shard.specs.SharedStep.{Bank, bank_after, bank_reply, l1_of, met_at_bank, own_letter}
use Rattle.shard.proofs.Coherent.{coherent_stays, l2_laws}
use Rattle.shard.proofs.HomesAndL1s.AccessBytes.{asked_inside, reply_seen}
use Rattle.shard.specs.NewParts.{IsPlaced, home_of_bank, l1_of_core, new_bank}
use Rattle.shard.proofs.HomesAndL1s.CanGive.{bytes_long}
use Rattle.shard.proofs.HomesAndL1s.FitOf.{fit_of}
use Rattle.shard.proofs.HomesAndL1s.LettersSeen.{holds_seen, letter_seen}
use Rattle.shard.proofs.HomesAndL1s.NewBanks.{new_banks_are_shards}
use Rattle.shard.proofs.HomesAndL1s.OwnBank.{own_bank}
use Rattle.shard.proofs.HomesAndL1s.RowsSeen.{dirty_of, see_maybe}
use Rattle.shard.proofs.HomesAndL1s.Victims.{dirty_seen}
use Rattle.shard.proofs.Kept.{access_same, length-marks_after}

-- what a slice of a vector leaves of it
pub items_left : (len : ℕ) (new old : List L1State) → len ≡ length new → take len (new ++ drop (length new) old) ≡ new
items_left len new old e = ap (λ (n : ℕ). take n (new ++ drop (length new) old)) e ∙ take-append_seam new (drop (length new) old)

-- ---- what is asked of a shard is asked of its parts
pub asked_of : (p : Bank) (last core : ℕ) (request : Request) → AreParts p → KnowsCore (shard_seen p last) core → CanServe (shard_seen p last) request → IsAsked p core request
unfolding CanServe shard_seen caches_seen
asked_of p last core request are knows can = record {
  known = subst (λ (n : ℕ). core < n) are.cores.2 knows;
  servable = can.0;
  own = can.1;
}

module _ (p : Bank) (last : ℕ) (e : Entry) (are : AreParts p) (asked : IsAsked p e.core e.request) where
  pub reply_of : bank_reply p e.core e.request ≡ shard_reply (shard_seen p last) e
  reply_of = (own_bank coherent_stays l2_laws p last e are asked).0

  pub met_of : met_at_bank p e.core e.request ≡ met_by (shard_seen p last) e
  met_of = (own_bank coherent_stays l2_laws p last e are asked).1

  pub after_of : shard_seen (bank_after p e.core e.request) e.stamp ≡ shard_after (shard_seen p last) e
  after_of = (own_bank coherent_stays l2_laws p last e are asked).2

  pub parts_of : AreParts (bank_after p e.core e.request)
  parts_of = (own_bank coherent_stays l2_laws p last e are asked).3

  number_left : (bank_after p e.core e.request).home.number ≡ p.home.number
  unfolding shard_seen shard_after
  number_left = ap (λ (s : ShardState). s.number) after_of

  count_left : (bank_after p e.core e.request).home.shards ≡ p.home.shards
  unfolding shard_seen shard_after caches_seen
  count_left = ap (λ (s : ShardState). s.caches.shards) after_of ∙ (access_same (caches_seen p) e.core e.request).shards

  pub layout_of : (number count : ℕ) (q : Bank) → q ≡ bank_after p e.core e.request → number ≡ p.home.number → count ≡ p.home.shards → IsShardLayout number count q
  layout_of number count q is number_is count_is =
      subst (IsShardLayout number count) (sym is)
      (record { number_is = number_is ∙ sym number_left; count_is = count_is ∙ sym count_left; parts = parts_of })

-- what an access leaves as it was
module _ (s : ShardState) (e : Entry) where
  pub number_as : (shard_after s e).number ≡ s.number
  unfolding shard_after
  number_as = refl

  pub base_as : (shard_after s e).base ≡ s.base
  unfolding shard_after
  base_as = refl

  pub size_as : (shard_after s e).size ≡ s.size
  unfolding shard_after
  size_as = refl

  pub shards_as : (shard_after s e).caches.shards ≡ s.caches.shards
  unfolding shard_after
  shards_as = (access_same s.caches e.core e.request).shards

  pub l1i_as : have_l1i (shard_after s e).caches ≡ have_l1i s.caches
  unfolding shard_after
  l1i_as = ap (λ (n : ℕ). nat_lt 0 n) (access_same s.caches e.core e.request).fetchers

  pub cores_as : length (shard_after s e).marks ≡ length s.marks
  unfolding shard_after
  cores_as = length-marks_after s.marks e.core e.request

  pub last_as : (shard_after s e).last ≡ e.stamp
  unfolding shard_after
  last_as = refl

-- ---- letters of any line
module _ (p : Bank) (are : AreParts p) (core line : ℕ) where
  row_there : IsSome (dirty_at (caches_seen p) line) → IsSome (row_at p.home line)
  row_there some = by_row (row_at p.home line) (subst (λ (o : Option Bool). IsSome o) (dirty_seen p line) some) where
    by_row : (o : Option HomeLine) → IsSome (see_maybe dirty_of o) → IsSome o
    by_row None h = absurd cc
    by_row (Some row) h = refl

  -- a line of another shard is nowhere
  pub letter_none : (IsOwn p line → ⊥) → letter_at (caches_seen p) core line ≡ I
  letter_none apart = by_letter (letter_at (caches_seen p) core line) refl where
    none : is_valid (letter_at (caches_seen p) core line) ≡ true → ⊥
    none valid = apart (are.lines line (row_there (are.coherent.inclusive core line valid))).0

    by_letter : (x : Letter) → letter_at (caches_seen p) core line ≡ x → letter_at (caches_seen p) core line ≡ I
    by_letter M e = absurd (none (ap is_valid e))
    by_letter E e = absurd (none (ap is_valid e))
    by_letter S e = absurd (none (ap is_valid e))
    by_letter I e = e

  pub holds_none : (IsOwn p line → ⊥) → fetch_holds (caches_seen p) core line ≡ false
  holds_none apart =
      elim (cases_Bool (fetch_holds (caches_seen p) core line)) as (λ _. fetch_holds (caches_seen p) core line ≡ false) [
        | inl has ↦ absurd (apart (are.lines line (row_there (are.coherent.l1i_inclusive core line has))).0)
        | inr none ↦ none
      ]

-- ---- the newest byte
number_of_one : (bytes : List ℕ) (place : ℕ) → number_in bytes place 1 ≡ get_or bytes place 0
unfolding number_in
number_of_one [] zero = refl
number_of_one [] (suc place) = refl
number_of_one (x ∷ bytes) zero = omega arith
number_of_one (x ∷ bytes) (suc place) = number_of_one bytes place

asked_byte : (p : Bank) → AreParts p → (addr : ℕ) → p.home.base ≤ addr → addr < p.home.base + p.home.size → IsOwn p (line_at addr) → IsAsked p 0 (Load 1 addr)
asked_byte p are addr begins ends own = record {
  known = are.cores.0;
  servable = record { some = omega arith; few = omega arith; begins = begins; ends = omega (arith, ends); in_line = omega arith; aligned = tt; fetched = tt };
  own = own;
}

byte_inside : (p : Bank) → AreParts p → (addr : ℕ) → p.home.base ≤ addr → addr < p.home.base + p.home.size → IsOwn p (line_at addr) → IsInMemory p.home (line_at addr)
byte_inside p are addr begins ends own = asked_inside p are 0 (Load 1 addr) (asked_byte p are addr begins ends own)

pub byte_seen : (p : Bank) → AreParts p → (addr : ℕ) → p.home.base ≤ addr → addr < p.home.base + p.home.size → IsOwn p (line_at addr)
    → get_or (newest_in (line_at addr) (bytes_at p.home (line_at addr)) p.l1s) (addr % line_bytes) 0 ≡ get_or (bytes_seen p) (place_of p.home.shards p.home.base addr) 0
unfolding reply_from
byte_seen p are addr begins ends own =
    sym (number_of_one (newest_in (line_at addr) (bytes_at p.home (line_at addr)) p.l1s) (addr % line_bytes))
    ∙ (sym (reply_seen p are 0 (Load 1 addr) (asked_byte p are addr begins ends own)) ∙ number_of_one (bytes_seen p) (place_of p.home.shards p.home.base addr))

-- ---- a shard after an access
module _ (p q : Bank) (last : ℕ) (e : Entry) (s : ShardState) (are : AreParts p) (asked : IsAsked p e.core e.request) (seen : shard_seen p last ≡ s) (is : q ≡ bank_after p e.core e.request) where
  pub seen_after : shard_seen q e.stamp ≡ shard_after s e
  seen_after = ap (λ (b : Bank). shard_seen b e.stamp) is ∙ (after_of p last e are asked ∙ ap (λ (z : ShardState). shard_after z e) seen)

  pub seen_number : (shard_seen q e.stamp).number ≡ s.number
  seen_number = ap (λ (z : ShardState). z.number) seen_after ∙ number_as s e

  pub seen_base : (shard_seen q e.stamp).base ≡ s.base
  seen_base = ap (λ (z : ShardState). z.base) seen_after ∙ base_as s e

  pub seen_size : (shard_seen q e.stamp).size ≡ s.size
  seen_size = ap (λ (z : ShardState). z.size) seen_after ∙ size_as s e

  pub seen_shards : (shard_seen q e.stamp).caches.shards ≡ s.caches.shards
  seen_shards = ap (λ (z : ShardState). z.caches.shards) seen_after ∙ shards_as s e

  pub seen_l1i : have_l1i (shard_seen q e.stamp).caches ≡ have_l1i s.caches
  seen_l1i = ap (λ (z : ShardState). have_l1i z.caches) seen_after ∙ l1i_as s e

  pub seen_cores : length (shard_seen q e.stamp).marks ≡ length s.marks
  seen_cores = ap (λ (z : ShardState). length z.marks) seen_after ∙ cores_as s e

  pub seen_last : (shard_seen q e.stamp).last ≡ e.stamp
  seen_last = ap (λ (z : ShardState). z.last) seen_after ∙ last_as s e

  pub seen_reply : bank_reply p e.core e.request ≡ shard_reply s e
  seen_reply = reply_of p last e are asked ∙ ap (λ (z : ShardState). shard_reply z e) seen

  pub seen_met : met_at_bank p e.core e.request ≡ met_by s e
  seen_met = met_of p last e are asked ∙ ap (λ (z : ShardState). met_by z e) seen

pub own_is : (p : Bank) (last : ℕ) (s : ShardState) → shard_seen p last ≡ s → s.caches ≡ caches_seen p
unfolding shard_seen
own_is p last s seen = sym (ap (λ (z : ShardState). z.caches) seen)

pub last_is : (p : Bank) (last : ℕ) (s : ShardState) → shard_seen p last ≡ s → last ≡ s.last
unfolding shard_seen
last_is p last s seen = ap (λ (z : ShardState). z.last) seen

pub number_is : (p : Bank) (last : ℕ) (s : ShardState) → shard_seen p last ≡ s → p.home.number ≡ s.number
unfolding shard_seen
number_is p last s seen = ap (λ (z : ShardState). z.number) seen

pub count_is : (p : Bank) (last : ℕ) (s : ShardState) → shard_seen p last ≡ s → p.home.shards ≡ s.caches.shards
unfolding shard_seen caches_seen
count_is p last s seen = ap (λ (z : ShardState). z.caches.shards) seen

pub resumed_is : (p : Bank) (last now : ℕ) (s : ShardState) → shard_seen p last ≡ s → shard_seen p now ≡ resumed s now
unfolding shard_seen
resumed_is p last now s seen = ap (λ (z : ShardState). resumed z now) seen

own_so : (a b : ℕ) → nat_eq a b ≡ true → a ≡ b
own_so a b e =
    elim (cases_eq a b) as (λ _. a ≡ b) [
      | inl z ↦ z
      | inr apart ↦ let bad : true ≡ false = sym e ∙ ne_eqb a b apart in absurd cc
    ]

-- ---- what is read of a shard
module _ (p : Bank) (last : ℕ) (s : ShardState) (are : AreParts p) (seen : shard_seen p last ≡ s) (line : ℕ) where
  pub own_here : nat_eq (bank_of_line s.caches.shards line) s.number ≡ true → IsOwn p line
  own_here e =
      ap (λ (n : ℕ). line % n) (count_is p last s seen) ∙ (own_so (bank_of_line s.caches.shards line) s.number e ∙ sym (number_is p last s seen))

  pub not_own_here : nat_eq (bank_of_line s.caches.shards line) s.number ≡ false → IsOwn p line → ⊥
  not_own_here e own =
      let same : bank_of_line s.caches.shards line ≡ s.number = ap (λ (n : ℕ). line % n) (sym (count_is p last s seen)) ∙ (own ∙ number_is p last s seen) in
      let bad : true ≡ false = sym (eq-eqb (bank_of_line s.caches.shards line) s.number same) ∙ e in
      cc

  module _ (core : ℕ) where
    letter_here : IsOwn p line → own_letter p core line ≡ letter_at s.caches core line
    letter_here own = sym (letter_seen p (fit_of p are) core line own) ∙ ap (λ (c : Caches). letter_at c core line) (sym (own_is p last s seen))

    holds_here : IsOwn p line → has_instructions (l1_of p core) line ≡ fetch_holds s.caches core line
    holds_here own = sym (holds_seen p (fit_of p are) core line own) ∙ ap (λ (c : Caches). fetch_holds c core line) (sym (own_is p last s seen))

    pub letter_elsewhere : nat_eq (bank_of_line s.caches.shards line) s.number ≡ false → I ≡ letter_at s.caches core line
    letter_elsewhere e = sym (letter_none p are core line (not_own_here e)) ∙ ap (λ (c : Caches). letter_at c core line) (sym (own_is p last s seen))

    pub holds_elsewhere : nat_eq (bank_of_line s.caches.shards line) s.number ≡ false → false ≡ fetch_holds s.caches core line
    holds_elsewhere e = sym (holds_none p are core line (not_own_here e)) ∙ ap (λ (c : Caches). fetch_holds c core line) (sym (own_is p last s seen))

    pub letter_in : (l1 : L1State) → nat_eq (bank_of_line s.caches.shards line) s.number ≡ true → core < length p.l1s → l1 ≡ get_or p.l1s core l1 → letter_of (copy_at l1 line) ≡ letter_at s.caches core line
    letter_in l1 e within is = ap (λ (x : L1State). letter_of (copy_at x line)) (is ∙ get_or_default p.l1s core l1 no_l1 within) ∙ letter_here (own_here e)

    pub holds_in : (l1 : L1State) → nat_eq (bank_of_line s.caches.shards line) s.number ≡ true → core < length p.l1s → l1 ≡ get_or p.l1s core l1 → has_instructions l1 line ≡ fetch_holds s.caches core line
    holds_in l1 e within is = ap (λ (x : L1State). has_instructions x line) (is ∙ get_or_default p.l1s core l1 no_l1 within) ∙ holds_here (own_here e)

    -- a core that the shard does not know
    pub letter_past : length p.l1s ≤ core → I ≡ letter_at s.caches core line
    unfolding copy_at
    letter_past past =
        elim (cases_Bool (nat_eq (bank_of_line s.caches.shards line) s.number)) as (λ _. I ≡ letter_at s.caches core line) [
          | inl e ↦ sym (ap (λ (x : L1State). letter_of (copy_at x line)) (get_or_past p.l1s core no_l1 past)) ∙ letter_here (own_here e)
          | inr e ↦ letter_elsewhere e
        ]

    pub holds_past : length p.l1s ≤ core → false ≡ fetch_holds s.caches core line
    unfolding has_instructions
    holds_past past =
        elim (cases_Bool (nat_eq (bank_of_line s.caches.shards line) s.number)) as (λ _. false ≡ fetch_holds s.caches core line) [
          | inl e ↦ sym (ap (λ (x : L1State). has_instructions x line) (get_or_past p.l1s core no_l1 past)) ∙ holds_here (own_here e)
          | inr e ↦ holds_elsewhere e
        ]

  pub dirty_here : (o : Option HomeLine) → o ≡ row_at p.home line → see_maybe dirty_of o ≡ dirty_at s.caches line
  dirty_here o e = ap (see_maybe dirty_of) e ∙ (sym (dirty_seen p line) ∙ ap (λ (c : Caches). dirty_at c line) (sym (own_is p last s seen)))

-- ---- a byte of memory
module _ (p : Bank) (last : ℕ) (s : ShardState) (are : AreParts p) (seen : shard_seen p last ≡ s) (addr : ℕ) (begins : s.base ≤ addr) (ends : addr < s.base + s.size) (own : bank_of_line s.caches.shards (line_at addr) ≡ s.number) where
  base_is : p.home.base ≡ s.base
  unfolding shard_seen
  base_is = ap (λ (z : ShardState). z.base) seen

  size_is : p.home.size ≡ s.size
  unfolding shard_seen
  size_is = ap (λ (z : ShardState). z.size) seen

  bytes_are : bytes_seen p ≡ s.bytes
  unfolding shard_seen
  bytes_are = ap (λ (z : ShardState). z.bytes) seen

  own_p : IsOwn p (line_at addr)
  own_p = own_here p last s are seen (line_at addr) (eq-eqb (bank_of_line s.caches.shards (line_at addr)) s.number own)

  begins_p : p.home.base ≤ addr
  begins_p = omega (arith, base_is, begins)

  ends_p : addr < p.home.base + p.home.size
  ends_p = omega (arith, base_is, size_is, ends)

  in_memory : IsInMemory p.home (line_at addr)
  in_memory = byte_inside p are addr begins_p ends_p own_p

  pub byte_kept : KeepsLine p.home (line_at addr)
  byte_kept = in_memory.1

  pub byte_whole : length (bytes_at p.home (line_at addr)) ≡ line_bytes
  byte_whole = bytes_long p.home (line_at addr) in_memory

  pub byte_here : (byte : ℕ) → get_or (newest_in (line_at addr) (bytes_at p.home (line_at addr)) p.l1s) (addr % line_bytes) 0 ≡ byte → byte ≡ get_or s.bytes (place_of s.caches.shards s.base addr) 0
  byte_here byte e =
      sym e ∙ (byte_seen p are addr begins_p ends_p own_p
      ∙ (ap (λ (b : List ℕ). get_or b (place_of p.home.shards p.home.base addr) 0) bytes_are
      ∙ (ap (λ (n : ℕ). get_or s.bytes (place_of n p.home.base addr) 0) (count_is p last s seen) ∙ ap (λ (n : ℕ). get_or s.bytes (place_of s.caches.shards n addr) 0) base_is)))

-- ---- before the first access
number_new : (m : Machine) (number : ℕ) (image : MemoryImage) → number ≡ (new_bank m m.l2.banks number image).home.number
unfolding new_home
number_new m number image = refl

count_new : (m : Machine) (number : ℕ) (image : MemoryImage) → m.l2.banks ≡ (new_bank m m.l2.banks number image).home.shards
unfolding new_home
count_new m number image = refl

pub new_shard_is : (m : Machine) (number : ℕ) (image : MemoryImage) → IsMachine m → number < m.l2.banks → image.base ≡ m.memory.base → image.size ≡ m.memory.size → (home : HomeState) (l1s : List L1State) (count : ℕ)
    → home ≡ home_of_bank m number image → l1s ≡ replicate m.cores (l1_of_core m m.l2.banks) → count ≡ m.l2.banks
    → (shard_seen (bank_with home l1s) 0 ≡ new_shard m number image) × IsShardLayout number count (bank_with home l1s)
new_shard_is m number image is below base size home l1s count home_is l1s_are count_are =
    let same : bank_with home l1s ≡ new_bank m m.l2.banks number image = ap (λ (h : HomeState). bank_with h l1s) home_is ∙ ap (bank_with (home_of_bank m number image)) l1s_are in
    let placed : IsPlaced image = (omega (arith, is.memory, size), omega (arith, is.memory, base, size)) in
    let new = new_banks_are_shards m image m.l2.banks number is placed (inr refl) below in (
      ap (λ (b : Bank). shard_seen b 0) same ∙ new.0,
      subst (IsShardLayout number count) (sym same) (record { number_is = number_new m number image; count_is = count_are ∙ count_new m number image; parts = new.1 }),
    )
