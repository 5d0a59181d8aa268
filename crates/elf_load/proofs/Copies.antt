-- The bytes of memory by segments: one more segment passed, and the bytes of one copied.
use Rattle.std.proofs.Common.{◌≡◌, ℕ, zero, suc, ◌+◌, ◌-◌, ◌<◌, ◌≤◌, min, nat_le, Bool, true, false, List, [], ◌∷◌, ◌++◌, length, get_or, take, drop, replicate, inl, inr, refl, ap, sym, ◌∙◌, arith, length-drop, length-take}
use Rattle.std.specs.List.{list_all, slice_index}
use Rattle.std.proofs.lemmas.Bool.{and_parts, and_from, leb-true, le-leb, lt-ltb, not-true, both_ways, cases_Bool, cases_lt, cond-false, cond-true, false_from_ne_true}
use Rattle.std.proofs.lemmas.List.{ext_get_or, get_or-take, get_or-drop, get_or_append_left, get_or-append_right, get_or-replicate, get_or_past, length-replicate}
use Rattle.std.proofs.lemmas.List.FromFn.{get_or-map-range_with_len, length-map-range_with_len}
use Rattle.elf_load.specs.declared.segment.Segment.{Segment}
use Rattle.elf_load.specs.Copying.{byte_over}
use Rattle.elf_load.specs.MemoryImage.{is_within, covers, byte_at, bytes_from}
use Rattle.elf_load.specs.SoundImage.{is_placed, do_overlap, are_apart}
use Rattle.elf_load.proofs.Lists.{passed_over}

-- the start and the end of what lies within
within-parts : (start count base size : ℕ) → is_within start count base size ≡ true → (base ≤ start) × (start + count ≤ base + size)
within-parts start count base size h = let parts = and_parts (nat_le base start) (nat_le (start + count) (base + size)) h in (leb-true _ _ parts.0, leb-true _ _ parts.1)

within : (start count base size : ℕ) → base ≤ start → start + count ≤ base + size → is_within start count base size ≡ true
within start count base size begins ends = and_from _ _ (le-leb _ _ begins) (le-leb _ _ ends)

before : (x base size : ℕ) → x < base → is_within x 1 base size ≡ false
before x base size h = false_from_ne_true _ (λ e. let parts = within-parts x 1 base size e in omega (arith, parts.0))

behind : (x base size : ℕ) → base + size ≤ x → is_within x 1 base size ≡ false
behind x base size h = false_from_ne_true _ (λ e. let parts = within-parts x 1 base size e in omega (arith, parts.1))

-- the file has no more bytes of a segment than it takes of memory
no_more : (base size : ℕ) (s : Segment) → is_placed base size s ≡ true → length s.bytes ≤ s.memsz
unfolding is_placed
no_more base size s h = leb-true _ _ (and_parts _ _ (and_parts _ _ h).0).1

file-covered : (s : Segment) (x : ℕ) → length s.bytes ≤ s.memsz → is_within x 1 s.vaddr (length s.bytes) ≡ true → covers s x 1 ≡ true
file-covered s x room h = let parts = within-parts x 1 s.vaddr (length s.bytes) h in within x 1 s.vaddr s.memsz parts.0 (omega (arith, parts.1))

-- two segments that have a byte overlap
both_cover : (s t : Segment) (x : ℕ) → covers s x 1 ≡ true → covers t x 1 ≡ true → do_overlap s t ≡ true
unfolding do_overlap
both_cover s t x h k =
    let a = within-parts x 1 s.vaddr s.memsz h in
    let b = within-parts x 1 t.vaddr t.memsz k in
    lt-ltb _ _ (omega (arith, a.0, a.1, b.0, b.1))

-- the only segment: its bytes of the file, and zeros
byte_at-first : (s : Segment) (x : ℕ) → length s.bytes ≤ s.memsz → byte_at (s ∷ []) x ≡ byte_over s x 0
byte_at-first s x room = elim (cases_Bool (is_within x 1 s.vaddr (length s.bytes))) [
  | inl has ↦ cond-true _ _ _ (file-covered s x room has) ∙ sym (cond-true _ _ _ has)
  | inr lacks ↦ elim (cases_Bool (covers s x 1)) [
    | inl covered ↦
        let parts = within-parts x 1 s.vaddr s.memsz covered in
        let past : length s.bytes ≤ x - s.vaddr = elim (cases_lt (x - s.vaddr) (length s.bytes)) [
          | inl below ↦ absurd (both_ways _ lacks (within x 1 s.vaddr (length s.bytes) parts.0 (omega (arith, parts.0))))
          | inr above ↦ above
        ] in
        cond-true _ _ _ covered ∙ get_or_past s.bytes (x - s.vaddr) 0 past ∙ sym (cond-false _ _ _ lacks)
    | inr outside ↦ cond-false _ _ _ outside ∙ sym (cond-false _ _ _ lacks)
  ]
]

list_all-at : {X : Type 0} (p : X → Bool) (xs : List X) (k : ℕ) (d : X) → list_all p xs ≡ true → k < length xs → p (get_or xs k d) ≡ true
list_all-at p [] k d h l = absurd (omega arith)
list_all-at p (x ∷ xs) zero d h l = (and_parts _ _ h).0
list_all-at p (x ∷ xs) (suc k) d h l = list_all-at p xs k d (and_parts _ _ h).1 (omega arith)

-- one more segment: its bytes of the file, and what there was before
byte_at-more : (base size : ℕ) (ss : List Segment) (k : ℕ) (s : Segment) (x : ℕ) → list_all (is_placed base size) ss ≡ true → are_apart ss ≡ true → k < length ss → s ≡ get_or ss k s → byte_at (take (k + 1) ss) x ≡ byte_over s x (byte_at (take k ss) x)
byte_at-more base size [] k s x placed apart l e = absurd (omega arith)
byte_at-more base size (t ∷ ts) zero s x placed apart l e =
    rw e (byte_at-first t x (no_more base size t (and_parts _ _ placed).0))
byte_at-more base size (t ∷ ts) (suc k) s x placed apart l e =
    let next : suc k + 1 ≡ suc (k + 1) = omega arith in
    let below : k < length ts = omega arith in
    let later = byte_at-more base size ts k s x (and_parts _ _ placed).1 (and_parts _ _ apart).1 below e in
    let alone : do_overlap t s ≡ false = rw e (passed_over (do_overlap t) ts k s (not-true _ (and_parts _ _ apart).0) below) in
    let room : length s.bytes ≤ s.memsz = rw e (no_more base size _ (list_all-at (is_placed base size) ts k s (and_parts _ _ placed).1 below)) in
    rw next (elim (cases_Bool (covers t x 1)) [
      | inl covered ↦
          let lacks : is_within x 1 s.vaddr (length s.bytes) ≡ false =
          false_from_ne_true _ (λ has. both_ways _ alone (both_cover t s x covered (file-covered s x room has))) in
          rw covered (sym (cond-false _ _ _ lacks))
      | inr outside ↦ rw outside later
    ])

-- what was copied from one more segment
pub copied : (base size : ℕ) (ss : List Segment) (k : ℕ) (s : Segment) (addr count : ℕ) (out new : List ℕ) → list_all (is_placed base size) ss ≡ true → are_apart ss ≡ true → k < length ss → s ≡ get_or ss k s → out ≡ bytes_from (take k ss) addr count → length new ≡ length out → ((i : ℕ) → i < length out → slice_index new i ≡ byte_over s (addr + i) (slice_index out i)) → new ≡ bytes_from (take (k + 1) ss) addr count
copied base size ss k s addr count out new placed apart below e old same over =
    let size_of : (ts : List Segment) → length (bytes_from ts addr count) ≡ count = λ ts. length-map-range_with_len (byte_at ts) addr count in
    let long : length out ≡ count = ap length old ∙ size_of (take k ss) in
    ext_get_or 0 _ _ (same ∙ long ∙ sym (size_of (take (k + 1) ss))) (λ i l.
    let inside : i < count = omega arith in
    let byte : get_or out i 0 ≡ byte_at (take k ss) (addr + i) = rw old (get_or-map-range_with_len (byte_at (take k ss)) addr count i (addr + i) 0 inside refl) in
    over i (omega arith)
    ∙ ap (λ b. byte_over s (addr + i) b) byte
    ∙ sym (byte_at-more base size ss k s (addr + i) placed apart below e)
    ∙ sym (get_or-map-range_with_len (byte_at (take (k + 1) ss)) addr count i (addr + i) 0 inside refl))

-- without segments memory is zeros
pub zeros : (addr count : ℕ) → replicate count 0 ≡ bytes_from [] addr count
zeros addr count =
    let long = length-map-range_with_len (byte_at []) addr count in
    ext_get_or 0 _ _ (length-replicate {A = ℕ} count 0 ∙ sym long) (λ i l.
    let inside : i < count = omega (arith, length-replicate {A = ℕ} count 0) in
    get_or-replicate count i 0 0 inside ∙ sym (get_or-map-range_with_len (byte_at []) addr count i (addr + i) 0 inside refl))

-- bytes of a segment, from place `skipped` on, that were written from place `start` on over others, which begin at
-- `addr`
pub written : (s : Segment) (addr : ℕ) (out : List ℕ) (skipped start count i : ℕ) → skipped ≡ addr - s.vaddr → start ≡ s.vaddr - addr → skipped < length s.bytes → start < length out → count ≡ min (length s.bytes - skipped) (length out - start) → i < length out → slice_index (take start out ++ (take count (drop skipped s.bytes) ++ drop count (drop start out))) i ≡ byte_over s (addr + i) (slice_index out i)
written s addr out skipped start count i e f a b g l =
    let front : length (take start out) ≡ start = omega (arith, length-take start out) in
    let middle : length (take count (drop skipped s.bytes)) ≡ count = omega (arith, length-take count (drop skipped s.bytes), length-drop skipped s.bytes) in
    elim (cases_lt i start) [
      | inl early ↦
          get_or_append_left (take start out) _ 0 i (omega arith)
          ∙ get_or-take start out i 0 early
          ∙ sym (cond-false _ _ _ (before (addr + i) s.vaddr (length s.bytes) (omega arith)))
      | inr late ↦
          get_or-append_right (take start out) _ start i 0 front late
          ∙ elim (cases_lt (i - start) count) [
            | inl here ↦
                let place : skipped + (i - start) ≡ addr + i - s.vaddr = omega arith in
                get_or_append_left (take count (drop skipped s.bytes)) _ 0 (i - start) (omega arith)
                ∙ get_or-take count (drop skipped s.bytes) (i - start) 0 here
                ∙ get_or-drop skipped s.bytes (i - start) 0
                ∙ ap (λ n. get_or s.bytes n 0) place
                ∙ sym (cond-true _ _ _ (within (addr + i) 1 s.vaddr (length s.bytes) (omega arith) (omega arith)))
            | inr past ↦
                let place : start + (count + (i - start - count)) ≡ i = omega arith in
                get_or-append_right (take count (drop skipped s.bytes)) _ count (i - start) 0 middle past
                ∙ get_or-drop count (drop start out) (i - start - count) 0
                ∙ get_or-drop start out (count + (i - start - count)) 0
                ∙ ap (λ n. get_or out n 0) place
                ∙ sym (cond-false _ _ _ (behind (addr + i) s.vaddr (length s.bytes) (omega arith)))
          ]
    ]
