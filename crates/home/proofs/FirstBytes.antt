-- The bytes of a shard's lines before the first access: a line outside memory, and one line more.
use Rattle.std.proofs.Common.{◌≡◌, ℕ, zero, suc, ◌+◌, ◌*◌, ◌/◌, ◌%◌, ◌<◌, ◌≤◌, nat_le, Bool, true, false, List, [], ◌∷◌, ◌++◌, length, get_or, take, drop, replicate, refl, ap, sym, ◌∙◌, arith, add-one}
use Rattle.std.specs.List.{flat_map, list_all, range_with_len}
use Rattle.std.proofs.Math.Nat.{div-mul-le_self, mul-le-mul_right}
use Rattle.std.proofs.Math.Seq.{take-append-add, take-append_seam}
use Rattle.std.proofs.lemmas.Bool.{and_parts, false≢true, leb-true, false_from_ne_true}
use Rattle.std.proofs.lemmas.Grind.{flat_map-append}
use Rattle.std.proofs.lemmas.Nat.{le-div}
use Rattle.std.proofs.lemmas.List.{append-nil, ext_get_or, get_or-replicate, length-replicate, length-take-le}
use Rattle.std.proofs.lemmas.List.Folds.{list_all_at}
use Rattle.std.proofs.lemmas.List.FromFn.{get_or-map-range_with_len, length-map-range_with_len}
use Rattle.elf_load.specs.declared.segment.Segment.{Segment}
use Rattle.elf_load.specs.MemoryImage.{is_within, covers, byte_at, bytes_from}
use Rattle.elf_load.specs.SoundImage.{is_placed}

-- what lies within a range has its start and its end there
pub within_parts : (start count base size : ℕ) → is_within start count base size ≡ true → (base ≤ start) × (start + count ≤ base + size)
within_parts start count base size h =
    let parts = and_parts (nat_le base start) (nat_le (start + count) (base + size)) h in
    (leb-true _ _ parts.0, leb-true _ _ parts.1)

placed_parts : (base size : ℕ) (s : Segment) → is_placed base size s ≡ true → (base ≤ s.vaddr) × (s.vaddr + s.memsz ≤ base + size)
unfolding is_placed
placed_parts base size s h = within_parts s.vaddr s.memsz base size (and_parts _ _ h).1

-- a segment's bytes of the file lie in memory
pub segment_ends : (base size : ℕ) (segments : List Segment) (i : ℕ) (s : Segment) → i < length segments → s ≡ get_or segments i s
    → list_all (is_placed base size) segments ≡ true → s.vaddr + length s.bytes ≤ base + size
unfolding is_placed
segment_ends base size segments i s h e placed = go (is_placed base size s) refl where
  go : (b : Bool) → is_placed base size s ≡ b → s.vaddr + length s.bytes ≤ base + size
  go true t =
      let inside = placed_parts base size s t in
      let short : length s.bytes ≤ s.memsz = leb-true (length s.bytes) s.memsz (and_parts _ _ (and_parts _ _ t).0).1 in
      omega (arith, inside.1, short)
  go false t = absurd (false≢true (sym (list_all_at (is_placed base size) segments i s h (ap (is_placed base size) (sym e) ∙ t)) ∙ placed))

-- no segment has an address outside memory
byte_outside : (base size addr : ℕ) (segments : List Segment) → list_all (is_placed base size) segments ≡ true → (base ≤ addr → base + size ≤ addr) → byte_at segments addr ≡ 0
byte_outside base size addr [] placed out = refl
byte_outside base size addr (s ∷ ss) placed out =
    let parts = and_parts (is_placed base size s) (list_all (is_placed base size) ss) placed in
    let inside : (base ≤ s.vaddr) × (s.vaddr + s.memsz ≤ base + size) = placed_parts base size s parts.0 in
    let missed : covers s addr 1 ≡ false =
    false_from_ne_true _ (λ e. let here : (s.vaddr ≤ addr) × (addr + 1 ≤ s.vaddr + s.memsz) = within_parts addr 1 s.vaddr s.memsz e in omega (arith, inside.0, inside.1, here.0, here.1, out)) in
    rw missed (byte_outside base size addr ss parts.1 out)

zeros : (segments : List Segment) (addr count : ℕ) → ((i : ℕ) → i < count → byte_at segments (addr + i) ≡ 0) → replicate count 0 ≡ bytes_from segments addr count
zeros segments addr count each =
    ext_get_or 0 (replicate count 0) (bytes_from segments addr count) (length-replicate count 0 ∙ sym (length-map-range_with_len (byte_at segments) addr count)) (λ i h.
    let below : i < count = omega (arith, h, length-replicate {A = ℕ} count 0) in
    get_or-replicate count i 0 0 below ∙ sym (get_or-map-range_with_len (byte_at segments) addr count i (addr + i) 0 below refl ∙ each i below))

-- a line that does not begin in memory has zeros
pub line_outside : (base size addr : ℕ) (segments : List Segment) → list_all (is_placed base size) segments ≡ true
    → addr % 64 ≡ 0 → base % 64 ≡ 0 → size % 64 ≡ 0 → (base ≤ addr → base + size ≤ addr) → replicate 64 0 ≡ bytes_from segments addr 64
line_outside base size addr segments placed a b s out =
    zeros segments addr 64 (λ i h. byte_outside base size (addr + i) segments placed (λ low. omega (arith, low, h, a, b, s, out)))

-- ---- one line more

range_more : (a n : ℕ) → range_with_len a (suc n) ≡ range_with_len a n ++ (a + n) ∷ []
range_more a zero = ap (λ (k : ℕ). k ∷ []) (omega arith)
range_more a (suc n) =
    ap (λ (ns : List ℕ). a ∷ ns) (range_more (a + 1) n ∙ ap (λ (k : ℕ). range_with_len (a + 1) n ++ k ∷ []) (omega arith))

pub line_more : (f : ℕ → List ℕ) (first i place end : ℕ) (old piece : List ℕ) → take place old ≡ flat_map f (range_with_len first i) → piece ≡ f (first + i)
    → length piece ≡ 64 → place + 64 ≡ end → end ≤ length old
    → take end (take place old ++ (piece ++ drop end old)) ≡ flat_map f (range_with_len first (i + 1))
line_more f first i place end old piece done here line ends within =
    let before : length (take place old) ≡ place = length-take-le place old (omega arith) in
    let added : end ≡ length (take place old) + length piece = omega arith in
    let cut : take end (take place old ++ (piece ++ drop end old)) ≡ take place old ++ piece =
    ap (λ (n : ℕ). take n (take place old ++ (piece ++ drop end old))) added
    ∙ (take-append-add (take place old) (piece ++ drop end old) (length piece) ∙ ap (λ (xs : List ℕ). take place old ++ xs) (take-append_seam piece (drop end old))) in
    let wanted : flat_map f (range_with_len first (i + 1)) ≡ flat_map f (range_with_len first i) ++ (f (first + i) ++ []) =
    ap (λ (n : ℕ). flat_map f (range_with_len first n)) (add-one i) ∙ ap (flat_map f) (range_more first i) ∙ flat_map-append f (range_with_len first i) ((first + i) ∷ []) in
    cut ∙ sym (wanted ∙ (ap (λ (xs : List ℕ). flat_map f (range_with_len first i) ++ xs) (append-nil (f (first + i))) ∙ rw (done, here) refl))

-- ---- the lines that a shard keeps

pub lines_rise : (low high shards : ℕ) → 0 < shards → low ≤ high → low / shards ≤ high / shards
lines_rise low high shards some h = le-div (low / shards) high shards some (omega (arith, div-mul-le_self low shards))

-- none of them comes after the last line of memory
pub line_is_below : (line last shards : ℕ) → line ≤ last / shards → line * shards ≤ last
line_is_below line last shards h = omega (arith, div-mul-le_self last shards, mul-le-mul_right {m = line} {n = last / shards} shards h)
