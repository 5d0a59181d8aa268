-- The bytes of a home's lines while the lines that have bytes of a segment are filled.
use Rattle.std.proofs.Common.{◌≡◌, ◌⊎◌, inl, inr, ℕ, zero, suc, ◌+◌, ◌-◌, ◌*◌, ◌/◌, ◌%◌, ◌<◌, ◌≤◌, Bool, true, false, List, ◌∷◌, length, get_or, refl, sym, ap, ◌∙◌, subst, arith, length-append}
use Rattle.std.specs.List.{flat_map, range_with_len}
use Rattle.std.proofs.Math.ListN.{get_or-append, get_or-eq_default}
use Rattle.std.proofs.Math.Seq.{get_or-append_right}
use Rattle.std.proofs.lemmas.Bool.{cases_lt}
use Rattle.std.proofs.lemmas.Nat.{div-mul-add}
use Rattle.std.proofs.lemmas.List.{ext_get_or}
use Rattle.elf_load.specs.declared.segment.Segment.{Segment}
use Rattle.elf_load.specs.MemoryImage.{covers, byte_at}
use Rattle.home.specs.FirstBytes.{address_at}
use Rattle.home.proofs.LinesPlaced.{after_it, before_it, spliced, within_it}
use Rattle.home.proofs.FirstBytes.{lines_rise, within_parts}

-- ---- one line more

module _ (f : ℕ → ℕ) (lines line : List ℕ) (i : ℕ) (within : 64 * i + 64 ≤ length lines) (long : length line ≡ 64) (is : (k : ℕ) → k < 64 → get_or line k 0 ≡ f (64 * i + k)) where
  in_it : (at : ℕ) → 64 * i ≤ at → at < 64 * i + 64 → get_or (spliced lines line (64 * i) within long) at 0 ≡ f at
  in_it at low high =
      let k : ℕ = at - 64 * i in
      let below : k < 64 = omega (arith, low, high) in
      let there : at ≡ 64 * i + k = omega (arith, low) in
      within_it lines line (64 * i) within long at k below there ∙ (is k below ∙ ap f (sym there))

  pub filled_more : (low : ℕ) → ((at : ℕ) → low ≤ at → at < 64 * i → get_or lines at 0 ≡ f at)
      → (at : ℕ) → low ≤ at → at < 64 * (i + 1) → get_or (spliced lines line (64 * i) within long) at 0 ≡ f at
  filled_more low before at l h = elim (cases_lt at (64 * i)) [
    | inl under ↦ before_it lines line (64 * i) within long at under ∙ before at l under
    | inr over ↦ in_it at over (omega (arith, h))
  ]

  pub others_stay : (old : List ℕ) → ((at : ℕ) → get_or old at 0 ≡ f at → get_or lines at 0 ≡ get_or old at 0)
      → (at : ℕ) → get_or old at 0 ≡ f at → get_or (spliced lines line (64 * i) within long) at 0 ≡ get_or old at 0
  others_stay old before at e = elim (cases_lt at (64 * i)) [
    | inl under ↦ before_it lines line (64 * i) within long at under ∙ before at e
    | inr over ↦ elim (cases_lt at (64 * i + 64)) [
      | inl inside ↦ in_it at over inside ∙ sym e
      | inr past ↦ after_it lines line (64 * i) within long at past ∙ before at e
    ]
  ]

-- ---- one segment more

-- a segment has no byte of the file at this address
byte_past : (s : Segment) (ss : List Segment) (addr : ℕ) → byte_at ss addr ≡ 0 → (addr < s.vaddr) ⊎ (s.vaddr + length s.bytes ≤ addr) → byte_at (s ∷ ss) addr ≡ 0
byte_past s ss addr none out = go (covers s addr 1) refl where
  go : (b : Bool) → covers s addr 1 ≡ b → byte_at (s ∷ ss) addr ≡ 0
  go true e =
      let here = within_parts addr 1 s.vaddr s.memsz e in
      rw e (elim out [
        | inl low ↦ absurd (omega (arith, low, here.0))
        | inr high ↦ get_or-eq_default s.bytes 0 {n = addr - s.vaddr} (omega (arith, high))
      ])
  go false e = rw e none

pub address_is : (shards number first i k : ℕ) → k < 64 → 64 * ((first + i) * shards + number) + k ≡ address_at shards number first (64 * i + k)
address_is shards number first i k l =
    let line : i ≡ (64 * i + k) / 64 = omega (arith, l) in
    let place : k ≡ (64 * i + k) % 64 = omega (arith, l) in
    ap (λ (q : ℕ). 64 * ((first + q) * shards + number) + k) line ∙ ap (λ (r : ℕ). 64 * ((first + (64 * i + k) / 64) * shards + number) + r) place

last_of : (a line r : ℕ) → r < 64 → a ≡ 64 * line + r → a / 64 ≡ line
last_of a line r less is = omega (arith, less, is)

rise_to : (x y line shards n : ℕ) → 0 < shards → line / shards ≡ n → x ≤ y → y / 64 ≡ line → x / 64 / shards ≤ n
rise_to x y line shards n some is h e =
    let below : x / 64 ≤ line = omega (arith, h, e) in
    subst (λ (k : ℕ). x / 64 / shards ≤ k) is (lines_rise (x / 64) line shards some below)

rise_from : (x y line shards n : ℕ) → 0 < shards → line / shards ≡ n → x < y → x / 64 ≡ line → n ≤ y / 64 / shards
rise_from x y line shards n some is h e =
    let below : line ≤ y / 64 = omega (arith, h, e) in
    subst (λ (k : ℕ). k ≤ y / 64 / shards) is (lines_rise line (y / 64) shards some below)

bound_below : (x first at : ℕ) → x ≤ first + at / 64 → 64 * (x - first) ≤ at
bound_below x first at h = omega (arith, h)

bound_above : (x first at : ℕ) → first + at / 64 ≤ x → at < 64 * (x - first + 1)
bound_above x first at h = omega (arith, h)

module _ (shards number first count : ℕ) (less : number < shards) (at : ℕ) (kept : at < 64 * count) where
  abbrev line_of : ℕ
  line_of = (first + at / 64) * shards + number

  line_is : line_of / shards ≡ first + at / 64
  line_is = div-mul-add (first + at / 64) shards number less

  address_line : address_at shards number first at / 64 ≡ line_of
  address_line = last_of (address_at shards number first at) line_of (at % 64) (omega arith) refl

  pub starts_before : (vaddr : ℕ) → vaddr ≤ address_at shards number first at → 64 * (vaddr / 64 / shards - first) ≤ at
  starts_before vaddr low =
      let rise = rise_to vaddr (address_at shards number first at) line_of shards (first + at / 64) (omega (arith, less)) line_is low address_line in
      bound_below (vaddr / 64 / shards) first at rise

  pub ends_after : (end : ℕ) → address_at shards number first at < end → at < 64 * (end / 64 / shards - first + 1)
  ends_after end high =
      let rise = rise_from (address_at shards number first at) end line_of shards (first + at / 64) (omega (arith, less)) line_is high address_line in
      bound_above (end / 64 / shards) first at rise

  pub segment_more : (s : Segment) (ss : List Segment) (byte old now : ℕ) → byte_at ss (address_at shards number first at) ≡ 0
      → (byte_at (s ∷ ss) (address_at shards number first at) ≡ 0 → old ≡ byte)
      → (64 * (s.vaddr / 64 / shards - first) ≤ at → at < 64 * ((s.vaddr + length s.bytes) / 64 / shards - first + 1) → now ≡ byte)
      → (old ≡ byte → now ≡ old) → now ≡ byte
  segment_more s ss byte old now none before filled others =
      let a : ℕ = address_at shards number first at in
      let kept_on : (a < s.vaddr) ⊎ (s.vaddr + length s.bytes ≤ a) → now ≡ byte = λ out. let was = before (byte_past s ss a none out) in others was ∙ was in
      elim (cases_lt a s.vaddr) [
        | inl low ↦ kept_on (inl low)
        | inr from ↦ elim (cases_lt a (s.vaddr + length s.bytes)) [
          | inl to ↦ filled (starts_before s.vaddr from) (ends_after (s.vaddr + length s.bytes) to)
          | inr high ↦ kept_on (inr high)
        ]
      ]

-- ---- all lines

module _ (g : ℕ → List ℕ) (each : (n : ℕ) → length (g n) ≡ 64) where
  flat_size : (first count : ℕ) → length (flat_map g (range_with_len first count)) ≡ 64 * count
  flat_size first zero = refl
  flat_size first (suc count) = length-append (g first) (flat_map g (range_with_len (first + 1) count)) ∙ omega (arith, each first, flat_size (first + 1) count)

  flat_byte : (first count at : ℕ) → at < 64 * count → get_or (flat_map g (range_with_len first count)) at 0 ≡ get_or (g (first + at / 64)) (at % 64) 0
  flat_byte first zero at h = absurd (omega (arith, h))
  flat_byte first (suc count) at h = elim (cases_lt at 64) [
    | inl low ↦
        let line : first ≡ first + at / 64 = omega (arith, low) in
        let here : at ≡ at % 64 = omega (arith, low) in
        get_or-append (g first) (flat_map g (range_with_len (first + 1) count)) 0 at (omega (arith, low, each first))
        ∙ (ap (λ (n : ℕ). get_or (g n) at 0) line ∙ ap (λ (k : ℕ). get_or (g (first + at / 64)) k 0) here)
    | inr high ↦
        let back : at - length (g first) ≡ at - 64 = omega (arith, each first) in
        let line : first + 1 + (at - 64) / 64 ≡ first + at / 64 = omega (arith, high) in
        let here : (at - 64) % 64 ≡ at % 64 = omega (arith, high) in
        get_or-append_right (g first) (flat_map g (range_with_len (first + 1) count)) at 0 (omega (arith, high, each first))
        ∙ (ap (λ (k : ℕ). get_or (flat_map g (range_with_len (first + 1) count)) k 0) back
        ∙ (flat_byte (first + 1) count (at - 64) (omega (arith, high, h))
        ∙ (ap (λ (n : ℕ). get_or (g n) ((at - 64) % 64) 0) line ∙ ap (λ (k : ℕ). get_or (g (first + at / 64)) k 0) here)))
  ]

  pub all_lines : (first count : ℕ) (lines : List ℕ) → length lines ≡ 64 * count → ((at : ℕ) → at < 64 * count → get_or lines at 0 ≡ get_or (g (first + at / 64)) (at % 64) 0)
      → lines ≡ flat_map g (range_with_len first count)
  all_lines first count lines size bytes =
      ext_get_or 0 lines (flat_map g (range_with_len first count)) (size ∙ sym (flat_size first count)) (λ at h.
      let below : at < 64 * count = omega (arith, h, size) in
      bytes at below ∙ sym (flat_byte first count at below))
