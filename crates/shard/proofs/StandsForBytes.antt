-- The bytes of a memory, and those of them that one shard keeps: the same are read, and the same are left after a
-- write.
use Rattle.std.proofs.Common.{◌≡◌, ◌⊎◌, ℕ, zero, suc, ◌+◌, ◌-◌, ◌*◌, ◌/◌, ◌%◌, ◌<◌, ◌≤◌, List, ◌++◌, length, get_or, take, drop, Some, refl, sym, ap, ◌∙◌, subst, arith, inl, inr, length-append, length-drop}
use Rattle.std.specs.Prelude.{slice_get}
use Rattle.std.proofs.Math.Nat.{div-add-mod, div-mul-le_self}
use Rattle.std.proofs.Math.Seq.{get_or-append_right}
use Rattle.std.proofs.lemmas.Bool.{cases_lt}
use Rattle.std.proofs.lemmas.List.{get_or-drop, get_or-take, get_or_append_left, length-take-le}
use Rattle.std.proofs.lemmas.Nat.{le-div}
use Rattle.std.proofs.lemmas.Option.{get_or_from_slice_get, slice_get-get_or, slice_get_within}
use Rattle.byteorder.specs.Endian.{little_bytes, little_from}
use Rattle.byteorder.specs.Numbers.{length-bytes_low_first}
use Rattle.flat_memory.specs.FlatMemory.{number_in, with_number}
use Rattle.zs_num.specs.Request.{line_at}
use Rattle.shard.specs.Served.{place_of}

-- ---- a number in a list of bytes
little_same : (width i : ℕ) (xs ys : List ℕ) → ((k : ℕ) → k < width → get_or xs (i + k) 0 ≡ get_or ys (i + k) 0) → little_from i width xs ≡ little_from i width ys
little_same zero i xs ys h = refl
little_same (suc n) i xs ys h =
    let here : i + 0 ≡ i = omega arith in
    let head : get_or xs i 0 ≡ get_or ys i 0 = subst (λ (j : ℕ). get_or xs j 0 ≡ get_or ys j 0) here (h 0 (omega arith)) in
    let tail : little_from (suc i) n xs ≡ little_from (suc i) n ys
    = little_same n (suc i) xs ys (λ k l. subst (λ (j : ℕ). get_or xs j 0 ≡ get_or ys j 0) (let e : i + suc k ≡ suc i + k = omega arith in e) (h (suc k) (omega arith))) in
    rw (head, tail) refl

pub number_same : (width p q : ℕ) (xs ys : List ℕ) → ((k : ℕ) → k < width → get_or xs (p + k) 0 ≡ get_or ys (q + k) 0) → number_in xs p width ≡ number_in ys q width
unfolding number_in
number_same width p q xs ys h =
    little_same width 0 (drop p xs) (drop q ys)
    (λ k l. get_or-drop p xs (0 + k) 0 ∙ (subst (λ (j : ℕ). get_or xs (p + j) 0 ≡ get_or ys (q + j) 0) (let e : k ≡ 0 + k = omega arith in e) (h k l) ∙ sym (get_or-drop q ys (0 + k) 0)))

module _ (bytes : List ℕ) (place width value : ℕ) (within : place + width ≤ length bytes) where
  front : length (take place bytes) ≡ place
  front = length-take-le place bytes (omega arith)

  number_length : length (little_bytes width value) ≡ width
  number_length = length-bytes_low_first 0 width value

  pub length_written : length (with_number bytes place width value) ≡ length bytes
  unfolding with_number
  length_written =
      omega (arith, within, front, number_length, length-append (take place bytes) (little_bytes width value ++ drop (place + width) bytes), length-append (little_bytes width value) (drop (place + width) bytes), length-drop (place + width) bytes)

  pub written_before : (i : ℕ) → i < place → get_or (with_number bytes place width value) i 0 ≡ get_or bytes i 0
  unfolding with_number
  written_before i before =
      get_or_append_left (take place bytes) _ 0 i (omega (arith, front, before)) ∙ get_or-take place bytes i 0 before

  pub written_here : (k : ℕ) → k < width → get_or (with_number bytes place width value) (place + k) 0 ≡ get_or (little_bytes width value) k 0
  unfolding with_number
  written_here k l =
      get_or-append_right (take place bytes) _ (place + k) 0 (omega (arith, front))
      ∙ (get_or_append_left (little_bytes width value) _ 0 (place + k - length (take place bytes)) (omega (arith, front, number_length, l))
      ∙ ap (λ (n : ℕ). get_or (little_bytes width value) n 0) (omega (arith, front)))

  pub written_behind : (i : ℕ) → place + width ≤ i → get_or (with_number bytes place width value) i 0 ≡ get_or bytes i 0
  unfolding with_number
  written_behind i behind =
      get_or-append_right (take place bytes) _ i 0 (omega (arith, front, behind))
      ∙ (get_or-append_right (little_bytes width value) _ (i - length (take place bytes)) 0 (omega (arith, front, number_length, behind))
      ∙ (get_or-drop (place + width) bytes (i - length (take place bytes) - length (little_bytes width value)) 0
      ∙ ap (λ (n : ℕ). get_or bytes n 0) (omega (arith, front, number_length, behind))))

-- ---- places of a shard's bytes
pub div_mono : (n a b : ℕ) → 0 < n → a ≤ b → a / n ≤ b / n
div_mono n a b some l = le-div (a / n) b n some (omega (arith, div-mul-le_self a n))

module _ (n base : ℕ) (some : 0 < n) where
  pub place_step : (addr k : ℕ) → addr % 64 + k < 64 → place_of n base (addr + k) ≡ place_of n base addr + k
  place_step addr k l =
      let line : (addr + k) / 64 ≡ addr / 64 = omega arith in
      let rest : (addr + k) % 64 ≡ addr % 64 + k = omega arith in
      rw (line, rest) (omega arith)

  -- bytes of a shard whose places are near are of one line
  near_is_same : (addr b width : ℕ) → base ≤ addr → base ≤ b → line_at b % n ≡ line_at addr % n → addr % 64 + width ≤ 64 → place_of n base addr ≤ place_of n base b → place_of n base b < place_of n base addr + width → line_at b ≡ line_at addr
  near_is_same addr b width from_a from_b rest fits low high =
      let la : base / 64 / n ≤ addr / 64 / n = div_mono n (base / 64) (addr / 64) some (omega arith) in
      let lb : base / 64 / n ≤ b / 64 / n = div_mono n (base / 64) (b / 64) some (omega arith) in
      let same : b / 64 / n ≡ addr / 64 / n = omega arith in
      sym (div-add-mod (b / 64) n) ∙ (ap (λ (q : ℕ). n * q + b / 64 % n) same ∙ (ap (λ (r : ℕ). n * (addr / 64 / n) + r) rest ∙ div-add-mod (addr / 64) n))

  -- a byte outside those of an access has its place outside theirs
  pub outside : (addr b width : ℕ) → base ≤ addr → base ≤ b → line_at b % n ≡ line_at addr % n → addr % 64 + width ≤ 64 → (b < addr) ⊎ (addr + width ≤ b)
      → (place_of n base b < place_of n base addr) ⊎ (place_of n base addr + width ≤ place_of n base b)
  outside addr b width from_a from_b rest fits out =
      elim (cases_lt (place_of n base b) (place_of n base addr)) as (λ _. (place_of n base b < place_of n base addr) ⊎ (place_of n base addr + width ≤ place_of n base b)) [
        | inl l ↦ inl l
        | inr low ↦ elim (cases_lt (place_of n base b) (place_of n base addr + width)) as (λ _. (place_of n base b < place_of n base addr) ⊎ (place_of n base addr + width ≤ place_of n base b)) [
          | inl high ↦
              let line : b / 64 ≡ addr / 64 = near_is_same addr b width from_a from_b rest fits low high in
              let quotient : b / 64 / n ≡ addr / 64 / n = ap (λ (x : ℕ). x / n) line in
              absurd (elim out as (λ _. ⊥) [ inl l ↦ omega arith | inr l ↦ omega arith ])
          | inr high ↦ inr high
        ]
      ]

-- ---- the bytes of memory and of a shard
pub read_same : (xs ys : List ℕ) (i j : ℕ) → i < length xs → slice_get xs i ≡ slice_get ys j → (j < length ys) × (get_or xs i 0 ≡ get_or ys j 0)
read_same xs ys i j l e =
    let at : slice_get ys j ≡ Some (get_or xs i 0) = sym e ∙ slice_get-get_or xs i 0 l in
    (slice_get_within ys j (get_or xs i 0) at, sym (get_or_from_slice_get ys j (get_or xs i 0) 0 at))

pub slice_same : (xs ys : List ℕ) (i j : ℕ) → i < length xs → j < length ys → get_or xs i 0 ≡ get_or ys j 0 → slice_get xs i ≡ slice_get ys j
slice_same xs ys i j l m e = slice_get-get_or xs i 0 l ∙ (ap (λ (x : ℕ). Some x) e ∙ sym (slice_get-get_or ys j 0 m))

-- of so many shards, the one of this number has its bytes of memory from a base on
pub record Share (n number base : ℕ) (whole part : List ℕ) : Type 0 where
  pub bytes : (addr : ℕ) → base ≤ addr → addr < base + length whole → line_at addr % n ≡ number → slice_get whole (addr - base) ≡ slice_get part (place_of n base addr)
