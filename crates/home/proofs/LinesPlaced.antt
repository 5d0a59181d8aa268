-- What the bytes of a home's lines are as their chunks stand: those of one line alone are others where that is written.
use Rattle.std.proofs.Common.{◌≡◌, ◌≢◌, ◌⊎◌, inl, inr, ℕ, ◌+◌, ◌-◌, ◌*◌, ◌/◌, ◌%◌, ◌<◌, ◌≤◌, List, ◌++◌, length, get_or, take, drop, replicate, sym, ap, ◌∙◌, arith, length-append, length-drop}
use Rattle.std.proofs.Math.ListN.{get_or-append}
use Rattle.std.proofs.Math.Seq.{get_or-append_right}
use Rattle.std.proofs.lemmas.Bool.{cases_lt}
use Rattle.std.proofs.lemmas.List.{ext_get_or, get_or-drop, get_or-take, length-replicate, length-take-le}
use Rattle.home.specs.Chunks.{ArePlaced, stands_at}
use Rattle.home.specs.Lines.{bytes_in}
use Rattle.home.proofs.Placed.{count_is, equal_or_not, item_is, items_are, zeros_at}

pub big : 0 < 4096
big = omega arith

pub size_is : (size : ℕ) (places bytes : List ℕ) → length (bytes_in size places bytes) ≡ size
size_is size places bytes = count_is 0 4096 big size places bytes

-- where no chunk was written, all bytes are those of the first
pub none_written : (places bytes : List ℕ) (count : ℕ) → places ≡ replicate count 0 → ((at : ℕ) → at < 4096 → get_or bytes at 0 ≡ 0) → (size : ℕ) → bytes_in size places bytes ≡ replicate size 0
none_written places bytes count are zeros size =
    items_are 0 4096 big size places bytes (replicate size 0) (length-replicate size 0) (λ at h.
    let none : get_or places (at / 4096) 0 ≡ 0 = ap (λ (l : List ℕ). get_or l (at / 4096) 0) are ∙ zeros_at count (at / 4096) in
    zeros (stands_at 4096 places at) (omega (arith, none)) ∙ sym (zeros_at size at))

-- ---- a line among others

module _ (xs from : List ℕ) (s : ℕ) (within : s + 64 ≤ length xs) (long : length from ≡ 64) where
  abbrev pub spliced : List ℕ
  spliced = take s xs ++ (from ++ drop (s + 64) xs)

  start : length (take s xs) ≡ s
  start = length-take-le s xs (omega (arith, within))

  pub spliced_size : length spliced ≡ length xs
  spliced_size = omega (arith, start, within, long, length-append (take s xs) (from ++ drop (s + 64) xs), length-append from (drop (s + 64) xs), length-drop (s + 64) xs)

  pub before_it : (i : ℕ) → i < s → get_or spliced i 0 ≡ get_or xs i 0
  before_it i h = get_or-append (take s xs) (from ++ drop (s + 64) xs) 0 i (omega (arith, h, start)) ∙ get_or-take s xs i 0 h

  pub within_it : (i k : ℕ) → k < 64 → i ≡ s + k → get_or spliced i 0 ≡ get_or from k 0
  within_it i k h e =
      get_or-append_right (take s xs) (from ++ drop (s + 64) xs) i 0 (omega (arith, e, start))
      ∙ (ap (λ (j : ℕ). get_or (from ++ drop (s + 64) xs) j 0) (let is : i - length (take s xs) ≡ k = omega (arith, e, start) in is)
      ∙ get_or-append from (drop (s + 64) xs) 0 k (omega (arith, h, long)))

  pub after_it : (i : ℕ) → s + 64 ≤ i → get_or spliced i 0 ≡ get_or xs i 0
  after_it i h =
      get_or-append_right (take s xs) (from ++ drop (s + 64) xs) i 0 (omega (arith, h, start))
      ∙ (get_or-append_right from (drop (s + 64) xs) (i - length (take s xs)) 0 (omega (arith, h, start, long))
      ∙ (get_or-drop (s + 64) xs (i - length (take s xs) - length from) 0
      ∙ ap (λ (j : ℕ). get_or xs j 0) (let is : s + 64 + (i - length (take s xs) - length from) ≡ i = omega (arith, h, start, long) in is)))

module _ {places bytes : List ℕ} {capacity : ℕ} (h : ArePlaced 0 4096 places bytes capacity) where
  -- ---- one line

  module _ (size n : ℕ) (kept : 64 * n + 64 ≤ size) where
    abbrev s : ℕ
    s = get_or places (n / 64) 0 + 64 * (n % 64)

    pub line_within : s + 64 ≤ length bytes
    line_within = omega (arith, h.within (n / 64))

    follows : (k : ℕ) → k < 64 → stands_at 4096 places (64 * n + k) ≡ s + k
    follows k l =
        let chunk : (64 * n + k) / 4096 ≡ n / 64 = omega (arith, l) in
        let place = ap (λ (c : ℕ). get_or places c 0) chunk in
        omega (arith, l, place)

    pub line_read : take 64 (drop s bytes) ≡ take 64 (drop (64 * n) (bytes_in size places bytes))
    line_read =
        let v = bytes_in size places bytes in
        let left : length (take 64 (drop s bytes)) ≡ 64 = length-take-le 64 (drop s bytes) (omega (arith, length-drop s bytes, line_within)) in
        let right : length (take 64 (drop (64 * n) v)) ≡ 64 = length-take-le 64 (drop (64 * n) v) (omega (arith, length-drop (64 * n) v, size_is size places bytes, kept)) in
        ext_get_or 0 (take 64 (drop s bytes)) (take 64 (drop (64 * n) v)) (left ∙ sym right) (λ i l.
        let below : i < 64 = omega (arith, l, left) in
        get_or-take 64 (drop s bytes) i 0 below
        ∙ (get_or-drop s bytes i 0
        ∙ (ap (λ (j : ℕ). get_or bytes j 0) (sym (follows i below))
        ∙ sym (get_or-take 64 (drop (64 * n) v) i 0 below ∙ (get_or-drop (64 * n) v i 0 ∙ item_is 0 4096 big size places bytes (64 * n + i) 0 (omega (arith, below, kept)))))))

    module _ (from : List ℕ) (long : length from ≡ 64) (own : 0 < get_or places (n / 64) 0) where
      -- no byte of another line stands in its place
      outside : (at : ℕ) → (at < 64 * n) ⊎ (64 * n + 64 ≤ at) → s ≤ stands_at 4096 places at → s + 64 ≤ stands_at 4096 places at
      outside at out l = elim (equal_or_not (n / 64) (at / 4096)) [
        | inl e ↦
            let place = ap (λ (c : ℕ). get_or places c 0) e in
            elim out [ inl low ↦ omega (arith, e, place, low, l) | inr high ↦ omega (arith, e, place, high, l) ]
        | inr not ↦
            let differ : get_or places (n / 64) 0 ≢ get_or places (at / 4096) 0 = λ same. not (h.apart (n / 64) (at / 4096) own same) in
            omega (arith, l, differ, h.aligned (n / 64), h.aligned (at / 4096))
      ]

      pub line_written : bytes_in size places (take s bytes ++ (from ++ drop (s + 64) bytes))
          ≡ take (64 * n) (bytes_in size places bytes) ++ (from ++ drop (64 * n + 64) (bytes_in size places bytes))
      line_written =
          let v = bytes_in size places bytes in
          let whole : 64 * n + 64 ≤ length v = omega (arith, kept, size_is size places bytes) in
          let now = spliced bytes from s line_within long in
          let list = spliced v from (64 * n) whole long in
          let other : (at : ℕ) → at < size → (at < 64 * n) ⊎ (64 * n + 64 ≤ at) → get_or now (stands_at 4096 places at) 0 ≡ get_or v at 0 = λ at l out.
          (elim (cases_lt (stands_at 4096 places at) s) [
            | inl low ↦ before_it bytes from s line_within long (stands_at 4096 places at) low
            | inr high ↦ after_it bytes from s line_within long (stands_at 4096 places at) (outside at out high)
          ]) ∙ sym (item_is 0 4096 big size places bytes at 0 l) in
          items_are 0 4096 big size places now list (spliced_size v from (64 * n) whole long ∙ size_is size places bytes) (λ at l.
          elim (cases_lt at (64 * n)) [
            | inl low ↦ other at l (inl low) ∙ sym (before_it v from (64 * n) whole long at low)
            | inr least ↦ elim (cases_lt at (64 * n + 64)) [
              | inl in_it ↦
                  let k : ℕ = at - 64 * n in
                  let below : k < 64 = omega (arith, least, in_it) in
                  let is : at ≡ 64 * n + k = omega (arith, least) in
                  within_it bytes from s line_within long (stands_at 4096 places at) k below (ap (stands_at 4096 places) is ∙ follows k below)
                  ∙ sym (within_it v from (64 * n) whole long at k below is)
              | inr high ↦ other at l (inr high) ∙ sym (after_it v from (64 * n) whole long at high)
            ]
          ])

      pub are_written : ArePlaced 0 4096 places (take s bytes ++ (from ++ drop (s + 64) bytes)) capacity
      are_written =
          let long_as = spliced_size bytes from s line_within long in
          record {
            some = omega (arith, long_as, h.some);
            whole = ap (λ (n : ℕ). n % 4096) long_as ∙ h.whole;
            aligned = h.aligned;
            within = λ c. omega (arith, long_as, h.within c);
            alike = λ at l. first at l ∙ (h.alike at l ∙ sym (first 0 (omega arith)));
            apart = h.apart;
            room = omega (arith, long_as, h.room);
          } where
            -- the first chunk stays, since the line's own is another
            first : (at : ℕ) → at < 4096 → get_or (spliced bytes from s line_within long) at 0 ≡ get_or bytes at 0
            first at l = before_it bytes from s line_within long at (omega (arith, l, own, h.aligned (n / 64)))
