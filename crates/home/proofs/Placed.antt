-- What a list is as its chunks stand: the same where a chunk gets a place of its own, and another at one place alone where
-- an item is put there.
use Rattle.std.proofs.Common.{◌≡◌, ◌≢◌, ◌⊎◌, inl, inr, ℕ, zero, suc, ◌+◌, ◌*◌, ◌/◌, ◌%◌, ◌<◌, ◌≤◌, List, [], ◌∷◌, length, get_or, set, replicate, refl, sym, ap, ◌∙◌, arith}
use Rattle.std.proofs.Math.Nat.{add-mod_right}
use Rattle.std.proofs.lemmas.Bool.{cases_lt}
use Rattle.std.proofs.lemmas.List.{ext_get_or, get_or-set_other, get_or-set_same}
use Rattle.std.proofs.lemmas.List.FromFn.{get_or-map-range_with_len, length-map-range_with_len}
use Rattle.home.specs.Chunks.{ArePlaced, items_in, stands_at, unwritten}

pub equal_or_not : (m n : ℕ) → (m ≡ n) ⊎ (m ≢ n)
equal_or_not m n = elim (cases_lt m n) [
  | inl less ↦ inr (λ e. omega (arith, less, e))
  | inr least ↦ elim (cases_lt n m) [ inl more ↦ inr (λ e. omega (arith, more, e)) | inr most ↦ inl (omega (arith, least, most)) ]
]

-- ---- chunks that were never written

pub zeros_at : (count at : ℕ) → get_or (replicate {A = ℕ} count 0) at 0 ≡ 0
zeros_at zero at = refl
zeros_at (suc count) zero = refl
zeros_at (suc count) (suc at) = zeros_at count at

pub all_unwritten : (count : ℕ) → unwritten (replicate {A = ℕ} count 0) ≡ count
all_unwritten zero = refl
all_unwritten (suc count) = ap suc (all_unwritten count)

-- a chunk that gets a place was never written
pub one_less : (places : List ℕ) (chunk place : ℕ) → chunk < length places → get_or places chunk 0 ≡ 0 → 0 < place → unwritten places ≡ unwritten (set places chunk place) + 1
one_less [] chunk place inside absent some = absurd (omega (arith, inside))
one_less (zero ∷ places) zero zero inside absent some = absurd (omega (arith, some))
one_less (zero ∷ places) zero (suc place) inside absent some = omega arith
one_less (suc p ∷ places) zero place inside absent some = absurd (omega (arith, absent))
one_less (zero ∷ places) (suc chunk) place inside absent some = omega (arith, one_less places chunk place (omega (arith, inside)) absent some)
one_less (suc p ∷ places) (suc chunk) place inside absent some = one_less places chunk place (omega (arith, inside)) absent some

module _ {A : Type 0} (none : A) (chunk : ℕ) (big : 0 < chunk) where
  -- ---- one item

  pub item_is : (size : ℕ) (places : List ℕ) (items : List A) (at : ℕ) (d : A) → at < size → get_or (items_in none chunk size places items) at d ≡ get_or items (stands_at chunk places at) none
  unfolding items_in
  item_is size places items at d h =
      get_or-map-range_with_len (λ (i : ℕ). get_or items (stands_at chunk places i) none) 0 size at at d h (let e : 0 + at ≡ at = omega arith in e)

  pub count_is : (size : ℕ) (places : List ℕ) (items : List A) → length (items_in none chunk size places items) ≡ size
  unfolding items_in
  count_is size places items = length-map-range_with_len (λ (i : ℕ). get_or items (stands_at chunk places i) none) 0 size

  -- items that are the list's one by one are the list
  pub items_are : (size : ℕ) (places : List ℕ) (items list : List A) → length list ≡ size
      → ((at : ℕ) → at < size → get_or items (stands_at chunk places at) none ≡ get_or list at none) → items_in none chunk size places items ≡ list
  items_are size places items list long each =
      ext_get_or none (items_in none chunk size places items) list (count_is size places items ∙ sym long) (λ at h.
      let below : at < size = omega (arith, h, count_is size places items) in
      item_is size places items at none below ∙ each at below)

  -- ---- new chunks

  module _ (places : List ℕ) (items : List A) (count : ℕ) (are : places ≡ replicate count 0) (long : length items ≡ chunk)
      (alike : (at : ℕ) → at < chunk → get_or items at none ≡ get_or items 0 none) where
    no_place : (c : ℕ) → get_or places c 0 ≡ 0
    no_place c = ap (λ (l : List ℕ). get_or l c 0) are ∙ zeros_at count c

    pub are_first : (capacity : ℕ) → length items + chunk * count ≤ capacity → chunk % chunk ≡ 0 → ArePlaced none chunk places items capacity
    are_first capacity room divides = record {
      some = omega (arith, long);
      whole = ap (λ (n : ℕ). n % chunk) long ∙ divides;
      aligned = λ c. ap (λ (p : ℕ). p % chunk) (no_place c) ∙ zero_mod;
      within = λ c. omega (arith, long, no_place c);
      alike = alike;
      apart = λ one other some same. absurd (omega (arith, some, no_place one));
      room = rw (ap unwritten are ∙ all_unwritten count) room;
    } where
      zero_mod : 0 % chunk ≡ 0
      zero_mod = omega (arith, big)

  module _ {places : List ℕ} {items : List A} {capacity : ℕ} (h : ArePlaced none chunk places items capacity) where
    -- ---- a chunk gets a place

    module _ (c : ℕ) (inside : c < length places) (absent : get_or places c 0 ≡ 0) (now : List A) (longer : length now ≡ length items + chunk)
        (kept : (at : ℕ) → at < length items → get_or now at none ≡ get_or items at none)
        (same : (at : ℕ) → length items ≤ at → at < length items + chunk → get_or now at none ≡ get_or items 0 none) where
      abbrev put : List ℕ
      put = set places c (length items)

      there : get_or put c 0 ≡ length items
      there = get_or-set_same places c (length items) 0 inside

      elsewhere : (other : ℕ) → other ≢ c → get_or put other 0 ≡ get_or places other 0
      elsewhere other not = get_or-set_other places c other (length items) 0 not

      put_item : (at : ℕ) → get_or now (stands_at chunk put at) none ≡ get_or items (stands_at chunk places at) none
      put_item at =
          let less : at % chunk < chunk = omega (arith, big) in
          elim (equal_or_not (at / chunk) c) [
            | inl e ↦
                let new : get_or put (at / chunk) 0 ≡ length items = ap (λ (k : ℕ). get_or put k 0) e ∙ there in
                let old : get_or places (at / chunk) 0 ≡ 0 = ap (λ (k : ℕ). get_or places k 0) e ∙ absent in
                same (stands_at chunk put at) (omega (arith, new)) (omega (arith, new, less))
                ∙ sym (h.alike (stands_at chunk places at) (omega (arith, old, less)))
            | inr not ↦
                let as_was = elsewhere (at / chunk) not in
                ap (λ (p : ℕ). get_or now (p + at % chunk) none) as_was ∙ kept (stands_at chunk places at) (omega (arith, h.within (at / chunk), less))
          ]

      pub put_items : (size : ℕ) → items_in none chunk size put now ≡ items_in none chunk size places items
      put_items size = items_are size put now (items_in none chunk size places items) (count_is size places items) (λ at l. put_item at ∙ sym (item_is size places items at none l))

      apart_from : (other : ℕ) → get_or put other 0 ≡ length items → other ≡ c
      apart_from other e = elim (equal_or_not other c) [
        | inl is ↦ is
        | inr not ↦ absurd (omega (arith, e, elsewhere other not, h.within other, big))
      ]

      put_apart : (one other : ℕ) → 0 < get_or put one 0 → get_or put one 0 ≡ get_or put other 0 → one ≡ other
      put_apart one other some equal = elim (equal_or_not one c) [
        | inl e ↦
            let new : get_or put one 0 ≡ length items = ap (λ (k : ℕ). get_or put k 0) e ∙ there in
            e ∙ sym (apart_from other (sym equal ∙ new))
        | inr not ↦ elim (equal_or_not other c) [
          | inl e ↦
              let new : get_or put other 0 ≡ length items = ap (λ (k : ℕ). get_or put k 0) e ∙ there in
              apart_from one (equal ∙ new) ∙ sym e
          | inr neither ↦ h.apart one other (omega (arith, some, elsewhere one not)) (sym (elsewhere one not) ∙ (equal ∙ elsewhere other neither))
        ]
      ]

      put_place : (k : ℕ) → (get_or put k 0 % chunk ≡ 0) × (get_or put k 0 + chunk ≤ length now)
      put_place k = elim (equal_or_not k c) [
        | inl e ↦
            let new : get_or put k 0 ≡ length items = ap (λ (i : ℕ). get_or put i 0) e ∙ there in
            (ap (λ (p : ℕ). p % chunk) new ∙ h.whole, omega (arith, new, longer))
        | inr not ↦
            let as_was = elsewhere k not in
            (ap (λ (p : ℕ). p % chunk) as_was ∙ h.aligned k, omega (arith, as_was, longer, h.within k))
      ]

      pub are_put : (room : ℕ) → capacity ≤ room → ArePlaced none chunk put now room
      are_put room more = record {
        some = omega (arith, longer);
        whole = ap (λ (n : ℕ). n % chunk) longer ∙ (add-mod_right (length items) chunk ∙ h.whole);
        aligned = λ k. (put_place k).0;
        within = λ k. (put_place k).1;
        alike = λ at l. kept at (omega (arith, l, h.some)) ∙ (h.alike at l ∙ sym (kept 0 (omega (arith, h.some, big))));
        apart = put_apart;
        room =
            let less = one_less places c (length items) inside absent (omega (arith, h.some, big)) in
            omega (arith, longer, more, h.room, ap (λ (n : ℕ). chunk * n) less);
      }
