-- The bytes that are seen of a bank, after an access that changes those of its line alone.
use Rattle.std.proofs.Common.{◌≡◌, ◌≢◌, ℕ, suc, ◌+◌, ◌-◌, ◌*◌, ◌/◌, ◌%◌, ◌<◌, ◌≤◌, List, [], ◌∷◌, length, get_or, map, Some, refl, sym, ap, ◌∙◌, subst, arith}
use Rattle.std.specs.List.{flat_map, range_with_len}
use Rattle.std.proofs.Math.Nat.{div-add-mod, mul_comm}
use Rattle.std.proofs.lemmas.List.FromFn.{get_or-map-range_with_len, length-map-range_with_len}
use Rattle.std.proofs.lemmas.Nat.{div-mul-add, mod-mul-add}
use Rattle.zs_num.specs.Request.{addr_of, line_at, line_bytes, line_of, width_of}
use Rattle.zs_num.specs.declared.request.Request.{Request}
use Rattle.home.specs.HomeState.{bytes_at}
use Rattle.l1_cache.specs.L1State.{Copy, L1State, copy_at, newer_bytes, no_l1, place_in_line}
use Rattle.shard.specs.Marks.{bytes_after, reply_from}
use Rattle.shard.specs.PartsLaws.{AreParts, IsAsked, IsInMemory, IsOwn}
use Rattle.shard.specs.Seen.{bytes_seen, lines_of, newest_in}
use Rattle.home.specs.FirstBytes.{lines_below, lines_kept}
use Rattle.shard.specs.Served.{place_of}
use Rattle.shard.specs.SharedStep.{Bank}
use Rattle.shard.proofs.HomesAndL1s.AnsweredFits.{Accessed}
use Rattle.shard.proofs.HomesAndL1s.BytesPieces.{pieces_after, pieces_byte, pieces_reply}
use Rattle.shard.proofs.HomesAndL1s.CanGive.{bytes_long}
use Rattle.shard.proofs.HomesAndL1s.NewestStays.{newer_long}
use Rattle.shard.proofs.StandsForBytes.{div_mono}

newest_long : (line : ℕ) (h : List ℕ) (l1s : List L1State) → length h ≡ line_bytes → ((k : ℕ) (copy : Copy) → copy_at (get_or l1s k no_l1) line ≡ Some copy → length copy.bytes ≡ line_bytes) → length (newest_in line h l1s) ≡ line_bytes
newest_long line h [] long whole = long
newest_long line h (l1 ∷ l1s) long whole =
    newest_long line (newer_bytes (copy_at l1 line) h) l1s (newer_long (copy_at l1 line) h long (whole 0)) (λ k. whole (suc k))

module _ (p : Bank) (are : AreParts p) where
  abbrev n : ℕ
  n = p.home.shards

  abbrev below : ℕ
  below = lines_below n p.home.base

  abbrev kept : ℕ
  kept = lines_kept n p.home.base p.home.size

  abbrev line_is : ℕ → ℕ
  line_is k = (below + k) * n + p.home.number

  many : length (lines_of p.home) ≡ kept
  many = length-map-range_with_len line_is 0 kept

  line_there : (i : ℕ) → i < kept → get_or (lines_of p.home) i 0 ≡ line_is i
  line_there i l = get_or-map-range_with_len line_is 0 kept i i 0 l (omega arith)

  own_line : (i : ℕ) → IsOwn p (line_is i)
  own_line i = mod-mul-add (below + i) n p.home.number are.some.1

  place_line : (i : ℕ) → line_is i / n ≡ below + i
  place_line i = div-mul-add (below + i) n p.home.number are.some.1

  -- a place among the lines that are kept is in memory
  kept_inside : (x i : ℕ) → x / n ≡ below + i → i < kept → IsInMemory p.home x
  kept_inside x i e l = (omega (arith, e), in_bytes (x / n) below i kept (length p.home.bytes) e l are.bytes) where
    in_bytes : (q below i kept long : ℕ) → q ≡ below + i → i < kept → long ≡ line_bytes * kept → line_bytes * (q - below) + line_bytes ≤ long
    in_bytes q below i kept long e l many = omega arith

  line_inside : (i : ℕ) → i < kept → IsInMemory p.home (line_is i)
  line_inside i l = kept_inside (line_is i) i (place_line i) l

  long_at : (x : ℕ) → IsOwn p x → IsInMemory p.home x → length (newest_in x (bytes_at p.home x) p.l1s) ≡ line_bytes
  long_at x own inside = newest_long x (bytes_at p.home x) p.l1s (bytes_long p.home x inside) (λ k copy e. are.whole k x copy own e)

  -- ---- the line of an access
  module _ (core : ℕ) (request : Request) (asked : IsAsked p core request) where
    abbrev line : ℕ
    line = line_of request

    abbrev j : ℕ
    j = line / n - below

    starts : below ≤ line / n
    starts = div_mono n (line_at p.home.base) line are.some.0 (first_line (addr_of request) p.home.base asked.servable.begins) where
      first_line : (addr base : ℕ) → base ≤ addr → base / 64 ≤ addr / 64
      first_line addr base l = omega arith

    j_is : line / n ≡ below + j
    j_is = omega (arith, starts)

    ends : line / n ≤ line_at (p.home.base + p.home.size - 1) / n
    ends = div_mono n line (line_at (p.home.base + p.home.size - 1)) are.some.0 (last_line (addr_of request) (width_of request) (p.home.base + p.home.size) asked.servable.some asked.servable.ends) where
      last_line : (addr width end : ℕ) → 1 ≤ width → addr + width ≤ end → addr / 64 ≤ (end - 1) / 64
      last_line addr width end w l = omega arith

    j_kept : j < kept
    j_kept = omega (arith, starts, ends)

    pub asked_inside : IsInMemory p.home line
    asked_inside = kept_inside line j j_is j_kept

    line_j : line_is j ≡ line
    line_j =
        by_parts n below j p.home.number line (line / n) (line % n) (sym j_is) (sym asked.own) (div-add-mod line n) where
          by_parts : (n below j number line q r : ℕ) → below + j ≡ q → number ≡ r → n * q + r ≡ line → (below + j) * n + number ≡ line
          by_parts n below j number line q r e f g =
              ap (λ (z : ℕ). z * n + number) e ∙ (ap (λ (z : ℕ). q * n + z) f ∙ (ap (λ (z : ℕ). z + r) (mul_comm q n) ∙ g))

    there : get_or (lines_of p.home) j 0 ≡ line
    there = line_there j j_kept ∙ line_j

    in_line : place_in_line (addr_of request) + width_of request ≤ line_bytes
    in_line = asked.servable.in_line

    all_long : (i : ℕ) → i < length (lines_of p.home) → length (newest_in (get_or (lines_of p.home) i 0) (bytes_at p.home (get_or (lines_of p.home) i 0)) p.l1s) ≡ line_bytes
    all_long i l =
        let within : i < kept = subst (λ (z : ℕ). i < z) many l in
        subst (λ (x : ℕ). length (newest_in x (bytes_at p.home x) p.l1s) ≡ line_bytes) (sym (line_there i within)) (long_at (line_is i) (own_line i) (line_inside i within))

    pub reply_seen : reply_from (bytes_seen p) (place_of n p.home.base (addr_of request)) p.home.marks core request
        ≡ reply_from (newest_in line (bytes_at p.home line) p.l1s) (place_in_line (addr_of request)) p.home.marks core request
    unfolding bytes_seen
    reply_seen =
        pieces_reply p.home.marks core request (place_in_line (addr_of request)) in_line (λ x. newest_in x (bytes_at p.home x) p.l1s) (lines_of p.home) j (place_of n p.home.base (addr_of request))
        (subst (λ (z : ℕ). j < z) (sym many) j_kept) refl all_long
        ∙ ap (λ (x : ℕ). reply_from (newest_in x (bytes_at p.home x) p.l1s) (place_in_line (addr_of request)) p.home.marks core request) there

    pub byte_seen : get_or (bytes_seen p) (place_of n p.home.base (addr_of request)) 0 ≡ get_or (newest_in line (bytes_at p.home line) p.l1s) (place_in_line (addr_of request)) 0
    unfolding bytes_seen
    byte_seen =
        pieces_byte (λ x. newest_in x (bytes_at p.home x) p.l1s) (lines_of p.home) j (place_in_line (addr_of request)) (place_of n p.home.base (addr_of request))
        (subst (λ (z : ℕ). j < z) (sym many) j_kept) (omega arith) refl all_long
        ∙ ap (λ (x : ℕ). get_or (newest_in x (bytes_at p.home x) p.l1s) (place_in_line (addr_of request)) 0) there

    module _ (q : Bank) (done : Accessed p q core request) where
      same_lines : lines_of q.home ≡ lines_of p.home
      same_lines = by_home q.home.shards q.home.base q.home.size q.home.number p.home.shards p.home.base p.home.size p.home.number done.keeps.bank.count done.keeps.base done.keeps.size done.keeps.bank.number where
        by_home : (n base size number m b s k : ℕ) → n ≡ m → base ≡ b → size ≡ s → number ≡ k
            → map (λ i. (lines_below n base + i) * n + number) (range_with_len 0 (lines_kept n base size)) ≡ map (λ i. (lines_below m b + i) * m + k) (range_with_len 0 (lines_kept m b s))
        by_home n base size number m b s k e f g h =
            ap (λ (z : ℕ). map (λ i. (lines_below z base + i) * z + number) (range_with_len 0 (lines_kept z base size))) e
            ∙ (ap (λ (z : ℕ). map (λ i. (lines_below m z + i) * m + number) (range_with_len 0 (lines_kept m z size))) f
            ∙ (ap (λ (z : ℕ). map (λ i. (lines_below m b + i) * m + number) (range_with_len 0 (lines_kept m b z))) g
            ∙ ap (λ (z : ℕ). map (λ i. (lines_below m b + i) * m + z) (range_with_len 0 (lines_kept m b s))) h))

      other_line : (i : ℕ) → i < kept → i ≢ j → line_is i ≢ line
      other_line i l apart e = apart (same_place i j below (line_is i / n) (line / n) (place_line i) j_is (ap (λ (z : ℕ). z / n) e)) where
        same_place : (i j below a b : ℕ) → a ≡ below + i → b ≡ below + j → a ≡ b → i ≡ j
        same_place i j below a b e f g = omega arith

      pub bytes_then : bytes_seen q ≡ bytes_after (bytes_seen p) (place_of n p.home.base (addr_of request)) p.home.marks core request
      unfolding bytes_seen
      bytes_then =
          ap (flat_map (λ x. newest_in x (bytes_at q.home x) q.l1s)) same_lines
          ∙ pieces_after p.home.marks core request (place_in_line (addr_of request)) in_line (λ x. newest_in x (bytes_at p.home x) p.l1s) (λ x. newest_in x (bytes_at q.home x) q.l1s) (lines_of p.home) j
          (place_of n p.home.base (addr_of request)) (subst (λ (z : ℕ). j < z) (sym many) j_kept) refl all_long
          (subst (λ (x : ℕ). newest_in x (bytes_at q.home x) q.l1s ≡ bytes_after (newest_in x (bytes_at p.home x) p.l1s) (place_in_line (addr_of request)) p.home.marks core request) (sym there) done.here)
          (λ i l apart.
          let within : i < kept = subst (λ (z : ℕ). i < z) many l in
          subst (λ (x : ℕ). newest_in x (bytes_at q.home x) q.l1s ≡ newest_in x (bytes_at p.home x) p.l1s) (sym (line_there i within))
          (done.others (line_is i) (own_line i) (line_inside i within) (other_line i within apart)))
