-- A shard's share of memory: accesses to it are answered alike, and it is the share of the memory that they leave.
use Rattle.std.proofs.Common.{◌≡◌, ◌≢◌, ℕ, ◌+◌, ◌-◌, ◌/◌, ◌%◌, ◌<◌, ◌≤◌, Bool, true, false, cond, List, length, get_or, Option, refl, sym, ap, ◌∙◌, subst, arith, inl, inr}
use Rattle.std.proofs.lemmas.Bool.{cases_lt}
use Rattle.zs_num.specs.Request.{addr_of, line_of, line_at}
use Rattle.zs_num.specs.Servable.{IsServable}
use Rattle.zs_num.specs.declared.request.Request.{Request}
use Rattle.zs_num.specs.declared.request.Request.TheVariants.{Load, Store, Lr, Sc, Amo, Fetch}
use Rattle.rv_alu.specs.Atomic.{new_number}
use Rattle.flat_memory.specs.declared.reservation.Reservation.{Reservation}
use Rattle.flat_memory.specs.FlatMemory.{number_in, with_number}
use Rattle.shard.specs.Marks.{bytes_after, does_store, reply_from}
use Rattle.shard.specs.Served.{place_of}
use Rattle.shard.proofs.StandsForBytes.{Share, length_written, number_same, outside, place_step, read_same, slice_same, written_before, written_behind, written_here}

module _ (n number base : ℕ) (some : 0 < n) (whole part : List ℕ) (share : Share n number base whole part) where
  module _ (addr width : ℕ) (begins : base ≤ addr) (ends : addr + width ≤ base + length whole) (fits : addr % 64 + width ≤ 64) where
    -- an access to a line of the shard
    module _ (is : line_at addr % n ≡ number) where
      read : (k : ℕ) → k < width → (place_of n base addr + k < length part) × (get_or whole (addr - base + k) 0 ≡ get_or part (place_of n base addr + k) 0)
      read k l =
          let line : (addr + k) / 64 ≡ addr / 64 = omega arith in
          let rest : line_at (addr + k) % n ≡ number = ap (λ (x : ℕ). x % n) line ∙ is in
          let long : addr + k - base < length whole = omega arith in
          let both = read_same whole part (addr + k - base) (place_of n base (addr + k)) long (share.bytes (addr + k) (omega arith) (omega arith) rest) in
          let at : addr + k - base ≡ addr - base + k = omega arith in
          let place : place_of n base (addr + k) ≡ place_of n base addr + k = place_step n base some addr k (omega arith) in
          (subst (λ (x : ℕ). x < length part) place both.0, subst (λ (x : ℕ). get_or whole x 0 ≡ get_or part (place_of n base addr + k) 0) at (subst (λ (x : ℕ). get_or whole (addr + k - base) 0 ≡ get_or part x 0) place both.1))

      pub same_number : number_in whole (addr - base) width ≡ number_in part (place_of n base addr) width
      same_number = number_same width (addr - base) (place_of n base addr) whole part (λ k l. (read k l).1)

      part_within : 1 ≤ width → place_of n base addr + width ≤ length part
      part_within few = let last = (read (width - 1) (omega arith)).0 in omega arith

      -- each byte of the shard after the write
      written_at : 1 ≤ width → (value b : ℕ) → base ≤ b → b < base + length whole → line_at b % n ≡ number
          → get_or (with_number whole (addr - base) width value) (b - base) 0 ≡ get_or (with_number part (place_of n base addr) width value) (place_of n base b) 0
      written_at few value b from below rest =
          let place : ℕ = place_of n base addr in
          let w : addr - base + width ≤ length whole = omega arith in
          let p : place + width ≤ length part = part_within few in
          let new : List ℕ = with_number whole (addr - base) width value in
          let own : List ℕ = with_number part place width value in
          let before = read_same whole part (b - base) (place_of n base b) (omega arith) (share.bytes b from below rest) in
          elim (cases_lt b addr) as (λ _. get_or new (b - base) 0 ≡ get_or own (place_of n base b) 0) [
            | inl l ↦
                written_before whole (addr - base) width value w (b - base) (omega arith) ∙ (before.1 ∙ sym
                (elim (outside n base some addr b width begins from (rest ∙ sym is) fits (inl l)) as (λ _. get_or own (place_of n base b) 0 ≡ get_or part (place_of n base b) 0) [
                  | inl low ↦ written_before part place width value p (place_of n base b) low
                  | inr high ↦ written_behind part place width value p (place_of n base b) high
                ]))
            | inr l ↦ elim (cases_lt b (addr + width)) as (λ _. get_or new (b - base) 0 ≡ get_or own (place_of n base b) 0) [
              | inl inside ↦
                  let at : b - base ≡ addr - base + (b - addr) = omega arith in
                  let there : addr + (b - addr) ≡ b = omega arith in
                  let own_at : place_of n base b ≡ place + (b - addr) = subst (λ (x : ℕ). place_of n base x ≡ place + (b - addr)) there (place_step n base some addr (b - addr) (omega arith)) in
                  ap (λ (x : ℕ). get_or new x 0) at ∙ (written_here whole (addr - base) width value w (b - addr) (omega arith)
                  ∙ sym (ap (λ (x : ℕ). get_or own x 0) own_at ∙ written_here part place width value p (b - addr) (omega arith)))
              | inr behind ↦
                  written_behind whole (addr - base) width value w (b - base) (omega arith) ∙ (before.1 ∙ sym
                  (elim (outside n base some addr b width begins from (rest ∙ sym is) fits (inr behind)) as (λ _. get_or own (place_of n base b) 0 ≡ get_or part (place_of n base b) 0) [
                    | inl low ↦ written_before part place width value p (place_of n base b) low
                    | inr high ↦ written_behind part place width value p (place_of n base b) high
                  ]))
            ]
          ]

      pub written_share : 1 ≤ width → (value : ℕ) → Share n number base (with_number whole (addr - base) width value) (with_number part (place_of n base addr) width value)
      written_share few value = record {
        bytes = λ b from below rest.
            let w : addr - base + width ≤ length whole = omega arith in
            let long : length (with_number whole (addr - base) width value) ≡ length whole = length_written whole (addr - base) width value w in
            let own_long : length (with_number part (place_of n base addr) width value) ≡ length part = length_written part (place_of n base addr) width value (part_within few) in
            let within : b < base + length whole = omega (arith, below, long) in
            let before = read_same whole part (b - base) (place_of n base b) (omega arith) (share.bytes b from within rest) in
            slice_same (with_number whole (addr - base) width value) (with_number part (place_of n base addr) width value) (b - base) (place_of n base b) (omega (arith, long)) (omega (arith, own_long, before.0)) (written_at few value b from within rest);
      }

    -- an access to a line of another shard
    pub apart_share : line_at addr % n ≢ number → (value : ℕ) → Share n number base (with_number whole (addr - base) width value) part
    apart_share other value = record {
      bytes = λ b from below rest.
          let w : addr - base + width ≤ length whole = omega arith in
          let long : length (with_number whole (addr - base) width value) ≡ length whole = length_written whole (addr - base) width value w in
          let within : b < base + length whole = omega (arith, below, long) in
          let before = read_same whole part (b - base) (place_of n base b) (omega arith) (share.bytes b from within rest) in
          let apart : b / 64 ≢ addr / 64 = λ e. other (sym (ap (λ (x : ℕ). x % n) e) ∙ rest) in
          let new : List ℕ = with_number whole (addr - base) width value in
          slice_same new part (b - base) (place_of n base b) (omega (arith, long)) before.0
          (elim (cases_lt b addr) as (λ _. get_or new (b - base) 0 ≡ get_or part (place_of n base b) 0) [
            | inl l ↦ written_before whole (addr - base) width value w (b - base) (omega arith) ∙ before.1
            | inr l ↦ elim (cases_lt b (addr + width)) as (λ _. get_or new (b - base) 0 ≡ get_or part (place_of n base b) 0) [
              | inl inside ↦ absurd (apart (omega arith))
              | inr behind ↦ written_behind whole (addr - base) width value w (b - base) (omega arith) ∙ before.1
            ]
          ]);
    }

-- ---- requests
module _ (n number base : ℕ) (some : 0 < n) (whole part : List ℕ) (share : Share n number base whole part) (marks : List (Option Reservation)) (core : ℕ) where
  pub reply_same : {l1i : Bool} (request : Request) → IsServable base (length whole) l1i request → line_of request % n ≡ number
      → reply_from part (place_of n base (addr_of request)) marks core request ≡ reply_from whole (addr_of request - base) marks core request
  unfolding reply_from
  reply_same (Load width addr) h is = sym (same_number n number base some whole part share addr width h.begins h.ends h.in_line is)
  reply_same (Store width addr value) h is = refl
  reply_same (Lr width addr) h is = sym (same_number n number base some whole part share addr width h.begins h.ends h.in_line is)
  reply_same (Sc width paired addr value) h is = refl
  reply_same (Amo width op addr value) h is = sym (same_number n number base some whole part share addr width h.begins h.ends h.in_line is)
  reply_same (Fetch addr) h is = refl

  share_if : (b : Bool) (s t u v : List ℕ) → Share n number base s t → Share n number base u v → Share n number base (cond b s u) (cond b t v)
  share_if true s t u v h k = h
  share_if false s t u v h k = k

  pub share_after : {l1i : Bool} (request : Request) → IsServable base (length whole) l1i request → line_of request % n ≡ number
      → Share n number base (bytes_after whole (addr_of request - base) marks core request) (bytes_after part (place_of n base (addr_of request)) marks core request)
  unfolding bytes_after
  share_after (Load width addr) h is = share
  share_after (Store width addr value) h is = written_share n number base some whole part share addr width h.begins h.ends h.in_line is h.some value
  share_after (Lr width addr) h is = share
  share_after (Sc width paired addr value) h is =
      share_if (does_store marks core addr width paired) (with_number whole (addr - base) width value) (with_number part (place_of n base addr) width value) whole part
      (written_share n number base some whole part share addr width h.begins h.ends h.in_line is h.some value) share
  share_after (Amo width op addr value) h is =
      rw (← same_number n number base some whole part share addr width h.begins h.ends h.in_line is)
      (written_share n number base some whole part share addr width h.begins h.ends h.in_line is h.some (new_number op width (number_in whole (addr - base) width) value))
  share_after (Fetch addr) h is = share

  pub share_apart : {l1i : Bool} (request : Request) → IsServable base (length whole) l1i request → line_of request % n ≢ number → Share n number base (bytes_after whole (addr_of request - base) marks core request) part
  unfolding bytes_after
  share_apart (Load width addr) h other = share
  share_apart (Store width addr value) h other = apart_share n number base some whole part share addr width h.begins h.ends h.in_line other value
  share_apart (Lr width addr) h other = share
  share_apart (Sc width paired addr value) h other =
      elim (does_store marks core addr width paired) as (λ b. Share n number base (cond b (with_number whole (addr - base) width value) whole) part)
      [ true ↦ apart_share n number base some whole part share addr width h.begins h.ends h.in_line other value | false ↦ share ]
  share_apart (Amo width op addr value) h other =
      apart_share n number base some whole part share addr width h.begins h.ends h.in_line other (new_number op width (number_in whole (addr - base) width) value)
  share_apart (Fetch addr) h other = share

pub length-bytes_after : {l1i : Bool} (base : ℕ) (whole : List ℕ) (marks : List (Option Reservation)) (core : ℕ) (request : Request) → IsServable base (length whole) l1i request → length (bytes_after whole (addr_of request - base) marks core request) ≡ length whole
unfolding bytes_after
length-bytes_after base whole marks core (Load width addr) h = refl
length-bytes_after base whole marks core (Store width addr value) h = length_written whole (addr - base) width value (omega (arith, h.begins, h.ends))
length-bytes_after base whole marks core (Lr width addr) h = refl
length-bytes_after base whole marks core (Sc width paired addr value) h =
    elim (does_store marks core addr width paired) as (λ b. length (cond b (with_number whole (addr - base) width value) whole) ≡ length whole)
    [ true ↦ length_written whole (addr - base) width value (omega (arith, h.begins, h.ends)) | false ↦ refl ]
length-bytes_after base whole marks core (Amo width op addr value) h = length_written whole (addr - base) width _ (omega (arith, h.begins, h.ends))
length-bytes_after base whole marks core (Fetch addr) h = refl
