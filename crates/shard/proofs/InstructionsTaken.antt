-- A line comes into a core's instruction cache: which lines that has then.
use Rattle.std.proofs.Common.{◌≡◌, ◌≢◌, ℕ, ◌<◌, ◌≤◌, ◌&&◌, Bool, true, false, cond, eqb, List, [], length, get_or, Option, Some, None, is_some, refl, sym, ap, ◌∙◌, inl, inr}
use Rattle.std.proofs.lemmas.Bool.{cases_eq, eq-eqb, ne_eqb}
use Rattle.std.proofs.lemmas.List.{get_or-set_other, get_or-set_same}
use Rattle.cache_set.specs.Lines.{in_set_of, set_number, set_of}
use Rattle.cache_set.specs.Ways.{filled, kept_of, victim_of}
use Rattle.shard.specs.Coherence.{Caches, fetch_holds, filled_into_l1i, l1i_lines_at}
use Rattle.shard.specs.Leaving.{is_this, line_in_way}
use Rattle.shard.specs.StandsFor.{HaveSets}
use Rattle.shard.proofs.CoherentInstructions.{holds_filled_same, l1i_set}
use Rattle.shard.proofs.CoherentLetters.{at_victim}
use Rattle.shard.proofs.CoherentLines.{kept_elsewhere, kept_filled_other, kept_filled_room, kept_filled_victim, set_same_at}
use Rattle.shard.proofs.CoherentLists.{set_read}

module _ (core line : ℕ) (c : Caches) (room : 1 ≤ c.l1i_ways) where
  abbrev own : List (List (ℕ × Unit {0}))
  own = get_or c.l1i core []

  abbrev lines : List (ℕ × Unit {0})
  lines = set_of c.shards line own

  abbrev comes_in : List (ℕ × Unit {0}) → List (ℕ × Unit {0})
  comes_in = filled c.l1i_ways line tt

  abbrev victim : Option (ℕ × Unit {0})
  victim = victim_of c.l1i_ways (l1i_lines_at c core line)

  holds_core : (k l : ℕ) → k ≢ core → fetch_holds (filled_into_l1i core line c) k l ≡ fetch_holds c k l
  unfolding fetch_holds filled_into_l1i
  holds_core k l apart = rw (get_or-set_other c.l1i core k (in_set_of c.shards line comes_in own) [] apart) refl

  holds_elsewhere : (k l : ℕ) → kept_of l (comes_in lines) ≡ kept_of l lines → fetch_holds (filled_into_l1i core line c) k l ≡ fetch_holds c k l
  unfolding fetch_holds filled_into_l1i
  holds_elsewhere k l h =
      set_read (λ sets. is_some (kept_of l (set_of c.shards l sets)) ≡ is_some (kept_of l (set_of c.shards l (get_or c.l1i k [])))) c.l1i core (in_set_of c.shards line comes_in own) k
      (λ e. rw e (ap (λ (o : Option (Unit {0})). is_some o) (kept_elsewhere c.shards l line comes_in own h))) refl

  holds_victim : HaveSets c → core < length c.l1i → 1 ≤ length own → (w : ℕ × Unit {0}) → victim ≡ Some w → w.0 ≢ line → fetch_holds (filled_into_l1i core line c) core w.0 ≡ false
  unfolding fetch_holds filled_into_l1i
  holds_victim h known some w e apart =
      let k : ℕ = set_number c.shards line own in
      let placed : set_number c.shards w.0 own ≡ k = at_victim (λ (way : ℕ × Unit {0}). set_number c.shards way.0 own ≡ k) c.l1i_ways lines w (h.l1i_placed core k) e in
      rw (get_or-set_same c.l1i core (in_set_of c.shards line comes_in own) [] known, set_same_at c.shards w.0 line comes_in own some placed)
      (ap (λ (o : Option (Unit {0})). is_some o) (kept_filled_victim c.l1i_ways line tt lines w room (l1i_set c h core line).distinct e apart))

  module _ (h : HaveSets c) (known : core < length c.l1i) (some : 1 ≤ length own) (k l : ℕ) where
    abbrev taken : Bool
    taken = fetch_holds (filled_into_l1i core line c) k l

    off_line : k ≡ core → l ≢ line → (v : Option (ℕ × Unit {0})) → victim ≡ v → taken ≡ cond (is_this (line_in_way v) l) false (fetch_holds c k l)
    off_line same off None e = holds_elsewhere k l (kept_filled_room c.l1i_ways l line tt lines room e off)
    off_line same off (Some w) e =
        elim (cases_eq w.0 l) as (λ _. taken ≡ cond (eqb w.0 l) false (fetch_holds c k l)) [
          | inl is ↦
              rw (eq-eqb w.0 l is)
              (ap (λ (a : ℕ). fetch_holds (filled_into_l1i core line c) a l) same
              ∙ (ap (λ (x : ℕ). fetch_holds (filled_into_l1i core line c) core x) (sym is)
              ∙ holds_victim h known some w e (λ at. off (sym is ∙ at))))
          | inr stays ↦
              rw (ne_eqb w.0 l stays)
              (holds_elsewhere k l (kept_filled_other c.l1i_ways l line tt lines w room (l1i_set c h core line).within e off (λ at. stays (sym at))))
        ]

    pub instruction_taken : taken ≡ cond (eqb k core && eqb l line) true (cond (eqb k core && is_this (line_in_way victim) l) false (fetch_holds c k l))
    instruction_taken =
        elim (cases_eq k core) as (λ _. taken ≡ cond (eqb k core && eqb l line) true (cond (eqb k core && is_this (line_in_way victim) l) false (fetch_holds c k l))) [
          | inl same ↦
              elim (cases_eq l line) as (λ _. taken ≡ cond (eqb k core && eqb l line) true (cond (eqb k core && is_this (line_in_way victim) l) false (fetch_holds c k l))) [
                | inl here ↦
                    rw (eq-eqb k core same, eq-eqb l line here)
                    (ap (λ (a : ℕ). fetch_holds (filled_into_l1i core line c) a l) same
                    ∙ (ap (λ (x : ℕ). fetch_holds (filled_into_l1i core line c) core x) here
                    ∙ holds_filled_same core line c known some room))
                | inr off ↦ rw (eq-eqb k core same, ne_eqb l line off) (off_line same off victim refl)
              ]
          | inr apart ↦ rw (ne_eqb k core apart) (holds_core k l apart)
        ]
