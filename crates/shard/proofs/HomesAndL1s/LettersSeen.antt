-- The letters of a bank's own lines, seen and kept.
use Rattle.std.proofs.Common.{◌≡◌, ℕ, suc, ◌/◌, ◌%◌, Bool, true, false, cond, List, [], ◌∷◌, length, get_or, map, Option, Some, None, refl, sym, ap, ◌∙◌, subst, arith, inl, inr}
use Rattle.std.specs.List.{All}
use Rattle.std.specs.Option.{unwrap_or}
use Rattle.std.specs.Prelude.{IsTrue, is_some, nat_lt}
use Rattle.std.proofs.lemmas.Bool.{cases_eq, cases_lt, eq-eqb, le-ltb, lt-ltb, ne_eqb}
use Rattle.std.proofs.lemmas.List.{get_or-map, get_or_past, length-map}
use Rattle.cache_set.specs.Ways.{kept_of}
use Rattle.cache_set.specs.declared.letter.Letter.{Letter}
use Rattle.cache_set.specs.declared.letter.Letter.TheVariants.{I}
use Rattle.shard.specs.Coherence.{fetch_holds, is_valid, letter_at, letter_in}
use Rattle.l1_cache.specs.L1State.{Copy, L1State, copies_at, copy_at, has_instructions, instructions_at, letter_of, no_l1}
use Rattle.cache_set.specs.Lines.{set_of}
use Rattle.shard.specs.PartsLaws.{AreParts, IsOwn}
use Rattle.shard.specs.Seen.{caches_seen, letters_in, part_of, sets_seen}
use Rattle.shard.specs.SharedStep.{Bank, copy_of, l1_of, own_letter}
use Rattle.shard.proofs.HomesAndL1s.Fit.{AreFit}
use Rattle.shard.proofs.HomesAndL1s.FitOf.{fit_of}
use Rattle.shard.proofs.HomesAndL1s.PartOf.{no_sets, seen_reads}
use Rattle.shard.proofs.HomesAndL1s.RowsSeen.{see_maybe, seen_at, seen_kept}

abbrev pub letter_kept : Copy → Letter
letter_kept copy = copy.letter

as_letter : (o : Option Copy) → unwrap_or (see_maybe letter_kept o) I ≡ letter_of o
as_letter None = refl
as_letter (Some copy) = refl

module _ (p : Bank) (fit : AreFit p) where
  -- what is seen of a core's set of an own line
  pub copies_seen : (core line : ℕ) → IsOwn p line → set_of p.home.shards line (get_or (caches_seen p).l1 core []) ≡ letters_in (copies_at (l1_of p core) line)
  unfolding caches_seen
  copies_seen core line own =
      elim (cases_lt core (length p.l1s)) as (λ _. set_of p.home.shards line (get_or (map (sets_seen p.home) p.l1s) core []) ≡ letters_in (copies_at (l1_of p core) line)) [
        | inl l ↦
            let l1 : L1State = l1_of p core in
            ap (set_of p.home.shards line) (get_or-map (sets_seen p.home) p.l1s core no_l1 [] l)
            ∙ (seen_at letters_in refl p.home.shards line (part_of p.home.shards p.home.number l1).sets
            ∙ ap letters_in (seen_reads p.home.shards p.home.number fit.some.0 fit.some.1 l1.shards l1.sets (fit.each core l).shards (fit.each core l).sets line own))
        | inr past ↦
            ap (set_of p.home.shards line) (get_or_past (map (sets_seen p.home) p.l1s) core [] (omega (arith, length-map p.l1s (sets_seen p.home))))
            ∙ sym (ap (λ (l1 : L1State). letters_in (copies_at l1 line)) (get_or_past p.l1s core no_l1 past))
      ]

  pub letter_seen : (core line : ℕ) → IsOwn p line → letter_at (caches_seen p) core line ≡ own_letter p core line
  unfolding caches_seen letter_at copy_at
  letter_seen core line own =
      ap (letter_in line) (copies_seen core line own)
      ∙ (ap (λ (o : Option Letter). unwrap_or o I) (seen_kept letter_kept line (copies_at (l1_of p core) line)) ∙ as_letter (kept_of line (copies_at (l1_of p core) line)))

  -- and of its instruction cache, if it has one
  no_instructions : (core line : ℕ) → length (l1_of p core).l1i ≡ 0 → instructions_at (l1_of p core) line ≡ []
  no_instructions core line none = ap (set_of (l1_of p core).shards line) (no_sets (l1_of p core).l1i none)

  pub fetched_seen : (core line : ℕ) → IsOwn p line → set_of p.home.shards line (get_or (caches_seen p).l1i core []) ≡ instructions_at (l1_of p core) line
  unfolding caches_seen
  fetched_seen core line own =
      let i : L1State → List (List (ℕ × Unit {0})) = λ x. (part_of p.home.shards p.home.number x).l1i in
      let many : ℕ = length (l1_of p 0).l1i in
      elim (cases_lt core (length p.l1s)) as (λ _. set_of p.home.shards line (get_or (cond (nat_lt 0 many) (map i p.l1s) []) core []) ≡ instructions_at (l1_of p core) line) [
        | inl l ↦
            let l1 : L1State = l1_of p core in
            elim (cases_lt 0 many) as (λ _. set_of p.home.shards line (get_or (cond (nat_lt 0 many) (map i p.l1s) []) core []) ≡ instructions_at (l1_of p core) line) [
              | inl has ↦
                  ap (λ (b : Bool). set_of p.home.shards line (get_or (cond b (map i p.l1s) []) core [])) (lt-ltb 0 many has)
                  ∙ (ap (set_of p.home.shards line) (get_or-map i p.l1s core no_l1 [] l)
                  ∙ seen_reads p.home.shards p.home.number fit.some.0 fit.some.1 l1.shards l1.l1i (fit.each core l).shards (fit.each core l).l1i_sets line own)
              | inr none ↦
                  ap (λ (b : Bool). set_of p.home.shards line (get_or (cond b (map i p.l1s) []) core [])) (le-ltb 0 many none)
                  ∙ sym (no_instructions core line (omega (arith, (fit.each core l).fetchers)))
            ]
        | inr past ↦
            ap (set_of p.home.shards line) (nothing (nat_lt 0 many) (map i p.l1s) core (get_or_past (map i p.l1s) core [] (omega (arith, length-map p.l1s i))))
            ∙ sym (ap (λ (l1 : L1State). instructions_at l1 line) (get_or_past p.l1s core no_l1 past))
      ] where
        nothing : (b : Bool) (all : List (List (List (ℕ × Unit {0})))) (k : ℕ) → get_or all k [] ≡ [] → get_or (cond b all []) k [] ≡ []
        nothing true all k e = e
        nothing false all k e = refl

  pub holds_seen : (core line : ℕ) → IsOwn p line → fetch_holds (caches_seen p) core line ≡ has_instructions (l1_of p core) line
  unfolding caches_seen fetch_holds has_instructions
  holds_seen core line own = ap (λ s. is_some (kept_of line s)) (fetched_seen core line own)

-- what holds of all letters of a set
pub all_kept : (line : ℕ) (s : List (ℕ × Copy)) (copy : Copy) → All (λ way. IsTrue (is_valid way.1)) (letters_in s) → kept_of line s ≡ Some copy → IsTrue (is_valid copy.letter)
all_kept line [] copy h e = absurd cc
all_kept line (w ∷ s) copy h e =
    elim (cases_eq line w.0) as (λ _. IsTrue (is_valid copy.letter)) [
      | inl same ↦
          let is : Some w.1 ≡ Some copy = rw (eq-eqb line w.0 same) at e in
          let one : w.1 ≡ copy = cc in
          subst (λ (c : Copy). IsTrue (is_valid c.letter)) one (h 0 (0, I) (omega arith))
      | inr apart ↦ all_kept line s copy (λ k d l. h (suc k) d (omega arith)) (rw (ne_eqb line w.0 apart) at e)
    ]

-- no copy has the letter I
pub copy_valid : (p : Bank) → AreParts p → (core line : ℕ) (copy : Copy) → IsOwn p line → copy_of p core line ≡ Some copy → IsTrue (is_valid copy.letter)
unfolding copy_at
copy_valid p are core line copy own e =
    let n : ℕ = line / p.home.shards % length (get_or (caches_seen p).l1 core []) in
    all_kept line (copies_at (l1_of p core) line) copy (subst (λ s. All (λ way. IsTrue (is_valid way.1)) s) (copies_seen p (fit_of p are) core line own) (are.coherent.sets.held core n)) e
