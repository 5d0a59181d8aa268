-- The instruction caches that have a line give it up: what is seen of it.
use Rattle.std.proofs.Common.{◌≡◌, ℕ, ◌<◌, Bool, false, cond, List, [], ◌∷◌, length, get_or, map, Option, Some, None, is_some, refl, sym, ap, ◌∙◌, subst, arith, inl, inr}
use Rattle.std.specs.List.{IsDistinct}
use Rattle.std.specs.Map.{keys_of}
use Rattle.std.specs.Prelude.{nat_eq, nat_lt}
use Rattle.std.specs.Set.{is_member}
use Rattle.std.proofs.lemmas.Bool.{cases_Bool, cases_lt, le-ltb, lt-ltb}
use Rattle.std.proofs.lemmas.List.{ext_get_or, get_or-map, length-map}
use Rattle.cache_set.specs.Ways.{kept_of, without}
use Rattle.shard.specs.Coherence.{instructions_recalled}
use Rattle.home.specs.HomeState.{HomeState}
use Rattle.l1_cache.specs.L1State.{L1State, has_instructions, instruction_given_up_in, instructions_at, no_l1}
use Rattle.cache_set.specs.Lines.{in_set_of, set_of}
use Rattle.shard.specs.PartsLaws.{IsOwn}
use Rattle.shard.specs.Seen.{caches_seen, instructions_seen, part_of, sets_seen}
use Rattle.shard.specs.SharedStep.{Bank, instructions_given_up_by, l1_of, with_l1}
use Rattle.shard.proofs.CoherentLines.{kept_without_same, set_same}
use Rattle.shard.proofs.HomesAndL1s.Fit.{AreFit, IsFit, instructions_shape}
use Rattle.shard.proofs.HomesAndL1s.FoldAt.{fold_named, fold_unnamed}
use Rattle.shard.proofs.HomesAndL1s.FoldIsMap.{fold_long, instructions_given_up_l1s, no_instructions_given_up, one_after_the_other}
use Rattle.shard.proofs.HomesAndL1s.ListsSeen.{parts_seen}
use Rattle.shard.proofs.HomesAndL1s.OtherBank.{map_as}
use Rattle.shard.proofs.HomesAndL1s.OthersSeen.{bank_of_parts}
use Rattle.shard.proofs.HomesAndL1s.PartOf.{no_sets, seen_set}
use Rattle.shard.proofs.HomesAndL1s.RecalledSeen.{without_absent}
use Rattle.shard.proofs.HomesAndL1s.RowsSeen.{in_set_same}

-- the home stays
pub instructions_home : (line : ℕ) (cores : List ℕ) (p : Bank) → (instructions_given_up_by line cores p).home ≡ p.home
instructions_home line [] p = refl
instructions_home line (core ∷ cores) p = instructions_home line cores (with_l1 core (instruction_given_up_in line) p)

none_of : {X : Type 0} (o : Option X) → is_some o ≡ false → o ≡ None
none_of None h = refl
none_of (Some x) h = absurd cc

pub instructions_absent : (line : ℕ) (l1 : L1State) → has_instructions l1 line ≡ false → instruction_given_up_in line l1 ≡ l1
unfolding instruction_given_up_in has_instructions
instructions_absent line l1 none =
    ap (λ (sets : List (List (ℕ × Unit {0}))). record l1 { l1i = sets })
    (in_set_same l1.shards line (without line) l1.l1i (without_absent line (instructions_at l1 line) (none_of (kept_of line (instructions_at l1 line)) none)))

pub instructions_gone : (line : ℕ) (l1 : L1State) → IsDistinct nat_eq (keys_of (instructions_at l1 line)) → has_instructions (instruction_given_up_in line l1) line ≡ false
unfolding instruction_given_up_in has_instructions
instructions_gone line l1 distinct =
    elim (cases_lt 0 (length l1.l1i)) as (λ _. is_some (kept_of line (set_of l1.shards line (in_set_of l1.shards line (without line) l1.l1i))) ≡ false) [
      | inl some ↦
          ap (λ s. is_some (kept_of line s)) (set_same l1.shards line (without line) l1.l1i (omega arith))
          ∙ ap (λ (o : Option (Unit {0})). is_some o) (kept_without_same line (instructions_at l1 line) distinct)
      | inr none ↦ subst (λ (sets : List (List (ℕ × Unit {0}))). is_some (kept_of line (set_of l1.shards line (in_set_of l1.shards line (without line) sets))) ≡ false) (sym (no_sets l1.l1i (omega arith))) refl
    ]

-- a bank of which the instruction caches can give a line up
module _ (p : Bank) (fit : AreFit p) (line : ℕ) (own : IsOwn p line) (cores : List ℕ)
    (distinct : (k : ℕ) → IsDistinct nat_eq (keys_of (instructions_at (l1_of p k) line)))
    (absent : (k : ℕ) → is_member nat_eq cores k ≡ false → has_instructions (l1_of p k) line ≡ false) where
  abbrev pub dropped : List L1State
  dropped = one_after_the_other no_l1 (instruction_given_up_in line) (no_instructions_given_up line) cores p.l1s

  again : (k : ℕ) → instruction_given_up_in line (instruction_given_up_in line (l1_of p k)) ≡ instruction_given_up_in line (l1_of p k)
  again k = instructions_absent line (instruction_given_up_in line (l1_of p k)) (instructions_gone line (l1_of p k) (distinct k))

  pub dropped_at : (k : ℕ) → get_or dropped k no_l1 ≡ instruction_given_up_in line (l1_of p k)
  dropped_at k =
      elim (cases_Bool (is_member nat_eq cores k)) as (λ _. get_or dropped k no_l1 ≡ instruction_given_up_in line (l1_of p k)) [
        | inl t ↦ fold_named no_l1 (instruction_given_up_in line) (no_instructions_given_up line) cores p.l1s k t (again k)
        | inr t ↦ fold_unnamed no_l1 (instruction_given_up_in line) (no_instructions_given_up line) cores p.l1s k t ∙ sym (instructions_absent line (l1_of p k) (absent k t))
      ]

  pub dropped_keeps : {Y : Type 0} (q : L1State → Y) → ((l1 : L1State) → q (instruction_given_up_in line l1) ≡ q l1) → (k : ℕ) → q (get_or dropped k no_l1) ≡ q (l1_of p k)
  dropped_keeps q same k = ap q (dropped_at k) ∙ same (l1_of p k)

  long : length dropped ≡ length p.l1s
  long = fold_long no_l1 (instruction_given_up_in line) (no_instructions_given_up line) cores p.l1s

  abbrev i : L1State → List (List (ℕ × Unit {0}))
  i x = (part_of p.home.shards p.home.number x).l1i

  abbrev h : List (List (ℕ × Unit {0})) → List (List (ℕ × Unit {0}))
  h = in_set_of p.home.shards line (without line)

  each : (k : ℕ) → k < length p.l1s → 0 < length (l1_of p 0).l1i → i (instruction_given_up_in line (l1_of p k)) ≡ h (i (l1_of p k))
  unfolding instruction_given_up_in
  each k within has =
      let is : IsFit p.home.shards (l1_of p 0) (l1_of p k) = fit.each k within in
      seen_set p.home.shards p.home.number fit.some.0 fit.some.1 (l1_of p k).shards (l1_of p k).l1i is.shards is.l1i_sets (without line) line own (omega (arith, is.fetchers))

  all : 0 < length (l1_of p 0).l1i → map i dropped ≡ map h (map i p.l1s)
  all has =
      ext_get_or [] (map i dropped) (map h (map i p.l1s)) (length-map dropped i ∙ (long ∙ sym (length-map (map i p.l1s) h ∙ length-map p.l1s i)))
      (λ k inside. let within : k < length p.l1s = omega (arith, length-map dropped i, long) in
      get_or-map i dropped k no_l1 [] (omega (arith, long))
      ∙ (ap i (dropped_at k)
      ∙ (each k within has
      ∙ (ap h (sym (get_or-map i p.l1s k no_l1 [] within))
      ∙ sym (get_or-map h (map i p.l1s) k [] [] (omega (arith, length-map p.l1s i)))))))

  abbrev many : ℕ
  many = length (l1_of p 0).l1i

  many_still : length (get_or dropped 0 no_l1).l1i ≡ many
  unfolding instruction_given_up_in
  many_still = ap (λ (x : L1State). length x.l1i) (dropped_at 0) ∙ long_l1i (l1_of p 0) where
    long_l1i : (l1 : L1State) → length (in_set_of l1.shards line (without line) l1.l1i) ≡ length l1.l1i
    long_l1i l1 = (instructions_shape line (without line) l1).l1i_long

  fetched : instructions_seen p.home dropped ≡ map h (instructions_seen p.home p.l1s)
  fetched =
      ap (λ (z : ℕ). cond (nat_lt 0 z) (map i dropped) []) many_still
      ∙ elim (cases_lt 0 many) as (λ _. cond (nat_lt 0 many) (map i dropped) [] ≡ map h (cond (nat_lt 0 many) (map i p.l1s) [])) [
        | inl has ↦
            ap (λ (b : Bool). cond b (map i dropped) []) (lt-ltb 0 many has)
            ∙ (all has
            ∙ sym (ap (λ (b : Bool). map h (cond b (map i p.l1s) [])) (lt-ltb 0 many has)))
        | inr none ↦
            ap (λ (b : Bool). cond b (map i dropped) []) (le-ltb 0 many none)
            ∙ sym (ap (λ (b : Bool). map h (cond b (map i p.l1s) [])) (le-ltb 0 many none))
      ]

  pub dropped_seen : caches_seen (instructions_given_up_by line cores p) ≡ instructions_recalled line (caches_seen p)
  unfolding caches_seen instructions_recalled instruction_given_up_in
  dropped_seen =
      let after : Bank = instructions_given_up_by line cores p in
      ap (λ (home : HomeState). caches_seen (bank_of_parts home after.l1s)) (instructions_home line cores p)
      ∙ (ap (λ (l1s : List L1State). caches_seen (bank_of_parts p.home l1s)) (instructions_given_up_l1s line cores p)
      ∙ parts_seen p.home dropped (l1_of p 0).ways (l1_of p 0).l1i_ways (map (sets_seen p.home) p.l1s) (map h (instructions_seen p.home p.l1s))
      (dropped_keeps (λ x. x.ways) (λ l1. refl) 0) (dropped_keeps (λ x. x.l1i_ways) (λ l1. refl) 0) (map_as no_l1 (sets_seen p.home) dropped p.l1s long (dropped_keeps (sets_seen p.home) (λ l1. refl))) fetched)
