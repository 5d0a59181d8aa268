-- The sharers of a line give it up: the caches that are seen are those after the line was recalled.
use Rattle.std.proofs.Common.{◌≡◌, ℕ, ◌<◌, cond, List, [], ◌∷◌, length, get_or, map, refl, sym, ap, ◌∙◌, subst, arith}
use Rattle.std.specs.Prelude.{nat_lt}
use Rattle.std.proofs.Math.ListN as listn
use Rattle.std.proofs.lemmas.List.{ext_get_or, get_or-map, length-map}
use Rattle.cache_set.specs.Ways.{without}
use Rattle.cache_set.specs.declared.letter.Letter.{Letter}
use Rattle.shard.specs.Coherence.{Caches, recalled}
use Rattle.home.specs.HomeState.{HomeState, row_of}
use Rattle.l1_cache.specs.L1State.{L1State, copies_at, given_up_in, no_l1}
use Rattle.cache_set.specs.Lines.{in_set_of}
use Rattle.shard.specs.PartsLaws.{AreParts, IsOwn}
use Rattle.shard.specs.Seen.{caches_seen, instructions_seen, part_of, sets_seen}
use Rattle.shard.specs.SharedStep.{Bank, given_up_by, l1_of}
use Rattle.shard.proofs.HomesAndL1s.FitOf.{fit_of}
use Rattle.shard.proofs.HomesAndL1s.FoldIsMap.{no_given_up}
use Rattle.shard.proofs.HomesAndL1s.LettersSeen.{letter_kept}
use Rattle.shard.proofs.HomesAndL1s.ListsSeen.{seen_without, sets_changed}
use Rattle.shard.proofs.HomesAndL1s.RecalledSeen.{given_up_home, given_up_is_map}
use Rattle.shard.proofs.HomesAndL1s.RowsSeen.{rows_seen}

map_map : {X Y : Type 0} (f : X → X) (g : X → Y) (l : List X) → ((x : X) → g (f x) ≡ g x) → map g (map f l) ≡ map g l
map_map f g [] same = refl
map_map f g (x ∷ l) same = ap (λ y. y ∷ map g (map f l)) (same x) ∙ ap (λ ys. g x ∷ ys) (map_map f g l same)

module _ (p : Bank) (are : AreParts p) (line : ℕ) (own : IsOwn p line) where
  abbrev f : L1State → L1State
  f = given_up_in line

  abbrev h : List (List (ℕ × Letter)) → List (List (ℕ × Letter))
  h = in_set_of p.home.shards line (without line)

  each : (k : ℕ) → k < length p.l1s → sets_seen p.home (f (l1_of p k)) ≡ h (sets_seen p.home (l1_of p k))
  unfolding given_up_in
  each k within = sets_changed p (fit_of p are) k line within own (without line) (without line) (seen_without letter_kept line (copies_at (l1_of p k) line))

  all : map (sets_seen p.home) (map f p.l1s) ≡ map h (map (sets_seen p.home) p.l1s)
  all =
      let s : L1State → List (List (ℕ × Letter)) = sets_seen p.home in
      let long : length (map s (map f p.l1s)) ≡ length p.l1s = length-map (map f p.l1s) s ∙ length-map p.l1s f in
      ext_get_or [] (map s (map f p.l1s)) (map h (map s p.l1s)) (long ∙ sym (length-map (map s p.l1s) h ∙ length-map p.l1s s))
      (λ i inside. let within : i < length p.l1s = omega (arith, long) in
      get_or-map s (map f p.l1s) i no_l1 [] (omega (arith, length-map p.l1s f))
      ∙ (ap s (get_or-map f p.l1s i no_l1 no_l1 within)
      ∙ (each i within
      ∙ (ap h (sym (get_or-map s p.l1s i no_l1 [] within))
      ∙ sym (get_or-map h (map s p.l1s) i [] [] (omega (arith, length-map p.l1s s)))))))

  first : get_or (map f p.l1s) 0 no_l1 ≡ f (get_or p.l1s 0 no_l1)
  first = subst (λ (d : L1State). get_or (map f p.l1s) 0 d ≡ f (get_or p.l1s 0 no_l1)) (no_given_up line) (listn.get_or-map f p.l1s 0 no_l1)

  fetched : instructions_seen p.home (map f p.l1s) ≡ instructions_seen p.home p.l1s
  unfolding given_up_in
  fetched =
      let i : L1State → List (List (ℕ × Unit {0})) = λ x. (part_of p.home.shards p.home.number x).l1i in
      ap (λ (x : L1State). cond (nat_lt 0 (length x.l1i)) (map i (map f p.l1s)) []) first
      ∙ ap (λ m. cond (nat_lt 0 (length (get_or p.l1s 0 no_l1).l1i)) m []) (map_map f i p.l1s (λ x. refl))

  abbrev made : (l1_ways l1i_ways : ℕ) → List (List (List (ℕ × Letter))) → List (List (List (ℕ × Unit {0}))) → Caches
  made l1_ways l1i_ways sets l1i = record {
    shards = p.home.shards;
    l1_ways = l1_ways;
    l1i_ways = l1i_ways;
    l2_ways = p.home.ways;
    l1 = sets;
    l1i = l1i;
    l2 = rows_seen p.home;
  }

  abbrev bank_with : HomeState → List L1State → Bank
  bank_with home l1s = record { home = home; l1s = l1s }

  pub recalled_seen : caches_seen (given_up_by line (row_of p.home line).sharers p) ≡ recalled line (caches_seen p)
  unfolding caches_seen recalled given_up_in
  recalled_seen =
      let after : Bank = given_up_by line (row_of p.home line).sharers p in
      let mapped : List L1State = map f p.l1s in
      ap (λ (home : HomeState). caches_seen (bank_with home after.l1s)) (given_up_home line (row_of p.home line).sharers p)
      ∙ (ap (λ (l1s : List L1State). caches_seen (bank_with p.home l1s)) (given_up_is_map p are line own)
      ∙ (ap (λ (x : L1State). made x.ways x.l1i_ways (map (sets_seen p.home) mapped) (instructions_seen p.home mapped)) first
      ∙ (ap (λ s. made (l1_of p 0).ways (l1_of p 0).l1i_ways s (instructions_seen p.home mapped)) all
      ∙ ap (λ i. made (l1_of p 0).ways (l1_of p 0).l1i_ways (map h (map (sets_seen p.home) p.l1s)) i) fetched)))
