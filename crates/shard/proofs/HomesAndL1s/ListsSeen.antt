-- Each step of the parts is the step of the caches that are seen.
use Rattle.std.proofs.Common.{◌≡◌, ℕ, zero, suc, ◌<◌, Bool, true, false, cond, eqb, List, [], ◌∷◌, length, get_or, map, set, take, Option, Some, None, refl, sym, ap, ◌∙◌, arith, inl, inr}
use Rattle.std.specs.Option.{option_map_or}
use Rattle.std.specs.Prelude.{nat_lt}
use Rattle.std.proofs.Math.Seq.{map-set_same}
use Rattle.std.proofs.lemmas.Bool.{cases_eq, cases_lt, eq-eqb, le-ltb, lt-ltb, ne_eqb}
use Rattle.std.proofs.lemmas.List.{get_or-map, length-set, map-set}
use Rattle.cache_set.specs.Ways.{filled, kept_of, used, without}
use Rattle.cache_set.specs.declared.letter.Letter.{Letter}
use Rattle.shard.specs.Coherence.{Caches, filled_into_l2, in_l1i_set_of, in_own_set_of, looked_up, marked_dirty}
use Rattle.home.specs.HomeState.{HomeLine, HomeState, brought_in, dropped_in, fetched_in, granted_in, in_row_of, looked_up_in, marked_dirty_in, nobody, owned_in, unfetched_in}
use Rattle.mesi_dir.specs.CoreSets.{with_core, without_core}
use Rattle.l1_cache.specs.L1State.{Copy, L1State, copies_at, in_copies_of, in_instructions_of, no_l1}
use Rattle.cache_set.specs.Lines.{in_set_of, set_number, set_of}
use Rattle.shard.specs.PartsLaws.{IsOwn}
use Rattle.shard.specs.Seen.{caches_seen, instructions_seen, letters_in, part_of, sets_seen}
use Rattle.shard.specs.SharedStep.{Bank, l1_of, with_home, with_l1}
use Rattle.shard.proofs.HomesAndL1s.Fit.{AreFit, IsFit}
use Rattle.shard.proofs.HomesAndL1s.PartOf.{part_sets, seen_reads, seen_set}
use Rattle.shard.proofs.HomesAndL1s.RowsSeen.{dirty_of, rows_dirty, rows_kept, rows_seen, see_maybe, seen_in_set, seen_kept, seen_ways}

-- ---- steps of one set, seen through a function of what is kept
module _ {X Y : Type 0} (see : X → Y) where
  pub seen_without : (line : ℕ) (s : List (ℕ × X)) → seen_ways see (without line s) ≡ without line (seen_ways see s)
  seen_without line [] = refl
  seen_without line (e ∷ s) =
      elim (cases_eq line e.0) as (λ _. seen_ways see (cond (eqb line e.0) s (e ∷ without line s)) ≡ cond (eqb line e.0) (seen_ways see s) ((e.0, see e.1) ∷ without line (seen_ways see s))) [
        | inl same ↦ rw (eq-eqb line e.0 same) refl
        | inr apart ↦ rw (ne_eqb line e.0 apart) (ap (λ (es : List (ℕ × Y)). (e.0, see e.1) ∷ es) (seen_without line s))
      ]

  pub seen_take : (n : ℕ) (s : List (ℕ × X)) → seen_ways see (take n s) ≡ take n (seen_ways see s)
  seen_take zero s = refl
  seen_take (suc n) [] = refl
  seen_take (suc n) (e ∷ s) = ap (λ (es : List (ℕ × Y)). (e.0, see e.1) ∷ es) (seen_take n s)

  pub seen_filled : (ways line : ℕ) (v : X) (s : List (ℕ × X)) → seen_ways see (filled ways line v s) ≡ filled ways line (see v) (seen_ways see s)
  seen_filled ways line v s = seen_take ways ((line, v) ∷ s)

  pub seen_first : (line : ℕ) (v : X) (s : List (ℕ × X)) → seen_ways see ((line, v) ∷ without line s) ≡ (line, see v) ∷ without line (seen_ways see s)
  seen_first line v s = ap (λ (es : List (ℕ × Y)). (line, see v) ∷ es) (seen_without line s)

  using_seen : (line : ℕ) (s : List (ℕ × X)) (o : Option X)
      → seen_ways see (option_map_or (λ kept. (line, kept) ∷ without line s) o s) ≡ option_map_or (λ kept. (line, kept) ∷ without line (seen_ways see s)) (see_maybe see o) (seen_ways see s)
  using_seen line s None = refl
  using_seen line s (Some v) = seen_first line v s

  pub seen_used : (line : ℕ) (s : List (ℕ × X)) → seen_ways see (used line s) ≡ used line (seen_ways see s)
  seen_used line s =
      using_seen line s (kept_of line s)
      ∙ ap (λ (o : Option Y). option_map_or (λ kept. (line, kept) ∷ without line (seen_ways see s)) o (seen_ways see s)) (sym (seen_kept see line s))

-- ---- one L1 of all
first_same : {Y : Type 0} (q : L1State → Y) (l1s : List L1State) (core : ℕ) (v : L1State) → q v ≡ q (get_or l1s core no_l1) → q (get_or (set l1s core v) 0 no_l1) ≡ q (get_or l1s 0 no_l1)
first_same q [] core v e = refl
first_same q (x ∷ l1s) zero v e = e
first_same q (x ∷ l1s) (suc core) v e = refl

abbrev pub made : (home : HomeState) → (l1_ways l1i_ways : ℕ) → List (List (List (ℕ × Letter))) → List (List (List (ℕ × Unit {0}))) → Caches
made home l1_ways l1i_ways sets l1i = record {
  shards = home.shards;
  l1_ways = l1_ways;
  l1i_ways = l1i_ways;
  l2_ways = home.ways;
  l1 = sets;
  l1i = l1i;
  l2 = rows_seen home;
}

-- what is seen, part by part
pub parts_seen : (home : HomeState) (l1s : List L1State) (w i : ℕ) (sets : List (List (List (ℕ × Letter)))) (l1i : List (List (List (ℕ × Unit {0}))))
    → (get_or l1s 0 no_l1).ways ≡ w → (get_or l1s 0 no_l1).l1i_ways ≡ i → map (sets_seen home) l1s ≡ sets → instructions_seen home l1s ≡ l1i
    → caches_seen (record { home = home; l1s = l1s }) ≡ made home w i sets l1i
unfolding caches_seen
parts_seen home l1s w i sets l1i e f g h =
    ap (λ (z : ℕ). made home z (get_or l1s 0 no_l1).l1i_ways (map (sets_seen home) l1s) (instructions_seen home l1s)) e
    ∙ (ap (λ (z : ℕ). made home w z (map (sets_seen home) l1s) (instructions_seen home l1s)) f
    ∙ (ap (λ z. made home w i z (instructions_seen home l1s)) g
    ∙ ap (λ z. made home w i sets z) h))

module _ (p : Bank) (fit : AreFit p) (core line : ℕ) (within : core < length p.l1s) (own : IsOwn p line) where
  abbrev l1 : L1State
  l1 = l1_of p core

  abbrev n : ℕ
  n = p.home.shards

  abbrev b : ℕ
  b = p.home.number

  -- a change of a core's copies of the line's set: its own sets, seen
  pub sets_changed : (f : List (ℕ × Copy) → List (ℕ × Copy)) (g : List (ℕ × Letter) → List (ℕ × Letter)) → letters_in (f (copies_at l1 line)) ≡ g (letters_in (copies_at l1 line))
      → sets_seen p.home (in_copies_of line f l1) ≡ in_set_of n line g (sets_seen p.home l1)
  sets_changed f g natural =
      let is : IsFit n (l1_of p 0) l1 = fit.each core within in
      let part : List (List (ℕ × Copy)) = part_sets l1.shards n b l1.sets in
      let reads : set_of n line part ≡ copies_at l1 line = seen_reads n b fit.some.0 fit.some.1 l1.shards l1.sets is.shards is.sets line own in
      ap (map letters_in) (seen_set n b fit.some.0 fit.some.1 l1.shards l1.sets is.shards is.sets f line own is.room)
      ∙ seen_in_set letters_in refl n line f g part (ap (λ s. letters_in (f s)) reads ∙ (natural ∙ sym (ap (λ s. g (letters_in s)) reads)))

  -- a change of a core's copies of the line's set, seen
  pub copies_changed : (f : List (ℕ × Copy) → List (ℕ × Copy)) (g : List (ℕ × Letter) → List (ℕ × Letter)) → letters_in (f (copies_at l1 line)) ≡ g (letters_in (copies_at l1 line))
      → caches_seen (with_l1 core (in_copies_of line f) p) ≡ in_own_set_of core line g (caches_seen p)
  unfolding caches_seen
  copies_changed f g natural =
      let new : L1State = in_copies_of line f l1 in
      let after : List L1State = set p.l1s core new in
      let own_sets : get_or (map (sets_seen p.home) p.l1s) core [] ≡ sets_seen p.home l1 = get_or-map (sets_seen p.home) p.l1s core no_l1 [] within in
      let all : map (sets_seen p.home) after ≡ set (map (sets_seen p.home) p.l1s) core (in_set_of n line g (get_or (map (sets_seen p.home) p.l1s) core []))
      = map-set (sets_seen p.home) p.l1s core new ∙ ap (set (map (sets_seen p.home) p.l1s) core) (sets_changed f g natural ∙ sym (ap (in_set_of n line g) own_sets)) in
      let instructions : L1State → List (List (ℕ × Unit {0})) = λ x. (part_of n b x).l1i in
      let fetched : instructions_seen p.home after ≡ instructions_seen p.home p.l1s
      = ap (λ (z : ℕ). cond (nat_lt 0 z) (map instructions after) []) (first_same (λ x. length x.l1i) p.l1s core new refl)
      ∙ ap (λ m. cond (nat_lt 0 (length (get_or p.l1s 0 no_l1).l1i)) m []) (map-set_same instructions p.l1s core new no_l1 refl) in
      parts_seen p.home after (l1_of p 0).ways (l1_of p 0).l1i_ways (set (map (sets_seen p.home) p.l1s) core (in_set_of n line g (get_or (map (sets_seen p.home) p.l1s) core []))) (instructions_seen p.home p.l1s)
      (first_same (λ x. x.ways) p.l1s core new refl) (first_same (λ x. x.l1i_ways) p.l1s core new refl) all fetched

  -- a change of a core's instructions of the line's set, seen
  pub instructions_changed : (f : List (ℕ × Unit {0}) → List (ℕ × Unit {0})) → caches_seen (with_l1 core (in_instructions_of line f) p) ≡ in_l1i_set_of core line f (caches_seen p)
  unfolding caches_seen
  instructions_changed f =
      let is : IsFit n (l1_of p 0) l1 = fit.each core within in
      let new : L1State = in_instructions_of line f l1 in
      let after : List L1State = set p.l1s core new in
      let i : L1State → List (List (ℕ × Unit {0})) = λ x. (part_of n b x).l1i in
      let many : ℕ = length (l1_of p 0).l1i in
      let long : length new.l1i ≡ length l1.l1i = length-set l1.l1i (set_number l1.shards line l1.l1i) (f (set_of l1.shards line l1.l1i)) in
      let then : List (List (List (ℕ × Unit {0}))) = instructions_seen p.home p.l1s in
      let all : 0 < many → map i after ≡ set (map i p.l1s) core (in_set_of n line f (get_or (map i p.l1s) core []))
      = λ has.
      map-set i p.l1s core new
      ∙ ap (set (map i p.l1s) core)
      (seen_set n b fit.some.0 fit.some.1 l1.shards l1.l1i is.shards is.l1i_sets f line own (omega (arith, has, is.fetchers))
      ∙ sym (ap (in_set_of n line f) (get_or-map i p.l1s core no_l1 [] within))) in
      let fetched : instructions_seen p.home after ≡ set then core (in_set_of n line f (get_or then core []))
      = ap (λ (z : ℕ). cond (nat_lt 0 z) (map i after) []) (first_same (λ x. length x.l1i) p.l1s core new long)
      ∙ elim (cases_lt 0 many) as (λ _. cond (nat_lt 0 many) (map i after) [] ≡ set then core (in_set_of n line f (get_or then core []))) [
        | inl has ↦
            ap (λ (t : Bool). cond t (map i after) []) (lt-ltb 0 many has)
            ∙ (all has
            ∙ sym (ap (λ (t : Bool). set (cond t (map i p.l1s) []) core (in_set_of n line f (get_or (cond t (map i p.l1s) []) core []))) (lt-ltb 0 many has)))
        | inr none ↦
            ap (λ (t : Bool). cond t (map i after) []) (le-ltb 0 many none)
            ∙ sym (ap (λ (t : Bool). set (cond t (map i p.l1s) []) core (in_set_of n line f (get_or (cond t (map i p.l1s) []) core []))) (le-ltb 0 many none))
      ] in
      parts_seen p.home after (l1_of p 0).ways (l1_of p 0).l1i_ways (map (sets_seen p.home) p.l1s) (set then core (in_set_of n line f (get_or then core [])))
      (first_same (λ x. x.ways) p.l1s core new refl) (first_same (λ x. x.l1i_ways) p.l1s core new refl) (map-set_same (sets_seen p.home) p.l1s core new no_l1 refl) fetched

-- ---- the L2
pub looked_up_seen : (line : ℕ) (p : Bank) → caches_seen (with_home (looked_up_in line) p) ≡ looked_up line (caches_seen p)
unfolding caches_seen looked_up_in looked_up
looked_up_seen line p =
    ap (λ l2. record (caches_seen p) { l2 = l2 }) (seen_in_set (seen_ways dirty_of) refl p.home.shards line (used line) (used line) p.home.sets (seen_used dirty_of line (set_of p.home.shards line p.home.sets)))

pub brought_in_seen : (line : ℕ) (p : Bank) → caches_seen (with_home (brought_in line) p) ≡ filled_into_l2 line (caches_seen p)
unfolding caches_seen brought_in filled_into_l2
brought_in_seen line p =
    ap (λ l2. record (caches_seen p) { l2 = l2 })
    (seen_in_set (seen_ways dirty_of) refl p.home.shards line (filled p.home.ways line nobody) (filled p.home.ways line false) p.home.sets (seen_filled dirty_of p.home.ways line nobody (set_of p.home.shards line p.home.sets)))

pub marked_dirty_seen : (line : ℕ) (p : Bank) → caches_seen (with_home (marked_dirty_in line) p) ≡ marked_dirty line (caches_seen p)
unfolding caches_seen marked_dirty_in marked_dirty
marked_dirty_seen line p = ap (λ l2. record (caches_seen p) { l2 = l2 }) (rows_dirty line (λ row. record row { dirty = true }) p.home (λ row. refl))

-- changes of a row that are not of its dirt
row_change_seen : (line : ℕ) (change : HomeLine → HomeLine) (p : Bank) → ((row : HomeLine) → (change row).dirty ≡ row.dirty) → caches_seen (with_home (in_row_of line change) p) ≡ caches_seen p
unfolding caches_seen
row_change_seen line change p same = ap (λ l2. record (caches_seen p) { l2 = l2 }) (rows_kept line change p.home same)

pub granted_seen : (line core : ℕ) (alone : Bool) (p : Bank) → caches_seen (with_home (granted_in line core alone) p) ≡ caches_seen p
unfolding granted_in
granted_seen line core alone p = row_change_seen line (λ row. record row { sharers = with_core core row.sharers; alone = alone }) p (λ row. refl)

pub dropped_seen : (line core : ℕ) (p : Bank) → caches_seen (with_home (dropped_in line core) p) ≡ caches_seen p
unfolding dropped_in
dropped_seen line core p = row_change_seen line (λ row. record row { sharers = without_core core row.sharers; alone = false }) p (λ row. refl)

pub owned_seen : (line core : ℕ) (p : Bank) → caches_seen (with_home (owned_in line core) p) ≡ caches_seen p
unfolding owned_in
owned_seen line core p = row_change_seen line (λ row. record row { sharers = core ∷ []; alone = true }) p (λ row. refl)

pub fetched_in_seen : (line core : ℕ) (p : Bank) → caches_seen (with_home (fetched_in line core) p) ≡ caches_seen p
unfolding fetched_in
fetched_in_seen line core p = row_change_seen line (λ row. record row { fetchers = with_core core row.fetchers }) p (λ row. refl)

pub unfetched_in_seen : (line core : ℕ) (p : Bank) → caches_seen (with_home (unfetched_in line core) p) ≡ caches_seen p
unfolding unfetched_in
unfetched_in_seen line core p = row_change_seen line (λ row. record row { fetchers = without_core core row.fetchers }) p (λ row. refl)
