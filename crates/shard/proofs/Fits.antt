-- No access leaves a set with a line twice or with more lines than ways.
use Rattle.std.proofs.Common.{◌≡◌, ℕ, zero, suc, ◌+◌, Bool, true, false, cond, eqb, List, [], ◌∷◌, length, get_or, map, set, take, replicate, Option, Some, None, is_some, refl, ◌∙◌, subst, arith, inl, inr}
use Rattle.std.specs.List.{All, IsDistinct, enumerate_from}
use Rattle.std.specs.Map.{keys_of}
use Rattle.std.specs.Option.{option_map_or}
use Rattle.std.specs.Prelude.{IsSome, nat_eq}
use Rattle.std.proofs.lemmas.Bool.{cases_eq, cases_lt, eq-eqb}
use Rattle.std.proofs.lemmas.List.{get_or-map, get_or-set_same, get_or-set_other, get_or_past, length-map, length-set, length-take}
use Rattle.std.proofs.lemmas.List.Elements.{All-head, All-map, All-nil, All-cons, All-replicate, All-set, All-tail, All-weaker}
use Rattle.std.proofs.lemmas.List.FromFn.{get_or-enumerate_from, length-enumerate_from}
use Rattle.std.proofs.lemmas.Map.{keys-set_value, length-set_value, lookup-none, NonePasses, none_passes_from_lookup}
use Rattle.std.proofs.lemmas.Map.Keys.{IsDistinct-cons}
use Rattle.zs_num.specs.Request.{is_fetch, line_of}
use Rattle.zs_num.specs.declared.request.Request.{Request}
use Rattle.cache_set.specs.declared.letter.Letter.{Letter}
use Rattle.cache_set.specs.declared.letter.Letter.TheVariants.{M, E, S, I}
use Rattle.cache_set.specs.Ways.{kept_of, without, used, filled, changed}
use Rattle.cache_set.proofs.Sets.{lacks-absent, lacks-take, distinct-without, lacks-others, length-without, length-without_some}
use Rattle.shard.specs.Coherence.{Caches, letter_in, letter_at, dirty_at, fetch_holds, l1i_lines_at, outcome_by, is_write, is_alone, is_dirty_victim, some_other, is_valid, is_modified, own_after, own_victim, on_l2, on_others, on_own, l2_victim, copies_evicted, written_back, after_at, after_fetch_at, fetch_outcome_by, caches_after, empty_caches, recalled, instructions_recalled, marked_dirty, filled_into_l2, looked_up, other_after, others_changed, kept_first, filled_into_l1, filled_into_l1i, on_l1i, used_in_l1i, with_letter}
use Rattle.shard.specs.Accesses.{caches_after_all}
use Rattle.cache_set.specs.Lines.{set_of, in_set_of, set_number}
use Rattle.shard.specs.StandsFor.{IsSet}

-- ---- one set
module _ {X : Type 0} where
  distinct_front : (n : ℕ) (es : List (ℕ × X)) → IsDistinct nat_eq (keys_of es) → IsDistinct nat_eq (keys_of (take n es))
  unfolding IsDistinct
  distinct_front zero es h = tt
  distinct_front (suc n) [] h = tt
  distinct_front (suc n) (e ∷ es) h = (lacks-take n e.0 es h.0, distinct_front n es h.1)

  set_without : (ways line : ℕ) (s : List (ℕ × X)) → IsSet ways s → IsSet ways (without line s)
  set_without ways line s h = record { distinct = distinct-without line s h.distinct; within = omega (arith, length-without line s, h.within) }

  set_changed : (ways line : ℕ) (v : X) (s : List (ℕ × X)) → IsSet ways s → IsSet ways (changed line v s)
  set_changed ways line v s h = record { distinct = rw (keys-set_value (nat_eq line) s v) h.distinct; within = omega (arith, length-set_value (nat_eq line) s v, h.within) }

  set_first : (ways line : ℕ) (v : X) (s : List (ℕ × X)) → IsSet ways s → IsSome (kept_of line s) → IsSet ways ((line, v) ∷ without line s)
  set_first ways line v s h there = record {
    distinct = IsDistinct-cons nat_eq line (keys_of (without line s)) (lacks-others line s h.distinct) (distinct-without line s h.distinct);
    within = omega (arith, length-without_some line s there, h.within);
  }

  set_used_as : (ways line : ℕ) (s : List (ℕ × X)) (o : Option X) → IsSet ways s → kept_of line s ≡ o → IsSet ways (option_map_or (λ kept. (line, kept) ∷ without line s) o s)
  set_used_as ways line s None h e = h
  set_used_as ways line s (Some kept) h e = set_first ways line kept s h (rw e refl)

  set_used : (ways line : ℕ) (s : List (ℕ × X)) → IsSet ways s → IsSet ways (used line s)
  set_used ways line s h = set_used_as ways line s (kept_of line s) h refl

  set_filled : (ways line : ℕ) (v : X) (s : List (ℕ × X)) → IsSet ways s → kept_of line s ≡ None → IsSet ways (filled ways line v s)
  set_filled ways line v s h none = record {
    distinct = distinct_front ways ((line, v) ∷ s) (IsDistinct-cons nat_eq line (keys_of s) (lacks-absent line s none) h.distinct);
    within = omega (arith, length-take ways ((line, v) ∷ s));
  }

  none_passes_without : (line v : ℕ) (s : List (ℕ × X)) → NonePasses (nat_eq line) s → NonePasses (nat_eq line) (without v s)
  none_passes_without line v [] h = tt
  none_passes_without line v (e ∷ s) h =
      elim (eqb v e.0) as (λ b. NonePasses (nat_eq line) (cond b s (e ∷ without v s)))
      [ true ↦ h.1 | false ↦ (h.0, none_passes_without line v s h.1) ]

  absent_without : (line v : ℕ) (s : List (ℕ × X)) → kept_of line s ≡ None → kept_of line (without v s) ≡ None
  absent_without line v s h = lookup-none (nat_eq line) (without v s) (none_passes_without line v s (none_passes_from_lookup (nat_eq line) s h))

-- ---- a set of an L1, in which no letter is I
abbrev pub Held : List (ℕ × Letter) → Type 0
Held [] = Unit {0}
Held (e ∷ es) = (is_valid e.1 ≡ true) × Held es

pub record IsL1 (ways : ℕ) (s : List (ℕ × Letter)) : Type 0 where
  pub fits : IsSet ways s
  pub held : Held s

held_without : (line : ℕ) (s : List (ℕ × Letter)) → Held s → Held (without line s)
held_without line [] h = tt
held_without line (e ∷ s) h =
    elim (eqb line e.0) as (λ b. Held (cond b s (e ∷ without line s)))
    [ true ↦ h.1 | false ↦ (h.0, held_without line s h.1) ]

held_changed : (line : ℕ) (v : Letter) (s : List (ℕ × Letter)) → is_valid v ≡ true → Held s → Held (changed line v s)
held_changed line v [] k h = tt
held_changed line v (e ∷ s) k h =
    elim (eqb line e.0) as (λ b. Held (cond b ((e.0, v) ∷ s) (e ∷ changed line v s)))
    [ true ↦ (k, h.1) | false ↦ (h.0, held_changed line v s k h.1) ]

held_take : (n : ℕ) (s : List (ℕ × Letter)) → Held s → Held (take n s)
held_take zero s h = tt
held_take (suc n) [] h = tt
held_take (suc n) (e ∷ s) h = (h.0, held_take n s h.1)

held_kept : (line : ℕ) (s : List (ℕ × Letter)) → Held s → (v : Letter) → kept_of line s ≡ Some v → is_valid v ≡ true
held_kept line [] h v e = absurd cc
held_kept line (x ∷ s) h v e =
    elim (eqb line x.0) as (λ b. cond b (Some x.1) (kept_of line s) ≡ Some v → is_valid v ≡ true) [
      | true ↦ λ (k : Some x.1 ≡ Some v). let same : x.1 ≡ v = cc in subst (λ (l : Letter). is_valid l ≡ true) same h.0
      | false ↦ λ k. held_kept line s h.1 v k
    ] e

-- a letter I means that the line is not there
absent_as : (line : ℕ) (s : List (ℕ × Letter)) (o : Option Letter) → kept_of line s ≡ o → Held s → letter_in line s ≡ I → o ≡ None
absent_as line s None e h i = refl
absent_as line s (Some v) e h i =
    let is : v ≡ I = rw e at i in
    let held : is_valid v ≡ true = held_kept line s h v e in
    let bad : is_valid I ≡ true = rw is at held in
    absurd cc

absent_at : (line : ℕ) (s : List (ℕ × Letter)) → Held s → letter_in line s ≡ I → kept_of line s ≡ None
absent_at line s h i = absent_as line s (kept_of line s) refl h i

there_as : (line : ℕ) (s : List (ℕ × Letter)) (o : Option Letter) → kept_of line s ≡ o → is_valid (letter_in line s) ≡ true → is_some o ≡ true
there_as line s None e h = let bad : is_valid I ≡ true = rw e at h in absurd cc
there_as line s (Some v) e h = refl

there_at : (line : ℕ) (s : List (ℕ × Letter)) → is_valid (letter_in line s) ≡ true → IsSome (kept_of line s)
there_at line s h = there_as line s (kept_of line s) refl h

pub l1_nil : (ways : ℕ) → IsL1 ways []
unfolding IsDistinct
l1_nil ways = record { fits = record { distinct = tt; within = omega arith }; held = tt }

pub set_nil : {X : Type 0} (ways : ℕ) → IsSet {X = X} ways []
unfolding IsDistinct
set_nil ways = record { distinct = tt; within = omega arith }

l1_without : (ways line : ℕ) (s : List (ℕ × Letter)) → IsL1 ways s → IsL1 ways (without line s)
l1_without ways line s h = record { fits = set_without ways line s h.fits; held = held_without line s h.held }

l1_changed : (ways line : ℕ) (v : Letter) (s : List (ℕ × Letter)) → is_valid v ≡ true → IsL1 ways s → IsL1 ways (changed line v s)
l1_changed ways line v s k h = record { fits = set_changed ways line v s h.fits; held = held_changed line v s k h.held }

l1_letter : (ways line : ℕ) (v : Letter) (s : List (ℕ × Letter)) → IsL1 ways s → IsL1 ways (with_letter line v s)
l1_letter ways line M s h = l1_changed ways line M s refl h
l1_letter ways line E s h = l1_changed ways line E s refl h
l1_letter ways line S s h = l1_changed ways line S s refl h
l1_letter ways line I s h = l1_without ways line s h

l1_first : (ways line : ℕ) (v : Letter) (s : List (ℕ × Letter)) → is_valid v ≡ true → is_valid (letter_in line s) ≡ true → IsL1 ways s → IsL1 ways ((line, v) ∷ without line s)
l1_first ways line v s k there h = record { fits = set_first ways line v s h.fits (there_at line s there); held = (k, held_without line s h.held) }

l1_filled : (ways line : ℕ) (v : Letter) (s : List (ℕ × Letter)) → is_valid v ≡ true → kept_of line s ≡ None → IsL1 ways s → IsL1 ways (filled ways line v s)
l1_filled ways line v s k none h = record { fits = set_filled ways line v s h.fits none; held = held_take ways ((line, v) ∷ s) (k, h.held) }

-- ---- lists of sets
module _ {X : Type 0} (P : X → Type 0) where
  pub at_or : (xs : List X) (i : ℕ) (d : X) → All P xs → P d → P (get_or xs i d)
  at_or xs i d h k =
      elim (cases_lt i (length xs)) as (λ _. P (get_or xs i d))
      [ inl l ↦ h i d l | inr l ↦ rw (get_or_past xs i d l) k ]

  mapped : (f : X → X) (xs : List X) → ((x : X) → P x → P (f x)) → All P xs → All P (map f xs)
  mapped f xs step h = All-map P f xs (All-weaker P (λ x. P (f x)) step xs h)

  numbered_all : (g : ℕ × X → X) (n : ℕ) (xs : List X) → ((i : ℕ) (x : X) → P x → P (g (i, x))) → All P xs → All P (map g (enumerate_from n xs))
  numbered_all g n [] step h = All-nil P
  numbered_all g n (x ∷ xs) step h =
      All-cons P (g (n, x)) (map g (enumerate_from (n + 1) xs)) (step n x (All-head P x xs h)) (numbered_all g (n + 1) xs step (All-tail P x xs h))

in_set : {X : Type 0} (P : List X → Type 0) (shards line : ℕ) (change : List X → List X) (sets : List (List X)) → P [] → (P (set_of shards line sets) → P (change (set_of shards line sets))) → All P sets → All P (in_set_of shards line change sets)
in_set P shards line change sets nil step h =
    All-set P sets (set_number shards line sets) (change (set_of shards line sets)) (step (at_or P sets (set_number shards line sets) [] h nil)) h

-- ---- the caches
pub record Fits (c : Caches) : Type 0 where
  pub l1 : All (All (IsL1 c.l1_ways)) c.l1
  pub l1i : All (All (IsSet c.l1i_ways)) c.l1i
  pub l2 : All (IsSet c.l2_ways) c.l2

pub own_sets : (c : Caches) → Fits c → (core : ℕ) → All (IsL1 c.l1_ways) (get_or c.l1 core [])
own_sets c f core = at_or (All (IsL1 c.l1_ways)) c.l1 core [] f.l1 (All-nil (IsL1 c.l1_ways))

own_set : (c : Caches) → Fits c → (core line : ℕ) → IsL1 c.l1_ways (set_of c.shards line (get_or c.l1 core []))
own_set c f core line = at_or (IsL1 c.l1_ways) (get_or c.l1 core []) (set_number c.shards line (get_or c.l1 core [])) [] (own_sets c f core) (l1_nil c.l1_ways)

recalled_fits : (line : ℕ) (c : Caches) → Fits c → Fits (recalled line c)
unfolding recalled
recalled_fits line c f = record {
  l1 = mapped (All (IsL1 c.l1_ways)) (in_set_of c.shards line (without line)) c.l1
      (λ sets h. in_set (IsL1 c.l1_ways) c.shards line (without line) sets (l1_nil c.l1_ways) (l1_without c.l1_ways line (set_of c.shards line sets)) h) f.l1;
  l1i = f.l1i;
  l2 = f.l2;
}

instructions_fit : (line : ℕ) (c : Caches) → Fits c → Fits (instructions_recalled line c)
unfolding instructions_recalled
instructions_fit line c f = record {
  l1 = f.l1;
  l1i = mapped (All (IsSet c.l1i_ways)) (in_set_of c.shards line (without line)) c.l1i
      (λ sets h. in_set (IsSet c.l1i_ways) c.shards line (without line) sets (set_nil c.l1i_ways) (set_without c.l1i_ways line (set_of c.shards line sets)) h) f.l1i;
  l2 = f.l2;
}

marked_fits : (line : ℕ) (c : Caches) → Fits c → Fits (marked_dirty line c)
unfolding marked_dirty
marked_fits line c f = record {
  l1 = f.l1;
  l1i = f.l1i;
  l2 = in_set (IsSet c.l2_ways) c.shards line (changed line true) c.l2 (set_nil c.l2_ways) (set_changed c.l2_ways line true (set_of c.shards line c.l2)) f.l2;
}

pub looked_fits : (line : ℕ) (c : Caches) → Fits c → Fits (looked_up line c)
unfolding looked_up
looked_fits line c f = record {
  l1 = f.l1;
  l1i = f.l1i;
  l2 = in_set (IsSet c.l2_ways) c.shards line (used line) c.l2 (set_nil c.l2_ways) (set_used c.l2_ways line (set_of c.shards line c.l2)) f.l2;
}

pub fetched_fits : (line : ℕ) (c : Caches) → dirty_at c line ≡ None → Fits c → Fits (filled_into_l2 line c)
unfolding filled_into_l2 dirty_at
fetched_fits line c none f = record {
  l1 = f.l1;
  l1i = f.l1i;
  l2 = in_set (IsSet c.l2_ways) c.shards line (filled c.l2_ways line false) c.l2 (set_nil c.l2_ways) (λ h. set_filled c.l2_ways line false (set_of c.shards line c.l2) h none) f.l2;
}

pub others_fits : (change : Letter → Letter) (core line : ℕ) (c : Caches) → Fits c → Fits (others_changed change core line c)
unfolding others_changed
others_fits change core line c f = record {
  l1 = numbered_all (All (IsL1 c.l1_ways)) (λ (at : ℕ × List (List (ℕ × Letter))). cond (eqb at.0 core) at.1 (in_set_of c.shards line (λ copies. with_letter line (change (letter_in line copies)) copies) at.1)) 0 c.l1
      (λ i sets h. elim (eqb i core) as (λ b. All (IsL1 c.l1_ways) (cond b sets (in_set_of c.shards line (λ copies. with_letter line (change (letter_in line copies)) copies) sets))) [
        | true ↦ h
        | false ↦ in_set (IsL1 c.l1_ways) c.shards line (λ copies. with_letter line (change (letter_in line copies)) copies) sets (l1_nil c.l1_ways)
            (l1_letter c.l1_ways line (change (letter_in line (set_of c.shards line sets))) (set_of c.shards line sets)) h
      ]) f.l1;
  l1i = f.l1i;
  l2 = f.l2;
}

first_fits : (core line : ℕ) (letter : Letter) (c : Caches) → is_valid letter ≡ true → is_valid (letter_at c core line) ≡ true → Fits c → Fits (kept_first core line letter c)
unfolding kept_first letter_at
first_fits core line letter c k there f = record {
  l1 = All-set (All (IsL1 c.l1_ways)) c.l1 core (in_set_of c.shards line (λ copies. (line, letter) ∷ without line copies) (get_or c.l1 core []))
      (in_set (IsL1 c.l1_ways) c.shards line (λ copies. (line, letter) ∷ without line copies) (get_or c.l1 core []) (l1_nil c.l1_ways)
      (l1_first c.l1_ways line letter (set_of c.shards line (get_or c.l1 core [])) k there) (own_sets c f core)) f.l1;
  l1i = f.l1i;
  l2 = f.l2;
}

-- what an eviction leaves of the L1s
pub record SameL1 (c d : Caches) : Type 0 where
  pub ways : c.l1_ways ≡ d.l1_ways
  pub fits : Fits c
  pub letters : (core line : ℕ) → letter_at c core line ≡ letter_at d core line

back_same_l1 : (victim : Option (ℕ × Letter)) (c : Caches) → Fits c → SameL1 (written_back victim c) c
unfolding letter_at marked_dirty
back_same_l1 None c f = record { ways = refl; fits = f; letters = λ core line. refl }
back_same_l1 (Some victim) c f =
    elim (is_modified victim.1) as (λ b. SameL1 (cond b (marked_dirty victim.0 c) c) c) [
      | true ↦ record { ways = refl; fits = marked_fits victim.0 c f; letters = λ core line. refl }
      | false ↦ record { ways = refl; fits = f; letters = λ core line. refl }
    ]

put_fits : (ways core line : ℕ) (letter : Letter) (d : Caches) → d.l1_ways ≡ ways → is_valid letter ≡ true → letter_at d core line ≡ I → Fits d
    → Fits (record d { l1 = set d.l1 core (in_set_of d.shards line (filled ways line letter) (get_or d.l1 core [])) })
unfolding letter_at
put_fits ways core line letter d e k i f =
    let none : kept_of line (set_of d.shards line (get_or d.l1 core [])) ≡ None = absent_at line (set_of d.shards line (get_or d.l1 core [])) (own_set d f core line).held i in
    record {
      l1 = subst (λ (n : ℕ). All (All (IsL1 d.l1_ways)) (set d.l1 core (in_set_of d.shards line (filled n line letter) (get_or d.l1 core [])))) e
          (All-set (All (IsL1 d.l1_ways)) d.l1 core (in_set_of d.shards line (filled d.l1_ways line letter) (get_or d.l1 core []))
          (in_set (IsL1 d.l1_ways) d.shards line (filled d.l1_ways line letter) (get_or d.l1 core []) (l1_nil d.l1_ways)
          (l1_filled d.l1_ways line letter (set_of d.shards line (get_or d.l1 core [])) k none) (own_sets d f core)) f.l1);
      l1i = f.l1i;
      l2 = f.l2;
    }

taken_fits : (core line : ℕ) (letter : Letter) (c : Caches) → is_valid letter ≡ true → letter_at c core line ≡ I → Fits c → Fits (filled_into_l1 core line letter c)
unfolding filled_into_l1
taken_fits core line letter c k i f =
    let back : SameL1 (written_back (own_victim c core line) c) c = back_same_l1 (own_victim c core line) c f in
    put_fits c.l1_ways core line letter (written_back (own_victim c core line) c) back.ways k (back.letters core line ∙ i) back.fits

-- ---- a core's instruction cache
instruction_sets : (c : Caches) → Fits c → (core : ℕ) → All (IsSet c.l1i_ways) (get_or c.l1i core [])
instruction_sets c f core = at_or (All (IsSet c.l1i_ways)) c.l1i core [] f.l1i (All-nil (IsSet c.l1i_ways))

pub instruction_set : (c : Caches) → Fits c → (core line : ℕ) → IsSet c.l1i_ways (l1i_lines_at c core line)
instruction_set c f core line =
    at_or (IsSet c.l1i_ways) (get_or c.l1i core []) (set_number c.shards line (get_or c.l1i core [])) [] (instruction_sets c f core) (set_nil c.l1i_ways)

instructions_set_fit : (core line : ℕ) (change : List (ℕ × Unit {0}) → List (ℕ × Unit {0})) (c : Caches) → (IsSet c.l1i_ways (l1i_lines_at c core line) → IsSet c.l1i_ways (change (l1i_lines_at c core line))) → Fits c
    → Fits (record c { l1i = set c.l1i core (in_set_of c.shards line change (get_or c.l1i core [])) })
instructions_set_fit core line change c step f = record {
  l1 = f.l1;
  l1i = All-set (All (IsSet c.l1i_ways)) c.l1i core (in_set_of c.shards line change (get_or c.l1i core []))
      (in_set (IsSet c.l1i_ways) c.shards line change (get_or c.l1i core []) (set_nil c.l1i_ways) step (instruction_sets c f core)) f.l1i;
  l2 = f.l2;
}

none_from : {X : Type 0} (o : Option X) → is_some o ≡ false → o ≡ None
none_from None h = refl
none_from (Some x) h = absurd cc

-- a line that comes in was not there
pub on_l1i_fits : (held : Bool) (core line : ℕ) (c : Caches) → (held ≡ false → fetch_holds c core line ≡ false) → Fits c → Fits (on_l1i held core line c)
unfolding fetch_holds used_in_l1i filled_into_l1i
on_l1i_fits true core line c out f = instructions_set_fit core line (used line) c (set_used c.l1i_ways line (l1i_lines_at c core line)) f
on_l1i_fits false core line c out f =
    instructions_set_fit core line (filled c.l1i_ways line tt) c
    (λ h. set_filled c.l1i_ways line tt (l1i_lines_at c core line) h (none_from (kept_of line (l1i_lines_at c core line)) (out refl))) f

-- ---- the core's own letter on the way
absent_set : {X : Type 0} (line v : ℕ) (sets : List (List (ℕ × X))) (n k : ℕ) → kept_of line (get_or sets n []) ≡ None → kept_of line (get_or (set sets k (without v (get_or sets k []))) n []) ≡ None
absent_set line v sets n k h =
    let longer : length (set sets n (without v (get_or sets n []))) ≡ length sets = length-set sets n (without v (get_or sets n [])) in
    let same : kept_of line (get_or (set sets n (without v (get_or sets n []))) n []) ≡ None
    = elim (cases_lt n (length sets)) as (λ _. kept_of line (get_or (set sets n (without v (get_or sets n []))) n []) ≡ None) [
      | inl l ↦ rw (get_or-set_same sets n (without v (get_or sets n [])) [] l) (absent_without line v (get_or sets n []) h)
      | inr l ↦ rw (get_or_past (set sets n (without v (get_or sets n []))) n [] (omega (arith, longer))) refl
    ] in
    elim (cases_eq n k) as (λ _. kept_of line (get_or (set sets k (without v (get_or sets k []))) n []) ≡ None) [
      | inl e ↦ subst (λ (x : ℕ). kept_of line (get_or (set sets x (without v (get_or sets x []))) n []) ≡ None) e same
      | inr e ↦ rw (get_or-set_other sets k n (without v (get_or sets k [])) [] e) h
    ]

absent_in_set : {X : Type 0} (shards line v : ℕ) (sets : List (List (ℕ × X))) → kept_of line (set_of shards line sets) ≡ None → kept_of line (set_of shards line (in_set_of shards v (without v) sets)) ≡ None
absent_in_set shards line v sets h =
    rw (length-set sets (set_number shards v sets) (without v (set_of shards v sets))) (absent_set line v sets (set_number shards line sets) (set_number shards v sets) h)

own_recalled : (core line v : ℕ) (c : Caches) → Fits c → letter_at c core line ≡ I → letter_at (recalled v c) core line ≡ I
unfolding letter_at recalled
own_recalled core line v c f i =
    let none : kept_of line (set_of c.shards line (get_or c.l1 core [])) ≡ None = absent_at line (set_of c.shards line (get_or c.l1 core [])) (own_set c f core line).held i in
    elim (cases_lt core (length c.l1)) as (λ _. letter_in line (set_of c.shards line (get_or (map (in_set_of c.shards v (without v)) c.l1) core [])) ≡ I) [
      | inl l ↦ rw (get_or-map (in_set_of c.shards v (without v)) c.l1 core [] [] l, absent_in_set c.shards line v (get_or c.l1 core []) none) refl
      | inr l ↦ rw (get_or_past (map (in_set_of c.shards v (without v)) c.l1) core [] (omega (arith, length-map c.l1 (in_set_of c.shards v (without v))))) refl
    ]

-- a line that a core's L1I does not have does not come there because another is evicted
instructions_absent : (core line v : ℕ) (c : Caches) → fetch_holds c core line ≡ false → fetch_holds (instructions_recalled v c) core line ≡ false
unfolding fetch_holds instructions_recalled
instructions_absent core line v c out =
    let sets : List (List (ℕ × Unit {0})) = get_or c.l1i core [] in
    let none : kept_of line (set_of c.shards line sets) ≡ None = none_from (kept_of line (set_of c.shards line sets)) out in
    elim (cases_lt core (length c.l1i)) as (λ _. is_some (kept_of line (set_of c.shards line (get_or (map (in_set_of c.shards v (without v)) c.l1i) core []))) ≡ false) [
      | inl l ↦ rw (get_or-map (in_set_of c.shards v (without v)) c.l1i core [] [] l, absent_in_set c.shards line v sets none) refl
      | inr l ↦ rw (get_or_past (map (in_set_of c.shards v (without v)) c.l1i) core [] (omega (arith, length-map c.l1i (in_set_of c.shards v (without v))))) refl
    ]

own_others : (change : Letter → Letter) (core line : ℕ) (c : Caches) → letter_at (others_changed change core line c) core line ≡ letter_at c core line
unfolding letter_at others_changed
own_others change core line c =
    let g : ℕ × List (List (ℕ × Letter)) → List (List (ℕ × Letter)) = λ at. cond (eqb at.0 core) at.1 (in_set_of c.shards line (λ copies. with_letter line (change (letter_in line copies)) copies) at.1) in
    let longer : length (enumerate_from 0 c.l1) ≡ length c.l1 = length-enumerate_from 0 c.l1 in
    let sets : get_or (map g (enumerate_from 0 c.l1)) core [] ≡ get_or c.l1 core []
    = elim (cases_lt core (length c.l1)) as (λ _. get_or (map g (enumerate_from 0 c.l1)) core [] ≡ get_or c.l1 core []) [
      | inl l ↦
          let one : get_or (map g (enumerate_from 0 c.l1)) core [] ≡ g (get_or (enumerate_from 0 c.l1) core (0, [])) = get_or-map g (enumerate_from 0 c.l1) core (0, []) [] (omega (arith, longer)) in
          let two : get_or (enumerate_from 0 c.l1) core (0, []) ≡ (0 + core, get_or c.l1 core []) = get_or-enumerate_from 0 c.l1 core (0, []) l in
          one ∙ rw (two, eq-eqb (0 + core) core (omega arith)) refl
      | inr l ↦ rw (get_or_past (map g (enumerate_from 0 c.l1)) core [] (omega (arith, longer, length-map (enumerate_from 0 c.l1) g)), get_or_past c.l1 core [] l) refl
    ] in
    rw sets refl

-- ---- one access
held_after : (write : Bool) (own : Letter) (has : Bool) → is_valid (own_after write own has) ≡ true
held_after true own has = refl
held_after false M has = refl
held_after false E has = refl
held_after false S has = refl
held_after false I true = refl
held_after false I false = refl

pub room_fits : (victim : Option (ℕ × Bool)) (c : Caches) → Fits c → Fits (copies_evicted victim c)
room_fits None c f = f
room_fits (Some victim) c f = instructions_fit victim.0 (recalled victim.0 c) (recalled_fits victim.0 c f)

room_own : (victim : Option (ℕ × Bool)) (core line : ℕ) (c : Caches) → Fits c → letter_at c core line ≡ I → letter_at (copies_evicted victim c) core line ≡ I
unfolding letter_at instructions_recalled
room_own None core line c f i = i
room_own (Some victim) core line c f i = own_recalled core line victim.0 c f i

recalled_holds : (core line v : ℕ) (c : Caches) → fetch_holds (recalled v c) core line ≡ fetch_holds c core line
unfolding fetch_holds recalled
recalled_holds core line v c = refl

room_holds : (victim : Option (ℕ × Bool)) (core line : ℕ) (c : Caches) → fetch_holds c core line ≡ false → fetch_holds (copies_evicted victim c) core line ≡ false
room_holds None core line c out = out
room_holds (Some victim) core line c out = instructions_absent core line victim.0 (recalled victim.0 c) (recalled_holds core line victim.0 c ∙ out)

room_l2 : (victim : Option (ℕ × Bool)) (line : ℕ) (c : Caches) → dirty_at (copies_evicted victim c) line ≡ dirty_at c line
unfolding dirty_at recalled instructions_recalled
room_l2 None line c = refl
room_l2 (Some victim) line c = refl

fetched_own : (core line : ℕ) (c : Caches) → letter_at (filled_into_l2 line c) core line ≡ letter_at c core line
unfolding letter_at filled_into_l2
fetched_own core line c = refl

looked_own : (core line : ℕ) (c : Caches) → letter_at (looked_up line c) core line ≡ letter_at c core line
unfolding letter_at looked_up
looked_own core line c = refl

pub dirtied : (b : Bool) (line : ℕ) (c : Caches) → Fits c → Fits (cond b (marked_dirty line c) c)
dirtied true line c f = marked_fits line c f
dirtied false line c f = f

dirtied_own : (b : Bool) (core line : ℕ) (c : Caches) → letter_at (cond b (marked_dirty line c) c) core line ≡ letter_at c core line
unfolding letter_at marked_dirty
dirtied_own true core line c = refl
dirtied_own false core line c = refl

miss_fits : (core line : ℕ) (letter : Letter) (c : Caches) → is_valid letter ≡ true → letter_at c core line ≡ I → is_some (dirty_at c line) ≡ false → Fits c
    → Fits (filled_into_l1 core line letter (filled_into_l2 line (copies_evicted (l2_victim c line) c)))
miss_fits core line letter c k i out f =
    let made : Caches = copies_evicted (l2_victim c line) c in
    let none : dirty_at made line ≡ None = room_l2 (l2_victim c line) line c ∙ none_from (dirty_at c line) out in
    taken_fits core line letter (filled_into_l2 line made) k (fetched_own core line made ∙ room_own (l2_victim c line) core line c f i)
    (fetched_fits line made none (room_fits (l2_victim c line) c f))

found_fits : (core line : ℕ) (letter : Letter) (write : Bool) (c : Caches) → is_valid letter ≡ true → letter_at c core line ≡ I → Fits c
    → Fits (filled_into_l1 core line letter (others_changed (other_after write) core line (cond (some_other is_modified (looked_up line c) core line) (marked_dirty line (looked_up line c)) (looked_up line c))))
found_fits core line letter write c k i f =
    let b : Bool = some_other is_modified (looked_up line c) core line in
    let d : Caches = cond b (marked_dirty line (looked_up line c)) (looked_up line c) in
    taken_fits core line letter (others_changed (other_after write) core line d) k
    (own_others (other_after write) core line d ∙ (dirtied_own b core line (looked_up line c) ∙ (looked_own core line c ∙ i)))
    (others_fits (other_after write) core line d (dirtied b line (looked_up line c) (looked_fits line c f)))

steps_fit : (c : Caches) → Fits c → (core line : ℕ) (own : Letter) → letter_at c core line ≡ own → (write in_l2 alone has dirty : Bool) → is_some (dirty_at c line) ≡ in_l2
    → Fits (on_own own core line (own_after write own has) (on_others (outcome_by write own in_l2 alone has dirty) write core line (on_l2 (outcome_by write own in_l2 alone has dirty) line c)))
steps_fit c f core line M e true in_l2 alone has dirty i = first_fits core line M c refl (rw e refl) f
steps_fit c f core line M e false in_l2 alone has dirty i = first_fits core line M c refl (rw e refl) f
steps_fit c f core line E e true in_l2 alone has dirty i = first_fits core line M c refl (rw e refl) f
steps_fit c f core line E e false in_l2 alone has dirty i = first_fits core line E c refl (rw e refl) f
steps_fit c f core line S e true in_l2 alone has dirty i =
    let d : Caches = looked_up line c in
    first_fits core line M (others_changed (other_after true) core line d) refl (rw (own_others (other_after true) core line d, looked_own core line c, e) refl) (others_fits (other_after true) core line d (looked_fits line c f))
steps_fit c f core line S e false in_l2 alone has dirty i = first_fits core line S c refl (rw e refl) f
steps_fit c f core line I e true true alone has dirty i = found_fits core line M true c refl e f
steps_fit c f core line I e true false alone has dirty i = miss_fits core line M c refl e i f
steps_fit c f core line I e false true alone has dirty i = found_fits core line (own_after false I has) false c (held_after false I has) e f
steps_fit c f core line I e false false alone has dirty i = miss_fits core line (own_after false I has) c (held_after false I has) e i f

read_fits : (c : Caches) (core line : ℕ) (write : Bool) → Fits c → Fits (after_at c core line write)
read_fits c core line write f =
    steps_fit c f core line (letter_at c core line) refl write (is_some (dirty_at c line))
    (some_other is_alone c core line) (some_other is_valid c core line) (is_dirty_victim c (l2_victim c line)) refl

fetched_holds : (core line : ℕ) (c : Caches) → fetch_holds (filled_into_l2 line c) core line ≡ fetch_holds c core line
unfolding fetch_holds filled_into_l2
fetched_holds core line c = refl

looked_holds : (core line : ℕ) (c : Caches) → fetch_holds (looked_up line c) core line ≡ fetch_holds c core line
unfolding fetch_holds looked_up
looked_holds core line c = refl

fetch_steps_fit : (c : Caches) → Fits c → (core line : ℕ) (held : Bool) → fetch_holds c core line ≡ held → (in_l2 dirty : Bool) → is_some (dirty_at c line) ≡ in_l2
    → Fits (on_l1i held core line (on_l2 (fetch_outcome_by held in_l2 dirty) line c))
fetch_steps_fit c f core line true e in_l2 dirty i = on_l1i_fits true core line c (λ k. absurd cc) f
fetch_steps_fit c f core line false e true dirty i = on_l1i_fits false core line (looked_up line c) (λ _. looked_holds core line c ∙ e) (looked_fits line c f)
fetch_steps_fit c f core line false e false dirty i =
    let made : Caches = copies_evicted (l2_victim c line) c in
    let none : dirty_at made line ≡ None = room_l2 (l2_victim c line) line c ∙ none_from (dirty_at c line) i in
    on_l1i_fits false core line (filled_into_l2 line made) (λ _. fetched_holds core line made ∙ room_holds (l2_victim c line) core line c e)
    (fetched_fits line made none (room_fits (l2_victim c line) c f))

fetch_fits : (c : Caches) (core line : ℕ) → Fits c → Fits (after_fetch_at c core line)
fetch_fits c core line f =
    fetch_steps_fit c f core line (fetch_holds c core line) refl (is_some (dirty_at c line)) (is_dirty_victim c (l2_victim c line)) refl

pub access_fits : (c : Caches) (core : ℕ) (request : Request) → Fits c → Fits (caches_after c core request)
unfolding caches_after
access_fits c core request f =
    let line : ℕ = line_of request in
    elim (is_fetch request) as (λ b. Fits (cond b (after_fetch_at c core line) (after_at c core line (is_write request))))
    [ true ↦ fetch_fits c core line f | false ↦ read_fits c core line (is_write request) f ]

pub accesses_fit : (accesses : List (ℕ × Request)) (c : Caches) → Fits c → Fits (caches_after_all c accesses)
accesses_fit [] c f = f
accesses_fit (access ∷ accesses) c f = accesses_fit accesses (caches_after c access.0 access.1) (access_fits c access.0 access.1 f)

pub empty_fit : (cores shards l1_sets l1_ways fetchers l1i_sets l1i_ways l2_sets l2_ways : ℕ) → Fits (empty_caches cores shards l1_sets l1_ways fetchers l1i_sets l1i_ways l2_sets l2_ways)
empty_fit cores shards l1_sets l1_ways fetchers l1i_sets l1i_ways l2_sets l2_ways = record {
  l1 = All-replicate (All (IsL1 l1_ways)) cores (replicate l1_sets []) (All-replicate (IsL1 l1_ways) l1_sets [] (l1_nil l1_ways));
  l1i = All-replicate (All (IsSet l1i_ways)) fetchers (replicate l1i_sets []) (All-replicate (IsSet l1i_ways) l1i_sets [] (set_nil l1i_ways));
  l2 = All-replicate (IsSet l2_ways) l2_sets [] (set_nil l2_ways);
}
