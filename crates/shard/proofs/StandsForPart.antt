-- The caches of a whole machine and those of one shard, of which the latter are a part: what is read of the shard's
-- lines is the same.
use Rattle.std.proofs.Common.{◌≡◌, ℕ, zero, suc, ◌+◌, ◌/◌, ◌%◌, ◌<◌, Bool, true, false, cond, eqb, not, ◌&&◌, List, [], length, get_or, Option, Some, None, is_some, refl, ap, ◌∙◌, subst}
use Rattle.std.specs.List.{list_any, range_with_len}
use Rattle.zs_num.specs.Request.{is_fetch, line_of}
use Rattle.zs_num.specs.declared.request.Request.{Request}
use Rattle.cache_set.specs.declared.letter.Letter.{Letter}
use Rattle.cache_set.specs.Ways.{kept_of}
use Rattle.shard.specs.Coherence.{Caches, dirty_at, fetch_holds, fetch_met_at, fetch_outcome_by, is_alone, is_dirty_victim, is_valid, is_modified, is_write, l2_victim, letter_at, letter_in, met_at, outcome_by, outcome_of, own_victim, some_core, some_other}
use Rattle.cache_set.specs.Lines.{set_of, set_number}
use Rattle.shard.proofs.CoherentLetters.{at_victim}
use Rattle.shard.proofs.CoherentPlaced.{Placed}
use Rattle.shard.proofs.CoherentStand.{stand_all}
use Rattle.shard.proofs.StandsForSets.{Agree, same_rest}

pub record Part (n number : ℕ) (c d : Caches) : Type 0 where
  pub whole : c.shards ≡ 1
  pub count : d.shards ≡ n
  pub l1_ways : d.l1_ways ≡ c.l1_ways
  pub l1i_ways : d.l1i_ways ≡ c.l1i_ways
  pub l2_ways : d.l2_ways ≡ c.l2_ways
  pub cores : length d.l1 ≡ length c.l1
  pub fetchers : length d.l1i ≡ length c.l1i
  pub l1 : (core : ℕ) → Agree n number (get_or c.l1 core []) (get_or d.l1 core [])
  pub l1i : (core : ℕ) → Agree n number (get_or c.l1i core []) (get_or d.l1i core [])
  pub l2 : Agree n number c.l2 d.l2

list_any_same : (p q : ℕ → Bool) → ((i : ℕ) → p i ≡ q i) → (a n : ℕ) → list_any p (range_with_len a n) ≡ list_any q (range_with_len a n)
list_any_same p q h a zero = refl
list_any_same p q h a (suc n) = rw (h a, list_any_same p q h (a + 1) n) refl

module _ (n number : ℕ) (c d : Caches) (p : Part n number c d) (line : ℕ) (is : line % n ≡ number) where
  copies_same : (core : ℕ) → set_of c.shards line (get_or c.l1 core []) ≡ set_of d.shards line (get_or d.l1 core [])
  copies_same core = rw (p.whole, p.count) ((p.l1 core).same line is)

  pub instructions_same : (core : ℕ) → set_of c.shards line (get_or c.l1i core []) ≡ set_of d.shards line (get_or d.l1i core [])
  instructions_same core = rw (p.whole, p.count) ((p.l1i core).same line is)

  lines_same : set_of c.shards line c.l2 ≡ set_of d.shards line d.l2
  lines_same = rw (p.whole, p.count) (p.l2.same line is)

  pub letter_same : (core : ℕ) → letter_at c core line ≡ letter_at d core line
  unfolding letter_at
  letter_same core = ap (letter_in line) (copies_same core)

  pub holds_same : (core : ℕ) → fetch_holds c core line ≡ fetch_holds d core line
  unfolding fetch_holds
  holds_same core = ap (λ (s : List (ℕ × Unit {0})). is_some (kept_of line s)) (instructions_same core)

  pub dirty_same : dirty_at c line ≡ dirty_at d line
  unfolding dirty_at
  dirty_same = ap (λ (s : List (ℕ × Bool)). kept_of line s) lines_same

  pub own_victim_same : (core : ℕ) → own_victim c core line ≡ own_victim d core line
  own_victim_same core = rw (p.l1_ways, copies_same core) refl

  pub l2_victim_same : l2_victim c line ≡ l2_victim d line
  l2_victim_same = rw (p.l2_ways, lines_same) refl

  pub some_core_same : (test : Letter → Bool) → some_core test c line ≡ some_core test d line
  some_core_same test =
      rw (p.cores) (list_any_same (λ core. test (letter_at c core line)) (λ core. test (letter_at d core line)) (λ core. ap test (letter_same core)) 0 (length c.l1))

  pub some_other_same : (test : Letter → Bool) (core : ℕ) → some_other test c core line ≡ some_other test d core line
  some_other_same test core =
      rw (p.cores) (list_any_same (λ other. not (eqb other core) && test (letter_at c other line)) (λ other. not (eqb other core) && test (letter_at d other line))
      (λ other. ap (λ (l : Letter). not (eqb other core) && test l) (letter_same other)) 0 (length c.l1))

  -- a line that is evicted is the shard's as well
  pub l2_victim_number : 0 < n → Placed c → (w : ℕ × Bool) → l2_victim c line ≡ Some w → w.0 % n ≡ number
  l2_victim_number some placed w e =
      let k : ℕ = set_number c.shards line c.l2 in
      let at : w.0 / c.shards % length c.l2 ≡ k
      = at_victim (λ (way : ℕ × Bool). way.0 / c.shards % length c.l2 ≡ k) c.l2_ways (get_or c.l2 k []) w (stand_all c.shards (length c.l2) k (get_or c.l2 k []) (placed.l2.each k)) e in
      same_rest n (length d.l2) (length c.l2) some p.l2.many w.0 line (subst (λ (x : ℕ). w.0 / x % length c.l2 ≡ line / x % length c.l2) (p.whole) at) ∙ is

  pub own_victim_number : 0 < n → Placed c → (core : ℕ) (w : ℕ × Letter) → own_victim c core line ≡ Some w → w.0 % n ≡ number
  own_victim_number some placed core w e =
      let sets : List (List (ℕ × Letter)) = get_or c.l1 core [] in
      let k : ℕ = set_number c.shards line sets in
      let at : w.0 / c.shards % length sets ≡ k
      = at_victim (λ (way : ℕ × Letter). way.0 / c.shards % length sets ≡ k) c.l1_ways (get_or sets k []) w (stand_all c.shards (length sets) k (get_or sets k []) ((placed.l1 core).each k)) e in
      same_rest n (length (get_or d.l1 core [])) (length sets) some (p.l1 core).many w.0 line (subst (λ (x : ℕ). w.0 / x % length sets ≡ line / x % length sets) (p.whole) at) ∙ is

dirty_victim_same : (n number : ℕ) (c d : Caches) → Part n number c d → (o : Option (ℕ × Bool)) → ((w : ℕ × Bool) → o ≡ Some w → w.0 % n ≡ number) → is_dirty_victim c o ≡ is_dirty_victim d o
dirty_victim_same n number c d p None h = refl
dirty_victim_same n number c d p (Some w) h = rw (some_core_same n number c d p w.0 (h w refl) is_modified) refl

-- what an access to a line of the shard meets
module _ (n number : ℕ) (c d : Caches) (p : Part n number c d) (some : 0 < n) (placed : Placed c) (line : ℕ) (is : line % n ≡ number) where
  victim_same : is_dirty_victim c (l2_victim c line) ≡ is_dirty_victim d (l2_victim d line)
  victim_same =
      dirty_victim_same n number c d p (l2_victim c line) (l2_victim_number n number c d p line is some placed) ∙ ap (is_dirty_victim d) (l2_victim_same n number c d p line is)

  pub met_same : (core : ℕ) (write : Bool) → met_at c core line write ≡ met_at d core line write
  met_same core write =
      ap (λ (own : Letter). outcome_by write own (is_some (dirty_at c line)) (some_other is_alone c core line) (some_other is_valid c core line) (is_dirty_victim c (l2_victim c line))) (letter_same n number c d p line is core)
      ∙ (ap (λ (there : Option Bool). outcome_by write (letter_at d core line) (is_some there) (some_other is_alone c core line) (some_other is_valid c core line) (is_dirty_victim c (l2_victim c line))) (dirty_same n number c d p line is)
      ∙ (ap (λ (alone : Bool). outcome_by write (letter_at d core line) (is_some (dirty_at d line)) alone (some_other is_valid c core line) (is_dirty_victim c (l2_victim c line))) (some_other_same n number c d p line is is_alone core)
      ∙ (ap (λ (has : Bool). outcome_by write (letter_at d core line) (is_some (dirty_at d line)) (some_other is_alone d core line) has (is_dirty_victim c (l2_victim c line))) (some_other_same n number c d p line is is_valid core)
      ∙ ap (λ (dirty : Bool). outcome_by write (letter_at d core line) (is_some (dirty_at d line)) (some_other is_alone d core line) (some_other is_valid d core line) dirty) victim_same)))

  pub fetch_met_same : (core : ℕ) → fetch_met_at c core line ≡ fetch_met_at d core line
  fetch_met_same core =
      ap (λ (held : Bool). fetch_outcome_by held (is_some (dirty_at c line)) (is_dirty_victim c (l2_victim c line))) (holds_same n number c d p line is core)
      ∙ (ap (λ (there : Option Bool). fetch_outcome_by (fetch_holds d core line) (is_some there) (is_dirty_victim c (l2_victim c line))) (dirty_same n number c d p line is)
      ∙ ap (λ (dirty : Bool). fetch_outcome_by (fetch_holds d core line) (is_some (dirty_at d line)) dirty) victim_same)

pub outcome_same : (n number : ℕ) (c d : Caches) → Part n number c d → 0 < n → Placed c → (core : ℕ) (request : Request) → line_of request % n ≡ number → outcome_of c core request ≡ outcome_of d core request
unfolding outcome_of
outcome_same n number c d p some placed core request is =
    let line : ℕ = line_of request in
    let write : Bool = is_write request in
    elim (is_fetch request) as (λ (b : Bool). cond b (fetch_met_at c core line) (met_at c core line write) ≡ cond b (fetch_met_at d core line) (met_at d core line write)) [
      | true ↦ fetch_met_same n number c d p some placed line is core
      | false ↦ met_same n number c d p some placed line is core write
    ]
