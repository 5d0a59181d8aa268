-- After each step of an access to a line of a shard, the shard's caches are again a part of those of the whole machine.
use Rattle.std.proofs.Common.{◌≡◌, ℕ, ◌%◌, ◌<◌, Bool, true, false, cond, eqb, List, [], ◌∷◌, length, get_or, map, set, Option, Some, None, refl, sym, ◌∙◌, subst}
use Rattle.std.specs.List.{enumerate_from}
use Rattle.std.proofs.lemmas.List.{length-map, length-set}
use Rattle.std.proofs.lemmas.List.FromFn.{length-enumerate_from}
use Rattle.zs_num.specs.Request.{is_fetch, line_of}
use Rattle.zs_num.specs.declared.entry.Outcome.{Outcome}
use Rattle.zs_num.specs.declared.entry.Outcome.TheVariants.{Hit, Upgrade, L2, Miss}
use Rattle.zs_num.specs.declared.request.Request.{Request}
use Rattle.cache_set.specs.declared.letter.Letter.{Letter}
use Rattle.cache_set.specs.declared.letter.Letter.TheVariants.{M, E, S, I}
use Rattle.cache_set.specs.Ways.{without, used, filled, changed}
use Rattle.shard.specs.Coherence.{Caches, after_at, after_fetch_at, caches_after, fetch_holds, fetch_met_at, filled_into_l1i, in_l1i_set_of, in_own_set_of, instructions_recalled, is_valid, is_modified, is_write, kept_first, l2_victim, letter_at, letter_in, looked_up, marked_dirty, met_at, on_l1i, on_l2, on_others, on_own, other_after, others_changed, own_after, own_victim, recalled, copies_evicted, some_other, filled_into_l1, filled_into_l2, used_in_l1i, with_letter, written_back}
use Rattle.cache_set.specs.Lines.{in_set_of}
use Rattle.shard.proofs.CoherentLists.{both_set, mapped_at, numbered_at}
use Rattle.shard.proofs.CoherentPlaced.{Keeps, Placed, if_other, l2_step, none_other, others_step}
use Rattle.shard.proofs.StandsForPart.{Part, fetch_met_same, holds_same, l2_victim_number, l2_victim_same, letter_same, met_same, own_victim_number, own_victim_same, some_other_same}
use Rattle.shard.proofs.StandsForSets.{Agree, agree_step}

module _ (n number : ℕ) (some : 0 < n) where
  l2_part : (c d : Caches) (s t : List (List (ℕ × Bool))) → Part n number c d → Agree n number s t → Part n number (record c { l2 = s }) (record d { l2 = t })
  l2_part c d s t p a = record {
    whole = p.whole;
    count = p.count;
    l1_ways = p.l1_ways;
    l1i_ways = p.l1i_ways;
    l2_ways = p.l2_ways;
    cores = p.cores;
    fetchers = p.fetchers;
    l1 = p.l1;
    l1i = p.l1i;
    l2 = a;
  }

  l1_part : (c d : Caches) (s t : List (List (List (ℕ × Letter)))) → Part n number c d → length t ≡ length s → ((core : ℕ) → Agree n number (get_or s core []) (get_or t core [])) → Part n number (record c { l1 = s }) (record d { l1 = t })
  l1_part c d s t p long a = record {
    whole = p.whole;
    count = p.count;
    l1_ways = p.l1_ways;
    l1i_ways = p.l1i_ways;
    l2_ways = p.l2_ways;
    cores = long;
    fetchers = p.fetchers;
    l1 = a;
    l1i = p.l1i;
    l2 = p.l2;
  }

  l1i_part : (c d : Caches) (s t : List (List (List (ℕ × Unit {0})))) → Part n number c d → length t ≡ length s → ((core : ℕ) → Agree n number (get_or s core []) (get_or t core [])) → Part n number (record c { l1i = s }) (record d { l1i = t })
  l1i_part c d s t p long a = record {
    whole = p.whole;
    count = p.count;
    l1_ways = p.l1_ways;
    l1i_ways = p.l1i_ways;
    l2_ways = p.l2_ways;
    cores = p.cores;
    fetchers = long;
    l1 = p.l1;
    l1i = a;
    l2 = p.l2;
  }

  -- ---- each step, for a line of the shard
  module _ (line : ℕ) (is : line % n ≡ number) (c d : Caches) (p : Part n number c d) where
    recalled_part : Part n number (recalled line c) (recalled line d)
    unfolding recalled
    recalled_part =
        let f : List (List (ℕ × Letter)) → List (List (ℕ × Letter)) = in_set_of c.shards line (without line) in
        let g : List (List (ℕ × Letter)) → List (List (ℕ × Letter)) = in_set_of d.shards line (without line) in
        l1_part c d (map f c.l1) (map g d.l1) p (length-map d.l1 g ∙ (p.cores ∙ sym (length-map c.l1 f)))
        (λ core. rw (mapped_at f c.l1 core refl, mapped_at g d.l1 core refl) (agree_step n number some c.shards d.shards p.whole p.count (get_or c.l1 core []) (get_or d.l1 core []) (without line) line is (p.l1 core)))

    instructions_part : Part n number (instructions_recalled line c) (instructions_recalled line d)
    unfolding instructions_recalled
    instructions_part =
        let f : List (List (ℕ × Unit {0})) → List (List (ℕ × Unit {0})) = in_set_of c.shards line (without line) in
        let g : List (List (ℕ × Unit {0})) → List (List (ℕ × Unit {0})) = in_set_of d.shards line (without line) in
        l1i_part c d (map f c.l1i) (map g d.l1i) p (length-map d.l1i g ∙ (p.fetchers ∙ sym (length-map c.l1i f)))
        (λ core. rw (mapped_at f c.l1i core refl, mapped_at g d.l1i core refl) (agree_step n number some c.shards d.shards p.whole p.count (get_or c.l1i core []) (get_or d.l1i core []) (without line) line is (p.l1i core)))

    marked_part : Part n number (marked_dirty line c) (marked_dirty line d)
    unfolding marked_dirty
    marked_part =
        l2_part c d (in_set_of c.shards line (changed line true) c.l2) (in_set_of d.shards line (changed line true) d.l2) p
        (agree_step n number some c.shards d.shards p.whole p.count c.l2 d.l2 (changed line true) line is p.l2)

    looked_part : Part n number (looked_up line c) (looked_up line d)
    unfolding looked_up
    looked_part =
        l2_part c d (in_set_of c.shards line (used line) c.l2) (in_set_of d.shards line (used line) d.l2) p
        (agree_step n number some c.shards d.shards p.whole p.count c.l2 d.l2 (used line) line is p.l2)

    fetched_part : Part n number (filled_into_l2 line c) (filled_into_l2 line d)
    unfolding filled_into_l2
    fetched_part =
        l2_part c d (in_set_of c.shards line (filled c.l2_ways line false) c.l2) (in_set_of d.shards line (filled d.l2_ways line false) d.l2) p
        (subst (λ (ways : ℕ). Agree n number (in_set_of c.shards line (filled c.l2_ways line false) c.l2) (in_set_of d.shards line (filled ways line false) d.l2)) (sym p.l2_ways)
        (agree_step n number some c.shards d.shards p.whole p.count c.l2 d.l2 (filled c.l2_ways line false) line is p.l2))

    others_part : (change : Letter → Letter) (core : ℕ) → Part n number (others_changed change core line c) (others_changed change core line d)
    unfolding others_changed
    others_part change core =
        let f : ℕ × List (List (ℕ × Letter)) → List (List (ℕ × Letter)) = if_other change core line c.shards in
        let g : ℕ × List (List (ℕ × Letter)) → List (List (ℕ × Letter)) = if_other change core line d.shards in
        let copied : List (ℕ × Letter) → List (ℕ × Letter) = λ copies. with_letter line (change (letter_in line copies)) copies in
        l1_part c d (map f (enumerate_from 0 c.l1)) (map g (enumerate_from 0 d.l1)) p
        (length-map (enumerate_from 0 d.l1) g ∙ (length-enumerate_from 0 d.l1 ∙ (p.cores ∙ sym (length-map (enumerate_from 0 c.l1) f ∙ length-enumerate_from 0 c.l1))))
        (λ other. rw (numbered_at f c.l1 other (none_other change core line c.shards other), numbered_at g d.l1 other (none_other change core line d.shards other))
        (elim (eqb other core) as (λ b. Agree n number (cond b (get_or c.l1 other []) (in_set_of c.shards line copied (get_or c.l1 other []))) (cond b (get_or d.l1 other []) (in_set_of d.shards line copied (get_or d.l1 other [])))) [
          | true ↦ p.l1 other
          | false ↦ agree_step n number some c.shards d.shards p.whole p.count (get_or c.l1 other []) (get_or d.l1 other []) copied line is (p.l1 other)
        ]))

    own_part : (core : ℕ) (change : List (ℕ × Letter) → List (ℕ × Letter)) → Part n number (in_own_set_of core line change c) (in_own_set_of core line change d)
    own_part core change =
        let v : List (List (ℕ × Letter)) = in_set_of c.shards line change (get_or c.l1 core []) in
        let w : List (List (ℕ × Letter)) = in_set_of d.shards line change (get_or d.l1 core []) in
        l1_part c d (set c.l1 core v) (set d.l1 core w) p (length-set d.l1 core w ∙ (p.cores ∙ sym (length-set c.l1 core v)))
        (λ other. both_set (Agree n number) c.l1 d.l1 p.cores core v w other
        (agree_step n number some c.shards d.shards p.whole p.count (get_or c.l1 core []) (get_or d.l1 core []) change line is (p.l1 core)) (p.l1 other))

    first_part : (core : ℕ) (letter : Letter) → Part n number (kept_first core line letter c) (kept_first core line letter d)
    unfolding kept_first
    first_part core letter = own_part core (λ copies. (line, letter) ∷ without line copies)

    own_l1i_part : (core : ℕ) (change : List (ℕ × Unit {0}) → List (ℕ × Unit {0})) → Part n number (in_l1i_set_of core line change c) (in_l1i_set_of core line change d)
    own_l1i_part core change =
        let v : List (List (ℕ × Unit {0})) = in_set_of c.shards line change (get_or c.l1i core []) in
        let w : List (List (ℕ × Unit {0})) = in_set_of d.shards line change (get_or d.l1i core []) in
        l1i_part c d (set c.l1i core v) (set d.l1i core w) p (length-set d.l1i core w ∙ (p.fetchers ∙ sym (length-set c.l1i core v)))
        (λ other. both_set (Agree n number) c.l1i d.l1i p.fetchers core v w other
        (agree_step n number some c.shards d.shards p.whole p.count (get_or c.l1i core []) (get_or d.l1i core []) change line is (p.l1i core)) (p.l1i other))

    on_l1i_part : (held : Bool) (core : ℕ) → Part n number (on_l1i held core line c) (on_l1i held core line d)
    unfolding used_in_l1i filled_into_l1i
    on_l1i_part true core = own_l1i_part core (used line)
    on_l1i_part false core =
        subst (λ (ways : ℕ). Part n number (in_l1i_set_of core line (filled c.l1i_ways line tt) c) (in_l1i_set_of core line (filled ways line tt) d)) (sym p.l1i_ways)
        (own_l1i_part core (filled c.l1i_ways line tt))

  -- ---- steps that evict a line
  back_part : (c d : Caches) → Part n number c d → (victim : Option (ℕ × Letter)) → ((w : ℕ × Letter) → victim ≡ Some w → w.0 % n ≡ number) → Part n number (written_back victim c) (written_back victim d)
  back_part c d p None h = p
  back_part c d p (Some w) h =
      elim (is_modified w.1) as (λ b. Part n number (cond b (marked_dirty w.0 c) c) (cond b (marked_dirty w.0 d) d))
      [ true ↦ marked_part w.0 (h w refl) c d p | false ↦ p ]

  room_part : (c d : Caches) → Part n number c d → (victim : Option (ℕ × Bool)) → ((w : ℕ × Bool) → victim ≡ Some w → w.0 % n ≡ number) → Part n number (copies_evicted victim c) (copies_evicted victim d)
  room_part c d p None h = p
  room_part c d p (Some w) h = instructions_part w.0 (h w refl) (recalled w.0 c) (recalled w.0 d) (recalled_part w.0 (h w refl) c d p)

  dirtied_part : (line : ℕ) → line % n ≡ number → (c d : Caches) → Part n number c d → (b : Bool) → Part n number (cond b (marked_dirty line c) c) (cond b (marked_dirty line d) d)
  dirtied_part line is c d p true = marked_part line is c d p
  dirtied_part line is c d p false = p

  module _ (line : ℕ) (is : line % n ≡ number) where
    taken_part : (c d : Caches) → Part n number c d → Placed c → (core : ℕ) (letter : Letter) → Part n number (filled_into_l1 core line letter c) (filled_into_l1 core line letter d)
    unfolding filled_into_l1
    taken_part c d p placed core letter =
        let victim : Option (ℕ × Letter) = own_victim c core line in
        let back : Part n number (written_back victim c) (written_back victim d) = back_part c d p victim (own_victim_number n number c d p line is some placed core) in
        let whole : Caches = in_own_set_of core line (filled c.l1_ways line letter) (written_back victim c) in
        let own : Part n number whole (in_own_set_of core line (filled c.l1_ways line letter) (written_back victim d)) = own_part line is (written_back victim c) (written_back victim d) back core (filled c.l1_ways line letter) in
        subst (λ (v : Option (ℕ × Letter)). Part n number whole (in_own_set_of core line (filled d.l1_ways line letter) (written_back v d))) (own_victim_same n number c d p line is core)
        (subst (λ (ways : ℕ). Part n number whole (in_own_set_of core line (filled ways line letter) (written_back victim d))) (sym p.l1_ways) own)

    pub on_l2_part : (c d : Caches) → Part n number c d → Placed c → (outcome : Outcome) → Part n number (on_l2 outcome line c) (on_l2 outcome line d)
    on_l2_part c d p placed Hit = p
    on_l2_part c d p placed (Upgrade others) = looked_part line is c d p
    on_l2_part c d p placed (L2 others) = looked_part line is c d p
    on_l2_part c d p placed (Miss dirty) =
        let victim : Option (ℕ × Bool) = l2_victim c line in
        let made : Part n number (copies_evicted victim c) (copies_evicted victim d) = room_part c d p victim (l2_victim_number n number c d p line is some placed) in
        subst (λ (v : Option (ℕ × Bool)). Part n number (filled_into_l2 line (copies_evicted victim c)) (filled_into_l2 line (copies_evicted v d))) (l2_victim_same n number c d p line is)
        (fetched_part line is (copies_evicted victim c) (copies_evicted victim d) made)

    pub on_others_part : (c d : Caches) → Part n number c d → (outcome : Outcome) (write : Bool) (core : ℕ) → Part n number (on_others outcome write core line c) (on_others outcome write core line d)
    on_others_part c d p Hit write core = p
    on_others_part c d p (Upgrade others) write core = others_part line is c d p (other_after write) core
    on_others_part c d p (L2 others) write core =
        let b : Bool = some_other is_modified c core line in
        let dirtied : Part n number (cond b (marked_dirty line c) c) (cond b (marked_dirty line d) d) = dirtied_part line is c d p b in
        subst (λ (t : Bool). Part n number (others_changed (other_after write) core line (cond b (marked_dirty line c) c)) (others_changed (other_after write) core line (cond t (marked_dirty line d) d))) (some_other_same n number c d p line is is_modified core)
        (others_part line is (cond b (marked_dirty line c) c) (cond b (marked_dirty line d) d) dirtied (other_after write) core)
    on_others_part c d p (Miss dirty) write core = p

    on_own_part : (c d : Caches) → Part n number c d → Placed c → (own : Letter) (core : ℕ) (letter : Letter) → Part n number (on_own own core line letter c) (on_own own core line letter d)
    on_own_part c d p placed M core letter = first_part line is c d p core letter
    on_own_part c d p placed E core letter = first_part line is c d p core letter
    on_own_part c d p placed S core letter = first_part line is c d p core letter
    on_own_part c d p placed I core letter = taken_part c d p placed core letter

  -- ---- one access
  abbrev steps : (own letter : Letter) → Outcome → (write : Bool) (core line : ℕ) → Caches → Caches
  steps own letter outcome write core line c = on_own own core line letter (on_others outcome write core line (on_l2 outcome line c))

  module _ (c d : Caches) (p : Part n number c d) (placed : Placed c) (core line : ℕ) (is : line % n ≡ number) where
    data_part : (write : Bool) → Part n number (after_at c core line write) (after_at d core line write)
    data_part write =
        let own : Letter = letter_at c core line in
        let outcome : Outcome = met_at c core line write in
        let has : Bool = some_other is_valid c core line in
        let letter : Letter = own_after write own has in
        let first : Part n number (on_l2 outcome line c) (on_l2 outcome line d) = on_l2_part line is c d p placed outcome in
        let second : Part n number (on_others outcome write core line (on_l2 outcome line c)) (on_others outcome write core line (on_l2 outcome line d))
        = on_others_part line is (on_l2 outcome line c) (on_l2 outcome line d) first outcome write core in
        let l2_keeps : Keeps c (on_l2 outcome line c) = l2_step outcome line c in
        let others_keep : Keeps (on_l2 outcome line c) (on_others outcome write core line (on_l2 outcome line c)) = others_step outcome write core line (on_l2 outcome line c) in
        let whole : Caches = steps own letter outcome write core line c in
        let third : Part n number whole (steps own letter outcome write core line d)
        = on_own_part line is (on_others outcome write core line (on_l2 outcome line c)) (on_others outcome write core line (on_l2 outcome line d)) second (others_keep.placed (l2_keeps.placed placed)) own core letter in
        subst (λ (o : Outcome). Part n number whole (steps (letter_at d core line) (own_after write (letter_at d core line) (some_other is_valid d core line)) o write core line d)) (met_same n number c d p some placed line is core write)
        (subst (λ (b : Bool). Part n number whole (steps (letter_at d core line) (own_after write (letter_at d core line) b) outcome write core line d)) (some_other_same n number c d p line is is_valid core)
        (subst (λ (x : Letter). Part n number whole (steps x (own_after write x has) outcome write core line d)) (letter_same n number c d p line is core) third))

    fetch_part : Part n number (after_fetch_at c core line) (after_fetch_at d core line)
    fetch_part =
        let held : Bool = fetch_holds c core line in
        let outcome : Outcome = fetch_met_at c core line in
        let whole : Caches = on_l1i held core line (on_l2 outcome line c) in
        let first : Part n number (on_l2 outcome line c) (on_l2 outcome line d) = on_l2_part line is c d p placed outcome in
        let second : Part n number whole (on_l1i held core line (on_l2 outcome line d)) = on_l1i_part line is (on_l2 outcome line c) (on_l2 outcome line d) first held core in
        subst (λ (o : Outcome). Part n number whole (on_l1i (fetch_holds d core line) core line (on_l2 o line d))) (fetch_met_same n number c d p some placed line is core)
        (subst (λ (b : Bool). Part n number whole (on_l1i b core line (on_l2 outcome line d))) (holds_same n number c d p line is core) second)

  pub access_part : (c d : Caches) → Part n number c d → Placed c → (core : ℕ) (request : Request) → line_of request % n ≡ number → Part n number (caches_after c core request) (caches_after d core request)
  unfolding caches_after
  access_part c d p placed core request is =
      let line : ℕ = line_of request in
      let write : Bool = is_write request in
      elim (is_fetch request) as (λ (b : Bool). Part n number (cond b (after_fetch_at c core line) (after_at c core line write)) (cond b (after_fetch_at d core line) (after_at d core line write)))
      [ true ↦ fetch_part c d p placed core line is | false ↦ data_part c d p placed core line is write ]
