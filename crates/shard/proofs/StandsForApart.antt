-- After an access to a line of another shard, a shard's caches are still a part of those of the whole machine.
use Rattle.std.proofs.Common.{◌≡◌, ◌≢◌, ℕ, ◌%◌, ◌/◌, ◌<◌, Bool, true, false, cond, eqb, List, [], ◌∷◌, length, get_or, map, set, Option, Some, None, refl, sym, ◌∙◌, subst}
use Rattle.std.specs.List.{enumerate_from}
use Rattle.std.proofs.lemmas.List.{length-map, length-set}
use Rattle.std.proofs.lemmas.List.FromFn.{length-enumerate_from}
use Rattle.zs_num.specs.Request.{is_fetch, line_of}
use Rattle.zs_num.specs.declared.entry.Outcome.{Outcome}
use Rattle.zs_num.specs.declared.entry.Outcome.TheVariants.{Hit, Upgrade, L2, Miss}
use Rattle.zs_num.specs.declared.request.Request.{Request}
use Rattle.cache_set.specs.declared.letter.Letter.{Letter}
use Rattle.cache_set.specs.declared.letter.Letter.TheVariants.{M, E, S, I}
use Rattle.cache_set.specs.Ways.{without, used, filled, changed}
use Rattle.shard.specs.Coherence.{Caches, after_at, after_fetch_at, caches_after, fetch_holds, fetch_met_at, filled_into_l1i, in_l1i_set_of, in_own_set_of, instructions_recalled, is_valid, is_modified, is_write, kept_first, l2_victim, letter_at, letter_in, looked_up, marked_dirty, met_at, on_l1i, on_l2, on_others, on_own, other_after, others_changed, own_after, own_victim, recalled, copies_evicted, some_other, filled_into_l1, filled_into_l2, used_in_l1i, with_letter, written_back}
use Rattle.cache_set.specs.Lines.{in_set_of, set_number}
use Rattle.shard.proofs.CoherentLetters.{at_victim}
use Rattle.shard.proofs.CoherentLists.{mapped_at, numbered_at, set_read}
use Rattle.shard.proofs.CoherentPlaced.{Keeps, Placed, if_other, l2_step, none_other, others_step}
use Rattle.shard.proofs.CoherentStand.{stand_all}
use Rattle.shard.proofs.StandsForPart.{Part}
use Rattle.shard.proofs.StandsForSets.{Agree, apart_step, same_rest}

module _ (n number : ℕ) (some : 0 < n) (d : Caches) where
  l2_apart : (c : Caches) (s : List (List (ℕ × Bool))) → Part n number c d → Agree n number s d.l2 → Part n number (record c { l2 = s }) d
  l2_apart c s p a = record {
    whole = p.whole;
    count = p.count;
    l1_ways = p.l1_ways;
    l1i_ways = p.l1i_ways;
    l2_ways = p.l2_ways;
    cores = p.cores;
    fetchers = p.fetchers;
    l1 = p.l1;
    l1i = p.l1i;
    l2 = a;
  }

  l1_apart : (c : Caches) (s : List (List (List (ℕ × Letter)))) → Part n number c d → length d.l1 ≡ length s → ((core : ℕ) → Agree n number (get_or s core []) (get_or d.l1 core [])) → Part n number (record c { l1 = s }) d
  l1_apart c s p long a = record {
    whole = p.whole;
    count = p.count;
    l1_ways = p.l1_ways;
    l1i_ways = p.l1i_ways;
    l2_ways = p.l2_ways;
    cores = long;
    fetchers = p.fetchers;
    l1 = a;
    l1i = p.l1i;
    l2 = p.l2;
  }

  l1i_apart : (c : Caches) (s : List (List (List (ℕ × Unit {0})))) → Part n number c d → length d.l1i ≡ length s → ((core : ℕ) → Agree n number (get_or s core []) (get_or d.l1i core [])) → Part n number (record c { l1i = s }) d
  l1i_apart c s p long a = record {
    whole = p.whole;
    count = p.count;
    l1_ways = p.l1_ways;
    l1i_ways = p.l1i_ways;
    l2_ways = p.l2_ways;
    cores = p.cores;
    fetchers = long;
    l1 = p.l1;
    l1i = a;
    l2 = p.l2;
  }

  -- ---- each step, for a line of another shard
  module _ (line : ℕ) (other : line % n ≢ number) (c : Caches) (p : Part n number c d) where
    l2_changed : (change : List (ℕ × Bool) → List (ℕ × Bool)) → Part n number (record c { l2 = in_set_of c.shards line change c.l2 }) d
    l2_changed change = l2_apart c (in_set_of c.shards line change c.l2) p (apart_step n number some c.shards p.whole c.l2 d.l2 change line other p.l2)

    recalled_apart : Part n number (recalled line c) d
    unfolding recalled
    recalled_apart =
        let f : List (List (ℕ × Letter)) → List (List (ℕ × Letter)) = in_set_of c.shards line (without line) in
        l1_apart c (map f c.l1) p (p.cores ∙ sym (length-map c.l1 f))
        (λ core. rw (mapped_at f c.l1 core refl) (apart_step n number some c.shards p.whole (get_or c.l1 core []) (get_or d.l1 core []) (without line) line other (p.l1 core)))

    instructions_apart : Part n number (instructions_recalled line c) d
    unfolding instructions_recalled
    instructions_apart =
        let f : List (List (ℕ × Unit {0})) → List (List (ℕ × Unit {0})) = in_set_of c.shards line (without line) in
        l1i_apart c (map f c.l1i) p (p.fetchers ∙ sym (length-map c.l1i f))
        (λ core. rw (mapped_at f c.l1i core refl) (apart_step n number some c.shards p.whole (get_or c.l1i core []) (get_or d.l1i core []) (without line) line other (p.l1i core)))

    marked_apart : Part n number (marked_dirty line c) d
    unfolding marked_dirty
    marked_apart = l2_changed (changed line true)

    looked_apart : Part n number (looked_up line c) d
    unfolding looked_up
    looked_apart = l2_changed (used line)

    fetched_apart : Part n number (filled_into_l2 line c) d
    unfolding filled_into_l2
    fetched_apart = l2_changed (filled c.l2_ways line false)

    others_apart : (change : Letter → Letter) (core : ℕ) → Part n number (others_changed change core line c) d
    unfolding others_changed
    others_apart change core =
        let f : ℕ × List (List (ℕ × Letter)) → List (List (ℕ × Letter)) = if_other change core line c.shards in
        let copied : List (ℕ × Letter) → List (ℕ × Letter) = λ copies. with_letter line (change (letter_in line copies)) copies in
        l1_apart c (map f (enumerate_from 0 c.l1)) p (p.cores ∙ sym (length-map (enumerate_from 0 c.l1) f ∙ length-enumerate_from 0 c.l1))
        (λ a. rw (numbered_at f c.l1 a (none_other change core line c.shards a))
        (elim (eqb a core) as (λ b. Agree n number (cond b (get_or c.l1 a []) (in_set_of c.shards line copied (get_or c.l1 a []))) (get_or d.l1 a [])) [
          | true ↦ p.l1 a
          | false ↦ apart_step n number some c.shards p.whole (get_or c.l1 a []) (get_or d.l1 a []) copied line other (p.l1 a)
        ]))

    own_apart : (core : ℕ) (change : List (ℕ × Letter) → List (ℕ × Letter)) → Part n number (in_own_set_of core line change c) d
    own_apart core change =
        let v : List (List (ℕ × Letter)) = in_set_of c.shards line change (get_or c.l1 core []) in
        l1_apart c (set c.l1 core v) p (p.cores ∙ sym (length-set c.l1 core v))
        (λ a. set_read (λ s. Agree n number s (get_or d.l1 a [])) c.l1 core v a
        (λ e. subst (λ (x : ℕ). Agree n number v (get_or d.l1 x [])) (sym e) (apart_step n number some c.shards p.whole (get_or c.l1 core []) (get_or d.l1 core []) change line other (p.l1 core)))
        (p.l1 a))

    first_apart : (core : ℕ) (letter : Letter) → Part n number (kept_first core line letter c) d
    unfolding kept_first
    first_apart core letter = own_apart core (λ copies. (line, letter) ∷ without line copies)

    own_l1i_apart : (core : ℕ) (change : List (ℕ × Unit {0}) → List (ℕ × Unit {0})) → Part n number (in_l1i_set_of core line change c) d
    own_l1i_apart core change =
        let v : List (List (ℕ × Unit {0})) = in_set_of c.shards line change (get_or c.l1i core []) in
        l1i_apart c (set c.l1i core v) p (p.fetchers ∙ sym (length-set c.l1i core v))
        (λ a. set_read (λ s. Agree n number s (get_or d.l1i a [])) c.l1i core v a
        (λ e. subst (λ (x : ℕ). Agree n number v (get_or d.l1i x [])) (sym e) (apart_step n number some c.shards p.whole (get_or c.l1i core []) (get_or d.l1i core []) change line other (p.l1i core)))
        (p.l1i a))

    on_l1i_apart : (held : Bool) (core : ℕ) → Part n number (on_l1i held core line c) d
    unfolding used_in_l1i filled_into_l1i
    on_l1i_apart true core = own_l1i_apart core (used line)
    on_l1i_apart false core = own_l1i_apart core (filled c.l1i_ways line tt)

  -- ---- steps that evict a line
  back_apart : (c : Caches) → Part n number c d → (victim : Option (ℕ × Letter)) → ((w : ℕ × Letter) → victim ≡ Some w → w.0 % n ≢ number) → Part n number (written_back victim c) d
  back_apart c p None h = p
  back_apart c p (Some w) h =
      elim (is_modified w.1) as (λ b. Part n number (cond b (marked_dirty w.0 c) c) d)
      [ true ↦ marked_apart w.0 (h w refl) c p | false ↦ p ]

  room_apart : (c : Caches) → Part n number c d → (victim : Option (ℕ × Bool)) → ((w : ℕ × Bool) → victim ≡ Some w → w.0 % n ≢ number) → Part n number (copies_evicted victim c) d
  room_apart c p None h = p
  room_apart c p (Some w) h = instructions_apart w.0 (h w refl) (recalled w.0 c) (recalled_apart w.0 (h w refl) c p)

  dirtied_apart : (line : ℕ) → line % n ≢ number → (c : Caches) → Part n number c d → (b : Bool) → Part n number (cond b (marked_dirty line c) c) d
  dirtied_apart line other c p true = marked_apart line other c p
  dirtied_apart line other c p false = p

  module _ (line : ℕ) (other : line % n ≢ number) where
    -- a line that is evicted is another shard's as well
    l2_victim_other : (c : Caches) → Part n number c d → Placed c → (w : ℕ × Bool) → l2_victim c line ≡ Some w → w.0 % n ≢ number
    l2_victim_other c p placed w e same =
        let k : ℕ = set_number c.shards line c.l2 in
        let at : w.0 / c.shards % length c.l2 ≡ k
        = at_victim (λ (way : ℕ × Bool). way.0 / c.shards % length c.l2 ≡ k) c.l2_ways (get_or c.l2 k []) w (stand_all c.shards (length c.l2) k (get_or c.l2 k []) (placed.l2.each k)) e in
        other (sym (same_rest n (length d.l2) (length c.l2) some p.l2.many w.0 line (subst (λ (x : ℕ). w.0 / x % length c.l2 ≡ line / x % length c.l2) (p.whole) at)) ∙ same)

    own_victim_other : (c : Caches) → Part n number c d → Placed c → (core : ℕ) (w : ℕ × Letter) → own_victim c core line ≡ Some w → w.0 % n ≢ number
    own_victim_other c p placed core w e same =
        let sets : List (List (ℕ × Letter)) = get_or c.l1 core [] in
        let k : ℕ = set_number c.shards line sets in
        let at : w.0 / c.shards % length sets ≡ k
        = at_victim (λ (way : ℕ × Letter). way.0 / c.shards % length sets ≡ k) c.l1_ways (get_or sets k []) w (stand_all c.shards (length sets) k (get_or sets k []) ((placed.l1 core).each k)) e in
        other (sym (same_rest n (length (get_or d.l1 core [])) (length sets) some (p.l1 core).many w.0 line (subst (λ (x : ℕ). w.0 / x % length sets ≡ line / x % length sets) (p.whole) at)) ∙ same)

    taken_apart : (c : Caches) → Part n number c d → Placed c → (core : ℕ) (letter : Letter) → Part n number (filled_into_l1 core line letter c) d
    unfolding filled_into_l1
    taken_apart c p placed core letter =
        let victim : Option (ℕ × Letter) = own_victim c core line in
        own_apart line other (written_back victim c) (back_apart c p victim (own_victim_other c p placed core)) core (filled c.l1_ways line letter)

    on_l2_apart : (c : Caches) → Part n number c d → Placed c → (outcome : Outcome) → Part n number (on_l2 outcome line c) d
    on_l2_apart c p placed Hit = p
    on_l2_apart c p placed (Upgrade others) = looked_apart line other c p
    on_l2_apart c p placed (L2 others) = looked_apart line other c p
    on_l2_apart c p placed (Miss dirty) =
        let victim : Option (ℕ × Bool) = l2_victim c line in
        fetched_apart line other (copies_evicted victim c) (room_apart c p victim (l2_victim_other c p placed))

    on_others_apart : (c : Caches) → Part n number c d → (outcome : Outcome) (write : Bool) (core : ℕ) → Part n number (on_others outcome write core line c) d
    on_others_apart c p Hit write core = p
    on_others_apart c p (Upgrade others) write core = others_apart line other c p (other_after write) core
    on_others_apart c p (L2 others) write core =
        let b : Bool = some_other is_modified c core line in
        others_apart line other (cond b (marked_dirty line c) c) (dirtied_apart line other c p b) (other_after write) core
    on_others_apart c p (Miss dirty) write core = p

    on_own_apart : (c : Caches) → Part n number c d → Placed c → (own : Letter) (core : ℕ) (letter : Letter) → Part n number (on_own own core line letter c) d
    on_own_apart c p placed M core letter = first_apart line other c p core letter
    on_own_apart c p placed E core letter = first_apart line other c p core letter
    on_own_apart c p placed S core letter = first_apart line other c p core letter
    on_own_apart c p placed I core letter = taken_apart c p placed core letter

    data_apart : (c : Caches) → Part n number c d → Placed c → (core : ℕ) (write : Bool) → Part n number (after_at c core line write) d
    data_apart c p placed core write =
        let own : Letter = letter_at c core line in
        let outcome : Outcome = met_at c core line write in
        let letter : Letter = own_after write own (some_other is_valid c core line) in
        let first : Caches = on_l2 outcome line c in
        let second : Caches = on_others outcome write core line first in
        let l2_keeps : Keeps c first = l2_step outcome line c in
        let others_keep : Keeps first second = others_step outcome write core line first in
        on_own_apart second (on_others_apart first (on_l2_apart c p placed outcome) outcome write core) (others_keep.placed (l2_keeps.placed placed)) own core letter

    fetch_apart : (c : Caches) → Part n number c d → Placed c → (core : ℕ) → Part n number (after_fetch_at c core line) d
    fetch_apart c p placed core =
        let outcome : Outcome = fetch_met_at c core line in
        on_l1i_apart line other (on_l2 outcome line c) (on_l2_apart c p placed outcome) (fetch_holds c core line) core

  pub access_apart : (c : Caches) → Part n number c d → Placed c → (core : ℕ) (request : Request) → line_of request % n ≢ number → Part n number (caches_after c core request) d
  unfolding caches_after
  access_apart c p placed core request other =
      let line : ℕ = line_of request in
      let write : Bool = is_write request in
      elim (is_fetch request) as (λ (b : Bool). Part n number (cond b (after_fetch_at c core line) (after_at c core line write)) d)
      [ true ↦ fetch_apart line other c p placed core | false ↦ data_apart line other c p placed core write ]
