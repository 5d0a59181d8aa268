-- The sets of caches as lists that the steps keep, and as the definition has them.
use Rattle.std.proofs.Common.{◌≡◌, ℕ, ◌/◌, ◌%◌, true, List, [], ◌∷◌, length, get_or, refl}
use Rattle.std.specs.List.{All}
use Rattle.std.proofs.lemmas.List.Elements.{All-cons, All-from_get_or, All-head, All-nil, All-tail, All-weaker}
use Rattle.cache_set.specs.declared.letter.Letter.{Letter}
use Rattle.shard.specs.Coherence.{Caches, is_valid}
use Rattle.shard.specs.StandsFor.{HaveSets, IsSet}
use Rattle.shard.proofs.CoherentPlaced.{Placed}
use Rattle.shard.proofs.CoherentStand.{Stand, stand_all}
use Rattle.shard.proofs.Fits.{Fits, Held, IsL1, at_or, l1_nil, own_sets}

held_all : (s : List (ℕ × Letter)) → Held s → All (λ (way : ℕ × Letter). is_valid way.1 ≡ true) s
held_all [] h = All-nil (λ (way : ℕ × Letter). is_valid way.1 ≡ true)
held_all (e ∷ s) h = All-cons (λ (way : ℕ × Letter). is_valid way.1 ≡ true) e s h.0 (held_all s h.1)

pub sets_of_fit : (c : Caches) → Fits c → Placed c → HaveSets c
sets_of_fit c f p = record {
  l1 = All-weaker (All (IsL1 c.l1_ways)) (All (IsSet c.l1_ways)) (λ sets h. All-weaker (IsL1 c.l1_ways) (IsSet c.l1_ways) (λ s k. k.fits) sets h) c.l1 f.l1;
  l1i = f.l1i;
  l2 = f.l2;
  held = λ core n. held_all (get_or (get_or c.l1 core []) n []) (at_or (IsL1 c.l1_ways) (get_or c.l1 core []) n [] (own_sets c f core) (l1_nil c.l1_ways)).held;
  l1_placed = λ core n. stand_all c.shards (length (get_or c.l1 core [])) n (get_or (get_or c.l1 core []) n []) ((p.l1 core).each n);
  l1i_placed = λ core n. stand_all c.shards (length (get_or c.l1i core [])) n (get_or (get_or c.l1i core []) n []) ((p.l1i core).each n);
  l2_placed = λ n. stand_all c.shards (length c.l2) n (get_or c.l2 n []) (p.l2.each n);
}

all_held : (s : List (ℕ × Letter)) → All (λ (way : ℕ × Letter). is_valid way.1 ≡ true) s → Held s
all_held [] h = tt
all_held (e ∷ s) h =
    let P : ℕ × Letter → Type 0 = λ way. is_valid way.1 ≡ true in
    (All-head P e s h, all_held s (All-tail P e s h))

all_stand : {X : Type 0} (shards count n : ℕ) (s : List (ℕ × X)) → All (λ (way : ℕ × X). way.0 / shards % count ≡ n) s → Stand shards count n s
all_stand shards count n [] h = tt
all_stand {X = X} shards count n (e ∷ s) h =
    let P : ℕ × X → Type 0 = λ way. way.0 / shards % count ≡ n in
    (All-head P e s h, all_stand shards count n s (All-tail P e s h))

pub fit_of_sets : (c : Caches) → HaveSets c → Fits c
fit_of_sets c h = record {
  l1 = All-from_get_or (All (IsL1 c.l1_ways)) c.l1 []
      (λ core known. All-from_get_or (IsL1 c.l1_ways) (get_or c.l1 core []) []
      (λ n there. record { fits = h.l1 core [] known n [] there; held = all_held (get_or (get_or c.l1 core []) n []) (h.held core n) }));
  l1i = h.l1i;
  l2 = h.l2;
}

pub placed_of_sets : (c : Caches) → HaveSets c → Placed c
placed_of_sets c h = record {
  l1 = λ core. record { many = refl; each = λ n. all_stand c.shards (length (get_or c.l1 core [])) n (get_or (get_or c.l1 core []) n []) (h.l1_placed core n) };
  l1i = λ core. record { many = refl; each = λ n. all_stand c.shards (length (get_or c.l1i core [])) n (get_or (get_or c.l1i core []) n []) (h.l1i_placed core n) };
  l2 = record { many = refl; each = λ n. all_stand c.shards (length c.l2) n (get_or c.l2 n []) (h.l2_placed n) };
}
