-- Caches are coherent from empty on, whatever cores access.
use Rattle.std.proofs.Common.{◌≡◌, ℕ, ◌/◌, ◌%◌, ◌<◌, ◌≤◌, Bool, true, false, ◌⊎◌, List, [], ◌∷◌, length, get_or, replicate, refl, sym, ◌∙◌, subst, arith, inl, inr}
use Rattle.std.specs.List.{All}
use Rattle.std.specs.Prelude.{nat_lt}
use Rattle.std.proofs.lemmas.Bool.{cases_lt}
use Rattle.std.proofs.lemmas.List.{get_or-replicate, get_or_past, length-replicate}
use Rattle.std.proofs.lemmas.List.Elements.{All-head, All-tail}
use Rattle.zs_num.specs.declared.request.Request.{Request}
use Rattle.cache_set.specs.declared.letter.Letter.{Letter}
use Rattle.cache_set.specs.declared.letter.Letter.TheVariants.{I}
use Rattle.shard.specs.Coherence.{Caches, caches_after, empty_caches, fetch_holds, is_valid, letter_at}
use Rattle.shard.specs.Accesses.{caches_after_all}
use Rattle.cache_set.specs.Lines.{set_of}
use Rattle.shard.specs.StandsFor.{AreCoherent, HaveRoomForLines}
use Rattle.shard.proofs.Coherent.{coherent_stays}
use Rattle.shard.proofs.CoherentLists.{empty_at}
use Rattle.shard.proofs.CoherentPlaced.{empty_placed}
use Rattle.shard.proofs.CoherentSets.{sets_of_fit}
use Rattle.shard.proofs.Fits.{empty_fit}

-- what accesses of cores keep
pub record KeepCoherent (c d : Caches) : Type 0 where
  pub coherent : AreCoherent d
  pub room : HaveRoomForLines d
  pub cores : length d.l1 ≡ length c.l1
  pub fetchers : length d.l1i ≡ length c.l1i

pub accesses_coherent : (accesses : List (ℕ × Request)) (c : Caches) → AreCoherent c → HaveRoomForLines c → All (λ access. access.0 < length c.l1) accesses → KeepCoherent c (caches_after_all c accesses)
accesses_coherent [] c h room known = record { coherent = h; room = room; cores = refl; fetchers = refl }
accesses_coherent (access ∷ accesses) c h room known =
    let P : ℕ × Request → Type 0 = λ a. a.0 < length c.l1 in
    let step = coherent_stays c access.0 access.1 h room (All-head P access accesses known) in
    let d : Caches = caches_after c access.0 access.1 in
    let rest : KeepCoherent d (caches_after_all d accesses)
    = accesses_coherent accesses d step.0 step.1 (subst (λ (n : ℕ). All (λ (a : ℕ × Request). a.0 < n) accesses) (sym step.2) (All-tail P access accesses known)) in
    record { coherent = rest.coherent; room = rest.room; cores = rest.cores ∙ step.2; fetchers = rest.fetchers ∙ step.3 }

-- ---- empty caches
empty_set_of : {X : Type 0} (cores sets shards core line : ℕ) → set_of shards line (get_or (replicate cores (replicate {A = List X} sets [])) core []) ≡ []
empty_set_of {X = X} cores sets shards core line =
    let all : List (List X) = replicate sets [] in
    elim (cases_lt core cores) as (λ _. set_of shards line (get_or (replicate cores all) core []) ≡ []) [
      | inl l ↦ rw (get_or-replicate cores core all [] l, empty_at {X = X} sets (line / shards % length all)) refl
      | inr l ↦ rw (get_or_past (replicate cores all) core [] (omega (arith, length-replicate cores all))) refl
    ]

sets_of_core : (X : Type 0) (cores sets core : ℕ) → 1 ≤ sets → core < length (replicate cores (replicate {A = List X} sets [])) → 1 ≤ length (get_or (replicate cores (replicate {A = List X} sets [])) core [])
sets_of_core X cores sets core some known =
    let all : List (List X) = replicate sets [] in
    let within : core < cores = omega (arith, length-replicate cores all) in
    rw (get_or-replicate cores core all [] within) (omega (arith, length-replicate {A = List X} sets []))

-- all cores have an instruction cache, with room for a line in each set, or none has
abbrev pub AllFetchOrNone : (cores fetchers l1i_sets l1i_ways : ℕ) → Type 0
AllFetchOrNone cores fetchers l1i_sets l1i_ways = ((fetchers ≡ cores) × (1 ≤ l1i_sets) × (1 ≤ l1i_ways)) ⊎ (fetchers ≡ 0)

module _ (cores shards l1_sets l1_ways fetchers l1i_sets l1i_ways l2_sets l2_ways : ℕ) where
  abbrev empty : Caches
  empty = empty_caches cores shards l1_sets l1_ways fetchers l1i_sets l1i_ways l2_sets l2_ways

  no_letter : (core line : ℕ) → letter_at empty core line ≡ I
  unfolding letter_at
  no_letter core line = rw (empty_set_of {X = ℕ × Letter} cores l1_sets shards core line) refl

  no_instructions : (core line : ℕ) → fetch_holds empty core line ≡ false
  unfolding fetch_holds
  no_instructions core line = rw (empty_set_of {X = ℕ × Unit {0}} fetchers l1i_sets shards core line) refl

  pub empty_coherent : AreCoherent empty
  empty_coherent = record {
    sets = sets_of_fit empty (empty_fit cores shards l1_sets l1_ways fetchers l1i_sets l1i_ways l2_sets l2_ways)
        (empty_placed cores shards l1_sets l1_ways fetchers l1i_sets l1i_ways l2_sets l2_ways);
    single = λ core other line apart alone. no_letter other line;
    inclusive = λ core line held. let bad : is_valid I ≡ true = subst (λ (x : Letter). is_valid x ≡ true) (no_letter core line) held in absurd cc;
    l1i_inclusive = λ core line held. let bad : true ≡ false = sym held ∙ no_instructions core line in absurd cc;
  }

  pub empty_cores : length empty.l1 ≡ cores
  empty_cores = length-replicate cores (replicate l1_sets [])

  pub empty_fetchers : length empty.l1i ≡ fetchers
  empty_fetchers = length-replicate fetchers (replicate l1i_sets [])

  fetchers_known : AllFetchOrNone cores fetchers l1i_sets l1i_ways → (length empty.l1i ≡ length empty.l1) ⊎ (length empty.l1i ≡ 0)
  fetchers_known (inl all) = inl (empty_fetchers ∙ all.0 ∙ sym empty_cores)
  fetchers_known (inr none) = inr (empty_fetchers ∙ none)

  ways_known : AllFetchOrNone cores fetchers l1i_sets l1i_ways → nat_lt 0 (length empty.l1i) ≡ true → 1 ≤ l1i_ways
  ways_known (inl all) have = all.2
  ways_known (inr none) have =
      let bad : nat_lt 0 0 ≡ true = subst (λ (n : ℕ). nat_lt 0 n ≡ true) (empty_fetchers ∙ none) have in
      absurd cc

  sets_known : AllFetchOrNone cores fetchers l1i_sets l1i_ways → (core : ℕ) → core < length empty.l1i → 1 ≤ length (get_or empty.l1i core [])
  sets_known (inl all) core known = sets_of_core (ℕ × Unit {0}) fetchers l1i_sets core all.1 known
  sets_known (inr none) core known = absurd (omega (arith, known, empty_fetchers, none))

  pub empty_room : 1 ≤ l1_sets → 1 ≤ l1_ways → 1 ≤ l2_sets → 1 ≤ l2_ways → AllFetchOrNone cores fetchers l1i_sets l1i_ways → HaveRoomForLines empty
  empty_room some1 ways1 some2 ways2 fetch = record {
    l1_ways = ways1;
    l2_ways = ways2;
    l1_sets = λ core known. sets_of_core (ℕ × Letter) cores l1_sets core some1 known;
    l2_sets = omega (arith, length-replicate {A = List (ℕ × Bool)} l2_sets []);
    fetchers = fetchers_known fetch;
    l1i_ways = ways_known fetch;
    l1i_sets = sets_known fetch;
  }

  pub from_empty : (accesses : List (ℕ × Request)) → 1 ≤ l1_sets → 1 ≤ l1_ways → 1 ≤ l2_sets → 1 ≤ l2_ways → AllFetchOrNone cores fetchers l1i_sets l1i_ways → All (λ access. access.0 < cores) accesses → AreCoherent (caches_after_all empty accesses)
  from_empty accesses some1 ways1 some2 ways2 fetch known =
      (accesses_coherent accesses empty empty_coherent (empty_room some1 ways1 some2 ways2 fetch) (subst (λ (n : ℕ). All (λ (a : ℕ × Request). a.0 < n) accesses) (sym empty_cores) known)).coherent
