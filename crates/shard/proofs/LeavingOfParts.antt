-- What leaves the caches of a shard for an access leaves those of the machine for which the shards stand.
use Rattle.std.proofs.Common.{◌≡◌, ℕ, ◌%◌, ◌<◌, Bool, true, false, cond, length, Option, refl, sym, ap, ◌∙◌, mod-lt}
use Rattle.std.specs.Prelude.{slice_get, Some}
use Rattle.zs_num.specs.Request.{bank_of_line, is_fetch, line_of}
use Rattle.zs_num.specs.declared.entry.Outcome.{Outcome}
use Rattle.zs_num.specs.declared.entry.Outcome.TheVariants.{Hit, Upgrade, L2, Miss}
use Rattle.zs_num.specs.declared.request.Request.{Request}
use Rattle.cache_set.specs.declared.letter.Letter.{Letter}
use Rattle.cache_set.specs.declared.letter.Letter.TheVariants.{M, E, S, I}
use Rattle.shard.specs.declared.leaving.Leaving.{Leaving}
use Rattle.shard.specs.Coherence.{Caches, fetch_holds, fetch_met_at, is_write, letter_at, met_at, on_l2, on_others}
use Rattle.shard.specs.Leaving.{fetch_leaving_at, l1_leaves, l1i_leaves, l2_leaves, leaving_at, leaving_of, line_in_way}
use Rattle.shard.specs.LeavingLaws.{LeavingIsTheMachines}
use Rattle.shard.specs.Served.{ShardState, no_shard, shard_for}
use Rattle.shard.proofs.CoherentPlaced.{Placed}
use Rattle.shard.proofs.CoherentSets.{placed_of_sets}
use Rattle.shard.proofs.HomesAndL1s.Gets.{got}
use Rattle.shard.proofs.StandsForPart.{Part, fetch_met_same, holds_same, instructions_same, l2_victim_same, letter_same, met_same, own_victim_same}
use Rattle.shard.proofs.StandsForStep.{each_stands}
use Rattle.shard.proofs.StandsForSteps.{on_l2_part, on_others_part}

module _ (n number : ℕ) (some : 0 < n) (line : ℕ) (is : line % n ≡ number) where
  l2_same : (c d : Caches) → Part n number c d → (outcome : Outcome) → l2_leaves outcome c line ≡ l2_leaves outcome d line
  l2_same c d p Hit = refl
  l2_same c d p (Upgrade others) = refl
  l2_same c d p (L2 others) = refl
  l2_same c d p (Miss dirty) = ap line_in_way (l2_victim_same n number c d p line is)

  l1_same : (c d : Caches) → Part n number c d → (own : Letter) (core : ℕ) → l1_leaves own c core line ≡ l1_leaves own d core line
  l1_same c d p M core = refl
  l1_same c d p E core = refl
  l1_same c d p S core = refl
  l1_same c d p I core = ap line_in_way (own_victim_same n number c d p line is core)

  l1i_same : (c d : Caches) → Part n number c d → (held : Bool) (core : ℕ) → l1i_leaves held c core line ≡ l1i_leaves held d core line
  l1i_same c d p true core = refl
  l1i_same c d p false core = rw (p.l1i_ways, instructions_same n number c d p line is core) refl

  module _ (c d : Caches) (p : Part n number c d) (placed : Placed c) (core : ℕ) where
    abbrev by : Caches → Letter → Outcome → (write : Bool) → Leaving
    by x own outcome write = record { own = l1_leaves own (on_others outcome write core line (on_l2 outcome line x)) core line; shared = l2_leaves outcome x line }

    by_same : (own : Letter) (outcome : Outcome) (write : Bool) → by c own outcome write ≡ by d own outcome write
    by_same own outcome write =
        let first : Caches = on_l2 outcome line c in
        let second : Caches = on_l2 outcome line d in
        let part = on_others_part n number some line is first second (on_l2_part n number some line is c d p placed outcome) outcome write core in
        ap (λ (o : Option ℕ). record { own = o; shared = l2_leaves outcome c line }) (l1_same (on_others outcome write core line first) (on_others outcome write core line second) part own core)
        ∙ ap (λ (o : Option ℕ). record { own = l1_leaves own (on_others outcome write core line second) core line; shared = o }) (l2_same c d p outcome)

    data_same : (write : Bool) → leaving_at c core line write ≡ leaving_at d core line write
    data_same write =
        by_same (letter_at c core line) (met_at c core line write) write
        ∙ (ap (λ (own : Letter). by d own (met_at c core line write) write) (letter_same n number c d p line is core)
        ∙ ap (λ (outcome : Outcome). by d (letter_at d core line) outcome write) (met_same n number c d p some placed line is core write))

    abbrev by_fetch : Caches → (held : Bool) → Outcome → Leaving
    by_fetch x held outcome = record { own = l1i_leaves held (on_l2 outcome line x) core line; shared = l2_leaves outcome x line }

    by_fetch_same : (held : Bool) (outcome : Outcome) → by_fetch c held outcome ≡ by_fetch d held outcome
    by_fetch_same held outcome =
        let first : Caches = on_l2 outcome line c in
        let second : Caches = on_l2 outcome line d in
        ap (λ (o : Option ℕ). record { own = o; shared = l2_leaves outcome c line }) (l1i_same first second (on_l2_part n number some line is c d p placed outcome) held core)
        ∙ ap (λ (o : Option ℕ). record { own = l1i_leaves held second core line; shared = o }) (l2_same c d p outcome)

    fetch_same : fetch_leaving_at c core line ≡ fetch_leaving_at d core line
    fetch_same =
        by_fetch_same (fetch_holds c core line) (fetch_met_at c core line)
        ∙ (ap (λ (held : Bool). by_fetch d held (fetch_met_at c core line)) (holds_same n number c d p line is core)
        ∙ ap (λ (outcome : Outcome). by_fetch d (fetch_holds d core line) outcome) (fetch_met_same n number c d p some placed line is core))

leaving_same : (n number : ℕ) → 0 < n → (c d : Caches) → Part n number c d → Placed c → (core : ℕ) (request : Request) → line_of request % n ≡ number → leaving_of c core request ≡ leaving_of d core request
unfolding leaving_of
leaving_same n number some c d p placed core request is =
    let line : ℕ = line_of request in
    let write : Bool = is_write request in
    elim (is_fetch request) as (λ (b : Bool). cond b (fetch_leaving_at c core line) (leaving_at c core line write) ≡ cond b (fetch_leaving_at d core line) (leaving_at d core line write)) [
      | true ↦ fetch_same n number some line is c d p placed core
      | false ↦ data_same n number some line is c d p placed core write
    ]

pub leaving_is_the_machines : LeavingIsTheMachines
leaving_is_the_machines shards memory c core request h some =
    let n : ℕ = length shards in
    let bank : ℕ = bank_of_line n (line_of request) in
    let s : ShardState = shard_for shards request in
    let at : slice_get shards bank ≡ Some s = got shards bank no_shard (mod-lt (line_of request) some) in
    sym (leaving_same n bank some c s.caches (each_stands shards memory c h bank s at).part (placed_of_sets c h.coherent.sets) core request refl)
