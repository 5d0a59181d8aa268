use Rattle.std.proofs.Common.{◌≡◌, ℕ, Bool, true, false, cond, refl, is_some}
use Rattle.std.specs.Prelude.{◌↔◌, IsTrue}
use Rattle.zs_num.specs.Request.{is_fetch, line_of}
use Rattle.zs_num.specs.declared.entry.Outcome.TheVariants.{Hit, Upgrade, L2, Miss}
use Rattle.cache_set.specs.declared.letter.Letter.{Letter}
use Rattle.cache_set.specs.declared.letter.Letter.TheVariants.{M, E, S, I}
use Rattle.shard.specs.Coherence.{dirty_at, fetch_holds, fetch_met_at, fetch_outcome_by, is_alone, is_dirty_victim, is_valid, is_write, l2_victim, letter_at, met_at, outcome_by, outcome_of, some_other}
use Rattle.shard.specs.Allowed.{allows}
use Rattle.shard.proofs.laws.hits_are_allowed.Goals as goal

by_table : (write : Bool) (own : Letter) (in_l2 alone has dirty : Bool) → (outcome_by write own in_l2 alone has dirty ≡ Hit) ↔ IsTrue (allows write own)
by_table false M in_l2 alone has dirty = (λ _. refl, λ _. refl)
by_table false E in_l2 alone has dirty = (λ _. refl, λ _. refl)
by_table false S in_l2 alone has dirty = (λ _. refl, λ _. refl)
by_table false I true alone has dirty = (λ (h : L2 alone ≡ Hit). cc, λ (h : false ≡ true). cc)
by_table false I false alone has dirty = (λ (h : Miss dirty ≡ Hit). cc, λ (h : false ≡ true). cc)
by_table true M in_l2 alone has dirty = (λ _. refl, λ _. refl)
by_table true E in_l2 alone has dirty = (λ _. refl, λ _. refl)
by_table true S in_l2 alone has dirty = (λ (h : Upgrade has ≡ Hit). cc, λ (h : false ≡ true). cc)
by_table true I true alone has dirty = (λ (h : L2 has ≡ Hit). cc, λ (h : false ≡ true). cc)
by_table true I false alone has dirty = (λ (h : Miss dirty ≡ Hit). cc, λ (h : false ≡ true). cc)

fetch_by_table : (held in_l2 dirty : Bool) → (fetch_outcome_by held in_l2 dirty ≡ Hit) ↔ IsTrue held
fetch_by_table true in_l2 dirty = (λ _. refl, λ _. refl)
fetch_by_table false true dirty = (λ (h : L2 false ≡ Hit). cc, λ (h : false ≡ true). cc)
fetch_by_table false false dirty = (λ (h : Miss dirty ≡ Hit). cc, λ (h : false ≡ true). cc)

pub returns : goal.returns
unfolding outcome_of
returns c caches core request =
    let line : ℕ = line_of request in
    let write : Bool = is_write request in
    elim (is_fetch request) as (λ b. (cond b (fetch_met_at caches core line) (met_at caches core line write) ≡ Hit) ↔ IsTrue (cond b (fetch_holds caches core line) (allows write (letter_at caches core line)))) [
      | true ↦ fetch_by_table (fetch_holds caches core line) (is_some (dirty_at caches line)) (is_dirty_victim caches (l2_victim caches line))
      | false ↦ by_table write (letter_at caches core line) (is_some (dirty_at caches line))
          (some_other is_alone caches core line) (some_other is_valid caches core line) (is_dirty_victim caches (l2_victim caches line))
    ]
