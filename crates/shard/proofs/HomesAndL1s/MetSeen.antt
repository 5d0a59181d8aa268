-- How a bank meets an access is how the caches meet it that are seen.
use Rattle.std.proofs.Common.{◌≡◌, ℕ, ◌&&◌, Bool, cond, is_some, sym, ap, ◌∙◌}
use Rattle.zs_num.specs.Request.{is_fetch, line_of}
use Rattle.zs_num.specs.declared.entry.Outcome.{Outcome}
use Rattle.zs_num.specs.declared.request.Request.{Request}
use Rattle.cache_set.specs.declared.letter.Letter.{Letter}
use Rattle.shard.specs.Coherence.{Caches, dirty_at, fetch_holds, fetch_outcome_by, is_alone, is_dirty_victim, is_valid, is_write, l2_victim, outcome_by, outcome_of, some_other}
use Rattle.home.specs.HomeState.{HomeLine, evicted_by, row_at, row_of}
use Rattle.l1_cache.specs.L1State.{has_instructions}
use Rattle.shard.specs.PartsLaws.{AreParts, IsOwn}
use Rattle.shard.specs.Seen.{caches_seen}
use Rattle.shard.specs.SharedStep.{Bank, is_dirty_here, is_some_core, l1_of, met_at_bank, others_of, own_letter}
use Rattle.shard.proofs.HomesAndL1s.Decisions.{alone_seen, has_seen}
use Rattle.shard.proofs.HomesAndL1s.EvictedSeen.{dirt_seen, in_l2_seen}
use Rattle.shard.proofs.HomesAndL1s.FitOf.{fit_of}
use Rattle.shard.proofs.HomesAndL1s.LettersSeen.{holds_seen, letter_seen}

pub met_seen : (p : Bank) → AreParts p → (core : ℕ) (request : Request) → IsOwn p (line_of request) → met_at_bank p core request ≡ outcome_of (caches_seen p) core request
unfolding met_at_bank outcome_of
met_seen p are core request own =
    let line : ℕ = line_of request in
    let c : Caches = caches_seen p in
    let row : HomeLine = row_of p.home line in
    let met : (held in_l2 dirty alone has : Bool) → Letter → Outcome = λ held in_l2 dirty alone has letter. cond (is_fetch request) (fetch_outcome_by held in_l2 dirty) (outcome_by (is_write request) letter in_l2 alone has dirty) in
    let held : Bool = has_instructions (l1_of p core) line in
    let in_l2 : Bool = is_some (row_at p.home line) in
    let dirty : Bool = is_dirty_here p (evicted_by p.home line) in
    let has : Bool = is_some_core (others_of core row) in
    let letter : Letter = own_letter p core line in
    ap (λ (b : Bool). met b in_l2 dirty (row.alone && has) has letter) (sym (holds_seen p (fit_of p are) core line own))
    ∙ (ap (λ (b : Bool). met (fetch_holds c core line) b dirty (row.alone && has) has letter) (sym (in_l2_seen p line))
    ∙ (ap (λ (b : Bool). met (fetch_holds c core line) (is_some (dirty_at c line)) b (row.alone && has) has letter) (dirt_seen p are line)
    ∙ (ap (λ (b : Bool). met (fetch_holds c core line) (is_some (dirty_at c line)) (is_dirty_victim c (l2_victim c line)) b has letter) (alone_seen p are line own core)
    ∙ (ap (λ (b : Bool). met (fetch_holds c core line) (is_some (dirty_at c line)) (is_dirty_victim c (l2_victim c line)) (some_other is_alone c core line) b letter) (has_seen p are line own core)
    ∙ ap (λ (x : Letter). met (fetch_holds c core line) (is_some (dirty_at c line)) (is_dirty_victim c (l2_victim c line)) (some_other is_alone c core line) (some_other is_valid c core line) x) (sym (letter_seen p (fit_of p are) core line own))))))
