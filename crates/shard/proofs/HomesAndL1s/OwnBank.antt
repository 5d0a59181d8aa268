-- The bank of an access does what its shard does.
use Rattle.std.proofs.Common.{◌≡◌, ℕ, List, Option, refl, sym, ap, ◌∙◌}
use Rattle.zs_num.specs.Request.{addr_of}
use Rattle.zs_num.specs.declared.entry.Entry.{Entry}
use Rattle.flat_memory.specs.declared.reservation.Reservation.{Reservation}
use Rattle.shard.specs.Coherence.{Caches, caches_after}
use Rattle.shard.specs.Laws.{CoherentStays}
use Rattle.shard.specs.Marks.{bytes_after, reply_from}
use Rattle.shard.specs.PartsLaws.{AreParts, IsAsked, OwnBank}
use Rattle.shard.specs.Seen.{bytes_seen, caches_seen, shard_seen}
use Rattle.shard.specs.Served.{ShardState, met_by, place_of, shard_after, shard_reply}
use Rattle.shard.specs.SharedStep.{Bank, bank_after, bank_reply, met_at_bank}
use Rattle.shard.proofs.HomesAndL1s.AccessBytes.{bytes_then, reply_seen}
use Rattle.shard.proofs.HomesAndL1s.Accesses.{Done, access_done}
use Rattle.shard.proofs.HomesAndL1s.AnsweredFits.{Accessed}
use Rattle.shard.proofs.HomesAndL1s.CachesSeen.{after_seen}
use Rattle.shard.proofs.L2Laws.{L2Laws}
use Rattle.shard.proofs.HomesAndL1s.MetSeen.{met_seen}

-- a shard of these parts
abbrev made : (number base size : ℕ) → Caches → (bytes : List ℕ) → (marks : List (Option Reservation)) → (last : ℕ) → ShardState
made number base size c bytes marks last = record { number = number; base = base; size = size; caches = c; bytes = bytes; marks = marks; last = last }

shard_reply_is : (p : Bank) (last : ℕ) (e : Entry) → shard_reply (shard_seen p last) e ≡ reply_from (bytes_seen p) (place_of p.home.shards p.home.base (addr_of e.request)) p.home.marks e.core e.request
unfolding shard_reply shard_seen caches_seen
shard_reply_is p last e = refl

met_is : (p : Bank) (last : ℕ) (e : Entry) → AreParts p → IsAsked p e.core e.request → met_at_bank p e.core e.request ≡ met_by (shard_seen p last) e
unfolding met_by shard_seen
met_is p last e are asked = met_seen p are e.core e.request asked.own

after_is : (p q : Bank) (last : ℕ) (e : Entry) → Accessed p q e.core e.request → caches_seen q ≡ caches_after (caches_seen p) e.core e.request
    → bytes_seen q ≡ bytes_after (bytes_seen p) (place_of p.home.shards p.home.base (addr_of e.request)) p.home.marks e.core e.request → shard_seen q e.stamp ≡ shard_after (shard_seen p last) e
unfolding shard_after shard_seen caches_seen
after_is p q last e done caches bytes =
    let c : Caches = caches_after (caches_seen p) e.core e.request in
    let b : List ℕ = bytes_after (bytes_seen p) (place_of p.home.shards p.home.base (addr_of e.request)) p.home.marks e.core e.request in
    ap (λ (z : ℕ). made z q.home.base q.home.size (caches_seen q) (bytes_seen q) q.home.marks e.stamp) done.keeps.bank.number
    ∙ (ap (λ (z : ℕ). made p.home.number z q.home.size (caches_seen q) (bytes_seen q) q.home.marks e.stamp) done.keeps.base
    ∙ (ap (λ (z : ℕ). made p.home.number p.home.base z (caches_seen q) (bytes_seen q) q.home.marks e.stamp) done.keeps.size
    ∙ (ap (λ (z : Caches). made p.home.number p.home.base p.home.size z (bytes_seen q) q.home.marks e.stamp) caches
    ∙ (ap (λ (z : List ℕ). made p.home.number p.home.base p.home.size c z q.home.marks e.stamp) bytes
    ∙ ap (λ (z : List (Option Reservation)). made p.home.number p.home.base p.home.size c b z e.stamp) done.marks))))

pub own_bank : CoherentStays → L2Laws → OwnBank
own_bank stays laws p last e are asked =
    let q : Bank = bank_after p e.core e.request in
    let done : Done p q e.core e.request (bank_reply p e.core e.request) = access_done stays laws p are e.core e.request asked in (
      done.answer ∙ (sym (reply_seen p are e.core e.request asked) ∙ sym (shard_reply_is p last e)),
      met_is p last e are asked,
      after_is p q last e done.accessed (after_seen p are e.core e.request asked) (bytes_then p are e.core e.request asked q done.accessed),
      done.accessed.parts,
    )
