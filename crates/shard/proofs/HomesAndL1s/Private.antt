-- A private access is of its core's L1 alone.
use Rattle.std.proofs.Common.{ℕ, ◌&&◌, Bool, cond, ap}
use Rattle.std.specs.Prelude.{is_some}
use Rattle.zs_num.specs.Request.{line_of}
use Rattle.zs_num.specs.declared.request.Request.{Request}
use Rattle.home.specs.HomeState.{evicted_by, row_at, row_of}
use Rattle.l1_cache.specs.L1State.{copy_at, private_after, private_reply}
use Rattle.shard.specs.PartsLaws.{AreParts, IsAsked, PrivateIsOfOneL1}
use Rattle.shard.specs.SharedStep.{Bank, bank_after, bank_reply, is_dirty_here, is_some_core, l1_of, met_at_bank, others_of, shared_after, shared_reply, with_l1}
use Rattle.shard.proofs.HomesAndL1s.LettersSeen.{copy_valid}
use Rattle.shard.proofs.HomesAndL1s.PrivateHits.{IsSound, private_hits}

pub own_sound : (p : Bank) (core : ℕ) (request : Request) → AreParts p → IsAsked p core request → IsSound (copy_at (l1_of p core) (line_of request))
own_sound p core request are asked copy e =
    (copy_valid p are core (line_of request) copy asked.own e, λ free. (are.free core (line_of request) copy asked.own e free).0)

pub private_is_of_one_l1 : PrivateIsOfOneL1
unfolding met_at_bank bank_after bank_reply
private_is_of_one_l1 p core request are asked private =
    let row = row_of p.home (line_of request) in
    let has : Bool = is_some_core (others_of core row) in (
      private_hits (l1_of p core) request (is_some (row_at p.home (line_of request))) (row.alone && has) has (is_dirty_here p (evicted_by p.home (line_of request))) private (own_sound p core request are asked),
      ap (λ (b : Bool). cond b (with_l1 core (λ l1. private_after l1 request) p) (shared_after p core request)) private,
      ap (λ (b : Bool). cond b (private_reply (l1_of p core) request) (shared_reply p core request)) private,
    )
