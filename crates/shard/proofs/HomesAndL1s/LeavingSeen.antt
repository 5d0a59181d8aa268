-- What leaves for an access, seen by a home and an L1.
use Rattle.std.proofs.Common.{◌≡◌, ℕ, ◌<◌, Bool, true, false, cond, List, length, get_or, Option, Some, None, is_some, refl, sym, ap, ◌∙◌, subst, arith}
use Rattle.zs_num.specs.Request.{bank_of, is_fetch, line_of}
use Rattle.zs_num.specs.declared.request.Request.{Request}
use Rattle.cache_set.specs.declared.letter.Letter.{Letter}
use Rattle.cache_set.specs.Ways.{victim_of}
use Rattle.home.specs.HomeState.{HomeLine, HomeState, evicted_by, row_at}
use Rattle.l1_cache.specs.L1State.{Copy, L1State, copy_at, has_instructions, instruction_victim_in, instructions_at, letter_of, no_l1, victim_in}
use Rattle.shard.specs.declared.leaving.Leaving.{Leaving}
use Rattle.shard.specs.Coherence.{Caches, fetch_holds, is_valid, l1i_lines_at, l2_victim, letter_at}
use Rattle.shard.specs.Leaving.{home_left, instruction_left, leaving_by, leaving_here, leaving_of, left_beside, line_in_way, own_left}
use Rattle.shard.specs.PartsLaws.{AreAllParts, AreParts, IsOwn}
use Rattle.shard.specs.Seen.{PartsState, bank_at, caches_seen, shard_seen, shards_seen}
use Rattle.shard.specs.Served.{KnowsCore, ShardState, shard_for}
use Rattle.shard.specs.SharedStep.{Bank, l1_of}
use Rattle.shard.proofs.HomesAndL1s.BroughtSeen.{own_victim_seen, see_way}
use Rattle.shard.proofs.HomesAndL1s.EvictedSeen.{evicted_seen, in_l2_seen, see_row}
use Rattle.shard.proofs.HomesAndL1s.Fit.{AreFit}
use Rattle.shard.proofs.HomesAndL1s.FitOf.{fit_of}
use Rattle.shard.proofs.HomesAndL1s.Gets.{any_default}
use Rattle.shard.proofs.HomesAndL1s.LettersSeen.{fetched_seen, holds_seen, letter_seen}
use Rattle.shard.proofs.HomesAndL1s.PartsRead.{home_here, line_own, line_parts, shard_is}
use Rattle.shard.proofs.HomesAndL1s.Victims.{victim_own}
use Rattle.shard.proofs.LeavingOfCaches.{instruction_behind, instruction_last, leaving_is, own_behind, own_last, shared_left}

line_of_way : (v : Option (ℕ × Copy)) → line_in_way (see_way v) ≡ line_in_way v
line_of_way None = refl
line_of_way (Some v) = refl

line_of_row : (v : Option (ℕ × HomeLine)) → line_in_way (see_row v) ≡ line_in_way v
line_of_row None = refl
line_of_row (Some v) = refl

module _ (p : Bank) (are : AreParts p) (core : ℕ) (within : core < length p.l1s) where
  abbrev c : Caches
  c = caches_seen p

  abbrev l1 : L1State
  l1 = l1_of p core

  fit : AreFit p
  fit = fit_of p are

  own_seen : (line : ℕ) → IsOwn p line → own_last c core line ≡ line_in_way (victim_in l1 line)
  own_seen line own = ap line_in_way (own_victim_seen p fit core line within own) ∙ line_of_way (victim_in l1 line)

  instruction_ways : c.l1i_ways ≡ l1.l1i_ways
  unfolding caches_seen
  instruction_ways = sym (fit.each core within).l1i_ways

  lines_seen : (line : ℕ) → IsOwn p line → l1i_lines_at c core line ≡ instructions_at l1 line
  unfolding caches_seen
  lines_seen line own = fetched_seen p fit core line own

  instruction_seen : (line : ℕ) → IsOwn p line → instruction_last c core line ≡ line_in_way (instruction_victim_in l1 line)
  instruction_seen line own =
      ap (λ (s : List (ℕ × Unit {0})). line_in_way (victim_of c.l1i_ways s)) (lines_seen line own)
      ∙ ap (λ (ways : ℕ). line_in_way (victim_of ways (instructions_at l1 line))) instruction_ways

  shared_seen : (line : ℕ) → shared_left c line ≡ home_left p.home line
  shared_seen line =
      ap (λ (b : Bool). cond b None (line_in_way (l2_victim c line))) (in_l2_seen p line)
      ∙ ap (λ (o : Option ℕ). cond (is_some (row_at p.home line)) None o) (ap line_in_way (evicted_seen p line) ∙ line_of_row (evicted_by p.home line))

  -- a line that leaves the L2 is the bank's own
  way_own : (line : ℕ) (v : Option (ℕ × HomeLine)) → evicted_by p.home line ≡ v → (left : ℕ) → line_in_way v ≡ Some left → IsOwn p left
  way_own line None e left is = absurd cc
  way_own line (Some w) e left is = let same : w.0 ≡ left = cc in subst (IsOwn p) same (victim_own p are line w e)

  left_own : (line left : ℕ) (in_l2 : Bool) → cond in_l2 None (line_in_way (evicted_by p.home line)) ≡ Some left → IsOwn p left
  left_own line left true e = absurd cc
  left_own line left false e = way_own line (evicted_by p.home line) refl left e

  own_as : (line : ℕ) → IsOwn p line → (left : Option ℕ) → ((l : ℕ) → left ≡ Some l → IsOwn p l) → own_behind c core line left ≡ own_left l1 line left
  own_as line own None owns = own_seen line own
  own_as line own (Some left) owns =
      let there = owns left refl in
      ap (λ (x : Letter). left_beside (is_valid x) (own_last c core left) (own_last c core line)) (letter_seen p fit core left there)
      ∙ (ap (λ (o : Option ℕ). left_beside (is_valid (letter_of (copy_at l1 left))) o (own_last c core line)) (own_seen left there)
      ∙ ap (λ (o : Option ℕ). left_beside (is_valid (letter_of (copy_at l1 left))) (line_in_way (victim_in l1 left)) o) (own_seen line own))

  instruction_as : (line : ℕ) → IsOwn p line → (left : Option ℕ) → ((l : ℕ) → left ≡ Some l → IsOwn p l) → instruction_behind c core line left ≡ instruction_left l1 line left
  instruction_as line own None owns = instruction_seen line own
  instruction_as line own (Some left) owns =
      let there = owns left refl in
      ap (λ (b : Bool). left_beside b (instruction_last c core left) (instruction_last c core line)) (holds_seen p fit core left there)
      ∙ (ap (λ (o : Option ℕ). left_beside (has_instructions l1 left) o (instruction_last c core line)) (instruction_seen left there)
      ∙ ap (λ (o : Option ℕ). left_beside (has_instructions l1 left) (line_in_way (instruction_victim_in l1 left)) o) (instruction_seen line own))

  pub leaving_seen : (request : Request) → IsOwn p (line_of request) → leaving_here p.home l1 request ≡ leaving_of c core request
  leaving_seen request own =
      let line : ℕ = line_of request in
      let owns : (l : ℕ) → home_left p.home line ≡ Some l → IsOwn p l = λ l e. left_own line l (is_some (row_at p.home line)) e in
      sym (leaving_is c are.coherent.sets core request
      ∙ (ap (λ (shared : Option ℕ). by (fetch_holds c core line) (is_valid (letter_at c core line)) (instruction_behind c core line shared) (own_behind c core line shared) shared) (shared_seen line)
      ∙ (ap (λ (b : Bool). by b (is_valid (letter_at c core line)) (instruction_behind c core line (home_left p.home line)) (own_behind c core line (home_left p.home line)) (home_left p.home line)) (holds_seen p fit core line own)
      ∙ (ap (λ (x : Letter). by (has_instructions l1 line) (is_valid x) (instruction_behind c core line (home_left p.home line)) (own_behind c core line (home_left p.home line)) (home_left p.home line)) (letter_seen p fit core line own)
      ∙ (ap (λ (o : Option ℕ). by (has_instructions l1 line) (is_valid (letter_of (copy_at l1 line))) o (own_behind c core line (home_left p.home line)) (home_left p.home line)) (instruction_as line own (home_left p.home line) owns)
      ∙ ap (λ (o : Option ℕ). by (has_instructions l1 line) (is_valid (letter_of (copy_at l1 line))) (instruction_left l1 line (home_left p.home line)) o (home_left p.home line)) (own_as line own (home_left p.home line) owns))))))
    where
      by : (held valid : Bool) → (instruction own shared : Option ℕ) → Leaving
      by held valid instruction own shared = cond (is_fetch request) (leaving_by held instruction shared) (leaving_by valid own shared)

-- from what the code knows of its bank and of its core's L1
module _ (w : PartsState) (are : AreAllParts w) (now : List ShardState) (view : shards_seen w ≡ now) (core : ℕ) (request : Request) where
  abbrev own : Bank
  own = bank_at w (bank_of (length w.homes) request)

  knows_own : KnowsCore (shard_for now request) core → core < length w.l1s
  unfolding shard_seen
  knows_own knows =
      let seen : KnowsCore (shard_for (shards_seen w) request) core = subst (λ (shards : List ShardState). KnowsCore (shard_for shards request) core) (sym view) knows in
      let known : KnowsCore (shard_seen own (get_or w.lasts (bank_of (length w.homes) request) 0)) core = subst (λ (x : ShardState). KnowsCore x core) (shard_is w are (line_of request)) seen in
      omega (arith, known, (line_parts w are (line_of request)).cores.2)

  pub core_here : KnowsCore (shard_for now request) core → core < length w.l1s
  core_here knows = knows_own knows

  pub leaving_there : KnowsCore (shard_for now request) core → (i : ℕ) → i ≡ bank_of (length w.homes) request → (home : HomeState) → home ≡ get_or w.homes i home
      → (l1 : L1State) → l1 ≡ get_or w.l1s core l1 → leaving_here home l1 request ≡ leaving_of (shard_for now request).caches core request
  unfolding shard_seen
  leaving_there knows i is home home_is l1 l1_is =
      let within : core < length w.l1s = knows_own knows in
      let line : ℕ = line_of request in
      let home_at : home ≡ own.home = home_here w are line i is home home_is in
      let l1_at : l1 ≡ l1_of own core = l1_is ∙ any_default w.l1s core l1 no_l1 within in
      ap (λ (h : HomeState). leaving_here h l1 request) home_at
      ∙ (ap (λ (x : L1State). leaving_here own.home x request) l1_at
      ∙ (leaving_seen own (line_parts w are line) core within request (line_own w are line)
      ∙ (ap (λ (s : ShardState). leaving_of s.caches core request) (sym (shard_is w are line))
      ∙ ap (λ (shards : List ShardState). leaving_of (shard_for shards request).caches core request) view)))
