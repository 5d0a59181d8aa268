-- A private access hits.
use Rattle.std.proofs.Common.{◌≡◌, Bool, true, false, cond, Option, Some, None, is_some, refl, ap}
use Rattle.std.specs.Prelude.{IsTrue}
use Rattle.zs_num.specs.Request.{is_fetch, line_of}
use Rattle.zs_num.specs.declared.entry.Outcome.{Outcome}
use Rattle.zs_num.specs.declared.entry.Outcome.TheVariants.{Hit}
use Rattle.zs_num.specs.declared.request.Request.{Request}
use Rattle.zs_num.specs.declared.request.Request.TheVariants.{Load, Store, Lr, Sc, Amo, Fetch}
use Rattle.cache_set.specs.declared.letter.Letter.{Letter}
use Rattle.cache_set.specs.declared.letter.Letter.TheVariants.{M, E, S, I}
use Rattle.shard.specs.Coherence.{fetch_outcome_by, is_alone, is_valid, is_write, outcome_by}
use Rattle.l1_cache.specs.L1State.{Copy, L1State, copy_at, has_instructions, is_private, letter_of, may_write}

-- what a copy that is there may be
abbrev pub IsSound : Option Copy → Type 0
IsSound o = (copy : Copy) → o ≡ Some copy → IsTrue (is_valid copy.letter) × (copy.free ≡ true → IsTrue (is_alone copy.letter))

abbrev pub met_by_own : L1State → Request → (in_l2 alone has dirty : Bool) → Outcome
met_by_own l1 request in_l2 alone has dirty =
    cond (is_fetch request) (fetch_outcome_by (has_instructions l1 (line_of request)) in_l2 dirty) (outcome_by (is_write request) (letter_of (copy_at l1 (line_of request))) in_l2 alone has dirty)

read_hits : (letter : Letter) (in_l2 alone has dirty : Bool) → IsTrue (is_valid letter) → outcome_by false letter in_l2 alone has dirty ≡ Hit
read_hits M in_l2 alone has dirty v = refl
read_hits E in_l2 alone has dirty v = refl
read_hits S in_l2 alone has dirty v = refl
read_hits I in_l2 alone has dirty v = absurd cc

write_hits : (letter : Letter) (in_l2 alone has dirty : Bool) → IsTrue (is_alone letter) → outcome_by true letter in_l2 alone has dirty ≡ Hit
write_hits M in_l2 alone has dirty v = refl
write_hits E in_l2 alone has dirty v = refl
write_hits S in_l2 alone has dirty v = absurd cc
write_hits I in_l2 alone has dirty v = absurd cc

load_hits : (o : Option Copy) (in_l2 alone has dirty : Bool) → is_some o ≡ true → IsSound o → outcome_by false (letter_of o) in_l2 alone has dirty ≡ Hit
load_hits None in_l2 alone has dirty h sound = absurd cc
load_hits (Some copy) in_l2 alone has dirty h sound = read_hits copy.letter in_l2 alone has dirty (sound copy refl).0

store_hits : (o : Option Copy) (in_l2 alone has dirty : Bool) → may_write o ≡ true → IsSound o → outcome_by true (letter_of o) in_l2 alone has dirty ≡ Hit
store_hits None in_l2 alone has dirty h sound = absurd cc
store_hits (Some copy) in_l2 alone has dirty h sound = write_hits copy.letter in_l2 alone has dirty ((sound copy refl).1 h)

pub private_hits : (l1 : L1State) (request : Request) (in_l2 alone has dirty : Bool) → is_private l1 request ≡ true → IsSound (copy_at l1 (line_of request)) → met_by_own l1 request in_l2 alone has dirty ≡ Hit
unfolding is_private
private_hits l1 (Load width addr) in_l2 alone has dirty h sound = load_hits (copy_at l1 (line_of (Load width addr))) in_l2 alone has dirty h sound
private_hits l1 (Store width addr value) in_l2 alone has dirty h sound = store_hits (copy_at l1 (line_of (Store width addr value))) in_l2 alone has dirty h sound
private_hits l1 (Lr width addr) in_l2 alone has dirty h sound = absurd cc
private_hits l1 (Sc width paired addr value) in_l2 alone has dirty h sound = absurd cc
private_hits l1 (Amo width op addr value) in_l2 alone has dirty h sound = absurd cc
private_hits l1 (Fetch addr) in_l2 alone has dirty h sound = ap (λ (b : Bool). fetch_outcome_by b in_l2 dirty) h
