-- No line leaves a cache for a hit.
use Rattle.std.proofs.Common.{◌≡◌, ℕ, Bool, true, false, Option, None, refl, sym, ◌∙◌, ap, arith}
use Rattle.std.specs.Prelude.{if◌then◌else◌}
use Rattle.zs_num.specs.declared.entry.Entry.{Entry}
use Rattle.zs_num.specs.declared.entry.Outcome.{Outcome}
use Rattle.zs_num.specs.declared.entry.Outcome.TheVariants.{Hit}
use Rattle.zs_num.specs.declared.request.Request.{Request}
use Rattle.zs_num.specs.Request.{is_fetch, line_of}
use Rattle.shard.specs.Coherence.{Caches, fetch_holds, fetch_met_at, fetch_outcome_by, is_write, letter_at, met_at, on_l2, on_others, outcome_of}
use Rattle.shard.specs.Leaving.{fetch_leaving_at, l1_leaves, l1i_leaves, l2_leaves, leaving_at, leaving_of}
use Rattle.shard.specs.Served.{met_by, shard_for}
use Rattle.shard.specs.declared.leaving.Leaving.{Leaving}
use Rattle.reference.specs.ShardWorld.{ShardWorld, shards_serve}
use Rattle.trace.specs.Port.{leaves_shards}
use Rattle.trace.specs.Ways.{nothing_leaves}

abbrev of_lines : (own shared : Option ℕ) → Leaving
of_lines own shared = record { own = own; shared = shared }

none_from_l2 : (outcome : Outcome) (c : Caches) (line : ℕ) → outcome ≡ Hit → l2_leaves outcome c line ≡ None
none_from_l2 outcome c line hit = ap (λ (o : Outcome). l2_leaves o c line) hit

-- the letter that a hit needs has no other line leave
none_from_l1 : (c : Caches) (core line : ℕ) (write : Bool) (d : Caches) → met_at c core line write ≡ Hit → l1_leaves (letter_at c core line) d core line ≡ None
none_from_l1 c core line true d hit = grind arith
none_from_l1 c core line false d hit = grind arith

none_from_l1i : (held in_l2 dirty : Bool) (c : Caches) (core line : ℕ) → fetch_outcome_by held in_l2 dirty ≡ Hit → l1i_leaves held c core line ≡ None
none_from_l1i true in_l2 dirty c core line hit = refl
none_from_l1i false true dirty c core line hit = cc
none_from_l1i false false dirty c core line hit = cc

module _ (c : Caches) (core line : ℕ) where
  none_at : (write : Bool) → met_at c core line write ≡ Hit → leaving_at c core line write ≡ nothing_leaves
  none_at write hit =
      ap (λ (own : Option ℕ). of_lines own (l2_leaves (met_at c core line write) c line))
      (none_from_l1 c core line write (on_others (met_at c core line write) write core line (on_l2 (met_at c core line write) line c)) hit)
      ∙ ap (of_lines None) (none_from_l2 (met_at c core line write) c line hit)

  none_fetching : fetch_met_at c core line ≡ Hit → fetch_leaving_at c core line ≡ nothing_leaves
  none_fetching hit =
      ap (λ (own : Option ℕ). of_lines own (l2_leaves (fetch_met_at c core line) c line))
      (none_from_l1i (fetch_holds c core line) _ _ (on_l2 (fetch_met_at c core line) line c) core line hit)
      ∙ ap (of_lines None) (none_from_l2 (fetch_met_at c core line) c line hit)

by_kind : (c : Caches) (core line : ℕ) (fetch write : Bool) → (if fetch then fetch_met_at c core line else met_at c core line write) ≡ Hit
    → (if fetch then fetch_leaving_at c core line else leaving_at c core line write) ≡ nothing_leaves
by_kind c core line true write hit = none_fetching c core line hit
by_kind c core line false write hit = none_at c core line write hit

hit_leaves : (c : Caches) (core : ℕ) (request : Request) → outcome_of c core request ≡ Hit → leaving_of c core request ≡ nothing_leaves
unfolding outcome_of leaving_of
hit_leaves c core request hit = by_kind c core (line_of request) (is_fetch request) (is_write request) hit

-- what a shard answers is how its caches met the access
outcome_served : (w : ShardWorld) (core start : ℕ) (request : Request) → (shards_serve w core start request).0.outcome ≡ outcome_of (shard_for w.shards request).caches core request
unfolding shards_serve met_by
outcome_served w core start request = refl

pub none_leave : (w v : ShardWorld) (core start : ℕ) (request : Request) (e : Entry) → (e, v) ≡ shards_serve w core start request → e.outcome ≡ Hit → leaves_shards w core request ≡ nothing_leaves
none_leave w v core start request e given hit =
    hit_leaves (shard_for w.shards request).caches core request
    (sym (outcome_served w core start request) ∙ (ap (λ (answer : Entry × ShardWorld). answer.0.outcome) (sym given) ∙ hit))
