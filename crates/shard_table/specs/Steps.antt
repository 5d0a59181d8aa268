-- What each step on the table tells the seat that makes it.
use Rattle.std.specs.Prelude.{◌≡◌, ◌≢◌, ℕ, ◌*◌, ◌+◌, ◌/◌, ◌<◌, ◌≤◌, max, All, List, [], ◌∷◌, length, slice_get, Some}
use Rattle.zs_num.specs.declared.entry.Entry.{Entry}
use Rattle.zs_num.specs.declared.entry.Outcome.TheVariants.{Hit}
use Rattle.zs_num.specs.declared.request.Request.TheVariants.{Load}
use Rattle.access_log.specs.History.{bank_of_entry, latest_of, of_bank, of_core}
use Rattle.atomic_table.specs.Table.{Me, Step}
use Rattle.shard.specs.Served.{AreServedBy, ShardState, met_by, shard_after, shard_reply}
use Rattle.shard_table.specs.declared.view.View.{View}
use Rattle.shard_table.specs.declared.view.CoreAccesses.{CoreAccesses}
use Rattle.shard_table.specs.declared.view.ShardAccesses.{ShardAccesses}
use Rattle.shard_table.specs.Lives.{IsPrefix, MayAsk, after_all}
use Rattle.shard_table.specs.Views.{given, holding, refused}

-- the shard of a step
abbrev pub shard_of_step : Step ShardState → ℕ
shard_of_step step = step.word / 16

-- What a seat learns of a shard as it takes it: the shard is what these accesses have made of it, among them those of
-- the seat's core and all that the seat noted of the shard before, and no stamp is past what all cores together can
-- make.
pub record IsTakenShard (v : View) (number : ℕ) (shard : ShardState) (list : List Entry) : Type 0 where
  pub lives : (first : ShardState) → slice_get v.shards number ≡ Some first → (shard ≡ after_all first list) × AreServedBy first list
  pub own : (part : CoreAccesses) → v.parts ≡ part ∷ [] → of_core part.core list ≡ of_bank (length v.shards) number part.list
  pub seen : All (λ note. note.shard ≡ number → IsPrefix note.list list) v.notes
  pub last : shard.last ≡ latest_of list
  pub low : latest_of list ≤ v.cores * v.room
  pub own_low : (part : CoreAccesses) → v.parts ≡ part ∷ [] → latest_of part.list ≤ v.cores * v.room

-- This shard was taken where its word was 0. Else the word has another core's number plus 1, and not this one.
abbrev pub taken_at : (number own : ℕ) → Me ShardState View → ℕ → Me ShardState View → Type 0
taken_at number own before found after =
    (found ≡ 0 → (shard : ShardState) × (list : List Entry) × (after ≡ (holding before.0 number list, (number, shard) ∷ [])) × IsTakenShard before.0 number shard list)
    × (found ≢ 0 → (after ≡ (refused before.0 number found, before.1)) × (found ≢ own) × (found ≤ before.0.cores))

abbrev pub taken : Step ShardState → Me ShardState View → ℕ → Me ShardState View → Type 0
taken step = taken_at (shard_of_step step) step.second

-- The entry with which a hold of a shard may end, of which the seat has this part and which has served these before,
-- and the shard after it.
pub record IsEntryOf (v : View) (number : ℕ) (part : CoreAccesses) (list : ShardAccesses) (e : Entry) (left : ShardState) : Type 0 where
  pub core : e.core ≡ part.core
  pub bank : bank_of_entry (length v.shards) e ≡ number
  pub asked : MayAsk v.shards e.core e.request
  pub stamp : e.stamp ≡ max (latest_of list.list) (latest_of part.list) + 1
  pub served : (first : ShardState) → slice_get v.shards number ≡ Some first
      → (e.reply ≡ shard_reply (after_all first list.list) e) × (e.outcome ≡ met_by (after_all first list.list) e) × (left ≡ shard_after (after_all first list.list) e)
  pub room : length part.list < v.room

-- some entry
abbrev pub any_entry : Entry
any_entry = record { core = 0; stamp = 0; start = 0; request = Load 0 0; reply = 0; outcome = Hit }

-- The hold of this shard ended with this entry.
abbrev pub gave_at : Entry → (number : ℕ) → Me ShardState View → Me ShardState View → Type 0
gave_at e number before after =
    (shard : ShardState) (served : ShardAccesses) (part : CoreAccesses) → before.1 ≡ (number, shard) ∷ [] → before.0.hold ≡ Some served → before.0.parts ≡ part ∷ []
    → after ≡ (given before.0 part served e, [])

abbrev pub gave : Entry → Step ShardState → Me ShardState View → ℕ → Me ShardState View → Type 0
gave e step before stored after = gave_at e (shard_of_step step) before after
