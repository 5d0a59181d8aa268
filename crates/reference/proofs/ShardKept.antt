-- What an access leaves of a shard.
use Rattle.std.proofs.Common.{◌≡◌, ℕ, Bool, true, false, cond, List, eqb, length, Option, None, refl, ◌∙◌}
use Rattle.std.specs.List.{enumerate_from}
use Rattle.std.proofs.lemmas.List.{length-map, length-set}
use Rattle.std.proofs.lemmas.List.FromFn.{length-enumerate_from}
use Rattle.zs_num.specs.declared.entry.Entry.{Entry}
use Rattle.zs_num.specs.declared.request.Request.{Request}
use Rattle.zs_num.specs.declared.request.Request.TheVariants.{Load, Store, Lr, Sc, Amo, Fetch}
use Rattle.flat_memory.specs.declared.reservation.Reservation.{Reservation}
use Rattle.flat_memory.specs.FlatMemory.{after_write, unless_written}
use Rattle.shard.specs.Marks.{does_store, marks_after}
use Rattle.shard.specs.Served.{ShardState, met_by, shard_after, shard_reply}
use Rattle.reference.specs.ShardWorld.{recorded_by_shard}

length-after_write : (core addr : ℕ) (marks : List (Option Reservation)) → length (after_write core addr marks) ≡ length marks
unfolding after_write
length-after_write core addr marks =
    length-map (enumerate_from 0 marks) (λ (at : ℕ × Option Reservation). unless_written (eqb at.0 core) addr at.1) ∙ length-enumerate_from 0 marks

length-one_of : (b : Bool) (core addr : ℕ) (marks : List (Option Reservation)) → length (cond b (after_write core addr marks) marks) ≡ length marks
length-one_of true core addr marks = length-after_write core addr marks
length-one_of false core addr marks = refl

length-marks_after : (marks : List (Option Reservation)) (core : ℕ) (request : Request) → length (marks_after marks core request) ≡ length marks
unfolding marks_after
length-marks_after marks core (Load width addr) = refl
length-marks_after marks core (Store width addr value) = length-after_write core addr marks
length-marks_after marks core (Lr width addr) = length-set marks core _
length-marks_after marks core (Sc width paired addr value) =
    length-set (cond (does_store marks core addr width paired) (after_write core addr marks) marks) core None ∙ length-one_of (does_store marks core addr width paired) core addr marks
length-marks_after marks core (Amo width op addr value) = length-after_write core addr marks
length-marks_after marks core (Fetch addr) = refl

module _ (shard : ShardState) (e : Entry) where
  pub marks_kept : length (shard_after shard e).marks ≡ length shard.marks
  unfolding shard_after
  marks_kept = length-marks_after shard.marks e.core e.request

  pub size_kept : (shard_after shard e).size ≡ shard.size
  unfolding shard_after
  size_kept = refl

module _ (shard : ShardState) (latest core start : ℕ) (request : Request) where
  pub recorded_reply : shard_reply shard (recorded_by_shard shard latest core start request) ≡ (recorded_by_shard shard latest core start request).reply
  unfolding shard_reply
  recorded_reply = refl

  pub recorded_outcome : met_by shard (recorded_by_shard shard latest core start request) ≡ (recorded_by_shard shard latest core start request).outcome
  unfolding met_by
  recorded_outcome = refl
