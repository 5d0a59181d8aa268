-- What a core's own L1 serves alone is what its bank does.
use Rattle.std.proofs.Common.{◌≡◌, ℕ, Bool, true, cond, List, Option, Some, None, get_or, sym, ap, ◌∙◌}
use Rattle.std.specs.Prelude.{IfSome}
use Rattle.zs_num.specs.declared.entry.Outcome.TheVariants.{Hit}
use Rattle.zs_num.specs.declared.request.Request.{Request}
use Rattle.home.specs.HomeState.{HomeState}
use Rattle.l1_cache.specs.L1State.{L1State, is_private, no_l1, private_after, private_reply}
use Rattle.shard.specs.BankSteps.{bank_with}
use Rattle.shard.specs.PartsLaws.{AreParts, IsAsked}
use Rattle.shard.specs.SharedStep.{bank_after, bank_reply, met_at_bank, shared_after, with_l1}
use Rattle.shard.proofs.BankMet.{met_alone, replied_alone}
use Rattle.shard.proofs.BankSteps.{with_home_of}

module _ (home other : HomeState) (l1s s : List L1State) (core : ℕ) (request : Request) where
  pub after_alone : (reply : Option ℕ) → IfSome reply (λ _. is_private (get_or l1s core no_l1) request ≡ true)
      → IfSome reply (λ _. bank_with other s ≡ with_l1 core (λ l1. private_after l1 request) (bank_with other l1s))
      → IfSome reply (λ _. bank_with home s ≡ bank_after (bank_with home l1s) core request)
  unfolding bank_after
  after_alone None private step = tt
  after_alone (Some reply) private step =
      ap (with_home_of home) step
      ∙ sym (ap (λ (b : Bool). cond b (with_l1 core (λ l1. private_after l1 request) (bank_with home l1s)) (shared_after (bank_with home l1s) core request)) private)

module _ (home : HomeState) (l1s : List L1State) (core : ℕ) (request : Request) where
  pub reply_alone : (reply : Option ℕ) → IfSome reply (λ _. is_private (get_or l1s core no_l1) request ≡ true) → IfSome reply (λ r. r ≡ private_reply (get_or l1s core no_l1) request)
      → IfSome reply (λ r. r ≡ bank_reply (bank_with home l1s) core request)
  reply_alone None private is = tt
  reply_alone (Some reply) private is = is ∙ replied_alone (bank_with home l1s) core request private

  pub hit_alone : AreParts (bank_with home l1s) → IsAsked (bank_with home l1s) core request → (reply : Option ℕ) → IfSome reply (λ _. is_private (get_or l1s core no_l1) request ≡ true)
      → IfSome reply (λ _. Hit ≡ met_at_bank (bank_with home l1s) core request)
  hit_alone are asked None private = tt
  hit_alone are asked (Some reply) private = met_alone (bank_with home l1s) core request are asked private
