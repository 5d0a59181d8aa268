use Rattle.std.proofs.Common.{List, ℕ, length, refl, sym, ap, ◌∙◌}
use Rattle.home.specs.HomeState.{HomeState, bytes_at, with_bytes_at}
use Rattle.l1_cache.specs.L1State.{copy_at}
use Rattle.shard.proofs.BankSteps.{long_of, newer_not, written_long, written_same}
use Rattle.shard.proofs.shared.others.collect.Goals as goal

pub returns-in-Some-clause-long : goal.returns-in-Some-clause-long
returns-in-Some-clause-long c =
    ap (λ (h : HomeState). length h.bytes) c.write_back.ensures
    ∙ written_long c.args.home.now c.args.line c.in-Some.bytes.now c.requires (long_of (copy_at c.args.l1.now c.args.line) c.in-Some.bytes.now c.in-Some.ensures.here)

pub returns-in_default : goal.returns-in_default
returns-in_default c = record {
  after = sym (ap (λ (b : List ℕ). with_bytes_at c.args.line b c.args.home.now) (newer_not (copy_at c.args.l1.now c.args.line) (bytes_at c.args.home.now c.args.line) (λ m. c.in_default.not-M (c.letter.ensures ∙ m)))
      ∙ written_same c.args.home.now c.args.line);
  long = refl;
}
