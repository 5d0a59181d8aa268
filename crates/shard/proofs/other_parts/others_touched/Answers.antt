use Rattle.std.proofs.Common.{sym, ap, ◌∙◌}
use Rattle.std.specs.Prelude.{nat_eq}
use Rattle.std.specs.Set.{is_member}
use Rattle.home.specs.HomeState.{HomeState}
use Rattle.mesi_dir.specs.CoreSets.{cores_in}
use Rattle.shard.specs.Touched.{named_by}
use Rattle.shard.proofs.AskedOthers.{named_left, own_left, touched_is}
use Rattle.shard.proofs.other_parts.others_touched.Goals as goal

pub returns : goal.returns
returns c = record {
  others = λ p are asked same shared.
      touched_is p are c.args.core c.args.request asked shared (cores_in c.named_by-cores.result.words) (cores_in c.remove.new.self.words)
      (λ k. c.named_by-cores.ensures k ∙ ap (λ (h : HomeState). is_member nat_eq (named_by h c.args.request) k) (sym same)) c.remove.ensures.cores;
  named = named_left c.args.core (named_by c.args.home.now c.args.request) (cores_in c.named_by-cores.result.words) (cores_in c.remove.new.self.words) c.named_by-cores.ensures c.remove.ensures.cores;
  apart = own_left c.args.core (cores_in c.named_by-cores.result.words) (cores_in c.remove.new.self.words) c.remove.ensures.cores;
}
