use Rattle.std.proofs.Common.{ℕ, replicate, ap, ◌∙◌}
use Rattle.shard.proofs.HomesAndL1s.PartsServe.{made}
use Rattle.shard.proofs.parts.Parts.new.Goals as goal

pub invariant_of-result : goal.invariant_of-result
invariant_of-result c =
    (made c.args.machine.now c.args.image.now c.requires.machine c.requires.base c.requires.size c.in_ok-homes.homes.items c.in_ok-l1s.l1s.items c.in_ok-lasts.lasts.items
    c.in_ok-homes.ensures c.in_ok-l1s.ensures (c.in_ok-lasts.ensures.items_if_clones_equal (λ y e. e) ∙ ap (λ (n : ℕ). replicate n 0) c.from.ensures)).1

pub returns : goal.returns
returns c =
    (made c.args.machine.now c.args.image.now c.requires.machine c.requires.base c.requires.size c.in_ok-homes.homes.items c.in_ok-l1s.l1s.items c.in_ok-lasts.lasts.items
    c.in_ok-homes.ensures c.in_ok-l1s.ensures (c.in_ok-lasts.ensures.items_if_clones_equal (λ y e. e) ∙ ap (λ (n : ℕ). replicate n 0) c.from.ensures)).0
