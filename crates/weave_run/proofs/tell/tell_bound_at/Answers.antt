-- The domain keeps to the weave, so its bound is at most the finish.
use Rattle.std.proofs.Common.{◌≡◌, ◌<◌, ℕ, length, get_or, Some, slice_get, sym, ap, subst, arith}
use Rattle.std.proofs.lemmas.Option.{slice_get-get_or, slice_get_within}
use Rattle.weave_core.specs.DomainCalls.{IsOutOf}
use Rattle.domain_map.specs.Domains.{Partition}
use Rattle.weave_run.proofs.Rounding.{learned_nothing}
use Rattle.weave_run.proofs.Tellings.{gives_bound, out_of_plan}
use Rattle.weave_run.proofs.tell.tell_bound_at.Goals as goal

pub returns-then-index-outgoing : goal.returns-then-index-outgoing
returns-then-index-outgoing g c = learned_nothing g.C.Component.stepped c.args.plan.now c.args.domains.now c.requires.kept

pub returns-in_default : goal.returns-in_default
returns-in_default g c = learned_nothing g.C.Component.stepped c.args.plan.now c.args.domains.now c.requires.kept

pub bound-requires : goal.bound-requires
bound-requires g c =
    let below : c.args.index < length c.outgoing-outgoing.result.now = (let l = c.if-index-outgoing.false in omega (arith, l)) in
    let out : IsOutOf (get_or c.args.domains.now c.from.result c.index-domains-from.result).partition (get_or c.args.domains.now c.from.result c.index-domains-from.result).domain (get_or c.outgoing-outgoing.result.now c.args.index 0) =
    c.outgoing-outgoing.ensures.each c.args.index (get_or c.outgoing-outgoing.result.now c.args.index 0) (slice_get-get_or c.outgoing-outgoing.result.now c.args.index 0 below)
    in
    let source : slice_get c.args.domains.now c.args.source ≡ Some (get_or c.args.domains.now c.from.result c.index-domains-from.result) =
    subst (λ (n : ℕ). slice_get c.args.domains.now c.args.source ≡ Some (get_or c.args.domains.now n c.index-domains-from.result)) (sym c.from.ensures) (slice_get-get_or c.args.domains.now c.args.source c.index-domains-from.result c.requires.source)
    in
    record { out = out }

pub tell_bound-requires-clause-there : goal.tell_bound-requires-clause-there
tell_bound-requires-clause-there g c =
    let below : c.args.index < length c.outgoing-outgoing.result.now = (let l = c.if-index-outgoing.false in omega (arith, l)) in
    let out : IsOutOf (get_or c.args.domains.now c.from.result c.index-domains-from.result).partition (get_or c.args.domains.now c.from.result c.index-domains-from.result).domain (get_or c.outgoing-outgoing.result.now c.args.index 0) =
    c.outgoing-outgoing.ensures.each c.args.index (get_or c.outgoing-outgoing.result.now c.args.index 0) (slice_get-get_or c.outgoing-outgoing.result.now c.args.index 0 below)
    in
    let source : slice_get c.args.domains.now c.args.source ≡ Some (get_or c.args.domains.now c.from.result c.index-domains-from.result) =
    subst (λ (n : ℕ). slice_get c.args.domains.now c.args.source ≡ Some (get_or c.args.domains.now n c.index-domains-from.result)) (sym c.from.ensures) (slice_get-get_or c.args.domains.now c.args.source c.index-domains-from.result c.requires.source)
    in
    let at = out_of_plan g.C.Component.stepped c.args.plan.now c.args.domains.now c.requires.kept c.args.source (get_or c.args.domains.now c.from.result c.index-domains-from.result) source (get_or c.outgoing-outgoing.result.now c.args.index 0) out in
    let w = slice_get_within c.args.plan.now.parts.value.crossings (get_or c.outgoing-outgoing.result.now c.args.index 0) at.crossing at.there in
    let p = ap (λ (q : Partition). length q.crossings) c.requires.parts in
    omega (arith, w, p)

pub tell_bound-requires-clause-bound : goal.tell_bound-requires-clause-bound
tell_bound-requires-clause-bound g c =
    let below : c.args.index < length c.outgoing-outgoing.result.now = (let l = c.if-index-outgoing.false in omega (arith, l)) in
    let out : IsOutOf (get_or c.args.domains.now c.from.result c.index-domains-from.result).partition (get_or c.args.domains.now c.from.result c.index-domains-from.result).domain (get_or c.outgoing-outgoing.result.now c.args.index 0) =
    c.outgoing-outgoing.ensures.each c.args.index (get_or c.outgoing-outgoing.result.now c.args.index 0) (slice_get-get_or c.outgoing-outgoing.result.now c.args.index 0 below)
    in
    let source : slice_get c.args.domains.now c.args.source ≡ Some (get_or c.args.domains.now c.from.result c.index-domains-from.result) =
    subst (λ (n : ℕ). slice_get c.args.domains.now c.args.source ≡ Some (get_or c.args.domains.now n c.index-domains-from.result)) (sym c.from.ensures) (slice_get-get_or c.args.domains.now c.args.source c.index-domains-from.result c.requires.source)
    in
    gives_bound g.C.Component.serves g.C.Component.floor g.C.Component.stepped g.C.Component.greatest c.domains_keep_to_the_weave.ensures c.args.plan.now c.requires.can c.args.domains.now c.requires.kept c.args.source (get_or c.args.domains.now c.from.result c.index-domains-from.result) source (get_or c.outgoing-outgoing.result.now c.args.index 0) c.in-Some.bound out c.in-Some.ensures
