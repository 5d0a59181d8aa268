-- One chain more.
use Rattle.std.proofs.Common.{◌≡◌, ◌+◌, ◌<◌, ◌∙◌, ℕ, Some, [], sym, ap, subst, refl, arith, get_or, length, None}
use Rattle.std.specs.Prelude.{slice_set}
use Rattle.std.specs.List.{Contains, slice_get}
use Rattle.std.proofs.lemmas.List.{length-set}
use Rattle.std.proofs.lemmas.Option.{slice_get-get_or, slice_get_within}
use Rattle.zs_num.specs.declared.time.Key.{Key}
use Rattle.core_queue.specs.NextKeys.{with_next}
use Rattle.weave_chains.specs.declared.chain.Chain.{Chain}
use Rattle.weave_chains.specs.Listed.{one_after_other}
use Rattle.weave_chains.specs.NextEvents.{AreOfLists}
use Rattle.weave_chains.specs.States.{states}
use Rattle.weave_chains.proofs.FirstKeys.{HaveKeys}
use Rattle.weave_chains.proofs.FirstLook as F
use Rattle.weave_chains.proofs.beginning.first_keys.Goals as goal

pub loop-core-init : goal.loop-core-init
loop-core-init g c =
    let lists = g.A.Accesses.lists c.args.accesses.now in
    let pieces = g.X.Expand.pieces c.args.expand.now in
    let laws = c.rounds_rest_on_these.ensures c.args.expand.now in
    record {
      keys = subst (λ ks. HaveKeys pieces (one_after_other lists) (states lists c.args.chains.now) 0 ks) (sym c.requires.none) (F.none_yet laws c.requires.chained c.args.chains.now c.requires.count c.requires.fresh);
      room = refl;
      same = refl;
      count = refl;
      of = c.requires.of;
      ahead = λ core chain below at. absurd (omega (arith, below));
    }

pub bounds-chains-from : goal.bounds-chains-from
bounds-chains-from g c =
    omega (arith, c.loop-core-test.true, c.cores-cores.ensures, c.requires.count, c.loop-core.invariant.count, c.from.ensures)

pub look_ahead-start-requires-clause-end : goal.look_ahead-start-requires-clause-end
look_ahead-start-requires-clause-end g c =
    let lists = g.A.Accesses.lists c.args.accesses.now in
    let pieces = g.X.Expand.pieces c.args.expand.now in
    let laws = c.rounds_rest_on_these.ensures c.args.expand.now in
    let i = c.loop-core.invariant in
    let core : ℕ = c.loop-core.core in
    let within : core < length c.loop-core.chains = omega (arith, c.loop-core-test.true, c.cores-cores.ensures, c.requires.count, i.count) in
    let place : c.from.result ≡ core = c.from.ensures in
    let chain : Chain = get_or c.loop-core.chains c.from.result (record { access = 0; end = 0; place = 0; ended = []; last = None; next = None }) in
    let at : slice_get c.loop-core.chains core ≡ Some chain = subst (λ k. slice_get c.loop-core.chains k ≡ Some chain) place (slice_get-get_or c.loop-core.chains c.from.result (record { access = 0; end = 0; place = 0; ended = []; last = None; next = None }) (omega (arith, within, place))) in
    F.end_is laws c.requires.chained c.args.chains.now c.requires.count c.requires.fresh c.loop-core.chains i.same i.of core c.loop-core.ready.keys i.keys chain at

pub look_ahead-start-requires-clause-place : goal.look_ahead-start-requires-clause-place
look_ahead-start-requires-clause-place g c =
    let lists = g.A.Accesses.lists c.args.accesses.now in
    let pieces = g.X.Expand.pieces c.args.expand.now in
    let laws = c.rounds_rest_on_these.ensures c.args.expand.now in
    let i = c.loop-core.invariant in
    let core : ℕ = c.loop-core.core in
    let within : core < length c.loop-core.chains = omega (arith, c.loop-core-test.true, c.cores-cores.ensures, c.requires.count, i.count) in
    let place : c.from.result ≡ core = c.from.ensures in
    let chain : Chain = get_or c.loop-core.chains c.from.result (record { access = 0; end = 0; place = 0; ended = []; last = None; next = None }) in
    let at : slice_get c.loop-core.chains core ≡ Some chain = subst (λ k. slice_get c.loop-core.chains k ≡ Some chain) place (slice_get-get_or c.loop-core.chains c.from.result (record { access = 0; end = 0; place = 0; ended = []; last = None; next = None }) (omega (arith, within, place))) in
    λ e e_there. F.place_of laws c.requires.chained c.args.chains.now c.requires.count c.requires.fresh c.loop-core.chains i.same i.of core c.loop-core.ready.keys i.keys chain at e e_there

pub look_ahead-start-requires-clause-known : goal.look_ahead-start-requires-clause-known
look_ahead-start-requires-clause-known g c =
    let lists = g.A.Accesses.lists c.args.accesses.now in
    let pieces = g.X.Expand.pieces c.args.expand.now in
    let laws = c.rounds_rest_on_these.ensures c.args.expand.now in
    let i = c.loop-core.invariant in
    let core : ℕ = c.loop-core.core in
    let within : core < length c.loop-core.chains = omega (arith, c.loop-core-test.true, c.cores-cores.ensures, c.requires.count, i.count) in
    let place : c.from.result ≡ core = c.from.ensures in
    let chain : Chain = get_or c.loop-core.chains c.from.result (record { access = 0; end = 0; place = 0; ended = []; last = None; next = None }) in
    let at : slice_get c.loop-core.chains core ≡ Some chain = subst (λ k. slice_get c.loop-core.chains k ≡ Some chain) place (slice_get-get_or c.loop-core.chains c.from.result (record { access = 0; end = 0; place = 0; ended = []; last = None; next = None }) (omega (arith, within, place))) in
    F.none_known laws c.requires.chained c.args.chains.now c.requires.count c.requires.fresh c.loop-core.chains i.same i.of core c.loop-core.ready.keys i.keys chain at

pub look_ahead-start-requires-clause-soon : goal.look_ahead-start-requires-clause-soon
look_ahead-start-requires-clause-soon g c =
    let lists = g.A.Accesses.lists c.args.accesses.now in
    let pieces = g.X.Expand.pieces c.args.expand.now in
    let laws = c.rounds_rest_on_these.ensures c.args.expand.now in
    let i = c.loop-core.invariant in
    let core : ℕ = c.loop-core.core in
    let within : core < length c.loop-core.chains = omega (arith, c.loop-core-test.true, c.cores-cores.ensures, c.requires.count, i.count) in
    let place : c.from.result ≡ core = c.from.ensures in
    let chain : Chain = get_or c.loop-core.chains c.from.result (record { access = 0; end = 0; place = 0; ended = []; last = None; next = None }) in
    let at : slice_get c.loop-core.chains core ≡ Some chain = subst (λ k. slice_get c.loop-core.chains k ≡ Some chain) place (slice_get-get_or c.loop-core.chains c.from.result (record { access = 0; end = 0; place = 0; ended = []; last = None; next = None }) (omega (arith, within, place))) in
    λ e p e_there p_there. F.start_small laws c.requires.chained c.args.chains.now c.requires.count c.requires.fresh c.loop-core.chains i.same i.of core c.loop-core.ready.keys i.keys chain at e e_there p p_there c.requires.begins.0 c.requires.begins.1 c.requires.begins.2

pub push_next-requires-clause-core : goal.push_next-requires-clause-core
push_next-requires-clause-core g c =
    let lists = g.A.Accesses.lists c.args.accesses.now in
    let pieces = g.X.Expand.pieces c.args.expand.now in
    let laws = c.rounds_rest_on_these.ensures c.args.expand.now in
    let i = c.loop-core.invariant in
    let core : ℕ = c.loop-core.core in
    let within : core < length c.loop-core.chains = omega (arith, c.loop-core-test.true, c.cores-cores.ensures, c.requires.count, i.count) in
    let place : c.from.result ≡ core = c.from.ensures in
    let chain : Chain = get_or c.loop-core.chains c.from.result (record { access = 0; end = 0; place = 0; ended = []; last = None; next = None }) in
    let at : slice_get c.loop-core.chains core ≡ Some chain = subst (λ k. slice_get c.loop-core.chains k ≡ Some chain) place (slice_get-get_or c.loop-core.chains c.from.result (record { access = 0; end = 0; place = 0; ended = []; last = None; next = None }) (omega (arith, within, place))) in
    omega (arith, within, i.count, c.requires.room, i.room, c.from-in-loop-core.ensures)

pub push_next-requires-clause-soon : goal.push_next-requires-clause-soon
push_next-requires-clause-soon g c =
    let lists = g.A.Accesses.lists c.args.accesses.now in
    let pieces = g.X.Expand.pieces c.args.expand.now in
    let laws = c.rounds_rest_on_these.ensures c.args.expand.now in
    let i = c.loop-core.invariant in
    let core : ℕ = c.loop-core.core in
    let within : core < length c.loop-core.chains = omega (arith, c.loop-core-test.true, c.cores-cores.ensures, c.requires.count, i.count) in
    let place : c.from.result ≡ core = c.from.ensures in
    let chain : Chain = get_or c.loop-core.chains c.from.result (record { access = 0; end = 0; place = 0; ended = []; last = None; next = None }) in
    let at : slice_get c.loop-core.chains core ≡ Some chain = subst (λ k. slice_get c.loop-core.chains k ≡ Some chain) place (slice_get-get_or c.loop-core.chains c.from.result (record { access = 0; end = 0; place = 0; ended = []; last = None; next = None }) (omega (arith, within, place))) in
    let after = c.look_ahead-start.new.chain in
    F.starts_soon laws c.requires.chained c.args.chains.now c.requires.count c.requires.fresh c.loop-core.chains i.same i.of core c.loop-core.ready.keys i.keys chain at after c.look_ahead-start.ensures.chain c.look_ahead-start.ensures.ahead c.requires.begins.0 c.requires.begins.1 c.requires.begins.2 c.look_ahead-start.result c.look_ahead-start.ensures.start

pub push_next-requires-clause-new : goal.push_next-requires-clause-new
push_next-requires-clause-new g c =
    let lists = g.A.Accesses.lists c.args.accesses.now in
    let pieces = g.X.Expand.pieces c.args.expand.now in
    let laws = c.rounds_rest_on_these.ensures c.args.expand.now in
    let i = c.loop-core.invariant in
    let core : ℕ = c.loop-core.core in
    let within : core < length c.loop-core.chains = omega (arith, c.loop-core-test.true, c.cores-cores.ensures, c.requires.count, i.count) in
    let place : c.from.result ≡ core = c.from.ensures in
    let chain : Chain = get_or c.loop-core.chains c.from.result (record { access = 0; end = 0; place = 0; ended = []; last = None; next = None }) in
    let at : slice_get c.loop-core.chains core ≡ Some chain = subst (λ k. slice_get c.loop-core.chains k ≡ Some chain) place (slice_get-get_or c.loop-core.chains c.from.result (record { access = 0; end = 0; place = 0; ended = []; last = None; next = None }) (omega (arith, within, place))) in
    let number : core ≡ c.from-in-loop-core.result = sym c.from-in-loop-core.ensures in
    subst (λ n. (k : Key) → Contains c.loop-core.ready.keys k → k.number ≡ n → ⊥) number (F.no_other laws c.requires.chained c.args.chains.now c.requires.count c.requires.fresh c.loop-core.chains i.same i.of core c.loop-core.ready.keys i.keys chain at)

pub loop-core-preserved : goal.loop-core-preserved
loop-core-preserved g c =
    let lists = g.A.Accesses.lists c.args.accesses.now in
    let pieces = g.X.Expand.pieces c.args.expand.now in
    let laws = c.rounds_rest_on_these.ensures c.args.expand.now in
    let i = c.loop-core.invariant in
    let core : ℕ = c.loop-core.core in
    let within : core < length c.loop-core.chains = omega (arith, c.loop-core-test.true, c.cores-cores.ensures, c.requires.count, i.count) in
    let place : c.from.result ≡ core = c.from.ensures in
    let chain : Chain = get_or c.loop-core.chains c.from.result (record { access = 0; end = 0; place = 0; ended = []; last = None; next = None }) in
    let at : slice_get c.loop-core.chains core ≡ Some chain = subst (λ k. slice_get c.loop-core.chains k ≡ Some chain) place (slice_get-get_or c.loop-core.chains c.from.result (record { access = 0; end = 0; place = 0; ended = []; last = None; next = None }) (omega (arith, within, place))) in
    let after = c.look_ahead-start.new.chain in
    let number : core ≡ c.from-in-loop-core.result = sym c.from-in-loop-core.ensures in
    let pushed : c.push_next.new.ready.keys ≡ with_next core c.look_ahead-start.result c.loop-core.ready.keys =
    ap (λ q. q.keys) c.push_next.ensures ∙ ap (λ n. with_next n c.look_ahead-start.result c.loop-core.ready.keys) (sym number)
    in
    record {
      keys = subst (λ ks. HaveKeys pieces (one_after_other lists) (states lists c.args.chains.now) (core + 1) ks) (sym pushed)
          (F.keys_after laws c.requires.chained c.args.chains.now c.requires.count c.requires.fresh c.loop-core.chains i.same i.of core c.loop-core.ready.keys i.keys chain at after c.look_ahead-start.ensures.chain c.look_ahead-start.ensures.ahead c.look_ahead-start.result c.look_ahead-start.ensures.over c.look_ahead-start.ensures.start);
      room = ap (λ q. q.room) c.push_next.ensures ∙ i.room;
      same = subst (λ k. states lists (slice_set c.loop-core.chains k after) ≡ states lists c.args.chains.now) (sym place) (F.same_after laws c.requires.chained c.args.chains.now c.requires.count c.requires.fresh c.loop-core.chains i.same i.of core c.loop-core.ready.keys i.keys chain at after c.look_ahead-start.ensures.chain c.look_ahead-start.ensures.ahead);
      count = length-set c.loop-core.chains c.from.result after ∙ i.count;
      of = subst (λ k. AreOfLists lists (slice_set c.loop-core.chains k after)) (sym place) (F.of_after laws c.requires.chained c.args.chains.now c.requires.count c.requires.fresh c.loop-core.chains i.same i.of core c.loop-core.ready.keys i.keys chain at after c.look_ahead-start.ensures.chain c.look_ahead-start.ensures.ahead);
      ahead = λ n d below d_at. F.ahead_after laws c.requires.chained c.args.chains.now c.requires.count c.requires.fresh c.loop-core.chains i.same i.of core c.loop-core.ready.keys i.keys chain at after c.look_ahead-start.ensures.chain c.look_ahead-start.ensures.ahead i.ahead n d below (subst (λ k. slice_get (slice_set c.loop-core.chains k after) n ≡ Some d) place d_at);
    }

pub returns-clause-ready : goal.returns-clause-ready
returns-clause-ready g c =
    let lists = g.A.Accesses.lists c.args.accesses.now in
    let pieces = g.X.Expand.pieces c.args.expand.now in
    let laws = c.rounds_rest_on_these.ensures c.args.expand.now in
    let i = c.loop-core.invariant in
    let all : c.loop-core.core ≡ length c.args.chains.now = omega (arith, c.loop-core-test.false, c.loop-core.auto.core-end, c.cores-cores.ensures, c.requires.count) in
    F.all_ready laws c.requires.chained c.args.chains.now c.requires.count c.requires.fresh c.loop-core.core c.loop-core.ready.keys all i.keys

pub returns-clause-ahead : goal.returns-clause-ahead
returns-clause-ahead g c =
    let lists = g.A.Accesses.lists c.args.accesses.now in
    let pieces = g.X.Expand.pieces c.args.expand.now in
    let laws = c.rounds_rest_on_these.ensures c.args.expand.now in
    let i = c.loop-core.invariant in
    λ core d at. i.ahead core d (omega (arith, slice_get_within c.loop-core.chains core d at, c.loop-core-test.false, c.loop-core.auto.core-end, c.cores-cores.ensures, c.requires.count, i.count)) at
