use Rattle.std.proofs.Common.{◌≡◌, ◌+◌, ◌++◌, List, length, take, drop, refl, sym, ap, ◌∙◌, subst, arith}
use Rattle.zs_num.specs.declared.entry.Entry.{Entry}
use Rattle.l1_cache.specs.L1State.{L1State}
use Rattle.shard.specs.BankSteps.{bank_with}
use Rattle.shard.specs.PartsLaws.{AreParts, IsAsked}
use Rattle.shard.specs.Served.{CanServe, KnowsCore, ShardState}
use Rattle.shard.specs.SharedStep.{bank_after, bank_reply, met_at_bank}
use Rattle.shard.proofs.LikeMet.{touches_itself}
use Rattle.shard.proofs.ShardSeen.{asked_of, items_left, last_is, layout_of, seen_after, seen_base, seen_cores, seen_l1i, seen_last, seen_met, seen_number, seen_reply, seen_shards, seen_size}
use Rattle.shard.proofs.shard.Shard.serve.Goals as goal

pub meet-met-requires : goal.meet-met-requires
meet-met-requires c =
    let home = c.self.inside.home in
    let p = bank_with home c.self.inside.l1s.items in
    let last = c.self.inside.last in
    let s = c.args.self.now in
    let knows = subst (λ (z : ShardState). KnowsCore z c.args.core) (sym c.self.view_is) c.requires.core in
    let can = subst (λ (z : ShardState). CanServe z c.args.request) (sym c.self.view_is) c.requires.can in
    let asked = asked_of p last c.args.core c.args.request c.self.invariant.parts knows can in
    record {
      touched = touches_itself (bank_with home c.deref_mut.result.now) c.args.core c.args.request
          (subst (λ (l1s : List L1State). AreParts (bank_with home l1s)) (sym c.deref_mut.ensures.value) c.self.invariant.parts)
          (subst (λ (l1s : List L1State). IsAsked (bank_with home l1s) c.args.core c.args.request) (sym c.deref_mut.ensures.value) asked);
    }

pub invariant_of-self : goal.invariant_of-self
invariant_of-self c =
    let home = c.self.inside.home in
    let p = bank_with home c.self.inside.l1s.items in
    let last = c.self.inside.last in
    let s = c.args.self.now in
    let knows = subst (λ (z : ShardState). KnowsCore z c.args.core) (sym c.self.view_is) c.requires.core in
    let can = subst (λ (z : ShardState). CanServe z c.args.request) (sym c.self.view_is) c.requires.can in
    let asked = asked_of p last c.args.core c.args.request c.self.invariant.parts knows can in
    let e : Entry = record { core = c.args.core; stamp = c.max.result + 1; start = c.args.start; request = c.args.request; reply = c.meet-met.result.0; outcome = c.meet-met.result.1 } in
    let d = c.deref_mut.ensures.value in
    let new = c.meet-met.new.l1s in
    let all : c.self.inside.l1s.len ≡ length new = omega (arith, c.meet-met.ensures.cores, ap (λ (l : List L1State). length l) d) in
    let left = take c.self.inside.l1s.len (new ++ drop (length new) c.self.inside.l1s.items) in
    let q = bank_with c.meet-met.new.home left in
    let is : q ≡ bank_after p c.args.core c.args.request
    = ap (bank_with c.meet-met.new.home) (items_left c.self.inside.l1s.len new c.self.inside.l1s.items all)
    ∙ (c.meet-met.ensures.after ∙ ap (λ (l1s : List L1State). bank_after (bank_with home l1s) c.args.core c.args.request) d) in
    layout_of p last e c.self.invariant.parts asked c.self.inside.number c.self.inside.count q is c.self.invariant.number_is c.self.invariant.count_is

pub overflow_add-self : goal.overflow_add-self
overflow_add-self c =
    omega (arith, last_is (bank_with c.self.inside.home c.self.inside.l1s.items) c.self.inside.last c.args.self.now c.self.view_is, c.requires.own_stamp, c.requires.stamp)

pub returns-clause-served : goal.returns-clause-served
returns-clause-served c =
    let home = c.self.inside.home in
    let p = bank_with home c.self.inside.l1s.items in
    let last = c.self.inside.last in
    let s = c.args.self.now in
    let knows = subst (λ (z : ShardState). KnowsCore z c.args.core) (sym c.self.view_is) c.requires.core in
    let can = subst (λ (z : ShardState). CanServe z c.args.request) (sym c.self.view_is) c.requires.can in
    let asked = asked_of p last c.args.core c.args.request c.self.invariant.parts knows can in
    let e : Entry = record { core = c.args.core; stamp = c.max.result + 1; start = c.args.start; request = c.args.request; reply = c.meet-met.result.0; outcome = c.meet-met.result.1 } in
    let d = c.deref_mut.ensures.value in
    let new = c.meet-met.new.l1s in
    let all : c.self.inside.l1s.len ≡ length new = omega (arith, c.meet-met.ensures.cores, ap (λ (l : List L1State). length l) d) in
    let left = take c.self.inside.l1s.len (new ++ drop (length new) c.self.inside.l1s.items) in
    let q = bank_with c.meet-met.new.home left in
    let is : q ≡ bank_after p c.args.core c.args.request
    = ap (bank_with c.meet-met.new.home) (items_left c.self.inside.l1s.len new c.self.inside.l1s.items all)
    ∙ (c.meet-met.ensures.after ∙ ap (λ (l1s : List L1State). bank_after (bank_with home l1s) c.args.core c.args.request) d) in
    let d_reply = ap (λ (l1s : List L1State). bank_reply (bank_with home l1s) c.args.core c.args.request) d in
    let d_met = ap (λ (l1s : List L1State). met_at_bank (bank_with home l1s) c.args.core c.args.request) d in
    record {
      core_is = refl;
      start_is = refl;
      request_is = refl;
      reply = c.meet-met.ensures.reply ∙ (d_reply ∙ seen_reply p q last e s c.self.invariant.parts asked c.self.view_is is);
      outcome = c.meet-met.ensures.outcome ∙ (d_met ∙ seen_met p q last e s c.self.invariant.parts asked c.self.view_is is);
      stamp = omega (arith, last_is p last s c.self.view_is);
    }

pub returns-clause-after : goal.returns-clause-after
returns-clause-after c =
    let home = c.self.inside.home in
    let p = bank_with home c.self.inside.l1s.items in
    let last = c.self.inside.last in
    let s = c.args.self.now in
    let knows = subst (λ (z : ShardState). KnowsCore z c.args.core) (sym c.self.view_is) c.requires.core in
    let can = subst (λ (z : ShardState). CanServe z c.args.request) (sym c.self.view_is) c.requires.can in
    let asked = asked_of p last c.args.core c.args.request c.self.invariant.parts knows can in
    let e : Entry = record { core = c.args.core; stamp = c.max.result + 1; start = c.args.start; request = c.args.request; reply = c.meet-met.result.0; outcome = c.meet-met.result.1 } in
    let d = c.deref_mut.ensures.value in
    let new = c.meet-met.new.l1s in
    let all : c.self.inside.l1s.len ≡ length new = omega (arith, c.meet-met.ensures.cores, ap (λ (l : List L1State). length l) d) in
    let left = take c.self.inside.l1s.len (new ++ drop (length new) c.self.inside.l1s.items) in
    let q = bank_with c.meet-met.new.home left in
    let is : q ≡ bank_after p c.args.core c.args.request
    = ap (bank_with c.meet-met.new.home) (items_left c.self.inside.l1s.len new c.self.inside.l1s.items all)
    ∙ (c.meet-met.ensures.after ∙ ap (λ (l1s : List L1State). bank_after (bank_with home l1s) c.args.core c.args.request) d) in
    seen_after p q last e s c.self.invariant.parts asked c.self.view_is is

pub returns-clause-number : goal.returns-clause-number
returns-clause-number c =
    let home = c.self.inside.home in
    let p = bank_with home c.self.inside.l1s.items in
    let last = c.self.inside.last in
    let s = c.args.self.now in
    let knows = subst (λ (z : ShardState). KnowsCore z c.args.core) (sym c.self.view_is) c.requires.core in
    let can = subst (λ (z : ShardState). CanServe z c.args.request) (sym c.self.view_is) c.requires.can in
    let asked = asked_of p last c.args.core c.args.request c.self.invariant.parts knows can in
    let e : Entry = record { core = c.args.core; stamp = c.max.result + 1; start = c.args.start; request = c.args.request; reply = c.meet-met.result.0; outcome = c.meet-met.result.1 } in
    let d = c.deref_mut.ensures.value in
    let new = c.meet-met.new.l1s in
    let all : c.self.inside.l1s.len ≡ length new = omega (arith, c.meet-met.ensures.cores, ap (λ (l : List L1State). length l) d) in
    let left = take c.self.inside.l1s.len (new ++ drop (length new) c.self.inside.l1s.items) in
    let q = bank_with c.meet-met.new.home left in
    let is : q ≡ bank_after p c.args.core c.args.request
    = ap (bank_with c.meet-met.new.home) (items_left c.self.inside.l1s.len new c.self.inside.l1s.items all)
    ∙ (c.meet-met.ensures.after ∙ ap (λ (l1s : List L1State). bank_after (bank_with home l1s) c.args.core c.args.request) d) in
    seen_number p q last e s c.self.invariant.parts asked c.self.view_is is

pub returns-clause-base : goal.returns-clause-base
returns-clause-base c =
    let home = c.self.inside.home in
    let p = bank_with home c.self.inside.l1s.items in
    let last = c.self.inside.last in
    let s = c.args.self.now in
    let knows = subst (λ (z : ShardState). KnowsCore z c.args.core) (sym c.self.view_is) c.requires.core in
    let can = subst (λ (z : ShardState). CanServe z c.args.request) (sym c.self.view_is) c.requires.can in
    let asked = asked_of p last c.args.core c.args.request c.self.invariant.parts knows can in
    let e : Entry = record { core = c.args.core; stamp = c.max.result + 1; start = c.args.start; request = c.args.request; reply = c.meet-met.result.0; outcome = c.meet-met.result.1 } in
    let d = c.deref_mut.ensures.value in
    let new = c.meet-met.new.l1s in
    let all : c.self.inside.l1s.len ≡ length new = omega (arith, c.meet-met.ensures.cores, ap (λ (l : List L1State). length l) d) in
    let left = take c.self.inside.l1s.len (new ++ drop (length new) c.self.inside.l1s.items) in
    let q = bank_with c.meet-met.new.home left in
    let is : q ≡ bank_after p c.args.core c.args.request
    = ap (bank_with c.meet-met.new.home) (items_left c.self.inside.l1s.len new c.self.inside.l1s.items all)
    ∙ (c.meet-met.ensures.after ∙ ap (λ (l1s : List L1State). bank_after (bank_with home l1s) c.args.core c.args.request) d) in
    seen_base p q last e s c.self.invariant.parts asked c.self.view_is is

pub returns-clause-size : goal.returns-clause-size
returns-clause-size c =
    let home = c.self.inside.home in
    let p = bank_with home c.self.inside.l1s.items in
    let last = c.self.inside.last in
    let s = c.args.self.now in
    let knows = subst (λ (z : ShardState). KnowsCore z c.args.core) (sym c.self.view_is) c.requires.core in
    let can = subst (λ (z : ShardState). CanServe z c.args.request) (sym c.self.view_is) c.requires.can in
    let asked = asked_of p last c.args.core c.args.request c.self.invariant.parts knows can in
    let e : Entry = record { core = c.args.core; stamp = c.max.result + 1; start = c.args.start; request = c.args.request; reply = c.meet-met.result.0; outcome = c.meet-met.result.1 } in
    let d = c.deref_mut.ensures.value in
    let new = c.meet-met.new.l1s in
    let all : c.self.inside.l1s.len ≡ length new = omega (arith, c.meet-met.ensures.cores, ap (λ (l : List L1State). length l) d) in
    let left = take c.self.inside.l1s.len (new ++ drop (length new) c.self.inside.l1s.items) in
    let q = bank_with c.meet-met.new.home left in
    let is : q ≡ bank_after p c.args.core c.args.request
    = ap (bank_with c.meet-met.new.home) (items_left c.self.inside.l1s.len new c.self.inside.l1s.items all)
    ∙ (c.meet-met.ensures.after ∙ ap (λ (l1s : List L1State). bank_after (bank_with home l1s) c.args.core c.args.request) d) in
    seen_size p q last e s c.self.invariant.parts asked c.self.view_is is

pub returns-clause-shards : goal.returns-clause-shards
returns-clause-shards c =
    let home = c.self.inside.home in
    let p = bank_with home c.self.inside.l1s.items in
    let last = c.self.inside.last in
    let s = c.args.self.now in
    let knows = subst (λ (z : ShardState). KnowsCore z c.args.core) (sym c.self.view_is) c.requires.core in
    let can = subst (λ (z : ShardState). CanServe z c.args.request) (sym c.self.view_is) c.requires.can in
    let asked = asked_of p last c.args.core c.args.request c.self.invariant.parts knows can in
    let e : Entry = record { core = c.args.core; stamp = c.max.result + 1; start = c.args.start; request = c.args.request; reply = c.meet-met.result.0; outcome = c.meet-met.result.1 } in
    let d = c.deref_mut.ensures.value in
    let new = c.meet-met.new.l1s in
    let all : c.self.inside.l1s.len ≡ length new = omega (arith, c.meet-met.ensures.cores, ap (λ (l : List L1State). length l) d) in
    let left = take c.self.inside.l1s.len (new ++ drop (length new) c.self.inside.l1s.items) in
    let q = bank_with c.meet-met.new.home left in
    let is : q ≡ bank_after p c.args.core c.args.request
    = ap (bank_with c.meet-met.new.home) (items_left c.self.inside.l1s.len new c.self.inside.l1s.items all)
    ∙ (c.meet-met.ensures.after ∙ ap (λ (l1s : List L1State). bank_after (bank_with home l1s) c.args.core c.args.request) d) in
    seen_shards p q last e s c.self.invariant.parts asked c.self.view_is is

pub returns-clause-l1i : goal.returns-clause-l1i
returns-clause-l1i c =
    let home = c.self.inside.home in
    let p = bank_with home c.self.inside.l1s.items in
    let last = c.self.inside.last in
    let s = c.args.self.now in
    let knows = subst (λ (z : ShardState). KnowsCore z c.args.core) (sym c.self.view_is) c.requires.core in
    let can = subst (λ (z : ShardState). CanServe z c.args.request) (sym c.self.view_is) c.requires.can in
    let asked = asked_of p last c.args.core c.args.request c.self.invariant.parts knows can in
    let e : Entry = record { core = c.args.core; stamp = c.max.result + 1; start = c.args.start; request = c.args.request; reply = c.meet-met.result.0; outcome = c.meet-met.result.1 } in
    let d = c.deref_mut.ensures.value in
    let new = c.meet-met.new.l1s in
    let all : c.self.inside.l1s.len ≡ length new = omega (arith, c.meet-met.ensures.cores, ap (λ (l : List L1State). length l) d) in
    let left = take c.self.inside.l1s.len (new ++ drop (length new) c.self.inside.l1s.items) in
    let q = bank_with c.meet-met.new.home left in
    let is : q ≡ bank_after p c.args.core c.args.request
    = ap (bank_with c.meet-met.new.home) (items_left c.self.inside.l1s.len new c.self.inside.l1s.items all)
    ∙ (c.meet-met.ensures.after ∙ ap (λ (l1s : List L1State). bank_after (bank_with home l1s) c.args.core c.args.request) d) in
    seen_l1i p q last e s c.self.invariant.parts asked c.self.view_is is

pub returns-clause-cores : goal.returns-clause-cores
returns-clause-cores c =
    let home = c.self.inside.home in
    let p = bank_with home c.self.inside.l1s.items in
    let last = c.self.inside.last in
    let s = c.args.self.now in
    let knows = subst (λ (z : ShardState). KnowsCore z c.args.core) (sym c.self.view_is) c.requires.core in
    let can = subst (λ (z : ShardState). CanServe z c.args.request) (sym c.self.view_is) c.requires.can in
    let asked = asked_of p last c.args.core c.args.request c.self.invariant.parts knows can in
    let e : Entry = record { core = c.args.core; stamp = c.max.result + 1; start = c.args.start; request = c.args.request; reply = c.meet-met.result.0; outcome = c.meet-met.result.1 } in
    let d = c.deref_mut.ensures.value in
    let new = c.meet-met.new.l1s in
    let all : c.self.inside.l1s.len ≡ length new = omega (arith, c.meet-met.ensures.cores, ap (λ (l : List L1State). length l) d) in
    let left = take c.self.inside.l1s.len (new ++ drop (length new) c.self.inside.l1s.items) in
    let q = bank_with c.meet-met.new.home left in
    let is : q ≡ bank_after p c.args.core c.args.request
    = ap (bank_with c.meet-met.new.home) (items_left c.self.inside.l1s.len new c.self.inside.l1s.items all)
    ∙ (c.meet-met.ensures.after ∙ ap (λ (l1s : List L1State). bank_after (bank_with home l1s) c.args.core c.args.request) d) in
    seen_cores p q last e s c.self.invariant.parts asked c.self.view_is is

pub returns-clause-last : goal.returns-clause-last
returns-clause-last c =
    let home = c.self.inside.home in
    let p = bank_with home c.self.inside.l1s.items in
    let last = c.self.inside.last in
    let s = c.args.self.now in
    let knows = subst (λ (z : ShardState). KnowsCore z c.args.core) (sym c.self.view_is) c.requires.core in
    let can = subst (λ (z : ShardState). CanServe z c.args.request) (sym c.self.view_is) c.requires.can in
    let asked = asked_of p last c.args.core c.args.request c.self.invariant.parts knows can in
    let e : Entry = record { core = c.args.core; stamp = c.max.result + 1; start = c.args.start; request = c.args.request; reply = c.meet-met.result.0; outcome = c.meet-met.result.1 } in
    let d = c.deref_mut.ensures.value in
    let new = c.meet-met.new.l1s in
    let all : c.self.inside.l1s.len ≡ length new = omega (arith, c.meet-met.ensures.cores, ap (λ (l : List L1State). length l) d) in
    let left = take c.self.inside.l1s.len (new ++ drop (length new) c.self.inside.l1s.items) in
    let q = bank_with c.meet-met.new.home left in
    let is : q ≡ bank_after p c.args.core c.args.request
    = ap (bank_with c.meet-met.new.home) (items_left c.self.inside.l1s.len new c.self.inside.l1s.items all)
    ∙ (c.meet-met.ensures.after ∙ ap (λ (l1s : List L1State). bank_after (bank_with home l1s) c.args.core c.args.request) d) in
    seen_last p q last e s c.self.invariant.parts asked c.self.view_is is
