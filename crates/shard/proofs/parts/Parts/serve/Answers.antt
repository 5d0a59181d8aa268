use Rattle.std.proofs.Common.{length, arith}
use Rattle.shard.specs.BankSteps.{bank_with}
use Rattle.shard.specs.Seen.{PartsState}
use Rattle.shard.proofs.LikeMet.{touches_itself}
use Rattle.shard.proofs.HomesAndL1s.PartsServe.{after_is, as_many, by_remainder, can_ask, can_meet, latest, parts_then, served_is}
use Rattle.shard.proofs.parts.Parts.serve.Goals as goal

pub meet_from_home-reply-requires : goal.meet_from_home-reply-requires
meet_from_home-reply-requires c =
    let w : PartsState = record { homes = c.self.inside.homes.items; l1s = c.self.inside.l1s.items; lasts = c.self.inside.lasts.items } in
    let bank = by_remainder c.len.result (length c.self.inside.homes.items) c.line.result c.remainder-bank.result c.args.request c.remainder-bank.ensures c.line.ensures (omega arith) in
    record {
      touched = touches_itself (bank_with c.index_mut.result.now c.deref_mut.result.now) c.args.core c.args.request
          (can_meet w c.self.invariant c.args.self.now c.self.view_is c.args.core c.args.request c.remainder-bank.result bank c.index_mut.result.now c.index_mut.ensures.value c.deref_mut.result.now c.deref_mut.ensures.value)
          (can_ask w c.self.invariant c.args.self.now c.self.view_is c.args.core c.args.request c.remainder-bank.result bank c.index_mut.result.now c.index_mut.ensures.value c.deref_mut.result.now c.deref_mut.ensures.value c.requires.core c.requires.can);
    }

pub next_stamp-stamp-requires-clause-own_stamp : goal.next_stamp-stamp-requires-clause-own_stamp
next_stamp-stamp-requires-clause-own_stamp c =
    let w : PartsState = record { homes = c.self.inside.homes.items; l1s = c.self.inside.l1s.items; lasts = c.self.inside.lasts.items } in
    let bank = by_remainder c.len.result (length c.self.inside.homes.items) c.line.result c.remainder-bank.result c.args.request c.remainder-bank.ensures c.line.ensures (omega arith) in
    let at = latest w c.self.invariant c.args.self.now c.self.view_is c.args.core c.args.request c.remainder-bank.result bank c.index_mut.result.now c.index_mut.ensures.value c.deref_mut.result.now c.deref_mut.ensures.value c.index_mut-2.result.now c.index_mut-2.ensures.value in
    omega (arith, at, c.requires.own_stamp)

pub invariant_of-self : goal.invariant_of-self
invariant_of-self c =
    let w : PartsState = record { homes = c.self.inside.homes.items; l1s = c.self.inside.l1s.items; lasts = c.self.inside.lasts.items } in
    let bank = by_remainder c.len.result (length c.self.inside.homes.items) c.line.result c.remainder-bank.result c.args.request c.remainder-bank.ensures c.line.ensures (omega arith) in
    rw (c.next_stamp-stamp.ensures.kept) (parts_then w c.self.invariant c.args.self.now c.self.view_is c.args.core c.args.request c.remainder-bank.result bank c.index_mut.result.now c.index_mut.ensures.value c.deref_mut.result.now c.deref_mut.ensures.value
    c.index_mut-2.result.now c.index_mut-2.ensures.value c.requires.core c.requires.can c.meet_from_home-reply.new.home c.meet_from_home-reply.new.l1s c.meet_from_home-reply.ensures.after c.meet_from_home-reply.ensures.cores c.self.inside.l1s.len (omega arith) c.next_stamp-stamp.result)

pub returns-clause-served : goal.returns-clause-served
returns-clause-served c =
    let w : PartsState = record { homes = c.self.inside.homes.items; l1s = c.self.inside.l1s.items; lasts = c.self.inside.lasts.items } in
    let bank = by_remainder c.len.result (length c.self.inside.homes.items) c.line.result c.remainder-bank.result c.args.request c.remainder-bank.ensures c.line.ensures (omega arith) in
    served_is w c.self.invariant c.args.self.now c.self.view_is c.args.core c.args.request c.remainder-bank.result bank c.index_mut.result.now c.index_mut.ensures.value c.deref_mut.result.now c.deref_mut.ensures.value
    c.index_mut-2.result.now c.index_mut-2.ensures.value c.requires.core c.requires.can c.meet_from_home-reply.new.home c.meet_from_home-reply.new.l1s c.meet_from_home-reply.ensures.after c.meet_from_home-reply.ensures.cores c.self.inside.l1s.len (omega arith) c.next_stamp-stamp.result c.args.start c.args.last c.meet_from_home-reply.result.0 c.meet_from_home-reply.result.1 c.meet_from_home-reply.ensures.reply c.meet_from_home-reply.ensures.outcome c.next_stamp-stamp.ensures.stamp

pub returns-clause-after : goal.returns-clause-after
returns-clause-after c =
    let w : PartsState = record { homes = c.self.inside.homes.items; l1s = c.self.inside.l1s.items; lasts = c.self.inside.lasts.items } in
    let bank = by_remainder c.len.result (length c.self.inside.homes.items) c.line.result c.remainder-bank.result c.args.request c.remainder-bank.ensures c.line.ensures (omega arith) in
    rw (c.next_stamp-stamp.ensures.kept) (after_is w c.self.invariant c.args.self.now c.self.view_is c.args.core c.args.request c.remainder-bank.result bank c.index_mut.result.now c.index_mut.ensures.value c.deref_mut.result.now c.deref_mut.ensures.value
    c.index_mut-2.result.now c.index_mut-2.ensures.value c.requires.core c.requires.can c.meet_from_home-reply.new.home c.meet_from_home-reply.new.l1s c.meet_from_home-reply.ensures.after c.meet_from_home-reply.ensures.cores c.self.inside.l1s.len (omega arith) c.next_stamp-stamp.result c.args.start c.args.last c.meet_from_home-reply.result.0 c.meet_from_home-reply.result.1)

pub returns-clause-shards : goal.returns-clause-shards
returns-clause-shards c =
    let w : PartsState = record { homes = c.self.inside.homes.items; l1s = c.self.inside.l1s.items; lasts = c.self.inside.lasts.items } in
    let bank = by_remainder c.len.result (length c.self.inside.homes.items) c.line.result c.remainder-bank.result c.args.request c.remainder-bank.ensures c.line.ensures (omega arith) in
    rw (c.next_stamp-stamp.ensures.kept) (as_many w c.self.invariant c.args.self.now c.self.view_is c.args.core c.args.request c.remainder-bank.result bank c.index_mut.result.now c.index_mut.ensures.value c.deref_mut.result.now c.deref_mut.ensures.value
    c.index_mut-2.result.now c.index_mut-2.ensures.value c.requires.core c.requires.can c.meet_from_home-reply.new.home c.meet_from_home-reply.new.l1s c.meet_from_home-reply.ensures.after c.meet_from_home-reply.ensures.cores c.self.inside.l1s.len (omega arith) c.next_stamp-stamp.result c.args.start c.args.last c.meet_from_home-reply.result.0 c.meet_from_home-reply.result.1)
