use Rattle.std.proofs.Common.{length, arith}
use Rattle.zs_num.specs.declared.entry.Outcome.TheVariants.{Hit}
use Rattle.shard.specs.Seen.{PartsState}
use Rattle.shard.proofs.HomesAndL1s.PartsServe.{after_alone, by_remainder, can_ask, can_meet, latest, many_alone, parts_alone, served_is}
use Rattle.shard.proofs.parts.Parts.serve_alone.Goals as goal

pub meet_alone-requires-clause-parts : goal.meet_alone-requires-clause-parts
meet_alone-requires-clause-parts g c =
    let w : PartsState = record { homes = c.self.inside.homes.items; l1s = c.self.inside.l1s.items; lasts = c.self.inside.lasts.items } in
    let bank = by_remainder c.len.result (length c.self.inside.homes.items) c.line.result c.remainder-bank.result c.args.request c.remainder-bank.ensures c.line.ensures (omega arith) in
    can_meet w c.self.invariant c.args.self.now c.self.view_is c.args.core c.args.request c.remainder-bank.result bank c.index.result.now c.index.ensures c.deref_mut.result.now c.deref_mut.ensures.value

pub meet_alone-requires-clause-asked : goal.meet_alone-requires-clause-asked
meet_alone-requires-clause-asked g c =
    let w : PartsState = record { homes = c.self.inside.homes.items; l1s = c.self.inside.l1s.items; lasts = c.self.inside.lasts.items } in
    let bank = by_remainder c.len.result (length c.self.inside.homes.items) c.line.result c.remainder-bank.result c.args.request c.remainder-bank.ensures c.line.ensures (omega arith) in
    can_ask w c.self.invariant c.args.self.now c.self.view_is c.args.core c.args.request c.remainder-bank.result bank c.index.result.now c.index.ensures c.deref_mut.result.now c.deref_mut.ensures.value c.requires.core c.requires.can

pub next_stamp-stamp-requires-clause-own_stamp : goal.next_stamp-stamp-requires-clause-own_stamp
next_stamp-stamp-requires-clause-own_stamp g c =
    let w : PartsState = record { homes = c.self.inside.homes.items; l1s = c.self.inside.l1s.items; lasts = c.self.inside.lasts.items } in
    let bank = by_remainder c.len.result (length c.self.inside.homes.items) c.line.result c.remainder-bank.result c.args.request c.remainder-bank.ensures c.line.ensures (omega arith) in
    let at = latest w c.self.invariant c.args.self.now c.self.view_is c.args.core c.args.request c.remainder-bank.result bank c.index.result.now c.index.ensures c.deref_mut.result.now c.deref_mut.ensures.value c.index_mut.result.now c.index_mut.ensures.value in
    omega (arith, at, c.requires.own_stamp)

pub invariant_of-self-2 : goal.invariant_of-self-2
invariant_of-self-2 g c =
    let w : PartsState = record { homes = c.self.inside.homes.items; l1s = c.self.inside.l1s.items; lasts = c.self.inside.lasts.items } in
    let bank = by_remainder c.len.result (length c.self.inside.homes.items) c.line.result c.remainder-bank.result c.args.request c.remainder-bank.ensures c.line.ensures (omega arith) in
    rw (c.next_stamp-stamp.ensures.kept) (parts_alone w c.self.invariant c.args.self.now c.self.view_is c.args.core c.args.request c.remainder-bank.result bank c.index.result.now c.index.ensures c.deref_mut.result.now c.deref_mut.ensures.value c.index_mut.result.now c.index_mut.ensures.value c.requires.core c.requires.can c.meet_alone.new.l1s c.in_ok-reply.ensures.after c.meet_alone.ensures.cores c.self.inside.l1s.len (omega arith) c.next_stamp-stamp.result)

pub returns-clause-served : goal.returns-clause-served
returns-clause-served g c =
    let w : PartsState = record { homes = c.self.inside.homes.items; l1s = c.self.inside.l1s.items; lasts = c.self.inside.lasts.items } in
    let bank = by_remainder c.len.result (length c.self.inside.homes.items) c.line.result c.remainder-bank.result c.args.request c.remainder-bank.ensures c.line.ensures (omega arith) in
    served_is w c.self.invariant c.args.self.now c.self.view_is c.args.core c.args.request c.remainder-bank.result bank c.index.result.now c.index.ensures c.deref_mut.result.now c.deref_mut.ensures.value c.index_mut.result.now c.index_mut.ensures.value c.requires.core c.requires.can c.index.result.now c.meet_alone.new.l1s c.in_ok-reply.ensures.after c.meet_alone.ensures.cores c.self.inside.l1s.len (omega arith) c.next_stamp-stamp.result c.args.start c.args.last c.in_ok-reply.reply Hit c.in_ok-reply.ensures.reply c.in_ok-reply.ensures.outcome c.next_stamp-stamp.ensures.stamp

pub returns-clause-after : goal.returns-clause-after
returns-clause-after g c =
    let w : PartsState = record { homes = c.self.inside.homes.items; l1s = c.self.inside.l1s.items; lasts = c.self.inside.lasts.items } in
    let bank = by_remainder c.len.result (length c.self.inside.homes.items) c.line.result c.remainder-bank.result c.args.request c.remainder-bank.ensures c.line.ensures (omega arith) in
    rw (c.next_stamp-stamp.ensures.kept) (after_alone w c.self.invariant c.args.self.now c.self.view_is c.args.core c.args.request c.remainder-bank.result bank c.index.result.now c.index.ensures c.deref_mut.result.now c.deref_mut.ensures.value c.index_mut.result.now c.index_mut.ensures.value c.requires.core c.requires.can c.meet_alone.new.l1s c.in_ok-reply.ensures.after c.meet_alone.ensures.cores c.self.inside.l1s.len (omega arith) c.next_stamp-stamp.result c.args.start c.args.last c.in_ok-reply.reply)

pub returns-clause-shards : goal.returns-clause-shards
returns-clause-shards g c =
    let w : PartsState = record { homes = c.self.inside.homes.items; l1s = c.self.inside.l1s.items; lasts = c.self.inside.lasts.items } in
    let bank = by_remainder c.len.result (length c.self.inside.homes.items) c.line.result c.remainder-bank.result c.args.request c.remainder-bank.ensures c.line.ensures (omega arith) in
    rw (c.next_stamp-stamp.ensures.kept) (many_alone w c.self.invariant c.args.self.now c.self.view_is c.args.core c.args.request c.remainder-bank.result bank c.index.result.now c.index.ensures c.deref_mut.result.now c.deref_mut.ensures.value c.index_mut.result.now c.index_mut.ensures.value c.requires.core c.requires.can c.meet_alone.new.l1s c.in_ok-reply.ensures.after c.meet_alone.ensures.cores c.self.inside.l1s.len (omega arith) c.next_stamp-stamp.result c.args.start c.args.last c.in_ok-reply.reply)
