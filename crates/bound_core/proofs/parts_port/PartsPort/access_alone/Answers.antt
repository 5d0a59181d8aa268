use Rattle.std.proofs.Common.{◌≡◌, ◌≤◌, ◌+◌, ℕ, List, sym, ap, ◌∙◌, subst, arith}
use Rattle.std.specs.Prelude.{length, slice_index, slice_set}
use Rattle.zs_num.specs.Request.{bank_of}
use Rattle.zs_num.specs.Servable.{IsServable}
use Rattle.bound_core.specs.ShardPort.{IsShardPort, ShardPortState, base_of, greatest_stamp, l1i_of, room_of, size_of}
use Rattle.reference.specs.ShardWorld.{ShardWorld, shards_serve}
use Rattle.shard.specs.Served.{IsServedBy, ShardState, shard_after, shard_for}
use Rattle.bound_core.proofs.PartsPorts.{gives, knows, last_is, port_after, same_memory}
use Rattle.bound_core.proofs.ShardPorts.{at_most_greatest, can_serve, greatest_after, last_at_most, stamp_is}
use Rattle.bound_core.proofs.parts_port.PartsPort.access_alone.Goals as goal

pub serve_alone-requires-clause-core : goal.serve_alone-requires-clause-core
serve_alone-requires-clause-core g c =
    let w : ShardWorld = record { shards = c.self.inside.parts; stamps = c.self.inside.stamps.items } in
    let port : IsShardPort (record { world = w; core = c.self.inside.core }) = record { shards = c.self.invariant.shards; core_is = c.self.invariant.core_is } in
    knows w c.self.inside.core c.args.start c.args.request port

pub serve_alone-requires-clause-can : goal.serve_alone-requires-clause-can
serve_alone-requires-clause-can g c =
    let w : ShardWorld = record { shards = c.self.inside.parts; stamps = c.self.inside.stamps.items } in
    let port : IsShardPort (record { world = w; core = c.self.inside.core }) = record { shards = c.self.invariant.shards; core_is = c.self.invariant.core_is } in
    let servable : IsServable (base_of w) (size_of w) (l1i_of w) c.args.request =
    subst (λ (p : ShardPortState). IsServable (base_of p.world) (size_of p.world) (l1i_of p.world) c.args.request) (sym c.self.view_is) c.requires.servable
    in
    can_serve w c.self.inside.core c.args.start c.args.request port servable

pub serve_alone-requires-clause-own_stamp : goal.serve_alone-requires-clause-own_stamp
serve_alone-requires-clause-own_stamp g c =
    let w : ShardWorld = record { shards = c.self.inside.parts; stamps = c.self.inside.stamps.items } in
    let room : 1 ≤ room_of w = subst (λ (p : ShardPortState). 1 ≤ room_of p.world) (sym c.self.view_is) c.requires.room in
    omega (arith, room, last_at_most w.shards (bank_of (length w.shards) c.args.request))

pub serve_alone-requires-clause-stamp : goal.serve_alone-requires-clause-stamp
serve_alone-requires-clause-stamp g c =
    let w : ShardWorld = record { shards = c.self.inside.parts; stamps = c.self.inside.stamps.items } in
    let room : 1 ≤ room_of w = subst (λ (p : ShardPortState). 1 ≤ room_of p.world) (sym c.self.view_is) c.requires.room in
    let stamp : c.index-last.result.now ≡ slice_index w.stamps c.self.inside.core = stamp_is w.stamps c.self.inside.core c.from-core.result c.index-last.result.now c.self.invariant.core_is c.from-core.ensures c.index-last.ensures in
    omega (arith, room, stamp, at_most_greatest w.stamps c.self.inside.core)

pub invariant_of-self-2 : goal.invariant_of-self-2
invariant_of-self-2 g c =
    let w : ShardWorld = record { shards = c.self.inside.parts; stamps = c.self.inside.stamps.items } in
    let port : IsShardPort (record { world = w; core = c.self.inside.core }) = record { shards = c.self.invariant.shards; core_is = c.self.invariant.core_is } in
    port_after w c.self.inside.core c.args.start c.args.request port c.in_ok-entry.entry c.serve_alone.new.self c.from-core.result c.in_ok-entry.ensures.after

pub returns-clause-gives : goal.returns-clause-gives
returns-clause-gives g c =
    let w : ShardWorld = record { shards = c.self.inside.parts; stamps = c.self.inside.stamps.items } in
    let core = c.self.inside.core in
    let port : IsShardPort (record { world = w; core = core }) = record { shards = c.self.invariant.shards; core_is = c.self.invariant.core_is } in
    let entry = c.in_ok-entry.entry in
    let stamp : c.index-last.result.now ≡ slice_index w.stamps core = stamp_is w.stamps core c.from-core.result c.index-last.result.now c.self.invariant.core_is c.from-core.ensures c.index-last.ensures in
    let served : IsServedBy (shard_for w.shards c.args.request) core c.args.start (slice_index w.stamps core) c.args.request entry =
    subst (λ (last : ℕ). IsServedBy (shard_for w.shards c.args.request) core c.args.start last c.args.request entry) stamp c.in_ok-entry.ensures.served
    in
    let world : shards_serve c.args.self.now.world c.args.self.now.core c.args.start c.args.request ≡ shards_serve w core c.args.start c.args.request =
    ap (λ (p : ShardPortState). shards_serve p.world p.core c.args.start c.args.request) (sym c.self.view_is)
    in
    gives w core c.args.start c.args.request port entry c.serve_alone.new.self c.from-core.result served c.in_ok-entry.ensures.after c.from-core.ensures ∙ sym world

pub returns-clause-room : goal.returns-clause-room
returns-clause-room g c =
    let w : ShardWorld = record { shards = c.self.inside.parts; stamps = c.self.inside.stamps.items } in
    let core = c.self.inside.core in
    let entry = c.in_ok-entry.entry in
    let stamp : c.index-last.result.now ≡ slice_index w.stamps core = stamp_is w.stamps core c.from-core.result c.index-last.result.now c.self.invariant.core_is c.from-core.ensures c.index-last.ensures in
    let served : IsServedBy (shard_for w.shards c.args.request) core c.args.start (slice_index w.stamps core) c.args.request entry =
    subst (λ (last : ℕ). IsServedBy (shard_for w.shards c.args.request) core c.args.start last c.args.request entry) stamp c.in_ok-entry.ensures.served
    in
    let left : (shards : List ShardState) (at : ℕ) → ShardWorld = λ shards at. record { shards = shards; stamps = slice_set w.stamps at entry.stamp } in
    let after = slice_set w.shards (bank_of (length w.shards) c.args.request) (shard_after (shard_for w.shards c.args.request) entry) in
    let grown : greatest_stamp (left after core) ≤ greatest_stamp w + 1 =
    greatest_after w core c.args.start c.args.request entry (shard_after (shard_for w.shards c.args.request) entry) c.self.invariant.shards.some served (last_is (shard_for w.shards c.args.request) entry)
    in
    let same : greatest_stamp (left c.serve_alone.new.self c.from-core.result) ≡ greatest_stamp (left after core) =
    ap (λ (shards : List ShardState). greatest_stamp (left shards c.from-core.result)) c.in_ok-entry.ensures.after ∙ ap (λ (at : ℕ). greatest_stamp (left after at)) c.from-core.ensures
    in
    let before : greatest_stamp c.args.self.now.world ≡ greatest_stamp w = ap (λ (p : ShardPortState). greatest_stamp p.world) (sym c.self.view_is) in
    omega (arith, grown, same, before)

pub returns-clause-same_base : goal.returns-clause-same_base
returns-clause-same_base g c =
    let w : ShardWorld = record { shards = c.self.inside.parts; stamps = c.self.inside.stamps.items } in
    let port : IsShardPort (record { world = w; core = c.self.inside.core }) = record { shards = c.self.invariant.shards; core_is = c.self.invariant.core_is } in
    let same = same_memory w c.self.inside.core c.args.start c.args.request port c.in_ok-entry.entry c.serve_alone.new.self c.in_ok-entry.ensures.after in
    same.0 ∙ ap (λ (p : ShardPortState). base_of p.world) c.self.view_is

pub returns-clause-same_size : goal.returns-clause-same_size
returns-clause-same_size g c =
    let w : ShardWorld = record { shards = c.self.inside.parts; stamps = c.self.inside.stamps.items } in
    let port : IsShardPort (record { world = w; core = c.self.inside.core }) = record { shards = c.self.invariant.shards; core_is = c.self.invariant.core_is } in
    let same = same_memory w c.self.inside.core c.args.start c.args.request port c.in_ok-entry.entry c.serve_alone.new.self c.in_ok-entry.ensures.after in
    same.1 ∙ ap (λ (p : ShardPortState). size_of p.world) c.self.view_is

pub returns-clause-same_l1i : goal.returns-clause-same_l1i
returns-clause-same_l1i g c =
    let w : ShardWorld = record { shards = c.self.inside.parts; stamps = c.self.inside.stamps.items } in
    let port : IsShardPort (record { world = w; core = c.self.inside.core }) = record { shards = c.self.invariant.shards; core_is = c.self.invariant.core_is } in
    let same = same_memory w c.self.inside.core c.args.start c.args.request port c.in_ok-entry.entry c.serve_alone.new.self c.in_ok-entry.ensures.after in
    same.2 ∙ ap (λ (p : ShardPortState). l1i_of p.world) c.self.view_is
