use Rattle.std.proofs.Common.{rules, ◌≡◌, ◌≤◌, ◌+◌, ℕ, length, sym, ap, ◌∙◌, subst, arith}
use Rattle.std.specs.Prelude.{slice_index, slice_set}
use Rattle.zs_num.specs.Servable.{IsServable}
use Rattle.zs_num.specs.declared.entry.Entry.{Entry}
use Rattle.bound_core.specs.ShardPort.{IsShardAt, IsShardPort, ShardPortState, base_of, greatest_stamp, l1i_of, room_of, size_of}
use Rattle.reference.specs.ShardWorld.{ShardWorld, shards_serve}
use Rattle.shard.specs.HaveL1i.{have_l1i}
use Rattle.shard.specs.Served.{CanServe, IsServedBy, ShardState, shard_after, shard_for}
use Rattle.bound_core.proofs.AllShards.{shard_at}
use Rattle.bound_core.proofs.ShardPorts.{at_most_greatest, can_serve, greatest_after, last_at_most, port_set, served_is, shard_there, stamp_is}
use Rattle.bound_core.proofs.shard_port.ShardPortPort.access.Goals as goal
use Rattle.zs_num.specs.Request.{bank_of}

pub serve-entry-requires-clause-can : goal.serve-entry-requires-clause-can
serve-entry-requires-clause-can c =
    let w : ShardWorld = record { shards = c.self.inside.shards.items; stamps = c.self.inside.stamps.items } in
    let port : IsShardPort (record { world = w; core = c.self.inside.core }) = record { shards = c.self.invariant.shards; core_is = c.self.invariant.core_is } in
    let is : c.index_mut.result.now ≡ shard_for w.shards c.args.request =
    shard_at w.shards c.args.request c.index_mut.result.now _ port.shards.some (search rules) c.index_mut.ensures.value
    in
    let servable : IsServable (base_of w) (size_of w) (l1i_of w) c.args.request =
    subst (λ (p : ShardPortState). IsServable (base_of p.world) (size_of p.world) (l1i_of p.world) c.args.request) (sym c.self.view_is) c.requires.servable
    in
    subst (λ (s : ShardState). CanServe s c.args.request) (sym is) (can_serve w c.self.inside.core c.args.start c.args.request port servable)

pub serve-entry-requires-clause-own_stamp : goal.serve-entry-requires-clause-own_stamp
serve-entry-requires-clause-own_stamp c =
    let w : ShardWorld = record { shards = c.self.inside.shards.items; stamps = c.self.inside.stamps.items } in
    let is : c.index_mut.result.now ≡ shard_for w.shards c.args.request =
    shard_at w.shards c.args.request c.index_mut.result.now _ c.self.invariant.shards.some (search rules) c.index_mut.ensures.value
    in
    let room : 1 ≤ room_of w = subst (λ (p : ShardPortState). 1 ≤ room_of p.world) (sym c.self.view_is) c.requires.room in
    let last : c.index_mut.result.now.last ≡ (shard_for w.shards c.args.request).last = ap (λ (s : ShardState). s.last) is in
    omega (arith, room, last, last_at_most w.shards (bank_of (length w.shards) c.args.request))

pub serve-entry-requires-clause-stamp : goal.serve-entry-requires-clause-stamp
serve-entry-requires-clause-stamp c =
    let w : ShardWorld = record { shards = c.self.inside.shards.items; stamps = c.self.inside.stamps.items } in
    let room : 1 ≤ room_of w = subst (λ (p : ShardPortState). 1 ≤ room_of p.world) (sym c.self.view_is) c.requires.room in
    let stamp : c.index.result.now ≡ slice_index w.stamps c.self.inside.core = stamp_is w.stamps c.self.inside.core c.from-core.result c.index.result.now c.self.invariant.core_is c.from-core.ensures c.index.ensures in
    omega (arith, room, stamp, at_most_greatest w.stamps c.self.inside.core)

pub invariant_of-self : goal.invariant_of-self
invariant_of-self c =
    let w : ShardWorld = record { shards = c.self.inside.shards.items; stamps = c.self.inside.stamps.items } in
    let port : IsShardPort (record { world = w; core = c.self.inside.core }) = record { shards = c.self.invariant.shards; core_is = c.self.invariant.core_is } in
    let number : c.remainder-bank.result ≡ bank_of (length w.shards) c.args.request = search rules in
    let is : c.index_mut.result.now ≡ shard_for w.shards c.args.request =
    shard_at w.shards c.args.request c.index_mut.result.now _ port.shards.some number c.index_mut.ensures.value
    in
    let at = port.shards.each (bank_of (length w.shards) c.args.request) (shard_for w.shards c.args.request) (shard_there w c.self.inside.core c.args.start c.args.request port.shards.some) in
    let kept = c.serve-entry.ensures in
    let left : IsShardAt (length w.shards) (length w.stamps) (c.remainder-bank.result) (base_of w) (size_of w) c.serve-entry.new.self = record {
      number_is = kept.number ∙ (ap (λ (s : ShardState). s.number) is ∙ (at.number_is ∙ sym number));
      count = kept.shards ∙ (ap (λ (s : ShardState). s.caches.shards) is ∙ at.count);
      cores_known = kept.cores ∙ (ap (λ (s : ShardState). length s.marks) is ∙ at.cores_known);
      base_is = kept.base ∙ (ap (λ (s : ShardState). s.base) is ∙ at.base_is);
      size_is = kept.size ∙ (ap (λ (s : ShardState). s.size) is ∙ at.size_is);
    } in
    let alike = port.shards.alike (bank_of (length w.shards) c.args.request) (shard_for w.shards c.args.request) (shard_there w c.self.inside.core c.args.start c.args.request port.shards.some) in
    let l1i : have_l1i c.serve-entry.new.self.caches ≡ l1i_of w = kept.l1i ∙ (ap (λ (s : ShardState). have_l1i s.caches) is ∙ alike) in
    port_set (record { world = w; core = c.self.inside.core }) _ c.serve-entry.new.self c.from-core.result c.serve-entry.result.stamp port left l1i

pub returns-clause-gives : goal.returns-clause-gives
returns-clause-gives c =
    let w : ShardWorld = record { shards = c.self.inside.shards.items; stamps = c.self.inside.stamps.items } in
    let core = c.self.inside.core in
    let number : c.remainder-bank.result ≡ bank_of (length w.shards) c.args.request = search rules in
    let is : c.index_mut.result.now ≡ shard_for w.shards c.args.request =
    shard_at w.shards c.args.request c.index_mut.result.now _ c.self.invariant.shards.some number c.index_mut.ensures.value
    in
    let entry = c.serve-entry.result in
    let stamp : c.index.result.now ≡ slice_index w.stamps core = stamp_is w.stamps core c.from-core.result c.index.result.now c.self.invariant.core_is c.from-core.ensures c.index.ensures in
    let served : IsServedBy (shard_for w.shards c.args.request) core c.args.start (slice_index w.stamps core) c.args.request entry =
    subst (λ (s : ShardState). IsServedBy s core c.args.start (slice_index w.stamps core) c.args.request entry) is
    (subst (λ (last : ℕ). IsServedBy c.index_mut.result.now core c.args.start last c.args.request entry) stamp c.serve-entry.ensures.served)
    in
    let left : c.serve-entry.new.self ≡ shard_after (shard_for w.shards c.args.request) entry = c.serve-entry.ensures.after ∙ ap (λ (s : ShardState). shard_after s entry) is in
    let answer : (n at : ℕ) → Entry × ShardWorld = λ n at. (entry, record { shards = slice_set w.shards n c.serve-entry.new.self; stamps = slice_set w.stamps at entry.stamp }) in
    let world : shards_serve c.args.self.now.world c.args.self.now.core c.args.start c.args.request ≡ shards_serve w core c.args.start c.args.request =
    ap (λ (p : ShardPortState). shards_serve p.world p.core c.args.start c.args.request) (sym c.self.view_is)
    in
    ap (λ (n : ℕ). answer n c.from-core.result) number
    ∙ (ap (λ (at : ℕ). answer (bank_of (length w.shards) c.args.request) at) c.from-core.ensures
    ∙ (served_is w core c.args.start c.args.request entry c.serve-entry.new.self served left ∙ sym world))

pub returns-clause-room : goal.returns-clause-room
returns-clause-room c =
    let w : ShardWorld = record { shards = c.self.inside.shards.items; stamps = c.self.inside.stamps.items } in
    let core = c.self.inside.core in
    let number : c.remainder-bank.result ≡ bank_of (length w.shards) c.args.request = search rules in
    let is : c.index_mut.result.now ≡ shard_for w.shards c.args.request =
    shard_at w.shards c.args.request c.index_mut.result.now _ c.self.invariant.shards.some number c.index_mut.ensures.value
    in
    let entry = c.serve-entry.result in
    let stamp : c.index.result.now ≡ slice_index w.stamps core = stamp_is w.stamps core c.from-core.result c.index.result.now c.self.invariant.core_is c.from-core.ensures c.index.ensures in
    let served : IsServedBy (shard_for w.shards c.args.request) core c.args.start (slice_index w.stamps core) c.args.request entry =
    subst (λ (s : ShardState). IsServedBy s core c.args.start (slice_index w.stamps core) c.args.request entry) is
    (subst (λ (last : ℕ). IsServedBy c.index_mut.result.now core c.args.start last c.args.request entry) stamp c.serve-entry.ensures.served)
    in
    let left : (n at : ℕ) → ShardWorld = λ n at. record { shards = slice_set w.shards n c.serve-entry.new.self; stamps = slice_set w.stamps at entry.stamp } in
    let grown : greatest_stamp (left (bank_of (length w.shards) c.args.request) core) ≤ greatest_stamp w + 1 =
    greatest_after w core c.args.start c.args.request entry c.serve-entry.new.self c.self.invariant.shards.some served c.serve-entry.ensures.last
    in
    let same : greatest_stamp (left (c.remainder-bank.result) c.from-core.result) ≡ greatest_stamp (left (bank_of (length w.shards) c.args.request) core) =
    ap (λ (n : ℕ). greatest_stamp (left n c.from-core.result)) number ∙ ap (λ (at : ℕ). greatest_stamp (left (bank_of (length w.shards) c.args.request) at)) c.from-core.ensures
    in
    let before : greatest_stamp c.args.self.now.world ≡ greatest_stamp w = ap (λ (p : ShardPortState). greatest_stamp p.world) (sym c.self.view_is) in
    omega (arith, grown, same, before)
