-- The cores of a machine are seated at a table of its shards.
use Rattle.std.proofs.Common.{◌≡◌, ℕ, ◌+◌, ◌^◌, ◌≤◌, Bool, IsTrue, List, ◌++◌, All, length, drop, map, take, sym, ◌∙◌, ap, subst, arith}
use Rattle.std.specs.Prelude.{IsNone}
use Rattle.std.proofs.Math.Seq.{take-append_seam}
use Rattle.std.proofs.lemmas.List.{length-map}
use Rattle.machine_desc.specs.declared.machine.Machine.{Machine}
use Rattle.shard.specs.HaveL1i.{have_l1i}
use Rattle.shard.specs.Served.{ShardState}
use Rattle.shard_table.specs.Access.{AreNewSeats, SeatState, TableState}
use Rattle.bound_core.specs.ShardPort.{AreShardsOf, IsShardAt, l1i_in}
use Rattle.bound_core.specs.ShardWorld.{restarted}
use Rattle.bound_core.specs.TimedCore.{TimedCore, beside_cycles}
use Rattle.bound_core.specs.NumberedCores.{NumberedCore, timed_of}
use Rattle.bound_core.proofs.Alike.{EachHas, alike_by, first_has}
use Rattle.bound_phase.specs.Bounds.{HaveNewSeats, CanBound, FetchesIn, HasConsoleRoom, IsBeforeInterval}
use Rattle.bound_phase.proofs.Ending.{all_here, made_at}
use Rattle.bound_phase.proofs.Whole.{agreed_at}

-- what is written back to a list is the whole list
pub written_back : {X : Type 0} (n : ℕ) (new old : List X) → length new ≡ n → take n (new ++ drop (length new) old) ≡ new
written_back n new old is = ap (λ (k : ℕ). take k (new ++ drop (length new) old)) (sym is) ∙ take-append_seam new (drop (length new) old)

-- room on the console is nothing of a core's state
moved : (m : Machine) (end : ℕ) (x c : NumberedCore) → c.timed ≡ x.timed → IsBeforeInterval m end x → IsBeforeInterval m end c
moved m end x c same start = record {
  idle = ap (λ (t : TimedCore). t.core.instruction) same ∙ start.idle;
  unfetched = ap (λ (t : TimedCore). t.core.is_fetched) same ∙ start.unfetched;
  base = ap (λ (t : TimedCore). t.core.memory.base) same ∙ start.base;
  size = ap (λ (t : TimedCore). t.core.memory.size) same ∙ start.size;
  near = λ runs. let before = start.near (subst (λ (t : TimedCore). IsNone t.core.halted) same runs) in let clock = ap (λ (t : TimedCore). t.clock) same in omega (arith, before, clock);
  clock = subst (λ (t : TimedCore). t.clock ≤ 2 ^ 60) (sym same) start.clock;
}

each_restarted : (l1i : Bool) (shards : List ShardState) → EachHas l1i shards → EachHas l1i (map restarted shards)
each_restarted l1i shards each number shard at =
    let x = made_at restarted shards number shard at in ap (λ (s : ShardState). have_l1i s.caches) (sym x.2) ∙ each number x.0 x.1

shards_restarted : (cores base size : ℕ) (shards : List ShardState) → AreShardsOf cores shards base size → AreShardsOf cores (map restarted shards) base size
shards_restarted cores base size shards are = record {
  some = (let n = length-map shards restarted in let one = are.some in omega (arith, n, one));
  each = λ number shard at.
      let x = made_at restarted shards number shard at in
      let it = are.each number x.0 x.1 in
      subst (λ (s : ShardState). IsShardAt (length (map restarted shards)) cores number base size s) x.2 (record {
        number_is = it.number_is;
        count = it.count ∙ sym (length-map shards restarted);
        cores_known = it.cores_known;
        base_is = it.base_is;
        size_is = it.size_is;
      });
  alike =
      alike_by (l1i_in shards) (map restarted shards) (let n = length-map shards restarted in let one = are.some in omega (arith, n, one))
      (each_restarted (l1i_in shards) shards are.alike);
}

l1i_restarted : (cores base size : ℕ) (shards : List ShardState) → AreShardsOf cores shards base size → l1i_in (map restarted shards) ≡ l1i_in shards
l1i_restarted cores base size shards are =
    first_has (l1i_in shards) (map restarted shards) (let n = length-map shards restarted in let one = are.some in omega (arith, n, one))
    (each_restarted (l1i_in shards) shards are.alike)

pub seated : (m : Machine) (end : ℕ) (t : TableState) (first cores : List NumberedCore) (shards : List ShardState) (seats : List SeatState) → CanBound m end first shards
    → length cores ≡ length first → timed_of cores ≡ timed_of first → map (λ c. c.number) cores ≡ map (λ c. c.number) first → All (HasConsoleRoom (m.interval + beside_cycles)) cores
    → t.cores ≡ m.cores → t.shards ≡ map restarted shards → t.room ≡ m.interval + beside_cycles → AreNewSeats t seats → HaveNewSeats m end t cores seats
seated m end t first cores shards seats can size timed numbers room cores_are shards_are room_is new = record {
  count = size ∙ (can.count ∙ sym cores_are);
  cores_are = cores_are;
  ready = λ number c at.
      let x = agreed_at (λ (y : NumberedCore). y.timed) first cores number c timed at in
      let y = agreed_at (λ (z : NumberedCore). z.number) first cores number c numbers at in (
        moved m end x.0 c x.2 (all_here (IsBeforeInterval m end) first number x.0 can.at_start x.1),
        all_here (HasConsoleRoom (m.interval + beside_cycles)) cores number c room at,
        y.2 ∙ can.numbers number y.0 y.1,
        λ fetches.
            let l1i : l1i_in t.shards ≡ l1i_in shards = ap l1i_in shards_are ∙ l1i_restarted m.cores m.memory.base m.memory.size shards can.shards_are in
            let may : FetchesIn (l1i_in shards) x.0 = all_here (FetchesIn (l1i_in shards)) first number x.0 can.fetches x.1 in
            subst IsTrue (sym l1i) (may (subst (λ (t : TimedCore). IsTrue t.core.fetching) x.2 fetches)),
      );
  seats_new = new;
  shards =
      subst (λ (n : ℕ). AreShardsOf n t.shards m.memory.base m.memory.size) (sym cores_are)
      (subst (λ (xs : List ShardState). AreShardsOf m.cores xs m.memory.base m.memory.size) (sym shards_are) (shards_restarted m.cores m.memory.base m.memory.size shards can.shards_are));
  room = room_is;
}
