-- What a look-up of a line and a miss leave coherent.
use Rattle.std.proofs.Common.{◌≡◌, ℕ, ◌<◌, true, false, length, is_some}
use Rattle.shard.specs.Coherence.{Caches, copies_evicted, dirty_at, filled_into_l2, l2_victim, looked_up}
use Rattle.shard.specs.StandsFor.{AreCoherent, HaveRoomForLines}

pub record L2Laws : Type 0 where
  pub looked : (c : Caches) (line : ℕ) → AreCoherent c → HaveRoomForLines c → 0 < length c.l1 → is_some (dirty_at c line) ≡ true → AreCoherent (looked_up line c) × HaveRoomForLines (looked_up line c)
  pub filled : (c : Caches) (line : ℕ) → AreCoherent c → HaveRoomForLines c → 0 < length c.l1 → is_some (dirty_at c line) ≡ false
      → AreCoherent (filled_into_l2 line (copies_evicted (l2_victim c line) c)) × HaveRoomForLines (filled_into_l2 line (copies_evicted (l2_victim c line) c))
