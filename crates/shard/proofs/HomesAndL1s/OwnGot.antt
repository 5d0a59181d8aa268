-- A line stands first in a core's own L1.
use Rattle.std.proofs.Common.{◌≡◌, ◌≢◌, ℕ, false, Option, Some, None}
use Rattle.home.specs.HomeState.{HomeLine, bytes_at, row_at}
use Rattle.mesi_dir.specs.CoreSets.{without_core}
use Rattle.l1_cache.specs.L1State.{Copy, has_instructions}
use Rattle.shard.specs.PartsLaws.{IsInMemory, IsOwn}
use Rattle.shard.specs.Seen.{newest_in}
use Rattle.shard.specs.SharedStep.{Bank, copy_of, l1_of}
use Rattle.shard.proofs.HomesAndL1s.LineFits.{KeepsBank}

-- what the core's own L1 did with the bank l, letting this line go
pub record OwnGot (l r : Bank) (core line : ℕ) (copy : Copy) (v : Option (ℕ × Copy)) : Type 0 where
  pub keeps : KeepsBank l r
  pub marks : r.home.marks ≡ l.home.marks
  pub there : copy_of r core line ≡ Some copy
  pub others : (k : ℕ) → k ≢ core → l1_of r k ≡ l1_of l k
  pub instructions : (x k : ℕ) → has_instructions (l1_of r k) x ≡ has_instructions (l1_of l k) x
  pub rows : (x : ℕ) → ((w : ℕ × Copy) → v ≡ Some w → x ≢ w.0) → row_at r.home x ≡ row_at l.home x
  pub copies : (x : ℕ) → x ≢ line → ((w : ℕ × Copy) → v ≡ Some w → x ≢ w.0) → copy_of r core x ≡ copy_of l core x
  pub bytes : (x : ℕ) → IsOwn l x → IsInMemory l.home x → ((w : ℕ × Copy) → v ≡ Some w → x ≢ w.0) → bytes_at r.home x ≡ bytes_at l.home x
  pub newest : (x : ℕ) → IsOwn l x → IsInMemory l.home x → newest_in x (bytes_at r.home x) r.l1s ≡ newest_in x (bytes_at l.home x) l.l1s
  -- the line that it let go
  pub was : (w : ℕ × Copy) → v ≡ Some w → IsOwn l w.0 × (copy_of l core w.0 ≡ Some w.1)
  pub gone : (w : ℕ × Copy) → v ≡ Some w → (w.0 ≢ line) × (copy_of r core w.0 ≡ None)
  pub row_gone : (w : ℕ × Copy) (row : HomeLine) → v ≡ Some w → row_at l.home w.0 ≡ Some row
      → (r' : HomeLine) × (row_at r.home w.0 ≡ Some r') × (r'.sharers ≡ without_core core row.sharers) × (r'.alone ≡ false) × (r'.fetchers ≡ row.fetchers)
