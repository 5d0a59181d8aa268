-- What the weave needs of an access that makes events.
use Rattle.std.specs.Prelude.{◌≡◌, ℕ, ◌+◌, ◌-◌, ◌*◌, ◌/◌, ◌%◌, ◌^◌, ◌<◌, ◌≤◌, Bool, if◌then◌else◌}
use Rattle.zs_num.specs.declared.entry.Entry.{Entry}
use Rattle.zs_num.specs.declared.entry.Outcome.{Outcome}
use Rattle.zs_num.specs.declared.request.Request.TheVariants.{Fetch, Load}
use Rattle.zs_num.specs.Request.{is_fetch, line_of}

pub record RecordState : Type 0 where
  -- how many cycles after the interval's begin the access began
  pub start : ℕ
  -- the line, counted from that of the first byte of memory
  pub line : ℕ
  pub outcome : Outcome
  -- whether it is the fetch of an instruction
  pub fetch : Bool

-- What is kept of an access, in an interval that begins at this cycle, where memory begins at this address: of the start
-- 32 bits, and of the line 28.
abbrev pub record_of : (begin base : ℕ) → Entry → RecordState
record_of begin base e = record {
  start = (e.start - begin) % 2 ^ 32;
  line = (line_of e.request - base / 64) % 2 ^ 28;
  outcome = e.outcome;
  fetch = is_fetch e.request;
}

-- an access of a core for which a record stands: the load or the fetch of the first byte of the line
abbrev pub entry_of : (core begin base : ℕ) → RecordState → Entry
entry_of core begin base r = record {
  core = core;
  stamp = 0;
  start = begin + r.start;
  request = (if r.fetch then Fetch ((base / 64 + r.line) * 64) else Load 1 ((base / 64 + r.line) * 64));
  reply = 0;
  outcome = r.outcome;
}

-- The accesses whose start and line a record keeps whole: they began in the interval, which is no longer than so, in memory,
-- which has no more lines.
pub record IsInReach (begin base : ℕ) (e : Entry) : Type 0 where
  pub from : begin ≤ e.start
  pub soon : e.start < begin + 2 ^ 32
  pub first : base / 64 ≤ line_of e.request
  pub near : line_of e.request < base / 64 + 2 ^ 28

-- two accesses that make the same events
pub record MakeSameEvents (e other : Entry) : Type 0 where
  pub core : e.core ≡ other.core
  pub start : e.start ≡ other.start
  pub line : line_of e.request ≡ line_of other.request
  pub fetch : is_fetch e.request ≡ is_fetch other.request
  pub outcome : e.outcome ≡ other.outcome
