use Rattle.std.proofs.Common.{◌≡◌, ◌<◌, ℕ, length, get_or, take}
use Rattle.feedback.specs.FeedbackDelay.{delay_of}
use Rattle.feedback.proofs.core_delays.delays.Given as goal

abbrev pub invariant-loop-i : goal.invariant-loop-i
invariant-loop-i l =
    (length l.list.items ≡ l.cores)
    × ((core : ℕ) → core < l.cores → get_or l.list.items core 0 ≡ delay_of (take l.i l.graph) l.fired core)
