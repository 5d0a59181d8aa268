-- What was said of the line of a status.
use Rattle.std.proofs.Common.{◌≡◌, ◌<◌, ◌++◌, length, ap, append-nil, refl, sym, zero-lt-suc, ◌∙◌}
use Rattle.zsim.specs.declared.ended.Said.TheVariants as said
use Rattle.zsim.specs.declared.ended.Status.{Status}
use Rattle.zsim.specs.declared.ended.Status.TheVariants as status
use Rattle.zsim.specs.declared.ended.Which.TheVariants as which
use Rattle.zsim.specs.Ended.{SaysLine}
use Rattle.zsim.specs.Seen.{SinkSeen, GainedNothing, NoPutFailed}
use Rattle.zprof.specs.ErrorLine.{profile_line, renamed}

-- there is nothing to say
pub no_line : (s : Status) (err : SinkSeen) → s ≡ status.Ran → NoPutFailed err → GainedNothing err → SaysLine said.All (profile_line s) err
unfolding renamed
no_line s err is none nothing = (λ told. nothing told ∙ sym (append-nil err.bytes_before) ∙ ap (λ (t : Status). err.bytes_before ++ profile_line t) (sym is), none)

-- all others have a line
has_line : (s : Status) → (s ≡ status.Ran → ⊥) → 0 < length (profile_line s)
unfolding renamed
has_line status.Ran not = absurd (not refl)
has_line status.Limit not = zero-lt-suc _
has_line status.Usage not = zero-lt-suc _
has_line status.ReadFault not = zero-lt-suc _
has_line status.WriteFault not = zero-lt-suc _
has_line (status.BadMachine bad) not = zero-lt-suc _
has_line (status.BadElf bad) not = zero-lt-suc _
has_line (status.BadSchedule wrong) not = zero-lt-suc _
has_line (status.TooLong which.Machine) not = zero-lt-suc _
has_line (status.TooLong which.Exe) not = zero-lt-suc _
has_line (status.TooLong which.Schedule) not = zero-lt-suc _
has_line (status.TooLong which.Events) not = zero-lt-suc _
has_line (status.BadEvents bad) not = zero-lt-suc _
has_line (status.NotWoven verdict) not = zero-lt-suc _
has_line status.NoMemory not = zero-lt-suc _

-- memory ran out before any of it was put
pub line_not_begun : (s : Status) (err : SinkSeen) → (s ≡ status.Ran → ⊥) → NoPutFailed err → GainedNothing err → SaysLine said.NoMemory (profile_line s) err
line_not_begun s err not none nothing = (λ told. (0, has_line s not, nothing told ∙ sym (append-nil err.bytes_before)), none)
