-- What is true of all events files, and of the verdicts on them.
use Rattle.std.specs.Prelude.{◌≡◌, ◌+◌, ◌*◌, ◌<◌, ℕ, List, All, length, sum_by, Ok}
use Rattle.component.specs.declared.comp.Comp.{Comp}
use Rattle.event_graph.specs.OneListWeave.{FiredEvent}
use Rattle.certify.specs.CanBeFiled.{CanBeFiled, IsFitting}
use Rattle.certify.specs.declared.verdict.Verdict.TheVariants.{Yes}
use Rattle.certify.specs.EventsFile.{events_file_of, events_of}
use Rattle.certify.specs.Verdict.{verdict_of}
use Rattle.certify.specs.Woven.{AreWoven}

-- What a file says is written in these bytes, so no two files say the same.
abbrev pub EachFileIsWrittenAgain : Type 0
EachFileIsWrittenAgain = (comps : List Comp) (bytes : List ℕ) (intervals : List (List FiredEvent)) → All (λ byte. byte < 256) bytes
    → events_of comps bytes ≡ Ok intervals → events_file_of (length comps) intervals ≡ bytes

-- The file of graphs that fit says these.
abbrev pub EachFileIsReadAgain : Type 0
EachFileIsReadAgain = (comps : List Comp) (intervals : List (List FiredEvent)) → CanBeFiled (length comps) intervals
    → All (IsFitting comps) intervals → events_of comps (events_file_of (length comps) intervals) ≡ Ok intervals

-- A file has 16 bytes, four for each interval, and 64 for each event.
abbrev pub FilesHaveThisLength : Type 0
FilesHaveThisLength = (components : ℕ) (intervals : List (List FiredEvent))
    → length (events_file_of components intervals) ≡ 16 + (4 * length intervals + 64 * sum_by length intervals)

-- Where the verdict is yes, the starts and finishes are the weave's.
abbrev pub YesIsWoven : Type 0
YesIsWoven = (comps : List Comp) (file : List ℕ) (count events : ℕ) → verdict_of comps file ≡ Ok (Yes count events)
    → (intervals : List (List FiredEvent)) × (events_of comps file ≡ Ok intervals) × AreWoven comps intervals

-- And on a file of the weave's it is yes.
abbrev pub WovenIsAccepted : Type 0
WovenIsAccepted = (comps : List Comp) (intervals : List (List FiredEvent)) → CanBeFiled (length comps) intervals → AreWoven comps intervals
    → verdict_of comps (events_file_of (length comps) intervals) ≡ Ok (Yes (length intervals) (sum_by length intervals))
