-- What a check answers.
use Rattle.std.specs.Prelude.{◌≡◌, Result, Ok, Err}
use Rattle.certify.specs.declared.bad_events.BadEvents.{BadEvents}
use Rattle.certify.specs.declared.bad_events.CheckFail.{CheckFail}
use Rattle.certify.specs.declared.bad_events.CheckFail.TheVariants as fail

-- the answer of a call that may also run out of memory
abbrev pub AnswersAs : {A : Type 0} → Result A CheckFail → Result A BadEvents → Type 0
AnswersAs (Ok x) answer = answer ≡ Ok x
AnswersAs (Err (fail.Bad wrong)) answer = answer ≡ Err wrong
AnswersAs (Err fail.NoMemory) answer = Unit {0}
