-- The access to which a core comes behind hits: it is that of the turn that follows.
use Rattle.std.proofs.Common.{◌≡◌, ℕ, ◌<◌, ◌∙◌, Bool, true, false, true≢false, Option, Some, None, IfSome, IsSome, refl, sym, ap, subst, arith}
use Rattle.std.proofs.lemmas.Bool.{eq-eqb}
use Rattle.std.specs.Prelude.{if◌then◌else◌}
use Rattle.zs_num.specs.Request.{line_at}
use Rattle.zs_num.specs.declared.entry.Entry.{Entry}
use Rattle.elf_load.specs.MemoryImage.{MemoryImage}
use Rattle.rv_core.specs.declared.single.Single.{Single}
use Rattle.rv_core.specs.declared.stint.Stint.{Stint}
use Rattle.rv_core.specs.Asked.{is_idle}
use Rattle.rv_core.specs.CoreState.{CoreState}
use Rattle.rv_core.specs.Executions.{LiesIn}
use Rattle.rv_core.specs.Hits.{line_of}
use Rattle.rv_core.specs.Single.{begun}
use Rattle.rv_core.specs.Step.{executed, is_latest}
use Rattle.reference.specs.Ahead.{ahead}
use Rattle.bound_core.specs.Met.{begun_in_time}
use Rattle.bound_core.specs.Stints.{IsStint}
use Rattle.reference.specs.TimedCore.{TimedCore, ran_to}
use Rattle.bound_core.proofs.HitTurns.{idle_parts}
use Rattle.reference.proofs.Instructions.{ran_stays}
use Rattle.bound_core.proofs.LedOn.{anywhere, from_none_ahead, in_line, led_and_met, IsThere}
use Rattle.bound_core.proofs.Meeting.{begun_stops}

-- before the end
pub some_early : (met : Option Single) (clock end : ℕ) → IfSome met (λ single. clock < end) → IsSome met → clock < end
some_early None clock end early is = cc
some_early (Some single) clock end early is = early

-- the end of its stint is that of the interval
pub before_end : {time : Entry → ℕ} {end : ℕ} {c : TimedCore} {stint : Stint} (met : Option Single) (clock : ℕ) → IsStint time end c stint → IfSome met (λ single. clock < stint.end)
    → IfSome met (λ single. clock < end)
before_end met clock is early = subst (λ (end : ℕ). IfSome met (λ single. clock < end)) (ap (λ (s : Stint). s.end) is.within) early

equal_itself : (n : ℕ) → is_latest (Some n) n ≡ true
equal_itself n = eq-eqb n n refl

latest_by : (line : Option ℕ) (n : ℕ) → line ≡ Some n → is_latest line n ≡ true
latest_by line n is = subst (λ (l : Option ℕ). is_latest l n ≡ true) (sym is) (equal_itself n)

-- A line, if one is given, in which the instruction lies and where none has to be fetched.
record Lies (image : MemoryImage) (core : CoreState) : Type 0 where
  line : Option ℕ
  there : IsThere image core line
  lies : LiesIn line core.pc

lies_there : (image : MemoryImage) (core : CoreState) (fetching : Bool) (line : Option ℕ) → core.fetching ≡ fetching → core.fetched_line ≡ line → (fetching ≡ true → IsSome line)
    → LiesIn (if fetching then line else None) core.pc → Lies image core
lies_there image core false line off is some lies = record { line = None; there = anywhere image core off; lies = tt }
lies_there image core true None on is some lies = absurd (true≢false (sym (some refl)))
lies_there image core true (Some n) on is some lies =
    record { line = Some (line_at core.pc); there = in_line image core (latest_by core.fetched_line (line_at core.pc) (is ∙ ap Some (sym lies))); lies = refl }

-- its instruction is the only one of the turn
comes : (image : MemoryImage) (end : ℕ) (c : TimedCore) (single : Single) → c.pace ≡ None → is_idle c.core ≡ true → (c.core.fetching ≡ true → IsSome c.core.fetched_line) → c.clock < end
    → LiesIn (line_of c.core) c.core.pc → executed image c.core ≡ begun single c.core → begun_in_time (Some single) (ahead 1 c) ≡ ran_to image end c
comes image end c single none idle fetched early lies meets =
    let there = lies_there image c.core c.core.fetching c.core.fetched_line refl refl fetched lies in
    let parts = idle_parts c.core idle in
    let led = led_and_met image end 0 0 there.line c c c.core.registers c.core.pc (Some single) none there.there parts.0 parts.1 (omega (arith, early)) refl (refl, refl) there.lies meets in
    sym (ran_stays image end (begun_in_time (Some single) (ahead 1 c)) (begun_stops end single (ahead 1 c)))
    ∙ from_none_ahead image end c (begun_in_time (Some single) (ahead 1 c)) led

pub comes_next : (image : MemoryImage) (end : ℕ) (c : TimedCore) (met : Option Single) → c.pace ≡ None → is_idle c.core ≡ true → (c.core.fetching ≡ true → IsSome c.core.fetched_line)
    → IfSome met (λ single. c.clock < end) → IfSome met (λ single. LiesIn (line_of c.core) c.core.pc) → IfSome met (λ single. executed image c.core ≡ begun single c.core)
    → IfSome met (λ single. begun_in_time (Some single) (ahead 1 c) ≡ ran_to image end c)
comes_next image end c None none idle fetched early lies meets = tt
comes_next image end c (Some single) none idle fetched early lies meets = comes image end c single none idle fetched early lies meets
