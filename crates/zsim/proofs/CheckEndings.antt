-- How a check ended: an input was not taken, or the verdict is counts.
use Rattle.std.proofs.Common.{◌≡◌, ℕ, Bool, true, false, List, [], Some, Ok, Err, Result, refl, sym, inl, inr, ap, subst}
use Rattle.std.specs.Prelude.{IsOk, is_ok, if◌then◌else◌, length, nat_lt}
use Rattle.machine_desc.specs.declared.machine.Machine.{Machine}
use Rattle.machine_desc.specs.Machine.{IsMachine}
use Rattle.component.specs.declared.comp.Comp.{Comp}
use Rattle.component.specs.Components.{AreFresh}
use Rattle.certify.specs.declared.bad_events.BadEvents.{BadEvents}
use Rattle.certify.specs.declared.verdict.Verdict.{Verdict}
use Rattle.certify.specs.declared.verdict.Verdict.TheVariants.{Yes, Start, Finish}
use Rattle.certify.specs.Verdict.{verdict_of}
use Rattle.zsim.specs.declared.ended.Kept.{Kept}
use Rattle.zsim.specs.declared.ended.Status.{Status}
use Rattle.zsim.specs.declared.ended.Status.TheVariants as status
use Rattle.zsim.specs.declared.ended.Which.TheVariants as which
use Rattle.zsim.specs.Checked.{CheckSeen, ChecksAs, IsCheckedTo, IsYes, KeepsCheckMachine, KeepsCheckText, KeepsEvents, KeepsNoRun, NothingFailed, check_text, checked_on, with_verdict}
use Rattle.zsim.specs.Ended.{IsMachineText, KeepsNothing}
use Rattle.zsim.specs.InputLengths.{events_limit}
use Rattle.zsim.specs.Seen.{GainedNothing, NoPutFailed, WasRead}
use Rattle.zsim.specs.Setup.{machine_by}
use Rattle.zsim.specs.Steps.{IsNotTaken, IsQuiet, SaysText}
use Rattle.zsim.proofs.Endings.{machine_refuses}
use Rattle.zsim.proofs.FilesSoFar.{failed_input}

-- ---- which refusals there are

refused_by : (P : Status → Type 0) → ((bad : BadEvents) → P (status.BadEvents bad)) → ((verdict : Verdict) → P (status.NotWoven verdict))
    → (found : Result Verdict BadEvents) (s : Status) → with_verdict found ≡ Err s → P s
refused_by P is_bad is_wrong (Ok (Yes intervals events)) s is = absurd cc
refused_by P is_bad is_wrong (Ok (Start interval number)) s is = let same : status.NotWoven (Start interval number) ≡ s = cc in subst P same (is_wrong (Start interval number))
refused_by P is_bad is_wrong (Ok (Finish interval number)) s is = let same : status.NotWoven (Finish interval number) ≡ s = cc in subst P same (is_wrong (Finish interval number))
refused_by P is_bad is_wrong (Err bad) s is = let same : status.BadEvents bad ≡ s = cc in subst P same (is_bad bad)

refused_events : (P : Status → Type 0) → P (status.TooLong which.Events) → ((bad : BadEvents) → P (status.BadEvents bad)) → ((verdict : Verdict) → P (status.NotWoven verdict))
    → (long : Bool) (found : Result Verdict BadEvents) (s : Status) → (if long then Err (status.TooLong which.Events) else with_verdict found) ≡ Err s → P s
refused_events P is_long is_bad is_wrong true found s is = let same : status.TooLong which.Events ≡ s = cc in subst P same is_long
refused_events P is_long is_bad is_wrong false found s is = refused_by P is_bad is_wrong found s is

events_refuse : (P : Status → Type 0) → P (status.TooLong which.Events) → ((bad : BadEvents) → P (status.BadEvents bad)) → ((verdict : Verdict) → P (status.NotWoven verdict))
    → (comps : List Comp) (file : List ℕ) (s : Status) → checked_on comps file ≡ Err s → P s
unfolding checked_on
events_refuse P is_long is_bad is_wrong comps file s is =
    refused_events P is_long is_bad is_wrong (nat_lt events_limit (length file)) (verdict_of comps file) s is

-- ---- the ends

module _ (seen : CheckSeen) (k : Kept) (no_run : KeepsNoRun k) where
  -- the first input
  pub no_machine : (s : Status) → IsNotTaken (λ files. IsMachineText files seen.command.machine) machine_by seen.command.machine s seen.files k.machine
      → k.events ≡ [] → NoPutFailed seen.out → GainedNothing seen.out → ChecksAs seen s k
  no_machine s (inl (is, none, not_read, same)) events no_put gained =
      let nothing : KeepsNothing k = record { machine = none; exe = no_run.exe; sched_file = no_run.sched_file; schedule = no_run.schedule; events = events } in
      let ended : ChecksAs seen status.ReadFault k = record {
        kept = inl nothing;
        refusals = (inl (nothing, not_read), no_put);
        report = gained;
        files = same;
        complete = λ no _. absurd (no (failed_input seen.files seen.command.machine not_read));
      } in
      subst (λ (t : Status). ChecksAs seen t k) (sym is) ended
  no_machine s (inr (inl (is, inl none, quiet))) events no_put gained =
      let nothing : KeepsNothing k = record { machine = none; exe = no_run.exe; sched_file = no_run.sched_file; schedule = no_run.schedule; events = events } in
      let ended : ChecksAs seen status.NoMemory k = record {
        kept = inl nothing;
        refusals = record { files = quiet.no_fault; out = no_put };
        report = inl gained;
        files = quiet.names;
        complete = λ _ _. inl refl;
      } in
      subst (λ (t : Status). ChecksAs seen t k) (sym is) ended
  no_machine s (inr (inl (is, inr some, quiet))) events no_put gained =
      let text : KeepsCheckText seen k = record { no_run = no_run; machine = some; events = events } in
      let ended : ChecksAs seen status.NoMemory k = record {
        kept = inr (inl text);
        refusals = record { files = quiet.no_fault; out = no_put };
        report = inl gained;
        files = quiet.names;
        complete = λ _ _. inl refl;
      } in
      subst (λ (t : Status). ChecksAs seen t k) (sym is) ended
  no_machine s (inr (inr (refused, some, quiet))) events no_put gained =
      let text : KeepsCheckText seen k = record { no_run = no_run; machine = some; events = events } in
      let none : NothingFailed seen = record { files = quiet.no_fault; out = no_put } in
      let checked : (t : Status) → machine_by k.machine ≡ Err t → IsCheckedTo k (Err t) = λ t is. rw is refl in
      machine_refuses (λ (t : Status). machine_by k.machine ≡ Err t → ChecksAs seen t k)
      (λ is. record {
        kept = text;
        refusals = (checked _ is, none);
        report = gained;
        files = quiet.names;
        complete = λ _ _. inr (Err (status.TooLong which.Machine), checked _ is, refl);
      })
      (λ bad is. record {
        kept = text;
        refusals = (checked _ is, none);
        report = gained;
        files = quiet.names;
        complete = λ _ _. inr (Err (status.BadMachine bad), checked _ is, refl);
      })
      k.machine s refused refused

  module _ (machine : Machine) (machine_is : machine_by k.machine ≡ Ok machine) (valid : IsMachine machine) (comps : List Comp) (fresh : AreFresh machine comps) (text : IsMachineText seen.files seen.command.machine k.machine) where
    checked_to : (answer : Result (ℕ × ℕ) Status) → checked_on comps k.events ≡ answer → IsCheckedTo k answer
    checked_to answer is = rw machine_is (valid, (comps, fresh, is))

    passed : IsOk (machine_by k.machine)
    passed = ap is_ok machine_is

    -- the second
    pub no_events : (s : Status) → IsNotTaken (λ files. WasRead files seen.command.events events_limit) (checked_on comps) (Some seen.command.events) s seen.files k.events
        → NoPutFailed seen.out → GainedNothing seen.out → ChecksAs seen s k
    no_events s (inl (is, none, not_read, same)) no_put gained =
        let keeps : KeepsCheckMachine seen k = record { text = record { no_run = no_run; machine = text; events = none }; passed = passed } in
        let ended : ChecksAs seen status.ReadFault k = record {
          kept = inr keeps;
          refusals = (inr (keeps, not_read), no_put);
          report = gained;
          files = same;
          complete = λ no _. absurd (no not_read.failed);
        } in
        subst (λ (t : Status). ChecksAs seen t k) (sym is) ended
    no_events s (inr (inl (is, inl none, quiet))) no_put gained =
        let keeps : KeepsCheckMachine seen k = record { text = record { no_run = no_run; machine = text; events = none }; passed = passed } in
        let ended : ChecksAs seen status.NoMemory k = record {
          kept = inr (inr (inl keeps));
          refusals = record { files = quiet.no_fault; out = no_put };
          report = inl gained;
          files = quiet.names;
          complete = λ _ _. inl refl;
        } in
        subst (λ (t : Status). ChecksAs seen t k) (sym is) ended
    no_events s (inr (inl (is, inr some, quiet))) no_put gained =
        let keeps : KeepsEvents seen k = record { no_run = no_run; machine = text; passed = passed; events = some } in
        let ended : ChecksAs seen status.NoMemory k = record {
          kept = inr (inr (inr keeps));
          refusals = record { files = quiet.no_fault; out = no_put };
          report = inl gained;
          files = quiet.names;
          complete = λ _ _. inl refl;
        } in
        subst (λ (t : Status). ChecksAs seen t k) (sym is) ended
    no_events s (inr (inr (refused, some, quiet))) no_put gained =
        let keeps : KeepsEvents seen k = record { no_run = no_run; machine = text; passed = passed; events = some } in
        let none : NothingFailed seen = record { files = quiet.no_fault; out = no_put } in
        events_refuse (λ (t : Status). checked_on comps k.events ≡ Err t → ChecksAs seen t k)
        (λ is. record {
          kept = keeps;
          refusals = (checked_to _ is, none);
          report = gained;
          files = quiet.names;
          complete = λ _ _. inr (Err (status.TooLong which.Events), checked_to _ is, refl);
        })
        (λ bad is. record {
          kept = keeps;
          refusals = (checked_to _ is, none);
          report = gained;
          files = quiet.names;
          complete = λ _ _. inr (Err (status.BadEvents bad), checked_to _ is, refl);
        })
        (λ verdict is. record {
          kept = keeps;
          refusals = (checked_to _ is, none);
          report = gained;
          files = quiet.names;
          complete = λ _ _. inr (Err (status.NotWoven verdict), checked_to _ is, refl);
        })
        comps k.events s refused refused

    -- the verdict is yes
    module _ (counts : ℕ × ℕ) (is_yes : checked_on comps k.events ≡ Ok counts) (read : WasRead seen.files seen.command.events events_limit k.events) (quiet : IsQuiet seen.files) where
      abbrev keeps_events : KeepsEvents seen k
      keeps_events = record { no_run = no_run; machine = text; passed = passed; events = read }

      pub come_to_yes : IsYes k
      come_to_yes = (counts, checked_to (Ok counts) is_yes)

      pub said : (s : Status) → SaysText s (check_text counts) seen.out → ChecksAs seen s k
      said s (inl (is, whole, no_put)) =
          let ended : ChecksAs seen status.Ran k = record {
            kept = keeps_events;
            refusals = (come_to_yes, record { files = quiet.no_fault; out = no_put });
            report = (counts, checked_to (Ok counts) is_yes, whole);
            files = quiet.names;
            complete = λ _ _. inr (Ok counts, checked_to (Ok counts) is_yes, refl);
          } in
          subst (λ (t : Status). ChecksAs seen t k) (sym is) ended
      said s (inr (inl (is, part, failed))) =
          let ended : ChecksAs seen status.WriteFault k = record {
            kept = keeps_events;
            refusals = (come_to_yes, quiet.no_fault, failed);
            report = (counts, checked_to (Ok counts) is_yes, part);
            files = quiet.names;
            complete = λ _ no. absurd (no failed);
          } in
          subst (λ (t : Status). ChecksAs seen t k) (sym is) ended
      said s (inr (inr (is, part, no_put))) =
          let ended : ChecksAs seen status.NoMemory k = record {
            kept = inr (inr (inr keeps_events));
            refusals = record { files = quiet.no_fault; out = no_put };
            report = inr (counts, checked_to (Ok counts) is_yes, part);
            files = quiet.names;
            complete = λ _ _. inl refl;
          } in
          subst (λ (t : Status). ChecksAs seen t k) (sym is) ended
