-- No command writes the schedule and the events to one file.
use Rattle.std.proofs.Common.{◌≡◌, ◌⊎◌, ℕ, Bool, true, false, if◌then◌else◌, bytes_eq, codes, List, [], ◌∷◌, Option, Some, None, option_map, refl, ap, subst, inl, inr}
use Rattle.std.specs.Prelude.{option_and_then}
use Rattle.std.specs.Option.{option_map_or}
use Rattle.clap.specs.Words.{Row, first_of}
use Rattle.zsim.specs.CommandLine.{Checking, Exe, Execution, Task, check, checking_after, command_of, events_name, exe_of, execute, execution_after, execution_by, execution_with, is_one_name, machine_file_of, record_name, replay, replay_of, run, run_of, run_to, workers_of}
use Rattle.zsim.specs.Options.{matched_by, replay_options, run_options}

-- the two names of a task are not the same
abbrev IsApart : Task → Type 0
IsApart task = is_one_name (record_name task) (events_name task) ≡ false

abbrev AreApart : Option Task → Type 0
AreApart None = Unit {0}
AreApart (Some task) = IsApart task

-- ---- tasks

tested : (record_to events_to : Option (List ℕ)) (workers : ℕ) (same : Bool) → is_one_name record_to events_to ≡ same
    → AreApart (if same then None else Some (run workers record_to events_to))
tested record_to events_to workers true is = tt
tested record_to events_to workers false is = is

with_workers : (record_to events_to : Option (List ℕ)) (workers : Option ℕ) → AreApart (option_and_then (run_to record_to events_to) workers)
with_workers record_to events_to None = tt
with_workers record_to events_to (Some workers) = tested record_to events_to workers (is_one_name record_to events_to) refl

run_apart : (rows : List Row) → AreApart (run_of rows)
run_apart rows = with_workers (first_of (codes "record") rows) (first_of (codes "events") rows) (workers_of (first_of (codes "workers") rows))

with_schedule : (schedule : Option (List ℕ)) → AreApart (option_map replay schedule)
with_schedule None = tt
with_schedule (Some name) = refl

replay_apart : (rows : List Row) → AreApart (replay_of rows)
replay_apart rows = with_schedule (first_of (codes "schedule") rows)

-- ---- commands

with_apart : (machine : Option (List ℕ)) (exe : Option Exe) (task : Option Task) (brief : Option (List ℕ)) → AreApart task
    → (e : Execution) → execution_with machine exe task brief ≡ Some e → IsApart e.task
with_apart None exe task brief apart e is = absurd cc
with_apart (Some machine) None task brief apart e is = absurd cc
with_apart (Some machine) (Some exe) None brief apart e is = absurd cc
with_apart (Some machine) (Some exe) (Some task) brief apart e is =
    let made : Execution = record { machine = machine_file_of machine; exe = exe; task = task; brief = option_map_or (bytes_eq (codes "true")) brief false } in
    let same : made ≡ e = cc in
    subst (λ (x : Execution). IsApart x.task) same apart

matched_apart : (task_of : List Row → Option Task) → ((rows : List Row) → AreApart (task_of rows)) → (found : Option (List Row)) (e : Execution)
    → option_and_then (λ rows. execution_by rows (task_of rows)) found ≡ Some e → IsApart e.task
unfolding execution_by
matched_apart task_of each None e is = absurd cc
matched_apart task_of each (Some rows) e is =
    with_apart (first_of (codes "machine") rows) (option_and_then exe_of (first_of (codes "exe") rows)) (task_of rows) (first_of (codes "brief") rows) (each rows) e is

executed : (found : Option Execution) (e : Execution) → option_map execute found ≡ Some (execute e) → found ≡ Some e
executed None e is = absurd cc
executed (Some f) e is =
    let command : execute f ≡ execute e = cc in
    let same : f ≡ e = cc in
    ap Some same

not_checked : (found : Option Checking) (e : Execution) → option_map check found ≡ Some (execute e) → ⊥
not_checked None e is = cc
not_checked (Some c) e is = cc

by_verb : (is_run is_replay is_check : Bool) (first second : Option Execution) (third : Option Checking) (e : Execution)
    → (if is_run then option_map execute first else if is_replay then option_map execute second else if is_check then option_map check third else None) ≡ Some (execute e)
    → (first ≡ Some e) ⊎ (second ≡ Some e)
by_verb true is_replay is_check first second third e is = inl (executed first e is)
by_verb false true is_check first second third e is = inr (executed second e is)
by_verb false false true first second third e is = absurd (not_checked third e is)
by_verb false false false first second third e is = absurd cc

pub apart : (words : List (List ℕ)) (e : Execution) → command_of words ≡ Some (execute e) → is_one_name (record_name e.task) (events_name e.task) ≡ false
unfolding command_of
apart [] e is = absurd cc
apart (verb ∷ words) e is =
    elim (by_verb (bytes_eq verb (codes "run")) (bytes_eq verb (codes "replay")) (bytes_eq verb (codes "check")) (execution_after run_options run_of words) (execution_after replay_options replay_of words) (checking_after words) e is) as (λ _. IsApart e.task) [
      | inl ran ↦ matched_apart run_of run_apart (matched_by run_options words) e ran
      | inr replayed ↦ matched_apart replay_of replay_apart (matched_by replay_options words) e replayed
    ]
