-- Words without a leading hyphen go to the positional arguments.
use Rattle.std.proofs.Common.{◌≡◌, ◌∙◌, ap, ap₂, refl, ℕ, Bool, true, false, List, [], ◌∷◌, codes, Option, Some, None, nat_eq, ◌&&◌, option_map, is_some, arith}
use Rattle.std.proofs.lemmas.Bool.Decides.{nat_tests}
use Rattle.std.specs.Option.{option_map_or}
use Rattle.std.specs.Str.{bytes_eq}
use Rattle.clap.specs.Faults.{check_fault, defaults_fault, entered_fault, positional_fault, settle_fault, stray_fault, turn_fault, walk_fault}
use Rattle.clap.specs.Kinds.{Kinds, or_else}
use Rattle.clap.specs.Lexer.{long_of, short_of}
use Rattle.clap.specs.Simple.{Shape, built, entered}
use Rattle.clap.specs.Walk.{Held, Rule, Walk, after_step, arg_by_id, arg_by_index, finished, idle, next, option, option_word, nothing_held, settled, to_positional, walk, walked}
use Rattle.clap.specs.Words.{App, fault_of, first_of, matches_of}
use Rattle.clap.proofs.OnLiterals.{clap_on_literals}
use Rattle.zsim.specs.CommandLine.{Exe, Execution, Task, check, command_of, exe_of, execute, execution_by, execution_with, machine_file_of, replay, run, workers_of}
use Rattle.zsim.specs.Laws.{HasNoHyphen}
use Rattle.zsim.specs.Options.{check_options, replay_options, run_options}

-- what `clap` asks of a word
pub record IsPlain (word : List ℕ) : Type 0 where
  pub dashes : bytes_eq word (codes "--") ≡ false
  pub long : long_of word ≡ None
  pub short : short_of word ≡ None

no_dashes : (x : ℕ) (xs : List ℕ) → nat_eq x 45 ≡ false → bytes_eq (x ∷ xs) (codes "--") ≡ false
no_dashes x [] is = rw is refl
no_dashes x (y ∷ ys) is = rw is refl

alone : (b : Bool) → (b && true) ≡ false → b ≡ false
alone true is = cc
alone false is = refl

other_way : (x y : ℕ) → nat_eq x y ≡ false → nat_eq y x ≡ false
other_way x y is = grind (arith, nat_tests)

pub plain : (word : List ℕ) → HasNoHyphen word → IsPlain word
plain [] is = record { dashes = refl; long = refl; short = refl }
plain (x ∷ xs) is =
    let other : nat_eq x 45 ≡ false = other_way 45 x (alone (nat_eq 45 x) is) in
    record { dashes = no_dashes x xs other; long = rw other refl; short = rw other refl }

-- between two words, at the positional argument of this number
abbrev at_position : Held → (position : ℕ) → Walk
at_position h position = record { held = h; waiting = idle; position = position; is_trailing = false; stopped = None }

word_walked : (c : List Rule) (h : Held) (position : ℕ) (word : List ℕ) → IsPlain word
    → walked c [] (at_position h position) word ≡ to_positional c (arg_by_index c position) word (at_position h position) h
unfolding walked
word_walked c h position word is = rw (is.dashes, is.long, is.short) refl

word_faults : (s : Shape) (h : Held) (position : ℕ) (word : List ℕ) → IsPlain word
    → turn_fault s [] (at_position h position) word ≡ option_map_or (λ a. positional_fault s.rules s.args_override_self a h) (arg_by_index s.rules position) (stray_fault s)
word_faults s h position word is = rw (is.dashes, is.long, is.short) refl

-- the kinds of error at the end of a walk that had these
abbrev faults_at : App → Walk → Kinds → Kinds
faults_at a w faults =
    let s = a.top in
    or_else faults (or_else (entered_fault a w.stopped) (or_else (settle_fault s.rules s.args_override_self w.held)
    (or_else (defaults_fault (settled s.rules w.held).rows s.rules) (check_fault s (finished s.rules w.held) (is_some (entered a w.stopped))))))

-- an option that waits for its value
abbrev at_option : Held → (name : List ℕ) → (position : ℕ) → Walk
at_option h name position = record { held = h; waiting = option name; position = position; is_trailing = false; stopped = None }

value_walked : (c : List Rule) (h : Held) (name : List ℕ) (position : ℕ) (word : List ℕ) → IsPlain word
    → walked c [] (at_option h name position) word
    ≡ after_step c word (at_option h name position) (option_word (arg_by_id c name) name word h).0 (next (option_word (arg_by_id c name) name word h).1)
unfolding walked
value_walked c h name position word is = rw (is.dashes, is.long, is.short) refl

value_faults : (s : Shape) (h : Held) (name : List ℕ) (position : ℕ) (word : List ℕ) → IsPlain word → turn_fault s [] (at_option h name position) word ≡ []
value_faults s h name position word is = rw (is.dashes, is.long, is.short) refl

-- the command, whatever the word for the executable names
with_exe : (machine : List ℕ) (task : Task) (exe : Option Exe) → option_map execute (execution_with (Some machine) exe (Some task) (Some (codes "false")))
    ≡ option_map (λ (e : Exe). let c : Execution = record { machine = machine_file_of machine; exe = e; task = task; brief = false } in execute c) exe
with_exe machine task (Some e) = refl
with_exe machine task None = refl

-- ---- a run

module _ (machine exe : List ℕ) (first : IsPlain machine) (second : IsPlain exe) where
  abbrev rules : List Rule
  rules = (built run_options).top.rules

  abbrev first_held : Held
  first_held = record { rows = []; pending = Some (codes "machine", machine ∷ []); skip = 0 }

  first_walked : walked rules [] (at_position nothing_held 1) machine ≡ at_position first_held 2
  unfolding run_options clap_on_literals
  first_walked = word_walked rules nothing_held 1 machine first ∙ refl

  second_walked : walked rules [] (at_position first_held 2) exe ≡ to_positional rules (arg_by_index rules 2) exe (at_position first_held 2) first_held
  second_walked = word_walked rules first_held 2 exe second

  abbrev last : Walk
  last = to_positional rules (arg_by_index rules 2) exe (at_position first_held 2) first_held

  all_walked : walk rules [] nothing_held (machine ∷ exe ∷ []) ≡ last
  all_walked = ap (λ (w : Walk). walked rules [] w exe) first_walked ∙ second_walked

  rows_are : matches_of run_options (machine ∷ exe ∷ []) ≡ finished rules last.held
  unfolding run_options clap_on_literals
  rows_are = ap (λ (w : Walk). finished rules w.held) all_walked

  abbrev top : Shape
  top = (built run_options).top

  first_fault : turn_fault top [] (at_position nothing_held 1) machine ≡ []
  unfolding run_options clap_on_literals
  first_fault = word_faults top nothing_held 1 machine first ∙ refl

  second_fault : turn_fault top [] (at_position first_held 2) exe ≡ []
  unfolding run_options clap_on_literals
  second_fault = word_faults top first_held 2 exe second ∙ refl

  no_faults : walk_fault top [] (at_position nothing_held 1) (machine ∷ exe ∷ []) ≡ []
  unfolding walk_fault
  no_faults = ap₂ or_else first_fault (ap₂ or_else (ap (λ (w : Walk). turn_fault top [] w exe) first_walked ∙ second_fault) refl)

  faults_are : fault_of run_options (machine ∷ exe ∷ []) ≡ faults_at (built run_options) (walk rules [] nothing_held (machine ∷ exe ∷ [])) (walk_fault top [] (at_position nothing_held 1) (machine ∷ exe ∷ []))
  unfolding run_options clap_on_literals
  faults_are = refl

  at_end : faults_at (built run_options) last [] ≡ []
  unfolding run_options clap_on_literals
  at_end = refl

  fits : fault_of run_options (machine ∷ exe ∷ []) ≡ []
  fits = faults_are ∙ (ap₂ (faults_at (built run_options)) all_walked no_faults ∙ at_end)

  machine_is : first_of (codes "machine") (finished rules last.held) ≡ Some machine
  unfolding run_options clap_on_literals
  machine_is = refl

  exe_is : first_of (codes "exe") (finished rules last.held) ≡ Some exe
  unfolding run_options clap_on_literals
  exe_is = refl

  workers_are : first_of (codes "workers") (finished rules last.held) ≡ None
  unfolding run_options clap_on_literals
  workers_are = refl

  record_is : first_of (codes "record") (finished rules last.held) ≡ None
  unfolding run_options clap_on_literals
  record_is = refl

  events_are : first_of (codes "events") (finished rules last.held) ≡ None
  unfolding run_options clap_on_literals
  events_are = refl

  brief_is : first_of (codes "brief") (finished rules last.held) ≡ Some (codes "false")
  unfolding run_options clap_on_literals
  brief_is = refl

  pub run_is : command_of (codes "run" ∷ machine ∷ exe ∷ []) ≡ option_map (λ e. execute (record { machine = machine_file_of machine; exe = e; task = run 1 None None; brief = false })) (exe_of exe)
  unfolding command_of execution_by workers_of
  run_is = rw (fits, rows_are, machine_is, exe_is, workers_are, record_is, events_are, brief_is) (with_exe machine (run 1 None None) (exe_of exe))

-- ---- a replay

module _ (machine exe schedule : List ℕ) (first : IsPlain machine) (second : IsPlain exe) (third : IsPlain schedule) where
  abbrev given : List (List ℕ)
  given = machine ∷ exe ∷ codes "--schedule" ∷ schedule ∷ []

  abbrev replay_top : Shape
  replay_top = (built replay_options).top

  abbrev replay_rules : List Rule
  replay_rules = replay_top.rules

  abbrev machine_held : Held
  machine_held = record { rows = []; pending = Some (codes "machine", machine ∷ []); skip = 0 }

  machine_walked : walked replay_rules [] (at_position nothing_held 1) machine ≡ at_position machine_held 2
  unfolding replay_options clap_on_literals
  machine_walked = word_walked replay_rules nothing_held 1 machine first ∙ refl

  abbrev both_held : Walk
  both_held = to_positional replay_rules (arg_by_index replay_rules 2) exe (at_position machine_held 2) machine_held

  exe_walked : walked replay_rules [] (at_position machine_held 2) exe ≡ both_held
  exe_walked = word_walked replay_rules machine_held 2 exe second

  -- both values, and the option that waits for its own
  abbrev waiting : Held
  waiting = record (settled replay_rules both_held.held) { pending = Some (codes "schedule", []) }

  option_walked : walked replay_rules [] both_held (codes "--schedule") ≡ at_option waiting (codes "schedule") 3
  unfolding replay_options clap_on_literals
  option_walked = refl

  abbrev end : Walk
  end =
      after_step replay_rules schedule (at_option waiting (codes "schedule") 3)
      (option_word (arg_by_id replay_rules (codes "schedule")) (codes "schedule") schedule waiting).0
      (next (option_word (arg_by_id replay_rules (codes "schedule")) (codes "schedule") schedule waiting).1)

  schedule_walked : walked replay_rules [] (at_option waiting (codes "schedule") 3) schedule ≡ end
  schedule_walked = value_walked replay_rules waiting (codes "schedule") 3 schedule third

  three_walked : walked replay_rules [] (walked replay_rules [] (walked replay_rules [] (at_position nothing_held 1) machine) exe) (codes "--schedule") ≡ at_option waiting (codes "schedule") 3
  three_walked =
      ap (λ (w : Walk). walked replay_rules [] (walked replay_rules [] w exe) (codes "--schedule")) machine_walked
      ∙ (ap (λ (w : Walk). walked replay_rules [] w (codes "--schedule")) exe_walked ∙ option_walked)

  given_walked : walk replay_rules [] nothing_held given ≡ end
  given_walked = ap (λ (w : Walk). walked replay_rules [] w schedule) three_walked ∙ schedule_walked

  given_rows : matches_of replay_options given ≡ finished replay_rules end.held
  unfolding replay_options clap_on_literals
  given_rows = ap (λ (w : Walk). finished replay_rules w.held) given_walked

  machine_faults : turn_fault replay_top [] (at_position nothing_held 1) machine ≡ []
  unfolding replay_options clap_on_literals
  machine_faults = word_faults replay_top nothing_held 1 machine first ∙ refl

  exe_faults : turn_fault replay_top [] (at_position machine_held 2) exe ≡ []
  unfolding replay_options clap_on_literals
  exe_faults = word_faults replay_top machine_held 2 exe second ∙ refl

  option_faults : turn_fault replay_top [] both_held (codes "--schedule") ≡ []
  unfolding replay_options clap_on_literals
  option_faults = refl

  given_faults : walk_fault replay_top [] (at_position nothing_held 1) given ≡ []
  unfolding walk_fault
  given_faults =
      ap₂ or_else machine_faults
      (ap₂ or_else (ap (λ (w : Walk). turn_fault replay_top [] w exe) machine_walked ∙ exe_faults)
      (ap₂ or_else (ap (λ (w : Walk). turn_fault replay_top [] (walked replay_rules [] w exe) (codes "--schedule")) machine_walked
      ∙ (ap (λ (w : Walk). turn_fault replay_top [] w (codes "--schedule")) exe_walked ∙ option_faults))
      (ap₂ or_else (ap (λ (w : Walk). turn_fault replay_top [] w schedule) three_walked ∙ value_faults replay_top waiting (codes "schedule") 3 schedule third) refl)))

  given_faults_are : fault_of replay_options given ≡ faults_at (built replay_options) (walk replay_rules [] nothing_held given) (walk_fault replay_top [] (at_position nothing_held 1) given)
  unfolding replay_options clap_on_literals
  given_faults_are = refl

  given_at_end : faults_at (built replay_options) end [] ≡ []
  unfolding replay_options clap_on_literals
  given_at_end = refl

  given_fits : fault_of replay_options given ≡ []
  given_fits = given_faults_are ∙ (ap₂ (faults_at (built replay_options)) given_walked given_faults ∙ given_at_end)

  given_machine : first_of (codes "machine") (finished replay_rules end.held) ≡ Some machine
  unfolding replay_options clap_on_literals
  given_machine = refl

  given_exe : first_of (codes "exe") (finished replay_rules end.held) ≡ Some exe
  unfolding replay_options clap_on_literals
  given_exe = refl

  given_schedule : first_of (codes "schedule") (finished replay_rules end.held) ≡ Some schedule
  unfolding replay_options clap_on_literals
  given_schedule = refl

  given_brief : first_of (codes "brief") (finished replay_rules end.held) ≡ Some (codes "false")
  unfolding replay_options clap_on_literals
  given_brief = refl

  pub replay_is : command_of (codes "replay" ∷ given) ≡ option_map (λ e. execute (record { machine = machine_file_of machine; exe = e; task = replay schedule; brief = false })) (exe_of exe)
  unfolding command_of execution_by
  replay_is = rw (given_fits, given_rows, given_machine, given_exe, given_schedule, given_brief) (with_exe machine (replay schedule) (exe_of exe))

-- ---- a check

module _ (machine events : List ℕ) (first : IsPlain machine) (second : IsPlain events) where
  abbrev check_top : Shape
  check_top = (built check_options).top

  abbrev check_rules : List Rule
  check_rules = check_top.rules

  abbrev one_held : Held
  one_held = record { rows = []; pending = Some (codes "machine", machine ∷ []); skip = 0 }

  one_walked : walked check_rules [] (at_position nothing_held 1) machine ≡ at_position one_held 2
  unfolding check_options clap_on_literals
  one_walked = word_walked check_rules nothing_held 1 machine first ∙ refl

  abbrev checked_last : Walk
  checked_last = to_positional check_rules (arg_by_index check_rules 2) events (at_position one_held 2) one_held

  events_walked : walked check_rules [] (at_position one_held 2) events ≡ checked_last
  events_walked = word_walked check_rules one_held 2 events second

  both_walked : walk check_rules [] nothing_held (machine ∷ events ∷ []) ≡ checked_last
  both_walked = ap (λ (w : Walk). walked check_rules [] w events) one_walked ∙ events_walked

  check_rows : matches_of check_options (machine ∷ events ∷ []) ≡ finished check_rules checked_last.held
  unfolding check_options clap_on_literals
  check_rows = ap (λ (w : Walk). finished check_rules w.held) both_walked

  one_fault : turn_fault check_top [] (at_position nothing_held 1) machine ≡ []
  unfolding check_options clap_on_literals
  one_fault = word_faults check_top nothing_held 1 machine first ∙ refl

  events_fault : turn_fault check_top [] (at_position one_held 2) events ≡ []
  unfolding check_options clap_on_literals
  events_fault = word_faults check_top one_held 2 events second ∙ refl

  check_faults : walk_fault check_top [] (at_position nothing_held 1) (machine ∷ events ∷ []) ≡ []
  unfolding walk_fault
  check_faults = ap₂ or_else one_fault (ap₂ or_else (ap (λ (w : Walk). turn_fault check_top [] w events) one_walked ∙ events_fault) refl)

  check_faults_are : fault_of check_options (machine ∷ events ∷ []) ≡ faults_at (built check_options) (walk check_rules [] nothing_held (machine ∷ events ∷ [])) (walk_fault check_top [] (at_position nothing_held 1) (machine ∷ events ∷ []))
  unfolding check_options clap_on_literals
  check_faults_are = refl

  check_at_end : faults_at (built check_options) checked_last [] ≡ []
  unfolding check_options clap_on_literals
  check_at_end = refl

  check_fits : fault_of check_options (machine ∷ events ∷ []) ≡ []
  check_fits = check_faults_are ∙ (ap₂ (faults_at (built check_options)) both_walked check_faults ∙ check_at_end)

  check_machine : first_of (codes "machine") (finished check_rules checked_last.held) ≡ Some machine
  unfolding check_options clap_on_literals
  check_machine = refl

  check_events : first_of (codes "events") (finished check_rules checked_last.held) ≡ Some events
  unfolding check_options clap_on_literals
  check_events = refl

  pub check_is : command_of (codes "check" ∷ machine ∷ events ∷ []) ≡ Some (check (record { machine = machine_file_of machine; events = events }))
  unfolding command_of
  check_is = rw (check_fits, check_rows, check_machine, check_events) refl
