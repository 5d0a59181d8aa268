-- What was read so far, before what the rest of the file gives.
use Rattle.std.proofs.Common.{◌≡◌, ℕ, suc, ◌+◌, ◌*◌, ◌-◌, ◌<◌, ◌≤◌, List, [], ◌∷◌, ◌++◌, length, Result, Ok, Err, refl, ap, sym, ◌∙◌, append_assoc, append-nil, length-append, arith}
use Rattle.std.specs.List.{sum_by}
use Rattle.std.proofs.lemmas.Bool.{eq-eqb}
use Rattle.std.proofs.lemmas.List.Sums.{sum_by-append, sum_by-cons}
use Rattle.component.specs.declared.comp.Comp.{Comp}
use Rattle.event_graph.specs.OneListWeave.{FiredEvent}
use Rattle.certify.specs.declared.bad_events.BadEvents.{BadEvents}
use Rattle.certify.specs.EventsFile.{events_from, interval_from, intervals_from, read_event, then_read}

abbrev pub behind : {A : Type 0} → List A → Result (List A) BadEvents → Result (List A) BadEvents
behind done (Ok rest) = Ok (done ++ rest)
behind done (Err wrong) = Err wrong

behind_none : {A : Type 0} (rest : Result (List A) BadEvents) → rest ≡ behind [] rest
behind_none (Ok rest) = refl
behind_none (Err wrong) = refl

behind_more : {A : Type 0} (done : List A) (x : A) (rest : Result (List A) BadEvents) → behind done (then_read rest (λ xs. Ok (x ∷ xs))) ≡ behind (done ++ x ∷ []) rest
behind_more done x (Ok rest) = ap Ok (sym (append_assoc done (x ∷ []) rest))
behind_more done x (Err wrong) = refl

-- ---- the events of an interval

-- so many events of an interval were read, whose records begin at a byte
pub record HaveReadEvents (comps : List Comp) (bytes : List ℕ) (interval count place at : ℕ) : Type 0 where
  pub done : List FiredEvent
  pub so_far : events_from comps bytes interval count 0 at ≡ behind done (events_from comps bytes interval (count - place) place (at + 64 * place))
  pub many : length done ≡ place

pub no_events : (comps : List Comp) (bytes : List ℕ) (interval count at : ℕ) → HaveReadEvents comps bytes interval count 0 at
no_events comps bytes interval count at =
    let here : at ≡ at + 64 * 0 = omega arith in
    let all : count ≡ count - 0 = omega arith in
    record {
      done = [];
      so_far = behind_none (events_from comps bytes interval count 0 at)
          ∙ (ap (λ n. behind [] (events_from comps bytes interval n 0 at)) all ∙ ap (λ n. behind [] (events_from comps bytes interval (count - 0) 0 n)) here);
      many = refl;
    }

-- what is left, if there is one more
events_left : (comps : List Comp) (bytes : List ℕ) (interval count place at left : ℕ) → HaveReadEvents comps bytes interval count place at → count - place ≡ suc left
    → (done : List FiredEvent) × (length done ≡ place) × (events_from comps bytes interval count 0 at
    ≡ behind done (then_read (read_event comps bytes interval place (at + 64 * place)) (λ x. then_read (events_from comps bytes interval left (place + 1) (at + 64 * place + 64)) (λ xs. Ok (x ∷ xs)))))
events_left comps bytes interval count place at left read more =
    (read.done, read.many, read.so_far ∙ ap (λ n. behind read.done (events_from comps bytes interval n place (at + 64 * place))) more)

pub one_event_more : (comps : List Comp) (bytes : List ℕ) (interval count place at : ℕ) (x : FiredEvent) → HaveReadEvents comps bytes interval count place at → place < count
    → read_event comps bytes interval place (at + 64 * place) ≡ Ok x → HaveReadEvents comps bytes interval count (place + 1) at
one_event_more comps bytes interval count place at x read within is =
    let left = count - (place + 1) in
    let more : count - place ≡ suc left = omega (arith, within) in
    let so_far = events_left comps bytes interval count place at left read more in
    let past : at + 64 * place + 64 ≡ at + 64 * (place + 1) = omega arith in
    record {
      done = so_far.0 ++ x ∷ [];
      so_far = so_far.2
          ∙ (ap (λ r. behind so_far.0 (then_read r (λ y. then_read (events_from comps bytes interval left (place + 1) (at + 64 * place + 64)) (λ xs. Ok (y ∷ xs))))) is
          ∙ (behind_more so_far.0 x (events_from comps bytes interval left (place + 1) (at + 64 * place + 64))
          ∙ ap (λ n. behind (so_far.0 ++ x ∷ []) (events_from comps bytes interval left (place + 1) n)) past));
      many = length-append so_far.0 (x ∷ []) ∙ omega (arith, so_far.1);
    }

pub wrong_event : (comps : List Comp) (bytes : List ℕ) (interval count place at : ℕ) (wrong : BadEvents) → HaveReadEvents comps bytes interval count place at → place < count
    → read_event comps bytes interval place (at + 64 * place) ≡ Err wrong → events_from comps bytes interval count 0 at ≡ Err wrong
wrong_event comps bytes interval count place at wrong read within is =
    let left = count - (place + 1) in
    let more : count - place ≡ suc left = omega (arith, within) in
    let so_far = events_left comps bytes interval count place at left read more in
    so_far.2 ∙ ap (λ r. behind so_far.0 (then_read r (λ y. then_read (events_from comps bytes interval left (place + 1) (at + 64 * place + 64)) (λ xs. Ok (y ∷ xs))))) is

pub all_events_read : (comps : List Comp) (bytes : List ℕ) (interval count place at : ℕ) → HaveReadEvents comps bytes interval count place at → count ≤ place → place ≤ count
    → (timed : List FiredEvent) × (events_from comps bytes interval count 0 at ≡ Ok timed) × (length timed ≡ count)
all_events_read comps bytes interval count place at read all within =
    let none : count - place ≡ 0 = omega (arith, all) in (
      read.done,
      read.so_far ∙ (ap (λ n. behind read.done (events_from comps bytes interval n place (at + 64 * place))) none ∙ ap Ok (append-nil read.done)),
      omega (arith, read.many, all, within),
    )

-- what is kept of a result that is there, or that is wrong
pub kept : {A B : Type 0} (r : Result A BadEvents) (f : A → B) (x : A) → r ≡ Ok x → Ok (f x) ≡ then_read r (λ y. Ok (f y))
kept r f x is = ap (λ (q : Result _ BadEvents). then_read q (λ y. Ok (f y))) (sym is)

pub kept_wrong : {A B : Type 0} (r : Result A BadEvents) (f : A → Result B BadEvents) (wrong : BadEvents) → r ≡ Err wrong → Err wrong ≡ then_read r f
kept_wrong r f wrong is = ap (λ (q : Result _ BadEvents). then_read q f) (sym is)

-- the result of which this is kept
pub is_kept : {A B : Type 0} (r : Result A BadEvents) (f : A → B) (y : B) → Ok y ≡ then_read r (λ x. Ok (f x)) → (x : A) × (r ≡ Ok x) × (f x ≡ y)
is_kept (Ok x) f y is = (x, refl, cc)
is_kept (Err wrong) f y is = cc

pub is_kept_wrong : {A B : Type 0} (r : Result A BadEvents) (f : A → B) (wrong : BadEvents) → Err wrong ≡ then_read r (λ x. Ok (f x)) → r ≡ Err wrong
is_kept_wrong (Ok x) f wrong is = cc
is_kept_wrong (Err other) f wrong is = cc

-- ---- the intervals

-- so many intervals were read, with so many events together
pub record HaveReadIntervals (comps : List Comp) (bytes : List ℕ) (count interval at events : ℕ) : Type 0 where
  pub done : List (List FiredEvent)
  pub so_far : intervals_from comps bytes count 0 16 ≡ behind done (intervals_from comps bytes (count - interval) interval at)
  pub many : length done ≡ interval
  pub events_are : sum_by length done ≡ events

pub no_intervals : (comps : List Comp) (bytes : List ℕ) (count : ℕ) → HaveReadIntervals comps bytes count 0 16 0
no_intervals comps bytes count =
    let all : count ≡ count - 0 = omega arith in
    record {
      done = [];
      so_far = behind_none (intervals_from comps bytes count 0 16) ∙ ap (λ n. behind [] (intervals_from comps bytes n 0 16)) all;
      many = refl;
      events_are = refl;
    }

intervals_left : (comps : List Comp) (bytes : List ℕ) (count interval at events left : ℕ) → HaveReadIntervals comps bytes count interval at events → count - interval ≡ suc left
    → (done : List (List FiredEvent)) × (length done ≡ interval) × (sum_by length done ≡ events) × (intervals_from comps bytes count 0 16
    ≡ behind done (then_read (interval_from comps bytes interval at) (λ timed. then_read (intervals_from comps bytes left (interval + 1) (at + (4 + 64 * length timed))) (λ rest. Ok (timed ∷ rest)))))
intervals_left comps bytes count interval at events left read more =
    (read.done, read.many, read.events_are, read.so_far ∙ ap (λ n. behind read.done (intervals_from comps bytes n interval at)) more)

pub one_interval_more : (comps : List Comp) (bytes : List ℕ) (count interval at events : ℕ) (timed : List FiredEvent) (n : ℕ) → HaveReadIntervals comps bytes count interval at events → interval < count
    → interval_from comps bytes interval at ≡ Ok timed → length timed ≡ n → HaveReadIntervals comps bytes count (interval + 1) (at + (4 + 64 * n)) (events + n)
one_interval_more comps bytes count interval at events timed n read within is long =
    let left = count - (interval + 1) in
    let more : count - interval ≡ suc left = omega (arith, within) in
    let so_far = intervals_left comps bytes count interval at events left read more in
    let past = at + (4 + 64 * length timed) in
    let one : sum_by length (timed ∷ []) ≡ length timed = sum_by-cons length timed [] ∙ omega arith in
    record {
      done = so_far.0 ++ timed ∷ [];
      so_far = so_far.3
          ∙ (ap (λ r. behind so_far.0 (then_read r (λ first. then_read (intervals_from comps bytes left (interval + 1) (at + (4 + 64 * length first))) (λ rest. Ok (first ∷ rest))))) is
          ∙ (behind_more so_far.0 timed (intervals_from comps bytes left (interval + 1) past)
          ∙ ap (λ m. behind (so_far.0 ++ timed ∷ []) (intervals_from comps bytes left (interval + 1) (at + (4 + 64 * m)))) long));
      many = length-append so_far.0 (timed ∷ []) ∙ omega (arith, so_far.1);
      events_are = sum_by-append length so_far.0 (timed ∷ []) ∙ omega (arith, so_far.2, one, long);
    }

pub wrong_interval : (comps : List Comp) (bytes : List ℕ) (count interval at events : ℕ) (wrong : BadEvents) → HaveReadIntervals comps bytes count interval at events → interval < count
    → interval_from comps bytes interval at ≡ Err wrong → intervals_from comps bytes count 0 16 ≡ Err wrong
wrong_interval comps bytes count interval at events wrong read within is =
    let left = count - (interval + 1) in
    let more : count - interval ≡ suc left = omega (arith, within) in
    let so_far = intervals_left comps bytes count interval at events left read more in
    so_far.3 ∙ ap (λ r. behind so_far.0 (then_read r (λ first. then_read (intervals_from comps bytes left (interval + 1) (at + (4 + 64 * length first))) (λ rest. Ok (first ∷ rest))))) is

-- all intervals were read, and the file ends there or goes on
pub all_intervals_read : (comps : List Comp) (bytes : List ℕ) (count interval at events : ℕ) → HaveReadIntervals comps bytes count interval at events → count ≤ interval → at ≡ length bytes
    → (intervals : List (List FiredEvent)) × (intervals_from comps bytes count 0 16 ≡ Ok intervals) × (length intervals ≡ interval) × (sum_by length intervals ≡ events)
all_intervals_read comps bytes count interval at events read all end =
    let none : count - interval ≡ 0 = omega (arith, all) in (
      read.done,
      read.so_far ∙ (ap (λ n. behind read.done (intervals_from comps bytes n interval at)) none ∙ rw (eq-eqb at (length bytes) end) (ap Ok (append-nil read.done))),
      read.many,
      read.events_are,
    )
