-- The runs by which the keys of a core's accesses are kept.
use Rattle.std.proofs.Common.{◌≡◌, ℕ, zero, suc, ◌+◌, ◌<◌, ◌≤◌, ◌^◌, cond, nat_lt, List, [], ◌∷◌, ◌++◌, drop, get_or, length, replicate, refl, sym, ap, ◌∙◌, subst, arith, inl, inr}
use Rattle.std.proofs.lemmas.Bool.{cases_eq, lt-ltb}
use Rattle.std.proofs.lemmas.List.{append-nil, append_assoc, drop-append-le, drop_all, drop_more, length-append, length_push}
use Rattle.parts_table.specs.KeptKeys.{AreKeptSo, RunsRise, ended, first_key, first_of, keys_of}
use Rattle.parts_table.specs.TurnOrder.{AreRising, IsNotAbove}
use Rattle.parts_table.specs.declared.blocks.Run.{Run}

keys_append : (xs ys : List Run) → keys_of (xs ++ ys) ≡ keys_of xs ++ keys_of ys
keys_append [] ys = refl
keys_append (x ∷ xs) ys = ap (λ (ks : List ℕ). replicate x.count x.key ++ ks) (keys_append xs ys) ∙ sym (append_assoc (replicate x.count x.key) (keys_of xs) (keys_of ys))

rise_drop : (n : ℕ) (runs : List Run) (end : ℕ) → RunsRise runs end → RunsRise (drop n runs) end
rise_drop zero runs end rise = rise
rise_drop (suc n) [] end rise = tt
rise_drop (suc n) (run ∷ runs) end rise = rise_drop n runs end rise.2

rise_low : (run : Run) (runs : List Run) (end : ℕ) → RunsRise (run ∷ runs) end → run.key < end
rise_low run [] end rise = rise.1
rise_low run (next ∷ runs) end rise = let h : next.key < end = rise_low next runs end rise.2 in omega (arith, rise.1)

rise_later : (runs : List Run) (end later : ℕ) → end ≤ later → RunsRise runs end → RunsRise runs later
rise_later [] end later h rise = tt
rise_later (run ∷ []) end later h rise = (rise.0, omega (arith, rise.1, h), tt)
rise_later (run ∷ next ∷ runs) end later h rise = (rise.0, rise.1, rise_later (next ∷ runs) end later h rise.2)

-- one run more
rise_more : (runs : List Run) (end key count later : ℕ) → RunsRise runs end → end ≤ key → 0 < count → key < later → RunsRise (runs ++ record { key = key; count = count } ∷ []) later
rise_more [] end key count later rise high some below = (some, below, tt)
rise_more (run ∷ []) end key count later rise high some below = (rise.0, omega (arith, rise.1, high), (some, below, tt))
rise_more (run ∷ next ∷ runs) end key count later rise high some below = (rise.0, rise.1, rise_more (next ∷ runs) end key count later rise.2 high some below)

-- ---- the last run ends
ended_none : (runs : List Run) (key : ℕ) → ended runs key 0 ≡ runs
ended_none runs key = append-nil runs

ended_some : (runs : List Run) (key count : ℕ) → 0 < count → ended runs key count ≡ runs ++ record { key = key; count = count } ∷ []
ended_some runs key count some = ap (λ t. runs ++ cond t (record { key = key; count = count } ∷ []) []) (lt-ltb 0 count some)

pub kept_later : (runs : List Run) (first closed key count room later : ℕ) → AreKeptSo runs first closed key count room → key < later → later < 2 ^ 55
    → AreKeptSo (ended runs key count) first (closed + count) later 0 room
kept_later runs first closed key count room later kept h low = elim (cases_eq count 0) [
  | inl none ↦ record {
    taken = (let k = kept.taken in subst (λ (xs : List Run). first ≤ length xs) (sym (same none)) k);
    rise = subst (λ (xs : List Run). RunsRise xs later) (sym (same none)) (rise_later runs key later (omega arith) kept.rise);
    few = (let k = kept.few in subst (λ (xs : List Run). length xs ≤ closed + count) (sym (same none)) (omega arith));
    fits = omega (arith, kept.fits);
    low = low;
    short = kept.short;
  }
  | inr some ↦ record {
    taken = (let k = kept.taken in let n = many (omega arith) in omega arith);
    rise = subst (λ (xs : List Run). RunsRise xs later) (sym (ended_some runs key count (omega arith))) (rise_more runs key key count later kept.rise (omega arith) (omega arith) h);
    few = (let k = kept.few in let n = many (omega arith) in omega arith);
    fits = omega (arith, kept.fits);
    low = low;
    short = kept.short;
  }
]
  where
    same : count ≡ 0 → ended runs key count ≡ runs
    same none = ap (ended runs key) none ∙ ended_none runs key

    many : 0 < count → length (ended runs key count) ≡ length runs + 1
    many some = ap length (ended_some runs key count some) ∙ length_push runs (record { key = key; count = count })

pub keys_later : (runs : List Run) (first key count : ℕ) → first ≤ length runs → keys_of (drop first (ended runs key count)) ≡ keys_of (drop first runs) ++ replicate count key
keys_later runs first key count h = elim (cases_eq count 0) [
  | inl none ↦ ap (λ n. keys_of (drop first (ended runs key n))) none ∙ ap (λ (xs : List Run). keys_of (drop first xs)) (ended_none runs key)
      ∙ sym (append-nil (keys_of (drop first runs))) ∙ ap (λ n. keys_of (drop first runs) ++ replicate n key) (sym none)
  | inr some ↦ ap (λ (xs : List Run). keys_of (drop first xs)) (ended_some runs key count (omega arith))
      ∙ ap keys_of (drop-append-le first runs (record { key = key; count = count } ∷ []) h)
      ∙ keys_append (drop first runs) (record { key = key; count = count } ∷ [])
      ∙ ap (λ ks. keys_of (drop first runs) ++ ks) (append-nil (replicate count key))
]

-- ---- an access that begins a run of its own, behind the last run
pub kept_shared : (runs : List Run) (first closed key count room head : ℕ) → AreKeptSo runs first closed key count room → key < head → head + 1 < 2 ^ 55 → closed + count < room
    → AreKeptSo (ended runs key count ++ record { key = head; count = 1 } ∷ []) first (closed + count + 1) (head + 1) 0 room
kept_shared runs first closed key count room head kept h low fits =
    let k : AreKeptSo (ended runs key count) first (closed + count) head 0 room = kept_later runs first closed key count room head kept h (omega arith) in
    let many : length (ended runs key count ++ record { key = head; count = 1 } ∷ []) ≡ length (ended runs key count) + 1 = length_push (ended runs key count) (record { key = head; count = 1 }) in
    record {
      taken = omega (arith, k.taken, many);
      rise = rise_more (ended runs key count) head head 1 (head + 1) k.rise (omega arith) (omega arith) (omega arith);
      few = omega (arith, k.few, many);
      fits = omega arith;
      low = low;
      short = kept.short;
    }

pub keys_shared : (runs : List Run) (first closed key count room head : ℕ) → AreKeptSo runs first closed key count room
    → keys_of (drop first (ended runs key count ++ record { key = head; count = 1 } ∷ [])) ≡ (keys_of (drop first runs) ++ replicate count key) ++ head ∷ []
keys_shared runs first closed key count room head kept =
    ap keys_of (drop-append-le first (ended runs key count) (record { key = head; count = 1 } ∷ []) within)
    ∙ keys_append (drop first (ended runs key count)) (record { key = head; count = 1 } ∷ [])
    ∙ ap (λ ks. ks ++ head ∷ []) (keys_later runs first key count kept.taken)
  where
    within : first ≤ length (ended runs key count)
    within = omega (arith, kept.taken, length-append runs (cond (nat_lt 0 count) (record { key = key; count = count } ∷ []) []))

-- ---- the first run
above_more : (n key : ℕ) (keys : List ℕ) → IsNotAbove key keys → IsNotAbove key (replicate n key ++ keys)
above_more zero key keys h = h
above_more (suc n) key keys h = omega arith

rising_more : (n key : ℕ) (keys : List ℕ) → IsNotAbove key keys → AreRising keys → AreRising (replicate n key ++ keys)
rising_more zero key keys h rise = rise
rising_more (suc n) key keys h rise = (above_more n key keys h, rising_more n key keys h rise)

not_above : (key : ℕ) (runs : List Run) (end count : ℕ) → key < first_key runs end → RunsRise runs end → IsNotAbove key (keys_of runs ++ replicate count end)
not_above key [] end zero h rise = tt
not_above key [] end (suc count) h rise = omega arith
not_above key (run ∷ runs) end count h rise = first_above run.count rise.0
  where
    first_above : (n : ℕ) → 0 < n → IsNotAbove key ((replicate n run.key ++ keys_of runs) ++ replicate count end)
    first_above zero some = absurd (omega arith)
    first_above (suc n) some = omega arith

rising_last : (count end : ℕ) → AreRising (replicate count end)
rising_last zero end = tt
rising_last (suc zero) end = (tt, tt)
rising_last (suc (suc count)) end = (omega arith, rising_last (suc count) end)

pub keys_rise : (runs : List Run) (end count : ℕ) → RunsRise runs end → AreRising (keys_of runs ++ replicate count end)
keys_rise [] end count rise = rising_last count end
keys_rise (run ∷ runs) end count rise =
    subst AreRising (sym (append_assoc (replicate run.count run.key) (keys_of runs) (replicate count end)))
    (rising_more run.count run.key (keys_of runs ++ replicate count end) (not_above run.key runs end count rise.1 rise.2) (keys_rise runs end count rise.2))

-- keys that begin with a run
pub record BeginsWith (keys : List ℕ) (run : Run) (end : ℕ) : Type 0 where
  pub first : first_of keys ≡ run.key
  pub low : run.key < end
  pub some : 0 < run.count

first_is : (run : Run) (keys : List ℕ) (n : ℕ) → run.count ≡ n → 0 < n → first_of (replicate run.count run.key ++ keys) ≡ run.key
first_is run keys zero is some = absurd (omega arith)
first_is run keys (suc n) is some = ap (λ m. first_of (replicate m run.key ++ keys)) is

pub run_begins : (runs : List Run) (first end count : ℕ) (run : Run) → RunsRise runs end → first < length runs → run ≡ get_or runs first run
    → BeginsWith (keys_of (drop first runs) ++ replicate count end) run end
run_begins runs first end count run rise within is = record {
  first = ap first_of (ap (λ (xs : List Run). keys_of xs ++ replicate count end) there ∙ append_assoc (replicate run.count run.key) (keys_of (drop (first + 1) runs)) (replicate count end))
      ∙ first_is run (keys_of (drop (first + 1) runs) ++ replicate count end) run.count refl here.0;
  low = rise_low run (drop (first + 1) runs) end here;
  some = here.0;
}
  where
    there : drop first runs ≡ run ∷ drop (first + 1) runs
    there = drop_more runs first run within ∙ ap (λ (r : Run). r ∷ drop (first + 1) runs) (sym is)

    here : RunsRise (run ∷ drop (first + 1) runs) end
    here = subst (λ (xs : List Run). RunsRise xs end) there (rise_drop first runs end rise)

pub last_begins : (runs : List Run) (first end count : ℕ) → length runs ≤ first → 0 < count → first_of (keys_of (drop first runs) ++ replicate count end) ≡ end
last_begins runs first end count past some =
    ap (λ (xs : List Run). first_of (keys_of xs ++ replicate count end)) (drop_all first runs past) ∙ one count some
  where
    one : (n : ℕ) → 0 < n → first_of (replicate n end) ≡ end
    one zero some = absurd (omega arith)
    one (suc n) some = refl

pub rest_rises : (runs : List Run) (first end count : ℕ) → RunsRise runs end → AreRising (keys_of (drop first runs) ++ replicate count end)
rest_rises runs first end count rise = keys_rise (drop first runs) end count (rise_drop first runs end rise)
