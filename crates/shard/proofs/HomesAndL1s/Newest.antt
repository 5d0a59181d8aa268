-- The newest bytes of a line, where at most one core has the line modified.
use Rattle.std.proofs.Common.{◌≡◌, ◌≢◌, ℕ, zero, suc, ◌<◌, ◌⊎◌, List, [], ◌∷◌, length, get_or, set, refl, sym, ap, ◌∙◌, arith, inl, inr}
use Rattle.l1_cache.specs.L1State.{L1State, copy_at, newer_bytes, no_l1}
use Rattle.shard.specs.Seen.{newest_in}

-- an L1 has nothing newer of a line
abbrev pub IsOld : (line : ℕ) → L1State → Type 0
IsOld line l1 = (h : List ℕ) → newer_bytes (copy_at l1 line) h ≡ h

-- of two L1s one has nothing newer
abbrev pub OneIsOld : (line : ℕ) → (a b : L1State) → Type 0
OneIsOld line a b = IsOld line a ⊎ IsOld line b

pub newest_none : (line : ℕ) (h : List ℕ) (l1s : List L1State) → ((k : ℕ) → IsOld line (get_or l1s k no_l1)) → newest_in line h l1s ≡ h
newest_none line h [] old = refl
newest_none line h (l1 ∷ l1s) old =
    newest_none line (newer_bytes (copy_at l1 line) h) l1s (λ k. old (suc k)) ∙ old 0 h

-- the one core that may have it newer
pub newest_one : (line core : ℕ) (h : List ℕ) (l1s : List L1State) → core < length l1s → ((k : ℕ) → k ≢ core → IsOld line (get_or l1s k no_l1))
    → newest_in line h l1s ≡ newer_bytes (copy_at (get_or l1s core no_l1) line) h
newest_one line core h [] l old = absurd (omega arith)
newest_one line zero h (l1 ∷ l1s) l old = newest_none line (newer_bytes (copy_at l1 line) h) l1s (λ k. old (suc k) (omega arith))
newest_one line (suc core) h (l1 ∷ l1s) l old =
    ap (λ (b : List ℕ). newest_in line b l1s) (old 0 (omega arith) h)
    ∙ newest_one line core h l1s (omega arith) (λ k apart. old (suc k) (λ e. apart (omega arith)))

-- the same copies give the same bytes
pub newest_same : (line : ℕ) (h : List ℕ) (a b : List L1State) → length a ≡ length b → ((k : ℕ) → copy_at (get_or a k no_l1) line ≡ copy_at (get_or b k no_l1) line) → newest_in line h a ≡ newest_in line h b
newest_same line h [] [] l same = refl
newest_same line h [] (y ∷ b) l same = absurd (omega arith)
newest_same line h (x ∷ a) [] l same = absurd (omega arith)
newest_same line h (x ∷ a) (y ∷ b) l same =
    ap (λ c. newest_in line (newer_bytes c h) a) (same 0)
    ∙ newest_same line (newer_bytes (copy_at y line) h) a b (omega arith) (λ k. same (suc k))

commute : (line : ℕ) (a b : L1State) (h : List ℕ) → OneIsOld line a b
    → newer_bytes (copy_at a line) (newer_bytes (copy_at b line) h) ≡ newer_bytes (copy_at b line) (newer_bytes (copy_at a line) h)
commute line a b h one =
    elim one as (λ _. newer_bytes (copy_at a line) (newer_bytes (copy_at b line) h) ≡ newer_bytes (copy_at b line) (newer_bytes (copy_at a line) h)) [
      | inl old ↦ old (newer_bytes (copy_at b line) h) ∙ sym (ap (newer_bytes (copy_at b line)) (old h))
      | inr old ↦ ap (newer_bytes (copy_at a line)) (old h) ∙ sym (old (newer_bytes (copy_at a line) h))
    ]

-- what a core wrote goes home, and it has nothing newer from then on
pub newest_moved : (line core : ℕ) (h : List ℕ) (l1s : List L1State) (after : L1State) → IsOld line after
    → ((k : ℕ) → k ≢ core → OneIsOld line (get_or l1s k no_l1) (get_or l1s core no_l1))
    → newest_in line (newer_bytes (copy_at (get_or l1s core no_l1) line) h) (set l1s core after) ≡ newest_in line h l1s
unfolding copy_at
newest_moved line core h [] after old one = refl
newest_moved line zero h (l1 ∷ l1s) after old one =
    ap (λ (b : List ℕ). newest_in line b l1s) (old (newer_bytes (copy_at l1 line) h))
newest_moved line (suc core) h (l1 ∷ l1s) after old one =
    ap (λ (b : List ℕ). newest_in line b (set l1s core after)) (commute line l1 (get_or l1s core no_l1) h (one 0 (omega arith)))
    ∙ newest_moved line core (newer_bytes (copy_at l1 line) h) l1s after old (λ k apart. one (suc k) (λ e. apart (omega arith)))
