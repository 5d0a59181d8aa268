-- What is kept of accesses does not tell their stamps.
use Rattle.std.proofs.Common.{◌≡◌, ℕ, List, [], ◌∷◌, All, length, map, refl, sym, ◌∙◌, ap, subst, arith, inl, inr}
use Rattle.std.proofs.lemmas.Bool.{cases_Bool, cases_eq, eq-eqb, ne_eqb}
use Rattle.std.proofs.lemmas.List.{length-map}
use Rattle.std.proofs.lemmas.List.Elements.{All-cons, All-head, All-nil, All-tail}
use Rattle.zs_num.specs.declared.entry.Entry.{Entry}
use Rattle.access_log.specs.History.{AreStamped, of_core, stamped_by}
use Rattle.access_log.specs.RecordedOrder.{Stamps}
use Rattle.access_record.specs.BankLogs.{makes_events}
use Rattle.access_record.specs.Laws.{beyond_hits}
use Rattle.access_record.specs.Restamped.{AreSameButStamps, unstamped, with_stamp, with_stamps}

first_same : (e f : Entry) (es fs : List Entry) → AreSameButStamps (e ∷ es) (f ∷ fs) → unstamped f ≡ unstamped e
first_same e f es fs same = let both : unstamped f ∷ map unstamped fs ≡ unstamped e ∷ map unstamped es = same in cc

rest_same : (e f : Entry) (es fs : List Entry) → AreSameButStamps (e ∷ es) (f ∷ fs) → AreSameButStamps es fs
rest_same e f es fs same = let both : unstamped f ∷ map unstamped fs ≡ unstamped e ∷ map unstamped es = same in cc

pub same_length : (entries others : List Entry) → AreSameButStamps entries others → length others ≡ length entries
same_length entries others same = sym (length-map others unstamped) ∙ (ap length same ∙ length-map entries unstamped)

-- whatever is made of accesses without their stamps
pub same_made : {X : Type 0} (f : Entry → X) → ((e : Entry) → f (unstamped e) ≡ f e) → (entries others : List Entry) → AreSameButStamps entries others → map f others ≡ map f entries
same_made f stampless [] [] same = refl
same_made f stampless [] (x ∷ others) same = absurd (let size = same_length [] (x ∷ others) same in omega (arith, size))
same_made f stampless (e ∷ entries) [] same = absurd (let size = same_length (e ∷ entries) [] same in omega (arith, size))
same_made f stampless (e ∷ entries) (x ∷ others) same =
    let one : f x ≡ f e = sym (stampless x) ∙ (ap f (first_same e x entries others same) ∙ stampless e) in
    let later = same_made f stampless entries others (rest_same e x entries others same) in
    λ i. one i ∷ later i

-- and whatever holds of them
pub same_holds : (P : Entry → Type 0) → ((e : Entry) → P (unstamped e) → P e) → ((e : Entry) → P e → P (unstamped e)) → (entries others : List Entry) → AreSameButStamps entries others → All P entries → All P others
same_holds P back forth [] [] same all = all
same_holds P back forth [] (x ∷ others) same all = absurd (let size = same_length [] (x ∷ others) same in omega (arith, size))
same_holds P back forth (e ∷ entries) [] same all = absurd (let size = same_length (e ∷ entries) [] same in omega (arith, size))
same_holds P back forth (e ∷ entries) (x ∷ others) same all =
    All-cons P x others (back x (subst P (sym (first_same e x entries others same)) (forth e (All-head P e entries all))))
    (same_holds P back forth entries others (rest_same e x entries others same) (All-tail P e entries all))

-- ---- the stamps that follow

pub stamps_follow : (banks : ℕ) (stamps : Stamps) (entries : List Entry) → AreStamped banks stamps (with_stamps banks stamps entries)
stamps_follow banks stamps [] = tt
stamps_follow banks stamps (e ∷ entries) = (refl, stamps_follow banks (stamped_by banks stamps (with_stamp banks stamps e)) entries)

pub only_stamps : (banks : ℕ) (stamps : Stamps) (entries : List Entry) → AreSameButStamps entries (with_stamps banks stamps entries)
only_stamps banks stamps [] = refl
only_stamps banks stamps (e ∷ entries) = ap (λ (es : List Entry). unstamped e ∷ es) (only_stamps banks (stamped_by banks stamps (with_stamp banks stamps e)) entries)

-- the same of those of a core
pub same_of_core : (core : ℕ) (entries others : List Entry) → AreSameButStamps entries others → AreSameButStamps (of_core core entries) (of_core core others)
same_of_core core [] [] same = refl
same_of_core core [] (x ∷ others) same = absurd (let size = same_length [] (x ∷ others) same in omega (arith, size))
same_of_core core (e ∷ entries) [] same = absurd (let size = same_length (e ∷ entries) [] same in omega (arith, size))
same_of_core core (e ∷ entries) (x ∷ others) same =
    let one : x.core ≡ e.core = ap (λ (y : Entry). y.core) (first_same e x entries others same) in
    let later = same_of_core core entries others (rest_same e x entries others same) in
    let Goal : Type 0 = AreSameButStamps (of_core core (e ∷ entries)) (of_core core (x ∷ others)) in
    elim (cases_eq e.core core) as (λ _. Goal) [
      | inl own ↦ rw (eq-eqb e.core core own, eq-eqb x.core core (one ∙ own)) (λ i. first_same e x entries others same i ∷ later i)
      | inr other ↦ rw (ne_eqb e.core core other, ne_eqb x.core core (λ is. other (sym one ∙ is))) later
    ]

-- and of those that make events
pub same_beyond_hits : (entries others : List Entry) → AreSameButStamps entries others → AreSameButStamps (beyond_hits entries) (beyond_hits others)
same_beyond_hits [] [] same = refl
same_beyond_hits [] (x ∷ others) same = absurd (let size = same_length [] (x ∷ others) same in omega (arith, size))
same_beyond_hits (e ∷ entries) [] same = absurd (let size = same_length (e ∷ entries) [] same in omega (arith, size))
same_beyond_hits (e ∷ entries) (x ∷ others) same =
    let one : makes_events x.outcome ≡ makes_events e.outcome = ap (λ (y : Entry). makes_events y.outcome) (first_same e x entries others same) in
    let later = same_beyond_hits entries others (rest_same e x entries others same) in
    let Goal : Type 0 = AreSameButStamps (beyond_hits (e ∷ entries)) (beyond_hits (x ∷ others)) in
    elim (cases_Bool (makes_events e.outcome)) as (λ _. Goal) [
      | inl some ↦ rw (some, one ∙ some) (λ i. first_same e x entries others same i ∷ later i)
      | inr none ↦ rw (none, one ∙ none) later
    ]
