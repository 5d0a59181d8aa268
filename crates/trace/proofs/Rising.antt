-- Accesses whose stamps rise are in recorded order.
use Rattle.std.proofs.Common.{◌≡◌, ℕ, ◌<◌, nat_lt, Bool, true, List, [], ◌∷◌, ◌++◌, ◌&&◌, refl, sym, ap, subst, ◌∙◌, arith, rules}
use Rattle.std.specs.List.{fold}
use Rattle.std.proofs.lemmas.Bool.{and_parts}
use Rattle.std.proofs.lemmas.Bool.Decides.{nat_tests}
use Rattle.zs_num.specs.declared.entry.Entry.{Entry}
use Rattle.access_log.specs.History.{AreRising}
use Rattle.access_log.specs.RecordedOrder.{comes_before, placed, recorded_order}
use Rattle.trace.specs.Port.{KnowsItsOrder}

earlier_before : (e x : Entry) → e.stamp < x.stamp → comes_before e x ≡ true
earlier_before e x earlier = let before : nat_lt e.stamp x.stamp ≡ true = search rules in rw before refl

placed_first : (e x : Entry) (entries : List Entry) → e.stamp < x.stamp → placed e (x ∷ entries) ≡ e ∷ x ∷ entries
placed_first e x entries earlier = let is = earlier_before e x earlier in rw is refl

pub rising_recorded : (above : ℕ) (entries : List Entry) → AreRising above entries → recorded_order entries ≡ entries
rising_recorded above [] rising = refl
rising_recorded above (e ∷ []) rising = refl
rising_recorded above (e ∷ x ∷ entries) rising =
    ap (placed e) (rising_recorded e.stamp (x ∷ entries) rising.1) ∙ placed_first e x entries rising.1.0

-- the stamp of the last, or this one where there is none
abbrev latest_from : ℕ → List Entry → ℕ
latest_from stamp entries = fold (λ latest e. e.stamp) stamp entries

latest_then : (stamp : ℕ) (entries : List Entry) (e : Entry) → latest_from stamp (entries ++ e ∷ []) ≡ e.stamp
latest_then stamp [] e = refl
latest_then stamp (x ∷ entries) e = latest_then x.stamp entries e

rising_then : (above : ℕ) (entries : List Entry) (e : Entry) → AreRising above entries → latest_from above entries < e.stamp → AreRising above (entries ++ e ∷ [])
rising_then above [] e rising later = (later, tt)
rising_then above (x ∷ entries) e rising later = (rising.0, rising_then x.stamp entries e rising.1 later)

less : (a b : ℕ) → nat_lt a b ≡ true → a < b
less a b test = grind (arith, nat_tests)

-- before the first access
pub knows_none : (entries : List Entry) → entries ≡ [] → KnowsItsOrder 0 true entries
knows_none entries none = subst (KnowsItsOrder 0 true) (sym none) (record { latest = refl; rising = λ is. tt })

-- after another access
pub knows_after : (last : ℕ) (rises later : Bool) (entries after : List Entry) (e : Entry) → KnowsItsOrder last rises entries
    → later ≡ (rises && nat_lt last e.stamp) → after ≡ entries ++ e ∷ [] → KnowsItsOrder e.stamp later after
knows_after last rises later entries after e knows is more =
    subst (KnowsItsOrder e.stamp later) (sym more) (record {
      latest = sym (latest_then 0 entries e);
      rising = λ rose.
          let both = and_parts rises (nat_lt last e.stamp) (sym is ∙ rose) in
          rising_then 0 entries e (knows.rising both.0) (subst (λ (n : ℕ). n < e.stamp) knows.latest (less last e.stamp both.1));
    })
