-- Loops over the cores of a set, the least first.
use Rattle.std.proofs.Common.{◌≡◌, ◌≢◌, ℕ, ◌+◌, ◌<◌, ◌≤◌, ◌⊎◌, max, Bool, true, false, List, [], ◌∷◌, ◌++◌, get_or, length, set, refl, sym, ◌∙◌, ap, subst, arith, inl, inr}
use Rattle.std.specs.Prelude.{nat_eq}
use Rattle.std.specs.Set.{is_member}
use Rattle.std.proofs.lemmas.Bool.{cases_eq}
use Rattle.std.proofs.lemmas.List.{get_or-set_other, get_or-set_same, length-set}
use Rattle.parts_table.specs.Places.{is_in}
use Rattle.parts_table.proofs.Members.{in_cons, in_first, in_none, in_rest, not_in}

-- The latest of a time and those of all cores but these.
pub record IsLatest (at : ℕ → ℕ) (first : ℕ) (all left : List ℕ) (time : ℕ) : Type 0 where
  pub past : first ≤ time
  pub done : (c : ℕ) → is_in all c → is_in left c ⊎ (at c ≤ time)
  pub within : (c : ℕ) → is_in left c → is_in all c
  pub one : (time ≡ first) ⊎ ((c : ℕ) × is_in all c × (time ≡ at c))

pub latest_begins : (at : ℕ → ℕ) (first : ℕ) (all : List ℕ) → IsLatest at first all all first
latest_begins at first all = record { past = omega arith; done = λ c is. inl is; within = λ c is. is; one = inl refl }

pub latest_goes_on : (at : ℕ → ℕ) (first : ℕ) (all left rest : List ℕ) (core time later : ℕ) → left ≡ core ∷ rest → later ≡ max time (at core) → IsLatest at first all left time → IsLatest at first all rest later
latest_goes_on at first all left rest core time later is most it =
    let here : is_in left core = subst (λ (cs : List ℕ). is_in cs core) (sym is) (in_first core rest core refl) in
    let known = it.within core here in
    record {
      past = (let was = it.past in omega (arith, was, most));
      done = λ c in_all. elim (it.done c in_all) as (λ _. is_in rest c ⊎ (at c ≤ later)) [
        | inl old ↦ elim (in_cons core rest c (subst (λ (cs : List ℕ). is_in cs c) is old)) as (λ _. is_in rest c ⊎ (at c ≤ later)) [
          | inl same ↦ inr (let e : at c ≡ at core = ap at same in omega (arith, e, most))
          | inr other ↦ inl other
        ]
        | inr low ↦ inr (omega (arith, low, most))
      ];
      within = λ c in_rest_too. it.within c (subst (λ (cs : List ℕ). is_in cs c) (sym is) (in_rest core rest c in_rest_too));
      one = elim (cases_eq later time) as (λ _. (later ≡ first) ⊎ ((c : ℕ) × is_in all c × (later ≡ at c))) [
        | inl same ↦ elim it.one as (λ _. (later ≡ first) ⊎ ((c : ℕ) × is_in all c × (later ≡ at c))) [
          | inl e ↦ inl (same ∙ e)
          | inr e ↦ inr (e.0, e.1, same ∙ e.2)
        ]
        | inr other ↦ inr (core, known, omega (arith, most, other))
      ];
    }

-- The times of all cores but these are set.
pub record AreRaised (before : List ℕ) (time : ℕ) (all left : List ℕ) (times : List ℕ) : Type 0 where
  pub count : length times ≡ length before
  pub done : (c : ℕ) → is_in all c → is_in left c ⊎ (get_or times c 0 ≡ time)
  pub kept : (c : ℕ) → is_member nat_eq all c ≡ false → get_or times c 0 ≡ get_or before c 0
  pub within : (c : ℕ) → is_in left c → is_in all c

pub raised_begins : (before : List ℕ) (time : ℕ) (all : List ℕ) → AreRaised before time all all before
raised_begins before time all = record { count = refl; done = λ c is. inl is; kept = λ c other. refl; within = λ c is. is }

pub raised_goes_on : (before : List ℕ) (time : ℕ) (all left rest times : List ℕ) (core : ℕ) → left ≡ core ∷ rest → core < length times → AreRaised before time all left times → AreRaised before time all rest (set times core time)
raised_goes_on before time all left rest times core is low it =
    let here : is_in left core = subst (λ (cs : List ℕ). is_in cs core) (sym is) (in_first core rest core refl) in
    let known = it.within core here in
    record {
      count = length-set times core time ∙ it.count;
      done = λ c in_all. elim (cases_eq c core) as (λ _. is_in rest c ⊎ (get_or (set times core time) c 0 ≡ time)) [
        | inl same ↦ inr (ap (λ (n : ℕ). get_or (set times core time) n 0) same ∙ get_or-set_same times core time 0 low)
        | inr other ↦
            let stays : get_or (set times core time) c 0 ≡ get_or times c 0 = get_or-set_other times core c time 0 other in
            elim (it.done c in_all) as (λ _. is_in rest c ⊎ (get_or (set times core time) c 0 ≡ time)) [
              | inl old ↦ elim (in_cons core rest c (subst (λ (cs : List ℕ). is_in cs c) is old)) as (λ _. is_in rest c ⊎ (get_or (set times core time) c 0 ≡ time)) [
                | inl same ↦ absurd (other same)
                | inr more ↦ inl more
              ]
              | inr done ↦ inr (stays ∙ done)
            ]
      ];
      kept = λ c other.
          let apart : c ≢ core = λ same. (let yes : is_member nat_eq all c ≡ true = subst (λ (n : ℕ). is_in all n) (sym same) known in let bad : true ≡ false = sym yes ∙ other in cc) in
          get_or-set_other times core c time 0 apart ∙ it.kept c other;
      within = λ c in_rest_too. it.within c (subst (λ (cs : List ℕ). is_in cs c) (sym is) (in_rest core rest c in_rest_too));
    }
