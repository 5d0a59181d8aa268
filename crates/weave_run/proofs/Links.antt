-- One crossing more is linked behind the one before with the same parent.
use Rattle.std.proofs.Common.{◌≡◌, ◌≢◌, ◌+◌, ◌<◌, ℕ, List, length, set, get_or, Some, slice_get, sym, ◌∙◌, ap, subst, inl, inr, arith, length-set}
use Rattle.std.proofs.lemmas.Bool.{cases_eq, cases_lt}
use Rattle.std.proofs.lemmas.List.{get_or-set_same, get_or-set_other}
use Rattle.std.proofs.lemmas.Option.{same_Some, slice_get_within}
use Rattle.domain_map.specs.declared.crossing.Crossing.{Crossing}
use Rattle.weave_run.specs.Outgoing.{AreCrossingsLinked, IsLastBelow}

-- the first so many crossings are linked
pub record AreLinkedBelow (crossings : List Crossing) (number : ℕ) (last before : List ℕ) : Type 0 where
  pub room : length before ≡ length crossings
  pub lasts : (parent : ℕ) → parent < length last → IsLastBelow crossings number parent (get_or last parent 0)
  pub befores : (n : ℕ) (x : Crossing) → n < number → slice_get crossings n ≡ Some x → IsLastBelow crossings n x.parent (get_or before n 0)

pub none_linked : (crossings : List Crossing) (last before : List ℕ) → length before ≡ length crossings → ((parent : ℕ) → parent < length last → get_or last parent 0 ≡ 0)
    → AreLinkedBelow crossings 0 last before
none_linked crossings last before room zeros = record {
  room = room;
  lasts = λ parent l. subst (IsLastBelow crossings 0 parent) (sym (zeros parent l)) (record {
    below = omega arith;
    there = λ n e. absurd (omega (arith, e));
    none_behind = λ n x a b. absurd (omega (arith, b));
  });
  befores = λ n x l. absurd (omega (arith, l));
}

pub one_linked : (crossings : List Crossing) (number : ℕ) (last before : List ℕ) (x : Crossing) → AreLinkedBelow crossings number last before → slice_get crossings number ≡ Some x
    → number < length crossings → x.parent < length last → AreLinkedBelow crossings (number + 1) (set last x.parent (number + 1)) (set before number (get_or last x.parent 0))
one_linked crossings number last before x h at inside there = record {
  room = length-set before number (get_or last x.parent 0) ∙ h.room;
  lasts = λ parent l.
      elim (cases_eq parent x.parent) [
        | inl same ↦
            subst (IsLastBelow crossings (number + 1) parent) (sym (ap (λ n. get_or (set last x.parent (number + 1)) n 0) same ∙ get_or-set_same last x.parent (number + 1) 0 there))
            (record {
              below = omega arith;
              there = λ n e. let is : number ≡ n = omega (arith, e) in (x, ap (slice_get crossings) (sym is) ∙ at, sym same);
              none_behind = λ n y a b. absurd (omega (arith, a, b));
            })
        | inr other ↦
            subst (IsLastBelow crossings (number + 1) parent) (sym (get_or-set_other last x.parent parent (number + 1) 0 other))
            (later parent (get_or last parent 0) other (h.lasts parent (let s = length-set last x.parent (number + 1) in omega (arith, l, s))))
      ];
  befores = λ n y l is.
      elim (cases_lt n number) [
        | inl less ↦
            subst (IsLastBelow crossings n y.parent) (sym (get_or-set_other before number n (get_or last x.parent 0) 0 (λ e. omega (arith, e, less)))) (h.befores n y less is)
        | inr past ↦
            let here : number ≡ n = omega (arith, l, past) in
            let one : x ≡ y = same_Some x y (sym at ∙ (ap (slice_get crossings) here ∙ is)) in
            subst (λ (k : ℕ). IsLastBelow crossings k y.parent (get_or (set before number (get_or last x.parent 0)) k 0)) here
            (subst (IsLastBelow crossings number y.parent) (sym (get_or-set_same before number (get_or last x.parent 0) 0 (let r = h.room in omega (arith, r, inside))))
            (subst (λ (z : Crossing). IsLastBelow crossings number z.parent (get_or last x.parent 0)) one (h.lasts x.parent there)))
      ];
}
  where
    later : (parent link : ℕ) → parent ≢ x.parent → IsLastBelow crossings number parent link → IsLastBelow crossings (number + 1) parent link
    later parent link other b = record {
      below = let u = b.below in omega (arith, u);
      there = b.there;
      none_behind = λ n y a l is e.
          elim (cases_lt n number) [
            | inl less ↦ b.none_behind n y a less is e
            | inr past ↦
                let here : number ≡ n = omega (arith, l, past) in
                let one : x ≡ y = same_Some x y (sym at ∙ (ap (slice_get crossings) here ∙ is)) in
                other (sym e ∙ ap (λ (z : Crossing). z.parent) (sym one))
          ];
    }

pub all_linked : (crossings : List Crossing) (number : ℕ) (last before : List ℕ) → AreLinkedBelow crossings number last before → number ≡ length crossings → AreCrossingsLinked crossings last before
all_linked crossings number last before h all = record {
  lasts = λ parent l. subst (λ (n : ℕ). IsLastBelow crossings n parent (get_or last parent 0)) all (h.lasts parent l);
  befores = λ n x is. h.befores n x (let w = slice_get_within crossings n x is in omega (arith, w, all)) is;
}
