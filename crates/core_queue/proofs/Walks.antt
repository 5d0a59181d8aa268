-- The walks up and down a tree of minima.
use Rattle.std.proofs.Common.{◌≡◌, ◌+◌, ◌*◌, ◌<◌, ◌≤◌, ◌^◌, ◌/◌, ℕ, zero, suc, min, List, length, get_or, inl, inr, sym, ap, ap₂, subst, ◌∙◌, arith}
use Rattle.std.specs.Prelude.{slice_set, ◌⊎◌}
use Rattle.std.proofs.Math.Nat.{pow-le-pow_right, pow-suc}
use Rattle.std.proofs.lemmas.Bool.{cases_eq, cases_lt}
use Rattle.std.proofs.lemmas.List.{get_or-set_other, get_or-set_same}
use Rattle.core_queue.specs.Minima.{AreMinima}

-- which of two nodes below another a node is
halves : (above n : ℕ) → 2 * above ≤ n → n ≤ 2 * above + 1 → (n ≡ 2 * above) ⊎ (n ≡ 2 * above + 1)
halves above n low high = elim (cases_lt (2 * above) n) [ inl more ↦ inr (omega (arith, more, high)) | inr not ↦ inl (omega (arith, not, low)) ]

-- each node above the leaves is the lesser of the two below it, but for the one above a node
abbrev pub AreMinimaBut : (leaves at : ℕ) → List ℕ → Type 0
AreMinimaBut leaves at nodes = (n : ℕ) → 0 < n → n < leaves → (2 * n ≡ at → ⊥) → (2 * n + 1 ≡ at → ⊥) → get_or nodes n 0 ≡ min (get_or nodes (2 * n) 0) (get_or nodes (2 * n + 1) 0)

-- ---- up
pub leaf_set : (leaves at word : ℕ) (nodes : List ℕ) → AreMinima leaves nodes → leaves ≤ at → at < length nodes → AreMinimaBut leaves at (slice_set nodes at word)
leaf_set leaves at word nodes minima leaf within n some below left right =
    let here : get_or (slice_set nodes at word) n 0 ≡ get_or nodes n 0 = get_or-set_other nodes at n word 0 (λ e. omega (arith, e, leaf, below)) in
    let first : get_or (slice_set nodes at word) (2 * n) 0 ≡ get_or nodes (2 * n) 0 = get_or-set_other nodes at (2 * n) word 0 left in
    let second : get_or (slice_set nodes at word) (2 * n + 1) 0 ≡ get_or nodes (2 * n + 1) 0 = get_or-set_other nodes at (2 * n + 1) word 0 right in
    here ∙ (minima n some below ∙ ap₂ min (sym first) (sym second))

module _ (leaves at above beside : ℕ) (nodes : List ℕ) (low : 2 * above ≤ at) (high : at ≤ 2 * above + 1) (other : at + beside ≡ 4 * above + 1) (some : 0 < above) (within : above < length nodes) (before : AreMinimaBut leaves at nodes) where
  lesser : min (get_or nodes at 0) (get_or nodes beside 0) ≡ min (get_or nodes (2 * above) 0) (get_or nodes (2 * above + 1) 0)
  lesser = elim (halves above at low high) [
    | inl is ↦ ap₂ (λ a b. min (get_or nodes a 0) (get_or nodes b 0)) is (let e : beside ≡ 2 * above + 1 = omega (arith, is, other) in e)
    | inr is ↦
        let a : get_or nodes at 0 ≡ get_or nodes (2 * above + 1) 0 = ap (λ k. get_or nodes k 0) is in
        let b : get_or nodes beside 0 ≡ get_or nodes (2 * above) 0 = ap (λ k. get_or nodes k 0) (let e : beside ≡ 2 * above = omega (arith, is, other) in e) in
        omega (arith, a, b)
  ]

  pub one_up : (least : ℕ) → least ≡ min (get_or nodes at 0) (get_or nodes beside 0) → AreMinimaBut leaves above (slice_set nodes above least)
  one_up least is n some_n below left right =
      let first : get_or (slice_set nodes above least) (2 * n) 0 ≡ get_or nodes (2 * n) 0 = get_or-set_other nodes above (2 * n) least 0 left in
      let second : get_or (slice_set nodes above least) (2 * n + 1) 0 ≡ get_or nodes (2 * n + 1) 0 = get_or-set_other nodes above (2 * n + 1) least 0 right in
      elim (cases_eq above n) [
        | inl same ↦
            let here : get_or (slice_set nodes above least) n 0 ≡ least = subst (λ k. get_or (slice_set nodes above least) k 0 ≡ least) same (get_or-set_same nodes above least 0 within) in
            let now : min (get_or nodes (2 * above) 0) (get_or nodes (2 * above + 1) 0) ≡ min (get_or nodes (2 * n) 0) (get_or nodes (2 * n + 1) 0) = ap (λ k. min (get_or nodes (2 * k) 0) (get_or nodes (2 * k + 1) 0)) same in
            here ∙ (is ∙ (lesser ∙ (now ∙ ap₂ min (sym first) (sym second))))
        | inr apart ↦
            let here : get_or (slice_set nodes above least) n 0 ≡ get_or nodes n 0 = get_or-set_other nodes above n least 0 (λ e. apart (sym e)) in
            here ∙ (before n some_n below (λ e. apart (omega (arith, e, low, high))) (λ e. apart (omega (arith, e, low, high))) ∙ ap₂ min (sym first) (sym second))
      ]

pub at_the_root : (leaves at : ℕ) (nodes : List ℕ) → at ≤ 1 → AreMinimaBut leaves at nodes → AreMinima leaves nodes
at_the_root leaves at nodes top but n some below = but n some below (λ e. omega (arith, e, top, some)) (λ e. omega (arith, e, top, some))

-- ---- down

-- a node has the least, and none to its left on its level
pub record IsFirst (nodes : List ℕ) (first at : ℕ) : Type 0 where
  pub from : first ≤ at
  pub to : at < 2 * first
  pub least : get_or nodes at 0 ≡ get_or nodes 1 0
  pub left : (n : ℕ) → first ≤ n → n < at → get_or nodes 1 0 < get_or nodes n 0

module _ (leaves : ℕ) (nodes : List ℕ) (minima : AreMinima leaves nodes) where
  no_less : (above n : ℕ) → 0 < above → above < leaves → 2 * above ≤ n → n ≤ 2 * above + 1 → get_or nodes above 0 ≤ get_or nodes n 0
  no_less above n some below low high = elim (halves above n low high) [
    | inl is ↦ omega (arith, minima above some below, ap (λ k. get_or nodes k 0) is)
    | inr is ↦ omega (arith, minima above some below, ap (λ k. get_or nodes k 0) is)
  ]

  -- no node has less than the root
  none_less : (bound n : ℕ) → n < bound → 0 < n → n < 2 * leaves → get_or nodes 1 0 ≤ get_or nodes n 0
  none_less zero n low some within = absurd (omega (arith, low))
  none_less (suc bound) n low some within = elim (cases_lt 1 n) [
    | inl more ↦
        let half : ℕ = n / 2 in
        omega (arith, none_less bound (n / 2) (omega (arith, low, more)) (omega (arith, more)) (omega (arith, within)), no_less (n / 2) n (omega (arith, more)) (omega (arith, within)) (omega arith) (omega arith))
    | inr not ↦ (let one : 1 ≡ n = omega (arith, not, some) in omega (arith, ap (λ k. get_or nodes k 0) one))
  ]

  pub below_all : (n : ℕ) → 0 < n → n < 2 * leaves → get_or nodes 1 0 ≤ get_or nodes n 0
  below_all n = none_less (n + 1) n (omega arith)

  module _ (first at : ℕ) (is : IsFirst nodes first at) (some : 0 < first) (inner : 2 * first ≤ leaves) where
    lesser_two : get_or nodes 1 0 ≡ min (get_or nodes (2 * at) 0) (get_or nodes (2 * at + 1) 0)
    lesser_two = sym is.least ∙ minima at (omega (arith, is.from, some)) (omega (arith, is.to, inner))

    behind_left : (n : ℕ) → 2 * first ≤ n → n < 2 * at → get_or nodes 1 0 < get_or nodes n 0
    behind_left n low high = omega (arith, is.left (n / 2) (omega (arith, low)) (omega (arith, high)), no_less (n / 2) n (omega (arith, low, some)) (omega (arith, high, is.to, inner)) (omega arith) (omega arith))

    pub to_the_left : get_or nodes (2 * at) 0 ≡ get_or nodes 1 0 → IsFirst nodes (2 * first) (2 * at)
    to_the_left has = record { from = omega (arith, is.from); to = omega (arith, is.to); least = has; left = behind_left }

    pub to_the_right : (get_or nodes (2 * at) 0 ≡ get_or nodes 1 0 → ⊥) → IsFirst nodes (2 * first) (2 * at + 1)
    to_the_right not = record {
      from = omega (arith, is.from);
      to = omega (arith, is.to);
      least = omega (arith, lesser_two, not);
      left = λ n low high. elim (cases_lt n (2 * at)) [
        | inl less ↦ behind_left n low less
        | inr here ↦ (let same : 2 * at ≡ n = omega (arith, here, high) in omega (arith, lesser_two, not, ap (λ k. get_or nodes k 0) same))
      ];
    }

-- a level has twice as many nodes as the one above it, and no more than there are leaves
pub twice : (level : ℕ) → 2 ^ (level + 1) ≡ 2 * 2 ^ level
twice level = (let same : 2 ^ (level + 1) ≡ 2 ^ suc level = ap (λ n. 2 ^ n) (let e : level + 1 ≡ suc level = omega arith in e) in omega (arith, same, pow-suc 2 level))

pub inner_level : (level levels : ℕ) → level < levels → 2 * 2 ^ level ≤ 2 ^ levels
inner_level level levels less = (let up : 2 ^ (level + 1) ≤ 2 ^ levels = pow-le-pow_right {n = 2} (omega arith) {i = level + 1} {j = levels} (omega (arith, less)) in omega (arith, up, twice level))
