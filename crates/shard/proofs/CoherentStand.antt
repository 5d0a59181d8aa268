-- Sets in which each line stands in its own.
use Rattle.std.proofs.Common.{◌≡◌, ℕ, zero, suc, ◌/◌, ◌%◌, true, false, cond, eqb, List, [], ◌∷◌, length, get_or, set, take, replicate, Some, None, refl, sym, ap, ◌∙◌, subst, arith, inl, inr}
use Rattle.std.specs.List.{All}
use Rattle.std.specs.Option.{option_map_or}
use Rattle.std.proofs.lemmas.Bool.{cases_eq, cases_lt}
use Rattle.std.proofs.lemmas.List.{get_or-set_same, get_or-set_other, get_or_past, length-set}
use Rattle.std.proofs.lemmas.List.Elements.{All-nil, All-cons}
use Rattle.cache_set.specs.Ways.{kept_of, without, used, changed}
use Rattle.cache_set.specs.Lines.{set_of, in_set_of, set_number}
use Rattle.shard.proofs.CoherentLists.{empty_at}

-- ---- one set, of so many, with its number
module _ {X : Type 0} where
  abbrev pub Stand : (shards count n : ℕ) → List (ℕ × X) → Type 0
  Stand shards count n [] = Unit {0}
  Stand shards count n (e ∷ es) = (e.0 / shards % count ≡ n) × Stand shards count n es

  module _ (shards count n : ℕ) where
    pub stand_without : (line : ℕ) (s : List (ℕ × X)) → Stand shards count n s → Stand shards count n (without line s)
    stand_without line [] h = tt
    stand_without line (e ∷ s) h =
        elim (eqb line e.0) as (λ b. Stand shards count n (cond b s (e ∷ without line s)))
        [ true ↦ h.1 | false ↦ (h.0, stand_without line s h.1) ]

    pub stand_changed : (line : ℕ) (v : X) (s : List (ℕ × X)) → Stand shards count n s → Stand shards count n (changed line v s)
    stand_changed line v [] h = tt
    stand_changed line v (e ∷ s) h =
        elim (eqb line e.0) as (λ b. Stand shards count n (cond b ((e.0, v) ∷ s) (e ∷ changed line v s)))
        [ true ↦ (h.0, h.1) | false ↦ (h.0, stand_changed line v s h.1) ]

    pub stand_take : (k : ℕ) (s : List (ℕ × X)) → Stand shards count n s → Stand shards count n (take k s)
    stand_take zero s h = tt
    stand_take (suc k) [] h = tt
    stand_take (suc k) (e ∷ s) h = (h.0, stand_take k s h.1)

    pub stand_used : (line : ℕ) (s : List (ℕ × X)) → line / shards % count ≡ n → Stand shards count n s → Stand shards count n (used line s)
    stand_used line s e h =
        elim (kept_of line s) as (λ o. Stand shards count n (option_map_or (λ kept. (line, kept) ∷ without line s) o s))
        [ None ↦ h | Some v ↦ (e, stand_without line s h) ]

    pub stand_all : (s : List (ℕ × X)) → Stand shards count n s → All (λ (way : ℕ × X). way.0 / shards % count ≡ n) s
    stand_all [] h = All-nil (λ (way : ℕ × X). way.0 / shards % count ≡ n)
    stand_all (e ∷ s) h = All-cons (λ (way : ℕ × X). way.0 / shards % count ≡ n) e s h.0 (stand_all s h.1)

  -- ---- all sets
  pub record AllStand (shards count : ℕ) (sets : List (List (ℕ × X))) : Type 0 where
    pub many : length sets ≡ count
    pub each : (n : ℕ) → Stand shards count n (get_or sets n [])

  pub none_stand : (shards : ℕ) → AllStand shards 0 []
  none_stand shards = record { many = refl; each = λ n. tt }

  -- one line's set changes
  pub stand_in_set : (shards count line : ℕ) (change : List (ℕ × X) → List (ℕ × X)) (sets : List (List (ℕ × X)))
      → (Stand shards count (line / shards % count) (set_of shards line sets) → Stand shards count (line / shards % count) (change (set_of shards line sets)))
      → AllStand shards count sets → AllStand shards count (in_set_of shards line change sets)
  stand_in_set shards count line change sets step h =
      let k : ℕ = set_number shards line sets in
      let is : k ≡ line / shards % count = ap (λ (x : ℕ). line / shards % x) h.many in
      let same : Stand shards count k (change (get_or sets k []))
      = subst (λ (x : ℕ). Stand shards count x (change (get_or sets k []))) (sym is) (step (subst (λ (x : ℕ). Stand shards count x (get_or sets k [])) is (h.each k))) in
      record {
        many = length-set sets k (change (get_or sets k [])) ∙ h.many;
        each = λ n. elim (cases_eq n k) as (λ _. Stand shards count n (get_or (set sets k (change (get_or sets k []))) n [])) [
          | inl e ↦ subst (λ (x : ℕ). Stand shards count x (get_or (set sets k (change (get_or sets k []))) x [])) (sym e)
              (elim (cases_lt k (length sets)) as (λ _. Stand shards count k (get_or (set sets k (change (get_or sets k []))) k [])) [
                | inl l ↦ rw (get_or-set_same sets k (change (get_or sets k [])) [] l) same
                | inr l ↦ rw (get_or_past (set sets k (change (get_or sets k []))) k [] (omega (arith, length-set sets k (change (get_or sets k []))))) tt
              ])
          | inr e ↦ rw (get_or-set_other sets k n (change (get_or sets k [])) [] e) (h.each n)
        ];
      }

pub empty_stands : {X : Type 0} (shards many : ℕ) → AllStand {X = X} shards (length (replicate {A = List (ℕ × X)} many [])) (replicate many [])
empty_stands {X = X} shards many = record { many = refl; each = λ n. rw (empty_at {X = ℕ × X} many n) tt }
