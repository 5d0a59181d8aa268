-- The core that has a line alone shares it: what is seen of it.
use Rattle.std.proofs.Common.{◌≡◌, ◌≢◌, ℕ, ◌%◌, ◌<◌, ◌≤◌, Bool, true, false, cond, List, [], ◌∷◌, length, get_or, map, Option, Some, None, refl, sym, ap, ◌∙◌, subst, arith, inl, inr}
use Rattle.std.specs.List.{enumerate_from}
use Rattle.std.specs.Option.{option_map_or, unwrap_or}
use Rattle.std.specs.Prelude.{nat_eq}
use Rattle.std.specs.Set.{is_member}
use Rattle.std.proofs.lemmas.Bool.{cases_Bool, cases_lt}
use Rattle.std.proofs.lemmas.List.{ext_get_or, get_or_past, length-map}
use Rattle.std.proofs.lemmas.List.FromFn.{length-enumerate_from}
use Rattle.std.proofs.lemmas.Map.Steps.{set_value_same}
use Rattle.cache_set.specs.Ways.{changed, kept_of}
use Rattle.cache_set.specs.declared.letter.Letter.{Letter}
use Rattle.cache_set.specs.declared.letter.Letter.TheVariants.{M, E, S, I}
use Rattle.shard.specs.Coherence.{Caches, is_alone, is_valid, letter_in, other_after, others_changed, with_letter}
use Rattle.home.specs.HomeState.{HomeState, row_of, with_bytes_at}
use Rattle.l1_cache.specs.L1State.{Copy, L1State, as_shared, copies_at, copy_at, no_l1, shared_among, shared_in}
use Rattle.cache_set.specs.Lines.{in_set_of, set_of}
use Rattle.shard.specs.PartsLaws.{AreParts, IsOwn}
use Rattle.shard.specs.Seen.{caches_seen, letters_in, sets_seen}
use Rattle.shard.specs.SharedStep.{Bank, collected, copy_of, l1_of, shared_by, with_l1}
use Rattle.shard.proofs.CoherentLines.{kept_changed_same, set_same}
use Rattle.shard.proofs.CoherentLists.{numbered_at}
use Rattle.shard.proofs.HomesAndL1s.Fit.{AreFit, fit_home}
use Rattle.shard.proofs.HomesAndL1s.FitOf.{fit_of}
use Rattle.shard.proofs.HomesAndL1s.FoldAt.{fold_named, fold_unnamed}
use Rattle.shard.proofs.HomesAndL1s.FoldIsMap.{fold_long, no_shared, one_after_the_other, shared_l1s}
use Rattle.shard.proofs.HomesAndL1s.LettersSeen.{copies_seen, copy_valid, letter_kept}
use Rattle.shard.proofs.HomesAndL1s.ListsSeen.{sets_changed}
use Rattle.shard.proofs.HomesAndL1s.OthersSeen.{KeepsRest, bank_of_parts, others_seen}
use Rattle.shard.proofs.HomesAndL1s.RecalledSeen.{absent, without_absent}
use Rattle.shard.proofs.HomesAndL1s.RowsSeen.{in_set_same, see_maybe, seen_changed, seen_kept}

pub shared_keeps : (line : ℕ) → KeepsRest (shared_in line)
unfolding shared_in
shared_keeps line = record { shards = λ l1. refl; ways = λ l1. refl; l1i_ways = λ l1. refl; l1i = λ l1. refl }

-- only bytes of the home change
pub shared_home : (line : ℕ) (cores : List ℕ) (p : Bank) → (shared_by line cores p).home ≡ record p.home { bytes = (shared_by line cores p).home.bytes }
unfolding with_bytes_at
shared_home line [] p = refl
shared_home line (core ∷ cores) p = shared_home line cores (with_l1 core (shared_in line) (collected line core p))

-- ---- one set
among : (line : ℕ) (s : List (ℕ × Copy)) (o : Option Copy) → kept_of line s ≡ o → shared_among line s ≡ option_map_or (λ copy. changed line (as_shared copy) s) o s
among line s o e = ap (λ (k : Option Copy). option_map_or (λ copy. changed line (as_shared copy) s) k s) e

kept_then : (line : ℕ) (v copy : Copy) (s : List (ℕ × Copy)) → kept_of line s ≡ Some copy → kept_of line (changed line v s) ≡ Some v
kept_then line v copy s e = kept_changed_same line v s ∙ ap (λ (k : Option Copy). option_map_or (λ _. Some v) k None) e

again_among : (line : ℕ) (s : List (ℕ × Copy)) (o : Option Copy) → kept_of line s ≡ o → shared_among line (shared_among line s) ≡ shared_among line s
again_among line s None e =
    let same : shared_among line s ≡ s = among line s None e in
    ap (shared_among line) same
again_among line s (Some copy) e =
    let v : Copy = as_shared copy in
    let is : shared_among line s ≡ changed line v s = among line s (Some copy) e in
    ap (shared_among line) is
    ∙ (among line (changed line v s) (Some v) (kept_then line v copy s e)
    ∙ (set_value_same (nat_eq line) (changed line v s) v (kept_then line v copy s e)
    ∙ sym is))

becomes_shared : (letter : Letter) → is_valid letter ≡ true → other_after false letter ≡ S
becomes_shared M h = refl
becomes_shared E h = refl
becomes_shared S h = refl
becomes_shared I h = absurd cc

-- the letters of a set in which a line is shared
letters_shared : (line : ℕ) (s : List (ℕ × Copy)) (o : Option Copy) → kept_of line s ≡ o → ((copy : Copy) → o ≡ Some copy → is_valid copy.letter ≡ true)
    → letters_in (shared_among line s) ≡ with_letter line (other_after false (letter_in line (letters_in s))) (letters_in s)
letters_shared line s None e valid =
    let none : kept_of line (letters_in s) ≡ None = seen_kept letter_kept line s ∙ ap (see_maybe letter_kept) e in
    let letter : letter_in line (letters_in s) ≡ I = ap (λ (k : Option Letter). unwrap_or k I) none in
    ap letters_in (among line s None e)
    ∙ sym (ap (λ (x : Letter). with_letter line (other_after false x) (letters_in s)) letter ∙ without_absent line (letters_in s) none)
letters_shared line s (Some copy) e valid =
    let kept : kept_of line (letters_in s) ≡ Some copy.letter = seen_kept letter_kept line s ∙ ap (see_maybe letter_kept) e in
    let letter : other_after false (letter_in line (letters_in s)) ≡ S = ap (λ (k : Option Letter). other_after false (unwrap_or k I)) kept ∙ becomes_shared copy.letter (valid copy refl) in
    ap letters_in (among line s (Some copy) e)
    ∙ (seen_changed letter_kept line (as_shared copy) s
    ∙ sym (ap (λ (x : Letter). with_letter line x (letters_in s)) letter))

-- a line that is shared already, or not there
stays_shared : (line : ℕ) (s : List (ℕ × Copy)) (o : Option Copy) → kept_of line s ≡ o → ((copy : Copy) → o ≡ Some copy → (is_valid copy.letter ≡ true) × (is_alone copy.letter ≡ false))
    → with_letter line (other_after false (letter_in line (letters_in s))) (letters_in s) ≡ letters_in s
stays_shared line s None e valid =
    let none : kept_of line (letters_in s) ≡ None = seen_kept letter_kept line s ∙ ap (see_maybe letter_kept) e in
    let letter : letter_in line (letters_in s) ≡ I = ap (λ (k : Option Letter). unwrap_or k I) none in
    ap (λ (x : Letter). with_letter line (other_after false x) (letters_in s)) letter ∙ without_absent line (letters_in s) none
stays_shared line s (Some copy) e valid =
    let is : copy.letter ≡ S = only_shared copy.letter (valid copy refl).0 (valid copy refl).1 in
    let kept : kept_of line (letters_in s) ≡ Some S = seen_kept letter_kept line s ∙ (ap (see_maybe letter_kept) e ∙ ap (λ (x : Letter). Some x) is) in
    let letter : letter_in line (letters_in s) ≡ S = ap (λ (k : Option Letter). unwrap_or k I) kept in
    ap (λ (x : Letter). with_letter line (other_after false x) (letters_in s)) letter ∙ set_value_same (nat_eq line) (letters_in s) S kept where
      only_shared : (letter : Letter) → is_valid letter ≡ true → is_alone letter ≡ false → letter ≡ S
      only_shared M v a = absurd cc
      only_shared E v a = absurd cc
      only_shared S v a = refl
      only_shared I v a = absurd cc

-- ---- one L1
pub again_shared : (line : ℕ) (l1 : L1State) → 1 ≤ length l1.sets → shared_in line (shared_in line l1) ≡ shared_in line l1
unfolding shared_in
again_shared line l1 some =
    let sets : List (List (ℕ × Copy)) = in_set_of l1.shards line (shared_among line) l1.sets in
    let s : List (ℕ × Copy) = copies_at l1 line in
    let here : set_of l1.shards line sets ≡ shared_among line s = set_same l1.shards line (shared_among line) l1.sets some in
    ap (λ (z : List (List (ℕ × Copy))). record l1 { sets = z })
    (in_set_same l1.shards line (shared_among line) sets (ap (shared_among line) here ∙ (again_among line s (kept_of line s) refl ∙ sym here)))

pub shared_absent : (line : ℕ) (l1 : L1State) → copy_at l1 line ≡ None → shared_in line l1 ≡ l1
unfolding shared_in copy_at
shared_absent line l1 none =
    ap (λ (sets : List (List (ℕ × Copy))). record l1 { sets = sets }) (in_set_same l1.shards line (shared_among line) l1.sets (among line (copies_at l1 line) None none))

module _ (p : Bank) (are : AreParts p) (core line : ℕ) (own : IsOwn p line) where
  abbrev pub sharers : List ℕ
  sharers = (row_of p.home line).sharers

  abbrev pub sharing : List L1State
  sharing = one_after_the_other no_l1 (shared_in line) (no_shared line) sharers p.l1s

  again_at : (k : ℕ) → shared_in line (shared_in line (l1_of p k)) ≡ shared_in line (l1_of p k)
  again_at k =
      elim (cases_lt k (length p.l1s)) as (λ _. shared_in line (shared_in line (l1_of p k)) ≡ shared_in line (l1_of p k)) [
        | inl l ↦ again_shared line (l1_of p k) (omega (arith, ((fit_of p are).each k l).room))
        | inr past ↦ subst (λ (l1 : L1State). shared_in line (shared_in line l1) ≡ shared_in line l1) (sym (get_or_past p.l1s k no_l1 past)) (ap (shared_in line) (no_shared line))
      ]

  pub sharing_at : (k : ℕ) → get_or sharing k no_l1 ≡ shared_in line (l1_of p k)
  sharing_at k =
      elim (cases_Bool (is_member nat_eq sharers k)) as (λ _. get_or sharing k no_l1 ≡ shared_in line (l1_of p k)) [
        | inl t ↦ fold_named no_l1 (shared_in line) (no_shared line) sharers p.l1s k t (again_at k)
        | inr t ↦ fold_unnamed no_l1 (shared_in line) (no_shared line) sharers p.l1s k t ∙ sym (shared_absent line (l1_of p k) (absent p are line own k t))
      ]

  module _ (home : HomeState) (count : home.shards ≡ p.home.shards) (number : home.number ≡ p.home.number) where
    fit : AreFit (bank_of_parts home p.l1s)
    fit = fit_home p home (fit_of p are) count number

    own_here : IsOwn (bank_of_parts home p.l1s) line
    own_here = ap (λ (z : ℕ). line % z) count ∙ (own ∙ sym number)

    valid : (k : ℕ) (copy : Copy) → copy_of p k line ≡ Some copy → is_valid copy.letter ≡ true
    valid k copy e = (copy_valid p are k line copy own e)

    each : (k : ℕ) → k < length p.l1s → k ≢ core
        → sets_seen home (shared_in line (l1_of p k)) ≡ in_set_of home.shards line (λ copies. with_letter line (other_after false (letter_in line copies)) copies) (sets_seen home (l1_of p k))
    unfolding shared_in copy_at
    each k within apart =
        sets_changed (bank_of_parts home p.l1s) fit k line within own_here (shared_among line) (λ copies. with_letter line (other_after false (letter_in line copies)) copies)
        (letters_shared line (copies_at (l1_of p k) line) (copy_of p k line) refl (valid k))

    pub sharing_seen : is_member nat_eq sharers core ≡ false
        → caches_seen (shared_by line sharers (bank_of_parts home p.l1s)) ≡ others_changed (other_after false) core line (caches_seen (bank_of_parts home p.l1s))
    unfolding caches_seen
    sharing_seen apart =
        let after : Bank = shared_by line sharers (bank_of_parts home p.l1s) in
        ap (λ (h : HomeState). caches_seen (bank_of_parts h after.l1s)) (shared_home line sharers (bank_of_parts home p.l1s))
        ∙ (ap (λ (l1s : List L1State). caches_seen (bank_of_parts home l1s)) (shared_l1s line sharers (bank_of_parts home p.l1s))
        ∙ others_seen home p.l1s sharing core line (shared_in line) (shared_keeps line) (fold_long no_l1 (shared_in line) (no_shared line) sharers p.l1s)
        (fold_unnamed no_l1 (shared_in line) (no_shared line) sharers p.l1s core apart) (λ k _. sharing_at k) (other_after false) each)

    -- where nobody has it alone, nothing changes
    pub nobody_shares : ((k : ℕ) (copy : Copy) → copy_of p k line ≡ Some copy → is_alone copy.letter ≡ false)
        → others_changed (other_after false) core line (caches_seen (bank_of_parts home p.l1s)) ≡ caches_seen (bank_of_parts home p.l1s)
    unfolding caches_seen others_changed copy_at
    nobody_shares alone =
        let c : Caches = caches_seen (bank_of_parts home p.l1s) in
        let h : List (List (ℕ × Letter)) → List (List (ℕ × Letter)) = in_set_of c.shards line (λ copies. with_letter line (other_after false (letter_in line copies)) copies) in
        let g : ℕ × List (List (ℕ × Letter)) → List (List (ℕ × Letter)) = λ at. cond (nat_eq at.0 core) at.1 (h at.1) in
        let still : (k : ℕ) → h (get_or c.l1 k []) ≡ get_or c.l1 k []
        = λ k. in_set_same c.shards line (λ copies. with_letter line (other_after false (letter_in line copies)) copies) (get_or c.l1 k [])
        (still_at c k (copies_seen (bank_of_parts home p.l1s) fit k line own_here) (stays_shared line (copies_at (l1_of p k) line) (copy_of p k line) refl (λ copy e. (valid k copy e, alone k copy e)))) in
        ap (λ (z : List (List (List (ℕ × Letter)))). record c { l1 = z })
        (ext_get_or [] (map g (enumerate_from 0 c.l1)) c.l1 (length-map (enumerate_from 0 c.l1) g ∙ length-enumerate_from 0 c.l1)
        (λ k inside. numbered_at g c.l1 k (nothing (nat_eq k core)) ∙ either (nat_eq k core) (h (get_or c.l1 k [])) (get_or c.l1 k []) (still k))) where
          still_at : (c : Caches) (k : ℕ) → set_of home.shards line (get_or c.l1 k []) ≡ letters_in (copies_at (l1_of p k) line)
              → with_letter line (other_after false (letter_in line (letters_in (copies_at (l1_of p k) line)))) (letters_in (copies_at (l1_of p k) line)) ≡ letters_in (copies_at (l1_of p k) line)
              → with_letter line (other_after false (letter_in line (set_of home.shards line (get_or c.l1 k [])))) (set_of home.shards line (get_or c.l1 k [])) ≡ set_of home.shards line (get_or c.l1 k [])
          still_at c k is same =
              ap (λ (s : List (ℕ × Letter)). with_letter line (other_after false (letter_in line s)) s) is ∙ (same ∙ sym is)

          nothing : (b : Bool) → cond b [] (in_set_of home.shards line (λ (copies : List (ℕ × Letter)). with_letter line (other_after false (letter_in line copies)) copies) []) ≡ []
          nothing true = refl
          nothing false = refl

          either : (b : Bool) (x y : List (List (ℕ × Letter))) → x ≡ y → cond b y x ≡ y
          either true x y e = refl
          either false x y e = e
