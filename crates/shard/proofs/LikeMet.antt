-- How a bank meets an access that has only the parts that it touches.
use Rattle.std.proofs.Common.{◌≡◌, ℕ, ◌<◌, ◌&&◌, Bool, true, false, cond, List, [], ◌∷◌, length, Option, is_some, refl, sym, ap, ◌∙◌, subst}
use Rattle.std.specs.Prelude.{IsSome, nat_eq}
use Rattle.std.specs.Set.{is_member}
use Rattle.zs_num.specs.Request.{is_fetch, line_of}
use Rattle.zs_num.specs.declared.entry.Outcome.{Outcome}
use Rattle.zs_num.specs.declared.entry.Outcome.TheVariants.{Hit}
use Rattle.zs_num.specs.declared.request.Request.{Request}
use Rattle.cache_set.specs.declared.letter.Letter.{Letter}
use Rattle.home.specs.HomeState.{HomeLine, HomeState, evicted_by, row_at, row_of}
use Rattle.l1_cache.specs.L1State.{L1State, copy_at, is_private, letter_of}
use Rattle.shard.specs.Coherence.{fetch_outcome_by, is_valid, is_write, outcome_by}
use Rattle.shard.specs.PartsLaws.{AreParts, IsAsked}
use Rattle.shard.specs.SharedStep.{Bank, copy_of, holders_of, is_dirty_here, is_some_core, l1_of, met_at_bank, others_asked, others_of, own_letter, ready_by, touched_by}
use Rattle.shard.specs.Touched.{AreLike, HasTouched, HasTouchedFor, HasTouchedToFetch, IsLike, touched_for, touched_to_fetch}
use Rattle.shard.proofs.BankMet.{asks_for, fetch_absent, fetched_met, made_marks, made_room, made_there, read_met}
use Rattle.shard.proofs.HomesAndL1s.Decisions.{member_first}
use Rattle.shard.proofs.HomesAndL1s.Frame.{not_first}
use Rattle.shard.proofs.HomesAndL1s.Mixed.{are_apart, like_is, mixed, own_kept, rest, taken, through_all}
use Rattle.shard.proofs.HomesAndL1s.OnlyTouched.{only_touched_count}
use Rattle.shard.proofs.HomesAndL1s.Private.{private_is_of_one_l1}
use Rattle.shard.proofs.HomesAndL1s.Untouched.{through_ready}

-- ---- what is touched
module _ (p : Bank) (core : ℕ) (request : Request) where
  abbrev line : ℕ
  line = line_of request

  abbrev asked_by : (private fetch : Bool) → Outcome → List ℕ
  asked_by private fetch met = core ∷ cond private [] (others_asked met fetch (is_write request) core (row_of p.home line) (evicted_by p.home line))

  own_touched : is_member nat_eq (touched_by p core request) core ≡ true
  unfolding touched_by
  own_touched =
      member_first core (cond (is_private (l1_of p core) request) [] (others_asked (met_at_bank p core request) (is_fetch request) (is_write request) core (row_of p.home line) (evicted_by p.home line)))

  fetch_asks : (in_l2 write dirty : Bool) (row : HomeLine) (evicted : Option (ℕ × HomeLine)) → others_asked (fetch_outcome_by false in_l2 dirty) true write core row evicted ≡ cond in_l2 [] (holders_of evicted)
  fetch_asks true write dirty row evicted = refl
  fetch_asks false write dirty row evicted = refl

  touched_is_fetched : is_fetch request ≡ true → is_private (l1_of p core) request ≡ false → touched_by p core request ≡ touched_to_fetch p core line
  unfolding touched_by
  touched_is_fetched f shared =
      let dirty : Bool = is_dirty_here p (evicted_by p.home line) in
      ap (λ (b : Bool). asked_by b (is_fetch request) (met_at_bank p core request)) shared
      ∙ (ap (λ (b : Bool). asked_by false b (met_at_bank p core request)) f
      ∙ (ap (λ (o : Outcome). asked_by false true o) (sym (fetched_met p core request f (fetch_absent (l1_of p core) request f shared)))
      ∙ ap (λ (t : List ℕ). core ∷ t) (fetch_asks (is_some (row_at p.home line)) (is_write request) dirty (row_of p.home line) (evicted_by p.home line))))

  touched_is_read : is_fetch request ≡ false → is_private (l1_of p core) request ≡ false → touched_by p core request ≡ touched_for p core line (is_write request)
  unfolding touched_by
  touched_is_read f shared =
      ap (λ (b : Bool). asked_by b (is_fetch request) (met_at_bank p core request)) shared
      ∙ (ap (λ (b : Bool). asked_by false b (met_at_bank p core request)) f
      ∙ ap (λ (o : Outcome). asked_by false false o) (sym (read_met p core request f)))

-- ---- a line that is made ready
module _ (p q : Bank) (core line : ℕ) (write : Bool) (like : AreLike (touched_for p core line write) p q) where
  abbrev letter : Letter
  letter = own_letter p core line

  abbrev has : Bool
  has = is_some_core (others_of core (row_of p.home line))

  abbrev alone : Bool
  alone = (row_of p.home line).alone && has

  abbrev dirty : Bool
  dirty = is_dirty_here p (evicted_by p.home line)

  abbrev asked_at : HomeState → List ℕ
  asked_at home = others_asked (outcome_by write letter (is_some (row_at home line)) alone has dirty) false write core (row_of home line) (evicted_by home line)

  abbrev us : List ℕ
  us = rest (core ∷ asked_at p.home) p q like

  abbrev pub made_of : Bank → Bank
  made_of r = ready_by (own_letter r core line) write core line r

  own_is : l1_of q core ≡ l1_of p core
  own_is = like.same core (member_first core (asked_at p.home))

  made_is : made_of q ≡ mixed q.l1s us (made_of p)
  made_is =
      ap (λ (l1 : L1State). ready_by (letter_of (copy_at l1 line)) write core line q) own_is
      ∙ (ap (λ (r : Bank). ready_by letter write core line r) (like_is (core ∷ asked_at p.home) p q like)
      ∙ through_all q.l1s (core ∷ asked_at p.home) (λ r. ready_by letter write core line r) p.home
      (λ u r e h. let first = not_first core u (asked_at p.home) h in
      through_ready u (taken q.l1s u) core (λ k. first.0 (sym k)) letter write line r alone has dirty
      (ap (λ (home : HomeState). is_member nat_eq (asked_at home) u) e ∙ first.1)) us (are_apart (core ∷ asked_at p.home) (length p.l1s)) p refl)

  own_made : l1_of (mixed q.l1s us (made_of p)) core ≡ l1_of (made_of p) core
  own_made = own_kept q.l1s core (asked_at p.home) us (are_apart (core ∷ asked_at p.home) (length p.l1s)) (made_of p)

  pub marks_made : (made_of q).home.marks ≡ (made_of p).home.marks
  marks_made = ap (λ (b : Bank). b.home.marks) made_is

  pub there_made : IsSome (copy_of (made_of p) core line) → IsSome (copy_of (made_of q) core line)
  there_made some =
      subst (λ (b : Bank). IsSome (copy_of b core line)) (sym made_is) (subst (λ (l1 : L1State). IsSome (copy_at l1 line)) (sym own_made) some)

-- ---- an access
module _ (q : Bank) (core : ℕ) (request : Request) (p : Bank) (are : AreParts p) (asked : IsAsked p core request) (like : IsLike p q core request) where
  pub like_own : l1_of q core ≡ l1_of p core
  like_own = like.same core (own_touched p core request)

  pub like_core : core < length q.l1s
  like_core = subst (λ (n : ℕ). core < n) (sym like.count) asked.known

  pub like_alone : is_private (l1_of q core) request ≡ true → Hit ≡ met_at_bank q core request
  like_alone private =
      sym ((only_touched_count p q core request are asked like).2 ∙ (private_is_of_one_l1 p core request are asked (sym (ap (λ (l1 : L1State). is_private l1 request) like_own) ∙ private)).0)

  pub like_holds : is_member nat_eq (row_of q.home (line_of request)).sharers core ≡ is_valid (own_letter q core (line_of request))
  like_holds =
      ap (λ (h : HomeState). is_member nat_eq (row_of h (line_of request)).sharers core) like.home
      ∙ (are.holds core (line_of request) asked.own ∙ sym (ap (λ (l1 : L1State). is_valid (letter_of (copy_at l1 (line_of request)))) like_own))

  module _ (shared : is_private (l1_of q core) request ≡ false) where
    shared_p : is_private (l1_of p core) request ≡ false
    shared_p = sym (ap (λ (l1 : L1State). is_private l1 request) like_own) ∙ shared

    pub like_fetch : is_fetch request ≡ true → HasTouchedToFetch q core (line_of request)
    like_fetch f = (p, are, asks_for p core request are asked, subst (λ (t : List ℕ). AreLike t p q) (touched_is_fetched p core request f shared_p) like)

    module _ (reads : is_fetch request ≡ false) where
      like_line : AreLike (touched_for p core (line_of request) (is_write request)) p q
      like_line = subst (λ (t : List ℕ). AreLike t p q) (touched_is_read p core request reads shared_p) like

      pub like_read : HasTouchedFor q core (line_of request) (is_write request)
      like_read = (p, are, asks_for p core request are asked, like_line)

      abbrev made : Bank
      made = ready_by (own_letter q core (line_of request)) (is_write request) core (line_of request) q

      pub like_marks : made.home.marks ≡ q.home.marks
      like_marks = marks_made p q core (line_of request) (is_write request) like_line ∙ (made_marks p core request are asked reads ∙ sym (ap (λ (h : HomeState). h.marks) like.home))

      pub like_room : core < length made.home.marks
      like_room = subst (λ marks. core < length marks) (sym (marks_made p q core (line_of request) (is_write request) like_line)) (made_room p core request are asked reads)

      pub like_there : IsSome (copy_of made core (line_of request))
      like_there = there_made p q core (line_of request) (is_write request) like_line (made_there p core request are asked reads)

-- a bank whose parts fit together has what an access of it touches
pub touches_itself : (p : Bank) (core : ℕ) (request : Request) → AreParts p → IsAsked p core request → HasTouched p core request
touches_itself p core request are asked = (p, are, asked, record { home = refl; count = refl; same = λ c h. refl })
