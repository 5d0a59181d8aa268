-- What the steps of an access ask of a bank is there too where the bank has only the parts that the access touches.
use Rattle.std.proofs.Common.{◌≡◌, ℕ, ◌<◌, Bool, true, false, cond, List, [], ◌∷◌, length, Option, Some, None, is_some, refl, sym, ap, ◌∙◌, subst}
use Rattle.std.specs.Option.{unwrap_or}
use Rattle.std.specs.List.{All}
use Rattle.std.specs.Prelude.{IsSome, nat_eq}
use Rattle.std.specs.Set.{is_member}
use Rattle.zs_num.specs.declared.entry.Outcome.{Outcome}
use Rattle.cache_set.specs.declared.letter.Letter.TheVariants.{S, I}
use Rattle.home.specs.HomeState.{HomeLine, HomeState, KeepsLine, evicted_by, looked_up_in, nobody, row_at, row_of}
use Rattle.l1_cache.specs.L1State.{L1State, copy_at, has_instructions, letter_of, victim_in}
use Rattle.shard.specs.BankSteps.{AreKnown, AsksFor, CanBring, CanEvict, CanLeave, KeepsVictim, StandsThere, line_met}
use Rattle.shard.specs.PartsLaws.{AreParts, IsInMemory}
use Rattle.shard.specs.SharedStep.{Bank, brought_home, copy_of, holders_of, l1_of, left_by_others, others_asked, others_of, own_letter, shared_by_others, with_home}
use Rattle.shard.specs.Touched.{AreLike, HasTouchedFor, HasTouchedToFetch, touched_for, touched_to_fetch}
use Rattle.shard.proofs.BankAsks.{can_bring_home, can_bring_left, can_bring_shared, can_evict, can_leave, home_begun, is_few, left_there, sharers_there}
use Rattle.shard.proofs.BankReady.{met_missed, met_read, met_upgraded, met_written}
use Rattle.shard.proofs.HomesAndL1s.Decisions.{member_first}
use Rattle.shard.proofs.HomesAndL1s.Frame.{not_first, through_brought_home, through_left, through_shared_by_others}
use Rattle.shard.proofs.HomesAndL1s.Mixed.{AreApart, are_apart, like_is, mixed, length_mixed, own_kept, rest, taken, through_all}
use Rattle.shard.proofs.HomesAndL1s.Untouched.{member_without}

-- ---- what depends on how many L1s there are
pub as_known : (cores : List ℕ) (a b : List L1State) → length b ≡ length a → AreKnown cores a → AreKnown cores b
as_known cores a b same known = subst (λ (n : ℕ). All (λ core. core < n) cores) (sym same) known

pub as_evicted : (home : HomeState) (a b : List L1State) (o : Option (ℕ × HomeLine)) → length b ≡ length a → CanEvict home a o → CanEvict home b o
as_evicted home a b None same can = tt
as_evicted home a b (Some evicted) same can = (can.0, as_known evicted.1.sharers a b same can.1, as_known evicted.1.fetchers a b same can.2)

-- ---- what depends on the core's own L1
module _ (from : List L1State) (core : ℕ) (cores us : List ℕ) (apart : AreApart (core ∷ cores) us) where
  pub as_brought : (r : Bank) (line : ℕ) → CanBring r core line → CanBring (mixed from us r) core line
  as_brought r line can =
      let own : l1_of (mixed from us r) core ≡ l1_of r core = own_kept from core cores us apart r in
      record {
        known = subst (λ (n : ℕ). core < n) (sym (length_mixed from us r.l1s)) can.known;
        few = can.few;
        kept = can.kept;
        absent = ap (λ (l1 : L1State). copy_at l1 line) own ∙ can.absent;
        victim = subst (λ (l1 : L1State). KeepsVictim r.home (victim_in l1 line)) (sym own) can.victim;
        stands = subst (λ (l1 : L1State). StandsThere l1 (victim_in l1 line)) (sym own) can.stands;
      }

-- those that share a line that the core reads
abbrev pub sharing : (core : ℕ) → HomeLine → List ℕ
sharing core row = cond row.alone (others_of core row) []

-- ---- the steps of the other cores, with other L1s in place of those that are not touched
module _ (from : List L1State) (core line : ℕ) (us : List ℕ) (p : Bank) where
  abbrev looked : Bank → Bank
  looked r = with_home (looked_up_in line) r

  pub mixed_left : (row : HomeLine) → AreApart (core ∷ others_of core row) us → left_by_others core line row (looked (mixed from us p)) ≡ mixed from us (left_by_others core line row (looked p))
  mixed_left row apart =
      through_all from (core ∷ others_of core row) (λ r. left_by_others core line row (looked r)) p.home
      (λ u r e h. through_left u (taken from u) core line row (looked r) (not_first core u (others_of core row) h).1) us apart p refl

  pub mixed_shared : (row : HomeLine) → AreApart (core ∷ sharing core row) us → shared_by_others line row (looked (mixed from us p)) ≡ mixed from us (shared_by_others line row (looked p))
  mixed_shared row apart =
      through_all from (core ∷ sharing core row) (λ r. shared_by_others line row (looked r)) p.home
      (λ u r e h. let first = not_first core u (sharing core row) h in
      through_shared_by_others u (taken from u) line row (looked r)
      (λ t. sym (member_without core u row.sharers (λ k. first.0 (sym k))) ∙ subst (λ (b : Bool). is_member nat_eq (cond b (others_of core row) []) u ≡ false) t first.1)) us apart p refl

  pub mixed_home : AreApart (core ∷ holders_of (evicted_by p.home line)) us → brought_home line (mixed from us p) ≡ mixed from us (brought_home line p)
  mixed_home apart =
      through_all from (core ∷ holders_of (evicted_by p.home line)) (brought_home line) p.home
      (λ u r e h. through_brought_home u (taken from u) line r
      (ap (λ (k : HomeState). is_member nat_eq (holders_of (evicted_by k line)) u) e ∙ (not_first core u (holders_of (evicted_by p.home line)) h).1)) us apart p refl

-- ---- a bank with the parts that a read or a write touches
module _ (q p : Bank) (core line : ℕ) (are : AreParts p) (asks : AsksFor p core line) where
  module _ (cores : List ℕ) (like : AreLike (core ∷ cores) p q) where
    pub own_is : l1_of q core ≡ l1_of p core
    own_is = like.same core (member_first core cores)

    pub letter_is : own_letter q core line ≡ own_letter p core line
    letter_is = ap (λ (l1 : L1State). letter_of (copy_at l1 line)) own_is

    pub row_is : row_at q.home line ≡ row_at p.home line
    row_is = ap (λ (h : HomeState). row_at h line) like.home

    pub like_few : core < 256
    like_few = is_few p are core line asks

    pub like_known : core < length q.l1s
    like_known = subst (λ (n : ℕ). core < n) (sym like.count) asks.known

    pub like_inside : IsInMemory q.home line
    like_inside = subst (λ (h : HomeState). IsInMemory h line) (sym like.home) asks.inside

    pub like_evict : CanEvict q.home q.l1s (evicted_by q.home line)
    like_evict =
        subst (λ (h : HomeState). CanEvict h q.l1s (evicted_by h line)) (sym like.home) (as_evicted p.home p.l1s q.l1s (evicted_by p.home line) like.count (can_evict p are line))

    module _ (row : HomeLine) (there : row_at q.home line ≡ Some row) where
      abbrev there_p : row_at p.home line ≡ Some row
      there_p = sym row_is ∙ there

      pub like_leave : CanLeave (with_home (looked_up_in line) q) core line row
      like_leave =
          let can = can_leave p are core line asks row there_p in
          record {
            few = can.few;
            kept = subst (λ (h : HomeState). KeepsLine (looked_up_in line h) line) (sym like.home) can.kept;
            others = as_known (others_of core row) p.l1s q.l1s like.count can.others;
          }

      pub like_sharers : AreKnown row.sharers q.l1s
      like_sharers = as_known row.sharers p.l1s q.l1s like.count (sharers_there p are core line asks row there_p)

  -- ---- the line leaves the others
  module _ (row : HomeLine) (like : AreLike (core ∷ others_of core row) p q) (there : row_at q.home line ≡ Some row) where
    abbrev asked : List ℕ
    asked = others_of core row

    abbrev us : List ℕ
    us = rest (core ∷ asked) p q like

    abbrev is : q ≡ mixed q.l1s us p
    is = like_is (core ∷ asked) p q like

    apart : AreApart (core ∷ asked) us
    apart = are_apart (core ∷ asked) (length p.l1s)

    there_now : row_at p.home line ≡ Some row
    there_now = sym (row_is asked like) ∙ there

    left_is : left_by_others core line row (with_home (looked_up_in line) q) ≡ mixed q.l1s us (left_by_others core line row (with_home (looked_up_in line) p))
    left_is = ap (λ (r : Bank). left_by_others core line row (with_home (looked_up_in line) r)) is ∙ mixed_left q.l1s core line us p row apart

    pub like_bring_left : own_letter q core line ≡ I → CanBring (left_by_others core line row (with_home (looked_up_in line) q)) core line
    like_bring_left letter =
        subst (λ (b : Bank). CanBring b core line) (sym left_is)
        (as_brought q.l1s core asked us apart (left_by_others core line row (with_home (looked_up_in line) p)) line (can_bring_left p are core line asks row there_now (sym (letter_is asked like) ∙ letter)))

    pub like_left_there : IsSome (copy_of q core line) → IsSome (copy_of (left_by_others core line row (with_home (looked_up_in line) q)) core line)
    like_left_there some =
        let left : Bank = left_by_others core line row (with_home (looked_up_in line) p) in
        subst (λ (b : Bank). IsSome (copy_of b core line)) (sym left_is)
        (subst (λ (l1 : L1State). IsSome (copy_at l1 line)) (sym (own_kept q.l1s core asked us apart left))
        (left_there p are core line asks row there_now (subst (λ (l1 : L1State). IsSome (copy_at l1 line)) (own_is asked like) some)))

  -- ---- the others share the line
  module _ (row : HomeLine) (like : AreLike (core ∷ sharing core row) p q) (there : row_at q.home line ≡ Some row) where
    abbrev asked_to : List ℕ
    asked_to = sharing core row

    pub like_bring_shared : own_letter q core line ≡ I → CanBring (shared_by_others line row (with_home (looked_up_in line) q)) core line
    like_bring_shared letter =
        let us : List ℕ = rest (core ∷ asked_to) p q like in
        let apart : AreApart (core ∷ asked_to) us = are_apart (core ∷ asked_to) (length p.l1s) in
        let shared_is = ap (λ (r : Bank). shared_by_others line row (with_home (looked_up_in line) r)) (like_is (core ∷ asked_to) p q like) ∙ mixed_shared q.l1s core line us p row apart in
        subst (λ (b : Bank). CanBring b core line) (sym shared_is)
        (as_brought q.l1s core asked_to us apart (shared_by_others line row (with_home (looked_up_in line) p)) line
        (can_bring_shared p are core line asks row (sym (row_is asked_to like) ∙ there) (sym (letter_is asked_to like) ∙ letter)))

  -- ---- the line comes into the L2
  module _ (like : AreLike (core ∷ holders_of (evicted_by p.home line)) p q) (none : row_at q.home line ≡ None) where
    abbrev holders : List ℕ
    holders = holders_of (evicted_by p.home line)

    abbrev others : List ℕ
    others = rest (core ∷ holders) p q like

    apart_from : AreApart (core ∷ holders) others
    apart_from = are_apart (core ∷ holders) (length p.l1s)

    home_is : brought_home line q ≡ mixed q.l1s others (brought_home line p)
    home_is = ap (brought_home line) (like_is (core ∷ holders) p q like) ∙ mixed_home q.l1s core line others p apart_from

    none_now : row_at p.home line ≡ None
    none_now = sym (row_is holders like) ∙ none

    pub like_bring_home : own_letter q core line ≡ I → CanBring (brought_home line q) core line
    like_bring_home letter =
        subst (λ (b : Bank). CanBring b core line) (sym home_is)
        (as_brought q.l1s core holders others apart_from (brought_home line p) line (can_bring_home p are core line asks none_now (sym (letter_is holders like) ∙ letter)))

    pub like_instructions : has_instructions (l1_of (brought_home line q) core) line ≡ has_instructions (l1_of q core) line
    like_instructions =
        ap (λ (b : Bank). has_instructions (l1_of b core) line) home_is
        ∙ (ap (λ (l1 : L1State). has_instructions l1 line) (own_kept q.l1s core holders others apart_from (brought_home line p))
        ∙ ((home_begun p are core line asks none_now).instructions core ∙ sym (ap (λ (l1 : L1State). has_instructions l1 line) (own_is holders like))))

-- ---- which L1s they are
module _ (p : Bank) (core line : ℕ) where
  abbrev asked_by : (write : Bool) → Outcome → HomeLine → List ℕ
  asked_by write met row = core ∷ others_asked met false write core row (evicted_by p.home line)

  row_now : (row : HomeLine) → row_at p.home line ≡ Some row → row_of p.home line ≡ row
  row_now row there = ap (λ (o : Option HomeLine). unwrap_or o nobody) there

  pub touched_written : (row : HomeLine) → own_letter p core line ≡ I → row_at p.home line ≡ Some row → touched_for p core line true ≡ core ∷ others_of core row
  touched_written row letter there =
      ap (λ (o : Outcome). asked_by true o (row_of p.home line)) (met_written p core line row letter there) ∙ ap (λ (r : HomeLine). core ∷ others_of core r) (row_now row there)

  pub touched_upgraded : (row : HomeLine) → own_letter p core line ≡ S → row_at p.home line ≡ Some row → touched_for p core line true ≡ core ∷ others_of core row
  touched_upgraded row letter there =
      ap (λ (o : Outcome). asked_by true o (row_of p.home line)) (met_upgraded p core line row letter there) ∙ ap (λ (r : HomeLine). core ∷ others_of core r) (row_now row there)

  pub touched_read : (row : HomeLine) → own_letter p core line ≡ I → row_at p.home line ≡ Some row → touched_for p core line false ≡ core ∷ sharing core row
  touched_read row letter there =
      ap (λ (o : Outcome). asked_by false o (row_of p.home line)) (met_read p core line row letter there) ∙ ap (λ (r : HomeLine). core ∷ sharing core r) (row_now row there)

  pub touched_missed : (write : Bool) → own_letter p core line ≡ I → row_at p.home line ≡ None → touched_for p core line write ≡ core ∷ holders_of (evicted_by p.home line)
  touched_missed write letter none = ap (λ (o : Outcome). asked_by write o (row_of p.home line)) (met_missed p core line write letter none)

  pub touched_fetched : row_at p.home line ≡ None → touched_to_fetch p core line ≡ core ∷ holders_of (evicted_by p.home line)
  touched_fetched none = ap (λ (o : Option HomeLine). core ∷ cond (is_some o) [] (holders_of (evicted_by p.home line))) none

-- ---- what a read or a write asks
module _ (q : Bank) (core line : ℕ) (write : Bool) (touched : HasTouchedFor q core line write) where
  abbrev p : Bank
  p = touched.0

  abbrev cores_for : List ℕ
  cores_for = others_asked (line_met p core line write) false write core (row_of p.home line) (evicted_by p.home line)

  abbrev like_for : AreLike (core ∷ cores_for) p q
  like_for = touched.3

  letter_p : own_letter q core line ≡ own_letter p core line
  letter_p = letter_is q p core line touched.1 touched.2 cores_for like_for

  row_p : row_at q.home line ≡ row_at p.home line
  row_p = row_is q p core line touched.1 touched.2 cores_for like_for

  pub for_few : core < 256
  for_few = like_few q p core line touched.1 touched.2 cores_for like_for

  pub for_known : core < length q.l1s
  for_known = like_known q p core line touched.1 touched.2 cores_for like_for

  pub for_evict : CanEvict q.home q.l1s (evicted_by q.home line)
  for_evict = like_evict q p core line touched.1 touched.2 cores_for like_for

  pub for_missed : own_letter q core line ≡ I → row_at q.home line ≡ None → CanBring (brought_home line q) core line
  for_missed letter none =
      like_bring_home q p core line touched.1 touched.2
      (subst (λ (t : List ℕ). AreLike t p q) (touched_missed p core line write (sym letter_p ∙ letter) (sym row_p ∙ none)) like_for) none letter

  module _ (row : HomeLine) (there : row_at q.home line ≡ Some row) where
    pub for_leave : CanLeave (with_home (looked_up_in line) q) core line row
    for_leave = like_leave q p core line touched.1 touched.2 cores_for like_for row there

    pub for_sharers : AreKnown row.sharers q.l1s
    for_sharers = like_sharers q p core line touched.1 touched.2 cores_for like_for row there

    pub for_written : write ≡ true → own_letter q core line ≡ I → CanBring (left_by_others core line row (with_home (looked_up_in line) q)) core line
    for_written t letter =
        like_bring_left q p core line touched.1 touched.2 row
        (subst (λ (cores : List ℕ). AreLike cores p q) (ap (λ (w : Bool). touched_for p core line w) t ∙ touched_written p core line row (sym letter_p ∙ letter) (sym row_p ∙ there)) like_for) there letter

    pub for_read : write ≡ false → own_letter q core line ≡ I → CanBring (shared_by_others line row (with_home (looked_up_in line) q)) core line
    for_read t letter =
        like_bring_shared q p core line touched.1 touched.2 row
        (subst (λ (cores : List ℕ). AreLike cores p q) (ap (λ (w : Bool). touched_for p core line w) t ∙ touched_read p core line row (sym letter_p ∙ letter) (sym row_p ∙ there)) like_for) there letter

    pub for_upgraded : write ≡ true → own_letter q core line ≡ S → IsSome (copy_of q core line) → IsSome (copy_of (left_by_others core line row (with_home (looked_up_in line) q)) core line)
    for_upgraded t letter =
        like_left_there q p core line touched.1 touched.2 row
        (subst (λ (cores : List ℕ). AreLike cores p q) (ap (λ (w : Bool). touched_for p core line w) t ∙ touched_upgraded p core line row (sym letter_p ∙ letter) (sym row_p ∙ there)) like_for) there

-- ---- what a fetch asks
module _ (q : Bank) (core line : ℕ) (touched : HasTouchedToFetch q core line) where
  abbrev fetched_p : Bank
  fetched_p = touched.0

  abbrev cores_to_fetch : List ℕ
  cores_to_fetch = cond (is_some (row_at fetched_p.home line)) [] (holders_of (evicted_by fetched_p.home line))

  abbrev like_to_fetch : AreLike (core ∷ cores_to_fetch) fetched_p q
  like_to_fetch = touched.3

  pub fetch_few : core < 256
  fetch_few = like_few q fetched_p core line touched.1 touched.2 cores_to_fetch like_to_fetch

  pub fetch_known : core < length q.l1s
  fetch_known = like_known q fetched_p core line touched.1 touched.2 cores_to_fetch like_to_fetch

  pub fetch_evict : CanEvict q.home q.l1s (evicted_by q.home line)
  fetch_evict = like_evict q fetched_p core line touched.1 touched.2 cores_to_fetch like_to_fetch

  pub fetch_instructions : row_at q.home line ≡ None → has_instructions (l1_of (brought_home line q) core) line ≡ has_instructions (l1_of q core) line
  fetch_instructions none =
      like_instructions q fetched_p core line touched.1 touched.2
      (subst (λ (t : List ℕ). AreLike t fetched_p q) (touched_fetched fetched_p core line (sym (row_is q fetched_p core line touched.1 touched.2 cores_to_fetch like_to_fetch) ∙ none)) like_to_fetch) none
