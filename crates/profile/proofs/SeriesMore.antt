-- The rows of intervals once there is room for one more, and once it was added.
use Rattle.std.proofs.Common.{◌≡◌, ℕ, zero, suc, ◌+◌, ◌<◌, ◌^◌, nat_lt, Bool, true, false, List, [], ◌∷◌, ◌++◌, map, get_or, set, length, replicate, if◌then◌else◌, refl, sym, ◌∙◌, ap, ap₂, arith}
use Rattle.std.specs.List.{zip}
use Rattle.std.proofs.lemmas.Bool.Decides.{nat_tests}
use Rattle.std.proofs.lemmas.List.{map-append}
use Rattle.event_graph.specs.declared.event.Event.{Event}
use Rattle.event_graph.specs.declared.fired.Fired.{Fired}
use Rattle.profile.specs.declared.series.OpenInterval.{OpenInterval}
use Rattle.profile_rows.specs.declared.series_row.SeriesRow.{SeriesRow}
use Rattle.profile_rows.specs.declared.tally.Tally.{Tally}
use Rattle.profile_rows.specs.Tallies.{capped, capped_tally, capped_wide, no_tally, plus}
use Rattle.profile.specs.Added.{Adds}
use Rattle.profile.specs.Series.{AreSeries, SeriesSums, capped_open, capped_sums, has_room, next_first, no_sums, nothing_open, sums_in, with_interval, with_last, with_room, with_waits}
use Rattle.profile.proofs.RowsMore.{both_capped, capped_plus, capped_sum}

abbrev open_of : ℕ → Tally → OpenInterval
open_of n t = record { instructions = n; tally = t }

-- an access more
pub access_more : (begun now : OpenInterval) (result tally : Tally) → begun ≡ capped_open now → result ≡ capped_tally (plus begun.tally tally)
    → open_of begun.instructions result ≡ capped_open (open_of now.instructions (plus now.tally tally))
unfolding capped_open
access_more begun now result tally is done =
    ap₂ open_of (ap (λ (o : OpenInterval). o.instructions) is) (done ∙ ap (λ (o : OpenInterval). capped_tally (plus o.tally tally)) is ∙ capped_plus now.tally tally)

-- or what a change adds
pub changed_more : (begun now : OpenInterval) (result more : Tally) (changed : Tally → Tally) → Adds changed more → begun ≡ capped_open now → result ≡ changed begun.tally
    → open_of begun.instructions result ≡ capped_open (open_of now.instructions (plus now.tally more))
unfolding capped_open
changed_more begun now result more changed adds is done =
    ap₂ open_of (ap (λ (o : OpenInterval). o.instructions) is) (done ∙ ap (λ (o : OpenInterval). changed o.tally) is ∙ adds now.tally)

-- so many instructions more
pub instructions_more : (begun now : OpenInterval) (n count : ℕ) → begun ≡ capped_open now → n ≡ capped (begun.instructions + count)
    → open_of n begun.tally ≡ capped_open (open_of (now.instructions + count) now.tally)
unfolding capped_open
instructions_more begun now n count is done =
    ap₂ open_of (done ∙ ap (λ (o : OpenInterval). capped (o.instructions + count)) is ∙ capped_sum now.instructions count) (ap (λ (o : OpenInterval). o.tally) is)

pub nothing_capped : nothing_open ≡ capped_open nothing_open
unfolding capped_open capped_tally
nothing_capped = refl

-- ---- the last row

module _ (every : ℕ) (d : SeriesRow) where
  pub last_room : (rows : List SeriesRow) (last : ℕ) → length rows ≡ last + 1 → has_room every (map sums_in rows) ≡ nat_lt (get_or rows last d).intervals every
  unfolding sums_in
  last_room [] last is = absurd (omega (arith, is))
  last_room (r ∷ []) zero is = refl
  last_room (r ∷ []) (suc n) is = absurd (omega (arith, is))
  last_room (r ∷ s ∷ rest) zero is = absurd (omega (arith, is))
  last_room (r ∷ s ∷ rest) (suc n) is = last_room (s ∷ rest) n (omega (arith, is))

pub last_first : (d : SeriesRow) (rows : List SeriesRow) (last : ℕ) → length rows ≡ last + 1 → next_first (map sums_in rows) ≡ (get_or rows last d).first + (get_or rows last d).intervals
unfolding sums_in
last_first d [] last is = absurd (omega (arith, is))
last_first d (r ∷ []) zero is = refl
last_first d (r ∷ []) (suc n) is = absurd (omega (arith, is))
last_first d (r ∷ s ∷ rest) zero is = absurd (omega (arith, is))
last_first d (r ∷ s ∷ rest) (suc n) is = last_first d (s ∷ rest) n (omega (arith, is))

capped_lt : (every n : ℕ) → every < 2 ^ 32 → nat_lt (capped n) every ≡ nat_lt n every
capped_lt every n few = grind (arith, nat_tests, few)

room_capped : (every : ℕ) (sums : List SeriesSums) → every < 2 ^ 32 → has_room every (map capped_sums sums) ≡ has_room every sums
unfolding capped_sums
room_capped every [] few = refl
room_capped every (s ∷ []) few = capped_lt every s.intervals few
room_capped every (s ∷ t ∷ rest) few = room_capped every (t ∷ rest) few

first_capped : (sums : List SeriesSums) → capped (next_first (map capped_sums sums)) ≡ capped (next_first sums)
unfolding capped_sums
first_capped [] = refl
first_capped (s ∷ []) = both s.first s.intervals
  where
    both : (a b : ℕ) → capped (capped a + capped b) ≡ capped (a + b)
    both a b = omega arith
first_capped (s ∷ t ∷ rest) = first_capped (t ∷ rest)

-- ---- room for one more

capped_zeros : (n : ℕ) → map capped_wide (replicate n 0) ≡ replicate n 0
capped_zeros zero = refl
capped_zeros (suc n) = ap (λ (ws : List ℕ). 0 ∷ ws) (capped_zeros n)

abbrev pub sums_of : (first intervals instructions : ℕ) (tally : Tally) (events : ℕ) (waits : List ℕ) → SeriesSums
sums_of first intervals instructions tally events waits = record { first = first; intervals = intervals; instructions = instructions; tally = tally; events = events; waits = waits }

none_capped : (comps first : ℕ) → no_sums comps (capped first) ≡ capped_sums (no_sums comps first)
unfolding capped_sums capped_tally
none_capped comps first = ap (λ (ws : List ℕ). sums_of (capped first) 0 0 no_tally 0 ws) (sym (capped_zeros comps))

module _ (comps every : ℕ) (few : every < 2 ^ 32) (sums : List SeriesSums) (rows : List SeriesRow) (are : AreSeries sums rows) where
  same_room : has_room every (map sums_in rows) ≡ has_room every sums
  same_room = ap (has_room every) are ∙ room_capped every sums few

  abbrev by_room : Bool → List SeriesSums
  by_room b = if b then sums else sums ++ no_sums comps (next_first sums) ∷ []

  pub room_there : has_room every (map sums_in rows) ≡ true → AreSeries (with_room comps every sums) rows
  room_there full = are ∙ ap (λ (b : Bool). map capped_sums (by_room b)) (sym (sym same_room ∙ full))

  pub room_made : has_room every (map sums_in rows) ≡ false → (row : SeriesRow) → sums_in row ≡ no_sums comps (capped (next_first (map sums_in rows))) → AreSeries (with_room comps every sums) (rows ++ row ∷ [])
  room_made full row is =
      let first : capped (next_first (map sums_in rows)) ≡ capped (next_first sums) = ap (λ (ss : List SeriesSums). capped (next_first ss)) are ∙ first_capped sums in
      let empty : sums_in row ≡ capped_sums (no_sums comps (next_first sums)) = is ∙ ap (no_sums comps) first ∙ none_capped comps (next_first sums) in
      map-append sums_in rows (row ∷ [])
      ∙ ap₂ (λ (ss : List SeriesSums) (s : SeriesSums). ss ++ s ∷ []) are empty
      ∙ sym (map-append capped_sums sums (no_sums comps (next_first sums) ∷ []))
      ∙ ap (λ (b : Bool). map capped_sums (by_room b)) (sym (sym same_room ∙ full))

-- ---- an interval more in a row

module _ (s : SeriesSums) (o : OpenInterval) (row : SeriesRow) (begun : OpenInterval) (events : List Event) (fired : List Fired)
    (is : sums_in row ≡ capped_sums s) (open_is : begun ≡ capped_open o)
    (intervals instructions : ℕ) (tally : Tally) (count : ℕ) (waits : List ℕ)
    (intervals_are : intervals ≡ capped (row.intervals + 1))
    (instructions_are : instructions ≡ capped (row.instructions + begun.instructions))
    (tally_is : tally ≡ capped_tally (plus row.tally begun.tally))
    (count_is : count ≡ capped (row.events + length events))
    (waits_are : row.waits.items ≡ map capped_wide s.waits → waits ≡ map capped_wide (with_waits s.waits (zip events fired))) where
  both : (a b : ℕ) → capped (capped a + capped b) ≡ capped (a + b)
  both a b = omega arith

  pub joined : sums_of row.first intervals instructions tally count waits ≡ capped_sums (with_interval o events fired s)
  unfolding sums_in capped_sums capped_open with_interval
  joined =
      let was : (f : SeriesSums → ℕ) → f (sums_in row) ≡ f (capped_sums s) = λ f. ap f is in
      let first : row.first ≡ capped s.first = was (λ x. x.first) in
      let these : intervals ≡ capped (s.intervals + 1) = intervals_are ∙ ap (λ (n : ℕ). capped (n + 1)) (was (λ x. x.intervals)) ∙ capped_sum s.intervals 1 in
      let ran : instructions ≡ capped (s.instructions + o.instructions) =
      instructions_are ∙ ap₂ (λ (m n : ℕ). capped (m + n)) (was (λ x. x.instructions)) (ap (λ (x : OpenInterval). x.instructions) open_is) ∙ both s.instructions o.instructions
      in
      let counted : tally ≡ capped_tally (plus s.tally o.tally) =
      tally_is ∙ ap₂ (λ (m n : Tally). capped_tally (plus m n)) (ap (λ (x : SeriesSums). x.tally) is) (ap (λ (x : OpenInterval). x.tally) open_is) ∙ both_capped s.tally o.tally
      in
      let many : count ≡ capped (s.events + length events) = count_is ∙ ap (λ (n : ℕ). capped (n + length events)) (was (λ x. x.events)) ∙ capped_sum s.events (length events) in
      let waited : waits ≡ map capped_wide (with_waits s.waits (zip events fired)) = waits_are (ap (λ (x : SeriesSums). x.waits) is) in
      λ i. record { first = first i; intervals = these i; instructions = ran i; tally = counted i; events = many i; waits = waited i }

-- and in the last of all rows
unfoldable pub head_or : SeriesSums → List SeriesSums → SeriesSums
head_or e [] = e
head_or e (s ∷ rest) = s

unfoldable pub rest_of : List SeriesSums → List SeriesSums
rest_of [] = []
rest_of (s ∷ rest) = rest

module _ (f : SeriesSums → SeriesSums) (d new : SeriesRow) where
  pub last_joined : (rows : List SeriesRow) (sums : List SeriesSums) (last : ℕ) → length rows ≡ last + 1 → AreSeries sums rows
      → ((s : SeriesSums) → sums_in (get_or rows last d) ≡ capped_sums s → sums_in new ≡ capped_sums (f s))
      → AreSeries (with_last f sums) (set rows last new)
  unfolding sums_in capped_sums head_or rest_of
  last_joined [] sums last is are joins = absurd (omega (arith, is))
  last_joined (r ∷ rest) [] last is are joins = absurd (let none : length (map sums_in (r ∷ rest)) ≡ 0 = ap length are in omega (arith, none))
  last_joined (r ∷ []) (s ∷ []) zero is are joins = ap (λ (x : SeriesSums). x ∷ []) (joins s (ap (head_or s) are))
  last_joined (r ∷ []) (s ∷ []) (suc n) is are joins = absurd (omega (arith, is))
  last_joined (r ∷ []) (s ∷ t ∷ more) last is are joins = absurd (let none : 1 ≡ length (map capped_sums (s ∷ t ∷ more)) = ap length are in omega (arith, none))
  last_joined (r ∷ q ∷ rest) (s ∷ []) last is are joins = absurd (let none : length (map sums_in (r ∷ q ∷ rest)) ≡ 1 = ap length are in omega (arith, none))
  last_joined (r ∷ q ∷ rest) (s ∷ t ∷ more) zero is are joins = absurd (omega (arith, is))
  last_joined (r ∷ q ∷ rest) (s ∷ t ∷ more) (suc n) is are joins =
      ap₂ (λ (x : SeriesSums) (xs : List SeriesSums). x ∷ xs) (ap (head_or s) are) (last_joined (q ∷ rest) (t ∷ more) n (omega (arith, is)) (ap rest_of are) joins)
