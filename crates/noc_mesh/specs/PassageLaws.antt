-- What every step of an access on its way keeps of its events.
use Rattle.std.specs.Prelude.{◌≡◌, ◌+◌, ◌-◌, ◌<◌, ◌≤◌, ◌⊎◌, ℕ, max, List, [], ◌∷◌, ◌++◌, length, Option, None, Some, IsSome, slice_get, refl}
use Rattle.std.proofs.Common.{◌∙◌, sym, ap, subst, inl, inr, arith}
use Rattle.std.proofs.lemmas.Bool.{cases_lt}
use Rattle.std.proofs.lemmas.List.{length_push}
use Rattle.std.proofs.lemmas.Option.{slice_get_past}
use Rattle.component.specs.declared.kind.Kind.{Kind}
use Rattle.event_graph.specs.declared.piece.Piece.{Piece}
use Rattle.event_graph.specs.Expansion.{ParentsComeBefore, OnlyFirstStartsAlone, ParentsFinishBefore, EndsAt, HaveFloors}
use Rattle.noc_mesh.specs.declared.stage.Stage.{Stage}
use Rattle.noc_mesh.specs.Lists.{slice_get_left, slice_get_right}
use Rattle.noc_mesh.specs.Passages.{Passage, piece_of, begun, goes, passes, writes_beside, meets}

-- what is at a place of a list with one element more
pub at_push : {X : Type 0} (xs : List X) (y : X) (k : ℕ) → k ≡ length xs → slice_get (xs ++ y ∷ []) k ≡ Some y
at_push xs y k is = slice_get_right xs (y ∷ []) k 0 (omega arith)

pub pushed : {X : Type 0} (xs : List X) (y : X) (k : ℕ) (z : X) → slice_get (xs ++ y ∷ []) k ≡ Some z → ((k < length xs) × (slice_get xs k ≡ Some z)) ⊎ ((k ≡ length xs) × (y ≡ z))
pushed xs y k z is =
    elim (cases_lt k (length xs)) [
      | inl within ↦ inl (within, sym (slice_get_left xs (y ∷ []) k within) ∙ is)
      | inr past ↦ elim (cases_lt (length xs) k) [
        | inl beyond ↦ (let none : slice_get (xs ++ y ∷ []) k ≡ None = slice_get_past (xs ++ y ∷ []) k (omega (arith, length_push xs y)) in absurd (cc (none, is)))
        | inr before ↦ (let here : k ≡ length xs = omega arith in let same : Some y ≡ Some z = sym (at_push xs y k here) ∙ is in inr (here, cc same))
      ]
    ]

there_or_not : (o : Option ℕ) → (o ≡ None) ⊎ ((i : ℕ) × (o ≡ Some i))
there_or_not None = inl refl
there_or_not (Some i) = inr (i, refl)

-- an event at a place: it waits for earlier ones that have finished, the first alone for none, and its component serves it so
pub record Follows (floors : ℕ → Kind → Option ℕ) (pieces : List Piece) (place : ℕ) (p : Piece) : Type 0 where
  pub first : (i : ℕ) → p.first ≡ Some i → (i < place) × ((q : Piece) → slice_get pieces i ≡ Some q → q.offset + q.time ≤ p.offset)
  pub second : (i : ℕ) → p.second ≡ Some i → (i < place) × ((q : Piece) → slice_get pieces i ≡ Some q → q.offset + q.time ≤ p.offset)
  pub alone : place ≡ 0 → (p.first ≡ None) × (p.second ≡ None)
  pub waits : 0 < place → IsSome p.first ⊎ IsSome p.second
  pub floor : floors p.component p.kind ≡ Some p.time

module _ (floors : ℕ → Kind → Option ℕ) where
  abbrev pub AreEvents : List Piece → Type 0
  AreEvents pieces = (k : ℕ) (p : Piece) → slice_get pieces k ≡ Some p → Follows floors pieces k p

  -- so do all events of a list, with one event more behind them
  before_push : (pieces : List Piece) (x : Piece) (k : ℕ) (p : Piece) → k ≤ length pieces → Follows floors pieces k p → Follows floors (pieces ++ x ∷ []) k p
  before_push pieces x k p within was =
      let old : (i : ℕ) → i < k → (q : Piece) → slice_get (pieces ++ x ∷ []) i ≡ Some q → slice_get pieces i ≡ Some q =
      λ i early q at'. sym (slice_get_left pieces (x ∷ []) i (omega arith)) ∙ at'
      in
      record {
        first = λ i is. (let parent = was.first i is in (parent.0, λ q at'. parent.1 q (old i parent.0 q at')));
        second = λ i is. (let parent = was.second i is in (parent.0, λ q at'. parent.1 q (old i parent.0 q at')));
        alone = was.alone;
        waits = was.waits;
        floor = was.floor;
      }

  push : (pieces : List Piece) (x : Piece) → AreEvents pieces → Follows floors pieces (length pieces) x → AreEvents (pieces ++ x ∷ [])
  push pieces x are next k p at' =
      elim (pushed pieces x k p at') [
        | inl old ↦ before_push pieces x k p (omega (arith, old.0)) (are k p old.1)
        | inr new ↦
            let here = before_push pieces x (length pieces) x (omega arith) next in
            subst (λ (n : ℕ). Follows floors (pieces ++ x ∷ []) n p) (sym new.0) (subst (λ (z : Piece). Follows floors (pieces ++ x ∷ []) (length pieces) z) new.1 here)
      ]

  -- What holds of an access on its way; `late` is the cycle by which a write beside it has ended.
  pub record IsUnderWay (late : ℕ) (p : Passage) : Type 0 where
    pub events : AreEvents p.pieces
    pub ends : (k : ℕ) (q : Piece) → slice_get p.pieces k ≡ Some q → q.offset + q.time ≤ max p.end late
    pub none : p.last ≡ None → length p.pieces ≡ 0
    pub some : (i : ℕ) → p.last ≡ Some i → (i < length p.pieces) × ((q : Piece) → slice_get p.pieces i ≡ Some q → q.offset + q.time ≤ p.end)

  pub begun_under_way : (head : ℕ) → IsUnderWay 0 (begun head)
  begun_under_way head = record { events = λ k p at'. absurd (cc at'); ends = λ k q at'. absurd (cc at'); none = λ is. refl; some = λ i is. absurd (cc is) }

  waits_for_last : (late : ℕ) (p : Passage) → IsUnderWay late p → 0 < length p.pieces → IsSome p.last
  waits_for_last late p way some =
      elim (there_or_not p.last) [
        | inl none ↦ absurd (omega (arith, way.none none))
        | inr last ↦ rw last.1 refl
      ]

  alone_at_first : (late : ℕ) (p : Passage) → IsUnderWay late p → length p.pieces ≡ 0 → p.last ≡ None
  alone_at_first late p way empty =
      elim (there_or_not p.last) [
        | inl none ↦ none
        | inr last ↦ absurd (omega (arith, (way.some last.0 last.1).0))
      ]

  -- behind a last event that ends the access
  ended_by : (late : ℕ) (pieces : List Piece) (x : Piece) (before end : ℕ) → x.offset + x.time ≡ end → before ≤ end → AreEvents pieces → Follows floors pieces (length pieces) x
      → ((k : ℕ) (q : Piece) → slice_get pieces k ≡ Some q → q.offset + q.time ≤ max before late)
      → IsUnderWay late (record { pieces = pieces ++ x ∷ []; last = Some (length pieces); end = end })
  ended_by late pieces x before end ends later are next within = record {
    events = push pieces x are next;
    ends = λ k q at'. elim (pushed pieces x k q at') [
      | inl old ↦ (let early = within k q old.1 in omega (arith, early, later))
      | inr new ↦ (let same : q.offset + q.time ≡ x.offset + x.time = ap (λ (z : Piece). z.offset + z.time) (sym new.1) in omega (arith, same, ends))
    ];
    none = λ is. absurd (cc is);
    some = λ i is. (
        let here : length pieces ≡ i = cc is in (
          omega (arith, here, length_push pieces x),
          λ q at'. (
              let same : Some x ≡ Some q = sym (at_push pieces x i (sym here)) ∙ at' in
              let x_is : x ≡ q = cc same in
              let time : q.offset + q.time ≡ x.offset + x.time = ap (λ (z : Piece). z.offset + z.time) (sym x_is) in
              omega (arith, time, ends)
              ),
        )
        );
  }

  next_stage : (late : ℕ) (p : Passage) (s : Stage) → IsUnderWay late p → floors s.component s.kind ≡ Some s.time → Follows floors p.pieces (length p.pieces) (piece_of s p.end p.last None)
  next_stage late p s way served = record {
    first = way.some;
    second = λ i is. absurd (cc is);
    alone = λ empty. (alone_at_first late p way empty, refl);
    waits = λ some. inl (waits_for_last late p way some);
    floor = served;
  }

  pub goes_keeps : (late : ℕ) (p : Passage) (s : Stage) → IsUnderWay late p → floors s.component s.kind ≡ Some s.time → IsUnderWay late (goes p s)
  goes_keeps late p s way served =
      ended_by late p.pieces (piece_of s p.end p.last None) p.end (p.end + s.time) refl (omega arith) way.events (next_stage late p s way served) way.ends

  -- the components of stages serve them so
  abbrev pub AreServed : List Stage → Type 0
  AreServed [] = Unit {0}
  AreServed (s ∷ stages) = (floors s.component s.kind ≡ Some s.time) × AreServed stages

  pub passes_keeps : (late : ℕ) (p : Passage) (stages : List Stage) → IsUnderWay late p → AreServed stages → IsUnderWay late (passes p stages)
  passes_keeps late p [] way served = way
  passes_keeps late p (s ∷ stages) way served = passes_keeps late (goes p s) stages (goes_keeps late p s way served.0) served.1

  pub beside_keeps : (p : Passage) (s w : Stage) → IsUnderWay 0 p → 0 < length p.pieces → floors s.component s.kind ≡ Some s.time → floors w.component w.kind ≡ Some w.time
      → IsUnderWay (p.end + w.time) (writes_beside p (goes p s) w)
  beside_keeps p s w way some served written =
      let read : Piece = piece_of s p.end p.last None in
      let x : Piece = piece_of w p.end p.last None in
      let after = goes_keeps 0 p s way served in
      let long : length (p.pieces ++ read ∷ []) ≡ length p.pieces + 1 = length_push p.pieces read in
      let next : Follows floors (p.pieces ++ read ∷ []) (length (p.pieces ++ read ∷ [])) x = record {
        first = λ i is. (
            let parent = way.some i is in
            (omega (arith, parent.0, long), λ q at'. parent.1 q (sym (slice_get_left p.pieces (read ∷ []) i parent.0) ∙ at'))
            );
        second = λ i is. absurd (cc is);
        alone = λ empty. absurd (omega (arith, long));
        waits = λ later. inl (waits_for_last 0 p way some);
        floor = written;
      } in
      record {
        events = push (p.pieces ++ read ∷ []) x after.events next;
        ends = λ k q at'. elim (pushed (p.pieces ++ read ∷ []) x k q at') [
          | inl old ↦ (let early = after.ends k q old.1 in omega (arith, early))
          | inr new ↦ (let same : q.offset + q.time ≡ x.offset + x.time = ap (λ (z : Piece). z.offset + z.time) (sym new.1) in omega (arith, same))
        ];
        none = λ is. absurd (cc is);
        some = λ i is. (
            let parent = after.some i is in
            (omega (arith, parent.0, length_push (p.pieces ++ read ∷ []) x), λ q at'. parent.1 q (sym (slice_get_left (p.pieces ++ read ∷ []) (x ∷ []) i parent.0) ∙ at'))
            );
      }

  pub meets_keeps : (p : Passage) (place ends : ℕ) (s : Stage) → IsUnderWay ends p → place < length p.pieces
      → ((q : Piece) → slice_get p.pieces place ≡ Some q → q.offset + q.time ≤ ends) → floors s.component s.kind ≡ Some s.time → IsUnderWay 0 (meets p place ends s)
  meets_keeps p place ends s way there written served =
      let x : Piece = piece_of s (max p.end ends) p.last (Some place) in
      let next : Follows floors p.pieces (length p.pieces) x = record {
        first = λ i is. (let parent = way.some i is in (parent.0, λ q at'. (let done = parent.1 q at' in omega (arith, done))));
        second = λ i is. (
            let here : place ≡ i = cc is in
            (omega (arith, here), λ q at'. (let done = written q (ap (slice_get p.pieces) here ∙ at') in omega (arith, done)))
            );
        alone = λ empty. absurd (omega arith);
        waits = λ later. inr refl;
        floor = served;
      } in
      ended_by 0 p.pieces x (max p.end ends) (max p.end ends + s.time) refl (omega arith) way.events next (λ k q at'. (let early = way.ends k q at' in omega (arith, early)))

-- the last event ends the access
abbrev pub EndsWithLast : Passage → Type 0
EndsWithLast p = (q : Piece) → slice_get p.pieces (length p.pieces - 1) ≡ Some q → q.offset + q.time ≡ p.end

last_is : (pieces : List Piece) (x q : Piece) → slice_get (pieces ++ x ∷ []) (length (pieces ++ x ∷ []) - 1) ≡ Some q → q.offset + q.time ≡ x.offset + x.time
last_is pieces x q at' =
    let same : Some x ≡ Some q = sym (at_push pieces x (length (pieces ++ x ∷ []) - 1) (omega (arith, length_push pieces x))) ∙ at' in
    let x_is : x ≡ q = cc same in
    ap (λ (z : Piece). z.offset + z.time) (sym x_is)

pub begun_ends : (head : ℕ) → EndsWithLast (begun head)
begun_ends head q at' = absurd (cc at')

pub goes_ends : (p : Passage) (s : Stage) → EndsWithLast (goes p s)
goes_ends p s q at' = last_is p.pieces (piece_of s p.end p.last None) q at'

pub meets_ends : (p : Passage) (place ends : ℕ) (s : Stage) → EndsWithLast (meets p place ends s)
meets_ends p place ends s q at' = last_is p.pieces (piece_of s (max p.end ends) p.last (Some place)) q at'

pub passes_ends : (p : Passage) (stages : List Stage) → EndsWithLast p → EndsWithLast (passes p stages)
passes_ends p [] ends = ends
passes_ends p (s ∷ stages) ends = passes_ends (goes p s) stages (goes_ends p s)

-- how many events there are, and that those before stay
pub passes_length : (p : Passage) (stages : List Stage) → length (passes p stages).pieces ≡ length p.pieces + length stages
passes_length p [] = omega arith
passes_length p (s ∷ stages) = omega (arith, passes_length (goes p s) stages, length_push p.pieces (piece_of s p.end p.last None))

pub passes_stays : (p : Passage) (stages : List Stage) (k : ℕ) → k < length p.pieces → slice_get (passes p stages).pieces k ≡ slice_get p.pieces k
passes_stays p [] k within = refl
passes_stays p (s ∷ stages) k within =
    passes_stays (goes p s) stages k (omega (arith, length_push p.pieces (piece_of s p.end p.last None)))
    ∙ slice_get_left p.pieces (piece_of s p.end p.last None ∷ []) k within

-- the laws of an expansion, of an access that has ended
module _ (floors : ℕ → Kind → Option ℕ) (p : Passage) (way : IsUnderWay floors 0 p) where
  pub come_before : ParentsComeBefore p.pieces
  come_before = record { first = λ k q i at' is. ((way.events k q at').first i is).0; second = λ k q i at' is. ((way.events k q at').second i is).0 }

  pub start_alone : OnlyFirstStartsAlone p.pieces
  start_alone = record { alone = λ q at'. (way.events 0 q at').alone refl; waits = λ k q later at'. (way.events k q at').waits later }

  pub finish_before : ParentsFinishBefore p.pieces
  finish_before = record {
    first = λ k q i parent at' is there. ((way.events k q at').first i is).1 parent there;
    second = λ k q i parent at' is there. ((way.events k q at').second i is).1 parent there;
  }

  pub ends_at : EndsWithLast p → EndsAt p.pieces p.end
  ends_at last = record { last = last; each = λ k q at'. (let early = way.ends k q at' in omega (arith, early)) }

  pub have_floors : HaveFloors floors p.pieces
  have_floors k q at' = (way.events k q at').floor

-- an access never goes back in time
pub passes_later : (p : Passage) (stages : List Stage) → p.end ≤ (passes p stages).end
passes_later p [] = omega arith
passes_later p (s ∷ stages) = omega (arith, passes_later (goes p s) stages)
