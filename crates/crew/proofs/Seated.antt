-- The seats of a crew.
use Rattle.std.proofs.Common.{◌≡◌, ℕ, zero, suc, List, [], ◌∷◌, ◌++◌, get_or, sym, ◌∙◌, ap, subst, refl, arith, Some, slice_get}
use Rattle.std.proofs.lemmas.List.{length-map}
use Rattle.atomic_table.specs.Seated.{TableId}
use Rattle.crew.specs.Crews.{AreFreeBelow, AreFreeFrom, IsFreeAt, free_seat, free_seats}
use Rattle.crew.specs.Seats.{SeatValue}

module _ {J : Type 0} where
  free_more : (posts : List TableId) (post : TableId) → free_seats {J = J} (posts ++ post ∷ []) ≡ free_seats posts ++ free_seat post ∷ []
  free_more [] post = refl
  free_more (p ∷ ps) post = ap (λ (seats : List (SeatValue J)). free_seat p ∷ seats) (free_more ps post)

  -- one seat more, at one post more
  pub one_more : (posts more : List TableId) (post : TableId) (seats all : List (SeatValue J)) (seat : SeatValue J)
      → seats ≡ free_seats posts → seat ≡ free_seat post → more ≡ posts ++ post ∷ [] → all ≡ seats ++ seat ∷ [] → all ≡ free_seats more
  one_more posts more post seats all seat are is more_is all_is =
      let both : seats ++ seat ∷ [] ≡ free_seats posts ++ free_seat post ∷ [] = (λ i. are i ++ is i ∷ []) in
      all_is ∙ (both ∙ (sym (free_more posts post) ∙ ap (free_seats {J = J}) (sym more_is)))

  free_there : (posts : List TableId) (k : ℕ) (post : TableId) (seat : SeatValue J) → slice_get posts k ≡ Some post → slice_get (free_seats {J = J} posts) k ≡ Some seat → seat ≡ free_seat post
  free_there [] k post seat e f = absurd (cc)
  free_there (p ∷ ps) zero post seat e f = let same : p ≡ post = cc in let is : free_seat p ≡ seat = cc in sym is ∙ ap (free_seat {J = J}) same
  free_there (p ∷ ps) (suc k) post seat e f = free_there ps k post seat e f

  pub all_free : (posts : List TableId) (seats : List (SeatValue J)) → seats ≡ free_seats posts → AreFreeFrom 0 posts seats
  all_free posts seats are = subst (AreFreeFrom 0 posts) (sym are) (record { count = length-map posts _; free = λ k seat low f post e. free_there posts k post seat e f })

  free_by_default : (posts : List TableId) (k : ℕ) (d : SeatValue J) (post : TableId) → slice_get posts k ≡ Some post → get_or (free_seats {J = J} posts) k d ≡ free_seat post
  free_by_default [] k d post e = absurd (cc)
  free_by_default (p ∷ ps) zero d post e = let same : p ≡ post = cc in ap (free_seat {J = J}) same
  free_by_default (p ∷ ps) (suc k) d post e = free_by_default ps k d post e

  pub each_free : (posts : List TableId) (seats : List (SeatValue J)) → seats ≡ free_seats posts → (k : ℕ) (d : SeatValue J) → IsFreeAt posts k (get_or seats k d)
  each_free posts seats are k d post e = ap (λ (all : List (SeatValue J)). get_or all k d) are ∙ free_by_default posts k d post e

  pub all_below : (posts : List TableId) (seats : List (SeatValue J)) (number : ℕ) → seats ≡ free_seats posts → AreFreeBelow number posts seats
  all_below posts seats number are = let all = all_free posts seats are in record { count = all.count; free = λ k seat low at. all.free k seat (omega arith) at }
