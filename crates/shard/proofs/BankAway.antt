-- A line that the home knows not to be in a core's L1.
use Rattle.std.proofs.Common.{◌≡◌, ℕ, false, None, is_some, refl, sym, ap, ◌∙◌}
use Rattle.std.specs.Prelude.{nat_eq}
use Rattle.std.specs.Set.{is_member}
use Rattle.zs_num.specs.Request.{is_fetch, line_of}
use Rattle.zs_num.specs.declared.request.Request.{Request}
use Rattle.zs_num.specs.declared.request.Request.TheVariants.{Load, Store, Lr, Sc, Amo, Fetch}
use Rattle.cache_set.specs.declared.letter.Letter.{Letter}
use Rattle.cache_set.specs.declared.letter.Letter.TheVariants.{M, E, S, I}
use Rattle.home.specs.HomeState.{row_of}
use Rattle.l1_cache.specs.L1State.{L1State, copy_at, is_private, letter_of, may_write}
use Rattle.shard.specs.Coherence.{is_valid}
use Rattle.shard.specs.PartsLaws.{AreParts, IsAsked}
use Rattle.shard.specs.SharedStep.{Bank, l1_of, own_letter}
use Rattle.shard.specs.Touched.{HasTouched, IsLike}
use Rattle.shard.proofs.BankAsks.{absent_copy}
use Rattle.shard.proofs.LikeMet.{like_holds, like_own}

not_valid : (letter : Letter) → is_valid letter ≡ false → letter ≡ I
not_valid M h = absurd cc
not_valid E h = absurd cc
not_valid S h = absurd cc
not_valid I h = refl

unserved : (l1 : L1State) (request : Request) → is_fetch request ≡ false → copy_at l1 (line_of request) ≡ None → is_private l1 request ≡ false
unfolding is_private
unserved l1 (Load width addr) f none = ap is_some none
unserved l1 (Store width addr value) f none = ap may_write none
unserved l1 (Lr width addr) f none = refl
unserved l1 (Sc width paired addr value) f none = refl
unserved l1 (Amo width op addr value) f none = refl
unserved l1 (Fetch addr) f none = absurd cc

module _ (q : Bank) (core : ℕ) (request : Request) (p : Bank) (are : AreParts p) (asked : IsAsked p core request) (like : IsLike p q core request) where
  away : is_member nat_eq (row_of q.home (line_of request)).sharers core ≡ false → own_letter q core (line_of request) ≡ I
  away h = not_valid (own_letter q core (line_of request)) (sym (like_holds q core request p are asked like) ∙ h)

  own_is : l1_of q core ≡ l1_of p core
  own_is = like_own q core request p are asked like

  shared : is_fetch request ≡ false → own_letter q core (line_of request) ≡ I → is_private (l1_of q core) request ≡ false
  shared f h =
      let letter : own_letter p core (line_of request) ≡ I = sym (ap (λ (l1 : L1State). letter_of (copy_at l1 (line_of request))) own_is) ∙ h in
      ap (λ (l1 : L1State). is_private l1 request) own_is ∙ unserved (l1_of p core) request f (absent_copy p are (line_of request) asked.own core letter)

pub away_letter : (q : Bank) (core : ℕ) (request : Request) → HasTouched q core request → is_member nat_eq (row_of q.home (line_of request)).sharers core ≡ false → own_letter q core (line_of request) ≡ I
away_letter q core request touched h = away q core request touched.0 touched.1 touched.2 touched.3 h

-- an access to it is shared
pub away_shared : (q : Bank) (core : ℕ) (request : Request) → HasTouched q core request → is_fetch request ≡ false → own_letter q core (line_of request) ≡ I → is_private (l1_of q core) request ≡ false
away_shared q core request touched f h = shared q core request touched.0 touched.1 touched.2 touched.3 f h
