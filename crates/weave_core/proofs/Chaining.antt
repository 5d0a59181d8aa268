-- A walk down a chain of children.
use Rattle.std.proofs.Common.{◌≡◌, ◌-◌, ◌<◌, ℕ, List, [], ◌∷◌, Some, slice_get, sym, ◌∙◌, ap, subst, refl, arith}
use Rattle.std.proofs.lemmas.Option.{same_Some}
use Rattle.weave_core.specs.declared.children.Link.{Link}
use Rattle.weave_core.specs.Children.{CanTell, IsChain, IsTellable, tell_all, tell_child}
use Rattle.weave_core.specs.Waits.{Waits}

-- the rest of a walk gives what the whole walk gives
pub record IsTelling (links : List Link) (head finish next : ℕ) (first w : Waits) : Type 0 where
  pub rest : List Link
  pub is_chain : IsChain links next rest
  pub can : CanTell finish w rest
  pub same : (chain : List Link) → IsChain links head chain → tell_all finish first chain ≡ tell_all finish w rest

pub one_chain : (links : List Link) (next : ℕ) (a b : List Link) → IsChain links next a → IsChain links next b → a ≡ b
one_chain links next [] [] h k = refl
one_chain links next [] (l ∷ b) h k = absurd (omega (arith, h, k.0))
one_chain links next (l ∷ a) [] h k = absurd (omega (arith, k, h.0))
one_chain links next (l ∷ a) (m ∷ b) h k =
    let same : m ≡ l = same_Some m l (sym k.1.0 ∙ h.1.0) in
    let next_same : m.next ≡ l.next = ap (λ (z : Link). z.next) same in
    ap (λ (z : Link). z ∷ a) (sym same)
    ∙ ap (λ (zs : List Link). m ∷ zs) (one_chain links l.next a b h.1.1.1 (subst (λ (n : ℕ). IsChain links n b) next_same k.1.1.1))

pub at_start : (links : List Link) (head finish : ℕ) (w : Waits) (chain : List Link) → IsChain links head chain → CanTell finish w chain
    → IsTelling links head finish head w w
at_start links head finish w chain is can = record {
  rest = chain;
  is_chain = is;
  can = can;
  same = λ other h. ap (tell_all finish w) (one_chain links head other chain h is);
}

-- the next link, while there is one
pub record IsNextLink (links : List Link) (head finish next : ℕ) (first w : Waits) (l : Link) : Type 0 where
  pub there : slice_get links (next - 1) ≡ Some l
  pub lower : l.next < next
  pub tellable : IsTellable finish w l
  pub later : IsTelling links head finish l.next first (tell_child finish w l)

pub next_link : (links : List Link) (head finish next : ℕ) (first w : Waits) → IsTelling links head finish next first w → 0 < next
    → (l : Link) × IsNextLink links head finish next first w l
next_link links head finish next first w t some = by_rest t.rest t.is_chain t.can t.same
  where
    by_rest : (rest : List Link) → IsChain links next rest → CanTell finish w rest
        → ((chain : List Link) → IsChain links head chain → tell_all finish first chain ≡ tell_all finish w rest)
        → (l : Link) × IsNextLink links head finish next first w l
    by_rest [] is can same = absurd (omega (arith, is, some))
    by_rest (l ∷ rest) is can same = (
      l,
      record {
        there = is.1.0;
        lower = is.1.1.0;
        tellable = can.0;
        later = record { rest = rest; is_chain = is.1.1.1; can = can.1; same = same };
      },
    )

pub at_end : (links : List Link) (head finish next : ℕ) (first w : Waits) → IsTelling links head finish next first w → next ≡ 0
    → (chain : List Link) → IsChain links head chain → w ≡ tell_all finish first chain
at_end links head finish next first w t end chain h = by_rest t.rest t.is_chain (t.same chain h)
  where
    by_rest : (rest : List Link) → IsChain links next rest → tell_all finish first chain ≡ tell_all finish w rest → w ≡ tell_all finish first chain
    by_rest [] is same = sym same
    by_rest (l ∷ rest) is same = absurd (omega (arith, end, is.0))
