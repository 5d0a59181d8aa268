-- An L1 without a line.
use Rattle.std.proofs.Common.{◌≡◌, ℕ, ◌+◌, List, replicate, refl, sym, ◌∙◌, subst, arith, inl}
use Rattle.std.proofs.lemmas.List.{get_or-replicate, length-replicate}
use Rattle.l1_cache.specs.declared.near.Near.{Near}
use Rattle.l1_cache.specs.declared.near.Kept.{Kept}
use Rattle.l1_cache.specs.L1State.{Copy, L1State}
use Rattle.l1_cache.specs.Layout.{AreNear, IsNearAt, no_near}

pub empty_near : (shards sets ways mask count : ℕ) (ages tags : List ℕ) (kept : List Kept) → count ≡ mask + 1 → AreNear shards sets ways ages tags kept mask (replicate count no_near)
empty_near shards sets ways mask count ages tags kept e = record {
  count = length-replicate {A = Near} count no_near ∙ e;
  each = λ i l. subst (λ (x : Near). IsNearAt shards sets ways ages tags kept mask i x)
      (sym (get_or-replicate {A = Near} count i no_near no_near (omega (arith, l, length-replicate {A = Near} count no_near)))) (inl refl);
}

-- an L1 by its parts
pub same_l1 : {shards a ways b l1i_ways d : ℕ} {sets x : List (List (ℕ × Copy))} {l1i y : List (List (ℕ × Unit {0}))} → shards ≡ a → ways ≡ b → l1i_ways ≡ d → sets ≡ x → l1i ≡ y
    → (let l : L1State = record { shards = shards; ways = ways; l1i_ways = l1i_ways; sets = sets; l1i = l1i } in l) ≡ record { shards = a; ways = b; l1i_ways = d; sets = x; l1i = y }
same_l1 p q r s t = rw (p, q, r, s, t) refl
