-- The servers of a domain, one after the other, and after an event.
use Rattle.std.proofs.Common.{◌≡◌, ◌<◌, ◌+◌, ℕ, zero, suc, Bool, true, false, cond, eqb, List, [], ◌∷◌, ◌++◌, length, map, drop, get_or, Some, slice_get, sym, ◌∙◌, ap, refl, arith, append_assoc}
use Rattle.std.proofs.lemmas.Bool.Decides.{nat_tests}
use Rattle.std.proofs.lemmas.Option.{same_Some, none-some}
use Rattle.std.specs.List.{filter, enumerate_from}
use Rattle.domain_map.specs.Domains.{domain_at}
use Rattle.weave_tests.specs.declared.server.Server.{Server}

-- those of a domain among the servers from a number on
abbrev pub servers_from : List ℕ → (domain number : ℕ) → List Server → List Server
servers_from places domain number servers = map (λ (at : ℕ × Server). at.1) (filter (λ (at : ℕ × Server). eqb (domain_at places at.0) domain) (enumerate_from number servers))

drop_at : (xs : List Server) (i : ℕ) (x : Server) → slice_get xs i ≡ Some x → drop i xs ≡ x ∷ drop (suc i) xs
drop_at [] i x h = absurd (none-some x h)
drop_at (y ∷ xs) zero x h = ap (λ z. z ∷ xs) (same_Some y x h)
drop_at (y ∷ xs) (suc i) x h = drop_at xs i x h

-- what is left from a server on
from_next : (places : List ℕ) (domain i : ℕ) (xs : List Server) (x : Server) → slice_get xs i ≡ Some x → (t : Bool) → eqb (domain_at places i) domain ≡ t
    → servers_from places domain i (drop i xs) ≡ map (λ (at : ℕ × Server). at.1)
    (cond t ((i, x) ∷ filter (λ (at : ℕ × Server). eqb (domain_at places at.0) domain) (enumerate_from (i + 1) (drop (i + 1) xs))) (filter (λ (at : ℕ × Server). eqb (domain_at places at.0) domain) (enumerate_from (i + 1) (drop (i + 1) xs))))
from_next places domain i xs x h t test =
    let one : suc i ≡ i + 1 = omega arith in
    ap (servers_from places domain i) (drop_at xs i x h ∙ ap (λ n. x ∷ drop n xs) one)
    ∙ ap (λ (t : Bool). map (λ (at : ℕ × Server). at.1) (cond t ((i, x) ∷ filter (λ (at : ℕ × Server). eqb (domain_at places at.0) domain) (enumerate_from (i + 1) (drop (i + 1) xs))) (filter (λ (at : ℕ × Server). eqb (domain_at places at.0) domain) (enumerate_from (i + 1) (drop (i + 1) xs))))) test

pub next_is_here : (places : List ℕ) (domain i : ℕ) (xs some whole : List Server) (x : Server) → slice_get xs i ≡ Some x → some ++ servers_from places domain i (drop i xs) ≡ whole
    → domain_at places i ≡ domain → (some ++ x ∷ []) ++ servers_from places domain (i + 1) (drop (i + 1) xs) ≡ whole
next_is_here places domain i xs some whole x h so_far here =
    let test : eqb (domain_at places i) domain ≡ true = grind (arith, nat_tests) in
    append_assoc some (x ∷ []) (servers_from places domain (i + 1) (drop (i + 1) xs)) ∙ (ap (λ ys. some ++ ys) (sym (from_next places domain i xs x h true test)) ∙ so_far)

pub next_is_apart : (places : List ℕ) (domain i : ℕ) (xs some whole : List Server) (x : Server) → slice_get xs i ≡ Some x → some ++ servers_from places domain i (drop i xs) ≡ whole
    → (domain_at places i ≡ domain → ⊥) → some ++ servers_from places domain (i + 1) (drop (i + 1) xs) ≡ whole
next_is_apart places domain i xs some whole x h so_far apart =
    let test : eqb (domain_at places i) domain ≡ false = grind (arith, nat_tests) in
    ap (λ ys. some ++ ys) (sym (from_next places domain i xs x h false test)) ∙ so_far

pub there_at : {X : Type 0} (xs : List X) (i : ℕ) (d : X) → i < length xs → slice_get xs i ≡ Some (get_or xs i d)
there_at [] i d l = absurd (omega arith)
there_at (y ∷ xs) zero d l = refl
there_at (y ∷ xs) (suc i) d l = there_at xs i d (omega arith)
