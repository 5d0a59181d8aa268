-- One empty list more.
use Rattle.std.proofs.Common.{◌≡◌, ◌++◌, ◌∷◌, [], ℕ, List, Vec, Global, length, ◌∙◌, ap, arith}
use Rattle.std.proofs.lemmas.List.{length_push, map-append}
use Rattle.std.proofs.lemmas.List.Elements.{All-push}
use Rattle.domain_map.specs.Inside.{lists_of}
use Rattle.domain_map.proofs.make.empty_lists.Goals as goal

pub loop-domain-preserved : goal.loop-domain-preserved
loop-domain-preserved c =
    let was : List (List ℕ) = lists_of c.loop-domain.lists.items in
    let one : List ℕ = c.new.result.items in
    let now : lists_of c.push.new.self.items ≡ was ++ one ∷ [] =
    ap lists_of c.in_ok-push.ensures.items ∙ map-append (λ (list : Vec ℕ Global). list.items) c.loop-domain.lists.items (c.new.result ∷ []) in
    record {
      count = omega (arith, ap length now, length_push was one, c.loop-domain.invariant.count);
      empty = rw now (All-push (λ (list : List ℕ). list ≡ []) was one c.loop-domain.invariant.empty c.new.ensures.items);
    }

pub returns : goal.returns
returns c = record { count = omega (arith, c.loop-domain.invariant.count, c.loop-domain-test.false, c.loop-domain.auto); empty = c.loop-domain.invariant.empty }
