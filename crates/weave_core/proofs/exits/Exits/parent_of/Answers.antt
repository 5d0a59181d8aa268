-- The number is there, so the search finds it.
use Rattle.std.proofs.Common.{◌≡◌, ℕ, List, Some, slice_get, sym, ◌∙◌, ap, subst, arith}
use Rattle.std.proofs.lemmas.Option.{slice_get-get_or}
use Rattle.std.specs.List.Sorted.{IsBinarySearchResult}
use Rattle.std.specs.Ordering.{nat_cmp}
use Rattle.weave_core.proofs.Exiting.{is_found, same_Ok}
use Rattle.weave_core.proofs.Lists.{get_below}
use Rattle.weave_core.proofs.exits.Exits.parent_of.Goals as goal

pub unreachable-requires : goal.unreachable-requires
unreachable-requires c =
    let at = subst (λ (xs : List ℕ). IsBinarySearchResult (λ y. nat_cmp y c.args.crossing) xs c.binary_search.result) c.deref.ensures.value c.binary_search.ensures.position in
    let f = is_found c.args.self.now.numbers.items c.args.crossing c.binary_search.result at c.requires.rising c.requires.there in
    c.in_default.not-Ok f.0 f.1.0

pub returns : goal.returns
returns c =
    let at = subst (λ (xs : List ℕ). IsBinarySearchResult (λ y. nat_cmp y c.args.crossing) xs c.binary_search.result) c.deref.ensures.value c.binary_search.ensures.position in
    let f = is_found c.args.self.now.numbers.items c.args.crossing c.binary_search.result at c.requires.rising c.requires.there in
    let same : f.0 ≡ c.in-Ok.place = same_Ok c.binary_search.result f.0 c.in-Ok.place f.1.0 c.in-Ok.is in
    let there : slice_get c.args.self.now.numbers.items c.in-Ok.place ≡ Some c.args.crossing = ap (slice_get c.args.self.now.numbers.items) (sym same) ∙ f.1.1 in (
      c.in-Ok.place,
      (
        there,
        slice_get-get_or c.args.self.now.parents.items c.in-Ok.place c.index.result.now (omega (arith, c.requires.sizes, get_below c.args.self.now.numbers.items c.in-Ok.place c.args.crossing there))
            ∙ ap (λ n. Some n) (sym c.index.ensures),
      ),
    )
