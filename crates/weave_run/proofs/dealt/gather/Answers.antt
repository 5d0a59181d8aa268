-- The next component is the first that its domain has left.
use Rattle.std.proofs.Common.{rules, ◌≡◌, ◌<◌, ◌+◌, ℕ, List, [], ◌∷◌, ◌++◌, Some, length, get_or, set, slice_get, refl, sym, ◌∙◌, ap, subst, arith, length-set}
use Rattle.std.proofs.lemmas.List.{length_push}
use Rattle.std.proofs.lemmas.Option.{slice_get-get_or}
use Rattle.domain_map.specs.Domains.{domain_at}
use Rattle.weave_run.proofs.Gatherings.{IsGathered, all_gathered, next_of, none_gathered, one_gathered}
use Rattle.weave_run.proofs.dealt.gather.Goals as goal

pub loop-index-init : goal.loop-index-init
loop-index-init g c = record {
  so_far = λ comps n h. none_gathered c.args.places.now comps c.args.list.items c.args.lists.now c.requires.empty h;
  size = ap length c.requires.empty;
  room = c.requires.room;
  count = refl;
}

pub remove-one-requires : goal.remove-one-requires
remove-one-requires g c =
    let i = c.loop-index.invariant in
    let test = c.loop-index-test.true in
    let place : domain_at c.args.places.now c.loop-index.index < length c.loop-index.lists = (let a = c.requires.there c.loop-index.index 0 test in let n = i.count in omega (arith, a, n)) in
    let at : slice_get c.loop-index.lists (domain_at c.args.places.now c.loop-index.index) ≡ Some (get_or c.loop-index.lists c.from.result c.index-lists-from.result) =
    slice_get-get_or c.loop-index.lists (domain_at c.args.places.now c.loop-index.index) c.index-lists-from.result place ∙ ap (λ (k : ℕ). Some (get_or c.loop-index.lists k c.index-lists-from.result)) (sym c.from.ensures)
    in
    let n = next_of c.args.places.now c.requires.dealing.comps c.loop-index.list.items c.loop-index.lists c.loop-index.index (get_or c.loop-index.lists c.from.result c.index-lists-from.result)
    (i.so_far c.requires.dealing.comps c.requires.dealing.count c.requires.dealing.dealt) c.requires.dealing.count i.size test at in
    let some : 0 < length (get_or c.loop-index.lists c.from.result c.index-lists-from.result).items = omega (arith, ap length n.items_are) in
    let ok = (get_or c.loop-index.lists c.from.result c.index-lists-from.result).ok in
    search rules

pub loop-index-preserved : goal.loop-index-preserved
loop-index-preserved g c =
    let i = c.loop-index.invariant in
    let test = c.loop-index-test.true in
    let v = get_or c.loop-index.lists c.from.result c.index-lists-from.result in
    let place : domain_at c.args.places.now c.loop-index.index < length c.loop-index.lists = (let a = c.requires.there c.loop-index.index 0 test in let n = i.count in omega (arith, a, n)) in
    let at : slice_get c.loop-index.lists (domain_at c.args.places.now c.loop-index.index) ≡ Some (get_or c.loop-index.lists c.from.result c.index-lists-from.result) =
    slice_get-get_or c.loop-index.lists (domain_at c.args.places.now c.loop-index.index) c.index-lists-from.result place ∙ ap (λ (k : ℕ). Some (get_or c.loop-index.lists k c.index-lists-from.result)) (sym c.from.ensures)
    in
    let there : slice_get c.loop-index.lists c.from.result ≡ Some (get_or c.loop-index.lists c.from.result c.index-lists-from.result) =
    slice_get-get_or c.loop-index.lists c.from.result c.index-lists-from.result (let e = c.from.ensures in omega (arith, place, e))
    in
    let pushed : c.push_reserved.new.self.items ≡ c.loop-index.list.items ++ get_or (get_or c.loop-index.lists c.from.result c.index-lists-from.result).items 0 c.remove-one.result ∷ [] =
    c.push_reserved.ensures.items ∙ ap (λ (x : g.row.C.Denot). c.loop-index.list.items ++ x ∷ []) c.remove-one.ensures.value
    in
    record {
      so_far = λ comps n h.
          subst (λ (xs : List g.row.C.Denot). IsGathered c.args.places.now comps xs (set c.loop-index.lists c.from.result c.remove-one.new.self) (c.loop-index.index + 1)) (sym pushed)
          (one_gathered c.args.places.now comps c.loop-index.list.items c.loop-index.lists c.loop-index.index c.from.result (get_or c.loop-index.lists c.from.result c.index-lists-from.result) c.remove-one.new.self c.remove-one.result
          (next_of c.args.places.now comps c.loop-index.list.items c.loop-index.lists c.loop-index.index (get_or c.loop-index.lists c.from.result c.index-lists-from.result) (i.so_far comps n h) n i.size test at)
          c.from.ensures there c.remove-one.ensures.items);
      size = (let p = ap length c.push_reserved.ensures.items in let l = length_push c.loop-index.list.items c.remove-one.result in let s = i.size in omega (arith, p, l, s));
      room = (let r = i.room in let k = c.push_reserved.ensures.capacity in omega (arith, r, k));
      count = length-set c.loop-index.lists c.from.result c.remove-one.new.self ∙ i.count;
    }

pub returns : goal.returns
returns g c = λ comps n h.
    let i = c.loop-index.invariant in
    c.of.ensures ∙ all_gathered c.args.places.now comps c.loop-index.list.items c.loop-index.lists c.loop-index.index (i.so_far comps n h) n i.size c.loop-index-test.false
