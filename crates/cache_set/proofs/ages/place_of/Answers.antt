use Rattle.std.proofs.Common.{◌≡◌, Some, None, sym, arith}
use Rattle.std.specs.List.{position}
use Rattle.std.specs.Prelude.{nat_eq}
use Rattle.cache_set.proofs.Oldest.{not_missing, place_is, place_within}
use Rattle.cache_set.proofs.ages.place_of.Goals as goal

pub returns-then-ages-place-ne0-clause-here : goal.returns-then-ages-place-ne0-clause-here
returns-then-ages-place-ne0-clause-here c =
    let at : position (λ y. nat_eq y c.args.line) c.args.tags.now ≡ Some c.in-Some.place = cc in
    record {
      within = place_within c.args.tags.now c.args.line c.in-Some.place at;
      live = omega arith;
      tag = place_is c.args.tags.now c.args.line c.in-Some.place at;
    }

pub returns-in-None-clause-none : goal.returns-in-None-clause-none
returns-in-None-clause-none c place within live same =
    let none : position (λ y. nat_eq y c.args.line) c.args.tags.now ≡ None = cc in
    not_missing c.args.tags.now c.args.line place within (sym same) none
