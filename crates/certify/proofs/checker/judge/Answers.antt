use Rattle.std.proofs.Common.{◌≡◌, length, sym, subst, ◌∙◌, arith}
use Rattle.std.proofs.lemmas.List.{with_items_is}
use Rattle.certify.specs.Records.{AreFinishes}
use Rattle.certify.proofs.checker.judge.Goals as goal

pub sort_keys-requires : goal.sort_keys-requires
sort_keys-requires c = omega (arith, c.requires.interval.1.long)

pub serve_all-requires-clause-interval : goal.serve_all-requires-clause-interval
serve_all-requires-clause-interval c =
    let asked = c.requires.interval in (
      asked.0,
      asked.1,
      c.deref.ensures.value ∙ c.in_ok-sort_keys.ensures c.args.comps.now asked.0 asked.1,
      omega (arith, c.deref_mut.ensures.len, c.in_ok-resize.ensures.len, asked.1.long),
    )

pub first_wrong_event-requires : goal.first_wrong_event-requires
first_wrong_event-requires c =
    let asked = c.requires.interval in
    (c.args.comps.now, asked.0, asked.1, omega (arith, asked.1.long), omega (arith, c.deref-2.ensures.len, c.in_ok-resize.ensures.len))

pub returns-clause-verdict : goal.returns-clause-verdict
returns-clause-verdict c timed are =
    let long : length c.serve_all.new.finishes ≡ c.resize.new.self.len = omega (arith, c.serve_all.ensures.long timed are, are.long, c.in_ok-resize.ensures.len) in
    let finishes : c.deref-2.result.now ≡ c.serve_all.new.finishes = c.deref-2.ensures.value ∙ with_items_is c.resize.new.self c.serve_all.new.finishes long in
    c.first_wrong_event.ensures c.args.comps.now timed are (subst (AreFinishes c.args.comps.now timed) (sym finishes) (c.serve_all.ensures.finishes timed are))

pub returns-clause-comps : goal.returns-clause-comps
returns-clause-comps c timed are none = c.serve_all.ensures.comps timed are none
