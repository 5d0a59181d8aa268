use Rattle.std.proofs.Common.{◌≡◌, ◌++◌, ◌||◌, [], ℕ, Bool, true, List, map, if◌then◌else◌, subst, sym, arith}
use Rattle.std.specs.List.{filter, range_with_len}
use Rattle.zs_num.specs.Request.{line_of}
use Rattle.profile.specs.declared.contribution.Contribution.{Contribution}
use Rattle.profile.specs.Contributions.{suffers}
use Rattle.profile.specs.Copies.{downgrades, has_other, invalidates}
use Rattle.profile.specs.CopyTables.{copies_in}
use Rattle.profile.specs.Rows.{AreRows}
use Rattle.profile.proofs.Suffering.{suffered_more}
use Rattle.profile.proofs.suffered.add_suffered.Goals as goal

pub loop-other-preserved : goal.loop-other-preserved
loop-other-preserved c = λ cs rows.
    let e = c.args.entry.now in
    let other = c.loop-other.other in
    let test = has_other (copies_in c.args.copies.now.of_data.items c.args.copies.now.of_instructions.items) e.core (line_of e.request) in
    let so_far : List Contribution = cs ++ map (suffers e) (filter test (range_with_len 0 other)) in
    subst (λ (all : List Contribution). AreRows all c.add_one.new.rows.addresses.items c.add_one.new.rows.lines.items) (suffered_more cs (suffers e) test other)
    (c.in_ok-add_one.ensures so_far (c.loop-other.invariant cs rows))

pub returns : goal.returns
returns c = λ cs rows.
    let e = c.args.entry.now in
    let new = c.loop-other.rows in
    let test = has_other (copies_in c.args.copies.now.of_data.items c.args.copies.now.of_instructions.items) e.core (line_of e.request) in
    let changes : (invalidates e || downgrades e) ≡ true = sym c.if-not-changes_copies.ensures in
    let all : c.loop-other.other ≡ c.args.cores = omega (arith, c.loop-other-test.false, c.loop-other.auto.other-end) in
    subst (λ (b : Bool). AreRows (cs ++ map (suffers e) (if b then filter test (range_with_len 0 c.args.cores) else [])) new.addresses.items new.lines.items) (sym changes)
    (subst (λ (n : ℕ). AreRows (cs ++ map (suffers e) (filter test (range_with_len 0 n))) new.addresses.items new.lines.items) all (c.loop-other.invariant cs rows))
