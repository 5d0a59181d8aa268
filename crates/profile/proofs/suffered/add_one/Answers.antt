use Rattle.std.proofs.Common.{◌≡◌, ◌++◌, ◌∷◌, [], Bool, true, ℕ, map, ap, subst, ◌∙◌, sym, if◌then◌else◌}
use Rattle.zs_num.specs.Request.{line_of}
use Rattle.profile.specs.declared.contribution.Contribution.{Contribution}
use Rattle.profile.specs.Contributions.{suffers}
use Rattle.profile.specs.Copies.{has_other}
use Rattle.profile.specs.CopyTables.{copies_in}
use Rattle.profile.specs.Rows.{AreRows}
use Rattle.profile.proofs.suffered.add_one.Goals as goal

pub returns-in_ok-add : goal.returns-in_ok-add
returns-in_ok-add c = λ cs rows.
    let e = c.args.entry.now in
    let new = c.add.new.self in
    let copies = copies_in c.args.copies.now.of_data.items c.args.copies.now.of_instructions.items in
    let held : has_other copies e.core (line_of e.request) c.args.other ≡ true =
    ap (λ (n : ℕ). has_other copies e.core n c.args.other) (sym c.line.ensures) ∙ sym c.is_other.ensures ∙ c.if-is_other.true
    in
    subst (λ (b : Bool). AreRows (cs ++ map (suffers e) (if b then c.args.other ∷ [] else [])) new.addresses.items new.lines.items) (sym held)
    (subst (λ (s : Contribution). AreRows (cs ++ s ∷ []) new.addresses.items new.lines.items) c.suffers.ensures (c.in_ok-add.ensures cs rows))
