use Rattle.std.proofs.Common.{◌≡◌, ℕ, true, false, Some, None, sym, ◌∙◌, refl, arith}
use Rattle.std.specs.List.{position}
use Rattle.std.specs.Prelude.{nat_eq, IsTrue}
use Rattle.mesi_dir.specs.CoreSets.{HasNone}
use Rattle.mesi_dir.specs.LineMap.{IsSharing, is_among}
use Rattle.mesi_dir.specs.Rows.{sharing_in}
use Rattle.mesi_dir.proofs.Maps.{updated_here, updated_keeps}
use Rattle.mesi_dir.proofs.Rows.{empty_row, shared_row, row_none, row_removed, rows_removed, row_replaced, rows_replaced, row_added, rows_added, is_below_room}
use Rattle.mesi_dir.proofs.directory.Directory.set_row.Goals as goal

not_so : false ≡ true → ⊥
not_so h = cc

-- ---- no core has the line any more
pub invariant_of-self : goal.invariant_of-self
invariant_of-self c =
    let at : position (nat_eq c.args.line) c.self.inside.tags.items ≡ Some c.in-Some.place = cc in
    rw (c.remove.ensures.items, c.remove-in-Some.ensures.items) (rows_removed c.self.invariant c.args.line at _ _ (omega arith) (omega arith))

pub returns-in-Some-clause-line : goal.returns-in-Some-clause-line
returns-in-Some-clause-line c =
    let at : position (nat_eq c.args.line) c.self.inside.tags.items ≡ Some c.in-Some.place = cc in
    let none : HasNone c.args.row.sharers.words = c.if-is_empty.ensures.none.0 refl in
    rw (c.remove.ensures.items, c.remove-in-Some.ensures.items)
    (updated_here (row_removed c.self.invariant c.args.line at) ∙ sym (empty_row c.args.self.now.cores c.args.row c.requires.sharing none))

pub returns-in-Some-clause-others : goal.returns-in-Some-clause-others
returns-in-Some-clause-others c =
    let at : position (nat_eq c.args.line) c.self.inside.tags.items ≡ Some c.in-Some.place = cc in
    rw (← c.self.view_is, c.remove.ensures.items, c.remove-in-Some.ensures.items) (updated_keeps (row_removed c.self.invariant c.args.line at))

-- ---- a line that was there has another row
pub invariant_of-self-in-Some-2 : goal.invariant_of-self-in-Some-2
invariant_of-self-in-Some-2 c =
    let at : position (nat_eq c.args.line) c.self.inside.tags.items ≡ Some c.in-Some.place = cc in
    let sharing : IsSharing c.self.inside.cores (sharing_in c.args.row) = rw (← c.self.view_is) at c.requires.sharing in
    rows_replaced c.self.invariant c.args.line at c.args.row _ _ (omega arith) (omega arith) sharing (shared_row c.args.row (λ none. not_so (c.if-is_empty.ensures.none.1 none)))

pub returns-in-Some-2-clause-line : goal.returns-in-Some-2-clause-line
returns-in-Some-2-clause-line c =
    let at : position (nat_eq c.args.line) c.self.inside.tags.items ≡ Some c.in-Some.place = cc in
    updated_here (row_replaced c.self.invariant c.args.line at c.args.row)

pub returns-in-Some-2-clause-others : goal.returns-in-Some-2-clause-others
returns-in-Some-2-clause-others c =
    let at : position (nat_eq c.args.line) c.self.inside.tags.items ≡ Some c.in-Some.place = cc in
    rw (← c.self.view_is) (updated_keeps (row_replaced c.self.invariant c.args.line at c.args.row))

-- ---- a line without a core stays so
pub returns-in-None-clause-line : goal.returns-in-None-clause-line
returns-in-None-clause-line c =
    let at : position (nat_eq c.args.line) c.self.inside.tags.items ≡ None = cc in
    let none : HasNone c.args.row.sharers.words = c.if-is_empty-2.ensures.none.0 refl in
    let empty = empty_row c.args.self.now.cores c.args.row c.requires.sharing none in
    rw (empty, ← c.self.view_is) (row_none c.self.invariant c.args.line at)

-- ---- a line comes in
pub push_reserved-requires : goal.push_reserved-requires
push_reserved-requires c =
    let at : position (nat_eq c.args.line) c.self.inside.tags.items ≡ None = cc in
    let shared : (core : ℕ) × IsTrue (is_among (sharing_in c.args.row) core) = shared_row c.args.row (λ none. not_so (c.if-is_empty-2.ensures.none.1 none)) in
    let room = rw (← c.self.view_is) at (c.requires.room shared.0 shared.1) in
    omega (arith, is_below_room c.self.invariant c.args.line at c.args.row room)

pub push_reserved-requires-in-None-2 : goal.push_reserved-requires-in-None-2
push_reserved-requires-in-None-2 c =
    let at : position (nat_eq c.args.line) c.self.inside.tags.items ≡ None = cc in
    let shared : (core : ℕ) × IsTrue (is_among (sharing_in c.args.row) core) = shared_row c.args.row (λ none. not_so (c.if-is_empty-2.ensures.none.1 none)) in
    let room = rw (← c.self.view_is) at (c.requires.room shared.0 shared.1) in
    omega (arith, is_below_room c.self.invariant c.args.line at c.args.row room)

pub invariant_of-self-in-None-2 : goal.invariant_of-self-in-None-2
invariant_of-self-in-None-2 c =
    let at : position (nat_eq c.args.line) c.self.inside.tags.items ≡ None = cc in
    let shared : (core : ℕ) × IsTrue (is_among (sharing_in c.args.row) core) = shared_row c.args.row (λ none. not_so (c.if-is_empty-2.ensures.none.1 none)) in
    let room = rw (← c.self.view_is) at (c.requires.room shared.0 shared.1) in
    let sharing : IsSharing c.self.inside.cores (sharing_in c.args.row) = rw (← c.self.view_is) at c.requires.sharing in
    rw (c.push_reserved.ensures.items, c.push_reserved-in-None-2.ensures.items)
    (rows_added c.self.invariant c.args.line at c.args.row _ _ (omega arith) (omega arith) room sharing shared)

pub returns-in-None-2-clause-line : goal.returns-in-None-2-clause-line
returns-in-None-2-clause-line c =
    let at : position (nat_eq c.args.line) c.self.inside.tags.items ≡ None = cc in
    rw (c.push_reserved.ensures.items, c.push_reserved-in-None-2.ensures.items) (updated_here (row_added c.self.invariant c.args.line at c.args.row))

pub returns-in-None-2-clause-others : goal.returns-in-None-2-clause-others
returns-in-None-2-clause-others c =
    let at : position (nat_eq c.args.line) c.self.inside.tags.items ≡ None = cc in
    rw (← c.self.view_is, c.push_reserved.ensures.items, c.push_reserved-in-None-2.ensures.items) (updated_keeps (row_added c.self.invariant c.args.line at c.args.row))
