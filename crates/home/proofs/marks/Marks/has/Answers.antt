use Rattle.std.proofs.Common.{◌≡◌, get_or, None}
use Rattle.std.proofs.lemmas.List.{get_or_read}
use Rattle.home.proofs.marks.Marks.has.Goals as goal

pub returns : goal.returns
returns c =
    let mark : c.index.result.now ≡ get_or c.self.inside.list.items c.args.core None =
    get_or_read c.self.inside.list.items c.args.core _ (rw (← c.self.view_is) at c.requires) (rw c.from.ensures at c.index.ensures) None in
    rw (← c.self.view_is, ← mark) cc
