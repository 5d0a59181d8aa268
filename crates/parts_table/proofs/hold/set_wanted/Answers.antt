use Rattle.std.proofs.Common.{◌≡◌, ℕ, List, subst, arith}
use Rattle.std.specs.Prelude.{Option}
use mathlib.Core.Option.{none}
use Rattle.atomic_table.specs.Table.{Allows, step}
use Rattle.parts_table.specs.declared.part.TimedPart.{TimedPart}
use Rattle.parts_table.specs.Rule.{AreHoldsAtTable, want_index}
use Rattle.parts_table.specs.Steps.{same}
use Rattle.parts_table.proofs.Wanting.{wants}
use Rattle.parts_table.proofs.hold.set_wanted.Goals as goal

pub store-requires : goal.store-requires
store-requires c =
    let place = c.args.place.now in
    let bench = c.args.bench.now in
    let key = bench.key in
    let parts : List (Option TimedPart) = key.parts.value.items in
    let n : ℕ = c.from.result in
    let index : want_index key.cores key.banks c.args.core ≡ c.want_word.result = (let word = c.want_word.ensures in omega (arith, c.requires.parts, word)) in
    let Goes : ℕ → Type 0 = λ i.
    Allows (AreHoldsAtTable parts key.cores key.banks key.room) bench.table_id.slots place.id place.me i (λ _. n) (λ _. same (step bench.table_id.slots i n 0 none) place.me n) in (
      c.requires.table,
      (let word = c.want_word.ensures in omega (arith, c.requires.places.words, c.requires.parts, c.requires.core, word)),
      subst Goes index (wants parts key.cores key.banks key.room bench.table_id.slots place.id c.args.core n place.me.0 place.me.1),
    )
