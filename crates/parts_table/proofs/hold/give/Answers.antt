use Rattle.std.proofs.Common.{◌≡◌, ℕ, ◌*◌, ◌/◌, List, ◌∷◌, sym, ◌∙◌, ap, subst, arith}
use Rattle.std.specs.Prelude.{Option, Some}
use mathlib.Core.Option.{none}
use Rattle.atomic_table.specs.Table.{Allows, Me, rest, step}
use Rattle.parts_table.specs.declared.part.TimedPart.{TimedPart}
use Rattle.parts_table.specs.declared.view.View.{View}
use Rattle.parts_table.specs.Rule.{AreHoldsAtTable}
use Rattle.parts_table.specs.Steps.{gave}
use Rattle.parts_table.proofs.Giving.{gives_part}
use Rattle.parts_table.proofs.hold.give.Goals as goal

pub store-requires : goal.store-requires
store-requires g c =
    let place = c.args.place.now in
    let seat = c.exchange.new.seat in
    let bench = c.args.bench.now in
    let key = bench.key in
    let parts : List (Option TimedPart) = key.parts.value.items in
    let Goes : Me (Option TimedPart) View → Type 0 = λ m.
    Allows (AreHoldsAtTable parts key.cores key.banks key.room) bench.table_id.slots seat.id m (16 * c.args.part) (λ _. 0)
    (λ _. gave g.E.Ends.list g.E.Ends.left (step bench.table_id.slots (16 * c.args.part) 0 0 none) m 0) in (
      c.exchange.ensures.0 ∙ c.requires.table,
      omega (arith, c.requires.places.words, c.requires.part),
      subst Goes (sym {A = Me (Option TimedPart) View} c.exchange.ensures.3)
          (gives_part parts key.cores key.banks key.room c.machine_laws.ensures bench.table_id.slots seat.id c.args.part place.me.0 c.args.value (rest place.me.1) g.E.Ends.list g.E.Ends.left c.requires.may),
    )

pub returns-clause-gave : goal.returns-clause-gave
returns-clause-gave g c =
    let place = c.args.place.now in
    let is_part : 16 * c.args.part / 16 ≡ c.args.part = omega arith in
    let did = subst (λ (k : ℕ). Rattle.parts_table.specs.Steps.gave_at g.E.Ends.list g.E.Ends.left k c.exchange.new.seat.me c.store.new.seat.me) is_part c.store.ensures.2 in
    let knows : c.exchange.new.seat.me.0 ≡ place.me.0 = ap (λ m. m.0) c.exchange.ensures.3 in
    λ slots log in_hand logs.
    did (Some c.args.value) slots log
    (ap (λ m. m.1) c.exchange.ensures.3 ∙ ap (λ (xs : List (ℕ × Option TimedPart)). (c.args.part, Some c.args.value) ∷ rest xs) in_hand)
    (ap (λ (v : View). v.logs) knows ∙ logs)
    ∙ ap (λ (v : View). (Rattle.parts_table.specs.Views.given v log g.E.Ends.list g.E.Ends.left, slots)) knows
