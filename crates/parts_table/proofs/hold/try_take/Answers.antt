use Rattle.std.proofs.Common.{◌≡◌, ℕ, ◌*◌, ◌/◌, List, [], ◌∷◌, sym, ◌∙◌, ap, subst, arith}
use Rattle.std.specs.Prelude.{Option, Some, None}
use Rattle.atomic_table.specs.Table.{Me, rest}
use Rattle.parts_table.specs.declared.part.TimedPart.{TimedPart}
use Rattle.parts_table.specs.declared.view.View.{View}
use Rattle.parts_table.specs.Steps.{IsTaken, taken_at, took}
use Rattle.parts_table.specs.Views.{holding}
use Rattle.parts_table.proofs.Taking.{takes_part}
use Rattle.parts_table.proofs.hold.try_take.Goals as goal

pub compare_exchange-found-requires : goal.compare_exchange-found-requires
compare_exchange-found-requires c =
    let place = c.args.place.now in
    let bench = c.args.bench.now in
    let key = bench.key in
    let log = c.requires.log in (
      c.requires.table,
      omega (arith, c.requires.places.words, c.requires.part),
      takes_part key.parts.value.items key.cores key.banks key.room c.machine_laws.ensures bench.table_id.slots place.id c.args.part c.args.core place.me.0 place.me.1 log.0 log.1 log.2 c.requires.part,
    )

abbrev first_value : List (ℕ × Option TimedPart) → Option TimedPart
first_value [] = None
first_value (slot ∷ slots) = slot.1

module _ (part found : ℕ) (before between : Me (Option TimedPart) View) (did : taken_at (16 * part / 16) before found between) (free : found ≡ 0) where
  -- nobody held it
  was_taken : (value : TimedPart) × (between ≡ (holding before.0 part value, (part, Some value) ∷ before.1)) × IsTaken before.0 part value
  was_taken = let is_part : 16 * part / 16 ≡ part = omega arith in (subst (λ (k : ℕ). taken_at k before found between) is_part did).0 free

  in_front : (value : Option TimedPart) × (between.1 ≡ (part, value) ∷ rest between.1)
  in_front =
      let t = was_taken in
      let is = ap (λ (m : Me (Option TimedPart) View). m.1) t.1 in
      (Some t.0, is ∙ ap (λ (xs : List (ℕ × Option TimedPart)). (part, Some t.0) ∷ rest xs) (sym is))

  in_hand : (after : Me (Option TimedPart) View) (value : Option TimedPart) → between.1 ≡ (part, value) ∷ rest between.1 → after ≡ (between.0, (part, None) ∷ rest between.1) → took part before value after
  in_hand after value was is =
      let t = was_taken in
      let slots = ap (λ (m : Me (Option TimedPart) View). m.1) t.1 in
      let same : Some t.0 ≡ value = ap first_value (sym slots ∙ was) in
      subst (λ (x : Option TimedPart). took part before x after) same
      (is ∙ ap (λ (m : Me (Option TimedPart) View). (m.0, (part, None) ∷ rest m.1)) t.1, t.2)

pub exchange-requires : goal.exchange-requires
exchange-requires c =
    let front = in_front c.args.part c.compare_exchange-found.result c.args.place.now.me c.compare_exchange-found.new.seat.me c.compare_exchange-found.ensures.2 c.if-found-ne0.false in
    (c.compare_exchange-found.ensures.0 ∙ c.requires.table, front)

pub returns-clause-took : goal.returns-clause-took
returns-clause-took c =
    in_hand c.args.part c.compare_exchange-found.result c.args.place.now.me c.compare_exchange-found.new.seat.me c.compare_exchange-found.ensures.2 c.if-found-ne0.false
    c.exchange.new.seat.me c.exchange.result c.exchange.ensures.2 c.exchange.ensures.3
