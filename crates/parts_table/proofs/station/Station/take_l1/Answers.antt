use Rattle.std.proofs.Common.{◌≡◌, ℕ, ◌<◌, ◌++◌, List, [], ◌∷◌, refl, sym, ◌∙◌, ap, subst}
use Rattle.std.specs.Prelude.{Option}
use Rattle.atomic_table.specs.Table.{Me, turned}
use Rattle.parts_table.specs.declared.part.TimedPart.{TimedPart}
use Rattle.parts_table.specs.declared.view.View.{View}
use Rattle.parts_table.specs.Seats.{slot_of}
use Rattle.parts_table.specs.Stations.{seat_of}
use Rattle.parts_table.specs.Views.{holding}
use Rattle.parts_table.proofs.StationSteps.{same_took}
use Rattle.parts_table.proofs.station.Station.take_l1.Goals as goal

pub put-requires-clause-l1 : goal.put-requires-clause-l1
put-requires-clause-l1 g c =
    let taken = c.wait_for-part.ensures.taken in
    let known : c.args.core < c.args.self.now.place.me.0.cores = subst (λ (n : ℕ). c.args.core < n) (sym c.requires.at.cores) c.requires.core in
    let l1 = taken.reached.sound.l1s c.args.core known in
    (l1.0, ap (λ (x : TimedPart). x.part) taken.reached.agrees.0 ∙ l1.1)

-- the seat, with the new slot behind the others
behind : (me taken turned_to : Me (Option TimedPart) View) (part : ℕ) (value : TimedPart) → taken ≡ (holding me.0 part value, slot_of part ∷ me.1) → turned_to ≡ (taken.0, turned taken.1) → turned_to ≡ (holding me.0 part value, me.1 ++ slot_of part ∷ [])
behind me taken turned_to part value took is = is ∙ ap (λ (m : Me (Option TimedPart) View). (m.0, turned m.1)) took

pub returns-clause-took : goal.returns-clause-took
returns-clause-took g c = record {
  value = c.wait_for-part.result;
  taken = c.wait_for-part.ensures.taken;
  me = behind c.args.self.now.place.me c.wait_for-part.new.place.me c.turn.new.self.me c.args.core c.wait_for-part.result c.wait_for-part.ensures.me c.turn.ensures.2;
  there = c.put.ensures.there;
  others = c.put.ensures.others;
  count = c.put.ensures.count;
  filled = c.put.ensures.filled;
}

pub returns-clause-same : goal.returns-clause-same
returns-clause-same g c = (
  record {
    table = c.turn.ensures.0 ∙ c.wait_for-part.ensures.table;
    core = refl;
    opening = knows (λ (v : View). v.opening) c.args.self.now.place.me c.wait_for-part.new.place.me c.turn.new.self.me c.args.core c.wait_for-part.result c.wait_for-part.ensures.me c.turn.ensures.2;
    cores = knows (λ (v : View). v.cores) c.args.self.now.place.me c.wait_for-part.new.place.me c.turn.new.self.me c.args.core c.wait_for-part.result c.wait_for-part.ensures.me c.turn.ensures.2;
    banks = knows (λ (v : View). v.banks) c.args.self.now.place.me c.wait_for-part.new.place.me c.turn.new.self.me c.args.core c.wait_for-part.result c.wait_for-part.ensures.me c.turn.ensures.2;
    room = knows (λ (v : View). v.room) c.args.self.now.place.me c.wait_for-part.new.place.me c.turn.new.self.me c.args.core c.wait_for-part.result c.wait_for-part.ensures.me c.turn.ensures.2;
  },
  refl,
) where
  knows : {X : Type 0} (f : View → X) (me taken turned_to : Me (Option TimedPart) View) (part : ℕ) (value : TimedPart) → taken ≡ (holding me.0 part value, slot_of part ∷ me.1) → turned_to ≡ (taken.0, turned taken.1) → f turned_to.0 ≡ f (holding me.0 part value)
  knows f me taken turned_to part value took is = ap (λ (m : Me (Option TimedPart) View). f m.0) (behind me taken turned_to part value took is)
