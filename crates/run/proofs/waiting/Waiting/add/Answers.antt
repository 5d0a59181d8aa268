use Rattle.std.proofs.Common.{All, ◌≡◌, ℕ, List, [], ◌∷◌, ◌++◌, refl, sym, ◌∙◌, ap, subst}
use Rattle.std.proofs.lemmas.List.Elements.{All-push}
use Rattle.access_record.specs.Unordered.{order_of}
use Rattle.run.specs.Waiting.{IsTurnList, lists_in, turns_in}
use Rattle.run.specs.declared.waiting.Order.{Order}
use Rattle.run.proofs.Handed.{first_of_longer, first_whole, kept_more, on_ok, told_more}
use Rattle.run.proofs.waiting.Waiting.add.Goals as goal

pub returns-in_err-tell-in-Told-clause-part : goal.returns-in_err-tell-in-Told-clause-part
returns-in_err-tell-in-Told-clause-part g c = first_of_longer c.tell.new.schedule.lists c.args.schedule.now.lists (lists_in c.args.self.now) (turns_in c.args.order ∷ []) c.tell.ensures.part

pub returns-in_ok-push-in-Told-clause-part : goal.returns-in_ok-push-in-Told-clause-part
returns-in_ok-push-in-Told-clause-part g c =
    first_whole c.push.new.self.lists (c.args.schedule.now.lists ++ (lists_in c.args.self.now ++ turns_in c.args.order ∷ []))
    (told_more c.push.new.self.lists c.tell.new.schedule.lists c.args.schedule.now.lists (lists_in c.args.self.now) c.in-Told.cores.items (turns_in c.args.order)
    c.in_ok-push-in-Told.ensures.ok c.in_ok-tell-in-Told.ensures.told (ap (λ (o : Order). turns_in o) (sym c.in-Told.is)))

pub returns-in_err-make_room-in-Untold-clause-part : goal.returns-in_err-make_room-in-Untold-clause-part
returns-in_err-make_room-in-Untold-clause-part g c = first_of_longer c.make_room.new.schedule.lists c.args.schedule.now.lists (lists_in c.args.self.now) (turns_in c.args.order ∷ []) c.make_room.ensures.part

pub returns-in_ok-make_room-in-Untold-clause-part : goal.returns-in_ok-make_room-in-Untold-clause-part
returns-in_ok-make_room-in-Untold-clause-part g c = first_of_longer c.make_room.new.schedule.lists c.args.schedule.now.lists (lists_in c.args.self.now) (turns_in c.args.order ∷ []) c.make_room.ensures.part

pub returns-in_ok-make_room-in-Untold-clause-kept : goal.returns-in_ok-make_room-in-Untold-clause-kept
returns-in_ok-make_room-in-Untold-clause-kept g c =
    let whole : List (List ℕ) = c.args.schedule.now.lists ++ (lists_in c.args.self.now ++ turns_in c.args.order ∷ []) in
    let more : List (List ℕ) = lists_in c.make_room.new.self ++ order_of c.in-Untold.unordered ∷ [] in
    on_ok c.wait_with.result (lists_in c.wait_with.new.self ≡ more) (c.make_room.new.schedule.lists ++ lists_in c.wait_with.new.self ≡ whole)
    (kept_more c.make_room.new.schedule.lists (lists_in c.make_room.new.self) (lists_in c.wait_with.new.self) c.args.schedule.now.lists (lists_in c.args.self.now) (order_of c.in-Untold.unordered) (turns_in c.args.order)
    c.in_ok-make_room-in-Untold.ensures.kept (ap (λ (o : Order). turns_in o) (sym c.in-Untold.is)))
    c.wait_with.ensures.lists

pub returns-in_ok-make_room-in-Untold-clause-lists : goal.returns-in_ok-make_room-in-Untold-clause-lists
returns-in_ok-make_room-in-Untold-clause-lists g c =
    let cores = c.args.schedule.now.cores in
    let left : List (List ℕ) = lists_in c.make_room.new.self in
    let list : List ℕ = order_of c.in-Untold.unordered in
    let own : IsTurnList cores list = subst (IsTurnList cores) (ap (λ (o : Order). turns_in o) c.in-Untold.is) c.requires.next in
    on_ok c.wait_with.result (lists_in c.wait_with.new.self ≡ left ++ list ∷ []) (All (IsTurnList cores) (lists_in c.wait_with.new.self))
    (λ more. subst (All (IsTurnList cores)) (sym more) (All-push (IsTurnList cores) left list c.in_ok-make_room-in-Untold.ensures.lists own))
    c.wait_with.ensures.lists
