-- The lists behind those of the domains: the one that was not laid out, and the others one by one.
use Rattle.std.proofs.Common.{◌≡◌, ◌<◌, List, [], ◌∷◌, ◌++◌, Vec, length, sym, ◌∙◌, ap, ap₂, arith}
use Rattle.std.proofs.lemmas.List.{append_assoc, length-map, length_push}
use Rattle.std.specs.declared.alloc.Global.{Global}
use Rattle.weave_core.specs.DomainCalls.{DomainValue}
use Rattle.weave_run.specs.Dealing.{items_of}
use Rattle.weave_run.proofs.Gatherings.{first_and_rest}
use Rattle.weave_run.proofs.Preparings.{map_push}
use Rattle.weave_run.proofs.setup.put_back.Goals as goal

pub loop-rooms-init : goal.loop-rooms-init
loop-rooms-init g c =
    let list = c.into_list.result in
    let before = c.finish_all-lists.result.items in
    let pushed = c.push_reserved.ensures.items in
    let rest : List (List g.row.C.Denot) = items_of c.args.rooms.items in
    let domains : length before ≡ length c.args.domains.items =
    sym (length-map before (λ (v : Vec g.row.C.Denot Global). v.items)) ∙ ap length c.finish_all-lists.ensures.lists ∙ length-map c.args.domains.items (λ (v : DomainValue g.row.C.Denot). v.comps) in
    record {
      lists = ap (λ (lists : List (Vec g.row.C.Denot Global)). items_of lists ++ rest) pushed
          ∙ ap (λ (xs : List (List g.row.C.Denot)). xs ++ rest) (map_push (λ (v : Vec g.row.C.Denot Global). v.items) before list)
          ∙ append_assoc (items_of before) (list.items ∷ []) rest
          ∙ ap₂ (λ (xs : List (List g.row.C.Denot)) (own : List g.row.C.Denot). xs ++ own ∷ rest) c.finish_all-lists.ensures.lists c.into_list.ensures;
      room = omega (arith, ap length pushed, length_push before list, domains, c.push_reserved.ensures.capacity, c.finish_all-lists.ensures.room, c.requires.room);
    }

-- the first of the rooms goes behind the lists
one_moved : {C : Type 0} (lists after rooms rest : List (Vec C Global)) (room : Vec C Global) → rooms ≡ room ∷ rest → after ≡ lists ++ room ∷ []
    → items_of after ++ items_of rest ≡ items_of lists ++ items_of rooms
one_moved {C} lists after rooms rest room first moved =
    ap (λ (vs : List (Vec C Global)). items_of vs ++ items_of rest) moved
    ∙ ap (λ (xs : List (List C)). xs ++ items_of rest) (map_push (λ (v : Vec C Global). v.items) lists room)
    ∙ append_assoc (items_of lists) (room.items ∷ []) (items_of rest)
    ∙ ap (λ (vs : List (Vec C Global)). items_of lists ++ items_of vs) (sym first)

pub loop-rooms-preserved : goal.loop-rooms-preserved
loop-rooms-preserved g c =
    let lists = c.loop-rooms.lists.items in
    let rooms = c.loop-rooms.rooms.items in
    let room = c.remove-room.result in
    let rest = c.remove-room.new.self.items in
    let moved = c.push_reserved-in-loop-rooms.ensures.items in
    let some : 0 < length rooms = omega (arith, c.remove-room.ensures.len, c.loop-rooms.rooms.ok.0) in
    let first : rooms ≡ room ∷ rest =
    first_and_rest rooms room some
    ∙ ap₂ (λ (x : Vec g.row.C.Denot Global) (xs : List (Vec g.row.C.Denot Global)). x ∷ xs) (sym c.remove-room.ensures.value) (sym c.remove-room.ensures.items) in
    record {
      lists = one_moved lists c.push_reserved-in-loop-rooms.new.self.items rooms rest room first moved ∙ c.loop-rooms.invariant.lists;
      room = omega (arith, ap length moved, length_push lists room, ap length first, c.push_reserved-in-loop-rooms.ensures.capacity, c.loop-rooms.invariant.room);
    }
