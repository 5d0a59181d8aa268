-- A core at work makes an access that its own L1 serves alone.
use Rattle.std.proofs.Common.{◌≡◌, ◌≢◌, ℕ, ◌+◌, ◌*◌, ◌^◌, ◌<◌, ◌≤◌, Bool, true, false, List, [], ◌∷◌, ◌++◌, length, refl, sym, ◌∙◌, ap, subst, arith, inl, inr}
use Rattle.std.specs.Prelude.{Option}
use Rattle.atomic_table.specs.Table.{Me}
use Rattle.zs_num.specs.declared.request.Request.{Request}
use Rattle.parts_table.specs.declared.part.TimedPart.{TimedPart}
use Rattle.parts_table.specs.declared.view.Made.{Made}
use Rattle.parts_table.specs.declared.view.View.{View}
use Rattle.parts_table.specs.KeptKeys.{BlocksState}
use Rattle.parts_table.specs.MachineLaws.{MachineLaws}
use Rattle.parts_table.specs.Places.{IsMetAlone, PlacesState, time_at}
use Rattle.parts_table.specs.Rest.{ArePast}
use Rattle.parts_table.specs.Seats.{Desk, HasParts, IsAtWork, hand_of}
use Rattle.parts_table.specs.TurnOrder.{key_of}
use Rattle.parts_table.specs.World.{MayAsk, World, lived, no_part, world_of}
use Rattle.parts_table.proofs.Finish.{kept_more, list_more, past_more}
use Rattle.parts_table.proofs.Hand.{fine_now, one_more}
use Rattle.parts_table.proofs.Members.{in_first}
use Rattle.parts_table.proofs.Serving.{next_alone}

module _ (laws : MachineLaws) (me : Me (Option TimedPart) View) (core : ℕ) (blocks : BlocksState) (made : List Made) (places : PlacesState) (work : IsAtWork (record { me = me; core = core; blocks = blocks; made = made }) places)
    (start : ℕ) (request : Request) (ask : MayAsk me.0.cores me.0.banks (world_of me.0.opening) core request) (more : length made < me.0.room) (m : Made) (now : PlacesState) (met : IsMetAlone places core start request m now)
    (count : length now.l1s ≡ length places.l1s) (filled : now.filled ≡ places.filled) where
  abbrev has : HasParts (record { me = me; core = core; blocks = blocks; made = made }) places no_part [] (core ∷ []) work.done work.list
  has = work.has

  same_time : m.time ≡ time_at places core
  same_time = ap (λ (x : Made). x.time) met.made_is

  later : time_at now core ≡ time_at places core
  later = ap (λ (x : TimedPart). x.time) met.own

  pub its_core : m.entry.core ≡ core
  its_core = ap (λ (x : Made). x.entry.core) met.made_is

  pub its_request : m.entry.request ≡ request
  its_request = ap (λ (x : Made). x.entry.request) met.made_is

  pub alone_key : blocks.now ≤ 2 * m.time + 1
  alone_key = let low = has.kept.now (time_at places core) work.past in let time = same_time in omega (arith, low, time)

  pub alone_low : m.time < 2 ^ 54
  alone_low = let low = work.low in let time = same_time in omega (arith, low, time)

  pub alone_room : blocks.made < blocks.room
  alone_room = let count = has.kept.count in let room = has.kept.room in omega (arith, count, room, more)

  pub alone_work : (blocks' : BlocksState) (made' : List Made) → blocks' ≡ record blocks { keys = blocks.keys ++ key_of m ∷ []; now = 2 * m.time + 1; made = blocks.made + 1 } → made' ≡ made ++ m ∷ []
      → IsAtWork (record { me = me; core = core; blocks = blocks'; made = made' }) now
  alone_work blocks' made' blocks_are made_are = record {
    done = work.done;
    list = work.list ++ m ∷ [];
    has = record {
      kept = kept_more me core blocks made has.kept m more blocks' made' blocks_are made_are;
      made_is = made_are ∙ list_more made work.done work.list m has.made_is;
      hand = one_more laws me core blocks made work.done work.list (hand_of me.0.cores places no_part) has.hand m blocks' made' (hand_of me.0.cores now no_part) its_core
          (subst (λ (c : ℕ). MayAsk me.0.cores me.0.banks (world_of me.0.opening) c m.entry.request) (sym its_core) (subst (λ (r : Request). MayAsk me.0.cores me.0.banks (world_of me.0.opening) core r) (sym its_request) ask))
          (next_alone laws me.0 (lived me.0.cores me.0.banks has.hand.world work.list) (fine_now laws me core blocks made work.done work.list (hand_of me.0.cores places no_part) has.hand) places no_part (λ k held. has.hand.agrees k held)
          core start request ask (has.has core (in_first core [] core refl)) has.kept.core_is m now met);
      has = has.has;
      only = has.only;
      slots = has.slots;
      apart = has.apart;
      homes = has.homes;
      known = has.known;
      count = count ∙ has.count;
      filled = filled ∙ has.filled;
    };
    past = subst (λ (list : List Made). ArePast list (time_at now core)) (sym made_are)
        (past_more made m (time_at places core) (time_at now core) work.past (let time = later in omega (arith, time)) (let time = later in let own = same_time in omega (arith, time, own)));
    low = (let low = work.low in let time = later in omega (arith, low, time));
  }
