-- Ports over a bare list of shards.
use Rattle.std.proofs.Common.{mod-lt, length-set, ◌≡◌, ◌≤◌, ◌<◌, ◌+◌, ℕ, zero, suc, max, List, [], ◌∷◌, length, map, get_or, Some, refl, ap, sym, ◌∙◌, subst, arith}
use Rattle.std.specs.Prelude.{◌%◌, Bool, slice_get, slice_index, slice_index_or, slice_set, unwrap_or}
use Rattle.std.proofs.lemmas.Option.{slice_get-get_or}
use Rattle.std.proofs.lemmas.List.{get_or_default, length-map, map-set}
use Rattle.zs_num.specs.Request.{line_of, bank_of}
use Rattle.zs_num.specs.Servable.{IsServable}
use Rattle.zs_num.specs.declared.entry.Entry.{Entry}
use Rattle.zs_num.specs.declared.request.Request.{Request}
use Rattle.shard.specs.HaveL1i.{have_l1i}
use Rattle.shard.specs.Served.{CanServe, IsServedBy, ShardState, no_shard, shard_after, shard_for}
use Rattle.bound_core.specs.ShardPort.{AreShardsOf, IsShardAt, IsShardPort, ShardPortState, base_in, base_of, greatest, greatest_stamp, l1i_in, l1i_of, size_in, size_of}
use Rattle.reference.specs.ShardWorld.{ShardWorld, recorded_by_shard, restarted, shards_serve}
use Rattle.bound_core.proofs.Alike.{EachHas, alike_by, first_has}
use Rattle.reference.proofs.HistoryTurn.{recorded_is}

-- ---- lists

-- what holds of each element holds of each where one is set of which it holds
each_set : {A : Type 0} (P : ℕ → A → Type 0) (xs : List A) (n : ℕ) (y : A) → P n y → ((i : ℕ) (x : A) → slice_get xs i ≡ Some x → P i x)
    → (i : ℕ) (x : A) → slice_get (slice_set xs n y) i ≡ Some x → P i x
each_set P [] n y one all i x e = all i x e
each_set P (z ∷ zs) zero y one all zero x e = subst (P 0) (ap (λ found. unwrap_or found y) e) one
each_set P (z ∷ zs) zero y one all (suc i) x e = all (suc i) x e
each_set P (z ∷ zs) (suc n) y one all zero x e = all 0 x e
each_set P (z ∷ zs) (suc n) y one all (suc i) x e = each_set (λ i x. P (suc i) x) zs n y one (λ i x e. all (suc i) x e) i x e

-- none is greater than the greatest
pub at_most_greatest : (numbers : List ℕ) (i : ℕ) → slice_index numbers i ≤ greatest numbers
at_most_greatest [] i = omega arith
at_most_greatest (n ∷ ns) zero = omega arith
at_most_greatest (n ∷ ns) (suc i) = omega (arith, at_most_greatest ns i)

pub last_at_most : (shards : List ShardState) (i : ℕ) → (slice_index_or shards i no_shard).last ≤ greatest (map (λ shard. shard.last) shards)
last_at_most [] i = omega arith
last_at_most (s ∷ ss) zero = omega arith
last_at_most (s ∷ ss) (suc i) = omega (arith, last_at_most ss i)

-- a number that is set makes the greatest no greater than both
pub greatest_set : (numbers : List ℕ) (i number : ℕ) → greatest (slice_set numbers i number) ≤ max number (greatest numbers)
greatest_set [] i number = omega arith
greatest_set (n ∷ ns) zero number = omega arith
greatest_set (n ∷ ns) (suc i) number = omega (arith, greatest_set ns i number)

-- ---- shards of a machine

some_set : (n : ℕ) (shards : List ShardState) (shard : ShardState) → 0 < length shards → 0 < length (slice_set shards n shard)
some_set n shards shard some = subst (λ count. 0 < count) (sym (length-set shards n shard)) some

each_has_set : (n : ℕ) (shards : List ShardState) (shard : ShardState) → have_l1i shard.caches ≡ l1i_in shards → EachHas (l1i_in shards) shards
    → EachHas (l1i_in shards) (slice_set shards n shard)
each_has_set n shards shard same alike = each_set (λ i x. have_l1i x.caches ≡ l1i_in shards) shards n shard same alike

-- a shard that is set has instruction caches where the others have
pub l1i_set : (n : ℕ) (shards : List ShardState) (shard : ShardState) → 0 < length shards → have_l1i shard.caches ≡ l1i_in shards → EachHas (l1i_in shards) shards
    → l1i_in (slice_set shards n shard) ≡ l1i_in shards
l1i_set n shards shard some same alike =
    first_has (l1i_in shards) (slice_set shards n shard) (some_set n shards shard some) (each_has_set n shards shard same alike)

pub shards_set : (cores base size n : ℕ) (shards : List ShardState) (shard : ShardState) → AreShardsOf cores shards base size
    → IsShardAt (length shards) cores n base size shard → have_l1i shard.caches ≡ l1i_in shards → AreShardsOf cores (slice_set shards n shard) base size
shards_set cores base size n shards shard are one same = record {
  some = some_set n shards shard are.some;
  each = subst (λ count. (i : ℕ) (x : ShardState) → slice_get (slice_set shards n shard) i ≡ Some x → IsShardAt count cores i base size x) (sym (length-set shards n shard))
      (each_set (λ i x. IsShardAt (length shards) cores i base size x) shards n shard one are.each);
  alike = alike_by (l1i_in shards) (slice_set shards n shard) (some_set n shards shard are.some) (each_has_set n shards shard same are.alike);
}

-- their memory is that of the first
pub own_memory : (cores base size : ℕ) (shards : List ShardState) → AreShardsOf cores shards base size → (base_in shards ≡ base) × (size_in shards ≡ size)
own_memory cores base size shards are =
    let first = are.each 0 (slice_index_or shards 0 no_shard) (slice_get-get_or shards 0 no_shard are.some) in (first.base_is, first.size_is)

-- shards of a machine make a port for its cores
pub port_of : (w : ShardWorld) (core cores base size : ℕ) → AreShardsOf cores w.shards base size → length w.stamps ≡ cores → core < cores → IsShardPort (record { world = w; core = core })
port_of w core cores base size are stamps below = let own = own_memory cores base size w.shards are in record {
  shards = subst (λ (c : ℕ). AreShardsOf c w.shards (base_of w) (size_of w)) (sym stamps)
      (subst (λ (b : ℕ). AreShardsOf cores w.shards b (size_of w)) (sym own.0) (subst (λ (z : ℕ). AreShardsOf cores w.shards base z) (sym own.1) are));
  core_is = subst (λ (c : ℕ). core < c) (sym stamps) below;
}

-- after an access the shards are still those of the machine
pub port_set : (p : ShardPortState) (i : ℕ) (left : ShardState) (core stamp : ℕ) → IsShardPort p
    → IsShardAt (length p.world.shards) (length p.world.stamps) i (base_of p.world) (size_of p.world) left → have_l1i left.caches ≡ l1i_of p.world
    → IsShardPort (record { world = record { shards = slice_set p.world.shards i left; stamps = slice_set p.world.stamps core stamp }; core = p.core })
port_set p i left core stamp port at same =
    port_of (record { shards = slice_set p.world.shards i left; stamps = slice_set p.world.stamps core stamp }) p.core (length p.world.stamps) (base_of p.world) (size_of p.world)
    (shards_set (length p.world.stamps) (base_of p.world) (size_of p.world) i p.world.shards left port.shards at same) (length-set p.world.stamps core stamp) port.core_is

-- ---- restarted

each_restarted : (cores count base size from : ℕ) (shards : List ShardState)
    → ((i : ℕ) (x : ShardState) → slice_get shards i ≡ Some x → IsShardAt count cores (from + i) base size x)
    → (i : ℕ) (x : ShardState) → slice_get (map restarted shards) i ≡ Some x → IsShardAt count cores (from + i) base size x
each_restarted cores count base size from [] each i x e = each i x e
each_restarted cores count base size from (s ∷ ss) each zero x e =
    let at = each 0 s refl in
    subst (λ (y : ShardState). IsShardAt count cores (from + 0) base size y) (ap (λ found. unwrap_or found (restarted s)) e)
    (record { number_is = at.number_is; count = at.count; cores_known = at.cores_known; base_is = at.base_is; size_is = at.size_is })
each_restarted cores count base size from (s ∷ ss) each (suc i) x e =
    subst (λ (k : ℕ). IsShardAt count cores k base size x) (omega arith)
    (each_restarted cores count base size (suc from) ss (λ j y h. subst (λ (k : ℕ). IsShardAt count cores k base size y) (omega arith) (each (suc j) y h)) i x e)

has_restarted : (l1i : Bool) (shards : List ShardState) → EachHas l1i shards → EachHas l1i (map restarted shards)
has_restarted l1i [] each i x e = each i x e
has_restarted l1i (s ∷ ss) each zero x e = ap (λ found. have_l1i (unwrap_or found (restarted s)).caches) (sym e) ∙ each 0 s refl
has_restarted l1i (s ∷ ss) each (suc i) x e = has_restarted l1i ss (λ j y h. each (suc j) y h) i x e

pub shards_restarted : (cores base size : ℕ) (shards : List ShardState) → AreShardsOf cores shards base size → AreShardsOf cores (map restarted shards) base size
shards_restarted cores base size shards are = record {
  some = subst (λ (count : ℕ). 0 < count) (sym (length-map shards restarted)) are.some;
  each = subst (λ (count : ℕ). (i : ℕ) (x : ShardState) → slice_get (map restarted shards) i ≡ Some x → IsShardAt count cores i base size x) (sym (length-map shards restarted))
      (λ i x e. subst (λ (k : ℕ). IsShardAt (length shards) cores k base size x) (omega arith)
      (each_restarted cores (length shards) base size 0 shards (λ j y h. subst (λ (k : ℕ). IsShardAt (length shards) cores k base size y) (omega arith) (are.each j y h)) i x e));
  alike = alike_by (l1i_in shards) (map restarted shards) (subst (λ (count : ℕ). 0 < count) (sym (length-map shards restarted)) are.some) (has_restarted (l1i_in shards) shards are.alike);
}

-- they have instruction caches where they had
pub restarted_l1i : (cores base size : ℕ) (shards : List ShardState) → AreShardsOf cores shards base size → l1i_in (map restarted shards) ≡ l1i_in shards
restarted_l1i cores base size shards are =
    first_has (l1i_in shards) (map restarted shards) (subst (λ (count : ℕ). 0 < count) (sym (length-map shards restarted)) are.some) (has_restarted (l1i_in shards) shards are.alike)

-- the stamps and the last stamps are forgotten
pub port_restarted : (p : ShardPortState) (shards : List ShardState) (stamps : List ℕ) → IsShardPort p → shards ≡ map restarted p.world.shards → length stamps ≡ length p.world.stamps
    → IsShardPort (record { world = record { shards = shards; stamps = stamps }; core = p.core })
port_restarted p shards stamps port is same =
    port_of (record { shards = shards; stamps = stamps }) p.core (length p.world.stamps) (base_of p.world) (size_of p.world)
    (subst (λ (ss : List ShardState). AreShardsOf (length p.world.stamps) ss (base_of p.world) (size_of p.world)) (sym is)
    (shards_restarted (length p.world.stamps) (base_of p.world) (size_of p.world) p.world.shards port.shards)) same port.core_is

-- ---- an access

module _ (w : ShardWorld) (core start : ℕ) (request : Request) where
  abbrev pub n : ℕ
  n = bank_of (length w.shards) request

  pub shard_there : 0 < length w.shards → slice_get w.shards n ≡ Some (shard_for w.shards request)
  shard_there some = slice_get-get_or w.shards n no_shard (mod-lt (line_of request) some)

  -- what a port may be asked can be asked of the shard
  pub can_serve : IsShardPort (record { world = w; core = core }) → IsServable (base_of w) (size_of w) (l1i_of w) request → CanServe (shard_for w.shards request) request
  unfolding CanServe
  can_serve port servable =
      let at = port.shards.each n (shard_for w.shards request) (shard_there port.shards.some) in (
        subst (λ (l1i : Bool). IsServable (shard_for w.shards request).base (shard_for w.shards request).size l1i request) (sym (port.shards.alike n (shard_for w.shards request) (shard_there port.shards.some)))
            (subst (λ (base : ℕ). IsServable base (shard_for w.shards request).size (l1i_of w) request) (sym at.base_is)
            (subst (λ (size : ℕ). IsServable (base_of w) size (l1i_of w) request) (sym at.size_is) servable)),
        ap (λ (count : ℕ). line_of request % count) at.count ∙ sym at.number_is,
      )

  abbrev pub answered : Entry → ShardState → Entry × ShardWorld
  answered e s = (e, record { shards = slice_set w.shards n s; stamps = slice_set w.stamps core e.stamp })

  -- what the shard answers is what the world does
  pub served_is : (entry : Entry) (left : ShardState) → IsServedBy (shard_for w.shards request) core start (slice_index w.stamps core) request entry
      → left ≡ shard_after (shard_for w.shards request) entry
      → (entry, record { shards = slice_set w.shards n left; stamps = slice_set w.stamps core entry.stamp }) ≡ shards_serve w core start request
  unfolding shards_serve
  served_is entry left served is =
      let shard = shard_for w.shards request in
      let latest = slice_index w.stamps core in
      let same : recorded_by_shard shard latest core start request ≡ entry =
      ap (λ (c : ℕ). recorded_by_shard shard latest c start request) (sym served.core_is)
      ∙ (ap (λ (t : ℕ). recorded_by_shard shard latest entry.core t request) (sym served.start_is)
      ∙ (ap (λ (r : Request). recorded_by_shard shard latest entry.core entry.start r) (sym served.request_is)
      ∙ recorded_is shard latest entry served.stamp served.reply served.outcome))
      in
      ap (λ (s : ShardState). answered entry s) is ∙ ap (λ (e : Entry). answered e (shard_after shard e)) (sym same)

  -- the greatest stamp grows by one at most
  pub greatest_after : (entry : Entry) (left : ShardState) → 0 < length w.shards → IsServedBy (shard_for w.shards request) core start (slice_index w.stamps core) request entry → left.last ≡ entry.stamp
      → greatest_stamp (record { shards = slice_set w.shards n left; stamps = slice_set w.stamps core entry.stamp }) ≤ greatest_stamp w + 1
  greatest_after entry left some served last =
      let lasts = map (λ (shard : ShardState). shard.last) w.shards in
      let set_last : map (λ (shard : ShardState). shard.last) (slice_set w.shards n left) ≡ slice_set lasts n left.last = map-set (λ (shard : ShardState). shard.last) w.shards n left in
      omega (arith, served.stamp, last, ap greatest set_last, greatest_set w.stamps core entry.stamp, greatest_set lasts n left.last, at_most_greatest w.stamps core, last_at_most w.shards n)

-- the stamp of the chosen core
pub stamp_is : (stamps : List ℕ) (core at stamp : ℕ) → core < length stamps → at ≡ core → stamp ≡ get_or stamps at stamp → stamp ≡ slice_index stamps core
stamp_is stamps core at stamp below is here =
    here ∙ (ap (λ (k : ℕ). get_or stamps k stamp) is ∙ get_or_default stamps core stamp 0 below)
