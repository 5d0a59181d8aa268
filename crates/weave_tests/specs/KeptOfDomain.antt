-- What a user of a domain keeps of it, to see what it may do next.
use Rattle.std.specs.Prelude.{◌≡◌, ◌≤◌, ◌^◌, ℕ, true, List, Option, Some, slice_get}
use Rattle.zs_num.specs.declared.time.Word.{Word}
use Rattle.zs_num.specs.declared.time.Word.TheVariants.{Bound, Exact}
use Rattle.event_graph.specs.declared.event.Event.{Event}
use Rattle.domain_map.specs.declared.crossing.Crossing.{Crossing}
use Rattle.domain_map.specs.Domains.{Partition}
use Rattle.weave_core.specs.DomainCalls.{DomainValue, at_first}
use Rattle.weave_core.specs.DomainMachine.{cycle_of, is_exact, word_at}
use Rattle.weave_tests.specs.declared.server.Server.{Server}

-- for each finish that the domain knows the parent has it
pub record HasTold (crossings : List Crossing) (known : List Word) (told : List (Option ℕ)) : Type 0 where
  pub each : (number : ℕ) (x : Crossing) → slice_get crossings number ≡ Some x → is_exact (word_at known number) ≡ true
      → slice_get told x.parent ≡ Some (Some (cycle_of (word_at known number)))

-- no server is slow, and each is free by a cycle
pub record AreCalm (busy : ℕ) (servers : List Server) : Type 0 where
  pub each : (i : ℕ) (s : Server) → slice_get servers i ≡ Some s → (s.occupancy ≤ 4194304) × (s.free ≤ busy)

-- a domain that has fired nothing and was told nothing, and whose servers are fast and soon free
pub record IsNew (events : List Event) (p : Partition) (domain : ℕ) (v : DomainValue Server) : Type 0 where
  pub comps : List Server
  pub is : v ≡ record { domain = domain; events = events; partition = p; own = at_first p; comps = comps }
  pub calm : AreCalm 4194304 comps

-- which domain it is, the words that it was told, the finishes that it was told of parents, its floor, and a cycle by
-- which its servers are free
pub record KeptOfDomain (events : List Event) (p : Partition) (domain : ℕ) (v : DomainValue Server) (known : List Word) (told : List (Option ℕ)) (floor busy : ℕ) : Type 0 where
  pub domain_is : v.domain ≡ domain
  pub events_are : v.events ≡ events
  pub partition_is : v.partition ≡ p
  pub known_are : known ≡ v.own.known
  pub told_are : HasTold p.crossings v.own.known told
  pub floor_is : floor ≡ v.own.floor
  pub floor_small : floor ≤ 2 ^ 62
  pub calm : AreCalm busy v.comps

-- a word that may follow another, where the parent doesn't finish before a bound
abbrev pub Rises : (bound : ℕ) → (was word : Word) → Type 0
Rises bound (Bound a) (Bound b) = a ≤ b
Rises bound (Exact f) (Bound b) = ⊥
Rises bound (Bound a) (Exact f) = bound ≤ f
Rises bound (Exact g) (Exact f) = f ≡ g

-- the finish that is known of a parent after a word
abbrev pub told_after : Option ℕ → Word → Option ℕ
told_after told (Bound b) = told
told_after told (Exact f) = Some f
