-- What an L1 serves alone, by what it has of the line.
use Rattle.std.proofs.Common.{◌≡◌, ℕ, true, false, Option, Some, None, refl, ap}
use Rattle.std.specs.Option.{option_map_or}
use Rattle.std.specs.Prelude.{is_some}
use Rattle.zs_num.specs.Request.{line_at}
use Rattle.zs_num.specs.declared.request.Request.TheVariants.{Load, Store, Fetch}
use Rattle.flat_memory.specs.FlatMemory.{number_in}
use Rattle.l1_cache.specs.L1State.{Copy, L1State, copy_at, has_instructions, instruction_used_in, is_private, kept_first_in, may_write, number_of, place_in_line, private_after, private_reply, stored, used_in}

module _ (l1 : L1State) (addr width : ℕ) where
  pub load_none : copy_at l1 (line_at addr) ≡ None → is_private l1 (Load width addr) ≡ false
  unfolding is_private
  load_none none = ap (λ (o : Option Copy). is_some o) none

  module _ (copy : Copy) (there : copy_at l1 (line_at addr) ≡ Some copy) where
    pub load_some : is_private l1 (Load width addr) ≡ true
    unfolding is_private
    load_some = ap (λ (o : Option Copy). is_some o) there

    pub load_reply : private_reply l1 (Load width addr) ≡ number_in copy.bytes (place_in_line addr) width
    unfolding private_reply
    load_reply = ap (λ (o : Option Copy). number_of o (place_in_line addr) width) there

  pub load_after : private_after l1 (Load width addr) ≡ used_in (line_at addr) l1
  unfolding private_after
  load_after = refl

module _ (l1 : L1State) (addr width value : ℕ) where
  pub store_none : copy_at l1 (line_at addr) ≡ None → is_private l1 (Store width addr value) ≡ false
  unfolding is_private
  store_none none = ap (λ (o : Option Copy). may_write o) none

  pub store_reply : private_reply l1 (Store width addr value) ≡ 0
  unfolding private_reply
  store_reply = refl

  module _ (copy : Copy) (there : copy_at l1 (line_at addr) ≡ Some copy) where
    pub store_by : is_private l1 (Store width addr value) ≡ copy.free
    unfolding is_private
    store_by = ap (λ (o : Option Copy). may_write o) there

    pub store_after : private_after l1 (Store width addr value) ≡ kept_first_in (line_at addr) (stored (place_in_line addr) width value copy) l1
    unfolding private_after
    store_after = ap (λ (o : Option Copy). option_map_or (λ c. kept_first_in (line_at addr) (stored (place_in_line addr) width value c) l1) o l1) there

module _ (l1 : L1State) (addr : ℕ) where
  pub fetch_by : is_private l1 (Fetch addr) ≡ has_instructions l1 (line_at addr)
  unfolding is_private
  fetch_by = refl

  pub fetch_reply : private_reply l1 (Fetch addr) ≡ 0
  unfolding private_reply
  fetch_reply = refl

  pub fetch_after : private_after l1 (Fetch addr) ≡ instruction_used_in (line_at addr) l1
  unfolding private_after
  fetch_after = refl
