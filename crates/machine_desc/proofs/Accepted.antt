-- A document in which no check fails describes a machine whose numbers are in their ranges.
use Rattle.std.proofs.Common.{◌≡◌, ℕ, zero, suc, ◌+◌, ◌<◌, ◌≤◌, ◌^◌, ◌==◌, Bool, true, false, cond, ◌&&◌, ◌||◌, ℤ, List, ◌++◌, codes, length, All, Some, None, inl, inr, is_some, refl, ◌∙◌, subst, arith}
use Rattle.std.specs.Prelude.{bytes_eq, nat_lt, IfSome}
use Rattle.std.specs.List.{find}
use Rattle.std.proofs.lemmas.Bool.{and_from, cases_Bool, le-leb}
use Rattle.std.proofs.lemmas.List.{length-append, length-map, get_or_append_left, get_or-append-add}
use Rattle.std.proofs.lemmas.List.Elements.{All-map}
use Rattle.toml.specs.Data.{Members}
use Rattle.machine_desc.specs.Keys.{KeyPath, Check, Ratio, range_check, pages_check, at_least_check, array_check, top, at, top_checks, memory_checks, own_cache_checks, l1_checks, l1i_checks, l2_checks, controller_checks, domain_checks, mesh_checks, dram_checks, pipe_checks, sets_ratio}
use Rattle.machine_desc.specs.Text.{natural, integer_at, value_at, version_of, integers_at}
use Rattle.machine_desc.specs.Machine.{IsBetween, IsMemory, IsL1, IsL2, IsControllers, IsDomains, IsMesh, IsDram, IsPipe, IsMachine}
use Rattle.machine_desc.specs.Description.{is_version, has_l1i, has_mesh, has_dram, has_pipe, checks_if, checks_of, ratios_of, is_named, checks_refusal, ratio_refusal, ratios_refusal, written_domains, domain_refusal, names_refusal, document_refusal, memory_of, own_cache_of, l1_of, l1i_of, l2_of, controllers_of, domains_of, mesh_numbers, mesh_of, dram_numbers, dram_of, pipe_numbers, pipe_of, numbers_of}
use Rattle.machine_desc.proofs.Valid.{IsInItsRange, checks_none-append, check_none, integer_holds, share_holds, at_least_holds, array_holds, ratio_none, ratio_holds, domains_hold, first_none, second_none, map_none}

-- the check and the ratio of this key
abbrev is_check_of : KeyPath → Check → Bool
is_check_of key c = is_named key.table key.name c

abbrev is_ratio_of : KeyPath → Ratio → Bool
is_ratio_of key r = bytes_eq r.key.table key.table && bytes_eq r.key.name key.name

-- the lists of checks of a document, none of which finds anything
record Passed (document : Members) : Type 0 where
  pub top : checks_refusal document top_checks ≡ None
  pub memory : checks_refusal document memory_checks ≡ None
  pub l1 : checks_refusal document l1_checks ≡ None
  pub l1i : checks_refusal document (checks_if (has_l1i document) l1i_checks) ≡ None
  pub l2 : checks_refusal document l2_checks ≡ None
  pub controllers : checks_refusal document controller_checks ≡ None
  pub domains : checks_refusal document domain_checks ≡ None
  pub mesh : checks_refusal document (checks_if (has_mesh document) mesh_checks) ≡ None
  pub dram : checks_refusal document (checks_if (has_dram document) dram_checks) ≡ None
  pub pipe : checks_refusal document (checks_if (has_pipe document) pipe_checks) ≡ None

-- a document whose checks find nothing is of a version that there is
is_there : (document : Members) → checks_refusal document (checks_of document) ≡ None → is_version (version_of document) ≡ true
unfolding checks_of
is_there document h =
    elim (cases_Bool (is_version (version_of document))) [
      | inl is ↦ is
      | inr other ↦
          let holds = integer_holds document (top (codes "version")) (record { low = 1; high = 3; step = 1 }) (first_none _ _ (rw other at h)) in
          and_from _ _ (le-leb _ _ holds.low) (le-leb _ _ holds.high)
    ]

passed : (document : Members) → checks_refusal document (checks_of document) ≡ None → Passed document
unfolding checks_of
passed document h =
    let to_memory = top_checks ++ memory_checks in
    let to_l1 = to_memory ++ l1_checks in
    let l1i_there = checks_if (has_l1i document) l1i_checks in
    let to_l1i = to_l1 ++ l1i_there in
    let to_l2 = to_l1i ++ l2_checks in
    let to_controllers = to_l2 ++ controller_checks in
    let to_domains = to_controllers ++ domain_checks in
    let mesh_there = checks_if (has_mesh document) mesh_checks in
    let to_mesh = to_domains ++ mesh_there in
    let dram_there = checks_if (has_dram document) dram_checks in
    let to_dram = to_mesh ++ dram_there in
    let pipe_there = checks_if (has_pipe document) pipe_checks in
    let all : checks_refusal document (to_dram ++ pipe_there) ≡ None = rw (is_there document h) at h in
    let (but_pipe, pipe) = checks_none-append document to_dram pipe_there all in
    let (but_dram, dram) = checks_none-append document to_mesh dram_there but_pipe in
    let (but_mesh, mesh) = checks_none-append document to_domains mesh_there but_dram in
    let (but_domains, domains) = checks_none-append document to_controllers domain_checks but_mesh in
    let (but_controllers, controllers) = checks_none-append document to_l2 controller_checks but_domains in
    let (but_l2, l2) = checks_none-append document to_l1i l2_checks but_controllers in
    let (but_l1i, l1i) = checks_none-append document to_l1 l1i_there but_l2 in
    let (but_l1, l1) = checks_none-append document to_memory l1_checks but_l1i in
    let (top, memory) = checks_none-append document top_checks memory_checks but_l1 in
    record {
      top = top;
      memory = memory;
      l1 = l1;
      l1i = l1i;
      l2 = l2;
      controllers = controllers;
      domains = domains;
      mesh = mesh;
      dram = dram;
      pipe = pipe;
    }

-- what a list of checks that finds nothing says of a key, which is found by its name
module _ (document : Members) (cs : List Check) (none : checks_refusal document cs ≡ None) where
  between : (key : KeyPath) (low high : ℕ) → find (is_check_of key) cs ≡ Some (range_check key low high) → IsBetween low (integer_at document key) high
  between key low high found =
      let holds = integer_holds document key (record { low = low; high = high; step = 1 }) (check_none document cs (is_check_of key) _ none found) in
      (holds.low, holds.high)

  pages : (key : KeyPath) (low high : ℕ) → find (is_check_of key) cs ≡ Some (pages_check key low high) → IsInItsRange (record { low = low; high = high; step = 4096 }) (integer_at document key)
  pages key low high found = integer_holds document key _ (check_none document cs (is_check_of key) _ none found)

  at_least : (key : KeyPath) (low high : ℕ) (least : KeyPath) → find (is_check_of key) cs ≡ Some (at_least_check key low high least) → IsBetween (integer_at document least) (integer_at document key) high
  at_least key low high least found =
      let holds = at_least_holds document key (record { low = low; high = high; step = 1 }) least (check_none document cs (is_check_of key) _ none found) in
      (holds.1, holds.0.high)

  listed : (key count : KeyPath) → find (is_check_of key) cs ≡ Some (array_check key count) → length (integers_at document key) ≡ integer_at document count
  listed key count found = array_holds document key count (check_none document cs (is_check_of key) _ none found)

memory_holds : (document : Members) → Passed document → IsMemory (integer_at document (top (codes "cores"))) (memory_of document)
unfolding memory_checks memory_of
memory_holds document p =
    let base = pages document memory_checks p.memory (at (codes "memory") (codes "base")) 0 (2 ^ 40) refl in
    let size = pages document memory_checks p.memory (at (codes "memory") (codes "size")) 4096 (2 ^ 28) refl in
    let stack_key = at (codes "memory") (codes "stack") in
    let stack = share_holds document stack_key _ (top (codes "cores")) (at (codes "memory") (codes "size")) (check_none document memory_checks (is_check_of stack_key) _ p.memory refl) in
    record {
      base = base.high;
      base_page = base.step;
      size = (size.low, size.high);
      size_page = size.step;
      stack = (stack.0.low, stack.0.high);
      stack_unit = stack.0.step;
      stacks = stack.1;
    }

-- the caches of the cores' own
own_cache_holds : (document : Members) (table : List ℕ) → checks_refusal document (own_cache_checks table) ≡ None
    → find (is_check_of (at table (codes "sets"))) (own_cache_checks table) ≡ Some (range_check (at table (codes "sets")) 1 4096)
    → find (is_check_of (at table (codes "ways"))) (own_cache_checks table) ≡ Some (range_check (at table (codes "ways")) 1 16)
    → find (is_check_of (at table (codes "latency"))) (own_cache_checks table) ≡ Some (range_check (at table (codes "latency")) 1 65536)
    → ratio_refusal document (sets_ratio table) ≡ None
    → IsL1 (integer_at document (at (codes "l2") (codes "banks"))) (own_cache_of document table)
unfolding own_cache_of
own_cache_holds document table none sets ways latency ratio = let in_range = between document (own_cache_checks table) none in record {
  sets = in_range (at table (codes "sets")) 1 4096 sets;
  ratio = ratio_holds document _ ratio;
  ways = in_range (at table (codes "ways")) 1 16 ways;
  latency = in_range (at table (codes "latency")) 1 65536 latency;
}

-- the ratio of a cache that is there holds
ratio_of_cache : (document : Members) (table : List ℕ) → ratios_refusal document (ratios_of document) ≡ None
    → find (is_ratio_of (at table (codes "sets"))) (ratios_of document) ≡ Some (sets_ratio table) → ratio_refusal document (sets_ratio table) ≡ None
ratio_of_cache document table none found = ratio_none document (ratios_of document) (is_ratio_of (at table (codes "sets"))) _ none found

l1_holds : (document : Members) → Passed document → ratios_refusal document (ratios_of document) ≡ None → IsL1 (integer_at document (at (codes "l2") (codes "banks"))) (l1_of document)
unfolding own_cache_checks ratios_of
l1_holds document p r =
    own_cache_holds document (codes "l1") p.l1 refl refl refl
    (ratio_of_cache document (codes "l1") r (elim (cases_Bool (has_l1i document)) [ inl has ↦ rw has refl | inr none ↦ rw none refl ]))

-- an instruction cache, where there is one
l1i_holds_if : (document : Members) (b : Bool) → has_l1i document ≡ b → checks_refusal document (checks_if b l1i_checks) ≡ None → ratios_refusal document (ratios_of document) ≡ None
    → IfSome (cond b (Some (own_cache_of document (codes "l1i"))) None) (IsL1 (integer_at document (at (codes "l2") (codes "banks"))))
unfolding own_cache_checks ratios_of
l1i_holds_if document false e none r = tt
l1i_holds_if document true e none r =
    own_cache_holds document (codes "l1i") none refl refl refl (ratio_of_cache document (codes "l1i") r (rw e refl))

l1i_holds : (document : Members) → Passed document → ratios_refusal document (ratios_of document) ≡ None → IfSome (l1i_of document) (IsL1 (integer_at document (at (codes "l2") (codes "banks"))))
unfolding l1i_of
l1i_holds document p r = l1i_holds_if document (has_l1i document) refl p.l1i r

-- before version 3 a document has no table that it may have, and the instruction caches go by the version
none_early : (version : ℕ) (there : Bool) → version < 3 → ((version == 3) && there) ≡ false
none_early zero there early = refl
none_early (suc zero) there early = refl
none_early (suc (suc zero)) there early = refl
none_early (suc (suc (suc n))) there early = absurd (omega arith)

by_version : (version : ℕ) (there : Bool) → version < 3 → ((version == 2) || ((version == 3) && there)) ≡ nat_lt 1 version
by_version zero there early = refl
by_version (suc zero) there early = refl
by_version (suc (suc zero)) there early = refl
by_version (suc (suc (suc n))) there early = absurd (omega arith)

is_some_if : {A : Type 0} (there : Bool) (x : A) → is_some (cond there (Some x) None) ≡ there
is_some_if true x = refl
is_some_if false x = refl

l1i_there : (document : Members) → version_of document < 3 → is_some (l1i_of document) ≡ nat_lt 1 (version_of document)
unfolding l1i_of
l1i_there document early =
    is_some_if (has_l1i document) (own_cache_of document (codes "l1i"))
    ∙ by_version (version_of document) (is_some (value_at document (top (codes "l1i")))) early

l2_holds : (document : Members) → Passed document → ratios_refusal document (ratios_of document) ≡ None → IsL2 (l2_of document)
unfolding l2_checks ratios_of l2_of
l2_holds document p r = let in_range = between document l2_checks p.l2 in record {
  banks = in_range (at (codes "l2") (codes "banks")) 1 64 refl;
  sets = in_range (at (codes "l2") (codes "sets")) 1 65536 refl;
  ratio = ratio_holds document _ (ratio_of_cache document (codes "l2") r (elim (cases_Bool (has_l1i document)) [ inl has ↦ rw has refl | inr none ↦ rw none refl ]));
  ways = in_range (at (codes "l2") (codes "ways")) 1 32 refl;
  latency = in_range (at (codes "l2") (codes "latency")) 1 65536 refl;
  remote = (in_range (at (codes "l2") (codes "remote")) 0 65536 refl).1;
  fill = in_range (at (codes "l2") (codes "fill")) 1 65536 refl;
  occupancy = in_range (at (codes "l2") (codes "occupancy")) 1 65536 refl;
}

controllers_hold : (document : Members) → Passed document → IsControllers (controllers_of document)
unfolding controller_checks controllers_of
controllers_hold document p = let in_range = between document controller_checks p.controllers in record {
  count = in_range (at (codes "controllers") (codes "count")) 1 16 refl;
  read = in_range (at (codes "controllers") (codes "read")) 1 65536 refl;
  write = in_range (at (codes "controllers") (codes "write")) 1 65536 refl;
  occupancy = in_range (at (codes "controllers") (codes "occupancy")) 1 65536 refl;
}

-- what holds of a part of a machine where the checks of its table find nothing, where the table is there
if_there : {A : Type 0} (document : Members) (P : A → Type 0) (part : A) (checks : List Check) (there : Bool) → (checks_refusal document checks ≡ None → P part)
    → checks_refusal document (checks_if there checks) ≡ None → IfSome (cond there (Some part) None) P
if_there document P part checks true holds none = holds none
if_there document P part checks false holds none = tt

mesh_numbers_hold : (document : Members) → checks_refusal document mesh_checks ≡ None → IsMesh (mesh_numbers document)
unfolding mesh_checks mesh_numbers
mesh_numbers_hold document none = let in_range = between document mesh_checks none in record {
  width = in_range (at (codes "mesh") (codes "width")) 1 8 refl;
  height = in_range (at (codes "mesh") (codes "height")) 1 8 refl;
  hop = in_range (at (codes "mesh") (codes "hop")) 1 256 refl;
  occupancy = in_range (at (codes "mesh") (codes "occupancy")) 1 256 refl;
}

dram_numbers_hold : (document : Members) → checks_refusal document dram_checks ≡ None → IsDram (dram_numbers document)
unfolding dram_checks dram_numbers
dram_numbers_hold document none =
    let in_range = between document dram_checks none in
    let no_less = at_least document dram_checks none in
    record {
      banks = in_range (at (codes "dram") (codes "banks")) 1 16 refl;
      row_lines = in_range (at (codes "dram") (codes "row_lines")) 1 4096 refl;
      hit = in_range (at (codes "dram") (codes "hit")) 1 65536 refl;
      closed = no_less (at (codes "dram") (codes "closed")) 1 65536 (at (codes "dram") (codes "hit")) refl;
      conflict = no_less (at (codes "dram") (codes "conflict")) 1 65536 (at (codes "dram") (codes "closed")) refl;
    }

pipe_numbers_hold : (document : Members) → checks_refusal document pipe_checks ≡ None → IsPipe (pipe_numbers document)
unfolding pipe_checks pipe_numbers
pipe_numbers_hold document none = let in_range = between document pipe_checks none in record {
  mul = in_range (at (codes "pipe") (codes "mul")) 1 64 refl;
  div = in_range (at (codes "pipe") (codes "div")) 1 128 refl;
  entries = in_range (at (codes "pipe") (codes "entries")) 1 4096 refl;
  penalty = (in_range (at (codes "pipe") (codes "penalty")) 0 64 refl).1;
}

-- the parts that only a machine of version 3 may have
record HasParts (document : Members) : Type 0 where
  pub mesh : IfSome (mesh_of document) IsMesh
  pub dram : IfSome (dram_of document) IsDram
  pub pipe : IfSome (pipe_of document) IsPipe
  pub without_mesh : version_of document < 3 → mesh_of document ≡ None
  pub without_dram : version_of document < 3 → dram_of document ≡ None
  pub without_pipe : version_of document < 3 → pipe_of document ≡ None

parts_hold : (document : Members) → Passed document → HasParts document
unfolding mesh_of dram_of pipe_of
parts_hold document p =
    record {
      mesh = if_there document IsMesh (mesh_numbers document) mesh_checks (has_mesh document) (mesh_numbers_hold document) p.mesh;
      dram = if_there document IsDram (dram_numbers document) dram_checks (has_dram document) (dram_numbers_hold document) p.dram;
      pipe = if_there document IsPipe (pipe_numbers document) pipe_checks (has_pipe document) (pipe_numbers_hold document) p.pipe;
      without_mesh = λ early. rw (none_early (version_of document) (is_some (value_at document (top (codes "mesh")))) early) refl;
      without_dram = λ early. rw (none_early (version_of document) (is_some (value_at document (top (codes "dram")))) early) refl;
      without_pipe = λ early. rw (none_early (version_of document) (is_some (value_at document (top (codes "pipe")))) early) refl;
    }

-- as many domains are written as there are banks and controllers
banks_listed : (document : Members) → Passed document → length (integers_at document (at (codes "domains") (codes "banks"))) ≡ integer_at document (at (codes "l2") (codes "banks"))
unfolding domain_checks
banks_listed document p = listed document domain_checks p.domains (at (codes "domains") (codes "banks")) (at (codes "l2") (codes "banks")) refl

controllers_listed : (document : Members) → Passed document → length (integers_at document (at (codes "domains") (codes "controllers"))) ≡ integer_at document (at (codes "controllers") (codes "count"))
unfolding domain_checks
controllers_listed document p = listed document domain_checks p.domains (at (codes "domains") (codes "controllers")) (at (codes "controllers") (codes "count")) refl

pub domains_short : (document : Members) → checks_refusal document (checks_of document) ≡ None → length (written_domains document) ≤ 80
unfolding l2_checks controller_checks written_domains
domains_short document h =
    let p = passed document h in
    let banks = between document l2_checks p.l2 (at (codes "l2") (codes "banks")) 1 64 refl in
    let controllers = between document controller_checks p.controllers (at (codes "controllers") (codes "count")) 1 16 refl in
    omega (arith, length-append (integers_at document (at (codes "domains") (codes "banks"))) (integers_at document (at (codes "domains") (codes "controllers"))), banks_listed document p, controllers_listed document p, banks.1, controllers.1)

-- what holds of each element of a joined list holds in both parts
all_first : {X : Type 0} (P : X → Type 0) (xs ys : List X) → All P (xs ++ ys) → All P xs
all_first P xs ys h = λ k d within.
    subst P (get_or_append_left xs ys d k within) (h k d (rw length-append (omega arith)))

all_second : {X : Type 0} (P : X → Type 0) (xs ys : List X) → All P (xs ++ ys) → All P ys
all_second P xs ys h = λ k d within.
    subst P (get_or-append-add xs ys k d) (h (length xs + k) d (rw length-append (omega arith)))

-- every written domain is below their count
domains_below : (document : Members) → domain_refusal document ≡ None → All (λ z. natural z < integer_at document (at (codes "domains") (codes "count"))) (written_domains document)
unfolding domain_refusal
domains_below document h = domains_hold _ (written_domains document) (map_none _ _ h)

domains_all : (document : Members) → Passed document → domain_refusal document ≡ None
    → IsDomains (integer_at document (at (codes "l2") (codes "banks"))) (integer_at document (at (codes "controllers") (codes "count"))) (domains_of document)
unfolding domain_checks written_domains domains_of
domains_all document p below =
    let banks = integers_at document (at (codes "domains") (codes "banks")) in
    let controllers = integers_at document (at (codes "domains") (codes "controllers")) in
    let count = integer_at document (at (codes "domains") (codes "count")) in
    let is_below = λ (n : ℕ). n < count in
    let is_below_count = λ (z : ℤ). natural z < count in
    let each = domains_below document below in
    record {
      count = between document domain_checks p.domains (at (codes "domains") (codes "count")) 1 64 refl;
      banks_length = length-map banks natural ∙ banks_listed document p;
      banks_below = All-map is_below natural banks (all_first is_below_count banks controllers each);
      controllers_length = length-map controllers natural ∙ controllers_listed document p;
      controllers_below = All-map is_below natural controllers (all_second is_below_count banks controllers each);
    }

-- the machine of a document in which no check fails
pub accepted : (document : Members) → document_refusal document ≡ None → IsMachine (numbers_of document)
unfolding top_checks document_refusal numbers_of l2_of controllers_of
accepted document none =
    let known = first_none (checks_refusal document (checks_of document)) _ none in
    let rest = second_none (checks_refusal document (checks_of document)) _ none in
    let rest' = second_none (names_refusal document (checks_of document)) _ rest in
    let ratio = first_none (ratios_refusal document (ratios_of document)) _ rest' in
    let domain = second_none (ratios_refusal document (ratios_of document)) _ rest' in
    let p = passed document known in
    let parts = parts_hold document p in
    let in_range = between document top_checks p.top in
    record {
      version = in_range (top (codes "version")) 1 3 refl;
      cores = in_range (top (codes "cores")) 1 256 refl;
      interval = in_range (top (codes "interval")) 1 10000 refl;
      intervals = in_range (top (codes "intervals")) 1 1048576 refl;
      memory = memory_holds document p;
      l1 = l1_holds document p ratio;
      l1i = l1i_holds document p ratio;
      has_l1i = l1i_there document;
      l2 = l2_holds document p ratio;
      controllers = controllers_hold document p;
      domains = domains_all document p domain;
      mesh = parts.mesh;
      dram = parts.dram;
      pipe = parts.pipe;
      without_mesh = parts.without_mesh;
      without_dram = parts.without_dram;
      without_pipe = parts.without_pipe;
    }
