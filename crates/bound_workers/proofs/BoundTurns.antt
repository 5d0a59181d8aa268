-- The turns of a core do not see the stamps of its accesses.
use Rattle.std.proofs.Common.{◌≡◌, ℕ, ◌+◌, List, [], ◌∷◌, ◌++◌, length, map, Some, refl, sym, ◌∙◌, ap, subst, arith}
use Rattle.std.specs.Prelude.{option_to_list}
use Rattle.std.specs.List.{fold}
use Rattle.zs_num.specs.declared.entry.Entry.{Entry}
use Rattle.zs_num.specs.declared.request.Request.{Request}
use Rattle.elf_load.specs.MemoryImage.{MemoryImage}
use Rattle.event_graph.specs.AccessPaths.{path_of}
use Rattle.event_graph.specs.declared.access_path.AccessPath.{AccessPath}
use Rattle.machine_desc.specs.declared.machine.Machine.{Machine}
use Rattle.noc_mesh.specs.NetTiming.{net_time}
use Rattle.rv_core.specs.Step.{answered, console_byte}
use Rattle.access_record.specs.Restamped.{AreSameButStamps, unstamped}
use Rattle.access_record.proofs.Restamps.{same_length}
use Rattle.bound_core.specs.History.{AreTurnsOf, after_turn}
use Rattle.bound_core.specs.TimedCore.{TimedCore, asks, core_after_access, ran_to}
use Rattle.bound_records.specs.CoreRuns.{access_time_of}

first_same : (e f : Entry) (es fs : List Entry) → AreSameButStamps (e ∷ es) (f ∷ fs) → unstamped f ≡ unstamped e
first_same e f es fs same = let both : unstamped f ∷ map unstamped fs ≡ unstamped e ∷ map unstamped es = same in cc

rest_same : (e f : Entry) (es fs : List Entry) → AreSameButStamps (e ∷ es) (f ∷ fs) → AreSameButStamps es fs
rest_same e f es fs same = let both : unstamped f ∷ map unstamped fs ≡ unstamped e ∷ map unstamped es = same in cc

-- nor does the time of an access
pub time_of_unstamped : (path : AccessPath) (e : Entry) → net_time path (unstamped e) ≡ net_time path e
time_of_unstamped path e = refl

module _ (time : Entry → ℕ) (stampless : (e : Entry) → time (unstamped e) ≡ time e) where
  same_access : (e : Entry) (c : TimedCore) → core_after_access time (unstamped e) c ≡ core_after_access time e c
  unfolding core_after_access
  same_access e c =
      ap (λ (n : ℕ). let x : TimedCore = record { core = answered e.reply c.core; clock = c.clock + n; instructions = c.instructions; console = c.console ++ option_to_list (console_byte c.core.instruction e.reply); pace = c.pace } in x) (stampless e)

  module _ (image : MemoryImage) (end : ℕ) where
    after_same : (c : TimedCore) (e f : Entry) → unstamped f ≡ unstamped e → after_turn time image end c f ≡ after_turn time image end c e
    after_same c e f same =
        sym (same_access f (ran_to image end c)) ∙ (ap (λ (x : Entry). core_after_access time x (ran_to image end c)) same ∙ same_access e (ran_to image end c))

    pub same_turns : (entries others : List Entry) (c : TimedCore) → AreSameButStamps entries others → AreTurnsOf time image end c entries → AreTurnsOf time image end c others
    same_turns [] [] c same turns = turns
    same_turns [] (x ∷ others) c same turns = absurd (let size = same_length [] (x ∷ others) same in omega (arith, size))
    same_turns (e ∷ entries) [] c same turns = absurd (let size = same_length (e ∷ entries) [] same in omega (arith, size))
    same_turns (e ∷ entries) (x ∷ others) c same turns =
        let one : unstamped x ≡ unstamped e = first_same e x entries others same in
        let later : AreTurnsOf time image end (after_turn time image end c e) others = same_turns entries others (after_turn time image end c e) (rest_same e x entries others same) turns.2 in (
          turns.0 ∙ ap (λ (y : Entry). Some y.request) (sym one),
          ap (λ (y : Entry). y.start) one ∙ turns.1,
          subst (λ (d : TimedCore). AreTurnsOf time image end d others) (sym (after_same c e x one)) later,
        )

    pub same_fold : (entries others : List Entry) (c : TimedCore) → AreSameButStamps entries others → fold (after_turn time image end) c others ≡ fold (after_turn time image end) c entries
    same_fold [] [] c same = refl
    same_fold [] (x ∷ others) c same = absurd (let size = same_length [] (x ∷ others) same in omega (arith, size))
    same_fold (e ∷ entries) [] c same = absurd (let size = same_length (e ∷ entries) [] same in omega (arith, size))
    same_fold (e ∷ entries) (x ∷ others) c same =
        ap (λ (d : TimedCore). fold (after_turn time image end) d others) (after_same c e x (first_same e x entries others same))
        ∙ same_fold entries others (after_turn time image end c e) (rest_same e x entries others same)
