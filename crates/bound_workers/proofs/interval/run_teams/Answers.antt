use Rattle.std.proofs.Common.{◌≡◌, ◌<◌, ℕ, All, List, get_or, length, ap, sym, ◌∙◌, subst, arith}
use Rattle.std.specs.Prelude.{Option}
use Rattle.std.specs.Arc.{arc_value}
use Rattle.std.specs.Vec.{with_items}
use Rattle.std.proofs.lemmas.List.{length-map, with_items_is}
use Rattle.zs_num.specs.declared.entry.Entry.{Entry}
use Rattle.noc_mesh.specs.NetTiming.{net_time}
use Rattle.parts_table.specs.Access.{SeatState, TableState}
use Rattle.parts_table.specs.Places.{PlacesState}
use Rattle.dealing.specs.Laws.{AreChanged}
use Rattle.dealing.specs.Workers.{AreFree}
use Rattle.bound_core.specs.NumberedCores.{NumberedCore}
use Rattle.bound_records.specs.declared.record_port.CoreRecord.{CoreRecord}
use Rattle.bound_workers.specs.Shares.{mates}
use Rattle.bound_workers.specs.Team.{CanWork, HasWorked, IsFree, Team}
use Rattle.bound_workers.specs.declared.member.Member.{Member}
use Rattle.bound_workers.proofs.Turns.{are_free, team_can, members_count}
use Rattle.bound_workers.proofs.Whole.{changed_ran, have_as_many}
use Rattle.bound_workers.proofs.interval.run_teams.Goals as goal

pub work_all-requires-clause-can : goal.work_all-requires-clause-can
work_all-requires-clause-can g c κs inside =
    let m = c.args.machine.now in
    let end = c.args.end in
    let t : TableState = arc_value c.args.table.now in
    let cores : List NumberedCore = c.args.cores.items in
    let seats : List SeatState = c.args.seats.items in
    let records : List CoreRecord = c.args.records.items in
    let first : List Team = c.as_mut_slice.result.now in
    let hired : List Team = c.hire.new.teams in
    let tools : Team → Option PlacesState = λ w. w.tools in
    let before = length-map first tools in
    let behind = length-map hired tools in
    let tied = ap length c.hire.ensures.places in
    let count : length hired ≡ length first = omega (arith, before, behind, tied) in
    let now = ap length c.as_mut_slice.ensures.value in
    let len = c.args.teams.now.ok.0 in
    let written : (with_items c.args.teams.now hired).items ≡ hired = with_items_is c.args.teams.now hired (omega (arith, count, now, len)) in
    let free : All (IsFree m.cores) first = subst (All (IsFree m.cores)) (sym c.as_mut_slice.ensures.value) c.requires.teams.2 in
    subst (All (CanWork t m.memory end)) (sym written)
    (λ i d within. team_can m end t cores seats records c.requires.end c.requires.hired c.dealt_are_among_these.ensures first hired free c.hire.ensures.places c.hire.ensures.dealt i d within)

pub hire-requires-clause-free : goal.hire-requires-clause-free
hire-requires-clause-free g c =
    let m = c.args.machine.now in
    let first : List Team = c.as_mut_slice.result.now in
    let free : All (IsFree m.cores) first = subst (All (IsFree m.cores)) (sym c.as_mut_slice.ensures.value) c.requires.teams.2 in
    let size : length c.args.cores.items ≡ m.cores = c.requires.hired.count ∙ c.requires.hired.cores_are in
    subst (λ (n : ℕ). AreFree n first) (sym size) (are_free m.cores first free)

pub let_go-requires-clause-dealt : goal.let_go-requires-clause-dealt
let_go-requires-clause-dealt g c =
    let m = c.args.machine.now in
    let end = c.args.end in
    let t : TableState = arc_value c.args.table.now in
    let cores : List NumberedCore = c.args.cores.items in
    let seats : List SeatState = c.args.seats.items in
    let records : List CoreRecord = c.args.records.items in
    let first : List Team = c.as_mut_slice.result.now in
    let hired : List Team = c.hire.new.teams in
    let tools : Team → Option PlacesState = λ w. w.tools in
    let before = length-map first tools in
    let behind = length-map hired tools in
    let tied = ap length c.hire.ensures.places in
    let count : length hired ≡ length first = omega (arith, before, behind, tied) in
    let now = ap length c.as_mut_slice.ensures.value in
    let len = c.args.teams.now.ok.0 in
    let written : (with_items c.args.teams.now hired).items ≡ hired = with_items_is c.args.teams.now hired (omega (arith, count, now, len)) in
    let T : Entry → ℕ = λ e. net_time c.args.net.now.path e in
    let image = c.args.program.now in
    let members : List Member = mates cores seats records in
    let after : List Team = c.as_mut_slice-2.result.now in
    let after_is : after ≡ c.work_all.new.teams.items = c.as_mut_slice-2.ensures.value in
    let long = ap length after_is in
    let long_len = c.work_all.new.teams.ok.0 in
    let same_len = c.in_ok-work_all.ensures.count in
    let as_many : length after ≡ length hired = omega (arith, long, long_len, same_len, count, now, len) in
    let worked : (w : ℕ) (d : Team) → w < length hired → HasWorked T image end t (get_or hired w d) (get_or after w d) = λ w d within.
    subst (λ (xs : List Team). HasWorked T image end t (get_or hired w d) (get_or xs w d)) (sym after_is)
    (subst (λ (xs : List Team). HasWorked T image end t (get_or xs w d) (get_or c.work_all.new.teams.items w d)) written (c.in_ok-work_all.ensures.worked w d (omega (arith, within, count, now, len))))
    in
    let some : 0 < length hired = (let s = c.requires.teams.0 in omega (arith, s, count, now, len)) in
    let size = members_count m end t cores seats records c.requires.end c.requires.hired in
    let it : AreChanged Member (Option PlacesState) 0 members hired after = c.changed_are_dealt.ensures 0 members hired after some c.hire.ensures.dealt (have_as_many T image end t hired after as_many worked) in
    record { some = omega (arith, some, as_many); members = it.now; dealt = it.dealt; size = it.count ∙ size }

pub returns-clause-returned : goal.returns-clause-returned
returns-clause-returned g c =
    let m = c.args.machine.now in
    let end = c.args.end in
    let t : TableState = arc_value c.args.table.now in
    let cores : List NumberedCore = c.args.cores.items in
    let seats : List SeatState = c.args.seats.items in
    let records : List CoreRecord = c.args.records.items in
    let first : List Team = c.as_mut_slice.result.now in
    let hired : List Team = c.hire.new.teams in
    let tools : Team → Option PlacesState = λ w. w.tools in
    let before = length-map first tools in
    let behind = length-map hired tools in
    let tied = ap length c.hire.ensures.places in
    let count : length hired ≡ length first = omega (arith, before, behind, tied) in
    let now = ap length c.as_mut_slice.ensures.value in
    let len = c.args.teams.now.ok.0 in
    let written : (with_items c.args.teams.now hired).items ≡ hired = with_items_is c.args.teams.now hired (omega (arith, count, now, len)) in
    let T : Entry → ℕ = λ e. net_time c.args.net.now.path e in
    let image = c.args.program.now in
    let members : List Member = mates cores seats records in
    let after : List Team = c.as_mut_slice-2.result.now in
    let after_is : after ≡ c.work_all.new.teams.items = c.as_mut_slice-2.ensures.value in
    let long = ap length after_is in
    let long_len = c.work_all.new.teams.ok.0 in
    let same_len = c.in_ok-work_all.ensures.count in
    let as_many : length after ≡ length hired = omega (arith, long, long_len, same_len, count, now, len) in
    let worked : (w : ℕ) (d : Team) → w < length hired → HasWorked T image end t (get_or hired w d) (get_or after w d) = λ w d within.
    subst (λ (xs : List Team). HasWorked T image end t (get_or hired w d) (get_or xs w d)) (sym after_is)
    (subst (λ (xs : List Team). HasWorked T image end t (get_or xs w d) (get_or c.work_all.new.teams.items w d)) written (c.in_ok-work_all.ensures.worked w d (omega (arith, within, count, now, len))))
    in
    let some : 0 < length hired = (let s = c.requires.teams.0 in omega (arith, s, count, now, len)) in
    let size = members_count m end t cores seats records c.requires.end c.requires.hired in
    let it : AreChanged Member (Option PlacesState) 0 members hired after = c.changed_are_dealt.ensures 0 members hired after some c.hire.ensures.dealt (have_as_many T image end t hired after as_many worked) in
    let back = c.let_go.ensures it.now it.dealt (it.count ∙ size) in
    record { now = it.now; ran = changed_ran T image end t hired after as_many worked members it; cores_are = back.0; seats_are = back.1; records_are = back.2 }
