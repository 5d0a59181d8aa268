use Rattle.std.proofs.Common.{◌<◌, List, length, get_or, arith}
use Rattle.std.specs.Arc.{arc_value}
use Rattle.noc_mesh.specs.NetTiming.{net_time}
use Rattle.bound_workers.specs.Team.{CanWork, HasWorked}
use Rattle.bound_workers.specs.Works.{HasShared}
use Rattle.bound_workers.specs.declared.share.Share.{Share}
use Rattle.bound_workers.proofs.Sharing.{all_done, can_at, same_can, same_work}
use Rattle.bound_workers.proofs.working.work_all.Goals as goal

pub do_shares-requires-clause-can : goal.do_shares-requires-clause-can
do_shares-requires-clause-can g c κs inside = λ i d within.
    let J : Type 0 = Share g.row.R.Denot g.row.G.Denot in
    let made = c.in_ok-shares.ensures in
    let shares : List J = c.in_ok-shares.shares.items in
    same_can (arc_value (get_or shares i d).table) (arc_value c.args.table.now) (get_or shares i d).memory.now c.args.memory.now (get_or shares i d).end c.args.end (get_or shares i d).team
    (made.tables i d within) (made.memories i d within) (made.ends i d within)
    (can_at (λ (s : J). s.team) (CanWork (arc_value c.args.table.now) c.args.memory.now c.args.end) shares c.args.teams.now.items made.teams c.requires.can i d within)

pub returns-clause-worked : goal.returns-clause-worked
returns-clause-worked g c = λ i d within.
    let J : Type 0 = Share g.row.R.Denot g.row.G.Denot in
    let made = c.in_ok-shares.ensures in
    let shares : List J = c.in_ok-shares.shares.items in
    let done : List J = c.in_ok-done.done.items in
    let image = c.args.program.now in
    let end = c.args.end in
    let len = c.args.teams.now.ok.0 in
    let inside : i < length c.args.teams.now.items = omega (arith, within, len) in
    all_done (λ (s : J). s.team)
    (λ (s t : J). HasShared s t)
    (HasWorked (λ e. net_time c.args.net.now.path e) image end (arc_value c.args.table.now))
    shares done c.args.teams.now.items c.take_teams.new.teams.items made.teams c.take_teams.ensures c.in_ok-done.ensures.done
    (λ k x there did.
    let s : J = get_or shares k x in
    same_work s.net.now c.args.net.now s.program.now image s.end end (arc_value s.table) (arc_value c.args.table.now) s.team (get_or done k x).team
    (made.nets k x there) (made.programs k x there) (made.ends k x there) (made.tables k x there) did.worked)
    i d inside
