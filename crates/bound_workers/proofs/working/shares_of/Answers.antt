-- A share more has the next worker's cores.
use Rattle.std.proofs.Common.{All, ◌≡◌, ◌<◌, ◌++◌, ◌∷◌, [], List, get_or, length, map, sym, ◌∙◌, ap, subst, arith, refl, rules, append_assoc}
use Rattle.std.specs.Arc.{arc_value}
use Rattle.std.specs.List.{remove}
use Rattle.std.proofs.lemmas.List.{map-append}
use Rattle.std.proofs.lemmas.List.Elements.{All-push}
use Rattle.bound_workers.specs.declared.share.Share.{Share}
use Rattle.bound_workers.specs.Team.{Team}
use Rattle.bound_workers.proofs.working.shares_of.Goals as goal

-- what holds of the shares so far and of the next
pushed_all : {J : Type 0} (P : J → Type 0) (done now : List J) (s : J) → now ≡ done ++ s ∷ [] → All P done → P s → All P now
pushed_all {J} P done now s is all one = subst (All P) (sym is) (All-push P done s all one)

-- the first of those that are left goes behind those that were taken
one_taken : {J : Type 0} (team : J → Team) (done now : List J) (s : J) (all left : List Team) (x : Team) → now ≡ done ++ s ∷ [] → 0 < length left → x ≡ get_or left 0 x → team s ≡ x → map team done ++ left ≡ all
    → map team now ++ remove left 0 ≡ all
one_taken team done now s all [] x pushed some is own so_far = absurd (omega (arith, some))
one_taken {J} team done now s all (y ∷ left) x pushed some is own so_far =
    ap (λ (ss : List J). map team ss ++ left) pushed
    ∙ (ap (λ (ts : List Team). ts ++ left) (map-append team done (s ∷ []))
    ∙ (append_assoc (map team done) (team s ∷ []) left
    ∙ (ap (λ (t : Team). map team done ++ t ∷ left) (own ∙ is) ∙ so_far)))

pub loop-teams-preserved : goal.loop-teams-preserved
loop-teams-preserved g c =
    let J : Type 0 = Share g.row.R.Denot g.row.G.Denot in
    let before = c.loop-teams.invariant in
    let old : List J = c.loop-teams.shares.items in
    let now : List J = c.push_reserved.new.self.items in
    let pushed = c.push_reserved.ensures.items in
    let some : 0 < length c.loop-teams.teams.items = search rules in
    record {
      teams = subst (λ (ts : List Team). map (λ (s : J). s.team) now ++ ts ≡ c.args.teams.now.items) (sym c.remove-team.ensures.items)
          (one_taken (λ (s : J). s.team) old now _ c.args.teams.now.items c.loop-teams.teams.items c.remove-team.result pushed some c.remove-team.ensures.value refl before.teams);
      tables = pushed_all (λ (s : J). arc_value s.table ≡ arc_value c.args.table.now) old now _ pushed before.tables c.in_ok-try_clone.ensures;
      programs = pushed_all (λ (s : J). s.program.now ≡ c.args.program.now) old now _ pushed before.programs refl;
      nets = pushed_all (λ (s : J). s.net.now ≡ c.args.net.now) old now _ pushed before.nets refl;
      memories = pushed_all (λ (s : J). s.memory.now ≡ c.args.memory.now) old now _ pushed before.memories refl;
      ends = pushed_all (λ (s : J). s.end ≡ c.args.end) old now _ pushed before.ends refl;
      count = search rules;
      room = search rules;
      kept = c.remove-team.ensures.capacity ∙ before.kept;
    }
