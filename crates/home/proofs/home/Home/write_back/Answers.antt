use Rattle.std.proofs.Common.{◌≡◌, ℕ, ◌+◌, ◌*◌, List, ◌++◌, take, drop, sym, ap, ◌∙◌}
use Rattle.cache_set.specs.Pieces.{sets_in}
use Rattle.home.specs.HomeState.{HomeState, line_place, with_bytes_at}
use Rattle.home.specs.Layout.{home_view, lines_in}
use Rattle.home.proofs.Homes.{home_with}
use Rattle.home.proofs.home.Home.write_back.Goals as goal

pub returns : goal.returns
unfolding with_bytes_at
returns c =
    let s = c.self.inside in
    let was : HomeState = home_view s.met.dealt.number s.met.dealt.shards s.base s.size s.ways.sets s.ways.ways s.ways.ages.items s.ways.tags.items s.rows s.bytes s.marks in
    let place : 64 * c.line_number-number.result ≡ line_place was c.args.line = c.line_number-number.ensures.place ∙ sym (ap (λ (h : HomeState). line_place h c.args.line) c.self.view_is) in
    let put : ℕ → List ℕ = λ (p : ℕ). take p s.bytes ++ (c.args.from.now ++ drop (p + 64) s.bytes) in
    ap (λ (bytes : List ℕ). home_with s.met.dealt.number s.met.dealt.shards s.base s.size s.ways.ways bytes s.marks (sets_in s.ways.sets s.ways.ways s.ways.ages.items s.ways.tags.items (lines_in s.ways.sets s.ways.ways s.rows)))
    (c.write.ensures ∙ ap put place)
    ∙ ap (with_bytes_at c.args.line c.args.from.now) c.self.view_is
