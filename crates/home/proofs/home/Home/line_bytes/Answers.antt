use Rattle.std.proofs.Common.{ℕ, ◌*◌, List, take, drop, ap, ◌∙◌}
use Rattle.home.specs.HomeState.{HomeState, bytes_at}
use Rattle.home.proofs.home.Home.line_bytes.Goals as goal

pub returns : goal.returns
unfolding bytes_at
returns c =
    c.line.ensures
    ∙ (ap (λ (bytes : List ℕ). take 64 (drop (64 * c.line_number-number.result) bytes)) (ap (λ (home : HomeState). home.bytes) c.self.view_is)
    ∙ ap (λ (at : ℕ). take 64 (drop at c.args.self.now.bytes)) c.line_number-number.ensures.place)
