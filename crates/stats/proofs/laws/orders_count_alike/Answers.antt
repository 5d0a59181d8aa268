-- Each core counts its own accesses, and each component sums over its own events.
use Rattle.stats.proofs.Orders.{alike_added}
use Rattle.stats.proofs.laws.orders_count_alike.Goals as goal

pub returns : goal.returns
returns c = λ to i j timed moved before comps alike. alike_added to i j timed moved alike before comps
