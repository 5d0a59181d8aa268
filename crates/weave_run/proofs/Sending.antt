-- A worker's domains may go to a thread of its own.
use denote.Ref.{NamedLft, ShrRef}
use denote.RattleType.{RattleType}
use denote.Param.Send.{IsSend, IsSync, sendable, shr_send, view_send}
use denote.Param.SendFields.{as_row_send, declared_send}
use denote.Builtin as builtin
use denote.Hole.{as_row}
use denote.Struct.Field.{row_field}
use Rattle.std.proofs.Crossing as std
use Rattle.std.specs.contracts.alloc.Global as heap
use Rattle.std.specs.contracts.impls.GlobalAllocator.TheImpl.{ghosts}
use Rattle.std.specs.contracts.sync.Arc as arc
use Rattle.std.specs.contracts.vec.Vec as vec
use Rattle.std.specs.contracts.collections.VecDeque as deque
use Rattle.component.specs.declared.component.Component.{Ghosts}
use Rattle.crossing.proofs.seat.DomainSeat.TheSendSync as seats
use Rattle.crossing.proofs.crossings.Crossings.TheSendSync as words
use Rattle.crossing.specs.contracts.crossings.Crossings as word
use Rattle.crossing.specs.contracts.seat.DomainSeat as seat
use Rattle.component.specs.contracts.comps.Comps as comps
use Rattle.dealing.specs.contracts.worker.Worker as worker
use Rattle.event_graph.proofs.event.Event.TheSendSync as events
use Rattle.event_graph.proofs.fired.Fired.TheSendSync as fireds
use Rattle.event_graph.specs.contracts.event.Event as event
use Rattle.event_graph.specs.contracts.fired.Fired as fired
use Rattle.weave_core.proofs.exits.Exits.TheSendSync as exits
use Rattle.weave_core.proofs.incoming.Incoming.TheSendSync as incomings
use Rattle.weave_core.proofs.waiting.Waiting.TheSendSync as waits
use Rattle.weave_core.specs.contracts.incoming.Incoming as incoming
use Rattle.weave_core.specs.contracts.waiting.Waiting as waiting
use Rattle.weave_core.specs.contracts.domain.Domain as domain
use Rattle.weave_core.specs.contracts.domain.Domain.TheInside as inside
use Rattle.weave_run.specs.contracts.post.Post as post
use Rattle.weave_run.proofs.outgoing.Outgoing.TheSendSync as links
use Rattle.weave_run.specs.contracts.outgoing.Outgoing as link
use Rattle.weave_run.specs.contracts.plan.Plan as plan
use Rattle.weave_run.specs.contracts.share.DomainShare as share
use Rattle.weave_run.specs.contracts.way.WatchedDomains as way

outgoing_send : IsSend (as_row (arc.the_field link.the_row heap.the_row ghosts))
outgoing_send = as_row_send (arc.the_field link.the_row heap.the_row ghosts) (std.Arc-send link.the_row links.the_send links.the_sync)

crossings_send : IsSend (as_row (arc.the_field word.the_row heap.the_row ghosts))
crossings_send = as_row_send (arc.the_field word.the_row heap.the_row ghosts) (std.Arc-send word.the_row words.the_send words.the_sync)

module _ (C : RattleType) (g : Ghosts C.Denot) (s : IsSend C) where
  number_send : IsSend (denote.Hole.as_row denote.Struct.Field.u16-field)
  number_send = search (sendable, std.crosses) depth 20

  comps_send : IsSend (comps.the_row C)
  comps_send = search (sendable, std.crosses) depth 20

  pub inside_send : IsSend (inside.the_row C g)
  inside_send =
      declared_send (inside.the_type C g) (
        search (sendable, std.crosses) depth 20,
        (
          search (sendable, std.crosses) depth 20,
          (
            number_send,
            (
              as_row_send (vec.the_field event.the_row heap.the_row ghosts) (std.Vec-send event.the_row events.the_send),
              (
                search (sendable, std.crosses) depth 20,
                (
                  search (sendable, std.crosses) depth 20,
                  (
                    as_row_send waiting.the_field waits.the_send,
                    (
                      as_row_send incoming.the_field incomings.the_send,
                      (
                        exits.the_send,
                        (
                          as_row_send (vec.the_field fired.the_row heap.the_row ghosts) (std.Vec-send fired.the_row fireds.the_send),
                          (
                            search (sendable, std.crosses) depth 20,
                            (as_row_send (comps.the_field C) comps_send, tt),
                          ),
                        ),
                      ),
                    ),
                  ),
                ),
              ),
            ),
          ),
        ),
      )

  pub domain_send : IsSend (domain.the_row C g)
  domain_send = view_send (inside.the_row C g) _ _ _ _ inside_send

  pub post_send : IsSend (post.the_row C g)
  post_send = declared_send (post.the_type C g) (number_send, (as_row_send (domain.the_field C g) domain_send, (as_row_send seat.the_field seats.the_send, tt)))

  pub crew_send : IsSend (worker.the_row (post.the_row C g) builtin.unit)
  crew_send =
      declared_send (worker.the_type (post.the_row C g) builtin.unit) (
        as_row_send (deque.the_field (post.the_row C g) heap.the_row ghosts) (std.Deque-send (post.the_row C g) post_send),
        (search (sendable, std.crosses) depth 20, tt),
      )

  plan_send : IsSend (plan.the_row C)
  plan_send = declared_send (plan.the_type C) (search (sendable, std.crosses) depth 20, (search (sendable, std.crosses) depth 20, (search (sendable, std.crosses) depth 20, tt)))

  steps_send : IsSend (denote.Hole.as_row denote.Struct.Field.u64-field)
  steps_send = search (sendable, std.crosses) depth 20

  module _ (ℓ : NamedLft) (G : RattleType) (h : IsSync G) where
    way_send : IsSend (way.the_row ℓ G)
    way_send = declared_send (way.the_type ℓ G) (as_row_send (row_field (ShrRef ℓ.mir ℓ.lft G)) (shr_send ℓ.mir ℓ.lft G h), tt)

    pub share_send : IsSend (share.the_row C (way.the_row ℓ G) g)
    share_send =
        declared_send (share.the_type C (way.the_row ℓ G) g) (
          way_send,
          (
            plan_send,
            (outgoing_send, (crossings_send, (number_send, (steps_send, (crew_send, tt))))),
          ),
        )
