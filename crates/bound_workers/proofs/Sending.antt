-- A worker's share may go to a thread of its own.
use denote.Ref.{NamedLft, ShrRef}
use denote.RattleType.{RattleType}
use denote.Hole.{as_row}
use denote.Param.Send.{IsSend, IsSync, sendable, shr_send}
use denote.Param.SendFields.{as_row_send, declared_send, variants_send}
use denote.Struct.Field.{row_field, shr_ref_field, u16-field, u64-field}
use Rattle.std.proofs.Crossing as std
use Rattle.std.specs.contracts.alloc.Global as heap
use Rattle.std.specs.contracts.impls.GlobalAllocator.TheImpl.{ghosts}
use Rattle.std.specs.contracts.sync.Arc as arc
use Rattle.std.specs.contracts.option.Option as option
use Rattle.std.specs.contracts.collections.VecDeque as deque
use Rattle.bound_core.proofs.bounded.BoundCore.TheSendSync as cores
use Rattle.bound_core.specs.contracts.bounded.BoundCore as core
use Rattle.bound_records.proofs.record_port.CoreRecord.TheSendSync as records
use Rattle.machine_desc.proofs.machine.Memory.TheSendSync as memories
use Rattle.machine_desc.specs.contracts.machine.Memory as memory
use Rattle.noc_mesh.proofs.net.Net.TheSendSync as nets
use Rattle.noc_mesh.specs.contracts.net.Net as net
use Rattle.parts_table.proofs.places.Places.TheSendSync as placed
use Rattle.parts_table.specs.contracts.places.Places as places
use Rattle.parts_table.proofs.seat.CoreSeat.TheSendSync as seats
use Rattle.parts_table.specs.contracts.seat.CoreSeat as seat
use Rattle.parts_table.proofs.table.PartsTable.TheSendSync as tables
use Rattle.parts_table.specs.contracts.table.PartsTable as table
use Rattle.rv_blocks.proofs.decoded_program.DecodedProgram.TheSendSync as programs
use Rattle.rv_blocks.specs.contracts.decoded_program.DecodedProgram as program
use Rattle.access_record.proofs.buffers.OrderBuffers.TheSendSync as buffers
use Rattle.access_record.proofs.unordered.Unordered.TheSendSync as unordered
use Rattle.component.proofs.comp.Comp.TheSendSync as comp_is
use Rattle.component.specs.contracts.comp.Comp as comp
use Rattle.component.specs.contracts.comp.CompComponent.TheImpl as comps
use Rattle.weave_run.proofs.Sending as domains
use Rattle.bound_workers.specs.contracts.member.Member as member
use Rattle.bound_workers.specs.contracts.ordering.Ordering as ordering
use Rattle.bound_workers.specs.contracts.share.Share as share
use Rattle.dealing.specs.contracts.worker.Worker as worker
use Rattle.bound_workers.specs.contracts.work.Work as work

table_send : IsSend (as_row (arc.the_field table.the_row heap.the_row ghosts))
table_send = as_row_send (arc.the_field table.the_row heap.the_row ghosts) (std.Arc-send table.the_row tables.the_send tables.the_sync)

member_send : IsSend member.the_row
member_send = declared_send member.the_type (as_row_send core.the_field cores.the_send, (as_row_send seat.the_field seats.the_send, (records.the_send, tt)))

team_send : IsSend (worker.the_row member.the_row (option.the_row places.the_row))
team_send =
    declared_send (worker.the_type member.the_row (option.the_row places.the_row)) (
      as_row_send (deque.the_field member.the_row heap.the_row ghosts) (std.Deque-send member.the_row member_send),
      (search (sendable, std.crosses, placed.the_send) depth 20, tt),
    )

number_send : IsSend (as_row u64-field)
number_send = search (sendable, std.crosses) depth 20

worker_send : IsSend (as_row u16-field)
worker_send = search (sendable, std.crosses) depth 20

ordering_send : IsSend ordering.the_row
ordering_send =
    declared_send ordering.the_type (
      search (sendable, std.crosses) depth 20,
      (unordered.the_send, (buffers.the_send, (search (sendable, std.crosses) depth 20, tt))),
    )

module _ (ℓ : NamedLft) where
  program_send : IsSend (as_row (shr_ref_field ℓ (program.the_row ℓ) (tt {0})))
  program_send = as_row_send (shr_ref_field ℓ (program.the_row ℓ) (tt {0})) (shr_send ℓ.mir ℓ.lft (program.the_row ℓ) (programs.the_sync ℓ))

  net_send : IsSend (as_row (shr_ref_field ℓ net.the_row (tt {0})))
  net_send = as_row_send (shr_ref_field ℓ net.the_row (tt {0})) (shr_send ℓ.mir ℓ.lft net.the_row nets.the_sync)

  memory_send : IsSend (as_row (shr_ref_field ℓ memory.the_row (tt {0})))
  memory_send = as_row_send (shr_ref_field ℓ memory.the_row (tt {0})) (shr_send ℓ.mir ℓ.lft memory.the_row memories.the_sync)

  module _ (R G : RattleType) (r : IsSync R) (g : IsSync G) where
    pub share_send : IsSend (share.the_row ℓ R G)
    share_send =
        declared_send (share.the_type ℓ R G) (
          as_row_send (row_field (ShrRef ℓ.mir ℓ.lft R)) (shr_send ℓ.mir ℓ.lft R r),
          (
            as_row_send (row_field (ShrRef ℓ.mir ℓ.lft G)) (shr_send ℓ.mir ℓ.lft G g),
            (table_send, (program_send, (net_send, (memory_send, (number_send, (worker_send, (team_send, tt))))))),
          ),
        )

    pub work_send : IsSend (work.the_row ℓ R G)
    work_send = variants_send (work.enum ℓ R G) ((share_send, tt), ((ordering_send, tt), ((domains.share_send comp.the_row comps.ghosts comp_is.the_send ℓ G g, tt), tt)))
