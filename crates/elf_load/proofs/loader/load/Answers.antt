use Rattle.std.proofs.Common.{◌≡◌, List, Ok, ap, arith, sym, ◌∙◌}
use Rattle.elf_load.specs.declared.segment.Segment.{Segment}
use Rattle.elf_load.specs.Image.{segments_of}
use Rattle.elf_load.specs.MemoryImage.{MemoryImage}
use Rattle.elf_load.proofs.Table.{few_in_table}
use Rattle.elf_load.proofs.Refusals.{short, header_refused, segment_refused, accepted, passes}
use Rattle.elf_load.proofs.Sound.{sound}
use Rattle.elf_load.proofs.loader.load.Goals as goal

pub returns-then-file-lt-HEADER_LEN-clause-answer : goal.returns-then-file-lt-HEADER_LEN-clause-answer
returns-then-file-lt-HEADER_LEN-clause-answer c = short _ _ _ (omega arith)

pub returns-in-Some-clause-answer : goal.returns-in-Some-clause-answer
returns-in-Some-clause-answer c = header_refused _ _ _ c.read-header.result (omega arith) c.read-header.ensures _ c.in-Some.ensures.value

pub segment_refusal-requires : goal.segment_refusal-requires
segment_refusal-requires c = few_in_table _ _ _ _ (c.deref.ensures.value ∙ c.in_ok-headers.ensures) c.in_default.ensures.table

pub returns-in-Some-segment_refusal-clause-answer : goal.returns-in-Some-segment_refusal-clause-answer
returns-in-Some-segment_refusal-clause-answer c =
    segment_refused _ _ _ c.read-header.result (omega arith) c.read-header.ensures c.in_default.ensures.value c.deref.result.now
    (c.deref.ensures.value ∙ c.in_ok-headers.ensures) _ c.in-Some-segment_refusal.ensures

pub segments-requires : goal.segments-requires
segments-requires c =
    let same : c.deref-2.result.now ≡ c.deref.result.now = c.deref-2.ensures.value ∙ sym c.deref.ensures.value in
    rw same (passes _ _ _ _ _ c.in_default-segment_refusal.ensures).in_file

pub make-requires : goal.make-requires
make-requires c =
    let same : c.deref-2.result.now ≡ c.deref.result.now = c.deref-2.ensures.value ∙ sym c.deref.ensures.value in
    let items : c.in_ok-segments.segments.items ≡ segments_of c.args.file.now c.deref.result.now = c.in_ok-segments.ensures ∙ ap (segments_of c.args.file.now) same in
    let few = few_in_table _ _ c.deref.result.now _ (c.deref.ensures.value ∙ c.in_ok-headers.ensures) c.in_default.ensures.table in
    rw items (sound _ c.read-header.result _ _ _ c.requires few (passes _ _ _ _ _ c.in_default-segment_refusal.ensures))

pub returns-clause-answer : goal.returns-clause-answer
returns-clause-answer c =
    let same : c.deref-2.result.now ≡ c.deref.result.now = c.deref-2.ensures.value ∙ sym c.deref.ensures.value in
    let items : c.in_ok-segments.segments.items ≡ segments_of c.args.file.now c.deref.result.now = c.in_ok-segments.ensures ∙ ap (segments_of c.args.file.now) same in
    let image : List Segment → MemoryImage = λ s. record { base = c.args.base; size = c.args.size; entry = c.read-header.result.entry; segments = s } in
    let made : c.make.result ≡ image (segments_of c.args.file.now c.deref.result.now) = c.make.ensures ∙ ap image items in
    accepted _ _ _ c.read-header.result (omega arith) c.read-header.ensures c.in_default.ensures.value c.deref.result.now
    (c.deref.ensures.value ∙ c.in_ok-headers.ensures) c.in_default-segment_refusal.ensures
    ∙ ap Ok (sym made)
