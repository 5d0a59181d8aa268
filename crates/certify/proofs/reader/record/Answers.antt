use Rattle.certify.proofs.Fields.{field_read}
use Rattle.certify.proofs.reader.record.Goals as goal

pub numbers_of-requires : goal.numbers_of-requires
numbers_of-requires c = (field_read c.args.file.now c.args.at 64 c.in_ok-record.record.now c.in_ok-record.ensures.ok).0.long
