use Rattle.weave_core.proofs.incoming.Stub.is_open.Goals as goal

pub returns-in_default : goal.returns-in_default
returns-in_default c = record { «open» = cc }
