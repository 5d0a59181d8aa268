use Rattle.gen_prog.proofs.generator.word.Goals as goal

pub encode-requires : goal.encode-requires
encode-requires c = c.fields_are_in_range.ensures.formats _ c.args.instruction c.requires.decodes
