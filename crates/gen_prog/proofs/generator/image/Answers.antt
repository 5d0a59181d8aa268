use Rattle.std.proofs.Common.{◌≡◌, List, sym, subst, ap, ◌∙◌, rules}
use Rattle.elf_load.specs.declared.segment.Segment.{Segment}
use Rattle.elf_load.specs.MemoryImage.{MemoryImage}
use Rattle.elf_load.specs.SoundImage.{IsSoundImage}
use Rattle.gen_prog.specs.Generated.{generated_image}
use Rattle.gen_prog.proofs.Image.{sound}
use Rattle.gen_prog.proofs.generator.image.Goals as goal
use Rattle.gen_prog.proofs.generator.image.Goals.{In_ok-push-2}

-- the segments, and with them the image
segments : (c : In_ok-push-2) → c.push-2.new.self.items ≡ (generated_image c.args.number c.args.base).segments
unfolding generated_image
segments c = search rules

whole : (c : In_ok-push-2) → (let i : MemoryImage = record { base = c.args.base; size = 8192; entry = c.args.base; segments = c.push-2.new.self.items } in i) ≡ generated_image c.args.number c.args.base
unfolding generated_image
whole c = ap (λ (s : List Segment). let i : MemoryImage = record { base = c.args.base; size = 8192; entry = c.args.base; segments = s } in i) (segments c)

pub make-requires : goal.make-requires
make-requires c = subst IsSoundImage (sym (whole c)) (sound c.args.number c.args.base c.requires.page c.requires.low)

pub returns : goal.returns
returns c = c.make.ensures ∙ whole (goal.at.returns c).In_ok-push-2
