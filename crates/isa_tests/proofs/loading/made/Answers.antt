use Rattle.std.proofs.Common.{lit<, lit≤, refl}
use Rattle.elf_load.proofs.Meanings.{sound_alone}
use Rattle.isa_tests.proofs.loading.made.Goals as goal

pub make-requires : goal.make-requires
make-requires g c =
    rw c.alone-segments.ensures (sound_alone _ _ _ _ (lit≤ tt) (lit< tt) (lit≤ tt) (lit≤ tt) (lit≤ tt) refl refl (lit≤ tt) (lit≤ tt))
