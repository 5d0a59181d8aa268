-- The keys are no later than with the word before.
use Rattle.std.proofs.Common.{◌<◌, ◌≡◌, List, length, set, Some, slice_get, ap, sym, ◌∙◌, subst, arith}
use Rattle.std.proofs.lemmas.Option.{same_Some}
use Rattle.weave_core.specs.declared.incoming.Stub.{Stub}
use Rattle.weave_core.specs.Stubs.{AreSmallStubs, IsKeyed, Stubs, told_word}
use Rattle.weave_core.proofs.Indexing.{read_there}
use Rattle.weave_core.proofs.Retold.{keyed_told, small_told}
use Rattle.weave_core.proofs.incoming.Incoming.tell.Goals as goal

pub settle-requires-clause-small : goal.settle-requires-clause-small
settle-requires-clause-small c =
    let stubs : c.self.inside.stubs.items ≡ c.args.self.now.stubs = ap (λ (v : Stubs). v.stubs) c.self.view_is in
    let below : c.args.place < length c.self.inside.stubs.items = omega (arith, ap length stubs, c.requires.within) in
    let there : slice_get c.self.inside.stubs.items c.args.place ≡ Some c.index_mut.result.now = read_there c.self.inside.stubs.items c.args.place c.index_mut.result.now below c.index_mut.ensures.value in
    subst AreSmallStubs (sym c.deref.ensures.value) (small_told c.self.inside.stubs.items c.args.place c.index_mut.result.now c.args.word c.self.invariant.small there c.requires.small)

pub settle-requires-clause-keyed : goal.settle-requires-clause-keyed
settle-requires-clause-keyed c =
    let stubs : c.self.inside.stubs.items ≡ c.args.self.now.stubs = ap (λ (v : Stubs). v.stubs) c.self.view_is in
    let below : c.args.place < length c.self.inside.stubs.items = omega (arith, ap length stubs, c.requires.within) in
    let there : slice_get c.self.inside.stubs.items c.args.place ≡ Some c.index_mut.result.now = read_there c.self.inside.stubs.items c.args.place c.index_mut.result.now below c.index_mut.ensures.value in
    let there_now : slice_get c.args.self.now.stubs c.args.place ≡ Some c.index_mut.result.now = ap (λ (xs : List Stub). slice_get xs c.args.place) (sym stubs) ∙ there in
    subst (λ (xs : List Stub). IsKeyed xs c.self.inside.floor c.self.inside.by_floor c.self.inside.by_word) (sym c.deref.ensures.value)
    (keyed_told c.self.inside.stubs.items c.self.inside.floor c.self.inside.by_floor c.self.inside.by_word c.self.invariant.keyed c.args.place c.index_mut.result.now c.args.word there
    (λ u. (c.requires.open c.index_mut.result.now there_now u, c.requires.later c.index_mut.result.now there_now u)))

pub returns : goal.returns
returns c = λ s h.
    let stubs : c.self.inside.stubs.items ≡ c.args.self.now.stubs = ap (λ (v : Stubs). v.stubs) c.self.view_is in
    let below : c.args.place < length c.self.inside.stubs.items = omega (arith, ap length stubs, c.requires.within) in
    let there : slice_get c.self.inside.stubs.items c.args.place ≡ Some c.index_mut.result.now = read_there c.self.inside.stubs.items c.args.place c.index_mut.result.now below c.index_mut.ensures.value in
    let is : c.index_mut.result.now ≡ s = same_Some c.index_mut.result.now s (sym there ∙ (ap (λ (xs : List Stub). slice_get xs c.args.place) stubs ∙ h)) in
    ap (λ (v : Stubs). record { stubs = set v.stubs c.args.place (told_word c.args.word c.index_mut.result.now); floor = v.floor }) c.self.view_is
    ∙ ap (λ (z : Stub). record { stubs = set c.args.self.now.stubs c.args.place (told_word c.args.word z); floor = c.args.self.now.floor }) is
