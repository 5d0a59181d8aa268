-- The stub is told, and its child where the finish was not known.
use Rattle.std.proofs.Common.{ℕ, ◌+◌, ◌<◌, ◌≡◌, true, false, not, List, length, set, get_or, Some, slice_get, sym, ap, ◌∙◌, subst, refl, arith, length-set}
use Rattle.std.proofs.lemmas.Option.{get_or_from_slice_get, slice_get-get_or}
use Rattle.zs_num.specs.declared.time.Word.{Word}
use Rattle.zs_num.specs.declared.time.Word.TheVariants.{Bound, Exact}
use Rattle.weave_core.specs.declared.incoming.Stub.{Stub}
use Rattle.weave_core.specs.Answer.{no_stub}
use Rattle.weave_core.specs.DomainCalls.{DomainValue, MayTell, with_known}
use Rattle.weave_core.specs.DomainMachine.{cycle_of, is_exact}
use Rattle.weave_core.specs.Inside.{IsDomain, domain_value, own_of}
use Rattle.weave_core.specs.Layout.{Stands, known_words}
use Rattle.weave_core.specs.Stubs.{Stubs, told_word}
use Rattle.weave_core.specs.Waits.{Waits, told}
use Rattle.weave_core.proofs.Lists.{get_there, not_false, not_true}
use Rattle.weave_core.proofs.Looked.{child_few, child_waits, child_within, fired_told, known_after, later, stands_alike, stands_raised, stands_told, unchanged}
use Rattle.weave_core.proofs.Words.{still_stubs}
use Rattle.weave_core.proofs.domain.Domain.look.Goals as goal

not_exact : (word : Word) → ((f : ℕ) → word ≡ Exact f → ⊥) → is_exact word ≡ false
not_exact (Bound b) h = refl
not_exact (Exact f) h = absurd (h f refl)

pub tell-requires-clause-later : goal.tell-requires-clause-later
tell-requires-clause-later g c =
    let d = c.self.inside in
    let i = c.self.invariant in
    let may : MayTell c.self.inside.graph.value c.self.inside.parts.value c.self.inside.domain (own_of c.self.inside) c.args.crossing c.args.word =
    subst (λ (v : DomainValue g.row.C.Denot). MayTell v.events v.partition v.domain v.own c.args.crossing c.args.word) (sym c.self.view_is) c.requires
    in
    λ s h u. (later d.graph.value d.parts.value d.domain d.here.items d.incoming.stubs (own_of d) d.waiting i.here i.stubs refl i.stands c.args.crossing c.args.word may c.place_of-place.result s h (c.place_of-place.ensures.number s (ap (λ (xs : List Stub). slice_get xs c.place_of-place.result) c.stubs.ensures.stubs ∙ h)) u).1

pub tell-requires-clause-open : goal.tell-requires-clause-open
tell-requires-clause-open g c =
    let d = c.self.inside in
    let i = c.self.invariant in
    let may : MayTell c.self.inside.graph.value c.self.inside.parts.value c.self.inside.domain (own_of c.self.inside) c.args.crossing c.args.word =
    subst (λ (v : DomainValue g.row.C.Denot). MayTell v.events v.partition v.domain v.own c.args.crossing c.args.word) (sym c.self.view_is) c.requires
    in
    λ s h u. (later d.graph.value d.parts.value d.domain d.here.items d.incoming.stubs (own_of d) d.waiting i.here i.stubs refl i.stands c.args.crossing c.args.word may c.place_of-place.result s h (c.place_of-place.ensures.number s (ap (λ (xs : List Stub). slice_get xs c.place_of-place.result) c.stubs.ensures.stubs ∙ h)) u).0

pub overflow_add-finish : goal.overflow_add-finish
overflow_add-finish g c =
    let d = c.self.inside in
    let i = c.self.invariant in
    let may : MayTell c.self.inside.graph.value c.self.inside.parts.value c.self.inside.domain (own_of c.self.inside) c.args.crossing c.args.word =
    subst (λ (v : DomainValue g.row.C.Denot). MayTell v.events v.partition v.domain v.own c.args.crossing c.args.word) (sym c.self.view_is) c.requires
    in
    let s : (s : Stub) × (slice_get c.self.inside.incoming.stubs c.place_of-place.result ≡ Some s) =
    get_there c.self.inside.incoming.stubs c.place_of-place.result (omega (arith, c.place_of-place.ensures.there, ap length c.stubs.ensures.stubs))
    in
    let read : get_or c.stubs-2.result.now c.place_of-place.result no_stub ≡ s.0 =
    ap (λ (xs : List Stub). get_or xs c.place_of-place.result no_stub) c.stubs-2.ensures.stubs ∙ get_or_from_slice_get c.self.inside.incoming.stubs c.place_of-place.result s.0 no_stub s.1
    in
    let delay : (get_or c.stubs-2.result.now c.place_of-place.result no_stub).delay ≡ s.0.delay = ap (λ (z : Stub). z.delay) read in
    let cycle : cycle_of c.args.word ≡ c.in-Exact.finish = ap cycle_of c.in-Exact.is in
    omega (arith, delay, cycle, may.small, (c.stubs.ensures.small c.place_of-place.result s.0 s.1).delay)

pub parent_fired-requires-clause-within : goal.parent_fired-requires-clause-within
parent_fired-requires-clause-within g c =
    let d = c.self.inside in
    let i = c.self.invariant in
    let may : MayTell c.self.inside.graph.value c.self.inside.parts.value c.self.inside.domain (own_of c.self.inside) c.args.crossing c.args.word =
    subst (λ (v : DomainValue g.row.C.Denot). MayTell v.events v.partition v.domain v.own c.args.crossing c.args.word) (sym c.self.view_is) c.requires
    in
    let s : (s : Stub) × (slice_get c.self.inside.incoming.stubs c.place_of-place.result ≡ Some s) =
    get_there c.self.inside.incoming.stubs c.place_of-place.result (omega (arith, c.place_of-place.ensures.there, ap length c.stubs.ensures.stubs))
    in
    let read : get_or c.stubs-2.result.now c.place_of-place.result no_stub ≡ s.0 =
    ap (λ (xs : List Stub). get_or xs c.place_of-place.result no_stub) c.stubs-2.ensures.stubs ∙ get_or_from_slice_get c.self.inside.incoming.stubs c.place_of-place.result s.0 no_stub s.1
    in
    let unknown : is_exact s.0.word ≡ false =
    not_true (is_exact s.0.word) (ap (λ (z : Stub). not (is_exact z.word)) (sym read) ∙ (sym c.is_open.ensures.open ∙ c.if-is_open.true))
    in
    subst (λ (z : Stub). z.child < length c.self.inside.waiting.waits) (sym read) (child_within d.graph.value d.parts.value d.domain d.here.items d.incoming.stubs (own_of d) d.waiting i.here i.stubs refl i.stands c.args.crossing c.args.word may c.place_of-place.result s.0 s.1 (c.place_of-place.ensures.number s.0 (ap (λ (xs : List Stub). slice_get xs c.place_of-place.result) c.stubs.ensures.stubs ∙ s.1)) c.in-Exact.finish c.in-Exact.is unknown)

pub parent_fired-requires-clause-waits : goal.parent_fired-requires-clause-waits
parent_fired-requires-clause-waits g c =
    let d = c.self.inside in
    let i = c.self.invariant in
    let may : MayTell c.self.inside.graph.value c.self.inside.parts.value c.self.inside.domain (own_of c.self.inside) c.args.crossing c.args.word =
    subst (λ (v : DomainValue g.row.C.Denot). MayTell v.events v.partition v.domain v.own c.args.crossing c.args.word) (sym c.self.view_is) c.requires
    in
    let s : (s : Stub) × (slice_get c.self.inside.incoming.stubs c.place_of-place.result ≡ Some s) =
    get_there c.self.inside.incoming.stubs c.place_of-place.result (omega (arith, c.place_of-place.ensures.there, ap length c.stubs.ensures.stubs))
    in
    let read : get_or c.stubs-2.result.now c.place_of-place.result no_stub ≡ s.0 =
    ap (λ (xs : List Stub). get_or xs c.place_of-place.result no_stub) c.stubs-2.ensures.stubs ∙ get_or_from_slice_get c.self.inside.incoming.stubs c.place_of-place.result s.0 no_stub s.1
    in
    let unknown : is_exact s.0.word ≡ false =
    not_true (is_exact s.0.word) (ap (λ (z : Stub). not (is_exact z.word)) (sym read) ∙ (sym c.is_open.ensures.open ∙ c.if-is_open.true))
    in
    subst (λ (z : Stub). 0 < get_or c.self.inside.waiting.waits z.child 0) (sym read) (child_waits d.graph.value d.parts.value d.domain d.here.items d.incoming.stubs (own_of d) d.waiting i.here i.stubs refl i.stands c.args.crossing c.args.word may c.place_of-place.result s.0 s.1 (c.place_of-place.ensures.number s.0 (ap (λ (xs : List Stub). slice_get xs c.place_of-place.result) c.stubs.ensures.stubs ∙ s.1)) c.in-Exact.finish c.in-Exact.is unknown)

pub parent_fired-requires-clause-unfired : goal.parent_fired-requires-clause-unfired
parent_fired-requires-clause-unfired g c =
    let d = c.self.inside in
    let i = c.self.invariant in
    let may : MayTell c.self.inside.graph.value c.self.inside.parts.value c.self.inside.domain (own_of c.self.inside) c.args.crossing c.args.word =
    subst (λ (v : DomainValue g.row.C.Denot). MayTell v.events v.partition v.domain v.own c.args.crossing c.args.word) (sym c.self.view_is) c.requires
    in
    let s : (s : Stub) × (slice_get c.self.inside.incoming.stubs c.place_of-place.result ≡ Some s) =
    get_there c.self.inside.incoming.stubs c.place_of-place.result (omega (arith, c.place_of-place.ensures.there, ap length c.stubs.ensures.stubs))
    in
    let read : get_or c.stubs-2.result.now c.place_of-place.result no_stub ≡ s.0 =
    ap (λ (xs : List Stub). get_or xs c.place_of-place.result no_stub) c.stubs-2.ensures.stubs ∙ get_or_from_slice_get c.self.inside.incoming.stubs c.place_of-place.result s.0 no_stub s.1
    in
    let unknown : is_exact s.0.word ≡ false =
    not_true (is_exact s.0.word) (ap (λ (z : Stub). not (is_exact z.word)) (sym read) ∙ (sym c.is_open.ensures.open ∙ c.if-is_open.true))
    in
    subst (λ (z : Stub). get_or c.self.inside.waiting.waits z.child 0 < 4294967295) (sym read) (child_few d.graph.value d.parts.value d.domain d.here.items d.incoming.stubs (own_of d) d.waiting i.here i.stubs refl i.stands c.args.crossing c.args.word may c.place_of-place.result s.0 s.1 (c.place_of-place.ensures.number s.0 (ap (λ (xs : List Stub). slice_get xs c.place_of-place.result) c.stubs.ensures.stubs ∙ s.1)) c.in-Exact.finish c.in-Exact.is unknown i.few)

pub invariant_of-self : goal.invariant_of-self
invariant_of-self g c =
    let d = c.self.inside in
    let i = c.self.invariant in
    let may : MayTell c.self.inside.graph.value c.self.inside.parts.value c.self.inside.domain (own_of c.self.inside) c.args.crossing c.args.word =
    subst (λ (v : DomainValue g.row.C.Denot). MayTell v.events v.partition v.domain v.own c.args.crossing c.args.word) (sym c.self.view_is) c.requires
    in
    let s : (s : Stub) × (slice_get c.self.inside.incoming.stubs c.place_of-place.result ≡ Some s) =
    get_there c.self.inside.incoming.stubs c.place_of-place.result (omega (arith, c.place_of-place.ensures.there, ap length c.stubs.ensures.stubs))
    in
    let read : get_or c.stubs-2.result.now c.place_of-place.result no_stub ≡ s.0 =
    ap (λ (xs : List Stub). get_or xs c.place_of-place.result no_stub) c.stubs-2.ensures.stubs ∙ get_or_from_slice_get c.self.inside.incoming.stubs c.place_of-place.result s.0 no_stub s.1
    in
    let unknown : is_exact s.0.word ≡ false =
    not_true (is_exact s.0.word) (ap (λ (z : Stub). not (is_exact z.word)) (sym read) ∙ (sym c.is_open.ensures.open ∙ c.if-is_open.true))
    in
    let waiting : c.parent_fired.new.self ≡ told c.self.inside.waiting s.0.child (c.in-Exact.finish + s.0.delay) =
    c.parent_fired.ensures ∙ ap (λ (z : Stub). told c.self.inside.waiting z.child (c.in-Exact.finish + z.delay)) read
    in
    subst (λ (v : Stubs). IsDomain g.C.Component.serves (record c.self.inside { incoming = v; waiting = c.parent_fired.new.self })) (sym (c.tell.ensures s.0 s.1))
    (subst (λ (w : Waits). IsDomain g.C.Component.serves (record c.self.inside { incoming = record { stubs = (set c.self.inside.incoming.stubs c.place_of-place.result (told_word c.args.word s.0)); floor = c.self.inside.incoming.floor }; waiting = w })) (sym waiting)
    (record {
      numbered = i.numbered;
      partitions = i.partitions;
      here = i.here;
      linked = i.linked;
      stubs = still_stubs d.graph.value d.parts.value d.domain d.here.items d.incoming.stubs c.place_of-place.result s.0 c.args.word i.stubs s.1;
      few = omega (arith, length-set d.incoming.stubs c.place_of-place.result (told_word c.args.word s.0), i.few);
      stands = stands_alike d.graph.value d.parts.value d.domain d.here.items (set c.self.inside.incoming.stubs c.place_of-place.result (told_word c.args.word s.0)) (told d.waiting s.0.child (c.in-Exact.finish + s.0.delay)) (own_of d).fired (own_of d).known
          (known_words d.parts.value.crossings (set c.self.inside.incoming.stubs c.place_of-place.result (told_word c.args.word s.0))) d.incoming.floor d.incoming.floor (stands_told d.graph.value d.parts.value d.domain d.here.items d.incoming.stubs (own_of d) d.waiting i.here i.stubs refl i.stands c.args.crossing c.args.word may c.place_of-place.result s.0 s.1 (c.place_of-place.ensures.number s.0 (ap (λ (xs : List Stub). slice_get xs c.place_of-place.result) c.stubs.ensures.stubs ∙ s.1)) c.in-Exact.finish c.in-Exact.is unknown);
      exits = i.exits;
      counted = i.counted ∙ sym (fired_told d.waiting s.0.child (c.in-Exact.finish + s.0.delay) (get_or d.waiting.waits s.0.child 0) (slice_get-get_or d.waiting.waits s.0.child 0 (child_within d.graph.value d.parts.value d.domain d.here.items d.incoming.stubs (own_of d) d.waiting i.here i.stubs refl i.stands c.args.crossing c.args.word may c.place_of-place.result s.0 s.1 (c.place_of-place.ensures.number s.0 (ap (λ (xs : List Stub). slice_get xs c.place_of-place.result) c.stubs.ensures.stubs ∙ s.1)) c.in-Exact.finish c.in-Exact.is unknown)) (child_few d.graph.value d.parts.value d.domain d.here.items d.incoming.stubs (own_of d) d.waiting i.here i.stubs refl i.stands c.args.crossing c.args.word may c.place_of-place.result s.0 s.1 (c.place_of-place.ensures.number s.0 (ap (λ (xs : List Stub). slice_get xs c.place_of-place.result) c.stubs.ensures.stubs ∙ s.1)) c.in-Exact.finish c.in-Exact.is unknown i.few));
      room = i.room;
      served = i.served;
    }))

pub invariant_of-self-in_default : goal.invariant_of-self-in_default
invariant_of-self-in_default g c =
    let d = c.self.inside in
    let i = c.self.invariant in
    let may : MayTell c.self.inside.graph.value c.self.inside.parts.value c.self.inside.domain (own_of c.self.inside) c.args.crossing c.args.word =
    subst (λ (v : DomainValue g.row.C.Denot). MayTell v.events v.partition v.domain v.own c.args.crossing c.args.word) (sym c.self.view_is) c.requires
    in
    let s : (s : Stub) × (slice_get c.self.inside.incoming.stubs c.place_of-place.result ≡ Some s) =
    get_there c.self.inside.incoming.stubs c.place_of-place.result (omega (arith, c.place_of-place.ensures.there, ap length c.stubs.ensures.stubs))
    in
    let read : get_or c.stubs-2.result.now c.place_of-place.result no_stub ≡ s.0 =
    ap (λ (xs : List Stub). get_or xs c.place_of-place.result no_stub) c.stubs-2.ensures.stubs ∙ get_or_from_slice_get c.self.inside.incoming.stubs c.place_of-place.result s.0 no_stub s.1
    in
    let bound : is_exact c.args.word ≡ false = not_exact c.args.word c.in_default.not-Exact in
    subst (λ (v : Stubs). IsDomain g.C.Component.serves (record c.self.inside { incoming = v })) (sym (c.tell.ensures s.0 s.1))
    (record {
      numbered = i.numbered;
      partitions = i.partitions;
      here = i.here;
      linked = i.linked;
      stubs = still_stubs d.graph.value d.parts.value d.domain d.here.items d.incoming.stubs c.place_of-place.result s.0 c.args.word i.stubs s.1;
      few = omega (arith, length-set d.incoming.stubs c.place_of-place.result (told_word c.args.word s.0), i.few);
      stands = stands_alike d.graph.value d.parts.value d.domain d.here.items (set c.self.inside.incoming.stubs c.place_of-place.result (told_word c.args.word s.0)) d.waiting (own_of d).fired (own_of d).known
          (known_words d.parts.value.crossings (set c.self.inside.incoming.stubs c.place_of-place.result (told_word c.args.word s.0))) d.incoming.floor d.incoming.floor (stands_raised d.graph.value d.parts.value d.domain d.here.items d.incoming.stubs (own_of d) d.waiting i.here i.stubs refl i.stands c.args.crossing c.args.word may c.place_of-place.result s.0 s.1 (c.place_of-place.ensures.number s.0 (ap (λ (xs : List Stub). slice_get xs c.place_of-place.result) c.stubs.ensures.stubs ∙ s.1)) bound);
      exits = i.exits;
      counted = i.counted;
      room = i.room;
      served = i.served;
    })

pub invariant_of-self-else-is_open : goal.invariant_of-self-else-is_open
invariant_of-self-else-is_open g c =
    let d = c.self.inside in
    let i = c.self.invariant in
    let may : MayTell c.self.inside.graph.value c.self.inside.parts.value c.self.inside.domain (own_of c.self.inside) c.args.crossing c.args.word =
    subst (λ (v : DomainValue g.row.C.Denot). MayTell v.events v.partition v.domain v.own c.args.crossing c.args.word) (sym c.self.view_is) c.requires
    in
    let s : (s : Stub) × (slice_get c.self.inside.incoming.stubs c.place_of-place.result ≡ Some s) =
    get_there c.self.inside.incoming.stubs c.place_of-place.result (omega (arith, c.place_of-place.ensures.there, ap length c.stubs.ensures.stubs))
    in
    let read : get_or c.stubs-2.result.now c.place_of-place.result no_stub ≡ s.0 =
    ap (λ (xs : List Stub). get_or xs c.place_of-place.result no_stub) c.stubs-2.ensures.stubs ∙ get_or_from_slice_get c.self.inside.incoming.stubs c.place_of-place.result s.0 no_stub s.1
    in
    let exact : is_exact s.0.word ≡ true =
    not_false (is_exact s.0.word) (ap (λ (z : Stub). not (is_exact z.word)) (sym read) ∙ (sym c.is_open.ensures.open ∙ c.if-is_open.false))
    in
    subst (λ (v : Stubs). IsDomain g.C.Component.serves (record c.self.inside { incoming = v })) (sym (c.tell.ensures s.0 s.1))
    (record {
      numbered = i.numbered;
      partitions = i.partitions;
      here = i.here;
      linked = i.linked;
      stubs = still_stubs d.graph.value d.parts.value d.domain d.here.items d.incoming.stubs c.place_of-place.result s.0 c.args.word i.stubs s.1;
      few = omega (arith, length-set d.incoming.stubs c.place_of-place.result (told_word c.args.word s.0), i.few);
      stands = stands_alike d.graph.value d.parts.value d.domain d.here.items (set c.self.inside.incoming.stubs c.place_of-place.result (told_word c.args.word s.0)) d.waiting (own_of d).fired (own_of d).known
          (known_words d.parts.value.crossings (set c.self.inside.incoming.stubs c.place_of-place.result (told_word c.args.word s.0))) d.incoming.floor d.incoming.floor (subst (λ (xs : List Stub). Stands d.graph.value d.parts.value d.domain (own_of d) d.here.items xs d.waiting) (sym (unchanged d.graph.value d.parts.value d.domain d.here.items d.incoming.stubs (own_of d) d.waiting i.here i.stubs refl i.stands c.args.crossing c.args.word may c.place_of-place.result s.0 s.1 (c.place_of-place.ensures.number s.0 (ap (λ (xs : List Stub). slice_get xs c.place_of-place.result) c.stubs.ensures.stubs ∙ s.1)) exact)) i.stands);
      exits = i.exits;
      counted = i.counted;
      room = i.room;
      served = i.served;
    })

pub returns-in-Exact : goal.returns-in-Exact
returns-in-Exact g c =
    let d = c.self.inside in
    let i = c.self.invariant in
    let may : MayTell c.self.inside.graph.value c.self.inside.parts.value c.self.inside.domain (own_of c.self.inside) c.args.crossing c.args.word =
    subst (λ (v : DomainValue g.row.C.Denot). MayTell v.events v.partition v.domain v.own c.args.crossing c.args.word) (sym c.self.view_is) c.requires
    in
    let s : (s : Stub) × (slice_get c.self.inside.incoming.stubs c.place_of-place.result ≡ Some s) =
    get_there c.self.inside.incoming.stubs c.place_of-place.result (omega (arith, c.place_of-place.ensures.there, ap length c.stubs.ensures.stubs))
    in
    let read : get_or c.stubs-2.result.now c.place_of-place.result no_stub ≡ s.0 =
    ap (λ (xs : List Stub). get_or xs c.place_of-place.result no_stub) c.stubs-2.ensures.stubs ∙ get_or_from_slice_get c.self.inside.incoming.stubs c.place_of-place.result s.0 no_stub s.1
    in
    ap (λ (v : Stubs). domain_value (record c.self.inside { incoming = v })) (c.tell.ensures s.0 s.1)
    ∙ (ap (λ (ks : List Word). record (domain_value c.self.inside) { own = record (own_of c.self.inside) { known = ks } }) (known_after d.graph.value d.parts.value d.domain d.here.items d.incoming.stubs (own_of d) d.waiting i.here i.stubs refl i.stands c.args.crossing c.args.word may c.place_of-place.result s.0 s.1 (c.place_of-place.ensures.number s.0 (ap (λ (xs : List Stub). slice_get xs c.place_of-place.result) c.stubs.ensures.stubs ∙ s.1)))
    ∙ ap (λ (v : DomainValue g.row.C.Denot). record v { own = with_known v.own c.args.crossing c.args.word }) c.self.view_is)

pub returns-in_default : goal.returns-in_default
returns-in_default g c =
    let d = c.self.inside in
    let i = c.self.invariant in
    let may : MayTell c.self.inside.graph.value c.self.inside.parts.value c.self.inside.domain (own_of c.self.inside) c.args.crossing c.args.word =
    subst (λ (v : DomainValue g.row.C.Denot). MayTell v.events v.partition v.domain v.own c.args.crossing c.args.word) (sym c.self.view_is) c.requires
    in
    let s : (s : Stub) × (slice_get c.self.inside.incoming.stubs c.place_of-place.result ≡ Some s) =
    get_there c.self.inside.incoming.stubs c.place_of-place.result (omega (arith, c.place_of-place.ensures.there, ap length c.stubs.ensures.stubs))
    in
    let read : get_or c.stubs-2.result.now c.place_of-place.result no_stub ≡ s.0 =
    ap (λ (xs : List Stub). get_or xs c.place_of-place.result no_stub) c.stubs-2.ensures.stubs ∙ get_or_from_slice_get c.self.inside.incoming.stubs c.place_of-place.result s.0 no_stub s.1
    in
    ap (λ (v : Stubs). domain_value (record c.self.inside { incoming = v })) (c.tell.ensures s.0 s.1)
    ∙ (ap (λ (ks : List Word). record (domain_value c.self.inside) { own = record (own_of c.self.inside) { known = ks } }) (known_after d.graph.value d.parts.value d.domain d.here.items d.incoming.stubs (own_of d) d.waiting i.here i.stubs refl i.stands c.args.crossing c.args.word may c.place_of-place.result s.0 s.1 (c.place_of-place.ensures.number s.0 (ap (λ (xs : List Stub). slice_get xs c.place_of-place.result) c.stubs.ensures.stubs ∙ s.1)))
    ∙ ap (λ (v : DomainValue g.row.C.Denot). record v { own = with_known v.own c.args.crossing c.args.word }) c.self.view_is)

pub returns-else-is_open : goal.returns-else-is_open
returns-else-is_open g c =
    let d = c.self.inside in
    let i = c.self.invariant in
    let may : MayTell c.self.inside.graph.value c.self.inside.parts.value c.self.inside.domain (own_of c.self.inside) c.args.crossing c.args.word =
    subst (λ (v : DomainValue g.row.C.Denot). MayTell v.events v.partition v.domain v.own c.args.crossing c.args.word) (sym c.self.view_is) c.requires
    in
    let s : (s : Stub) × (slice_get c.self.inside.incoming.stubs c.place_of-place.result ≡ Some s) =
    get_there c.self.inside.incoming.stubs c.place_of-place.result (omega (arith, c.place_of-place.ensures.there, ap length c.stubs.ensures.stubs))
    in
    let read : get_or c.stubs-2.result.now c.place_of-place.result no_stub ≡ s.0 =
    ap (λ (xs : List Stub). get_or xs c.place_of-place.result no_stub) c.stubs-2.ensures.stubs ∙ get_or_from_slice_get c.self.inside.incoming.stubs c.place_of-place.result s.0 no_stub s.1
    in
    ap (λ (v : Stubs). domain_value (record c.self.inside { incoming = v })) (c.tell.ensures s.0 s.1)
    ∙ (ap (λ (ks : List Word). record (domain_value c.self.inside) { own = record (own_of c.self.inside) { known = ks } }) (known_after d.graph.value d.parts.value d.domain d.here.items d.incoming.stubs (own_of d) d.waiting i.here i.stubs refl i.stands c.args.crossing c.args.word may c.place_of-place.result s.0 s.1 (c.place_of-place.ensures.number s.0 (ap (λ (xs : List Stub). slice_get xs c.place_of-place.result) c.stubs.ensures.stubs ∙ s.1)))
    ∙ ap (λ (v : DomainValue g.row.C.Denot). record v { own = with_known v.own c.args.crossing c.args.word }) c.self.view_is)
