-- What the outputs came to, by what the calls on them answered.
use Rattle.std.proofs.Common.{◌≡◌, ◌≢◌, ◌⊎◌, ◌<◌, ℕ, Bool, true, false, if◌then◌else◌, bytes_eq, List, [], ◌∷◌, ◌++◌, length, take, Option, None, Some, Result, Ok, Err, IsTrue, OnErr, OnOk, refl, ap, subst, sym, ◌∙◌, inl, inr, append-nil, true≢false, zero-lt-suc}
use Rattle.std.specs.Prelude.{⊤}
use Rattle.std.proofs.lemmas.Slice.Eq.{bytes_eq-Decides}
use Rattle.zs_host.specs.declared.fault.Operation.TheVariants.{Write}
use Rattle.zs_host.specs.declared.files.FileFail.{FileFail}
use Rattle.zs_host.specs.declared.files.FileFail.TheVariants as fail
use Rattle.zs_host.specs.declared.sink.SinkFail.{SinkFail}
use Rattle.zs_host.specs.declared.sink.SinkFail.TheVariants as put
use Rattle.zs_host.specs.Faults.{FileFaults, Rose, SinkFaults}
use Rattle.zs_host.specs.Files.{HoldsOrCut}
use Rattle.zsim.specs.declared.ended.Said.TheVariants as said
use Rattle.zsim.specs.declared.ended.Status.{Status}
use Rattle.zsim.specs.declared.ended.Status.TheVariants as status
use Rattle.zsim.specs.declared.ended.Which.TheVariants as which
use Rattle.zsim.specs.Ended.{Says}
use Rattle.zsim.specs.ErrorLine.{error_line}
use Rattle.zsim.specs.Outputs.{HoldsWith, NamedFile, WereCut, WereWritten, held_with, named_file, named_if}
use Rattle.zsim.specs.Seen.{FilesSeen, Gained, GainedNothing, GainedPrefix, NoFileFailed, NoPutFailed, SameNames, SinkSeen}
use Rattle.zsim.specs.Steps.{FailedOnWrite, Writes}

-- ---- names

-- the file that was being written is one of those that are named
output_named : (to : Option (List ℕ)) (bytes : List ℕ) (done : List NamedFile) (cut : NamedFile) (rest : List NamedFile) → named_if to bytes ≡ done ++ cut ∷ rest → to ≡ Some cut.name
output_named None bytes [] cut rest is = absurd cc
output_named None bytes (f ∷ fs) cut rest is = absurd cc
output_named (Some name) bytes [] cut rest is =
    let same : named_file name bytes ≡ cut = cc in
    ap (λ (f : NamedFile). Some f.name) same
output_named (Some name) bytes (f ∷ []) cut rest is = absurd cc
output_named (Some name) bytes (f ∷ g ∷ fs) cut rest is = absurd cc

-- the same of two lists, one behind the other
pub output_of_two : (to then_to : Option (List ℕ)) (bytes then_bytes : List ℕ) (done : List NamedFile) (cut : NamedFile) (rest : List NamedFile)
    → named_if to bytes ++ named_if then_to then_bytes ≡ done ++ cut ∷ rest → (to ≡ Some cut.name) ⊎ (then_to ≡ Some cut.name)
output_of_two None then_to bytes then_bytes done cut rest is = inr (output_named then_to then_bytes done cut rest is)
output_of_two (Some name) then_to bytes then_bytes [] cut rest is =
    let same : named_file name bytes ≡ cut = cc in
    inl (ap (λ (f : NamedFile). Some f.name) same)
output_of_two (Some name) then_to bytes then_bytes (f ∷ fs) cut rest is =
    let behind : named_if then_to then_bytes ≡ fs ++ cut ∷ rest = cc in
    inr (output_named then_to then_bytes fs cut rest behind)

-- what a name holds behind one file more
pub held_behind : (xs ys : List NamedFile) (before : Option (List ℕ)) (name : List ℕ) → held_with (xs ++ ys) before name ≡ held_with ys (held_with xs before name) name
held_behind [] ys before name = refl
held_behind (f ∷ fs) ys before name = held_behind fs ys (if bytes_eq name f.name then Some f.bytes else before) name

-- the name of a file, and any other
pub at_name : (name bytes : List ℕ) (before : Option (List ℕ)) → held_with (named_file name bytes ∷ []) before name ≡ Some bytes
at_name name bytes before = let same : bytes_eq name name ≡ true = (bytes_eq-Decides name name).1 refl in rw same refl

by_name : (files : FilesSeen) (name : List ℕ) (bytes : List ℕ) → files.held_after name ≡ Some bytes
    → ((other : List ℕ) → other ≢ name → files.held_after other ≡ files.held_before other)
    → (other : List ℕ) (is : Bool) → bytes_eq other name ≡ is → files.held_after other ≡ (if is then Some bytes else files.held_before other)
by_name files name bytes held others other true is = ap files.held_after ((bytes_eq-Decides other name).0 is) ∙ held
by_name files name bytes held others other false is =
    others other (λ same. let yes : bytes_eq other name ≡ true = (bytes_eq-Decides other name).1 same in absurd (true≢false (sym yes ∙ is)))

holds_with : (files : FilesSeen) (name bytes : List ℕ) → files.held_after name ≡ Some bytes
    → ((other : List ℕ) → other ≢ name → files.held_after other ≡ files.held_before other) → HoldsWith files (named_file name bytes ∷ [])
holds_with files name bytes held others other = by_name files name bytes held others other (bytes_eq other name) refl

by_name_same : (files : FilesSeen) (name : List ℕ) → files.held_after name ≡ files.held_before name
    → ((other : List ℕ) → other ≢ name → files.held_after other ≡ files.held_before other)
    → (other : List ℕ) (is : Bool) → bytes_eq other name ≡ is → files.held_after other ≡ files.held_before other
by_name_same files name held others other true is =
    let same : other ≡ name = (bytes_eq-Decides other name).0 is in
    subst (λ (n : List ℕ). files.held_after n ≡ files.held_before n) (sym same) held
by_name_same files name held others other false is =
    others other (λ same. let yes : bytes_eq other name ≡ true = (bytes_eq-Decides other name).1 same in absurd (true≢false (sym yes ∙ is)))

-- ---- one file

held_or_cut : (files : FilesSeen) (name bytes : List ℕ) → HoldsOrCut (files.held_before name) bytes (files.held_after name)
    → ((other : List ℕ) → other ≢ name → files.held_after other ≡ files.held_before other)
    → HoldsWith files [] ⊎ ((n : ℕ) × HoldsWith files (named_file name (take n bytes) ∷ []))
held_or_cut files name bytes (inl same) others = inl (λ other. by_name_same files name same others other (bytes_eq other name) refl)
held_or_cut files name bytes (inr (n, is)) others = inr (n, holds_with files name (take n bytes) is others)

abbrev was_cut : (files : FilesSeen) (name bytes : List ℕ) → (IsTrue files.is_seen → HoldsOrCut (files.held_before name) bytes (files.held_after name))
    → (IsTrue files.is_seen → (other : List ℕ) → other ≢ name → files.held_after other ≡ files.held_before other) → WereCut files (named_file name bytes ∷ [])
was_cut files name bytes cut others = record {
  done = [];
  cut = named_file name bytes;
  rest = [];
  are = refl;
  held = λ told. held_or_cut files name bytes (cut told) (others told);
}

-- what a call that writes a file came to
written : {T : Type 0} (r : Result T FileFail) (files : FilesSeen) (name bytes : List ℕ)
    → OnOk r (IsTrue files.is_seen → files.held_after name ≡ Some bytes)
    → OnErr r (IsTrue files.is_seen → HoldsOrCut (files.held_before name) bytes (files.held_after name))
    → (IsTrue files.is_seen → (other : List ℕ) → other ≢ name → files.held_after other ≡ files.held_before other)
    → FileFaults r files.faults_before files.faults_after files.latest_before files.latest_after (record { operation = Write; name = name })
    → Writes r (named_file name bytes ∷ []) files
written (Ok x) files name bytes whole cut others faults =
    (record { faults = faults.0; latest = faults.1 }, λ told. holds_with files name bytes (whole told) (others told))
written (Err fail.NoMemory) files name bytes whole cut others faults = (record { faults = faults.0; latest = faults.1 }, was_cut files name bytes cut others)
written (Err fail.Failed) files name bytes whole cut others faults =
    record { short = was_cut files name bytes cut others; failed = record { failed = faults.0; latest = faults.1 } }

pub written_as : {T : Type 0} (r : Result T FileFail) (outputs : List NamedFile) (files : FilesSeen) (name bytes : List ℕ) → outputs ≡ named_file name bytes ∷ []
    → OnOk r (IsTrue files.is_seen → files.held_after name ≡ Some bytes)
    → OnErr r (IsTrue files.is_seen → HoldsOrCut (files.held_before name) bytes (files.held_after name))
    → (IsTrue files.is_seen → (other : List ℕ) → other ≢ name → files.held_after other ≡ files.held_before other)
    → FileFaults r files.faults_before files.faults_after files.latest_before files.latest_after (record { operation = Write; name = name })
    → Writes r outputs files
written_as r outputs files name bytes is whole cut others faults =
    subst (λ (fs : List NamedFile). Writes r fs files) (sym is) (written r files name bytes whole cut others faults)

-- there was no file to write, and nothing was
pub none_written : (outputs : List NamedFile) (files : FilesSeen) → outputs ≡ [] → SameNames files → WereWritten files outputs
none_written outputs files is same = subst (λ (fs : List NamedFile). WereWritten files fs) (sym is) same

-- a put or a write failed, or memory ran out in it
pub put_failed : (e : SinkFail) (before after : ℕ) → e ≡ put.Failed → SinkFaults {T = ⊤} (Err e) before after → Rose before after
put_failed put.Failed before after is faults = faults
put_failed put.NoMemory before after is faults = absurd cc

pub put_no_memory : (e : SinkFail) (before after : ℕ) → e ≡ put.NoMemory → SinkFaults {T = ⊤} (Err e) before after → after ≡ before
put_no_memory put.Failed before after is faults = absurd cc
put_no_memory put.NoMemory before after is faults = faults

pub write_failed : (e : FileFail) (outputs : List NamedFile) (files : FilesSeen) → e ≡ fail.Failed → Writes {T = ⊤} (Err e) outputs files → FailedOnWrite files outputs
write_failed fail.Failed outputs files is writes = writes
write_failed fail.NoMemory outputs files is writes = absurd cc

pub write_no_memory : (e : FileFail) (outputs : List NamedFile) (files : FilesSeen) → e ≡ fail.NoMemory → Writes {T = ⊤} (Err e) outputs files
    → NoFileFailed files × WereCut files outputs
write_no_memory fail.Failed outputs files is writes = absurd cc
write_no_memory fail.NoMemory outputs files is writes = writes

-- what was put is the report
pub gained : (out : SinkSeen) (put text whole : List ℕ) → put ≡ text → text ≡ whole → Gained out put → Gained out whole
gained out put text whole is same all = subst (Gained out) (is ∙ same) all

pub gained_part : (out : SinkSeen) (put text whole : List ℕ) → put ≡ text → text ≡ whole → GainedPrefix out put → GainedPrefix out whole
gained_part out put text whole is same part = subst (GainedPrefix out) (is ∙ same) part

-- nothing was put of a text that has bytes
pub nothing_gained : (out : SinkSeen) (byte : ℕ) (rest : List ℕ) → GainedNothing out → GainedPrefix out (byte ∷ rest)
nothing_gained out byte rest nothing = λ told. (0, zero-lt-suc _, nothing told ∙ sym (append-nil out.bytes_before))

-- ---- the line of a status

-- there is nothing to say
pub no_line : (s : Status) (err : SinkSeen) → s ≡ status.Ran → NoPutFailed err → GainedNothing err → Says said.All s err
no_line s err is none nothing = (λ told. nothing told ∙ sym (append-nil err.bytes_before) ∙ ap (λ (t : Status). err.bytes_before ++ error_line t) (sym is), none)

-- all others have a line
has_line : (s : Status) → (s ≡ status.Ran → ⊥) → 0 < length (error_line s)
has_line status.Ran not = absurd (not refl)
has_line status.Limit not = zero-lt-suc _
has_line status.Usage not = zero-lt-suc _
has_line status.ReadFault not = zero-lt-suc _
has_line status.WriteFault not = zero-lt-suc _
has_line (status.BadMachine bad) not = zero-lt-suc _
has_line (status.BadElf bad) not = zero-lt-suc _
has_line (status.BadSchedule wrong) not = zero-lt-suc _
has_line (status.TooLong which.Machine) not = zero-lt-suc _
has_line (status.TooLong which.Exe) not = zero-lt-suc _
has_line (status.TooLong which.Schedule) not = zero-lt-suc _
has_line (status.TooLong which.Events) not = zero-lt-suc _
has_line (status.BadEvents bad) not = zero-lt-suc _
has_line (status.NotWoven verdict) not = zero-lt-suc _
has_line status.NoMemory not = zero-lt-suc _

-- memory ran out before any of it was put
pub line_not_begun : (s : Status) (err : SinkSeen) → (s ≡ status.Ran → ⊥) → NoPutFailed err → GainedNothing err → Says said.NoMemory s err
line_not_begun s err not none nothing = (λ told. (0, has_line s not, nothing told ∙ sym (append-nil err.bytes_before)), none)
