-- The lists that were read, before those that the rest of the file gives.
use Rattle.std.proofs.Common.{◌≡◌, ℕ, suc, ◌+◌, ◌*◌, ◌<◌, List, [], ◌∷◌, ◌++◌, length, take, get_or, Some, slice_get, unwrap_or, Result, Ok, Err, refl, ap, sym, ◌∙◌, append_assoc, append-nil, add-one, length-append, zero, arith}
use Rattle.std.proofs.lemmas.Bool.{eq-eqb}
use Rattle.std.proofs.lemmas.List.{take_more}
use Rattle.std.proofs.lemmas.Option.{none-some}
use Rattle.std.proofs.lemmas.Grind.{flat_map-append}
use Rattle.std.specs.List.{flat_map}
use Rattle.schedule_file.specs.declared.bad_schedule.BadSchedule.{BadSchedule}
use Rattle.byteorder.specs.Endian.{little_bytes}
use Rattle.schedule_file.specs.ScheduleFile.{list_bytes, lists_from, then_read, turns_from, width_for}

abbrev pub behind : List (List ℕ) → Result (List (List ℕ)) BadSchedule → Result (List (List ℕ)) BadSchedule
behind done (Ok rest) = Ok (done ++ rest)
behind done (Err wrong) = Err wrong

pub behind_none : (rest : Result (List (List ℕ)) BadSchedule) → rest ≡ behind [] rest
behind_none (Ok rest) = refl
behind_none (Err wrong) = refl

pub behind_more : (done : List (List ℕ)) (turns : List ℕ) (rest : Result (List (List ℕ)) BadSchedule)
    → behind done (then_read rest (λ lists. Ok (turns ∷ lists))) ≡ behind (done ++ turns ∷ []) rest
behind_more done turns (Ok rest) = ap Ok (sym (append_assoc done (turns ∷ []) rest))
behind_more done turns (Err wrong) = refl

-- one more list was read
pub read_more : (cores : ℕ) (bytes : List ℕ) (done : List (List ℕ)) (count interval at : ℕ) (turns : List ℕ) → turns_from cores bytes interval at ≡ Ok turns
    → behind done (lists_from cores bytes (suc count) interval at) ≡ behind (done ++ turns ∷ []) (lists_from cores bytes count (interval + 1) (at + (4 + width_for cores * length turns)))
read_more cores bytes done count interval at turns is = rw is (behind_more done turns (lists_from cores bytes count (interval + 1) (at + (4 + width_for cores * length turns))))

-- before the first list
pub read_none : (cores : ℕ) (bytes : List ℕ) (count left : ℕ) (done : List (List ℕ)) → done ≡ [] → left ≡ count
    → lists_from cores bytes count 0 16 ≡ behind done (lists_from cores bytes left 0 16)
read_none cores bytes count left done none all = rw none (rw all (behind_none (lists_from cores bytes count 0 16)))

-- after one list more, where `left` are to come
pub read_on : (cores : ℕ) (bytes : List ℕ) (whole : Result (List (List ℕ)) BadSchedule) (done after : List (List ℕ)) (count left interval at at_after : ℕ) (turns : List ℕ)
    → whole ≡ behind done (lists_from cores bytes count interval at) → count ≡ suc left → turns_from cores bytes interval at ≡ Ok turns → after ≡ done ++ turns ∷ []
    → at_after ≡ at + (4 + width_for cores * length turns) → whole ≡ behind after (lists_from cores bytes left (interval + 1) at_after)
read_on cores bytes whole done after count left interval at at_after turns so_far more is pushed goes_on =
    so_far ∙ (ap (λ n. behind done (lists_from cores bytes n interval at)) more
    ∙ (read_more cores bytes done left interval at turns is
    ∙ (ap (λ lists. behind lists (lists_from cores bytes left (interval + 1) (at + (4 + width_for cores * length turns)))) (sym pushed)
    ∙ ap (λ next. behind after (lists_from cores bytes left (interval + 1) next)) (sym goes_on))))

pub one_more : (done after : List (List ℕ)) (turns : List ℕ) (n : ℕ) → after ≡ done ++ turns ∷ [] → length done ≡ n → length after ≡ n + 1
one_more done after turns n is so_far = ap length is ∙ omega (arith, so_far, length-append done (turns ∷ []))

-- ---- written

flat_map-snoc : {A : Type 0} (bytes_of : A → List ℕ) (xs : List A) (x : A) → flat_map bytes_of (xs ++ x ∷ []) ≡ flat_map bytes_of xs ++ bytes_of x
flat_map-snoc bytes_of xs x = flat_map-append bytes_of xs (x ∷ []) ∙ ap (λ bytes. flat_map bytes_of xs ++ bytes) (append-nil (bytes_of x))

-- the first lists of some, and one more
lists_on : (lists : List (List ℕ)) (k : ℕ) (turns : List ℕ) → slice_get lists k ≡ Some turns → take (suc k) lists ≡ take k lists ++ turns ∷ []
lists_on [] k turns is = absurd (none-some turns is)
lists_on (x ∷ xs) zero turns is = ap (λ t. t ∷ []) (ap (λ found. unwrap_or found x) is)
lists_on (x ∷ xs) (suc k) turns is = ap (λ ts. x ∷ ts) (lists_on xs k turns is)

pub written_on : (width : ℕ) (header out after : List ℕ) (lists : List (List ℕ)) (k : ℕ) (turns : List ℕ) → out ≡ header ++ flat_map (list_bytes width) (take k lists)
    → slice_get lists k ≡ Some turns → after ≡ out ++ list_bytes width turns → after ≡ header ++ flat_map (list_bytes width) (take (k + 1) lists)
written_on width header out after lists k turns so_far is put =
    put ∙ (ap (λ bytes. bytes ++ list_bytes width turns) so_far
    ∙ (append_assoc header (flat_map (list_bytes width) (take k lists)) (list_bytes width turns)
    ∙ ap (λ bytes. header ++ bytes) (sym (ap (λ taken. flat_map (list_bytes width) taken) (ap (λ n. take n lists) (add-one k) ∙ lists_on lists k turns is) ∙ flat_map-snoc (list_bytes width) (take k lists) turns))))

-- after the last list, at the end of the file
pub read_all : (cores : ℕ) (bytes : List ℕ) (whole : Result (List (List ℕ)) BadSchedule) (done : List (List ℕ)) (left interval at : ℕ)
    → whole ≡ behind done (lists_from cores bytes left interval at) → left ≡ 0 → at ≡ length bytes → whole ≡ Ok done
read_all cores bytes whole done left interval at so_far none end =
    so_far ∙ rw (none, eq-eqb at (length bytes) end) (ap Ok (append-nil done))

-- ---- one turn more was written

pub put_on : (width : ℕ) (start number turns old new : List ℕ) (i d : ℕ) → old ≡ start ++ (number ++ flat_map (little_bytes width) (take i turns)) → i < length turns
    → new ≡ old ++ little_bytes width (get_or turns i d) → new ≡ start ++ (number ++ flat_map (little_bytes width) (take (i + 1) turns))
put_on width start number turns old new i d so_far below put =
    let so_many = flat_map (little_bytes width) (take i turns) in
    let turn = little_bytes width (get_or turns i d) in
    let more : flat_map (little_bytes width) (take (i + 1) turns) ≡ so_many ++ turn =
    ap (flat_map (little_bytes width)) (take_more turns i d below) ∙ flat_map-snoc (little_bytes width) (take i turns) (get_or turns i d) in
    put ∙ (ap (λ ns. ns ++ turn) so_far
    ∙ (append_assoc start (number ++ so_many) turn
    ∙ ap (λ ns. start ++ ns) (append_assoc number so_many turn ∙ ap (λ ns. number ++ ns) (sym more))))
