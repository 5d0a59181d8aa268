-- The bytes of accesses, one after the other, are those of the whole.
use Rattle.std.proofs.Common.{◌≡◌, ◌<◌, ◌≤◌, ◌+◌, ◌-◌, ◌*◌, ◌/◌, ◌%◌, ◌^◌, ℕ, zero, suc, Bool, true, false, List, [], ◌∷◌, ◌++◌, All, length, take, drop, arith, refl, sym, ap, subst, ◌∙◌, zero-add}
use Rattle.std.specs.Prelude.{if◌then◌else◌}
use Rattle.std.specs.List.{flat_map}
use Rattle.std.proofs.Math.Nat.{div-one, mod-eq_of_lt, mul_assoc}
use Rattle.std.proofs.lemmas.Bool.{leb-false}
use Rattle.std.proofs.lemmas.List.{append-nil, length-take, length-drop, take_all, take-append-drop}
use Rattle.std.proofs.lemmas.List.Elements.{All-drop, All-head, All-tail, All-take}
use Rattle.std.proofs.lemmas.Nat.{mod-pow-add, mod_low, pow-add, shr-shr, shr_high}
use Rattle.zs_num.specs.declared.request.Request.{Request}
use Rattle.rv_core.specs.Accesses.{high_bytes, is_in_line, joined, left_in_line, load_requests, low_bytes, store_requests}
use Rattle.rv_core.specs.Laws.{addresses, addresses_of, bytes_of, bytes_stored, number_of_bytes, replies_loaded}

-- what holds of both holds of either
cond-cases : {A : Type 0} (P : A → Type 0) (test : Bool) (one other : A) → (test ≡ true → P one) → (test ≡ false → P other) → P (if test then one else other)
cond-cases P true one other holds fails = holds refl
cond-cases P false one other holds fails = fails refl

-- ---- one byte more

eight-more : (n : ℕ) → 8 * suc n ≡ 8 * n + 8
eight-more n = omega arith

pow-eight : (n : ℕ) → 2 ^ (8 * suc n) ≡ 2 ^ (8 * n) * 256
pow-eight n = ap (λ k. 2 ^ k) (eight-more n) ∙ pow-add 2 (8 * n) 8

pow-eight_times : (n y : ℕ) → 2 ^ (8 * suc n) * y ≡ 256 * (2 ^ (8 * n) * y)
pow-eight_times n y =
    let e = pow-eight n in
    let turned : 2 ^ (8 * n) * 256 ≡ 256 * 2 ^ (8 * n) = omega arith in
    ap (λ p. p * y) (e ∙ turned) ∙ mul_assoc 256 (2 ^ (8 * n)) y

-- ---- bytes of numbers

bytes_of-low : (count n : ℕ) → bytes_of count (low_bytes count n) ≡ bytes_of count n
bytes_of-low zero n = refl
bytes_of-low (suc count) n =
    let split : low_bytes (suc count) n ≡ n / 256 % 2 ^ (8 * count) * 256 + n % 256 = ap (λ k. n % 2 ^ k) (eight-more count) ∙ mod-pow-add n (8 * count) 8 in
    let below : n % 256 < 2 ^ 8 = omega arith in
    let low : low_bytes (suc count) n % 256 ≡ n % 256 = ap (λ x. x % 256) split ∙ mod_low (n / 256 % 2 ^ (8 * count)) 8 (n % 256) below in
    let high : low_bytes (suc count) n / 256 ≡ n / 256 % 2 ^ (8 * count) = ap (λ x. x / 256) split ∙ shr_high (n / 256 % 2 ^ (8 * count)) 8 (n % 256) below in
    let rest = bytes_of-low count (n / 256) in
    rw (low, high) (ap (λ bytes. n % 256 ∷ bytes) rest)

bytes_of-append : (a b n : ℕ) → bytes_of (a + b) n ≡ bytes_of a n ++ bytes_of b (high_bytes a n)
bytes_of-append zero b n =
    let whole : n / 2 ^ (8 * 0) ≡ n = div-one n in
    ap (λ k. bytes_of k n) (zero-add b) ∙ ap (bytes_of b) (sym whole)
bytes_of-append (suc a) b n =
    let rest = bytes_of-append a b (n / 256) in
    let high : n / 256 / 2 ^ (8 * a) ≡ high_bytes (suc a) n = shr-shr n 8 (8 * a) ∙ ap (λ k. n / 2 ^ k) (let e : 8 + 8 * a ≡ 8 * suc a = omega arith in e) in
    let more : suc a + b ≡ suc (a + b) = omega arith in
    ap (λ k. bytes_of k n) more ∙ ap (λ bytes. n % 256 ∷ bytes) (rest ∙ ap (λ h. bytes_of a (n / 256) ++ bytes_of b h) high)

-- ---- numbers of bytes

number_of-append : (xs ys : List ℕ) → number_of_bytes (xs ++ ys) ≡ number_of_bytes xs + 2 ^ (8 * length xs) * number_of_bytes ys
number_of-append [] ys = omega arith
number_of-append (x ∷ xs) ys =
    let rest = number_of-append xs ys in
    let step = pow-eight_times (length xs) (number_of_bytes ys) in
    omega (arith, rest, step)

number_of-below : (xs : List ℕ) → All (λ b. b < 256) xs → number_of_bytes xs < 2 ^ (8 * length xs)
number_of-below [] bytes = omega arith
number_of-below (x ∷ xs) bytes =
    let rest : number_of_bytes xs < 2 ^ (8 * length xs) = number_of-below xs (All-tail (λ b. b < 256) x xs bytes) in
    let first : x < 256 = All-head (λ b. b < 256) x xs bytes in
    let step = pow-eight (length xs) in
    omega (arith, rest, first, step)

-- ---- addresses

addresses-append : (addr a b : ℕ) → addresses addr (a + b) ≡ addresses addr a ++ addresses (addr + a) b
addresses-append addr zero b = ap (addresses addr) (zero-add b) ∙ ap (λ from. addresses from b) (let e : addr ≡ addr + 0 = omega arith in e)
addresses-append addr (suc a) b =
    let rest = addresses-append (addr + 1) a b in
    let from : addr + 1 + a ≡ addr + suc a = omega arith in
    let more : suc a + b ≡ suc (a + b) = omega arith in
    ap (addresses addr) more ∙ ap (λ list. addr ∷ list) (rest ∙ ap (λ k. addresses (addr + 1) a ++ addresses k b) from)

-- the first line's bytes and the others are all
split-width : (addr width : ℕ) → is_in_line addr width ≡ false → left_in_line addr + (width - left_in_line addr) ≡ width
split-width addr width e = let past : 64 < addr % 64 + width = leb-false _ _ e in omega arith

two-parts : (addr width : ℕ) → is_in_line addr width ≡ false
    → addresses addr (left_in_line addr) ++ (addresses (addr + left_in_line addr) (width - left_in_line addr) ++ []) ≡ addresses addr width
two-parts addr width e =
    ap (λ list. addresses addr (left_in_line addr) ++ list) (append-nil _)
    ∙ sym (addresses-append addr (left_in_line addr) (width - left_in_line addr))
    ∙ ap (addresses addr) (split-width addr width e)

pub loads_cover : (addr width : ℕ) → addresses_of (load_requests addr width) ≡ addresses addr width
unfolding load_requests
loads_cover addr width =
    cond-cases (λ (requests : List Request). addresses_of requests ≡ addresses addr width) (is_in_line addr width) _ _
    (λ e. append-nil (addresses addr width)) (λ e. two-parts addr width e)

pub stores_cover : (addr width value : ℕ) → addresses_of (store_requests addr width value) ≡ addresses addr width
unfolding store_requests
stores_cover addr width value =
    cond-cases (λ (requests : List Request). addresses_of requests ≡ addresses addr width) (is_in_line addr width) _ _
    (λ e. append-nil (addresses addr width)) (λ e. two-parts addr width e)

pub stores_write : (addr width value : ℕ) → flat_map bytes_stored (store_requests addr width value) ≡ bytes_of width value
unfolding store_requests
stores_write addr width value =
    cond-cases (λ (requests : List Request). flat_map bytes_stored requests ≡ bytes_of width value) (is_in_line addr width) _ _
    (λ e. append-nil (bytes_of width (low_bytes width value)) ∙ bytes_of-low width value)
    (λ e.
    let lower = left_in_line addr in
    let upper = width - left_in_line addr in
    ap (λ bytes. bytes_of lower (low_bytes lower value) ++ bytes) (append-nil (bytes_of upper (low_bytes upper (high_bytes lower value))))
    ∙ ap (λ bytes. bytes ++ bytes_of upper (low_bytes upper (high_bytes lower value))) (bytes_of-low lower value)
    ∙ ap (λ bytes. bytes_of lower value ++ bytes) (bytes_of-low upper (high_bytes lower value))
    ∙ sym (bytes_of-append lower upper value)
    ∙ ap (λ k. bytes_of k value) (split-width addr width e))

-- a number of so many bytes is its own lowest bytes
low_bytes-whole : (xs : List ℕ) (count : ℕ) → length xs ≡ count → All (λ b. b < 256) xs → low_bytes count (number_of_bytes xs) ≡ number_of_bytes xs
low_bytes-whole xs count size bytes =
    let below : number_of_bytes xs < 2 ^ (8 * count) = subst (λ k. number_of_bytes xs < 2 ^ (8 * k)) size (number_of-below xs bytes) in mod-eq_of_lt below

pub loads_join : (addr width : ℕ) (bytes : List ℕ) → length bytes ≡ width → All (λ b. b < 256) bytes → joined (replies_loaded (load_requests addr width) bytes) ≡ number_of_bytes bytes
unfolding load_requests
loads_join addr width bytes size all =
    cond-cases (λ (requests : List Request). joined (replies_loaded requests bytes) ≡ number_of_bytes bytes) (is_in_line addr width) _ _
    (λ e.
    let long : length bytes ≤ width = omega arith in
    let here : take width bytes ≡ bytes = take_all width bytes long in
    let whole = low_bytes-whole bytes width size all in
    let one : low_bytes width (number_of_bytes (take width bytes)) + 2 ^ (8 * width) * 0 ≡ low_bytes width (number_of_bytes (take width bytes)) = omega arith in
    one ∙ ap (λ list. low_bytes width (number_of_bytes list)) here ∙ whole)
    (λ e.
    let lower = left_in_line addr in
    let upper = width - left_in_line addr in
    let few : lower + upper ≡ width = split-width addr width e in
    let first_size : length (take lower bytes) ≡ lower = simp length-take (omega arith) in
    let rest_size : length (drop lower bytes) ≡ upper = simp length-drop (omega arith) in
    let long : length (drop lower bytes) ≤ upper = omega arith in
    let rest_whole : take upper (drop lower bytes) ≡ drop lower bytes = take_all upper (drop lower bytes) long in
    let first = low_bytes-whole (take lower bytes) lower first_size (All-take (λ b. b < 256) lower bytes all) in
    let rest = ap (λ list. low_bytes upper (number_of_bytes list)) rest_whole ∙ low_bytes-whole (drop lower bytes) upper rest_size (All-drop (λ b. b < 256) lower bytes all) in
    let one : low_bytes upper (number_of_bytes (take upper (drop lower bytes))) + 2 ^ (8 * upper) * 0 ≡ low_bytes upper (number_of_bytes (take upper (drop lower bytes))) = omega arith in
    ap (λ n. low_bytes lower (number_of_bytes (take lower bytes)) + 2 ^ (8 * lower) * n) (one ∙ rest)
    ∙ ap (λ n. n + 2 ^ (8 * lower) * number_of_bytes (drop lower bytes)) first
    ∙ ap (λ k. number_of_bytes (take lower bytes) + 2 ^ (8 * k) * number_of_bytes (drop lower bytes)) (sym first_size)
    ∙ sym (number_of-append (take lower bytes) (drop lower bytes))
    ∙ ap number_of_bytes (take-append-drop lower bytes))
