-- A number read where a field was written.
use Rattle.std.proofs.Common.{◌≡◌, ℕ, zero, suc, ◌+◌, ◌^◌, ◌<◌, List, [], ◌∷◌, ◌++◌, length, take, drop, get_or, refl, sym, ap, ◌∙◌, arith, length-append}
use Rattle.std.proofs.lemmas.List.{append_assoc, drop-drop, drop_at}
use Rattle.byteorder.specs.Endian.{little_bytes, little_number}
use Rattle.byteorder.specs.Numbers.{little_number-reads_back, length-bytes_low_first}
use Rattle.elf_load.specs.Header.{read_field}
use Rattle.elf_write.specs.declared.field.Field.{Field}
use Rattle.elf_write.specs.File.{fields_bytes}

-- how many bytes fields take
abbrev pub widths : List Field → ℕ
widths [] = 0
widths (f ∷ fs) = f.width + widths fs

pub length-fields_bytes : (fs : List Field) → length (fields_bytes fs) ≡ widths fs
length-fields_bytes [] = refl
length-fields_bytes (f ∷ fs) =
    omega (arith, length-append (little_bytes f.width f.value) (fields_bytes fs), length-bytes_low_first 0 f.width f.value, length-fields_bytes fs)

-- a number past what stands in front
pub read_field-past : (front rest : List ℕ) (n at w : ℕ) → length front ≡ n → read_field (front ++ rest) (n + at) w ≡ read_field rest at w
read_field-past front rest n at w e =
    ap (little_number w) (sym (drop-drop at n (front ++ rest)) ∙ ap (drop at) (drop_at front rest n e))

-- the number of a field, read at its place
pub field-written : (fs : List Field) (k : ℕ) (d : Field) (rest : List ℕ) → k < length fs → (get_or fs k d).value < 256 ^ (get_or fs k d).width → read_field (fields_bytes fs ++ rest) (widths (take k fs)) (get_or fs k d).width ≡ (get_or fs k d).value
field-written [] k d rest l h = absurd (omega arith)
field-written (f ∷ fs) zero d rest l h =
    rw append_assoc (little_number-reads_back f.width f.value (fields_bytes fs ++ rest) h)
field-written (f ∷ fs) (suc k) d rest l h =
    rw append_assoc (read_field-past (little_bytes f.width f.value) (fields_bytes fs ++ rest) f.width (widths (take k fs)) _ (length-bytes_low_first 0 f.width f.value) ∙ field-written fs k d rest (omega arith) h)
