-- Which fields can be written.
use Rattle.std.specs.Prelude.{◌^◌, nat_lt, nat_le, Bool, ◌&&◌}
use Rattle.elf_write.specs.declared.field.Field.{Field}

-- a field has one to eight bytes, and its number fits them
abbrev pub is_writable : Field → Bool
is_writable f = nat_le 1 f.width && nat_le f.width 8 && nat_lt f.value (256 ^ f.width)
