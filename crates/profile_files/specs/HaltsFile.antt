-- The text of halts.txt.
use Rattle.std.specs.Prelude.{ℕ, List, ◌++◌, codes}
use Rattle.std.specs.Fmt.{decimal}
use Rattle.std.specs.List.{flat_map}
use Rattle.report.specs.ReportText.{halt_text, numbered_lines}
use Rattle.profile_rows.specs.declared.halt_row.HaltRow.{HaltRow}
use Rattle.profile_rows.specs.declared.halt_row.Jump.{Jump}
use Rattle.profile_files.specs.Numbers.{in_hexadecimal}

-- the line of a register
unfoldable pub register_line : (number value : ℕ) → List ℕ
register_line n value = codes "x" ++ (decimal n ++ (codes " " ++ (in_hexadecimal value ++ codes "\n")))

-- the line of a jump: where it stands, and where it leads
unfoldable pub jump_line : Jump → List ℕ
jump_line jump = codes "jump " ++ (in_hexadecimal jump.from ++ (codes " " ++ (in_hexadecimal jump.to ++ codes "\n")))

-- the first lines of a core
unfoldable pub halt_head : HaltRow → List ℕ
halt_head row =
    codes "core " ++ (decimal row.core ++ (codes "\nhalt " ++ (halt_text row.halted
    ++ (codes "\npc " ++ (in_hexadecimal row.pc ++ codes "\n")))))

-- the lines of a core: its registers, and its last jumps, the latest one last
abbrev pub halt_lines : HaltRow → List ℕ
halt_lines row = halt_head row ++ (numbered_lines register_line 0 row.registers.items ++ flat_map jump_line row.jumps.items)

unfoldable pub halts_text : List HaltRow → List ℕ
halts_text rows = flat_map halt_lines rows
