-- What the rows of the program's tables say.
use Rattle.machine_desc.specs.Keys.{KeyPath, Range, Rule, is_table, is_integer, is_share, is_at_least, is_array, Check, Ratio}
use Rattle.machine_desc.specs.declared.keys.KeyPath.{KeyPath as KeyRow}
use Rattle.machine_desc.specs.declared.keys.Range.{Range as RangeRow}
use Rattle.machine_desc.specs.declared.keys.Rule.{Rule as RuleRow}
use Rattle.machine_desc.specs.declared.keys.Rule.TheVariants as row
use Rattle.machine_desc.specs.declared.keys.Check.{Check as CheckRow}
use Rattle.machine_desc.specs.declared.keys.Ratio.{Ratio as RatioRow}

abbrev pub key_path_of : KeyRow → KeyPath
key_path_of k = record { table = k.table.now; name = k.name.now }

abbrev pub range_of : RangeRow → Range
range_of r = record { low = r.low; high = r.high; step = r.step }

abbrev pub rule_of : RuleRow → Rule
rule_of row.Table = is_table
rule_of (row.Integer range) = is_integer (range_of range)
rule_of (row.Share range times whole) = is_share (range_of range) (key_path_of times) (key_path_of whole)
rule_of (row.AtLeast range least) = is_at_least (range_of range) (key_path_of least)
rule_of (row.Array count) = is_array (key_path_of count)

abbrev pub check_of : CheckRow → Check
check_of c = record { key = key_path_of c.key; rule = rule_of c.rule }

abbrev pub ratio_of : RatioRow → Ratio
ratio_of r = record { key = key_path_of r.key; divisor = key_path_of r.divisor }
