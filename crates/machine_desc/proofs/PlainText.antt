-- The built-in description, read step by step.
use Rattle.std.proofs.Common.{◌≡◌, codes, pos, true, Some, None, refl}
use lib.Utf8.{encode}
use Rattle.std.specs.Str.{is_utf8}
use Rattle.std.proofs.lemmas.Str.{is_utf8-from_IsUtf8}
use Rattle.toml.specs.Data.{integer, array, table, no_items, item, Members, no_members, member}
use Rattle.toml.specs.Parse.{parse_document}
use Rattle.toml.proofs.OnLiterals.{toml_on_literals}
use Rattle.machine_desc.specs.declared.plain.TheConstants.{PLAIN}
use Rattle.machine_desc.specs.Keys.{top_checks, memory_checks, own_cache_checks, l2_checks, controller_checks, domain_checks}
use Rattle.machine_desc.specs.Text.{table_at, value_at, integer_at, integers_at, full_name}
use Rattle.machine_desc.specs.Description.{checks_of, ratios_of, bad_value, check_refusal, table_refusal, written_domains, domain_refusal, document_refusal, memory_of, own_cache_of, l1i_of, l2_of, controllers_of, domains_of, mesh_of, dram_of, pipe_of, numbers_of}
use Rattle.machine_desc.specs.Plain.{plain_text, plain_machine}

-- its bytes, one by one
pub is_plain_text : PLAIN.now ≡ plain_text
unfolding plain_text encode
is_plain_text = refl

pub is_text : is_utf8 PLAIN.now ≡ true
unfolding encode
is_text = is_utf8-from_IsUtf8 PLAIN.now (PLAIN.now, (refl, refl))

abbrev pub plain_document : Members
plain_document =
    member (codes "controllers") (table (
    member (codes "count") (integer (pos 1)) (member (codes "occupancy") (integer (pos 20))
    (member (codes "read") (integer (pos 100)) (member (codes "write") (integer (pos 40)) no_members)))))
    (member (codes "cores") (integer (pos 1))
    (member (codes "domains") (table (
    member (codes "banks") (array (item (integer (pos 0)) no_items)) (member (codes "controllers") (array (item (integer (pos 1)) no_items))
    (member (codes "count") (integer (pos 2)) no_members))))
    (member (codes "interval") (integer (pos 10000))
    (member (codes "intervals") (integer (pos 100000))
    (member (codes "l1") (table (
    member (codes "latency") (integer (pos 1)) (member (codes "sets") (integer (pos 2)) (member (codes "ways") (integer (pos 1)) no_members))))
    (member (codes "l2") (table (
    member (codes "banks") (integer (pos 1)) (member (codes "fill") (integer (pos 2)) (member (codes "latency") (integer (pos 10))
    (member (codes "occupancy") (integer (pos 4)) (member (codes "remote") (integer (pos 5)) (member (codes "sets") (integer (pos 4))
    (member (codes "ways") (integer (pos 2)) no_members))))))))
    (member (codes "memory") (table (
    member (codes "base") (integer (pos 65536)) (member (codes "size") (integer (pos 1048576)) (member (codes "stack") (integer (pos 4096)) no_members))))
    (member (codes "version") (integer (pos 1)) no_members))))))))

pub is_document : parse_document PLAIN.now ≡ Some plain_document
unfolding toml_on_literals
is_document = refl

pub no_refusal : document_refusal plain_document ≡ None
unfolding checks_of top_checks memory_checks own_cache_checks l2_checks controller_checks domain_checks ratios_of table_at value_at integer_at integers_at full_name bad_value check_refusal table_refusal written_domains domain_refusal document_refusal
no_refusal = refl

pub same_numbers : numbers_of plain_document ≡ plain_machine
unfolding table_at value_at integer_at integers_at memory_of own_cache_of l1i_of l2_of controllers_of domains_of mesh_of dram_of pipe_of numbers_of
same_numbers = refl
