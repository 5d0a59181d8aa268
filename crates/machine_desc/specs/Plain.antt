-- The built-in description `plain`: its text, and the machine that it describes.
use Rattle.std.specs.Prelude.{ℕ, List, [], ◌∷◌, ◌++◌, codes, None}
use Rattle.std.specs.List.{flat_map}
use Rattle.machine_desc.specs.declared.machine.Machine.{Machine}

abbrev pub plain_lines : List (List ℕ)
plain_lines =
    codes "version = 1"
    ∷ codes "cores = 1"
    ∷ codes "interval = 10000"
    ∷ codes "intervals = 100000"
    ∷ codes ""
    ∷ codes "[memory]"
    ∷ codes "base = 65536"
    ∷ codes "size = 1048576"
    ∷ codes "stack = 4096"
    ∷ codes ""
    ∷ codes "[l1]"
    ∷ codes "sets = 2"
    ∷ codes "ways = 1"
    ∷ codes "latency = 1"
    ∷ codes ""
    ∷ codes "[l2]"
    ∷ codes "banks = 1"
    ∷ codes "sets = 4"
    ∷ codes "ways = 2"
    ∷ codes "latency = 10"
    ∷ codes "remote = 5"
    ∷ codes "fill = 2"
    ∷ codes "occupancy = 4"
    ∷ codes ""
    ∷ codes "[controllers]"
    ∷ codes "count = 1"
    ∷ codes "read = 100"
    ∷ codes "write = 40"
    ∷ codes "occupancy = 20"
    ∷ codes ""
    ∷ codes "[domains]"
    ∷ codes "count = 2"
    ∷ codes "banks = [0]"
    ∷ codes "controllers = [1]"
    ∷ []

-- its bytes: each line is ended by a newline
unfoldable pub plain_text : List ℕ
plain_text = flat_map (λ line. line ++ codes "\n") plain_lines

abbrev pub plain_machine : Machine
plain_machine = record {
  version = 1;
  cores = 1;
  interval = 10000;
  intervals = 100000;
  memory = record { base = 65536; size = 1048576; stack = 4096 };
  l1 = record { sets = 2; ways = 1; latency = 1 };
  l1i = None;
  l2 = record { banks = 1; sets = 4; ways = 2; latency = 10; remote = 5; fill = 2; occupancy = 4 };
  controllers = record { count = 1; read = 100; write = 40; occupancy = 20 };
  domains = record { count = 2; banks = 0 ∷ []; controllers = 1 ∷ [] };
  mesh = None;
  dram = None;
  pipe = None;
}
