-- A record as the program writes it. No promise needs this file; what a merge is stands in the crate merging.
use Rattle.std.specs.Prelude.{map, ◌%◌}
use Rattle.record.specs.Record.{Record}

-- A record with fields of 16 bits: each as its two lowest bytes have it.
abbrev pub wrapped : Record → Record
wrapped r = record { kind = r.kind; count = r.count; fields = map (λ n. n % 65536) r.fields; days = r.days }
