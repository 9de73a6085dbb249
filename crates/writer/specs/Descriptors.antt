-- USB 2.0 section 9.4.3: the descriptor of a record that a request names.
use Rattle.std.specs.Prelude.{ℕ, cond, List, eqb, Option, Some, None}
use Rattle.record.specs.declared.Record.{Record}
use Rattle.descriptor.specs.Device.{device_bytes}
use Rattle.configuration.specs.Configuration.{configuration_bytes}
use Rattle.strings.specs.Strings.{string_of}
use Rattle.writer.specs.declared.Which.{Which}

-- section 9.4.3, wValue: type 1 device, 2 configuration, 3 string; the index counts for strings alone, wIndex is their language
unfoldable pub descriptor_of : Record → ℕ → ℕ → ℕ → Option (List ℕ)
descriptor_of r kind index language =
    cond (eqb kind 1) (Some (device_bytes r))
    (cond (eqb kind 2) (Some (configuration_bytes r.plan))
    (cond (eqb kind 3) (string_of r index language) None))

-- the same, as a writer is asked for it
abbrev pub asked : Record → Which → Option (List ℕ)
asked r w = descriptor_of r w.kind w.index w.language
