use Rattle.descriptor.specs.Device.{device_bytes}
use Rattle.descriptor.proofs.device_bytes.Goals as goal

pub returns : goal.returns
unfolding device_bytes
returns c =
    rw (c.word_bytes.ensures, c.word_bytes-2.ensures, c.word_bytes-3.ensures, c.string_number.ensures, c.string_number-2.ensures, c.string_number-3.ensures, c.counted-spoken.ensures.part)
