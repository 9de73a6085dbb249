-- How long a live part's bytes are. Assumes nothing.
use mathlib.Core.Path.{◌≡◌, refl}
use lib.ListN.{length}
use Rattle.live.specs.declared.Live.{Live}
use Rattle.live_bytes.specs.Layout.{live_size, live_bytes}

pub live-length : (l : Live) → length (live_bytes l) ≡ live_size
unfolding live_bytes
live-length l = refl
