-- Time, in units of 1/(1000 num) ms, at a rate of num / den frames per second: so each time that is spoken of is a whole number.
-- Frame k is shown 1000 k den / num milliseconds after the start. These are the only words that know the rate. This is the
-- project's own.
use Rattle.std.specs.Prelude.{ℕ, ℤ, pos, ◌<◌, ◌*◌, ◌/◌, ◌*ℤ◌}
use Rattle.page_model.specs.declared.setup.Setup.{Setup}

-- the moment of a frame
abbrev pub time_of : Setup → ℕ → ℕ
time_of setup frame = 1000000 * setup.den * frame

-- a number of milliseconds
abbrev pub ticks_of : Setup → ℕ → ℕ
ticks_of setup milliseconds = 1000 * milliseconds * setup.num

-- a number of milliseconds that may be negative
abbrev pub signed_ticks_of : Setup → ℤ → ℤ
signed_ticks_of setup milliseconds = pos (ticks_of setup 1) *ℤ milliseconds

-- so many thousandths of a number of milliseconds
abbrev pub thousandths_of : Setup → ℕ → ℕ → ℕ
thousandths_of setup thousandths milliseconds = thousandths * milliseconds * setup.num

-- how many frames after its first a one-second window has: as many as are shown in a whole second, the greatest whole number that is
-- at most the rate
abbrev pub window_of : Setup → ℕ
window_of setup = setup.num / setup.den

-- frames follow one another: neither part of the rate is 0
pub record HasFrames (setup : Setup) : Type 0 where
  pub some_num : 0 < setup.num
  pub some_den : 0 < setup.den
