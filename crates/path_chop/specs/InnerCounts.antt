-- What only private functions are held to. Nobody has to read it to believe what the calls promise.
use Rattle.std.specs.Prelude.{cond, ℕ, min, Float}
use Rattle.std.specs.Float.Ieee.{lt}
use Rattle.path_chop.specs.Chop.{too_many}

-- a length, or the step where no step lies within it: what is cut is the same (`reach-cut`, proofs/Chops)
abbrev pub length_or_step : Float → Float → Float
length_or_step step l = cond (lt step l) l step

-- a count of points, no longer counted where it is above the most
unfoldable pub capped : ℕ → ℕ
capped n = min n too_many
