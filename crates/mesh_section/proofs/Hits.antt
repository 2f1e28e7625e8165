-- The branches of `intersect_segment`: what each answers, by what was computed and tested before it.
use mathlib.Core.Path.{◌≡◌, refl}
use mathlib.Core.Bool.{Bool, true, false, cond}
use lib.Ieee.{Float, binary64, div, neg}
use Rattle.vector.specs.declared.Vector.{Vector}
use Rattle.vector.specs.Vectors.{add_of, sub_of, mul_scalar_of, dot_of}
use Rattle.mesh_section.specs.declared.Plane.{Plane}
use Rattle.std.specs.Prelude.{Option, Some, None}
use Rattle.mesh_section.specs.Section.{runs_along, within, rise_of, segment_hit}

module _ (p : Plane) (tolerance : Float) (v0 v1 : Vector) (d : Float) (rise : d ≡ rise_of p v0 v1) where
  pub misses_along : runs_along tolerance d ≡ true → None ≡ segment_hit p tolerance v0 v1
  unfolding segment_hit
  misses_along t = rw (← rise, t)

  module _ (m : Float) (dot : m ≡ dot_of p.normal (sub_of v0 p.point)) where
    -- whether it runs along or not
    pub misses : within (div binary64 (neg m) d) ≡ false → None ≡ segment_hit p tolerance v0 v1
    unfolding segment_hit
    misses t = rw (← rise, ← dot, t) (either (runs_along tolerance d))
      where
        either : (b : Bool) → ◌≡◌ {A = Option Vector} None (cond b None None)
        either true = refl
        either false = refl

    pub hits : runs_along tolerance d ≡ false → within (div binary64 (neg m) d) ≡ true → Some (add_of v0 (mul_scalar_of (sub_of v1 v0) (div binary64 (neg m) d))) ≡ segment_hit p tolerance v0 v1
    unfolding segment_hit
    hits crosses t = rw (← rise, ← dot, crosses, t)
