-- Segments: their ends, what an entry reads of them, and how many points they have.
use mathlib.Core.Path.{◌≡◌, refl, sym, ap, ◌∙◌}
use mathlib.Core.Logic.{◌≢◌}
use mathlib.Core.List.{List, [], ◌∷◌, map}
use Prim.Native.Nat.{ℕ, zero, suc, ◌+◌, ◌-◌, ◌*◌, ◌/◌, ◌%◌, ◌≤◌, ◌<◌}
use native.Mathlib.Omega.{arith}
use lib.ListN.{length, get_or, replicate, get_or-eq_default}
use lib.Ieee.{Float}
use Rattle.vector.specs.declared.Vector.{Vector}
use Rattle.path.specs.Strokes.{gather, point_at}
use Rattle.path.specs.InnerPushes.{put_point, put_points}
use Rattle.path.proofs.Gathers.{length-gather, gather-at}
use Rattle.path_splice_rule.specs.Splice.{opposite, first_of, last_of, present, end_of, turned, value_at, read_from}
use Rattle.path_splice_rule.specs.Demand.{sum}
use Rattle.path_splice.specs.InnerText.{entry_text}
use Rattle.path_splice.proofs.Readings.{nothing}
use Rattle.path_segments.specs.Join.{segment_at, segments_in, origin}

module _ (ps : List Float) where
  -- the two sides of one segment
  side-value : (i k : ℕ) → k < 2 → end_of origin k (segment_at ps i) ≡ point_at ps (2 * i + k)
  unfolding end_of first_of last_of
  side-value i zero h = let e : 2 * i + 0 ≡ 2 * i = omega arith in rw e
  side-value i (suc zero) h = refl
  side-value i (suc (suc k)) h = absurd (omega arith)

  side-read : (i k : ℕ) → k < 2 → turned k (segment_at ps i) ≡ point_at ps (2 * i + k) ∷ point_at ps (2 * i + (1 - k)) ∷ []
  unfolding turned
  side-read i zero h = let e : 2 * i + 0 ≡ 2 * i = omega arith in rw e
  side-read i (suc zero) h = let e : 2 * i + 0 ≡ 2 * i = omega arith in rw e
  side-read i (suc (suc k)) h = absurd (omega arith)

  all_there : (a n : ℕ) → map present (gather (segment_at ps) a n) ≡ replicate n 1
  unfolding gather present
  all_there a zero = refl
  all_there a (suc n) = ap (λ (l : List ℕ). 1 ∷ l) (all_there (a + 1) n)

  two-each : (a n : ℕ) → sum length (gather (segment_at ps) a n) ≡ 2 * n
  unfolding gather sum
  two-each a zero = refl
  two-each a (suc n) = omega (arith, two-each (a + 1) n)

  module _ (n : ℕ) where
    pub segments-count : length (segments_in ps n) ≡ n
    unfolding segments_in
    segments-count = length-gather (segment_at ps) 0 n

    pub segments-there : map present (segments_in ps n) ≡ replicate n 1
    unfolding segments_in
    segments-there = all_there 0 n

    pub segments-points : sum length (segments_in ps n) ≡ 2 * n
    unfolding segments_in
    segments-points = two-each 0 n

    segment-is : (i : ℕ) → i < n → get_or (segments_in ps n) i [] ≡ segment_at ps i
    unfolding segments_in
    segment-is i h = let e : 0 + i ≡ i = omega arith in sym (rw e at (gather-at (segment_at ps) 0 n i [] h))

    -- the point at an end
    pub value-is : (e : ℕ) → e < 2 * n → value_at origin (segments_in ps n) e ≡ point_at ps e
    unfolding value_at
    value-is e h =
        let q : 2 * (e / 2) + e % 2 ≡ e = omega arith in
        ap (end_of origin (e % 2)) (segment-is (e / 2) (omega arith)) ∙ side-value (e / 2) (e % 2) (omega arith) ∙ ap (point_at ps) q

    -- what an entry reads: nothing past the segments; the segment without its first read point; all of it
    module _ (x : ℕ) where
      entry-none : n ≤ x / 2 / 2 → entry_text (segments_in ps n) x ≡ []
      unfolding entry_text read_from
      entry-none h =
          let e : get_or (segments_in ps n) (x / 2 / 2) [] ≡ [] = get_or-eq_default (segments_in ps n) [] (omega (arith, segments-count)) in
          rw e (nothing (1 - x % 2) (x / 2 % 2))

      pub wrote_none : n ≤ x / 2 / 2 → (l : List Float) (at : ℕ) → (l ≡ put_points l at (entry_text (segments_in ps n) x)) × (at ≡ at + length (entry_text (segments_in ps n) x))
      unfolding put_points
      wrote_none h l at = rw (entry-none h) (refl, omega arith)

      module _ (f : ℕ) (on : f ≡ opposite (x / 2)) (h : x / 2 / 2 < n) where
        read_is : read_from (segments_in ps n) (x / 2) ≡ point_at ps (x / 2) ∷ point_at ps f ∷ []
        unfolding read_from
        read_is =
            let q : 2 * (x / 2 / 2) + x / 2 % 2 ≡ x / 2 = omega arith in
            let r : 2 * (x / 2 / 2) + (1 - x / 2 % 2) ≡ f = omega arith in
            ap (turned (x / 2 % 2)) (segment-is (x / 2 / 2) h) ∙ side-read (x / 2 / 2) (x / 2 % 2) (omega arith) ∙ rw (q, r)

        entry-joined : x % 2 ≡ 0 → entry_text (segments_in ps n) x ≡ point_at ps f ∷ []
        unfolding entry_text
        entry-joined z = rw (z, read_is)

        entry_whole : x % 2 ≢ 0 → entry_text (segments_in ps n) x ≡ point_at ps (x / 2) ∷ point_at ps f ∷ []
        unfolding entry_text
        entry_whole z = let u : x % 2 ≡ 1 = omega arith in rw (u, read_is)

        pub wrote-joined : x % 2 ≡ 0 → (l l1 : List Float) (at : ℕ) (v : Vector) → v ≡ point_at ps f → l1 ≡ put_point l at v
            → (l1 ≡ put_points l at (entry_text (segments_in ps n) x)) × (at + 1 ≡ at + length (entry_text (segments_in ps n) x))
        unfolding put_points
        wrote-joined z l l1 at v a b = rw (entry-joined z) (b ∙ ap (put_point l at) a, refl)

        pub wrote-whole : x % 2 ≢ 0 → (l l1 l2 : List Float) (at : ℕ) (u v : Vector) → u ≡ point_at ps (x / 2) → l1 ≡ put_point l at u → v ≡ point_at ps f → l2 ≡ put_point l1 (at + 1) v
            → (l2 ≡ put_points l at (entry_text (segments_in ps n) x)) × (at + 2 ≡ at + length (entry_text (segments_in ps n) x))
        unfolding put_points
        wrote-whole z l l1 l2 at u v a b d e = rw (entry_whole z) (e ∙ ap (put_point l1 (at + 1)) d ∙ ap (λ (k : List Float). put_point k (at + 1) (point_at ps f)) (b ∙ ap (put_point l at) a), refl)
