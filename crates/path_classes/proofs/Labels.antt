-- Each point gets its class, in an order in which points that are the same stand together.
use Rattle.std.proofs.Common.{◌≡◌, ℕ, ◌+◌, ◌-◌, ◌*◌, ◌<◌, ◌≤◌, false, cond, List, ◌++◌, length, get_or, set, replicate, sym, ap, ◌∙◌, subst, inr, ⊎_elim, arith, length-append, get_or-set_other, get_or-set_same, le-leb}
use native.Mathlib.Decide.{ℕ_discrete}
use lib.ListN.{length-replicate}
use lib.Ieee.{Float}
use borrow.Author.Tests.{lt-leb}
use Rattle.refusal.specs.Limits.{most_strokes}
use Rattle.order.specs.Regions.{region, put}
use Rattle.order.proofs.Tests.{truth, clash, le-or}
use Rattle.order.proofs.Parts.{get_region, put-region, put-append, put_same}
use Rattle.path.specs.Strokes.{gather, point_at}
use Rattle.path.proofs.Gathers.{length-gather}
use Rattle.path_classes.specs.Classes.{same_point, class_of, numbered}
use Rattle.path_classes.specs.InnerKeys.{Together, Aside, Stored}
use Rattle.path_classes.proofs.Same.{point_eq, point_self, same_of_lem}
use Rattle.path_classes.proofs.Classing.{class_le, class-at, class-one, class-own}
use Rattle.path_classes.proofs.Asides.{aside_none, aside_set, region-is}

-- the first x points in the order have their class, and c is the class of the last of them
pub record Labelled (ps : List Float) (m : ℕ) (s t : List ℕ) (x c : ℕ) : Type 0 where
  pub within : x ≤ m
  pub aside : Aside s t 0 m
  pub done : (q : ℕ) → q < x → get_or t (get_or (region s m m) q 0) 0 ≡ class_of same_point (point_at ps) (get_or (region s m m) q 0)
  pub last : (p : ℕ) × (c ≡ class_of same_point (point_at ps) p) × (0 < x → p ≡ get_or (region s m m) (x - 1) 0)

pub labelled_none : (ps : List Float) (m : ℕ) (s : List ℕ) → Labelled ps m s s 0 0
labelled_none ps m s =
    record {
      within = omega arith;
      aside = aside_none s 0 m;
      done = λ q h. absurd (omega arith);
      last = (0, omega (arith, class_le same_point (point_at ps) 0), λ h. absurd (omega arith));
    }

module _ (ps : List Float) (m : ℕ) (s : List ℕ) (H : 6 * m ≤ length s) (G : Together ps m (region s m m)) where
  abbrev at : ℕ → ℕ
  at x = get_or (region s m m) x 0

  abbrev cls : ℕ → ℕ
  cls = class_of same_point (point_at ps)

  module _ (t : List ℕ) (x c : ℕ) (L : Labelled ps m s t x c) (h : x < m) where
    pub next-is : get_or t (m + x) 0 ≡ at x
    next-is = L.aside.rest (m + x) (inr (omega arith)) ∙ sym (get_region s m m x h)

    -- a point before it that is the same would be the last one, or one like it
    first-own : (e : ℕ) → e ≡ at x → same_point (point_at ps c) (point_at ps e) ≡ false → (j : ℕ) → j < e → point_at ps j ≡ point_at ps e → ⊥
    first-own e i f j k q = ⊎_elim later earlier (le-or x y)
      where
        y : ℕ
        y = (G.all j (omega (arith, G.each x h))).0

        y-lt : y < m
        y-lt = (G.all j (omega (arith, G.each x h))).1

        y-is : at y ≡ j
        y-is = (G.all j (omega (arith, G.each x h))).2

        later : x ≤ y → ⊥
        later l =
            elim (ℕ_discrete x y) [ yes w ↦ omega (arith, ap at w, y-is) | no w ↦ omega (arith, y-is, G.rise x y (omega arith) y-lt (same_of_lem _ _ (ap (point_at ps) (sym i) ∙ sym q ∙ ap (point_at ps) (sym y-is)))) ]

        last-point : (y < x) → point_at ps (at (x - 1)) ≡ point_at ps e
        last-point l =
            elim (ℕ_discrete y (x - 1)) [ yes w ↦ ap (λ (z : ℕ). point_at ps (at z)) (sym w) ∙ ap (point_at ps) y-is ∙ q | no w ↦ sym (point_eq _ _ (G.between y (x - 1) x (omega arith) (omega arith) h (same_of_lem _ _ (ap (point_at ps) y-is ∙ q ∙ ap (point_at ps) i)))) ∙ ap (point_at ps) y-is ∙ q ]

        earlier : y < x → ⊥
        earlier l =
            clash (same_of_lem _ _ (ap (point_at ps) L.last.1 ∙ class-at same_point (point_at ps) point_eq point_self L.last.0 ∙ ap (point_at ps) (L.last.2 (omega arith)) ∙ last-point l)) f

    -- the class of the next
    next-class : (e : ℕ) → e ≡ at x → cond (same_point (point_at ps c) (point_at ps e)) c e ≡ cls e
    next-class e i = ⊎_elim
        (λ f. rw f (L.last.1 ∙ class-one same_point (point_at ps) point_eq point_self L.last.0 e (sym (ap (point_at ps) L.last.1 ∙ class-at same_point (point_at ps) point_eq point_self L.last.0) ∙ point_eq _ _ f)))
        (λ f. rw f (sym (class-own same_point (point_at ps) point_eq point_self e (first-own e i f))))
        (truth (same_point (point_at ps c) (point_at ps e)))

    pub labelled-more : (e d : ℕ) → e ≡ get_or t (m + x) 0 → d ≡ cond (same_point (point_at ps c) (point_at ps e)) c e → Labelled ps m s (set t e d) (x + 1) d
    labelled-more e d p r =
        let i : e ≡ at x = p ∙ next-is in
        let g : d ≡ cls e = r ∙ next-class e i in
        let l : e < m = omega (arith, G.each x h) in
        let z : x + 1 - 1 ≡ x = omega arith in
        record {
          within = omega arith;
          aside = aside_set L.aside e d (omega arith) l;
          done = λ q k. elim (ℕ_discrete (at q) e) [ yes w ↦ rw w (get_or-set_same t e d 0 (omega (arith, L.aside.size)) ∙ g) | no w ↦ get_or-set_other t e (at q) d 0 w ∙ L.done q (before q k w i) ];
          last = (e, g, λ k. rw z i);
        }
      where
        before : (q : ℕ) → q < x + 1 → (at q ≡ e → ⊥) → e ≡ at x → q < x
        before q k w i = elim (ℕ_discrete q x) [ yes j ↦ absurd (w (ap at j ∙ sym i)) | no j ↦ omega arith ]

  pub labelled_all : (t : List ℕ) (x c : ℕ) → m ≤ x → Labelled ps m s t x c → Stored cls t 0 m
  labelled_all t x c h L e k =
      let r = G.all e k in
      let z : 0 + e ≡ e = omega arith in
      rw z (subst (λ (j : ℕ). get_or t j 0 ≡ cls j) r.2 (L.done r.0 (omega (arith, r.1))))

-- ---- what is left in scratch

module _ (ps : List Float) (m : ℕ) (s : List ℕ) where
  pub too_many_lem : 2 * most_strokes < m → s ≡ numbered ps m s
  unfolding numbered
  too_many_lem h = rw (lt-leb m (2 * most_strokes) h)

  pub too_few : m ≤ 2 * most_strokes → length s < 6 * m → s ≡ numbered ps m s
  unfolding numbered
  too_few h k = rw (le-leb m (2 * most_strokes) h, lt-leb (6 * m) (length s) k)

  pub numbered_is : m ≤ 2 * most_strokes → 6 * m ≤ length s → (t u w : List ℕ) → Aside s t m (6 * m) → Aside t u 0 m → Stored (class_of same_point (point_at ps)) u 0 m
      → w ≡ put u m (replicate (5 * m) 0) → w ≡ numbered ps m s
  unfolding numbered
  numbered_is h k t u w A B E q =
      let f = class_of same_point (point_at ps) in
      let C = gather f 0 m in
      let Z = replicate {A = ℕ} (5 * m) 0 in
      let lc : length C ≡ m = length-gather f 0 m in
      let lz : length Z ≡ 5 * m = length-replicate {A = ℕ} (5 * m) 0 in
      let lu : length u ≡ length s = B.size ∙ A.size in
      let z : m ≡ 0 + length C = omega arith in
      let e : u ≡ put u 0 C = put-region u 0 m (omega arith) ∙ ap (put u 0) (region-is f u 0 m E (omega arith)) in
      let n : length (C ++ Z) ≡ 6 * m = length-append C Z ∙ omega arith in
      rw (le-leb m (2 * most_strokes) h, le-leb (6 * m) (length s) k)
      (q ∙ ap (λ (v : List ℕ). put v m Z) e ∙ ap (λ (i : ℕ). put (put u 0 C) i Z) z ∙ put-append u 0 C Z
      ∙ put_same u s 0 (C ++ Z) lu (λ j l o. let d : 6 * m ≤ j = ⊎_elim (λ b. absurd (omega arith)) (λ b. omega arith) o in B.rest j (inr (omega arith)) ∙ A.rest j (inr d)))
