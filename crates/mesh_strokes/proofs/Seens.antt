-- What is stored of the faces serves the rules in the place of the faces, and flips that don't matter may be left out.
use mathlib.Core.Path.{◌≡◌, refl, sym, ap, ◌∙◌, subst}
use mathlib.Core.Logic.{inl, inr}
use mathlib.Core.Bool.{Bool, true, false, not, ◌&&◌, ◌||◌, cond}
use mathlib.Core.List.{List, [], ◌∷◌, ◌++◌, map}
use Prim.Native.Nat.{ℕ, ◌*◌, ◌/◌, ◌%◌, ◌<◌, ◌≤◌}
use native.Mathlib.Omega.{arith}
use lib.ListN.{length}
use lib.Ieee.{Float, binary64, mul, sub, lt}
use Rattle.vector.specs.declared.Vector.{Vector}
use Rattle.vector.specs.Vectors.{dot_of}
use Rattle.vector.specs.Abs.{abs_of}
use Rattle.vector.specs.Lengths.{zero64, one64}
use Rattle.order.proofs.Sorted.{In}
use Rattle.mesh.specs.Meshes.{face_at}
use Rattle.mesh_mode.specs.declared.Mode.{Mode}
use Rattle.mesh_mode.specs.declared.Mode.TheVariants.{Triangles, Polygonal, Silhouette}
use Rattle.mesh_mode.specs.declared.Needs.{Needs}
use Rattle.mesh_mode.specs.Modes.{needs_of}
use Rattle.mesh_seen.specs.Seen.{seen_from}
use Rattle.mesh_seen.proofs.Faces.{kept_seen}
use Rattle.mesh_edges.specs.Edges.{face_of, low_of, high_of, edges_of}
use Rattle.mesh_edges.proofs.Groups.{joined}
use Rattle.mesh_edges.proofs.Ups.{sides_below}
use Rattle.mesh_edges.proofs.Mates.{edges_joined}
use Rattle.mesh_keep.specs.Keep.{Seen, turn_of, some_turns, two_kept, ends_of, kept_by, seen_in}
use Rattle.mesh_keep.proofs.Keeps.{any_flip}
use Rattle.mesh_strokes.specs.Draw.{seen_by, flip_of, kept, strokes_by, kept_of}
use Rattle.mesh_strokes.specs.InnerWalk.{look_in, flips_for}

-- two accounts of the faces that agree on the first n
pub record Agree (s t : Seen) (n : ℕ) : Type 0 where
  pub normal : (f : ℕ) → f < n → s.normal f ≡ t.normal f
  pub dot : (f : ℕ) → f < n → s.dot f ≡ t.dot f

-- all numbers of a list are below n
abbrev Below : ℕ → List ℕ → Type 0
Below n fs = (y : ℕ) → In y fs → y < n

module _ (s t : Seen) (n : ℕ) (A : Agree s t n) where
  turn_same : (f g : ℕ) → f < n → g < n → turn_of s f g ≡ turn_of t f g
  turn_same f g h k = ap (λ (v : Vector). abs_of (dot_of v (s.normal g))) (A.normal f h) ∙ ap (λ (v : Vector). abs_of (dot_of (t.normal f) v)) (A.normal g k)

  turns_same : (tolerance : Float) (f : ℕ) (gs : List ℕ) → f < n → Below n gs → some_turns s tolerance f gs ≡ some_turns t tolerance f gs
  unfolding some_turns
  turns_same tolerance f [] h b = refl
  turns_same tolerance f (g ∷ gs) h b =
      ap (λ (x : Float). lt x (sub binary64 one64 tolerance) || some_turns s tolerance f gs) (turn_same f g h (b g (inl refl)))
      ∙ ap (λ (x : Bool). lt (turn_of t f g) (sub binary64 one64 tolerance) || x) (turns_same tolerance f gs h (λ y i. b y (inr i)))

  two-same : (flip : Bool) (cosine : Float) (f g : ℕ) → f < n → g < n → two_kept s flip cosine f g ≡ two_kept t flip cosine f g
  two-same flip cosine f g h k =
      ap (λ (x : Float). (lt zero64 cosine && not (lt cosine x)) || ends_of flip (mul binary64 (s.dot f) (s.dot g))) (turn_same f g h k)
      ∙ ap (λ (x : Float). (lt zero64 cosine && not (lt cosine (turn_of t f g))) || ends_of flip (mul binary64 x (s.dot g))) (A.dot f h)
      ∙ ap (λ (x : Float). (lt zero64 cosine && not (lt cosine (turn_of t f g))) || ends_of flip (mul binary64 (t.dot f) x)) (A.dot g k)

  kept_same : (mode : Mode) (flip : Bool) (tolerance : Float) (fs : List ℕ) → Below n fs → kept_by mode s flip tolerance fs ≡ kept_by mode t flip tolerance fs
  unfolding kept_by
  kept_same Triangles flip tolerance fs b = refl
  kept_same Polygonal flip tolerance [] b = refl
  kept_same Polygonal flip tolerance (f ∷ []) b = refl
  kept_same Polygonal flip tolerance (f ∷ g ∷ fs) b = turns_same tolerance f (g ∷ fs) (b f (inl refl)) (λ y i. b y (inr i))
  kept_same (Silhouette cosine) flip tolerance [] b = refl
  kept_same (Silhouette cosine) flip tolerance (f ∷ []) b = refl
  kept_same (Silhouette cosine) flip tolerance (f ∷ g ∷ []) b = two-same flip cosine f g (b f (inl refl)) (b g (inr (inl refl)))
  kept_same (Silhouette cosine) flip tolerance (f ∷ g ∷ h ∷ fs) b = refl

-- what was stored is what is seen
module _ (eye : Vector) (vs : List Float) (is : List ℕ) (l : List Float) (room : 4 * (length is / 3) ≤ length l) where
  stored : Agree (seen_in (seen_from eye (face_at vs is) 0 (length is / 3) l)) (seen_by eye vs is) (length is / 3)
  stored = record {
    normal = λ f h. (kept_seen eye (face_at vs is) (length is / 3) l (omega arith) f h).normal;
    dot = λ f h. (kept_seen eye (face_at vs is) (length is / 3) l (omega arith) f h).facing;
  }

  -- the rule over what was stored for the mode
  looked : (mode : Mode) (flips : List ℕ) (tolerance : Float) (fs : List ℕ) → Below (length is / 3) fs
      → kept mode (seen_in (look_in mode eye vs is l)) (flips_for mode flips) tolerance fs ≡ kept mode (seen_by eye vs is) flips tolerance fs
  unfolding kept look_in flips_for kept_by
  looked Triangles flips tolerance fs b = refl
  looked Polygonal flips tolerance fs b =
      kept_same (seen_in (seen_from eye (face_at vs is) 0 (length is / 3) l)) (seen_by eye vs is) (length is / 3) stored Polygonal (flip_of [] fs) tolerance fs b
      ∙ sym (any_flip (seen_by eye vs is) (flip_of [] fs) tolerance fs) ∙ any_flip (seen_by eye vs is) (flip_of flips fs) tolerance fs
  looked (Silhouette cosine) flips tolerance fs b =
      kept_same (seen_in (seen_from eye (face_at vs is) 0 (length is / 3) l)) (seen_by eye vs is) (length is / 3) stored (Silhouette cosine) (flip_of flips fs) tolerance fs b

-- ---- strokes of edges
in_left : (a b : List ℕ) (y : ℕ) → In y a → In y (a ++ b)
in_left [] b y h = elim h [ ]
in_left (x ∷ a) b y (inl e) = inl e
in_left (x ∷ a) b y (inr i) = inr (in_left a b y i)

in_right : (a b : List ℕ) (y : ℕ) → In y b → In y (a ++ b)
in_right [] b y i = i
in_right (x ∷ a) b y i = inr (in_right a b y i)

faces_below : (n : ℕ) (g : List ℕ) → Below (3 * n) g → Below n (map face_of g)
faces_below n [] b y h = elim h [ ]
faces_below n (x ∷ g) b y (inl e) = rw e (faces x (b x (inl refl)))
  where
    faces : (k : ℕ) → k < 3 * n → k / 3 < n
    faces k h = omega arith
faces_below n (x ∷ g) b y (inr i) = faces_below n g (λ z j. b z (inr j)) y i

strokes_same : (j k : List ℕ → Bool) (is : List ℕ) (n : ℕ) → ((fs : List ℕ) → Below n fs → j fs ≡ k fs) → (es : List (List ℕ)) → Below (3 * n) (joined es) → strokes_by j is es ≡ strokes_by k is es
unfolding strokes_by
strokes_same j k is n e [] b = refl
strokes_same j k is n e ([] ∷ es) b = strokes_same j k is n e es b
strokes_same j k is n e ((x ∷ xs) ∷ es) b =
    let stroke = low_of is x ∷ high_of is x ∷ [] in
    ap (λ (t : Bool). cond t (stroke ∷ strokes_by j is es) (strokes_by j is es)) (e (map face_of (x ∷ xs)) (faces_below n (x ∷ xs) (λ y i. b y (in_left (x ∷ xs) (joined es) y i))))
    ∙ ap (λ (r : List (List ℕ)). cond (k (map face_of (x ∷ xs))) (stroke ∷ r) r) (strokes_same j k is n e es (λ y i. b y (in_right (x ∷ xs) (joined es) y i)))

-- the kept edges over what was stored are the kept edges
pub kept-edges : (mode : Mode) (eye : Vector) (tolerance : Float) (flips : List ℕ) (vs : List Float) (is : List ℕ) (l : List Float) → length is % 3 ≡ 0 → 4 * (length is / 3) ≤ length l
    → strokes_by (kept mode (seen_in (look_in mode eye vs is l)) (flips_for mode flips) tolerance) is (edges_of is) ≡ kept_of mode eye tolerance flips vs is
unfolding kept_of
kept-edges mode eye tolerance flips vs is l three room =
    strokes_same _ _ is (length is / 3) (looked eye vs is l room mode flips tolerance) (edges_of is)
    (λ y i. let e : 3 * (length is / 3) ≡ length is = omega arith in rw e (sides_below is y (subst (In y) (edges_joined is) i)))

-- ---- by what the mode was told to need
module _ (mode : Mode) (n : Needs) (e : n ≡ needs_of mode) where
  pub look_needed : n.normals ≡ true → (eye : Vector) (vs : List Float) (is : List ℕ) (l : List Float) → seen_from eye (face_at vs is) 0 (length is / 3) l ≡ look_in mode eye vs is l
  unfolding look_in
  look_needed t eye vs is l = rw (← e, t)

  pub look_spared : n.normals ≡ false → (eye : Vector) (vs : List Float) (is : List ℕ) (l : List Float) → l ≡ look_in mode eye vs is l
  unfolding look_in
  look_spared t eye vs is l = rw (← e, t)

  pub flips_needed : n.flips ≡ true → (flips : List ℕ) → flips ≡ flips_for mode flips
  unfolding flips_for
  flips_needed t flips = rw (← e, t)

  pub flips_spared : n.flips ≡ false → (flips : List ℕ) → [] ≡ flips_for mode flips
  unfolding flips_for
  flips_spared t flips = rw (← e, t)
