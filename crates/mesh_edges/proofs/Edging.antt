-- All the words: the sides by their pairs, and then the flags.
use mathlib.Core.Path.{◌≡◌, refl, sym, ap, ◌∙◌}
use mathlib.Core.Bool.{Bool, true, false, cond, ◌&&◌}
use mathlib.Core.List.{List, ◌++◌, map}
use Prim.Native.Nat.{ℕ, ◌+◌, ◌*◌, ◌<◌, ◌≤◌}
use native.Mathlib.Omega.{arith}
use lib.Dec.{leb}
use lib.ListN.{length, take, replicate, length-append, length-replicate}
use borrow.Author.Tests.{lt-leb}
use Rattle.refusal.specs.Limits.{most_faces}
use Rattle.order.specs.Regions.{region, put}
use Rattle.order.proofs.Parts.{region-put, put-put, put-append}
use Rattle.mesh_edges.specs.Edges.{low_of, high_of, pair_of, up_from, sides_of, groups_of, edges_of}
use Rattle.mesh_edges.specs.InnerWords.{flag_of, side_words, edges_in, pair_in}
use Rattle.mesh_edges.specs.InnerSteps.{plain_words, Below, marks, flag_all}
use Rattle.mesh_edges.proofs.Ups.{map-length, sides_length, side-below, sides_below}
use Rattle.mesh_edges.proofs.Groups.{groups_agree}
use Rattle.mesh_edges.proofs.Flags.{flags_are}
use Rattle.mesh_edges.proofs.Said.{said-pair, said-sides, said-side, said-mates, said-flags, edges_put}

-- too many sides, or too few words
pub edges_many : (s is flips : List ℕ) → 3 * most_faces < length is → s ≡ edges_in s is flips
unfolding edges_in
edges_many s is flips h = rw (lt-leb (length is) (3 * most_faces) h)

pub edges_short : (s is flips : List ℕ) → length s < 5 * length is → s ≡ edges_in s is flips
unfolding edges_in
edges_short s is flips h = rw (lt-leb (5 * length is) (length s) h) (go (leb (length is) (3 * most_faces)))
  where
    go : (b : Bool) → s ≡ cond (b && false) (put s 0 (side_words is flips)) s
    go true = refl
    go false = refl

-- another list in the place of the last one
put-tail : (s l k k' : List ℕ) (at : ℕ) → at ≡ 0 + length l → length k ≡ length k' → put (put s 0 (l ++ k)) at k' ≡ put s 0 (l ++ k')
put-tail s l k k' at e q =
    ap (λ (z : ℕ). put (put s 0 (l ++ k)) z k') e ∙ ap (λ (z : List ℕ). put z (0 + length l) k') (sym (put-append s 0 l k)) ∙ put-put (put s 0 l) (0 + length l) k k' q ∙ put-append s 0 l k'

module _ (s is : List ℕ) (H : 5 * length is ≤ length s) (t : List ℕ) (e : t ≡ put s 0 (plain_words is)) where
  abbrev n : ℕ
  n = length is

  abbrev Z : List ℕ
  Z = replicate n 0

  abbrev front : List ℕ
  front = map (low_of is) (up_from 0 n) ++ map (high_of is) (up_from 0 n) ++ sides_of is ++ replicate n 0

  lz : length Z ≡ n
  lz = length-replicate {A = ℕ} n 0

  lf : length front ≡ 4 * n
  lf =
      let a = map (low_of is) (up_from 0 n) in
      let b = map (high_of is) (up_from 0 n) in
      omega
      (arith, length-append (a ++ b ++ sides_of is) Z, length-append (a ++ b) (sides_of is), length-append a b, map-length (low_of is) n, map-length (high_of is) n, sides_length is, lz)

  as_plain : t ≡ put s 0 (front ++ Z)
  unfolding plain_words
  as_plain = e

  taken : take (5 * n) t ≡ front ++ Z
  taken = ap (take (5 * n)) as_plain ∙ region-put s 0 (5 * n) (front ++ Z) (omega (arith, length-append front Z, lf, lz)) (omega arith)

  pub plain-below : Below t (length is)
  plain-below k h = omega (arith, said-side t is Z Z lz lz taken k h, side-below is k h)

  pub plain-mates : region t (3 * length is) (length is) ≡ replicate (length is) 0
  plain-mates = said-mates t is Z Z lz lz taken

  groups : groups_of (pair_in t n) (region t (2 * n) n) ≡ edges_of is
  unfolding edges_of
  groups =
      ap (groups_of (pair_in t n)) (said-sides t is Z Z lz lz taken) ∙ groups_agree (pair_in t n) (pair_of is) (sides_of is) (λ y i. said-pair t is Z Z lz lz taken y (sides_below is y i))

  pub edges_all : length is ≤ 3 * most_faces → (flips w : List ℕ) → w ≡ put t (4 * length is) (flag_all (marks (groups_of (pair_in t (length is)) (region t (2 * length is) (length is))) (replicate (length is) 0)) flips (region t (4 * length is) (length is)))
      → w ≡ edges_in s is flips
  unfolding side_words
  edges_all few flips w q =
      let G = map (flag_of is flips) (up_from 0 n) in
      q ∙ ap (λ (gs : List (List ℕ)). put t (4 * n) (flag_all (marks gs Z) flips (region t (4 * n) n))) groups
      ∙ ap (λ (f : List ℕ). put t (4 * n) (flag_all (marks (edges_of is) Z) flips f)) (said-flags t is Z Z lz lz taken) ∙ ap (put t (4 * n)) (flags_are is flips n)
      ∙ ap (λ (l : List ℕ). put l (4 * n) G) as_plain ∙ put-tail s front Z G (4 * n) (omega (arith, lf)) (lz ∙ sym (map-length (flag_of is flips) n)) ∙ sym (edges_put s is flips few H)
