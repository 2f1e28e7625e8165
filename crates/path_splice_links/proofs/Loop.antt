-- The loop of `run`: what holds at its head, that a turn keeps it, and what it comes to.
use mathlib.Core.Path.{◌≡◌, refl, sym, ap, ◌∙◌}
use mathlib.Core.Logic.{◌≢◌}
use mathlib.Core.List.{List, [], ◌∷◌, ◌++◌}
use Prim.Native.Nat.{ℕ, suc, ◌+◌, ◌-◌, ◌/◌, ◌<◌, ◌≤◌}
use native.Mathlib.Omega.{arith}
use native.Mathlib.Numerals.{add-one}
use lib.ListN.{length, get_or, set, take, length-set}
use lib.Seq.{take-suc-set, append_snoc}
use Rattle.path_splice_rule.specs.Splice.{opposite, onward, run, Chained}
use Rattle.path_splice_rule.specs.Totals.{total}
use Rattle.path_splice_links.specs.Walk.{link_in, Within, doubled_ends, RunIs}
use Rattle.path_splice_rule.proofs.Totals.{take-off, total-length}
use Rattle.path_splice_links.proofs.Stepping.{run-stop, run-go, fuelled, onward-todo}

pub record Walking (ls t₀ o₀ : List ℕ) (at start : ℕ) (t o : List ℕ) (e k f : ℕ) : Type 0 where
  pub reach : e < length ls
  pub todo : get_or t (e / 2) 0 ≢ 0
  pub room : total (λ s. 1) 0 t + k ≤ length o
  pub flag : f ≤ 1
  pub fuel : ℕ
  pub enough : total (λ s. 1) 0 t ≤ suc fuel
  pub left : (run (link_in ls) (length t₀) t₀ start).left ≡ (run (link_in ls) fuel t e).left
  pub chain : take at o₀ ++ doubled_ends 1 (run (link_in ls) (length t₀) t₀ start).chain ≡ take k o ++ doubled_ends f (run (link_in ls) fuel t e).chain

pub walking : (ls t o : List ℕ) (at start : ℕ) → start < length ls → get_or t (start / 2) 0 ≢ 0 → total (λ s. 1) 0 t + at ≤ length o → Walking ls t o at start t o start at 1
walking ls t o at start r h m =
    record { reach = r; todo = h; room = m; flag = omega arith; fuel = length t; enough = omega (arith, total-length 0 t); left = refl; chain = refl }

ink_one : (f e : ℕ) → doubled_ends f (e ∷ []) ≡ (e + e + f) ∷ []
unfolding doubled_ends
ink_one f e = refl

ink_more : (f e : ℕ) (c : List ℕ) → doubled_ends f (e ∷ c) ≡ (e + e + f) ∷ doubled_ends 0 c
unfolding doubled_ends
ink_more f e c = refl

module _ (ls t₀ o₀ : List ℕ) (at start : ℕ) (t o : List ℕ) (e k f : ℕ) (W : Walking ls t₀ o₀ at start t o e k f) where
  total-is : total (λ s. 1) 0 t ≡ 1 + total (λ s. 1) 0 (set t (e / 2) 0)
  total-is = take-off (λ s. 1) 0 t (e / 2) W.todo

  pub inside : k < length o
  inside = omega (arith, total-is, W.room)

  head : take (k + 1) (set o k (e + e + f)) ≡ take k o ++ ((e + e + f) ∷ [])
  head = rw add-one (take-suc-set o k (e + e + f) inside)

  room_more : total (λ s. 1) 0 (set t (e / 2) 0) + (k + 1) ≤ length (set o k (e + e + f))
  room_more = rw length-set (omega (arith, total-is, W.room))

  pub finish : onward (set t (e / 2) 0) (link_in ls (opposite e)) ≡ 0 → RunIs ls t₀ o₀ at start (set t (e / 2) 0) (set o k (e + e + f)) (k + 1)
  finish h =
      let s = run-stop (link_in ls) W.fuel t e h in
      record {
        left = sym (W.left ∙ ap (λ (r : Chained). r.left) s);
        front = head ∙ ap (λ (r : List ℕ). take k o ++ r) (sym (ink_one f e)) ∙ sym (W.chain ∙ ap (λ (r : Chained). take k o ++ doubled_ends f r.chain) s);
        room = room_more;
      }

  pub turn : Within ls → (g : ℕ) → onward (set t (e / 2) 0) (link_in ls (opposite e)) ≡ suc g → Walking ls t₀ o₀ at start (set t (e / 2) 0) (set o k (e + e + f)) g (k + 1) 0
  turn win g h =
      let T = onward-todo (set t (e / 2) 0) (link_in ls (opposite e)) g h in
      let F = fuelled (link_in ls) W.fuel t e g W.todo T.1 W.enough in
      let q : W.fuel ≡ suc (W.fuel - 1) = omega (arith, F.0) in
      let s : run (link_in ls) W.fuel t e ≡ record { chain = e ∷ (run (link_in ls) (W.fuel - 1) (set t (e / 2) 0) g).chain; left = (run (link_in ls) (W.fuel - 1) (set t (e / 2) 0) g).left } =
      ap (λ (n : ℕ). run (link_in ls) n t e) q ∙ run-go (link_in ls) (W.fuel - 1) t e g h in
      let rest = doubled_ends 0 (run (link_in ls) (W.fuel - 1) (set t (e / 2) 0) g).chain in
      record {
        reach = omega (arith, win (opposite e), T.0);
        todo = T.1;
        room = room_more;
        flag = omega arith;
        fuel = W.fuel - 1;
        enough = omega (arith, F.1, F.0);
        left = W.left ∙ ap (λ (r : Chained). r.left) s;
        chain =
            W.chain ∙ ap (λ (r : Chained). take k o ++ doubled_ends f r.chain) s ∙ ap (λ (r : List ℕ). take k o ++ r) (ink_more f e (run (link_in ls) (W.fuel - 1) (set t (e / 2) 0) g).chain)
            ∙ sym (append_snoc (take k o) (e + e + f) rest) ∙ ap (λ (r : List ℕ). r ++ rest) (sym head);
      }
