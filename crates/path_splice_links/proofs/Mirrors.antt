-- Mirrored links in each run are the definition's links.
use mathlib.Core.Path.{◌≡◌, sym, ap, ◌∙◌, subst}
use mathlib.Core.Bool.{Bool, true}
use mathlib.Core.Logic.{◌⊎◌, inl, inr, ◌≢◌, ⊎_elim}
use mathlib.Core.List.{List}
use Prim.Native.Nat.{ℕ, suc, ◌+◌, ◌-◌, ◌/◌, ◌<◌, ◌≤◌}
use native.Mathlib.Omega.{arith}
use native.Mathlib.Decide.{ℕ_discrete}
use lib.ListN.{length, get_or}
use Rattle.path_splice_links.specs.Runs.{end_value, Pair, Mirror}
use Rattle.order.proofs.Tests.{le-or}
use Rattle.path_splice_links.proofs.Matching.{Right}

-- which ends may be linked: live ones of one value, on two strokes
pub record Joins (join : ℕ → ℕ → Bool) (vs : List ℕ) (Live : ℕ → Type 0) : Type 0 where
  pub of : (e f : ℕ) → join e f ≡ true → (get_or vs e 0 ≡ get_or vs f 0) × (e / 2 ≢ f / 2) × Live e × Live f
  pub to : (e f : ℕ) → get_or vs e 0 ≡ get_or vs f 0 → e / 2 ≢ f / 2 → Live e → Live f → join e f ≡ true

-- the live ends, going up in each run
pub record Laid (vs : List ℕ) (m : ℕ) (Live : ℕ → Type 0) (s : List ℕ) : Type 0 where
  pub each : (x : ℕ) → x < length s → (get_or s x 0 < m) × Live (get_or s x 0)
  pub find : (e : ℕ) → e < m → Live e → (x : ℕ) × (x < length s) × (get_or s x 0 ≡ e)
  pub rise : (x y : ℕ) → x < y → y < length s → end_value vs s x ≡ end_value vs s y → get_or s x 0 < get_or s y 0

module _ (join : ℕ → ℕ → Bool) (vs : List ℕ) (m : ℕ) (Live : ℕ → Type 0) (J : Joins join vs Live) (s : List ℕ) (L : Laid vs m Live s) (ls : List ℕ)
    (size : length ls ≡ m) (alive : (f g : ℕ) → f < m → get_or ls f 0 ≡ suc g → Live f)
    (A : (x : ℕ) → x < length s → Mirror vs s x (get_or ls (get_or s x 0) 0)) where
  abbrev S : ℕ → ℕ
  S x = get_or s x 0

  module _ (x z : ℕ) (hx : x < length s) (hz : z < length s) (e : end_value vs s z ≡ end_value vs s x) where
    bound : (w : ℕ) → (A z hz).a ≤ w → w < (A z hz).b → ((A x hx).a ≤ w) × (w < (A x hx).b)
    bound w p q =
        let M = A x hx in
        let N = A z hz in
        M.run.only w (omega (arith, N.run.inside)) (N.run.same w p q ∙ sym (N.run.same z N.low N.high) ∙ e ∙ M.run.same x M.low M.high)

  one-run : (x z : ℕ) (hx : x < length s) (hz : z < length s) → end_value vs s z ≡ end_value vs s x → ((A x hx).a ≡ (A z hz).a) × ((A x hx).b ≡ (A z hz).b)
  one-run x z hx hz e =
      let M = A x hx in
      let N = A z hz in
      let p = bound x z hx hz e N.a (omega arith) N.run.some in
      let q = bound z x hz hx (sym e) M.a (omega arith) M.run.some in
      let p' = bound x z hx hz e (N.b - 1) (omega (arith, N.run.some)) (omega (arith, N.run.some)) in
      let q' = bound z x hz hx (sym e) (M.b - 1) (omega (arith, M.run.some)) (omega (arith, M.run.some)) in
      (omega arith, omega arith)

  -- the mirrored place
  mir : (x : ℕ) → x < length s → ℕ
  mir x hx = (A x hx).a + (A x hx).b - 1 - x

  module _ (x : ℕ) (hx : x < length s) where
    mir-in : ((A x hx).a ≤ mir x hx) × (mir x hx < (A x hx).b)
    unfolding mir
    mir-in = let M = A x hx in (omega (arith, M.low, M.high), omega (arith, M.low, M.high))

    mir-lt : mir x hx < length s
    mir-lt = omega (arith, mir-in, (A x hx).run.inside)

    mir_same : end_value vs s (mir x hx) ≡ end_value vs s x
    mir_same = let M = A x hx in M.run.same (mir x hx) mir-in.0 mir-in.1 ∙ sym (M.run.same x M.low M.high)

    linked-as : Pair (S x) (S (mir x hx)) (get_or ls (S x) 0)
    unfolding mir
    linked-as = (A x hx).pair

  -- mirrors lie the other way round
  mir_sum : (x z : ℕ) (hx : x < length s) (hz : z < length s) → end_value vs s z ≡ end_value vs s x → mir z hz + z ≡ mir x hx + x
  unfolding mir
  mir_sum x z hx hz e =
      let o = one-run x z hx hz e in
      let M = A x hx in
      let N = A z hz in
      omega (arith, o, M.low, M.high, N.low, N.high)

  up : (x y : ℕ) → y < length s → end_value vs s x ≡ end_value vs s y → x < y → S x < S y
  up x y h e l = L.rise x y l h e

  -- places go as the ends do
  place : (x y : ℕ) → x < length s → y < length s → end_value vs s x ≡ end_value vs s y → S x < S y → x < y
  place x y hx hy e l =
      ⊎_elim (λ h. elim (ℕ_discrete y x) [ yes q ↦ absurd (let z : S y ≡ S x = ap S q in omega arith) | no n ↦ absurd (omega (arith, up y x hx (sym e) (omega arith))) ]) (λ h. h) (le-or y x)

  -- what a link says
  module _ (f g : ℕ) (hf : f < m) (y : get_or ls f 0 ≡ suc g) where
    at : ℕ
    at = (L.find f hf (alive f g hf y)).0

    at_lt : at < length s
    unfolding at
    at_lt = (L.find f hf (alive f g hf y)).1

    at-is : S at ≡ f
    unfolding at
    at-is = (L.find f hf (alive f g hf y)).2

    at-link : get_or ls (S at) 0 ≡ suc g
    at-link = rw at-is y

    apart : S at / 2 ≢ S (mir at at_lt) / 2
    apart q = omega (arith, at-link, (linked-as at at_lt).own q)

    to_is : S (mir at at_lt) ≡ g
    to_is = omega (arith, at-link, (linked-as at at_lt).other apart)

    value-is : get_or vs f 0 ≡ end_value vs s at
    value-is = ap (λ (z : ℕ). get_or vs z 0) (sym at-is)

  links-of : (x : ℕ) (hx : x < length s) → S x / 2 ≢ S (mir x hx) / 2 → get_or ls (S x) 0 ≡ suc (S (mir x hx))
  links-of x hx n = (linked-as x hx).other n

  valued : (x e : ℕ) → S x ≡ e → end_value vs s x ≡ get_or vs e 0
  valued x e q = ap (λ (z : ℕ). get_or vs z 0) q

  back : (f g : ℕ) → f < m → get_or ls f 0 ≡ suc g → (g < m) × (get_or ls g 0 ≡ suc f)
  back f g hf y =
      let x = at f g hf y in
      let hx = at_lt f g hf y in
      let z = mir x hx in
      let hz = mir-lt x hx in
      let w : mir z hz ≡ x = omega (arith, mir_sum x z hx hz (mir_same x hx)) in
      let n : S z / 2 ≢ S (mir z hz) / 2 = λ q. apart f g hf y (sym (q ∙ ap (λ (v : ℕ). S v / 2) w)) in
      (subst (λ (v : ℕ). v < m) (to_is f g hf y) (L.each z hz).0, subst (λ (v : ℕ). get_or ls v 0 ≡ suc f) (to_is f g hf y) (links-of z hz n ∙ ap suc (ap S w ∙ at-is f g hf y)))

  live_at : (x : ℕ) → x < length s → Live (S x)
  live_at x hx = (L.each x hx).1

  may : (f g : ℕ) → f < m → get_or ls f 0 ≡ suc g → (join f g ≡ true) × (f ≢ g)
  may f g hf y =
      let x = at f g hf y in
      let hx = at_lt f g hf y in
      let p = at-is f g hf y in
      let q = to_is f g hf y in
      let n : f / 2 ≢ g / 2 = λ h. apart f g hf y (ap (λ (v : ℕ). v / 2) p ∙ h ∙ ap (λ (v : ℕ). v / 2) (sym q)) in
      let v : get_or vs f 0 ≡ get_or vs g 0 = sym (valued x f p) ∙ sym (mir_same x hx) ∙ valued (mir x hx) g q in
      (J.to f g v n (subst Live p (live_at x hx)) (subst Live q (live_at (mir x hx) (mir-lt x hx))), λ h. n (ap (λ (v : ℕ). v / 2) h))

  top : (f g k : ℕ) → f < m → get_or ls f 0 ≡ suc g → f < g → g < k → k < m → join f k ≡ true → (j : ℕ) × (get_or ls k 0 ≡ suc j) × (j < f)
  top f g k hf y fg gk hk t =
      let x = at f g hf y in
      let hx = at_lt f g hf y in
      let p : S x ≡ f = at-is f g hf y in
      let q : S (mir x hx) ≡ g = to_is f g hf y in
      let F = L.find k hk (J.of f k t).3 in
      let z = F.0 in
      let hz = F.1 in
      let r : S z ≡ k = F.2 in
      let e : end_value vs s z ≡ end_value vs s x = valued z k r ∙ sym (J.of f k t).0 ∙ sym (valued x f p) in
      let ms = mir_same x hx in
      let mz = mir_same z hz in
      let xy : x < mir x hx = place x (mir x hx) hx (mir-lt x hx) (sym ms) (omega arith) in
      let yz : mir x hx < z = place (mir x hx) z (mir-lt x hx) hz (ms ∙ sym e) (omega arith) in
      let wx : mir z hz < x = omega (arith, mir_sum x z hx hz e) in
      let sw : S (mir z hz) < S x = up (mir z hz) x hx (mz ∙ e) wx in
      let l = links-of z hz (omega arith) in
      (S (mir z hz), subst (λ (v : ℕ). get_or ls v 0 ≡ suc (S (mir z hz))) r l, omega arith)

  full : (f k : ℕ) → f < m → k < m → get_or ls f 0 ≡ 0 → join f k ≡ true → (j : ℕ) × (get_or ls k 0 ≡ suc j) × ((j < f) ⊎ (k < f))
  full f k hf hk y t =
      let O = J.of f k t in
      let X = L.find f hf O.2 in
      let F = L.find k hk O.3 in
      go X.0 X.1 X.2 F.0 F.1 F.2 (valued F.0 k F.2 ∙ sym O.0 ∙ sym (valued X.0 f X.2)) O.1
    where
      go : (x : ℕ) (hx : x < length s) → S x ≡ f → (z : ℕ) (hz : z < length s) → S z ≡ k → end_value vs s z ≡ end_value vs s x → f / 2 ≢ k / 2
          → (j : ℕ) × (get_or ls k 0 ≡ suc j) × ((j < f) ⊎ (k < f))
      go x hx p z hz r e n = elim (ℕ_discrete (S x / 2) (S (mir x hx) / 2)) [ yes q ↦ close q (le-or x z) | no d ↦ absurd (omega (arith, links-of x hx d, subst (λ (v : ℕ). get_or ls v 0 ≡ 0) (sym p) y)) ]
        where
          ms : end_value vs s (mir x hx) ≡ end_value vs s x
          ms = mir_same x hx

          mz : end_value vs s (mir z hz) ≡ end_value vs s z
          mz = mir_same z hz

          sum : mir z hz + z ≡ mir x hx + x
          sum = mir_sum x z hx hz e

          answer : S z / 2 ≢ S (mir z hz) / 2 → ((S (mir z hz) < f) ⊎ (k < f)) → (j : ℕ) × (get_or ls k 0 ≡ suc j) × ((j < f) ⊎ (k < f))
          answer d b = (S (mir z hz), subst (λ (v : ℕ). get_or ls v 0 ≡ suc (S (mir z hz))) r (links-of z hz d), b)

          differ : S z / 2 ≢ S x / 2
          differ h = n (sym (sym (ap (λ (v : ℕ). v / 2) r) ∙ h ∙ ap (λ (v : ℕ). v / 2) p))

          above : S x / 2 ≡ S (mir x hx) / 2 → x < z → mir x hx < z
          above q l =
              ⊎_elim
              (λ h. elim (ℕ_discrete z (mir x hx)) [ yes o ↦ absurd (differ (ap (λ (v : ℕ). S v / 2) o ∙ sym q)) | no o ↦ absurd (let i = up x z hz (sym e) l in let j = up z (mir x hx) (mir-lt x hx) (e ∙ sym ms) (omega arith) in differ (omega arith)) ])
              (λ h. h) (le-or z (mir x hx))

          under : S x / 2 ≡ S (mir x hx) / 2 → z < x → z < mir x hx
          under q l =
              ⊎_elim
              (λ h. elim (ℕ_discrete z (mir x hx)) [ yes o ↦ absurd (differ (ap (λ (v : ℕ). S v / 2) o ∙ sym q)) | no o ↦ absurd (let i = up z x hx e l in let j = up (mir x hx) z hz (ms ∙ sym e) (omega arith) in differ (omega arith)) ])
              (λ h. h) (le-or (mir x hx) z)

          higher : S x / 2 ≡ S (mir x hx) / 2 → x < z → (j : ℕ) × (get_or ls k 0 ≡ suc j) × ((j < f) ⊎ (k < f))
          higher q l =
              let a = up x z hz (sym e) l in
              let d = up (mir z hz) x hx (mz ∙ e) (omega (arith, sum, above q l)) in
              answer (omega arith) (inl (omega arith))

          lower : S x / 2 ≡ S (mir x hx) / 2 → z < x → (j : ℕ) × (get_or ls k 0 ≡ suc j) × ((j < f) ⊎ (k < f))
          lower q l =
              let a = up z x hx e l in
              let d = up x (mir z hz) (mir-lt z hz) (sym (mz ∙ e)) (omega (arith, sum, under q l)) in
              answer (omega arith) (inr (omega arith))

          close : S x / 2 ≡ S (mir x hx) / 2 → (x ≤ z) ⊎ (z < x) → (j : ℕ) × (get_or ls k 0 ≡ suc j) × ((j < f) ⊎ (k < f))
          close q (inl h) = elim (ℕ_discrete z x) [ yes o ↦ absurd (differ (ap (λ (v : ℕ). S v / 2) o)) | no o ↦ higher q (omega arith) ]
          close q (inr h) = lower q h

  pub mirrors_right : Right join m ls
  mirrors_right = record { size = size; back = back; may = may; top = top; full = full }
