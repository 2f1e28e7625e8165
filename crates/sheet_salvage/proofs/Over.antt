-- Words stored where the next that is kept goes: what is not kept is stored over.
use mathlib.Core.Path.{◌≡◌, refl, sym, ap, ◌∙◌}
use mathlib.Core.Bool.{Bool, true, false, not, ◌&&◌, cond}
use mathlib.Core.List.{List, [], ◌∷◌, ◌++◌}
use Prim.Native.Nat.{ℕ, suc, ◌+◌, ◌-◌, ◌*◌, ◌≤◌, ◌<◌}
use native.Mathlib.Omega.{arith}
use lib.ListN.{length, set, length-append}
use lib.Seq.{sets, set-set}
use lib.Dec.{ltb, eqb}
use borrow.Author.Tests.{lt-ltb, le-ltb}
use Rattle.byte_words.specs.Bytes.{bytes_of, bytes_all}
use Rattle.byte_words.proofs.Words.{length-bytes, put_one}
use Rattle.path.specs.Strokes.{gather}
use Rattle.path.specs.Laid.{joined, starts_from}
use Rattle.path.specs.declared.Place.{Place}
use Rattle.path.proofs.Pushes.{length-starts}
use Rattle.sheet.specs.Sheets.{header_words}
use Rattle.sheet.proofs.Words.{put-more}
use Rattle.sheet_salvage.specs.InnerPieces.{kept_from, placed, laid_at, LaysOver}
use Rattle.sheet_salvage.specs.InnerScan.{num, next_good, keeps, scanned, begun}
use Rattle.sheet_salvage.proofs.Lays.{set-sets, sets-swap, joined-append, starts_append}
use Rattle.sheet_salvage.proofs.Points.{keep_is, begin_is, scan_step, begun-step}

-- elements stored over others
store_over : {A : Type 0} (l : List A) (i : ℕ) (xs ys : List A) → length xs ≤ length ys → sets (sets l i xs) i ys ≡ sets l i ys
store_over l i [] ys h = refl
store_over l i (x ∷ xs) [] h = absurd (omega arith)
store_over l i (x ∷ xs) (y ∷ ys) h =
    ap (λ (z : List _). sets z (suc i) ys) (sym (set-sets (set l i x) i y (suc i) xs (omega arith)) ∙ ap (λ (z : List _). sets z (suc i) xs) (set-set l i x y))
    ∙ store_over (set l i y) (suc i) xs ys (omega arith)

-- a word stored where the next goes: it is the next, or the next is stored over it, or there is no next
row_step : (keep : Bool) (w : ℕ) (m : List ℕ) (out out₁ : List ℕ) (k at total : ℕ) → at + length (cond keep (w ∷ m) m) ≡ total → out₁ ≡ cond (ltb at total) (sets out ((k + at) * 4) (bytes_of w)) out
    → sets out₁ ((k + (at + num keep)) * 4) (bytes_all m) ≡ sets out ((k + at) * 4) (bytes_all (cond keep (w ∷ m) m))
unfolding bytes_all
row_step true w m out out₁ k at total t e =
    let f : out₁ ≡ sets out ((k + at) * 4) (bytes_all (w ∷ [])) = e ∙ rw (lt-ltb at total (omega arith)) (put_one out ((k + at) * 4) w) in
    let z : k + (at + 1) ≡ k + at + 1 = omega arith in
    rw (f, z) (put-more out (k + at) (w ∷ []) m)
row_step false w [] out out₁ k at total t e = e ∙ rw (le-ltb at total (omega arith))
row_step false w (y ∷ m) out out₁ k at total t e =
    let f : out₁ ≡ sets out ((k + at) * 4) (bytes_all (w ∷ [])) = e ∙ rw (lt-ltb at total (omega arith)) (put_one out ((k + at) * 4) w) in
    let z : k + (at + 0) ≡ k + at = omega arith in
    rw (f, z) (store_over out ((k + at) * 4) (bytes_all (w ∷ [])) (bytes_all (y ∷ m)) (omega (arith, length-bytes (w ∷ []), length-bytes (y ∷ m))))

-- beside the starts, which lie before the numbers
beside : (c : Bool) (w : ℕ) (out out₁ : List ℕ) (base points starts : ℕ) (ss : List ℕ) → header_words + starts + length ss ≤ base → out₁ ≡ cond c (sets out ((base + points) * 4) (bytes_of w)) out
    → let s = (header_words + starts) * 4 in sets out₁ s (bytes_all ss) ≡ cond c (sets (sets out s (bytes_all ss)) ((base + points) * 4) (bytes_of w)) (sets out s (bytes_all ss))
beside true w out out₁ base points starts ss h e =
    ap (λ (x : List ℕ). sets x ((header_words + starts) * 4) (bytes_all ss)) e ∙ sets-swap out ((header_words + starts) * 4) ((base + points) * 4) (bytes_all ss) (bytes_of w) (omega (arith, length-bytes ss))
beside false w out out₁ base points starts ss h e = ap (λ (x : List ℕ). sets x ((header_words + starts) * 4) (bytes_all ss)) e

both_steps : (keep begin : Bool) (w : ℕ) (out out₁ out₂ : List ℕ) (base points starts tp ts : ℕ) (m b : List ℕ) → base ≡ header_words + ts
    → points + length (cond keep (w ∷ m) m) ≡ tp → starts + length (cond begin (points ∷ b) b) ≡ ts
    → out₁ ≡ cond (ltb points tp) (sets out ((base + points) * 4) (bytes_of w)) out → out₂ ≡ cond (ltb starts ts) (sets out₁ ((header_words + starts) * 4) (bytes_of points)) out₁
    → placed out₂ base (points + num keep) (starts + num begin) m b ≡ placed out base points starts (cond keep (w ∷ m) m) (cond begin (points ∷ b) b)
both_steps keep begin w out out₁ out₂ base points starts tp ts m b eb ep es e₁ e₂ =
    let ss = cond begin (points ∷ b) b in
    let s = (header_words + starts) * 4 in
    ap (λ (x : List ℕ). sets x ((base + (points + num keep)) * 4) (bytes_all m)) (row_step begin points b out₁ out₂ header_words starts ts es e₂)
    ∙ row_step keep w m (sets out s (bytes_all ss)) (sets out₁ s (bytes_all ss)) base points tp ep (beside (ltb points tp) w out out₁ base points starts ss (omega arith) e₁)

cond-append : {A : Type 0} (b : Bool) (y : A) (l r n : List A) → l ≡ cond b (y ∷ r) r → l ++ n ≡ cond b (y ∷ (r ++ n)) (r ++ n)
cond-append true y l r n e = ap (λ (x : List _). x ++ n) e
cond-append false y l r n e = ap (λ (x : List _). x ++ n) e

-- ---- a point of a stroke, and all that follows

module _ (n : ℕ) (at : ℕ → ℕ) (s : Bool) (e i single prev here next keep begin : ℕ) (h : i < e) (es : single ≡ num s)
    (eh : here ≡ num (ltb (at i) n && ltb i e)) (en : next ≡ num (ltb (at (i + 1)) n && ltb (i + 1) e))
    (ek : keep ≡ num (keeps (eqb single 1) (eqb prev 1) (eqb here 1) (eqb next 1))) (eb : begin ≡ num (eqb keep 1 && not (eqb prev 1)))
    (w points starts tp ts base : ℕ) (ew : w ≡ at i) (ebase : base ≡ header_words + ts) (ns ss : List ℕ) where
  abbrev Rest : List ℕ
  Rest = gather at (i + 1) (e - (i + 1))

  abbrev All : List ℕ
  All = gather at i (e - i)

  abbrev Keep : Bool
  Keep = keeps s (eqb prev 1) (ltb (at i) n) (next_good n Rest)

  abbrev Begin : Bool
  Begin = Keep && not (eqb prev 1)

  all_numbers : scanned n s (eqb prev 1) All ++ ns ≡ cond Keep (w ∷ (scanned n s (eqb here 1) Rest ++ ns)) (scanned n s (eqb here 1) Rest ++ ns)
  all_numbers = rw ew (cond-append Keep (at i) (scanned n s (eqb prev 1) All) (scanned n s (eqb here 1) Rest) ns (scan_step n at s e i single prev here next keep begin h es eh en ek eb))

  all_starts : begun n s (eqb prev 1) points All ++ ss ≡ cond Begin (points ∷ (begun n s (eqb here 1) (points + keep) Rest ++ ss)) (begun n s (eqb here 1) (points + keep) Rest ++ ss)
  all_starts = cond-append Begin points (begun n s (eqb prev 1) points All) (begun n s (eqb here 1) (points + keep) Rest) ss (begun-step n at s e i single prev here next keep begin h es eh en ek eb points)

  count-back : (b : Bool) (y x t r : ℕ) (l rest : List ℕ) → l ≡ cond b (y ∷ rest) rest → r ≡ num b → x + r + length rest ≡ t → x + length l ≡ t
  count-back true y x t r l rest e q g = let f = ap length e in omega arith
  count-back false y x t r l rest e q g = let f = ap length e in omega arith

  module _ (gp : points + keep + length (scanned n s (eqb here 1) Rest ++ ns) ≡ tp) (gs : starts + begin + length (begun n s (eqb here 1) (points + keep) Rest ++ ss) ≡ ts) where
    pub numbers-back : points + length (scanned n s (eqb prev 1) All ++ ns) ≡ tp
    numbers-back = count-back Keep w points tp keep (scanned n s (eqb prev 1) All ++ ns) (scanned n s (eqb here 1) Rest ++ ns) all_numbers (keep_is n at s e i single prev here next keep begin h es eh en ek eb) gp

    pub starts-back : starts + length (begun n s (eqb prev 1) points All ++ ss) ≡ ts
    starts-back = count-back Begin points starts ts begin (begun n s (eqb prev 1) points All ++ ss) (begun n s (eqb here 1) (points + keep) Rest ++ ss) all_starts (begin_is n at s e i single prev here next keep begin h es eh en ek eb) gs

    pub write_step : (out out₁ out₂ : List ℕ) → out₁ ≡ cond (ltb points tp) (sets out ((base + points) * 4) (bytes_of w)) out → out₂ ≡ cond (ltb starts ts) (sets out₁ ((header_words + starts) * 4) (bytes_of points)) out₁
        → placed out₂ base (points + keep) (starts + begin) (scanned n s (eqb here 1) Rest ++ ns) (begun n s (eqb here 1) (points + keep) Rest ++ ss)
        ≡ placed out base points starts (scanned n s (eqb prev 1) All ++ ns) (begun n s (eqb prev 1) points All ++ ss)
    write_step out out₁ out₂ e₁ e₂ =
        let m = scanned n s (eqb here 1) Rest ++ ns in
        let b = begun n s (eqb here 1) (points + keep) Rest ++ ss in
        let k = keep_is n at s e i single prev here next keep begin h es eh en ek eb in
        let g = begin_is n at s e i single prev here next keep begin h es eh en ek eb in
        let ep : points + length (cond Keep (w ∷ m) m) ≡ tp = sym (ap (λ (l : List ℕ). points + length l) all_numbers) ∙ numbers-back in
        let ess : starts + length (cond Begin (points ∷ b) b) ≡ ts = sym (ap (λ (l : List ℕ). starts + length l) all_starts) ∙ starts-back in
        ap (λ (x : ℕ). placed out₂ base (points + x) (starts + begin) m b) k ∙ ap (λ (x : ℕ). placed out₂ base (points + num Keep) (starts + x) m b) g
        ∙ both_steps Keep Begin w out out₁ out₂ base points starts tp ts m b ebase ep ess e₁ e₂
        ∙ ap (λ (x : List ℕ). placed out base points starts x (cond Begin (points ∷ b) b)) (sym all_numbers) ∙ ap (λ (x : List ℕ). placed out base points starts (scanned n s (eqb prev 1) All ++ ns) x) (sym all_starts)

-- ---- a whole stroke: stored such that what follows can be stored behind it

pub lays_over : (n : ℕ) (at : ℕ → ℕ) (a e : ℕ) (out out' : List ℕ) (total p : Place) → let ks = kept_from n at a e in (points starts : ℕ) → points ≡ p.points + length (joined ks) → starts ≡ p.starts + length ks
    → ((ns ss : List ℕ) → points + length ns ≡ total.points → starts + length ss ≡ total.starts
    → placed out' (header_words + total.starts) points starts ns ss ≡ placed out (header_words + total.starts) p.points p.starts (joined ks ++ ns) (starts_from p.points ks ++ ss))
    → LaysOver out out' total p ks
unfolding laid_at
lays_over n at a e out out' total p points starts ep es h rest q =
    let ks = kept_from n at a e in
    let base = header_words + total.starts in
    let ns = joined rest in
    let ss = starts_from (p.points + length (joined ks)) rest in
    let fp : p.points + length (joined (ks ++ rest)) ≡ total.points = ap (λ (x : Place). x.points) q in
    let fs : p.starts + length (ks ++ rest) ≡ total.starts = ap (λ (x : Place). x.starts) q in
    let gp : points + length ns ≡ total.points = omega (arith, fp, ep, ap length (joined-append ks rest), length-append (joined ks) ns) in
    let gs : starts + length ss ≡ total.starts = omega (arith, fs, es, length-append ks rest, length-starts (p.points + length (joined ks)) rest) in
    ap (λ (x : ℕ). placed out' base x (p.starts + length ks) ns ss) (sym ep) ∙ ap (λ (x : ℕ). placed out' base points x ns ss) (sym es) ∙ h ns ss gp gs
    ∙ ap (λ (x : List ℕ). placed out base p.points p.starts x (starts_from p.points ks ++ ss)) (sym (joined-append ks rest)) ∙ ap (λ (x : List ℕ). placed out base p.points p.starts (joined (ks ++ rest)) x) (sym (starts_append p.points ks rest))
