-- What the call answers and leaves.
use Rattle.std.specs.Prelude.{Ok}
use mathlib.Core.Path.{◌≡◌, refl, sym, ap, ◌∙◌, subst}
use mathlib.Core.Bool.{Bool, true, false}
use mathlib.Core.List.{List, [], ◌∷◌, ◌++◌, append_assoc, map}
use Prim.Native.Nat.{ℕ, ◌+◌, ◌-◌, ◌*◌, ◌/◌, ◌%◌, ◌≤◌, ◌<◌}
use native.Mathlib.Omega.{arith}
use lib.ListN.{length, get_or, drop, length-append}
use lib.Dec.{leb, eqb}
use borrow.Author.Tests.{leb-true}
use Rattle.refusal.specs.Said.{Said, accepted}
use Rattle.path.specs.Strokes.{good_starts, number_at, strokes_in}
use Rattle.path.specs.Laid.{joined, starts_from}
use Rattle.path.specs.Tests.{counted_of}
use Rattle.path.proofs.Tests.{passed, both}
use Rattle.path.proofs.Pushes.{Lays, length-starts}
use Rattle.path.proofs.Again.{strokes_count, table_all}
use Rattle.path_splice.specs.InnerText.{entry_text, start_mark, order_text, marks_of, ReadOut, Filled, LaidBy, LaidOut}
use Rattle.path_splice.specs.Call.{verdict_of, left, laid}
use Rattle.order.specs.Regions.{region, put}
use mathlib.Core.Logic.{⊎_elim}
use lib.ListN.{get_or-eq_default, length-map, get_or-map}
use Rattle.path_splice_rule.specs.Splice.{splice, is_zero, present, value_at, joinable, links, chains_of, read_from, added, read_chain}
use Rattle.path_splice_links.specs.Ends.{fit_live}
use Rattle.path_splice_rule.specs.Demand.{sum, Law}
use Rattle.path_splice_links.specs.Walk.{link_in, doubled_ends, all_doubled, order_in, Woven}
use Rattle.order.proofs.Tests.{clash, le-or}
use Rattle.path_splice_rule.proofs.Ends.{is_zero_lem}
use Rattle.path_splice.proofs.Joining.{links-are}
use Rattle.path_splice_rule.proofs.Walking.{All, none, more}
use Rattle.path_splice_rule.proofs.Reading.{Full}
use Rattle.path_splice_rule.proofs.Spliced.{points_most, strokes_most, strokes_full}
use Rattle.path_splice_rule.proofs.Numbers.{numbers}
use Rattle.path_splice.proofs.Readings.{mark_none, mark_one, words_lie}
use Rattle.refusal.specs.Limits.{most_strokes, most_points}

pub within-limits : (np n : ℕ) → counted_of np n ≡ true → (np ≤ most_points) × (n ≤ most_strokes)
unfolding counted_of
within-limits np n h =
    let f = both (leb np most_points) (leb n most_strokes) h in
    (leb-true _ _ f.0, leb-true _ _ f.1)

-- what an accepted call has passed
pub granted : (ps ss : List ℕ) (w r s : ℕ) → verdict_of ps ss w r s ≡ (Ok tt)
    → (good_starts (length ps) ss ≡ true) × (length ps ≤ most_points) × (length ss ≤ most_strokes) × (8 * length ss ≤ w) × (length ps ≤ r) × (length ss ≤ s)
unfolding verdict_of
granted ps ss w r s h =
    let a = passed _ _ _ h in
    let b = passed _ _ _ a.1 in
    let d = passed _ _ _ b.1 in
    let e = passed _ _ _ d.1 in
    let f = within-limits (length ps) (length ss) b.0 in
    let g = both (leb (length ps) r) (leb (length ss) s) e.0 in
    (a.0, f.0, f.1, leb-true _ _ d.0, leb-true _ _ g.0, leb-true _ _ g.1)

-- what an order of marked chains reads, of strokes of any points
module _ {A : Type 0} (ss : List (List A)) where
  part-even : (e : ℕ) → entry_text ss (e + e + 0) ≡ drop 1 (read_from ss e)
  unfolding entry_text
  part-even e =
      let p : 1 - (e + e + 0) % 2 ≡ 1 = omega arith in
      let q : (e + e + 0) / 2 ≡ e = omega arith in
      rw (p, q)

  part-odd : (e : ℕ) → entry_text ss (e + e + 1) ≡ read_from ss e
  unfolding entry_text
  part-odd e =
      let p : 1 - (e + e + 1) % 2 ≡ 0 = omega arith in
      let q : (e + e + 1) / 2 ≡ e = omega arith in
      rw (p, q)

  text_joined : (c xs : List ℕ) → order_text ss (doubled_ends 0 c ++ xs) ≡ added ss c ++ order_text ss xs
  unfolding order_text doubled_ends added
  text_joined [] xs = refl
  text_joined (e ∷ c) xs = rw (part-even e, text_joined c xs) (sym (append_assoc (drop 1 (read_from ss e)) (added ss c) (order_text ss xs)))

  chain_text : (c xs : List ℕ) → order_text ss (doubled_ends 1 c ++ xs) ≡ read_chain ss c ++ order_text ss xs
  unfolding order_text doubled_ends read_chain
  chain_text [] xs = refl
  chain_text (e ∷ c) xs = rw (part-odd e, text_joined c xs) (sym (append_assoc (read_from ss e) (added ss c) (order_text ss xs)))

  text_all : (cs : List (List ℕ)) → order_text ss (all_doubled cs) ≡ joined (map (read_chain ss) cs)
  unfolding order_text all_doubled joined
  text_all [] = refl
  text_all (c ∷ cs) = one c (text_all cs)
    where
      one : (c : List ℕ) → order_text ss (all_doubled cs) ≡ joined (map (read_chain ss) cs) → order_text ss (doubled_ends 1 c ++ all_doubled cs) ≡ read_chain ss c ++ joined (map (read_chain ss) cs)
      one c h = chain_text c (all_doubled cs) ∙ ap (λ (z : List A). read_chain ss c ++ z) h

  marks-joined : (p : ℕ) (c xs : List ℕ) → marks_of ss p (doubled_ends 0 c ++ xs) ≡ marks_of ss (p + length (added ss c)) xs
  unfolding marks_of doubled_ends added
  marks-joined p [] xs = let z : p + 0 ≡ p = omega arith in rw z
  marks-joined p (e ∷ c) xs =
      let z : start_mark p (e + e + 0) ≡ [] = mark_none p (e + e + 0) (omega arith) in
      let y : p + length (drop 1 (read_from ss e)) + length (added ss c) ≡ p + length (drop 1 (read_from ss e) ++ added ss c) = omega (arith, length-append (drop 1 (read_from ss e)) (added ss c)) in
      rw (z, part-even e) (marks-joined (p + length (drop 1 (read_from ss e))) c xs ∙ ap (λ (k : ℕ). marks_of ss k xs) y)

  marks-chain : (p e : ℕ) (c xs : List ℕ) → marks_of ss p (doubled_ends 1 (e ∷ c) ++ xs) ≡ p ∷ marks_of ss (p + length (read_chain ss (e ∷ c))) xs
  unfolding marks_of doubled_ends read_chain
  marks-chain p e c xs =
      let z : start_mark p (e + e + 1) ≡ p ∷ [] = mark_one p (e + e + 1) (omega arith) in
      let y : p + length (read_from ss e) + length (added ss c) ≡ p + length (read_from ss e ++ added ss c) = omega (arith, length-append (read_from ss e) (added ss c)) in
      rw (z, part-odd e) (ap (λ (l : List ℕ). p ∷ l) (marks-joined (p + length (read_from ss e)) c xs ∙ ap (λ (k : ℕ). marks_of ss k xs) y))

  read_none : read_chain ss [] ≡ []
  unfolding read_chain
  read_none = refl

  not_full : (l : List A) → Full l → l ≡ [] → ⊥
  not_full [] f e = elim f [ ]
  not_full (x ∷ l) f e = omega (arith, ap length e)

  marks-all : (p : ℕ) (cs : List (List ℕ)) → All Full (map (read_chain ss) cs) → marks_of ss p (all_doubled cs) ≡ starts_from p (map (read_chain ss) cs)
  unfolding marks_of all_doubled starts_from
  marks-all p [] none = refl
  marks-all p ([] ∷ cs) (more f F) = absurd (not_full (read_chain ss []) f (read_none))
  marks-all p ((e ∷ c) ∷ cs) (more f F) = marks-chain p e c (all_doubled cs) ∙ ap (λ (l : List ℕ). p ∷ l) (marks-all (p + length (read_chain ss (e ∷ c))) cs F)

-- sizes
joined-size : {A : Type 0} (ss : List (List A)) → length (joined ss) ≡ sum length ss
unfolding joined sum
joined-size [] = refl
joined-size (s ∷ ss) = omega (arith, length-append s (joined ss), joined-size ss)

-- the order that the code leaves is the definition's, where two ends have one number exactly if their points are the same
module _ {A : Type 0} (d : A) (same : A → A → Bool) (law : Law same) (ss : List (List A)) (s s' : List ℕ) (n r : ℕ) (q : length ss ≡ n) (todo : region s (6 * n) n ≡ map present ss)
    (agree : (e f : ℕ) → e < 2 * n → f < 2 * n → eqb (get_or (region s 0 (2 * n)) e 0) (get_or (region s 0 (2 * n)) f 0) ≡ same (value_at d ss e) (value_at d ss f)) (H : Woven s s' n r) where
  abbrev T : List ℕ
  T = region s (6 * n) n

  abbrev Vs : List ℕ
  Vs = region s 0 (2 * n)

  there : (i : ℕ) → is_zero (get_or T i 0) ≡ is_zero (present (get_or ss i []))
  unfolding present
  there i = ap (λ (l : List ℕ). is_zero (get_or l i 0)) todo ∙ ap is_zero (get_or-map present ss i [])

  long : length T ≡ n
  long = ap length todo ∙ length-map ss present ∙ q

  -- an end of a stroke that is there
  inside : (e : ℕ) → is_zero (get_or T (e / 2) 0) ≡ false → e < 2 * n
  inside e z = ⊎_elim (λ h. absurd (clash (is_zero_lem (get_or T (e / 2) 0) (get_or-eq_default T 0 (omega (arith, long)))) z)) (λ h. h) (le-or (2 * n) e)

  links-is : links (fit_live T Vs) (2 * n) ≡ links (joinable d same ss) (2 * length ss)
  links-is = ap (λ (k : ℕ). links (fit_live T Vs) (2 * k)) (sym q) ∙ links-are d same ss T Vs there (λ e f y z. agree e f (inside e y) (inside f z))

  abbrev C : List (List ℕ)
  C = chains_of (λ (e : ℕ). get_or (links (joinable d same ss) (2 * length ss)) e 0) (length ss) (map present ss)

  order-def : region s' (2 * n) r ≡ all_doubled (chains_of (link_in (links (fit_live T Vs) (2 * n))) n T)
  unfolding order_in
  order-def = H.order

  order_is : region s' (2 * n) r ≡ all_doubled C
  order_is =
      order-def ∙ ap (λ (l : List ℕ). all_doubled (chains_of (link_in l) n T)) links-is ∙ ap (λ (t : List ℕ). all_doubled (chains_of (link_in (links (joinable d same ss) (2 * length ss))) n t)) todo
      ∙ ap (λ (k : ℕ). all_doubled (chains_of (link_in (links (joinable d same ss) (2 * length ss))) k (map present ss))) (sym q)

  splice-is : map (read_chain ss) C ≡ splice d same ss
  unfolding splice
  splice-is = refl

  pub text_is : order_text ss (region s' (2 * n) r) ≡ joined (splice d same ss)
  text_is = ap (order_text ss) order_is ∙ text_all ss C ∙ ap joined splice-is

  pub marks-is : marks_of ss 0 (region s' (2 * n) r) ≡ starts_from 0 (splice d same ss)
  marks-is = ap (marks_of ss 0) order_is ∙ marks-all ss 0 C (subst (All Full) (sym splice-is) (strokes_full d same law ss)) ∙ ap (starts_from 0) splice-is

  -- no more points than there were, and no more strokes
  pub text_most : length (order_text ss (region s' (2 * n) r)) ≤ sum length ss
  text_most = omega (arith, ap length text_is, joined-size (splice d same ss), points_most d same law ss)

  pub marks-most : length (marks_of ss 0 (region s' (2 * n) r)) ≤ n
  marks-most = omega (arith, ap length marks-is, length-starts 0 (splice d same ss), strokes_most d same law ss, q)

  -- what is read is laid out, where there is room
  pub laid_by : {B : Type 0} {write : List B → ℕ → List A → List B} {flat : List A → List B} {width : ℕ} → Lays write flat width → (op : List B) (os : List ℕ) (op' : List B) (os' : List ℕ) (p k : ℕ)
      → length (order_text ss (region s' (2 * n) r)) * width ≤ length op → n ≤ length os → ReadOut write ss (region s' (2 * n) r) op os op' os' p k → LaidBy flat (splice d same ss) op os op' os' p k
  laid_by {write = write} {width = width} lays op os op' os' p k a b R =
      record {
        points = R.points ∙ ap (write op 0) text_is ∙ lays.fore op (joined (splice d same ss)) (subst (λ (l : List A). length l * width ≤ length op) text_is a);
        starts = R.starts ∙ ap (put os 0) marks-is ∙ words_lie.fore os (starts_from 0 (splice d same ss)) (omega (arith, marks-most, ap length marks-is));
        many = R.many ∙ ap length text_is;
        strokes = R.chains ∙ ap length marks-is ∙ length-starts 0 (splice d same ss);
      }

-- what is written of numbers
module _ (ps ss : List ℕ) (g : good_starts (length ps) ss ≡ true) (s s' : List ℕ) (r : ℕ) (F : Filled (strokes_in ps ss) s (length ss)) (H : Woven s s' (length ss) r) (h : ℕ) (e : h ≡ r) where
  abbrev Given : List (List ℕ)
  Given = strokes_in ps ss

  same-order : region s' (2 * length ss) h ≡ region s' (2 * length ss) r
  same-order = ap (region s' (2 * length ss)) e

  count : length Given ≡ length ss
  count = strokes_count (number_at ps) (length ps) ss

  agree : (e f : ℕ) → e < 2 * length ss → f < 2 * length ss → eqb (get_or (region s 0 (2 * length ss)) e 0) (get_or (region s 0 (2 * length ss)) f 0) ≡ eqb (value_at 0 Given e) (value_at 0 Given f)
  agree e f y z = rw (F.values e y, F.values f z)

  out-most : length (order_text Given (region s' (2 * length ss) r)) ≤ length ps
  out-most = omega (arith, text_most 0 eqb numbers Given s s' (length ss) r count F.todo agree H, joined-size Given, table_all (number_at ps) (length ps) ss g)

  pub out-points : length (order_text Given (region s' (2 * length ss) h)) ≤ length ps
  out-points = rw same-order out-most

  pub out-starts : length (marks_of Given 0 (region s' (2 * length ss) h)) ≤ length ss
  out-starts = rw same-order (marks-most 0 eqb numbers Given s s' (length ss) r count F.todo agree H)

  pub laid_out : (op os op' os' : List ℕ) (p q : ℕ) → length ps ≤ length op → length ss ≤ length os → ReadOut put Given (region s' (2 * length ss) h) op os op' os' p q → LaidOut (splice 0 eqb Given) op os op' os' p q
  laid_out op os op' os' p q a b R =
      laid_by 0 eqb numbers Given s s' (length ss) r count F.todo agree H words_lie op os op' os' p q (omega (arith, out-most)) b (rw same-order at R)

-- an accepted call
same_left : {a b : Said ℕ} {s t op op' os os' : List ℕ} → a ≡ b → s ≡ t → op ≡ op' → os ≡ os' → left a s op os ≡ left b t op' os'
same_left a b c d = cc

pub wrote : (ss : List (List ℕ)) (s s' op os op' os' : List ℕ) (p q : ℕ) → s' ≡ s → LaidOut ss op os op' os' p q → left (accepted (p ∷ q ∷ [])) s' op' os' ≡ laid ss s op os
unfolding laid
wrote ss s s' op os op' os' p q e R = same_left (rw (R.many, R.strokes)) e R.points R.starts
