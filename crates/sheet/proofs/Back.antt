-- A written sheet is a sheet, and what is read from it is what was written. Bytes that are a sheet are the sheet of what is read from them.
use mathlib.Core.Path.{◌≡◌, refl, sym, ap, ◌∙◌}
use mathlib.Core.Bool.{true, ◌&&◌}
use mathlib.Core.List.{List, [], ◌∷◌, ◌++◌, append-nil, append_assoc}
use Prim.Native.Nat.{ℕ, zero, suc, ◌+◌, ◌*◌, ◌/◌, ◌%◌, ◌≤◌, ◌<◌}
use native.Mathlib.Omega.{arith}
use native.Mathlib.Numerals.{add-one}
use lib.ListN.{length, get_or, take, length-append}
use lib.Seq.{take_at, drop_at}
use lib.Dec.{leb, ltb, eqb}
use borrow.Author.Tests.{leb-true, ltb-true, eqb-true, lt-ltb, eq-eqb}
use Rattle.refusal.specs.Limits.{most_vertices, most_strokes, most_points}
use Rattle.path.specs.Strokes.{gather, number_at, strokes_in}
use Rattle.path.specs.Laid.{non_empty, joined, starts_from}
use Rattle.path.proofs.Tests.{both}
use Rattle.path.proofs.Gathers.{length-gather, gather-drop}
use Rattle.path.proofs.Pushes.{length-starts}
use Rattle.mesh.specs.Meshes.{all_below}
use Rattle.byte_words.specs.Bytes.{bytes_of, bytes_all, word_from}
use Rattle.byte_words.proofs.Words as words
use Rattle.byte_words.proofs.Words.{word_limit, word_after}
use Rattle.sheet.specs.Sheets.{mode_place, vertices_place, strokes_place, points_place, starts_offset, numbers_offset, header_words, numbers_from, word_at, header_of, words_of, sheet_of, size_of, mode_in, vertices_in, stroke_count, point_count, starts_in, numbers_in, mode_good, counts_good, places_good, strict_from, table_good, header_good, is_sheet}
use Rattle.sheet.proofs.Sizes.{words_size}
use Rattle.sheet.proofs.Modes.{good-most}
use Rattle.path.proofs.Again.{gather-add, gather-all, joined-all, strokes_again}
use Rattle.sheet.proofs.Tables.{joined-kept, kept-all, table_good_lem, table_starts}

-- the first word of bytes, and those after it
word_first : (w : ℕ) (rest : List ℕ) → w < word_limit → word_at (bytes_of w ++ rest) 0 ≡ w
unfolding word_at
word_first = words.word_first

word_next : (p q r s : ℕ) (rest : List ℕ) (k : ℕ) → word_at (p ∷ q ∷ r ∷ s ∷ rest) (suc k) ≡ word_at rest k
unfolding word_at
word_next p q r s rest k =
    let e : suc k * 4 ≡ 4 + k * 4 = omega arith in
    rw e (word_after (p ∷ q ∷ r ∷ s ∷ []) rest (k * 4))

-- each word of the bytes of words
word_back : (ws : List ℕ) (k : ℕ) → all_below word_limit ws ≡ true → k < length ws → word_at (bytes_all ws) k ≡ get_or ws k 0
unfolding all_below bytes_all bytes_of
word_back [] k b h = absurd (omega arith)
word_back (w ∷ ws) zero b h = word_first w (bytes_all ws) (ltb-true w word_limit (both (ltb w word_limit) (all_below word_limit ws) b).0)
word_back (w ∷ ws) (suc k) b h = word_next _ _ _ _ (bytes_all ws) k ∙ word_back ws k (both (ltb w word_limit) (all_below word_limit ws) b).1 (omega arith)

pub gather-same : (f g : ℕ → ℕ) (a n : ℕ) → ((k : ℕ) → k < a + n → f k ≡ g k) → gather f a n ≡ gather g a n
unfolding gather
gather-same f g a zero h = refl
gather-same f g a (suc n) h = rw (h a (omega arith), gather-same f g (a + 1) n (λ k l. h k (omega arith)))

-- a part of the words
part-back : (h ws t : List ℕ) (k : ℕ) → length h ≡ k → all_below word_limit (h ++ (ws ++ t)) ≡ true → gather (word_at (bytes_all (h ++ (ws ++ t)))) k (length ws) ≡ ws
part-back h ws t k e b =
    let all = h ++ (ws ++ t) in
    let n : length all ≡ k + (length ws + length t) = omega (arith, length-append h (ws ++ t), length-append ws t) in
    gather-same (word_at (bytes_all all)) (number_at all) k (length ws) (λ j l. word_back all j b (omega arith))
    ∙ gather-drop all k (length ws) (omega arith) ∙ ap (take (length ws)) (drop_at h (ws ++ t) k e) ∙ take_at ws t (length ws) refl

-- ---- bytes are those of their words

shift : (f : ℕ → ℕ) (a n : ℕ) → gather f (a + 1) n ≡ gather (λ k. f (suc k)) a n
unfolding gather
shift f a zero = refl
shift f a (suc n) = rw (add-one a) (ap (λ (l : List ℕ). f (suc a) ∷ l) (rw (add-one a) at (shift f (a + 1) n)))

four_bytes : (p q r s : ℕ) (rest : List ℕ) → p < 256 → q < 256 → r < 256 → s < 256 → bytes_of (word_at (p ∷ q ∷ r ∷ s ∷ rest) 0) ≡ p ∷ q ∷ r ∷ s ∷ []
unfolding bytes_of word_at word_from
four_bytes p q r s rest hp hq hr hs =
    let w = p + 256 * q + 65536 * r + 16777216 * s in
    let x : w / 256 ≡ q + 256 * r + 65536 * s = omega arith in
    let y : w / 256 / 256 ≡ r + 256 * s = rw x (omega arith) in
    let z : w / 256 / 256 / 256 ≡ s = rw y (omega arith) in
    let a : w % 256 ≡ p = omega arith in
    let b : w / 256 % 256 ≡ q = rw x (omega arith) in
    let d : w / 256 / 256 % 256 ≡ r = rw y (omega arith) in
    let e : w / 256 / 256 / 256 % 256 ≡ s = rw z (omega arith) in
    rw (a, b, d, e)

bytes_back : (bs : List ℕ) (m : ℕ) → length bs ≡ 4 * m → all_below 256 bs ≡ true → bytes_all (gather (word_at bs) 0 m) ≡ bs
unfolding bytes_all gather all_below
bytes_back [] zero h b = refl
bytes_back (p ∷ bs) zero h b = absurd (omega arith)
bytes_back [] (suc m) h b = absurd (omega arith)
bytes_back (p ∷ []) (suc m) h b = absurd (omega arith)
bytes_back (p ∷ q ∷ []) (suc m) h b = absurd (omega arith)
bytes_back (p ∷ q ∷ r ∷ []) (suc m) h b = absurd (omega arith)
bytes_back (p ∷ q ∷ r ∷ s ∷ rest) (suc m) h b =
    let bp = both (ltb p 256) (all_below 256 (q ∷ r ∷ s ∷ rest)) b in
    let bq = both (ltb q 256) (all_below 256 (r ∷ s ∷ rest)) bp.1 in
    let br = both (ltb r 256) (all_below 256 (s ∷ rest)) bq.1 in
    let bt = both (ltb s 256) (all_below 256 rest) br.1 in
    let f = four_bytes p q r s rest (ltb-true p 256 bp.0) (ltb-true q 256 bq.0) (ltb-true r 256 br.0) (ltb-true s 256 bt.0) in
    let g = shift (word_at (p ∷ q ∷ r ∷ s ∷ rest)) 0 m ∙ gather-same (λ k. word_at (p ∷ q ∷ r ∷ s ∷ rest) (suc k)) (word_at rest) 0 m (λ k l. word_next p q r s rest k) in
    rw (f, g, bytes_back rest m (omega arith) bt.1)

-- ---- lists of numbers below a limit

pub below_both : (n : ℕ) (a b : List ℕ) → all_below n a ≡ true → all_below n b ≡ true → all_below n (a ++ b) ≡ true
unfolding all_below
below_both n [] b h k = k
below_both n (x ∷ a) b h k = let t = both (ltb x n) (all_below n a) h in rw (t.0, below_both n a b t.1 k)

below_more : (n m : ℕ) (a : List ℕ) → n ≤ m → all_below n a ≡ true → all_below m a ≡ true
unfolding all_below
below_more n m [] l h = refl
below_more n m (x ∷ a) l h =
    let t = both (ltb x n) (all_below n a) h in
    let d = ltb-true x n t.0 in
    rw (lt-ltb x m (omega arith), below_more n m a l t.1)

strict_below : (n p : ℕ) (ks : List ℕ) → strict_from n p ks ≡ true → all_below n ks ≡ true
unfolding all_below strict_from
strict_below n p [] h = refl
strict_below n p (k ∷ ks) h =
    let t = both (ltb p k && ltb k n) (strict_from n k ks) h in
    rw ((both (ltb p k) (ltb k n) t.0).1, strict_below n k ks t.1)

pub table_below : (n : ℕ) (ks : List ℕ) → table_good n ks ≡ true → all_below n ks ≡ true
unfolding all_below table_good
table_below n [] h = refl
table_below n (k ∷ ks) h =
    let t = both (eqb k 0 && ltb k n) (strict_from n k ks) h in
    rw ((both (eqb k 0) (ltb k n) t.0).1, strict_below n k ks t.1)

-- ---- what makes a sheet of words

pub record Sound (m v : ℕ) (ks ns : List ℕ) : Type 0 where
  pub mode : mode_good m ≡ true
  pub counts : counts_good v (length ks) (length ns) ≡ true
  pub table : table_good (length ns) ks ≡ true
  pub below : all_below v ns ≡ true

-- bytes from which these are read
pub record Readable (m v : ℕ) (ks ns bs : List ℕ) : Type 0 where
  pub sheet : is_sheet bs ≡ true
  pub mode : mode_in bs ≡ m
  pub vertices : vertices_in bs ≡ v
  pub starts : starts_in bs ≡ ks
  pub numbers : numbers_in bs ≡ ns

module _ (m v : ℕ) (ks ns : List ℕ) (S : Sound m v ks ns) where
  abbrev Bytes : List ℕ
  Bytes = bytes_all (words_of m v ks ns)

  few : (m ≤ 3) × (v ≤ most_vertices) × (length ks ≤ most_strokes) × (length ns ≤ most_points)
  unfolding counts_good
  few =
      let t = both (leb v most_vertices && leb (length ks) most_strokes) (leb (length ns) most_points) S.counts in
      let u = both (leb v most_vertices) (leb (length ks) most_strokes) t.0 in
      (good-most m S.mode, leb-true v most_vertices u.0, leb-true (length ks) most_strokes u.1, leb-true (length ns) most_points t.1)

  all_words : all_below word_limit (words_of m v ks ns) ≡ true
  unfolding header_of all_below
  all_words =
      let h = few in
      let a = below_more (length ns) word_limit ks (omega arith) (table_below (length ns) ks S.table) in
      let b = below_more v word_limit ns (omega arith) S.below in
      rw (lt-ltb m word_limit (omega arith), lt-ltb v word_limit (omega arith), lt-ltb (length ks) word_limit (omega arith), lt-ltb (length ns) word_limit (omega arith), lt-ltb (4 * numbers_from (length ks)) word_limit (omega arith), below_both word_limit ks ns a b)

  word_is_lem : (k : ℕ) → k < header_words → word_at Bytes k ≡ get_or (words_of m v ks ns) k 0
  unfolding header_of
  word_is_lem k h = word_back (words_of m v ks ns) k all_words (omega arith)

  pub mode_back : mode_in Bytes ≡ m
  unfolding header_of
  mode_back = word_is_lem mode_place (omega arith)

  pub vertices_back : vertices_in Bytes ≡ v
  unfolding header_of
  vertices_back = word_is_lem vertices_place (omega arith)

  pub strokes_back : stroke_count Bytes ≡ length ks
  unfolding header_of
  strokes_back = word_is_lem strokes_place (omega arith)

  pub points_back : point_count Bytes ≡ length ns
  unfolding header_of
  points_back = word_is_lem points_place (omega arith)

  pub starts_back : starts_in Bytes ≡ ks
  unfolding starts_in header_of
  starts_back = rw strokes_back (part-back (header_of m v (length ks) (length ns)) ks ns header_words refl all_words)

  pub numbers-back : numbers_in Bytes ≡ ns
  unfolding numbers_in header_of
  numbers-back =
      let h = header_of m v (length ks) (length ns) in
      let e : h ++ (ks ++ ns) ≡ (h ++ ks) ++ (ns ++ []) = rw (append-nil ns, append_assoc h ks ns) in
      rw (strokes_back, points_back) (rw (← e) at (part-back (h ++ ks) ns [] (numbers_from (length ks)) (omega arith) (rw (← e) all_words)))

  places_back : places_good Bytes (length ks) (length ns) ≡ true
  unfolding places_good header_of
  places_back = rw (eq-eqb _ (4 * header_words) (word_is_lem starts_offset (omega arith)), eq-eqb _ (4 * numbers_from (length ks)) (word_is_lem numbers_offset (omega arith)), eq-eqb _ (size_of (length ks) (length ns)) (words_size m v ks ns))

  pub is_sheet_lem : is_sheet Bytes ≡ true
  unfolding is_sheet header_good
  is_sheet_lem = rw (strokes_back, points_back, mode_back, vertices_back, starts_back, numbers-back, S.mode, S.counts, S.table, S.below, places_back)

-- ---- a written sheet is a sheet, and the strokes that have points, mode and vertices are read back from it

module _ (m v : ℕ) (ss : List (List ℕ)) (hm : mode_good m ≡ true) (hc : counts_good v (length (non_empty ss)) (length (joined ss)) ≡ true) (hb : all_below v (joined ss) ≡ true) where
  sound : Sound m v (starts_from 0 (non_empty ss)) (joined ss)
  sound = record { mode = hm; counts = rw (length-starts 0 (non_empty ss)) hc; table = table_starts (length (joined ss)) ss refl; below = hb }

  pub sheet_back : Readable m v (starts_from 0 (non_empty ss)) (joined ss) (sheet_of m v ss)
  unfolding sheet_of
  sheet_back =
      let n = joined ss in
      let k = starts_from 0 (non_empty ss) in
      record { sheet = is_sheet_lem m v k n sound; mode = mode_back m v k n sound; vertices = vertices_back m v k n sound; starts = starts_back m v k n sound; numbers = numbers-back m v k n sound }

  pub read_back : strokes_in (numbers_in (sheet_of m v ss)) (starts_in (sheet_of m v ss)) ≡ non_empty ss
  read_back =
      let l = ap length (joined-kept ss) in
      rw (sheet_back.numbers, sheet_back.starts) (strokes_again (number_at (joined ss)) (non_empty ss) 0 (length (joined ss)) (omega (arith, l)) (ap (gather (number_at (joined ss)) 0) l ∙ gather-all (joined ss) ∙ sym (joined-kept ss)))

-- ---- bytes that are a sheet are the sheet of what is read from them

-- the tests of a sheet one by one
pub record Tested (bs : List ℕ) : Type 0 where
  pub mode : mode_good (mode_in bs) ≡ true
  pub counts : counts_good (vertices_in bs) (stroke_count bs) (point_count bs) ≡ true
  pub starts_at : word_at bs starts_offset ≡ 4 * header_words
  pub numbers_at : word_at bs numbers_offset ≡ 4 * numbers_from (stroke_count bs)
  pub size : length bs ≡ size_of (stroke_count bs) (point_count bs)
  pub table : table_good (point_count bs) (starts_in bs) ≡ true
  pub below : all_below (vertices_in bs) (numbers_in bs) ≡ true

pub tested : (bs : List ℕ) → is_sheet bs ≡ true → Tested bs
unfolding is_sheet header_good places_good
tested bs h =
    let s = stroke_count bs in
    let p = point_count bs in
    let a = both (header_good bs && table_good p (starts_in bs)) (all_below (vertices_in bs) (numbers_in bs)) h in
    let b = both (header_good bs) (table_good p (starts_in bs)) a.0 in
    let d = both (mode_good (mode_in bs) && counts_good (vertices_in bs) s p) (places_good bs s p) b.0 in
    let e = both (mode_good (mode_in bs)) (counts_good (vertices_in bs) s p) d.0 in
    let f = both (eqb (word_at bs starts_offset) (4 * header_words) && eqb (word_at bs numbers_offset) (4 * numbers_from s)) (eqb (length bs) (size_of s p)) d.1 in
    let g = both (eqb (word_at bs starts_offset) (4 * header_words)) (eqb (word_at bs numbers_offset) (4 * numbers_from s)) f.0 in
    record { mode = e.0; counts = e.1; starts_at = eqb-true _ _ g.0; numbers_at = eqb-true _ _ g.1; size = eqb-true _ _ f.1; table = b.1; below = a.1 }

module _ (bs : List ℕ) (hb : all_below 256 bs ≡ true) (h : is_sheet bs ≡ true) where
  -- the words are the header's, the starts and the numbers
  words_are_lem : gather (word_at bs) 0 (header_words + (stroke_count bs + point_count bs)) ≡ words_of (mode_in bs) (vertices_in bs) (starts_in bs) (numbers_in bs)
  unfolding gather header_of starts_in numbers_in
  words_are_lem =
      let t = tested bs h in
      let s = stroke_count bs in
      let p = point_count bs in
      let at = word_at bs in
      gather-add at 0 header_words (s + p) ∙ ap (λ (l : List ℕ). gather at 0 header_words ++ l) (gather-add at header_words s p)
      ∙ rw (length-gather at header_words s, length-gather at (numbers_from s) p, t.starts_at, t.numbers_at)

  pub write_back : sheet_of (mode_in bs) (vertices_in bs) (strokes_in (numbers_in bs) (starts_in bs)) ≡ bs
  unfolding sheet_of numbers_in
  write_back =
      let t = tested bs h in
      let e : length (numbers_in bs) ≡ point_count bs = length-gather (word_at bs) (numbers_from (stroke_count bs)) (point_count bs) in
      let g = table_good_lem (length (numbers_in bs)) (starts_in bs) (rw e t.table) in
      let k = kept-all (number_at (numbers_in bs)) (length (numbers_in bs)) (starts_in bs) g.0 ∙ g.1 in
      rw (k, joined-all (numbers_in bs) (starts_in bs) g.0) (ap bytes_all (sym words_are_lem) ∙ bytes_back bs (header_words + (stroke_count bs + point_count bs)) (omega (arith, t.size)) hb)
