-- Linking: what the finished links are.
use mathlib.Core.Path.{◌≡◌, refl, sym, ◌∙◌, subst}
use mathlib.Core.Bool.{Bool, true, false, ◌&&◌, cond}
use mathlib.Core.Logic.{◌≢◌}
use mathlib.Core.List.{List}
use Prim.Native.Nat.{ℕ, zero, suc, ◌+◌, ◌<◌}
use native.Mathlib.Omega.{arith}
use native.Mathlib.Decide.{ℕ_discrete}
use lib.ListN.{length, get_or, set, replicate, length-set, length-replicate}
use lib.Seq.{get_or-set_same, get_or-set_other}
use Rattle.path_splice_rule.specs.Splice.{is_zero, pick, tie, link_end, link_from, links}
use Rattle.order.proofs.Tests.{clash, both, both_left, both_right}
use Rattle.path_splice_rule.proofs.Ends.{zero_of, is_zero_lem, nonzero_of}

pub record Linked (join : ℕ → ℕ → Bool) (m : ℕ) (ls : List ℕ) : Type 0 where
  pub size : length ls ≡ m
  pub back : (e f : ℕ) → get_or ls e 0 ≡ suc f → get_or ls f 0 ≡ suc e
  pub may : (e f : ℕ) → get_or ls e 0 ≡ suc f → join e f ≡ true

pub record Picked (join : ℕ → ℕ → Bool) (ls : List ℕ) (e k f : ℕ) : Type 0 where
  pub below : f < k
  pub unlinked : get_or ls f 0 ≡ 0
  pub fit : join e f ≡ true

pick_some : (join : ℕ → ℕ → Bool) (ls : List ℕ) (e k f : ℕ) → pick join ls e k ≡ suc f → Picked join ls e k f
unfolding pick
pick_some join ls e zero f h = absurd (omega arith)
pick_some join ls e (suc k) f h = go (is_zero (get_or ls k 0) && join e k) refl h (pick_some join ls e k f)
  where
    go : (b : Bool) → is_zero (get_or ls k 0) && join e k ≡ b → cond b (suc k) (pick join ls e k) ≡ suc f
        → (pick join ls e k ≡ suc f → Picked join ls e k f) → Picked join ls e (suc k) f
    go true t q rec =
        let fk : k ≡ f = omega arith in
        record { below = omega arith; unlinked = rw (← fk) (zero_of (get_or ls k 0) (both_left (is_zero (get_or ls k 0)) (join e k) t)); fit = rw (← fk) (both_right (is_zero (get_or ls k 0)) (join e k) t) }
    go false t q rec = let r = rec q in record { below = omega (arith, r.below); unlinked = r.unlinked; fit = r.fit }

pick-none : (join : ℕ → ℕ → Bool) (ls : List ℕ) (e k : ℕ) → pick join ls e k ≡ 0 → (f : ℕ) → f < k → get_or ls f 0 ≡ 0 → join e f ≡ false
unfolding pick
pick-none join ls e zero h f l u = absurd (omega arith)
pick-none join ls e (suc k) h f l u = go (is_zero (get_or ls k 0) && join e k) refl h (λ q l. pick-none join ls e k q f l u)
  where
    here : is_zero (get_or ls k 0) && join e k ≡ false → f ≡ k → (b : Bool) → join e f ≡ b → join e f ≡ false
    here t e1 true q = absurd (clash (both (is_zero_lem (get_or ls k 0) (rw (← e1) u)) (rw (← e1) q)) t)
    here t e1 false q = q

    go : (b : Bool) → is_zero (get_or ls k 0) && join e k ≡ b → cond b (suc k) (pick join ls e k) ≡ 0
        → (pick join ls e k ≡ 0 → f < k → join e f ≡ false) → join e f ≡ false
    go true t q rec = absurd (omega arith)
    go false t q rec = elim (ℕ_discrete f k) [ yes e1 ↦ here t e1 (join e f) refl | no n ↦ rec q (omega arith) ]

module _ (join : ℕ → ℕ → Bool) (turn : (e f : ℕ) → join e f ≡ true → join f e ≡ true) (apart : (e : ℕ) → join e e ≡ false) (m : ℕ) where
  -- a new link between two free ends
  module _ (ls : List ℕ) (e f : ℕ) (L : Linked join m ls) (he : e < m) (hf : f < m) (ue : get_or ls e 0 ≡ 0) (uf : get_or ls f 0 ≡ 0) (j : join e f ≡ true) where
    ne : e ≢ f
    ne q = clash j (rw (← q) (apart e))

    at_f : get_or (set (set ls e (suc f)) f (suc e)) f 0 ≡ suc e
    at_f = get_or-set_same (set ls e (suc f)) f (suc e) 0 (rw length-set (omega (arith, L.size)))

    at-e : get_or (set (set ls e (suc f)) f (suc e)) e 0 ≡ suc f
    at-e = get_or-set_other (set ls e (suc f)) f e (suc e) 0 ne ∙ get_or-set_same ls e (suc f) 0 (omega (arith, L.size))

    at_other : (x : ℕ) → x ≢ e → x ≢ f → get_or (set (set ls e (suc f)) f (suc e)) x 0 ≡ get_or ls x 0
    at_other x p q = get_or-set_other (set ls e (suc f)) f x (suc e) 0 q ∙ get_or-set_other ls e x (suc f) 0 p

    tie-back : (a b : ℕ) → get_or (set (set ls e (suc f)) f (suc e)) a 0 ≡ suc b → get_or (set (set ls e (suc f)) f (suc e)) b 0 ≡ suc a
    tie-back a b h = elim (ℕ_discrete a e) [ yes p ↦ at1 p | no p ↦ elim (ℕ_discrete a f) [ yes q ↦ at2 q | no q ↦ at3 p q ] ]
      where
        at1 : a ≡ e → get_or (set (set ls e (suc f)) f (suc e)) b 0 ≡ suc a
        at1 p = let bf : b ≡ f = omega (arith, at-e, rw p at h) in rw (p, bf) at_f

        at2 : a ≡ f → get_or (set (set ls e (suc f)) f (suc e)) b 0 ≡ suc a
        at2 p = let be : b ≡ e = omega (arith, at_f, rw p at h) in rw (p, be) at-e

        at3 : a ≢ e → a ≢ f → get_or (set (set ls e (suc f)) f (suc e)) b 0 ≡ suc a
        at3 p q =
            let old : get_or ls a 0 ≡ suc b = sym (at_other a p q) ∙ h in
            let bk : get_or ls b 0 ≡ suc a = L.back a b old in
            at_other b (λ z. let w : get_or ls e 0 ≡ suc a = rw (← z) bk in omega arith) (λ z. let w : get_or ls f 0 ≡ suc a = rw (← z) bk in omega arith) ∙ bk

    tie-may : (a b : ℕ) → get_or (set (set ls e (suc f)) f (suc e)) a 0 ≡ suc b → join a b ≡ true
    tie-may a b h = elim (ℕ_discrete a e) [ yes p ↦ at1 p | no p ↦ elim (ℕ_discrete a f) [ yes q ↦ at2 q | no q ↦ at3 p q ] ]
      where
        at1 : a ≡ e → join a b ≡ true
        at1 p = let bf : b ≡ f = omega (arith, at-e, rw p at h) in rw (p, bf) j

        at2 : a ≡ f → join a b ≡ true
        at2 p = let be : b ≡ e = omega (arith, at_f, rw p at h) in rw (p, be) (turn e f j)

        at3 : a ≢ e → a ≢ f → join a b ≡ true
        at3 p q = L.may a b (sym (at_other a p q) ∙ h)

    tie-linked : Linked join m (set (set ls e (suc f)) f (suc e))
    tie-linked = record { size = simp length-set L.size; back = tie-back; may = tie-may }

    tie-grows : (x : ℕ) → get_or (set (set ls e (suc f)) f (suc e)) x 0 ≡ 0 → get_or ls x 0 ≡ 0
    tie-grows x h = elim (ℕ_discrete x e) [ yes p ↦ rw p ue | no p ↦ elim (ℕ_discrete x f) [ yes q ↦ rw q uf | no q ↦ sym (at_other x p q) ∙ h ] ]

  -- no two free ends, one of them below k, may still be linked
  abbrev pub Settled : ℕ → List ℕ → Type 0
  Settled k ls = (e f : ℕ) → e < k → f < m → get_or ls e 0 ≡ 0 → get_or ls f 0 ≡ 0 → join e f ≡ false

  pub record Upto (k : ℕ) (ls : List ℕ) : Type 0 where
    pub linked : Linked join m ls
    pub settled : Settled k ls

  link_end_lem : (ls : List ℕ) (e : ℕ) → e < m → Upto e ls → Upto (suc e) (link_end join m ls e)
  unfolding link_end tie
  link_end_lem ls e he U = go (is_zero (get_or ls e 0)) refl
    where
      found : (x : ℕ) → pick join ls e m ≡ x → get_or ls e 0 ≡ 0 → Upto (suc e) (tie ls e x)
      found zero p u =
          record {
            linked = U.linked;
            settled = λ a f la lf ua uf. elim (ℕ_discrete a e) [ yes q ↦ rw q (pick-none join ls e m p f lf uf) | no q ↦ U.settled a f (omega arith) lf ua uf ];
          }
      found (suc f) p u =
          let P = pick_some join ls e m f p in
          let grows = tie-grows ls e f U.linked he P.below u P.unlinked P.fit in
          let ate = at-e ls e f U.linked he P.below u P.unlinked P.fit in
          record {
            linked = tie-linked ls e f U.linked he P.below u P.unlinked P.fit;
            settled = λ a b la lb ua ub. elim (ℕ_discrete a e) [ yes q ↦ absurd (let z : get_or (set (set ls e (suc f)) f (suc e)) e 0 ≡ 0 = subst (λ (x : ℕ). get_or (set (set ls e (suc f)) f (suc e)) x 0 ≡ 0) q ua in omega arith) | no q ↦ U.settled a b (omega arith) lb (grows a ua) (grows b ub) ];
          }

      kept : get_or ls e 0 ≢ 0 → Upto (suc e) ls
      kept n = record { linked = U.linked; settled = λ a f la lf ua uf. elim (ℕ_discrete a e) [ yes q ↦ absurd (n (rw (← q) ua)) | no q ↦ U.settled a f (omega arith) lf ua uf ] }

      go : (b : Bool) → is_zero (get_or ls e 0) ≡ b → Upto (suc e) (cond b (tie ls e (pick join ls e m)) ls)
      go true t = found (pick join ls e m) refl (zero_of (get_or ls e 0) t)
      go false t = kept (nonzero_of (get_or ls e 0) t)

  link_from_lem : (k e : ℕ) (ls : List ℕ) → e + k ≡ m → Upto e ls → Upto m (link_from join m k e ls)
  unfolding link_from
  link_from_lem zero e ls h U = let z : e ≡ m = omega arith in subst (λ (k : ℕ). Upto k ls) z U
  link_from_lem (suc k) e ls h U = link_from_lem k (suc e) (link_end join m ls e) (omega arith) (link_end_lem ls e (omega arith) U)

  nought : (k i : ℕ) → ◌≡◌ {A = ℕ} (get_or (replicate k 0) i 0) 0
  nought zero i = refl
  nought (suc k) zero = refl
  nought (suc k) (suc i) = nought k i

  pub links-upto : Upto m (links join m)
  unfolding links
  links-upto =
      link_from_lem m 0 (replicate m 0) (omega arith)
      (record {
        linked = record { size = length-replicate m 0; back = λ e f h. absurd (omega (arith, nought m e)); may = λ e f h. absurd (omega (arith, nought m e)) };
        settled = λ e f h. absurd (omega arith);
      })
