-- What a part of the next place's numbers keeps while a step writes before it. By the laws of `take` and `drop`.
use mathlib.Core.Path.{◌≡◌, sym, ap, subst, ◌∙◌}
use mathlib.Core.List.{List, [], ◌∷◌}
use Prim.Native.Nat.{ℕ, zero, suc, ◌+◌, ◌-◌, ◌≤◌}
use native.Mathlib.Nat.{sub-zero}
use native.Mathlib.Omega.{arith}
use lib.ListN.{length, take, drop}
use lib.Seq.{slice, paste, drop-paste, drop-drop, length-paste, take-nil, drop-nil}
use Rattle.tree_reaches.specs.Reaches.{beside, Small, NextPlace}

-- a part behind what is written stays
module _ {A : Type 0} where
  pub slice_by_drop : (f t : ℕ) (l : List A) → f ≤ t → slice f t l ≡ take (t - f) (drop f l)
  slice_by_drop zero t l h = ap (λ (n : ℕ). take n l) (sym (sub-zero t))
  slice_by_drop (suc f) zero l h = absurd (omega arith)
  slice_by_drop (suc f) (suc t) [] h = drop-nil (suc f) ∙ sym (take-nil (suc t - suc f))
  slice_by_drop (suc f) (suc t) (x ∷ xs) h =
      let e : t - f ≡ suc t - suc f = omega arith in
      slice_by_drop f t xs (omega arith) ∙ ap (λ (n : ℕ). take n (drop f xs)) e

  pub after-paste
      : (d vs : List A) (at n f t : ℕ) → at + n ≤ f → f ≤ t → at ≤ length d → n ≤ length vs → slice f t (paste d at vs n) ≡ slice f t d
  after-paste d vs at n f t h o k m =
      let e : at + n + (f - (at + n)) ≡ f = omega arith in
      let behind : (l : List A) → drop f l ≡ drop (f - (at + n)) (drop (at + n) l) = λ l. sym (drop-drop (f - (at + n)) (at + n) l ∙ ap (λ (j : ℕ). drop j l) e) in
      slice_by_drop f t (paste d at vs n) o
      ∙ ap (take (t - f)) (behind (paste d at vs n) ∙ ap (drop (f - (at + n))) (drop-paste d at vs n k m) ∙ sym (behind d))
      ∙ sym (slice_by_drop f t d o)

-- so the next place's numbers can still be used
pub next_kept
    : (addresses d vs : List ℕ) (at n from to : ℕ)
    → NextPlace addresses d from to → at + n ≤ from → n ≤ length vs → NextPlace addresses (paste d at vs n) from to
next_kept addresses d vs at n from to p h m =
    let in-d = p.in_codes in
    let o = p.order in
    let k : at + n ≤ length d = omega arith in
    record {
      order = o;
      part = p.part;
      in_codes = omega (arith, length-paste d at vs n k m);
      small =
          λ v.
          subst (λ (l : List ℕ). Small (beside (slice from to addresses) l v)) (sym (after-paste d vs at n from to h o (omega arith) m))
          (p.small v);
    }
