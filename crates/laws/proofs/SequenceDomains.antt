-- The domains of an include list's sequence: they are all different, each is one of the profile's, and the first is the ingress domain. A new domain keeps
-- all three.
use mathlib.Core.Path.{◌≡◌, refl, sym, ap, subst, ◌∙◌}
use mathlib.Core.Logic.{⊎_elim}
use mathlib.Core.Bool.{Bool, true, false, not, ◌||◌}
use mathlib.Core.List.Memᴰ
use mathlib.Core.List.{List, [], ◌∷◌, ◌++◌, Memᴰ}
use Prim.Native.Nat.{ℕ, zero, suc, ◌≤◌, ◌<◌}
use native.Mathlib.Omega.{arith}
use lib.ListN.{length, get_or, length-append, get_or-append}
use lib.Dec.{eqb}
use borrow.Author.Tests.{not-true}
use Rattle.model.specs.Lists.{any, among, all_different}
use Rattle.model.specs.Sequence.{Stop, ReadingInput, stop_with, good, domains_of, meaning}
use Rattle.model.specs.Path.{no_stop}
use Rattle.laws.proofs.Tests.{and_both, both_and, or_neither, neither_or, clash}
use Rattle.laws.proofs.Ascending.{get_or_mem}
use Rattle.laws.proofs.ProfileLists.{mem_among}
use Rattle.laws.proofs.Lists.{map-append}
use Rattle.laws.proofs.Different.{eqb_sym, among-append}
use Rattle.laws.proofs.ReadingKeeps.{meaning_keeps}

-- a number that is new may stand at the end
different_more : (xs : List ℕ) (d : ℕ) → all_different xs ≡ true → among d xs ≡ false → all_different (xs ++ (d ∷ [])) ≡ true
unfolding all_different among
different_more [] d t f = refl
different_more (x ∷ xs) d t f =
    let b = and_both (not (among x xs)) (all_different xs) t in
    let g = or_neither (eqb d x) (any (eqb d) xs) f in
    both_and (not (among x (xs ++ (d ∷ [])))) (all_different (xs ++ (d ∷ [])))
    (ap not (among-append x xs (d ∷ []) ∙ ap (λ (e : Bool). among x xs || (e || false)) (eqb_sym x d ∙ g.0) ∙ neither_or (among x xs) false (not-true (among x xs) b.0) refl))
    (different_more xs d b.1 g.1)

module _ (R : ReadingInput) (ingress : ℕ) (list : List ℕ) (sequence : List Stop) (e : meaning R ingress list ≡ good sequence) where
  pub meaning-different : all_different (domains_of sequence) ≡ true
  unfolding all_different among
  meaning-different =
      meaning_keeps R (λ (s : List Stop). all_different (domains_of s) ≡ true)
      (λ s d waiting h l new full. ap all_different (map-append (λ (p : Stop). p.domain) s _) ∙ different_more (domains_of s) d h new)
      ingress list sequence refl e

  pub meaning-inside : ingress < length R.domains → (p : Stop) → Memᴰ p sequence → p.domain < length R.domains
  meaning-inside h =
      meaning_keeps R (λ (s : List Stop). (p : Stop) → Memᴰ p s → p.domain < length R.domains)
      (λ s d waiting known l new full p m.
      ⊎_elim (known p) (λ r. subst (λ (x : Stop). x.domain < length R.domains) (sym (Memᴰ.eq_of_singleton r)) l) (Memᴰ.append_cases s m))
      ingress list sequence (λ p m. subst (λ (x : Stop). x.domain < length R.domains) (sym (Memᴰ.eq_of_singleton m)) h) e

  -- the first is the ingress domain, and has no entry constraint
  pub meaning_first : get_or sequence 0 no_stop ≡ stop_with ingress []
  meaning_first =
      (meaning_keeps R (λ (s : List Stop). (1 ≤ length s) × (get_or s 0 no_stop ≡ stop_with ingress []))
      (λ s d waiting h l new full.
      (simp length-append (omega arith), get_or-append s (stop_with d waiting ∷ []) no_stop 0 h.0 ∙ h.1))
      ingress list sequence (omega arith, refl) e).1

-- ---- different numbers, place by place

pub different-places : (xs : List ℕ) → all_different xs ≡ true → (i j : ℕ) → i < j → j < length xs → get_or xs i 0 ≡ get_or xs j 0 → ⊥
unfolding all_different
different-places [] t i j h k e = absurd (omega arith)
different-places (x ∷ xs) t zero zero h k e = absurd (omega arith)
different-places (x ∷ xs) t zero (suc j) h k e =
    let b = and_both (not (among x xs)) (all_different xs) t in
    clash (mem_among x (Memᴰ.cast e (get_or_mem xs j 0 (omega arith)))) (not-true (among x xs) b.0)
different-places (x ∷ xs) t (suc i) zero h k e = absurd (omega arith)
different-places (x ∷ xs) t (suc i) (suc j) h k e =
    let b = and_both (not (among x xs)) (all_different xs) t in
    different-places xs b.1 i j (omega arith) (omega arith) e
