-- A scan that counts the indexes that pass a test and remembers the last: where it starts, what one more index does, and what it has found at the end.
use mathlib.Core.Path.{◌≡◌, refl, sym, ap, ◌∙◌}
use mathlib.Core.Bool.{Bool, true, false, ◌&&◌}
use mathlib.Core.List.{List, [], ◌∷◌, ◌++◌, append-nil}
use Prim.Native.Nat.{ℕ, zero, suc, ◌+◌, ◌≤◌, ◌<◌}
use native.Mathlib.Nat.{zero-add, add-zero}
use native.Mathlib.Numerals.{add-one}
use native.Mathlib.Omega.{arith}
use lib.ListN.{length, length-append}
use lib.Dec.{eqb}
use Rattle.model.specs.Lists.{count_from, keep, keep_if}
use Rattle.model.specs.declared.Domain.{Domain}
use Rattle.model.specs.Bytes.{part}
use Rattle.model.specs.Profile.{domain_at, domain_count, domains}
use Rattle.model.specs.Subobject.{Area}
use Rattle.model.specs.Sequence.{no_domain, domain_of, has_area, of_system, of_area}
use Rattle.laws.proofs.Lists.{keep_append, keep_agree, count_from_mem}
use Rattle.laws.proofs.Records.{length-domains, domain_at_lem}
use Rattle.list_include.specs.NamedDomain.{found_of, found_as, system_is, area_is}

-- the area of a kind whose bytes stand in a list
abbrev pub area_of : List ℕ → ℕ → ℕ → ℕ → Area
area_of list kind start count = record { kind = kind; bytes = part list start count }

pub count_snoc : (i n : ℕ) → count_from i (suc n) ≡ count_from i n ++ ((i + n) ∷ [])
unfolding count_from
count_snoc i zero = ap {B = List ℕ} (λ (m : ℕ). m ∷ []) (sym (add-zero i))
count_snoc i (suc n) =
    ap {B = List ℕ} (λ (l : List ℕ). i ∷ l) (count_snoc (suc i) n)
    ∙ ap {B = List ℕ} (λ (m : ℕ). i ∷ count_from (suc i) n ++ (m ∷ [])) (omega arith)

-- how far a scan of the indexes below n is: of those below i so many pass the test, and the last one is known where there is just one
pub record Hits (p : ℕ → Bool) (n i hits last : ℕ) : Type 0 where
  pub reached : i ≤ n
  pub most : hits ≤ i
  pub small : last ≤ n
  pub count : length (keep p (count_from 0 i)) ≡ hits
  pub only : hits ≡ 1 → keep p (count_from 0 i) ≡ last ∷ []

module _ (p : ℕ → Bool) where
  kept : (i : ℕ) (b : Bool) → p i ≡ b → keep p (count_from 0 (i + 1)) ≡ keep p (count_from 0 i) ++ keep_if b i []
  unfolding keep
  kept i b e =
      ap (λ (n : ℕ). keep p (count_from 0 n)) (add-one i)
      ∙ ap (keep p) (count_snoc 0 i)
      ∙ keep_append p (count_from 0 i) ((0 + i) ∷ [])
      ∙ ap (λ (m : ℕ). keep p (count_from 0 i) ++ keep_if (p m) m []) (zero-add i)
      ∙ ap (λ (c : Bool). keep p (count_from 0 i) ++ keep_if c i []) e

  empty : (xs : List ℕ) → length xs ≡ 0 → xs ≡ []
  empty [] e = refl
  empty (x ∷ xs) e = absurd (omega arith)

  pub hits_none : (n : ℕ) → Hits p n 0 0 0
  unfolding keep count_from
  hits_none n = record { reached = omega arith; most = omega arith; small = omega arith; count = refl; only = λ e. absurd (omega arith) }

  -- one index more, as a loop makes it
  module _ (n i hits last hits' last' : ℕ) (h : Hits p n i hits last) (below : i < n) where
    pub next-hit : p i ≡ true → hits' ≡ hits + 1 → last' ≡ i → Hits p n (i + 1) hits' last'
    next-hit e a b =
        record {
          reached = omega arith;
          most = omega (arith, h.most);
          small = omega arith;
          count = ap length (kept i true e) ∙ length-append (keep p (count_from 0 i)) (i ∷ []) ∙ ap (λ (m : ℕ). m + 1) h.count ∙ sym a;
          only =
              λ one.
              kept i true e
              ∙ ap (λ (xs : List ℕ). xs ++ (i ∷ [])) (empty (keep p (count_from 0 i)) (h.count ∙ omega arith))
              ∙ ap {B = List ℕ} (λ (m : ℕ). m ∷ []) (sym b);
        }

    pub next_miss : p i ≡ false → hits' ≡ hits → last' ≡ last → Hits p n (i + 1) hits' last'
    next_miss e a b =
        let same = kept i false e ∙ append-nil (keep p (count_from 0 i)) in
        record {
          reached = omega arith;
          most = omega (arith, h.most);
          small = omega (arith, h.small);
          count = ap length same ∙ h.count ∙ sym a;
          only = λ one. same ∙ h.only (sym a ∙ one) ∙ ap {B = List ℕ} (λ (m : ℕ). m ∷ []) (sym b);
        }

  found_as_lem : (xs : List ℕ) (hits last : ℕ) → length xs ≡ hits → (hits ≡ 1 → xs ≡ last ∷ []) → found_as hits last ≡ found_of xs
  found_as_lem xs zero last e only = ap found_of (sym (empty xs e))
  found_as_lem xs (suc zero) last e only = ap found_of (sym (only refl))
  found_as_lem [] (suc (suc n)) last e only = absurd (omega arith)
  found_as_lem (x ∷ []) (suc (suc n)) last e only = absurd (omega arith)
  found_as_lem (x ∷ y ∷ ys) (suc (suc n)) last e only = refl

  pub hits_found : (n i hits last : ℕ) → n ≤ i → Hits p n i hits last → found_as hits last ≡ found_of (keep p (count_from 0 n))
  hits_found n i hits last end h =
      found_as_lem (keep p (count_from 0 i)) hits last h.count h.only
      ∙ ap (λ (m : ℕ). found_of (keep p (count_from 0 m))) (omega (arith, h.reached))

-- ---- the domains that `model` names are those that a scan of the records finds

module _ (s : List ℕ) where
  scanned : (p : Domain → Bool) → keep (λ (d : ℕ). p (domain_of (domains s) d)) (count_from 0 (length (domains s))) ≡ keep (λ (d : ℕ). p (domain_at s d)) (count_from 0 (domain_count s))
  scanned p =
      ap (λ (n : ℕ). keep (λ (d : ℕ). p (domain_of (domains s) d)) (count_from 0 n)) (length-domains s)
      ∙ keep_agree (λ (d : ℕ). p (domain_of (domains s) d)) (λ (d : ℕ). p (domain_at s d)) (count_from 0 (domain_count s))
      (λ d m. ap p (domain_at_lem s d no_domain (omega (arith, (count_from_mem 0 (domain_count s) m).1))))

  pub system_scanned : (n : ℕ) → of_system (domains s) n ≡ keep (system_is s n) (count_from 0 (domain_count s))
  unfolding of_system
  system_scanned n = scanned (λ (d : Domain). eqb d.asn n)

  pub area_scanned : (n : ℕ) (a : Area) → of_area (domains s) n a ≡ keep (area_is s n a) (count_from 0 (domain_count s))
  unfolding of_area
  area_scanned n a = scanned (λ (d : Domain). eqb d.asn n && has_area a d)
