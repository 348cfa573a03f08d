-- How far the METRICs are written: those passed stand at the start of each buffer by their field, and those left are the rest. One law for the three fields.
use Prim.Native.Nat.{ℕ, zero, suc, ◌+◌, ◌≤◌, ◌<◌}
use native.Mathlib.Omega.{arith}
use native.Mathlib.Numerals.{add-one}
use mathlib.Core.Path.{◌≡◌, sym, ap, ◌∙◌}
use mathlib.Core.List.{List, [], ◌∷◌, map}
use mathlib.Core.Logic.{⊎_elim}
use mathlib.Core.Bool.{true, false}
use lib.Dec.{ltb}
use lib.ListN.{length, length-map, get_or, take, drop, set}
use borrow.Author.Tests.{ltb-true, ltb-false}
use Rattle.model.specs.Verdict.{Pass}
use Rattle.model.specs.Lists.{over}
use Rattle.laws.proofs.Lists.{over_nothing, Copied-next}
use Rattle.laws.proofs.Tests.{decide}
use Rattle.pcep_model.specs.Objects.{objects_verdict}
use Rattle.pcep_model.specs.Metrics.{Metric, metric_at, metrics}
use Rattle.pcep_laws.specs.Left.{metrics_left}
use Rattle.pcep_laws.proofs.Metrics.{metrics-end, metrics_are, metric-inside, metric_taken, after-metric}
use Rattle.pcep_metrics.specs.Along.{Passed, AtObject, NextMetric}

-- ---- one buffer: the field of the first i elements over its start

module _ {A : Type 0} (f : A → ℕ) (xs : List A) (old : List ℕ) where
  abbrev pub Written : ℕ → List ℕ → Type 0
  Written i new = new ≡ over (take i (map f xs)) old

  pub written_none : Written 0 old
  written_none = sym (over_nothing old)

  pub written_next : (i x : ℕ) (new : List ℕ) → i < length xs → i < length old → x ≡ get_or (map f xs) i 0 → Written i new → Written (i + 1) (set new i x)
  written_next i x new h k e w =
      ap (λ (y : ℕ). set new i y) e
      ∙ ap (λ (n : List ℕ). set n i (get_or (map f xs) i 0)) w
      ∙ Copied-next (map f xs) old i 0 (let l = length-map xs f in omega arith) k
      ∙ ap (λ (n : ℕ). over (take n (map f xs)) old) (sym (add-one i))

module _ {A : Type 0} where
  none_there : (y : A) (ys : List A) → ◌≡◌ {A = List A} [] (y ∷ ys) → ⊥
  none_there y ys e = let l = ap length e in omega arith

  pub here : (f : A → ℕ) (xs : List A) (i : ℕ) (y : A) (ys : List A) → drop i xs ≡ y ∷ ys → get_or (map f xs) i 0 ≡ f y
  here f [] zero y ys e = absurd (none_there y ys e)
  here f [] (suc i) y ys e = absurd (none_there y ys e)
  here f (x ∷ xs) zero y ys e = ap (λ (l : List A). get_or (map f l) 0 0) e
  here f (x ∷ xs) (suc i) y ys e = here f xs i y ys e

  pub later : (xs : List A) (i : ℕ) (y : A) (ys : List A) → drop i xs ≡ y ∷ ys → drop (suc i) xs ≡ ys
  later [] zero y ys e = absurd (none_there y ys e)
  later [] (suc i) y ys e = absurd (none_there y ys e)
  later (x ∷ xs) zero y ys e = ap (drop 1) e
  later (x ∷ xs) (suc i) y ys e = later xs i y ys e

  pub none_later : (xs : List A) (i : ℕ) → i < length xs → drop i xs ≡ [] → ⊥
  none_later [] i h e = omega arith
  none_later (x ∷ xs) zero h e = none_there x xs (sym e)
  none_later (x ∷ xs) (suc i) h e = none_later xs i (omega arith) e

-- ---- the walk

module _ (s : List ℕ) where
  pub record Putting (p : Passed s) (at i : ℕ) : Type 0 where
    pub left : objects_verdict p.kind s at ≡ Pass
    pub inside : at ≤ length s
    pub rest : drop i (metrics s) ≡ map (metric_at s) (metrics_left s at)

  module _ (p : Passed s) where
    pub putting_starts : Putting p 4 0
    putting_starts =
        record {
          left = p.right;
          inside = p.long;
          rest = metrics_are s;
        }

    module _ (at i : ℕ) (j : Putting p at i) where
      pub standing : AtObject s at
      standing = record { passed = p; left = j.left; inside = j.inside }

      module _ (h : i < length (metrics s)) (r : ℕ) (n : NextMetric s at r) where
        right : objects_verdict p.kind s r ≡ Pass
        right = n.none_between.left p.kind j.left

        same : metrics_left s at ≡ metrics_left s r
        same = n.none_between.same p.kind j.left

        -- a METRIC is left, so one is met
        met : r < length s
        met =
            ⊎_elim
            (λ (t : ltb r (length s) ≡ true). ltb-true r (length s) t)
            (λ (f : ltb r (length s) ≡ false).
            absurd (none_later (metrics s) i h (j.rest ∙ ap (map (metric_at s)) (same ∙ metrics-end p.kind s r (ltb-false r (length s) f)))))
            (decide (ltb r (length s)))

        pub whole : r + 12 ≤ length s
        whole = metric-inside p.kind s r met right (n.metric met)

        split : drop i (metrics s) ≡ metric_at s r ∷ map (metric_at s) (metrics_left s (r + 12))
        split = j.rest ∙ ap (map (metric_at s)) (same ∙ metric_taken p.kind s r met right (n.metric met))

        pub is-there : (f : Metric → ℕ) → get_or (map f (metrics s)) i 0 ≡ f (metric_at s r)
        is-there f = here f (metrics s) i _ _ split

        pub putting_goes_on : Putting p (r + 12) (i + 1)
        putting_goes_on =
            record {
              left = after-metric p.kind s r met right (n.metric met);
              inside = whole;
              rest = ap (λ (m : ℕ). drop m (metrics s)) (add-one i) ∙ later (metrics s) i _ _ split;
            }
