-- The METRICs of a message, met one by one along its objects: each is 12 bytes long; the first that passes a test is the first of the METRICs' places to do so.
use Prim.Native.Nat.{ℕ, ◌+◌, ◌≤◌, ◌<◌}
use mathlib.Core.Path.{◌≡◌, refl, sym, ap, ◌∙◌}
use mathlib.Core.Bool.{Bool, true, false, ◌&&◌}
use mathlib.Core.List.{List, [], ◌∷◌, map}
use lib.ListN.{length, length-map}
use lib.Dec.{eqb, leb}
use borrow.Author.Tests.{eqb-true}
use Rattle.model.specs.Verdict.{Pass}
use Rattle.model.specs.Lists.{keep, keep_if}
use Rattle.laws.proofs.Tests.{and_both}
use Rattle.pcep_model.specs.declared.MessageKind.{MessageKind}
use Rattle.pcep_model.specs.declared.MessageKind.TheVariants.{Pcreq, Pcrep}
use Rattle.model.specs.Along.{or_else, first_of}
use Rattle.pcep_model.specs.Objects.{METRIC, class_at, type_at, size_at, is_object, own_length, object_verdict, objects_verdict, objects_in, after_object}
use Rattle.pcep_model.specs.Metrics.{metric_at, metrics, wrong_metric, bound_metric}
use Rattle.pcep_laws.specs.Table.{least_of, fits_least}
use Rattle.pcep_laws.proofs.Table.{own_is}
use Rattle.laws.proofs.Along as Along
use Rattle.pcep_laws.proofs.Objects.{right_object, further}
use Rattle.pcep_laws.specs.Left.{metrics_left}
use Rattle.pcep_laws.specs.Metrics.{metric_places, has_b, is_wrong}

-- ---- a test of some of the places

first-kept : (p q : ℕ → Bool) (xs : List ℕ) → first_of (λ (x : ℕ). p x && q x) xs ≡ first_of q (keep p xs)
unfolding first_of keep
first-kept p q [] = refl
first-kept p q (x ∷ xs) = by (p x) refl (first-kept p q xs)
  where
    by
        : (b : Bool) → p x ≡ b → first_of (λ (y : ℕ). p y && q y) xs ≡ first_of q (keep p xs)
        → or_else (p x && q x) x (first_of (λ (y : ℕ). p y && q y) xs) ≡ first_of q (keep_if (p x) x (keep p xs))
    by true e later = rw e (ap (or_else (q x) x) later)
    by false e later = rw e later

module _ (s : List ℕ) where
  pub bound-is : bound_metric s ≡ first_of (has_b s) (metric_places s)
  unfolding bound_metric
  bound-is = first-kept (is_object METRIC s) (has_b s) (objects_in s 4)

  pub wrong-is : wrong_metric s ≡ first_of (is_wrong s) (metric_places s)
  unfolding wrong_metric
  wrong-is = first-kept (is_object METRIC s) (is_wrong s) (objects_in s 4)

  pub metrics_are : metrics s ≡ map (metric_at s) (metric_places s)
  unfolding metrics
  metrics_are = refl

  pub metrics-count : length (metrics s) ≡ length (metric_places s)
  metrics-count = ap length metrics_are ∙ length-map (metric_places s) (metric_at s)

-- ---- along the objects

module _ (k : MessageKind) (s : List ℕ) where
  pub metrics-end : (at : ℕ) → length s ≤ at → metrics_left s at ≡ []
  unfolding keep
  metrics-end at h = ap (keep (is_object METRIC s)) (Along.places-end (after_object s) (length s) (object_verdict k s) (further k s) at h)

  module _ (at : ℕ) (h : at < length s) (pass : objects_verdict k s at ≡ Pass) where
    here : object_verdict k s at ≡ Pass
    here = Along.right_here (after_object s) (length s) (object_verdict k s) (further k s) at h pass

    split : metrics_left s at ≡ keep_if (is_object METRIC s at) at (metrics_left s (after_object s at))
    unfolding keep
    split = ap (keep (is_object METRIC s)) (Along.places_next (after_object s) (length s) (object_verdict k s) (further k s) at h pass)

    pub metric_skipped : is_object METRIC s at ≡ false → metrics_left s at ≡ metrics_left s (after_object s at)
    metric_skipped f = split ∙ rw f refl

    module _ (is : is_object METRIC s at ≡ true) where
      both : (class_at s at ≡ METRIC) × (type_at s at ≡ 1)
      both =
          let b = and_both (eqb (class_at s at) METRIC) (eqb (type_at s at) 1) is in
          (eqb-true (class_at s at) METRIC b.0, eqb-true (type_at s at) 1 b.1)

      -- a METRIC has a length of its own
      size_by : (kind : MessageKind) (n : ℕ) → fits_least METRIC (least_of kind METRIC 1) n ≡ true → n ≡ 12
      size_by Pcreq n e = eqb-true n 12 (and_both (leb 12 n) (eqb n 12) e).1
      size_by Pcrep n e = eqb-true n 12 (and_both (leb 12 n) (eqb n 12) e).1

      pub metric-size : size_at s at ≡ 12
      metric-size =
          let own = (right_object k s at here).own in
          size_by k (size_at s at) (sym (own_is k METRIC 1 (size_at s at)) ∙ sym (ap (λ (c : ℕ). own_length k c 1 (size_at s at)) both.0) ∙ sym (ap (λ (t : ℕ). own_length k (class_at s at) t (size_at s at)) both.1) ∙ own)

      pub metric-inside : at + 12 ≤ length s
      metric-inside = let i = (right_object k s at here).inside in rw (sym metric-size) i

      pub metric_taken : metrics_left s at ≡ at ∷ metrics_left s (at + 12)
      metric_taken = split ∙ rw (is, metric-size) refl

      pub after-metric : objects_verdict k s (at + 12) ≡ Pass
      after-metric = ap (λ (n : ℕ). objects_verdict k s (at + n)) (sym metric-size) ∙ Along.right_next (after_object s) (length s) (object_verdict k s) (further k s) at h pass
