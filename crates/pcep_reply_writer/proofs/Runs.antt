-- Things of one kind written one after the other, as a loop writes them: none, one more, all of them. And the METRICs of three lists by index.
use mathlib.Core.Path.{◌≡◌, refl, sym, ap, subst, ◌∙◌}
use mathlib.Core.List.{List, [], ◌∷◌, ◌++◌, append_assoc, append-nil}
use Prim.Native.Nat.{ℕ, zero, suc, ◌+◌, ◌≤◌, ◌<◌}
use native.Mathlib.Numerals.{add-one}
use native.Mathlib.Omega.{arith}
use lib.ListN.{length, get_or, take}
use lib.Seq.{take_all}
use Rattle.model.specs.Lists.{each}
use Rattle.buffers.specs.Placed.{Put}
use Rattle.buffers.proofs.Places.{nothing_put, put_append}
use Rattle.pcep_model.specs.Metrics.{Metric}
use Rattle.pcep_model.specs.Pcrep.{written_metric, metrics_of}
use Rattle.pcep_reply_writer.specs.Lengths.{Together}

module _ {A : Type 0} (f : A → List ℕ) where
  pub each_more : (xs : List A) (i : ℕ) (d : A) → i < length xs → each f (take (suc i) xs) ≡ each f (take i xs) ++ f (get_or xs i d)
  unfolding each
  each_more [] i d h = absurd (omega arith)
  each_more (x ∷ xs) zero d h = append-nil (f x)
  each_more (x ∷ xs) (suc i) d h = ap (λ (r : List ℕ). f x ++ r) (each_more xs i d (omega arith)) ∙ sym (append_assoc (f x) (each f (take i xs)) (f (get_or xs i d)))

  pub none_put : (xs : List A) (s : List ℕ) (start : ℕ) → Put start (each f (take 0 xs)) s s start
  unfolding each
  none_put xs s start = nothing_put s start

  pub one-more-put
      : (xs : List A) (start at next i : ℕ) (d : A) (old mid new : List ℕ) → start ≤ length old → i < length xs
      → Put start (each f (take i xs)) old mid at → Put at (f (get_or xs i d)) mid new next
      → Put start (each f (take (i + 1) xs)) old new next
  one-more-put xs start at next i d old mid new h l p q =
      rw (add-one i) (subst (λ (bytes : List ℕ). Put start bytes old new next) (sym (each_more xs i d l)) (put_append h p q))

  pub all_put : (xs : List A) (start at i : ℕ) (old new : List ℕ) → length xs ≤ i → Put start (each f (take i xs)) old new at → Put start (each f xs) old new at
  all_put xs start at i old new h p = subst (λ (ys : List A). Put start (each f ys) old new at) (take_all i xs h) p

-- ---- the METRICs of three lists

abbrev pub metric_of : List ℕ → List ℕ → List ℕ → ℕ → Metric
metric_of kinds flags values i = record { kind = get_or kinds i 0; flags = get_or flags i 0; value = get_or values i 0 }

no_metric : Metric
no_metric = record { kind = 0; flags = 0; value = 0 }

pub metrics-count : (kinds flags values : List ℕ) → Together kinds flags values → length (metrics_of kinds flags values) ≡ length kinds
unfolding metrics_of
metrics-count [] flags values t = refl
metrics-count (k ∷ ks) [] values t = absurd (omega (arith, t.as_many_flags))
metrics-count (k ∷ ks) (f ∷ fs) [] t = absurd (omega (arith, t.as_many_values))
metrics-count (k ∷ ks) (f ∷ fs) (v ∷ vs) t =
    ap suc (metrics-count ks fs vs (record { as_many_flags = omega (arith, t.as_many_flags); as_many_values = omega (arith, t.as_many_values) }))

metric_at_lem : (kinds flags values : List ℕ) → Together kinds flags values → (i : ℕ) → i < length kinds
    → get_or (metrics_of kinds flags values) i no_metric ≡ metric_of kinds flags values i
unfolding metrics_of
metric_at_lem [] flags values t i h = absurd (omega arith)
metric_at_lem (k ∷ ks) [] values t i h = absurd (omega (arith, t.as_many_flags))
metric_at_lem (k ∷ ks) (f ∷ fs) [] t i h = absurd (omega (arith, t.as_many_values))
metric_at_lem (k ∷ ks) (f ∷ fs) (v ∷ vs) t zero h = refl
metric_at_lem (k ∷ ks) (f ∷ fs) (v ∷ vs) t (suc i) h =
    metric_at_lem ks fs vs (record { as_many_flags = omega (arith, t.as_many_flags); as_many_values = omega (arith, t.as_many_values) }) i (omega arith)

-- one METRIC more
pub one-more-metric
    : (kinds flags values : List ℕ) → Together kinds flags values → (start at next i : ℕ) (old mid new : List ℕ) → start ≤ length old → i < length kinds
    → Put start (each written_metric (take i (metrics_of kinds flags values))) old mid at → Put at (written_metric (metric_of kinds flags values i)) mid new next
    → Put start (each written_metric (take (i + 1) (metrics_of kinds flags values))) old new next
one-more-metric kinds flags values t start at next i old mid new h l p q =
    let n = metrics-count kinds flags values t in
    one-more-put written_metric (metrics_of kinds flags values) start at next i no_metric old mid new h (omega arith) p
    (subst (λ (m : Metric). Put at (written_metric m) mid new next) (sym (metric_at_lem kinds flags values t i l)) q)
