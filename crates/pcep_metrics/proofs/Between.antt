-- A walk past what is no METRIC: one object further, the METRICs that are left are the same.
use Prim.Native.Nat.{ℕ, ◌≤◌, ◌<◌}
use native.Mathlib.Omega.{arith}
use mathlib.Core.Path.{◌≡◌, refl, ◌∙◌}
use mathlib.Core.Bool.{false}
use mathlib.Core.List.{List}
use lib.ListN.{length}
use Rattle.pcep_model.specs.Objects.{METRIC, is_object, object_verdict, after_object}
use Rattle.laws.proofs.Along as Along
use Rattle.pcep_laws.proofs.Objects.{Right, right_object, further}
use Rattle.pcep_laws.proofs.Metrics.{metric_skipped}
use Rattle.pcep_metrics.specs.Along.{AtObject, NoneBetween}

module _ (s : List ℕ) (from : ℕ) where
  pub between_none : from ≤ length s → NoneBetween s from from
  between_none h = record { further = omega arith; inside = h; left = λ k e. e; same = λ k e. refl }

  module _ (o : AtObject s from) (at : ℕ) (b : NoneBetween s from at) (h : at < length s) where
    -- the object at hand is right
    pub right_here : Right o.passed.kind s at
    right_here =
        let k = o.passed.kind in
        right_object k s at (Along.right_here (after_object s) (length s) (object_verdict k s) (further k s) at h (b.left k o.left))

    pub between_next : is_object METRIC s at ≡ false → NoneBetween s from (after_object s at)
    between_next f =
        record {
          further = omega (arith, b.further);
          inside = right_here.inside;
          left = λ k e. Along.right_next (after_object s) (length s) (object_verdict k s) (further k s) at h (b.left k e);
          same = λ k e. b.same k e ∙ metric_skipped k s at h (b.left k e) f;
        }
