-- An object found by a test stands in the message whole, and is as long as its kind is at least: the walk that found it checked it.
use Prim.Native.Nat.{ℕ, ◌-◌, ◌≤◌, ◌<◌}
use native.Mathlib.Omega.{arith}
use mathlib.Core.Path.{◌≡◌, sym, ap, ◌∙◌}
use mathlib.Core.Bool.{Bool, true, not, ◌&&◌, ◌||◌}
use mathlib.Core.List.{List}
use lib.ListN.{length, get_or}
use lib.Dec.{eqb, leb}
use borrow.Author.Tests.{leb-true, eqb-true, ne_eqb}
use Rattle.model.specs.Verdict.{Pass}
use Rattle.model.specs.Along.{first_of}
use Rattle.laws.proofs.Tests.{and_both}
use Rattle.laws.proofs.Along.{found}
use Rattle.pcep_model.specs.declared.MessageKind.{MessageKind}
use Rattle.pcep_model.specs.Objects.{METRIC, class_at, type_at, size_at, is_object, own_length, object_verdict, objects_verdict, objects_in, after_object, first_object}
use Rattle.pcep_model.specs.Metrics.{wrong_metric, bound_metric}
use Rattle.pcep_laws.specs.Left.{Stands}
use Rattle.pcep_laws.specs.Table.{leasts, fits_least}
use Rattle.pcep_laws.specs.Metrics.{has_b, is_wrong}
use Rattle.pcep_laws.proofs.Table.{own_is}
use Rattle.pcep_laws.proofs.Objects.{right_object}

-- ---- an object of a class that is known in the message

module _ (k : MessageKind) (s : List ℕ) (pass : objects_verdict k s 4 ≡ Pass) where
  least_by : (c least n : ℕ) → 0 < least → fits_least c least n ≡ true → least ≤ n
  least_by c least n h e =
      leb-true least n (and_both (leb least n) (not (leb 4 c && leb c 6) || eqb n least) (sym (ap (λ (b : Bool). b || (leb least n && (not (leb 4 c && leb c 6) || eqb n least))) (ne_eqb least 0 (λ x. omega arith))) ∙ e)).0

  stands : (at c : ℕ) → 0 < get_or (leasts k) c 0 → object_verdict k s at ≡ Pass → is_object c s at ≡ true → Stands s at (get_or (leasts k) c 0)
  stands at c known right is =
      let r = right_object k s at right in
      let b = and_both (eqb (class_at s at) c) (eqb (type_at s at) 1) is in
      let class = eqb-true (class_at s at) c b.0 in
      let type = eqb-true (type_at s at) 1 b.1 in
      let own = sym (own_is k c 1 (size_at s at)) ∙ sym (ap (λ (x : ℕ). own_length k x 1 (size_at s at)) class) ∙ sym (ap (λ (t : ℕ). own_length k (class_at s at) t (size_at s at)) type) ∙ r.own in
      record { long = least_by c (get_or (leasts k) c 0) (size_at s at) known own; inside = r.inside; head = r.head }

  -- whatever the test asks besides the class
  first-stands
      : (c : ℕ) (test : ℕ → Bool) → ((x : ℕ) → test x ≡ true → is_object c s x ≡ true) → 0 < get_or (leasts k) c 0
      → (first_of test (objects_in s 4) ≡ 0 → ⊥) → Stands s (first_of test (objects_in s 4)) (get_or (leasts k) c 0)
  first-stands c test asks known some =
      let f = found (after_object s) (length s) (object_verdict k s) test (length s - 4) 4 pass some in
      stands (first_of test (objects_in s 4)) c known f.0 (asks _ f.1)

  pub object_stands : (c : ℕ) → 0 < get_or (leasts k) c 0 → (first_object c s ≡ 0 → ⊥) → Stands s (first_object c s) (get_or (leasts k) c 0)
  unfolding first_object
  object_stands c known some = first-stands c (is_object c s) (λ x e. e) known some

  module _ (known : 0 < get_or (leasts k) METRIC 0) where
    pub bound_stands : (bound_metric s ≡ 0 → ⊥) → Stands s (bound_metric s) (get_or (leasts k) METRIC 0)
    unfolding bound_metric
    bound_stands some = first-stands METRIC (λ (x : ℕ). is_object METRIC s x && has_b s x) (λ x e. (and_both (is_object METRIC s x) (has_b s x) e).0) known some

    pub wrong_stands : (wrong_metric s ≡ 0 → ⊥) → Stands s (wrong_metric s) (get_or (leasts k) METRIC 0)
    unfolding wrong_metric
    wrong_stands some = first-stands METRIC (λ (x : ℕ). is_object METRIC s x && is_wrong s x) (λ x e. (and_both (is_object METRIC s x) (is_wrong s x) e).0) known some
