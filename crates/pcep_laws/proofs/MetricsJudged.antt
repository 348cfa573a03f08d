-- Of a PCReq's floats 21 at place 0 is for the BANDWIDTH and 21 at place 1 for any METRIC, whatever its flags, in document 01's place of the order: the
-- limits that are handed on are judged as the message's floats are. By recursion on the places of the objects, none of which is 0.
use Prim.Native.Nat.{ℕ, zero, suc, ◌-◌, ◌%◌, ◌≤◌, ◌<◌}
use native.Mathlib.Omega.{arith}
use mathlib.Core.Path.{◌≡◌, refl, sym, ap, ap₂, ◌∙◌}
use mathlib.Core.Bool.{Bool, true, false, not, cond, ◌&&◌, true≢false}
use mathlib.Core.List.{List, [], ◌∷◌}
use lib.ListN.{length}
use lib.Dec.{eqb, ltb}
use borrow.Author.Tests.{ltb-true, ltb-false, lt-leb, le-leb, eqb-true}
use Rattle.model.specs.Verdict.{refuse_if, ◌and_then◌}
use Rattle.model.specs.Floats.{in_range, float_of_bits}
use Rattle.model.specs.Request.{limits_verdict}
use Rattle.laws.proofs.Tests.{and_both, and-false}
use Rattle.laws.proofs.Bits.{bits_in_range}
use Rattle.model.specs.Along.{places_along, or_else, first_of}
use Rattle.pcep_model.specs.Objects.{METRIC, is_object, after_object, objects_in}
use Rattle.pcep_model.specs.Metrics.{flags_at, value_at, out_of_range, wrong_metric, bound_metric}
use Rattle.pcep_model.specs.Pcreq.{bits_at, bandwidth_of, floats_verdict, judged_metric, carried_limits}
use Rattle.laws.proofs.InARow.{Each}

-- ---- the first of some places that passes a test

abbrev pub Positive : ℕ → Type 0
Positive n = 0 < n

module _ (test : ℕ → Bool) where
  found-by
      : (at later : ℕ) → (eqb later 0 ≡ false → test later ≡ true)
      → (b : Bool) → test at ≡ b → eqb (or_else b at later) 0 ≡ false → test (or_else b at later) ≡ true
  found-by at later h true t e = t
  found-by at later h false t e = h e

  -- one that is found passes it
  pub first_passes : (ps : List ℕ) → eqb (first_of test ps) 0 ≡ false → test (first_of test ps) ≡ true
  unfolding first_of
  first_passes [] e = absurd (true≢false e)
  first_passes (at ∷ rest) e = found-by at (first_of test rest) (first_passes rest) (test at) refl e

  lacked-by
      : (at mine others : ℕ)
      → 0 < at
      → (mine ≡ 0 → eqb others 0 ≡ false → test others ≡ false)
      → (a : Bool) → test at ≡ a
      → or_else a at mine ≡ 0
      → (b : Bool) → eqb (or_else b at others) 0 ≡ false
      → test (or_else b at others) ≡ false
  lacked-by at mine others p h true t none b e = absurd (omega arith)
  lacked-by at mine others p h false t none true e = t
  lacked-by at mine others p h false t none false e = h none e

  -- where none is found, no place passes it, the first by another test neither
  pub None-passes
      : (other : ℕ → Bool) (ps : List ℕ)
      → Each Positive ps
      → first_of test ps ≡ 0
      → eqb (first_of other ps) 0 ≡ false
      → test (first_of other ps) ≡ false
  unfolding first_of
  None-passes other [] p none e = absurd (true≢false e)
  None-passes other (at ∷ rest) p none e =
      lacked-by at (first_of test rest) (first_of other rest) p.0 (None-passes other rest p.1) (test at) refl none (other at) e

-- a walk that never goes back meets no place before its start
module _ (next : ℕ → ℕ) (end : ℕ) (onward : (at : ℕ) → at ≤ next at) where
  places_positive : (fuel at : ℕ) → 0 < at → Each Positive (places_along fuel next end at)
  unfolding places_along
  places_positive zero at h = tt
  places_positive (suc fuel) at h =
      let f = onward at in
      elim (ltb at end) as (λ (b : Bool). Each Positive (elim b as (λ (x : Bool). List ℕ) [ true ↦ at ∷ places_along fuel next end (next at) | false ↦ [] ]))
      [ true ↦ (h, places_positive fuel (next at) (omega arith)) | false ↦ tt ]

-- ---- the METRICs of a message

bits_out : (n : ℕ) → not (in_range (float_of_bits n)) ≡ out_of_range n
bits_out n = ap not (bits_in_range n) ∙ go (ltb n 0x7f800000) refl
  where
    go : (b : Bool) → ltb n 0x7f800000 ≡ b → not b ≡ out_of_range n
    go true t = sym (lt-leb 0x7f800000 n (ltb-true n 0x7f800000 t))
    go false f = sym (le-leb 0x7f800000 n (ltb-false n 0x7f800000 f))

-- the METRIC at an offset counts, none does at 0, and is out of range
abbrev counts_wrong : List ℕ → ℕ → Bool
counts_wrong s at = not (eqb at 0) && out_of_range (bits_at at (value_at s at))

module _ (s : List ℕ) where
  positive : Each Positive (objects_in s 4)
  positive = places_positive (after_object s) (length s) (λ at. omega arith) (length s - 4) 4 (omega arith)

  -- one out of range that is found is out of range
  pub wrong-is-out : eqb (wrong_metric s) 0 ≡ false → out_of_range (value_at s (wrong_metric s)) ≡ true
  unfolding wrong_metric
  wrong-is-out e =
      let at = wrong_metric s in
      (and_both (is_object METRIC s at) (out_of_range (value_at s at))
      (first_passes (λ (at : ℕ). is_object METRIC s at && out_of_range (value_at s at)) (objects_in s 4) e)).1

  -- where there is none, the bound is in range
  pub bound-is-right : wrong_metric s ≡ 0 → eqb (bound_metric s) 0 ≡ false → out_of_range (value_at s (bound_metric s)) ≡ false
  unfolding wrong_metric bound_metric
  bound-is-right none e =
      let at = bound_metric s in
      let bound : (at : ℕ) → Bool = λ at. is_object METRIC s at && eqb (flags_at s at % 2) 1 in
      and-false (is_object METRIC s at) (out_of_range (value_at s at))
      (None-passes (λ (at : ℕ). is_object METRIC s at && out_of_range (value_at s at)) bound (objects_in s 4) positive none e)
      (and_both (is_object METRIC s at) (eqb (flags_at s at % 2) 1) (first_passes bound (objects_in s 4) e)).0

  -- the METRIC handed on counts and is out of range exactly where some METRIC is
  judged : (none : Bool) → eqb (wrong_metric s) 0 ≡ none → counts_wrong s (cond none (bound_metric s) (wrong_metric s)) ≡ not none
  judged false e = rw (e, wrong-is-out e) refl
  judged true e = go (eqb (bound_metric s) 0) refl
    where
      go : (b : Bool) → eqb (bound_metric s) 0 ≡ b → (not b && out_of_range (cond b 0 (value_at s (bound_metric s)))) ≡ false
      go true t = refl
      go false f = bound-is-right (eqb-true (wrong_metric s) 0 e) f

  pub metrics_judged : limits_verdict (carried_limits s) ≡ floats_verdict s
  metrics_judged =
      let at = judged_metric s in
      ap₂ (λ (a b : Bool). refuse_if a 21 0 and_then refuse_if b 21 1) (bits_out (bandwidth_of s))
      (ap (λ (b : Bool). not (eqb at 0) && b) (bits_out (bits_at at (value_at s at))) ∙ judged (eqb (wrong_metric s) 0) refl)
