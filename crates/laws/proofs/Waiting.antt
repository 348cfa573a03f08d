-- Stretches of an include list, whole subobjects of right form, one behind the other: what waits in them, and what their EXRS carry.
use Prim.Native.Nat.{ℕ, ◌≤◌}
use native.Mathlib.Omega.{arith}
use mathlib.Core.Path.{◌≡◌, refl, ap, ap₂, ◌∙◌}
use mathlib.Core.List.{List, [], ◌∷◌, ◌++◌, append-nil}
use lib.ListN.{length}
use Rattle.model.specs.Verdict.{Pass}
use Rattle.model.specs.declared.ListKind.TheVariants.{Include}
use Rattle.model.specs.Lists.{each}
use Rattle.model.specs.Subobject.{Named, prefix, system, area, stretch, Subobject, subobject_verdict, named_at, after_subobject, form_from, subobjects_from, inside_of}
use Rattle.model.specs.Sequence.{Waiting, bytes_in, exrs_of}
use Rattle.laws.specs.Exrs.{bytes_named, exrs_in, carried_in, waits_as, waiting_in, Stretch}
use Rattle.laws.proofs.Lists.{each_append}
use Rattle.laws.proofs.Walk.{form-end, right_subobject, own_end, forms_join, form-alone, subobject_alone, subobjects-end}

pub empty_stretch : (s : List ℕ) (at : ℕ) → at ≤ length s → Stretch s at at
empty_stretch s at h = record { order = omega arith; inside = h; right = form-end Include s at at (omega arith) }

pub nothing-waits : (s : List ℕ) (at : ℕ) → waiting_in s at at ≡ []
unfolding waiting_in each
nothing-waits s at = ap (each (λ (x : Subobject). waits_as x.offset x.names)) (subobjects-end s at at (omega arith))

-- the EXRS that wait are those of the stretch
pub exrs-waiting : (s : List ℕ) (from to : ℕ) → exrs_of (waiting_in s from to) ≡ exrs_in s from to
unfolding exrs_of waiting_in exrs_in each
exrs-waiting s from to = go (subobjects_from s to from)
  where
    named : (at : ℕ) (n : Named) → each (λ (w : Waiting). bytes_in w.what) (waits_as at n) ≡ bytes_named n
    named at (prefix a n) = refl
    named at (system n) = refl
    named at (area a) = refl
    named at (stretch bytes) = append-nil bytes

    go : (subs : List Subobject)
        → each (λ (w : Waiting). bytes_in w.what) (each (λ (x : Subobject). waits_as x.offset x.names) subs)
        ≡ each (λ (x : Subobject). bytes_named x.names) subs
    go [] = refl
    go (x ∷ subs) =
        each_append (λ (w : Waiting). bytes_in w.what) (waits_as x.offset x.names) (each (λ (y : Subobject). waits_as y.offset y.names) subs)
        ∙ ap₂ {C = List ℕ} (λ (a b : List ℕ). a ++ b) (named x.offset x.names) (go subs)

-- ---- one stretch behind another

module _ (s : List ℕ) (from mid to : ℕ) (first : Stretch s from mid) (second : Stretch s mid to) where
  whole : (form_from Include s to from ≡ Pass) × (subobjects_from s to from ≡ subobjects_from s mid from ++ subobjects_from s to mid)
  whole = forms_join Include s mid to second.order second.right from first.order first.right

  pub stretch_join : Stretch s from to
  stretch_join = record { order = omega (arith, first.order, second.order); inside = second.inside; right = whole.0 }

  pub waiting_join : waiting_in s from to ≡ waiting_in s from mid ++ waiting_in s mid to
  unfolding waiting_in
  waiting_join =
      ap (each (λ (x : Subobject). waits_as x.offset x.names)) whole.1
      ∙ each_append (λ (x : Subobject). waits_as x.offset x.names) (subobjects_from s mid from) (subobjects_from s to mid)

  pub exrs_join : exrs_in s from to ≡ exrs_in s from mid ++ exrs_in s mid to
  unfolding exrs_in
  exrs_join =
      ap (each (λ (x : Subobject). bytes_named x.names)) whole.1
      ∙ each_append (λ (x : Subobject). bytes_named x.names) (subobjects_from s mid from) (subobjects_from s to mid)

  pub carried_join : carried_in s from to ≡ carried_in s from mid ++ carried_in s mid to
  unfolding carried_in
  carried_join =
      ap (each (λ (x : Subobject). inside_of x.names)) whole.1
      ∙ each_append (λ (x : Subobject). inside_of x.names) (subobjects_from s mid from) (subobjects_from s to mid)

-- the subobject that stands at an offset is one, with what of it waits
module _ (s : List ℕ) (at end : ℕ) (inside : end ≤ length s) (here : subobject_verdict Include s end at ≡ Pass) where
  pub stretch-alone : Stretch s at (after_subobject s at)
  stretch-alone =
      let r = right_subobject Include s end at here in
      record { order = omega arith; inside = omega (arith, r.whole); right = form-alone Include s at (own_end Include s end at here) }

  pub waiting-alone : waiting_in s at (after_subobject s at) ≡ waits_as at (named_at s at)
  unfolding waiting_in each
  waiting-alone =
      ap (each (λ (x : Subobject). waits_as x.offset x.names)) (subobject_alone Include s at (own_end Include s end at here))
      ∙ append-nil (waits_as at (named_at s at))

  pub exrs-alone : exrs_in s at (after_subobject s at) ≡ bytes_named (named_at s at)
  unfolding exrs_in each
  exrs-alone =
      ap (each (λ (x : Subobject). bytes_named x.names)) (subobject_alone Include s at (own_end Include s end at here)) ∙ append-nil (bytes_named (named_at s at))

  pub carried-alone : carried_in s at (after_subobject s at) ≡ inside_of (named_at s at)
  unfolding carried_in each
  carried-alone =
      ap (each (λ (x : Subobject). inside_of x.names)) (subobject_alone Include s at (own_end Include s end at here)) ∙ append-nil (inside_of (named_at s at))

  -- behind a stretch
  module _ (from : ℕ) (so_far : Stretch s from at) where
    pub stretch_on : Stretch s from (after_subobject s at)
    stretch_on = stretch_join s from at (after_subobject s at) so_far stretch-alone

    pub waits_on : waiting_in s from (after_subobject s at) ≡ waiting_in s from at ++ waits_as at (named_at s at)
    waits_on =
        waiting_join s from at (after_subobject s at) so_far stretch-alone
        ∙ ap {B = List Waiting} (λ (l : List Waiting). waiting_in s from at ++ l) waiting-alone
