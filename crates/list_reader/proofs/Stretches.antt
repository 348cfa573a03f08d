-- One turn along a stretch of an include list: the subobject at hand lies inside, and with its bytes, where it is an EXRS, the size and the buffer are those of one
-- subobject more. From the laws of a walk along a stretch.
use mathlib.Core.Path.{◌≡◌, sym, ap, subst, ◌∙◌}
use mathlib.Core.List.{List, ◌++◌}
use Prim.Native.Nat.{ℕ, ◌+◌, ◌-◌, ◌≤◌, ◌<◌}
use native.Mathlib.Omega.{arith}
use lib.ListN.{length, take, drop, length-append, length-drop}
use lib.Seq.{length-take-le, take-take}
use Rattle.model.specs.declared.ListKind.TheVariants.{Include}
use Rattle.model.specs.Bytes.{part}
use Rattle.model.specs.Subobject.{named_at, after_subobject}
use Rattle.laws.specs.Exrs.{bytes_named, exrs_in}
use Rattle.laws.proofs.Walk.{Right, right_subobject}
use Rattle.laws.proofs.ExrsSizes.{Passed, right_there, exrs_on, one_passed, exrs-fit}
use Rattle.list_subobject.specs.Items.{Readable}
use Rattle.list_subobject.proofs.FormLaws.{readable}
use Rattle.buffers.specs.Placed.{Put}
use Rattle.buffers.proofs.Places.{put_append}
use Rattle.list_reader.specs.ReadInclude.{ExrsAt}

module _ (s : List ℕ) (from to at : ℕ) (p : Passed s from to at) (h : at < to) where
  pub there : Right Include s to at
  there = right_subobject Include s to at (right_there s at to h p.left)

  pub readable_there : Readable s at
  readable_there = readable Include s to at p.left.inside (right_there s at to h p.left)

  module _ (next : ℕ) (e : next ≡ after_subobject s at) where
    pub whole-there : (at < next) × (next ≤ length s) × (next ≡ after_subobject s at)
    whole-there = (omega (arith, there.long), omega (arith, there.whole, p.left.inside), e)

    pub passed_next : Passed s from to next
    passed_next = subst (Passed s from to) (sym e) (one_passed s from to at p h)

    module _ (n : ℕ) (x : ExrsAt s at next n) where
      bytes-long : length (bytes_named (named_at s at)) ≡ n
      bytes-long = sym (ap length x.those) ∙ length-take-le n (drop at s) (omega (arith, x.inside, there.whole, p.left.inside, length-drop at s))

      on : exrs_in s from next ≡ exrs_in s from at ++ bytes_named (named_at s at)
      on = ap (exrs_in s from) e ∙ exrs_on s from to at p h

      pub size_next : (size : ℕ) → size ≡ length (exrs_in s from at) → size + n ≡ length (exrs_in s from next)
      size_next size z = omega (arith, bytes-long, ap length on, length-append (exrs_in s from at) (bytes_named (named_at s at)))

      pub size_fits : length (exrs_in s from at) + n ≤ length (exrs_in s from to)
      size_fits = omega (arith, bytes-long, exrs-fit s from to at p h)

      pub put_next : {start end after : ℕ} {old mid new : List ℕ} → start ≤ length old → Put start (exrs_in s from at) old mid end
          → Put end (take n (part s at (next - at))) mid new after → Put start (exrs_in s from next) old new after
      put_next {start} {end} {after} {old} {mid} {new} room one more =
          let those : take n (part s at (next - at)) ≡ bytes_named (named_at s at) = take-take n (next - at) (drop at s) x.inside ∙ x.those in
          subst (λ (l : List ℕ). Put start l old new after) (sym on)
          (put_append room one (subst (λ (l : List ℕ). Put end l mid new after) those more))
