-- One pass over the subobjects of a list of right form, of either kind, from an offset up to an end, for one that passes a test: the subobject at hand decides, or
-- what is left after it does.
use Prim.Native.Nat.{ℕ, ◌≤◌, ◌<◌}
use mathlib.Core.Path.{◌≡◌, refl, sym, subst, ◌∙◌}
use mathlib.Core.Bool.{Bool, true, false}
use mathlib.Core.List.{List}
use lib.ListN.{length}
use Rattle.model.specs.Verdict.{Pass}
use Rattle.model.specs.declared.ListKind.{ListKind}
use Rattle.model.specs.Lists.{any}
use Rattle.model.specs.Subobject.{Subobject, subobject_at, subobject_verdict, after_subobject, form_from, subobjects_from}
use Rattle.laws.proofs.Walk.{right_here, right_next, right_subobject, any-end, any-hit, any-more}
use Rattle.list_subobject.specs.Items.{Readable}
use Rattle.list_subobject.proofs.FormLaws.{readable}

module _ (test : Subobject → Bool) (k : ListKind) (s : List ℕ) (end from : ℕ) where
  -- some subobject passes the test
  abbrev pub some_there : Bool
  some_there = any test (subobjects_from s end from)

  -- how far the pass is: the form of what is left is right, and its subobjects decide as all do
  pub record Undecided (at : ℕ) : Type 0 where
    pub reached : at ≤ end
    pub right : form_from k s end at ≡ Pass
    pub decides : any test (subobjects_from s end at) ≡ some_there

  pub undecided : from ≤ end → form_from k s end from ≡ Pass → Undecided from
  undecided h e = record { reached = h; right = e; decides = refl }

  module _ (at : ℕ) (u : Undecided at) where
    pub none_left : end ≤ at → false ≡ some_there
    none_left h = sym (any-end test s end at h) ∙ u.decides

    module _ (h : at < end) where
      pub right_there : subobject_verdict k s end at ≡ Pass
      right_there = right_here k s end at h u.right

      pub readable_there : end ≤ length s → Readable s at
      readable_there inside = readable k s end at inside right_there

      pub hit : test (subobject_at s at) ≡ true → true ≡ some_there
      hit t = sym (any-hit test k s end at h u.right t) ∙ u.decides

      pub miss : test (subobject_at s at) ≡ false → Undecided (after_subobject s at)
      miss f =
          record {
            reached = (right_subobject k s end at right_there).whole;
            right = right_next k s end at h u.right;
            decides = sym (any-more test k s end at h u.right f) ∙ u.decides;
          }

      pub miss_to : (next : ℕ) → next ≡ after_subobject s at → test (subobject_at s at) ≡ false → Undecided next
      miss_to next e f = subst Undecided (sym e) (miss f)
