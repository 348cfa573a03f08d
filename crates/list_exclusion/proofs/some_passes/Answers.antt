-- `list_exclusion::some_passes` meets its contract: at each turn the subobject at the walk's place decides, or the walk moves past it.
use Prim.Native.Nat.{ℕ, ◌+◌, ◌<◌}
use mathlib.Core.Path.{◌≡◌, refl, sym, subst, ap, ◌∙◌}
use mathlib.Core.Bool.{false}
use mathlib.Core.List.{List}
use lib.ListN.{length}
use Rattle.model.specs.Subobject.{length_at, subobjects}
use Rattle.list_subobject.specs.Items.{named_of, Readable, ItemAt}
use Rattle.list_subobject.specs.declared.item.Item.{Item}
use Rattle.list_exclusion.specs.Tests.{Test, some_passes}
use Rattle.list_exclusion.proofs.Exclusions.{Undecided, never, some_named, undecided, none_left, readable_here, decided, passed}
use Rattle.list_exclusion.proofs.some_passes.Goals as goal

same : (q : Test) (s : List ℕ) → some_named q s ≡ some_passes q (subobjects s)
unfolding subobjects
same q s = refl

-- what is said of a walk along the list is said of the list
back : {s t : List ℕ} → t ≡ s → (P : List ℕ → Type 0) → P t → P s
back e P p = subst P e p

forth : {s t : List ℕ} → t ≡ s → (P : List ℕ → Type 0) → P s → P t
forth e P p = subst P (sym e) p

moved : (t s : List ℕ) (at next : ℕ) → t ≡ s → next ≡ at + length_at t at → next ≡ at + length_at s at
moved t s at next e n = n ∙ ap (λ (u : List ℕ). at + length_at u at) e

-- past the subobject at hand
next_left : (q : Test) (s : List ℕ) (at next : ℕ) (it : Item) → Undecided q s at → at < length s → ItemAt s at it → q it.top (named_of s it.named) ≡ false → next ≡ at + length_at s at → Undecided q s next
next_left q s at next it u h is f e = subst (Undecided q s) (is.next ∙ sym e) (passed q s at u h it is f)

pub loop-walk-init : goal.loop-walk-init
loop-walk-init g c =
    let e = c.walk_from-walk.ensures in
    let s = c.args.list.now in
    record {
      along = ap (λ x. x.now) e.0;
      right = subst (Undecided never s) (sym e.1) (undecided never s c.requires.right);
      left = λ q h. subst (Undecided q s) (sym e.1) (undecided q s c.requires.right);
    }

pub subobject_here-requires : goal.subobject_here-requires
subobject_here-requires g c =
    let l = c.loop-walk in
    forth l.invariant.along (λ (t : List ℕ). Readable t l.walk.at) (readable_here never c.args.list.now l.walk.at l.invariant.right c.loop-walk-test.true)

pub moved_past-walk-requires : goal.moved_past-walk-requires
moved_past-walk-requires g c =
    let l = c.loop-walk in
    forth l.invariant.along (λ (t : List ℕ). Readable t l.walk.at) (readable_here never c.args.list.now l.walk.at l.invariant.right c.loop-walk-test.true)

pub returns-then-test : goal.returns-then-test
returns-then-test g c =
    let l = c.loop-walk in
    let s = c.args.list.now in
    let it = c.subobject_here.result in
    let here = back l.invariant.along (λ (t : List ℕ). ItemAt t l.walk.at it) c.subobject_here.ensures in
    λ q h.
    decided q s l.walk.at (l.invariant.left q h) c.loop-walk-test.true it here (sym (h it c.test.result here.there c.test.ensures) ∙ c.if-test.true) ∙ same q s

pub loop-walk-preserved : goal.loop-walk-preserved
loop-walk-preserved g c =
    let l = c.loop-walk in
    let s = c.args.list.now in
    let e = c.moved_past-walk.ensures in
    let it = c.subobject_here.result in
    let here = back l.invariant.along (λ (t : List ℕ). ItemAt t l.walk.at it) c.subobject_here.ensures in
    let to = moved l.walk.list.now s l.walk.at c.moved_past-walk.result.at l.invariant.along e.1 in
    record {
      along = ap (λ x. x.now) e.0 ∙ l.invariant.along;
      right = next_left never s l.walk.at c.moved_past-walk.result.at it l.invariant.right c.loop-walk-test.true here refl to;
      left = λ q h.
          next_left q s l.walk.at c.moved_past-walk.result.at it (l.invariant.left q h) c.loop-walk-test.true here
          (sym (h it c.test.result here.there c.test.ensures) ∙ c.if-test.false) to;
    }

pub returns : goal.returns
returns g c =
    let l = c.loop-walk in
    let s = c.args.list.now in
    λ q h. none_left q s l.walk.at (l.invariant.left q h) c.loop-walk-test.false ∙ same q s
