-- What passes a test among the exclusions of EXRS, one EXRS after the other: some of a stretch does exactly when one of an EXRS does. By what `any` says of lists put
-- together.
use Prim.Native.Nat.{ℕ, ◌+◌, ◌-◌}
use mathlib.Core.Path.{◌≡◌, refl, sym, ap, ◌∙◌}
use mathlib.Core.Bool.{Bool, false, ◌||◌}
use mathlib.Core.List.{List, [], ◌∷◌}
use Rattle.model.specs.Lists.{any, each}
use Rattle.model.specs.Bytes.{part}
use Rattle.model.specs.Subobject.{Subobject, type_at, length_at, Named, named_at, subobjects_from, subobjects, inside_of}
use lib.Dec.{eqb}
use mathlib.Core.Bool.{true}
use borrow.Author.Tests.{eqb-true}
use Rattle.laws.specs.Exrs.{carried_in}
use Rattle.laws.proofs.Lists.{any_append}
use Rattle.laws.proofs.Exrs.{named_33, no_33, inside-bytes}
use Rattle.list_exclusion.specs.Tests.{Test, some_passes}

any_each : {A B : Type 0} (p : B → Bool) (f : A → List B) (xs : List A) → any p (each f xs) ≡ any (λ (x : A). any p (f x)) xs
unfolding each
any_each p f [] = refl
any_each p f (x ∷ xs) = any_append p (f x) (each f xs) ∙ ap (λ (b : Bool). any p (f x) || b) (any_each p f xs)

module _ (q : Test) where
  -- an EXRS among the subobjects carries one that passes
  abbrev pub carries : Subobject → Bool
  carries x = some_passes q (inside_of x.names)

  pub stretch_has : (s : List ℕ) (from to : ℕ) → any carries (subobjects_from s to from) ≡ some_passes q (carried_in s from to)
  unfolding carried_in
  stretch_has s from to = sym (any_each (λ (x : Subobject). q x.top x.names) (λ (x : Subobject). inside_of x.names) (subobjects_from s to from))

  -- what stands at an offset
  pub no_exrs : (s : List ℕ) (at : ℕ) → eqb (type_at s at) 33 ≡ false → some_passes q (inside_of (named_at s at)) ≡ false
  no_exrs s at d = ap (some_passes q) (no_33 inside_of (λ a n. refl) (λ n. refl) (λ a. refl) s at d)

  pub an_exrs : (s : List ℕ) (at : ℕ) → eqb (type_at s at) 33 ≡ true → some_passes q (inside_of (named_at s at)) ≡ some_passes q (subobjects (part s (at + 4) (length_at s at - 4)))
  an_exrs s at e =
      ap (λ (n : Named). some_passes q (inside_of n)) (named_33 s at (eqb-true (type_at s at) 33 e))
      ∙ ap (λ (b : List ℕ). some_passes q (subobjects b)) (inside-bytes s at (length_at s at))

-- a pass that looks for nothing
abbrev pub nothing : Subobject → Bool
nothing x = false
