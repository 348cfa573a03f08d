-- What a place as an Option says of the number that the definitions have, 0 for none. By the test of that number.
use Rattle.std.specs.Prelude.{Option, None, Some}
use Rattle.std.specs.Option.{is_some}
use Prim.Native.Nat.{ℕ}
use mathlib.Core.Path.{◌≡◌, refl, sym, ap, subst, ◌∙◌}
use mathlib.Core.Bool.{Bool, true, false, not, cond}
use native.Mathlib.Omega.{arith}
use lib.Dec.{eqb}
use borrow.Author.Tests.{eqb-true, eqb-false, ne_eqb}
use Rattle.pcep_laws.specs.Firsts.{placed}

abbrev value_or_0 : Option ℕ → ℕ
value_or_0 None = 0
value_or_0 (Some x) = x

abbrev count : Option ℕ → ℕ
count None = 0
count (Some x) = 1

some_by : (n : ℕ) (x : ℕ) (none : Bool) → eqb n 0 ≡ none → cond none None (Some n) ≡ Some x → (x ≡ n) × (n ≡ 0 → ⊥)
some_by n x true e s = let z : ◌≡◌ {A = ℕ} 0 1 = ap count s in absurd (omega arith)
some_by n x false e s = (sym (ap value_or_0 s), eqb-false n 0 e)

none_by : (n : ℕ) (none : Bool) → eqb n 0 ≡ none → ◌≡◌ {A = Option ℕ} (cond none None (Some n)) None → n ≡ 0
none_by n true e s = eqb-true n 0 e
none_by n false e s = ap value_or_0 s

is_some_by : (n : ℕ) (none : Bool) → is_some (cond none None (Some n)) ≡ not none
is_some_by n true = refl
is_some_by n false = refl

module _ (o : Option ℕ) (n : ℕ) (is : o ≡ placed n) where
  -- where there is a place, it is that number
  pub some-placed : (x : ℕ) → o ≡ Some x → (x ≡ n) × (n ≡ 0 → ⊥)
  some-placed x e = some_by n x (eqb n 0) refl (sym is ∙ e)

  -- where there is none, the number is 0
  pub none-placed : o ≡ None → n ≡ 0
  none-placed e = none_by n (eqb n 0) refl (sym is ∙ e)

  -- where the number isn't 0, there is a place
  pub placed_some : (n ≡ 0 → ⊥) → o ≡ Some n
  placed_some some = is ∙ rw (ne_eqb n 0 some) refl

  -- what holds of a number that isn't 0 holds of the place
  pub for_placed : (P : ℕ → Type 0) → ((n ≡ 0 → ⊥) → P n) → (x : ℕ) → o ≡ Some x → P x
  for_placed P h x e = let both = some-placed x e in subst P (sym both.0) (h both.1)

  -- there is a place where the number isn't 0
  pub some-is : is_some o ≡ not (eqb n 0)
  some-is = ap is_some is ∙ is_some_by n (eqb n 0)
