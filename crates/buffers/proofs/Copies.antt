-- A loop that copies the start of an array over the start of a buffer: where it begins, one turn, and the buffer's length. Over any element.
use mathlib.Core.Path.{◌≡◌, sym, ap, ◌∙◌}
use mathlib.Core.List.{List}
use Prim.Native.Nat.{ℕ, ◌+◌, ◌≤◌, ◌<◌}
use native.Mathlib.Numerals.{add-one}
use native.Mathlib.Omega.{arith}
use lib.ListN.{length, get_or, take, set}
use lib.Seq.{length-take-le}
use Rattle.model.specs.Lists.{over}
use Rattle.laws.proofs.Lists.{over-length, over_nothing, Copied-next}

module _ (from old : List ℕ) where
  abbrev pub Copied : List ℕ → ℕ → Type 0
  Copied now i = now ≡ over (take i from) old

  pub copied_none : Copied old 0
  copied_none = sym (over_nothing old)

  module _ (now : List ℕ) (i : ℕ) (c : Copied now i) where
    pub copied_long : i ≤ length from → i ≤ length old → length now ≡ length old
    copied_long h k = let t = length-take-le i from h in ap length c ∙ over-length (take i from) old (omega arith)

    pub copied_more : i < length from → i < length old → Copied (set now i (get_or from i 0)) (i + 1)
    copied_more h k =
        ap (λ (l : List ℕ). set l i (get_or from i 0)) c
        ∙ Copied-next from old i 0 h k
        ∙ ap (λ (n : ℕ). over (take n from) old) (sym (add-one i))
