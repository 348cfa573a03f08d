-- One address written before those written: a list with a suffix's addresses from a place on. By the laws of lists written over lists.
use mathlib.Core.Path.{◌≡◌, ◌∙◌}
use mathlib.Core.List.{List, [], ◌∷◌}
use Prim.Native.Nat.{ℕ, suc, ◌+◌, ◌≤◌}
use native.Mathlib.Omega.{arith}
use lib.ListN.{length, set}
use lib.Seq.{paste, length-paste}
use Rattle.tree_vspt.proofs.Filled.{paste-before, paste_one}

-- all of a list written at a place keeps the length
pub written-long : (d xs : List ℕ) (at : ℕ) → at + length xs ≤ length d → length (paste d at xs (length xs)) ≡ length d
written-long d xs at h = length-paste d at xs (length xs) h (omega arith)

pub set_before
    : (d xs : List ℕ) (i a : ℕ) → suc i + length xs ≤ length d
    → set (paste d (suc i) xs (length xs)) i a ≡ paste d i (a ∷ xs) (length (a ∷ xs))
set_before d xs i a h =
    paste_one (paste d (suc i) xs (length xs)) i a (omega (arith, written-long d xs (suc i) h))
    ∙ paste-before d (a ∷ []) xs i (suc i) (omega arith) (omega arith)
