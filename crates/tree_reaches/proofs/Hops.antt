-- Hop records as a loop over a range meets them: one record more of a part, and one step more of the running minimum.
use mathlib.Core.Path.{◌≡◌, ap, ◌∙◌}
use mathlib.Core.List.{List, [], ◌∷◌, ◌++◌}
use Prim.Native.Nat.{ℕ, suc, ◌≤◌, ◌<◌}
use native.Mathlib.Omega.{arith}
use lib.ListN.{take, drop}
use lib.Seq.{slice, drop-append-le, length-take-le}
use Rattle.model.specs.Profile.{Layout, hop_count, hop_at, hops}
use Rattle.laws.proofs.Records.{length-hops, take-hops}
use Rattle.laws.specs.Reach.{Reach, better, best_from}
use Rattle.laws.proofs.Reach.{best_from-append}

-- one record more
pub slice_more : (L : Layout) (s : List ℕ) (first i : ℕ) → first ≤ i → i < hop_count s → slice first (suc i) (hops L s) ≡ slice first i (hops L s) ++ (hop_at L s i ∷ [])
slice_more L s first i h k =
    let n = length-take-le i (hops L s) (omega (arith, length-hops L s)) in
    ap (drop first) (take-hops L s i k) ∙ drop-append-le first (take i (hops L s)) (hop_at L s i ∷ []) (omega arith)

-- one step more
pub best_more : {A : Type 0} (best : Reach) (f : A → Reach) (xs : List A) (x : A) → best_from best f (xs ++ (x ∷ [])) ≡ better (best_from best f xs) (f x)
unfolding best_from
best_more best f xs x = best_from-append best f xs (x ∷ [])
