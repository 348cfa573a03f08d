-- The search by halving (`laws`) among the hop records of an accepted profile, by their keys; where its ends meet is the place looked for.
use Prim.Native.Nat.{ℕ, ◌≤◌}
use native.Mathlib.Omega.{arith}
use mathlib.Core.List.{List}
use Rattle.model.specs.Profile.{Layout, hop_count, hop_at}
use Rattle.laws.proofs.BigEndian.{Bytes}
use Rattle.laws.proofs.Accepted.{AcceptedProfile}
use Rattle.laws.proofs.Halving.{Ascends, Bracket}
use Rattle.profile_hop_range.specs.Ranges.{key_of}
use Rattle.profile_hop_range.specs.Search.{LowerBound}
use Rattle.profile_hop_range.proofs.Keys.{keys_ascend}

abbrev pub key_at : Layout → List ℕ → ℕ → ℕ
key_at L s i = key_of (hop_at L s i)

pub keys_in_order : (L : Layout) (s : List ℕ) → Bytes s → AcceptedProfile L s → (lo hi : ℕ) → hi ≤ hop_count s → Ascends (key_at L s) lo hi
keys_in_order L s b a lo hi within i j l h k = keys_ascend L s b a i j h (omega arith)

-- where the ends meet
pub bracket-end
    : (L : Layout) (s : List ℕ) (lo hi key low high : ℕ) → Bracket (key_at L s) lo hi key key low high → high ≤ low → LowerBound L s lo hi key low
bracket-end L s lo hi key low high k h =
    let order = k.order in
    let end = k.end in
    record { start = k.start; end = omega arith; below = k.below; above = λ i l u. k.above i (omega arith) u }
