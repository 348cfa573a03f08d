-- A search by halving among the cells from `lo` up to `hi`, whose numbers f ascend: those before `low` are below a, those from `high` on are b or more, and the
-- one in the middle decides for all on one side of it. From the order alone.
use Prim.Native.Nat.{ℕ, ◌+◌, ◌≤◌, ◌<◌}
use native.Mathlib.Omega.{arith}

abbrev pub Ascends : (ℕ → ℕ) → ℕ → ℕ → Type 0
Ascends f lo hi = (i j : ℕ) → lo ≤ i → i ≤ j → j < hi → f i ≤ f j

pub record Bracket (f : ℕ → ℕ) (lo hi a b low high : ℕ) : Type 0 where
  pub start : lo ≤ low
  pub order : low ≤ high
  pub end : high ≤ hi
  pub below : (i : ℕ) → lo ≤ i → i < low → f i < a
  pub above : (i : ℕ) → high ≤ i → i < hi → b ≤ f i

-- at the start nothing is known
pub bracket_start : (f : ℕ → ℕ) (lo hi a b : ℕ) → lo ≤ hi → Bracket f lo hi a b lo hi
bracket_start f lo hi a b h =
    record { start = omega arith; order = h; end = omega arith; below = λ i l u. absurd (omega arith); above = λ i l u. absurd (omega arith) }

-- what the number in the middle says of all cells before it, or of all after it
abbrev pub Halves : (ℕ → ℕ) → ℕ → ℕ → ℕ → ℕ → ℕ → ℕ → ℕ → Type 0
Halves f lo hi a b low high middle = (f middle < a → Bracket f lo hi a b (middle + 1) high) × (b ≤ f middle → Bracket f lo hi a b low middle)

pub bracket-halves
    : (f : ℕ → ℕ) (lo hi a b low high middle : ℕ)
    → Ascends f lo hi
    → Bracket f lo hi a b low high
    → low ≤ middle
    → middle < high
    → Halves f lo hi a b low high middle
bracket-halves f lo hi a b low high middle ascends k from to =
    let start = k.start in
    let end = k.end in (
      λ h.
          record {
            start = omega arith;
            order = omega arith;
            end = end;
            below = λ i l u. let r = ascends i middle l (omega arith) (omega arith) in omega arith;
            above = k.above;
          },
      λ h.
          record {
            start = start;
            order = from;
            end = omega arith;
            below = k.below;
            above = λ i l u. let r = ascends middle i (omega arith) l u in omega arith;
          },
    )
