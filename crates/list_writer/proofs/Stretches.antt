-- The EXRS of each domain as the code cuts them out of the bytes, and a scan along them for one that isn't whole. By taking the first count off the rest.
use Prim.Native.Nat.{ℕ, suc, ◌+◌, ◌-◌, ◌≤◌, ◌<◌}
use native.Mathlib.Numerals.{add-one}
use native.Mathlib.Omega.{arith}
use mathlib.Core.Path.{◌≡◌, refl, sym, ap, ap₂, ◌∙◌}
use mathlib.Core.Bool.{Bool, true, false, not, ◌||◌}
use mathlib.Core.List.{List, [], ◌∷◌}
use lib.ListN.{length, get_or, take, drop, length-take, length-drop, drop_of_length-le}
use lib.Seq.{drop-cons, drop-drop}
use Rattle.model.specs.Lists.{any, sum}
use Rattle.model.specs.Sequence.{Stop}
use Rattle.model.specs.WrittenList.{whole_exrs, stops}
use Rattle.laws.proofs.Stops.{bytes_before, bytes_next}
use Rattle.laws.proofs.WrittenSizes.{Together}
use Rattle.list_writer.specs.Writing.{some_part_broken}

-- how many bytes are before the next domain's, where the code counts by i + 1
pub bytes-further : (counts : List ℕ) (i : ℕ) → i < length counts → bytes_before counts (i + 1) ≡ bytes_before counts i + get_or counts i 0
bytes-further counts i h = rw add-one (bytes_next counts i h)

module _ (counts exrs : List ℕ) (i : ℕ) where
  -- the bytes of the domain at a place
  abbrev pub own_bytes : List ℕ
  own_bytes = take (get_or counts i 0) (drop (bytes_before counts i) exrs)

  pub lent : (from to : ℕ) → from ≡ bytes_before counts i → to ≡ from + get_or counts i 0 → own_bytes ≡ take (to - from) (drop from exrs)
  lent from to e t =
      let size : get_or counts i 0 ≡ to - from = omega arith in
      ap₂ (λ (n m : ℕ). take n (drop m exrs)) size (sym e)

  pub lent_short : (from to : ℕ) → length (take (to - from) (drop from exrs)) ≤ length exrs
  lent_short from to = simp (length-take, length-drop) (omega arith)

  -- the bytes of some domain from a place on aren't whole EXRS
  abbrev pub broken_from : Bool
  broken_from = some_part_broken (drop i counts) (drop (bytes_before counts i) exrs)

module _ (counts exrs : List ℕ) (i : ℕ) (h : i < length counts) where
  broken_step : broken_from counts exrs i ≡ not (whole_exrs (own_bytes counts exrs i)) || broken_from counts exrs (i + 1)
  unfolding some_part_broken
  broken_step =
      rw (bytes-further counts i h, add-one i)
      (ap (λ (cs : List ℕ). some_part_broken cs (drop (bytes_before counts i) exrs)) (drop-cons counts i 0 h)
      ∙ ap
      (λ (rest : List ℕ). not (whole_exrs (own_bytes counts exrs i)) || some_part_broken (drop (suc i) counts) rest)
      (drop-drop (get_or counts i 0) (bytes_before counts i) exrs))

  pub broken_here : whole_exrs (own_bytes counts exrs i) ≡ false → broken_from counts exrs i ≡ true
  broken_here e = broken_step ∙ ap (λ (b : Bool). not b || broken_from counts exrs (i + 1)) e

  pub broken_later : whole_exrs (own_bytes counts exrs i) ≡ true → broken_from counts exrs i ≡ broken_from counts exrs (i + 1)
  broken_later e = broken_step ∙ ap (λ (b : Bool). not b || broken_from counts exrs (i + 1)) e

pub broken_start : (counts exrs : List ℕ) → broken_from counts exrs 0 ≡ some_part_broken counts exrs
unfolding sum
broken_start counts exrs = refl

pub none_broken : (counts exrs : List ℕ) (i : ℕ) → length counts ≤ i → broken_from counts exrs i ≡ false
unfolding some_part_broken
none_broken counts exrs i h = rw (drop_of_length-le counts h) refl

-- of the sequence that the lists stand for
stops_broken : (is ms ns cs xs : List ℕ) → length ms ≡ length is → length ns ≡ length is → length cs ≡ length is
    → any (λ (p : Stop). not (whole_exrs p.exrs)) (stops is ms ns cs xs) ≡ some_part_broken cs xs
unfolding stops some_part_broken
stops_broken [] ms ns [] xs p q r = refl
stops_broken [] ms ns (c ∷ cs) xs p q r = absurd (omega arith)
stops_broken (i ∷ is) [] ns cs xs p q r = absurd (omega arith)
stops_broken (i ∷ is) (m ∷ ms) [] cs xs p q r = absurd (omega arith)
stops_broken (i ∷ is) (m ∷ ms) (n ∷ ns) [] xs p q r = absurd (omega arith)
stops_broken (i ∷ is) (m ∷ ms) (n ∷ ns) (c ∷ cs) xs p q r =
    ap (λ (b : Bool). not (whole_exrs (take c xs)) || b) (stops_broken is ms ns cs (drop c xs) (omega arith) (omega arith) (omega arith))

pub sequence_broken : {indexes marks nodes counts exrs : List ℕ} → Together indexes marks nodes counts exrs
    → any (λ (p : Stop). not (whole_exrs p.exrs)) (stops indexes marks nodes counts exrs) ≡ some_part_broken counts exrs
sequence_broken {indexes} {marks} {nodes} {counts} {exrs} t =
    stops_broken indexes marks nodes counts exrs t.as_many_marks t.as_many_nodes t.as_many_counts
