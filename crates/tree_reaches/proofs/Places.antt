-- What stands beside the place where an address is found in a part of a list. By recursion on the part.
use mathlib.Core.Path.{◌≡◌, refl, sym, ap, ◌∙◌}
use mathlib.Core.Bool.{Bool, true, false}
use mathlib.Core.List.{List, [], ◌∷◌}
use Prim.Native.Nat.{ℕ, suc, ◌+◌, ◌-◌, ◌≤◌, ◌<◌}
use native.Mathlib.Omega.{arith}
use lib.Dec.{eqb}
use lib.ListN.{length, get_or}
use lib.Seq.{slice, length-slice}
use Rattle.laws.proofs.Ranges.{slice_at}
use Rattle.std.specs.Prelude.{Some, None}
use Rattle.tree_lookup.specs.declared.LookUp.{LookUp}
use Rattle.tree_lookup.specs.LookUp.{Part, place_if, place_in, Found}
use Rattle.tree_lookup.proofs.Parts.{part_end}
use Rattle.tree_reaches.specs.Reaches.{unreachable, beside_if, beside}

-- ---- what stands beside

record Beside (at : ℕ) (nodes codes : List ℕ) (v i : ℕ) : Type 0 where
  pub from : at ≤ i
  pub inside : i < at + length nodes
  pub code : beside nodes codes v ≡ get_or codes (i - at) 0

beside_at : (at : ℕ) (nodes codes : List ℕ) (v i : ℕ) → length nodes ≤ length codes → place_in at nodes v ≡ Some i → Beside at nodes codes v i
unfolding place_in beside
beside_at at [] codes v i h e = let z : ◌≡◌ {A = ℕ} 0 1 = cc in absurd (omega arith)
beside_at at (a ∷ nodes) [] v i h e = absurd (omega arith)
beside_at at (a ∷ nodes) (n ∷ codes) v i h e = go (eqb a v) refl (λ q. beside_at (suc at) nodes codes v i (omega arith) q)
  where
    go : (b : Bool) → eqb a v ≡ b → (place_in (suc at) nodes v ≡ Some i → Beside (suc at) nodes codes v i) → Beside at (a ∷ nodes) (n ∷ codes) v i
    go true t further =
        let q : Some at ≡ Some i = sym (ap (λ (b : Bool). place_if b at (place_in (suc at) nodes v)) t) ∙ e in
        let s : at ≡ i = cc in
        let none_before : 0 ≡ i - at = omega arith in
        record {
          from = omega arith;
          inside = omega arith;
          code = ap (λ (b : Bool). beside_if b n (beside nodes codes v)) t ∙ ap (λ (k : ℕ). get_or (n ∷ codes) k 0) none_before;
        }
    go false f further =
        let r = further (sym (ap (λ (b : Bool). place_if b at (place_in (suc at) nodes v)) f) ∙ e) in
        let lower = r.from in
        let upper = r.inside in
        let k : i - at ≡ suc (i - suc at) = omega arith in
        record {
          from = omega arith;
          inside = omega arith;
          code =
              ap (λ (b : Bool). beside_if b n (beside nodes codes v)) f ∙ r.code ∙ ap (λ (j : ℕ). get_or (n ∷ codes) j 0) (sym k);
        }

beside_nowhere : (at : ℕ) (nodes codes : List ℕ) (v : ℕ) → place_in at nodes v ≡ None → beside nodes codes v ≡ unreachable
unfolding place_in beside
beside_nowhere at [] codes v e = refl
beside_nowhere at (a ∷ nodes) [] v e = refl
beside_nowhere at (a ∷ nodes) (n ∷ codes) v e = go (eqb a v) refl (beside_nowhere (suc at) nodes codes v)
  where
    go : (b : Bool) → eqb a v ≡ b → (place_in (suc at) nodes v ≡ None → beside nodes codes v ≡ unreachable) → beside_if (eqb a v) n (beside nodes codes v) ≡ unreachable
    go true t further =
        let q : Some at ≡ None = sym (ap (λ (b : Bool). place_if b at (place_in (suc at) nodes v)) t) ∙ e in
        let z : ◌≡◌ {A = ℕ} 0 1 = cc in
        absurd (omega arith)
    go false f further =
        ap (λ (b : Bool). beside_if b n (beside nodes codes v)) f
        ∙ further (sym (ap (λ (b : Bool). place_if b at (place_in (suc at) nodes v)) f) ∙ e)

-- the two together, over the same part of two lists: what the look-up says
module _
    (xs ns : List ℕ) (from to v : ℕ) (order : from ≤ to) (part : Part xs from (to - from)) (in_codes : to ≤ length ns)
    (r : LookUp) (found : Found xs from (to - from) v r)
  where
    walked : r.place ≡ place_in from (slice from to xs) v
    walked = found.as_walked ∙ ap (λ (n : ℕ). place_in from (slice from n xs) v) (part_end from to order)

    pub beside-found : (i : ℕ) → r.place ≡ Some i → (from ≤ i) × (i < to) × (beside (slice from to xs) (slice from to ns) v ≡ get_or ns i 0)
    beside-found i e =
        let inside = part.inside in
        let m = length-slice from to xs (omega arith) in
        let n = length-slice from to ns in_codes in
        let b = beside_at from (slice from to xs) (slice from to ns) v i (omega arith) (sym walked ∙ e) in
        let upper = b.inside in
        let below : i < to = omega arith in
        (b.from, below, b.code ∙ slice_at ns from to i 0 b.from below)

    pub beside-missing : r.place ≡ None → beside (slice from to xs) (slice from to ns) v ≡ unreachable
    beside-missing e = beside_nowhere from (slice from to xs) (slice from to ns) v (sym walked ∙ e)
