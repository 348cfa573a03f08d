-- The numbers that parts of a list of bytes stand for (`model`'s Bytes): their bound, how a wide one is made of narrower ones, and that the order `below` of
-- equally long parts is the order of their numbers, whole or field by field. By recursion on the width.
use Prim.Native.Nat.{ℕ, zero, suc, ◌+◌, ◌*◌, ◌^◌, ◌≤◌, ◌<◌, min}
use native.Mathlib.Nat.{zero-add, add-zero, add-suc, suc-add, add-mul, mul_assoc, zero-mul, pow-suc, mul-le-mul_right, suc-mul, eq-or-lt_of_le}
use native.Mathlib.Omega.{arith}
use mathlib.Core.Path.{◌≡◌, refl, sym, ap, ap₂, ◌∙◌}
use mathlib.Core.Logic.{⊎_elim}
use mathlib.Core.Bool.{Bool, true, false, ◌&&◌, ◌||◌}
use mathlib.Core.List.{List, [], ◌∷◌}
use lib.ListN.{length, get_or, take, drop, length-drop}
use lib.Seq.{get_or-drop}
use lib.Pow.{pow-add}
use lib.Dec.{eqb, ltb}
use borrow.Author.Tests.{ltb-true, ltb-false, lt-ltb, le-ltb, eq-eqb, ne_eqb}
use Rattle.laws.proofs.Tests.{decide}
use Rattle.model.specs.Lists.{below, sum}
use Rattle.model.specs.Bytes.{number, part}

-- every element is a byte
abbrev pub Bytes : List ℕ → Type 0
Bytes s = (i : ℕ) → get_or s i 0 < 256

pub number_bound : (n : ℕ) (s : List ℕ) (at : ℕ) → Bytes s → number n s at < 256 ^ n
unfolding number
number_bound zero s at b = omega arith
number_bound (suc n) s at b =
    let digit = b at in
    let low = number_bound n s (suc at) b in
    let high = mul-le-mul_right {m = get_or s at 0} {n = 255} (256 ^ n) (omega arith) in
    rw pow-suc (omega arith)

-- a number of m + n bytes is made of one of m and one of n
pub number_add : (m n : ℕ) (s : List ℕ) (at : ℕ) → number (m + n) s at ≡ number m s at * 256 ^ n + number n s (at + m)
unfolding number
number_add zero n s at = rw (zero-add, zero-mul, zero-add, add-zero)
number_add (suc m) n s at =
    let b = get_or s at 0 in
    let x = number m s (suc at) in
    let place : suc at + m ≡ at + suc m = omega arith in
    let powers = ap (λ (p : ℕ). b * p) (pow-add 256 m n) in
    let lower = number_add m n s (suc at) in
    rw suc-add
    (omega (arith, powers, lower, ap (number n s) place, add-mul (b * 256 ^ m) x (256 ^ n), mul_assoc b (256 ^ m) (256 ^ n)))

pub number-drop : (n : ℕ) (s : List ℕ) (k at : ℕ) → number n (drop k s) at ≡ number n s (k + at)
unfolding number
number-drop zero s k at = refl
number-drop (suc n) s k at = ap₂ ◌+◌ (ap (λ (b : ℕ). b * 256 ^ n) (get_or-drop k s at 0)) (number-drop n s k (suc at) ∙ ap (number n s) (add-suc k at))

ltb_add : (a c u v : ℕ) → a ≡ c → ltb (a + u) (c + v) ≡ ltb u v
ltb_add a c u v e =
    ⊎_elim
    (λ (t : ltb u v ≡ true). let h = ltb-true u v t in lt-ltb (a + u) (c + v) (omega arith) ∙ sym t)
    (λ (f : ltb u v ≡ false). let h = ltb-false u v f in le-ltb (a + u) (c + v) (omega arith) ∙ sym f)
    (decide (ltb u v))

-- two numbers written with digits below a base
pub digits_ltb : (base a c u v : ℕ) → u < base → v < base → ltb (a * base + u) (c * base + v) ≡ ltb a c || (eqb a c && ltb u v)
digits_ltb base a c u v hu hv =
    ⊎_elim
    (λ (t : ltb a c ≡ true).
    let h = mul-le-mul_right base (ltb-true a c t) in
    rw (t, lt-ltb (a * base + u) (c * base + v) (omega (arith, suc-mul a base))))
    (λ (f : ltb a c ≡ false).
    ⊎_elim
    (λ (e : c ≡ a). rw (f, eq-eqb a c (sym e)) (ltb_add (a * base) (c * base) u v (ap (λ (x : ℕ). x * base) (sym e))))
    (λ (l : c < a).
    let h = mul-le-mul_right base l in
    let d : ¬ (a ≡ c) = omega arith in
    rw (f, ne_eqb a c d, le-ltb (a * base + u) (c * base + v) (omega (arith, suc-mul c base))))
    (eq-or-lt_of_le (ltb-false a c f)))
    (decide (ltb a c))

number_nil : (n at : ℕ) → number n [] at ≡ 0
unfolding number
number_nil zero at = refl
number_nil (suc n) at = omega (arith, number_nil n (suc at))

bytes_drop : (s : List ℕ) (k : ℕ) → Bytes s → Bytes (drop k s)
bytes_drop s k b i = rw get_or-drop (b (k + i))

-- Of two lists of bytes, the first n are below, compared from the left, exactly when their number is less. (Where the first list ends the second may not go on.)
pub below-take : (n : ℕ) (s t : List ℕ) → Bytes s → Bytes t → min n (length t) ≤ length s → below (take n s) (take n t) ≡ ltb (number n s 0) (number n t 0)
unfolding below number
below-take zero s t bs bt h = refl
below-take (suc n) s [] bs bt h = sym (le-ltb (number (suc n) s 0) (number (suc n) [] 0) (omega (arith, number_nil n 1)))
below-take (suc n) [] (y ∷ t) bs bt h = absurd (omega arith)
below-take (suc n) (x ∷ s) (y ∷ t) bs bt h =
    let further = below-take n s t (λ i. bs (suc i)) (λ i. bt (suc i)) (omega arith) ∙ ap₂ ltb (number-drop n (x ∷ s) 1 0) (number-drop n (y ∷ t) 1 0) in
    ap (λ (r : Bool). ltb x y || (eqb x y && r)) further
    ∙ sym (digits_ltb (256 ^ n) x y (number n (x ∷ s) 1) (number n (y ∷ t) 1) (number_bound n (x ∷ s) 1 bs) (number_bound n (y ∷ t) 1 bt))

-- two parts of one list, of one size
pub below-part : (n : ℕ) (s : List ℕ) (a c : ℕ) → Bytes s → a ≤ c → below (part s a n) (part s c n) ≡ ltb (number n s a) (number n s c)
below-part n s a c b h =
    below-take n (drop a s) (drop c s) (bytes_drop s a b) (bytes_drop s c b) (omega (arith, length-drop a s, length-drop c s))
    ∙ ap₂ ltb (number-drop n s a 0 ∙ ap (number n s) (add-zero a)) (number-drop n s c 0 ∙ ap (number n s) (add-zero c))

-- the numbers of consecutive fields, whose sizes are given
abbrev pub fields : List ℕ → List ℕ → ℕ → List ℕ
fields [] s at = []
fields (w ∷ ws) s at = number w s at ∷ fields ws s (at + w)

fields_ltb : (ws : List ℕ) (s : List ℕ) (a c : ℕ) → Bytes s → ltb (number (sum ws) s a) (number (sum ws) s c) ≡ below (fields ws s a) (fields ws s c)
unfolding sum number below
fields_ltb [] s a c b = refl
fields_ltb (w ∷ ws) s a c b =
    ap₂ ltb (number_add w (sum ws) s a) (number_add w (sum ws) s c)
    ∙ digits_ltb (256 ^ sum ws) (number w s a) (number w s c) (number (sum ws) s (a + w)) (number (sum ws) s (c + w)) (number_bound (sum ws) s (a + w) b) (number_bound (sum ws) s (c + w) b)
    ∙ ap (λ (r : Bool). ltb (number w s a) (number w s c) || (eqb (number w s a) (number w s c) && r)) (fields_ltb ws s (a + w) (c + w) b)

-- parts that are made of fields compare field by field, as numbers
pub below-fields : (ws : List ℕ) (s : List ℕ) (a c : ℕ) → Bytes s → a ≤ c → below (part s a (sum ws)) (part s c (sum ws)) ≡ below (fields ws s a) (fields ws s c)
below-fields ws s a c b h = below-part (sum ws) s a c b h ∙ fields_ltb ws s a c b

regroup : (l q r s u : Bool) → (l || (q && (r || (s && u)))) ≡ (l || (q && r) || (q && s && u))
regroup true q r s u = refl
regroup false true r s u = refl
regroup false false r s u = refl
