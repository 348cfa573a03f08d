-- Numbers in lists of bytes: `number` looks at its own bytes only and reads back what `bytes_of` writes, two equal numbers have equal bytes, and what is put
-- together from bytes is bytes. By recursion on how many there are.
use Prim.Native.Nat.{ℕ, zero, suc, ◌+◌, ◌*◌, ◌/◌, ◌%◌, ◌^◌, ◌≤◌, ◌<◌, suc-le-suc}
use native.Mathlib.Nat.{pow-suc, one-le-pow, add-zero, add_assoc, add-suc, suc-add, suc-mul, mul_assoc, mul_comm, add-mul, mod-lt, mod-eq_of_lt, div-add-mod', add-mul-mod_self_left, mul-le-mul_right, mul-add-div_right, mul-add-mod_self_right, div-eq_of_lt, le_of_suc-le-suc, not-suc-le-zero, zero-lt-suc, mod-one}
use native.Mathlib.Omega.{arith}
use mathlib.Core.Path.{◌≡◌, refl, sym, ap, ap₂, ◌∙◌}
use mathlib.Core.Logic.{◌⊎◌, inl, inr, ⊎_elim}
use mathlib.Core.Bool.{true}
use mathlib.Core.List.{List, [], ◌∷◌, ◌++◌}
use lib.Dec.{ltb, lit<}
use lib.ListN.{length, get_or, take, drop, replicate}
use lib.Seq.{get_or-append-add}
use lib.Pow.{are_bytes}
use borrow.Author.Tests.{ltb-true}
use Rattle.model.specs.Lists.{below}
use Rattle.model.specs.Bytes.{number, bytes_of}
use Rattle.laws.proofs.Tests.{and_both}
use Rattle.laws.proofs.BigEndian.{Bytes, number_bound}
use Rattle.laws.proofs.Below.{below_cons}

pub positive : (n : ℕ) → 0 < 256 ^ n
positive n = one-le-pow n 256 (lit< tt)

-- the number depends only on its own bytes, wherever they stand
pub number_alike : (n : ℕ) (s t : List ℕ) (a b : ℕ) → ((i : ℕ) → i < n → get_or s (a + i) 0 ≡ get_or t (b + i) 0) → number n s a ≡ number n t b
unfolding number
number_alike zero s t a b e = refl
number_alike (suc n) s t a b e =
    let head : get_or s a 0 ≡ get_or t b 0 = simp add-zero at (e 0 (zero-lt-suc n)) in
    let further : (i : ℕ) → i < n → get_or s (suc a + i) 0 ≡ get_or t (suc b + i) 0 =
    λ i h. simp (suc-add, ← add-suc) (e (suc i) (suc-le-suc h)) in
    ap₂ (λ (x y : ℕ). x * 256 ^ n + y) head (number_alike n s t (suc a) (suc b) further)

-- the next digit of x over the ones below m
digit : (x m k : ℕ) → 0 < m → 0 < k → x / m % k * m + x % m ≡ x % (m * k)
digit x m k hm hk =
    let q = x / m in
    let r = x % m in
    let a = q / k in
    let b = q % k in
    let small : b * m + r < m * k =
    omega (arith, mul-le-mul_right m (mod-lt q hk), suc-mul b m, mod-lt x hm, mul_comm k m) in
    let whole : b * m + r + m * k * a ≡ x =
    omega
    (arith, div-add-mod' x m, ap (λ (z : ℕ). z * m) (div-add-mod' q k), add-mul (a * k) b m, mul_assoc a k m, mul_comm a (k * m), ap (λ (z : ℕ). z * a) (mul_comm k m)) in
    sym (mod-eq_of_lt small) ∙ sym (add-mul-mod_self_left (b * m + r) (m * k) a) ∙ ap (λ (z : ℕ). z % (m * k)) whole

-- wherever a list stands behind another
pub number_shift : (n : ℕ) (pre s : List ℕ) (a : ℕ) → number n (pre ++ s) (length pre + a) ≡ number n s a
number_shift n pre s a =
    number_alike n (pre ++ s) s (length pre + a) a
    (λ i h. ap (λ (j : ℕ). get_or (pre ++ s) j 0) (add_assoc (length pre) a i) ∙ get_or-append-add pre s (a + i) 0)

-- what bytes_of writes, whatever follows it
number-written : (n x : ℕ) (rest : List ℕ) → number n (bytes_of n x ++ rest) 0 ≡ x % 256 ^ n
unfolding number bytes_of
number-written zero x rest = sym (mod-one x)
number-written (suc n) x rest =
    let b = x / 256 ^ n % 256 in
    ap (λ (z : ℕ). b * 256 ^ n + z) (number_shift n (b ∷ []) (bytes_of n x ++ rest) 0 ∙ number-written n x rest)
    ∙ digit x (256 ^ n) 256 (positive n) (lit< tt)
    ∙ ap (λ (z : ℕ). x % z) (sym (pow-suc 256 n))

pub number-bytes_of : (n x : ℕ) (rest : List ℕ) → x < 256 ^ n → number n (bytes_of n x ++ rest) 0 ≡ x
number-bytes_of n x rest h = number-written n x rest ∙ mod-eq_of_lt h

pub length-bytes_of : (n x : ℕ) → length (bytes_of n x) ≡ n
unfolding bytes_of
length-bytes_of zero x = refl
length-bytes_of (suc n) x = ap suc (length-bytes_of n x)

-- ---- lists of bytes

pub bytes_nil : Bytes []
bytes_nil i = lit< tt

pub bytes_cons : (x : ℕ) (xs : List ℕ) → x < 256 → Bytes xs → Bytes (x ∷ xs)
bytes_cons x xs h t zero = h
bytes_cons x xs h t (suc i) = t i

-- a list written out, by computing the test
pub bytes-test : (s : List ℕ) → are_bytes s ≡ true → Bytes s
bytes-test [] t = bytes_nil
bytes-test (x ∷ xs) t =
    let b = and_both (ltb x 256) (are_bytes xs) t in
    bytes_cons x xs (ltb-true x 256 b.0) (bytes-test xs b.1)

pub bytes-append : (s t : List ℕ) → Bytes s → Bytes t → Bytes (s ++ t)
bytes-append [] t h k = k
bytes-append (x ∷ xs) t h k = bytes_cons x (xs ++ t) (h 0) (bytes-append xs t (λ i. h (suc i)) k)

pub bytes_take : (n : ℕ) (s : List ℕ) → Bytes s → Bytes (take n s)
bytes_take zero s h = bytes_nil
bytes_take (suc n) [] h = bytes_nil
bytes_take (suc n) (x ∷ xs) h = bytes_cons x (take n xs) (h 0) (bytes_take n xs (λ i. h (suc i)))

pub bytes_drop : (n : ℕ) (s : List ℕ) → Bytes s → Bytes (drop n s)
bytes_drop zero s h = h
bytes_drop (suc n) [] h = bytes_nil
bytes_drop (suc n) (x ∷ xs) h = bytes_drop n xs (λ i. h (suc i))

pub bytes-replicate : (n x : ℕ) → x < 256 → Bytes (replicate n x)
bytes-replicate zero x h = bytes_nil
bytes-replicate (suc n) x h = bytes_cons x (replicate n x) h (bytes-replicate n x h)

pub bytes-bytes_of : (n x : ℕ) → Bytes (bytes_of n x)
unfolding bytes_of
bytes-bytes_of zero x = bytes_nil
bytes-bytes_of (suc n) x = bytes_cons (x / 256 ^ n % 256) (bytes_of n x) (mod-lt (x / 256 ^ n) (lit< tt)) (bytes-bytes_of n x)

-- ---- the number and its bytes determine one another, and keep their order

-- a digit and a remainder are the quotient and the rest
apart : (m x r y q : ℕ) → r < m → q < m → x * m + r ≡ y * m + q → (x ≡ y) × (r ≡ q)
apart m x r y q hr hq e =
    let pos : 0 < m = omega arith in
    let quotients = ap (λ (z : ℕ). z / m) e in
    let rests = ap (λ (z : ℕ). z % m) e in (
      omega (arith, quotients, mul-add-div_right pos x r, mul-add-div_right pos y q, div-eq_of_lt hr, div-eq_of_lt hq),
      omega (arith, rests, mul-add-mod_self_right x m r, mul-add-mod_self_right y m q, mod-eq_of_lt hr, mod-eq_of_lt hq),
    )

pub number_same
    : (n : ℕ) (s t : List ℕ) (a b : ℕ) → Bytes s → Bytes t → number n s a ≡ number n t b → (i : ℕ) → i < n → get_or s (a + i) 0 ≡ get_or t (b + i) 0
unfolding number
number_same zero s t a b hs ht e i h = absurd (not-suc-le-zero h)
number_same (suc n) s t a b hs ht e zero h =
    simp add-zero
    (apart (256 ^ n) (get_or s a 0) (number n s (suc a)) (get_or t b 0) (number n t (suc b)) (number_bound n s (suc a) hs) (number_bound n t (suc b) ht) e).0
number_same (suc n) s t a b hs ht e (suc i) h =
    let r = apart (256 ^ n) (get_or s a 0) (number n s (suc a)) (get_or t b 0) (number n t (suc b)) (number_bound n s (suc a) hs) (number_bound n t (suc b) ht) e in
    simp (add-suc, ← suc-add) (number_same n s t (suc a) (suc b) hs ht r.1 i (le_of_suc-le-suc h))

-- of two lists in order the first has the smaller number in front, or the same and what is behind it is in order
pub number-below
    : (n : ℕ) (xs ys : List ℕ)
    → Bytes xs
    → Bytes ys
    → n ≤ length xs
    → n ≤ length ys
    → below xs ys ≡ true
    → (number n xs 0 < number n ys 0) ⊎ ((number n xs 0 ≡ number n ys 0) × (below (drop n xs) (drop n ys) ≡ true))
unfolding number
number-below zero xs ys hx hy lx ly t = inr (refl, t)
number-below (suc n) [] ys hx hy lx ly t = absurd (not-suc-le-zero lx)
number-below (suc n) (x ∷ xs) [] hx hy lx ly t = absurd (not-suc-le-zero ly)
number-below (suc n) (x ∷ xs) (y ∷ ys) hx hy lx ly t =
    let p = number_shift n (x ∷ []) xs 0 in
    let q = number_shift n (y ∷ []) ys 0 in
    let hx' : Bytes xs = λ i. hx (suc i) in
    let hy' : Bytes ys = λ i. hy (suc i) in
    ⊎_elim
    (λ (l : x < y). inl (omega (arith, p, mul-le-mul_right (256 ^ n) l, suc-mul x (256 ^ n), number_bound n xs 0 hx')))
    (λ (r : (x ≡ y) × (below xs ys ≡ true)).
    let e : x * 256 ^ n ≡ y * 256 ^ n = ap (λ (z : ℕ). z * 256 ^ n) r.0 in
    ⊎_elim
    (λ (l : number n xs 0 < number n ys 0). inl (omega arith))
    (λ (u : (number n xs 0 ≡ number n ys 0) × (below (drop n xs) (drop n ys) ≡ true)). inr (omega arith, u.1))
    (number-below n xs ys hx' hy' (le_of_suc-le-suc lx) (le_of_suc-le-suc ly) r.1))
    (below_cons x y xs ys t)
