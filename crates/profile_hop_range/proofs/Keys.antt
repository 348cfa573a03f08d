-- The keys of hop records: the number of a record's first eight bytes, ascending in an accepted profile, and telling the pair of domains and the tail.
-- A key's parts are bounded, so they are the digits of the key.
use Prim.Native.Nat.{ℕ, ◌+◌, ◌*◌, ◌≤◌, ◌<◌}
use native.Mathlib.Nat.{eq-or-lt_of_le}
use native.Mathlib.Omega.{arith}
use mathlib.Core.Path.{◌≡◌, ap}
use mathlib.Core.Logic.{◌↔◌, ⊎_elim}
use mathlib.Core.Bool.{true}
use mathlib.Core.List.{List}
use lib.Dec.{eqb}
use borrow.Author.Tests.{eqb-true, eq-eqb}
use Rattle.model.specs.declared.Hop.{Hop}
use Rattle.model.specs.Bytes.{number}
use Rattle.model.specs.Profile.{Layout, hop_count, hop_start, hop_at, between}
use Rattle.laws.proofs.Tests.{both_and}
use Rattle.laws.proofs.BigEndian.{Bytes, number_add, number_bound}
use Rattle.laws.proofs.Below.{below_cons}
use Rattle.laws.proofs.HopKeys.{HopBelow, between-both}
use Rattle.laws.proofs.HopOrder.{hops_ascend}
use Rattle.laws.proofs.Accepted.{AcceptedProfile}
use Rattle.profile_hop_range.specs.Ranges.{find_key, key_of}

-- a key as two words
pub key_words : (L : Layout) (s : List ℕ) (i : ℕ) → number 4 s (hop_start L s i) * 4294967296 + number 4 s (hop_start L s i + 4) ≡ key_of (hop_at L s i)
unfolding hop_at
key_words L s i = omega (arith, number_add 2 2 s (hop_start L s i))

-- ---- order

-- the parts of a key have room
pub record Parts (h : Hop) : Type 0 where
  pub to : h.to.0 < 65536
  pub tail : h.tail.0 < 4294967296

pub parts : (L : Layout) (s : List ℕ) → Bytes s → (i : ℕ) → Parts (hop_at L s i)
unfolding hop_at
parts L s b i = record { to = number_bound 2 s (hop_start L s i + 2) b; tail = number_bound 4 s (hop_start L s i + 4) b }

-- records in order have keys in order; they may be the same, since a key leaves the head out
below_key : (g h : Hop) → Parts g → HopBelow g h → key_of g ≤ key_of h
below_key g h p t =
    ⊎_elim
    (λ (l : g.from.0 < h.from.0). omega arith)
    (λ r.
    ⊎_elim
    (λ (l : g.to.0 < h.to.0). omega arith)
    (λ q. ⊎_elim (λ (l : g.tail.0 < h.tail.0). omega arith) (λ u. omega arith) (below_cons _ _ _ _ q.1))
    (below_cons _ _ _ _ r.1))
    (below_cons _ _ _ _ t)

pub keys_ascend : (L : Layout) (s : List ℕ) → Bytes s → AcceptedProfile L s → (i j : ℕ) → i ≤ j → j < hop_count s → key_of (hop_at L s i) ≤ key_of (hop_at L s j)
keys_ascend L s b a i j h k =
    ⊎_elim
    (λ (e : i ≡ j). omega (arith, ap (λ (x : ℕ). key_of (hop_at L s x)) e))
    (λ (l : i < j). below_key (hop_at L s i) (hop_at L s j) (parts L s b i) (hops_ascend L s b a i j l k))
    (eq-or-lt_of_le h)

-- the domains of an accepted profile are few, so a key is far below the largest number of eight bytes
pub key-small : (L : Layout) (s : List ℕ) → Bytes s → AcceptedProfile L s → (i : ℕ) → i < hop_count s → key_of (hop_at L s i) < 18446744069414584320
key-small L s b a i h =
    let p = parts L s b i in
    omega (arith, (a.hop i h).from_exists, a.most_domains)

-- ---- what a key tells

-- a key lies from one number up to another
abbrev pub KeyFrom : Hop → ℕ → ℕ → Type 0
KeyFrom h key width = (key ≤ key_of h) × (key_of h < key + width)

-- of the pair of domains
pub pair-told
    : (d e key width : ℕ) (h : Hop) → Parts h → e < 65536 → key ≡ find_key d e 0 → width ≡ 4294967296 → (between d e h ≡ true) ↔ KeyFrom h key width
pair-told d e key width h p l q w = (
  λ t. let r = between-both d e h t in omega arith,
  λ k.
      let pair : h.from.0 * 65536 + h.to.0 ≡ d * 65536 + e = omega arith in
      let from : h.from.0 ≡ d = omega arith in
      both_and (eqb h.from.0 d) (eqb h.to.0 e) (eq-eqb h.from.0 d from) (eq-eqb h.to.0 e (omega arith)),
)

-- of the tail, where the pair is known
pub tail-told
    : (d e a key width : ℕ) (h : Hop) → between d e h ≡ true → key ≡ find_key d e a → width ≡ 1 → (eqb h.tail.0 a ≡ true) ↔ KeyFrom h key width
tail-told d e a key width h t q w =
    let r = between-both d e h t in
    (λ u. let v = eqb-true h.tail.0 a u in omega arith, λ k. eq-eqb h.tail.0 a (omega arith))
