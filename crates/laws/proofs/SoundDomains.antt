-- What reading and writing need of a profile's domain records, and that an accepted profile has it: neighbours ascend strictly, so any two records do,
-- and those of one AS stand together. By recursion on the distance of two records.
use Prim.Native.Nat.{ℕ, zero, suc, ◌+◌, ◌-◌, ◌*◌, ◌^◌, ◌≤◌, ◌<◌}
use native.Mathlib.Nat.{zero-add, eq-or-lt_of_le, le_of_suc-le-suc, not-suc-le-zero, le_refl}
use native.Mathlib.Omega.{arith}
use mathlib.Core.Path.{◌≡◌, refl, sym, ap, ap₂, subst, ◌∙◌}
use mathlib.Core.Logic.{◌⊎◌, ⊎_elim}
use mathlib.Core.Bool.{true, false, not, ◌&&◌}
use mathlib.Core.List.{List, [], ◌∷◌, ◌++◌}
use lib.ListN.{length, get_or, take, drop, replicate, length-drop, take-append-drop}
use lib.Seq.{length-take-le, get_or-take, get_or-drop, ext_get_or}
use lib.Dec.{eqb, ltb}
use borrow.Author.Tests.{eqb-true, eq-eqb, ltb-true, ltb-false, not-false}
use Rattle.model.specs.Verdict.{Pass}
use Rattle.model.specs.declared.Domain.{Domain}
use Rattle.model.specs.Lists.{all, below}
use Rattle.model.specs.Reserved.{nobodys}
use Rattle.model.specs.Bytes.{number, part, all_zero}
use Rattle.model.specs.Profile.{Layout, domain_count, domain_start, domain_at, domains, area_length_fits, domain_misordered, profile_verdict}
use Rattle.model.specs.Sequence.{domain_of, no_domain}
use Rattle.laws.proofs.Tests.{and_both, both_and, or_neither, decide, clash}
use Rattle.laws.proofs.Below.{below_irrefl, below_trans}
use Rattle.laws.proofs.Accepted.{AcceptedProfile, accepted}
use Rattle.laws.proofs.Records.{length-domains, domain_at_lem}
use Rattle.laws.proofs.BigEndian.{Bytes, number_bound}
use Rattle.laws.proofs.AreaLengths.{fits-short}
use Rattle.laws.proofs.Numbers.{bytes_take, bytes_drop, number_alike, number_same, number-below}

-- one record: its AS is a u32, its area's length is one of its kind's, and it holds 13 bytes
pub record SoundDomain (d : Domain) : Type 0 where
  pub asn_fits : d.asn < 2 ^ 32
  pub asn_owned : nobodys d.asn ≡ false
  pub area_fits : area_length_fits d.kind d.length ≡ true
  pub area_held : length d.area ≡ 13
  pub area_bytes : Bytes d.area

-- all of them: an AS with a record of kind 0 has no other, and no two have the same AS, kind and area
pub record SoundDomains (ds : List Domain) : Type 0 where
  pub sound : (i : ℕ) → i < length ds → SoundDomain (domain_of ds i)
  pub alone : (i j : ℕ) → i < length ds → j < length ds → (domain_of ds i).kind ≡ 0 → (domain_of ds i).asn ≡ (domain_of ds j).asn → i ≡ j
  pub distinct
      : (i j : ℕ)
      → i < length ds
      → j < length ds
      → (domain_of ds i).asn ≡ (domain_of ds j).asn
      → (domain_of ds i).kind ≡ (domain_of ds j).kind
      → take (domain_of ds i).length (domain_of ds i).area ≡ take (domain_of ds j).length (domain_of ds j).area
      → i ≡ j

-- one of two numbers is the smaller, or they are the same
compared : {P : Type 0} (i j : ℕ) → (i < j → P) → (i ≡ j → P) → (j < i → P) → P
compared i j less same more =
    ⊎_elim
    (λ t. less (ltb-true i j t))
    (λ f. ⊎_elim (λ (e : j ≡ i). same (sym e)) more (eq-or-lt_of_le (ltb-false i j f)))
    (decide (ltb i j))

-- ---- parts of a list

part_length : (s : List ℕ) (a n : ℕ) → a + n ≤ length s → length (part s a n) ≡ n
part_length s a n h = length-take-le n (drop a s) (omega (arith, length-drop a s))

part_at : (s : List ℕ) (a n i : ℕ) → i < n → get_or (part s a n) i 0 ≡ get_or s (a + i) 0
part_at s a n i h = get_or-take n (drop a s) i 0 h ∙ get_or-drop a s i 0

part_alike
    : (s : List ℕ) (a b n : ℕ)
    → a + n ≤ length s
    → b + n ≤ length s
    → ((i : ℕ) → i < n → get_or s (a + i) 0 ≡ get_or s (b + i) 0)
    → part s a n ≡ part s b n
part_alike s a b n ha hb e =
    let la = part_length s a n ha in
    ext_get_or 0 (part s a n) (part s b n) (la ∙ sym (part_length s b n hb))
    (λ i h.
    let l : i < n = omega arith in
    part_at s a n i l ∙ e i l ∙ sym (part_at s b n i l))

zeros : (xs : List ℕ) → all_zero xs ≡ true → xs ≡ replicate (length xs) 0
unfolding all_zero
zeros [] t = refl
zeros (x ∷ xs) t =
    let b = and_both (eqb 0 x) (all_zero xs) t in
    let e = sym (eqb-true 0 x b.0) in
    let r = zeros xs b.1 in
    λ i. e i ∷ r i

-- the bytes of a domain record
abbrev record_at : List ℕ → ℕ → List ℕ
record_at s i = part s (domain_start i) 20

-- ---- the records of an accepted profile

module _ (L : Layout) (s : List ℕ) (profile : AcceptedProfile L s) where
  -- the list holds all of them
  holds-domains : 12 + 20 * domain_count s ≤ length s
  holds-domains = omega (arith, profile.sized)

  -- ---- their order

  neighbours
      : (i : ℕ)
      → suc i < domain_count s
      → (below (record_at s i) (record_at s (suc i)) ≡ true) × ((eqb (domain_at s i).kind 0 && eqb (domain_at s i).asn (domain_at s (suc i)).asn) ≡ false)
  unfolding domain_misordered
  neighbours i h =
      let x =
      or_neither (not (below (record_at s i) (record_at s (suc i)))) (eqb (domain_at s i).kind 0 && eqb (domain_at s i).asn (domain_at s (suc i)).asn)
      (profile.domain (suc i) h).ordered in
      (not-false _ x.0, x.1)

  ascending : (i j : ℕ) → i < j → j < domain_count s → below (record_at s i) (record_at s j) ≡ true
  ascending i zero h k = absurd (not-suc-le-zero h)
  ascending i (suc j) h k =
      let last = (neighbours j k).0 in
      ⊎_elim
      (λ (e : i ≡ j). subst (λ (x : ℕ). below (record_at s x) (record_at s (suc j)) ≡ true) (sym e) last)
      (λ (l : i < j). below_trans (record_at s i) (record_at s j) (record_at s (suc j)) (ascending i j l (omega arith)) last)
      (eq-or-lt_of_le (le_of_suc-le-suc h))

  module _ (bytes : Bytes s) where
    record-bytes : (i : ℕ) → Bytes (record_at s i)
    record-bytes i = bytes_take 20 (drop (domain_start i) s) (bytes_drop (domain_start i) s bytes)

    record-length : (i : ℕ) → i < domain_count s → length (record_at s i) ≡ 20
    record-length i h = part_length s (domain_start i) 20 (omega (arith, holds-domains))

    record-asn : (i : ℕ) → number 4 (record_at s i) 0 ≡ (domain_at s i).asn
    unfolding domain_at
    record-asn i =
        number_alike 4 (record_at s i) s 0 (domain_start i)
        (λ k h. ap (λ (x : ℕ). get_or (record_at s i) x 0) (zero-add k) ∙ part_at s (domain_start i) 20 k (omega arith))

    -- the AS numbers rise with the records; where they are the same, what is behind them is in order
    rising
        : (i j : ℕ)
        → i < j
        → j < domain_count s
        → ((domain_at s i).asn < (domain_at s j).asn) ⊎ (((domain_at s i).asn ≡ (domain_at s j).asn) × (below (drop 4 (record_at s i)) (drop 4 (record_at s j)) ≡ true))
    rising i j h k =
        let li = record-length i (omega arith) in
        let lj = record-length j k in
        rw (record-asn i, record-asn j) at
        (number-below 4 (record_at s i) (record_at s j) (record-bytes i) (record-bytes j) (omega arith) (omega arith) (ascending i j h k))

    asn_rises : (i j : ℕ) → i ≤ j → j < domain_count s → (domain_at s i).asn ≤ (domain_at s j).asn
    asn_rises i j h k =
        ⊎_elim
        (λ (e : i ≡ j). subst (λ (x : ℕ). (domain_at s i).asn ≤ (domain_at s x).asn) e (le_refl (domain_at s i).asn))
        (λ (l : i < j).
        ⊎_elim
        (λ (a : (domain_at s i).asn < (domain_at s j).asn). omega arith)
        (λ (b : ((domain_at s i).asn ≡ (domain_at s j).asn) × (below (drop 4 (record_at s i)) (drop 4 (record_at s j)) ≡ true)). omega arith)
        (rising i j l k))
        (eq-or-lt_of_le h)

    -- no later record has the AS of one of kind 0: if one had, the next would have it
    none_later : (i j : ℕ) → i < j → j < domain_count s → (domain_at s i).kind ≡ 0 → (domain_at s i).asn ≡ (domain_at s j).asn → ⊥
    none_later i j h l k e =
        let low = asn_rises i (suc i) (omega arith) (omega arith) in
        let high = asn_rises (suc i) j h l in
        let same : (domain_at s i).asn ≡ (domain_at s (suc i)).asn = omega arith in
        clash
        (both_and (eqb (domain_at s i).kind 0) (eqb (domain_at s i).asn (domain_at s (suc i)).asn) (eq-eqb (domain_at s i).kind 0 k) (eq-eqb (domain_at s i).asn (domain_at s (suc i)).asn same))
        (neighbours i (omega arith)).1

    record-kind : (i : ℕ) → number 1 (drop 4 (record_at s i)) 0 ≡ (domain_at s i).kind
    unfolding number domain_at
    record-kind i = omega (arith, get_or-drop 4 (record_at s i) 0 0 ∙ part_at s (domain_start i) 20 4 (omega arith))

    -- of two records of one AS the earlier has no larger kind
    kind_rises : (i j : ℕ) → i < j → j < domain_count s → (domain_at s i).asn ≡ (domain_at s j).asn → (domain_at s i).kind ≤ (domain_at s j).kind
    kind_rises i j h k e =
        let xs = drop 4 (record_at s i) in
        let ys = drop 4 (record_at s j) in
        let lx : 1 ≤ length xs = omega (arith, length-drop 4 (record_at s i), record-length i (omega arith)) in
        let ly : 1 ≤ length ys = omega (arith, length-drop 4 (record_at s j), record-length j k) in
        ⊎_elim
        (λ (a : (domain_at s i).asn < (domain_at s j).asn). absurd (omega arith))
        (λ (b : ((domain_at s i).asn ≡ (domain_at s j).asn) × (below xs ys ≡ true)).
        ⊎_elim
        (λ (l : number 1 xs 0 < number 1 ys 0). omega (arith, record-kind i, record-kind j))
        (λ (r : (number 1 xs 0 ≡ number 1 ys 0) × (below (drop 1 xs) (drop 1 ys) ≡ true)). omega (arith, r.0, record-kind i, record-kind j))
        (number-below 1 xs ys (bytes_drop 4 (record_at s i) (record-bytes i)) (bytes_drop 4 (record_at s j) (record-bytes j)) lx ly b.1))
        (rising i j h k)

    -- ---- two records of one AS

    stands_alone : (i j : ℕ) → i < domain_count s → j < domain_count s → (domain_at s i).kind ≡ 0 → (domain_at s i).asn ≡ (domain_at s j).asn → i ≡ j
    stands_alone i j hi hj k e =
        compared i j
        (λ l. absurd (none_later i j l hj k e))
        (λ same. same)
        (λ l. absurd (none_later j i l hi (omega (arith, kind_rises j i l hi (sym e))) (sym e)))

    area-held : (i : ℕ) → i < domain_count s → length (domain_at s i).area ≡ 13
    unfolding domain_at
    area-held i h = part_length s (domain_start i + 6) 13 (omega (arith, holds-domains))

    area_byte : (i k : ℕ) → 5 < k → k < 19 → get_or (domain_at s i).area (k - 6) 0 ≡ get_or s (domain_start i + k) 0
    unfolding domain_at
    area_byte i k m l =
        let place : domain_start i + 6 + (k - 6) ≡ domain_start i + k = omega arith in
        part_at s (domain_start i + 6) 13 (k - 6) (omega arith) ∙ ap (λ (x : ℕ). get_or s x 0) place

    -- the 13 bytes of an area are those as many as its length, and zeros
    area-whole : (i : ℕ) → i < domain_count s → (domain_at s i).area ≡ take (domain_at s i).length (domain_at s i).area ++ replicate (13 - (domain_at s i).length) 0
    area-whole i h =
        let n = (domain_at s i).length in
        let area : List ℕ = (domain_at s i).area in
        sym (take-append-drop n area)
        ∙ ap (λ (t : List ℕ). take n area ++ t)
        (zeros (drop n area) (profile.domain i h).area_padded ∙ ap (λ (m : ℕ). replicate m 0) (length-drop n area ∙ ap (λ (m : ℕ). m - n) (area-held i h)))

    area-length : (i : ℕ) → i < domain_count s → length (take (domain_at s i).length (domain_at s i).area) ≡ (domain_at s i).length
    area-length i h =
        length-take-le (domain_at s i).length (domain_at s i).area
        (omega (arith, area-held i h, fits-short (domain_at s i).kind (domain_at s i).length (profile.domain i h).area_fits))

    module _ (i j : ℕ) (hi : i < domain_count s) (hj : j < domain_count s) (asn : (domain_at s i).asn ≡ (domain_at s j).asn) (kind : (domain_at s i).kind ≡ (domain_at s j).kind)
        (area : take (domain_at s i).length (domain_at s i).area ≡ take (domain_at s j).length (domain_at s j).area) where
      same_length : (domain_at s i).length ≡ (domain_at s j).length
      same_length = sym (area-length i hi) ∙ ap length area ∙ area-length j hj

      same_area : (domain_at s i).area ≡ (domain_at s j).area
      same_area = area-whole i hi ∙ ap₂ (λ (t : List ℕ) (n : ℕ). t ++ replicate (13 - n) 0) area same_length ∙ sym (area-whole j hj)

      same_byte : (k : ℕ) → k < 20 → get_or s (domain_start i + k) 0 ≡ get_or s (domain_start j + k) 0
      unfolding domain_at
      same_byte k h =
          compared k 4
          (λ l. number_same 4 s s (domain_start i) (domain_start j) bytes bytes asn k l)
          (λ e. rw e kind)
          (λ m.
          compared k 5
          (λ (l : k < 5). absurd (omega arith))
          (λ e. rw e same_length)
          (λ m'.
          compared k 19
          (λ l. sym (area_byte i k m' l) ∙ ap (λ (t : List ℕ). get_or t (k - 6) 0) same_area ∙ area_byte j k m' l)
          (λ e. rw e ((profile.domain i hi).last_zero ∙ sym (profile.domain j hj).last_zero))
          (λ (l : 19 < k). absurd (omega arith))))

      same-record : record_at s i ≡ record_at s j
      same-record = part_alike s (domain_start i) (domain_start j) 20 (omega (arith, holds-domains)) (omega (arith, holds-domains)) same_byte

      same_place : i ≡ j
      same_place =
          compared i j
          (λ l. absurd (below_irrefl (record_at s j) (subst (λ (r : List ℕ). below r (record_at s j) ≡ true) same-record (ascending i j l hj))))
          (λ e. e)
          (λ l. absurd (below_irrefl (record_at s j) (subst (λ (r : List ℕ). below (record_at s j) r ≡ true) same-record (ascending j i l hi))))

    sound-record : (i : ℕ) → i < domain_count s → SoundDomain (domain_at s i)
    unfolding domain_at
    sound-record i h =
        record {
          asn_fits = number_bound 4 s (domain_start i) bytes;
          asn_owned = (profile.domain i h).as_owned;
          area_fits = (profile.domain i h).area_fits;
          area_held = area-held i h;
          area_bytes = bytes_take 13 (drop (domain_start i + 6) s) (bytes_drop (domain_start i + 6) s bytes);
        }

-- the domain records of an accepted profile, whatever its layout of hop records
pub sound-domains : (L : Layout) (s : List ℕ) → Bytes s → profile_verdict L s ≡ Pass → SoundDomains (domains s)
sound-domains L s bytes e =
    let profile = accepted L s e in
    record {
      sound = λ i h. subst SoundDomain (sym (domain_at_lem s i no_domain (counted i h))) (sound-record L s profile bytes i (counted i h));
      alone = λ i j hi hj k a.
          stands_alone L s profile bytes i j (counted i hi) (counted j hj) (ap (λ (d : Domain). d.kind) (sym (domain_at_lem s i no_domain (counted i hi))) ∙ k)
          (as-records (λ (d : Domain). d.asn) i j hi hj a);
      distinct = λ i j hi hj a k t.
          same_place L s profile bytes i j (counted i hi) (counted j hj) (as-records (λ (d : Domain). d.asn) i j hi hj a) (as-records (λ (d : Domain). d.kind) i j hi hj k)
          (as-records (λ (d : Domain). take d.length d.area) i j hi hj t);
    }
  where
    counted : (i : ℕ) → i < length (domains s) → i < domain_count s
    counted i h = omega (arith, length-domains s)

    as-records
        : {B : Type 0} (f : Domain → B) (i j : ℕ) → i < length (domains s) → j < length (domains s) → f (domain_of (domains s) i) ≡ f (domain_of (domains s) j) → f (domain_at s i) ≡ f (domain_at s j)
    as-records f i j hi hj e = ap f (sym (domain_at_lem s i no_domain (counted i hi))) ∙ e ∙ ap f (domain_at_lem s j no_domain (counted j hj))
