-- Each subobject that the writer writes has right form, its own length, and names what it was written for: the pin of type 1, the AS of type 5, the area
-- of type 6 or 7. By computing each field at the start of its bytes.
use Prim.Native.Nat.{ℕ, zero, suc, ◌+◌, ◌-◌, ◌/◌, ◌%◌, ◌^◌, ◌≤◌, ◌<◌}
use native.Mathlib.Nat.{zero-mul, one-mul}
use native.Mathlib.Omega.{arith}
use mathlib.Core.Path.{◌≡◌, refl, sym, ap, subst, ◌∙◌}
use mathlib.Core.Logic.{◌⊎◌, ⊎_elim}
use mathlib.Core.Bool.{Bool, true, false}
use mathlib.Core.List.{List, [], ◌∷◌, ◌++◌, append_assoc}
use mathlib.Core.Option.{some}
use lib.ListN.{length, take, replicate, length-append, length-replicate}
use lib.Seq.{length-take-le, take_at, drop_at, drop-append-add}
use lib.Dec.{eqb}
use borrow.Author.Tests.{eq-eqb, le-leb}
use Rattle.model.specs.Verdict.{Pass}
use Rattle.model.specs.declared.Domain.{Domain}
use Rattle.model.specs.declared.ListKind.TheVariants.{Include}
use Rattle.model.specs.Lists.{any, all}
use Rattle.model.specs.Reserved.{nobodys}
use Rattle.model.specs.Bytes.{number, bytes_of, all_zero}
use Rattle.model.specs.Subobject.{Area, prefix, system, area, rounded_up, known, length_fits, padding_wrong, field_wrong, type_at, carried_if, subobject_verdict, named_at}
use Rattle.model.specs.Profile.{area_length_fits}
use Rattle.model.specs.WrittenList.{written_pin, written_system, written_area}
use Rattle.laws.proofs.AreaLengths.{fits-cases}
use Rattle.laws.proofs.Numbers.{number_shift, number-bytes_of}
use Rattle.laws.proofs.Forms.{RightForm, right_pass, both_pass}
use Rattle.laws.proofs.Subobjects.{Item, Encoded}

-- a subobject of right form that is no EXRS carries nothing
plain-right : {s : List ℕ} {end at : ℕ} → eqb (type_at s at) 33 ≡ false → RightForm Include s end at → subobject_verdict Include s end at ≡ Pass
plain-right {s} {end} {at} no_exrs r = both_pass s end at (right_pass r) (ap (λ (b : Bool). carried_if b s at) no_exrs)

-- type 1 has 8 bytes, whatever stands where type 7 has its area's length
pin-size : (a : ℕ) → length_fits Include 1 a 8 ≡ true
unfolding length_fits
pin-size a = rw (zero-mul (rounded_up a))

-- ---- type 1: an entry constraint

abbrev pub pin_item : ℕ → Item
pin_item node = record { bytes = written_pin (some node); names = prefix node 32 }

pub pin_encoded : (node : ℕ) → node < 2 ^ 32 → Encoded Include (pin_item node)
unfolding bytes_of named_at known length_fits field_wrong
pin_encoded node h =
    record {
      right = λ post. plain-right refl
          (record {
            header = omega arith;
            supported = refl;
            top_right = refl;
            area_in_range = refl;
            size_fits = pin-size (node / 256 ^ 3 % 256);
            whole = omega arith;
            body_right = refl;
          });
      clear = λ post. refl;
      size = λ post. refl;
      long = omega arith;
      naming = λ post.
          ap (λ (a : ℕ). prefix a 32) (number_shift 4 (1 ∷ 8 ∷ []) (bytes_of 4 node ++ (32 ∷ 0 ∷ post)) 0 ∙ number-bytes_of 4 node (32 ∷ 0 ∷ post) h);
    }

-- ---- type 5: an AS

abbrev pub system_item : ℕ → Item
system_item n = record { bytes = written_system n; names = system n }

pub system_encoded : (n : ℕ) → n < 2 ^ 32 → nobodys n ≡ false → Encoded Include (system_item n)
unfolding bytes_of named_at known length_fits field_wrong
system_encoded n h owned =
    let four : (post : List ℕ) → number 4 (written_system n ++ post) 4 ≡ n = λ post. number_shift 4 (5 ∷ 8 ∷ 0 ∷ 0 ∷ []) (bytes_of 4 n ++ post) 0 ∙ number-bytes_of 4 n post h in
    record {
      right = λ post. plain-right refl
          (record {
            header = omega arith;
            supported = refl;
            top_right = refl;
            area_in_range = refl;
            size_fits = refl;
            whole = omega arith;
            body_right = rw (four post, owned) refl;
          });
      clear = λ post. refl;
      size = λ post. refl;
      long = omega arith;
      naming = λ post. ap system (four post);
    }

-- ---- types 6 and 7: an area

-- the area that a domain record holds
abbrev pub area_of : Domain → Area
area_of d = record { kind = d.kind; bytes = take d.length d.area }

abbrev pub area_item : ℕ → Domain → Item
area_item k d = record { bytes = written_area k d; names = area (area_of d) }

-- the area's bytes are as many as its length
pub held : (d : Domain) → d.length ≤ length d.area → length (take d.length d.area) ≡ d.length
held d h = length-take-le d.length d.area h

ospf_encoded : (d : Domain) → d.kind ≡ 1 → d.length ≡ 4 → length d.area ≡ 13 → Encoded Include (area_item 1 d)
unfolding named_at known length_fits field_wrong
ospf_encoded d k l h =
    let bytes = take d.length d.area in
    let n : length bytes ≡ 4 = held d (omega arith) ∙ l in
    record {
      right = λ post. plain-right refl
          (record {
            header = omega arith;
            supported = refl;
            top_right = refl;
            area_in_range = refl;
            size_fits = refl;
            whole = omega arith;
            body_right = refl;
          });
      clear = λ post. refl;
      size = λ post. omega arith;
      long = omega arith;
      naming = λ post. λ i. area (record { kind = sym k i; bytes = take_at bytes post 4 n i });
    }

all_zero_lem : (n : ℕ) → all_zero (replicate n 0) ≡ true
unfolding all_zero
all_zero_lem zero = refl
all_zero_lem (suc n) = all_zero_lem n

isis_size : (n : ℕ) → length_fits Include 7 n (4 + rounded_up n) ≡ true
unfolding length_fits
isis_size n = rw (one-mul (rounded_up n), eq-eqb (4 + rounded_up n) (4 + rounded_up n) refl)

-- what stands between an area of n bytes and r is zero
isis-padding
    : (n r : ℕ) (bytes post : List ℕ) → length bytes ≡ n → n ≤ r → padding_wrong (7 ∷ (4 + r) ∷ n ∷ 0 ∷ (bytes ++ replicate (r - n) 0 ++ post)) 0 ≡ false
isis-padding n r bytes post e h =
    let left : 4 + r - (4 + n) ≡ r - n = omega arith in
    rw (left, drop-append-add (7 ∷ (4 + r) ∷ n ∷ 0 ∷ []) (bytes ++ replicate (r - n) 0 ++ post) n, append_assoc bytes (replicate (r - n) 0) post, drop_at bytes (replicate (r - n) 0 ++ post) n e, take_at (replicate {A = ℕ} (r - n) 0) post (r - n) (length-replicate (r - n) 0), all_zero_lem (r - n))

isis_encoded : (d : Domain) → d.kind ≡ 2 → 1 ≤ d.length → d.length ≤ 13 → length d.area ≡ 13 → Encoded Include (area_item 2 d)
unfolding named_at known length_fits field_wrong
isis_encoded d k low high h =
    let bytes : List ℕ = take d.length d.area in
    let padding : List ℕ = replicate (rounded_up d.length - d.length) 0 in
    let n : length bytes ≡ d.length = held d (omega arith) in
    let p : length padding ≡ rounded_up d.length - d.length = length-replicate (rounded_up d.length - d.length) 0 in
    let b : length (bytes ++ padding) ≡ rounded_up d.length = omega (arith, length-append bytes padding) in
    record {
      right = λ post. plain-right refl
          (record {
            header = omega arith;
            supported = refl;
            top_right = refl;
            area_in_range = rw (le-leb 1 d.length low, le-leb d.length 13 high);
            size_fits = isis_size d.length;
            whole = omega arith;
            body_right = rw (isis-padding d.length (rounded_up d.length) bytes post n (omega arith)) refl;
          });
      clear = λ post. refl;
      size = λ post. omega arith;
      long = omega arith;
      naming = λ post.
          let named = ap (take d.length) (append_assoc bytes padding post) ∙ take_at bytes (padding ++ post) d.length n in
          λ i. area (record { kind = sym k i; bytes = named i });
    }

-- the area of a domain record of kind 1 or 2
pub area-encoded
    : (d : Domain) (k : ℕ) → d.kind ≡ suc k → area_length_fits d.kind d.length ≡ true → length d.area ≡ 13 → Encoded Include (area_item (suc k) d)
area-encoded d k e fits h =
    ⊎_elim
    (λ (a : (d.kind ≡ 0) × (d.length ≡ 0)). absurd (omega arith))
    (λ (u : ((d.kind ≡ 1) × (d.length ≡ 4)) ⊎ ((d.kind ≡ 2) × (1 ≤ d.length) × (d.length ≤ 13))).
    ⊎_elim
    (λ (b : (d.kind ≡ 1) × (d.length ≡ 4)). subst (λ (j : ℕ). Encoded Include (area_item j d)) (sym b.0 ∙ e) (ospf_encoded d b.0 b.1 h))
    (λ (c : (d.kind ≡ 2) × (1 ≤ d.length) × (d.length ≤ 13)).
    subst (λ (j : ℕ). Encoded Include (area_item j d)) (sym c.0 ∙ e) (isis_encoded d c.0 c.1 c.2 h))
    u)
    (fits-cases d.kind d.length fits)
