-- The written list as subobjects one after the other: it has right form, its subobjects are the ones written, its elements are bytes, and it has at most
-- 36 bytes for each domain beside its EXRS. By recursion along the sequence.
use Prim.Native.Nat.{ℕ, zero, suc, ◌+◌, ◌-◌, ◌*◌, ◌^◌, ◌≤◌, ◌<◌}
use native.Mathlib.Omega.{arith}
use mathlib.Core.Path.{◌≡◌, refl, sym, ap, subst, ◌∙◌}
use mathlib.Core.Bool.{Bool, true, false}
use mathlib.Core.List.{List, [], ◌∷◌, ◌++◌, append-nil, append_assoc}
use mathlib.Core.Option.{Option, none, some}
use lib.ListN.{length, take, replicate, length-append, length-replicate}
use lib.Dec.{eqb, lit<}
use Rattle.model.specs.Verdict.{Pass}
use Rattle.model.specs.declared.Domain.{Domain}
use Rattle.model.specs.declared.ListKind.{ListKind}
use Rattle.model.specs.declared.ListKind.TheVariants.{Include}
use Rattle.model.specs.Lists.{each}
use Rattle.model.specs.Reserved.{nobodys}
use Rattle.model.specs.Bytes.{bytes_of}
use Rattle.model.specs.Subobject.{rounded_up, form_verdict, subobjects}
use Rattle.model.specs.Sequence.{Stop, domain_of}
use Rattle.model.specs.WrittenList.{written_pin, written_system, written_area, system_if, system_after, written_stop, written_from, written}
use Rattle.model.specs.Calls.{all_exrs}
use Rattle.laws.proofs.BigEndian.{Bytes}
use Rattle.laws.proofs.InARow.{Each}
use Rattle.laws.proofs.AreaLengths.{fits-short}
use Rattle.laws.proofs.Numbers.{bytes_nil, bytes_cons, bytes-test, bytes-append, bytes_take, bytes-replicate, bytes-bytes_of}
use Rattle.laws.proofs.Subobjects.{Item, AllEncoded, joined, placed, form-whole, subobjects-whole}
use Rattle.laws.proofs.Exrs.{exrs_items, items_bytes, Whole}
use Rattle.laws.proofs.WrittenForm.{pin_item, pin_encoded, system_item, system_encoded, area_item, area-encoded, held}
use Rattle.laws.proofs.SoundDomains.{SoundDomain, SoundDomains}

-- ---- the subobjects of a stop

abbrev pub pin_items : Option ℕ → List Item
pin_items none = []
pin_items (some node) = pin_item node ∷ []

-- the AS of the domain before is this one
abbrev pub repeated : Option ℕ → ℕ → Bool
repeated none n = false
repeated (some before) n = eqb n before

abbrev pub system_items : Bool → ℕ → List Item
system_items true n = []
system_items false n = system_item n ∷ []

abbrev pub area_items : ℕ → Domain → List Item
area_items zero d = []
area_items (suc k) d = area_item (suc k) d ∷ []

-- those that name the domain
abbrev pub domain_items : Bool → Domain → List Item
domain_items again d = system_items again d.asn ++ area_items d.kind d

abbrev pub items_from : List Domain → Option ℕ → List Stop → List Item
items_from ds before [] = []
items_from ds before (p ∷ rest) =
    let d = domain_of ds p.domain in
    pin_items p.pin ++ (exrs_items (subobjects p.exrs) ++ (domain_items (repeated before d.asn) d ++ items_from ds (some d.asn) rest))

-- ---- they are the written list

joined_append : (xs ys : List Item) → joined (xs ++ ys) ≡ joined xs ++ joined ys
unfolding each
joined_append [] ys = refl
joined_append (x ∷ xs) ys = ap (λ (s : List ℕ). x.bytes ++ s) (joined_append xs ys) ∙ sym (append_assoc x.bytes (joined xs) (joined ys))

pin_joined : (pin : Option ℕ) → joined (pin_items pin) ≡ written_pin pin
unfolding each
pin_joined none = refl
pin_joined (some node) = append-nil (written_pin (some node))

system_joined : (before : Option ℕ) (n : ℕ) → joined (system_items (repeated before n) n) ≡ system_after before n
unfolding each
system_joined none n = append-nil (written_system n)
system_joined (some before) n = go (eqb n before)
  where
    go : (b : Bool) → joined (system_items b n) ≡ system_if b n
    go true = refl
    go false = append-nil (written_system n)

area_joined : (k : ℕ) (d : Domain) → joined (area_items k d) ≡ written_area k d
unfolding each
area_joined zero d = refl
area_joined (suc k) d = append-nil (written_area (suc k) d)

-- where the EXRS of each stop are whole
abbrev pub AllWhole : List Stop → Type 0
AllWhole ps = Each (λ (p : Stop). Whole p.exrs) ps

pub items_joined : (ds : List Domain) (before : Option ℕ) (ps : List Stop) → AllWhole ps → joined (items_from ds before ps) ≡ written_from ds before ps
unfolding written_from each
items_joined ds before [] h = refl
items_joined ds before (p ∷ rest) h =
    let d = domain_of ds p.domain in
    let whole : joined (exrs_items (subobjects p.exrs)) ≡ p.exrs = items_bytes (subobjects p.exrs) ∙ h.0.those in
    simp (joined_append, append_assoc, pin_joined, whole, system_joined, area_joined, items_joined ds (some d.asn) rest h.1)

-- ---- each has right form

-- a node's address is a u32
abbrev pub PinFits : Option ℕ → Type 0
PinFits none = Unit {0}
PinFits (some node) = node < 2 ^ 32

-- the stops of a sequence that can be written: domains of the profile, nodes, and bytes that are whole EXRS
abbrev pub Writable : List Domain → List Stop → Type 0
Writable ds [] = Unit {0}
Writable ds (p ∷ rest) = (p.domain < length ds) × PinFits p.pin × (Whole p.exrs × Bytes p.exrs) × Writable ds rest

all_whole : (ds : List Domain) (ps : List Stop) → Writable ds ps → AllWhole ps
all_whole ds [] h = tt
all_whole ds (p ∷ rest) h = (h.2.0, all_whole ds rest h.3)

encoded_append : (k : ListKind) (xs ys : List Item) → AllEncoded k xs → AllEncoded k ys → AllEncoded k (xs ++ ys)
encoded_append k [] ys a b = b
encoded_append k (x ∷ xs) ys a b = (a.0, encoded_append k xs ys a.1 b)

pin_all : (pin : Option ℕ) → PinFits pin → AllEncoded Include (pin_items pin)
pin_all none h = tt
pin_all (some node) h = (pin_encoded node h, tt)

system_all : (again : Bool) (n : ℕ) → n < 2 ^ 32 → nobodys n ≡ false → AllEncoded Include (system_items again n)
system_all true n h o = tt
system_all false n h o = (system_encoded n h o, tt)

area_all : (k : ℕ) (d : Domain) → d.kind ≡ k → SoundDomain d → AllEncoded Include (area_items k d)
area_all zero d e h = tt
area_all (suc k) d e h = (area-encoded d k e h.area_fits h.area_held, tt)

module _ (ds : List Domain) (sound : SoundDomains ds) where
  pub items_encoded : (before : Option ℕ) (ps : List Stop) → Writable ds ps → AllEncoded Include (items_from ds before ps)
  items_encoded before [] h = tt
  items_encoded before (p ∷ rest) h =
      let d = domain_of ds p.domain in
      let s = sound.sound p.domain h.0 in
      encoded_append Include (pin_items p.pin) _ (pin_all p.pin h.1)
      (encoded_append Include (exrs_items (subobjects p.exrs)) _ h.2.0.encoded
      (encoded_append Include (domain_items (repeated before d.asn) d) _
      (encoded_append Include (system_items (repeated before d.asn) d.asn) _ (system_all (repeated before d.asn) d.asn s.asn_fits s.asn_owned) (area_all d.kind d refl s))
      (items_encoded (some d.asn) rest h.3)))

  pub written-form : (ps : List Stop) → Writable ds ps → form_verdict Include (written ds ps) ≡ Pass
  unfolding written
  written-form ps h = rw (← items_joined ds none ps (all_whole ds ps h)) (form-whole Include (items_from ds none ps) (items_encoded none ps h))

  pub written-subobjects : (ps : List Stop) → Writable ds ps → subobjects (written ds ps) ≡ placed 0 (items_from ds none ps)
  unfolding written
  written-subobjects ps h = ap subobjects (sym (items_joined ds none ps (all_whole ds ps h))) ∙ subobjects-whole Include (items_from ds none ps) (items_encoded none ps h)

-- ---- bytes, and how many

pin-bytes : (pin : Option ℕ) → Bytes (written_pin pin)
pin-bytes none = bytes_nil
pin-bytes (some node) =
    bytes-append (1 ∷ 8 ∷ bytes_of 4 node) (32 ∷ 0 ∷ [])
    (bytes-append (1 ∷ 8 ∷ []) (bytes_of 4 node) (bytes-test (1 ∷ 8 ∷ []) refl) (bytes-bytes_of 4 node))
    (bytes-test (32 ∷ 0 ∷ []) refl)

system-bytes : (again : Bool) (n : ℕ) → Bytes (system_if again n)
system-bytes true n = bytes_nil
system-bytes false n = bytes-append (5 ∷ 8 ∷ 0 ∷ 0 ∷ []) (bytes_of 4 n) (bytes-test (5 ∷ 8 ∷ 0 ∷ 0 ∷ []) refl) (bytes-bytes_of 4 n)

area-bytes : (k : ℕ) (d : Domain) → SoundDomain d → Bytes (written_area k d)
area-bytes zero d h = bytes_nil
area-bytes (suc zero) d h =
    bytes-append (6 ∷ 8 ∷ 0 ∷ 0 ∷ []) (take d.length d.area) (bytes-test (6 ∷ 8 ∷ 0 ∷ 0 ∷ []) refl) (bytes_take d.length d.area h.area_bytes)
area-bytes (suc (suc k)) d h =
    let n : d.length ≤ 13 = fits-short d.kind d.length h.area_fits in
    let area : List ℕ = take d.length d.area in
    let zeros : List ℕ = replicate (rounded_up d.length - d.length) 0 in
    let size : ℕ = 4 + rounded_up d.length in
    bytes-append (7 ∷ size ∷ d.length ∷ 0 ∷ []) (area ++ zeros)
    (bytes_cons 7 (size ∷ d.length ∷ 0 ∷ []) (lit< tt)
    (bytes_cons size (d.length ∷ 0 ∷ []) (omega arith) (bytes_cons d.length (0 ∷ []) (omega arith) (bytes-test (0 ∷ []) refl))))
    (bytes-append area zeros (bytes_take d.length d.area h.area_bytes) (bytes-replicate (rounded_up d.length - d.length) 0 (lit< tt)))

pin-length : (pin : Option ℕ) → length (written_pin pin) ≤ 8
unfolding bytes_of
pin-length none = omega arith
pin-length (some node) = omega arith

system-length : (again : Bool) (n : ℕ) → length (system_if again n) ≤ 8
unfolding bytes_of
system-length true n = omega arith
system-length false n = omega arith

area-length : (k : ℕ) (d : Domain) → SoundDomain d → length (written_area k d) ≤ 20
area-length zero d h = omega arith
area-length (suc zero) d h =
    let n : d.length ≤ 13 = fits-short d.kind d.length h.area_fits in
    omega (arith, held d (omega (arith, h.area_held)))
area-length (suc (suc k)) d h =
    let n : d.length ≤ 13 = fits-short d.kind d.length h.area_fits in
    let area : List ℕ = take d.length d.area in
    let zeros : List ℕ = replicate (rounded_up d.length - d.length) 0 in
    omega (arith, held d (omega (arith, h.area_held)), length-append area zeros, length-replicate {A = ℕ} (rounded_up d.length - d.length) 0)

-- the AS is written unless it is that of the domain before
system-after : (before : Option ℕ) (n : ℕ) → system_after before n ≡ system_if (repeated before n) n
system-after none n = refl
system-after (some before) n = refl

module _ (ds : List Domain) (sound : SoundDomains ds) where
  from_bytes : (before : Option ℕ) (ps : List Stop) → Writable ds ps → Bytes (written_from ds before ps)
  unfolding written_from
  from_bytes before [] h = bytes_nil
  from_bytes before (p ∷ rest) h =
      let d = domain_of ds p.domain in
      let s = sound.sound p.domain h.0 in
      let system = subst Bytes (sym (system-after before d.asn)) (system-bytes (repeated before d.asn) d.asn) in
      let named : List ℕ = system_after before d.asn ++ written_area d.kind d in
      bytes-append (written_stop before p.pin p.exrs d) (written_from ds (some d.asn) rest)
      (bytes-append (written_pin p.pin) (p.exrs ++ named) (pin-bytes p.pin)
      (bytes-append p.exrs named h.2.1 (bytes-append (system_after before d.asn) (written_area d.kind d) system (area-bytes d.kind d s))))
      (from_bytes (some d.asn) rest h.3)

  from_length : (before : Option ℕ) (ps : List Stop) → Writable ds ps → length (written_from ds before ps) ≤ 36 * length ps + length (all_exrs ps)
  unfolding written_from all_exrs each
  from_length before [] h = omega arith
  from_length before (p ∷ rest) h =
      let d = domain_of ds p.domain in
      let s = sound.sound p.domain h.0 in
      let named : List ℕ = system_after before d.asn ++ written_area d.kind d in
      omega
      (arith, length-append (written_stop before p.pin p.exrs d) (written_from ds (some d.asn) rest), length-append (written_pin p.pin) (p.exrs ++ named), length-append p.exrs named, length-append (system_after before d.asn) (written_area d.kind d), length-append p.exrs (all_exrs rest), pin-length p.pin, ap length (system-after before d.asn), system-length (repeated before d.asn) d.asn, area-length d.kind d s, from_length (some d.asn) rest h.3)

  pub written-bytes : (ps : List Stop) → Writable ds ps → Bytes (written ds ps)
  unfolding written
  written-bytes ps h = from_bytes none ps h

  pub written-length : (ps : List Stop) → Writable ds ps → length (written ds ps) ≤ 36 * length ps + length (all_exrs ps)
  unfolding written
  written-length ps h = from_length none ps h
