-- The parts of a written list: how long each is, and that what the code stores is the part. A part's bytes are those of its stores, one run after the other.
use mathlib.Core.Path.{◌≡◌, refl, sym, ap, subst, ◌∙◌}
use mathlib.Core.Logic.{◌⊎◌, ⊎_elim}
use mathlib.Core.Bool.{Bool, true, false}
use mathlib.Core.List.{List, [], ◌∷◌, ◌++◌, append-nil}
use mathlib.Core.Option.{Option}
use Rattle.std.specs.Prelude as Std
use Prim.Native.Nat.{ℕ, zero, suc, ◌+◌, ◌*◌, ◌-◌, ◌≤◌}
use native.Mathlib.Omega.{arith}
use lib.ListN.{length, take, drop, replicate, length-append}
use lib.Seq.{length-take-le, take-length}
use Rattle.model.specs.declared.Domain.{Domain}
use Rattle.model.specs.declared.NodeAddress.{NodeAddress}
use Rattle.model.specs.Bytes.{bytes_of}
use Rattle.model.specs.Profile.{area_length_fits}
use Rattle.model.specs.Subobject.{rounded_up}
use Rattle.model.specs.WrittenList.{written_pin, system_if, written_area}
use Rattle.laws.specs.Stops.{pin_as}
use Rattle.laws.proofs.AreaLengths.{fits-cases, fits-short}
use Rattle.buffers.specs.Placed.{Put}
use Rattle.list_writer.specs.Writing.{AreaRight, stop_bytes, named_size}
use Rattle.buffers.proofs.Places.{take-replicate, put_append, number_put}

-- ---- what the code puts

pub pin-long : (pin : Std.Option NodeAddress) (node : NodeAddress) → pin ≡ Std.Some node → length (written_pin (pin_as pin)) ≡ 8
unfolding bytes_of
pin-long pin node e = ap (λ (p : Std.Option NodeAddress). length (written_pin (pin_as p))) e

pub pin_put : (pin : Std.Option NodeAddress) (node : NodeAddress) (at : ℕ) (s a b c : List ℕ) → pin ≡ Std.Some node → at + 8 ≤ length s
    → a ≡ take at s ++ bytes_of 2 0x0108 ++ drop (at + 2) s
    → b ≡ take (at + 2) a ++ bytes_of 4 node.0 ++ drop (at + 2 + 4) a
    → c ≡ take (at + 6) b ++ bytes_of 2 0x2000 ++ drop (at + 6 + 2) b
    → Put at (written_pin (pin_as pin)) s c (at + 8)
unfolding bytes_of
pin_put pin node at s a b c m h e f g =
    let whole : Put at (bytes_of 2 0x0108 ++ bytes_of 4 node.0 ++ bytes_of 2 0x2000) s c (at + 8) =
    put_append (omega arith)
    (put_append (omega arith) (number_put 2 0x0108 at (at + 2) s a refl e) (number_put 4 node.0 (at + 2) (at + 6) a b (omega arith) f))
    (number_put 2 0x2000 (at + 6) (at + 8) b c (omega arith) g) in
    subst (λ (p : Std.Option NodeAddress). Put at (written_pin (pin_as p)) s c (at + 8)) (sym m) whole

pub system-long : (again : Bool) (asn : ℕ) → again ≡ false → length (system_if again asn) ≡ 8
unfolding bytes_of
system-long again asn e = ap (λ (b : Bool). length (system_if b asn)) e

pub system_put : (again : Bool) (asn at rest : ℕ) (s a b : List ℕ) → again ≡ false → at ≤ length s
    → Put at (5 ∷ 8 ∷ 0 ∷ 0 ∷ []) s a rest
    → b ≡ take rest a ++ bytes_of 4 asn ++ drop (rest + 4) a
    → Put at (system_if again asn) s b (rest + 4)
system_put again asn at rest s a b e h p f =
    subst (λ (t : Bool). Put at (system_if t asn) s b (rest + 4)) (sym e) (put_append h p (number_put 4 asn rest (rest + 4) a b refl f))

-- an area kind is at most 2, and what its subobject tells of the length is a byte
module _ (k n : ℕ) (f : area_length_fits k n ≡ true) where
  pub kind-small : k ≤ 2
  kind-small =
      ⊎_elim
      (λ (a : (k ≡ 0) × (n ≡ 0)). omega arith)
      (λ (u : ((k ≡ 1) × (n ≡ 4)) ⊎ ((k ≡ 2) × (1 ≤ n) × (n ≤ 13))). ⊎_elim (λ (b : (k ≡ 1) × (n ≡ 4)). omega arith) (λ (c : (k ≡ 2) × (1 ≤ n) × (n ≤ 13)). omega arith) u)
      (fits-cases k n f)

  pub told-small : (k - 1) * n ≤ 13
  told-small = let short = fits-short k n f in told k kind-small short where
    told : (j : ℕ) → j ≤ 2 → n ≤ 13 → (j - 1) * n ≤ 13
    told zero h l = omega arith
    told (suc zero) h l = omega arith
    told (suc (suc zero)) h l = omega arith
    told (suc (suc (suc j))) h l = absurd (omega arith)

-- type, length, what is told of the area's length, 0; the area; its padding
abbrev area_bytes : ℕ → ℕ → List ℕ → List ℕ
area_bytes k n area = ((5 + k) ∷ (4 + rounded_up n) ∷ ((k - 1) * n) ∷ 0 ∷ take n area) ++ take (rounded_up n - n) (replicate 3 0)

module _ (d : Domain) where
  ospf_bytes : d.length ≡ 4 → area_bytes 1 d.length d.area ≡ written_area 1 d
  ospf_bytes e =
      let second : 4 + rounded_up d.length ≡ 8 = omega arith in
      let third : 0 * d.length ≡ 0 = omega arith in
      let padding : rounded_up d.length - d.length ≡ 0 = omega arith in
      let rest = ap (λ (k : ℕ). take d.length d.area ++ take k (replicate 3 0)) padding ∙ append-nil (take d.length d.area) in
      λ i. 6 ∷ second i ∷ third i ∷ 0 ∷ rest i

  isis_bytes : d.length ≤ 13 → area_bytes 2 d.length d.area ≡ written_area 2 d
  isis_bytes h =
      let third : 1 * d.length ≡ d.length = omega arith in
      let rest = ap (λ (z : List ℕ). take d.length d.area ++ z) (take-replicate (rounded_up d.length - d.length) 3 0 (omega arith)) in
      λ i. 7 ∷ (4 + rounded_up d.length) ∷ third i ∷ 0 ∷ rest i

  area-bytes : (k : ℕ) → area_length_fits k d.length ≡ true → (k ≡ 0 → ⊥) → area_bytes k d.length d.area ≡ written_area k d
  area-bytes k f z =
      let n : ℕ = d.length in
      let Same : ℕ → Type 0 = λ (j : ℕ). area_bytes j d.length d.area ≡ written_area j d in
      ⊎_elim
      (λ (a : (k ≡ 0) × (n ≡ 0)). absurd (z a.0))
      (λ (u : ((k ≡ 1) × (n ≡ 4)) ⊎ ((k ≡ 2) × (1 ≤ n) × (n ≤ 13))).
      ⊎_elim (λ (b : (k ≡ 1) × (n ≡ 4)). subst Same (sym b.0) (ospf_bytes b.1)) (λ (c : (k ≡ 2) × (1 ≤ n) × (n ≤ 13)). subst Same (sym c.0) (isis_bytes c.2)) u)
      (fits-cases k n f)

  pub area-long : AreaRight d → (d.kind ≡ 0 → ⊥) → length (written_area d.kind d) ≡ 4 + rounded_up d.length
  area-long f z =
      let n : ℕ = d.length in
      let short = fits-short d.kind d.length f.fits in
      let whole = f.whole in
      let area : length (take n d.area) ≡ n = length-take-le n d.area (omega arith) in
      let padding : length {A = ℕ} (take (rounded_up n - n) (replicate 3 0)) ≡ rounded_up n - n = length-take-le (rounded_up n - n) (replicate 3 0) (omega arith) in
      ap length (sym (area-bytes d.kind f.fits z)) ∙ omega (arith, length-append ((5 + d.kind) ∷ (4 + rounded_up n) ∷ ((d.kind - 1) * n) ∷ 0 ∷ take n d.area) (take (rounded_up n - n) (replicate 3 0)))

  pub area_put : (at m e r padded : ℕ) (s a b c : List ℕ) → AreaRight d → (d.kind ≡ 0 → ⊥) → at ≤ length s → padded ≡ rounded_up d.length
      → Put at ((5 + d.kind) ∷ (4 + padded) ∷ ((d.kind - 1) * d.length) ∷ 0 ∷ []) s a m
      → Put m (take d.length d.area) a b e
      → Put e (take (padded - d.length) (replicate 3 0)) b c r
      → Put at (written_area d.kind d) s c r
  area_put at m e r padded s a b c f z h k p q t =
      let head = subst (λ (n : ℕ). Put at ((5 + d.kind) ∷ (4 + n) ∷ ((d.kind - 1) * d.length) ∷ 0 ∷ []) s a m) k p in
      let rest = subst (λ (n : ℕ). Put e (take (n - d.length) (replicate 3 0)) b c r) k t in
      subst (λ (x : List ℕ). Put at x s c r) (area-bytes d.kind f.fits z) (put_append h (put_append h head q) rest)

-- a whole run of bytes, as it is
pub whole_put : {at next : ℕ} {run old new : List ℕ} → Put at (take (length run) run) old new next → Put at run old new next
whole_put {at} {next} {run} {old} {new} p = subst (λ (s : List ℕ). Put at s old new next) (take-length run) p

-- the parts of a domain together
pub stop-long : (pin : Option ℕ) (exrs : List ℕ) (again : Bool) (d : Domain) → length (stop_bytes pin exrs again d) ≡ named_size pin again d + length exrs
stop-long pin exrs again d = simp length-append (omega arith)
