-- What a subobject of right form has room for, and what it names, by its type.
use mathlib.Core.Path.{◌≡◌, refl, sym, ap, ◌∙◌}
use mathlib.Core.List.{List}
use Prim.Native.Nat.{ℕ, ◌+◌, ◌≤◌}
use native.Mathlib.Omega.{arith}
use lib.ListN.{length, get_or}
use lib.Dec.{eqb}
use borrow.Author.Tests.{eqb-true, ne_eqb}
use mathlib.Core.Bool.{true, false, ◌&&◌}
use Rattle.laws.proofs.Lists.{any_mem, mem_any}
use Rattle.laws.proofs.Tests.{and_both, clash}
use Rattle.std.specs.Prelude.{Option, Some, None}
use Rattle.std.specs.Option.{is_some}
use Rattle.list_subobject.specs.declared.types.SubobjectType.{SubobjectType}
use Rattle.list_subobject.specs.Types.{TypeIs}
use Rattle.laws.proofs.Walk.{right_subobject}
use Rattle.model.specs.Verdict.{Pass}
use Rattle.model.specs.declared.ListKind.{ListKind}
use Rattle.model.specs.Bytes.{number, part}
use Rattle.model.specs.Subobject.{LengthRule, length_rules, is_rule, keeps_rule, known, length_fits, subobject_verdict, type_at, length_at, area_length_at, rounded_up, named_at, prefix, system, area}
use Rattle.list_subobject.specs.Items.{Readable}
use Rattle.list_subobject.proofs.LengthLaws.{fits_1, fits_5, fits_6, fits_7}

-- what a subobject that lies inside the list has room for
module _ {s : List ℕ} {at : ℕ} (r : Readable s at) where
  -- its length, by its type
  long_by : (t n : ℕ) → type_at s at ≡ t → length_fits r.kind t (area_length_at s at) (length_at s at) ≡ eqb (length_at s at) n → length_at s at ≡ n
  long_by t n e f = eqb-true (length_at s at) n (sym (ap (λ (u : ℕ). length_fits r.kind u (area_length_at s at) (length_at s at)) e ∙ f) ∙ r.fits)

  pub room_8 : length_at s at ≡ 8 → at + 8 ≤ length s
  room_8 l = let i = r.inside in omega arith

  pub long_1 : type_at s at ≡ 1 → length_at s at ≡ 8
  long_1 e = long_by 1 8 e (fits_1 r.kind (area_length_at s at) (length_at s at))

  pub room_1 : type_at s at ≡ 1 → at + 8 ≤ length s
  room_1 e = room_8 (long_1 e)

  pub room_5 : type_at s at ≡ 5 → at + 8 ≤ length s
  room_5 e = room_8 (long_by 5 8 e (fits_5 r.kind (area_length_at s at) (length_at s at)))

  pub room_6 : type_at s at ≡ 6 → at + 8 ≤ length s
  room_6 e = room_8 (long_by 6 8 e (fits_6 r.kind (area_length_at s at) (length_at s at)))

  pub padded : type_at s at ≡ 7 → length_at s at ≡ 4 + rounded_up (area_length_at s at)
  padded e = long_by 7 (4 + rounded_up (area_length_at s at)) e (fits_7 r.kind (area_length_at s at) (length_at s at))

  pub room_7 : type_at s at ≡ 7 → at + 4 + area_length_at s at ≤ length s
  room_7 e = let l = padded e in let i = r.inside in omega arith

-- what a subobject names, by its type
module _ (s : List ℕ) (at : ℕ) where
  pub named_1 : type_at s at ≡ 1 → named_at s at ≡ prefix (number 4 s (at + 2)) (get_or s (at + 6) 0)
  unfolding named_at
  named_1 e = rw e refl

  pub named_5 : type_at s at ≡ 5 → named_at s at ≡ system (number 4 s (at + 4))
  unfolding named_at
  named_5 e = rw e refl

  pub named_6 : type_at s at ≡ 6 → named_at s at ≡ area (record { kind = 1; bytes = part s (at + 4) 4 })
  unfolding named_at
  named_6 e = rw e refl

  pub named_7 : type_at s at ≡ 7 → named_at s at ≡ area (record { kind = 2; bytes = part s (at + 4) (area_length_at s at) })
  unfolding named_at
  named_7 e = rw e refl

  pub named_32 : type_at s at ≡ 32 → named_at s at ≡ system (number 2 s (at + 2))
  unfolding named_at
  named_32 e = rw e refl

-- a subobject of right form, in either kind of list and up to an end inside it, lies inside the list and has its type's length
pub readable : (k : ListKind) (s : List ℕ) (end at : ℕ) → end ≤ length s → subobject_verdict k s end at ≡ Pass → Readable s at
readable k s end at h e =
    let r = right_subobject k s end at e in
    record { kind = k; long = omega (arith, r.head); inside = omega (arith, r.whole); fits = r.fits }

-- its type is one that the list knows
pub fitted-known : (k : ListKind) (t a n : ℕ) → length_fits k t a n ≡ true → known k t ≡ true
unfolding length_fits known
fitted-known k t a n e =
    let m = any_mem (λ (r : LengthRule). is_rule k t r && keeps_rule r a n) length_rules e in
    mem_any (is_rule k t) m.1 (and_both (is_rule k t m.0) (keeps_rule m.0 a n) m.2).0

pub readable-known : {s : List ℕ} {at : ℕ} (r : Readable s at) → known r.kind (type_at s at) ≡ true
readable-known {s} {at} r = fitted-known r.kind (type_at s at) (area_length_at s at) (length_at s at) r.fits

pub unknown
    : (t : ℕ) → (t ≡ 1 → ⊥) → (t ≡ 5 → ⊥) → (t ≡ 6 → ⊥) → (t ≡ 7 → ⊥) → (t ≡ 32 → ⊥) → (t ≡ 33 → ⊥)
    → (k : ListKind) → known k t ≡ false
unfolding known
unknown t d1 d5 d6 d7 d32 d33 k = rw (ne_eqb t 1 d1, ne_eqb t 5 d5, ne_eqb t 6 d6, ne_eqb t 7 d7, ne_eqb t 32 d32, ne_eqb t 33 d33) refl

-- a number of a known type has one
pub typed : (k : ListKind) (n : ℕ) (o : Option SubobjectType) → TypeIs n o → known k n ≡ true → is_some o ≡ true
typed k n (Some t) is e = refl
typed k n None is e = clash e (is k)
