-- Subobjects and the form of a list of them: document 01, "Subobjects". One definition for include and exclude lists, over the list kind.
use Rattle.std.specs.Prelude.{ℕ, ◌+◌, ◌-◌, ◌*◌, ◌/◌, ◌%◌, Bool, true, false, not, cond, ◌&&◌, ◌||◌, List, [], ◌∷◌, map, length, get_or, drop, eqb, leb, ltb}
use Rattle.model.specs.declared.ListKind.{ListKind}
use Rattle.model.specs.declared.ListKind.TheVariants.{Include, Exclude}
use Rattle.model.specs.Lists.{any, each}
use Rattle.model.specs.Bytes.{number, part, all_zero}
use Rattle.model.specs.Reserved.{nobodys}
use Rattle.model.specs.Verdict.{Verdict, Pass, refuse_if, ◌and_then◌}
use Rattle.model.specs.Along.{checked_from, places_from}

-- an area: its kind (1 OSPF, 2 IS-IS) and its bytes, as many as its length
pub record Area : Type 0 where
  pub kind : ℕ
  pub bytes : List ℕ

-- what a subobject names: an address with its prefix length, an AS, an area; an EXRS (RFC 5521) is told by all its bytes
pub data Named : Type 0 where
  prefix : ℕ → ℕ → Named
  system : ℕ → Named
  area : Area → Named
  stretch : List ℕ → Named

-- a subobject's offset in the list, its top bit (L in an include list, X in an exclude list), and what it names
pub record Subobject : Type 0 where
  pub offset : ℕ
  pub top : Bool
  pub names : Named

-- ---- the rule of each type: the lists that know it, a fixed length, for type 7 the area's length rounded up to 4 besides, and whether it can be longer

pub record LengthRule : Type 0 where
  pub type : ℕ
  pub lists : ListKind → Bool
  pub fixed : ℕ
  pub with_area : ℕ
  pub longer : Bool

abbrev pub both_kinds : ListKind → Bool
both_kinds k = true

abbrev pub include_only : ListKind → Bool
include_only Include = true
include_only Exclude = false

abbrev pub length_rules : List LengthRule
length_rules =
    record { type = 1; lists = both_kinds; fixed = 8; with_area = 0; longer = false }
    ∷ record { type = 5; lists = both_kinds; fixed = 8; with_area = 0; longer = false }
    ∷ record { type = 6; lists = both_kinds; fixed = 8; with_area = 0; longer = false }
    ∷ record { type = 7; lists = both_kinds; fixed = 4; with_area = 1; longer = false }
    ∷ record { type = 32; lists = both_kinds; fixed = 4; with_area = 0; longer = false }
    ∷ record { type = 33; lists = include_only; fixed = 4; with_area = 0; longer = true }
    ∷ []

abbrev pub rounded_up : ℕ → ℕ
rounded_up n = (n + 3) / 4 * 4

-- the rule is that of type t in such a list
abbrev pub is_rule : ListKind → ℕ → LengthRule → Bool
is_rule k t r = eqb t r.type && r.lists k

-- the length that a rule asks for where the area has length a, and whether n keeps it
abbrev pub ruled : LengthRule → ℕ → ℕ
ruled r a = r.fixed + r.with_area * rounded_up a

abbrev pub keeps_rule : LengthRule → ℕ → ℕ → Bool
keeps_rule r a n = cond r.longer (leb (ruled r a) n) (eqb n (ruled r a))

unfoldable pub known : ListKind → ℕ → Bool
known k t = any (is_rule k t) length_rules

-- n is a length that a subobject of type t can have in such a list, whose area has length a if it has one
unfoldable pub length_fits : ListKind → ℕ → ℕ → ℕ → Bool
length_fits k t a n = any (λ (r : LengthRule). is_rule k t r && keeps_rule r a n) length_rules

-- ---- the fields of the subobject at an offset: the top bit and the type, the length byte, the area length of type 7

abbrev pub top_at : List ℕ → ℕ → Bool
top_at s at = leb 128 (get_or s at 0)

abbrev pub type_at : List ℕ → ℕ → ℕ
type_at s at = get_or s at 0 % 128

abbrev pub length_at : List ℕ → ℕ → ℕ
length_at s at = get_or s (at + 1) 0

abbrev pub area_length_at : List ℕ → ℕ → ℕ
area_length_at s at = get_or s (at + 2) 0

-- L must be 0 in an include list; X may be anything
abbrev pub top_wrong : ListKind → Bool → Bool
top_wrong Include top = top
top_wrong Exclude top = false

-- type 1: in an include list the prefix length is 32; in an exclude list it is at most 32, and the attribute is 1
abbrev pub prefix_wrong : ListKind → List ℕ → ℕ → Bool
prefix_wrong Include s at = not (eqb (get_or s (at + 6) 0) 32)
prefix_wrong Exclude s at = ltb 32 (get_or s (at + 6) 0) || not (eqb (get_or s (at + 7) 0) 1)

-- type 7: the padding after the area is zero
abbrev pub padding_wrong : List ℕ → ℕ → Bool
padding_wrong s at = not (all_zero (part s (at + 4 + area_length_at s at) (length_at s at - (4 + area_length_at s at))))

-- a field out of range, or padding that isn't zero: the last check of a subobject's form. Types 5 and 32 name no AS that is nobody's (document 02, request [6])
unfoldable pub field_wrong : ListKind → List ℕ → ℕ → Bool
field_wrong k s at =
    let t = type_at s at in
    (eqb t 1 && prefix_wrong k s at)
    || (eqb t 7 && padding_wrong s at)
    || (eqb t 5 && nobodys (number 4 s (at + 4)))
    || (eqb t 32 && nobodys (number 2 s (at + 2)))

-- the form of the subobject at an offset, in document 01's order within a subobject, but for what an EXRS carries; what holds it ends at `end`
unfoldable pub plain_verdict : ListKind → List ℕ → ℕ → ℕ → Verdict
plain_verdict k s end at =
    let t = type_at s at in
    refuse_if (ltb end (at + 4)) 23 at
    and_then refuse_if (not (known k t)) 24 at
    and_then refuse_if (top_wrong k (top_at s at)) 27 at
    and_then refuse_if (eqb t 7 && not (leb 1 (area_length_at s at) && leb (area_length_at s at) 13)) 26 at
    and_then refuse_if (not (length_fits k t (area_length_at s at) (length_at s at))) 25 at
    and_then refuse_if (ltb end (at + length_at s at)) 23 at
    and_then refuse_if (field_wrong k s at) 26 at

abbrev pub after_subobject : List ℕ → ℕ → ℕ
after_subobject s at = at + length_at s at

-- What an EXRS carries, behind its four bytes, of which the last two aren't looked at: with nothing inside 26, then the subobjects up to its end, each as in an
-- exclude list, at its offset in the whole list (document 02, request [5])
unfoldable pub carried_verdict : List ℕ → ℕ → Verdict
carried_verdict s at =
    let end = after_subobject s at in
    refuse_if (eqb (length_at s at) 4) 26 at and_then checked_from (plain_verdict Exclude s end) (after_subobject s) end (at + 4)

abbrev pub carried_if : Bool → List ℕ → ℕ → Verdict
carried_if true s at = carried_verdict s at
carried_if false s at = Pass

-- the whole form of the subobject at an offset; only an include list knows EXRS
unfoldable pub subobject_verdict : ListKind → List ℕ → ℕ → ℕ → Verdict
subobject_verdict Exclude s end at = plain_verdict Exclude s end at
subobject_verdict Include s end at = plain_verdict Include s end at and_then carried_if (eqb (type_at s at) 33) s at

-- what the subobject at an offset names, where its form is right
unfoldable pub named_at : List ℕ → ℕ → Named
named_at s at =
    let t = type_at s at in
    cond (eqb t 1) (prefix (number 4 s (at + 2)) (get_or s (at + 6) 0))
    (cond (eqb t 5) (system (number 4 s (at + 4)))
    (cond (eqb t 6) (area (record { kind = 1; bytes = part s (at + 4) 4 }))
    (cond (eqb t 7) (area (record { kind = 2; bytes = part s (at + 4) (area_length_at s at) }))
    (cond (eqb t 33) (stretch (part s at (length_at s at)))
    (system (number 2 s (at + 2)))))))

abbrev pub subobject_at : List ℕ → ℕ → Subobject
subobject_at s at = record { offset = at; top = top_at s at; names = named_at s at }

-- ---- one subobject after the other, from an offset up to an end

abbrev pub form_from : ListKind → List ℕ → ℕ → ℕ → Verdict
form_from k s end at = checked_from (subobject_verdict k s end) (after_subobject s) end at

-- where their form is right
abbrev pub subobjects_from : List ℕ → ℕ → ℕ → List Subobject
subobjects_from s end at = map (subobject_at s) (places_from (after_subobject s) end at)

-- a whole list
unfoldable pub form_verdict : ListKind → List ℕ → Verdict
form_verdict k s = form_from k s (length s) 0

unfoldable pub subobjects : List ℕ → List Subobject
subobjects s = subobjects_from s (length s) 0

-- ---- the exclusions that EXRS carry, as in an exclude list

abbrev pub inside_of : Named → List Subobject
inside_of (prefix a n) = []
inside_of (system n) = []
inside_of (area a) = []
inside_of (stretch bytes) = subobjects (drop 4 bytes)

-- of several, given by their bytes back to back
unfoldable pub carried : List ℕ → List Subobject
carried exrs = each (λ (s : Subobject). inside_of s.names) (subobjects exrs)
