-- The common header of a PCEP message, and its objects in turn: document 02's request [3], numbers 36 to 41, over the layouts of RFC 5440 and RFC 5521.
use Rattle.std.specs.Prelude.{ℕ, ◌+◌, ◌/◌, ◌%◌, Bool, true, false, not, ◌&&◌, ◌||◌, List, [], ◌∷◌, length, get_or, eqb, leb, ltb}
use Rattle.model.specs.Lists.{all, any}
use Rattle.model.specs.Bytes.{number}
use Rattle.model.specs.Verdict.{Verdict, refuse_if, ◌and_then◌}
use Rattle.model.specs.Along.{checked_from, places_from, first_of}
use Rattle.pcep_model.specs.declared.MessageKind.{MessageKind}
use Rattle.pcep_model.specs.declared.MessageKind.TheVariants.{Pcreq, Pcrep}

-- ---- the known objects: class, type, the least length with the object's header, whether TLVs or subobjects can make it longer, and the messages that it
-- is known in

pub record ObjectRule : Type 0 where
  pub class : ℕ
  pub type : ℕ
  pub least : ℕ
  pub longer : Bool
  pub in_pcreq : Bool
  pub in_pcrep : Bool

-- their classes
abbrev pub RP : ℕ
RP = 2

abbrev pub NO-PATH : ℕ
NO-PATH = 3

abbrev pub END-POINTS : ℕ
END-POINTS = 4

abbrev pub BANDWIDTH : ℕ
BANDWIDTH = 5

abbrev pub METRIC : ℕ
METRIC = 6

abbrev pub ERO : ℕ
ERO = 7

abbrev pub IRO : ℕ
IRO = 10

abbrev pub XRO : ℕ
XRO = 17

abbrev pub object_rules : List ObjectRule
object_rules =
    record { class = RP; type = 1; least = 12; longer = true; in_pcreq = true; in_pcrep = true }
    ∷ record { class = NO-PATH; type = 1; least = 8; longer = true; in_pcreq = false; in_pcrep = true }
    ∷ record { class = END-POINTS; type = 1; least = 12; longer = false; in_pcreq = true; in_pcrep = false }
    ∷ record { class = BANDWIDTH; type = 1; least = 8; longer = false; in_pcreq = true; in_pcrep = false }
    ∷ record { class = METRIC; type = 1; least = 12; longer = false; in_pcreq = true; in_pcrep = true }
    ∷ record { class = ERO; type = 1; least = 4; longer = true; in_pcreq = false; in_pcrep = true }
    ∷ record { class = IRO; type = 1; least = 4; longer = true; in_pcreq = true; in_pcrep = false }
    ∷ record { class = XRO; type = 1; least = 8; longer = true; in_pcreq = true; in_pcrep = false }
    ∷ []

abbrev pub in_message : MessageKind → ObjectRule → Bool
in_message Pcreq r = r.in_pcreq
in_message Pcrep r = r.in_pcrep

-- the row is that of an object of this class and type in this message
abbrev pub is_row : MessageKind → ℕ → ℕ → ObjectRule → Bool
is_row k c t r = in_message k r && (eqb c r.class && eqb t r.type)

-- an object of this class and type is known in the message
unfoldable pub known_object : MessageKind → ℕ → ℕ → Bool
known_object k c t = any (is_row k c t) object_rules

-- n is a length that such an object can have, if it is known
unfoldable pub own_length : MessageKind → ℕ → ℕ → ℕ → Bool
own_length k c t n = all (λ (r : ObjectRule). not (is_row k c t r) || (leb r.least n && (r.longer || eqb n r.least))) object_rules

-- ---- the header of the object at an offset: class, type, P, and the length of the whole object. Reserved bits and I aren't looked at

abbrev pub class_at : List ℕ → ℕ → ℕ
class_at s at = get_or s at 0

abbrev pub type_at : List ℕ → ℕ → ℕ
type_at s at = get_or s (at + 1) 0 / 16

abbrev pub demanded_at : List ℕ → ℕ → Bool
demanded_at s at = eqb (get_or s (at + 1) 0 / 2 % 2) 1

abbrev pub size_at : List ℕ → ℕ → ℕ
size_at s at = number 2 s (at + 2)

-- under 4, not a multiple of 4, past the end, or not a known object's own
abbrev pub size_wrong : MessageKind → List ℕ → ℕ → Bool
size_wrong k s at =
    let n = size_at s at in
    ltb n 4 || (not (eqb (n % 4) 0) || (ltb (length s) (at + n) || not (own_length k (class_at s at) (type_at s at) n)))

-- 37 before 38; any other class or type is refused where P is set, and skipped where it is clear
unfoldable pub object_verdict : MessageKind → List ℕ → ℕ → Verdict
object_verdict k s at =
    refuse_if (ltb (length s) (at + 4)) 37 at
    and_then refuse_if (size_wrong k s at) 37 at
    and_then refuse_if (demanded_at s at && not (known_object k (class_at s at) (type_at s at))) 38 at

-- ---- objects in turn, from an offset to the end: 4 in a message, behind the common header

abbrev pub after_object : List ℕ → ℕ → ℕ
after_object s at = at + size_at s at

abbrev pub objects_verdict : MessageKind → List ℕ → ℕ → Verdict
objects_verdict k s at = checked_from (object_verdict k s) (after_object s) (length s) at

abbrev pub objects_in : List ℕ → ℕ → List ℕ
objects_in s at = places_from (after_object s) (length s) at

-- the object there is of this class, which the table knows with type 1
abbrev pub is_object : ℕ → List ℕ → ℕ → Bool
is_object c s at = eqb (class_at s at) c && eqb (type_at s at) 1

-- Where the first object of a class starts in a message, 0 where there is none (the header stands there): of an object met twice the first counts.
unfoldable pub first_object : ℕ → List ℕ → ℕ
first_object c s = first_of (is_object c s) (objects_in s 4)

-- ---- a whole message

abbrev pub type_number : MessageKind → ℕ
type_number Pcreq = 3
type_number Pcrep = 4

-- short, or wrong in version, type or length; flags aren't looked at
abbrev pub header_wrong : MessageKind → List ℕ → Bool
header_wrong k s =
    ltb (length s) 4
    || (not (eqb (get_or s 0 0 / 32) 1)
    || (not (eqb (get_or s 1 0) (type_number k))
    || (not (eqb (number 2 s 2) (length s))
    || not (eqb (length s % 4) 0))))

-- no END-POINTS in a PCReq; neither ERO nor NO-PATH in a PCRep; by where the first object of each class starts
abbrev pub body_lacks : MessageKind → (ℕ → ℕ) → Verdict
body_lacks Pcreq first = refuse_if (eqb (first END-POINTS) 0) 40 0
body_lacks Pcrep first = refuse_if (eqb (first ERO) 0 && eqb (first NO-PATH) 0) 41 0

abbrev pub body_verdict : MessageKind → List ℕ → Verdict
body_verdict k s = body_lacks k (λ (c : ℕ). first_object c s)

-- 36, the objects in turn, 39, then 40 or 41: all of it before 10
unfoldable pub message_verdict : MessageKind → List ℕ → Verdict
message_verdict k s =
    refuse_if (header_wrong k s) 36 0
    and_then objects_verdict k s 4
    and_then refuse_if (eqb (first_object RP s) 0) 39 0
    and_then body_verdict k s
