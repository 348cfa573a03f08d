-- What an include list means: the sequence of domains with their entry constraints and EXRS, or the refusal (28 to 32, 42). Document 01, "Include list", and
-- document 02, request [5]. An entry constraint is document 01's "pin": the node by which a path must enter a domain. An EXRS carries exclusions for one domain.
use Rattle.std.specs.Prelude.{ℕ, Bool, true, false, ◌&&◌, List, [], ◌∷◌, ◌++◌, map, length, get_or, take, eqb, leb}
use Rattle.std.proofs.Math.Option.{Option, none, some}
use Rattle.model.specs.declared.Domain.{Domain}
use Rattle.model.specs.declared.Refusal.{Refusal}
use Rattle.model.specs.Lists.{among, count_from, each, keep, same}
use Rattle.model.specs.Subobject.{Area, Named, prefix, system, area, stretch, Subobject, subobjects}

-- One domain of a sequence, by its index, with its entry constraint if it has one, and its EXRS, whole subobjects back to back. A sequence is the list of these,
-- D0 to Dk.
pub record Stop : Type 0 where
  pub domain : ℕ
  pub pin : Option ℕ
  pub exrs : List ℕ

abbrev pub stop : ℕ → Option ℕ → List ℕ → Stop
stop d pin exrs = record { domain = d; pin = pin; exrs = exrs }

-- what waits for the next new domain: the offset of its subobject, and the node of an entry constraint or the bytes of an EXRS
pub data Waits : Type 0 where
  entry : ℕ → Waits
  exclusions : List ℕ → Waits

pub record Waiting : Type 0 where
  pub offset : ℕ
  pub what : Waits

-- how far the reading is: the current AS, the domain one is in, the sequence so far, and what waits, in the list's order
pub record State : Type 0 where
  pub asn : ℕ
  pub here : ℕ
  pub sequence : List Stop
  pub waiting : List Waiting

-- what an include list is read by, beside the ingress domain
pub record ReadingInput : Type 0 where
  pub domains : List Domain

-- the result of a reading, or the refusal that ends it
pub data Reading (A : Type 0) : Type 0 where
  refused : Refusal → Reading A
  good : A → Reading A

module _ {A B : Type 0} where
  abbrev pub continue : Reading A → (A → Reading B) → Reading B
  continue (refused r) f = refused r
  continue (good a) f = f a

abbrev pub refuse : {A : Type 0} → ℕ → ℕ → Reading A
refuse n p = refused (record { number = n; place = p })

-- ---- the domains that a subobject can mean, by their indexes

abbrev pub no_domain : Domain
no_domain = record { asn = 0; kind = 0; length = 0; area = [] }

-- the domain record of an index
abbrev pub domain_of : List Domain → ℕ → Domain
domain_of ds d = get_or ds d no_domain

-- the area that a domain record holds is the named one
abbrev pub has_area : Area → Domain → Bool
has_area a d = eqb d.kind a.kind && same (take d.length d.area) a.bytes

-- the domains of an AS
unfoldable pub of_system : List Domain → ℕ → List ℕ
of_system ds n = keep (λ (d : ℕ). eqb (domain_of ds d).asn n) (count_from 0 (length ds))

-- the domains of an AS that have this area: in an accepted profile at most one
unfoldable pub of_area : List Domain → ℕ → Area → List ℕ
of_area ds n a = keep (λ (d : ℕ). eqb (domain_of ds d).asn n && has_area a (domain_of ds d)) (count_from 0 (length ds))

-- ---- one subobject after the other

abbrev pub waiting_for : ℕ → Waits → Waiting
waiting_for at what = record { offset = at; what = what }

-- the node that waits pins the domain that is entered
abbrev pub node_or : Waits → Option ℕ → Option ℕ
node_or (entry node) other = some node
node_or (exclusions bytes) other = other

abbrev pub pin_of : List Waiting → Option ℕ
pin_of [] = none
pin_of (w ∷ more) = node_or w.what (pin_of more)

-- the EXRS that wait add up, in their order
abbrev pub bytes_in : Waits → List ℕ
bytes_in (entry node) = []
bytes_in (exclusions bytes) = bytes

unfoldable pub exrs_of : List Waiting → List ℕ
exrs_of waiting = each (λ (w : Waiting). bytes_in w.what) waiting

-- a domain as it is entered, with what waits for it
abbrev pub stop_with : ℕ → List Waiting → Stop
stop_with d waiting = stop d (pin_of waiting) (exrs_of waiting)

-- a new domain at the end of the sequence
abbrev pub added : State → ℕ → State
added st d =
    record {
      asn = st.asn;
      here = d;
      sequence = st.sequence ++ (stop_with d st.waiting ∷ []);
      waiting = [];
    }

-- Naming the domain one is in adds nothing. A domain that comes back is 30; else a seventeenth is 31.
abbrev pub enter_if : Bool → Bool → Bool → ℕ → State → ℕ → Reading State
enter_if true back full at st d = good st
enter_if false true full at st d = refuse 30 at
enter_if false false true at st d = refuse 31 at
enter_if false false false at st d = good (added st d)

abbrev pub domains_of : List Stop → List ℕ
domains_of sequence = map (λ (p : Stop). p.domain) sequence

unfoldable pub enter : ℕ → State → ℕ → Reading State
enter at st d = enter_if (eqb d st.here) (among d (domains_of st.sequence)) (leb 16 (length st.sequence)) at st d

-- no such domain is 28; several, as an AS alone can name, are 29
unfoldable pub name : ℕ → State → List ℕ → Reading State
name at st [] = refuse 28 at
name at st (d ∷ []) = enter at st d
name at st (d ∷ e ∷ rest) = refuse 29 at

abbrev pub with_system : State → ℕ → State
with_system st n = record { asn = n; here = st.here; sequence = st.sequence; waiting = st.waiting }

-- one more waits for the next new domain
abbrev pub waits_too : ℕ → State → Waits → State
waits_too at st what = record { asn = st.asn; here = st.here; sequence = st.sequence; waiting = st.waiting ++ (waiting_for at what ∷ []) }

-- an IPv4 subobject: its node waits; a second while one waits is 32
abbrev pub wait : ℕ → State → ℕ → Option ℕ → Reading State
wait at st node (some other) = refuse 32 at
wait at st node none = good (waits_too at st (entry node))

abbrev pub is_area : Named → Bool
is_area (prefix a n) = false
is_area (system n) = false
is_area (area a) = true
is_area (stretch bytes) = false

-- an area subobject comes next
abbrev pub area_next : List Subobject → Bool
area_next [] = false
area_next (s ∷ rest) = is_area s.names

-- an AS sets the current AS; followed at once by an area it names no domain by itself, otherwise it names the only domain of that AS
abbrev pub read_system : ReadingInput → ℕ → State → ℕ → Bool → Reading State
read_system R at st n true = good (with_system st n)
read_system R at st n false = name at (with_system st n) (of_system R.domains n)

-- an area names the domain of the current AS that has it; an EXRS waits, beside what waits already
abbrev pub read_named : ReadingInput → Subobject → State → Bool → Named → Reading State
read_named R s st next (prefix a n) = wait s.offset st a (pin_of st.waiting)
read_named R s st next (system n) = read_system R s.offset st n next
read_named R s st next (area a) = name s.offset st (of_area R.domains st.asn a)
read_named R s st next (stretch bytes) = good (waits_too s.offset st (exclusions bytes))

unfoldable pub read_one : ReadingInput → State → Subobject → Bool → Reading State
read_one R st s next = read_named R s st next s.names

-- an entry constraint left over at the end is 32, an EXRS 42, at its own offset; of several the first is told
abbrev pub left_over : Waits → ℕ
left_over (entry node) = 32
left_over (exclusions bytes) = 42

abbrev pub finish : State → List Waiting → Reading (List Stop)
finish st [] = good st.sequence
finish st (w ∷ more) = refuse (left_over w.what) w.offset

unfoldable pub read_all : ReadingInput → List Subobject → State → Reading (List Stop)
read_all R [] st = finish st st.waiting
read_all R (s ∷ rest) st = continue (read_one R st s (area_next rest)) (λ (next : State). read_all R rest next)

-- the reading starts in the ingress domain, with its AS as current
abbrev pub start_in : ReadingInput → ℕ → State
start_in R d =
    record {
      asn = (domain_of R.domains d).asn;
      here = d;
      sequence = stop_with d [] ∷ [];
      waiting = [];
    }

unfoldable pub meaning : ReadingInput → ℕ → List ℕ → Reading (List Stop)
meaning R ingress list = read_all R (subobjects list) (start_in R ingress)
