-- The list that is written for a sequence, and when a sequence can be written: document 01, "Written list", and its number 35, and document 02, request [5].
use Rattle.std.specs.Prelude.{ℕ, zero, suc, ◌+◌, ◌-◌, Bool, true, false, not, ◌&&◌, ◌||◌, List, [], ◌∷◌, ◌++◌, length, take, drop, replicate, eqb, leb, ltb}
use Rattle.std.proofs.Math.Option.{Option, none, some}
use Rattle.model.specs.declared.Domain.{Domain}
use Rattle.model.specs.declared.ListKind.TheVariants.{Include}
use Rattle.model.specs.Lists.{all, any, all_different, sum}
use Rattle.model.specs.Verdict.{passes}
use Rattle.model.specs.Bytes.{bytes_of}
use Rattle.model.specs.Subobject.{Named, prefix, system, area, stretch, Subobject, rounded_up, form_verdict, subobjects}
use Rattle.model.specs.Sequence.{Stop, stop, domain_of}

-- ---- the subobjects that are written; top bits and ignored bytes are 0, but EXRS are written as they are given

-- type 1, prefix length 32, for an entry constraint
abbrev pub written_pin : Option ℕ → List ℕ
written_pin none = []
written_pin (some node) = 1 ∷ 8 ∷ bytes_of 4 node ++ (32 ∷ 0 ∷ [])

-- type 5
abbrev pub written_system : ℕ → List ℕ
written_system n = 5 ∷ 8 ∷ 0 ∷ 0 ∷ bytes_of 4 n

-- type 6 or 7 by the domain's area kind, nothing for kind 0
abbrev pub written_area : ℕ → Domain → List ℕ
written_area zero d = []
written_area (suc zero) d = 6 ∷ 8 ∷ 0 ∷ 0 ∷ take d.length d.area
written_area (suc (suc k)) d =
    7 ∷ (4 + rounded_up d.length) ∷ d.length ∷ 0 ∷ take d.length d.area ++ replicate (rounded_up d.length - d.length) 0

-- the AS, if the domain is the first or its AS differs from the one before
abbrev pub system_if : Bool → ℕ → List ℕ
system_if true n = []
system_if false n = written_system n

abbrev pub system_after : Option ℕ → ℕ → List ℕ
system_after none n = written_system n
system_after (some before) n = system_if (eqb n before) n

abbrev pub written_stop : Option ℕ → Option ℕ → List ℕ → Domain → List ℕ
written_stop before pin exrs d = written_pin pin ++ (exrs ++ (system_after before d.asn ++ written_area d.kind d))

-- for each domain in order: its entry constraint, its EXRS, its AS, its area. `before` is the AS of the domain before, if there is one
unfoldable pub written_from : List Domain → Option ℕ → List Stop → List ℕ
written_from ds before [] = []
written_from ds before (p ∷ rest) =
    let d = domain_of ds p.domain in
    written_stop before p.pin p.exrs d ++ written_from ds (some d.asn) rest

unfoldable pub written : List Domain → List Stop → List ℕ
written ds sequence = written_from ds none sequence

-- ---- what a writer refuses by 35

-- the sequence that lent lists stand for: an index, a mark 1 where there is an entry constraint, the node, and how many of the EXRS' bytes are its own
abbrev pub pin_if : ℕ → ℕ → Option ℕ
pin_if zero node = none
pin_if (suc m) node = some node

unfoldable pub stops : List ℕ → List ℕ → List ℕ → List ℕ → List ℕ → List Stop
stops [] marks nodes counts exrs = []
stops (d ∷ ds) [] nodes counts exrs = []
stops (d ∷ ds) (m ∷ ms) [] counts exrs = []
stops (d ∷ ds) (m ∷ ms) (n ∷ ns) [] exrs = []
stops (d ∷ ds) (m ∷ ms) (n ∷ ns) (c ∷ cs) exrs = stop d (pin_if m n) (take c exrs) ∷ stops ds ms ns cs (drop c exrs)

-- the first of some numbers, the mark or the count of the first domain, isn't 0
abbrev pub first_marked : List ℕ → Bool
first_marked [] = false
first_marked (m ∷ ms) = not (eqb m 0)

-- bytes that are whole EXRS of right form, back to back
abbrev pub is_exrs : Named → Bool
is_exrs (prefix a n) = false
is_exrs (system n) = false
is_exrs (area a) = false
is_exrs (stretch bytes) = true

unfoldable pub whole_exrs : List ℕ → Bool
whole_exrs bytes = passes (form_verdict Include bytes) && all (λ (s : Subobject). is_exrs s.names) (subobjects bytes)

-- Lists that belong together fit: one of each for every domain, and counts that come to all the EXRS' bytes
unfoldable pub unfit : List ℕ → List ℕ → List ℕ → List ℕ → List ℕ → Bool
unfit indexes marks nodes counts exrs =
    not (eqb (length marks) (length indexes))
    || not (eqb (length nodes) (length indexes))
    || not (eqb (length counts) (length indexes))
    || not (eqb (sum counts) (length exrs))

-- empty, over 16, lists that don't fit together, bad index, domain twice, a mark over 1, the first pinned or with EXRS, bytes that aren't whole EXRS, a list over
-- 1,024 bytes
unfoldable pub unwritable : List Domain → List ℕ → List ℕ → List ℕ → List ℕ → List ℕ → Bool
unwritable ds indexes marks nodes counts exrs =
    eqb (length indexes) 0
    || ltb 16 (length indexes)
    || unfit indexes marks nodes counts exrs
    || any (λ (d : ℕ). leb (length ds) d) indexes
    || not (all_different indexes)
    || any (λ (m : ℕ). ltb 1 m) marks
    || first_marked marks
    || first_marked counts
    || any (λ (p : Stop). not (whole_exrs p.exrs)) (stops indexes marks nodes counts exrs)
    || ltb 1024 (length (written ds (stops indexes marks nodes counts exrs)))
