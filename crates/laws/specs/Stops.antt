-- A sequence of domains with their entry constraints and EXRS, as code holds it: a count, and an array of stops, each with the offset of the subobject of an include
-- list that named its domain. The EXRS of a domain stand between the subobject that named the one before and its own.
use Rattle.std.specs.Prelude.{List, map, ℕ, zero, suc, get_or, Option, None, Some}
use Rattle.std.proofs.Math.Option as Math
use Rattle.model.specs.declared.NodeAddress.{NodeAddress}
use Rattle.model.specs.declared.NamedStop.{NamedStop}
use Rattle.model.specs.Lists.{count_from}
use Rattle.model.specs.Sequence.{Stop, stop}
use Rattle.laws.specs.Exrs.{exrs_in}

-- the entry constraint that a node makes
abbrev pub pin_as : Option NodeAddress → Math.Option ℕ
pin_as None = Math.none
pin_as (Some node) = Math.some node.0

-- stop i of the sequence, its domain, and where it is named
abbrev pub stop_at : List NamedStop → ℕ → NamedStop
stop_at ss i = get_or ss i (record { domain = record { 0 = 0 }; pin = None; named = 0 })

abbrev pub domain_in : List NamedStop → ℕ → ℕ
domain_in ss i = (stop_at ss i).domain.0

abbrev pub named_in : List NamedStop → ℕ → ℕ
named_in ss i = (stop_at ss i).named

-- where in the list the EXRS of domain i start to stand
abbrev pub stretch_start : List NamedStop → ℕ → ℕ
stretch_start ss zero = 0
stretch_start ss (suc i) = named_in ss i

-- domain i of the sequence with its entry constraint, if it has one, and its EXRS
abbrev pub stop_in : List ℕ → List NamedStop → ℕ → Stop
stop_in list ss i = stop (domain_in ss i) (pin_as (stop_at ss i).pin) (exrs_in list (stretch_start ss i) (named_in ss i))

-- the first `count` of them
unfoldable pub stops_of : List ℕ → ℕ → List NamedStop → List Stop
stops_of list count ss = map (stop_in list ss) (count_from 0 count)
