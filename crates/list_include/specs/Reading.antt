-- What the code's state of a reading stands for, over the definitions of `model`.
use Rattle.std.specs.Prelude.{◌≡◌, List, [], ◌∷◌, ◌++◌, ℕ, ◌-◌, ◌≤◌, ◌<◌, length, Option, Some, None, Result, Ok, Err}
use Rattle.model.specs.Verdict.{Verdict, Pass}
use Rattle.model.specs.declared.NodeAddress.{NodeAddress}
use Rattle.model.specs.declared.Refusal.{Refusal}
use Rattle.model.specs.declared.ListKind.TheVariants.{Include}
use Rattle.model.specs.Subobject.{Subobject, subobject_verdict}
use Rattle.model.specs.Sequence as M
use Rattle.laws.specs.Exrs.{waiting_in, Stretch}
use Rattle.laws.specs.Stops.{pin_as, domain_in, named_in, stretch_start, stop_in, stops_of}
use Rattle.list_subobject.specs.declared.item.Item.{Item}
use Rattle.list_subobject.specs.Items.{named_of, ItemAt}
use Rattle.list_include.specs.declared.named_domains.NamedDomain.{NamedDomain}
use Rattle.list_include.specs.declared.state.State.{State}

-- the subobject that the code has of a list
abbrev pub subobject_of : List ℕ → Item → Subobject
subobject_of s it = record { offset = it.offset; top = it.top; names = named_of s it.named }

-- it is the one at its offset, which has right form
pub record ItemHere (s : List ℕ) (it : Item) : Type 0 where
  pub right : subobject_verdict Include s (length s) it.offset ≡ Pass
  pub there : ItemAt s it.offset it

-- what is told of what waits if it is left over: the first of it
abbrev pub left_by : List M.Waiting → Option Refusal
left_by [] = None
left_by (w ∷ more) = Some (record { number = M.left_over w.what; place = w.offset })

-- with one more behind it
abbrev pub left_or : Option Refusal → ℕ → ℕ → Option Refusal
left_or None number at = Some (record { number = number; place = at })
left_or (Some first) number at = Some first

-- what a state holds stands in a list: a domain i of the sequence with its entry constraint and its EXRS, and the whole sequence
abbrev pub state_stop : List ℕ → State → ℕ → M.Stop
state_stop list st = stop_in list st.stops

abbrev pub state_stops : List ℕ → State → List M.Stop
state_stops list st = stops_of list st.count st.stops

-- where the subobject stands that named the domain one is in; what stands behind it may wait
abbrev pub since : State → ℕ
since st = named_in st.stops (st.count - 1)

-- what waits where the reading has come to an offset
abbrev pub state_waits : List ℕ → ℕ → State → List M.Waiting
state_waits list at st = waiting_in list (since st) at

-- the domain one is in is the last of the sequence
abbrev pub state_of : List ℕ → ℕ → State → M.State
state_of list at st =
    record {
      asn = st.asn;
      here = domain_in st.stops (st.count - 1);
      sequence = state_stops list st;
      waiting = state_waits list at st;
    }

-- 1 to 16 domains, in an array of 16
pub record SoundState (st : State) : Type 0 where
  pub some_domain_lem : 1 ≤ st.count
  pub most : st.count ≤ 16
  pub stops-long : length st.stops ≡ 16

-- the part of the list before each of its domains is a stretch of whole subobjects
abbrev pub Placed : List ℕ → State → Type 0
Placed list st = (i : ℕ) → i < st.count → Stretch list (stretch_start st.stops i) (named_in st.stops i)

-- so is the part behind the last of them, up to where the reading has come to; and what the state says of what waits is what waits there
pub record Standing (list : List ℕ) (at : ℕ) (st : State) : Type 0 where
  pub placed : Placed list st
  pub behind : Stretch list (since st) at
  pub pin_is : pin_as st.node ≡ M.pin_of (state_waits list at st)
  pub left_is : st.waiting ≡ left_by (state_waits list at st)

-- a sound state that stands for this one where the reading has come to an offset
pub record StateIs (list : List ℕ) (at : ℕ) (st : State) (m : M.State) : Type 0 where
  pub means : state_of list at st ≡ m
  pub sound : SoundState st
  pub standing : Standing list at st

-- the reading goes past a subobject with which this much more waits
pub record Past (list : List ℕ) (at next : ℕ) (new : List M.Waiting) (st : State) : Type 0 where
  pub behind : Stretch list (since st) next
  pub waits : state_waits list next st ≡ state_waits list at st ++ new

-- a state with other things waiting
abbrev pub with_waiting : State → Option NodeAddress → Option Refusal → State
with_waiting st node waiting =
    record {
      asn = st.asn;
      count = st.count;
      stops = st.stops;
      node = node;
      waiting = waiting;
    }

-- what is read of a result, or its refusal
abbrev pub read_of : {S A : Type 0} → (S → A) → Result S Refusal → M.Reading A
read_of read (Ok s) = M.good (read s)
read_of read (Err x) = M.refused x

-- that is this reading; and the state is a sound one of which something holds
pub record ReadAs {A : Type 0} (Holds : State → Type 0) (read : State → A) (r : Result State Refusal) (m : M.Reading A) : Type 0 where
  pub means : read_of read r ≡ m
  pub sound : (st : State) → r ≡ Ok st → SoundState st × Holds st

-- what a step leaves behind: its refusal, or the state that it made
abbrev pub stepped : Verdict → State → Result State Refusal
stepped (Ok _) st = Ok st
stepped (Err x) st = Err x

-- a step: refused, or a state that stands for the next one where the reading has come to an offset
abbrev pub ReadStepIs : List ℕ → ℕ → Result State Refusal → M.Reading M.State → Type 0
ReadStepIs list at = ReadAs (Standing list at) (state_of list at)

-- what naming a domain does, by what was found
abbrev pub name_found : ℕ → M.State → NamedDomain → M.Reading M.State
name_found at st NamedDomain.Nothing = M.refuse 28 at
name_found at st (NamedDomain.One d) = M.enter at st d.0
name_found at st NamedDomain.Several = M.refuse 29 at

-- the meaning of a list: refused, or a state whose sequence it is
abbrev pub MeaningIs : List ℕ → Result State Refusal → M.Reading (List M.Stop) → Type 0
MeaningIs list = ReadAs (Placed list) (state_stops list)
