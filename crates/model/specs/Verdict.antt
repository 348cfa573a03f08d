-- What a check says, and checks one after the other: document 01, "Numbers the calculator gives". The first refusal is the answer.
use Rattle.std.specs.Prelude.{ℕ, zero, suc, Bool, true, false, Result, Ok, Err}
use Rattle.model.specs.declared.Refusal.{Refusal}
use Rattle.model.specs.declared.Reason.{Reason}
use Rattle.model.specs.declared.Reason.TheVariants as Reason

-- the input passes a check, or is refused
abbrev pub Verdict : Type 0
Verdict = Result (Unit {0}) Refusal

abbrev pub Pass : Verdict
Pass = Ok tt

-- the number by which a call refuses for a reason
abbrev pub number_of : Reason → ℕ
number_of Reason.ShortProfile = 10
number_of Reason.WrongHeader = 11
number_of Reason.WrongCounts = 12
number_of Reason.WrongLength = 13
number_of Reason.MalformedDomain = 14
number_of Reason.MisorderedDomain = 15
number_of Reason.Misplaced = 16
number_of Reason.MalformedHop = 17
number_of Reason.MisorderedHop = 18
number_of Reason.CrowdedPair = 19
number_of Reason.UnknownIngress = 20
number_of Reason.FloatOutOfRange = 21
number_of Reason.LongList = 22
number_of Reason.CutOff = 23
number_of Reason.UnknownType = 24
number_of Reason.SubobjectLength = 25
number_of Reason.WrongField = 26
number_of Reason.LooseBit = 27
number_of Reason.UnknownDomain = 28
number_of Reason.SeveralDomains = 29
number_of Reason.DomainAgain = 30
number_of Reason.TooManyDomains = 31
number_of Reason.EntryConstraintLeft = 32
number_of Reason.GivenLength = 33
number_of Reason.LittleRoom = 34
number_of Reason.Unwritable = 35
number_of Reason.WrongMessageHeader = 36
number_of Reason.WrongObject = 37
number_of Reason.UnknownObject = 38
number_of Reason.NoRequestParameters = 39
number_of Reason.NoEndPoints = 40
number_of Reason.NoRoute = 41
number_of Reason.ExrsLeft = 42

-- refused by this number at this place, where the test holds
abbrev pub refuse_if : Bool → ℕ → ℕ → Verdict
refuse_if true n p = Err (record { number = n; place = p })
refuse_if false n p = Pass

infixl 20 ◌and_then◌
-- the first check, and the second only where the first passes
abbrev pub ◌and_then◌ : Verdict → Verdict → Verdict
Ok _ and_then v = v
Err r and_then v = Err r

-- a check of each of n records in turn, from record i on
unfoldable pub in_turn : (ℕ → Verdict) → ℕ → ℕ → Verdict
in_turn check i zero = Pass
in_turn check i (suc n) = check i and_then in_turn check (suc i) n

abbrev pub passes : Verdict → Bool
passes (Ok _) = true
passes (Err r) = false
