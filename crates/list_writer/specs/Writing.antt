-- What the parts of `write_list` promise, over the definitions of `model`.
use Rattle.std.specs.Prelude.{◌≡◌, Bool, true, false, not, ◌||◌, List, [], ◌∷◌, ◌++◌, ℕ, ◌+◌, ◌≤◌, eqb, leb, ltb, length, take, drop, Result}
use Rattle.std.specs.Prelude as Std
use Rattle.std.proofs.Math.Option.{Option, none, some}
use Rattle.model.specs.Verdict.{Pass}
use Rattle.model.specs.declared.Domain.{Domain}
use Rattle.model.specs.declared.Refusal.{Refusal}
use Rattle.model.specs.Lists.{any, all_different, over}
use Rattle.model.specs.Profile.{area_length_fits, domains, verdict_on}
use Rattle.model.specs.WrittenList.{written_pin, system_if, written_area, first_marked, whole_exrs, unfit}
use Rattle.model.specs.Answers.{numbers_of_write}
use Rattle.model.specs.Calls.{write_list}

-- what an accepted domain record holds of its area: a length of its kind, and room for 13 bytes
pub record AreaRight (d : Domain) : Type 0 where
  pub fits : area_length_fits d.kind d.length ≡ true
  pub whole : length d.area ≡ 13

-- the AS of the domain before, which the first has not
abbrev pub before_of : Std.Option ℕ → Option ℕ
before_of Std.None = none
before_of (Std.Some asn) = some asn

-- there is a domain before, and its AS is the same
abbrev pub system_again : Std.Option ℕ → ℕ → Bool
system_again Std.None asn = false
system_again (Std.Some before) asn = eqb asn before

-- the bytes of a domain, and how many of them are there beside its EXRS
abbrev pub stop_bytes : Option ℕ → List ℕ → Bool → Domain → List ℕ
stop_bytes pin exrs again d = written_pin pin ++ (exrs ++ (system_if again d.asn ++ written_area d.kind d))

abbrev pub named_size : Option ℕ → Bool → Domain → ℕ
named_size pin again d = length (written_pin pin) + (length (system_if again d.asn) + length (written_area d.kind d))

-- the bytes are cut into parts by the counts, and one of them isn't whole EXRS
unfoldable pub some_part_broken : List ℕ → List ℕ → Bool
some_part_broken [] exrs = false
some_part_broken (c ∷ cs) exrs = not (whole_exrs (take c exrs)) || some_part_broken cs (drop c exrs)

-- lists that stand for no sequence, by themselves and beside the domain count: what `unwritable` asks first
abbrev pub no_sequence : ℕ → List ℕ → List ℕ → List ℕ → List ℕ → List ℕ → Bool
no_sequence count indexes marks nodes counts exrs =
    eqb (length indexes) 0
    || ltb 16 (length indexes)
    || unfit indexes marks nodes counts exrs
    || any (λ (d : ℕ). leb count d) indexes
    || not (all_different indexes)
    || any (λ (m : ℕ). ltb 1 m) marks
    || first_marked marks
    || first_marked counts

-- at most 16 domains of an accepted profile, by lists that fit together
pub record Fitting (profile indexes marks nodes counts exrs : List ℕ) : Type 0 where
  pub accepted : verdict_on profile ≡ Pass
  pub most : length indexes ≤ 16
  pub fit : unfit indexes marks nodes counts exrs ≡ false
  pub in_profile : any (λ (d : ℕ). leb (length (domains profile)) d) indexes ≡ false

-- the numbers answered and the buffer at exit are those of the definition
pub record WrittenBy (profile indexes marks nodes counts exrs entry exit : List ℕ) (answer : Result ℕ Refusal) : Type 0 where
  pub numbers : numbers_of_write answer ≡ (write_list profile indexes marks nodes counts exrs (length entry)).numbers
  pub buffer : exit ≡ over (write_list profile indexes marks nodes counts exrs (length entry)).written entry
