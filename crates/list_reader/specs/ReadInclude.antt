-- What `read_include` answers and leaves in the lent buffers, over `Calls` of `model`.
use Rattle.std.specs.Prelude.{◌≡◌, List, map, ℕ, ◌-◌, ◌≤◌, length, Result}
use Rattle.model.specs.declared.ListKind.TheVariants.{Include}
use Rattle.model.specs.declared.ReadCounts.{ReadCounts}
use Rattle.model.specs.declared.Refusal.{Refusal}
use Rattle.model.specs.Lists.{over}
use Rattle.model.specs.Verdict.{Verdict, ◌and_then◌}
use Rattle.model.specs.Profile.{verdict_on}
use Rattle.model.specs.Bytes.{part}
use Rattle.model.specs.Subobject.{form_verdict, named_at}
use Rattle.model.specs.Sequence.{Stop}
use Rattle.model.specs.Request.{ingress_verdict, size_verdict}
use Rattle.model.specs.Answers.{numbers_of_read}
use Rattle.model.specs.Calls.{Outcome, all_exrs, read_include, pin_mark, pin_node}
use Rattle.laws.specs.Exrs.{bytes_named}
use Rattle.buffers.specs.Capacity.{least4}

-- the checks of `reading_of` before the meaning of the list
abbrev pub read_verdict : List ℕ → ℕ → List ℕ → Verdict
read_verdict profile ingress list =
    verdict_on profile
    and_then ingress_verdict profile ingress
    and_then size_verdict list 0
    and_then form_verdict Include list

-- of the bytes from an offset up to the next, the first r are those of the EXRS that stands there, none where none does
pub record ExrsAt (list : List ℕ) (at next r : ℕ) : Type 0 where
  pub inside : r ≤ next - at
  pub those : part list at r ≡ bytes_named (named_at list at)

-- each buffer has its part of a sequence at its start and its own rest after it: domains and entry constraints
pub record SequenceIn (sequence : List Stop) (domains marks nodes domains' marks' nodes' : List ℕ) : Type 0 where
  pub in_domains : domains' ≡ over (map (λ (p : Stop). p.domain) sequence) domains
  pub in_marks : marks' ≡ over (map (λ (p : Stop). pin_mark p.pin) sequence) marks
  pub in_nodes : nodes' ≡ over (map (λ (p : Stop). pin_node p.pin) sequence) nodes

-- how many bytes of EXRS each domain has, and the bytes themselves
pub record ExrsIn (sequence : List Stop) (counts exrs counts' exrs' : List ℕ) : Type 0 where
  pub in_counts : counts' ≡ over (map (λ (p : Stop). length p.exrs) sequence) counts
  pub in_exrs : exrs' ≡ over (all_exrs sequence) exrs

-- the numbers are those of an outcome, and the buffers have the parts of what it writes
pub record ReadIn (o : Outcome Stop) (domains marks nodes counts exrs : List ℕ) (r : Result ReadCounts Refusal) (domains' marks' nodes' counts' exrs' : List ℕ) : Type 0 where
  pub numbers : numbers_of_read r ≡ o.numbers
  pub in_domains : domains' ≡ over (map (λ (p : Stop). p.domain) o.written) domains
  pub in_marks : marks' ≡ over (map (λ (p : Stop). pin_mark p.pin) o.written) marks
  pub in_nodes : nodes' ≡ over (map (λ (p : Stop). pin_node p.pin) o.written) nodes
  pub in_counts : counts' ≡ over (map (λ (p : Stop). length p.exrs) o.written) counts
  pub in_exrs : exrs' ≡ over (all_exrs o.written) exrs

-- that of the call
abbrev pub ReadIs : List ℕ → ℕ → List ℕ → List ℕ → List ℕ → List ℕ → List ℕ → List ℕ → Result ReadCounts Refusal → List ℕ → List ℕ → List ℕ → List ℕ → List ℕ → Type 0
ReadIs profile ingress list domains marks nodes counts exrs =
    ReadIn (read_include profile ingress list (least4 domains marks nodes counts) (length exrs)) domains marks nodes counts exrs
