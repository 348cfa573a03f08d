-- What the C exports that lend buffers answer, store and leave in them, over `Calls` of `model`.
use Rattle.std.specs.Prelude.{◌≡◌, List, map, ℕ, length}
use Rattle.pcep_model.specs.Pcreq.{read_pcreq}
use Rattle.pcep_metrics.specs.Along.{kind_of, flags_of, value_of}
use Rattle.buffers.specs.Capacity.{least3}
use Rattle.pcep_reply_reader.specs.Reading.{reading}
use Rattle.model.specs.Lists.{over}
use Rattle.model.specs.Sequence.{Stop}
use Rattle.model.specs.Request.{Request}
use Rattle.model.specs.declared.TreeEntry.{TreeEntry}
use Rattle.model.specs.Calls.{Outcome, all_exrs, pin_mark, pin_node}
use Rattle.tree_fields.specs.Fields.{level, address, mark, cost}
use Rattle.path_series.specs.Calls.{malformed}
use Rattle.path_series.specs.Runs.{number_of_series, answer_if, LeftIf}

-- the number returned, the other numbers stored, and each buffer with its part of the sequence at its start
pub record ReadExport (o : Outcome Stop) (domains marks nodes counts exrs : List ℕ) (r : ℕ) (numbers domains' marks' nodes' counts' exrs' : List ℕ) : Type 0 where
  pub answer : r ≡ o.numbers.answer
  pub others : numbers ≡ o.numbers.others
  pub in_domains : domains' ≡ over (map (λ (p : Stop). p.domain) o.written) domains
  pub in_marks : marks' ≡ over (map (λ (p : Stop). pin_mark p.pin) o.written) marks
  pub in_nodes : nodes' ≡ over (map (λ (p : Stop). pin_node p.pin) o.written) nodes
  pub in_counts : counts' ≡ over (map (λ (p : Stop). length p.exrs) o.written) counts
  pub in_exrs : exrs' ≡ over (all_exrs o.written) exrs

-- the number returned, the other numbers stored, and what is written at the start of the buffer
pub record WriteExport (o : Outcome ℕ) (out : List ℕ) (r : ℕ) (numbers out' : List ℕ) : Type 0 where
  pub answer : r ≡ o.numbers.answer
  pub others : numbers ≡ o.numbers.others
  pub in_out : out' ≡ over o.written out

-- the number returned, the other numbers stored, and each buffer with its field of the tree's entries at its start
pub record TreeExport (o : Outcome TreeEntry) (levels addresses marks costs : List ℕ) (r : ℕ) (numbers levels' addresses' marks' costs' : List ℕ) : Type 0 where
  pub answer : r ≡ o.numbers.answer
  pub others : numbers ≡ o.numbers.others
  pub in_levels : levels' ≡ over (map level o.written) levels
  pub in_addresses : addresses' ≡ over (map address o.written) addresses
  pub in_marks : marks' ≡ over (map mark o.written) marks
  pub in_costs : costs' ≡ over (map cost o.written) costs

-- the number returned, the other numbers stored, and the path at the start of its buffer
pub record PathExport (o : Outcome ℕ) (path : List ℕ) (r : ℕ) (numbers path' : List ℕ) : Type 0 where
  pub answer : r ≡ o.numbers.answer
  pub others : numbers ≡ o.numbers.others
  pub in_path : path' ≡ over o.written path

-- the number returned, and every buffer and number of the series: one claim about all its calls
pub record SeriesExport (request : Request) (kinds sizes buffers numbers : List ℕ) (r : ℕ) (buffers' numbers' : List ℕ) : Type 0 where
  pub answer : r ≡ number_of_series (answer_if (malformed kinds sizes (length buffers) (length numbers)))
  pub left : LeftIf (malformed kinds sizes (length buffers) (length numbers)) request kinds sizes buffers numbers buffers' numbers'

-- the number returned, the other numbers stored, and each METRIC buffer with its field at its start
pub record PcreqExport (s kinds flags values : List ℕ) (r : ℕ) (numbers kinds' flags' values' : List ℕ) : Type 0 where
  pub answer : r ≡ (read_pcreq s (least3 kinds flags values)).numbers.answer
  pub others : numbers ≡ (read_pcreq s (least3 kinds flags values)).numbers.others
  pub in_kinds : kinds' ≡ over (map kind_of (read_pcreq s (least3 kinds flags values)).written) kinds
  pub in_flags : flags' ≡ over (map flags_of (read_pcreq s (least3 kinds flags values)).written) flags
  pub in_values : values' ≡ over (map value_of (read_pcreq s (least3 kinds flags values)).written) values

-- and the addresses at the start of theirs
pub record PcrepExport (s addresses kinds flags values : List ℕ) (r : ℕ) (numbers addresses' kinds' flags' values' : List ℕ) : Type 0 where
  pub answer : r ≡ (reading s addresses kinds flags values).numbers.answer
  pub others : numbers ≡ (reading s addresses kinds flags values).numbers.others
  pub in_addresses : addresses' ≡ over (reading s addresses kinds flags values).addresses addresses
  pub in_kinds : kinds' ≡ over (map kind_of (reading s addresses kinds flags values).metrics) kinds
  pub in_flags : flags' ≡ over (map flags_of (reading s addresses kinds flags values).metrics) flags
  pub in_values : values' ≡ over (map value_of (reading s addresses kinds flags values).metrics) values
