-- What the walks along a message's METRICs ask for and answer, over `Metrics` of `pcep_model`.
use Rattle.std.specs.Prelude.{ℕ, ◌≤◌, ◌<◌, ◌≡◌, true, List, length}
use Rattle.pcep_model.specs.declared.MessageKind.{MessageKind}
use Rattle.pcep_model.specs.Objects.{METRIC, is_object, objects_verdict}
use Rattle.pcep_model.specs.Metrics.{Metric, metrics, wrong_metric, bound_metric}
use Rattle.pcep_laws.specs.Firsts.{placed}
use Rattle.pcep_laws.specs.Left.{metrics_left}
use Rattle.pcep_metrics.specs.declared.MetricScan.{MetricScan}
use Rattle.model.specs.Verdict.{Pass}

-- a message of some kind whose objects are right
pub record Passed (s : List ℕ) : Type 0 where
  pub kind : MessageKind
  pub right : objects_verdict kind s 4 ≡ Pass
  pub long : 4 ≤ length s
  pub short : length s ≤ 65535

-- a place of the walk along its objects: what is left is right
pub record AtObject (s : List ℕ) (at : ℕ) : Type 0 where
  pub passed : Passed s
  pub left : objects_verdict passed.kind s at ≡ Pass
  pub inside : at ≤ length s

-- the METRICs that are left from one place on are those from a later one on
pub record NoneBetween (s : List ℕ) (from at : ℕ) : Type 0 where
  pub further : from ≤ at
  pub inside : at ≤ length s
  pub left : (k : MessageKind) → objects_verdict k s from ≡ Pass → objects_verdict k s at ≡ Pass
  pub same : (k : MessageKind) → objects_verdict k s from ≡ Pass → metrics_left s from ≡ metrics_left s at

-- and one stands there, unless it is the end
pub record NextMetric (s : List ℕ) (from r : ℕ) : Type 0 where
  pub none_between : NoneBetween s from r
  pub metric : r < length s → is_object METRIC s r ≡ true

pub record MetricScanIs (s : List ℕ) (r : MetricScan) : Type 0 where
  pub count : r.count ≡ length (metrics s)
  pub bound : r.bound ≡ placed (bound_metric s)
  pub wrong : r.wrong ≡ placed (wrong_metric s)
  pub most : r.count ≤ 65535

-- the fields of a METRIC
abbrev pub kind_of : Metric → ℕ
kind_of m = m.kind

abbrev pub flags_of : Metric → ℕ
flags_of m = m.flags

abbrev pub value_of : Metric → ℕ
value_of m = m.value
