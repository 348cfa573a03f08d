-- The request that a PCReq stands for where no METRIC is out of range.
use Prim.Native.Nat.{ℕ}
use mathlib.Core.Bool.{not}
use mathlib.Core.List.{List}
use lib.Dec.{eqb}
use Rattle.model.specs.declared.Limits.{Limits}
use Rattle.model.specs.Request.{Request, limits_of_bits}
use Rattle.pcep_model.specs.Metrics.{value_at, bound_metric}
use Rattle.pcep_model.specs.Pcreq.{source_of, destination_of, bits_at, bandwidth_of, include_extent, exclude_extent, list_in}

abbrev pub given_limits : List ℕ → Limits
given_limits s = limits_of_bits (bandwidth_of s) (not (eqb (bound_metric s) 0)) (bits_at (bound_metric s) (value_at s (bound_metric s)))

abbrev pub given_request : List ℕ → ℕ → List ℕ → Request
given_request profile ingress s =
    record {
      profile = profile;
      ingress = ingress;
      source = source_of s;
      destination = destination_of s;
      include = list_in s (include_extent s);
      exclude = list_in s (exclude_extent s);
      limits = given_limits s;
    }
