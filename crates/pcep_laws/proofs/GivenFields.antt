-- What was given to the writer of a PCRep, as reading gives it back.
use Prim.Native.Nat.{ℕ, ◌%◌}
use mathlib.Core.Bool.{not, cond, ◌&&◌}
use mathlib.Core.List.{List, []}
use lib.ListN.{length}
use Rattle.pcep_model.specs.declared.PcrepFields.{PcrepFields}
use Rattle.pcep_model.specs.Pcrep.{Reply}

-- the addresses of a path alone
abbrev pub given_addresses : Reply → List ℕ
given_addresses r = cond r.found r.addresses []

-- RP's flags without the unassigned ones, a NO-PATH's fields beside no path alone
abbrev pub given_fields : Reply → PcrepFields
given_fields r =
    record {
      id = r.request_id;
      flags = r.rp_flags % 64;
      found = r.found;
      nature = cond r.found 0 r.nature;
      c = not r.found && r.c_flag;
      addresses = length (given_addresses r);
      metrics = length r.metrics;
    }
