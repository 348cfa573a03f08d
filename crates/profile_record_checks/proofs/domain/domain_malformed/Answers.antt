-- `profile_record_checks::domain::domain_malformed` meets its contract: the tests are the definition's.
use Rattle.model.specs.Profile.{domain_start, domain_at, area_length_fits, domain_malformed}
use Rattle.model.specs.Bytes.{all_zero}
use Rattle.model.specs.Reserved.{nobodys}
use lib.ListN.{get_or, drop}
use lib.Dec.{eqb}
use mathlib.Core.Bool.{not}
use mathlib.Core.Path.{◌≡◌}
use native.Mathlib.Omega.{arith}
use Prim.Native.Nat.{◌+◌, ◌-◌}
use Rattle.profile_record_checks.proofs.Areas.{both_fit}
use Rattle.profile_record_checks.proofs.domain.domain_malformed.Goals as goal

pub returns : goal.returns
unfolding domain_malformed domain_at
returns c =
    let reads = c in
    let d = domain_at c.args.s.now c.args.i in
    let start = domain_start c.args.i in
    let thirteen : start + 19 - (start + 6) ≡ 13 = omega arith in
    rw (c.as_nobodys-nobodys.ensures, c.area_fits-fits.ensures, c.domain_at-d.ensures, thirteen)
    (both_fit (area_length_fits d.kind d.length) (all_zero (drop d.length d.area)) (not (eqb (get_or c.args.s.now (domain_start c.args.i + 19) 0) 0)) (nobodys d.asn))
