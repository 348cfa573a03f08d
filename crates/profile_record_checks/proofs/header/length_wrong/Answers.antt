-- `profile_record_checks::header::length_wrong` meets its contract: a short record's size times a u16 fits.
use Rattle.model.specs.Profile.{length_wrong}
use Prim.Native.Nat.{◌≤◌}
use native.Mathlib.Nat.{mul-le-mul}
use native.Mathlib.Omega.{arith}
use Rattle.profile_record_checks.proofs.header.length_wrong.Goals as goal

pub overflow_mul-result-2 : goal.overflow_mul-result-2
overflow_mul-result-2 c =
    let few : c.hop_count-hops.result ≤ 65535 = omega arith in
    omega (arith, mul-le-mul c.requires.sound_layout.small few)

pub overflow_add-result-2 : goal.overflow_add-result-2
overflow_add-result-2 c =
    let few : c.hop_count-hops.result ≤ 65535 = omega arith in
    omega (arith, mul-le-mul c.requires.sound_layout.small few)

pub returns : goal.returns
unfolding length_wrong
returns c = rw (c.hop_count-hops.ensures, c.domain_count-domains.ensures)
