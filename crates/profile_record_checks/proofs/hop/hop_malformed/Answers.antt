-- `profile_record_checks::hop::hop_malformed` meets its contract: the two domains are the parts of a word, and the tests are the definition's.
use Rattle.model.specs.Profile.{hop_at, hop_malformed}
use Rattle.laws.proofs.BigEndian.{Bytes}
use Rattle.profile_records.proofs.Fields.{high_field, low_field}
use Prim.Native.Nat.{ℕ}
use Rattle.profile_record_checks.proofs.hop.hop_malformed.Goals as goal

pub returns : goal.returns
unfolding hop_malformed hop_at
returns c =
    let reads = c in
    let starts = c in
    let known = c in
    let s = c.args.s.now in
    let at = c.hop_start-at.result in
    let bytes : Bytes s = λ (k : ℕ). (c.type_inv.s k).fits in
    rw (c.u32_at-bits.ensures, c.u32_at-other.ensures, c.u32_at-cost.ensures, c.u32_at-pair.ensures, high_field 2 2 s at bytes, low_field 2 2 s at bytes, c.hop_start-at.ensures, c.domain_count-domains.ensures)
