-- `profile_record_checks::header::header_wrong` meets its contract: the mark is the high part of a word, and the tests are the definition's.
use Rattle.profile_records.proofs.Fields.{high_field}
use Rattle.model.specs.Profile.{header_wrong}
use Prim.Native.Nat.{ℕ}
use Rattle.profile_record_checks.proofs.header.header_wrong.Goals as goal

pub returns : goal.returns
unfolding header_wrong
returns c =
    let reads = c in
    let known = c in
    rw (c.u16_at-zero.ensures, c.u16_at-version.ensures, c.u32_at-mark.ensures, high_field 3 1 c.args.s.now 0 (λ (k : ℕ). (c.type_inv.s k).fits))
