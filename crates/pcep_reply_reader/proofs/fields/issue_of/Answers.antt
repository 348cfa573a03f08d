-- `pcep_reply_reader::fields::issue_of` meets its contract: by what is known of a NO-PATH that counts.
use native.Mathlib.Omega.{arith}
use Rattle.pcep_reply_reader.proofs.fields.issue_of.Goals as goal

pub bounds-message-at : goal.bounds-message-at
bounds-message-at c = let o = c.requires.1 c.in-None-Some.is-0 _ c.in-None-Some.is-1 in omega (arith, o.long, o.inside)

pub bounds-message-at-in-None-Some : goal.bounds-message-at-in-None-Some
bounds-message-at-in-None-Some c = let o = c.requires.1 c.in-None-Some.is-0 _ c.in-None-Some.is-1 in omega (arith, o.long, o.inside)
