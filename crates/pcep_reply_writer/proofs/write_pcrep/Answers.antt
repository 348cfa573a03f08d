-- `pcep_reply_writer::write_pcrep` meets its contract: a refusal is the answer, and what passes goes on to `put_reply`.
use Prim.Native.Nat.{ℕ, ◌+◌, ◌*◌}
use mathlib.Core.Path.{◌≡◌, sym, ap, subst, ◌∙◌}
use mathlib.Core.List.{List}
use lib.ListN.{length}
use Rattle.buffers.specs.Placed.{Put}
use Rattle.pcep_reply_writer.specs.Lengths.{capped, message_length}
use Rattle.pcep_reply_writer.proofs.Routes.{same-length, same-written}
use Rattle.std.proofs.Common.{rules}
use Rattle.std.specs.Prelude.{Err}
use Rattle.pcep_model.specs.Pcrep.{apart}
use Rattle.pcep_reply_writer.specs.Writing.{reply_of, WrittenReply}
use Rattle.pcep_reply_writer.proofs.Outcomes.{fits, refused-reply, written-reply}
use Rattle.pcep_reply_writer.proofs.write_pcrep.Goals as goal
use Rattle.pcep_reply_writer.proofs.write_pcrep.Goals.{After-message_length-size}

-- the length is that of the reply that the parameters name
told : (c : After-message_length-size) → let a = c.args in c.message_length-size.result ≡ capped (message_length a.found (length a.addresses.now) (length a.kinds.now))
told c =
    let a = c.args in
    c.message_length-size.ensures ∙ ap (λ (n : ℕ). capped (16 + n + 12 * length a.kinds.now)) (same-length a.found a.addresses.now a.nature a.c _ c.route_of-route.ensures)

pub returns-in_err-reply_verdict : goal.returns-in_err-reply_verdict
returns-in_err-reply_verdict c =
    let a = c.args in
    let x = c.in_err-reply_verdict.field-0.0 in
    let out : c.from_residual.result ≡ Err x = search rules in
    subst (WrittenReply (reply_of a.id a.flags a.found a.addresses.now a.nature a.c a.kinds.now a.metric_flags.now a.values.now) (apart a.kinds.now a.metric_flags.now a.values.now) a.out.now a.out.now) (sym out)
    (refused-reply a.id a.flags a.found a.addresses.now a.nature a.c a.kinds.now a.metric_flags.now a.values.now a.out.now _ (told (goal.at.returns-in_err-reply_verdict c).After-message_length-size) _ c.reply_verdict.ensures x c.in_err-reply_verdict.was)

pub put_reply-requires : goal.put_reply-requires
put_reply-requires c =
    let a = c.args in
    let f = fits a.id a.flags a.found a.addresses.now a.nature a.c a.kinds.now a.metric_flags.now a.values.now a.out.now _ (told (goal.at.put_reply-requires c).After-message_length-size) _ c.reply_verdict.ensures c.in_ok-reply_verdict.was in
    let same = same-length a.found a.addresses.now a.nature a.c _ c.route_of-route.ensures in
    record { told = f.told ∙ ap (λ (n : ℕ). 16 + n + 12 * length a.kinds.now) (sym same); short = f.short; room = f.room; together = f.together }

pub returns : goal.returns
returns c =
    let a = c.args in
    written-reply a.id a.flags a.found a.addresses.now a.nature a.c a.kinds.now a.metric_flags.now a.values.now a.out.now _ (told (goal.at.returns c).After-message_length-size) _ c.reply_verdict.ensures c.in_ok-reply_verdict.was _ _
    (subst (λ (bytes : List ℕ). Put 0 bytes a.out.now c.put_reply.new.out c.put_reply.result) (same-written a.id a.flags a.kinds.now a.metric_flags.now a.values.now a.found a.addresses.now a.nature a.c _ c.route_of-route.ensures) c.put_reply.ensures)
